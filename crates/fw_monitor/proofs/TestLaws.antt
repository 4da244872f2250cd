-- One test of an inclusion, as the calls make it, and the descent from its start to its end.
use Rattle.std.proofs.Common.{◌≡◌, ℕ, suc, ◌+◌, ◌*◌, ◌-◌, ◌<◌, ◌≤◌, Bool, true, false, List, [], ◌∷◌, ◌++◌, length, take, drop, set, get_or, Option, Some, None, refl, sym, ap, subst, ◌∙◌, inl, inr, arith}
use Rattle.std.specs.List.{AllByRecursion}
use Rattle.std.proofs.Math.Nat.{mul-le-mul_right, suc-mul}
use Rattle.std.proofs.lemmas.Bool.{both_ways, cases_eq}
use Rattle.std.proofs.lemmas.List.{get_or-set_same, get_or-set_other, get_or_read, take_all}
use Rattle.fw_lemmas.proofs.Each.{each-weaker, each-at, each-append}
use Rattle.fw_lemmas.proofs.Lists.{split_at}
use Rattle.fw_frontier.specs.Front.{Front, IsFrontOf}
use Rattle.fw_flow.specs.declared.choice.Choice.{Choice}
use Rattle.fw_flow.specs.declared.choice.Cut.{Cut}
use Rattle.fw_flow.specs.declared.choice.Offer.{Offer}
use Rattle.fw_flow.specs.declared.trail.Lowering.{Lowering}
use Rattle.fw_flow.specs.Dataflow.{Dataflow, bounds_of}
use Rattle.fw_flow.specs.WellFormed.{IsWellFormed}
use Rattle.fw_model.specs.Machine.{front_of}
use Rattle.fw_model.specs.Choice.{cut_of}
use Rattle.fw_model.specs.Covers.{set_of}
use Rattle.fw_flow.specs.declared.side.Inclusion.{Inclusion}
use Rattle.fw_model.specs.Lowerings.{choice_of, lowering_of}
use Rattle.fw_monitor.specs.Descent.{HasConsistent, IsGreatest, weight}
use Rattle.fw_model.specs.Inclusions.{Holds, IsInclusionOf, node_of, inclusions, inclusions_to}
use Rattle.fw_monitor.specs.Worklist.{number, inclusion_count, waits, after, AreBegins, AreMadeToWait}
use Rattle.fw_monitor.specs.Trail.{IsTrail}
use Rattle.fw_monitor.specs.Tests.{IsTested, IsGoing, IsFirstWaiting, IsOneTest}
use Rattle.fw_monitor.proofs.BeginLaws.{back_to, begin_read}
use Rattle.fw_monitor.proofs.StartLaws.{start_encloses}
use Rattle.fw_monitor.proofs.TrailLaws.{going_held, going_lowered}
use Rattle.fw_model.proofs.InclusionLaws.{inclusions-there, each-inclusion, node-there}
use Rattle.fw_monitor.proofs.WorklistLaws.{number-below, cleared-rest, all_waits, count-most, count-all, count-none, each_number, take_next}
use Rattle.fw_model.specs.Offers.{covers_of}

-- ---- one test

-- what the flag that is read says
pub flag_read : (flow : Dataflow) (waiting : List Bool) (i : Inclusion) (n : ℕ) (r b : Bool) → n ≡ number flow i → IsInclusionOf flow i → length waiting ≡ inclusion_count flow → r ≡ get_or waiting n r → r ≡ b → waits flow waiting i ≡ b
flag_read flow waiting i n r b e l each is k =
    let below = number-below flow i l in
    let there : n < length waiting = omega arith in
    ap (λ x. get_or waiting x true) (sym e) ∙ sym (get_or_read waiting n r there is true) ∙ k

pub taken_held : (flow : Dataflow) (offers : List Offer) (i : Inclusion) (choice next : Choice) (trail : List Lowering) (waiting : List Bool) (steps more : ℕ) → IsInclusionOf flow i
    → length waiting ≡ inclusion_count flow → waits flow waiting i ≡ true → more ≡ steps + 1 → IsTested flow offers i choice next None
    → IsOneTest flow offers i choice next trail trail waiting (set waiting (number flow i) false) steps more None
taken_held flow offers i choice next trail waiting steps more l each w one (same, holds) =
    let below = number-below flow i l in
    let there : number flow i < length waiting = omega arith in
    record {
      going = λ before g. subst (λ c. IsGoing flow offers c trail (set waiting (number flow i) false) before more) (sym same)
          (going_held flow offers i choice trail waiting before steps more l w one holds g);
      same = λ e. same;
      taken = λ e. get_or-set_same waiting (number flow i) false true there;
      rest = λ e j k. cleared-rest flow waiting i j there k;
      fewer = λ p e. absurd (cc);
      back = λ p e. absurd (cc);
      none_before = λ p e. absurd (cc);
    }

pub taken_lowered : (flow : Dataflow) (offers : List Offer) (i : Inclusion) (choice next : Choice) (to : Cut) (l : Lowering) (trail more_trail : List Lowering) (waiting left : List Bool) (steps more p : ℕ) → IsWellFormed flow
    → IsInclusionOf flow i → IsFirstWaiting flow waiting i → waits flow waiting i ≡ true → more ≡ steps + 1 → IsTested flow offers i choice next (Some to)
    → l ≡ lowering_of flow i to → more_trail ≡ trail ++ l ∷ []
    → AreMadeToWait flow (after flow i) (set waiting (number flow i) false) left → p ≤ node_of flow i → AllByRecursion (λ j. p ≤ node_of flow j) (after flow i)
    → IsOneTest flow offers i choice next trail more_trail waiting left steps more (Some p)
taken_lowered flow offers i choice next to l trail more_trail waiting left steps more p well there n w one low told is put own each = record {
  going = λ before g. subst (λ t. IsGoing flow offers next t left before more) (sym (is ∙ ap (λ x. trail ++ x ∷ []) told))
      (going_lowered flow offers i choice next to trail waiting left before steps more well there n w one low put g);
  same = λ e. absurd (cc);
  taken = λ e. absurd (cc);
  rest = λ e. absurd (cc);
  fewer = λ q e. low.fewer;
  back = λ q e. subst (λ x. x ≤ node_of flow i) (some_is p q e) own;
  none_before = λ q e j m before none. put.none_before p each j m (subst (λ x. node_of flow j < x) (sym (some_is p q e)) before)
      (elim (cases_eq (number flow j) (number flow i)) [
        | inl s ↦ absurd (both_ways (waits flow waiting j) none (ap (λ k. get_or waiting k true) s ∙ w))
        | inr k ↦ get_or-set_other waiting (number flow i) (number flow j) false true k ∙ none
      ]);
}
  where
    some_is : (x y : ℕ) → Some x ≡ Some y → x ≡ y
    some_is x y e = cc

-- ---- the descent

-- what the descent keeps: it is going, and none of the first ones waits
pub record IsAt (flow : Dataflow) (offers : List Offer) (choice : Choice) (trail : List Lowering) (waiting : List Bool) (before steps place : ℕ) : Type 0 where
  pub going : IsGoing flow offers choice trail waiting before steps
  pub done : AllByRecursion (λ i. waits flow waiting i ≡ false) (take place (inclusions flow))
  pub within : place ≤ length (inclusions flow)

-- how much is left of it
unfoldable pub left_over : Dataflow → Choice → ℕ → ℕ
left_over flow choice place = weight flow choice * suc (length (inclusions flow)) + (length (inclusions flow) - place)

pub begun : (flow : Dataflow) (offers : List Offer) (cuts : List Cut) (notices : List Front) (waiting : List Bool) (steps : ℕ) → length cuts ≡ length flow.nodes → length notices ≡ length flow.nodes
    → ((p : ℕ) → p < length flow.nodes → IsGreatest flow offers p (cut_of (choice_of cuts []) p))
    → ((p : ℕ) → p < length flow.nodes → IsFrontOf (bounds_of flow p) (front_of notices p) (set_of flow p (cut_of (choice_of cuts []) p)))
    → length waiting ≡ inclusion_count flow → AllByRecursion (λ w. w ≡ true) waiting → IsAt flow offers (choice_of cuts notices) [] waiting steps steps 0
begun flow offers cuts notices waiting steps one each greatest kept many all =
    let most = count-most waiting in
    let every = count-all waiting all in
    record {
      going = record {
        encloses = start_encloses flow offers cuts notices one each greatest kept;
        one_each = many;
        settled = λ has i l w. absurd (both_ways (waits flow waiting i) w (all_waits waiting all (number flow i)));
        start = choice_of cuts notices;
        starts = record { one_cut_each = one; one_notice_each = each; cuts = greatest; notices = kept };
        leads = λ has. refl;
        spent = omega arith;
        tested = omega arith;
      };
      done = tt;
      within = omega arith;
    }

pub next_at : (flow : Dataflow) (waiting : List Bool) (all : List Inclusion) (place : ℕ) (i : Inclusion) → all ≡ inclusions flow → place < length all → i ≡ get_or all place i
    → AllByRecursion (λ j. waits flow waiting j ≡ false) (take place (inclusions flow)) → IsFirstWaiting flow waiting i
next_at flow waiting all place i e l is done = record {
  earlier = take place (inclusions flow);
  later = drop (place + 1) (inclusions flow);
  place = subst (λ xs. xs ≡ take place xs ++ i ∷ drop (place + 1) xs) e (split_at all place i l is);
  done = done;
}

pub there_at : (flow : Dataflow) (all : List Inclusion) (place : ℕ) (i : Inclusion) → all ≡ inclusions flow → place < length all → i ≡ get_or all place i → IsInclusionOf flow i
there_at flow all place i e l is =
    subst (IsInclusionOf flow) (sym is) (each-at (IsInclusionOf flow) all place i l (subst (AllByRecursion (IsInclusionOf flow)) (sym e) (inclusions-there flow)))

-- the node to which a lowering goes back is one of the dataflow
pub node_back : (flow : Dataflow) (offers : List Offer) (all : List Inclusion) (i : Inclusion) (old new : Choice) (trail more : List Lowering) (waiting left : List Bool) (steps next place p : ℕ) (b : Option ℕ) → b ≡ Some p
    → IsWellFormed flow → all ≡ inclusions flow → place < length all → i ≡ get_or all place i → IsOneTest flow offers i old new trail more waiting left steps next b → p < length flow.nodes
node_back flow offers all i old new trail more waiting left steps next place p b e well same l is t =
    let own = t.back p e in
    let node = node-there flow i well (there_at flow all place i same l is) in
    omega arith

pub again_at : (flow : Dataflow) (offers : List Offer) (all : List Inclusion) (begins : List ℕ) (i : Inclusion) (old new : Choice) (trail more : List Lowering) (waiting left : List Bool) (before steps next place p k q : ℕ) (b : Option ℕ) → b ≡ Some p
    → IsWellFormed flow → all ≡ inclusions flow → AreBegins flow (length flow.nodes) begins → place < length all → i ≡ get_or all place i → k ≡ p → q ≡ get_or begins k q
    → IsOneTest flow offers i old new trail more waiting left steps next b → IsAt flow offers old trail waiting before steps place → IsAt flow offers new more left before next q
again_at flow offers all begins i old new trail more waiting left before steps next place p k q b e well same beginning l is place_is read t a =
    let m = ap length same in
    let node = node_back flow offers all i old new trail more waiting left steps next place p b e well same l is t in
    let at : q ≡ length (inclusions_to flow p) = begin_read flow begins p k q beginning (omega arith) place_is read in
    let back = back_to flow waiting left i place p (omega arith) (omega arith) (subst (λ xs. i ≡ get_or xs place i) same is) (t.back p e) (t.none_before p e) a.done in
    record {
      going = t.going before a.going;
      done = subst (λ n. AllByRecursion (λ j. waits flow left j ≡ false) (take n (inclusions flow))) (sym at) back.1;
      within = let n = back.0 in omega arith;
    }

pub further_at : (flow : Dataflow) (offers : List Offer) (all : List Inclusion) (i : Inclusion) (old new : Choice) (trail more : List Lowering) (waiting left : List Bool) (before steps next place : ℕ) (b : Option ℕ) → b ≡ None
    → all ≡ inclusions flow → place < length all → i ≡ get_or all place i
    → IsOneTest flow offers i old new trail more waiting left steps next b → IsAt flow offers old trail waiting before steps place → IsAt flow offers new more left before next (place + 1)
further_at flow offers all i old new trail more waiting left before steps next place b e same l is t a =
    let m = ap length same in
    let next_is : take (place + 1) (inclusions flow) ≡ take place (inclusions flow) ++ i ∷ [] = subst (λ xs. take (place + 1) xs ≡ take place xs ++ i ∷ []) same (take_next all place i l is) in
    record {
      going = t.going before a.going;
      done = subst (AllByRecursion (λ j. waits flow left j ≡ false)) (sym next_is)
          (each-append (λ j. waits flow left j ≡ false) (take place (inclusions flow)) (i ∷ [])
          (each-weaker (λ j. waits flow waiting j ≡ false) (λ j. waits flow left j ≡ false) (take place (inclusions flow)) (t.rest e) a.done) (t.taken e, tt));
      within = omega arith;
    }

pub again_falls : (flow : Dataflow) (offers : List Offer) (i : Inclusion) (old new : Choice) (trail more : List Lowering) (waiting left : List Bool) (steps next place p q : ℕ) (b : Option ℕ) → b ≡ Some p
    → IsOneTest flow offers i old new trail more waiting left steps next b → left_over flow new q < left_over flow old place
unfolding left_over
again_falls flow offers i old new trail more waiting left steps next place p q b e t =
    let k = t.fewer p e in
    let n = length (inclusions flow) in
    let l : suc (weight flow new) ≤ weight flow old = omega arith in
    let m = mul-le-mul_right (suc n) l in
    let s = suc-mul (weight flow new) (suc n) in
    omega arith

pub further_falls : (flow : Dataflow) (offers : List Offer) (all : List Inclusion) (i : Inclusion) (old new : Choice) (trail more : List Lowering) (waiting left : List Bool) (steps next place : ℕ) (b : Option ℕ) → b ≡ None
    → all ≡ inclusions flow → place < length all
    → IsOneTest flow offers i old new trail more waiting left steps next b → left_over flow new (place + 1) < left_over flow old place
unfolding left_over
further_falls flow offers all i old new trail more waiting left steps next place b e same l t =
    let m = ap length same in
    let k = ap (λ c. weight flow c * suc (length (inclusions flow))) (t.same e) in
    omega arith

-- at the end each inclusion holds
pub each_holds : (flow : Dataflow) (offers : List Offer) (choice : Choice) (trail : List Lowering) (waiting : List Bool) (before steps place : ℕ) → IsWellFormed flow
    → IsAt flow offers choice trail waiting before steps place → length (inclusions flow) ≤ place → HasConsistent flow offers → (i : Inclusion) → IsInclusionOf flow i → Holds flow (covers_of flow offers) choice i
each_holds flow offers choice trail waiting before steps place well a l has i m =
    let none = subst (AllByRecursion (λ j. waits flow waiting j ≡ false)) (take_all place (inclusions flow) l) a.done in
    a.going.settled has i m (each-inclusion flow (λ j. waits flow waiting j ≡ false) well none i m)

pub trail_ends : (flow : Dataflow) (offers : List Offer) (choice : Choice) (trail : List Lowering) (waiting : List Bool) (before steps place : ℕ) → IsWellFormed flow
    → IsAt flow offers choice trail waiting before steps place → length (inclusions flow) ≤ place → HasConsistent flow offers → IsTrail flow offers trail choice
trail_ends flow offers choice trail waiting before steps place well a l has = record {
  start = a.going.start;
  starts = a.going.starts;
  leads = a.going.leads has;
  ends = each-weaker (IsInclusionOf flow) (Holds flow (covers_of flow offers) choice) (inclusions flow) (each_holds flow offers choice trail waiting before steps place well a l has) (inclusions-there flow);
}

-- at the end each inclusion was tested
pub each_tested : (flow : Dataflow) (offers : List Offer) (choice : Choice) (trail : List Lowering) (waiting : List Bool) (before steps place : ℕ) → IsWellFormed flow
    → IsAt flow offers choice trail waiting before steps place → length (inclusions flow) ≤ place → before + inclusion_count flow ≤ steps
each_tested flow offers choice trail waiting before steps place well a l =
    let done = subst (AllByRecursion (λ j. waits flow waiting j ≡ false)) (take_all place (inclusions flow) l) a.done in
    let tested = a.going.tested in
    let one = a.going.one_each in
    let none = count-none waiting (λ n m. each_number flow (λ k. get_or waiting k true ≡ false) (each-inclusion flow (λ j. waits flow waiting j ≡ false) well done) n (omega arith)) in
    omega arith
