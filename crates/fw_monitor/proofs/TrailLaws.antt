-- What one test of a descent keeps: what does not wait holds, and the trail leads to the choice.
use Rattle.std.proofs.Common.{◌≡◌, ℕ, ◌+◌, ◌*◌, ◌<◌, Bool, true, false, ◌||◌, ◌==◌, List, [], ◌∷◌, ◌++◌, length, set, refl, sym, ap, subst, ◌∙◌, inl, inr, arith}
use Rattle.std.specs.List.{AllByRecursion}
use Rattle.std.proofs.lemmas.Bool.{eqb-false, eq-eqb, both_ways, cases_Bool}
use Rattle.std.proofs.lemmas.List.{get_or-set_same, get_or-set_other, length-set}
use Rattle.fw_lemmas.proofs.Each.{each-weaker, each-both, each-prefix}
use Rattle.fw_frontier.specs.Front.{frontier_of}
use Rattle.fw_flow.specs.declared.choice.Choice.{Choice}
use Rattle.fw_flow.specs.declared.choice.Cut.{Cut}
use Rattle.fw_flow.specs.declared.choice.Cut.TheVariants.{Present, At}
use Rattle.fw_flow.specs.declared.choice.Offer.{Offer}
use Rattle.fw_flow.specs.declared.trail.Lowering.{Lowering}
use Rattle.fw_flow.specs.Dataflow.{Dataflow, sender, receiver, bounds_of}
use Rattle.fw_flow.specs.WellFormed.{IsWellFormed}
use Rattle.fw_model.specs.Machine.{front_of}
use Rattle.fw_model.specs.Offers.{arrived_from, IsOffered, covers_of}
use Rattle.fw_flow.specs.declared.side.Side.{Side}
use Rattle.fw_flow.specs.declared.side.Side.TheVariants.{Delivered, Discarded, Notified}
use Rattle.fw_flow.specs.declared.side.Limit.TheVariants.{Own, Note}
use Rattle.fw_flow.specs.declared.side.Inclusion.{Inclusion}
use Rattle.fw_flow.specs.declared.side.Inclusion.TheVariants.{OfCut, OfNote}
use Rattle.fw_model.specs.Inclusions.{owner, Holds, IsInclusionOf, note_node, node_of}
use Rattle.fw_monitor.specs.Descent.{HasConsistent}
use Rattle.fw_monitor.specs.Worklist.{may_break, number, waits, after, AreMadeToWait}
use Rattle.fw_model.specs.Lowerings.{IsFirstFailing, IsValueLeft, with_value, lowering_of, IsLoweredBy, Leads}
use Rattle.fw_monitor.specs.Trail.{tests_after, degree}
use Rattle.fw_monitor.specs.Tests.{IsLowering, IsGoing, IsFirstWaiting}
use Rattle.fw_monitor.proofs.BreakLaws.{cut_spares, note_spares}
use Rattle.fw_model.proofs.InclusionLaws.{inclusions-there, node-there}
use Rattle.fw_monitor.proofs.WorklistLaws.{number-below, count-cleared, cleared-other, after-each, after-most}

-- ---- lists that lead to a choice

pub leads_more : (flow : Dataflow) (offers : List Offer) (start choice next : Choice) (trail : List Lowering) (l : Lowering) → Leads flow (covers_of flow offers) (IsOffered flow offers) start trail choice
    → IsLoweredBy flow (covers_of flow offers) (IsOffered flow offers) choice l next → Leads flow (covers_of flow offers) (IsOffered flow offers) start (trail ++ l ∷ []) next
leads_more flow offers start choice next [] l same low = subst (λ c. Leads flow (covers_of flow offers) (IsOffered flow offers) c (l ∷ []) next) (sym same) (next, low, refl)
leads_more flow offers start choice next (m ∷ trail) l (mid, step, rest) low = (mid, step, leads_more flow offers mid choice next trail l rest low)

tests_after-more : (flow : Dataflow) (trail : List Lowering) (l : Lowering) → tests_after flow (trail ++ l ∷ []) ≡ tests_after flow trail + (2 + 3 * degree flow l.node)
tests_after-more flow [] l = omega arith
tests_after-more flow (m ∷ trail) l = let h = tests_after-more flow trail l in omega arith

-- ---- what a lowering leaves

-- what it does not break holds as before
pub spared : (flow : Dataflow) (offers : List Offer) (choice : Choice) (i j : Inclusion) (to : Cut) → node_of flow i < length choice.notices → IsValueLeft flow (covers_of flow offers) (IsOffered flow offers) choice i to
    → may_break flow i j ≡ false → Holds flow (covers_of flow offers) choice j → Holds flow (covers_of flow offers) (with_value flow choice i to) j
spared flow offers choice (OfCut side) j to l left k h = cut_spares flow offers choice (owner flow side) to j k h
spared flow offers choice (OfNote limit) j Present l left k h = absurd left
spared flow offers choice (OfNote limit) j (At f) l left k h = note_spares flow offers choice (note_node flow limit) f j l left.within k h

own_broken : (flow : Dataflow) (side : Side) → may_break flow (OfCut side) (OfCut side) ≡ true
own_broken flow (Delivered d) = ap (λ b. b || sender flow d == receiver flow d) (eq-eqb (receiver flow d) (receiver flow d) refl)
own_broken flow (Discarded e) = ap (λ b. b || receiver flow e == sender flow e) (eq-eqb (sender flow e) (sender flow e) refl)
own_broken flow (Notified p) = eq-eqb p p refl

-- the inclusion that it is by holds, if it cannot break it
mended : (flow : Dataflow) (offers : List Offer) (choice : Choice) (i : Inclusion) (to : Cut) → node_of flow i < length choice.notices → IsValueLeft flow (covers_of flow offers) (IsOffered flow offers) choice i to
    → may_break flow i i ≡ false → Holds flow (covers_of flow offers) (with_value flow choice i to) i
mended flow offers choice (OfCut side) to l left k = absurd (both_ways (may_break flow (OfCut side) (OfCut side)) k (own_broken flow side))
mended flow offers choice (OfNote (Own p)) Present l left k = absurd left
mended flow offers choice (OfNote (Own p)) (At f) l left k = λ t i.
    left.meets t (sym (ap (λ g. frontier_of (bounds_of flow p) g t) (get_or-set_same choice.notices p f [] l)) ∙ i)
mended flow offers choice (OfNote (Note d)) Present l left k = absurd left
mended flow offers choice (OfNote (Note d)) (At f) l left k = λ t i.
    let p = receiver flow d in
    let old : front_of (set choice.notices p f) (sender flow d) ≡ front_of choice.notices (sender flow d) = get_or-set_other choice.notices p (sender flow d) f [] (eqb-false (sender flow d) p k) in
    ap (λ g. arrived_from flow offers d (frontier_of (bounds_of flow (sender flow d)) g) t) old
    ∙ left.meets t (sym (ap (λ g. frontier_of (bounds_of flow p) g t) (get_or-set_same choice.notices p f [] l)) ∙ i)

-- the first that waits is the first that fails, if it does
first_failing : (flow : Dataflow) (offers : List Offer) (choice : Choice) (waiting : List Bool) (i : Inclusion) → IsFirstWaiting flow waiting i → (Holds flow (covers_of flow offers) choice i → ⊥)
    → ((j : Inclusion) → IsInclusionOf flow j → waits flow waiting j ≡ false → Holds flow (covers_of flow offers) choice j) → IsFirstFailing flow (covers_of flow offers) choice i
first_failing flow offers choice waiting i n fails settled =
    let there = each-prefix (IsInclusionOf flow) n.earlier (i ∷ n.later) (subst (AllByRecursion (IsInclusionOf flow)) n.place (inclusions-there flow)) in
    record {
      fails = fails;
      earlier = n.earlier;
      later = n.later;
      place = n.place;
      hold = each-weaker (λ j. IsInclusionOf flow j × (waits flow waiting j ≡ false)) (Holds flow (covers_of flow offers) choice) n.earlier (λ j k. settled j k.0 k.1)
          (each-both (IsInclusionOf flow) (λ j. waits flow waiting j ≡ false) n.earlier there n.done);
    }

pub going_lowered : (flow : Dataflow) (offers : List Offer) (i : Inclusion) (choice next : Choice) (to : Cut) (trail : List Lowering) (waiting left : List Bool) (before steps more : ℕ)
    → IsWellFormed flow → IsInclusionOf flow i → IsFirstWaiting flow waiting i → waits flow waiting i ≡ true → more ≡ steps + 1 → IsLowering flow offers i choice next to
    → AreMadeToWait flow (after flow i) (set waiting (number flow i) false) left
    → IsGoing flow offers choice trail waiting before steps → IsGoing flow offers next (trail ++ lowering_of flow i to ∷ []) left before more
going_lowered flow offers i choice next to trail waiting left before steps more well l n w one low put g =
    let at = node-there flow i well l in
    let each = g.encloses.one_notice_each in
    let here : node_of flow i < length choice.notices = omega arith in
    let one_flag = g.one_each in
    let below = number-below flow i l in
    let cleared = count-cleared waiting (number flow i) (omega arith) w in
    let spent = g.spent in
    let tested = g.tested in
    let few = put.few in
    let none_out = put.none_out in
    let many = after-most flow i in
    let asked = tests_after-more flow trail (lowering_of flow i to) in
    let flags = set waiting (number flow i) false in
    let held : HasConsistent flow offers → (j : Inclusion) → IsInclusionOf flow j → waits flow left j ≡ false → Holds flow (covers_of flow offers) (with_value flow choice i to) j =
    λ has j m k. elim (cases_Bool (may_break flow i j)) [
      | inl b ↦ absurd (both_ways (waits flow left j) k (after-each (λ x. waits flow left x ≡ true) flow i j m put.wait b))
      | inr b ↦ elim (cases_Bool (waits flow flags j)) [
        | inl t ↦ absurd (both_ways (waits flow left j) k (put.still j t))
        | inr f ↦ elim (cleared-other flow waiting i j l m f) [
          | inl s ↦ subst (Holds flow (covers_of flow offers) (with_value flow choice i to)) (sym s) (mended flow offers choice i to here (low.greatest has).left (subst (λ x. may_break flow i x ≡ false) s b))
          | inr f ↦ spared flow offers choice i j to here (low.greatest has).left b (g.settled has j m f)
        ]
      ]
    ] in
    record {
      encloses = low.encloses;
      one_each = put.one_each ∙ length-set waiting (number flow i) false ∙ g.one_each;
      settled = λ has j m k. subst (λ c. Holds flow (covers_of flow offers) c j) (sym low.with_it) (held has j m k);
      start = g.start;
      starts = g.starts;
      leads = λ has. leads_more flow offers g.start choice next trail (lowering_of flow i to) (g.leads has) (record {
        inclusion = i;
        first = first_failing flow offers choice waiting i n low.fails (g.settled has);
        told = refl;
        greatest = low.greatest has;
        with_it = low.with_it;
      });
      spent = omega arith;
      tested = omega arith;
    }

pub going_held : (flow : Dataflow) (offers : List Offer) (i : Inclusion) (choice : Choice) (trail : List Lowering) (waiting : List Bool) (before steps more : ℕ)
    → IsInclusionOf flow i → waits flow waiting i ≡ true → more ≡ steps + 1 → (HasConsistent flow offers → Holds flow (covers_of flow offers) choice i)
    → IsGoing flow offers choice trail waiting before steps → IsGoing flow offers choice trail (set waiting (number flow i) false) before more
going_held flow offers i choice trail waiting before steps more l w one holds g =
    let one_flag = g.one_each in
    let below = number-below flow i l in
    let cleared = count-cleared waiting (number flow i) (omega arith) w in
    let spent = g.spent in
    let tested = g.tested in
    record {
      encloses = g.encloses;
      one_each = length-set waiting (number flow i) false ∙ g.one_each;
      settled = λ has j m k. elim (cleared-other flow waiting i j l m k) [
        | inl s ↦ subst (Holds flow (covers_of flow offers) choice) (sym s) (holds has)
        | inr f ↦ g.settled has j m f
      ];
      start = g.start;
      starts = g.starts;
      leads = g.leads;
      spent = omega arith;
      tested = omega arith;
    }
