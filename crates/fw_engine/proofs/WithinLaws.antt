-- The first step that is enabled, where no input injects more batches than these.
use Rattle.std.proofs.Common.{◌≡◌, ◌⊎◌, ℕ, zero, suc, ◌+◌, ◌<◌, ◌≤◌, Bool, true, false, nat_lt, List, [], ◌∷◌, ◌++◌, map, filter, length, get_or, Result, Ok, Err, IsErrOf, Option, Some, None, IfOk, refl, sym, ap, subst, ◌∙◌, inl, inr, append_assoc, arith}
use Rattle.std.specs.List.{range_with_len, AllByRecursion}
use Rattle.std.proofs.lemmas.Bool.{cases_Bool, cases_eq, lt-ltb, ltb-true}
use Rattle.fw_lemmas.proofs.Each.{each-filter, each-map, each-prefix, each-suffix}
use Rattle.fw_lemmas.proofs.Filters.{filter-in, filter-out}
use Rattle.fw_flow.specs.declared.step.Step.{Step}
use Rattle.fw_flow.specs.declared.step.Step.TheVariants.{Inject, Progress, Persist, Ack}
use Rattle.fw_flow.specs.Dataflow.{Dataflow, System, kind_of, is_input_kind}
use Rattle.fw_flow.specs.WellFormed.{IsWellFormedSystem}
use Rattle.fw_model.specs.Reached.{IsReached}
use Rattle.fw_model.specs.Auto.{deliveries, notifications, acknowledgements, injections, auto_steps, IsIdle, AreIdle, IsFirstEnabled, TakesFirst}
use Rattle.fw_model.specs.History.{injected_count}
use Rattle.fw_model.specs.Machine.{Machine, events, is_failed}
use Rattle.fw_model.specs.Steps.{Effect, Outcome, did, idle, LeadsTo}
use Rattle.fw_model.proofs.AutoLaws.{idle-append}
use Rattle.fw_keep.specs.Catalogue.{AreAscending, ids_of}
use Rattle.fw_keep.specs.Stored.{Records, IsStored}
use Rattle.fw_outside.specs.Outside.{StoreView}
use Rattle.fw_border.specs.Sources.{next_batch}
use Rattle.fw_stands.specs.FirstSteps.{delivery, notification, AreIdleBelow, NoneToAcknowledge}
use Rattle.fw_stands.proofs.FirstStepLaws.{first-before, first-behind, group-idle}
use Rattle.fw_stands.proofs.TakingLaws.{enabled_steps-taken}
use Rattle.fw_running.specs.declared.fault.EngineFault.{EngineFault}
use Rattle.fw_running.specs.declared.fault.EngineFault.TheVariants as fault
use Rattle.fw_running.specs.declared.running.Running.{Running}
use Rattle.fw_running.specs.declared.stepped.Effect.{Effect as Shown}
use Rattle.fw_running.specs.declared.stepped.Stepped.{Stepped}
use Rattle.fw_running.specs.declared.stepped.Stepped.TheVariants.{Did, Idle}
use Rattle.fw_running.specs.Faults.{is_refusal}
use Rattle.fw_running.specs.Fed.{injections_within, auto_steps_within, FollowsFirstWithin}
use Rattle.fw_running.specs.Kept.{source_of}
use Rattle.fw_running.specs.Places.{IsFirstWhere}
use Rattle.fw_running.specs.Stands.{Stands}
use Rattle.fw_running.specs.Steps.{IsUndamaged, MayCallByItself, PartAnswers, TakesStep, outcome_of}
use Rattle.fw_running.proofs.AnswerLaws.{no_damage, refused-after}
use Rattle.fw_running.proofs.SameStateLaws.{down-failed}
use Rattle.fw_engine.specs.declared.engine.Engine.{Engine}
use Rattle.fw_engine.specs.Engine.{keep_of, was_refused, StepDraws, WithinAnswers}
use Rattle.fw_engine.specs.Right.{IsRightIn}
use Rattle.fw_engine.specs.Searching.{AnswersWithin, CanInjectWithin, InjectsWithin, IsAny, TakesFirstAfter, TakesFirstWithin}
use Rattle.fw_engine.proofs.DrawnLaws.{draws-none}
use Rattle.fw_engine.proofs.RightLaws.{first-right}
use Rattle.fw_engine.proofs.TakenFirstLaws.{injected, no_injection}

-- ---- what comes before the injections

-- the steps before the injections
abbrev earlier_steps : Dataflow → List Step
earlier_steps flow = Persist ∷ (deliveries flow ++ (notifications flow ++ (Progress ∷ acknowledgements flow)))

-- the injections stand behind them
split-steps : (flow : Dataflow) (last : List Step)
    → earlier_steps flow ++ last ≡ Persist ∷ (deliveries flow ++ (notifications flow ++ (Progress ∷ (acknowledgements flow ++ last))))
split-steps flow last =
    let acks = Progress ∷ acknowledgements flow in
    ap (λ steps. Persist ∷ steps) (append_assoc (deliveries flow) (notifications flow ++ acks) last
    ∙ ap (λ steps. deliveries flow ++ steps) (append_assoc (notifications flow) acks last))

heads : {A : Type 0} (x y : A) (xs ys : List A) → x ∷ xs ≡ y ∷ ys → x ≡ y
heads x y xs ys e = cc

tails : {A : Type 0} (x y : A) (xs ys : List A) → x ∷ xs ≡ y ∷ ys → xs ≡ ys
tails x y xs ys e = cc

-- in one list that is put together in two ways, an element is in the first part, or that is before it
parted : {A : Type 0} (front bs xs : List A) (y : A) (ys : List A) → front ++ bs ≡ xs ++ y ∷ ys
    → ((zs : List A) × (front ≡ xs ++ y ∷ zs)) ⊎ ((zs : List A) × (xs ≡ front ++ zs))
parted [] bs xs y ys e = inr (xs, refl)
parted (a ∷ front) bs [] y ys e = inl (front, ap (λ z. z ∷ front) (heads a y (front ++ bs) ys e))
parted (a ∷ front) bs (x ∷ xs) y ys e = elim (parted front bs xs y ys (tails a x (front ++ bs) (xs ++ y ∷ ys) e)) [
  | inl k ↦ inl (k.0, ap (λ z. z ∷ front) (heads a x (front ++ bs) (xs ++ y ∷ ys) e) ∙ ap (λ zs. x ∷ zs) k.1)
  | inr k ↦ inr (k.0, ap (λ z. z ∷ xs) (sym (heads a x (front ++ bs) (xs ++ y ∷ ys) e)) ∙ ap (λ zs. a ∷ zs) k.1)
]

-- each step of a group is idle where the group is
idle-each : (sys : System) (state : Machine) (step : ℕ → Step) (a n : ℕ) → AreIdle sys state (map step (range_with_len a n))
    → (i : ℕ) → a ≤ i → i < a + n → IsIdle sys state (step i)
idle-each sys state step a zero k i l m = absurd (omega arith)
idle-each sys state step a (suc n) k i l m = elim (cases_eq i a) [
  | inl e ↦ subst (λ j. IsIdle sys state (step j)) (sym e) k.0
  | inr d ↦ idle-each sys state step (a + 1) n k.1 i (omega (arith, l, d)) (omega arith)
]

idle-below : (sys : System) (state : Machine) (step : ℕ → Step) (n : ℕ) → AreIdle sys state (map step (range_with_len 0 n)) → AreIdleBelow sys state step n
idle-below sys state step n k i l = idle-each sys state step 0 n k i (omega arith) (omega arith)

-- where these steps are idle, nothing comes before the injections
none-earlier : (sys : System) (state : Machine) → AreIdle sys state (earlier_steps sys.flow) → NoneToAcknowledge sys state
none-earlier sys state k =
    let P = IsIdle sys state in
    let flow = sys.flow in
    let acks = Progress ∷ acknowledgements flow in
    let edges = each-prefix P (deliveries flow) (notifications flow ++ acks) k.1 in
    let later = each-suffix P (deliveries flow) (notifications flow ++ acks) k.1 in
    let nodes = each-prefix P (notifications flow) acks later in
    let last = each-suffix P (notifications flow) acks later in
    record {
      earlier = record {
        earlier = record {
          earlier = record { writes = k.0; edges = idle-below sys state delivery (length flow.edges) edges };
          nodes = idle-below sys state notification (length flow.nodes) nodes;
        };
        progress = last.0;
      };
      outputs = idle-below sys state Ack (length flow.nodes) last.1;
    }

all-idle : (sys : System) (state : Machine) (step : ℕ → Step) (n : ℕ) → AreIdleBelow sys state step n → AreIdle sys state (map step (range_with_len 0 n))
all-idle sys state step n k = group-idle sys state step 0 n (λ i l m. k i (omega arith))

-- and the other way round
earlier-none : (sys : System) (state : Machine) → NoneToAcknowledge sys state → AreIdle sys state (earlier_steps sys.flow)
earlier-none sys state n =
    let flow = sys.flow in
    let notify = n.earlier.earlier in
    let deliver = notify.earlier in
    let last : AreIdle sys state (Progress ∷ acknowledgements flow) = (n.earlier.progress, all-idle sys state Ack (length flow.nodes) n.outputs) in
    let later : AreIdle sys state (notifications flow ++ (Progress ∷ acknowledgements flow)) = idle-append sys state (notifications flow) (Progress ∷ acknowledgements flow) (all-idle sys state notification (length flow.nodes) notify.nodes) last in (
      deliver.writes,
      idle-append sys state (deliveries flow) (notifications flow ++ (Progress ∷ acknowledgements flow)) (all-idle sys state delivery (length flow.edges) deliver.edges) later,
    )

-- a step that comes before the injections is the first also where fewer inject
within-did : (sys : System) (state : Machine) (came : ℕ → ℕ) (next : Machine) (effect : Effect) → (NoneToAcknowledge sys state → ⊥)
    → TakesFirst sys state (auto_steps sys.flow) next (did effect) → TakesFirst sys state (auto_steps_within sys.flow came state) next (did effect)
within-did sys state came next effect some t =
    let step = t.0 in
    let f = t.1 in
    let flow = sys.flow in
    let last = injections_within flow came state in
    elim (parted (earlier_steps flow) (injections flow) f.earlier step f.later (split-steps flow (injections flow) ∙ f.among)) [
      | inl k ↦ (
        step,
        subst (λ steps. IsFirstEnabled sys state steps step next effect) (split-steps flow last)
            (first-before sys state (earlier_steps flow) last step next effect
            (record { earlier = f.earlier; later = k.0; among = k.1; none_earlier = f.none_earlier; leads = f.leads })),
      )
      | inr k ↦ absurd (some (none-earlier sys state (each-prefix (IsIdle sys state) (earlier_steps flow) k.0
          (subst (AreIdle sys state) k.1 f.none_earlier))))
    ]

-- ---- injections

-- whether a node injected fewer batches than these
is_few : (ℕ → ℕ) → Machine → ℕ → Bool
is_few came state s = nat_lt (injected_count s (events state.history)) (came s)

ranged : (P : ℕ → Type 0) (a n : ℕ) → ((i : ℕ) → a ≤ i → i < a + n → P i) → AllByRecursion P (range_with_len a n)
ranged P a zero k = tt
ranged P a (suc n) k = (k a (omega arith) (omega arith), ranged P (a + 1) n (λ i l m. k i (omega arith) (omega arith)))

few-idle : (sys : System) (state : Machine) (test : ℕ → Bool) (n : ℕ) → ((i : ℕ) → i < n → test i ≡ true → IsIdle sys state (Inject i))
    → AreIdle sys state (map Inject (filter test (range_with_len 0 n)))
few-idle sys state test n k =
    each-map (IsIdle sys state) Inject (filter test (range_with_len 0 n))
    (each-filter (λ i. IsIdle sys state (Inject i)) test (range_with_len 0 n)
    (ranged (λ i. test i ≡ true → IsIdle sys state (Inject i)) 0 n (λ i l m. k i (omega arith))))

-- the injection of the first node that passes a test is the first of theirs
few-first : (sys : System) (state : Machine) (test : ℕ → Bool) (a n j : ℕ) → a ≤ j → j < a + n → test j ≡ true
    → ((i : ℕ) → a ≤ i → i < j → test i ≡ true → IsIdle sys state (Inject i)) → (next : Machine) (effect : Effect) → LeadsTo sys state (Inject j) next effect
    → IsFirstEnabled sys state (map Inject (filter test (range_with_len a n))) (Inject j) next effect
few-first sys state test a zero j l m is k next effect t = absurd (omega arith)
few-first sys state test a (suc n) j l m is k next effect t =
    let rest = range_with_len (a + 1) n in
    let Goal = λ (nodes : List ℕ). IsFirstEnabled sys state (map Inject nodes) (Inject j) next effect in
    elim (cases_eq j a) [
      | inl e ↦ subst Goal (sym (filter-in test a rest (ap test (sym e) ∙ is))) (record {
        earlier = [];
        later = map Inject (filter test rest);
        among = ap (λ i. Inject i ∷ map Inject (filter test rest)) (sym e);
        none_earlier = tt;
        leads = t;
      })
      | inr d ↦
          let later = few-first sys state test (a + 1) n j (omega (arith, l, d)) (omega arith) is (λ i p q. k i (omega arith) q) next effect t in
          elim (cases_Bool (test a)) [
            | inl e ↦ subst Goal (sym (filter-in test a rest e))
                (first-behind sys state (Inject a ∷ []) (map Inject (filter test rest)) (Inject j) next effect (k a (omega arith) (omega (arith, l, d)) e, tt) later)
            | inr e ↦ subst Goal (sym (filter-out test a rest e)) later
          ]
    ]

-- an input that may not inject within these is idle, if it injected fewer
no_injection-within : (sys : System) (running : Running) (records : Option Records) (state : Machine) (came : List ℕ) → Stands sys running records state
    → (i : ℕ) → i < length sys.flow.nodes → (CanInjectWithin came running i → ⊥) → is_few (λ s. get_or came s 0) state i ≡ true → IsIdle sys state (Inject i)
unfolding is_few
no_injection-within sys running records state came s i l none few =
    no_injection sys running records state s i l (λ can.
    let below = ltb-true (injected_count i (events state.history)) (get_or came i 0) few in
    let is = (s.apart.sources i l).injected in
    none (can, omega (arith, below, is)))

-- the first of the steps is the injection, where nothing comes before it
first-injection : (sys : System) (state : Machine) (came : ℕ → ℕ) (step : Step) (next : Machine) (effect : Effect) → NoneToAcknowledge sys state
    → IsFirstEnabled sys state (injections_within sys.flow came state) step next effect
    → IsFirstEnabled sys state (auto_steps_within sys.flow came state) step next effect
first-injection sys state came step next effect none f =
    subst (λ steps. IsFirstEnabled sys state steps step next effect) (split-steps sys.flow (injections_within sys.flow came state))
    (first-behind sys state (earlier_steps sys.flow) (injections_within sys.flow came state) step next effect (earlier-none sys state none) f)

pub inject-within : (old new : Running) (records : Option Records) (came : List ℕ) (p : ℕ) (result : Result Stepped EngineFault)
    → IsFirstWhere (CanInjectWithin came old) (Some p) → IsUndamaged result → (IsErrOf result fault.StoreFault → ⊥)
    → TakesStep old records (Inject p) result new records → InjectsWithin came old records result new records
unfolding is_few
inject-within old new records came p (Ok stepped) first sound unfaulted t = λ sys state s none.
    let can = first.0.0 in
    let counts = λ (q : ℕ). get_or came q 0 in
    let l : p < length sys.flow.nodes = subst (λ (flow : Dataflow). p < length flow.nodes) s.apart.flow can.there in
    let input : is_input_kind (kind_of sys.flow p) ≡ true = ap (λ (flow : Dataflow). is_input_kind (kind_of flow p)) (sym s.apart.flow) ∙ can.input in
    let live : is_failed state p ≡ false = sym (down-failed sys old records state s p) ∙ can.live in
    let d = injected sys old records state s p l input live (next_batch (source_of old p)) refl can.some in
    let is = (s.apart.sources p l).injected in
    let under = first.0.1 in
    let few : is_few counts state p ≡ true = lt-ltb (injected_count p (events state.history)) (get_or came p 0) (omega (arith, is, under)) in
    let f = t sys state s tt in
    let shows = enabled_steps-taken sys state f.next (Inject p) (outcome_of stepped) f.steps d.0 d.1 d.2 in
    let steps = auto_steps_within sys.flow counts state in
    record {
      next = f.next;
      takes = subst (λ (o : Outcome). TakesFirst sys state steps f.next o) (sym shows.1) (
        Inject p,
        first-injection sys state counts (Inject p) f.next shows.0 none
            (few-first sys state (is_few counts state) 0 (length sys.flow.nodes) p (omega arith) (omega (arith, l)) few
            (λ i low below is. no_injection-within sys old records state came s i (omega (arith, below, l)) (first.1 i below) is) f.next shows.0 shows.2),
      );
      stands = f.stands;
    }
inject-within old new records came p (Err fault.StoreFault) first sound unfaulted t = absurd (unfaulted refl)
inject-within old new records came p (Err (fault.Damaged id)) first sound unfaulted t = absurd sound
inject-within old new records came p (Err fault.NoMemory) first sound unfaulted t = λ sys state s none. tt

pub nothing-within : (old : Running) (records : Option Records) (came : List ℕ) → IsFirstWhere (CanInjectWithin came old) None
    → InjectsWithin came old records (Ok Idle) old records
unfolding is_few
nothing-within old records came first = λ sys state s none.
    let counts = λ (q : ℕ). get_or came q 0 in
    let last = injections_within sys.flow counts state in
    record {
      next = state;
      takes = (
        subst (AreIdle sys state) (split-steps sys.flow last) (idle-append sys state (earlier_steps sys.flow) last (earlier-none sys state none)
            (few-idle sys state (is_few counts state) (length sys.flow.nodes)
            (λ i l is. no_injection-within sys old records state came s i l (first i) is))),
        refl,
      );
      stands = s;
    }

-- ---- after what comes before the injections

pub within-earlier : (old new : Running) (before after : Option Records) (came : List ℕ) (shown : Shown) → TakesFirstAfter IsAny old before (Ok (Did shown)) new after
    → TakesFirstWithin came old before (Ok (Did shown)) new after
within-earlier old new before after came shown t = λ sys state s.
    let a = t sys state s tt in
    let f = a.1 in
    record { next = f.next; takes = within-did sys state (λ q. get_or came q 0) f.next _ a.0 f.takes; stands = f.stands }

pub within-err : (old new : Running) (before after : Option Records) (came : List ℕ) (e : EngineFault) → TakesFirstAfter IsAny old before (Err e) new after
    → TakesFirstWithin came old before (Err e) new after
within-err old new before after came fault.StoreFault t = λ sys state s. t sys state s tt
within-err old new before after came (fault.Damaged id) t = λ sys state s. t sys state s tt
within-err old new before after came fault.NoMemory t = λ sys state s. tt

-- what was taken before the injections, or refused
pub within-some : (old new : Running) (before after : Option Records) (came : List ℕ) (result : Result Stepped EngineFault) → (result ≡ Ok Idle → ⊥)
    → TakesFirstAfter IsAny old before result new after → TakesFirstWithin came old before result new after
within-some old new before after came (Ok (Did shown)) some t = within-earlier old new before after came shown t
within-some old new before after came (Ok Idle) some t = absurd (some refl)
within-some old new before after came (Err e) some t = within-err old new before after came e t

-- ---- what an engine answers

pub within-answered : {K : Type 0} {view : K → StoreView} {old new : Engine} {before after : K} {result : Result Stepped EngineFault} (came : List ℕ)
    → was_refused old ≡ false → AreAscending (ids_of (keep_of new).entries) → was_refused new ≡ is_refusal result
    → TakesFirstWithin came old.running (view before).records result new.running (view after).records
    → PartAnswers view (MayCallByItself old.running.flow) old.running before result new.running after → (result ≡ Ok Idle → after ≡ before)
    → StepDraws old.running (view before).records result new.running (view after).records
    → WithinAnswers view old before (λ s. get_or came s 0) result new after
within-answered {K} {view} {old} {new} {before} {after} {result} came live ascending told takes part still draws =
    let records = (view before).records in
    let left_over = (view after).records in
    record {
      stored = part.stored;
      flow = part.flow;
      in_order = ascending;
      ok = λ sys state s. within-taken sys came state result new.running left_over (takes sys state s);
      right = λ sys state s. within-right sys came state result new.running left_over s.apart.well_formed s.apart.reached (takes sys state s);
      tells = part.tells;
      quiet = part.quiet;
      idle = still;
      draws = draws;
      faults = part.faults;
      calls = part.calls;
      asks = λ sys state s e. (subst (λ (r : Result Stepped EngineFault). AnswersWithin came sys state r new.running left_over) e (takes sys state s)).0;
      faulted = λ sys state s e. (subst (λ (r : Result Stepped EngineFault). AnswersWithin came sys state r new.running left_over) e (takes sys state s)).1;
      unharmed = λ id. no_damage result id part.undamaged;
      refused = refused-after result (was_refused new) told;
      told = told;
      stays = λ r. absurd (cc);
    }
  where
    within-taken : (sys : System) (came : List ℕ) (state : Machine) (result : Result Stepped EngineFault) (new : Running) (after : Option Records)
        → AnswersWithin came sys state result new after → IfOk result (λ stepped. FollowsFirstWithin sys (λ s. get_or came s 0) state (outcome_of stepped) new after)
    within-taken sys came state (Ok stepped) new after t = t
    within-taken sys came state (Err e) new after t = tt

    within-right : (sys : System) (came : List ℕ) (state : Machine) (result : Result Stepped EngineFault) (new : Running) (after : Option Records)
        → IsWellFormedSystem sys → IsReached sys state → AnswersWithin came sys state result new after
        → IfOk result (λ stepped. IsRightIn sys state (outcome_of stepped))
    within-right sys came state (Ok stepped) new after w reached t =
        first-right sys w state reached (auto_steps_within sys.flow (λ s. get_or came s 0) state) t.next (outcome_of stepped) t.takes
    within-right sys came state (Err e) new after w reached t = tt

pub within-refused : {K : Type 0} {view : K → StoreView} {engine : Engine} {store : K} (came : List ℕ) → was_refused engine ≡ true
    → IsStored (keep_of engine) (view store).records → AreAscending (ids_of (keep_of engine).entries)
    → WithinAnswers view engine store (λ s. get_or came s 0) (Err fault.NoMemory) engine store
within-refused {K} {view} {engine} {store} came refused stored ascending = record {
  stored = stored;
  flow = refl;
  in_order = ascending;
  ok = λ sys state s. tt;
  right = λ sys state s. tt;
  tells = refl;
  quiet = λ none. refl;
  idle = λ is. refl;
  draws = draws-none engine.running engine.running (view store).records (Err fault.NoMemory) refl;
  faults = refl;
  calls = λ e. absurd (cc);
  asks = λ sys state s e. absurd (cc);
  faulted = λ sys state s e. absurd (cc);
  unharmed = λ id e. cc;
  refused = λ e. refused;
  told = refused;
  stays = λ r. refl;
}
