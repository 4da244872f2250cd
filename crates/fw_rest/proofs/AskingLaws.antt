-- Once each node is asked for a checkpoint and nothing waits, no checkpoint is to be asked.
use Rattle.std.proofs.Common.{◌≡◌, ℕ, zero, suc, ◌+◌, ◌<◌, ◌≤◌, Bool, true, false, ◌==◌, List, [], ◌∷◌, ◌++◌, length, map, slice_index_or, refl, sym, ap, subst, ◌∙◌, inl, inr, arith}
use Rattle.std.specs.List.{AllByRecursion, range_with_len}
use Rattle.std.proofs.lemmas.Bool.{cases_Bool, cases_lt, cond_both, eqb-true}
use Rattle.std.proofs.lemmas.List.FromFn.{length-range_with_len}
use Rattle.fw_lemmas.proofs.Bools.{two_ways}
use Rattle.fw_frontier.specs.Front.{Front, same_front, frontier_of}
use Rattle.fw_frontier.specs.Frontier.{Frontier}
use Rattle.fw_frontier.proofs.SameLaws.{same_front-is, same_front-itself}
use Rattle.fw_flow.specs.declared.event.Event.TheVariants.{Inject as Injected, Deliver as Delivered, Notify as Notified}
use Rattle.fw_flow.specs.declared.step.Step.{Step}
use Rattle.fw_flow.specs.declared.step.Step.TheVariants.{Inject, Deliver, Notify, Progress as ProgressStep, Checkpoint, Persist, Collect, Ack}
use Rattle.fw_flow.specs.Dataflow.{System, policy_of, bounds_of, node_ids, node_frontier}
use Rattle.fw_flow.specs.WellFormed.{IsWellFormedSystem}
use Rattle.fw_model.specs.Auto.{IsAutoRun}
use Rattle.fw_model.specs.Machine.{Machine, Write, front_of, is_failed, no_stamps, first_state}
use Rattle.fw_model.specs.Reached.{IsReached}
use Rattle.fw_model.specs.Steps.{Effect, Outcome, did, idle, silent, LeadsTo, StepsTo, Run, checkpoint_of, is_asked_for_checkpoints, newest_checkpoint, GrowsTo, is_in_flight}
use Rattle.fw_model.proofs.AskedLaws.{reached-all}
use Rattle.fw_model.proofs.AutoLaws.{auto-one, auto-runs}
use Rattle.fw_model.proofs.ChoosingLaws.{reached-one_next}
use Rattle.fw_model.proofs.GoingOn.{runs-go_on}
use Rattle.fw_rest.specs.LawsOfRest.{AskingGoesOn, AskingLeavesNothing}
use Rattle.fw_rest.specs.Rest.{AreAllLive, is_of_auto}
use Rattle.fw_rest.specs.StepsToRest.{count_in_flight}
use Rattle.fw_rest.proofs.EagerLaws.{newest-one, newest-other, newest-event, newest-acknowledged, reached-more}
use Rattle.fw_rest.proofs.LeftLaws.{every-front, every-inside, rest-leaves_nothing}
use Rattle.fw_rest.proofs.LoweringLaws.{count-append, count-few, auto-first, auto-comes_to_rest}
use Rattle.fw_rest.proofs.FinishLaws.{auto-live, within-all}
use Rattle.fw_rest.proofs.WaitingLaws.{nothing-waits}

-- ---- a checkpoint is asked

-- the newest checkpoint of a live node that takes them when asked holds what is settled at it
abbrev IsAsked : System → Machine → ℕ → Type 0
IsAsked sys state p =
    is_asked_for_checkpoints (policy_of sys.flow p) ≡ true → is_failed state p ≡ false
    → front_of state.settled p ≡ newest_checkpoint p (no_stamps (bounds_of sys.flow p)) state.writes

asked-here : (sys : System) (state : Machine) (p : ℕ) (next : Machine) (outcome : Outcome) → StepsTo sys state (Checkpoint p) next outcome → IsAsked sys next p
asked-here sys state p next (did effect) t k live =
    subst (λ (m : Machine). front_of m.settled p ≡ newest_checkpoint p (no_stamps (bounds_of sys.flow p)) m.writes) (sym t.3)
    (sym (newest-one state p (no_stamps (bounds_of sys.flow p)) (front_of state.settled p)))
asked-here sys state p next idle t k live =
    let now = front_of state.settled p in
    let old = newest_checkpoint p (no_stamps (bounds_of sys.flow p)) state.writes in
    subst (λ (m : Machine). front_of m.settled p ≡ newest_checkpoint p (no_stamps (bounds_of sys.flow p)) m.writes) (sym t.1)
    (elim (cases_Bool (same_front now old)) [
      | inl same ↦ same_front-is now old same
      | inr other ↦ absurd (t.0 (record state { writes = state.writes ++ checkpoint_of state p now ∷ [] }) silent
          (k, sym (ap (λ (m : Machine). is_failed m p) t.1) ∙ live, (λ one. two_ways (same_front now old) (subst (λ z. same_front now z ≡ true) one (same_front-itself now)) other), refl, refl))
    ])

asked-stays : (sys : System) (state : Machine) (q : ℕ) (next : Machine) (outcome : Outcome) → StepsTo sys state (Checkpoint q) next outcome → (p : ℕ)
    → IsAsked sys state p → IsAsked sys next p
asked-stays sys state q next (did effect) t p a k live = elim (cases_Bool (q == p)) [
  | inl e ↦ subst (λ n. IsAsked sys next n) (eqb-true q p e) (asked-here sys state q next (did effect) t) k live
  | inr e ↦
      subst (λ (m : Machine). front_of m.settled p ≡ newest_checkpoint p (no_stamps (bounds_of sys.flow p)) m.writes) (sym t.3)
      (a k (sym (ap (λ (m : Machine). is_failed m p) t.3) ∙ live) ∙ sym (newest-other state p q (no_stamps (bounds_of sys.flow p)) (front_of state.settled q) e))
]
asked-stays sys state q next idle t p a k live = subst (λ m. IsAsked sys m p) (sym t.1) a k live

asked-settled : (sys : System) (state : Machine) (p : ℕ) (next : Machine) (outcome : Outcome) → StepsTo sys state (Checkpoint p) next outcome → next.settled ≡ state.settled
asked-settled sys state p next (did effect) t = ap (λ (m : Machine). m.settled) t.3
asked-settled sys state p next idle t = ap (λ (m : Machine). m.settled) t.1

asked-failed : (sys : System) (state : Machine) (p : ℕ) (next : Machine) (outcome : Outcome) → StepsTo sys state (Checkpoint p) next outcome → next.failed ≡ state.failed
asked-failed sys state p next (did effect) t = ap (λ (m : Machine). m.failed) t.3
asked-failed sys state p next idle t = ap (λ (m : Machine). m.failed) t.1

asked-in_flight : (sys : System) (state : Machine) (p : ℕ) (next : Machine) (outcome : Outcome) → StepsTo sys state (Checkpoint p) next outcome
    → count_in_flight next.writes ≤ count_in_flight state.writes + 1
asked-in_flight sys state p next (did effect) t =
    let a = ap (λ (m : Machine). count_in_flight m.writes) t.3 in
    let b = count-append state.writes (checkpoint_of state p (front_of state.settled p) ∷ []) in
    let c = count-few (checkpoint_of state p (front_of state.settled p) ∷ []) in
    omega arith
asked-in_flight sys state p next idle t = let a = ap (λ (m : Machine). count_in_flight m.writes) t.1 in omega arith

-- ---- each of some nodes is asked

record HaveAsked (sys : System) (ps : List ℕ) (state next : Machine) : Type 0 where
  settled : next.settled ≡ state.settled
  failed : next.failed ≡ state.failed
  in_flight : count_in_flight next.writes ≤ count_in_flight state.writes + length ps
  stays : (p : ℕ) → IsAsked sys state p → IsAsked sys next p
  each : AllByRecursion (IsAsked sys next) ps

ask-each : (sys : System) (ps : List ℕ) (state next : Machine) (outcomes : List Outcome) → Run sys state (map Checkpoint ps) outcomes next → HaveAsked sys ps state next
ask-each sys [] state next [] r = record {
  settled = ap (λ (m : Machine). m.settled) r;
  failed = ap (λ (m : Machine). m.failed) r;
  in_flight = let a = ap (λ (m : Machine). count_in_flight m.writes) r in omega arith;
  stays = λ p a. subst (λ m. IsAsked sys m p) (sym r) a;
  each = tt;
}
ask-each sys [] state next (o ∷ os) r = absurd r
ask-each sys (p ∷ ps) state next [] r = absurd r
ask-each sys (p ∷ ps) state next (o ∷ os) r =
    let rest = ask-each sys ps r.0 next os r.2 in
    let a = asked-in_flight sys state p r.0 o r.1 in
    let b = rest.in_flight in
    record {
      settled = rest.settled ∙ asked-settled sys state p r.0 o r.1;
      failed = rest.failed ∙ asked-failed sys state p r.0 o r.1;
      in_flight = omega arith;
      stays = λ q k. rest.stays q (asked-stays sys state p r.0 o r.1 q k);
      each = (rest.stays p (asked-here sys state p r.0 o r.1), rest.each);
    }

asked-at : (P : ℕ → Type 0) (n a : ℕ) → AllByRecursion P (range_with_len a n) → (p : ℕ) → a ≤ p → p < a + n → P p
asked-at P zero a all p l k = absurd (omega arith)
asked-at P (suc n) a all p l k = elim (cases_lt a p) [
  | inl i ↦ asked-at P n (a + 1) all.1 p (omega arith) (omega arith)
  | inr i ↦ let e : a ≡ p = omega arith in subst P e all.0
]

-- ---- `auto` asks no more, where all is settled

record AreAsked (sys : System) (state : Machine) : Type 0 where
  settled : (p : ℕ) → p < length sys.flow.nodes → front_of state.settled p ≡ []
  asked : (p : ℕ) → p < length sys.flow.nodes → IsAsked sys state p

-- nothing grows where all is settled
none-grows : (sys : System) (state : Machine) (done : ℕ → Frontier) (settled : List Front) → ((p : ℕ) → p < length sys.flow.nodes → front_of state.settled p ≡ [])
    → GrowsTo sys state done settled → ⊥
none-grows sys state done settled all g =
    let some = g.some in
    let p = some.0 in
    let t = some.1 in
    let d = (g.complete.admissible.frontier p).inside_domain t some.4 in
    two_ways (node_frontier sys.flow p (front_of state.settled p) t)
    (ap (λ f. frontier_of (bounds_of sys.flow p) f t) (all p some.2) ∙ every-inside (bounds_of sys.flow p) t d) some.5

took-asked : (sys : System) (state : Machine) (step : Step) → is_of_auto step ≡ true → (next : Machine) (effect : Effect) → LeadsTo sys state step next effect
    → AreAsked sys state → AreAsked sys next
took-asked sys state (Inject s) k next effect t a = subst (AreAsked sys) (sym t.3) (record {
  settled = a.settled;
  asked = λ p l i live. a.asked p l i live ∙ sym (newest-event sys state (Injected s t.0) p (no_stamps (bounds_of sys.flow p)));
})
took-asked sys state (Deliver e at) k next effect t a = subst (AreAsked sys) (sym t.3) (record {
  settled = a.settled;
  asked = λ p l i live. a.asked p l i live ∙ sym (newest-event sys state (Delivered e t.0) p (no_stamps (bounds_of sys.flow p)));
})
took-asked sys state (Notify q at) k next effect t a = subst (AreAsked sys) (sym t.3) (record {
  settled = a.settled;
  asked = λ p l i live. a.asked p l i live ∙ sym (newest-event sys state (Notified q t.0) p (no_stamps (bounds_of sys.flow p)));
})
took-asked sys state ProgressStep k next effect t a = absurd (none-grows sys state t.0 t.1 a.settled t.2)
took-asked sys state Persist k next effect t a = subst (AreAsked sys) (sym t.2) (record {
  settled = a.settled;
  asked = λ p l i live. a.asked p l i live ∙ sym (newest-acknowledged p (no_stamps (bounds_of sys.flow p)) state.writes t.0 t.1);
})
took-asked sys state (Ack o) k next effect t a = subst (AreAsked sys) (sym t.2) (record { settled = a.settled; asked = a.asked })
took-asked sys state step k next effect t a = absurd (cc)

auto-asked : (sys : System) (most : ℕ) (steps : List Step) (state last : Machine) → IsAutoRun sys state most steps last → AreAsked sys state → AreAsked sys last
auto-asked sys zero [] state last run a = subst (AreAsked sys) (sym run) a
auto-asked sys zero (x ∷ steps) state last run a = absurd run
auto-asked sys (suc most) [] state last run a = subst (AreAsked sys) (sym run.1) a
auto-asked sys (suc most) (x ∷ steps) state last run a =
    let first = run.2 in
    auto-asked sys most steps run.0 last run.3 (took-asked sys state x (auto-first sys state x run.0 run.1 first) run.0 run.1 first.leads a)

-- ---- the laws

none-counted : (xs : List Write) → AllByRecursion (λ (x : Write). is_in_flight x.stage ≡ false) xs → count_in_flight xs ≡ 0
none-counted [] a = refl
none-counted (x ∷ xs) a = cond_both (is_in_flight x.stage) (count_in_flight xs + 1) (count_in_flight xs) (λ n. n ≡ 0) (λ e. absurd (two_ways (is_in_flight x.stage) e a.0)) (λ e. none-counted xs a.1)

pub asking-leaves_nothing : AskingLeavesNothing
asking-leaves_nothing sys family w den ungrouped state r live quiet most l last g =
    let waits = nothing-waits sys family w den state r live quiet in
    let restore = (reached-all sys w r.0 r.1 state r.2).restore in
    let every : (p : ℕ) → p < length sys.flow.nodes → front_of state.settled p ≡ [] =
    λ p i. every-front (bounds_of sys.flow p) (front_of state.settled p) (restore.settled p i) (waits.settled p i) in
    let have = ask-each sys (node_ids sys.flow) state g.asked g.asks g.asking in
    let asked = runs-go_on sys (first_state sys) state g.asked r.0 (map Checkpoint (node_ids sys.flow)) r.1 g.asks r.2 g.asking in
    let reached : IsReached sys g.asked = (r.0 ++ map Checkpoint (node_ids sys.flow), r.1 ++ g.asks, asked) in
    let effects = auto-runs sys g.asked g.rested most g.steps g.taken in
    let again = runs-go_on sys (first_state sys) g.asked g.rested reached.0 g.steps reached.1 (map did effects.0) reached.2 effects.1 in
    let rested : IsReached sys g.rested = (reached.0 ++ g.steps, reached.1 ++ map did effects.0, again) in
    let live_asked : AreAllLive sys g.asked = λ p i. ap (λ (fs : List Bool). slice_index_or fs p false) have.failed ∙ live p i in
    let live_rested = auto-live sys most g.steps g.asked g.rested g.taken live_asked in
    let enough = within-all sys family g.asked in
    let few = have.in_flight in
    let none = none-counted state.writes waits.writes in
    let nodes : length (node_ids sys.flow) ≡ length sys.flow.nodes = length-range_with_len 0 (length sys.flow.nodes) in
    let quiet_rested = auto-comes_to_rest sys family w den g.asked reached most (omega arith) g.steps g.rested g.taken in
    let are = auto-asked sys most g.steps g.asked g.rested g.taken (record {
      settled = λ p i. ap (λ fs. front_of fs p) have.settled ∙ every p i;
      asked = λ p i. asked-at (IsAsked sys g.asked) (length sys.flow.nodes) 0 have.each p (omega arith) (omega arith);
    }) in
    rest-leaves_nothing sys family w den ungrouped g.rested rested live_rested quiet_rested (λ p i next effect t. t.2 (are.asked p i t.0 t.1)) last g.collection g.collects

-- the steps that ask each of some nodes are taken
asks-of : (sys : System) → IsWellFormedSystem sys → (ps : List ℕ) (state : Machine) → IsReached sys state
    → (outcomes : List Outcome) × (next : Machine) × Run sys state (map Checkpoint ps) outcomes next
asks-of sys w [] state r = ([], state, refl)
asks-of sys w (p ∷ ps) state r =
    let first = reached-one_next sys w r.0 r.1 state r.2 (Checkpoint p) in
    let rest = asks-of sys w ps first.0 (reached-more sys state (Checkpoint p) first.1 first.0 r first.2.steps) in
    (first.1 ∷ rest.0, rest.1, (first.0, first.2.steps, rest.2))

pub asking-goes_on : AskingGoesOn
asking-goes_on sys w state r most =
    let asks = asks-of sys w (node_ids sys.flow) state r in
    let asked = runs-go_on sys (first_state sys) state asks.1 r.0 (map Checkpoint (node_ids sys.flow)) r.1 asks.0 r.2 asks.2 in
    let before = r.0 ++ map Checkpoint (node_ids sys.flow) in
    let auto = auto-one sys w before (r.1 ++ asks.0) asks.1 asked most in
    let effects = auto-runs sys asks.1 auto.1 most auto.0 auto.2 in
    let again = runs-go_on sys (first_state sys) asks.1 auto.1 before auto.0 (r.1 ++ asks.0) (map did effects.0) asked effects.1 in
    let last = reached-one_next sys w (before ++ auto.0) ((r.1 ++ asks.0) ++ map did effects.0) auto.1 again Collect in (
      last.0,
      record {
        asks = asks.0;
        asked = asks.1;
        asking = asks.2;
        steps = auto.0;
        rested = auto.1;
        taken = auto.2;
        collection = last.1;
        collects = last.2.steps;
      },
    )
