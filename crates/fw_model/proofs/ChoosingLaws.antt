-- In each state of a run there is something to choose, and what was collected changes no choice.
use Rattle.std.proofs.Common.{◌≡◌, ℕ, ◌+◌, ◌<◌, Bool, true, not, ◌&&◌, List, [], ◌∷◌, ◌++◌, length, filter, map, slice_set, sym, ap, subst, ◌∙◌, inl, inr, ◌⊎◌, arith}
use Rattle.std.specs.List.{AllByRecursion}
use Rattle.std.proofs.lemmas.Bool.{and_parts, cond_both}
use Rattle.fw_lemmas.proofs.Bools.{two_ways}
use Rattle.fw_lemmas.proofs.Each.{each-weaker, each-one, each-append, each-map, each-passed, each-replaced}
use Rattle.fw_lemmas.proofs.Numbers.{at_most-refl}
use Rattle.fw_frontier.specs.Frontier.{Within}
use Rattle.fw_frontier.specs.Front.{Front, frontier_of, IsCanonical, same_front, is_within}
use Rattle.fw_flow.specs.declared.choice.Cut.{Cut}
use Rattle.fw_flow.specs.declared.choice.Cut.TheVariants.{Present, At}
use Rattle.fw_flow.specs.declared.event.Event.TheVariants.{Inject as Injected, Deliver as Delivered, Notify as Notified}
use Rattle.fw_flow.specs.declared.kind.Policy.{Policy}
use Rattle.fw_flow.specs.declared.kind.Policy.TheVariants as policy
use Rattle.fw_flow.specs.declared.step.Step.{Step}
use Rattle.fw_flow.specs.declared.step.Step.TheVariants.{Inject, Deliver, Notify, Progress as ProgressStep, Checkpoint, Persist, Fail, Recover, Collect, Ack}
use Rattle.fw_flow.specs.Dataflow.{System, policy_of, receiver, bounds_of, node_ids, is_one_of}
use Rattle.fw_flow.specs.WellFormed.{IsWellFormedSystem}
use Rattle.fw_model.specs.Denotation.{Family, IsDenotation, rounds}
use Rattle.fw_model.specs.Machine.{Machine, SerialEvent, Write, Written, checkpoint, logged_event, Stage, in_flight, acknowledged, collected, first_state, front_of, is_failed, ack_count_of}
use Rattle.fw_flow.specs.declared.choice.Choice.{Choice}
use Rattle.fw_model.specs.Choice.{View, kept, ever, IsRestorable, IsCandidate, cut_of, IsConsistent, IsCutWithin, IsLargest, filtered_history}
use Rattle.fw_model.specs.Steps.{Effect, Outcome, did, idle, LeadsTo, Run, write_of_event, checkpoint_of, is_eager, eager_writes, is_in_flight, without_lost, with_failed, is_kept_write, lies_below, after_collection, front_of_cut, is_forgotten}
use Rattle.fw_model.specs.LawsOfChoosing.{LowWatermarkIsConsistent, CheckpointsAreChains, RecoveryHasAChoice, FailedNodesAreRecovered, ReachedStatesHaveOneNextState, LargestChoiceHoldsLowWatermark, LowWatermarkNeverFalls, LargestOfKeptIsLargestOfEver}
use Rattle.fw_flow.specs.declared.restoring.Restoring.{Restoring}
use Rattle.fw_flow.specs.declared.restoring.Restoring.TheVariants.{Batches, Bound, Anything, Checkpoints, Events}
use Rattle.fw_model.proofs.DenotationLaws.{denotation-exists}
use Rattle.fw_model.proofs.CheckpointLaws.{HoldsSettled, IsWriteSettled, AreWritesSettled, HasWritesSettled, grown-writes, settled-grows, took-writes}
use Rattle.fw_model.proofs.LargestLaws.{largest-exists, within-trans}
use Rattle.fw_model.proofs.RunLaws.{none-inside}
use Rattle.fw_model.proofs.RecoveryLaws.{IsLegalAndDenoted, all_kinds-denote, first-holds, steps-hold, denoted-full}
use Rattle.fw_model.proofs.SomeNextLaws.{exactly_one_next, recover-enabled}
use Rattle.fw_model.proofs.SameInsideLaws.{at_node, IsLowConsistent}
use Rattle.fw_model.proofs.WriteLaws.{some-checkpoint, checkpoint-some, pairs-append, pairs-passed, pairs-mapped, pairs-replaced, LiesBelow, IsWriteBelow, AreAscending, settled-below, ascending-chain, IsCollectedBelow, IsWriteCollectedBelow, kept-from_ever}
use Rattle.fw_frontier.proofs.NamesLaws.{within-is}
use Rattle.fw_model.proofs.LowLaws.{event-low, same-low, keep-append, keep-all, keep-acknowledged, keep-failed, set-grows, candidate-ever, offered-consistent, low-any, low-within, recovery-low, watermark-front, collection-low, first-low}
use Rattle.fw_model.proofs.DomainLaws.{has_epochs}
use Rattle.fw_model.proofs.BelowLaws.{forgotten-below}
use Rattle.fw_model.specs.Measure.{enough_rounds}
use Rattle.fw_model.specs.Choosing.{AreCheckpointsChains, CanChoose, HasItsChoice, low_choice}
use Rattle.fw_model.specs.Settled.{IsFull}
use Rattle.fw_flow.specs.Restoring.{way_of}

-- what holds of each state of a run
pub record CanRecover (sys : System) (family : Family) (state : Machine) : Type 0 where
  pub holds : IsLegalAndDenoted sys family state
  pub lie_settled : HasWritesSettled sys state
  pub ascend : AreAscending sys state.writes
  pub lie_below : AllByRecursion (IsWriteCollectedBelow sys state.low) state.writes
  pub notices : List Front
  pub watermark : IsLowConsistent sys state notices

pub full-of : (sys : System) (family : Family) (state : Machine) → IsWellFormedSystem sys → IsDenotation sys family → IsLegalAndDenoted sys family state → IsFull sys state
full-of sys family state w u f = denoted-full sys family state w u f.legal (record { denoted = f.denoted; paid = f.paid })

-- ---- the low watermark at each step

-- with some notification frontiers the low watermark is a consistent choice
abbrev HasLow : System → Machine → Type 0
HasLow sys state = (notices : List Front) × IsLowConsistent sys state notices

took-low : (sys : System) (family : Family) → IsWellFormedSystem sys → IsDenotation sys family → (state : Machine) (step : Step) (next : Machine) (effect : Effect)
    → CanRecover sys family state → LeadsTo sys state step next effect → HasLow sys next
took-low sys family w u state (Inject s) next effect f t =
    subst (HasLow sys) (sym t.3) (f.notices, event-low sys state f.notices (Injected s t.0) w.flow (full-of sys family state w u f.holds) f.lie_settled f.watermark t.1)
took-low sys family w u state (Deliver e at) next effect f t =
    subst (HasLow sys) (sym t.3) (f.notices, event-low sys state f.notices (Delivered e t.0) w.flow (full-of sys family state w u f.holds) f.lie_settled f.watermark t.1.enabled)
took-low sys family w u state (Notify p at) next effect f t =
    subst (HasLow sys) (sym t.3) (f.notices, event-low sys state f.notices (Notified p t.0) w.flow (full-of sys family state w u f.holds) f.lie_settled f.watermark t.1.enabled)
took-low sys family w u state ProgressStep next effect f t =
    let writes = state.writes ++ eager_writes sys state t.1 (node_ids sys.flow) in
    subst (HasLow sys) (sym t.3) (
      f.notices,
      same-low sys state f.notices t.1 writes state.failed state.ack_counts w.flow (settled-grows sys state t.0 t.1 t.2)
          (keep-append state.writes (eager_writes sys state t.1 (node_ids sys.flow))) (λ p. at_most-refl (ack_count_of state p)) f.watermark,
    )
took-low sys family w u state (Checkpoint p) next effect f t =
    let more = checkpoint_of state p (front_of state.settled p) ∷ [] in
    subst (HasLow sys) (sym t.3) (
      f.notices,
      same-low sys state f.notices state.settled (state.writes ++ more) state.failed state.ack_counts w.flow (λ q l s i. i)
          (keep-append state.writes more) (λ q. at_most-refl (ack_count_of state q)) f.watermark,
    )
took-low sys family w u state Persist next effect f t =
    subst (HasLow sys) (sym t.2) (
      f.notices,
      same-low sys state f.notices state.settled t.0 state.failed state.ack_counts w.flow (λ q l s i. i)
          (keep-acknowledged state.writes t.0 t.1) (λ q. at_most-refl (ack_count_of state q)) f.watermark,
    )
took-low sys family w u state (Fail ps) next effect f t =
    subst (HasLow sys) (sym t.4) (
      f.notices,
      same-low sys state f.notices state.settled (without_lost ps state.writes) (with_failed sys state ps) state.ack_counts w.flow (λ q l s i. i)
          (keep-failed ps state.writes) (λ q. at_most-refl (ack_count_of state q)) f.watermark,
    )
took-low sys family w u state Recover next effect f t =
    subst (HasLow sys) (sym t.7) (f.notices, recovery-low sys state f.notices t.1 t.2 w.flow (has_epochs sys w) f.holds.legal f.watermark (is_failed state) t.5 t.6)
took-low sys family w u state Collect next effect f t =
    subst (HasLow sys) (sym t.3) (t.0.notices, collection-low sys state t.0 t.1.consistent)
took-low sys family w u state (Ack o) next effect f t =
    let x = t.0 in
    let at_bound = t.1.next in
    subst (HasLow sys) (sym t.2) (
      f.notices,
      same-low sys state f.notices state.settled state.writes state.failed (slice_set state.ack_counts o (x + 1)) w.flow (λ q l s i. i)
          (keep-all state.writes) (λ q. set-grows state.ack_counts o q (x + 1) (omega arith)) f.watermark,
    )

-- ---- checkpoints ascend at each step

logged-above : (sys : System) (p : ℕ) (w : Written) (q serial : ℕ) → LiesBelow sys p w q (logged_event serial)
logged-above sys p (checkpoint f l) q serial = tt
logged-above sys p (logged_event r) q serial = tt

event-ascend : (sys : System) (writes : List Write) (p : Policy) (q serial : ℕ) → AreAscending sys writes → AreAscending sys (writes ++ write_of_event p q serial)
event-ascend sys writes p q serial a = pairs-append (LiesBelow sys) writes (write_of_event p q serial) a (alone p) (each-one _ writes (λ x. above p x))
  where
    alone : (p : Policy) → AreAscending sys (write_of_event p q serial)
    alone policy.Full = (tt, tt)
    alone p = tt

    above : (p : Policy) (x : Write) → AllByRecursion (IsWriteBelow sys x) (write_of_event p q serial)
    above policy.Full x = (logged-above sys x.node x.written q serial, tt)
    above p x = tt

-- the checkpoints of what is settled now
abbrev pub settled_writes : Machine → List Front → List ℕ → List Write
settled_writes state settled ps = map (λ p. checkpoint_of state p (front_of settled p)) ps

settled-above : (sys : System) (state : Machine) (settled : List Front) (ps : List ℕ) (p : ℕ) (w : Written) → HoldsSettled sys settled p w
    → AllByRecursion (λ (y : Write). LiesBelow sys p w y.node y.written) (settled_writes state settled ps)
settled-above sys state settled ps p w h =
    each-map (λ (y : Write). LiesBelow sys p w y.node y.written) (λ q. checkpoint_of state q (front_of settled q)) ps
    (each-one _ ps (λ q. settled-below sys settled p w q state.low h))

settled-alone : (sys : System) (state : Machine) (settled : List Front) (ps : List ℕ) → AreAscending sys (settled_writes state settled ps)
settled-alone sys state settled [] = tt
settled-alone sys state settled (p ∷ ps) =
    (settled-above sys state settled ps p (checkpoint (front_of settled p) state.low) (λ l t i. i), settled-alone sys state settled ps)

settled-ascend : (sys : System) (state : Machine) (settled : List Front) (ps : List ℕ) → AreWritesSettled sys settled state.writes → AreAscending sys state.writes
    → AreAscending sys (state.writes ++ settled_writes state settled ps)
settled-ascend sys state settled ps h a =
    pairs-append (LiesBelow sys) state.writes (settled_writes state settled ps) a (settled-alone sys state settled ps)
    (each-weaker (IsWriteSettled sys settled) (λ x. AllByRecursion (IsWriteBelow sys x) (settled_writes state settled ps)) state.writes
    (λ x k. settled-above sys state settled ps x.node x.written k) h)

abbrev HasAscending : System → Machine → Type 0
HasAscending sys state = AreAscending sys state.writes

took-ascend : (sys : System) (state : Machine) (step : Step) (next : Machine) (effect : Effect) → HasWritesSettled sys state → AreAscending sys state.writes
    → LeadsTo sys state step next effect → AreAscending sys next.writes
took-ascend sys state (Inject s) next effect h a t =
    subst (HasAscending sys) (sym t.3) (event-ascend sys state.writes (policy_of sys.flow s) s state.next a)
took-ascend sys state (Deliver e at) next effect h a t =
    let r = receiver sys.flow e in
    subst (HasAscending sys) (sym t.3) (event-ascend sys state.writes (policy_of sys.flow r) r state.next a)
took-ascend sys state (Notify p at) next effect h a t =
    subst (HasAscending sys) (sym t.3) (event-ascend sys state.writes (policy_of sys.flow p) p state.next a)
took-ascend sys state ProgressStep next effect h a t =
    let settled = t.1 in
    let ps = filter (λ p. is_eager (policy_of sys.flow p) && not (same_front (front_of state.settled p) (front_of settled p))) (node_ids sys.flow) in
    subst (HasAscending sys) (sym t.3)
    (settled-ascend sys state settled ps (grown-writes sys state.settled settled (settled-grows sys state t.0 settled t.2) state.writes h) a)
took-ascend sys state (Checkpoint p) next effect h a t = subst (HasAscending sys) (sym t.3) (settled-ascend sys state state.settled (p ∷ []) h a)
took-ascend sys state Persist next effect h a t =
    let k = t.1 in
    subst (HasAscending sys) (sym t.2)
    (subst (AreAscending sys) (sym k.after) (pairs-replaced (LiesBelow sys) k.earlier k.oldest acknowledged k.later (subst (AreAscending sys) k.before a)))
took-ascend sys state (Fail ps) next effect h a t =
    subst (HasAscending sys) (sym t.4) (pairs-passed (LiesBelow sys) (λ write. not (is_one_of write.node ps && is_in_flight write.stage)) state.writes a)
took-ascend sys state Recover next effect h a t =
    subst (HasAscending sys) (sym t.7)
    (pairs-passed (LiesBelow sys) (λ write. is_kept_write (cut_of t.1 write.node) write.written (filtered_history sys t.1 state.history)) state.writes a)
took-ascend sys state Collect next effect h a t =
    let low = map front_of_cut t.0.cuts in
    subst (HasAscending sys) (sym t.3) (pairs-mapped (LiesBelow sys) (λ write. after_collection (is_forgotten sys low state.history state.writes write) write.stage) state.writes a)
took-ascend sys state (Ack o) next effect h a t = subst (HasAscending sys) (sym t.2) a

-- ---- collected checkpoints lie below at each step

abbrev AreCollectedBelow : System → List Front → List Write → Type 0
AreCollectedBelow sys low writes = AllByRecursion (IsWriteCollectedBelow sys low) writes

abbrev HasCollectedBelow : System → Machine → Type 0
HasCollectedBelow sys state = AreCollectedBelow sys state.low state.writes

event-below : (sys : System) (low : List Front) (p : Policy) (q serial : ℕ) → AreCollectedBelow sys low (write_of_event p q serial)
event-below sys low policy.Full q serial = (tt, tt)
event-below sys low p q serial = tt

asked-below : (sys : System) (state : Machine) (settled : List Front) (ps : List ℕ) → AreCollectedBelow sys state.low (settled_writes state settled ps)
asked-below sys state settled [] = tt
asked-below sys state settled (p ∷ ps) = (tt, asked-below sys state settled ps)

acknowledged-below : (sys : System) (low : List Front) (p : ℕ) (w : Written) → IsCollectedBelow sys low p w acknowledged
acknowledged-below sys low p (checkpoint f l) = tt
acknowledged-below sys low p (logged_event s) = tt

-- what is collected lies below the new low watermark, and so does what lay below the old one
collected-below : (sys : System) (old low : List Front) (h : List SerialEvent) → ((p : ℕ) → p < length sys.flow.nodes → Within (at_node sys old p) (at_node sys low p))
    → (p : ℕ) (w : Written) (goes : Bool) → (goes ≡ true → lies_below sys low h p w ≡ true) → (far : Stage) → IsCollectedBelow sys old p w far
    → IsCollectedBelow sys low p w (after_collection goes far)
collected-below sys old low h grows p (checkpoint g l) goes k in_flight a = tt
collected-below sys old low h grows p (checkpoint g l) goes k collected a = λ i c v. a i c (λ t j. v t (grows p i t j))
collected-below sys old low h grows p (checkpoint g l) goes k acknowledged a =
    cond_both goes collected acknowledged (λ far. IsCollectedBelow sys low p (checkpoint g l) far)
    (λ e i c v. two_ways (not (is_within (front_of low p) g)) (and_parts (is_within g (front_of low p)) (not (is_within (front_of low p) g)) (k e)).1
    (ap not (within-is (bounds_of sys.flow p) (front_of low p) g c v)))
    (λ e. tt)
collected-below sys old low h grows p (logged_event s) goes k far a = tt

-- the new low watermark contains the old one
pub watermark-grows : (sys : System) (state : Machine) (notices : List Front) (choice : Choice) → IsLowConsistent sys state notices
    → IsLargest sys state (IsCandidate sys state (λ p. true) kept) choice
    → (p : ℕ) → p < length sys.flow.nodes → Within (at_node sys state.low p) (at_node sys (map front_of_cut choice.cuts) p)
watermark-grows sys state notices choice c m p l =
    subst (IsCutWithin sys.flow p (At (front_of state.low p))) (sym (watermark-front sys state choice m.consistent p l))
    (low-within sys state notices c (λ q. true) kept choice m p l)

took-below : (sys : System) (family : Family) (state : Machine) (step : Step) (next : Machine) (effect : Effect) → CanRecover sys family state
    → LeadsTo sys state step next effect → HasCollectedBelow sys next
took-below sys family state (Inject s) next effect f t =
    subst (HasCollectedBelow sys) (sym t.3)
    (each-append (IsWriteCollectedBelow sys state.low) state.writes (write_of_event (policy_of sys.flow s) s state.next) f.lie_below (event-below sys state.low (policy_of sys.flow s) s state.next))
took-below sys family state (Deliver e at) next effect f t =
    let r = receiver sys.flow e in
    subst (HasCollectedBelow sys) (sym t.3)
    (each-append (IsWriteCollectedBelow sys state.low) state.writes (write_of_event (policy_of sys.flow r) r state.next) f.lie_below (event-below sys state.low (policy_of sys.flow r) r state.next))
took-below sys family state (Notify p at) next effect f t =
    subst (HasCollectedBelow sys) (sym t.3)
    (each-append (IsWriteCollectedBelow sys state.low) state.writes (write_of_event (policy_of sys.flow p) p state.next) f.lie_below (event-below sys state.low (policy_of sys.flow p) p state.next))
took-below sys family state ProgressStep next effect f t =
    let settled = t.1 in
    let ps = filter (λ p. is_eager (policy_of sys.flow p) && not (same_front (front_of state.settled p) (front_of settled p))) (node_ids sys.flow) in
    subst (HasCollectedBelow sys) (sym t.3)
    (each-append (IsWriteCollectedBelow sys state.low) state.writes (settled_writes state settled ps) f.lie_below (asked-below sys state settled ps))
took-below sys family state (Checkpoint p) next effect f t =
    subst (HasCollectedBelow sys) (sym t.3)
    (each-append (IsWriteCollectedBelow sys state.low) state.writes (settled_writes state state.settled (p ∷ [])) f.lie_below (asked-below sys state state.settled (p ∷ [])))
took-below sys family state Persist next effect f t =
    let k = t.1 in
    let y = k.oldest in
    subst (HasCollectedBelow sys) (sym t.2)
    (subst (AreCollectedBelow sys state.low) (sym k.after)
    (each-replaced (IsWriteCollectedBelow sys state.low) k.earlier y (record y { stage = acknowledged }) k.later (λ b. acknowledged-below sys state.low y.node y.written)
    (subst (AreCollectedBelow sys state.low) k.before f.lie_below)))
took-below sys family state (Fail ps) next effect f t =
    subst (HasCollectedBelow sys) (sym t.4)
    (each-passed (IsWriteCollectedBelow sys state.low) (IsWriteCollectedBelow sys state.low) (λ write. not (is_one_of write.node ps && is_in_flight write.stage)) state.writes (λ x k b. b) f.lie_below)
took-below sys family state Recover next effect f t =
    subst (HasCollectedBelow sys) (sym t.7)
    (each-passed (IsWriteCollectedBelow sys state.low) (IsWriteCollectedBelow sys state.low)
    (λ write. is_kept_write (cut_of t.1 write.node) write.written (filtered_history sys t.1 state.history)) state.writes (λ x k b. b) f.lie_below)
took-below sys family state Collect next effect f t =
    let choice = t.0 in
    let low = map front_of_cut choice.cuts in
    let grows = watermark-grows sys state f.notices choice f.watermark t.1 in
    let goes : Write → Bool = is_forgotten sys low state.history state.writes in
    subst (HasCollectedBelow sys) (sym t.3)
    (each-map (IsWriteCollectedBelow sys low) (λ (x : Write). record x { stage = after_collection (goes x) x.stage }) state.writes
    (each-weaker (IsWriteCollectedBelow sys state.low) (λ (x : Write). IsCollectedBelow sys low x.node x.written (after_collection (goes x) x.stage)) state.writes
    (λ x b. collected-below sys state.low low state.history grows x.node x.written (goes x) (forgotten-below sys low state.history state.writes x) x.stage b)
    f.lie_below))
took-below sys family state (Ack o) next effect f t = subst (HasCollectedBelow sys) (sym t.2) f.lie_below

-- ---- each state of a run

pub took-recover : (sys : System) (family : Family) → IsWellFormedSystem sys → IsDenotation sys family → (state : Machine) (step : Step) (next : Machine) (effect : Effect)
    → CanRecover sys family state → LeadsTo sys state step next effect → CanRecover sys family next
took-recover sys family w u state step next effect f t =
    let low = took-low sys family w u state step next effect f t in
    record {
      holds = steps-hold sys family w.flow (has_epochs sys w) (all_kinds-denote sys family w u) state step next (did effect) f.holds t;
      lie_settled = took-writes sys state step next effect t f.lie_settled;
      ascend = took-ascend sys state step next effect f.lie_settled f.ascend t;
      lie_below = took-below sys family state step next effect f t;
      notices = low.0;
      watermark = low.1;
    }

run-recover : (sys : System) (family : Family) → IsWellFormedSystem sys → IsDenotation sys family → (steps : List Step) (outcomes : List Outcome) (state last : Machine)
    → CanRecover sys family state → Run sys state steps outcomes last → CanRecover sys family last
run-recover sys family w u [] [] state last f r = subst (CanRecover sys family) (sym r) f
run-recover sys family w u [] (o ∷ os) state last f r = absurd r
run-recover sys family w u (s ∷ ss) [] state last f r = absurd r
run-recover sys family w u (s ∷ ss) (did effect ∷ os) state last f r =
    run-recover sys family w u ss os r.0 last (took-recover sys family w u state s r.0 effect f r.1) r.2
run-recover sys family w u (s ∷ ss) (idle ∷ os) state last f r =
    run-recover sys family w u ss os r.0 last (subst (CanRecover sys family) (sym r.1.1) f) r.2

pub first-recover : (sys : System) (family : Family) → IsWellFormedSystem sys → CanRecover sys family (first_state sys)
first-recover sys family w = record {
  holds = first-holds sys family w.flow;
  lie_settled = tt;
  ascend = tt;
  lie_below = tt;
  notices = (first_state sys).low;
  watermark = first-low sys w.flow;
}

pub reached : (sys : System) → IsWellFormedSystem sys → (steps : List Step) (outcomes : List Outcome) (last : Machine) → Run sys (first_state sys) steps outcomes last
    → CanRecover sys (rounds sys (enough_rounds sys.flow)) last
reached sys w steps outcomes last r =
    let family = rounds sys (enough_rounds sys.flow) in
    run-recover sys family w (denotation-exists sys w.flow) steps outcomes (first_state sys) last (first-recover sys family w) r

pub low-consistent : LowWatermarkIsConsistent
low-consistent sys w steps outcomes last r =
    let f = reached sys w steps outcomes last r in
    (f.notices, λ lost view. low-any sys last f.notices f.watermark lost view)

-- ---- checkpoints are chains

chain-of : (sys : System) (state : Machine) (view : View) (p : ℕ) (f g : Front) → p < length sys.flow.nodes → AreAscending sys state.writes
    → IsRestorable sys state view p Checkpoints f → IsRestorable sys state view p Checkpoints g
    → Within (frontier_of (bounds_of sys.flow p) f) (frontier_of (bounds_of sys.flow p) g) ⊎ Within (frontier_of (bounds_of sys.flow p) g) (frontier_of (bounds_of sys.flow p) f)
chain-of sys state view p f g l a b c =
    let bounds = bounds_of sys.flow p in
    elim b [
      | inl e ↦ inl (λ t i. absurd (none-inside bounds t (ap (λ os. frontier_of bounds os t) (sym e) ∙ i)))
      | inr x ↦ elim c [
        | inl e ↦ inr (λ t i. absurd (none-inside bounds t (ap (λ os. frontier_of bounds os t) (sym e) ∙ i)))
        | inr y ↦ ascending-chain sys view p f g state.writes l a (some-checkpoint view p f state.writes x) (some-checkpoint view p g state.writes y)
      ]
    ]

ascending-chains : (sys : System) (state : Machine) → AreAscending sys state.writes → (lost : ℕ → Bool) (view : View) → AreCheckpointsChains sys state lost view
ascending-chains sys state a lost view p Present other l e b c = inr tt
ascending-chains sys state a lost view p (At f) Present l e b c = inl tt
ascending-chains sys state a lost view p (At f) (At g) l e b c =
    chain-of sys state view p f g l a (subst (λ way. IsRestorable sys state view p way f) e b.1) (subst (λ way. IsRestorable sys state view p way g) e c.1)

pub checkpoints-chains : CheckpointsAreChains
checkpoints-chains sys w steps outcomes last r lost view = ascending-chains sys last (reached sys w steps outcomes last r).ascend lost view

-- ---- choices

pub recovery-has_choice : RecoveryHasAChoice
recovery-has_choice sys w steps outcomes last r lost =
    let f = reached sys w steps outcomes last r in
    record {
      choice = low_choice last f.notices;
      consistent = low-any sys last f.notices f.watermark lost kept;
      chains = ascending-chains sys last f.ascend lost kept;
    }

pub failed-recovered : FailedNodesAreRecovered
failed-recovered sys w steps outcomes last r p there failed =
    recover-enabled sys last (recovery-has_choice sys w steps outcomes last r (is_failed last)) p there failed

has_its-choice : (sys : System) (state : Machine) → ((lost : ℕ → Bool) → CanChoose sys state lost) → (step : Step) → HasItsChoice sys state step
has_its-choice sys state c Recover = c (is_failed state)
has_its-choice sys state c Collect = c (λ p. true)
has_its-choice sys state c step = tt

pub reached-one_next : ReachedStatesHaveOneNextState
reached-one_next sys w steps outcomes last r step =
    exactly_one_next sys last w.flow step (has_its-choice sys last (recovery-has_choice sys w steps outcomes last r) step)

pub largest-holds_low : LargestChoiceHoldsLowWatermark
largest-holds_low sys w steps outcomes last r lost view choice m =
    let f = reached sys w steps outcomes last r in
    low-within sys last f.notices f.watermark lost view choice m

same-node : (sys : System) (state next : Machine) → next.low ≡ state.low → (p : ℕ) → Within (at_node sys state.low p) (at_node sys next.low p)
same-node sys state next e p t i = ap (λ fs. at_node sys fs p t) e ∙ i

pub took-grows : (sys : System) (state : Machine) (notices : List Front) (step : Step) (next : Machine) (effect : Effect) → IsLowConsistent sys state notices
    → LeadsTo sys state step next effect → (p : ℕ) → p < length sys.flow.nodes → Within (at_node sys state.low p) (at_node sys next.low p)
took-grows sys state notices (Inject s) next effect c t p l = same-node sys state next (ap (λ (m : Machine). m.low) t.3) p
took-grows sys state notices (Deliver e at) next effect c t p l = same-node sys state next (ap (λ (m : Machine). m.low) t.3) p
took-grows sys state notices (Notify q at) next effect c t p l = same-node sys state next (ap (λ (m : Machine). m.low) t.3) p
took-grows sys state notices ProgressStep next effect c t p l = same-node sys state next (ap (λ (m : Machine). m.low) t.3) p
took-grows sys state notices (Checkpoint q) next effect c t p l = same-node sys state next (ap (λ (m : Machine). m.low) t.3) p
took-grows sys state notices Persist next effect c t p l = same-node sys state next (ap (λ (m : Machine). m.low) t.2) p
took-grows sys state notices (Fail ps) next effect c t p l = same-node sys state next (ap (λ (m : Machine). m.low) t.4) p
took-grows sys state notices Recover next effect c t p l = same-node sys state next (ap (λ (m : Machine). m.low) t.7) p
took-grows sys state notices Collect next effect c t p l =
    subst (λ (m : Machine). Within (at_node sys state.low p) (at_node sys m.low p)) (sym t.3) (watermark-grows sys state notices t.0 c t.1 p l)
took-grows sys state notices (Ack o) next effect c t p l = same-node sys state next (ap (λ (m : Machine). m.low) t.2) p

pub never-falls : LowWatermarkNeverFalls
never-falls sys w steps outcomes last r step next (did effect) t p l =
    let f = reached sys w steps outcomes last r in
    took-grows sys last f.notices step next effect f.watermark t p l
never-falls sys w steps outcomes last r step next idle t p l = same-node sys last next (ap (λ (m : Machine). m.low) t.1) p

-- ---- what was collected changes no choice

restorable-kept : (sys : System) (state : Machine) (p : ℕ) (way : Restoring) (f : Front) → p < length sys.flow.nodes → HasCollectedBelow sys state
    → IsCanonical (bounds_of sys.flow p) f → Within (at_node sys state.low p) (frontier_of (bounds_of sys.flow p) f)
    → IsRestorable sys state ever p way f → IsRestorable sys state kept p way f
restorable-kept sys state p Batches f l b c v a = a
restorable-kept sys state p Bound f l b c v a = a
restorable-kept sys state p Anything f l b c v a = a
restorable-kept sys state p Checkpoints f l b c v a = elim a [
  | inl n ↦ inl n
  | inr k ↦ inr (checkpoint-some kept p f state.writes (kept-from_ever sys state.low p f state.writes l c v b (some-checkpoint ever p f state.writes k)))
]
restorable-kept sys state p Events f l b c v a = a

-- a cut that contains the low watermark is offered among what is kept
candidate-kept : (sys : System) (state : Machine) (lost : ℕ → Bool) (p : ℕ) (cut : Cut) → p < length sys.flow.nodes → HasCollectedBelow sys state
    → IsCutWithin sys.flow p (At (front_of state.low p)) cut → IsCandidate sys state lost ever p cut → IsCandidate sys state lost kept p cut
candidate-kept sys state lost p Present l b v a = a
candidate-kept sys state lost p (At f) l b v a =
    (a.0, restorable-kept sys state p (way_of sys.flow p) f l b a.0 v a.1, v)

ever-of_kept : (sys : System) (state : Machine) (lost : ℕ → Bool) (choice : Choice) → IsConsistent sys state (IsCandidate sys state lost kept) choice
    → IsConsistent sys state (IsCandidate sys state lost ever) choice
ever-of_kept sys state lost choice c = offered-consistent sys state lost lost kept ever choice (λ p l a. candidate-ever sys state lost ever p (cut_of choice p) a) c

-- the largest with what was collected is consistent among what is kept
kept-of_ever : (sys : System) (state : Machine) (lost : ℕ → Bool) (notices : List Front) (choice : Choice) → IsLowConsistent sys state notices → HasCollectedBelow sys state
    → IsLargest sys state (IsCandidate sys state lost ever) choice → IsConsistent sys state (IsCandidate sys state lost kept) choice
kept-of_ever sys state lost notices choice c b m =
    offered-consistent sys state lost lost ever kept choice
    (λ p l a. candidate-kept sys state lost p (cut_of choice p) l b (low-within sys state notices c lost ever choice m p l) a) m.consistent

pub kept-is_ever : LargestOfKeptIsLargestOfEver
kept-is_ever sys w steps outcomes last r lost choice =
    let f = reached sys w steps outcomes last r in (
      λ m.
          let c = ever-of_kept sys last lost choice m.consistent in
          let g = largest-exists sys last lost ever (ascending-chains sys last f.ascend lost ever) choice c in
          let k = kept-of_ever sys last lost f.notices g.0 f.watermark f.lie_below g.1 in
          record {
            consistent = c;
            largest = λ other o. within-trans sys other g.0 choice (g.1.largest other o) (m.largest g.0 k);
          },
      λ m. record {
        consistent = kept-of_ever sys last lost f.notices choice f.watermark f.lie_below m;
        largest = λ other o. m.largest other (ever-of_kept sys last lost other o);
      },
    )
