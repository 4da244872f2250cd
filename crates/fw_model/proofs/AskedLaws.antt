-- What holds of the writes of each state of a run: of which nodes they are, what they hold, and that no two hold the same.
use Rattle.std.proofs.Common.{◌≡◌, ℕ, zero, suc, ◌+◌, ◌<◌, ◌≤◌, Bool, true, false, cond, not, ◌&&◌, ◌==◌, List, [], ◌∷◌, ◌++◌, length, filter, map, Option, Some, None, refl, sym, ap, subst, ◌∙◌, inl, inr, arith}
use Rattle.std.specs.List.{AllByRecursion, list_any, range_with_len}
use Rattle.std.proofs.lemmas.Bool.{not-true, and_parts, and_from, or_cases, cond_both, cases_Bool, cases_lt, eqb-true, eq-eqb}
use Rattle.std.proofs.lemmas.List.{get_or_past, length-map}
use Rattle.std.proofs.lemmas.List.FromFn.{get_or-map-range_with_len}
use Rattle.fw_lemmas.proofs.Bools.{two_ways}
use Rattle.fw_lemmas.proofs.Each.{each-weaker, each-both, each-one, each-append, each-map, each-passed, each-replaced, each-each}
use Rattle.fw_lemmas.proofs.Numbers.{at_most-refl}
use Rattle.fw_time.specs.Stamp.{Stamp}
use Rattle.fw_frontier.specs.Frontier.{Frontier, Within}
use Rattle.fw_frontier.specs.Front.{Front, frontier_of, IsCanonical, same_front}
use Rattle.fw_flow.specs.declared.choice.Cut.{Cut}
use Rattle.fw_flow.specs.declared.choice.Cut.TheVariants.{Present, At}
use Rattle.fw_flow.specs.declared.event.Event.{Event}
use Rattle.fw_flow.specs.declared.event.Event.TheVariants.{Inject as Injected, Deliver as Delivered, Notify as Notified}
use Rattle.fw_flow.specs.Kind.{Kind}
use Rattle.fw_flow.specs.declared.kind.Kind.TheVariants.{Input, OutputEpoch, OutputNumber}
use Rattle.fw_flow.specs.declared.kind.Policy.{Policy}
use Rattle.fw_flow.specs.declared.kind.Policy.TheVariants as policy
use Rattle.fw_flow.specs.declared.node.Node.{Node}
use Rattle.fw_flow.specs.declared.step.Step.{Step}
use Rattle.fw_flow.specs.declared.step.Step.TheVariants.{Inject, Deliver, Notify, Progress as ProgressStep, Checkpoint, Persist, Fail, Recover, Collect, Ack}
use Rattle.fw_flow.specs.Dataflow.{System, Dataflow, idle_node, kind_of, policy_of, receiver, out_edges, bounds_of, send_stamp, node_ids, is_one_of}
use Rattle.fw_flow.specs.NodeFunction.{event_node, event_stamp}
use Rattle.fw_flow.specs.WellFormed.{IsWellFormed, IsWellFormedSystem, IsPolicyAllowed, may_keep_nothing}
use Rattle.fw_model.specs.Denotation.{Family, rounds}
use Rattle.fw_model.specs.Machine.{Machine, SerialEvent, Write, Written, checkpoint, logged_event, Stage, in_flight, acknowledged, collected, no_stamps, first_state, front_of, is_failed}
use Rattle.fw_flow.specs.declared.choice.Choice.{Choice}
use Rattle.fw_model.specs.Choice.{kept, cut_of, kept_of, IsCandidate, IsLargest, filtered_history}
use Rattle.fw_model.specs.Steps.{Effect, Outcome, did, idle, LeadsTo, Run, write_of_event, with_event, checkpoint_of, is_eager, GrowsTo, is_asked_for_checkpoints, checkpoint_front, checkpoints_of, last_or, newest_checkpoint, AcknowledgesOldest, is_in_flight, with_failed, is_kept_write, IsSettledCut, CutsTo, recovered_state, front_of_cut, inside_if_some, sends_inside, is_given_up, is_serial_given_up, lies_below, after_collection, collected_writes, is_forgotten}
use Rattle.fw_flow.specs.declared.restoring.Restoring.TheVariants.{Checkpoints}
use Rattle.fw_flow.specs.Restoring.{restoring_of_policy, restoring}
use Rattle.fw_frontier.proofs.SameLaws.{same_front-itself}
use Rattle.fw_model.proofs.ChoiceLaws.{same_fronts}
use Rattle.fw_model.proofs.DenotationLaws.{denotation-exists}
use Rattle.fw_model.proofs.CheckpointLaws.{HoldsSettled, IsWriteSettled, AreWritesSettled, HasWritesSettled, settled-grows}
use Rattle.fw_model.proofs.SameInsideLaws.{at_node, IsLowConsistent, low_length}
use Rattle.fw_model.proofs.WriteLaws.{ArePairs, pairs-append, pairs-passed, pairs-mapped, pairs-replaced, LiesBelow, AreAscending}
use Rattle.fw_model.proofs.LowLaws.{none-canonical}
use Rattle.fw_model.proofs.ChoosingLaws.{CanRecover, settled_writes, watermark-grows, took-recover, first-recover}
use Rattle.fw_model.proofs.BelowLaws.{forgotten-below}
use Rattle.fw_model.specs.Measure.{enough_rounds}
use Rattle.fw_model.specs.Writes.{takes_checkpoints}

-- ---- nodes that take checkpoints

pub eager-takes : (p : Policy) → is_eager p ≡ true → takes_checkpoints p ≡ true
eager-takes policy.Eager e = refl
eager-takes p e = absurd (cc)

pub asked-takes : (p : Policy) → is_asked_for_checkpoints p ≡ true → takes_checkpoints p ≡ true
asked-takes policy.Lazy e = refl
asked-takes policy.Logged e = refl
asked-takes p e = absurd (cc)

-- a node that takes checkpoints is there
pub takes-declared : (flow : Dataflow) (p : ℕ) → takes_checkpoints (policy_of flow p) ≡ true → p < length flow.nodes
unfolding policy_of
takes-declared flow p k = elim (cases_lt p (length flow.nodes)) [
  | inl l ↦ l
  | inr past ↦ absurd (two_ways false (sym (ap (λ (n : Node). takes_checkpoints n.policy) (get_or_past flow.nodes p idle_node past)) ∙ k) refl)
]

policy-restoring : (p : Policy) → takes_checkpoints p ≡ true → restoring_of_policy p ≡ Checkpoints
policy-restoring policy.Lazy k = refl
policy-restoring policy.Logged k = refl
policy-restoring policy.Eager k = refl
policy-restoring p k = absurd (cc)

-- it is restored by them
pub takes-restoring : (kind : Kind) (p : Policy) → IsPolicyAllowed kind p → takes_checkpoints p ≡ true → restoring kind p ≡ Checkpoints
takes-restoring Input p a k = absurd (two_ways (takes_checkpoints p) k (ap takes_checkpoints a))
takes-restoring OutputEpoch p a k = absurd (two_ways (takes_checkpoints p) k (ap takes_checkpoints a))
takes-restoring OutputNumber p a k = absurd (two_ways (takes_checkpoints p) k (ap takes_checkpoints a))
takes-restoring kind p a k = policy-restoring p k

allowed-input : (kind : Kind) (p : Policy) → IsPolicyAllowed kind p → kind ≡ Input → p ≡ policy.None
allowed-input Input p a e = a
allowed-input kind p a e = absurd (cc)

-- it is no input
pub takes-not_input : (flow : Dataflow) → IsWellFormed flow → (p : ℕ) → takes_checkpoints (policy_of flow p) ≡ true → kind_of flow p ≡ Input → ⊥
takes-not_input flow w p k e =
    let none = allowed-input (kind_of flow p) (policy_of flow p) (w.policies p (takes-declared flow p k)) e in
    two_ways (takes_checkpoints (policy_of flow p)) k (ap takes_checkpoints none)

-- ---- serials

-- the serials of a history lie below the number, and each event's above those of the earlier ones
abbrev pub AreSerialsBelow : ℕ → List SerialEvent → Type 0
AreSerialsBelow n [] = Unit {0}
AreSerialsBelow n (v ∷ h) = (v.serial < n) × AreSerialsBelow v.serial h

pub serials-each : (n m : ℕ) (h : List SerialEvent) → n ≤ m → AreSerialsBelow n h → AllByRecursion (λ (v : SerialEvent). v.serial < m) h
serials-each n m [] l a = tt
serials-each n m (v ∷ h) l a = let b = a.0 in (omega arith, serials-each v.serial m h (omega arith) a.1)

serials-more : (m n : ℕ) (h : List SerialEvent) → m ≤ n → AreSerialsBelow m h → AreSerialsBelow n h
serials-more m n [] l a = tt
serials-more m n (v ∷ h) l a = let b = a.0 in (omega arith, a.1)

serials-passed : (n : ℕ) (test : SerialEvent → Bool) (h : List SerialEvent) → AreSerialsBelow n h → AreSerialsBelow n (filter test h)
serials-passed n test [] a = tt
serials-passed n test (v ∷ h) a =
    let rest = serials-passed v.serial test h a.1 in
    let b = a.0 in
    cond_both (test v) (v ∷ filter test h) (filter test h) (AreSerialsBelow n) (λ e. (b, rest)) (λ e. serials-more v.serial n (filter test h) (omega arith) rest)

-- one of the list that passes the test
pub any-find : {X : Type 0} (test : X → Bool) (P : X → Type 0) (xs : List X) → list_any test xs ≡ true → AllByRecursion P xs → (x : X) × (test x ≡ true) × P x
any-find test P [] k a = absurd (two_ways false k refl)
any-find test P (x ∷ xs) k a = elim (or_cases (test x) (list_any test xs) k) [ inl i ↦ (x, i, a.0) | inr i ↦ any-find test P xs i a.1 ]

-- what holds of some event of the serial holds of each
serial-each : (n s : ℕ) (test : SerialEvent → Bool) (h : List SerialEvent) → AreSerialsBelow n h → list_any (λ v. v.serial == s && test v) h ≡ true
    → AllByRecursion (λ (v : SerialEvent). v.serial ≡ s → test v ≡ true) h
serial-each n s test [] a k = tt
serial-each n s test (v ∷ h) a k =
    let below = serials-each v.serial v.serial h (at_most-refl v.serial) a.1 in
    elim (or_cases (v.serial == s && test v) (list_any (λ u. u.serial == s && test u) h) k) [
      | inl i ↦
          let b = and_parts (v.serial == s) (test v) i in
          let is = eqb-true v.serial s b.0 in
          ((λ e. b.1), each-weaker (λ (u : SerialEvent). u.serial < v.serial) (λ u. u.serial ≡ s → test u ≡ true) h (λ u l e. absurd (omega arith)) below)
      | inr i ↦
          let u = any-find (λ u. u.serial == s && test u) (λ (u : SerialEvent). u.serial < v.serial) h i below in
          let is = eqb-true u.0.serial s (and_parts (u.0.serial == s) (test u.0) u.1).0 in
          let less = u.2 in
          ((λ e. absurd (omega arith)), serial-each v.serial s test h a.1 i)
    ]

-- ---- what is given up

some-grows : (f g : Frontier) → Within f g → (u : Option Stamp) → inside_if_some f u ≡ true → inside_if_some g u ≡ true
some-grows f g w None k = refl
some-grows f g w (Some u) k = w u k

-- the second watermark contains the first
abbrev pub LowGrows : System → List Front → List Front → Type 0
LowGrows sys old low = (p : ℕ) → Within (at_node sys old p) (at_node sys low p)

sends-grow : (sys : System) (old low : List Front) → LowGrows sys old low → (p : ℕ) (t : Stamp) (es : List ℕ) → sends_inside sys old p t es ≡ true → sends_inside sys low p t es ≡ true
sends-grow sys old low g p t [] k = refl
sends-grow sys old low g p t (e ∷ es) k =
    let r = receiver sys.flow e in
    let u = send_stamp sys.flow p t in
    let a = and_parts (inside_if_some (at_node sys old r) u) (sends_inside sys old p t es) k in
    and_from (inside_if_some (at_node sys low r) u) (sends_inside sys low p t es) (some-grows (at_node sys old r) (at_node sys low r) (g r) u a.0) (sends-grow sys old low g p t es a.1)

-- what is given up lies inside the node's front
pub given-stamp : (sys : System) (low : List Front) (p : ℕ) (t : Stamp) → is_given_up sys low p t ≡ true → at_node sys low p t ≡ true
given-stamp sys low p t k =
    let may = may_keep_nothing (kind_of sys.flow p) in
    (and_parts may (at_node sys low p t) (and_parts (may && at_node sys low p t) (sends_inside sys low p t (out_edges sys.flow p)) k).0).1

pub given-grows : (sys : System) (old low : List Front) → LowGrows sys old low → (p : ℕ) (t : Stamp) → is_given_up sys old p t ≡ true → is_given_up sys low p t ≡ true
given-grows sys old low g p t k =
    let may = may_keep_nothing (kind_of sys.flow p) in
    let es = out_edges sys.flow p in
    let a = and_parts (may && at_node sys old p t) (sends_inside sys old p t es) k in
    let b = and_parts may (at_node sys old p t) a.0 in
    and_from (may && at_node sys low p t) (sends_inside sys low p t es) (and_from may (at_node sys low p t) b.0 (g p t b.1)) (sends-grow sys old low g p t es a.1)

-- ---- what is written of a node

-- a logged event that was collected is one of a node that may keep nothing, and is given up
abbrev pub IsGivenUpOnce : System → List Front → List SerialEvent → ℕ → ℕ → Stage → Type 0
IsGivenUpOnce sys low h p s in_flight = Unit {0}
IsGivenUpOnce sys low h p s acknowledged = Unit {0}
IsGivenUpOnce sys low h p s collected =
    (may_keep_nothing (kind_of sys.flow p) ≡ true) × AllByRecursion (λ (v : SerialEvent). v.serial ≡ s → is_given_up sys low p (event_stamp v.event) ≡ true) h

-- A checkpoint is one of a node that takes them, at a canonical front, kept with a watermark within the one of now. A logged
-- event has a serial that was given out, is one of the node, if it was collected given up, and its node logs each event.
abbrev pub IsAskedWell : System → List Front → ℕ → List SerialEvent → ℕ → Written → Stage → Type 0
IsAskedWell sys low next h p (checkpoint f kept_low) far =
    (takes_checkpoints (policy_of sys.flow p) ≡ true) × IsCanonical (bounds_of sys.flow p) f × LowGrows sys kept_low low
IsAskedWell sys low next h p (logged_event s) far =
    (s < next) × AllByRecursion (λ (v : SerialEvent). v.serial ≡ s → event_node sys.flow v.event ≡ p) h × IsGivenUpOnce sys low h p s far
    × (policy_of sys.flow p ≡ policy.Full)

abbrev pub IsWriteAskedWell : System → List Front → ℕ → List SerialEvent → Write → Type 0
IsWriteAskedWell sys low next h write = IsAskedWell sys low next h write.node write.written write.stage

abbrev pub AreAskedWell : System → List Front → ℕ → List SerialEvent → List Write → Type 0
AreAskedWell sys low next h writes = AllByRecursion (IsWriteAskedWell sys low next h) writes

event-given : (sys : System) (low : List Front) (v : SerialEvent) (h : List SerialEvent) (p s : ℕ) (far : Stage) → s < v.serial → IsGivenUpOnce sys low h p s far
    → IsGivenUpOnce sys low (v ∷ h) p s far
event-given sys low v h p s in_flight l a = tt
event-given sys low v h p s acknowledged l a = tt
event-given sys low v h p s collected l a = (a.0, ((λ e. absurd (omega arith)), a.1))

event-well : (sys : System) (low : List Front) (v : SerialEvent) (h : List SerialEvent) (p : ℕ) (w : Written) (far : Stage) → IsAskedWell sys low v.serial h p w far
    → IsAskedWell sys low (v.serial + 1) (v ∷ h) p w far
event-well sys low v h p (checkpoint f l) far a = a
event-well sys low v h p (logged_event s) far a =
    let less = a.0 in (omega arith, ((λ e. absurd (omega arith)), a.1), event-given sys low v h p s far less a.2, a.3)

passed-given : (sys : System) (low : List Front) (test : SerialEvent → Bool) (h : List SerialEvent) (p s : ℕ) (far : Stage) → IsGivenUpOnce sys low h p s far
    → IsGivenUpOnce sys low (filter test h) p s far
passed-given sys low test h p s in_flight a = tt
passed-given sys low test h p s acknowledged a = tt
passed-given sys low test h p s collected a =
    let P : SerialEvent → Type 0 = λ v. v.serial ≡ s → is_given_up sys low p (event_stamp v.event) ≡ true in
    (a.0, each-passed P P test h (λ v k b. b) a.1)

passed-well : (sys : System) (low : List Front) (next : ℕ) (test : SerialEvent → Bool) (h : List SerialEvent) (p : ℕ) (w : Written) (far : Stage)
    → IsAskedWell sys low next h p w far → IsAskedWell sys low next (filter test h) p w far
passed-well sys low next test h p (checkpoint f l) far a = a
passed-well sys low next test h p (logged_event s) far a =
    let P : SerialEvent → Type 0 = λ v. v.serial ≡ s → event_node sys.flow v.event ≡ p in
    (a.0, each-passed P P test h (λ v k b. b) a.1, passed-given sys low test h p s far a.2, a.3)

acknowledged-well : (sys : System) (low : List Front) (next : ℕ) (h : List SerialEvent) (p : ℕ) (w : Written) (far : Stage) → IsAskedWell sys low next h p w far
    → IsAskedWell sys low next h p w acknowledged
acknowledged-well sys low next h p (checkpoint f l) far a = a
acknowledged-well sys low next h p (logged_event s) far a = (a.0, a.1, tt, a.3)

collected-given : (sys : System) (old low : List Front) (n : ℕ) (h : List SerialEvent) (p s : ℕ) → LowGrows sys old low → AreSerialsBelow n h
    → AllByRecursion (λ (v : SerialEvent). v.serial ≡ s → event_node sys.flow v.event ≡ p) h → (goes : Bool) → (goes ≡ true → is_serial_given_up sys low s h ≡ true)
    → (far : Stage) → IsGivenUpOnce sys old h p s far → IsGivenUpOnce sys low h p s (after_collection goes far)
collected-given sys old low n h p s g b c goes k in_flight a = tt
collected-given sys old low n h p s g b c goes k collected a = (
  a.0,
  each-weaker (λ (v : SerialEvent). v.serial ≡ s → is_given_up sys old p (event_stamp v.event) ≡ true) (λ v. v.serial ≡ s → is_given_up sys low p (event_stamp v.event) ≡ true) h
      (λ v k e. given-grows sys old low g p (event_stamp v.event) (k e)) a.1,
)
collected-given sys old low n h p s g b c goes k acknowledged a =
    let N : SerialEvent → Type 0 = λ v. v.serial ≡ s → event_node sys.flow v.event ≡ p in
    let test : SerialEvent → Bool = λ v. is_given_up sys low (event_node sys.flow v.event) (event_stamp v.event) in
    cond_both goes collected acknowledged (λ far. IsGivenUpOnce sys low h p s far)
    (λ gone.
    let e = k gone in
    let v = any-find (λ v. v.serial == s && test v) N h e c in
    let i = and_parts (v.0.serial == s) (test v.0) v.1 in
    let is : event_node sys.flow v.0.event ≡ p = v.2 (eqb-true v.0.serial s i.0) in
    let t = event_stamp v.0.event in
    let given : is_given_up sys low p t ≡ true = subst (λ q. is_given_up sys low q t ≡ true) is i.1 in
    let may = may_keep_nothing (kind_of sys.flow p) in (
      (and_parts may (at_node sys low p t) (and_parts (may && at_node sys low p t) (sends_inside sys low p t (out_edges sys.flow p)) given).0).0,
      each-weaker (λ (v : SerialEvent). (v.serial ≡ s → test v ≡ true) × N v) (λ v. v.serial ≡ s → is_given_up sys low p (event_stamp v.event) ≡ true) h
          (λ v k e. subst (λ q. is_given_up sys low q (event_stamp v.event) ≡ true) (k.1 e) (k.0 e))
          (each-both (λ (v : SerialEvent). v.serial ≡ s → test v ≡ true) N h (serial-each n s test h b e) c),
    ))
    (λ e. tt)

collected-well : (sys : System) (old low : List Front) (next : ℕ) (h : List SerialEvent) → LowGrows sys old low → AreSerialsBelow next h → (p : ℕ) (w : Written) (goes : Bool)
    → (goes ≡ true → lies_below sys low h p w ≡ true) → (far : Stage) → IsAskedWell sys old next h p w far → IsAskedWell sys low next h p w (after_collection goes far)
collected-well sys old low next h g b p (checkpoint f l) goes k far a = (a.0, a.1, λ q t i. g q t (a.2 q t i))
collected-well sys old low next h g b p (logged_event s) goes k far a = (a.0, a.1, collected-given sys old low next h p s g b a.1 goes k far a.2, a.3)

-- ---- no two hold the same

-- of two that are written, not both are a checkpoint of one node at one front, nor the same logged event
abbrev pub IsApart : ℕ → Written → ℕ → Written → Type 0
IsApart p (checkpoint f l) q (checkpoint g m) = p ≡ q → f ≡ g → ⊥
IsApart p (checkpoint f l) q (logged_event s) = Unit {0}
IsApart p (logged_event r) q (checkpoint g m) = Unit {0}
IsApart p (logged_event r) q (logged_event s) = r ≡ s → ⊥

new-apart : (sys : System) (low : List Front) (next : ℕ) (h : List SerialEvent) (p : ℕ) (w : Written) (far : Stage) (q : ℕ) → IsAskedWell sys low next h p w far
    → IsApart p w q (logged_event next)
new-apart sys low next h p (checkpoint f l) far q a = tt
new-apart sys low next h p (logged_event s) far q a = λ e. let less = a.0 in omega arith

-- ---- what holds of each state of a run

pub record CanRestore (sys : System) (state : Machine) : Type 0 where
  pub settled : (p : ℕ) → p < length sys.flow.nodes → IsCanonical (bounds_of sys.flow p) (front_of state.settled p)
  pub serials : AreSerialsBelow state.next state.history
  pub asked : AreAskedWell sys state.low state.next state.history state.writes
  pub apart : ArePairs IsApart state.writes

-- ---- an event

event-asked : (sys : System) (low : List Front) (next : ℕ) (v : Event) (h : List SerialEvent) → AreSerialsBelow next h → (p : Policy)
    → policy_of sys.flow (event_node sys.flow v) ≡ p → AreAskedWell sys low (next + 1) (record { serial = next; event = v } ∷ h) (write_of_event p (event_node sys.flow v) next)
event-asked sys low next v h a policy.Full e = (
  (
    omega arith,
    (
      (λ e. refl),
      each-weaker (λ (u : SerialEvent). u.serial < next) (λ u. u.serial ≡ next → event_node sys.flow u.event ≡ event_node sys.flow v) h (λ u l e. absurd (omega arith))
          (serials-each next next h (at_most-refl next) a),
    ),
    tt,
    e,
  ),
  tt,
)
event-asked sys low next v h a p e = tt

event-alone : (p : Policy) (q serial : ℕ) → ArePairs IsApart (write_of_event p q serial)
event-alone policy.Full q serial = (tt, tt)
event-alone p q serial = tt

event-apart : (sys : System) (low : List Front) (next : ℕ) (h : List SerialEvent) (x : Write) (p : Policy) (q : ℕ) → IsWriteAskedWell sys low next h x
    → AllByRecursion (λ (y : Write). IsApart x.node x.written y.node y.written) (write_of_event p q next)
event-apart sys low next h x policy.Full q a = (new-apart sys low next h x.node x.written x.stage q a, tt)
event-apart sys low next h x p q a = tt

event-restore : (sys : System) (state : Machine) (v : Event) → CanRestore sys state → CanRestore sys (with_event sys state v)
event-restore sys state v c =
    let p = event_node sys.flow v in
    let asks = policy_of sys.flow p in
    let now : SerialEvent = record { serial = state.next; event = v } in
    let more = write_of_event asks p state.next in
    record {
      settled = c.settled;
      serials = (omega arith, c.serials);
      asked = each-append (IsWriteAskedWell sys state.low (state.next + 1) (now ∷ state.history)) state.writes more
          (each-weaker (IsWriteAskedWell sys state.low state.next state.history) (IsWriteAskedWell sys state.low (state.next + 1) (now ∷ state.history)) state.writes
          (λ x a. event-well sys state.low now state.history x.node x.written x.stage a) c.asked)
          (event-asked sys state.low state.next v state.history c.serials asks refl);
      apart = pairs-append IsApart state.writes more c.apart (event-alone asks p state.next)
          (each-weaker (IsWriteAskedWell sys state.low state.next state.history) (λ x. AllByRecursion (λ (y : Write). IsApart x.node x.written y.node y.written) more) state.writes
          (λ x a. event-apart sys state.low state.next state.history x asks p a) c.asked);
    }

-- ---- checkpoints that are asked

-- no two of the places are one
abbrev pub AreOthers : List ℕ → Type 0
AreOthers [] = Unit {0}
AreOthers (p ∷ ps) = AllByRecursion (λ q. p ≡ q → ⊥) ps × AreOthers ps

pub others-passed : (test : ℕ → Bool) (ps : List ℕ) → AreOthers ps → AreOthers (filter test ps)
others-passed test [] a = tt
others-passed test (p ∷ ps) a =
    let rest = others-passed test ps a.1 in
    cond_both (test p) (p ∷ filter test ps) (filter test ps) AreOthers (λ e. (each-passed (λ q. p ≡ q → ⊥) (λ q. p ≡ q → ⊥) test ps (λ q k b. b) a.0, rest)) (λ e. rest)

range-from : (k m n : ℕ) → k ≤ m → AllByRecursion (λ q. k ≤ q) (range_with_len m n)
range-from k m zero l = tt
range-from k m (suc n) l = (l, range-from k (m + 1) n (omega arith))

pub range-others : (m n : ℕ) → AreOthers (range_with_len m n)
range-others m zero = tt
range-others m (suc n) = (
  each-weaker (λ q. m + 1 ≤ q) (λ q. m ≡ q → ⊥) (range_with_len (m + 1) n) (λ q l e. omega arith) (range-from (m + 1) (m + 1) n (at_most-refl (m + 1))),
  range-others (m + 1) n,
)

-- these nodes take checkpoints, and none of their checkpoints is at what is settled now
abbrev pub MayAsk : System → List Front → List Front → List Write → List ℕ → Type 0
MayAsk sys low settled writes ps = AllByRecursion (λ p. (takes_checkpoints (policy_of sys.flow p) ≡ true)
    × AllByRecursion (λ (x : Write). IsApart x.node x.written p (checkpoint (front_of settled p) low)) writes) ps

settled-alone : (state : Machine) (settled : List Front) (ps : List ℕ) → AreOthers ps → ArePairs IsApart (settled_writes state settled ps)
settled-alone state settled [] a = tt
settled-alone state settled (p ∷ ps) a = (
  each-map (λ (y : Write). IsApart p (checkpoint (front_of settled p) state.low) y.node y.written) (λ q. checkpoint_of state q (front_of settled q)) ps
      (each-weaker (λ q. p ≡ q → ⊥) (λ q. IsApart p (checkpoint (front_of settled p) state.low) q (checkpoint (front_of settled q) state.low)) ps (λ q n e i. n e) a.0),
  settled-alone state settled ps a.1,
)

asked-restore : (sys : System) (state : Machine) (settled : List Front) (ps : List ℕ)
    → ((p : ℕ) → p < length sys.flow.nodes → IsCanonical (bounds_of sys.flow p) (front_of settled p)) → AreOthers ps → MayAsk sys state.low settled state.writes ps
    → CanRestore sys state → CanRestore sys (record state { settled = settled; writes = state.writes ++ settled_writes state settled ps })
asked-restore sys state settled ps k o m c =
    let more = settled_writes state settled ps in
    let asks : ℕ → Write = λ p. checkpoint_of state p (front_of settled p) in
    let T : ℕ → Type 0 = λ p. (takes_checkpoints (policy_of sys.flow p) ≡ true)
    × AllByRecursion (λ (x : Write). IsApart x.node x.written p (checkpoint (front_of settled p) state.low)) state.writes in
    record {
      settled = k;
      serials = c.serials;
      asked = each-append (IsWriteAskedWell sys state.low state.next state.history) state.writes more c.asked
          (each-map (IsWriteAskedWell sys state.low state.next state.history) asks ps
          (each-weaker T (λ p. IsWriteAskedWell sys state.low state.next state.history (asks p)) ps
          (λ p a. (a.0, k p (takes-declared sys.flow p a.0), λ q t i. i)) m));
      apart = pairs-append IsApart state.writes more c.apart (settled-alone state settled ps o)
          (each-each (λ (x : Write) (y : Write). IsApart x.node x.written y.node y.written) state.writes more
          (each-map (λ (y : Write). AllByRecursion (λ (x : Write). IsApart x.node x.written y.node y.written) state.writes) asks ps
          (each-weaker T (λ p. AllByRecursion (λ (x : Write). IsApart x.node x.written p (checkpoint (front_of settled p) state.low)) state.writes) ps (λ p a. a.1) m)));
    }

-- where settled grew no checkpoint is at it
grown-apart : (sys : System) (before after : List Front) (p : ℕ) (low : List Front) → p < length sys.flow.nodes
    → Within (at_node sys before p) (at_node sys after p) → IsCanonical (bounds_of sys.flow p) (front_of before p) → IsCanonical (bounds_of sys.flow p) (front_of after p)
    → same_front (front_of before p) (front_of after p) ≡ false → (n : ℕ) (w : Written) → HoldsSettled sys before n w → IsApart n w p (checkpoint (front_of after p) low)
grown-apart sys before after p low l g cb ca d n (checkpoint f k) h = λ e i.
    let old = front_of before p in
    let new = front_of after p in
    let lies : Within (at_node sys after p) (at_node sys before p) =
    subst (λ x. Within (frontier_of (bounds_of sys.flow p) x) (at_node sys before p)) i
    (subst (λ q. q < length sys.flow.nodes → Within (frontier_of (bounds_of sys.flow q) f) (at_node sys before q)) e h l) in
    let one = same_fronts (bounds_of sys.flow p) old new cb ca g lies in
    two_ways (same_front old new) (subst (λ x. same_front old x ≡ true) one (same_front-itself old)) d
grown-apart sys before after p low l g cb ca d n (logged_event s) h = tt

progress-restore : (sys : System) (state : Machine) (done : ℕ → Frontier) (settled : List Front) → GrowsTo sys state done settled → HasWritesSettled sys state
    → CanRestore sys state
    → CanRestore sys (record state {
      settled = settled;
      writes = state.writes ++ settled_writes state settled
          (filter (λ p. is_eager (policy_of sys.flow p) && not (same_front (front_of state.settled p) (front_of settled p))) (node_ids sys.flow));
    })
progress-restore sys state done settled g h c =
    let test : ℕ → Bool = λ p. is_eager (policy_of sys.flow p) && not (same_front (front_of state.settled p) (front_of settled p)) in
    let now : (p : ℕ) → p < length sys.flow.nodes → IsCanonical (bounds_of sys.flow p) (front_of settled p) = λ p l. elim (cases_Bool (is_failed state p)) [
      | inl lost ↦ subst (IsCanonical (bounds_of sys.flow p)) (sym (g.failed p l lost)) (c.settled p l)
      | inr live ↦ (g.each p l live).canonical
    ] in
    asked-restore sys state settled (filter test (node_ids sys.flow)) now (others-passed test (node_ids sys.flow) (range-others 0 (length sys.flow.nodes)))
    (each-passed (λ p. Unit {0})
    (λ p. (takes_checkpoints (policy_of sys.flow p) ≡ true) × AllByRecursion (λ (x : Write). IsApart x.node x.written p (checkpoint (front_of settled p) state.low)) state.writes)
    test (node_ids sys.flow)
    (λ p k u.
    let differs = not (same_front (front_of state.settled p) (front_of settled p)) in
    let a = and_parts (is_eager (policy_of sys.flow p)) differs k in
    let takes = eager-takes (policy_of sys.flow p) a.0 in
    let l = takes-declared sys.flow p takes in (
      takes,
      each-weaker (IsWriteSettled sys state.settled) (λ x. IsApart x.node x.written p (checkpoint (front_of settled p) state.low)) state.writes
          (λ x b. grown-apart sys state.settled settled p state.low l (settled-grows sys state done settled g p l) (c.settled p l) (now p l)
          (not-true (same_front (front_of state.settled p) (front_of settled p)) a.1) x.node x.written b) h,
    ))
    (each-one (λ p. Unit {0}) (node_ids sys.flow) (λ p. tt))) c

-- ---- a checkpoint that is asked for

pub last-append : (f : Front) (fs gs : List Front) → last_or f (fs ++ gs) ≡ last_or (last_or f fs) gs
last-append f [] gs = refl
last-append f (g ∷ fs) gs = last-append g fs gs

-- what is written is a checkpoint at s, if it is one of node p
abbrev IsAt : ℕ → Front → ℕ → Written → Type 0
IsAt p s n (checkpoint g l) = n ≡ p → g ≡ s
IsAt p s n (logged_event r) = Unit {0}

all-at : (p : ℕ) (s : Front) (xs : List Write) → AllByRecursion (λ (x : Write). IsAt p s x.node x.written) xs → last_or s (checkpoints_of p xs) ≡ s
all-at p s [] a = refl
all-at p s (x ∷ xs) a =
    let rest = all-at p s xs a.1 in
    cond_both (x.node == p) (checkpoint_front x.written) [] (λ fs. last_or s (fs ++ checkpoints_of p xs) ≡ s)
    (λ e. at x.written rest (eqb-true x.node p e) a.0) (λ e. rest)
  where
    at : (w : Written) → last_or s (checkpoints_of p xs) ≡ s → x.node ≡ p → IsAt p s x.node w → last_or s (checkpoint_front w ++ checkpoints_of p xs) ≡ s
    at (checkpoint g l) rest e b = subst (λ z. last_or z (checkpoints_of p xs) ≡ s) (sym (b e)) rest
    at (logged_event r) rest e b = rest

-- after a checkpoint at what is settled, all of the node's are
later-at : (sys : System) (settled low : List Front) (next : ℕ) (h : List SerialEvent) (p : ℕ) (f : Front) (l : List Front) → p < length sys.flow.nodes
    → IsCanonical (bounds_of sys.flow p) (front_of settled p) → f ≡ front_of settled p → (n : ℕ) (w : Written) (far : Stage)
    → LiesBelow sys p (checkpoint f l) n w → HoldsSettled sys settled n w → IsAskedWell sys low next h n w far → IsAt p (front_of settled p) n w
later-at sys settled low next h p f l d c e n (checkpoint g m) far b s a = λ i.
    let bounds = bounds_of sys.flow p in
    same_fronts bounds g (front_of settled p) (subst (λ q. IsCanonical (bounds_of sys.flow q) g) i a.1) c
    (subst (λ q. q < length sys.flow.nodes → Within (frontier_of (bounds_of sys.flow q) g) (at_node sys settled q)) i s d)
    (subst (λ x. Within (frontier_of bounds x) (frontier_of bounds g)) e (b (sym i) d))
later-at sys settled low next h p f l d c e n (logged_event r) far b s a = tt

-- where the newest checkpoint of a node is not at what is settled, none is
newest-apart : (sys : System) (settled low kept_low : List Front) (next : ℕ) (h : List SerialEvent) (p : ℕ) → p < length sys.flow.nodes
    → IsCanonical (bounds_of sys.flow p) (front_of settled p) → (f : Front) (xs : List Write)
    → (front_of settled p ≡ last_or f (checkpoints_of p xs) → ⊥) → AreWritesSettled sys settled xs → AreAscending sys xs → AreAskedWell sys low next h xs
    → AllByRecursion (λ (x : Write). IsApart x.node x.written p (checkpoint (front_of settled p) kept_low)) xs
newest-apart sys settled low kept_low next h p d c f [] n s a b = tt
newest-apart sys settled low kept_low next h p d c f (x ∷ xs) n s a b =
    let mine = cond (x.node == p) (checkpoint_front x.written) [] in (
      here x.node x.written n a.0,
      newest-apart sys settled low kept_low next h p d c (last_or f mine) xs (λ e. n (e ∙ sym (last-append f mine (checkpoints_of p xs)))) s.1 a.1 b.1,
    )
  where
    here : (m : ℕ) (w : Written) → (front_of settled p ≡ last_or f (cond (m == p) (checkpoint_front w) [] ++ checkpoints_of p xs) → ⊥)
        → AllByRecursion (λ (y : Write). LiesBelow sys m w y.node y.written) xs → IsApart m w p (checkpoint (front_of settled p) kept_low)
    here m (checkpoint g l) n a = λ e i.
        let rest = all-at p (front_of settled p) xs
        (each-weaker (λ (y : Write). LiesBelow sys m (checkpoint g l) y.node y.written × (IsWriteSettled sys settled y × IsWriteAskedWell sys low next h y))
        (λ y. IsAt p (front_of settled p) y.node y.written) xs
        (λ y k. later-at sys settled low next h p g l d c i y.node y.written y.stage
        (subst (λ q. LiesBelow sys q (checkpoint g l) y.node y.written) e k.0) k.1.0 k.1.1)
        (each-both (λ (y : Write). LiesBelow sys m (checkpoint g l) y.node y.written) (λ y. IsWriteSettled sys settled y × IsWriteAskedWell sys low next h y) xs a
        (each-both (IsWriteSettled sys settled) (IsWriteAskedWell sys low next h) xs s.1 b.1))) in
        n (sym (cond_both (m == p) (g ∷ []) [] (λ fs. last_or f (fs ++ checkpoints_of p xs) ≡ front_of settled p)
        (λ k. subst (λ z. last_or z (checkpoints_of p xs) ≡ front_of settled p) (sym i) rest)
        (λ k. absurd (two_ways (m == p) (eq-eqb m p e) k))))
    here m (logged_event r) n a = tt

checkpoint-restore : (sys : System) (state : Machine) (p : ℕ) → is_asked_for_checkpoints (policy_of sys.flow p) ≡ true
    → (front_of state.settled p ≡ newest_checkpoint p (no_stamps (bounds_of sys.flow p)) state.writes → ⊥) → HasWritesSettled sys state → AreAscending sys state.writes
    → CanRestore sys state → CanRestore sys (record state { writes = state.writes ++ checkpoint_of state p (front_of state.settled p) ∷ [] })
checkpoint-restore sys state p asks n h a c =
    let takes = asked-takes (policy_of sys.flow p) asks in
    let l = takes-declared sys.flow p takes in
    let apart = newest-apart sys state.settled state.low state.low state.next state.history p l (c.settled p l) (no_stamps (bounds_of sys.flow p)) state.writes n h a c.asked in
    asked-restore sys state state.settled (p ∷ []) c.settled (tt, tt) ((takes, apart), tt) c

-- ---- steps that change writes

acknowledged-restore : (sys : System) (state : Machine) (writes : List Write) → AcknowledgesOldest state.writes writes → CanRestore sys state
    → CanRestore sys (record state { writes = writes })
acknowledged-restore sys state writes k c =
    let y = k.oldest in
    let z : Write = record y { stage = acknowledged } in
    record {
      settled = c.settled;
      serials = c.serials;
      asked = subst (AreAskedWell sys state.low state.next state.history) (sym k.after)
          (each-replaced (IsWriteAskedWell sys state.low state.next state.history) k.earlier y z k.later
          (λ a. acknowledged-well sys state.low state.next state.history y.node y.written y.stage a)
          (subst (AreAskedWell sys state.low state.next state.history) k.before c.asked));
      apart = subst (ArePairs IsApart) (sym k.after) (pairs-replaced IsApart k.earlier y acknowledged k.later (subst (ArePairs IsApart) k.before c.apart));
    }

failed-restore : (sys : System) (state : Machine) (failed : List Bool) (test : Write → Bool) → CanRestore sys state
    → CanRestore sys (record state { failed = failed; writes = filter test state.writes })
failed-restore sys state failed test c =
    let P : Write → Type 0 = IsWriteAskedWell sys state.low state.next state.history in
    record {
      settled = c.settled;
      serials = c.serials;
      asked = each-passed P P test state.writes (λ x k a. a) c.asked;
      apart = pairs-passed IsApart test state.writes c.apart;
    }

cut-canonical : (sys : System) (p : ℕ) (cut : Cut) (before after : Front) → IsSettledCut sys p cut before after → IsCanonical (bounds_of sys.flow p) before
    → IsCanonical (bounds_of sys.flow p) after
cut-canonical sys p Present before after e c = subst (IsCanonical (bounds_of sys.flow p)) (sym e) c
cut-canonical sys p (At f) before after n c = n.canonical

recovered-restore : (sys : System) (state : Machine) (choice : Choice) (settled : List Front) → CutsTo sys state choice settled → CanRestore sys state
    → CanRestore sys (recovered_state sys state choice settled)
recovered-restore sys state choice settled k c =
    let keeps : SerialEvent → Bool = λ v. kept_of sys.flow choice (event_node sys.flow v.event) (event_stamp v.event) in
    let h = filtered_history sys choice state.history in
    let test : Write → Bool = λ write. is_kept_write (cut_of choice write.node) write.written h in
    record {
      settled = λ p l. cut-canonical sys p (cut_of choice p) (front_of state.settled p) (front_of settled p) (k.each p l) (c.settled p l);
      serials = serials-passed state.next keeps state.history c.serials;
      asked = each-passed (IsWriteAskedWell sys state.low state.next state.history) (IsWriteAskedWell sys state.low state.next h) test state.writes
          (λ x e a. passed-well sys state.low state.next keeps state.history x.node x.written x.stage a) c.asked;
      apart = pairs-passed IsApart test state.writes c.apart;
    }

-- the new watermark contains the old one, also past the last node
pub low-grows : (sys : System) (state : Machine) (notices : List Front) (choice : Choice) → IsLowConsistent sys state notices
    → IsLargest sys state (IsCandidate sys state (λ p. true) kept) choice → LowGrows sys state.low (map front_of_cut choice.cuts)
low-grows sys state notices choice c m p = elim (cases_lt p (length sys.flow.nodes)) [
  | inl l ↦ watermark-grows sys state notices choice c m p l
  | inr past ↦
      let few = low_length sys state notices c in
      let many = length-map choice.cuts front_of_cut in
      let cuts = m.consistent.one_cut_each in
      let old : front_of state.low p ≡ [] = get_or_past state.low p [] (omega arith) in
      let new : front_of (map front_of_cut choice.cuts) p ≡ [] = get_or_past (map front_of_cut choice.cuts) p [] (omega arith) in
      λ t i. ap (λ f. frontier_of (bounds_of sys.flow p) f t) (new ∙ sym old) ∙ i
]

collected-restore : (sys : System) (state : Machine) (low : List Front) → LowGrows sys state.low low → CanRestore sys state
    → CanRestore sys (record state { low = low; writes = collected_writes sys low state.history state.writes })
collected-restore sys state low g c =
    let goes : Write → Bool = is_forgotten sys low state.history state.writes in
    record {
      settled = c.settled;
      serials = c.serials;
      asked = each-map (IsWriteAskedWell sys low state.next state.history) (λ (x : Write). record x { stage = after_collection (goes x) x.stage }) state.writes
          (each-weaker (IsWriteAskedWell sys state.low state.next state.history)
          (λ (x : Write). IsAskedWell sys low state.next state.history x.node x.written (after_collection (goes x) x.stage)) state.writes
          (λ x a. collected-well sys state.low low state.next state.history g c.serials x.node x.written (goes x)
          (forgotten-below sys low state.history state.writes x) x.stage a) c.asked);
      apart = pairs-mapped IsApart (λ x. after_collection (goes x) x.stage) state.writes c.apart;
    }

-- ---- each state of a run

pub took-restore : (sys : System) (family : Family) (state : Machine) (step : Step) (next : Machine) (effect : Effect) → CanRecover sys family state
    → LeadsTo sys state step next effect → CanRestore sys state → CanRestore sys next
took-restore sys family state (Inject s) next effect f t c = subst (CanRestore sys) (sym t.3) (event-restore sys state (Injected s t.0) c)
took-restore sys family state (Deliver e at) next effect f t c = subst (CanRestore sys) (sym t.3) (event-restore sys state (Delivered e t.0) c)
took-restore sys family state (Notify p at) next effect f t c = subst (CanRestore sys) (sym t.3) (event-restore sys state (Notified p t.0) c)
took-restore sys family state ProgressStep next effect f t c = subst (CanRestore sys) (sym t.3) (progress-restore sys state t.0 t.1 t.2 f.lie_settled c)
took-restore sys family state (Checkpoint p) next effect f t c =
    subst (CanRestore sys) (sym t.3) (checkpoint-restore sys state p t.0 t.2 f.lie_settled f.ascend c)
took-restore sys family state Persist next effect f t c = subst (CanRestore sys) (sym t.2) (acknowledged-restore sys state t.0 t.1 c)
took-restore sys family state (Fail ps) next effect f t c =
    subst (CanRestore sys) (sym t.4) (failed-restore sys state (with_failed sys state ps) (λ write. not (is_one_of write.node ps && is_in_flight write.stage)) c)
took-restore sys family state Recover next effect f t c = subst (CanRestore sys) (sym t.7) (recovered-restore sys state t.1 t.2 t.6 c)
took-restore sys family state Collect next effect f t c =
    subst (CanRestore sys) (sym t.3) (collected-restore sys state (map front_of_cut t.0.cuts) (low-grows sys state f.notices t.0 f.watermark t.1) c)
took-restore sys family state (Ack o) next effect f t c = subst (CanRestore sys) (sym t.2) (record { settled = c.settled; serials = c.serials; asked = c.asked; apart = c.apart })

-- what holds of each state that steps lead to: what a recovery needs, and what a restoration needs
pub record CanRecoverAndRestore (sys : System) (state : Machine) : Type 0 where
  pub recover : CanRecover sys (rounds sys (enough_rounds sys.flow)) state
  pub restore : CanRestore sys state

pub took-reached : (sys : System) → IsWellFormedSystem sys → (state : Machine) (step : Step) (next : Machine) (effect : Effect) → CanRecoverAndRestore sys state
    → LeadsTo sys state step next effect → CanRecoverAndRestore sys next
took-reached sys w state step next effect f t =
    let family = rounds sys (enough_rounds sys.flow) in
    record {
      recover = took-recover sys family w (denotation-exists sys w.flow) state step next effect f.recover t;
      restore = took-restore sys family state step next effect f.recover t f.restore;
    }

pub run-reached : (sys : System) → IsWellFormedSystem sys → (steps : List Step) (outcomes : List Outcome) (state last : Machine) → CanRecoverAndRestore sys state
    → Run sys state steps outcomes last → CanRecoverAndRestore sys last
run-reached sys w [] [] state last f r = subst (CanRecoverAndRestore sys) (sym r) f
run-reached sys w [] (o ∷ os) state last f r = absurd r
run-reached sys w (s ∷ ss) [] state last f r = absurd r
run-reached sys w (s ∷ ss) (did effect ∷ os) state last f r = run-reached sys w ss os r.0 last (took-reached sys w state s r.0 effect f r.1) r.2
run-reached sys w (s ∷ ss) (idle ∷ os) state last f r = run-reached sys w ss os r.0 last (subst (CanRecoverAndRestore sys) (sym r.1.1) f) r.2

pub first-reached : (sys : System) → IsWellFormedSystem sys → CanRecoverAndRestore sys (first_state sys)
first-reached sys w = record {
  recover = first-recover sys (rounds sys (enough_rounds sys.flow)) w;
  restore = record {
    settled = λ p l. subst (IsCanonical (bounds_of sys.flow p))
        (sym (get_or-map-range_with_len (λ q. no_stamps (bounds_of sys.flow q)) 0 (length sys.flow.nodes) p p [] l (omega arith))) (none-canonical (bounds_of sys.flow p));
    serials = tt;
    asked = tt;
    apart = tt;
  };
}

pub reached-all : (sys : System) → IsWellFormedSystem sys → (steps : List Step) (outcomes : List Outcome) (last : Machine) → Run sys (first_state sys) steps outcomes last
    → CanRecoverAndRestore sys last
reached-all sys w steps outcomes last r = run-reached sys w steps outcomes (first_state sys) last (first-reached sys w) r
