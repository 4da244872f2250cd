-- Checkpoints lie within what is settled, and so does each frontier to which a node can be restored.
use Rattle.std.proofs.Common.{◌≡◌, ℕ, ◌<◌, true, false, not, ◌&&◌, List, [], ◌∷◌, ◌++◌, length, filter, map, refl, sym, ap, subst, ◌∙◌, inl, inr}
use Rattle.std.specs.List.{AllByRecursion}
use Rattle.std.proofs.lemmas.Bool.{and_from, or_left, cases_Bool}
use Rattle.fw_lemmas.proofs.Bools.{two_ways}
use Rattle.fw_lemmas.proofs.Each.{each-weaker, each-one, each-append, each-map, each-passed, each-replaced}
use Rattle.fw_frontier.specs.Frontier.{Frontier, Within}
use Rattle.fw_frontier.specs.Front.{Front, frontier_of, same_front}
use Rattle.fw_frontier.proofs.NamesLaws.{is_within-holds}
use Rattle.fw_flow.specs.declared.choice.Cut.{Cut}
use Rattle.fw_flow.specs.declared.choice.Cut.TheVariants.{Present, At}
use Rattle.fw_flow.specs.Kind.{Kind}
use Rattle.fw_flow.specs.declared.kind.Kind.TheVariants.{Input, OutputEpoch, OutputNumber}
use Rattle.fw_flow.specs.declared.kind.Policy.{Policy}
use Rattle.fw_flow.specs.declared.kind.Policy.TheVariants as policy
use Rattle.fw_flow.specs.declared.step.Step.{Step}
use Rattle.fw_flow.specs.declared.step.Step.TheVariants.{Inject, Deliver, Notify, Progress as ProgressStep, Checkpoint, Persist, Fail, Recover, Collect, Ack}
use Rattle.fw_flow.specs.Dataflow.{System, kind_of, policy_of, receiver, bounds_of, is_input_kind, node_ids, is_one_of}
use Rattle.fw_model.specs.Machine.{Machine, SerialEvent, Write, Written, checkpoint, logged_event, Stage, acknowledged, first_state, front_of, is_failed}
use Rattle.fw_flow.specs.declared.choice.Choice.{Choice}
use Rattle.fw_model.specs.Choice.{View, HasCheckpoint, IsRestorable, cut_of, filtered_history}
use Rattle.fw_model.specs.Steps.{Effect, Outcome, did, idle, LeadsTo, StepsTo, Run, write_of_event, checkpoint_of, is_eager, GrowsTo, AcknowledgesOldest, is_in_flight, is_kept_write, kept_writes, IsSettledCut, CutsTo, after_collection, front_of_cut, is_forgotten}
use Rattle.fw_flow.specs.declared.restoring.Restoring.{Restoring}
use Rattle.fw_flow.specs.declared.restoring.Restoring.TheVariants.{Batches, Bound, Anything, Checkpoints, Events}
use Rattle.fw_flow.specs.Restoring.{restoring, way_of}
use Rattle.fw_model.specs.LawsOfRecoveries.{CandidatesLieWithinSettled}
use Rattle.fw_model.proofs.RunLaws.{none-inside}
use Rattle.fw_model.proofs.ChoiceLaws.{not_by_batches}

-- ---- checkpoints

-- the frontier lies within what is settled at the node, if it is there
abbrev pub IsSettled : System → List Front → ℕ → Front → Type 0
IsSettled sys settled p g = p < length sys.flow.nodes → Within (frontier_of (bounds_of sys.flow p) g) (frontier_of (bounds_of sys.flow p) (front_of settled p))

-- what a write of a node holds lies within what is settled, if it is a checkpoint
abbrev pub HoldsSettled : System → List Front → ℕ → Written → Type 0
HoldsSettled sys settled p (checkpoint g low) = IsSettled sys settled p g
HoldsSettled sys settled p (logged_event serial) = Unit {0}

abbrev pub IsWriteSettled : System → List Front → Write → Type 0
IsWriteSettled sys settled write = HoldsSettled sys settled write.node write.written

abbrev pub AreWritesSettled : System → List Front → List Write → Type 0
AreWritesSettled sys settled writes = AllByRecursion (IsWriteSettled sys settled) writes

-- what holds of written of a node after what was settled has changed
changed : (sys : System) (before after : List Front) (p : ℕ) (w : Written)
    → ((g : Front) (low : List Front) → w ≡ checkpoint g low → IsSettled sys before p g → IsSettled sys after p g)
    → HoldsSettled sys before p w → HoldsSettled sys after p w
changed sys before after p (checkpoint g low) k h = k g low refl h
changed sys before after p (logged_event serial) k h = tt

-- settled grows at each node
abbrev pub Grows : System → List Front → List Front → Type 0
Grows sys before after = (p : ℕ) → p < length sys.flow.nodes → Within (frontier_of (bounds_of sys.flow p) (front_of before p)) (frontier_of (bounds_of sys.flow p) (front_of after p))

pub grown-writes : (sys : System) (before after : List Front) → Grows sys before after → (writes : List Write) → AreWritesSettled sys before writes → AreWritesSettled sys after writes
grown-writes sys before after k writes a =
    each-weaker (IsWriteSettled sys before) (IsWriteSettled sys after) writes
    (λ write h. changed sys before after write.node write.written (λ g low e s l t i. k write.node l t (s l t i)) h) a

-- ---- what steps do to them

event-writes : (sys : System) (settled : List Front) (p : Policy) (q serial : ℕ) → AreWritesSettled sys settled (write_of_event p q serial)
event-writes sys settled policy.Full q serial = (tt, tt)
event-writes sys settled p q serial = tt

pub settled-grows : (sys : System) (state : Machine) (done : ℕ → Frontier) (settled : List Front) → GrowsTo sys state done settled → Grows sys state.settled settled
settled-grows sys state done settled g p l t i = elim (cases_Bool (is_failed state p)) [
  | inl lost ↦ subst (λ os. frontier_of (bounds_of sys.flow p) os t ≡ true) (sym (g.failed p l lost)) i
  | inr live ↦ (g.each p l live).same t ∙ or_left (frontier_of (bounds_of sys.flow p) (front_of state.settled p) t) (done p t) i
]

cut-settled : (sys : System) (p : ℕ) (cut : Cut) (before after g : Front) (low : List Front) (h : List SerialEvent) → IsSettledCut sys p cut before after
    → is_kept_write cut (checkpoint g low) h ≡ true → Within (frontier_of (bounds_of sys.flow p) g) (frontier_of (bounds_of sys.flow p) before)
    → Within (frontier_of (bounds_of sys.flow p) g) (frontier_of (bounds_of sys.flow p) after)
cut-settled sys p Present before after g low h c k w = subst (λ os. Within (frontier_of (bounds_of sys.flow p) g) (frontier_of (bounds_of sys.flow p) os)) (sym c) w
cut-settled sys p (At f) before after g low h c k w = λ t i.
    let b = bounds_of sys.flow p in
    c.same t ∙ and_from (frontier_of b before t) (frontier_of b f t) (w t i) (is_within-holds b g f k t i)

recovered-writes : (sys : System) (state : Machine) (choice : Choice) (settled : List Front) (h : List SerialEvent) → CutsTo sys state choice settled
    → AreWritesSettled sys state.settled state.writes → AreWritesSettled sys settled (kept_writes choice h state.writes)
recovered-writes sys state choice settled h c a =
    each-passed (IsWriteSettled sys state.settled) (IsWriteSettled sys settled) (λ write. is_kept_write (cut_of choice write.node) write.written h) state.writes
    (λ write k x. changed sys state.settled settled write.node write.written
    (λ g low e s l. cut-settled sys write.node (cut_of choice write.node) (front_of state.settled write.node) (front_of settled write.node) g low h (c.each write.node l)
    (ap (λ w. is_kept_write (cut_of choice write.node) w h) (sym e) ∙ k) (s l)) x) a

acknowledged-writes : (sys : System) (settled : List Front) (writes next : List Write) → AcknowledgesOldest writes next → AreWritesSettled sys settled writes → AreWritesSettled sys settled next
acknowledged-writes sys settled writes next k a =
    let oldest = k.oldest in
    subst (AreWritesSettled sys settled) (sym k.after)
    (each-replaced (IsWriteSettled sys settled) k.earlier oldest (record oldest { stage = acknowledged }) k.later (λ x. x)
    (subst (AreWritesSettled sys settled) k.before a))

-- the checkpoints of a state lie within what is settled
abbrev pub HasWritesSettled : System → Machine → Type 0
HasWritesSettled sys state = AreWritesSettled sys state.settled state.writes

with-settled : (sys : System) (state : Machine) (more : List Write) → HasWritesSettled sys state → AreWritesSettled sys state.settled more
    → HasWritesSettled sys (record state { writes = state.writes ++ more })
with-settled sys state more a b = each-append (IsWriteSettled sys state.settled) state.writes more a b

pub took-writes : (sys : System) (state : Machine) (step : Step) (next : Machine) (effect : Effect) → LeadsTo sys state step next effect
    → HasWritesSettled sys state → HasWritesSettled sys next
took-writes sys state (Inject s) next effect t a =
    subst (HasWritesSettled sys) (sym t.3) (with-settled sys state (write_of_event (policy_of sys.flow s) s state.next) a (event-writes sys state.settled (policy_of sys.flow s) s state.next))
took-writes sys state (Deliver e at) next effect t a =
    let r = receiver sys.flow e in
    subst (HasWritesSettled sys) (sym t.3) (with-settled sys state (write_of_event (policy_of sys.flow r) r state.next) a (event-writes sys state.settled (policy_of sys.flow r) r state.next))
took-writes sys state (Notify p at) next effect t a =
    subst (HasWritesSettled sys) (sym t.3) (with-settled sys state (write_of_event (policy_of sys.flow p) p state.next) a (event-writes sys state.settled (policy_of sys.flow p) p state.next))
took-writes sys state ProgressStep next effect t a =
    let settled = t.1 in
    let ps = filter (λ p. is_eager (policy_of sys.flow p) && not (same_front (front_of state.settled p) (front_of settled p))) (node_ids sys.flow) in
    subst (HasWritesSettled sys) (sym t.3)
    (each-append (IsWriteSettled sys settled) state.writes (map (λ p. checkpoint_of state p (front_of settled p)) ps)
    (grown-writes sys state.settled settled (settled-grows sys state t.0 settled t.2) state.writes a)
    (each-map (IsWriteSettled sys settled) (λ p. checkpoint_of state p (front_of settled p)) ps
    (each-one (λ p. IsSettled sys settled p (front_of settled p)) ps (λ p l u i. i))))
took-writes sys state (Checkpoint p) next effect t a =
    subst (HasWritesSettled sys) (sym t.3) (with-settled sys state (checkpoint_of state p (front_of state.settled p) ∷ []) a (λ l u i. i, tt))
took-writes sys state Persist next effect t a =
    subst (HasWritesSettled sys) (sym t.2) (acknowledged-writes sys state.settled state.writes t.0 t.1 a)
took-writes sys state (Fail ps) next effect t a =
    subst (HasWritesSettled sys) (sym t.4)
    (each-passed (IsWriteSettled sys state.settled) (IsWriteSettled sys state.settled) (λ write. not (is_one_of write.node ps && is_in_flight write.stage)) state.writes (λ w k x. x) a)
took-writes sys state Recover next effect t a =
    subst (HasWritesSettled sys) (sym t.7) (recovered-writes sys state t.1 t.2 (filtered_history sys t.1 state.history) t.6 a)
took-writes sys state Collect next effect t a =
    let low = map front_of_cut t.0.cuts in
    subst (HasWritesSettled sys) (sym t.3)
    (each-map (IsWriteSettled sys state.settled)
    (λ (write : Write). record write { stage = after_collection (is_forgotten sys low state.history state.writes write) write.stage }) state.writes a)
took-writes sys state (Ack o) next effect t a = subst (HasWritesSettled sys) (sym t.2) a

steps-writes : (sys : System) (state : Machine) (step : Step) (next : Machine) (outcome : Outcome) → StepsTo sys state step next outcome
    → HasWritesSettled sys state → HasWritesSettled sys next
steps-writes sys state step next (did effect) t a = took-writes sys state step next effect t a
steps-writes sys state step next idle t a = subst (HasWritesSettled sys) (sym t.1) a

run-writes : (sys : System) (steps : List Step) (outcomes : List Outcome) (state last : Machine) → Run sys state steps outcomes last
    → HasWritesSettled sys state → HasWritesSettled sys last
run-writes sys [] [] state last r a = subst (HasWritesSettled sys) (sym r) a
run-writes sys [] (o ∷ os) state last r a = absurd r
run-writes sys (s ∷ ss) [] state last r a = absurd r
run-writes sys (s ∷ ss) (o ∷ os) state last r a = run-writes sys ss os r.0 last r.2 (steps-writes sys state s r.0 o r.1 a)

-- ---- candidates

checkpoint-within : (sys : System) (settled : List Front) (view : View) (p : ℕ) (f : Front) (writes : List Write) → AreWritesSettled sys settled writes
    → HasCheckpoint view p f writes → IsSettled sys settled p f
checkpoint-within sys settled view p f [] a k = absurd k
checkpoint-within sys settled view p f (write ∷ writes) a k =
    by write.node write.written write.stage a.0 (checkpoint-within sys settled view p f writes a.1) k
  where
    by : (n : ℕ) (w : Written) (far : Stage) → HoldsSettled sys settled n w → (HasCheckpoint view p f writes → IsSettled sys settled p f)
        → HasCheckpoint view p f (record write { node = n; written = w; stage = far } ∷ writes) → IsSettled sys settled p f
    by n (checkpoint g low) far h rest k = elim k [
      | inl c ↦ subst (λ q. IsSettled sys settled q f) c.0 (subst (λ x. IsSettled sys settled n x) c.1 h)
      | inr c ↦ rest c
    ]
    by n (logged_event serial) far h rest k = elim k [ inl c ↦ absurd c | inr c ↦ rest c ]

pub restorable-within : (sys : System) (state : Machine) (view : View) (p : ℕ) (way : Restoring) (f : Front) → p < length sys.flow.nodes → (way ≡ Batches → ⊥)
    → HasWritesSettled sys state → IsRestorable sys state view p way f → IsSettled sys state.settled p f
restorable-within sys state view p Batches f l n a k = absurd (n refl)
restorable-within sys state view p Bound f l n a k = λ _. k.0
restorable-within sys state view p Anything f l n a k = λ _. k
restorable-within sys state view p Checkpoints f l n a k = elim k [
  | inl e ↦ λ _ t i. absurd (none-inside (bounds_of sys.flow p) t (subst (λ os. frontier_of (bounds_of sys.flow p) os t ≡ true) e i))
  | inr c ↦ checkpoint-within sys state.settled view p f state.writes a c
]
restorable-within sys state view p Events f l n a k = λ _. k.0

pub not_batches : (kind : Kind) (p : Policy) → is_input_kind kind ≡ false → restoring kind p ≡ Batches → ⊥
not_batches Input p n e = two_ways true refl n
not_batches OutputEpoch p n e = cc
not_batches OutputNumber p n e = cc
not_batches kind p n e = not_by_batches p e

pub candidates-within_settled : CandidatesLieWithinSettled
candidates-within_settled sys steps outcomes last r lost view p f l n k =
    restorable-within sys last view p (way_of sys.flow p) f l (not_batches (kind_of sys.flow p) (policy_of sys.flow p) n)
    (run-writes sys steps outcomes (first_state sys) last r tt) k.1 l
