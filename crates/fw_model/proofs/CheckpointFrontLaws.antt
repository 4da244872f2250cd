-- No two checkpoints of a node have one front, and none is of no stamps: one is asked where what is settled differs from the newest,
-- or where it grew.
use Rattle.std.proofs.Common.{◌≡◌, ℕ, ◌<◌, Bool, true, false, not, ◌&&◌, ◌==◌, List, [], ◌∷◌, ◌++◌, length, map, refl, sym, subst, ◌∙◌}
use Rattle.std.specs.Prelude.{filter}
use Rattle.std.specs.List.{AllByRecursion}
use Rattle.std.proofs.lemmas.Bool.{and_parts, cond_both, eqb-true, not-true}
use Rattle.fw_lemmas.proofs.Bools.{two_ways}
use Rattle.fw_lemmas.proofs.Each.{each-weaker, each-both, each-one, each-append, each-map, each-passed, each-replaced}
use Rattle.fw_time.specs.declared.stamp.Bounds.{Bounds}
use Rattle.fw_frontier.specs.Frontier.{Within}
use Rattle.fw_frontier.specs.Front.{Front, frontier_of, IsCanonical, same_front}
use Rattle.fw_flow.specs.declared.event.Event.{Event}
use Rattle.fw_flow.specs.declared.event.Event.TheVariants.{Inject as Injected, Deliver as Delivered, Notify as Notified}
use Rattle.fw_flow.specs.declared.kind.Policy.{Policy}
use Rattle.fw_flow.specs.declared.kind.Policy.TheVariants as policy
use Rattle.fw_flow.specs.declared.step.Step.{Step}
use Rattle.fw_flow.specs.declared.step.Step.TheVariants.{Inject, Deliver, Notify, Progress as ProgressStep, Checkpoint, Persist, Fail, Recover, Collect, Ack}
use Rattle.fw_flow.specs.Dataflow.{System, policy_of, bounds_of, node_ids, is_one_of}
use Rattle.fw_flow.specs.NodeFunction.{event_node}
use Rattle.fw_flow.specs.WellFormed.{IsWellFormedSystem}
use Rattle.fw_model.specs.Machine.{Machine, SerialEvent, Write, Written, checkpoint, logged_event, acknowledged, no_stamps, first_state, front_of}
use Rattle.fw_model.specs.Choice.{cut_of, filtered_history}
use Rattle.fw_model.specs.Steps.{Effect, Outcome, did, idle, write_of_event, with_event, is_eager, eager_writes, checkpoint_of, is_asked_for_checkpoints, checkpoint_front, checkpoints_of, last_or, newest_checkpoint, is_in_flight, is_kept_write, after_collection, front_of_cut, LeadsTo, Run, is_forgotten}
use Rattle.fw_frontier.proofs.SameLaws.{same_front-itself}
use Rattle.fw_model.proofs.AskedLaws.{takes-declared, IsApart, IsAskedWell, IsWriteAskedWell, CanRecoverAndRestore, took-reached, first-reached, reached-all, eager-takes, asked-takes}
use Rattle.fw_model.proofs.CheckpointLaws.{HoldsSettled, IsWriteSettled, settled-grows}
use Rattle.fw_model.proofs.ChoiceLaws.{same_fronts}
use Rattle.fw_model.proofs.LowLaws.{none-canonical, none-within}
use Rattle.fw_model.proofs.WriteLaws.{ArePairs}
use Rattle.fw_model.specs.LawsOfCheckpointFronts.{CheckpointsDiffer, CheckpointsHaveStamps}

-- ---- no two have one front

pairs-suffix : (R : ℕ → Written → ℕ → Written → Type 0) (earlier later : List Write) → ArePairs R (earlier ++ later) → ArePairs R later
pairs-suffix R [] later a = a
pairs-suffix R (x ∷ earlier) later a = pairs-suffix R earlier later a.1

apart-fronts : (n : ℕ) (v : Written) (m : ℕ) (w : Written) → IsApart n v m w → (f g : Front) (low also : List Front)
    → v ≡ checkpoint f low → m ≡ n → w ≡ checkpoint g also → g ≡ f → ⊥
apart-fronts n v m w a f g low also d e i same =
    let b = subst (λ x. IsApart n x m w) d a in
    let c = subst (λ x. IsApart n (checkpoint f low) m x) i b in
    c (sym e) (sym same)

pub checkpoints-differ : CheckpointsDiffer
checkpoints-differ sys w steps outcomes last r earlier later write e f low is =
    let all = reached-all sys w steps outcomes last r in
    let mine = pairs-suffix IsApart earlier (write ∷ later) (subst (ArePairs IsApart) e all.restore.apart) in
    each-weaker (λ (other : Write). IsApart write.node write.written other.node other.written)
    (λ (other : Write). (g : Front) (also : List Front) → other.node ≡ write.node → other.written ≡ checkpoint g also → g ≡ f → ⊥) later
    (λ other a g also same_node is_other same. apart-fronts write.node write.written other.node other.written a f g low also is same_node is_other same) mine.0

-- ---- none is of no stamps

-- what is written of a node has stamps, if it is a checkpoint
abbrev HasStamps : System → ℕ → Written → Type 0
HasStamps sys p (checkpoint f low) = f ≡ no_stamps (bounds_of sys.flow p) → ⊥
HasStamps sys p (logged_event serial) = Unit {0}

abbrev HasWriteStamps : System → Write → Type 0
HasWriteStamps sys write = HasStamps sys write.node write.written

abbrev HaveStamps : System → List Write → Type 0
HaveStamps sys writes = AllByRecursion (HasWriteStamps sys) writes

-- a front within no stamps is that one
within-none : (b : Bounds) (f : Front) → IsCanonical b f → Within (frontier_of b f) (frontier_of b (no_stamps b)) → f ≡ no_stamps b
within-none b f c w = same_fronts b f (no_stamps b) c (none-canonical b) w (none-within b (frontier_of b f))

-- ---- events

event-stamps : (sys : System) (p : Policy) (q serial : ℕ) → HaveStamps sys (write_of_event p q serial)
event-stamps sys policy.Full q serial = (tt, tt)
event-stamps sys p q serial = tt

with_event-stamps : (sys : System) (state : Machine) (v : Event) → HaveStamps sys state.writes → HaveStamps sys (with_event sys state v).writes
with_event-stamps sys state v a =
    let asks = policy_of sys.flow (event_node sys.flow v) in
    each-append (HasWriteStamps sys) state.writes (write_of_event asks (event_node sys.flow v) state.next) a (event-stamps sys asks (event_node sys.flow v) state.next)

-- ---- eager checkpoints

-- where what is settled grew, it has stamps
grown-stamps : (sys : System) (before after : List Front) (p : ℕ) → IsCanonical (bounds_of sys.flow p) (front_of before p)
    → Within (frontier_of (bounds_of sys.flow p) (front_of before p)) (frontier_of (bounds_of sys.flow p) (front_of after p))
    → same_front (front_of before p) (front_of after p) ≡ false → front_of after p ≡ no_stamps (bounds_of sys.flow p) → ⊥
grown-stamps sys before after p c g d e =
    let b = bounds_of sys.flow p in
    let old : front_of before p ≡ no_stamps b = within-none b (front_of before p) c (subst (λ f. Within (frontier_of b (front_of before p)) (frontier_of b f)) e g) in
    let one : front_of before p ≡ front_of after p = old ∙ sym e in
    two_ways (same_front (front_of before p) (front_of after p)) (subst (λ f. same_front (front_of before p) f ≡ true) one (same_front-itself (front_of before p))) d

eager-stamps : (sys : System) (state : Machine) (settled : List Front)
    → ((p : ℕ) → p < length sys.flow.nodes → IsCanonical (bounds_of sys.flow p) (front_of state.settled p))
    → ((p : ℕ) → p < length sys.flow.nodes → Within (frontier_of (bounds_of sys.flow p) (front_of state.settled p)) (frontier_of (bounds_of sys.flow p) (front_of settled p)))
    → (ps : List ℕ) → HaveStamps sys (eager_writes sys state settled ps)
eager-stamps sys state settled c g ps =
    let test : ℕ → Bool = λ p. is_eager (policy_of sys.flow p) && not (same_front (front_of state.settled p) (front_of settled p)) in
    each-map (HasWriteStamps sys) (λ p. checkpoint_of state p (front_of settled p)) (filter test ps)
    (each-passed (λ p. Unit {0}) (λ p. front_of settled p ≡ no_stamps (bounds_of sys.flow p) → ⊥) test ps
    (λ p k u.
    let a = and_parts (is_eager (policy_of sys.flow p)) (not (same_front (front_of state.settled p) (front_of settled p))) k in
    let l = takes-declared sys.flow p (eager-takes (policy_of sys.flow p) a.0) in
    grown-stamps sys state.settled settled p (c p l) (g p l) (not-true (same_front (front_of state.settled p) (front_of settled p)) a.1))
    (each-one (λ p. Unit {0}) ps (λ p. tt)))

-- ---- checkpoints that are asked for

-- what is written is no checkpoint of the node
abbrev IsOther : ℕ → ℕ → Written → Type 0
IsOther p n (checkpoint f low) = n ≡ p → ⊥
IsOther p n (logged_event serial) = Unit {0}

newest-none : (p : ℕ) (f : Front) (xs : List Write) → AllByRecursion (λ (x : Write). IsOther p x.node x.written) xs → newest_checkpoint p f xs ≡ f
newest-none p f [] a = refl
newest-none p f (x ∷ xs) a =
    let rest = newest-none p f xs a.1 in
    cond_both (x.node == p) (checkpoint_front x.written) [] (λ fs. last_or f (fs ++ checkpoints_of p xs) ≡ f)
    (λ e. by x.written a.0 (eqb-true x.node p e) rest) (λ e. rest)
  where
    by : (w : Written) → IsOther p x.node w → x.node ≡ p → last_or f (checkpoints_of p xs) ≡ f → last_or f (checkpoint_front w ++ checkpoints_of p xs) ≡ f
    by (checkpoint g low) o e rest = absurd (o e)
    by (logged_event serial) o e rest = rest

-- where nothing is settled at a node it has no checkpoint
other-writes : (sys : System) (settled low : List Front) (next : ℕ) (h : List SerialEvent) (p : ℕ) → p < length sys.flow.nodes → front_of settled p ≡ no_stamps (bounds_of sys.flow p)
    → (x : Write) → HasWriteStamps sys x → IsWriteSettled sys settled x → IsWriteAskedWell sys low next h x → IsOther p x.node x.written
other-writes sys settled low next h p l e x a s k = by x.node x.written a s k
  where
    by : (n : ℕ) (w : Written) → HasStamps sys n w → HoldsSettled sys settled n w → IsAskedWell sys low next h n w x.stage → IsOther p n w
    by n (checkpoint f kept) a s k = λ same.
        let b = bounds_of sys.flow n in
        let there : n < length sys.flow.nodes = subst (λ q. q < length sys.flow.nodes) (sym same) l in
        let none : front_of settled n ≡ no_stamps b = subst (λ q. front_of settled q ≡ no_stamps (bounds_of sys.flow q)) (sym same) e in
        a (within-none b f k.1 (subst (λ g. Within (frontier_of b f) (frontier_of b g)) none (s there)))
    by n (logged_event serial) a s k = tt

asked-stamps : (sys : System) (state : Machine) (p : ℕ) → CanRecoverAndRestore sys state → is_asked_for_checkpoints (policy_of sys.flow p) ≡ true
    → (front_of state.settled p ≡ newest_checkpoint p (no_stamps (bounds_of sys.flow p)) state.writes → ⊥) → HaveStamps sys state.writes
    → front_of state.settled p ≡ no_stamps (bounds_of sys.flow p) → ⊥
asked-stamps sys state p f asks n a e =
    let l = takes-declared sys.flow p (asked-takes (policy_of sys.flow p) asks) in
    let S : Write → Type 0 = IsWriteSettled sys state.settled in
    let K : Write → Type 0 = IsWriteAskedWell sys state.low state.next state.history in
    let others = each-weaker (λ (x : Write). HasWriteStamps sys x × (S x × K x)) (λ x. IsOther p x.node x.written) state.writes
    (λ x b. other-writes sys state.settled state.low state.next state.history p l e x b.0 b.1.0 b.1.1)
    (each-both (HasWriteStamps sys) (λ x. S x × K x) state.writes a (each-both S K state.writes f.recover.lie_settled f.restore.asked)) in
    n (e ∙ sym (newest-none p (no_stamps (bounds_of sys.flow p)) state.writes others))

-- ---- each step

took-stamps : (sys : System) (state : Machine) (step : Step) (next : Machine) (effect : Effect) → CanRecoverAndRestore sys state
    → LeadsTo sys state step next effect → HaveStamps sys state.writes → HaveStamps sys next.writes
took-stamps sys state (Inject s) next effect f t a = subst (λ (m : Machine). HaveStamps sys m.writes) (sym t.3) (with_event-stamps sys state (Injected s t.0) a)
took-stamps sys state (Deliver e at) next effect f t a = subst (λ (m : Machine). HaveStamps sys m.writes) (sym t.3) (with_event-stamps sys state (Delivered e t.0) a)
took-stamps sys state (Notify p at) next effect f t a = subst (λ (m : Machine). HaveStamps sys m.writes) (sym t.3) (with_event-stamps sys state (Notified p t.0) a)
took-stamps sys state ProgressStep next effect f t a =
    subst (λ (m : Machine). HaveStamps sys m.writes) (sym t.3)
    (each-append (HasWriteStamps sys) state.writes (eager_writes sys state t.1 (node_ids sys.flow)) a
    (eager-stamps sys state t.1 f.restore.settled (settled-grows sys state t.0 t.1 t.2) (node_ids sys.flow)))
took-stamps sys state (Checkpoint p) next effect f t a =
    subst (λ (m : Machine). HaveStamps sys m.writes) (sym t.3)
    (each-append (HasWriteStamps sys) state.writes (checkpoint_of state p (front_of state.settled p) ∷ []) a (asked-stamps sys state p f t.0 t.2 a, tt))
took-stamps sys state Persist next effect f t a =
    let k = t.1 in
    subst (λ (m : Machine). HaveStamps sys m.writes) (sym t.2)
    (subst (HaveStamps sys) (sym k.after)
    (each-replaced (HasWriteStamps sys) k.earlier k.oldest (record (k.oldest) { stage = acknowledged }) k.later (λ x. x) (subst (HaveStamps sys) k.before a)))
took-stamps sys state (Fail ps) next effect f t a =
    subst (λ (m : Machine). HaveStamps sys m.writes) (sym t.4)
    (each-passed (HasWriteStamps sys) (HasWriteStamps sys) (λ write. not (is_one_of write.node ps && is_in_flight write.stage)) state.writes (λ x k b. b) a)
took-stamps sys state Recover next effect f t a =
    let h = filtered_history sys t.1 state.history in
    subst (λ (m : Machine). HaveStamps sys m.writes) (sym t.7)
    (each-passed (HasWriteStamps sys) (HasWriteStamps sys) (λ write. is_kept_write (cut_of t.1 write.node) write.written h) state.writes (λ x k b. b) a)
took-stamps sys state Collect next effect f t a =
    let low = map front_of_cut t.0.cuts in
    subst (λ (m : Machine). HaveStamps sys m.writes) (sym t.3)
    (each-map (HasWriteStamps sys)
    (λ (write : Write). record write { stage = after_collection (is_forgotten sys low state.history state.writes write) write.stage }) state.writes a)
took-stamps sys state (Ack o) next effect f t a = subst (λ (m : Machine). HaveStamps sys m.writes) (sym t.2) a

run-stamps : (sys : System) → IsWellFormedSystem sys → (steps : List Step) (outcomes : List Outcome) (state last : Machine) → CanRecoverAndRestore sys state
    → HaveStamps sys state.writes → Run sys state steps outcomes last → HaveStamps sys last.writes
run-stamps sys w [] [] state last f a r = subst (λ (m : Machine). HaveStamps sys m.writes) (sym r) a
run-stamps sys w [] (o ∷ os) state last f a r = absurd r
run-stamps sys w (s ∷ ss) [] state last f a r = absurd r
run-stamps sys w (s ∷ ss) (did effect ∷ os) state last f a r =
    run-stamps sys w ss os r.0 last (took-reached sys w state s r.0 effect f r.1) (took-stamps sys state s r.0 effect f r.1 a) r.2
run-stamps sys w (s ∷ ss) (idle ∷ os) state last f a r =
    run-stamps sys w ss os r.0 last (subst (CanRecoverAndRestore sys) (sym r.1.1) f) (subst (λ (m : Machine). HaveStamps sys m.writes) (sym r.1.1) a) r.2

has-stamps : (sys : System) (p : ℕ) (v : Written) → HasStamps sys p v → (f : Front) (low : List Front) → v ≡ checkpoint f low → f ≡ no_stamps (bounds_of sys.flow p) → ⊥
has-stamps sys p v a f low e = subst (HasStamps sys p) e a

pub checkpoints-have_stamps : CheckpointsHaveStamps
checkpoints-have_stamps sys w steps outcomes last r =
    each-weaker (HasWriteStamps sys)
    (λ (write : Write). (f : Front) (low : List Front) → write.written ≡ checkpoint f low → f ≡ no_stamps (bounds_of sys.flow write.node) → ⊥) last.writes
    (λ write a f low e. has-stamps sys write.node write.written a f low e)
    (run-stamps sys w steps outcomes (first_state sys) last (first-reached sys w) tt r)
