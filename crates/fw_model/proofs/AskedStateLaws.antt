-- Each checkpoint is as it was in the state in which it was asked.
use Rattle.std.proofs.Common.{◌≡◌, ℕ, not, ◌&&◌, List, [], ◌∷◌, ◌++◌, filter, map, refl, sym, subst, ◌∙◌, inl, inr, ◌⊎◌}
use Rattle.std.specs.List.{AllByRecursion}
use Rattle.fw_lemmas.proofs.Each.{each-weaker, each-both, each-one, each-append, each-map, each-passed, each-replaced}
use Rattle.fw_frontier.specs.Front.{Front, same_front}
use Rattle.fw_flow.specs.declared.event.Event.TheVariants.{Inject as Injected, Deliver as Delivered, Notify as Notified}
use Rattle.fw_flow.specs.declared.kind.Policy.{Policy}
use Rattle.fw_flow.specs.declared.kind.Policy.TheVariants as policy
use Rattle.fw_flow.specs.declared.step.Step.{Step}
use Rattle.fw_flow.specs.declared.step.Step.TheVariants.{Inject, Deliver, Notify, Progress as ProgressStep, Checkpoint, Persist, Fail, Recover, Collect, Ack}
use Rattle.fw_flow.specs.Dataflow.{System, policy_of, receiver, node_ids, is_one_of}
use Rattle.fw_flow.specs.WellFormed.{IsWellFormedSystem}
use Rattle.fw_model.specs.Machine.{Machine, Write, Written, checkpoint, logged_event, acknowledged, first_state, front_of}
use Rattle.fw_model.specs.Choice.{cut_of, filtered_history}
use Rattle.fw_model.specs.Steps.{Effect, Outcome, did, idle, LeadsTo, StepsTo, Run, write_of_event, with_event, checkpoint_of, is_eager, is_in_flight, is_kept_write, front_of_cut, after_collection, is_forgotten}
use Rattle.fw_model.specs.LawsOfRestoring.{CheckpointsAreAsTheyWereAsked}
use Rattle.fw_model.proofs.ChoosingLaws.{settled_writes}
use Rattle.fw_model.proofs.AskedLaws.{CanRecoverAndRestore, took-reached, first-reached}
use Rattle.fw_model.proofs.RestoringLaws.{same-each, took-true}
use Rattle.fw_model.proofs.GoingOn.{runs-go_on}
use Rattle.fw_model.specs.Writes.{CountsTheSame, CountsWritten, IsWrittenAsAsked}

counts-on : (sys : System) (one two three : Machine) (p : ℕ) (f : Front) → CountsTheSame sys one two p f → CountsTheSame sys two three p f → CountsTheSame sys one three p f
counts-on sys one two three p f a b = record {
  part = record { events = b.part.events ∙ a.part.events; sent = λ e s. b.part.sent e s ∙ a.part.sent e s };
  delivered = λ d r. b.delivered d r ∙ a.delivered d r;
  notified = b.notified ∙ a.notified;
  discarded = λ e s. b.discarded e s ∙ a.discarded e s;
}

-- what is written is of what is settled in the state, and of its watermark
abbrev IsNew : Machine → ℕ → Written → Type 0
IsNew state p (checkpoint f low) = (front_of state.settled p ≡ f) × (state.low ≡ low)
IsNew state p (logged_event s) = Unit {0}

-- what is written was so before, or is new
abbrev WasOrIsNew : (ℕ → Written → Type 0) → Machine → Write → Type 0
WasOrIsNew P next x = P x.node x.written ⊎ IsNew next x.node x.written

abbrev EachWasOrIsNew : (ℕ → Written → Type 0) → Machine → Type 0
EachWasOrIsNew P next = AllByRecursion (WasOrIsNew P next) next.writes

event-new : (P : ℕ → Written → Type 0) (next : Machine) (p : Policy) (q serial : ℕ) → AllByRecursion (WasOrIsNew P next) (write_of_event p q serial)
event-new P next policy.Full q serial = (inr tt, tt)
event-new P next p q serial = tt

event-each : (P : ℕ → Written → Type 0) (next : Machine) (writes : List Write) (p : Policy) (q serial : ℕ) → AllByRecursion (λ (x : Write). P x.node x.written) writes
    → AllByRecursion (WasOrIsNew P next) (writes ++ write_of_event p q serial)
event-each P next writes p q serial a =
    each-append (WasOrIsNew P next) writes (write_of_event p q serial) (each-weaker (λ (x : Write). P x.node x.written) (WasOrIsNew P next) writes (λ x b. inl b) a)
    (event-new P next p q serial)

asked-each : (P : ℕ → Written → Type 0) (state : Machine) (settled : List Front) (ps : List ℕ) → AllByRecursion (λ (x : Write). P x.node x.written) state.writes
    → EachWasOrIsNew P (record state { settled = settled; writes = state.writes ++ settled_writes state settled ps })
asked-each P state settled ps a =
    let next : Machine = record state { settled = settled; writes = state.writes ++ settled_writes state settled ps } in
    each-append (WasOrIsNew P next) state.writes (settled_writes state settled ps) (each-weaker (λ (x : Write). P x.node x.written) (WasOrIsNew P next) state.writes (λ x b. inl b) a)
    (each-map (WasOrIsNew P next) (λ p. checkpoint_of state p (front_of settled p)) ps
    (each-one (λ p. WasOrIsNew P next (checkpoint_of state p (front_of settled p))) ps (λ p. inr (refl, refl))))

-- the writes after a step are those before it, whatever their progress, or new
took-was_or_new : (sys : System) (P : ℕ → Written → Type 0) (state : Machine) (step : Step) (next : Machine) (effect : Effect) → LeadsTo sys state step next effect
    → AllByRecursion (λ (x : Write). P x.node x.written) state.writes → EachWasOrIsNew P next
took-was_or_new sys P state (Inject s) next effect t a =
    subst (EachWasOrIsNew P) (sym t.3) (event-each P (with_event sys state (Injected s t.0)) state.writes (policy_of sys.flow s) s state.next a)
took-was_or_new sys P state (Deliver e at) next effect t a =
    let r = receiver sys.flow e in
    subst (EachWasOrIsNew P) (sym t.3) (event-each P (with_event sys state (Delivered e t.0)) state.writes (policy_of sys.flow r) r state.next a)
took-was_or_new sys P state (Notify p at) next effect t a =
    subst (EachWasOrIsNew P) (sym t.3) (event-each P (with_event sys state (Notified p t.0)) state.writes (policy_of sys.flow p) p state.next a)
took-was_or_new sys P state ProgressStep next effect t a =
    let settled = t.1 in
    let ps = filter (λ p. is_eager (policy_of sys.flow p) && not (same_front (front_of state.settled p) (front_of settled p))) (node_ids sys.flow) in
    subst (EachWasOrIsNew P) (sym t.3) (asked-each P state settled ps a)
took-was_or_new sys P state (Checkpoint p) next effect t a = subst (EachWasOrIsNew P) (sym t.3) (asked-each P state state.settled (p ∷ []) a)
took-was_or_new sys P state Persist next effect t a =
    let k = t.1 in
    let y = k.oldest in
    let W : Write → Type 0 = λ x. P x.node x.written in
    each-weaker W (WasOrIsNew P next) next.writes (λ x b. inl b)
    (subst (λ (m : Machine). AllByRecursion W m.writes) (sym t.2)
    (subst (AllByRecursion W) (sym k.after) (each-replaced W k.earlier y (record y { stage = acknowledged }) k.later (λ b. b) (subst (AllByRecursion W) k.before a))))
took-was_or_new sys P state (Fail ps) next effect t a =
    let W : Write → Type 0 = λ x. P x.node x.written in
    each-weaker W (WasOrIsNew P next) next.writes (λ x b. inl b)
    (subst (λ (m : Machine). AllByRecursion W m.writes) (sym t.4) (each-passed W W (λ write. not (is_one_of write.node ps && is_in_flight write.stage)) state.writes (λ x k b. b) a))
took-was_or_new sys P state Recover next effect t a =
    let W : Write → Type 0 = λ x. P x.node x.written in
    each-weaker W (WasOrIsNew P next) next.writes (λ x b. inl b)
    (subst (λ (m : Machine). AllByRecursion W m.writes) (sym t.7)
    (each-passed W W (λ write. is_kept_write (cut_of t.1 write.node) write.written (filtered_history sys t.1 state.history)) state.writes (λ x k b. b) a))
took-was_or_new sys P state Collect next effect t a =
    let W : Write → Type 0 = λ x. P x.node x.written in
    let low = map front_of_cut t.0.cuts in
    each-weaker W (WasOrIsNew P next) next.writes (λ x b. inl b)
    (subst (λ (m : Machine). AllByRecursion W m.writes) (sym t.3)
    (each-map W (λ (x : Write). record x { stage = after_collection (is_forgotten sys low state.history state.writes x) x.stage }) state.writes a))
took-was_or_new sys P state (Ack o) next effect t a =
    let W : Write → Type 0 = λ x. P x.node x.written in
    each-weaker W (WasOrIsNew P next) next.writes (λ x b. inl b) (subst (λ (m : Machine). AllByRecursion W m.writes) (sym t.2) a)

-- a step after the state in which it was asked, or the step in which it is asked
asked-on : (sys : System) (steps : List Step) (outcomes : List Outcome) (state : Machine) → Run sys (first_state sys) steps outcomes state → (step : Step) (next : Machine)
    → (outcome : Outcome) → StepsTo sys state step next outcome → (p : ℕ) (w : Written) → IsWrittenAsAsked sys state p w ⊎ IsNew next p w → CountsWritten sys state next p w
    → CountsWritten sys next next p w → IsWrittenAsAsked sys next p w
asked-on sys steps outcomes state r step next outcome t p (checkpoint f low) (inl a) c d = record {
  steps = a.steps;
  outcomes = a.outcomes;
  asked = a.asked;
  run = a.run;
  more = a.more ++ step ∷ [];
  also = a.also ++ outcome ∷ [];
  on = runs-go_on sys a.asked state next a.more (step ∷ []) a.also (outcome ∷ []) a.on (next, t, refl);
  settled = a.settled;
  watermark = a.watermark;
  same = counts-on sys a.asked state next p f a.same c;
}
asked-on sys steps outcomes state r step next outcome t p (checkpoint f low) (inr a) c d = record {
  steps = steps ++ step ∷ [];
  outcomes = outcomes ++ outcome ∷ [];
  asked = next;
  run = runs-go_on sys (first_state sys) state next steps (step ∷ []) outcomes (outcome ∷ []) r (next, t, refl);
  more = [];
  also = [];
  on = refl;
  settled = a.0;
  watermark = a.1;
  same = d;
}
asked-on sys steps outcomes state r step next outcome t p (logged_event s) a c d = tt

abbrev AreAsAsked : System → Machine → Type 0
AreAsAsked sys state = AllByRecursion (λ (x : Write). IsWrittenAsAsked sys state x.node x.written) state.writes

took-as_asked : (sys : System) → IsWellFormedSystem sys → (steps : List Step) (outcomes : List Outcome) (state : Machine) → Run sys (first_state sys) steps outcomes state
    → CanRecoverAndRestore sys state → (step : Step) (next : Machine) (effect : Effect) → LeadsTo sys state step next effect → CanRecoverAndRestore sys next → AreAsAsked sys state → AreAsAsked sys next
took-as_asked sys w steps outcomes state r f step next effect t g a =
    let Was : Write → Type 0 = WasOrIsNew (IsWrittenAsAsked sys state) next in
    let Counts : Write → Type 0 = λ x. CountsWritten sys state next x.node x.written in
    let Itself : Write → Type 0 = λ x. CountsWritten sys next next x.node x.written in
    each-weaker (λ (x : Write). Was x × (Counts x × Itself x)) (λ x. IsWrittenAsAsked sys next x.node x.written) next.writes
    (λ x b. asked-on sys steps outcomes state r step next (did effect) t x.node x.written b.0 b.1.0 b.1.1)
    (each-both Was (λ x. Counts x × Itself x) next.writes (took-was_or_new sys (IsWrittenAsAsked sys state) state step next effect t a)
    (each-both Counts Itself next.writes (took-true sys w state step next effect f g t) (same-each sys next next refl)))

run-as_asked : (sys : System) → IsWellFormedSystem sys → (before : List Step) (seen : List Outcome) (steps : List Step) (outcomes : List Outcome) (state last : Machine)
    → Run sys (first_state sys) before seen state → CanRecoverAndRestore sys state → AreAsAsked sys state → Run sys state steps outcomes last → AreAsAsked sys last
run-as_asked sys w before seen [] [] state last p f a r = subst (AreAsAsked sys) (sym r) a
run-as_asked sys w before seen [] (o ∷ os) state last p f a r = absurd r
run-as_asked sys w before seen (s ∷ ss) [] state last p f a r = absurd r
run-as_asked sys w before seen (s ∷ ss) (did effect ∷ os) state last p f a r =
    let g = took-reached sys w state s r.0 effect f r.1 in
    run-as_asked sys w (before ++ s ∷ []) (seen ++ did effect ∷ []) ss os r.0 last (runs-go_on sys (first_state sys) state r.0 before (s ∷ []) seen (did effect ∷ []) p (r.0, r.1, refl)) g
    (took-as_asked sys w before seen state p f s r.0 effect r.1 g a) r.2
run-as_asked sys w before seen (s ∷ ss) (idle ∷ os) state last p f a r =
    run-as_asked sys w before seen ss os r.0 last (subst (Run sys (first_state sys) before seen) (sym r.1.1) p) (subst (CanRecoverAndRestore sys) (sym r.1.1) f)
    (subst (AreAsAsked sys) (sym r.1.1) a) r.2

pub checkpoints-as_asked : CheckpointsAreAsTheyWereAsked
checkpoints-as_asked sys w steps outcomes last r = run-as_asked sys w [] [] steps outcomes (first_state sys) last refl (first-reached sys w) tt r
