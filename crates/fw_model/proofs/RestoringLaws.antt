-- What a restoration needs is there, and what checkpoints hold stays true.
use Rattle.std.proofs.Common.{◌≡◌, ℕ, ◌<◌, Bool, true, false, not, List, [], ◌∷◌, length, refl, sym, ap, subst, ◌∙◌, inl, inr}
use Rattle.std.specs.List.{AllByRecursion}
use Rattle.std.proofs.lemmas.Bool.{not-true, and_parts, cond_both, cases_lt, false_from_ne_true}
use Rattle.std.proofs.lemmas.List.{get_or_past}
use Rattle.fw_lemmas.proofs.Bools.{two_ways}
use Rattle.fw_lemmas.proofs.Each.{each-weaker, each-both, each-one, each-suffix, each-passed, each-each}
use Rattle.fw_lemmas.proofs.Filters.{filter-inner}
use Rattle.fw_time.specs.Stamp.{Stamp, in_domain}
use Rattle.fw_frontier.specs.Frontier.{Frontier, Within}
use Rattle.fw_frontier.specs.Front.{Front, inside, frontier_of}
use Rattle.fw_flow.specs.declared.choice.Cut.{Cut}
use Rattle.fw_flow.specs.declared.choice.Cut.TheVariants.{Present, At}
use Rattle.fw_flow.specs.declared.event.Event.{Event}
use Rattle.fw_flow.specs.declared.event.Event.TheVariants.{Inject as Injected, Deliver as Delivered, Notify as Notified}
use Rattle.fw_flow.specs.declared.event.Message.{Message}
use Rattle.fw_flow.specs.Kind.{Kind}
use Rattle.fw_flow.specs.declared.kind.Kind.TheVariants.{Input, OutputEpoch, OutputNumber}
use Rattle.fw_flow.specs.declared.kind.Policy.{Policy}
use Rattle.fw_flow.specs.declared.kind.Policy.TheVariants as policy
use Rattle.fw_flow.specs.declared.node.Node.{Node}
use Rattle.fw_flow.specs.declared.step.Step.{Step}
use Rattle.fw_flow.specs.declared.step.Step.TheVariants.{Inject, Deliver, Notify, Progress as ProgressStep, Checkpoint, Persist, Fail, Recover, Collect, Ack}
use Rattle.fw_flow.specs.Dataflow.{System, Dataflow, idle_node, kind_of, policy_of, sender, receiver, bounds_of, is_input_kind, HasEpochs}
use Rattle.fw_flow.specs.NodeFunction.{event_node, event_stamp}
use Rattle.fw_flow.specs.WellFormed.{IsWellFormed, IsWellFormedSystem, IsPolicyAllowed, may_keep_nothing}
use Rattle.fw_model.specs.Denotation.{rounds}
use Rattle.fw_model.specs.History.{IsEnabled, IsLegal, sent_messages}
use Rattle.fw_model.specs.Machine.{Machine, SerialEvent, Write, Written, checkpoint, logged_event, Stage, in_flight, acknowledged, collected, events, front_of}
use Rattle.fw_flow.specs.declared.choice.Choice.{Choice}
use Rattle.fw_model.specs.Choice.{kept, ever, is_counted, IsLogged, AllLogged, IsRestorable, IsCandidate, cut_of, kept_of, IsLargest, filtered_history}
use Rattle.fw_flow.specs.declared.restoring.Restoring.TheVariants.{Batches, Events}
use Rattle.fw_flow.specs.Restoring.{restoring_of_policy, restoring, way_of}
use Rattle.fw_model.specs.Covers.{set_of}
use Rattle.fw_model.specs.Steps.{Effect, Outcome, did, idle, LeadsTo, Run, with_event, checkpoint_front, is_kept_write, recovered_state, is_given_up}
use Rattle.fw_model.specs.LawsOfRestoring.{CheckpointsStayTrue, NothingComesInsideCheckpoints, CheckpointsAtCutsAreKept, LogsHoldWhatIsSentAgain, CheckpointLogsHoldWhatIsSentAgain, KeptWatermarksLieWithinToday, BatchesOutsideCutsLieOutsideLow, BatchesToComeLieOutsideLow, EventsInsideCutsAreLogged, EventsThatMustBeKeptAreNeverCollected}
use Rattle.fw_model.proofs.DenotationLaws.{denotation-exists}
use Rattle.fw_model.proofs.FilteredLaws.{filtered-events, set-frontier}
use Rattle.fw_frontier.proofs.NamesLaws.{is_within-holds}
use Rattle.fw_model.proofs.CheckpointLaws.{HoldsSettled, IsWriteSettled}
use Rattle.fw_model.proofs.SameInsideLaws.{at_node, low-offered}
use Rattle.fw_model.proofs.WriteLaws.{HoldsOfOne, some-weaker, IsCheckpointAt, IsItsCheckpoint, NamesEvent, LogsEvent, some-checkpoint, some-logged, ArePairs}
use Rattle.fw_model.proofs.LowLaws.{input-is, batch-outside, settled-outside, low-within, within-set}
use Rattle.fw_model.proofs.PartLaws.{part-same, part-event, part-kept, part-counts}
use Rattle.fw_model.proofs.ChoosingLaws.{full-of, took-grows}
use Rattle.fw_model.proofs.AskedLaws.{takes-declared, takes-restoring, takes-not_input, IsAskedWell, IsWriteAskedWell, IsApart, CanRecoverAndRestore, took-reached, run-reached, reached-all}
use Rattle.fw_model.proofs.DomainLaws.{has_epochs}
use Rattle.fw_model.specs.Measure.{enough_rounds}
use Rattle.fw_model.specs.Settled.{IsFull}
use Rattle.fw_model.specs.Filtering.{AreFrontiers, kept_events, messages_from, messages_outside}
use Rattle.fw_model.specs.Writes.{IsSamePart, CountsWritten, NothingComesInside, HasOne, IsCheckpointOf, IsKeptWithin, LogsSerial, IsLoggedOnce, MayKeepNothingIfCollected}
use Rattle.fw_model.specs.Resending.{at_receiver, HoldsWhatIsSentAgain, LogHoldsWhatIsSentAgain}

-- ---- nothing comes inside a checkpoint

-- what is settled is full
pub full-reached : (sys : System) (state : Machine) → IsWellFormedSystem sys → CanRecoverAndRestore sys state → IsFull sys state
full-reached sys state w f = full-of sys (rounds sys (enough_rounds sys.flow)) state w (denotation-exists sys w.flow) f.recover.holds

settled-closed : (sys : System) (state : Machine) → IsWellFormed sys.flow → IsFull sys state → (low : List Front) (next : ℕ) (h : List SerialEvent) (p : ℕ) (w : Written) (far : Stage)
    → HoldsSettled sys state.settled p w → IsAskedWell sys low next h p w far → NothingComesInside sys state p w
settled-closed sys state w f low next h p (checkpoint g l) far s a = λ v k e.
    let out = settled-outside sys state v f k p (takes-not_input sys.flow w p a.0) e in
    false_from_ne_true (frontier_of (bounds_of sys.flow p) g (event_stamp v))
    (λ i. two_ways (at_node sys state.settled p (event_stamp v)) (s (takes-declared sys.flow p a.0) (event_stamp v) i) out)
settled-closed sys state w f low next h p (logged_event s) far b a = tt

closed-each : (sys : System) (state : Machine) → IsWellFormedSystem sys → CanRecoverAndRestore sys state
    → AllByRecursion (λ (x : Write). NothingComesInside sys state x.node x.written) state.writes
closed-each sys state w f =
    each-weaker (λ (x : Write). IsWriteSettled sys state.settled x × IsWriteAskedWell sys state.low state.next state.history x)
    (λ x. NothingComesInside sys state x.node x.written) state.writes
    (λ x a. settled-closed sys state w.flow (full-reached sys state w f) state.low state.next state.history x.node x.written x.stage a.0 a.1)
    (each-both (IsWriteSettled sys state.settled) (IsWriteAskedWell sys state.low state.next state.history) state.writes f.recover.lie_settled f.restore.asked)

pub nothing-inside : NothingComesInsideCheckpoints
nothing-inside sys w steps outcomes last r = closed-each sys last w (reached-all sys w steps outcomes last r)

-- ---- what checkpoints hold stays true

pub same-written : (sys : System) (state next : Machine) → next.history ≡ state.history → (p : ℕ) (w : Written) → CountsWritten sys state next p w
same-written sys state next e p (checkpoint f l) =
    part-counts sys state next p f
    (subst (λ h. IsSamePart sys (events state.history) (events h) p (frontier_of (bounds_of sys.flow p) f)) (sym e) (part-same sys (events state.history) p (frontier_of (bounds_of sys.flow p) f)))
same-written sys state next e p (logged_event s) = tt

pub same-each : (sys : System) (state next : Machine) → next.history ≡ state.history → AllByRecursion (λ (x : Write). CountsWritten sys state next x.node x.written) next.writes
same-each sys state next e = each-one (λ (x : Write). CountsWritten sys state next x.node x.written) next.writes (λ x. same-written sys state next e x.node x.written)

event-written : (sys : System) (state : Machine) (v : Event) → IsWellFormed sys.flow → IsFull sys state → IsEnabled sys (events state.history) v
    → (low : List Front) (next : ℕ) (h : List SerialEvent) (p : ℕ) (w : Written) (far : Stage) → HoldsSettled sys state.settled p w → IsAskedWell sys low next h p w far
    → CountsWritten sys state (with_event sys state v) p w
event-written sys state v w f k low next h p (checkpoint g l) far s a =
    part-counts sys state (with_event sys state v) p g
    (part-event sys (events state.history) v p (frontier_of (bounds_of sys.flow p) g) (λ e. settled-closed sys state w f low next h p (checkpoint g l) far s a v k e))
event-written sys state v w f k low next h p (logged_event r) far s a = tt

event-each : (sys : System) (state next : Machine) (v : Event) → IsWellFormedSystem sys → CanRecoverAndRestore sys state → CanRecoverAndRestore sys next → IsEnabled sys (events state.history) v
    → next ≡ with_event sys state v → AllByRecursion (λ (x : Write). CountsWritten sys state next x.node x.written) next.writes
event-each sys state next v w f g k e =
    let settled : next.settled ≡ state.settled = ap (λ (m : Machine). m.settled) e in
    each-weaker (λ (x : Write). IsWriteSettled sys next.settled x × IsWriteAskedWell sys next.low next.next next.history x)
    (λ x. CountsWritten sys state next x.node x.written) next.writes
    (λ x a. subst (λ (m : Machine). CountsWritten sys state m x.node x.written) (sym e)
    (event-written sys state v w.flow (full-reached sys state w f) k next.low next.next next.history x.node x.written x.stage
    (subst (λ fs. HoldsSettled sys fs x.node x.written) settled a.0) a.1))
    (each-both (IsWriteSettled sys next.settled) (IsWriteAskedWell sys next.low next.next next.history) next.writes g.recover.lie_settled g.restore.asked)

-- a checkpoint within the cut of its node lies within what the node keeps
kept-within : (sys : System) (p : ℕ) (cut : Cut) (f : Front) (l : List Front) (h : List SerialEvent) → is_kept_write cut (checkpoint f l) h ≡ true
    → Within (frontier_of (bounds_of sys.flow p) f) (set_of sys.flow p cut)
kept-within sys p Present f l h k t i = (and_parts (in_domain (bounds_of sys.flow p) t) (inside f t) i).0
kept-within sys p (At g) f l h k t i = is_within-holds (bounds_of sys.flow p) f g k t i

recovered-written : (sys : System) (state next : Machine) (choice : Choice) → IsWellFormed sys.flow → HasEpochs sys → IsLegal sys (events state.history)
    → next.history ≡ filtered_history sys choice state.history → (p : ℕ) (w : Written) → is_kept_write (cut_of choice p) w (filtered_history sys choice state.history) ≡ true
    → CountsWritten sys state next p w
recovered-written sys state next choice w b l e p (checkpoint f low) k =
    let h = events state.history in
    let g = frontier_of (bounds_of sys.flow p) f in
    let keep = kept_of sys.flow choice in
    let fr : AreFrontiers sys.flow keep = λ q. set-frontier sys q (cut_of choice q) in
    let now : events next.history ≡ kept_events sys.flow keep h = ap events e ∙ filtered-events sys choice state.history in
    part-counts sys state next p f
    (subst (λ vs. IsSamePart sys h vs p g) (sym now) (part-kept sys h keep w b l fr p g (kept-within sys p (cut_of choice p) f low (filtered_history sys choice state.history) k)))
recovered-written sys state next choice w b l e p (logged_event s) k = tt

recovered-each : (sys : System) (state next : Machine) (choice : Choice) (settled : List Front) → IsWellFormed sys.flow → HasEpochs sys → IsLegal sys (events state.history)
    → next ≡ recovered_state sys state choice settled → AllByRecursion (λ (x : Write). CountsWritten sys state next x.node x.written) next.writes
recovered-each sys state next choice settled w b l e =
    let h = filtered_history sys choice state.history in
    subst (AllByRecursion (λ (x : Write). CountsWritten sys state next x.node x.written)) (sym (ap (λ (m : Machine). m.writes) e))
    (each-passed (λ (x : Write). Unit {0}) (λ x. CountsWritten sys state next x.node x.written) (λ x. is_kept_write (cut_of choice x.node) x.written h) state.writes
    (λ x k u. recovered-written sys state next choice w b l (ap (λ (m : Machine). m.history) e) x.node x.written k)
    (each-one (λ (x : Write). Unit {0}) state.writes (λ x. tt)))

pub took-true : (sys : System) → IsWellFormedSystem sys → (state : Machine) (step : Step) (next : Machine) (effect : Effect) → CanRecoverAndRestore sys state → CanRecoverAndRestore sys next
    → LeadsTo sys state step next effect → AllByRecursion (λ (x : Write). CountsWritten sys state next x.node x.written) next.writes
took-true sys w state (Inject s) next effect f g t = event-each sys state next (Injected s t.0) w f g t.1 t.3
took-true sys w state (Deliver e at) next effect f g t = event-each sys state next (Delivered e t.0) w f g t.1.enabled t.3
took-true sys w state (Notify p at) next effect f g t = event-each sys state next (Notified p t.0) w f g t.1.enabled t.3
took-true sys w state ProgressStep next effect f g t = same-each sys state next (ap (λ (m : Machine). m.history) t.3)
took-true sys w state (Checkpoint p) next effect f g t = same-each sys state next (ap (λ (m : Machine). m.history) t.3)
took-true sys w state Persist next effect f g t = same-each sys state next (ap (λ (m : Machine). m.history) t.2)
took-true sys w state (Fail ps) next effect f g t = same-each sys state next (ap (λ (m : Machine). m.history) t.4)
took-true sys w state Recover next effect f g t = recovered-each sys state next t.1 t.2 w.flow (has_epochs sys w) f.recover.holds.legal t.7
took-true sys w state Collect next effect f g t = same-each sys state next (ap (λ (m : Machine). m.history) t.3)
took-true sys w state (Ack o) next effect f g t = same-each sys state next (ap (λ (m : Machine). m.history) t.2)

pub checkpoints-true : CheckpointsStayTrue
checkpoints-true sys w steps outcomes last r step next (did effect) t =
    let f = reached-all sys w steps outcomes last r in
    took-true sys w last step next effect f (took-reached sys w last step next effect f t) t
checkpoints-true sys w steps outcomes last r step next idle t = same-each sys last next (ap (λ (m : Machine). m.history) t.1)

-- ---- exactly one

pub some-both : {A : Type 0} (P Q : A → Type 0) (xs : List A) → HoldsOfOne P xs → AllByRecursion Q xs → HoldsOfOne (λ x. P x × Q x) xs
some-both P Q [] a b = absurd a
some-both P Q (x ∷ xs) (inl a) b = inl (a, b.0)
some-both P Q (x ∷ xs) (inr a) b = inr (some-both P Q xs a b.1)

-- where no two writes hold the same, one that is such a one is the only one
pub only-one : (IsSuch Q : Write → Type 0) → ((x y : Write) → IsApart x.node x.written y.node y.written → IsSuch x → IsSuch y → ⊥) → (xs : List Write) → ArePairs IsApart xs
    → HoldsOfOne (λ x. IsSuch x × Q x) xs → (only : HasOne IsSuch xs) × Q only.one
only-one IsSuch Q k [] a b = absurd b
only-one IsSuch Q k (x ∷ xs) a (inl b) = (
  record {
    earlier = [];
    one = x;
    later = xs;
    there = refl;
    is_such = b.0;
    none_earlier = tt;
    none_later = each-weaker (λ (y : Write). IsApart x.node x.written y.node y.written) (λ y. IsSuch y → ⊥) xs (λ y r c. k x y r b.0 c) a.0;
  },
  b.1,
)
only-one IsSuch Q k (x ∷ xs) a (inr b) =
    let rest = only-one IsSuch Q k xs a.1 b in
    let o = rest.0 in
    let apart = (each-suffix (λ (y : Write). IsApart x.node x.written y.node y.written) o.earlier (o.one ∷ o.later) (subst (AllByRecursion (λ (y : Write). IsApart x.node x.written y.node y.written)) o.there a.0)).0 in (
      record {
        earlier = x ∷ o.earlier;
        one = o.one;
        later = o.later;
        there = ap (λ ys. x ∷ ys) o.there;
        is_such = o.is_such;
        none_earlier = ((λ c. k x o.one apart c o.is_such), o.none_earlier);
        none_later = o.none_later;
      },
      rest.1,
    )

-- ---- checkpoints at cuts

apart-checkpoints : (p : ℕ) (f : Front) (m : ℕ) (v : Written) (n : ℕ) (w : Written) → IsApart m v n w → m ≡ p → n ≡ p → checkpoint_front v ≡ f ∷ []
    → checkpoint_front w ≡ f ∷ [] → ⊥
apart-checkpoints p f m (checkpoint g l) n (checkpoint k j) a b c d e = a (b ∙ sym c) (cc)
apart-checkpoints p f m (checkpoint g l) n (logged_event s) a b c d e = absurd (cc)
apart-checkpoints p f m (logged_event r) n w a b c d e = absurd (cc)

kept-acknowledged : (far : Stage) → is_counted kept far ≡ true → far ≡ acknowledged
kept-acknowledged in_flight e = absurd (cc)
kept-acknowledged acknowledged e = refl
kept-acknowledged collected e = absurd (cc)

its-checkpoint : (p : ℕ) (f : Front) (n : ℕ) (w : Written) (far : Stage) → IsCheckpointAt kept p f n w far
    → ((n ≡ p) × (checkpoint_front w ≡ f ∷ [])) × (far ≡ acknowledged)
its-checkpoint p f n (checkpoint g l) far a = ((a.0, ap (λ x. x ∷ []) a.1), kept-acknowledged far a.2)
its-checkpoint p f n (logged_event s) far a = absurd a

pub cuts-kept : CheckpointsAtCutsAreKept
cuts-kept sys w steps outcomes last r lost choice m p f takes cut some =
    let reached = reached-all sys w steps outcomes last r in
    let l = takes-declared sys.flow p takes in
    let way = takes-restoring (kind_of sys.flow p) (policy_of sys.flow p) (w.flow.policies p l) takes in
    let offered = subst (λ c. IsCandidate sys last lost kept p c) cut (m.consistent.offered p l) in
    let restorable = subst (λ r. IsRestorable sys last kept p r f) way offered.1 in
    elim restorable [
      | inl none ↦ absurd (some none)
      | inr has ↦
          only-one (IsCheckpointOf p f) (λ x. x.stage ≡ acknowledged)
          (λ x y a b c. apart-checkpoints p f x.node x.written y.node y.written a b.0 c.0 b.1 c.1) last.writes reached.restore.apart
          (some-weaker (IsItsCheckpoint kept p f) (λ x. IsCheckpointOf p f x × (x.stage ≡ acknowledged)) last.writes
          (λ x a. its-checkpoint p f x.node x.written x.stage a) (some-checkpoint kept p f last.writes has))
    ]

-- ---- logs

within-not : (f g : Frontier) → Within f g → (t : Stamp) → g t ≡ false → f t ≡ false
within-not f g w t o = false_from_ne_true (f t) (λ i. two_ways (g t) (w t i) o)

outside-each : (g : Frontier) (ms : List Message) → AllByRecursion (λ (m : Message). g m.at ≡ false) (messages_outside g ms)
outside-each g [] = tt
outside-each g (m ∷ ms) =
    cond_both (not (g m.at)) (m ∷ messages_outside g ms) (messages_outside g ms) (AllByRecursion (λ (m : Message). g m.at ≡ false))
    (λ e. (not-true (g m.at) e, outside-each g ms)) (λ e. outside-each g ms)

-- the low watermark lies within what a largest choice keeps
pub low-kept : (sys : System) (state : Machine) → CanRecoverAndRestore sys state → (lost : ℕ → Bool) (choice : Choice) → IsLargest sys state (IsCandidate sys state lost kept) choice
    → (p : ℕ) → p < length sys.flow.nodes → Within (at_node sys state.low p) (kept_of sys.flow choice p)
low-kept sys state f lost choice m p l =
    within-set sys p (front_of state.low p) (cut_of choice p) (low-within sys state f.recover.notices f.recover.watermark lost kept choice m p l)

resent-held : (sys : System) (state : Machine) (choice : Choice) (low : List Front) (e : ℕ) → Within (at_receiver sys low e) (kept_of sys.flow choice (receiver sys.flow e))
    → HoldsWhatIsSentAgain sys state choice low e
resent-held sys state choice low e w =
    let g = kept_of sys.flow choice (receiver sys.flow e) in
    let f = at_receiver sys low e in
    let ms = messages_from (kept_of sys.flow choice (sender sys.flow e)) (sent_messages sys (events state.history) e) in
    record {
      outside = each-weaker (λ (m : Message). g m.at ≡ false) (λ m. f m.at ≡ false) (messages_outside g ms) (λ m o. within-not f g w m.at o) (outside-each g ms);
      logged = filter-inner (λ (m : Message). not (g m.at)) (λ m. not (f m.at)) ms
          (each-one (λ (m : Message). not (g m.at) ≡ true → not (f m.at) ≡ true) ms (λ m k. outside_both (f m.at) (g m.at) (w m.at) k));
    }
  where
    outside_both : (a b : Bool) → (a ≡ true → b ≡ true) → not b ≡ true → not a ≡ true
    outside_both true b h k = absurd (two_ways (not b) k (ap not (h refl)))
    outside_both false b h k = refl

pub logs-hold : LogsHoldWhatIsSentAgain
logs-hold sys w steps outcomes last r lost choice m e l =
    resent-held sys last choice last.low e (low-kept sys last (reached-all sys w steps outcomes last r) lost choice m (receiver sys.flow e) (w.flow.receivers_declared e l))

checkpoint-log : (sys : System) (state : Machine) (choice : Choice) → IsWellFormed sys.flow → (next : ℕ) (h : List SerialEvent)
    → ((p : ℕ) → p < length sys.flow.nodes → Within (at_node sys state.low p) (kept_of sys.flow choice p)) → (p : ℕ) (w : Written) (far : Stage)
    → IsAskedWell sys state.low next h p w far → LogHoldsWhatIsSentAgain sys state choice p w
checkpoint-log sys state choice w next h k p (checkpoint f low) far a = λ e l s.
    let q = receiver sys.flow e in
    resent-held sys state choice low e (λ t i. k q (w.receivers_declared e l) t (a.2 q t i))
checkpoint-log sys state choice w next h k p (logged_event s) far a = tt

pub checkpoint_logs-hold : CheckpointLogsHoldWhatIsSentAgain
checkpoint_logs-hold sys w steps outcomes last r lost choice m =
    let f = reached-all sys w steps outcomes last r in
    each-weaker (IsWriteAskedWell sys last.low last.next last.history) (λ (x : Write). LogHoldsWhatIsSentAgain sys last choice x.node x.written) last.writes
    (λ x a. checkpoint-log sys last choice w.flow last.next last.history (low-kept sys last f lost choice m) x.node x.written x.stage a) f.restore.asked

kept-today : (sys : System) (low : List Front) (next : ℕ) (h : List SerialEvent) (p : ℕ) (w : Written) (far : Stage) → IsAskedWell sys low next h p w far → IsKeptWithin sys low w
kept-today sys low next h p (checkpoint f l) far a = a.2
kept-today sys low next h p (logged_event s) far a = tt

pub watermarks-today : KeptWatermarksLieWithinToday
watermarks-today sys w steps outcomes last r =
    each-weaker (IsWriteAskedWell sys last.low last.next last.history) (λ (x : Write). IsKeptWithin sys last.low x.written) last.writes
    (λ x a. kept-today sys last.low last.next last.history x.node x.written x.stage a) (reached-all sys w steps outcomes last r).restore.asked

-- ---- batches

pub cut_batches-outside : BatchesOutsideCutsLieOutsideLow
cut_batches-outside sys w steps outcomes last r lost choice m s x l o =
    within-not (at_node sys last.low s) (kept_of sys.flow choice s) (low-kept sys last (reached-all sys w steps outcomes last r) lost choice m s l) (x ∷ []) o

-- an input is there
input-declared : (flow : Dataflow) (s : ℕ) → is_input_kind (kind_of flow s) ≡ true → s < length flow.nodes
unfolding kind_of
input-declared flow s k = elim (cases_lt s (length flow.nodes)) [
  | inl l ↦ l
  | inr past ↦ absurd (two_ways false (sym (ap (λ (n : Node). is_input_kind n.kind) (get_or_past flow.nodes s idle_node past)) ∙ k) refl)
]

-- the low watermark grows along a run
run-grows : (sys : System) → IsWellFormedSystem sys → (steps : List Step) (outcomes : List Outcome) (state last : Machine) → CanRecoverAndRestore sys state
    → Run sys state steps outcomes last → (p : ℕ) → p < length sys.flow.nodes → Within (at_node sys state.low p) (at_node sys last.low p)
run-grows sys w [] [] state last f r p l = λ t i. ap (λ (m : Machine). at_node sys m.low p t) r ∙ i
run-grows sys w [] (o ∷ os) state last f r p l = absurd r
run-grows sys w (s ∷ ss) [] state last f r p l = absurd r
run-grows sys w (s ∷ ss) (did effect ∷ os) state last f r p l = λ t i.
    run-grows sys w ss os r.0 last (took-reached sys w state s r.0 effect f r.1) r.2 p l t
    (took-grows sys state f.recover.notices s r.0 effect f.recover.watermark r.1 p l t i)
run-grows sys w (s ∷ ss) (idle ∷ os) state last f r p l = λ t i.
    run-grows sys w ss os r.0 last (subst (CanRecoverAndRestore sys) (sym r.1.1) f) r.2 p l t (ap (λ (m : Machine). at_node sys m.low p t) r.1.1 ∙ i)

pub batches-outside : BatchesToComeLieOutsideLow
batches-outside sys w steps outcomes last r more also later a s x k n there =
    let f = reached-all sys w steps outcomes last r in
    let g = run-reached sys w more also last later f a in
    let l = input-declared sys.flow s k in
    let way : way_of sys.flow s ≡ Batches = ap (λ kind. restoring kind (policy_of sys.flow s)) (input-is (kind_of sys.flow s) k) in
    let low = low-offered sys later g.recover.notices g.recover.watermark s l in
    within-not (at_node sys last.low s) (at_node sys later.low s) (run-grows sys w more also last later f a s l) (x ∷ [])
    (batch-outside sys later s x (front_of later.low s) n there (subst (λ r. IsRestorable sys later kept s r (front_of later.low s)) way low.1))

-- ---- logged events

-- the write, if it logs the event, is of its node, and if it was collected the event is given up
abbrev IsOf : System → List Front → SerialEvent → ℕ → Written → Stage → Type 0
IsOf sys low v n (checkpoint f l) far = Unit {0}
IsOf sys low v n (logged_event s) far =
    v.serial ≡ s → (event_node sys.flow v.event ≡ n) × (far ≡ collected → is_given_up sys low n (event_stamp v.event) ≡ true)

of-each : (sys : System) (low : List Front) (next : ℕ) (h : List SerialEvent) (n : ℕ) (w : Written) (far : Stage) → IsAskedWell sys low next h n w far
    → AllByRecursion (λ v. IsOf sys low v n w far) h
of-each sys low next h n (checkpoint f l) far a = each-one (λ (v : SerialEvent). Unit {0}) h (λ v. tt)
of-each sys low next h n (logged_event s) in_flight a =
    each-weaker (λ (v : SerialEvent). v.serial ≡ s → event_node sys.flow v.event ≡ n) (λ v. IsOf sys low v n (logged_event s) in_flight) h
    (λ v k e. (k e, λ c. absurd (cc c))) a.1
of-each sys low next h n (logged_event s) acknowledged a =
    each-weaker (λ (v : SerialEvent). v.serial ≡ s → event_node sys.flow v.event ≡ n) (λ v. IsOf sys low v n (logged_event s) acknowledged) h
    (λ v k e. (k e, λ c. absurd (cc c))) a.1
of-each sys low next h n (logged_event s) collected a =
    each-weaker (λ (v : SerialEvent). (v.serial ≡ s → event_node sys.flow v.event ≡ n) × (v.serial ≡ s → is_given_up sys low n (event_stamp v.event) ≡ true))
    (λ v. IsOf sys low v n (logged_event s) collected) h
    (λ v k e. (k.0 e, λ c. k.1 e))
    (each-both (λ (v : SerialEvent). v.serial ≡ s → event_node sys.flow v.event ≡ n) (λ v. v.serial ≡ s → is_given_up sys low n (event_stamp v.event) ≡ true) h a.1 a.2.1)

pub apart-events : (serial m : ℕ) (v : Written) (n : ℕ) (w : Written) → IsApart m v n w → v ≡ logged_event serial → w ≡ logged_event serial → ⊥
apart-events serial m v n w a d e = subst (λ y. IsApart m (logged_event serial) n y) e (subst (λ x. IsApart m x n w) d a) refl

-- what a write that logs the event says of it
abbrev LogsIt : System → List Front → SerialEvent → Write → Type 0
LogsIt sys low v x = (is_counted ever x.stage ≡ true) × (event_node sys.flow v.event ≡ x.node) × (x.stage ≡ collected → is_given_up sys low x.node (event_stamp v.event) ≡ true)

names-it : (sys : System) (low : List Front) (v : SerialEvent) (n : ℕ) (w : Written) (far : Stage) → NamesEvent v.serial w far → IsOf sys low v n w far
    → (w ≡ logged_event v.serial) × ((is_counted ever far ≡ true) × (event_node sys.flow v.event ≡ n) × (far ≡ collected → is_given_up sys low n (event_stamp v.event) ≡ true))
names-it sys low v n (checkpoint f l) far a b = absurd a
names-it sys low v n (logged_event s) far a b = let c = b (sym a.0) in (ap logged_event a.0, (a.1, c.0, c.1))

logged-once : (sys : System) (low : List Front) (p : ℕ) (v : SerialEvent) (writes : List Write) → ArePairs IsApart writes
    → AllByRecursion (λ (x : Write). IsOf sys low v x.node x.written x.stage) writes → event_node sys.flow v.event ≡ p → IsLogged v.serial writes
    → IsLoggedOnce sys low p v writes
logged-once sys low p v writes a each e k =
    let o = only-one (LogsSerial v.serial) (LogsIt sys low v) (λ x y r b c. apart-events v.serial x.node x.written y.node y.written r b c) writes a
    (some-weaker (λ (x : Write). LogsEvent v.serial x × IsOf sys low v x.node x.written x.stage) (λ x. LogsSerial v.serial x × LogsIt sys low v x) writes
    (λ x b. names-it sys low v x.node x.written x.stage b.0 b.1)
    (some-both (LogsEvent v.serial) (λ (x : Write). IsOf sys low v x.node x.written x.stage) writes (some-logged v.serial writes k) each)) in
    let its : o.0.one.node ≡ p = sym o.1.1 ∙ e in
    record {
      only = o.0;
      node = its;
      acknowledged = o.1.0;
      given_up = λ c. subst (λ q. is_given_up sys low q (event_stamp v.event) ≡ true) its (o.1.2 c);
    }

pub all-logged : (sys : System) (p : ℕ) (f : Frontier) (writes : List Write) (h : List SerialEvent) → AllLogged sys p f writes h
    → AllByRecursion (λ (v : SerialEvent). event_node sys.flow v.event ≡ p → f (event_stamp v.event) ≡ true → IsLogged v.serial writes) h
all-logged sys p f writes [] a = tt
all-logged sys p f writes (v ∷ h) a = (a.0, all-logged sys p f writes h a.1)

pub full-restoring : (kind : Kind) (p : Policy) → IsPolicyAllowed kind p → p ≡ policy.Full → restoring kind p ≡ Events
full-restoring Input p a k = absurd (let e : policy.None ≡ policy.Full = sym a ∙ k in cc)
full-restoring OutputEpoch p a k = absurd (let e : policy.None ≡ policy.Full = sym a ∙ k in cc)
full-restoring OutputNumber p a k = absurd (let e : policy.None ≡ policy.Full = sym a ∙ k in cc)
full-restoring kind p a k = ap restoring_of_policy k

pub full-declared : (flow : Dataflow) (p : ℕ) → policy_of flow p ≡ policy.Full → p < length flow.nodes
unfolding policy_of
full-declared flow p k = elim (cases_lt p (length flow.nodes)) [
  | inl l ↦ l
  | inr past ↦ absurd (let e : policy.None ≡ policy.Full = sym (ap (λ (n : Node). n.policy) (get_or_past flow.nodes p idle_node past)) ∙ k in cc)
]

pub events-logged : EventsInsideCutsAreLogged
events-logged sys w steps outcomes last r lost choice m p f full cut =
    let reached = reached-all sys w steps outcomes last r in
    let l = full-declared sys.flow p full in
    let way = full-restoring (kind_of sys.flow p) (policy_of sys.flow p) (w.flow.policies p l) full in
    let offered = subst (λ c. IsCandidate sys last lost kept p c) cut (m.consistent.offered p l) in
    let restorable = subst (λ r. IsRestorable sys last kept p r f) way offered.1 in
    let g = frontier_of (bounds_of sys.flow p) f in
    let each = each-each (λ (v : SerialEvent) (x : Write). IsOf sys last.low v x.node x.written x.stage) last.history last.writes
    (each-weaker (IsWriteAskedWell sys last.low last.next last.history)
    (λ (x : Write). AllByRecursion (λ v. IsOf sys last.low v x.node x.written x.stage) last.history) last.writes
    (λ x a. of-each sys last.low last.next last.history x.node x.written x.stage a) reached.restore.asked) in
    each-weaker
    (λ (v : SerialEvent). AllByRecursion (λ (x : Write). IsOf sys last.low v x.node x.written x.stage) last.writes
    × (event_node sys.flow v.event ≡ p → g (event_stamp v.event) ≡ true → IsLogged v.serial last.writes))
    (λ v. event_node sys.flow v.event ≡ p → g (event_stamp v.event) ≡ true → IsLoggedOnce sys last.low p v last.writes) last.history
    (λ v k e i. logged-once sys last.low p v last.writes reached.restore.apart k.0 e (k.1 e i))
    (each-both (λ (v : SerialEvent). AllByRecursion (λ (x : Write). IsOf sys last.low v x.node x.written x.stage) last.writes)
    (λ v. event_node sys.flow v.event ≡ p → g (event_stamp v.event) ≡ true → IsLogged v.serial last.writes) last.history each
    (all-logged sys p g last.writes last.history restorable.1))

collected-kind : (sys : System) (low : List Front) (next : ℕ) (h : List SerialEvent) (n : ℕ) (w : Written) (far : Stage) → IsAskedWell sys low next h n w far
    → (serial : ℕ) → w ≡ logged_event serial → far ≡ collected → may_keep_nothing (kind_of sys.flow n) ≡ true
collected-kind sys low next h n w far a serial e c =
    (subst (λ k. IsAskedWell sys low next h n (logged_event serial) k) c (subst (λ x. IsAskedWell sys low next h n x far) e a)).2.0

pub never-collected : EventsThatMustBeKeptAreNeverCollected
never-collected sys w steps outcomes last r =
    each-weaker (IsWriteAskedWell sys last.low last.next last.history) (MayKeepNothingIfCollected sys) last.writes
    (λ x a. collected-kind sys last.low last.next last.history x.node x.written x.stage a) (reached-all sys w steps outcomes last r).restore.asked
