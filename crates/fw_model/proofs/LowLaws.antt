-- The low watermark stays a consistent choice at each step.
use Rattle.std.proofs.Common.{◌≡◌, ℕ, zero, suc, ◌+◌, ◌<◌, ◌≤◌, Bool, true, false, cond, not, ◌&&◌, ◌==◌, List, [], ◌∷◌, ◌++◌, length, filter, map, slice_index_or, slice_set, refl, sym, ap, subst, ◌∙◌, inl, inr, arith}
use Rattle.std.specs.List.{AllByRecursion}
use Rattle.std.proofs.lemmas.Bool.{and_parts, and_from, or_parts, or_left, or_right, cond_both, cases_lt, eqb-true, eq-eqb, false_from_ne_true}
use Rattle.std.proofs.lemmas.List.{get_or-map, length-map}
use Rattle.std.proofs.lemmas.List.FromFn.{get_or-map-range_with_len, length-map-range_with_len}
use Rattle.fw_lemmas.proofs.Bools.{two_ways}
use Rattle.fw_lemmas.proofs.Each.{each-of_places}
use Rattle.fw_lemmas.proofs.Numbers.{count-grows, at_most-refl}
use Rattle.fw_time.specs.Stamp.{Stamp, leq, same, in_domain, origin}
use Rattle.fw_time.specs.declared.stamp.Bounds.{Bounds}
use Rattle.fw_frontier.specs.Frontier.{Frontier, Within, nothing, cover}
use Rattle.fw_frontier.specs.Front.{Front, inside, frontier_of, IsCanonical, is_within}
use Rattle.fw_frontier.proofs.NamesLaws.{names-nothing, within-is}
use Rattle.fw_flow.specs.declared.choice.Cut.{Cut}
use Rattle.fw_flow.specs.declared.choice.Cut.TheVariants.{Present, At}
use Rattle.fw_flow.specs.declared.event.Event.{Event}
use Rattle.fw_flow.specs.declared.event.Event.TheVariants.{Inject as Injected, Deliver as Delivered, Notify as Notified}
use Rattle.fw_flow.specs.declared.event.Message.{Message}
use Rattle.fw_flow.specs.Kind.{Kind}
use Rattle.fw_flow.specs.declared.kind.Kind.TheVariants.{Input}
use Rattle.fw_flow.specs.Dataflow.{System, Dataflow, kind_of, policy_of, sender, receiver, in_edges, bounds_of, batches_of, greatest_number, is_input_kind, is_notified_kind, HasEpochs, is_one_of}
use Rattle.fw_flow.specs.NodeFunction.{event_node, event_stamp}
use Rattle.fw_flow.specs.Projection.{phi}
use Rattle.fw_flow.specs.WellFormed.{IsWellFormed, IsInDegree}
use Rattle.fw_model.specs.History.{some_at, pending_messages, was_delivered_to, was_notified, is_injection, injected_count, is_exhausted, IsEnabled, IsLegal}
use Rattle.fw_model.specs.Machine.{Machine, SerialEvent, Write, Written, checkpoint, logged_event, Stage, in_flight, acknowledged, collected, events, no_stamps, first_state, front_of, ack_count_of}
use Rattle.fw_flow.specs.declared.choice.Choice.{Choice}
use Rattle.fw_model.specs.Choice.{View, kept, ever, is_counted, until, HasCheckpoint, IsLogged, AllLogged, IsRestorable, HoldsLow, IsCandidate, cut_of, notice_of, kept_of, IsConsistent, IsCutWithin, IsLargest, filtered_history}
use Rattle.fw_model.specs.Steps.{write_of_event, with_event, AcknowledgesOldest, is_in_flight, has_serial, is_kept_write, IsSettledCut, CutsTo, recovered_state, lies_below, after_collection, collected_writes, front_of_cut, is_forgotten}
use Rattle.fw_flow.specs.declared.restoring.Restoring.{Restoring}
use Rattle.fw_flow.specs.declared.restoring.Restoring.TheVariants.{Batches, Bound, Anything, Checkpoints, Events}
use Rattle.fw_flow.specs.Restoring.{restoring, can_resend, way_of}
use Rattle.fw_model.specs.Covers.{takes_its_cut, takes_its_notices, set_of, discarded_at, covers_in, tallies_in, stamps_from}
use Rattle.fw_model.proofs.CarriedLaws.{carried-none}
use Rattle.fw_model.proofs.StampLaws.{line-leq, leq-line, same-refl}
use Rattle.fw_model.proofs.WeightLaws.{weigh}
use Rattle.fw_flow.proofs.MessageLaws.{among-each}
use Rattle.fw_model.proofs.ArrivalLaws.{at_edge, in_edges-once}
use Rattle.fw_model.proofs.ChoiceLaws.{by_batches-input, bounds-input}
use Rattle.fw_model.proofs.FilteredLaws.{filtered-events, set-frontier}
use Rattle.fw_model.proofs.InputLaws.{injected-few}
use Rattle.fw_model.proofs.PsiLaws.{psi-nothing, psi-monotone}
use Rattle.fw_model.proofs.RewritingLaws.{AreKeptUpTo, injections-kept}
use Rattle.fw_model.proofs.CheckpointLaws.{HasWritesSettled, restorable-within}
use Rattle.fw_model.proofs.RunLaws.{none-inside}
use Rattle.fw_model.proofs.RecoveryLaws.{edge-there}
use Rattle.fw_model.proofs.SameInsideLaws.{at_node, IsSameInside, inside-refl, inside-event, inside-kept, IsLowConsistent, low_length, low_cut, low-offered, low-stays}
use Rattle.fw_model.proofs.WriteLaws.{some-weaker, some-append, some-passed, some-mapped, some-replaced, IsCheckpointAt, IsItsCheckpoint, NamesEvent, LogsEvent, some-checkpoint, checkpoint-some, some-logged, logged-some}
use Rattle.fw_model.proofs.BelowLaws.{forgotten-below}
use Rattle.fw_model.specs.Settled.{IsFull}
use Rattle.fw_model.specs.Filtering.{AreFrontiers, kept_events}
use Rattle.fw_model.specs.Choosing.{low_choice}

-- ---- an enabled event lies outside the low watermark

pub input-is : (kind : Kind) → is_input_kind kind ≡ true → kind ≡ Input
input-is Input e = refl
input-is kind e = absurd (cc)

pub no_weight : (g : ℕ → ℕ) (xs : List ℕ) → length xs ≡ 0 → weigh g xs ≡ 0
unfolding weigh
no_weight g [] e = refl
no_weight g (x ∷ xs) e = absurd (omega arith)

-- no edge leads to an input
no_input-receives : (flow : Dataflow) → IsWellFormed flow → (e : ℕ) → e < length flow.edges → kind_of flow (receiver flow e) ≡ Input → ⊥
no_input-receives flow w e l is =
    let r = receiver flow e in
    let m = w.receivers_declared e l in
    let none : length (in_edges flow r) ≡ 0 = subst (λ kind. IsInDegree kind (length (in_edges flow r))) is (w.in_degrees r m) in
    let one : weigh (at_edge e 1) (in_edges flow r) ≡ 1 = in_edges-once flow r e 1 m ∙ ap (λ b. cond b 1 0) (eq-eqb r r refl) in
    let zeros = no_weight (at_edge e 1) (in_edges flow r) none in
    omega arith

quiet-each : (test : Stamp → Bool) (ms : List Message) → some_at test ms ≡ false → AllByRecursion (λ (m : Message). test m.at ≡ false) ms
quiet-each test [] q = tt
quiet-each test (m ∷ ms) q = let a = or_parts (test m.at) (some_at test ms) q in (a.0, quiet-each test ms a.1)

-- the low watermark of a node that is no input lies within what is settled
pub low-within_settled : (sys : System) (state : Machine) (notices : List Front) → HasWritesSettled sys state → IsLowConsistent sys state notices
    → (p : ℕ) → p < length sys.flow.nodes → (kind_of sys.flow p ≡ Input → ⊥) → Within (at_node sys state.low p) (at_node sys state.settled p)
low-within_settled sys state notices a c p l n =
    restorable-within sys state kept p (way_of sys.flow p) (front_of state.low p) l
    (λ b. n (by_batches-input (kind_of sys.flow p) (policy_of sys.flow p) b)) a (low-offered sys state notices c p l).1 l

-- what is outside that is outside it
outside_low : (sys : System) (state : Machine) (notices : List Front) → HasWritesSettled sys state → IsLowConsistent sys state notices
    → (p : ℕ) → p < length sys.flow.nodes → (kind_of sys.flow p ≡ Input → ⊥) → (t : Stamp) → at_node sys state.settled p t ≡ false → at_node sys state.low p t ≡ false
outside_low sys state notices a c p l n t o =
    false_from_ne_true (at_node sys state.low p t) (λ i. two_ways (at_node sys state.settled p t) (low-within_settled sys state notices a c p l n t i) o)

-- a batch that was not injected lies outside
pub batch-outside : (sys : System) (state : Machine) (s x : ℕ) (f : Front) → injected_count s (events state.history) ≤ x → x < length (batches_of sys s)
    → IsRestorable sys state kept s Batches f → frontier_of (bounds_of sys.flow s) f (x ∷ []) ≡ false
batch-outside sys state s x f next there a = elim a [
  | inl b ↦ false_from_ne_true (frontier_of (bounds_of sys.flow s) f (x ∷ [])) (λ i.
      let j = (and_parts (in_domain (bounds_of sys.flow s) (x ∷ [])) (inside f (x ∷ [])) i).1 in
      let few = b.1 in
      two_ways (inside (until b.0) (x ∷ [])) (ap (λ os. inside os (x ∷ [])) (sym b.2) ∙ j)
      (ap (λ c. not c && true) (line-leq b.0 x (omega arith))))
  | inr b ↦
      let all = eqb-true (injected_count s (events state.history)) (length (batches_of sys s)) b.0 in
      absurd (omega arith)
]

-- an enabled event lies outside what is settled, but at an input
pub settled-outside : (sys : System) (state : Machine) (v : Event) → IsFull sys state → IsEnabled sys (events state.history) v → (p : ℕ)
    → (kind_of sys.flow p ≡ Input → ⊥) → event_node sys.flow v ≡ p → at_node sys state.settled p (event_stamp v) ≡ false
settled-outside sys state (Injected s x) f k p n e = absurd (n (ap (kind_of sys.flow) (sym e) ∙ input-is (kind_of sys.flow s) k.input))
settled-outside sys state (Delivered d m) f k p n e = false_from_ne_true (at_node sys state.settled p m.at) (λ i.
    let quiet = quiet-each (same m.at) (pending_messages sys (events state.history) d) (f.quiet p m.at i d e) in
    two_ways (same m.at m.at) (same-refl m.at) (among-each (λ x. same m.at x.at ≡ false) m (pending_messages sys (events state.history) d) k.is_pending quiet))
settled-outside sys state (Notified q t) f k p n e = false_from_ne_true (at_node sys state.settled p t) (λ i.
    two_ways _ k.is_owed (f.paid q t (ap (λ n. at_node sys state.settled n t) e ∙ i)))

-- an enabled event lies outside the low watermark
pub event-outside : (sys : System) (state : Machine) (notices : List Front) (v : Event) → IsWellFormed sys.flow → IsFull sys state → HasWritesSettled sys state
    → IsLowConsistent sys state notices → IsEnabled sys (events state.history) v → (p : ℕ) → p < length sys.flow.nodes → event_node sys.flow v ≡ p
    → at_node sys state.low p (event_stamp v) ≡ false
event-outside sys state notices (Injected s x) w f a c k p l e =
    let m : s < length sys.flow.nodes = subst (λ n. n < length sys.flow.nodes) (sym e) l in
    let way : way_of sys.flow s ≡ Batches = ap (λ kind. restoring kind (policy_of sys.flow s)) (input-is (kind_of sys.flow s) k.input) in
    let next = k.next in
    subst (λ n. at_node sys state.low n (x ∷ []) ≡ false) e
    (batch-outside sys state s x (front_of state.low s) (omega arith) k.there (subst (λ r. IsRestorable sys state kept s r (front_of state.low s)) way (low-offered sys state notices c s m).1))
event-outside sys state notices (Delivered d m) w f a c k p l e =
    let there = edge-there sys.flow d p e l in
    let not_input : kind_of sys.flow p ≡ Input → ⊥ = λ b. no_input-receives sys.flow w d there (ap (kind_of sys.flow) e ∙ b) in
    outside_low sys state notices a c p l not_input m.at (settled-outside sys state (Delivered d m) f k p not_input e)
event-outside sys state notices (Notified q t) w f a c k p l e =
    let h = events state.history in
    let owing = and_parts (is_notified_kind (kind_of sys.flow q) && was_delivered_to sys.flow q t h) (not (was_notified q t h)) k.is_owed in
    let notified = (and_parts (is_notified_kind (kind_of sys.flow q)) (was_delivered_to sys.flow q t h) owing.0).0 in
    let not_input : kind_of sys.flow p ≡ Input → ⊥ =
    λ b. two_ways (is_notified_kind (kind_of sys.flow q)) notified (ap (λ n. is_notified_kind (kind_of sys.flow n)) e ∙ ap is_notified_kind b) in
    outside_low sys state notices a c p l not_input t (settled-outside sys state (Notified q t) f k p not_input e)

-- ---- writes

checkpoint-append : (p : ℕ) (f : Front) (writes more : List Write) → HasCheckpoint kept p f writes → HasCheckpoint kept p f (writes ++ more)
checkpoint-append p f writes more k =
    checkpoint-some kept p f (writes ++ more) (some-append (IsItsCheckpoint kept p f) writes more (some-checkpoint kept p f writes k))

logged-append : (writes more : List Write) (serial : ℕ) → IsLogged serial writes → IsLogged serial (writes ++ more)
logged-append writes more serial k = logged-some serial (writes ++ more) (some-append (LogsEvent serial) writes more (some-logged serial writes k))

-- what is logged in some writes is logged in others
logs-weaker : (sys : System) (p : ℕ) (f : Frontier) (writes next : List Write) → ((serial : ℕ) → IsLogged serial writes → IsLogged serial next) → (h : List SerialEvent)
    → AllLogged sys p f writes h → AllLogged sys p f next h
logs-weaker sys p f writes next w [] a = tt
logs-weaker sys p f writes next w (v ∷ h) a = (λ e i. w v.serial (a.0 e i), logs-weaker sys p f writes next w h a.1)

-- ---- events

still-exhausted : (sys : System) (h : List Event) (v : Event) (p : ℕ) → IsEnabled sys h v → is_exhausted sys h p ≡ true → is_exhausted sys (v ∷ h) p ≡ true
still-exhausted sys h (Injected s x) p k e =
    let n = injected_count p h in
    cond_both (s == p) (n + 1) n (λ c. (c == length (batches_of sys p)) ≡ true)
    (λ c.
    let r = eqb-true s p c in
    let all = eqb-true n (length (batches_of sys p)) e in
    let next : x ≡ n = k.next ∙ ap (λ q. injected_count q h) r in
    let there : x < length (batches_of sys p) = subst (λ q. x < length (batches_of sys q)) r k.there in
    absurd (omega arith))
    (λ c. e)
still-exhausted sys h (Delivered d m) p k e = e
still-exhausted sys h (Notified q t) p k e = e

batches-event : (sys : System) (state : Machine) (v : Event) → IsEnabled sys (events state.history) v → (p : ℕ) (f : Front)
    → IsRestorable sys state kept p Batches f → IsRestorable sys (with_event sys state v) kept p Batches f
batches-event sys state v k p f a = elim a [
  | inl b ↦ inl (b.0, count-grows (is_injection p v) b.0 (injected_count p (events state.history)) b.1, b.2)
  | inr b ↦ inr (still-exhausted sys (events state.history) v p k b.0, b.1)
]

pub event-low : (sys : System) (state : Machine) (notices : List Front) (v : Event) → IsWellFormed sys.flow → IsFull sys state → HasWritesSettled sys state
    → IsLowConsistent sys state notices → IsEnabled sys (events state.history) v → IsLowConsistent sys (with_event sys state v) notices
event-low sys state notices v w f a c k =
    let out = event-outside sys state notices v w f a c k in
    let more = write_of_event (policy_of sys.flow (event_node sys.flow v)) (event_node sys.flow v) state.next in
    low-stays sys state (with_event sys state v) notices w refl (inside-event sys (events state.history) v state.low w out)
    (λ p l. record {
      batches = λ way r. batches-event sys state v k p (front_of state.low p) r;
      settled = λ i. i;
      bound = at_most-refl (ack_count_of state p);
      checkpoints = λ r. checkpoint-append p (front_of state.low p) state.writes more r;
      logs = λ r. (
        λ e i. absurd (two_ways (at_node sys state.low p (event_stamp v)) i (out p l e)),
        logs-weaker sys p (at_node sys state.low p) state.writes (state.writes ++ more) (logged-append state.writes more) state.history r,
      );
    }) c

-- ---- steps that leave the history as it is

-- the writes keep what counts
pub record KeepWrites (writes next : List Write) : Type 0 where
  pub checkpoints : (p : ℕ) (f : Front) → HasCheckpoint kept p f writes → HasCheckpoint kept p f next
  pub logged : (serial : ℕ) → IsLogged serial writes → IsLogged serial next

pub same-low : (sys : System) (state : Machine) (notices : List Front) (settled : List Front) (writes : List Write) (failed : List Bool) (bounds : List ℕ) → IsWellFormed sys.flow
    → ((p : ℕ) → p < length sys.flow.nodes → Within (at_node sys state.settled p) (at_node sys settled p)) → KeepWrites state.writes writes
    → ((p : ℕ) → ack_count_of state p ≤ slice_index_or bounds p 0) → IsLowConsistent sys state notices
    → IsLowConsistent sys (record state { settled = settled; writes = writes; failed = failed; ack_counts = bounds }) notices
same-low sys state notices settled writes failed bounds w grows keeps more c =
    low-stays sys state (record state { settled = settled; writes = writes; failed = failed; ack_counts = bounds }) notices w refl
    (inside-refl sys (events state.history) state.low)
    (λ p l. record {
      batches = λ way r. r;
      settled = λ i t j. grows p l t (i t j);
      bound = more p;
      checkpoints = λ r. keeps.checkpoints p (front_of state.low p) r;
      logs = λ r. logs-weaker sys p (at_node sys state.low p) state.writes writes keeps.logged state.history r;
    }) c

pub keep-append : (writes more : List Write) → KeepWrites writes (writes ++ more)
keep-append writes more = record {
  checkpoints = λ p f k. checkpoint-append p f writes more k;
  logged = λ serial k. logged-append writes more serial k;
}

pub keep-all : (writes : List Write) → KeepWrites writes writes
keep-all writes = record { checkpoints = λ p f k. k; logged = λ serial k. k }

now_acknowledged : (p : ℕ) (f : Front) (n : ℕ) (w : Written) (far : Stage) → IsCheckpointAt kept p f n w far → IsCheckpointAt kept p f n w acknowledged
now_acknowledged p f n (checkpoint g l) far a = (a.0, a.1, refl)
now_acknowledged p f n (logged_event s) far a = absurd a

now_logged : (serial : ℕ) (w : Written) (far : Stage) → NamesEvent serial w far → NamesEvent serial w acknowledged
now_logged serial (checkpoint g l) far a = absurd a
now_logged serial (logged_event s) far a = (a.0, refl)

pub keep-acknowledged : (writes next : List Write) → AcknowledgesOldest writes next → KeepWrites writes next
keep-acknowledged writes next k =
    let y = k.oldest in
    let z : Write = record y { stage = acknowledged } in
    let now = k.earlier ++ z ∷ k.later in
    record {
      checkpoints = λ p f a.
          subst (HasCheckpoint kept p f) (sym k.after)
          (checkpoint-some kept p f now (some-replaced (IsItsCheckpoint kept p f) k.earlier y z k.later (now_acknowledged p f y.node y.written y.stage)
          (some-checkpoint kept p f (k.earlier ++ y ∷ k.later) (subst (HasCheckpoint kept p f) k.before a))));
      logged = λ serial a.
          subst (IsLogged serial) (sym k.after)
          (logged-some serial now (some-replaced (LogsEvent serial) k.earlier y z k.later (now_logged serial y.written y.stage)
          (some-logged serial (k.earlier ++ y ∷ k.later) (subst (IsLogged serial) k.before a))));
    }

-- what counts is not in flight
counted-not_lost : (b : Bool) (far : Stage) → is_counted ever far ≡ true → not (b && is_in_flight far) ≡ true
counted-not_lost b in_flight e = absurd (cc)
counted-not_lost true acknowledged e = refl
counted-not_lost false acknowledged e = refl
counted-not_lost true collected e = refl
counted-not_lost false collected e = refl

pub kept-counts : (far : Stage) → is_counted kept far ≡ true → is_counted ever far ≡ true
kept-counts in_flight e = absurd (cc)
kept-counts acknowledged e = refl
kept-counts collected e = absurd (cc)

checkpoint-counts : (p : ℕ) (f : Front) (n : ℕ) (w : Written) (far : Stage) → IsCheckpointAt kept p f n w far → is_counted ever far ≡ true
checkpoint-counts p f n (checkpoint g l) far a = kept-counts far a.2
checkpoint-counts p f n (logged_event s) far a = absurd a

named-counts : (serial : ℕ) (w : Written) (far : Stage) → NamesEvent serial w far → is_counted ever far ≡ true
named-counts serial (checkpoint g l) far a = absurd a
named-counts serial (logged_event s) far a = a.1

pub keep-failed : (ps : List ℕ) (writes : List Write) → KeepWrites writes (filter (λ write. not (is_one_of write.node ps && is_in_flight write.stage)) writes)
keep-failed ps writes =
    let test : Write → Bool = λ write. not (is_one_of write.node ps && is_in_flight write.stage) in
    record {
      checkpoints = λ p f a. checkpoint-some kept p f (filter test writes) (some-passed (IsItsCheckpoint kept p f) test writes
          (λ x b. counted-not_lost (is_one_of x.node ps) x.stage (checkpoint-counts p f x.node x.written x.stage b)) (some-checkpoint kept p f writes a));
      logged = λ serial a. logged-some serial (filter test writes) (some-passed (LogsEvent serial) test writes
          (λ x b. counted-not_lost (is_one_of x.node ps) x.stage (named-counts serial x.written x.stage b)) (some-logged serial writes a));
    }

pub set-grows : (bounds : List ℕ) (o p n : ℕ) → slice_index_or bounds o 0 ≤ n → slice_index_or bounds p 0 ≤ slice_index_or (slice_set bounds o n) p 0
set-grows [] o p n l = omega arith
set-grows (b ∷ bounds) zero zero n l = l
set-grows (b ∷ bounds) zero (suc p) n l = at_most-refl (slice_index_or bounds p 0)
set-grows (b ∷ bounds) (suc o) zero n l = at_most-refl b
set-grows (b ∷ bounds) (suc o) (suc p) n l = set-grows bounds o p n l

-- ---- the low watermark and other choices

checkpoint-ever : (view : View) (p : ℕ) (f : Front) (n : ℕ) (w : Written) (far : Stage) → IsCheckpointAt kept p f n w far → IsCheckpointAt view p f n w far
checkpoint-ever kept p f n w far a = a
checkpoint-ever ever p f n (checkpoint g l) far a = (a.0, a.1, kept-counts far a.2)
checkpoint-ever ever p f n (logged_event s) far a = absurd a

restorable-ever : (sys : System) (state : Machine) (view : View) (p : ℕ) (way : Restoring) (f : Front) → IsRestorable sys state kept p way f → IsRestorable sys state view p way f
restorable-ever sys state view p Batches f a = a
restorable-ever sys state view p Bound f a = a
restorable-ever sys state view p Anything f a = a
restorable-ever sys state view p Checkpoints f a = elim a [
  | inl n ↦ inl n
  | inr c ↦ inr (checkpoint-some view p f state.writes
      (some-weaker (IsItsCheckpoint kept p f) (IsItsCheckpoint view p f) state.writes (λ x b. checkpoint-ever view p f x.node x.written x.stage b)
      (some-checkpoint kept p f state.writes c)))
]
restorable-ever sys state view p Events f a = a

low-ever : (view : View) (low f : Frontier) → Within low f → HoldsLow view low f
low-ever kept low f w = w
low-ever ever low f w = tt

-- what is offered among what is kept is offered in each view
pub candidate-ever : (sys : System) (state : Machine) (lost : ℕ → Bool) (view : View) (p : ℕ) (cut : Cut) → IsCandidate sys state lost kept p cut → IsCandidate sys state lost view p cut
candidate-ever sys state lost view p Present a = a
candidate-ever sys state lost view p (At f) a = (
  a.0,
  restorable-ever sys state view p (way_of sys.flow p) f a.1,
  low-ever view (at_node sys state.low p) (frontier_of (bounds_of sys.flow p) f) a.2,
)

-- a choice that is offered elsewhere too is consistent there
pub offered-consistent : (sys : System) (state : Machine) (lost also : ℕ → Bool) (view other : View) (choice : Choice)
    → ((p : ℕ) → p < length sys.flow.nodes → IsCandidate sys state lost view p (cut_of choice p) → IsCandidate sys state also other p (cut_of choice p))
    → IsConsistent sys state (IsCandidate sys state lost view) choice → IsConsistent sys state (IsCandidate sys state also other) choice
offered-consistent sys state lost also view other choice k c = record {
  one_cut_each = c.one_cut_each;
  one_notice_each = c.one_notice_each;
  offered = λ p l. k p l (c.offered p l);
  canonical = c.canonical;
  delivered = c.delivered;
  discarded = c.discarded;
  notified = c.notified;
  own = c.own;
  notices = c.notices;
}

-- whichever nodes count as failed, in each view
pub low-any : (sys : System) (state : Machine) (notices : List Front) → IsLowConsistent sys state notices → (lost : ℕ → Bool) (view : View)
    → IsConsistent sys state (IsCandidate sys state lost view) (low_choice state notices)
low-any sys state notices c lost view =
    offered-consistent sys state (λ p. true) lost kept view (low_choice state notices)
    (λ p l a.
    let cut = low_cut state notices p (omega (arith, low_length sys state notices c)) in
    subst (λ x. IsCandidate sys state lost view p x) (sym cut) (candidate-ever sys state lost view p (At (front_of state.low p)) (low-offered sys state notices c p l))) c

-- the largest choice contains the low watermark
pub low-within : (sys : System) (state : Machine) (notices : List Front) → IsLowConsistent sys state notices → (lost : ℕ → Bool) (view : View) (choice : Choice)
    → IsLargest sys state (IsCandidate sys state lost view) choice → (p : ℕ) → p < length sys.flow.nodes → IsCutWithin sys.flow p (At (front_of state.low p)) (cut_of choice p)
low-within sys state notices c lost view choice m p l =
    subst (λ x. IsCutWithin sys.flow p x (cut_of choice p)) (low_cut state notices p (omega (arith, low_length sys state notices c)))
    ((m.largest (low_choice state notices) (low-any sys state notices c lost view)).cuts p l)

-- a cut that lies within another keeps no more
pub within-set : (sys : System) (p : ℕ) (f : Front) (cut : Cut) → IsCutWithin sys.flow p (At f) cut → Within (frontier_of (bounds_of sys.flow p) f) (set_of sys.flow p cut)
within-set sys p f Present k t i = (and_parts (in_domain (bounds_of sys.flow p) t) (inside f t) i).0
within-set sys p f (At g) k t i = k t i

-- ---- a recovery

-- a checkpoint within a cut that is offered is kept
checkpoint-kept : (sys : System) (state : Machine) (lost : ℕ → Bool) (view : View) (h : List SerialEvent) (p : ℕ) (f : Front) (low : List Front) (cut : Cut)
    → IsCandidate sys state lost view p cut → IsCutWithin sys.flow p (At f) cut → is_kept_write cut (checkpoint f low) h ≡ true
checkpoint-kept sys state lost view h p f low Present a k = refl
checkpoint-kept sys state lost view h p f low (At g) a k = within-is (bounds_of sys.flow p) f g a.0 k

its-kept : (choice : Choice) (h : List SerialEvent) (p : ℕ) (f : Front) (n : ℕ) (w : Written) (far : Stage)
    → ((low : List Front) → is_kept_write (cut_of choice p) (checkpoint f low) h ≡ true) → IsCheckpointAt kept p f n w far → is_kept_write (cut_of choice n) w h ≡ true
its-kept choice h p f n (checkpoint g low) far k a =
    ap (λ q. is_kept_write (cut_of choice q) (checkpoint g low) h) a.0 ∙ ap (λ x. is_kept_write (cut_of choice p) (checkpoint x low) h) a.1 ∙ k low
its-kept choice h p f n (logged_event s) far k a = absurd a

named-kept_at : (cut : Cut) (h : List SerialEvent) (s : ℕ) → has_serial s h ≡ true → is_kept_write cut (logged_event s) h ≡ true
named-kept_at Present h s k = refl
named-kept_at (At f) h s k = k

named-kept : (cut : Cut) (h : List SerialEvent) (serial : ℕ) (w : Written) (far : Stage) → has_serial serial h ≡ true → NamesEvent serial w far → is_kept_write cut w h ≡ true
named-kept cut h serial (checkpoint g low) far k a = absurd a
named-kept cut h serial (logged_event s) far k a = named-kept_at cut h s (ap (λ x. has_serial x h) a.0 ∙ k)

-- what is logged of each event is logged of those that pass a test
logs-passed : (sys : System) (p : ℕ) (f : Frontier) (writes : List Write) (test : SerialEvent → Bool) (h : List SerialEvent) → AllLogged sys p f writes h → AllLogged sys p f writes (filter test h)
logs-passed sys p f writes test [] a = tt
logs-passed sys p f writes test (v ∷ h) a =
    let rest = logs-passed sys p f writes test h a.1 in
    cond_both (test v) (v ∷ filter test h) (filter test h) (AllLogged sys p f writes) (λ e. (a.0, rest)) (λ e. rest)

-- what is logged in some writes is logged in others that log the events of these serials
logs-serials : (sys : System) (p : ℕ) (f : Frontier) (writes next : List Write) (all h : List SerialEvent) → ((serial : ℕ) → has_serial serial h ≡ true → has_serial serial all ≡ true)
    → ((serial : ℕ) → has_serial serial all ≡ true → IsLogged serial writes → IsLogged serial next) → AllLogged sys p f writes h → AllLogged sys p f next h
logs-serials sys p f writes next all [] k w a = tt
logs-serials sys p f writes next all (v ∷ h) k w a = (
  λ e i. w v.serial (k v.serial (or_left (v.serial == v.serial) (has_serial v.serial h) (eq-eqb v.serial v.serial refl))) (a.0 e i),
  logs-serials sys p f writes next all h (λ s i. k s (or_right (v.serial == s) (has_serial s h) i)) w a.1,
)

-- the epochs of a front until k that is kept are injected in what is kept
until-kept : (sys : System) (h : List Event) (keep : ℕ → Frontier) → HasEpochs sys → IsLegal sys h → AreFrontiers sys.flow keep → (s : ℕ) → kind_of sys.flow s ≡ Input
    → (k : ℕ) → k ≤ injected_count s h → Within (frontier_of (bounds_of sys.flow s) (until k)) (keep s) → k ≤ injected_count s (kept_events sys.flow keep h)
unfolding AreKeptUpTo
until-kept sys h keep b l fr s is k few w =
    let n = injected_count s h in
    let m = injected_count s (kept_events sys.flow keep h) in
    elim (injections-kept sys h keep l fr s) [
      | inl e ↦ omega arith
      | inr a ↦
          let less : m < n = a.0 in
          elim (cases_lt m k) [
            | inr above ↦ above
            | inl below ↦
                let total = injected-few sys h l s in
                let epochs = b s in
                let there : in_domain (bounds_of sys.flow s) (m ∷ []) ≡ true =
                ap (λ bounds. in_domain bounds (m ∷ [])) (bounds-input sys.flow s is) ∙ line-leq m greatest_number (omega arith) in
                let under : leq (k ∷ []) (m ∷ []) ≡ false = false_from_ne_true (leq (k ∷ []) (m ∷ [])) (λ j. let o = leq-line k m j in omega arith) in
                absurd (two_ways (keep s (m ∷ []))
                (w (m ∷ []) (and_from (in_domain (bounds_of sys.flow s) (m ∷ [])) (inside (until k) (m ∷ [])) there (ap (λ c. not c && true) under))) a.1)
          ]
    ]

kept-fewer : (sys : System) (h : List Event) (keep : ℕ → Frontier) → IsLegal sys h → AreFrontiers sys.flow keep → (s : ℕ)
    → injected_count s (kept_events sys.flow keep h) ≤ injected_count s h
unfolding AreKeptUpTo
kept-fewer sys h keep l fr s = elim (injections-kept sys h keep l fr s) [ inl e ↦ omega arith | inr a ↦ let less = a.0 in omega arith ]

batches-kept : (sys : System) (state next : Machine) (keep : ℕ → Frontier) → HasEpochs sys → IsLegal sys (events state.history) → AreFrontiers sys.flow keep
    → events next.history ≡ kept_events sys.flow keep (events state.history) → (s : ℕ) → kind_of sys.flow s ≡ Input → (f : Front)
    → Within (frontier_of (bounds_of sys.flow s) f) (keep s) → IsRestorable sys state kept s Batches f → IsRestorable sys next kept s Batches f
batches-kept sys state next keep b l fr same s is f w a =
    let h = events state.history in
    let now : injected_count s (events next.history) ≡ injected_count s (kept_events sys.flow keep h) = ap (injected_count s) same in
    elim a [
      | inl k ↦
          let few = until-kept sys h keep b l fr s is k.0 k.1 (subst (λ os. Within (frontier_of (bounds_of sys.flow s) os) (keep s)) k.2 w) in
          inl (k.0, subst (λ n. k.0 ≤ n) (sym now) few, k.2)
      | inr k ↦
          let n = injected_count s h in
          let all = eqb-true n (length (batches_of sys s)) k.0 in
          let every : Within (frontier_of (bounds_of sys.flow s) (until n)) (keep s) = λ t i.
          w t (ap (λ os. frontier_of (bounds_of sys.flow s) os t) k.1
          ∙ and_from (in_domain (bounds_of sys.flow s) t) true (and_parts (in_domain (bounds_of sys.flow s) t) (inside (until n) t) i).0 refl) in
          let few = until-kept sys h keep b l fr s is n (at_most-refl n) every in
          let fewer = kept-fewer sys h keep l fr s in
          inr (eq-eqb (injected_count s (events next.history)) (length (batches_of sys s)) (omega arith), k.1)
    ]

-- what was settled and is kept is settled
cut-within : (sys : System) (p : ℕ) (cut : Cut) (before after f : Front) → IsSettledCut sys p cut before after
    → Within (frontier_of (bounds_of sys.flow p) f) (set_of sys.flow p cut) → Within (frontier_of (bounds_of sys.flow p) f) (frontier_of (bounds_of sys.flow p) before)
    → Within (frontier_of (bounds_of sys.flow p) f) (frontier_of (bounds_of sys.flow p) after)
cut-within sys p Present before after f c w v t i = ap (λ os. frontier_of (bounds_of sys.flow p) os t) c ∙ v t i
cut-within sys p (At g) before after f c w v t i =
    c.same t ∙ and_from (frontier_of (bounds_of sys.flow p) before t) (frontier_of (bounds_of sys.flow p) g t) (v t i) (w t i)

pub recovery-low : (sys : System) (state : Machine) (notices : List Front) (choice : Choice) (settled : List Front) → IsWellFormed sys.flow → HasEpochs sys
    → IsLegal sys (events state.history) → IsLowConsistent sys state notices → (lost : ℕ → Bool) → IsLargest sys state (IsCandidate sys state lost kept) choice
    → CutsTo sys state choice settled → IsLowConsistent sys (recovered_state sys state choice settled) notices
recovery-low sys state notices choice settled w b l c lost m cuts =
    let h = events state.history in
    let keep = kept_of sys.flow choice in
    let next = recovered_state sys state choice settled in
    let fr : AreFrontiers sys.flow keep = λ p. set-frontier sys p (cut_of choice p) in
    let same_events : events next.history ≡ kept_events sys.flow keep h = filtered-events sys choice state.history in
    let lies : (p : ℕ) → p < length sys.flow.nodes → IsCutWithin sys.flow p (At (front_of state.low p)) (cut_of choice p) = low-within sys state notices c lost kept choice m in
    let within : (p : ℕ) → p < length sys.flow.nodes → Within (at_node sys state.low p) (keep p) = λ p i. within-set sys p (front_of state.low p) (cut_of choice p) (lies p i) in
    let after = filtered_history sys choice state.history in
    let test : Write → Bool = λ write. is_kept_write (cut_of choice write.node) write.written after in
    low-stays sys state next notices w refl
    (subst (λ vs. IsSameInside sys h vs state.low) (sym same_events) (inside-kept sys h keep state.low w b l fr within))
    (λ p i. record {
      batches = λ way r. batches-kept sys state next keep b l fr same_events p (by_batches-input (kind_of sys.flow p) (policy_of sys.flow p) way) (front_of state.low p) (within p i) r;
      settled = λ v. cut-within sys p (cut_of choice p) (front_of state.settled p) (front_of settled p) (front_of state.low p) (cuts.each p i) (within p i) v;
      bound = at_most-refl (ack_count_of state p);
      checkpoints = λ r. checkpoint-some kept p (front_of state.low p) (filter test state.writes)
          (some-passed (IsItsCheckpoint kept p (front_of state.low p)) test state.writes
          (λ x a. its-kept choice after p (front_of state.low p) x.node x.written x.stage
          (λ low. checkpoint-kept sys state lost kept after p (front_of state.low p) low (cut_of choice p) (m.consistent.offered p i) (lies p i)) a)
          (some-checkpoint kept p (front_of state.low p) state.writes r));
      logs = λ r. logs-serials sys p (at_node sys state.low p) state.writes (filter test state.writes) after after (λ s k. k)
          (λ s k a. logged-some s (filter test state.writes) (some-passed (LogsEvent s) test state.writes
          (λ x n. named-kept (cut_of choice x.node) after s x.written x.stage k n) (some-logged s state.writes a)))
          (logs-passed sys p (at_node sys state.low p) state.writes (λ v. kept_of sys.flow choice (event_node sys.flow v.event) (event_stamp v.event)) state.history r);
    }) c

-- ---- a collection

-- where every node counts as failed each cut is to a front
all_cut : (sys : System) (state : Machine) (view : View) (p : ℕ) (cut : Cut) → IsCandidate sys state (λ q. true) view p cut → At (front_of_cut cut) ≡ cut
all_cut sys state view p Present a = absurd (two_ways true refl a)
all_cut sys state view p (At f) a = refl

cuts-same : (cuts : List Cut) → AllByRecursion (λ c. At (front_of_cut c) ≡ c) cuts → map (λ f. At f) (map front_of_cut cuts) ≡ cuts
cuts-same [] a = refl
cuts-same (c ∷ cuts) a = ap (λ x. x ∷ map (λ f. At f) (map front_of_cut cuts)) a.0 ∙ ap (λ xs. c ∷ xs) (cuts-same cuts a.1)

-- the watermark's cuts are its fronts
pub watermark-cuts : (sys : System) (state : Machine) (choice : Choice) → IsConsistent sys state (IsCandidate sys state (λ p. true) kept) choice
    → map (λ f. At f) (map front_of_cut choice.cuts) ≡ choice.cuts
watermark-cuts sys state choice c =
    cuts-same choice.cuts (each-of_places (λ x. At (front_of_cut x) ≡ x) Present choice.cuts (λ p l.
    all_cut sys state kept p (cut_of choice p) (c.offered p (omega (arith, c.one_cut_each)))))

-- the state with these fronts as low watermark, and these writes
abbrev with_low : Machine → List Front → List Write → Machine
with_low state low writes = record state { low = low; writes = writes }

unchanged-consistent : (sys : System) (state : Machine) (low : List Front) (writes : List Write) (choice : Choice)
    → ((p : ℕ) → p < length sys.flow.nodes → IsCandidate sys (with_low state low writes) (λ q. true) kept p (cut_of choice p))
    → IsConsistent sys state (IsCandidate sys state (λ p. true) kept) choice
    → IsConsistent sys (with_low state low writes) (IsCandidate sys (with_low state low writes) (λ p. true) kept) choice
unchanged-consistent sys state low writes choice offered c = record {
  one_cut_each = c.one_cut_each;
  one_notice_each = c.one_notice_each;
  offered = offered;
  canonical = c.canonical;
  delivered = c.delivered;
  discarded = c.discarded;
  notified = c.notified;
  own = c.own;
  notices = c.notices;
}

pub not_both : (b : Bool) → (b && not b) ≡ false
not_both true = refl
not_both false = refl

-- the checkpoint at the low watermark is not collected
still-kept : (below : Bool) (far : Stage) → below ≡ false → is_counted kept far ≡ true → is_counted kept (after_collection below far) ≡ true
still-kept below in_flight b e = e
still-kept below acknowledged b e = ap (λ c. is_counted kept (cond c collected acknowledged)) b
still-kept below collected b e = e

checkpoint-stays : (sys : System) (low : List Front) (h : List SerialEvent) (p : ℕ) (n : ℕ) (w : Written) (goes : Bool) → (goes ≡ true → lies_below sys low h n w ≡ true)
    → (far : Stage) → IsCheckpointAt kept p (front_of low p) n w far → IsCheckpointAt kept p (front_of low p) n w (after_collection goes far)
checkpoint-stays sys low h p n (checkpoint g l) goes k far a =
    let f = front_of low p in
    let here : lies_below sys low h n (checkpoint g l) ≡ false =
    ap (λ q. is_within g (front_of low q) && not (is_within (front_of low q) g)) a.0 ∙ ap (λ x. is_within x f && not (is_within f x)) a.1 ∙ not_both (is_within f f) in
    (a.0, a.1, still-kept goes far (false_from_ne_true goes (λ e. two_ways (lies_below sys low h n (checkpoint g l)) (k e) here)) a.2)
checkpoint-stays sys low h p n (logged_event s) goes k far a = absurd a

counts-still : (below : Bool) (far : Stage) → is_counted ever far ≡ true → is_counted ever (after_collection below far) ≡ true
counts-still below in_flight e = e
counts-still true acknowledged e = refl
counts-still false acknowledged e = refl
counts-still below collected e = refl

named-stays : (below : Bool) (serial : ℕ) (w : Written) (far : Stage) → NamesEvent serial w far → NamesEvent serial w (after_collection below far)
named-stays below serial (checkpoint g l) far a = absurd a
named-stays below serial (logged_event s) far a = (a.0, counts-still below far a.1)

-- how far a write is once the collection is done
abbrev far_after : System → List Front → List SerialEvent → List Write → Write → Stage
far_after sys low h writes x = after_collection (is_forgotten sys low h writes x) x.stage

collected-restorable : (sys : System) (state : Machine) (low : List Front) (p : ℕ) (way : Restoring) → IsRestorable sys state kept p way (front_of low p)
    → IsRestorable sys (with_low state low (collected_writes sys low state.history state.writes)) kept p way (front_of low p)
collected-restorable sys state low p Batches a = a
collected-restorable sys state low p Bound a = a
collected-restorable sys state low p Anything a = a
collected-restorable sys state low p Checkpoints a = elim a [
  | inl n ↦ inl n
  | inr c ↦
      let f = front_of low p in
      inr (checkpoint-some kept p f (collected_writes sys low state.history state.writes)
      (some-mapped (IsItsCheckpoint kept p f) (IsItsCheckpoint kept p f) (λ (x : Write). record x { stage = far_after sys low state.history state.writes x }) state.writes
      (λ x b. checkpoint-stays sys low state.history p x.node x.written (is_forgotten sys low state.history state.writes x)
      (forgotten-below sys low state.history state.writes x) x.stage b) (some-checkpoint kept p f state.writes c)))
]
collected-restorable sys state low p Events a = (
  a.0,
  logs-weaker sys p (frontier_of (bounds_of sys.flow p) (front_of low p)) state.writes (collected_writes sys low state.history state.writes)
      (λ s k. logged-some s (collected_writes sys low state.history state.writes)
      (some-mapped (LogsEvent s) (LogsEvent s) (λ (x : Write). record x { stage = far_after sys low state.history state.writes x }) state.writes
      (λ x b. named-stays (is_forgotten sys low state.history state.writes x) s x.written x.stage b) (some-logged s state.writes k)))
      state.history a.1,
)

collected-offered : (sys : System) (state : Machine) (low : List Front) (p : ℕ) (cut : Cut) → At (front_of low p) ≡ cut → IsCandidate sys state (λ q. true) kept p cut
    → IsCandidate sys (with_low state low (collected_writes sys low state.history state.writes)) (λ q. true) kept p cut
collected-offered sys state low p cut e a =
    let next = with_low state low (collected_writes sys low state.history state.writes) in
    let b = subst (λ x. IsCandidate sys state (λ q. true) kept p x) (sym e) a in
    subst (λ x. IsCandidate sys next (λ q. true) kept p x) e (
      b.0,
      collected-restorable sys state low p (way_of sys.flow p) b.1,
      λ t i. i,
    )

-- the fronts of the watermark
pub watermark-front : (sys : System) (state : Machine) (choice : Choice) → IsConsistent sys state (IsCandidate sys state (λ p. true) kept) choice
    → (p : ℕ) → p < length sys.flow.nodes → At (front_of (map front_of_cut choice.cuts) p) ≡ cut_of choice p
watermark-front sys state choice c p l =
    let k : p < length choice.cuts = omega (arith, c.one_cut_each) in
    ap (λ f. At f) (get_or-map front_of_cut choice.cuts p Present [] k) ∙ all_cut sys state kept p (cut_of choice p) (c.offered p l)

pub collection-low : (sys : System) (state : Machine) (choice : Choice) → IsConsistent sys state (IsCandidate sys state (λ p. true) kept) choice
    → IsLowConsistent sys (record state {
      low = map front_of_cut choice.cuts;
      writes = collected_writes sys (map front_of_cut choice.cuts) state.history state.writes;
    }) choice.notices
collection-low sys state choice c =
    let low = map front_of_cut choice.cuts in
    let writes = collected_writes sys low state.history state.writes in
    let next = with_low state low writes in
    subst (λ (cuts : List Cut). IsConsistent sys next (IsCandidate sys next (λ p. true) kept) (record { cuts = cuts; notices = choice.notices })) (sym (watermark-cuts sys state choice c))
    (unchanged-consistent sys state low writes choice
    (λ p l. collected-offered sys state low p (cut_of choice p) (watermark-front sys state choice c p l) (c.offered p l)) c)

-- ---- the first state

origin-zeros : (s : Stamp) → origin s ≡ map (λ c. 0) s
origin-zeros [] = refl
origin-zeros (x ∷ s) = ap (λ t. 0 ∷ t) (origin-zeros s)

pub none-canonical : (b : Bounds) → IsCanonical b (no_stamps b)
none-canonical b = (names-nothing b).canonical

pub none-within : (b : Bounds) (g : Frontier) → Within (frontier_of b (no_stamps b)) g
none-within b g t i = absurd (none-inside b t i)

none-restorable : (sys : System) (p : ℕ) (way : Restoring) → way_of sys.flow p ≡ way
    → IsRestorable sys (first_state sys) kept p way (no_stamps (bounds_of sys.flow p))
none-restorable sys p Batches e =
    inl (0, at_most-refl 0, ap no_stamps (bounds-input sys.flow p (by_batches-input (kind_of sys.flow p) (policy_of sys.flow p) e)))
none-restorable sys p Bound e = (none-within (bounds_of sys.flow p) _, none-within (bounds_of sys.flow p) _)
none-restorable sys p Anything e = none-within (bounds_of sys.flow p) _
none-restorable sys p Checkpoints e = inl refl
none-restorable sys p Events e = (none-within (bounds_of sys.flow p) _, tt)

nothing-covered : (flag : Bool) (b : Bounds) (g : Frontier) (t : Stamp) → cond flag (frontier_of b (no_stamps b)) (cover b []) t ≡ true → g t ≡ true
nothing-covered true b g t i = none-within b g t i
nothing-covered false b g t i = absurd (two_ways false (and_parts (in_domain b t) false i).1 refl)

nothing-discarded : (sys : System) (e : ℕ) (way : Restoring) (g : Frontier) (t : Stamp)
    → discarded_at sys.flow e way ((tallies_in sys (first_state sys)).sent e (At (no_stamps (bounds_of sys.flow (sender sys.flow e))))) (no_stamps (bounds_of sys.flow (sender sys.flow e))) t ≡ true → g t ≡ true
nothing-discarded sys e Anything g t i =
    let b = bounds_of sys.flow (sender sys.flow e) in
    absurd (two_ways false (sym (psi-nothing sys.flow e t) ∙ psi-monotone sys.flow e (frontier_of b (no_stamps b)) nothing (none-within b nothing) t i) refl)
nothing-discarded sys e way g t i =
    let b = bounds_of sys.flow (receiver sys.flow e) in
    let f = set_of sys.flow (sender sys.flow e) (At (no_stamps (bounds_of sys.flow (sender sys.flow e)))) in
    nothing-covered false b g t (subst (λ (ms : List Message). cover b (stamps_from f ms) t ≡ true) (carried-none sys.flow e) i)

nothing-lost : (sys : System) (e : ℕ) (flag : Bool) (way : Restoring) (g : Frontier) (t : Stamp)
    → cond flag nothing (discarded_at sys.flow e way ((tallies_in sys (first_state sys)).sent e (At (no_stamps (bounds_of sys.flow (sender sys.flow e))))) (no_stamps (bounds_of sys.flow (sender sys.flow e)))) t ≡ true → g t ≡ true
nothing-lost sys e true way g t i = absurd (two_ways false i refl)
nothing-lost sys e false way g t i = nothing-discarded sys e way g t i

pub first-low : (sys : System) → IsWellFormed sys.flow → IsLowConsistent sys (first_state sys) (first_state sys).low
first-low sys w =
    let state = first_state sys in
    let n = length sys.flow.nodes in
    let none : ℕ → Front = λ p. no_stamps (bounds_of sys.flow p) in
    let long : length state.low ≡ n = length-map-range_with_len none 0 n in
    let front : (p : ℕ) → p < n → front_of state.low p ≡ none p = λ p l. get_or-map-range_with_len none 0 n p p [] l (omega arith) in
    let cut : (p : ℕ) → p < n → cut_of (low_choice state state.low) p ≡ At (none p) =
    λ p l. low_cut state state.low p (omega (arith, long)) ∙ ap (λ f. At f) (front p l) in
    let notice : (p : ℕ) → p < n → (g : Frontier) → Within (at_node sys state.low p) g =
    λ p l g t i. none-within (bounds_of sys.flow p) g t (ap (λ os. frontier_of (bounds_of sys.flow p) os t) (sym (front p l)) ∙ i) in
    record {
      one_cut_each = length-map state.low (λ f. At f) ∙ long;
      one_notice_each = long;
      offered = λ p l. subst (λ x. IsCandidate sys state (λ q. true) kept p x) (sym (cut p l)) (
        none-canonical (bounds_of sys.flow p),
        none-restorable sys p (way_of sys.flow p) refl,
        notice p l (frontier_of (bounds_of sys.flow p) (none p)),
      );
      canonical = λ p l. subst (IsCanonical (bounds_of sys.flow p)) (sym (front p l)) (none-canonical (bounds_of sys.flow p));
      delivered = λ d l t i.
          let r = receiver sys.flow d in
          nothing-covered (takes_its_cut (way_of sys.flow r)) (bounds_of sys.flow r)
          (phi sys [] d (kept_of sys.flow (low_choice state state.low) (sender sys.flow d))) t
          (sym (ap (λ x. (covers_in sys state).delivered d x t) (cut r (w.receivers_declared d l))) ∙ i);
      discarded = λ e l t i.
          let q = sender sys.flow e in
          nothing-lost sys e (can_resend (policy_of sys.flow q)) (way_of sys.flow q)
          (kept_of sys.flow (low_choice state state.low) (receiver sys.flow e)) t
          (sym (ap (λ x. (covers_in sys state).discarded e x t) (cut q (w.senders_declared e l))) ∙ i);
      notified = λ p l t i.
          nothing-covered (takes_its_notices (kind_of sys.flow p) (policy_of sys.flow p)) (bounds_of sys.flow p) (notice_of sys.flow (low_choice state state.low) p) t
          (sym (ap (λ x. (covers_in sys state).notified p x t) (cut p l)) ∙ i);
      own = λ p l. notice p l (kept_of sys.flow (low_choice state state.low) p);
      notices = λ d l. notice (receiver sys.flow d) (w.receivers_declared d l) (phi sys [] d (notice_of sys.flow (low_choice state state.low) (sender sys.flow d)));
    }
