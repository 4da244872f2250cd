-- Steps in a row of which one test tells that the machine takes them: all but those that settle, notify, recover and collect.
use Rattle.std.specs.List.{list_all, list_any}
use Rattle.std.specs.Ordering.{is_gt}
use Rattle.std.proofs.Common.{Bool, List, Option, [], ap, eqb-true, false, if◌then◌else◌, inl, inr, length, nat_lt, not, refl, slice_set, subst, sym, true, ℕ, ⊎_elim, ◌&&◌, ◌++◌, ◌+◌, ◌==◌, ◌||◌, ◌∙◌, ◌∷◌, ◌≡◌}
use Rattle.std.proofs.lemmas.Bool.{and_parts, eq-eqb, false≢true, ltb-true, not-true, or_cases, or_left}
use Rattle.fw_lemmas.proofs.Bools.{two_ways}
use Rattle.fw_bag.specs.declared.rec.Rec.{Rec}
use Rattle.fw_time.specs.Stamp.{Stamp, same}
use Rattle.fw_time.proofs.StampLaws.{same-is}
use Rattle.fw_frontier.specs.Front.{frontier_of, same_front}
use Rattle.fw_frontier.proofs.SameLaws.{same_front-from}
use Rattle.fw_flow.specs.Dataflow.{System, batches_of, bounds_of, is_input_kind, is_numbered, is_output_kind, kind_of, policy_of, receiver}
use Rattle.fw_flow.specs.Message.{is_message_among, message_cmp}
use Rattle.fw_flow.specs.declared.event.Event.TheVariants.{Deliver as Delivered, Inject as Injected}
use Rattle.fw_flow.specs.declared.event.Message.{Message}
use Rattle.fw_flow.specs.Kind.{Kind}
use Rattle.fw_flow.specs.declared.kind.Kind.TheVariants.{OutputEpoch}
use Rattle.fw_flow.specs.declared.step.Step.{Step}
use Rattle.fw_flow.proofs.MessageLaws.{message_cmp-equal}
use Rattle.fw_model.specs.History.{delivered_messages, injected_count, pending_messages}
use Rattle.fw_model.specs.Machine.{Machine, Write, acknowledged, ack_count_of, events, front_of, is_failed, no_stamps}
use Rattle.fw_model.specs.Steps.{AcknowledgesOldest, Effect, HasEpoch, HasSomethingAt, IsStampNamed, LeadsTo, Outcome, Run, acked, checkpoint_of, did, is_asked, is_asked_for_checkpoints, is_in_flight, newest_checkpoint, silent, recs_at_output, with_event, with_failed, without_lost}
use Rattle.fw_model.proofs.EnabledLaws.{asked-from, asked-is}
use Rattle.fw_flow.specs.declared.step.Step.TheVariants as step

-- ---- the next message of an edge

-- whether the message is not greater than one of these that is asked for
abbrev pub is_first : Option Stamp → Message → List Message → Bool
is_first at m ms = list_all (λ x. not (is_asked at x.at) || not (is_gt (message_cmp m x))) ms

first-least : (at : Option Stamp) (m : Message) (ms : List Message) → is_first at m ms ≡ true
    → (other : Message) → is_message_among other ms ≡ true → IsStampNamed at other.at → is_gt (message_cmp m other) ≡ false
first-least at m [] h other k a = absurd (false≢true k)
first-least at m (x ∷ xs) h other k a =
    let p = and_parts _ _ h in
    ⊎_elim
    (λ e.
    let one : other ≡ x = message_cmp-equal other x e in
    ⊎_elim
    (λ n. absurd (two_ways _ (asked-from at x.at (subst (λ (y : Message). IsStampNamed at y.at) one a)) (not-true _ n)))
    (λ n. subst (λ y. is_gt (message_cmp m y) ≡ false) (sym one) (not-true _ n))
    (or_cases _ _ p.0))
    (λ e. first-least at m xs p.1 other e a)
    (or_cases _ _ k)

-- ---- writes

-- the writes with the oldest in flight acknowledged
abbrev pub with_oldest : List Write → List Write
with_oldest [] = []
with_oldest (w ∷ ws) = if is_in_flight w.stage then record w { stage = acknowledged } ∷ ws else w ∷ with_oldest ws

acknowledges : (ws : List Write) → list_any (λ (write : Write). is_in_flight write.stage) ws ≡ true → AcknowledgesOldest ws (with_oldest ws)
acknowledges [] h = absurd (false≢true h)
acknowledges (w ∷ ws) h = go (is_in_flight w.stage) refl (acknowledges ws)
  where
    go : (b : Bool) → is_in_flight w.stage ≡ b
        → (list_any (λ (write : Write). is_in_flight write.stage) ws ≡ true → AcknowledgesOldest ws (with_oldest ws))
        → AcknowledgesOldest (w ∷ ws) (if b then record w { stage = acknowledged } ∷ ws else w ∷ with_oldest ws)
    go true e again = record { earlier = []; oldest = w; later = ws; before = refl; in_flight = e; none_earlier = refl; after = refl }
    go false e again =
        let rest = again (ap (λ b. b || list_any (λ (write : Write). is_in_flight write.stage) ws) (sym e) ∙ h) in
        record {
          earlier = w ∷ rest.earlier;
          oldest = rest.oldest;
          later = rest.later;
          before = ap (λ xs. w ∷ xs) rest.before;
          in_flight = rest.in_flight;
          none_earlier = ap (λ b. b || list_any (λ (write : Write). is_in_flight write.stage) rest.earlier) e ∙ rest.none_earlier;
          after = ap (λ xs. w ∷ xs) rest.after;
        }

-- ---- moves

-- a step with what the machine finds for it: a batch, a message, a failed node, an epoch
pub data Move : Type 0 where
  inject : ℕ → ℕ → Move
  deliver : ℕ → Option Stamp → Message → Move
  ask : ℕ → Move
  persist : Move
  fail : ℕ → List ℕ → Move
  acknowledge : ℕ → ℕ → Move

-- its step
abbrev pub step_of : Move → Step
step_of (inject s x) = step.Inject s
step_of (deliver e at m) = step.Deliver e at
step_of (ask p) = step.Checkpoint p
step_of persist = step.Persist
step_of (fail p ps) = step.Fail (p ∷ ps)
step_of (acknowledge o x) = step.Ack o

-- what it shows
abbrev pub shown_by : System → Machine → Move → Effect
shown_by sys state (acknowledge o x) = acked o (x ∷ []) (recs_at_output sys state o x)
shown_by sys state move = silent

-- the state after it
abbrev pub after_one : System → Machine → Move → Machine
after_one sys state (inject s x) = with_event sys state (Injected s x)
after_one sys state (deliver e at m) = with_event sys state (Delivered e m)
after_one sys state (ask p) = record state { writes = state.writes ++ checkpoint_of state p (front_of state.settled p) ∷ [] }
after_one sys state persist = record state { writes = with_oldest state.writes }
after_one sys state (fail p ps) = record state { failed = with_failed sys state (p ∷ ps); writes = without_lost (p ∷ ps) state.writes }
after_one sys state (acknowledge o x) = record state { ack_counts = slice_set state.ack_counts o (x + 1) }

-- whether a node acknowledges epochs
abbrev pub is_epoch_output : Kind → Bool
is_epoch_output OutputEpoch = true
is_epoch_output kind = false

epoch_output : (kind : Kind) → is_epoch_output kind ≡ true → kind ≡ OutputEpoch
epoch_output OutputEpoch k = refl
epoch_output kind k = absurd (false≢true k)

has_epoch : (batches : List (List (List Rec))) (x : ℕ) → list_any (λ xs. nat_lt x (length xs)) batches ≡ true → HasEpoch batches x
has_epoch [] x h = false≢true h
has_epoch (xs ∷ batches) x h = ⊎_elim (λ l. inl (ltb-true x (length xs) l)) (λ l. inr (has_epoch batches x l)) (or_cases _ _ h)

-- whether the machine takes it
abbrev pub is_taken : System → Machine → Move → Bool
is_taken sys state (inject s x) =
    is_input_kind (kind_of sys.flow s) && (x == injected_count s (events state.history) && (nat_lt x (length (batches_of sys s)) && not (is_failed state s)))
is_taken sys state (deliver e at m) =
    is_asked at m.at
    && (is_message_among m (pending_messages sys (events state.history) e)
    && ((not (is_numbered sys.flow e) || list_any (same m.at) ((length (delivered_messages (events state.history) e) ∷ []) ∷ []))
    && (not (is_failed state (receiver sys.flow e)) && is_first at m (pending_messages sys (events state.history) e))))
is_taken sys state (ask p) =
    is_asked_for_checkpoints (policy_of sys.flow p)
    && (not (is_failed state p) && not (same_front (front_of state.settled p) (newest_checkpoint p (no_stamps (bounds_of sys.flow p)) state.writes)))
is_taken sys state persist = list_any (λ (write : Write). is_in_flight write.stage) state.writes
is_taken sys state (fail p ps) = nat_lt p (length sys.flow.nodes) && not (is_failed state p)
is_taken sys state (acknowledge o x) =
    nat_lt o (length sys.flow.nodes)
    && (is_epoch_output (kind_of sys.flow o)
    && (not (is_failed state o)
    && (x == ack_count_of state o
    && (frontier_of (bounds_of sys.flow o) (front_of state.settled o) (x ∷ []) && list_any (λ xs. nat_lt x (length xs)) sys.batches))))

pub takes : (sys : System) (state : Machine) (move : Move) → is_taken sys state move ≡ true → LeadsTo sys state (step_of move) (after_one sys state move) (shown_by sys state move)
takes sys state (inject s x) h =
    let a = and_parts _ _ h in
    let b = and_parts _ _ a.1 in
    let c = and_parts _ _ b.1 in
    (x, record { input = a.0; next = eqb-true x _ b.0; there = ltb-true x _ c.0 }, not-true _ c.1, refl, refl)
takes sys state (deliver e at m) h =
    let a = and_parts _ _ h in
    let b = and_parts _ _ a.1 in
    let c = and_parts _ _ b.1 in
    let d = and_parts _ _ c.1 in
    let number : is_numbered sys.flow e ≡ true → m.at ≡ length (delivered_messages (events state.history) e) ∷ [] = λ n.
    ⊎_elim
    (λ k. absurd (two_ways _ n (not-true _ k)))
    (λ k. ⊎_elim (λ s. same-is m.at _ s) (λ f. absurd (false≢true f)) (or_cases _ _ k))
    (or_cases _ _ c.0) in (
      m,
      record {
        enabled = record { is_pending = b.0; numbered = number };
        asked = asked-is at m.at a.0;
        least = λ other o k. first-least at m (pending_messages sys (events state.history) e) d.1 other o.is_pending k;
      },
      not-true _ d.0,
      refl,
      refl,
    )
takes sys state (ask p) h =
    let a = and_parts _ _ h in
    let b = and_parts _ _ a.1 in
    (a.0, not-true _ b.0, (λ e. two_ways _ (same_front-from _ _ e) (not-true _ b.1)), refl, refl)
takes sys state persist h = (with_oldest state.writes, acknowledges state.writes h, refl, refl)
takes sys state (fail p ps) h =
    let a = and_parts _ _ h in
    (p, ltb-true p _ a.0, or_left _ _ (eq-eqb p p refl), not-true _ a.1, refl, refl)
takes sys state (acknowledge o x) h =
    let a = and_parts _ _ h in
    let b = and_parts _ _ a.1 in
    let c = and_parts _ _ b.1 in
    let d = and_parts _ _ c.1 in
    let f = and_parts _ _ d.1 in
    let is : kind_of sys.flow o ≡ OutputEpoch = epoch_output (kind_of sys.flow o) b.0 in (
      x,
      record {
        declared = ltb-true o _ a.0;
        output = ap is_output_kind is;
        live = not-true _ c.0;
        next = eqb-true x _ d.0;
        settled = f.0;
        there = subst (λ k. HasSomethingAt sys (events state.history) k o x) (sym is) (inl (has_epoch sys.batches x f.1));
      },
      refl,
      refl,
    )

-- the state after these moves, the earliest first
abbrev pub after_all : System → Machine → List Move → Machine
after_all sys state [] = state
after_all sys state (m ∷ ms) = after_all sys (after_one sys state m) ms

-- whether the machine takes them
abbrev pub are_taken : System → Machine → List Move → Bool
are_taken sys state [] = true
are_taken sys state (m ∷ ms) = is_taken sys state m && are_taken sys (after_one sys state m) ms

-- their steps before others
abbrev pub steps_of : List Move → List Step → List Step
steps_of [] steps = steps
steps_of (m ∷ ms) steps = step_of m ∷ steps_of ms steps

-- their outcomes before others
abbrev pub outcomes_of : System → Machine → List Move → List Outcome → List Outcome
outcomes_of sys state [] outcomes = outcomes
outcomes_of sys state (m ∷ ms) outcomes = did (shown_by sys state m) ∷ outcomes_of sys (after_one sys state m) ms outcomes

-- the machine takes what the test tells
pub plays : (sys : System) (ms : List Move) (state : Machine) (steps : List Step) (outcomes : List Outcome) (last : Machine)
    → are_taken sys state ms ≡ true → Run sys (after_all sys state ms) steps outcomes last
    → Run sys state (steps_of ms steps) (outcomes_of sys state ms outcomes) last
plays sys [] state steps outcomes last h run = run
plays sys (m ∷ ms) state steps outcomes last h run =
    let one = and_parts _ _ h in
    (after_one sys state m, takes sys state m one.0, plays sys ms (after_one sys state m) steps outcomes last one.1 run)
