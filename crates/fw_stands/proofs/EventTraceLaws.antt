-- Traces and progress that follow an event stand for the state after it.
use Rattle.std.proofs.Common.{◌≡◌, ℕ, ◌+◌, Bool, true, false, cond, List, [], ◌∷◌, refl, sym, ap, ◌∙◌, arith}
use Rattle.fw_model.specs.Machine.{events, Machine}
use Rattle.fw_model.specs.SortedMessages.{sorted_messages}
use Rattle.fw_model.proofs.DomainLaws.{has_epochs}
use Rattle.fw_model.proofs.SortedLaws.{sorted_messages-weigh}
use Rattle.fw_model.proofs.WeightLaws.{weigh}
use Rattle.fw_node.specs.Answers.{without_causes}
use Rattle.fw_model.specs.Reached.{IsReached}
use Rattle.fw_model.specs.History.{IsEnabled, IsLegal}
use Rattle.fw_model.specs.Steps.{with_event}
use Rattle.fw_policy.specs.View.{base_of}
use Rattle.fw_stands.proofs.EventNextLaws.{legal-reached}
use Rattle.fw_stands.specs.Events.{AreSent, sends_at}
use Rattle.fw_stands.specs.Parts.{IsTraceIn}
use Rattle.fw_time.specs.Stamp.{Stamp}
use Rattle.fw_bag.specs.declared.rec.Rec.{Rec}
use Rattle.fw_flow.specs.Counting.{how_many}
use Rattle.fw_flow.specs.Dataflow.{System, policy_of}
use Rattle.fw_flow.specs.WellFormed.{IsWellFormedSystem}
use Rattle.fw_flow.specs.declared.event.Event.{Event}
use Rattle.fw_flow.specs.declared.event.Message.{Message}
use Rattle.fw_frontier.specs.Front.{Front}
use Rattle.fw_progress.specs.Progress.{Standing}
use Rattle.fw_progress.specs.History.{AreSameRecs, FollowsEvent, StandsForHistory, recs_sent}
use Rattle.fw_progress.specs.declared.traces.Traces.{Traces}
use Rattle.fw_progress.specs.Trace.{TracesFollow}
use Rattle.fw_model.specs.Writes.{takes_checkpoints}

-- the history of a reached state is legal
pub reached-legal : (sys : System) (state : Machine) → IsWellFormedSystem sys → IsReached sys state → IsLegal sys (events state.history)
reached-legal = legal-reached

-- ---- what is sent, in whatever order

many-weighs : (test : Message → Bool) (ms : List Message) → how_many test ms ≡ weigh (λ (m : Message). cond (test m) 1 0) ms
unfolding weigh
many-weighs test [] = refl
many-weighs test (m ∷ ms) = by (test m) (how_many test ms) (weigh (λ (x : Message). cond (test x) 1 0) ms) (many-weighs test ms)
  where
    by : (b : Bool) (n w : ℕ) → n ≡ w → cond b (n + 1) n ≡ cond b 1 0 + w
    by true n w h = omega (arith, h)
    by false n w h = omega (arith, h)

-- in order as many pass a test as before
many-sorted : (test : Message → Bool) (ms : List Message) → how_many test (sorted_messages ms) ≡ how_many test ms
many-sorted test ms =
    many-weighs test (sorted_messages ms) ∙ sorted_messages-weigh (λ (m : Message). cond (test m) 1 0) ms ∙ sym (many-weighs test ms)

many-recs : (test : Stamp × Rec → Bool) (ms : List Message) → how_many test (without_causes ms) ≡ how_many (λ (m : Message). test (m.at, m.rec)) ms
many-recs test [] = refl
many-recs test (m ∷ ms) = ap (λ n. cond (test (m.at, m.rec)) (n + 1) n) (many-recs test ms)

-- messages that are what an event makes its node send have the same recs
pub same-recs : (sys : System) (h : List Event) (v : Event) (sent : List Message) → AreSent sys h v sent → AreSameRecs (recs_sent sys h v) (without_causes sent)
same-recs sys h v sent s test =
    let on : Message → Bool = λ m. test (m.at, m.rec) in
    many-recs test (sends_at sys h v)
    ∙ sym (many-sorted on (sends_at sys h v)) ∙ ap (how_many on) (sym s) ∙ many-sorted on sent
    ∙ sym (many-recs test sent)

-- ---- traces and progress

-- traces that follow an event are those of each node after it
pub traces-follow : (sys : System) (floor : List Front) (state : Machine) (v : Event) (sent : List Message) → AreSent sys (events state.history) v sent
    → (old new : Traces) → TracesFollow sys.flow v (without_causes sent) old new
    → (p : ℕ) → IsTraceIn sys floor state p old → IsTraceIn sys floor (with_event sys state v) p new
traces-follow sys floor state v sent s old new f p i = f (takes_checkpoints (policy_of sys.flow p)) sys (events state.history) refl (same-recs sys (events state.history) v sent s) p (base_of sys floor state p) i

-- in each reached state progress that follows an event that may come next stands for the history after it
pub progress-follows : (sys : System) (state : Machine) → IsWellFormedSystem sys → IsReached sys state
    → (v : Event) → IsEnabled sys (events state.history) v → (sent : List Message) → AreSent sys (events state.history) v sent
    → (old new : Standing) → FollowsEvent sys.flow v (without_causes sent) old new
    → StandsForHistory sys (events state.history) old → StandsForHistory sys (events (with_event sys state v).history) new
progress-follows sys state w r v k sent s old new f o =
    let h = events state.history in
    f sys h refl (has_epochs sys w) (k, legal-reached sys state w r) (same-recs sys h v sent s) o
