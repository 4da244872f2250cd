-- Logs that have messages of their edges alone.
use Rattle.std.proofs.Common.{◌≡◌, ℕ, ◌<◌, true, not, List, [], ◌∷◌, ◌++◌, length, map, Result, Ok, Err, sym, subst}
use Rattle.std.specs.Prelude.{OnOk}
use Rattle.std.specs.List.{AllByRecursion}
use Rattle.fw_lemmas.proofs.Each.{each-append, each-kept}
use Rattle.fw_time.specs.Stamp.{Stamp, in_domain}
use Rattle.fw_frontier.specs.Front.{Front, inside}
use Rattle.fw_flow.specs.declared.event.Message.{Message}
use Rattle.fw_flow.specs.Dataflow.{Dataflow, bounds_of, sender, receiver}
use Rattle.fw_model.specs.Filtering.{messages_outside}
use Rattle.fw_model.specs.Machine.{front_of}
use Rattle.fw_model.proofs.SortedLaws.{each-sorted_messages}
use Rattle.fw_model.specs.Carried.{carried}
use Rattle.fw_model.proofs.CarriedLaws.{carried-each}
use Rattle.fw_edge.specs.Messages.{MessagesState}
use Rattle.fw_node.proofs.MessageLaws.{messages-at, messages-each_cause}
use Rattle.fw_node.specs.NodeOf.{CanBeSent, stamps_of}
use Rattle.fw_node.specs.Sends.{messages_of}
use Rattle.fw_node.specs.declared.sends.Sends.{Sends}
use Rattle.fw_rollback.specs.Edges.{on_edge, nothing_there, IsOnEdge}
use Rattle.fw_rollback.specs.Restored.{log_of, AreLogsOfOwn, HasLogs, HaveOwnMessages}

-- messages at stamps of an edge's domain, whose causes are of its sender's, are on the edge
messages-own : (flow : Dataflow) (e : ℕ) (ms : List Message)
    → AllByRecursion (λ (m : Message). AllByRecursion (λ t. in_domain (bounds_of flow (sender flow e)) t ≡ true) m.causes) ms
    → AllByRecursion (λ t. in_domain (bounds_of flow (receiver flow e)) t ≡ true) (map (λ (m : Message). m.at) ms)
    → AllByRecursion (IsOnEdge flow e) ms
messages-own flow e [] c a = tt
messages-own flow e (m ∷ ms) c a = (record { at = a.0; causes = c.0 }, messages-own flow e ms c.1 a.1)

-- empty logs have messages of their edges alone
pub own-none : (flow : Dataflow) (low : List Front) (p : ℕ) (logs : List MessagesState) → HasLogs flow p logs (λ e. nothing_there) → AreLogsOfOwn flow low p logs
own-none flow low p logs h e l s = record { messages = []; own = tt; is = h e l s }

-- so have those to which what a node can send is added
pub own-more : {T E : Type 0} (flow : Dataflow) (low : List Front) (p : ℕ) (cause : Stamp) (sends : Sends) (old new : List MessagesState) (r : Result T E)
    → in_domain (bounds_of flow p) cause ≡ true → CanBeSent flow p (stamps_of sends) → AreLogsOfOwn flow low p old
    → ((e : ℕ) → e < length flow.edges → sender flow e ≡ p → (ms : List Message) → on_edge old e ≡ log_of flow low e ms
    → OnOk r (on_edge new e ≡ log_of flow low e (carried flow e (messages_of cause sends) ++ ms)))
    → OnOk r (AreLogsOfOwn flow low p new)
own-more flow low p cause sends old new (Err x) c can own logged = tt
own-more flow low p cause sends old new (Ok x) c can own logged = λ e l s.
    let before = own e l s in
    record {
      messages = carried flow e (messages_of cause sends) ++ before.messages;
      own = each-append (IsOnEdge flow e) (carried flow e (messages_of cause sends)) before.messages
          (carried-each flow e (IsOnEdge flow e) (messages_of cause sends) (messages-own flow e (messages_of cause sends)
          (messages-each_cause (λ t. in_domain (bounds_of flow (sender flow e)) t ≡ true) cause sends (subst (λ q. in_domain (bounds_of flow q) cause ≡ true) (sym s) c))
          (subst (AllByRecursion (λ t. in_domain (bounds_of flow (receiver flow e)) t ≡ true)) (sym (messages-at cause sends)) (can e l s))))
          before.own;
      is = logged e l s before.messages before.is;
    }

-- each message of such logs is one of its edge
pub own-messages : (flow : Dataflow) (low : List Front) (p : ℕ) (logs : List MessagesState) → AreLogsOfOwn flow low p logs → HaveOwnMessages flow p logs
own-messages flow low p logs own e l s =
    let here = own e l s in
    subst (λ (log : MessagesState). AllByRecursion (IsOnEdge flow e) log.messages) (sym here.is)
    (each-sorted_messages (IsOnEdge flow e) (messages_outside (inside (front_of low (receiver flow e))) here.messages)
    (each-kept (IsOnEdge flow e) (λ (m : Message). not (inside (front_of low (receiver flow e)) m.at)) here.messages here.own))
