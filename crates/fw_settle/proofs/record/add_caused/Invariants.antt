use Rattle.std.proofs.Common.{◌≡◌, ◌++◌, map, take}
use Rattle.std.specs.List.{AllByRecursion}
use Rattle.fw_frontier.specs.Front.{inside}
use Rattle.fw_flow.specs.declared.event.Message.{Message}
use Rattle.fw_model.specs.Filtering.{messages_from}
use Rattle.fw_bag.specs.Bag.{IsRec}
use Rattle.fw_record.specs.declared.logged.Logged.{Logged}
use Rattle.fw_settle.proofs.record.add_caused.Given as goal

abbrev pub invariant-loop-message : goal.invariant-loop-message
invariant-loop-message l = record {
  added : l.all.items ≡ l.fn.all.items
      ++ map (λ (m : Message). record { edge = l.edge; message = m }) (messages_from (inside l.front) (take l.message-index l.messages));
  small : AllByRecursion (λ (x : Logged). IsRec x.message.rec) l.fn.all.items → AllByRecursion (λ (x : Logged). IsRec x.message.rec) l.all.items;
}
