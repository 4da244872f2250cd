use Rattle.std.proofs.Common.{◌≡◌, take}
use Rattle.std.specs.List.{AllByRecursion}
use Rattle.std.specs.Option.{option_copied}
use Rattle.fw_bag.specs.Bag.{IsRec}
use Rattle.fw_record.specs.declared.logged.Logged.{Logged}
use Rattle.fw_settle.specs.Checkpoints.{logged_from, told_log}
use Rattle.fw_settle.proofs.record.logged_at.Given as goal

abbrev pub invariant-loop-edge : goal.invariant-loop-edge
invariant-loop-edge l = record {
  all : l.all.items ≡ logged_from (told_log l.running (option_copied l.fn.since) l.front) (take l.edge-index l.edge-items);
  small : AllByRecursion (λ (x : Logged). IsRec x.message.rec) l.all.items;
}
