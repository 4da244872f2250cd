use Rattle.fw_schedule.proofs.NameLaws.{AreFoundUpTo}
use Rattle.fw_schedule.proofs.names.nodes_named.Given as goal

abbrev pub invariant-loop-name : goal.invariant-loop-name
invariant-loop-name l = AreFoundUpTo l.flow l.text l.names l.name-index l.nodes.items
