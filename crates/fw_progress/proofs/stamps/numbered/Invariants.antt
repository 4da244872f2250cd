use Rattle.std.proofs.Common.{◌≡◌, take}
use Rattle.std.specs.List.{flat_map}
use Rattle.fw_progress.specs.StampData.{messages_numbered}
use Rattle.fw_progress.proofs.stamps.numbered.Given as goal

abbrev pub invariant-loop-edge : goal.invariant-loop-edge
invariant-loop-edge l = l.messages.items ≡ flat_map (messages_numbered l.numbers) (take l.edge-index l.edges)
