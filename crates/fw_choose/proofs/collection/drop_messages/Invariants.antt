use Rattle.std.proofs.Common.{take}
use Rattle.fw_choose.specs.Collecting.{AreLeft}
use Rattle.fw_choose.proofs.collection.drop_messages.Given as goal

abbrev pub invariant-loop-front : goal.invariant-loop-front
invariant-loop-front l = AreLeft (take l.front-index l.fronts) l.fn.logs l.logs
