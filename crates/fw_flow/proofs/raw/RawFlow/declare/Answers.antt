use Rattle.std.proofs.Common.{arith}
use Rattle.fw_flow.proofs.Named.{named_more}
use Rattle.fw_flow.proofs.raw.RawFlow.declare.Goals as goal

pub invariant_of-self-2 : goal.invariant_of-self-2
invariant_of-self-2 c =
    named_more c.self.inside.names c.add.new.self c.self.inside.declared.items c.push.new.self.items c.args.declared c.self.invariant (grind arith) (grind arith) c.in_ok-push.ensures.items
