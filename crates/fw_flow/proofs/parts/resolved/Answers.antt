use Rattle.std.proofs.Common.{rules}
use Rattle.fw_flow.specs.Kind.{loop_of_kind}
use Rattle.fw_flow.specs.Raw.{place_or_end}
use Rattle.fw_flow.proofs.KindLaws.{IfSome-each}
use Rattle.fw_flow.proofs.parts.resolved.Goals as goal

pub returns : goal.returns
returns c = c.map.ensures (place_or_end c.args.loops.now) (IfSome-each (loop_of_kind c.args.kind) (λ name other called. search rules))
