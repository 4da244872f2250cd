use Rattle.std.proofs.Common.{◌≡◌, true}
use Rattle.fw_lemmas.proofs.Each.{each-taken}
use Rattle.fw_lines.specs.Spelling.{is_name}
use Rattle.fw_flow.specs.declared.node.Loop.{Loop}
use Rattle.fw_flow.proofs.laws.loops_have_names.Goals as goal

pub loop-a_loop-preserved : goal.loop-a_loop-preserved
loop-a_loop-preserved c =
    each-taken (λ (a_loop : Loop). is_name a_loop.name ≡ true) c.args.loops.now c.loop-a_loop.a_loop-index c.a_loop-item.result c.loop-a_loop-test.true c.a_loop-item.is c.loop-a_loop.invariant c.as_bytes.ensures.name
