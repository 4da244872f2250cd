use Rattle.std.proofs.Common.{◌≤◌, arith}
use Rattle.fw_flow.specs.Dataflow.{system_of}
use Rattle.fw_model.specs.Measure.{enough_rounds}
use Rattle.fw_denote.proofs.DenoteLaws.{solved-denotes, right-denotes, enough-fits}
use Rattle.fw_denote.proofs.denoting.settle.Goals as goal

pub returns-then-not-branch-clause-denoted : goal.returns-then-not-branch-clause-denoted
returns-then-not-branch-clause-denoted c =
    solved-denotes (system_of c.args.flow.now c.args.batches.now) c.requires.system.flow c.pass.new.bags.items c.in_ok-pass.ensures.held
    (c.in_ok-pass.ensures.solved c.if-not-branch.true)

pub returns-clause-denoted : goal.returns-clause-denoted
returns-clause-denoted c =
    let enough : enough_rounds c.args.flow.now ≤ c.loop-round._round =
    let f = enough-fits c.args.flow.now c.requires.system.flow in let t = c.loop-round-test.false in omega arith in
    right-denotes (system_of c.args.flow.now c.args.batches.now) c.requires.system.flow c.loop-round.bags.items c.loop-round.invariant.held c.loop-round._round
    enough c.loop-round.invariant.closer
