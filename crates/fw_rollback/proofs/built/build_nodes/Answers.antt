use Rattle.std.proofs.Common.{◌≡◌, length, subst, arith}
use Rattle.fw_rollback.specs.Built.{AreNodesBuilt}
use Rattle.fw_rollback.proofs.BuildLaws.{built-none, built-more}
use Rattle.fw_rollback.proofs.built.build_nodes.Goals as goal

pub loop-place-init : goal.loop-place-init
loop-place-init c = built-none c.args.flow.now c.args.choice.now c.args.low.now c.args.given.now c.args.tables.now c.args.logs.now c.requires.tables c.requires.logs

pub loop-place-preserved : goal.loop-place-preserved
loop-place-preserved c =
    built-more c.args.flow.now c.args.choice.now c.args.low.now c.args.given.now c.loop-place.place c.at.result c.loop-place.tables c.build_at.new.tables c.loop-place.logs c.build_at.new.logs
    c.at.ensures c.loop-place.invariant c.in_ok-build_at.ensures.built c.build_at.ensures.others c.build_at.ensures.tables c.build_at.ensures.each c.build_at.ensures.each_table

pub returns-clause-built : goal.returns-clause-built
returns-clause-built c =
    let all : c.loop-place.place ≡ length c.args.flow.now.nodes = omega (arith, c.loop-place-test.false, c.loop-place.auto.place-end, c.nodes-place-end.ensures.count) in
    subst (λ n. AreNodesBuilt c.args.flow.now c.args.choice.now c.args.low.now c.args.given.now n c.loop-place.tables c.loop-place.logs) all c.loop-place.invariant.nodes

pub build_at-requires-clause-empty : goal.build_at-requires-clause-empty
build_at-requires-clause-empty c = λ e l s. c.loop-place.invariant.rest e l (omega (arith, s, c.at.ensures))
