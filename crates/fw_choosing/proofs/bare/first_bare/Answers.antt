use Rattle.std.proofs.Common.{◌<◌, length, subst}
use Rattle.fw_choosing.proofs.BareLaws.{bare-first, some-more}
use Rattle.fw_choosing.proofs.bare.first_bare.Goals as goal

pub loop-place-preserved : goal.loop-place-preserved
loop-place-preserved c = some-more c.args.flow.now c.args.offers.now c.loop-place.place c.at-node.result c.at-node.ensures c.loop-place.invariant (c.is_bare.ensures.some c.if-is_bare.false)

pub returns-then-is_bare : goal.returns-then-is_bare
returns-then-is_bare c =
    let there : c.loop-place.place < length c.args.flow.now.nodes = subst (λ n. c.loop-place.place < n) c.nodes-place-end.ensures.count c.loop-place-test.true in
    bare-first c.args.flow.now c.args.offers.now c.loop-place.place c.at-node.result c.at-node.ensures there c.loop-place.invariant (c.is_bare.ensures.bare c.if-is_bare.true)
