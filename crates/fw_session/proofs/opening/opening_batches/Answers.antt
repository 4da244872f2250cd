use Rattle.std.proofs.Common.{◌≡◌, length, arith, subst}
use Rattle.fw_session.proofs.OpeningLaws.{HaveFirst, first-more, first-none, opening-given}
use Rattle.fw_session.proofs.opening.opening_batches.Goals as goal

pub loop-place-init : goal.loop-place-init
loop-place-init c = first-none c.args.flow.now c.new-batches.result c.new-batches.ensures

pub loop-place-preserved : goal.loop-place-preserved
loop-place-preserved c =
    first-more c.args.flow.now c.loop-place.place c.loop-place.batches c.add_first.new.batches c.loop-place.invariant c.in_ok-add_first.ensures

pub returns : goal.returns
returns c =
    let all : c.loop-place.place ≡ length c.args.flow.now.nodes = omega (arith, c.loop-place-test.false, c.loop-place.auto.place-end, c.nodes-place-end.ensures.count) in
    opening-given c.args.flow.now c.loop-place.batches (subst (λ n. HaveFirst c.args.flow.now n c.loop-place.batches) all c.loop-place.invariant)
