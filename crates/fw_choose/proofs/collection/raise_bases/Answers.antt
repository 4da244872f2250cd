use Rattle.std.proofs.Common.{◌≡◌, ℕ, ◌<◌, length, sym, subst, arith}
use Rattle.fw_choose.specs.Collecting.{AreRaised}
use Rattle.fw_choose.proofs.CollectLaws.{raised_none, raised_more}
use Rattle.fw_choose.proofs.ViewLaws.{at_place}
use Rattle.fw_choose.proofs.collection.raise_bases.Goals as goal

pub loop-place-init : goal.loop-place-init
loop-place-init c = raised_none c.args.flow.now c.args.low.now c.args.traces.now c.requires.lists c.requires.live

pub loop-place-preserved : goal.loop-place-preserved
loop-place-preserved c =
    let low = c.args.low.now in
    let there : c.loop-place.place < length low = omega arith in
    let node : c.at.result < length low = subst (λ (k : ℕ). k < length low) (sym c.at.ensures) there in
    raised_more c.args.flow.now c.loop-place.place c.at.result low c.index-low-place.result c.args.traces.now c.loop-place.traces c.raise_base.new.traces c.at.ensures
    (at_place low c.loop-place.place c.at.result c.index-low-place.result _ c.index-low-place.is (sym c.at.ensures) node) c.loop-place.invariant c.in_ok-raise_base.ensures

pub returns : goal.returns
returns c =
    let all : c.loop-place.place ≡ length c.args.flow.now.nodes = omega arith in
    subst (λ (n : ℕ). AreRaised c.args.flow.now n c.args.low.now c.args.traces.now c.loop-place.traces) all c.loop-place.invariant
