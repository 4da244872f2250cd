use Rattle.std.proofs.Common.{◌≡◌, ◌<◌, length, get_or, arith}
use borrow.Author.Count.{below_more}
use Rattle.fw_flow.specs.declared.choice.Cut.TheVariants.{Present}
use Rattle.fw_certify.proofs.CodeLaws.{differ-at, other_lengths, same-at, same_to-end}
use Rattle.fw_certify.proofs.same.are_same_cuts.Goals as goal

pub returns-then-cuts-others : goal.returns-then-cuts-others
returns-then-cuts-others c = other_lengths c.args.cuts.now c.args.others.now (λ e. absurd (omega arith))

pub returns-then-not-is_same_cut : goal.returns-then-not-is_same_cut
returns-then-not-is_same_cut c =
    let one : c.loop-place.place < length c.args.cuts.now = omega arith in
    let other : c.loop-place.place < length c.args.others.now = omega arith in
    differ-at c.args.cuts.now c.args.others.now c.loop-place.place c.index-cuts-place.result c.index-others-place.result c.is_same_cut.result one other c.index-cuts-place.is c.index-others-place.is
    c.if-not-is_same_cut.true c.is_same_cut.ensures

pub loop-place-preserved : goal.loop-place-preserved
loop-place-preserved c =
    let one : c.loop-place.place < length c.args.cuts.now = omega arith in
    let other : c.loop-place.place < length c.args.others.now = omega arith in
    below_more (λ p. get_or c.args.cuts.now p Present ≡ get_or c.args.others.now p Present) c.loop-place.place c.loop-place.invariant
    (same-at c.args.cuts.now c.args.others.now c.loop-place.place c.index-cuts-place.result c.index-others-place.result Present c.is_same_cut.result one other c.index-cuts-place.is c.index-others-place.is
    c.if-not-is_same_cut.false c.is_same_cut.ensures)

pub returns : goal.returns
returns c = same_to-end c.args.cuts.now c.args.others.now c.loop-place.place Present (omega arith) (omega arith) c.loop-place.invariant
