use Rattle.std.proofs.Common.{◌≡◌, ◌<◌, [], length, get_or, arith}
use borrow.Author.Count.{below_more}
use Rattle.fw_certify.proofs.CodeLaws.{differ-at, other_lengths, same-at, same_to-end}
use Rattle.fw_certify.proofs.same.are_same_fronts.Goals as goal

pub returns-then-fronts-others : goal.returns-then-fronts-others
returns-then-fronts-others c = other_lengths c.args.fronts.now c.args.others.now (λ e. absurd (omega arith))

pub returns-then-not-same : goal.returns-then-not-same
returns-then-not-same c =
    let one : c.loop-place.place < length c.args.fronts.now = omega arith in
    let other : c.loop-place.place < length c.args.others.now = omega arith in
    differ-at c.args.fronts.now c.args.others.now c.loop-place.place c.index-fronts-place.result c.index-others-place.result c.same.result one other c.index-fronts-place.is c.index-others-place.is
    c.if-not-same.true c.same.ensures.one

pub loop-place-preserved : goal.loop-place-preserved
loop-place-preserved c =
    let one : c.loop-place.place < length c.args.fronts.now = omega arith in
    let other : c.loop-place.place < length c.args.others.now = omega arith in
    below_more (λ p. get_or c.args.fronts.now p [] ≡ get_or c.args.others.now p []) c.loop-place.place c.loop-place.invariant
    (same-at c.args.fronts.now c.args.others.now c.loop-place.place c.index-fronts-place.result c.index-others-place.result [] c.same.result one other c.index-fronts-place.is c.index-others-place.is
    c.if-not-same.false c.same.ensures.one)

pub returns : goal.returns
returns c = same_to-end c.args.fronts.now c.args.others.now c.loop-place.place [] (omega arith) (omega arith) c.loop-place.invariant
