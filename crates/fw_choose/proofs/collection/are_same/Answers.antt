use Rattle.std.proofs.Common.{refl, sym, ◌∙◌, below_more, arith}
use Rattle.fw_choose.proofs.CollectLaws.{differ-at, same-each}
use Rattle.fw_choose.proofs.collection.are_same.Goals as goal

pub loop-place-preserved : goal.loop-place-preserved
loop-place-preserved c = below_more _ _ c.loop-place.invariant (sym c.is_same_at.ensures ∙ c.if-not-is_same_at.false)

pub returns-then-not-is_same_at : goal.returns-then-not-is_same_at
returns-then-not-is_same_at c = (
  λ t. absurd (cc),
  λ e. absurd (differ-at c.args.fronts.now c.args.others.now c.loop-place.place (sym c.is_same_at.ensures ∙ c.if-not-is_same_at.true) e),
)

pub returns : goal.returns
returns c = (
  λ t. same-each c.args.fronts.now c.args.others.now c.requires (λ p l. c.loop-place.invariant p (omega (arith, l, c.loop-place-test.false))),
  λ e. refl,
)
