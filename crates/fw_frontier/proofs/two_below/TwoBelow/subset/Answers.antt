use Rattle.std.proofs.Common.{true}
use Rattle.std.proofs.lemmas.Bool.{both_ways}
use Rattle.fw_frontier.proofs.SidesLaws.{sides-within, within-first, within-second}
use Rattle.fw_frontier.proofs.two_below.TwoBelow.subset.Goals as goal

pub returns-then-is_at_most : goal.returns-then-is_at_most
returns-then-is_at_most c =
    let a = c.args.self.now.first.until in let b = c.args.self.now.second.until in
    let p = c.args.other.now.first.until in let q = c.args.other.now.second.until in (
      λ h t. sides-within a b p q (c.is_at_most.ensures.0 c.if-is_at_most.true) (c.is_at_most-then-is_at_most.ensures.0 h) t.first t.second,
      λ f. c.is_at_most-then-is_at_most.ensures.1 (within-second a b p q (λ x y. f (record { first = x; second = y }))),
    )

pub returns-else-is_at_most : goal.returns-else-is_at_most
returns-else-is_at_most c =
    let a = c.args.self.now.first.until in let b = c.args.self.now.second.until in
    let p = c.args.other.now.first.until in let q = c.args.other.now.second.until in (
      λ h. absurd (both_ways c.is_at_most.result c.if-is_at_most.false h),
      λ f. c.is_at_most.ensures.1 (within-first a b p q (λ x y. f (record { first = x; second = y }))),
    )
