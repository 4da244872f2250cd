use Rattle.std.proofs.Common.{◌≤◌, length, sym, ◌∙◌, arith}
use Rattle.fw_frontier.proofs.StairsLaws.{within-whole, within-last}
use Rattle.fw_frontier.proofs.stairs.StairsFrontierNest.subset.Goals as goal

pub returns-then-not-subset : goal.returns-then-not-subset
returns-then-not-subset g c =
    let e = rw (c.at.ensures, c.at-in-loop-c.ensures) at c.subset.ensures in
    (λ h. cc, λ w. sym c.if-not-subset.true ∙ e.1 (λ t. w (record { outer = t; counter = c.loop-c.c })))

pub returns : goal.returns
returns g c =
    let test = g.T.Frontier.Frontier.inside in
    let one = c.args.self.now in let other = c.args.other.now in
    let h : length one.steps.items ≤ c.loop-c.c = omega (arith, c.max-c-end.ensures, c.len.ensures, c.len-2.ensures) in
    let k : length other.steps.items ≤ c.loop-c.c = omega (arith, c.max-c-end.ensures, c.len.ensures, c.len-2.ensures) in (
      λ e t. within-whole test c.loop-c.c one.steps.items other.steps.items one.last other.last h k c.loop-c.invariant (c.subset-2.ensures.0 e) t.counter t.outer,
      λ w. c.subset-2.ensures.1 (within-last test c.loop-c.c one.steps.items other.steps.items one.last other.last h k (λ n t. w (record { outer = t; counter = n }))),
    )
