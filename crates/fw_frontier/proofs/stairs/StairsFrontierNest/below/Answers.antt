use Rattle.std.proofs.Common.{◌∙◌, sym, ap, ◌&&◌, ◌+◌, length, arith}
use Rattle.fw_time.specs.Stamp.{leq, glb, outer, counter}
use Rattle.fw_time.specs.NestLaws.{dimension-outer}
use Rattle.fw_time.proofs.TimeLaws.{leq-glb_nest}
use Rattle.fw_frontier.proofs.StairsLaws.{below-whole, descending-below, counter-below, counter-all, none-at}
use Rattle.fw_frontier.proofs.stairs.StairsFrontierNest.below.Goals as goal

pub below-requires : goal.below-requires
below-requires g c = ap length c.outer_of-outer.ensures.value ∙ dimension-outer c.args.bounds.now.greatest g.T.Time.dimension c.requires

pub returns-then-top-counter : goal.returns-then-top-counter
returns-then-top-counter g c = λ t.
    let top = c.args.top.now in let b = c.args.bounds.now.greatest in
    let p = g.T.Time.coords t.outer in let q = g.T.Time.coords top.outer in
    ap (λ s. g.T.Frontier.Frontier.inside s t.outer) (none-at c.new.result.items t.counter c.in_ok-under.under c.new.ensures.items)
    ∙ c.in_ok-under.ensures t.outer
    ∙ ap (λ u. leq (glb p u) q) c.outer_of-outer.ensures.value
    ∙ counter-all (leq (glb p (outer b)) q) t.counter top.counter (counter b) (omega (arith, c.counter.ensures, c.if-top-counter.true))
    ∙ sym (leq-glb_nest p b q t.counter top.counter (omega (arith, c.requires, g.met.T.Time.same_dimension t.outer)) (g.met.T.Time.same_dimension t.outer ∙ sym (g.met.T.Time.same_dimension top.outer)))

pub invariant_of-result-2 : goal.invariant_of-result-2
invariant_of-result-2 g c =
    let test = g.T.Frontier.Frontier.inside in
    let n = c.args.top.now.counter + 1 in
    record {
      descending = descending-below test n c.in_ok-under.under c.in_ok-steps.steps.items c.in_ok-last.last
          (below-whole test n c.in_ok-under.under c.in_ok-steps.steps.items c.in_ok-last.last c.in_ok-steps.ensures.0 c.in_ok-steps.ensures.1 c.in_ok-last.ensures);
    }

pub returns : goal.returns
returns g c = λ t.
    let test = g.T.Frontier.Frontier.inside in
    let top = c.args.top.now in let b = c.args.bounds.now.greatest in
    let n = top.counter + 1 in
    let p = g.T.Time.coords t.outer in let q = g.T.Time.coords top.outer in
    let under = c.in_ok-under.ensures t.outer ∙ ap (λ u. leq (glb p u) q) c.outer_of-outer.ensures.value in
    let count = counter-below t.counter top.counter (counter b) (omega (arith, c.counter.ensures, c.if-top-counter.false)) in
    below-whole test n c.in_ok-under.under c.in_ok-steps.steps.items c.in_ok-last.last c.in_ok-steps.ensures.0 c.in_ok-steps.ensures.1 c.in_ok-last.ensures t.counter t.outer
    ∙ (λ i. under i && count i)
    ∙ sym (leq-glb_nest p b q t.counter top.counter (omega (arith, c.requires, g.met.T.Time.same_dimension t.outer)) (g.met.T.Time.same_dimension t.outer ∙ sym (g.met.T.Time.same_dimension top.outer)))

pub empty-requires : goal.empty-requires
empty-requires g c = ap length c.outer_of-outer.ensures.value ∙ dimension-outer c.args.bounds.now.greatest g.T.Time.dimension c.requires
