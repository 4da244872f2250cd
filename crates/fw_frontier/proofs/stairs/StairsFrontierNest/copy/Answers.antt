use Rattle.std.proofs.Common.{◌∙◌}
use Rattle.fw_frontier.proofs.StairsLaws.{copied-whole, descending-copied}
use Rattle.fw_frontier.proofs.stairs.StairsFrontierNest.copy.Goals as goal

pub invariant_of-result : goal.invariant_of-result
invariant_of-result g c =
    let test = g.T.Frontier.Frontier.inside in let self = c.args.self.now in
    let e = c.in_ok-steps.ensures in
    record {
      descending = descending-copied test self.steps.items c.in_ok-steps.steps.items self.last c.in_ok-last.last self.descending
          (copied-whole test self.steps.items c.in_ok-steps.steps.items self.last c.in_ok-last.last (e.0 ∙ c.len.ensures) e.1 c.in_ok-last.ensures);
    }

pub returns : goal.returns
returns g c = λ t.
    let test = g.T.Frontier.Frontier.inside in let self = c.args.self.now in
    let e = c.in_ok-steps.ensures in
    copied-whole test self.steps.items c.in_ok-steps.steps.items self.last c.in_ok-last.last (e.0 ∙ c.len.ensures) e.1 c.in_ok-last.ensures t.counter t.outer
