use Rattle.std.proofs.Common.{Bool, ◌&&◌, ◌∙◌, max}
use Rattle.fw_frontier.proofs.StairsLaws.{pairwise, descending-pairwise, and-grows}
use Rattle.fw_frontier.proofs.stairs.StairsFrontierNest.meet.Goals as goal

pub invariant_of-result : goal.invariant_of-result
invariant_of-result g c =
    let test = g.T.Frontier.Frontier.inside in
    let f = λ (a : Bool) (b : Bool). a && b in
    let one = c.args.self.now in let other = c.args.other.now in
    let e = c.in_ok-steps.ensures in
    record {
      descending = descending-pairwise test f one.steps.items other.steps.items c.in_ok-steps.steps.items one.last other.last c.in_ok-last.last and-grows one.descending other.descending
          (pairwise test f one.steps.items other.steps.items c.in_ok-steps.steps.items one.last other.last c.in_ok-last.last (e.0 ∙ c.max.ensures ∙ (λ i. max (c.len.ensures i) (c.len-2.ensures i))) e.1 c.in_ok-last.ensures);
    }
