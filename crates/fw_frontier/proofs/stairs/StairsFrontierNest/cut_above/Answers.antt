use Rattle.std.proofs.Common.{◌∙◌, sym, ap, ◌&&◌, not, nat_le, max, get_or}
use Rattle.fw_time.specs.Stamp.{leq}
use Rattle.fw_time.proofs.StampLaws.{leq-nest}
use Rattle.fw_frontier.proofs.StairsLaws.{cut-whole, descending-cut, and-swap}
use Rattle.fw_frontier.proofs.stairs.StairsFrontierNest.cut_above.Goals as goal

pub invariant_of-result : goal.invariant_of-result
invariant_of-result g c =
    let test = g.T.Frontier.Frontier.inside in
    let xs = c.args.self.now.steps.items in let x = c.args.self.now.last in
    let zs = c.in_ok-steps.steps.items in let z = c.in_ok-last.last in
    let from = c.args.t.now.counter in let p = g.T.Time.coords c.args.t.now.outer in
    let e = c.in_ok-steps.ensures in
    record {
      descending = descending-cut test (λ s. leq p (g.T.Time.coords s)) from xs zs x z c.args.self.now.descending
          (cut-whole test (λ s. leq p (g.T.Time.coords s)) from xs zs x z (e.0 ∙ c.max.ensures ∙ ap (λ n. max n c.args.t.now.counter) c.len.ensures) e.1 c.in_ok-last.ensures);
    }

pub returns : goal.returns
returns g c = λ s.
    let test = g.T.Frontier.Frontier.inside in
    let xs = c.args.self.now.steps.items in let x = c.args.self.now.last in
    let zs = c.in_ok-steps.steps.items in let z = c.in_ok-last.last in
    let t = c.args.t.now in
    let p = g.T.Time.coords t.outer in let q = g.T.Time.coords s.outer in
    let e = c.in_ok-steps.ensures in
    cut-whole test (λ s. leq p (g.T.Time.coords s)) t.counter xs zs x z (e.0 ∙ c.max.ensures ∙ ap (λ n. max n c.args.t.now.counter) c.len.ensures) e.1 c.in_ok-last.ensures s.counter s.outer
    ∙ ap (λ b. test (get_or xs s.counter x) s.outer && not b)
    (and-swap (nat_le t.counter s.counter) (leq p q) ∙ sym (leq-nest p q t.counter s.counter (g.met.T.Time.same_dimension t.outer ∙ sym (g.met.T.Time.same_dimension s.outer))))
