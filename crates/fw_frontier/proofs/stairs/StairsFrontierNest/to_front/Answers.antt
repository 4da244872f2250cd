use Rattle.std.proofs.Common.{List, ℕ, ◌≡◌, true, get_or, ◌∙◌}
use Rattle.fw_lemmas.proofs.Each.{each-weaker}
use Rattle.fw_time.specs.Stamp.{leq, outer, counter, in_domain}
use Rattle.fw_time.proofs.DomainLaws.{domain-leq, plain-in_domain}
use Rattle.fw_frontier.proofs.BelowLaws.{names-by}
use Rattle.fw_frontier.proofs.stairs.StairsFrontierNest.to_front.Goals as goal

pub returns : goal.returns
returns g c = λ e.
    let b = c.args.bounds.now in let self = c.args.self.now in
    let test = λ (t : List ℕ). g.T.Frontier.Frontier.inside (get_or self.steps.items (counter t) self.last) (g.T.Time.of_coords (outer t)) in
    let there = each-weaker (λ s. leq s b.greatest ≡ true) (λ s. in_domain b s ≡ true) c.in_ok-stamps.stamps.items (λ s l. plain-in_domain b s e ∙ l) c.in_ok-stamps.ensures.in_domain in
    let named = rw c.deref.ensures.value at (c.in_ok-front.ensures.names b (rw c.deref.ensures.value there)) in
    names-by b c.in_ok-front.front c.in_ok-stamps.stamps.items test named (λ t d. c.in_ok-stamps.ensures.test t (domain-leq b t d))
