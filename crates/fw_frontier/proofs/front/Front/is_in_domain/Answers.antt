use Rattle.std.proofs.Common.{◌≡◌, ◌∙◌, sym}
use Rattle.fw_frontier.specs.Front.{all_in_domain}
use Rattle.fw_frontier.proofs.CanonicalLaws.{all_in_domain-each, each-all_in_domain}
use Rattle.fw_frontier.proofs.front.Front.is_in_domain.Goals as goal

pub returns : goal.returns
returns c =
    let e : c.are_in_domain.result ≡ all_in_domain c.args.bounds.now c.args.self.now = c.are_in_domain.ensures ∙ (λ i. all_in_domain c.args.bounds.now (c.outside.ensures i)) in
    (λ t. all_in_domain-each c.args.bounds.now c.args.self.now (sym e ∙ t), λ h. e ∙ each-all_in_domain c.args.bounds.now c.args.self.now h)
