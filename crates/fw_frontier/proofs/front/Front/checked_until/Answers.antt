use Rattle.std.proofs.Common.{sym, ◌∙◌, refl}
use Rattle.fw_frontier.proofs.CanonicalLaws.{all_in_domain-each, each-all_in_domain}
use Rattle.fw_frontier.proofs.GenericLaws.{no}
use Rattle.fw_frontier.proofs.front.Front.checked_until.Goals as goal

pub returns-then-not-are_in_domain-clause-some : goal.returns-then-not-are_in_domain-clause-some
returns-then-not-are_in_domain-clause-some c =
    (λ e. no e, λ h. no (sym c.if-not-are_in_domain.true ∙ c.are_in_domain.ensures ∙ each-all_in_domain c.args.bounds.now c.args.stamps.now h))

pub returns-clause-some : goal.returns-clause-some
returns-clause-some c =
    (λ e. all_in_domain-each c.args.bounds.now c.args.stamps.now (sym c.are_in_domain.ensures ∙ c.if-not-are_in_domain.false), λ h. refl)

pub returns-clause-names : goal.returns-clause-names
returns-clause-names c =
    c.in_ok-until.ensures.names c.args.bounds.now (all_in_domain-each c.args.bounds.now c.args.stamps.now (sym c.are_in_domain.ensures ∙ c.if-not-are_in_domain.false))
