use Rattle.std.proofs.Common.{◌≡◌, sym, ◌∙◌}
use Rattle.fw_frontier.specs.Front.{is_within}
use Rattle.fw_frontier.proofs.NamesLaws.{is_within-inside, inside-is_within, is_within-holds, within-is}
use Rattle.fw_frontier.proofs.front.Front.subset.Goals as goal
use Rattle.fw_frontier.proofs.front.Front.subset.Goals.{After-has_none_inside}

answer : (c : After-has_none_inside) → c.has_none_inside.result ≡ is_within c.args.self.now c.args.other.now
answer c = c.has_none_inside.ensures ∙ (λ i. is_within (c.outside.ensures i) (c.outside-2.ensures i))

pub returns-clause-within : goal.returns-clause-within
returns-clause-within c =
    (λ t. is_within-inside c.args.self.now c.args.other.now (sym (answer c) ∙ t), λ w. answer c ∙ inside-is_within c.args.self.now c.args.other.now w)

pub returns-clause-domain : goal.returns-clause-domain
returns-clause-domain c = λ b k.
    (λ t. is_within-holds b c.args.self.now c.args.other.now (sym (answer c) ∙ t), λ w. answer c ∙ within-is b c.args.self.now c.args.other.now k w)

pub returns-clause-test : goal.returns-clause-test
returns-clause-test c = answer c
