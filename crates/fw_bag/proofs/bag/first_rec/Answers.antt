use Rattle.std.proofs.Common.{sym, ◌∙◌}
use Rattle.std.proofs.lemmas.Bool.{false≢true}
use Rattle.fw_bag.proofs.CountLaws.{expand_first, cons_not_empty}
use Rattle.fw_bag.proofs.bag.first_rec.Goals as goal

pub returns-clause-none : goal.returns-clause-none
returns-clause-none c =
    let es = c.args.counts.now.entries in
    let first = expand_first _ _ es c.requires.positive c.in_ok-rec.ensures.first in
    (λ h. absurd (false≢true (sym h)), λ h. absurd (cons_not_empty _ _ (sym first ∙ h)))

pub returns-clause-first : goal.returns-clause-first
returns-clause-first c = expand_first _ _ c.args.counts.now.entries c.requires.positive c.in_ok-rec.ensures.first
