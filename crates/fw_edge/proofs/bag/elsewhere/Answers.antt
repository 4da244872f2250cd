use Rattle.std.proofs.Common.{◌≡◌, true, false, Some, rules, sym, ap, ◌∙◌}
use Rattle.std.specs.Option.{option_copied}
use Rattle.fw_model.specs.Steps.{is_asked}
use Rattle.fw_edge.proofs.HeadLaws.{same-by}
use Rattle.fw_edge.proofs.bag.elsewhere.Goals as goal

pub returns-then-eq-clause-here : goal.returns-then-eq-clause-here
returns-then-eq-clause-here c =
    let asked : option_copied c.args.asked ≡ Some c.in_ok-asked.asked.now = search rules in
    ap (λ o. is_asked o c.args.at.now) asked ∙ same-by c.in_ok-asked.asked.now c.args.at.now true (sym c.eq.ensures ∙ c.if-eq.true)

pub returns-clause-other : goal.returns-clause-other
returns-clause-other c =
    let asked : option_copied c.args.asked ≡ Some c.in_ok-asked.asked.now = search rules in
    (asked, same-by c.in_ok-asked.asked.now c.args.at.now false (sym c.eq.ensures ∙ c.if-eq.false))
