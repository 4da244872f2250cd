use Rattle.std.proofs.Common.{◌∙◌}
use Rattle.std.proofs.lemmas.List.{take_rest}
use Rattle.fw_flow_text.specs.Grammar.{capped_words}
use Rattle.fw_flow_text.proofs.FoundLaws.{three_there, only_selection}
use Rattle.fw_flow_text.proofs.select.selection.Goals as goal

pub returns-clause-only : goal.returns-clause-only
returns-clause-only c selection within policy small e =
    let there = three_there c.args.text.now c.args.words.now _ (record { from = 0; to = 0 }) c.capped.result.now c.capped-2.result.now c.capped-3.result.now c.in-len3-up.len_at_least (take_rest c.args.words.now 3) c.capped.ensures c.capped-2.ensures c.capped-3.ensures in
    only_selection c.capped.result.now c.capped-2.result.now c.capped-3.result.now _ (capped_words c.args.text.now c.in_ok-assignment.rest.now) c.in_ok-condition.condition c.in_ok-assignment.assignment c.in_ok-condition.ensures c.in_ok-assignment.ensures.only selection within policy small (there ∙ e)
