use Rattle.std.proofs.Common.{◌≡◌, None, Some, Result, sym, ◌∙◌}
use Rattle.std.specs.Prelude.{MatchResult}
use Rattle.fw_offers_text.specs.declared.code.ChoiceCode.{ChoiceCode}
use Rattle.fw_offers_text.specs.Draft.{fault_after, with_statement, IsStatementTaken}
use Rattle.fw_offers_text.proofs.RecordingLaws.{ok_weaker}
use Rattle.fw_offers_text.proofs.TakenLaws.{no_form, not_stated, taken_or_fault, statement_there, statement_small}
use Rattle.fw_offers_text.proofs.offers_reader.take_words.Goals as goal

pub returns-in_default : goal.returns-in_default
returns-in_default c = no_form c.args.flow.now c.args.words.now c.args.draft.now c.args.draft.now (sym c.in_default.is ∙ c.in_ok-form.ensures)

pub take_statement-requires-clause-there : goal.take_statement-requires-clause-there
take_statement-requires-clause-there c = statement_there c.args.flow.now c.in-Some.form c.in-Ok.statement (sym c.in-Ok.is ∙ c.in_ok-statement.ensures)

pub take_statement-requires-clause-small : goal.take_statement-requires-clause-small
take_statement-requires-clause-small c = statement_small c.args.flow.now c.in-Some.form c.in-Ok.statement (sym c.in-Ok.is ∙ c.in_ok-statement.ensures)

pub returns-in-Ok : goal.returns-in-Ok
returns-in-Ok c =
    let flow = c.args.flow.now in
    let old = c.args.draft.now in
    let new = c.take_statement.new.draft in
    let s = c.in-Ok.statement in
    ok_weaker (λ (taken : Result (Unit {0}) ChoiceCode). MatchResult taken (λ done. (fault_after flow old s ≡ None) × (new ≡ with_statement flow old s)) (λ code. fault_after flow old s ≡ Some code))
    (IsStatementTaken flow c.args.words.now old new) c.take_statement.result
    (λ taken h. taken_or_fault flow c.args.words.now c.in-Some.form s old new taken c.flow_is_well_formed.ensures (sym c.in-Some.is ∙ c.in_ok-form.ensures) (sym c.in-Ok.is ∙ c.in_ok-statement.ensures) h) c.take_statement.ensures

pub returns-in-Err : goal.returns-in-Err
returns-in-Err c =
    not_stated c.args.flow.now c.args.words.now c.in-Some.form c.in-Err.code c.args.draft.now c.args.draft.now (sym c.in-Some.is ∙ c.in_ok-form.ensures) (sym c.in-Err.is ∙ c.in_ok-statement.ensures)
