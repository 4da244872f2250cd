use Rattle.std.proofs.Common.{◌≡◌, None, Some, Result, sym, ◌∙◌}
use Rattle.std.specs.Prelude.{MatchResult}
use Rattle.fw_offers_text.specs.ClaimDraft.{fault_behind, with_entry, IsEnteredOrFault}
use Rattle.fw_offers_text.specs.declared.code.ChoiceCode.{ChoiceCode}
use Rattle.fw_offers_text.proofs.EnteredLaws.{entry_fits, entered_or_fault}
use Rattle.fw_offers_text.proofs.RecordingLaws.{ok_weaker}
use Rattle.fw_offers_text.proofs.certificate_reader.take_words.Goals as goal

pub take_entry-requires : goal.take_entry-requires
take_entry-requires c = entry_fits c.args.flow.now c.in-Some.form c.in-Ok.entry c.args.draft.now (sym c.in-Ok.is ∙ c.in_ok-entry.ensures) c.requires

pub returns-in-Ok : goal.returns-in-Ok
returns-in-Ok c =
    let flow = c.args.flow.now in
    let old = c.args.draft.now in
    let new = c.take_entry.new.draft in
    let entry = c.in-Ok.entry in
    ok_weaker (λ (taken : Result (Unit {0}) ChoiceCode). MatchResult taken (λ done. (fault_behind old entry ≡ None) × (new ≡ with_entry old entry)) (λ code. fault_behind old entry ≡ Some code))
    (IsEnteredOrFault flow c.args.words.now old new) c.take_entry.result
    (λ taken h. entered_or_fault flow c.args.words.now c.in-Some.form entry old new taken (sym c.in-Some.is ∙ c.certificate_form.ensures) (sym c.in-Ok.is ∙ c.in_ok-entry.ensures) h) c.take_entry.ensures
