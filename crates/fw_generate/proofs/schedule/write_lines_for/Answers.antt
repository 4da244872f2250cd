use Rattle.std.proofs.Common.{◌≢◌, ◌∷◌, [], arith, subst, string_bytes, sym}
use Rattle.std.proofs.lemmas.List.{append-nil}
use Rattle.std.proofs.lemmas.Result.{on_ok_weaker}
use Rattle.fw_generate.proofs.Writing.{asked_written, checkpoints_asked, collection_asked, failure_asked, nothing_asked, pushed}
use Rattle.fw_generate.specs.Draws.{Drawing, words_drawn}
use Rattle.fw_lines.specs.Written.{text_of}
use Rattle.fw_generate.specs.Texts.{checkpoint_lines, collect_line}
use Rattle.fw_generate.specs.Writes.{WritesDrawn}
use Rattle.fw_generate.proofs.schedule.write_lines_for.Goals as goal

pub returns-in-0 : goal.returns-in-0
returns-in-0 c =
    let call = c.write_failure in
    on_ok_weaker call.result
    (subst (λ (asked : Drawing _). WritesDrawn asked text_of (words_drawn c.args.generator.now) (words_drawn call.new.generator) (string_bytes c.args.text.now) (string_bytes call.new.text))
    (sym (failure_asked _ c.in-0.is)))
    call.ensures

pub returns-in-1 : goal.returns-in-1
returns-in-1 c =
    let call = c.push_str in
    on_ok_weaker call.result (asked_written _ checkpoint_lines _ _ _ (checkpoints_asked _ c.in-1.is))
    (pushed call.result (string_bytes c.args.text.now) (text_of checkpoint_lines) _ call.ensures.bytes)

pub returns-in-2 : goal.returns-in-2
returns-in-2 c =
    let call = c.push_str-in-2 in
    on_ok_weaker call.result (asked_written _ (collect_line ∷ []) _ _ _ (collection_asked _ c.in-2.is))
    (pushed call.result (string_bytes c.args.text.now) (text_of (collect_line ∷ [])) _ call.ensures.bytes)

pub returns-in_default : goal.returns-in_default
returns-in_default c =
    let number = c.args.number in
    let not_zero : number ≢ 0 = omega arith in
    let not_one : number ≢ 1 = omega arith in
    let not_two : number ≢ 2 = omega arith in
    asked_written _ [] _ _ _ (nothing_asked number not_zero not_one not_two) (sym (append-nil _))
