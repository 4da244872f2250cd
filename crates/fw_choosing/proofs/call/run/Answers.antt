use Rattle.std.proofs.Common.{sym, ◌∙◌, subst}
use Rattle.std.specs.Prelude.{string_bytes}
use Rattle.fw_outside.specs.declared.fault.OutFault.TheVariants as output
use Rattle.fw_command.specs.Words.{words_in}
use Rattle.fw_command.specs.Writing.{IsCutOff, IsWritten, Writes}
use Rattle.fw_command.proofs.WritingLaws.{writes}
use Rattle.fw_choosing.specs.Words.{choosing_in, choosing_of}
use Rattle.fw_choosing.proofs.CallLaws.{answer-no_fault, cut_off-answers, no_words-answers, no_words-keeps, printed-not_before, unread-answers, words-keeps, written-answers}
use Rattle.fw_choosing.proofs.call.run.Goals as goal

pub returns-in_default-clause-answers : goal.returns-in_default-clause-answers
returns-in_default-clause-answers g c =
    no_words-answers (g.F.Folder.texts c.args.folder.now) (choosing_of (words_in c.args.words.now)) (g.O.Sink.view c.args.out.now) (sym c.in_default.ensures)

pub returns-in_default-clause-folder : goal.returns-in_default-clause-folder
returns-in_default-clause-folder g c =
    no_words-keeps g.F.Folder.texts g.F.Folder.fetch_count g.F.Folder.fault_count (choosing_of (words_in c.args.words.now)) c.args.folder.now (sym c.in_default.ensures)

pub returns-in-Err-clause-answers : goal.returns-in-Err-clause-answers
returns-in-Err-clause-answers g c =
    unread-answers (g.F.Folder.texts c.args.folder.now) (choosing_of (words_in c.args.words.now)) (choosing_in c.in-Some.words) c.in-Err.status (g.O.Sink.view c.args.out.now)
    (sym c.in-Some.ensures) c.in-Err.ensures.unread

pub returns-in-Err-clause-folder : goal.returns-in-Err-clause-folder
returns-in-Err-clause-folder g c =
    words-keeps g.F.Folder.texts g.F.Folder.fetch_count g.F.Folder.fault_count (choosing_of (words_in c.args.words.now)) (choosing_in c.in-Some.words) c.in-Err.status c.args.folder.now c.answer_words.new.folder
    (sym c.in-Some.ensures) c.answer_words.ensures.texts_stay c.answer_words.ensures.asked c.in-Err.ensures.faults

pub returns-in-Ok-write-clause-answers : goal.returns-in-Ok-write-clause-answers
returns-in-Ok-write-clause-answers g c =
    let view = g.O.Sink.view in
    let whole : IsWritten c.as_bytes.result.now (view c.args.out.now) (view c.write.new.self) = record {
      taken = c.in-Ok-write.ensures.whole;
      none_refused = c.in-Ok-write.ensures.refusals;
      none_failed = c.in-Ok-write.ensures.faults;
    } in
    written-answers (g.F.Folder.texts c.args.folder.now) (choosing_of (words_in c.args.words.now)) (choosing_in c.in-Some.words) (string_bytes c.in-Ok.answer.text) c.in-Ok.answer.status (view c.args.out.now) (view c.write.new.self)
    (sym c.in-Some.ensures) c.in-Ok.ensures.answer (subst (λ bytes. IsWritten bytes (view c.args.out.now) (view c.write.new.self)) c.as_bytes.ensures.value whole)

pub returns-in-Ok-write-clause-folder : goal.returns-in-Ok-write-clause-folder
returns-in-Ok-write-clause-folder g c =
    let told = g.F.Folder.texts c.args.folder.now in
    let asked = choosing_in c.in-Some.words in
    let no_fault = answer-no_fault told asked (string_bytes c.in-Ok.answer.text) c.in-Ok.answer.status (g.F.Folder.fault_count c.args.folder.now) c.in-Ok.ensures.answer in
    words-keeps g.F.Folder.texts g.F.Folder.fetch_count g.F.Folder.fault_count (choosing_of (words_in c.args.words.now)) asked c.in-Ok.answer.status c.args.folder.now c.answer_words.new.folder
    (sym c.in-Some.ensures) c.answer_words.ensures.texts_stay c.answer_words.ensures.asked (c.in-Ok.ensures.faults ∙ no_fault)

pub returns-in-Ok-write-clause-nothing_out : goal.returns-in-Ok-write-clause-nothing_out
returns-in-Ok-write-clause-nothing_out g c before =
    absurd (printed-not_before (g.F.Folder.texts c.args.folder.now) (choosing_in c.in-Some.words) (string_bytes c.in-Ok.answer.text) c.in-Ok.answer.status c.in-Ok.ensures.answer before)

pub returns-in-Err-Failed-clause-answers : goal.returns-in-Err-Failed-clause-answers
returns-in-Err-Failed-clause-answers g c =
    let view = g.O.Sink.view in
    let bytes = c.as_bytes.result.now in
    let before = view c.args.out.now in
    let after = view c.write.new.self in
    let all = writes bytes c.write.result before after c.write.ensures.whole c.write.ensures.refused c.write.ensures.refusals c.write.ensures.faults in
    let cut = subst (λ fault. IsCutOff bytes fault before after) c.in-Err-Failed.field-0-is (subst (λ result. Writes bytes result before after) c.in-Err-Failed.is all) in
    cut_off-answers (g.F.Folder.texts c.args.folder.now) (choosing_of (words_in c.args.words.now)) (choosing_in c.in-Some.words) (string_bytes c.in-Ok.answer.text) c.in-Ok.answer.status output.Failed (view c.args.out.now) (view c.write.new.self)
    (sym c.in-Some.ensures) c.in-Ok.ensures.answer (subst (λ bytes. IsCutOff bytes output.Failed (view c.args.out.now) (view c.write.new.self)) c.as_bytes.ensures.value cut)

pub returns-in-Err-Failed-clause-folder : goal.returns-in-Err-Failed-clause-folder
returns-in-Err-Failed-clause-folder g c =
    words-keeps g.F.Folder.texts g.F.Folder.fetch_count g.F.Folder.fault_count (choosing_of (words_in c.args.words.now)) (choosing_in c.in-Some.words) _ c.args.folder.now c.answer_words.new.folder
    (sym c.in-Some.ensures) c.answer_words.ensures.texts_stay c.answer_words.ensures.asked c.in-Ok.ensures.faults

pub returns-clause-answers : goal.returns-clause-answers
returns-clause-answers g c =
    let view = g.O.Sink.view in
    let bytes = c.as_bytes.result.now in
    let before = view c.args.out.now in
    let after = view c.write.new.self in
    let all = writes bytes c.write.result before after c.write.ensures.whole c.write.ensures.refused c.write.ensures.refusals c.write.ensures.faults in
    let cut = subst (λ fault. IsCutOff bytes fault before after) c.in-Err-NoMemory.field-0-is (subst (λ result. Writes bytes result before after) c.in-Err-NoMemory.is all) in
    cut_off-answers (g.F.Folder.texts c.args.folder.now) (choosing_of (words_in c.args.words.now)) (choosing_in c.in-Some.words) (string_bytes c.in-Ok.answer.text) c.in-Ok.answer.status output.NoMemory (view c.args.out.now) (view c.write.new.self)
    (sym c.in-Some.ensures) c.in-Ok.ensures.answer (subst (λ bytes. IsCutOff bytes output.NoMemory (view c.args.out.now) (view c.write.new.self)) c.as_bytes.ensures.value cut)

pub returns-clause-folder : goal.returns-clause-folder
returns-clause-folder g c =
    words-keeps g.F.Folder.texts g.F.Folder.fetch_count g.F.Folder.fault_count (choosing_of (words_in c.args.words.now)) (choosing_in c.in-Some.words) _ c.args.folder.now c.answer_words.new.folder
    (sym c.in-Some.ensures) c.answer_words.ensures.texts_stay c.answer_words.ensures.asked c.in-Ok.ensures.faults
