use Rattle.std.proofs.Common.{rules, ◌≡◌, Err, refl, sym, ap, subst}
use Rattle.fw_run.proofs.AnswerLaws.{answers-done, answers-fault, answers-no_words, answers-not_read, answers-unread}
use Rattle.fw_command.specs.declared.reading.JobFault.TheVariants as job
use Rattle.fw_run.proofs.CallLaws.{folder_read, store_for}
use Rattle.fw_run.specs.declared.status.Status.{Status}
use Rattle.fw_run.specs.Answers.{RunAnswers, known_by, outside_of}
use Rattle.fw_run.specs.Call.{call_of}
use Rattle.fw_run.specs.Work.{IsWork}
use Rattle.fw_command.specs.Texts.{Refuses}
use Rattle.fw_command.specs.Words.{command_in, command_of, words_in}
use Rattle.fw_run.proofs.run.run.Goals as goal

-- the store holds no record
pub print_work-requires-clause-store : goal.print_work-requires-clause-store
print_work-requires-clause-store g c = store_for c.in-Ok.work (g.K.Store.view c.args.store.now).records c.requires

-- the words are no command
pub returns-in-Ok-None : goal.returns-in-Ok-None
returns-in-Ok-None g c =
    answers-no_words (known_by g.F.Folder.texts g.F.Folder.fetch_count g.F.Folder.fault_count g.K.Store.view g.O.Sink.view) (call_of c.args.words.now (g.F.Folder.texts c.args.folder.now))
    c.args.folder.now c.args.store.now c.args.out.now (sym (rw c.in-Ok-None.field-0-is at c.in-Ok-None.ensures.command))

-- there was no memory to read them
pub returns-in-Err : goal.returns-in-Err
returns-in-Err g c =
    answers-unread (known_by g.F.Folder.texts g.F.Folder.fetch_count g.F.Folder.fault_count g.K.Store.view g.O.Sink.view) (call_of c.args.words.now (g.F.Folder.texts c.args.folder.now))
    c.args.folder.now c.args.store.now c.args.out.now (c.in-Err.ensures.no_memory refl)

pub returns-in-Err-Failed : goal.returns-in-Err-Failed
returns-in-Err-Failed g c =
    let folder = c.args.folder.now in
    let read = c.read_work.new.folder in
    let texts = g.F.Folder.texts in
    let known = known_by texts g.F.Folder.fetch_count g.F.Folder.fault_count g.K.Store.view g.O.Sink.view in
    let command = command_in c.in-Ok-Some.command in
    let words = sym (rw c.in-Ok-Some.field-0-is at c.in-Ok-Some.ensures.command) in
    answers-not_read known (call_of c.args.words.now (texts read)) command job.Failed folder read c.args.store.now c.args.out.now words tt (rw c.in-Err-Failed.field-0-is at c.in-Err-Failed.ensures.faults)
    (folder_read texts g.F.Folder.fetch_count (command_of (words_in c.args.words.now)) command _ folder read words c.read_work.ensures.texts_stay c.read_work.ensures.stays c.read_work.ensures.asked_no_more)

pub returns-in-Err-Refused : goal.returns-in-Err-Refused
returns-in-Err-Refused g c =
    let folder = c.args.folder.now in
    let read = c.read_work.new.folder in
    let texts = g.F.Folder.texts in
    let known = known_by texts g.F.Folder.fetch_count g.F.Folder.fault_count g.K.Store.view g.O.Sink.view in
    let command = command_in c.in-Ok-Some.command in
    let words = sym (rw c.in-Ok-Some.field-0-is at c.in-Ok-Some.ensures.command) in
    let h = answers-not_read known (call_of c.args.words.now (texts read)) command (job.Refused c.in-Err-Refused.refusal) folder read c.args.store.now c.args.out.now words (subst (λ told. Refuses told command.texts c.in-Err-Refused.refusal) (sym c.read_work.ensures.texts_stay) (rw c.in-Err-Refused.field-0-is at c.in-Err-Refused.ensures.refused)) (rw c.in-Err-Refused.field-0-is at c.in-Err-Refused.ensures.faults)
    (folder_read texts g.F.Folder.fetch_count (command_of (words_in c.args.words.now)) command _ folder read words c.read_work.ensures.texts_stay c.read_work.ensures.stays c.read_work.ensures.asked_no_more) in
    search rules

pub returns-in-Err-NoMemory : goal.returns-in-Err-NoMemory
returns-in-Err-NoMemory g c =
    let folder = c.args.folder.now in
    let read = c.read_work.new.folder in
    let texts = g.F.Folder.texts in
    let known = known_by texts g.F.Folder.fetch_count g.F.Folder.fault_count g.K.Store.view g.O.Sink.view in
    let command = command_in c.in-Ok-Some.command in
    let words = sym (rw c.in-Ok-Some.field-0-is at c.in-Ok-Some.ensures.command) in
    answers-not_read known (call_of c.args.words.now (texts read)) command job.NoMemory folder read c.args.store.now c.args.out.now words tt (rw c.in-Err-NoMemory.field-0-is at c.in-Err-NoMemory.ensures.faults)
    (folder_read texts g.F.Folder.fetch_count (command_of (words_in c.args.words.now)) command _ folder read words c.read_work.ensures.texts_stay c.read_work.ensures.stays c.read_work.ensures.asked_no_more)

pub returns-in-Ok-print_work : goal.returns-in-Ok-print_work
returns-in-Ok-print_work g c =
    let folder = c.args.folder.now in
    let read = c.read_work.new.folder in
    let texts = g.F.Folder.texts in
    let known = known_by texts g.F.Folder.fetch_count g.F.Folder.fault_count g.K.Store.view g.O.Sink.view in
    let command = command_in c.in-Ok-Some.command in
    let words = sym (rw c.in-Ok-Some.field-0-is at c.in-Ok-Some.ensures.command) in
    answers-done known (call_of c.args.words.now (texts read)) command c.in-Ok.work folder read c.args.store.now c.print_work.new.store c.args.out.now c.print_work.new.out words
    (subst (λ told. IsWork told command c.in-Ok.work) (sym c.read_work.ensures.texts_stay) c.in-Ok.ensures.work) c.in-Ok-print_work.ensures.ends c.print_work.ensures.told_before c.print_work.ensures.store_stays c.in-Ok.ensures.faults
    (folder_read texts g.F.Folder.fetch_count (command_of (words_in c.args.words.now)) command _ folder read words c.read_work.ensures.texts_stay c.read_work.ensures.stays c.read_work.ensures.asked_no_more)

pub returns-in-Err-print_work : goal.returns-in-Err-print_work
returns-in-Err-print_work g c =
    let folder = c.args.folder.now in
    let read = c.read_work.new.folder in
    let texts = g.F.Folder.texts in
    let known = known_by texts g.F.Folder.fetch_count g.F.Folder.fault_count g.K.Store.view g.O.Sink.view in
    let command = command_in c.in-Ok-Some.command in
    let words = sym (rw c.in-Ok-Some.field-0-is at c.in-Ok-Some.ensures.command) in
    let call = call_of c.args.words.now (texts read) in
    let fault = c.in-Err-print_work.fault in
    subst (λ (status : Status). RunAnswers known call (outside_of folder c.args.store.now c.args.out.now) status (outside_of read c.print_work.new.store c.print_work.new.out)) (sym c.status_of.ensures)
    (answers-fault known call command c.in-Ok.work fault folder read c.args.store.now c.print_work.new.store c.args.out.now c.print_work.new.out words
    (subst (λ told. IsWork told command c.in-Ok.work) (sym c.read_work.ensures.texts_stay) c.in-Ok.ensures.work) c.in-Err-print_work.ensures.ends c.print_work.ensures.told_before c.print_work.ensures.store_stays
    (λ engine e. c.in-Err-print_work.ensures.nothing_told engine (ap (λ f. Err f) e)) c.in-Ok.ensures.faults
    (folder_read texts g.F.Folder.fetch_count (command_of (words_in c.args.words.now)) command _ folder read words c.read_work.ensures.texts_stay c.read_work.ensures.stays c.read_work.ensures.asked_no_more))
