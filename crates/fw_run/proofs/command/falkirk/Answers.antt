use Rattle.fw_run.proofs.AnswerLaws.{answers-told}
use Rattle.fw_run.proofs.CountLaws.{never_fall-notes}
use Rattle.fw_run.proofs.HeadlineLaws.{texts-headline}
use Rattle.fw_run.proofs.HeldLaws.{held-told}
use Rattle.fw_run.specs.Answers.{known_by, outside_of}
use Rattle.fw_unsplit.proofs.SameLaws.{accepted-plain}
use Rattle.fw_run.specs.Call.{call_of}
use Rattle.fw_run.proofs.command.falkirk.Goals as goal

pub returns-clause-answers : goal.returns-clause-answers
returns-clause-answers g c none =
    answers-told (known_by g.F.Folder.texts g.F.Folder.fetch_count g.F.Folder.fault_count g.K.Store.view g.O.Sink.view) (call_of c.args.words.now (g.F.Folder.texts c.run_or_hold-status.new.folder))
    (outside_of c.args.folder.now c.args.store.now c.args.out.now) c.run_or_hold-status.result c.tell.result (outside_of c.run_or_hold-status.new.folder c.run_or_hold-status.new.store c.run_or_hold-status.new.out) c.tell.ensures.status
    (c.run_or_hold-status.ensures.answers none)

pub returns-clause-held : goal.returns-clause-held
returns-clause-held g c names is =
    held-told (known_by g.F.Folder.texts g.F.Folder.fetch_count g.F.Folder.fault_count g.K.Store.view g.O.Sink.view) names
    (outside_of c.args.folder.now c.args.store.now c.args.out.now) c.run_or_hold-status.result c.tell.result (outside_of c.run_or_hold-status.new.folder c.run_or_hold-status.new.store c.run_or_hold-status.new.out) c.tell.ensures.status
    (c.run_or_hold-status.ensures.held names is)

pub returns-clause-headline : goal.returns-clause-headline
returns-clause-headline g c = texts-headline

pub returns-clause-without_the_word : goal.returns-clause-without_the_word
returns-clause-without_the_word g c = accepted-plain

pub returns-clause-never_fall : goal.returns-clause-never_fall
returns-clause-never_fall g c = never_fall-notes _ (g.N.Sink.view c.args.notes.now) (g.N.Sink.view c.tell.new.notes) c.tell.ensures.notes.told
