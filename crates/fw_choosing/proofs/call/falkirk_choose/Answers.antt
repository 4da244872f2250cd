use Rattle.std.proofs.Common.{ap}
use Rattle.fw_command.specs.Words.{words_in}
use Rattle.fw_choosing.specs.Words.{choosing_of}
use Rattle.fw_choosing.proofs.CallLaws.{named-before, noted-never_fall, told-answers, told-before, told-keeps}
use Rattle.fw_choosing.proofs.call.falkirk_choose.Goals as goal

pub returns-clause-answers : goal.returns-clause-answers
returns-clause-answers g c =
    let view = g.O.Sink.view in
    told-answers (g.F.Folder.texts c.args.folder.now) (choosing_of (words_in c.args.words.now)) c.run-status.result c.tell.result (view c.args.out.now) (view c.run-status.new.out)
    c.run-status.ensures.answers (λ names. ap view (c.run-status.ensures.nothing_out (named-before c.run-status.result names))) c.tell.ensures.status

pub returns-clause-folder : goal.returns-clause-folder
returns-clause-folder g c =
    told-keeps g.F.Folder.texts g.F.Folder.fetch_count g.F.Folder.fault_count (choosing_of (words_in c.args.words.now)) c.run-status.result c.tell.result c.args.folder.now c.run-status.new.folder
    c.run-status.ensures.folder c.tell.ensures.status

pub returns-clause-nothing_out : goal.returns-clause-nothing_out
returns-clause-nothing_out g c before = c.run-status.ensures.nothing_out (told-before c.run-status.result c.tell.result c.tell.ensures.status before)

pub returns-clause-never_fall : goal.returns-clause-never_fall
returns-clause-never_fall g c = noted-never_fall _ (g.N.Sink.view c.args.notes.now) (g.N.Sink.view c.tell.new.notes) c.tell.ensures.notes.told
