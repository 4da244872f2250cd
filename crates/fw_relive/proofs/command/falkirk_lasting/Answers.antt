use Rattle.fw_command.specs.Words.{words_in}
use Rattle.fw_run.proofs.CountLaws.{never_fall-notes, writes_told}
use Rattle.fw_live.specs.Words.{live_of}
use Rattle.fw_live.proofs.CommandLaws.{reads-told}
use Rattle.fw_relive.specs.Call.{records_in}
use Rattle.fw_relive.proofs.CallLaws.{gives_back-told, lasting-told}
use Rattle.fw_relive.proofs.command.falkirk_lasting.Goals as goal

pub returns-clause-answers : goal.returns-clause-answers
returns-clause-answers g c =
    let view = g.O.Sink.view in
    let input = c.run-ended.new.input in
    lasting-told (g.F.Folder.texts c.args.folder.now) (live_of (words_in c.args.words.now)) (g.K.Store.view c.args.store).records
    (records_in g.K.Store.view c.run-ended.result.store) (g.L.LineSource.given c.args.input.now)
    (g.L.LineSource.given input) (g.L.LineSource.ended input) c.run-ended.result.status c.tell.result (view c.args.out.now) (view c.run-ended.new.out)
    c.tell.ensures.status c.run-ended.ensures.answers

pub returns-clause-never_fall : goal.returns-clause-never_fall
returns-clause-never_fall g c = never_fall-notes _ (g.N.Sink.view c.args.notes.now) (g.N.Sink.view c.tell.new.notes) c.tell.ensures.notes.told

pub returns-clause-reads : goal.returns-clause-reads
returns-clause-reads g c =
    let input = c.run-ended.new.input in
    reads-told (g.F.Folder.texts c.args.folder.now) (live_of (words_in c.args.words.now)) (g.L.LineSource.given c.args.input.now)
    (g.L.LineSource.given input) c.run-ended.result.status c.tell.result
    (record { folder = g.F.Folder.fault_count c.args.folder.now; lines = g.L.LineSource.fault_count c.args.input.now })
    (record { folder = g.F.Folder.fault_count c.run-ended.new.folder; lines = g.L.LineSource.fault_count input }) (g.O.Sink.view c.args.out.now)
    (g.O.Sink.view c.run-ended.new.out) c.tell.ensures.status c.run-ended.ensures.reads

pub returns-clause-writes : goal.returns-clause-writes
returns-clause-writes g c =
    writes_told c.run-ended.result.status c.tell.result (g.O.Sink.view c.args.out.now) (g.O.Sink.view c.run-ended.new.out) c.tell.ensures.status
    c.run-ended.ensures.writes

pub returns-clause-store : goal.returns-clause-store
returns-clause-store g c =
    gives_back-told c.run-ended.result.store c.run-ended.result.status c.tell.result (g.L.LineSource.given c.args.input.now)
    (g.L.LineSource.given c.run-ended.new.input) c.tell.ensures.status c.run-ended.ensures.store
