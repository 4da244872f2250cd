use Rattle.std.proofs.Common.{refl, sym, ap, ◌∙◌}
use Rattle.fw_command.specs.Reading.{read_faults_after}
use Rattle.fw_command.specs.Words.{words_in}
use Rattle.fw_run.specs.declared.status.Status.TheVariants.{BadWords}
use Rattle.fw_live.specs.Words.{live_in, live_of}
use Rattle.fw_live.proofs.CommandLaws.{keeps-asked, keeps-unasked, reads-no_words, reads-session, reads-unread, writes-none, writes-unread}
use Rattle.fw_relive.specs.Call.{records_in}
use Rattle.fw_relive.proofs.CallLaws.{has-digests, has-flow, lasting-no_words, lasting-read, lasting-unread, may-go_on}
use Rattle.fw_relive.proofs.command.run.Goals as goal

pub returns-in_default-clause-answers : goal.returns-in_default-clause-answers
returns-in_default-clause-answers g c =
    lasting-no_words (g.F.Folder.texts c.args.folder.now) (live_of (words_in c.args.words.now)) (g.K.Store.view c.args.store).records
    (g.L.LineSource.given c.args.input.now) (g.L.LineSource.ended c.args.input.now) (g.O.Sink.view c.args.out.now) (sym c.in_default.ensures)

pub returns-in_default-clause-folder : goal.returns-in_default-clause-folder
returns-in_default-clause-folder g c =
    keeps-unasked g.F.Folder.texts g.F.Folder.fetch_count (live_of (words_in c.args.words.now)) c.args.folder.now (sym c.in_default.ensures)

pub returns-in_default-clause-reads : goal.returns-in_default-clause-reads
returns-in_default-clause-reads g c =
    reads-no_words (g.F.Folder.texts c.args.folder.now) (live_of (words_in c.args.words.now)) (g.L.LineSource.given c.args.input.now)
    (record { folder = g.F.Folder.fault_count c.args.folder.now; lines = g.L.LineSource.fault_count c.args.input.now }) (g.O.Sink.view c.args.out.now)

pub returns-in_default-clause-writes : goal.returns-in_default-clause-writes
returns-in_default-clause-writes g c = writes-none BadWords (g.O.Sink.view c.args.out.now) (λ count. refl)

pub start-requires : goal.start-requires
start-requires g c = record {
  may = may-go_on (g.F.Folder.texts c.args.folder.now) (live_of (words_in c.args.words.now)) (live_in c.in-Some.words) c.in-Ok.read.0 c.live_digests-digests.result
      (g.K.Store.view c.args.store).records (sym c.in-Some.ensures) (has-digests c.in-Ok.ensures.flow c.live_digests-digests.ensures) c.requires.may;
}

pub returns-in-Ok-clause-answers : goal.returns-in-Ok-clause-answers
returns-in-Ok-clause-answers g c =
    let view = g.O.Sink.view in
    let input = c.start.new.input in
    lasting-read (g.F.Folder.texts c.args.folder.now) (live_of (words_in c.args.words.now)) (live_in c.in-Some.words) c.in-Ok.read.0 c.live_digests-digests.result
    (g.K.Store.view c.args.store).records (records_in g.K.Store.view c.start.result.store)
    (g.L.LineSource.given c.args.input.now) (g.L.LineSource.given input) (g.L.LineSource.ended input) c.start.result.status (view c.args.out.now)
    (view c.start.new.out) (sym c.in-Some.ensures) (has-digests c.in-Ok.ensures.flow c.live_digests-digests.ensures) c.start.ensures.begun c.start.ensures.answers

pub returns-in-Ok-clause-folder : goal.returns-in-Ok-clause-folder
returns-in-Ok-clause-folder g c =
    keeps-asked g.F.Folder.texts g.F.Folder.fetch_count (live_of (words_in c.args.words.now)) (live_in c.in-Some.words) c.args.folder.now
    c.flow_with_digest.new.folder (sym c.in-Some.ensures) c.flow_with_digest.ensures.texts_stay c.flow_with_digest.ensures.counted

pub returns-in-Ok-clause-reads : goal.returns-in-Ok-clause-reads
returns-in-Ok-clause-reads g c =
    let input = c.start.new.input in
    reads-session (g.F.Folder.texts c.args.folder.now) (live_of (words_in c.args.words.now)) (live_in c.in-Some.words) c.in-Ok.read.0
    (g.L.LineSource.given c.args.input.now) (g.L.LineSource.given input) c.start.result.status (g.F.Folder.fault_count c.args.folder.now)
    (g.F.Folder.fault_count c.flow_with_digest.new.folder) (g.L.LineSource.fault_count c.args.input.now) (g.L.LineSource.fault_count input)
    (g.O.Sink.view c.args.out.now) (g.O.Sink.view c.start.new.out) (sym c.in-Some.ensures)
    (has-flow (has-digests c.in-Ok.ensures.flow c.live_digests-digests.ensures))
    (c.flow_with_digest.ensures.faults ∙ ap (λ read. read_faults_after read (g.F.Folder.fault_count c.args.folder.now)) c.in-Ok.is) c.start.ensures.reads

pub returns-in-Err-clause-answers : goal.returns-in-Err-clause-answers
returns-in-Err-clause-answers g c =
    rw (c.unread.ensures) (lasting-unread (g.F.Folder.texts c.args.folder.now) (live_of (words_in c.args.words.now)) (live_in c.in-Some.words)
    (g.K.Store.view c.args.store).records (g.L.LineSource.given c.args.input.now) (g.L.LineSource.ended c.args.input.now) c.in-Err.fault
    (g.O.Sink.view c.args.out.now) (sym c.in-Some.ensures) c.in-Err.ensures.refused)

pub returns-in-Err-clause-folder : goal.returns-in-Err-clause-folder
returns-in-Err-clause-folder g c =
    keeps-asked g.F.Folder.texts g.F.Folder.fetch_count (live_of (words_in c.args.words.now)) (live_in c.in-Some.words) c.args.folder.now
    c.flow_with_digest.new.folder (sym c.in-Some.ensures) c.flow_with_digest.ensures.texts_stay c.flow_with_digest.ensures.counted

pub returns-in-Err-clause-reads : goal.returns-in-Err-clause-reads
returns-in-Err-clause-reads g c =
    rw (c.unread.ensures) (reads-unread c.flow_with_digest.result (g.F.Folder.texts c.args.folder.now) (live_of (words_in c.args.words.now))
    (g.L.LineSource.given c.args.input.now) c.in-Err.fault (g.F.Folder.fault_count c.args.folder.now)
    (g.F.Folder.fault_count c.flow_with_digest.new.folder) (g.L.LineSource.fault_count c.args.input.now) (g.O.Sink.view c.args.out.now) c.in-Err.is
    c.flow_with_digest.ensures.faults)

pub returns-in-Err-clause-writes : goal.returns-in-Err-clause-writes
returns-in-Err-clause-writes g c = rw (c.unread.ensures) (writes-unread c.in-Err.fault (g.O.Sink.view c.args.out.now))
