use Rattle.std.proofs.Common.{◌≡◌, subst}
use Rattle.fw_engine.specs.Engine.{flow_of}
use Rattle.fw_session.specs.Story.{IsStory}
use Rattle.fw_command.specs.Writing.{IsWritten}
use Rattle.fw_live.specs.Call.{EndsBefore, EndsWhole, IsLineCutAt, status_by}
use Rattle.fw_live.specs.Life.{counts_line}
use Rattle.fw_live.specs.Serving.{LivePoint}
use Rattle.fw_live.proofs.CommandLaws.{session-ended, session-stopped, writes-last, writes-more}
use Rattle.fw_relive.proofs.AnswersLaws.{answers-served, answers-stopped}
use Rattle.fw_relive.proofs.CallLaws.{stopped-begun, stopped-no_root}
use Rattle.fw_relive.proofs.command.answer_all.Goals as goal

pub returns-in-Ok-clause-answers : goal.returns-in-Ok-clause-answers
returns-in-Ok-clause-answers g c = λ story kept none at keeps told.
    let view = g.O.Sink.view in
    let old = c.args.live.now in
    let new = c.serve.new.live in
    let input = c.serve.new.input in
    let before : LivePoint = record {
      counts = old.counts;
      records = g.S.Living.records old.session;
      faults = g.S.Living.fault_count old.session;
      At = λ s k. g.S.Living.at old.session s × g.S.Living.keeps old.session s k;
    } in
    let after : LivePoint = record {
      counts = new.counts;
      records = g.S.Living.records new.session;
      faults = g.S.Living.fault_count new.session;
      At = λ s k. g.S.Living.at new.session s × g.S.Living.keeps new.session s k;
    } in
    let mid = view c.serve.new.out in
    let last = view c.end.new.out in
    answers-served old.rests (flow_of (g.S.Living.engine_of old.session)) before after story kept (g.L.LineSource.given c.args.input.now)
    (g.L.LineSource.given input) (g.L.LineSource.ended input) c.end.result (view c.args.out.now) mid last none (at, keeps) told
    (λ s k there. subst (λ d. IsStory d s) c.serve.ensures.flow (c.is_at_stories.ensures s there.0)) c.in-Ok.ensures.served c.in-Ok.ensures.ended
    (subst (λ k. EndsWhole c.end.result → (c.end.result ≡ status_by k) × IsWritten (counts_line k) mid last) c.counts.ensures c.end.ensures.whole)
    (subst (λ k. EndsBefore c.end.result → IsLineCutAt c.end.result (counts_line k) mid last) c.counts.ensures c.end.ensures.part) c.end.ensures.begun
    c.end.ensures.no_root

pub returns-in-Err-clause-answers : goal.returns-in-Err-clause-answers
returns-in-Err-clause-answers g c = λ story kept none at keeps told.
    let view = g.O.Sink.view in
    let old = c.args.live.now in
    let new = c.serve.new.live in
    let input = c.serve.new.input in
    let before : LivePoint = record {
      counts = old.counts;
      records = g.S.Living.records old.session;
      faults = g.S.Living.fault_count old.session;
      At = λ s k. g.S.Living.at old.session s × g.S.Living.keeps old.session s k;
    } in
    rw (c.stopped.ensures) (answers-stopped old.rests (flow_of (g.S.Living.engine_of old.session)) before (g.S.Living.records new.session)
    (g.S.Living.fault_count new.session) (λ s k. g.S.Living.at new.session s × g.S.Living.keeps new.session s k) story kept
    (g.L.LineSource.given c.args.input.now) (g.L.LineSource.given input) (g.L.LineSource.ended input) c.in-Err.fault (view c.args.out.now)
    (view c.serve.new.out) none (at, keeps) told c.in-Err.ensures.part)

pub returns-in-Ok-clause-reads : goal.returns-in-Ok-clause-reads
returns-in-Ok-clause-reads g c =
    let input = c.serve.new.input in
    session-ended c.end.result (counts_line c.counts.result) (g.L.LineSource.given c.args.input.now) (g.L.LineSource.given input)
    (g.L.LineSource.fault_count c.args.input.now) (g.L.LineSource.fault_count input) (g.O.Sink.view c.serve.new.out) (g.O.Sink.view c.end.new.out)
    c.end.ensures.part c.in-Ok.ensures.lines

pub returns-in-Ok-clause-writes : goal.returns-in-Ok-clause-writes
returns-in-Ok-clause-writes g c =
    writes-more c.end.result (g.O.Sink.view c.args.out.now) (g.O.Sink.view c.serve.new.out) (g.O.Sink.view c.end.new.out) c.in-Ok.ensures.writes
    (writes-last c.end.result (counts_line c.counts.result) (g.O.Sink.view c.serve.new.out) (g.O.Sink.view c.end.new.out)
    (λ e. (c.end.ensures.whole e).1) c.end.ensures.part c.end.ensures.begun c.end.ensures.no_root)

pub returns-in-Err-clause-reads : goal.returns-in-Err-clause-reads
returns-in-Err-clause-reads g c =
    let input = c.serve.new.input in
    rw (c.stopped.ensures) (session-stopped c.in-Err.fault (g.L.LineSource.given c.args.input.now) (g.L.LineSource.given input)
    (g.L.LineSource.fault_count c.args.input.now) (g.L.LineSource.fault_count input) c.in-Err.ensures.lines_failed)

pub returns-in-Err-clause-writes : goal.returns-in-Err-clause-writes
returns-in-Err-clause-writes g c = rw (c.stopped.ensures) c.in-Err.ensures.writes_failed

pub returns-in-Err-clause-no_root : goal.returns-in-Err-clause-no_root
returns-in-Err-clause-no_root g c = rw (c.stopped.ensures) (stopped-no_root c.in-Err.fault)

pub returns-in-Err-clause-begun : goal.returns-in-Err-clause-begun
returns-in-Err-clause-begun g c = rw (c.stopped.ensures) (stopped-begun c.in-Err.fault)
