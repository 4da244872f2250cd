use Rattle.std.proofs.Common.{◌≡◌, Err, refl, ap, subst, ◌∙◌}
use Rattle.fw_engine.specs.Engine.{flow_of}
use Rattle.fw_session.specs.Session.{IsAt}
use Rattle.fw_session.specs.Story.{IsStory}
use Rattle.fw_command.specs.Writing.{IsWritten}
use Rattle.fw_run.specs.Call.{CountsWrites}
use Rattle.fw_live.specs.Call.{CountsSession, EndsBefore, EndsWhole, IsLineCutAt, status_by}
use Rattle.fw_live.specs.Life.{counts_line}
use Rattle.fw_live.specs.Serving.{IsPutBefore, Serves, ServesPart, LivePoint}
use Rattle.fw_live.proofs.CommandLaws.{flow-served, flow-stopped, session-ended, session-stopped, stopped-before, writes-last, writes-more}
use Rattle.fw_live.proofs.command.answer_all.Goals as goal

pub returns-in-Ok-clause-answers : goal.returns-in-Ok-clause-answers
returns-in-Ok-clause-answers g c = λ flow is none at.
    let view = g.O.Sink.view in
    let old = c.args.live in
    let new = c.serve.new.live in
    let input = c.serve.new.input in
    let K = g.K.Store.view in
    let before : LivePoint = record {
      counts = old.counts;
      records = (K old.session.store).records;
      faults = (K old.session.store).faults;
      At = λ s kept. IsAt old.session.engine (K old.session.store).records old.session.arrivals s
          × IsAt old.session.engine (K old.session.store).records old.session.arrivals s;
    } in
    let after : LivePoint = record {
      counts = new.counts;
      records = (K new.session.store).records;
      faults = (K new.session.store).faults;
      At = λ s kept. IsAt new.session.engine (K new.session.store).records new.session.arrivals s
          × IsAt new.session.engine (K new.session.store).records new.session.arrivals s;
    } in
    let first = view c.args.out.now in
    let mid = view c.serve.new.out in
    let given = g.L.LineSource.given c.args.input.now in
    let gives = g.L.LineSource.given input in
    flow-served K old.rests flow before after old.session.store new.session.store given gives (g.L.LineSource.ended input) c.end.result first mid (view c.end.new.out) none
    (at, at) refl refl refl (λ s kept there. subst (λ d. IsStory d s) (c.serve.ensures.flow ∙ is) there.0.of_story)
    (subst (λ d. Serves old.rests d before after given gives (λ text. IsWritten text first mid)) is c.in-Ok.ensures.served) c.in-Ok.ensures.ended
    (subst (λ k. EndsWhole c.end.result → (c.end.result ≡ status_by k) × IsWritten (counts_line k) mid (view c.end.new.out)) c.counts.ensures c.end.ensures.whole)
    (subst (λ k. EndsBefore c.end.result → IsLineCutAt c.end.result (counts_line k) mid (view c.end.new.out)) c.counts.ensures c.end.ensures.part) c.end.ensures.begun c.end.ensures.no_root

pub returns-clause-answers : goal.returns-clause-answers
returns-clause-answers g c = λ flow is none at.
    let view = g.O.Sink.view in
    let old = c.args.live in
    let new = c.serve.new.live in
    let input = c.serve.new.input in
    let K = g.K.Store.view in
    let before : LivePoint = record {
      counts = old.counts;
      records = (K old.session.store).records;
      faults = (K old.session.store).faults;
      At = λ s kept. IsAt old.session.engine (K old.session.store).records old.session.arrivals s
          × IsAt old.session.engine (K old.session.store).records old.session.arrivals s;
    } in
    let first = view c.args.out.now in
    let last = view c.serve.new.out in
    let given = g.L.LineSource.given c.args.input.now in
    let gives = g.L.LineSource.given input in
    let fault = c.in-Err.fault in
    rw (c.stopped.ensures) (flow-stopped K old.rests flow before old.session.store new.session.store given gives (g.L.LineSource.ended input) fault
    first last none (at, at) refl
    (subst (λ d. ServesPart old.rests d before (K new.session.store).records (K new.session.store).faults fault given gives (IsPutBefore d before.counts fault first last)) is c.in-Err.ensures.part)
    (stopped-before fault (λ e. c.serve.ensures.lasts refl (c.in-Err.is ∙ ap Err e))))

pub returns-in-Ok-clause-reads : goal.returns-in-Ok-clause-reads
returns-in-Ok-clause-reads g c =
    let input = c.serve.new.input in
    session-ended c.end.result (counts_line c.counts.result) (g.L.LineSource.given c.args.input.now) (g.L.LineSource.given input)
    (g.L.LineSource.fault_count c.args.input.now) (g.L.LineSource.fault_count input) (g.O.Sink.view c.serve.new.out) (g.O.Sink.view c.end.new.out)
    c.end.ensures.part c.in-Ok.ensures.lines

pub returns-in-Ok-clause-writes : goal.returns-in-Ok-clause-writes
returns-in-Ok-clause-writes g c =
    writes-more c.end.result (g.O.Sink.view c.args.out.now) (g.O.Sink.view c.serve.new.out) (g.O.Sink.view c.end.new.out) c.in-Ok.ensures.writes
    (writes-last c.end.result (counts_line c.counts.result) (g.O.Sink.view c.serve.new.out) (g.O.Sink.view c.end.new.out)
    (λ e. (c.end.ensures.whole e).1) c.end.ensures.part c.end.ensures.begun c.end.ensures.no_root)

pub returns-clause-reads : goal.returns-clause-reads
returns-clause-reads g c =
    let input = c.serve.new.input in
    rw (c.stopped.ensures) (session-stopped c.in-Err.fault (g.L.LineSource.given c.args.input.now) (g.L.LineSource.given input)
    (g.L.LineSource.fault_count c.args.input.now) (g.L.LineSource.fault_count input) c.in-Err.ensures.lines_failed)

pub returns-clause-writes : goal.returns-clause-writes
returns-clause-writes g c = rw (c.stopped.ensures) c.in-Err.ensures.writes_failed
