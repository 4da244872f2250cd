use Rattle.std.proofs.Common.{◌≡◌, ◌∙◌, inr, [], Err, refl, ap, subst, sym}
use Rattle.std.specs.Option.{ForSome}
use Rattle.std.specs.Prelude.{IsSome}
use Rattle.fw_engine.specs.Engine.{flow_of}
use Rattle.fw_lasting.specs.Starting.{HoldsSome}
use Rattle.fw_lasting.specs.UnderWay.{IsUnderWay}
use Rattle.fw_lasting.proofs.LivingLaws.{some-under}
use Rattle.fw_live.proofs.CommandLaws.{writes-more}
use Rattle.fw_command.specs.Writing.{IsWritten}
use Rattle.fw_relive.specs.Call.{KeepsAtEnd, records_in}
use Rattle.fw_relive.specs.Opening.{CutsOpening, lines_found, opened_text, restart_in}
use Rattle.fw_relive.proofs.AnswersLaws.{answers-opened, answers-over, opens-not}
use Rattle.fw_relive.proofs.CallLaws.{one-some, session-stopped_before, some-at_end, stopped-begun, stopped-no_root}
use Rattle.fw_relive.proofs.command.go_on.Goals as goal

pub returns-in-Ok-clause-answers : goal.returns-in-Ok-clause-answers
returns-in-Ok-clause-answers g c = λ kept first under told.
    let view = g.K.Store.view in
    let out = g.O.Sink.view in
    let old = c.args.session in
    let new = c.open.new.session in
    let input = c.answer_on.new.input in
    let found = restart_in c.args.resumed.now in
    let given = g.L.LineSource.given c.args.input.now in
    let gives = g.L.LineSource.given input in
    let ended = g.L.LineSource.ended input in
    let status = c.answer_on.result.status in
    let tells = records_in view c.answer_on.result.store in
    let opened = c.in-Ok.ensures.opened first (kept, under) in
    let digests = one-some new.digests old.digests c.open.ensures.texts in
    let Kept = KeepsAtEnd (flow_of new.engine.engine) new.digests tells in
    inr (answers-opened c.args.rests (flow_of old.engine.engine) (opened_text (flow_of old.engine.engine) first found) (lines_found found) first
    Kept (KeepsAtEnd (flow_of old.engine.engine) old.digests tells) given gives ended status (out c.args.out.now)
    (out c.open.new.out) (out c.answer_on.new.out)
    (λ s k keeps. subst (λ f. KeepsAtEnd f old.digests tells s k) c.open.ensures.flow
    (subst (λ d. KeepsAtEnd (flow_of new.engine.engine) d tells s k) digests keeps)) opened.2
    (answers-over c.args.rests c.args.rests (flow_of new.engine.engine) (flow_of old.engine.engine) [] (lines_found found) first Kept Kept given gives
    ended status (out c.open.new.out) (out c.answer_on.new.out) refl c.open.ensures.flow (λ s k keeps. keeps)
    (c.answer_on.ensures.answers first (lines_found found) opened.1.0 opened.1.1 told)))

pub returns-in-Ok-clause-left : goal.returns-in-Ok-clause-left
returns-in-Ok-clause-left g c = λ kept first under.
    let view = g.K.Store.view in
    let old = c.args.session in
    let new = c.open.new.session in
    let tells = records_in view c.answer_on.result.store in
    let found = restart_in c.args.resumed.now in
    let opened = c.in-Ok.ensures.opened first (kept, under) in
    some-at_end (flow_of new.engine.engine) (flow_of old.engine.engine) new.digests old.digests tells tells c.open.ensures.flow
    (one-some new.digests old.digests c.open.ensures.texts) refl (c.answer_on.ensures.left first (lines_found found) opened.1.0 opened.1.1)

pub returns-in-Ok-clause-told_before : goal.returns-in-Ok-clause-told_before
returns-in-Ok-clause-told_before g c = λ told. c.open.ensures.told_before (c.answer_on.ensures.told_before told)

pub returns-in-Ok-clause-writes : goal.returns-in-Ok-clause-writes
returns-in-Ok-clause-writes g c =
    writes-more c.answer_on.result.status (g.O.Sink.view c.args.out.now) (g.O.Sink.view c.open.new.out) (g.O.Sink.view c.answer_on.new.out)
    c.in-Ok.ensures.writes c.answer_on.ensures.writes

pub returns-in-Err-clause-answers : goal.returns-in-Err-clause-answers
returns-in-Err-clause-answers g c = λ kept first under told.
    let view = g.K.Store.view in
    let out = g.O.Sink.view in
    let old = c.args.session in
    let found = restart_in c.args.resumed.now in
    rw (c.stopped.ensures) (opens-not c.args.rests (flow_of old.engine.engine) found first
    (KeepsAtEnd (flow_of old.engine.engine) old.digests (view c.into_store.result).records) (g.L.LineSource.given c.args.input.now)
    (g.L.LineSource.ended c.args.input.now) c.in-Err.fault (out c.args.out.now) (out c.open.new.out) under.at.of_story
    (c.in-Err.ensures.cut first (kept, under)))

pub returns-in-Err-clause-left : goal.returns-in-Err-clause-left
returns-in-Err-clause-left g c = λ kept first under held is.
    let view = g.K.Store.view in
    let old = c.args.session in
    let new = c.open.new.session in
    let records = ap (λ store. (view store).records) c.into_store.ensures in
    some-at_end (flow_of new.engine.engine) (flow_of old.engine.engine) new.digests old.digests (view new.store).records
    (view c.into_store.result).records c.open.ensures.flow (one-some new.digests old.digests c.open.ensures.texts) records
    (c.open.ensures.left first (kept, under) (some-under old.digests old.engine.engine old.arrivals (view old.store).records old.turn kept first under)
    (subst IsSome records (subst IsSome (sym is) refl))) held is

pub returns-in-Err-clause-told_before : goal.returns-in-Err-clause-told_before
returns-in-Err-clause-told_before g c = λ told.
    c.open.ensures.told_before (subst IsSome (ap (λ store. (g.K.Store.view store).records) c.into_store.ensures) told)

pub returns-in-Err-clause-no_root : goal.returns-in-Err-clause-no_root
returns-in-Err-clause-no_root g c = rw (c.stopped.ensures) (stopped-no_root c.in-Err.fault)

pub returns-in-Err-clause-begun : goal.returns-in-Err-clause-begun
returns-in-Err-clause-begun g c = rw (c.stopped.ensures) (stopped-begun c.in-Err.fault)

pub returns-in-Err-clause-reads : goal.returns-in-Err-clause-reads
returns-in-Err-clause-reads g c =
    rw (c.stopped.ensures) (session-stopped_before c.in-Err.fault (g.L.LineSource.given c.args.input.now) (g.L.LineSource.fault_count c.args.input.now)
    (λ e. c.open.ensures.no_read (c.in-Err.is ∙ e)))

pub returns-in-Err-clause-writes : goal.returns-in-Err-clause-writes
returns-in-Err-clause-writes g c = rw (c.stopped.ensures) c.in-Err.ensures.writes_failed
