use Rattle.std.proofs.Common.{Option, Some, subst, sym}
use Rattle.std.specs.Option.{ForSome}
use Rattle.std.specs.Prelude.{IsSome}
use Rattle.fw_engine.specs.Engine.{flow_of}
use Rattle.fw_session.specs.Story.{Story}
use Rattle.fw_lasting.specs.Starting.{HoldsSome}
use Rattle.fw_lasting.specs.UnderWay.{IsUnderWay}
use Rattle.fw_live.specs.Call.{CountsSession}
use Rattle.fw_run.specs.Call.{CountsWrites}
use Rattle.fw_relive.specs.Call.{KeepsAtEnd, OpensAt, records_in}
use Rattle.fw_relive.specs.Opening.{restart_in}
use Rattle.fw_relive.proofs.CallLaws.{ends-started, ends-unstarted, session-unstarted, start-stays, unstarted-begun, writes-unstarted}
use Rattle.fw_relive.proofs.command.start.Goals as goal

pub returns-in-Ok-clause-answers : goal.returns-in-Ok-clause-answers
returns-in-Ok-clause-answers g c =
    let view = g.K.Store.view in
    let out = g.O.Sink.view in
    let session = c.in-Ok.session in
    let input = c.go_on.new.input in
    let begun = (view session.store).records in
    let tells = records_in view c.go_on.result.store in
    let given = g.L.LineSource.given c.args.input.now in
    let gives = g.L.LineSource.given input in
    let ended = g.L.LineSource.ended input in
    let status = c.go_on.result.status in
    ends-started c.args.rests c.args.flow c.args.digests (view c.args.store).records begun tells c.in-Ok.resumed
    (λ kept now. IsUnderWay c.args.digests session.engine.engine session.arrivals begun session.turn kept now) given gives ended status
    (out c.args.out.now) (out c.go_on.new.out) c.requires.may c.go_on.ensures.told_before c.in-Ok.ensures.told_before
    (λ story turn next held is holds told.
    let s = c.in-Ok.ensures.begun story turn next held is holds told in
    (s.now, s.goes_on, subst (λ d. IsUnderWay d session.engine.engine session.arrivals begun session.turn story s.now) c.in-Ok.ensures.digests s.under_way))
    c.in-Ok.ensures.tells c.in-Ok.ensures.foreign
    (λ kept first under told.
    subst (λ d. OpensAt c.args.rests d (restart_in c.in-Ok.resumed) first (KeepsAtEnd d c.args.digests tells) given gives ended status (out c.args.out.now)
    (out c.go_on.new.out)) c.in-Ok.ensures.flow
    (subst (λ d. OpensAt c.args.rests (flow_of session.engine.engine) (restart_in c.in-Ok.resumed) first (KeepsAtEnd (flow_of session.engine.engine) d tells)
    given gives ended status (out c.args.out.now) (out c.go_on.new.out)) c.in-Ok.ensures.digests
    (c.go_on.ensures.answers kept first
    (subst (λ d. IsUnderWay d session.engine.engine session.arrivals begun session.turn kept first) (sym c.in-Ok.ensures.digests) under) told)))
    (λ kept first under.
    subst (λ d. ForSome tells (HoldsSome d c.args.digests)) c.in-Ok.ensures.flow
    (subst (λ d. ForSome tells (HoldsSome (flow_of session.engine.engine) d)) c.in-Ok.ensures.digests
    (c.go_on.ensures.left kept first
    (subst (λ d. IsUnderWay d session.engine.engine session.arrivals begun session.turn kept first) (sym c.in-Ok.ensures.digests) under))))
    c.go_on.ensures.no_root

pub returns-in-Err-clause-answers : goal.returns-in-Err-clause-answers
returns-in-Err-clause-answers g c =
    let view = g.K.Store.view in
    let failed = c.in-Err.failed in
    let told = (view c.args.store).records in
    let tells = (view failed.store).records in
    rw (c.unstarted.ensures) (ends-unstarted c.args.rests c.args.flow c.args.digests told tells (g.L.LineSource.given c.args.input.now)
    (g.L.LineSource.ended c.args.input.now) failed.fault (g.O.Sink.view c.args.out.now) c.requires.may (start-stays told tells c.in-Err.ensures.stays_behind)
    c.in-Err.ensures.whole c.in-Err.ensures.foreign_root)

pub returns-in-Err-clause-begun : goal.returns-in-Err-clause-begun
returns-in-Err-clause-begun g c = rw (c.unstarted.ensures) (unstarted-begun c.in-Err.failed.fault)

pub returns-in-Err-clause-reads : goal.returns-in-Err-clause-reads
returns-in-Err-clause-reads g c =
    rw (c.unstarted.ensures) (session-unstarted c.in-Err.failed.fault (g.L.LineSource.given c.args.input.now) (g.L.LineSource.fault_count c.args.input.now))

pub returns-in-Err-clause-writes : goal.returns-in-Err-clause-writes
returns-in-Err-clause-writes g c = rw (c.unstarted.ensures) (writes-unstarted c.in-Err.failed.fault (g.O.Sink.view c.args.out.now))
