use Rattle.std.proofs.Common.{◌≡◌, ◌∙◌, [], Some, refl, sym, ap, subst}
use Rattle.std.proofs.lemmas.Bool.{false≢true}
use Rattle.std.specs.Option.{ForSome}
use Rattle.std.specs.Prelude.{IsSome}
use Rattle.fw_engine.specs.Engine.{flow_of}
use Rattle.fw_lasting.specs.Starting.{HoldsSome}
use Rattle.fw_lasting.specs.UnderWay.{IsUnderWay, SaysLast}
use Rattle.fw_lasting.proofs.LivingLaws.{some-under}
use Rattle.fw_live.proofs.CommandLaws.{session-none, writes-none}
use Rattle.fw_run.specs.declared.status.Status.TheVariants.{NoMemory}
use Rattle.fw_relive.specs.Call.{KeepsAtEnd}
use Rattle.fw_relive.proofs.AnswersLaws.{answers-over}
use Rattle.fw_relive.proofs.CallLaws.{keeps-at_end, one-some, some-at_end}
use Rattle.fw_relive.proofs.command.answer_on.Goals as goal

pub returns-in-Ok-clause-answers : goal.returns-in-Ok-clause-answers
returns-in-Ok-clause-answers g c = λ first kept under says told.
    let view = g.K.Store.view in
    let out = g.O.Sink.view in
    let old = c.args.session in
    let live = c.in-Ok.live in
    let new = c.answer_all.new.live.session in
    let input = c.answer_all.new.input in
    let tells = (view c.into_store.result).records in
    let records = ap (λ store. (view store).records) c.into_store.ensures ∙ ap (λ session. (view session.store).records) c.into_session.ensures in
    let flow = c.answer_all.ensures.flow ∙ ap (λ session. flow_of session.engine.engine) c.in-Ok.ensures.session in
    let digests = one-some new.digests old.digests (c.answer_all.ensures.texts ∙ ap (λ session. Some session.digests) c.in-Ok.ensures.session) in
    answers-over live.rests c.args.rests (flow_of live.session.engine.engine) (flow_of old.engine.engine) [] kept first
    (λ s k. ((kept : _) × IsUnderWay new.digests new.engine.engine new.arrivals (view new.store).records new.turn kept s)
    × (IsUnderWay new.digests new.engine.engine new.arrivals (view new.store).records new.turn s s
    × SaysLast (flow_of new.engine.engine) new.digests s new.steps k (view new.store).records))
    (KeepsAtEnd (flow_of old.engine.engine) old.digests tells) (g.L.LineSource.given c.args.input.now) (g.L.LineSource.given input)
    (g.L.LineSource.ended input) c.answer_all.result (out c.args.out.now) (out c.answer_all.new.out) c.in-Ok.ensures.rests
    (ap (λ session. flow_of session.engine.engine) c.in-Ok.ensures.session)
    (λ s k at. keeps-at_end new.digests old.digests new.engine.engine new.arrivals (view new.store).records tells new.turn new.steps
    (flow_of old.engine.engine) s k flow digests records at.1.0 at.1.1)
    (c.answer_all.ensures.answers first kept c.in-Ok.ensures.none
    (subst (λ session. (k : _) × IsUnderWay session.digests session.engine.engine session.arrivals (view session.store).records session.turn k first)
    (sym c.in-Ok.ensures.session) (first, under))
    (subst (λ session. IsUnderWay session.digests session.engine.engine session.arrivals (view session.store).records session.turn first first
    × SaysLast (flow_of session.engine.engine) session.digests first session.steps kept (view session.store).records)
    (sym c.in-Ok.ensures.session) (under, says)) (subst IsSome records told))

pub returns-in-Ok-clause-left : goal.returns-in-Ok-clause-left
returns-in-Ok-clause-left g c = λ first kept under says.
    let view = g.K.Store.view in
    let old = c.args.session in
    let new = c.answer_all.new.live.session in
    let tells = (view c.into_store.result).records in
    let records = ap (λ store. (view store).records) c.into_store.ensures ∙ ap (λ session. (view session.store).records) c.into_session.ensures in
    let flow = c.answer_all.ensures.flow ∙ ap (λ session. flow_of session.engine.engine) c.in-Ok.ensures.session in
    let digests = one-some new.digests old.digests (c.answer_all.ensures.texts ∙ ap (λ session. Some session.digests) c.in-Ok.ensures.session) in
    let same = sym c.in-Ok.ensures.session in
    λ held is. some-at_end (flow_of new.engine.engine) (flow_of old.engine.engine) new.digests old.digests (view new.store).records tells flow digests records
    (c.answer_all.ensures.left first kept
    (subst (λ session. (k : _) × IsUnderWay session.digests session.engine.engine session.arrivals (view session.store).records session.turn k first)
    same (first, under))
    (subst (λ session. IsUnderWay session.digests session.engine.engine session.arrivals (view session.store).records session.turn first first
    × SaysLast (flow_of session.engine.engine) session.digests first session.steps kept (view session.store).records) same (under, says))
    (subst (λ session. ForSome (view session.store).records (HoldsSome (flow_of session.engine.engine) session.digests)) same
    (some-under old.digests old.engine.engine old.arrivals (view old.store).records old.turn first first under))
    (subst IsSome records (subst IsSome (sym is) refl))) held is

pub returns-in-Ok-clause-told_before : goal.returns-in-Ok-clause-told_before
returns-in-Ok-clause-told_before g c = λ told.
    let view = g.K.Store.view in
    let records = ap (λ store. (view store).records) c.into_store.ensures ∙ ap (λ session. (view session.store).records) c.into_session.ensures in
    subst (λ session. IsSome (view session.store).records) c.in-Ok.ensures.session (c.answer_all.ensures.told_before (subst IsSome records told))

pub returns-in-Err-clause-answers : goal.returns-in-Err-clause-answers
returns-in-Err-clause-answers g c = λ first kept under says told. absurd (false≢true told)

pub returns-in-Err-clause-left : goal.returns-in-Err-clause-left
returns-in-Err-clause-left g c = λ first kept under says held is. absurd cc

pub returns-in-Err-clause-told_before : goal.returns-in-Err-clause-told_before
returns-in-Err-clause-told_before g c = λ told. absurd (false≢true told)

pub returns-in-Err-clause-reads : goal.returns-in-Err-clause-reads
returns-in-Err-clause-reads g c = session-none (g.L.LineSource.given c.args.input.now) (g.L.LineSource.fault_count c.args.input.now)

pub returns-in-Err-clause-writes : goal.returns-in-Err-clause-writes
returns-in-Err-clause-writes g c = writes-none NoMemory (g.O.Sink.view c.args.out.now) (λ count. refl)
