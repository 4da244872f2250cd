use Rattle.std.proofs.Common.{◌≡◌, ◌∙◌, inl, refl, subst}
use Rattle.std.proofs.lemmas.Result.{err_from_is_err_and, on_ok_weaker, IfErr-weaker}
use Rattle.fw_command.specs.Writing.{IsWritten}
use Rattle.fw_engine.specs.Engine.{flow_of}
use Rattle.fw_live.specs.Serving.{IsCutBy}
use Rattle.fw_relive.specs.Opening.{CutsOpening, lines_found, opened_text, restart_in}
use Rattle.fw_live.specs.Call.{stopped_status}
use Rattle.fw_run.specs.Call.{CountsWrites}
use Rattle.fw_run.specs.declared.status.Status.TheVariants.{NoMemory}
use Rattle.fw_live.proofs.CommandLaws.{writes-none}
use Rattle.fw_relive.proofs.OpeningLaws.{counts-cut_by, counts-kept, counts-written, cuts-by, cuts-kept}
use Rattle.fw_relive.proofs.opening.open.Goals as goal

pub returns-in_default-clause-cut : goal.returns-in_default-clause-cut
returns-in_default-clause-cut g c = λ story at. inl refl

pub returns-in_err-keep-clause-cut : goal.returns-in_err-keep-clause-cut
returns-in_err-keep-clause-cut g c = λ story at.
    let p = err_from_is_err_and c.from_residual.result c.from_residual.ensures.1 in
    rw (p.1, p.2) (cuts-kept c.in_err-keep.field-0.0 (opened_text (flow_of (g.S.Living.engine_of c.args.session.now)) story (restart_in c.args.resumed.now))
    (g.O.Sink.view c.args.out.now) c.in_err-keep.ensures.no_write c.in_err-keep.ensures.no_read)

pub returns-clause-opened : goal.returns-clause-opened
returns-clause-opened g c = λ story at.
    let view = g.O.Sink.view in
    let new = c.keep.new.session in
    let flow = flow_of (g.S.Living.engine_of c.args.session.now) in
    let kept = subst (λ lines. g.S.Living.at new story × g.S.Living.keeps new story lines) c.lines_of.ensures (c.in_ok-keep.ensures.kept story at) in
    let text = c.deref.ensures.value ∙ c.in-Ok.ensures story at in
    on_ok_weaker c.write.result
    (λ w. (kept.0, kept.1, subst (λ t. IsWritten t (view c.args.out.now) (view c.write.new.out)) text w)) c.write.ensures.written

pub returns-clause-cut : goal.returns-clause-cut
returns-clause-cut g c = λ story at.
    let view = g.O.Sink.view in
    let flow = flow_of (g.S.Living.engine_of c.args.session.now) in
    let whole = opened_text flow story (restart_in c.args.resumed.now) in
    let text = c.deref.ensures.value ∙ c.in-Ok.ensures story at in
    IfErr-weaker c.write.result (λ fault. IsCutBy fault c.deref.result.now (view c.args.out.now) (view c.write.new.out))
    (λ fault. CutsOpening fault whole (view c.args.out.now) (view c.write.new.out))
    (λ fault cut. cuts-by fault whole (view c.args.out.now) (view c.write.new.out)
    (subst (λ t. IsCutBy fault t (view c.args.out.now) (view c.write.new.out)) text cut)) c.write.ensures.cut

pub returns-in_default-clause-writes_failed : goal.returns-in_default-clause-writes_failed
returns-in_default-clause-writes_failed g c = writes-none NoMemory (g.O.Sink.view c.args.out.now) (λ count. refl)

pub returns-in_err-keep-clause-writes_failed : goal.returns-in_err-keep-clause-writes_failed
returns-in_err-keep-clause-writes_failed g c =
    let p = err_from_is_err_and c.from_residual.result c.from_residual.ensures.1 in
    rw (p.1, p.2) (counts-kept c.in_err-keep.field-0.0 (g.O.Sink.view c.args.out.now) c.in_err-keep.ensures.no_write)

pub returns-clause-writes : goal.returns-clause-writes
returns-clause-writes g c =
    on_ok_weaker c.write.result (counts-written c.deref.result.now (g.O.Sink.view c.args.out.now) (g.O.Sink.view c.write.new.out)) c.write.ensures.written

pub returns-clause-writes_failed : goal.returns-clause-writes_failed
returns-clause-writes_failed g c =
    let view = g.O.Sink.view in
    IfErr-weaker c.write.result (λ fault. IsCutBy fault c.deref.result.now (view c.args.out.now) (view c.write.new.out))
    (λ fault. CountsWrites (stopped_status fault) (view c.args.out.now) (view c.write.new.out))
    (λ fault cut. counts-cut_by fault c.deref.result.now (view c.args.out.now) (view c.write.new.out) cut) c.write.ensures.cut

pub returns-clause-left : goal.returns-clause-left
returns-clause-left g c = λ story at may told. c.keep.ensures.left story at told
