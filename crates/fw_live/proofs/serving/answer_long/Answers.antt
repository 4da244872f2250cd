use Rattle.std.proofs.Common.{◌≡◌, Some, None, Err, refl, sym, ap, subst, ◌∙◌}
use Rattle.std.proofs.lemmas.Result.{err_from_is_err_and}
use Rattle.fw_engine.specs.Engine.{flow_of}
use Rattle.fw_live.specs.Answered.{HasAnswered}
use Rattle.fw_live.specs.Asked.{asked_for}
use Rattle.fw_live.specs.declared.fault.ServeFault.TheVariants.{Store}
use Rattle.fw_live.specs.Given.{with_line_given}
use Rattle.fw_live.proofs.ServingLaws.{same-fault, serves-one}
use Rattle.fw_live.proofs.serving.answer_long.Goals as goal

pub returns-clause-answered : goal.returns-clause-answered
returns-clause-answered g c = λ given.
    let old = c.args.live.now in
    let new = c.answer_long.new.self in
    let flow = flow_of (g.S.Living.engine_of old.session) in
    serves-one old.rests flow
    (record { counts = old.counts; records = g.S.Living.records old.session; faults = g.S.Living.fault_count old.session; At = λ story kept. g.S.Living.at old.session story × g.S.Living.keeps old.session story kept })
    (record { counts = new.counts; records = g.S.Living.records new.session; faults = g.S.Living.fault_count new.session; At = λ story kept. g.S.Living.at new.session story × g.S.Living.keeps new.session story kept })
    (None) given (with_line_given (None) given) c.answer_long.new.into.items refl c.in_ok-answer_long.ensures.faults
    (λ story kept there relied. subst (λ bytes. HasAnswered old.rests flow story kept (asked_for flow (None)) old.counts new.counts bytes c.answer_long.new.into.items
    (λ s lines. g.S.Living.at new.session s × g.S.Living.keeps new.session s lines) (g.S.Living.records new.session)) c.new-answer.ensures.items
    (c.in_ok-answer_long.ensures.answered story kept there.0 there.1))

pub returns-in_err-answer_long-clause-store_failed : goal.returns-in_err-answer_long-clause-store_failed
returns-in_err-answer_long-clause-store_failed g c = λ story at told e.
    let p = err_from_is_err_and c.from_residual.result c.from_residual.ensures.1 in
    c.in_err-answer_long.ensures.store_failed story at told (ap Err (p.2.1 (same-fault p.0 Store (sym p.1 ∙ e))))
