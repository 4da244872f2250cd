use Rattle.std.proofs.Common.{subst}
use Rattle.std.proofs.lemmas.Result.{err_from_is_err_and}
use Rattle.fw_engine.specs.Engine.{flow_of}
use Rattle.fw_live.specs.Answers.{rest_item}
use Rattle.fw_live.specs.Reading.{first_item}
use Rattle.fw_live.specs.Relies.{EndsSo, GoesOnPrinting}
use Rattle.fw_live.specs.Taken.{EndsMaybe}
use Rattle.fw_live.proofs.CommandLaws.{relied-some}
use Rattle.fw_live.proofs.TakingLaws.{first-ends, relied-maybe, second-ends}
use Rattle.fw_live.proofs.taking.take_turn.Goals as goal

pub returns-in_err-take_first-clause-ends : goal.returns-in_err-take_first-clause-ends
returns-in_err-take_first-clause-ends g c = λ story at relied.
    let p = err_from_is_err_and c.from_residual.result c.from_residual.ensures.1 in
    let old = c.args.session.now in
    let new = c.take_first.new.session in
    rw (p.1, p.2) (first-ends (flow_of (g.S.Living.engine_of old)) story (first_item c.args.items.now) (rest_item c.args.rests) c.in_err-take_first.field-0.0
    (record { bytes = c.args.into.now.items; counts = c.args.counts.now }) (record { bytes = c.take_first.new.into.items; counts = c.take_first.new.counts })
    (g.S.Living.at new) (c.in_err-take_first.ensures.ends story at relied))

pub returns-clause-ends : goal.returns-clause-ends
returns-clause-ends g c = λ story at relied.
    let old = c.args.session.now in
    let mid = c.take_first.new.session in
    let new = c.take_rest.new.session in
    let At = g.S.Living.at new in
    second-ends (flow_of (g.S.Living.engine_of old)) story (first_item c.args.items.now) (rest_item c.args.rests) c.take_rest.result
    (record { bytes = c.args.into.now.items; counts = c.args.counts.now }) (record { bytes = c.take_first.new.into.items; counts = c.take_first.new.counts })
    (record { bytes = c.take_rest.new.into.items; counts = c.take_rest.new.counts }) (g.S.Living.at mid) At
    (c.in_ok-take_first.ensures.ends story at (relied-maybe (g.S.Living.records mid) (g.S.Living.records new) (first_item c.args.items.now) c.take_rest.ensures.told_before relied))
    (λ s there. subst (λ d. EndsSo (λ ending. GoesOnPrinting d (EndsMaybe d s (rest_item c.args.rests) ending)
    (record { bytes = c.take_first.new.into.items; counts = c.take_first.new.counts })
    (record { bytes = c.take_rest.new.into.items; counts = c.take_rest.new.counts }) At) c.take_rest.result) c.take_first.ensures.flow
    (c.take_rest.ensures.ends s there))

pub returns-clause-left : goal.returns-clause-left
returns-clause-left g c = λ story at may told.
    let t = c.take_rest.ensures.told_before told in
    let s = c.in_ok-take_first.ensures.ends story at (relied-some (g.S.Living.records c.take_first.new.session) (first_item c.args.items.now) t) in
    c.take_rest.ensures.left s.next s.at (c.take_first.ensures.left story at may t) told
