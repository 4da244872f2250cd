use Rattle.std.proofs.Common.{false, refl}
use Rattle.fw_engine.specs.Engine.{flow_of}
use Rattle.fw_live.specs.Answers.{rest_item}
use Rattle.fw_live.specs.Taken.{EndsMaybe, all}
use Rattle.fw_live.proofs.TakingLaws.{prints-none}
use Rattle.fw_live.proofs.taking.take_rest.Goals as goal

pub returns-in-true-clause-ends : goal.returns-in-true-clause-ends
returns-in-true-clause-ends g c = λ story at. rw (c.in-true.is) (c.take_auto.ensures.ends story at)

pub returns-in-false-clause-ends : goal.returns-in-false-clause-ends
returns-in-false-clause-ends g c = λ story at.
    let old = c.args.session.now in
    rw (c.in-false.is) (prints-none (flow_of (g.S.Living.engine_of old)) (EndsMaybe (flow_of (g.S.Living.engine_of old)) story (rest_item false) all)
    (record { bytes = c.args.into.now.items; counts = c.args.counts.now }) (g.S.Living.at old) story
    (refl, refl, refl) at)
