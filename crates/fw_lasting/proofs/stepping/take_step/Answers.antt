use Rattle.std.proofs.Common.{subst, sym, ◌∙◌}
use Rattle.std.proofs.lemmas.Result.{err_from_is_err_and}
use Rattle.fw_flow.specs.WellFormed.{IsWellFormed}
use Rattle.fw_session.proofs.TurnLaws.{refused-goes_on}
use Rattle.fw_lasting.proofs.SteppingLaws.{HasShared, goes-held, goes-raised, goes-step, leaves-raised, leaves-shared, leaves-step}
use Rattle.fw_lasting.proofs.stepping.take_step.Goals as goal

pub returns-then-is_held_back-clause-goes_on : goal.returns-then-is_held_back-clause-goes_on
returns-then-is_held_back-clause-goes_on g c =
    let records = (g.K.Store.view c.args.store.now).records in
    let shared : HasShared c.args.engine.now c.share.new.self = record { keep = c.share.ensures.keep; flow = c.share.ensures.flow; stands = c.share.ensures.stands } in
    goes-held c.args.engine.now c.share.new.self records c.args.step.now c.args.arrivals.now shared
    (λ story at. c.is_held_back.ensures.held records story at c.if-is_held_back.true)

pub returns-then-is_held_back-clause-leaves : goal.returns-then-is_held_back-clause-leaves
returns-then-is_held_back-clause-leaves g c =
    let records = (g.K.Store.view c.args.store.now).records in
    let shared : HasShared c.args.engine.now c.share.new.self = record { keep = c.share.ensures.keep; flow = c.share.ensures.flow; stands = c.share.ensures.stands } in
    leaves-shared c.args.engine.now c.share.new.self records shared
    (c.share.ensures.stored records c.requires.stored)

pub step-requires : goal.step-requires
step-requires g c = record {
  stored = c.share.ensures.stored (g.K.Store.view c.args.store.now).records c.requires.stored;
}

pub returns-in_err-raise_low-in-Collect-clause-goes_on : goal.returns-in_err-raise_low-in-Collect-clause-goes_on
returns-in_err-raise_low-in-Collect-clause-goes_on g c =
    let p = err_from_is_err_and c.from_residual.result c.from_residual.ensures.1 in
    rw (p.1, p.2) (refused-goes_on _ _ _ _ _)

pub returns-in_err-raise_low-in-Collect-clause-leaves : goal.returns-in_err-raise_low-in-Collect-clause-leaves
returns-in_err-raise_low-in-Collect-clause-leaves g c =
    let records = (g.K.Store.view c.args.store.now).records in
    let shared : HasShared c.args.engine.now c.share.new.self = record { keep = c.share.ensures.keep; flow = c.share.ensures.flow; stands = c.share.ensures.stands } in
    leaves-raised c.args.engine.now c.share.new.self _ records shared
    (c.share.ensures.stored records c.requires.stored) c.in_err-raise_low-in-Collect.ensures

pub returns-in_ok-raise_low-in-Collect-clause-goes_on : goal.returns-in_ok-raise_low-in-Collect-clause-goes_on
returns-in_ok-raise_low-in-Collect-clause-goes_on g c =
    let records = (g.K.Store.view c.args.store.now).records in
    let shared : HasShared c.args.engine.now c.share.new.self = record { keep = c.share.ensures.keep; flow = c.share.ensures.flow; stands = c.share.ensures.stands } in
    rw c.in-Collect.is (goes-raised c.args.engine.now c.share.new.self _ records c.args.arrivals.now _ shared c.in_ok-raise_low-in-Collect.ensures)

pub returns-in_ok-raise_low-in-Collect-clause-leaves : goal.returns-in_ok-raise_low-in-Collect-clause-leaves
returns-in_ok-raise_low-in-Collect-clause-leaves g c =
    let records = (g.K.Store.view c.args.store.now).records in
    let shared : HasShared c.args.engine.now c.share.new.self = record { keep = c.share.ensures.keep; flow = c.share.ensures.flow; stands = c.share.ensures.stands } in
    leaves-raised c.args.engine.now c.share.new.self _ records shared
    (c.share.ensures.stored records c.requires.stored) c.in_ok-raise_low-in-Collect.ensures

pub returns-in_default-clause-goes_on : goal.returns-in_default-clause-goes_on
returns-in_default-clause-goes_on g c =
    let records = (g.K.Store.view c.args.store.now).records in
    let shared : HasShared c.args.engine.now c.share.new.self = record { keep = c.share.ensures.keep; flow = c.share.ensures.flow; stands = c.share.ensures.stands } in
    goes-step g.K.Store.view c.args.engine.now c.share.new.self c.step.new.self c.args.store.now c.step.new.store c.args.arrivals.now c.args.step.now c.step.result
    shared c.step.ensures (λ story at. c.is_held_back.ensures.free records story at c.if-is_held_back.false)

pub returns-in_default-clause-leaves : goal.returns-in_default-clause-leaves
returns-in_default-clause-leaves g c =
    let shared : HasShared c.args.engine.now c.share.new.self = record { keep = c.share.ensures.keep; flow = c.share.ensures.flow; stands = c.share.ensures.stands } in
    leaves-step g.K.Store.view c.args.engine.now c.share.new.self c.step.new.self c.args.store.now c.step.new.store c.args.step.now c.step.result shared
    (subst IsWellFormed (c.flow.ensures ∙ sym c.share.ensures.flow) c.flow_is_well_formed.ensures) c.in_default.not-Collect c.step.ensures

pub returns-in_default-clause-faults : goal.returns-in_default-clause-faults
returns-in_default-clause-faults g c = c.step.ensures.faults
