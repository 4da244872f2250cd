use Rattle.std.proofs.Common.{subst, sym, ◌∙◌}
use Rattle.fw_flow.specs.WellFormed.{IsWellFormed}
use Rattle.fw_session.proofs.TurnLaws.{within-kept}
use Rattle.fw_lasting.proofs.SteppingLaws.{HasShared, goes-first, leaves-first}
use Rattle.fw_lasting.proofs.stepping.take_first.Goals as goal

pub auto_step_within-requires : goal.auto_step_within-requires
auto_step_within-requires g c = record {
  stored = c.share.ensures.stored (g.K.Store.view c.args.store.now).records c.requires.stored;
}

pub returns-clause-goes_on : goal.returns-clause-goes_on
returns-clause-goes_on g c =
    let by = c.auto_step_within in
    let shared : HasShared c.args.engine.now c.share.new.self = record { keep = c.share.ensures.keep; flow = c.share.ensures.flow; stands = c.share.ensures.stands } in
    goes-first g.K.Store.view c.args.engine.now c.share.new.self by.new.self c.args.store.now by.new.store c.args.arrivals.now by.result shared
    (within-kept g.K.Store.view c.share.new.self c.args.store.now by.result by.new.self by.new.store c.args.arrivals.now c.deref.result.now c.deref.ensures.value by.ensures)

pub returns-clause-leaves : goal.returns-clause-leaves
returns-clause-leaves g c =
    let by = c.auto_step_within in
    let shared : HasShared c.args.engine.now c.share.new.self = record { keep = c.share.ensures.keep; flow = c.share.ensures.flow; stands = c.share.ensures.stands } in
    leaves-first g.K.Store.view c.args.engine.now c.share.new.self by.new.self c.args.store.now by.new.store _ by.result shared
    (subst IsWellFormed (c.flow.ensures ∙ sym c.share.ensures.flow) c.flow_is_well_formed.ensures) by.ensures

pub returns-clause-faults : goal.returns-clause-faults
returns-clause-faults g c = c.auto_step_within.ensures.faults
