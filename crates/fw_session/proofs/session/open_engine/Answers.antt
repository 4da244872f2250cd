use Rattle.fw_flow.specs.Dataflow.{batches_of_nodes}
use Rattle.fw_session.proofs.SessionLaws.{engine-opened, fresh-well}
use Rattle.fw_session.proofs.session.open_engine.Goals as goal

pub new-requires : goal.new-requires
new-requires c =
    fresh-well c.args.flow (batches_of_nodes c.args.flow c.in_ok-batches.batches) c.flow_is_well_formed.ensures c.in_ok-batches.ensures

pub returns-clause-opened : goal.returns-clause-opened
returns-clause-opened c = λ records.
    engine-opened c.args.flow (batches_of_nodes c.args.flow c.in_ok-batches.batches) records c.new.result c.flow_is_well_formed.ensures
    c.in_ok-batches.ensures (c.new.ensures.stands records) c.new.ensures.flow
