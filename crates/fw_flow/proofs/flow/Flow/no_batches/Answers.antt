use Rattle.std.proofs.Common.{sym, subst}
use Rattle.fw_flow.specs.Dataflow.{system_of}
use Rattle.fw_flow.specs.WellFormed.{IsWellFormedSystem}
use Rattle.fw_flow.proofs.BatchFaultLaws.{without_batches}
use Rattle.fw_flow.proofs.flow.Flow.no_batches.Goals as goal

pub returns-clause-accepted : goal.returns-clause-accepted
returns-clause-accepted c =
    let flow = c.args.self.now in
    subst (λ batches. IsWellFormedSystem (system_of flow batches)) (sym c.new.ensures) (without_batches flow c.flow_is_well_formed.ensures)
