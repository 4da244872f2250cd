use Rattle.std.proofs.Common.{ap, subst, ◌∙◌}
use Rattle.fw_flow.specs.Dataflow.{kind_of, bounds_of}
use Rattle.fw_flow.specs.WellFormed.{IsWellFormed}
use Rattle.fw_flow.proofs.EdgeLaws.{ends-of}
use Rattle.fw_flow.proofs.flow.Flow.ends.Goals as goal

pub returns : goal.returns
returns c =
    let flow = c.args.self.now in
    ends-of flow (subst IsWellFormed c.self.view_is c.self.invariant.well_formed) c.args.edge (c.kind.ensures ∙ ap (kind_of flow) c.src-src.ensures)
    (c.domain.ensures ∙ ap (bounds_of flow) c.src-src.ensures) (c.domain-2.ensures ∙ ap (bounds_of flow) c.dst.ensures)
