use Rattle.std.proofs.Common.{sym, subst}
use Rattle.fw_flow.specs.Flow.{AreBoundsOf, HasNoParts}
use Rattle.fw_flow.proofs.flow.Flow.check.Goals as goal

pub invariant_of-flow : goal.invariant_of-flow
invariant_of-flow c =
    let before = c.flow.invariant in
    let bounds = c.in_ok-bounds.bounds.items in
    record {
      well_formed = before.well_formed;
      loops_once = before.loops_once;
      plain_nodes = before.plain_nodes;
      plain_edges = before.plain_edges;
      names_of_nodes = before.names_of_nodes;
      names_of_edges = before.names_of_edges;
      edges_in = before.edges_in;
      edges_out = before.edges_out;
      bounds_kept = subst (λ flow. AreBoundsOf flow bounds) (sym c.flow.view_is) c.in_ok-bounds.ensures.bounds;
      none_split = λ h. subst HasNoParts (sym c.flow.view_is) (c.has_no_parts-unsplit.ensures.none h);
    }
