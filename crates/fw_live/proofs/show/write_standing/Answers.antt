use Rattle.fw_engine.specs.Engine.{flow_of}
use Rattle.std.specs.List.{flat_map}
use Rattle.fw_flow.specs.Dataflow.{node_ids}
use Rattle.fw_model.specs.Auto.{edge_ids}
use Rattle.fw_live.specs.ShowText as spec
use Rattle.fw_live.proofs.ShowLaws.{five-parts}
use Rattle.fw_live.proofs.show.write_standing.Goals as goal

pub returns : goal.returns
returns g c = λ story at.
    let flow = flow_of (g.S.Living.engine_of c.args.session.now) in
    five-parts c.args.into.now.items (flat_map (spec.source_line flow story) (node_ids flow)) (flat_map (spec.edge_line flow story) (edge_ids flow))
    (flat_map (spec.settled_line flow story) (node_ids flow)) (flat_map (spec.output_line flow story) (node_ids flow)) (spec.writes_line story)
    c.write_nodes.new.into.items c.write_edges.new.into.items c.write_nodes-2.new.into.items c.write_nodes-3.new.into.items
    c.write_writes.new.into.items (c.in_ok-write_nodes.ensures story at) (c.in_ok-write_edges.ensures story at)
    (c.in_ok-write_nodes-2.ensures story at) (c.in_ok-write_nodes-3.ensures story at) (c.in_ok-write_writes.ensures story at)
