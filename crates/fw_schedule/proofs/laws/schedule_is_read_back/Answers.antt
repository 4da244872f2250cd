use Rattle.fw_schedule.proofs.WrittenLaws.{written_read}
use Rattle.fw_schedule.proofs.laws.schedule_is_read_back.Goals as goal

pub returns : goal.returns
returns c =
    let names = c.names_are_names.ensures in
    let once = c.names_are_distinct.ensures in
    written_read c.args.flow.now
    (record {
      well_formed = c.flow_is_well_formed.ensures;
      nodes_once = once.nodes;
      edges_once = once.edges;
      nodes_named = names.nodes;
      edges_named = names.edges;
    })
    c.args.schedule.now c.requires.of_flow c.requires.few c.requires.short
