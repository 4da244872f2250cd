use Rattle.fw_flow.proofs.PlainNameLaws.{nodes-plain}
use Rattle.fw_flow_text.proofs.WrittenLaws.{written_read}
use Rattle.fw_flow_text.proofs.laws.flow_is_read_back.Goals as goal

pub returns : goal.returns
returns c =
    let once = c.names_are_distinct.ensures in
    let names = c.names_are_names.ensures in
    written_read c.args.flow.now
    (record {
      well_formed = c.flow_is_well_formed.ensures;
      loops_once = once.loops;
      nodes_once = once.nodes;
      edges_once = once.edges;
      loops_named = names.loops;
      nodes_named = nodes-plain c.args.flow.now c.requires.whole c.names_are_plain.ensures.nodes;
      edges_named = c.names_are_plain.ensures.edges c.requires.whole;
      whole = c.requires.whole;
      numbers = c.numbers_are_small.ensures;
    })
    c.requires.short
