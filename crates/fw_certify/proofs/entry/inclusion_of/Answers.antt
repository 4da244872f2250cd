use Rattle.fw_certify.proofs.CodeLaws.{entry-told, other_flow-untold, other_node-untold, other_part-untold}
use Rattle.fw_certify.proofs.entry.inclusion_of.Goals as goal

pub returns-then-not-is_of_flow : goal.returns-then-not-is_of_flow
returns-then-not-is_of_flow c =
    other_flow-untold c.args.flow.now c.args.entry.now c.said_inclusion-inclusion.result c.is_of_flow.result c.said_inclusion-inclusion.ensures c.if-not-is_of_flow.true c.is_of_flow.ensures

pub returns-then-not-eq : goal.returns-then-not-eq
returns-then-not-eq c =
    other_node-untold c.args.flow.now c.args.entry.now c.said_inclusion-inclusion.result c.node_of.result c.eq.result c.said_inclusion-inclusion.ensures c.node_of.ensures c.eq.ensures c.if-not-eq.true

pub returns-then-not-is_of_part : goal.returns-then-not-is_of_part
returns-then-not-is_of_part c =
    other_part-untold c.args.flow.now c.args.entry.now c.said_inclusion-inclusion.result c.is_of_part.result c.said_inclusion-inclusion.ensures c.if-not-is_of_part.true c.is_of_part.ensures

pub returns : goal.returns
returns c =
    entry-told c.args.flow.now c.args.entry.now c.said_inclusion-inclusion.result c.node_of.result c.is_of_flow.result c.eq.result c.is_of_part.result c.said_inclusion-inclusion.ensures
    c.if-not-is_of_flow.false c.is_of_flow.ensures c.node_of.ensures c.eq.ensures c.if-not-eq.false c.if-not-is_of_part.false c.is_of_part.ensures
