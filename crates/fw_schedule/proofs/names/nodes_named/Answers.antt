use Rattle.std.proofs.Common.{sym, ◌∙◌, ap, Some}
use Rattle.fw_schedule.proofs.NameLaws.{found_more, found_none, found_all}
use Rattle.fw_schedule.specs.Names.{node_with_name}
use Rattle.fw_schedule.proofs.names.nodes_named.Goals as goal

pub loop-name-preserved : goal.loop-name-preserved
loop-name-preserved c =
    let there = sym (c.node_spelled.ensures ∙ ap (node_with_name c.args.flow.now) c.of.ensures) ∙ c.in-Some.is in
    found_more c.args.flow.now c.args.text.now c.args.names.now c.loop-name.name-index c.in-Some.node c.loop-name.nodes.items c.push.new.self.items (record { from = 0; to = 0 }) c.loop-name-test.true c.loop-name.invariant there c.in_ok-push.ensures.items

pub returns-in_default : goal.returns-in_default
returns-in_default c =
    let none = sym (c.node_spelled.ensures ∙ ap (node_with_name c.args.flow.now) c.of.ensures) ∙ c.in_default.is in
    found_none c.args.flow.now c.args.text.now c.args.names.now c.loop-name.name-index c.loop-name.nodes.items (record { from = 0; to = 0 }) c.loop-name-test.true c.loop-name.invariant none

pub returns : goal.returns
returns c = ap Some c.new.ensures ∙ found_all c.args.flow.now c.args.text.now c.args.names.now c.loop-name.name-index c.loop-name.nodes.items c.loop-name-test.false c.loop-name.invariant
