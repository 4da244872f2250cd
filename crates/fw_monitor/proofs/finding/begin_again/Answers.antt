use Rattle.std.proofs.Common.{◌≤◌, subst, ◌∙◌, arith}
use Rattle.std.specs.List.{AllByRecursion}
use Rattle.fw_model.specs.Inclusions.{node_of}
use Rattle.fw_model.proofs.InclusionLaws.{node-there}
use Rattle.fw_monitor.proofs.FindingLaws.{back_read}
use Rattle.fw_monitor.proofs.finding.begin_again.Goals as goal

pub index-requires : goal.index-requires
index-requires c =
    let one = c.requires.begins.one_each in
    let at = node-there c.args.flow.now c.args.inclusion.now c.flow_is_well_formed.ensures c.requires.there in
    let own = c.first_node-first.ensures.node in
    let node = c.node_of.ensures in
    omega (arith, one, at, own, node, c.place.ensures)

pub returns : goal.returns
returns c =
    let flow = c.args.flow.now in
    let i = c.args.inclusion.now in
    let p = c.first_node-first.result in
    let own = subst (λ n. p ≤ n) c.node_of.ensures c.first_node-first.ensures.node in
    let each = subst (λ js. AllByRecursion (λ j. p ≤ node_of flow j) js) (c.deref.ensures.value ∙ c.in_ok-broken.ensures) c.first_node-first.ensures.each in
    back_read flow i c.args.inclusions.now.begins.items p c.place.result c.index.result.now c.requires.begins c.flow_is_well_formed.ensures c.requires.there own each c.place.ensures c.index.ensures
