use Rattle.std.proofs.Common.{rules}
use Rattle.fw_examples.proofs.Declared.{after_four, after_three, built, first_edge, second_edge}
use Rattle.fw_examples.proofs.traces_of_totals.totals_are_declared.Goals as goal

pub returns-in_err-edge : goal.returns-in_err-edge
returns-in_err-edge c =
    let nodes = after_three c.new.result c.in_ok-input.field-0 c.in_ok-total.field-0 c.in_ok-output_epoch.field-0 c.new.ensures c.in_ok-input.ensures.2 c.in_ok-total.ensures.2 c.in_ok-output_epoch.ensures.2 in
    let memory = first_edge c.in_ok-output_epoch.field-0 nodes c.in_err-edge.field-0.0 c.in_err-edge.ensures in
    search (rules, memory)

pub returns-in_err-edge-2 : goal.returns-in_err-edge-2
returns-in_err-edge-2 c =
    let nodes = after_three c.new.result c.in_ok-input.field-0 c.in_ok-total.field-0 c.in_ok-output_epoch.field-0 c.new.ensures c.in_ok-input.ensures.2 c.in_ok-total.ensures.2 c.in_ok-output_epoch.ensures.2 in
    let edges = after_four c.in_ok-output_epoch.field-0 c.in_ok-edge.field-0 nodes c.in_ok-edge.ensures.2 in
    let memory = second_edge c.in_ok-edge.field-0 edges c.in_err-edge-2.field-0.0 c.in_err-edge-2.ensures in
    search (rules, memory)

pub returns : goal.returns
returns c =
    let nodes = after_three c.new.result c.in_ok-input.field-0 c.in_ok-total.field-0 c.in_ok-output_epoch.field-0 c.new.ensures c.in_ok-input.ensures.2 c.in_ok-total.ensures.2 c.in_ok-output_epoch.ensures.2 in
    let edges = after_four c.in_ok-output_epoch.field-0 c.in_ok-edge.field-0 nodes c.in_ok-edge.ensures.2 in
    built c.in_ok-edge.field-0 c.in_ok-edge-2.field-0 edges c.in_ok-edge-2.ensures.2 c.build.result c.build.ensures.checked
