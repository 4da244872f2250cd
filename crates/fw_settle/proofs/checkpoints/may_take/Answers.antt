use Rattle.std.proofs.Common.{◌≡◌, true, arith, sym, ap, ◌∙◌}
use Rattle.fw_flow.specs.Dataflow.{policy_of}
use Rattle.fw_model.specs.Steps.{is_asked_for_checkpoints}
use Rattle.fw_model.proofs.AskedLaws.{takes-declared}
use Rattle.fw_settle.proofs.WritesLaws.{asked-takes}
use Rattle.fw_settle.proofs.checkpoints.may_take.Goals as goal

pub is_newest_settled-requires-clause-there : goal.is_newest_settled-requires-clause-there
is_newest_settled-requires-clause-there c =
    let flow = c.args.running.now.flow in
    let each = c.requires.shaped.progress.settled_each in
    let asks : is_asked_for_checkpoints (policy_of flow c.args.node) ≡ true =
    ap is_asked_for_checkpoints (sym c.policy.ensures) ∙ sym c.is_asked_for_checkpoints.ensures ∙ c.if-not-is_asked_for_checkpoints.false in
    let there = takes-declared flow c.args.node (asked-takes (policy_of flow c.args.node) asks) in
    omega (arith, each, there)
