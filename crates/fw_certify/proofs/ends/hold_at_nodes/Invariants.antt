use Rattle.std.proofs.Common.{ℕ, ◌+◌, ◌*◌, ◌<◌, ◌≤◌}
use Rattle.fw_model.specs.Lowerings.{choice_of}
use Rattle.fw_certify.specs.Checked.{HoldAtNode}
use Rattle.fw_certify.proofs.ends.hold_at_nodes.Given as goal

abbrev pub invariant-loop-place : goal.invariant-loop-place
invariant-loop-place g l = record {
  hold : (n : ℕ) → n < l.place → HoldAtNode l.flow l.offers (choice_of l.values.cuts.items l.values.notices.items) n;
  spent : l.steps ≤ l.fn.steps + 2 * l.place;
}
