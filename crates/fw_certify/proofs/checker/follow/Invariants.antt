use Rattle.std.proofs.Common.{◌+◌, ◌≤◌, take}
use Rattle.fw_model.specs.Choice.{IsChoiceOf}
use Rattle.fw_model.specs.Lowerings.{choice_of}
use Rattle.fw_model.specs.Offers.{IsOffered, covers_of}
use Rattle.fw_certify.specs.Checked.{AreRightSoFar, tests_of}
use Rattle.fw_certify.proofs.checker.follow.Given as goal

abbrev pub invariant-loop-at : goal.invariant-loop-at
invariant-loop-at g l = record {
  right : AreRightSoFar l.flow (covers_of l.flow l.offers) (IsOffered l.flow l.offers) (take l.at l.entries) (choice_of l.values.cuts.items l.values.notices.items);
  of_flow : IsChoiceOf l.flow (choice_of l.values.cuts.items l.values.notices.items);
  spent : l.steps ≤ l.fn.steps + tests_of l.offers (take l.at l.entries);
}
