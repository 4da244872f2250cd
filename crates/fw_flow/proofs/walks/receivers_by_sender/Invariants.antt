use Rattle.std.proofs.Common.{◌≡◌, length}
use Rattle.fw_flow.specs.Walks.{AreOnward}
use Rattle.fw_flow.proofs.walks.receivers_by_sender.Given as goal

abbrev pub invariant-loop-link : goal.invariant-loop-link
invariant-loop-link l = record {
  len : length l.onward.items ≡ l.places;
  onward : AreOnward l.links l.link-index l.onward.items;
}
