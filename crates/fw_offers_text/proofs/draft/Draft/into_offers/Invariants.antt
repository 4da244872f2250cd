use Rattle.std.proofs.Common.{◌≡◌, map}
use Rattle.fw_offers_text.specs.Draft.{offer_from}
use Rattle.fw_offers_text.proofs.draft.Draft.into_offers.Given as goal

abbrev pub invariant-loop-node : goal.invariant-loop-node
invariant-loop-node l = l.offers.items ≡ map offer_from l.yielded
