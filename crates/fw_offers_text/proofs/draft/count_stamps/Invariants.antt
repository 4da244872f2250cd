use Rattle.std.proofs.Common.{◌≡◌, ◌++◌, map, take}
use Rattle.fw_offers_text.specs.OffersGrammar.{counted_at}
use Rattle.fw_offers_text.proofs.draft.count_stamps.Given as goal

abbrev pub invariant-loop-stamp : goal.invariant-loop-stamp
invariant-loop-stamp l = l.messages.items ≡ l.initial.messages.items ++ map (counted_at l.flow l.edge) (take l.stamp-index l.stamps)
