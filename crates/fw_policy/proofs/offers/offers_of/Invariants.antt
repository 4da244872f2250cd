use Rattle.std.proofs.Common.{◌≡◌, ◌≤◌, length, take, vec_len}
use Rattle.fw_policy.specs.Offering.{AreOffersBy}
use Rattle.fw_policy.specs.Known.{AreNodesKnown}
use Rattle.fw_policy.proofs.offers.offers_of.Given as goal

-- what is offered so far is by the views that were taken so far
abbrev pub invariant-loop-known : goal.invariant-loop-known
invariant-loop-known l =
    (vec_len l.offers ≡ length l.yielded)
    × (length l.yielded ≤ length l.fn.views.items)
    × (AreNodesKnown l.flow l.entries 0 l.fn.views.items → AreOffersBy l.flow l.entries 0 (take (length l.yielded) l.fn.views.items) l.offers.items)
