-- Cuts.
use Rattle.std.proofs.Common.{◌≡◌, Some, None, refl, sym, ap}
use Rattle.fw_frontier.specs.Front.{Front}
use Rattle.fw_flow.specs.declared.choice.Cut.{Cut}
use Rattle.fw_flow.specs.declared.choice.Cut.TheVariants.{Present, At}
use Rattle.fw_rollback.specs.Asked.{front_at}

-- a cut with a frontier is at it
pub cut_is : (cut : Cut) (f : Front) → Some f ≡ front_at cut → cut ≡ At f
cut_is Present f e = absurd cc
cut_is (At g) f e = let s : f ≡ g = cc in ap At (sym s)

-- a cut without one leaves the node as it is
pub cut_stays : (cut : Cut) → None ≡ front_at cut → cut ≡ Present
cut_stays Present e = refl
cut_stays (At g) e = absurd cc
