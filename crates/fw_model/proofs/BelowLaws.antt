-- What is forgotten lies below, and what has no base stands on nothing.
use Rattle.std.proofs.Common.{◌≡◌, ℕ, zero, suc, Bool, true, false, not, ◌&&◌, ◌||◌, List, [], refl, None}
use Rattle.std.specs.List.{list_all}
use Rattle.std.proofs.lemmas.Bool.{and_parts}
use Rattle.fw_frontier.specs.Front.{Front}
use Rattle.fw_flow.specs.Dataflow.{System}
use Rattle.fw_model.specs.Machine.{SerialEvent, Write}
use Rattle.fw_model.specs.Steps.{lies_below, bases_down, stands_on, is_forgotten}

pub forgotten-below : (sys : System) (low : List Front) (h : List SerialEvent) (writes : List Write) (x : Write) → is_forgotten sys low h writes x ≡ true
    → lies_below sys low h x.node x.written ≡ true
forgotten-below sys low h writes x k =
    (and_parts (lies_below sys low h x.node x.written)
    (list_all (λ (y : Write). not (stands_on writes y x) || lies_below sys low h y.node y.written) writes) k).0

pub none-down : (depth p : ℕ) (writes : List Write) → bases_down depth p None writes ≡ []
none-down zero p writes = refl
none-down (suc depth) p writes = refl

pub and-true : (b : Bool) → (b && true) ≡ b
and-true true = refl
and-true false = refl
