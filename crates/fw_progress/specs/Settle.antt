-- What becomes settled.
use Rattle.std.specs.Prelude.{◌≡◌, ℕ, ◌<◌, ◌≤◌, Bool, true, false, not, ◌&&◌, List, length, slice_index_or, Option, Some, None}
use Rattle.std.specs.List.{list_any}
use Rattle.std.specs.Global.{Vec}
use Rattle.fw_time.specs.declared.stamp.Bounds.{Bounds}
use Rattle.fw_frontier.specs.Frontier.{Frontier, join}
use Rattle.fw_frontier.specs.Front.{Front, inside, frontier_of, IsCanonical, IsFrontOf}
use Rattle.fw_flow.specs.Dataflow.{System, Dataflow, bounds_of}
use Rattle.fw_model.specs.History.{IsComplete}
use Rattle.fw_model.specs.Machine.{Machine, events, front_of}
use Rattle.fw_model.specs.Settled.{HasMoreToSettle}
use Rattle.fw_model.specs.Steps.{GrowsTo}

-- What the nodes that are not failed settle, where one of them has more to settle; nothing where none has.
abbrev pub SettlesMore : System → Machine → Option (Vec Front) → Type 0
SettlesMore sys state None = (done : ℕ → Frontier) → IsComplete sys (events state.history) done → HasMoreToSettle sys state done → ⊥
SettlesMore sys state (Some settled) = (done : ℕ → Frontier) × GrowsTo sys state done settled.items

-- whether a frontier has a stamp inside that is outside another
abbrev pub has_more : Front → Front → Bool
has_more front other = list_any (λ o. inside front o) other

-- What node p settles: what is settled and kept, where more is kept than is settled; nothing where no more is.
abbrev pub IsGrownAt : Dataflow → List Front → List Front → ℕ → Option Front → Type 0
IsGrownAt flow settled kept p None = has_more (front_of kept p) (front_of settled p) ≡ false
IsGrownAt flow settled kept p (Some both) =
    (has_more (front_of kept p) (front_of settled p) ≡ true)
    × IsFrontOf (bounds_of flow p) both (join (frontier_of (bounds_of flow p) (front_of settled p)) (frontier_of (bounds_of flow p) (front_of kept p)))

-- whether node p is to settle: it is not failed, and more is kept than is settled
abbrev pub is_growing : List Bool → List Front → List Front → ℕ → Bool
is_growing failed settled kept p = not (slice_index_or failed p false) && has_more (front_of kept p) (front_of settled p)

-- no node from the one place up to the other is to settle
abbrev pub NoneGrows : List Bool → List Front → List Front → ℕ → ℕ → Type 0
NoneGrows failed settled kept from until = (p : ℕ) → from ≤ p → p < until → is_growing failed settled kept p ≡ false

-- Each node before a place that was to settle did so, and of each other node as much is settled as was.
pub record AreGrownBefore (flow : Dataflow) (failed : List Bool) (old kept new : List Front) (place : ℕ) : Type 0 where
  pub one_each : length new ≡ length old
  pub grown : (p : ℕ) → p < place → is_growing failed old kept p ≡ true → IsGrownAt flow old kept p (Some (front_of new p))
  pub others : (p : ℕ) → (p < place → is_growing failed old kept p ≡ false) → front_of new p ≡ front_of old p

-- ---- for the proofs

-- the kept frontier of some node that is not failed has more than is settled there
pub record HasMore (failed : List Bool) (kept settled : List Front) : Type 0 where
  pub node : ℕ
  pub there : node < length failed
  pub live : slice_index_or failed node false ≡ false
  pub more : has_more (front_of kept node) (front_of settled node) ≡ true

-- a frontier is as it was at a node that is failed, and else the union of what is settled and kept
abbrev pub IsJoined : Bounds → Bool → Front → Front → Front → Type 0
IsJoined bounds true settled kept both = both ≡ settled
IsJoined bounds false settled kept both = IsCanonical bounds settled → IsCanonical bounds kept
    → IsFrontOf bounds both (join (frontier_of bounds settled) (frontier_of bounds kept))

-- so many frontiers are so
pub record AreGrown (flow : Dataflow) (count : ℕ) (failed : List Bool) (settled kept both : List Front) : Type 0 where
  pub one_each : length both ≡ count
  pub each : (p : ℕ) → p < count → IsJoined (bounds_of flow p) (slice_index_or failed p false) (front_of settled p) (front_of kept p) (front_of both p)
