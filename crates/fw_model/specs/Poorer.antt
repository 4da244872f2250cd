-- Covers that lack some of what others have, but nothing outside a floor.
use Rattle.std.specs.Prelude.{◌≡◌, ℕ, ◌<◌, length}
use Rattle.fw_frontier.specs.Frontier.{Frontier, Within, join}
use Rattle.fw_flow.specs.declared.choice.Choice.{Choice}
use Rattle.fw_flow.specs.declared.choice.Cut.{Cut}
use Rattle.fw_flow.specs.Dataflow.{Dataflow, sender, receiver}
use Rattle.fw_model.specs.Covers.{Covers}
use Rattle.fw_model.specs.Choice.{cut_of}

-- The first lies within the second, which has at most what the first and what the floor has.
pub record IsPoorer (poor rich floor : Frontier) : Type 0 where
  pub within : Within poor rich
  pub rest : Within rich (join poor floor)

-- At each cut that is offered the covers are poorer by at most what those of the floor's cut have; and what arrives is the same.
pub record ArePoorer (flow : Dataflow) (poor rich : Covers) (offers : ℕ → Cut → Type 0) (floor : Choice) : Type 0 where
  pub delivered : (d : ℕ) → d < length flow.edges → (cut : Cut) → offers (receiver flow d) cut
      → IsPoorer (poor.delivered d cut) (rich.delivered d cut) (rich.delivered d (cut_of floor (receiver flow d)))
  pub discarded : (e : ℕ) → e < length flow.edges → (cut : Cut) → offers (sender flow e) cut
      → IsPoorer (poor.discarded e cut) (rich.discarded e cut) (rich.discarded e (cut_of floor (sender flow e)))
  pub notified : (p : ℕ) → p < length flow.nodes → (cut : Cut) → offers p cut
      → IsPoorer (poor.notified p cut) (rich.notified p cut) (rich.notified p (cut_of floor p))
  pub arrived : (e : ℕ) → e < length flow.edges → (f : Frontier) → poor.arrived e f ≡ rich.arrived e f
