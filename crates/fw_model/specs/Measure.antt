-- A measure of stamps that falls towards the sender of each edge.
use Rattle.std.specs.Prelude.{◌≡◌, ℕ, ◌+◌, ◌*◌, ◌<◌, true, false, length, Some}
use Rattle.fw_time.specs.Stamp.{leq, Stamp}
use Rattle.fw_flow.specs.Dataflow.{Dataflow, sender, receiver, send_stamp}
use Rattle.fw_flow.specs.Ranks.{is_looped}

-- how many pairs there are of a counter up to 1024 and a rank up to the number of nodes
abbrev pub rounds_in_loop : Dataflow → ℕ
rounds_in_loop flow = 1025 * (length flow.nodes + 1)

-- how many rounds reach the denotation: for a rank up to the number of nodes and, for each of three loops within each other, a
-- counter and a rank
unfoldable pub enough_rounds : Dataflow → ℕ
enough_rounds flow = (length flow.nodes + 1) * rounds_in_loop flow * rounds_in_loop flow * rounds_in_loop flow

-- A measure of the stamps of each node's domain, which is bounded and falls towards the sender of each edge: into a node
-- that is not looped whatever the stamps, and into a looped one towards each stamp that sends at this one or below.
pub record Measure (flow : Dataflow) : Type 0 where
  pub measure : ℕ → Stamp → ℕ
  pub bound : (p : ℕ) → p < length flow.nodes → (t : Stamp) → measure p t < enough_rounds flow
  pub into_unlooped : (e : ℕ) → e < length flow.edges → is_looped flow (receiver flow e) ≡ false → (s t : Stamp)
      → measure (sender flow e) s < measure (receiver flow e) t
  pub into_looped : (e : ℕ) → e < length flow.edges → is_looped flow (receiver flow e) ≡ true → (s t u : Stamp)
      → send_stamp flow (sender flow e) s ≡ Some u → leq u t ≡ true → measure (sender flow e) s < measure (receiver flow e) t
