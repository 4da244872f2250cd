-- What is held of a family: for each node the bag that it sends.
use Rattle.std.specs.Prelude.{◌≡◌, ℕ, ◌+◌, ◌<◌, List, [], length, slice_index_or}
use Rattle.fw_time.specs.Stamp.{Stamp}
use Rattle.fw_flow.specs.Dataflow.{Dataflow, System, kind_of, sender, receiver}
use Rattle.fw_flow.specs.WholeBags.{Timed, in_order, outputs_of}
use Rattle.fw_model.specs.Carried.{carried_timed}
use Rattle.fw_model.specs.Denotation.{Family, bag_at}
use Rattle.fw_model.specs.Measure.{Measure}
use Rattle.fw_denote.specs.Domains.{AreOut}

-- the bag that a node sends
abbrev pub bag_sent_by : List (List Timed) → ℕ → List Timed
bag_sent_by bags p = slice_index_or bags p []

-- the family of the edges: each carries its part of the bag that its sender sends
abbrev pub family_held : Dataflow → List (List Timed) → Family
family_held flow bags e = carried_timed flow e (bag_sent_by bags (sender flow e))

-- there is a bag for each node of the flow, in order and at stamps of its out domain
pub record AreBagsHeld (flow : Dataflow) (bags : List (List Timed)) : Type 0 where
  pub one_each : length bags ≡ length flow.nodes
  pub in_order : (p : ℕ) → in_order (bag_sent_by bags p) ≡ bag_sent_by bags p
  pub in_domain : (p : ℕ) → AreOut flow (kind_of flow p) (bag_sent_by bags p)

-- each of the first n nodes sends what it makes of the bags on its in-edges
abbrev pub AreSolvedUpTo : System → ℕ → List (List Timed) → Type 0
AreSolvedUpTo sys n bags = (p : ℕ) → p < n → bag_sent_by bags p ≡ outputs_of sys (family_held sys.flow bags) p

-- so does each node
abbrev pub IsSolved : System → List (List Timed) → Type 0
IsSolved sys bags = AreSolvedUpTo sys (length sys.flow.nodes) bags

-- Bags by node that are those of a family at the stamps of lesser measure than m, and where the first p nodes send also at
-- those of measure m.
pub record AreRight (flow : Dataflow) (by : Measure flow) (family : Family) (p m : ℕ) (bags : List (List Timed)) : Type 0 where
  pub each : (e : ℕ) → e < length flow.edges → (t : Stamp) → by.measure (receiver flow e) t < m
      → bag_at (family_held flow bags) e t ≡ bag_at family e t
  pub first : (e : ℕ) → e < length flow.edges → sender flow e < p → (t : Stamp) → by.measure (receiver flow e) t < m + 1
      → bag_at (family_held flow bags) e t ≡ bag_at family e t

-- the bags on the edges as a family; nothing past the last edge
abbrev pub family_on : List (List Timed) → Family
family_on bags e = slice_index_or bags e []
