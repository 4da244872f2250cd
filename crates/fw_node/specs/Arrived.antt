-- What came to a node, from the list of its events.
use Rattle.std.specs.Prelude.{◌≡◌, ℕ, ◌+◌, true, ◌==◌, if◌then◌else◌, List, [], ◌∷◌}
use Rattle.fw_bag.specs.Arrivals.{Arrival}
use Rattle.fw_flow.specs.Dataflow.{is_one_of}
use Rattle.fw_flow.specs.declared.event.Event.{Event}
use Rattle.fw_flow.specs.declared.event.Event.TheVariants.{Inject, Deliver, Notify}

-- the place of an edge among others, counted from 0
abbrev pub place_in : List ℕ → ℕ → ℕ
place_in [] e = 0
place_in (d ∷ ds) e = if d == e then 0 else place_in ds e + 1

-- what events of a node with these in-edges delivered to it, the latest first
abbrev pub arrived : List ℕ → List Event → List Arrival
arrived ins [] = []
arrived ins (Inject s x ∷ vs) = arrived ins vs
arrived ins (Deliver e m ∷ vs) = record { side = place_in ins e; at = m.at; rec = m.rec } ∷ arrived ins vs
arrived ins (Notify p t ∷ vs) = arrived ins vs

-- the edge is one of these
abbrev pub IsOneOf : List ℕ → ℕ → Type 0
IsOneOf ins e = is_one_of e ins ≡ true

-- each delivery is on one of these edges
abbrev pub AreOnEdges : List ℕ → List Event → Type 0
AreOnEdges ins [] = Unit {0}
AreOnEdges ins (Inject s x ∷ vs) = AreOnEdges ins vs
AreOnEdges ins (Deliver e m ∷ vs) = IsOneOf ins e × AreOnEdges ins vs
AreOnEdges ins (Notify p t ∷ vs) = AreOnEdges ins vs
