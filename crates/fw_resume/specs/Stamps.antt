-- Stamps that are got back from what a checkpoint covers, edge by edge.
use Rattle.std.specs.Prelude.{◌≡◌, ℕ, ◌<◌, true, List, [], ◌∷◌, ◌++◌, length, map}
use Rattle.std.specs.List.{AllByRecursion}
use Rattle.fw_time.specs.Stamp.{Stamp}
use Rattle.fw_flow.specs.declared.choice.Counted.{Counted}
use Rattle.fw_flow.specs.declared.choice.OfEdge.{OfEdge}
use Rattle.fw_flow.specs.declared.choice.Recorded.{Recorded}
use Rattle.fw_flow.specs.Kind.{Kind}
use Rattle.fw_flow.specs.declared.kind.Kind.TheVariants.{Leave, Sequence, Regroup}
use Rattle.fw_flow.specs.Dataflow.{Dataflow, bounds_of, is_one_of, kind_of, receiver}
use Rattle.fw_model.specs.Offers.{counted_on_edge, front_of_edge}
use Rattle.fw_regain.specs.Causes.{cause_told}
use Rattle.fw_regain.specs.Greatest.{AreGreatestIn}

-- Messages on these edges: on each of them such ones, and on others none.
pub record AreOnEdges (P : ℕ → List Counted → Type 0) (edges : List ℕ) (ms : List Counted) : Type 0 where
  pub there : AllByRecursion (λ (m : Counted). is_one_of m.edge edges ≡ true) ms
  pub each : (e : ℕ) → is_one_of e edges ≡ true → P e (counted_on_edge e ms)

-- these are the greatest stamps inside the cover of an edge
abbrev pub AreGreatestOn : Dataflow → ℕ → List OfEdge → List Stamp → Type 0
AreGreatestOn flow e covers tops = AreGreatestIn (bounds_of flow (receiver flow e)) (front_of_edge (bounds_of flow (receiver flow e)) e covers) tops

-- the messages are at the greatest stamps inside the cover of what was delivered on an edge
abbrev pub AreDeliveredBack : Dataflow → Recorded → ℕ → List Counted → Type 0
AreDeliveredBack flow r d ms = AreGreatestOn flow d r.delivered (map (λ (m : Counted). m.at) ms)

-- the cause of a message that a node of the kind sent at a stamp; of a sequence, which does not tell it, the first epoch
abbrev pub cause_back : Kind → Stamp → Stamp
cause_back Sequence u = 0 ∷ []
cause_back kind u = cause_told kind u

-- a message that a node of the kind sent
abbrev pub sent_at : Kind → ℕ → Stamp → Counted
sent_at kind e u = record { edge = e; at = u; causes = cause_back kind u ∷ []; count = 1 }

-- a stamp at which a node of the kind sends is as long as its cause asks: where a loop is left it has a place for the counter, and an
-- epoch of regrouped numbers has one coordinate
abbrev pub HasLengthFor : Kind → Stamp → Type 0
HasLengthFor (Leave l) u = length u < 4
HasLengthFor (Regroup n) u = length u ≡ 1
HasLengthFor kind u = Unit {0}

-- what node p sent on edge e is got back: at the greatest stamps inside the cover
abbrev pub AreSentBack : Dataflow → ℕ → Recorded → ℕ → List Counted → Type 0
AreSentBack flow p r e ms = (tops : List Stamp) × AreGreatestOn flow e r.discarded tops × (ms ≡ map (sent_at (kind_of flow p) e) tops)

-- There are these messages more, of one edge.
pub record HasMoreOn (P : ℕ → List Counted → Type 0) (e : ℕ) (old new : List Counted) : Type 0 where
  pub more : List Counted
  pub put : new ≡ old ++ more
  pub of_edge : AllByRecursion (λ (m : Counted). m.edge ≡ e) more
  pub right : P e more
