-- Frontiers that grow, one after the other.
use Rattle.std.specs.Prelude.{◌≡◌, ◌≢◌, ◌⊎◌, ℕ, ◌+◌, ◌<◌, ◌≤◌, ◌==◌, Bool, true, false, List, [], ◌∷◌, ◌++◌, length, set}
use Rattle.std.specs.List.{AllByRecursion, list_all}
use Rattle.fw_frontier.specs.Frontier.{Within}
use Rattle.fw_frontier.specs.Front.{Front, IsFrontOf}
use Rattle.fw_flow.specs.Counting.{how_many}
use Rattle.fw_flow.specs.Dataflow.{Dataflow, receiver, out_edges, bounds_of, node_frontier}
use Rattle.fw_model.specs.Machine.{family_of, AreCanonical}
use Rattle.fw_progress.specs.declared.counts.Counts.{Counts}
use Rattle.fw_progress.specs.declared.growth.Growth.{Growth}
use Rattle.fw_progress.specs.Counts.{target_by, IsAdmissibleBy, IsStuckBy, is_in, AreNodes}

-- a front names more than the node has so far
pub record IsMore (flow : Dataflow) (fronts : List Front) (p : ℕ) (front : Front) : Type 0 where
  pub above : Within (family_of flow fronts p) (node_frontier flow p front)
  pub strictly : Within (node_frontier flow p front) (family_of flow fronts p) → ⊥

-- where the largest frontier that a node can have has all of the one so far, it has no more
abbrev pub IsNoMore : Dataflow → Counts → List Front → ℕ → Type 0
IsNoMore flow counts fronts p =
    Within (family_of flow fronts p) (target_by flow counts (family_of flow fronts) p) → IsStuckBy flow counts fronts p

-- each growth lies strictly above the node's frontier so far, and the last ones are the new frontiers
abbrev pub AreGrowths : Dataflow → List Front → List Growth → List Front → Type 0
AreGrowths flow old [] new = new ≡ old
AreGrowths flow old (g ∷ gs) new = IsMore flow old g.node g.front × AreGrowths flow (set old g.node g.front) gs new

-- how many edges lead from the nodes that grew
abbrev pub out_degrees : Dataflow → List Growth → ℕ
out_degrees flow [] = 0
out_degrees flow (g ∷ gs) = length (out_edges flow g.node) + out_degrees flow gs

-- how often a node is among the growths
abbrev pub times_grown : List Growth → ℕ → ℕ
times_grown growths p = how_many (λ (g : Growth). g.node == p) growths

-- each node grew once more at most
abbrev pub GrewOnce : List Growth → List Growth → Type 0
GrewOnce growths more = (p : ℕ) → times_grown more p ≤ times_grown growths p + 1

-- the node is in the list, and what was there is; nothing else is, and it is longer by one at most, and never shorter
pub record IsEnlisted (node : ℕ) (old new : List ℕ) : Type 0 where
  pub there : is_in new node ≡ true
  pub stays : (q : ℕ) → is_in old q ≡ true → is_in new q ≡ true
  pub nodes : (P : ℕ → Bool) → P node ≡ true → list_all P old ≡ true → list_all P new ≡ true
  pub few : length new ≤ length old + 1
  pub none_out : length old ≤ length new

-- the receivers of these edges are put into the list, one after the other
pub record ArePut (flow : Dataflow) (edges : List ℕ) (old new : List ℕ) : Type 0 where
  pub there : AllByRecursion (λ e. is_in new (receiver flow e) ≡ true) edges
  pub stays : (q : ℕ) → is_in old q ≡ true → is_in new q ≡ true
  pub nodes : (P : ℕ → Bool) → list_all (λ e. P (receiver flow e)) edges ≡ true → list_all P old ≡ true → list_all P new ≡ true
  pub few : length new ≤ length old + length edges
  pub none_out : length old ≤ length new

-- A node has a larger frontier: it is listed, and the receivers of its out-edges wait.
pub record IsGrown (flow : Dataflow) (p : ℕ) (front : Front) (old new : List Front) (work rest : List ℕ) (growths more : List Growth) : Type 0 where
  pub changed : new ≡ set old p front
  pub listed : more ≡ growths ++ record { node = p; front = front } ∷ []
  pub put : ArePut flow (out_edges flow p) work rest

-- Frontiers grew one after the other, and the receivers below them wait: each node that does not wait can be widened only if it
-- could be before.
pub record HaveGrown (flow : Dataflow) (counts : Counts) (old new : List Front) (work rest : List ℕ) (growths more : List Growth) : Type 0 where
  pub added : List Growth
  pub grown : AreGrowths flow old added new
  pub listed : more ≡ growths ++ added
  pub one_each : length new ≡ length old
  pub canonical : AreCanonical flow old → AreCanonical flow new
  pub nodes : AreNodes flow work → AreNodes flow rest
  pub few : length rest ≤ length work + out_degrees flow added
  pub none_out : length work ≤ length rest
  pub stays : (q : ℕ) → is_in work q ≡ true → is_in rest q ≡ true
  pub leaves : (q : ℕ) → q < length flow.nodes → is_in rest q ≡ false → IsStuckBy flow counts old q → IsStuckBy flow counts new q

-- Node p had less than it can have by the frontiers so far, and has all of that at once: it grew, no other node did, and the receivers
-- of its out-edges wait.
pub record IsWidenedOnce (flow : Dataflow) (counts : Counts) (p : ℕ) (old new : List Front) (work rest : List ℕ) (growths more : List Growth) : Type 0 where
  pub front : Front
  pub most : IsFrontOf (bounds_of flow p) front (target_by flow counts (family_of flow old) p)
  pub larger : IsMore flow old p front
  pub grown : IsGrown flow p front old new work rest growths more

-- Node p can have no more, and nothing changed.
pub record IsNotWidened (flow : Dataflow) (counts : Counts) (p : ℕ) (old new : List Front) (work rest : List ℕ) (growths more : List Growth) : Type 0 where
  pub none : IsNoMore flow counts old p
  pub same : new ≡ old
  pub same_work : rest ≡ work
  pub same_growths : more ≡ growths

-- A node was widened: it alone grew, once, to the largest frontier that it can have, or nothing changed. Unless it waits again it can
-- have no more.
pub record IsWidened (flow : Dataflow) (counts : Counts) (p : ℕ) (old new : List Front) (work rest : List ℕ) (growths more : List Growth) : Type 0 where
  pub once : IsWidenedOnce flow counts p old new work rest growths more ⊎ IsNotWidened flow counts p old new work rest growths more
  pub grew : HaveGrown flow counts old new work rest growths more
  pub admissible : IsAdmissibleBy flow counts (family_of flow old) → IsAdmissibleBy flow counts (family_of flow new)
  pub stuck : IsAdmissibleBy flow counts (family_of flow old) → is_in rest p ≡ false → IsStuckBy flow counts new p

-- ---- for the proofs

-- node p grew once more at most, and no other node did
pub record GrewAlone (p : ℕ) (growths more : List Growth) : Type 0 where
  pub here : times_grown more p ≤ times_grown growths p + 1
  pub others : (q : ℕ) → q ≢ p → times_grown more q ≡ times_grown growths q
