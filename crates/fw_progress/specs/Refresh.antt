-- Nodes are taken up until none waits.
use Rattle.std.specs.Prelude.{◌≡◌, ℕ, zero, suc, ◌+◌, ◌≤◌, List, [], ◌∷◌, length}
use Rattle.fw_frontier.specs.Front.{Front}
use Rattle.fw_flow.specs.Dataflow.{Dataflow}
use Rattle.fw_model.specs.Machine.{family_of, AreCanonical}
use Rattle.fw_progress.specs.declared.counts.Counts.{Counts}
use Rattle.fw_progress.specs.declared.growth.Growth.{Growth}
use Rattle.fw_progress.specs.Counts.{IsAdmissibleBy, AreStuckOutside}
use Rattle.fw_progress.specs.Growths.{AreGrowths, out_degrees, IsWidened}
use Rattle.fw_progress.specs.Leap.{HaveLeapt}

-- a node was taken up: it was leapt with, and then widened
pub record IsTakenUp (flow : Dataflow) (counts : Counts) (p : ℕ) (old new : List Front) (work rest : List ℕ) (growths more : List Growth) : Type 0 where
  pub mid : List Front
  pub between : List ℕ
  pub some : List Growth
  pub leapt : HaveLeapt flow counts p old mid work between growths some
  pub widened : IsWidened flow counts p mid new between rest some more

-- the first node that waited was taken up
pub record IsFirstTakenUp (flow : Dataflow) (counts : Counts) (old new : List Front) (work rest : List ℕ) (growths more : List Growth) : Type 0 where
  pub node : ℕ
  pub left : List ℕ
  pub first : work ≡ node ∷ left
  pub taken : IsTakenUp flow counts node old new left rest growths more

-- so many nodes were taken up, one after the other, each of them the first that waited
abbrev pub AreTakenInTurn : Dataflow → Counts → ℕ → List Front → List Front → List ℕ → List ℕ → List Growth → List Growth → Type 0
AreTakenInTurn flow counts zero old new work rest growths more = (new ≡ old) × (rest ≡ work) × (more ≡ growths)
AreTakenInTurn flow counts (suc n) old new work rest growths more =
    (mid : List Front) × (between : List ℕ) × (some : List Growth)
    × AreTakenInTurn flow counts n old mid work between growths some × IsFirstTakenUp flow counts mid new between rest some more

-- What a refresh leaves: an admissible family in which no node can be widened, the growths up to it, and no node that waits. Each
-- node that was taken up is a step; there is one for each node that waited, and no more than those and one for each edge from a
-- node that grew. Where no node waited, the family stays.
pub record IsRefreshed (flow : Dataflow) (counts : Counts) (old new : List Front) (work rest : List ℕ) (growths : List Growth) (before after : ℕ) : Type 0 where
  pub one_each : length new ≡ length flow.nodes
  pub canonical : AreCanonical flow new
  pub admissible : IsAdmissibleBy flow counts (family_of flow old) → IsAdmissibleBy flow counts (family_of flow new)
  pub stuck : IsAdmissibleBy flow counts (family_of flow old) → AreStuckOutside flow counts old work → AreStuckOutside flow counts new []
  pub grown : AreGrowths flow old growths new
  pub count : ℕ
  pub taken : AreTakenInTurn flow counts count old new work rest [] growths
  pub steps : after ≡ before + count
  pub bound : after ≤ before + length work + out_degrees flow growths
  pub each_taken : before + length work ≤ after
  pub none_waits : rest ≡ []
  pub still : work ≡ [] → new ≡ old
