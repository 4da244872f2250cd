-- What bringing the kept frontiers up makes of what an engine keeps.
use Rattle.std.specs.Prelude.{◌≡◌, ℕ, List}
use Rattle.std.specs.List.{All, Contains}
use Rattle.fw_progress.specs.declared.growth.Growth.{Growth}
use Rattle.fw_progress.specs.History.{IsFresh}
use Rattle.fw_progress.specs.Progress.{Standing, IsOfFlow}
use Rattle.fw_running.specs.declared.running.Running.{Running}
use Rattle.fw_running.specs.Ready.{HasGrown}

-- what is kept with this progress, and these nodes as growing
abbrev pub with_progress : Standing → List ℕ → Running → Running
with_progress progress growing running = record running {
  progress = progress;
  ready = record running.ready { growing = growing };
}

-- nothing but progress and the nodes that grow is changed
abbrev pub ChangesProgress : Running → Running → Type 0
ChangesProgress old new = new ≡ with_progress new.progress new.ready.growing old

-- where among the growing nodes were all that have more kept than settled, they still are
abbrev pub KeepsGrowing : Running → Running → Type 0
KeepsGrowing old new =
    ((p : ℕ) → HasGrown old p → Contains old.ready.growing p) → (p : ℕ) → HasGrown new p → Contains new.ready.growing p

-- The nodes that grew are put among the places.
pub record AreNoted (growths : List Growth) (old new : List ℕ) : Type 0 where
  pub there : All (λ (growth : Growth). Contains new growth.node) growths
  pub stays : (p : ℕ) → Contains old p → Contains new p

-- The kept frontiers are complete, and where they grew is noted.
pub record IsBroughtUp (old new : Running) : Type 0 where
  pub others : ChangesProgress old new
  pub fresh : IsFresh old.flow old.progress new.progress
  pub progress : IsOfFlow old.flow new.progress
  pub growing : KeepsGrowing old new
