-- Runs in which no open source injects its last batch.
use Rattle.std.specs.Prelude.{◌≡◌, ℕ, ◌+◌, ◌<◌, Bool, true, List, [], ◌∷◌, length}
use Rattle.fw_flow.specs.declared.step.Step.{Step}
use Rattle.fw_flow.specs.declared.step.Step.TheVariants.{Inject}
use Rattle.fw_flow.specs.Dataflow.{System, batches_of}
use Rattle.fw_model.specs.History.{injected_count}
use Rattle.fw_model.specs.Machine.{Machine, events}
use Rattle.fw_model.specs.Steps.{Effect, LeadsTo}

-- the step is no injection of the last batch of an open source
abbrev pub HoldsBack : (ℕ → Bool) → System → Machine → Step → Type 0
HoldsBack opened sys state (Inject s) = opened s ≡ true → injected_count s (events state.history) + 1 < length (batches_of sys s)
HoldsBack opened sys state step = Unit {0}

-- From a state these steps, each enabled where it is taken, lead to the last one with these effects, and none injects the last batch of
-- an open source.
abbrev pub OpenRun : (ℕ → Bool) → System → Machine → List Step → List Effect → Machine → Type 0
OpenRun opened sys state [] [] last = last ≡ state
OpenRun opened sys state [] (effect ∷ effects) last = ⊥
OpenRun opened sys state (step ∷ steps) [] last = ⊥
OpenRun opened sys state (step ∷ steps) (effect ∷ effects) last =
    (next : Machine) × HoldsBack opened sys state step × LeadsTo sys state step next effect × OpenRun opened sys next steps effects last
