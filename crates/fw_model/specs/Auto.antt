-- Steps that are taken by themselves: each is the first that is enabled, in one order.
use Rattle.std.specs.Prelude.{◌≡◌, ℕ, zero, suc, List, [], ◌∷◌, ◌++◌, map, length, None}
use Rattle.std.specs.List.{range_with_len, AllByRecursion}
use Rattle.fw_flow.specs.declared.step.Step.{Step}
use Rattle.fw_flow.specs.declared.step.Step.TheVariants.{Inject, Deliver, Notify, Progress as ProgressStep, Persist, Ack}
use Rattle.fw_flow.specs.Dataflow.{Dataflow, System, node_ids}
use Rattle.fw_model.specs.Machine.{Machine}
use Rattle.fw_model.specs.Steps.{Effect, Outcome, did, idle, LeadsTo}

-- the places of the edges, in order
abbrev pub edge_ids : Dataflow → List ℕ
edge_ids flow = range_with_len 0 (length flow.edges)

-- the delivery of the next message on each edge
abbrev pub deliveries : Dataflow → List Step
deliveries flow = map (λ e. Deliver e None) (edge_ids flow)

-- the next notification of each node
abbrev pub notifications : Dataflow → List Step
notifications flow = map (λ p. Notify p None) (node_ids flow)

-- the acknowledgement of each node
abbrev pub acknowledgements : Dataflow → List Step
acknowledgements flow = map Ack (node_ids flow)

-- the next batch of each node
abbrev pub injections : Dataflow → List Step
injections flow = map Inject (node_ids flow)

-- the steps in the order in which `auto` tries them
abbrev pub auto_steps : Dataflow → List Step
auto_steps flow =
    Persist ∷ (deliveries flow ++ (notifications flow ++ (ProgressStep ∷ (acknowledgements flow ++ injections flow))))

-- the step is not enabled
abbrev pub IsIdle : System → Machine → Step → Type 0
IsIdle sys state step = (next : Machine) (effect : Effect) → LeadsTo sys state step next effect → ⊥

-- none of the steps is enabled
abbrev pub AreIdle : System → Machine → List Step → Type 0
AreIdle sys state steps = AllByRecursion (IsIdle sys state) steps

-- The step is the first of these that is enabled, and it leads to the next state with this effect.
pub record IsFirstEnabled (sys : System) (state : Machine) (steps : List Step) (step : Step) (next : Machine) (effect : Effect) : Type 0 where
  pub earlier : List Step
  pub later : List Step
  pub among : steps ≡ earlier ++ step ∷ later
  pub none_earlier : AreIdle sys state earlier
  pub leads : LeadsTo sys state step next effect

-- Of these steps the first that is enabled is taken; where none is, nothing changes.
abbrev pub TakesFirst : System → Machine → List Step → Machine → Outcome → Type 0
TakesFirst sys state steps next (did effect) = (step : Step) × IsFirstEnabled sys state steps step next effect
TakesFirst sys state steps next idle = AreIdle sys state steps × (next ≡ state)

-- From a state `auto` takes these steps, at most so many, each the first that is enabled where it is taken, and fewer only
-- where none is enabled after them.
abbrev pub IsAutoRun : System → Machine → ℕ → List Step → Machine → Type 0
IsAutoRun sys state zero [] last = last ≡ state
IsAutoRun sys state zero (step ∷ steps) last = ⊥
IsAutoRun sys state (suc most) [] last = AreIdle sys state (auto_steps sys.flow) × (last ≡ state)
IsAutoRun sys state (suc most) (step ∷ steps) last =
    (next : Machine) × (effect : Effect) × IsFirstEnabled sys state (auto_steps sys.flow) step next effect × IsAutoRun sys next most steps last
