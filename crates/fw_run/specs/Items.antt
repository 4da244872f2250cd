-- The steps to which the items of a schedule come.
use Rattle.std.specs.Prelude.{◌≡◌, Bool, true, false, List, [], ◌∷◌, ◌++◌}
use Rattle.fw_flow.specs.declared.step.Step.{Step}
use Rattle.fw_flow.specs.declared.step.Step.TheVariants.{Fail, Recover}
use Rattle.fw_flow.specs.Dataflow.{System}
use Rattle.fw_schedule.specs.declared.item.Item.{Item}
use Rattle.fw_schedule.specs.declared.item.Item.TheVariants.{One, Auto}
use Rattle.fw_model.specs.Auto.{IsAutoRun}
use Rattle.fw_model.specs.Machine.{Machine}
use Rattle.fw_model.specs.Steps.{Outcome, StepsTo, Run}

-- From a state an item comes to these steps, which lead to the next state: one step, enabled or not, or those that `auto` takes.
abbrev pub ItemComesTo : System → Machine → Item → List Step → Machine → Type 0
ItemComesTo sys state (One step) steps next = (outcome : Outcome) × StepsTo sys state step next outcome × (steps ≡ step ∷ [])
ItemComesTo sys state (Auto most) steps next = IsAutoRun sys state most steps next

-- From a state the items come to these steps, which lead to the last one: each item to its own, from where the items before it
-- led.
abbrev pub ComesTo : System → Machine → List Item → List Step → Machine → Type 0
ComesTo sys state [] steps last = (steps ≡ []) × (last ≡ state)
ComesTo sys state (item ∷ items) steps last =
    (first : List Step) × (next : Machine) × (others : List Step) × ItemComesTo sys state item first next
    × ComesTo sys next items others last × (steps ≡ first ++ others)

-- From the state the item comes to these steps, which the machine takes to the last one, with these outcomes.
pub record ItemRun (sys : System) (state : Machine) (item : Item) : Type 0 where
  pub steps : List Step
  pub outcomes : List Outcome
  pub last : Machine
  pub comes : ItemComesTo sys state item steps last
  pub run : Run sys state steps outcomes last

-- the same of items
pub record ItemsRun (sys : System) (state : Machine) (items : List Item) : Type 0 where
  pub steps : List Step
  pub outcomes : List Outcome
  pub last : Machine
  pub comes : ComesTo sys state items steps last
  pub run : Run sys state steps outcomes last

-- whether no node is failed after the item, by whether none is before it: after a failure one is, after a recovery none
abbrev pub live_after : Bool → Item → Bool
live_after live (One (Fail nodes)) = false
live_after live (One Recover) = true
live_after live item = live

-- the same of items, so that behind the last failure among them comes a recovery
abbrev pub all_live_after : Bool → List Item → Bool
all_live_after live [] = live
all_live_after live (item ∷ items) = all_live_after (live_after live item) items
