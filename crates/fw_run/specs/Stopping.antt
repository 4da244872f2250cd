-- What a run leaves in its store, and where a store may stop it.
use Rattle.std.specs.Prelude.{◌≡◌, ℕ, ◌<◌, ◌≤◌, true, false, List, [], ◌∷◌, ◌++◌, length, Option, IsSome}
use Rattle.std.specs.FinMap as map
use Rattle.std.specs.List.{Contains}
use Rattle.std.specs.Option.{ForSome}
use Rattle.fw_flow.specs.declared.step.Step.{Step}
use Rattle.fw_flow.specs.declared.step.Step.TheVariants.{Collect, Recover}
use Rattle.fw_flow.specs.Dataflow.{Dataflow, System}
use Rattle.fw_schedule.specs.declared.item.Item.{Item}
use Rattle.fw_schedule.specs.declared.item.Item.TheVariants.{One, Auto}
use Rattle.fw_model.specs.Auto.{IsAutoRun}
use Rattle.fw_model.specs.Machine.{Machine}
use Rattle.fw_keep.specs.declared.entry.Entry.{Entry}
use Rattle.fw_keep.specs.Catalogue.{AreAscending, has_entry, ids_of}
use Rattle.fw_keep.specs.Stored.{Records}
use Rattle.fw_stands.specs.Written.{AreEntriesOf, AreStored, uncollected}
use Rattle.fw_running.specs.Steps.{FirstMayCall, MayCallStore, IsStepEnabled, IsLeftBy, IsAskedIn}
use Rattle.fw_run.specs.Reports.{Report, is_fault}

-- ---- what a store holds

-- Of each write of the state that was not collected there is an entry with an id of its own, and the store holds under the id the
-- record of the write, where it tells its records.
pub record HoldsWrites (sys : System) (records : Option Records) (state : Machine) : Type 0 where
  pub entries : List Entry
  pub ascending : AreAscending (ids_of entries)
  pub of_writes : AreEntriesOf sys state entries (uncollected state)
  pub held : AreStored sys state records entries (uncollected state)

-- where the store tells its records, each is under the id of one of these entries
abbrev pub HoldsNoOthers : Option Records → List Entry → Type 0
HoldsNoOthers records entries = ForSome records (λ held. (id : ℕ) → IsSome (map.get held id) → has_entry id entries ≡ true)

-- the last of the items is a collection, and its report, the last one, is no fault of the store
pub record EndSwept (items : List Item) (reports : List Report) : Type 0 where
  pub earlier : List Item
  pub collects : items ≡ earlier ++ One Collect ∷ []
  pub told : List Report
  pub last : Report
  pub parts : reports ≡ told ++ last ∷ []
  pub unfailed : is_fault last ≡ false

-- Behind items with these reports the store holds the records that the state names and, where the last item is a collection in which it did
-- not fail, no others.
pub record HoldsBehind (sys : System) (records : Option Records) (items : List Item) (reports : List Report) (state : Machine) : Type 0 where
  pub writes : HoldsWrites sys records state
  pub no_others : EndSwept items reports → HoldsNoOthers records writes.entries

-- ---- where a run stops

-- From a state an item was begun and led to another one: of a step nothing was taken yet, of `auto` fewer steps than it may take.
abbrev pub ItemBegins : System → Machine → Item → List Step → Machine → Type 0
ItemBegins sys state (One step) steps now = (steps ≡ []) × (now ≡ state)
ItemBegins sys state (Auto most) steps now = (length steps < most) × IsAutoRun sys state (length steps) steps now

-- so much of an item was begun: its one step, or of `auto` as many steps as it may take or fewer
abbrev pub IsPartOf : Item → Item → Type 0
IsPartOf (One step) part = part ≡ One step
IsPartOf (Auto most) part = (few : ℕ) × (few ≤ most) × (part ≡ Auto few)

-- a step that the item names may call the store
abbrev pub MayCallIn : Dataflow → Item → Type 0
MayCallIn flow (One step) = MayCallStore flow step
MayCallIn flow (Auto most) = Unit {0}

-- what a fault of the store in the item's step leaves: of `auto` the first that is enabled, which asks for a write, leaves the state
abbrev pub IsLeftIn : System → Machine → Item → (Machine → Type 0) → Type 0
IsLeftIn sys state (One step) P = IsLeftBy sys state step P
IsLeftIn sys state (Auto most) P = FirstMayCall sys state × P state

-- a recovery is enabled in the state, and its largest choice asks for the record of the entry, which is one of those of the writes of the
-- state that were not collected
abbrev pub IsReadIn : System → Entry → Machine → Type 0
IsReadIn sys entry state =
    IsStepEnabled sys state Recover
    × (entries : List Entry) × AreEntriesOf sys state entries (uncollected state) × Contains entries entry × IsAskedIn sys entries entry state
