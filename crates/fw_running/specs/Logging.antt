-- What asking a write makes of what an engine keeps.
use Rattle.std.specs.Prelude.{◌≡◌, ℕ, List, [], ◌∷◌, ◌++◌, Option, option_map}
use Rattle.std.specs.FinMap as map_of
use Rattle.fw_flow.specs.declared.choice.Stamps.{Stamps}
use Rattle.fw_flow.specs.declared.kind.Policy.TheVariants as policy
use Rattle.fw_flow.specs.Dataflow.{Dataflow, policy_of}
use Rattle.fw_record.specs.declared.record.Event.{Event}
use Rattle.fw_record.specs.declared.record.Record.{Record}
use Rattle.fw_record.specs.declared.record.Record.TheVariants as tagged
use Rattle.fw_record.specs.Spelling.{spelling}
use Rattle.fw_keep.specs.declared.entry.Entry.{Entry}
use Rattle.fw_keep.specs.Catalogue.{KeepState}
use Rattle.fw_keep.specs.Entry.{asked_beside}
use Rattle.fw_keep.specs.Stored.{Records, IsFreed, KeepsBytes}
use Rattle.fw_stands.specs.Entries.{HasRecOf64Bits}
use Rattle.fw_running.specs.declared.running.Running.{Running}

-- what is kept with this catalogue
abbrev pub with_keep : KeepState → Running → Running
with_keep keep running = record running { parts = record running.parts { keep = keep } }

-- nothing but the catalogue is changed
abbrev pub ChangesKeep : Running → Running → Type 0
ChangesKeep old new = new ≡ with_keep new.parts.keep old

-- The write of a record is asked, with these stamps: it is the last of the entries, under an id of its own, and its bytes are put
-- beside those of the others.
pub record IsAsked (what : Record) (stamps : Stamps) (old new : List Entry) (before after : Option Records) : Type 0 where
  pub id : ℕ
  pub entries : new ≡ old ++ asked_beside old id what stamps ∷ []
  pub records : after ≡ option_map (λ held. map_of.insert held id (spelling what)) before
  pub bytes : KeepsBytes old before after

-- Nothing is asked.
pub record IsNotAsked (old new : List Entry) (before after : Option Records) : Type 0 where
  pub entries : new ≡ old
  pub records : after ≡ before

-- The asking of a write is refused: no entry is added, the bytes of the entries stay, and the records are as they were; where the store may
-- hold what others put, all but the one under the next id are.
pub record IsAskRefused (old new : KeepState) (before after : Option Records) : Type 0 where
  pub entries : new.entries ≡ old.entries
  pub records : IsFreed old.shared old.next before after
  pub bytes : KeepsBytes old.entries before after

-- The write of this event of node p is asked.
pub record IsEventAsked (p : ℕ) (event : Event) (old new : List Entry) (before after : Option Records) : Type 0 where
  pub stamps : Stamps
  pub asked : IsAsked (tagged.Event p event) stamps old new before after
  pub of_64_bits : HasRecOf64Bits event

-- The catalogue after this event of node p: where the node logs each event the write of it is asked, and elsewhere nothing is.
pub record LogsEvent (flow : Dataflow) (p : ℕ) (event : Event) (old new : List Entry) (before after : Option Records) : Type 0 where
  pub logged : policy_of flow p ≡ policy.Full → IsEventAsked p event old new before after
  pub other : (policy_of flow p ≡ policy.Full → ⊥) → IsNotAsked old new before after
