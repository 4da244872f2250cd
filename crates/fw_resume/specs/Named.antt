-- Which records a store holds of the writes that a root names.
use Rattle.std.specs.Prelude.{◌≡◌, ◌↔◌, ℕ, Option, IsSome}
use Rattle.std.specs.List.{Contains}
use Rattle.fw_flow.specs.Dataflow.{System}
use Rattle.fw_model.specs.Machine.{Machine}
use Rattle.fw_keep.specs.Stored.{Records, bytes_under}
use Rattle.fw_regain.specs.Down.{down}
use Rattle.fw_root.specs.declared.root.Root.{Root}
pub use Rattle.fw_named.specs.Named.{AreNamed, named_ids}

-- Where the records are told afterwards they were told before, and under each id that the root names is what was there.
pub record KeepsNamed (root : Root) (old new : Option Records) : Type 0 where
  pub told_before : IsSome new → IsSome old
  pub bytes : IsSome new → (id : ℕ) → Contains (named_ids root) id → bytes_under id new ≡ bytes_under id old

-- the records hold the writes that a root names also where others put or removed some
abbrev pub NamedWritesStay : Type 0
NamedWritesStay = (sys : System) (state : Machine) (root : Root) (old new : Option Records) → KeepsNamed root old new
    → AreNamed sys state root old → AreNamed sys state root new

-- and the writes of a state exactly where they hold those of that in which every node is failed
abbrev pub DownHasTheSameWrites : Type 0
DownHasTheSameWrites = (sys : System) (state : Machine) (root : Root) (records : Option Records)
    → AreNamed sys state root records ↔ AreNamed sys (down sys state) root records
