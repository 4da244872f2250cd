-- By which entries a node is restored that takes checkpoints.
use Rattle.std.specs.Prelude.{◌≡◌, ℕ, Bool, true, ◌&&◌, ◌==◌, List, [], ◌∷◌, filter, Option, Some, None}
use Rattle.std.specs.List.{AllZip, Contains}
use Rattle.std.specs.Option.{ForSome}
use Rattle.fw_frontier.specs.Front.{Front, is_within}
use Rattle.fw_flow.specs.declared.choice.Recorded.{Recorded}
use Rattle.fw_flow.specs.declared.choice.Stamps.{Stamps}
use Rattle.fw_flow.specs.Dataflow.{System}
use Rattle.fw_model.specs.Machine.{Machine, Write, checkpoint}
use Rattle.fw_model.specs.Steps.{last_or, checkpoints_of}
use Rattle.fw_keep.specs.declared.entry.Entry.{Entry}
use Rattle.fw_keep.specs.declared.entry.Written.TheVariants as written
use Rattle.fw_keep.specs.Entry.{is_written_at}
use Rattle.fw_keep.specs.Newest.{is_between, whole_within}
use Rattle.fw_keep.specs.Stored.{Records}
use Rattle.fw_stands.specs.Written.{HoldsWithin, IsEntryOf, IsHeldAs}

-- whether the entry is an acknowledged one of a checkpoint of node p at f
abbrev pub is_checkpoint_at : ℕ → Front → Entry → Bool
is_checkpoint_at p f e = (e.node == p) && (e.acknowledged && is_written_at f e.written)

-- One of the entries alone is an acknowledged one of a checkpoint of node p at f. It stands for a write of the state, and where the
-- store tells its records, they hold the record of that write.
pub record HasOnlyCheckpoint (sys : System) (state : Machine) (records : Option Records) (entries : List Entry) (p : ℕ) (f : Front) : Type 0 where
  pub entry : Entry
  pub only : filter (is_checkpoint_at p f) entries ≡ entry ∷ []
  pub write : Write
  pub low : List Front
  pub there : Contains state.writes write
  pub node : write.node ≡ p
  pub of_checkpoint : write.written ≡ checkpoint f low
  pub of_write : IsEntryOf sys state entry write
  pub stored : ForSome records (λ held. IsHeldAs sys state held entry write)
  pub recorded : Recorded
  pub stamps : Stamps
  pub sent : ℕ
  pub what : entry.written ≡ written.Checkpoint recorded stamps sent
  pub holds : HoldsWithin sys state p f recorded stamps sent

-- ---- chains

-- The write is a checkpoint of node p, and stands on the one at g, which lies within it.
pub record IsCheckpointOn (p : ℕ) (g : Front) (w : Write) : Type 0 where
  pub front : Front
  pub low : List Front
  pub node : w.node ≡ p
  pub of_checkpoint : w.written ≡ checkpoint front low
  pub base : w.base ≡ Some g
  pub above : is_within g front ≡ true

-- each of these checkpoints of node p stands on the one before it, and the first of them on the one at g
abbrev pub StandOn : ℕ → Front → List Write → Type 0
StandOn p g [] = Unit {0}
StandOn p g (w ∷ ws) = (on : IsCheckpointOn p g w) × StandOn p on.front ws

-- The acknowledged entries of node p's checkpoints from the newest whole one within f up to f stand for a chain of writes that ends at f:
-- the first is whole, and each later one stands on the one before it.
pub record IsChainRead (R : Entry → Write → Type 0) (entries : List Entry) (p : ℕ) (f : Front) : Type 0 where
  pub whole : Front
  pub newest : whole_within p f entries ≡ Some whole
  pub first : Entry
  pub later : List Entry
  pub only : filter (is_between p whole f) entries ≡ first ∷ later
  pub write : Write
  pub writes : List Write
  pub of_first : R first write
  pub of_later : AllZip R later writes
  pub low : List Front
  pub node : write.node ≡ p
  pub of_checkpoint : write.written ≡ checkpoint whole low
  pub base : write.base ≡ None
  pub depth : write.depth ≡ 0
  pub each : StandOn p whole writes
  pub ends : last_or whole (checkpoints_of p writes) ≡ f
