-- The newest checkpoint of a node among entries, and the newest whole one that lies within a frontier.
use Rattle.std.specs.Prelude.{ℕ, Bool, false, not, ◌&&◌, ◌==◌, if◌then◌else◌, nat_lt, List, [], ◌∷◌, Option, Some, None}
use Rattle.std.specs.Option.{option_or}
use Rattle.fw_frontier.specs.Front.{Front, is_within}
use Rattle.fw_keep.specs.declared.entry.Entry.{Entry}
use Rattle.fw_keep.specs.declared.entry.Written.{Written}
use Rattle.fw_keep.specs.declared.entry.Written.TheVariants as written
use Rattle.fw_keep.specs.Catalogue.{KeepState}
use Rattle.fw_keep.specs.Entry.{is_checkpoint, is_checkpoint_below, is_entry_below}

-- whether the entry is a checkpoint of node p
abbrev pub is_checkpoint_of : ℕ → Entry → Bool
is_checkpoint_of p e = (e.node == p) && is_checkpoint e.written

-- the entry, if it is a checkpoint of node p
abbrev pub checkpoint_by : ℕ → Entry → Option Entry
checkpoint_by p e = if is_checkpoint_of p e then Some e else None

-- the last of these entries that is a checkpoint of node p, if one is
abbrev pub newest_by : ℕ → List Entry → Option Entry
newest_by p [] = None
newest_by p (e ∷ es) = option_or (newest_by p es) (checkpoint_by p e)

-- the entry's id if it is whole, and else this one
abbrev pub whole_or : ℕ → Entry → ℕ
whole_or id e = if e.depth == 0 then e.id else id

-- The id from which on node p's checkpoints stay, where those strictly within f are forgotten: that of the newest whole one up to the first
-- that does not lie strictly within f, and this last one where all do. The newest whole one before these entries has the id given first.
abbrev pub stay_from : ℕ → Front → ℕ → ℕ → List Entry → ℕ
stay_from p f whole last [] = last
stay_from p f whole last (e ∷ es) =
    if not (is_checkpoint_of p e) then stay_from p f whole last es
    else (if is_checkpoint_below f e.written then stay_from p f (whole_or whole e) last es else whole_or whole e)

-- whether the entry goes where node p's checkpoints strictly within f are forgotten: it is one, before all those that stay
abbrev pub is_forgotten_below : ℕ → Front → KeepState → Entry → Bool
is_forgotten_below p f keep e = is_entry_below p f e && nat_lt e.id (stay_from p f 0 keep.next keep.entries)

-- the front of what is written, if it is a checkpoint that lies within a frontier
abbrev pub front_within : Front → Written → Option Front
front_within f (written.Checkpoint recorded stamps sent) = if is_within recorded.front f then Some recorded.front else None
front_within f (written.Event event) = None

-- the front of the entry, if it is a checkpoint of node p that is whole and lies within a frontier
abbrev pub whole_front : ℕ → Front → Entry → Option Front
whole_front p f e = if (e.node == p) && (e.depth == 0) then front_within f e.written else None

-- the front of the last of these entries that is such a one, if one is
abbrev pub whole_within : ℕ → Front → List Entry → Option Front
whole_within p f [] = None
whole_within p f (e ∷ es) = option_or (whole_within p f es) (whole_front p f e)

-- whether a checkpoint is written that lies within f, and not strictly within an earlier front
abbrev pub is_written_between : Front → Front → Written → Bool
is_written_between whole f (written.Checkpoint recorded stamps sent) =
    is_within recorded.front f && not (is_within recorded.front whole && not (is_within whole recorded.front))
is_written_between whole f (written.Event event) = false

-- whether the entry is such a checkpoint of node p, and acknowledged
abbrev pub is_between : ℕ → Front → Front → Entry → Bool
is_between p whole f e = (e.node == p) && (e.acknowledged && is_written_between whole f e.written)
