-- What a catalogue holds.
use Rattle.std.specs.Prelude.{◌+◌, ◌≤◌, vec_len}
use Rattle.std.specs.Vec.{vec_capacity}
use Rattle.fw_keep.specs.declared.keep.Keep.TheInside.{Inside}
use Rattle.fw_keep.specs.Catalogue.{KeepState, IsCatalogue, IsAcknowledgedUpTo}

-- the state that it stands for
abbrev pub keep_state_of : Inside → KeepState
keep_state_of keep = record {
  entries = keep.entries.items;
  next = keep.next;
  waiting = keep.waiting.items;
  refused = keep.refused;
  shared = keep.shared;
}

-- ---- for the proofs

-- It stands for the state of a catalogue; so many of its first entries as it says are acknowledged, and no others; and there
-- is room for the ids of its entries among those that wait.
pub record IsSoundInside (keep : Inside) : Type 0 where
  pub catalogue : IsCatalogue (keep_state_of keep)
  pub persisted : IsAcknowledgedUpTo keep.persisted keep.entries.items
  pub room : vec_len keep.waiting + vec_len keep.entries ≤ vec_capacity keep.waiting
