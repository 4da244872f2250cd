-- What a store holds of a source: each batch that came.
use Rattle.std.specs.Prelude.{◌≡◌, ℕ, ◌+◌, ◌^◌, ◌<◌, ◌≤◌, ◌==◌, Bool, not, ◌&&◌, List, [], length, slice_index_or, Some, None}
use Rattle.std.specs.FinMap as map
use Rattle.fw_bag.specs.declared.rec.Rec.{Rec}
use Rattle.fw_came.specs.Came.{batch_bytes, batch_id}
use Rattle.fw_keep.specs.Stored.{Records}

-- whether a source, to which so many batches came, was closed with batch x
abbrev pub is_closing : Bool → ℕ → ℕ → Bool
is_closing opened count x = not opened && (x + 1 == count)

-- The records hold what came to source s: each batch under its id, and nothing under the ids of those to come.
pub record HoldsSource (held : Records) (s : ℕ) (came : List (List Rec)) (opened : Bool) : Type 0 where
  pub each : (x : ℕ) → x < length came
      → map.get held (batch_id s x) ≡ Some (batch_bytes (is_closing opened (length came) x) (slice_index_or came x []))
  pub none : (x : ℕ) → length came ≤ x → x < 2 ^ 24 → map.get held (batch_id s x) ≡ None
