-- Single fields: what stands at the front of the bytes, and the bytes after it; nothing where the bytes end inside.
use Rattle.std.specs.Prelude.{ℕ, List, [], ◌∷◌, Some}
use Rattle.std.specs.Int.{w32, w64}
use Rattle.fw_bag.specs.declared.rec.Rec.{Rec}
use Rattle.fw_bytes.specs.Fields.{Field, ◌>>=◌, number_field, stamp_field}
use Rattle.fw_record.specs.declared.logged.Logged.{Logged}

-- a key and a value
unfoldable pub rec_of : List ℕ → Field Rec
rec_of bytes = do
  key ← number_field w64 bytes
  value ← number_field w64 key.1
  Some (record { key = key.0; value = value.0 }, value.1)

-- a logged message, of one cause
unfoldable pub logged_of : List ℕ → Field Logged
logged_of bytes = do
  edge ← number_field w32 bytes
  at ← stamp_field edge.1
  cause ← stamp_field at.1
  rec ← rec_of cause.1
  Some (record { edge = edge.0; message = record { at = at.0; rec = rec.0; causes = cause.0 ∷ [] } }, rec.1)
