-- A batch that came to a source, as a record of a store. All numbers are big-endian.
use Rattle.std.specs.Prelude.{ℕ, ◌+◌, ◌*◌, ◌^◌, ◌==◌, nat_lt, Bool, true, List, [], ◌∷◌, length, Result, Ok, Err, if◌then◌else◌}
use Rattle.std.specs.Int.{w64}
use Rattle.fw_bag.specs.declared.rec.Rec.{Rec}
use Rattle.fw_bytes.specs.Fields.{byte_of, number_field}
use Rattle.fw_bytes.specs.Reading.{Reading, ◌>>=◌, any, kept_if, many_of}
use Rattle.fw_record.specs.Fields.{rec_of}
use Rattle.fw_record.specs.Spelling.{recs_bytes}
use Rattle.fw_came.specs.declared.batch.CameBatch.{CameBatch}

-- the id of batch x of source s: behind those that an engine draws, and before those of roots
abbrev pub batch_id : ℕ → ℕ → ℕ
batch_id s x = 2 ^ 63 + (s * 2 ^ 24 + x)

-- the bytes of a batch: 1 where its source is closed with it, and else 0; then how many recs, and these
abbrev pub batch_bytes : Bool → List Rec → List ℕ
batch_bytes last recs = (if last then 1 else 0) ∷ recs_bytes recs

-- ---- reading

-- a byte that may stand first
abbrev pub is_mark : ℕ → Bool
is_mark b = nat_lt b 2

-- any rec may stand behind these
abbrev pub may_follow_recs : List Rec → Rec → Bool
may_follow_recs before r = true

-- the next rec
abbrev pub next_rec_of : List Rec → List ℕ → Reading Rec
next_rec_of before bytes = kept_if (may_follow_recs before) bytes (rec_of bytes)

-- a count, and that many recs
unfoldable pub counted_recs : List ℕ → Reading (List Rec)
counted_recs bytes = do
  count ← any bytes (number_field w64 bytes)
  many_of next_rec_of count.0 [] count.1

-- the batch at the front of the bytes
unfoldable pub read_came : List ℕ → Reading CameBatch
read_came bytes = do
  mark ← kept_if is_mark bytes (byte_of bytes)
  recs ← counted_recs mark.1
  Ok (record { last = mark.0 == 1; recs = recs.0 }, recs.1)

-- A batch and no byte more, or how many bytes are left from the first broken field on.
unfoldable pub batch_reading : List ℕ → Result CameBatch ℕ
batch_reading bytes = do
  b ← read_came bytes
  if length b.1 == 0 then Ok b.0 else Err (length b.1)
