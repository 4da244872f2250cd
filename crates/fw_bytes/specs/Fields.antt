-- Single fields: what stands at the front of the bytes, and the bytes after it; nothing where the bytes end inside.
use Rattle.std.specs.Prelude.{ℕ, zero, suc, ◌&&◌, nat_lt, List, [], ◌∷◌, ◌++◌, length, take, drop, Option, Some, None, if◌then◌else◌}
use Rattle.std.specs.Int.{Width, w32, w64, byte_len, from_be_bytes}
use Rattle.fw_time.specs.Stamp.{Stamp}
use Rattle.fw_frontier.specs.declared.state.SentCount.{SentCount}

-- a value and the bytes after it
abbrev pub Field : Type 0 → Type 0
Field A = Option (A × List ℕ)

infixl 10 ◌>>=◌
abbrev pub ◌>>=◌ : {A B : Type 0} → Option A → (A → Option B) → Option B
None >>= f = None
(Some x) >>= f = f x

-- a byte
abbrev pub byte_of : List ℕ → Field ℕ
byte_of [] = None
byte_of (b ∷ rest) = Some (b, rest)

-- a number of so many bytes
abbrev pub number_field : Width → List ℕ → Field ℕ
number_field w bytes =
    if nat_lt (length bytes) (byte_len w) then None
    else Some (from_be_bytes w (take (byte_len w) bytes), drop (byte_len w) bytes)

-- these coordinates, and so many more
unfoldable pub coords_of : ℕ → List ℕ → List ℕ → Field Stamp
coords_of zero before bytes = Some (before, bytes)
coords_of (suc n) before bytes = do
  c ← number_field w32 bytes
  coords_of n (before ++ c.0 ∷ []) c.1

-- a stamp of one to four coordinates
unfoldable pub stamp_field : List ℕ → Field Stamp
stamp_field bytes = do
  n ← byte_of bytes
  if nat_lt 0 n.0 && nat_lt n.0 5 then coords_of n.0 [] n.1 else None

-- a stamp and a count
unfoldable pub sent_count_of : List ℕ → Field SentCount
sent_count_of bytes = do
  cause ← stamp_field bytes
  count ← number_field w64 cause.1
  Some (record { cause = cause.0; count = count.0 }, count.1)
