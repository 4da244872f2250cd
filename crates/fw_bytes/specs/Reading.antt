-- Reading bytes field by field, up to the first broken one.
use Rattle.std.specs.Prelude.{◌≡◌, ℕ, zero, suc, Bool, List, [], ◌∷◌, ◌++◌, length, Option, Some, None, Result, Ok, Err, if◌then◌else◌}
use Rattle.std.specs.Int.{w32}
use Rattle.fw_time.specs.Stamp.{Stamp}
use Rattle.fw_frontier.specs.Front.{Front}
use Rattle.fw_frontier.specs.declared.state.SentCount.{SentCount}
use Rattle.fw_bytes.specs.declared.fault.ReadFault.{ReadFault}
use Rattle.fw_bytes.specs.declared.fault.ReadFault.TheVariants as fault
use Rattle.fw_bytes.specs.Fields.{Field, number_field, stamp_field, sent_count_of}
use Rattle.fw_bytes.specs.Sound.{may_follow_stamps, may_follow_counts}

-- a value and the bytes after it; or how many bytes are left from the first broken field on
abbrev pub Reading : Type 0 → Type 0
Reading A = Result (A × List ℕ) ℕ

infixl 10 ◌>>=◌
abbrev pub ◌>>=◌ : {A B : Type 0} → Result A ℕ → (A → Result B ℕ) → Result B ℕ
(Ok x) >>= f = f x
(Err left) >>= f = Err left

-- ---- fields with their rules

-- a field at the front of the bytes: broken where the bytes end inside it or its value breaks its rule
abbrev pub kept_if : {A : Type 0} → (A → Bool) → List ℕ → Field A → Reading A
kept_if rule bytes None = Err (length bytes)
kept_if rule bytes (Some x) = if rule x.0 then Ok x else Err (length bytes)

-- a field whose every value is allowed
abbrev pub any : {A : Type 0} → List ℕ → Field A → Reading A
any bytes None = Err (length bytes)
any bytes (Some x) = Ok x

-- so many parts, each judged by those before it
unfoldable pub many_of : {A : Type 0} → (List A → List ℕ → Reading A) → ℕ → List A → List ℕ → Reading (List A)
many_of part zero before bytes = Ok (before, bytes)
many_of part (suc n) before bytes = do
  x ← part before bytes
  many_of part n (before ++ x.0 ∷ []) x.1

-- the next stamp of a front
abbrev pub next_stamp_of : List Stamp → List ℕ → Reading Stamp
next_stamp_of before bytes = kept_if (may_follow_stamps before) bytes (stamp_field bytes)

-- the next count of what was sent
abbrev pub next_count_of : List SentCount → List ℕ → Reading SentCount
next_count_of before bytes = kept_if (may_follow_counts before) bytes (sent_count_of bytes)

-- ---- fronts and counts

-- a front: a count, and that many stamps
unfoldable pub read_front : List ℕ → Reading Front
read_front bytes = do
  count ← any bytes (number_field w32 bytes)
  many_of next_stamp_of count.0 [] count.1

-- a count, and that many counts of what was sent
unfoldable pub sent_counts_of : List ℕ → Reading (List SentCount)
sent_counts_of bytes = do
  count ← any bytes (number_field w32 bytes)
  many_of next_count_of count.0 [] count.1

-- ---- what the functions that read give

-- memory was refused, or this is the first broken field
abbrev pub IsBrokenAt : {Y : Type 0} → ReadFault → Result Y ℕ → Type 0
IsBrokenAt (fault.Broken left) reading = reading ≡ Err left
IsBrokenAt fault.NoMemory reading = Unit {0}

-- what a function returned, seen by view, is what reading gives, unless memory was refused
abbrev pub Gives : {X Y : Type 0} → (X → Y) → Result X ReadFault → Result Y ℕ → Type 0
Gives view (Ok x) reading = reading ≡ Ok (view x)
Gives view (Err e) reading = IsBrokenAt e reading

-- the same of a field
abbrev pub IsField : {X Y : Type 0} → (X → Y) → Option X → Option Y → Type 0
IsField view None field = field ≡ None
IsField view (Some x) field = field ≡ Some (view x)
