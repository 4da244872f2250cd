-- What a stream was handed.
use Rattle.std.specs.Prelude.{◌≡◌, ℕ, List, [], ◌∷◌, ◌++◌, take, drop, Option}
use Rattle.std.specs.Io.KnownBytes.{Appends}
use Rattle.fw_heard.specs.Note.{Note}

-- all bytes that a stream answered for, of whose pieces these are the notes, the newest first
abbrev pub bytes_taken : List Note → List ℕ
bytes_taken [] = []
bytes_taken (note ∷ earlier) = bytes_taken earlier ++ note.1

-- known bytes grow by a first part of the piece, it may be none of it or all
abbrev pub AppendsPart : Option (List ℕ) → Option (List ℕ) → List ℕ → Type 0
AppendsPart old new piece = (n : ℕ) × Appends old new (take n piece)

-- known bytes grow by a first part of the piece, behind which this is left of it
abbrev pub HasTaken : Option (List ℕ) → Option (List ℕ) → List ℕ → List ℕ → Type 0
HasTaken old new piece left = (n : ℕ) × (left ≡ drop n piece) × Appends old new (take n piece)
