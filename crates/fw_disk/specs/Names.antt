-- The names of the files in a folder, and those of them that a record may have.
use Rattle.std.specs.Prelude.{ℕ, Bool, false, List, [], ◌∷◌, IfSome, Option}
use Rattle.std.specs.List.{filter, list_all}
use Rattle.std.specs.List.Sorted.{IsPermutation}
use Rattle.std.specs.Char.{is_ascii_digit}
use Rattle.fw_disk.specs.Pieces.{pieces}

-- the names that a directory gave as it was read, each with a zero byte behind it
abbrev pub names_given : List ℕ → List (List ℕ)
names_given read = pieces 0 read

-- whether a name has digits alone, and some
abbrev pub is_digit_name : List ℕ → Bool
is_digit_name [] = false
is_digit_name (byte ∷ bytes) = list_all is_ascii_digit (byte ∷ bytes)

-- those that have digits alone
abbrev pub digit_names : List ℕ → List (List ℕ)
digit_names read = filter is_digit_name (names_given read)

-- These are the names of digits alone in a directory that was opened, in some order, where it tells what it gives.
abbrev pub AreNamesRead : {D : Type 0} → (D → Option (List ℕ)) → List (List ℕ) → Type 0
AreNamesRead {D} remaining names = (opened : D) × IfSome (remaining opened) (λ read. IsPermutation (digit_names read) names)

-- A directory was opened, and no name in it has digits alone, where it tells what it gives.
abbrev pub HoldsNoRecord : {D : Type 0} → (D → Option (List ℕ)) → Type 0
HoldsNoRecord remaining = AreNamesRead remaining []
