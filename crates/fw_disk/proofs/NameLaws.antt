-- Names that a directory gave.
use Rattle.std.proofs.Common.{◌≡◌, ℕ, zero, suc, ◌<◌, Bool, true, false, cond, List, [], ◌∷◌, ◌++◌, map, Option, Some, None, refl, ap, subst, ◌∙◌, leb-true, arith}
use Rattle.std.specs.Prelude.{slice_get, nat_le, IfSome}
use Rattle.std.specs.Char.{is_ascii_digit}
use Rattle.std.specs.List.{filter, list_all}
use Rattle.std.specs.List.Sorted.{IsPermutation}
use Rattle.std.proofs.lemmas.List.Sorted.{IsPermutation-map}
use Rattle.std.specs.Str.{IsAscii, IsUtf8}
use Rattle.std.proofs.lemmas.Bool.{and_parts}
use Rattle.std.proofs.lemmas.Str.{IsUtf8-from_ascii}
use Rattle.std.specs.Io.KnownBytes.{Consumes}
use Rattle.fw_disk.specs.KnownFiles.{AreRead}
use Rattle.fw_disk.specs.Names.{names_given, is_digit_name, digit_names, AreNamesRead, HoldsNoRecord}

-- ---- of known bytes none were read yet

pub none_read : (known : Option (List ℕ)) → Consumes known known []
none_read None = tt
none_read (Some bytes) = refl

-- ---- names with a zero byte behind each

-- the names of digits alone are those of the first name and of the others
pub digits_first : (read name later : List ℕ) → names_given read ≡ name ∷ names_given later → digit_names read ≡ filter is_digit_name (name ∷ []) ++ digit_names later
digits_first read name later e = ap (filter is_digit_name) e ∙ by (is_digit_name name)
  where
    by : (b : Bool) → cond b (name ∷ digit_names later) (digit_names later) ≡ cond b (name ∷ []) [] ++ digit_names later
    by true = refl
    by false = refl

pub digits_none : (read : List ℕ) → names_given read ≡ [] → digit_names read ≡ []
digits_none read e = ap (filter is_digit_name) e

-- ---- a name of digits is a text

ascii_digit : (byte : ℕ) → is_ascii_digit byte ≡ true → byte < 128
ascii_digit byte h = let parts = and_parts (nat_le 48 byte) (nat_le byte 57) h in let l = leb-true byte 57 parts.1 in omega (arith, l)

ascii_cons : (byte : ℕ) (bytes : List ℕ) → byte < 128 → IsAscii bytes → IsAscii (byte ∷ bytes)
ascii_cons byte bytes l rest zero = l
ascii_cons byte bytes l rest (suc i) = rest i

digits_ascii : (name : List ℕ) → list_all is_ascii_digit name ≡ true → IsAscii name
digits_ascii [] h = λ i. omega arith
digits_ascii (byte ∷ bytes) h =
    let both = and_parts (is_ascii_digit byte) (list_all is_ascii_digit bytes) h in ascii_cons byte bytes (ascii_digit byte both.0) (digits_ascii bytes both.1)

pub digit_name_text : (name : List ℕ) → is_digit_name name ≡ true → IsUtf8 name
digit_name_text [] h = IsUtf8-from_ascii [] (λ i. omega arith)
digit_name_text (byte ∷ bytes) h = IsUtf8-from_ascii (byte ∷ bytes) (digits_ascii (byte ∷ bytes) h)

-- ---- the names that a folder answers

-- those of digits alone, in another order
pub sorted_names : {D X : Type 0} (remaining : D → Option (List ℕ)) (bytes_of : X → List ℕ) (read : List ℕ) (names sorted : List X) → AreRead remaining read
    → map bytes_of names ≡ digit_names read → IsPermutation names sorted → AreNamesRead remaining (map bytes_of sorted)
sorted_names remaining bytes_of read names sorted from same moved = (from.0, by (remaining from.0) from.1)
  where
    by : (known : Option (List ℕ)) → IfSome known (λ bytes. read ≡ bytes) → IfSome known (λ bytes. IsPermutation (digit_names bytes) (map bytes_of sorted))
    by None h = tt
    by (Some bytes) h = subst (λ names. IsPermutation names (map bytes_of sorted)) (same ∙ ap digit_names h) (IsPermutation-map bytes_of names sorted moved)

first_none : {X : Type 0} (xs : List X) → slice_get xs 0 ≡ None → xs ≡ []
first_none [] e = refl
first_none (x ∷ xs) e = absurd (cc)

-- where there are none, the folder holds no record
pub none_named : {D X : Type 0} (remaining : D → Option (List ℕ)) (bytes_of : X → List ℕ) (names : List X) → slice_get names 0 ≡ None → AreNamesRead remaining (map bytes_of names) → HoldsNoRecord remaining
none_named remaining bytes_of names none are = subst (λ names. AreNamesRead remaining (map bytes_of names)) (first_none names none) are
