-- How names and numbers are spelled.
use Rattle.std.specs.Prelude.{ℕ, ◌^◌, ◌==◌, nat_le, nat_lt, Bool, false, not, ◌&&◌, ◌||◌, List, [], ◌∷◌, length, if◌then◌else◌, Option, Some, None}
use Rattle.std.specs.Char.{is_ascii_digit}
use Rattle.std.specs.List.{list_all}
use Rattle.std.specs.Str.Parse.{digits_value}
use Rattle.fw_lines.specs.declared.numeral.Number.{Number}
use Rattle.fw_lines.specs.declared.numeral.Number.TheVariants.{Value, TooLarge, NotANumber}

-- the letters `a` to `z`
abbrev pub is_letter : ℕ → Bool
is_letter b = nat_le 97 b && nat_le b 122

-- the bytes that a name may have: letters, digits and `_`
abbrev pub is_in_names : ℕ → Bool
is_in_names b = is_letter b || (is_ascii_digit b || b == 95)

-- whether the word is a name: 1 to 32 of those bytes, of which the first is a letter
abbrev pub is_name : List ℕ → Bool
is_name [] = false
is_name (b ∷ bs) = is_letter b && (nat_lt (length bs) 32 && list_all is_in_names bs)

-- whether the word is decimal digits, of which the first is 0 only where it is the only one
abbrev pub is_numeral : List ℕ → Bool
is_numeral [] = false
is_numeral (b ∷ []) = is_ascii_digit b
is_numeral (b ∷ c ∷ bs) = not (b == 48) && list_all is_ascii_digit (b ∷ c ∷ bs)

-- the number, if it is below 2^64
abbrev pub if_small : ℕ → Option ℕ
if_small n = if nat_lt n (2 ^ 64) then Some n else None

-- the number that a word spells
unfoldable pub number_of : List ℕ → Number
number_of word =
    if is_numeral word then (if nat_lt (digits_value 10 word) (2 ^ 64) then Value (digits_value 10 word) else TooLarge) else NotANumber
