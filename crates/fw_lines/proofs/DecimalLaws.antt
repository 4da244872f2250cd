-- Numbers that are written in decimal are numerals, and are read as what they are.
use Rattle.std.proofs.Common.{◌≡◌, ℕ, ◌+◌, ◌%◌, ◌<◌, ◌^◌, ◌==◌, true, cond, not, List, [], ◌∷◌, ◌++◌, refl, ◌∙◌, ap, arith, get_or, inl, inr, nat_lt}
use Rattle.std.proofs.lemmas.Bool.{and_from, and_parts, cases_lt}
use Rattle.std.proofs.lemmas.Bool.Decides.{nat_tests}
use Rattle.std.proofs.lemmas.Fmt.{decimal_is_IsNumeral, decimal_by_steps, first_decimal, decimal_digit}
use Rattle.std.proofs.lemmas.List.Folds.{list_all-append}
use Rattle.std.specs.Char.{is_ascii_digit}
use Rattle.std.specs.Fmt.{decimal}
use Rattle.std.specs.List.{list_all}
use Rattle.std.specs.Str.Parse.{digits_value}
use Rattle.fw_lines.specs.declared.numeral.Number.{Number}
use Rattle.fw_lines.specs.declared.numeral.Number.TheVariants.{Value, TooLarge, NotANumber}
use Rattle.fw_lines.specs.Spelling.{is_numeral, number_of}

one_digit : (n : ℕ) → n < 10 → is_ascii_digit (48 + n) ≡ true
one_digit n h = grind (arith, nat_tests, h)

-- a number is written by digits
pub decimal_digits : (n : ℕ) → n < 2 ^ 64 → list_all is_ascii_digit (decimal n) ≡ true
decimal_digits n h = decimal_by_steps (λ m ds. list_all is_ascii_digit ds ≡ true) (λ m low. last m low) (λ m ds large e. more m ds e) n h
  where
    last : (m : ℕ) → m < 10 → list_all is_ascii_digit ((48 + m) ∷ []) ≡ true
    last m low = and_from (is_ascii_digit (48 + m)) true (one_digit m low) refl

    more : (m : ℕ) (ds : List ℕ) → list_all is_ascii_digit ds ≡ true → list_all is_ascii_digit (ds ++ (48 + m % 10) ∷ []) ≡ true
    more m ds e =
        list_all-append is_ascii_digit ds ((48 + m % 10) ∷ [])
        ∙ and_from (list_all is_ascii_digit ds) (list_all is_ascii_digit ((48 + m % 10) ∷ [])) e (last (m % 10) (omega arith))

numeral_from : (ds : List ℕ) → list_all is_ascii_digit ds ≡ true → 48 < get_or ds 0 0 → is_numeral ds ≡ true
numeral_from [] e h = absurd (omega arith)
numeral_from (b ∷ []) e h = (and_parts (is_ascii_digit b) true e).0
numeral_from (b ∷ c ∷ bs) e h = and_from (not (b == 48)) (list_all is_ascii_digit (b ∷ c ∷ bs)) (grind (arith, nat_tests, h)) e

-- what is written is a numeral
pub decimal_numeral : (n : ℕ) → n < 2 ^ 64 → is_numeral (decimal n) ≡ true
decimal_numeral n h =
    elim (cases_lt n 10) [
      | inl small ↦ ap is_numeral (decimal_digit n small) ∙ one_digit n small
      | inr large ↦ numeral_from (decimal n) (decimal_digits n h) (first_decimal n (omega (arith, large)) h)
    ]

-- and spells the number
pub decimal_value : (n : ℕ) → n < 2 ^ 64 → digits_value 10 (decimal n) ≡ n
decimal_value n h = (decimal_is_IsNumeral n h).1

pub number_of-decimal : (n : ℕ) → n < 2 ^ 64 → number_of (decimal n) ≡ Value n
unfolding number_of
number_of-decimal n h =
    let small : ℕ → Number = λ v. cond (nat_lt v (2 ^ 64)) (Value v) TooLarge in
    let below : nat_lt n (2 ^ 64) ≡ true = grind (arith, nat_tests, h) in
    ap (λ b. cond b (small (digits_value 10 (decimal n))) NotANumber) (decimal_numeral n h)
    ∙ ap small (decimal_value n h)
    ∙ ap (λ b. cond b (Value n) TooLarge) below
