-- The values of digits.
use Rattle.std.proofs.Common.{◌≡◌, ℕ, ◌+◌, ◌*◌, ◌^◌, ◌<◌, ◌≤◌, true, not, ◌==◌, List, [], ◌∷◌, length, take, get_or, Some, None, sym, ◌∙◌, ap, arith}
use Rattle.std.proofs.lemmas.Bool.Decides.{nat_tests}
use Rattle.std.proofs.lemmas.Int.Digits.{digits_value_more}
use Rattle.std.proofs.lemmas.List.{take_all}
use Rattle.std.proofs.lemmas.Str.Parse.{digits_value-take-le}
use Rattle.std.specs.Char.{digit_value, is_ascii_digit}
use Rattle.std.specs.List.{list_all}
use Rattle.std.specs.Str.Parse.{digits_value, AllDigits}
use Rattle.std.proofs.lemmas.Bool.{and_parts}
use Rattle.fw_lines.specs.Spelling.{is_numeral, if_small}

some_small : (n m : ℕ) → Some m ≡ if_small n → (m ≡ n) × (n < 2 ^ 64)
some_small n m e = (grind (arith, nat_tests, e), grind (arith, nat_tests, e))

pub small_from_some : (n m : ℕ) → Some m ≡ if_small n → m < 2 ^ 64
small_from_some n m e = omega (arith, (some_small n m e).0, (some_small n m e).1)

none_small : (n : ℕ) → None ≡ if_small n → 2 ^ 64 ≤ n
none_small n e = grind (arith, nat_tests, e)

-- with one digit more the number stays that of the digits
pub value_more : (ds : List ℕ) (i v m : ℕ) → i < length ds → v ≡ digits_value 10 (take i ds) → Some m ≡ if_small (v * 10 + digit_value (get_or ds i 0)) → m ≡ digits_value 10 (take (i + 1) ds)
value_more ds i v m h e r =
    (some_small _ m r).0 ∙ ap (λ n. n * 10 + digit_value (get_or ds i 0)) e ∙ sym (digits_value_more 10 ds i h)

-- where one digit more makes the number too large, so do all
pub value_past : (ds : List ℕ) (i v : ℕ) → i < length ds → v ≡ digits_value 10 (take i ds) → None ≡ if_small (v * 10 + digit_value (get_or ds i 0)) → None ≡ if_small (digits_value 10 ds)
value_past ds i v h e r =
    let large : 2 ^ 64 ≤ v * 10 + digit_value (get_or ds i 0) = none_small _ r in
    let more : digits_value 10 (take (i + 1) ds) ≡ v * 10 + digit_value (get_or ds i 0) = digits_value_more 10 ds i h ∙ ap (λ n. n * 10 + digit_value (get_or ds i 0)) (sym e) in
    let all : 2 ^ 64 ≤ digits_value 10 ds = omega (arith, digits_value-take-le 10 ds (i + 1) (omega arith)) in
    grind (arith, nat_tests, all)

pub value_all : (ds : List ℕ) (i v : ℕ) → length ds ≤ i → v < 2 ^ 64 → v ≡ digits_value 10 (take i ds) → Some v ≡ if_small (digits_value 10 ds)
value_all ds i v h s e =
    let same : v ≡ digits_value 10 ds = e ∙ ap (digits_value 10) (take_all i ds h) in
    grind (arith, nat_tests, same, s)

digit_of : (b : ℕ) → is_ascii_digit b ≡ true → digit_value b < 10
digit_of b e = grind (arith, nat_tests, e)

-- ASCII digits are digits
pub digits_from_all : (bs : List ℕ) → list_all is_ascii_digit bs ≡ true → AllDigits 10 bs
digits_from_all [] e = tt
digits_from_all (b ∷ bs) e = (digit_of b (and_parts _ _ e).0, digits_from_all bs (and_parts (is_ascii_digit b) _ e).1)

-- a numeral is digits
pub digits_from_numeral : (bs : List ℕ) → is_numeral bs ≡ true → AllDigits 10 bs
digits_from_numeral [] e = tt
digits_from_numeral (b ∷ []) e = (digit_of b e, tt)
digits_from_numeral (b ∷ c ∷ bs) e = digits_from_all (b ∷ c ∷ bs) (and_parts (not (b == 48)) (list_all is_ascii_digit (b ∷ c ∷ bs)) e).1
