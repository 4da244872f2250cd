-- Names are text.
use Rattle.std.proofs.Common.{◌≡◌, ℕ, ◌<◌, nat_lt, ◌&&◌, true, List, [], ◌∷◌, length, arith}
use Rattle.std.proofs.lemmas.Bool.Decides.{nat_tests}
use Rattle.std.proofs.lemmas.Str.{IsUtf8-from_ascii}
use Rattle.std.proofs.lemmas.Str.Ascii.{IsAscii-nil, IsAscii-cons}
use Rattle.std.specs.List.{list_all}
use Rattle.std.specs.Str.{IsAscii, IsUtf8}
use Rattle.fw_lemmas.proofs.Bools.{first_holds, second_holds}
use Rattle.fw_lines.specs.Spelling.{is_letter, is_in_names, is_name}

in_ascii : (b : ℕ) → is_in_names b ≡ true → b < 128
in_ascii b e = grind (arith, nat_tests, e)

all_in_ascii : (bs : List ℕ) → list_all is_in_names bs ≡ true → IsAscii bs
all_in_ascii [] e = IsAscii-nil
all_in_ascii (b ∷ bs) e =
    IsAscii-cons b bs (in_ascii b (first_holds (is_in_names b) (list_all is_in_names bs) e)) (all_in_ascii bs (second_holds (is_in_names b) (list_all is_in_names bs) e))

-- a name is text of one byte a character
pub name_is_text : (word : List ℕ) → is_name word ≡ true → IsUtf8 word
name_is_text [] e = absurd (cc)
name_is_text (b ∷ bs) e =
    let letter : is_letter b ≡ true = first_holds (is_letter b) (nat_lt (length bs) 32 && list_all is_in_names bs) e in
    let others = second_holds (is_letter b) (nat_lt (length bs) 32 && list_all is_in_names bs) e in
    let low : b < 128 = grind (arith, nat_tests, letter) in
    IsUtf8-from_ascii (b ∷ bs) (IsAscii-cons b bs low (all_in_ascii bs (second_holds (nat_lt (length bs) 32) (list_all is_in_names bs) others)))
