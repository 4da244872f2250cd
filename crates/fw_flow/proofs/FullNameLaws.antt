-- Full names: a name is one, and so is a name with a part behind it; they are text.
use Rattle.std.proofs.Common.{inl, inr, ◌≡◌, ℕ, ◌+◌, ◌<◌, ◌≤◌, ◌^◌, nat_lt, Bool, true, false, not, ◌&&◌, ◌||◌, ◌==◌, cond, List, [], ◌∷◌, ◌++◌, length, take, drop, refl, ap, ◌∙◌, subst, arith, unwrap_or, position, Some, None}
use Rattle.std.proofs.lemmas.Bool.{and_from, cases_lt, cond-false, cond-true, le-ltb, lt-ltb, or_cases, or_left, or_right}
use Rattle.std.proofs.lemmas.List.Sums.{prefix_len-le-length}
use Rattle.std.proofs.lemmas.Slice.Eq.{bytes_eq-Decides}
use Rattle.std.proofs.lemmas.Bool.Decides.{nat_tests}
use Rattle.std.proofs.lemmas.List.Folds.{list_all-append}
use Rattle.std.proofs.lemmas.List.{append-nil, append_assoc, take-append-drop}
use Rattle.std.proofs.Math.Seq.{take-append_seam, drop-append_seam}
use Rattle.std.proofs.lemmas.Str.{IsUtf8-from_ascii}
use Rattle.std.proofs.lemmas.Str.Ascii.{IsAscii-nil, IsAscii-cons}
use Rattle.std.specs.Char.{is_ascii_digit}
use Rattle.std.specs.Fmt.{decimal}
use Rattle.std.specs.List.{list_all, position_or_len}
use Rattle.std.specs.Prelude.{codes}
use Rattle.std.specs.Str.{bytes_eq, IsAscii, IsUtf8}
use Rattle.fw_lemmas.proofs.Bools.{first_holds, second_holds}
use Rattle.fw_lines.proofs.DecimalLaws.{decimal_numeral}
use Rattle.fw_lines.specs.Spelling.{is_letter, is_in_names, is_name, is_numeral}
use Rattle.fw_flow.specs.FullNames.{dot_place, is_suffix, is_full_name, part_name, out_name}

-- ---- the name in front of the dot

plain-no_dot : (b : ℕ) → is_in_names b ≡ true → (b == 46) ≡ false
plain-no_dot b k = grind (arith, nat_tests, k)

letter-no_dot : (b : ℕ) → is_letter b ≡ true → (b == 46) ≡ false
letter-no_dot b k = grind (arith, nat_tests, k)

-- no byte of a name is a dot
abbrev pub IsDotless : List ℕ → Type 0
IsDotless bs = list_all (λ b. not (b == 46)) bs ≡ true

dotless-more : (b : ℕ) (bs : List ℕ) → (b == 46) ≡ false → IsDotless bs → IsDotless (b ∷ bs)
dotless-more b bs e k = and_from (not (b == 46)) (list_all (λ c. not (c == 46)) bs) (ap not e) k

dotless-plain : (bs : List ℕ) → list_all is_in_names bs ≡ true → IsDotless bs
dotless-plain [] k = refl
dotless-plain (b ∷ bs) k =
    dotless-more b bs (plain-no_dot b (first_holds (is_in_names b) (list_all is_in_names bs) k)) (dotless-plain bs (second_holds (is_in_names b) (list_all is_in_names bs) k))

pub dotless-name : (name : List ℕ) → is_name name ≡ true → IsDotless name
dotless-name [] k = absurd (cc)
dotless-name (b ∷ bs) k =
    let others = second_holds (is_letter b) (nat_lt (length bs) 32 && list_all is_in_names bs) k in
    dotless-more b bs (letter-no_dot b (first_holds (is_letter b) (nat_lt (length bs) 32 && list_all is_in_names bs) k))
    (dotless-plain bs (second_holds (nat_lt (length bs) 32) (list_all is_in_names bs) others))

-- the place of the first dot, or else the end
pub dot_or_end : (word : List ℕ) (n : ℕ) → n ≡ length word → unwrap_or (position (λ b. b == 46) word) n ≡ dot_place word
dot_or_end word n e =
    elim (cases_lt (dot_place word) (length word)) [
      | inl lt ↦ ap (λ o. unwrap_or o n) (cond-true _ (Some (dot_place word)) None (lt-ltb (dot_place word) (length word) lt))
      | inr past ↦
          let within = prefix_len-le-length (λ b. not (b == 46)) word in
          ap (λ o. unwrap_or o n) (cond-false _ (Some (dot_place word)) None (le-ltb (dot_place word) (length word) past))
          ∙ omega (arith, within, past, e)
    ]

pub dot_within : (word : List ℕ) → dot_place word ≤ length word
dot_within word = prefix_len-le-length (λ b. not (b == 46)) word

-- what stands behind a name, if anything does, begins with a dot
abbrev BeginsWithDot : List ℕ → Type 0
BeginsWithDot [] = Unit {0}
BeginsWithDot (b ∷ bs) = (b == 46) ≡ true

dot_place-behind : (name rest : List ℕ) → IsDotless name → BeginsWithDot rest → dot_place (name ++ rest) ≡ length name
dot_place-behind [] [] k d = refl
dot_place-behind [] (c ∷ cs) k d = ap (λ t. cond (not t) (1 + position_or_len (λ b. b == 46) cs) 0) d
dot_place-behind (b ∷ bs) rest k d =
    ap (λ t. cond t (1 + dot_place (bs ++ rest)) 0) (first_holds (not (b == 46)) (list_all (λ c. not (c == 46)) bs) k)
    ∙ omega (arith, dot_place-behind bs rest (second_holds (not (b == 46)) (list_all (λ c. not (c == 46)) bs) k) d)

full-from : (name rest : List ℕ) → is_name name ≡ true → BeginsWithDot rest → is_suffix rest ≡ true → is_full_name (name ++ rest) ≡ true
full-from name rest k d s =
    ap (λ n. is_name (take n (name ++ rest)) && is_suffix (drop n (name ++ rest))) (dot_place-behind name rest (dotless-name name k) d)
    ∙ and_from (is_name (take (length name) (name ++ rest))) (is_suffix (drop (length name) (name ++ rest)))
    (ap is_name (take-append_seam name rest) ∙ k) (ap is_suffix (drop-append_seam name rest) ∙ s)

-- a name is a full name
pub full_name_plain : (name : List ℕ) → is_name name ≡ true → is_full_name name ≡ true
full_name_plain name k = subst (λ w. is_full_name w ≡ true) (append-nil name) (full-from name [] k tt refl)

-- so is the name of a part
pub full_name_part : (name : List ℕ) (i : ℕ) → is_name name ≡ true → i < 2 ^ 64 → is_full_name (part_name name i) ≡ true
full_name_part name i k small =
    full-from name (46 ∷ decimal i) k refl
    (or_left (is_numeral (decimal i)) (bytes_eq (take 4 (decimal i)) (codes "out.") && is_numeral (drop 4 (decimal i))) (decimal_numeral i small))

-- and that of the edge from a replica
pub full_name_out : (name : List ℕ) (i : ℕ) → is_name name ≡ true → i < 2 ^ 64 → is_full_name (out_name name i) ≡ true
full_name_out name i k small =
    full-from name (codes ".out." ++ decimal i) k refl
    (or_right (is_numeral (codes "out." ++ decimal i)) (is_numeral (decimal i)) (decimal_numeral i small))

-- they are joined of a name, what stands between, and a number
pub part_joined : (name : List ℕ) (i : ℕ) → (name ++ codes ".") ++ decimal i ≡ part_name name i
part_joined name i = append_assoc name (codes ".") (decimal i)

pub out_joined : (name : List ℕ) (i : ℕ) → (name ++ codes ".out.") ++ decimal i ≡ out_name name i
out_joined name i = append_assoc name (codes ".out.") (decimal i)

-- ---- the bytes of a full name

-- the bytes that a full name may have: those of names, and the dot
abbrev pub is_in_full_names : ℕ → Bool
is_in_full_names b = is_in_names b || b == 46

wider : (test : ℕ → Bool) → ((b : ℕ) → test b ≡ true → is_in_full_names b ≡ true) → (bs : List ℕ) → list_all test bs ≡ true → list_all is_in_full_names bs ≡ true
wider test f [] k = refl
wider test f (b ∷ bs) k =
    and_from (is_in_full_names b) (list_all is_in_full_names bs) (f b (first_holds (test b) (list_all test bs) k)) (wider test f bs (second_holds (test b) (list_all test bs) k))

letter-full : (b : ℕ) → is_letter b ≡ true → is_in_full_names b ≡ true
letter-full b k = or_left (is_in_names b) (b == 46) (or_left (is_letter b) (is_ascii_digit b || b == 95) k)

digit-full : (b : ℕ) → is_ascii_digit b ≡ true → is_in_full_names b ≡ true
digit-full b k = or_left (is_in_names b) (b == 46) (or_right (is_letter b) (is_ascii_digit b || b == 95) (or_left (is_ascii_digit b) (b == 95) k))

name-full : (name : List ℕ) → is_name name ≡ true → list_all is_in_full_names name ≡ true
name-full [] k = refl
name-full (b ∷ bs) k =
    let others = second_holds (is_letter b) (nat_lt (length bs) 32 && list_all is_in_names bs) k in
    and_from (is_in_full_names b) (list_all is_in_full_names bs) (letter-full b (first_holds (is_letter b) (nat_lt (length bs) 32 && list_all is_in_names bs) k))
    (wider is_in_names (λ c h. or_left (is_in_names c) (c == 46) h) bs (second_holds (nat_lt (length bs) 32) (list_all is_in_names bs) others))

numeral-full : (bs : List ℕ) → is_numeral bs ≡ true → list_all is_in_full_names bs ≡ true
numeral-full [] k = refl
numeral-full (b ∷ []) k = and_from (is_in_full_names b) true (digit-full b k) refl
numeral-full (b ∷ c ∷ bs) k = wider is_ascii_digit digit-full (b ∷ c ∷ bs) (second_holds (not (b == 48)) (list_all is_ascii_digit (b ∷ c ∷ bs)) k)

both-full : (xs ys : List ℕ) → list_all is_in_full_names xs ≡ true → list_all is_in_full_names ys ≡ true → list_all is_in_full_names (xs ++ ys) ≡ true
both-full xs ys h k = list_all-append is_in_full_names xs ys ∙ and_from (list_all is_in_full_names xs) (list_all is_in_full_names ys) h k

out-full : (bs : List ℕ) → (bytes_eq (take 4 bs) (codes "out.") && is_numeral (drop 4 bs)) ≡ true → list_all is_in_full_names bs ≡ true
out-full bs h =
    let head : take 4 bs ≡ codes "out." = (bytes_eq-Decides (take 4 bs) (codes "out.")).0 (first_holds (bytes_eq (take 4 bs) (codes "out.")) (is_numeral (drop 4 bs)) h) in
    let tail = numeral-full (drop 4 bs) (second_holds (bytes_eq (take 4 bs) (codes "out.")) (is_numeral (drop 4 bs)) h) in
    subst (λ w. list_all is_in_full_names w ≡ true) (take-append-drop 4 bs) (both-full (take 4 bs) (drop 4 bs) (ap (list_all is_in_full_names) head) tail)

suffix-full : (bs : List ℕ) → is_suffix bs ≡ true → list_all is_in_full_names bs ≡ true
suffix-full [] k = refl
suffix-full (b ∷ bs) k =
    let out = bytes_eq (take 4 bs) (codes "out.") && is_numeral (drop 4 bs) in
    let behind : list_all is_in_full_names bs ≡ true = elim (or_cases (is_numeral bs) out (second_holds (b == 46) (is_numeral bs || out) k)) [
      | inl numeral ↦ numeral-full bs numeral
      | inr named ↦ out-full bs named
    ] in
    and_from (is_in_full_names b) (list_all is_in_full_names bs) (or_right (is_in_names b) (b == 46) (first_holds (b == 46) (is_numeral bs || out) k)) behind

-- each byte of a full name may stand in one
pub full_name_bytes : (word : List ℕ) → is_full_name word ≡ true → list_all is_in_full_names word ≡ true
full_name_bytes word k =
    let n = dot_place word in
    subst (λ w. list_all is_in_full_names w ≡ true) (take-append-drop n word)
    (both-full (take n word) (drop n word) (name-full (take n word) (first_holds (is_name (take n word)) (is_suffix (drop n word)) k))
    (suffix-full (drop n word) (second_holds (is_name (take n word)) (is_suffix (drop n word)) k)))

byte-ascii : (b : ℕ) → is_in_full_names b ≡ true → b < 128
byte-ascii b k = grind (arith, nat_tests, k)

all-ascii : (bs : List ℕ) → list_all is_in_full_names bs ≡ true → IsAscii bs
all-ascii [] k = IsAscii-nil
all-ascii (b ∷ bs) k =
    IsAscii-cons b bs (byte-ascii b (first_holds (is_in_full_names b) (list_all is_in_full_names bs) k)) (all-ascii bs (second_holds (is_in_full_names b) (list_all is_in_full_names bs) k))

-- a full name is text of one byte a character
pub full_name_is_text : (word : List ℕ) → is_full_name word ≡ true → IsUtf8 word
full_name_is_text word k = IsUtf8-from_ascii word (all-ascii word (full_name_bytes word k))
