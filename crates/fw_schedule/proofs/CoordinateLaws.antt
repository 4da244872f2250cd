-- The coordinates that a word spells, read one after another under the greatest ones.
use Rattle.std.proofs.Common.{◌≡◌, ℕ, ◌+◌, ◌<◌, ◌≤◌, nat_le, true, false, ◌&&◌, List, [], ◌∷◌, ◌++◌, length, map, drop, get_or, Some, None, refl, sym, ◌∙◌, ap, arith, append_assoc, inl, inr}
use Rattle.std.proofs.lemmas.Bool.{cases_lt}
use Rattle.std.proofs.lemmas.Bool.Decides.{nat_tests}
use Rattle.std.proofs.lemmas.List.{drop_more, drop_all, length_push, append-nil}
use Rattle.std.proofs.lemmas.List.Folds.{list_all_at}
use Rattle.std.specs.List.{list_all}
use Rattle.std.specs.Str.Parse.{digits_value}
use Rattle.fw_lines.specs.Spelling.{is_numeral}
use Rattle.fw_time.specs.Stamp.{leq}
use Rattle.fw_schedule.specs.Stamps.{coord_up_to}

-- the first `count` coordinates are read, none of them greater than allowed; on the others it rests whether the stamp lies in
-- the domain
pub record IsReadUpTo (parts : List (List ℕ)) (greatest coords : List ℕ) (count : ℕ) : Type 0 where
  pub counted : length coords ≡ count
  pub value : coords ++ map (digits_value 10) (drop count parts) ≡ map (digits_value 10) parts
  pub within : leq (map (digits_value 10) (drop count parts)) (drop count greatest) ≡ leq (map (digits_value 10) parts) greatest

-- nothing is read yet
pub none_read : (parts : List (List ℕ)) (greatest : List ℕ) → IsReadUpTo parts greatest [] 0
none_read parts greatest = record { counted = refl; value = refl; within = refl }

-- what the rest of the coordinates says, with the next one apart
rest_apart : (parts : List (List ℕ)) (greatest : List ℕ) (count : ℕ) (d : List ℕ) → count < length parts → count < length greatest
    → leq (map (digits_value 10) (drop count parts)) (drop count greatest) ≡ (nat_le (digits_value 10 (get_or parts count d)) (get_or greatest count 0) && leq (map (digits_value 10) (drop (count + 1) parts)) (drop (count + 1) greatest))
rest_apart parts greatest count d h k =
    ap (λ ps. leq (map (digits_value 10) ps) (drop count greatest)) (drop_more parts count d h)
    ∙ ap (leq (digits_value 10 (get_or parts count d) ∷ map (digits_value 10) (drop (count + 1) parts))) (drop_more greatest count 0 k)

some_coord : (greatest : List ℕ) (place n m : ℕ) → Some m ≡ coord_up_to greatest place n → (m ≡ n) × (place < length greatest) × (nat_le n (get_or greatest place 0) ≡ true)
some_coord greatest place n m e = (grind (arith, nat_tests, e), grind (arith, nat_tests, e), grind (arith, nat_tests, e))

-- the part is the next one of the word
abbrev pub IsNextPart : List (List ℕ) → ℕ → List ℕ → Type 0
IsNextPart parts count part = (count < length parts) × (part ≡ get_or parts count part)

-- one coordinate more is read
pub read_more : (parts : List (List ℕ)) (greatest coords : List ℕ) (count place coord : ℕ) (part : List ℕ) → IsReadUpTo parts greatest coords count
    → IsNextPart parts count part → place ≡ length coords → Some coord ≡ coord_up_to greatest place (digits_value 10 part)
    → IsReadUpTo parts greatest (coords ++ coord ∷ []) (count + 1)
read_more parts greatest coords count place coord part read next here e =
    let n = digits_value 10 (get_or parts count part) in
    let rest = map (digits_value 10) (drop (count + 1) parts) in
    let sound = some_coord greatest count n coord (e ∙ ap (λ p. coord_up_to greatest p (digits_value 10 part)) (here ∙ read.counted) ∙ ap (λ w. coord_up_to greatest count (digits_value 10 w)) next.1) in
    record {
      counted = length_push coords coord ∙ ap (λ k. k + 1) read.counted;
      value = append_assoc coords (coord ∷ []) rest ∙ ap (λ c. coords ++ c ∷ rest) sound.0 ∙ ap (λ ps. coords ++ map (digits_value 10) ps) (sym (drop_more parts count part next.0)) ∙ read.value;
      within = ap (λ b. b && leq rest (drop (count + 1) greatest)) (sym sound.2) ∙ sym (rest_apart parts greatest count part next.0 sound.1) ∙ read.within;
    }

-- the next coordinate is too great, or one too many
pub read_broken : (parts : List (List ℕ)) (greatest coords : List ℕ) (count place : ℕ) (part : List ℕ) → IsReadUpTo parts greatest coords count
    → IsNextPart parts count part → place ≡ length coords → None ≡ coord_up_to greatest place (digits_value 10 part)
    → leq (map (digits_value 10) parts) greatest ≡ false
read_broken parts greatest coords count place part read next here e =
    let n = digits_value 10 (get_or parts count part) in
    let rest = map (digits_value 10) (drop (count + 1) parts) in
    let none : None ≡ coord_up_to greatest count n = e ∙ ap (λ p. coord_up_to greatest p (digits_value 10 part)) (here ∙ read.counted) ∙ ap (λ w. coord_up_to greatest count (digits_value 10 w)) next.1 in
    elim (cases_lt count (length greatest)) [
      | inl below ↦
          let large : nat_le n (get_or greatest count 0) ≡ false = grind (arith, nat_tests, none, below) in
          sym read.within ∙ rest_apart parts greatest count part next.0 below ∙ ap (λ b. b && leq rest (drop (count + 1) greatest)) large
      | inr past ↦
          sym read.within ∙ ap (λ ps. leq (map (digits_value 10) ps) (drop count greatest)) (drop_more parts count part next.0) ∙ ap (leq (n ∷ rest)) (drop_all count greatest (omega (arith, past)))
    ]

-- there are fewer coordinates than the domain has
pub read_short : (parts : List (List ℕ)) (greatest coords : List ℕ) (count : ℕ) → IsReadUpTo parts greatest coords count
    → length parts ≤ count → count < length greatest → leq (map (digits_value 10) parts) greatest ≡ false
read_short parts greatest coords count read h k =
    sym read.within ∙ ap (λ ps. leq (map (digits_value 10) ps) (drop count greatest)) (drop_all count parts h)
    ∙ ap (leq []) (drop_more greatest count 0 k)

-- all coordinates are read
pub read_all : (parts : List (List ℕ)) (greatest coords : List ℕ) (count : ℕ) → IsReadUpTo parts greatest coords count
    → length parts ≤ count → length greatest ≤ count → (leq (map (digits_value 10) parts) greatest ≡ true) × (coords ≡ map (digits_value 10) parts)
read_all parts greatest coords count read h k = (
  sym read.within ∙ ap (λ ps. leq (map (digits_value 10) ps) (drop count greatest)) (drop_all count parts h) ∙ ap (leq []) (drop_all count greatest k),
  sym (append-nil coords) ∙ ap (λ ps. coords ++ map (digits_value 10) ps) (sym (drop_all count parts h)) ∙ read.value,
)

-- each coordinate of a stamp is a number
pub numeral_next : (parts : List (List ℕ)) (count : ℕ) (part : List ℕ) → list_all is_numeral parts ≡ true → IsNextPart parts count part → is_numeral part ≡ true
numeral_next parts count part e next =
    elim (is_numeral (get_or parts count part)) as (λ b. is_numeral (get_or parts count part) ≡ b → is_numeral part ≡ true) [
      | true ↦ λ q. ap is_numeral next.1 ∙ q
      | false ↦ λ q. let all = list_all_at is_numeral parts count part next.0 q in absurd (cc (all, e))
    ] refl
