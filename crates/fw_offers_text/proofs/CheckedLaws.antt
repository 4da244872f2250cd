-- Values that are taken one after another, each tested as it is taken.
use Rattle.std.proofs.Common.{◌≡◌, ℕ, zero, suc, ◌+◌, ◌^◌, ◌<◌, ◌≤◌, nat_lt, nat_le, ◌⊎◌, inl, inr, Bool, true, false, ◌&&◌, cond, List, [], ◌∷◌, ◌++◌, map, length, drop, get_or, Option, Some, None, refl, sym, ◌∙◌, ap, arith, append_assoc}
use Rattle.std.proofs.lemmas.List.{drop_more, at_drop_all, append-nil, length-map}
use Rattle.std.proofs.lemmas.Bool.Decides.{nat_tests}
use Rattle.std.specs.List.{list_any, list_all, filter_map, cons_option, before_first, after_first}
use Rattle.std.specs.Option.{option_map}
use Rattle.std.specs.Ordering.{is_le}
use Rattle.std.specs.Str.Parse.{digits_value}
use Rattle.fw_bag.specs.Bag.{with_rec, bag_sum}
use Rattle.fw_bag.specs.declared.rec.Rec.{Rec}
use Rattle.fw_bag.specs.Rec.{rec_cmp}
use Rattle.fw_bag.proofs.BagLaws.{bag_sum-with_rec}
use Rattle.fw_lines.specs.declared.span.Span.{Span}
use Rattle.fw_lines.specs.declared.numeral.Number.{Number}
use Rattle.fw_lines.specs.declared.numeral.Number.TheVariants.{Value, TooLarge, NotANumber}
use Rattle.fw_lines.specs.Inputs.{is_colon}
use Rattle.fw_lines.specs.Lines.{bytes_at, words_at}
use Rattle.fw_lines.specs.Spelling.{is_numeral, number_of}
use Rattle.fw_schedule.specs.Stamps.{if_at_most}
use Rattle.fw_offers_text.specs.Statements.{count_spelled, is_count_small}
use Rattle.fw_offers_text.specs.Words.{is_count}
use Rattle.std.proofs.lemmas.Bool.{and_right}
use Rattle.fw_lemmas.proofs.Bools.{second_holds}

-- the values, if each passes the test
abbrev pub tested : {B : Type 0} (test : B → Bool) → List B → Option (List B)
tested test ys = cond (list_all test ys) (Some ys) None

tested-cons : {B : Type 0} (test : B → Bool) (y : B) (ys : List B) → test y ≡ true → tested test (y ∷ ys) ≡ option_map (λ zs. y ∷ zs) (tested test ys)
tested-cons test y ys h = ap (λ b. cond (b && list_all test ys) (Some (y ∷ ys)) None) h ∙ by (list_all test ys)
  where
    by : (b : Bool) → cond b (Some (y ∷ ys)) None ≡ option_map (λ zs. y ∷ zs) (cond b (Some ys) None)
    by true = refl
    by false = refl

tested-fails : {B : Type 0} (test : B → Bool) (y : B) (ys : List B) → test y ≡ false → None ≡ tested test (y ∷ ys)
tested-fails test y ys h = ap (λ b. cond (b && list_all test ys) (Some (y ∷ ys)) None) (sym h)

-- what a test of one value says
passed : {B : Type 0} (b : Bool) (x y : B) → Some y ≡ cond b (Some x) None → (b ≡ true) × (x ≡ y)
passed true x y e = (refl, cc)
passed false x y e = absurd (cc)

failed : {B : Type 0} (b : Bool) (x : B) → None ≡ cond b (Some x) None → b ≡ false
failed true x e = absurd (cc)
failed false x e = refl

before-more : {B : Type 0} (out : List B) (y : B) (o : Option (List B)) → option_map (λ zs. (out ++ y ∷ []) ++ zs) o ≡ option_map (λ zs. out ++ zs) (option_map (λ zs. y ∷ zs) o)
before-more out y None = refl
before-more out y (Some zs) = ap Some (append_assoc out (y ∷ []) zs)

-- ---- words, as parts of a text

-- as many words as parts
pub parts_length : (text : List ℕ) (parts : List Span) (words : List (List ℕ)) → words_at text parts ≡ words → length parts ≡ length words
parts_length text parts words view = sym (length-map parts (bytes_at text)) ∙ ap length view

-- the word that a part is
pub part_word : (text : List ℕ) (parts : List Span) (words : List (List ℕ)) (count : ℕ) (d : Span) (e : List ℕ) → words_at text parts ≡ words → count < length parts → bytes_at text (get_or parts count d) ≡ get_or words count e
part_word text parts words count d e view below = at parts count below ∙ ap (λ ws. get_or ws count e) view
  where
    at : (ps : List Span) (i : ℕ) → i < length ps → bytes_at text (get_or ps i d) ≡ get_or (words_at text ps) i e
    at [] i h = absurd (omega (arith, h))
    at (p ∷ ps) zero h = refl
    at (p ∷ ps) (suc i) h = at ps i (omega (arith, h))

pub part_below : (text : List ℕ) (parts : List Span) (words : List (List ℕ)) (count : ℕ) → words_at text parts ≡ words → count < length parts → count < length words
part_below text parts words count view below = omega (arith, parts_length text parts words view, below)

-- a word among words of which each passes a test
pub word_passes : (test : List ℕ → Bool) (words : List (List ℕ)) (count : ℕ) (d : List ℕ) → list_all test words ≡ true → count < length words → test (get_or words count d) ≡ true
word_passes test [] count d h below = absurd (omega (arith, below))
word_passes test (word ∷ words) zero d h below = and_first (test word) (list_all test words) h
  where
    and_first : (a b : Bool) → (a && b) ≡ true → a ≡ true
    and_first true b k = refl
    and_first false b k = absurd (cc)
word_passes test (word ∷ words) (suc count) d h below = word_passes test words count d (and_second (test word) (list_all test words) h) (omega (arith, below))
  where
    and_second : (a b : Bool) → (a && b) ≡ true → b ≡ true
    and_second true b k = k
    and_second false b k = absurd (cc)

-- ---- values of words

-- what the code's loop knows: of the first `count` words the values are taken, and on the others it rests whether all are
pub record AreTakenUpTo {B : Type 0} (value : List ℕ → B) (test : B → Bool) (words : List (List ℕ)) (count : ℕ) (out : List B) : Type 0 where
  pub whole : option_map (λ rest. out ++ rest) (tested test (map value (drop count words))) ≡ tested test (map value words)

pub taken_none : {B : Type 0} (value : List ℕ → B) (test : B → Bool) (words : List (List ℕ)) → AreTakenUpTo value test words 0 []
taken_none {B = B} value test words = record { whole = by (tested test (map value words)) }
  where
    by : (o : Option (List B)) → option_map (λ rest. [] ++ rest) o ≡ o
    by None = refl
    by (Some zs) = refl

pub taken_more : {B : Type 0} (value : List ℕ → B) (test : B → Bool) (words : List (List ℕ)) (count : ℕ) (out new : List B) (word : List ℕ) (y : B) → count < length words → AreTakenUpTo value test words count out
    → word ≡ get_or words count [] → Some y ≡ cond (test (value word)) (Some (value word)) None → new ≡ out ++ y ∷ [] → AreTakenUpTo value test words (count + 1) new
taken_more value test words count out new word y below h at passes e =
    let p = passed (test (value word)) (value word) y passes in
    let rest = map value (drop (count + 1) words) in
    let first : value (get_or words count []) ≡ y = ap value (sym at) ∙ p.1 in
    record {
      whole = ap (λ ys. option_map (λ r. ys ++ r) (tested test rest)) e ∙ before-more out y (tested test rest)
          ∙ ap (option_map (λ r. out ++ r)) (sym (tested-cons test y rest (ap test (sym p.1) ∙ p.0)))
          ∙ ap (λ v. option_map (λ r. out ++ r) (tested test (v ∷ rest))) (sym first)
          ∙ ap (λ ws. option_map (λ r. out ++ r) (tested test (map value ws))) (sym (drop_more words count [] below))
          ∙ h.whole;
    }

pub taken_fails : {B : Type 0} (value : List ℕ → B) (test : B → Bool) (words : List (List ℕ)) (count : ℕ) (out : List B) (word : List ℕ) → count < length words → AreTakenUpTo value test words count out
    → word ≡ get_or words count [] → None ≡ cond (test (value word)) (Some (value word)) None → None ≡ tested test (map value words)
taken_fails value test words count out word below h at fails =
    ap (option_map (λ r. out ++ r)) (tested-fails test (value (get_or words count [])) (map value (drop (count + 1) words)) (ap (λ w. test (value w)) (sym at) ∙ failed (test (value word)) (value word) fails))
    ∙ ap (λ ws. option_map (λ r. out ++ r) (tested test (map value ws))) (sym (drop_more words count [] below))
    ∙ h.whole

pub taken_all : {B : Type 0} (value : List ℕ → B) (test : B → Bool) (words : List (List ℕ)) (count : ℕ) (out : List B) → length words ≤ count → AreTakenUpTo value test words count out
    → Some out ≡ tested test (map value words)
taken_all value test words count out past h =
    ap Some (sym (append-nil out))
    ∙ sym (at_drop_all (λ ws. option_map (λ r. out ++ r) (tested test (map value ws))) words count past)
    ∙ h.whole

-- ---- values that forms may have

-- what the code's loop knows: of the first `count` forms those values are taken that they have
pub record AreFoundUpTo {A B : Type 0} (value : A → Option B) (test : B → Bool) (forms : List A) (count : ℕ) (out : List B) : Type 0 where
  pub whole : option_map (λ rest. out ++ rest) (tested test (filter_map value (drop count forms))) ≡ tested test (filter_map value forms)

pub found_none : {A B : Type 0} (value : A → Option B) (test : B → Bool) (forms : List A) → AreFoundUpTo value test forms 0 []
found_none {B = B} value test forms = record { whole = by (tested test (filter_map value forms)) }
  where
    by : (o : Option (List B)) → option_map (λ rest. [] ++ rest) o ≡ o
    by None = refl
    by (Some zs) = refl

found_next : {A B : Type 0} (value : A → Option B) (test : B → Bool) (forms : List A) (count : ℕ) (out : List B) (d : A) (o : Option B) → count < length forms → value (get_or forms count d) ≡ o
    → option_map (λ r. out ++ r) (tested test (cons_option o (filter_map value (drop (count + 1) forms)))) ≡ option_map (λ r. out ++ r) (tested test (filter_map value (drop count forms)))
found_next value test forms count out d o below e =
    ap (λ v. option_map (λ r. out ++ r) (tested test (cons_option v (filter_map value (drop (count + 1) forms))))) (sym e)
    ∙ ap (λ fs. option_map (λ r. out ++ r) (tested test (filter_map value fs))) (sym (drop_more forms count d below))

pub found_skipped : {A B : Type 0} (value : A → Option B) (test : B → Bool) (forms : List A) (count : ℕ) (out : List B) (d : A) → count < length forms → AreFoundUpTo value test forms count out
    → value (get_or forms count d) ≡ None → AreFoundUpTo value test forms (count + 1) out
found_skipped value test forms count out d below h e = record { whole = found_next value test forms count out d None below e ∙ h.whole }

pub found_more : {A B : Type 0} (value : A → Option B) (test : B → Bool) (forms : List A) (count : ℕ) (out new : List B) (d : A) (y : B) → count < length forms → AreFoundUpTo value test forms count out
    → value (get_or forms count d) ≡ Some y → test y ≡ true → new ≡ out ++ y ∷ [] → AreFoundUpTo value test forms (count + 1) new
found_more value test forms count out new d y below h e passes n =
    let rest = filter_map value (drop (count + 1) forms) in
    record {
      whole = ap (λ ys. option_map (λ r. ys ++ r) (tested test rest)) n ∙ before-more out y (tested test rest)
          ∙ ap (option_map (λ r. out ++ r)) (sym (tested-cons test y rest passes))
          ∙ found_next value test forms count out d (Some y) below e
          ∙ h.whole;
    }

pub found_fails : {A B : Type 0} (value : A → Option B) (test : B → Bool) (forms : List A) (count : ℕ) (out : List B) (d : A) (y : B) → count < length forms → AreFoundUpTo value test forms count out
    → value (get_or forms count d) ≡ Some y → test y ≡ false → None ≡ tested test (filter_map value forms)
found_fails value test forms count out d y below h e fails =
    ap (option_map (λ r. out ++ r)) (tested-fails test y (filter_map value (drop (count + 1) forms)) fails)
    ∙ found_next value test forms count out d (Some y) below e ∙ h.whole

pub found_all : {A B : Type 0} (value : A → Option B) (test : B → Bool) (forms : List A) (count : ℕ) (out : List B) → length forms ≤ count → AreFoundUpTo value test forms count out
    → Some out ≡ tested test (filter_map value forms)
found_all value test forms count out past h =
    ap Some (sym (append-nil out))
    ∙ sym (at_drop_all (λ fs. option_map (λ r. out ++ r) (tested test (filter_map value fs))) forms count past)
    ∙ h.whole

-- ---- counts

all-with : (test : Rec → Bool) (r : Rec) (xs : List Rec) → list_all test (with_rec r xs) ≡ (test r && list_all test xs)
all-with test r [] = refl
all-with test r (x ∷ xs) = by (is_le (rec_cmp r x)) (all-with test r xs)
  where
    swap : (a b c : Bool) → (a && (b && c)) ≡ (b && (a && c))
    swap true b c = refl
    swap false true c = refl
    swap false false c = refl

    by : (b : Bool) → list_all test (with_rec r xs) ≡ (test r && list_all test xs) → list_all test (cond b (r ∷ x ∷ xs) (x ∷ with_rec r xs)) ≡ (test r && (test x && list_all test xs))
    by true h = refl
    by false h = ap (λ b. test x && b) h ∙ swap (test x) (test r) (list_all test xs)

-- what the code's loop knows: the first `count` words are put in order, each is small, and with the others they are all
pub record AreCountedUpTo (value : List ℕ → Rec) (test : Rec → Bool) (words : List (List ℕ)) (count : ℕ) (out : List Rec) : Type 0 where
  pub all : bag_sum (map value (drop count words)) out ≡ bag_sum (map value words) []
  pub small : list_all test out ≡ true

pub counted_more : (value : List ℕ → Rec) (test : Rec → Bool) (words : List (List ℕ)) (count : ℕ) (out new : List Rec) (word : List ℕ) (y : Rec) → count < length words → AreCountedUpTo value test words count out
    → word ≡ get_or words count [] → Some y ≡ cond (test (value word)) (Some (value word)) None → new ≡ with_rec y out → AreCountedUpTo value test words (count + 1) new
counted_more value test words count out new word y below h at passes e =
    let p = passed (test (value word)) (value word) y passes in
    let rest = map value (drop (count + 1) words) in
    let first : value (get_or words count []) ≡ y = ap value (sym at) ∙ p.1 in
    record {
      all = ap (bag_sum rest) e ∙ bag_sum-with_rec y rest out ∙ ap (λ v. bag_sum (v ∷ rest) out) (sym first)
          ∙ ap (λ ws. bag_sum (map value ws) out) (sym (drop_more words count [] below)) ∙ h.all;
      small = ap (list_all test) e ∙ all-with test y out ∙ ap (λ b. b && list_all test out) (ap test (sym p.1) ∙ p.0) ∙ h.small;
    }

pub counted_fails : (value : List ℕ → Rec) (test : Rec → Bool) (words : List (List ℕ)) (count : ℕ) (out : List Rec) (word : List ℕ) → count < length words → AreCountedUpTo value test words count out
    → word ≡ get_or words count [] → None ≡ cond (test (value word)) (Some (value word)) None → None ≡ tested test (bag_sum (map value words) [])
counted_fails value test words count out word below h at fails =
    let y = value (get_or words count []) in
    let fails_here : test y ≡ false = ap (λ w. test (value w)) (sym at) ∙ failed (test (value word)) (value word) fails in
    let rest = bag_sum (map value (drop (count + 1) words)) out in
    let whole : with_rec y rest ≡ bag_sum (map value words) [] = ap (λ ws. bag_sum (map value ws) out) (sym (drop_more words count [] below)) ∙ h.all in
    ap (λ b. cond b (Some (with_rec y rest)) None) (sym (all-with test y rest ∙ ap (λ b. b && list_all test rest) fails_here)) ∙ ap (tested test) whole

pub counted_all : (value : List ℕ → Rec) (test : Rec → Bool) (words : List (List ℕ)) (count : ℕ) (out : List Rec) → length words ≤ count → AreCountedUpTo value test words count out
    → Some out ≡ tested test (bag_sum (map value words) [])
counted_all value test words count out past h =
    let whole : out ≡ bag_sum (map value words) [] = sym (at_drop_all (λ ws. bag_sum (map value ws) out) words count past) ∙ h.all in
    ap (λ b. cond b (Some out) None) (sym h.small) ∙ ap (tested test) whole

-- ---- one count

abbrev rec_of : ℕ → ℕ → Rec
rec_of key value = record { key = key; value = value }

value-of : (a b : Bool) (d v : ℕ) → Value v ≡ cond a (cond b (Value d) TooLarge) NotANumber → (v ≡ d) × (b ≡ true)
value-of true true d v e = (cc, refl)
value-of true false d v e = absurd (cc)
value-of false b d v e = absurd (cc)

not-value : (a b : Bool) (d : ℕ) (n : Number) → a ≡ true → n ≡ cond a (cond b (Value d) TooLarge) NotANumber → (n ≡ TooLarge) ⊎ (n ≡ NotANumber) → b ≡ false
not-value true true d n h e (inl k) = absurd (cc)
not-value true true d n h e (inr k) = absurd (cc)
not-value true false d n h e k = refl
not-value false b d n h e k = absurd (cc)

at-most : (n e : ℕ) → Some e ≡ if_at_most 4294967295 n → (n ≡ e) × (nat_lt n (2 ^ 32) ≡ true)
at-most n e h = by (nat_le n 4294967295) refl h
  where
    below : (m : ℕ) → nat_le m 4294967295 ≡ true → nat_lt m (2 ^ 32) ≡ true
    below m k = grind (arith, nat_tests)

    by : (b : Bool) → nat_le n 4294967295 ≡ b → Some e ≡ cond b (Some n) None → (n ≡ e) × (nat_lt n (2 ^ 32) ≡ true)
    by true k i = (cc, below n k)
    by false k i = absurd (cc)

-- a count whose numbers are not too large
pub counted_value : (word front back : List ℕ) (e k v : ℕ) → front ≡ before_first is_colon word → back ≡ after_first is_colon word → Some e ≡ if_at_most 4294967295 (digits_value 10 front) → k ≡ e → Value v ≡ number_of back
    → Some (record { key = k; value = v }) ≡ cond (is_count_small (count_spelled word)) (Some (count_spelled word)) None
unfolding number_of
counted_value word front back e k v f b small same is =
    let epoch = at-most (digits_value 10 front) e small in
    let number = value-of (is_numeral back) (nat_lt (digits_value 10 back) (2 ^ 64)) (digits_value 10 back) v is in
    let key : digits_value 10 (before_first is_colon word) ≡ k = ap (digits_value 10) (sym f) ∙ epoch.0 ∙ sym same in
    let value : digits_value 10 (after_first is_colon word) ≡ v = ap (digits_value 10) (sym b) ∙ sym number.0 in
    let fits : is_count_small (count_spelled word) ≡ true =
    ap (λ n. nat_lt n (2 ^ 32) && nat_lt (digits_value 10 (after_first is_colon word)) (2 ^ 64)) (ap (digits_value 10) (sym f))
    ∙ ap (λ x. x && nat_lt (digits_value 10 (after_first is_colon word)) (2 ^ 64)) epoch.1
    ∙ ap (λ n. nat_lt n (2 ^ 64)) (ap (digits_value 10) (sym b)) ∙ number.1 in
    sym (ap (λ x. cond x (Some (count_spelled word)) None) fits ∙ ap (λ n. Some (rec_of n (digits_value 10 (after_first is_colon word)))) key ∙ ap (λ n. Some (rec_of k n)) value)

-- one whose number is
pub counted_none : (word back : List ℕ) (n : Number) → is_count word ≡ true → back ≡ after_first is_colon word → n ≡ number_of back → (n ≡ TooLarge) ⊎ (n ≡ NotANumber)
    → None ≡ cond (is_count_small (count_spelled word)) (Some (count_spelled word)) None
unfolding number_of
counted_none word back n count b is large =
    let numeral : is_numeral back ≡ true =
    ap is_numeral b ∙ second_holds (is_numeral (before_first is_colon word)) (is_numeral (after_first is_colon word)) (second_holds (list_any is_colon word) (is_numeral (before_first is_colon word) && is_numeral (after_first is_colon word)) count) in
    let too_large = not-value (is_numeral back) (nat_lt (digits_value 10 back) (2 ^ 64)) (digits_value 10 back) n numeral is large in
    let fails : is_count_small (count_spelled word) ≡ false =
    and_right (nat_lt (digits_value 10 (before_first is_colon word)) (2 ^ 32)) (nat_lt (digits_value 10 (after_first is_colon word)) (2 ^ 64)) (ap (λ w. nat_lt (digits_value 10 w) (2 ^ 64)) (sym b) ∙ too_large) in
    ap (λ x. cond x (Some (count_spelled word)) None) (sym fails)
