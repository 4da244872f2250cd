-- The forms of words: what of them is found where they begin leaves fewer, so that covers are found one after another.
use Rattle.std.proofs.Common.{◌≡◌, ℕ, zero, suc, ◌+◌, ◌<◌, ◌≤◌, ◌==◌, Bool, true, false, ◌&&◌, cond, List, [], ◌∷◌, ◌++◌, length, take, drop, get_or, Option, Some, None, refl, sym, ◌∙◌, ap, subst, arith, append_assoc}
use Rattle.std.specs.Prelude.{◌≢◌, codes}
use Rattle.std.proofs.lemmas.Bool.Decides.{nat_tests}
use Rattle.std.proofs.lemmas.List.{length-drop, append-nil}
use Rattle.std.proofs.lemmas.List.Folds.{list_all-map}
use Rattle.std.specs.List.{list_all, prefix_len}
use Rattle.std.specs.Option.{option_map, option_and_then}
use Rattle.std.specs.Str.{bytes_eq}
use Rattle.fw_lines.specs.declared.span.Span.{Span}
use Rattle.fw_lines.specs.Lines.{bytes_at, words_at}
use Rattle.fw_flow.specs.FullNames.{is_full_name}
use Rattle.fw_schedule.specs.Stamps.{is_stamp}
use Rattle.fw_offers_text.specs.declared.form.CoverForm.{CoverForm}
use Rattle.fw_offers_text.specs.declared.form.SideForm.{SideForm}
use Rattle.fw_offers_text.specs.declared.form.SideForm.TheVariants as side
use Rattle.fw_offers_text.specs.Forms.{stamps_at, frontier_at, name_at, side_at, cover_at, covers_within, covers_of_words, offer_in, offer_form, certificate_form}
use Rattle.fw_offers_text.specs.Words.{Word}
use Rattle.fw_offers_text.proofs.TakenLaws.{mapped-some, bound-some}

-- ---- tests of words, at the parts of a text that they are

-- each of the words passes a test where each part does
pub each_word : (test : Word → Bool) (text : List ℕ) (words : List Span) (b : Bool) → b ≡ list_all (λ word. test (bytes_at text word)) words → b ≡ list_all test (words_at text words)
each_word test text words b h = h ∙ sym (list_all-map test (bytes_at text) words)

-- as many words pass a test, from the first on
pub prefix_words : (test : Word → Bool) (text : List ℕ) (words : List Span) → prefix_len (λ word. test (bytes_at text word)) words ≡ prefix_len test (words_at text words)
prefix_words test text [] = refl
prefix_words test text (word ∷ words) = ap (λ n. cond (test (bytes_at text word)) (1 + n) 0) (prefix_words test text words)

pub take_words : (text : List ℕ) (words : List Span) (n : ℕ) → words_at text (take n words) ≡ take n (words_at text words)
take_words text [] zero = refl
take_words text [] (suc n) = refl
take_words text (word ∷ words) zero = refl
take_words text (word ∷ words) (suc n) = ap (λ ws. bytes_at text word ∷ ws) (take_words text words n)

pub drop_words : (text : List ℕ) (words : List Span) (n : ℕ) → words_at text (drop n words) ≡ drop n (words_at text words)
drop_words text [] zero = refl
drop_words text [] (suc n) = refl
drop_words text (word ∷ words) zero = refl
drop_words text (word ∷ words) (suc n) = drop_words text words n

-- the words before the first that does not pass do
pub prefix_passes : (test : Word → Bool) (words : List Word) → list_all test (take (prefix_len test words) words) ≡ true
prefix_passes test [] = refl
prefix_passes test (word ∷ words) = by (test word) refl (prefix_passes test words)
  where
    by : (b : Bool) → test word ≡ b → list_all test (take (prefix_len test words) words) ≡ true → list_all test (take (cond b (1 + prefix_len test words) 0) (word ∷ words)) ≡ true
    by true e h =
        let one : suc (prefix_len test words) ≡ 1 + prefix_len test words = omega arith in
        subst (λ n. list_all test (take n (word ∷ words)) ≡ true) one (ap (λ b. b && list_all test (take (prefix_len test words) words)) e ∙ h)
    by false e h = refl

-- words that pass a test, as parts of a text
pub all_pass : (test : Word → Bool) (text : List ℕ) (words : List Span) (now : List Word) (b : Bool) → words_at text words ≡ now → b ≡ list_all (λ word. test (bytes_at text word)) words → b ≡ true
    → Some (words_at text words) ≡ cond (list_all test now) (Some now) None
all_pass test text words now b view is h =
    let passes : list_all test now ≡ true = ap (list_all test) (sym view) ∙ sym (each_word test text words b is) ∙ h in
    ap Some view ∙ ap (λ x. cond x (Some now) None) (sym passes)

-- words of which one does not
pub some_fails : (test : Word → Bool) (text : List ℕ) (words : List Span) (now : List Word) (b : Bool) → words_at text words ≡ now → b ≡ list_all (λ word. test (bytes_at text word)) words → b ≡ false
    → None ≡ cond (list_all test now) (Some now) None
some_fails test text words now b view is h =
    let fails : list_all test now ≡ false = ap (list_all test) (sym view) ∙ sym (each_word test text words b is) ∙ h in
    ap (λ x. cond x (Some now) None) (sym fails)

-- the stamps that words begin with, as parts of a text
stamps_here : (text : List ℕ) (words : List Span) (now : List Word) (count : ℕ) → words_at text words ≡ now → count ≡ prefix_len (λ word. is_stamp (bytes_at text word)) words
    → cond (count == 0) None (Some (take count now, drop count now)) ≡ stamps_at now
stamps_here text words now count view is =
    ap (λ n. cond (n == 0) None (Some (take n now, drop n now))) (is ∙ prefix_words is_stamp text words ∙ ap (prefix_len is_stamp) view)

pub no_stamps : (text : List ℕ) (words : List Span) (now : List Word) (count : ℕ) → words_at text words ≡ now → count ≡ prefix_len (λ word. is_stamp (bytes_at text word)) words → count ≡ 0
    → None ≡ stamps_at now
no_stamps text words now count view is none = ap (λ n. cond (n == 0) None (Some (take n now, drop n now))) (sym none) ∙ stamps_here text words now count view is

pub some_stamps : (text : List ℕ) (words front back : List Span) (now rest : List Word) (count : ℕ) → words_at text words ≡ now → count ≡ prefix_len (λ word. is_stamp (bytes_at text word)) words → 0 < count
    → front ≡ take count words → back ≡ drop count words → rest ≡ words_at text back → Some (words_at text front, rest) ≡ stamps_at now
some_stamps text words front back now rest count view is some f b r =
    ap (λ x. Some (x, rest)) (ap (words_at text) f ∙ take_words text words count ∙ ap (take count) view)
    ∙ ap (λ x. Some (take count now, x)) (r ∙ ap (words_at text) b ∙ drop_words text words count ∙ ap (drop count) view)
    ∙ ap (λ x. cond x None (Some (take count now, drop count now))) (sym (not-zero count some))
    ∙ stamps_here text words now count view is
  where
    not-zero : (n : ℕ) → 0 < n → (n == 0) ≡ false
    not-zero n h = grind (arith, nat_tests)

pub stamps_pass : (text : List ℕ) (words front : List Span) (count : ℕ) → count ≡ prefix_len (λ word. is_stamp (bytes_at text word)) words → front ≡ take count words
    → list_all is_stamp (words_at text front) ≡ true
stamps_pass text words front count is f =
    ap (λ ws. list_all is_stamp (words_at text ws)) f ∙ ap (list_all is_stamp) (take_words text words count)
    ∙ ap (λ n. list_all is_stamp (take n (words_at text words))) (is ∙ prefix_words is_stamp text words)
    ∙ prefix_passes is_stamp (words_at text words)

-- a line of a certificate has two words or more
pub too_few_words : (text : List ℕ) (words : List Span) (now : List Word) → words_at text words ≡ now → length words < 2 → None ≡ certificate_form now
too_few_words text [] now view h = ap certificate_form view
too_few_words text (word ∷ []) now view h = ap certificate_form view
too_few_words text (verb ∷ second ∷ words) now view h = absurd (omega (arith, h))

-- so has a line of offers
pub too_few_of_offer : (text : List ℕ) (words : List Span) (now : List Word) → words_at text words ≡ now → length words < 2 → None ≡ offer_form now
too_few_of_offer text [] now view h = ap offer_form view
too_few_of_offer text (word ∷ []) now view h = ap offer_form view
too_few_of_offer text (verb ∷ second ∷ words) now view h = absurd (omega (arith, h))

-- and its second word is a name
pub no_name_of_offer : (text : List ℕ) (words : List Span) (now : List Word) (unless : Span) → words_at text words ≡ now → 2 ≤ length words
    → false ≡ is_full_name (bytes_at text (get_or words 1 unless)) → None ≡ offer_form now
no_name_of_offer text [] now unless view h unnamed = absurd (omega (arith, h))
no_name_of_offer text (word ∷ []) now unless view h unnamed = absurd (omega (arith, h))
no_name_of_offer text (verb ∷ name ∷ words) now unless view h unnamed =
    ap (λ b. cond b (offer_in (bytes_at text verb) (bytes_at text name) (words_at text words)) None) unnamed ∙ ap offer_form view

-- ---- what is left

if-some : {A : Type 0} (b : Bool) (x y : A) → cond b (Some x) None ≡ Some y → x ≡ y
if-some true x y e = cc
if-some false x y e = absurd (cc)

if-none : {A : Type 0} (b : Bool) (x y : A) → cond b None (Some x) ≡ Some y → x ≡ y
if-none true x y e = absurd (cc)
if-none false x y e = cc

stamps-left : (words : List Word) (found : List Word × List Word) → stamps_at words ≡ Some found → length found.1 ≤ length words
stamps-left words found e =
    let same = if-none (prefix_len is_stamp words == 0) (take (prefix_len is_stamp words) words, drop (prefix_len is_stamp words) words) found e in
    let rest : length (drop (prefix_len is_stamp words) words) ≡ length found.1 = ap (λ (p : List Word × List Word). length p.1) same in
    omega (arith, rest, length-drop (prefix_len is_stamp words) words)

front-left : (words : List Word) (found : List Word × List Word) → frontier_at words ≡ Some found → length found.1 < length words
front-left [] found e = absurd (cc)
front-left (word ∷ words) found e = by (bytes_eq word (codes "all")) (bytes_eq word (codes "until")) e
  where
    by : (a b : Bool) → cond a (Some ([], words)) (cond b (stamps_at words) None) ≡ Some found → length found.1 < length (word ∷ words)
    by true b h = let same : ([], words) ≡ found = cc in let rest : length words ≡ length found.1 = ap (λ (p : List Word × List Word). length p.1) same in omega (arith, rest)
    by false true h = let left = stamps-left words found h in omega (arith, left)
    by false false h = absurd (cc)

name-left : (words : List Word) (found : Word × List Word) → name_at words ≡ Some found → length found.1 < length words
name-left [] found e = absurd (cc)
name-left (name ∷ words) found e =
    let same = if-some (is_full_name name) (name, words) found e in
    let rest : length words ≡ length found.1 = ap (λ (p : Word × List Word). length p.1) same in
    omega (arith, rest)

side-left : (words : List Word) (found : SideForm × List Word) → side_at words ≡ Some found → length found.1 < length words
side-left [] found e = absurd (cc)
side-left (word ∷ words) found e = by (bytes_eq word (codes "notified")) (bytes_eq word (codes "delivered")) (bytes_eq word (codes "discarded")) e
  where
    named : (of : Word → SideForm) → option_map (λ (f : Word × List Word). (of f.0, f.1)) (name_at words) ≡ Some found → length found.1 < length (word ∷ words)
    named of h =
        let m = mapped-some (λ (f : Word × List Word). (of f.0, f.1)) (name_at words) found h in
        let left = name-left words m.0 m.1 in
        let rest : length m.0.1 ≡ length found.1 = ap (λ (p : SideForm × List Word). length p.1) m.2 in
        omega (arith, rest, left)

    by : (a b c : Bool) → cond a (Some (side.Notified, words)) (cond b (option_map (λ (f : Word × List Word). (side.Delivered f.0, f.1)) (name_at words)) (cond c (option_map (λ (f : Word × List Word). (side.Discarded f.0, f.1)) (name_at words)) None)) ≡ Some found
        → length found.1 < length (word ∷ words)
    by true b c h = let same : (side.Notified, words) ≡ found = cc in let rest : length words ≡ length found.1 = ap (λ (p : SideForm × List Word). length p.1) same in omega (arith, rest)
    by false true c h = named (λ name. side.Delivered name) h
    by false false true h = named (λ name. side.Discarded name) h
    by false false false h = absurd (cc)

abbrev cover_with : SideForm → List Word × List Word → CoverForm × List Word
cover_with of front = (record { of = of; front = front.0 }, front.1)

-- a cover leaves fewer words
pub cover-left : (words : List Word) (found : CoverForm × List Word) → cover_at words ≡ Some found → length found.1 < length words
cover-left words found e =
    let s = bound-some (λ (f : SideForm × List Word). option_map (cover_with f.0) (frontier_at f.1)) (side_at words) found e in
    let m = mapped-some (cover_with s.0.0) (frontier_at s.0.1) found s.2 in
    let side_left = side-left words s.0 s.1 in
    let front_left = front-left s.0.1 m.0 m.1 in
    let rest : length m.0.1 ≡ length found.1 = ap (λ (p : CoverForm × List Word). length p.1) m.2 in
    omega (arith, rest, side_left, front_left)

-- ---- covers, one after another

-- covers are the same where so many are allowed as there are words, or more
enough : (words : List Word) (m n : ℕ) → length words ≤ m → length words ≤ n → covers_within words m ≡ covers_within words n
enough [] m n h k = refl
enough (word ∷ words) zero n h k = absurd (omega (arith, h))
enough (word ∷ words) (suc m) zero h k = absurd (omega (arith, k))
enough (word ∷ words) (suc m) (suc n) h k = by (cover_at (word ∷ words)) refl (λ (ws : List Word) a b. enough ws m n a b)
  where
    by : (o : Option (CoverForm × List Word)) → cover_at (word ∷ words) ≡ o → ((ws : List Word) → length ws ≤ m → length ws ≤ n → covers_within ws m ≡ covers_within ws n)
        → option_and_then (λ (f : CoverForm × List Word). option_map (λ covers. f.0 ∷ covers) (covers_within f.1 m)) o ≡ option_and_then (λ (f : CoverForm × List Word). option_map (λ covers. f.0 ∷ covers) (covers_within f.1 n)) o
    by None e more = refl
    by (Some f) e more =
        let left = cover-left (word ∷ words) f e in
        ap (option_map (λ covers. f.0 ∷ covers)) (more f.1 (omega (arith, left, h)) (omega (arith, left, k)))

covers-next : (words : List Word) (found : CoverForm × List Word) → cover_at words ≡ Some found → covers_of_words words ≡ option_map (λ covers. found.0 ∷ covers) (covers_of_words found.1)
covers-next [] found e = let left = cover-left [] found e in absurd (omega (arith, left))
covers-next (word ∷ words) found e =
    let left = cover-left (word ∷ words) found e in
    ap (option_and_then (λ (f : CoverForm × List Word). option_map (λ covers. f.0 ∷ covers) (covers_within f.1 (length words)))) e
    ∙ ap (option_map (λ covers. found.0 ∷ covers)) (enough found.1 (length words) (length found.1) (omega (arith, left)) (omega arith))

covers-fail : (words : List Word) → words ≢ [] → cover_at words ≡ None → covers_of_words words ≡ None
covers-fail [] h e = absurd (h refl)
covers-fail (word ∷ words) h e = ap (option_and_then (λ (f : CoverForm × List Word). option_map (λ covers. f.0 ∷ covers) (covers_within f.1 (length words)))) e

-- what the code's loop knows: some covers are found, and on the words that are left it rests what is found in all
pub record AreCoversUpTo (words rest : List Word) (covers : List CoverForm) : Type 0 where
  pub whole : option_map (λ more. covers ++ more) (covers_of_words rest) ≡ covers_of_words words

pub covers_none : (words : List Word) → AreCoversUpTo words words []
covers_none words = record { whole = by (covers_of_words words) }
  where
    by : (o : Option (List CoverForm)) → option_map (λ more. [] ++ more) o ≡ o
    by None = refl
    by (Some cs) = refl

pub covers_more : (words rest : List Word) (covers new : List CoverForm) (found : CoverForm × List Word) → AreCoversUpTo words rest covers → Some found ≡ cover_at rest → new ≡ covers ++ found.0 ∷ []
    → AreCoversUpTo words found.1 new
covers_more words rest covers new found h e n = record {
  whole = ap (λ cs. option_map (λ more. cs ++ more) (covers_of_words found.1)) n ∙ by (covers_of_words found.1) ∙ ap (option_map (λ more. covers ++ more)) (sym (covers-next rest found (sym e))) ∙ h.whole;
}
  where
    by : (o : Option (List CoverForm)) → option_map (λ more. (covers ++ found.0 ∷ []) ++ more) o ≡ option_map (λ more. covers ++ more) (option_map (λ cs. found.0 ∷ cs) o)
    by None = refl
    by (Some cs) = ap Some (append_assoc covers (found.0 ∷ []) cs)

pub covers_failed : (words rest : List Word) (covers : List CoverForm) → AreCoversUpTo words rest covers → rest ≢ [] → None ≡ cover_at rest → None ≡ covers_of_words words
covers_failed words rest covers h some e = ap (option_map (λ more. covers ++ more)) (sym (covers-fail rest some (sym e))) ∙ h.whole

pub covers_all : (words rest : List Word) (covers : List CoverForm) → AreCoversUpTo words rest covers → rest ≡ [] → Some covers ≡ covers_of_words words
covers_all words rest covers h e = ap Some (sym (append-nil covers)) ∙ ap (λ ws. option_map (λ more. covers ++ more) (covers_of_words ws)) (sym e) ∙ h.whole
