-- What lines tell, and what is written of them.
use Rattle.std.proofs.Common.{◌≡◌, ℕ, ◌+◌, ◌<◌, ◌^◌, ◌==◌, Bool, true, false, cond, not, ◌&&◌, List, [], ◌∷◌, ◌++◌, length, take, drop, reverse, Option, Some, None, Result, Ok, Err, refl, sym, ap, subst, ◌∙◌, append_assoc, eq-eqb, eqb-true, ne_eqb, arith}
use Rattle.std.proofs.lemmas.List.Elements.{All-cons, All-head, All-nil, All-tail}
use Rattle.std.proofs.lemmas.Fmt.{decimal_is_IsNumeral, parse-decimal}
use Rattle.std.proofs.lemmas.Slice.Eq.{bytes_eq-Decides}
use Rattle.std.proofs.lemmas.Bool.{and_parts}
use Rattle.std.proofs.lemmas.Bool.Decides.{nat_tests}
use Rattle.std.specs.Bool.{Decides}
use Rattle.std.proofs.lemmas.Grind.{reverse_onto}
use Rattle.std.proofs.lemmas.List.{append-nil, drop_more, length-append}
use Rattle.std.proofs.Math.Seq.{take-append_seam, drop-append-add}
use Rattle.std.specs.Prelude.{nat_lt, slice_index_or, unwrap_or, IfOk, IfNone}
use Rattle.std.specs.Char.{digit_value}
use Rattle.std.specs.Fmt.{decimal}
use Rattle.std.specs.Cmp.{unsigned_tied}
use Rattle.std.specs.Map.{lookup, keys_of}
use Rattle.std.specs.Ordering.{nat_cmp, eq_by_cmp}
use Rattle.std.specs.List.{All, AllByRecursion, IsDistinct, position_or_len, before_first, after_first}
use Rattle.std.specs.Result.{result_unwrap_or}
use Rattle.std.specs.Str.{bytes_eq}
use Rattle.std.specs.Str.Parse.{AllDigits, digits_value, ParsesUnsigned}
use Rattle.hex.specs.Hex.{encode_lower, decode_of, decode_sized, IsBytes, is_hex_digit}
use Rattle.hex.specs.declared.error.FromHexError.{FromHexError}
use Rattle.hex.proofs.HexLemmas.{decode_of-encode_lower, decode_of-ok, decode_sized-ok, decode_sized-twice}
use Rattle.fw_disk.proofs.PieceLaws.{pieces_at}
use Rattle.fw_disk.proofs.TableLaws.{Digests, listed}
use Rattle.fw_disk.specs.RunLines.{line_words, IsDigest, IsEntry, digest_line, lines_under, text_of, IsRecordLine, is_space, whole_lines, id_in, digest_in, is_record_line, line_told, told_more, told_after, if_any}

-- ---- a text that is cut at a byte

abbrev pub Lacks : ℕ → List ℕ → Type 0
Lacks c xs = All (λ b. (b == c) ≡ false) xs

first_at : (c : ℕ) (front rest : List ℕ) → Lacks c front → position_or_len (λ b. b == c) (front ++ c ∷ rest) ≡ length front
first_at c [] rest h = ap (λ b. cond (not b) (1 + position_or_len (λ x. x == c) rest) 0) (eq-eqb c c refl)
first_at c (x ∷ front) rest h =
    ap (λ b. cond (not b) (1 + position_or_len (λ x. x == c) (front ++ c ∷ rest)) 0) (All-head (λ b. (b == c) ≡ false) x front h)
    ∙ ap (λ n. 1 + n) (first_at c front rest (All-tail (λ b. (b == c) ≡ false) x front h)) ∙ omega arith

pub before_at : (c : ℕ) (front rest : List ℕ) → Lacks c front → before_first (λ b. b == c) (front ++ c ∷ rest) ≡ front
before_at c front rest h = ap (λ n. take n (front ++ c ∷ rest)) (first_at c front rest h) ∙ take-append_seam front (c ∷ rest)

pub after_at : (c : ℕ) (front rest : List ℕ) → Lacks c front → after_first (λ b. b == c) (front ++ c ∷ rest) ≡ rest
after_at c front rest h = ap (λ n. drop (n + 1) (front ++ c ∷ rest)) (first_at c front rest h) ∙ drop-append-add front (c ∷ rest) 1

-- ---- the words of a record

digits_lack : (c : ℕ) (ds : List ℕ) → (digit_value c < 10 → ⊥) → AllDigits 10 ds → Lacks c ds
digits_lack c [] over h = All-nil (λ b. (b == c) ≡ false)
digits_lack c (x ∷ ds) over h = All-cons (λ b. (b == c) ≡ false) x ds (ne_eqb x c (λ e. over (subst (λ y. digit_value y < 10) e h.0))) (digits_lack c ds over h.1)

id_lacks : (c id : ℕ) → (digit_value c < 10 → ⊥) → id < 2 ^ 64 → Lacks c (decimal id)
id_lacks c id over fits = digits_lack c (decimal id) over (decimal_is_IsNumeral id fits).0.1

no_space : digit_value 32 < 10 → ⊥
no_space l = omega arith

words_cons : (id : ℕ) (digest : List ℕ) → line_words id digest ≡ decimal id ++ 32 ∷ encode_lower digest
words_cons id digest = append_assoc (decimal id) (32 ∷ []) (encode_lower digest)

module _ (id : ℕ) (digest words : List ℕ) (is : IsRecordLine id digest words) where
  in_parts : words ≡ decimal id ++ 32 ∷ encode_lower digest
  in_parts = is.spelled ∙ words_cons id digest

  pub id_part : before_first is_space words ≡ decimal id
  id_part = ap (before_first is_space) in_parts ∙ before_at 32 (decimal id) (encode_lower digest) (id_lacks 32 id no_space is.fits)

  pub digest_part : after_first is_space words ≡ encode_lower digest
  digest_part = ap (after_first is_space) in_parts ∙ after_at 32 (decimal id) (encode_lower digest) (id_lacks 32 id no_space is.fits)

  pub space_there : position_or_len is_space words < length words
  space_there =
      subst (λ w. position_or_len is_space w < length w) (sym in_parts)
      (omega (arith, first_at 32 (decimal id) (encode_lower digest) (id_lacks 32 id no_space is.fits), length-append (decimal id) (32 ∷ encode_lower digest)))

  id_told : id_in words ≡ id
  id_told = ap (digits_value 10) id_part ∙ (decimal_is_IsNumeral id is.fits).1

  digest_told : digest_in words ≡ digest
  digest_told = ap (λ t. result_unwrap_or (decode_of t) []) digest_part ∙ ap (λ r. result_unwrap_or r []) (decode_of-encode_lower digest is.digest_fits.1)

  passes : is_record_line id digest words ≡ true
  passes =
      let small : nat_lt id (2 ^ 64) ≡ true = let l = is.fits in grind (arith, nat_tests) in
      let long : (length digest == 32) ≡ true = eq-eqb (length digest) 32 is.digest_fits.0 in
      let same : bytes_eq words (line_words id digest) ≡ true = (bytes_eq-Decides words (line_words id digest)).1 is.spelled in
      λ i. small i && long i && same i

  -- a line of a record tells its id and its digest
  pub record_told : line_told words ≡ Some (id, digest)
  record_told =
      ap (λ (p : ℕ × List ℕ). cond (is_record_line p.0 p.1 words) (Some p) None) (λ i. (id_told i, digest_told i))
      ∙ ap (λ b. cond b (Some (id, digest)) None) passes

bytes_spelled : (text : List ℕ) → IsBytes (result_unwrap_or (decode_of text) [])
bytes_spelled text = by (decode_of text) refl
  where
    by : (r : Result (List ℕ) FromHexError) → decode_of text ≡ r → IsBytes (result_unwrap_or r [])
    by (Ok bytes) e = (decode_of-ok text bytes e).3
    by (Err d) e = λ i. omega arith

-- and what tells them is such a line
passed : (id : ℕ) (digest words : List ℕ) → IsBytes digest → is_record_line id digest words ≡ true → IsRecordLine id digest words
passed id digest words bytes e =
    let both = and_parts (nat_lt id (2 ^ 64) && (length digest == 32)) (bytes_eq words (line_words id digest)) e in
    let range = and_parts (nat_lt id (2 ^ 64)) (length digest == 32) both.0 in
    record {
      fits = let l = range.0 in grind (arith, nat_tests);
      digest_fits = (eqb-true (length digest) 32 range.1, bytes);
      spelled = (bytes_eq-Decides words (line_words id digest)).0 both.1;
    }

-- where no record has such a line, nothing is told
pub none_told : (words : List ℕ) → ((id : ℕ) (digest : List ℕ) → IsRecordLine id digest words → ⊥) → line_told words ≡ None
none_told words none = by (is_record_line (id_in words) (digest_in words) words) refl
  where
    by : (b : Bool) → is_record_line (id_in words) (digest_in words) words ≡ b → line_told words ≡ None
    by true e = absurd (none (id_in words) (digest_in words) (passed (id_in words) (digest_in words) words (bytes_spelled (after_first is_space words)) e))
    by false e = ap (λ b. cond b (Some (id_in words, digest_in words)) None) e

-- ---- one line after the other

pub some_if_any : (digest : List ℕ) (before : List (List ℕ)) (had : Option (List (List ℕ))) → had ≡ if_any before → Some (digest ∷ unwrap_or had []) ≡ if_any (digest ∷ before)
some_if_any digest [] had e = ap (λ had. Some (digest ∷ unwrap_or had [])) e
some_if_any digest (first ∷ before) had e = ap (λ had. Some (digest ∷ unwrap_or had [])) e

-- ---- what is written is read as it was

no_feed : digit_value 10 < 10 → ⊥
no_feed l = omega arith

not_feed : (c : ℕ) → is_hex_digit c ≡ true → (c == 10) ≡ false
not_feed c h = ne_eqb c 10 (λ e. none (subst (λ x. is_hex_digit x ≡ true) e h))
  where
    none : is_hex_digit 10 ≡ true → ⊥
    none h = absurd (cc)

digest_lacks : (digest : List ℕ) → IsBytes digest → Lacks 10 (encode_lower digest)
digest_lacks digest h =
    let ok = decode_of-ok (encode_lower digest) digest (decode_of-encode_lower digest h) in
    λ k d l. not_feed _ (ok.1 k d l)

lacks_append : (c : ℕ) (xs ys : List ℕ) → Lacks c xs → Lacks c ys → Lacks c (xs ++ ys)
lacks_append c [] ys p q = q
lacks_append c (x ∷ xs) ys p q =
    All-cons (λ b. (b == c) ≡ false) x (xs ++ ys) (All-head (λ b. (b == c) ≡ false) x xs p) (lacks_append c xs ys (All-tail (λ b. (b == c) ≡ false) x xs p) q)

words_lack : (id : ℕ) (digest : List ℕ) → id < 2 ^ 64 → IsBytes digest → Lacks 10 (line_words id digest)
words_lack id digest fits bytes =
    subst (Lacks 10) (sym (words_cons id digest)) (lacks_append 10 (decimal id) (32 ∷ encode_lower digest) (id_lacks 10 id no_feed fits)
    (All-cons (λ b. (b == 10) ≡ false) 32 (encode_lower digest) refl (digest_lacks digest bytes)))

whole_line : (words rest : List ℕ) → Lacks 10 words → whole_lines (words ++ 10 ∷ rest) ≡ words ∷ whole_lines rest
whole_line words rest h = pieces_at 10 words rest h

abbrev pub AreDigests : List (List ℕ) → Type 0
AreDigests digests = AllByRecursion IsDigest digests

told_line : (id : ℕ) (digest : List ℕ) → id < 2 ^ 64 → IsDigest digest → (rest : List ℕ) (other : ℕ) (before : List (List ℕ))
    → told_after (whole_lines (digest_line id digest ++ rest)) other before ≡ told_after (whole_lines rest) other (cond (id == other) (digest ∷ before) before)
told_line id digest fits is rest other before =
    ap (λ t. told_after (whole_lines t) other before) (append_assoc (line_words id digest) (10 ∷ []) rest)
    ∙ ap (λ ls. told_after ls other before) (whole_line (line_words id digest) rest (words_lack id digest fits is.1))
    ∙ ap (λ t. told_after (whole_lines rest) other (told_more t other before))
    (record_told id digest (line_words id digest) (record { fits = fits; digest_fits = is; spelled = refl }))

-- digests that are told one after the other, under an id or not
abbrev stack : Bool → List (List ℕ) → List (List ℕ) → List (List ℕ)
stack b [] before = before
stack b (digest ∷ digests) before = stack b digests (cond b (digest ∷ before) before)

stack_none : (digests before : List (List ℕ)) → stack false digests before ≡ before
stack_none [] before = refl
stack_none (digest ∷ digests) before = stack_none digests before

stack_all : (digests before : List (List ℕ)) → stack true digests before ≡ reverse digests ++ before
stack_all [] before = refl
stack_all (digest ∷ digests) before =
    stack_all digests (digest ∷ before) ∙ sym (append_assoc (reverse digests) (digest ∷ []) before) ∙ ap (λ ds. ds ++ before) (sym (reverse_onto digests digest []))

told_lines : (id : ℕ) → id < 2 ^ 64 → (digests : List (List ℕ)) → AreDigests digests → (rest : List ℕ) (other : ℕ) (before : List (List ℕ))
    → told_after (whole_lines (lines_under id digests ++ rest)) other before ≡ told_after (whole_lines rest) other (stack (id == other) digests before)
told_lines id fits [] are rest other before = refl
told_lines id fits (digest ∷ digests) are rest other before =
    ap (λ t. told_after (whole_lines t) other before) (append_assoc (digest_line id digest) (lines_under id digests) rest)
    ∙ told_line id digest fits are.0 (lines_under id digests ++ rest) other before
    ∙ told_lines id fits digests are.1 rest other (cond (id == other) (digest ∷ before) before)

-- a table without an id tells nothing of it
told_nothing : (entries : List (ℕ × Digests)) → AllByRecursion IsEntry entries → (id : ℕ) → AllByRecursion (λ key. eq_by_cmp nat_cmp id key ≡ false) (keys_of entries)
    → (before : List (List ℕ)) → told_after (whole_lines (text_of entries)) id before ≡ before
told_nothing [] are id others before = refl
told_nothing (entry ∷ entries) are id others before =
    told_lines entry.0 are.0.0 entry.1.items are.0.1 (text_of entries) id before
    ∙ ap (λ b. told_after (whole_lines (text_of entries)) id (stack b entry.1.items before)) (other_key entry.0 others.0)
    ∙ ap (told_after (whole_lines (text_of entries)) id) (stack_none entry.1.items before)
    ∙ told_nothing entries are.1 id others.1 before
  where
    other_key : (key : ℕ) → eq_by_cmp nat_cmp id key ≡ false → (key == id) ≡ false
    other_key key e = let f = sym (unsigned_tied id key) ∙ e in grind (arith, nat_tests)

-- a table tells of each id the digests that are under it, in the other order
pub told_text : (entries : List (ℕ × Digests)) → AllByRecursion IsEntry entries → IsDistinct (eq_by_cmp nat_cmp) (keys_of entries)
    → (id : ℕ) → told_after (whole_lines (text_of entries)) id [] ≡ reverse (listed (lookup (eq_by_cmp nat_cmp id) entries))
unfolding IsDistinct
told_text [] are apart id = refl
told_text (entry ∷ entries) are apart id = by (told_text entries are.1 apart.1 id) (eq_by_cmp nat_cmp id entry.0) refl
  where
    here : told_after (whole_lines (text_of (entry ∷ entries))) id [] ≡ told_after (whole_lines (text_of entries)) id (stack (entry.0 == id) entry.1.items [])
    here = told_lines entry.0 are.0.0 entry.1.items are.0.1 (text_of entries) id []

    same : eq_by_cmp nat_cmp id entry.0 ≡ true → entry.0 ≡ id
    same e = sym (eqb-true id entry.0 (sym (unsigned_tied id entry.0) ∙ e))

    other : eq_by_cmp nat_cmp id entry.0 ≡ false → (entry.0 == id) ≡ false
    other e = let f = sym (unsigned_tied id entry.0) ∙ e in grind (arith, nat_tests)

    by : told_after (whole_lines (text_of entries)) id [] ≡ reverse (listed (lookup (eq_by_cmp nat_cmp id) entries)) → (b : Bool) → eq_by_cmp nat_cmp id entry.0 ≡ b
        → told_after (whole_lines (text_of (entry ∷ entries))) id [] ≡ reverse (listed (cond (eq_by_cmp nat_cmp id entry.0) (Some entry.1) (lookup (eq_by_cmp nat_cmp id) entries)))
    by rest true e =
        here ∙ ap (λ b. told_after (whole_lines (text_of entries)) id (stack b entry.1.items [])) (eq-eqb entry.0 id (same e))
        ∙ ap (told_after (whole_lines (text_of entries)) id) (stack_all entry.1.items [] ∙ append-nil (reverse entry.1.items))
        ∙ told_nothing entries are.1 id (subst (λ k. AllByRecursion (λ key. eq_by_cmp nat_cmp k key ≡ false) (keys_of entries)) (same e) apart.0) (reverse entry.1.items)
        ∙ ap (λ b. reverse (listed (cond b (Some entry.1) (lookup (eq_by_cmp nat_cmp id) entries)))) (sym e)
    by rest false e =
        here ∙ ap (λ b. told_after (whole_lines (text_of entries)) id (stack b entry.1.items [])) (other e)
        ∙ ap (told_after (whole_lines (text_of entries)) id) (stack_none entry.1.items [])
        ∙ rest
        ∙ ap (λ b. reverse (listed (cond b (Some entry.1) (lookup (eq_by_cmp nat_cmp id) entries)))) (sym e)

-- ---- what the code reads of a line

pub decoded : (digits digest : List ℕ) → decode_sized digits 32 ≡ Ok digest → IsDigest digest
decoded digits digest e =
    let len = decode_sized-ok digits 32 digest e in
    let ok = decode_of-ok digits digest (sym (decode_sized-twice digits 32 len) ∙ e) in
    (omega (arith, len, ok.2), ok.3)

pub both_some : (a b : ℕ) (x y : List ℕ) → Some a ≡ Some b → Some x ≡ Some y → ◌≡◌ {A = Option (ℕ × List ℕ)} (Some (a, x)) (Some (b, y))
both_some a b x y e f = λ i. Some (number e i, digest f i)
  where
    number : Some a ≡ Some b → a ≡ b
    number e = cc

    digest : Some x ≡ Some y → x ≡ y
    digest f = cc

pub other_told : (line : List ℕ) (told : ℕ × List ℕ) → ((id : ℕ) (digest : List ℕ) → IsRecordLine id digest line → Some told ≡ Some (id, digest)) → (line ≡ line_words told.0 told.1 → ⊥) → line_told line ≡ None
other_told line told found unlike = none_told line (λ id digest is. unlike (is.spelled ∙ same id digest (found id digest is)))
  where
    inside : (id : ℕ) (digest : List ℕ) → Some told ≡ Some (id, digest) → told ≡ (id, digest)
    inside id digest e = cc

    same : (id : ℕ) (digest : List ℕ) → Some told ≡ Some (id, digest) → line_words id digest ≡ line_words told.0 told.1
    same id digest e = ap (λ (p : ℕ × List ℕ). line_words p.0 p.1) (sym (inside id digest e))

-- the value of a result, if it is one
abbrev value_of : {T E : Type 0} → Result T E → Option T
value_of (Ok x) = Some x
value_of (Err e) = None

-- what is answered where the digits of a number are parsed; the error may be of any type
pub number_read : (id n : ℕ) (bs : List ℕ) → id < 2 ^ 64 → bs ≡ decimal id → ParsesUnsigned {E = ℕ} 64 10 bs (Ok n) → Some n ≡ Some id
number_read id n bs fits e h = ap (value_of {E = ℕ}) (parse-decimal {E = ℕ} 64 id bs (Ok n) fits fits e h)

pub number_refused : (id : ℕ) (bs : List ℕ) → id < 2 ^ 64 → bs ≡ decimal id → ParsesUnsigned {E = ℕ} 64 10 bs (Err 0) → None ≡ Some id
number_refused id bs fits e h = ap (value_of {E = ℕ}) (parse-decimal {E = ℕ} 64 id bs (Err 0) fits fits e h)

-- what holds anyway holds where there is nothing
pub if_none : {T : Type 0} (o : Option T) (P : Type 0) → P → IfNone o P
if_none None P p = p
if_none (Some x) P p = tt

-- what is told of a line that spells an id and a digest: these, where it has their words
pub whole_told : {E : Type 0} (line : List ℕ) (told : ℕ × List ℕ) (r : Result (Option (ℕ × List ℕ)) E) → told.0 < 2 ^ 64 → IsDigest told.1
    → ((id : ℕ) (digest : List ℕ) → IsRecordLine id digest line → Some told ≡ Some (id, digest))
    → IfOk r (λ found. line ≡ line_words told.0 told.1 → found ≡ Some told) → IfOk r (λ found. (line ≡ line_words told.0 told.1 → ⊥) → found ≡ None) → IfOk r (λ found. found ≡ line_told line)
whole_told line told (Err e) fits long found written other = tt
whole_told line told (Ok was) fits long found written other = by (bytes_eq line (line_words told.0 told.1)) refl
  where
    is : Decides (bytes_eq line (line_words told.0 told.1)) (line ≡ line_words told.0 told.1)
    is = bytes_eq-Decides line (line_words told.0 told.1)

    by : (b : Bool) → bytes_eq line (line_words told.0 told.1) ≡ b → was ≡ line_told line
    by true e = written (is.0 e) ∙ sym (record_told told.0 told.1 line (record { fits = fits; digest_fits = long; spelled = is.0 e }))
    by false e =
        let unlike : line ≡ line_words told.0 told.1 → ⊥ = λ same. let f = is.1 same in absurd (cc) in
        other unlike ∙ sym (other_told line told found unlike)

-- the lines of the digests from one on
pub lines_from : (id i : ℕ) (digests : List (List ℕ)) → i < length digests → lines_under id (drop i digests) ≡ digest_line id (slice_index_or digests i []) ++ lines_under id (drop (i + 1) digests)
lines_from id i digests l = ap (lines_under id) (drop_more digests i [] l)
