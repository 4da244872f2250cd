-- The generated inputs are accepted.
use Rattle.std.proofs.Common.{◌≡◌, ℕ, ◌+◌, ◌<◌, ◌≤◌, ◌^◌, nat_le, true, false, ◌||◌, cond, not, List, [], ◌∷◌, ◌++◌, length, take, drop, refl, sym, ◌∙◌, ap, subst, arith, lit<, Option, Some, None, codes}
use Rattle.std.proofs.Math.Seq.{drop-append-add, take-append_seam}
use Rattle.std.proofs.lemmas.Bool.{and_from, and_parts, or_right}
use Rattle.std.proofs.lemmas.Bool.Decides.{nat_tests}
use Rattle.std.proofs.lemmas.Fmt.{decimal_nonempty, length-decimal-le}
use Rattle.std.proofs.lemmas.List.{append-nil, length-append, length-map, length_push}
use Rattle.std.proofs.lemmas.List.Folds.{list_all-append, list_any-append}
use Rattle.std.proofs.lemmas.List.Sums.{count_by-le-length, length-filter}
use Rattle.std.specs.Char.{is_ascii_digit}
use Rattle.std.specs.Fmt.{decimal}
use Rattle.std.specs.List.{AllByRecursion, after_first, before_first, filter, list_all, list_any, position_or_len}
use Rattle.std.specs.Option.{option_map_or, option_or}
use Rattle.fw_lemmas.proofs.Each.{each-weaker, all-of_each}
use Rattle.fw_bag.specs.declared.rec.Rec.{Rec}
use Rattle.fw_lines.specs.declared.numeral.Number.TheVariants.{Value}
use Rattle.fw_lines.specs.declared.record.RecordWord.{RecordWord}
use Rattle.fw_lines.specs.declared.record.RecordWord.TheVariants.{Sound, Broken}
use Rattle.fw_lines.specs.declared.refusal.Code.{Code}
use Rattle.fw_lines.specs.declared.refusal.Code.TheVariants.{I1, I3, I4, I5}
use Rattle.fw_lines.specs.Faults.{BreakNoRule, BreaksNone}
use Rattle.fw_lines.specs.Inputs.{batch_of, batches_said_of, broken_rule, count_of, inputs_line_fault, is_batch_of, is_colon, has_large_number, inputs_fault, record_from, record_said, inputs_rules, source_said, words_fault}
use Rattle.fw_lines.specs.Lines.{Said, is_allowed, is_word}
use Rattle.fw_lines.specs.Spelling.{number_of}
use Rattle.fw_lines.proofs.FaultLaws.{Told, none_told, none_judged, IsSoundSoFar, none_left, sound_more}
use Rattle.fw_generate.specs.Draws.{Words, draw, drawn_times}
use Rattle.fw_flow.specs.Sources.{AreInputsOf}
use Rattle.fw_generate.specs.Laws.{accepted_size_limit}
use Rattle.fw_lines.specs.Written.{behind_space, spaced, line_text, text_of, WordLine, is_in_words, is_plain, is_plain_line, numbered}
use Rattle.fw_generate.specs.Texts.{batch_line, batch_lines, rec_word}
use Rattle.fw_generate.proofs.DrawnLaws.{drawn-each, joined_length, length-drawn}
use Rattle.fw_lines.proofs.WrittenLaws.{said_lines-text_of}
use Rattle.fw_lines.proofs.DecimalLaws.{decimal_digits, number_of-decimal}
use Rattle.fw_generate.proofs.WellFormed.{flow_sources}
use Rattle.fw_generate.proofs.FlowLaws.{the_flow}

-- a draw is below its limit
pub draw-below : (n : ℕ) (words : Words) → 0 < n → (draw n words).0 < n
unfolding draw
draw-below n words h = omega arith

-- ---- a rec

-- a word of the inputs: it can stand in a line, spells a rec, and is short
record IsRecWord (word : List ℕ) : Type 0 where
  plain : is_plain word ≡ true
  rec : Rec
  sound : record_said word ≡ Sound rec
  short : length word ≤ 6

abbrev spelled : ℕ → ℕ → List ℕ
spelled key value = decimal key ++ (codes ":" ++ decimal value)

digit_in_words : (b : ℕ) → is_ascii_digit b ≡ true → is_in_words b ≡ true
digit_in_words b h = grind (arith, nat_tests, h)

digit_no_colon : (b : ℕ) → is_ascii_digit b ≡ true → is_colon b ≡ false
digit_no_colon b h = grind (arith, nat_tests, h)

digits-in_words : (ds : List ℕ) → list_all is_ascii_digit ds ≡ true → list_all is_in_words ds ≡ true
digits-in_words [] h = refl
digits-in_words (d ∷ ds) h =
    let parts = and_parts (is_ascii_digit d) (list_all is_ascii_digit ds) h in
    and_from (is_in_words d) (list_all is_in_words ds) (digit_in_words d parts.0) (digits-in_words ds parts.1)

-- the colon stands behind the digits
colon_place : (ds rest : List ℕ) → list_all is_ascii_digit ds ≡ true → position_or_len is_colon (ds ++ 58 ∷ rest) ≡ length ds
colon_place [] rest h = refl
colon_place (d ∷ ds) rest h =
    let parts = and_parts (is_ascii_digit d) (list_all is_ascii_digit ds) h in
    ap (λ b. cond (not b) (1 + position_or_len is_colon (ds ++ 58 ∷ rest)) 0) (digit_no_colon d parts.0)
    ∙ ap (λ n. 1 + n) (colon_place ds rest parts.1)
    ∙ (omega arith)

some_word : (bs cs : List ℕ) → 0 < length bs → is_word (bs ++ cs) ≡ true
some_word [] cs h = absurd (omega arith)
some_word (b ∷ bs) cs h = refl

-- a number can be a word
pub plain-decimal : (n : ℕ) → n < 2 ^ 64 → is_plain (decimal n) ≡ true
plain-decimal n h =
    and_from (is_word (decimal n)) (list_all is_in_words (decimal n)) (ap is_word (sym (append-nil (decimal n))) ∙ some_word (decimal n) [] (decimal_nonempty n h))
    (digits-in_words (decimal n) (decimal_digits n h))

rec_sound : (key value : ℕ) → key < 2 ^ 64 → value < 2 ^ 64 → record_said (spelled key value) ≡ Sound (record { key = key; value = value })
unfolding record_said
rec_sound key value k v =
    let word = spelled key value in
    let place : position_or_len is_colon word ≡ length (decimal key) = colon_place (decimal key) (decimal value) (decimal_digits key k) in
    let colon : list_any is_colon word ≡ true = list_any-append is_colon (decimal key) (58 ∷ decimal value) ∙ or_right (list_any is_colon (decimal key)) true refl in
    let before : before_first is_colon word ≡ decimal key = ap (λ n. take n word) place ∙ take-append_seam (decimal key) (58 ∷ decimal value) in
    let after : after_first is_colon word ≡ decimal value = ap (λ n. drop (n + 1) word) place ∙ drop-append-add (decimal key) (58 ∷ decimal value) 1 in
    let broken : RecordWord = Broken (cond (list_all is_allowed word) I4 I1) in
    ap (λ b. cond b (record_from (number_of (before_first is_colon word)) (number_of (after_first is_colon word))) broken) colon
    ∙ ap (λ bs. record_from (number_of bs) (number_of (after_first is_colon word))) before
    ∙ ap (λ bs. record_from (number_of (decimal key)) (number_of bs)) after
    ∙ ap (λ n. record_from n (number_of (decimal value))) (number_of-decimal key k)
    ∙ ap (record_from (Value key)) (number_of-decimal value v)

rec_word-is : (key value : ℕ) → key < 16 → value < 1000 → IsRecWord (spelled key value)
rec_word-is key value k v =
    let large_key : key < 2 ^ 64 = omega arith in
    let large_value : value < 2 ^ 64 = omega arith in
    let ks : key < 10 ^ 2 = omega arith in
    let vs : value < 10 ^ 3 = omega arith in
    record {
      plain = and_from (is_word (spelled key value)) (list_all is_in_words (spelled key value)) (some_word (decimal key) (codes ":" ++ decimal value) (decimal_nonempty key large_key))
          (list_all-append is_in_words (decimal key) (58 ∷ decimal value)
          ∙ and_from (list_all is_in_words (decimal key)) (list_all is_in_words (58 ∷ decimal value)) (digits-in_words (decimal key) (decimal_digits key large_key))
          (digits-in_words (decimal value) (decimal_digits value large_value)));
      rec = record { key = key; value = value };
      sound = rec_sound key value large_key large_value;
      short = omega (arith, length-append (decimal key) (58 ∷ decimal value), length-decimal-le 2 key (lit< tt) ks large_key, length-decimal-le 3 value (lit< tt) vs large_value);
    }

rec_drawn : (words : Words) → IsRecWord (rec_word words).0
unfolding rec_word
rec_drawn words =
    rec_word-is (draw 16 words).0 (draw 1000 (draw 16 words).1).0 (draw-below 16 words (lit< tt)) (draw-below 1000 (draw 16 words).1 (lit< tt))

-- ---- a line

-- a line of the inputs of the one source: it can be a line, breaks no rule where the source has fewer than 2^20 batches, and is short
record IsBatchLine (line : WordLine) : Type 0 where
  plain : is_plain_line line ≡ true
  sound : (count : ℕ) → count < 2 ^ 20 → inputs_line_fault ((codes "src", 0) ∷ []) count line ≡ None
  short : length (line_text line) ≤ 59

recs_sound : (recs : WordLine) → AllByRecursion IsRecWord recs → words_fault recs ≡ None
recs_sound [] each = refl
recs_sound (word ∷ words) each = ap (λ r. option_or (broken_rule r) (words_fault words)) each.0.sound ∙ recs_sound words each.1

none_large : (recs : WordLine) → AllByRecursion IsRecWord recs → list_any (λ word. has_large_number (record_said word)) recs ≡ false
none_large [] each = refl
none_large (word ∷ words) each = ap (λ r. has_large_number r || list_any (λ w. has_large_number (record_said w)) words) each.0.sound ∙ none_large words each.1

batch_line-is : (recs : WordLine) → length recs < 8 → AllByRecursion IsRecWord recs → IsBatchLine (codes "batch" ∷ codes "src" ∷ recs)
batch_line-is recs few each = record {
  plain = and_from (list_all is_plain recs) true (all-of_each is_plain recs (each-weaker IsRecWord (λ w. is_plain w ≡ true) recs (λ w r. r.plain) each)) refl;
  sound = λ count h.
      let room : nat_le (2 ^ 20) count ≡ false = grind (arith, nat_tests, h) in
      let counted : Option Code = cond (nat_le (2 ^ 20) count) (Some I5) None in
      ap (λ f. option_or f (option_or (cond (list_any (λ word. has_large_number (record_said word)) recs) (Some I3) None) counted)) (recs_sound recs each)
      ∙ ap (λ b. option_or (cond b (Some I3) None) counted) (none_large recs each)
      ∙ ap (λ b. cond b (Some I5) None) room;
  short =
      let bytes = joined_length behind_space 7 recs (each-weaker IsRecWord (λ w. length (behind_space w) ≤ 7) recs (λ w r. (let s = r.short in omega arith)) each) in
      omega (arith, bytes, length-append (spaced recs) (codes "\n"));
}

batch_drawn : (words : Words) → IsBatchLine (batch_line words).0
unfolding batch_line
batch_drawn words =
    let count = (draw 8 words).0 in
    let few : length (drawn_times count rec_word (draw 8 words).1).0 < 8 = omega (arith, length-drawn rec_word count (draw 8 words).1, draw-below 8 words (lit< tt)) in
    batch_line-is (drawn_times count rec_word (draw 8 words).1).0 few (drawn-each IsRecWord rec_word rec_drawn count (draw 8 words).1)

-- ---- the text

-- a source has no more batches than there are lines
count_of-few : (sources : List (List ℕ × ℕ)) (before : List Said) (line : WordLine) → count_of sources before line ≤ length before
count_of-few sources before line = by (source_said sources line)
  where
    by : (source : Option ℕ) → option_map_or (λ node. length (batches_said_of sources before node)) source 0 ≤ length before
    by None = omega arith
    by (Some node) =
        omega (arith, length-map {A = Said} {B = List Rec} (filter (is_batch_of sources node) before) (λ l. batch_of l.words), length-filter (is_batch_of sources node) before, count_by-le-length (is_batch_of sources node) before)

-- lines of the inputs break no rule, one after another
sound_on : (sources : List (List ℕ × ℕ)) (lines : List WordLine) (number : ℕ) (all done : List Said)
    → AllByRecursion (λ line. (count : ℕ) → count < 2 ^ 20 → inputs_line_fault sources count line ≡ None) lines → length done + length lines ≤ 2 ^ 20
    → IsSoundSoFar (Told (inputs_fault sources)) all (numbered number lines) done → BreakNoRule (Told (inputs_fault sources)) all
sound_on sources [] number all done each few so_far =
    let last : Said = record { number = number; words = [] } in
    (none_left (Told (inputs_fault sources)) all (done ++ last ∷ []) (sound_more (Told (inputs_fault sources)) all done last [] so_far (none_told (inputs_fault sources done last) refl))).0
sound_on sources (line ∷ lines) number all done each few so_far =
    let said : Said = record { number = number; words = line } in
    sound_on sources lines (number + 1) all (done ++ said ∷ []) each.1 (omega (arith, length_push done said))
    (sound_more (Told (inputs_fault sources)) all done said (numbered (number + 1) lines) so_far
    (none_told (inputs_fault sources done said) (each.0 (count_of sources done line) (omega (arith, count_of-few sources done line)))))

-- the inputs of each size are accepted
pub inputs_accepted : (size : ℕ) (words : Words) → size ≤ accepted_size_limit → AreInputsOf the_flow (text_of (batch_lines size words).0)
inputs_accepted size words h = subst (λ sources. BreaksNone (inputs_rules sources) (text_of lines)) (sym flow_sources) (record {
  size = omega (arith, joined_length line_text 59 lines (each-weaker IsBatchLine (λ line. length (line_text line) ≤ 59) lines (λ line b. b.short) each), count);
  lines = subst (BreakNoRule (Told (inputs_fault source))) (sym (said_lines-text_of lines (all-of_each is_plain_line lines (each-weaker IsBatchLine (λ line. is_plain_line line ≡ true) lines (λ line b. b.plain) each))))
      (sound_on source lines 1 (numbered 1 lines) [] (each-weaker IsBatchLine _ lines (λ line b. b.sound) each) (omega (arith, count))
      (none_judged (Told (inputs_fault source)) (numbered 1 lines)));
})
  where
    source : List (List ℕ × ℕ)
    source = (codes "src", 0) ∷ []

    lines : List WordLine
    lines = (batch_lines size words).0

    each : AllByRecursion IsBatchLine lines
    each = drawn-each IsBatchLine batch_line batch_drawn size words

    count : length lines ≡ size
    count = length-drawn batch_line size words
