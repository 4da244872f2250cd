-- What is written, drawing by drawing.
use Rattle.std.proofs.Common.{◌≡◌, ◌≢◌, ℕ, suc, ◌+◌, ◌-◌, ◌<◌, ◌==◌, false, cond, List, [], ◌∷◌, ◌++◌, refl, sym, ◌∙◌, ap, subst, arith, append_assoc, codes, Result, Ok, Err, is_ok}
use Rattle.std.specs.Prelude.{OnOk, slice_index_or}
use Rattle.std.specs.Fmt.{decimal}
use Rattle.std.specs.List.{flat_map}
use Rattle.std.proofs.lemmas.Bool.Decides.{nat_tests}
use Rattle.std.proofs.lemmas.Grind.{flat_map-append}
use Rattle.std.proofs.lemmas.List.{append-nil}
use Rattle.fw_generate.specs.Draws.{Words, Drawing, draw, drawn, drawn_times}
use Rattle.fw_lines.specs.Written.{behind_space, spaced, line_text, text_of, WordLine}
use Rattle.fw_generate.specs.Texts.{auto_line, batch_line, checkpoint_lines, collect_line, failure_lines, last_lines, lines_for, generated_node_names, rec_word, round_lines, schedule_lines}
use Rattle.fw_generate.specs.Writes.{WritesDrawn}

-- a push that has room stands behind the text
pub pushed : {T E : Type 0} (r : Result T E) (old more new : List ℕ) → new ≡ cond (is_ok r) (old ++ more) old → OnOk r (new ≡ old ++ more)
pushed (Ok x) old more new h = h
pushed (Err e) old more new h = tt

-- ---- so many drawings

-- so many drawings are to be written; with these that are left they are all written
pub record IsWrittenSoFar {A : Type 0} (drawing : Drawing A) (as_text : A → List ℕ) (count left : ℕ) (words now : Words) (old bytes : List ℕ) : Type 0 where
  pub behind : bytes ++ flat_map as_text (drawn_times left drawing now).0 ≡ old ++ flat_map as_text (drawn_times count drawing words).0
  pub after : (drawn_times left drawing now).1 ≡ (drawn_times count drawing words).1

pub none_written : {A : Type 0} (drawing : Drawing A) (as_text : A → List ℕ) (count : ℕ) (words : Words) (old : List ℕ) → IsWrittenSoFar drawing as_text count count words words old old
none_written drawing as_text count words old = record { behind = refl; after = refl }

one_written : {A : Type 0} (drawing : Drawing A) (as_text : A → List ℕ) (count rest : ℕ) (words now next : Words) (old bytes new : List ℕ)
    → IsWrittenSoFar drawing as_text count (suc rest) words now old bytes → WritesDrawn drawing as_text now next bytes new
    → IsWrittenSoFar drawing as_text count rest words next old new
one_written drawing as_text count rest words now next old bytes new so_far one = record {
  behind =
      ap (λ b. b ++ flat_map as_text (drawn_times rest drawing next).0) one.behind
      ∙ ap (λ w. (bytes ++ as_text (drawing now).0) ++ flat_map as_text (drawn_times rest drawing w).0) one.after
      ∙ append_assoc bytes (as_text (drawing now).0) (flat_map as_text (drawn_times rest drawing (drawing now).1).0)
      ∙ so_far.behind;
  after = ap (λ w. (drawn_times rest drawing w).1) one.after ∙ so_far.after;
}

-- one drawing more is written
pub written_more : {A : Type 0} (drawing : Drawing A) (as_text : A → List ℕ) (count done : ℕ) (words now next : Words) (old bytes new : List ℕ) → done < count
    → IsWrittenSoFar drawing as_text count (count - done) words now old bytes → WritesDrawn drawing as_text now next bytes new
    → IsWrittenSoFar drawing as_text count (count - (done + 1)) words next old new
written_more drawing as_text count done words now next old bytes new below so_far one =
    let left : count - done ≡ suc (count - (done + 1)) = omega arith in
    one_written drawing as_text count (count - (done + 1)) words now next old bytes new
    (subst (λ n. IsWrittenSoFar drawing as_text count n words now old bytes) left so_far) one

-- all are written
pub all_written : {A : Type 0} (drawing : Drawing A) (as_text : A → List ℕ) (count left : ℕ) (words now : Words) (old bytes : List ℕ) → left ≡ 0
    → IsWrittenSoFar drawing as_text count left words now old bytes → WritesDrawn (drawn_times count drawing) (flat_map as_text) words now old bytes
all_written drawing as_text count left words now old bytes none so_far =
    let done = subst (λ n. IsWrittenSoFar drawing as_text count n words now old bytes) none so_far in
    record { behind = sym (append-nil bytes) ∙ done.behind; after = done.after }

-- ---- the inputs

pub rec_written : (key value : ℕ) (words between left : Words) (old new : List ℕ) → (key, between) ≡ draw 16 words → (value, left) ≡ draw 1000 between
    → new ≡ old ++ behind_space (decimal key ++ (codes ":" ++ decimal value)) → WritesDrawn rec_word behind_space words left old new
unfolding rec_word
rec_written key value words between left old new k v h =
    let written : ℕ → ℕ → List ℕ = λ m n. old ++ behind_space (decimal m ++ (codes ":" ++ decimal n)) in
    record {
      behind = h ∙ ap (λ (s : ℕ × Words). written key s.0) v ∙ ap (λ (r : ℕ × Words). written r.0 (draw 1000 r.1).0) k;
      after = ap (λ (s : ℕ × Words). s.1) v ∙ ap (λ (r : ℕ × Words). (draw 1000 r.1).1) k;
    }

pub batch_written : (count : ℕ) (words between left : Words) (old named with_recs new : List ℕ) → (count, between) ≡ draw 8 words → named ≡ old ++ codes "batch src"
    → WritesDrawn (drawn_times count rec_word) spaced between left named with_recs → new ≡ with_recs ++ codes "\n" → WritesDrawn batch_line line_text words left old new
unfolding batch_line
batch_written count words between left old named with_recs new c n recs h =
    let written : ℕ × Words → List ℕ = λ r. old ++ line_text (codes "batch" ∷ codes "src" ∷ (drawn_times r.0 rec_word r.1).0) in
    record {
      behind =
          h
          ∙ ap (λ b. b ++ codes "\n") (recs.behind ∙ ap (λ b. b ++ spaced (drawn_times count rec_word between).0) n)
          ∙ append_assoc (old ++ codes "batch src") (spaced (drawn_times count rec_word between).0) (codes "\n")
          ∙ append_assoc old (codes "batch src") (spaced (drawn_times count rec_word between).0 ++ codes "\n")
          ∙ ap written c;
      after = recs.after ∙ ap (λ (r : ℕ × Words). (drawn_times r.0 rec_word r.1).1) c;
    }

-- ---- the schedule

-- a line of a verb and a word
pub line_of_two : (verb word : List ℕ) → line_text (verb ∷ word ∷ []) ≡ verb ++ (codes " " ++ (word ++ codes "\n"))
line_of_two verb word = ap (λ t. verb ++ (codes " " ++ (t ++ codes "\n"))) (append-nil word)

pub auto_written : (more : ℕ) (words left : Words) (old new : List ℕ) → (more, left) ≡ draw 32 words
    → new ≡ old ++ (codes "auto " ++ (decimal (8 + more) ++ codes "\n")) → WritesDrawn auto_line line_text words left old new
unfolding auto_line
auto_written more words left old new m h = record {
  behind = h ∙ ap (λ t. old ++ t) (sym (line_of_two (codes "auto") (decimal (8 + more)))) ∙ ap (λ (r : ℕ × Words). old ++ line_text (codes "auto" ∷ decimal (8 + r.0) ∷ [])) m;
  after = ap (λ (r : ℕ × Words). r.1) m;
}

pub failure_written : (place : ℕ) (name : List ℕ) (words left : Words) (old new : List ℕ) → (place, left) ≡ draw 12 words → name ≡ slice_index_or generated_node_names place []
    → new ≡ old ++ (codes "fail " ++ (name ++ codes "\nrecover\n")) → WritesDrawn failure_lines text_of words left old new
unfolding failure_lines
failure_written place name words left old new p n h =
    let written : List ℕ → List ℕ = λ m. old ++ text_of ((codes "fail" ∷ m ∷ []) ∷ (codes "recover" ∷ []) ∷ []) in
    record {
      behind =
          h ∙ ap (λ t. old ++ (codes "fail " ++ t)) (sym (append_assoc name (codes "\n") (codes "recover\n")))
          ∙ ap (λ t. old ++ (t ++ codes "recover\n")) (sym (line_of_two (codes "fail") name))
          ∙ ap written n ∙ ap (λ (r : ℕ × Words). written (slice_index_or generated_node_names r.0 [])) p;
      after = ap (λ (r : ℕ × Words). r.1) p;
    }

-- a number asks for lines, where none are drawn for it
pub asked_written : (number : ℕ) (lines : List WordLine) (words : Words) (old new : List ℕ) → lines_for number ≡ drawn lines → new ≡ old ++ text_of lines
    → WritesDrawn (lines_for number) text_of words words old new
asked_written number lines words old new asked h = record {
  behind = h ∙ ap (λ (d : Drawing (List WordLine)). old ++ text_of (d words).0) (sym asked);
  after = ap (λ (d : Drawing (List WordLine)). (d words).1) (sym asked);
}

pub failure_asked : (number : ℕ) → number ≡ 0 → lines_for number ≡ failure_lines
unfolding lines_for
failure_asked number e = ap lines_for e

pub checkpoints_asked : (number : ℕ) → number ≡ 1 → lines_for number ≡ drawn checkpoint_lines
unfolding lines_for
checkpoints_asked number e = ap lines_for e

pub collection_asked : (number : ℕ) → number ≡ 2 → lines_for number ≡ drawn (collect_line ∷ [])
unfolding lines_for
collection_asked number e = ap lines_for e

pub nothing_asked : (number : ℕ) → number ≢ 0 → number ≢ 1 → number ≢ 2 → lines_for number ≡ drawn []
unfolding lines_for
nothing_asked number first second third =
    ap (λ b. cond b failure_lines (cond (number == 1) (drawn checkpoint_lines) (cond (number == 2) (drawn (collect_line ∷ [])) (drawn [])))) (differs 0 first)
    ∙ ap (λ b. cond b (drawn checkpoint_lines) (cond (number == 2) (drawn (collect_line ∷ [])) (drawn []))) (differs 1 second)
    ∙ ap (λ b. cond b (drawn (collect_line ∷ [])) (drawn [])) (differs 2 third)
  where
    differs : (n : ℕ) → number ≢ n → (number == n) ≡ false
    differs n h = grind (arith, nat_tests, h)

pub round_written : (number : ℕ) (words between behind left : Words) (old with_auto new : List ℕ) → WritesDrawn auto_line line_text words between old with_auto
    → (number, behind) ≡ draw 16 between → WritesDrawn (lines_for number) text_of behind left with_auto new → WritesDrawn round_lines text_of words left old new
unfolding round_lines
round_written number words between behind left old with_auto new auto n others =
    let line = line_text (auto_line words).0 in
    let drawn : (number, behind) ≡ draw 16 (auto_line words).1 = n ∙ ap (draw 16) auto.after in
    record {
      behind =
          others.behind ∙ ap (λ t. t ++ text_of (lines_for number behind).0) auto.behind
          ∙ append_assoc old line (text_of (lines_for number behind).0)
          ∙ ap (λ (r : ℕ × Words). old ++ (line ++ text_of (lines_for r.0 r.1).0)) drawn;
      after = others.after ∙ ap (λ (r : ℕ × Words). (lines_for r.0 r.1).1) drawn;
    }

text_of-rounds : (rounds : List (List WordLine)) → text_of (flat_map (λ lines. lines) rounds) ≡ flat_map text_of rounds
text_of-rounds [] = refl
text_of-rounds (lines ∷ rounds) = flat_map-append line_text lines (flat_map (λ lines. lines) rounds) ∙ ap (λ t. text_of lines ++ t) (text_of-rounds rounds)

-- the text of a schedule's lines is that of its rounds, and the last lines
pub text_of-schedule : (rounds : List (List WordLine)) → text_of (flat_map (λ lines. lines) rounds ++ last_lines) ≡ flat_map text_of rounds ++ text_of last_lines
text_of-schedule rounds =
    flat_map-append line_text (flat_map (λ lines. lines) rounds) last_lines ∙ ap (λ t. t ++ text_of last_lines) (text_of-rounds rounds)

pub schedule_written : (size : ℕ) (words left : Words) (old with_rounds new : List ℕ) → WritesDrawn (drawn_times size round_lines) (flat_map text_of) words left old with_rounds
    → new ≡ with_rounds ++ codes "auto 1000000000\ncollect\n" → WritesDrawn (schedule_lines size) text_of words left old new
schedule_written size words left old with_rounds new rounds h =
    let drawn = drawn_times size round_lines words in
    record {
      behind =
          h ∙ ap (λ b. b ++ text_of last_lines) rounds.behind ∙ append_assoc old (flat_map text_of drawn.0) (text_of last_lines)
          ∙ ap (λ t. old ++ t) (sym (text_of-schedule drawn.0));
      after = rounds.after;
    }
