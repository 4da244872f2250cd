-- The words of a line, found from its front.
use Rattle.std.proofs.Common.{◌≡◌, ℕ, ◌+◌, ◌<◌, ◌≤◌, ◌==◌, nat_lt, Bool, true, false, cond, List, [], ◌∷◌, ◌++◌, length, map, slice_range, Option, Some, None, refl, sym, ◌∙◌, ap, arith, append_assoc, IfSome}
use Rattle.std.proofs.lemmas.Bool.Decides.{nat_tests}
use Rattle.std.proofs.lemmas.List.{map-append, append-nil}
use Rattle.std.specs.List.{filter, slice_split}
use Rattle.fw_lines.specs.Lines.{words_of, bytes_at, is_word, is_space}
use Rattle.fw_lines.specs.declared.span.Span.{Span}
use Rattle.fw_lines.proofs.PartLaws.{length-slice_range}

-- the words that are left from a place on
abbrev pub words_left : List ℕ → ℕ → Option ℕ → List (List ℕ)
words_left text to None = []
words_left text to (Some at) = words_of (slice_range text at to)

empty_none : (xs : List ℕ) → length xs ≡ 0 → is_word xs ≡ false
empty_none [] e = refl
empty_none (x ∷ xs) e = absurd (omega arith)

some_word : (xs : List ℕ) → 0 < length xs → is_word xs ≡ true
some_word [] h = absurd (omega arith)
some_word (x ∷ xs) h = refl

-- a part with a byte is a word
pub is_word_part : (text : List ℕ) (from to : ℕ) → to ≤ length text → is_word (slice_range text from to) ≡ nat_lt from to
is_word_part text from to h =
    elim (nat_lt from to) as (λ b. nat_lt from to ≡ b → is_word (slice_range text from to) ≡ b) [
      | true ↦ λ e. some_word (slice_range text from to) (grind (arith, nat_tests, e, length-slice_range text from to h))
      | false ↦ λ e. empty_none (slice_range text from to) (grind (arith, nat_tests, e, length-slice_range text from to h))
    ] refl

kept : (text : List ℕ) (span : Span) (b : Bool) → map (bytes_at text) (cond b (span ∷ []) []) ≡ cond b (bytes_at text span ∷ []) []
kept text span true = refl
kept text span false = refl

joined : (b : Bool) (x : List ℕ) (ws vs us : List (List ℕ)) → (ws ++ cond b (x ∷ []) []) ++ us ≡ ws ++ cond b (x ∷ us) us
joined true x ws vs us = append_assoc ws (x ∷ []) us
joined false x ws vs us = append_assoc ws [] us

-- one part more, if it is a word
pub words_more : (text : List ℕ) (words new : List Span) (from to : ℕ) (us : List (List ℕ)) → to ≤ length text → new ≡ words ++ cond (nat_lt from to) (record { from = from; to = to } ∷ []) [] → map (bytes_at text) new ++ us ≡ map (bytes_at text) words ++ filter is_word (slice_range text from to ∷ []) ++ us
words_more text words new from to us h e =
    let x = slice_range text from to in
    let span : Span = record { from = from; to = to } in
    ap (λ n. map (bytes_at text) n ++ us) e
    ∙ ap (λ n. n ++ us) (map-append (bytes_at text) words (cond (nat_lt from to) (span ∷ []) []) ∙ ap (λ n. map (bytes_at text) words ++ n) (kept text span (nat_lt from to) ∙ ap (λ b. cond b (x ∷ []) []) (sym (is_word_part text from to h))))

-- the words of a line are those of its first part and those of the others
words_of_parts : (x : List ℕ) (parts : List (List ℕ)) → filter is_word (x ∷ parts) ≡ filter is_word (x ∷ []) ++ filter is_word parts
words_of_parts [] parts = refl
words_of_parts (b ∷ bs) parts = refl

-- behind the last part no words are left
pub words_last : (text : List ℕ) (at to : ℕ) → slice_split is_space (slice_range text at to) ≡ slice_range text at to ∷ [] → words_of (slice_range text at to) ≡ filter is_word (slice_range text at to ∷ []) ++ words_left text to None
words_last text at to e = ap (filter is_word) e ∙ sym (append-nil (filter is_word (slice_range text at to ∷ [])))

-- behind another part are the words from its separator on
pub words_next : (text : List ℕ) (at to end : ℕ) → slice_split is_space (slice_range text at end) ≡ slice_range text at to ∷ slice_split is_space (slice_range text (to + 1) end) → words_of (slice_range text at end) ≡ filter is_word (slice_range text at to ∷ []) ++ words_left text end (Some (to + 1))
words_next text at to end e = ap (filter is_word) e ∙ words_of_parts (slice_range text at to) (slice_split is_space (slice_range text (to + 1) end))

-- the words from a place on are its part and what is left behind it
words_behind : (text : List ℕ) (at to end : ℕ) (next : Option ℕ) → to ≤ end
    → (to ≡ end → slice_split is_space (slice_range text at end) ≡ slice_range text at end ∷ [])
    → (to < end → slice_split is_space (slice_range text at end) ≡ slice_range text at to ∷ slice_split is_space (slice_range text (to + 1) end))
    → next ≡ cond (to == end) None (Some (to + 1))
    → (b : Bool) → (to == end) ≡ b
    → words_of (slice_range text at end) ≡ filter is_word (slice_range text at to ∷ []) ++ words_left text end next
words_behind text at to end next h last more n true q =
    let same : to ≡ end = grind (arith, nat_tests, q) in
    words_last text at end (last same)
    ∙ ap (λ k. filter is_word (slice_range text at k ∷ []) ++ []) (sym same)
    ∙ ap (λ m. filter is_word (slice_range text at to ∷ []) ++ words_left text end m) (sym (n ∙ ap (λ b. cond b None (Some (to + 1))) q))
words_behind text at to end next h last more n false q =
    let below : to < end = grind (arith, nat_tests, q, h) in
    words_next text at to end (more below)
    ∙ ap (λ m. filter is_word (slice_range text at to ∷ []) ++ words_left text end m) (sym (n ∙ ap (λ b. cond b None (Some (to + 1))) q))

-- the loop goes on: the words so far and those that are left are all words
pub words_step : (text : List ℕ) (words new : List Span) (at to end : ℕ) (next : Option ℕ) (all : List (List ℕ)) → to ≤ end → end ≤ length text → at ≤ to
    → new ≡ words ++ cond (nat_lt at to) (record { from = at; to = to } ∷ []) []
    → (to ≡ end → slice_split is_space (slice_range text at end) ≡ slice_range text at end ∷ [])
    → (to < end → slice_split is_space (slice_range text at end) ≡ slice_range text at to ∷ slice_split is_space (slice_range text (to + 1) end))
    → next ≡ cond (to == end) None (Some (to + 1))
    → map (bytes_at text) words ++ words_of (slice_range text at end) ≡ all
    → map (bytes_at text) new ++ words_left text end next ≡ all
words_step text words new at to end next all h1 h2 h3 e last more n so_far =
    words_more text words new at to (words_left text end next) (omega arith) e
    ∙ append_assoc (map (bytes_at text) words) (filter is_word (slice_range text at to ∷ [])) (words_left text end next)
    ∙ ap (λ us. map (bytes_at text) words ++ us) (sym (words_behind text at to end next h1 last more n (to == end) refl))
    ∙ so_far

pub next_within : (to end : ℕ) (next : Option ℕ) → to ≤ end → next ≡ cond (to == end) None (Some (to + 1)) → IfSome next (λ at. at ≤ end)
next_within to end None h e = tt
next_within to end (Some at) h e = grind (arith, nat_tests, e)
