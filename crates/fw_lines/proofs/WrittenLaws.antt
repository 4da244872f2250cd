-- What the lines of a text say that is written as lines of words.
use Rattle.std.proofs.Common.{◌≡◌, ℕ, ◌+◌, Bool, true, false, cond, not, ◌&&◌, List, [], ◌∷◌, ◌++◌, refl, sym, ◌∙◌, ap, arith, append_assoc, codes}
use Rattle.std.proofs.lemmas.Bool.{and_from, and_parts, not-true}
use Rattle.std.proofs.lemmas.Bool.Decides.{nat_tests}
use Rattle.std.proofs.lemmas.List.{append-nil}
use Rattle.std.proofs.lemmas.List.Elements.{All-from_recursion}
use Rattle.std.proofs.lemmas.List.Folds.{list_all-append}
use Rattle.std.proofs.lemmas.List.Splits.{slice_split_at, slice_split_none}
use Rattle.std.specs.List.{AllByRecursion, All, list_all, slice_split, filter}
use Rattle.fw_lines.specs.Lines.{Said, is_allowed, is_comment, is_line_feed, is_space, is_word, lines_of, said_by, said_from, said_lines, words_of}
use Rattle.fw_lines.specs.Written.{WordLine, is_in_words, is_plain, is_plain_line, line_text, numbered, spaced, text_of}

-- a line without its LF
abbrev pub body : WordLine → List ℕ
body [] = []
body (word ∷ words) = word ++ spaced words

line_text-body : (line : WordLine) → line_text line ≡ body line ++ codes "\n"
line_text-body [] = refl
line_text-body (word ∷ words) = sym (append_assoc word (spaced words) (codes "\n"))

-- ---- which bytes stand where

in_words-allowed : (b : ℕ) → is_in_words b ≡ true → is_allowed b ≡ true
in_words-allowed b h = (and_parts (is_allowed b) (not (is_space b)) h).0

no_space : (b : ℕ) → is_in_words b ≡ true → is_space b ≡ false
no_space b h = grind (arith, nat_tests, (and_parts (is_allowed b) (not (is_space b)) h).1)

no_line_feed : (b : ℕ) → is_allowed b ≡ true → is_line_feed b ≡ false
no_line_feed b h = grind (arith, nat_tests, h)

-- a byte of a list of which each byte passes the first test fails the second
each_fails : (p q : ℕ → Bool) → ((b : ℕ) → p b ≡ true → q b ≡ false) → (bs : List ℕ) → list_all p bs ≡ true → AllByRecursion (λ b. q b ≡ false) bs
each_fails p q f [] h = tt
each_fails p q f (b ∷ bs) h = let parts = and_parts (p b) (list_all p bs) h in (f b parts.0, each_fails p q f bs parts.1)

word-allowed : (bs : List ℕ) → list_all is_in_words bs ≡ true → list_all is_allowed bs ≡ true
word-allowed [] h = refl
word-allowed (b ∷ bs) h =
    let parts = and_parts (is_in_words b) (list_all is_in_words bs) h in
    and_from (is_allowed b) (list_all is_allowed bs) (in_words-allowed b parts.0) (word-allowed bs parts.1)

spaced-allowed : (words : WordLine) → list_all is_plain words ≡ true → list_all is_allowed (spaced words) ≡ true
spaced-allowed [] h = refl
spaced-allowed (word ∷ words) h =
    let parts = and_parts (is_plain word) (list_all is_plain words) h in
    let bytes = and_parts (is_word word) (list_all is_in_words word) parts.0 in
    list_all-append is_allowed word (spaced words)
    ∙ and_from (list_all is_allowed word) (list_all is_allowed (spaced words)) (word-allowed word bytes.1) (spaced-allowed words parts.1)

body-allowed : (line : WordLine) → list_all is_plain line ≡ true → list_all is_allowed (body line) ≡ true
body-allowed [] h = refl
body-allowed (word ∷ words) h = spaced-allowed (word ∷ words) h

-- ---- the words of a line

no_spaces : (word : List ℕ) → is_plain word ≡ true → All (λ b. is_space b ≡ false) word
no_spaces word h =
    All-from_recursion (λ b. is_space b ≡ false) word (each_fails is_in_words is_space no_space word (and_parts (is_word word) (list_all is_in_words word) h).1)

split_body : (word : List ℕ) (words : WordLine) → list_all is_plain (word ∷ words) ≡ true → slice_split is_space (body (word ∷ words)) ≡ word ∷ words
split_body word [] h =
    ap (slice_split is_space) (append-nil word) ∙ slice_split_none is_space word (no_spaces word (and_parts (is_plain word) true h).0)
split_body word (next ∷ words) h =
    let parts = and_parts (is_plain word) (list_all is_plain (next ∷ words)) h in
    slice_split_at is_space word 32 (body (next ∷ words)) (no_spaces word parts.0) refl ∙ ap (λ ws. word ∷ ws) (split_body next words parts.1)

kept_words : (words : WordLine) → list_all is_plain words ≡ true → filter is_word words ≡ words
kept_words [] h = refl
kept_words (word ∷ words) h =
    let parts = and_parts (is_plain word) (list_all is_plain words) h in
    ap (λ b. cond b (word ∷ filter is_word words) (filter is_word words)) (and_parts (is_word word) (list_all is_in_words word) parts.0).0
    ∙ ap (λ ws. word ∷ ws) (kept_words words parts.1)

words_of-body : (line : WordLine) → list_all is_plain line ≡ true → words_of (body line) ≡ line
words_of-body [] h = refl
words_of-body (word ∷ words) h = ap (filter is_word) (split_body word words h) ∙ kept_words (word ∷ words) h

-- a line says its words
said_by-body : (line : WordLine) → is_plain_line line ≡ true → said_by (body line) ≡ line
unfolding said_by
said_by-body line h =
    let parts = and_parts (list_all is_plain line) (not (is_comment line)) h in
    let says : WordLine → Bool → WordLine = λ words b. cond (is_comment words && b) [] words in
    ap (λ words. says words (list_all is_allowed (body line))) (words_of-body line parts.0)
    ∙ ap (says line) (body-allowed line parts.0)
    ∙ ap (λ b. cond (b && true) [] line) (not-true (is_comment line) parts.1)

-- ---- the lines of a text

split_line : (line : WordLine) (rest : List ℕ) → list_all is_plain line ≡ true → lines_of (line_text line ++ rest) ≡ body line ∷ lines_of rest
split_line line rest h =
    let none = All-from_recursion (λ b. is_line_feed b ≡ false) (body line) (each_fails is_allowed is_line_feed no_line_feed (body line) (body-allowed line h)) in
    ap (λ t. lines_of (t ++ rest)) (line_text-body line)
    ∙ ap lines_of (append_assoc (body line) (codes "\n") rest)
    ∙ slice_split_at is_line_feed (body line) 10 rest none refl

said_from-text_of : (number : ℕ) (lines : List WordLine) → list_all is_plain_line lines ≡ true → said_from number (lines_of (text_of lines)) ≡ numbered number lines
unfolding said_by
said_from-text_of number [] h = refl
said_from-text_of number (line ∷ lines) h =
    let parts = and_parts (is_plain_line line) (list_all is_plain_line lines) h in
    let plain = and_parts (list_all is_plain line) (not (is_comment line)) parts.0 in
    let says : WordLine → Said = λ words. record { number = number; words = words } in
    ap (said_from number) (split_line line (text_of lines) plain.0)
    ∙ ap (λ words. says words ∷ said_from (number + 1) (lines_of (text_of lines))) (said_by-body line parts.0)
    ∙ ap (λ later. says line ∷ later) (said_from-text_of (number + 1) lines parts.1)

-- the lines of a text that is written as lines of words say these words
pub said_lines-text_of : (lines : List WordLine) → list_all is_plain_line lines ≡ true → said_lines (text_of lines) ≡ numbered 1 lines
said_lines-text_of lines h = said_from-text_of 1 lines h
