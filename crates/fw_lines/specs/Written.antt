-- Texts that are written as lines of words.
use Rattle.std.specs.Prelude.{ℕ, ◌+◌, Bool, not, ◌&&◌, List, [], ◌∷◌, ◌++◌, codes}
use Rattle.std.specs.List.{flat_map, list_all}
use Rattle.fw_lines.specs.Lines.{Said, is_allowed, is_comment, is_space, is_word}

-- a line, by its words
abbrev pub WordLine : Type 0
WordLine = List (List ℕ)

-- a word behind a space
abbrev pub behind_space : List ℕ → List ℕ
behind_space word = codes " " ++ word

-- words, each behind a space
abbrev pub spaced : List (List ℕ) → List ℕ
spaced words = flat_map behind_space words

-- the text of a line: its words with a space between them, and LF
abbrev pub line_text : WordLine → List ℕ
line_text [] = codes "\n"
line_text (word ∷ words) = word ++ (spaced words ++ codes "\n")

-- the text of lines
abbrev pub text_of : List WordLine → List ℕ
text_of lines = flat_map line_text lines

-- whether a byte may stand in a word
abbrev pub is_in_words : ℕ → Bool
is_in_words b = is_allowed b && not (is_space b)

-- whether the bytes can be a word of a line
abbrev pub is_plain : List ℕ → Bool
is_plain word = is_word word && list_all is_in_words word

-- whether the words can be those of a line: each can be a word, and the first does not begin as a comment does
abbrev pub is_plain_line : WordLine → Bool
is_plain_line words = list_all is_plain words && not (is_comment words)

-- what lines say of which the first has this number, with the empty line that ends their text
abbrev pub numbered : ℕ → List WordLine → List Said
numbered number [] = record { number = number; words = [] } ∷ []
numbered number (line ∷ lines) = record { number = number; words = line } ∷ numbered (number + 1) lines
