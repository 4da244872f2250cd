-- What the lines of a text say.
use Rattle.std.specs.Prelude.{ℕ, ◌+◌, ◌≤◌, ◌==◌, nat_le, Bool, true, false, ◌&&◌, List, [], ◌∷◌, map, length, drop, filter, if◌then◌else◌, Option, Some, None, slice_range}
use Rattle.std.specs.List.{slice_split, list_all}
use Rattle.fw_lines.specs.declared.line.Line.{Line}
use Rattle.fw_lines.specs.declared.line.Place.{Place}
use Rattle.fw_lines.specs.declared.span.Span.{Span}

-- the byte that ends a line
abbrev pub is_line_feed : ℕ → Bool
is_line_feed b = b == 10

-- the byte that separates words
abbrev pub is_space : ℕ → Bool
is_space b = b == 32

-- the bytes that a line may have
abbrev pub is_allowed : ℕ → Bool
is_allowed b = nat_le 32 b && nat_le b 126

-- a part of a line that has a byte is a word
abbrev pub is_word : List ℕ → Bool
is_word [] = false
is_word (b ∷ bs) = true

-- the lines of a text, the last of them without a byte where the text ends in LF
abbrev pub lines_of : List ℕ → List (List ℕ)
lines_of text = slice_split is_line_feed text

-- the words of a line
abbrev pub words_of : List ℕ → List (List ℕ)
words_of line = filter is_word (slice_split is_space line)

-- whether the first word begins with `#`
abbrev pub is_comment : List (List ℕ) → Bool
is_comment [] = false
is_comment ([] ∷ words) = false
is_comment ((b ∷ bs) ∷ words) = b == 35

-- what a line says: its words, none where it is a comment of allowed bytes
unfoldable pub said_by : List ℕ → List (List ℕ)
said_by line = if is_comment (words_of line) && list_all is_allowed line then [] else words_of line

-- a line by its number and what it says
pub record Said : Type 0 where
  pub number : ℕ
  pub words : List (List ℕ)

-- what lines say, of which the first has this number
abbrev pub said_from : ℕ → List (List ℕ) → List Said
said_from number [] = []
said_from number (line ∷ lines) = record { number = number; words = said_by line } ∷ said_from (number + 1) lines

-- what each line of a text says, in order; lines are counted from 1
abbrev pub said_lines : List ℕ → List Said
said_lines text = said_from 1 (lines_of text)

-- the bytes of a part of a text
abbrev pub bytes_at : List ℕ → Span → List ℕ
bytes_at text span = slice_range text span.from span.to

-- the bytes of parts of a text
abbrev pub words_at : List ℕ → List Span → List (List ℕ)
words_at text words = map (bytes_at text) words

-- what a line whose words are parts of a text says
abbrev pub said_in : List ℕ → Line → Said
said_in text line = record { number = line.number; words = words_at text line.words }

-- the lines that are left from a place on
abbrev pub lines_left : List ℕ → Option Place → List Said
lines_left text None = []
lines_left text (Some place) = said_from (place.passed + 1) (lines_of (drop place.from text))

-- a place in the text, before which there are no more lines than bytes
pub record IsPlace (text : List ℕ) (place : Place) : Type 0 where
  pub within : place.from ≤ length text
  pub passed : place.passed ≤ place.from
