-- Words of lines.
use Rattle.std.specs.Prelude.{ℕ, Bool, ◌&&◌, List, [], ◌∷◌, if◌then◌else◌, Option, Some, None}
use Rattle.std.specs.List.{list_any, before_first, after_first}
use Rattle.std.specs.Str.{bytes_eq}
use Rattle.fw_lines.specs.Inputs.{is_colon}
use Rattle.fw_lines.specs.Spelling.{is_numeral}

-- a word of a line
abbrev pub Word : Type 0
Word = List ℕ

-- the words behind this one, if they begin with it
abbrev pub behind : Word → List Word → Option (List Word)
behind expected [] = None
behind expected (word ∷ words) = if bytes_eq word expected then Some words else None

-- whether the word is two numbers, of any length, joined by a colon
abbrev pub is_count : Word → Bool
is_count word = list_any is_colon word && (is_numeral (before_first is_colon word) && is_numeral (after_first is_colon word))
