-- What is noted of a call.
use Rattle.std.specs.Prelude.{ℕ, List, slice_index}

-- What is noted: numbers and bytes. The first number says what became of a call.
abbrev pub Note : Type 0
Note = List ℕ × List ℕ

abbrev pub note_of : List ℕ → List ℕ → Note
note_of numbers bytes = (numbers, bytes)

abbrev pub became_of : Note → ℕ
became_of note = slice_index note.0 0
