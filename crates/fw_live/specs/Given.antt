-- What a source of lines gave.
use Rattle.std.specs.Prelude.{◌≡◌, ◌≢◌, ◌<◌, ◌≤◌, ℕ, Bool, true, List, [], ◌∷◌, ◌++◌, map, take, length, ◌==◌, if◌then◌else◌, Option, Some, None, option_map, Result, Ok, Err}
use Rattle.std.specs.Io.KnownBytes.{Consumes, IsAtEnd, Keeps}
use Rattle.std.specs.declared.alloc.Global.{Global}
use Rattle.std.specs.declared.vec.Vec.{Vec}
use Rattle.fw_heard.specs.Note.{Note}
use Rattle.fw_outside.specs.declared.fault.OutFault.{OutFault}
use Rattle.fw_live.specs.declared.line_source.NextLine.{NextLine}
use Rattle.fw_live.specs.declared.line_source.NextLine.TheVariants.{Line, TooLong, End}
use Rattle.fw_live.specs.declared.stream_lines.Met.{Met}
use Rattle.fw_live.specs.declared.stream_lines.Met.TheVariants as met
use Rattle.fw_live.specs.Asked.{first_line}

-- these lines, and one more behind them
abbrev pub with_line_given : Option (List ℕ) → Option (List (Option (List ℕ))) → Option (List (Option (List ℕ)))
with_line_given line given = option_map (λ lines. lines ++ line ∷ []) given

-- what a source gave after a call that answered so
abbrev pub gives_after : Result NextLine OutFault → List ℕ → Option (List (Option (List ℕ))) → Option (List (Option (List ℕ)))
gives_after (Ok Line) bytes given = with_line_given (Some bytes) given
gives_after (Ok TooLong) bytes given = with_line_given None given
gives_after (Ok End) bytes given = given
gives_after (Err fault) bytes given = given

-- whether a source told that no line comes any more, after a call that answered so
abbrev pub ends_after : Result NextLine OutFault → Bool → Bool
ends_after (Ok End) ended = true
ends_after result ended = ended

-- the lines of which these are the notes, the newest first: of a note of one number a line with its bytes, of another one a line that was
-- too long
abbrev pub line_of : Note → Option (List ℕ)
line_of note = if length note.0 == 1 then Some note.1 else None

abbrev pub lines_heard : List Note → List (Option (List ℕ))
lines_heard [] = []
lines_heard (note ∷ earlier) = lines_heard earlier ++ line_of note ∷ []

-- so many first lines of those in memory
abbrev pub lines_given : List (Vec ℕ Global) → ℕ → List (Option (List ℕ))
lines_given lines count = map (λ (line : Vec ℕ Global). Some line.items) (take count lines)

-- ---- of a stream

-- Where a stream has these bytes left this comes of it: its first line, which is within the limit; that it is longer; or that none comes.
abbrev pub IsLineOf : ℕ → List ℕ → NextLine → List ℕ → Type 0
IsLineOf limit bytes Line line = (bytes ≢ []) × (line ≡ first_line bytes) × (length line ≤ limit)
IsLineOf limit bytes TooLong line = limit < length (first_line bytes)
IsLineOf limit bytes End line = bytes ≡ []

-- These bytes came of it, and a line feed behind them; no byte is left; or they came, and the line may go on.
abbrev pub MeetsBy : Met → Option (List ℕ) → Option (List ℕ) → List ℕ → Type 0
MeetsBy met.LineFeed before after bytes = Consumes before after (bytes ++ 10 ∷ [])
MeetsBy met.End before after bytes = (bytes ≡ []) × IsAtEnd before × Keeps before after
MeetsBy met.Part before after bytes = Consumes before after bytes
