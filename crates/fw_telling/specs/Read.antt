-- What was read of files.
use Rattle.std.specs.Prelude.{◌≡◌, ℕ, ◌+◌, ◌<◌, List, find, take, length, string_bytes, Option, Some, None, IfSome, IsSome, is_some, option_map, option_and_then}
use Rattle.std.specs.List.{list_any}
use Rattle.std.specs.Str.{bytes_eq}
use Rattle.fw_telling.specs.declared.read_folder.ReadText.{ReadText}
use Rattle.fw_telling.specs.declared.reading.Reading.{Reading}
use Rattle.fw_telling.specs.declared.reading.Reading.TheVariants.{Whole, Beginning, Failed, NoMemory}

-- the bytes that were read of a file; none where it could not be read, or there was no memory for them. Of a file that is longer than the
-- limit its first bytes stand for it, one more than the limit, which no reader accepts
abbrev pub bytes_read : Reading → Option (List ℕ)
bytes_read (Whole bytes) = Some bytes.items
bytes_read (Beginning bytes) = Some bytes.items
bytes_read Failed = None
bytes_read NoMemory = None

-- these bytes are all of the file of which this came
abbrev pub IsAllOf : Reading → List ℕ → Type 0
IsAllOf (Whole read) bytes = bytes ≡ read.items
IsAllOf (Beginning read) bytes = ⊥
IsAllOf Failed bytes = ⊥
IsAllOf NoMemory bytes = ⊥

-- this came of reading a file of these bytes: it was read to its end, or it has more than the limit, and the first bytes were read, one more
-- than the limit
abbrev pub IsReadingOf : ℕ → List ℕ → Reading → Type 0
IsReadingOf limit bytes (Whole read) = read.items ≡ bytes
IsReadingOf limit bytes (Beginning read) = (limit < length bytes) × (read.items ≡ take (limit + 1) bytes)
IsReadingOf limit bytes Failed = ⊥
IsReadingOf limit bytes NoMemory = ⊥

-- what was read, if anything was, came of a file of these bytes
abbrev pub MayComeOf : ℕ → List ℕ → Reading → Type 0
MayComeOf limit bytes reading = IsSome (bytes_read reading) → IsReadingOf limit bytes reading

-- what came of reading the first file of this name
abbrev pub reading_under : List ReadText → List ℕ → Option Reading
reading_under texts name = option_map (λ text. text.reading) (find (λ text. bytes_eq (string_bytes text.name) name) texts)

-- the bytes that were read of the file of this name
abbrev pub text_read : List ReadText → List ℕ → Option (List ℕ)
text_read texts name = option_and_then bytes_read (reading_under texts name)

-- these are the texts of these names, read up to this limit: there is one of each name that was asked for, and no other; and what was read
-- of each came of the bytes of the file under its name, where these are known
pub record AreTextsOf (known : List ℕ → Option (List ℕ)) (limit : ℕ) (names : List (List ℕ)) (texts : List ReadText) : Type 0 where
  pub named : (name : List ℕ) → is_some (reading_under texts name) ≡ list_any (λ asked. bytes_eq asked name) names
  pub read : (name : List ℕ) → IfSome (known name) (λ bytes. IfSome (reading_under texts name) (MayComeOf limit bytes))
