-- The file `run`: a line for each record, and what the lines allow.
use Rattle.std.specs.Prelude.{◌≡◌, ℕ, ◌<◌, ◌^◌, ◌==◌, nat_lt, Bool, true, false, ◌&&◌, if◌then◌else◌, List, [], ◌∷◌, ◌++◌, length, Option, Some, None, Vec, option_map, unwrap_or, Contains, IsSome, IfSome}
use Rattle.std.specs.List.{AllByRecursion, IsDistinct, before_first, after_first}
use Rattle.std.specs.Map.{keys_of}
use Rattle.std.specs.Fmt.{decimal}
use Rattle.std.specs.Result.{result_unwrap_or}
use Rattle.std.specs.Str.{bytes_eq}
use Rattle.std.specs.Str.Parse.{digits_value}
use Rattle.std.specs.BTreeMap.{BTreeMap, get}
use Rattle.std.specs.Ordering.{nat_cmp, eq_by_cmp}
use Rattle.std.specs.declared.alloc.Global.{Global}
use Rattle.hex.specs.Hex.{encode_lower, decode_of, IsBytes}
use Rattle.fw_disk.specs.Pieces.{pieces}

-- the line of a record without its line feed: the digits of its id, a space, and the hexadecimal digits of its digest
abbrev pub line_words : ℕ → List ℕ → List ℕ
line_words id digest = decimal id ++ (32 ∷ []) ++ encode_lower digest

-- the line of a record
abbrev pub digest_line : ℕ → List ℕ → List ℕ
digest_line id digest = line_words id digest ++ (10 ∷ [])

-- a digest has thirty-two bytes
abbrev pub IsDigest : List ℕ → Type 0
IsDigest digest = (length digest ≡ 32) × IsBytes digest

-- these words are those of the line of a record, whose id is a number of sixty-four bits
pub record IsRecordLine (id : ℕ) (digest words : List ℕ) : Type 0 where
  pub fits : id < 2 ^ 64
  pub digest_fits : IsDigest digest
  pub spelled : words ≡ line_words id digest

-- ---- what a text tells

-- whether a byte is a space
abbrev pub is_space : ℕ → Bool
is_space byte = byte == 32

-- the whole lines of a text, each without its line feed; what stands behind the last line feed is none
abbrev pub whole_lines : List ℕ → List (List ℕ)
whole_lines text = pieces 10 text

-- the number before the first space, and the bytes that hexadecimal digits behind it spell
abbrev pub id_in : List ℕ → ℕ
id_in words = digits_value 10 (before_first is_space words)

abbrev pub digest_in : List ℕ → List ℕ
digest_in words = result_unwrap_or (decode_of (after_first is_space words)) []

-- whether words are those of the line of a record of this id and this digest
abbrev pub is_record_line : ℕ → List ℕ → List ℕ → Bool
is_record_line id digest words = nat_lt id (2 ^ 64) && (length digest == 32) && bytes_eq words (line_words id digest)

-- the id and the digest of a line; none, where it is no line of a record
abbrev pub line_told : List ℕ → Option (ℕ × List ℕ)
line_told words = if is_record_line (id_in words) (digest_in words) words then Some (id_in words, digest_in words) else None

-- the digests under an id once one more was told, if it is of this id: it comes before those told until then
abbrev pub told_more : Option (ℕ × List ℕ) → ℕ → List (List ℕ) → List (List ℕ)
told_more None id before = before
told_more (Some told) id before = if told.0 == id then told.1 ∷ before else before

abbrev pub told_then : List ℕ → ℕ → List (List ℕ) → List (List ℕ)
told_then words = told_more (line_told words)

-- the same of lines, one after the other
abbrev pub told_after : List (List ℕ) → ℕ → List (List ℕ) → List (List ℕ)
told_after [] id before = before
told_after (line ∷ lines) id before = told_after lines id (told_then line id before)

-- the digests that lines tell of an id, that of the last line first
abbrev pub digests_told : List (List ℕ) → ℕ → List (List ℕ)
digests_told lines id = told_after lines id []

-- ---- what is written

-- the lines of these digests under an id
abbrev pub lines_under : ℕ → List (List ℕ) → List ℕ
lines_under id [] = []
lines_under id (digest ∷ digests) = digest_line id digest ++ lines_under id digests

-- the lines of all ids
abbrev pub text_of : List (ℕ × Vec (List ℕ) Global) → List ℕ
text_of [] = []
text_of (entry ∷ entries) = lines_under entry.0 entry.1.items ++ text_of entries

-- what the types of a table say: an id is a number of sixty-four bits, under it are digests, and it is there once
abbrev pub IsEntry : ℕ × Vec (List ℕ) Global → Type 0
IsEntry entry = (entry.0 < 2 ^ 64) × AllByRecursion IsDigest entry.1.items

abbrev pub AreEntries : List (ℕ × Vec (List ℕ) Global) → Type 0
AreEntries entries = AllByRecursion IsEntry entries × IsDistinct (eq_by_cmp nat_cmp) (keys_of entries)

-- ---- what lines allow

-- these, if there are any
abbrev pub if_any : List (List ℕ) → Option (List (List ℕ))
if_any [] = None
if_any (digest ∷ digests) = Some (digest ∷ digests)

-- the one digest, where there is one alone
abbrev pub only_of : List (List ℕ) → Option (List ℕ)
only_of [] = None
only_of (digest ∷ []) = Some digest
only_of (digest ∷ next ∷ digests) = None

-- the digests of the records that may stand under an id that has a line
abbrev pub digests_of : BTreeMap ℕ (Vec (List ℕ) Global) → ℕ → Option (List (List ℕ))
digests_of told id = option_map (λ digests. digests.items) (get nat_cmp told id)

-- the same under any id: none, where it has no line
abbrev pub digests_under : BTreeMap ℕ (Vec (List ℕ) Global) → ℕ → List (List ℕ)
digests_under told id = unwrap_or (digests_of told id) []

-- whether there are any
abbrev pub are_any : List (List ℕ) → Bool
are_any [] = false
are_any (digest ∷ digests) = true

-- a record with this digest may stand under an id: it has no line, or this digest is among those that it may have
abbrev pub MayStand : BTreeMap ℕ (Vec (List ℕ) Global) → ℕ → List ℕ → Type 0
MayStand told id digest = IfSome (digests_of told id) (λ digests. Contains digests digest)

-- each digest that stands under an id is one of those that may stand there by these lines
abbrev pub StandByLines : BTreeMap ℕ (Vec (List ℕ) Global) → BTreeMap ℕ (Vec (List ℕ) Global) → Type 0
StandByLines lines claimed = (id : ℕ) → AllByRecursion (MayStand lines id) (digests_under claimed id)

-- each id that has one of these lines has one here
abbrev pub HasLinesOf : BTreeMap ℕ (Vec (List ℕ) Global) → BTreeMap ℕ (Vec (List ℕ) Global) → Type 0
HasLinesOf lines claimed = (id : ℕ) → IsSome (digests_of lines id) → IsSome (digests_of claimed id)

-- A table stands by the lines of a text: under each id are digests that may stand there by them, and each id that has a line there has one.
pub record StandsByText (text : List ℕ) (claimed : BTreeMap ℕ (Vec (List ℕ) Global)) : Type 0 where
  pub lines : BTreeMap ℕ (Vec (List ℕ) Global)
  pub tell : (id : ℕ) → digests_of lines id ≡ if_any (digests_told (whole_lines text) id)
  pub stand : StandByLines lines claimed
  pub have : HasLinesOf lines claimed
