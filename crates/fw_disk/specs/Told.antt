-- What a store on disk tells of its records, by what became of its calls.
use Rattle.std.specs.Prelude.{◌≡◌, ℕ, zero, suc, ◌==◌, Bool, not, ◌&&◌, ◌||◌, if◌then◌else◌, ⊤}
use Rattle.std.specs.Prelude.{List, [], ◌∷◌, map, Option, Some, None, Vec, option_map, slice_index}
use Rattle.std.specs.Str.{bytes_eq}
use Rattle.std.specs.List.{list_all}
use Rattle.std.specs.Cmp.Lexicographic.{pointwise}
use Rattle.std.specs.BTreeMap.{BTreeMap}
use Rattle.std.specs.Ordering.{nat_cmp}
use Rattle.std.specs.FinMap as finmap
use Rattle.std.specs.declared.alloc.Global.{Global}
use Rattle.sha2.specs.Sha256.{sha256}
use Rattle.fw_heard.specs.Note.{Note, became_of}
use Rattle.fw_disk.specs.RunLines.{digests_under}
use Rattle.fw_disk.specs.declared.claim.Claim.{Claim}
use Rattle.fw_disk.specs.declared.claim.Wanted.{Wanted}
use Rattle.fw_disk.specs.declared.claim.Wanted.TheVariants.{Empty, AsLeft}

-- the bytes of each id
abbrev pub Held : Type 0
Held = finmap.FinMap nat_cmp (List ℕ)

-- the second number of a note is the id that the call was for
abbrev pub id_of : Note → ℕ
id_of note = slice_index note.0 1

-- the digests that were noted under an id
abbrev pub noted_under : List Note → ℕ → List (List ℕ)
noted_under [] id = []
noted_under (note ∷ earlier) id = if id_of note == id then note.1 ∷ noted_under earlier id else noted_under earlier id

-- the digests that stand under an id of a store which holds this there: that of the bytes alone, and none where it holds nothing
abbrev pub digests_held : Option (List ℕ) → List (List ℕ)
digests_held None = []
digests_held (Some bytes) = sha256 bytes ∷ []

-- whether what was noted under an id is the digest of what is held there
abbrev pub agrees_at : List Note → Held → ℕ → Bool
agrees_at found held id = pointwise bytes_eq (noted_under found id) (digests_held (finmap.get held id))

-- whether that is so under each id: the records that were found are those that are held, by their digests
abbrev pub are_found : List Note → Held → Bool
are_found found held = list_all (agrees_at found held) (map id_of found) && list_all (agrees_at found held) (finmap.keys held)

-- whether these bytes are others than are held, and have their digest
abbrev pub is_collision : List ℕ → Option (List ℕ) → Bool
is_collision bytes None = Bool.false
is_collision bytes (Some held) = not (bytes_eq bytes held) && bytes_eq (sha256 bytes) (sha256 held)

-- What is told once a folder was opened in which these records were found: those that it held by what is supposed, where they were found.
abbrev pub told_when_opened : Held → List Note → Option Held
told_when_opened first found = if are_found found first then Some first else None

-- what is told once these bytes were given of an id: nothing any more, where they have the digest of others that are held there
abbrev pub told_when_given : ℕ → List ℕ → Option Held → Option Held
told_when_given id bytes None = None
told_when_given id bytes (Some held) = if is_collision bytes (finmap.get held id) then None else Some held

-- What is told after a note, by what was told before: bytes were put under an id, or given, the record was removed, or that was refused.
-- While records are being found nothing is told.
abbrev pub after_noted : Held → ℕ → ℕ → List ℕ → List Note → Option Held → Option Held
after_noted first zero id bytes earlier told = option_map (λ held. finmap.insert held id bytes) told
after_noted first (suc zero) id bytes earlier told = told_when_given id bytes told
after_noted first (suc (suc zero)) id bytes earlier told = option_map (λ held. finmap.remove held id) told
after_noted first (suc (suc (suc zero))) id bytes earlier told = None
after_noted first (suc (suc (suc (suc zero)))) id bytes earlier told = told_when_opened first earlier
after_noted first (suc (suc (suc (suc (suc more))))) id bytes earlier told = told

-- what is told by these notes, the newest first, of a folder that held these records
abbrev pub told_from : Held → List Note → Option Held
told_from first [] = None
told_from first (note ∷ earlier) = after_noted first (became_of note) (id_of note) note.1 earlier (told_from first earlier)

-- the same of a folder whose records may not be named; then nothing is told
abbrev pub told_by : Option Held → List Note → Option Held
told_by None notes = None
told_by (Some first) notes = told_from first notes

-- the last record that was given, with its id; nothing was given before the folder was opened
abbrev pub given_after : ℕ → ℕ → List ℕ → Option (ℕ × List ℕ) → Option (ℕ × List ℕ)
given_after zero id bytes last = last
given_after (suc zero) id bytes last = Some (id, bytes)
given_after (suc (suc zero)) id bytes last = last
given_after (suc (suc (suc zero))) id bytes last = None
given_after (suc (suc (suc (suc zero)))) id bytes last = None
given_after (suc (suc (suc (suc (suc more))))) id bytes last = last

abbrev pub last_given : List Note → Option (ℕ × List ℕ)
last_given [] = None
last_given (note ∷ earlier) = given_after (became_of note) (id_of note) note.1 (last_given earlier)

-- whether a removal of the record under an id was refused since the record was put, so that its file may be gone all the same
abbrev pub doubt_after : ℕ → Bool → Bool → Bool
doubt_after zero at_id before = if at_id then Bool.false else before
doubt_after (suc zero) at_id before = before
doubt_after (suc (suc zero)) at_id before = before
doubt_after (suc (suc (suc zero))) at_id before = before
doubt_after (suc (suc (suc (suc zero)))) at_id before = before
doubt_after (suc (suc (suc (suc (suc more))))) at_id before = at_id || before

abbrev pub is_doubtful : List Note → ℕ → Bool
is_doubtful [] id = Bool.false
is_doubtful (note ∷ earlier) id = doubt_after (became_of note) (id_of note == id) (is_doubtful earlier id)

-- the digests that stand under each id are those that were noted
abbrev pub HasDigestsNoted : List Note → BTreeMap ℕ (Vec (List ℕ) Global) → Type 0
HasDigestsNoted found told = (id : ℕ) → digests_under told id ≡ noted_under found id

-- a claim on a folder that is to hold no record has none
abbrev pub IsClaimFor : Wanted → Claim → Type 0
IsClaimFor Empty claim = (id : ℕ) → digests_under claim.lines.told id ≡ []
IsClaimFor AsLeft claim = ⊤

-- the digests that stand under an id by the claim of a run on its folder; none where it has no claim yet
abbrev pub digests_in : Option Claim → ℕ → List (List ℕ)
digests_in None id = []
digests_in (Some claim) id = digests_under claim.lines.told id

-- whether a run knows what stands in its folder: where it has no claim yet, nothing does, or it is as an earlier run left it
abbrev pub knows : Option Claim → Wanted → Bool
knows (Some claim) wanted = Bool.true
knows None Empty = Bool.true
knows None AsLeft = Bool.false

-- the digests that stand under each id, by what a run knows of its folder, are those of what is held
abbrev pub HasDigestsOf : Option Claim → Wanted → Held → Type 0
HasDigestsOf claim wanted held =
    (knows claim wanted ≡ Bool.true) × ((id : ℕ) → digests_in claim id ≡ digests_held (finmap.get held id))
