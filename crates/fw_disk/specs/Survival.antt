-- What a loss of power leaves of records, at each moment of a store's calls and between them.
use Rattle.std.specs.Prelude.{◌≡◌, ◌⊎◌, ℕ, Bool, true, false, List, [], ◌∷◌, ◌++◌, Option, Some, None}
use Rattle.std.specs.Option.{ForSome}
use Rattle.std.specs.FinMap as map
use Rattle.fw_heard.specs.Note.{Note}
use Rattle.fw_disk.specs.declared.cause.DiskPlace.TheVariants.{Record, Beside, Run}
use Rattle.fw_disk.specs.Contents.{contents_of}
use Rattle.fw_disk.specs.FolderCalls.{FolderCall, folder_flushed, IsLonger}
use Rattle.fw_disk.specs.PowerLoss.{Disk, DiskFile, kept, torn, MayBeThere, MayLast, MayBeLeft, is_settled}
use Rattle.fw_disk.specs.RunLines.{digest_line}
use Rattle.fw_disk.specs.Told.{Held, told_by, is_doubtful}

-- no record is found: nothing, or a file without bytes, which no call takes for a record
abbrev pub IsNoRecord : Option (List ℕ) → Type 0
IsNoRecord found = (found ≡ None) ⊎ (found ≡ Some [])

-- a loss of power might have left no record under an id
abbrev pub MayHaveNone : Disk → List FolderCall → ℕ → Type 0
MayHaveNone start calls id = (found : Option (List ℕ)) × MayBeLeft start calls (Record id) found × IsNoRecord found

-- A loss of power now leaves under each id what one before might have left; or, where that might have been no record, what may be new there.
abbrev pub IsOldOr : (ℕ → Option (List ℕ) → Type 0) → Disk → List FolderCall → List FolderCall → Type 0
IsOldOr MayBeNew start before now =
    (id : ℕ) (found : Option (List ℕ)) → MayBeLeft start now (Record id) found
    → MayBeLeft start before (Record id) found ⊎ (MayHaveNone start before id × MayBeNew id found)

-- No record is new: a loss of power now leaves no record that one before might not have left, and each that it left for sure.
abbrev pub IsOld : Disk → List FolderCall → List FolderCall → Type 0
IsOld = IsOldOr (λ id found. IsNoRecord found)

-- A put under this id: it alone may have these contents anew.
abbrev pub MayBePut : ℕ → List ℕ → ℕ → Option (List ℕ) → Type 0
MayBePut id contents other found = IsNoRecord found ⊎ ((other ≡ id) × (found ≡ Some contents))

abbrev pub IsOldOrNew : ℕ → List ℕ → Disk → List FolderCall → List FolderCall → Type 0
IsOldOrNew id contents = IsOldOr (MayBePut id contents)

-- a loss of power leaves these contents under this id
abbrev pub IsOnDisk : ℕ → List ℕ → Disk → List FolderCall → Type 0
IsOnDisk id contents start now = (found : Option (List ℕ)) → MayBeLeft start now (Record id) found → found ≡ Some contents

-- A loss of power now leaves under each id what one before might have left; or no record, under this id and where that might have been none.
abbrev pub IsOldOrGone : ℕ → Disk → List FolderCall → List FolderCall → Type 0
IsOldOrGone id start before now =
    (other : ℕ) (found : Option (List ℕ)) → MayBeLeft start now (Record other) found
    → MayBeLeft start before (Record other) found ⊎ (((other ≡ id) ⊎ MayHaveNone start before other) × IsNoRecord found)

-- once the names are flushed, a loss of power leaves nothing under this id
abbrev pub IsGone : ℕ → Disk → List FolderCall → Type 0
IsGone id start now = (found : Option (List ℕ)) → MayBeLeft start (folder_flushed true ∷ now) (Record id) found → found ≡ None

-- ---- between two calls of the store

-- once the names are flushed, the disk has the files of these records, as a program found the folder
abbrev pub AreFilesOf : Held → Disk → Type 0
AreFilesOf held start =
    (id : ℕ) (bytes : List ℕ) → map.get held id ≡ Some bytes → IsOnDisk id (contents_of bytes) start (folder_flushed true ∷ [])

-- a loss of power leaves each of these records, but where its removal was refused
abbrev pub AreOnDisk : Held → List Note → Disk → List FolderCall → Type 0
AreOnDisk held heard start calls =
    (id : ℕ) (bytes : List ℕ) → map.get held id ≡ Some bytes → is_doubtful heard id ≡ false → IsOnDisk id (contents_of bytes) start calls

-- Where the files of the records that the folder is supposed to have held were there, a loss of power leaves each record that the store
-- tells, but where its removal was refused.
abbrev pub Survive : Option Held → List Note → List FolderCall → Type 0
Survive first heard calls =
    (start : Disk) → ForSome first (λ held. AreFilesOf held start)
    → ForSome (told_by first heard) (λ held. AreOnDisk held heard start calls)

-- bytes that are the file of some record, or none
abbrev pub IsWhole : List ℕ → Type 0
IsWhole contents = ∥ (contents ≡ []) ⊎ ((bytes : List ℕ) × (contents ≡ contents_of bytes)) ∥₁

-- a loss of power leaves no file but whole ones under any id
abbrev pub AreWhole : Disk → List FolderCall → Type 0
AreWhole start calls = (id : ℕ) (contents : List ℕ) → MayBeLeft start calls (Record id) (Some contents) → IsWhole contents

-- Where a loss of power at first would have left whole files alone, so does one at any moment since, whose calls are these.
abbrev pub StayWhole : List FolderCall → Type 0
StayWhole calls = (start : Disk) → AreWhole start [] → (later moment : List FolderCall) → calls ≡ later ++ moment → AreWhole start moment

-- ---- a record and its line

-- a text ends in a line
abbrev pub EndsIn : List ℕ → List ℕ → Type 0
EndsIn line text = (before : List ℕ) × (text ≡ before ++ line)

-- the line of a record was written into `run`, and flushed if it was to be
abbrev pub IsLineWritten : Bool → ℕ → List ℕ → List FolderCall → List FolderCall → Type 0
IsLineWritten flushes id digest old new = (text : List ℕ) × EndsIn (digest_line id digest) text × IsLonger flushes Run text old new

-- the name of `run` is on the disk, and no flush of its file failed
pub record IsRunFileKnown (start : Disk) (now : List FolderCall) : Type 0 where
  pub settled : is_settled Run (now ++ start.earlier) ≡ true
  pub known : (most : ℕ) → MayBeThere start now Run (Some (torn most)) → ⊥

-- Where a loss of power now may leave this record under an id, which none before might have left, it leaves `run` with this line at its end.
abbrev pub IsWithLine : ℕ → List ℕ → List ℕ → Disk → List FolderCall → List FolderCall → Type 0
IsWithLine id contents line start before now =
    MayBeLeft start now (Record id) (Some contents)
    → MayBeLeft start before (Record id) (Some contents) ⊎ ((text : List ℕ) → MayBeLeft start now Run (Some text) → EndsIn line text)

-- ---- inside a put

-- the file beside has these contents, and they are on the disk
abbrev pub IsBesideFlushed : ℕ → List ℕ → Disk → List FolderCall → Type 0
IsBesideFlushed id contents start now = (f : Option DiskFile) → MayBeThere start now (Beside id) f → f ≡ Some (kept contents)

-- the record's file has them, and the disk may have nothing there yet
abbrev pub IsNamed : ℕ → List ℕ → Disk → List FolderCall → Type 0
IsNamed id contents start now =
    (f : Option DiskFile) → MayBeThere start now (Record id) f → (f ≡ Some (kept contents)) × MayLast start now (Record id) None
