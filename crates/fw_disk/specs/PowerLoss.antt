-- What a loss of power may leave of a folder, by the calls that were made in it.
use Rattle.std.specs.Prelude.{◌≡◌, ◌⊎◌, ℕ, ◌+◌, ◌≤◌, Bool, true, false, not, ◌&&◌, ◌||◌}
use Rattle.std.specs.Prelude.{List, [], ◌∷◌, ◌++◌, length, Option, Some, None, option_map}
use Rattle.fw_disk.specs.declared.cause.DiskPlace.{DiskPlace}
use Rattle.fw_disk.specs.FolderCalls.{FolderCall, made, appended, flushed, linked, renamed, removed, folder_flushed, seen_empty, is_place}

-- the bytes under each place, if there is a file
abbrev pub Files : Type 0
Files = DiskPlace → Option (List ℕ)

-- A folder as a program finds it: the files that the disk had at some moment, and the calls that earlier programs made since, the newest
-- first: none after a loss of power, some where a program was killed.
pub record Disk : Type 0 where
  pub had : Files
  pub earlier : List FolderCall

-- a file: of these bytes, which are on the disk; of these bytes, which need not be; of bytes that are on the disk, with others behind
-- them that need not be; of bytes that nobody knows, so many at most
pub data DiskFile : Type 0 where
  kept : (bytes : List ℕ) → DiskFile
  written : (bytes : List ℕ) → DiskFile
  grown : (bytes more : List ℕ) → DiskFile
  torn : (most : ℕ) → DiskFile

-- how many bytes are found of it at most
abbrev pub most_of : DiskFile → ℕ
most_of (kept bytes) = length bytes
most_of (written bytes) = length bytes
most_of (grown bytes more) = length bytes + length more
most_of (torn most) = most

-- a file whose bytes are flushed
abbrev pub flush_of : DiskFile → DiskFile
flush_of (kept bytes) = kept bytes
flush_of (written bytes) = kept bytes
flush_of (grown bytes more) = kept (bytes ++ more)
flush_of (torn most) = torn most

-- a file with these bytes behind its own
abbrev pub longer_by : List ℕ → DiskFile → DiskFile
longer_by more (kept bytes) = grown bytes more
longer_by more (written bytes) = written (bytes ++ more)
longer_by more (grown bytes before) = grown bytes (before ++ more)
longer_by more (torn most) = torn (most + length more)

-- some bytes are found, so many at most
abbrev pub IsUpTo : ℕ → Option (List ℕ) → Type 0
IsUpTo most found = (bytes : List ℕ) × (found ≡ Some bytes) × (length bytes ≤ most)

-- these bytes are some first ones of those
abbrev pub AreFirstOf : List ℕ → List ℕ → Type 0
AreFirstOf first all = (rest : List ℕ) × (first ++ rest ≡ all)

-- what is found of a file, or of none, after a loss of power
abbrev pub BecomesOf : DiskFile → Option (List ℕ) → Type 0
BecomesOf (kept bytes) found = found ≡ Some bytes
BecomesOf (written bytes) found = IsUpTo (length bytes) found
BecomesOf (grown bytes more) found = (first : List ℕ) × AreFirstOf first more × (found ≡ Some (bytes ++ first))
BecomesOf (torn most) found = IsUpTo most found

abbrev pub Becomes : Option DiskFile → Option (List ℕ) → Type 0
Becomes None found = found ≡ None
Becomes (Some file) found = BecomesOf file found

-- What may be under each place: one of these files, or none. After a call that was refused it may be one or the other.
abbrev pub Possible : Type 1
Possible = DiskPlace → Option DiskFile → Type 0

abbrev pub Either : Bool → Type 0 → Type 0 → Type 0
Either true A B = A
Either false A B = B

-- the same, but under this place
abbrev pub changed : Possible → DiskPlace → (Option DiskFile → Type 0) → Possible
changed before place now other f = Either (is_place other place) (now f) (before other f)

-- there may be a file, whose bytes are then these
abbrev pub MayBecome : Possible → DiskPlace → (DiskFile → DiskFile) → Option DiskFile → Type 0
MayBecome before place change f = (file : DiskFile) × before place (Some file) × (f ≡ Some (change file))

-- there may be a file, which got some first ones of these bytes
abbrev pub MayGrow : Possible → DiskPlace → List ℕ → Option DiskFile → Type 0
MayGrow before place bytes f = (first : List ℕ) × AreFirstOf first bytes × MayBecome before place (longer_by first) f

-- there may be a file, which is gone then
abbrev pub MayVanish : Possible → DiskPlace → Option DiskFile → Type 0
MayVanish before place f = (file : DiskFile) × before place (Some file) × (f ≡ None)

-- there may be a file, or none, in whose place another comes
abbrev pub MayGiveWay : Possible → DiskPlace → DiskPlace → Option DiskFile → Type 0
MayGiveWay before from to f = ((was : Option DiskFile) × before to was) × before from f

-- What a call makes of it. What was done could be done: a new name was not there before, and one that goes was there. What was refused
-- may have been done all the same, or in part; after a flush that failed perhaps nobody knows the bytes.
abbrev pub after_call : FolderCall → Possible → Possible
after_call (made place bytes true) before = changed before place (λ f. before place None × (f ≡ Some (written bytes)))
after_call (made place bytes false) before =
    changed before place (λ f. before place f ⊎ (before place None × (f ≡ Some (torn (length bytes)))))
after_call (appended place bytes true) before = changed before place (MayBecome before place (longer_by bytes))
after_call (appended place bytes false) before = changed before place (λ f. before place f ⊎ MayGrow before place bytes f)
after_call (flushed place true) before = changed before place (MayBecome before place flush_of)
after_call (flushed place false) before = changed before place (λ f. before place f ⊎ MayBecome before place (λ file. torn (most_of file)) f)
after_call (linked from to true) before = changed before to (λ f. before to None × before from f)
after_call (linked from to false) before = changed before to (λ f. before to f ⊎ (before to None × before from f))
after_call (renamed from to true) before = changed (changed before to (MayGiveWay before from to)) from (λ f. f ≡ None)
after_call (renamed from to false) before =
    changed (changed before to (λ f. before to f ⊎ MayGiveWay before from to f)) from (λ f. before from f ⊎ (f ≡ None))
after_call (removed place true) before = changed before place (MayVanish before place)
after_call (removed place false) before = changed before place (λ f. before place f ⊎ MayVanish before place f)
after_call (folder_flushed done) before = before
after_call (seen_empty place) before = changed before place (λ f. before place f × Becomes f (Some []))

-- what may be under a place after these calls, the newest first, where the disk had these files before them
abbrev pub ThereAfter : Files → List FolderCall → Possible
ThereAfter had [] place f = f ≡ option_map kept (had place)
ThereAfter had (call ∷ before) place f = after_call call (ThereAfter had before) place f

-- whether a call flushed the names
abbrev pub is_flush : FolderCall → Bool
is_flush (made place bytes done) = false
is_flush (appended place bytes done) = false
is_flush (flushed place done) = false
is_flush (linked from to done) = false
is_flush (renamed from to done) = false
is_flush (removed place done) = false
is_flush (folder_flushed done) = done
is_flush (seen_empty place) = false

-- whether a call gives or takes the name of a place
abbrev pub is_of_name : DiskPlace → FolderCall → Bool
is_of_name other (made place bytes done) = is_place other place
is_of_name other (appended place bytes done) = false
is_of_name other (flushed place done) = false
is_of_name other (linked from to done) = is_place other to
is_of_name other (renamed from to done) = is_place other from || is_place other to
is_of_name other (removed place done) = is_place other place
is_of_name other (folder_flushed done) = false
is_of_name other (seen_empty place) = false

-- whether the disk has the name of a place, or has it not, as it is now: no call gave or took it since the names were flushed
abbrev pub is_settled : DiskPlace → List FolderCall → Bool
is_settled place [] = true
is_settled place (call ∷ before) = is_flush call || (not (is_of_name place call) && is_settled place before)

-- What the disk may have under a place: what is there, where its name is settled; else what was there when the names were flushed last, or
-- at some moment since.
abbrev pub LastsAfter : Files → List FolderCall → Possible
LastsAfter had [] place f = ThereAfter had [] place f
LastsAfter had (call ∷ before) place f =
    Either (is_settled place (call ∷ before)) (ThereAfter had (call ∷ before) place f)
    (LastsAfter had before place f ⊎ ThereAfter had (call ∷ before) place f)

-- the same of a folder as a program found it, after the calls of that program
abbrev pub MayBeThere : Disk → List FolderCall → Possible
MayBeThere start calls = ThereAfter start.had (calls ++ start.earlier)

abbrev pub MayLast : Disk → List FolderCall → Possible
MayLast start calls = LastsAfter start.had (calls ++ start.earlier)

-- the bytes of a file, where they are known
abbrev pub bytes_of : DiskFile → Option (List ℕ)
bytes_of (kept bytes) = Some bytes
bytes_of (written bytes) = Some bytes
bytes_of (grown bytes more) = Some (bytes ++ more)
bytes_of (torn most) = None

-- each file that may be there now has these bytes
abbrev pub HasBytes : Disk → List FolderCall → DiskPlace → List ℕ → Type 0
HasBytes start calls place bytes = (file : DiskFile) → MayBeThere start calls place (Some file) → bytes_of file ≡ Some bytes

-- what a loss of power after these calls may leave under a place
abbrev pub MayBeLeft : Disk → List FolderCall → DiskPlace → Option (List ℕ) → Type 0
MayBeLeft start calls place found = (f : Option DiskFile) × MayLast start calls place f × Becomes f found

-- P holds after each of these calls, the newest first, and before the first
abbrev pub EachMoment : (List FolderCall → Type 0) → List FolderCall → List FolderCall → Type 0
EachMoment P [] old = P old
EachMoment P (call ∷ since) old = P ((call ∷ since) ++ old) × EachMoment P since old

-- the calls since an earlier history, and P at each moment
pub record AtEachMoment (P : List FolderCall → Type 0) (old new : List FolderCall) : Type 0 where
  pub since : List FolderCall
  pub history : new ≡ since ++ old
  pub each : EachMoment P since old
