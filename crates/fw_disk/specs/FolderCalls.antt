-- The calls that change a folder, each with its answer.
use Rattle.std.specs.Prelude.{◌≡◌, ℕ, zero, suc, ◌==◌, Bool, true, false, not, ◌&&◌, ◌||◌, ◌⊎◌, List, ◌∷◌, ◌++◌, map, slice_index}
use Rattle.std.specs.List.{list_all}
use Rattle.fw_heard.specs.Note.{Note, became_of}
use Rattle.fw_disk.specs.declared.cause.DiskPlace.{DiskPlace}
use Rattle.fw_disk.specs.declared.cause.DiskPlace.TheVariants.{Folder, Record, Beside, Run, RunBeside}
use Rattle.fw_disk.specs.declared.call_notes.CallNotes.{CallNotes}

-- A call and whether it was done. One that was refused may have been done all the same, or in part.
pub data FolderCall : Type 0 where
  -- a file that was not there was made, and these bytes were written into it
  made : (place : DiskPlace) (bytes : List ℕ) (done : Bool) → FolderCall
  -- bytes were written behind those of a file
  appended : (place : DiskPlace) (bytes : List ℕ) (done : Bool) → FolderCall
  -- the bytes of a file were flushed to the disk
  flushed : (place : DiskPlace) (done : Bool) → FolderCall
  -- a file got a second name, which was not there
  linked : (from to : DiskPlace) (done : Bool) → FolderCall
  -- a file got another name, in place of what had it
  renamed : (from to : DiskPlace) (done : Bool) → FolderCall
  -- a name was taken away
  removed : (place : DiskPlace) (done : Bool) → FolderCall
  -- the names were flushed to the disk
  folder_flushed : (done : Bool) → FolderCall
  -- a file was looked at, and had no bytes
  seen_empty : (place : DiskPlace) → FolderCall

-- ---- how they are noted

-- a place by two numbers
abbrev pub place_kind : DiskPlace → ℕ
place_kind (Record id) = 0
place_kind (Beside id) = 1
place_kind Run = 2
place_kind RunBeside = 3
place_kind Folder = 4

abbrev pub place_number : DiskPlace → ℕ
place_number (Record id) = id
place_number (Beside id) = id
place_number Run = 0
place_number RunBeside = 0
place_number Folder = 0

abbrev pub coded_place : ℕ → ℕ → DiskPlace
coded_place zero id = Record id
coded_place (suc zero) id = Beside id
coded_place (suc (suc zero)) id = Run
coded_place (suc (suc (suc zero))) id = RunBeside
coded_place (suc (suc (suc (suc more)))) id = Folder

-- the call of this sort, at a place and perhaps a second
abbrev pub sort_of : ℕ → DiskPlace → DiskPlace → Bool → List ℕ → FolderCall
sort_of zero place to done bytes = made place bytes done
sort_of (suc zero) place to done bytes = appended place bytes done
sort_of (suc (suc zero)) place to done bytes = flushed place done
sort_of (suc (suc (suc zero))) place to done bytes = linked place to done
sort_of (suc (suc (suc (suc zero)))) place to done bytes = renamed place to done
sort_of (suc (suc (suc (suc (suc zero))))) place to done bytes = removed place done
sort_of (suc (suc (suc (suc (suc (suc zero)))))) place to done bytes = folder_flushed done
sort_of (suc (suc (suc (suc (suc (suc (suc more))))))) place to done bytes = seen_empty place

-- the call of a note: its sort, its places, and whether it was done
abbrev pub noted_call : Note → FolderCall
noted_call note =
    sort_of (became_of note) (coded_place (slice_index note.0 1) (slice_index note.0 2)) (coded_place (slice_index note.0 3) (slice_index note.0 4))
    (slice_index note.0 5 == 1) note.1

-- the calls that were noted, the newest first
abbrev pub calls_of : CallNotes → List FolderCall
calls_of calls = map noted_call calls.heard.notes

-- ---- which calls were made

-- whether two places are one
abbrev pub is_place : DiskPlace → DiskPlace → Bool
is_place a b = (place_kind a == place_kind b) && (place_number a == place_number b)

-- the file `run`, or the one beside it
abbrev pub is_run : DiskPlace → Bool
is_run (Record id) = false
is_run (Beside id) = false
is_run Run = true
is_run RunBeside = true
is_run Folder = false

-- whether a call is of these two files alone
abbrev pub is_of_run : FolderCall → Bool
is_of_run (made place bytes done) = is_run place
is_of_run (appended place bytes done) = is_run place
is_of_run (flushed place done) = is_run place
is_of_run (linked from to done) = is_run from && is_run to
is_of_run (renamed from to done) = is_run from && is_run to
is_of_run (removed place done) = is_run place
is_of_run (folder_flushed done) = true
is_of_run (seen_empty place) = is_run place

-- the calls since an earlier history, all of them of these two files
pub record AreOfRun (old new : List FolderCall) : Type 0 where
  pub since : List FolderCall
  pub history : new ≡ since ++ old
  pub of_run : list_all is_of_run since ≡ true

-- whether a call leaves the file `run` alone
abbrev pub is_beside_run : FolderCall → Bool
is_beside_run (made place bytes done) = not (is_place Run place)
is_beside_run (appended place bytes done) = not (is_place Run place)
is_beside_run (flushed place done) = not (is_place Run place)
is_beside_run (linked from to done) = not (is_place Run to)
is_beside_run (renamed from to done) = not (is_place Run from || is_place Run to)
is_beside_run (removed place done) = not (is_place Run place)
is_beside_run (folder_flushed done) = true
is_beside_run (seen_empty place) = not (is_place Run place)

-- the calls since an earlier history, all of which leave that file alone
pub record AreBesideRun (old new : List FolderCall) : Type 0 where
  pub since : List FolderCall
  pub history : new ≡ since ++ old
  pub beside : list_all is_beside_run since ≡ true

-- these bytes were written behind those of a file, and flushed if they were to be
abbrev pub IsLonger : Bool → DiskPlace → List ℕ → List FolderCall → List FolderCall → Type 0
IsLonger true place bytes old new = new ≡ flushed place true ∷ appended place bytes true ∷ old
IsLonger false place bytes old new = new ≡ appended place bytes true ∷ old

-- a file that was to be made whole and flushed was refused, or its flush was
abbrev pub IsRefused : DiskPlace → List ℕ → List FolderCall → List FolderCall → Type 0
IsRefused place bytes old new = (new ≡ made place bytes false ∷ old) ⊎ (new ≡ flushed place false ∷ made place bytes true ∷ old)

-- the flush of the empty file that took the name of a record was refused, or the rename of the file beside
abbrev pub IsNotRenamed : ℕ → List FolderCall → List FolderCall → Type 0
IsNotRenamed id old new =
    (new ≡ flushed (Record id) false ∷ old) ⊎ (new ≡ renamed (Beside id) (Record id) false ∷ flushed (Record id) true ∷ old)

-- the last call was to take this name away
abbrev pub EndsInRemoval : DiskPlace → List FolderCall → Type 0
EndsInRemoval place calls = (done : Bool) × (before : List FolderCall) × (calls ≡ removed place done ∷ before)
