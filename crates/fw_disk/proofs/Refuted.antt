-- The clauses refuse what wrong bodies do: of the histories that these would make each clause is false. The record is one byte, put under 0.
use Rattle.std.proofs.Common.{◌≡◌, inl, inr, ⊎_elim, ℕ, ◌≤◌, true, false, List, [], ◌∷◌, ◌++◌, Option, Some, None, refl, ap, subst, ◌∙◌, arith}
use Rattle.fw_disk.specs.declared.cause.DiskPlace.TheVariants.{Folder, Record, Beside, Run, RunBeside}
use Rattle.fw_disk.specs.FolderCalls.{FolderCall, made, appended, flushed, linked, renamed, removed, folder_flushed}
use Rattle.fw_disk.specs.PowerLoss.{Files, Disk, DiskFile, kept, written, grown, flush_of, Becomes, MayBeLeft, AtEachMoment}
use Rattle.fw_disk.specs.Survival.{MayHaveNone, MayBePut, IsOldOrNew, IsOnDisk, IsGone, IsWithLine}
use Rattle.fw_disk.proofs.Moments.{last}

abbrev pub put : List ℕ
put = 1 ∷ []

-- a folder without files
abbrev pub nothing : Disk
nothing = record { had = λ _. None; earlier = [] }

-- one in which another record stands under 0
abbrev pub one_file : Files
one_file (Record id) = Some (5 ∷ [])
one_file (Beside id) = None
one_file Run = None
one_file RunBeside = None
one_file Folder = None

abbrev pub one : Disk
one = record { had = one_file; earlier = [] }

none_left : (id : ℕ) (bytes : List ℕ) → MayBeLeft nothing [] (Record id) (Some bytes) → ⊥
none_left id bytes left =
    let none : Some bytes ≡ None = subst (λ f. Becomes f (Some bytes)) left.1 left.2 in cc

one_left : (found : Option (List ℕ)) → MayBeLeft one [] (Record 0) found → found ≡ Some (5 ∷ [])
one_left found left = subst (λ f. Becomes f found) left.1 left.2

never_none : MayHaveNone one [] 0 → ⊥
never_none none =
    let is = one_left none.0 none.1 in
    ⊎_elim (λ (e : none.0 ≡ None). cc) (λ (e : none.0 ≡ Some []). cc) none.2

-- at some moment bytes are found that neither stood there nor are put
not_put : (start : Disk) (h : List FolderCall) (id : ℕ) (found : List ℕ) → AtEachMoment (IsOldOrNew id put start []) [] h → (other : ℕ)
    → MayBeLeft start h (Record other) (Some found) → (MayBeLeft start [] (Record other) (Some found) → ⊥) → (MayBePut id put other (Some found) → ⊥) → ⊥
not_put start h id found m other left old new = ⊎_elim old (λ (n : MayHaveNone start [] other × MayBePut id put other (Some found)). new n.1) (last (IsOldOrNew id put start []) [] h m other (Some found) left)

-- ---- a put

-- the name is given before the file is flushed: another byte may be found
abbrev pub unflushed : List FolderCall
unflushed = linked (Beside 0) (Record 0) true ∷ made (Beside 0) put true ∷ []

pub named_before_flushed : AtEachMoment (IsOldOrNew 0 put nothing []) [] unflushed → ⊥
named_before_flushed m =
    let short : 1 ≤ 1 = omega arith in
    not_put nothing unflushed 0 (2 ∷ []) m 0 (Some (written put), inr (refl, (refl, refl)), (2 ∷ [], refl, short)) (none_left 0 (2 ∷ []))
    (λ new. ⊎_elim (λ none. ⊎_elim (λ (e : Some (2 ∷ []) ≡ None). cc) (λ (e : Some (2 ∷ []) ≡ Some []). cc) none) (λ (n : (0 ≡ 0) × (Some (2 ∷ []) ≡ Some put)). let e = n.1 in cc) new)

-- the calls of a put as far as the flush of the file
abbrev pub file_flushed : List FolderCall
file_flushed = flushed (Beside 0) true ∷ made (Beside 0) put true ∷ []

-- a rename in place of the second name: the record that stood there is lost
pub renamed_over : AtEachMoment (IsOldOrNew 0 put one []) [] (renamed (Beside 0) (Record 0) true ∷ file_flushed) → ⊥
renamed_over m =
    let left : MayBeLeft one (renamed (Beside 0) (Record 0) true ∷ file_flushed) (Record 0) (Some put) = (Some (kept put), inr ((Some (kept (5 ∷ [])), refl), (written put, (refl, refl), refl)), refl) in
    ⊎_elim (λ old. let e = one_left (Some put) old in cc) (λ (new : MayHaveNone one [] 0 × MayBePut 0 put 0 (Some put)). never_none new.0)
    (last (IsOldOrNew 0 put one []) [] (renamed (Beside 0) (Record 0) true ∷ file_flushed) m 0 (Some put) left)

-- the name is taken away after a second name was refused: the record that stood there is lost
pub removed_after_refusal : AtEachMoment (IsOldOrNew 0 put one []) [] (removed (Record 0) true ∷ linked (Beside 0) (Record 0) false ∷ file_flushed) → ⊥
removed_after_refusal m =
    ⊎_elim (λ old. let e : ◌≡◌ {A = Option (List ℕ)} None (Some (5 ∷ [])) = one_left None old in cc) (λ (new : MayHaveNone one [] 0 × MayBePut 0 put 0 None). never_none new.0)
    (last (IsOldOrNew 0 put one []) [] (removed (Record 0) true ∷ linked (Beside 0) (Record 0) false ∷ file_flushed) m 0 None (None, inr (kept (5 ∷ []), inl refl, refl), refl))

-- the name of another id is given
pub named_another : AtEachMoment (IsOldOrNew 0 put nothing []) [] (linked (Beside 0) (Record 7) true ∷ file_flushed) → ⊥
named_another m =
    not_put nothing (linked (Beside 0) (Record 7) true ∷ file_flushed) 0 put m 7 (Some (kept put), inr (refl, (written put, (refl, refl), refl)), refl) (none_left 7 put)
    (λ new. ⊎_elim (λ none. ⊎_elim (λ (e : Some put ≡ None). cc) (λ (e : Some put ≡ Some []). cc) none) (λ (n : (7 ≡ 0) × (Some put ≡ Some put)). let e = n.0 in cc) new)

-- it is told before the names are flushed, or where that was refused: no file may be found
pub told_before_flush : IsOnDisk 0 put nothing (linked (Beside 0) (Record 0) true ∷ file_flushed) → ⊥
told_before_flush on = let e : ◌≡◌ {A = Option (List ℕ)} None (Some put) = on None (None, inl refl, refl) in cc

pub told_after_refused_flush : IsOnDisk 0 put nothing (folder_flushed false ∷ linked (Beside 0) (Record 0) true ∷ file_flushed) → ⊥
told_after_refused_flush on = let e : ◌≡◌ {A = Option (List ℕ)} None (Some put) = on None (None, inl (inl refl), refl) in cc

-- the name is given before the line is flushed: the record may be found without it
abbrev pub line : List ℕ
line = 7 ∷ 10 ∷ []

abbrev pub run_file : Files
run_file (Record id) = None
run_file (Beside id) = None
run_file Run = Some []
run_file RunBeside = None
run_file Folder = None

abbrev pub with_run : Disk
with_run = record { had = run_file; earlier = [] }

not_the_end : (before : List ℕ) → [] ≡ before ++ line → ⊥
not_the_end [] e = cc
not_the_end (byte ∷ before) e = cc

abbrev pub line_unflushed : List FolderCall
line_unflushed = linked (Beside 0) (Record 0) true ∷ appended Run line true ∷ file_flushed

pub named_before_its_line : AtEachMoment (IsWithLine 0 put line with_run []) [] line_unflushed → ⊥
named_before_its_line m =
    let left : MayBeLeft with_run line_unflushed (Record 0) (Some put) = (Some (kept put), inr (refl, (written put, (refl, refl), refl)), refl) in
    ⊎_elim (λ old. let none : Some put ≡ None = subst (λ f. Becomes f (Some put)) old.1 old.2 in cc)
    (λ has. let end = has [] (Some (grown [] line), (kept [], refl, refl), ([], (line, refl), refl)) in not_the_end end.0 end.1)
    (last (IsWithLine 0 put line with_run []) [] line_unflushed m left)

-- ---- a removal

-- one that was refused is told as done: the file may be there
pub not_removed : IsGone 0 one (removed (Record 0) false ∷ []) → ⊥
not_removed gone = let e : ◌≡◌ {A = Option (List ℕ)} (Some (5 ∷ [])) None = gone (Some (5 ∷ [])) (Some (kept (5 ∷ [])), inl refl, refl) in cc

-- ---- a start

-- Names are not flushed when the folder is opened: what a program that was killed had named is not on the disk.
abbrev pub killed : Disk
killed = record { had = λ _. None; earlier = linked (Beside 0) (Record 0) true ∷ file_flushed }

kept_of : (file : DiskFile) → Some file ≡ Some (written put) → flush_of file ≡ kept put
kept_of file e =
    let same : file ≡ written put = cc in
    ap flush_of same

-- once they are flushed, it is
pub flushed_when_opened : IsOnDisk 0 put killed (folder_flushed true ∷ [])
flushed_when_opened found left =
    let t = left.1.1 in
    subst (λ f. Becomes f found) (t.2 ∙ ap Some (kept_of t.0 t.1.1)) left.2

pub not_flushed_when_opened : IsOnDisk 0 put killed [] → ⊥
not_flushed_when_opened on = let e : ◌≡◌ {A = Option (List ℕ)} None (Some put) = on None (None, inl refl, refl) in cc
