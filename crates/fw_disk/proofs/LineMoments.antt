-- The moments of a record and its line.
use Rattle.std.proofs.Common.{◌≡◌, inl, inr, ⊎_elim, ℕ, Bool, true, false, not, ◌&&◌, ◌||◌, List, [], ◌∷◌, ◌++◌, Option, Some, refl, sym, ap, subst, ◌∙◌, append_assoc}
use Rattle.std.specs.List.{list_all}
use Rattle.fw_disk.specs.declared.cause.DiskPlace.TheVariants.{Record, Beside, Run}
use Rattle.fw_disk.specs.FolderCalls.{FolderCall, made, appended, flushed, linked, renamed, removed, folder_flushed, seen_empty, is_place, is_of_run, is_beside_run, IsRefused, AreOfRun, AreBesideRun}
use Rattle.fw_disk.specs.PowerLoss.{Disk, DiskFile, kept, written, grown, torn, flush_of, longer_by, Becomes, MayBeThere, MayBeLeft, is_settled, AtEachMoment}
use Rattle.fw_disk.specs.RunLines.{digest_line}
use Rattle.fw_disk.specs.Survival.{EndsIn, IsLineWritten, IsRunFileKnown, IsWithLine}
use Rattle.fw_disk.proofs.Moments.{both, last, touches, untouched, run_untouched, left_before, settled_there}

-- ---- calls of other files than `run`

away : (b : Bool) → not b ≡ true → b ≡ false
away true e = absurd (cc)
away false e = refl

pub beside_untouched : (call : FolderCall) → is_beside_run call ≡ true → touches call Run ≡ false
beside_untouched (made place bytes done) e = away (is_place Run place) e
beside_untouched (appended place bytes done) e = away (is_place Run place) e
beside_untouched (flushed place done) e = away (is_place Run place) e
beside_untouched (linked from to done) e = away (is_place Run to) e
beside_untouched (renamed from to done) e = away (is_place Run from || is_place Run to) e
beside_untouched (removed place done) e = away (is_place Run place) e
beside_untouched (folder_flushed done) e = refl
beside_untouched (seen_empty place) e = away (is_place Run place) e

pub none_beside : (h : List FolderCall) → AreBesideRun h h
none_beside h = record { since = []; history = refl; beside = refl }

pub one_beside : (old new : List FolderCall) (call : FolderCall) → is_beside_run call ≡ true → new ≡ call ∷ old → AreBesideRun old new
one_beside old new call of e = record { since = call ∷ []; history = e; beside = (λ i. of i && true) }

pub then_beside : (a b c : List FolderCall) → AreBesideRun a b → AreBesideRun b c → AreBesideRun a c
then_beside a b c m n = record { since = n.since ++ m.since; history = n.history ∙ ap (λ h. n.since ++ h) m.history ∙ sym (append_assoc n.since m.since a); beside = all n.since n.beside }
  where
    all : (since : List FolderCall) → list_all is_beside_run since ≡ true → list_all is_beside_run (since ++ m.since) ≡ true
    all [] e = m.beside
    all (call ∷ since) e =
        let b = both (is_beside_run call) (list_all is_beside_run since) e in
        (λ i. b.0 i && all since b.1 i)

pub made_beside_run : (id : ℕ) (bytes : List ℕ) (done : Bool) (old new : List FolderCall) → new ≡ flushed (Record id) done ∷ made (Record id) bytes true ∷ old → AreBesideRun old new
made_beside_run id bytes done old new e =
    then_beside old (made (Record id) bytes true ∷ old) new (one_beside old (made (Record id) bytes true ∷ old) (made (Record id) bytes true) refl refl)
    (one_beside (made (Record id) bytes true ∷ old) new (flushed (Record id) done) refl e)

pub refused_beside_run : (id : ℕ) (bytes : List ℕ) (old new : List FolderCall) → IsRefused (Record id) bytes old new → AreBesideRun old new
refused_beside_run id bytes old new r = ⊎_elim (one_beside old new (made (Record id) bytes false) refl) (made_beside_run id bytes false old new) r

-- ---- what is left of the record and of `run`

module _ (id : ℕ) (contents line : List ℕ) (start : Disk) (old : List FolderCall) where
  abbrev pub At : List FolderCall → Type 0
  At = IsWithLine id contents line start old

  -- the record is as it was, so far
  abbrev pub SameSoFar : List FolderCall → Type 0
  SameSoFar h = (found : Option (List ℕ)) → MayBeLeft start h (Record id) found → MayBeLeft start old (Record id) found

  -- `run` ends in the line
  abbrev pub HasLine : List FolderCall → Type 0
  HasLine h = (text : List ℕ) → MayBeLeft start h Run (Some text) → EndsIn line text

  abbrev pub Moments : List FolderCall → Type 0
  Moments h = AtEachMoment At old h

  one_more : (h new : List FolderCall) (call : FolderCall) → new ≡ call ∷ h → Moments h → At new → Moments new
  one_more h new call e m at =
      let is = e ∙ ap (λ (h : List FolderCall). call ∷ h) m.history in
      record { since = call ∷ m.since; history = is; each = (subst At is at, m.each) }

  -- before the line is written
  abbrev pub Early : List FolderCall → Type 0
  Early h = Moments h × SameSoFar h

  pub early_start : Early old
  early_start = (record { since = []; history = refl; each = (λ left. inl left) }, λ found left. left)

  pub early_next : (h new : List FolderCall) (call : FolderCall) → touches call (Record id) ≡ false → new ≡ call ∷ h → Early h → Early new
  early_next h new call t e early =
      let same : SameSoFar (call ∷ h) = λ found left. early.1 found (left_before start call h (Record id) found t left) in
      let here = subst SameSoFar (sym e) same in
      (one_more h new call e early.0 (λ left. inl (here (Some contents) left)), here)

  pub early_run : (h new : List FolderCall) → AreOfRun h new → Early h → Early new
  early_run h new m early = subst Early (sym m.history) (go m.since m.of_run)
    where
      go : (since : List FolderCall) → list_all is_of_run since ≡ true → Early (since ++ h)
      go [] e = early
      go (call ∷ since) e =
          let b = both (is_of_run call) (list_all is_of_run since) e in
          early_next (since ++ h) ((call ∷ since) ++ h) call (run_untouched call id b.0).0 refl (go since b.1)

  -- and from then on
  abbrev pub Late : List FolderCall → Type 0
  Late h = Moments h × HasLine h

  pub late_next : (h new : List FolderCall) (call : FolderCall) → touches call Run ≡ false → new ≡ call ∷ h → Late h → Late new
  late_next h new call t e late =
      let has : HasLine (call ∷ h) = λ text left. late.1 text (left_before start call h Run (Some text) t left) in
      let here = subst HasLine (sym e) has in
      (one_more h new call e late.0 (λ left. inr here), here)

  pub late_all : (h new : List FolderCall) → AreBesideRun h new → Late h → Late new
  late_all h new m late = subst Late (sym m.history) (go m.since m.beside)
    where
      go : (since : List FolderCall) → list_all is_beside_run since ≡ true → Late (since ++ h)
      go [] e = late
      go (call ∷ since) e =
          let b = both (is_beside_run call) (list_all is_beside_run since) e in
          late_next (since ++ h) ((call ∷ since) ++ h) call (beside_untouched call b.0) refl (go since b.1)

  -- nothing was called, and the file beside is taken away
  pub still_line : (new : List FolderCall) → new ≡ old → Moments new
  still_line new e = record { since = []; history = e; each = (λ left. inl left) }

  pub then_removed : (h new : List FolderCall) (done : Bool) → new ≡ removed (Beside id) done ∷ h → Moments h → Moments new
  then_removed h new done e m = one_more h new (removed (Beside id) done) e m (subst At (sym e) (λ left.
      ⊎_elim (λ l. inl l)
      (λ (has : HasLine h). inr (λ text there. has text (left_before start (removed (Beside id) done) h Run (Some text) refl there)))
      (last At old h m (left_before start (removed (Beside id) done) h (Record id) (Some contents) refl left))))

  -- ---- the line is written

  known_after : (h : List FolderCall) (call : FolderCall) → touches call Run ≡ false → is_settled Run ((call ∷ h) ++ start.earlier) ≡ is_settled Run (h ++ start.earlier) → IsRunFileKnown start h → IsRunFileKnown start (call ∷ h)
  known_after h call t same known = record { settled = same ∙ known.settled; known = λ most there. known.known most (untouched (MayBeThere start h) call Run (Some (torn most)) t there) }

  -- the file beside was made
  pub known_made : (gone made_file : List FolderCall) (done : Bool) → gone ≡ removed (Beside id) done ∷ old → made_file ≡ flushed (Beside id) true ∷ made (Beside id) contents true ∷ gone
      → IsRunFileKnown start old → IsRunFileKnown start made_file
  known_made gone made_file done r e known =
      let a = subst (IsRunFileKnown start) (sym r) (known_after old (removed (Beside id) done) refl refl known) in
      let b = known_after gone (made (Beside id) contents true) refl refl a in
      subst (IsRunFileKnown start) (sym e) (known_after (made (Beside id) contents true ∷ gone) (flushed (Beside id) true) refl refl b)

  pub early_made : (gone made_file : List FolderCall) (done : Bool) → gone ≡ removed (Beside id) done ∷ old → made_file ≡ flushed (Beside id) true ∷ made (Beside id) contents true ∷ gone → Early made_file
  early_made gone made_file done r e =
      early_next (made (Beside id) contents true ∷ gone) made_file (flushed (Beside id) true) refl e
      (early_next gone (made (Beside id) contents true ∷ gone) (made (Beside id) contents true) refl refl (early_next old gone (removed (Beside id) done) refl r early_start))

  pub early_refused : (gone new : List FolderCall) (done : Bool) → gone ≡ removed (Beside id) done ∷ old → IsRefused (Beside id) contents gone new → Early new
  early_refused gone new done r refused =
      let early = early_next old gone (removed (Beside id) done) refl r early_start in
      ⊎_elim (λ e. early_next gone new (made (Beside id) contents false) refl e early)
      (λ e. early_next (made (Beside id) contents true ∷ gone) new (flushed (Beside id) false) refl e
      (early_next gone (made (Beside id) contents true ∷ gone) (made (Beside id) contents true) refl refl early)) refused

-- what is found of a file that was made longer and flushed ends in what came behind
behind : (line bytes text was : List ℕ) → EndsIn line bytes → Some text ≡ Some (was ++ bytes) → EndsIn line text
behind line bytes text was in_line e = (was ++ in_line.0, inside e ∙ ap (λ x. was ++ x) in_line.1 ∙ sym (append_assoc was in_line.0 line))
  where
    inside : Some text ≡ Some (was ++ bytes) → text ≡ was ++ bytes
    inside e = cc

ends : (line bytes text : List ℕ) (file : DiskFile) → EndsIn line bytes → ((most : ℕ) → file ≡ torn most → ⊥) → Becomes (Some (flush_of (longer_by bytes file))) (Some text) → EndsIn line text
ends line bytes text (kept was) in_line known b = behind line bytes text was in_line b
ends line bytes text (written was) in_line known b = behind line bytes text was in_line b
ends line bytes text (grown was more) in_line known b = behind line bytes text (was ++ more) in_line (b ∙ ap Some (sym (append_assoc was more bytes)))
ends line bytes text (torn most) in_line known b = absurd (known most refl)

line_left : (id : ℕ) (digest : List ℕ) (start : Disk) (mid new : List FolderCall) → IsRunFileKnown start mid → IsLineWritten true id digest mid new
    → (text : List ℕ) → MayBeLeft start new Run (Some text) → EndsIn (digest_line id digest) text
line_left id digest start mid new known line text left =
    let bytes = line.0 in
    let longer : List FolderCall = flushed Run true ∷ appended Run bytes true ∷ mid in
    let here : MayBeLeft start longer Run (Some text) = subst (λ h. MayBeLeft start h Run (Some text)) line.2 left in
    let flushed_file = settled_there start (longer ++ start.earlier) Run here.0 known.settled here.1 in
    let longer_file = flushed_file.1 in
    let was = longer_file.0 in
    ends (digest_line id digest) bytes text was line.1 (λ most e. known.known most (subst (λ file. MayBeThere start mid Run (Some file)) e longer_file.1))
    (subst (λ f. Becomes f (Some text)) (flushed_file.2 ∙ ap (λ file. Some (flush_of file)) (inside flushed_file.0 (longer_by bytes was) longer_file.2)) here.2)
  where
    inside : (a b : DiskFile) → Some a ≡ Some b → a ≡ b
    inside a b e = cc

pub told : (id : ℕ) (contents digest : List ℕ) (start : Disk) (old mid new : List FolderCall) → Early id contents (digest_line id digest) start old mid → AreOfRun mid new
    → IsRunFileKnown start mid → IsLineWritten true id digest mid new → Late id contents (digest_line id digest) start old new
told id contents digest start old mid new early of_run known line =
    ((early_run id contents (digest_line id digest) start old mid new of_run early).0, line_left id digest start mid new known line)
