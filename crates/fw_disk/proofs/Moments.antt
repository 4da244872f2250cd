-- What each call may leave, and the moments of calls one after the other.
use Rattle.std.proofs.Common.{◌≡◌, ◌⊎◌, inl, inr, ⊎_elim, ℕ, ◌==◌, Bool, true, false, ◌&&◌, ◌||◌, List, [], ◌∷◌, ◌++◌, Option, Some, None, refl, sym, ap, subst, ◌∙◌, eqb-true, eq-eqb, append_assoc}
use Rattle.std.specs.List.{list_all}
use Rattle.fw_disk.specs.declared.cause.DiskPlace.{DiskPlace}
use Rattle.fw_disk.specs.declared.cause.DiskPlace.TheVariants.{Folder, Record, Beside, Run, RunBeside}
use Rattle.fw_disk.specs.FolderCalls.{FolderCall, made, appended, flushed, linked, renamed, removed, folder_flushed, seen_empty, is_place, is_run, is_of_run, AreOfRun}
use Rattle.fw_disk.specs.PowerLoss.{Disk, DiskFile, Becomes, Possible, Either, MayVanish, after_call, ThereAfter, is_settled, LastsAfter, MayBeThere, MayLast, MayBeLeft, EachMoment, AtEachMoment}
use Rattle.fw_disk.specs.Survival.{IsNoRecord, MayHaveNone, IsOldOr}

-- ---- one of two, by a test

pub on_either : (b : Bool) (A B C : Type 0) → Either b A B → (b ≡ true → A → C) → (B → C) → C
on_either true A B C e here other = here refl e
on_either false A B C e here other = other e

pub at_same : (i : ℕ) (A B : Type 0) → Either (i == i) A B → A
at_same i A B e = subst (λ b. Either b A B) (eq-eqb i i refl) e

second : (b : Bool) (A B : Type 0) → b ≡ false → Either b A B → B
second b A B f e = subst (λ b. Either b A B) f e

-- ---- what a call leaves alone

-- whether a call says something of a place
abbrev pub touches : FolderCall → DiskPlace → Bool
touches (made place bytes done) other = is_place other place
touches (appended place bytes done) other = is_place other place
touches (flushed place done) other = is_place other place
touches (linked from to done) other = is_place other to
touches (renamed from to done) other = is_place other from || is_place other to
touches (removed place done) other = is_place other place
touches (folder_flushed done) other = false
touches (seen_empty place) other = is_place other place

neither : (a b : Bool) → (a || b) ≡ false → (a ≡ false) × (b ≡ false)
neither true b e = absurd (cc)
neither false b e = (refl, e)

pub untouched : (before : Possible) (call : FolderCall) (other : DiskPlace) (f : Option DiskFile) → touches call other ≡ false → after_call call before other f → before other f
untouched before (made place bytes true) other f t s = second (is_place other place) _ _ t s
untouched before (made place bytes false) other f t s = second (is_place other place) _ _ t s
untouched before (appended place bytes true) other f t s = second (is_place other place) _ _ t s
untouched before (appended place bytes false) other f t s = second (is_place other place) _ _ t s
untouched before (flushed place true) other f t s = second (is_place other place) _ _ t s
untouched before (flushed place false) other f t s = second (is_place other place) _ _ t s
untouched before (linked from to true) other f t s = second (is_place other to) _ _ t s
untouched before (linked from to false) other f t s = second (is_place other to) _ _ t s
untouched before (renamed from to true) other f t s = let n = neither (is_place other from) (is_place other to) t in second (is_place other to) _ _ n.1 (second (is_place other from) _ _ n.0 s)
untouched before (renamed from to false) other f t s = let n = neither (is_place other from) (is_place other to) t in second (is_place other to) _ _ n.1 (second (is_place other from) _ _ n.0 s)
untouched before (removed place true) other f t s = second (is_place other place) _ _ t s
untouched before (removed place false) other f t s = second (is_place other place) _ _ t s
untouched before (folder_flushed done) other f t s = s
untouched before (seen_empty place) other f t s = second (is_place other place) _ _ t s

-- a call of `run` alone is of no record, and of no file beside one
run_apart : (place : DiskPlace) (id : ℕ) → is_run place ≡ true → (is_place (Record id) place ≡ false) × (is_place (Beside id) place ≡ false)
run_apart (Record other) id e = absurd (cc)
run_apart (Beside other) id e = absurd (cc)
run_apart Run id e = (refl, refl)
run_apart RunBeside id e = (refl, refl)
run_apart Folder id e = absurd (cc)

pub both : (a b : Bool) → (a && b) ≡ true → (a ≡ true) × (b ≡ true)
both true b e = (refl, e)
both false b e = absurd (cc)

apart_both : (from to : DiskPlace) (id : ℕ) → (is_run from && is_run to) ≡ true
    → ((is_place (Record id) from || is_place (Record id) to) ≡ false) × ((is_place (Beside id) from || is_place (Beside id) to) ≡ false)
apart_both from to id e =
    let b = both (is_run from) (is_run to) e in
    let x = run_apart from id b.0 in
    let y = run_apart to id b.1 in
    (λ i. x.0 i || y.0 i, λ i. x.1 i || y.1 i)

pub run_untouched : (call : FolderCall) (id : ℕ) → is_of_run call ≡ true → (touches call (Record id) ≡ false) × (touches call (Beside id) ≡ false)
run_untouched (made place bytes done) id e = run_apart place id e
run_untouched (appended place bytes done) id e = run_apart place id e
run_untouched (flushed place done) id e = run_apart place id e
run_untouched (linked from to done) id e = run_apart to id (both (is_run from) (is_run to) e).1
run_untouched (renamed from to done) id e = apart_both from to id e
run_untouched (removed place done) id e = run_apart place id e
run_untouched (folder_flushed done) id e = (refl, refl)
run_untouched (seen_empty place) id e = run_apart place id e

-- ---- what may be there, and what the disk may have

module _ (start : Disk) where
  choose : (b : Bool) (A B : Type 0) → B → Either b B (A ⊎ B)
  choose true A B x = x
  choose false A B x = inr x

  lasts_at : (l : List FolderCall) (place : DiskPlace) (f : Option DiskFile) → ThereAfter start.had l place f → LastsAfter start.had l place f
  lasts_at [] place f s = s
  lasts_at (call ∷ l) place f s = choose (is_settled place (call ∷ l)) (LastsAfter start.had l place f) (ThereAfter start.had (call ∷ l) place f) s

  pub there_lasts : (h : List FolderCall) (place : DiskPlace) (f : Option DiskFile) → MayBeThere start h place f → MayLast start h place f
  there_lasts h place f s = lasts_at (h ++ start.earlier) place f s

  -- what the disk may have under a name that is not settled, it may have still
  earlier : (b : Bool) (A B : Type 0) → b ≡ false → A → Either b B (A ⊎ B)
  earlier true A B e x = absurd (cc)
  earlier false A B e x = inl x

  pub lasts_still : (call : FolderCall) (h : List FolderCall) (place : DiskPlace) (f : Option DiskFile) → is_settled place ((call ∷ h) ++ start.earlier) ≡ false → MayLast start h place f → MayLast start (call ∷ h) place f
  lasts_still call h place f e l = earlier (is_settled place ((call ∷ h) ++ start.earlier)) (MayLast start h place f) (MayBeThere start (call ∷ h) place f) e l

  -- and under one that is settled, it has what is there
  first : (b : Bool) (A B : Type 0) → b ≡ true → Either b B (A ⊎ B) → B
  first true A B e x = x
  first false A B e x = absurd (cc)

  pub settled_there : (l : List FolderCall) (place : DiskPlace) (f : Option DiskFile) → is_settled place l ≡ true → LastsAfter start.had l place f → ThereAfter start.had l place f
  settled_there [] place f e x = x
  settled_there (call ∷ l) place f e x = first (is_settled place (call ∷ l)) (LastsAfter start.had l place f) (ThereAfter start.had (call ∷ l) place f) e x

  -- the names were to be flushed, and that was refused
  pub lasts_refused : (h : List FolderCall) (place : DiskPlace) (f : Option DiskFile) → MayLast start h place f → MayLast start (folder_flushed false ∷ h) place f
  lasts_refused h place f l = by (is_settled place (h ++ start.earlier)) refl
    where
      by : (b : Bool) → is_settled place (h ++ start.earlier) ≡ b → MayLast start (folder_flushed false ∷ h) place f
      by true e = there_lasts (folder_flushed false ∷ h) place f (settled_there (h ++ start.earlier) place f e l)
      by false e = lasts_still (folder_flushed false) h place f e l

  pub parts : (b : Bool) (A B : Type 0) → Either b B (A ⊎ B) → A ⊎ B
  parts true A B x = inr x
  parts false A B x = x

  -- what the disk may have after a call, it may have had before, or it is there now
  pub lasted : (call : FolderCall) (h : List FolderCall) (place : DiskPlace) (f : Option DiskFile) → MayLast start (call ∷ h) place f → MayLast start h place f ⊎ MayBeThere start (call ∷ h) place f
  lasted call h place f = parts (is_settled place ((call ∷ h) ++ start.earlier)) (MayLast start h place f) (MayBeThere start (call ∷ h) place f)

  -- a place that a call says nothing of
  pub left_before : (call : FolderCall) (h : List FolderCall) (place : DiskPlace) (found : Option (List ℕ)) → touches call place ≡ false → MayBeLeft start (call ∷ h) place found → MayBeLeft start h place found
  left_before call h place found t left =
      (left.0, ⊎_elim (λ l. l) (λ s. there_lasts h place left.0 (untouched (MayBeThere start h) call place left.0 t s)) (lasted call h place left.0 left.1), left.2)

-- ---- moments

-- P at the last of the moments
pub last : (P : List FolderCall → Type 0) (old new : List FolderCall) → AtEachMoment P old new → P new
last P old new m = subst P (sym m.history) (first m.since m.each)
  where
    first : (since : List FolderCall) → EachMoment P since old → P (since ++ old)
    first [] each = each
    first (call ∷ since) each = each.0

-- what holds at each moment may be weakened
pub weakened : (P Q : List FolderCall → Type 0) (old new : List FolderCall) → ((h : List FolderCall) → P h → Q h) → AtEachMoment P old new → AtEachMoment Q old new
weakened P Q old new weaker m = record { since = m.since; history = m.history; each = go m.since m.each }
  where
    go : (since : List FolderCall) → EachMoment P since old → EachMoment Q since old
    go [] each = weaker old each
    go (call ∷ since) each = (weaker ((call ∷ since) ++ old) each.0, go since each.1)

-- moments, and then others
pub chained : (P Q : List FolderCall → Type 0) (a b c : List FolderCall) → ((h : List FolderCall) → Q h → P h) → AtEachMoment P a b → AtEachMoment Q b c → AtEachMoment P a c
chained P Q a b c weaker m n = record { since = n.since ++ m.since; history = whole; each = go n.since n.each }
  where
    whole : c ≡ (n.since ++ m.since) ++ a
    whole = n.history ∙ ap (λ h. n.since ++ h) m.history ∙ sym (append_assoc n.since m.since a)

    go : (since : List FolderCall) → EachMoment Q since b → EachMoment P (since ++ m.since) a
    go [] each = m.each
    go (call ∷ since) each =
        (subst P (ap (λ h. (call ∷ since) ++ h) m.history ∙ sym (append_assoc (call ∷ since) m.since a)) (weaker ((call ∷ since) ++ b) each.0), go since each.1)

-- where what may be new under an id may be no record
module _ (MayBeNew : ℕ → Option (List ℕ) → Type 0) (may_be_none : (id : ℕ) (found : Option (List ℕ)) → IsNoRecord found → MayBeNew id found) (start : Disk) where
  abbrev pub Good : List FolderCall → List FolderCall → Type 0
  Good = IsOldOr MayBeNew start

  pub same : (h : List FolderCall) → Good h h
  same h id found left = inl left

  pub through : (a b c : List FolderCall) → Good a b → Good b c → Good a c
  through a b c p q id found left =
      ⊎_elim (p id found)
      (λ (new : MayHaveNone start b id × MayBeNew id found). let none = new.0 in
      ⊎_elim (λ was. inr ((none.0, was, none.2), new.1)) (λ (was : MayHaveNone start a id × MayBeNew id none.0). inr (was.0, new.1)) (p id none.0 none.1))
      (q id found left)

  pub begun : (h : List FolderCall) → AtEachMoment (Good h) h h
  begun h = record { since = []; history = refl; each = same h }

  pub followed : (a b c : List FolderCall) → AtEachMoment (Good a) a b → AtEachMoment (Good b) b c → AtEachMoment (Good a) a c
  followed a b c m n = chained (Good a) (Good b) a b c (λ h. through a b h (last (Good a) a b m)) m n

  -- one call
  pub by_call : (old new : List FolderCall) (call : FolderCall) → new ≡ call ∷ old → Good old (call ∷ old) → AtEachMoment (Good old) old new
  by_call old new call e p = record { since = call ∷ []; history = e; each = (p, same old) }

  -- moments, and one call more
  pub adds : (old mid new : List FolderCall) (call : FolderCall) → AtEachMoment (Good old) old mid → new ≡ call ∷ mid → Good mid (call ∷ mid) → AtEachMoment (Good old) old new
  adds old mid new call m e p = followed old mid new m (by_call mid new call e p)

  -- a call that says nothing of records
  pub quiet : (h : List FolderCall) (call : FolderCall) → ((id : ℕ) → touches call (Record id) ≡ false) → Good h (call ∷ h)
  quiet h call t id found left = inl (left_before start call h (Record id) found (t id) left)

  -- calls of `run` alone
  pub run_moments : (old new : List FolderCall) → AreOfRun old new → AtEachMoment (Good old) old new
  run_moments old new m = record { since = m.since; history = m.history; each = go m.since m.of_run }
    where
      first : (since : List FolderCall) → EachMoment (Good old) since old → Good old (since ++ old)
      first [] each = each
      first (call ∷ since) each = each.0

      go : (since : List FolderCall) → list_all is_of_run since ≡ true → EachMoment (Good old) since old
      go [] e = same old
      go (call ∷ since) e =
          let b = both (is_of_run call) (list_all is_of_run since) e in
          let rest = go since b.1 in
          (through old (since ++ old) ((call ∷ since) ++ old) (first since rest) (quiet (since ++ old) call (λ id. (run_untouched call id b.0).0)), rest)

  -- ---- a call that says something of one record

  abbrev pub Goal : ℕ → Option (List ℕ) → List FolderCall → Type 0
  Goal id found h = MayBeLeft start h (Record id) found ⊎ (MayHaveNone start h id × MayBeNew id found)

  pub was_there : (h : List FolderCall) (id : ℕ) (f : Option DiskFile) (found : Option (List ℕ)) → MayBeThere start h (Record id) f → Becomes f found → Goal id found h
  was_there h id f found s b = inl (f, there_lasts start h (Record id) f s, b)

  pub no_record : (h : List FolderCall) (id : ℕ) (found : Option (List ℕ)) → MayHaveNone start h id → IsNoRecord found → Goal id found h
  no_record h id found none is = inr (none, may_be_none id found is)

  pub may_have_none : (h : List FolderCall) (id : ℕ) → MayLast start h (Record id) None → MayHaveNone start h id
  may_have_none h id l = (None, (None, l, refl), inl refl)

  pub none_there : (h : List FolderCall) (id : ℕ) → MayBeThere start h (Record id) None → MayHaveNone start h id
  none_there h id s = may_have_none h id (there_lasts start h (Record id) None s)

  pub at_record : (h : List FolderCall) (call : FolderCall) (id : ℕ) (Now : Option DiskFile → Type 0)
      → ((other : ℕ) (f : Option DiskFile) → MayBeThere start (call ∷ h) (Record other) f → Either (other == id) (Now f) (MayBeThere start h (Record other) f))
      → ((f : Option DiskFile) (found : Option (List ℕ)) → Now f → Becomes f found → Goal id found h) → Good h (call ∷ h)
  at_record h call id Now is now other found left =
      ⊎_elim (λ l. inl (left.0, l, left.2))
      (λ s. on_either (other == id) (Now left.0) (MayBeThere start h (Record other) left.0) (Goal other found h) (is other left.0 s)
      (λ e n. subst (λ i. Goal i found h) (sym (eqb-true other id e)) (now left.0 found n left.2))
      (λ t. was_there h other left.0 found t left.2))
      (lasted start call h (Record other) left.0 left.1)

  -- a record's name is taken away, where there may have been no record
  pub at_removed : (h : List FolderCall) (id : ℕ) (done : Bool) → ((f : Option DiskFile) → MayBeThere start h (Record id) f → MayHaveNone start h id) → Good h (removed (Record id) done ∷ h)
  at_removed h id true free = at_record h (removed (Record id) true) id (MayVanish (MayBeThere start h) (Record id)) (λ other f s. s) (gone h id free)
    where
      gone : (h : List FolderCall) (id : ℕ) → ((f : Option DiskFile) → MayBeThere start h (Record id) f → MayHaveNone start h id)
          → (f : Option DiskFile) (found : Option (List ℕ)) → MayVanish (MayBeThere start h) (Record id) f → Becomes f found → Goal id found h
      gone h id free f found g b = no_record h id found (free (Some g.0) g.1) (inl (subst (λ f. Becomes f found) g.2 b))
  at_removed h id false free =
      at_record h (removed (Record id) false) id (λ f. MayBeThere start h (Record id) f ⊎ MayVanish (MayBeThere start h) (Record id) f) (λ other f s. s)
      (λ f found n b. ⊎_elim (λ s. was_there h id f found s b) (λ (g : MayVanish (MayBeThere start h) (Record id) f). no_record h id found (free (Some g.0) g.1) (inl (subst (λ f. Becomes f found) g.2 b))) n)

  -- a record's file was seen to have no bytes
  pub at_seen_empty : (h : List FolderCall) (id : ℕ) → Good h (seen_empty (Record id) ∷ h)
  at_seen_empty h id =
      at_record h (seen_empty (Record id)) id (λ f. MayBeThere start h (Record id) f × Becomes f (Some [])) (λ other f s. s) (λ f found n b. was_there h id f found n.0 b)

  pub free_when_empty : (h : List FolderCall) (id : ℕ) (f : Option DiskFile) → MayBeThere start (seen_empty (Record id) ∷ h) (Record id) f → MayHaveNone start (seen_empty (Record id) ∷ h) id
  free_when_empty h id f s =
      (Some [], (f, there_lasts start (seen_empty (Record id) ∷ h) (Record id) f s, (at_same id _ _ s).1), inr refl)
