-- What the store tells is on the disk, and no file under an id is torn: call by call.
use Rattle.std.proofs.Common.{◌≡◌, ◌⊎◌, inl, inr, ⊎_elim, ℕ, ◌==◌, ◌||◌, Bool, true, false, cond, if◌then◌else◌, List, [], ◌∷◌, ◌++◌, Option, Some, None, IfSome, refl, sym, ap, subst, ◌∙◌, eqb-true, eq-eqb}
use Rattle.std.specs.Cmp.{nat_cmp_total, unsigned_tied}
use Rattle.std.specs.Ordering.{nat_cmp}
use Rattle.std.specs.FinMap.{get, insert, remove, empty, get-empty, get-insert, get-remove}
use Rattle.fw_heard.specs.Note.{Note, note_of}
use Rattle.fw_disk.specs.declared.cause.DiskPlace.TheVariants.{Record}
use Rattle.fw_disk.specs.Contents.{contents_of}
use Rattle.fw_disk.specs.FolderCalls.{FolderCall, folder_flushed}
use Rattle.fw_disk.specs.PowerLoss.{Disk, MayBeLeft, EachMoment, AtEachMoment}
use Rattle.fw_disk.specs.Survival.{IsNoRecord, MayHaveNone, IsOldOr, IsOld, MayBePut, IsOldOrNew, IsOldOrGone, IsOnDisk, Survive, IsWhole, StayWhole}
use Rattle.fw_disk.specs.Told.{Held, told_by, is_doubtful}
use Rattle.fw_disk.proofs.ToldLaws.{opened_from, told_gave, told_put, told_removed, given_from, of_map}

-- ---- options, and what is under an id

none-some : {T : Type 0} (x : T) → ◌≡◌ {A = Option T} None (Some x) → ⊥
none-some x e = cc

some-inj : {T : Type 0} (x y : T) → Some x ≡ Some y → x ≡ y
some-inj x y e = cc

get_put : (m : Held) (k : ℕ) (v : List ℕ) (q : ℕ) → get (insert m k v) q ≡ cond (q == k) (Some v) (get m q)
get_put m k v q = get-insert nat_cmp_total m k v q ∙ ap (λ b. cond b (Some v) (get m q)) (unsigned_tied q k)

get_removed : (m : Held) (k q : ℕ) → get (remove m k) q ≡ cond (q == k) None (get m q)
get_removed m k q = get-remove nat_cmp_total m k q ∙ ap (λ b. cond b None (get m q)) (unsigned_tied q k)

-- a choice that came out so
picked : (b : Bool) (x y z : Option (List ℕ)) → cond b x y ≡ z → ((b ≡ true) × (x ≡ z)) ⊎ ((b ≡ false) × (y ≡ z))
picked true x y z e = inl (refl, e)
picked false x y z e = inr (refl, e)

not_both : (b : Bool) → b ≡ true → b ≡ false → ⊥
not_both true t f = let e : true ≡ false = f in cc
not_both false t f = let e : false ≡ true = t in cc

-- ---- where a record is on the disk, there is one

-- the file of a record has bytes
has_bytes : (bytes : List ℕ) → contents_of bytes ≡ [] → ⊥
has_bytes bytes e = cc

no_none : (start : Disk) (h : List FolderCall) (id : ℕ) (bytes : List ℕ) → IsOnDisk id (contents_of bytes) start h → MayHaveNone start h id → ⊥
no_none start h id bytes on none =
    let is = on none.0 none.1 in
    ⊎_elim (λ e. none-some (contents_of bytes) (sym e ∙ is)) (λ e. has_bytes bytes (some-inj (contents_of bytes) [] (sym is ∙ e))) none.2

still_on : (MayBeNew : ℕ → Option (List ℕ) → Type 0) (start : Disk) (before now : List FolderCall) → IsOldOr MayBeNew start before now → (id : ℕ) (bytes : List ℕ)
    → IsOnDisk id (contents_of bytes) start before → IsOnDisk id (contents_of bytes) start now
still_on MayBeNew start before now old id bytes on found left =
    ⊎_elim (on found) (λ (new : MayHaveNone start before id × MayBeNew id found). absurd (no_none start before id bytes on new.0)) (old id found left)

still_on_removed : (gone : ℕ) (start : Disk) (before now : List FolderCall) → IsOldOrGone gone start before now → (id : ℕ) (bytes : List ℕ) → (id ≡ gone → ⊥)
    → IsOnDisk id (contents_of bytes) start before → IsOnDisk id (contents_of bytes) start now
still_on_removed gone start before now old id bytes apart on found left =
    ⊎_elim (on found)
    (λ (new : ((id ≡ gone) ⊎ MayHaveNone start before id) × IsNoRecord found). absurd (⊎_elim apart (no_none start before id bytes on) new.0))
    (old id found left)

-- ---- what the store tells

module _ (first : Option Held) where
  at_first : (found : List Note) (held : Held) (o : Option Held) → told_by o (note_of (4 ∷ []) [] ∷ found) ≡ Some held → o ≡ Some held
  at_first found held None e = absurd (none-some held e)
  at_first found held (Some f) e = ap Some (opened_from f found held e).1

  -- when the folder was opened, and its names flushed
  pub opened_survive : (found : List Note) (calls : List FolderCall) → ((start : Disk) → IsOld start (folder_flushed true ∷ []) calls) → Survive first (note_of (4 ∷ []) [] ∷ found) calls
  opened_survive found calls old start files held told id bytes is sure =
      still_on (λ other left. IsNoRecord left) start (folder_flushed true ∷ []) calls (old start) id bytes (files held (at_first found held first told) id bytes is)

  -- of a folder that held no record
  pub new_survive : (calls : List FolderCall) → IfSome first (λ held. held ≡ empty) → Survive first (note_of (4 ∷ []) [] ∷ []) calls
  new_survive calls none start files held told id bytes is sure =
      let held_none : held ≡ empty = subst (λ o. IfSome o (λ h. h ≡ empty)) (at_first [] held first told) none in
      absurd (none-some bytes (sym (get-empty nat_cmp id) ∙ ap (λ h. get h id) (sym held_none) ∙ is))

  module _ (heard : List Note) (before now : List FolderCall) (so_far : Survive first heard before) where
    -- no more is told, no less is in doubt, and what a loss of power leaves is old, or new where there may have been no record
    pub kept_survive : (MayBeNew : ℕ → Option (List ℕ) → Type 0) (new : List Note) → ((held : Held) → told_by first new ≡ Some held → told_by first heard ≡ Some held)
        → ((id : ℕ) → is_doubtful new id ≡ false → is_doubtful heard id ≡ false) → ((start : Disk) → IsOldOr MayBeNew start before now) → Survive first new now
    kept_survive MayBeNew new told_before sure_before old start files held told id bytes is sure =
        still_on MayBeNew start before now (old start) id bytes (so_far start files held (told_before held told) id bytes is (sure_before id sure))

    pub same_survive : (MayBeNew : ℕ → Option (List ℕ) → Type 0) → ((start : Disk) → IsOldOr MayBeNew start before now) → Survive first heard now
    same_survive MayBeNew = kept_survive MayBeNew heard (λ held t. t) (λ id s. s)

    -- bytes were given
    pub gave_survive : (id : ℕ) (bytes : List ℕ) → Survive first (note_of (1 ∷ id ∷ []) bytes ∷ heard) before
    gave_survive id bytes start files held told other held_bytes is sure =
        so_far start files held (given_from id bytes (told_by first heard) held (sym (told_gave first heard id bytes) ∙ told)).0 other held_bytes is sure

    -- a record was put
    pub put_survives : (id : ℕ) (put : List ℕ) → ((start : Disk) → IsOldOrNew id (contents_of put) start before now) → ((start : Disk) → IsOnDisk id (contents_of put) start now)
        → Survive first (note_of (0 ∷ id ∷ []) put ∷ heard) now
    put_survives id put old on start files held told other bytes is sure =
        let was = of_map (λ h. insert h id put) (told_by first heard) held (sym (told_put first heard id put) ∙ told) in
        ⊎_elim
        (λ (here : ((other == id) ≡ true) × (Some put ≡ Some bytes)).
        subst (λ i. IsOnDisk i (contents_of bytes) start now) (sym (eqb-true other id here.0)) (subst (λ b. IsOnDisk id (contents_of b) start now) (some-inj put bytes here.1) (on start)))
        (λ (there : ((other == id) ≡ false) × (get was.0 other ≡ Some bytes)).
        still_on (MayBePut id (contents_of put)) start before now (old start) other bytes (so_far start files was.0 was.1 other bytes there.1 (clear (id == other) (is_doubtful heard other) (apart there.0) sure)))
        (picked (other == id) (Some put) (get was.0 other) (Some bytes) (sym (get_put was.0 id put other) ∙ ap (λ m. get m other) was.2 ∙ is))
      where
        apart : (other == id) ≡ false → (id == other) ≡ false
        apart f = by (id == other) refl
          where
            by : (b : Bool) → (id == other) ≡ b → b ≡ false
            by true e = absurd (not_both (other == id) (eq-eqb other id (sym (eqb-true id other e))) f)
            by false e = refl

        clear : (b d : Bool) → b ≡ false → (if b then false else d) ≡ false → d ≡ false
        clear true d f e = absurd (not_both true refl f)
        clear false d f e = e

    -- a record was removed
    pub removal_survived : (id : ℕ) → ((start : Disk) → IsOldOrGone id start before now) → Survive first (note_of (2 ∷ id ∷ []) [] ∷ heard) now
    removal_survived id old start files held told other bytes is sure =
        let was = of_map (λ h. remove h id) (told_by first heard) held (sym (told_removed first heard id) ∙ told) in
        ⊎_elim (λ (here : ((other == id) ≡ true) × (None ≡ Some bytes)). absurd (none-some bytes here.1))
        (λ (there : ((other == id) ≡ false) × (get was.0 other ≡ Some bytes)).
        still_on_removed id start before now (old start) other bytes (λ e. not_both (other == id) (eq-eqb other id e) there.0) (so_far start files was.0 was.1 other bytes there.1 sure))
        (picked (other == id) None (get was.0 other) (Some bytes) (sym (get_removed was.0 id other) ∙ ap (λ m. get m other) was.2 ∙ is))

    -- a removal was refused
    pub refusal_survived : (id : ℕ) → ((start : Disk) → IsOldOrGone id start before now) → Survive first (note_of (5 ∷ id ∷ []) [] ∷ heard) now
    refusal_survived id old start files held told other bytes is sure =
        let clear = parts (id == other) (is_doubtful heard other) sure in
        still_on_removed id start before now (old start) other bytes (λ e. not_both (id == other) (eq-eqb id other (sym e)) clear.0) (so_far start files held (still first told) other bytes is clear.1)
      where
        still : (o : Option Held) → told_by o (note_of (5 ∷ id ∷ []) [] ∷ heard) ≡ Some held → told_by o heard ≡ Some held
        still None e = e
        still (Some f) e = e

        parts : (b d : Bool) → (b || d) ≡ false → (b ≡ false) × (d ≡ false)
        parts true d e = absurd (not_both true refl e)
        parts false d e = (refl, e)

-- ---- whole files

-- a moment of the calls so far and of these is one of these, or one before them
moment_of : (P : List FolderCall → Type 0) (since old : List FolderCall) → EachMoment P since old → (later moment : List FolderCall) → since ++ old ≡ later ++ moment → P moment ⊎ ((earlier : List FolderCall) × (old ≡ earlier ++ moment))
moment_of P [] old each later moment e = inr (later, e)
moment_of P (call ∷ since) old each [] moment e = inl (subst P e each.0)
moment_of P (call ∷ since) old each (other ∷ later) moment e = let tails : since ++ old ≡ later ++ moment = cc in moment_of P since old each.1 later moment tails

-- at first
pub whole_at_first : (calls : List FolderCall) → calls ≡ [] → StayWhole calls
whole_at_first calls none start files later moment e id contents left =
    files id contents (subst (λ h. MayBeLeft start h (Record id) (Some contents)) (nothing_behind later moment (sym e ∙ none)) left)
  where
    nothing_behind : (later moment : List FolderCall) → later ++ moment ≡ [] → moment ≡ []
    nothing_behind [] moment e = e
    nothing_behind (call ∷ later) moment e = absurd (cc)

-- and in each call
module _ (before now : List FolderCall) (so_far : StayWhole before) where
  -- where each moment of a call leaves what one before might have left, or whole files
  whole : (P : Disk → List FolderCall → Type 0) → ((start : Disk) → AtEachMoment (P start) before now)
      → ((start : Disk) (moment : List FolderCall) → P start moment → (id : ℕ) (contents : List ℕ) → MayBeLeft start moment (Record id) (Some contents) → MayBeLeft start before (Record id) (Some contents) ⊎ IsWhole contents)
      → StayWhole now
  whole P moments leaves start files later moment e id contents left =
      let m = moments start in
      ⊎_elim (λ here. ⊎_elim (so_far start files [] before refl id contents) (λ file. file) (leaves start moment here id contents left)) (λ (old : _). so_far start files old.0 moment old.1 id contents left)
      (moment_of (P start) m.since before m.each later moment (sym m.history ∙ e))

  empty_whole : (contents : List ℕ) → IsNoRecord (Some contents) → IsWhole contents
  empty_whole contents is = ⊎_elim (λ e. absurd (none-some contents (sym e))) (λ e. ∣ inl (some-inj contents [] e) ∣₁) is

  pub old_whole : ((start : Disk) → AtEachMoment (IsOld start before) before now) → StayWhole now
  old_whole moments =
      whole (λ start. IsOld start before) moments
      (λ start moment here id contents left. ⊎_elim (λ old. inl old) (λ (new : MayHaveNone start before id × IsNoRecord (Some contents)). inr (empty_whole contents new.1)) (here id (Some contents) left))

  pub put_whole : (id : ℕ) (put : List ℕ) → ((start : Disk) → AtEachMoment (IsOldOrNew id (contents_of put) start before) before now) → StayWhole now
  put_whole id put moments =
      whole (λ start. IsOldOrNew id (contents_of put) start before) moments
      (λ start moment here other contents left. ⊎_elim (λ old. inl old)
      (λ (new : MayHaveNone start before other × (IsNoRecord (Some contents) ⊎ ((other ≡ id) × (Some contents ≡ Some (contents_of put))))).
      inr (⊎_elim (empty_whole contents) (λ (file : (other ≡ id) × (Some contents ≡ Some (contents_of put))). ∣ inr (put, some-inj contents (contents_of put) file.1) ∣₁) new.1))
      (here other (Some contents) left))

  pub removal_whole : (id : ℕ) → ((start : Disk) → AtEachMoment (IsOldOrGone id start before) before now) → StayWhole now
  removal_whole id moments =
      whole (λ start. IsOldOrGone id start before) moments
      (λ start moment here other contents left. ⊎_elim (λ old. inl old)
      (λ (new : ((other ≡ id) ⊎ MayHaveNone start before other) × IsNoRecord (Some contents)). inr (empty_whole contents new.1))
      (here other (Some contents) left))
