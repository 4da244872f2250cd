-- The moments of a put under an id, and of a removal.
use Rattle.std.proofs.Common.{◌≡◌, ◌⊎◌, inl, inr, ⊎_elim, ℕ, ◌==◌, ◌≤◌, Bool, true, false, not, ◌&&◌, List, [], ◌∷◌, ◌++◌, length, Option, Some, None, refl, sym, ap, subst, ◌∙◌, eqb-true, eq-eqb, arith}
use Rattle.std.specs.List.{list_all}
use Rattle.fw_disk.specs.declared.cause.DiskPlace.TheVariants.{Record, Beside}
use Rattle.fw_disk.specs.FolderCalls.{FolderCall, made, flushed, linked, renamed, removed, folder_flushed, seen_empty, is_of_run, IsRefused, AreOfRun}
use Rattle.fw_disk.specs.PowerLoss.{Disk, DiskFile, kept, written, torn, most_of, flush_of, IsUpTo, Becomes, MayBecome, MayVanish, MayBeThere, MayLast, MayBeLeft, AtEachMoment}
use Rattle.fw_disk.specs.Survival.{IsNoRecord, MayHaveNone, IsOld, MayBePut, IsOldOrNew, IsOldOrGone, IsOnDisk, IsGone, IsBesideFlushed, IsNamed}
use Rattle.fw_disk.proofs.Moments.{both, at_same, on_either, untouched, run_untouched, there_lasts, lasts_still, lasts_refused, lasted, left_before, last, weakened, chained, begun, followed, by_call, adds, quiet, run_moments, no_record, was_there, may_have_none, none_there, at_record, at_removed, at_seen_empty, free_when_empty}

-- a file that may have no bytes has none
empty_found : (found : Option (List ℕ)) → IsUpTo 0 found → found ≡ Some []
empty_found found up = up.1 ∙ ap Some (none up.0 up.2)
  where
    none : (bytes : List ℕ) → length bytes ≤ 0 → bytes ≡ []
    none [] l = refl
    none (x ∷ bytes) l = absurd (omega arith)

-- a call that gives a record its name, or takes it, leaves the name unsettled
named_now : (id : ℕ) (b : Bool) → (not (id == id) && b) ≡ false
named_now id b = λ i. not (eq-eqb id id refl i) && b

some_same : (a b : DiskFile) → Some a ≡ Some b → a ≡ b
some_same a b e = cc

module _ (id : ℕ) (contents : List ℕ) (start : Disk) where
  abbrev pub New : ℕ → Option (List ℕ) → Type 0
  New other found = MayBePut id contents other found

  may_be_none : (other : ℕ) (found : Option (List ℕ)) → IsNoRecord found → New other found
  may_be_none other found is = inl is

  abbrev pub Puts : List FolderCall → List FolderCall → Type 0
  Puts old new = AtEachMoment (IsOldOrNew id contents start old) old new

  pub then_puts : (a b c : List FolderCall) → Puts a b → Puts b c → Puts a c
  then_puts = followed New may_be_none start

  pub run_puts : (old new : List FolderCall) → AreOfRun old new → Puts old new
  run_puts = run_moments New may_be_none start

  pub still : (h : List FolderCall) → Puts h h
  still = begun New may_be_none start

  -- a call of the file beside
  pub removed_beside : (old new : List FolderCall) (done : Bool) → new ≡ removed (Beside id) done ∷ old → Puts old new
  removed_beside old new done e = by_call New may_be_none start old new (removed (Beside id) done) e (quiet New may_be_none start old (removed (Beside id) done) (λ other. refl))

  made_beside : (old : List FolderCall) (done : Bool) → IsOldOrNew id contents start old (made (Beside id) contents done ∷ old)
  made_beside old done = quiet New may_be_none start old (made (Beside id) contents done) (λ other. refl)

  flushed_beside : (old : List FolderCall) (done : Bool) → IsOldOrNew id contents start old (flushed (Beside id) done ∷ old)
  flushed_beside old done = quiet New may_be_none start old (flushed (Beside id) done) (λ other. refl)

  pub beside_made : (old new : List FolderCall) (done : Bool) → new ≡ flushed (Beside id) done ∷ made (Beside id) contents true ∷ old → Puts old new
  beside_made old new done e =
      adds New may_be_none start old (made (Beside id) contents true ∷ old) new (flushed (Beside id) done)
      (by_call New may_be_none start old (made (Beside id) contents true ∷ old) (made (Beside id) contents true) refl (made_beside old true)) e (flushed_beside (made (Beside id) contents true ∷ old) done)

  pub beside_refused : (old new : List FolderCall) → IsRefused (Beside id) contents old new → Puts old new
  beside_refused old new r = ⊎_elim (λ e. by_call New may_be_none start old new (made (Beside id) contents false) e (made_beside old false)) (λ e. beside_made old new false e) r

  pub beside_ready : (old new : List FolderCall) → new ≡ flushed (Beside id) true ∷ made (Beside id) contents true ∷ old → IsBesideFlushed id contents start new
  beside_ready old new e = subst (IsBesideFlushed id contents start) (sym e) (λ f s.
      let t = at_same id _ _ s in
      let u = at_same id _ _ t.1 in
      t.2 ∙ ap (λ file. Some (flush_of file)) (some_same t.0 (written contents) u.1))

  -- the file beside is as it was after calls of `run` alone
  pub still_ready : (old new : List FolderCall) → AreOfRun old new → IsBesideFlushed id contents start old → IsBesideFlushed id contents start new
  still_ready old new m ready f s = ready f (go m.since m.of_run (subst (λ h. MayBeThere start h (Beside id) f) m.history s))
    where
      go : (since : List FolderCall) → list_all is_of_run since ≡ true → MayBeThere start (since ++ old) (Beside id) f → MayBeThere start old (Beside id) f
      go [] e s = s
      go (call ∷ since) e s =
          let b = both (is_of_run call) (list_all is_of_run since) e in
          go since b.1 (untouched (MayBeThere start (since ++ old)) call (Beside id) f (run_untouched call id b.0).1 s)

  -- ---- the name

  -- what is found of the file beside is the record's file
  whole : (h : List FolderCall) → IsBesideFlushed id contents start h → MayHaveNone start h id → (f : Option DiskFile) (found : Option (List ℕ)) → MayBeThere start h (Beside id) f → Becomes f found
      → MayBeLeft start h (Record id) found ⊎ (MayHaveNone start h id × New id found)
  whole h ready none f found s b = inr (none, inr (refl, subst (λ g. Becomes g found) (ready f s) b))

  at_linked : (h : List FolderCall) (done : Bool) → IsBesideFlushed id contents start h → IsOldOrNew id contents start h (linked (Beside id) (Record id) done ∷ h)
  at_linked h true ready =
      at_record New may_be_none start h (linked (Beside id) (Record id) true) id (λ f. MayBeThere start h (Record id) None × MayBeThere start h (Beside id) f) (λ other f s. s)
      (λ f found n b. whole h ready (none_there New may_be_none start h id n.0) f found n.1 b)
  at_linked h false ready =
      at_record New may_be_none start h (linked (Beside id) (Record id) false) id (λ f. MayBeThere start h (Record id) f ⊎ (MayBeThere start h (Record id) None × MayBeThere start h (Beside id) f)) (λ other f s. s)
      (λ f found n b. ⊎_elim (λ s. was_there New may_be_none start h id f found s b)
      (λ (t : MayBeThere start h (Record id) None × MayBeThere start h (Beside id) f). whole h ready (none_there New may_be_none start h id t.0) f found t.1 b) n)

  pub linked_puts : (old new : List FolderCall) (done : Bool) → new ≡ linked (Beside id) (Record id) done ∷ old → IsBesideFlushed id contents start old → Puts old new
  linked_puts old new done e ready = by_call New may_be_none start old new (linked (Beside id) (Record id) done) e (at_linked old done ready)

  -- the file beside is as it was
  pub linked_ready : (old new : List FolderCall) (done : Bool) → new ≡ linked (Beside id) (Record id) done ∷ old → IsBesideFlushed id contents start old → IsBesideFlushed id contents start new
  linked_ready old new true e ready = subst (IsBesideFlushed id contents start) (sym e) (λ f s. ready f s)
  linked_ready old new false e ready = subst (IsBesideFlushed id contents start) (sym e) (λ f s. ready f s)

  pub linked_named : (old new : List FolderCall) → new ≡ linked (Beside id) (Record id) true ∷ old → IsBesideFlushed id contents start old → IsNamed id contents start new
  linked_named old new e ready = subst (IsNamed id contents start) (sym e) (λ f s.
      let t = at_same id _ _ s in
      (ready f t.1, lasts_still start (linked (Beside id) (Record id) true) old (Record id) None (named_now id _) (there_lasts start old (Record id) None t.0)))

  -- ---- where there are no second names

  abbrev made_empty : List FolderCall → List FolderCall
  made_empty old = made (Record id) [] true ∷ old

  abbrev taken : List FolderCall → List FolderCall
  taken old = flushed (Record id) true ∷ made (Record id) [] true ∷ old

  empty_taken : (old : List FolderCall) (f : Option DiskFile) → MayBeThere start (made_empty old) (Record id) f → MayBeThere start old (Record id) None × (f ≡ Some (written []))
  empty_taken old f s = at_same id _ _ s

  -- what is found of a file that may have no bytes
  none_found : (h : List FolderCall) → MayHaveNone start h id → (f : Option DiskFile) (file : DiskFile) → f ≡ Some file → ((found : Option (List ℕ)) → Becomes (Some file) found → found ≡ Some []) → (found : Option (List ℕ)) → Becomes f found
      → MayBeLeft start h (Record id) found ⊎ (MayHaveNone start h id × New id found)
  none_found h none f file e is found b = no_record New may_be_none start h id found none (inr (is found (subst (λ g. Becomes g found) e b)))

  at_taken : (old : List FolderCall) (done : Bool) → IsOldOrNew id contents start old (made (Record id) [] done ∷ old)
  at_taken old true =
      at_record New may_be_none start old (made (Record id) [] true) id (λ f. MayBeThere start old (Record id) None × (f ≡ Some (written []))) (λ other f s. s)
      (λ f found n b. none_found old (none_there New may_be_none start old id n.0) f (written []) n.1 empty_found found b)
  at_taken old false =
      at_record New may_be_none start old (made (Record id) [] false) id (λ f. MayBeThere start old (Record id) f ⊎ (MayBeThere start old (Record id) None × (f ≡ Some (torn 0)))) (λ other f s. s)
      (λ f found n b. ⊎_elim (λ s. was_there New may_be_none start old id f found s b)
      (λ (t : MayBeThere start old (Record id) None × (f ≡ Some (torn 0))). none_found old (none_there New may_be_none start old id t.0) f (torn 0) t.1 empty_found found b) n)

  -- the disk may have no file there yet
  none_still : (old : List FolderCall) → MayBeThere start old (Record id) None → MayLast start (made_empty old) (Record id) None
  none_still old s = lasts_still start (made (Record id) [] true) old (Record id) None (named_now id _) (there_lasts start old (Record id) None s)

  -- the empty file that took the name is flushed
  may_have_had_none : (old : List FolderCall) (f : Option DiskFile) → MayBeThere start (made_empty old) (Record id) f → MayHaveNone start (made_empty old) id
  may_have_had_none old f s = may_have_none New may_be_none start (made_empty old) id (none_still old (empty_taken old f s).0)

  at_taken_flushed : (old : List FolderCall) (done : Bool) → IsOldOrNew id contents start (made_empty old) (flushed (Record id) done ∷ made_empty old)
  at_taken_flushed old true =
      at_record New may_be_none start (made_empty old) (flushed (Record id) true) id (MayBecome (MayBeThere start (made_empty old)) (Record id) flush_of) (λ other f s. s)
      (λ f found n b. none_found (made_empty old) (may_have_had_none old (Some n.0) n.1) f (kept [])
      (n.2 ∙ ap (λ file. Some (flush_of file)) (some_same n.0 (written []) (empty_taken old (Some n.0) n.1).1)) (λ found e. e) found b)
  at_taken_flushed old false =
      at_record New may_be_none start (made_empty old) (flushed (Record id) false) id
      (λ f. MayBeThere start (made_empty old) (Record id) f ⊎ MayBecome (MayBeThere start (made_empty old)) (Record id) (λ file. torn (most_of file)) f) (λ other f s. s)
      (λ f found n b. ⊎_elim (λ s. was_there New may_be_none start (made_empty old) id f found s b)
      (λ (t : MayBecome (MayBeThere start (made_empty old)) (Record id) (λ file. torn (most_of file)) f).
      none_found (made_empty old) (may_have_had_none old (Some t.0) t.1) f (torn 0)
      (t.2 ∙ ap (λ file. Some (torn (most_of file))) (some_same t.0 (written []) (empty_taken old (Some t.0) t.1).1)) empty_found found b) n)

  pub taken_puts : (old new : List FolderCall) (done : Bool) → new ≡ flushed (Record id) done ∷ made (Record id) [] true ∷ old → Puts old new
  taken_puts old new done e =
      adds New may_be_none start old (made (Record id) [] true ∷ old) new (flushed (Record id) done)
      (by_call New may_be_none start old (made (Record id) [] true ∷ old) (made (Record id) [] true) refl (at_taken old true)) e (at_taken_flushed old done)

  pub not_taken : (old new : List FolderCall) → IsRefused (Record id) [] old new → Puts old new
  not_taken old new r = ⊎_elim (λ e. by_call New may_be_none start old new (made (Record id) [] false) e (at_taken old false)) (λ e. taken_puts old new false e) r

  -- and where something is there, there may have been no record
  taken_from : (old : List FolderCall) (f : Option DiskFile) → MayBeThere start (taken old) (Record id) f → MayBeThere start old (Record id) None
  taken_from old f s =
      let t = at_same id _ _ s in
      (empty_taken old (Some t.0) t.1).0

  taken_free : (old : List FolderCall) (f : Option DiskFile) → MayBeThere start (taken old) (Record id) f → MayLast start (taken old) (Record id) None
  taken_free old f s = lasts_still start (flushed (Record id) true) (made_empty old) (Record id) None (named_now id _) (none_still old (taken_from old f s))

  -- what is beside is what was there
  taken_ready : (old : List FolderCall) → IsBesideFlushed id contents start old → IsBesideFlushed id contents start (taken old)
  taken_ready old ready f s = ready f s

  at_renamed : (old : List FolderCall) (done : Bool) → IsBesideFlushed id contents start old → IsOldOrNew id contents start (taken old) (renamed (Beside id) (Record id) done ∷ taken old)
  at_renamed old true ready =
      at_record New may_be_none start (taken old) (renamed (Beside id) (Record id) true) id
      (λ f. ((was : Option DiskFile) × MayBeThere start (taken old) (Record id) was) × MayBeThere start (taken old) (Beside id) f) (λ other f s. s)
      (λ f found n b. whole (taken old) (taken_ready old ready) (may_have_none New may_be_none start (taken old) id (taken_free old n.0.0 n.0.1)) f found n.1 b)
  at_renamed old false ready =
      at_record New may_be_none start (taken old) (renamed (Beside id) (Record id) false) id
      (λ f. MayBeThere start (taken old) (Record id) f ⊎ (((was : Option DiskFile) × MayBeThere start (taken old) (Record id) was) × MayBeThere start (taken old) (Beside id) f)) (λ other f s. s)
      (λ f found n b. ⊎_elim (λ s. was_there New may_be_none start (taken old) id f found s b)
      (λ (t : ((was : Option DiskFile) × MayBeThere start (taken old) (Record id) was) × MayBeThere start (taken old) (Beside id) f).
      whole (taken old) (taken_ready old ready) (may_have_none New may_be_none start (taken old) id (taken_free old t.0.0 t.0.1)) f found t.1 b) n)

  pub renamed_puts : (old mid new : List FolderCall) (done : Bool) → mid ≡ taken old → new ≡ renamed (Beside id) (Record id) done ∷ mid → IsBesideFlushed id contents start old → Puts old new
  renamed_puts old mid new done e r ready =
      adds New may_be_none start old (taken old) new (renamed (Beside id) (Record id) done) (taken_puts old (taken old) true refl) (r ∙ ap (λ h. renamed (Beside id) (Record id) done ∷ h) e) (at_renamed old done ready)

  pub renamed_named : (old mid new : List FolderCall) → mid ≡ taken old → new ≡ renamed (Beside id) (Record id) true ∷ mid → IsBesideFlushed id contents start old → IsNamed id contents start new
  renamed_named old mid new e r ready = subst (IsNamed id contents start) (sym (r ∙ ap (λ h. renamed (Beside id) (Record id) true ∷ h) e)) (λ f s.
      let t = at_same id _ _ s in
      (taken_ready old ready f t.1, lasts_still start (renamed (Beside id) (Record id) true) (taken old) (Record id) None (named_now id _) (taken_free old t.0.0 t.0.1)))

  pub undone_rename : (old mid new end : List FolderCall) (done : Bool) → mid ≡ taken old → new ≡ renamed (Beside id) (Record id) false ∷ mid → end ≡ removed (Record id) done ∷ new → IsBesideFlushed id contents start old → Puts old end
  undone_rename old mid new end done e r u ready =
      let is = r ∙ ap (λ h. renamed (Beside id) (Record id) false ∷ h) e in
      adds New may_be_none start old new end (removed (Record id) done) (renamed_puts old mid new false e r ready) u
      (subst (λ h. IsOldOrNew id contents start h (removed (Record id) done ∷ h)) (sym is)
      (at_removed New may_be_none start (renamed (Beside id) (Record id) false ∷ taken old) id done
      (λ f s. may_have_none New may_be_none start (renamed (Beside id) (Record id) false ∷ taken old) id
      (lasts_still start (renamed (Beside id) (Record id) false) (taken old) (Record id) None (named_now id _) (⊎_elim (λ t. taken_free old f t) (λ (t : ((was : Option DiskFile) × MayBeThere start (taken old) (Record id) was) × MayBeThere start (taken old) (Beside id) f). taken_free old t.0.0 t.0.1) (at_same id _ _ s))))))

  -- the flush of the empty file was refused, and it goes again
  pub undone_flush : (old mid new end : List FolderCall) (done : Bool) → mid ≡ made (Record id) [] true ∷ old → new ≡ flushed (Record id) false ∷ mid → end ≡ removed (Record id) done ∷ new → Puts old end
  undone_flush old mid new end done e f u =
      let is = f ∙ ap (λ h. flushed (Record id) false ∷ h) e in
      adds New may_be_none start old new end (removed (Record id) done) (taken_puts old new false is) u
      (subst (λ h. IsOldOrNew id contents start h (removed (Record id) done ∷ h)) (sym is)
      (at_removed New may_be_none start (flushed (Record id) false ∷ made_empty old) id done
      (λ f s. may_have_none New may_be_none start (flushed (Record id) false ∷ made_empty old) id
      (lasts_still start (flushed (Record id) false) (made_empty old) (Record id) None (named_now id _) (none_still old (was_none f s))))))
    where
      was_none : (f : Option DiskFile) → MayBeThere start (flushed (Record id) false ∷ made_empty old) (Record id) f → MayBeThere start old (Record id) None
      was_none f s =
          ⊎_elim (λ (t : MayBeThere start (made_empty old) (Record id) f). (empty_taken old f t).0)
          (λ (t : MayBecome (MayBeThere start (made_empty old)) (Record id) (λ file. torn (most_of file)) f). (empty_taken old (Some t.0) t.1).0) (at_same id _ _ s)

  -- ---- the names are flushed

  pub flush_puts : (old new : List FolderCall) (done : Bool) → new ≡ folder_flushed done ∷ old → Puts old new
  flush_puts old new done e = by_call New may_be_none start old new (folder_flushed done) e (quiet New may_be_none start old (folder_flushed done) (λ other. refl))

  pub flushed_on_disk : (old new : List FolderCall) → new ≡ folder_flushed true ∷ old → IsNamed id contents start old → IsOnDisk id contents start new
  flushed_on_disk old new e named = subst (IsOnDisk id contents start) (sym e) (λ found left. subst (λ f. Becomes f found) (named left.0 left.1).0 left.2)

  pub undone : (old mid new : List FolderCall) (done : Bool) → mid ≡ folder_flushed false ∷ old → new ≡ removed (Record id) done ∷ mid → IsNamed id contents start old → Puts old new
  undone old mid new done e u named =
      adds New may_be_none start old mid new (removed (Record id) done) (flush_puts old mid false e) u
      (subst (λ h. IsOldOrNew id contents start h (removed (Record id) done ∷ h)) (sym e)
      (at_removed New may_be_none start (folder_flushed false ∷ old) id done (λ f s. may_have_none New may_be_none start (folder_flushed false ∷ old) id (lasts_refused start old (Record id) None (named f s).1))))

  pub still_on_disk : (old new : List FolderCall) (done : Bool) → new ≡ removed (Beside id) done ∷ old → IsOnDisk id contents start old → IsOnDisk id contents start new
  still_on_disk old new done e on = subst (IsOnDisk id contents start) (sym e) (λ found left. on found (left_before start (removed (Beside id) done) old (Record id) found refl left))

-- ---- a file without bytes that has the name of a record goes

no_more : (other : ℕ) (found : Option (List ℕ)) → IsNoRecord found → IsNoRecord found
no_more other found is = is

module _ (start : Disk) where
  abbrev pub Keeps : List FolderCall → List FolderCall → Type 0
  Keeps old new = AtEachMoment (IsOld start old) old new

  pub then_keeps : (a b c : List FolderCall) → Keeps a b → Keeps b c → Keeps a c
  then_keeps = followed (λ other found. IsNoRecord found) no_more start

  pub run_keeps : (old new : List FolderCall) → AreOfRun old new → Keeps old new
  run_keeps = run_moments (λ other found. IsNoRecord found) no_more start

  pub keeps : (h : List FolderCall) → Keeps h h
  keeps = begun (λ other found. IsNoRecord found) no_more start

  pub flush_keeps : (old new : List FolderCall) (done : Bool) → new ≡ folder_flushed done ∷ old → Keeps old new
  flush_keeps old new done e = by_call (λ other found. IsNoRecord found) no_more start old new (folder_flushed done) e (quiet (λ other found. IsNoRecord found) no_more start old (folder_flushed done) (λ other. refl))

  pub seen_keeps : (id : ℕ) (old new : List FolderCall) → new ≡ seen_empty (Record id) ∷ old → Keeps old new
  seen_keeps id old new e = by_call (λ other found. IsNoRecord found) no_more start old new (seen_empty (Record id)) e (at_seen_empty (λ other found. IsNoRecord found) no_more start old id)

  pub empty_goes : (id : ℕ) (old mid new : List FolderCall) (done : Bool) → mid ≡ seen_empty (Record id) ∷ old → new ≡ removed (Record id) done ∷ mid → Keeps old new
  empty_goes id old mid new done e r =
      adds (λ other found. IsNoRecord found) no_more start old mid new (removed (Record id) done) (seen_keeps id old mid e) r
      (subst (λ h. IsOld start h (removed (Record id) done ∷ h)) (sym e)
      (at_removed (λ other found. IsNoRecord found) no_more start (seen_empty (Record id) ∷ old) id done (free_when_empty (λ other found. IsNoRecord found) no_more start old id)))

  -- a put, and a removal, after what leaves no new record
  pub keeps_then_puts : (id : ℕ) (contents : List ℕ) (a b c : List FolderCall) → Keeps a b → Puts id contents start b c → Puts id contents start a c
  keeps_then_puts id contents a b c m n =
      then_puts id contents start a b c
      (weakened (IsOld start a) (IsOldOrNew id contents start a) a b (λ h old other found left. ⊎_elim (λ l. inl l) (λ (new : MayHaveNone start a other × IsNoRecord found). inr (new.0, inl new.1)) (old other found left)) m) n

  through_gone : (id : ℕ) (a b c : List FolderCall) → IsOld start a b → IsOldOrGone id start b c → IsOldOrGone id start a c
  through_gone id a b c p q other found left =
      ⊎_elim (λ l. ⊎_elim (λ was. inl was) (λ (new : MayHaveNone start a other × IsNoRecord found). inr (inr new.0, new.1)) (p other found l))
      (λ (new : ((other ≡ id) ⊎ MayHaveNone start b other) × IsNoRecord found).
      inr (⊎_elim (λ e. inl e) (λ (none : MayHaveNone start b other). ⊎_elim (λ was. inr (none.0, was, none.2)) (λ (had : MayHaveNone start a other × IsNoRecord none.0). inr had.0) (p other none.0 none.1)) new.0, new.1))
      (q other found left)

  pub keeps_then_gone : (id : ℕ) (a b c : List FolderCall) → Keeps a b → AtEachMoment (IsOldOrGone id start b) b c → AtEachMoment (IsOldOrGone id start a) a c
  keeps_then_gone id a b c m n =
      chained (IsOldOrGone id start a) (IsOldOrGone id start b) a b c (λ h. through_gone id a b h (last (IsOld start a) a b m))
      (weakened (IsOld start a) (IsOldOrGone id start a) a b (λ h old other found left. ⊎_elim (λ l. inl l) (λ (new : MayHaveNone start a other × IsNoRecord found). inr (inr new.0, new.1)) (old other found left)) m) n

  -- ---- a removal

  at_gone : (id : ℕ) (old : List FolderCall) (done : Bool) (other : ℕ) (f : Option DiskFile) (found : Option (List ℕ)) → MayBeThere start (removed (Record id) done ∷ old) (Record other) f → Becomes f found
      → MayBeLeft start old (Record other) found ⊎ (((other ≡ id) ⊎ MayHaveNone start old other) × IsNoRecord found)
  at_gone id old true other f found s b =
      on_either (other == id) (MayVanish (MayBeThere start old) (Record id) f) (MayBeThere start old (Record other) f) _ s
      (λ e g. inr (inl (eqb-true other id e), inl (subst (λ f. Becomes f found) g.2 b)))
      (λ t. inl (f, there_lasts start old (Record other) f t, b))
  at_gone id old false other f found s b =
      on_either (other == id) (MayBeThere start old (Record id) f ⊎ MayVanish (MayBeThere start old) (Record id) f) (MayBeThere start old (Record other) f) _ s
      (λ e n. ⊎_elim (λ t. inl (f, there_lasts start old (Record other) f (subst (λ i. MayBeThere start old (Record i) f) (sym (eqb-true other id e)) t), b))
      (λ (g : MayVanish (MayBeThere start old) (Record id) f). inr (inl (eqb-true other id e), inl (subst (λ f. Becomes f found) g.2 b))) n)
      (λ t. inl (f, there_lasts start old (Record other) f t, b))

  pub removal_moments : (id : ℕ) (old new : List FolderCall) (done : Bool) → new ≡ removed (Record id) done ∷ old → AtEachMoment (IsOldOrGone id start old) old new
  removal_moments id old new done e = record {
    since = removed (Record id) done ∷ [];
    history = e;
    each = (
      λ other found left. ⊎_elim (λ l. inl (left.0, l, left.2)) (λ s. at_gone id old done other left.0 found s left.2) (lasted start (removed (Record id) done) old (Record other) left.0 left.1),
      λ other found left. inl left,
    );
  }

  pub still_gone : (id : ℕ) (h : List FolderCall) → AtEachMoment (IsOldOrGone id start h) h h
  still_gone id h = record { since = []; history = refl; each = (λ other found left. inl left) }

  pub removal_gone : (id : ℕ) (old new : List FolderCall) → new ≡ removed (Record id) true ∷ old → IsGone id start new
  removal_gone id old new e = subst (IsGone id start) (sym e) (λ found left. subst (λ f. Becomes f found) (at_same id _ _ left.1).2 left.2)
