-- How a table of contents follows what comes.
use Rattle.std.proofs.Common.{◌≡◌, Bool, true, false, cond, List, [], ◌∷◌, Option, refl, sym, ap, ◌∙◌, subst}
use Rattle.std.specs.Prelude.{Some, None}
use Rattle.std.specs.declared.cmp.Ordering.{Ordering}
use Rattle.std.specs.Ordering.{is_eq}
use Rattle.std.specs.List.{filter}
use Rattle.std.specs.Map.{lookup}
use Rattle.std.proofs.lemmas.Map.Entries.{lookup-filter-keys}
use Rattle.std.specs.BTreeMap.{BTreeMap, get, is_at}
use Rattle.fw_time.specs.Stamp.{Stamp, same}
use Rattle.fw_time.proofs.StampLaws.{same-is}
use Rattle.fw_bag.specs.Arrivals.{Arrival, arrivals_at, arrivals_inside}
use Rattle.fw_bag.proofs.ArrivalLaws.{at-here, at-elsewhere, at-inside}
use Rattle.fw_table.specs.Content.{IsContentOf, IsTable}

module _ {T C : Type 0} (cmp : T → T → Ordering) (coords : T → Stamp) (holds : C → List Arrival → Type 0)
    (apart : (x y : T) → is_eq (cmp x y) ≡ same (coords x) (coords y)) where
  more_here : (t q : T) (c : C) (old : Option C) (a : Arrival) (came : List Arrival) → a.at ≡ coords t
      → holds c (a ∷ arrivals_at (coords t) came)
      → IsContentOf holds old (arrivals_at (coords q) came)
      → (b : Bool) → same (coords t) (coords q) ≡ b
      → IsContentOf holds (cond b (Some c) old) (arrivals_at (coords q) (a ∷ came))
  more_here t q c old a came e h r true s =
      let k : coords t ≡ coords q = same-is (coords t) (coords q) s in
      let here : a ∷ arrivals_at (coords t) came ≡ arrivals_at (coords q) (a ∷ came) =
      ap (λ u. a ∷ arrivals_at u came) k ∙ sym (at-here (coords q) a came (ap (λ u. same u (coords q)) e ∙ s)) in
      let P : List Arrival → Type 0 = λ xs. holds c xs in
      subst P here h
  more_here t q c old a came e h r false s =
      let later : arrivals_at (coords q) came ≡ arrivals_at (coords q) (a ∷ came) =
      sym (at-elsewhere (coords q) a came (ap (λ u. same u (coords q)) e ∙ s)) in
      let P : List Arrival → Type 0 = λ xs. IsContentOf holds old xs in
      subst P later r

  -- a content that takes a rec in makes the table that of one arrival more
  pub table_more : (old new : BTreeMap T C) (t : T) (c : C) (a : Arrival) (came : List Arrival) → a.at ≡ coords t
      → ((q : T) → get cmp new q ≡ cond (is_at (cmp t) q) (Some c) (get cmp old q))
      → holds c (a ∷ arrivals_at (coords t) came)
      → IsTable cmp coords holds old came → IsTable cmp coords holds new (a ∷ came)
  table_more old new t c a came e u h r =
      λ q. let P : Option C → Type 0 = λ o. IsContentOf holds o (arrivals_at (coords q) (a ∷ came)) in
      let v : get cmp new q ≡ cond (same (coords t) (coords q)) (Some c) (get cmp old q) =
      u q ∙ ap (λ b. cond b (Some c) (get cmp old q)) (apart t q) in
      subst P (sym v) (more_here t q c (get cmp old q) a came e h (r q) (same (coords t) (coords q)) refl)

  same_here : (t q : T) (c : C) (old : Option C) (came : List Arrival)
      → holds c (arrivals_at (coords t) came)
      → IsContentOf holds old (arrivals_at (coords q) came)
      → (b : Bool) → same (coords t) (coords q) ≡ b
      → IsContentOf holds (cond b (Some c) old) (arrivals_at (coords q) came)
  same_here t q c old came h r true s =
      let P : List Arrival → Type 0 = λ xs. holds c xs in
      subst P (ap (λ u. arrivals_at u came) (same-is (coords t) (coords q) s)) h
  same_here t q c old came h r false s = r

  -- a content that is still that of its arrivals leaves the table that of them all
  pub table_same : (old new : BTreeMap T C) (t : T) (c : C) (came : List Arrival)
      → ((q : T) → get cmp new q ≡ cond (is_at (cmp t) q) (Some c) (get cmp old q))
      → holds c (arrivals_at (coords t) came)
      → IsTable cmp coords holds old came → IsTable cmp coords holds new came
  table_same old new t c came u h r =
      λ q. let P : Option C → Type 0 = λ o. IsContentOf holds o (arrivals_at (coords q) came) in
      let v : get cmp new q ≡ cond (same (coords t) (coords q)) (Some c) (get cmp old q) =
      u q ∙ ap (λ b. cond b (Some c) (get cmp old q)) (apart t q) in
      subst P (sym v) (same_here t q c (get cmp old q) came h (r q) (same (coords t) (coords q)) refl)

  found_kept : (old : BTreeMap T C) (q : T) (p : T → Bool) → ((k : T) → is_at (cmp q) k ≡ true → p k ≡ p q)
      → lookup (is_at (cmp q)) (filter (λ (e : T × C). p e.0) old.entries) ≡ cond (p q) (get cmp old q) None
  found_kept old q p h = lookup-filter-keys (is_at (cmp q)) p (p q) h old.entries

  kept_cases : (o : Option C) (came : List Arrival) (b : Bool) → IsContentOf holds o came → IsContentOf holds (cond b o None) (cond b came [])
  kept_cases o came true h = h
  kept_cases o came false h = refl

  -- a table of which the times inside are kept
  pub table_kept : (old new : BTreeMap T C) (p : T → Bool) (keep : Stamp → Bool) (came : List Arrival)
      → ((t : T) → keep (coords t) ≡ p t)
      → new.entries ≡ filter (λ (e : T × C). p e.0) old.entries
      → IsTable cmp coords holds old came → IsTable cmp coords holds new (arrivals_inside keep came)
  table_kept old new p keep came agree e r =
      λ q. let exact : (k : T) → is_at (cmp q) k ≡ true → p k ≡ p q =
      λ k h. sym (agree k) ∙ sym (ap keep (same-is (coords q) (coords k) (sym (apart q k) ∙ h))) ∙ agree q in
      let found : get cmp new q ≡ cond (p q) (get cmp old q) None = ap (λ es. lookup (is_at (cmp q)) es) e ∙ found_kept old q p exact in
      let P : Option C → Type 0 = λ o. IsContentOf holds o (arrivals_at (coords q) (arrivals_inside keep came)) in
      let Q : List Arrival → Type 0 = λ xs. IsContentOf holds (cond (p q) (get cmp old q) None) xs in
      let there : arrivals_at (coords q) (arrivals_inside keep came) ≡ cond (p q) (arrivals_at (coords q) came) [] =
      at-inside (coords q) keep came ∙ ap (λ b. cond b (arrivals_at (coords q) came) []) (agree q) in
      subst P (sym found) (subst Q (sym there) (kept_cases (get cmp old q) (arrivals_at (coords q) came) (p q) (r q)))
