-- How deep entries are.
use Rattle.std.proofs.Common.{◌≡◌, ℕ, ◌<◌, ◌≤◌, false, true, ◌==◌, ◌||◌, cond, List, [], ◌∷◌, refl, sym, ap, subst, ◌∙◌, arith}
use Rattle.std.specs.List.{AllByRecursion}
use Rattle.std.proofs.lemmas.Bool.{cond_both, eqb-true}
use Rattle.std.proofs.lemmas.List.Elements.{All-contains, All-from_recursion}
use Rattle.fw_lemmas.proofs.Each.{each-weaker, each-there, each_of-map}
use Rattle.fw_flow.specs.declared.choice.Stamps.{Stamps}
use Rattle.fw_record.specs.declared.record.Record.{Record}
use Rattle.fw_record.specs.declared.record.Record.TheVariants as tagged
use Rattle.fw_keep.specs.declared.entry.Entry.{Entry}
use Rattle.fw_keep.specs.Catalogue.{IsOnly, AreNoDeeperThanIds, ids_of, has_entry}
use Rattle.fw_keep.specs.Entry.{depth_at, asked_beside, IsBased}
use Rattle.fw_keep.proofs.IdLaws.{or_left, or_right}

-- where no entry has the id there is no depth
pub depth-none : (id : ℕ) (es : List Entry) → has_entry id es ≡ false → depth_at id es ≡ 0
depth-none id [] h = refl
depth-none id (e ∷ es) h =
    ap (λ b. cond b e.depth (depth_at id es)) (or_left (e.id == id) (has_entry id es) h) ∙ depth-none id es (or_right (e.id == id) (has_entry id es) h)

depth-each : (id : ℕ) (es : List Entry) (x : Entry) → AllByRecursion (λ (other : Entry). other.id ≡ id → other ≡ x) es → has_entry id es ≡ true → depth_at id es ≡ x.depth
depth-each id [] x h there = absurd cc
depth-each id (e ∷ es) x h there =
    cond_both (e.id == id) e.depth (depth_at id es) (λ n. n ≡ x.depth) (λ k. ap (λ (o : Entry). o.depth) (h.0 (eqb-true e.id id k)))
    (λ k. depth-each id es x h.1 (sym (ap (λ b. b || has_entry id es) k) ∙ there))

-- the depth of an id is that of its entry
pub depth-only : (id : ℕ) (es : List Entry) (x : Entry) → IsOnly es id x → has_entry id es ≡ true → depth_at id es ≡ x.depth
depth-only id es x only there = depth-each id es x (each-weaker _ _ es (λ other here. only.only other here) (each-there es)) there

-- and no greater than the id
pub depth-below : (id : ℕ) (es : List Entry) → AreNoDeeperThanIds es → depth_at id es ≤ id
depth-below id [] h = omega arith
depth-below id (e ∷ es) h =
    cond_both (e.id == id) e.depth (depth_at id es) (λ n. n ≤ id) (λ k. subst (λ n. e.depth ≤ n) (eqb-true e.id id k) h.0) (λ k. depth-below id es h.1)

-- what is asked is no deeper than its id
pub deep-asked : (es : List Entry) (next : ℕ) (r : Record) (stamps : Stamps) → IsBased es r → AreNoDeeperThanIds es → AllByRecursion (λ id. id < next) (ids_of es)
    → (asked_beside es next r stamps).depth ≤ next
deep-asked es next (tagged.State c) stamps based depths drawn = omega arith
deep-asked es next (tagged.Event node event) stamps based depths drawn = omega arith
deep-asked es next (tagged.Changes base c) stamps based depths drawn =
    let below : based.entry.id < next =
    All-contains (λ (e : Entry). e.id < next) es based.entry (All-from_recursion _ es (each_of-map (λ id. id < next) (λ (e : Entry). e.id) es drawn)) based.there in
    let deep : depth_at base es ≤ base = depth-below base es depths in
    omega (arith, below, deep, based.named)

-- nor so great that one more is too much
pub depth-small : (id n : ℕ) (es : List Entry) → AreNoDeeperThanIds es → AllByRecursion (λ (e : Entry). e.id < n) es → 0 < n → depth_at id es < n
depth-small id n [] h few some = some
depth-small id n (e ∷ es) h few some =
    cond_both (e.id == id) e.depth (depth_at id es) (λ d. d < n) (λ k. omega (arith, h.0, few.0)) (λ k. depth-small id n es h.1 few.1 some)
