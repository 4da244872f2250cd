-- The entry of an id.
use Rattle.std.proofs.Common.{◌≡◌, ℕ, zero, suc, ◌<◌, ◌≤◌, nat_lt, true, false, ◌==◌, List, [], ◌∷◌, length, get_or, ◌⊎◌, inl, inr, refl, sym, ap, ◌∙◌, arith}
use Rattle.std.specs.List.{AllByRecursion}
use Rattle.std.specs.List.Sorted.{IsNonDecreasingBy, IsPartitionPoint}
use Rattle.std.specs.Ordering.{nat_cmp, ordering_index}
use Rattle.std.specs.declared.cmp.Ordering.TheVariants.{Less, Greater}
use Rattle.std.proofs.lemmas.Bool.{eq-eqb, cases_lt}
use Rattle.std.proofs.lemmas.Bool.Decides.{nat_tests}
use Rattle.std.proofs.lemmas.List.Elements.{All-contains, All-from_recursion}
use Rattle.std.proofs.Math.Bool.{or-true}
use Rattle.fw_lemmas.proofs.Each.{each-weaker, each-at, each_of-map}
use Rattle.fw_keep.specs.declared.entry.Entry.{Entry}
use Rattle.fw_keep.specs.Catalogue.{AreAscending, IsOnly, ids_of, has_entry}

-- ---- the entry of an id

later-above : (n : ℕ) (es : List Entry) (i : ℕ) (d : Entry) → i < length es → AllByRecursion (λ later. n < later) (ids_of es) → n < (get_or es i d).id
later-above n es i d l h = each-at (λ (e : Entry). n < e.id) es i d l (each_of-map (λ later. n < later) (λ (e : Entry). e.id) es h)

pub ascending-at : (es : List Entry) → AreAscending (ids_of es) → (i j : ℕ) (d : Entry) → i ≤ j → j < length es → (get_or es i d).id ≤ (get_or es j d).id
ascending-at [] h i j d le l = absurd (omega arith)
ascending-at (e ∷ es) h zero zero d le l = omega arith
ascending-at (e ∷ es) h zero (suc j) d le l = let above : e.id < (get_or es j d).id = later-above e.id es j d (omega arith) h.0 in omega arith
ascending-at (e ∷ es) h (suc i) zero d le l = absurd (omega arith)
ascending-at (e ∷ es) h (suc i) (suc j) d le l = ascending-at es h.1 i j d (omega arith) (omega arith)

rises : (a b n : ℕ) → a ≤ b → ordering_index (nat_cmp a n) ≤ ordering_index (nat_cmp b n)
rises a b n le = grind (arith, nat_tests)

-- the ids do not fall against any one
pub ids-rise : (es : List Entry) (id : ℕ) → AreAscending (ids_of es) → IsNonDecreasingBy (λ (e : Entry). ordering_index (nat_cmp e.id id)) es
ids-rise es id h = λ i j d le l. rises (get_or es i d).id (get_or es j d).id id (ascending-at es h i j d le l)

only_at : (es : List Entry) (id i : ℕ) (x : Entry) → AreAscending (ids_of es) → i < length es → x ≡ get_or es i x → x.id ≡ id
    → AllByRecursion (λ (other : Entry). other.id ≡ id → other ≡ x) es
only_at [] id i x h l is named = tt
only_at (e ∷ es) id zero x h l is named =
    let same : e.id ≡ id = ap (λ (y : Entry). y.id) (sym is) ∙ named in
    ((λ k. sym is), each-weaker (λ (other : Entry). e.id < other.id) _ es (λ other later k. absurd (omega arith)) (each_of-map (λ later. e.id < later) (λ (y : Entry). y.id) es h.0))
only_at (e ∷ es) id (suc i) x h l is named =
    let above : e.id < (get_or es i x).id = later-above e.id es i x (omega arith) h.0 in
    let there : (get_or es i x).id ≡ id = ap (λ (y : Entry). y.id) (sym is) ∙ named in
    ((λ k. absurd (omega arith)), only_at es id i x h.1 (omega arith) is named)

-- an entry that is there is the only one of its id
pub found-only : (es : List Entry) (id i : ℕ) (x : Entry) → AreAscending (ids_of es) → i < length es → x ≡ get_or es i x → x.id ≡ id → IsOnly es id x
found-only es id i x h l is named = record {
  named = named;
  only = λ other there k. All-contains (λ (o : Entry). o.id ≡ id → o ≡ x) es other (All-from_recursion _ es (only_at es id i x h l is named)) there k;
}

pub found-there : (es : List Entry) (id i : ℕ) (x : Entry) → i < length es → x ≡ get_or es i x → x.id ≡ id → has_entry id es ≡ true
found-there [] id i x l is named = absurd (omega arith)
found-there (e ∷ es) id zero x l is named = rw (eq-eqb e.id id (ap (λ (y : Entry). y.id) (sym is) ∙ named)) refl
found-there (e ∷ es) id (suc i) x l is named = rw (found-there es id i x (omega arith) is named) (or-true (e.id == id))

none-at : (es : List Entry) (id : ℕ) → ((k : ℕ) (d : Entry) → k < length es → ((get_or es k d).id == id) ≡ false) → has_entry id es ≡ false
none-at [] id h = refl
none-at (e ∷ es) id h = rw (h zero e (omega arith)) (none-at es id (λ k d l. h (suc k) d (omega arith)))

less-apart : (a b : ℕ) → nat_cmp a b ≡ Less → (a == b) ≡ false
less-apart a b h = grind (arith, nat_tests)

greater-apart : (a b : ℕ) → nat_cmp a b ≡ Greater → (a == b) ≡ false
greater-apart a b h = grind (arith, nat_tests)

-- no entry has the id where those before a place are below it and the others above
pub found-none : (es : List Entry) (id i : ℕ) → IsPartitionPoint (λ (e : Entry). nat_cmp e.id id ≡ Less) (λ (e : Entry). nat_cmp e.id id ≡ Greater) es i → has_entry id es ≡ false
found-none es id i parts = none-at es id (λ k d l. by k d l (cases_lt k i))
  where
    by : (k : ℕ) (d : Entry) → k < length es → (k < i) ⊎ (i ≤ k) → ((get_or es k d).id == id) ≡ false
    by k d l (inl before) = less-apart (get_or es k d).id id (parts.0 k d (omega arith) before)
    by k d l (inr after) = greater-apart (get_or es k d).id id (parts.1 k d after l)

-- ---- ids below an id

lower : (a b n : ℕ) → a ≤ b → nat_lt b n ≡ true → nat_lt a n ≡ true
lower a b n le h = grind (arith, nat_tests)

-- of entries whose ids ascend those below an id come first
pub below_first : (es : List Entry) (id : ℕ) → AreAscending (ids_of es) → (i j : ℕ) (d : Entry) → i ≤ j → j < length es
    → nat_lt (get_or es j d).id id ≡ true → nat_lt (get_or es i d).id id ≡ true
below_first es id h i j d le l below = lower (get_or es i d).id (get_or es j d).id id (ascending-at es h i j d le l) below
