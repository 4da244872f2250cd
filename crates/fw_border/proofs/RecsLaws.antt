-- Recs by number.
use Rattle.std.proofs.Common.{◌≡◌, ℕ, ◌<◌, Bool, true, false, cond, List, [], ◌∷◌, length, filter, Option, Some, None, unwrap_or, refl, sym, ap, ◌∙◌, arith}
use Rattle.std.specs.Borrow.{Bor}
use Rattle.std.specs.Prelude.{slice_get}
use Rattle.std.specs.Slice.{IsItemAt}
use Rattle.std.specs.BTreeMap.{insert_entry, is_at}
use Rattle.std.specs.List.{AllByRecursion}
use Rattle.std.specs.List.Sorted.{IsStrictlySortedBy}
use Rattle.std.specs.Map.{keys_of, lookup, set_value, remove_entry}
use Rattle.std.specs.Option.{option_map, option_copied}
use Rattle.std.specs.declared.cmp.Ordering.{Ordering}
use Rattle.std.specs.declared.cmp.Ordering.TheVariants.{Less, Equal, Greater}
use Rattle.std.specs.Ordering.{is_eq, nat_cmp, match_ordering}
use Rattle.std.proofs.lemmas.Bool.{cond_both, cond-false}
use Rattle.std.proofs.lemmas.Cmp.{nat_cmp_total}
use Rattle.std.proofs.lemmas.Map.{lookup-none}
use Rattle.std.proofs.lemmas.Option.{slice_get_past, slice_get-get_or}
use Rattle.std.proofs.lemmas.Map.Entries.{none_below_head}
use Rattle.std.proofs.lemmas.Map.Keys.{sorted_tail}
use Rattle.std.proofs.lemmas.Map.Steps.{set_value_same}
use Rattle.std.proofs.lemmas.Map.Made.{keys_of-map_values, lookup-map_values}
use Rattle.fw_lemmas.proofs.Each.{each-kept}
use Rattle.fw_bag.specs.Bag.{BagState, bag_sum}
use Rattle.fw_bag.specs.Rec.{IsAscending}
use Rattle.fw_bag.specs.declared.rec.Rec.{Rec}
use Rattle.fw_bag.proofs.BagLaws.{same_from_how_often, how_often-bag_sum, IsAscending-bag_sum}
use Rattle.fw_border.specs.Numbers.{recs_by_number}
use Rattle.fw_border.specs.Outputs.{recs_at_number, AreByNumber}

-- what ascends is the sum with nothing
pub bag_sum-nothing : (xs : List Rec) → IsAscending xs → bag_sum xs [] ≡ xs
bag_sum-nothing xs a = same_from_how_often (bag_sum xs []) xs (IsAscending-bag_sum xs [] tt) a (λ q. let h = how_often-bag_sum q xs [] in omega arith)

-- bags by number
abbrev Bags : Type 0
Bags = List (ℕ × BagState)

-- the recs of a bag that is lent
pub recs_lent : (r : Option (Bor BagState)) → option_map (λ (b : Bor BagState). b.now.recs) r ≡ option_map (λ (b : BagState). b.recs) (option_copied r)
recs_lent None = refl
recs_lent (Some b) = refl

-- what is lent of a list at a place
pub got_item : {X : Type 0} (xs : List X) (i : ℕ) (r : Option (Bor X)) → IsItemAt xs i r → option_copied r ≡ slice_get xs i
got_item xs i None h = sym (slice_get_past xs i h.3)
got_item xs i (Some x) h = ap Some h.1 ∙ sym (slice_get-get_or xs i x.now h.3.0)

-- the recs that are kept at a number
pub recs_found : (x : ℕ) (o : Option BagState) (es : Bags) → o ≡ lookup (is_at (nat_cmp x)) es
    → recs_at_number (recs_by_number es) x ≡ unwrap_or (option_map (λ (b : BagState). b.recs) o) []
recs_found x o es e =
    ap (λ r. unwrap_or r []) (lookup-map_values (λ (b : BagState). b.recs) (is_at (nat_cmp x)) es ∙ ap (option_map (λ (b : BagState). b.recs)) (sym e))

-- ---- the recs of changed bags

pub numbered-set_value : (test : ℕ → Bool) (b : BagState) (es : Bags) → recs_by_number (set_value test es b) ≡ set_value test (recs_by_number es) b.recs
numbered-set_value test b [] = refl
numbered-set_value test b (e ∷ es) = by (test e.0) (numbered-set_value test b es)
  where
    by : (c : Bool) → recs_by_number (set_value test es b) ≡ set_value test (recs_by_number es) b.recs
        → recs_by_number (cond c ((e.0, b) ∷ es) (e ∷ set_value test es b)) ≡ cond c ((e.0, b.recs) ∷ recs_by_number es) ((e.0, e.1.recs) ∷ set_value test (recs_by_number es) b.recs)
    by true h = refl
    by false h = ap (λ fs. (e.0, e.1.recs) ∷ fs) h

pub numbered-remove_entry : (test : ℕ → Bool) (es : Bags) → recs_by_number (remove_entry test es) ≡ remove_entry test (recs_by_number es)
numbered-remove_entry test [] = refl
numbered-remove_entry test (e ∷ es) = by (test e.0) (numbered-remove_entry test es)
  where
    by : (c : Bool) → recs_by_number (remove_entry test es) ≡ remove_entry test (recs_by_number es)
        → recs_by_number (cond c es (e ∷ remove_entry test es)) ≡ cond c (recs_by_number es) ((e.0, e.1.recs) ∷ remove_entry test (recs_by_number es))
    by true h = refl
    by false h = ap (λ fs. (e.0, e.1.recs) ∷ fs) h

pub numbered-insert_entry : (x : ℕ) (b : BagState) (es : Bags) → recs_by_number (insert_entry nat_cmp es x b) ≡ insert_entry nat_cmp (recs_by_number es) x b.recs
numbered-insert_entry x b [] = refl
numbered-insert_entry x b (e ∷ es) = by (nat_cmp x e.0) (numbered-insert_entry x b es)
  where
    by : (o : Ordering) → recs_by_number (insert_entry nat_cmp es x b) ≡ insert_entry nat_cmp (recs_by_number es) x b.recs
        → recs_by_number (match_ordering o ((x, b) ∷ e ∷ es) ((e.0, b) ∷ es) (e ∷ insert_entry nat_cmp es x b))
        ≡ match_ordering o ((x, b.recs) ∷ (e.0, e.1.recs) ∷ recs_by_number es) ((e.0, b.recs) ∷ recs_by_number es) ((e.0, e.1.recs) ∷ insert_entry nat_cmp (recs_by_number es) x b.recs)
    by Less h = refl
    by Equal h = refl
    by Greater h = ap (λ fs. (e.0, e.1.recs) ∷ fs) h

pub numbered-filter : (p : ℕ → Bool) (es : Bags) → recs_by_number (filter (λ e. p e.0) es) ≡ filter (λ e. p e.0) (recs_by_number es)
numbered-filter p [] = refl
numbered-filter p (e ∷ es) = by (p e.0) (numbered-filter p es)
  where
    by : (c : Bool) → recs_by_number (filter (λ e. p e.0) es) ≡ filter (λ e. p e.0) (recs_by_number es)
        → recs_by_number (cond c (e ∷ filter (λ e. p e.0) es) (filter (λ e. p e.0) es)) ≡ cond c ((e.0, e.1.recs) ∷ filter (λ e. p e.0) (recs_by_number es)) (filter (λ e. p e.0) (recs_by_number es))
    by true h = ap (λ fs. (e.0, e.1.recs) ∷ fs) h
    by false h = h

-- what is found at a number
pub numbered-lookup : (x : ℕ) (es : Bags) → lookup (is_at (nat_cmp x)) (recs_by_number es) ≡ option_map (λ b. b.recs) (lookup (is_at (nat_cmp x)) es)
numbered-lookup x es = lookup-map_values (λ (b : BagState). b.recs) (is_at (nat_cmp x)) es

pub numbered-keys : (es : Bags) → keys_of (recs_by_number es) ≡ keys_of es
numbered-keys es = keys_of-map_values (λ (b : BagState). b.recs) es

-- ---- a number that has recs

set_cases : (x : ℕ) (v w : List Rec) (e : ℕ × List Rec) (es : List (ℕ × List Rec)) → IsStrictlySortedBy nat_cmp (keys_of (e ∷ es))
    → (lookup (is_at (nat_cmp x)) es ≡ Some v → insert_entry nat_cmp es x w ≡ set_value (is_at (nat_cmp x)) es w)
    → (o : Ordering) → nat_cmp x e.0 ≡ o → lookup (is_at (nat_cmp x)) (e ∷ es) ≡ Some v
    → match_ordering o ((x, w) ∷ e ∷ es) ((e.0, w) ∷ es) (e ∷ insert_entry nat_cmp es x w) ≡ cond (is_eq o) ((e.0, w) ∷ es) (e ∷ set_value (is_at (nat_cmp x)) es w)
set_cases x v w e es s ih Less q h =
    let none = lookup-none (is_at (nat_cmp x)) (e ∷ es) (none_below_head nat_cmp_total x e es s q) in absurd (cc)
set_cases x v w e es s ih Equal q h = refl
set_cases x v w e es s ih Greater q h =
    ap (λ fs. e ∷ fs) (ih (sym (cond-false (is_at (nat_cmp x) e.0) (Some e.1) (lookup (is_at (nat_cmp x)) es) (ap is_eq q)) ∙ h))

-- where a number has recs, these are replaced
pub inserted_there : (x : ℕ) (v w : List Rec) (es : List (ℕ × List Rec)) → IsStrictlySortedBy nat_cmp (keys_of es) → lookup (is_at (nat_cmp x)) es ≡ Some v
    → insert_entry nat_cmp es x w ≡ set_value (is_at (nat_cmp x)) es w
inserted_there x v w [] s h = absurd (cc)
inserted_there x v w (e ∷ es) s h = set_cases x v w e es s (inserted_there x v w es (sorted_tail nat_cmp e.0 (keys_of es) s)) (nat_cmp x e.0) refl h

-- ---- a bag that is written

-- the recs of a number that has a bag
pub recs_there : (x : ℕ) (b : BagState) (es : Bags) → Some b ≡ lookup (is_at (nat_cmp x)) es → lookup (is_at (nat_cmp x)) (recs_by_number es) ≡ Some b.recs
recs_there x b es e = numbered-lookup x es ∙ ap (option_map (λ (b : BagState). b.recs)) (sym e)

-- a bag of the same recs changes nothing
pub written_same : (x : ℕ) (b new : BagState) (es : Bags) → Some b ≡ lookup (is_at (nat_cmp x)) es → new.recs ≡ b.recs
    → recs_by_number (set_value (is_at (nat_cmp x)) es new) ≡ recs_by_number es
written_same x b new es e same =
    numbered-set_value (is_at (nat_cmp x)) new es ∙ ap (set_value (is_at (nat_cmp x)) (recs_by_number es)) same
    ∙ set_value_same (is_at (nat_cmp x)) (recs_by_number es) b.recs (recs_there x b es e)

-- a bag of other recs is put in
pub written_other : (x : ℕ) (b new : BagState) (es : Bags) (rs : List Rec) → IsStrictlySortedBy nat_cmp (keys_of (recs_by_number es)) → Some b ≡ lookup (is_at (nat_cmp x)) es → new.recs ≡ rs
    → recs_by_number (set_value (is_at (nat_cmp x)) es new) ≡ insert_entry nat_cmp (recs_by_number es) x rs
written_other x b new es rs s e other =
    numbered-set_value (is_at (nat_cmp x)) new es ∙ ap (set_value (is_at (nat_cmp x)) (recs_by_number es)) other
    ∙ sym (inserted_there x b.recs rs (recs_by_number es) s (recs_there x b es e))

-- ---- at each number there is a rec

-- each number has a rec
abbrev pub EachHasRecs : List (ℕ × List Rec) → Type 0
EachHasRecs es = AllByRecursion (λ e. 0 < length e.1) es

pub some-insert_entry : (x : ℕ) (w : List Rec) (es : List (ℕ × List Rec)) → 0 < length w → EachHasRecs es → EachHasRecs (insert_entry nat_cmp es x w)
some-insert_entry x w [] p a = (p, tt)
some-insert_entry x w (e ∷ es) p a = by (nat_cmp x e.0) (some-insert_entry x w es p a.1)
  where
    by : (o : Ordering) → EachHasRecs (insert_entry nat_cmp es x w) → EachHasRecs (match_ordering o ((x, w) ∷ e ∷ es) ((e.0, w) ∷ es) (e ∷ insert_entry nat_cmp es x w))
    by Less b = (p, a)
    by Equal b = (p, a.1)
    by Greater b = (a.0, b)

pub some-remove_entry : (test : ℕ → Bool) (es : List (ℕ × List Rec)) → EachHasRecs es → EachHasRecs (remove_entry test es)
some-remove_entry test [] a = tt
some-remove_entry test (e ∷ es) a =
    cond_both (test e.0) es (e ∷ remove_entry test es) EachHasRecs (λ q. a.1) (λ q. (a.0, some-remove_entry test es a.1))

pub some-filter : (p : ℕ → Bool) (es : List (ℕ × List Rec)) → EachHasRecs es → EachHasRecs (filter (λ e. p e.0) es)
some-filter p es a = each-kept (λ e. 0 < length e.1) (λ e. p e.0) es a

-- there is nothing by number
pub nothing_by_number : AreByNumber []
unfolding IsStrictlySortedBy
nothing_by_number = record { ordered = tt; some = tt }
