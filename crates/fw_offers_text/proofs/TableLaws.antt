-- Counts in order, put into a table one after another.
use Rattle.std.proofs.Common.{◌≡◌, ℕ, zero, suc, ◌+◌, ◌-◌, ◌^◌, ◌<◌, ◌≤◌, nat_lt, Bool, true, false, ◌&&◌, List, [], ◌∷◌, ◌++◌, map, length, Option, Some, None, refl, sym, ◌∙◌, ap, subst, arith, get_or, append_assoc}
use Rattle.std.proofs.lemmas.Bool.Decides.{nat_tests}
use Rattle.std.proofs.lemmas.List.{append-nil}
use Rattle.std.proofs.lemmas.List.Sorted.{IsNonDecreasingBy-push, IsNonDecreasingBy-short}
use Rattle.std.specs.List.{list_all}
use Rattle.fw_bag.specs.declared.rec.Rec.{Rec}
use Rattle.fw_flow.specs.SentTable.{EpochsAscend}
use Rattle.fw_offers_text.specs.OffersGrammar.{counted_in}
use Rattle.fw_offers_text.specs.Statements.{is_count_small, is_epoch_above, ascend_from, are_counts_apart}
use Rattle.std.proofs.lemmas.Bool.{and_parts}

below_from : (m n : ℕ) → nat_lt m n ≡ true → m < n
below_from m n h = grind (arith, nat_tests)

-- the epoch of the last entry
abbrev last_epoch : List (ℕ × ℕ) → Option ℕ
last_epoch [] = None
last_epoch (entry ∷ []) = Some entry.0
last_epoch (entry ∷ other ∷ entries) = last_epoch (other ∷ entries)

last-push : (entries : List (ℕ × ℕ)) (entry : ℕ × ℕ) → last_epoch (entries ++ entry ∷ []) ≡ Some entry.0
last-push [] entry = refl
last-push (e ∷ []) entry = refl
last-push (e ∷ f ∷ es) entry = last-push (f ∷ es) entry

last-at : (entries : List (ℕ × ℕ)) (n : ℕ) (d : ℕ × ℕ) → n + 1 ≡ length entries → last_epoch entries ≡ Some (get_or entries n d).0
last-at [] n d h = absurd (omega (arith, h))
last-at (e ∷ []) zero d h = refl
last-at (e ∷ []) (suc n) d h = absurd (omega (arith, h))
last-at (e ∷ f ∷ es) zero d h = absurd (omega (arith, h))
last-at (e ∷ f ∷ es) (suc n) d h = last-at (f ∷ es) n d (omega (arith, h))

-- what the code's loop knows: the counts that are left stand above those in the table, and are small
pub record IsTabled (all rest : List Rec) (table : List (ℕ × ℕ)) : Type 0 where
  pub told : table ++ map counted_in rest ≡ map counted_in all
  pub sorted : EpochsAscend table
  pub next : ascend_from (last_epoch table) rest ≡ true
  pub small : list_all is_count_small rest ≡ true

pub tabled_none : (all : List Rec) → are_counts_apart all ≡ true → list_all is_count_small all ≡ true → IsTabled all all []
tabled_none all apart small = record { told = refl; sorted = IsNonDecreasingBy-short (λ entry. entry.0) [] (omega arith); next = apart; small = small }

pub tabled_push : (all : List Rec) (r : Rec) (rest : List Rec) (table : List (ℕ × ℕ)) → IsTabled all (r ∷ rest) table → EpochsAscend (table ++ (r.key, r.value) ∷ [])
tabled_push all r rest table h = IsNonDecreasingBy-push (λ entry. entry.0) table (r.key, r.value) h.sorted (λ d some. below d some)
  where
    above : (o : Option ℕ) (n : ℕ) → o ≡ Some n → is_epoch_above o r.key ≡ true → n ≤ r.key
    above None n e k = absurd (cc)
    above (Some m) n e k = let same : m ≡ n = cc in let small = below_from m r.key k in subst (λ x. x ≤ r.key) same (omega (arith, small))

    below : (d : ℕ × ℕ) → 0 < length table → (get_or table (length table - 1) d).0 ≤ r.key
    below d some = above (last_epoch table) (get_or table (length table - 1) d).0 (last-at table (length table - 1) d (omega (arith, some))) (and_parts (is_epoch_above (last_epoch table) r.key) (ascend_from (Some r.key) rest) h.next).0

pub tabled_small : (all : List Rec) (r : Rec) (rest : List Rec) (table : List (ℕ × ℕ)) → IsTabled all (r ∷ rest) table → r.key < 2 ^ 32
tabled_small all r rest table h =
    let k = (and_parts (nat_lt r.key (2 ^ 32)) (nat_lt r.value (2 ^ 64)) (and_parts (is_count_small r) (list_all is_count_small rest) h.small).0).0 in
    below_from r.key (2 ^ 32) k

pub tabled_more : (all : List Rec) (r : Rec) (rest : List Rec) (table new : List (ℕ × ℕ)) → IsTabled all (r ∷ rest) table → new ≡ table ++ (r.key, r.value) ∷ [] → IsTabled all rest new
tabled_more all r rest table new h e = record {
  told = ap (λ es. es ++ map counted_in rest) e ∙ append_assoc table ((r.key, r.value) ∷ []) (map counted_in rest) ∙ h.told;
  sorted = subst EpochsAscend (sym e) (tabled_push all r rest table h);
  next = ap (λ o. ascend_from o rest) (ap last_epoch e ∙ last-push table (r.key, r.value)) ∙ (and_parts (is_epoch_above (last_epoch table) r.key) (ascend_from (Some r.key) rest) h.next).1;
  small = (and_parts (is_count_small r) (list_all is_count_small rest) h.small).1;
}

pub tabled_all : (all rest : List Rec) (table : List (ℕ × ℕ)) → IsTabled all rest table → rest ≡ [] → table ≡ map counted_in all
tabled_all all rest table h e = sym (append-nil table) ∙ ap (λ rs. table ++ map counted_in rs) (sym e) ∙ h.told
