-- How a zip's table follows what is settled.
use Rattle.std.proofs.Common.{◌≡◌, ℕ, ◌+◌, Bool, true, false, cond, not, ◌&&◌, List, [], ◌∷◌, Option, Some, None, refl, sym, ap, ◌∙◌}
use Rattle.std.specs.Cmp.{nat_cmp_total, eq_by_cmp_equiv}
use Rattle.std.specs.List.{IsDistinct}
use Rattle.std.specs.Ordering.{nat_cmp}
use Rattle.std.specs.List.{filter}
use Rattle.std.specs.List.Sorted.{IsStrictlySortedBy}
use Rattle.std.specs.Map.{lookup, keys_of}
use Rattle.std.specs.BTreeMap.{BTreeMap, get, is_at}
use Rattle.std.proofs.lemmas.Bool.{and_from, and_parts}
use Rattle.std.proofs.lemmas.Map.{lookup-none}
use Rattle.std.proofs.lemmas.Map.Entries.{option_filter, none_past_head}
use Rattle.std.proofs.lemmas.Map.Keys.{IsDistinct-tail, IsDistinct-from_sorted}
use Rattle.fw_time.specs.Stamp.{Stamp}
use Rattle.fw_time.specs.NestLaws.{single, single-apart}
use Rattle.fw_time.proofs.StampLaws.{same-is}
use Rattle.fw_bag.specs.Arrivals.{Arrival}
use Rattle.fw_frontier.specs.Below.{is_below}
use Rattle.fw_frontier.specs.Frontier.{Within}
use Rattle.fw_numbered.specs.declared.zip.Partners.{Partners}
use Rattle.fw_numbered.specs.Zip.{partners_at, are_both, are_settled, AreSettledBelow, kept_at, partners_in, goes_below}
use Rattle.fw_numbered.proofs.ZipLaws.{no_partners}

-- what a look-up finds in the entries that pass a test of key and value
module _ {X : Type 0} (p : ℕ × X → Bool) (q : ℕ) where
  abbrev at : ℕ → Bool
  at k = is_at (nat_cmp q) k

  exact : (k : ℕ) → at k ≡ true → k ≡ q
  exact k h = sym (single q k (same-is (q ∷ []) (k ∷ []) (sym (single-apart q k) ∙ h)))

  picked : (e : ℕ × X) (rest : List (ℕ × X)) (a : Bool)
      → lookup at (cond a (e ∷ rest) rest) ≡ cond a (cond (at e.0) (Some e.1) (lookup at rest)) (lookup at rest)
  picked e rest true = refl
  picked e rest false = refl

  either : (a : Bool) (o : Option X) → cond a o o ≡ o
  either true o = refl
  either false o = refl

  found-filter : (es : List (ℕ × X)) → IsDistinct (λ x y. is_at (nat_cmp x) y) (keys_of es) → lookup at (filter p es) ≡ option_filter (λ v. p (q, v)) (lookup at es)
  found-filter [] d = refl
  found-filter (e ∷ es) d =
      picked e (filter p es) (p e) ∙ by (found-filter es (IsDistinct-tail (λ x y. is_at (nat_cmp x) y) e.0 (keys_of es) d)) (at e.0) refl
    where
      by : lookup at (filter p es) ≡ option_filter (λ v. p (q, v)) (lookup at es) → (b : Bool) → at e.0 ≡ b
          → cond (p e) (cond (at e.0) (Some e.1) (lookup at (filter p es))) (lookup at (filter p es))
          ≡ option_filter (λ v. p (q, v)) (cond (at e.0) (Some e.1) (lookup at es))
      by later true s =
          let gone : lookup at es ≡ None = lookup-none at es (none_past_head (eq_by_cmp_equiv nat_cmp_total) q e es d s) in
          let none : lookup at (filter p es) ≡ None = later ∙ ap (option_filter (λ v. p (q, v))) gone in
          (λ i. cond (p e) (cond (s i) (Some e.1) (none i)) (none i))
          ∙ ap (λ k. cond (p (k, e.1)) (Some e.1) None) (exact e.0 s)
          ∙ sym (ap (λ b. option_filter (λ v. p (q, v)) (cond b (Some e.1) (lookup at es))) s)
      by later false s =
          (λ i. cond (p e) (cond (s i) (Some e.1) (lookup at (filter p es))) (lookup at (filter p es)))
          ∙ either (p e) (lookup at (filter p es)) ∙ later
          ∙ sym (ap (λ b. option_filter (λ v. p (q, v)) (cond b (Some e.1) (lookup at es))) s)

module _ (until : Option ℕ) (q : ℕ) where
  left-by : (v : Partners) (b : Bool) → partners_in (cond (not b) (Some v) None) ≡ cond b no_partners v
  left-by v true = refl
  left-by v false = refl

  left : (o : Option Partners) → partners_in (option_filter (λ v. not (goes_below until q v)) o) ≡ cond (goes_below until q (partners_in o)) no_partners (partners_in o)
  left None = refl
  left (Some v) = left-by v (goes_below until q v)

-- what was forgotten once is not there to be forgotten again
settled-twice : (m : Partners) (a w : Bool) → (w ≡ true → cond (are_both m && a) no_partners m ≡ no_partners)
    → cond (are_both (cond w no_partners m) && a) no_partners (cond w no_partners m) ≡ cond (are_both m && a) no_partners m
settled-twice m a true h = sym (h refl)
settled-twice m a false h = refl

-- what is left of a table once more is settled
pub zip_settled : (settled after : Stamp → Bool) (old new : BTreeMap ℕ Partners) (until : Option ℕ) (came : List Arrival)
    → IsStrictlySortedBy nat_cmp (keys_of old.entries)
    → new.entries ≡ filter (λ (e : ℕ × Partners). not (goes_below until e.0 e.1)) old.entries
    → AreSettledBelow until after → Within settled after
    → ((n : ℕ) → partners_in (get nat_cmp old n) ≡ kept_at settled n came)
    → (n : ℕ) → partners_in (get nat_cmp new n) ≡ kept_at after n came
zip_settled settled after old new until came sorted is agree within z = λ n.
    let m = partners_at n came in
    let found : get nat_cmp new n ≡ option_filter (λ v. not (goes_below until n v)) (get nat_cmp old n) =
    ap (lookup (λ k. is_at (nat_cmp n) k)) is
    ∙ found-filter (λ (e : ℕ × Partners). not (goes_below until e.0 e.1)) n old.entries (IsDistinct-from_sorted nat_cmp (keys_of old.entries) sorted) in
    ap partners_in found ∙ left until n (get nat_cmp old n)
    ∙ ap (λ k. cond (are_both k && is_below until n) no_partners k) (z n)
    ∙ ap (λ b. cond (are_both (kept_at settled n came) && b) no_partners (kept_at settled n came)) (agree n)
    ∙ settled-twice m (are_settled after n) (are_both m && are_settled settled n)
    (λ h.
    let both = and_parts (are_both m) (are_settled settled n) h in
    let sides = and_parts (settled ((n + 1) ∷ 0 ∷ [])) (settled (0 ∷ (n + 1) ∷ [])) both.1 in
    ap (λ b. cond b no_partners m)
    (and_from (are_both m) (are_settled after n) both.0
    (and_from (after ((n + 1) ∷ 0 ∷ [])) (after (0 ∷ (n + 1) ∷ [])) (within ((n + 1) ∷ 0 ∷ []) sides.0) (within (0 ∷ (n + 1) ∷ []) sides.1))))
