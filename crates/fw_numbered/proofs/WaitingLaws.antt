-- What waits, after an epoch is gone.
use Rattle.std.proofs.Common.{◌≡◌, ℕ, Bool, true, false, cond, not, List, [], ◌∷◌, Option, None, refl, sym, ap, ◌∙◌, subst}
use Rattle.std.specs.Prelude.{◌||◌}
use Rattle.std.specs.Ordering.{nat_cmp}
use Rattle.std.specs.Map.{lookup}
use Rattle.std.specs.BTreeMap.{BTreeMap, get, is_at}
use Rattle.fw_time.specs.Stamp.{Stamp, same}
use Rattle.fw_time.specs.declared.time.Epoch.{Epoch}
use Rattle.fw_bag.specs.Arrivals.{Arrival, arrivals_at, arrivals_inside}
use Rattle.fw_table.specs.Content.{IsContentOf, IsTable}
use Rattle.fw_time.specs.NestLaws.{single-apart}
use Rattle.fw_time.proofs.StampLaws.{same-is}
use Rattle.fw_bag.proofs.ArrivalLaws.{at-inside}
use Rattle.fw_totals.proofs.GatherLaws.{same_swap}
use Rattle.fw_numbered.specs.declared.sequence.Held.{Held}
use Rattle.fw_numbered.specs.Sequence.{holds_bag}

abbrev first : Stamp → ℕ
first [] = 0
first (x ∷ s) = x

module _ (gone : Stamp → Bool) (came : List Arrival) (t : Epoch) where
  abbrev at_t : Stamp
  at_t = t.0 ∷ []

  removed_cases : (u : Stamp) (o : Option Held) → IsContentOf holds_bag o (arrivals_at u (arrivals_inside (λ s. not (gone s)) came)) → (b : Bool) → same u at_t ≡ b
      → IsContentOf holds_bag (cond b None o) (arrivals_at u (arrivals_inside (λ s. not (same s at_t || gone s)) came))
  removed_cases u o h true e =
      at-inside u (λ s. not (same s at_t || gone s)) came ∙ ap (λ b. cond (not (b || gone u)) (arrivals_at u came) []) e
  removed_cases u o h false e =
      let P : List Arrival → Type 0 = λ xs. IsContentOf holds_bag o xs in
      subst P (at-inside u (λ s. not (gone s)) came
      ∙ sym (at-inside u (λ s. not (same s at_t || gone s)) came ∙ ap (λ b. cond (not (b || gone u)) (arrivals_at u came) []) e)) h

  -- without the content of an epoch the table is that of what waits without it
  pub removed : (old new : BTreeMap Epoch Held)
      → ((q : Epoch) → get (λ (x y : Epoch). nat_cmp x.0 y.0) new q ≡ cond (is_at (λ (y : Epoch). nat_cmp t.0 y.0) q) None (get (λ (x y : Epoch). nat_cmp x.0 y.0) old q))
      → IsTable (λ (x y : Epoch). nat_cmp x.0 y.0) (λ (x : Epoch). x.0 ∷ []) holds_bag old (arrivals_inside (λ s. not (gone s)) came)
      → IsTable (λ (x y : Epoch). nat_cmp x.0 y.0) (λ (x : Epoch). x.0 ∷ []) holds_bag new (arrivals_inside (λ s. not (same s at_t || gone s)) came)
  removed old new u r = λ q.
      let P : Option Held → Type 0 = λ o. IsContentOf holds_bag o (arrivals_at (q.0 ∷ []) (arrivals_inside (λ s. not (same s at_t || gone s)) came)) in
      subst P (sym (u q ∙ ap (λ b. cond b None (get (λ (x y : Epoch). nat_cmp x.0 y.0) old q)) (single-apart t.0 q.0 ∙ same_swap at_t (q.0 ∷ []))))
      (removed_cases (q.0 ∷ []) (get (λ (x y : Epoch). nat_cmp x.0 y.0) old q) (r q) (same (q.0 ∷ []) at_t) refl)

  none_cases : (old : BTreeMap Epoch Held) → get (λ (x y : Epoch). nat_cmp x.0 y.0) old t ≡ None → (q : Epoch) → (b : Bool) → is_at (λ (y : Epoch). nat_cmp t.0 y.0) q ≡ b
      → get (λ (x y : Epoch). nat_cmp x.0 y.0) old q ≡ cond b None (get (λ (x y : Epoch). nat_cmp x.0 y.0) old q)
  none_cases old n q true e =
      ap (λ i. lookup (is_at (λ (y : Epoch). nat_cmp i y.0)) old.entries) (sym (ap first (same-is at_t (q.0 ∷ []) (sym (single-apart t.0 q.0) ∙ e)))) ∙ n
  none_cases old n q false e = refl

  -- where there is none, none is taken out
  pub none_removed : (old : BTreeMap Epoch Held) → get (λ (x y : Epoch). nat_cmp x.0 y.0) old t ≡ None
      → IsTable (λ (x y : Epoch). nat_cmp x.0 y.0) (λ (x : Epoch). x.0 ∷ []) holds_bag old (arrivals_inside (λ s. not (gone s)) came)
      → IsTable (λ (x y : Epoch). nat_cmp x.0 y.0) (λ (x : Epoch). x.0 ∷ []) holds_bag old (arrivals_inside (λ s. not (same s at_t || gone s)) came)
  none_removed old n r = removed old old (λ q. none_cases old n q (is_at (λ (y : Epoch). nat_cmp t.0 y.0) q) refl) r

  -- what waits at an epoch that is not gone is all that came
  pub waits_now : gone at_t ≡ false → (o : Option Held) → IsContentOf holds_bag o (arrivals_at at_t (arrivals_inside (λ s. not (gone s)) came))
      → IsContentOf holds_bag o (arrivals_at at_t came)
  waits_now out o h =
      let P : List Arrival → Type 0 = λ xs. IsContentOf holds_bag o xs in
      subst P (at-inside at_t (λ s. not (gone s)) came ∙ ap (λ b. cond (not b) (arrivals_at at_t came) []) out) h

both_cases : (x y : Bool) (a : Arrival) (after : Stamp → Bool) (kept rest : List Arrival) → arrivals_inside (λ s. not (after s)) kept ≡ rest → after a.at ≡ x
    → arrivals_inside (λ s. not (after s)) (cond (not y) (a ∷ kept) kept) ≡ cond (not (x || y)) (a ∷ rest) rest
both_cases true true a after kept rest e k = e
both_cases false true a after kept rest e k = e
both_cases x false a after kept rest e k =
    ap (λ b. cond (not b) (a ∷ arrivals_inside (λ s. not (after s)) kept) (arrivals_inside (λ s. not (after s)) kept)) k
    ∙ ap (λ xs. cond (not x) (a ∷ xs) xs) e ∙ ap (λ b. cond (not b) (a ∷ rest) rest) (or_false x)
  where
    or_false : (b : Bool) → b ≡ (b || false)
    or_false true = refl
    or_false false = refl

-- what is outside both
pub outside_both : (gone after : Stamp → Bool) (came : List Arrival)
    → arrivals_inside (λ s. not (after s)) (arrivals_inside (λ s. not (gone s)) came) ≡ arrivals_inside (λ s. not (after s || gone s)) came
outside_both gone after [] = refl
outside_both gone after (a ∷ came) =
    both_cases (after a.at) (gone a.at) a after (arrivals_inside (λ s. not (gone s)) came) (arrivals_inside (λ s. not (after s || gone s)) came)
    (outside_both gone after came) refl
