-- The greatest number of batches of an input.
use Rattle.std.proofs.Common.{◌≡◌, ℕ, ◌+◌, ◌<◌, ◌≤◌, List, [], length, map, sym, subst, ap, ◌∙◌, ◌⊎◌, inl, inr, arith, Bool, true, false, cond, refl}
use Rattle.std.proofs.lemmas.Bool.{cases_lt, cases_eq}
use Rattle.std.specs.Ordering.{is_lt, nat_cmp, ord_max}
use Rattle.std.proofs.lemmas.List.{get_or_past}
use Rattle.std.proofs.lemmas.List.FromFn.{get_or-map-range_with_len, length-map-range_with_len}
use Rattle.fw_bag.specs.declared.rec.Rec.{Rec}
use Rattle.fw_lines.specs.Batches.{batches_at}
use Rattle.fw_flow.specs.Dataflow.{Dataflow, System, system_of, batches_of, batches_of_nodes}
use Rattle.fw_stands.specs.Acknowledging.{IsGreatestCount}

-- No source below the n-th has more batches than so many, and some source has no fewer.
pub record IsGreatestOf (sys : System) (n count : ℕ) : Type 0 where
  pub most : (s : ℕ) → s < n → length (batches_of sys s) ≤ count
  pub some : (s : ℕ) × (count ≤ length (batches_of sys s))

pub batches_there : (flow : Dataflow) (batches : List (ℕ × List (List Rec))) (p : ℕ) → p < length flow.nodes
    → batches_of (system_of flow batches) p ≡ batches_at batches p
unfolding batches_of batches_of_nodes
batches_there flow batches p l = get_or-map-range_with_len (batches_at batches) 0 (length flow.nodes) p p [] l (omega arith)

pub batches_past : (flow : Dataflow) (batches : List (ℕ × List (List Rec))) (p : ℕ) → length flow.nodes ≤ p
    → batches_of (system_of flow batches) p ≡ []
unfolding batches_of batches_of_nodes
batches_past flow batches p l =
    get_or_past (map (batches_at batches) _) p []
    (omega (arith, length-map-range_with_len (batches_at batches) 0 (length flow.nodes)))

-- m is the greater of two numbers
record IsGreater (a b m : ℕ) : Type 0 where
  first : a ≤ m
  second : b ≤ m
  one : (m ≡ a) ⊎ (m ≡ b)

less-of : (a b : ℕ) → is_lt (nat_cmp b a) ≡ true → b < a
less-of a b e = grind arith

not_less-of : (a b : ℕ) → is_lt (nat_cmp b a) ≡ false → a ≤ b
not_less-of a b e = grind arith

greater : (a b m : ℕ) (less : Bool) → is_lt (nat_cmp b a) ≡ less → m ≡ cond less a b → IsGreater a b m
greater a b m true e is = let l = less-of a b e in record { first = omega (arith, is); second = omega (arith, is, l); one = inl is }
greater a b m false e is = let l = not_less-of a b e in record { first = omega (arith, is, l); second = omega (arith, is); one = inr is }

-- of no source
pub greatest-none : (sys : System) → IsGreatestOf sys 0 0
greatest-none sys = record { most = λ s l. absurd (omega arith); some = (0, omega arith) }

greatest-next : (sys : System) (n old new : ℕ) → IsGreatestOf sys n old → old ≤ new → length (batches_of sys n) ≤ new
    → (new ≡ old) ⊎ (new ≡ length (batches_of sys n)) → IsGreatestOf sys (n + 1) new
greatest-next sys n old new g o l e = record {
  most = λ s k. elim (cases_eq n s) [
    | inl same ↦ subst (λ q. length (batches_of sys q) ≤ new) same l
    | inr other ↦ let m : length (batches_of sys s) ≤ old = g.most s (omega (arith, k, other)) in omega (arith, m, o)
  ];
  some = elim e [
    | inl same ↦ let m : old ≤ length (batches_of sys g.some.0) = g.some.1 in (g.some.0, omega (arith, m, same))
    | inr here ↦ (n, omega (arith, here))
  ];
}

-- of one source more
pub greatest-more : (flow : Dataflow) (batches : List (ℕ × List (List Rec))) (n place count old new : ℕ)
    → n < length flow.nodes → IsGreatestOf (system_of flow batches) n old → place ≡ n → count ≡ length (batches_at batches place)
    → new ≡ ord_max nat_cmp old count → IsGreatestOf (system_of flow batches) (n + 1) new
greatest-more flow batches n place count old new l g p c e =
    let here : count ≡ length (batches_of (system_of flow batches) n) =
    c ∙ ap (λ q. length (batches_at batches q)) p ∙ sym (ap length (batches_there flow batches n l)) in
    let m = greater old count new (is_lt (nat_cmp count old)) refl e in
    greatest-next (system_of flow batches) n old new g m.first (subst (λ k. k ≤ new) here m.second) (subst (λ k. (new ≡ old) ⊎ (new ≡ k)) here m.one)

-- of all
pub greatest-all : (flow : Dataflow) (batches : List (ℕ × List (List Rec))) (n count : ℕ) → length flow.nodes ≤ n
    → IsGreatestOf (system_of flow batches) n count → IsGreatestCount (system_of flow batches) count
greatest-all flow batches n count l g = record {
  most = λ s. elim (cases_lt s n) [
    | inl k ↦ g.most s k
    | inr k ↦ let none : length (batches_of (system_of flow batches) s) ≡ 0 = ap length (batches_past flow batches s (omega (arith, l, k))) in omega (arith, none)
  ];
  some = g.some;
}
