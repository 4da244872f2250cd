-- Widening until no node can be widened: what each step keeps, that it ends, and what it comes to.
use Rattle.std.proofs.Common.{◌≡◌, ◌≢◌, ℕ, suc, ◌+◌, ◌*◌, ◌<◌, ◌≤◌, Bool, false, ◌||◌, ◌==◌, nat_lt, List, [], ◌∷◌, length, refl, sym, ap, subst, ◌∙◌, inl, inr, arith}
use Rattle.std.specs.List.{list_all}
use Rattle.std.proofs.Math.Nat.{mul-le-mul_left}
use Rattle.std.proofs.lemmas.Bool.{and_parts, cases_eq, eqb-true, false_from_ne_true, ltb-true, both_ways}
use Rattle.fw_frontier.specs.Front.{Front}
use Rattle.fw_flow.specs.Dataflow.{Dataflow}
use Rattle.fw_model.specs.Machine.{family_of, AreCanonical}
use Rattle.fw_progress.specs.declared.counts.Counts.{Counts}
use Rattle.fw_progress.specs.declared.growth.Growth.{Growth}
use Rattle.fw_progress.specs.Counts.{IsAdmissibleBy, IsStuckBy, is_in, AreStuckOutside, AreNodes}
use Rattle.fw_progress.specs.Growths.{AreGrowths, out_degrees, HaveGrown}
use Rattle.fw_progress.specs.Refresh.{IsTakenUp, AreTakenInTurn, IsRefreshed}
use Rattle.fw_progress.proofs.GrowLaws.{outside_count, growths_outside, degrees-append, degrees-few, growths-append, grown_then}

-- how far a refresh has come
pub record IsRefreshing (flow : Dataflow) (counts : Counts) (first : List Front) (start : List ℕ) (begun : ℕ) (fronts : List Front) (work : List ℕ) (growths : List Growth) (steps : ℕ) : Type 0 where
  pub one_each : length fronts ≡ length flow.nodes
  pub canonical : AreCanonical flow fronts
  pub nodes : AreNodes flow work
  pub admissible : IsAdmissibleBy flow counts (family_of flow first) → IsAdmissibleBy flow counts (family_of flow fronts)
  pub stuck : IsAdmissibleBy flow counts (family_of flow first) → AreStuckOutside flow counts first start → AreStuckOutside flow counts fronts work
  pub grown : AreGrowths flow first growths fronts
  pub bound : steps + length work ≤ begun + length start + out_degrees flow growths
  pub each_taken : begun + length start ≤ steps + length work
  pub count : ℕ
  pub taken : AreTakenInTurn flow counts count first fronts start work [] growths
  pub counted : steps ≡ begun + count
  pub still : start ≡ [] → (work ≡ []) × (fronts ≡ first)

-- where a node was taken up frontiers grew, by the leap and after it
taken-grew : (flow : Dataflow) (counts : Counts) (p : ℕ) (old new : List Front) (work rest : List ℕ) (growths more : List Growth)
    → IsTakenUp flow counts p old new work rest growths more → HaveGrown flow counts old new work rest growths more
taken-grew flow counts p old new work rest growths more t =
    grown_then flow counts old t.mid new work t.between rest growths t.some more t.leapt.grew t.widened.grew

-- how much is left
unfoldable pub left_over : Dataflow → List Front → List ℕ → ℕ
left_over flow fronts work = outside_count flow fronts * (length flow.edges + 1) + length work

pub start_refreshing : (flow : Dataflow) (counts : Counts) (first : List Front) (start : List ℕ) (begun : ℕ) (growths : List Growth) → length first ≡ length flow.nodes → AreCanonical flow first → AreNodes flow start
    → growths ≡ [] → IsRefreshing flow counts first start begun first start growths begun
start_refreshing flow counts first start begun growths one c n e = record {
  one_each = one;
  canonical = c;
  nodes = n;
  admissible = λ a. a;
  stuck = λ a s. s;
  grown = subst (λ gs. AreGrowths flow first gs first) (sym e) refl;
  bound = omega arith;
  each_taken = omega arith;
  count = 0;
  taken = (refl, refl, e);
  counted = omega arith;
  still = λ k. (k, refl);
}

-- the node that is taken is one of the flow
pub first_node : (flow : Dataflow) (work rest : List ℕ) (p : ℕ) → work ≡ p ∷ rest → AreNodes flow work → (p < length flow.nodes) × AreNodes flow rest
first_node flow work rest p e n =
    let test : ℕ → Bool = λ q. nat_lt q (length flow.nodes) in
    let both = and_parts (test p) (list_all test rest) (sym (ap (list_all test) e) ∙ n) in
    (ltb-true p (length flow.nodes) both.0, both.1)

-- a node that is not among the others and is not the first one
pub not_in-first : (xs : List ℕ) (x q : ℕ) → q ≢ x → is_in xs q ≡ false → is_in (x ∷ xs) q ≡ false
not_in-first xs x q n k = ap (λ b. b || is_in xs q) (false_from_ne_true (x == q) (λ e. n (sym (eqb-true x q e)))) ∙ k

-- where no node waits, none is taken
none_taken : {A : Type 0} {work mid : List ℕ} {p : ℕ} → work ≡ [] → work ≡ p ∷ mid → A
none_taken k e = absurd (cc (k, e))

pub taken_step : (flow : Dataflow) (counts : Counts) (first : List Front) (start : List ℕ) (begun : ℕ) (fronts new : List Front) (work mid rest : List ℕ) (p : ℕ) (growths more : List Growth) (steps next : ℕ)
    → work ≡ p ∷ mid → next ≡ steps + 1 → IsRefreshing flow counts first start begun fronts work growths steps
    → IsTakenUp flow counts p fronts new mid rest growths more → IsRefreshing flow counts first start begun new rest more next
taken_step flow counts first start begun fronts new work mid rest p growths more steps next e s r u =
    let g = taken-grew flow counts p fronts new mid rest growths more u in
    let there = first_node flow work mid p e r.nodes in
    let long : length work ≡ length mid + 1 = ap length e ∙ (omega arith) in
    let few = g.few in
    let none_out = g.none_out in
    let b = r.bound in
    let t = r.each_taken in
    let d = ap (out_degrees flow) g.listed ∙ degrees-append flow growths g.added in
    record {
      one_each = g.one_each ∙ r.one_each;
      canonical = g.canonical r.canonical;
      nodes = g.nodes there.1;
      admissible = λ k. u.widened.admissible (u.leapt.admissible (r.admissible k));
      stuck = λ k j q l out. elim (cases_eq q p) [
        | inl i ↦ subst (IsStuckBy flow counts new) (sym i) (u.widened.stuck (u.leapt.admissible (r.admissible k)) (sym (ap (is_in rest) i) ∙ out))
        | inr n ↦
            let free : is_in mid q ≡ false = false_from_ne_true (is_in mid q) (λ m. both_ways (is_in rest q) out (g.stays q m)) in
            g.leaves q l out (r.stuck k j q l (ap (λ xs. is_in xs q) e ∙ not_in-first mid p q n free))
      ];
      grown = subst (λ gs. AreGrowths flow first gs new) (sym g.listed) (growths-append flow first growths fronts g.added new r.grown g.grown);
      bound = omega arith;
      each_taken = omega arith;
      count = suc r.count;
      taken = (fronts, work, growths, r.taken, record { node = p; left = mid; first = e; taken = u });
      counted = omega (arith, s, r.counted);
      still = λ k. none_taken (r.still k).0 e;
    }

pub falls : (m k a b r q d : ℕ) → a + k ≤ b → r ≤ q + d → d ≤ k * m → a * (m + 1) + r < b * (m + 1) + (q + 1)
falls m k a b r q d h i j =
    let x : (a + k) * (m + 1) ≤ b * (m + 1) = times (m + 1) (a + k) b h in
    omega arith
  where
    times : (n i j : ℕ) → i ≤ j → i * n ≤ j * n
    times n i j l = omega (arith, mul-le-mul_left n l)

pub taken_falls : (flow : Dataflow) (counts : Counts) (fronts new : List Front) (work mid rest : List ℕ) (p : ℕ) (growths more : List Growth)
    → length fronts ≡ length flow.nodes → work ≡ p ∷ mid
    → IsTakenUp flow counts p fronts new mid rest growths more → left_over flow new rest < left_over flow fronts work
unfolding left_over
taken_falls flow counts fronts new work mid rest p growths more one e u =
    let g = taken-grew flow counts p fronts new mid rest growths more u in
    let long : length work ≡ length mid + 1 = ap length e ∙ (omega arith) in
    let less = growths_outside flow fronts g.added new one g.grown in
    let h = falls (length flow.edges) (length g.added) (outside_count flow new) (outside_count flow fronts) (length rest) (length mid) (out_degrees flow g.added) less g.few (degrees-few flow g.added) in
    subst (λ n. outside_count flow new * (length flow.edges + 1) + length rest < outside_count flow fronts * (length flow.edges + 1) + n) (sym long) h

-- ---- the end

pub refreshed : (flow : Dataflow) (counts : Counts) (first : List Front) (start : List ℕ) (begun : ℕ) (fronts : List Front) (work rest : List ℕ) (growths : List Growth) (steps : ℕ)
    → work ≡ [] → rest ≡ [] → IsRefreshing flow counts first start begun fronts work growths steps → IsRefreshed flow counts first fronts start rest growths begun steps
refreshed flow counts first start begun fronts work rest growths steps e n r =
    let b = r.bound in
    let t = r.each_taken in
    let none : length work ≡ 0 = ap length e in
    record {
      one_each = r.one_each;
      canonical = r.canonical;
      admissible = r.admissible;
      stuck = λ a k p l out. r.stuck a k p l (ap (λ xs. is_in xs p) e);
      grown = r.grown;
      count = r.count;
      taken = subst (λ ps. AreTakenInTurn flow counts r.count first fronts start ps [] growths) (e ∙ sym n) r.taken;
      steps = r.counted;
      bound = omega arith;
      each_taken = omega arith;
      none_waits = n;
      still = λ k. (r.still k).1;
    }
