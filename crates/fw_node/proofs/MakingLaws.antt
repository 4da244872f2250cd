-- What the tables of nodes need of a well-formed flow.
use Rattle.std.proofs.Common.{◌≡◌, ℕ, ◌+◌, ◌^◌, ◌<◌, ◌≤◌, Bool, true, false, ◌==◌, cond, List, [], ◌∷◌, length, refl, sym, ap, subst, inl, inr, arith}
use Rattle.std.specs.Prelude.{◌||◌}
use Rattle.std.specs.List.{list_any}
use Rattle.std.proofs.lemmas.Bool.{cases_lt}
use Rattle.fw_flow.specs.declared.kind.Domain.{Domain}
use Rattle.fw_flow.specs.declared.kind.Domain.TheVariants.{Loop as InLoop}
use Rattle.fw_flow.specs.Kind.{Kind}
use Rattle.fw_flow.specs.declared.kind.Kind.TheVariants as kind
use Rattle.fw_flow.specs.Dataflow.{Dataflow, kind_of, in_edges, bounds_of, domain_of_kind, greatest_of, parent_of, greatest_of_kind}
use Rattle.fw_flow.specs.WellFormed.{IsWellFormed, IsGroupSize, IsInDegree}
use Rattle.fw_flow.proofs.Chains.{greatest-length, loops-unfold, parent-few}
use Rattle.fw_flow.proofs.EdgeLaws.{group_size, kind-past}
use Rattle.fw_node.specs.Arrived.{place_in, IsOneOf}
use Rattle.fw_node.specs.Kinds.{may_be_looped, is_timed}
use Rattle.fw_node.specs.TimedTable.{IsSideOf}

-- ---- groups

-- a node of a well-formed flow regroups by some numbers
pub some_group : (flow : Dataflow) (p n : ℕ) → IsWellFormed flow → kind_of flow p ≡ kind.Regroup n → 0 < n
some_group flow p n w e =
    let P : Kind → Type 0 = λ k. IsGroupSize k in
    let h = (subst P e (group_size flow w p)).0 in
    omega arith

-- and by fewer than 2^32
pub few_group : (flow : Dataflow) (p n : ℕ) → IsWellFormed flow → kind_of flow p ≡ kind.Regroup n → n < 2 ^ 32
few_group flow p n w e = let P : Kind → Type 0 = λ k. IsGroupSize k in (subst P e (group_size flow w p)).1

-- ---- places of in-edges

place_step : (d e : ℕ) (ins : List ℕ) → (IsOneOf ins e → place_in ins e < length ins) → (b : Bool) → (d == e) ≡ b
    → (b || list_any (λ i. i == e) ins) ≡ true → cond b 0 (place_in ins e + 1) < length (d ∷ ins)
place_step d e ins h true i k = omega arith
place_step d e ins h false i k = let l = h k in omega arith

place-below : (ins : List ℕ) (e : ℕ) → IsOneOf ins e → place_in ins e < length ins
place-below [] e h = absurd (cc)
place-below (d ∷ ins) e h = place_step d e ins (place-below ins e) (d == e) refl h

side_of_degree : (k : Kind) (n side : ℕ) → IsInDegree k n → side < n → IsSideOf k side
side_of_degree (kind.Join w) n side d l = omega (arith, d)
side_of_degree kind.Input n side d l = tt
side_of_degree _ n side d l = tt

any_side : (k : Kind) (side : ℕ) → k ≡ kind.OutputEpoch → IsSideOf k side
any_side k side e = let P : Kind → Type 0 = λ x. IsSideOf x side in subst P (sym e) tt

-- each in-edge of a node has a place that its kind has
pub places_fit : (flow : Dataflow) (p : ℕ) → IsWellFormed flow → (e : ℕ) → IsOneOf (in_edges flow p) e → IsSideOf (kind_of flow p) (place_in (in_edges flow p) e)
places_fit flow p w e h = elim (cases_lt p (length flow.nodes)) [
  | inl l ↦ side_of_degree (kind_of flow p) (length (in_edges flow p)) (place_in (in_edges flow p) e) (w.in_degrees p l) (place-below (in_edges flow p) e h)
  | inr l ↦ any_side (kind_of flow p) (place_in (in_edges flow p) e) (kind-past flow p l)
]

-- ---- dimensions

pub bounds-kind : (flow : Dataflow) (p : ℕ) (k : Kind) → kind_of flow p ≡ k → length (bounds_of flow p).greatest ≡ length (greatest_of_kind flow k)
unfolding bounds_of
bounds-kind flow p k e = ap (λ x. length (greatest_of flow (domain_of_kind flow x))) e

pub some_dimension : (flow : Dataflow) (d : Domain) → 1 ≤ length (greatest_of flow d)
some_dimension flow d = let a = greatest-length flow d in omega arith

-- a loop's stamps have a counter
pub loop_dimension : (flow : Dataflow) (l : ℕ) → 2 ≤ length (greatest_of flow (InLoop l))
loop_dimension flow l =
    let a = greatest-length flow (InLoop l) in
    let b = ap length (loops-unfold flow l) in
    omega arith

-- the stamps of a parent domain leave room for a counter
pub parent_dimension : (flow : Dataflow) (l : ℕ) → length (greatest_of flow (parent_of flow l)) ≤ 3
parent_dimension flow l =
    let a = greatest-length flow (parent_of flow l) in
    let b = parent-few flow l in
    omega arith

-- a node that leads round a loop or out of it is in a loop
pub deep_enough : (flow : Dataflow) (k : Kind) → may_be_looped k ≡ true → is_timed k ≡ false → 2 ≤ length (greatest_of_kind flow k)
deep_enough flow (kind.Feedback l) h t = loop_dimension flow l
deep_enough flow (kind.Leave l) h t = loop_dimension flow l
deep_enough flow (kind.Select s w) h t = cc
deep_enough flow (kind.Concat w) h t = cc
deep_enough flow (kind.Distinct w) h t = cc
deep_enough flow (kind.Join w) h t = cc
deep_enough flow (kind.Sum w) h t = cc
deep_enough flow k h t = cc

-- the kinds that are left where others are not
pub looped_left : (k : Kind) → (k ≡ kind.Input → ⊥) → (k ≡ kind.OutputEpoch → ⊥) → (k ≡ kind.OutputNumber → ⊥) → ((l : ℕ) → k ≡ kind.Enter l → ⊥)
    → (k ≡ kind.Total → ⊥) → (k ≡ kind.Sequence → ⊥) → (k ≡ kind.Ledger → ⊥) → ((n : ℕ) → k ≡ kind.Regroup n → ⊥) → may_be_looped k ≡ true
looped_left kind.Input a b c d e f g h = absurd (a refl)
looped_left kind.OutputEpoch a b c d e f g h = absurd (b refl)
looped_left kind.OutputNumber a b c d e f g h = absurd (c refl)
looped_left (kind.Enter l) a b c d e f g h = absurd (d l refl)
looped_left kind.Total a b c d e f g h = absurd (e refl)
looped_left kind.Sequence a b c d e f g h = absurd (f refl)
looped_left kind.Ledger a b c d e f g h = absurd (g refl)
looped_left (kind.Regroup n) a b c d e f g h = absurd (h n refl)
looped_left _ a b c d e f g h = refl
