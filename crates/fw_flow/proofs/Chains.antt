-- The loops that a domain lies in.
use Rattle.std.proofs.Common.{◌≡◌, ℕ, zero, suc, ◌+◌, ◌≤◌, Bool, true, false, ◌==◌, cond, List, [], ◌∷◌, length, Option, Some, None, length-append, refl, sym, ap, ◌∙◌, inl, inr, arith}
use Rattle.std.proofs.lemmas.Bool.{cases_Bool, or_cases, eqb-true}
use Rattle.fw_time.specs.Stamp.{Stamp, nest}
use Rattle.fw_flow.specs.declared.kind.Domain.{Domain}
use Rattle.fw_flow.specs.declared.kind.Domain.TheVariants.{Epoch, Number, Loop as InLoop}
use Rattle.fw_flow.specs.Dataflow.{Dataflow, max_of, domain_within, is_of_numbers, declared_parent, ends_within, parent_of, loops_within, loops_of, greatest_in, greatest_of, is_one_of, is_domain_within}

ends-more : (flow : Dataflow) (n : ℕ) (o : Option ℕ) → ends_within n flow o ≡ true → ends_within (suc n) flow o ≡ true
ends-more flow n None h = refl
ends-more flow zero (Some l) h = absurd (cc)
ends-more flow (suc n) (Some l) h = ends-more flow n (declared_parent flow l) h

ends-three : (flow : Dataflow) (n : ℕ) (o : Option ℕ) (m : ℕ) → n + m ≡ 3 → ends_within n flow o ≡ true → ends_within 3 flow o ≡ true
ends-three flow n o zero e h = let s : n ≡ 3 = omega arith in sym (ap (λ k. ends_within k flow o) s) ∙ h
ends-three flow n o (suc m) e h = ends-three flow (suc n) o m (omega arith) (ends-more flow n o h)

-- where the chain ends, the parent domain is that of the loop in which this one is declared
pub parent-declared : (flow : Dataflow) (l : ℕ) → ends_within 3 flow (Some l) ≡ true → parent_of flow l ≡ domain_within (declared_parent flow l)
unfolding parent_of
parent-declared flow l h = ap (λ b. cond b (domain_within (declared_parent flow l)) Epoch) h

parent-none : (flow : Dataflow) (l : ℕ) → ends_within 3 flow (Some l) ≡ false → parent_of flow l ≡ Epoch
unfolding parent_of
parent-none flow l h = ap (λ b. cond b (domain_within (declared_parent flow l)) Epoch) h

-- looking through one loop more finds no more
loops-enough : (flow : Dataflow) (n m : ℕ) → n + m ≡ 3 → (o : Option ℕ) → ends_within n flow o ≡ true
    → loops_within n flow (domain_within o) ≡ loops_within (suc n) flow (domain_within o)
loops-enough flow n m e None h = refl
loops-enough flow zero m e (Some l) h = absurd (cc)
loops-enough flow (suc n) m e (Some l) h =
    let is = parent-declared flow l (ends-three flow (suc n) (Some l) m e h) in
    ap (λ d. l ∷ loops_within n flow d) is
    ∙ ap (λ ls. l ∷ ls) (loops-enough flow n (suc m) (omega arith) (declared_parent flow l) h)
    ∙ sym (ap (λ d. l ∷ loops_within (suc n) flow d) is)

parent-enough : (flow : Dataflow) (l : ℕ) → loops_within 2 flow (parent_of flow l) ≡ loops_within 3 flow (parent_of flow l)
parent-enough flow l = elim (cases_Bool (ends_within 3 flow (Some l))) [
  | inl h ↦
      let is = parent-declared flow l h in
      ap (loops_within 2 flow) is ∙ loops-enough flow 2 1 refl (declared_parent flow l) h ∙ sym (ap (loops_within 3 flow) is)
  | inr h ↦ let is = parent-none flow l h in ap (loops_within 2 flow) is ∙ sym (ap (loops_within 3 flow) is)
]

pub loops-unfold : (flow : Dataflow) (l : ℕ) → loops_of flow (InLoop l) ≡ l ∷ loops_of flow (parent_of flow l)
unfolding loops_of
loops-unfold flow l = ap (λ ls. l ∷ ls) (parent-enough flow l)

loops_within-few : (flow : Dataflow) (n : ℕ) (d : Domain) → length (loops_within n flow d) ≤ n
loops_within-few flow n Epoch = omega arith
loops_within-few flow n Number = omega arith
loops_within-few flow zero (InLoop l) = omega arith
loops_within-few flow (suc n) (InLoop l) = let a = loops_within-few flow n (parent_of flow l) in omega arith

pub loops-few : (flow : Dataflow) (d : Domain) → length (loops_of flow d) ≤ 3
unfolding loops_of
loops-few flow d = loops_within-few flow 3 d

-- the greatest stamp of a domain, by the loops that it lies in
pub greatest-in : (flow : Dataflow) (d : Domain) → greatest_in flow (loops_of flow d) ≡ greatest_of flow d
unfolding loops_of
greatest-in flow Epoch = refl
greatest-in flow Number = refl
greatest-in flow (InLoop l) = ap (greatest_in flow) (loops-unfold flow l)

-- the greatest stamp of a loop's parent domain, as the greatest stamp of the loop has it
abbrev pub outer_greatest : Dataflow → ℕ → Stamp
outer_greatest flow l = greatest_in flow (loops_of flow (parent_of flow l))

pub outer_greatest-is : (flow : Dataflow) (l : ℕ) → outer_greatest flow l ≡ greatest_of flow (parent_of flow l)
outer_greatest-is flow l = greatest-in flow (parent_of flow l)

-- the domain of a loop has the stamps of its parent domain, each with a counter
pub greatest-unfold : (flow : Dataflow) (l : ℕ) → greatest_of flow (InLoop l) ≡ nest (greatest_of flow (parent_of flow l)) (max_of flow l)
greatest-unfold flow l = ap (λ g. nest g (max_of flow l)) (greatest-in flow (parent_of flow l))

greatest_in-length : (flow : Dataflow) (ls : List ℕ) → length (greatest_in flow ls) ≡ 1 + length ls
greatest_in-length flow [] = refl
greatest_in-length flow (l ∷ ls) =
    let a = length-append (greatest_in flow ls) (max_of flow l ∷ []) in
    let b = greatest_in-length flow ls in
    omega arith

-- the greatest stamp of a domain has an epoch or a number, and a counter for each loop
pub greatest-length : (flow : Dataflow) (d : Domain) → length (greatest_of flow d) ≡ 1 + length (loops_of flow d)
greatest-length flow d = sym (ap length (greatest-in flow d)) ∙ greatest_in-length flow (loops_of flow d)

-- a parent domain lies in two loops at most
pub parent-few : (flow : Dataflow) (l : ℕ) → length (loops_of flow (parent_of flow l)) ≤ 2
parent-few flow l = let a = loops-few flow (InLoop l) in let b = ap length (loops-unfold flow l) in omega arith

-- a parent domain is not that of numbers
pub parent-no_number : (flow : Dataflow) (l : ℕ) → is_of_numbers (parent_of flow l) ≡ false
unfolding parent_of
parent-no_number flow l = by (ends_within 3 flow (Some l)) (declared_parent flow l)
  where
    by : (b : Bool) (o : Option ℕ) → is_of_numbers (cond b (domain_within o) Epoch) ≡ false
    by true None = refl
    by true (Some k) = refl
    by false o = refl

-- ---- which loops a domain lies in

pub one_of-length : (flow : Dataflow) (l : ℕ) (n : ℕ) (d : Domain) → is_one_of l (loops_within n flow d) ≡ true → length (loops_of flow (InLoop l)) ≤ length (loops_of flow d)
unfolding loops_of
one_of-length flow l n Epoch h = absurd (cc)
one_of-length flow l n Number h = absurd (cc)
one_of-length flow l zero (InLoop k) h = absurd (cc)
one_of-length flow l (suc n) (InLoop k) h = elim (or_cases (k == l) (is_one_of l (loops_within n flow (parent_of flow k))) h) [
  | inl same ↦
      let is : k ≡ l = eqb-true k l same in
      let e = ap (λ x. length (loops_within 3 flow (InLoop x))) is in
      omega arith
  | inr other ↦
      let less = one_of-length flow l n (parent_of flow k) other in
      let e = ap length (loops-unfold flow k) in
      omega arith
]

-- what lies in a loop is at least as deep as the loop
pub within-depth : (flow : Dataflow) (l : ℕ) (d : Domain) → is_domain_within flow l d ≡ true → length (loops_of flow (InLoop l)) ≤ length (loops_of flow d)
unfolding loops_of
within-depth flow l d h = one_of-length flow l 3 d h

-- a loop is no loop that its parent domain lies in
pub not_own_parent : (flow : Dataflow) (l : ℕ) → is_domain_within flow l (parent_of flow l) ≡ true → ⊥
unfolding loops_of
not_own_parent flow l h =
    let less = one_of-length flow l 3 (parent_of flow l) h in
    let e = ap length (loops-unfold flow l) in
    omega arith
