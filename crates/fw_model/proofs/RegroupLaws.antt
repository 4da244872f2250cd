-- Where a node sends that regroups numbers: at the epoch of its group.
use Rattle.std.proofs.Common.{◌≡◌, ◌↔◌, ℕ, zero, suc, ◌+◌, ◌-◌, ◌*◌, ◌/◌, ◌≤◌, min, true, [], ◌∷◌, Some, refl, sym, ap, subst, ◌∙◌, arith}
use Rattle.std.proofs.lemmas.Bool.{and_from}
use Rattle.std.proofs.Math.Nat.{div-le_self, div-mul-le_self, div-lt_iff_lt-mul, le-div_iff_mul-le, mul-div_left, min-le_left, min-le_right, le-min, mul-le-mul_right}
use Rattle.fw_time.specs.Sending.{regrouped_stamp}
use Rattle.fw_time.specs.Stamp.{Stamp, leq, up_to}
use Rattle.fw_time.proofs.StampLaws.{leq-refl, leq-trans}
use Rattle.fw_frontier.specs.Frontier.{Frontier, IsFrontier}
use Rattle.fw_flow.specs.Dataflow.{greatest_of_kind, Dataflow, greatest_number}
use Rattle.fw_flow.specs.Projection.{phi_of_kind, psi_of_kind, first_coordinate}
use Rattle.fw_flow.specs.declared.kind.Kind.TheVariants.{Regroup}
use Rattle.fw_model.specs.Senders.{SendsLawfully}
use Rattle.fw_model.specs.Sending.{IsSentFrom, SendsAbove, SendsWithin}
use Rattle.fw_model.proofs.LineLaws.{line-numbers}
use Rattle.fw_model.proofs.StampLaws.{leq_from, leq_to, in_line, line-leq, leq-line, some_is}

group-monotone : (m n r g : ℕ) → m ≤ n → min (m * r + r - 1) g ≤ min (n * r + r - 1) g
group-monotone m n r g h =
    let a = mul-le-mul_right {m = m} {n = n} r h in
    let x = min-le_left (m * r + r - 1) g in
    le-min (omega arith) (min-le_right (m * r + r - 1) g)

group_within : (n k x : ℕ) → 1 ≤ n → x / n ≤ k → x ≤ k * n + n - 1
group_within n k x p h = let a = (div-lt_iff_lt-mul {k = n} {x = x} {y = k + 1} (omega arith)).0 (omega arith) in omega arith

within_group : (n k x : ℕ) → 1 ≤ n → x ≤ k * n + n - 1 → x / n ≤ k
within_group n k x p h = let a = (div-lt_iff_lt-mul {k = n} {x = x} {y = k + 1} (omega arith)).1 (omega arith) in omega arith

pub div-monotone : (n x y : ℕ) → x ≤ y → x / n ≤ y / n
div-monotone zero x y h = omega arith
div-monotone (suc n) x y h =
    (le-div_iff_mul-le {k = suc n} {x = x / suc n} {y = y} (omega arith)).1 (omega (arith, div-mul-le_self x (suc n)))

regroup_phi : (g n k : ℕ) (f : Frontier) → 1 ≤ n → IsFrontier (up_to (g ∷ [])) f
    → (f (min (k * n + n - 1) g ∷ []) ≡ true) ↔ IsSentFrom (up_to (g ∷ [])) (regrouped_stamp n) f (k ∷ [])
regroup_phi g n k f p fr = (
  λ h t s d e l.
      let v = in_line t g d in
      let x = v.0 in
      let r : Some ((x / n) ∷ []) ≡ Some s = ap (regrouped_stamp n) (sym v.1) ∙ e in
      let q = leq-line (x / n) k (leq_from s ((x / n) ∷ []) (k ∷ []) (sym (some_is ((x / n) ∷ []) s r)) l) in
      fr.closed t (min (k * n + n - 1) g ∷ []) d
      (leq_from (x ∷ []) t _ (sym v.1) (line-leq x (min (k * n + n - 1) g) (le-min (group_within n k x p q) v.2))) h,
  λ all.
      let x = min (k * n + n - 1) g in
      all (x ∷ []) ((x / n) ∷ []) (line-leq x g (min-le_right (k * n + n - 1) g)) refl
      (line-leq (x / n) k (within_group n k x p (min-le_left (k * n + n - 1) g))),
)

regroup_psi : (g n k : ℕ) (f : Frontier) → 1 ≤ n → IsFrontier (up_to (g ∷ [])) f
    → (f ((k * n) ∷ []) ≡ true) ↔ SendsAbove (regrouped_stamp n) f (k ∷ [])
regroup_psi g n k f p fr = (
  λ h. (
    (k * n) ∷ [],
    (k * n / n) ∷ [],
    h,
    refl,
    line-leq k (k * n / n) (let e = mul-div_left k {n = n} (omega arith) in omega arith),
  ),
  λ w.
      let v = in_line w.0 g (fr.inside_domain w.0 w.2) in
      let x = v.0 in
      let r : Some ((x / n) ∷ []) ≡ Some w.1 = ap (regrouped_stamp n) (sym v.1) ∙ w.3 in
      let q = leq-line k (x / n) (leq_to (k ∷ []) w.1 ((x / n) ∷ []) (sym (some_is ((x / n) ∷ []) w.1 r)) w.4) in
      let y = (le-div_iff_mul-le {k = n} {x = k} {y = x} (omega arith)).0 q in
      let z = v.2 in
      fr.closed ((k * n) ∷ []) w.0 (line-leq (k * n) g (omega arith))
      (leq_to ((k * n) ∷ []) (x ∷ []) w.0 (sym v.1) (line-leq (k * n) x y)) w.2,
)

regroup_back : (g n : ℕ) (f : Frontier) → IsFrontier (up_to (g ∷ [])) f → (t : Stamp) → leq t (g ∷ []) ≡ true → (f ((first_coordinate t / n) ∷ []) ≡ true) ↔ SendsWithin (regrouped_stamp n) f t
regroup_back g n f fr t i =
    let v = in_line t g i in
    let x = v.0 in
    let here : first_coordinate t ≡ x = ap first_coordinate v.1 in (
      λ k s w l e.
          let u = in_line s g (leq-trans s t (g ∷ []) l i) in
          let y = u.0 in
          let r : Some ((y / n) ∷ []) ≡ Some w = ap (regrouped_stamp n) (sym u.1) ∙ e in
          let a = some_is ((y / n) ∷ []) w r in
          let q : y ≤ x = leq-line y x (leq_to (y ∷ []) t _ v.1 (leq_from s _ t u.1 l)) in
          let h : y ≤ first_coordinate t = omega arith in
          let z : y ≤ g = u.2 in
          fr.closed w ((first_coordinate t / n) ∷ []) (leq_from _ w _ a (line-leq (y / n) g (omega (arith, div-le_self y n))))
          (leq_from _ w _ a (line-leq (y / n) (first_coordinate t / n) (div-monotone n y (first_coordinate t) h))) k,
      λ all. all t ((first_coordinate t / n) ∷ []) (leq-refl t) (ap (regrouped_stamp n) v.1 ∙ ap (λ k. Some ((k / n) ∷ [])) (sym here)),
    )

-- what is asked of a sender
pub regrouping : (flow : Dataflow) (size : ℕ) → SendsLawfully flow (Regroup size)
regrouping flow size = record {
  lands = λ t s i e.
      let v = in_line t greatest_number i in
      let x = v.0 in
      let r : Some ((x / size) ∷ []) ≡ Some s = ap (regrouped_stamp size) (sym v.1) ∙ e in
      let z = v.2 in
      leq_from ((x / size) ∷ []) s _ (some_is ((x / size) ∷ []) s r) (line-leq (x / size) greatest_number (omega (arith, div-le_self x size)));
  rises = λ s t w i l e.
      let g = greatest_number in
      let y = in_line t g i in
      let x = in_line s g (leq-trans s t (g ∷ []) l i) in
      let q = leq-line x.0 y.0 (leq_to (x.0 ∷ []) t _ y.1 (leq_from s _ t x.1 l)) in
      let r : Some ((y.0 / size) ∷ []) ≡ Some w = ap (regrouped_stamp size) (sym y.1) ∙ e in (
        (x.0 / size) ∷ [],
        ap (regrouped_stamp size) x.1,
        leq_to ((x.0 / size) ∷ []) _ w (some_is ((y.0 / size) ∷ []) w r) (line-leq (x.0 / size) (y.0 / size) (div-monotone size x.0 y.0 q)),
      );
  of_phi = record {
    grows = λ m n f g w c u k. w _ k;
    closed = λ n f fr s u i j l k.
        let x = min (first_coordinate s * size + size - 1) greatest_number in
        let y = min (first_coordinate u * size + size - 1) greatest_number in
        fr.closed (x ∷ []) (y ∷ []) (line-leq x greatest_number (min-le_right (first_coordinate s * size + size - 1) greatest_number))
        (line-leq x y (group-monotone (first_coordinate s) (first_coordinate u) size greatest_number (line-numbers greatest_number s u i j l))) k;
    meets = λ count mono f g ff fg u j k. and_from _ _ j k;
    of_all = λ n u i. line-leq (min (first_coordinate u * size + size - 1) greatest_number) greatest_number (min-le_right (first_coordinate u * size + size - 1) greatest_number);
    counts = λ m n f u k. refl;
    by_stamps = λ n f p fr u i.
        let v = in_line u greatest_number i in
        let P : Stamp → Type 0 = λ w. (phi_of_kind (greatest_of_kind flow (Regroup size)) (Regroup size) n f w ≡ true) ↔ IsSentFrom (up_to (greatest_number ∷ [])) (regrouped_stamp size) f w in
        subst P (sym v.1) (regroup_phi greatest_number size v.0 f p fr);
  };
  of_psi = record {
    grows = λ f g w u k. w _ k;
    closed = λ f fr s u i j l k.
        let x = first_coordinate s * size in
        let y = first_coordinate u * size in
        let h = mul-le-mul_right {m = first_coordinate s} {n = first_coordinate u} size (line-numbers greatest_number s u i j l) in
        let g = leq-line y greatest_number (fr.inside_domain (y ∷ []) k) in
        fr.closed (x ∷ []) (y ∷ []) (line-leq x greatest_number (omega arith)) (line-leq x y h) k;
    from_one = λ family f w u k. w.from_one _ k;
    of_nothing = λ u. refl;
    by_stamps = λ f p fr u i.
        let v = in_line u greatest_number i in
        let P : Stamp → Type 0 = λ w. (psi_of_kind (greatest_of_kind flow (Regroup size)) (Regroup size) f w ≡ true) ↔ SendsAbove (regrouped_stamp size) f w in
        subst P (sym v.1) (regroup_psi greatest_number size v.0 f p fr);
  };
  of_back = λ g p fr t i. regroup_back greatest_number size g fr t i;
}
