-- Where a node sends that feeds a loop back: at the next counter, if there is one.
use Rattle.std.proofs.Common.{◌≡◌, ◌↔◌, ℕ, ◌+◌, ◌-◌, ◌<◌, ◌≤◌, min, Bool, true, ◌&&◌, ◌||◌, ◌==◌, nat_lt, Some, None, refl, sym, ap, subst, ◌∙◌, inl, inr, arith, false}
use Rattle.std.proofs.lemmas.Bool.{and_from, or_cases, or_left, or_right, ltb-true, lt-ltb, eqb-true, eqb-false, eq-eqb, cond-true, cases_Bool}
use Rattle.std.proofs.lemmas.Option.{cond_some}
use Rattle.std.proofs.Math.Nat.{min-le_left, min-le_right, le-min}
use Rattle.fw_time.specs.Sending.{fed_back_stamp}
use Rattle.fw_time.specs.Stamp.{Stamp, leq, nest, outer, counter, up_to}
use Rattle.fw_time.proofs.StampLaws.{leq-refl, leq-trans, outer-nest, counter-nest}
use Rattle.fw_frontier.specs.Frontier.{Frontier, IsFrontier}
use Rattle.fw_flow.specs.Dataflow.{Dataflow, max_of}
use Rattle.fw_flow.specs.declared.kind.Kind.TheVariants.{Feedback}
use Rattle.fw_flow.proofs.Chains.{outer_greatest}
use Rattle.fw_model.specs.Senders.{SendsLawfully}
use Rattle.fw_model.specs.Sending.{IsSentFrom, SendsAbove, SendsWithin}
use Rattle.fw_model.proofs.StampLaws.{IsInLoop, loop-leq, nest-leq, leq-nest, in_loop, leq_from, leq_to}

pub or_monotone : (a b c : Bool) → (b ≡ true → c ≡ true) → (a || b) ≡ true → (a || c) ≡ true
or_monotone true b c k h = refl
or_monotone false b c k h = k h

or_meet : (a b c : Bool) → (a || b) ≡ true → (a || c) ≡ true → (a || (b && c)) ≡ true
or_meet true b c p q = refl
or_meet false b c p q = and_from b c p q

pub fed_back-some : (m : ℕ) (t s : Stamp) → fed_back_stamp m t ≡ Some s → (counter t < m) × (nest (outer t) (counter t + 1) ≡ s)
fed_back-some m t s e =
    let a = cond_some (nat_lt (counter t) m) (nest (outer t) (counter t + 1)) s e in
    (ltb-true (counter t) m a.0, a.1)

pub fed_back-nest : (m : ℕ) (x : Stamp) (c : ℕ) → c < m → fed_back_stamp m (nest x c) ≡ Some (nest x (c + 1))
fed_back-nest m x c h =
    rw (outer-nest x c, counter-nest x c) (cond-true (nat_lt c m) (Some (nest x (c + 1))) None (lt-ltb c m h))

fed_back-loop : (m : ℕ) (b t : Stamp) → IsInLoop b m t → counter t < m → fed_back_stamp m t ≡ Some (nest (outer t) (counter t + 1))
fed_back-loop m b t v h = cond-true (nat_lt (counter t) m) (Some (nest (outer t) (counter t + 1))) None (lt-ltb (counter t) m h)

feedback_phi : (b : Stamp) (m : ℕ) (f : Frontier) → IsFrontier (up_to (nest b m)) f → (u : Stamp) → leq u (nest b m) ≡ true
    → ((counter u == 0 || f (nest (outer u) (counter u - 1))) ≡ true) ↔ IsSentFrom (up_to (nest b m)) (fed_back_stamp m) f u
feedback_phi b m f fr u i =
    let v = in_loop u b m i in (
      λ k t s d e l.
          let w = in_loop t b m d in
          let a = fed_back-some m t s e in
          let q = leq_to _ u _ v.nested (leq_from s _ u (sym a.1) l) in
          let r = leq-nest (outer t) (outer u) (counter t + 1) (counter u) q in
          let lt : counter t + 1 ≤ counter u = r.1 in
          elim (or_cases (counter u == 0) (f (nest (outer u) (counter u - 1))) k) [
            | inl z ↦ let n = eqb-true (counter u) 0 z in absurd (omega arith)
            | inr k ↦ fr.closed t (nest (outer u) (counter u - 1)) d
                (leq_from _ t _ (sym w.nested) (nest-leq (outer t) (outer u) (counter t) (counter u - 1) r.0 (omega arith))) k
          ],
      λ all. elim (cases_Bool (counter u == 0)) [
        | inl z ↦ or_left (counter u == 0) (f (nest (outer u) (counter u - 1))) z
        | inr z ↦
            let n = eqb-false (counter u) 0 z in
            let c = v.counted in
            or_right (counter u == 0) (f (nest (outer u) (counter u - 1)))
            (all (nest (outer u) (counter u - 1)) (nest (outer u) (counter u - 1 + 1))
            (nest-leq (outer u) b (counter u - 1) m v.outside (omega arith))
            (fed_back-nest m (outer u) (counter u - 1) (omega arith))
            (leq_to _ _ u (sym v.nested) (nest-leq (outer u) (outer u) (counter u - 1 + 1) (counter u) (leq-refl (outer u)) (omega arith))))
      ],
    )

feedback-closed : (b : Stamp) (m : ℕ) (f : Frontier) → IsFrontier (record { greatest = nest b m; sides = false }) f → (s u : Stamp) → leq s (nest b m) ≡ true
    → leq u (nest b m) ≡ true → leq s u ≡ true → f (nest (outer u) (counter u - 1)) ≡ true → f (nest (outer s) (counter s - 1)) ≡ true
feedback-closed b m f fr s u i j l k =
    let v = in_loop s b m i in
    let q = loop-leq b m s u v (in_loop u b m j) l in
    let c = v.counted in
    let d = q.1 in
    fr.closed (nest (outer s) (counter s - 1)) (nest (outer u) (counter u - 1))
    (nest-leq (outer s) b (counter s - 1) m v.outside (omega arith))
    (nest-leq (outer s) (outer u) (counter s - 1) (counter u - 1) q.0 (omega arith)) k

feedback_psi : (b : Stamp) (m : ℕ) (f : Frontier) → 1 ≤ m → IsFrontier (up_to (nest b m)) f → (u : Stamp) → leq u (nest b m) ≡ true
    → (f (nest (outer u) (counter u - 1)) ≡ true) ↔ SendsAbove (fed_back_stamp m) f u
feedback_psi b m f p fr u i =
    let v = in_loop u b m i in
    let c = v.counted in (
      λ k. (
        nest (outer u) (counter u - 1),
        nest (outer u) (counter u - 1 + 1),
        k,
        fed_back-nest m (outer u) (counter u - 1) (omega arith),
        leq_from _ u _ (sym v.nested) (nest-leq (outer u) (outer u) (counter u) (counter u - 1 + 1) (leq-refl (outer u)) (omega arith)),
      ),
      λ w.
          let x = in_loop w.0 b m (fr.inside_domain w.0 w.2) in
          let a = fed_back-some m w.0 w.1 w.3 in
          let q = leq_from u _ _ v.nested (leq_to u w.1 _ (sym a.1) w.4) in
          let r = leq-nest (outer u) (outer w.0) (counter u) (counter w.0 + 1) q in
          let z : counter u ≤ counter w.0 + 1 = r.1 in
          fr.closed (nest (outer u) (counter u - 1)) w.0 (nest-leq (outer u) b (counter u - 1) m v.outside (omega arith))
          (leq_to _ _ w.0 (sym x.nested) (nest-leq (outer u) (outer w.0) (counter u - 1) (counter w.0) r.0 (omega arith))) w.2,
    )

feedback_back : (b : Stamp) (m : ℕ) (g : Frontier) → 1 ≤ m → IsFrontier (up_to (nest b m)) g → (t : Stamp) → leq t (nest b m) ≡ true
    → (g (nest (outer t) (min (counter t + 1) m)) ≡ true) ↔ SendsWithin (fed_back_stamp m) g t
feedback_back b m g p fr t i =
    let v = in_loop t b m i in
    let last = min (counter t + 1) m in
    let few : last ≤ m = min-le_right (counter t + 1) m in
    let near : last ≤ counter t + 1 = min-le_left (counter t + 1) m in
    let some : 1 ≤ last = le-min (omega arith) p in
    let c = last - 1 in (
      λ k s w l e.
          let x = in_loop s b m (leq-trans s t (nest b m) l i) in
          let a = fed_back-some m s w e in
          let low : counter s < m = a.0 in
          let q = loop-leq b m s t x v l in
          let d : counter s ≤ counter t = q.1 in
          fr.closed w (nest (outer t) last)
          (leq_from (nest (outer s) (counter s + 1)) w _ a.1 (nest-leq (outer s) b (counter s + 1) m x.outside (omega arith)))
          (leq_from (nest (outer s) (counter s + 1)) w _ a.1 (nest-leq (outer s) (outer t) (counter s + 1) last q.0 (le-min (omega arith) (omega arith)))) k,
      λ all.
          let e : c + 1 ≡ last = omega arith in
          ap (λ n. g (nest (outer t) n)) (sym e)
          ∙ all (nest (outer t) c) (nest (outer t) (c + 1))
          (leq_to (nest (outer t) c) _ t (sym v.nested) (nest-leq (outer t) (outer t) c (counter t) (leq-refl (outer t)) (omega arith)))
          (fed_back-nest m (outer t) c (omega arith)),
    )

-- what is asked of a sender
pub feeding_back : (flow : Dataflow) (loop : ℕ) → SendsLawfully flow (Feedback loop)
feeding_back flow loop = record {
  lands = λ t s i e.
      let v = in_loop t (outer_greatest flow loop) (max_of flow loop) i in
      let a = fed_back-some (max_of flow loop) t s e in
      let c = a.0 in
      leq_from _ s _ a.1 (nest-leq (outer t) (outer_greatest flow loop) (counter t + 1) (max_of flow loop) v.outside (omega arith));
  rises = λ s t w i l e.
      let m = max_of flow loop in
      let b = outer_greatest flow loop in
      let y = in_loop t b m i in
      let x = in_loop s b m (leq-trans s t (nest b m) l i) in
      let q = loop-leq b m s t x y l in
      let a = fed_back-some m t w e in
      let c = a.0 in
      let d = q.1 in (
        nest (outer s) (counter s + 1),
        fed_back-loop m b s x (omega arith),
        leq_to _ _ w a.1 (nest-leq (outer s) (outer t) (counter s + 1) (counter t + 1) q.0 (omega arith)),
      );
  of_phi = record {
    grows = λ m n f g w c u k. or_monotone (counter u == 0) _ _ (w (nest (outer u) (counter u - 1))) k;
    closed = λ n f fr s u i j l k.
        let b = outer_greatest flow loop in
        let m = max_of flow loop in
        let q = (loop-leq b m s u (in_loop s b m i) (in_loop u b m j) l).1 in
        elim (or_cases (counter u == 0) (f (nest (outer u) (counter u - 1))) k) [
          | inl z ↦ let y = eqb-true (counter u) 0 z in or_left (counter s == 0) _ (eq-eqb (counter s) 0 (omega arith))
          | inr z ↦ or_right (counter s == 0) _ (feedback-closed b m f fr s u i j l z)
        ];
    meets = λ count mono f g ff fg u j k. or_meet (counter u == 0) _ _ j k;
    of_all = λ n u i.
        let v = in_loop u (outer_greatest flow loop) (max_of flow loop) i in
        let c = v.counted in
        or_right (counter u == 0) _ (nest-leq (outer u) (outer_greatest flow loop) (counter u - 1) (max_of flow loop) v.outside (omega arith));
    counts = λ m n f u k. refl;
    by_stamps = λ n f p fr u i. feedback_phi (outer_greatest flow loop) (max_of flow loop) f fr u i;
  };
  of_psi = record {
    grows = λ f g w u k. w _ k;
    closed = λ f fr s u i j l k. feedback-closed (outer_greatest flow loop) (max_of flow loop) f fr s u i j l k;
    from_one = λ family f w u k. w.from_one _ k;
    of_nothing = λ u. refl;
    by_stamps = λ f p fr u i. feedback_psi (outer_greatest flow loop) (max_of flow loop) f p fr u i;
  };
  of_back = λ g p fr t i.
      let b = outer_greatest flow loop in
      subst (λ c. (g (nest (outer t) (min (counter t + 1) c)) ≡ true) ↔ SendsWithin (fed_back_stamp (max_of flow loop)) g t) (sym (counter-nest b (max_of flow loop)))
      (feedback_back b (max_of flow loop) g p fr t i);
}
