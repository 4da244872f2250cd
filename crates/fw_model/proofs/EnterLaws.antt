-- Where a node sends that enters a loop: at counter 0 of the stamp at which it stands.
use Rattle.std.proofs.Common.{◌≡◌, ◌↔◌, ℕ, true, ◌&&◌, ◌==◌, refl, sym, ap, subst, ◌∙◌, arith, false}
use Rattle.std.proofs.lemmas.Bool.{and_parts, and_from, eqb-true, eq-eqb, and_right}
use Rattle.fw_time.specs.Sending.{entered_stamp}
use Rattle.fw_time.specs.Stamp.{Stamp, leq, nest, outer, counter, up_to}
use Rattle.fw_time.proofs.StampLaws.{leq-refl, leq-trans}
use Rattle.fw_frontier.specs.Frontier.{Frontier, IsFrontier}
use Rattle.fw_flow.specs.Dataflow.{Dataflow, max_of}
use Rattle.fw_flow.specs.declared.kind.Kind.TheVariants.{Enter}
use Rattle.fw_flow.proofs.Chains.{outer_greatest, outer_greatest-is}
use Rattle.fw_model.specs.Senders.{SendsLawfully}
use Rattle.fw_model.specs.Sending.{IsSentFrom, SendsAbove, SendsWithin}
use Rattle.fw_model.proofs.StampLaws.{loop-leq, nest-leq, leq-nest, in_loop, leq_from, leq_to, some_is}

enter_phi : (b : Stamp) (m : ℕ) (f : Frontier) → IsFrontier (up_to b) f → (u : Stamp) → leq u (nest b m) ≡ true → (f (outer u) ≡ true) ↔ IsSentFrom (up_to b) entered_stamp f u
enter_phi b m f fr u i =
    let v = in_loop u b m i in (
      λ k t s d e l.
          let q = leq_to (nest t 0) u _ v.nested (leq_from s (nest t 0) u (sym (some_is (nest t 0) s e)) l) in
          fr.closed t (outer u) d (leq-nest t (outer u) 0 (counter u) q).0 k,
      λ all. all (outer u) (nest (outer u) 0) v.outside refl
          (leq_to (nest (outer u) 0) _ u (sym v.nested) (nest-leq (outer u) (outer u) 0 (counter u) (leq-refl (outer u)) (omega arith))),
    )

enter_psi : (b : Stamp) (m : ℕ) (f : Frontier) → IsFrontier (up_to b) f → (u : Stamp) → leq u (nest b m) ≡ true → ((counter u == 0 && f (outer u)) ≡ true) ↔ SendsAbove entered_stamp f u
enter_psi b m f fr u i =
    let v = in_loop u b m i in (
      λ k.
          let a = and_parts (counter u == 0) (f (outer u)) k in
          let z = eqb-true (counter u) 0 a.0 in (
            outer u,
            nest (outer u) 0,
            a.1,
            refl,
            leq_from _ u (nest (outer u) 0) (sym v.nested) (nest-leq (outer u) (outer u) (counter u) 0 (leq-refl (outer u)) (omega arith)),
          ),
      λ w.
          let q = leq_from u _ (nest w.0 0) v.nested (leq_to u w.1 (nest w.0 0) (sym (some_is (nest w.0 0) w.1 w.3)) w.4) in
          let r = leq-nest (outer u) w.0 (counter u) 0 q in
          let z = r.1 in
          and_from (counter u == 0) (f (outer u)) (eq-eqb (counter u) 0 (omega arith)) (fr.closed (outer u) w.0 v.outside r.0 w.2),
    )

enter_back : (b : Stamp) (m : ℕ) (g : Frontier) → IsFrontier (up_to (nest b m)) g → (t : Stamp) → leq t b ≡ true → (g (nest t 0) ≡ true) ↔ SendsWithin entered_stamp g t
enter_back b m g fr t i = (
  λ k s w l e.
      let a = some_is (nest s 0) w e in
      fr.closed w (nest t 0) (leq_from (nest s 0) w _ a (nest-leq s b 0 m (leq-trans s t b l i) (omega arith)))
      (leq_from (nest s 0) w _ a (nest-leq s t 0 0 l (omega arith))) k,
  λ all. all t (nest t 0) (leq-refl t) refl,
)

-- what is asked of a sender
pub entering : (flow : Dataflow) (loop : ℕ) → SendsLawfully flow (Enter loop)
entering flow loop = record {
  lands = λ t s i e. leq_from (nest t 0) s _ (some_is (nest t 0) s e) (nest-leq t (outer_greatest flow loop) 0 (max_of flow loop) (ap (leq t) (outer_greatest-is flow loop) ∙ i) (omega arith));
  rises = λ s t w i l e. (nest s 0, refl, leq_to (nest s 0) _ w (some_is (nest t 0) w e) (nest-leq s t 0 0 l (omega arith)));
  of_phi = record {
    grows = λ m n f g w c u k. w (outer u) k;
    closed = λ n f fr s u i j l k.
        let b = outer_greatest flow loop in
        let m = max_of flow loop in
        let v = in_loop s b m i in
        fr.closed (outer s) (outer u) (sym (ap (leq (outer s)) (outer_greatest-is flow loop)) ∙ v.outside) (loop-leq b m s u v (in_loop u b m j) l).0 k;
    meets = λ count mono f g ff fg u j k. and_from (f (outer u)) (g (outer u)) j k;
    of_all = λ n u i. sym (ap (leq (outer u)) (outer_greatest-is flow loop)) ∙ (in_loop u (outer_greatest flow loop) (max_of flow loop) i).outside;
    counts = λ m n f u k. refl;
    by_stamps = λ n f p fr u i.
        subst (λ g. IsFrontier (up_to g) f → (f (outer u) ≡ true) ↔ IsSentFrom (up_to g) entered_stamp f u) (outer_greatest-is flow loop)
        (λ x. enter_phi (outer_greatest flow loop) (max_of flow loop) f x u i) fr;
  };
  of_psi = record {
    grows = λ f g w u k.
        let a = and_parts (counter u == 0) (f (outer u)) k in
        and_from (counter u == 0) (g (outer u)) a.0 (w (outer u) a.1);
    closed = λ f fr s u i j l k.
        let b = outer_greatest flow loop in
        let m = max_of flow loop in
        let v = in_loop s b m i in
        let q = loop-leq b m s u v (in_loop u b m j) l in
        let a = and_parts (counter u == 0) (f (outer u)) k in
        let y = eqb-true (counter u) 0 a.0 in
        let z = q.1 in
        and_from (counter s == 0) (f (outer s)) (eq-eqb (counter s) 0 (omega arith)) (fr.closed (outer s) (outer u) (sym (ap (leq (outer s)) (outer_greatest-is flow loop)) ∙ v.outside) q.0 a.1);
    from_one = λ family f w u k.
        let a = and_parts (counter u == 0) (f (outer u)) k in
        let y = w.from_one (outer u) a.1 in
        (y.0, and_from (counter u == 0) (family y.0 (outer u)) a.0 y.1);
    of_nothing = λ u. and_right (counter u == 0) false refl;
    by_stamps = λ f p fr u i. enter_psi (outer_greatest flow loop) (max_of flow loop) f (subst (λ g. IsFrontier (up_to g) f) (sym (outer_greatest-is flow loop)) fr) u i;
  };
  of_back = λ g p fr t i. enter_back (outer_greatest flow loop) (max_of flow loop) g fr t (ap (leq t) (outer_greatest-is flow loop) ∙ i);
}
