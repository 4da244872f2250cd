-- Where a node sends that leaves a loop: at the stamp without its counter.
use Rattle.std.proofs.Common.{◌≡◌, ◌↔◌, ℕ, true, refl, sym, ap, subst, ◌∙◌, arith}
use Rattle.fw_time.specs.Sending.{left_stamp}
use Rattle.fw_time.specs.Stamp.{Stamp, leq, nest, outer, counter, up_to}
use Rattle.fw_time.proofs.StampLaws.{leq-refl, leq-trans, outer-nest, counter-nest}
use Rattle.fw_frontier.specs.Frontier.{Frontier, IsFrontier, everything}
use Rattle.fw_flow.specs.Dataflow.{greatest_of_kind, Dataflow, max_of, domain_of_kind, bounds_of_domain}
use Rattle.fw_flow.specs.Projection.{each_counter, some_counter}
use Rattle.fw_flow.specs.declared.kind.Kind.TheVariants.{Leave}
use Rattle.fw_flow.proofs.Chains.{outer_greatest, outer_greatest-is}
use Rattle.fw_model.specs.Senders.{SendsLawfully}
use Rattle.fw_model.specs.Sending.{IsSentFrom, SendsAbove, SendsWithin}
use Rattle.fw_model.proofs.CounterLaws.{each_counter-from, each_counter-at, some_counter-at, some_counter-from, each_counter-monotone, each_counter-meet, some_counter-monotone, some_counter-one, some_counter-nothing}
use Rattle.fw_model.proofs.StampLaws.{loop-leq, nest-leq, in_loop, leq_from, leq_to, some_is}

leave_phi : (b : Stamp) (m : ℕ) (f : Frontier) → IsFrontier (up_to (nest b m)) f → (u : Stamp) → leq u b ≡ true
    → (each_counter f u m ≡ true) ↔ IsSentFrom (up_to (nest b m)) left_stamp f u
leave_phi b m f fr u i = (
  λ k t s d e l.
      let w = in_loop t b m d in
      let q = leq_from s (outer t) u (sym (some_is (outer t) s e)) l in
      fr.closed t (nest u (counter t)) d
      (leq_from _ t _ (sym w.nested) (nest-leq (outer t) u (counter t) (counter t) q (omega arith)))
      (each_counter-at f u m (counter t) w.counted k),
  λ all. each_counter-from f u m
      (λ c h. all (nest u c) (outer (nest u c)) (nest-leq u b c m i h) refl (leq_from u _ u (sym (outer-nest u c)) (leq-refl u))),
)

leave_psi : (b : Stamp) (m : ℕ) (f : Frontier) → IsFrontier (up_to (nest b m)) f → (u : Stamp) → leq u b ≡ true
    → (some_counter f u m ≡ true) ↔ SendsAbove left_stamp f u
leave_psi b m f fr u i = (
  λ k.
      let w = some_counter-at f u m k in
      (nest u w.0, outer (nest u w.0), w.2, refl, leq_to u u _ (sym (outer-nest u w.0)) (leq-refl u)),
  λ w.
      let x = in_loop w.0 b m (fr.inside_domain w.0 w.2) in
      let q = leq_to u w.1 (outer w.0) (sym (some_is (outer w.0) w.1 w.3)) w.4 in
      some_counter-from f u m (counter w.0) x.counted
      (fr.closed (nest u (counter w.0)) w.0 (nest-leq u b (counter w.0) m i x.counted)
      (leq_to _ _ w.0 (sym x.nested) (nest-leq u (outer w.0) (counter w.0) (counter w.0) q (omega arith))) w.2),
)

leave_back : (b : Stamp) (m : ℕ) (g : Frontier) → IsFrontier (up_to b) g → (t : Stamp) → leq t (nest b m) ≡ true → (g (outer t) ≡ true) ↔ SendsWithin left_stamp g t
leave_back b m g fr t i =
    let v = in_loop t b m i in (
      λ k s w l e.
          let x = in_loop s b m (leq-trans s t (nest b m) l i) in
          let a = some_is (outer s) w e in
          fr.closed w (outer t) (leq_from (outer s) w b a x.outside) (leq_from (outer s) w _ a (loop-leq b m s t x v l).0) k,
      λ all. all t (outer t) (leq-refl t) refl,
    )

-- what is asked of a sender
pub leaving : (flow : Dataflow) (loop : ℕ) → SendsLawfully flow (Leave loop)
leaving flow loop = record {
  lands = λ t s i e.
      sym (ap (leq s) (outer_greatest-is flow loop))
      ∙ leq_from (outer t) s _ (some_is (outer t) s e) (in_loop t (outer_greatest flow loop) (max_of flow loop) i).outside;
  rises = λ s t w i l e.
      let m = max_of flow loop in
      let b = outer_greatest flow loop in
      let q = loop-leq b m s t (in_loop s b m (leq-trans s t (nest b m) l i)) (in_loop t b m i) l in
      (outer s, refl, leq_to (outer s) _ w (some_is (outer t) w e) q.0);
  of_phi = record {
    grows = λ m n f g w c u k. each_counter-monotone f g w u (counter (greatest_of_kind flow (Leave loop))) k;
    closed = λ n f fr s u i j l k.
        let b = outer_greatest flow loop in
        let m = counter (nest b (max_of flow loop)) in
        let last : m ≡ max_of flow loop = counter-nest b (max_of flow loop) in
        each_counter-from f s m
        (λ c h. fr.closed (nest s c) (nest u c) (nest-leq s b c (max_of flow loop) (ap (leq s) (outer_greatest-is flow loop) ∙ i) (omega arith)) (nest-leq s u c c l (omega arith)) (each_counter-at f u m c h k));
    meets = λ count mono f g ff fg u j k. each_counter-meet f g u (counter (greatest_of_kind flow (Leave loop))) j k;
    of_all = λ n u i.
        let last = counter-nest (outer_greatest flow loop) (max_of flow loop) in
        each_counter-from (everything (bounds_of_domain flow (domain_of_kind flow (Leave loop)))) u (counter (greatest_of_kind flow (Leave loop)))
        (λ c h. nest-leq u (outer_greatest flow loop) c (max_of flow loop) (ap (leq u) (outer_greatest-is flow loop) ∙ i) (omega arith));
    counts = λ m n f u k. refl;
    by_stamps = λ n f p fr u i.
        let b = outer_greatest flow loop in
        subst (λ c. (each_counter f u c ≡ true) ↔ IsSentFrom (up_to (nest b (max_of flow loop))) left_stamp f u) (sym (counter-nest b (max_of flow loop)))
        (leave_phi b (max_of flow loop) f fr u (ap (leq u) (outer_greatest-is flow loop) ∙ i));
  };
  of_psi = record {
    grows = λ f g w u k. some_counter-monotone f g w u (counter (greatest_of_kind flow (Leave loop))) k;
    closed = λ f fr s u i j l k.
        let b = outer_greatest flow loop in
        let m = counter (nest b (max_of flow loop)) in
        let last : m ≡ max_of flow loop = counter-nest b (max_of flow loop) in
        let w = some_counter-at f u m k in
        some_counter-from f s m w.0 w.1
        (fr.closed (nest s w.0) (nest u w.0) (nest-leq s b w.0 (max_of flow loop) (ap (leq s) (outer_greatest-is flow loop) ∙ i) (omega (arith, w.1))) (nest-leq s u w.0 w.0 l (omega arith)) w.2);
    from_one = λ family f w u k. some_counter-one family f w u (counter (greatest_of_kind flow (Leave loop))) k;
    of_nothing = λ u. some_counter-nothing u (counter (greatest_of_kind flow (Leave loop)));
    by_stamps = λ f p fr u i.
        let b = outer_greatest flow loop in
        subst (λ c. (some_counter f u c ≡ true) ↔ SendsAbove left_stamp f u) (sym (counter-nest b (max_of flow loop)))
        (leave_psi b (max_of flow loop) f fr u (ap (leq u) (outer_greatest-is flow loop) ∙ i));
  };
  of_back = λ g p fr t i. leave_back (outer_greatest flow loop) (max_of flow loop) g (subst (λ x. IsFrontier (up_to x) g) (sym (outer_greatest-is flow loop)) fr) t i;
}
