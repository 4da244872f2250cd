-- Where a node sends that numbers what it sends: by how much it sent before.
use Rattle.std.proofs.Common.{◌≡◌, ℕ, ◌≤◌, Bool, true, ◌||◌, nat_lt, [], ◌∷◌, refl, ap, inl, inr, arith, false, ◌+◌, nat_le, List}
use Rattle.std.proofs.lemmas.Bool.{and_from, or_left, or_right, ltb-true, lt-ltb, cond_both}
use Rattle.fw_time.proofs.StampLaws.{leq-refl}
use Rattle.fw_frontier.specs.Frontier.{Within, meet}
use Rattle.fw_flow.specs.Dataflow.{Dataflow, greatest_number}
use Rattle.fw_flow.specs.Projection.{first_coordinate}
use Rattle.fw_flow.specs.declared.kind.Kind.TheVariants.{Sequence}
use Rattle.fw_model.specs.Senders.{SendsLawfully}
use Rattle.fw_model.proofs.LineLaws.{line-numbers, one_within}
use Rattle.fw_model.proofs.StampLaws.{leq_from, leq_to, some_is}
use Rattle.std.specs.List.{AllByRecursion}
use Rattle.fw_time.specs.Stamp.{Stamp, up_to}
use Rattle.fw_time.specs.declared.stamp.Bounds.{Bounds}
use Rattle.fw_flow.specs.WholeBags.{Timed, in_order, numbered_recs, joint_bag}
use Rattle.fw_model.specs.Wholes.{IsLawfulWhole}
use Rattle.fw_model.proofs.OutputLaws.{At, IsNumber}

sequence_phi-monotone : (a b : Bool) (u m n : ℕ) → (a ≡ true → b ≡ true) → m ≤ n → (a || nat_lt u m) ≡ true → (b || nat_lt u n) ≡ true
sequence_phi-monotone true b u m n w l k = or_left b (nat_lt u n) (w refl)
sequence_phi-monotone false b u m n w l k = let a = ltb-true u m k in or_right b (nat_lt u n) (lt-ltb u n (omega arith))

sequence-closed : (a : Bool) (m n c : ℕ) → m ≤ n → (a || nat_lt n c) ≡ true → (a || nat_lt m c) ≡ true
sequence-closed true m n c l k = refl
sequence-closed false m n c l k = let h = ltb-true n c k in lt-ltb m c (omega arith)

-- what is asked of a sender
pub counting : (flow : Dataflow) → SendsLawfully flow Sequence
counting flow = record {
  lands = λ t s i e. leq_from t s _ (some_is t s e) i;
  rises = λ s t w i l e. (s, refl, leq_to s t w (some_is t w e) l);
  of_phi = record {
    grows = λ m n f g w c u k. sequence_phi-monotone _ _ (first_coordinate u) m n (w (greatest_number ∷ [])) c k;
    closed = λ n f fr s u i j l k. sequence-closed (f (greatest_number ∷ [])) (first_coordinate s) (first_coordinate u) n (line-numbers greatest_number s u i j l) k;
    meets = λ count mono f g ff fg u j k. elim (one_within greatest_number f g ff fg) [
      | inl w ↦
          let v : Within f (meet f g) = λ t i. and_from (f t) (g t) i (w t i) in
          sequence_phi-monotone (f (greatest_number ∷ [])) (meet f g (greatest_number ∷ [])) (first_coordinate u) (count f) (count (meet f g)) (v (greatest_number ∷ [])) (mono f (meet f g) v) j
      | inr w ↦
          let v : Within g (meet f g) = λ t i. and_from (f t) (g t) (w t i) i in
          sequence_phi-monotone (g (greatest_number ∷ [])) (meet f g (greatest_number ∷ [])) (first_coordinate u) (count g) (count (meet f g)) (v (greatest_number ∷ [])) (mono g (meet f g) v) k
    ];
    of_all = λ n u i. or_left _ (nat_lt (first_coordinate u) n) (leq-refl (greatest_number ∷ []));
    counts = λ m n f u k. ap (λ c. f (greatest_number ∷ []) || nat_lt (first_coordinate u) c) (k refl);
    by_stamps = λ n f p fr u i. absurd p;
  };
  of_psi = record {
    grows = λ f g w u k. w u k;
    closed = λ f fr s u i j l k. fr.closed s u i l k;
    from_one = λ family f w u k. w.from_one u k;
    of_nothing = λ u. refl;
    by_stamps = λ f p fr u i. absurd p;
  };
  of_back = λ g p fr t i. absurd p;
}

-- ---- what is asked of what it sends in all

each-numbered : (n : ℕ) (rs : List Timed) → AllByRecursion (At IsNumber) (numbered_recs n rs)
each-numbered n [] = tt
each-numbered n (r ∷ rs) =
    cond_both (nat_le n greatest_number) (record { at = n ∷ []; rec = r.rec } ∷ numbered_recs (n + 1) rs) [] (AllByRecursion (At IsNumber))
    (λ e. (and_from (nat_le n greatest_number) true e refl, each-numbered (n + 1) rs)) (λ e. tt)

pub each_numbered : (within : Bounds) (takes : Stamp → Stamp → Bool) (alone at_once inner : Type 0) → (alone → ⊥) → (at_once → ⊥) → (inner → ⊥)
    → IsLawfulWhole within (up_to (greatest_number ∷ [])) takes alone at_once inner (λ batches bags. numbered_recs 0 (in_order (joint_bag bags)))
each_numbered within takes alone at_once inner n m l = record {
  lands = λ batches bags few a. each-numbered 0 (in_order (joint_bag bags));
  by_parts = λ k batches bags t. absurd (n k);
  fewer = λ k. absurd (m k);
  agrees = λ k. absurd (l k);
}
