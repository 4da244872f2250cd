-- Cutting a frontier below the causes of an edge's messages that are not inside a bound.
use Rattle.std.proofs.Common.{◌≡◌, ℕ, ◌+◌, ◌<◌, Bool, true, false, not, ◌==◌, List, [], ◌∷◌, ◌++◌, length, get_or, take, Some, refl, sym, ap, subst, ◌∙◌, inl, inr}
use Rattle.std.specs.List.{AllByRecursion, slice_get}
use Rattle.std.proofs.lemmas.Bool.{and_parts, and_from, both_ways, false_from_ne_true}
use Rattle.std.proofs.lemmas.List.{take_more}
use Rattle.fw_lemmas.proofs.Each.{each-weaker, each-at, each-append, each-prefix, each-suffix, each_of-filter}
use Rattle.fw_time.specs.Stamp.{Stamp, leq, in_domain}
use Rattle.fw_time.specs.declared.stamp.Bounds.{Bounds}
use Rattle.fw_time.proofs.StampLaws.{leq-refl}
use Rattle.fw_frontier.specs.Frontier.{Within}
use Rattle.fw_frontier.specs.Front.{Front, inside, frontier_of, IsCanonical}
use Rattle.fw_frontier.proofs.NamesLaws.{frontier-closed, without_above-largest}
use Rattle.fw_flow.specs.declared.choice.Counted.{Counted}
use Rattle.fw_flow.specs.Projection.{all_inside}
use Rattle.fw_model.specs.Offers.{HasOneCause, counted_on_edge}
use Rattle.fw_model.proofs.PhiLaws.{all_inside-monotone}
use Rattle.fw_offers.specs.Sides.{SentPasses}
use Rattle.fw_monitor.specs.Kept.{IsBelowStamp, IsSentKept}

pub sent_kept-none : (from to : Bounds) (e : ℕ) (front bound f : Front) → IsCanonical from front → f ≡ front → IsSentKept from to e front bound [] f
sent_kept-none from to e front bound f c same =
    subst (IsSentKept from to e front bound []) (sym same) (record { canonical = c; within = λ t k. k; passes = tt; largest = λ x w a. w })

-- what passes in a frontier does in a lesser one
passes-lesser : (from to : Bounds) (e : ℕ) (bound f g : Front) (m : Counted) → Within (frontier_of from g) (frontier_of from f)
    → SentPasses from to e bound f m → SentPasses from to e bound g m
passes-lesser from to e bound f g m w p k =
    let a = and_parts (m.edge == e) (all_inside (frontier_of from g) m.causes) k in
    p (and_from (m.edge == e) (all_inside (frontier_of from f) m.causes) a.0 (all_inside-monotone (frontier_of from g) (frontier_of from f) w m.causes a.1))

-- one message after the others
sent_kept-push : (from to : Bounds) (e : ℕ) (front bound : Front) (ms : List Counted) (m : Counted) (f g : Front) → IsSentKept from to e front bound ms f
    → IsSentKept from to e f bound (m ∷ []) g → IsSentKept from to e front bound (ms ++ m ∷ []) g
sent_kept-push from to e front bound ms m f g k n = record {
  canonical = n.canonical;
  within = λ t i. k.within t (n.within t i);
  passes = each-append (SentPasses from to e bound g) ms (m ∷ [])
      (each-weaker (SentPasses from to e bound f) (SentPasses from to e bound g) ms (λ c. passes-lesser from to e bound f g c n.within) k.passes) n.passes;
  largest = λ x w a. n.largest x (k.largest x w (each-prefix (SentPasses from to e bound x) ms (m ∷ []) a)) (each-suffix (SentPasses from to e bound x) ms (m ∷ []) a);
}

-- in a loop over the messages

pub one_cause_at : (e : ℕ) (ms : List Counted) (i : ℕ) (m : Counted) → i < length ms → m ≡ get_or ms i m → AllByRecursion HasOneCause (counted_on_edge e ms)
    → (m.edge == e) ≡ true → HasOneCause m
one_cause_at e ms i m l is ones =
    subst (λ (c : Counted). (c.edge == e) ≡ true → HasOneCause c) (sym is)
    (each-at (λ (c : Counted). (c.edge == e) ≡ true → HasOneCause c) ms i m l (each_of-filter HasOneCause (λ (c : Counted). c.edge == e) ms ones))

pub sent_kept-more : (from to : Bounds) (e : ℕ) (front bound : Front) (ms : List Counted) (i : ℕ) (m : Counted) (f g : Front) → i < length ms → m ≡ get_or ms i m
    → IsSentKept from to e front bound (take i ms) f → IsSentKept from to e f bound (m ∷ []) g → IsSentKept from to e front bound (take (i + 1) ms) g
sent_kept-more from to e front bound ms i m f g l is k n =
    subst (λ cs. IsSentKept from to e front bound cs g) (sym (take_more ms i m l ∙ ap (λ c. take i ms ++ c ∷ []) (sym is)))
    (sent_kept-push from to e front bound (take i ms) m f g k n)

-- a message that is on another edge, or inside the bound, takes nothing away
pub sent_kept-passed : (from to : Bounds) (e : ℕ) (f bound g : Front) (m : Counted) → IsCanonical from f → g ≡ f
    → ((m.edge == e) ≡ true → frontier_of to bound m.at ≡ true) → IsSentKept from to e f bound (m ∷ []) g
sent_kept-passed from to e f bound g m c same passed =
    subst (IsSentKept from to e f bound (m ∷ [])) (sym same) (record {
      canonical = c;
      within = λ t k. k;
      passes = ((λ k. passed (and_parts (m.edge == e) (all_inside (frontier_of from f) m.causes) k).0), tt);
      largest = λ x w a. w;
    })

-- another one takes away what is above its cause
pub sent_kept-below : (from to : Bounds) (e : ℕ) (f bound g : Front) (m : Counted) (t : Stamp) → IsCanonical from f → (m.edge == e) ≡ true
    → frontier_of to bound m.at ≡ false → m.causes ≡ t ∷ [] → IsBelowStamp from f t g → IsSentKept from to e f bound (m ∷ []) g
sent_kept-below from to e f bound g m t c edge out cause (inr (strange, same)) =
    subst (IsSentKept from to e f bound (m ∷ [])) (sym same) (record {
      canonical = c;
      within = λ u k. k;
      passes = (
        (λ k.
            let all = subst (λ cs. all_inside (frontier_of from f) cs ≡ true) cause (and_parts (m.edge == e) (all_inside (frontier_of from f) m.causes) k).1 in
            let here = (and_parts (frontier_of from f t) true all).0 in
            absurd (both_ways (in_domain from t) strange (and_parts (in_domain from t) (inside f t) here).0)),
        tt,
      );
      largest = λ x w a. w;
    })
sent_kept-below from to e f bound g m t c edge out cause (inl (d, n)) = record {
  canonical = n.canonical;
  within = λ u k. (and_parts (frontier_of from f u) (not (leq t u)) (sym (n.same u) ∙ k)).0;
  passes = (
    (λ k.
        let all = subst (λ cs. all_inside (frontier_of from g) cs ≡ true) cause (and_parts (m.edge == e) (all_inside (frontier_of from g) m.causes) k).1 in
        let here = (and_parts (frontier_of from g t) true all).0 in
        let gone = (and_parts (frontier_of from f t) (not (leq t t)) (sym (n.same t) ∙ here)).1 in
        let kept = leq-refl t in
        absurd (cc)),
    tt,
  );
  largest = λ x w a u i.
      let gone : frontier_of from x t ≡ false = false_from_ne_true (frontier_of from x t) (λ j.
      both_ways (frontier_of to bound m.at) out (a.0 (and_from (m.edge == e) (all_inside (frontier_of from x) m.causes) edge
      (subst (λ cs. all_inside (frontier_of from x) cs ≡ true) (sym cause) (and_from (frontier_of from x t) true j refl))))) in
      n.same u ∙ without_above-largest from t (frontier_of from f) (frontier_of from x) (frontier-closed from x) w d gone u i;
}

-- ---- as the code asks

pub is_same : (b d : Bool) → d ≡ not b → d ≡ false → b ≡ true
is_same true d e k = refl
is_same false d e k = absurd (cc)

-- the first cause is the only one
pub one_cause_is : (m : Counted) (t : Stamp) (ts : List Stamp) → HasOneCause m → ts ≡ m.causes → Some t ≡ slice_get ts 0 → m.causes ≡ t ∷ []
one_cause_is m t ts one is first =
    let found : Some t ≡ slice_get (one.0 ∷ []) 0 = first ∙ ap (λ xs. slice_get xs 0) (is ∙ one.1) in
    let same : t ≡ one.0 = cc in
    one.1 ∙ ap (λ s. s ∷ []) (sym same)
