-- Settled can grow to what is complete.
use Rattle.std.proofs.Common.{◌≡◌, ℕ, ◌<◌, Bool, true, false, List, [], length, map, sym, subst, refl, inl, inr, arith}
use Rattle.std.specs.List.{range_with_len}
use Rattle.std.proofs.lemmas.Bool.{and_parts, or_cases, or_left, or_right}
use Rattle.std.proofs.lemmas.List.FromFn.{get_or-map-range_with_len, length-map-range_with_len}
use Rattle.fw_time.specs.declared.stamp.Bounds.{Bounds}
use Rattle.fw_frontier.specs.Frontier.{Frontier, IsFrontier, meet, join}
use Rattle.fw_frontier.specs.Front.{Front, frontier_of, IsFrontOf}
use Rattle.fw_frontier.proofs.NamesLaws.{frontier-closed}
use Rattle.fw_flow.specs.Dataflow.{bounds_of}
use Rattle.fw_model.specs.Machine.{front_of, is_failed}
use Rattle.fw_model.specs.LawsOfExistence.{SettledCanGrow}
use Rattle.fw_model.proofs.FrontLaws.{has_front}
use Rattle.std.proofs.lemmas.Bool.{and_from}

pub join-frontier : (b : Bounds) (f g : Frontier) → IsFrontier b f → IsFrontier b g → IsFrontier b (join f g)
join-frontier b f g ff fg = record {
  inside_domain = λ t k. elim (or_cases (f t) (g t) k) [ inl i ↦ ff.inside_domain t i | inr i ↦ fg.inside_domain t i ];
  closed = λ s t d l k. elim (or_cases (f t) (g t) k) [
    | inl i ↦ or_left (f s) (g s) (ff.closed s t d l i)
    | inr i ↦ or_right (f s) (g s) (fg.closed s t d l i)
  ];
}

pub meet-frontier : (b : Bounds) (f g : Frontier) → IsFrontier b f → IsFrontier b g → IsFrontier b (meet f g)
meet-frontier b f g ff fg = record {
  inside_domain = λ t k. ff.inside_domain t (and_parts (f t) (g t) k).0;
  closed = λ s t d l k.
      let a = and_parts (f t) (g t) k in
      and_from (f s) (g s) (ff.closed s t d l a.0) (fg.closed s t d l a.1);
}

-- a front for each of the first n nodes
pub fronts-each : (n : ℕ) (P : ℕ → Front → Type 0) → ((p : ℕ) → (os : Front) × P p os)
    → (fs : List Front) × (length fs ≡ n) × ((p : ℕ) → p < n → P p (front_of fs p))
fronts-each n P h =
    let f : ℕ → Front = λ p. (h p).0 in (
      map f (range_with_len 0 n),
      length-map-range_with_len f 0 n,
      λ p l. subst (P p) (sym (get_or-map-range_with_len f 0 n p p [] l (omega arith))) (h p).1,
    )

-- what the settled front of a node grows to: more, where it is not failed
IsGrown : Bounds → Bool → Front → Frontier → Front → Type 0
IsGrown b true old done new = new ≡ old
IsGrown b false old done new = IsFrontOf b new (join (frontier_of b old) done)

grown-front : (b : Bounds) (failed : Bool) (old : Front) (done : Frontier) → IsFrontier b done → (new : Front) × IsGrown b failed old done new
unfolding IsGrown
grown-front b true old done fr = (old, refl)
grown-front b false old done fr = has_front b (join (frontier_of b old) done) (join-frontier b (frontier_of b old) done (frontier-closed b old) fr)

grown-live : (b : Bounds) (failed : Bool) (old : Front) (done : Frontier) (new : Front) → failed ≡ false → IsGrown b failed old done new
    → IsFrontOf b new (join (frontier_of b old) done)
unfolding IsGrown
grown-live b true old done new e g = absurd (cc)
grown-live b false old done new e g = g

grown-failed : (b : Bounds) (failed : Bool) (old : Front) (done : Frontier) (new : Front) → failed ≡ true → IsGrown b failed old done new → new ≡ old
unfolding IsGrown
grown-failed b true old done new e g = g
grown-failed b false old done new e g = absurd (cc)

pub settled-grows : SettledCanGrow
settled-grows sys state done c more =
    let n = length sys.flow.nodes in
    let old : ℕ → Front = λ p. front_of state.settled p in
    let P : ℕ → Front → Type 0 = λ p os. IsGrown (bounds_of sys.flow p) (is_failed state p) (old p) (done p) os in
    let w = fronts-each n P (λ p. grown-front (bounds_of sys.flow p) (is_failed state p) (old p) (done p) (c.admissible.frontier p)) in (
      w.0,
      record {
        complete = c;
        some = (more.node, more.at, more.declared, more.live, more.complete, more.unsettled);
        one_each = w.1;
        each = λ p l e. grown-live (bounds_of sys.flow p) (is_failed state p) (old p) (done p) (front_of w.0 p) e (w.2 p l);
        failed = λ p l e. grown-failed (bounds_of sys.flow p) (is_failed state p) (old p) (done p) (front_of w.0 p) e (w.2 p l);
      },
    )
