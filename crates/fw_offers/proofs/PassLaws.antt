-- Which stamps have to lie within a bound, so that a cover of them does.
use Rattle.std.proofs.Common.{◌≡◌, ◌↔◌, ℕ, Bool, true, false, not, ◌&&◌, ◌||◌, ◌==◌, cond, List, [], ◌∷◌, map, filter, refl, sym, ap, subst, ◌∙◌}
use Rattle.std.specs.List.{AllByRecursion, list_all}
use Rattle.std.proofs.lemmas.Bool.{and_parts, eqb-true}
use Rattle.fw_lemmas.proofs.Bools.{implies-from}
use Rattle.fw_lemmas.proofs.Each.{each-weaker, each-map, each_of-map, each-filter, each_of-filter, each-of_all, all-of_each}
use Rattle.fw_time.specs.Stamp.{Stamp, in_domain}
use Rattle.fw_time.specs.declared.stamp.Bounds.{Bounds}
use Rattle.fw_frontier.specs.Frontier.{Within, cover}
use Rattle.fw_frontier.specs.Front.{Front, inside, frontier_of}
use Rattle.fw_frontier.proofs.NamesLaws.{frontier-closed}
use Rattle.fw_flow.specs.declared.choice.Counted.{Counted}
use Rattle.fw_flow.specs.Dataflow.{Dataflow, receiver, bounds_of}
use Rattle.fw_flow.specs.Projection.{all_inside}
use Rattle.fw_model.specs.Offers.{stamps_on, stamps_on_from, AreAtEdgeStamps}
use Rattle.fw_offers.specs.Sides.{SentPasses}
use Rattle.fw_offers.proofs.CoverLaws.{cover-within, cover-below}
use Rattle.fw_model.proofs.DescentLaws.{implies-at}

both-at : (a b c : Bool) → (not a || not b || c) ≡ true → a ≡ true → b ≡ true → c ≡ true
both-at true true c k e f = k
both-at true false c k e f = absurd (cc)
both-at false b c k e f = absurd (cc)

both-from : (a b c : Bool) → (a ≡ true → b ≡ true → c ≡ true) → (not a || not b || c) ≡ true
both-from true true c h = h refl refl
both-from true false c h = refl
both-from false b c h = refl

-- whether each stamp that is inside a frontier is inside a bound
abbrev pub inside_pass : Bounds → Front → Front → List Stamp → Bool
inside_pass b f g ss = list_all (λ s. not (frontier_of b f s) || frontier_of b g s) ss

pub inside_pass-is : (b : Bounds) (f g : Front) (ss : List Stamp) → (inside_pass b f g ss ≡ true) ↔ Within (cover b (filter (frontier_of b f) ss)) (frontier_of b g)
inside_pass-is b f g ss = (
  λ k. cover-within b (filter (frontier_of b f) ss) (frontier_of b g) (frontier-closed b g)
      (each-filter (λ s. frontier_of b g s ≡ true) (frontier_of b f) ss
      (each-weaker (λ s. (not (frontier_of b f s) || frontier_of b g s) ≡ true) (λ s. frontier_of b f s ≡ true → frontier_of b g s ≡ true) ss
      (λ s. implies-at (frontier_of b f s) (frontier_of b g s))
      (each-of_all (λ s. not (frontier_of b f s) || frontier_of b g s) ss k))),
  λ w. all-of_each (λ s. not (frontier_of b f s) || frontier_of b g s) ss
      (each-weaker (λ s. frontier_of b f s ≡ true → frontier_of b g s ≡ true) (λ s. (not (frontier_of b f s) || frontier_of b g s) ≡ true) ss
      (λ s. implies-from (frontier_of b f s) (frontier_of b g s))
      (each_of-filter (λ s. frontier_of b g s ≡ true) (frontier_of b f) ss
      (cover-below b (filter (frontier_of b f) ss) (frontier_of b g)
      (each-filter (λ s. in_domain b s ≡ true) (frontier_of b f) ss (each-true ss)) w))),
)
  where
    each-true : (ss : List Stamp) → AllByRecursion (λ s. frontier_of b f s ≡ true → in_domain b s ≡ true) ss
    each-true [] = tt
    each-true (s ∷ ss) = (λ k. (and_parts (in_domain b s) (inside f s) k).0, each-true ss)

-- the same of an edge's messages
abbrev pub delivered_pass : Bounds → ℕ → Front → Front → List Counted → Bool
delivered_pass b d f g ms = list_all (λ m. not (m.edge == d) || not (frontier_of b f m.at) || frontier_of b g m.at) ms

pub delivered_pass-stamps : (b : Bounds) (d : ℕ) (f g : Front) (ms : List Counted)
    → delivered_pass b d f g ms ≡ inside_pass b f g (map (λ m. m.at) (filter (λ m. m.edge == d) ms))
delivered_pass-stamps b d f g [] = refl
delivered_pass-stamps b d f g (m ∷ ms) = at (m.edge == d) refl (delivered_pass-stamps b d f g ms)
  where
    test : Stamp → Bool
    test s = not (frontier_of b f s) || frontier_of b g s

    rest : List Stamp
    rest = map (λ (n : Counted). n.at) (filter (λ (n : Counted). n.edge == d) ms)

    at : (e : Bool) → m.edge == d ≡ e → delivered_pass b d f g ms ≡ inside_pass b f g rest
        → ((not e || not (frontier_of b f m.at) || frontier_of b g m.at) && delivered_pass b d f g ms)
        ≡ inside_pass b f g (map (λ n. n.at) (cond e (m ∷ filter (λ n. n.edge == d) ms) (filter (λ n. n.edge == d) ms)))
    at true e r = ap (λ c. (not (frontier_of b f m.at) || frontier_of b g m.at) && c) r
    at false e r = r

pub delivered_pass-is : (b : Bounds) (d : ℕ) (f g : Front) (ms : List Counted)
    → (delivered_pass b d f g ms ≡ true) ↔ Within (cover b (filter (frontier_of b f) (stamps_on d ms))) (frontier_of b g)
delivered_pass-is b d f g ms =
    let i = inside_pass-is b f g (map (λ m. m.at) (filter (λ m. m.edge == d) ms)) in
    (λ k. i.0 (sym (delivered_pass-stamps b d f g ms) ∙ k), λ w. delivered_pass-stamps b d f g ms ∙ i.1 w)

-- whether each of an edge's messages all of whose causes are inside a frontier of the sender is inside a bound
abbrev pub sent_pass : Bounds → Bounds → ℕ → Front → Front → List Counted → Bool
sent_pass from to e f g ms = list_all (λ m. not (m.edge == e && all_inside (frontier_of from f) m.causes) || frontier_of to g m.at) ms

-- the stamps of an edge's messages that come from inside a frontier are inside a bound exactly where a cover of them is
pub sent-covered : (flow : Dataflow) (from : Bounds) (e : ℕ) (f g : Front) (ms : List Counted) → AreAtEdgeStamps flow ms
    → AllByRecursion (SentPasses from (bounds_of flow (receiver flow e)) e g f) ms
    ↔ Within (cover (bounds_of flow (receiver flow e)) (stamps_on_from e (frontier_of from f) ms)) (frontier_of (bounds_of flow (receiver flow e)) g)
sent-covered flow from e f g ms d =
    let to = bounds_of flow (receiver flow e) in
    let test : Counted → Bool = λ m. m.edge == e && all_inside (frontier_of from f) m.causes in (
      λ k. cover-within to (map (λ m. m.at) (filter test ms)) (frontier_of to g) (frontier-closed to g)
          (each-map (λ s. frontier_of to g s ≡ true) (λ (m : Counted). m.at) (filter test ms)
          (each-filter (λ m. frontier_of to g m.at ≡ true) test ms k)),
      λ w. each_of-filter (λ m. frontier_of to g m.at ≡ true) test ms
          (each_of-map (λ s. frontier_of to g s ≡ true) (λ (m : Counted). m.at) (filter test ms)
          (cover-below to (map (λ m. m.at) (filter test ms)) (frontier_of to g)
          (each-map (λ s. in_domain to s ≡ true) (λ (m : Counted). m.at) (filter test ms)
          (each-filter (λ m. in_domain to m.at ≡ true) test ms
          (each-weaker (λ m. in_domain (bounds_of flow (receiver flow m.edge)) m.at ≡ true) (λ m. test m ≡ true → in_domain to m.at ≡ true) ms
          (λ m i t. subst (λ x. in_domain (bounds_of flow (receiver flow x)) m.at ≡ true)
          (eqb-true m.edge e (and_parts (m.edge == e) (all_inside (frontier_of from f) m.causes) t).0) i) d))) w)),
    )

pub sent_pass-is : (flow : Dataflow) (from : Bounds) (e : ℕ) (f g : Front) (ms : List Counted) → AreAtEdgeStamps flow ms
    → (sent_pass from (bounds_of flow (receiver flow e)) e f g ms ≡ true)
    ↔ Within (cover (bounds_of flow (receiver flow e)) (stamps_on_from e (frontier_of from f) ms)) (frontier_of (bounds_of flow (receiver flow e)) g)
sent_pass-is flow from e f g ms d =
    let to = bounds_of flow (receiver flow e) in
    let test : Counted → Bool = λ m. m.edge == e && all_inside (frontier_of from f) m.causes in
    let c = sent-covered flow from e f g ms d in (
      λ k. c.0 (each-weaker (λ m. (not (test m) || frontier_of to g m.at) ≡ true) (SentPasses from to e g f) ms
          (λ m. implies-at (test m) (frontier_of to g m.at))
          (each-of_all (λ m. not (test m) || frontier_of to g m.at) ms k)),
      λ w. all-of_each (λ m. not (test m) || frontier_of to g m.at) ms
          (each-weaker (SentPasses from to e g f) (λ m. (not (test m) || frontier_of to g m.at) ≡ true) ms
          (λ m. implies-from (test m) (frontier_of to g m.at)) (c.1 w)),
    )

-- ---- as the tests are called

pub inside_pass_at : (b c : Bounds) (f g : Front) (ss ts : List Stamp) (r : Bool) → c ≡ b → ts ≡ ss → r ≡ inside_pass c f g ts
    → (r ≡ true) ↔ Within (cover b (filter (frontier_of b f) ss)) (frontier_of b g)
inside_pass_at b c f g ss ts r e k is =
    let i = inside_pass-is b f g ss in
    let same : r ≡ inside_pass b f g ss = is ∙ ap (λ x. inside_pass x f g ts) e ∙ ap (inside_pass b f g) k in
    (λ h. i.0 (sym same ∙ h), λ w. same ∙ i.1 w)

pub delivered_pass_at : (b c : Bounds) (d : ℕ) (f g : Front) (ms ns : List Counted) (r : Bool) → c ≡ b → ns ≡ ms → r ≡ delivered_pass c d f g ns
    → (r ≡ true) ↔ Within (cover b (filter (frontier_of b f) (stamps_on d ms))) (frontier_of b g)
delivered_pass_at b c d f g ms ns r e k is =
    let i = delivered_pass-is b d f g ms in
    let same : r ≡ delivered_pass b d f g ms = is ∙ ap (λ x. delivered_pass x d f g ns) e ∙ ap (delivered_pass b d f g) k in
    (λ h. i.0 (sym same ∙ h), λ w. same ∙ i.1 w)

pub sent_pass_at : (flow : Dataflow) (from a to : Bounds) (e : ℕ) (f g : Front) (ms ns : List Counted) (r : Bool) → a ≡ from → to ≡ bounds_of flow (receiver flow e) → ns ≡ ms
    → AreAtEdgeStamps flow ms → r ≡ sent_pass a to e f g ns
    → (r ≡ true) ↔ Within (cover (bounds_of flow (receiver flow e)) (stamps_on_from e (frontier_of from f) ms)) (frontier_of (bounds_of flow (receiver flow e)) g)
sent_pass_at flow from a to e f g ms ns r i j k d is =
    let h = sent_pass-is flow from e f g ms d in
    let same : r ≡ sent_pass from (bounds_of flow (receiver flow e)) e f g ms =
    is ∙ ap (λ x. sent_pass x to e f g ns) i ∙ ap (λ x. sent_pass from x e f g ns) j ∙ ap (sent_pass from (bounds_of flow (receiver flow e)) e f g) k in
    (λ l. h.0 (sym same ∙ l), λ w. same ∙ h.1 w)
