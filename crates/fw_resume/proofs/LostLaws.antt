-- What was lost of a node that logs its events is told by its third frontier.
use Rattle.std.proofs.Common.{◌≡◌, ℕ, zero, suc, ◌<◌, Bool, true, false, not, ◌&&◌, ◌==◌, cond, List, [], ◌∷◌, length, get_or, map, filter, refl, sym, ap, subst, ◌∙◌, inl, inr, arith}
use Rattle.std.specs.List.{AllByRecursion, Contains, list_any}
use Rattle.std.proofs.lemmas.Bool.{and_parts, and_from, cases_Bool, eq-eqb, eqb-true, false_from_ne_true, not-true, or_cases, or_left, or_right}
use Rattle.std.proofs.lemmas.List.Elements.{Contains-append_right}
use Rattle.fw_lemmas.proofs.Bools.{two_ways}
use Rattle.fw_lemmas.proofs.Each.{each-there, each_of-filter, each-filter}
use Rattle.fw_time.specs.Stamp.{Stamp, leq, in_domain}
use Rattle.fw_time.proofs.StampLaws.{leq-trans}
use Rattle.fw_frontier.specs.Front.{Front, inside, frontier_of, IsFrontOf}
use Rattle.fw_frontier.proofs.CanonicalLaws.{in_domain-canonical}
use Rattle.fw_frontier.proofs.NamesLaws.{all-outside, frontier-closed}
use Rattle.fw_flow.specs.declared.kind.Policy.TheVariants as policy
use Rattle.fw_flow.specs.Dataflow.{System, Dataflow, bounds_of, node_frontier, policy_of}
use Rattle.fw_flow.specs.NodeFunction.{event_node, event_stamp}
use Rattle.fw_model.specs.Choice.{is_serial_logged}
use Rattle.fw_model.specs.Machine.{Machine, SerialEvent, Write, front_of}
use Rattle.fw_model.proofs.ThinnedLaws.{each-contained}
use Rattle.fw_policy.specs.View.{HasAtOrBelow, KnowsLosses}
use Rattle.fw_progress.proofs.TraceLaws.{has-passed}
use Rattle.fw_regain.specs.Down.{down}
use Rattle.fw_regain.specs.RootOf.{IsRootOf}
use Rattle.fw_regain.specs.Third.{stamps_not_logged, third_of}
use Rattle.fw_regain.proofs.DownLaws.{down-failed}
use Rattle.fw_regain.proofs.ThirdLaws.{logged-is, third-stays}
use Rattle.fw_root.specs.declared.root.NodeFronts.{NodeFronts}
use Rattle.fw_root.specs.declared.root.Root.{Root}
use Rattle.fw_resume.specs.Lost.{AreLostTold, KnowAllLosses, fronts_said, lost_told}

-- ---- stamps that are not logged

-- of these events one of node p is not logged, at or below a stamp
record HasLoose (sys : System) (p : ℕ) (writes : List Write) (h : List SerialEvent) (t : Stamp) : Type 0 where
  event : SerialEvent
  there : Contains h event
  node : event_node sys.flow event.event ≡ p
  loose : is_serial_logged event.serial writes ≡ false
  below : leq (event_stamp event.event) t ≡ true

any-loose : (sys : System) (p : ℕ) (writes : List Write) (t : Stamp) (h : List SerialEvent)
    → list_any (λ s. leq s t) (map (λ (v : SerialEvent). event_stamp v.event) (filter (λ (v : SerialEvent). event_node sys.flow v.event == p && not (is_serial_logged v.serial writes)) h)) ≡ true
    → HasLoose sys p writes h t
any-loose sys p writes t [] k = absurd (cc)
any-loose sys p writes t (v ∷ h) k = by (event_node sys.flow v.event == p && not (is_serial_logged v.serial writes)) refl k (any-loose sys p writes t h)
  where
    rest : List Stamp
    rest = map (λ (u : SerialEvent). event_stamp u.event) (filter (λ (u : SerialEvent). event_node sys.flow u.event == p && not (is_serial_logged u.serial writes)) h)

    more : HasLoose sys p writes h t → HasLoose sys p writes (v ∷ h) t
    more l = record { event = l.event; there = Contains-append_right (v ∷ []) h l.event l.there; node = l.node; loose = l.loose; below = l.below }

    by : (b : Bool) → (event_node sys.flow v.event == p && not (is_serial_logged v.serial writes)) ≡ b
        → list_any (λ s. leq s t) (map (λ (u : SerialEvent). event_stamp u.event) (cond b (v ∷ filter (λ (u : SerialEvent). event_node sys.flow u.event == p && not (is_serial_logged u.serial writes)) h) (filter (λ (u : SerialEvent). event_node sys.flow u.event == p && not (is_serial_logged u.serial writes)) h))) ≡ true
        → (list_any (λ s. leq s t) rest ≡ true → HasLoose sys p writes h t) → HasLoose sys p writes (v ∷ h) t
    by false e a f = more (f a)
    by true e a f = elim (or_cases (leq (event_stamp v.event) t) (list_any (λ s. leq s t) rest) a) [
      | inl here ↦
          let two = and_parts (event_node sys.flow v.event == p) (not (is_serial_logged v.serial writes)) e in
          record {
            event = v;
            there = (0, omega arith, refl);
            node = eqb-true (event_node sys.flow v.event) p two.0;
            loose = not-true (is_serial_logged v.serial writes) two.1;
            below = here;
          }
      | inr later ↦ more (f later)
    ]

loose-any : (sys : System) (p : ℕ) (writes : List Write) (t : Stamp) (v : SerialEvent) → event_node sys.flow v.event ≡ p → is_serial_logged v.serial writes ≡ false
    → leq (event_stamp v.event) t ≡ true → (h : List SerialEvent) → Contains h v
    → list_any (λ s. leq s t) (map (λ (u : SerialEvent). event_stamp u.event) (filter (λ (u : SerialEvent). event_node sys.flow u.event == p && not (is_serial_logged u.serial writes)) h)) ≡ true
loose-any sys p writes t v n k b h c =
    let test : SerialEvent → Bool = λ u. event_node sys.flow u.event == p && not (is_serial_logged u.serial writes) in
    let passes : test v ≡ true = and_from (event_node sys.flow v.event == p) (not (is_serial_logged v.serial writes)) (eq-eqb (event_node sys.flow v.event) p n) (ap not k) in
    let kept = each-contained (λ u. test u ≡ true → Contains (filter test h) u) v h c (each_of-filter (Contains (filter test h)) test h (each-there (filter test h))) passes in
    any-of (filter test h) kept.0 kept.1 kept.2
  where
    any-of : (us : List SerialEvent) (i : ℕ) → i < length us → get_or us i v ≡ v → list_any (λ s. leq s t) (map (λ (u : SerialEvent). event_stamp u.event) us) ≡ true
    any-of [] i l e = absurd (omega (arith, l))
    any-of (u ∷ us) zero l e =
        or_left (leq (event_stamp u.event) t) (list_any (λ s. leq s t) (map (λ (w : SerialEvent). event_stamp w.event) us)) (ap (λ (w : SerialEvent). leq (event_stamp w.event) t) e ∙ b)
    any-of (u ∷ us) (suc i) l e =
        or_right (leq (event_stamp u.event) t) (list_any (λ s. leq s t) (map (λ (w : SerialEvent). event_stamp w.event) us)) (any-of us i (omega (arith, l)) e)

-- ---- outside stamps

-- where a stamp is not inside, one that is outside is at or below it
outside-below : (os : Front) (t : Stamp) → inside os t ≡ false → HasAtOrBelow (Contains os) t
outside-below [] t k = absurd (cc)
outside-below (o ∷ os) t k = elim (cases_Bool (leq o t)) [
  | inl l ↦ (o, (0, omega arith, refl), l)
  | inr n ↦
      let rest = outside-below os t (ap (λ b. not b && inside os t) (sym n) ∙ k) in
      (rest.0, Contains-append_right (o ∷ []) os rest.0 rest.1, rest.2)
]

passed : (test : Stamp → Bool) (ss : List Stamp) (s : Stamp) → Contains (filter test ss) s → Contains ss s × (test s ≡ true)
passed test ss s c = each-contained (λ u. Contains ss u × (test u ≡ true)) s (filter test ss) c
    (each-filter (λ u. Contains ss u × (test u ≡ true)) test ss (each-tested ss (each-there ss)))
  where
    each-tested : (us : List Stamp) → AllByRecursion (Contains ss) us → AllByRecursion (λ u. test u ≡ true → Contains ss u × (test u ≡ true)) us
    each-tested [] a = tt
    each-tested (u ∷ us) a = ((λ k. (a.0, k)), each-tested us a.1)

-- ---- the law

third-tells : (sys : System) (state : Machine) (p : ℕ) (third : Front) → p < length sys.flow.nodes → IsFrontOf (bounds_of sys.flow p) third (third_of sys state p)
    → KnowsLosses sys (down sys state) p (filter (inside (front_of state.settled p)) third)
third-tells sys state p third l f t settled =
    let now = down sys state in
    let b = bounds_of sys.flow p in
    let os = front_of state.settled p in
    let third_is : (s : Stamp) → frontier_of b third s ≡ third_of sys now p s = λ s. f.same s ∙ sym (third-stays sys state p s) in
    let none : Stamp → Bool = λ s. list_any (λ u. leq u s) (stamps_not_logged sys now p) in
    let closed = frontier-closed b os in
    let of_third = in_domain-canonical b third f.canonical in (
      λ g.
          let s = g.0 in
          let c = passed (inside os) third s g.1 in
          let out : inside third s ≡ false = each-contained (λ u. inside third u ≡ false) s third c.0 (all-outside third) in
          let in_settled : node_frontier sys.flow p os s ≡ true = closed.closed s t (each-contained (λ u. in_domain b u ≡ true) s third c.0 of_third) g.2 settled in
          let gone : third_of sys now p s ≡ false = sym (third_is s) ∙ false_from_ne_true (frontier_of b third s)
          (λ k. two_ways (inside third s) (and_parts _ (inside third s) k).1 out) in
          let some : none s ≡ true = loses (node_frontier sys.flow p os s) (none s) in_settled gone in
          let v = any-loose sys p now.writes s now.history some in (
            event_stamp v.event.event,
            (
              down-failed sys state p l,
              record {
                event = v.event;
                there = v.there;
                is = record { same_serial = refl; node = v.node; stamp = refl };
                not_logged = λ k. two_ways (is_serial_logged v.event.serial now.writes) ((logged-is v.event.serial now.writes).1 k) v.loose;
              },
            ),
            leq-trans (event_stamp v.event.event) s t v.below g.2,
          ),
      λ g.
          let u = g.1.1 in
          let v = u.event in
          let at = event_stamp v.event in
          let loose : is_serial_logged v.serial now.writes ≡ false = false_from_ne_true (is_serial_logged v.serial now.writes)
          (λ k. u.not_logged ((logged-is v.serial now.writes).0 k)) in
          let below : leq at t ≡ true = ap (λ x. leq x t) u.is.stamp ∙ g.2 in
          let some : none t ≡ true = loose-any sys p now.writes t v u.is.node loose below now.history u.there in
          let out : inside third t ≡ false = false_from_ne_true (inside third t) (λ k.
          two_ways (third_of sys now p t) (sym (third_is t) ∙ and_from (in_domain b t) (inside third t) (closed.inside_domain t settled) k)
          (ap (λ x. node_frontier sys.flow p os t && not x) some ∙ and-false (node_frontier sys.flow p os t))) in
          let o = outside-below third t out in
          let in_settled = closed.closed o.0 t (each-contained (λ u. in_domain b u ≡ true) o.0 third o.1 of_third) o.2 settled in
          (o.0, has-passed (inside os) third o.0 o.1 (and_parts _ (inside os o.0) in_settled).1, o.2),
    )
  where
    loses : (a b : Bool) → a ≡ true → (a && not b) ≡ false → b ≡ true
    loses true true e k = refl
    loses true false e k = absurd (cc)
    loses false b e k = absurd (cc)

    and-false : (a : Bool) → (a && false) ≡ false
    and-false true = refl
    and-false false = refl

-- what one field of an element is
field-at : {A B : Type 0} (f : A → B) (xs : List A) (i : ℕ) (d : A) (e : B) → f d ≡ e → get_or (map f xs) i e ≡ f (get_or xs i d)
field-at f [] i d e k = sym k
field-at f (x ∷ xs) zero d e k = refl
field-at f (x ∷ xs) (suc i) d e k = field-at f xs i d e k

pub lost-held : (flow : Dataflow) (fronts : List NodeFronts) (lost : List (List Stamp)) (sys : System) (state : Machine) (root : Root) → sys.flow ≡ flow
    → root.fronts ≡ fronts → IsRootOf sys state root → AreLostTold flow fronts (length flow.nodes) lost → KnowAllLosses sys state lost
lost-held flow fronts lost sys state root e r of told p l full =
    let none : NodeFronts = record { settled = []; low = []; third = [] } in
    let mine = fronts_said root.fronts p in
    let settled : mine.settled ≡ front_of state.settled p =
    sym (field-at (λ (f : NodeFronts). f.settled) root.fronts p none [] refl) ∙ ap (λ fs. get_or fs p []) of.settled in
    let third : IsFrontOf (bounds_of sys.flow p) mine.third (third_of sys state p) =
    subst (λ f. IsFrontOf (bounds_of sys.flow p) f (third_of sys state p)) (field-at (λ (f : NodeFronts). f.third) root.fronts p none [] refl) (of.third p l full) in
    let all : get_or lost p [] ≡ filter (inside (front_of state.settled p)) mine.third =
    told.each p (subst (λ g. p < length g.nodes) e l) ∙ ap (λ k. lost_told k (fronts_said fronts p)) (sym (ap (λ g. policy_of g p) e) ∙ full)
    ∙ ap (λ fs. lost_told policy.Full (fronts_said fs p)) (sym r) ∙ ap (λ f. filter (inside f) mine.third) settled in
    subst (KnowsLosses sys (down sys state) p) (sym all) (third-tells sys state p mine.third l third)
