-- Where `auto` has nothing to do, each output has acknowledged all that is denoted at it.
use Rattle.std.proofs.Common.{◌≡◌, ℕ, suc, ◌+◌, ◌<◌, ◌≤◌, Bool, true, false, ◌&&◌, ◌==◌, cond, List, [], ◌∷◌, ◌++◌, length, slice_index_or, slice_set, refl, sym, ap, subst, ◌∙◌, inl, inr, arith}
use Rattle.std.specs.List.{AllByRecursion}
use Rattle.std.proofs.lemmas.Bool.{cases_Bool, cases_lt, and_from, cond_both, eqb-true, eq-eqb}
use Rattle.fw_lemmas.proofs.Bools.{two_ways}
use Rattle.fw_lemmas.proofs.Each.{each-weaker, each-both}
use Rattle.fw_time.specs.Stamp.{Stamp, leq, same, in_domain}
use Rattle.fw_bag.specs.declared.rec.Rec.{Rec}
use Rattle.fw_flow.specs.declared.event.Event.{Event}
use Rattle.fw_flow.specs.declared.event.Event.TheVariants.{Inject, Deliver, Notify}
use Rattle.fw_flow.specs.declared.kind.Kind.TheVariants.{OutputEpoch, OutputNumber}
use Rattle.fw_flow.specs.Dataflow.{System, Dataflow, kind_of, receiver, bounds_of, bounds_of_domain, domain_of_kind, node_frontier, greatest_number, is_output_kind, is_numbered, is_of_numbers, batches_of}
use Rattle.fw_flow.specs.NodeFunction.{delivered_recs}
use Rattle.fw_flow.specs.WellFormed.{IsWellFormedSystem}
use Rattle.fw_flow.specs.WholeBags.{Timed}
use Rattle.fw_model.specs.Denotation.{Family, IsDenotation, AreNumberedFrom}
use Rattle.fw_model.specs.History.{delivered_messages, IsLegal}
use Rattle.fw_model.specs.Reached.{IsReached}
use Rattle.fw_model.specs.Machine.{Machine, events, front_of, ack_count_of}
use Rattle.fw_model.specs.Steps.{acked, HasEpoch, HasDelivery, HasSomethingAt, recs_at_output}
use Rattle.fw_model.proofs.DenotationDomainLaws.{denotation-in_domain}
use Rattle.fw_model.proofs.DenotedLaws.{delivered-denoted}
use Rattle.fw_model.proofs.DescentLaws.{complete-exists}
use Rattle.fw_model.proofs.DomainLaws.{has_epochs}
use Rattle.fw_model.proofs.NumberedLaws.{denotation-numbered}
use Rattle.fw_model.proofs.PrefixLaws.{all_denoted}
use Rattle.fw_model.proofs.RecoveryLaws.{runs-legal}
use Rattle.fw_model.proofs.SentLaws.{timed_of, timed_message}
use Rattle.fw_model.proofs.StampLaws.{in_line, line-leq, same-refl}
use Rattle.fw_model.proofs.WeightLaws.{weigh, is_at, is_at-is, is_at-self, one, one-in, one-out}
use Rattle.fw_rest.specs.Rest.{AreAllLive, HasNothingToDo, IsAcknowledged, HasAcknowledgedAll}
use Rattle.fw_rest.specs.LawsOfRest.{RestHasAcknowledgedAll}
use Rattle.fw_rest.proofs.DueLaws.{output_kinds, due-least, acknowledged-due}
use Rattle.fw_rest.proofs.IdleLaws.{idle-each, idle-settled, nothing_to_do-rest}
use Rattle.fw_rest.proofs.RestLaws.{rest-complete}

-- ---- what is there at an epoch is there at a lesser one

epoch-lesser : (sources : List (List (List Rec))) (a x : ℕ) → a ≤ x → HasEpoch sources x → HasEpoch sources a
epoch-lesser [] a x l k = k
epoch-lesser (batches ∷ sources) a x l (inl k) = inl (omega arith)
epoch-lesser (batches ∷ sources) a x l (inr k) = inr (epoch-lesser sources a x l k)

-- the epoch is one of some node's batches
epoch-of : (sources : List (List (List Rec))) (x : ℕ) → HasEpoch sources x → (p : ℕ) × (x < length (slice_index_or sources p []))
epoch-of [] x k = absurd k
epoch-of (batches ∷ sources) x (inl k) = (0, k)
epoch-of (batches ∷ sources) x (inr k) = let i = epoch-of sources x k in (suc i.0, i.1)

epoch-few : (sys : System) → IsWellFormedSystem sys → (x : ℕ) → HasEpoch sys.batches x → x ≤ greatest_number
unfolding batches_of
epoch-few sys w x k =
    let p = epoch-of sys.batches x k in
    let a = p.1 in
    let b = has_epochs sys w p.0 in
    omega arith

-- ---- what was delivered to an output

-- where a rec was delivered on an in-edge at a stamp that passes a test, the output has a delivery
has-delivery : (flow : Dataflow) (o e : ℕ) → receiver flow e ≡ o → (test : Stamp → Bool) (t : Stamp) → test t ≡ true → (q : Rec) (h : List Event)
    → 0 < weigh (one t q) (timed_of (delivered_messages h e)) → 0 < length (delivered_recs (λ d s. receiver flow d == o && test s) h)
unfolding weigh
has-delivery flow o e is test t k q [] l = absurd (omega arith)
has-delivery flow o e is test t k q (Inject s x ∷ h) l = has-delivery flow o e is test t k q h l
has-delivery flow o e is test t k q (Notify p s ∷ h) l = has-delivery flow o e is test t k q h l
has-delivery flow o e is test t k q (Deliver d m ∷ h) l =
    cond_both (receiver flow d == o && test m.at) (m.rec ∷ []) [] (λ rs. 0 < length (rs ++ delivered_recs (λ f s. receiver flow f == o && test s) h))
    (λ i. omega arith)
    (λ i. has-delivery flow o e is test t k q h (other i))
  where
    other : (receiver flow d == o && test m.at) ≡ false → 0 < weigh (one t q) (timed_of (delivered_messages h e))
    other i = by (d == e) refl l
      where
        by : (b : Bool) → (d == e) ≡ b → 0 < weigh (one t q) (timed_of (cond b (m ∷ []) [] ++ delivered_messages h e))
            → 0 < weigh (one t q) (timed_of (delivered_messages h e))
        by false c j = j
        by true c j = elim (cases_Bool (is_at t q (timed_message m))) [
          | inr f ↦ let z = one-out t q (timed_message m) f in omega arith
          | inl f ↦
              let at : t ≡ m.at = ap (λ (x : Timed). x.at) (is_at-is t q (timed_message m) f) in
              absurd (two_ways _ (and_from (receiver flow d == o) (test m.at) (ap (λ n. receiver flow n == o) (eqb-true d e c) ∙ eq-eqb (receiver flow e) o is) (sym (ap test at) ∙ k)) i)
        ]

-- ---- numbers have no gap

-- where a rec is at a number, one is at each lesser number from the first on
number-lesser : (n : ℕ) (xs : List Timed) → AreNumberedFrom n xs → (a x : ℕ) → n ≤ a → a ≤ x → (q : Rec) → 0 < weigh (one (x ∷ []) q) xs
    → (r : Rec) × (0 < weigh (one (a ∷ []) r) xs)
unfolding weigh
number-lesser n [] k a x i j q l = absurd (omega arith)
number-lesser n (y ∷ ys) k a x i j q l = elim (cases_lt n a) [
  | inl m ↦ elim (cases_Bool (is_at (x ∷ []) q y)) [
    | inr f ↦
        let z = one-out (x ∷ []) q y f in
        let w = number-lesser (n + 1) ys k.1 a x (omega arith) j q (omega arith) in
        let b = w.1 in
        (w.0, omega arith)
    | inl f ↦
        let at : x ∷ [] ≡ y.at = ap (λ (r : Timed). r.at) (is_at-is (x ∷ []) q y f) in
        let e : x ≡ n = ap (λ s. slice_index_or s 0 0) (at ∙ k.0) in
        absurd (omega arith)
  ]
  | inr m ↦
      let e : n ≡ a = omega arith in
      let at : y.at ≡ a ∷ [] = k.0 ∙ ap (λ u. u ∷ []) e in
      let z : one (a ∷ []) y.rec y ≡ 1 = sym (ap (λ s. one s y.rec y) at) ∙ one-in y.at y.rec y (is_at-self y) in
      (y.rec, omega arith)
]

-- each rec of a bag is there
each-there : (xs : List Timed) → AllByRecursion (λ r. 0 < weigh (one r.at r.rec) xs) xs
unfolding weigh
each-there [] = tt
each-there (x ∷ xs) =
    let z : one x.at x.rec x ≡ 1 = one-in x.at x.rec x (is_at-self x) in
    (omega arith, each-weaker (λ r. 0 < weigh (one r.at r.rec) xs) (λ r. 0 < weigh (one r.at r.rec) (x ∷ xs)) xs (λ r l. omega arith) (each-there xs))

-- ---- the stamps of outputs

pub output-bounds : (flow : Dataflow) (o : ℕ) → is_output_kind (kind_of flow o) ≡ true → (t : Stamp) → in_domain (bounds_of flow o) t ≡ leq t (greatest_number ∷ [])
unfolding bounds_of
output-bounds flow o k t = elim (output_kinds (kind_of flow o) k) [
  | inl is ↦ ap (λ kind. in_domain (bounds_of_domain flow (domain_of_kind flow kind)) t) is
  | inr is ↦ ap (λ kind. in_domain (bounds_of_domain flow (domain_of_kind flow kind)) t) is
]

-- ---- the law

module _ (sys : System) (family : Family) (w : IsWellFormedSystem sys) (den : IsDenotation sys family) (state : Machine) (reached : IsReached sys state)
    (live : AreAllLive sys state) (idle : HasNothingToDo sys state) (o : ℕ) (there : o < length sys.flow.nodes)
    (output : is_output_kind (kind_of sys.flow o) ≡ true) where
  abbrev h : List Event
  h = events state.history

  legal : IsLegal sys h
  legal = runs-legal sys reached.0 reached.1 state w.flow (has_epochs sys w) reached.2

  -- all that the domain has is settled
  settled : (x : ℕ) → x ≤ greatest_number → node_frontier sys.flow o (front_of state.settled o) (x ∷ []) ≡ true
  settled x l =
      let c = complete-exists sys h w.flow in
      let at : in_domain (bounds_of sys.flow o) (x ∷ []) ≡ true = output-bounds sys.flow o output (x ∷ []) ∙ line-leq x greatest_number l in
      let done = rest-complete sys h w.flow (has_epochs sys w) legal (nothing_to_do-rest sys state w.flow live idle) c.0 c.1 o there (x ∷ []) at in
      idle-settled sys state (idle-each sys state idle).progress c.0 c.1 o there (live o there) (x ∷ []) done

  -- nothing is there at the next stamp
  none-next : ack_count_of state o ≤ greatest_number → HasSomethingAt sys h (kind_of sys.flow o) o (ack_count_of state o) → ⊥
  none-next l something =
      let a = ack_count_of state o in
      let none = (idle-each sys state idle).acks o there in
      none (record state { ack_counts = slice_set state.ack_counts o (a + 1) }) (acked o (a ∷ []) (recs_at_output sys state o a))
      (a, record { declared = there; output = output; live = live o there; next = refl; settled = settled a l; there = something }, refl, refl)

  -- what is denoted at a stamp was delivered
  delivered : (e : ℕ) → receiver sys.flow e ≡ o → (x : ℕ) → x ≤ greatest_number → (q : Rec) → 0 < weigh (one (x ∷ []) q) (family e)
      → 0 < weigh (one (x ∷ []) q) (timed_of (delivered_messages h e))
  delivered e is x l q k =
      let c = complete-exists sys h w.flow in
      let at : in_domain (bounds_of sys.flow o) (x ∷ []) ≡ true = output-bounds sys.flow o output (x ∷ []) ∙ line-leq x greatest_number l in
      let done = rest-complete sys h w.flow (has_epochs sys w) legal (nothing_to_do-rest sys state w.flow live idle) c.0 c.1 o there (x ∷ []) at in
      let here : c.0 (receiver sys.flow e) (x ∷ []) ≡ true = ap (λ p. c.0 p (x ∷ [])) is ∙ done in
      let all = delivered-denoted sys h family legal c.0 c.1.admissible e (x ∷ [])
      (all_denoted sys h family w legal den c.0 c.1.admissible e (x ∷ [])) here q in
      omega arith

  -- a stamp at which a rec is denoted is acknowledged
  below : (e : ℕ) → receiver sys.flow e ≡ o → (x : ℕ) → x ≤ greatest_number → (q : Rec) → 0 < weigh (one (x ∷ []) q) (family e) → x < ack_count_of state o
  below e is x l q k = elim (cases_lt x (ack_count_of state o)) [
    | inl m ↦ m
    | inr m ↦
        let a = ack_count_of state o in
        absurd (elim (output_kinds (kind_of sys.flow o) output) [
          | inl kind ↦
              let some : HasDelivery sys h o (leq (a ∷ [])) = has-delivery sys.flow o e is (leq (a ∷ [])) (x ∷ []) (line-leq a x m) q h (delivered e is x l q k) in
              let something : HasSomethingAt sys h OutputEpoch o a = inr some in
              none-next (omega arith) (subst (λ z. HasSomethingAt sys h z o a) (sym kind) something)
          | inr kind ↦
              let number : is_numbered sys.flow e ≡ true = ap (λ p. is_of_numbers (domain_of_kind sys.flow (kind_of sys.flow p))) is
              ∙ ap (λ z. is_of_numbers (domain_of_kind sys.flow z)) kind in
              let next = number-lesser 0 (family e) (denotation-numbered sys family w.flow den e number) a x (omega arith) m q k in
              let something : HasSomethingAt sys h OutputNumber o a =
              has-delivery sys.flow o e is (same (a ∷ [])) (a ∷ []) (same-refl (a ∷ [])) next.0 h (delivered e is a (omega arith) next.0 next.1) in
              none-next (omega arith) (subst (λ z. HasSomethingAt sys h z o a) (sym kind) something)
        ])
  ]

  acknowledged_at : (e : ℕ) → receiver sys.flow e ≡ o → (r : Timed) → in_domain (bounds_of sys.flow (receiver sys.flow e)) r.at ≡ true
      → 0 < weigh (one r.at r.rec) (family e) → IsAcknowledged (ack_count_of state o) r.at
  acknowledged_at e is r d k =
      let at = in_line r.at greatest_number (sym (output-bounds sys.flow o output r.at) ∙ sym (ap (λ p. in_domain (bounds_of sys.flow p) r.at) is) ∙ d) in
      (at.0, below e is at.0 at.2 r.rec (subst (λ s. 0 < weigh (one s r.rec) (family e)) at.1 k), at.1)

  recs_all : (e : ℕ) → receiver sys.flow e ≡ o → AllByRecursion (λ (r : Timed). IsAcknowledged (ack_count_of state o) r.at) (family e)
  recs_all e is =
      let P : Timed → Type 0 = λ r. in_domain (bounds_of sys.flow (receiver sys.flow e)) r.at ≡ true in
      let Q : Timed → Type 0 = λ r. 0 < weigh (one r.at r.rec) (family e) in
      each-weaker (λ r. P r × Q r) (λ r. IsAcknowledged (ack_count_of state o) r.at) (family e) (λ r both. acknowledged_at e is r both.0 both.1)
      (each-both P Q (family e) (denotation-in_domain sys family w.flow (has_epochs sys w) den e) (each-there (family e)))

  batches_all : kind_of sys.flow o ≡ OutputEpoch → (x : ℕ) → HasEpoch sys.batches x → x < ack_count_of state o
  batches_all kind x k = elim (cases_lt x (ack_count_of state o)) [
    | inl m ↦ m
    | inr m ↦
        let a = ack_count_of state o in
        let something : HasSomethingAt sys h OutputEpoch o a = inl (epoch-lesser sys.batches a x m k) in
        let few = epoch-few sys w x k in
        absurd (none-next (omega arith) (subst (λ z. HasSomethingAt sys h z o a) (sym kind) something))
  ]

  all : HasAcknowledgedAll sys family state o
  all =
      let most = acknowledged-due sys family w den state reached o in
      let least = due-least sys family o (ack_count_of state o) output recs_all batches_all in
      record { recs = recs_all; batches = batches_all; count = omega arith }

pub rest-acknowledged : RestHasAcknowledgedAll
rest-acknowledged sys family w den state reached live idle o there output = all sys family w den state reached live idle o there output
