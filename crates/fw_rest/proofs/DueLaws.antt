-- How many stamps are due at an output: what may be acknowledged is one of them.
use Rattle.std.proofs.Common.{◌≡◌, ℕ, zero, suc, ◌+◌, ◌<◌, ◌≤◌, Bool, true, ◌&&◌, ◌==◌, nat_le, cond, List, [], ◌∷◌, ◌++◌, length, map, slice_index_or, slice_set, refl, sym, ap, subst, ◌∙◌, inl, inr, ◌⊎◌, arith}
use Rattle.std.specs.List.{AllByRecursion}
use Rattle.std.proofs.lemmas.Bool.{cases_Bool, cases_eq, cases_lt, and_parts, cond_both, eqb-true, eq-eqb, leb-true}
use Rattle.std.proofs.lemmas.List.{get_or-set_same, get_or-set_other, length-set}
use Rattle.std.proofs.lemmas.List.FromFn.{length-map-range_with_len}
use Rattle.fw_lemmas.proofs.Each.{each-weaker, each-append}
use Rattle.fw_time.specs.Stamp.{Stamp, leq, same}
use Rattle.fw_bag.specs.declared.rec.Rec.{Rec}
use Rattle.fw_flow.specs.declared.event.Event.{Event}
use Rattle.fw_flow.specs.declared.event.Event.TheVariants.{Inject as Injected, Deliver as Delivered, Notify as Notified}
use Rattle.fw_flow.specs.declared.event.Message.{Message}
use Rattle.fw_flow.specs.Kind.{Kind}
use Rattle.fw_flow.specs.declared.kind.Kind.TheVariants.{OutputEpoch, OutputNumber}
use Rattle.fw_flow.specs.declared.step.Step.{Step}
use Rattle.fw_flow.specs.declared.step.Step.TheVariants.{Inject, Deliver, Notify, Progress as ProgressStep, Checkpoint, Persist, Fail, Recover, Collect, Ack}
use Rattle.fw_flow.specs.Dataflow.{System, Dataflow, kind_of, receiver, in_edges, is_output_kind, node_ids}
use Rattle.fw_flow.specs.NodeFunction.{delivered_recs}
use Rattle.fw_flow.specs.Projection.{first_coordinate}
use Rattle.fw_flow.specs.WellFormed.{IsWellFormedSystem}
use Rattle.fw_flow.specs.WholeBags.{Timed, joint_bag}
use Rattle.fw_model.specs.Denotation.{Family, IsDenotation}
use Rattle.fw_model.specs.History.{delivered_messages, IsLegal}
use Rattle.fw_model.specs.Machine.{Machine, events, first_state, ack_count_of}
use Rattle.fw_model.specs.Reached.{IsReached}
use Rattle.fw_model.specs.Steps.{Effect, Outcome, did, idle, HasEpoch, HasSomethingAt, MayAcknowledge, LeadsTo, StepsTo, Run}
use Rattle.fw_model.proofs.ArrivalLaws.{at_edge, in_edges-once, together-weigh}
use Rattle.fw_model.proofs.DomainLaws.{has_epochs, each_in_edge}
use Rattle.fw_model.proofs.RecoveryLaws.{runs-legal, steps-keep_legal}
use Rattle.fw_model.proofs.SentLaws.{timed_of, timed_message}
use Rattle.fw_model.proofs.StampLaws.{same-is}
use Rattle.fw_model.proofs.SubBagLaws.{delivered_within}
use Rattle.fw_model.proofs.WeightLaws.{weigh, is_at, is_at-is, is_at-self, one, one-in, one-out}
use Rattle.fw_rest.specs.Rest.{IsAcknowledged}
use Rattle.fw_rest.specs.StepsToRest.{number_after, epochs_of, stamps_of_kind, stamps_due}
use Rattle.fw_rest.specs.LawsOfRest.{AcknowledgedIsDue}

-- ---- what was delivered is before the number after what is denoted

some_delivery : (flow : Dataflow) (o : ℕ) (test : Stamp → Bool) (h : List Event) → 0 < length (delivered_recs (λ d s. receiver flow d == o && test s) h)
    → (e : ℕ) × (m : Message) × (receiver flow e ≡ o) × (test m.at ≡ true) × (0 < weigh (one m.at m.rec) (timed_of (delivered_messages h e)))
unfolding weigh
some_delivery flow o test [] l = absurd (omega arith)
some_delivery flow o test (Injected s x ∷ h) l = some_delivery flow o test h l
some_delivery flow o test (Notified p t ∷ h) l = some_delivery flow o test h l
some_delivery flow o test (Delivered d m ∷ h) l = elim (cases_Bool (receiver flow d == o && test m.at)) [
  | inl i ↦
      let a = and_parts (receiver flow d == o) (test m.at) i in
      let now : delivered_messages (Delivered d m ∷ h) d ≡ m ∷ delivered_messages h d = ap (λ b. cond b (m ∷ []) [] ++ delivered_messages h d) (eq-eqb d d refl) in
      let there = ap (λ ms. weigh (one m.at m.rec) (timed_of ms)) now in
      let self : one m.at m.rec (timed_message m) ≡ 1 = one-in m.at m.rec (timed_message m) (is_at-self (timed_message m)) in
      (d, m, eqb-true (receiver flow d) o a.0, a.1, omega arith)
  | inr i ↦
      let rest = ap (λ b. length (cond b (m.rec ∷ []) [] ++ delivered_recs (λ e s. receiver flow e == o && test s) h)) i in
      let w = some_delivery flow o test h (omega arith) in
      let k = w.4 in (
        w.0,
        w.1,
        w.2,
        w.3,
        cond_both (d == w.0) (m ∷ []) [] (λ ms. 0 < weigh (one w.1.at w.1.rec) (timed_of (ms ++ delivered_messages h w.0))) (λ e. omega arith) (λ e. k),
      )
]

before-number : (t : Stamp) (q : Rec) (xs : List Timed) → 0 < weigh (one t q) xs → first_coordinate t < number_after xs
unfolding weigh
before-number t q [] l = absurd (omega arith)
before-number t q (x ∷ xs) l = elim (cases_Bool (is_at t q x)) [
  | inl e ↦ let at = ap (λ (r : Timed). first_coordinate r.at) (is_at-is t q x e) in omega arith
  | inr e ↦ let z = one-out t q x e in let h = before-number t q xs (omega arith) in omega arith
]

-- what an edge has, the bags of some edges have together, if it is one of them
term-in : (g : ℕ → ℕ) (e : ℕ) (ds : List ℕ) → 0 < weigh (at_edge e 1) ds → 0 < g e → 0 < weigh g ds
unfolding weigh
term-in g e [] l k = absurd (omega arith)
term-in g e (d ∷ ds) l k = elim (cases_Bool (e == d)) [
  | inl i ↦ let same = ap g (eqb-true e d i) in omega arith
  | inr i ↦ let none : at_edge e 1 d ≡ 0 = ap (λ b. cond b 1 0) i in let h = term-in g e ds (omega arith) k in omega arith
]

in-joint : (flow : Dataflow) (family : Family) (o e : ℕ) → o < length flow.nodes → receiver flow e ≡ o → (t : Stamp) (q : Rec) → 0 < weigh (one t q) (family e)
    → 0 < weigh (one t q) (joint_bag (map family (in_edges flow o)))
in-joint flow family o e there is t q l =
    let all = together-weigh (one t q) family (in_edges flow o) in
    let here : weigh (at_edge e 1) (in_edges flow o) ≡ 1 = in_edges-once flow o e 1 there ∙ ap (λ b. cond b 1 0) (eq-eqb (receiver flow e) o is) in
    let some = term-in (λ d. weigh (one t q) (family d)) e (in_edges flow o) (omega arith) l in
    omega arith

epoch-before : (sources : List (List (List Rec))) (x : ℕ) → HasEpoch sources x → x < epochs_of sources
epoch-before [] x k = absurd k
epoch-before (batches ∷ sources) x (inl k) = omega arith
epoch-before (batches ∷ sources) x (inr k) = let h = epoch-before sources x k in omega arith

first-leq : (x : ℕ) (t : Stamp) → leq (x ∷ []) t ≡ true → x ≤ first_coordinate t
first-leq x [] k = absurd (cc)
first-leq x (y ∷ t) k = leb-true x y (and_parts (nat_le x y) (leq [] t) k).0

-- ---- what may be acknowledged

-- the two kinds of outputs
pub output_kinds : (kind : Kind) → is_output_kind kind ≡ true → (kind ≡ OutputEpoch) ⊎ (kind ≡ OutputNumber)
output_kinds OutputEpoch k = inl refl
output_kinds OutputNumber k = inr refl
output_kinds kind k = absurd (cc)

-- what may be acknowledged is due
pub may-due : (sys : System) (family : Family) → IsWellFormedSystem sys → IsDenotation sys family → (state : Machine) → IsLegal sys (events state.history) → (o x : ℕ)
    → MayAcknowledge sys state o x → x < stamps_due sys family o
may-due sys family w den state legal o x may =
    let h = events state.history in
    let last = number_after (joint_bag (map family (in_edges sys.flow o))) in
    let epochs = epochs_of sys.batches in
    let delivered : (e : ℕ) (m : Message) → receiver sys.flow e ≡ o → 0 < weigh (one m.at m.rec) (timed_of (delivered_messages h e)) → first_coordinate m.at < last =
    λ e m is l.
    let a = delivered_within sys h family w legal den e m.at m.rec in
    before-number m.at m.rec (joint_bag (map family (in_edges sys.flow o))) (in-joint sys.flow family o e may.declared is m.at m.rec (omega arith)) in
    elim (output_kinds (kind_of sys.flow o) may.output) [
      | inl kind ↦
          let due = ap (λ z. stamps_of_kind z epochs last) kind in
          let something : HasSomethingAt sys h OutputEpoch o x = subst (λ z. HasSomethingAt sys h z o x) kind may.there in
          elim something [
            | inl k ↦ let a = epoch-before sys.batches x k in omega arith
            | inr k ↦
                let s = some_delivery sys.flow o (leq (x ∷ [])) h k in
                let a = delivered s.0 s.1 s.2 s.4 in
                let b = first-leq x s.1.at s.3 in
                omega arith
          ]
      | inr kind ↦
          let due = ap (λ z. stamps_of_kind z epochs last) kind in
          let something : HasSomethingAt sys h OutputNumber o x = subst (λ z. HasSomethingAt sys h z o x) kind may.there in
          let s = some_delivery sys.flow o (same (x ∷ [])) h something in
          let a = delivered s.0 s.1 s.2 s.4 in
          let b : x ≡ first_coordinate s.1.at = ap first_coordinate (same-is (x ∷ []) s.1.at s.3) in
          omega arith
    ]

-- ---- each node has a count of acknowledgements

took-counts : (sys : System) (state : Machine) (step : Step) (next : Machine) (effect : Effect) → LeadsTo sys state step next effect
    → length next.ack_counts ≡ length state.ack_counts
took-counts sys state (Inject s) next effect t = ap (λ (m : Machine). length m.ack_counts) t.3
took-counts sys state (Deliver e at) next effect t = ap (λ (m : Machine). length m.ack_counts) t.3
took-counts sys state (Notify p at) next effect t = ap (λ (m : Machine). length m.ack_counts) t.3
took-counts sys state ProgressStep next effect t = ap (λ (m : Machine). length m.ack_counts) t.3
took-counts sys state (Checkpoint p) next effect t = ap (λ (m : Machine). length m.ack_counts) t.3
took-counts sys state Persist next effect t = ap (λ (m : Machine). length m.ack_counts) t.2
took-counts sys state (Fail ps) next effect t = ap (λ (m : Machine). length m.ack_counts) t.4
took-counts sys state Recover next effect t = ap (λ (m : Machine). length m.ack_counts) t.7
took-counts sys state Collect next effect t = ap (λ (m : Machine). length m.ack_counts) t.3
took-counts sys state (Ack o) next effect t = ap (λ (m : Machine). length m.ack_counts) t.2 ∙ length-set state.ack_counts o (t.0 + 1)

steps-counts : (sys : System) (state : Machine) (step : Step) (next : Machine) (outcome : Outcome) → StepsTo sys state step next outcome
    → length next.ack_counts ≡ length state.ack_counts
steps-counts sys state step next (did effect) t = took-counts sys state step next effect t
steps-counts sys state step next idle t = ap (λ (m : Machine). length m.ack_counts) t.1

run-counts : (sys : System) (steps : List Step) (outcomes : List Outcome) (state last : Machine) → Run sys state steps outcomes last
    → length last.ack_counts ≡ length state.ack_counts
run-counts sys [] [] state last r = ap (λ (m : Machine). length m.ack_counts) r
run-counts sys [] (o ∷ os) state last r = absurd r
run-counts sys (s ∷ ss) [] state last r = absurd r
run-counts sys (s ∷ ss) (o ∷ os) state last r = run-counts sys ss os r.0 last r.2 ∙ steps-counts sys state s r.0 o r.1

pub reached-counts : (sys : System) (state : Machine) → IsReached sys state → length state.ack_counts ≡ length sys.flow.nodes
reached-counts sys state r = run-counts sys r.0 r.1 (first_state sys) state r.2 ∙ length-map-range_with_len (λ p. 0) 0 (length sys.flow.nodes)

-- ---- no more is acknowledged than is due

pub reached-legal : (sys : System) → IsWellFormedSystem sys → (state : Machine) → IsReached sys state → IsLegal sys (events state.history)
reached-legal sys w state r = runs-legal sys r.0 r.1 state w.flow (has_epochs sys w) r.2

-- at each node no more was acknowledged than is due
abbrev AreDue : System → Family → Machine → Type 0
AreDue sys family state = (o : ℕ) → ack_count_of state o ≤ stamps_due sys family o

same-due : (sys : System) (family : Family) (state next : Machine) → AreDue sys family state → next.ack_counts ≡ state.ack_counts → AreDue sys family next
same-due sys family state next f e o = subst (λ (counts : List ℕ). slice_index_or counts o 0 ≤ stamps_due sys family o) (sym e) (f o)

took-due : (sys : System) (family : Family) → IsWellFormedSystem sys → IsDenotation sys family → (state : Machine) → IsLegal sys (events state.history)
    → length state.ack_counts ≡ length sys.flow.nodes → (step : Step) (next : Machine) (effect : Effect) → AreDue sys family state → LeadsTo sys state step next effect
    → AreDue sys family next
took-due sys family w den state legal counts (Inject s) next effect f t = same-due sys family state next f (ap (λ (m : Machine). m.ack_counts) t.3)
took-due sys family w den state legal counts (Deliver e at) next effect f t = same-due sys family state next f (ap (λ (m : Machine). m.ack_counts) t.3)
took-due sys family w den state legal counts (Notify p at) next effect f t = same-due sys family state next f (ap (λ (m : Machine). m.ack_counts) t.3)
took-due sys family w den state legal counts ProgressStep next effect f t = same-due sys family state next f (ap (λ (m : Machine). m.ack_counts) t.3)
took-due sys family w den state legal counts (Checkpoint p) next effect f t = same-due sys family state next f (ap (λ (m : Machine). m.ack_counts) t.3)
took-due sys family w den state legal counts Persist next effect f t = same-due sys family state next f (ap (λ (m : Machine). m.ack_counts) t.2)
took-due sys family w den state legal counts (Fail ps) next effect f t = same-due sys family state next f (ap (λ (m : Machine). m.ack_counts) t.4)
took-due sys family w den state legal counts Recover next effect f t = same-due sys family state next f (ap (λ (m : Machine). m.ack_counts) t.7)
took-due sys family w den state legal counts Collect next effect f t = same-due sys family state next f (ap (λ (m : Machine). m.ack_counts) t.3)
took-due sys family w den state legal counts (Ack q) next effect f t = λ o.
    let due = may-due sys family w den state legal q t.0 t.1 in
    let there = t.1.declared in
    subst (λ (m : Machine). ack_count_of m o ≤ stamps_due sys family o) (sym t.2) (elim (cases_eq o q) [
      | inl e ↦
          let here : slice_index_or (slice_set state.ack_counts q (t.0 + 1)) q 0 ≡ t.0 + 1 = get_or-set_same state.ack_counts q (t.0 + 1) 0 (omega arith) in
          let a : slice_index_or (slice_set state.ack_counts q (t.0 + 1)) o 0 ≡ slice_index_or (slice_set state.ack_counts q (t.0 + 1)) q 0 =
          ap (λ i. slice_index_or (slice_set state.ack_counts q (t.0 + 1)) i 0) e in
          let b : stamps_due sys family o ≡ stamps_due sys family q = ap (stamps_due sys family) e in
          omega arith
      | inr e ↦
          let a : slice_index_or (slice_set state.ack_counts q (t.0 + 1)) o 0 ≡ ack_count_of state o = get_or-set_other state.ack_counts q o (t.0 + 1) 0 e in
          let b = f o in
          omega arith
    ])

steps-due : (sys : System) (family : Family) → IsWellFormedSystem sys → IsDenotation sys family → (state : Machine) → IsLegal sys (events state.history)
    → length state.ack_counts ≡ length sys.flow.nodes → (step : Step) (next : Machine) (outcome : Outcome) → AreDue sys family state → StepsTo sys state step next outcome
    → AreDue sys family next
steps-due sys family w den state legal counts step next (did effect) f t = took-due sys family w den state legal counts step next effect f t
steps-due sys family w den state legal counts step next idle f t = same-due sys family state next f (ap (λ (m : Machine). m.ack_counts) t.1)

run-due : (sys : System) (family : Family) → IsWellFormedSystem sys → IsDenotation sys family → (steps : List Step) (outcomes : List Outcome) (state last : Machine)
    → IsLegal sys (events state.history) → length state.ack_counts ≡ length sys.flow.nodes → AreDue sys family state → Run sys state steps outcomes last → AreDue sys family last
run-due sys family w den [] [] state last legal counts f r = same-due sys family state last f (ap (λ (m : Machine). m.ack_counts) r)
run-due sys family w den [] (x ∷ os) state last legal counts f r = absurd r
run-due sys family w den (s ∷ ss) [] state last legal counts f r = absurd r
run-due sys family w den (s ∷ ss) (x ∷ os) state last legal counts f r =
    run-due sys family w den ss os r.0 last (steps-keep_legal sys state s r.0 x w.flow (has_epochs sys w) legal r.1) (steps-counts sys state s r.0 x r.1 ∙ counts)
    (steps-due sys family w den state legal counts s r.0 x f r.1) r.2

abbrev zeros : List ℕ → List ℕ
zeros ps = map (λ p. 0) ps

none-yet : (ps : List ℕ) (o : ℕ) → slice_index_or (zeros ps) o 0 ≡ 0
none-yet [] o = refl
none-yet (p ∷ ps) zero = refl
none-yet (p ∷ ps) (suc o) = none-yet ps o

pub acknowledged-due : AcknowledgedIsDue
acknowledged-due sys family w den state r =
    run-due sys family w den r.0 r.1 (first_state sys) state tt (length-map-range_with_len (λ p. 0) 0 (length sys.flow.nodes))
    (λ o. let z = none-yet (node_ids sys.flow) o in omega arith) r.2

-- ---- no less is due than what each count that is greater shows

epochs-least : (sources : List (List (List Rec))) (n : ℕ) → ((x : ℕ) → HasEpoch sources x → x < n) → epochs_of sources ≤ n
epochs-least [] n h = omega arith
epochs-least (batches ∷ sources) n h =
    let a = epochs-least sources n (λ x k. h x (inr k)) in
    elim (cases_lt n (length batches)) [ inl l ↦ let b = h n (inl l) in omega arith | inr l ↦ omega arith ]

number-least : (xs : List Timed) (n : ℕ) → AllByRecursion (λ r. first_coordinate r.at < n) xs → number_after xs ≤ n
number-least [] n a = omega arith
number-least (x ∷ xs) n a = let h = number-least xs n a.1 in let b = a.0 in omega arith

each-joint : (P : Timed → Type 0) (family : Family) (ds : List ℕ) → AllByRecursion (λ d. AllByRecursion P (family d)) ds → AllByRecursion P (joint_bag (map family ds))
each-joint P family [] a = tt
each-joint P family (d ∷ ds) a = each-append P (family d) (joint_bag (map family ds)) a.0 (each-joint P family ds a.1)

-- an output that acknowledged each rec and each epoch acknowledged all that is due
pub due-least : (sys : System) (family : Family) (o n : ℕ) → is_output_kind (kind_of sys.flow o) ≡ true
    → ((e : ℕ) → receiver sys.flow e ≡ o → AllByRecursion (λ (r : Timed). IsAcknowledged n r.at) (family e))
    → (kind_of sys.flow o ≡ OutputEpoch → (x : ℕ) → HasEpoch sys.batches x → x < n) → stamps_due sys family o ≤ n
due-least sys family o n output recs batches =
    let bag = joint_bag (map family (in_edges sys.flow o)) in
    let epochs = epochs_of sys.batches in
    let Q : Timed → Type 0 = λ r. first_coordinate r.at < n in
    let each : AllByRecursion Q bag = each-joint Q family (in_edges sys.flow o) (each_in_edge sys.flow o (λ d. AllByRecursion Q (family d)) (λ d is.
    each-weaker (λ (r : Timed). IsAcknowledged n r.at) Q (family d) (λ r k. subst (λ t. first_coordinate t < n) (sym k.2) k.1) (recs d is))) in
    let last = number-least bag n each in
    elim (output_kinds (kind_of sys.flow o) output) [
      | inl kind ↦
          let due = ap (λ z. stamps_of_kind z epochs (number_after bag)) kind in
          let first = epochs-least sys.batches n (batches kind) in
          omega arith
      | inr kind ↦ let due = ap (λ z. stamps_of_kind z epochs (number_after bag)) kind in omega arith
    ]
