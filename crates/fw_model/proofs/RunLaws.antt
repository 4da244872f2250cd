-- What holds along a run.
use Rattle.std.proofs.Common.{◌≡◌, ℕ, zero, suc, ◌+◌, ◌<◌, Bool, true, false, ◌==◌, ◌&&◌, List, [], ◌∷◌, ◌++◌, length, map, refl, sym, ◌∙◌, ap, subst, cond, slice_index_or, slice_set, append_assoc, nat_le, filter, inl, inr, arith}
use Rattle.std.proofs.lemmas.List.{append-nil, map-append, get_or-set_same, get_or-set_other, length-set}
use Rattle.std.proofs.lemmas.List.FromFn.{map-range_with_len_more, length-map-range_with_len}
use Rattle.fw_bag.specs.declared.rec.Rec.{Rec}
use Rattle.std.proofs.lemmas.Bool.{eqb-true, eq-eqb, and_parts, and_from, cases_Bool}
use Rattle.fw_model.proofs.ArrivalLaws.{at_edge, in_edges-once}
use Rattle.fw_model.proofs.WeightLaws.{weigh}
use Rattle.fw_time.specs.Stamp.{Stamp, leq, same}
use Rattle.fw_frontier.specs.Front.{frontier_of}
use Rattle.fw_frontier.proofs.NamesLaws.{names-nothing}
use Rattle.fw_flow.specs.declared.event.Event.{Event}
use Rattle.fw_flow.specs.declared.event.Event.TheVariants.{Inject as Injected, Deliver as Delivered, Notify as Notified}
use Rattle.fw_flow.specs.Kind.{Kind}
use Rattle.fw_flow.specs.declared.kind.Kind.TheVariants.{OutputEpoch, OutputNumber}
use Rattle.fw_flow.specs.declared.step.Step.{Step}
use Rattle.fw_flow.specs.declared.step.Step.TheVariants.{Inject, Deliver, Notify, Progress as ProgressStep, Checkpoint, Persist, Fail, Recover, Collect, Ack}
use Rattle.fw_time.specs.declared.stamp.Bounds.{Bounds}
use Rattle.fw_flow.specs.Dataflow.{System, Dataflow, kind_of, receiver, in_edges, is_output_kind, node_ids}
use Rattle.fw_flow.specs.WellFormed.{IsWellFormed, IsInDegree}
use Rattle.fw_model.specs.History.{IsLegal, delivered_messages, recs_at}
use Rattle.fw_flow.specs.NodeFunction.{delivered_recs}
use Rattle.fw_flow.specs.declared.event.Message.{Message}
use Rattle.std.proofs.lemmas.List.Elements.{filter-append}
use Rattle.std.proofs.Math.Bool.{and_comm}
use Rattle.fw_lemmas.proofs.Bools.{two_ways}
use Rattle.fw_lemmas.proofs.Numbers.{zero-le}
use Rattle.fw_model.specs.LawsOfRuns.{RunsStayLegal, AcknowledgementsAreInOrder}
use Rattle.fw_model.specs.Machine.{Machine, events, no_stamps, first_state, ack_count_of}
use Rattle.fw_model.specs.Steps.{Effect, acked, Outcome, did, idle, LeadsTo, StepsTo, Run, recs_at_output, is_recovery, HaveNoRecovery}
use Rattle.fw_model.specs.Acknowledgements.{stamp_shown, stamp_acknowledged, stamps_acknowledged, first_stamps}

-- ---- legal histories

-- a step that is no recovery keeps a legal history legal
pub legal-takes : (sys : System) (state : Machine) (step : Step) (next : Machine) (effect : Effect) → is_recovery step ≡ false
    → LeadsTo sys state step next effect → IsLegal sys (events state.history) → IsLegal sys (events next.history)
legal-takes sys state (Inject s) next effect k t l = subst (λ (m : Machine). IsLegal sys (events m.history)) (sym t.3) (t.1, l)
legal-takes sys state (Deliver e at) next effect k t l = subst (λ (m : Machine). IsLegal sys (events m.history)) (sym t.3) (t.1.enabled, l)
legal-takes sys state (Notify p at) next effect k t l = subst (λ (m : Machine). IsLegal sys (events m.history)) (sym t.3) (t.1.enabled, l)
legal-takes sys state ProgressStep next effect k t l = subst (λ (m : Machine). IsLegal sys (events m.history)) (sym t.3) l
legal-takes sys state (Checkpoint p) next effect k t l = subst (λ (m : Machine). IsLegal sys (events m.history)) (sym t.3) l
legal-takes sys state Persist next effect k t l = subst (λ (m : Machine). IsLegal sys (events m.history)) (sym t.2) l
legal-takes sys state (Fail ps) next effect k t l = subst (λ (m : Machine). IsLegal sys (events m.history)) (sym t.4) l
legal-takes sys state Recover next effect k t l = absurd (two_ways true refl k)
legal-takes sys state Collect next effect k t l = subst (λ (m : Machine). IsLegal sys (events m.history)) (sym t.3) l
legal-takes sys state (Ack o) next effect k t l = subst (λ (m : Machine). IsLegal sys (events m.history)) (sym t.2) l

legal-steps : (sys : System) (state : Machine) (step : Step) (next : Machine) (outcome : Outcome) → is_recovery step ≡ false
    → StepsTo sys state step next outcome → IsLegal sys (events state.history) → IsLegal sys (events next.history)
legal-steps sys state step next (did effect) k t l = legal-takes sys state step next effect k t l
legal-steps sys state step next idle k t l = subst (λ (m : Machine). IsLegal sys (events m.history)) (sym t.1) l

pub legal-run : (sys : System) (steps : List Step) (outcomes : List Outcome) (state last : Machine) → HaveNoRecovery steps
    → Run sys state steps outcomes last → IsLegal sys (events state.history) → IsLegal sys (events last.history)
legal-run sys [] [] state last k r l = subst (λ (m : Machine). IsLegal sys (events m.history)) (sym r) l
legal-run sys [] (o ∷ os) state last k r l = absurd r
legal-run sys (s ∷ ss) [] state last k r l = absurd r
legal-run sys (s ∷ ss) (o ∷ os) state last k r l =
    legal-run sys ss os r.0 last k.1 r.2 (legal-steps sys state s r.0 o k.0 r.1 l)

pub runs-stay_legal : RunsStayLegal
runs-stay_legal sys steps outcomes last k r = legal-run sys steps outcomes (first_state sys) last k r tt

-- ---- acknowledgements in order

-- each node has a bound
abbrev HasBounds : System → Machine → Type 0
HasBounds sys state = length state.ack_counts ≡ length sys.flow.nodes

-- what was acknowledged before and is now is what was acknowledged after
abbrev Goes : ℕ → Machine → Machine → List Stamp → Type 0
Goes o state next stamps = first_stamps (ack_count_of state o) ++ stamps ≡ first_stamps (ack_count_of next o)

more_stamps : (n : ℕ) → first_stamps n ++ (n ∷ []) ∷ [] ≡ first_stamps (n + 1)
more_stamps n = sym (map-range_with_len_more (λ x. x ∷ []) 0 n n (omega arith))

bound-at : (b : Bool) (bounds : List ℕ) (q o n : ℕ) → q < length bounds → (q == o) ≡ b
    → slice_index_or (slice_set bounds q n) o 0 ≡ cond b n (slice_index_or bounds o 0)
bound-at true bounds q o n l e =
    ap (λ i. slice_index_or (slice_set bounds q n) i 0) (sym (eqb-true q o e)) ∙ get_or-set_same bounds q n 0 l
bound-at false bounds q o n l e = get_or-set_other bounds q o n 0 (λ same. two_ways (q == o) (eq-eqb q o (sym same)) e)

bound-set : (bounds : List ℕ) (q o n : ℕ) → q < length bounds → slice_index_or (slice_set bounds q n) o 0 ≡ cond (q == o) n (slice_index_or bounds o 0)
bound-set bounds q o n l = bound-at (q == o) bounds q o n l refl

acked-at : (b : Bool) (state : Machine) (q o x : ℕ) → q < length state.ack_counts → x ≡ ack_count_of state q → (q == o) ≡ b
    → first_stamps (ack_count_of state o) ++ cond b ((x ∷ []) ∷ []) [] ≡ first_stamps (cond b (x + 1) (ack_count_of state o))
acked-at true state q o x l e k =
    let same : ack_count_of state o ≡ x = ap (ack_count_of state) (sym (eqb-true q o k)) ∙ sym e in
    ap (λ n. first_stamps n ++ (x ∷ []) ∷ []) same ∙ more_stamps x
acked-at false state q o x l e k = append-nil (first_stamps (ack_count_of state o))

acked-goes : (sys : System) (state : Machine) (q o x : ℕ) (recs : List Rec) → q < length state.ack_counts → x ≡ ack_count_of state q
    → Goes o state (record state { ack_counts = slice_set state.ack_counts q (x + 1) }) (stamp_shown o (acked q (x ∷ []) recs))
acked-goes sys state q o x recs l e =
    acked-at (q == o) state q o x l e refl ∙ ap first_stamps (sym (bound-set state.ack_counts q o (x + 1) l))

same-goes : (state next : Machine) (o : ℕ) → next.ack_counts ≡ state.ack_counts → Goes o state next []
same-goes state next o e = append-nil (first_stamps (ack_count_of state o)) ∙ ap (λ bs. first_stamps (slice_index_or bs o 0)) (sym e)

-- the step keeps the number of bounds, and acknowledges the stamps between the old bound and the new one
abbrev GoesOn : System → Machine → Machine → Effect → Type 0
GoesOn sys state next effect = (length next.ack_counts ≡ length state.ack_counts) × ((o : ℕ) → Goes o state next (stamp_shown o effect))

quiet-goes : (sys : System) (state next : Machine) (effect : Effect) → ((o : ℕ) → stamp_shown o effect ≡ []) → next.ack_counts ≡ state.ack_counts → GoesOn sys state next effect
quiet-goes sys state next effect k e = (ap length e, λ o. subst (λ ss. Goes o state next ss) (sym (k o)) (same-goes state next o e))

takes-goes : (sys : System) (state : Machine) (step : Step) (next : Machine) (effect : Effect) → HasBounds sys state
    → LeadsTo sys state step next effect → GoesOn sys state next effect
takes-goes sys state (Inject s) next effect h t = quiet-goes sys state next effect (λ o. ap (stamp_shown o) t.4) (ap (λ (m : Machine). m.ack_counts) t.3)
takes-goes sys state (Deliver e at) next effect h t = quiet-goes sys state next effect (λ o. ap (stamp_shown o) t.4) (ap (λ (m : Machine). m.ack_counts) t.3)
takes-goes sys state (Notify p at) next effect h t = quiet-goes sys state next effect (λ o. ap (stamp_shown o) t.4) (ap (λ (m : Machine). m.ack_counts) t.3)
takes-goes sys state ProgressStep next effect h t = quiet-goes sys state next effect (λ o. ap (stamp_shown o) t.4) (ap (λ (m : Machine). m.ack_counts) t.3)
takes-goes sys state (Checkpoint p) next effect h t = quiet-goes sys state next effect (λ o. ap (stamp_shown o) t.4) (ap (λ (m : Machine). m.ack_counts) t.3)
takes-goes sys state Persist next effect h t = quiet-goes sys state next effect (λ o. ap (stamp_shown o) t.3) (ap (λ (m : Machine). m.ack_counts) t.2)
takes-goes sys state (Fail ps) next effect h t = quiet-goes sys state next effect (λ o. ap (stamp_shown o) t.5) (ap (λ (m : Machine). m.ack_counts) t.4)
takes-goes sys state Recover next effect h t = quiet-goes sys state next effect (λ o. ap (stamp_shown o) t.8) (ap (λ (m : Machine). m.ack_counts) t.7)
takes-goes sys state Collect next effect h t = quiet-goes sys state next effect (λ o. ap (stamp_shown o) t.4) (ap (λ (m : Machine). m.ack_counts) t.3)
takes-goes sys state (Ack q) next effect h t =
    let l : q < length state.ack_counts = subst (λ n. q < n) (sym h) t.1.declared in
    let same : next ≡ record state { ack_counts = slice_set state.ack_counts q (t.0 + 1) } = t.2 in (
      ap (λ (m : Machine). length m.ack_counts) same ∙ length-set state.ack_counts q (t.0 + 1),
      λ o. subst (λ (m : Machine). Goes o state m (stamp_shown o effect)) (sym same)
          (subst (λ e. Goes o state (record state { ack_counts = slice_set state.ack_counts q (t.0 + 1) }) (stamp_shown o e)) (sym t.3)
          (acked-goes sys state q o t.0 (recs_at_output sys state q t.0) l t.1.next)),
    )

steps-goes : (sys : System) (state : Machine) (step : Step) (next : Machine) (outcome : Outcome) → HasBounds sys state
    → StepsTo sys state step next outcome → HasBounds sys next × ((o : ℕ) → Goes o state next (stamp_acknowledged o outcome))
steps-goes sys state step next (did effect) h t = let g = takes-goes sys state step next effect h t in (g.0 ∙ h, g.1)
steps-goes sys state step next idle h t =
    let e = ap (λ (m : Machine). m.ack_counts) t.1 in
    (ap length e ∙ h, λ o. same-goes state next o e)

pub run-goes : (sys : System) (steps : List Step) (outcomes : List Outcome) (state last : Machine) → HasBounds sys state
    → Run sys state steps outcomes last → (o : ℕ) → Goes o state last (stamps_acknowledged o outcomes)
run-goes sys [] [] state last h r o = same-goes state last o (ap (λ (m : Machine). m.ack_counts) r)
run-goes sys [] (x ∷ os) state last h r o = absurd r
run-goes sys (s ∷ ss) [] state last h r o = absurd r
run-goes sys (s ∷ ss) (x ∷ os) state last h r o =
    let g = steps-goes sys state s r.0 x h r.1 in
    sym (append_assoc (first_stamps (ack_count_of state o)) (stamp_acknowledged o x) (stamps_acknowledged o os))
    ∙ ap (λ xs. xs ++ stamps_acknowledged o os) (g.1 o)
    ∙ run-goes sys ss os r.0 last g.0 r.2 o

abbrev zeros : List ℕ → List ℕ
zeros xs = map (λ p. 0) xs

first-bounds : (sys : System) (o : ℕ) (xs : List ℕ) → slice_index_or (zeros xs) o 0 ≡ 0
first-bounds sys o [] = refl
first-bounds sys zero (x ∷ xs) = refl
first-bounds sys (suc o) (x ∷ xs) = first-bounds sys o xs

pub acknowledgements-in_order : AcknowledgementsAreInOrder
acknowledgements-in_order sys steps outcomes last r o =
    let h : HasBounds sys (first_state sys) = length-map-range_with_len (λ p. 0) 0 (length sys.flow.nodes) in
    ap (λ n. first_stamps n ++ stamps_acknowledged o outcomes) (sym (first-bounds sys o (node_ids sys.flow)))
    ∙ run-goes sys steps outcomes (first_state sys) last h r o

-- ---- acknowledgements show the denotation

-- the origin is at most each stamp
origin-leq : (t g : Stamp) → leq t g ≡ true → leq (map (λ c. 0) g) t ≡ true
origin-leq [] [] h = refl
origin-leq [] (y ∷ g) h = absurd (two_ways true refl (sym h))
origin-leq (x ∷ t) [] h = absurd (two_ways true refl (sym h))
origin-leq (x ∷ t) (y ∷ g) h = let a = and_parts (nat_le x y) (leq t g) h in and_from (nat_le 0 x) (leq (map (λ c. 0) g) t) (zero-le x) (origin-leq t g a.1)

pub none-inside : (bounds : Bounds) (t : Stamp) → frontier_of bounds (no_stamps bounds) t ≡ true → ⊥
none-inside bounds t h = two_ways _ h ((names-nothing bounds).same t)

-- an output has one in-edge
one-zero : (n : ℕ) → n ≡ 1 → n ≡ 0 → ⊥
one-zero n h k = omega arith

pub output-degree : (kind : Kind) → is_output_kind kind ≡ true → (n : ℕ) → IsInDegree kind n → n ≡ 1
output-degree OutputEpoch k n d = d
output-degree OutputNumber k n d = d
output-degree kind k n d = absurd (cc)

one-edge : (xs : List ℕ) (e d : ℕ) → length xs ≡ 1 → weigh (at_edge e 1) xs ≡ 1 → weigh (at_edge d 1) xs ≡ 1 → e ≡ d
unfolding weigh
one-edge [] e d l a b = grind arith
one-edge (x ∷ []) e d l a b =
    let same : (c : ℕ) → cond (c == x) 1 0 + 0 ≡ 1 → c ≡ x =
    λ c h. elim (cases_Bool (c == x)) [ inl k ↦ eqb-true c x k | inr k ↦ absurd (one-zero (cond (c == x) 1 0 + 0) h (ap (λ r. cond r 1 0 + 0) k)) ] in
    same e a ∙ sym (same d b)
one-edge (x ∷ y ∷ xs) e d l a b = grind arith

only-edge : (flow : Dataflow) → IsWellFormed flow → (o : ℕ) → o < length flow.nodes → is_output_kind (kind_of flow o) ≡ true
    → (e d : ℕ) → receiver flow e ≡ o → receiver flow d ≡ o → e ≡ d
only-edge flow w o l k e d r s =
    let one : length (in_edges flow o) ≡ 1 = output-degree (kind_of flow o) k (length (in_edges flow o)) (w.in_degrees o l) in
    one-edge (in_edges flow o) e d one
    (in_edges-once flow o e 1 l ∙ ap (λ b. cond b 1 0) (eq-eqb (receiver flow e) o r))
    (in_edges-once flow o d 1 l ∙ ap (λ b. cond b 1 0) (eq-eqb (receiver flow d) o s))

-- ---- what an output acknowledges

recs_if : (b : Bool) (t : Stamp) (m : Message) → recs_at t (cond b (m ∷ []) []) ≡ cond (b && same t m.at) (m.rec ∷ []) []
recs_if true t m = recs_of (same t m.at) m
  where
    recs_of : (b : Bool) (m : Message) → map (λ (x : Message). x.rec) (cond b (m ∷ []) []) ≡ cond b (m.rec ∷ []) []
    recs_of true m = refl
    recs_of false m = refl
recs_if false t m = refl

recs-append : (t : Stamp) (xs ys : List Message) → recs_at t (xs ++ ys) ≡ recs_at t xs ++ recs_at t ys
recs-append t xs ys =
    ap (map (λ (x : Message). x.rec)) (filter-append (λ (m : Message). same t m.at) xs ys)
    ∙ map-append (λ (x : Message). x.rec) (filter (λ (m : Message). same t m.at) xs) (filter (λ (m : Message). same t m.at) ys)

-- the deliveries to a node of one in-edge are those on the edge
pub delivered-to : (flow : Dataflow) (o d : ℕ) (t : Stamp) → ((e : ℕ) → (receiver flow e == o) ≡ (e == d)) → (h : List Event)
    → delivered_recs (λ e s. receiver flow e == o && same s t) h ≡ recs_at t (delivered_messages h d)
delivered-to flow o d t k [] = refl
delivered-to flow o d t k (Injected s x ∷ h) = delivered-to flow o d t k h
delivered-to flow o d t k (Delivered e m ∷ h) =
    let here : cond (receiver flow e == o && same m.at t) (m.rec ∷ []) [] ≡ recs_at t (cond (e == d) (m ∷ []) []) =
    ap (λ b. cond (b && same m.at t) (m.rec ∷ []) []) (k e)
    ∙ ap (λ b. cond ((e == d) && b) (m.rec ∷ []) []) (and_comm (leq m.at t) (leq t m.at))
    ∙ sym (recs_if (e == d) t m) in
    ap (λ xs. xs ++ delivered_recs (λ e s. receiver flow e == o && same s t) h) here
    ∙ ap (λ xs. recs_at t (cond (e == d) (m ∷ []) []) ++ xs) (delivered-to flow o d t k h)
    ∙ sym (recs-append t (cond (e == d) (m ∷ []) []) (delivered_messages h d))
delivered-to flow o d t k (Notified p s ∷ h) = delivered-to flow o d t k h

pub same-test : (flow : Dataflow) → IsWellFormed flow → (o d : ℕ) → o < length flow.nodes → is_output_kind (kind_of flow o) ≡ true
    → receiver flow d ≡ o → (e : ℕ) → (receiver flow e == o) ≡ (e == d)
same-test flow w o d l k r e = elim (cases_Bool (e == d)) [
  | inl a ↦ eq-eqb (receiver flow e) o (ap (receiver flow) (eqb-true e d a) ∙ r) ∙ sym a
  | inr b ↦ elim (cases_Bool (receiver flow e == o)) [
    | inl c ↦ absurd (two_ways (e == d) (eq-eqb e d (only-edge flow w o l k e d (eqb-true (receiver flow e) o c) r)) b)
    | inr c ↦ c ∙ sym b
  ]
]
