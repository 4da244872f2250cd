-- From a state a step leads to at most one next state.
use Rattle.std.proofs.Common.{◌≡◌, ℕ, ◌+◌, ◌<◌, Bool, true, false, List, [], ◌∷◌, ◌++◌, length, map, slice_set, refl, sym, ap, subst, ◌∙◌, inl, inr, arith}
use Rattle.std.specs.List.{list_any}
use Rattle.std.proofs.lemmas.Bool.{cases_Bool, or_parts}
use Rattle.std.proofs.lemmas.List.{ext_get_or}
use Rattle.fw_lemmas.proofs.Bools.{two_ways}
use Rattle.fw_lemmas.proofs.Orderings.{tied}
use Rattle.fw_time.specs.Stamp.{Stamp}
use Rattle.fw_frontier.specs.Frontier.{Frontier, meet, join}
use Rattle.fw_frontier.specs.Front.{Front, frontier_of, IsFrontOf}
use Rattle.fw_frontier.proofs.NamesLaws.{names-same}
use Rattle.fw_flow.specs.declared.choice.Cut.{Cut}
use Rattle.fw_flow.specs.declared.choice.Cut.TheVariants.{Present, At}
use Rattle.fw_flow.specs.declared.event.Event.TheVariants.{Inject as Injected, Deliver as Delivered, Notify as Notified}
use Rattle.fw_flow.specs.declared.event.Message.{Message}
use Rattle.fw_flow.specs.declared.step.Step.{Step}
use Rattle.fw_flow.specs.declared.step.Step.TheVariants.{Inject, Deliver, Notify, Progress as ProgressStep, Checkpoint, Persist, Fail, Recover, Collect, Ack}
use Rattle.fw_flow.specs.Dataflow.{System, bounds_of, node_ids}
use Rattle.fw_model.specs.Machine.{Machine, Write, acknowledged, events, front_of, is_failed}
use Rattle.fw_flow.specs.declared.choice.Choice.{Choice}
use Rattle.fw_model.specs.Choice.{kept, cut_of}
use Rattle.fw_model.specs.Steps.{Effect, acked, cuts, lows, did, idle, with_event, eager_writes, GrowsTo, is_in_flight, AcknowledgesOldest, IsSettledCut, CutsTo, recovered_state, front_of_cut, collected_writes, recs_at_output, LeadsTo}
use Rattle.fw_model.specs.LawsOfSteps.{OneNextState}
use Rattle.fw_model.proofs.ChoiceLaws.{largest-one}
use Rattle.fw_flow.proofs.MessageLaws.{message_cmp-same, message_total}
use Rattle.fw_model.proofs.CmpLaws.{stamp_cmp-same, stamp_total}
use Rattle.fw_model.proofs.DescentLaws.{complete-one}

-- ---- the parts of next states

grows-one : (sys : System) (state : Machine) (done also : ℕ → Frontier) (one other : List Front) → GrowsTo sys state done one → GrowsTo sys state also other
    → one ≡ other
grows-one sys state done also one other g k =
    let same = complete-one sys (events state.history) done also g.complete k.complete in
    ext_get_or [] one other (g.one_each ∙ sym k.one_each) (λ p l.
    let m : p < length sys.flow.nodes = omega (arith, g.one_each) in
    let b = bounds_of sys.flow p in
    let old = frontier_of b (front_of state.settled p) in
    elim (cases_Bool (is_failed state p)) [
      | inl e ↦ g.failed p m e ∙ sym (k.failed p m e)
      | inr e ↦ names-same b (front_of one p) (front_of other p) (join old (done p)) (g.each p m e)
          (subst (λ (d : ℕ → Frontier). IsFrontOf b (front_of other p) (join old (d p))) (sym same) (k.each p m e))
    ])

head-one : (x y : Write) (xs ys : List Write) → x ∷ xs ≡ y ∷ ys → x ≡ y
head-one x y xs ys e = cc

tail-one : (x y : Write) (xs ys : List Write) → x ∷ xs ≡ y ∷ ys → xs ≡ ys
tail-one x y xs ys e = cc

abbrev any_in_flight : List Write → Bool
any_in_flight writes = list_any (λ write. is_in_flight write.stage) writes

oldest-one : (e f : List Write) (o q : Write) (l m : List Write) → e ++ o ∷ l ≡ f ++ q ∷ m → is_in_flight o.stage ≡ true → is_in_flight q.stage ≡ true
    → any_in_flight e ≡ false → any_in_flight f ≡ false
    → e ++ record o { stage = acknowledged } ∷ l ≡ f ++ record q { stage = acknowledged } ∷ m
oldest-one [] [] o q l m s i j u v =
    ap (λ (w : Write). record w { stage = acknowledged } ∷ l) (head-one o q l m s)
    ∙ ap (λ ws. record q { stage = acknowledged } ∷ ws) (tail-one o q l m s)
oldest-one [] (y ∷ f) o q l m s i j u v =
    absurd (two_ways (is_in_flight o.stage) i (ap (λ (w : Write). is_in_flight w.stage) (head-one o y l (f ++ q ∷ m) s) ∙ (or_parts (is_in_flight y.stage) (any_in_flight f) v).0))
oldest-one (x ∷ e) [] o q l m s i j u v =
    absurd (two_ways (is_in_flight q.stage) j (sym (ap (λ (w : Write). is_in_flight w.stage) (head-one x q (e ++ o ∷ l) m s)) ∙ (or_parts (is_in_flight x.stage) (any_in_flight e) u).0))
oldest-one (x ∷ e) (y ∷ f) o q l m s i j u v =
    ap (λ w. w ∷ e ++ record o { stage = acknowledged } ∷ l) (head-one x y (e ++ o ∷ l) (f ++ q ∷ m) s)
    ∙ ap (λ ws. y ∷ ws) (oldest-one e f o q l m (tail-one x y (e ++ o ∷ l) (f ++ q ∷ m) s) i j
    (or_parts (is_in_flight x.stage) (any_in_flight e) u).1 (or_parts (is_in_flight y.stage) (any_in_flight f) v).1)

acknowledges-one : (writes one other : List Write) → AcknowledgesOldest writes one → AcknowledgesOldest writes other → one ≡ other
acknowledges-one writes one other a b =
    a.after ∙ oldest-one a.earlier b.earlier a.oldest b.oldest a.later b.later (sym a.before ∙ b.before) a.in_flight b.in_flight a.none_earlier b.none_earlier
    ∙ sym b.after

settled_cut-one : (sys : System) (p : ℕ) (cut : Cut) (before one other : Front) → IsSettledCut sys p cut before one → IsSettledCut sys p cut before other → one ≡ other
settled_cut-one sys p Present before one other a b = a ∙ sym b
settled_cut-one sys p (At f) before one other a b =
    names-same (bounds_of sys.flow p) one other (meet (frontier_of (bounds_of sys.flow p) before) (frontier_of (bounds_of sys.flow p) f)) a b

cuts-one : (sys : System) (state : Machine) (choice also : Choice) (one other : List Front) → choice ≡ also → CutsTo sys state choice one
    → CutsTo sys state also other → one ≡ other
cuts-one sys state choice also one other same a b =
    let c : CutsTo sys state choice other = subst (λ (x : Choice). CutsTo sys state x other) (sym same) b in
    ext_get_or [] one other (a.one_each ∙ sym c.one_each) (λ p l.
    let m : p < length sys.flow.nodes = omega (arith, a.one_each) in
    settled_cut-one sys p (cut_of choice p) (front_of state.settled p) (front_of one p) (front_of other p) (a.each p m) (c.each p m))

-- ---- the steps

takes-one : (sys : System) (state : Machine) (step : Step) (one other : Machine) (first second : Effect) → LeadsTo sys state step one first
    → LeadsTo sys state step other second → (one ≡ other) × (first ≡ second)
takes-one sys state (Inject s) one other first second t u =
    let same : t.0 ≡ u.0 = t.1.next ∙ sym u.1.next in
    (t.3 ∙ ap (λ x. with_event sys state (Injected s x)) same ∙ sym u.3, t.4 ∙ sym u.4)
takes-one sys state (Deliver e at) one other first second t u =
    let k = t.1 in
    let l = u.1 in
    let same : t.0 ≡ u.0 = message_cmp-same t.0 u.0 (tied message_total t.0 u.0 (k.least u.0 l.enabled l.asked) (l.least t.0 k.enabled k.asked)) in
    (t.3 ∙ ap (λ (m : Message). with_event sys state (Delivered e m)) same ∙ sym u.3, t.4 ∙ sym u.4)
takes-one sys state (Notify p at) one other first second t u =
    let k = t.1 in
    let l = u.1 in
    let same : t.0 ≡ u.0 = stamp_cmp-same t.0 u.0 (tied stamp_total t.0 u.0 (k.least u.0 l.enabled l.asked) (l.least t.0 k.enabled k.asked)) in
    (t.3 ∙ ap (λ (x : Stamp). with_event sys state (Notified p x)) same ∙ sym u.3, t.4 ∙ sym u.4)
takes-one sys state ProgressStep one other first second t u =
    let same = grows-one sys state t.0 u.0 t.1 u.1 t.2 u.2 in (
      t.3 ∙ ap (λ (fs : List Front). record state { settled = fs; writes = state.writes ++ eager_writes sys state fs (node_ids sys.flow) }) same ∙ sym u.3,
      t.4 ∙ sym u.4,
    )
takes-one sys state (Checkpoint p) one other first second t u = (t.3 ∙ sym u.3, t.4 ∙ sym u.4)
takes-one sys state Persist one other first second t u =
    (t.2 ∙ ap (λ (ws : List Write). record state { writes = ws }) (acknowledges-one state.writes t.0 u.0 t.1 u.1) ∙ sym u.2, t.3 ∙ sym u.3)
takes-one sys state (Fail ps) one other first second t u = (t.4 ∙ sym u.4, t.5 ∙ sym u.5)
takes-one sys state Recover one other first second t u =
    let same = largest-one sys state (is_failed state) kept t.1 u.1 t.5 u.5 in
    let settled = cuts-one sys state t.1 u.1 t.2 u.2 same t.6 u.6 in (
      t.7 ∙ ap (λ c. recovered_state sys state c t.2) same ∙ ap (λ fs. recovered_state sys state u.1 fs) settled ∙ sym u.7,
      t.8 ∙ ap (λ c. cuts c) same ∙ sym u.8,
    )
takes-one sys state Collect one other first second t u =
    let same = largest-one sys state (λ p. true) kept t.0 u.0 t.1 u.1 in (
      t.3 ∙ ap (λ (c : Choice). record state {
        low = map front_of_cut c.cuts;
        writes = collected_writes sys (map front_of_cut c.cuts) state.history state.writes;
      }) same ∙ sym u.3,
      t.4 ∙ ap (λ c. lows c) same ∙ sym u.4,
    )
takes-one sys state (Ack o) one other first second t u =
    let same : t.0 ≡ u.0 = t.1.next ∙ sym u.1.next in (
      t.2 ∙ ap (λ x. record state { ack_counts = slice_set state.ack_counts o (x + 1) }) same ∙ sym u.2,
      t.3 ∙ ap (λ x. acked o (x ∷ []) (recs_at_output sys state o x)) same ∙ sym u.3,
    )

pub one_next : OneNextState
one_next sys state step one other (did a) (did b) s t =
    let same = takes-one sys state step one other a b s t in
    (same.0, ap (λ e. did e) same.1)
one_next sys state step one other (did a) idle s t = absurd (t.0 one a s)
one_next sys state step one other idle (did b) s t = absurd (s.0 other b t)
one_next sys state step one other idle idle s t = (s.1 ∙ sym t.1, refl)
