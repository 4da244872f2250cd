-- Whether a step without a choice is enabled is decided.
use Rattle.std.proofs.Common.{◌≡◌, ℕ, ◌+◌, Bool, true, false, not, ◌&&◌, ◌==◌, List, [], ◌∷◌, ◌++◌, length, Option, Some, None, slice_set, refl, sym, ap, subst, ◌∙◌, inl, inr, ◌⊎◌, arith}
use Rattle.std.specs.List.{AllByRecursion, list_any}
use Rattle.std.specs.Ordering.{is_gt}
use Rattle.std.proofs.lemmas.Bool.{and_parts, and_from, or_cases, or_left, or_right, or_from, cases_Bool, cases_lt, false_from_ne_true}
use Rattle.fw_lemmas.proofs.Bools.{two_ways}
use Rattle.fw_bag.specs.declared.rec.Rec.{Rec}
use Rattle.fw_time.specs.Stamp.{Stamp, leq, lesser, same, stamp_cmp}
use Rattle.fw_time.proofs.StampLaws.{leq-antisym}
use Rattle.fw_time.proofs.DomainLaws.{domain-leq}
use Rattle.fw_frontier.specs.Frontier.{Frontier}
use Rattle.fw_frontier.specs.Front.{frontier_of}
use Rattle.fw_flow.specs.declared.event.Event.{Event}
use Rattle.fw_flow.specs.declared.event.Event.TheVariants.{Inject as Injected, Deliver as Delivered, Notify as Notified}
use Rattle.fw_flow.specs.declared.event.Message.{Message}
use Rattle.fw_flow.specs.Kind.{Kind}
use Rattle.fw_flow.specs.declared.kind.Kind.TheVariants.{OutputNumber}
use Rattle.fw_flow.specs.declared.step.Step.{Step}
use Rattle.fw_flow.specs.declared.step.Step.TheVariants.{Inject, Deliver, Notify, Progress as ProgressStep, Checkpoint, Persist, Fail, Ack}
use Rattle.fw_flow.specs.Dataflow.{System, Dataflow, kind_of, policy_of, sender, receiver, bounds_of, batches_of, is_input_kind, is_notified_kind, is_output_kind, is_numbered, node_ids, is_one_of}
use Rattle.fw_flow.specs.NodeFunction.{delivered_recs}
use Rattle.fw_flow.specs.Projection.{phi}
use Rattle.fw_flow.specs.WellFormed.{IsWellFormed}
use Rattle.fw_model.specs.History.{pending_messages, delivered_messages, was_delivered_to, was_notified, is_owed_notice, injected_count, IsAdmissible, IsComplete, IsDeliverable, IsNotifiable}
use Rattle.fw_model.specs.Machine.{Machine, Write, acknowledged, events, no_stamps, front_of, is_failed, ack_count_of}
use Rattle.fw_model.specs.Steps.{Effect, silent, acked, with_event, IsStampNamed, is_asked, eager_writes, is_asked_for_checkpoints, newest_checkpoint, checkpoint_of, is_in_flight, AcknowledgesOldest, without_lost, with_failed, HasEpoch, HasDelivery, HasSomethingAt, MayAcknowledge, recs_at_output, LeadsTo}
use Rattle.fw_model.proofs.StampLaws.{same-is, same-from}
use Rattle.fw_model.proofs.CmpLaws.{decided-stamp, decided-front, stamp_total, find_least}
use Rattle.fw_flow.specs.Message.{is_message_among, message_cmp}
use Rattle.fw_flow.proofs.MessageLaws.{message_total, among-each}
use Rattle.fw_model.proofs.Decisions.{Decided, decided-test, decided-or, decided-below, find_place}
use Rattle.fw_model.proofs.DescentLaws.{is_quiet, quiet-at, quiet-from, past_edges-receiver, follows_all, follows_all-at, follows_all-from, complete-exists, complete-one}
use Rattle.fw_model.proofs.PhiLaws.{phi-monotone}
use Rattle.fw_model.proofs.SettleLaws.{settled-grows}
use Rattle.fw_model.proofs.StampLists.{each_up_to, each_up_to-at, each_up_to-from, find_stamp}

-- ---- which stamps are asked for

pub asked-is : (at : Option Stamp) (t : Stamp) → is_asked at t ≡ true → IsStampNamed at t
asked-is None t e = tt
asked-is (Some s) t e = same-is s t e

pub asked-from : (at : Option Stamp) (t : Stamp) → IsStampNamed at t → is_asked at t ≡ true
asked-from None t e = refl
asked-from (Some s) t e = same-from s t e

decided-asked : (at : Option Stamp) (t : Stamp) → Decided (IsStampNamed at t)
decided-asked None t = inl tt
decided-asked (Some s) t = decided-stamp s t

-- ---- the steps

-- a step is enabled and leads to some next state, or it is not enabled
abbrev pub DecidedStep : System → Machine → Step → Type 0
DecidedStep sys state step =
    ((next : Machine) × (effect : Effect) × LeadsTo sys state step next effect) ⊎ ((next : Machine) (effect : Effect) → LeadsTo sys state step next effect → ⊥)

pub inject-decided : (sys : System) (state : Machine) (s : ℕ) → DecidedStep sys state (Inject s)
inject-decided sys state s =
    let x = injected_count s (events state.history) in
    elim (cases_Bool (is_input_kind (kind_of sys.flow s))) [
      | inr e ↦ inr (λ next effect t. two_ways _ t.1.input e)
      | inl i ↦ elim (cases_lt x (length (batches_of sys s))) [
        | inr l ↦ inr (λ next effect t. let a = t.1.next in let b = t.1.there in omega arith)
        | inl l ↦ elim (cases_Bool (is_failed state s)) [
          | inl e ↦ inr (λ next effect t. two_ways _ e t.2)
          | inr e ↦ inl (with_event sys state (Injected s x), silent, (x, record { input = i; next = refl; there = l }, e, refl, refl))
        ]
      ]
    ]

-- the message may be delivered on the edge, and is at the stamp that is asked for
abbrev MayDeliver : System → List Event → ℕ → Option Stamp → Message → Type 0
MayDeliver sys h e at m = IsDeliverable sys h e m × IsStampNamed at m.at

deliverable-decided : (sys : System) (h : List Event) (e : ℕ) (m : Message) → Decided (IsDeliverable sys h e m)
deliverable-decided sys h e m = elim (cases_Bool (is_message_among m (pending_messages sys h e))) [
  | inr k ↦ inr (λ d. two_ways _ d.is_pending k)
  | inl k ↦ elim (cases_Bool (is_numbered sys.flow e)) [
    | inr n ↦ inl (record { is_pending = k; numbered = λ j. absurd (two_ways _ j n) })
    | inl n ↦ elim (decided-stamp m.at (length (delivered_messages h e) ∷ [])) [
      | inl q ↦ inl (record { is_pending = k; numbered = λ j. q })
      | inr q ↦ inr (λ d. q (d.numbered n))
    ]
  ]
]

may_deliver-decided : (sys : System) (h : List Event) (e : ℕ) (at : Option Stamp) (m : Message) → Decided (MayDeliver sys h e at m)
may_deliver-decided sys h e at m = elim (deliverable-decided sys h e m) [
  | inr n ↦ inr (λ k. n k.0)
  | inl d ↦ elim (decided-asked at m.at) [ inl a ↦ inl (d, a) | inr n ↦ inr (λ k. n k.1) ]
]

pub deliver-decided : (sys : System) (state : Machine) (e : ℕ) (at : Option Stamp) → DecidedStep sys state (Deliver e at)
deliver-decided sys state e at =
    let h = events state.history in
    let P : Message → Type 0 = λ m. MayDeliver sys h e at m in
    elim (cases_Bool (is_failed state (receiver sys.flow e))) [
      | inl f ↦ inr (λ next effect t. two_ways _ f t.2)
      | inr f ↦ elim (find_least message_total P (may_deliver-decided sys h e at) (pending_messages sys h e)) [
        | inr none ↦ inr (λ next effect t.
            let k = t.1 in
            among-each (λ m. P m → ⊥) t.0 (pending_messages sys h e) k.enabled.is_pending none (k.enabled, k.asked))
        | inl w ↦
            let m = w.0 in
            let l = w.1 in
            inl (
              with_event sys state (Delivered e m),
              silent,
              (
                m,
                record {
                  enabled = l.has.0;
                  asked = l.has.1;
                  least = λ other i a. among-each (λ y. P y → is_gt (message_cmp m y) ≡ false) other (pending_messages sys h e) i.is_pending l.least (i, a);
                },
                f,
                refl,
                refl,
              ),
            )
      ]
    ]

-- the stamps of the deliveries of a history
came_at : List Event → List Stamp
came_at [] = []
came_at (Injected s x ∷ h) = came_at h
came_at (Delivered e m ∷ h) = m.at ∷ came_at h
came_at (Notified p t ∷ h) = came_at h

came-each : (P : Stamp → Type 0) (flow : Dataflow) (p : ℕ) (t : Stamp) (h : List Event) → was_delivered_to flow p t h ≡ true → AllByRecursion P (came_at h) → P t
unfolding came_at
came-each P flow p t [] k a = absurd (cc)
came-each P flow p t (Injected s x ∷ h) k a = came-each P flow p t h k a
came-each P flow p t (Delivered e m ∷ h) k a = elim (or_cases (receiver flow e == p && same m.at t) (was_delivered_to flow p t h) k) [
  | inr i ↦ came-each P flow p t h i a.1
  | inl i ↦
      let b = and_parts (leq m.at t) (leq t m.at) (and_parts (receiver flow e == p) (same m.at t) i).1 in
      subst P (leq-antisym m.at t b.0 b.1) a.0
]
came-each P flow p t (Notified q s ∷ h) k a = came-each P flow p t h k a

owed-came : (sys : System) (h : List Event) (p : ℕ) (t : Stamp) → is_owed_notice sys h p t ≡ true
    → (is_notified_kind (kind_of sys.flow p) ≡ true) × (was_delivered_to sys.flow p t h ≡ true)
owed-came sys h p t k =
    and_parts (is_notified_kind (kind_of sys.flow p)) (was_delivered_to sys.flow p t h)
    (and_parts (is_notified_kind (kind_of sys.flow p) && was_delivered_to sys.flow p t h) (not (was_notified p t h)) k).0

-- what is complete before a node decides whether some admissible family has the stamp complete before it
complete_before : (sys : System) (h : List Event) (done : ℕ → Frontier) → IsComplete sys h done → (p : ℕ) (t : Stamp) → is_owed_notice sys h p t ≡ true
    → Decided ((family : ℕ → Frontier) × IsAdmissible sys h family × ((d : ℕ) → receiver sys.flow d ≡ p → phi sys h d (family (sender sys.flow d)) t ≡ true))
complete_before sys h done c p t o = elim (cases_Bool (follows_all sys h done p t)) [
  | inl k ↦ inl (
    done,
    c.admissible,
    λ d r. elim (cases_lt d (length sys.flow.edges)) [
      | inl l ↦ follows_all-at sys h done p t k d l r
      | inr l ↦ absurd (two_ways (is_notified_kind (kind_of sys.flow p)) (owed-came sys h p t o).0
          (ap (λ q. is_notified_kind (kind_of sys.flow q)) (sym r) ∙ ap is_notified_kind (past_edges-receiver sys.flow d l)))
    ],
  )
  | inr k ↦ inr (λ w. two_ways (follows_all sys h done p t)
      (follows_all-from sys h done p t (λ e l r.
      let q = sender sys.flow e in
      phi-monotone sys h e (w.0 q) (done q) (c.largest w.0 w.1 q) t (w.2 e r))) k)
]

notifiable-decided : (sys : System) (h : List Event) (done : ℕ → Frontier) → IsComplete sys h done → (p : ℕ) (t : Stamp) → Decided (IsNotifiable sys h p t)
notifiable-decided sys h done c p t = elim (cases_Bool (is_owed_notice sys h p t)) [
  | inr o ↦ inr (λ k. two_ways _ k.is_owed o)
  | inl o ↦ elim (find_stamp (λ s. lesser s t && is_owed_notice sys h p s) t) [
    | inl w ↦
        let a = and_parts (lesser w.0 t) (is_owed_notice sys h p w.0) w.2 in
        inr (λ k. two_ways _ a.1 (k.none_lesser w.0 a.0))
    | inr none ↦ elim (cases_Bool (each_up_to (is_quiet sys h p) t)) [
      | inr q ↦ inr (λ k. two_ways _ (each_up_to-from (is_quiet sys h p) t (λ s l. quiet-from sys h p s (k.quiet s l))) q)
      | inl q ↦ elim (complete_before sys h done c p t o) [
        | inr n ↦ inr (λ k. n k.complete)
        | inl w ↦ inl (record {
          is_owed = o;
          none_lesser = λ s l. false_from_ne_true (is_owed_notice sys h p s) (λ i.
              two_ways (lesser s t && is_owed_notice sys h p s) (and_from (lesser s t) (is_owed_notice sys h p s) l i) (none s (and_parts (leq s t) (not (leq t s)) l).0));
          quiet = λ s l. quiet-at sys h p s (each_up_to-at (is_quiet sys h p) t s q l);
          complete = w;
        })
      ]
    ]
  ]
]

-- the node may be notified of the stamp, and it is the one that is asked for
abbrev MayNotify : System → List Event → ℕ → Option Stamp → Stamp → Type 0
MayNotify sys h p at t = IsNotifiable sys h p t × IsStampNamed at t

may_notify-decided : (sys : System) (h : List Event) (done : ℕ → Frontier) → IsComplete sys h done → (p : ℕ) (at : Option Stamp) (t : Stamp)
    → Decided (MayNotify sys h p at t)
may_notify-decided sys h done c p at t = elim (notifiable-decided sys h done c p t) [
  | inr n ↦ inr (λ k. n k.0)
  | inl d ↦ elim (decided-asked at t) [ inl a ↦ inl (d, a) | inr n ↦ inr (λ k. n k.1) ]
]

pub notify-decided : (sys : System) (state : Machine) → IsWellFormed sys.flow → (p : ℕ) (at : Option Stamp) → DecidedStep sys state (Notify p at)
notify-decided sys state wf p at =
    let h = events state.history in
    let c = complete-exists sys h wf in
    let P : Stamp → Type 0 = λ t. MayNotify sys h p at t in
    elim (cases_Bool (is_failed state p)) [
      | inl f ↦ inr (λ next effect t. two_ways _ f t.2)
      | inr f ↦ elim (find_least stamp_total P (may_notify-decided sys h c.0 c.1 p at) (came_at h)) [
        | inr none ↦ inr (λ next effect t.
            let k = t.1 in
            came-each (λ s. P s → ⊥) sys.flow p t.0 h (owed-came sys h p t.0 k.enabled.is_owed).1 none (k.enabled, k.asked))
        | inl w ↦
            let t = w.0 in
            let l = w.1 in
            inl (
              with_event sys state (Notified p t),
              silent,
              (
                t,
                record {
                  enabled = l.has.0;
                  asked = l.has.1;
                  least = λ other i a. came-each (λ s. P s → is_gt (stamp_cmp t s) ≡ false) sys.flow p other h (owed-came sys h p other i.is_owed).1 l.least (i, a);
                },
                f,
                refl,
                refl,
              ),
            )
      ]
    ]

-- node p is not failed, and a stamp is complete and not settled there
abbrev HasMoreAt : System → Machine → (ℕ → Frontier) → ℕ → Type 0
HasMoreAt sys state done p =
    (t : Stamp) × (is_failed state p ≡ false) × (done p t ≡ true) × (frontier_of (bounds_of sys.flow p) (front_of state.settled p) t ≡ false)

more_at-decided : (sys : System) (state : Machine) (done : ℕ → Frontier) → IsComplete sys (events state.history) done → (p : ℕ) → Decided (HasMoreAt sys state done p)
more_at-decided sys state done c p =
    let b = bounds_of sys.flow p in
    let old = frontier_of b (front_of state.settled p) in
    elim (cases_Bool (is_failed state p)) [
      | inl f ↦ inr (λ w. two_ways _ f w.1)
      | inr f ↦ elim (find_stamp (λ t. done p t && not (old t)) b.greatest) [
        | inl w ↦
            let a = and_parts (done p w.0) (not (old w.0)) w.2 in
            inl (w.0, f, a.0, false_from_ne_true (old w.0) (λ k. two_ways (not (old w.0)) a.1 (ap not k)))
        | inr none ↦ inr (λ w.
            two_ways (done p w.0 && not (old w.0)) (and_from (done p w.0) (not (old w.0)) w.2 (ap not w.3))
            (none w.0 (domain-leq b w.0 ((c.admissible.frontier p).inside_domain w.0 w.2))))
      ]
    ]

pub progress-decided : (sys : System) (state : Machine) → IsWellFormed sys.flow → DecidedStep sys state ProgressStep
progress-decided sys state wf =
    let h = events state.history in
    let c = complete-exists sys h wf in
    elim (find_place (length sys.flow.nodes) (HasMoreAt sys state c.0) (more_at-decided sys state c.0 c.1)) [
      | inr none ↦ inr (λ next effect t.
          let g = t.2 in
          let s = g.some in
          let same = complete-one sys h t.0 c.0 g.complete c.1 in
          none s.0 s.2 (s.1, s.3, sym (ap (λ (d : ℕ → Frontier). d s.0 s.1) same) ∙ s.4, s.5))
      | inl w ↦
          let m = w.2 in
          let g = settled-grows sys state c.0 c.1 (record { node = w.0; at = m.0; declared = w.1; live = m.1; complete = m.2; unsettled = m.3 }) in
          inl (record state { settled = g.0; writes = state.writes ++ eager_writes sys state g.0 (node_ids sys.flow) }, silent, (c.0, g.0, g.1, refl, refl))
    ]

pub checkpoint-decided : (sys : System) (state : Machine) (p : ℕ) → DecidedStep sys state (Checkpoint p)
checkpoint-decided sys state p =
    let old = front_of state.settled p in
    elim (cases_Bool (is_asked_for_checkpoints (policy_of sys.flow p))) [
      | inr a ↦ inr (λ next effect t. two_ways _ t.0 a)
      | inl a ↦ elim (cases_Bool (is_failed state p)) [
        | inl f ↦ inr (λ next effect t. two_ways _ f t.1)
        | inr f ↦ elim (decided-front old (newest_checkpoint p (no_stamps (bounds_of sys.flow p)) state.writes)) [
          | inl e ↦ inr (λ next effect t. t.2 e)
          | inr n ↦ inl (record state { writes = state.writes ++ checkpoint_of state p old ∷ [] }, silent, (a, f, n, refl, refl))
        ]
      ]
    ]

abbrev any_in_flight : List Write → Bool
any_in_flight writes = list_any (λ write. is_in_flight write.stage) writes

find_oldest : (writes : List Write) → ((next : List Write) × AcknowledgesOldest writes next) ⊎ (any_in_flight writes ≡ false)
find_oldest [] = inr refl
find_oldest (w ∷ ws) = elim (cases_Bool (is_in_flight w.stage)) [
  | inl f ↦ inl (
    record w { stage = acknowledged } ∷ ws,
    record {
      earlier = [];
      oldest = w;
      later = ws;
      before = refl;
      in_flight = f;
      none_earlier = refl;
      after = refl;
    },
  )
  | inr f ↦ elim (find_oldest ws) [
    | inr n ↦ inr (or_from (is_in_flight w.stage) (any_in_flight ws) f n)
    | inl g ↦
        let a = g.1 in
        inl (
          w ∷ g.0,
          record {
            earlier = w ∷ a.earlier;
            oldest = a.oldest;
            later = a.later;
            before = ap (λ xs. w ∷ xs) a.before;
            in_flight = a.in_flight;
            none_earlier = or_from (is_in_flight w.stage) (any_in_flight a.earlier) f a.none_earlier;
            after = ap (λ xs. w ∷ xs) a.after;
          },
        )
  ]
]

some_in_flight : (earlier : List Write) (oldest : Write) (later : List Write) → is_in_flight oldest.stage ≡ true → any_in_flight (earlier ++ oldest ∷ later) ≡ true
some_in_flight [] o l k = or_left (is_in_flight o.stage) (any_in_flight l) k
some_in_flight (w ∷ ws) o l k = or_right (is_in_flight w.stage) (any_in_flight (ws ++ o ∷ l)) (some_in_flight ws o l k)

pub persist-decided : (sys : System) (state : Machine) → DecidedStep sys state Persist
persist-decided sys state = elim (find_oldest state.writes) [
  | inl g ↦ inl (record state { writes = g.0 }, silent, (g.0, g.1, refl, refl))
  | inr n ↦ inr (λ next effect t.
      let a = t.1 in
      two_ways (any_in_flight state.writes) (ap any_in_flight a.before ∙ some_in_flight a.earlier a.oldest a.later a.in_flight) n)
]

pub fail-decided : (sys : System) (state : Machine) (ps : List ℕ) → DecidedStep sys state (Fail ps)
fail-decided sys state ps =
    elim (find_place (length sys.flow.nodes) (λ p. (is_one_of p ps ≡ true) × (is_failed state p ≡ false)) decide) [
      | inl w ↦ inl (record state { failed = with_failed sys state ps; writes = without_lost ps state.writes }, silent, (w.0, w.1, w.2.0, w.2.1, refl, refl))
      | inr none ↦ inr (λ next effect t. none t.0 t.1 (t.2, t.3))
    ]
  where
    decide : (p : ℕ) → Decided ((is_one_of p ps ≡ true) × (is_failed state p ≡ false))
    decide p = elim (decided-test (is_one_of p ps) true) [
      | inr n ↦ inr (λ k. n k.0)
      | inl a ↦ elim (decided-test (is_failed state p) false) [ inl b ↦ inl (a, b) | inr n ↦ inr (λ k. n k.1) ]
    ]

epoch-decided : (sources : List (List (List Rec))) (x : ℕ) → Decided (HasEpoch sources x)
epoch-decided [] x = inr (λ k. k)
epoch-decided (batches ∷ sources) x = decided-or (decided-below x (length batches)) (epoch-decided sources x)

delivery-decided : (sys : System) (h : List Event) (o : ℕ) (test : Stamp → Bool) → Decided (HasDelivery sys h o test)
delivery-decided sys h o test = decided-below 0 (length (delivered_recs (λ e s. receiver sys.flow e == o && test s) h))

there-decided : (sys : System) (h : List Event) (kind : Kind) (o x : ℕ) → Decided (HasSomethingAt sys h kind o x)
there-decided sys h OutputNumber o x = delivery-decided sys h o (same (x ∷ []))
there-decided sys h kind o x = decided-or (epoch-decided sys.batches x) (delivery-decided sys h o (leq (x ∷ [])))

acknowledge-decided : (sys : System) (state : Machine) (o : ℕ) → Decided (MayAcknowledge sys state o (ack_count_of state o))
acknowledge-decided sys state o =
    let x = ack_count_of state o in
    elim (decided-below o (length sys.flow.nodes)) [
      | inr n ↦ inr (λ k. n k.declared)
      | inl d ↦ elim (cases_Bool (is_output_kind (kind_of sys.flow o))) [
        | inr n ↦ inr (λ k. two_ways _ k.output n)
        | inl q ↦ elim (cases_Bool (is_failed state o)) [
          | inl n ↦ inr (λ k. two_ways _ n k.live)
          | inr f ↦ elim (cases_Bool (frontier_of (bounds_of sys.flow o) (front_of state.settled o) (x ∷ []))) [
            | inr n ↦ inr (λ k. two_ways _ k.settled n)
            | inl s ↦ elim (there-decided sys (events state.history) (kind_of sys.flow o) o x) [
              | inr n ↦ inr (λ k. n k.there)
              | inl w ↦ inl (record { declared = d; output = q; live = f; next = refl; settled = s; there = w })
            ]
          ]
        ]
      ]
    ]

pub ack-decided : (sys : System) (state : Machine) (o : ℕ) → DecidedStep sys state (Ack o)
ack-decided sys state o =
    let x = ack_count_of state o in
    elim (acknowledge-decided sys state o) [
      | inl m ↦ inl (record state { ack_counts = slice_set state.ack_counts o (x + 1) }, acked o (x ∷ []) (recs_at_output sys state o x), (x, m, refl, refl))
      | inr n ↦ inr (λ next effect t. n (subst (λ y. MayAcknowledge sys state o y) t.1.next t.1))
    ]
