-- Where all has come, what was sent is the denotation, if each sequence sent a first part of what it sends in all.
use Rattle.std.proofs.Common.{◌≡◌, ◌⊎◌, ℕ, ◌+◌, ◌<◌, ◌≤◌, Bool, true, false, not, ◌&&◌, ◌||◌, List, [], ◌∷◌, ◌++◌, length, map, Some, refl, sym, ap, subst, ◌∙◌, inl, inr, arith}
use Rattle.std.specs.Prelude.{filter}
use Rattle.std.specs.Ordering.{is_gt, is_lt, ordering_reverse}
use Rattle.std.specs.declared.cmp.Ordering.{Ordering}
use Rattle.std.specs.declared.cmp.Ordering.TheVariants.{Less, Equal, Greater}
use Rattle.std.proofs.lemmas.Bool.{and_parts, cases_Bool, not-true}
use Rattle.std.proofs.lemmas.Cmp.{nat_list_cmp_total}
use Rattle.fw_lemmas.proofs.Bools.{two_ways}
use Rattle.fw_lemmas.proofs.Filters.{filter-all, filter-none}
use Rattle.fw_lemmas.proofs.Orderings.{gt_then}
use Rattle.fw_time.specs.Stamp.{Stamp, leq, stamp_cmp, in_domain}
use Rattle.fw_time.proofs.StampLaws.{before-from_leq}
use Rattle.fw_bag.specs.declared.rec.Rec.{Rec}
use Rattle.fw_frontier.specs.Frontier.{Frontier}
use Rattle.fw_flow.specs.declared.event.Event.{Event}
use Rattle.fw_flow.specs.declared.kind.Domain.TheVariants.{Number}
use Rattle.fw_flow.specs.Kind.{Kind}
use Rattle.fw_flow.specs.declared.kind.Kind.TheVariants.{Input, Sum, Total}
use Rattle.fw_flow.specs.Dataflow.{greatest_of_kind, is_loop, System, kind_of, sender, receiver, in_edges, domain_of, out_domain_of, out_domain_of_kind, greatest_number, bounds_of, batches_of, is_input_kind, is_notified_kind, send_stamp}
use Rattle.fw_flow.specs.NodeFunction.{sequence_sent, sent_by}
use Rattle.fw_flow.specs.Projection.{events_at, phi, phi_of_kind, sent_count}
use Rattle.fw_flow.specs.Ranks.{is_looped}
use Rattle.fw_flow.specs.WellFormed.{IsWellFormed, IsWellFormedSystem}
use Rattle.fw_flow.specs.WholeBags.{Timed, timed_cmp, outputs_of_kind, in_order, numbered_recs, joint_bag}
use Rattle.fw_model.specs.Denotation.{Family, IsDenotation}
use Rattle.fw_model.specs.History.{was_delivered_to, was_notified, is_owed_notice, sent_messages, delivered_messages, IsAdmissible, IsLegal}
use Rattle.fw_model.proofs.KindSorts.{is_inner, sort_of}
use Rattle.fw_model.proofs.SendingLaws.{phi-by_stamp, phi-in_domain}
use Rattle.fw_model.proofs.SequenceLaws.{bounds-sequence, count-le_length, no_inject, sent_by-sequence, phi-sequence}
use Rattle.fw_model.proofs.LegalLaws.{edge_domains, only_inputs_inject}
use Rattle.fw_model.proofs.CompleteLaws.{sender_sorts}
use Rattle.fw_model.proofs.OrderLaws.{either_way}
use Rattle.fw_model.proofs.WeightLaws.{weigh, weigh-append, weigh-same, weigh-none, one}
use Rattle.fw_model.proofs.SentLaws.{timed_of, quiet-delivered}
use Rattle.fw_model.proofs.TimedLaws.{ascending-in_order}
use Rattle.fw_model.proofs.TimedCounts.{in_order-weigh, sender_bag, sender_sent, sent-as_denoted}
use Rattle.fw_model.specs.Measure.{Measure}
use Rattle.fw_model.proofs.StampMeasures.{IsEarlier, earlier-unlooped}
use Rattle.fw_model.proofs.ArrivalLaws.{deliveries, deliveries-weigh, together-weigh, delivered_bag}
use Rattle.fw_model.proofs.InputLaws.{input-equal}
use Rattle.fw_model.proofs.NotifiedLaws.{none_came}
use Rattle.fw_model.proofs.SequencedLaws.{IsMember, each_member, filter-parts, Precedes, numbered-append, numbered-from, length-weigh, length-messages}
use Rattle.fw_model.proofs.DomainLaws.{inner_edge, sequence_edge, output-sent, output-outputs, edge-bounds, EdgeStamp, along, from_earlier, each_in_edge, denoted-in_domain, delivered-in_domain, has_epochs}
use Rattle.fw_model.specs.Sending.{SendsByStamp, SendsByCount}
use Rattle.fw_model.specs.Wholes.{AgreeWhere, takes_part_of}
use Rattle.fw_model.proofs.WholeLaws.{makes_lawfully, arrives, takes-sent}

-- what was sent on the edge at the stamp is what the family has there
abbrev pub IsDenotedAt : System → List Event → Family → (ℕ → Frontier) → EdgeStamp → Type 0
IsDenotedAt sys h family done x =
    phi sys h x.0 (done (sender sys.flow x.0)) x.1 ≡ true → (q : Rec) → weigh (one x.1 q) (timed_of (sent_messages sys h x.0)) ≡ weigh (one x.1 q) (family x.0)

-- what was delivered at a stamp inside is what was sent, and so what the family has
pub delivered-denoted : (sys : System) (h : List Event) (family : Family) → IsLegal sys h → (done : ℕ → Frontier) → IsAdmissible sys h done
    → (d : ℕ) (u : Stamp) → IsDenotedAt sys h family done (d, u) → done (receiver sys.flow d) u ≡ true
    → (q : Rec) → weigh (one u q) (timed_of (delivered_messages h d)) ≡ weigh (one u q) (family d)
delivered-denoted sys h family l done a d u k i q =
    quiet-delivered sys h l d u (a.quiet (receiver sys.flow d) u i d refl) q ∙ k (a.follows d u i) q

-- ---- a sequence

-- the whole bag that comes to a node
abbrev pub whole : System → Family → ℕ → List Timed
whole sys family p = joint_bag (map family (in_edges sys.flow p))

-- whether the node was notified of the stamp of a timed rec
abbrev pub is_numbered_in : List Event → ℕ → Timed → Bool
is_numbered_in h p r = was_notified p r.at h

-- A sequence numbered a first part of its whole bag in order: the recs at the stamps that it was notified of, below which
-- no stamp with recs was left out.
pub record IsSequenced (sys : System) (h : List Event) (family : Family) (p : ℕ) : Type 0 where
  pub sure : (s u : Stamp) (r : Rec) → was_notified p s h ≡ true → leq u s ≡ true → 0 < weigh (one u r) (whole sys family p) → was_notified p u h ≡ true
  pub sent : (w : Timed → ℕ) → weigh w (timed_of (sequence_sent (events_at sys.flow p h))) ≡ weigh w (numbered_recs 0 (filter (is_numbered_in h p) (in_order (whole sys family p))))

pub whole-in_domain : (sys : System) (family : Family) → IsWellFormedSystem sys → IsDenotation sys family → (p : ℕ) (u : Stamp) (r : Rec)
    → 0 < weigh (one u r) (whole sys family p) → in_domain (bounds_of sys.flow p) u ≡ true
whole-in_domain sys family w den p u r l = elim (cases_Bool (in_domain (bounds_of sys.flow p) u)) [
  | inl j ↦ j
  | inr j ↦
      let z = together-weigh (one u r) family (in_edges sys.flow p)
      ∙ weigh-none (λ d. weigh (one u r) (family d)) (in_edges sys.flow p)
      (each_in_edge sys.flow p (λ d. weigh (one u r) (family d) ≡ 0)
      (λ d at. denoted-in_domain sys family w den d u (edge-bounds sys.flow w.flow d u ∙ ap (λ n. in_domain (bounds_of sys.flow n) u) at ∙ j) r)) in
      absurd (omega arith)
]

pub ordered-member : (xs : List Timed) (r : Timed) → IsMember r (in_order xs) → 0 < weigh (one r.at r.rec) xs
ordered-member xs r l = let a = in_order-weigh (one r.at r.rec) xs in omega arith

-- ---- one stamp after another

lt_reverse : (o : Ordering) → is_lt o ≡ true → is_gt (ordering_reverse o) ≡ true
lt_reverse Less k = refl
lt_reverse Equal k = cc
lt_reverse Greater k = cc

-- a timed rec at a greater stamp comes after
pub comes_after : (r q : Timed) → leq r.at q.at ≡ true → leq q.at r.at ≡ false → is_gt (timed_cmp q r) ≡ true
comes_after r q l o =
    gt_then (stamp_cmp q.at r.at) _ (ap is_gt (nat_list_cmp_total.antisymm q.at r.at) ∙ lt_reverse (stamp_cmp r.at q.at) (before-from_leq r.at q.at l o))

-- epochs are comparable
pub epochs_compare : (sys : System) (p : ℕ) → SendsByCount (kind_of sys.flow p) → (s t : Stamp) → in_domain (bounds_of sys.flow p) s ≡ true
    → in_domain (bounds_of sys.flow p) t ≡ true → (leq s t ≡ true) ⊎ (leq t s ≡ true)
epochs_compare sys p is s t i j =
    let line : (u : Stamp) → in_domain (bounds_of sys.flow p) u ≡ true → leq u (greatest_number ∷ []) ≡ true =
    λ u d. sym (ap (λ b. in_domain b u) (bounds-sequence sys.flow p is)) ∙ d in
    either_way greatest_number s t (line s i) (line t j)

-- ---- the first part and the rest

-- whether the node was not notified of it
not_numbered : List Event → ℕ → Timed → Bool
not_numbered h p r = not (was_notified p r.at h)

numbered_first : (sys : System) (h : List Event) (family : Family) → IsWellFormedSystem sys → IsDenotation sys family → (p : ℕ) → SendsByCount (kind_of sys.flow p)
    → IsSequenced sys h family p → Precedes (is_numbered_in h p) (not_numbered h p) (in_order (whole sys family p))
unfolding not_numbered
numbered_first sys h family w den p is s r q i j k l =
    let xs = whole sys family p in
    let a = ordered-member xs r i in
    let b = ordered-member xs q j in
    let o : leq q.at r.at ≡ false = elim (cases_Bool (leq q.at r.at)) [
      | inl c ↦ absurd (two_ways (was_notified p q.at h) (s.sure r.at q.at q.rec k c b) (not-true (was_notified p q.at h) l))
      | inr c ↦ c
    ] in
    elim (epochs_compare sys p is r.at q.at (whole-in_domain sys family w den p r.at r.rec a) (whole-in_domain sys family w den p q.at q.rec b)) [
      | inl c ↦ comes_after r q c o
      | inr c ↦ absurd (two_ways (leq q.at r.at) c o)
    ]

either : (b : Bool) → (not b || b) ≡ true
either true = refl
either false = refl

numbered_parts : (sys : System) (h : List Event) (family : Family) → IsWellFormedSystem sys → IsDenotation sys family → (p : ℕ) → SendsByCount (kind_of sys.flow p)
    → IsSequenced sys h family p
    → let xs = in_order (whole sys family p) in xs ≡ filter (is_numbered_in h p) xs ++ filter (not_numbered h p) xs
unfolding not_numbered
numbered_parts sys h family w den p is s =
    let xs = in_order (whole sys family p) in
    sym (filter-all (λ r. not_numbered h p r || is_numbered_in h p r) xs (each_member (λ r. (not_numbered h p r || is_numbered_in h p r) ≡ true) xs (λ r i. either (was_notified p r.at h))))
    ∙ filter-parts (is_numbered_in h p) (not_numbered h p) xs (ascending-in_order (whole sys family p)) (numbered_first sys h family w den p is s)

sequence-sent_by : (sys : System) (h : List Event) → IsLegal sys h → (p : ℕ) → SendsByCount (kind_of sys.flow p)
    → sent_by sys p (events_at sys.flow p h) ≡ sequence_sent (events_at sys.flow p h)
sequence-sent_by sys h l p is =
    sent_by-sequence sys p is (events_at sys.flow p h) (no_inject sys.flow p h (only_inputs_inject sys h l p (ap is_input_kind is)))

-- the recs that a sequence has not numbered yet
rest_of : System → List Event → Family → ℕ → List Timed
rest_of sys h family p = filter (not_numbered h p) (in_order (whole sys family p))

-- what the sender of an edge, a sequence, sends in all: what it sent, and the rest at the numbers that follow
record SequenceParts (sys : System) (h : List Event) (family : Family) (e : ℕ) (w : Timed → ℕ) : Type 0 where
  pub next : ℕ
  pub rest : ℕ
  pub counted : next ≡ length (sender_sent sys h e)
  pub rested : rest ≡ weigh w (numbered_recs next (rest_of sys h family (sender sys.flow e)))
  pub parts : weigh w (sender_bag sys family e) ≡ weigh w (timed_of (sender_sent sys h e)) + rest

sequence-parts : (sys : System) (h : List Event) (family : Family) → IsWellFormedSystem sys → IsLegal sys h → IsDenotation sys family
    → (e : ℕ) → SendsByCount (kind_of sys.flow (sender sys.flow e)) → IsSequenced sys h family (sender sys.flow e) → (w : Timed → ℕ) → SequenceParts sys h family e w
unfolding rest_of not_numbered
sequence-parts sys h family w l den e is s f =
    let flow = sys.flow in
    let p = sender flow e in
    let xs = in_order (whole sys family p) in
    let first = filter (is_numbered_in h p) xs in
    let rest = filter (not_numbered h p) xs in
    let n = length (numbered_recs 0 first) in
    let z : 0 + n ≡ n = omega arith in
    let as_sent = sequence-sent_by sys h l p is in
    let a = ap (λ k. weigh f (outputs_of_kind flow k (batches_of sys p) (map family (in_edges flow p)))) is
    ∙ ap (λ ys. weigh f (numbered_recs 0 ys)) (numbered_parts sys h family w den p is s)
    ∙ ap (weigh f) (numbered-append 0 first rest)
    ∙ weigh-append f (numbered_recs 0 first) (numbered_recs (0 + n) rest) in
    let b = ap (λ k. weigh f (numbered_recs k rest)) z in
    let c = ap (λ ms. weigh f (timed_of ms)) as_sent ∙ s.sent f in
    let counted : n ≡ length (sent_by sys p (events_at flow p h)) =
    sym (length-weigh (numbered_recs 0 first)) ∙ sym (s.sent (λ r. 1)) ∙ length-messages (sequence_sent (events_at flow p h)) ∙ sym (ap (λ ms. length ms) as_sent) in
    record { next = n; rest = weigh f (numbered_recs n rest); counted = counted; rested = refl; parts = omega arith }

-- what a sequence sent is a part of what it sends in all
pub sequence-fewer : (sys : System) (h : List Event) (family : Family) → IsWellFormedSystem sys → IsLegal sys h → IsDenotation sys family
    → (e : ℕ) → SendsByCount (kind_of sys.flow (sender sys.flow e)) → IsSequenced sys h family (sender sys.flow e) → (w : Timed → ℕ)
    → weigh w (timed_of (sender_sent sys h e)) ≤ weigh w (sender_bag sys family e)
sequence-fewer sys h family w l den e is s f = let a = (sequence-parts sys h family w l den e is s f).parts in omega arith

-- what was delivered to a node, and its whole bag
pub came_as_denoted : (sys : System) (h : List Event) (family : Family) (p : ℕ) → p < length sys.flow.nodes → (u : Stamp)
    → ((d : ℕ) → receiver sys.flow d ≡ p → (q : Rec) → weigh (one u q) (timed_of (delivered_messages h d)) ≡ weigh (one u q) (family d))
    → (q : Rec) → weigh (one u q) (deliveries (events_at sys.flow p h)) ≡ weigh (one u q) (whole sys family p)
came_as_denoted sys h family p l u k q =
    let flow = sys.flow in
    deliveries-weigh flow p l (one u q) h
    ∙ weigh-same (λ d. weigh (one u q) (timed_of (delivered_messages h d))) (λ d. weigh (one u q) (family d)) (in_edges flow p)
    (each_in_edge flow p (λ d. weigh (one u q) (timed_of (delivered_messages h d)) ≡ weigh (one u q) (family d)) (λ d at. k d at q))
    ∙ sym (together-weigh (one u q) family (in_edges flow p))

-- a node that is owed nothing at a stamp where a rec came was notified
pub paid-notified : (sys : System) (h : List Event) (p : ℕ) (u : Stamp) (q : Rec) → is_notified_kind (kind_of sys.flow p) ≡ true
    → is_owed_notice sys h p u ≡ false → 0 < weigh (one u q) (deliveries (events_at sys.flow p h)) → was_notified p u h ≡ true
paid-notified sys h p u q n o l = elim (cases_Bool (was_delivered_to sys.flow p u h)) [
  | inl i ↦ cases (is_notified_kind (kind_of sys.flow p)) (was_delivered_to sys.flow p u h) (was_notified p u h) n i o
  | inr i ↦ let z = none_came sys.flow p u h i q in absurd (omega arith)
]
  where
    cases : (a b c : Bool) → a ≡ true → b ≡ true → (a && b && not c) ≡ false → c ≡ true
    cases true true true i j k = refl
    cases true true false i j k = cc
    cases true false c i j k = cc
    cases false b c i j k = cc

-- inside phi a sequence sent what it sends in all
sequence-step : (sys : System) (h : List Event) (family : Family) → IsWellFormedSystem sys → IsLegal sys h → IsDenotation sys family
    → (done : ℕ → Frontier) → IsAdmissible sys h done → (e : ℕ) → SendsByCount (kind_of sys.flow (sender sys.flow e)) → IsSequenced sys h family (sender sys.flow e)
    → ((d : ℕ) (u : Stamp) → receiver sys.flow d ≡ sender sys.flow e → IsDenotedAt sys h family done (d, u))
    → (t : Stamp) → phi sys h e (done (sender sys.flow e)) t ≡ true
    → (q : Rec) → weigh (one t q) (timed_of (sender_sent sys h e)) ≡ weigh (one t q) (sender_bag sys family e)
unfolding rest_of not_numbered weigh
sequence-step sys h family w l den done a e is s ih t i q =
    let flow = sys.flow in
    let p = sender flow e in
    let b = sequence-parts sys h family w l den e is s (one t q) in
    let bp = b.parts in
    let br = b.rested in
    let bc = b.counted in
    elim (phi-sequence sys h e (done p) t is i) [
      | inr c ↦
          let fewer = count-le_length (done p) (sent_by sys p (events_at flow p h)) in
          let z = numbered-from b.next (rest_of sys h family p) t q (omega arith) in
          omega arith
      | inl c ↦
          let xs = in_order (whole sys family p) in
          let fr = a.frontier p in
          let none : rest_of sys h family p ≡ [] = filter-none (not_numbered h p) xs (each_member (λ r. not_numbered h p r ≡ false) xs (λ r m.
          let there = ordered-member (whole sys family p) r m in
          let d = whole-in_domain sys family w den p r.at r.rec there in
          let inside = fr.closed r.at (greatest_number ∷ []) d (sym (ap (λ z. in_domain z r.at) (bounds-sequence flow p is)) ∙ d) c in
          let came = came_as_denoted sys h family p (w.flow.senders_declared e (sequence_edge flow e is)) r.at
          (λ k at x. delivered-denoted sys h family l done a k r.at (ih k r.at at) (ap (λ n. done n r.at) at ∙ inside) x) r.rec in
          ap not (paid-notified sys h p r.at r.rec (ap is_notified_kind is) (a.paid p r.at inside) (omega arith)))) in
          let z : weigh (one t q) (numbered_recs b.next (rest_of sys h family p)) ≡ 0 = ap (λ ys. weigh (one t q) (numbered_recs b.next ys)) none in
          omega arith
    ]

-- ---- inside phi

input-phi : (sys : System) (h : List Event) (e : ℕ) (f : Frontier) (t : Stamp) → kind_of sys.flow (sender sys.flow e) ≡ Input → phi sys h e f t ≡ true → f t ≡ true
unfolding phi
input-phi sys h e f t is k =
    let q = sender sys.flow e in
    let count = sent_count sys h q f in
    let a = and_parts _ (phi_of_kind (greatest_of_kind sys.flow (kind_of sys.flow q)) (kind_of sys.flow q) count f t) k in
    sym (ap (λ kind. phi_of_kind (greatest_of_kind sys.flow kind) kind count f t) is) ∙ a.1

inner-sends_by_stamp : (sys : System) → IsWellFormed sys.flow → (e : ℕ) → is_inner (kind_of sys.flow (sender sys.flow e)) ≡ true
    → SendsByStamp sys.flow (kind_of sys.flow (sender sys.flow e))
inner-sends_by_stamp sys w e is = elim (sender_sorts sys.flow w e) [
  | inl (inl s) ↦ absurd (two_ways (is_inner (kind_of sys.flow (sender sys.flow e))) is (ap is_inner s))
  | inl (inr s) ↦ s
  | inr s ↦ absurd (two_ways (is_inner (kind_of sys.flow (sender sys.flow e))) is (ap is_inner s))
]

-- what was delivered on an in-edge of the sender is what the family has, at each stamp that sends at t or below
delivered-read : (sys : System) (h : List Event) (family : Family) → IsWellFormedSystem sys → IsLegal sys h → IsDenotation sys family
    → (done : ℕ → Frontier) → IsAdmissible sys h done → (e : ℕ) (t : Stamp) → SendsByStamp sys.flow (kind_of sys.flow (sender sys.flow e))
    → phi sys h e (done (sender sys.flow e)) t ≡ true
    → (d : ℕ) (u s : Stamp) → IsDenotedAt sys h family done (d, u) → receiver sys.flow d ≡ sender sys.flow e → send_stamp sys.flow (sender sys.flow e) u ≡ Some s → leq s t ≡ true
    → (q : Rec) → weigh (one u q) (timed_of (delivered_messages h d)) ≡ weigh (one u q) (family d)
delivered-read sys h family w l den done a e t by i d u s before at sends_at below q =
    let flow = sys.flow in
    let p = sender flow e in
    elim (cases_Bool (in_domain (bounds_of flow p) u)) [
      | inl j ↦
          let inside = (phi-by_stamp sys h e (done p) by (a.frontier p) t (phi-in_domain sys h e (done p) t i)).0 i u s j sends_at below in
          delivered-denoted sys h family l done a d u before (ap (λ n. done n u) at ∙ inside) q
      | inr j ↦
          let o = edge-bounds flow w.flow d u ∙ ap (λ n. in_domain (bounds_of flow n) u) at ∙ j in
          delivered-in_domain sys h w l d u o q ∙ sym (denoted-in_domain sys family w den d u o q)
    ]

-- phi of a node that waits for notifications, but for a sequence, is the frontier itself
notified-phi : (sys : System) (h : List Event) (e : ℕ) (f : Frontier) (t : Stamp) (kind : Kind) → kind_of sys.flow (sender sys.flow e) ≡ kind
    → is_notified_kind kind ≡ true → is_inner kind ≡ true → phi sys h e f t ≡ true → f t ≡ true
unfolding phi
notified-phi sys h e f t kind is n k i =
    let q = sender sys.flow e in
    let count = sent_count sys h q f in
    let a = and_parts _ (phi_of_kind (greatest_of_kind sys.flow (kind_of sys.flow q)) (kind_of sys.flow q) count f t) i in
    cases kind n k (sym (ap (λ z. phi_of_kind (greatest_of_kind sys.flow z) z count f t) is) ∙ a.1)
  where
    cases : (kind : Kind) → is_notified_kind kind ≡ true → is_inner kind ≡ true → phi_of_kind (greatest_of_kind sys.flow kind) kind (sent_count sys h (sender sys.flow e) f) f t ≡ true → f t ≡ true
    cases (Sum m) n k i = i
    cases Total n k i = i
    cases kind n k i = absurd (cc)

-- the sender of the edge is owed nothing at a stamp inside phi, where it is no sequence
inner-paid : (sys : System) (h : List Event) → (done : ℕ → Frontier) → IsAdmissible sys h done → (e : ℕ) (t : Stamp)
    → is_inner (kind_of sys.flow (sender sys.flow e)) ≡ true → phi sys h e (done (sender sys.flow e)) t ≡ true → is_owed_notice sys h (sender sys.flow e) t ≡ false
inner-paid sys h done a e t is i =
    let p = sender sys.flow e in
    elim (cases_Bool (is_notified_kind (kind_of sys.flow p))) [
      | inl n ↦ a.paid p t (notified-phi sys h e (done p) t (kind_of sys.flow p) refl n is i)
      | inr n ↦ ap (λ b. b && was_delivered_to sys.flow p t h && not (was_notified p t h)) n
    ]

sent-step : (sys : System) (h : List Event) (family : Family) → IsWellFormedSystem sys → IsLegal sys h → IsDenotation sys family
    → ((p : ℕ) → SendsByCount (kind_of sys.flow p) → IsSequenced sys h family p)
    → (done : ℕ → Frontier) → IsAdmissible sys h done
    → (r : Measure sys.flow) (e : ℕ) (t : Stamp) → ((d : ℕ) (u : Stamp) → IsEarlier sys.flow r (receiver sys.flow d) u (receiver sys.flow e) t → IsDenotedAt sys h family done (d, u))
    → IsDenotedAt sys h family done (e, t)
sent-step sys h family w l den seq done a r e t ih i q =
    let flow = sys.flow in
    let p = sender flow e in
    let kind = kind_of flow p in
    let batches = batches_of sys p in
    let ds = in_edges flow p in
    sent-as_denoted sys h family den e t q (elim (sort_of kind) [
      | inl is ↦
          input-equal sys p is h l t (a.source p (ap is_input_kind is) t (input-phi sys h e (done p) t is i)) q
          ∙ sym (ap (λ z. weigh (one t q) (outputs_of_kind flow z batches (map family ds))) is)
      | inr (inl is) ↦
          output-sent sys p is (one t q) (events_at flow p h) ∙ sym (output-outputs flow kind is (one t q) batches (map family ds))
      | inr (inr (inl is)) ↦
          let real = sequence_edge flow e is in
          let domain : domain_of flow (receiver flow e) ≡ Number = sym (edge_domains flow w.flow e) ∙ ap (λ k. out_domain_of_kind flow k) is in
          let unlooped : is_looped flow (receiver flow e) ≡ false = ap (λ d. is_loop d && is_loop (out_domain_of flow (receiver flow e))) domain in
          sequence-step sys h family w l den done a e is (seq p is)
          (λ d u at. ih d u (subst (λ n. IsEarlier flow r n u (receiver flow e) t) (sym at) (earlier-unlooped flow r e real unlooped u t))) t i q
      | inr (inr (inr is)) ↦
          let real = inner_edge flow e is in
          let by = inner-sends_by_stamp sys w.flow e is in
          arrives kind is sys h p t
          (record {
            well_formed = w.flow;
            epochs = has_epochs sys w;
            legal = l;
            declared = w.flow.senders_declared e real;
            is_kind = refl;
            paid = inner-paid sys h done a e t is i;
          }) batches q
          ∙ (makes_lawfully flow kind).agrees is batches t q (delivered_bag h) family ds (each_in_edge flow p (λ d. AgreeWhere (takes_part_of flow kind t) (delivered_bag h d) (family d))
          (λ d at u x j.
          let v = takes-sent flow kind is t u j in
          delivered-read sys h family w l den done a e t by i d u v.0
          (from_earlier flow w.flow r (IsDenotedAt sys h family done) e t real ih d u v.0 at v.1 v.2) at v.1 v.2 x))
    ])

pub sent-denoted : (sys : System) (h : List Event) (family : Family) → IsWellFormedSystem sys → IsLegal sys h → IsDenotation sys family
    → ((p : ℕ) → SendsByCount (kind_of sys.flow p) → IsSequenced sys h family p)
    → (done : ℕ → Frontier) → IsAdmissible sys h done → (e : ℕ) (t : Stamp) → IsDenotedAt sys h family done (e, t)
sent-denoted sys h family w l den seq done a e t = along sys.flow w.flow (IsDenotedAt sys h family done) (sent-step sys h family w l den seq done a) e t
