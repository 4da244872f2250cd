-- In a legal history a sequence sent a first part of what it sends in all, and what comes where all has come is the denotation.
use Rattle.std.proofs.Common.{◌≡◌, ℕ, ◌+◌, ◌<◌, Bool, true, false, cond, not, ◌&&◌, ◌||◌, ◌==◌, List, [], ◌∷◌, length, map, refl, sym, ap, subst, ◌∙◌, inl, inr, arith}
use Rattle.std.specs.Prelude.{filter}
use Rattle.std.proofs.Math.Nat.{add_comm}
use Rattle.std.proofs.lemmas.Bool.{and_parts, and_from, or_cases, or_left, or_right, cond_both, cases_Bool, cases_lt, eqb-true, eq-eqb}
use Rattle.std.proofs.lemmas.List.{get_or_past}
use Rattle.fw_lemmas.proofs.Bools.{two_ways}
use Rattle.fw_lemmas.proofs.Filters.{filter-none}
use Rattle.fw_time.specs.Stamp.{Stamp, leq, same}
use Rattle.fw_time.proofs.StampLaws.{leq-refl}
use Rattle.fw_bag.specs.declared.rec.Rec.{Rec}
use Rattle.fw_frontier.specs.Frontier.{Frontier}
use Rattle.fw_flow.specs.declared.event.Event.{Event}
use Rattle.fw_flow.specs.declared.event.Event.TheVariants.{Inject, Deliver, Notify}
use Rattle.fw_flow.specs.declared.kind.Kind.TheVariants.{OutputEpoch}
use Rattle.fw_flow.specs.Dataflow.{System, Dataflow, idle_node, kind_of, sender, receiver, is_notified_kind}
use Rattle.fw_flow.specs.NodeFunction.{sequence_sent, numbered_messages}
use Rattle.fw_flow.specs.Projection.{events_at}
use Rattle.fw_flow.specs.WellFormed.{IsWellFormedSystem}
use Rattle.fw_flow.specs.WholeBags.{Timed, in_order, numbered_recs}
use Rattle.fw_model.proofs.LesserLaws.{lesser-on_edge}
use Rattle.fw_model.specs.Denotation.{Family, IsDenotation, bag_at}
use Rattle.fw_model.specs.History.{was_notified, sent_messages, delivered_messages, IsAdmissible, IsEnabled, IsNotifiable, IsLegal, IsClosedFor, recs_at}
use Rattle.fw_model.specs.LawsOfDeliveries.{SentInsidePhiIsDenoted, DeliveredInsideCompleteIsDenoted, DeliveredUpToClosedIsDenoted}
use Rattle.fw_model.specs.Sending.{SendsByCount, recs_by_count}
use Rattle.fw_model.proofs.FrontierLaws.{phi-frontier}
use Rattle.fw_model.proofs.LegalLaws.{enabled-in_domain, legal-in_domain}
use Rattle.fw_model.proofs.WeightLaws.{weigh, weigh-append, how_often-where, one}
use Rattle.fw_model.proofs.SentLaws.{timed_of, quiet-delivered}
use Rattle.fw_model.proofs.TimedLaws.{ascending-in_order}
use Rattle.fw_model.proofs.TimedCounts.{bag-ascending, how_often-recs_at, sorted-is}
use Rattle.fw_model.proofs.ArrivalLaws.{deliveries}
use Rattle.fw_model.proofs.InputLaws.{timed_of-append}
use Rattle.fw_model.proofs.ClosedLaws.{settled-outside}
use Rattle.fw_model.proofs.NotifiedLaws.{notified-settled}
use Rattle.fw_model.proofs.SequencedLaws.{each_member, filter-same, filter-parts, Precedes, numbered-append, numbered-messages, length-weigh, length-messages, block-is}
use Rattle.fw_model.proofs.DomainLaws.{has_epochs}
use Rattle.fw_model.proofs.DenotedLaws.{IsDenotedAt, IsSequenced, whole, is_numbered_in, whole-in_domain, ordered-member, comes_after, epochs_compare, came_as_denoted, paid-notified, delivered-denoted, sent-denoted}
use Rattle.fw_model.proofs.StampLaws.{same-is}

-- inside phi of each admissible family what was sent is what the family has
abbrev pub AllDenoted : System → List Event → Family → Type 0
AllDenoted sys h family = (done : ℕ → Frontier) → IsAdmissible sys h done → (e : ℕ) (t : Stamp) → IsDenotedAt sys h family done (e, t)

-- up to a closed stamp what was delivered is what the family has
pub closed-denoted : (sys : System) (h : List Event) (family : Family) → IsLegal sys h → AllDenoted sys h family → (p : ℕ) (t : Stamp) → IsClosedFor sys h p t
    → (u : Stamp) → leq u t ≡ true → (d : ℕ) → receiver sys.flow d ≡ p → (q : Rec) → weigh (one u q) (timed_of (delivered_messages h d)) ≡ weigh (one u q) (family d)
closed-denoted sys h family l all p t c u below d at q =
    let done = c.complete.0 in
    let a = c.complete.1 in
    let n = sender sys.flow d in
    let top = c.complete.2 d at in
    let fr = phi-frontier sys h d (done n) (a.frontier n) in
    let inside = fr.closed u t (lesser-on_edge sys.flow d u t below (fr.inside_domain t top)) below top in
    quiet-delivered sys h l d u (c.quiet u below d at) q ∙ all done a d u inside q

-- a sequence is a node of the dataflow
sequence_node : (flow : Dataflow) (p : ℕ) → SendsByCount (kind_of flow p) → p < length flow.nodes
unfolding kind_of
sequence_node flow p is = elim (cases_lt p (length flow.nodes)) [
  | inl l ↦ l
  | inr l ↦ let idle : OutputEpoch ≡ kind_of flow p = sym (ap (λ n. n.kind) (get_or_past flow.nodes p idle_node l)) in let k = idle ∙ is in absurd (cc k)
]

-- ---- a notification of a sequence

-- what is known where a sequence may be notified
record Notifying (sys : System) (h : List Event) (family : Family) (p : ℕ) (t : Stamp) : Type 0 where
  pub well_formed : IsWellFormedSystem sys
  pub legal : IsLegal sys h
  pub denotation : IsDenotation sys family
  pub sequence : SendsByCount (kind_of sys.flow p)
  pub before : IsSequenced sys h family p
  pub all : AllDenoted sys h family
  pub enabled : IsNotifiable sys h p t

came_up_to : (sys : System) (h : List Event) (family : Family) (p : ℕ) (t : Stamp) → Notifying sys h family p t → (u : Stamp) → leq u t ≡ true
    → (q : Rec) → weigh (one u q) (deliveries (events_at sys.flow p h)) ≡ weigh (one u q) (whole sys family p)
came_up_to sys h family p t n u below q =
    let closed : IsClosedFor sys h p t = record { quiet = n.enabled.quiet; complete = n.enabled.complete } in
    came_as_denoted sys h family p (sequence_node sys.flow p n.sequence) u (closed-denoted sys h family n.legal n.all p t closed u below) q

sure-now : (sys : System) (h : List Event) (family : Family) (p : ℕ) (t : Stamp) → Notifying sys h family p t
    → (s u : Stamp) (r : Rec) → was_notified p s (Notify p t ∷ h) ≡ true → leq u s ≡ true → 0 < weigh (one u r) (whole sys family p) → was_notified p u (Notify p t ∷ h) ≡ true
sure-now sys h family p t n s u r k l m = elim (or_cases (p == p && same t s) (was_notified p s h) k) [
  | inr i ↦ or_right (p == p && same t u) (was_notified p u h) (n.before.sure s u r i l m)
  | inl i ↦
      let at = same-is t s (and_parts (p == p) (same t s) i).1 in
      let below : leq u t ≡ true = ap (leq u) at ∙ l in
      elim (cases_Bool (leq t u)) [
        | inl j ↦ or_left (p == p && same t u) (was_notified p u h) (and_from (p == p) (same t u) (eq-eqb p p refl) (and_from (leq t u) (leq u t) j below))
        | inr j ↦
            let came = came_up_to sys h family p t n u below r in
            let lesser_is = and_from (leq u t) (not (leq t u)) below (ap not j) in
            or_right (p == p && same t u) (was_notified p u h)
            (paid-notified sys h p u r (ap is_notified_kind n.sequence) (n.enabled.none_lesser u lesser_is) (omega arith))
      ]
]

-- what was numbered stands before what is numbered now
numbered_before : (sys : System) (h : List Event) (family : Family) (p : ℕ) (t : Stamp) → Notifying sys h family p t
    → Precedes (is_numbered_in h p) (λ r. p == p && same t r.at) (in_order (whole sys family p))
numbered_before sys h family p t n r q i j k l =
    let w = n.well_formed in
    let at : t ≡ q.at = same-is t q.at (and_parts (p == p) (same t q.at) l).1 in
    let d = whole-in_domain sys family w n.denotation p r.at r.rec (ordered-member (whole sys family p) r i) in
    let e = enabled-in_domain sys h w.flow (has_epochs sys w) (legal-in_domain sys h w.flow (has_epochs sys w) n.legal) (Notify p t) n.enabled in
    let settled = notified-settled sys h w.flow (has_epochs sys w) n.legal p r.at k in
    let out = settled-outside sys h p r.at (ap is_notified_kind n.sequence) settled (Notify p t) n.enabled in
    let o : leq t r.at ≡ false = elim (cases_Bool (leq t r.at)) [
      | inl c ↦ absurd (two_ways (p == p && leq t r.at) (and_from (p == p) (leq t r.at) (eq-eqb p p refl) c) out)
      | inr c ↦ c
    ] in
    elim (epochs_compare sys p n.sequence r.at t d e) [
      | inl c ↦ comes_after r q (sym (ap (leq r.at) at) ∙ c) (sym (ap (λ s. leq s r.at) at) ∙ o)
      | inr c ↦ absurd (two_ways (leq t r.at) c o)
    ]

sent-now : (sys : System) (h : List Event) (family : Family) (p : ℕ) (t : Stamp) → Notifying sys h family p t → (w : Timed → ℕ)
    → weigh w (timed_of (sequence_sent (Notify p t ∷ events_at sys.flow p h)))
    ≡ weigh w (numbered_recs 0 (filter (is_numbered_in (Notify p t ∷ h) p) (in_order (whole sys family p))))
sent-now sys h family p t n w =
    let vs = events_at sys.flow p h in
    let bag = whole sys family p in
    let xs = in_order bag in
    let now : Timed → Bool = λ r. p == p && same t r.at in
    let first = filter (is_numbered_in h p) xs in
    let block = filter now xs in
    let rs = recs_by_count vs t in
    let m = length (sequence_sent vs) in
    let counted : m ≡ length (numbered_recs 0 first) = sym (length-messages (sequence_sent vs)) ∙ n.before.sent (λ r. 1) ∙ length-weigh (numbered_recs 0 first) in
    let zero_more : 0 + length (numbered_recs 0 first) ≡ m = omega arith in
    let block_is : rs ≡ map (λ r. r.rec) block =
    block-is t vs bag (λ q. came_up_to sys h family p t n t (leq-refl t) q)
    ∙ ap (λ ys. map (λ (r : Timed). r.rec) ys) (filter-same (λ r. same t r.at) now xs (each_member (λ r. same t r.at ≡ now r) xs (λ r i. sym (ap (λ b. b && same t r.at) (eq-eqb p p refl))))) in
    ap (weigh w) (timed_of-append (numbered_messages m t rs) (sequence_sent vs))
    ∙ weigh-append w (timed_of (numbered_messages m t rs)) (timed_of (sequence_sent vs))
    ∙ ap (λ ys. weigh w ys + weigh w (timed_of (sequence_sent vs))) (numbered-messages m t rs block block_is)
    ∙ ap (λ k. weigh w (numbered_recs m block) + k) (n.before.sent w)
    ∙ add_comm (weigh w (numbered_recs m block)) (weigh w (numbered_recs 0 first))
    ∙ ap (λ k. weigh w (numbered_recs 0 first) + weigh w (numbered_recs k block)) (sym zero_more)
    ∙ sym (weigh-append w (numbered_recs 0 first) (numbered_recs (0 + length (numbered_recs 0 first)) block))
    ∙ sym (ap (weigh w) (numbered-append 0 first block))
    ∙ sym (ap (λ ys. weigh w (numbered_recs 0 ys)) (filter-parts (is_numbered_in h p) now xs (ascending-in_order bag) (numbered_before sys h family p t n)))

-- ---- each event

sequenced-step : (sys : System) (h : List Event) (family : Family) → IsWellFormedSystem sys → IsLegal sys h → IsDenotation sys family → AllDenoted sys h family
    → (p : ℕ) → SendsByCount (kind_of sys.flow p) → IsSequenced sys h family p → (v : Event) → IsEnabled sys h v → IsSequenced sys (v ∷ h) family p
sequenced-step sys h family w l den all p is s (Inject q x) k =
    let vs = events_at sys.flow p h in
    let xs = in_order (whole sys family p) in
    record {
      sure = s.sure;
      sent = λ f. cond_both (q == p) (Inject q x ∷ vs) vs (λ ws. weigh f (timed_of (sequence_sent ws)) ≡ weigh f (numbered_recs 0 (filter (is_numbered_in h p) xs))) (λ c. s.sent f) (λ c. s.sent f);
    }
sequenced-step sys h family w l den all p is s (Deliver e m) k =
    let vs = events_at sys.flow p h in
    let xs = in_order (whole sys family p) in
    record {
      sure = s.sure;
      sent = λ f. cond_both (receiver sys.flow e == p) (Deliver e m ∷ vs) vs (λ ws. weigh f (timed_of (sequence_sent ws)) ≡ weigh f (numbered_recs 0 (filter (is_numbered_in h p) xs))) (λ c. s.sent f) (λ c. s.sent f);
    }
sequenced-step sys h family w l den all p is s (Notify q t) k = elim (cases_Bool (q == p)) [
  | inl c ↦
      let at = eqb-true q p c in
      let here : IsNotifiable sys h p t = subst (λ n. IsNotifiable sys h n t) at k in
      let n : Notifying sys h family p t =
      record { well_formed = w; legal = l; denotation = den; sequence = is; before = s; all = all; enabled = here } in
      let vs = events_at sys.flow p h in
      subst (λ z. IsSequenced sys (Notify z t ∷ h) family p) (sym at) (record {
        sure = sure-now sys h family p t n;
        sent = λ f. ap (λ b. weigh f (timed_of (sequence_sent (cond b (Notify p t ∷ vs) vs)))) (eq-eqb p p refl) ∙ sent-now sys h family p t n f;
      })
  | inr c ↦
      let vs = events_at sys.flow p h in
      let xs = in_order (whole sys family p) in
      let same_notice : (u : Stamp) → was_notified p u (Notify q t ∷ h) ≡ was_notified p u h = λ u. ap (λ b. (b && same t u) || was_notified p u h) c in
      record {
        sure = λ z u r i j m. same_notice u ∙ s.sure z u r (sym (same_notice z) ∙ i) j m;
        sent = λ f.
            ap (λ b. weigh f (timed_of (sequence_sent (cond b (Notify q t ∷ vs) vs)))) c
            ∙ s.sent f
            ∙ sym (ap (λ ys. weigh f (numbered_recs 0 ys)) (filter-same (is_numbered_in (Notify q t ∷ h) p) (is_numbered_in h p) xs
            (each_member (λ r. is_numbered_in (Notify q t ∷ h) p r ≡ is_numbered_in h p r) xs (λ r i. same_notice r.at))));
      }
]

-- in a legal history each sequence sent a first part of what it sends in all
pub sequenced : (sys : System) (h : List Event) (family : Family) → IsWellFormedSystem sys → IsLegal sys h → IsDenotation sys family
    → (p : ℕ) → SendsByCount (kind_of sys.flow p) → IsSequenced sys h family p
unfolding weigh
sequenced sys [] family w l den p is =
    let xs = in_order (whole sys family p) in
    record {
      sure = λ s u r i j m. absurd (two_ways false i refl);
      sent = λ f. sym (ap (λ ys. weigh f (numbered_recs 0 ys)) (filter-none (λ r. false) xs (each_member (λ r. false ≡ false) xs (λ r i. refl))));
    }
sequenced sys (v ∷ h) family w l den p is =
    sequenced-step sys h family w l.1 den (sent-denoted sys h family w l.1 den (sequenced sys h family w l.1 den)) p is (sequenced sys h family w l.1 den p is) v l.0

-- ---- the laws

pub all_denoted : (sys : System) (h : List Event) (family : Family) → IsWellFormedSystem sys → IsLegal sys h → IsDenotation sys family → AllDenoted sys h family
all_denoted sys h family w l den = sent-denoted sys h family w l den (sequenced sys h family w l den)

pub sent-is_denoted : SentInsidePhiIsDenoted
sent-is_denoted sys h family w l den done a e t i =
    sorted-is (recs_at t (sent_messages sys h e)) (bag_at family e t) (bag-ascending sys family den e t)
    (λ q. how_often-recs_at t q (sent_messages sys h e) ∙ all_denoted sys h family w l den done a e t i q ∙ sym (how_often-where t q (family e)))

pub delivered-is_denoted : DeliveredInsideCompleteIsDenoted
delivered-is_denoted sys h family w l den done a e t i =
    sorted-is (recs_at t (delivered_messages h e)) (bag_at family e t) (bag-ascending sys family den e t)
    (λ q. how_often-recs_at t q (delivered_messages h e)
    ∙ delivered-denoted sys h family l done a e t (all_denoted sys h family w l den done a e t) i q
    ∙ sym (how_often-where t q (family e)))

pub closed-is_denoted : DeliveredUpToClosedIsDenoted
closed-is_denoted sys h family w l den p t c e r s below =
    sorted-is (recs_at s (delivered_messages h e)) (bag_at family e s) (bag-ascending sys family den e s)
    (λ q. how_often-recs_at s q (delivered_messages h e)
    ∙ closed-denoted sys h family l (all_denoted sys h family w l den) p t c s below e r q
    ∙ sym (how_often-where s q (family e)))
