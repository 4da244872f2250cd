-- What the calls of progress keep.
use Rattle.std.proofs.Common.{◌↔◌, ◌≡◌, map, ℕ, Option, ◌<◌, Bool, true, false, nat_lt, List, [], ◌∷◌, length, get_or, refl, sym, ap, subst, ◌∙◌, inl, inr, arith, Result, Ok, Err}
use Rattle.std.specs.Prelude.{IfOk}
use Rattle.std.specs.Result.{is_err}
use Rattle.std.proofs.lemmas.Bool.{both_ways, cases_Bool, cases_eq, cases_lt, lt-ltb}
use Rattle.std.proofs.lemmas.List.{get_or_past, length-map}
use Rattle.std.proofs.lemmas.List.FromFn.{get_or-map-range_with_len, length-range_with_len}
use Rattle.fw_time.specs.Stamp.{Stamp, in_domain}
use Rattle.fw_bag.specs.declared.rec.Rec.{Rec}
use Rattle.fw_frontier.specs.Front.{Front, IsCanonical}
use Rattle.fw_flow.specs.declared.event.Event.{Event}
use Rattle.fw_flow.specs.declared.event.Event.TheVariants.{Inject, Deliver, Notify}
use Rattle.fw_flow.specs.declared.event.Message.{Message}
use Rattle.fw_flow.specs.Dataflow.{System, Dataflow, kind_of, receiver, bounds_of, node_ids, is_notified_kind, HasEpochs}
use Rattle.fw_flow.specs.NodeFunction.{event_node}
use Rattle.fw_flow.specs.WellFormed.{IsWellFormed}
use Rattle.fw_model.specs.History.{IsComplete, IsLegal, IsNotifiable}
use Rattle.fw_model.specs.Machine.{front_of, family_of, no_stamps, AreCanonical}
use Rattle.fw_progress.specs.declared.counts.Counts.{Counts}
use Rattle.fw_progress.specs.declared.growth.Growth.{Growth}
use Rattle.fw_progress.specs.Counts.{owed_of, AreCounts, AreNodes, AreStuckOutside}
use Rattle.fw_progress.specs.Growths.{IsEnlisted}
use Rattle.fw_progress.specs.Refresh.{IsRefreshed}
use Rattle.fw_progress.specs.History.{IsCountOf, AreKeptAdmissible, StandsForHistory, FollowsEvent}
use Rattle.fw_progress.specs.Progress.{Standing, IsOfFlow, CanSend, DeliversOne, IsNotified, IsInjected, stamps_of_recs}
use Rattle.fw_progress.specs.Tally.{IsTallyOf}
use Rattle.fw_progress.specs.Notices.{CanNotify, IsFirstNotice, IsFirstOwed}
use Rattle.fw_progress.specs.Start.{AreLargest}
use Rattle.fw_progress.proofs.NoticeLaws.{first_notice-is, can_notify-is}
use Rattle.fw_progress.proofs.StartLaws.{names-no_stamps}
use Rattle.fw_progress.proofs.FollowLaws.{delivered-counts, notified-counts, injected-counts, kept-event}
use Rattle.fw_progress.proofs.HistoryLaws.{kept-by, by-kept, kept-complete}

-- ---- the counts stay those of the flow

counts-delivered : (flow : Dataflow) (e : ℕ) (at : Stamp) (sent : List (Stamp × Rec)) (old new : Counts) → AreCounts flow old → e < length flow.edges → in_domain (bounds_of flow (receiver flow e)) at ≡ true
    → CanSend flow (receiver flow e) (stamps_of_recs sent) → DeliversOne flow e at sent old new → AreCounts flow new
counts-delivered flow e at sent old new a l i can d = record {
  pending_each = d.sends.one_each ∙ d.taken.one_each ∙ a.pending_each;
  owed_each = elim (cases_Bool (is_notified_kind (kind_of flow (receiver flow e)))) [ inl k ↦ (d.owes k).one_each ∙ a.owed_each | inr k ↦ ap length (d.owes_none k) ∙ a.owed_each ];
  batches_each = ap length d.batches ∙ a.batches_each;
  injected_each = ap length d.injected ∙ a.injected_each;
  sent_each = ap length d.counted ∙ a.sent_each;
  pending = d.sends.domain can (λ x m. elim (cases_eq x e) [
    | inl k ↦ subst (λ y. IsTallyOf (bounds_of flow (receiver flow y)) (get_or d.between y [])) (sym k) (d.taken.here.domain (bounds_of flow (receiver flow e)) (a.pending e l))
    | inr n ↦ subst (IsTallyOf (bounds_of flow (receiver flow x))) (sym (d.taken.others x n)) (a.pending x m)
  ]);
  owed = λ p m. elim (cases_Bool (is_notified_kind (kind_of flow (receiver flow e)))) [
    | inr k ↦ subst (IsTallyOf (bounds_of flow p)) (sym (ap (λ xs. get_or xs p []) (d.owes_none k))) (a.owed p m)
    | inl k ↦ elim (cases_eq p (receiver flow e)) [
      | inl j ↦
          subst (λ q. IsTallyOf (bounds_of flow q) (owed_of new q)) (sym j)
          ((d.owes k).here.domain (bounds_of flow (receiver flow e)) (a.owed (receiver flow e) (subst (λ q. q < length flow.nodes) j m)) i)
      | inr n ↦ subst (IsTallyOf (bounds_of flow p)) (sym ((d.owes k).others p n)) (a.owed p m)
    ]
  ];
}

counts-notified : (flow : Dataflow) (p : ℕ) (at : Stamp) (sent : List (Stamp × Rec)) (old new : Counts) → AreCounts flow old → CanSend flow p (stamps_of_recs sent) → IsNotified flow p at sent old new → AreCounts flow new
counts-notified flow p at sent old new a can d = record {
  pending_each = d.sends.one_each ∙ a.pending_each;
  owed_each = d.paid.one_each ∙ a.owed_each;
  batches_each = ap length d.batches ∙ a.batches_each;
  injected_each = ap length d.injected ∙ a.injected_each;
  sent_each = d.tables ∙ a.sent_each;
  pending = d.sends.domain can a.pending;
  owed = λ q m. elim (cases_eq q p) [
    | inl j ↦ subst (λ r. IsTallyOf (bounds_of flow r) (owed_of new r)) (sym j) (d.paid.here.domain (bounds_of flow p) (a.owed p (subst (λ r. r < length flow.nodes) j m)))
    | inr n ↦ subst (IsTallyOf (bounds_of flow q)) (sym (d.paid.others q n)) (a.owed q m)
  ];
}

counts-injected : (flow : Dataflow) (p : ℕ) (sent : List (Stamp × Rec)) (old new : Counts) → AreCounts flow old → CanSend flow p (stamps_of_recs sent) → IsInjected flow p sent old new → AreCounts flow new
counts-injected flow p sent old new a can d = record {
  pending_each = d.sends.one_each ∙ a.pending_each;
  owed_each = ap length d.owed ∙ a.owed_each;
  batches_each = ap length d.batches ∙ a.batches_each;
  injected_each = d.next.one_each ∙ a.injected_each;
  sent_each = ap length d.counted ∙ a.sent_each;
  pending = d.sends.domain can a.pending;
  owed = λ q m. subst (IsTallyOf (bounds_of flow q)) (sym (ap (λ xs. get_or xs q []) d.owed)) (a.owed q m);
}

-- a node that is put among those of the flow leaves them of the flow
nodes-put : (flow : Dataflow) (p : ℕ) (old new : List ℕ) → p < length flow.nodes → IsEnlisted p old new → AreNodes flow old → AreNodes flow new
nodes-put flow p old new l put n = put.nodes (λ q. nat_lt q (length flow.nodes)) (lt-ltb p (length flow.nodes) l) n

of_flow : (flow : Dataflow) (p : ℕ) (old new : Standing) → IsOfFlow flow old → p < length flow.nodes → AreCounts flow new.counts → IsEnlisted p old.work new.work
    → new.settled ≡ old.settled → new.kept ≡ old.kept → IsOfFlow flow new
of_flow flow p old new o l a put s k = record {
  counts = a;
  settled_each = ap length s ∙ o.settled_each;
  settled = subst (AreCanonical flow) (sym s) o.settled;
  kept_each = ap length k ∙ o.kept_each;
  kept = subst (AreCanonical flow) (sym k) o.kept;
  nodes = nodes-put flow p old.work new.work l put o.nodes;
}

pub delivered_of : (flow : Dataflow) (e : ℕ) (at : Stamp) (sent : List (Stamp × Rec)) (old new : Standing) → IsWellFormed flow → IsOfFlow flow old → e < length flow.edges → in_domain (bounds_of flow (receiver flow e)) at ≡ true
    → CanSend flow (receiver flow e) (stamps_of_recs sent) → DeliversOne flow e at sent old.counts new.counts → IsEnlisted (receiver flow e) old.work new.work
    → new.settled ≡ old.settled → new.kept ≡ old.kept → IsOfFlow flow new
delivered_of flow e at sent old new w o l i can d put s k =
    of_flow flow (receiver flow e) old new o (w.receivers_declared e l) (counts-delivered flow e at sent old.counts new.counts o.counts l i can d) put s k

pub notified_of : (flow : Dataflow) (p : ℕ) (at : Stamp) (sent : List (Stamp × Rec)) (old new : Standing) → IsOfFlow flow old → p < length flow.nodes → CanSend flow p (stamps_of_recs sent)
    → IsNotified flow p at sent old.counts new.counts → IsEnlisted p old.work new.work
    → new.settled ≡ old.settled → new.kept ≡ old.kept → IsOfFlow flow new
notified_of flow p at sent old new o l can d put s k = of_flow flow p old new o l (counts-notified flow p at sent old.counts new.counts o.counts can d) put s k

pub injected_of : (flow : Dataflow) (p : ℕ) (sent : List (Stamp × Rec)) (old new : Standing) → IsOfFlow flow old → p < length flow.nodes → CanSend flow p (stamps_of_recs sent)
    → IsInjected flow p sent old.counts new.counts → IsEnlisted p old.work new.work → new.settled ≡ old.settled → new.kept ≡ old.kept → IsOfFlow flow new
injected_of flow p sent old new o l can d put s k = of_flow flow p old new o l (counts-injected flow p sent old.counts new.counts o.counts can d) put s k

-- ---- progress follows an event

kept-on : (sys : System) (h : List Event) (v : Event) (flow : Dataflow) (old new : Standing) → sys.flow ≡ flow → IsWellFormed flow → HasEpochs sys → IsLegal sys (v ∷ h)
    → IsEnlisted (event_node flow v) old.work new.work → new.kept ≡ old.kept → AreKeptAdmissible sys h old.kept old.work → AreKeptAdmissible sys (v ∷ h) new.kept new.work
kept-on sys h v flow old new e w b l put k s =
    subst (λ fronts. AreKeptAdmissible sys (v ∷ h) fronts new.work) (sym k)
    (kept-event sys h v (subst IsWellFormed (sym e) w) b l old.kept old.work new.work (subst (λ f. IsEnlisted (event_node f v) old.work new.work) (sym e) put) s)

pub delivered_follows : (flow : Dataflow) (e : ℕ) (m : Message) (at : Stamp) (sent : List (Stamp × Rec)) (old new : Standing) → IsWellFormed flow → m.at ≡ at → DeliversOne flow e at sent old.counts new.counts
    → IsEnlisted (receiver flow e) old.work new.work → new.kept ≡ old.kept → FollowsEvent flow (Deliver e m) sent old new
delivered_follows flow e m at sent old new w i d put k sys h same b l is s = record {
  counts = delivered-counts sys h e m sent old.counts new.counts (subst IsWellFormed (sym same) w) b l is s.counts
      (subst (λ f. DeliversOne f e m.at sent old.counts new.counts) (sym same) (subst (λ t. DeliversOne flow e t sent old.counts new.counts) (sym i) d));
  kept = kept-on sys h (Deliver e m) flow old new same w b l put k s.kept;
}

pub notified_follows : (flow : Dataflow) (p : ℕ) (at : Stamp) (sent : List (Stamp × Rec)) (old new : Standing) → IsWellFormed flow → p < length flow.nodes → IsNotified flow p at sent old.counts new.counts
    → IsEnlisted p old.work new.work → new.kept ≡ old.kept → FollowsEvent flow (Notify p at) sent old new
notified_follows flow p at sent old new w there d put k sys h same b l is s = record {
  counts = notified-counts sys h p at sent old.counts new.counts (subst IsWellFormed (sym same) w) b l (subst (λ f. p < length f.nodes) (sym same) there) is s.counts
      (subst (λ f. IsNotified f p at sent old.counts new.counts) (sym same) d);
  kept = kept-on sys h (Notify p at) flow old new same w b l put k s.kept;
}

pub injected_follows : (flow : Dataflow) (p x : ℕ) (sent : List (Stamp × Rec)) (old new : Standing) → IsWellFormed flow → IsInjected flow p sent old.counts new.counts
    → IsEnlisted p old.work new.work → new.kept ≡ old.kept → FollowsEvent flow (Inject p x) sent old new
injected_follows flow p x sent old new w d put k sys h same b l is s = record {
  counts = injected-counts sys h p x sent old.counts new.counts b l is s.counts (subst (λ f. IsInjected f p sent old.counts new.counts) (sym same) d);
  kept = kept-on sys h (Inject p x) flow old new same w b l put k s.kept;
}

-- ---- after a refresh

pub refreshed_of : (flow : Dataflow) (old new : Standing) (growths : List Growth) (before after : ℕ) → IsOfFlow flow old → new.counts ≡ old.counts → new.settled ≡ old.settled
    → IsRefreshed flow old.counts old.kept new.kept old.work new.work growths before after → IsOfFlow flow new
refreshed_of flow old new growths before after o c s r = record {
  counts = subst (AreCounts flow) (sym c) o.counts;
  settled_each = ap length s ∙ o.settled_each;
  settled = subst (AreCanonical flow) (sym s) o.settled;
  kept_each = r.one_each;
  kept = r.canonical;
  nodes = subst (AreNodes flow) (sym r.none_waits) refl;
}

pub refreshed_stands : (flow : Dataflow) (old new : Standing) (growths : List Growth) (before after : ℕ) → IsWellFormed flow → IsOfFlow flow old → new.counts ≡ old.counts
    → IsRefreshed flow old.counts old.kept new.kept old.work new.work growths before after
    → (sys : System) (h : List Event) → sys.flow ≡ flow → StandsForHistory sys h old → StandsForHistory sys h new × IsComplete sys h (family_of flow new.kept)
refreshed_stands flow old new growths before after w o c r sys h same s =
    let W : Dataflow → Type 0 = λ f. IsWellFormed f in
    let wf = subst W (sym same) w in
    let a = subst (λ f. AreCounts f old.counts) (sym same) o.counts in
    let q = subst (λ f. IsRefreshed f old.counts old.kept new.kept old.work new.work growths before after) (sym same) r in
    let by = kept-by sys h old.counts wf a s.counts old.kept old.work s.kept in
    let stuck = subst (λ ps. AreStuckOutside sys.flow old.counts new.kept ps) (sym q.none_waits) (q.stuck by.0 by.1) in
    let kept = by-kept sys h old.counts wf a s.counts new.kept new.work q.one_each (q.admissible by.0) stuck in (
      record { counts = subst (IsCountOf sys h) (sym c) s.counts; kept = kept },
      subst (λ f. IsComplete sys h (family_of f new.kept)) same (kept-complete sys h wf new.kept new.work q.one_each q.none_waits kept),
    )

-- ---- calls that may fail

pub ok-holds : {A E : Type 0} (r : Result A E) (b : Bool) (P : A → Type 0) (Q : Type 0) → b ≡ is_err r → b ≡ false → IfOk r P → ((x : A) → P x → Q) → Q
ok-holds (Ok x) b P Q e k h f = f x h
ok-holds (Err y) b P Q e k h f = absurd (both_ways b k e)

pub both-ok : {A E : Type 0} (r : Result A E) (P Q R : Type 0) → (P → Q → R) → IfOk r (λ u. P) → IfOk r (λ u. Q) → IfOk r (λ u. R)
both-ok (Ok x) P Q R f p q = f p q
both-ok (Err y) P Q R f p q = tt

-- ---- notifications

pub notify-read : (flow : Dataflow) (now : Standing) → IsWellFormed flow → IsOfFlow flow now → (sys : System) (h : List Event) → sys.flow ≡ flow → StandsForHistory sys h now → IsComplete sys h (family_of flow now.kept)
    → (p : ℕ) → p < length flow.nodes → (t : Stamp) → in_domain (bounds_of flow p) t ≡ true → IsNotifiable sys h p t ↔ CanNotify flow now.counts now.kept p t
notify-read flow now w o sys h same s c p l t d =
    let W : Dataflow → Type 0 = λ f. IsWellFormed f in
    let is = can_notify-is sys h now.counts now.kept (subst W (sym same) w) (subst (λ f. AreCounts f now.counts) (sym same) o.counts) s.counts
    (subst (λ f. IsComplete sys h (family_of f now.kept)) (sym same) c) p (subst (λ f. p < length f.nodes) (sym same) l) t (subst (λ f. in_domain (bounds_of f p) t ≡ true) (sym same) d) in
    subst (λ f. IsNotifiable sys h p t ↔ CanNotify f now.counts now.kept p t) same is

pub first-read : (flow : Dataflow) (now : Standing) → IsWellFormed flow → IsOfFlow flow now → (sys : System) (h : List Event) → sys.flow ≡ flow → StandsForHistory sys h now → IsComplete sys h (family_of flow now.kept)
    → (p : ℕ) → p < length flow.nodes → (first : Option Stamp) → IsFirstOwed flow now.counts now.kept p first → IsFirstNotice sys h p first
first-read flow now w o sys h same s c p l first is =
    first_notice-is sys h now.counts now.kept (subst IsWellFormed (sym same) w) (subst (λ f. AreCounts f now.counts) (sym same) o.counts) s.counts
    (subst (λ f. IsComplete sys h (family_of f now.kept)) (sym same) c) p (subst (λ f. p < length f.nodes) (sym same) l) first (subst (λ f. IsFirstOwed f now.counts now.kept p first) (sym same) is)

-- ---- at first

settled-first : (flow : Dataflow) (settled : List Front) → settled ≡ map (λ q. no_stamps (bounds_of flow q)) (node_ids flow) → (length settled ≡ length flow.nodes) × AreCanonical flow settled
settled-first flow settled e = (
  ap length e ∙ length-map (node_ids flow) (λ q. no_stamps (bounds_of flow q)) ∙ length-range_with_len 0 (length flow.nodes),
  λ p. elim (cases_lt p (length flow.nodes)) [
    | inl l ↦
        subst (IsCanonical (bounds_of flow p))
        (sym (ap (λ fs. front_of fs p) e ∙ get_or-map-range_with_len (λ q. no_stamps (bounds_of flow q)) 0 (length flow.nodes) p p [] l (omega arith)))
        (names-no_stamps (bounds_of flow p)).canonical
    | inr l ↦
        let long = ap length e ∙ length-map (node_ids flow) (λ q. no_stamps (bounds_of flow q)) ∙ length-range_with_len 0 (length flow.nodes) in
        subst (IsCanonical (bounds_of flow p)) (sym (get_or_past settled p [] (omega (arith, l, long)))) tt
  ],
)

pub new_of : (flow : Dataflow) (now : Standing) → AreCounts flow now.counts → now.settled ≡ map (λ q. no_stamps (bounds_of flow q)) (node_ids flow) → AreLargest flow now.counts now.kept → now.work ≡ []
    → IsOfFlow flow now
new_of flow now a e g w =
    let s = settled-first flow now.settled e in
    record { counts = a; settled_each = s.0; settled = s.1; kept_each = g.one_each; kept = g.canonical; nodes = subst (AreNodes flow) (sym w) refl }
