-- What holds along a run with recoveries.
use Rattle.std.proofs.Common.{◌≡◌, ℕ, ◌+◌, ◌<◌, ◌≤◌, Bool, true, false, cond, not, ◌&&◌, ◌||◌, ◌==◌, List, [], ◌∷◌, ◌++◌, length, filter, map, Some, None, refl, sym, ap, subst, ◌∙◌, inl, inr, arith}
use Rattle.std.specs.List.{AllByRecursion}
use Rattle.std.specs.Ordering.{is_eq}
use Rattle.std.proofs.lemmas.Bool.{and_parts, and_from, or_cases, or_from, cond_both, cond-true, cond-false, cases_Bool, cases_lt, eqb-true, eq-eqb, or_left, false_from_ne_true}
use Rattle.std.proofs.lemmas.List.{get_or_past}
use Rattle.std.proofs.lemmas.List.FromFn.{get_or-map-range_with_len}
use Rattle.fw_lemmas.proofs.Bools.{two_ways}
use Rattle.fw_lemmas.proofs.Each.{each-weaker, each-one}
use Rattle.fw_lemmas.proofs.Filters.{filter-inner}
use Rattle.fw_time.specs.Stamp.{Stamp, leq, same, in_domain}
use Rattle.fw_bag.specs.declared.rec.Rec.{Rec}
use Rattle.fw_bag.specs.Rec.{rec_cmp}
use Rattle.fw_bag.specs.Bag.{how_often}
use Rattle.fw_bag.specs.Keyed.{sorted_recs}
use Rattle.fw_bag.proofs.RecLaws.{rec_cmp-refl}
use Rattle.fw_bag.proofs.BagLaws.{how_often-bag_sum}
use Rattle.fw_frontier.specs.Frontier.{Frontier}
use Rattle.fw_frontier.specs.Front.{Front, inside, frontier_of}
use Rattle.fw_flow.specs.NodeFunction.{sent_by}
use Rattle.fw_flow.specs.declared.choice.Cut.{Cut}
use Rattle.fw_flow.specs.declared.choice.Cut.TheVariants.{Present, At}
use Rattle.fw_flow.specs.declared.event.Event.{Event}
use Rattle.fw_flow.specs.declared.event.Event.TheVariants.{Inject as Injected, Deliver as Delivered, Notify as Notified}
use Rattle.fw_flow.specs.declared.event.Message.{Message}
use Rattle.fw_flow.specs.declared.node.Node.{Node}
use Rattle.fw_flow.specs.declared.step.Step.{Step}
use Rattle.fw_flow.specs.declared.step.Step.TheVariants.{Inject, Deliver, Notify, Progress as ProgressStep, Checkpoint, Persist, Fail, Recover, Collect, Ack}
use Rattle.fw_flow.specs.Dataflow.{System, Dataflow, idle_node, kind_of, sender, receiver, bounds_of, is_notified_kind, send_stamp_of_kind, HasEpochs}
use Rattle.fw_flow.specs.Projection.{events_at}
use Rattle.fw_flow.specs.WellFormed.{IsWellFormed, IsWellFormedSystem}
use Rattle.fw_model.specs.Sending.{is_single_kind}
use Rattle.fw_model.specs.Denotation.{Family, IsDenotation, bag_at}
use Rattle.fw_model.specs.History.{some_at, sent_messages, delivered_messages, pending_messages, was_delivered_to, was_notified, is_owed_notice, IsAdmissible, IsEnabled, IsLegal, recs_at}
use Rattle.fw_model.specs.Machine.{Machine, SerialEvent, events, no_stamps, first_state, front_of, is_failed}
use Rattle.fw_flow.specs.declared.choice.Choice.{Choice}
use Rattle.fw_model.specs.Choice.{kept, cut_of, kept_of, filtered_history}
use Rattle.fw_model.specs.Covers.{set_of}
use Rattle.fw_model.specs.Steps.{Effect, Outcome, did, idle, LeadsTo, StepsTo, Run, with_event, GrowsTo, IsSettledCut, CutsTo, recovered_state}
use Rattle.fw_model.specs.LawsOfRecoveries.{StepsKeepHistoriesLegal, RunsStayLegalThroughRecoveries, SettledStaysDenoted, DenotedIsFull, AcknowledgementsShowDenotationThroughRecoveries}
use Rattle.fw_model.proofs.CarriedLaws.{carried-each}
use Rattle.fw_model.proofs.CompleteLaws.{past_edges-idle, not_owed-notified, not_owed-delivered}
use Rattle.fw_flow.proofs.MessageLaws.{less-each}
use Rattle.fw_model.proofs.SendsLaws.{IsOfCause, sent_by-of_cause}
use Rattle.fw_model.proofs.PrefixLaws.{delivered-is_denoted}
use Rattle.fw_model.proofs.SubBagLaws.{sent-is_sub, delivered-is_sub}
use Rattle.fw_model.proofs.LocalityLaws.{delivers-same}
use Rattle.fw_model.proofs.KeptLaws.{kept-owed}
use Rattle.fw_model.proofs.FilteredLaws.{filtered-events, consistent-meets, filtered-legal}
use Rattle.fw_model.proofs.WeightLaws.{weigh, one, one-in}
use Rattle.fw_model.proofs.SentLaws.{timed_message, timed_of-weigh, less-weigh, delivered-was_sent}
use Rattle.fw_model.proofs.TimedCounts.{how_often-recs_at}
use Rattle.fw_model.proofs.RunLaws.{legal-takes, none-inside, delivered-to, same-test}
use Rattle.fw_model.proofs.StampLaws.{same-is}
use Rattle.fw_model.proofs.DomainLaws.{has_epochs}
use Rattle.fw_model.specs.Filtering.{messages_inside}
use Rattle.fw_model.specs.Acknowledgements.{IsDenotedEffect, IsDenoted}

-- ---- legal histories

legal-recovery : (sys : System) (state : Machine) (next : Machine) (effect : Effect) → IsWellFormed sys.flow → HasEpochs sys → IsLegal sys (events state.history)
    → LeadsTo sys state Recover next effect → IsLegal sys (events next.history)
legal-recovery sys state next effect w b l t =
    subst (λ (m : Machine). IsLegal sys (events m.history)) (sym t.7)
    (filtered-legal sys state t.1 w b l (consistent-meets sys state (is_failed state) kept t.1 t.5.consistent))

legal-took : (sys : System) (state : Machine) (step : Step) (next : Machine) (effect : Effect) → IsWellFormed sys.flow → HasEpochs sys → IsLegal sys (events state.history)
    → LeadsTo sys state step next effect → IsLegal sys (events next.history)
legal-took sys state Recover next effect w b l t = legal-recovery sys state next effect w b l t
legal-took sys state step next effect w b l t = legal-takes sys state step next effect refl t l

pub steps-keep_legal : StepsKeepHistoriesLegal
steps-keep_legal sys state step next (did effect) w b l t = legal-took sys state step next effect w b l t
steps-keep_legal sys state step next idle w b l t = subst (λ (m : Machine). IsLegal sys (events m.history)) (sym t.1) l

run-legal : (sys : System) (steps : List Step) (outcomes : List Outcome) (state last : Machine) → IsWellFormed sys.flow → HasEpochs sys → IsLegal sys (events state.history)
    → Run sys state steps outcomes last → IsLegal sys (events last.history)
run-legal sys [] [] state last w b l r = subst (λ (m : Machine). IsLegal sys (events m.history)) (sym r) l
run-legal sys [] (o ∷ os) state last w b l r = absurd r
run-legal sys (s ∷ ss) [] state last w b l r = absurd r
run-legal sys (s ∷ ss) (o ∷ os) state last w b l r = run-legal sys ss os r.0 last w b (steps-keep_legal sys state s r.0 o w b l r.1) r.2

pub runs-legal : RunsStayLegalThroughRecoveries
runs-legal sys steps outcomes last w b r = run-legal sys steps outcomes (first_state sys) last w b tt r

-- ---- what is settled is denoted

-- in each legal history no more was delivered than the family has, and all of it where it is complete
pub record Denotes (sys : System) (family : Family) : Type 0 where
  pub within : (h : List Event) → IsLegal sys h → (e : ℕ) (t : Stamp) (r : Rec) → how_often r (recs_at t (delivered_messages h e)) ≤ how_often r (bag_at family e t)
  pub whole : (h : List Event) → IsLegal sys h → (done : ℕ → Frontier) → IsAdmissible sys h done → (e : ℕ) (t : Stamp) → done (receiver sys.flow e) t ≡ true
      → sorted_recs (recs_at t (delivered_messages h e)) ≡ bag_at family e t

-- the stamps that are settled at a node
abbrev pub settled_at : System → List Front → ℕ → Frontier
settled_at sys settled p = frontier_of (bounds_of sys.flow p) (front_of settled p)

one-more : (r : Rec) (rs : List Rec) → how_often r (r ∷ rs) ≡ how_often r rs + 1
one-more r rs = ap (λ o. cond (is_eq o) (how_often r rs + 1) (how_often r rs)) (rec_cmp-refl r)

recs-now : (t : Stamp) (m : Message) (ms : List Message) → same t m.at ≡ true → recs_at t (m ∷ ms) ≡ m.rec ∷ recs_at t ms
recs-now t m ms k = ap (map (λ (x : Message). x.rec)) (cond-true (same t m.at) (m ∷ filter (λ (x : Message). same t x.at) ms) (filter (λ (x : Message). same t x.at) ms) k)

recs-other : (t : Stamp) (m : Message) (ms : List Message) → same t m.at ≡ false → recs_at t (m ∷ ms) ≡ recs_at t ms
recs-other t m ms k = ap (map (λ (x : Message). x.rec)) (cond-false (same t m.at) (m ∷ filter (λ (x : Message). same t x.at) ms) (filter (λ (x : Message). same t x.at) ms) k)

-- where all was delivered, nothing is delivered more
no_more : (sys : System) (family : Family) → Denotes sys family → (h : List Event) (e : ℕ) (m : Message) (t : Stamp) → IsLegal sys (Delivered e m ∷ h)
    → sorted_recs (recs_at t (delivered_messages h e)) ≡ bag_at family e t → same t m.at ≡ false
no_more sys family b h e m t l all = false_from_ne_true (same t m.at) (λ k.
    let now : delivered_messages (Delivered e m ∷ h) e ≡ m ∷ delivered_messages h e = ap (λ c. cond c (m ∷ []) [] ++ delivered_messages h e) (eq-eqb e e refl) in
    let few = b.within (Delivered e m ∷ h) l e t m.rec in
    let recs = ap (how_often m.rec) (ap (recs_at t) now ∙ recs-now t m (delivered_messages h e) k) in
    let more = one-more m.rec (recs_at t (delivered_messages h e)) in
    let bag = ap (how_often m.rec) (sym all) in
    let in_order = how_often-bag_sum m.rec (recs_at t (delivered_messages h e)) [] in
    omega arith)

-- the state's settled stamps are denoted after a history
abbrev pub AreDenoted : System → Family → List Front → List Event → Type 0
AreDenoted sys family settled h = (e : ℕ) → e < length sys.flow.edges → (t : Stamp) → settled_at sys settled (receiver sys.flow e) t ≡ true
    → sorted_recs (recs_at t (delivered_messages h e)) ≡ bag_at family e t

event-denoted : (sys : System) (family : Family) → Denotes sys family → (settled : List Front) (h : List Event) (v : Event) → IsLegal sys (v ∷ h)
    → AreDenoted sys family settled h → AreDenoted sys family settled (v ∷ h)
event-denoted sys family b settled h (Injected s x) l a = a
event-denoted sys family b settled h (Notified p u) l a = a
event-denoted sys family b settled h (Delivered d m) l a = λ e r t i.
    cond_both (d == e) (m ∷ []) [] (λ ms. sorted_recs (recs_at t (ms ++ delivered_messages h e)) ≡ bag_at family e t)
    (λ c.
    let all = a e r t i in
    let here = subst (λ n. IsLegal sys (Delivered n m ∷ h)) (eqb-true d e c) l in
    ap sorted_recs (recs-other t m (delivered_messages h e) (no_more sys family b h e m t here all)) ∙ all)
    (λ c. a e r t i)

-- an edge to a node is there
pub edge-there : (flow : Dataflow) (e p : ℕ) → receiver flow e ≡ p → p < length flow.nodes → e < length flow.edges
unfolding receiver
edge-there flow e p r l = elim (cases_lt e (length flow.edges)) [
  | inl i ↦ i
  | inr past ↦
      let at = ap (λ d. d.receiver) (get_or_past flow.edges e (record { name = []; sender = length flow.nodes; receiver = length flow.nodes }) past) in
      absurd (omega arith)
]

-- what is owed at settled stamps: nothing
abbrev pub ArePaid : System → List Front → List Event → Type 0
ArePaid sys settled h = (p : ℕ) → p < length sys.flow.nodes → (t : Stamp) → settled_at sys settled p t ≡ true → is_owed_notice sys h p t ≡ false

event-paid : (sys : System) (family : Family) → Denotes sys family → (settled : List Front) (h : List Event) (v : Event) → IsLegal sys (v ∷ h)
    → AreDenoted sys family settled h → ArePaid sys settled h → ArePaid sys settled (v ∷ h)
event-paid sys family b settled h (Injected s x) l a k p q t i = k p q t i
event-paid sys family b settled h (Notified n u) l a k p q t i =
    not_owed-notified (is_notified_kind (kind_of sys.flow p)) (was_delivered_to sys.flow p t h) (n == p && same u t) (was_notified p t h) (k p q t i)
event-paid sys family b settled h (Delivered d m) l a k p q t i =
    not_owed-delivered (is_notified_kind (kind_of sys.flow p)) (was_delivered_to sys.flow p t h) (receiver sys.flow d == p && same m.at t) (was_notified p t h)
    (false_from_ne_true _ (λ c.
    let x = and_parts (receiver sys.flow d == p) (same m.at t) c in
    let y = and_parts (leq m.at t) (leq t m.at) x.1 in
    let r = eqb-true (receiver sys.flow d) p x.0 in
    let all = a d (edge-there sys.flow d p r q) t (ap (λ n. settled_at sys settled n t) r ∙ i) in
    two_ways (same t m.at) (and_from (leq t m.at) (leq m.at t) y.1 y.0) (no_more sys family b h d m t l all)))
    (k p q t i)

-- what holds of each state of a run: its history is legal, and what is settled is denoted, with nothing owed there
pub record IsLegalAndDenoted (sys : System) (family : Family) (state : Machine) : Type 0 where
  pub legal : IsLegal sys (events state.history)
  pub denoted : AreDenoted sys family state.settled (events state.history)
  pub paid : ArePaid sys state.settled (events state.history)

event-holds : (sys : System) (family : Family) → Denotes sys family → (state : Machine) (v : Event) → IsLegalAndDenoted sys family state → IsEnabled sys (events state.history) v
    → IsLegalAndDenoted sys family (with_event sys state v)
event-holds sys family b state v f k = record {
  legal = (k, f.legal);
  denoted = event-denoted sys family b state.settled (events state.history) v (k, f.legal) f.denoted;
  paid = event-paid sys family b state.settled (events state.history) v (k, f.legal) f.denoted f.paid;
}

same-holds : (sys : System) (family : Family) (state next : Machine) → IsLegalAndDenoted sys family state → next.history ≡ state.history → next.settled ≡ state.settled → IsLegalAndDenoted sys family next
same-holds sys family state next f h s = record {
  legal = subst (λ (x : List SerialEvent). IsLegal sys (events x)) (sym h) f.legal;
  denoted = subst (λ (x : List SerialEvent). AreDenoted sys family next.settled (events x)) (sym h)
      (subst (λ (x : List Front). AreDenoted sys family x (events state.history)) (sym s) f.denoted);
  paid = subst (λ (x : List SerialEvent). ArePaid sys next.settled (events x)) (sym h)
      (subst (λ (x : List Front). ArePaid sys x (events state.history)) (sym s) f.paid);
}

-- what is settled now was settled, or is complete
grown : (sys : System) (state : Machine) (done : ℕ → Frontier) (settled : List Front) → GrowsTo sys state done settled → (p : ℕ) → p < length sys.flow.nodes
    → (t : Stamp) → settled_at sys settled p t ≡ true → (settled_at sys state.settled p t || done p t) ≡ true
grown sys state done settled g p l t i = elim (cases_Bool (is_failed state p)) [
  | inl lost ↦ or_left (settled_at sys state.settled p t) (done p t) (subst (λ os. frontier_of (bounds_of sys.flow p) os t ≡ true) (g.failed p l lost) i)
  | inr live ↦ sym ((g.each p l live).same t) ∙ i
]

progress-holds : (sys : System) (family : Family) → IsWellFormed sys.flow → Denotes sys family → (state next : Machine) (done : ℕ → Frontier) (settled : List Front)
    → IsLegalAndDenoted sys family state → GrowsTo sys state done settled → next.history ≡ state.history → next.settled ≡ settled → IsLegalAndDenoted sys family next
progress-holds sys family w b state next done settled f g h s =
    let old = events state.history in
    let now : IsLegalAndDenoted sys family (record state { settled = settled }) = record {
      legal = f.legal;
      denoted = λ e l t i.
          let r = receiver sys.flow e in
          elim (or_cases (settled_at sys state.settled r t) (done r t) (grown sys state done settled g r (w.receivers_declared e l) t i)) [
            | inl j ↦ f.denoted e l t j
            | inr j ↦ b.whole old f.legal done g.complete.admissible e t j
          ];
      paid = λ p l t i. elim (or_cases (settled_at sys state.settled p t) (done p t) (grown sys state done settled g p l t i)) [
        | inl j ↦ f.paid p l t j
        | inr j ↦ g.complete.admissible.paid p t j
      ];
    } in
    same-holds sys family (record state { settled = settled }) next now h s

-- what is settled after a recovery was settled, and is kept
settled-cut : (sys : System) (p : ℕ) (cut : Cut) (before after : Front) → IsSettledCut sys p cut before after → (t : Stamp)
    → frontier_of (bounds_of sys.flow p) after t ≡ true → (frontier_of (bounds_of sys.flow p) before t ≡ true) × (set_of sys.flow p cut t ≡ true)
settled-cut sys p Present before after e t i =
    let j = subst (λ os. frontier_of (bounds_of sys.flow p) os t ≡ true) e i in
    (j, (and_parts (in_domain (bounds_of sys.flow p) t) (inside before t) j).0)
settled-cut sys p (At g) before after n t i =
    and_parts (frontier_of (bounds_of sys.flow p) before t) (frontier_of (bounds_of sys.flow p) g t) (sym (n.same t) ∙ i)

recs-kept : (f : Frontier) (t : Stamp) (ms : List Message) → f t ≡ true → recs_at t (messages_inside f ms) ≡ recs_at t ms
recs-kept f t ms i =
    ap (map (λ (x : Message). x.rec)) (filter-inner (λ (m : Message). same t m.at) (λ m. f m.at) ms
    (each-one (λ (m : Message). same t m.at ≡ true → f m.at ≡ true) ms (λ m k. ap f (sym (same-is t m.at k)) ∙ i)))

recovery-holds : (sys : System) (family : Family) → IsWellFormed sys.flow → (state : Machine) (choice : Choice) (settled : List Front) → IsLegalAndDenoted sys family state
    → IsLegal sys (events (filtered_history sys choice state.history)) → CutsTo sys state choice settled → IsLegalAndDenoted sys family (recovered_state sys state choice settled)
recovery-holds sys family w state choice settled f l c =
    let old = events state.history in
    let keep = kept_of sys.flow choice in
    let same_events = filtered-events sys choice state.history in
    let cut : (p : ℕ) → p < length sys.flow.nodes → (t : Stamp) → settled_at sys settled p t ≡ true → (settled_at sys state.settled p t ≡ true) × (keep p t ≡ true) =
    λ p q. settled-cut sys p (cut_of choice p) (front_of state.settled p) (front_of settled p) (c.each p q) in
    record {
      legal = l;
      denoted = λ e r t i.
          let both = cut (receiver sys.flow e) (w.receivers_declared e r) t i in
          ap (λ vs. sorted_recs (recs_at t (delivered_messages vs e))) same_events
          ∙ ap (λ ms. sorted_recs (recs_at t ms)) (delivers-same sys.flow old keep e)
          ∙ ap sorted_recs (recs-kept (keep (receiver sys.flow e)) t (delivered_messages old e) both.1)
          ∙ f.denoted e r t both.0;
      paid = λ p q t i.
          let both = cut p q t i in
          ap (λ vs. is_owed_notice sys vs p t) same_events ∙ kept-owed sys old keep p t both.1 ∙ f.paid p q t both.0;
    }

took-holds : (sys : System) (family : Family) → IsWellFormed sys.flow → HasEpochs sys → Denotes sys family → (state : Machine) (step : Step) (next : Machine) (effect : Effect)
    → IsLegalAndDenoted sys family state → LeadsTo sys state step next effect → IsLegalAndDenoted sys family next
took-holds sys family w p b state (Inject s) next effect f t = subst (IsLegalAndDenoted sys family) (sym t.3) (event-holds sys family b state (Injected s t.0) f t.1)
took-holds sys family w p b state (Deliver e at) next effect f t = subst (IsLegalAndDenoted sys family) (sym t.3) (event-holds sys family b state (Delivered e t.0) f t.1.enabled)
took-holds sys family w p b state (Notify q at) next effect f t = subst (IsLegalAndDenoted sys family) (sym t.3) (event-holds sys family b state (Notified q t.0) f t.1.enabled)
took-holds sys family w p b state ProgressStep next effect f t =
    progress-holds sys family w b state next t.0 t.1 f t.2 (ap (λ (m : Machine). m.history) t.3) (ap (λ (m : Machine). m.settled) t.3)
took-holds sys family w p b state (Checkpoint q) next effect f t = same-holds sys family state next f (ap (λ (m : Machine). m.history) t.3) (ap (λ (m : Machine). m.settled) t.3)
took-holds sys family w p b state Persist next effect f t = same-holds sys family state next f (ap (λ (m : Machine). m.history) t.2) (ap (λ (m : Machine). m.settled) t.2)
took-holds sys family w p b state (Fail ps) next effect f t = same-holds sys family state next f (ap (λ (m : Machine). m.history) t.4) (ap (λ (m : Machine). m.settled) t.4)
took-holds sys family w p b state Recover next effect f t =
    subst (IsLegalAndDenoted sys family) (sym t.7) (recovery-holds sys family w state t.1 t.2 f
    (filtered-legal sys state t.1 w p f.legal (consistent-meets sys state (is_failed state) kept t.1 t.5.consistent)) t.6)
took-holds sys family w p b state Collect next effect f t = same-holds sys family state next f (ap (λ (m : Machine). m.history) t.3) (ap (λ (m : Machine). m.settled) t.3)
took-holds sys family w p b state (Ack o) next effect f t = same-holds sys family state next f (ap (λ (m : Machine). m.history) t.2) (ap (λ (m : Machine). m.settled) t.2)

-- nothing is settled at first
pub first-holds : (sys : System) (family : Family) → IsWellFormed sys.flow → IsLegalAndDenoted sys family (first_state sys)
first-holds sys family w =
    let none : (p : ℕ) → p < length sys.flow.nodes → (t : Stamp) → settled_at sys (first_state sys).settled p t ≡ true → ⊥ =
    λ p l t i. none-inside (bounds_of sys.flow p) t
    (subst (λ f. frontier_of (bounds_of sys.flow p) f t ≡ true)
    (get_or-map-range_with_len (λ q. no_stamps (bounds_of sys.flow q)) 0 (length sys.flow.nodes) p p [] l (omega arith)) i) in
    record {
      legal = tt;
      denoted = λ e l t i. absurd (none (receiver sys.flow e) (w.receivers_declared e l) t i);
      paid = λ p l t i. absurd (none p l t i);
    }

pub steps-hold : (sys : System) (family : Family) → IsWellFormed sys.flow → HasEpochs sys → Denotes sys family → (state : Machine) (step : Step) (next : Machine) (outcome : Outcome)
    → IsLegalAndDenoted sys family state → StepsTo sys state step next outcome → IsLegalAndDenoted sys family next
steps-hold sys family w p b state step next (did effect) f t = took-holds sys family w p b state step next effect f t
steps-hold sys family w p b state step next idle f t = subst (IsLegalAndDenoted sys family) (sym t.1) f

run-holds : (sys : System) (family : Family) → IsWellFormed sys.flow → HasEpochs sys → Denotes sys family → (steps : List Step) (outcomes : List Outcome) (state last : Machine)
    → IsLegalAndDenoted sys family state → Run sys state steps outcomes last → IsLegalAndDenoted sys family last
run-holds sys family w p b [] [] state last f r = subst (IsLegalAndDenoted sys family) (sym r) f
run-holds sys family w p b [] (o ∷ os) state last f r = absurd r
run-holds sys family w p b (s ∷ ss) [] state last f r = absurd r
run-holds sys family w p b (s ∷ ss) (o ∷ os) state last f r = run-holds sys family w p b ss os r.0 last (steps-hold sys family w p b state s r.0 o f r.1) r.2

pub all_kinds-denote : (sys : System) (family : Family) → IsWellFormedSystem sys → IsDenotation sys family → Denotes sys family
all_kinds-denote sys family w u = record {
  within = λ h l e t r. delivered-is_sub sys h family w l u e t r;
  whole = λ h l done a e t i. delivered-is_denoted sys h family w l u done a e t i;
}

pub settled-stays_denoted : SettledStaysDenoted
settled-stays_denoted sys family w u steps outcomes last r =
    let f = run-holds sys family w.flow (has_epochs sys w) (all_kinds-denote sys family w u) steps outcomes (first_state sys) last (first-holds sys family w.flow) r in
    record { denoted = f.denoted; paid = f.paid }

-- ---- acknowledgements

took-denoted : (sys : System) (family : Family) → IsWellFormed sys.flow → (state : Machine) (step : Step) (next : Machine) (effect : Effect) → IsLegalAndDenoted sys family state
    → LeadsTo sys state step next effect → IsDenotedEffect sys family effect
took-denoted sys family w state (Inject s) next effect f t = subst (IsDenotedEffect sys family) (sym t.4) tt
took-denoted sys family w state (Deliver e at) next effect f t = subst (IsDenotedEffect sys family) (sym t.4) tt
took-denoted sys family w state (Notify p at) next effect f t = subst (IsDenotedEffect sys family) (sym t.4) tt
took-denoted sys family w state ProgressStep next effect f t = subst (IsDenotedEffect sys family) (sym t.4) tt
took-denoted sys family w state (Checkpoint p) next effect f t = subst (IsDenotedEffect sys family) (sym t.4) tt
took-denoted sys family w state Persist next effect f t = subst (IsDenotedEffect sys family) (sym t.3) tt
took-denoted sys family w state (Fail ps) next effect f t = subst (IsDenotedEffect sys family) (sym t.5) tt
took-denoted sys family w state Recover next effect f t = subst (IsDenotedEffect sys family) (sym t.8) tt
took-denoted sys family w state Collect next effect f t = subst (IsDenotedEffect sys family) (sym t.4) tt
took-denoted sys family w state (Ack o) next effect f t =
    let at : Stamp = t.0 ∷ [] in
    subst (IsDenotedEffect sys family) (sym t.3) (λ d l r.
    ap sorted_recs (delivered-to sys.flow o d at (same-test sys.flow w o d t.1.declared t.1.output r) (events state.history))
    ∙ f.denoted d l at (ap (λ p. settled_at sys state.settled p at) r ∙ t.1.settled))

run-denoted : (sys : System) (family : Family) → IsWellFormed sys.flow → HasEpochs sys → Denotes sys family → (steps : List Step) (outcomes : List Outcome) (state last : Machine)
    → IsLegalAndDenoted sys family state → Run sys state steps outcomes last → AllByRecursion (IsDenoted sys family) outcomes
run-denoted sys family w p b [] [] state last f r = tt
run-denoted sys family w p b [] (o ∷ os) state last f r = absurd r
run-denoted sys family w p b (s ∷ ss) [] state last f r = absurd r
run-denoted sys family w p b (s ∷ ss) (o ∷ os) state last f r =
    (shown o r.1, run-denoted sys family w p b ss os r.0 last (steps-hold sys family w p b state s r.0 o f r.1) r.2)
  where
    shown : (outcome : Outcome) → StepsTo sys state s r.0 outcome → IsDenoted sys family outcome
    shown (did effect) t = took-denoted sys family w state s r.0 effect f t
    shown idle t = tt

pub acknowledged-denoted : AcknowledgementsShowDenotationThroughRecoveries
acknowledged-denoted sys family w u steps outcomes last r =
    run-denoted sys family w.flow (has_epochs sys w) (all_kinds-denote sys family w u) steps outcomes (first_state sys) last (first-holds sys family w.flow) r

-- ---- denoted is full

-- messages that weigh nothing at a stamp, whatever their recs, are at other stamps
weightless : (t : Stamp) (ms : List Message) → ((q : Rec) → weigh (λ m. one t q (timed_message m)) ms ≡ 0) → some_at (same t) ms ≡ false
unfolding weigh
weightless t [] z = refl
weightless t (m ∷ ms) z =
    or_from (same t m.at) (some_at (same t) ms)
    (false_from_ne_true (same t m.at) (λ k.
    let one_here = one-in t m.rec (timed_message m) (and_from (same t m.at) (is_eq (rec_cmp m.rec m.rec)) k (ap is_eq (rec_cmp-refl m.rec))) in
    let none = z m.rec in
    absurd (omega arith)))
    (weightless t ms (λ q. let none = z q in omega arith))

none-at : (test : Stamp → Bool) (ms : List Message) → AllByRecursion (λ (m : Message). ⊥) ms → some_at test ms ≡ false
none-at test [] a = refl
none-at test (m ∷ ms) a = absurd a.0

-- nothing is sent on an edge past the last one
past-nothing : (sys : System) (h : List Event) (e : ℕ) → length sys.flow.edges ≤ e → AllByRecursion (λ (m : Message). ⊥) (sent_messages sys h e)
unfolding IsOfCause
past-nothing sys h e past =
    let q = sender sys.flow e in
    let is = past_edges-idle sys.flow e past in
    each-weaker (IsOfCause sys.flow q) (λ m. ⊥) (sent_messages sys h e)
    (λ m a. let none : None ≡ Some m.at = sym (ap (λ kind. send_stamp_of_kind sys.flow kind a.0) is) ∙ a.1 in cc none)
    (carried-each sys.flow e (IsOfCause sys.flow q) (sent_by sys q (events_at sys.flow q h)) (sent_by-of_cause sys q (ap is_single_kind is) (events_at sys.flow q h)))

-- where as much was delivered as can be sent, nothing is pending
denoted-quiet : (sys : System) (family : Family) (h : List Event) → IsWellFormedSystem sys → IsDenotation sys family → IsLegal sys h
    → (e : ℕ) (t : Stamp) → sorted_recs (recs_at t (delivered_messages h e)) ≡ bag_at family e t → some_at (same t) (pending_messages sys h e) ≡ false
denoted-quiet sys family h w u l e t all = weightless t (pending_messages sys h e) (λ q.
    let weight : Message → ℕ = λ m. one t q (timed_message m) in
    let few = sent-is_sub sys h family w l u e t q in
    let bag = ap (how_often q) all in
    let in_order = how_often-bag_sum q (recs_at t (delivered_messages h e)) [] in
    let sent_now = how_often-recs_at t q (sent_messages sys h e) in
    let delivered_now = how_often-recs_at t q (delivered_messages h e) in
    let a = timed_of-weigh (one t q) (sent_messages sys h e) in
    let b = timed_of-weigh (one t q) (delivered_messages h e) in
    let c = less-weigh weight (sent_messages sys h e) (delivered_messages h e) (delivered-was_sent sys h l e) in
    omega arith)

past-paid : (sys : System) (h : List Event) (p : ℕ) (t : Stamp) → length sys.flow.nodes ≤ p → is_owed_notice sys h p t ≡ false
unfolding kind_of
past-paid sys h p t past =
    ap (λ (n : Node). is_notified_kind n.kind && was_delivered_to sys.flow p t h && not (was_notified p t h)) (get_or_past sys.flow.nodes p idle_node past)

pub denoted-full : DenotedIsFull
denoted-full sys family state w u l f =
    let h = events state.history in
    record {
      quiet = λ p t i e r. elim (cases_lt e (length sys.flow.edges)) [
        | inl real ↦ denoted-quiet sys family h w u l e t (f.denoted e real t (ap (λ n. settled_at sys state.settled n t) r ∙ i))
        | inr past ↦ none-at (same t) (pending_messages sys h e) (less-each (λ m. ⊥) (sent_messages sys h e) (delivered_messages h e) (past-nothing sys h e past))
      ];
      paid = λ p t i. elim (cases_lt p (length sys.flow.nodes)) [ inl real ↦ f.paid p real t i | inr past ↦ past-paid sys h p t past ];
    }
