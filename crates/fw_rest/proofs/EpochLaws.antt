-- Where no node numbers epochs anew, each event outside the numbers is at an epoch of which some node has a batch.
use Rattle.std.proofs.Common.{◌≡◌, ℕ, zero, suc, ◌+◌, ◌<◌, ◌≤◌, true, false, not, ◌&&◌, ◌==◌, List, [], ◌∷◌, ◌++◌, length, slice_index_or, Option, Some, None, refl, sym, ap, ◌∙◌, inl, inr, arith}
use Rattle.std.specs.List.{AllByRecursion}
use Rattle.std.proofs.lemmas.Bool.{and_parts, or_cases, cond_both, eqb-true}
use Rattle.fw_lemmas.proofs.Each.{each-weaker, each-append}
use Rattle.fw_bag.specs.declared.rec.Rec.{Rec}
use Rattle.fw_time.specs.Stamp.{Stamp, leq, same, nest, outer, counter, in_domain}
use Rattle.fw_flow.specs.declared.event.Event.{Event}
use Rattle.fw_flow.specs.declared.event.Event.TheVariants.{Inject, Deliver, Notify}
use Rattle.fw_flow.specs.declared.event.Message.{Message}
use Rattle.fw_flow.specs.declared.kind.Domain.TheVariants.{Epoch, Loop as InLoop}
use Rattle.fw_flow.specs.Kind.{Kind}
use Rattle.fw_flow.specs.declared.kind.Kind.TheVariants.{OutputNumber, Enter, Feedback, Leave, Total, Sequence, Regroup, OutputEpoch, Sum}
use Rattle.fw_flow.specs.Dataflow.{System, Dataflow, kind_of, sender, receiver, max_of, parent_of, loops_of, greatest_in, domain_within, ends_within, declared_parent, domain_of, domain_of_kind, out_domain_of, out_domain_of_kind, bounds_of, bounds_of_domain, is_notified_kind, is_of_numbers, is_sequence_kind, send_stamp_of_kind, batches_of, greatest_number, HasEpochs}
use Rattle.fw_flow.specs.NodeFunction.{event_node, event_stamp, sends, sent_by}
use Rattle.fw_flow.specs.Projection.{events_at, first_coordinate}
use Rattle.fw_flow.specs.WellFormed.{IsWellFormed}
use Rattle.fw_flow.proofs.MessageLaws.{less-each, among-each}
use Rattle.fw_model.proofs.KindSorts.{no_sequence-single}
use Rattle.fw_model.specs.History.{sent_messages, delivered_messages, pending_messages, was_delivered_to, was_notified, IsLegal, IsEnabled}
use Rattle.fw_model.proofs.CarriedLaws.{carried-each}
use Rattle.fw_model.proofs.LegalLaws.{edge_domains, AreAllInDomain, legal-in_domain}
use Rattle.fw_model.proofs.FeedbackLaws.{fed_back-some}
use Rattle.fw_model.proofs.SendsLaws.{sends-each}
use Rattle.fw_model.proofs.StampLaws.{IsInLoop, in_loop, same-is, some_is}
use Rattle.fw_rest.specs.Left.{HasNoRegroup}
use Rattle.fw_rest.specs.StepsToRest.{epochs_of}

-- ---- a node that is no regroup sends at the epoch of its event

-- a stamp with a counter begins as the stamp does, if it has a coordinate
first-nest : (b s : Stamp) (x : ℕ) (t : Stamp) → b ≡ x ∷ t → leq s b ≡ true → (c d : ℕ) → first_coordinate (nest s c) ≡ first_coordinate (nest s d)
first-nest b [] x t e l c d = absurd (subst-cc b x t e l)
  where
    subst-cc : (b : Stamp) (x : ℕ) (t : Stamp) → b ≡ x ∷ t → leq [] b ≡ true → ⊥
    subst-cc [] x t e l = cc
    subst-cc (y ∷ b) x t e l = cc
first-nest b (y ∷ s) x t e l c d = refl

first-outer : (b s : Stamp) (x : ℕ) (t : Stamp) → b ≡ x ∷ t → leq s b ≡ true → (c : ℕ) → first_coordinate (nest s c) ≡ first_coordinate s
first-outer b [] x t e l c = absurd (subst-cc b x t e l)
  where
    subst-cc : (b : Stamp) (x : ℕ) (t : Stamp) → b ≡ x ∷ t → leq [] b ≡ true → ⊥
    subst-cc [] x t e l = cc
    subst-cc (y ∷ b) x t e l = cc
first-outer b (y ∷ s) x t e l c = refl

-- the greatest stamp of loops has a first coordinate
greatest-some : (flow : Dataflow) (ls : List ℕ) → (x : ℕ) × (t : Stamp) × (greatest_in flow ls ≡ x ∷ t)
greatest-some flow [] = (greatest_number, [], refl)
greatest-some flow (l ∷ ls) =
    let g = greatest-some flow ls in
    (g.0, g.1 ++ max_of flow l ∷ [], ap (λ s. nest s (max_of flow l)) g.2)

first-enter : (t : Stamp) → first_coordinate (nest t 0) ≡ first_coordinate t
first-enter [] = refl
first-enter (x ∷ t) = refl

module _ (flow : Dataflow) (l : ℕ) (t : Stamp) (i : in_domain (bounds_of_domain flow (InLoop l)) t ≡ true) where
  abbrev around : Stamp
  around = greatest_in flow (loops_of flow (parent_of flow l))

  stands : IsInLoop around (max_of flow l) t
  stands = in_loop t around (max_of flow l) i

  first-of_outer : (c : ℕ) → first_coordinate (nest (outer t) c) ≡ first_coordinate t
  first-of_outer c =
      let g = greatest-some flow (loops_of flow (parent_of flow l)) in
      first-nest around (outer t) g.0 g.1 g.2 stands.outside c (counter t) ∙ sym (ap first_coordinate stands.nested)

  first-left : first_coordinate (outer t) ≡ first_coordinate t
  first-left =
      let g = greatest-some flow (loops_of flow (parent_of flow l)) in
      sym (first-outer around (outer t) g.0 g.1 g.2 stands.outside (counter t)) ∙ sym (ap first_coordinate stands.nested)

pub send-first : (flow : Dataflow) (kind : Kind) → ((n : ℕ) → kind ≡ Regroup n → ⊥) → (t w : Stamp)
    → in_domain (bounds_of_domain flow (domain_of_kind flow kind)) t ≡ true → send_stamp_of_kind flow kind t ≡ Some w → first_coordinate w ≡ first_coordinate t
send-first flow OutputEpoch ungrouped t w i e = absurd (cc)
send-first flow OutputNumber ungrouped t w i e = absurd (cc)
send-first flow (Enter l) ungrouped t w i e = sym (ap first_coordinate (some_is (nest t 0) w e)) ∙ first-enter t
send-first flow (Feedback l) ungrouped t w i e = sym (ap first_coordinate (fed_back-some (max_of flow l) t w e).1) ∙ first-of_outer flow l t i (counter t + 1)
send-first flow (Leave l) ungrouped t w i e = sym (ap first_coordinate (some_is (outer t) w e)) ∙ first-left flow l t i
send-first flow (Regroup n) ungrouped t w i e = absurd (ungrouped n refl)
send-first flow kind ungrouped t w i e = sym (ap first_coordinate (some_is t w e))

-- ---- what sends outside the numbers stands outside them

pub within-no_numbers : (within : Option ℕ) → is_of_numbers (domain_within within) ≡ false
within-no_numbers None = refl
within-no_numbers (Some l) = refl

pub parent-no_numbers : (flow : Dataflow) (l : ℕ) → is_of_numbers (parent_of flow l) ≡ false
unfolding parent_of
parent-no_numbers flow l =
    cond_both (ends_within 3 flow (Some l)) (domain_within (declared_parent flow l)) Epoch (λ d. is_of_numbers d ≡ false)
    (λ e. within-no_numbers (declared_parent flow l)) (λ e. refl)

pub no_numbers-before : (flow : Dataflow) (kind : Kind) → ((n : ℕ) → kind ≡ Regroup n → ⊥) → is_of_numbers (out_domain_of_kind flow kind) ≡ false
    → (is_of_numbers (domain_of_kind flow kind) ≡ false) × (is_sequence_kind kind ≡ false)
no_numbers-before flow Sequence ungrouped e = absurd (cc)
no_numbers-before flow (Regroup n) ungrouped e = absurd (ungrouped n refl)
no_numbers-before flow (Enter l) ungrouped e = (parent-no_numbers flow l, refl)
no_numbers-before flow (Leave l) ungrouped e = (refl, refl)
no_numbers-before flow kind ungrouped e = (e, refl)

pub notified-no_numbers : (flow : Dataflow) (kind : Kind) → is_notified_kind kind ≡ true → is_of_numbers (domain_of_kind flow kind) ≡ false
notified-no_numbers flow (Sum within) k = within-no_numbers within
notified-no_numbers flow Total k = refl
notified-no_numbers flow Sequence k = refl
notified-no_numbers flow kind k = absurd (cc)

-- ---- the events

-- the epoch of an event is below the bound, if its node's are not at numbers
abbrev pub IsBefore : Dataflow → ℕ → Event → Type 0
IsBefore flow k v = is_of_numbers (domain_of flow (event_node flow v)) ≡ false → first_coordinate (event_stamp v) < k

-- what the events of a node that stands outside the numbers send
sent-before : (sys : System) (k p : ℕ) → HasNoRegroup sys.flow → is_of_numbers (out_domain_of sys.flow p) ≡ false → (vs : List Event)
    → AllByRecursion (λ v. in_domain (bounds_of sys.flow p) (event_stamp v) ≡ true) vs → AllByRecursion (λ v. first_coordinate (event_stamp v) < k) vs
    → AllByRecursion (λ (m : Message). first_coordinate m.at < k) (sent_by sys p vs)
unfolding bounds_of
sent-before sys k p ungrouped out [] d a = tt
sent-before sys k p ungrouped out (v ∷ vs) d a =
    let Q : Message → Type 0 = λ m. first_coordinate m.at < k in
    let kind = kind_of sys.flow p in
    let b = no_numbers-before sys.flow kind (ungrouped p) out in
    let i = d.0 in
    let l = a.0 in
    each-append Q (sends sys p vs v) (sent_by sys p vs)
    (each-weaker (λ (m : Message). (send_stamp_of_kind sys.flow kind (event_stamp v) ≡ Some m.at) × (m.causes ≡ event_stamp v ∷ [])) Q (sends sys p vs v)
    (λ m c. let e = send-first sys.flow kind (ungrouped p) (event_stamp v) m.at i c.0 in omega arith) (sends-each sys p (no_sequence-single kind b.1) vs v))
    (sent-before sys k p ungrouped out vs d.1 a.1)

at-before : (flow : Dataflow) (k p : ℕ) → is_of_numbers (domain_of flow p) ≡ false → (h : List Event) → AllByRecursion (IsBefore flow k) h
    → AllByRecursion (λ v. first_coordinate (event_stamp v) < k) (events_at flow p h)
at-before flow k p ungrouped [] a = tt
at-before flow k p ungrouped (v ∷ h) a =
    let vs = events_at flow p h in
    let rest = at-before flow k p ungrouped h a.1 in
    cond_both (event_node flow v == p) (v ∷ vs) vs (AllByRecursion (λ w. first_coordinate (event_stamp w) < k))
    (λ e. (a.0 (ap (λ q. is_of_numbers (domain_of flow q)) (eqb-true (event_node flow v) p e) ∙ ungrouped), rest)) (λ e. rest)

in_domain-at : (flow : Dataflow) (p : ℕ) (h : List Event) → AreAllInDomain flow h → AllByRecursion (λ v. in_domain (bounds_of flow p) (event_stamp v) ≡ true) (events_at flow p h)
in_domain-at flow p [] d = tt
in_domain-at flow p (v ∷ h) d =
    let vs = events_at flow p h in
    let rest = in_domain-at flow p h d.1 in
    cond_both (event_node flow v == p) (v ∷ vs) vs (AllByRecursion (λ w. in_domain (bounds_of flow p) (event_stamp w) ≡ true))
    (λ e. (sym (ap (λ q. in_domain (bounds_of flow q) (event_stamp v)) (eqb-true (event_node flow v) p e)) ∙ d.0, rest)) (λ e. rest)

sent-from : (sys : System) (k : ℕ) (h : List Event) → IsWellFormed sys.flow → HasNoRegroup sys.flow → AreAllInDomain sys.flow h → AllByRecursion (IsBefore sys.flow k) h
    → (e : ℕ) → is_of_numbers (domain_of sys.flow (receiver sys.flow e)) ≡ false → AllByRecursion (λ (m : Message). first_coordinate m.at < k) (sent_messages sys h e)
sent-from sys k h w ungrouped d a e out =
    let p = sender sys.flow e in
    let here : is_of_numbers (out_domain_of sys.flow p) ≡ false = ap is_of_numbers (edge_domains sys.flow w e) ∙ out in
    let b = no_numbers-before sys.flow (kind_of sys.flow p) (ungrouped p) here in
    carried-each sys.flow e (λ (m : Message). first_coordinate m.at < k) (sent_by sys p (events_at sys.flow p h))
    (sent-before sys k p ungrouped here (events_at sys.flow p h) (in_domain-at sys.flow p h d) (at-before sys.flow k p b.0 h a))

delivered-before : (flow : Dataflow) (k p : ℕ) (t : Stamp) → is_of_numbers (domain_of flow p) ≡ false → (h : List Event) → AllByRecursion (IsBefore flow k) h
    → was_delivered_to flow p t h ≡ true → first_coordinate t < k
delivered-before flow k p t ungrouped [] a o = absurd (cc)
delivered-before flow k p t ungrouped (Inject s x ∷ h) a o = delivered-before flow k p t ungrouped h a.1 o
delivered-before flow k p t ungrouped (Notify q s ∷ h) a o = delivered-before flow k p t ungrouped h a.1 o
delivered-before flow k p t ungrouped (Deliver e m ∷ h) a o =
    elim (or_cases (receiver flow e == p && same m.at t) (was_delivered_to flow p t h) o) [
      | inl c ↦
          let b = and_parts (receiver flow e == p) (same m.at t) c in
          let l = a.0 (ap (λ q. is_of_numbers (domain_of flow q)) (eqb-true (receiver flow e) p b.0) ∙ ungrouped) in
          let is = ap first_coordinate (same-is m.at t b.1) in
          omega arith
      | inr c ↦ delivered-before flow k p t ungrouped h a.1 c
    ]

batches-few : (sources : List (List (List Rec))) (s : ℕ) → length (slice_index_or sources s []) ≤ epochs_of sources
batches-few [] zero = omega arith
batches-few [] (suc s) = omega arith
batches-few (b ∷ sources) zero = omega arith
batches-few (b ∷ sources) (suc s) = let h = batches-few sources s in omega arith

pub epochs-few : (sys : System) (s : ℕ) → length (batches_of sys s) ≤ epochs_of sys.batches
unfolding batches_of
epochs-few sys s = batches-few sys.batches s

enabled-before : (sys : System) (h : List Event) → IsWellFormed sys.flow → HasNoRegroup sys.flow → AreAllInDomain sys.flow h
    → AllByRecursion (IsBefore sys.flow (epochs_of sys.batches)) h → (v : Event) → IsEnabled sys h v → IsBefore sys.flow (epochs_of sys.batches) v
enabled-before sys h w ungrouped d a (Inject s x) k out = let l = k.there in let f = epochs-few sys s in omega arith
enabled-before sys h w ungrouped d a (Deliver e m) k out =
    let Q : Message → Type 0 = λ x. first_coordinate x.at < epochs_of sys.batches in
    among-each Q m (pending_messages sys h e) k.is_pending
    (less-each Q (sent_messages sys h e) (delivered_messages h e) (sent-from sys (epochs_of sys.batches) h w ungrouped d a e out))
enabled-before sys h w ungrouped d a (Notify p t) k out =
    let o = and_parts (is_notified_kind (kind_of sys.flow p) && was_delivered_to sys.flow p t h) (not (was_notified p t h)) k.is_owed in
    delivered-before sys.flow (epochs_of sys.batches) p t out h a (and_parts (is_notified_kind (kind_of sys.flow p)) (was_delivered_to sys.flow p t h) o.0).1

pub legal-before : (sys : System) (h : List Event) → IsWellFormed sys.flow → HasEpochs sys → HasNoRegroup sys.flow → IsLegal sys h
    → AllByRecursion (IsBefore sys.flow (epochs_of sys.batches)) h
legal-before sys [] w b ungrouped l = tt
legal-before sys (v ∷ h) w b ungrouped l =
    let a = legal-before sys h w b ungrouped l.1 in
    (enabled-before sys h w ungrouped (legal-in_domain sys h w b l.1) a v l.0, a)

-- each message outside the numbers is at an epoch of which some node has a batch
pub messages-before : (sys : System) (h : List Event) → IsWellFormed sys.flow → HasEpochs sys → HasNoRegroup sys.flow → IsLegal sys h
    → (e : ℕ) → is_of_numbers (domain_of sys.flow (receiver sys.flow e)) ≡ false
    → AllByRecursion (λ (m : Message). first_coordinate m.at < epochs_of sys.batches) (sent_messages sys h e)
messages-before sys h w b ungrouped l = sent-from sys (epochs_of sys.batches) h w ungrouped (legal-in_domain sys h w b l) (legal-before sys h w b ungrouped l)
