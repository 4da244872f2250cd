-- What the largest choice of a recovery says of histories, nodes and edges.
use Rattle.std.proofs.Common.{◌≡◌, ℕ, ◌<◌, true, false, cond, ◌&&◌, not, List, [], ◌∷◌, length, refl, sym, ap, subst, ◌∙◌, arith}
use Rattle.std.specs.List.{AllByRecursion, Contains, list_all}
use Rattle.std.proofs.lemmas.Bool.{and_left, eq-eqb, false_from_ne_true}
use Rattle.fw_lemmas.proofs.Each.{each-weaker, each-one, each-at}
use Rattle.fw_lemmas.proofs.Filters.{filter-all, filter-same_on}
use Rattle.fw_lemmas.proofs.Lists.{none-mapped}
use Rattle.fw_time.specs.Stamp.{Stamp, in_domain}
use Rattle.fw_frontier.specs.Frontier.{Frontier, Within}
use Rattle.fw_frontier.specs.Front.{Front, inside}
use Rattle.fw_flow.specs.declared.choice.Choice.{Choice}
use Rattle.fw_flow.specs.declared.choice.Cut.{Cut}
use Rattle.fw_flow.specs.declared.choice.Cut.TheVariants.{Present, At}
use Rattle.fw_flow.specs.declared.event.Event.{Event}
use Rattle.fw_flow.specs.declared.event.Message.{Message}
use Rattle.fw_flow.specs.Dataflow.{System, Dataflow, kind_of, in_edges, is_input_kind, node_frontier, sender, receiver, bounds_of, bounds_of_edge, node_ids, HasEpochs}
use Rattle.fw_flow.specs.NodeFunction.{event_stamp, sent_by}
use Rattle.fw_flow.specs.Projection.{events_at, all_inside}
use Rattle.fw_flow.specs.WellFormed.{IsWellFormed, IsInDegree, may_keep_nothing}
use Rattle.fw_model.specs.LawsOfReplay.{not_given_up}
use Rattle.fw_model.specs.Choice.{kept, cut_of, notice_of, kept_of, IsCandidate}
use Rattle.fw_model.specs.Covers.{set_of}
use Rattle.fw_model.specs.Filtering.{events_inside, kept_events, messages_from, messages_outside, IsConsistentlyKept, MeetsInclusions}
use Rattle.fw_model.specs.History.{IsLegal, sent_messages}
use Rattle.fw_model.specs.Machine.{Machine, events, front_of, is_failed}
use Rattle.fw_model.specs.Settled.{IsFull}
use Rattle.fw_model.specs.Steps.{recovered_state, front_of_cut}
use Rattle.fw_model.proofs.CarriedLaws.{carried-each}
use Rattle.fw_model.proofs.ArrivalLaws.{at_edge, in_edges-once}
use Rattle.fw_model.proofs.CheckpointLaws.{candidates-within_settled}
use Rattle.fw_model.proofs.LowLaws.{input-is, no_weight}
use Rattle.fw_model.proofs.WeightLaws.{weigh}
use Rattle.fw_model.proofs.AskedLaws.{CanRecoverAndRestore, reached-all}
use Rattle.fw_model.proofs.DomainLaws.{has_epochs, edge-bounds}
use Rattle.fw_model.proofs.FilteredLaws.{filtered-events, consistent-meets, choice-consistent}
use Rattle.fw_model.proofs.LegalLaws.{legal_events-in_domain, legal_messages-in_domain}
use Rattle.fw_model.proofs.CauseLaws.{sent_by-each_cause}
use Rattle.fw_model.proofs.LocalityLaws.{sends-same}
use Rattle.fw_model.proofs.RestoringLaws.{full-reached}
use Rattle.fw_stands.specs.Recovered.{Recovers}

-- ---- what is known

-- What is known of a recovery.
pub record Knows (sys : System) (state : Machine) (choice : Choice) : Type 0 where
  pub epochs : HasEpochs sys
  pub all : CanRecoverAndRestore sys state
  pub legal : IsLegal sys (events state.history)
  pub full : IsFull sys state
  pub meets : MeetsInclusions sys state choice
  pub keeps : IsConsistentlyKept sys (events state.history) (kept_of sys.flow choice) (notice_of sys.flow choice)

pub knows : (sys : System) (state : Machine) (choice : Choice) (settled : List Front) → Recovers sys state choice settled → Knows sys state choice
knows sys state choice settled r =
    let all = reached-all sys r.well_formed r.reached.0 r.reached.1 state r.reached.2 in
    let meets = consistent-meets sys state (is_failed state) kept choice r.largest.consistent in
    record {
      epochs = has_epochs sys r.well_formed;
      all = all;
      legal = all.recover.holds.legal;
      full = full-reached sys state r.well_formed all;
      meets = meets;
      keeps = choice-consistent sys state choice r.well_formed.flow meets;
    }

-- ---- who is failed

-- after a recovery no node is failed
pub none_failed : (sys : System) (state : Machine) (choice : Choice) (settled : List Front) (p : ℕ) → is_failed (recovered_state sys state choice settled) p ≡ false
none_failed sys state choice settled p = none-mapped (node_ids sys.flow) p

-- a node that stays as it is was not failed
pub present_lives : (sys : System) (state : Machine) (choice : Choice) (settled : List Front) → Recovers sys state choice settled
    → (p : ℕ) → p < length sys.flow.nodes → cut_of choice p ≡ Present → is_failed state p ≡ false
present_lives sys state choice settled r p l is =
    subst (IsCandidate sys state (is_failed state) kept p) is (r.largest.consistent.offered p l)

-- ---- what is kept of domains

-- of a domain's stamps a node keeps those inside the front of its cut
pub set-inside : (flow : Dataflow) (p : ℕ) (cut : Cut) (t : Stamp) → in_domain (bounds_of flow p) t ≡ true → set_of flow p cut t ≡ inside (front_of_cut cut) t
set-inside flow p Present t d = d
set-inside flow p (At f) t d = ap (λ b. b && inside f t) d

pub all_inside-as : (f g : Frontier) (cs : List Stamp) → AllByRecursion (λ t. f t ≡ g t) cs → all_inside f cs ≡ all_inside g cs
all_inside-as f g [] a = refl
all_inside-as f g (c ∷ cs) a = ap (λ b. b && list_all f cs) a.0 ∙ ap (λ b. g c && b) (all_inside-as f g cs a.1)

-- ---- causes and stamps of what was sent

-- each cause is a stamp of the domain
abbrev pub IsCausedIn : Dataflow → ℕ → Message → Type 0
IsCausedIn flow p m = AllByRecursion (λ t. in_domain (bounds_of flow p) t ≡ true) m.causes

-- in a legal history what a node sent has causes of its domain
pub legal-caused : (sys : System) (h : List Event) → IsWellFormed sys.flow → HasEpochs sys → IsLegal sys h → (p : ℕ)
    → AllByRecursion (IsCausedIn sys.flow p) (sent_by sys p (events_at sys.flow p h))
legal-caused sys h w b l p = sent_by-each_cause sys p (λ t. in_domain (bounds_of sys.flow p) t ≡ true) (events_at sys.flow p h) (legal_events-in_domain sys h w b l p)

-- so has what it sent on an edge
pub edge-caused : (sys : System) (h : List Event) → IsWellFormed sys.flow → HasEpochs sys → IsLegal sys h → (e : ℕ)
    → AllByRecursion (IsCausedIn sys.flow (sender sys.flow e)) (sent_messages sys h e)
edge-caused sys h w b l e =
    let p = sender sys.flow e in
    carried-each sys.flow e (IsCausedIn sys.flow p) (sent_by sys p (events_at sys.flow p h)) (legal-caused sys h w b l p)

-- it is at stamps of the receiver
pub legal-at : (sys : System) (h : List Event) → IsWellFormed sys.flow → HasEpochs sys → IsLegal sys h → (e : ℕ)
    → AllByRecursion (λ (m : Message). in_domain (bounds_of sys.flow (receiver sys.flow e)) m.at ≡ true) (sent_messages sys h e)
legal-at sys h w b l e =
    each-weaker (λ (m : Message). in_domain (bounds_of_edge sys.flow e) m.at ≡ true) (λ m. in_domain (bounds_of sys.flow (receiver sys.flow e)) m.at ≡ true) (sent_messages sys h e)
    (λ m i. sym (edge-bounds sys.flow w e m.at) ∙ i) (legal_messages-in_domain sys h w b l e)

-- ---- after a recovery

pub events-now : (sys : System) (state : Machine) (choice : Choice) (settled : List Front)
    → events (recovered_state sys state choice settled).history ≡ kept_events sys.flow (kept_of sys.flow choice) (events state.history)
events-now sys state choice settled = filtered-events sys choice state.history

-- what was sent is what the sender keeps
pub sent-now : (sys : System) (state : Machine) (choice : Choice) (settled : List Front) → Recovers sys state choice settled → (e : ℕ)
    → sent_messages sys (events (recovered_state sys state choice settled).history) e
    ≡ messages_from (kept_of sys.flow choice (sender sys.flow e)) (sent_messages sys (events state.history) e)
sent-now sys state choice settled r e =
    let k = knows sys state choice settled r in
    ap (λ vs. sent_messages sys vs e) (events-now sys state choice settled)
    ∙ sends-same sys (events state.history) (kept_of sys.flow choice) r.well_formed.flow k.epochs k.legal k.keeps.kept e

-- of messages with causes of the domain what comes from what a node keeps comes from inside the front of its cut
pub from-cut : (sys : System) (choice : Choice) (p : ℕ) (ms : List Message) → AllByRecursion (IsCausedIn sys.flow p) ms
    → messages_from (kept_of sys.flow choice p) ms ≡ messages_from (inside (front_of_cut (cut_of choice p))) ms
from-cut sys choice p ms a =
    let f = kept_of sys.flow choice p in
    let g = inside (front_of_cut (cut_of choice p)) in
    filter-same_on (λ (m : Message). all_inside f m.causes) (λ m. all_inside g m.causes) ms
    (each-weaker (IsCausedIn sys.flow p) (λ m. all_inside f m.causes ≡ all_inside g m.causes) ms
    (λ m c. all_inside-as f g m.causes
    (each-weaker (λ t. in_domain (bounds_of sys.flow p) t ≡ true) (λ t. f t ≡ g t) m.causes (λ t d. set-inside sys.flow p (cut_of choice p) t d) c)) a)

-- of messages at stamps of the domain what is outside what a node keeps is outside the front of its cut
pub outside-cut : (sys : System) (choice : Choice) (p : ℕ) (ms : List Message) → AllByRecursion (λ (m : Message). in_domain (bounds_of sys.flow p) m.at ≡ true) ms
    → messages_outside (kept_of sys.flow choice p) ms ≡ messages_outside (inside (front_of_cut (cut_of choice p))) ms
outside-cut sys choice p ms a =
    let f = kept_of sys.flow choice p in
    let g = inside (front_of_cut (cut_of choice p)) in
    filter-same_on (λ (m : Message). not (f m.at)) (λ m. not (g m.at)) ms
    (each-weaker (λ (m : Message). in_domain (bounds_of sys.flow p) m.at ≡ true) (λ m. not (f m.at) ≡ not (g m.at)) ms
    (λ m d. ap not (set-inside sys.flow p (cut_of choice p) m.at d)) a)

-- ---- lists

-- what holds of each holds of one that is contained
pub each-contained : {X : Type 0} (P : X → Type 0) (xs : List X) (x : X) → AllByRecursion P xs → Contains xs x → P x
each-contained P xs x a c = subst P c.2 (each-at P xs c.0 x c.1 a)

-- ---- cuts lie within what is settled

-- no edge leads to an input
pub no_input-receives : (flow : Dataflow) → IsWellFormed flow → (e : ℕ) → e < length flow.edges → is_input_kind (kind_of flow (receiver flow e)) ≡ false
no_input-receives flow w e l =
    let q = receiver flow e in
    false_from_ne_true (is_input_kind (kind_of flow q)) (λ i.
    let m = w.receivers_declared e l in
    let none : length (in_edges flow q) ≡ 0 = subst (λ kind. IsInDegree kind (length (in_edges flow q))) (input-is (kind_of flow q) i) (w.in_degrees q m) in
    let one : weigh (at_edge e 1) (in_edges flow q) ≡ 1 = in_edges-once flow q e 1 m ∙ ap (λ b. cond b 1 0) (eq-eqb q q refl) in
    let zeros = no_weight (at_edge e 1) (in_edges flow q) none in
    omega arith)

-- a node that is no input is cut within what is settled
pub cut_within-settled : (sys : System) (state : Machine) (choice : Choice) (settled : List Front) → Recovers sys state choice settled
    → (p : ℕ) → p < length sys.flow.nodes → is_input_kind (kind_of sys.flow p) ≡ false → (f : Front) → cut_of choice p ≡ At f
    → Within (node_frontier sys.flow p f) (node_frontier sys.flow p (front_of state.settled p))
cut_within-settled sys state choice settled r p l n f is =
    candidates-within_settled sys r.reached.0 r.reached.1 state r.reached.2 (is_failed state) kept p f l n
    (subst (IsCandidate sys state (is_failed state) kept p) is (r.largest.consistent.offered p l))

-- of messages at stamps of the domain what is outside a node's frontier is outside its front
pub outside-front : (flow : Dataflow) (p : ℕ) (f : Front) (ms : List Message) → AllByRecursion (λ (m : Message). in_domain (bounds_of flow p) m.at ≡ true) ms
    → messages_outside (node_frontier flow p f) ms ≡ messages_outside (inside f) ms
outside-front flow p f ms a =
    filter-same_on (λ (m : Message). not (node_frontier flow p f m.at)) (λ m. not (inside f m.at)) ms
    (each-weaker (λ (m : Message). in_domain (bounds_of flow p) m.at ≡ true) (λ m. not (node_frontier flow p f m.at) ≡ not (inside f m.at)) ms
    (λ m d. ap not (set-inside flow p (At f) m.at d)) a)

-- at a node whose kind keeps something nothing is given up
pub none_given-up : (sys : System) (low : List Front) (p : ℕ) → may_keep_nothing (kind_of sys.flow p) ≡ false → (vs : List Event)
    → events_inside (not_given_up sys low p) vs ≡ vs
none_given-up sys low p must vs =
    filter-all (λ v. not_given_up sys low p (event_stamp v)) vs
    (each-one (λ v. not_given_up sys low p (event_stamp v) ≡ true) vs (λ v. ap not (and_left _ _ (and_left _ _ must))))
