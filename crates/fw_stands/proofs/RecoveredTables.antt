-- Which tables nodes have after a recovery.
use Rattle.std.proofs.Common.{◌≡◌, ℕ, ◌<◌, Bool, true, false, ◌&&◌, ◌||◌, ◌==◌, not, List, [], length, Some, refl, sym, ap, subst, ◌∙◌, inl, inr, Option, None}
use Rattle.std.proofs.lemmas.Bool.{and_parts, cases_Bool, false_from_ne_true}
use Rattle.fw_lemmas.proofs.Bools.{two_ways}
use Rattle.fw_lemmas.proofs.Each.{each-weaker, each-one}
use Rattle.fw_lemmas.proofs.Filters.{filter-all, filter-none, filter-swap}
use Rattle.fw_time.specs.Stamp.{Stamp, in_domain}
use Rattle.fw_frontier.specs.Frontier.{Frontier, meet, nothing}
use Rattle.fw_frontier.specs.Front.{Front, IsCanonical}
use Rattle.fw_frontier.proofs.NamesLaws.{names-same}
use Rattle.fw_flow.specs.declared.choice.Choice.{Choice}
use Rattle.fw_flow.specs.declared.choice.Cut.{Cut}
use Rattle.fw_flow.specs.declared.choice.Cut.TheVariants.{Present, At}
use Rattle.fw_flow.specs.declared.event.Event.{Event}
use Rattle.fw_flow.specs.Kind.{Kind}
use Rattle.fw_flow.specs.declared.kind.Kind.TheVariants.{Input, OutputEpoch, OutputNumber}
use Rattle.fw_flow.specs.declared.kind.Policy.{Policy}
use Rattle.fw_flow.specs.declared.kind.Policy.TheVariants as policy
use Rattle.fw_flow.specs.declared.restoring.Restoring.TheVariants.{Batches, Bound, Anything, Checkpoints}
use Rattle.fw_flow.specs.Dataflow.{System, Dataflow, kind_of, policy_of, in_edges, bounds_of, node_frontier, is_input_kind, is_output_kind, is_notified_kind}
use Rattle.fw_flow.specs.NodeFunction.{event_node, event_stamp}
use Rattle.fw_flow.specs.Projection.{events_at}
use Rattle.fw_flow.specs.Restoring.{restoring, restoring_of_policy, way_of}
use Rattle.fw_flow.specs.WellFormed.{IsPolicyAllowed, may_keep_nothing}
use Rattle.fw_model.specs.Choice.{kept, cut_of, kept_of, IsCandidate}
use Rattle.fw_model.specs.Covers.{set_of}
use Rattle.fw_model.specs.Filtering.{events_inside}
use Rattle.fw_model.specs.History.{was_delivered_to}
use Rattle.fw_model.specs.LawsOfReplay.{not_given_up, replayed_events}
use Rattle.fw_model.specs.Machine.{Machine, events, front_of, is_failed, no_stamps}
use Rattle.fw_model.specs.Steps.{IsSettledCut, is_kept_write, recovered_state}
use Rattle.fw_model.specs.Told.{is_told, EachDelivery, AreToldInside}
use Rattle.fw_model.proofs.LegalLaws.{legal_events-in_domain}
use Rattle.fw_model.proofs.LocalityLaws.{events_at-kept}
use Rattle.fw_model.proofs.LowLaws.{none-within}
use Rattle.fw_model.proofs.ReplayLaws.{replayed-those}
use Rattle.fw_model.proofs.RestoringLaws.{full-declared}
use Rattle.fw_model.proofs.ToldLaws.{deliveries_lie-inside, paid-told}
use Rattle.fw_node.specs.declared.node.Node.{Node}
use Rattle.fw_node.specs.Arrived.{AreOnEdges}
use Rattle.fw_node.specs.TableOf.{IsTableOf}
use Rattle.fw_node.proofs.OnEdgesLaws.{events_come_on_in_edges}
use Rattle.fw_stands.specs.Recovered.{Recovers}
use Rattle.fw_stands.specs.Parts.{IsTableIn, settles_with_checkpoints, table_front}
use Rattle.fw_stands.specs.Written.{events_within}
use Rattle.fw_stands.proofs.RecoveredFacts.{knows, none_failed, present_lives, cut_within-settled, events-now, none_given-up}
use Rattle.fw_stands.proofs.RedoneLaws.{inside-both, full-inner, delivered-there, each-delivery_both, each-delivery_weaker, told-inside}
use Rattle.fw_stands.proofs.TableLaws.{stands-also}
use Rattle.fw_stands.proofs.NodeCheckpoints.{checkpoints-left}
use Rattle.fw_stands.proofs.TableBaseLaws.{front-settled, newest-cut, same-front, same_table-stands}

-- ---- what is settled

-- the front of a cut is canonical, so that its stamps are of the node's domain
pub cuts-canonical : (sys : System) (state : Machine) (choice : Choice) (settled : List Front) → Recovers sys state choice settled
    → (p : ℕ) → p < length sys.flow.nodes → (f : Front) → cut_of choice p ≡ At f → IsCanonical (bounds_of sys.flow p) f
cuts-canonical sys state choice settled r p l f is =
    (subst (IsCandidate sys state (is_failed state) kept p) is (r.largest.consistent.offered p l)).0

meet-within : (a b : Bool) → (b ≡ true → a ≡ true) → b ≡ (a && b)
meet-within true b h = refl
meet-within false true h = sym (h refl)
meet-within false false h = refl

-- where a node that is no input is cut, what is settled of it is its cut
pub settled-at_cut : (sys : System) (state : Machine) (choice : Choice) (settled : List Front) → Recovers sys state choice settled
    → (p : ℕ) → p < length sys.flow.nodes → is_input_kind (kind_of sys.flow p) ≡ false → (f : Front) → cut_of choice p ≡ At f
    → front_of settled p ≡ f
settled-at_cut sys state choice settled r p l n f is =
    let old = node_frontier sys.flow p (front_of state.settled p) in
    let new = node_frontier sys.flow p f in
    let cut = subst (λ c. IsSettledCut sys p c (front_of state.settled p) (front_of settled p)) is (r.cuts.each p l) in
    let within = cut_within-settled sys state choice settled r p l n f is in
    names-same (bounds_of sys.flow p) (front_of settled p) f (meet old new) cut
    (record { canonical = cuts-canonical sys state choice settled r p l f is; same = λ t. meet-within (old t) (new t) (within t) })

-- ---- the events of a node

events-left : (sys : System) (state : Machine) (choice : Choice) (settled : List Front) (p : ℕ)
    → events_at sys.flow p (events (recovered_state sys state choice settled).history) ≡ events_inside (kept_of sys.flow choice p) (events_at sys.flow p (events state.history))
events-left sys state choice settled p =
    ap (events_at sys.flow p) (events-now sys state choice settled) ∙ events_at-kept sys.flow (kept_of sys.flow choice) p (events state.history)

-- of a node that is cut those inside are left
pub events-cut : (sys : System) (state : Machine) (choice : Choice) (settled : List Front) (p : ℕ) (f : Front) → cut_of choice p ≡ At f
    → events_at sys.flow p (events (recovered_state sys state choice settled).history) ≡ events_inside (node_frontier sys.flow p f) (events_at sys.flow p (events state.history))
events-cut sys state choice settled p f is =
    events-left sys state choice settled p ∙ ap (λ c. events_inside (set_of sys.flow p c) (events_at sys.flow p (events state.history))) is

-- of one that stays as it is all
pub events-present : (sys : System) (state : Machine) (choice : Choice) (settled : List Front) → Recovers sys state choice settled → (p : ℕ) → cut_of choice p ≡ Present
    → events_at sys.flow p (events (recovered_state sys state choice settled).history) ≡ events_at sys.flow p (events state.history)
events-present sys state choice settled r p is =
    let k = knows sys state choice settled r in
    let vs = events_at sys.flow p (events state.history) in
    events-left sys state choice settled p
    ∙ filter-all (λ v. kept_of sys.flow choice p (event_stamp v)) vs
    (each-weaker (λ v. in_domain (bounds_of sys.flow p) (event_stamp v) ≡ true) (λ v. kept_of sys.flow choice p (event_stamp v) ≡ true) vs
    (λ v d. ap (λ c. set_of sys.flow p c (event_stamp v)) is ∙ d) (legal_events-in_domain sys (events state.history) r.well_formed.flow k.epochs k.legal p))

-- ---- which nodes have tables

has-inner : (a b c : Bool) → (a || b) ≡ false → c ≡ false → not (a || (b || c)) ≡ true
has-inner true b c n o = absurd (two_ways true refl n)
has-inner false true c n o = absurd (two_ways true refl n)
has-inner false false true n o = absurd (two_ways true refl o)
has-inner false false false n o = refl

has-none : (a b c : Bool) → (a || b) ≡ true → false ≡ not (a || (b || c))
has-none true b c n = refl
has-none false true c n = refl
has-none false false c n = absurd (two_ways false n refl)

inner-way : (kind : Kind) (p : Policy) → (restoring kind p ≡ Batches → ⊥) → (restoring kind p ≡ Bound → ⊥) → (is_input_kind kind || is_output_kind kind) ≡ false
inner-way Input p a b = absurd (a refl)
inner-way OutputEpoch p a b = absurd (b refl)
inner-way OutputNumber p a b = absurd (b refl)
inner-way kind p a b = refl

inner-anything : (flow : Dataflow) (p : ℕ) → way_of flow p ≡ Anything → (is_input_kind (kind_of flow p) || is_output_kind (kind_of flow p)) ≡ false
inner-anything flow p way =
    inner-way (kind_of flow p) (policy_of flow p)
    (λ e. let x : Batches ≡ Anything = sym e ∙ way in absurd (cc x)) (λ e. let x : Bound ≡ Anything = sym e ∙ way in absurd (cc x))

pub inner-checkpoints : (flow : Dataflow) (p : ℕ) → way_of flow p ≡ Checkpoints → (is_input_kind (kind_of flow p) || is_output_kind (kind_of flow p)) ≡ false
inner-checkpoints flow p way =
    inner-way (kind_of flow p) (policy_of flow p)
    (λ e. let x : Batches ≡ Checkpoints = sym e ∙ way in absurd (cc x)) (λ e. let x : Bound ≡ Checkpoints = sym e ∙ way in absurd (cc x))

full-restoring : (kind : Kind) (p : Policy) → IsPolicyAllowed kind p → p ≡ policy.Full → (is_input_kind kind || is_output_kind kind) ≡ false
full-restoring Input p a is = let e : policy.None ≡ policy.Full = sym a ∙ is in absurd (cc e)
full-restoring OutputEpoch p a is = let e : policy.None ≡ policy.Full = sym a ∙ is in absurd (cc e)
full-restoring OutputNumber p a is = let e : policy.None ≡ policy.Full = sym a ∙ is in absurd (cc e)
full-restoring kind p a is = refl

not_input : (flow : Dataflow) (p : ℕ) → (is_input_kind (kind_of flow p) || is_output_kind (kind_of flow p)) ≡ false → is_input_kind (kind_of flow p) ≡ false
not_input flow p n = by (is_input_kind (kind_of flow p)) (is_output_kind (kind_of flow p)) n
  where
    by : (a b : Bool) → (a || b) ≡ false → a ≡ false
    by true b n = n
    by false b n = refl

-- where a node is restored to anything settled its kind may keep nothing
anything-keeps : (kind : Kind) (p : Policy) → IsPolicyAllowed kind p → restoring kind p ≡ Anything → may_keep_nothing kind ≡ true
anything-keeps kind p a e = by kind p a (as_policy kind e)
  where
    as_policy : (k : Kind) → restoring k p ≡ Anything → restoring_of_policy p ≡ Anything
    as_policy Input e = absurd (cc e)
    as_policy OutputEpoch e = absurd (cc e)
    as_policy OutputNumber e = absurd (cc e)
    as_policy k e = e

    by : (k : Kind) (p : Policy) → IsPolicyAllowed k p → restoring_of_policy p ≡ Anything → may_keep_nothing k ≡ true
    by Input p a e = refl
    by OutputEpoch p a e = refl
    by OutputNumber p a e = refl
    by k policy.None a e = a
    by k policy.Lazy a e = absurd (cc e)
    by k policy.Logged a e = absurd (cc e)
    by k policy.Eager a e = absurd (cc e)
    by k policy.Full a e = absurd (cc e)

-- ---- the tables

-- an input or an output has none
pub tables-borders : (sys : System) (state : Machine) (p : ℕ) → (is_input_kind (kind_of sys.flow p) || is_output_kind (kind_of sys.flow p)) ≡ true
    → IsTableIn sys state p None
tables-borders sys state p border = record {
  there = has-none (is_input_kind (kind_of sys.flow p)) (is_output_kind (kind_of sys.flow p)) (is_failed state p) border;
  of_events = tt;
}

-- a node that stays as it is has the table that it had
pub tables-present : (sys : System) (state : Machine) (choice : Choice) (settled : List Front) → Recovers sys state choice settled
    → (p : ℕ) → p < length sys.flow.nodes → cut_of choice p ≡ Present
    → (table : Option Node) → IsTableIn sys state p table → IsTableIn sys (recovered_state sys state choice settled) p table
tables-present sys state choice settled r p l is table t =
    let next = recovered_state sys state choice settled in
    let front : table_front sys next p ≡ table_front sys state p =
    same-front sys state next p
    (λ c. checkpoints-left p (λ write. is_kept_write (cut_of choice write.node) write.written next.history) state.writes
    (λ x same. ap (λ q. is_kept_write (cut_of choice q) x.written next.history) same ∙ ap (λ (c : Cut). is_kept_write c x.written next.history) is))
    (λ n. subst (λ c. IsSettledCut sys p c (front_of state.settled p) (front_of settled p)) is (r.cuts.each p l)) in
    same_table-stands sys state next p table
    (ap (λ b. not (is_input_kind (kind_of sys.flow p) || (is_output_kind (kind_of sys.flow p) || b)))
    (none_failed sys state choice settled p ∙ sym (present_lives sys state choice settled r p l is)))
    front (events-present sys state choice settled r p is) t

-- so far as a node is cut, which is no input and no output, its table is settled then
cut-front : (sys : System) (state : Machine) (choice : Choice) (settled : List Front) → Recovers sys state choice settled
    → (p : ℕ) → p < length sys.flow.nodes → (is_input_kind (kind_of sys.flow p) || is_output_kind (kind_of sys.flow p)) ≡ false
    → (f : Front) → cut_of choice p ≡ At f → table_front sys (recovered_state sys state choice settled) p ≡ f
cut-front sys state choice settled r p l inner f is =
    let next = recovered_state sys state choice settled in
    elim (cases_Bool (settles_with_checkpoints sys.flow p)) [
      | inl c ↦ newest-cut sys state choice settled r p c f is
      | inr n ↦ front-settled sys next p n ∙ settled-at_cut sys state choice settled r p l (not_input sys.flow p inner) f is
    ]

-- a node that is cut has a table where it stands for the events inside, and no more is settled
pub tables-cut : (sys : System) (state : Machine) (choice : Choice) (settled : List Front) → Recovers sys state choice settled
    → (p : ℕ) → p < length sys.flow.nodes → (is_input_kind (kind_of sys.flow p) || is_output_kind (kind_of sys.flow p)) ≡ false
    → (f : Front) → cut_of choice p ≡ At f
    → (node : Node) → IsTableOf sys.flow p (node_frontier sys.flow p f) node (events_inside (node_frontier sys.flow p f) (events_at sys.flow p (events state.history)))
    → IsTableIn sys (recovered_state sys state choice settled) p (Some node)
tables-cut sys state choice settled r p l inner f is node t =
    let next = recovered_state sys state choice settled in
    let Of : Front → List Event → Type 0 = λ g vs. IsTableOf sys.flow p (node_frontier sys.flow p g) node vs in
    record {
      there = sym (has-inner (is_input_kind (kind_of sys.flow p)) (is_output_kind (kind_of sys.flow p)) (is_failed next p) inner (none_failed sys state choice settled p));
      of_events = subst (λ g. Of g (events_at sys.flow p (events next.history))) (sym (cut-front sys state choice settled r p l inner f is))
          (subst (Of f) (sym (events-cut sys state choice settled p f is)) t);
    }

-- what is known of the events inside a cut
pub record AreInside (flow : Dataflow) (p : ℕ) (f : Frontier) (vs : List Event) : Type 0 where
  pub inside : EachDelivery (λ s. f s ≡ true) vs
  pub in_the_domain : EachDelivery (λ s. in_domain (bounds_of flow p) s ≡ true) vs
  pub on_edges : AreOnEdges (in_edges flow p) vs

pub are-inside : (sys : System) (state : Machine) (choice : Choice) (settled : List Front) → Recovers sys state choice settled
    → (p : ℕ) → p < length sys.flow.nodes → (k : Frontier) → AreInside sys.flow p k (events_inside k (events_at sys.flow p (events state.history)))
are-inside sys state choice settled r p l k =
    let known = knows sys state choice settled r in
    let h = events state.history in
    let vs = events_inside k (events_at sys.flow p h) in
    let D : Stamp → Type 0 = λ s. in_domain (bounds_of sys.flow p) s ≡ true in
    let both = deliveries_lie-inside sys h r.well_formed.flow known.epochs known.legal p k in
    record {
      inside = each-delivery_weaker (λ s. (k s ≡ true) × D s) (λ s. k s ≡ true) vs (λ s a. a.0) both;
      in_the_domain = each-delivery_weaker (λ s. (k s ≡ true) × D s) D vs (λ s a. a.1) both;
      on_edges = (events_come_on_in_edges sys.flow p l h k).1;
    }

-- a node that is restored to anything settled has a new table, to which nothing came
pub tables-new : (sys : System) (state : Machine) (choice : Choice) (settled : List Front) → Recovers sys state choice settled
    → (p : ℕ) → p < length sys.flow.nodes → way_of sys.flow p ≡ Anything → (f : Front) → cut_of choice p ≡ At f
    → (node : Node) → ((inside : Stamp → Bool) → IsTableOf sys.flow p inside node [])
    → IsTableIn sys (recovered_state sys state choice settled) p (Some node)
tables-new sys state choice settled r p l way f is node new =
    let b = node_frontier sys.flow p f in
    let w = r.well_formed.flow in
    let a = are-inside sys state choice settled r p l b in
    tables-cut sys state choice settled r p l (inner-anything sys.flow p way) f is node
    (stands-also sys.flow p b node [] (events_inside b (events_at sys.flow p (events state.history)))
    (anything-keeps (kind_of sys.flow p) (policy_of sys.flow p) (w.policies p l) way) tt a.inside a.on_edges a.in_the_domain (new b))

-- a node that is no input and no output and is cut to no stamps has a new table too
pub tables-nothing : (sys : System) (state : Machine) (choice : Choice) (settled : List Front) → Recovers sys state choice settled
    → (p : ℕ) → p < length sys.flow.nodes → (is_input_kind (kind_of sys.flow p) || is_output_kind (kind_of sys.flow p)) ≡ false
    → cut_of choice p ≡ At (no_stamps (bounds_of sys.flow p))
    → (node : Node) → ((inside : Stamp → Bool) → IsTableOf sys.flow p inside node [])
    → IsTableIn sys (recovered_state sys state choice settled) p (Some node)
tables-nothing sys state choice settled r p l inner is node new =
    let f = no_stamps (bounds_of sys.flow p) in
    let b = node_frontier sys.flow p f in
    let vs = events_at sys.flow p (events state.history) in
    let none : events_inside b vs ≡ [] = filter-none (λ v. b (event_stamp v)) vs (each-one (λ v. b (event_stamp v) ≡ false) vs
    (λ v. false_from_ne_true (b (event_stamp v)) (λ i. two_ways false (none-within (bounds_of sys.flow p) nothing (event_stamp v) i) refl))) in
    tables-cut sys state choice settled r p l inner f is node (subst (IsTableOf sys.flow p b node) (sym none) (new b))

-- the events inside, of the node, in either order of the two tests
pub within-at : (sys : System) (state : Machine) (p : ℕ) (f : Front)
    → events_at sys.flow p (events_within sys state p f) ≡ events_inside (node_frontier sys.flow p f) (events_at sys.flow p (events state.history))
within-at sys state p f =
    let b = node_frontier sys.flow p f in
    let h = events state.history in
    filter-swap (λ v. event_node sys.flow v == p) (λ v. b (event_stamp v)) (λ v. b (event_stamp v)) h
    (each-one (λ v. (event_node sys.flow v == p) ≡ true → b (event_stamp v) ≡ b (event_stamp v)) h (λ v e. refl))

-- ---- from logged events

-- those that are left are the node's inside the cut that are not given up
left-are : (sys : System) (state : Machine) (choice : Choice) (settled : List Front) → Recovers sys state choice settled
    → (p : ℕ) (f : Front) → policy_of sys.flow p ≡ policy.Full → cut_of choice p ≡ At f
    → replayed_events sys state p (node_frontier sys.flow p f)
    ≡ events_inside (λ t. node_frontier sys.flow p f t && not_given_up sys state.low p t) (events_at sys.flow p (events state.history))
left-are sys state choice settled r p f full is =
    replayed-those sys r.well_formed r.reached.0 r.reached.1 state r.reached.2 (is_failed state) choice r.largest p f full is
    ∙ inside-both (node_frontier sys.flow p f) (not_given_up sys state.low p) (events_at sys.flow p (events state.history))

-- of each stamp inside its cut at which one of the logged events that are left delivered something, one of them notifies the node, if
-- it is notified
pub replayed-told : (sys : System) (state : Machine) (choice : Choice) (settled : List Front) → Recovers sys state choice settled
    → (p : ℕ) (f : Front) → policy_of sys.flow p ≡ policy.Full → cut_of choice p ≡ At f → is_notified_kind (kind_of sys.flow p) ≡ true
    → AreToldInside (node_frontier sys.flow p f) (replayed_events sys state p (node_frontier sys.flow p f))
replayed-told sys state choice settled r p f full is n =
    let w = r.well_formed.flow in
    let known = knows sys state choice settled r in
    let h = events state.history in
    let b = node_frontier sys.flow p f in
    let k : Frontier = λ t. b t && not_given_up sys state.low p t in
    let vs = events_at sys.flow p h in
    let us = events_inside k vs in
    let l = full-declared sys.flow p full in
    let Inside : Stamp → Type 0 = λ s. (k s ≡ true) × (in_domain (bounds_of sys.flow p) s ≡ true) in
    let Came : Stamp → Type 0 = λ s. was_delivered_to sys.flow p s h ≡ true in
    let within = cut_within-settled sys state choice settled r p l (full-inner sys.flow w p full) f is in
    subst (AreToldInside b) (sym (left-are sys state choice settled r p f full is))
    (each-delivery_weaker (λ s. Inside s × Came s) (λ s. b s ≡ true → is_told us s ≡ true) us
    (λ s a i. told-inside k vs s a.0.0 (paid-told sys h p s n a.1 (known.full.paid p s (within s i))))
    (each-delivery_both Inside Came us (deliveries_lie-inside sys h w known.epochs known.legal p k) (delivered-there sys.flow p k Came h (λ s i. i))))

-- a node that logs its events and is cut has a table that stands for the logged events that are left, where its cut is settled
pub tables-from_replay : (sys : System) (state : Machine) (choice : Choice) (settled : List Front) → Recovers sys state choice settled
    → (p : ℕ) (f : Front) → policy_of sys.flow p ≡ policy.Full → cut_of choice p ≡ At f
    → (node : Node) → IsTableOf sys.flow p (node_frontier sys.flow p f) node (replayed_events sys state p (node_frontier sys.flow p f))
    → IsTableIn sys (recovered_state sys state choice settled) p (Some node)
tables-from_replay sys state choice settled r p f full is node t =
    let w = r.well_formed.flow in
    let l = full-declared sys.flow p full in
    let h = events state.history in
    let b = node_frontier sys.flow p f in
    let g = not_given_up sys state.low p in
    let k : Frontier = λ s. b s && g s in
    let vs = events_inside b (events_at sys.flow p h) in
    let us = events_inside k (events_at sys.flow p h) in
    let a = are-inside sys state choice settled r p l b in
    let c = are-inside sys state choice settled r p l k in
    let inner = full-restoring (kind_of sys.flow p) (policy_of sys.flow p) (w.policies p l) full in
    let left : replayed_events sys state p b ≡ us = left-are sys state choice settled r p f full is in
    tables-cut sys state choice settled r p l inner f is node
    (elim (cases_Bool (may_keep_nothing (kind_of sys.flow p))) [
      | inl may ↦
          stands-also sys.flow p b node us vs may
          (each-delivery_weaker (λ s. k s ≡ true) (λ s. b s ≡ true) us (λ s i. (and_parts (b s) (g s) i).0) c.inside)
          a.inside a.on_edges a.in_the_domain (subst (IsTableOf sys.flow p b node) left t)
      | inr must ↦
          subst (IsTableOf sys.flow p b node)
          (left ∙ sym (inside-both b g (events_at sys.flow p h)) ∙ none_given-up sys state.low p must vs) t
    ])
