-- A node stands for a chain of states that is one longer, where it takes in what changed.
use Rattle.std.proofs.Common.{◌≡◌, ◌∙◌, ℕ, Bool, true, not, List, [], ◌∷◌, ◌++◌, length, refl, sym, ap, subst, inl, inr}
use Rattle.std.proofs.lemmas.Bool.{and_parts, cases_Bool}
use Rattle.fw_lemmas.proofs.Each.{each-one}
use Rattle.fw_lemmas.proofs.Filters.{filter-in, filter-inner, filter-out}
use Rattle.fw_time.specs.Stamp.{Stamp, in_domain}
use Rattle.fw_bag.specs.declared.rec.Rec.{Rec}
use Rattle.fw_frontier.specs.Frontier.{Frontier, Within}
use Rattle.fw_frontier.specs.Front.{Front, inside}
use Rattle.fw_frontier.specs.declared.state.State.{State}
use Rattle.fw_flow.specs.declared.event.Event.{Event}
use Rattle.fw_flow.specs.declared.event.Event.TheVariants.{Inject, Deliver, Notify}
use Rattle.fw_flow.specs.declared.event.Message.{Message}
use Rattle.fw_flow.specs.Kind.{Kind}
use Rattle.fw_flow.specs.Dataflow.{Dataflow, kind_of, in_edges, bounds_of, node_frontier}
use Rattle.fw_flow.specs.NodeFunction.{delivered_recs, event_stamp}
use Rattle.fw_model.specs.Filtering.{events_inside}
use Rattle.fw_model.specs.Told.{EachDelivery}
use Rattle.fw_node.specs.declared.node.Node.{Node}
use Rattle.fw_node.specs.Arrived.{AreOnEdges}
use Rattle.fw_node.specs.ChainOf.{last_front, HaveChanges, IsOfChain, ChainOfOneIsAState}
use Rattle.fw_node.specs.Past.{totals_changed, totals_kept}
use Rattle.fw_node.specs.StateOf.{IsStateOf, IsStateSince}
use Rattle.fw_node.specs.TableOf.{IsTableOf}
use Rattle.fw_node.proofs.InsideLaws.{recs-whole, sent-whole}
use Rattle.fw_node.proofs.NodeLaws.{each_of}

-- ---- events inside

-- of the events inside b those inside k, which lies within it
pub inner : (k b : Frontier) → Within k b → (vs : List Event) → events_inside k (events_inside b vs) ≡ events_inside k vs
inner k b w vs =
    filter-inner (λ (v : Event). k (event_stamp v)) (λ v. b (event_stamp v)) vs
    (each-one (λ (v : Event). k (event_stamp v) ≡ true → b (event_stamp v) ≡ true) vs (λ v. w (event_stamp v)))

-- what holds of each stamp inside holds of each delivery inside
deliveries-inside : (P : Stamp → Type 0) (b : Frontier) → ((s : Stamp) → b s ≡ true → P s) → (vs : List Event) → EachDelivery P (events_inside b vs)
deliveries-inside P b h [] = tt
deliveries-inside P b h (v ∷ vs) =
    let rest = deliveries-inside P b h vs in
    elim (cases_Bool (b (event_stamp v))) [
      | inl i ↦ subst (EachDelivery P) (sym (filter-in (λ (u : Event). b (event_stamp u)) v vs i)) (by v i rest)
      | inr o ↦ subst (EachDelivery P) (sym (filter-out (λ (u : Event). b (event_stamp u)) v vs o)) rest
    ]
  where
    by : (u : Event) → b (event_stamp u) ≡ true → EachDelivery P (events_inside b vs) → EachDelivery P (u ∷ events_inside b vs)
    by (Inject s x) i rest = rest
    by (Deliver e m) i rest = (h m.at i, rest)
    by (Notify p t) i rest = rest

on_edges-inside : (ins : List ℕ) (b : Frontier) (vs : List Event) → AreOnEdges ins vs → AreOnEdges ins (events_inside b vs)
on_edges-inside ins b [] a = tt
on_edges-inside ins b (v ∷ vs) a =
    let more = on_edges-inside ins b vs (rest v a) in
    elim (cases_Bool (b (event_stamp v))) [
      | inl i ↦ subst (AreOnEdges ins) (sym (filter-in (λ (u : Event). b (event_stamp u)) v vs i)) (by v a more)
      | inr o ↦ subst (AreOnEdges ins) (sym (filter-out (λ (u : Event). b (event_stamp u)) v vs o)) more
    ]
  where
    rest : (u : Event) → AreOnEdges ins (u ∷ vs) → AreOnEdges ins vs
    rest (Inject s x) a = a
    rest (Deliver e m) a = a.1
    rest (Notify p t) a = a

    by : (u : Event) → AreOnEdges ins (u ∷ vs) → AreOnEdges ins (events_inside b vs) → AreOnEdges ins (u ∷ events_inside b vs)
    by (Inject s x) a more = more
    by (Deliver e m) a more = (a.0, more)
    by (Notify p t) a more = more

-- ---- changes

last-more : (f : Front) (done : List (Front × State)) (c : Front × State) → last_front f (done ++ c ∷ []) ≡ c.0
last-more f [] c = refl
last-more f (d ∷ done) c = last-more d.0 done c

pub within-last : (flow : Dataflow) (p : ℕ) (before : List Event) (cs : List (Front × State)) (g : Front) → HaveChanges flow p before g cs
    → Within (node_frontier flow p g) (node_frontier flow p (last_front g cs))
within-last flow p before [] g h = λ t i. i
within-last flow p before (c ∷ cs) g h = λ t i. within-last flow p before cs c.0 h.2 t (h.0 t i)

changes-inner : (flow : Dataflow) (p : ℕ) (b : Frontier) (before : List Event) (cs : List (Front × State)) (g : Front)
    → Within (node_frontier flow p (last_front g cs)) b → HaveChanges flow p before g cs → HaveChanges flow p (events_inside b before) g cs
changes-inner flow p b before [] g w h = tt
changes-inner flow p b before (c ∷ cs) g w h =
    let to_last = within-last flow p before cs c.0 h.2 in (
      h.0,
      subst (λ us. IsStateSince (kind_of flow p) (node_frontier flow p g) us c.1) (sym (inner (node_frontier flow p c.0) b (λ t i. w t (to_last t i)) before)) h.1,
      changes-inner flow p b before cs c.0 w h.2,
    )

-- What more is known of one that follows the others.
abbrev FollowsLast : Dataflow → ℕ → List Event → Front → Front × State → Type 0
FollowsLast flow p before g c =
    Within (node_frontier flow p g) (node_frontier flow p c.0)
    × IsStateSince (kind_of flow p) (node_frontier flow p g) (events_inside (node_frontier flow p c.0) before) c.1

changes-parts : (flow : Dataflow) (p : ℕ) (before : List Event) (done : List (Front × State)) (g : Front) (c : Front × State) → HaveChanges flow p before g (done ++ c ∷ [])
    → HaveChanges flow p before g done × FollowsLast flow p before (last_front g done) c
changes-parts flow p before [] g c h = (tt, (h.0, h.1))
changes-parts flow p before (d ∷ done) g c h = let r = changes-parts flow p before done d.0 c h.2 in ((h.0, h.1, r.0), r.1)

-- ---- all deliveries inside

-- where all deliveries lie inside, the events inside have the state that all have
state-inside : (k : Kind) (b : Frontier) (before : List Event) (state : State) → EachDelivery (λ s. b s ≡ true) before
    → IsStateOf k before state → IsStateOf k (events_inside b before) state
state-inside k b before state each h = record {
  totals = h.totals ∙ sym (ap (totals_kept k) (recs-whole (λ s. true) b before each));
  sent = λ is. h.sent is ∙ sym (ap (λ (ms : List Message). length ms) (sent-whole b before each));
}

-- and all have the state of the events inside
state-whole : (k : Kind) (b : Frontier) (before : List Event) (state : State) → EachDelivery (λ s. b s ≡ true) before
    → IsStateOf k (events_inside b before) state → IsStateOf k before state
state-whole k b before state each h = record {
  totals = h.totals ∙ ap (totals_kept k) (recs-whole (λ s. true) b before each);
  sent = λ is. h.sent is ∙ ap (λ (ms : List Message). length ms) (sent-whole b before each);
}

-- so it is with what changed
since-whole : (k : Kind) (g : Stamp → Bool) (b : Frontier) (before : List Event) (state : State) → EachDelivery (λ s. b s ≡ true) before
    → IsStateSince k g (events_inside b before) state → IsStateSince k g before state
since-whole k g b before state each h = record {
  totals = h.totals
      ∙ ap (λ (rs : List Rec). totals_changed k rs (delivered_recs (λ d s. true) (events_inside b before))) (recs-whole (λ s. not (g s)) b before each)
      ∙ ap (totals_changed k (delivered_recs (λ d s. not (g s)) before)) (recs-whole (λ s. true) b before each);
  sent = λ is. h.sent is ∙ ap (λ (ms : List Message). length ms) (sent-whole b before each);
}

-- the stamps inside a front are the domain's
in-domain : (flow : Dataflow) (p : ℕ) (f : Front) (before : List Event) → EachDelivery (λ s. node_frontier flow p f s ≡ true) before
    → EachDelivery (λ s. (node_frontier flow p f s ≡ true) × (in_domain (bounds_of flow p) s ≡ true)) before
in-domain flow p f before each =
    each_of (λ s. node_frontier flow p f s ≡ true) (λ s. (node_frontier flow p f s ≡ true) × (in_domain (bounds_of flow p) s ≡ true))
    (λ s i. (i, (and_parts (in_domain (bounds_of flow p) s) (inside f s) i).0)) before each

-- ---- one more

-- a node that stands for a chain and takes in what changed up to another front stands for the longer chain
pub chain-more : (flow : Dataflow) (p : ℕ) (f : Front) (state : State) (done : List (Front × State)) (c : Front × State) (node next : Node) → IsOfChain flow p f state done node
    → ((settled after : Stamp → Bool) (before : List Event) → EachDelivery (λ s. (after s ≡ true) × (in_domain (bounds_of flow p) s ≡ true)) before
    → AreOnEdges (in_edges flow p) before → IsTableOf flow p settled node (events_inside settled before) → IsStateSince (kind_of flow p) settled before c.1
    → IsTableOf flow p after next before)
    → IsOfChain flow p f state (done ++ c ∷ []) next
chain-more flow p f state done c node next stands takes = λ before all on first changes.
    let last = last_front f done in
    let k = node_frontier flow p last in
    let b = node_frontier flow p c.0 in
    let parts = changes-parts flow p before done f c changes in
    let each : EachDelivery (λ s. b s ≡ true) before =
    subst (λ (x : Front). EachDelivery (λ s. node_frontier flow p x s ≡ true) before) (last-more f done c) all in
    let from_first = within-last flow p before done f parts.0 in
    subst (λ x. IsTableOf flow p (node_frontier flow p x) next before) (sym (last-more f done c))
    (takes k b before (in-domain flow p c.0 before each) on
    (stands (events_inside k before) (deliveries-inside (λ s. k s ≡ true) k (λ s i. i) before) (on_edges-inside (in_edges flow p) k before on)
    (subst (λ us. IsStateOf (kind_of flow p) us state) (sym (inner (node_frontier flow p f) k from_first before)) first)
    (changes-inner flow p k before done f (λ t i. i) parts.0))
    (since-whole (kind_of flow p) k b before c.1 each parts.1.1))

-- a node that stands for all events inside f that have a state stands for the chain of this one alone
pub chain-first : (flow : Dataflow) (p : ℕ) (f : Front) (state : State) (node : Node)
    → ((settled : Stamp → Bool) (before : List Event) → EachDelivery (λ s. (settled s ≡ true) × (in_domain (bounds_of flow p) s ≡ true)) before
    → AreOnEdges (in_edges flow p) before → IsStateOf (kind_of flow p) before state → IsTableOf flow p settled node before)
    → IsOfChain flow p f state [] node
chain-first flow p f state node of = λ before all on first changes.
    let b = node_frontier flow p f in
    of b before (in-domain flow p f before all) on (state-whole (kind_of flow p) b before state all first)

pub chain_of_one_is_a_state : ChainOfOneIsAState
chain_of_one_is_a_state flow p f state node chain = λ before all on is.
    chain before all on (state-inside (kind_of flow p) (node_frontier flow p f) before state all is) tt
