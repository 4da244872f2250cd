-- The stamps of a node's traces, as they are offered to a recovery.
use Rattle.std.proofs.Common.{◌≡◌, ℕ, ◌+◌, ◌<◌, Bool, true, false, ◌&&◌, ◌==◌, cond, List, [], ◌∷◌, ◌++◌, length, map, Option, Some, None, refl, sym, ap, subst, ◌∙◌, arith}
use Rattle.std.specs.Prelude.{filter, option_to_list}
use Rattle.std.specs.List.{AllByRecursion, Contains, flat_map}
use Rattle.std.proofs.lemmas.Bool.{eq-eqb, eqb-true}
use Rattle.std.proofs.lemmas.List.Elements.{filter-append}
use Rattle.fw_lemmas.proofs.Each.{each-weaker, each-append, each-map, each-there}
use Rattle.fw_lemmas.proofs.Filters.{filter-all, filter-none}
use Rattle.fw_time.specs.Stamp.{Stamp, in_domain}
use Rattle.fw_frontier.specs.Frontier.{Frontier}
use Rattle.fw_flow.specs.declared.choice.Counted.{Counted}
use Rattle.fw_flow.specs.declared.event.Event.{Event}
use Rattle.fw_flow.specs.declared.event.Message.{Message}
use Rattle.fw_flow.specs.Dataflow.{System, Dataflow, kind_of, sender, receiver, bounds_of, bounds_of_edge, bounds_of_domain, edges_into, in_edges, out_edges, send_stamp}
use Rattle.fw_flow.specs.NodeFunction.{sent_by}
use Rattle.fw_flow.specs.Projection.{events_at, all_inside}
use Rattle.fw_flow.specs.WellFormed.{IsWellFormed}
use Rattle.fw_model.specs.Sending.{is_single_kind}
use Rattle.fw_model.specs.History.{sent_messages}
use Rattle.fw_model.specs.Offers.{AreAtEdgeStamps, counted_on_edge, stamps_on}
use Rattle.fw_model.proofs.CarriedLaws.{carried-each}
use Rattle.fw_model.proofs.DependenceLaws.{in_edges-each}
use Rattle.fw_model.proofs.LegalLaws.{edge_domains}
use Rattle.fw_model.proofs.SendingLaws.{send_stamp-in_domain}
use Rattle.fw_model.proofs.SendsLaws.{IsOfCause, sent_by-of_cause}
use Rattle.fw_model.proofs.ThinnedLaws.{each-contained}
use Rattle.fw_model.specs.Alike.{StandForCauses}
use Rattle.fw_model.proofs.AlikeLaws.{kept-of_domain, kept-sends}
use Rattle.fw_model.specs.EventStamps.{causes_of, causes_in, StandForSent}
use Rattle.fw_model.specs.EventStamps.{IsOfCause as IsCounted}
use Rattle.fw_progress.specs.Covers.{sent_stamp_at, send_stamps}
use Rattle.fw_progress.specs.StampData.{message_at, message_of, counted_at_stamps, all_delivered}
use Rattle.fw_progress.specs.Traces.{AreOf}
use Rattle.fw_progress.proofs.EventLaws.{ArePicked, how_often, once, once-picked}

-- ---- lists that are joined

-- what holds of each of the lists holds of what they are joined to
pub each-joined : {A B : Type 0} (P : B → Type 0) (g : A → List B) (xs : List A) → AllByRecursion (λ x. AllByRecursion P (g x)) xs → AllByRecursion P (flat_map g xs)
each-joined P g [] a = tt
each-joined P g (x ∷ xs) a = each-append P (g x) (flat_map g xs) a.0 (each-joined P g xs a.1)

-- the messages are all on this edge
abbrev AreAllOn : ℕ → List Counted → Type 0
AreAllOn e ms = AllByRecursion (λ (m : Counted). m.edge ≡ e) ms

on-own : (e : ℕ) (ms : List Counted) → AreAllOn e ms → counted_on_edge e ms ≡ ms
on-own e ms a = filter-all (λ (m : Counted). m.edge == e) ms (each-weaker (λ (m : Counted). m.edge ≡ e) (λ m. (m.edge == e) ≡ true) ms (λ m i. eq-eqb m.edge e i) a)

on-other : (x e : ℕ) (ms : List Counted) → (x == e) ≡ false → AreAllOn x ms → counted_on_edge e ms ≡ []
on-other x e ms n a = filter-none (λ (m : Counted). m.edge == e) ms (each-weaker (λ (m : Counted). m.edge ≡ x) (λ m. (m.edge == e) ≡ false) ms (λ m i. ap (λ y. y == e) i ∙ n) a)

-- of messages that are joined edge by edge, those of an edge that is not among these, and of one that is once
on-absent : (g : ℕ → List Counted) → ((x : ℕ) → AreAllOn x (g x)) → (edges : List ℕ) (e : ℕ) → how_often edges e ≡ 0 → counted_on_edge e (flat_map g edges) ≡ []
on-absent g own [] e z = refl
on-absent g own (x ∷ edges) e z = by (x == e) refl z (on-absent g own edges e)
  where
    by : (b : Bool) → (x == e) ≡ b → cond b (how_often edges e + 1) (how_often edges e) ≡ 0 → (how_often edges e ≡ 0 → counted_on_edge e (flat_map g edges) ≡ []) → counted_on_edge e (g x ++ flat_map g edges) ≡ []
    by true k y f = absurd (omega (arith, y))
    by false k y f = filter-append (λ (m : Counted). m.edge == e) (g x) (flat_map g edges) ∙ ap (λ ms. ms ++ counted_on_edge e (flat_map g edges)) (on-other x e (g x) k (own x)) ∙ f y

pub on-once : (g : ℕ → List Counted) → ((x : ℕ) → AreAllOn x (g x)) → (edges : List ℕ) (e : ℕ) → how_often edges e ≡ 1 → counted_on_edge e (flat_map g edges) ≡ g e
on-once g own [] e z = absurd (omega arith)
on-once g own (x ∷ edges) e z = by (x == e) refl z (on-once g own edges e)
  where
    none : {A : Type 0} (xs : List A) → xs ++ [] ≡ xs
    none [] = refl
    none (y ∷ ys) = ap (λ zs. y ∷ zs) (none ys)

    by : (b : Bool) → (x == e) ≡ b → cond b (how_often edges e + 1) (how_often edges e) ≡ 1 → (how_often edges e ≡ 1 → counted_on_edge e (flat_map g edges) ≡ g e) → counted_on_edge e (g x ++ flat_map g edges) ≡ g e
    by true k y f =
        let i : x ≡ e = eqb-true x e k in
        filter-append (λ (m : Counted). m.edge == e) (g x) (flat_map g edges)
        ∙ ap (λ ms. counted_on_edge e (g x) ++ ms) (on-absent g own edges e (omega (arith, y))) ∙ none (counted_on_edge e (g x))
        ∙ subst (λ n. counted_on_edge e (g n) ≡ g e) (sym i) (on-own e (g e) (own e))
    by false k y f = filter-append (λ (m : Counted). m.edge == e) (g x) (flat_map g edges) ∙ ap (λ ms. ms ++ counted_on_edge e (flat_map g edges)) (on-other x e (g x) k (own x)) ∙ f y

-- ---- each edge is once among the in-edges of its receiver

once-in : (flow : Dataflow) (d : ℕ) → d < length flow.edges → how_often (in_edges flow (receiver flow d)) d ≡ 1
unfolding in_edges receiver
once-in flow d l =
    let picked : ArePicked (λ n es. edges_into n es (receiver flow d)) (λ e. e.receiver) (receiver flow d) = record { none = λ n. refl; more = λ n e es. refl } in
    once-picked picked 0 d d flow.edges (record { name = []; sender = length flow.nodes; receiver = length flow.nodes }) (omega arith) l
    ∙ ap (λ b. cond b 1 0) (eq-eqb (receiver flow d) (receiver flow d) refl)

pub once-out : (flow : Dataflow) (e : ℕ) → e < length flow.edges → how_often (out_edges flow (sender flow e)) e ≡ 1
once-out flow e l = once flow (sender flow e) e l ∙ ap (λ b. cond b 1 0) (eq-eqb (sender flow e) (sender flow e) refl)

-- ---- what was delivered

delivered-own : (x : ℕ) (ss : List Stamp) → AreAllOn x (map (message_at x) ss)
delivered-own x [] = tt
delivered-own x (s ∷ ss) = (refl, delivered-own x ss)

delivered-stamps : (d : ℕ) (ss : List Stamp) → map (λ (m : Counted). m.at) (map (message_at d) ss) ≡ ss
delivered-stamps d [] = refl
delivered-stamps d (s ∷ ss) = ap (λ ts. s ∷ ts) (delivered-stamps d ss)

pub delivered-on : (flow : Dataflow) (p : ℕ) (kept : ℕ → List Stamp) (d : ℕ) → d < length flow.edges → receiver flow d ≡ p → stamps_on d (all_delivered flow p kept) ≡ kept d
delivered-on flow p kept d l r =
    ap (map (λ (m : Counted). m.at)) (on-once (λ x. map (message_at x) (kept x)) (λ x. delivered-own x (kept x)) (in_edges flow p) d (subst (λ q. how_often (in_edges flow q) d ≡ 1) r (once-in flow d l)))
    ∙ delivered-stamps d (kept d)

pub delivered-on_edges : (flow : Dataflow) (p : ℕ) (kept : ℕ → List Stamp) → ((d : ℕ) → d < length flow.edges → receiver flow d ≡ p → AreOf (bounds_of flow p) (kept d))
    → AreAtEdgeStamps flow (all_delivered flow p kept)
delivered-on_edges flow p kept of =
    each-joined P (λ d. map (message_at d) (kept d)) (in_edges flow p)
    (each-weaker (λ d. (d < length flow.edges) × (receiver flow d ≡ p)) (λ d. AllByRecursion P (map (message_at d) (kept d))) (in_edges flow p)
    (λ d i. each-map P (message_at d) (kept d)
    (each-weaker (λ s. in_domain (bounds_of flow p) s ≡ true) (λ s. P (message_at d s)) (kept d) (λ s k. ap (λ q. in_domain (bounds_of flow q) s) i.1 ∙ k) (of d i.0 i.1)))
    (in_edges-each flow p))
  where
    P : Counted → Type 0
    P m = in_domain (bounds_of flow (receiver flow m.edge)) m.at ≡ true

-- ---- what was sent

-- a node sends by its event at the stamp, which is of its domain
abbrev pub Sends : Dataflow → ℕ → Stamp → Type 0
Sends flow p s = (in_domain (bounds_of flow p) s ≡ true) × (w : Stamp) × (send_stamp flow p s ≡ Some w)

pub sends-some : (flow : Dataflow) (p : ℕ) (s : Stamp) → (i : Sends flow p s) → sent_stamp_at flow p s ≡ Some i.1
sends-some flow p s i = ap (λ b. cond b (send_stamp flow p s) None) i.0 ∙ i.2

message-own : (e : ℕ) (cause : Stamp) (at : Option Stamp) → AreAllOn e (message_of e cause at)
message-own e cause None = tt
message-own e cause (Some at) = (refl, tt)

pub messages-own : (flow : Dataflow) (p : ℕ) (ss : List Stamp) (e : ℕ) → AreAllOn e (counted_at_stamps flow p ss e)
messages-own flow p [] e = tt
messages-own flow p (s ∷ ss) e = each-append (λ (m : Counted). m.edge ≡ e) (message_of e s (sent_stamp_at flow p s)) (counted_at_stamps flow p ss e) (message-own e s (sent_stamp_at flow p s)) (messages-own flow p ss e)

pub messages-causes : (flow : Dataflow) (p : ℕ) (ss : List Stamp) (e : ℕ) → AllByRecursion (Sends flow p) ss → causes_of (counted_at_stamps flow p ss e) ≡ ss
messages-causes flow p [] e a = refl
messages-causes flow p (s ∷ ss) e a =
    ap (λ w. causes_of (message_of e s w ++ counted_at_stamps flow p ss e)) (sends-some flow p s a.0) ∙ ap (λ ts. s ∷ ts) (messages-causes flow p ss e a.1)

pub messages-of_cause : (flow : Dataflow) (p : ℕ) (ss : List Stamp) (e : ℕ) → AllByRecursion (Sends flow p) ss → AllByRecursion (IsCounted flow p) (counted_at_stamps flow p ss e)
messages-of_cause flow p [] e a = tt
messages-of_cause flow p (s ∷ ss) e a =
    subst (λ w. AllByRecursion (IsCounted flow p) (message_of e s w ++ counted_at_stamps flow p ss e)) (sym (sends-some flow p s a.0)) ((s, a.0.2, refl), messages-of_cause flow p ss e a.1)

-- the stamp at which a node sends is one of each receiver's domain
sent-receiver : (flow : Dataflow) → IsWellFormed flow → (p e : ℕ) → sender flow e ≡ p → (s w : Stamp) → in_domain (bounds_of flow p) s ≡ true → send_stamp flow p s ≡ Some w
    → in_domain (bounds_of flow (receiver flow e)) w ≡ true
unfolding bounds_of
sent-receiver flow well p e r s w d i =
    sym (ap (λ x. in_domain (bounds_of_domain flow x) w) (edge_domains flow well e))
    ∙ subst (λ q. in_domain (bounds_of flow q) s ≡ true → send_stamp flow q s ≡ Some w → in_domain (bounds_of_edge flow e) w ≡ true) r (send_stamp-in_domain flow (sender flow e) s w) d i

pub messages-on_edges : (flow : Dataflow) → IsWellFormed flow → (p : ℕ) (ss : List Stamp) (e : ℕ) → sender flow e ≡ p → AllByRecursion (Sends flow p) ss
    → AllByRecursion (λ (m : Counted). in_domain (bounds_of flow (receiver flow m.edge)) m.at ≡ true) (counted_at_stamps flow p ss e)
messages-on_edges flow well p [] e r a = tt
messages-on_edges flow well p (s ∷ ss) e r a =
    subst (λ w. AllByRecursion (λ (m : Counted). in_domain (bounds_of flow (receiver flow m.edge)) m.at ≡ true) (message_of e s w ++ counted_at_stamps flow p ss e)) (sym (sends-some flow p s a.0))
    (sent-receiver flow well p e r s a.0.1 a.0.0 a.0.2, messages-on_edges flow well p ss e r a.1)

-- each cause of what was sent sends
causes-send : (flow : Dataflow) (p : ℕ) (ms : List Message) → AllByRecursion (IsOfCause flow p) ms → AllByRecursion (λ t. (w : Stamp) × (send_stamp flow p t ≡ Some w)) (causes_in ms)
unfolding IsOfCause
causes-send flow p [] a = tt
causes-send flow p (m ∷ ms) a =
    let c = a.0 in
    let Q : Stamp → Type 0 = λ t. (w : Stamp) × (send_stamp flow p t ≡ Some w) in
    subst (λ (cs : List Stamp). AllByRecursion Q (cs ++ causes_in ms)) (sym c.2) ((m.at, c.1), causes-send flow p ms a.1)

-- each stamp that is among the causes of what was sent on an edge sends
pub kept-send : (sys : System) (h : List Event) (e : ℕ) (whole : Bool) (base : Frontier) (kept : List Stamp) → is_single_kind (kind_of sys.flow (sender sys.flow e)) ≡ true
    → AreOf (bounds_of sys.flow (sender sys.flow e)) (causes_in (sent_messages sys h e))
    → StandForCauses sys.flow (sender sys.flow e) whole base (causes_in (sent_messages sys h e)) kept → AllByRecursion (Sends sys.flow (sender sys.flow e)) kept
kept-send sys h e whole base kept n d s =
    let p = sender sys.flow e in
    let all = causes_in (sent_messages sys h e) in
    let P : Stamp → Type 0 = λ t. (w : Stamp) × (send_stamp sys.flow p t ≡ Some w) in
    let sends = causes-send sys.flow p (sent_messages sys h e)
    (carried-each sys.flow e (IsOfCause sys.flow p) (sent_by sys p (events_at sys.flow p h)) (sent_by-of_cause sys p n (events_at sys.flow p h))) in
    each-weaker (Contains kept) (Sends sys.flow p) kept
    (λ t c.
    let own = each-contained (λ u. in_domain (bounds_of sys.flow p) u ≡ true) t kept c (kept-of_domain sys.flow p whole base all kept s d) in
    let k = kept-sends sys.flow p whole base all kept s (λ u k. each-contained P u all k sends) t c in
    (own, k.0, k.1)) (each-there kept)

-- at which stamps messages of these causes are that come from inside a set
pub messages-inside : (flow : Dataflow) (p : ℕ) (ss : List Stamp) (e : ℕ) (f : Frontier)
    → map (λ (m : Counted). m.at) (filter (λ (m : Counted). all_inside f m.causes) (counted_at_stamps flow p ss e)) ≡ send_stamps flow p (filter f ss)
messages-inside flow p [] e f = refl
messages-inside flow p (s ∷ ss) e f = by (f s) refl (messages-inside flow p ss e f)
  where
    at : Counted → Stamp
    at m = m.at

    one : Stamp → Counted
    one w = record { edge = e; at = w; causes = s ∷ []; count = 1 }

    rest : List Counted
    rest = filter (λ (m : Counted). all_inside f m.causes) (counted_at_stamps flow p ss e)

    kept : (w : Option Stamp) → f s ≡ true → map at rest ≡ send_stamps flow p (filter f ss)
        → map at (filter (λ (m : Counted). all_inside f m.causes) (message_of e s w ++ counted_at_stamps flow p ss e)) ≡ option_to_list w ++ send_stamps flow p (filter f ss)
    kept None k ih = ih
    kept (Some w) k ih = ap (λ b. map at (cond (b && true) (one w ∷ rest) rest)) k ∙ ap (λ ts. w ∷ ts) ih

    gone : (w : Option Stamp) → f s ≡ false → map at rest ≡ send_stamps flow p (filter f ss)
        → map at (filter (λ (m : Counted). all_inside f m.causes) (message_of e s w ++ counted_at_stamps flow p ss e)) ≡ send_stamps flow p (filter f ss)
    gone None k ih = ih
    gone (Some w) k ih = ap (λ b. map at (cond (b && true) (one w ∷ rest) rest)) k ∙ ih

    by : (b : Bool) → f s ≡ b → map at rest ≡ send_stamps flow p (filter f ss)
        → map at (filter (λ (m : Counted). all_inside f m.causes) (counted_at_stamps flow p (s ∷ ss) e)) ≡ send_stamps flow p (cond b (s ∷ filter f ss) (filter f ss))
    by true k ih = kept (sent_stamp_at flow p s) k ih
    by false k ih = gone (sent_stamp_at flow p s) k ih

-- ---- all of it

pub sent-on : (flow : Dataflow) (p : ℕ) (kept : ℕ → List Stamp) (e : ℕ) → e < length flow.edges → sender flow e ≡ p
    → counted_on_edge e (flat_map (λ d. counted_at_stamps flow p (kept d) d) (out_edges flow p)) ≡ counted_at_stamps flow p (kept e) e
sent-on flow p kept e l r =
    on-once (λ d. counted_at_stamps flow p (kept d) d) (λ d. messages-own flow p (kept d) d) (out_edges flow p) e (subst (λ q. how_often (out_edges flow q) e ≡ 1) r (once-out flow e l))

-- what stands for what a node sent on an edge
pub stands-for_sent : (whole : Bool) (sys : System) (h : List Event) (p : ℕ) (base : Frontier) (ss : List Stamp) (e : ℕ) → e < length sys.flow.edges → sender sys.flow e ≡ p
    → AllByRecursion (Sends sys.flow p) ss → StandForCauses sys.flow p whole base (causes_in (sent_messages sys h e)) ss
    → StandForSent whole sys h p base e (counted_at_stamps sys.flow p ss e)
stands-for_sent whole sys h p base ss e l r a t = record {
  of_cause = messages-of_cause sys.flow p ss e a;
  thinned = subst (StandForCauses sys.flow p whole base (causes_in (sent_messages sys h e))) (sym (messages-causes sys.flow p ss e a)) t;
}
