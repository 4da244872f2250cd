-- What arrives at a node, as the bags on its in-edges and as its list of events.
use Rattle.std.proofs.Common.{◌≡◌, ℕ, zero, suc, ◌+◌, ◌<◌, ◌≤◌, Bool, true, false, cond, ◌==◌, List, [], ◌∷◌, ◌++◌, length, map, get_or, refl, sym, ap, subst, ◌∙◌, inl, inr, arith}
use Rattle.std.specs.List.{AllByRecursion}
use Rattle.std.proofs.lemmas.Bool.{cond_both, cond-true, cond-false, cases_lt, eq-eqb, ne_eqb}
use Rattle.std.proofs.lemmas.List.{get_or_past}
use Rattle.fw_lemmas.proofs.Each.{each-weaker}
use Rattle.fw_flow.specs.declared.event.Event.{Event}
use Rattle.fw_flow.specs.declared.event.Event.TheVariants.{Inject, Deliver, Notify}
use Rattle.fw_flow.specs.declared.event.Message.{Message}
use Rattle.fw_flow.specs.declared.node.Edge.{Edge}
use Rattle.fw_flow.specs.Dataflow.{Dataflow, receiver, edges_into, in_edges, System, kind_of, HasEpochs}
use Rattle.fw_flow.specs.Projection.{events_at}
use Rattle.fw_flow.specs.WholeBags.{Timed, joint_bag, outputs_of_kind}
use Rattle.fw_model.specs.History.{delivered_messages, is_owed_notice, IsLegal}
use Rattle.fw_model.proofs.WeightLaws.{weigh, weigh-append, weigh-none, weigh-same, one, weigh-lighter}
use Rattle.fw_model.proofs.SentLaws.{timed_message, timed_of}
use Rattle.fw_flow.proofs.EdgeLaws.{into-from}
use Rattle.fw_time.specs.Stamp.{Stamp}
use Rattle.fw_bag.specs.declared.rec.Rec.{Rec}
use Rattle.fw_flow.specs.Kind.{Kind}
use Rattle.fw_flow.specs.NodeFunction.{sent_by}
use Rattle.fw_flow.specs.WellFormed.{IsWellFormed}
use Rattle.fw_model.specs.Wholes.{IsFewerWhere, AgreeWhere, MakesFewer, MakesTheSame}

-- ---- sums over in-edges

pub weigh-both : {A : Type 0} (w u : A → ℕ) (xs : List A) → weigh (λ x. w x + u x) xs ≡ weigh w xs + weigh u xs
unfolding weigh
weigh-both w u [] = refl
weigh-both w u (x ∷ xs) = let h = weigh-both w u xs in omega arith

-- the in-edges of a node are edges that it receives
pub in_edges-receive : (flow : Dataflow) (p : ℕ) → AllByRecursion (λ d. (d < length flow.edges) × (receiver flow d ≡ p)) (in_edges flow p)
unfolding in_edges receiver
in_edges-receive flow p =
    let P : ℕ → Type 0 = λ d. (d < length flow.edges) × (receiver flow d ≡ p) in
    into-from P 0 flow.edges p (record { name = []; sender = length flow.nodes; receiver = length flow.nodes }) (λ i l e. let s : i ≡ 0 + i = omega arith in subst P s (l, e))

-- the number at the edge, and 0 at the others
abbrev pub at_edge : ℕ → ℕ → ℕ → ℕ
at_edge e n d = cond (e == d) n 0

at_edge-other : (e n d : ℕ) → (e ≡ d → ⊥) → at_edge e n d ≡ 0
at_edge-other e n d k = cond-false (e == d) n 0 (ne_eqb e d k)

into-before : (es : List Edge) (z : Edge) (k e n p : ℕ) → e < k → weigh (at_edge e n) (edges_into k es p) ≡ 0
into-before es z k e n p l =
    weigh-none (at_edge e n) (edges_into k es p) (into-from (λ d. at_edge e n d ≡ 0) k es p z (λ i j r. at_edge-other e n (k + i) (λ q. omega arith)))

into-past : (es : List Edge) (z : Edge) (k e n p : ℕ) → k + length es ≤ e → weigh (at_edge e n) (edges_into k es p) ≡ 0
into-past es z k e n p l =
    weigh-none (at_edge e n) (edges_into k es p) (into-from (λ d. at_edge e n d ≡ 0) k es p z (λ i j r. at_edge-other e n (k + i) (λ q. omega arith)))

once_cases : (g : ℕ → ℕ) (n : ℕ) (b : Bool) (xs ys : List ℕ) → weigh g xs ≡ n → weigh g ys ≡ 0 → weigh g (cond b xs ys) ≡ cond b n 0
once_cases g n true xs ys k l = k
once_cases g n false xs ys k l = l

into-once : (es : List Edge) (z : Edge) (k i e n p : ℕ) → e ≡ k + i → i < length es
    → weigh (at_edge e n) (edges_into k es p) ≡ cond ((get_or es i z).receiver == p) n 0
unfolding weigh
into-once [] z k i e n p s l = absurd (omega arith)
into-once (x ∷ es) z k zero e n p s l =
    let here : at_edge e n k ≡ n = cond-true (e == k) n 0 (eq-eqb e k (omega arith)) in
    let rest = into-before es z (k + 1) e n p (omega arith) in
    once_cases (at_edge e n) n (x.receiver == p) (k ∷ edges_into (k + 1) es p) (edges_into (k + 1) es p) (omega arith) rest
into-once (x ∷ es) z k (suc i) e n p s l =
    let here = at_edge-other e n k (λ q. omega arith) in
    let rest = into-once es z (k + 1) i e n p (omega arith) (omega arith) in
    cond_both (x.receiver == p) (k ∷ edges_into (k + 1) es p) (edges_into (k + 1) es p)
    (λ ds. weigh (at_edge e n) ds ≡ cond ((get_or es i z).receiver == p) n 0) (λ q. omega arith) (λ q. rest)

-- an edge is once among the in-edges of its receiver, and not among those of other nodes
pub in_edges-once : (flow : Dataflow) (p e n : ℕ) → p < length flow.nodes → weigh (at_edge e n) (in_edges flow p) ≡ cond (receiver flow e == p) n 0
unfolding in_edges receiver
in_edges-once flow p e n l =
    let z : Edge = record { name = []; sender = length flow.nodes; receiver = length flow.nodes } in
    elim (cases_lt e (length flow.edges)) [
      | inl i ↦ into-once flow.edges z 0 e e n p (omega arith) i
      | inr i ↦
          let past = ap (λ d. d.receiver) (get_or_past flow.edges e z i) in
          into-past flow.edges z 0 e n p (omega arith)
          ∙ sym (cond-false ((get_or flow.edges e z).receiver == p) n 0 (ne_eqb (get_or flow.edges e z).receiver p (λ q. omega arith)))
    ]

-- ---- deliveries

-- the deliveries among these events
unfoldable pub deliveries : List Event → List Timed
deliveries [] = []
deliveries (Inject s x ∷ vs) = deliveries vs
deliveries (Deliver e m ∷ vs) = timed_message m ∷ deliveries vs
deliveries (Notify p t ∷ vs) = deliveries vs

unchanged : (flow : Dataflow) (p : ℕ) (v : Event) (h : List Event) (w : Timed → ℕ) (b : Bool) → deliveries (v ∷ events_at flow p h) ≡ deliveries (events_at flow p h)
    → weigh w (deliveries (cond b (v ∷ events_at flow p h) (events_at flow p h))) ≡ weigh w (deliveries (events_at flow p h))
unchanged flow p v h w true e = ap (weigh w) e
unchanged flow p v h w false e = refl

edge_weight : (w : Timed → ℕ) (h : List Event) (e : ℕ) (m : Message) (d : ℕ)
    → weigh w (timed_of (delivered_messages (Deliver e m ∷ h) d)) ≡ at_edge e (w (timed_message m)) d + weigh w (timed_of (delivered_messages h d))
unfolding weigh
edge_weight w h e m d = cases (e == d)
  where
    cases : (b : Bool) → weigh w (timed_of (cond b (m ∷ []) [] ++ delivered_messages h d)) ≡ cond b (w (timed_message m)) 0 + weigh w (timed_of (delivered_messages h d))
    cases true = refl
    cases false = omega arith

delivery_weight : (w : Timed → ℕ) (b : Bool) (e : ℕ) (m : Message) (vs : List Event)
    → weigh w (deliveries (cond b (Deliver e m ∷ vs) vs)) ≡ cond b (w (timed_message m)) 0 + weigh w (deliveries vs)
unfolding weigh deliveries
delivery_weight w true e m vs = refl
delivery_weight w false e m vs = omega arith

-- what was delivered to a node is what was delivered on its in-edges
pub deliveries-weigh : (flow : Dataflow) (p : ℕ) → p < length flow.nodes → (w : Timed → ℕ) (h : List Event)
    → weigh w (deliveries (events_at flow p h)) ≡ weigh (λ d. weigh w (timed_of (delivered_messages h d))) (in_edges flow p)
unfolding weigh deliveries
deliveries-weigh flow p l w [] = sym (weigh-none (λ d. 0) (in_edges flow p) (each-weaker (λ d. (d < length flow.edges) × (receiver flow d ≡ p)) (λ d. 0 ≡ 0) (in_edges flow p) (λ d a. refl) (in_edges-receive flow p)))
deliveries-weigh flow p l w (Inject s x ∷ h) = unchanged flow p (Inject s x) h w (s == p) refl ∙ deliveries-weigh flow p l w h
deliveries-weigh flow p l w (Notify q t ∷ h) = unchanged flow p (Notify q t) h w (q == p) refl ∙ deliveries-weigh flow p l w h
deliveries-weigh flow p l w (Deliver e m ∷ h) =
    let n = w (timed_message m) in
    let old : ℕ → ℕ = λ d. weigh w (timed_of (delivered_messages h d)) in
    let a = delivery_weight w (receiver flow e == p) e m (events_at flow p h) in
    let b = deliveries-weigh flow p l w h in
    let c = in_edges-once flow p e n l in
    let f = weigh-both (at_edge e n) old (in_edges flow p) in
    let g = weigh-same (λ d. weigh w (timed_of (delivered_messages (Deliver e m ∷ h) d))) (λ d. at_edge e n d + old d) (in_edges flow p)
    (each-weaker (λ d. (d < length flow.edges) × (receiver flow d ≡ p)) (λ d. weigh w (timed_of (delivered_messages (Deliver e m ∷ h) d)) ≡ at_edge e n d + old d) (in_edges flow p)
    (λ d i. edge_weight w h e m d) (in_edges-receive flow p)) in
    omega arith

-- bags one after another
pub together-weigh : (w : Timed → ℕ) (bag : ℕ → List Timed) (ds : List ℕ) → weigh w (joint_bag (map bag ds)) ≡ weigh (λ d. weigh w (bag d)) ds
unfolding weigh
together-weigh w bag [] = refl
together-weigh w bag (d ∷ ds) = let h = together-weigh w bag ds in weigh-append w (bag d) (joint_bag (map bag ds)) ∙ ap (λ n. weigh w (bag d) + n) h

-- bags that have fewer each have fewer together
pub together-fewer : (test : Stamp → Bool) (bag cag : ℕ → List Timed) (ds : List ℕ) → AllByRecursion (λ d. IsFewerWhere test (bag d) (cag d)) ds
    → IsFewerWhere test (joint_bag (map bag ds)) (joint_bag (map cag ds))
together-fewer test bag cag ds f u r i =
    let a = together-weigh (one u r) bag ds in
    let b = weigh-lighter (λ d. weigh (one u r) (bag d)) (λ d. weigh (one u r) (cag d)) ds
    (each-weaker (λ d. IsFewerWhere test (bag d) (cag d)) (λ d. weigh (one u r) (bag d) ≤ weigh (one u r) (cag d)) ds (λ d g. g u r i) f) in
    let c = together-weigh (one u r) cag ds in
    omega arith

-- bags that agree each agree together
pub together-agrees : (test : Stamp → Bool) (bag cag : ℕ → List Timed) (ds : List ℕ) → AllByRecursion (λ d. AgreeWhere test (bag d) (cag d)) ds
    → AgreeWhere test (joint_bag (map bag ds)) (joint_bag (map cag ds))
together-agrees test bag cag ds k u r i =
    together-weigh (one u r) bag ds
    ∙ weigh-same (λ d. weigh (one u r) (bag d)) (λ d. weigh (one u r) (cag d)) ds
    (each-weaker (λ d. AgreeWhere test (bag d) (cag d)) (λ d. weigh (one u r) (bag d) ≡ weigh (one u r) (cag d)) ds (λ d g. g u r i) k)
    ∙ sym (together-weigh (one u r) cag ds)

-- where fewer make fewer, as many make as many
pub as_many : (takes : Stamp → Stamp → Bool) (make : List (List Timed) → List Timed) → MakesFewer takes make → MakesTheSame takes make
as_many takes make f t x bag cag ds k =
    let a = f t x bag cag ds
    (each-weaker (λ d. AgreeWhere (takes t) (bag d) (cag d)) (λ d. IsFewerWhere (takes t) (bag d) (cag d)) ds (λ d g u r i. let z = g u r i in omega arith) k) in
    let b = f t x cag bag ds
    (each-weaker (λ d. AgreeWhere (takes t) (bag d) (cag d)) (λ d. IsFewerWhere (takes t) (cag d) (bag d)) ds (λ d g u r i. let z = g u r i in omega arith) k) in
    omega arith

-- ---- what was sent for what was delivered

-- the bag that was delivered on an edge
abbrev pub delivered_bag : List Event → ℕ → List Timed
delivered_bag h d = timed_of (delivered_messages h d)

-- a node of the kind, in a legal history, that is owed no notice of the stamp
pub record IsPaidAt (sys : System) (h : List Event) (p : ℕ) (kind : Kind) (t : Stamp) : Type 0 where
  pub well_formed : IsWellFormed sys.flow
  pub epochs : HasEpochs sys
  pub legal : IsLegal sys h
  pub declared : p < length sys.flow.nodes
  pub is_kind : kind_of sys.flow p ≡ kind
  pub paid : is_owed_notice sys h p t ≡ false

-- what such a node sent at the stamp is what a node of its kind makes of what was delivered
abbrev pub SendsForDelivered : Kind → Type 0
SendsForDelivered kind = (sys : System) (h : List Event) (p : ℕ) (t : Stamp) → IsPaidAt sys h p kind t → (batches : List (List Rec)) (x : Rec)
    → weigh (one t x) (timed_of (sent_by sys p (events_at sys.flow p h)))
    ≡ weigh (one t x) (outputs_of_kind sys.flow kind batches (map (delivered_bag h) (in_edges sys.flow p)))

pub deliveries_together : (flow : Dataflow) (p : ℕ) → p < length flow.nodes → (w : Timed → ℕ) (h : List Event)
    → weigh w (deliveries (events_at flow p h)) ≡ weigh w (joint_bag (map (delivered_bag h) (in_edges flow p)))
deliveries_together flow p l w h = deliveries-weigh flow p l w h ∙ sym (together-weigh w (delivered_bag h) (in_edges flow p))
