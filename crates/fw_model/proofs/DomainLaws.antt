-- The bags of the denotation, and what was delivered, are in the domains of their edges.
use Rattle.std.proofs.Common.{◌≡◌, ℕ, ◌<◌, true, false, ◌&&◌, List, [], ◌∷◌, length, Some, refl, sym, ap, subst, ◌∙◌, inl, inr, arith}
use Rattle.std.specs.List.{AllByRecursion}
use Rattle.std.specs.Ordering.{is_eq}
use Rattle.std.proofs.lemmas.Bool.{cases_Bool, cases_lt}
use Rattle.fw_lemmas.proofs.Bools.{two_ways}
use Rattle.fw_lemmas.proofs.Each.{each-weaker}
use Rattle.fw_lemmas.proofs.Numbers.{by_measure}
use Rattle.fw_time.specs.Stamp.{Stamp, leq, same, in_domain}
use Rattle.fw_bag.specs.declared.rec.Rec.{Rec}
use Rattle.fw_bag.specs.Rec.{rec_cmp}
use Rattle.fw_flow.specs.declared.event.Event.{Event}
use Rattle.fw_flow.specs.declared.event.Message.{Message}
use Rattle.fw_flow.specs.Kind.{Kind}
use Rattle.fw_flow.specs.declared.kind.Kind.TheVariants.{OutputEpoch, OutputNumber}
use Rattle.fw_flow.specs.Dataflow.{System, Dataflow, kind_of, sender, receiver, in_edges, bounds_of, bounds_of_domain, is_output_kind, send_stamp, bounds_of_edge, HasEpochs}
use Rattle.fw_flow.specs.NodeFunction.{sends, sends_of_kind, sent_by}
use Rattle.fw_flow.specs.WellFormed.{IsWellFormed, IsWellFormedSystem}
use Rattle.fw_flow.specs.WholeBags.{Timed, outputs_of_kind}
use Rattle.fw_model.specs.Denotation.{Family, IsDenotation}
use Rattle.fw_model.specs.History.{sent_messages, delivered_messages, IsLegal}
use Rattle.fw_model.proofs.KindSorts.{is_inner, inner-not_output}
use Rattle.fw_model.proofs.LegalLaws.{edge_domains, legal_messages-in_domain}
use Rattle.fw_model.proofs.CompleteLaws.{past_edges-idle}
use Rattle.fw_model.proofs.WeightLaws.{weigh, one, one-out}
use Rattle.fw_model.proofs.SentLaws.{timed_of, timed_message, delivered-lighter}
use Rattle.fw_model.specs.Measure.{Measure}
use Rattle.fw_model.specs.Sending.{SendsByCount}
use Rattle.fw_model.proofs.MeasureLaws.{measure-exists}
use Rattle.fw_model.proofs.StampMeasures.{IsEarlier, earlier-sends}
use Rattle.fw_model.proofs.DenotationDomainLaws.{denotation-in_domain}
use Rattle.fw_model.proofs.ArrivalLaws.{in_edges-receive}
use Rattle.fw_model.proofs.InputLaws.{sent-weigh}
use Rattle.fw_model.proofs.StampLaws.{same-is}

-- ---- sorts of kinds

-- an edge whose sender is no output is one of the dataflow
real_edge : (flow : Dataflow) (e : ℕ) → is_output_kind (kind_of flow (sender flow e)) ≡ false → e < length flow.edges
real_edge flow e k = elim (cases_lt e (length flow.edges)) [
  | inl l ↦ l
  | inr l ↦ absurd (two_ways (is_output_kind (kind_of flow (sender flow e))) (ap is_output_kind (past_edges-idle flow e l)) k)
]

pub inner_edge : (flow : Dataflow) (e : ℕ) → is_inner (kind_of flow (sender flow e)) ≡ true → e < length flow.edges
inner_edge flow e k = real_edge flow e (inner-not_output (kind_of flow (sender flow e)) k)

pub sequence_edge : (flow : Dataflow) (e : ℕ) → SendsByCount (kind_of flow (sender flow e)) → e < length flow.edges
sequence_edge flow e is = real_edge flow e (ap is_output_kind is)

-- ---- outputs

output-sends : (sys : System) (kind : Kind) → is_output_kind kind ≡ true → (w : Timed → ℕ) (before : List Event) (v : Event) → weigh w (timed_of (sends_of_kind sys kind before v)) ≡ 0
unfolding weigh
output-sends sys OutputEpoch k w before v = refl
output-sends sys OutputNumber k w before v = refl
output-sends sys kind k w before v = absurd (cc)

pub output-sent : (sys : System) (p : ℕ) → is_output_kind (kind_of sys.flow p) ≡ true → (w : Timed → ℕ) (vs : List Event) → weigh w (timed_of (sent_by sys p vs)) ≡ 0
unfolding weigh sends
output-sent sys p k w [] = refl
output-sent sys p k w (v ∷ vs) =
    let a = sent-weigh sys p w v vs in
    let b = output-sends sys (kind_of sys.flow p) k w vs v in
    let c = output-sent sys p k w vs in
    omega arith

pub output-outputs : (flow : Dataflow) (kind : Kind) → is_output_kind kind ≡ true → (w : Timed → ℕ) (batches : List (List Rec)) (bags : List (List Timed))
    → weigh w (outputs_of_kind flow kind batches bags) ≡ 0
unfolding weigh
output-outputs flow OutputEpoch k w batches bags = refl
output-outputs flow OutputNumber k w batches bags = refl
output-outputs flow kind k w batches bags = absurd (cc)

-- ---- the induction over edges and stamps

pub edge-bounds : (flow : Dataflow) → IsWellFormed flow → (d : ℕ) (t : Stamp) → in_domain (bounds_of_edge flow d) t ≡ in_domain (bounds_of flow (receiver flow d)) t
unfolding bounds_of
edge-bounds flow w d t = ap (λ x. in_domain (bounds_of_domain flow x) t) (edge_domains flow w d)

-- an edge and a stamp on it
abbrev pub EdgeStamp : Type 0
EdgeStamp = ℕ × Stamp

pub along : (flow : Dataflow) → IsWellFormed flow → (P : EdgeStamp → Type 0)
    → ((r : Measure flow) (e : ℕ) (t : Stamp) → ((d : ℕ) (u : Stamp) → IsEarlier flow r (receiver flow d) u (receiver flow e) t → P (d, u)) → P (e, t))
    → (e : ℕ) (t : Stamp) → P (e, t)
along flow w P step e t =
    let r = measure-exists flow w in
    by_measure {A = EdgeStamp} (λ x. r.measure (receiver flow x.0) x.1) P
    (λ x ih. step r x.0 x.1 (λ d u i. ih (d, u) i)) (e, t)

-- the induction's hypothesis at the in-edges of the sender
pub from_earlier : (flow : Dataflow) → IsWellFormed flow → (r : Measure flow) (P : EdgeStamp → Type 0) (e : ℕ) (t : Stamp) → e < length flow.edges
    → ((d : ℕ) (u : Stamp) → IsEarlier flow r (receiver flow d) u (receiver flow e) t → P (d, u))
    → (d : ℕ) (u s : Stamp) → receiver flow d ≡ sender flow e → send_stamp flow (sender flow e) u ≡ Some s → leq s t ≡ true → P (d, u)
from_earlier flow w r P e t l ih d u s at i k =
    ih d u (subst (λ n. IsEarlier flow r n u (receiver flow e) t) (sym at) (earlier-sends flow r e l u s t i k))

-- what holds of each in-edge
pub each_in_edge : (flow : Dataflow) (p : ℕ) (P : ℕ → Type 0) → ((d : ℕ) → receiver flow d ≡ p → P d) → AllByRecursion P (in_edges flow p)
each_in_edge flow p P k = each-weaker (λ d. (d < length flow.edges) × (receiver flow d ≡ p)) P (in_edges flow p) (λ d a. k d a.1) (in_edges-receive flow p)

-- ---- the bags of the denotation

-- the bag has nothing at the stamp
abbrev pub HasNoneAt : List Timed → Stamp → Type 0
HasNoneAt xs t = (q : Rec) → weigh (one t q) xs ≡ 0

-- what is in the domain has nothing outside it
in_domain-none : (flow : Dataflow) (p : ℕ) (t : Stamp) (q : Rec) → in_domain (bounds_of flow p) t ≡ false → (xs : List Timed)
    → AllByRecursion (λ (r : Timed). in_domain (bounds_of flow p) r.at ≡ true) xs → weigh (one t q) xs ≡ 0
unfolding weigh
in_domain-none flow p t q o [] a = refl
in_domain-none flow p t q o (x ∷ xs) a =
    let h = in_domain-none flow p t q o xs a.1 in
    let z = one-out t q x (elim (cases_Bool (same t x.at)) [
      | inl i ↦ absurd (two_ways (in_domain (bounds_of flow p) t) (ap (in_domain (bounds_of flow p)) (same-is t x.at i) ∙ a.0) o)
      | inr i ↦ ap (λ b. b && is_eq (rec_cmp q x.rec)) i
    ]) in
    omega arith

pub has_epochs : (sys : System) → IsWellFormedSystem sys → HasEpochs sys
has_epochs sys w p = let a = w.few p in omega arith

-- the denotation has nothing outside the domain of an edge
pub denoted-in_domain : (sys : System) (family : Family) → IsWellFormedSystem sys → IsDenotation sys family → (e : ℕ) (t : Stamp)
    → in_domain (bounds_of_edge sys.flow e) t ≡ false → HasNoneAt (family e) t
denoted-in_domain sys family w d e t o q =
    in_domain-none sys.flow (receiver sys.flow e) t q (sym (edge-bounds sys.flow w.flow e t) ∙ o) (family e)
    (denotation-in_domain sys family w.flow (has_epochs sys w) d e)

-- ---- what was delivered

messages-weigh_none : (flow : Dataflow) (e : ℕ) (t : Stamp) (q : Rec) → in_domain (bounds_of_edge flow e) t ≡ false → (ms : List Message)
    → AllByRecursion (λ (m : Message). in_domain (bounds_of_edge flow e) m.at ≡ true) ms → weigh (one t q) (timed_of ms) ≡ 0
unfolding weigh
messages-weigh_none flow e t q o [] a = refl
messages-weigh_none flow e t q o (m ∷ ms) a =
    let h = messages-weigh_none flow e t q o ms a.1 in
    let z = one-out t q (timed_message m) (elim (cases_Bool (same t m.at)) [
      | inl i ↦ absurd (two_ways (in_domain (bounds_of_edge flow e) t) (ap (in_domain (bounds_of_edge flow e)) (same-is t m.at i) ∙ a.0) o)
      | inr i ↦ ap (λ b. b && is_eq (rec_cmp q m.rec)) i
    ]) in
    omega arith

-- in a legal history nothing was delivered outside the domain of an edge
pub delivered-in_domain : (sys : System) (h : List Event) → IsWellFormedSystem sys → IsLegal sys h → (e : ℕ) (t : Stamp)
    → in_domain (bounds_of_edge sys.flow e) t ≡ false → HasNoneAt (timed_of (delivered_messages h e)) t
delivered-in_domain sys h w l e t o q =
    let a = delivered-lighter sys h l e (one t q) in
    let b = messages-weigh_none sys.flow e t q o (sent_messages sys h e) (legal_messages-in_domain sys h w.flow (has_epochs sys w) l e) in
    omega arith
