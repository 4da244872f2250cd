-- Stamps that are got back edge by edge: each edge once, and what is asked of them.
use Rattle.std.proofs.Common.{◌≡◌, ◌⊎◌, ℕ, zero, suc, ◌+◌, ◌<◌, ◌≤◌, Bool, true, false, ◌&&◌, ◌||◌, ◌==◌, cond, List, [], ◌∷◌, ◌++◌, length, map, filter, take, drop, get_or, drop-cons, refl, sym, ap, subst, ◌∙◌, inl, inr, arith}
use Rattle.std.specs.Prelude.{◌*◌, min, slice_index}
use Rattle.std.specs.List.{AllByRecursion}
use Rattle.std.proofs.lemmas.Bool.{cases_Bool, cond_both, eq-eqb, eqb-true, false_from_ne_true, not-true, not-false}
use Rattle.std.proofs.lemmas.List.{append-nil, take_more}
use Rattle.std.proofs.lemmas.List.Elements.{filter-append}
use Rattle.fw_lemmas.proofs.Each.{each-weaker, each-one, each-append, each_of-filter, each-map, each_of-map}
use Rattle.fw_time.specs.Stamp.{Stamp, in_domain}
use Rattle.fw_time.proofs.StampLaws.{leq-length}
use Rattle.fw_frontier.specs.Frontier.{everything}
use Rattle.fw_frontier.specs.Front.{frontier_of}
use Rattle.fw_flow.specs.declared.choice.Counted.{Counted}
use Rattle.fw_flow.specs.declared.choice.OfEdge.{OfEdge}
use Rattle.fw_flow.specs.declared.choice.Recorded.{Recorded}
use Rattle.fw_flow.specs.declared.choice.Stamps.{Stamps}
use Rattle.fw_flow.specs.Kind.{Kind}
use Rattle.fw_flow.specs.declared.kind.Kind.TheVariants.{Enter, Leave, Sequence, Regroup}
use Rattle.fw_flow.specs.declared.node.Edge.{Edge}
use Rattle.fw_flow.specs.Dataflow.{Dataflow, greatest_number, bounds_of, edges_into, edges_from, in_edges, out_edges, is_one_of, is_sequence_kind, kind_of, policy_of, receiver, sender, bounds_of_domain, domain_of_kind, out_domain_of_kind}
use Rattle.fw_flow.specs.Projection.{all_inside}
use Rattle.fw_flow.specs.Restoring.{can_resend}
use Rattle.fw_flow.specs.WellFormed.{IsWellFormed}
use Rattle.fw_flow.proofs.EdgeLaws.{in_edges-at}
use Rattle.fw_flow.proofs.OutEdgeLaws.{out_edges-at, out_edges-from}
use Rattle.fw_flow.proofs.SendStampLaws.{domain_length, entered_length}
use Rattle.fw_model.specs.EventStamps.{tells_sent}
use Rattle.fw_model.specs.Offers.{AreAtEdgeStamps, counted_on_edge, front_of_edge, stamps_on, stamps_on_from}
use Rattle.fw_model.specs.Sending.{is_single_kind, SendsByCount}
use Rattle.fw_model.proofs.ArrivalLaws.{in_edges-receive}
use Rattle.fw_model.proofs.KindSorts.{single-no_sequence, is_sequence}
use Rattle.fw_model.proofs.DomainLaws.{edge-bounds}
use Rattle.fw_regain.specs.Causes.{cause_told, message_of_told}
use Rattle.fw_regain.specs.GotBack.{AreGotBack, IsSentGotBack}
use Rattle.fw_regain.specs.Greatest.{AreGreatestIn}
use Rattle.fw_progress.specs.StampData.{message_at}
use Rattle.fw_resume.specs.Stamps.{AreDeliveredBack, AreGreatestOn, AreOnEdges, AreSentBack, HasMoreOn, HasLengthFor, cause_back, sent_at}

-- ---- each edge once

abbrev Ascend : ℕ → List ℕ → Type 0
Ascend n [] = Unit {0}
Ascend n (e ∷ es) = (n ≤ e) × Ascend (suc e) es

into-ascend : (k n : ℕ) (es : List Edge) (p : ℕ) → n ≤ k → Ascend n (edges_into k es p)
into-ascend k n [] p l = tt
into-ascend k n (e ∷ es) p l =
    cond_both (e.receiver == p) (k ∷ edges_into (k + 1) es p) (edges_into (k + 1) es p) (Ascend n)
    (λ i. (l, into-ascend (k + 1) (suc k) es p (omega arith))) (λ i. into-ascend (k + 1) n es p (omega arith))

from-ascend : (k n : ℕ) (es : List Edge) (p : ℕ) → n ≤ k → Ascend n (edges_from k es p)
from-ascend k n [] p l = tt
from-ascend k n (e ∷ es) p l =
    cond_both (e.sender == p) (k ∷ edges_from (k + 1) es p) (edges_from (k + 1) es p) (Ascend n)
    (λ i. (l, from-ascend (k + 1) (suc k) es p (omega arith))) (λ i. from-ascend (k + 1) n es p (omega arith))

at-least : (n : ℕ) (es : List ℕ) (i d : ℕ) → Ascend n es → i < length es → n ≤ get_or es i d
at-least n [] i d a l = absurd (omega (arith, l))
at-least n (e ∷ es) zero d a l = a.0
at-least n (e ∷ es) (suc i) d a l = let k = at-least (suc e) es i d a.1 (omega (arith, l)) in let b = a.0 in omega (arith, k, b)

-- whichever stands before is less
before-less : (n : ℕ) (es : List ℕ) (i d : ℕ) → Ascend n es → i < length es → AllByRecursion (λ e. e < get_or es i d) (take i es)
before-less n [] i d a l = absurd (omega (arith, l))
before-less n (e ∷ es) zero d a l = tt
before-less n (e ∷ es) (suc i) d a l =
    let k = at-least (suc e) es i d a.1 (omega (arith, l)) in (omega (arith, k), before-less (suc e) es i d a.1 (omega (arith, l)))

not-among : (x : ℕ) (es : List ℕ) → AllByRecursion (λ e. e < x) es → is_one_of x es ≡ false
not-among x [] a = refl
not-among x (e ∷ es) a =
    let l = a.0 in
    ap (λ b. b || is_one_of x es) (false_from_ne_true (e == x) (λ t. let q : e ≡ x = eqb-true e x t in absurd (omega (arith, l, q)))) ∙ not-among x es a.1

pub in_edge-new : (flow : Dataflow) (p : ℕ) (edges : List ℕ) (i e : ℕ) → edges ≡ in_edges flow p → i < length edges → e ≡ get_or edges i e → is_one_of e (take i edges) ≡ false
unfolding in_edges
in_edge-new flow p edges i e is l at =
    subst (λ x. is_one_of x (take i edges) ≡ false) (sym at)
    (not-among (get_or edges i e) (take i edges) (before-less 0 edges i e (subst (Ascend 0) (sym is) (into-ascend 0 0 flow.edges p (omega arith))) l))

pub out_edge-new : (flow : Dataflow) (p : ℕ) (edges : List ℕ) (i e : ℕ) → edges ≡ out_edges flow p → i < length edges → e ≡ get_or edges i e → is_one_of e (take i edges) ≡ false
unfolding out_edges
out_edge-new flow p edges i e is l at =
    subst (λ x. is_one_of x (take i edges) ≡ false) (sym at)
    (not-among (get_or edges i e) (take i edges) (before-less 0 edges i e (subst (Ascend 0) (sym is) (from-ascend 0 0 flow.edges p (omega arith))) l))

-- ---- messages on edges

one-either : (x : ℕ) (es : List ℕ) (e : ℕ) → is_one_of x (es ++ e ∷ []) ≡ true → (is_one_of x es ≡ true) ⊎ (x ≡ e)
one-either x [] e i = inr (sym (eqb-true e x (or-left (e == x) i)))
  where
    or-left : (b : Bool) → (b || false) ≡ true → b ≡ true
    or-left true k = refl
    or-left false k = absurd (cc)
one-either x (d ∷ es) e i = by (d == x) (one-either x es e) i
  where
    by : (b : Bool) → (is_one_of x (es ++ e ∷ []) ≡ true → (is_one_of x es ≡ true) ⊎ (x ≡ e)) → (b || is_one_of x (es ++ e ∷ [])) ≡ true
        → ((b || is_one_of x es) ≡ true) ⊎ (x ≡ e)
    by true r k = inl refl
    by false r k = r k

one-left : (x : ℕ) (es : List ℕ) (e : ℕ) → is_one_of x es ≡ true → is_one_of x (es ++ e ∷ []) ≡ true
one-left x [] e i = absurd (cc)
one-left x (d ∷ es) e i = by (d == x) (one-left x es e) i
  where
    by : (b : Bool) → (is_one_of x es ≡ true → is_one_of x (es ++ e ∷ []) ≡ true) → (b || is_one_of x es) ≡ true → (b || is_one_of x (es ++ e ∷ [])) ≡ true
    by true r k = refl
    by false r k = r k

one-last : (es : List ℕ) (e : ℕ) → is_one_of e (es ++ e ∷ []) ≡ true
one-last [] e = ap (λ b. b || false) (eq-eqb e e refl)
one-last (d ∷ es) e = ap (λ b. (d == e) || b) (one-last es e) ∙ or-true (d == e)
  where
    or-true : (b : Bool) → (b || true) ≡ true
    or-true true = refl
    or-true false = refl

-- none of these is on the edge, or all are
none-on : (e : ℕ) (ms : List Counted) → AllByRecursion (λ (m : Counted). (m.edge == e) ≡ false) ms → counted_on_edge e ms ≡ []
none-on e [] a = refl
none-on e (m ∷ ms) a = ap (λ b. cond b (m ∷ counted_on_edge e ms) (counted_on_edge e ms)) a.0 ∙ none-on e ms a.1

all-on : (e : ℕ) (ms : List Counted) → AllByRecursion (λ (m : Counted). m.edge ≡ e) ms → counted_on_edge e ms ≡ ms
all-on e [] a = refl
all-on e (m ∷ ms) a = ap (λ b. cond b (m ∷ counted_on_edge e ms) (counted_on_edge e ms)) (eq-eqb m.edge e a.0) ∙ ap (λ ns. m ∷ ns) (all-on e ms a.1)

on-both : (e : ℕ) (ms more : List Counted) → counted_on_edge e (ms ++ more) ≡ counted_on_edge e ms ++ counted_on_edge e more
on-both e ms more = filter-append (λ (m : Counted). m.edge == e) ms more

pub on_edges-none : (P : ℕ → List Counted → Type 0) → AreOnEdges P [] []
on_edges-none P = record { there = tt; each = λ e i. absurd (cc) }

pub on_edges-more : (P : ℕ → List Counted → Type 0) (edges : List ℕ) (i e : ℕ) (old new : List Counted) → i < length edges → e ≡ get_or edges i e
    → is_one_of e (take i edges) ≡ false → AreOnEdges P (take i edges) old → HasMoreOn P e old new → AreOnEdges P (take (i + 1) edges) new
on_edges-more P edges i e old new l at fresh a h =
    let es = take i edges in
    let more = h.more in
    let further : take (i + 1) edges ≡ es ++ e ∷ [] = take_more edges i e l ∙ ap (λ x. es ++ x ∷ []) (sym at) in
    let apart : counted_on_edge e old ≡ [] =
    none-on e old (each-weaker (λ (m : Counted). is_one_of m.edge es ≡ true) (λ m. (m.edge == e) ≡ false) old
    (λ m k. false_from_ne_true (m.edge == e) (λ q. let r : true ≡ false = sym (subst (λ x. is_one_of x es ≡ true) (eqb-true m.edge e q) k) ∙ fresh in absurd (cc))) a.there) in
    subst (λ ds. AreOnEdges P ds new) (sym further) (subst (λ ms. AreOnEdges P (es ++ e ∷ []) ms) (sym h.put)
    (record {
      there = each-append (λ (m : Counted). is_one_of m.edge (es ++ e ∷ []) ≡ true) old more
          (each-weaker (λ (m : Counted). is_one_of m.edge es ≡ true) (λ m. is_one_of m.edge (es ++ e ∷ []) ≡ true) old (λ m k. one-left m.edge es e k) a.there)
          (each-weaker (λ (m : Counted). m.edge ≡ e) (λ m. is_one_of m.edge (es ++ e ∷ []) ≡ true) more
          (λ m k. subst (λ x. is_one_of x (es ++ e ∷ []) ≡ true) (sym k) (one-last es e)) h.of_edge);
      each = λ d i. elim (one-either d es e i) [
        | inl k ↦
            let none : counted_on_edge d more ≡ [] =
            none-on d more (each-weaker (λ (m : Counted). m.edge ≡ e) (λ m. (m.edge == d) ≡ false) more
            (λ m q. false_from_ne_true (m.edge == d) (λ r. let s : d ≡ e = sym (eqb-true m.edge d r) ∙ q in
            let t : true ≡ false = sym (subst (λ x. is_one_of x es ≡ true) s k) ∙ fresh in absurd (cc))) h.of_edge) in
            subst (P d) (sym (on-both d old more ∙ ap (λ ms. counted_on_edge d old ++ ms) none ∙ append-nil (counted_on_edge d old))) (a.each d k)
        | inr k ↦
            subst (λ x. P x (counted_on_edge x (old ++ more))) (sym k)
            (subst (P e) (sym (on-both e old more ∙ ap (λ ms. ms ++ counted_on_edge e more) apart ∙ all-on e more h.of_edge)) h.right)
      ];
    }))

-- what holds at each edge of the stamps there holds of all messages
pub at-own_edge : (Q : ℕ → Stamp → Type 0) (es : List ℕ) (ms : List Counted) → AllByRecursion (λ (m : Counted). is_one_of m.edge es ≡ true) ms
    → ((e : ℕ) → is_one_of e es ≡ true → AllByRecursion (λ (m : Counted). (m.edge == e) ≡ true → Q e m.at) ms) → AllByRecursion (λ (m : Counted). Q m.edge m.at) ms
at-own_edge Q es [] t h = tt
at-own_edge Q es (m ∷ ms) t h = ((h m.edge t.0).0 (eq-eqb m.edge m.edge refl), at-own_edge Q es ms t.1 (λ e i. (h e i).1))

pub at-edges : (Q : ℕ → Stamp → Type 0) (P : ℕ → List Counted → Type 0) (es : List ℕ) (ms : List Counted) → AreOnEdges P es ms
    → ((e : ℕ) (ns : List Counted) → is_one_of e es ≡ true → P e ns → AllByRecursion (λ (m : Counted). Q e m.at) ns) → AllByRecursion (λ (m : Counted). Q m.edge m.at) ms
at-edges Q P es ms a h =
    at-own_edge Q es ms a.there (λ e i. each_of-filter (λ (m : Counted). Q e m.at) (λ (m : Counted). m.edge == e) ms (h e (counted_on_edge e ms) i (a.each e i)))

-- ---- greatest stamps

pub tops-short : (flow : Dataflow) (e : ℕ) (covers : List OfEdge) (tops : List Stamp) → AreGreatestOn flow e covers tops → AllByRecursion (λ t. 0 < length t) tops
unfolding bounds_of
tops-short flow e covers tops g =
    each-weaker (λ t. in_domain (bounds_of flow (receiver flow e)) t ≡ true) (λ t. 0 < length t) tops
    (λ t i. (domain_length flow (kind_of flow (receiver flow e)) t i).some) g.of_domain

short : (flow : Dataflow) (p : ℕ) (t : Stamp) → in_domain (bounds_of flow p) t ≡ true → 0 < length t
unfolding bounds_of
short flow p t i = (domain_length flow (kind_of flow p) t i).some

ats-of_delivered : (d : ℕ) (tops : List Stamp) → map (λ (m : Counted). m.at) (map (message_at d) tops) ≡ tops
ats-of_delivered d [] = refl
ats-of_delivered d (t ∷ ts) = ap (λ ss. t ∷ ss) (ats-of_delivered d ts)

pub more_delivered : (flow : Dataflow) (r : Recorded) (d : ℕ) (tops : List Stamp) (old new : List Counted) → AreGreatestOn flow d r.delivered tops
    → new ≡ old ++ map (message_at d) tops → HasMoreOn (AreDeliveredBack flow r) d old new
more_delivered flow r d tops old new g e = record {
  more = map (message_at d) tops;
  put = e;
  of_edge = each-map (λ (m : Counted). m.edge ≡ d) (message_at d) tops (each-one (λ t. d ≡ d) tops (λ t. refl));
  right = subst (λ ss. AreGreatestOn flow d r.delivered ss) (sym (ats-of_delivered d tops)) g;
}

-- ---- what was sent

pub more_told : (flow : Dataflow) (p e : ℕ) (r : Recorded) (tops : List Stamp) (old new : List Counted)
    → AreGreatestOn flow e r.discarded tops → new ≡ old ++ map (sent_at (kind_of flow p) e) tops → HasMoreOn (AreSentBack flow p r) e old new
more_told flow p e r tops old new g is = record {
  more = map (sent_at (kind_of flow p) e) tops;
  put = is;
  of_edge = each-map (λ (m : Counted). m.edge ≡ e) (sent_at (kind_of flow p) e) tops (each-one (λ t. e ≡ e) tops (λ t. refl));
  right = (tops, g, refl);
}

length-of_kind : (flow : Dataflow) (kind : Kind) (t : Stamp) → in_domain (bounds_of_domain flow (out_domain_of_kind flow kind)) t ≡ true → HasLengthFor kind t
length-of_kind flow (Leave l) t i = entered_length flow (Enter l) l t refl i
length-of_kind flow (Regroup n) t i = leq-length t (greatest_number ∷ []) i
length-of_kind flow kind t i = tt

-- the greatest stamps at which a node of the kind sends are as long as their causes ask
pub tops-length : (flow : Dataflow) (p e : ℕ) (covers : List OfEdge) (tops : List Stamp) → IsWellFormed flow → sender flow e ≡ p → AreGreatestOn flow e covers tops
    → AllByRecursion (HasLengthFor (kind_of flow p)) tops
tops-length flow p e covers tops w s g =
    subst (λ q. AllByRecursion (HasLengthFor (kind_of flow q)) tops) s
    (each-weaker (λ t. in_domain (bounds_of flow (receiver flow e)) t ≡ true) (HasLengthFor (kind_of flow (sender flow e))) tops
    (λ t i. length-of_kind flow (kind_of flow (sender flow e)) t (edge-bounds flow w e t ∙ i)) g.of_domain)

-- the cause of an epoch of regrouped numbers is its first number
pub cause_of_epoch : (n : ℕ) (u : Stamp) → length u ≡ 1 → min (slice_index u 0 * n) greatest_number ∷ [] ≡ map (λ x. min (x * n) greatest_number) u
cause_of_epoch n [] l = absurd (cc)
cause_of_epoch n (x ∷ []) l = refl
cause_of_epoch n (x ∷ (y ∷ u)) l = absurd (omega arith)

-- ---- all of it

told-cause : (kind : Kind) (u : Stamp) → is_sequence_kind kind ≡ false → cause_back kind u ≡ cause_told kind u
told-cause Sequence u k = absurd (cc)
told-cause kind u k = refl

told-messages : (flow : Dataflow) (p e : ℕ) → sender flow e ≡ p → is_single_kind (kind_of flow p) ≡ true → (tops : List Stamp)
    → map (sent_at (kind_of flow p) e) tops ≡ map (message_of_told flow e) tops
told-messages flow p e s k [] = refl
told-messages flow p e s k (u ∷ us) =
    ap (λ (c : Stamp). record { edge = e; at = u; causes = c ∷ []; count = 1 } ∷ map (sent_at (kind_of flow p) e) us)
    (told-cause (kind_of flow p) u (single-no_sequence (kind_of flow p) k) ∙ ap (λ q. cause_told (kind_of flow q) u) (sym s))
    ∙ ap (λ ms. message_of_told flow e u ∷ ms) (told-messages flow p e s k us)

-- of a sequence each message is from its first epoch, which is a stamp of it
first-inside : (flow : Dataflow) (p : ℕ) → SendsByCount (kind_of flow p) → in_domain (bounds_of flow p) (0 ∷ []) ≡ true
unfolding bounds_of
first-inside flow p k = ap (λ x. in_domain (bounds_of_domain flow (domain_of_kind flow x)) (0 ∷ [])) k

filter-both : (a b : Counted → Bool) (ms : List Counted) → filter (λ m. a m && b m) ms ≡ filter b (filter a ms)
filter-both a b [] = refl
filter-both a b (m ∷ ms) = by (a m) (filter-both a b ms)
  where
    by : (x : Bool) → filter (λ n. a n && b n) ms ≡ filter b (filter a ms)
        → cond (x && b m) (m ∷ filter (λ n. a n && b n) ms) (filter (λ n. a n && b n) ms) ≡ filter b (cond x (m ∷ filter a ms) (filter a ms))
    by true r = ap (λ ns. cond (b m) (m ∷ ns) ns) r
    by false r = r

numbers-on : (g : Stamp → Bool) (e : ℕ) (kind : Kind) (tops : List Stamp) → SendsByCount kind → g (0 ∷ []) ≡ true → (ms : List Counted) → counted_on_edge e ms ≡ map (sent_at kind e) tops
    → stamps_on_from e g ms ≡ tops
numbers-on g e kind tops k i ms is =
    apart ms ∙ ap (λ ns. map (λ (m : Counted). m.at) (filter (λ (m : Counted). all_inside g m.causes) ns)) (is ∙ ap (λ x. map (sent_at x e) tops) k) ∙ each tops
  where
    apart : (ns : List Counted) → stamps_on_from e g ns ≡ map (λ (m : Counted). m.at) (filter (λ (m : Counted). all_inside g m.causes) (counted_on_edge e ns))
    apart ns = ap (map (λ (m : Counted). m.at)) (filter-both (λ (m : Counted). m.edge == e) (λ (m : Counted). all_inside g m.causes) ns)

    each : (ts : List Stamp) → map (λ (m : Counted). m.at) (filter (λ (m : Counted). all_inside g m.causes) (map (sent_at Sequence e) ts)) ≡ ts
    each [] = refl
    each (t ∷ ts) =
        ap (λ b. map (λ (m : Counted). m.at) (cond b (sent_at Sequence e t ∷ filter (λ (m : Counted). all_inside g m.causes) (map (sent_at Sequence e) ts))
        (filter (λ (m : Counted). all_inside g m.causes) (map (sent_at Sequence e) ts)))) (ap (λ b. b && true) i)
        ∙ ap (λ ss. t ∷ ss) (each ts)

pub each-one_of : (es : List ℕ) → AllByRecursion (λ e. is_one_of e es ≡ true) es
each-one_of [] = tt
each-one_of (e ∷ es) =
    (ap (λ b. b || is_one_of e es) (eq-eqb e e refl), each-weaker (λ d. is_one_of d es ≡ true) (λ d. is_one_of d (e ∷ es) ≡ true) es (λ d i. ap (λ b. (e == d) || b) i ∙ or-true (e == d)) (each-one_of es))
  where
    or-true : (b : Bool) → (b || true) ≡ true
    or-true true = refl
    or-true false = refl

in-one : (flow : Dataflow) (p d : ℕ) → d < length flow.edges → receiver flow d ≡ p → is_one_of d (in_edges flow p) ≡ true
in-one flow p d l r = in_edges-at (λ e. is_one_of e (in_edges flow p) ≡ true) flow p (each-one_of (in_edges flow p)) d l r

out-one : (flow : Dataflow) (p e : ℕ) → e < length flow.edges → sender flow e ≡ p → is_one_of e (out_edges flow p) ≡ true
out-one flow p e l s = out_edges-at (λ d. is_one_of d (out_edges flow p) ≡ true) flow p (each-one_of (out_edges flow p)) e l s

received : (flow : Dataflow) (p : ℕ) (es : List ℕ) (e : ℕ) → AllByRecursion (λ d. (d < length flow.edges) × (receiver flow d ≡ p)) es → is_one_of e es ≡ true → receiver flow e ≡ p
received flow p [] e a i = absurd (cc)
received flow p (d ∷ es) e a i = elim (cases_Bool (d == e)) [
  | inl k ↦ subst (λ x. receiver flow x ≡ p) (eqb-true d e k) a.0.1
  | inr k ↦ received flow p es e a.1 (sym (ap (λ b. b || is_one_of e es) k) ∙ i)
]

pub delivered-inside : (flow : Dataflow) (p : ℕ) (r : Recorded) (delivered : List Counted) → AreOnEdges (AreDeliveredBack flow r) (in_edges flow p) delivered
    → AllByRecursion (λ (m : Counted). in_domain (bounds_of flow p) m.at ≡ true) delivered
delivered-inside flow p r delivered a =
    at-edges (λ e t. in_domain (bounds_of flow p) t ≡ true) (AreDeliveredBack flow r) (in_edges flow p) delivered a
    (λ e ns i g. subst (λ q. AllByRecursion (λ (m : Counted). in_domain (bounds_of flow q) m.at ≡ true) ns) (received flow p (in_edges flow p) e (in_edges-receive flow p) i)
    (each_of-map (λ t. in_domain (bounds_of flow (receiver flow e)) t ≡ true) (λ (m : Counted). m.at) ns g.of_domain))

delivered-on_edges : (flow : Dataflow) (p : ℕ) (r : Recorded) (delivered : List Counted) → AreOnEdges (AreDeliveredBack flow r) (in_edges flow p) delivered
    → AreAtEdgeStamps flow delivered
delivered-on_edges flow p r delivered a =
    at-edges (λ e t. in_domain (bounds_of flow (receiver flow e)) t ≡ true) (AreDeliveredBack flow r) (in_edges flow p) delivered a
    (λ e ns i g. each_of-map (λ t. in_domain (bounds_of flow (receiver flow e)) t ≡ true) (λ (m : Counted). m.at) ns g.of_domain)

sent-back : (flow : Dataflow) (p : ℕ) (r : Recorded) (stamps : Stamps)
    → AreOnEdges (AreSentBack flow p r) (out_edges flow p) stamps.sent
    → (e : ℕ) → e < length flow.edges → sender flow e ≡ p → IsSentGotBack flow p r stamps e
sent-back flow p r stamps b e there is =
    let t = b.each e (out-one flow p e there is) in
    record {
      told = λ k. (t.0, t.1, t.2 ∙ told-messages flow p e is k t.0);
      numbered = λ k.
          let kind = is_sequence (kind_of flow p) k in
          let g = everything (bounds_of flow (sender flow e)) in
          subst (λ ss. AreGreatestOn flow e r.discarded ss)
          (sym (numbers-on g e (kind_of flow p) t.0 kind (ap (λ q. in_domain (bounds_of flow q) (0 ∷ [])) is ∙ first-inside flow p kind) stamps.sent t.2)) t.1;
    }

sends : (flow : Dataflow) (p : ℕ) (es : List ℕ) (e : ℕ) → AllByRecursion (λ d. (d < length flow.edges) × (sender flow d ≡ p)) es → is_one_of e es ≡ true
    → (e < length flow.edges) × (sender flow e ≡ p)
sends flow p [] e a i = absurd (cc)
sends flow p (d ∷ es) e a i = elim (cases_Bool (d == e)) [
  | inl k ↦ subst (λ x. (x < length flow.edges) × (sender flow x ≡ p)) (eqb-true d e k) a.0
  | inr k ↦ sends flow p es e a.1 (sym (ap (λ b. b || is_one_of e es) k) ∙ i)
]

out-sends : (flow : Dataflow) (p e : ℕ) → is_one_of e (out_edges flow p) ≡ true → (e < length flow.edges) × (sender flow e ≡ p)
out-sends flow p e i = sends flow p (out_edges flow p) e (out_edges-from (λ d. (d < length flow.edges) × (sender flow d ≡ p)) flow p (λ d l s. (l, s))) i

-- the causes that are told are at stamps of the edges
sent-on_edges : (flow : Dataflow) (p : ℕ) (r : Recorded) (sent : List Counted) → AreOnEdges (AreSentBack flow p r) (out_edges flow p) sent → AreAtEdgeStamps flow sent
sent-on_edges flow p r sent b =
    at-edges (λ e t. in_domain (bounds_of flow (receiver flow e)) t ≡ true) (AreSentBack flow p r) (out_edges flow p) sent b
    (λ e ns m t. subst (AllByRecursion (λ (n : Counted). in_domain (bounds_of flow (receiver flow e)) n.at ≡ true)) (sym t.2)
    (each-map (λ (n : Counted). in_domain (bounds_of flow (receiver flow e)) n.at ≡ true) (sent_at (kind_of flow p) e) t.0 t.1.of_domain))

pub got_back : (flow : Dataflow) (p : ℕ) (r : Recorded) (stamps : Stamps) → IsWellFormed flow → p < length flow.nodes
    → AreOnEdges (AreDeliveredBack flow r) (in_edges flow p) stamps.delivered → AreGreatestIn (bounds_of flow p) (frontier_of (bounds_of flow p) r.notified) stamps.notified
    → (can_resend (policy_of flow p) ≡ false → AreOnEdges (AreSentBack flow p r) (out_edges flow p) stamps.sent)
    → (can_resend (policy_of flow p) ≡ true → stamps.sent ≡ []) → AreGotBack flow p r stamps
got_back flow p r stamps w l a n b none =
    let told : tells_sent flow p ≡ true → can_resend (policy_of flow p) ≡ false = λ t. not-true (can_resend (policy_of flow p)) t in
    record {
      received = record {
        delivered = λ d m k. subst (λ q. AreGreatestIn (bounds_of flow q) (front_of_edge (bounds_of flow q) d r.delivered) (stamps_on d stamps.delivered)) k
            (a.each d (in-one flow p d m k));
        notified = n;
      };
      on_edges = (
        delivered-on_edges flow p r stamps.delivered a,
        elim (cases_Bool (can_resend (policy_of flow p))) [
          | inl k ↦ subst (AreAtEdgeStamps flow) (sym (none k)) tt
          | inr k ↦ sent-on_edges flow p r stamps.sent (b k)
        ],
      );
      sent = λ t e m k. sent-back flow p r stamps (b (told t)) e m k;
      none_sent = λ t. none (not-false (can_resend (policy_of flow p)) t);
    }

-- the greatest stamps inside the cover that is listed first for an edge
pub greatest_listed : (flow : Dataflow) (e : ℕ) (covers : List OfEdge) (i : ℕ) (x : OfEdge) (tops : List Stamp) → i < length covers → x ≡ get_or covers i x → x.edge ≡ e
    → front_of_edge (bounds_of flow (receiver flow e)) e covers ≡ front_of_edge (bounds_of flow (receiver flow e)) e (drop i covers)
    → AreGreatestIn (bounds_of flow (receiver flow e)) (frontier_of (bounds_of flow (receiver flow e)) x.front) tops → AreGreatestOn flow e covers tops
greatest_listed flow e covers i x tops l at is same g =
    let b = bounds_of flow (receiver flow e) in
    let first : drop i covers ≡ x ∷ drop (suc i) covers = drop-cons covers i x l ∙ ap (λ y. y ∷ drop (suc i) covers) (sym at) in
    subst (λ f. AreGreatestIn b f tops)
    (sym (same ∙ ap (front_of_edge b e) first
    ∙ ap (λ c. cond c (frontier_of b x.front) (front_of_edge b e (drop (suc i) covers))) (eq-eqb x.edge e is))) g
