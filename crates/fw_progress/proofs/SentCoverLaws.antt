-- What the traces of a node cover inside a frontier.
use Rattle.std.proofs.Common.{◌≡◌, ℕ, ◌+◌, ◌<◌, ◌≤◌, Bool, true, false, not, ◌==◌, cond, List, [], ◌∷◌, length, map, Result, refl, sym, ap, subst, ◌∙◌, arith}
use Rattle.std.specs.Prelude.{filter, IfOk}
use Rattle.std.specs.List.{AllByRecursion}
use Rattle.std.proofs.lemmas.Bool.{and_parts, eq-eqb}
use Rattle.fw_lemmas.proofs.Each.{each-weaker, each-both, each-map, each-kept}
use Rattle.fw_lemmas.proofs.Filters.{filter-true}
use Rattle.fw_time.specs.Stamp.{Stamp, in_domain}
use Rattle.fw_time.specs.declared.stamp.Bounds.{Bounds}
use Rattle.fw_frontier.specs.Frontier.{Frontier, cover}
use Rattle.fw_frontier.specs.Front.{Front, inside, IsFrontOf}
use Rattle.fw_frontier.proofs.NamesLaws.{frontier-closed}
use Rattle.fw_flow.specs.Counting.{how_many}
use Rattle.fw_flow.specs.declared.choice.Counted.{Counted}
use Rattle.fw_flow.specs.declared.event.Event.{Event}
use Rattle.fw_flow.specs.declared.event.Message.{Message}
use Rattle.fw_flow.specs.declared.kind.Policy.{Policy}
use Rattle.fw_flow.specs.declared.kind.Policy.TheVariants as policy
use Rattle.fw_flow.specs.declared.restoring.Restoring.TheVariants.{Anything}
use Rattle.fw_flow.specs.Dataflow.{System, Dataflow, kind_of, policy_of, sender, receiver, bounds_of, bounds_of_edge, bounds_of_domain, greatest_number, is_input_kind, is_sequence_kind, is_of_numbers, out_domain_of_kind, node_frontier, HasEpochs}
use Rattle.fw_flow.specs.NodeFunction.{sequence_sent, sent_by}
use Rattle.fw_flow.specs.Projection.{events_at, all_inside, count_from}
use Rattle.fw_flow.specs.Restoring.{can_resend, restoring_of_policy}
use Rattle.fw_flow.specs.WellFormed.{IsPolicyAllowed, IsWellFormed}
use Rattle.fw_model.specs.Covers.{stamps_from}
use Rattle.fw_model.specs.Filtering.{AreFrontiers, kept_events, messages_from}
use Rattle.fw_model.specs.History.{is_injection, injected_count, sent_messages, IsLegal}
use Rattle.fw_model.specs.Sending.{is_single_kind, SendsByCount}
use Rattle.fw_model.specs.Thinned.{IsThinned}
use Rattle.fw_model.specs.Writes.{takes_checkpoints}
use Rattle.fw_model.specs.Carried.{carried}
use Rattle.fw_model.proofs.CarriedLaws.{carried-numbered}
use Rattle.fw_model.proofs.KindSorts.{no_sequence-single, is_sequence, keeps_something}
use Rattle.fw_model.proofs.LegalLaws.{edge_domains, legal_events-in_domain, legal_messages-in_domain, only_inputs_inject}
use Rattle.fw_model.proofs.LocalityLaws.{sent_by-same}
use Rattle.fw_model.proofs.SequenceLaws.{no_inject, sent_by-sequence}
use Rattle.fw_model.proofs.ThinnedLaws.{thinned-covers}
use Rattle.fw_model.specs.Alike.{StandForCauses}
use Rattle.fw_model.proofs.AlikeLaws.{kept-of_domain}
use Rattle.fw_model.specs.EventStamps.{causes_in, tells_sent}
use Rattle.fw_model.proofs.SentStandLaws.{sent-covers}
use Rattle.fw_progress.specs.declared.traces.Traces.{Traces}
use Rattle.fw_progress.specs.Covers.{last_number, send_stamps, sent_inside, CoversSent}
use Rattle.fw_progress.specs.StampData.{counted_at_stamps}
use Rattle.fw_progress.specs.Tally.{count_inside}
use Rattle.fw_progress.specs.Trace.{stamps_where_sent, counted_of, counts_sent, IsTraceWithin}
use Rattle.fw_progress.specs.Traces.{AreOf}
use Rattle.fw_progress.proofs.CutTraceLaws.{sent-domain, edge-domain}
use Rattle.fw_progress.proofs.NumberLaws.{sequence-numbers, numbers-thinned}
use Rattle.fw_progress.proofs.OfferLaws.{kept-send, messages-own, messages-on_edges, messages-inside, stands-for_sent}
use Rattle.fw_progress.proofs.SentTallyLaws.{tally-count}
use Rattle.fw_progress.proofs.TraceLaws.{filter-domain, kept-domain}

-- ---- sequences

-- what a sequence sends is numbered, so that its out-edges carry all of it
pub carried-sequence : (flow : Dataflow) → IsWellFormed flow → (e : ℕ) → is_sequence_kind (kind_of flow (sender flow e)) ≡ true → (ms : List Message) → carried flow e ms ≡ ms
carried-sequence flow w e k ms =
    carried-numbered flow e (ap is_of_numbers (sym (edge_domains flow w e) ∙ ap (out_domain_of_kind flow) (is_sequence (kind_of flow (sender flow e)) k))) ms

pub none-kept : {X : Type 0} (test keep : X → Bool) (xs : List X) → how_many test xs ≡ 0 → how_many test (filter keep xs) ≡ 0
none-kept test keep [] z = refl
none-kept test keep (x ∷ xs) z = by (keep x) (test x) refl z (none-kept test keep xs)
  where
    by : (b c : Bool) → test x ≡ c → cond c (how_many test xs + 1) (how_many test xs) ≡ 0 → (how_many test xs ≡ 0 → how_many test (filter keep xs) ≡ 0)
        → how_many test (cond b (x ∷ filter keep xs) (filter keep xs)) ≡ 0
    by b true e y f = absurd (omega (arith, y))
    by true false e y f = ap (λ c. cond c (how_many test (filter keep xs) + 1) (how_many test (filter keep xs))) e ∙ f y
    by false false e y f = f y

-- a sequence that cannot send again takes checkpoints, so that its messages are counted
pub counts-sequence : (flow : Dataflow) → IsWellFormed flow → (p : ℕ) → p < length flow.nodes → is_sequence_kind (kind_of flow p) ≡ true → tells_sent flow p ≡ true → counts_sent flow p ≡ true
counts-sequence flow w p l s t =
    let allowed = subst (λ kind. IsPolicyAllowed kind (policy_of flow p)) (is_sequence (kind_of flow p) s) (w.policies p l) in
    by (policy_of flow p) (keeps_something (policy_of flow p) allowed) t
  where
    by : (x : Policy) → (restoring_of_policy x ≡ Anything → ⊥) → not (can_resend x) ≡ true → takes_checkpoints x ≡ true
    by policy.None some n = absurd (some refl)
    by policy.Lazy some n = refl
    by policy.Logged some n = refl
    by policy.Eager some n = refl
    by policy.Full some n = absurd (cc)

-- a sequence injects nothing
pub no_injection : (sys : System) (h : List Event) (p : ℕ) → IsLegal sys h → SendsByCount (kind_of sys.flow p) → injected_count p h ≡ 0
no_injection sys h p l is = only_inputs_inject sys h l p (ap is_input_kind is)

pub from-length : (f : Frontier) (ms : List Message) → length (messages_from f ms) ≡ count_from f ms
from-length f [] = refl
from-length f (m ∷ ms) = by (all_inside f m.causes) (from-length f ms)
  where
    by : (b : Bool) → length (messages_from f ms) ≡ count_from f ms → length (cond b (m ∷ messages_from f ms) (messages_from f ms)) ≡ cond b (count_from f ms + 1) (count_from f ms)
    by true e = omega (arith, e)
    by false e = e

-- the last number of what a sequence sent from inside a frontier stands for all of it
from-sequence : (sys : System) (h : List Event) (p : ℕ) (f : Front) → IsWellFormed sys.flow → HasEpochs sys → IsLegal sys h → SendsByCount (kind_of sys.flow p)
    → (base : Frontier) → ((x : ℕ) → x ≤ greatest_number → base (x ∷ []) ≡ true)
    → IsThinned base (map (λ (m : Message). m.at) (messages_from (node_frontier sys.flow p f) (sent_by sys p (events_at sys.flow p h))))
    (last_number (count_from (node_frontier sys.flow p f) (sent_by sys p (events_at sys.flow p h))))
from-sequence sys h p f w b l is base all =
    subst (λ n. IsThinned base (map (λ (m : Message). m.at) part) (last_number n)) (from-length (node_frontier sys.flow p f) (sent_by sys p (events_at sys.flow p h)))
    (subst (λ ms. IsThinned base (map (λ (m : Message). m.at) ms) (last_number (length ms))) (sym left)
    (numbers-thinned base all (length (sequence_sent vs)) (sequence_sent vs) (sequence-numbers vs)))
  where
    keep : ℕ → Frontier
    keep q = node_frontier sys.flow q (cond (q == p) f [])

    fr : AreFrontiers sys.flow keep
    fr q = frontier-closed (bounds_of sys.flow q) (cond (q == p) f [])

    k : List Event
    k = kept_events sys.flow keep h

    vs : List Event
    vs = events_at sys.flow p k

    part : List Message
    part = messages_from (node_frontier sys.flow p f) (sent_by sys p (events_at sys.flow p h))

    left : part ≡ sequence_sent vs
    left =
        ap (λ c. messages_from (node_frontier sys.flow p (cond c f [])) (sent_by sys p (events_at sys.flow p h))) (sym (eq-eqb p p refl))
        ∙ sym (sent_by-same sys h keep w b l fr p)
        ∙ sent_by-sequence sys p is vs (no_inject sys.flow p k (none-kept (is_injection p) _ h (no_injection sys h p l is)))

-- the same of all that it sent
pub all-sequence : (sys : System) (h : List Event) (p : ℕ) → IsLegal sys h → SendsByCount (kind_of sys.flow p)
    → (base : Frontier) → ((x : ℕ) → x ≤ greatest_number → base (x ∷ []) ≡ true)
    → IsThinned base (map (λ (m : Message). m.at) (sent_by sys p (events_at sys.flow p h))) (last_number (length (sent_by sys p (events_at sys.flow p h))))
all-sequence sys h p l is base all =
    let vs = events_at sys.flow p h in
    subst (λ ms. IsThinned base (map (λ (m : Message). m.at) ms) (last_number (length ms))) (sym (sent_by-sequence sys p is vs (no_inject sys.flow p h (no_injection sys h p l is))))
    (numbers-thinned base all (length (sequence_sent vs)) (sequence_sent vs) (sequence-numbers vs))

-- stamps that are thinned anywhere cover all
thinned-cover : (b : Bounds) (base : Frontier) (all kept : List Stamp) → IsThinned base all kept → cover b kept ≡ cover b all
thinned-cover b base all kept t = ap (cover b) (sym (filter-true kept)) ∙ thinned-covers b base all kept t (λ s. true) (λ s i. refl) ∙ ap (cover b) (filter-true all)

-- ---- what was sent

-- the stamps are of the receiver's domain, and cover what was sent on an edge from inside a frontier
pub record CoverSent (sys : System) (h : List Event) (e : ℕ) (f : Front) (sent : List Stamp) : Type 0 where
  pub in_the_domain : AreOf (bounds_of sys.flow (receiver sys.flow e)) sent
  pub covers : cover (bounds_of sys.flow (receiver sys.flow e)) sent
      ≡ cover (bounds_of sys.flow (receiver sys.flow e)) (stamps_from (node_frontier sys.flow (sender sys.flow e) f) (sent_messages sys h e))

-- messages that were sent on an edge are of its receiver's domain
messages-receiver : (sys : System) (h : List Event) → IsWellFormed sys.flow → HasEpochs sys → IsLegal sys h → (e : ℕ)
    → AllByRecursion (λ (m : Message). in_domain (bounds_of sys.flow (receiver sys.flow e)) m.at ≡ true) (sent_messages sys h e)
unfolding bounds_of
messages-receiver sys h w b l e =
    each-weaker (λ (m : Message). in_domain (bounds_of_edge sys.flow e) m.at ≡ true) (λ m. in_domain (bounds_of sys.flow (receiver sys.flow e)) m.at ≡ true) (sent_messages sys h e)
    (λ m i. sym (ap (λ d. in_domain (bounds_of_domain sys.flow d) m.at) (edge_domains sys.flow w e)) ∙ i)
    (legal_messages-in_domain sys h w b l e)

pub sequence-covers : (sys : System) (h : List Event) (e : ℕ) (f : Front) (traces : Traces) → IsWellFormed sys.flow → HasEpochs sys → IsLegal sys h
    → is_sequence_kind (kind_of sys.flow (sender sys.flow e)) ≡ true → counts_sent sys.flow (sender sys.flow e) ≡ true → IsTraceWithin true sys h (sender sys.flow e) f traces → (n : ℕ)
    → n ≡ (counted_of traces (sender sys.flow e)).inside + count_inside (inside f) (counted_of traces (sender sys.flow e)).outside
    → CoverSent sys h e f (last_number n)
sequence-covers sys h e f traces w b l k counts t n is =
    let p = sender sys.flow e in
    let ms = sent_by sys p (events_at sys.flow p h) in
    let all : sent_messages sys h e ≡ ms = carried-sequence sys.flow w e k ms in
    let g = node_frontier sys.flow p f in
    let d = sent-domain sys h p (legal_events-in_domain sys h w b l p) in
    let count : n ≡ count_from g ms = is ∙ tally-count (bounds_of sys.flow p) t.base ms f (counted_of traces p) d t.within (t.trace.counted counts) in
    let thin = subst (λ m. IsThinned (λ s. true) (map (λ (x : Message). x.at) (messages_from g ms)) (last_number m)) (sym count)
    (from-sequence sys h p f w b l (is_sequence (kind_of sys.flow p) k) (λ s. true) (λ x i. refl)) in
    let B = bounds_of sys.flow (receiver sys.flow e) in
    record {
      in_the_domain = kept-domain B (λ s. true) (map (λ (x : Message). x.at) (messages_from g ms)) (last_number n)
          (each-map (λ s. in_domain B s ≡ true) (λ (x : Message). x.at) (messages_from g ms)
          (each-kept (λ (x : Message). in_domain B x.at ≡ true) (λ (x : Message). all_inside g x.causes) ms
          (subst (AllByRecursion (λ (x : Message). in_domain B x.at ≡ true)) all (messages-receiver sys h w b l e)))) thin;
      covers = thinned-cover B (λ s. true) (map (λ (x : Message). x.at) (messages_from g ms)) (last_number n) thin ∙ sym (ap (λ (xs : List Message). cover B (stamps_from g xs)) all);
    }

pub stamps-cover : (sys : System) (h : List Event) (e : ℕ) (f : Front) (traces : Traces) → e < length sys.flow.edges → IsWellFormed sys.flow → HasEpochs sys → IsLegal sys h
    → is_single_kind (kind_of sys.flow (sender sys.flow e)) ≡ true → tells_sent sys.flow (sender sys.flow e) ≡ true → IsTraceWithin true sys h (sender sys.flow e) f traces
    → CoverSent sys h e f (send_stamps sys.flow (sender sys.flow e) (filter (inside f) (stamps_where_sent traces e)))
stamps-cover sys h e f traces there w b l k told t =
    let p = sender sys.flow e in
    let kept = stamps_where_sent traces e in
    let g = node_frontier sys.flow p f in
    let all = causes_in (sent_messages sys h e) in
    let d = edge-domain sys h p e refl (legal_events-in_domain sys h w b l p) in
    let thin : StandForCauses sys.flow p true t.base all kept = subst (λ c. StandForCauses sys.flow p c (cond c t.base (λ s. true)) all kept) told (t.trace.sent e there refl k) in
    let send = kept-send sys h e true t.base kept k d thin in
    let ms = counted_at_stamps sys.flow p kept e in
    let B = bounds_of sys.flow (receiver sys.flow e) in
    let left : map (λ (m : Counted). m.at) (filter (λ (m : Counted). all_inside g m.causes) ms) ≡ send_stamps sys.flow p (filter (inside f) kept) =
    messages-inside sys.flow p kept e g ∙ ap (send_stamps sys.flow p) (sym (filter-domain (bounds_of sys.flow p) f kept (kept-of_domain sys.flow p true t.base all kept thin d))) in
    record {
      in_the_domain = subst (AreOf B) left
          (each-map (λ s. in_domain B s ≡ true) (λ (m : Counted). m.at) (filter (λ (m : Counted). all_inside g m.causes) ms)
          (each-kept (λ (m : Counted). in_domain B m.at ≡ true) (λ (m : Counted). all_inside g m.causes) ms
          (each-weaker (λ (m : Counted). (m.edge ≡ e) × (in_domain (bounds_of sys.flow (receiver sys.flow m.edge)) m.at ≡ true)) (λ (m : Counted). in_domain B m.at ≡ true) ms
          (λ m i. sym (ap (λ x. in_domain (bounds_of sys.flow (receiver sys.flow x)) m.at) i.0) ∙ i.1)
          (each-both (λ (m : Counted). m.edge ≡ e) (λ (m : Counted). in_domain (bounds_of sys.flow (receiver sys.flow m.edge)) m.at ≡ true) ms
          (messages-own sys.flow p kept e) (messages-on_edges sys.flow w p kept e refl send)))));
      covers = sym (ap (cover B) left)
          ∙ sent-covers sys h e t.base ms k (stands-for_sent true sys h p t.base kept e there refl send thin)
          (λ s i. (and_parts (in_domain (bounds_of sys.flow p) s) (inside f s) (t.within s i)).0) g t.within B;
    }

-- ---- by the traces

inside-covers : (sys : System) (h : List Event) (e : ℕ) (f : Front) (traces : Traces) → e < length sys.flow.edges → IsWellFormed sys.flow → HasEpochs sys → IsLegal sys h
    → tells_sent sys.flow (sender sys.flow e) ≡ true → IsTraceWithin true sys h (sender sys.flow e) f traces → CoverSent sys h e f (sent_inside sys.flow traces e f)
inside-covers sys h e f traces there w b l told t = by (is_sequence_kind (kind_of sys.flow (sender sys.flow e))) refl
  where
    p : ℕ
    p = sender sys.flow e

    n : ℕ
    n = (counted_of traces p).inside + count_inside (inside f) (counted_of traces p).outside

    by : (c : Bool) → is_sequence_kind (kind_of sys.flow p) ≡ c → CoverSent sys h e f (cond c (last_number n) (send_stamps sys.flow p (filter (inside f) (stamps_where_sent traces e))))
    by true k = sequence-covers sys h e f traces w b l k (counts-sequence sys.flow w p (w.senders_declared e there) k told) t n refl
    by false k = stamps-cover sys h e f traces there w b l (no_sequence-single (kind_of sys.flow p) k) told t

-- the cover of what stands for what a node sent is that of all that it sent
pub sent-stand : {E : Type 0} (flow : Dataflow) (e : ℕ) (f : Front) (traces : Traces) (sent : List Stamp) (bounds : Bounds) (result : Result Front E) → IsWellFormed flow → e < length flow.edges
    → sent ≡ sent_inside flow traces e f → bounds ≡ bounds_of flow (receiver flow e) → (AreOf bounds sent → IfOk result (λ front. IsFrontOf bounds front (cover bounds sent)))
    → (sys : System) (h : List Event) → sys.flow ≡ flow → HasEpochs sys → IsLegal sys h
    → tells_sent flow (sender flow e) ≡ true → IsTraceWithin true sys h (sender flow e) f traces → IfOk result (CoversSent sys h e f)
sent-stand flow e f traces sent bounds result w there k i found sys h s b legal told t =
    let now : IsTraceWithin true sys h (sender sys.flow e) f traces = subst (λ g. IsTraceWithin true sys h (sender g e) f traces) (sym s) t in
    let same : sent ≡ sent_inside sys.flow traces e f = k ∙ ap (λ g. sent_inside g traces e f) (sym s) in
    let stand : CoverSent sys h e f sent = subst (CoverSent sys h e f) (sym same)
    (inside-covers sys h e f traces (subst (λ g. e < length g.edges) (sym s) there) (subst IsWellFormed (sym s) w) b legal
    (ap (λ g. tells_sent g (sender g e)) s ∙ told) now) in
    let is : bounds ≡ bounds_of sys.flow (receiver sys.flow e) = i ∙ ap (λ g. bounds_of g (receiver g e)) (sym s) in
    subst (λ x. IfOk result (λ front. IsFrontOf (bounds_of sys.flow (receiver sys.flow e)) front x)) stand.covers
    (subst (λ x. IfOk result (λ front. IsFrontOf x front (cover x sent))) is
    (found (subst (λ x. AreOf x sent) (sym is) stand.in_the_domain)))
