-- What the events inside a frontier send does not depend on those outside.
use Rattle.std.proofs.Common.{◌≡◌, ℕ, true, false, ◌&&◌, ◌==◌, List, [], ◌∷◌, ◌++◌, refl, sym, ap, ◌∙◌, inl, inr}
use Rattle.std.proofs.lemmas.Bool.{cond_both, cases_Bool, eqb-true}
use Rattle.std.proofs.lemmas.List.Elements.{filter-append}
use Rattle.fw_lemmas.proofs.Bools.{two_ways}
use Rattle.fw_lemmas.proofs.Each.{each-weaker, each-one}
use Rattle.fw_lemmas.proofs.Filters.{filter-in, filter-out, filter-all, filter-none, filter-inner, filter-swap}
use Rattle.fw_time.specs.Stamp.{Stamp, leq, in_domain}
use Rattle.fw_frontier.specs.Frontier.{Frontier, IsFrontier, Within}
use Rattle.fw_flow.specs.declared.event.Event.{Event}
use Rattle.fw_flow.specs.declared.event.Event.TheVariants.{Inject, Deliver, Notify}
use Rattle.fw_flow.specs.declared.event.Message.{Message}
use Rattle.fw_flow.specs.Kind.{Kind}
use Rattle.fw_flow.specs.Dataflow.{greatest_of_kind, System, Dataflow, kind_of, sender, receiver, bounds_of, bounds_of_domain, out_domain_of_kind, HasEpochs}
use Rattle.fw_flow.specs.NodeFunction.{event_node, event_stamp, sends_of_kind, sends, sent_by}
use Rattle.fw_flow.specs.Projection.{events_at, all_inside, count_from, sent_count, phi_of_kind, phi}
use Rattle.fw_flow.specs.WellFormed.{IsWellFormed}
use Rattle.fw_model.proofs.CarriedLaws.{carried-from}
use Rattle.fw_model.proofs.LesserLaws.{lesser-in_domain}
use Rattle.fw_model.specs.Carried.{carried}
use Rattle.fw_model.specs.History.{message_on, sent_messages, delivered_messages, IsLegal}
use Rattle.fw_model.specs.LawsOfFiltering.{KeptEventsSendTheSame, KeptEventsSendTheSameFromWithin, KeptEventsDeliverTheSame, PhiOfKeptEvents}
use Rattle.fw_model.proofs.StampLaws.{same-is}
use Rattle.fw_model.proofs.FilterLaws.{how_many-filter}
use Rattle.fw_model.proofs.CauseLaws.{IsCausedBy, outside-sends, sends-one_cause}
use Rattle.fw_model.proofs.SequenceLaws.{one_inside}
use Rattle.fw_model.proofs.PhiLaws.{all_inside-monotone}
use Rattle.fw_model.specs.Reads.{Reads, nothing_before, its_time, up_to_its_time, all_in_order, reads_of, reads_at, Follows, IsInOrder}
use Rattle.fw_model.proofs.ReadLaws.{kept-reads}
use Rattle.fw_model.proofs.ReadOrderLaws.{read-in_order}
use Rattle.fw_model.specs.Filtering.{AreFrontiers, kept_events, events_inside, messages_from, messages_inside}

-- with the stamp each lesser one is inside
abbrev IsInsideUpTo : Frontier → Stamp → Type 0
IsInsideUpTo f t = (s : Stamp) → leq s t ≡ true → f s ≡ true

-- ---- what an event inside sends

-- what is read lies inside
reads-local : (r : Reads) (f : Frontier) (t : Stamp) → IsInsideUpTo f t → f t ≡ true → (s : Stamp) → reads_at r t s ≡ true → f s ≡ true
reads-local nothing_before f t below i s k = absurd (two_ways false k refl)
reads-local its_time f t below i s k = ap f (same-is s t k) ∙ i
reads-local up_to_its_time f t below i s k = below s k
reads-local all_in_order f t below i s k = below s k

sends_of_kind-local : (sys : System) (kind : Kind) (f : Frontier) (vs : List Event) (v : Event) → IsInsideUpTo f (event_stamp v) → f (event_stamp v) ≡ true → Follows kind vs v
    → sends_of_kind sys kind (events_inside f vs) v ≡ sends_of_kind sys kind vs v
sends_of_kind-local sys kind f vs v below i o =
    kept-reads sys kind f vs v o
    (each-one (λ w. reads_at (reads_of kind) (event_stamp v) (event_stamp w) ≡ true → f (event_stamp w) ≡ true) vs
    (λ w k. reads-local (reads_of kind) f (event_stamp v) below i (event_stamp w) k))

-- an event inside sends, where what it reads is inside, what has all its causes inside of what it sends after all
sends-local : (sys : System) (p : ℕ) (f : Frontier) (vs : List Event) (v : Event) → IsInsideUpTo f (event_stamp v) → f (event_stamp v) ≡ true → Follows (kind_of sys.flow p) vs v
    → sends sys p (events_inside f vs) v ≡ messages_from f (sends sys p vs v)
unfolding sends
sends-local sys p f vs v below i o =
    sends_of_kind-local sys (kind_of sys.flow p) f vs v below i o
    ∙ sym (filter-all (λ (m : Message). all_inside f m.causes) (sends sys p vs v)
    (each-weaker (IsCausedBy (event_stamp v)) (λ m. all_inside f m.causes ≡ true) (sends sys p vs v) (λ m e. one_inside f (event_stamp v) m true i e) (sends-one_cause sys p vs v)))

-- what the events inside send is what has all its causes inside of what all send
sent_by-kept : (sys : System) (p : ℕ) (f : Frontier) → IsFrontier (bounds_of sys.flow p) f → (vs : List Event) → IsInOrder (kind_of sys.flow p) vs
    → sent_by sys p (events_inside f vs) ≡ messages_from f (sent_by sys p vs)
unfolding sends
sent_by-kept sys p f fr [] o = refl
sent_by-kept sys p f fr (v ∷ vs) o =
    let rest = sent_by-kept sys p f fr vs o.1 in
    let now = sends sys p vs v in
    let parts = filter-append (λ (m : Message). all_inside f m.causes) now (sent_by sys p vs) in
    elim (cases_Bool (f (event_stamp v))) [
      | inl i ↦
          let top = fr.inside_domain (event_stamp v) i in
          let below : IsInsideUpTo f (event_stamp v) = λ s l. fr.closed s (event_stamp v) (lesser-in_domain sys.flow p s (event_stamp v) l top) l i in
          ap (sent_by sys p) (filter-in (λ w. f (event_stamp w)) v vs i)
          ∙ ap (λ ms. ms ++ sent_by sys p (events_inside f vs)) (sends-local sys p f vs v below i o.0)
          ∙ ap (λ ms. messages_from f now ++ ms) rest
          ∙ sym parts
      | inr i ↦
          let none = filter-none (λ (m : Message). all_inside f m.causes) now (outside-sends sys p f vs v i) in
          ap (sent_by sys p) (filter-out (λ w. f (event_stamp w)) v vs i) ∙ rest ∙ sym (parts ∙ ap (λ ms. ms ++ messages_from f (sent_by sys p vs)) none)
    ]

-- ---- the laws

-- a node's part of the kept events
pub events_at-kept : (flow : Dataflow) (keep : ℕ → Frontier) (p : ℕ) (h : List Event) → events_at flow p (kept_events flow keep h) ≡ events_inside (keep p) (events_at flow p h)
events_at-kept flow keep p h =
    filter-swap (λ v. event_node flow v == p) (λ v. keep (event_node flow v) (event_stamp v)) (λ v. keep p (event_stamp v)) h
    (each-one (λ v. (event_node flow v == p) ≡ true → keep (event_node flow v) (event_stamp v) ≡ keep p (event_stamp v)) h (λ v c. ap (λ q. keep q (event_stamp v)) (eqb-true (event_node flow v) p c)))

pub sent_by-same : (sys : System) (h : List Event) (keep : ℕ → Frontier) → IsWellFormed sys.flow → HasEpochs sys → IsLegal sys h → AreFrontiers sys.flow keep → (p : ℕ)
    → sent_by sys p (events_at sys.flow p (kept_events sys.flow keep h)) ≡ messages_from (keep p) (sent_by sys p (events_at sys.flow p h))
sent_by-same sys h keep w b l fr p =
    ap (sent_by sys p) (events_at-kept sys.flow keep p h)
    ∙ sent_by-kept sys p (keep p) (fr p) (events_at sys.flow p h) (read-in_order sys h w b l p)

pub sends-same : KeptEventsSendTheSame
sends-same sys h keep w b l fr e =
    let p = sender sys.flow e in
    ap (carried sys.flow e) (sent_by-same sys h keep w b l fr p) ∙ sym (carried-from sys.flow e (keep p) (sent_by sys p (events_at sys.flow p h)))

pub delivers-same : KeptEventsDeliverTheSame
delivers-same flow [] keep e = refl
delivers-same flow (v ∷ h) keep e =
    let f = keep (receiver flow e) in
    let rest = delivers-same flow h keep e in
    let parts = filter-append (λ (m : Message). f m.at) (message_on e v) (delivered_messages h e) in
    elim (cases_Bool (keep (event_node flow v) (event_stamp v))) [
      | inl i ↦ ap (λ ws. delivered_messages ws e) (filter-in (λ w. keep (event_node flow w) (event_stamp w)) v h i) ∙ ap (λ ms. message_on e v ++ ms) rest
          ∙ sym (parts ∙ ap (λ ms. ms ++ messages_inside f (delivered_messages h e)) (kept v i))
      | inr i ↦ ap (λ ws. delivered_messages ws e) (filter-out (λ w. keep (event_node flow w) (event_stamp w)) v h i) ∙ rest
          ∙ sym (parts ∙ ap (λ ms. ms ++ messages_inside f (delivered_messages h e)) (struck v i))
    ]
  where
    at_edge : (d : ℕ) (m : Message) → (d == e) ≡ true → keep (receiver flow e) m.at ≡ keep (receiver flow d) m.at
    at_edge d m c = ap (λ n. keep (receiver flow n) m.at) (sym (eqb-true d e c))

    kept : (v : Event) → keep (event_node flow v) (event_stamp v) ≡ true → messages_inside (keep (receiver flow e)) (message_on e v) ≡ message_on e v
    kept (Inject s x) i = refl
    kept (Notify p t) i = refl
    kept (Deliver d m) i =
        cond_both (d == e) (m ∷ []) [] (λ ms. messages_inside (keep (receiver flow e)) ms ≡ ms)
        (λ c. filter-in (λ (x : Message). keep (receiver flow e) x.at) m [] (at_edge d m c ∙ i)) (λ c. refl)

    struck : (v : Event) → keep (event_node flow v) (event_stamp v) ≡ false → messages_inside (keep (receiver flow e)) (message_on e v) ≡ []
    struck (Inject s x) i = refl
    struck (Notify p t) i = refl
    struck (Deliver d m) i =
        cond_both (d == e) (m ∷ []) [] (λ ms. messages_inside (keep (receiver flow e)) ms ≡ [])
        (λ c. filter-out (λ (x : Message). keep (receiver flow e) x.at) m [] (at_edge d m c ∙ i)) (λ c. refl)

pub sends-same_within : KeptEventsSendTheSameFromWithin
sends-same_within sys h keep w b l fr e g i =
    let f = keep (sender sys.flow e) in
    ap (messages_from g) (sends-same sys h keep w b l fr e)
    ∙ filter-inner (λ (m : Message). all_inside g m.causes) (λ m. all_inside f m.causes) (sent_messages sys h e)
    (each-one (λ (m : Message). all_inside g m.causes ≡ true → all_inside f m.causes ≡ true) (sent_messages sys h e) (λ m k. all_inside-monotone g f i m.causes k))

pub sent_count-same : (sys : System) (h : List Event) (keep : ℕ → Frontier) → IsWellFormed sys.flow → HasEpochs sys → IsLegal sys h → AreFrontiers sys.flow keep
    → (p : ℕ) (g : Frontier) → Within g (keep p) → sent_count sys (kept_events sys.flow keep h) p g ≡ sent_count sys h p g
sent_count-same sys h keep w b l fr p g i =
    let ms = sent_by sys p (events_at sys.flow p h) in
    ap (count_from g) (sent_by-same sys h keep w b l fr p)
    ∙ how_many-filter (λ (m : Message). all_inside g m.causes) (λ m. all_inside (keep p) m.causes) ms
    (each-one (λ m. all_inside g m.causes ≡ true → all_inside (keep p) m.causes ≡ true) ms (λ m k. all_inside-monotone g (keep p) i m.causes k))

pub phi-same : PhiOfKeptEvents
unfolding phi
phi-same sys h keep w b l fr e g i u =
    let p = sender sys.flow e in
    let kind = kind_of sys.flow p in
    ap (λ n. in_domain (bounds_of_domain sys.flow (out_domain_of_kind sys.flow kind)) u && phi_of_kind (greatest_of_kind sys.flow kind) kind n g u)
    (sent_count-same sys h keep w b l fr p g i)
