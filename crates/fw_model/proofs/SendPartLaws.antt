-- What a part of a node's events sends.
use Rattle.std.proofs.Common.{◌≡◌, ℕ, true, false, cond, ◌==◌, List, [], ◌∷◌, ◌++◌, refl, sym, ap, subst, ◌∙◌, inl, inr}
use Rattle.std.proofs.lemmas.Bool.{cond_both, cases_Bool, eqb-true, eq-eqb}
use Rattle.std.proofs.lemmas.List.Elements.{filter-append}
use Rattle.fw_lemmas.proofs.Bools.{two_ways}
use Rattle.fw_lemmas.proofs.Each.{each-weaker, each-one}
use Rattle.fw_lemmas.proofs.Filters.{filter-in, filter-out, filter-all, filter-none}
use Rattle.fw_time.specs.Stamp.{Stamp, same}
use Rattle.fw_frontier.specs.Frontier.{Frontier, IsFrontier, everything}
use Rattle.fw_flow.specs.declared.choice.Cut.TheVariants.{Present}
use Rattle.fw_flow.specs.declared.event.Event.{Event}
use Rattle.fw_flow.specs.declared.event.Message.{Message}
use Rattle.fw_flow.specs.Kind.{Kind}
use Rattle.fw_flow.specs.Dataflow.{System, Dataflow, kind_of, bounds_of, HasEpochs}
use Rattle.fw_flow.specs.NodeFunction.{event_stamp, sends_of_kind, sends, sent_by}
use Rattle.fw_flow.specs.Projection.{events_at, all_inside}
use Rattle.fw_flow.specs.WellFormed.{IsWellFormed, may_keep_nothing}
use Rattle.fw_model.specs.History.{IsLegal}
use Rattle.fw_model.specs.Filtering.{AreFrontiers, events_inside, messages_from}
use Rattle.fw_model.proofs.FilteredLaws.{set-frontier}
use Rattle.fw_model.proofs.CauseLaws.{IsCausedBy, outside-sends, sends-one_cause}
use Rattle.fw_model.proofs.LocalityLaws.{events_at-kept, sent_by-same}
use Rattle.fw_model.specs.Reads.{Reads, nothing_before, its_time, up_to_its_time, all_in_order, reads_of, reads_at, reads_its_time_alone}
use Rattle.fw_model.proofs.ReadLaws.{kept-reads, alone-follows, free-alone}
use Rattle.fw_model.proofs.SequenceLaws.{one_inside}
use Rattle.fw_time.proofs.StampLaws.{same-is}
use Rattle.fw_model.specs.LawsOfReplay.{SamePartSendsTheSame, PassingEventsSendTheirPart}

-- ---- of a legal history

-- the frontier at node p, and at each other node all of its domain
abbrev only_at : Dataflow → ℕ → Frontier → ℕ → Frontier
only_at flow p f q = cond (q == p) f (everything (bounds_of flow q))

-- in a legal history the events of a node inside a frontier send by themselves what they send among all
pub part-sends : (sys : System) (h : List Event) → IsWellFormed sys.flow → HasEpochs sys → IsLegal sys h → (p : ℕ) (f : Frontier) → IsFrontier (bounds_of sys.flow p) f
    → sent_by sys p (events_inside f (events_at sys.flow p h)) ≡ messages_from f (sent_by sys p (events_at sys.flow p h))
part-sends sys h w b l p f fr =
    let keep = only_at sys.flow p f in
    let frs : AreFrontiers sys.flow keep = λ q.
    cond_both (q == p) f (everything (bounds_of sys.flow q)) (IsFrontier (bounds_of sys.flow q))
    (λ e. subst (λ n. IsFrontier (bounds_of sys.flow n) f) (sym (eqb-true q p e)) fr) (λ e. set-frontier sys q Present) in
    let here : keep p ≡ f = ap (λ c. cond c f (everything (bounds_of sys.flow p))) (eq-eqb p p refl) in
    subst (λ g. sent_by sys p (events_inside g (events_at sys.flow p h)) ≡ messages_from g (sent_by sys p (events_at sys.flow p h))) here
    (sym (ap (sent_by sys p) (events_at-kept sys.flow keep p h)) ∙ sent_by-same sys h keep w b l frs p)

pub parts-send : SamePartSendsTheSame
parts-send sys h k w b l m p f fr same =
    sym (part-sends sys k w b m p f fr) ∙ ap (sent_by sys p) same.events ∙ part-sends sys h w b l p f fr

-- ---- of any events, at a node whose kind may keep nothing

reads-passing : (r : Reads) → reads_its_time_alone r ≡ true → (f : Frontier) (t : Stamp) → f t ≡ true → (s : Stamp) → reads_at r t s ≡ true → f s ≡ true
reads-passing nothing_before n f t i s k = absurd (two_ways false k refl)
reads-passing its_time n f t i s k = ap f (same-is s t k) ∙ i
reads-passing up_to_its_time n f t i s k = absurd (two_ways false n refl)
reads-passing all_in_order n f t i s k = absurd (two_ways false n refl)

sends_of_kind-passing : (sys : System) (kind : Kind) → may_keep_nothing kind ≡ true → (f : Frontier) (vs : List Event) (v : Event) → f (event_stamp v) ≡ true
    → sends_of_kind sys kind (events_inside f vs) v ≡ sends_of_kind sys kind vs v
sends_of_kind-passing sys kind n f vs v i =
    let alone = free-alone kind n in
    kept-reads sys kind f vs v (alone-follows kind alone vs v)
    (each-one (λ w. reads_at (reads_of kind) (event_stamp v) (event_stamp w) ≡ true → f (event_stamp w) ≡ true) vs
    (λ w k. reads-passing (reads_of kind) alone f (event_stamp v) i (event_stamp w) k))

-- an event inside sends after those inside what has all its causes inside of what it sends after all
sends-passing : (sys : System) (p : ℕ) → may_keep_nothing (kind_of sys.flow p) ≡ true → (f : Frontier) (vs : List Event) (v : Event) → f (event_stamp v) ≡ true
    → sends sys p (events_inside f vs) v ≡ messages_from f (sends sys p vs v)
unfolding sends
sends-passing sys p n f vs v i =
    sends_of_kind-passing sys (kind_of sys.flow p) n f vs v i
    ∙ sym (filter-all (λ (m : Message). all_inside f m.causes) (sends sys p vs v)
    (each-weaker (IsCausedBy (event_stamp v)) (λ m. all_inside f m.causes ≡ true) (sends sys p vs v) (λ m e. one_inside f (event_stamp v) m true i e) (sends-one_cause sys p vs v)))

pub passing-send : PassingEventsSendTheirPart
passing-send sys p n f [] = refl
passing-send sys p n f (v ∷ vs) =
    let rest = passing-send sys p n f vs in
    let now = sends sys p vs v in
    let parts = filter-append (λ (m : Message). all_inside f m.causes) now (sent_by sys p vs) in
    elim (cases_Bool (f (event_stamp v))) [
      | inl i ↦
          ap (sent_by sys p) (filter-in (λ w. f (event_stamp w)) v vs i)
          ∙ ap (λ ms. ms ++ sent_by sys p (events_inside f vs)) (sends-passing sys p n f vs v i)
          ∙ ap (λ ms. messages_from f now ++ ms) rest
          ∙ sym parts
      | inr i ↦
          let none = filter-none (λ (m : Message). all_inside f m.causes) now (outside-sends sys p f vs v i) in
          ap (sent_by sys p) (filter-out (λ w. f (event_stamp w)) v vs i) ∙ rest ∙ sym (parts ∙ ap (λ ms. ms ++ messages_from f (sent_by sys p vs)) none)
    ]
