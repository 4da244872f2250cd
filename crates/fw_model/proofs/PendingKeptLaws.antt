-- What is pending of the kept events, and in a filtered history.
use Rattle.std.proofs.Common.{◌≡◌, ℕ, Bool, true, false, cond, not, List, [], ◌∷◌, length, filter, map, refl, sym, ap, subst, ◌∙◌, inl, inr}
use Rattle.std.specs.List.{AllByRecursion}
use Rattle.std.proofs.lemmas.Bool.{and_from, or_parts, or_left, or_right, cond_both, cond-false, cases_Bool, cases_lt, false_from_ne_true}
use Rattle.fw_lemmas.proofs.Bools.{two_ways}
use Rattle.fw_lemmas.proofs.Each.{each-weaker, each-both, each-kept}
use Rattle.fw_lemmas.proofs.Filters.{filter-in, filter-out, filter-all, filter-none}
use Rattle.fw_time.specs.Stamp.{Stamp, leq, same, in_domain}
use Rattle.fw_time.proofs.StampLaws.{leq-refl}
use Rattle.fw_frontier.specs.Frontier.{Frontier, everything, nothing, cover, some_above}
use Rattle.fw_frontier.specs.Front.{Front, frontier_of}
use Rattle.fw_frontier.proofs.NamesLaws.{frontier-closed}
use Rattle.fw_flow.specs.declared.choice.Cut.{Cut}
use Rattle.fw_flow.specs.declared.choice.Cut.TheVariants.{Present, At}
use Rattle.fw_flow.specs.declared.event.Event.{Event}
use Rattle.fw_flow.specs.declared.event.Message.{Message}
use Rattle.fw_flow.specs.Dataflow.{System, Dataflow, kind_of, policy_of, sender, receiver, bounds_of, bounds_of_domain, bounds_of_edge, HasEpochs}
use Rattle.fw_flow.specs.Projection.{all_inside}
use Rattle.fw_flow.specs.WellFormed.{IsWellFormed, IsPolicyAllowed}
use Rattle.fw_flow.specs.Message.{messages_less}
use Rattle.fw_model.specs.History.{some_at, sent_messages, delivered_messages, pending_messages, IsLegal}
use Rattle.fw_model.specs.Machine.{Machine, events}
use Rattle.fw_flow.specs.declared.choice.Choice.{Choice}
use Rattle.fw_model.specs.Choice.{cut_of, kept_of}
use Rattle.fw_model.specs.LawsOfFiltering.{PendingAtKeptStamps, PendingAtOtherStamps, PendingForPresent, PendingForCut, NothingPendingWithoutLog}
use Rattle.fw_flow.specs.declared.restoring.Restoring.{Restoring}
use Rattle.fw_flow.specs.declared.restoring.Restoring.TheVariants.{Bound, Anything}
use Rattle.fw_flow.specs.Restoring.{restoring, can_resend, way_of}
use Rattle.fw_model.specs.Covers.{stamps_from, set_of, discarded_at, covers_in, tallies_in}
use Rattle.fw_flow.proofs.MessageLaws.{less-each, filter-less}
use Rattle.fw_model.proofs.KindSorts.{keeps_something}
use Rattle.fw_model.proofs.LegalLaws.{edge_domains, legal_messages-in_domain}
use Rattle.fw_model.proofs.CompleteLaws.{past_edges-idle, sender_sorts}
use Rattle.fw_model.proofs.SendsLaws.{sent_from_inside-inside_psi}
use Rattle.fw_model.proofs.LocalityLaws.{sends-same, delivers-same}
use Rattle.fw_model.proofs.KeptLaws.{kept-causes, pending-inside}
use Rattle.fw_model.proofs.FilteredLaws.{filtered-events, choice-consistent}
use Rattle.fw_model.specs.Sending.{SendsByStamp}
use Rattle.fw_model.specs.Filtering.{kept_events, messages_from, messages_inside, messages_outside}

-- ---- messages inside and outside

-- none of what a test keeps fails it
none-rest : {X : Type 0} (k : X → Bool) (xs : List X) → filter (λ x. not (k x)) (filter k xs) ≡ []
none-rest k [] = refl
none-rest k (x ∷ xs) =
    let rest = none-rest k xs in
    cond_both (k x) (x ∷ filter k xs) (filter k xs) (λ zs. filter (λ y. not (k y)) zs ≡ [])
    (λ e. filter-out (λ y. not (k y)) x (filter k xs) (ap not e) ∙ rest) (λ e. rest)

-- a list of which a test keeps nothing is what fails it
all-rest : {X : Type 0} (k : X → Bool) (xs : List X) → filter k xs ≡ [] → filter (λ x. not (k x)) xs ≡ xs
all-rest k [] n = refl
all-rest k (x ∷ xs) n = elim (cases_Bool (k x)) [
  | inl e ↦ let some : x ∷ filter k xs ≡ [] = sym (filter-in k x xs e) ∙ n in absurd (cc some)
  | inr e ↦ filter-in (λ y. not (k y)) x xs (ap not e) ∙ ap (λ zs. x ∷ zs) (all-rest k xs (sym (filter-out k x xs e) ∙ n))
]

-- ---- the two parts

pub pending-at_kept : PendingAtKeptStamps
pending-at_kept sys h keep w b l fr c e =
    pending-inside sys h keep (record { well_formed = w; epochs = b; legal = l; frontiers = fr; causes = kept-causes sys h keep w b l fr c }) e

pub pending-at_others : PendingAtOtherStamps
pending-at_others sys h keep w b l fr e =
    let g = keep (receiver sys.flow e) in
    let f = keep (sender sys.flow e) in
    let outside : Message → Bool = λ m. not (g m.at) in
    ap (λ ms. messages_outside g (messages_less ms (delivered_messages (kept_events sys.flow keep h) e))) (sends-same sys h keep w b l fr e)
    ∙ ap (λ ds. messages_outside g (messages_less (messages_from f (sent_messages sys h e)) ds)) (delivers-same sys.flow h keep e)
    ∙ filter-less outside (messages_from f (sent_messages sys h e)) (messages_inside g (delivered_messages h e))
    ∙ ap (messages_less (messages_outside g (messages_from f (sent_messages sys h e)))) (none-rest (λ (m : Message). g m.at) (delivered_messages h e))

-- ---- a receiver that stays as it is

-- what is sent is at stamps of the receiver
sent-in_domain : (sys : System) (h : List Event) → IsWellFormed sys.flow → HasEpochs sys → IsLegal sys h → (e : ℕ)
    → AllByRecursion (λ (m : Message). in_domain (bounds_of sys.flow (receiver sys.flow e)) m.at ≡ true) (sent_messages sys h e)
unfolding bounds_of
sent-in_domain sys h w b l e =
    each-weaker (λ (m : Message). in_domain (bounds_of_edge sys.flow e) m.at ≡ true) (λ m. in_domain (bounds_of sys.flow (receiver sys.flow e)) m.at ≡ true) (sent_messages sys h e)
    (λ m i. sym (ap (λ d. in_domain (bounds_of_domain sys.flow d) m.at) (edge_domains sys.flow w e)) ∙ i) (legal_messages-in_domain sys h w b l e)

present-all : (sys : System) (choice : Choice) (p : ℕ) (ms : List Message) → cut_of choice p ≡ Present
    → AllByRecursion (λ (m : Message). in_domain (bounds_of sys.flow p) m.at ≡ true) ms → messages_inside (kept_of sys.flow choice p) ms ≡ ms
present-all sys choice p ms is a =
    filter-all (λ (m : Message). kept_of sys.flow choice p m.at) ms
    (each-weaker (λ (m : Message). in_domain (bounds_of sys.flow p) m.at ≡ true) (λ m. kept_of sys.flow choice p m.at ≡ true) ms (λ m i. ap (λ c. set_of sys.flow p c m.at) is ∙ i) a)

pub pending-present : PendingForPresent
pending-present sys state choice w b l c e is =
    let h = events state.history in
    let keep = kept_of sys.flow choice in
    let r = receiver sys.flow e in
    let f = keep (sender sys.flow e) in
    let k = choice-consistent sys state choice w c in
    let now = kept_events sys.flow keep h in
    let P : Message → Type 0 = λ m. in_domain (bounds_of sys.flow r) m.at ≡ true in
    let sent_before = sent-in_domain sys h w b l e in
    let sent_now = subst (AllByRecursion P) (sym (sends-same sys h keep w b l k.kept e)) (each-kept P (λ m. all_inside f m.causes) (sent_messages sys h e) sent_before) in
    let before = each-kept P (λ m. all_inside f m.causes) (pending_messages sys h e) (less-each P (sent_messages sys h e) (delivered_messages h e) sent_before) in
    ap (λ vs. pending_messages sys vs e) (filtered-events sys choice state.history)
    ∙ sym (present-all sys choice r (pending_messages sys now e) is (less-each P (sent_messages sys now e) (delivered_messages now e) sent_now))
    ∙ pending-at_kept sys h keep w b l k.kept k.delivered e
    ∙ present-all sys choice r (messages_from f (pending_messages sys h e)) is before

-- ---- a receiver that is cut within what is settled

-- at no stamp inside is something pending
none-inside : (g : Frontier) (ms : List Message) → ((t : Stamp) → g t ≡ true → some_at (same t) ms ≡ false) → AllByRecursion (λ (m : Message). g m.at ≡ false) ms
none-inside g [] q = tt
none-inside g (m ∷ ms) q = (
  false_from_ne_true (g m.at) (λ i.
      two_ways (same m.at m.at) (and_from (leq m.at m.at) (leq m.at m.at) (leq-refl m.at) (leq-refl m.at)) (or_parts (same m.at m.at) (some_at (same m.at) ms) (q m.at i)).0),
  none-inside g ms (λ t i. (or_parts (same t m.at) (some_at (same t) ms) (q t i)).1),
)

pub pending-cut : PendingForCut
pending-cut sys state choice w b l full c e within =
    let h = events state.history in
    let keep = kept_of sys.flow choice in
    let r = receiver sys.flow e in
    let g = keep r in
    let f = keep (sender sys.flow e) in
    let k = choice-consistent sys state choice w c in
    let now = kept_events sys.flow keep h in
    let quiet = none-inside g (pending_messages sys h e) (λ t i. full.quiet r t (within t i) e refl) in
    let none = filter-none (λ (m : Message). g m.at) (messages_from f (pending_messages sys h e))
    (each-kept (λ (m : Message). g m.at ≡ false) (λ m. all_inside f m.causes) (pending_messages sys h e) quiet) in
    ap (λ vs. pending_messages sys vs e) (filtered-events sys choice state.history)
    ∙ sym (all-rest (λ (m : Message). g m.at) (pending_messages sys now e) (pending-at_kept sys h keep w b l k.kept k.delivered e ∙ none))
    ∙ pending-at_others sys h keep w b l k.kept e

-- ---- a sender that cannot send again

above-from : (test : Message → Bool) (ms : List Message) → AllByRecursion (λ (m : Message). test m ≡ true → some_above (map (λ (x : Message). x.at) (filter test ms)) m.at ≡ true) ms
above-from test [] = tt
above-from test (m ∷ ms) =
    let above : List Message → Stamp → Bool = λ xs t. some_above (map (λ (x : Message). x.at) xs) t in (
      λ i. ap (λ b. above (cond b (m ∷ filter test ms) (filter test ms)) m.at) i ∙ or_left (leq m.at m.at) (above (filter test ms) m.at) (leq-refl m.at),
      each-weaker (λ (x : Message). test x ≡ true → above (filter test ms) x.at ≡ true) (λ x. test x ≡ true → above (filter test (m ∷ ms)) x.at ≡ true) ms
          (λ x a i. cond_both (test m) (m ∷ filter test ms) (filter test ms) (λ zs. above zs x.at ≡ true) (λ c. or_right (leq x.at m.at) (above (filter test ms) x.at) (a i)) (λ c. a i))
          (above-from test ms),
    )

-- what is sent from inside a frontier is in a cover
abbrev IsSentInside : System → List Event → ℕ → Frontier → Frontier → Type 0
IsSentInside sys h e f cover = AllByRecursion (λ (m : Message). all_inside f m.causes ≡ true → cover m.at ≡ true) (sent_messages sys h e)

sent-covered : (sys : System) (state : Machine) → IsWellFormed sys.flow → HasEpochs sys → IsLegal sys (events state.history) → (e : ℕ) (cut : Cut)
    → IsSentInside sys (events state.history) e (set_of sys.flow (sender sys.flow e) cut) ((tallies_in sys state).sent e cut)
sent-covered sys state w b l e cut =
    let f = set_of sys.flow (sender sys.flow e) cut in
    let h = events state.history in
    let bounds = bounds_of sys.flow (receiver sys.flow e) in
    let ss = stamps_from f (sent_messages sys h e) in
    each-weaker (λ (m : Message). (in_domain bounds m.at ≡ true) × (all_inside f m.causes ≡ true → some_above ss m.at ≡ true))
    (λ m. all_inside f m.causes ≡ true → cover bounds ss m.at ≡ true) (sent_messages sys h e)
    (λ m a i. and_from (in_domain bounds m.at) (some_above ss m.at) a.0 (a.1 i))
    (each-both (λ (m : Message). in_domain bounds m.at ≡ true) (λ m. all_inside f m.causes ≡ true → some_above ss m.at ≡ true) (sent_messages sys h e)
    (sent-in_domain sys h w b l e) (above-from (λ (m : Message). all_inside f m.causes) (sent_messages sys h e)))

-- a sender that is restored by anything settled sends by stamp
restored-by_stamp : (flow : Dataflow) → IsWellFormed flow → (e : ℕ) → way_of flow (sender flow e) ≡ Anything
    → SendsByStamp flow (kind_of flow (sender flow e))
restored-by_stamp flow w e way =
    let q = sender flow e in
    let p = policy_of flow q in
    elim (sender_sorts flow w e) [
      | inl (inr by) ↦ by
      | inr is ↦ let no_way : Bound ≡ Anything = sym (ap (λ kind. restoring kind p) is) ∙ way in absurd (cc no_way)
      | inl (inl is) ↦ elim (cases_lt e (length flow.edges)) [
        | inl l ↦ absurd (keeps_something p (subst (λ kind. IsPolicyAllowed kind p) is (w.policies q (w.senders_declared e l))) (sym (ap (λ kind. restoring kind p) is) ∙ way))
        | inr l ↦ let no_kind = sym (past_edges-idle flow e l) ∙ is in absurd (cc no_kind)
      ]
    ]

discarded-way : (sys : System) (state : Machine) → IsWellFormed sys.flow → HasEpochs sys → IsLegal sys (events state.history) → (e : ℕ) (f : Front) (way : Restoring)
    → (way ≡ Anything → SendsByStamp sys.flow (kind_of sys.flow (sender sys.flow e)))
    → IsSentInside sys (events state.history) e (frontier_of (bounds_of sys.flow (sender sys.flow e)) f) (discarded_at sys.flow e way ((tallies_in sys state).sent e (At f)) f)
discarded-way sys state w b l e f Anything by =
    let bounds = bounds_of sys.flow (sender sys.flow e) in
    sent_from_inside-inside_psi sys (events state.history) e (frontier_of bounds f) (by refl) (frontier-closed bounds f)
discarded-way sys state w b l e f way by = sent-covered sys state w b l e (At f)

discarded-sent : (sys : System) (state : Machine) → IsWellFormed sys.flow → HasEpochs sys → IsLegal sys (events state.history) → (e : ℕ) (cut : Cut)
    → can_resend (policy_of sys.flow (sender sys.flow e)) ≡ false
    → IsSentInside sys (events state.history) e (set_of sys.flow (sender sys.flow e) cut) ((covers_in sys state).discarded e cut)
discarded-sent sys state w b l e Present no_log =
    let q = sender sys.flow e in
    subst (IsSentInside sys (events state.history) e (everything (bounds_of sys.flow q)))
    (sym (cond-false (can_resend (policy_of sys.flow q)) nothing ((tallies_in sys state).sent e Present) no_log)) (sent-covered sys state w b l e Present)
discarded-sent sys state w b l e (At g) no_log =
    let q = sender sys.flow e in
    let way = way_of sys.flow q in
    subst (IsSentInside sys (events state.history) e (frontier_of (bounds_of sys.flow q) g))
    (sym (cond-false (can_resend (policy_of sys.flow q)) nothing (discarded_at sys.flow e way ((tallies_in sys state).sent e (At g)) g) no_log))
    (discarded-way sys state w b l e g way (restored-by_stamp sys.flow w e))

-- what all passes one test, that passes another, leaves nothing to the rest
none-left : {X : Type 0} (j k : X → Bool) (xs : List X) → AllByRecursion (λ x. k x ≡ true → j x ≡ true) xs → filter (λ x. not (j x)) (filter k xs) ≡ []
none-left j k [] a = refl
none-left j k (x ∷ xs) a =
    let rest = none-left j k xs a.1 in
    cond_both (k x) (x ∷ filter k xs) (filter k xs) (λ zs. filter (λ y. not (j y)) zs ≡ [])
    (λ e. filter-out (λ y. not (j y)) x (filter k xs) (ap not (a.0 e)) ∙ rest) (λ e. rest)

pub pending-without_log : NothingPendingWithoutLog
pending-without_log sys state choice w b l full c e within keeps no_log =
    let h = events state.history in
    let q = sender sys.flow e in
    let g = kept_of sys.flow choice (receiver sys.flow e) in
    let f = kept_of sys.flow choice q in
    pending-cut sys state choice w b l full c e within
    ∙ none-left (λ (m : Message). g m.at) (λ m. all_inside f m.causes) (sent_messages sys h e)
    (each-weaker (λ (m : Message). all_inside f m.causes ≡ true → (covers_in sys state).discarded e (cut_of choice q) m.at ≡ true)
    (λ m. all_inside f m.causes ≡ true → g m.at ≡ true) (sent_messages sys h e) (λ m a i. keeps m.at (a i))
    (discarded-sent sys state w b l e (cut_of choice q) no_log))
