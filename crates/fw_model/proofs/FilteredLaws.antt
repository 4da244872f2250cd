-- A history filtered by a choice that meets the inclusions.
use Rattle.std.proofs.Common.{◌≡◌, ℕ, ◌≤◌, Bool, true, false, cond, List, [], ◌∷◌, length, filter, map, refl, sym, ap, subst, ◌∙◌, inl, inr, arith}
use Rattle.std.specs.List.{AllByRecursion, flat_map}
use Rattle.std.proofs.lemmas.Bool.{and_from, or_left, or_right, cond_both, cases_lt}
use Rattle.std.proofs.lemmas.List.{get_or_past}
use Rattle.fw_lemmas.proofs.Each.{each-weaker}
use Rattle.fw_time.specs.Stamp.{Stamp, leq, in_domain}
use Rattle.fw_time.specs.declared.stamp.Bounds.{Bounds}
use Rattle.fw_time.proofs.StampLaws.{leq-refl}
use Rattle.fw_frontier.specs.Frontier.{Frontier, IsFrontier, Within, everything, cover, some_above}
use Rattle.fw_frontier.specs.Front.{frontier_of}
use Rattle.fw_frontier.proofs.NamesLaws.{frontier-closed}
use Rattle.fw_flow.specs.declared.choice.Cut.{Cut}
use Rattle.fw_flow.specs.declared.choice.Cut.TheVariants.{Present, At}
use Rattle.fw_flow.specs.declared.event.Event.{Event}
use Rattle.fw_flow.specs.declared.event.Message.{Message}
use Rattle.fw_flow.specs.Dataflow.{System, Dataflow, kind_of, policy_of, sender, receiver, bounds_of, bounds_of_domain}
use Rattle.fw_flow.specs.NodeFunction.{event_node, event_stamp}
use Rattle.fw_flow.specs.Projection.{phi}
use Rattle.fw_flow.specs.WellFormed.{IsWellFormed}
use Rattle.fw_model.specs.History.{delivered_messages, IsLegal}
use Rattle.fw_model.specs.Machine.{Machine, SerialEvent, events, front_of}
use Rattle.fw_flow.specs.declared.choice.Choice.{Choice}
use Rattle.fw_model.specs.Choice.{cut_of, notice_of, kept_of, filtered_history}
use Rattle.fw_model.specs.LawsOfFiltering.{ConsistentMeetsInclusions, FilteredHistoryIsLegal}
use Rattle.fw_model.specs.Covers.{stamp_of_notice, set_of, takes_its_cut, takes_its_notices, covers_in}
use Rattle.fw_model.proofs.PhiLaws.{phi-monotone}
use Rattle.fw_model.proofs.MeetLaws.{phi-everything}
use Rattle.fw_model.proofs.LegalLaws.{edge_domains}
use Rattle.fw_model.proofs.RewritingLaws.{kept-legal}
use Rattle.fw_model.specs.Filtering.{kept_events, IsConsistentlyKept, MeetsInclusions}
use Rattle.fw_flow.specs.Restoring.{way_of}

-- ---- the kept events

pub filtered-events : (sys : System) (choice : Choice) (h : List SerialEvent) → events (filtered_history sys choice h) ≡ kept_events sys.flow (kept_of sys.flow choice) (events h)
filtered-events sys choice [] = refl
filtered-events sys choice (v ∷ h) = by (kept_of sys.flow choice (event_node sys.flow v.event) (event_stamp v.event)) (filtered-events sys choice h)
  where
    by : (b : Bool) → events (filtered_history sys choice h) ≡ kept_events sys.flow (kept_of sys.flow choice) (events h)
        → events (cond b (v ∷ filtered_history sys choice h) (filtered_history sys choice h)) ≡ cond b (v.event ∷ kept_events sys.flow (kept_of sys.flow choice) (events h)) (kept_events sys.flow (kept_of sys.flow choice) (events h))
    by true e = ap (λ vs. v.event ∷ vs) e
    by false e = e

-- ---- what is kept is a frontier

everything-frontier : (b : Bounds) → IsFrontier b (everything b)
everything-frontier b = record {
  inside_domain = λ t k. k;
  closed = λ s t d l k. d;
}

pub set-frontier : (sys : System) (p : ℕ) (cut : Cut) → IsFrontier (bounds_of sys.flow p) (set_of sys.flow p cut)
set-frontier sys p Present = everything-frontier (bounds_of sys.flow p)
set-frontier sys p (At f) = frontier-closed (bounds_of sys.flow p) f

-- ---- covers hold what they cover

above-filtered : (f : Frontier) (ss : List Stamp) → AllByRecursion (λ s. f s ≡ true → some_above (filter f ss) s ≡ true) ss
above-filtered f [] = tt
above-filtered f (s ∷ ss) = (
  λ i. ap (λ b. some_above (cond b (s ∷ filter f ss) (filter f ss)) s) i ∙ or_left (leq s s) (some_above (filter f ss) s) (leq-refl s),
  each-weaker (λ t. f t ≡ true → some_above (filter f ss) t ≡ true) (λ t. f t ≡ true → some_above (filter f (s ∷ ss)) t ≡ true) ss
      (λ t a i. cond_both (f s) (s ∷ filter f ss) (filter f ss) (λ zs. some_above zs t ≡ true) (λ c. or_right (leq t s) (some_above (filter f ss) t) (a i)) (λ c. a i))
      (above-filtered f ss),
)

covered : (b : Bounds) (f : Frontier) → IsFrontier b f → (ss : List Stamp) → AllByRecursion (λ s. f s ≡ true → cover b (filter f ss) s ≡ true) ss
covered b f fr ss =
    each-weaker (λ s. f s ≡ true → some_above (filter f ss) s ≡ true) (λ s. f s ≡ true → cover b (filter f ss) s ≡ true) ss
    (λ s a i. and_from (in_domain b s) (some_above (filter f ss) s) (fr.inside_domain s i) (a i)) (above-filtered f ss)

each-at : (P : Stamp → Type 0) (ms : List Message) → AllByRecursion P (map (λ (m : Message). m.at) ms) → AllByRecursion (λ (m : Message). P m.at) ms
each-at P [] a = tt
each-at P (m ∷ ms) a = (a.0, each-at P ms a.1)

-- a flag says whether a frontier counts whole, or its cover of these stamps
flagged : (flag : Bool) (b : Bounds) (f : Frontier) → IsFrontier b f → (ss : List Stamp)
    → AllByRecursion (λ s. f s ≡ true → cond flag f (cover b (filter f ss)) s ≡ true) ss
flagged true b f fr ss = each-any ss
  where
    each-any : (xs : List Stamp) → AllByRecursion (λ s. f s ≡ true → f s ≡ true) xs
    each-any [] = tt
    each-any (x ∷ xs) = (λ i. i, each-any xs)
flagged false b f fr ss = covered b f fr ss

delivered-covered : (sys : System) (state : Machine) (d : ℕ) (cut : Cut)
    → AllByRecursion (λ (m : Message). set_of sys.flow (receiver sys.flow d) cut m.at ≡ true → (covers_in sys state).delivered d cut m.at ≡ true) (delivered_messages (events state.history) d)
delivered-covered sys state d Present =
    let b = bounds_of sys.flow (receiver sys.flow d) in
    each-at (λ s. everything b s ≡ true → (covers_in sys state).delivered d Present s ≡ true) (delivered_messages (events state.history) d)
    (covered b (everything b) (everything-frontier b) (map (λ (m : Message). m.at) (delivered_messages (events state.history) d)))
delivered-covered sys state d (At f) =
    let p = receiver sys.flow d in
    let b = bounds_of sys.flow p in
    each-at (λ s. frontier_of b f s ≡ true → (covers_in sys state).delivered d (At f) s ≡ true) (delivered_messages (events state.history) d)
    (flagged (takes_its_cut (way_of sys.flow p)) b (frontier_of b f) (frontier-closed b f)
    (map (λ (m : Message). m.at) (delivered_messages (events state.history) d)))

notified-covered : (sys : System) (state : Machine) (p : ℕ) (cut : Cut)
    → AllByRecursion (λ t. set_of sys.flow p cut t ≡ true → (covers_in sys state).notified p cut t ≡ true) (flat_map (stamp_of_notice p) (events state.history))
notified-covered sys state p Present =
    let b = bounds_of sys.flow p in
    covered b (everything b) (everything-frontier b) (flat_map (stamp_of_notice p) (events state.history))
notified-covered sys state p (At f) =
    let b = bounds_of sys.flow p in
    flagged (takes_its_notices (kind_of sys.flow p) (policy_of sys.flow p)) b (frontier_of b f) (frontier-closed b f) (flat_map (stamp_of_notice p) (events state.history))

-- ---- past the last node and the last edge

past-edge : (flow : Dataflow) (e : ℕ) → length flow.edges ≤ e → length flow.nodes ≤ sender flow e
unfolding sender
past-edge flow e l =
    let past = ap (λ d. d.sender) (get_or_past flow.edges e (record { name = []; sender = length flow.nodes; receiver = length flow.nodes }) l) in
    omega arith

past-kept : (sys : System) (choice : Choice) (p : ℕ) → length choice.cuts ≤ p → Within (everything (bounds_of sys.flow p)) (kept_of sys.flow choice p)
past-kept sys choice p l t k = ap (λ c. set_of sys.flow p c t) (get_or_past choice.cuts p Present l) ∙ k

past-notice : (sys : System) (choice : Choice) (p : ℕ) → length choice.notices ≤ p → Within (everything (bounds_of sys.flow p)) (notice_of sys.flow choice p)
past-notice sys choice p l t k =
    ap (λ os. frontier_of (bounds_of sys.flow p) os t) (get_or_past choice.notices p [] l) ∙ and_from (in_domain (bounds_of sys.flow p) t) true k refl

-- phi of all that the sender can keep holds each stamp of the receiver
all-phi : (sys : System) (h : List Event) → IsWellFormed sys.flow → (e : ℕ) (g : Frontier) → Within (everything (bounds_of sys.flow (sender sys.flow e))) g
    → (u : Stamp) → in_domain (bounds_of sys.flow (receiver sys.flow e)) u ≡ true → phi sys h e g u ≡ true
unfolding bounds_of
all-phi sys h w e g i u d =
    phi-monotone sys h e (everything (bounds_of sys.flow (sender sys.flow e))) g i u
    (phi-everything sys h e u ∙ ap (λ domain. in_domain (bounds_of_domain sys.flow domain) u) (edge_domains sys.flow w e) ∙ d)

-- ---- the laws

pub consistent-meets : ConsistentMeetsInclusions
consistent-meets sys state lost view choice c = record {
  one_cut_each = c.one_cut_each;
  one_notice_each = c.one_notice_each;
  delivered = c.delivered;
  notified = c.notified;
  own = c.own;
  notices = c.notices;
}

pub choice-consistent : (sys : System) (state : Machine) (choice : Choice) → IsWellFormed sys.flow → MeetsInclusions sys state choice
    → IsConsistentlyKept sys (events state.history) (kept_of sys.flow choice) (notice_of sys.flow choice)
choice-consistent sys state choice w c =
    let flow = sys.flow in
    let h = events state.history in
    let frontier : (p : ℕ) → IsFrontier (bounds_of flow p) (kept_of sys.flow choice p) = λ p. set-frontier sys p (cut_of choice p) in
    let noted : (p : ℕ) → IsFrontier (bounds_of flow p) (notice_of sys.flow choice p) = λ p. frontier-closed (bounds_of flow p) (front_of choice.notices p) in
    record {
      kept = frontier;
      noted = noted;
      delivered = λ e.
          let r = receiver flow e in
          let q = sender flow e in
          each-weaker (λ (m : Message). kept_of sys.flow choice r m.at ≡ true → (covers_in sys state).delivered e (cut_of choice r) m.at ≡ true)
          (λ m. kept_of sys.flow choice r m.at ≡ true → phi sys h e (kept_of sys.flow choice q) m.at ≡ true) (delivered_messages h e)
          (λ m a i. elim (cases_lt e (length flow.edges)) [
            | inl l ↦ c.delivered e l m.at (a i)
            | inr l ↦ all-phi sys h w e (kept_of sys.flow choice q) (past-kept sys choice q (omega (arith, past-edge flow e l, c.one_cut_each))) m.at ((frontier r).inside_domain m.at i)
          ])
          (delivered-covered sys state e (cut_of choice r));
      notified = λ p.
          each-weaker (λ t. kept_of sys.flow choice p t ≡ true → (covers_in sys state).notified p (cut_of choice p) t ≡ true) (λ t. kept_of sys.flow choice p t ≡ true → notice_of sys.flow choice p t ≡ true)
          (flat_map (stamp_of_notice p) h)
          (λ t a i. elim (cases_lt p (length flow.nodes)) [
            | inl l ↦ c.notified p l t (a i)
            | inr l ↦ past-notice sys choice p (omega (arith, c.one_notice_each)) t ((frontier p).inside_domain t i)
          ])
          (notified-covered sys state p (cut_of choice p));
      own = λ p t i. elim (cases_lt p (length flow.nodes)) [
        | inl l ↦ c.own p l t i
        | inr l ↦ past-kept sys choice p (omega (arith, c.one_cut_each)) t ((noted p).inside_domain t i)
      ];
      notices = λ e u i. elim (cases_lt e (length flow.edges)) [
        | inl l ↦ c.notices e l u i
        | inr l ↦
            let q = sender flow e in
            all-phi sys h w e (notice_of sys.flow choice q) (past-notice sys choice q (omega (arith, past-edge flow e l, c.one_notice_each))) u ((noted (receiver flow e)).inside_domain u i)
      ];
    }

pub filtered-legal : FilteredHistoryIsLegal
filtered-legal sys state choice w b l c =
    subst (IsLegal sys) (sym (filtered-events sys choice state.history))
    (kept-legal sys (events state.history) (kept_of sys.flow choice) (notice_of sys.flow choice) w b l (choice-consistent sys state choice w c))
