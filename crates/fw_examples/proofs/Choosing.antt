-- The inclusions of a choice, what lies within a choice, and the step that recovers, by tests that compute.
use Rattle.std.specs.List.{list_all, list_any}
use Rattle.std.proofs.Common.{Bool, List, [], ap, arith, eqb-true, false, if◌then◌else◌, inl, inr, length, nat_le, not, refl, subst, sym, true, ℕ, ⊎_elim, ◌&&◌, ◌<◌, ◌==◌, ◌||◌, ◌∙◌, ◌∷◌, ◌≡◌, ◌≤◌, ◌⊎◌}
use Rattle.std.proofs.lemmas.Bool.{and_from, and_parts, eq-eqb, false≢true, leb-true, not-true, or_cases, or_left, or_right}
use Rattle.std.proofs.lemmas.Bool.Decides.{nat_tests}
use Rattle.fw_lemmas.proofs.Bools.{two_ways}
use Rattle.fw_time.specs.Stamp.{Stamp, in_domain, leq, same}
use Rattle.fw_time.specs.declared.stamp.Bounds.{Bounds}
use Rattle.fw_time.proofs.StampLaws.{same-is}
use Rattle.fw_frontier.specs.Front.{Front, IsCanonical, IsFrontOf, frontier_of, is_within, same_front}
use Rattle.fw_frontier.specs.Frontier.{Frontier, IsFrontier, Within, cover, everything, meet, nothing, some_above}
use Rattle.fw_frontier.proofs.NamesLaws.{frontier-closed, is_within-holds}
use Rattle.fw_frontier.proofs.SameLaws.{same_front-is}
use Rattle.fw_flow.specs.Dataflow.{System, bounds_of, kind_of, policy_of, receiver, sender}
use Rattle.fw_flow.specs.NodeFunction.{event_node, event_stamp}
use Rattle.fw_flow.specs.Projection.{all_inside, phi}
use Rattle.fw_flow.specs.Restoring.{can_resend, way_of}
use Rattle.fw_flow.specs.WellFormed.{IsWellFormed}
use Rattle.fw_flow.specs.declared.choice.Choice.{Choice}
use Rattle.fw_flow.specs.declared.choice.Cut.{Cut}
use Rattle.fw_flow.specs.declared.choice.Cut.TheVariants.{At, Present}
use Rattle.fw_flow.specs.declared.event.Event.{Event}
use Rattle.fw_flow.specs.declared.event.Message.{Message}
use Rattle.fw_flow.specs.declared.restoring.Restoring.{Restoring}
use Rattle.fw_flow.specs.declared.restoring.Restoring.TheVariants.{Anything, Batches, Bound, Checkpoints, Events}
use Rattle.fw_flow.specs.declared.step.Step.TheVariants.{Recover}
use Rattle.fw_model.specs.Choice.{AllLogged, ComesFromSender, HasCheckpoint, HasItsNotices, HoldsLow, IsCandidate, IsChoiceWithin, IsConsistent, IsCutWithin, IsLargest, IsLogged, IsNoticeKept, IsRestorable, LiesInReceiver, NoticeComesFromSender, View, is_counted, cut_of, ever, kept, kept_of, until, notice_of}
use Rattle.fw_model.specs.Covers.{covers_in, discarded_at, notified_inside, set_of, stamps_from, stamps_inside, takes_its_cut, takes_its_notices, tallies_in}
use Rattle.fw_model.specs.History.{delivered_messages, injected_count, is_exhausted, sent_messages}
use Rattle.fw_model.specs.Machine.{Machine, SerialEvent, Write, Written, ack_count_of, checkpoint, events, front_of, is_failed, logged_event, no_stamps}
use Rattle.fw_model.specs.Steps.{IsSettledCut, StepsTo, checkpoint_front, cuts, did, front_of_cut, offers, recovered_state}
use Rattle.fw_model.proofs.FilteredLaws.{set-frontier}
use Rattle.fw_model.proofs.LowLaws.{none-within}
use Rattle.fw_model.proofs.PhiLaws.{phi-monotone}
use Rattle.fw_examples.proofs.Fronts.{canonical_by, cover_within_by, each_below, each_below-at, is_canonical, meet_by, meet_other, within_outside}
use Rattle.fw_examples.proofs.Settling.{everything_from, from_psi, from_sender, into_phi, is_from_sender, is_plain, one_domain}

-- where no outside stamp of the second list is inside the first, the first lies within the second
pub lies : (b : Bounds) (xs ys : Front) → is_within xs ys ≡ true → Within (frontier_of b xs) (frontier_of b ys)
lies b xs ys h = is_within-holds b xs ys h

-- whether what a list of outside stamps has inside lies in a cut
abbrev pub is_in_cut : Front → Cut → Bool
is_in_cut f Present = true
is_in_cut f (At g) = is_within f g

in_cut : (sys : System) (p : ℕ) (f : Front) (cut : Cut) → is_in_cut f cut ≡ true → Within (frontier_of (bounds_of sys.flow p) f) (set_of sys.flow p cut)
in_cut sys p f Present h = λ t i. (and_parts _ _ i).0
in_cut sys p f (At g) h = lies (bounds_of sys.flow p) f g h

-- the set of a cut of one node is a frontier of another with the same domain
set_at : (sys : System) (p q : ℕ) (cut : Cut) → bounds_of sys.flow p ≡ bounds_of sys.flow q → IsFrontier (bounds_of sys.flow q) (set_of sys.flow p cut)
set_at sys p q cut same_bounds = subst (λ b. IsFrontier b (set_of sys.flow p cut)) same_bounds (set-frontier sys p cut)

-- ---- the inclusions

-- whether what counts as delivered on edge d inside a cut of its receiver lies in what the sender keeps by a cut
abbrev pub is_delivered_in : System → Machine → ℕ → Cut → Cut → Bool
is_delivered_in sys state d Present from =
    list_all (set_of sys.flow (sender sys.flow d) from) (stamps_inside (set_of sys.flow (receiver sys.flow d) Present) (delivered_messages (events state.history) d))
is_delivered_in sys state d (At f) from =
    if takes_its_cut (way_of sys.flow (receiver sys.flow d)) then is_in_cut f from
    else list_all (set_of sys.flow (sender sys.flow d) from) (stamps_inside (set_of sys.flow (receiver sys.flow d) (At f)) (delivered_messages (events state.history) d))

delivered_in : (sys : System) (state : Machine) (d : ℕ) (cut from : Cut) → bounds_of sys.flow (sender sys.flow d) ≡ bounds_of sys.flow (receiver sys.flow d)
    → is_delivered_in sys state d cut from ≡ true → Within ((covers_in sys state).delivered d cut) (set_of sys.flow (sender sys.flow d) from)
delivered_in sys state d Present from same_bounds h =
    cover_within_by (bounds_of sys.flow (receiver sys.flow d)) (set_of sys.flow (sender sys.flow d) from) _ (set_at sys (sender sys.flow d) (receiver sys.flow d) from same_bounds) h
delivered_in sys state d (At f) from same_bounds h = go (takes_its_cut (way_of sys.flow (receiver sys.flow d))) h
  where
    go : (b : Bool)
        → (if b then is_in_cut f from
        else list_all (set_of sys.flow (sender sys.flow d) from) (stamps_inside (set_of sys.flow (receiver sys.flow d) (At f)) (delivered_messages (events state.history) d))) ≡ true
        → Within (if b then frontier_of (bounds_of sys.flow (receiver sys.flow d)) f else (tallies_in sys state).delivered d (At f)) (set_of sys.flow (sender sys.flow d) from)
    go true k = subst (λ b. Within (frontier_of b f) (set_of sys.flow (sender sys.flow d) from)) same_bounds (in_cut sys (sender sys.flow d) f from k)
    go false k =
        cover_within_by (bounds_of sys.flow (receiver sys.flow d)) (set_of sys.flow (sender sys.flow d) from)
        (stamps_inside (set_of sys.flow (receiver sys.flow d) (At f)) (delivered_messages (events state.history) d))
        (set_at sys (sender sys.flow d) (receiver sys.flow d) from same_bounds) k

-- what counts as delivered is of the domain of the receiver
delivered_domain : (sys : System) (state : Machine) (d : ℕ) (cut : Cut) → Within ((covers_in sys state).delivered d cut) (everything (bounds_of sys.flow (receiver sys.flow d)))
delivered_domain sys state d Present = λ t i. (and_parts _ _ i).0
delivered_domain sys state d (At f) = go (takes_its_cut (way_of sys.flow (receiver sys.flow d)))
  where
    go : (b : Bool)
        → Within (if b then frontier_of (bounds_of sys.flow (receiver sys.flow d)) f else (tallies_in sys state).delivered d (At f)) (everything (bounds_of sys.flow (receiver sys.flow d)))
    go true = λ t i. (and_parts _ _ i).0
    go false = λ t i. (and_parts _ _ i).0

-- whether a node stays as it is
abbrev pub is_present : Cut → Bool
is_present Present = true
is_present (At f) = false

-- what comes from a node that stays as it is
from_present : (sys : System) (h : List Event) → IsWellFormed sys.flow → (d : ℕ) → d < length sys.flow.edges → (cut : Cut) → is_present cut ≡ true
    → Within (everything (bounds_of sys.flow (receiver sys.flow d))) (phi sys h d (set_of sys.flow (sender sys.flow d) cut))
from_present sys h formed d l Present k = everything_from sys h formed d l
from_present sys h formed d l (At f) k = absurd (false≢true k)

-- whether the first inclusion holds on edge d, out of a node that stays as it is or that sends at the stamps of its events
abbrev pub is_delivered_kept : System → Machine → Choice → ℕ → Bool
is_delivered_kept sys state choice d =
    is_present (cut_of choice (sender sys.flow d))
    || (is_plain (kind_of sys.flow (sender sys.flow d)) && is_delivered_in sys state d (cut_of choice (receiver sys.flow d)) (cut_of choice (sender sys.flow d)))

pub delivered_by : (sys : System) (state : Machine) (choice : Choice) → IsWellFormed sys.flow → each_below (is_delivered_kept sys state choice) (length sys.flow.edges) ≡ true
    → (d : ℕ) → d < length sys.flow.edges → ComesFromSender sys.flow (covers_in sys state) choice d
delivered_by sys state choice formed h d l t i =
    ⊎_elim
    (λ k. from_present sys (events state.history) formed d l (cut_of choice (sender sys.flow d)) k t (delivered_domain sys state d (cut_of choice (receiver sys.flow d)) t i))
    (λ k.
    let a = and_parts _ _ k in
    into_phi sys (events state.history) d _ a.0 (set-frontier sys (sender sys.flow d) (cut_of choice (sender sys.flow d))) t
    (delivered_in sys state d (cut_of choice (receiver sys.flow d)) (cut_of choice (sender sys.flow d)) (one_domain sys.flow formed d l a.0) a.1 t i))
    (or_cases _ _ (each_below-at (is_delivered_kept sys state choice) (length sys.flow.edges) h d l))

-- whether what node p sent on edge e inside a set, by the way in which it is restored, lies in what the receiver q keeps by a cut
abbrev pub is_discarded_at : System → Machine → ℕ → Restoring → Front → ℕ → Cut → Bool
is_discarded_at sys state e Anything f q to = is_plain (kind_of sys.flow (sender sys.flow e)) && is_in_cut f to
is_discarded_at sys state e way f q to = list_all (set_of sys.flow q to) (stamps_from (set_of sys.flow (sender sys.flow e) (At f)) (sent_messages sys (events state.history) e))

discarded_in : (sys : System) (state : Machine) (e : ℕ) (way : Restoring) (f : Front) (to : Cut) → IsWellFormed sys.flow → e < length sys.flow.edges
    → is_discarded_at sys state e way f (receiver sys.flow e) to ≡ true
    → Within (discarded_at sys.flow e way ((tallies_in sys state).sent e (At f)) f) (set_of sys.flow (receiver sys.flow e) to)
discarded_in sys state e Anything f to formed l h = λ t i.
    let a = and_parts _ _ h in
    in_cut sys (receiver sys.flow e) f to a.1 t
    (subst (λ (b : Bounds). frontier_of b f t ≡ true) (one_domain sys.flow formed e l a.0) (from_psi sys e (frontier_of (bounds_of sys.flow (sender sys.flow e)) f) a.0 t i))
discarded_in sys state e way f to formed l h =
    cover_within_by (bounds_of sys.flow (receiver sys.flow e)) (set_of sys.flow (receiver sys.flow e) to) _ (set-frontier sys (receiver sys.flow e) to) h

-- whether what counts as sent on edge e inside a cut, and can not be sent again, lies in what the receiver keeps by a cut
abbrev pub is_discarded_in : System → Machine → ℕ → Cut → Cut → Bool
is_discarded_in sys state e Present to =
    can_resend (policy_of sys.flow (sender sys.flow e))
    || list_all (set_of sys.flow (receiver sys.flow e) to) (stamps_from (set_of sys.flow (sender sys.flow e) Present) (sent_messages sys (events state.history) e))
is_discarded_in sys state e (At f) to =
    can_resend (policy_of sys.flow (sender sys.flow e))
    || is_discarded_at sys state e (way_of sys.flow (sender sys.flow e)) f (receiver sys.flow e) to

-- nothing, or what lies within
unless : (b c : Bool) (f g : Frontier) → (b || c) ≡ true → (c ≡ true → Within f g) → Within (if b then nothing else f) g
unless true c f g h w = λ t i. absurd (false≢true i)
unless false c f g h w = w h

discarded_cut : (sys : System) (state : Machine) (e : ℕ) (cut to : Cut) → IsWellFormed sys.flow → e < length sys.flow.edges → is_discarded_in sys state e cut to ≡ true
    → Within ((covers_in sys state).discarded e cut) (set_of sys.flow (receiver sys.flow e) to)
discarded_cut sys state e Present to formed l h =
    unless _ _ _ _ h (cover_within_by (bounds_of sys.flow (receiver sys.flow e)) (set_of sys.flow (receiver sys.flow e) to) _ (set-frontier sys (receiver sys.flow e) to))
discarded_cut sys state e (At f) to formed l h =
    unless _ _ _ _ h (discarded_in sys state e (way_of sys.flow (sender sys.flow e)) f to formed l)

-- whether the second inclusion holds on edge e
abbrev pub is_discarded_kept : System → Machine → Choice → ℕ → Bool
is_discarded_kept sys state choice e = is_discarded_in sys state e (cut_of choice (sender sys.flow e)) (cut_of choice (receiver sys.flow e))

pub discarded_by : (sys : System) (state : Machine) (choice : Choice) → IsWellFormed sys.flow → each_below (is_discarded_kept sys state choice) (length sys.flow.edges) ≡ true
    → (e : ℕ) → e < length sys.flow.edges → LiesInReceiver sys.flow (covers_in sys state) choice e
discarded_by sys state choice formed h e l =
    discarded_cut sys state e (cut_of choice (sender sys.flow e)) (cut_of choice (receiver sys.flow e)) formed l (each_below-at (is_discarded_kept sys state choice) (length sys.flow.edges) h e l)

-- whether what counts as notified of node p inside a cut has its notice
abbrev pub is_notified_in : System → Machine → ℕ → Cut → Front → Bool
is_notified_in sys state p Present notice = list_all (frontier_of (bounds_of sys.flow p) notice) (notified_inside p (set_of sys.flow p Present) (events state.history))
is_notified_in sys state p (At f) notice =
    if takes_its_notices (kind_of sys.flow p) (policy_of sys.flow p) then is_within f notice
    else list_all (frontier_of (bounds_of sys.flow p) notice) (notified_inside p (set_of sys.flow p (At f)) (events state.history))

notified_in : (sys : System) (state : Machine) (p : ℕ) (cut : Cut) (notice : Front) → is_notified_in sys state p cut notice ≡ true
    → Within ((covers_in sys state).notified p cut) (frontier_of (bounds_of sys.flow p) notice)
notified_in sys state p Present notice h = cover_within_by (bounds_of sys.flow p) _ _ (frontier-closed (bounds_of sys.flow p) notice) h
notified_in sys state p (At f) notice h = go (takes_its_notices (kind_of sys.flow p) (policy_of sys.flow p)) h
  where
    go : (b : Bool)
        → (if b then is_within f notice else list_all (frontier_of (bounds_of sys.flow p) notice) (notified_inside p (set_of sys.flow p (At f)) (events state.history))) ≡ true
        → Within
        (if b then frontier_of (bounds_of sys.flow p) f else cover (bounds_of sys.flow p) (notified_inside p (set_of sys.flow p (At f)) (events state.history)))
        (frontier_of (bounds_of sys.flow p) notice)
    go true k = lies (bounds_of sys.flow p) f notice k
    go false k = cover_within_by (bounds_of sys.flow p) _ _ (frontier-closed (bounds_of sys.flow p) notice) k

-- whether the third inclusion holds at node p
abbrev pub is_notified_kept : System → Machine → Choice → ℕ → Bool
is_notified_kept sys state choice p = is_notified_in sys state p (cut_of choice p) (front_of choice.notices p)

pub notified_by : (sys : System) (state : Machine) (choice : Choice) → each_below (is_notified_kept sys state choice) (length sys.flow.nodes) ≡ true
    → (p : ℕ) → p < length sys.flow.nodes → HasItsNotices sys.flow (covers_in sys state) choice p
notified_by sys state choice h p l =
    notified_in sys state p (cut_of choice p) (front_of choice.notices p) (each_below-at (is_notified_kept sys state choice) (length sys.flow.nodes) h p l)

-- the fourth inclusion
pub own_by : (sys : System) (choice : Choice) → each_below (λ p. is_in_cut (front_of choice.notices p) (cut_of choice p)) (length sys.flow.nodes) ≡ true
    → (p : ℕ) → p < length sys.flow.nodes → IsNoticeKept sys.flow choice p
own_by sys choice h p l =
    in_cut sys p (front_of choice.notices p) (cut_of choice p) (each_below-at (λ p. is_in_cut (front_of choice.notices p) (cut_of choice p)) (length sys.flow.nodes) h p l)

-- whether the fifth inclusion holds on edge d
abbrev pub is_notice_kept : System → Choice → ℕ → Bool
is_notice_kept sys choice d = is_from_sender sys.flow (front_of choice.notices (receiver sys.flow d)) (front_of choice.notices (sender sys.flow d)) d

pub notices_by : (sys : System) (state : Machine) (choice : Choice) → IsWellFormed sys.flow → each_below (is_notice_kept sys choice) (length sys.flow.edges) ≡ true
    → (d : ℕ) → d < length sys.flow.edges → NoticeComesFromSender sys.flow (covers_in sys state) choice d
notices_by sys state choice formed h d l =
    from_sender sys (events state.history) formed d l (front_of choice.notices (receiver sys.flow d)) (front_of choice.notices (sender sys.flow d))
    (each_below-at (is_notice_kept sys choice) (length sys.flow.edges) h d l)

pub canonical_notices : (sys : System) (choice : Choice) → each_below (λ p. is_canonical (bounds_of sys.flow p) (front_of choice.notices p)) (length sys.flow.nodes) ≡ true
    → (p : ℕ) → p < length sys.flow.nodes → IsCanonical (bounds_of sys.flow p) (front_of choice.notices p)
canonical_notices sys choice h p l = canonical_by _ _ (each_below-at (λ p. is_canonical (bounds_of sys.flow p) (front_of choice.notices p)) (length sys.flow.nodes) h p l)

-- whether a choice has a cut and a notice for each node, and meets the five
abbrev pub is_consistent : System → Machine → Choice → Bool
is_consistent sys state choice =
    each_below (λ p. is_canonical (bounds_of sys.flow p) (front_of choice.notices p)) (length sys.flow.nodes)
    && (each_below (is_delivered_kept sys state choice) (length sys.flow.edges)
    && (each_below (is_discarded_kept sys state choice) (length sys.flow.edges)
    && (each_below (is_notified_kept sys state choice) (length sys.flow.nodes)
    && (each_below (λ p. is_in_cut (front_of choice.notices p) (cut_of choice p)) (length sys.flow.nodes) && each_below (is_notice_kept sys choice) (length sys.flow.edges)))))

-- ---- what is offered

-- whether an input can be restored to the list
abbrev pub has_batches : System → List Event → ℕ → Front → Bool
has_batches sys h p [] = is_exhausted sys h p
has_batches sys h p ([] ∷ os) = false
has_batches sys h p ((k ∷ []) ∷ []) = nat_le k (injected_count p h)
has_batches sys h p ((k ∷ []) ∷ o ∷ os) = false
has_batches sys h p ((k ∷ x ∷ t) ∷ os) = false

batches_by : (sys : System) (h : List Event) (p : ℕ) (f : Front) → has_batches sys h p f ≡ true
    → ((k : ℕ) × (k ≤ injected_count p h) × (f ≡ until k)) ⊎ ((is_exhausted sys h p ≡ true) × (f ≡ []))
batches_by sys h p [] a = inr (a, refl)
batches_by sys h p ([] ∷ os) a = absurd (false≢true a)
batches_by sys h p ((k ∷ []) ∷ []) a = inl (k, leb-true k (injected_count p h) a, refl)
batches_by sys h p ((k ∷ []) ∷ o ∷ os) a = absurd (false≢true a)
batches_by sys h p ((k ∷ x ∷ t) ∷ os) a = absurd (false≢true a)

-- whether a checkpoint of node p at f that counts is among the writes
abbrev pub has_checkpoint : View → ℕ → Front → List Write → Bool
has_checkpoint view p f writes =
    list_any (λ (write : Write). (write.node == p && is_counted view write.stage) && list_any (λ g. same_front g f) (checkpoint_front write.written)) writes

checkpoint_by : (view : View) (p : ℕ) (f : Front) (writes : List Write) → has_checkpoint view p f writes ≡ true → HasCheckpoint view p f writes
checkpoint_by view p f [] h = false≢true h
checkpoint_by view p f (w ∷ ws) h = ⊎_elim (λ a. go w.written a) (λ a. inr (checkpoint_by view p f ws a)) (or_cases _ _ h)
  where
    go : (written : Written) → ((w.node == p && is_counted view w.stage) && list_any (λ g. same_front g f) (checkpoint_front written)) ≡ true
        → HasCheckpoint view p f (record w { written = written } ∷ ws)
    go (checkpoint g low) a =
        let b = and_parts (w.node == p && is_counted view w.stage) (same_front g f || false) a in
        let c = and_parts (w.node == p) (is_counted view w.stage) b.0 in
        inl (eqb-true w.node p c.0, ⊎_elim (λ e. same_front-is g f e) (λ e. absurd (false≢true e)) (or_cases (same_front g f) false b.1), c.1)
    go (logged_event serial) a = absurd (false≢true (and_parts (w.node == p && is_counted view w.stage) false a).1)

-- whether a write holds the event of this serial
abbrev pub holds_event : ℕ → Written → Bool
holds_event serial (checkpoint g low) = false
holds_event serial (logged_event s) = s == serial

-- whether an event was logged
abbrev pub is_logged : ℕ → List Write → Bool
is_logged serial writes = list_any (λ (write : Write). holds_event serial write.written && is_counted ever write.stage) writes

logged_by : (serial : ℕ) (writes : List Write) → is_logged serial writes ≡ true → IsLogged serial writes
logged_by serial [] h = false≢true h
logged_by serial (w ∷ ws) h = ⊎_elim (λ a. go w.written a) (λ a. inr (logged_by serial ws a)) (or_cases _ _ h)
  where
    go : (written : Written) → (holds_event serial written && is_counted ever w.stage) ≡ true → IsLogged serial (record w { written = written } ∷ ws)
    go (checkpoint g low) a = absurd (false≢true a)
    go (logged_event s) a = let b = and_parts (s == serial) (is_counted ever w.stage) a in inl (eqb-true s serial b.0, b.1)

-- whether each event of node p inside f was logged
abbrev pub are_logged : System → ℕ → Frontier → List Write → List SerialEvent → Bool
are_logged sys p f writes h = list_all (λ (v : SerialEvent). not (event_node sys.flow v.event == p && f (event_stamp v.event)) || is_logged v.serial writes) h

all_logged_by : (sys : System) (p : ℕ) (f : Frontier) (writes : List Write) (h : List SerialEvent) → are_logged sys p f writes h ≡ true → AllLogged sys p f writes h
all_logged_by sys p f writes [] k = tt
all_logged_by sys p f writes (v ∷ h) k =
    let a = and_parts _ _ k in (
      λ at i.
          ⊎_elim
          (λ n. absurd (two_ways _ (and_from _ _ (eq-eqb (event_node sys.flow v.event) p at) i) (not-true _ n)))
          (λ l. logged_by v.serial writes l)
          (or_cases _ _ a.0),
      all_logged_by sys p f writes h a.1,
    )

-- whether node p can be restored to f in this way
abbrev pub is_restorable : System → Machine → View → ℕ → Restoring → Front → Bool
is_restorable sys state view p Batches f = has_batches sys (events state.history) p f
is_restorable sys state view p Bound f = is_within f (front_of state.settled p) && is_within f (until (ack_count_of state p))
is_restorable sys state view p Anything f = is_within f (front_of state.settled p)
is_restorable sys state view p Checkpoints f = same_front f (no_stamps (bounds_of sys.flow p)) || has_checkpoint view p f state.writes
is_restorable sys state view p Events f =
    is_within f (front_of state.settled p) && are_logged sys p (frontier_of (bounds_of sys.flow p) f) state.writes state.history

restorable_by : (sys : System) (state : Machine) (view : View) (p : ℕ) (way : Restoring) (f : Front) → is_restorable sys state view p way f ≡ true
    → IsRestorable sys state view p way f
restorable_by sys state view p Batches f h = batches_by sys (events state.history) p f h
restorable_by sys state view p Bound f h =
    let a = and_parts (is_within f (front_of state.settled p)) (is_within f (until (ack_count_of state p))) h in
    (lies (bounds_of sys.flow p) f (front_of state.settled p) a.0, lies (bounds_of sys.flow p) f (until (ack_count_of state p)) a.1)
restorable_by sys state view p Anything f h = lies (bounds_of sys.flow p) f (front_of state.settled p) h
restorable_by sys state view p Checkpoints f h =
    ⊎_elim (λ e. inl (same_front-is f (no_stamps (bounds_of sys.flow p)) e)) (λ c. inr (checkpoint_by view p f state.writes c)) (or_cases _ _ h)
restorable_by sys state view p Events f h =
    let a = and_parts _ _ h in
    (lies (bounds_of sys.flow p) f (front_of state.settled p) a.0, all_logged_by sys p (frontier_of (bounds_of sys.flow p) f) state.writes state.history a.1)

-- whether the frontier holds the low watermark, if it has to
abbrev pub holds_low : View → Front → Front → Bool
holds_low kept low f = is_within low f
holds_low ever low f = true

low_by : (b : Bounds) (view : View) (low f : Front) → holds_low view low f ≡ true → HoldsLow view (frontier_of b low) (frontier_of b f)
low_by b kept low f h = lies b low f h
low_by b ever low f h = tt

-- whether node p offers the cut
abbrev pub is_candidate : System → Machine → (ℕ → Bool) → View → ℕ → Cut → Bool
is_candidate sys state lost view p Present = not (lost p)
is_candidate sys state lost view p (At f) =
    is_canonical (bounds_of sys.flow p) f
    && (is_restorable sys state view p (way_of sys.flow p) f && holds_low view (front_of state.low p) f)

pub candidate_by : (sys : System) (state : Machine) (lost : ℕ → Bool) (view : View) (p : ℕ) (cut : Cut) → is_candidate sys state lost view p cut ≡ true
    → IsCandidate sys state lost view p cut
candidate_by sys state lost view p Present h = not-true (lost p) h
candidate_by sys state lost view p (At f) h =
    let a = and_parts _ _ h in
    let b = and_parts _ _ a.1 in
    (canonical_by (bounds_of sys.flow p) f a.0, restorable_by sys state view p (way_of sys.flow p) f b.0, low_by (bounds_of sys.flow p) view (front_of state.low p) f b.1)

-- whether each node offers its cut of the choice
abbrev pub are_offered : System → Machine → (ℕ → Bool) → View → Choice → Bool
are_offered sys state lost view choice = each_below (λ p. is_candidate sys state lost view p (cut_of choice p)) (length sys.flow.nodes)

pub offered_by : (sys : System) (state : Machine) (lost : ℕ → Bool) (view : View) (choice : Choice) → are_offered sys state lost view choice ≡ true
    → (p : ℕ) → p < length sys.flow.nodes → IsCandidate sys state lost view p (cut_of choice p)
offered_by sys state lost view choice h p l =
    candidate_by sys state lost view p (cut_of choice p) (each_below-at (λ p. is_candidate sys state lost view p (cut_of choice p)) (length sys.flow.nodes) h p l)

pub consistent_by : (sys : System) (state : Machine) (lost : ℕ → Bool) (view : View) (choice : Choice) → IsWellFormed sys.flow
    → length choice.cuts ≡ length sys.flow.nodes → length choice.notices ≡ length sys.flow.nodes
    → are_offered sys state lost view choice ≡ true → is_consistent sys state choice ≡ true → IsConsistent sys state (IsCandidate sys state lost view) choice
consistent_by sys state lost view choice formed one_cut one_notice o h =
    let a = and_parts _ _ h in
    let b = and_parts _ _ a.1 in
    let c = and_parts _ _ b.1 in
    let d = and_parts _ _ c.1 in
    let f = and_parts _ _ d.1 in
    record {
      one_cut_each = one_cut;
      one_notice_each = one_notice;
      offered = offered_by sys state lost view choice o;
      canonical = canonical_notices sys choice a.0;
      delivered = delivered_by sys state choice formed b.0;
      discarded = discarded_by sys state choice formed c.0;
      notified = notified_by sys state choice d.0;
      own = own_by sys choice f.0;
      notices = notices_by sys state choice formed f.1;
    }

-- ---- what lies within a choice

-- the epochs below fewer lie within those below more
pub until_more : (b : Bounds) (k n : ℕ) → k ≤ n → Within (frontier_of b (until k)) (frontier_of b (until n))
until_more b k n l = lies b (until k) (until n) (grind (arith, nat_tests))

-- a notice lies within at the receiver of an edge, where what that of its sender lies within projects to within
pub next_notice : (sys : System) (state : Machine) (offered : ℕ → Cut → Type 0) (other : Choice) → IsConsistent sys state offered other → (d : ℕ) → d < length sys.flow.edges → (f g : Frontier)
    → Within (phi sys (events state.history) d f) g → Within (notice_of sys.flow other (sender sys.flow d)) f → Within (notice_of sys.flow other (receiver sys.flow d)) g
next_notice sys state offered other is d l f g along w t i = along t (phi-monotone sys (events state.history) d (notice_of sys.flow other (sender sys.flow d)) f w t (is.notices d l t i))

-- whether each checkpoint of node p that counts lies within
abbrev pub are_checkpoints_within : View → ℕ → Front → List Write → Bool
are_checkpoints_within view p g writes = list_all (λ (write : Write). not (write.node == p && is_counted view write.stage) || list_all (λ f. is_within f g) (checkpoint_front write.written)) writes

checkpoint_within : (b : Bounds) (view : View) (p : ℕ) (f g : Front) (writes : List Write) → are_checkpoints_within view p g writes ≡ true → HasCheckpoint view p f writes
    → Within (frontier_of b f) (frontier_of b g)
checkpoint_within b view p f g [] h c = absurd c
checkpoint_within b view p f g (w ∷ ws) h (inr c) = checkpoint_within b view p f g ws (and_parts _ _ h).1 c
checkpoint_within b view p f g (w ∷ ws) h (inl c) = at w.written (inl c) (and_parts _ _ h).0
  where
    at : (written : Written) → HasCheckpoint view p f (record w { written = written } ∷ []) → (not (w.node == p && is_counted view w.stage) || list_all (λ x. is_within x g) (checkpoint_front written)) ≡ true
        → Within (frontier_of b f) (frontier_of b g)
    at (checkpoint x low) (inr c) k = absurd c
    at (checkpoint x low) (inl c) k =
        subst (λ y. Within (frontier_of b y) (frontier_of b g)) c.1
        (lies b x g
        (⊎_elim
        (λ n. absurd (two_ways _ (and_from _ _ (eq-eqb w.node p c.0) c.2) (not-true _ n)))
        (λ n. (and_parts _ _ n).0)
        (or_cases _ _ k)))
    at (logged_event serial) (inr c) k = absurd c
    at (logged_event serial) (inl c) k = absurd c

-- whether what node p can be restored to, in this way, lies within
abbrev pub is_restorable_within : System → Machine → View → ℕ → Restoring → Front → Bool
is_restorable_within sys state view p Batches g =
    is_within (until (injected_count p (events state.history))) g && (not (is_exhausted sys (events state.history) p) || is_within [] g)
is_restorable_within sys state view p Bound g = is_within (front_of state.settled p) g || is_within (until (ack_count_of state p)) g
is_restorable_within sys state view p Anything g = is_within (front_of state.settled p) g
is_restorable_within sys state view p Checkpoints g = are_checkpoints_within view p g state.writes
is_restorable_within sys state view p Events g = is_within (front_of state.settled p) g

restorable_within : (sys : System) (state : Machine) (view : View) (p : ℕ) (way : Restoring) (g f : Front) → is_restorable_within sys state view p way g ≡ true
    → IsRestorable sys state view p way f → Within (frontier_of (bounds_of sys.flow p) f) (frontier_of (bounds_of sys.flow p) g)
restorable_within sys state view p Batches g f h (inl k) =
    subst (λ x. Within (frontier_of (bounds_of sys.flow p) x) (frontier_of (bounds_of sys.flow p) g)) (sym k.2)
    (λ t i. lies (bounds_of sys.flow p) (until (injected_count p (events state.history))) g (and_parts (is_within (until (injected_count p (events state.history))) g) _ h).0 t
    (until_more (bounds_of sys.flow p) k.0 (injected_count p (events state.history)) k.1 t i))
restorable_within sys state view p Batches g f h (inr e) =
    subst (λ x. Within (frontier_of (bounds_of sys.flow p) x) (frontier_of (bounds_of sys.flow p) g)) (sym e.1)
    (lies (bounds_of sys.flow p) [] g (⊎_elim (λ n. absurd (two_ways _ e.0 (not-true _ n))) (λ n. n) (or_cases _ _ (and_parts _ _ h).1)))
restorable_within sys state view p Bound g f h o = λ t i.
    ⊎_elim (λ n. lies (bounds_of sys.flow p) (front_of state.settled p) g n t (o.0 t i)) (λ n. lies (bounds_of sys.flow p) (until (ack_count_of state p)) g n t (o.1 t i)) (or_cases _ _ h)
restorable_within sys state view p Anything g f h o = λ t i. lies (bounds_of sys.flow p) (front_of state.settled p) g h t (o t i)
restorable_within sys state view p Checkpoints g f h (inl e) =
    subst (λ x. Within (frontier_of (bounds_of sys.flow p) x) (frontier_of (bounds_of sys.flow p) g)) (sym e) (none-within (bounds_of sys.flow p) _)
restorable_within sys state view p Checkpoints g f h (inr c) = checkpoint_within (bounds_of sys.flow p) view p f g state.writes h c
restorable_within sys state view p Events g f h o = λ t i. lies (bounds_of sys.flow p) (front_of state.settled p) g h t (o.0 t i)

-- what a failed node offers lies within
pub offered_within : (sys : System) (state : Machine) (lost : ℕ → Bool) (view : View) (p : ℕ) (g : Front) → lost p ≡ true
    → is_restorable_within sys state view p (way_of sys.flow p) g ≡ true
    → (cut : Cut) → IsCandidate sys state lost view p cut → IsCutWithin sys.flow p cut (At g)
offered_within sys state lost view p g f h Present o = two_ways _ f o
offered_within sys state lost view p g f h (At x) o = restorable_within sys state view p (way_of sys.flow p) g x h o.1

-- what a node keeps by a cut that lies within another
pub set_within : (sys : System) (p : ℕ) (cut : Cut) (g : Front) → IsCutWithin sys.flow p cut (At g) → Within (set_of sys.flow p cut) (frontier_of (bounds_of sys.flow p) g)
set_within sys p Present g h = absurd h
set_within sys p (At f) g h = h

-- a consistent choice whose cuts lie within those of a choice lies within it, where each notice of that is all of its cut
pub above_by : (sys : System) (state : Machine) (offered : ℕ → Cut → Type 0) (choice other : Choice) → IsConsistent sys state offered other
    → ((p : ℕ) → p < length sys.flow.nodes → IsCutWithin sys.flow p (cut_of other p) (cut_of choice p))
    → each_below (λ p. is_within (front_of_cut (cut_of choice p)) (front_of choice.notices p)) (length sys.flow.nodes) ≡ true → IsChoiceWithin sys.flow other choice
above_by sys state offered choice other is at h = record {
  cuts = at;
  notices = λ p l t i.
      lies (bounds_of sys.flow p) _ (front_of choice.notices p) (each_below-at (λ p. is_within (front_of_cut (cut_of choice p)) (front_of choice.notices p)) (length sys.flow.nodes) h p l) t
      (held p (cut_of choice p) (at p l) t (is.own p l t i));
}
  where
    held : (p : ℕ) (cut : Cut) → IsCutWithin sys.flow p (cut_of other p) cut → Within (kept_of sys.flow other p) (frontier_of (bounds_of sys.flow p) (front_of_cut cut))
    held p Present w = λ t i. and_from _ _ ((set-frontier sys p (cut_of other p)).inside_domain t i) refl
    held p (At g) w = set_within sys p (cut_of other p) g w

-- whether a cut is a node as it is, or all that a failed node offers lies within it
abbrev pub is_above_offers : System → Machine → (ℕ → Bool) → View → ℕ → Cut → Bool
is_above_offers sys state lost view p Present = true
is_above_offers sys state lost view p (At g) = lost p && is_restorable_within sys state view p (way_of sys.flow p) g

-- a consistent choice is the largest where each of its cuts is above what is offered, and each notice is all of its cut
pub largest_by : (sys : System) (state : Machine) (lost : ℕ → Bool) (view : View) (choice : Choice) → IsConsistent sys state (IsCandidate sys state lost view) choice
    → each_below (λ p. is_above_offers sys state lost view p (cut_of choice p)) (length sys.flow.nodes) ≡ true
    → each_below (λ p. is_within (front_of_cut (cut_of choice p)) (front_of choice.notices p)) (length sys.flow.nodes) ≡ true
    → IsLargest sys state (IsCandidate sys state lost view) choice
largest_by sys state lost view choice is h n = record {
  consistent = is;
  largest = λ other o.
      above_by sys state (IsCandidate sys state lost view) choice other o
      (λ p l. at p (cut_of choice p) (each_below-at (λ p. is_above_offers sys state lost view p (cut_of choice p)) (length sys.flow.nodes) h p l) (cut_of other p) (o.offered p l)) n;
}
  where
    at : (p : ℕ) (cut : Cut) → is_above_offers sys state lost view p cut ≡ true → (other : Cut) → IsCandidate sys state lost view p other → IsCutWithin sys.flow p other cut
    at p Present a other o = tt
    at p (At g) a other o = let b = and_parts _ _ a in offered_within sys state lost view p g b.0 b.1 other o

-- what came from events of one stamp inside a frontier is among what it sent
sent_above : (f : Frontier) (o u : Stamp) (ms : List Message) → f o ≡ true → list_any (λ (m : Message). list_all (same o) m.causes && leq u m.at) ms ≡ true
    → some_above (stamps_from f ms) u ≡ true
sent_above f o u [] i h = absurd (false≢true h)
sent_above f o u (m ∷ ms) i h = go (all_inside f m.causes) refl (or_cases _ _ h) (sent_above f o u ms i)
  where
    all_in : (cs : List Stamp) → list_all (same o) cs ≡ true → all_inside f cs ≡ true
    all_in [] k = refl
    all_in (c ∷ cs) k = let a = and_parts (same o c) (list_all (same o) cs) k in and_from (f c) (all_inside f cs) (subst (λ s. f s ≡ true) (same-is o c a.0) i) (all_in cs a.1)

    go : (b : Bool) → all_inside f m.causes ≡ b → ((list_all (same o) m.causes && leq u m.at) ≡ true) ⊎ (list_any (λ (x : Message). list_all (same o) x.causes && leq u x.at) ms ≡ true) → (list_any (λ (x : Message). list_all (same o) x.causes && leq u x.at) ms ≡ true → some_above (stamps_from f ms) u ≡ true)
        → some_above (stamps_from f (m ∷ ms)) u ≡ true
    go true e (inl k) later = rw e (or_left (leq u m.at) (some_above (stamps_from f ms) u) (and_parts (list_all (same o) m.causes) (leq u m.at) k).1)
    go true e (inr k) later = rw e (or_right (leq u m.at) (some_above (stamps_from f ms) u) (later k))
    go false e (inl k) later = absurd (two_ways (all_inside f m.causes) (all_in m.causes (and_parts (list_all (same o) m.causes) (leq u m.at) k).0) e)
    go false e (inr k) later = rw e (later k)

-- A node that cannot send again what came from events of a stamp keeps none of them, where the receiver keeps less.
pub sender_within : (sys : System) (state : Machine) (offered : ℕ → Cut → Type 0) (other : Choice) → IsConsistent sys state offered other
    → (e : ℕ) → e < length sys.flow.edges → (g : Front) (o u : Stamp)
    → IsCutWithin sys.flow (receiver sys.flow e) (cut_of other (receiver sys.flow e)) (At g) → frontier_of (bounds_of sys.flow (receiver sys.flow e)) g u ≡ false
    → can_resend (policy_of sys.flow (sender sys.flow e)) ≡ false
    → ((sent : Frontier) (f : Front) → discarded_at sys.flow e (way_of sys.flow (sender sys.flow e)) sent f ≡ sent)
    → in_domain (bounds_of sys.flow (sender sys.flow e)) o ≡ true → in_domain (bounds_of sys.flow (receiver sys.flow e)) u ≡ true
    → list_any (λ (m : Message). list_all (same o) m.causes && leq u m.at) (sent_messages sys (events state.history) e) ≡ true
    → IsCutWithin sys.flow (sender sys.flow e) (cut_of other (sender sys.flow e)) (At (o ∷ []))
sender_within sys state offered other is e l g o u at out no_log by_sending d du among =
    go (cut_of other (sender sys.flow e)) (λ i. two_ways _ (set_within sys (receiver sys.flow e) (cut_of other (receiver sys.flow e)) g at u (is.discarded e l u i)) out)
  where
    covered : (cut : Cut) → set_of sys.flow (sender sys.flow e) cut o ≡ true → (tallies_in sys state).sent e cut u ≡ true
    covered cut i = and_from _ _ du (sent_above (set_of sys.flow (sender sys.flow e) cut) o u (sent_messages sys (events state.history) e) i among)

    go : (cut : Cut) → ((covers_in sys state).discarded e cut u ≡ true → ⊥) → IsCutWithin sys.flow (sender sys.flow e) cut (At (o ∷ []))
    go Present w = w (rw no_log (covered Present d))
    go (At f) w =
        within_outside (bounds_of sys.flow (sender sys.flow e)) _ (o ∷ []) (frontier-closed _ f) (and_from _ _ d refl)
        ((λ i. w (rw no_log (ap (λ (c : Frontier). c u) (by_sending ((tallies_in sys state).sent e (At f)) f) ∙ covered (At f) i))), tt)

-- ---- the recovery

-- what is settled at a node once it is cut, where one of the two lies within the other
abbrev pub front_after : Cut → Front → Front
front_after Present before = before
front_after (At f) before = if is_within f before then f else before

-- whether this is so, and the list of the cut canonical
abbrev pub is_cut : System → ℕ → Cut → Front → Bool
is_cut sys p Present before = true
is_cut sys p (At f) before =
    is_canonical (bounds_of sys.flow p) f && (is_canonical (bounds_of sys.flow p) before && (is_within f before || is_within before f))

settled_by : (sys : System) (p : ℕ) (cut : Cut) (before : Front) → is_cut sys p cut before ≡ true → IsSettledCut sys p cut before (front_after cut before)
settled_by sys p Present before h = refl
settled_by sys p (At f) before h = go (is_within f before) refl
  where
    go : (b : Bool) → is_within f before ≡ b
        → IsFrontOf (bounds_of sys.flow p) (if b then f else before) (meet (frontier_of (bounds_of sys.flow p) before) (frontier_of (bounds_of sys.flow p) f))
    go true e = record { canonical = canonical_by _ _ (and_parts _ _ h).0; same = meet_other _ before f e }
    go false e =
        let a = and_parts _ _ (and_parts _ _ h).1 in
        record { canonical = canonical_by _ _ a.0; same = meet_by _ before f (⊎_elim (λ k. absurd (two_ways _ k e)) (λ k. k) (or_cases _ _ a.1)) }

pub recovers_to : (sys : System) (state : Machine) (choice : Choice) (settled : List Front) (p : ℕ) → p < length sys.flow.nodes → is_failed state p ≡ true
    → IsLargest sys state (offers sys state) choice → length settled ≡ length sys.flow.nodes
    → ((q : ℕ) → q < length sys.flow.nodes → front_of settled q ≡ front_after (cut_of choice q) (front_of state.settled q))
    → each_below (λ q. is_cut sys q (cut_of choice q) (front_of state.settled q)) (length sys.flow.nodes) ≡ true
    → StepsTo sys state Recover (recovered_state sys state choice settled) (did (cuts choice))
recovers_to sys state choice settled p l f is one_each same h = (p, choice, settled, l, f, is, record { one_each = one_each; each = each }, refl, refl)
  where
    each : (q : ℕ) → q < length sys.flow.nodes → IsSettledCut sys q (cut_of choice q) (front_of state.settled q) (front_of settled q)
    each q m =
        subst (IsSettledCut sys q (cut_of choice q) (front_of state.settled q)) (sym (same q m))
        (settled_by sys q (cut_of choice q) (front_of state.settled q) (each_below-at (λ q. is_cut sys q (cut_of choice q) (front_of state.settled q)) (length sys.flow.nodes) h q m))
