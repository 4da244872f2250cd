-- What is known of the stamps of a node, which perhaps failed, tells enough of a frontier that it offers.
use Rattle.std.proofs.Common.{◌≡◌, ◌⊎◌, inl, inr, ℕ, Bool, true, false, not, ◌&&◌, ◌||◌, ◌==◌, List, [], ◌∷◌, ◌++◌, map, refl, sym, ◌∙◌, ap, subst}
use Rattle.std.specs.Prelude.{filter}
use Rattle.std.specs.List.{AllByRecursion, Contains, flat_map}
use Rattle.std.proofs.lemmas.Bool.{and_parts, cond_both, eqb-true, not-true, not-false, or_cases, or_parts, or_right}
use Rattle.std.proofs.lemmas.List.{map-append}
use Rattle.fw_lemmas.proofs.Bools.{two_ways}
use Rattle.fw_lemmas.proofs.Each.{each-append, each-both, each-there, each-weaker}
use Rattle.fw_lemmas.proofs.Filters.{filter-in}
use Rattle.fw_time.specs.Stamp.{Stamp}
use Rattle.fw_frontier.specs.Frontier.{Frontier, Within, meet}
use Rattle.fw_frontier.specs.Front.{Front}
use Rattle.fw_flow.specs.declared.choice.Stamps.{Stamps}
use Rattle.fw_flow.specs.declared.event.Event.{Event}
use Rattle.fw_flow.specs.declared.event.Event.TheVariants.{Inject, Deliver, Notify}
use Rattle.fw_flow.specs.declared.event.Message.{Message}
use Rattle.fw_flow.specs.declared.restoring.Restoring.{Restoring}
use Rattle.fw_flow.specs.declared.restoring.Restoring.TheVariants.{Batches, Bound, Anything, Checkpoints, Events}
use Rattle.fw_flow.specs.Dataflow.{System, Dataflow, kind_of, receiver, is_notified_kind}
use Rattle.fw_flow.specs.NodeFunction.{event_node, event_stamp}
use Rattle.fw_flow.specs.Restoring.{way_of}
use Rattle.fw_model.specs.Choice.{AllLogged, is_serial_logged, logged_history}
use Rattle.fw_model.specs.Covers.{stamp_of_notice}
use Rattle.fw_model.specs.EventStamps.{AreStampsOf}
use Rattle.fw_model.specs.History.{delivered_messages, message_on, was_delivered_to, was_notified, IsLegal}
use Rattle.fw_model.specs.Machine.{Machine, SerialEvent, Write, events}
use Rattle.fw_model.specs.Thinned.{IsThinnedIf}
use Rattle.fw_model.proofs.SentStandLaws.{IsOne, one-contained, contained-one}
use Rattle.fw_model.proofs.ThinnedLaws.{each-contained, thinned-less}
use Rattle.fw_policy.specs.View.{base_of, AreLogged, AreStampsLogged, IsKnownOf, IsKnownOfFailed}
use Rattle.fw_policy.proofs.SerialLaws.{logged-is}
use Rattle.fw_policy.proofs.UnloggedLaws.{one-first, one-last}

-- ---- what is known, by the way in which a node is restored

-- of a node that did not fail all is known
pub known-there : (sys : System) (floor : List Front) (state : Machine) (p : ℕ) (stamps : Stamps) (failed : Bool) → IsKnownOf sys floor state p stamps failed → failed ≡ false
    → AreStampsOf sys (events state.history) p (base_of sys floor state p) stamps
known-there sys floor state p stamps true k e = absurd (cc)
known-there sys floor state p stamps false k e = k

-- and of an input
pub known-batches : (sys : System) (floor : List Front) (state : Machine) (p : ℕ) (stamps : Stamps) (failed : Bool) → IsKnownOf sys floor state p stamps failed → way_of sys.flow p ≡ Batches
    → AreStampsOf sys (events state.history) p (base_of sys floor state p) stamps
known-batches sys floor state p stamps true k e = subst (IsKnownOfFailed sys floor state p stamps) e k
known-batches sys floor state p stamps false k e = k

-- of a node that logs its events what was logged is known at least
pub known-events : (sys : System) (floor : List Front) (state : Machine) (p : ℕ) (stamps : Stamps) (failed : Bool) → IsKnownOf sys floor state p stamps failed → way_of sys.flow p ≡ Events
    → AreStampsOf sys (events state.history) p (base_of sys floor state p) stamps ⊎ AreStampsLogged sys state p (base_of sys floor state p) stamps
known-events sys floor state p stamps true k e = inr (subst (IsKnownOfFailed sys floor state p stamps) e k)
known-events sys floor state p stamps false k e = inl k

-- of any node: it was notified of what is known so
pub known-among : (sys : System) (floor : List Front) (state : Machine) (p : ℕ) (stamps : Stamps) (failed : Bool) → IsKnownOf sys floor state p stamps failed
    → AllByRecursion (Contains (flat_map (stamp_of_notice p) (events state.history))) stamps.notified
known-among sys floor state p stamps false k = k.notified.among
known-among sys floor state p stamps true k = by (way_of sys.flow p) k
  where
    by : (way : Restoring) → IsKnownOfFailed sys floor state p stamps way → AllByRecursion (Contains (flat_map (stamp_of_notice p) (events state.history))) stamps.notified
    by Batches k = k.notified.among
    by Bound k = k
    by Anything k = k
    by Checkpoints k = k
    by Events k = k.notified.0

-- ---- what tells enough

-- Of stamps inside f those are kept that lie outside a base, and those in the base lie within the floor g.
pub record TellsEnough (f g : Frontier) (all kept : List Stamp) : Type 0 where
  pub base : Frontier
  pub thinned : IsThinnedIf false base all kept
  pub within : Within (meet f base) g

-- stamps that are thinned inside a base do, where the floor holds it
pub enough-thinned : (whole : Bool) (f g base : Frontier) (all kept : List Stamp) → IsThinnedIf whole base all kept → Within base g → TellsEnough f g all kept
enough-thinned whole f g base all kept k w = record {
  base = base;
  thinned = thinned-less whole base all kept k;
  within = λ t i. w t (and_parts (f t) (base t) i).1;
}

-- those that are logged do, where all inside f is logged
pub enough-logged : (f g base : Frontier) (all logged kept : List Stamp) → AreLogged base all logged kept → AllByRecursion (λ t. f t ≡ true → IsOne t logged) all → Within base g
    → TellsEnough f g all kept
enough-logged f g base all logged kept k a w =
    let or_out : Frontier = λ t. base t || not (f t) in
    record {
      base = or_out;
      thinned = record {
        among = k.0;
        outside = each-weaker (λ t. f t ≡ true → IsOne t logged) (λ t. or_out t ≡ false → Contains kept t) all
            (λ t one e.
            let out = or_parts (base t) (not (f t)) e in
            each-contained (λ s. base s ≡ false → Contains kept s) t logged (one-contained t logged (one (not-false (f t) out.1))) k.1 out.0) a;
        inside = λ e. absurd (cc);
      };
      within = λ t i.
          let both = and_parts (f t) (or_out t) i in
          elim (or_cases (base t) (not (f t)) both.1) [ inl in_it ↦ w t in_it | inr out ↦ absurd (two_ways (f t) both.0 (not-true (f t) out)) ];
    }

-- where there are none, any that are among them do
pub enough-none : (f g : Frontier) (all kept : List Stamp) → all ≡ [] → AllByRecursion (Contains all) kept → TellsEnough f g all kept
enough-none f g all kept none among = record {
  base = λ t. false;
  thinned = record {
    among = among;
    outside = subst (AllByRecursion (λ t. false ≡ false → Contains kept t)) (sym none) tt;
    inside = λ e. absurd (cc);
  };
  within = λ t i. absurd (let both = and_parts (f t) false i in two_ways false both.1 refl);
}

-- ---- what is logged of a node

-- the stamp is that of the event, which is one of node p
abbrev IsStampAt : Dataflow → ℕ → Event → Stamp → Type 0
IsStampAt flow p v t = (event_node flow v ≡ p) × (event_stamp v ≡ t)

-- whether an event is of another node than p, or logged
abbrev is_in_logged : Dataflow → ℕ → List Write → SerialEvent → Bool
is_in_logged flow p writes v = not (event_node flow v.event == p) || is_serial_logged v.serial writes

-- where all of node p inside f is logged, of the stamps inside f of its events none is lost
logged-each : (sys : System) (p : ℕ) (f : Frontier) (writes : List Write) (stamps : Event → List Stamp) → ((v : Event) → AllByRecursion (IsStampAt sys.flow p v) (stamps v))
    → (h : List SerialEvent) → AllLogged sys p f writes h
    → AllByRecursion (λ t. f t ≡ true → IsOne t (flat_map stamps (events (filter (is_in_logged sys.flow p writes) h)))) (flat_map stamps (events h))
logged-each sys p f writes stamps own [] a = tt
logged-each sys p f writes stamps own (v ∷ h) a =
    let left = is_in_logged sys.flow p writes in
    let here = stamps v.event in
    let rest = flat_map stamps (events (filter left h)) in
    let Left : Stamp → Type 0 = λ t. f t ≡ true → IsOne t (flat_map stamps (events (filter left (v ∷ h)))) in
    each-append Left here (flat_map stamps (events h))
    (each-weaker (λ t. Contains here t × IsStampAt sys.flow p v.event t) Left here
    (λ t k i.
    let is = k.1 in
    let passes : left v ≡ true = or_right (not (event_node sys.flow v.event == p)) (is_serial_logged v.serial writes)
    ((logged-is v.serial writes).1 (a.0 is.0 (ap f is.1 ∙ i))) in
    subst (λ (vs : List SerialEvent). IsOne t (flat_map stamps (events vs))) (sym (filter-in left v h passes)) (one-first t here rest (contained-one t here k.0)))
    (each-both (Contains here) (IsStampAt sys.flow p v.event) here (each-there here) (own v.event)))
    (each-weaker (λ t. f t ≡ true → IsOne t rest) Left (flat_map stamps (events h))
    (λ t k i. cond_both (left v) (v ∷ filter left h) (filter left h) (λ (vs : List SerialEvent). IsOne t (flat_map stamps (events vs)))
    (λ e. one-last t here rest (k i)) (λ e. k i))
    (logged-each sys p f writes stamps own h a.1))

-- the stamps of what an event delivers on edge d
abbrev stamps_delivered : ℕ → Event → List Stamp
stamps_delivered d v = map (λ (m : Message). m.at) (message_on d v)

delivered-are : (d : ℕ) (vs : List Event) → map (λ (m : Message). m.at) (delivered_messages vs d) ≡ flat_map (stamps_delivered d) vs
delivered-are d [] = refl
delivered-are d (v ∷ vs) =
    map-append (λ (m : Message). m.at) (message_on d v) (delivered_messages vs d) ∙ ap (λ ts. stamps_delivered d v ++ ts) (delivered-are d vs)

delivered-own : (flow : Dataflow) (d p : ℕ) → receiver flow d ≡ p → (v : Event) → AllByRecursion (IsStampAt flow p v) (stamps_delivered d v)
delivered-own flow d p r (Inject s x) = tt
delivered-own flow d p r (Deliver e m) =
    cond_both (e == d) (m ∷ []) [] (λ (ms : List Message). AllByRecursion (IsStampAt flow p (Deliver e m)) (map (λ (x : Message). x.at) ms))
    (λ k. ((ap (receiver flow) (eqb-true e d k) ∙ r, refl), tt)) (λ k. tt)
delivered-own flow d p r (Notify q t) = tt

-- what was delivered to node p inside f is among what was logged
pub delivered-logged : (sys : System) (state : Machine) (d p : ℕ) → receiver sys.flow d ≡ p → (f : Frontier) → AllLogged sys p f state.writes state.history
    → AllByRecursion (λ t. f t ≡ true → IsOne t (map (λ (m : Message). m.at) (delivered_messages (logged_history sys state p) d)))
    (map (λ (m : Message). m.at) (delivered_messages (events state.history) d))
delivered-logged sys state d p r f a =
    let left = logged_history sys state p in
    subst (AllByRecursion (λ t. f t ≡ true → IsOne t (map (λ (m : Message). m.at) (delivered_messages left d)))) (sym (delivered-are d (events state.history)))
    (subst (λ ts. AllByRecursion (λ t. f t ≡ true → IsOne t ts) (flat_map (stamps_delivered d) (events state.history))) (sym (delivered-are d left))
    (logged-each sys p f state.writes (stamps_delivered d) (delivered-own sys.flow d p r) state.history a))

notices-own : (flow : Dataflow) (p : ℕ) (v : Event) → AllByRecursion (IsStampAt flow p v) (stamp_of_notice p v)
notices-own flow p (Inject s x) = tt
notices-own flow p (Deliver e m) = tt
notices-own flow p (Notify q t) =
    cond_both (q == p) (t ∷ []) [] (AllByRecursion (IsStampAt flow p (Notify q t))) (λ k. ((eqb-true q p k, refl), tt)) (λ k. tt)

-- what it was notified of inside f is
pub notices-logged : (sys : System) (state : Machine) (p : ℕ) (f : Frontier) → AllLogged sys p f state.writes state.history
    → AllByRecursion (λ t. f t ≡ true → IsOne t (flat_map (stamp_of_notice p) (logged_history sys state p))) (flat_map (stamp_of_notice p) (events state.history))
notices-logged sys state p f a = logged-each sys p f state.writes (stamp_of_notice p) (notices-own sys.flow p) state.history a

-- ---- nodes that are not notified

-- a node of a kind that is not notified has no notices
pub no-notices : (sys : System) (h : List Event) (p : ℕ) → IsLegal sys h → is_notified_kind (kind_of sys.flow p) ≡ false → flat_map (stamp_of_notice p) h ≡ []
no-notices sys [] p legal n = refl
no-notices sys (Inject s x ∷ h) p legal n = no-notices sys h p legal.1 n
no-notices sys (Deliver e m ∷ h) p legal n = no-notices sys h p legal.1 n
no-notices sys (Notify q t ∷ h) p legal n =
    cond_both (q == p) (t ∷ []) [] (λ (ts : List Stamp). ts ++ flat_map (stamp_of_notice p) h ≡ [])
    (λ k.
    let owed = and_parts (is_notified_kind (kind_of sys.flow q) && was_delivered_to sys.flow q t h) (not (was_notified q t h)) (legal.0).is_owed in
    let kind = (and_parts (is_notified_kind (kind_of sys.flow q)) (was_delivered_to sys.flow q t h) owed.0).0 in
    absurd (two_ways (is_notified_kind (kind_of sys.flow p)) (subst (λ r. is_notified_kind (kind_of sys.flow r) ≡ true) (eqb-true q p k) kind) n))
    (λ k. no-notices sys h p legal.1 n)
