-- The stamps of a node's events inside a checkpoint, got back from covers.
use Rattle.std.proofs.Common.{◌≡◌, ℕ, ◌<◌, Bool, true, false, not, ◌&&◌, cond, List, [], ◌∷◌, ◌++◌, length, map, filter, refl, sym, ap, subst, ◌⊎◌, ◌==◌, ◌∙◌, inl, inr, arith}
use Rattle.std.specs.List.{AllByRecursion, Contains, flat_map}
use Rattle.std.proofs.lemmas.Bool.{cases_lt, cond_both}
use Rattle.std.proofs.lemmas.List.{get_or_past}
use Rattle.std.proofs.lemmas.List.Elements.{filter-append}
use Rattle.fw_lemmas.proofs.Each.{each-filter, each-map, each-one, each-weaker, each-kept}
use Rattle.fw_time.specs.Stamp.{Stamp, in_domain}
use Rattle.fw_frontier.specs.Frontier.{Frontier, IsFrontier, cover, everything}
use Rattle.fw_frontier.specs.Front.{Front}
use Rattle.fw_frontier.proofs.NamesLaws.{frontier-closed}
use Rattle.fw_flow.specs.declared.choice.Counted.{Counted}
use Rattle.fw_flow.specs.declared.choice.Cut.TheVariants.{At}
use Rattle.fw_flow.specs.declared.choice.Recorded.{Recorded}
use Rattle.fw_flow.specs.declared.choice.Stamps.{Stamps}
use Rattle.fw_flow.specs.declared.node.Edge.{Edge}
use Rattle.fw_flow.specs.declared.event.Event.{Event}
use Rattle.fw_flow.specs.declared.event.Event.TheVariants.{Inject, Deliver, Notify}
use Rattle.fw_flow.specs.declared.event.Message.{Message}
use Rattle.fw_flow.specs.Kind.{Kind}
use Rattle.fw_flow.specs.declared.kind.Policy.{Policy}
use Rattle.fw_flow.specs.declared.kind.Policy.TheVariants as policy
use Rattle.fw_flow.specs.declared.restoring.Restoring.TheVariants.{Checkpoints}
use Rattle.fw_flow.specs.Dataflow.{System, Dataflow, bounds_of, bounds_of_edge, is_sequence_kind, kind_of, node_frontier, policy_of, receiver, sender}
use Rattle.fw_flow.specs.NodeFunction.{event_stamp, sent_by}
use Rattle.fw_flow.specs.Projection.{events_at, all_inside}
use Rattle.fw_flow.specs.Restoring.{can_resend, way_of}
use Rattle.fw_flow.specs.WellFormed.{IsWellFormedSystem}
use Rattle.fw_model.specs.Sending.{is_single_kind}
use Rattle.fw_model.specs.Carried.{carried}
use Rattle.fw_model.specs.Covers.{covers_in, stamps_inside, stamps_from, stamp_of_notice, notified_inside, takes_its_cut, takes_its_notices, discarded_at}
use Rattle.fw_model.specs.EventStamps.{StandForSent, StandForNumbered, causes_in, tells_sent}
use Rattle.fw_model.specs.Filtering.{events_inside, messages_from, messages_inside}
use Rattle.fw_model.specs.History.{AreEventsInDomain, delivered_messages, sent_messages}
use Rattle.fw_model.specs.Machine.{Machine, events}
use Rattle.fw_model.specs.Offers.{counted_on_edge, front_of_edge, stamps_on, stamps_on_from}
use Rattle.fw_model.specs.Reached.{IsReached}
use Rattle.fw_model.specs.Thinned.{IsThinned, IsThinnedIf}
use Rattle.fw_model.specs.Writes.{takes_checkpoints}
use Rattle.fw_model.proofs.CarriedLaws.{carried-from}
use Rattle.fw_model.proofs.AlikeLaws.{for-same}
use Rattle.fw_model.proofs.AskedLaws.{reached-all, takes-restoring}
use Rattle.fw_model.proofs.DomainLaws.{has_epochs}
use Rattle.fw_model.proofs.LegalLaws.{edge-receiver, legal_messages-in_domain}
use Rattle.fw_model.proofs.LocalityLaws.{delivers-same, events_at-kept}
use Rattle.fw_model.proofs.SendPartLaws.{part-sends}
use Rattle.fw_regain.specs.Causes.{message_of_told}
use Rattle.fw_regain.specs.GotBack.{IsSentGotBack, StandForReceived, ReceivedStampsAreGotBack, StampsAreGotBack}
use Rattle.fw_regain.specs.Greatest.{AreGreatestIn}
use Rattle.fw_regain.proofs.CauseLaws.{greatest_sent-stand}
use Rattle.fw_regain.proofs.GreatestLaws.{greatest-stand}

-- ---- the covers of a node that takes checkpoints

whole : (base : Frontier) (all kept : List Stamp) → IsThinned base all kept → IsThinnedIf true base all kept
whole base all kept h = record { among = h.among; outside = h.outside; inside = λ e. h.inside }

checkpoint-way : (sys : System) (p : ℕ) → IsWellFormedSystem sys → p < length sys.flow.nodes → takes_checkpoints (policy_of sys.flow p) ≡ true
    → way_of sys.flow p ≡ Checkpoints
checkpoint-way sys p w l takes = takes-restoring (kind_of sys.flow p) (policy_of sys.flow p) (w.flow.policies p l) takes

delivered-is : (sys : System) (state : Machine) (d : ℕ) (f : Front) → way_of sys.flow (receiver sys.flow d) ≡ Checkpoints
    → (covers_in sys state).delivered d (At f)
    ≡ cover (bounds_of sys.flow (receiver sys.flow d)) (stamps_inside (node_frontier sys.flow (receiver sys.flow d) f) (delivered_messages (events state.history) d))
delivered-is sys state d f way =
    ap (λ w. cond (takes_its_cut w) (node_frontier sys.flow (receiver sys.flow d) f)
    (cover (bounds_of sys.flow (receiver sys.flow d)) (stamps_inside (node_frontier sys.flow (receiver sys.flow d) f) (delivered_messages (events state.history) d)))) way

kept-notices : (kind : Kind) (q : Policy) (all some : Frontier) → takes_checkpoints q ≡ true → cond (takes_its_notices kind q) all some ≡ some
kept-notices kind policy.None all some takes = absurd (cc)
kept-notices kind q all some takes = refl

notified-is : (sys : System) (state : Machine) (p : ℕ) (f : Front) → takes_checkpoints (policy_of sys.flow p) ≡ true
    → (covers_in sys state).notified p (At f) ≡ cover (bounds_of sys.flow p) (notified_inside p (node_frontier sys.flow p f) (events state.history))
notified-is sys state p f takes =
    kept-notices (kind_of sys.flow p) (policy_of sys.flow p) (node_frontier sys.flow p f)
    (cover (bounds_of sys.flow p) (notified_inside p (node_frontier sys.flow p f) (events state.history))) takes

discarded-is : (sys : System) (state : Machine) (e : ℕ) (f : Front) → policy_of sys.flow (sender sys.flow e) ≡ policy.Lazy → way_of sys.flow (sender sys.flow e) ≡ Checkpoints
    → (covers_in sys state).discarded e (At f)
    ≡ cover (bounds_of sys.flow (receiver sys.flow e)) (stamps_from (node_frontier sys.flow (sender sys.flow e) f) (sent_messages sys (events state.history) e))
discarded-is sys state e f is way =
    let sent = cover (bounds_of sys.flow (receiver sys.flow e)) (stamps_from (node_frontier sys.flow (sender sys.flow e) f) (sent_messages sys (events state.history) e)) in
    ap (λ q. cond (can_resend q) (λ t. false) (discarded_at sys.flow e (way_of sys.flow (sender sys.flow e)) sent f)) is
    ∙ ap (λ w. discarded_at sys.flow e w sent f) way

-- ---- the events inside

ats-inside : (g : Frontier) (ms : List Message) → map (λ (m : Message). m.at) (messages_inside g ms) ≡ stamps_inside g ms
ats-inside g [] = refl
ats-inside g (m ∷ ms) =
    cond_both (g m.at) (m ∷ messages_inside g ms) (messages_inside g ms)
    (λ ns. map (λ (n : Message). n.at) ns ≡ cond (g m.at) (m.at ∷ stamps_inside g ms) (stamps_inside g ms))
    (λ e. ap (λ ss. m.at ∷ ss) (ats-inside g ms) ∙ sym (ap (λ b. cond b (m.at ∷ stamps_inside g ms) (stamps_inside g ms)) e))
    (λ e. ats-inside g ms ∙ sym (ap (λ b. cond b (m.at ∷ stamps_inside g ms) (stamps_inside g ms)) e))

-- of each that passes all of its stamps pass, and of each other none
picked-alike : {A : Type 0} (pick : A → List Stamp) (test : A → Bool) (g : Frontier) → ((v : A) → test v ≡ true → filter g (pick v) ≡ pick v)
    → ((v : A) → test v ≡ false → filter g (pick v) ≡ []) → (vs : List A) → flat_map pick (filter test vs) ≡ filter g (flat_map pick vs)
picked-alike pick test g on off [] = refl
picked-alike pick test g on off (v ∷ vs) =
    let rest = filter g (flat_map pick vs) in
    let apart = filter-append g (pick v) (flat_map pick vs) in
    cond_both (test v) (v ∷ filter test vs) (filter test vs) (λ ws. flat_map pick ws ≡ filter g (pick v ++ flat_map pick vs))
    (λ e. ap (λ ss. pick v ++ ss) (picked-alike pick test g on off vs) ∙ ap (λ ss. ss ++ rest) (sym (on v e)) ∙ sym apart)
    (λ e. picked-alike pick test g on off vs ∙ ap (λ ss. ss ++ rest) (sym (off v e)) ∙ sym apart)

notice-on : (p : ℕ) (g : Frontier) (v : Event) → g (event_stamp v) ≡ true → filter g (stamp_of_notice p v) ≡ stamp_of_notice p v
notice-on p g (Inject s x) e = refl
notice-on p g (Deliver d m) e = refl
notice-on p g (Notify q t) e =
    cond_both (q == p) (t ∷ []) [] (λ ss. filter g ss ≡ ss) (λ k. ap (λ b. cond b (t ∷ []) []) e) (λ k. refl)

notice-off : (p : ℕ) (g : Frontier) (v : Event) → g (event_stamp v) ≡ false → filter g (stamp_of_notice p v) ≡ []
notice-off p g (Inject s x) e = refl
notice-off p g (Deliver d m) e = refl
notice-off p g (Notify q t) e =
    cond_both (q == p) (t ∷ []) [] (λ ss. filter g ss ≡ []) (λ k. ap (λ b. cond b (t ∷ []) []) e) (λ k. refl)

notices-inside : (p : ℕ) (g : Frontier) (h : List Event) → flat_map (stamp_of_notice p) (events_inside g h) ≡ notified_inside p g h
notices-inside p g h = picked-alike (stamp_of_notice p) (λ v. g (event_stamp v)) g (notice-on p g) (notice-off p g) h

sent-inside : (sys : System) (state : Machine) (e : ℕ) (f : Front) → IsWellFormedSystem sys → IsReached sys state
    → sent_messages sys (events_inside (node_frontier sys.flow (sender sys.flow e) f) (events state.history)) e
    ≡ messages_from (node_frontier sys.flow (sender sys.flow e) f) (sent_messages sys (events state.history) e)
sent-inside sys state e f w r =
    let p = sender sys.flow e in
    let g = node_frontier sys.flow p f in
    let h = events state.history in
    ap (carried sys.flow e) (ap (sent_by sys p) (events_at-kept sys.flow (λ q. g) p h)
    ∙ part-sends sys h w.flow (has_epochs sys w) (reached-all sys w r.0 r.1 state r.2).recover.holds.legal p g (frontier-closed (bounds_of sys.flow p) f))
    ∙ sym (carried-from sys.flow e g (sent_by sys p (events_at sys.flow p h)))

-- ---- the law

delivered-read : (sys : System) (state : Machine) (p d : ℕ) (f : Front) (x : Frontier) → way_of sys.flow p ≡ Checkpoints → receiver sys.flow d ≡ p
    → x ≡ (covers_in sys state).delivered d (At f) → (t : Stamp)
    → x t ≡ cover (bounds_of sys.flow p) (map (λ (m : Message). m.at) (delivered_messages (events_inside (node_frontier sys.flow p f) (events state.history)) d)) t
delivered-read sys state p d f x way r e t =
    let flow = sys.flow in
    let h = events state.history in
    let C : ℕ → List Message → Frontier = λ q ms. cover (bounds_of flow q) (map (λ (m : Message). m.at) ms) in
    let g : ℕ → Frontier = λ q. node_frontier flow q f in
    let q = receiver flow d in
    let mine : delivered_messages (events_inside (g q) h) d ≡ messages_inside (g q) (delivered_messages h d) = delivers-same flow h (λ n. g q) d in
    let all : x ≡ C q (delivered_messages (events_inside (g q) h) d) =
    e ∙ delivered-is sys state d f (ap (way_of flow) r ∙ way) ∙ ap (cover (bounds_of flow q)) (sym (ats-inside (g q) (delivered_messages h d)))
    ∙ ap (C q) (sym mine) in
    ap (λ y. y t) all ∙ ap (λ n. C n (delivered_messages (events_inside (g n) h) d) t) r

sent-read : (sys : System) (state : Machine) (p e : ℕ) (f : Front) (x : Frontier) → IsWellFormedSystem sys → IsReached sys state → policy_of sys.flow p ≡ policy.Lazy
    → way_of sys.flow p ≡ Checkpoints → sender sys.flow e ≡ p → x ≡ (covers_in sys state).discarded e (At f) → (t : Stamp)
    → x t ≡ cover (bounds_of sys.flow (receiver sys.flow e)) (map (λ (m : Message). m.at) (sent_messages sys (events_inside (node_frontier sys.flow p f) (events state.history)) e)) t
sent-read sys state p e f x w r is way s k t =
    let flow = sys.flow in
    let h = events state.history in
    let q = sender flow e in
    let C : List Message → Frontier = λ ms. cover (bounds_of flow (receiver flow e)) (map (λ (m : Message). m.at) ms) in
    let all : x ≡ C (sent_messages sys (events_inside (node_frontier flow q f) h) e) =
    k ∙ discarded-is sys state e f (ap (policy_of flow) s ∙ is) (ap (way_of flow) s ∙ way) ∙ ap C (sym (sent-inside sys state e f w r)) in
    ap (λ y. y t) all ∙ ap (λ n. C (sent_messages sys (events_inside (node_frontier flow n f) h) e) t) s

-- each event of node p among those inside is inside
at-inside : (flow : Dataflow) (p : ℕ) (g : Frontier) (h : List Event) → AllByRecursion (λ v. g (event_stamp v) ≡ true) (events_at flow p (events_inside g h))
at-inside flow p g h =
    subst (AllByRecursion (λ v. g (event_stamp v) ≡ true)) (sym (events_at-kept flow (λ q. g) p h))
    (each-filter (λ v. g (event_stamp v) ≡ true) (λ v. g (event_stamp v)) (events_at flow p h)
    (each-one (λ v. g (event_stamp v) ≡ true → g (event_stamp v) ≡ true) (events_at flow p h) (λ v i. i)))

edge_of : (flow : Dataflow) (d p : ℕ) → receiver flow d ≡ p → p < length flow.nodes → d < length flow.edges
unfolding receiver
edge_of flow d p r l = elim (cases_lt d (length flow.edges)) [
  | inl k ↦ k
  | inr k ↦
      let past = ap (λ (x : Edge). x.receiver) (get_or_past flow.edges d (record { name = []; sender = length flow.nodes; receiver = length flow.nodes }) k) in
      absurd (omega (arith, past, r, l))
]

passed : (g : Frontier) (ss : List Stamp) → AllByRecursion (λ s. g s ≡ true) (filter g ss)
passed g ss = each-filter (λ s. g s ≡ true) g ss (each-one (λ s. g s ≡ true → g s ≡ true) ss (λ s i. i))

-- the greatest of stamps that are what passes of some stand for them
passed-stand : (flow : Dataflow) (p : ℕ) (f : Front) (all some tops : List Stamp) (x : Frontier) → all ≡ filter (node_frontier flow p f) some
    → ((t : Stamp) → x t ≡ cover (bounds_of flow p) all t) → AreGreatestIn (bounds_of flow p) x tops → IsThinned (node_frontier flow p f) all tops
passed-stand flow p f all some tops x e same g =
    let base = node_frontier flow p f in
    let has = subst (AllByRecursion (λ s. base s ≡ true)) (sym e) (passed base some) in
    let of = each-weaker (λ s. base s ≡ true) (λ s. in_domain (bounds_of flow p) s ≡ true) all
    (λ s i. (frontier-closed (bounds_of flow p) f).inside_domain s i) has in
    greatest-stand (bounds_of flow p) base x all tops of has same g

pub received-back : ReceivedStampsAreGotBack
received-back sys state p f r stamps w l takes d n b =
    let flow = sys.flow in
    let h = events state.history in
    let g = node_frontier flow p f in
    let now = events_inside g h in
    let at : Message → Stamp = λ m. m.at in
    let way = checkpoint-way sys p w l takes in
    record {
      delivered = λ c q.
          let there = edge_of flow c p q l in
          passed-stand flow p f (map at (delivered_messages now c)) (map at (delivered_messages h c)) (stamps_on c stamps.delivered) (front_of_edge (bounds_of flow p) c r.delivered)
          (ap (map at) (delivers-same flow h (λ m. g) c) ∙ ats-inside g (delivered_messages h c))
          (delivered-read sys state p c f (front_of_edge (bounds_of flow p) c r.delivered) way q (d c there q)) (b.delivered c there q);
      notified = passed-stand flow p f (flat_map (stamp_of_notice p) now) (flat_map (stamp_of_notice p) h) stamps.notified (node_frontier flow p r.notified) (notices-inside p g h)
          (λ t. ap (λ y. y t) (n ∙ notified-is sys state p f takes ∙ ap (cover (bounds_of flow p)) (sym (notices-inside p g h)))) b.notified;
    }

-- The stamps stand for where a node sent.
record IsSentBack (sys : System) (now : List Event) (p : ℕ) (base : Frontier) (stamps : Stamps) : Type 0 where
  sent : is_single_kind (kind_of sys.flow p) ≡ true → (e : ℕ) → e < length sys.flow.edges → sender sys.flow e ≡ p
      → StandForSent true sys now p base e (counted_on_edge e stamps.sent)
  numbered : is_sequence_kind (kind_of sys.flow p) ≡ true → (e : ℕ) → e < length sys.flow.edges → sender sys.flow e ≡ p → StandForNumbered sys now e stamps.sent

either : (b : Bool) → (b ≡ true) ⊎ (b ≡ false)
either true = inl refl
either false = inr refl

lazy-of : (q : Policy) → takes_checkpoints q ≡ true → not (can_resend q) ≡ true → q ≡ policy.Lazy
lazy-of policy.None takes tells = absurd (cc)
lazy-of policy.Lazy takes tells = refl
lazy-of q takes tells = absurd (cc)

-- of what need not be told any may be missing
none-told : (sys : System) (now : List Event) (p e : ℕ) (sent : List Counted) → sent ≡ [] → StandForSent false sys now p (λ t. true) e (counted_on_edge e sent)
none-told sys now p e sent is =
    subst (λ (ms : List Counted). StandForSent false sys now p (λ t. true) e (counted_on_edge e ms)) (sym is)
    (record {
      of_cause = tt;
      thinned = for-same sys.flow p false (λ t. true) (causes_in (sent_messages sys now e)) []
          (record {
            among = tt;
            outside = each-one (λ t. true ≡ false → Contains [] t) (causes_in (sent_messages sys now e)) (λ t f. absurd (cc));
            inside = λ w. absurd (cc);
          });
    })

-- what a node sent that cannot send it again
sent-back : (sys : System) (state : Machine) (p : ℕ) (f : Front) (r : Recorded) (stamps : Stamps) → IsWellFormedSystem sys → IsReached sys state
    → p < length sys.flow.nodes → policy_of sys.flow p ≡ policy.Lazy → StandForReceived sys.flow (events_inside (node_frontier sys.flow p f) (events state.history)) p (node_frontier sys.flow p f) stamps
    → ((e : ℕ) → e < length sys.flow.edges → sender sys.flow e ≡ p
    → front_of_edge (bounds_of sys.flow (receiver sys.flow e)) e r.discarded ≡ (covers_in sys state).discarded e (At f))
    → ((e : ℕ) → e < length sys.flow.edges → sender sys.flow e ≡ p → IsSentGotBack sys.flow p r stamps e)
    → IsSentBack sys (events_inside (node_frontier sys.flow p f) (events state.history)) p (node_frontier sys.flow p f) stamps
sent-back sys state p f r stamps w reached l lazy received s b =
    let flow = sys.flow in
    let h = events state.history in
    let g = node_frontier flow p f in
    let now = events_inside g h in
    let takes : takes_checkpoints (policy_of flow p) ≡ true = ap takes_checkpoints lazy in
    let way = checkpoint-way sys p w l takes in
    let at : Message → Stamp = λ m. m.at in
    let inside = at-inside flow p g h in
    let of : AreEventsInDomain flow now p =
    each-weaker (λ v. g (event_stamp v) ≡ true) (λ v. in_domain (bounds_of flow p) (event_stamp v) ≡ true) (events_at flow p now)
    (λ v i. (frontier-closed (bounds_of flow p) f).inside_domain (event_stamp v) i) inside in
    let read : (e : ℕ) → e < length flow.edges → sender flow e ≡ p → (t : Stamp)
    → front_of_edge (bounds_of flow (receiver flow e)) e r.discarded t ≡ cover (bounds_of flow (receiver flow e)) (map at (sent_messages sys now e)) t =
    λ e there q. sent-read sys state p e f (front_of_edge (bounds_of flow (receiver flow e)) e r.discarded) w reached lazy way q (s e there q) in
    record {
      sent = λ no e there q.
          let t = (b e there q).told no in
          let stand = greatest_sent-stand sys now e g (front_of_edge (bounds_of flow (receiver flow e)) e r.discarded) t.0 w.flow there (ap (λ x. is_single_kind (kind_of flow x)) q ∙ no)
          (subst (λ x. IsFrontier (bounds_of flow x) g) (sym q) (frontier-closed (bounds_of flow p) f))
          (subst (AreEventsInDomain flow now) (sym q) of) (subst (λ x. AllByRecursion (λ v. g (event_stamp v) ≡ true) (events_at flow x now)) (sym q) inside)
          (read e there q) t.1 in
          subst (λ (ms : List Counted). StandForSent true sys now p g e ms) (sym t.2) (subst (λ x. StandForSent true sys now x g e (map (message_of_told flow e) t.0)) q stand);
      numbered = λ k e there q.
          let bounds = bounds_of flow (receiver flow e) in
          let all = map at (sent_messages sys now e) in
          let legal = (reached-all sys w reached.0 reached.1 state reached.2).recover.holds.legal in
          let same : sent_messages sys now e ≡ messages_from g (sent_messages sys h e) =
          subst (λ x. sent_messages sys (events_inside (node_frontier flow x f) h) e ≡ messages_from (node_frontier flow x f) (sent_messages sys h e)) q (sent-inside sys state e f w reached) in
          let there_all : AllByRecursion (λ t. in_domain bounds t ≡ true) all =
          each-map (λ t. in_domain bounds t ≡ true) at (sent_messages sys now e)
          (subst (AllByRecursion (λ (m : Message). in_domain bounds m.at ≡ true)) (sym same)
          (each-kept (λ (m : Message). in_domain bounds m.at ≡ true) (λ m. all_inside g m.causes) (sent_messages sys h e)
          (each-weaker (λ (m : Message). in_domain (bounds_of_edge flow e) m.at ≡ true) (λ m. in_domain bounds m.at ≡ true) (sent_messages sys h e)
          (λ m i. edge-receiver flow w.flow e m.at i) (legal_messages-in_domain sys h w.flow (has_epochs sys w) legal e)))) in
          greatest-stand bounds (everything bounds) (front_of_edge bounds e r.discarded) all (stamps_on_from e (everything (bounds_of flow (sender flow e))) stamps.sent)
          there_all there_all (read e there q) ((b e there q).numbered k);
    }

pub got-back : StampsAreGotBack
got-back sys state p f r stamps w reached l takes d n s b =
    let flow = sys.flow in
    let h = events state.history in
    let g = node_frontier flow p f in
    let now = events_inside g h in
    let received = received-back sys state p f r stamps w l takes d n b.received in
    let at : Message → Stamp = λ m. m.at in
    let lazy : tells_sent flow p ≡ true → policy_of flow p ≡ policy.Lazy = λ t. lazy-of (policy_of flow p) takes t in
    let back = λ (t : tells_sent flow p ≡ true). sent-back sys state p f r stamps w reached l (lazy t) received s (b.sent t) in
    record {
      on_edges = b.on_edges;
      in_domain = b.received.notified.of_domain;
      delivered = λ c q. whole g (map at (delivered_messages now c)) (stamps_on c stamps.delivered) (received.delivered c q);
      notified = whole g (flat_map (stamp_of_notice p) now) stamps.notified received.notified;
      sent = λ no e there q. elim (either (tells_sent flow p)) [
        | inl t ↦
            subst (λ (tells : Bool). StandForSent (true && tells) sys now p (cond tells g (λ t. true)) e (counted_on_edge e stamps.sent)) (sym t)
            ((back t).sent no e there q)
        | inr t ↦
            subst (λ (tells : Bool). StandForSent (true && tells) sys now p (cond tells g (λ t. true)) e (counted_on_edge e stamps.sent)) (sym t)
            (none-told sys now p e stamps.sent (b.none_sent t))
      ];
      numbered = λ k t e there q. (back t).numbered k e there q;
    }
