-- The inclusions of the low watermark see only the events inside it.
use Rattle.std.proofs.Common.{◌≡◌, ℕ, ◌<◌, ◌≤◌, Bool, true, false, cond, not, ◌&&◌, ◌==◌, List, [], ◌∷◌, ◌++◌, length, filter, map, refl, sym, ap, subst, ◌∙◌, inl, inr, arith}
use Rattle.std.specs.List.{flat_map, AllByRecursion}
use Rattle.std.proofs.lemmas.Bool.{and_parts, and_from, cond_both, cases_Bool, eqb-true, false_from_ne_true}
use Rattle.std.proofs.lemmas.List.{get_or-map, length-map}
use Rattle.std.proofs.lemmas.List.Elements.{filter-append}
use Rattle.fw_lemmas.proofs.Bools.{two_ways, passes-not}
use Rattle.fw_lemmas.proofs.Filters.{filter-in, filter-out, filter-none}
use Rattle.fw_time.specs.Stamp.{Stamp, leq, in_domain}
use Rattle.fw_time.specs.declared.stamp.Bounds.{Bounds}
use Rattle.fw_time.proofs.StampLaws.{leq-trans}
use Rattle.fw_frontier.specs.Frontier.{Frontier, Within, cover}
use Rattle.fw_frontier.specs.Front.{Front, inside, frontier_of}
use Rattle.fw_flow.specs.declared.choice.Cut.{Cut}
use Rattle.fw_flow.specs.declared.choice.Cut.TheVariants.{Present, At}
use Rattle.fw_flow.specs.declared.event.Event.{Event}
use Rattle.fw_flow.specs.declared.event.Event.TheVariants.{Inject, Deliver, Notify}
use Rattle.fw_flow.specs.declared.event.Message.{Message}
use Rattle.fw_flow.specs.Dataflow.{System, Dataflow, sender, receiver, bounds_of, HasEpochs}
use Rattle.fw_flow.specs.NodeFunction.{event_node, event_stamp, sends}
use Rattle.fw_flow.specs.Projection.{events_at, all_inside, phi}
use Rattle.fw_flow.specs.WellFormed.{IsWellFormed}
use Rattle.fw_model.specs.LawsOfPending.{sent_on}
use Rattle.fw_model.specs.Carried.{carried}
use Rattle.fw_model.specs.History.{sent_messages, delivered_messages, IsLegal}
use Rattle.fw_model.specs.Machine.{Machine, events, front_of, ack_count_of}
use Rattle.fw_model.specs.Choice.{kept, until, HasCheckpoint, AllLogged, IsRestorable, IsCandidate, cut_of, kept_of, IsConsistent}
use Rattle.fw_flow.specs.declared.restoring.Restoring.{Restoring}
use Rattle.fw_flow.specs.declared.restoring.Restoring.TheVariants.{Batches, Bound, Anything, Checkpoints, Events}
use Rattle.fw_flow.specs.Restoring.{way_of}
use Rattle.fw_model.specs.Covers.{set_of, stamps_inside, stamps_from, stamp_of_notice, notified_inside, covers_in, tallies_in}
use Rattle.fw_model.proofs.CarriedLaws.{carried-each, sent-more}
use Rattle.fw_model.proofs.StampLaws.{line-leq}
use Rattle.fw_model.proofs.PhiLaws.{phi-longer}
use Rattle.fw_model.proofs.CauseLaws.{outside-sends}
use Rattle.fw_model.proofs.LocalityLaws.{delivers-same, sends-same_within, phi-same}
use Rattle.fw_model.specs.Filtering.{AreFrontiers, kept_events, messages_from, messages_inside}
use Rattle.fw_model.specs.Choosing.{low_choice}
use Rattle.fw_model.proofs.TallyLaws.{delivered_cover-same, discarded_cover-same, notified_cover-same}

-- the frontier that the list has at node p
abbrev pub at_node : System → List Front → ℕ → Frontier
at_node sys low p = frontier_of (bounds_of sys.flow p) (front_of low p)

-- the second history has the events of the first that are inside the fronts, and they send the same
pub record IsSameInside (sys : System) (h k : List Event) (low : List Front) : Type 0 where
  pub deliveries : (d : ℕ) → d < length sys.flow.edges
      → stamps_inside (at_node sys low (receiver sys.flow d)) (delivered_messages k d) ≡ stamps_inside (at_node sys low (receiver sys.flow d)) (delivered_messages h d)
  pub notices : (p : ℕ) → p < length sys.flow.nodes → notified_inside p (at_node sys low p) k ≡ notified_inside p (at_node sys low p) h
  pub sendings : (e : ℕ) → e < length sys.flow.edges
      → stamps_from (at_node sys low (sender sys.flow e)) (sent_messages sys k e) ≡ stamps_from (at_node sys low (sender sys.flow e)) (sent_messages sys h e)
  pub reach : (e : ℕ) → e < length sys.flow.edges → (g : Frontier) → Within g (at_node sys low (sender sys.flow e))
      → Within (phi sys h e g) (phi sys k e g)

pub inside-refl : (sys : System) (h : List Event) (low : List Front) → IsSameInside sys h h low
inside-refl sys h low = record {
  deliveries = λ d l. refl;
  notices = λ p l. refl;
  sendings = λ e l. refl;
  reach = λ e l g w u k. k;
}

-- ---- an event outside

-- an event outside sends nothing from inside
pub sent-outside : (sys : System) (h : List Event) (v : Event) (e : ℕ) (f : Frontier) → (event_node sys.flow v ≡ sender sys.flow e → f (event_stamp v) ≡ false)
    → messages_from f (sent_messages sys (v ∷ h) e) ≡ messages_from f (sent_messages sys h e)
sent-outside sys h v e f out =
    let q = sender sys.flow e in
    let vs = events_at sys.flow q h in
    let from : Message → Bool = λ m. all_inside f m.causes in
    ap (messages_from f) (sent-more sys h v e)
    ∙ filter-append from (sent_on sys h e v) (sent_messages sys h e)
    ∙ ap (λ ms. ms ++ messages_from f (sent_messages sys h e))
    (filter-none from (sent_on sys h e v)
    (cond_both (event_node sys.flow v == q) (carried sys.flow e (sends sys q vs v)) [] (AllByRecursion (λ (m : Message). all_inside f m.causes ≡ false))
    (λ c. carried-each sys.flow e (λ (m : Message). all_inside f m.causes ≡ false) (sends sys q vs v) (outside-sends sys q f vs v (out (eqb-true (event_node sys.flow v) q c))))
    (λ c. tt)))

pub inside-event : (sys : System) (h : List Event) (v : Event) (low : List Front) → IsWellFormed sys.flow
    → ((p : ℕ) → p < length sys.flow.nodes → event_node sys.flow v ≡ p → at_node sys low p (event_stamp v) ≡ false) → IsSameInside sys h (v ∷ h) low
inside-event sys h v low w out = record {
  deliveries = λ d l. delivery d (w.receivers_declared d l) v out;
  notices = λ p l. notice p l v out;
  sendings = λ e l.
      let q = sender sys.flow e in
      ap (map (λ (m : Message). m.at)) (sent-outside sys h v e (at_node sys low q) (out q (w.senders_declared e l)));
  reach = λ e l g i u k. phi-longer sys h (v ∷ []) e g u k;
}
  where
    delivery : (d : ℕ) → receiver sys.flow d < length sys.flow.nodes → (v : Event)
        → ((p : ℕ) → p < length sys.flow.nodes → event_node sys.flow v ≡ p → at_node sys low p (event_stamp v) ≡ false)
        → stamps_inside (at_node sys low (receiver sys.flow d)) (delivered_messages (v ∷ h) d) ≡ stamps_inside (at_node sys low (receiver sys.flow d)) (delivered_messages h d)
    delivery d l (Inject s x) o = refl
    delivery d l (Notify p t) o = refl
    delivery d l (Deliver e m) o =
        let f = at_node sys low (receiver sys.flow d) in
        cond_both (e == d) (m ∷ []) [] (λ ms. stamps_inside f (ms ++ delivered_messages h d) ≡ stamps_inside f (delivered_messages h d))
        (λ c. filter-out f m.at (map (λ (x : Message). x.at) (delivered_messages h d)) (o (receiver sys.flow d) l (ap (receiver sys.flow) (eqb-true e d c))))
        (λ c. refl)

    notice : (p : ℕ) → p < length sys.flow.nodes → (v : Event)
        → ((q : ℕ) → q < length sys.flow.nodes → event_node sys.flow v ≡ q → at_node sys low q (event_stamp v) ≡ false)
        → notified_inside p (at_node sys low p) (v ∷ h) ≡ notified_inside p (at_node sys low p) h
    notice p l (Inject s x) o = refl
    notice p l (Deliver e m) o = refl
    notice p l (Notify q t) o =
        let f = at_node sys low p in
        cond_both (q == p) (t ∷ []) [] (λ ss. filter f (ss ++ flat_map (stamp_of_notice p) h) ≡ filter f (flat_map (stamp_of_notice p) h))
        (λ c. filter-out f t (flat_map (stamp_of_notice p) h) (o p l (eqb-true q p c))) (λ c. refl)

-- ---- what is kept contains the fronts

stamps-kept : (f g : Frontier) → Within f g → (ms : List Message) → stamps_inside f (messages_inside g ms) ≡ stamps_inside f ms
stamps-kept f g w [] = refl
stamps-kept f g w (m ∷ ms) =
    let rest = stamps-kept f g w ms in
    elim (cases_Bool (g m.at)) [
      | inl i ↦ ap (stamps_inside f) (filter-in (λ (x : Message). g x.at) m ms i) ∙ ap (λ ss. cond (f m.at) (m.at ∷ ss) ss) rest
      | inr i ↦ ap (stamps_inside f) (filter-out (λ (x : Message). g x.at) m ms i) ∙ rest
          ∙ sym (filter-out f m.at (map (λ (x : Message). x.at) ms) (passes-not (f m.at) (g m.at) (w m.at) i))
    ]

notices-kept : (flow : Dataflow) (keep : ℕ → Frontier) (p : ℕ) (f : Frontier) → Within f (keep p) → (h : List Event)
    → notified_inside p f (kept_events flow keep h) ≡ notified_inside p f h
notices-kept flow keep p f w [] = refl
notices-kept flow keep p f w (v ∷ h) =
    let rest = notices-kept flow keep p f w h in
    let g = stamp_of_notice p in
    elim (cases_Bool (keep (event_node flow v) (event_stamp v))) [
      | inl i ↦ ap (notified_inside p f) (filter-in (λ x. keep (event_node flow x) (event_stamp x)) v h i)
          ∙ filter-append f (g v) (flat_map g (kept_events flow keep h)) ∙ ap (λ ss. filter f (g v) ++ ss) rest ∙ sym (filter-append f (g v) (flat_map g h))
      | inr i ↦ ap (notified_inside p f) (filter-out (λ x. keep (event_node flow x) (event_stamp x)) v h i) ∙ rest ∙ sym (struck v i)
    ]
  where
    struck : (v : Event) → keep (event_node flow v) (event_stamp v) ≡ false → notified_inside p f (v ∷ h) ≡ notified_inside p f h
    struck (Inject s x) i = refl
    struck (Deliver e m) i = refl
    struck (Notify q t) i =
        let ss = flat_map (stamp_of_notice p) h in
        cond_both (q == p) (t ∷ []) [] (λ zs. filter f (zs ++ ss) ≡ filter f ss)
        (λ c. filter-out f t ss (passes-not (f t) (keep p t) (w t) (ap (λ n. keep n t) (sym (eqb-true q p c)) ∙ i))) (λ c. refl)

pub inside-kept : (sys : System) (h : List Event) (keep : ℕ → Frontier) (low : List Front) → IsWellFormed sys.flow → HasEpochs sys → IsLegal sys h
    → AreFrontiers sys.flow keep → ((p : ℕ) → p < length sys.flow.nodes → Within (at_node sys low p) (keep p))
    → IsSameInside sys h (kept_events sys.flow keep h) low
inside-kept sys h keep low w b l fr within = record {
  deliveries = λ d i.
      let r = receiver sys.flow d in
      ap (stamps_inside (at_node sys low r)) (delivers-same sys.flow h keep d)
      ∙ stamps-kept (at_node sys low r) (keep r) (within r (w.receivers_declared d i)) (delivered_messages h d);
  notices = λ p i. notices-kept sys.flow keep p (at_node sys low p) (within p i) h;
  sendings = λ e i.
      let q = sender sys.flow e in
      ap (map (λ (m : Message). m.at)) (sends-same_within sys h keep w b l fr e (at_node sys low q) (within q (w.senders_declared e i)));
  reach = λ e i g v u k.
      phi-same sys h keep w b l fr e g (λ t j. within (sender sys.flow e) (w.senders_declared e i) t (v t j)) u ∙ k;
}

-- ---- the low watermark stays a consistent choice

-- the low watermark is a consistent choice with these notification frontiers, where every node counts as failed, among what is kept
abbrev pub IsLowConsistent : System → Machine → List Front → Type 0
IsLowConsistent sys state notices = IsConsistent sys state (IsCandidate sys state (λ p. true) kept) (low_choice state notices)

pub low_length : (sys : System) (state : Machine) (notices : List Front) → IsLowConsistent sys state notices → length state.low ≡ length sys.flow.nodes
low_length sys state notices c = sym (length-map state.low (λ f. At f)) ∙ c.one_cut_each

pub low_cut : (state : Machine) (notices : List Front) (p : ℕ) → p < length state.low → cut_of (low_choice state notices) p ≡ At (front_of state.low p)
low_cut state notices p l = get_or-map (λ f. At f) state.low p [] Present l

-- node p offers it
pub low-offered : (sys : System) (state : Machine) (notices : List Front) → IsLowConsistent sys state notices → (p : ℕ) → p < length sys.flow.nodes
    → IsCandidate sys state (λ q. true) kept p (At (front_of state.low p))
low-offered sys state notices c p l =
    subst (λ x. IsCandidate sys state (λ q. true) kept p x) (low_cut state notices p (omega (arith, low_length sys state notices c))) (c.offered p l)

pub delivered-same : (sys : System) (state next : Machine) (d : ℕ) (f : Front)
    → (let b = bounds_of sys.flow (receiver sys.flow d) in stamps_inside (frontier_of b f) (delivered_messages (events next.history) d) ≡ stamps_inside (frontier_of b f) (delivered_messages (events state.history) d))
    → (covers_in sys next).delivered d (At f) ≡ (covers_in sys state).delivered d (At f)
delivered-same sys state next d f e =
    delivered_cover-same sys.flow (tallies_in sys next) (tallies_in sys state) d (At f) (ap (λ ss. cover (bounds_of sys.flow (receiver sys.flow d)) ss) e)

pub notified-same : (sys : System) (state next : Machine) (p : ℕ) (f : Front)
    → notified_inside p (frontier_of (bounds_of sys.flow p) f) (events next.history) ≡ notified_inside p (frontier_of (bounds_of sys.flow p) f) (events state.history)
    → (covers_in sys next).notified p (At f) ≡ (covers_in sys state).notified p (At f)
notified-same sys state next p f e =
    notified_cover-same sys.flow (tallies_in sys next) (tallies_in sys state) p (At f) (ap (λ ss. cover (bounds_of sys.flow p) ss) e)

pub discarded-same : (sys : System) (state next : Machine) (e : ℕ) (f : Front)
    → (let g = frontier_of (bounds_of sys.flow (sender sys.flow e)) f in stamps_from g (sent_messages sys (events next.history) e) ≡ stamps_from g (sent_messages sys (events state.history) e))
    → (covers_in sys next).discarded e (At f) ≡ (covers_in sys state).discarded e (At f)
discarded-same sys state next e f same =
    discarded_cover-same sys.flow (tallies_in sys next) (tallies_in sys state) e (At f) (ap (λ ss. cover (bounds_of sys.flow (receiver sys.flow e)) ss) same)

-- a value at two cuts that are one
at-cut : (f g : Cut → Frontier) (cut low : Cut) → cut ≡ low → f low ≡ g low → (t : Stamp) → f cut t ≡ true → g cut t ≡ true
at-cut f g cut low e same t k = ap (λ c. g c t) e ∙ sym (ap (λ h. h t) same) ∙ sym (ap (λ c. f c t) e) ∙ k

low-moves_at : (sys : System) (state next : Machine) (notices : List Front) → IsWellFormed sys.flow
    → IsSameInside sys (events state.history) (events next.history) state.low
    → ((p : ℕ) → p < length sys.flow.nodes → IsCandidate sys next (λ q. true) kept p (At (front_of state.low p)))
    → IsLowConsistent sys state notices → IsConsistent sys next (IsCandidate sys next (λ p. true) kept) (low_choice state notices)
low-moves_at sys state next notices w same offered c =
    let choice = low_choice state notices in
    let long = low_length sys state notices c in
    let cut : (p : ℕ) → p < length sys.flow.nodes → cut_of choice p ≡ At (front_of state.low p) = λ p l. low_cut state notices p (omega (arith, long)) in
    let lies : (p : ℕ) → p < length sys.flow.nodes → Within (kept_of sys.flow choice p) (at_node sys state.low p) = λ p l t k. sym (ap (λ x. set_of sys.flow p x t) (cut p l)) ∙ k in
    record {
      one_cut_each = c.one_cut_each;
      one_notice_each = c.one_notice_each;
      offered = λ p l. subst (λ x. IsCandidate sys next (λ q. true) kept p x) (sym (cut p l)) (offered p l);
      canonical = c.canonical;
      delivered = λ d l t k.
          let r = receiver sys.flow d in
          let q = sender sys.flow d in
          let m = w.receivers_declared d l in
          same.reach d l (kept_of sys.flow choice q) (lies q (w.senders_declared d l)) t
          (c.delivered d l t (at-cut ((covers_in sys next).delivered d) ((covers_in sys state).delivered d) (cut_of choice r) (At (front_of state.low r)) (cut r m)
          (delivered-same sys state next d (front_of state.low r) (same.deliveries d l)) t k));
      discarded = λ e l t k.
          let q = sender sys.flow e in
          c.discarded e l t (at-cut ((covers_in sys next).discarded e) ((covers_in sys state).discarded e) (cut_of choice q) (At (front_of state.low q)) (cut q (w.senders_declared e l))
          (discarded-same sys state next e (front_of state.low q) (same.sendings e l)) t k);
      notified = λ p l t k.
          c.notified p l t (at-cut ((covers_in sys next).notified p) ((covers_in sys state).notified p) (cut_of choice p) (At (front_of state.low p)) (cut p l)
          (notified-same sys state next p (front_of state.low p) (same.notices p l)) t k);
      own = c.own;
      notices = λ d l t k.
          let q = sender sys.flow d in
          let m = w.senders_declared d l in
          same.reach d l (frontier_of (bounds_of sys.flow q) (front_of notices q)) (λ s i. lies q m s (c.own q m s i)) t (c.notices d l t k);
    }

-- what restores a node to the frontier does so in the next state
pub record Keeps (sys : System) (state next : Machine) (p : ℕ) (f : Front) : Type 0 where
  pub batches : way_of sys.flow p ≡ Batches → IsRestorable sys state kept p Batches f
      → IsRestorable sys next kept p Batches f
  pub settled : Within (frontier_of (bounds_of sys.flow p) f) (at_node sys state.settled p) → Within (frontier_of (bounds_of sys.flow p) f) (at_node sys next.settled p)
  pub bound : ack_count_of state p ≤ ack_count_of next p
  pub checkpoints : HasCheckpoint kept p f state.writes → HasCheckpoint kept p f next.writes
  pub logs : AllLogged sys p (frontier_of (bounds_of sys.flow p) f) state.writes state.history
      → AllLogged sys p (frontier_of (bounds_of sys.flow p) f) next.writes next.history

-- more epochs are below a greater one
pub until-more : (b : Bounds) (m n : ℕ) → m ≤ n → Within (frontier_of b (until m)) (frontier_of b (until n))
until-more b m n l t i =
    let a = and_parts (in_domain b t) (inside (until m) t) i in
    and_from (in_domain b t) (inside (until n) t) a.0
    (and_from (not (leq (n ∷ []) t)) true
    (ap not (false_from_ne_true (leq (n ∷ []) t) (λ k.
    two_ways (inside (until m) t) a.1 (ap (λ c. not c && true) (leq-trans (m ∷ []) (n ∷ []) t (line-leq m n l) k))))) refl)

restorable-stays : (sys : System) (state next : Machine) (p : ℕ) (way : Restoring) (f : Front) → way_of sys.flow p ≡ way
    → Keeps sys state next p f → IsRestorable sys state kept p way f → IsRestorable sys next kept p way f
restorable-stays sys state next p Batches f e k a = k.batches e a
restorable-stays sys state next p Bound f e k a =
    (k.settled a.0, λ t i. until-more (bounds_of sys.flow p) (ack_count_of state p) (ack_count_of next p) k.bound t (a.1 t i))
restorable-stays sys state next p Anything f e k a = k.settled a
restorable-stays sys state next p Checkpoints f e k a = elim a [ inl n ↦ inl n | inr c ↦ inr (k.checkpoints c) ]
restorable-stays sys state next p Events f e k a = (k.settled a.0, k.logs a.1)

pub low-stays : (sys : System) (state next : Machine) (notices : List Front) → IsWellFormed sys.flow → next.low ≡ state.low
    → IsSameInside sys (events state.history) (events next.history) state.low
    → ((p : ℕ) → p < length sys.flow.nodes → Keeps sys state next p (front_of state.low p))
    → IsLowConsistent sys state notices → IsLowConsistent sys next notices
low-stays sys state next notices w low same keeps c =
    subst (λ (fs : List Front). IsConsistent sys next (IsCandidate sys next (λ p. true) kept) (record { cuts = map (λ f. At f) fs; notices = notices })) (sym low)
    (low-moves_at sys state next notices w same
    (λ p l.
    let a = low-offered sys state notices c p l in (
      a.0,
      restorable-stays sys state next p (way_of sys.flow p) (front_of state.low p) refl (keeps p l) a.1,
      λ t i. sym (ap (λ fs. at_node sys fs p t) low) ∙ i,
    )) c)
