-- In each state of a run what was collected is what is forgotten, whichever checkpoints are whole.
use Rattle.std.proofs.Common.{◌≡◌, ◌↔◌, ◌⊎◌, ℕ, ◌<◌, ◌≤◌, Bool, true, false, not, ◌&&◌, ◌==◌, cond, List, [], ◌∷◌, ◌++◌, length, filter, map, refl, sym, ap, subst, ◌∙◌, inl, inr, append_assoc, arith}
use Rattle.std.specs.List.{AllByRecursion}
use Rattle.std.proofs.lemmas.Bool.{and_parts, cond_both, cases_lt, not-true, eqb-true, false_from_ne_true}
use Rattle.fw_lemmas.proofs.Bools.{two_ways}
use Rattle.fw_lemmas.proofs.Each.{each-weaker, each-one, each-append, each-suffix, each-map, each_of-map, each-passed, each-replaced}
use Rattle.fw_frontier.specs.Frontier.{Within}
use Rattle.fw_frontier.specs.Front.{Front, frontier_of, IsCanonical, is_within, same_front}
use Rattle.fw_frontier.proofs.NamesLaws.{within-is}
use Rattle.fw_flow.specs.declared.choice.Choice.{Choice}
use Rattle.fw_flow.specs.declared.choice.Cut.{Cut}
use Rattle.fw_flow.specs.declared.choice.Cut.TheVariants.{Present, At}
use Rattle.fw_flow.specs.declared.event.Event.{Event}
use Rattle.fw_flow.specs.declared.event.Event.TheVariants.{Inject as Injected, Deliver as Delivered, Notify as Notified}
use Rattle.fw_flow.specs.declared.kind.Policy.{Policy}
use Rattle.fw_flow.specs.declared.kind.Policy.TheVariants as policy
use Rattle.fw_flow.specs.declared.step.Step.{Step}
use Rattle.fw_flow.specs.declared.step.Step.TheVariants.{Inject, Deliver, Notify, Progress as ProgressStep, Checkpoint, Persist, Fail, Recover, Collect, Ack}
use Rattle.fw_flow.specs.Dataflow.{System, policy_of, kind_of, receiver, bounds_of, node_ids, node_frontier, is_one_of}
use Rattle.fw_flow.specs.NodeFunction.{event_node, event_stamp}
use Rattle.fw_flow.specs.WellFormed.{IsWellFormed, IsWellFormedSystem}
use Rattle.fw_model.specs.Covers.{set_of}
use Rattle.fw_model.specs.History.{IsEnabled}
use Rattle.fw_model.specs.Machine.{Machine, SerialEvent, Write, Written, checkpoint, logged_event, Stage, in_flight, acknowledged, collected, events, first_state, front_of, is_failed}
use Rattle.fw_model.specs.Choice.{kept, IsCandidate, IsRestorable, IsWatermark, cut_of, kept_of, filtered_history}
use Rattle.fw_model.specs.LawsOfChains.{Link, link_of}
use Rattle.fw_model.specs.LawsOfRestoring.{CollectedIsWhatLiesBelow}
use Rattle.fw_model.specs.Steps.{Effect, Outcome, did, idle, LeadsTo, Run, write_of_event, checkpoint_of, is_eager, is_in_flight, is_kept_write, front_of_cut, lies_below, is_forgotten, after_collection, collected_writes, is_serial_given_up}
use Rattle.fw_model.proofs.WriteLaws.{HoldsOfOne, some-weaker, IsCheckpointAt, IsItsCheckpoint, some-checkpoint, LiesBelow, AreAscending}
use Rattle.fw_model.proofs.SameInsideLaws.{at_node, low-offered}
use Rattle.fw_model.proofs.LowLaws.{not_both, none-within, event-outside}
use Rattle.fw_model.proofs.ChoosingLaws.{settled_writes}
use Rattle.fw_model.proofs.AskedLaws.{takes-declared, takes-restoring, IsAskedWell, IsWriteAskedWell, low-grows, CanRecoverAndRestore, took-reached, first-reached}
use Rattle.fw_model.proofs.RestoringLaws.{full-reached, full-declared, low-kept}
use Rattle.fw_model.proofs.ForgottenLaws.{AreInOrder, took-order, some-find, below-each, later-below, new-not_below, settled-not_below, kept-below, below-grows, exact-new, offered-low}
use Rattle.fw_model.proofs.BelowLaws.{forgotten-below}
use Rattle.fw_model.proofs.ChainLaws.{link_at, KeepsFirst, is_left, failed-first, recovered-first, HasChain, took-chain}
use Rattle.fw_model.proofs.SpanLaws.{IsFailing, IsKeptStop}
use Rattle.fw_model.proofs.StandingLaws.{IsWholeIfLogged, pairs-before, each-from}
use Rattle.fw_model.proofs.GoneLaws.{strictly, gone_before, gone-below, forgotten-gone, IsGoneExact, AreGoneExact, by-same, WithLater, HasKeptStop, exact-more, exact-first, exact-replaced, exact-collected}

-- ---- the checkpoint at the watermark stands after each one that lies below

some-split : {A : Type 0} (P : A → Type 0) (xs : List A) (x : A) (ys : List A) → HoldsOfOne P (xs ++ x ∷ ys) → HoldsOfOne P xs ⊎ (P x ⊎ HoldsOfOne P ys)
some-split P [] x ys h = inr h
some-split P (z ∷ xs) x ys (inl h) = inl (inl h)
some-split P (z ∷ xs) x ys (inr h) = elim (some-split P xs x ys h) [ inl a ↦ inl (inr a) | inr a ↦ inr a ]

not_strictly : (low : List Front) (p : ℕ) (g : Front) → g ≡ front_of low p → strictly low p g ≡ false
not_strictly low p g e = ap (strictly low p) e ∙ not_both (is_within (front_of low p) (front_of low p))

front-at : (p : ℕ) (f : Front) (n : ℕ) (w : Written) (far : Stage) → IsCheckpointAt kept p f n w far → (g : Front) (l : List Front) → w ≡ checkpoint g l → g ≡ f
front-at p f n (checkpoint k m) far a g l e = sym (front-is (checkpoint k m) e) ∙ a.1
  where
    front_in : Written → Front
    front_in (checkpoint k m) = k
    front_in (logged_event s) = []

    front-is : (w : Written) → w ≡ checkpoint g l → front_in w ≡ g
    front-is w e = ap front_in e
front-at p f n (logged_event s) far a g l e = absurd a

fails-at : (low : List Front) (p n : ℕ) (w : Written) (far : Stage) → IsCheckpointAt kept p (front_of low p) n w far → (n ≡ p) × IsFailing (strictly low p) w
fails-at low p n (checkpoint g l) far a = (a.0, not_strictly low p g a.1)
fails-at low p n (logged_event s) far a = absurd a

before-low : (sys : System) (p : ℕ) (f g : Front) (l : List Front) (n : ℕ) (w : Written) (far : Stage) → p < length sys.flow.nodes → LiesBelow sys n w p (checkpoint g l)
    → IsCheckpointAt kept p f n w far → Within (frontier_of (bounds_of sys.flow p) f) (frontier_of (bounds_of sys.flow p) g)
before-low sys p f g l n (checkpoint x m) far i b a =
    subst (λ z. Within (frontier_of (bounds_of sys.flow p) z) (frontier_of (bounds_of sys.flow p) g)) a.1
    (subst (λ q. q < length sys.flow.nodes → Within (frontier_of (bounds_of sys.flow q) x) (frontier_of (bounds_of sys.flow q) g)) a.0 (b a.0) i)
before-low sys p f g l n (logged_event s) far i b a = absurd a

-- what is kept at the watermark
abbrev KeepsLow : System → Machine → (Write → Bool) → Type 0
KeepsLow sys state keep = (p : ℕ) → p < length sys.flow.nodes → (y : Write) → IsItsCheckpoint kept p (front_of state.low p) y → keep y ≡ true

has-stop : (sys : System) → IsWellFormed sys.flow → (state : Machine) → CanRecoverAndRestore sys state → (keep : Write → Bool) → KeepsLow sys state keep
    → (xs : List Write) (x : Write) (ys : List Write) → state.writes ≡ xs ++ x ∷ ys → HasKeptStop state.low keep x ys
has-stop sys w state f keep keeps xs x ys e g l i below =
    let p = x.node in
    let b = bounds_of sys.flow p in
    let low = front_of state.low p in
    let W : Write → Type 0 = IsWriteAskedWell sys state.low state.next state.history in
    let asked = subst (λ v. IsAskedWell sys state.low state.next state.history p v x.stage) i (each-suffix W xs (x ∷ ys) (subst (AllByRecursion W) e f.restore.asked)).0 in
    let d = takes-declared sys.flow p asked.0 in
    let way = takes-restoring (kind_of sys.flow p) (policy_of sys.flow p) (w.policies p d) asked.0 in
    let outside = not-true (is_within low g) (and_parts (is_within g low) (not (is_within low g)) below).1 in
    let never : Within (frontier_of b low) (frontier_of b g) → ⊥ = λ v. two_ways (is_within low g) (within-is b low g asked.1 v) outside in
    let P : Write → Type 0 = IsItsCheckpoint kept p low in
    elim (subst (λ r. IsRestorable sys state kept p r low) way (low-offered sys state f.recover.notices f.recover.watermark p d).1) [
      | inl none ↦ absurd (never (λ t k. none-within b (frontier_of b g) t (ap (λ os. frontier_of b os t) (sym none) ∙ k)))
      | inr has ↦ elim (some-split P xs x ys (subst (HoldsOfOne P) e (some-checkpoint kept p low state.writes has))) [
        | inl earlier ↦
            let z = some-find P (λ (y : Write). LiesBelow sys y.node y.written x.node x.written) xs earlier
            (pairs-before (LiesBelow sys) xs x ys (subst (AreAscending sys) e f.recover.ascend)) in
            absurd (never (before-low sys p low g l z.0.node z.0.written z.0.stage d (subst (LiesBelow sys z.0.node z.0.written p) i z.2) z.1))
        | inr rest ↦ elim rest [
          | inl own ↦ absurd (two_ways (strictly state.low p g) below (not_strictly state.low p g (front-at p low x.node x.written x.stage own g l i)))
          | inr later ↦
              some-weaker P (IsKeptStop p (strictly state.low p) keep) ys (λ y a. (fails-at state.low p y.node y.written y.stage a, keeps p d y a)) later
        ]
      ]
    ]

later-from : (P : Write → List Write → Type 0) (all before rest : List Write) → all ≡ before ++ rest → ((xs : List Write) (x : Write) (ys : List Write) → all ≡ xs ++ x ∷ ys → P x ys)
    → WithLater P rest
later-from P all before [] e k = tt
later-from P all before (x ∷ ys) e k = (k before x ys e, later-from P all (before ++ x ∷ []) ys (e ∙ sym (append_assoc before (x ∷ []) ys)) k)

have-stops : (sys : System) → IsWellFormed sys.flow → (state : Machine) → CanRecoverAndRestore sys state → (keep : Write → Bool) → KeepsLow sys state keep
    → WithLater (HasKeptStop state.low keep) state.writes
have-stops sys w state f keep keeps = later-from (HasKeptStop state.low keep) state.writes [] state.writes refl (has-stop sys w state f keep keeps)

-- ---- logged events are whole

logged-event : (asks : Policy) (p serial : ℕ) → AllByRecursion IsWholeIfLogged (write_of_event asks p serial)
logged-event policy.Full p serial = ((λ s e. refl), tt)
logged-event asks p serial = tt

abbrev pub HasLogged : Machine → Type 0
HasLogged state = AllByRecursion IsWholeIfLogged state.writes

logged-asked : (state : Machine) (settled : List Front) (ps : List ℕ) → AllByRecursion IsWholeIfLogged (settled_writes state settled ps)
logged-asked state settled ps = each-map IsWholeIfLogged (λ p. checkpoint_of state p (front_of settled p)) ps (each-one (λ p. IsWholeIfLogged (checkpoint_of state p (front_of settled p))) ps (λ p s e. absurd cc))

took-logged : (sys : System) (state : Machine) (step : Step) (next : Machine) (effect : Effect) → LeadsTo sys state step next effect → HasLogged state → HasLogged next
took-logged sys state (Inject s) next effect t a =
    subst HasLogged (sym t.3) (each-append IsWholeIfLogged state.writes (write_of_event (policy_of sys.flow s) s state.next) a (logged-event (policy_of sys.flow s) s state.next))
took-logged sys state (Deliver e at) next effect t a =
    let r = receiver sys.flow e in
    subst HasLogged (sym t.3) (each-append IsWholeIfLogged state.writes (write_of_event (policy_of sys.flow r) r state.next) a (logged-event (policy_of sys.flow r) r state.next))
took-logged sys state (Notify p at) next effect t a =
    subst HasLogged (sym t.3) (each-append IsWholeIfLogged state.writes (write_of_event (policy_of sys.flow p) p state.next) a (logged-event (policy_of sys.flow p) p state.next))
took-logged sys state ProgressStep next effect t a =
    let settled = t.1 in
    let ps = filter (λ p. is_eager (policy_of sys.flow p) && not (same_front (front_of state.settled p) (front_of settled p))) (node_ids sys.flow) in
    subst HasLogged (sym t.3) (each-append IsWholeIfLogged state.writes (settled_writes state settled ps) a (logged-asked state settled ps))
took-logged sys state (Checkpoint p) next effect t a =
    subst HasLogged (sym t.3) (each-append IsWholeIfLogged state.writes (settled_writes state state.settled (p ∷ [])) a (logged-asked state state.settled (p ∷ [])))
took-logged sys state Persist next effect t a =
    let k = t.1 in
    subst HasLogged (sym t.2)
    (subst (AllByRecursion IsWholeIfLogged) (sym k.after)
    (each-replaced IsWholeIfLogged k.earlier k.oldest (record k.oldest { stage = acknowledged }) k.later (λ b. b) (subst (AllByRecursion IsWholeIfLogged) k.before a)))
took-logged sys state (Fail ps) next effect t a = subst HasLogged (sym t.4) (each-passed IsWholeIfLogged IsWholeIfLogged (is_left ps) state.writes (λ x k b. b) a)
took-logged sys state Recover next effect t a =
    subst HasLogged (sym t.7)
    (each-passed IsWholeIfLogged IsWholeIfLogged (λ write. is_kept_write (cut_of t.1 write.node) write.written (filtered_history sys t.1 state.history)) state.writes (λ x k b. b) a)
took-logged sys state Collect next effect t a =
    let low = map front_of_cut t.0.cuts in
    subst HasLogged (sym t.3)
    (each-map IsWholeIfLogged (λ (x : Write). record x { stage = after_collection (is_forgotten sys low state.history state.writes x) x.stage }) state.writes a)
took-logged sys state (Ack o) next effect t a = subst HasLogged (sym t.2) a

-- ---- steps

-- what of a state the law rests on
pub record CanForget (sys : System) (state : Machine) : Type 0 where
  pub reached : CanRecoverAndRestore sys state
  pub order : AreInOrder state.writes
  pub chain : (p : ℕ) → p < length sys.flow.nodes → HasChain p state
  pub logged : HasLogged state
  pub exact : AreGoneExact sys state.low state.history state.writes

exact-history : (sys : System) (low : List Front) (h k : List SerialEvent) (xs : List Write)
    → AllByRecursion (λ (x : Write). lies_below sys low k x.node x.written ≡ lies_below sys low h x.node x.written) xs → AreGoneExact sys low h xs → AreGoneExact sys low k xs
exact-history sys low h k [] same a = tt
exact-history sys low h k (x ∷ xs) same a =
    (by-same x.stage (gone_before sys low h x.node x.written xs) (gone_before sys low k x.node x.written xs) (by x.written same.0) a.0, exact-history sys low h k xs same.1 a.1)
  where
    by : (w : Written) → lies_below sys low k x.node w ≡ lies_below sys low h x.node w → gone_before sys low k x.node w xs ≡ gone_before sys low h x.node w xs
    by (checkpoint g l) i = refl
    by (logged_event s) i = i

any-kept : (sys : System) (state : Machine) → KeepsLow sys state (λ y. true)
any-kept sys state p i y a = refl

gone-event : (sys : System) → IsWellFormedSystem sys → (state : Machine) (v : Event) → IsEnabled sys (events state.history) v → CanForget sys state
    → AreGoneExact sys state.low (record { serial = state.next; event = v } ∷ state.history)
    (state.writes ++ write_of_event (policy_of sys.flow (event_node sys.flow v)) (event_node sys.flow v) state.next)
gone-event sys w state v k c =
    let p = event_node sys.flow v in
    let f = c.reached in
    let now : SerialEvent = record { serial = state.next; event = v } in
    exact-more sys state.low (now ∷ state.history) (λ y. true) state.writes (write_of_event (policy_of sys.flow p) p state.next)
    (have-stops sys w.flow state f (λ y. true) (any-kept sys state))
    (exact-history sys state.low state.history (now ∷ state.history) state.writes
    (each-weaker (IsWriteAskedWell sys state.low state.next state.history)
    (λ (x : Write). lies_below sys state.low (now ∷ state.history) x.node x.written ≡ lies_below sys state.low state.history x.node x.written) state.writes
    (λ x b. later-below sys state.low now state.history x.node x.written x.stage b) f.restore.asked) c.exact)
    (asked (policy_of sys.flow p) refl
    (λ full. event-outside sys state f.recover.notices v w.flow (full-reached sys state w f) f.recover.lie_settled f.recover.watermark k p (full-declared sys.flow p full) refl))
  where
    asked : (pol : Policy) → policy_of sys.flow (event_node sys.flow v) ≡ pol
        → (policy_of sys.flow (event_node sys.flow v) ≡ policy.Full → at_node sys state.low (event_node sys.flow v) (event_stamp v) ≡ false)
        → AreGoneExact sys state.low (record { serial = state.next; event = v } ∷ state.history) (write_of_event pol (event_node sys.flow v) state.next)
    asked policy.Full e out =
        (exact-new _ (new-not_below sys state.low (record { serial = state.next; event = v }) state.history c.reached.restore.serials (out e) (event_node sys.flow v)), tt)
    asked pol e out = tt

gone-asked : (sys : System) → IsWellFormed sys.flow → (state next : Machine) (settled : List Front) (ps : List ℕ) → CanRecoverAndRestore sys next
    → next ≡ record state { settled = settled; writes = state.writes ++ settled_writes state settled ps } → CanForget sys state
    → AreGoneExact sys state.low state.history (state.writes ++ settled_writes state settled ps)
gone-asked sys w state next settled ps g e c =
    let now : Machine = record state { settled = settled; writes = state.writes ++ settled_writes state settled ps } in
    let f : CanRecoverAndRestore sys now = subst (CanRecoverAndRestore sys) e g in
    let asks : ℕ → Write = λ p. checkpoint_of state p (front_of settled p) in
    let W : Write → Type 0 = IsWriteAskedWell sys state.low state.next state.history in
    let more = each_of-map W asks ps (each-suffix W state.writes (settled_writes state settled ps) f.restore.asked) in
    exact-more sys state.low state.history (λ y. true) state.writes (settled_writes state settled ps) (have-stops sys w state c.reached (λ y. true) (any-kept sys state)) c.exact
    (new ps more f)
  where
    new : (qs : List ℕ) → AllByRecursion (λ q. IsWriteAskedWell sys state.low state.next state.history (checkpoint_of state q (front_of settled q))) qs
        → CanRecoverAndRestore sys (record state { settled = settled; writes = state.writes ++ settled_writes state settled ps })
        → AreGoneExact sys state.low state.history (settled_writes state settled qs)
    new [] more f = tt
    new (q ∷ qs) more f = (
      exact-new _ (λ k. settled-not_below sys w (record state { settled = settled; writes = state.writes ++ settled_writes state settled ps }) f q state.low in_flight more.0
          (gone-below sys state.low state.history q (checkpoint (front_of settled q) state.low) (settled_writes state settled qs) k)),
      new qs more.1 f,
    )

far-acknowledged : (far : Stage) → is_in_flight far ≡ true → (b : Bool) → (far ≡ collected) ↔ (b ≡ true) → (acknowledged ≡ collected) ↔ (b ≡ true)
far-acknowledged in_flight i b a = (λ c. absurd (cc c), λ k. let c = a.1 k in absurd (cc c))
far-acknowledged acknowledged i b a = a
far-acknowledged collected i b a = absurd (cc)

kept-lands : (p : ℕ) (f : Front) (n : ℕ) (w : Written) (far : Stage) → IsCheckpointAt kept p f n w far → is_in_flight far ≡ false
kept-lands p f n (checkpoint g l) in_flight a = absurd (let c = a.2 in cc)
kept-lands p f n (checkpoint g l) acknowledged a = refl
kept-lands p f n (checkpoint g l) collected a = refl
kept-lands p f n (logged_event s) far a = absurd a

gone-failed : (sys : System) → IsWellFormed sys.flow → (state : Machine) (ps : List ℕ) → CanForget sys state → AreGoneExact sys state.low state.history (filter (is_left ps) state.writes)
gone-failed sys w state ps c =
    exact-first sys state.low state.history state.history (is_left ps) state.writes (λ p. failed-first p ps state.writes c.order)
    (have-stops sys w state c.reached (is_left ps)
    (λ p i y a. ap not (ap (λ b. is_one_of y.node ps && b) (kept-lands p (front_of state.low p) y.node y.written y.stage a) ∙ and-never (is_one_of y.node ps))))
    (each-one (λ (x : Write). lies_below sys state.low state.history x.node x.written ≡ lies_below sys state.low state.history x.node x.written) state.writes (λ x. refl)) c.exact
  where
    and-never : (b : Bool) → (b && false) ≡ false
    and-never true = refl
    and-never false = refl

low-is_kept : (sys : System) (p : ℕ) (low : Front) (cut : Cut) (h : List SerialEvent) (n : ℕ) (w : Written) (far : Stage)
    → ((g : Front) → cut ≡ At g → IsCanonical (bounds_of sys.flow p) g) → Within (node_frontier sys.flow p low) (set_of sys.flow p cut)
    → IsCheckpointAt kept p low n w far → is_kept_write cut w h ≡ true
low-is_kept sys p low Present h n (checkpoint g l) far canonical within a = refl
low-is_kept sys p low (At f) h n (checkpoint g l) far canonical within a =
    ap (λ z. is_within z f) a.1 ∙ within-is (bounds_of sys.flow p) low f (canonical f refl) within
low-is_kept sys p low cut h n (logged_event s) far canonical within a = absurd a

gone-recovered : (sys : System) → IsWellFormed sys.flow → (state : Machine) (choice : Choice) → ((p : ℕ) → p < length sys.flow.nodes → (g : Front) → cut_of choice p ≡ At g → IsCanonical (bounds_of sys.flow p) g)
    → ((p : ℕ) → p < length sys.flow.nodes → Within (at_node sys state.low p) (kept_of sys.flow choice p)) → CanForget sys state
    → ((p : ℕ) → KeepsFirst p (λ write. is_kept_write (cut_of choice write.node) write.written (filtered_history sys choice state.history)) state.writes)
    → AreGoneExact sys state.low (filtered_history sys choice state.history)
    (filter (λ write. is_kept_write (cut_of choice write.node) write.written (filtered_history sys choice state.history)) state.writes)
gone-recovered sys w state choice canonical within c first =
    let h = filtered_history sys choice state.history in
    let keep : Write → Bool = λ write. is_kept_write (cut_of choice write.node) write.written h in
    exact-first sys state.low state.history h keep state.writes first
    (have-stops sys w state c.reached keep
    (λ p i y a.
    subst (λ q. is_kept_write (cut_of choice q) y.written h ≡ true) (sym (node-at p (front_of state.low p) y.node y.written y.stage a))
    (low-is_kept sys p (front_of state.low p) (cut_of choice p) h y.node y.written y.stage (canonical p i) (within p i) a)))
    (each-weaker (IsWriteAskedWell sys state.low state.next state.history)
    (λ (x : Write). lies_below sys state.low h x.node x.written ≡ lies_below sys state.low state.history x.node x.written) state.writes
    (λ x b. kept-below sys state choice within x.node x.written x.stage b) c.reached.restore.asked) c.exact
  where
    node-at : (p : ℕ) (f : Front) (n : ℕ) (v : Written) (far : Stage) → IsCheckpointAt kept p f n v far → n ≡ p
    node-at p f n (checkpoint g l) far a = a.0
    node-at p f n (logged_event s) far a = absurd a

none-first : (p : ℕ) (keep : Write → Bool) (xs : List Write) → AllByRecursion (λ (x : Write). link_at p x ≡ []) xs → KeepsFirst p keep xs
none-first p keep [] a = tt
none-first p keep (x ∷ xs) a = ((λ e. inl a.0), none-first p keep xs a.1)

-- a checkpoint is one of a declared node
declared-at : (sys : System) (low : List Front) (next : ℕ) (h : List SerialEvent) (p : ℕ) (w : Written) (far : Stage) → IsAskedWell sys low next h p w far
    → (f : Front) (l : List Front) → w ≡ checkpoint f l → p < length sys.flow.nodes
declared-at sys low next h p (checkpoint g m) far a f l e = takes-declared sys.flow p a.0
declared-at sys low next h p (logged_event s) far a f l e = absurd cc

undeclared-none : (sys : System) (low : List Front) (next : ℕ) (h : List SerialEvent) (p : ℕ) → length sys.flow.nodes ≤ p → (x : Write) → IsWriteAskedWell sys low next h x → link_at p x ≡ []
undeclared-none sys low next h p past x a = by x.written refl
  where
    by : (w : Written) → x.written ≡ w → cond (x.node == p) (link_of x.base x.depth w) [] ≡ []
    by (checkpoint f l) e =
        let there = declared-at sys low next h x.node x.written x.stage a f l e in
        ap (λ c. cond c (record { front = f; base = x.base; depth = x.depth } ∷ []) []) (false_from_ne_true (x.node == p) (λ i. let at = eqb-true x.node p i in absurd (omega arith)))
    by (logged_event s) e = cond_both (x.node == p) [] [] (λ (ls : List Link). ls ≡ []) (λ i. refl) (λ i. refl)

recovered-any : (sys : System) (state : Machine) (choice : Choice) → ((p : ℕ) → p < length sys.flow.nodes → (g : Front) → cut_of choice p ≡ At g → IsCanonical (bounds_of sys.flow p) g)
    → CanRecoverAndRestore sys state → (h : List SerialEvent) (p : ℕ) → KeepsFirst p (λ write. is_kept_write (cut_of choice write.node) write.written h) state.writes
recovered-any sys state choice canonical f h p = elim (cases_lt p (length sys.flow.nodes)) [
  | inl i ↦ recovered-first sys p (cut_of choice) h i (canonical p i) state.writes f.recover.ascend
  | inr past ↦
      none-first p (λ write. is_kept_write (cut_of choice write.node) write.written h) state.writes
      (each-weaker (IsWriteAskedWell sys state.low state.next state.history) (λ (x : Write). link_at p x ≡ []) state.writes
      (λ x a. undeclared-none sys state.low state.next state.history p past x a) f.restore.asked)
]

-- where the low watermark rises to these fronts, a write is forgotten by what stands on it as by what comes later
forgotten-along : (sys : System) (state : Machine) (low : List Front) → CanForget sys state
    → (xs : List Write) (x : Write) (ys : List Write) → state.writes ≡ xs ++ x ∷ ys
    → is_forgotten sys low state.history state.writes x ≡ gone_before sys low state.history x.node x.written ys
forgotten-along sys state low c xs x ys e =
    let W : Write → Type 0 = IsWriteAskedWell sys state.low state.next state.history in
    let asked = (each-suffix W xs (x ∷ ys) (subst (AllByRecursion W) e c.reached.restore.asked)).0 in
    forgotten-gone sys low state.history state.writes c.reached.restore.apart c.logged xs x ys e
    (λ f l i. c.chain x.node (declared-at sys state.low state.next state.history x.node x.written x.stage asked f l i))

gone-collected : (sys : System) → IsWellFormed sys.flow → (state : Machine) (choice : Choice) → IsWatermark sys state choice → CanForget sys state
    → AreGoneExact sys (map front_of_cut choice.cuts) state.history (collected_writes sys (map front_of_cut choice.cuts) state.history state.writes)
gone-collected sys w state choice m c =
    let low = map front_of_cut choice.cuts in
    let h = state.history in
    let f = c.reached in
    let k = m.consistent in
    let goes : Write → Bool = is_forgotten sys low h state.writes in
    exact-collected sys state.low low h goes state.writes
    (each-weaker (IsWriteAskedWell sys state.low state.next h) (λ (x : Write). lies_below sys state.low h x.node x.written ≡ true → lies_below sys low h x.node x.written ≡ true) state.writes
    (λ x b. below-grows sys state.low low state.next h (low-grows sys state f.recover.notices choice f.recover.watermark m) (λ p l. (offered-low sys state choice k p l).0) x.node x.written x.stage b)
    f.restore.asked)
    (below-each sys w state f c.order choice k)
    (later-from (λ x later. goes x ≡ gone_before sys low h x.node x.written later) state.writes [] state.writes refl (forgotten-along sys state low c)) c.exact

abbrev HasGone : System → Machine → Type 0
HasGone sys state = AreGoneExact sys state.low state.history state.writes

took-gone : (sys : System) → IsWellFormedSystem sys → (state : Machine) (step : Step) (next : Machine) (effect : Effect) → CanForget sys state → CanRecoverAndRestore sys next
    → LeadsTo sys state step next effect → HasGone sys next
took-gone sys w state (Inject s) next effect c g t = subst (HasGone sys) (sym t.3) (gone-event sys w state (Injected s t.0) t.1 c)
took-gone sys w state (Deliver e at) next effect c g t = subst (HasGone sys) (sym t.3) (gone-event sys w state (Delivered e t.0) t.1.enabled c)
took-gone sys w state (Notify p at) next effect c g t = subst (HasGone sys) (sym t.3) (gone-event sys w state (Notified p t.0) t.1.enabled c)
took-gone sys w state ProgressStep next effect c g t =
    let settled = t.1 in
    let ps = filter (λ p. is_eager (policy_of sys.flow p) && not (same_front (front_of state.settled p) (front_of settled p))) (node_ids sys.flow) in
    subst (HasGone sys) (sym t.3) (gone-asked sys w.flow state next settled ps g t.3 c)
took-gone sys w state (Checkpoint p) next effect c g t = subst (HasGone sys) (sym t.3) (gone-asked sys w.flow state next state.settled (p ∷ []) g t.3 c)
took-gone sys w state Persist next effect c g t =
    let k = t.1 in
    let y = k.oldest in
    subst (HasGone sys) (sym t.2)
    (subst (AreGoneExact sys state.low state.history) (sym k.after)
    (exact-replaced sys state.low state.history k.earlier y acknowledged k.later (far-acknowledged y.stage k.in_flight)
    (subst (AreGoneExact sys state.low state.history) k.before c.exact)))
took-gone sys w state (Fail ps) next effect c g t = subst (HasGone sys) (sym t.4) (gone-failed sys w.flow state ps c)
took-gone sys w state Recover next effect c g t =
    let choice = t.1 in
    let canonical : (p : ℕ) → p < length sys.flow.nodes → (f : Front) → cut_of choice p ≡ At f → IsCanonical (bounds_of sys.flow p) f = λ p i f e.
    (subst (IsCandidate sys state (is_failed state) kept p) e (t.5.consistent.offered p i)).0 in
    subst (HasGone sys) (sym t.7)
    (gone-recovered sys w.flow state choice canonical (low-kept sys state c.reached (is_failed state) choice t.5) c
    (recovered-any sys state choice canonical c.reached (filtered_history sys choice state.history)))
took-gone sys w state Collect next effect c g t = subst (HasGone sys) (sym t.3) (gone-collected sys w.flow state t.0 t.1 c)
took-gone sys w state (Ack o) next effect c g t = subst (HasGone sys) (sym t.2) c.exact

run-forget : (sys : System) → IsWellFormedSystem sys → (steps : List Step) (outcomes : List Outcome) (state last : Machine) → CanForget sys state → Run sys state steps outcomes last
    → CanForget sys last
run-forget sys w [] [] state last c r = subst (CanForget sys) (sym r) c
run-forget sys w [] (q ∷ os) state last c r = absurd r
run-forget sys w (s ∷ ss) [] state last c r = absurd r
run-forget sys w (s ∷ ss) (did effect ∷ os) state last c r =
    let next = r.0 in
    let t = r.1 in
    let g = took-reached sys w state s next effect c.reached t in
    run-forget sys w ss os next last (record {
      reached = g;
      order = took-order sys state s next effect t c.order;
      chain = λ p i. took-chain sys state s next effect c.reached c.order t p i (c.chain p i);
      logged = took-logged sys state s next effect t c.logged;
      exact = took-gone sys w state s next effect c g t;
    }) r.2
run-forget sys w (s ∷ ss) (idle ∷ os) state last c r = run-forget sys w ss os r.0 last (subst (CanForget sys) (sym r.1.1) c) r.2

exact-at : (sys : System) (low : List Front) (h : List SerialEvent) (xs : List Write) (x : Write) (ys : List Write) → AreGoneExact sys low h (xs ++ x ∷ ys) → IsGoneExact sys low h x ys
exact-at sys low h [] x ys a = a.0
exact-at sys low h (z ∷ xs) x ys a = exact-at sys low h xs x ys a.1

pub reached-forget : (sys : System) → IsWellFormedSystem sys → (steps : List Step) (outcomes : List Outcome) (last : Machine) → Run sys (first_state sys) steps outcomes last
    → CanForget sys last
reached-forget sys w steps outcomes last r =
    run-forget sys w steps outcomes (first_state sys) last (record {
      reached = first-reached sys w;
      order = tt;
      chain = λ p i. tt;
      logged = tt;
      exact = tt;
    }) r

pub collected-forgotten : CollectedIsWhatLiesBelow
collected-forgotten sys w steps outcomes last r =
    let c = reached-forget sys w steps outcomes last r in
    each-from (λ (x : Write). (x.stage ≡ collected) ↔ (is_forgotten sys last.low last.history last.writes x ≡ true)) last.writes [] last.writes refl
    (λ xs x ys e.
    by-same x.stage (gone_before sys last.low last.history x.node x.written ys) (is_forgotten sys last.low last.history last.writes x)
    (forgotten-along sys last last.low c xs x ys e)
    (exact-at sys last.low last.history xs x ys (subst (AreGoneExact sys last.low last.history) e c.exact)))

-- a logged event was collected exactly where it is given up
abbrev pub IsLoggedExact : System → List Front → List SerialEvent → Written → Stage → Type 0
IsLoggedExact sys low h (checkpoint f l) far = Unit {0}
IsLoggedExact sys low h (logged_event s) far = (far ≡ collected) ↔ (is_serial_given_up sys low s h ≡ true)

pub collected-logged : (sys : System) → IsWellFormedSystem sys → (steps : List Step) (outcomes : List Outcome) (last : Machine) → Run sys (first_state sys) steps outcomes last
    → AllByRecursion (λ (x : Write). IsLoggedExact sys last.low last.history x.written x.stage) last.writes
collected-logged sys w steps outcomes last r = along last.writes (reached-forget sys w steps outcomes last r).exact
  where
    by : (n : ℕ) (v : Written) (far : Stage) (ys : List Write) → (far ≡ collected) ↔ (gone_before sys last.low last.history n v ys ≡ true) → IsLoggedExact sys last.low last.history v far
    by n (checkpoint f l) far ys a = tt
    by n (logged_event s) far ys a = a

    along : (xs : List Write) → AreGoneExact sys last.low last.history xs → AllByRecursion (λ (x : Write). IsLoggedExact sys last.low last.history x.written x.stage) xs
    along [] a = tt
    along (x ∷ xs) a = (by x.node x.written x.stage xs a.0, along xs a.1)

-- and what was collected lies below
pub collected-lies : (sys : System) → IsWellFormedSystem sys → (steps : List Step) (outcomes : List Outcome) (last : Machine) → Run sys (first_state sys) steps outcomes last
    → AllByRecursion (λ (x : Write). x.stage ≡ collected → lies_below sys last.low last.history x.node x.written ≡ true) last.writes
collected-lies sys w steps outcomes last r =
    each-weaker (λ (x : Write). (x.stage ≡ collected) ↔ (is_forgotten sys last.low last.history last.writes x ≡ true))
    (λ (x : Write). x.stage ≡ collected → lies_below sys last.low last.history x.node x.written ≡ true) last.writes
    (λ x a c. forgotten-below sys last.low last.history last.writes x (a.0 c)) (collected-forgotten sys w steps outcomes last r)
