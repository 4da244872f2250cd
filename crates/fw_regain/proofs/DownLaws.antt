-- The state in which every node is failed: that steps lead to it, what is offered there, and where a recovery leads from it.
use Rattle.std.proofs.Common.{◌≡◌, ◌⊎◌, ◌↔◌, ℕ, zero, suc, ◌+◌, ◌<◌, ◌≤◌, Bool, true, false, not, ◌&&◌, ◌||◌, ◌==◌, List, [], ◌∷◌, ◌++◌, length, map, filter, refl, sym, ap, subst, ◌∙◌, inl, inr, arith}
use Rattle.std.specs.List.{AllByRecursion, range_with_len}
use Rattle.std.proofs.lemmas.Bool.{cases_Bool, cases_eq, cond_both, eq-eqb, not-true, or_left, or_right}
use Rattle.std.proofs.lemmas.List.FromFn.{get_or-map-range_with_len, length-map-range_with_len}
use Rattle.fw_lemmas.proofs.Bools.{two_ways}
use Rattle.fw_lemmas.proofs.Each.{each-weaker, each-filter, each-one}
use Rattle.fw_lemmas.proofs.Filters.{filter-all, filter-same_on}
use Rattle.fw_frontier.specs.Frontier.{Frontier}
use Rattle.fw_frontier.specs.Front.{Front}
use Rattle.fw_flow.specs.declared.choice.Choice.{Choice}
use Rattle.fw_flow.specs.declared.choice.Cut.{Cut}
use Rattle.fw_flow.specs.declared.choice.Cut.TheVariants.{Present, At}
use Rattle.fw_flow.specs.declared.restoring.Restoring.{Restoring}
use Rattle.fw_flow.specs.declared.restoring.Restoring.TheVariants.{Batches, Bound, Anything, Checkpoints, Events}
use Rattle.fw_flow.specs.declared.step.Step.TheVariants.{Fail, Recover}
use Rattle.fw_flow.specs.Dataflow.{System, node_ids, node_frontier, is_one_of}
use Rattle.fw_flow.specs.Restoring.{way_of}
use Rattle.fw_model.specs.Choice.{View, kept, ever, is_counted, IsLogged, AllLogged, HasCheckpoint, IsRestorable, IsCandidate, cut_of, IsConsistent, IsWatermark, IsCutWithin}
use Rattle.fw_model.specs.Machine.{Machine, SerialEvent, Write, Written, checkpoint, logged_event, Stage, in_flight, acknowledged, collected, front_of, is_failed}
use Rattle.fw_model.specs.Reached.{IsReached}
use Rattle.fw_model.specs.Steps.{Effect, cuts, silent, did, idle, is_in_flight, offers, without_lost, with_failed}
use Rattle.fw_model.proofs.ChoosingLaws.{failed-recovered}
use Rattle.fw_model.proofs.FloorLaws.{holds-floors, cut-floor}
use Rattle.fw_model.proofs.GoingOn.{runs-go_on}
use Rattle.fw_model.proofs.InclusionLaws.{same_each}
use Rattle.fw_model.proofs.LowLaws.{watermark-front}
use Rattle.fw_model.proofs.WriteLaws.{HoldsOfOne, some-passed, IsCheckpointAt, IsItsCheckpoint, NamesEvent, LogsEvent, some-checkpoint, checkpoint-some, some-logged, logged-some}
use Rattle.fw_regain.specs.Down.{down, AllGoDown, DownIsReached, AllAreDown, NothingFliesWhereAllAreFailed, DownOffersTheSame, DownChoosesTheWatermark, EachStateStartsAgain}
use Rattle.fw_regain.proofs.EachFailedLaws.{reached-failed}
use Rattle.fw_regain.proofs.FlightLaws.{IsOfLive, flying-live, range-each}

-- ---- the nodes

pub down-failed : (sys : System) (state : Machine) (p : ℕ) → p < length sys.flow.nodes → is_failed (down sys state) p ≡ true
down-failed sys state p l = get_or-map-range_with_len (λ q. true) 0 (length sys.flow.nodes) p p false l (omega arith)

one-in_range : (p a n : ℕ) → a ≤ p → p < a + n → is_one_of p (range_with_len a n) ≡ true
one-in_range p a zero l m = absurd (omega (arith, l, m))
one-in_range p a (suc n) l m = elim (cases_eq a p) [
  | inl same ↦ or_left (a == p) (is_one_of p (range_with_len (a + 1) n)) (eq-eqb a p same)
  | inr other ↦ or_right (a == p) (is_one_of p (range_with_len (a + 1) n)) (one-in_range p (a + 1) n (omega (arith, l, other)) (omega (arith, m)))
]

one-declared : (sys : System) (p : ℕ) → p < length sys.flow.nodes → is_one_of p (node_ids sys.flow) ≡ true
one-declared sys p l = one-in_range p 0 (length sys.flow.nodes) (omega arith) (omega arith)

all-failed : (sys : System) (state : Machine) → with_failed sys state (node_ids sys.flow) ≡ map (λ p. true) (node_ids sys.flow)
all-failed sys state = by (node_ids sys.flow) (range-each (λ p. is_one_of p (node_ids sys.flow) ≡ true) 0 (length sys.flow.nodes) (λ p l m. one-declared sys p (omega arith)))
  where
    by : (ps : List ℕ) → AllByRecursion (λ p. is_one_of p (node_ids sys.flow) ≡ true) ps
        → map (λ p. is_failed state p || is_one_of p (node_ids sys.flow)) ps ≡ map (λ p. true) ps
    by [] a = refl
    by (p ∷ ps) a =
        ap (λ b. b ∷ map (λ q. is_failed state q || is_one_of q (node_ids sys.flow)) ps) (or_right (is_failed state p) (is_one_of p (node_ids sys.flow)) a.0)
        ∙ ap (λ bs. true ∷ bs) (by ps a.1)

-- ---- the writes

not-both : (a b : Bool) → (b ≡ true → a ≡ true) → not (a && b) ≡ not b
not-both true b k = refl
not-both false true k = absurd (two_ways false (k refl) refl)
not-both false false k = refl

all-lost : (sys : System) (state : Machine) → IsReached sys state
    → without_lost (node_ids sys.flow) state.writes ≡ filter (λ (x : Write). not (is_in_flight x.stage)) state.writes
all-lost sys state r =
    filter-same_on (λ (x : Write). not (is_one_of x.node (node_ids sys.flow) && is_in_flight x.stage)) (λ (x : Write). not (is_in_flight x.stage)) state.writes
    (each-weaker (IsOfLive sys state) (λ (x : Write). not (is_one_of x.node (node_ids sys.flow) && is_in_flight x.stage) ≡ not (is_in_flight x.stage)) state.writes
    (λ x live. not-both (is_one_of x.node (node_ids sys.flow)) (is_in_flight x.stage) (λ i. one-declared sys x.node (live i).0)) (flying-live sys state r))

pub are-down : AllAreDown
are-down sys state = record {
  failed = λ p l. down-failed sys state p l;
  lost = each-filter (λ (x : Write). is_in_flight x.stage ≡ false) (λ (x : Write). not (is_in_flight x.stage)) state.writes
      (each-one (λ (x : Write). not (is_in_flight x.stage) ≡ true → is_in_flight x.stage ≡ false) state.writes (λ x k. not-true (is_in_flight x.stage) k));
}

-- where every node is failed nothing is in flight
none-fly : (sys : System) (state : Machine) → IsReached sys state → ((p : ℕ) → p < length sys.flow.nodes → is_failed state p ≡ true)
    → AllByRecursion (λ (x : Write). is_in_flight x.stage ≡ false) state.writes
none-fly sys state r all =
    each-weaker (IsOfLive sys state) (λ (x : Write). is_in_flight x.stage ≡ false) state.writes
    (λ x live. elim (cases_Bool (is_in_flight x.stage)) [
      | inl i ↦ let l = live i in absurd (two_ways (is_failed state x.node) (all x.node l.0) l.1)
      | inr i ↦ i
    ]) (flying-live sys state r)

pub flies-nothing : NothingFliesWhereAllAreFailed
flies-nothing sys state r all =
    let none = none-fly sys state r all in
    let n = length sys.flow.nodes in
    let failed : map (λ p. true) (node_ids sys.flow) ≡ state.failed =
    same_each (map (λ p. true) (node_ids sys.flow)) state.failed n false (length-map-range_with_len (λ p. true) 0 n) (reached-failed sys state r)
    (λ p l. down-failed sys state p l ∙ sym (all p l)) in
    let writes : filter (λ (x : Write). not (is_in_flight x.stage)) state.writes ≡ state.writes =
    filter-all (λ (x : Write). not (is_in_flight x.stage)) state.writes
    (each-weaker (λ (x : Write). is_in_flight x.stage ≡ false) (λ x. not (is_in_flight x.stage) ≡ true) state.writes (λ x k. ap not k) none) in (
      record { failed = all; lost = none },
      ap (λ fs. record state { failed = fs; writes = filter (λ (x : Write). not (is_in_flight x.stage)) state.writes }) failed
          ∙ ap (λ ws. record state { failed = state.failed; writes = ws }) writes,
    )

-- ---- the step

-- some declared node is not failed, or each is
live-or_none : (state : Machine) (n : ℕ) → ((p : ℕ) × (p < n) × (is_failed state p ≡ false)) ⊎ ((p : ℕ) → p < n → is_failed state p ≡ true)
live-or_none state zero = inr (λ p l. absurd (omega (arith, l)))
live-or_none state (suc n) = elim (live-or_none state n) [
  | inl k ↦ let l = k.1 in inl (k.0, omega arith, k.2)
  | inr all ↦ elim (cases_Bool (is_failed state n)) [
    | inl f ↦ inr (λ p l. elim (cases_eq p n) [
      | inl e ↦ ap (is_failed state) e ∙ f
      | inr e ↦ all p (omega (arith, l, e))
    ])
    | inr f ↦ inl (n, omega arith, f)
  ]
]

pub go-down : AllGoDown
go-down sys state r = elim (live-or_none state (length sys.flow.nodes)) [
  | inl k ↦ (
    did silent,
    (
      k.0,
      k.1,
      one-declared sys k.0 k.1,
      k.2,
      ap (λ fs. record state { failed = fs; writes = filter (λ (x : Write). not (is_in_flight x.stage)) state.writes }) (sym (all-failed sys state))
          ∙ ap (λ ws. record state { failed = with_failed sys state (node_ids sys.flow); writes = ws }) (sym (all-lost sys state r)),
      refl,
    ),
  )
  | inr all ↦ (idle, (λ other effect t. two_ways (is_failed state t.0) (all t.0 t.1) t.3, (flies-nothing sys state r all).1))
]

pub down-reached : DownIsReached
down-reached sys state r =
    let k = go-down sys state r in (
      r.0 ++ Fail (node_ids sys.flow) ∷ [],
      r.1 ++ k.0 ∷ [],
      runs-go_on sys _ state (down sys state) r.0 (Fail (node_ids sys.flow) ∷ []) r.1 (k.0 ∷ []) r.2 (down sys state, k.1, refl),
    )

-- ---- what is offered

some-back : {A : Type 0} (P : A → Type 0) (test : A → Bool) (xs : List A) → HoldsOfOne P (filter test xs) → HoldsOfOne P xs
some-back P test [] h = h
some-back P test (x ∷ xs) h =
    cond_both (test x) (x ∷ filter test xs) (filter test xs) (λ ys. HoldsOfOne P ys → HoldsOfOne P (x ∷ xs))
    (λ e k. elim k [ inl a ↦ inl a | inr a ↦ inr (some-back P test xs a) ])
    (λ e k. inr (some-back P test xs k)) h

counted-lands : (view : View) (far : Stage) → is_counted view far ≡ true → not (is_in_flight far) ≡ true
counted-lands kept in_flight e = absurd (cc)
counted-lands ever in_flight e = absurd (cc)
counted-lands view acknowledged e = refl
counted-lands view collected e = refl

checkpoint-lands : (view : View) (p : ℕ) (f : Front) (n : ℕ) (w : Written) (far : Stage) → IsCheckpointAt view p f n w far → not (is_in_flight far) ≡ true
checkpoint-lands view p f n (checkpoint g l) far a = counted-lands view far a.2
checkpoint-lands view p f n (logged_event s) far a = absurd a

named-lands : (serial : ℕ) (w : Written) (far : Stage) → NamesEvent serial w far → not (is_in_flight far) ≡ true
named-lands serial (checkpoint g l) far a = absurd a
named-lands serial (logged_event s) far a = counted-lands ever far a.1

-- the writes that are not in flight
abbrev pub landed : List Write → List Write
landed writes = filter (λ (x : Write). not (is_in_flight x.stage)) writes

checkpoints-land : (view : View) (p : ℕ) (f : Front) (writes : List Write) → HasCheckpoint view p f (landed writes) ↔ HasCheckpoint view p f writes
checkpoints-land view p f writes =
    let test : Write → Bool = λ x. not (is_in_flight x.stage) in (
      λ a. checkpoint-some view p f writes (some-back (IsItsCheckpoint view p f) test writes (some-checkpoint view p f (filter test writes) a)),
      λ a. checkpoint-some view p f (filter test writes) (some-passed (IsItsCheckpoint view p f) test writes
          (λ x b. checkpoint-lands view p f x.node x.written x.stage b) (some-checkpoint view p f writes a)),
    )

pub logged-land : (serial : ℕ) (writes : List Write) → IsLogged serial (landed writes) ↔ IsLogged serial writes
logged-land serial writes =
    let test : Write → Bool = λ x. not (is_in_flight x.stage) in (
      λ a. logged-some serial writes (some-back (LogsEvent serial) test writes (some-logged serial (filter test writes) a)),
      λ a. logged-some serial (filter test writes) (some-passed (LogsEvent serial) test writes
          (λ x b. named-lands serial x.written x.stage b) (some-logged serial writes a)),
    )

all_logged-weaker : (sys : System) (p : ℕ) (f : Frontier) (writes also : List Write) → ((serial : ℕ) → IsLogged serial writes → IsLogged serial also)
    → (h : List SerialEvent) → AllLogged sys p f writes h → AllLogged sys p f also h
all_logged-weaker sys p f writes also k [] a = tt
all_logged-weaker sys p f writes also k (v ∷ h) a = (λ e i. k v.serial (a.0 e i), all_logged-weaker sys p f writes also k h a.1)

restorable-down : (sys : System) (state : Machine) (view : View) (p : ℕ) (way : Restoring) (f : Front)
    → IsRestorable sys (down sys state) view p way f ↔ IsRestorable sys state view p way f
restorable-down sys state view p Batches f = (λ a. a, λ a. a)
restorable-down sys state view p Bound f = (λ a. a, λ a. a)
restorable-down sys state view p Anything f = (λ a. a, λ a. a)
restorable-down sys state view p Checkpoints f =
    let k = checkpoints-land view p f state.writes in (
      λ a. elim a [ inl n ↦ inl n | inr c ↦ inr (k.0 c) ],
      λ a. elim a [ inl n ↦ inl n | inr c ↦ inr (k.1 c) ],
    )
restorable-down sys state view p Events f =
    let g = node_frontier sys.flow p f in (
      λ a. (a.0, all_logged-weaker sys p g (landed state.writes) state.writes (λ s k. (logged-land s state.writes).0 k) state.history a.1),
      λ a. (a.0, all_logged-weaker sys p g state.writes (landed state.writes) (λ s k. (logged-land s state.writes).1 k) state.history a.1),
    )

pub down-offers : DownOffersTheSame
down-offers sys state lost view p Present = (λ a. a, λ a. a)
down-offers sys state lost view p (At f) =
    let k = restorable-down sys state view p (way_of sys.flow p) f in
    (λ a. (a.0, k.0 a.1, a.2), λ a. (a.0, k.1 a.1, a.2))

-- of nodes that are failed both ways the same is offered
failed-offers : (sys : System) (state : Machine) (p : ℕ) (cut : Cut) → p < length sys.flow.nodes
    → offers sys (down sys state) p cut ↔ IsCandidate sys state (λ q. true) kept p cut
failed-offers sys state p Present l = (λ a. absurd (two_ways (is_failed (down sys state) p) (down-failed sys state p l) a), λ a. absurd (cc))
failed-offers sys state p (At f) l = down-offers sys state (λ q. true) kept p (At f)

consistent-down : (sys : System) (state : Machine) (choice : Choice)
    → IsConsistent sys (down sys state) (offers sys (down sys state)) choice ↔ IsConsistent sys state (IsCandidate sys state (λ q. true) kept) choice
consistent-down sys state choice = (
  λ c. record {
    one_cut_each = c.one_cut_each;
    one_notice_each = c.one_notice_each;
    offered = λ p l. (failed-offers sys state p (cut_of choice p) l).0 (c.offered p l);
    canonical = c.canonical;
    delivered = c.delivered;
    discarded = c.discarded;
    notified = c.notified;
    own = c.own;
    notices = c.notices;
  },
  λ c. record {
    one_cut_each = c.one_cut_each;
    one_notice_each = c.one_notice_each;
    offered = λ p l. (failed-offers sys state p (cut_of choice p) l).1 (c.offered p l);
    canonical = c.canonical;
    delivered = c.delivered;
    discarded = c.discarded;
    notified = c.notified;
    own = c.own;
    notices = c.notices;
  },
)

pub down-chooses : DownChoosesTheWatermark
down-chooses sys state choice = (
  λ m. record {
    consistent = (consistent-down sys state choice).0 m.consistent;
    largest = λ other c. m.largest other ((consistent-down sys state other).1 c);
  },
  λ m. record {
    consistent = (consistent-down sys state choice).1 m.consistent;
    largest = λ other c. m.largest other ((consistent-down sys state other).0 c);
  },
)

-- ---- a start

-- the choice of an effect that shows cuts
shown_choice : Choice → Effect → Choice
shown_choice d (cuts c) = c
shown_choice d effect = d

pub starts-again : EachStateStartsAgain
unfolding shown_choice
starts-again sys state w r =
    let gone = down sys state in
    let d = down-reached sys state r in
    let some = w.flow.input in
    let all : (p : ℕ) → p < length sys.flow.nodes → is_failed gone p ≡ true = λ p l. down-failed sys state p l in
    let k = failed-recovered sys w d.0 d.1 gone d.2 some.0 some.1 (all some.0 some.1) in
    let next = k.0 in
    let choice = k.1 in
    let t = k.2 in
    let same : choice ≡ t.1 = ap (shown_choice choice) t.8 in
    let mark = subst (IsWatermark sys state) (sym same) ((down-chooses sys state t.1).0 t.5) in (
      next,
      choice,
      record {
        reached = (
          d.0 ++ Recover ∷ [],
          d.1 ++ did (cuts choice) ∷ [],
          runs-go_on sys _ gone next d.0 (Recover ∷ []) d.1 (did (cuts choice) ∷ []) d.2 (next, t, refl),
        );
        recovered = t;
        watermark = mark;
        floor = cut-floor sys gone next choice w d all t;
        holds = λ floor a p l.
            subst (IsCutWithin sys.flow p (At (front_of floor p))) (sym (watermark-front sys state choice mark.consistent p l))
            (holds-floors sys state floor (λ q. true) choice a mark p l);
        low = ap (λ (m : Machine). m.low) t.7;
        bounds = ap (λ (m : Machine). m.ack_counts) t.7;
      },
    )
