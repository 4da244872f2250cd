-- What a node that logs its events offers, by its third frontier; and that none of these events outside the low watermark is collected.
use Rattle.std.proofs.Common.{◌≡◌, ◌↔◌, ℕ, suc, Bool, true, false, not, ◌&&◌, ◌||◌, ◌==◌, cond, List, [], ◌∷◌, map, filter, refl, sym, ap, subst, ◌∙◌, inl, inr, arith}
use Rattle.std.specs.List.{Contains, list_any}
use Rattle.std.proofs.lemmas.Bool.{and_parts, and_from, cases_Bool, cond_both, eqb-true, eq-eqb, false_from_ne_true, not-true, or_cases, or_left, or_parts, or_right}
use Rattle.fw_lemmas.proofs.Bools.{two_ways, same_tests}
use Rattle.fw_lemmas.proofs.Each.{each-one}
use Rattle.fw_lemmas.proofs.Filters.{filter-same_on}
use Rattle.fw_time.specs.Stamp.{Stamp, leq}
use Rattle.fw_time.proofs.StampLaws.{leq-refl}
use Rattle.fw_frontier.specs.Frontier.{Frontier}
use Rattle.fw_frontier.specs.Front.{Front}
use Rattle.fw_frontier.proofs.NamesLaws.{frontier-closed}
use Rattle.fw_flow.specs.Dataflow.{System, Dataflow, bounds_of, node_frontier}
use Rattle.fw_flow.specs.NodeFunction.{event_node, event_stamp}
use Rattle.fw_model.proofs.LesserLaws.{lesser-in_domain}
use Rattle.fw_model.specs.Choice.{ever, kept, is_counted, IsLogged, AllLogged, IsRestorable, IsCandidate, logs_serial, is_serial_logged}
use Rattle.fw_model.specs.Machine.{Machine, SerialEvent, Write, Written, checkpoint, logged_event, Stage, in_flight, acknowledged, collected, front_of}
use Rattle.fw_model.specs.Steps.{is_given_up}
use Rattle.fw_model.proofs.AskedLaws.{IsAskedWell, IsWriteAskedWell, reached-all, given-stamp}
use Rattle.fw_model.proofs.FloorLaws.{floor_cut, low-floor}
use Rattle.fw_model.proofs.ThinnedLaws.{each-contained}
use Rattle.fw_model.proofs.WriteLaws.{HoldsOfOne, NamesEvent, LogsEvent, some-logged, logged-some}
use Rattle.fw_regain.specs.Down.{down}
use Rattle.fw_regain.specs.Third.{stamps_not_logged, ThirdStaysWhereAllAreDown, ThirdFrontIsOffered, ThirdHoldsLow, IsKeptLogged, NothingOutsideLowIsCollected}
use Rattle.fw_regain.proofs.DownLaws.{logged-land}
use Rattle.fw_regain.proofs.GreatestLaws.{each-from}

-- ---- whether an event is logged

names-of : (serial : ℕ) (w : Written) (far : Stage) → (logs_serial serial w && is_counted ever far) ≡ true → NamesEvent serial w far
names-of serial (checkpoint g low) far k = absurd (cc)
names-of serial (logged_event s) far k = let a = and_parts (s == serial) (is_counted ever far) k in (eqb-true s serial a.0, a.1)

named-test : (serial : ℕ) (w : Written) (far : Stage) → NamesEvent serial w far → (logs_serial serial w && is_counted ever far) ≡ true
named-test serial (checkpoint g low) far k = absurd k
named-test serial (logged_event s) far k = and_from (s == serial) (is_counted ever far) (eq-eqb s serial k.0) k.1

test-logged : (serial : ℕ) (writes : List Write) → is_serial_logged serial writes ≡ true → HoldsOfOne (LogsEvent serial) writes
test-logged serial [] k = absurd (cc)
test-logged serial (x ∷ xs) k = elim (or_cases (logs_serial serial x.written && is_counted ever x.stage) (is_serial_logged serial xs) k) [
  | inl a ↦ inl (names-of serial x.written x.stage a)
  | inr a ↦ inr (test-logged serial xs a)
]

logged-test : (serial : ℕ) (writes : List Write) → HoldsOfOne (LogsEvent serial) writes → is_serial_logged serial writes ≡ true
logged-test serial [] k = absurd k
logged-test serial (x ∷ xs) (inl a) = or_left (logs_serial serial x.written && is_counted ever x.stage) (is_serial_logged serial xs) (named-test serial x.written x.stage a)
logged-test serial (x ∷ xs) (inr a) = or_right (logs_serial serial x.written && is_counted ever x.stage) (is_serial_logged serial xs) (logged-test serial xs a)

pub logged-is : (serial : ℕ) (writes : List Write) → (is_serial_logged serial writes ≡ true) ↔ IsLogged serial writes
logged-is serial writes = (
  λ k. logged-some serial writes (test-logged serial writes k),
  λ k. logged-test serial writes (some-logged serial writes k),
)

same-logged : (sys : System) (state : Machine) (serial : ℕ) → is_serial_logged serial (down sys state).writes ≡ is_serial_logged serial state.writes
same-logged sys state serial =
    let now = (down sys state).writes in
    same_tests (is_serial_logged serial now) (is_serial_logged serial state.writes)
    (λ k. (logged-is serial state.writes).1 ((logged-land serial state.writes).0 ((logged-is serial now).0 k)))
    (λ k. (logged-is serial now).1 ((logged-land serial state.writes).1 ((logged-is serial state.writes).0 k)))

-- ---- the third frontier

same-stamps : (sys : System) (state : Machine) (p : ℕ) → stamps_not_logged sys (down sys state) p ≡ stamps_not_logged sys state p
same-stamps sys state p =
    let one : SerialEvent → Bool = λ v. event_node sys.flow v.event == p && not (is_serial_logged v.serial (down sys state).writes) in
    let other : SerialEvent → Bool = λ v. event_node sys.flow v.event == p && not (is_serial_logged v.serial state.writes) in
    ap (map (λ (v : SerialEvent). event_stamp v.event)) (filter-same_on one other state.history
    (each-one (λ v. one v ≡ other v) state.history (λ v. ap (λ b. event_node sys.flow v.event == p && not b) (same-logged sys state v.serial))))

pub third-stays : ThirdStaysWhereAllAreDown
third-stays sys state p t =
    ap (λ ss. node_frontier sys.flow p (front_of state.settled p) t && not (list_any (λ s. leq s t) ss)) (same-stamps sys state p)

lesser-inside : (flow : Dataflow) (p : ℕ) (f : Front) (s t : Stamp) → leq s t ≡ true → node_frontier flow p f t ≡ true → node_frontier flow p f s ≡ true
lesser-inside flow p f s t l i =
    let fr = frontier-closed (bounds_of flow p) f in
    fr.closed s t (lesser-in_domain flow p s t l (fr.inside_domain t i)) l i

-- the stamps of those of the events that none of the writes logs
loose : System → ℕ → List Write → List SerialEvent → List Stamp
loose sys p writes h =
    map (λ (v : SerialEvent). event_stamp v.event) (filter (λ (v : SerialEvent). event_node sys.flow v.event == p && not (is_serial_logged v.serial writes)) h)

none-loose : (sys : System) (p : ℕ) (f : Front) (writes : List Write) (t : Stamp) → node_frontier sys.flow p f t ≡ true → (h : List SerialEvent)
    → AllLogged sys p (node_frontier sys.flow p f) writes h → list_any (λ s. leq s t) (loose sys p writes h) ≡ false
unfolding loose
none-loose sys p f writes t i [] a = refl
none-loose sys p f writes t i (v ∷ h) a =
    let rest = none-loose sys p f writes t i h a.1 in
    let test : SerialEvent → Bool = λ u. event_node sys.flow u.event == p && not (is_serial_logged u.serial writes) in
    cond_both (test v) (v ∷ filter test h) (filter test h)
    (λ vs. list_any (λ s. leq s t) (map (λ (u : SerialEvent). event_stamp u.event) vs) ≡ false)
    (λ k.
    let b = and_parts (event_node sys.flow v.event == p) (not (is_serial_logged v.serial writes)) k in
    let out : leq (event_stamp v.event) t ≡ false = false_from_ne_true (leq (event_stamp v.event) t)
    (λ l. two_ways (is_serial_logged v.serial writes)
    ((logged-is v.serial writes).1 (a.0 (eqb-true (event_node sys.flow v.event) p b.0) (lesser-inside sys.flow p f (event_stamp v.event) t l i)))
    (not-true (is_serial_logged v.serial writes) b.1)) in
    ap (λ c. c || list_any (λ s. leq s t) (map (λ (u : SerialEvent). event_stamp u.event) (filter test h))) out ∙ rest)
    (λ k. rest)

all-logged : (sys : System) (p : ℕ) (f : Frontier) (writes : List Write) (h : List SerialEvent)
    → ((t : Stamp) → f t ≡ true → list_any (λ s. leq s t) (loose sys p writes h) ≡ false) → AllLogged sys p f writes h
unfolding loose
all-logged sys p f writes [] k = tt
all-logged sys p f writes (v ∷ h) k =
    let test : SerialEvent → Bool = λ u. event_node sys.flow u.event == p && not (is_serial_logged u.serial writes) in
    let stamps : List SerialEvent → List Stamp = λ vs. map (λ (u : SerialEvent). event_stamp u.event) vs in
    let at = event_stamp v.event in (
      λ e i. elim (cases_Bool (is_serial_logged v.serial writes)) [
        | inl l ↦ (logged-is v.serial writes).0 l
        | inr l ↦
            let passes : test v ≡ true = and_from (event_node sys.flow v.event == p) (not (is_serial_logged v.serial writes))
            (eq-eqb (event_node sys.flow v.event) p e) (ap not l) in
            let none = sym (ap (λ b. list_any (λ s. leq s at) (stamps (cond b (v ∷ filter test h) (filter test h)))) passes) ∙ k at i in
            absurd (two_ways (leq at at) (leq-refl at) (or_parts (leq at at) (list_any (λ s. leq s at) (stamps (filter test h))) none).0)
      ],
      all-logged sys p f writes h (λ t i.
          cond_both (test v) (v ∷ filter test h) (filter test h)
          (λ vs. list_any (λ s. leq s t) (stamps vs) ≡ false → list_any (λ s. leq s t) (stamps (filter test h)) ≡ false)
          (λ c n. (or_parts (leq at t) (list_any (λ s. leq s t) (stamps (filter test h))) n).1) (λ c n. n) (k t i)),
    )

pub third-offered : ThirdFrontIsOffered
unfolding loose
third-offered sys state lost p f way =
    let g = node_frontier sys.flow p f in
    let settled = node_frontier sys.flow p (front_of state.settled p) in
    let none : Stamp → Bool = λ t. not (list_any (λ s. leq s t) (stamps_not_logged sys state p)) in (
      λ a.
          let r = subst (λ w. IsRestorable sys state kept p w f) way a.1 in (
            a.0,
            a.2,
            λ t i. and_from (settled t) (none t) (r.0 t i) (ap not (none-loose sys p f state.writes t i state.history r.1)),
          ),
      λ a. (
        a.0,
        subst (λ w. IsRestorable sys state kept p w f) (sym way) (
          λ t i. (and_parts (settled t) (none t) (a.2 t i)).0,
          all-logged sys p g state.writes state.history (λ t i.
              not-true (list_any (λ s. leq s t) (stamps_not_logged sys state p)) (and_parts (settled t) (none t) (a.2 t i)).1),
        ),
        a.1,
      ),
    )

pub third-holds : ThirdHoldsLow
third-holds sys state p w r l way =
    let a = low-floor sys state w r in
    let c = subst (λ x. IsCandidate sys state (λ q. true) kept p x) (floor_cut sys state state.low a p l) (a.consistent.offered p l) in
    ((third-offered sys state (λ q. true) p (front_of state.low p) way).0 c).2

-- ---- what is collected

-- a write that logs the event
record IsItsWrite (serial : ℕ) (writes : List Write) : Type 0 where
  write : Write
  there : Contains writes write
  logs : NamesEvent serial write.written write.stage

its-write : (serial : ℕ) (writes : List Write) → HoldsOfOne (LogsEvent serial) writes → IsItsWrite serial writes
its-write serial [] k = absurd k
its-write serial (x ∷ xs) (inl a) = record { write = x; there = (0, omega arith, refl); logs = a }
its-write serial (x ∷ xs) (inr a) =
    let i = its-write serial xs a in
    let c = i.there in
    let l = c.1 in
    record { write = i.write; there = (suc c.0, omega arith, c.2); logs = i.logs }

event-named : (serial : ℕ) (w : Written) (far : Stage) → NamesEvent serial w far → w ≡ logged_event serial
event-named serial (checkpoint g low) far k = absurd k
event-named serial (logged_event s) far k = ap logged_event k.0

not-collected : (sys : System) (low : List Front) (next : ℕ) (h : List SerialEvent) (p n : ℕ) (w : Written) (far : Stage) → IsAskedWell sys low next h n w far
    → (v : SerialEvent) → Contains h v → event_node sys.flow v.event ≡ p → node_frontier sys.flow p (front_of low p) (event_stamp v.event) ≡ false
    → NamesEvent v.serial w far → far ≡ acknowledged
not-collected sys low next h p n (checkpoint g l) far a v c e o k = absurd k
not-collected sys low next h p n (logged_event s) in_flight a v c e o k = absurd (two_ways false k.1 refl)
not-collected sys low next h p n (logged_event s) acknowledged a v c e o k = refl
not-collected sys low next h p n (logged_event s) collected a v c e o k =
    let mine = each-contained (λ (u : SerialEvent). u.serial ≡ s → event_node sys.flow u.event ≡ n) v h c a.1 (sym k.0) in
    let given = each-contained (λ (u : SerialEvent). u.serial ≡ s → is_given_up sys low n (event_stamp u.event) ≡ true) v h c a.2.1 (sym k.0) in
    let inside = given-stamp sys low n (event_stamp v.event) given in
    absurd (two_ways (node_frontier sys.flow p (front_of low p) (event_stamp v.event))
    (subst (λ q. node_frontier sys.flow q (front_of low q) (event_stamp v.event) ≡ true) (sym mine ∙ e) inside) o)

pub nothing-collected : NothingOutsideLowIsCollected
nothing-collected sys state p w r =
    let asked = (reached-all sys w r.0 r.1 state r.2).restore.asked in
    each-from (λ (v : SerialEvent). event_node sys.flow v.event ≡ p → node_frontier sys.flow p (front_of state.low p) (event_stamp v.event) ≡ false
    → is_serial_logged v.serial state.writes ≡ true → IsKeptLogged v.serial state.writes) state.history
    (λ v c e o k.
    let i = its-write v.serial state.writes (test-logged v.serial state.writes k) in
    let x = i.write in
    let a = each-contained (IsWriteAskedWell sys state.low state.next state.history) x state.writes i.there asked in
    record {
      write = x;
      there = i.there;
      logs = event-named v.serial x.written x.stage i.logs;
      acknowledged = not-collected sys state.low state.next state.history p x.node x.written x.stage a v c e o i.logs;
    })
