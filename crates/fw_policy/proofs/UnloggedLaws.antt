-- Which events of a node are not logged: those whose entries are in flight, and those that were lost with it.
use Rattle.std.proofs.Common.{◌≡◌, ◌⊎◌, ◌↔◌, inl, inr, ℕ, suc, ◌<◌, Bool, true, false, not, cond, ◌&&◌, ◌==◌, List, [], ◌∷◌, ◌++◌, refl, sym, ◌∙◌, ap, subst, arith}
use Rattle.std.specs.Prelude.{filter}
use Rattle.std.specs.List.{AllByRecursion, Contains, flat_map}
use Rattle.std.proofs.lemmas.Bool.{cond_both, cases_Bool, and_parts, and_from, eqb-true, eq-eqb, false_from_ne_true}
use Rattle.fw_lemmas.proofs.Bools.{two_ways}
use Rattle.fw_lemmas.proofs.Each.{each-weaker, each-both, each-there}
use Rattle.fw_time.specs.Stamp.{Stamp, leq}
use Rattle.fw_time.proofs.StampLaws.{leq-refl}
use Rattle.fw_frontier.specs.Frontier.{Frontier, Within}
use Rattle.fw_flow.specs.Dataflow.{System, node_frontier}
use Rattle.fw_flow.specs.NodeFunction.{event_node, event_stamp}
use Rattle.fw_model.specs.Choice.{ever, kept, is_counted, IsLogged, AllLogged}
use Rattle.fw_model.specs.Writes.{HasOne, LogsSerial, not_collected}
use Rattle.fw_model.specs.Machine.{Machine, SerialEvent, Write, Stage, in_flight, acknowledged, collected, checkpoint, logged_event, front_of, is_failed, Written as WrittenBy}
use Rattle.fw_model.proofs.AskedLaws.{IsApart, AreSerialsBelow, serials-each}
use Rattle.fw_model.proofs.RestoringLaws.{apart-events, all-logged}
use Rattle.fw_model.proofs.WriteLaws.{HoldsOfOne, some-passed, NamesEvent, LogsEvent, some-logged, logged-some, ArePairs}
use Rattle.fw_model.specs.LawsOfWrites.{IsLoggedFor}
use Rattle.fw_record.specs.Event.{stamp_of_event}
use Rattle.fw_keep.specs.declared.entry.Entry.{Entry}
use Rattle.fw_keep.specs.declared.entry.Written.{Written}
use Rattle.fw_keep.specs.declared.entry.Written.TheVariants as written
use Rattle.fw_policy.specs.View.{HasEventAt, IsEventAt, IsUnlogged, IsLostAt, KnowsLosses, ReadsAsWrite, IsReadAs, AreReadAs}
use Rattle.fw_policy.specs.Offering.{stamp_of_written, unlogged_by, stamps_in_flight, unlogged_stamps}
use Rattle.fw_model.proofs.SentStandLaws.{IsOne, one-contained, contained-one}
use Rattle.fw_model.proofs.ThinnedLaws.{each-contained}

-- ---- lists

pub one-first : (t : Stamp) (ss ts : List Stamp) → IsOne t ss → IsOne t (ss ++ ts)
one-first t [] ts i = absurd i
one-first t (s ∷ ss) ts (inl e) = inl e
one-first t (s ∷ ss) ts (inr i) = inr (one-first t ss ts i)

pub one-last : (t : Stamp) (ss ts : List Stamp) → IsOne t ts → IsOne t (ss ++ ts)
one-last t [] ts i = i
one-last t (s ∷ ss) ts i = inr (one-last t ss ts i)

one-either : (t : Stamp) (ss ts : List Stamp) → IsOne t (ss ++ ts) → IsOne t ss ⊎ IsOne t ts
one-either t [] ts i = inr i
one-either t (s ∷ ss) ts (inl e) = inl (inl e)
one-either t (s ∷ ss) ts (inr i) = elim (one-either t ss ts i) [ inl k ↦ inl (inr k) | inr k ↦ inr k ]

meets : {A : Type 0} (P Q : A → Type 0) (xs : List A) → AllByRecursion P xs → HoldsOfOne Q xs → (x : A) × P x × Q x
meets P Q [] a k = absurd k
meets P Q (x ∷ xs) a (inl k) = (x, a.0, k)
meets P Q (x ∷ xs) a (inr k) = meets P Q xs a.1 k

-- ---- logged or not

names-is : (serial : ℕ) (w : WrittenBy) (far : Stage) → NamesEvent serial w far → (w ≡ logged_event serial) × (is_counted ever far ≡ true)
names-is serial (checkpoint f low) far k = absurd k
names-is serial (logged_event s) far k = (ap logged_event k.0, k.1)

logged-or_not : (serial : ℕ) (writes : List Write) → IsLogged serial writes ⊎ (IsLogged serial writes → ⊥)
logged-or_not serial [] = inr (λ k. k)
logged-or_not serial (write ∷ writes) = by write.node write.written write.stage (logged-or_not serial writes)
  where
    by : (n : ℕ) (w : WrittenBy) (far : Stage) → IsLogged serial writes ⊎ (IsLogged serial writes → ⊥)
        → IsLogged serial (record write { node = n; written = w; stage = far } ∷ writes) ⊎ (IsLogged serial (record write { node = n; written = w; stage = far } ∷ writes) → ⊥)
    by n (checkpoint f low) far rest = elim rest [ inl k ↦ inl (inr k) | inr k ↦ inr (λ a. elim a [ inl b ↦ absurd b | inr b ↦ k b ]) ]
    by n (logged_event s) far rest = elim rest [
      | inl k ↦ inl (inr k)
      | inr k ↦ elim (cases_Bool (s == serial)) [
        | inl e ↦ elim (cases_Bool (is_counted ever far)) [
          | inl c ↦ inl (inl (eqb-true s serial e, c))
          | inr c ↦ inr (λ a. elim a [ inl b ↦ two_ways (is_counted ever far) b.1 c | inr b ↦ k b ])
        ]
        | inr e ↦ inr (λ a. elim a [ inl b ↦ two_ways (s == serial) (eq-eqb s serial b.0) e | inr b ↦ k b ])
      ]
    ]

-- a write in flight logs the event
abbrev IsFlying : ℕ → Write → Type 0
IsFlying serial x = (x.written ≡ logged_event serial) × (x.stage ≡ in_flight)

-- then no other write logged it
flying-alone : (serial : ℕ) (xs : List Write) → ArePairs IsApart xs → HoldsOfOne (IsFlying serial) xs → HoldsOfOne (LogsEvent serial) xs → ⊥
flying-alone serial [] a k l = k
flying-alone serial (x ∷ xs) a (inl k) (inl l) =
    let c : false ≡ true = sym (ap (is_counted ever) k.1) ∙ (names-is serial x.written x.stage l).1 in cc
flying-alone serial (x ∷ xs) a (inl k) (inr l) =
    let m = meets (λ (y : Write). IsApart x.node x.written y.node y.written) (LogsEvent serial) xs a.0 l in
    apart-events serial x.node x.written (m.0).node (m.0).written m.1 k.0 (names-is serial (m.0).written (m.0).stage m.2).0
flying-alone serial (x ∷ xs) a (inr k) (inl l) =
    let m = meets (λ (y : Write). IsApart x.node x.written y.node y.written) (IsFlying serial) xs a.0 k in
    apart-events serial x.node x.written (m.0).node (m.0).written m.1 (names-is serial x.written x.stage l).0 (m.2).0
flying-alone serial (x ∷ xs) a (inr k) (inr l) = flying-alone serial xs a.1 k l

-- ---- the stamps of entries in flight

-- a write of node p in flight logs an event at t
record FliesAt (sys : System) (state : Machine) (p : ℕ) (t : Stamp) (x : Write) : Type 0 where
  serial : ℕ
  node : x.node ≡ p
  flying : IsFlying serial x
  event : HasEventAt sys.flow p serial t state.history

is-flying : (far : Stage) (b : Bool) → b ≡ is_counted kept far → not b ≡ true → (far ≡ collected → ⊥) → far ≡ in_flight
is-flying in_flight b e k n = refl
is-flying acknowledged b e k n = let c : false ≡ true = sym (ap not e) ∙ k in cc
is-flying collected b e k n = absurd (n refl)

held-flies : (sys : System) (state : Machine) (of : Write) (q p : ℕ) (t : Stamp) (w : Written) (v : WrittenBy) (far : Stage) → ReadsAsWrite sys state q w v → q ≡ p → far ≡ in_flight
    → IsOne t (stamp_of_written w) → FliesAt sys state p t (record of { node = q; written = v; stage = far })
held-flies sys state of q p t (written.Checkpoint r stamps sent) v far h e f i = absurd i
held-flies sys state of q p t (written.Event event) (checkpoint g low) far h e f i = absurd h
held-flies sys state of q p t (written.Event event) (logged_event s) far h e f i = elim i [
  | inl k ↦ record {
    serial = s;
    node = e;
    flying = (refl, f);
    event = subst (λ (x : Stamp). HasEventAt sys.flow p s x state.history) k
        (subst (λ n. HasEventAt sys.flow n s (stamp_of_event event) state.history) e h);
  }
  | inr k ↦ absurd k
]

entry-flies : (sys : System) (state : Machine) (p : ℕ) (t : Stamp) (entry : Entry) (write : Write) → IsReadAs sys state entry write → (write.stage ≡ collected → ⊥)
    → IsOne t (unlogged_by p entry) → FliesAt sys state p t write
entry-flies sys state p t entry write k n =
    cond_both (entry.node == p && not entry.acknowledged) (stamp_of_written entry.written) [] (λ ss. IsOne t ss → FliesAt sys state p t write)
    (λ e i.
    let a = and_parts (entry.node == p) (not entry.acknowledged) e in
    held-flies sys state write write.node p t entry.written write.written write.stage k.holds (sym k.node ∙ eqb-true entry.node p a.0)
    (is-flying write.stage entry.acknowledged k.acknowledged a.1 n) i)
    (λ e i. absurd i)

entries-fly : (sys : System) (state : Machine) (p : ℕ) (t : Stamp) (entries : List Entry) (writes : List Write) → AreReadAs sys state entries writes
    → AllByRecursion (λ (x : Write). x.stage ≡ collected → ⊥) writes → IsOne t (flat_map (unlogged_by p) entries) → HoldsOfOne (FliesAt sys state p t) writes
entries-fly sys state p t [] writes a n i = absurd i
entries-fly sys state p t (entry ∷ entries) [] a n i = absurd a
entries-fly sys state p t (entry ∷ entries) (write ∷ writes) a n i = elim (one-either t (unlogged_by p entry) (flat_map (unlogged_by p) entries) i) [
  | inl k ↦ inl (entry-flies sys state p t entry write a.0 n.0 k)
  | inr k ↦ inr (entries-fly sys state p t entries writes a.1 n.1 k)
]

-- and where a write is in flight, its entry has the stamp
record IsEntered (sys : System) (state : Machine) (p serial : ℕ) (ss : List Stamp) : Type 0 where
  at : Stamp
  there : IsOne at ss
  event : HasEventAt sys.flow p serial at state.history

held-entered : (sys : System) (state : Machine) (q p serial : ℕ) (w : Written) (v : WrittenBy) → ReadsAsWrite sys state q w v → q ≡ p → v ≡ logged_event serial
    → IsEntered sys state p serial (stamp_of_written w)
held-entered sys state q p serial (written.Checkpoint r stamps sent) (checkpoint g low) h e k = cc
held-entered sys state q p serial (written.Checkpoint r stamps sent) (logged_event s) h e k = absurd h
held-entered sys state q p serial (written.Event event) (checkpoint g low) h e k = absurd h
held-entered sys state q p serial (written.Event event) (logged_event s) h e k =
    record {
      at = stamp_of_event event;
      there = inl refl;
      event = subst (λ n. HasEventAt sys.flow p n (stamp_of_event event) state.history) (ap (serial_in s) k)
          (subst (λ n. HasEventAt sys.flow n s (stamp_of_event event) state.history) e h);
    }
  where
    serial_in : ℕ → WrittenBy → ℕ
    serial_in d (checkpoint f low) = d
    serial_in d (logged_event n) = n

-- a write of node p in flight logs it
abbrev FliesFor : ℕ → ℕ → Write → Type 0
FliesFor p serial x = (x.node ≡ p) × IsFlying serial x

entries-entered : (sys : System) (state : Machine) (p serial : ℕ) (entries : List Entry) (writes : List Write) → AreReadAs sys state entries writes
    → HoldsOfOne (FliesFor p serial) writes → IsEntered sys state p serial (flat_map (unlogged_by p) entries)
entries-entered sys state p serial [] [] a k = absurd k
entries-entered sys state p serial [] (write ∷ writes) a k = absurd a
entries-entered sys state p serial (entry ∷ entries) [] a k = absurd a
entries-entered sys state p serial (entry ∷ entries) (write ∷ writes) a (inl k) =
    let b = a.0 in
    let e : (entry.node == p && not entry.acknowledged) ≡ true =
    and_from (entry.node == p) (not entry.acknowledged) (eq-eqb entry.node p (b.node ∙ k.0)) (ap not (b.acknowledged ∙ ap (is_counted kept) (k.1).1)) in
    let h = held-entered sys state write.node p serial entry.written write.written b.holds k.0 (k.1).0 in
    record {
      at = h.at;
      there = one-first h.at (unlogged_by p entry) (flat_map (unlogged_by p) entries) (subst (λ c. IsOne h.at (cond c (stamp_of_written entry.written) [])) (sym e) h.there);
      event = h.event;
    }
entries-entered sys state p serial (entry ∷ entries) (write ∷ writes) a (inr k) =
    let r = entries-entered sys state p serial entries writes a.1 k in
    record { at = r.at; there = one-last r.at (unlogged_by p entry) (flat_map (unlogged_by p) entries) r.there; event = r.event }

-- ---- events by their serials

-- an event of the history
record IsThere (sys : System) (p serial : ℕ) (t : Stamp) (h : List SerialEvent) : Type 0 where
  event : SerialEvent
  there : Contains h event
  is : IsEventAt sys.flow p serial t event

has-there : (sys : System) (p serial : ℕ) (t : Stamp) (h : List SerialEvent) → HasEventAt sys.flow p serial t h → IsThere sys p serial t h
has-there sys p serial t [] k = absurd k
has-there sys p serial t (v ∷ h) (inl k) = record { event = v; there = (0, omega arith, refl); is = k }
has-there sys p serial t (v ∷ h) (inr k) =
    let r = has-there sys p serial t h k in
    let c = r.there in
    let l = c.1 in
    record { event = r.event; there = (suc c.0, omega arith, c.2); is = r.is }

-- an event below the number has no serial from it on
has-below : (sys : System) (p serial : ℕ) (t : Stamp) (n : ℕ) (h : List SerialEvent) → AreSerialsBelow n h → HasEventAt sys.flow p serial t h → serial < n
has-below sys p serial t n [] b k = absurd k
has-below sys p serial t n (v ∷ h) b (inl k) = let l = b.0 in let s = k.same_serial in omega arith
has-below sys p serial t n (v ∷ h) b (inr k) = let l = b.0 in let m = has-below sys p serial t v.serial h b.1 k in omega arith

-- events of one serial are one
one-serial : (sys : System) (p serial : ℕ) (t : Stamp) (n : ℕ) (h : List SerialEvent) → AreSerialsBelow n h → HasEventAt sys.flow p serial t h
    → AllByRecursion (λ (v : SerialEvent). v.serial ≡ serial → event_stamp v.event ≡ t) h
one-serial sys p serial t n [] b k = tt
one-serial sys p serial t n (v ∷ h) b (inl k) = (
  λ e. k.stamp,
  each-weaker (λ (u : SerialEvent). u.serial < v.serial) (λ u. u.serial ≡ serial → event_stamp u.event ≡ t) h
      (λ u l e. let s = k.same_serial in absurd (omega arith)) (serials-each v.serial v.serial h (omega arith) b.1),
)
one-serial sys p serial t n (v ∷ h) b (inr k) = (
  λ e. let l = has-below sys p serial t v.serial h b.1 k in absurd (omega arith),
  one-serial sys p serial t v.serial h b.1 k,
)

-- ---- what is not logged

-- what of a state the laws rest on
pub record IsOfEntries (sys : System) (state : Machine) (p : ℕ) (entries : List Entry) : Type 0 where
  pub written : AreReadAs sys state entries (filter not_collected state.writes)
  pub apart : ArePairs IsApart state.writes
  pub serials : AreSerialsBelow state.next state.history
  pub live : is_failed state p ≡ false → AllByRecursion (λ (v : SerialEvent). event_node sys.flow v.event ≡ p → IsLoggedFor p v.serial state.writes) state.history

not-collected : (x : Write) → not_collected x ≡ true → x.stage ≡ collected → ⊥
not-collected x k e = let c : false ≡ true = sym (ap (λ far. not_collected (record x { stage = far })) e) ∙ k in cc

each-uncollected : (xs : List Write) → AllByRecursion (λ (x : Write). x.stage ≡ collected → ⊥) (filter not_collected xs)
each-uncollected [] = tt
each-uncollected (x ∷ xs) =
    cond_both (not_collected x) (x ∷ filter not_collected xs) (filter not_collected xs) (AllByRecursion (λ (y : Write). y.stage ≡ collected → ⊥))
    (λ e. (not-collected x e, each-uncollected xs)) (λ e. each-uncollected xs)

pub some-filtered : {A : Type 0} (P : A → Type 0) (test : A → Bool) (xs : List A) → HoldsOfOne P (filter test xs) → HoldsOfOne P xs
some-filtered P test [] k = absurd k
some-filtered P test (x ∷ xs) k =
    (cond_both (test x) (x ∷ filter test xs) (filter test xs) (λ ys. HoldsOfOne P ys → P x ⊎ HoldsOfOne P xs)
    (λ e i. elim i [ inl a ↦ inl a | inr r ↦ inr (some-filtered P test xs r) ])
    (λ e i. inr (some-filtered P test xs i))) k

-- the serial of a write in flight
record HasFlying (sys : System) (state : Machine) (p : ℕ) (t : Stamp) (xs : List Write) : Type 0 where
  serial : ℕ
  flying : HoldsOfOne (IsFlying serial) xs
  event : HasEventAt sys.flow p serial t state.history

has-flying : (sys : System) (state : Machine) (p : ℕ) (t : Stamp) (xs : List Write) → HoldsOfOne (FliesAt sys state p t) xs → HasFlying sys state p t xs
has-flying sys state p t [] k = absurd k
has-flying sys state p t (x ∷ xs) (inl k) = record { serial = k.serial; flying = inl k.flying; event = k.event }
has-flying sys state p t (x ∷ xs) (inr k) = let r = has-flying sys state p t xs k in record { serial = r.serial; flying = inr r.flying; event = r.event }

-- each stamp of an entry in flight is that of an event that is not logged
pub flying-unlogged : (sys : System) (state : Machine) (p : ℕ) (entries : List Entry) → IsOfEntries sys state p entries
    → (t : Stamp) → IsOne t (stamps_in_flight p entries) → IsUnlogged sys state p t
flying-unlogged sys state p entries o t i =
    let f = has-flying sys state p t state.writes (some-filtered (FliesAt sys state p t) not_collected state.writes
    (entries-fly sys state p t entries (filter not_collected state.writes) o.written (each-uncollected state.writes) i)) in
    let r = has-there sys p f.serial t state.history f.event in
    record {
      event = r.event;
      there = r.there;
      is = record { same_serial = refl; node = r.is.node; stamp = r.is.stamp };
      not_logged = λ l. flying-alone f.serial state.writes o.apart f.flying (some-logged f.serial state.writes (subst (λ n. IsLogged n state.writes) r.is.same_serial l));
    }

some-here : {A : Type 0} (P : A → Type 0) (xs : List A) (x : A) (ys : List A) → P x → HoldsOfOne P (xs ++ x ∷ ys)
some-here P [] x ys k = inl k
some-here P (y ∷ xs) x ys k = inr (some-here P xs x ys k)

logs-counts : (serial : ℕ) (w : WrittenBy) (far : Stage) → w ≡ logged_event serial → is_counted ever far ≡ true → NamesEvent serial w far
logs-counts serial (checkpoint f low) far e k = cc
logs-counts serial (logged_event s) far e k = (ap (serial_in s) e, k)
  where
    serial_in : ℕ → WrittenBy → ℕ
    serial_in d (checkpoint f low) = d
    serial_in d (logged_event n) = n

-- the one write of an event is in flight, or it logged it
one-write : (sys : System) (p serial : ℕ) (writes : List Write) (only : HasOne (LogsSerial serial) writes) → only.one.node ≡ p
    → IsLogged serial writes ⊎ HoldsOfOne (FliesFor p serial) (filter not_collected writes)
one-write sys p serial writes only n = by only.one.stage refl
  where
    by : (far : Stage) → only.one.stage ≡ far → IsLogged serial writes ⊎ HoldsOfOne (FliesFor p serial) (filter not_collected writes)
    by in_flight e = inr (some-passed (FliesFor p serial) not_collected writes (λ x k. ap (λ f. not_collected (record x { stage = f })) (k.1).1)
        (subst (λ (xs : List Write). HoldsOfOne (FliesFor p serial) xs) (sym only.there) (some-here (FliesFor p serial) only.earlier only.one only.later (n, (only.is_such, e)))))
    by acknowledged e = inl (logged-some serial writes
        (subst (λ (xs : List Write). HoldsOfOne (LogsEvent serial) xs) (sym only.there)
        (some-here (LogsEvent serial) only.earlier only.one only.later (logs-counts serial only.one.written only.one.stage only.is_such (ap (is_counted ever) e)))))
    by collected e = inl (logged-some serial writes
        (subst (λ (xs : List Write). HoldsOfOne (LogsEvent serial) xs) (sym only.there)
        (some-here (LogsEvent serial) only.earlier only.one only.later (logs-counts serial only.one.written only.one.stage only.is_such (ap (is_counted ever) e)))))

-- each event of the node is logged, or an entry of it is in flight, or it was lost
pub unlogged-has : (sys : System) (state : Machine) (p : ℕ) (entries : List Entry) → IsOfEntries sys state p entries
    → AllByRecursion (λ (v : SerialEvent). event_node sys.flow v.event ≡ p
    → IsLogged v.serial state.writes ⊎ (IsOne (event_stamp v.event) (stamps_in_flight p entries) ⊎ IsLostAt sys state p (event_stamp v.event))) state.history
unlogged-has sys state p entries o = elim (cases_Bool (is_failed state p)) [
  | inl f ↦
      each-weaker (Contains state.history) Has state.history
      (λ v c e. elim (logged-or_not v.serial state.writes) [
        | inl l ↦ inl l
        | inr n ↦ inr (inr (f, record { event = v; there = c; is = record { same_serial = refl; node = e; stamp = refl }; not_logged = n }))
      ])
      (each-there state.history)
  | inr f ↦
      each-weaker (λ (v : SerialEvent). Contains state.history v × (event_node sys.flow v.event ≡ p → IsLoggedFor p v.serial state.writes)) Has state.history
      (λ v k e. let m = k.1 e in elim (one-write sys p v.serial state.writes m.0 m.1) [
        | inl l ↦ inl l
        | inr q ↦
            let r = entries-entered sys state p v.serial entries (filter not_collected state.writes) o.written q in
            let c = k.0 in
            let s : event_stamp v.event ≡ r.at =
            each-contained (λ (u : SerialEvent). u.serial ≡ v.serial → event_stamp u.event ≡ r.at) v state.history c
            (one-serial sys p v.serial r.at state.next state.history o.serials r.event) refl in
            inr (inl (subst (λ (x : Stamp). IsOne x (stamps_in_flight p entries)) (sym s) r.there))
      ])
      (each-both (Contains state.history) (λ (v : SerialEvent). event_node sys.flow v.event ≡ p → IsLoggedFor p v.serial state.writes) state.history (each-there state.history) (o.live f))
]
  where
    Has : SerialEvent → Type 0
    Has v = event_node sys.flow v.event ≡ p
        → IsLogged v.serial state.writes ⊎ (IsOne (event_stamp v.event) (stamps_in_flight p entries) ⊎ IsLostAt sys state p (event_stamp v.event))

from-each : (sys : System) (p : ℕ) (f : Frontier) (writes : List Write) (h : List SerialEvent)
    → AllByRecursion (λ (v : SerialEvent). event_node sys.flow v.event ≡ p → f (event_stamp v.event) ≡ true → IsLogged v.serial writes) h → AllLogged sys p f writes h
from-each sys p f writes [] a = tt
from-each sys p f writes (v ∷ h) a = (a.0, from-each sys p f writes h a.1)

each-one-of : (P : Stamp → Type 0) (ss : List Stamp) → ((t : Stamp) → IsOne t ss → P t) → AllByRecursion P ss
each-one-of P [] h = tt
each-one-of P (s ∷ ss) h = (h s (inl refl), each-one-of P ss (λ t i. h t (inr i)))

one-of-each : (P : Stamp → Type 0) (t : Stamp) (ss : List Stamp) → AllByRecursion P ss → IsOne t ss → P t
one-of-each P t [] a i = absurd i
one-of-each P t (s ∷ ss) a (inl e) = subst P e a.0
one-of-each P t (s ∷ ss) a (inr i) = one-of-each P t ss a.1 i

-- where f lies within what is settled, all events inside are logged exactly where none of these stamps is inside
pub logged-outside : (sys : System) (state : Machine) (p : ℕ) (entries : List Entry) (lost : List Stamp) → IsOfEntries sys state p entries → KnowsLosses sys state p lost → (f : Frontier)
    → ((s t : Stamp) → leq s t ≡ true → f t ≡ true → f s ≡ true) → Within f (node_frontier sys.flow p (front_of state.settled p))
    → AllLogged sys p f state.writes state.history ↔ AllByRecursion (λ s. f s ≡ false) (unlogged_stamps p entries lost)
logged-outside sys state p entries lost o known f closed within = (
  λ a. each-one-of (λ s. f s ≡ false) (unlogged_stamps p entries lost) (λ t i.
      false_from_ne_true (f t) (λ k. elim (one-either t (stamps_in_flight p entries) lost i) [
        | inl j ↦ not-inside a t (flying-unlogged sys state p entries o t j) k
        | inr j ↦ let h = (known t (within t k)).0 (t, one-contained t lost j, leq-refl t) in not-inside a h.0 (h.1).1 (closed h.0 t h.2 k)
      ])),
  λ a. from-each sys p f state.writes state.history
      (each-weaker (λ (v : SerialEvent). event_node sys.flow v.event ≡ p
      → IsLogged v.serial state.writes ⊎ (IsOne (event_stamp v.event) (stamps_in_flight p entries) ⊎ IsLostAt sys state p (event_stamp v.event)))
      (λ v. event_node sys.flow v.event ≡ p → f (event_stamp v.event) ≡ true → IsLogged v.serial state.writes) state.history
      (λ v k e i. elim (k e) [ inl l ↦ l | inr out ↦ absurd (none-inside a (event_stamp v.event) i out) ])
      (unlogged-has sys state p entries o)),
)
  where
    not-inside : AllLogged sys p f state.writes state.history → (t : Stamp) → IsUnlogged sys state p t → f t ≡ true → ⊥
    not-inside a t u k =
        u.not_logged (each-contained (λ (v : SerialEvent). event_node sys.flow v.event ≡ p → f (event_stamp v.event) ≡ true → IsLogged v.serial state.writes) u.event state.history u.there
        (all-logged sys p f state.writes state.history a) u.is.node (ap f u.is.stamp ∙ k))

    none-inside : AllByRecursion (λ s. f s ≡ false) (unlogged_stamps p entries lost) → (t : Stamp) → f t ≡ true
        → IsOne t (stamps_in_flight p entries) ⊎ IsLostAt sys state p t → ⊥
    none-inside a t k (inl j) = two_ways (f t) k (one-of-each (λ s. f s ≡ false) t (unlogged_stamps p entries lost) a (one-first t (stamps_in_flight p entries) lost j))
    none-inside a t k (inr j) =
        let h = (known t (within t k)).1 (t, j, leq-refl t) in
        two_ways (f h.0) (closed h.0 t h.2 k)
        (one-of-each (λ s. f s ≡ false) h.0 (unlogged_stamps p entries lost) a (one-last h.0 (stamps_in_flight p entries) lost (contained-one h.0 lost h.1)))
