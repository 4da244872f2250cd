-- What nodes with checkpoints offer, and what counts there.
use Rattle.std.proofs.Common.{◌≡◌, ◌≢◌, ◌⊎◌, ◌↔◌, inl, inr, ℕ, ◌<◌, Bool, true, false, cond, ◌&&◌, ◌==◌, List, [], ◌∷◌, ◌++◌, length, refl, sym, ◌∙◌, ap, subst}
use Rattle.std.specs.Prelude.{filter}
use Rattle.std.specs.List.{AllByRecursion}
use Rattle.std.proofs.lemmas.Bool.{cond_both, and_parts, and_from, eqb-true, eq-eqb}
use Rattle.fw_lemmas.proofs.Bools.{two_ways}
use Rattle.fw_lemmas.proofs.Each.{each-append, each-kept}
use Rattle.fw_time.specs.declared.stamp.Bounds.{Bounds}
use Rattle.fw_frontier.specs.Frontier.{Within}
use Rattle.fw_frontier.specs.Front.{Front, frontier_of, is_within}
use Rattle.fw_flow.specs.declared.choice.Recorded.{Recorded}
use Rattle.fw_flow.specs.Dataflow.{System, bounds_of}
use Rattle.fw_model.specs.Choice.{kept, is_counted, HasCheckpoint}
use Rattle.fw_model.specs.Machine.{Machine, Write, Stage, in_flight, acknowledged, collected, checkpoint, logged_event, no_stamps, Written as WrittenBy}
use Rattle.fw_model.proofs.AskedLaws.{IsApart}
use Rattle.fw_model.proofs.WriteLaws.{HoldsOfOne, IsCheckpointAt, IsItsCheckpoint, some-checkpoint, checkpoint-some, some-passed, ArePairs, LiesBelow}
use Rattle.fw_model.specs.Offers.{IsListed, Ascend}
use Rattle.fw_keep.specs.declared.entry.Entry.{Entry}
use Rattle.fw_keep.specs.declared.entry.Written.{Written}
use Rattle.fw_keep.specs.declared.entry.Written.TheVariants as written
use Rattle.fw_policy.specs.Entries.{IsRecorded}
use Rattle.fw_policy.specs.View.{ReadsAsWrite, IsReadAs, AreReadAs}
use Rattle.fw_policy.specs.Offering.{record_in, record_by, records_by, holding}
use Rattle.fw_policy.proofs.UnloggedLaws.{some-filtered}

-- ---- the records of the entries hold what counts

IsOwn : System → Machine → ℕ → Recorded → Type 0
IsOwn sys state p r = IsRecorded sys state p r.front r

own-front : (sys : System) (state : Machine) (p : ℕ) (f : Front) (r : Recorded) → IsRecorded sys state p f r → IsRecorded sys state p r.front r
own-front sys state p f r k = subst (λ (g : Front). IsRecorded sys state p g r) (sym k.front) k

held-record : (sys : System) (state : Machine) (p : ℕ) (w : Written) (v : WrittenBy) → ReadsAsWrite sys state p w v
    → AllByRecursion (λ (r : Recorded). IsRecorded sys state p r.front r) (record_in w)
held-record sys state p (written.Checkpoint r stamps sent) (checkpoint f low) h = (own-front sys state p f r h, tt)
held-record sys state p (written.Checkpoint r stamps sent) (logged_event s) h = absurd h
held-record sys state p (written.Event event) v h = tt

entry-record : (sys : System) (state : Machine) (p : ℕ) (entry : Entry) (write : Write) → IsReadAs sys state entry write
    → AllByRecursion (λ (r : Recorded). IsRecorded sys state p r.front r) (record_by p entry)
entry-record sys state p entry write k =
    cond_both (entry.node == p && entry.acknowledged) (record_in entry.written) [] (AllByRecursion (λ (r : Recorded). IsRecorded sys state p r.front r))
    (λ e.
    let i : write.node ≡ p = sym k.node ∙ eqb-true entry.node p (and_parts (entry.node == p) entry.acknowledged e).0 in
    subst (λ q. AllByRecursion (λ (r : Recorded). IsRecorded sys state q r.front r) (record_in entry.written)) i
    (held-record sys state write.node entry.written write.written k.holds))
    (λ e. tt)

pub entries-recorded : (sys : System) (state : Machine) (p : ℕ) (entries : List Entry) (writes : List Write) → AreReadAs sys state entries writes
    → AllByRecursion (λ (r : Recorded). IsRecorded sys state p r.front r) (records_by p entries)
entries-recorded sys state p [] [] a = tt
entries-recorded sys state p [] (write ∷ writes) a = absurd a
entries-recorded sys state p (entry ∷ entries) [] a = absurd a
entries-recorded sys state p (entry ∷ entries) (write ∷ writes) a =
    each-append _ (record_by p entry) (records_by p entries) (entry-record sys state p entry write a.0) (entries-recorded sys state p entries writes a.1)

-- ---- their frontiers are those of the kept checkpoints

listed-later : (f : Front) (rs ss : List Recorded) → IsListed f ss → IsListed f (rs ++ ss)
listed-later f [] ss i = i
listed-later f (r ∷ rs) ss i = inr (listed-later f rs ss i)

listed-first : (f : Front) (rs ss : List Recorded) → IsListed f rs → IsListed f (rs ++ ss)
listed-first f [] ss i = absurd i
listed-first f (r ∷ rs) ss (inl e) = inl e
listed-first f (r ∷ rs) ss (inr i) = inr (listed-first f rs ss i)

listed-either : (f : Front) (rs ss : List Recorded) → IsListed f (rs ++ ss) → IsListed f rs ⊎ IsListed f ss
listed-either f [] ss i = inr i
listed-either f (r ∷ rs) ss (inl e) = inl (inl e)
listed-either f (r ∷ rs) ss (inr i) = elim (listed-either f rs ss i) [ inl k ↦ inl (inr k) | inr k ↦ inr k ]

record-checkpoint : (sys : System) (state : Machine) (q p : ℕ) (f : Front) (w : Written) (v : WrittenBy) (far : Stage) → ReadsAsWrite sys state q w v → q ≡ p → is_counted kept far ≡ true
    → IsListed f (record_in w) → IsCheckpointAt kept p f q v far
record-checkpoint sys state q p f (written.Checkpoint r stamps sent) (checkpoint g low) far h e k i = elim i [ inl d ↦ (e, sym (h).front ∙ d, k) | inr l ↦ absurd l ]
record-checkpoint sys state q p f (written.Checkpoint r stamps sent) (logged_event s) far h e k i = absurd h
record-checkpoint sys state q p f (written.Event event) v far h e k i = absurd i

checkpoint-record : (sys : System) (state : Machine) (q p : ℕ) (f : Front) (w : Written) (v : WrittenBy) (far : Stage) → ReadsAsWrite sys state q w v
    → IsCheckpointAt kept p f q v far → (q ≡ p) × (is_counted kept far ≡ true) × IsListed f (record_in w)
checkpoint-record sys state q p f (written.Checkpoint r stamps sent) (checkpoint g low) far h k = (k.0, k.2, inl ((h).front ∙ k.1))
checkpoint-record sys state q p f (written.Checkpoint r stamps sent) (logged_event s) far h k = absurd h
checkpoint-record sys state q p f (written.Event event) (checkpoint g low) far h k = absurd h
checkpoint-record sys state q p f (written.Event event) (logged_event s) far h k = absurd k

entry-checkpoint : (sys : System) (state : Machine) (p : ℕ) (f : Front) (entry : Entry) (write : Write) → IsReadAs sys state entry write
    → IsListed f (record_by p entry) → IsItsCheckpoint kept p f write
entry-checkpoint sys state p f entry write k =
    cond_both (entry.node == p && entry.acknowledged) (record_in entry.written) [] (λ rs. IsListed f rs → IsItsCheckpoint kept p f write)
    (λ e i.
    let a = and_parts (entry.node == p) entry.acknowledged e in
    record-checkpoint sys state write.node p f entry.written write.written write.stage k.holds (sym k.node ∙ eqb-true entry.node p a.0)
    (sym k.acknowledged ∙ a.1) i)
    (λ e i. absurd i)

checkpoint-entry : (sys : System) (state : Machine) (p : ℕ) (f : Front) (entry : Entry) (write : Write) → IsReadAs sys state entry write
    → IsItsCheckpoint kept p f write → IsListed f (record_by p entry)
checkpoint-entry sys state p f entry write k c =
    let a = checkpoint-record sys state write.node p f entry.written write.written write.stage k.holds c in
    let e : (entry.node == p && entry.acknowledged) ≡ true = and_from (entry.node == p) entry.acknowledged (eq-eqb entry.node p (k.node ∙ a.0)) (k.acknowledged ∙ a.1) in
    subst (λ b. IsListed f (cond b (record_in entry.written) [])) (sym e) a.2

entries-some : (sys : System) (state : Machine) (p : ℕ) (f : Front) (entries : List Entry) (writes : List Write) → AreReadAs sys state entries writes
    → IsListed f (records_by p entries) → HoldsOfOne (IsItsCheckpoint kept p f) writes
entries-some sys state p f [] [] a i = absurd i
entries-some sys state p f [] (write ∷ writes) a i = absurd a
entries-some sys state p f (entry ∷ entries) [] a i = absurd a
entries-some sys state p f (entry ∷ entries) (write ∷ writes) a i = elim (listed-either f (record_by p entry) (records_by p entries) i) [
  | inl k ↦ inl (entry-checkpoint sys state p f entry write a.0 k)
  | inr k ↦ inr (entries-some sys state p f entries writes a.1 k)
]

some-entries : (sys : System) (state : Machine) (p : ℕ) (f : Front) (entries : List Entry) (writes : List Write) → AreReadAs sys state entries writes
    → HoldsOfOne (IsItsCheckpoint kept p f) writes → IsListed f (records_by p entries)
some-entries sys state p f [] [] a i = absurd i
some-entries sys state p f [] (write ∷ writes) a i = absurd a
some-entries sys state p f (entry ∷ entries) [] a i = absurd a
some-entries sys state p f (entry ∷ entries) (write ∷ writes) a (inl k) =
    listed-first f (record_by p entry) (records_by p entries) (checkpoint-entry sys state p f entry write a.0 k)
some-entries sys state p f (entry ∷ entries) (write ∷ writes) a (inr k) =
    listed-later f (record_by p entry) (records_by p entries) (some-entries sys state p f entries writes a.1 k)

its-uncollected : (test : Stage → Bool) → test acknowledged ≡ true → (p : ℕ) (f : Front) (n : ℕ) (w : WrittenBy) (far : Stage) → IsCheckpointAt kept p f n w far → test far ≡ true
its-uncollected test k p f n (checkpoint g low) in_flight a = let c : false ≡ true = a.2 in cc
its-uncollected test k p f n (checkpoint g low) acknowledged a = k
its-uncollected test k p f n (checkpoint g low) collected a = let c : false ≡ true = a.2 in cc
its-uncollected test k p f n (logged_event s) far a = absurd a

-- what the entries of node p list are the checkpoints that are kept
pub listed-checkpoint : (sys : System) (state : Machine) (test : Stage → Bool) → test acknowledged ≡ true → (p : ℕ) (f : Front) (entries : List Entry) (writes : List Write)
    → AreReadAs sys state entries (filter (λ (write : Write). test write.stage) writes) → IsListed f (records_by p entries) ↔ HasCheckpoint kept p f writes
listed-checkpoint sys state test k p f entries writes a = (
  λ i. checkpoint-some kept p f writes (some-filtered (IsItsCheckpoint kept p f) (λ (write : Write). test write.stage) writes
      (entries-some sys state p f entries (filter (λ (write : Write). test write.stage) writes) a i)),
  λ c. some-entries sys state p f entries (filter (λ (write : Write). test write.stage) writes) a
      (some-passed (IsItsCheckpoint kept p f) (λ (write : Write). test write.stage) writes
      (λ write d. its-uncollected test k p f write.node write.written write.stage d) (some-checkpoint kept p f writes c)),
)

-- ---- the frontiers ascend

-- of two that are written of one node both lie in order and apart, if both are checkpoints
abbrev pub IsUnder : System → ℕ → WrittenBy → ℕ → WrittenBy → Type 0
IsUnder sys p v q w = LiesBelow sys p v q w × IsApart p v q w

pub pairs-both : (R S : ℕ → WrittenBy → ℕ → WrittenBy → Type 0) (xs : List Write) → ArePairs R xs → ArePairs S xs → ArePairs (λ p v q w. R p v q w × S p v q w) xs
pairs-both R S [] a b = tt
pairs-both R S (x ∷ xs) a b = (both xs a.0 b.0, pairs-both R S xs a.1 b.1)
  where
    both : (ys : List Write) → AllByRecursion (λ (y : Write). R x.node x.written y.node y.written) ys → AllByRecursion (λ (y : Write). S x.node x.written y.node y.written) ys
        → AllByRecursion (λ (y : Write). R x.node x.written y.node y.written × S x.node x.written y.node y.written) ys
    both [] c d = tt
    both (y ∷ ys) c d = ((c.0, d.0), both ys c.1 d.1)

-- a record lies within another, and is not the same
abbrev Rises : Bounds → Recorded → Recorded → Type 0
Rises b r s = Within (frontier_of b r.front) (frontier_of b s.front) × (r.front ≢ s.front)

held-rises : (sys : System) (state : Machine) (p q m : ℕ) (x y : Written) (v w : WrittenBy) → p < length sys.flow.nodes → q ≡ p → m ≡ p → ReadsAsWrite sys state q x v → ReadsAsWrite sys state m y w
    → IsUnder sys q v m w → AllByRecursion (λ (r : Recorded). AllByRecursion (Rises (bounds_of sys.flow p) r) (record_in y)) (record_in x)
held-rises sys state p q m (written.Checkpoint r stamps sent) (written.Checkpoint s others count) (checkpoint f k) (checkpoint g l) d e i a b u =
    let same : q ≡ m = e ∙ sym i in
    let lies = u.0 same (subst (λ n. n < length sys.flow.nodes) (sym e) d) in (
      (
        (
          subst (λ (z : Front). Within (frontier_of (bounds_of sys.flow p) z) (frontier_of (bounds_of sys.flow p) s.front)) (sym a.front)
              (subst (λ (z : Front). Within (frontier_of (bounds_of sys.flow p) f) (frontier_of (bounds_of sys.flow p) z)) (sym b.front)
              (subst (λ n. Within (frontier_of (bounds_of sys.flow n) f) (frontier_of (bounds_of sys.flow n) g)) e lies)),
          λ c. u.1 same (sym a.front ∙ c ∙ b.front),
        ),
        tt,
      ),
      tt,
    )
held-rises sys state p q m (written.Checkpoint r stamps sent) (written.Checkpoint s others count) (checkpoint f k) (logged_event t) d e i a b u = absurd b
held-rises sys state p q m (written.Checkpoint r stamps sent) (written.Checkpoint s others count) (logged_event t) w d e i a b u = absurd a
held-rises sys state p q m (written.Checkpoint r stamps sent) (written.Event event) v w d e i a b u = (tt, tt)
held-rises sys state p q m (written.Event event) y v w d e i a b u = tt

entry-rises : (sys : System) (state : Machine) (p : ℕ) (x y : Entry) (v w : Write) → p < length sys.flow.nodes → IsReadAs sys state x v → IsReadAs sys state y w
    → IsUnder sys v.node v.written w.node w.written → AllByRecursion (λ (r : Recorded). AllByRecursion (Rises (bounds_of sys.flow p) r) (record_by p y)) (record_by p x)
entry-rises sys state p x y v w d a b u =
    let A : List Recorded → List Recorded → Type 0 = λ rs ss. AllByRecursion (λ (r : Recorded). AllByRecursion (Rises (bounds_of sys.flow p) r) ss) rs in
    let none : (rs : List Recorded) → A rs [] = λ rs. each-none rs in
    cond_both (x.node == p && x.acknowledged) (record_in x.written) [] (λ rs. A rs (record_by p y))
    (λ e. cond_both (y.node == p && y.acknowledged) (record_in y.written) [] (λ ss. A (record_in x.written) ss)
    (λ i. held-rises sys state p v.node w.node x.written y.written v.written w.written d
    (sym a.node ∙ eqb-true x.node p (and_parts (x.node == p) x.acknowledged e).0) (sym b.node ∙ eqb-true y.node p (and_parts (y.node == p) y.acknowledged i).0) a.holds b.holds u)
    (λ i. none (record_in x.written)))
    (λ e. tt)
  where
    each-none : (rs : List Recorded) → AllByRecursion (λ (r : Recorded). AllByRecursion (Rises (bounds_of sys.flow p) r) []) rs
    each-none [] = tt
    each-none (r ∷ rs) = (tt, each-none rs)

each-rises : (b : Bounds) (rs xs ys : List Recorded) → AllByRecursion (λ (r : Recorded). AllByRecursion (Rises b r) xs) rs
    → AllByRecursion (λ (r : Recorded). AllByRecursion (Rises b r) ys) rs → AllByRecursion (λ (r : Recorded). AllByRecursion (Rises b r) (xs ++ ys)) rs
each-rises b [] xs ys a c = tt
each-rises b (r ∷ rs) xs ys a c = (each-append (Rises b r) xs ys a.0 c.0, each-rises b rs xs ys a.1 c.1)

each-nothing : (b : Bounds) (rs : List Recorded) → AllByRecursion (λ (r : Recorded). AllByRecursion (Rises b r) []) rs
each-nothing b [] = tt
each-nothing b (r ∷ rs) = (tt, each-nothing b rs)

entry-under : (sys : System) (state : Machine) (p : ℕ) (x : Entry) (v : Write) (entries : List Entry) (writes : List Write) → p < length sys.flow.nodes → IsReadAs sys state x v
    → AreReadAs sys state entries writes → AllByRecursion (λ (w : Write). IsUnder sys v.node v.written w.node w.written) writes
    → AllByRecursion (λ (r : Recorded). AllByRecursion (Rises (bounds_of sys.flow p) r) (records_by p entries)) (record_by p x)
entry-under sys state p x v [] [] d k a u = each-nothing (bounds_of sys.flow p) (record_by p x)
entry-under sys state p x v [] (write ∷ writes) d k a u = absurd a
entry-under sys state p x v (entry ∷ entries) [] d k a u = absurd a
entry-under sys state p x v (entry ∷ entries) (write ∷ writes) d k a u =
    each-rises (bounds_of sys.flow p) (record_by p x) (record_by p entry) (records_by p entries) (entry-rises sys state p x entry v write d k a.0 u.0)
    (entry-under sys state p x v entries writes d k a.1 u.1)

-- one entry has one record at most
ascend-append : (b : Bounds) (rs ss : List Recorded) → Ascend b rs → Ascend b ss → AllByRecursion (λ (r : Recorded). AllByRecursion (Rises b r) ss) rs → Ascend b (rs ++ ss)
ascend-append b [] ss a c u = c
ascend-append b (r ∷ rs) ss a c u = (each-append (Rises b r) rs ss a.0 u.0, ascend-append b rs ss a.1 c u.1)

ascend-in : (b : Bounds) (w : Written) → Ascend b (record_in w)
ascend-in b (written.Checkpoint r stamps sent) = (tt, tt)
ascend-in b (written.Event event) = tt

pub entries-ascend : (sys : System) (state : Machine) (p : ℕ) (entries : List Entry) (writes : List Write) → p < length sys.flow.nodes → AreReadAs sys state entries writes
    → ArePairs (IsUnder sys) writes → Ascend (bounds_of sys.flow p) (records_by p entries)
entries-ascend sys state p [] [] d a u = tt
entries-ascend sys state p [] (write ∷ writes) d a u = absurd a
entries-ascend sys state p (entry ∷ entries) [] d a u = absurd a
entries-ascend sys state p (entry ∷ entries) (write ∷ writes) d a u =
    ascend-append (bounds_of sys.flow p) (record_by p entry) (records_by p entries)
    (cond_both (entry.node == p && entry.acknowledged) (record_in entry.written) [] (Ascend (bounds_of sys.flow p)) (λ e. ascend-in (bounds_of sys.flow p) entry.written) (λ e. tt))
    (entries-ascend sys state p entries writes d a.1 u.1)
    (entry-under sys state p entry write entries writes d a.0 a.1 u.0)

pub ascend-filter : (b : Bounds) (test : Recorded → Bool) (rs : List Recorded) → Ascend b rs → Ascend b (filter test rs)
ascend-filter b test [] a = tt
ascend-filter b test (r ∷ rs) a =
    cond_both (test r) (r ∷ filter test rs) (filter test rs) (Ascend b) (λ e. (each-kept (Rises b r) test rs a.0, ascend-filter b test rs a.1)) (λ e. ascend-filter b test rs a.1)

-- ---- the entries' frontiers have stamps

-- what is written of a node, if it is a checkpoint, is not of no stamps
abbrev pub HasStamps : System → ℕ → WrittenBy → Type 0
HasStamps sys q v = (f : Front) (low : List Front) → v ≡ checkpoint f low → f ≢ no_stamps (bounds_of sys.flow q)

held-stamps : (sys : System) (state : Machine) (q : ℕ) (w : Written) (v : WrittenBy) → ReadsAsWrite sys state q w v → HasStamps sys q v
    → AllByRecursion (λ (r : Recorded). r.front ≢ no_stamps (bounds_of sys.flow q)) (record_in w)
held-stamps sys state q (written.Checkpoint r stamps sent) (checkpoint f low) h s = (λ e. s f low refl (sym (h).front ∙ e), tt)
held-stamps sys state q (written.Checkpoint r stamps sent) (logged_event n) h s = absurd h
held-stamps sys state q (written.Event event) v h s = tt

entry-stamps : (sys : System) (state : Machine) (p : ℕ) (entry : Entry) (write : Write) → IsReadAs sys state entry write → HasStamps sys write.node write.written
    → AllByRecursion (λ (r : Recorded). r.front ≢ no_stamps (bounds_of sys.flow p)) (record_by p entry)
entry-stamps sys state p entry write k s =
    cond_both (entry.node == p && entry.acknowledged) (record_in entry.written) [] (AllByRecursion (λ (r : Recorded). r.front ≢ no_stamps (bounds_of sys.flow p)))
    (λ e.
    let i : write.node ≡ p = sym k.node ∙ eqb-true entry.node p (and_parts (entry.node == p) entry.acknowledged e).0 in
    subst (λ q. AllByRecursion (λ (r : Recorded). r.front ≢ no_stamps (bounds_of sys.flow q)) (record_in entry.written)) i
    (held-stamps sys state write.node entry.written write.written k.holds s))
    (λ e. tt)

pub entries-stamps : (sys : System) (state : Machine) (p : ℕ) (entries : List Entry) (writes : List Write) → AreReadAs sys state entries writes
    → AllByRecursion (λ (x : Write). HasStamps sys x.node x.written) writes → AllByRecursion (λ (r : Recorded). r.front ≢ no_stamps (bounds_of sys.flow p)) (records_by p entries)
entries-stamps sys state p [] [] a s = tt
entries-stamps sys state p [] (write ∷ writes) a s = absurd a
entries-stamps sys state p (entry ∷ entries) [] a s = absurd a
entries-stamps sys state p (entry ∷ entries) (write ∷ writes) a s =
    each-append _ (record_by p entry) (records_by p entries) (entry-stamps sys state p entry write a.0 s.0) (entries-stamps sys state p entries writes a.1 s.1)

-- ---- those that hold the low watermark

pub listed-holding : (low f : Front) (rs : List Recorded) → IsListed f (holding low rs) ↔ (IsListed f rs × (is_within low f ≡ true))
listed-holding low f [] = ((λ i. absurd i), (λ i. i.0))
listed-holding low f (r ∷ rs) =
    let k = listed-holding low f rs in
    cond_both (is_within low r.front) (r ∷ holding low rs) (holding low rs) (λ xs. IsListed f xs ↔ (IsListed f (r ∷ rs) × (is_within low f ≡ true)))
    (λ e. (
      (λ i. elim i [ inl d ↦ (inl d, ap (is_within low) (sym d) ∙ e) | inr l ↦ let m = k.0 l in (inr m.0, m.1) ]),
      (λ i. elim i.0 [ inl d ↦ inl d | inr l ↦ inr (k.1 (l, i.1)) ]),
    ))
    (λ e. (
      (λ i. let m = k.0 i in (inr m.0, m.1)),
      (λ i. elim i.0 [ inl d ↦ absurd (two_ways (is_within low r.front) (ap (is_within low) d ∙ i.1) e) | inr l ↦ k.1 (l, i.1) ]),
    ))
