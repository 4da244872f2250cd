-- What a collection forgets was acknowledged, and what lies below the watermark still does after each step.
use Rattle.std.proofs.Common.{◌≡◌, ◌↔◌, ℕ, ◌<◌, Bool, true, false, not, ◌&&◌, ◌||◌, ◌==◌, List, [], ◌∷◌, ◌++◌, length, filter, map, refl, sym, ap, subst, ◌∙◌, inl, inr, arith}
use Rattle.std.specs.List.{AllByRecursion, list_any}
use Rattle.std.proofs.lemmas.Bool.{not-true, and_parts, and_from, or_parts, or_cases, or_left, or_right, cond_both, eqb-true, false_from_ne_true}
use Rattle.fw_lemmas.proofs.Bools.{two_ways}
use Rattle.fw_lemmas.proofs.Each.{each-weaker, each-both, each-one, each-append, each-map, each-passed}
use Rattle.fw_lemmas.proofs.Filters.{any-filter}
use Rattle.fw_lemmas.proofs.Numbers.{at_most-refl}
use Rattle.fw_frontier.specs.Frontier.{Within}
use Rattle.fw_frontier.specs.Front.{Front, frontier_of, IsCanonical, same_front, is_within}
use Rattle.fw_flow.specs.declared.choice.Cut.TheVariants.{At}
use Rattle.fw_flow.specs.declared.kind.Policy.{Policy}
use Rattle.fw_flow.specs.declared.kind.Policy.TheVariants as policy
use Rattle.fw_flow.specs.declared.step.Step.{Step}
use Rattle.fw_flow.specs.declared.step.Step.TheVariants.{Inject, Deliver, Notify, Progress as ProgressStep, Checkpoint, Persist, Fail, Recover, Collect, Ack}
use Rattle.fw_flow.specs.Dataflow.{System, kind_of, policy_of, receiver, bounds_of, node_ids, is_one_of}
use Rattle.fw_flow.specs.NodeFunction.{event_node, event_stamp}
use Rattle.fw_flow.specs.WellFormed.{IsWellFormed}
use Rattle.fw_model.specs.Machine.{Machine, SerialEvent, Write, Written, checkpoint, logged_event, Stage, in_flight, acknowledged, collected, first_state, front_of}
use Rattle.fw_flow.specs.declared.choice.Choice.{Choice}
use Rattle.fw_model.specs.Choice.{kept, ever, is_counted, IsLogged, IsRestorable, IsCandidate, cut_of, kept_of, IsConsistent, filtered_history}
use Rattle.fw_model.specs.Steps.{Effect, Outcome, did, idle, LeadsTo, Run, write_of_event, checkpoint_of, is_eager, is_in_flight, is_kept_write, front_of_cut, is_given_up, is_serial_given_up, lies_below, after_collection, is_forgotten}
use Rattle.fw_model.specs.LawsOfRestoring.{WhatIsForgottenWasAcknowledged}
use Rattle.fw_frontier.proofs.NamesLaws.{is_within-holds, within-is}
use Rattle.fw_model.proofs.SameInsideLaws.{at_node}
use Rattle.fw_model.proofs.WriteLaws.{HoldsOfOne, IsCheckpointAt, IsItsCheckpoint, NamesEvent, LogsEvent, some-checkpoint, some-logged, ArePairs, LiesBelow, AreAscending}
use Rattle.fw_model.proofs.LowLaws.{low-within_settled, none-within, watermark-front, kept-counts}
use Rattle.fw_model.proofs.ChoosingLaws.{settled_writes}
use Rattle.fw_model.proofs.AskedLaws.{takes-declared, takes-restoring, takes-not_input, AreSerialsBelow, serials-each, any-find, LowGrows, given-stamp, given-grows, IsAskedWell, IsWriteAskedWell, IsApart, CanRecoverAndRestore, reached-all}
use Rattle.fw_model.proofs.RestoringLaws.{apart-events, all-logged, full-restoring, full-declared}
use Rattle.fw_model.proofs.BelowLaws.{forgotten-below}

-- ---- writes are acknowledged in order

-- the write is in flight
abbrev pub Flies : Write → Type 0
Flies write = is_in_flight write.stage ≡ true

-- after a write in flight all are in flight
abbrev pub AreInOrder : List Write → Type 0
AreInOrder [] = Unit {0}
AreInOrder (x ∷ xs) = (Flies x → AllByRecursion Flies xs) × AreInOrder xs

order-append : (xs ys : List Write) → AreInOrder xs → AllByRecursion Flies ys → AreInOrder (xs ++ ys)
order-append [] ys a f = all-fly ys f
  where
    all-fly : (ys : List Write) → AllByRecursion Flies ys → AreInOrder ys
    all-fly [] f = tt
    all-fly (y ∷ ys) f = ((λ e. f.1), all-fly ys f.1)
order-append (x ∷ xs) ys a f = ((λ e. each-append Flies xs ys (a.0 e) f), order-append xs ys a.1 f)

order-passed : (test : Write → Bool) (xs : List Write) → AreInOrder xs → AreInOrder (filter test xs)
order-passed test [] a = tt
order-passed test (x ∷ xs) a =
    let rest = order-passed test xs a.1 in
    cond_both (test x) (x ∷ filter test xs) (filter test xs) AreInOrder (λ e. ((λ k. each-passed Flies Flies test xs (λ y i b. b) (a.0 k)), rest)) (λ e. rest)

order-acknowledged : (xs : List Write) (y : Write) (ys : List Write) → list_any (λ write. is_in_flight write.stage) xs ≡ false → AreInOrder (xs ++ y ∷ ys)
    → AreInOrder (xs ++ record y { stage = acknowledged } ∷ ys)
order-acknowledged [] y ys n a = ((λ e. absurd (two_ways false e refl)), a.1)
order-acknowledged (x ∷ xs) y ys n a =
    let b = or_parts (is_in_flight x.stage) (list_any (λ write. is_in_flight write.stage) xs) n in
    ((λ e. absurd (two_ways (is_in_flight x.stage) e b.0)), order-acknowledged xs y ys b.1 a.1)

-- a collection changes no write in flight
pub still-flies : (below : Bool) (far : Stage) → is_in_flight (after_collection below far) ≡ is_in_flight far
still-flies below in_flight = refl
still-flies true acknowledged = refl
still-flies false acknowledged = refl
still-flies below collected = refl

order-collected : (below : Write → Bool) (xs : List Write) → AreInOrder xs → AreInOrder (map (λ (x : Write). record x { stage = after_collection (below x) x.stage }) xs)
order-collected below [] a = tt
order-collected below (x ∷ xs) a = (
  λ e. each-map Flies (λ (y : Write). record y { stage = after_collection (below y) y.stage }) xs
      (each-weaker Flies (λ y. is_in_flight (after_collection (below y) y.stage) ≡ true) xs (λ y k. still-flies (below y) y.stage ∙ k)
      (a.0 (sym (still-flies (below x) x.stage) ∙ e))),
  order-collected below xs a.1,
)

pub event-flies : (p : Policy) (q serial : ℕ) → AllByRecursion Flies (write_of_event p q serial)
event-flies policy.Full q serial = (refl, tt)
event-flies p q serial = tt

asked-fly : (state : Machine) (settled : List Front) (ps : List ℕ) → AllByRecursion Flies (settled_writes state settled ps)
asked-fly state settled ps = each-map Flies (λ p. checkpoint_of state p (front_of settled p)) ps (each-one (λ p. Flies (checkpoint_of state p (front_of settled p))) ps (λ p. refl))

abbrev pub HasOrder : Machine → Type 0
HasOrder state = AreInOrder state.writes

pub took-order : (sys : System) (state : Machine) (step : Step) (next : Machine) (effect : Effect) → LeadsTo sys state step next effect → HasOrder state → HasOrder next
took-order sys state (Inject s) next effect t a =
    subst HasOrder (sym t.3) (order-append state.writes (write_of_event (policy_of sys.flow s) s state.next) a (event-flies (policy_of sys.flow s) s state.next))
took-order sys state (Deliver e at) next effect t a =
    let r = receiver sys.flow e in
    subst HasOrder (sym t.3) (order-append state.writes (write_of_event (policy_of sys.flow r) r state.next) a (event-flies (policy_of sys.flow r) r state.next))
took-order sys state (Notify p at) next effect t a =
    subst HasOrder (sym t.3) (order-append state.writes (write_of_event (policy_of sys.flow p) p state.next) a (event-flies (policy_of sys.flow p) p state.next))
took-order sys state ProgressStep next effect t a =
    let settled = t.1 in
    let ps = filter (λ p. is_eager (policy_of sys.flow p) && not (same_front (front_of state.settled p) (front_of settled p))) (node_ids sys.flow) in
    subst HasOrder (sym t.3) (order-append state.writes (settled_writes state settled ps) a (asked-fly state settled ps))
took-order sys state (Checkpoint p) next effect t a = subst HasOrder (sym t.3) (order-append state.writes (settled_writes state state.settled (p ∷ [])) a (asked-fly state state.settled (p ∷ [])))
took-order sys state Persist next effect t a =
    let k = t.1 in
    subst HasOrder (sym t.2) (subst AreInOrder (sym k.after) (order-acknowledged k.earlier k.oldest k.later k.none_earlier (subst AreInOrder k.before a)))
took-order sys state (Fail ps) next effect t a =
    subst HasOrder (sym t.4) (order-passed (λ write. not (is_one_of write.node ps && is_in_flight write.stage)) state.writes a)
took-order sys state Recover next effect t a =
    subst HasOrder (sym t.7) (order-passed (λ write. is_kept_write (cut_of t.1 write.node) write.written (filtered_history sys t.1 state.history)) state.writes a)
took-order sys state Collect next effect t a =
    let low = map front_of_cut t.0.cuts in
    subst HasOrder (sym t.3) (order-collected (λ write. is_forgotten sys low state.history state.writes write) state.writes a)
took-order sys state (Ack o) next effect t a = subst HasOrder (sym t.2) a

run-order : (sys : System) (steps : List Step) (outcomes : List Outcome) (state last : Machine) → HasOrder state → Run sys state steps outcomes last → HasOrder last
run-order sys [] [] state last a r = subst HasOrder (sym r) a
run-order sys [] (o ∷ os) state last a r = absurd r
run-order sys (s ∷ ss) [] state last a r = absurd r
run-order sys (s ∷ ss) (did effect ∷ os) state last a r = run-order sys ss os r.0 last (took-order sys state s r.0 effect r.1 a) r.2
run-order sys (s ∷ ss) (idle ∷ os) state last a r = run-order sys ss os r.0 last (subst HasOrder (sym r.1.1) a) r.2

-- ---- elements of a list

pub some-find : {A : Type 0} (P Q : A → Type 0) (xs : List A) → HoldsOfOne P xs → AllByRecursion Q xs → (x : A) × P x × Q x
some-find P Q [] a b = absurd a
some-find P Q (x ∷ xs) (inl a) b = (x, a, b.0)
some-find P Q (x ∷ xs) (inr a) b = some-find P Q xs a b.1

-- what holds of each element that is in the list holds of each
each-in : {A : Type 0} (P : A → Type 0) (xs : List A) → ((x : A) → HoldsOfOne (λ y. y ≡ x) xs → P x) → AllByRecursion P xs
each-in P [] k = tt
each-in P (x ∷ xs) k = (k x (inl refl), each-in P xs (λ y a. k y (inr a)))

-- ---- a checkpoint in flight lies above each that is acknowledged

counts-lands : (far : Stage) → is_counted ever far ≡ true → is_in_flight far ≡ false
counts-lands in_flight e = absurd (cc)
counts-lands acknowledged e = refl
counts-lands collected e = refl

-- the checkpoint is acknowledged, so that it is not in flight
its-lands : (p : ℕ) (f : Front) (n : ℕ) (w : Written) (far : Stage) → IsCheckpointAt kept p f n w far → is_in_flight far ≡ false
its-lands p f n (checkpoint g l) far a = counts-lands far (kept-counts far a.2)
its-lands p f n (logged_event s) far a = absurd a

below-new : (sys : System) (p : ℕ) (f g : Front) (l : List Front) (n : ℕ) (w : Written) (far : Stage) → p < length sys.flow.nodes
    → LiesBelow sys n w p (checkpoint g l) → IsCheckpointAt kept p f n w far → Within (frontier_of (bounds_of sys.flow p) f) (frontier_of (bounds_of sys.flow p) g)
below-new sys p f g l n (checkpoint x m) far i b a =
    subst (λ z. Within (frontier_of (bounds_of sys.flow p) z) (frontier_of (bounds_of sys.flow p) g)) a.1
    (subst (λ q. q < length sys.flow.nodes → Within (frontier_of (bounds_of sys.flow q) x) (frontier_of (bounds_of sys.flow q) g)) a.0 (b a.0) i)
below-new sys p f g l n (logged_event s) far i b a = absurd a

flying-above : (sys : System) (p : ℕ) (f g : Front) (l : List Front) (of : Write) (xs : List Write) → p < length sys.flow.nodes → AreAscending sys xs → AreInOrder xs
    → HoldsOfOne (λ (y : Write). y ≡ record of { node = p; written = checkpoint g l; stage = in_flight }) xs → HoldsOfOne (IsItsCheckpoint kept p f) xs
    → Within (frontier_of (bounds_of sys.flow p) f) (frontier_of (bounds_of sys.flow p) g)
flying-above sys p f g l of [] i a o b c = absurd b
flying-above sys p f g l of (x ∷ xs) i a o (inl b) (inl c) =
    absurd (two_ways (is_in_flight x.stage) (ap (λ (y : Write). is_in_flight y.stage) b) (its-lands p f x.node x.written x.stage c))
flying-above sys p f g l of (x ∷ xs) i a o (inl b) (inr c) =
    let y = some-find (IsItsCheckpoint kept p f) Flies xs c (o.0 (ap (λ (y : Write). is_in_flight y.stage) b)) in
    absurd (two_ways (is_in_flight y.0.stage) y.2 (its-lands p f y.0.node y.0.written y.0.stage y.1))
flying-above sys p f g l of (x ∷ xs) i a o (inr b) (inl c) =
    let new : Write = record of { node = p; written = checkpoint g l; stage = in_flight } in
    let y = some-find (λ (y : Write). y ≡ new) (λ y. LiesBelow sys x.node x.written y.node y.written) xs b a.0 in
    below-new sys p f g l x.node x.written x.stage i (subst (λ (z : Write). LiesBelow sys x.node x.written z.node z.written) y.1 y.2) c
flying-above sys p f g l of (x ∷ xs) i a o (inr b) (inr c) = flying-above sys p f g l of xs i a.1 o.1 b c

-- ---- an event that is logged by a write in flight is logged by no other

logged-lands : (s : ℕ) (w : Written) (far : Stage) → NamesEvent s w far → is_in_flight far ≡ false
logged-lands s (checkpoint g l) far a = absurd a
logged-lands s (logged_event r) far a = counts-lands far a.1

logged-names : (s : ℕ) (w : Written) (far : Stage) → NamesEvent s w far → w ≡ logged_event s
logged-names s (checkpoint g l) far a = absurd a
logged-names s (logged_event r) far a = ap logged_event a.0

flying-alone : (s p : ℕ) (of : Write) (xs : List Write) → ArePairs IsApart xs
    → HoldsOfOne (λ (y : Write). y ≡ record of { node = p; written = logged_event s; stage = in_flight }) xs
    → HoldsOfOne (LogsEvent s) xs → ⊥
flying-alone s p of [] a b c = b
flying-alone s p of (x ∷ xs) a (inl b) (inl c) = two_ways (is_in_flight x.stage) (ap (λ (y : Write). is_in_flight y.stage) b) (logged-lands s x.written x.stage c)
flying-alone s p of (x ∷ xs) a (inl b) (inr c) =
    let y = some-find (LogsEvent s) (λ (y : Write). IsApart x.node x.written y.node y.written) xs c a.0 in
    apart-events s x.node x.written y.0.node y.0.written y.2 (ap (λ (z : Write). z.written) b) (logged-names s y.0.written y.0.stage y.1)
flying-alone s p of (x ∷ xs) a (inr b) (inl c) =
    let new : Write = record of { node = p; written = logged_event s; stage = in_flight } in
    let y = some-find (λ (y : Write). y ≡ new) (λ y. IsApart x.node x.written y.node y.written) xs b a.0 in
    apart-events s x.node x.written y.0.node y.0.written y.2 (logged-names s x.written x.stage c) (ap (λ (z : Write). z.written) y.1)
flying-alone s p of (x ∷ xs) a (inr b) (inr c) = flying-alone s p of xs a.1 b c

-- ---- nothing below is in flight

-- the watermark of a collection is offered at each node
pub offered-low : (sys : System) (state : Machine) (choice : Choice) → IsConsistent sys state (IsCandidate sys state (λ p. true) kept) choice → (p : ℕ)
    → p < length sys.flow.nodes → IsCandidate sys state (λ q. true) kept p (At (front_of (map front_of_cut choice.cuts) p))
offered-low sys state choice c p l = subst (λ cut. IsCandidate sys state (λ q. true) kept p cut) (sym (watermark-front sys state choice c p l)) (c.offered p l)

below-lands : (sys : System) → IsWellFormed sys.flow → (state : Machine) → CanRecoverAndRestore sys state → HasOrder state → (choice : Choice)
    → IsConsistent sys state (IsCandidate sys state (λ p. true) kept) choice → (of : Write) (p : ℕ) (w : Written)
    → HoldsOfOne (λ (y : Write). y ≡ record of { node = p; written = w; stage = in_flight }) state.writes
    → lies_below sys (map front_of_cut choice.cuts) state.history p w ≡ true → ⊥
below-lands sys w state r o choice c of p (checkpoint g l) has k =
    let low = map front_of_cut choice.cuts in
    let b = bounds_of sys.flow p in
    let f = front_of low p in
    let y = some-find (λ (y : Write). y ≡ record of { node = p; written = checkpoint g l; stage = in_flight })
    (IsWriteAskedWell sys state.low state.next state.history) state.writes has r.restore.asked in
    let well = subst (λ (z : Write). IsWriteAskedWell sys state.low state.next state.history z) y.1 y.2 in
    let n = takes-declared sys.flow p well.0 in
    let offered = offered-low sys state choice c p n in
    let way = takes-restoring (kind_of sys.flow p) (policy_of sys.flow p) (w.policies p n) well.0 in
    let a = and_parts (is_within g f) (not (is_within f g)) k in
    let contains : Within (frontier_of b f) (frontier_of b g) → ⊥ = λ v. two_ways (is_within f g) (within-is b f g well.1 v) (not-true (is_within f g) a.1) in
    elim (subst (λ x. IsRestorable sys state kept p x f) way offered.1) [
      | inl none ↦ contains (λ t i. none-within b (frontier_of b g) t (ap (λ os. frontier_of b os t) (sym none) ∙ i))
      | inr at ↦ contains (flying-above sys p f g l of state.writes n r.recover.ascend o has (some-checkpoint kept p f state.writes at))
    ]
below-lands sys w state r o choice c of p (logged_event s) has k =
    let low = map front_of_cut choice.cuts in
    let b = bounds_of sys.flow p in
    let f = frontier_of b (front_of low p) in
    let y = some-find (λ (y : Write). y ≡ record of { node = p; written = logged_event s; stage = in_flight })
    (IsWriteAskedWell sys state.low state.next state.history) state.writes has r.restore.asked in
    let well = subst (λ (z : Write). IsWriteAskedWell sys state.low state.next state.history z) y.1 y.2 in
    let n = full-declared sys.flow p well.3 in
    let offered = offered-low sys state choice c p n in
    let way = full-restoring (kind_of sys.flow p) (policy_of sys.flow p) (w.policies p n) well.3 in
    let restorable = subst (λ x. IsRestorable sys state kept p x (front_of low p)) way offered.1 in
    let Names : SerialEvent → Type 0 = λ v. v.serial ≡ s → event_node sys.flow v.event ≡ p in
    let Logs : SerialEvent → Type 0 = λ v. event_node sys.flow v.event ≡ p → f (event_stamp v.event) ≡ true → IsLogged v.serial state.writes in
    let given : SerialEvent → Bool = λ v. is_given_up sys low (event_node sys.flow v.event) (event_stamp v.event) in
    let v = any-find (λ v. v.serial == s && given v) (λ v. Names v × Logs v) state.history k
    (each-both Names Logs state.history well.1 (all-logged sys p f state.writes state.history restorable.1)) in
    let i = and_parts (v.0.serial == s) (given v.0) v.1 in
    let is = eqb-true v.0.serial s i.0 in
    let at = v.2.0 is in
    let inside = given-stamp sys low p (event_stamp v.0.event) (subst (λ q. is_given_up sys low q (event_stamp v.0.event) ≡ true) at i.1) in
    flying-alone s p of state.writes r.restore.apart has (some-logged s state.writes (subst (λ x. IsLogged x state.writes) is (v.2.1 at inside)))

-- no write below the watermark of a collection is in flight
pub below-each : (sys : System) → IsWellFormed sys.flow → (state : Machine) → CanRecoverAndRestore sys state → HasOrder state → (choice : Choice)
    → IsConsistent sys state (IsCandidate sys state (λ p. true) kept) choice
    → AllByRecursion (λ (x : Write). lies_below sys (map front_of_cut choice.cuts) state.history x.node x.written ≡ true → is_in_flight x.stage ≡ false) state.writes
below-each sys w state f o choice c =
    let low = map front_of_cut choice.cuts in
    each-in (λ (x : Write). lies_below sys low state.history x.node x.written ≡ true → is_in_flight x.stage ≡ false) state.writes
    (λ x has k. false_from_ne_true (is_in_flight x.stage) (λ i. by x x.node x.written x.stage f o c has k i))
  where
    by : (of : Write) (n : ℕ) (v : Written) (far : Stage) → CanRecoverAndRestore sys state → HasOrder state → IsConsistent sys state (IsCandidate sys state (λ p. true) kept) choice
        → HoldsOfOne (λ (y : Write). y ≡ record of { node = n; written = v; stage = far }) state.writes
        → lies_below sys (map front_of_cut choice.cuts) state.history n v ≡ true → is_in_flight far ≡ true → ⊥
    by of n v in_flight f o c has k i = below-lands sys w state f o choice c of n v has k
    by of n v acknowledged f o c has k i = two_ways false i refl
    by of n v collected f o c has k i = two_ways false i refl

pub forgotten-acknowledged : WhatIsForgottenWasAcknowledged
forgotten-acknowledged sys w steps outcomes last r choice m =
    let low = map front_of_cut choice.cuts in
    each-weaker (λ (x : Write). lies_below sys low last.history x.node x.written ≡ true → is_in_flight x.stage ≡ false)
    (λ (x : Write). is_forgotten sys low last.history last.writes x ≡ true → is_in_flight x.stage ≡ false) last.writes
    (λ x k i. k (forgotten-below sys low last.history last.writes x i))
    (below-each sys w.flow last (reached-all sys w steps outcomes last r) (run-order sys steps outcomes (first_state sys) last tt r) choice m.consistent)

-- ---- what lies below, from state to state

-- what is in flight and not below
pub exact-new : (b : Bool) → (b ≡ true → ⊥) → (in_flight ≡ collected) ↔ (b ≡ true)
exact-new b n = (λ c. absurd (cc c), λ k. absurd (n k))

pub later-below : (sys : System) (low : List Front) (v : SerialEvent) (h : List SerialEvent) (p : ℕ) (w : Written) (far : Stage) → IsAskedWell sys low v.serial h p w far
    → lies_below sys low (v ∷ h) p w ≡ lies_below sys low h p w
later-below sys low v h p (checkpoint g l) far a = refl
later-below sys low v h p (logged_event s) far a =
    let less = a.0 in
    let given = is_given_up sys low (event_node sys.flow v.event) (event_stamp v.event) in
    ap (λ b. b && given || is_serial_given_up sys low s h)
    (false_from_ne_true (v.serial == s) (λ e. let is = eqb-true v.serial s e in absurd (omega arith)))

pub new-not_below : (sys : System) (low : List Front) (v : SerialEvent) (h : List SerialEvent) → AreSerialsBelow v.serial h
    → at_node sys low (event_node sys.flow v.event) (event_stamp v.event) ≡ false → (p : ℕ) → lies_below sys low (v ∷ h) p (logged_event v.serial) ≡ true → ⊥
new-not_below sys low v h a out p k =
    let given : SerialEvent → Bool = λ u. is_given_up sys low (event_node sys.flow u.event) (event_stamp u.event) in
    elim (or_cases (v.serial == v.serial && given v) (is_serial_given_up sys low v.serial h) k) [
      | inl i ↦ two_ways _ (given-stamp sys low (event_node sys.flow v.event) (event_stamp v.event) (and_parts (v.serial == v.serial) (given v) i).1) out
      | inr i ↦
          let u = any-find (λ u. u.serial == v.serial && given u) (λ (u : SerialEvent). u.serial < v.serial) h i (serials-each v.serial v.serial h (at_most-refl v.serial) a) in
          let is = eqb-true u.0.serial v.serial (and_parts (u.0.serial == v.serial) (given u.0) u.1).0 in
          let less = u.2 in
          absurd (omega arith)
    ]

-- a checkpoint of what is settled is not below
pub settled-not_below : (sys : System) → IsWellFormed sys.flow → (state : Machine) → CanRecoverAndRestore sys state → (p : ℕ) (l : List Front) (far : Stage)
    → IsAskedWell sys state.low state.next state.history p (checkpoint (front_of state.settled p) l) far
    → lies_below sys state.low state.history p (checkpoint (front_of state.settled p) l) ≡ true → ⊥
settled-not_below sys w state f p l far a k =
    let g = front_of state.settled p in
    let low = front_of state.low p in
    let n = takes-declared sys.flow p a.0 in
    let within = low-within_settled sys state f.recover.notices f.recover.lie_settled f.recover.watermark p n (takes-not_input sys.flow w p a.0) in
    two_ways (is_within low g) (within-is (bounds_of sys.flow p) low g a.1 within) (not-true (is_within low g) (and_parts (is_within g low) (not (is_within low g)) k).1)

-- a recovery keeps each event that is given up
pub kept-below : (sys : System) (state : Machine) (choice : Choice) → ((p : ℕ) → p < length sys.flow.nodes → Within (at_node sys state.low p) (kept_of sys.flow choice p))
    → (p : ℕ) (w : Written) (far : Stage) → IsAskedWell sys state.low state.next state.history p w far
    → lies_below sys state.low (filtered_history sys choice state.history) p w ≡ lies_below sys state.low state.history p w
kept-below sys state choice k p (checkpoint g l) far a = refl
kept-below sys state choice k p (logged_event s) far a =
    let low = state.low in
    let given : SerialEvent → Bool = λ v. is_given_up sys low (event_node sys.flow v.event) (event_stamp v.event) in
    let test : SerialEvent → Bool = λ v. v.serial == s && given v in
    let keeps : SerialEvent → Bool = λ v. kept_of sys.flow choice (event_node sys.flow v.event) (event_stamp v.event) in
    any-filter test keeps state.history
    (each-weaker (λ (v : SerialEvent). v.serial ≡ s → event_node sys.flow v.event ≡ p) (λ v. test v ≡ true → keeps v ≡ true) state.history
    (λ v at e.
    let i = and_parts (v.serial == s) (given v) e in
    let is = at (eqb-true v.serial s i.0) in
    let t = event_stamp v.event in
    subst (λ q. kept_of sys.flow choice q t ≡ true) (sym is)
    (k p (full-declared sys.flow p a.3) t (given-stamp sys low p t (subst (λ q. is_given_up sys low q t ≡ true) is i.1)))) a.1)

any-weaker : {X : Type 0} (test more : X → Bool) (xs : List X) → ((x : X) → test x ≡ true → more x ≡ true) → list_any test xs ≡ true → list_any more xs ≡ true
any-weaker test more [] w k = k
any-weaker test more (x ∷ xs) w k = elim (or_cases (test x) (list_any test xs) k) [
  | inl i ↦ or_left (more x) (list_any more xs) (w x i)
  | inr i ↦ or_right (more x) (list_any more xs) (any-weaker test more xs w i)
]

-- what lay below lies below the greater watermark
pub below-grows : (sys : System) (old low : List Front) (next : ℕ) (h : List SerialEvent) → LowGrows sys old low
    → ((p : ℕ) → p < length sys.flow.nodes → IsCanonical (bounds_of sys.flow p) (front_of low p)) → (p : ℕ) (w : Written) (far : Stage)
    → IsAskedWell sys old next h p w far → lies_below sys old h p w ≡ true → lies_below sys low h p w ≡ true
below-grows sys old low next h g c p (checkpoint f l) far a k =
    let b = bounds_of sys.flow p in
    let n = takes-declared sys.flow p a.0 in
    let was = front_of old p in
    let is = front_of low p in
    let i = and_parts (is_within f was) (not (is_within was f)) k in
    let under = is_within-holds b f was i.0 in
    let strict = not-true (is_within was f) i.1 in
    and_from (is_within f is) (not (is_within is f)) (within-is b f is (c p n) (λ t j. g p t (under t j)))
    (ap not (false_from_ne_true (is_within is f) (λ e.
    let over = is_within-holds b is f e in
    two_ways (is_within was f) (within-is b was f a.1 (λ t j. over t (g p t j))) strict)))
below-grows sys old low next h g c p (logged_event s) far a k =
    any-weaker (λ v. v.serial == s && is_given_up sys old (event_node sys.flow v.event) (event_stamp v.event))
    (λ v. v.serial == s && is_given_up sys low (event_node sys.flow v.event) (event_stamp v.event)) h
    (λ v e.
    let i = and_parts (v.serial == s) (is_given_up sys old (event_node sys.flow v.event) (event_stamp v.event)) e in
    and_from (v.serial == s) (is_given_up sys low (event_node sys.flow v.event) (event_stamp v.event)) i.0 (given-grows sys old low g (event_node sys.flow v.event) (event_stamp v.event) i.1)) k
