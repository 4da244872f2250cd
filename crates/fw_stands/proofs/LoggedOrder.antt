-- The events of the acknowledged entries of a node are the logged events that are left, in order.
use Rattle.std.proofs.Common.{◌≡◌, ℕ, ◌<◌, ◌≤◌, Bool, true, false, cond, ◌&&◌, ◌||◌, ◌==◌, List, [], ◌∷◌, ◌++◌, filter, Option, Some, None, refl, sym, ap, subst, ◌∙◌, inl, inr, arith}
use Rattle.std.specs.Prelude.{option_to_list}
use Rattle.std.specs.List.{AllByRecursion, AllZip, flat_map}
use Rattle.std.proofs.lemmas.Bool.{and_parts, and_from, or_cases, or_left, or_right, cond_both, cond-true, cond-false, eqb-true, eq-eqb, cases_Bool, false_from_ne_true}
use Rattle.std.proofs.lemmas.List.{append-nil}
use Rattle.std.proofs.lemmas.List.Folds.{list_any-append}
use Rattle.std.proofs.lemmas.Grind.{flat_map-append}
use Rattle.fw_lemmas.proofs.Bools.{two_ways}
use Rattle.fw_lemmas.proofs.Each.{each-weaker, each-both, each-one, each-append, each-filter, each-kept}
use Rattle.fw_lemmas.proofs.Filters.{filter-in, filter-out}
use Rattle.fw_lemmas.proofs.Numbers.{other_number}
use Rattle.fw_frontier.specs.Frontier.{Frontier}
use Rattle.fw_flow.specs.declared.event.Event.{Event as Happened}
use Rattle.fw_flow.specs.declared.event.Event.TheVariants.{Inject, Deliver, Notify}
use Rattle.fw_flow.specs.Dataflow.{System, Dataflow, is_one_of}
use Rattle.fw_flow.specs.NodeFunction.{event_node, event_stamp}
use Rattle.fw_flow.specs.WellFormed.{IsWellFormedSystem}
use Rattle.fw_model.specs.Choice.{kept, is_counted}
use Rattle.fw_model.specs.LawsOfReplay.{is_its_log, has_log, replayed_events}
use Rattle.fw_model.specs.LawsOfWrites.{serial_of, logged_serials, AreIncreasing, AreLatestFirst}
use Rattle.fw_model.specs.Machine.{Machine, SerialEvent, Write, Stage, in_flight, acknowledged, collected, checkpoint, logged_event, events}
use Rattle.fw_model.specs.Machine.{Written as WrittenBy}
use Rattle.fw_model.specs.Writes.{not_collected}
use Rattle.fw_model.proofs.LoggedLaws.{logged-in_order}
use Rattle.fw_model.proofs.RestoringLaws.{some-both}
use Rattle.fw_model.proofs.WriteLaws.{HoldsOfOne, some-weaker, some-passed}
use Rattle.fw_model.specs.Reached.{IsReached}
use Rattle.fw_record.specs.declared.record.Event.{Event}
use Rattle.fw_record.specs.declared.record.Record.{Record}
use Rattle.fw_keep.specs.declared.entry.Entry.{Entry}
use Rattle.fw_keep.specs.declared.entry.Written.{Written}
use Rattle.fw_keep.specs.declared.entry.Written.TheVariants as written
use Rattle.fw_record.specs.Event.{stamp_of_event, event_of, logged_events}
use Rattle.fw_keep.specs.Entry.{IsRecordAs, IsRecordOfEntry}
use Rattle.fw_stands.specs.Redone.{event_in, is_event_inside, is_logged_inside}
use Rattle.fw_stands.specs.Written.{told_of, HasEventTold, HoldsWhatIsWritten, IsEntryOf}
use Rattle.fw_policy.specs.Entries.{AreEntriesOf}

-- ---- increasing numbers

among : (P : ℕ → Type 0) (ns : List ℕ) (n : ℕ) → AllByRecursion P ns → is_one_of n ns ≡ true → P n
among P [] n a i = absurd (two_ways false i refl)
among P (m ∷ ns) n a i = elim (or_cases (m == n) (is_one_of n ns) i) [
  | inl e ↦ subst P (eqb-true m n e) a.0
  | inr j ↦ among P ns n a.1 j
]

first_of : (n : ℕ) (ns : List ℕ) → is_one_of n (n ∷ ns) ≡ true
first_of n ns = or_left (n == n) (is_one_of n ns) (eq-eqb n n refl)

at-least : (m : ℕ) (ns : List ℕ) → AreIncreasing (m ∷ ns) → (n : ℕ) → is_one_of n (m ∷ ns) ≡ true → m ≤ n
at-least m ns a n i = elim (or_cases (m == n) (is_one_of n ns) i) [
  | inl e ↦ let same = eqb-true m n e in omega arith
  | inr j ↦ let less : m < n = among (λ k. m < k) ns n a.0 j in omega arith
]

-- what is among the later ones of the one list is among those of the other
later-ones : (x y : ℕ) (xs ys : List ℕ) → x ≡ y → AreIncreasing (x ∷ xs) → ((n : ℕ) → is_one_of n (x ∷ xs) ≡ true → is_one_of n (y ∷ ys) ≡ true)
    → (n : ℕ) → is_one_of n xs ≡ true → is_one_of n ys ≡ true
later-ones x y xs ys e a f n i = elim (or_cases (y == n) (is_one_of n ys) (f n (or_right (x == n) (is_one_of n xs) i))) [
  | inl k ↦ let same = eqb-true y n k in let less : x < n = among (λ m. x < m) xs n a.0 i in absurd (omega arith)
  | inr j ↦ j
]

-- two increasing lists of the same numbers are one
same-increasing : (xs ys : List ℕ) → AreIncreasing xs → AreIncreasing ys → ((n : ℕ) → is_one_of n xs ≡ true → is_one_of n ys ≡ true)
    → ((n : ℕ) → is_one_of n ys ≡ true → is_one_of n xs ≡ true) → xs ≡ ys
same-increasing [] [] a b f g = refl
same-increasing [] (y ∷ ys) a b f g = absurd (two_ways false (g y (first_of y ys)) refl)
same-increasing (x ∷ xs) [] a b f g = absurd (two_ways false (f x (first_of x xs)) refl)
same-increasing (x ∷ xs) (y ∷ ys) a b f g =
    let up : y ≤ x = at-least y ys b x (f x (first_of x xs)) in
    let down : x ≤ y = at-least x xs a y (g y (first_of y ys)) in
    let e : x ≡ y = omega arith in
    ap (λ n. n ∷ xs) e
    ∙ ap (λ ns. y ∷ ns) (same-increasing xs ys a.1 b.1 (later-ones x y xs ys e a f) (later-ones y x ys xs (sym e) b g))

increasing-push : (ns : List ℕ) (n : ℕ) → AreIncreasing ns → AllByRecursion (λ m. m < n) ns → AreIncreasing (ns ++ n ∷ [])
increasing-push [] n a b = (tt, tt)
increasing-push (m ∷ ns) n a b = (each-append (λ k. m < k) ns (n ∷ []) a.0 (b.0, tt), increasing-push ns n a.1 b.1)

-- ---- the serials of a history

-- the serials, the earliest first
abbrev serials_in_order : List SerialEvent → List ℕ
serials_in_order [] = []
serials_in_order (v ∷ h) = serials_in_order h ++ v.serial ∷ []

serials-each : (P : ℕ → Type 0) (h : List SerialEvent) → AllByRecursion (λ (v : SerialEvent). P v.serial) h → AllByRecursion P (serials_in_order h)
serials-each P [] a = tt
serials-each P (v ∷ h) a = each-append P (serials_in_order h) (v.serial ∷ []) (serials-each P h a.1) (a.0, tt)

serials-increase : (h : List SerialEvent) → AreLatestFirst h → AreIncreasing (serials_in_order h)
serials-increase [] a = tt
serials-increase (v ∷ h) a = increasing-push (serials_in_order h) v.serial (serials-increase h a.1) (serials-each (λ m. m < v.serial) h a.0)

latest-kept : (test : SerialEvent → Bool) (h : List SerialEvent) → AreLatestFirst h → AreLatestFirst (filter test h)
latest-kept test [] a = tt
latest-kept test (v ∷ h) a =
    cond_both (test v) (v ∷ filter test h) (filter test h) AreLatestFirst
    (λ e. (each-kept (λ (u : SerialEvent). u.serial < v.serial) test h a.0, latest-kept test h a.1)) (λ e. latest-kept test h a.1)

-- a serial of the history is one of an event there
serial-some : (P : SerialEvent → Type 0) (n : ℕ) (h : List SerialEvent) → AllByRecursion P h → is_one_of n (serials_in_order h) ≡ true
    → HoldsOfOne (λ (v : SerialEvent). (v.serial ≡ n) × P v) h
serial-some P n [] a i = absurd (two_ways false i refl)
serial-some P n (v ∷ h) a i =
    let parts = sym (list_any-append (λ m. m == n) (serials_in_order h) (v.serial ∷ [])) ∙ i in
    elim (or_cases (is_one_of n (serials_in_order h)) ((v.serial == n) || false) parts) [
      | inl j ↦ inr (serial-some P n h a.1 j)
      | inr j ↦ elim (or_cases (v.serial == n) false j) [ inl k ↦ inl (eqb-true v.serial n k, a.0) | inr k ↦ absurd (two_ways false k refl) ]
    ]

some-serial : (P : SerialEvent → Type 0) (n : ℕ) (h : List SerialEvent) → HoldsOfOne (λ (v : SerialEvent). (v.serial ≡ n) × P v) h
    → is_one_of n (serials_in_order h) ≡ true
some-serial P n [] a = absurd a
some-serial P n (v ∷ h) (inl a) =
    list_any-append (λ m. m == n) (serials_in_order h) (v.serial ∷ [])
    ∙ or_right (is_one_of n (serials_in_order h)) ((v.serial == n) || false) (or_left (v.serial == n) false (eq-eqb v.serial n a.0))
some-serial P n (v ∷ h) (inr a) =
    list_any-append (λ m. m == n) (serials_in_order h) (v.serial ∷ [])
    ∙ or_left (is_one_of n (serials_in_order h)) ((v.serial == n) || false) (some-serial P n h a)

some-unfiltered : {A : Type 0} (P : A → Type 0) (test : A → Bool) (xs : List A) → HoldsOfOne P (filter test xs) → HoldsOfOne P xs
some-unfiltered P test [] a = absurd a
some-unfiltered P test (x ∷ xs) a =
    cond_both (test x) (x ∷ filter test xs) (filter test xs) (λ ys. HoldsOfOne P ys → HoldsOfOne P (x ∷ xs))
    (λ e b. elim b [ inl c ↦ inl c | inr c ↦ inr (some-unfiltered P test xs c) ]) (λ e b. inr (some-unfiltered P test xs b)) a

some-one : {A : Type 0} (P : A → Type 0) (xs : List A) → HoldsOfOne P xs → (x : A) × P x
some-one P [] a = absurd a
some-one P (x ∷ xs) (inl a) = (x, a)
some-one P (x ∷ xs) (inr a) = some-one P xs a

no_lesser : (P : SerialEvent → Type 0) (n m : ℕ) (h : List SerialEvent) → m ≡ n → AllByRecursion (λ (u : SerialEvent). u.serial < m) h
    → HoldsOfOne (λ (v : SerialEvent). (v.serial ≡ n) × P v) h → ⊥
no_lesser P n m h e a b =
    let c = some-one (λ (v : SerialEvent). ((v.serial ≡ n) × P v) × (v.serial < m)) h (some-both (λ (v : SerialEvent). (v.serial ≡ n) × P v) (λ (v : SerialEvent). v.serial < m) h b a) in
    let same = c.1.0.0 in
    let less = c.1.1 in
    omega arith

-- of one serial there is one event
both-same : (P Q : SerialEvent → Type 0) (n : ℕ) (h : List SerialEvent) → AreLatestFirst h → HoldsOfOne (λ (v : SerialEvent). (v.serial ≡ n) × P v) h
    → HoldsOfOne (λ (v : SerialEvent). (v.serial ≡ n) × Q v) h → (v : SerialEvent) × (P v × Q v)
both-same P Q n [] l a b = absurd a
both-same P Q n (v ∷ h) l (inl a) (inl b) = (v, (a.1, b.1))
both-same P Q n (v ∷ h) l (inl a) (inr b) = absurd (no_lesser Q n v.serial h a.0 l.0 b)
both-same P Q n (v ∷ h) l (inr a) (inl b) = absurd (no_lesser P n v.serial h b.0 l.0 a)
both-same P Q n (v ∷ h) l (inr a) (inr b) = both-same P Q n h l.1 a b

-- ---- what is told at a serial

abbrev told_at : ℕ → List SerialEvent → List Event
told_at s [] = []
told_at s (v ∷ h) = cond (v.serial == s) (option_to_list (told_of v.event)) [] ++ told_at s h

greater_number : (m n : ℕ) → n < m → (m == n) ≡ false
greater_number m n l = false_from_ne_true (m == n) (λ e. let same = eqb-true m n e in omega arith)

none-at : (s : ℕ) (h : List SerialEvent) → AllByRecursion (λ (u : SerialEvent). u.serial < s) h → told_at s h ≡ []
none-at s [] a = refl
none-at s (v ∷ h) a =
    ap (λ es. es ++ told_at s h) (cond-false (v.serial == s) (option_to_list (told_of v.event)) [] (other_number v.serial s a.0)) ∙ none-at s h a.1

-- at its serial each event is told alone
own-told : (h : List SerialEvent) → AreLatestFirst h → AllByRecursion (λ (v : SerialEvent). told_at v.serial h ≡ option_to_list (told_of v.event)) h
own-told [] l = tt
own-told (v ∷ h) l = (
  ap (λ es. es ++ told_at v.serial h) (cond-true (v.serial == v.serial) (option_to_list (told_of v.event)) [] (eq-eqb v.serial v.serial refl))
      ∙ ap (λ es. option_to_list (told_of v.event) ++ es) (none-at v.serial h l.0) ∙ append-nil (option_to_list (told_of v.event)),
  each-weaker (λ (u : SerialEvent). (u.serial < v.serial) × (told_at u.serial h ≡ option_to_list (told_of u.event)))
      (λ u. told_at u.serial (v ∷ h) ≡ option_to_list (told_of u.event)) h
      (λ u a. ap (λ es. es ++ told_at u.serial h) (cond-false (v.serial == u.serial) (option_to_list (told_of v.event)) [] (greater_number v.serial u.serial a.0)) ∙ a.1)
      (each-both (λ (u : SerialEvent). u.serial < v.serial) (λ u. told_at u.serial h ≡ option_to_list (told_of u.event)) h l.0 (own-told h l.1)),
)

told-some : (flow : Dataflow) (p s : ℕ) (event : Event) (h : List SerialEvent) → HasEventTold flow p s event h
    → HoldsOfOne (λ (v : SerialEvent). (v.serial ≡ s) × ((event_node flow v.event ≡ p) × (told_of v.event ≡ Some event))) h
told-some flow p s event [] a = absurd a
told-some flow p s event (v ∷ h) (inl a) = inl (a.same_serial, (a.node, a.told))
told-some flow p s event (v ∷ h) (inr a) = inr (told-some flow p s event h a)

-- at the serial of an event that is told it is told alone
told-alone : (flow : Dataflow) (p s : ℕ) (event : Event) (h : List SerialEvent) → AreLatestFirst h → HasEventTold flow p s event h → told_at s h ≡ event ∷ []
told-alone flow p s event h l a =
    let Is : SerialEvent → Type 0 = λ v. (v.serial ≡ s) × ((event_node flow v.event ≡ p) × (told_of v.event ≡ Some event)) in
    let Own : SerialEvent → Type 0 = λ v. told_at v.serial h ≡ option_to_list (told_of v.event) in
    let c = some-one (λ v. Is v × Own v) h (some-both Is Own h (told-some flow p s event h a) (own-told h l)) in
    ap (λ n. told_at n h) (sym c.1.0.0) ∙ c.1.1 ∙ ap (λ (o : Option Event). option_to_list o) c.1.0.1.1

-- the stamp at which an event is told is its own
told-stamp : (v : Happened) (event : Event) → told_of v ≡ Some event → stamp_of_event event ≡ event_stamp v
told-stamp (Inject s x) event e = absurd (cc e)
told-stamp (Deliver d m) event e = let same : event_of (told_of (Deliver d m)) ≡ stamp_of_event event = ap event_of e in sym same
  where
    event_of : Option Event → List ℕ
    event_of None = []
    event_of (Some x) = stamp_of_event x
told-stamp (Notify p t) event e = let same : event_of (told_of (Notify p t)) ≡ stamp_of_event event = ap event_of e in sym same
  where
    event_of : Option Event → List ℕ
    event_of None = []
    event_of (Some x) = stamp_of_event x

-- ---- what a history tells

told-push : (v : Happened) (h : List Happened) → logged_events (v ∷ h) ≡ logged_events h ++ option_to_list (told_of v)
told-push (Inject s x) h = sym (append-nil (logged_events h))
told-push (Deliver e m) h = refl
told-push (Notify p t) h = refl

history-told : (whole h : List SerialEvent) → AllByRecursion (λ (v : SerialEvent). told_at v.serial whole ≡ option_to_list (told_of v.event)) h
    → logged_events (events h) ≡ flat_map (λ s. told_at s whole) (serials_in_order h)
history-told whole [] a = refl
history-told whole (v ∷ h) a =
    let at : ℕ → List Event = λ s. told_at s whole in
    told-push v.event (events h)
    ∙ ap (λ es. es ++ option_to_list (told_of v.event)) (history-told whole h a.1)
    ∙ ap (λ es. flat_map at (serials_in_order h) ++ es) (sym a.0 ∙ sym (append-nil (at v.serial)))
    ∙ sym (flat_map-append at (serials_in_order h) (v.serial ∷ []))

-- ---- the serials of the entries that pass a test

abbrev asked_serials : (Entry → Bool) → List Entry → List Write → List ℕ
asked_serials test [] ws = []
asked_serials test (e ∷ es) [] = []
asked_serials test (e ∷ es) (w ∷ ws) = cond (test e) (serial_of w.written ++ asked_serials test es ws) (asked_serials test es ws)

each-asked : (P : ℕ → Type 0) (test : Entry → Bool) (es : List Entry) (ws : List Write) → AllByRecursion P (logged_serials ws) → AllByRecursion P (asked_serials test es ws)
each-asked P test [] ws a = tt
each-asked P test (e ∷ es) [] a = tt
each-asked P test (e ∷ es) (w ∷ ws) a = by w.written (λ b. each-asked P test es ws b) a
  where
    by : (x : WrittenBy) → (AllByRecursion P (logged_serials ws) → AllByRecursion P (asked_serials test es ws)) → AllByRecursion P (serial_of x ++ logged_serials ws)
        → AllByRecursion P (cond (test e) (serial_of x ++ asked_serials test es ws) (asked_serials test es ws))
    by (checkpoint f low) later b =
        let rest = later b in
        cond_both (test e) (asked_serials test es ws) (asked_serials test es ws) (AllByRecursion P) (λ i. rest) (λ i. rest)
    by (logged_event s) later b =
        let rest = later b.1 in
        cond_both (test e) (s ∷ asked_serials test es ws) (asked_serials test es ws) (AllByRecursion P) (λ i. (b.0, rest)) (λ i. rest)

asked-increase : (test : Entry → Bool) (es : List Entry) (ws : List Write) → AreIncreasing (logged_serials ws) → AreIncreasing (asked_serials test es ws)
asked-increase test [] ws a = tt
asked-increase test (e ∷ es) [] a = tt
asked-increase test (e ∷ es) (w ∷ ws) a = by w.written (λ b. asked-increase test es ws b) a
  where
    by : (x : WrittenBy) → (AreIncreasing (logged_serials ws) → AreIncreasing (asked_serials test es ws)) → AreIncreasing (serial_of x ++ logged_serials ws)
        → AreIncreasing (cond (test e) (serial_of x ++ asked_serials test es ws) (asked_serials test es ws))
    by (checkpoint f low) later b =
        let rest = later b in
        cond_both (test e) (asked_serials test es ws) (asked_serials test es ws) AreIncreasing (λ i. rest) (λ i. rest)
    by (logged_event s) later b =
        let rest = later b.1 in
        cond_both (test e) (s ∷ asked_serials test es ws) (asked_serials test es ws) AreIncreasing (λ i. (each-asked (λ m. s < m) test es ws b.0, rest)) (λ i. rest)

each_serial-kept : (P : ℕ → Type 0) (test : Write → Bool) (ws : List Write) → AllByRecursion P (logged_serials ws) → AllByRecursion P (logged_serials (filter test ws))
each_serial-kept P test [] a = tt
each_serial-kept P test (w ∷ ws) a = by w.written refl (λ b. each_serial-kept P test ws b) a
  where
    by : (x : WrittenBy) → w.written ≡ x → (AllByRecursion P (logged_serials ws) → AllByRecursion P (logged_serials (filter test ws))) → AllByRecursion P (serial_of x ++ logged_serials ws) → AllByRecursion P (logged_serials (filter test (w ∷ ws)))
    by (checkpoint f low) e later b =
        let rest = later b in
        cond_both (test w) (w ∷ filter test ws) (filter test ws) (λ xs. AllByRecursion P (logged_serials xs))
        (λ i. subst (λ x. AllByRecursion P (serial_of x ++ logged_serials (filter test ws))) (sym e) rest) (λ i. rest)
    by (logged_event s) e later b =
        let rest = later b.1 in
        cond_both (test w) (w ∷ filter test ws) (filter test ws) (λ xs. AllByRecursion P (logged_serials xs))
        (λ i. subst (λ x. AllByRecursion P (serial_of x ++ logged_serials (filter test ws))) (sym e) (b.0, rest)) (λ i. rest)

kept-increase : (test : Write → Bool) (ws : List Write) → AreIncreasing (logged_serials ws) → AreIncreasing (logged_serials (filter test ws))
kept-increase test [] a = tt
kept-increase test (w ∷ ws) a = by w.written refl (λ b. kept-increase test ws b) a
  where
    by : (x : WrittenBy) → w.written ≡ x → (AreIncreasing (logged_serials ws) → AreIncreasing (logged_serials (filter test ws))) → AreIncreasing (serial_of x ++ logged_serials ws) → AreIncreasing (logged_serials (filter test (w ∷ ws)))
    by (checkpoint f low) e later b =
        let rest = later b in
        cond_both (test w) (w ∷ filter test ws) (filter test ws) (λ xs. AreIncreasing (logged_serials xs))
        (λ i. subst (λ x. AreIncreasing (serial_of x ++ logged_serials (filter test ws))) (sym e) rest) (λ i. rest)
    by (logged_event s) e later b =
        let rest = later b.1 in
        cond_both (test w) (w ∷ filter test ws) (filter test ws) (λ xs. AreIncreasing (logged_serials xs))
        (λ i. subst (λ x. AreIncreasing (serial_of x ++ logged_serials (filter test ws))) (sym e) (each_serial-kept (λ m. s < m) test ws b.0, rest)) (λ i. rest)

-- what an entry tells is what is told at the serial that its write logs
entry-told : (sys : System) (state : Machine) (p : ℕ) (e : Written) (w : WrittenBy) → AreLatestFirst state.history → HoldsWhatIsWritten sys state p e w
    → event_in e ≡ flat_map (λ s. told_at s state.history) (serial_of w)
entry-told sys state p (written.Checkpoint recorded stamps sent) (checkpoint f low) l a = refl
entry-told sys state p (written.Checkpoint recorded stamps sent) (logged_event s) l a = absurd a
entry-told sys state p (written.Event event) (checkpoint f low) l a = absurd a
entry-told sys state p (written.Event event) (logged_event s) l a =
    sym (append-nil (told_at s state.history) ∙ told-alone sys.flow p s event state.history l a)

entries-told : (sys : System) (state : Machine) (test : Entry → Bool) (es : List Entry) (ws : List Write) → AreLatestFirst state.history
    → AllZip (IsEntryOf sys state) es ws
    → flat_map (λ (e : Entry). event_in e.written) (filter test es) ≡ flat_map (λ s. told_at s state.history) (asked_serials test es ws)
entries-told sys state test [] [] l a = refl
entries-told sys state test [] (w ∷ ws) l a = absurd a
entries-told sys state test (e ∷ es) [] l a = absurd a
entries-told sys state test (e ∷ es) (w ∷ ws) l a =
    let at : ℕ → List Event = λ s. told_at s state.history in
    let in_entry : Entry → List Event = λ (x : Entry). event_in x.written in
    let rest = entries-told sys state test es ws l a.1 in
    let asked = asked_serials test es ws in
    elim (cases_Bool (test e)) [
      | inl i ↦
          ap (flat_map in_entry) (filter-in test e es i)
          ∙ ap (λ xs. xs ++ flat_map in_entry (filter test es)) (entry-told sys state w.node e.written w.written l a.0.holds)
          ∙ ap (λ xs. flat_map at (serial_of w.written) ++ xs) rest
          ∙ sym (ap (flat_map at) (cond-true (test e) (serial_of w.written ++ asked) asked i) ∙ flat_map-append at (serial_of w.written) asked)
      | inr i ↦ ap (flat_map in_entry) (filter-out test e es i) ∙ rest ∙ sym (ap (flat_map at) (cond-false (test e) (serial_of w.written ++ asked) asked i))
    ]

-- ---- the same serials

-- the write logs the event of this serial, and is acknowledged
abbrev IsItsLog : ℕ → Write → Type 0
IsItsLog n w = (w.written ≡ logged_event n) × (w.stage ≡ acknowledged)

log-is : (n : ℕ) (x : WrittenBy) (far : Stage) → is_its_log n x far ≡ true → (x ≡ logged_event n) × (far ≡ acknowledged)
log-is n (logged_event s) acknowledged i = (ap logged_event (eqb-true s n i), refl)
log-is n (logged_event s) in_flight i = absurd (two_ways false i refl)
log-is n (logged_event s) collected i = absurd (two_ways false i refl)
log-is n (checkpoint f low) far i = absurd (two_ways false i refl)

is-log : (n : ℕ) (x : WrittenBy) (far : Stage) → x ≡ logged_event n → far ≡ acknowledged → is_its_log n x far ≡ true
is-log n x far e k = ap (λ y. is_its_log n y far) e ∙ ap (λ y. is_its_log n (logged_event n) y) k ∙ eq-eqb n n refl

has-some : (n : ℕ) (ws : List Write) → has_log n ws ≡ true → HoldsOfOne (IsItsLog n) ws
has-some n [] i = absurd (two_ways false i refl)
has-some n (w ∷ ws) i = elim (or_cases (is_its_log n w.written w.stage) (has_log n ws) i) [
  | inl j ↦ inl (log-is n w.written w.stage j)
  | inr j ↦ inr (has-some n ws j)
]

some-has : (n : ℕ) (ws : List Write) → HoldsOfOne (IsItsLog n) ws → has_log n ws ≡ true
some-has n [] a = absurd a
some-has n (w ∷ ws) (inl a) = or_left (is_its_log n w.written w.stage) (has_log n ws) (is-log n w.written w.stage a.0 a.1)
some-has n (w ∷ ws) (inr a) = or_right (is_its_log n w.written w.stage) (has_log n ws) (some-has n ws a)

kept-acknowledged : (far : Stage) → is_counted kept far ≡ true → far ≡ acknowledged
kept-acknowledged in_flight e = absurd (two_ways false e refl)
kept-acknowledged acknowledged e = refl
kept-acknowledged collected e = absurd (two_ways false e refl)

-- an event of node p inside f is told under this serial, and an acknowledged write of these logs it
record IsFound (sys : System) (state : Machine) (p : ℕ) (f : Frontier) (n : ℕ) (ws : List Write) : Type 0 where
  pub event : Event
  pub told : HasEventTold sys.flow p n event state.history
  pub inside : f (stamp_of_event event) ≡ true
  pub log : HoldsOfOne (IsItsLog n) ws

-- the entry passes the test and its write logs this serial
found-here : (sys : System) (state : Machine) (p : ℕ) (f : Frontier) (n q : ℕ) (e : Written) (x : WrittenBy) (ws : List Write) → q ≡ p → is_event_inside f e ≡ true
    → HoldsWhatIsWritten sys state q e x → is_one_of n (serial_of x) ≡ true → (x ≡ logged_event n → HoldsOfOne (IsItsLog n) ws) → IsFound sys state p f n ws
found-here sys state p f n q (written.Checkpoint recorded stamps sent) x ws same i a j log = absurd (two_ways false i refl)
found-here sys state p f n q (written.Event event) (checkpoint g low) ws same i a j log = absurd a
found-here sys state p f n q (written.Event event) (logged_event s) ws same i a j log =
    let is : s ≡ n = elim (or_cases (s == n) false j) [ inl k ↦ eqb-true s n k | inr k ↦ absurd (two_ways false k refl) ] in
    record {
      event = event;
      told = subst (λ r. HasEventTold sys.flow r n event state.history) same (subst (λ m. HasEventTold sys.flow q m event state.history) is a);
      inside = i;
      log = log (ap logged_event is);
    }

found : (sys : System) (state : Machine) (p : ℕ) (f : Frontier) (n : ℕ) (es : List Entry) (ws : List Write) → AllZip (IsEntryOf sys state) es ws
    → is_one_of n (asked_serials (is_logged_inside p f) es ws) ≡ true → IsFound sys state p f n ws
found sys state p f n [] ws a i = absurd (two_ways false i refl)
found sys state p f n (e ∷ es) [] a i = absurd a
found sys state p f n (e ∷ es) (w ∷ ws) a i =
    let test = is_logged_inside p f in
    let rest = asked_serials test es ws in
    let later : is_one_of n rest ≡ true → IsFound sys state p f n (w ∷ ws) = λ j. let b = found sys state p f n es ws a.1 j in record { event = b.event; told = b.told; inside = b.inside; log = inr b.log } in
    cond_both (test e) (serial_of w.written ++ rest) rest (λ ns. is_one_of n ns ≡ true → IsFound sys state p f n (w ∷ ws))
    (λ c j. elim (or_cases (is_one_of n (serial_of w.written)) (is_one_of n rest) (sym (list_any-append (λ m. m == n) (serial_of w.written) rest) ∙ j)) [
      | inl k ↦
          let parts = and_parts (e.node == p) (e.acknowledged && is_event_inside f e.written) c in
          let more = and_parts e.acknowledged (is_event_inside f e.written) parts.1 in
          found-here sys state p f n w.node e.written w.written (w ∷ ws) (sym a.0.node ∙ eqb-true e.node p parts.0) more.1 a.0.holds k
          (λ x. inl (x, kept-acknowledged w.stage (sym a.0.acknowledged ∙ more.0)))
      | inr k ↦ later k
    ])
    (λ c j. later j) i

-- each entry of a write that logs the serial passes the test
asked-there : (sys : System) (state : Machine) (test : Entry → Bool) (n : ℕ) (es : List Entry) (ws : List Write) → AllZip (IsEntryOf sys state) es ws
    → ((e : Entry) (w : Write) → IsEntryOf sys state e w → IsItsLog n w → test e ≡ true)
    → HoldsOfOne (IsItsLog n) ws → is_one_of n (asked_serials test es ws) ≡ true
asked-there sys state test n [] [] a k b = absurd b
asked-there sys state test n [] (w ∷ ws) a k b = absurd a
asked-there sys state test n (e ∷ es) [] a k b = absurd a
asked-there sys state test n (e ∷ es) (w ∷ ws) a k (inl b) =
    let rest = asked_serials test es ws in
    let i = k e w a.0 b in
    ap (is_one_of n) (cond-true (test e) (serial_of w.written ++ rest) rest i)
    ∙ ap (λ x. is_one_of n (serial_of x ++ rest)) b.0
    ∙ first_of n rest
asked-there sys state test n (e ∷ es) (w ∷ ws) a k (inr b) =
    let rest = asked_serials test es ws in
    let there = asked-there sys state test n es ws a.1 k b in
    cond_both (test e) (serial_of w.written ++ rest) rest (λ ns. is_one_of n ns ≡ true)
    (λ c. list_any-append (λ m. m == n) (serial_of w.written) rest ∙ or_right (is_one_of n (serial_of w.written)) (is_one_of n rest) there) (λ c. there)

-- ---- the law

-- what is told of an event that is left is inside, and of its node
told-passes : (sys : System) (state : Machine) (p : ℕ) (f : Frontier) (n q : ℕ) (x : Written) → AreLatestFirst state.history
    → HoldsOfOne (λ (v : SerialEvent). (v.serial ≡ n) × ((event_node sys.flow v.event ≡ p) × (f (event_stamp v.event) ≡ true))) state.history
    → HoldsWhatIsWritten sys state q x (logged_event n) → (q ≡ p) × (is_event_inside f x ≡ true)
told-passes sys state p f n q (written.Checkpoint recorded stamps sent) l there h = absurd h
told-passes sys state p f n q (written.Event event) l there h =
    let Left : SerialEvent → Type 0 = λ v. (event_node sys.flow v.event ≡ p) × (f (event_stamp v.event) ≡ true) in
    let Told : SerialEvent → Type 0 = λ v. (event_node sys.flow v.event ≡ q) × (told_of v.event ≡ Some event) in
    let c = both-same Left Told n state.history l there (told-some sys.flow q n event state.history h) in
    (sym c.1.1.0 ∙ c.1.0.0, ap f (told-stamp c.0.event event c.1.1.1) ∙ c.1.0.1)

-- so the entry of its write passes the test
passes : (sys : System) (state : Machine) (p : ℕ) (f : Frontier) (n : ℕ) → AreLatestFirst state.history
    → HoldsOfOne (λ (v : SerialEvent). (v.serial ≡ n) × ((event_node sys.flow v.event ≡ p) × (f (event_stamp v.event) ≡ true))) state.history
    → (e : Entry) (w : Write) → IsEntryOf sys state e w → IsItsLog n w → is_logged_inside p f e ≡ true
passes sys state p f n l there e w a log =
    let b = told-passes sys state p f n w.node e.written l there (subst (HoldsWhatIsWritten sys state w.node e.written) log.0 a.holds) in
    and_from (e.node == p) (e.acknowledged && is_event_inside f e.written) (eq-eqb e.node p (a.node ∙ b.0))
    (and_from e.acknowledged (is_event_inside f e.written) (a.acknowledged ∙ ap (is_counted kept) log.1) b.1)

-- the logged events that are left inside are those of the acknowledged entries of the node inside, in order
pub replayed-of_entries : (sys : System) (state : Machine) → IsWellFormedSystem sys → IsReached sys state
    → (entries : List Entry) → AreEntriesOf sys state entries (filter not_collected state.writes) → (p : ℕ) (f : Frontier)
    → logged_events (replayed_events sys state p f) ≡ flat_map (λ (e : Entry). event_in e.written) (filter (is_logged_inside p f) entries)
replayed-of_entries sys state w reached es a p f =
    let h = state.history in
    let ws = filter not_collected state.writes in
    let order = logged-in_order sys w reached.0 reached.1 state reached.2 in
    let test = is_logged_inside p f in
    let left : SerialEvent → Bool = λ v. event_node sys.flow v.event == p && f (event_stamp v.event) && has_log v.serial state.writes in
    let at : ℕ → List Event = λ s. told_at s h in
    let l = order.latest_first in
    let Own : SerialEvent → Type 0 = λ v. told_at v.serial h ≡ option_to_list (told_of v.event) in
    let Left : SerialEvent → Type 0 = λ v. (event_node sys.flow v.event ≡ p) × (f (event_stamp v.event) ≡ true) in
    let one : (n : ℕ) → is_one_of n (serials_in_order (filter left h)) ≡ true → is_one_of n (asked_serials test es ws) ≡ true = λ n i.
    let some : HoldsOfOne (λ (v : SerialEvent). (v.serial ≡ n) × (left v ≡ true)) h =
    some-unfiltered (λ (v : SerialEvent). (v.serial ≡ n) × (left v ≡ true)) left h
    (serial-some (λ v. left v ≡ true) n (filter left h) (each-filter (λ v. left v ≡ true) left h (each-one (λ v. left v ≡ true → left v ≡ true) h (λ v e. e))) i) in
    let c = some-one (λ (v : SerialEvent). (v.serial ≡ n) × (left v ≡ true)) h some in
    let has : has_log n state.writes ≡ true =
    ap (λ m. has_log m state.writes) (sym c.1.0)
    ∙ (and_parts (event_node sys.flow c.0.event == p && f (event_stamp c.0.event)) (has_log c.0.serial state.writes) c.1.1).1 in
    asked-there sys state test n es ws a
    (passes sys state p f n l
    (some-weaker (λ (v : SerialEvent). (v.serial ≡ n) × (left v ≡ true)) (λ v. (v.serial ≡ n) × Left v) h
    (λ v b.
    let x = and_parts (event_node sys.flow v.event == p && f (event_stamp v.event)) (has_log v.serial state.writes) b.1 in
    let y = and_parts (event_node sys.flow v.event == p) (f (event_stamp v.event)) x.0 in
    (b.0, (eqb-true (event_node sys.flow v.event) p y.0, y.1))) some))
    (some-passed (IsItsLog n) not_collected state.writes (λ x b. ap (λ far. not_collected (record x { stage = far })) b.1) (has-some n state.writes has)) in
    let other : (n : ℕ) → is_one_of n (asked_serials test es ws) ≡ true → is_one_of n (serials_in_order (filter left h)) ≡ true = λ n i.
    let b = found sys state p f n es ws a i in
    let has = some-has n state.writes (some-unfiltered (IsItsLog n) not_collected state.writes b.log) in
    let P : SerialEvent → Type 0 = λ v. (v.serial ≡ n) × (left v ≡ true) in
    some-serial (λ v. left v ≡ true) n (filter left h)
    (some-passed P left h (λ v x. x.1)
    (some-weaker (λ (v : SerialEvent). (v.serial ≡ n) × ((event_node sys.flow v.event ≡ p) × (told_of v.event ≡ Some b.event))) P h
    (λ v x. (
      x.0,
      and_from (event_node sys.flow v.event == p && f (event_stamp v.event)) (has_log v.serial state.writes)
          (and_from (event_node sys.flow v.event == p) (f (event_stamp v.event)) (eq-eqb (event_node sys.flow v.event) p x.1.0)
          (ap f (sym (told-stamp v.event b.event x.1.1)) ∙ b.inside))
          (ap (λ m. has_log m state.writes) x.0 ∙ has),
    ))
    (told-some sys.flow p n b.event h b.told))) in
    history-told h (filter left h) (each-kept Own left h (own-told h l))
    ∙ ap (flat_map at) (same-increasing (serials_in_order (filter left h)) (asked_serials test es ws)
    (serials-increase (filter left h) (latest-kept left h l)) (asked-increase test es ws (kept-increase not_collected state.writes order.asked_in_order)) one other)
    ∙ sym (entries-told sys state test es ws l a)

-- ---- by records

-- a record that can be that of an entry of an event inside tells the event
record-tells : (sys : System) (f : Frontier) (e : Entry) (what : Written) (r : Record) → is_event_inside f what ≡ true → IsRecordAs sys.flow e.node e.base what r
    → event_of r ≡ event_in what
record-tells sys f e (written.Checkpoint recorded stamps sent) r i a = absurd (two_ways false i refl)
record-tells sys f e (written.Event event) r i a = ap event_of a

records-tell : (sys : System) (p : ℕ) (f : Frontier) (es : List Entry) (rs : List Record) → AllByRecursion (λ e. is_logged_inside p f e ≡ true) es
    → AllZip (IsRecordOfEntry sys.flow) es rs → flat_map event_of rs ≡ flat_map (λ (e : Entry). event_in e.written) es
records-tell sys p f [] [] i a = refl
records-tell sys p f [] (r ∷ rs) i a = absurd a
records-tell sys p f (e ∷ es) [] i a = absurd a
records-tell sys p f (e ∷ es) (r ∷ rs) i a =
    let inside = (and_parts e.acknowledged (is_event_inside f e.written) (and_parts (e.node == p) (e.acknowledged && is_event_inside f e.written) i.0).1).1 in
    ap (λ xs. xs ++ flat_map event_of rs) (record-tells sys f e e.written r inside a.0)
    ∙ ap (λ xs. event_in e.written ++ xs) (records-tell sys p f es rs i.1 a.1)

-- so they are what the records tell that can be those of these entries
pub replayed-of_records : (sys : System) (state : Machine) → IsWellFormedSystem sys → IsReached sys state
    → (entries : List Entry) → AreEntriesOf sys state entries (filter not_collected state.writes) → (p : ℕ) (f : Frontier)
    → (records : List Record) → AllZip (IsRecordOfEntry sys.flow) (filter (is_logged_inside p f) entries) records
    → logged_events (replayed_events sys state p f) ≡ flat_map event_of records
replayed-of_records sys state w reached es a p f rs z =
    let test = is_logged_inside p f in
    replayed-of_entries sys state w reached es a p f
    ∙ sym (records-tell sys p f (filter test es) rs (each-filter (λ e. test e ≡ true) test es (each-one (λ e. test e ≡ true → test e ≡ true) es (λ e i. i))) z)
