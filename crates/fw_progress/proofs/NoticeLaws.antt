-- Whether a node may be notified, by counts and complete frontiers.
use Rattle.std.proofs.Common.{◌↔◌, ◌≡◌, ℕ, ◌+◌, ◌<◌, ◌≤◌, Bool, true, false, not, ◌&&◌, ◌||◌, nat_lt, cond, find, List, [], ◌∷◌, length, get_or, take, Option, Some, None, unwrap_or, refl, sym, ap, subst, ◌∙◌, inl, inr, arith}
use Rattle.std.specs.Prelude.{IfSome}
use Rattle.std.specs.List.{AllByRecursion, list_all, list_any}
use Rattle.std.specs.declared.cmp.Ordering.{Ordering}
use Rattle.std.specs.declared.cmp.Ordering.TheVariants.{Less, Equal, Greater}
use Rattle.std.specs.List.Sorted.{IsStrictlySortedBy}
use Rattle.std.specs.Ordering.{is_gt, is_lt, ordering_reverse}
use Rattle.std.specs.Map.{keys_of, lookup}
use Rattle.std.specs.BTreeMap.{is_at}
use Rattle.std.proofs.lemmas.Bool.{and_parts, and_from, both_ways, cases_Bool, cases_lt, false_from_ne_true, or_left, or_right}
use Rattle.std.proofs.Math.Bool.{and-true}
use Rattle.std.proofs.lemmas.Bool.Decides.{nat_tests}
use Rattle.std.proofs.lemmas.List.{get_or_past, take_more}
use Rattle.fw_lemmas.proofs.Each.{each-weaker, each-at, each-of_all, all-of_each}
use Rattle.fw_time.specs.Stamp.{Stamp, leq, lesser, in_domain, stamp_cmp}
use Rattle.fw_time.specs.declared.stamp.Bounds.{Bounds}
use Rattle.fw_time.proofs.StampLaws.{before-from_leq, same-is, same-refl}
use Rattle.fw_frontier.specs.Front.{Front, inside, IsFrontOf}
use Rattle.fw_frontier.proofs.InsideLaws.{inside-closed}
use Rattle.fw_flow.specs.declared.event.Event.{Event}
use Rattle.fw_flow.specs.Dataflow.{System, Dataflow, sender, receiver, in_edges, bounds_of, node_frontier}
use Rattle.fw_flow.specs.Projection.{phi_by_count, table_count}
use Rattle.fw_flow.specs.WellFormed.{IsWellFormed}
use Rattle.fw_flow.proofs.EdgeLaws.{in_edges-at, in_edges-from}
use Rattle.fw_model.specs.History.{pending_messages, is_owed_notice, IsComplete, IsNotifiable}
use Rattle.fw_model.specs.Machine.{family_of}
use Rattle.fw_model.specs.Steps.{IsNextNotice}
use Rattle.fw_model.proofs.CmpLaws.{not_greater, stamp_total}
use Rattle.fw_model.proofs.DescentLaws.{past_edges-quiet}
use Rattle.fw_model.proofs.ProgressLaws.{notifiable-by}
use Rattle.fw_progress.specs.declared.counts.Counts.{Counts}
use Rattle.fw_progress.specs.Counts.{pending_of, owed_of, sent_of, come_by, AreCounts}
use Rattle.fw_progress.specs.History.{IsCountOf}
use Rattle.fw_progress.specs.Notices.{has_come, CanNotify, IsFirstNotice, IsFirstOwed}
use Rattle.fw_progress.specs.Tally.{times_in, has_one, AreCountsPositive}
use Rattle.fw_progress.proofs.HistoryLaws.{some-count, count-some, phi-is}
use Rattle.fw_progress.proofs.TallyLaws.{is_eq-same, none-inside, inside-none}
use Rattle.fw_progress.proofs.TargetLaws.{all-append, in_edge}

-- ---- the stamps of a tally

some-of : (b : Bool) (n m : ℕ) → 0 < n → nat_lt 0 m ≡ true → nat_lt 0 (cond b n m) ≡ true
some-of true n m l k = grind (arith, nat_tests)
some-of false n m l k = k

has-more : (e : Stamp × ℕ) (es : List (Stamp × ℕ)) (s : Stamp) → 0 < e.1 → has_one s es ≡ true → has_one s (e ∷ es) ≡ true
unfolding times_in
has-more e es s l k = by (is_at (stamp_cmp s) e.0) k
  where
    by : (b : Bool) → nat_lt 0 (unwrap_or (lookup (is_at (stamp_cmp s)) es) 0) ≡ true → nat_lt 0 (unwrap_or (cond b (Some e.1) (lookup (is_at (stamp_cmp s)) es)) 0) ≡ true
    by true j = grind (arith, nat_tests)
    by false j = j

has-first : (e : Stamp × ℕ) (es : List (Stamp × ℕ)) → 0 < e.1 → has_one e.0 (e ∷ es) ≡ true
unfolding times_in
has-first e es l =
    ap (λ b. nat_lt 0 (unwrap_or (cond b (Some e.1) (lookup (is_at (stamp_cmp e.0)) es)) 0)) (is_eq-same e.0 e.0 ∙ same-refl e.0) ∙ positive e.1 l
  where
    positive : (n : ℕ) → 0 < n → nat_lt 0 n ≡ true
    positive n k = grind (arith, nat_tests)

-- there is one of each listed stamp
keys-have : (es : List (Stamp × ℕ)) → AreCountsPositive es → AllByRecursion (λ s. has_one s es ≡ true) (keys_of es)
keys-have [] p = tt
keys-have (e ∷ es) p = (has-first e es p.0, each-weaker (λ s. has_one s es ≡ true) (λ s. has_one s (e ∷ es) ≡ true) (keys_of es) (λ s k. has-more e es s p.0 k) (keys-have es p.1))

-- a stamp of which there is one is listed
has-listed : (test : Stamp → Bool) (s : Stamp) → test s ≡ true → (es : List (Stamp × ℕ)) → has_one s es ≡ true → list_any test (keys_of es) ≡ true
unfolding times_in
has-listed test s t [] k = absurd (cc)
has-listed test s t (e ∷ es) k = elim (cases_Bool (is_at (stamp_cmp s) e.0)) [
  | inl i ↦ or_left (test e.0) (list_any test (keys_of es)) (sym (ap test (same-is s e.0 (sym (is_eq-same s e.0) ∙ i))) ∙ t)
  | inr i ↦ or_right (test e.0) (list_any test (keys_of es)) (has-listed test s t es (sym (ap (λ b. nat_lt 0 (unwrap_or (cond b (Some e.1) (lookup (is_at (stamp_cmp s)) es)) 0)) i) ∙ k))
]

none-listed : (test : Stamp → Bool) (xs : List Stamp) → AllByRecursion (λ s. test s ≡ false) xs → list_any test xs ≡ false
none-listed test [] a = refl
none-listed test (x ∷ xs) a = ap (λ b. b || list_any test xs) a.0 ∙ none-listed test xs a.1

-- ---- the law

past-receiver : (flow : Dataflow) (d p : ℕ) → length flow.edges ≤ d → receiver flow d ≡ p → p < length flow.nodes → ⊥
unfolding receiver
past-receiver flow d p k q n =
    let is = ap (λ x. x.receiver) (get_or_past flow.edges d (record { name = []; sender = length flow.nodes; receiver = length flow.nodes }) k) in
    omega arith

pub can_notify-is : (sys : System) (h : List Event) (counts : Counts) (kept : List Front) → IsWellFormed sys.flow → AreCounts sys.flow counts → IsCountOf sys h counts → IsComplete sys h (family_of sys.flow kept)
    → (p : ℕ) → p < length sys.flow.nodes → (t : Stamp) → in_domain (bounds_of sys.flow p) t ≡ true → IsNotifiable sys h p t ↔ CanNotify sys.flow counts kept p t
can_notify-is sys h counts kept w a c done p l t d =
    let flow = sys.flow in
    let family = family_of flow kept in
    let by = notifiable-by sys h family done p t in
    let owed = owed_of counts p in
    let test : ℕ → Bool = λ e. come_by flow counts e (family (sender flow e)) t in (
      λ n.
          let k = by.0 n in
          record {
            is_owed = c.owed p l t ∙ k.is_owed;
            none_lesser = none-listed (λ s. lesser s t) (keys_of owed) (each-weaker (λ s. has_one s owed ≡ true) (λ s. lesser s t ≡ false) (keys_of owed)
                (λ s j. false_from_ne_true (lesser s t) (λ i. both_ways (is_owed_notice sys h p s) (k.none_lesser s i) (sym (c.owed p l s) ∙ j))) (keys-have owed (a.owed p l).positive));
            comes = all-of_each test (in_edges flow p) (in_edges-from (λ e. test e ≡ true) flow p (λ e m r.
                and_from (node_frontier flow (receiver flow e) (keys_of (pending_of counts e)) t) (phi_by_count flow (table_count (family (sender flow e)) (sent_of counts (sender flow e))) e (family (sender flow e)) t)
                (and_from (in_domain (bounds_of flow (receiver flow e)) t) (inside (keys_of (pending_of counts e)) t) (ap (λ q. in_domain (bounds_of flow q) t) r ∙ d)
                (inside-none (pending_of counts e) (a.pending e m).positive t (λ s j. c.pending e m s ∙ some-count s (pending_messages sys h e) (k.quiet s j e r))))
                (phi-is sys h counts w c e m (family (sender flow e)) t ∙ k.arrives e r)));
          },
      λ k.
          let comes : (e : ℕ) → e < length flow.edges → receiver flow e ≡ p → (node_frontier flow (receiver flow e) (keys_of (pending_of counts e)) t ≡ true) × (phi_by_count flow (table_count (family (sender flow e)) (sent_of counts (sender flow e))) e (family (sender flow e)) t ≡ true) =
          λ e m r. and_parts _ _ (in_edges-at (λ x. test x ≡ true) flow p (each-of_all test (in_edges flow p) k.comes) e m r) in
          by.1 (record {
            is_owed = sym (c.owed p l t) ∙ k.is_owed;
            none_lesser = λ s i. sym (c.owed p l s) ∙ false_from_ne_true (has_one s owed) (λ j. both_ways (list_any (λ u. lesser u t) (keys_of owed)) k.none_lesser (has-listed (λ u. lesser u t) s i owed j));
            quiet = λ s j e r. elim (cases_lt e (length flow.edges)) [
              | inl m ↦ count-some s (pending_messages sys h e) (sym (c.pending e m s) ∙ none-inside (pending_of counts e) t (and_parts _ _ (comes e m r).0).1 s j)
              | inr m ↦ past_edges-quiet sys h e s m
            ];
            arrives = λ e r. elim (cases_lt e (length flow.edges)) [
              | inl m ↦ sym (phi-is sys h counts w c e m (family (sender flow e)) t) ∙ (comes e m r).1
              | inr m ↦ absurd (past-receiver flow e p m r l)
            ];
          }),
    )

-- ---- the first one

-- what holds of each listed stamp holds of one of which there is one
each-counted : (P : Stamp → Type 0) (es : List (Stamp × ℕ)) → AllByRecursion P (keys_of es) → (s : Stamp) → has_one s es ≡ true → P s
unfolding times_in
each-counted P [] a s k = absurd (cc)
each-counted P (e ∷ es) a s k = elim (cases_Bool (is_at (stamp_cmp s) e.0)) [
  | inl i ↦ subst P (sym (same-is s e.0 (sym (is_eq-same s e.0) ∙ i))) a.0
  | inr i ↦ each-counted P es a.1 s (sym (ap (λ b. nat_lt 0 (unwrap_or (cond b (Some e.1) (lookup (is_at (stamp_cmp s)) es)) 0)) i) ∙ k)
]

found-each : (P : Stamp → Type 0) (test : Stamp → Bool) (xs : List Stamp) (t : Stamp) → AllByRecursion P xs → find test xs ≡ Some t → P t
found-each P test [] t a f = absurd (cc)
found-each P test (x ∷ xs) t a f = elim (cases_Bool (test x)) [
  | inl y ↦ let is : Some x ≡ Some t = sym (ap (λ b. cond b (Some x) (find test xs)) y) ∙ f in let e : x ≡ t = cc in subst P e a.0
  | inr n ↦ found-each P test xs t a.1 (sym (ap (λ b. cond b (Some x) (find test xs)) n) ∙ f)
]

found-test : (test : Stamp → Bool) (xs : List Stamp) (t : Stamp) → find test xs ≡ Some t → test t ≡ true
found-test test [] t f = absurd (cc)
found-test test (x ∷ xs) t f = elim (cases_Bool (test x)) [
  | inl y ↦ let is : Some x ≡ Some t = sym (ap (λ b. cond b (Some x) (find test xs)) y) ∙ f in let e : x ≡ t = cc in sym (ap test e) ∙ y
  | inr n ↦ found-test test xs t (sym (ap (λ b. cond b (Some x) (find test xs)) n) ∙ f)
]

found-none : (test : Stamp → Bool) (xs : List Stamp) → find test xs ≡ None → AllByRecursion (λ s. test s ≡ false) xs
found-none test [] f = tt
found-none test (x ∷ xs) f = elim (cases_Bool (test x)) [
  | inl y ↦ let is : Some x ≡ None = sym (ap (λ b. cond b (Some x) (find test xs)) y) ∙ f in absurd (cc)
  | inr n ↦ (n, found-none test xs (sym (ap (λ b. cond b (Some x) (find test xs)) n) ∙ f))
]

not-after-itself : (s : Stamp) → is_gt (stamp_cmp s s) ≡ false
not-after-itself s = false_from_ne_true (is_gt (stamp_cmp s s)) (λ g. both_ways (is_gt (stamp_cmp s s)) (not_greater stamp_total s s g) g)

-- the first listed stamp that passes comes after no other that passes
first-least : (test : Stamp → Bool) (es : List (Stamp × ℕ)) → IsStrictlySortedBy stamp_cmp (keys_of es) → (t : Stamp) → find test (keys_of es) ≡ Some t
    → (s : Stamp) → has_one s es ≡ true → test s ≡ true → is_gt (stamp_cmp t s) ≡ false
unfolding IsStrictlySortedBy times_in
first-least test [] o t f s k i = absurd (cc)
first-least test (e ∷ es) o t f s k i = elim (cases_Bool (test e.0)) [
  | inl y ↦
      let is : Some e.0 ≡ Some t = sym (ap (λ b. cond b (Some e.0) (find test (keys_of es))) y) ∙ f in
      let at : e.0 ≡ t = cc in
      let P : Stamp → Type 0 = λ u. is_gt (stamp_cmp e.0 u) ≡ false in
      sym (ap (λ u. is_gt (stamp_cmp u s)) at)
      ∙ each-counted P (e ∷ es) (not-after-itself e.0, each-weaker (λ u. stamp_cmp e.0 u ≡ Less) P (keys_of es) (λ u l. ap is_gt l) o.0) s k
  | inr n ↦ elim (cases_Bool (is_at (stamp_cmp s) e.0)) [
    | inl j ↦ absurd (both_ways (test e.0) n (sym (ap test (same-is s e.0 (sym (is_eq-same s e.0) ∙ j))) ∙ i))
    | inr j ↦
        first-least test es o.1 t (sym (ap (λ b. cond b (Some e.0) (find test (keys_of es))) n) ∙ f) s
        (sym (ap (λ b. nat_lt 0 (unwrap_or (cond b (Some e.1) (lookup (is_at (stamp_cmp s)) es)) 0)) j) ∙ k) i
  ]
]

is-less : (o : Ordering) → is_lt o ≡ true → o ≡ Less
is-less Less k = refl
is-less Equal k = absurd (cc)
is-less Greater k = absurd (cc)

-- a lesser stamp comes before
lesser-before : (s t : Stamp) → lesser s t ≡ true → is_gt (stamp_cmp t s) ≡ true
lesser-before s t l =
    let both = and_parts (leq s t) (not (leq t s)) l in
    let before : stamp_cmp s t ≡ Less = is-less (stamp_cmp s t) (before-from_leq s t both.0 (not-false (leq t s) both.1)) in
    ap is_gt (stamp_total.antisymm t s ∙ ap ordering_reverse before)
  where
    not-false : (b : Bool) → not b ≡ true → b ≡ false
    not-false true k = absurd (cc)
    not-false false k = refl

-- up to where all has come, at a stamp of the domain
come-at : (b : Bounds) (f : Front) (test : Stamp → Bool) → IsFrontOf b f (λ t. in_domain b t && test t) → (t : Stamp) → in_domain b t ≡ true → inside f t ≡ test t
come-at b f test n t d = sym (ap (λ c. c && inside f t) d) ∙ n.same t ∙ ap (λ c. c && test t) d

pub all-front : (b : Bounds) (f : Front) → f ≡ [] → IsFrontOf b f (in_domain b)
all-front b f e = subst (λ (x : Front). IsFrontOf b x (in_domain b)) (sym e) (record { canonical = tt; same = λ t. and-true (in_domain b t) })

-- the first stamp that is owed and up to which all has come is of the domain
pub first-domain : (flow : Dataflow) (counts : Counts) (kept : List Front) → AreCounts flow counts → (p : ℕ) → p < length flow.nodes → (first : Option Stamp) → IsFirstOwed flow counts kept p first
    → IfSome first (λ t. in_domain (bounds_of flow p) t ≡ true)
first-domain flow counts kept a p l None o = tt
first-domain flow counts kept a p l (Some t) o =
    found-each (λ s. in_domain (bounds_of flow p) s ≡ true) (inside o.come) (keys_of (owed_of counts p)) t (a.owed p l).of_domain (sym o.is_first)

pub first_notice-is : (sys : System) (h : List Event) (counts : Counts) (kept : List Front) → IsWellFormed sys.flow → AreCounts sys.flow counts → IsCountOf sys h counts → IsComplete sys h (family_of sys.flow kept)
    → (p : ℕ) → p < length sys.flow.nodes → (first : Option Stamp) → IsFirstOwed sys.flow counts kept p first → IsFirstNotice sys h p first
first_notice-is sys h counts kept w a c done p l first o = by first o.is_first
  where
    -- what may be notified is owed, and all has come up to it
    may : (t : Stamp) → IsNotifiable sys h p t → (has_one t (owed_of counts p) ≡ true) × (inside o.come t ≡ true)
    may t n =
        let owes = c.owed p l t ∙ n.is_owed in
        let d = each-counted (λ s. in_domain (bounds_of sys.flow p) s ≡ true) (owed_of counts p) (a.owed p l).of_domain t owes in
        let can = (can_notify-is sys h counts kept w a c done p l t d).0 n in (
          owes,
          come-at (bounds_of sys.flow p) o.come (has_come sys.flow counts kept p) o.all_come t d ∙ can.comes,
        )

    by : (r : Option Stamp) → r ≡ find (inside o.come) (keys_of (owed_of counts p)) → IsFirstNotice sys h p r
    by None e = λ t n.
        let k = may t n in
        both_ways (inside o.come t) (each-counted (λ s. inside o.come s ≡ false) (owed_of counts p) (found-none (inside o.come) (keys_of (owed_of counts p)) (sym e)) t k.0) k.1
    by (Some t) e =
        let owed = owed_of counts p in
        let test : Stamp → Bool = inside o.come in
        let d = found-each (λ s. in_domain (bounds_of sys.flow p) s ≡ true) test (keys_of owed) t (a.owed p l).of_domain (sym e) in
        let here = found-test test (keys_of owed) t (sym e) in
        let can : CanNotify sys.flow counts kept p t = record {
          is_owed = found-each (λ s. has_one s owed ≡ true) test (keys_of owed) t (keys-have owed (a.owed p l).positive) (sym e);
          none_lesser = none-listed (λ s. lesser s t) (keys_of owed) (each-weaker (λ s. has_one s owed ≡ true) (λ s. lesser s t ≡ false) (keys_of owed)
              (λ s j. false_from_ne_true (lesser s t) (λ i.
              both_ways (is_gt (stamp_cmp t s)) (first-least test owed o.in_order t (sym e) s j (inside-closed o.come s t (and_parts (leq s t) (not (leq t s)) i).0 here)) (lesser-before s t i)))
              (keys-have owed (a.owed p l).positive));
          comes = sym (come-at (bounds_of sys.flow p) o.come (has_come sys.flow counts kept p) o.all_come t d) ∙ here;
        } in
        record {
          enabled = (can_notify-is sys h counts kept w a c done p l t d).1 can;
          asked = tt;
          least = λ other n q. let k = may other n in first-least test owed o.in_order t (sym e) other k.0 k.1;
        }

-- one that may be notified is the next at the stamp that is asked for
pub notice-asked : (sys : System) (h : List Event) (p : ℕ) (t : Stamp) → IsNotifiable sys h p t → IsNextNotice sys h p (Some t) t
notice-asked sys h p t n = record { enabled = n; asked = refl; least = λ other k q. sym (ap (λ s. is_gt (stamp_cmp t s)) q) ∙ not-after-itself t }

-- ---- what is read

-- one edge more on which all came
pub come-more : (test : ℕ → Bool) (edges : List ℕ) (i e : ℕ) → i < length edges → e ≡ get_or edges i e → list_all test (take i edges) ≡ true → test e ≡ true → list_all test (take (i + 1) edges) ≡ true
come-more test edges i e l is a k =
    ap (list_all test) (take_more edges i e l) ∙ all-append test (take i edges) (get_or edges i e)
    ∙ and_from (list_all test (take i edges)) (test (get_or edges i e)) a (sym (ap test is) ∙ k)

-- an edge on which not all came
pub come-not : (test : ℕ → Bool) (edges : List ℕ) (i e : ℕ) → i < length edges → e ≡ get_or edges i e → test e ≡ false → list_all test edges ≡ false
come-not test edges i e l is k = false_from_ne_true (list_all test edges) (λ a.
    both_ways (test e) k (ap test is ∙ each-at (λ d. test d ≡ true) edges i e l (each-of_all test edges a)))

contains-read : (flow : Dataflow) (q p : ℕ) (f : Front) (g : Stamp → Bool) (t : Stamp) → q ≡ p → in_domain (bounds_of flow p) t ≡ true → IsFrontOf (bounds_of flow q) f g → g t ≡ inside f t
contains-read flow q p f g t e d n = sym (n.same t) ∙ ap (λ b. b && inside f t) (ap (λ x. in_domain (bounds_of flow x) t) e ∙ d)

-- what is read of what can come on an in-edge
pub come-read : (flow : Dataflow) (counts : Counts) (fronts : List Front) (p : ℕ) (edges : List ℕ) (i e : ℕ) → edges ≡ in_edges flow p → i < length edges → e ≡ get_or edges i e
    → (come : Front) (t : Stamp) → in_domain (bounds_of flow p) t ≡ true → IsFrontOf (bounds_of flow (receiver flow e)) come (come_by flow counts e (family_of flow fronts (sender flow e)))
    → come_by flow counts e (family_of flow fronts (sender flow e)) t ≡ inside come t
come-read flow counts fronts p edges i e es l is come t d n =
    contains-read flow (receiver flow e) p come (come_by flow counts e (family_of flow fronts (sender flow e))) t (in_edge flow p edges i e es l is).1 d n
