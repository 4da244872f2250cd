-- The checkpoints of a node among the writes, step by step.
use Rattle.std.proofs.Common.{◌≡◌, ◌≢◌, ◌⊎◌, ℕ, zero, suc, ◌+◌, ◌<◌, ◌≤◌, Bool, true, false, not, cond, ◌&&◌, ◌||◌, ◌==◌, List, [], ◌∷◌, ◌++◌, length, map, filter, refl, sym, ap, subst, ◌∙◌, inl, inr, arith}
use Rattle.std.specs.List.{AllByRecursion, range_with_len}
use Rattle.std.proofs.lemmas.Bool.{cases_Bool, cases_eq, cond_both, eq-eqb, eqb-true, ne_eqb, or_left, or_right}
use Rattle.std.proofs.lemmas.Grind.{flat_map-append}
use Rattle.std.proofs.lemmas.List.{append-nil}
use Rattle.std.proofs.lemmas.List.Folds.{flat_map-map}
use Rattle.fw_lemmas.proofs.Bools.{two_ways}
use Rattle.fw_lemmas.proofs.Each.{each-both, each-one, each-passed}
use Rattle.fw_lemmas.proofs.Filters.{filter-in, filter-out, flat_map-filter}
use Rattle.fw_frontier.specs.Frontier.{Within}
use Rattle.fw_frontier.specs.Front.{Front, frontier_of, is_within, same_front, IsCanonical}
use Rattle.fw_frontier.proofs.NamesLaws.{inside-is_within, is_within-holds}
use Rattle.fw_flow.specs.declared.choice.Choice.{Choice}
use Rattle.fw_flow.specs.declared.choice.Cut.{Cut}
use Rattle.fw_flow.specs.declared.choice.Cut.TheVariants.{At}
use Rattle.fw_flow.specs.declared.kind.Policy.{Policy}
use Rattle.fw_flow.specs.declared.kind.Policy.TheVariants as policy
use Rattle.fw_flow.specs.Dataflow.{System, policy_of, bounds_of, node_ids, is_one_of}
use Rattle.fw_model.specs.Choice.{kept, cut_of, HasCheckpoint}
use Rattle.fw_model.specs.Machine.{Machine, SerialEvent, Write, Written, checkpoint, logged_event, Stage, front_of, no_stamps}
use Rattle.fw_model.specs.Steps.{AcknowledgesOldest, checkpoint_front, checkpoint_of, checkpoints_of, eager_writes, is_eager, is_kept_write, kept_writes, last_or, write_of_event}
use Rattle.fw_model.proofs.AskedLaws.{IsAskedWell, IsWriteAskedWell, AreAskedWell, last-append}
use Rattle.fw_model.proofs.CheckpointLaws.{HoldsSettled, AreWritesSettled}
use Rattle.fw_model.proofs.ChoiceLaws.{same_fronts}
use Rattle.fw_model.proofs.LowLaws.{none-within}
use Rattle.fw_model.proofs.WriteLaws.{HoldsOfOne, IsCheckpointAt, IsItsCheckpoint, some-checkpoint, LiesBelow, IsWriteBelow, AreAscending}

-- the front of a write, if it is a checkpoint of node p
abbrev its_front : ℕ → Write → List Front
its_front p x = cond (x.node == p) (checkpoint_front x.written) []

-- ---- writes that are added, lost or changed

pub checkpoints-append : (p : ℕ) (xs ys : List Write) → checkpoints_of p (xs ++ ys) ≡ checkpoints_of p xs ++ checkpoints_of p ys
checkpoints-append p xs ys = flat_map-append (its_front p) xs ys

-- what is no checkpoint of the node adds none to its
pub others-add_none : (p : ℕ) (xs ys : List Write) → checkpoints_of p ys ≡ [] → checkpoints_of p (xs ++ ys) ≡ checkpoints_of p xs
others-add_none p xs ys none = checkpoints-append p xs ys ∙ ap (λ fs. checkpoints_of p xs ++ fs) none ∙ append-nil (checkpoints_of p xs)

-- where all of the node's are left, its checkpoints are
pub checkpoints-left : (p : ℕ) (test : Write → Bool) (xs : List Write) → ((x : Write) → x.node ≡ p → test x ≡ true)
    → checkpoints_of p (filter test xs) ≡ checkpoints_of p xs
checkpoints-left p test xs left =
    flat_map-filter (its_front p) test xs (each-one (λ x. test x ≡ false → its_front p x ≡ []) xs
    (λ x out. cond_both (x.node == p) (checkpoint_front x.written) [] (λ fs. fs ≡ [])
    (λ is. absurd (two_ways (test x) (left x (eqb-true x.node p is)) out)) (λ isnt. refl)))

-- how far a write is changes nothing
pub checkpoints-staged : (p : ℕ) (far : Write → Stage) (xs : List Write)
    → checkpoints_of p (map (λ (x : Write). record x { stage = far x }) xs) ≡ checkpoints_of p xs
checkpoints-staged p far xs = flat_map-map (its_front p) (λ (x : Write). record x { stage = far x }) xs

pub checkpoints-acknowledged : (p : ℕ) (writes next : List Write) → AcknowledgesOldest writes next → checkpoints_of p next ≡ checkpoints_of p writes
checkpoints-acknowledged p writes next k =
    ap (checkpoints_of p) k.after ∙ flat_map-append (its_front p) k.earlier _ ∙ sym (flat_map-append (its_front p) k.earlier (k.oldest ∷ k.later))
    ∙ sym (ap (checkpoints_of p) k.before)

-- the write of an event is no checkpoint
pub events-are_none : (p : ℕ) (asks : Policy) (n serial : ℕ) → checkpoints_of p (write_of_event asks n serial) ≡ []
events-are_none p policy.Full n serial = none (n == p)
  where
    none : (b : Bool) → cond b (checkpoint_front (logged_event serial)) [] ++ [] ≡ []
    none true = refl
    none false = refl
events-are_none p asks n serial = refl

-- ---- a checkpoint that is asked for

-- it is the newest one of its node
pub newest-asked : (state : Machine) (p : ℕ) (f d : Front) (xs : List Write) → last_or d (checkpoints_of p (xs ++ checkpoint_of state p f ∷ [])) ≡ f
newest-asked state p f d xs =
    ap (last_or d) (checkpoints-append p xs (checkpoint_of state p f ∷ []))
    ∙ last-append d (checkpoints_of p xs) (checkpoints_of p (checkpoint_of state p f ∷ []))
    ∙ ap (λ b. last_or (last_or d (checkpoints_of p xs)) (cond b (f ∷ []) [] ++ [])) (eq-eqb p p refl)

-- and none of another one
pub asked-of_another : (state : Machine) (p q : ℕ) (f : Front) (xs : List Write) → p ≢ q → checkpoints_of q (xs ++ checkpoint_of state p f ∷ []) ≡ checkpoints_of q xs
asked-of_another state p q f xs other =
    others-add_none q xs (checkpoint_of state p f ∷ []) (ap (λ b. cond b (f ∷ []) [] ++ []) (ne_eqb p q other))

-- ---- checkpoints that are asked at progress

-- what these nodes ask at what is settled now
abbrev asked_at : Machine → List Front → List ℕ → List Write
asked_at state settled ps = map (λ q. checkpoint_of state q (front_of settled q)) ps

-- of a node that does not pass none is asked
asked-others : (state : Machine) (settled : List Front) (p : ℕ) (test : ℕ → Bool) (ps : List ℕ) → test p ≡ false
    → checkpoints_of p (asked_at state settled (filter test ps)) ≡ []
asked-others state settled p test [] e = refl
asked-others state settled p test (q ∷ ps) e =
    let rest = asked-others state settled p test ps e in
    cond_both (test q) (q ∷ filter test ps) (filter test ps) (λ qs. checkpoints_of p (asked_at state settled qs) ≡ [])
    (λ is. ap (λ b. cond b (front_of settled q ∷ []) [] ++ checkpoints_of p (asked_at state settled (filter test ps)))
    (ne_eqb q p (λ same. two_ways (test q) is (ap test same ∙ e))) ∙ rest)
    (λ isnt. rest)

-- of one that does, and is among the nodes, the newest is at what is settled of it
asked-newest : (state : Machine) (settled : List Front) (p : ℕ) (test : ℕ → Bool) (ps : List ℕ) → test p ≡ true → (d : Front)
    → (is_one_of p ps ≡ true) ⊎ (d ≡ front_of settled p) → last_or d (checkpoints_of p (asked_at state settled (filter test ps))) ≡ front_of settled p
asked-newest state settled p test [] is d (inl among) = absurd (two_ways false among refl)
asked-newest state settled p test [] is d (inr at) = at
asked-newest state settled p test (q ∷ ps) is d k = elim (cases_eq q p) [
  | inl same ↦
      ap (λ qs. last_or d (checkpoints_of p (asked_at state settled qs))) (filter-in test q ps (ap test same ∙ is))
      ∙ ap (λ b. last_or d (cond b (front_of settled q ∷ []) [] ++ checkpoints_of p (asked_at state settled (filter test ps)))) (eq-eqb q p same)
      ∙ asked-newest state settled p test ps is (front_of settled q) (inr (ap (front_of settled) same))
  | inr other ↦
      let apart = ne_eqb q p other in
      let rest = asked-newest state settled p test ps is d (later (q == p) apart k) in
      cond_both (test q) (q ∷ filter test ps) (filter test ps) (λ qs. last_or d (checkpoints_of p (asked_at state settled qs)) ≡ front_of settled p)
      (λ i. ap (λ b. last_or d (cond b (front_of settled q ∷ []) [] ++ checkpoints_of p (asked_at state settled (filter test ps)))) apart ∙ rest)
      (λ i. rest)
]
  where
    later : (b : Bool) → b ≡ false → ((b || is_one_of p ps) ≡ true) ⊎ (d ≡ front_of settled p) → (is_one_of p ps ≡ true) ⊎ (d ≡ front_of settled p)
    later true e k = absurd (two_ways true refl e)
    later false e k = k

among-range : (p a n : ℕ) → a ≤ p → p < a + n → is_one_of p (range_with_len a n) ≡ true
among-range p a zero l m = absurd (omega (arith, l, m))
among-range p a (suc n) l m = elim (cases_eq a p) [
  | inl same ↦ or_left (a == p) (is_one_of p (range_with_len (a + 1) n)) (eq-eqb a p same)
  | inr other ↦ or_right (a == p) (is_one_of p (range_with_len (a + 1) n)) (among-range p (a + 1) n (omega (arith, l, other)) (omega (arith, m)))
]

-- whether a node asks a checkpoint as what is settled becomes this
abbrev pub asks_at_progress : System → Machine → List Front → ℕ → Bool
asks_at_progress sys state settled p = is_eager (policy_of sys.flow p) && not (same_front (front_of state.settled p) (front_of settled p))

pub unasked-at_progress : (sys : System) (state : Machine) (settled : List Front) (p : ℕ) → asks_at_progress sys state settled p ≡ false
    → checkpoints_of p (state.writes ++ eager_writes sys state settled (node_ids sys.flow)) ≡ checkpoints_of p state.writes
unasked-at_progress sys state settled p isnt =
    others-add_none p state.writes (eager_writes sys state settled (node_ids sys.flow))
    (asked-others state settled p (asks_at_progress sys state settled) (node_ids sys.flow) isnt)

pub asked-at_progress : (sys : System) (state : Machine) (settled : List Front) (p : ℕ) → p < length sys.flow.nodes → asks_at_progress sys state settled p ≡ true → (d : Front)
    → last_or d (checkpoints_of p (state.writes ++ eager_writes sys state settled (node_ids sys.flow))) ≡ front_of settled p
asked-at_progress sys state settled p l is d =
    ap (last_or d) (checkpoints-append p state.writes (eager_writes sys state settled (node_ids sys.flow)))
    ∙ last-append d (checkpoints_of p state.writes) (checkpoints_of p (eager_writes sys state settled (node_ids sys.flow)))
    ∙ asked-newest state settled p (asks_at_progress sys state settled) (node_ids sys.flow) is (last_or d (checkpoints_of p state.writes))
    (inl (among-range p 0 (length sys.flow.nodes) (omega arith) (omega (arith, l))))

-- ---- within what is settled

-- the newest checkpoint of a node lies within what is settled, if what stands for none does
pub newest-within : (sys : System) (settled : List Front) (p : ℕ) → p < length sys.flow.nodes → (xs : List Write) → AreWritesSettled sys settled xs → (d : Front)
    → Within (frontier_of (bounds_of sys.flow p) d) (frontier_of (bounds_of sys.flow p) (front_of settled p))
    → Within (frontier_of (bounds_of sys.flow p) (last_or d (checkpoints_of p xs))) (frontier_of (bounds_of sys.flow p) (front_of settled p))
newest-within sys settled p l [] a d within = within
newest-within sys settled p l (x ∷ xs) a d within =
    cond_both (x.node == p) (checkpoint_front x.written) []
    (λ fs. Within (frontier_of (bounds_of sys.flow p) (last_or d (fs ++ checkpoints_of p xs))) (frontier_of (bounds_of sys.flow p) (front_of settled p)))
    (λ is. by x.written a.0 (eqb-true x.node p is) (newest-within sys settled p l xs a.1))
    (λ isnt. newest-within sys settled p l xs a.1 d within)
  where
    by : (w : Written) → HoldsSettled sys settled x.node w → x.node ≡ p
        → ((e : Front) → Within (frontier_of (bounds_of sys.flow p) e) (frontier_of (bounds_of sys.flow p) (front_of settled p))
        → Within (frontier_of (bounds_of sys.flow p) (last_or e (checkpoints_of p xs))) (frontier_of (bounds_of sys.flow p) (front_of settled p)))
        → Within (frontier_of (bounds_of sys.flow p) (last_or d (checkpoint_front w ++ checkpoints_of p xs))) (frontier_of (bounds_of sys.flow p) (front_of settled p))
    by (checkpoint g low) h same rest =
        rest g (subst (λ q. q < length sys.flow.nodes → Within (frontier_of (bounds_of sys.flow q) g) (frontier_of (bounds_of sys.flow q) (front_of settled q))) same h l)
    by (logged_event serial) h same rest = rest d within

-- ---- a recovery

-- what is written is a checkpoint at f, if it is one of node p
abbrev IsAt : ℕ → Front → ℕ → Written → Type 0
IsAt p f n (checkpoint g low) = n ≡ p → g ≡ f
IsAt p f n (logged_event serial) = Unit {0}

all-at : (p : ℕ) (f : Front) (xs : List Write) → AllByRecursion (λ (x : Write). IsAt p f x.node x.written) xs → last_or f (checkpoints_of p xs) ≡ f
all-at p f [] a = refl
all-at p f (x ∷ xs) a =
    let rest = all-at p f xs a.1 in
    cond_both (x.node == p) (checkpoint_front x.written) [] (λ fs. last_or f (fs ++ checkpoints_of p xs) ≡ f)
    (λ is. by x.written a.0 (eqb-true x.node p is) rest) (λ isnt. rest)
  where
    by : (w : Written) → IsAt p f x.node w → x.node ≡ p → last_or f (checkpoints_of p xs) ≡ f → last_or f (checkpoint_front w ++ checkpoints_of p xs) ≡ f
    by (checkpoint g low) at same rest = subst (λ z. last_or z (checkpoints_of p xs) ≡ f) (sym (at same)) rest
    by (logged_event serial) at same rest = rest

-- what is written holds a frontier, if it is a checkpoint of node p
abbrev HoldsFront : System → ℕ → Front → ℕ → Written → Type 0
HoldsFront sys p f n (checkpoint g low) = n ≡ p → Within (frontier_of (bounds_of sys.flow p) f) (frontier_of (bounds_of sys.flow p) g)
HoldsFront sys p f n (logged_event serial) = Unit {0}

module _ (sys : System) (low : List Front) (next : ℕ) (h : List SerialEvent) (p : ℕ) (f : Front) (choice : Choice) (left : List SerialEvent) where
  -- whether a write lies within the cut of its node
  abbrev stays : Write → Bool
  stays x = is_kept_write (cut_of choice x.node) x.written left

  module _ (there : p < length sys.flow.nodes) (cut : cut_of choice p ≡ At f) (canonical : IsCanonical (bounds_of sys.flow p) f) where
    -- of the checkpoints of the node that hold its cut the one at it stays alone
    stays-at : (n : ℕ) (w : Written) (far : Stage) → IsAskedWell sys low next h n w far → is_kept_write (cut_of choice n) w left ≡ true → HoldsFront sys p f n w → IsAt p f n w
    stays-at n (checkpoint g l) far a is holds = λ same.
        let b = bounds_of sys.flow p in
        let within : is_within g f ≡ true =
        subst (λ (c : Cut). is_kept_write c (checkpoint g l) left ≡ true) cut (subst (λ q. is_kept_write (cut_of choice q) (checkpoint g l) left ≡ true) same is) in
        same_fronts b g f (subst (λ q. IsCanonical (bounds_of sys.flow q) g) same a.1) canonical (is_within-holds b g f within) (holds same)
    stays-at n (logged_event serial) far a is holds = tt

    all-stay_at : (xs : List Write) → AllByRecursion (λ (x : Write). HoldsFront sys p f x.node x.written × IsWriteAskedWell sys low next h x) xs
        → last_or f (checkpoints_of p (filter stays xs)) ≡ f
    all-stay_at xs a =
        all-at p f (filter stays xs) (each-passed (λ (x : Write). HoldsFront sys p f x.node x.written × IsWriteAskedWell sys low next h x)
        (λ (x : Write). IsAt p f x.node x.written) stays xs (λ x is k. stays-at x.node x.written x.stage k.1 is k.0) a)

    -- what comes after the checkpoint at the cut holds it
    later-holds : (n : ℕ) (w : Written) (far : Stage) → IsCheckpointAt kept p f n w far → (m : ℕ) (v : Written) → LiesBelow sys n w m v → HoldsFront sys p f m v
    later-holds n (checkpoint g l) far is m (checkpoint e k) below = λ same.
        subst (λ x. Within (frontier_of (bounds_of sys.flow p) x) (frontier_of (bounds_of sys.flow p) e)) is.1
        (subst (λ q. q < length sys.flow.nodes → Within (frontier_of (bounds_of sys.flow q) g) (frontier_of (bounds_of sys.flow q) e)) is.0 (below (is.0 ∙ sym same)) there)
    later-holds n (checkpoint g l) far is m (logged_event serial) below = tt
    later-holds n (logged_event serial) far is m v below = absurd is

    -- it stays itself
    its-stays : (n : ℕ) (w : Written) (far : Stage) → IsCheckpointAt kept p f n w far → (is_kept_write (cut_of choice n) w left ≡ true) × (cond (n == p) (checkpoint_front w) [] ≡ f ∷ [])
    its-stays n (checkpoint g l) far is = (
      ap (λ q. is_kept_write (cut_of choice q) (checkpoint g l) left) is.0 ∙ ap (λ (c : Cut). is_kept_write c (checkpoint g l) left) cut
          ∙ ap (λ x. is_within x f) is.1 ∙ inside-is_within f f (λ t i. i),
      ap (λ b. cond b (g ∷ []) []) (eq-eqb n p is.0) ∙ ap (λ x. x ∷ []) is.1,
    )
    its-stays n (logged_event serial) far is = absurd is

    cut-newest : (xs : List Write) → HoldsOfOne (IsItsCheckpoint kept p f) xs → AreAscending sys xs → AreAskedWell sys low next h xs → (d : Front)
        → last_or d (checkpoints_of p (filter stays xs)) ≡ f
    cut-newest [] has a b d = absurd has
    cut-newest (x ∷ xs) (inl is) a b d =
        let its = its-stays x.node x.written x.stage is in
        ap (λ ys. last_or d (checkpoints_of p ys)) (filter-in stays x xs its.0)
        ∙ ap (λ fs. last_or d (fs ++ checkpoints_of p (filter stays xs))) its.1
        ∙ all-stay_at xs (each-passed-all xs
        (each-both (IsWriteBelow sys x) (IsWriteAskedWell sys low next h) xs a.0 b.1))
      where
        each-passed-all : (ys : List Write) → AllByRecursion (λ (y : Write). IsWriteBelow sys x y × IsWriteAskedWell sys low next h y) ys
            → AllByRecursion (λ (y : Write). HoldsFront sys p f y.node y.written × IsWriteAskedWell sys low next h y) ys
        each-passed-all [] k = tt
        each-passed-all (y ∷ ys) k = ((later-holds x.node x.written x.stage is y.node y.written k.0.0, k.0.1), each-passed-all ys k.1)
    cut-newest (x ∷ xs) (inr has) a b d = elim (cases_Bool (stays x)) [
      | inl k ↦
          ap (λ ys. last_or d (checkpoints_of p ys)) (filter-in stays x xs k) ∙ last-append d (its_front p x) (checkpoints_of p (filter stays xs))
          ∙ cut-newest xs has a.1 b.1 (last_or d (its_front p x))
      | inr k ↦ ap (λ ys. last_or d (checkpoints_of p ys)) (filter-out stays x xs k) ∙ cut-newest xs has a.1 b.1 d
    ]

    -- cut to one of its checkpoints, or to no stamps, a node has that one as its newest
    pub newest-at_cut : (xs : List Write) → (f ≡ no_stamps (bounds_of sys.flow p)) ⊎ HasCheckpoint kept p f xs → AreAscending sys xs → AreAskedWell sys low next h xs
        → last_or (no_stamps (bounds_of sys.flow p)) (checkpoints_of p (kept_writes choice left xs)) ≡ f
    newest-at_cut xs (inr has) a b = cut-newest xs (some-checkpoint kept p f xs has) a b (no_stamps (bounds_of sys.flow p))
    newest-at_cut xs (inl none) a b =
        subst (λ d. last_or d (checkpoints_of p (filter stays xs)) ≡ f) none (all-stay_at xs (each-holds xs b))
      where
        holds : (n : ℕ) (w : Written) → HoldsFront sys p f n w
        holds n (checkpoint g l) = λ same.
            let b = bounds_of sys.flow p in
            subst (λ x. Within (frontier_of b x) (frontier_of b g)) (sym none) (none-within b (frontier_of b g))
        holds n (logged_event serial) = tt

        each-holds : (ys : List Write) → AreAskedWell sys low next h ys
            → AllByRecursion (λ (y : Write). HoldsFront sys p f y.node y.written × IsWriteAskedWell sys low next h y) ys
        each-holds [] k = tt
        each-holds (y ∷ ys) k = ((holds y.node y.written, k.0), each-holds ys k.1)
