-- An eager node's newest checkpoint holds all that is settled at it.
use Rattle.std.proofs.Common.{◌≡◌, ℕ, zero, suc, ◌+◌, ◌<◌, ◌≤◌, Bool, true, false, not, ◌&&◌, ◌||◌, ◌==◌, cond, List, [], ◌∷◌, ◌++◌, length, map, filter, refl, sym, ap, subst, ◌∙◌, inl, inr, arith}
use Rattle.std.specs.List.{AllByRecursion, range_with_len}
use Rattle.std.proofs.lemmas.Bool.{cases_Bool, cases_eq, and_from, cond_both, eqb-true, eq-eqb}
use Rattle.fw_lemmas.proofs.Bools.{two_ways}
use Rattle.std.proofs.lemmas.List.FromFn.{get_or-map-range_with_len}
use Rattle.fw_lemmas.proofs.Each.{each-weaker, each-both, each-one}
use Rattle.fw_lemmas.proofs.Filters.{filter-in, filter-out}
use Rattle.fw_frontier.specs.Frontier.{Frontier, Within, meet}
use Rattle.fw_frontier.specs.Front.{Front, frontier_of, same_front, is_within, IsCanonical}
use Rattle.fw_frontier.proofs.NamesLaws.{names-same, is_within-holds, within-is}
use Rattle.fw_frontier.proofs.SameLaws.{same_front-is}
use Rattle.fw_flow.specs.declared.choice.Cut.{Cut}
use Rattle.fw_flow.specs.declared.choice.Cut.TheVariants.{Present, At}
use Rattle.fw_flow.specs.declared.choice.Choice.{Choice}
use Rattle.fw_flow.specs.declared.kind.Policy.{Policy}
use Rattle.fw_flow.specs.declared.kind.Policy.TheVariants as policy
use Rattle.fw_flow.specs.declared.restoring.Restoring.TheVariants.{Checkpoints}
use Rattle.fw_flow.specs.declared.event.Event.{Event}
use Rattle.fw_flow.specs.declared.event.Event.TheVariants.{Inject as Injected, Deliver as Delivered, Notify as Notified}
use Rattle.fw_flow.specs.declared.step.Step.{Step}
use Rattle.fw_flow.specs.declared.step.Step.TheVariants.{Inject, Deliver, Notify, Progress as ProgressStep, Checkpoint, Persist, Fail, Recover, Collect, Ack}
use Rattle.fw_model.specs.Writes.{takes_checkpoints}
use Rattle.fw_model.proofs.GoingOn.{runs-go_on}
use Rattle.fw_flow.specs.Dataflow.{System, kind_of, policy_of, bounds_of, is_input_kind, node_ids, is_one_of}
use Rattle.fw_flow.specs.NodeFunction.{event_node}
use Rattle.fw_flow.specs.WellFormed.{IsWellFormedSystem}
use Rattle.fw_model.specs.Choice.{kept, cut_of, filtered_history, IsCandidate, IsRestorable}
use Rattle.fw_model.specs.Machine.{Machine, SerialEvent, Write, Written, checkpoint, logged_event, Stage, acknowledged, first_state, front_of, is_failed, no_stamps}
use Rattle.fw_model.specs.Reached.{IsReached}
use Rattle.fw_model.specs.Steps.{Effect, Outcome, did, idle, LeadsTo, StepsTo, Run, write_of_event, with_event, checkpoint_of, is_eager, eager_writes, is_asked_for_checkpoints, checkpoint_front, checkpoints_of, last_or, newest_checkpoint, AcknowledgesOldest, is_in_flight, without_lost, with_failed, is_kept_write, kept_writes, IsSettledCut, CutsTo, recovered_state, front_of_cut, is_forgotten, after_collection, GrowsTo}
use Rattle.fw_model.proofs.AskedLaws.{last-append, takes-declared, eager-takes, takes-restoring, takes-not_input, IsAskedWell, IsWriteAskedWell, AreAskedWell, CanRecoverAndRestore, reached-all}
use Rattle.fw_model.proofs.CheckpointFrontLaws.{checkpoints-have_stamps}
use Rattle.fw_model.proofs.CheckpointLaws.{candidates-within_settled}
use Rattle.fw_model.proofs.ChoiceLaws.{same_fronts}
use Rattle.fw_model.proofs.LowLaws.{input-is, none-within}
use Rattle.fw_model.proofs.WriteLaws.{HoldsOfOne, IsCheckpointAt, IsItsCheckpoint, some-checkpoint, LiesBelow, IsWriteBelow, AreAscending}

-- ---- the fronts of a node's checkpoints

-- the front of a write, if it is a checkpoint of node p
abbrev mine : ℕ → Write → List Front
mine p x = cond (x.node == p) (checkpoint_front x.written) []

not_its : (p n : ℕ) (w : Written) → (n == p) ≡ false → cond (n == p) (checkpoint_front w) [] ≡ []
not_its p n w e = ap (λ b. cond b (checkpoint_front w) []) e

checkpoints-append : (p : ℕ) (xs ys : List Write) → checkpoints_of p (xs ++ ys) ≡ checkpoints_of p xs ++ checkpoints_of p ys
checkpoints-append p [] ys = refl
checkpoints-append p (x ∷ xs) ys = ap (λ fs. mine p x ++ fs) (checkpoints-append p xs ys) ∙ append-after (mine p x) (checkpoints_of p xs) (checkpoints_of p ys)
  where
    append-after : (xs ys zs : List Front) → xs ++ (ys ++ zs) ≡ (xs ++ ys) ++ zs
    append-after [] ys zs = refl
    append-after (x ∷ xs) ys zs = ap (λ fs. x ∷ fs) (append-after xs ys zs)

pub newest-append : (p : ℕ) (f : Front) (xs ys : List Write) → newest_checkpoint p f (xs ++ ys) ≡ newest_checkpoint p (newest_checkpoint p f xs) ys
newest-append p f xs ys = ap (last_or f) (checkpoints-append p xs ys) ∙ last-append f (checkpoints_of p xs) (checkpoints_of p ys)

-- how far writes are plays no part
pub staged-same : (p : ℕ) (far : Write → Stage) (xs : List Write) → checkpoints_of p (map (λ (x : Write). record x { stage = far x }) xs) ≡ checkpoints_of p xs
staged-same p far [] = refl
staged-same p far (x ∷ xs) = ap (λ fs. mine p x ++ fs) (staged-same p far xs)

-- a test that passes each write of the node leaves its checkpoints
passed-same : (p : ℕ) (test : Write → Bool) (xs : List Write) → AllByRecursion (λ (x : Write). (x.node == p) ≡ true → test x ≡ true) xs
    → checkpoints_of p (filter test xs) ≡ checkpoints_of p xs
passed-same p test [] a = refl
passed-same p test (x ∷ xs) a =
    let rest = passed-same p test xs a.1 in
    elim (cases_Bool (test x)) [
      | inl t ↦ ap (checkpoints_of p) (filter-in test x xs t) ∙ ap (λ fs. mine p x ++ fs) rest
      | inr t ↦ elim (cases_Bool (x.node == p)) [
        | inl e ↦ absurd (two_ways (test x) (a.0 e) t)
        | inr e ↦ ap (checkpoints_of p) (filter-out test x xs t) ∙ rest ∙ sym (ap (λ fs. fs ++ checkpoints_of p xs) (not_its p x.node x.written e))
      ]
    ]

-- ---- the checkpoints that are asked at a growth

asked-none : (state : Machine) (f : ℕ → Front) (test : ℕ → Bool) (p m n : ℕ) → p < m
    → checkpoints_of p (map (λ q. checkpoint_of state q (f q)) (filter test (range_with_len m n))) ≡ []
asked-none state f test p m zero l = refl
asked-none state f test p m (suc n) l =
    let asks : ℕ → Write = λ q. checkpoint_of state q (f q) in
    let rest = asked-none state f test p (m + 1) n (omega arith) in
    cond_both (test m) (m ∷ filter test (range_with_len (m + 1) n)) (filter test (range_with_len (m + 1) n)) (λ qs. checkpoints_of p (map asks qs) ≡ [])
    (λ e. ap (λ fs. fs ++ checkpoints_of p (map asks (filter test (range_with_len (m + 1) n)))) (not_its p m (checkpoint (f m) state.low) (eqb-false-from m p (omega arith))) ∙ rest) (λ e. rest)
  where
    eqb-false-from : (m p : ℕ) → p < m → (m == p) ≡ false
    eqb-false-from m p l = elim (cases_Bool (m == p)) [ inl e ↦ let is = eqb-true m p e in absurd (omega arith) | inr e ↦ e ]

asked-one : (state : Machine) (f : ℕ → Front) (test : ℕ → Bool) (p m n : ℕ) → m ≤ p → p < m + n
    → checkpoints_of p (map (λ q. checkpoint_of state q (f q)) (filter test (range_with_len m n))) ≡ cond (test p) (f p ∷ []) []
asked-one state f test p m zero l k = absurd (omega arith)
asked-one state f test p m (suc n) l k =
    let asks : ℕ → Write = λ q. checkpoint_of state q (f q) in
    let others = filter test (range_with_len (m + 1) n) in
    elim (cases_eq m p) [
      | inl e ↦
          let rest = asked-none state f test p (m + 1) n (omega arith) in
          let b : (m == p) ≡ true = eq-eqb m p e in
          elim (cases_Bool (test m)) [
            | inl t ↦
                ap (λ qs. checkpoints_of p (map asks qs)) (filter-in test m (range_with_len (m + 1) n) t)
                ∙ ap (λ c. cond c (f m ∷ []) [] ++ checkpoints_of p (map asks others)) b ∙ ap (λ fs. f m ∷ fs) rest ∙ ap (λ q. f q ∷ []) e
                ∙ sym (ap (λ c. cond c (f p ∷ []) []) (sym (ap test e) ∙ t))
            | inr t ↦
                ap (λ qs. checkpoints_of p (map asks qs)) (filter-out test m (range_with_len (m + 1) n) t) ∙ rest
                ∙ sym (ap (λ c. cond c (f p ∷ []) []) (sym (ap test e) ∙ t))
          ]
      | inr e ↦
          let rest = asked-one state f test p (m + 1) n (omega arith) (omega arith) in
          let b : (m == p) ≡ false = elim (cases_Bool (m == p)) [ inl i ↦ absurd (e (eqb-true m p i)) | inr i ↦ i ] in
          cond_both (test m) (m ∷ others) others (λ qs. checkpoints_of p (map asks qs) ≡ cond (test p) (f p ∷ []) [])
          (λ t. ap (λ fs. fs ++ checkpoints_of p (map asks others)) (not_its p m (checkpoint (f m) state.low) b) ∙ rest) (λ t. rest)
    ]

-- ---- what a recovery leaves

-- the write is a checkpoint of node p at f, or none of its checkpoints
abbrev IsOnlyAt : ℕ → Front → ℕ → Written → Type 0
IsOnlyAt p f n (checkpoint g l) = n ≡ p → g ≡ f
IsOnlyAt p f n (logged_event s) = Unit {0}

all-at : (p : ℕ) (f : Front) (xs : List Write) → AllByRecursion (λ (x : Write). IsOnlyAt p f x.node x.written) xs → newest_checkpoint p f xs ≡ f
all-at p f [] a = refl
all-at p f (x ∷ xs) a =
    let rest = all-at p f xs a.1 in
    cond_both (x.node == p) (checkpoint_front x.written) [] (λ fs. last_or f (fs ++ checkpoints_of p xs) ≡ f)
    (λ e. at x.written rest (eqb-true x.node p e) a.0) (λ e. rest)
  where
    at : (w : Written) → last_or f (checkpoints_of p xs) ≡ f → x.node ≡ p → IsOnlyAt p f x.node w → last_or f (checkpoint_front w ++ checkpoints_of p xs) ≡ f
    at (checkpoint g l) rest e b = subst (λ z. last_or z (checkpoints_of p xs) ≡ f) (sym (b e)) rest
    at (logged_event r) rest e b = rest

-- what passes a test is only at f, if what is a checkpoint of node p and passes is
passed-at : (p : ℕ) (f : Front) (test : Write → Bool) (xs : List Write) → AllByRecursion (λ (x : Write). test x ≡ true → IsOnlyAt p f x.node x.written) xs
    → AllByRecursion (λ (x : Write). IsOnlyAt p f x.node x.written) (filter test xs)
passed-at p f test [] a = tt
passed-at p f test (x ∷ xs) a =
    let rest = passed-at p f test xs a.1 in
    cond_both (test x) (x ∷ filter test xs) (filter test xs) (AllByRecursion (λ (y : Write). IsOnlyAt p f y.node y.written)) (λ e. (a.0 e, rest)) (λ e. rest)

module _ (sys : System) (state : Machine) (choice : Choice) (after : List SerialEvent) (p : ℕ) (f : Front) (there : p < length sys.flow.nodes)
    (canonical : IsCanonical (bounds_of sys.flow p) f) (cut : cut_of choice p ≡ At f) where
  abbrev test : Write → Bool
  test write = is_kept_write (cut_of choice write.node) write.written after

  -- a kept checkpoint of the node lies within the cut
  kept-within : (n : ℕ) (g : Front) (l : List Front) → n ≡ p → is_kept_write (cut_of choice n) (checkpoint g l) after ≡ true
      → Within (frontier_of (bounds_of sys.flow p) g) (frontier_of (bounds_of sys.flow p) f)
  kept-within n g l e k =
      is_within-holds (bounds_of sys.flow p) g f
      (subst (λ c. is_kept_write c (checkpoint g l) after ≡ true) cut (subst (λ q. is_kept_write (cut_of choice q) (checkpoint g l) after ≡ true) e k))

  -- where no checkpoint of the node has no stamps, none is kept inside a cut of none
  none-kept : f ≡ no_stamps (bounds_of sys.flow p) → (n : ℕ) (w : Written) (far : Stage) → IsAskedWell sys state.low state.next state.history n w far
      → ((g : Front) (l : List Front) → w ≡ checkpoint g l → g ≡ no_stamps (bounds_of sys.flow n) → ⊥)
      → is_kept_write (cut_of choice n) w after ≡ true → IsOnlyAt p f n w
  none-kept e n (checkpoint g l) far a has k = λ i.
      let b = bounds_of sys.flow p in
      let c : IsCanonical b g = subst (λ q. IsCanonical (bounds_of sys.flow q) g) i a.1 in
      let lies = kept-within n g l i k in
      same_fronts b g f c canonical lies (λ t j. none-within b (frontier_of b g) t (ap (λ os. frontier_of b os t) (sym e) ∙ j))
  none-kept e n (logged_event s) far a has k = tt

  -- after the checkpoint at the cut none but at it is kept
  later-kept : (m n : ℕ) (v w : Written) (near far : Stage) → IsCheckpointAt kept p f m v near → LiesBelow sys m v n w
      → IsAskedWell sys state.low state.next state.history n w far → is_kept_write (cut_of choice n) w after ≡ true → IsOnlyAt p f n w
  later-kept m n (checkpoint x y) (checkpoint g l) near far its below a k = λ i.
      let b = bounds_of sys.flow p in
      let c : IsCanonical b g = subst (λ q. IsCanonical (bounds_of sys.flow q) g) i a.1 in
      let lies : Within (frontier_of b x) (frontier_of b g) =
      subst (λ q. q < length sys.flow.nodes → Within (frontier_of (bounds_of sys.flow q) x) (frontier_of (bounds_of sys.flow q) g)) its.0 (below (its.0 ∙ sym i)) there in
      same_fronts b g f c canonical (kept-within n g l i k) (subst (λ z. Within (frontier_of b z) (frontier_of b g)) its.1 lies)
  later-kept m n (checkpoint x y) (logged_event s) near far its below a k = tt
  later-kept m n (logged_event r) w near far its below a k = absurd its

  its-mine : (n : ℕ) (w : Written) (far : Stage) → IsCheckpointAt kept p f n w far → (cond (n == p) (checkpoint_front w) [] ≡ f ∷ []) × (is_kept_write (cut_of choice n) w after ≡ true)
  its-mine n (checkpoint g l) far a = (
    ap (λ b. cond b (g ∷ []) []) (eq-eqb n p a.0) ∙ ap (λ x. x ∷ []) a.1,
    subst (λ q. is_kept_write (cut_of choice q) (checkpoint g l) after ≡ true) (sym a.0)
        (subst (λ c. is_kept_write c (checkpoint g l) after ≡ true) (sym cut) (subst (λ x. is_within x f ≡ true) (sym a.1) (within-is (bounds_of sys.flow p) f f canonical (λ t k. k)))),
  )
  its-mine n (logged_event s) far a = absurd a

  newest-cut : (xs : List Write) → HoldsOfOne (IsItsCheckpoint kept p f) xs → AreAscending sys xs → AreAskedWell sys state.low state.next state.history xs
      → (d : Front) → newest_checkpoint p d (filter test xs) ≡ f
  newest-cut [] has a b d = absurd has
  newest-cut (x ∷ xs) (inl is) a b d =
      let its = its-mine x.node x.written x.stage is in
      let at = passed-at p f test xs
      (each-weaker (λ (y : Write). IsWriteBelow sys x y × IsWriteAskedWell sys state.low state.next state.history y) (λ (y : Write). test y ≡ true → IsOnlyAt p f y.node y.written) xs
      (λ y k t. later-kept x.node y.node x.written y.written x.stage y.stage is k.0 k.1 t)
      (each-both (IsWriteBelow sys x) (IsWriteAskedWell sys state.low state.next state.history) xs a.0 b.1)) in
      ap (newest_checkpoint p d) (filter-in test x xs its.1) ∙ ap (λ fs. last_or d (fs ++ checkpoints_of p (filter test xs))) its.0 ∙ all-at p f (filter test xs) at
  newest-cut (x ∷ xs) (inr has) a b d =
      let rest = newest-cut xs has a.1 b.1 in
      elim (cases_Bool (test x)) [
        | inl t ↦ ap (newest_checkpoint p d) (filter-in test x xs t) ∙ last-append d (mine p x) (checkpoints_of p (filter test xs)) ∙ rest (last_or d (mine p x))
        | inr t ↦ ap (newest_checkpoint p d) (filter-out test x xs t) ∙ rest d
      ]

-- ---- each step

-- each eager node that is live has for its newest checkpoint what is settled at it
abbrev AreNewest : System → Machine → Type 0
AreNewest sys state =
    (p : ℕ) → is_eager (policy_of sys.flow p) ≡ true → is_failed state p ≡ false
    → front_of state.settled p ≡ newest_checkpoint p (no_stamps (bounds_of sys.flow p)) state.writes

-- an event leaves the newest checkpoints
pub newest-event : (sys : System) (state : Machine) (v : Event) (p : ℕ) (f : Front) → newest_checkpoint p f (with_event sys state v).writes ≡ newest_checkpoint p f state.writes
newest-event sys state v p f =
    newest-append p f state.writes (write_of_event (policy_of sys.flow (event_node sys.flow v)) (event_node sys.flow v) state.next)
    ∙ none (newest_checkpoint p f state.writes) (policy_of sys.flow (event_node sys.flow v)) (event_node sys.flow v) state.next
  where
    none : (g : Front) (asks : Policy) (q serial : ℕ) → newest_checkpoint p g (write_of_event asks q serial) ≡ g
    none g policy.Full q serial = cond_both (q == p) [] [] (λ fs. last_or g (fs ++ []) ≡ g) (λ e. refl) (λ e. refl)
    none g asks q serial = refl

-- a checkpoint that is asked is the newest of its node, and leaves those of the others
pub newest-one : (state : Machine) (p : ℕ) (f s : Front) → newest_checkpoint p f (state.writes ++ checkpoint_of state p s ∷ []) ≡ s
newest-one state p f s =
    newest-append p f state.writes (checkpoint_of state p s ∷ [])
    ∙ ap (λ b. last_or (newest_checkpoint p f state.writes) (cond b (s ∷ []) [] ++ [])) (eq-eqb p p refl)

pub newest-other : (state : Machine) (p q : ℕ) (f s : Front) → (q == p) ≡ false → newest_checkpoint p f (state.writes ++ checkpoint_of state q s ∷ []) ≡ newest_checkpoint p f state.writes
newest-other state p q f s e =
    newest-append p f state.writes (checkpoint_of state q s ∷ [])
    ∙ ap (λ fs. last_or (newest_checkpoint p f state.writes) (fs ++ [])) (not_its p q (checkpoint s state.low) e)

-- an acknowledgement of the oldest write leaves them
pub newest-acknowledged : (p : ℕ) (f : Front) (writes next : List Write) → AcknowledgesOldest writes next → newest_checkpoint p f next ≡ newest_checkpoint p f writes
newest-acknowledged p f writes next k =
    ap (newest_checkpoint p f) k.after ∙ newest-append p f k.earlier (record k.oldest { stage = acknowledged } ∷ k.later)
    ∙ sym (newest-append p f k.earlier (k.oldest ∷ k.later)) ∙ sym (ap (newest_checkpoint p f) k.before)

event-newest : (sys : System) (state : Machine) (v : Event) → AreNewest sys state → AreNewest sys (with_event sys state v)
event-newest sys state v a p e l = a p e l ∙ sym (newest-event sys state v p (no_stamps (bounds_of sys.flow p)))

progress-newest : (sys : System) (state : Machine) (done : ℕ → Frontier) (settled : List Front) → GrowsTo sys state done settled → CanRecoverAndRestore sys state
    → AreNewest sys state → AreNewest sys (record state { settled = settled; writes = state.writes ++ eager_writes sys state settled (node_ids sys.flow) })
progress-newest sys state done settled g reached a p e live =
    let b = bounds_of sys.flow p in
    let f = no_stamps b in
    let l = takes-declared sys.flow p (eager-takes (policy_of sys.flow p) e) in
    let test : ℕ → Bool = λ q. is_eager (policy_of sys.flow q) && not (same_front (front_of state.settled q) (front_of settled q)) in
    let old = newest_checkpoint p f state.writes in
    let asked = asked-one state (front_of settled) test p 0 (length sys.flow.nodes) (omega arith) (omega arith) in
    let joined = newest-append p f state.writes (eager_writes sys state settled (node_ids sys.flow)) ∙ ap (last_or old) asked in
    elim (cases_Bool (same_front (front_of state.settled p) (front_of settled p))) [
      | inl same ↦
          let none : test p ≡ false = ap (λ c. is_eager (policy_of sys.flow p) && not c) same ∙ and_none (is_eager (policy_of sys.flow p)) in
          let one : front_of state.settled p ≡ front_of settled p = same_front-is (front_of state.settled p) (front_of settled p) same in
          sym one ∙ a p e live ∙ sym (joined ∙ ap (λ c. last_or old (cond c (front_of settled p ∷ []) [])) none)
      | inr other ↦
          let some : test p ≡ true = and_from (is_eager (policy_of sys.flow p)) (not (same_front (front_of state.settled p) (front_of settled p))) e (ap not other) in
          sym (joined ∙ ap (λ c. last_or old (cond c (front_of settled p ∷ []) [])) some)
    ]
  where
    and_none : (c : Bool) → (c && false) ≡ false
    and_none true = refl
    and_none false = refl

asked-newest : (sys : System) (state : Machine) (q : ℕ) → is_asked_for_checkpoints (policy_of sys.flow q) ≡ true → AreNewest sys state
    → AreNewest sys (record state { writes = state.writes ++ checkpoint_of state q (front_of state.settled q) ∷ [] })
asked-newest sys state q k a p e live =
    let f = no_stamps (bounds_of sys.flow p) in
    let other : (q == p) ≡ false = elim (cases_Bool (q == p)) [
      | inl i ↦ absurd (not_both (policy_of sys.flow p) e (sym (ap (λ z. is_asked_for_checkpoints (policy_of sys.flow z)) (eqb-true q p i)) ∙ k))
      | inr i ↦ i
    ] in
    a p e live ∙ sym (newest-other state p q f (front_of state.settled q) other)
  where
    not_both : (asks : Policy) → is_eager asks ≡ true → is_asked_for_checkpoints asks ≡ true → ⊥
    not_both policy.Eager i j = cc
    not_both asks i j = cc

acknowledged-newest : (sys : System) (state : Machine) (writes : List Write) → AcknowledgesOldest state.writes writes → AreNewest sys state
    → AreNewest sys (record state { writes = writes })
acknowledged-newest sys state writes k a p e live = a p e live ∙ sym (newest-acknowledged p (no_stamps (bounds_of sys.flow p)) state.writes writes k)

failed-newest : (sys : System) (state : Machine) (ps : List ℕ) → AreNewest sys state
    → AreNewest sys (record state { failed = with_failed sys state ps; writes = without_lost ps state.writes })
failed-newest sys state ps a p e live =
    let f = no_stamps (bounds_of sys.flow p) in
    let l = takes-declared sys.flow p (eager-takes (policy_of sys.flow p) e) in
    let is : (is_failed state p || is_one_of p ps) ≡ false =
    sym (get_or-map-range_with_len (λ q. is_failed state q || is_one_of q ps) 0 (length sys.flow.nodes) p p false l (omega arith)) ∙ live in
    let parts = neither (is_failed state p) (is_one_of p ps) is in
    let test : Write → Bool = λ write. not (is_one_of write.node ps && is_in_flight write.stage) in
    a p e parts.0 ∙ sym (ap (last_or f) (passed-same p test state.writes
    (each-one (λ (x : Write). (x.node == p) ≡ true → test x ≡ true) state.writes (λ x i.
    ap (λ q. not (is_one_of q ps && is_in_flight x.stage)) (eqb-true x.node p i) ∙ ap (λ c. not (c && is_in_flight x.stage)) parts.1))))
  where
    neither : (c d : Bool) → (c || d) ≡ false → (c ≡ false) × (d ≡ false)
    neither true d k = absurd (cc)
    neither false d k = (refl, k)

both_or : (x y : Bool) → (y ≡ true → x ≡ true) → (x && y) ≡ y
both_or true y k = refl
both_or false true k = k refl
both_or false false k = refl

recovered-newest : (sys : System) → IsWellFormedSystem sys → (state : Machine) → IsReached sys state → (choice : Choice) (settled : List Front)
    → ((p : ℕ) → p < length sys.flow.nodes → IsCandidate sys state (is_failed state) kept p (cut_of choice p)) → CutsTo sys state choice settled → AreNewest sys state
    → AreNewest sys (recovered_state sys state choice settled)
recovered-newest sys w state r choice settled offered cuts a p e live = by (cut_of choice p) refl (offered p there) (cuts.each p there)
  where
    there : p < length sys.flow.nodes
    there = takes-declared sys.flow p (eager-takes (policy_of sys.flow p) e)

    after : List SerialEvent
    after = filtered_history sys choice state.history

    none : Front
    none = no_stamps (bounds_of sys.flow p)

    no_input : (p : ℕ) → takes_checkpoints (policy_of sys.flow p) ≡ true → is_input_kind (kind_of sys.flow p) ≡ false
    no_input p takes = elim (cases_Bool (is_input_kind (kind_of sys.flow p))) [
      | inl i ↦ absurd (takes-not_input sys.flow w.flow p takes (input-is (kind_of sys.flow p) i))
      | inr i ↦ i
    ]

    by : (cut : Cut) → cut_of choice p ≡ cut → IsCandidate sys state (is_failed state) kept p cut → IsSettledCut sys p cut (front_of state.settled p) (front_of settled p)
        → front_of settled p ≡ newest_checkpoint p none (kept_writes choice after state.writes)
    by Present cut c s =
        s ∙ a p e c ∙ sym (ap (last_or none) (passed-same p (λ write. is_kept_write (cut_of choice write.node) write.written after) state.writes
        (each-one (λ (x : Write). (x.node == p) ≡ true → is_kept_write (cut_of choice x.node) x.written after ≡ true) state.writes (λ x i.
        ap (λ q. is_kept_write (cut_of choice q) x.written after) (eqb-true x.node p i) ∙ ap (λ k. is_kept_write k x.written after) cut))))
    by (At f) cut c s =
        let b = bounds_of sys.flow p in
        let all = reached-all sys w r.0 r.1 state r.2 in
        let takes = eager-takes (policy_of sys.flow p) e in
        let way = takes-restoring (kind_of sys.flow p) (policy_of sys.flow p) (w.flow.policies p there) takes in
        let restorable : IsRestorable sys state kept p Checkpoints f = subst (λ x. IsRestorable sys state kept p x f) way c.1 in
        let lies : Within (frontier_of b f) (frontier_of b (front_of state.settled p)) =
        candidates-within_settled sys r.0 r.1 state r.2 (is_failed state) kept p f there (no_input p takes) c in
        let is : front_of settled p ≡ f =
        names-same b (front_of settled p) f (meet (frontier_of b (front_of state.settled p)) (frontier_of b f)) s
        (record { canonical = c.0; same = λ t. sym (both_or (frontier_of b (front_of state.settled p) t) (frontier_of b f t) (lies t)) }) in
        is ∙ sym (elim restorable [
          | inr has ↦ newest-cut sys state choice after p f there c.0 cut state.writes (some-checkpoint kept p f state.writes has) all.recover.ascend all.restore.asked none
          | inl ungrouped ↦
              ap (λ z. newest_checkpoint p z (kept_writes choice after state.writes)) (sym ungrouped)
              ∙ all-at p f (kept_writes choice after state.writes)
              (passed-at p f (λ write. is_kept_write (cut_of choice write.node) write.written after) state.writes
              (each-weaker
              (λ (x : Write). IsWriteAskedWell sys state.low state.next state.history x
              × ((g : Front) (l : List Front) → x.written ≡ checkpoint g l → g ≡ no_stamps (bounds_of sys.flow x.node) → ⊥))
              (λ (x : Write). is_kept_write (cut_of choice x.node) x.written after ≡ true → IsOnlyAt p f x.node x.written) state.writes
              (λ x k t. none-kept sys state choice after p f there c.0 cut ungrouped x.node x.written x.stage k.0 k.1 t)
              (each-both (IsWriteAskedWell sys state.low state.next state.history)
              (λ (x : Write). (g : Front) (l : List Front) → x.written ≡ checkpoint g l → g ≡ no_stamps (bounds_of sys.flow x.node) → ⊥) state.writes
              all.restore.asked (checkpoints-have_stamps sys w r.0 r.1 state r.2))))
        ])

took-newest : (sys : System) → IsWellFormedSystem sys → (state : Machine) → IsReached sys state → (step : Step) (next : Machine) (effect : Effect)
    → LeadsTo sys state step next effect → AreNewest sys state → AreNewest sys next
took-newest sys w state r (Inject s) next effect t a = subst (AreNewest sys) (sym t.3) (event-newest sys state (Injected s t.0) a)
took-newest sys w state r (Deliver e at) next effect t a = subst (AreNewest sys) (sym t.3) (event-newest sys state (Delivered e t.0) a)
took-newest sys w state r (Notify p at) next effect t a = subst (AreNewest sys) (sym t.3) (event-newest sys state (Notified p t.0) a)
took-newest sys w state r ProgressStep next effect t a =
    subst (AreNewest sys) (sym t.3) (progress-newest sys state t.0 t.1 t.2 (reached-all sys w r.0 r.1 state r.2) a)
took-newest sys w state r (Checkpoint p) next effect t a = subst (AreNewest sys) (sym t.3) (asked-newest sys state p t.0 a)
took-newest sys w state r Persist next effect t a = subst (AreNewest sys) (sym t.2) (acknowledged-newest sys state t.0 t.1 a)
took-newest sys w state r (Fail ps) next effect t a = subst (AreNewest sys) (sym t.4) (failed-newest sys state ps a)
took-newest sys w state r Recover next effect t a =
    subst (AreNewest sys) (sym t.7) (recovered-newest sys w state r t.1 t.2 (λ p l. t.5.consistent.offered p l) t.6 a)
took-newest sys w state r Collect next effect t a =
    subst (AreNewest sys) (sym t.3) (λ p e live. a p e live
    ∙ sym (ap (last_or (no_stamps (bounds_of sys.flow p)))
    (staged-same p (λ (x : Write). after_collection (is_forgotten sys (map front_of_cut t.0.cuts) state.history state.writes x) x.stage) state.writes)))
took-newest sys w state r (Ack o) next effect t a = subst (AreNewest sys) (sym t.2) a

first-newest : (sys : System) → AreNewest sys (first_state sys)
first-newest sys p e live =
    let l = takes-declared sys.flow p (eager-takes (policy_of sys.flow p) e) in
    get_or-map-range_with_len (λ q. no_stamps (bounds_of sys.flow q)) 0 (length sys.flow.nodes) p p [] l (omega arith)

pub reached-more : (sys : System) (state : Machine) (step : Step) (outcome : Outcome) (next : Machine) → IsReached sys state → StepsTo sys state step next outcome
    → IsReached sys next
reached-more sys state step outcome next r t =
    (r.0 ++ step ∷ [], r.1 ++ outcome ∷ [], runs-go_on sys (first_state sys) state next r.0 (step ∷ []) r.1 (outcome ∷ []) r.2 (next, t, refl))

run-newest : (sys : System) → IsWellFormedSystem sys → (steps : List Step) (outcomes : List Outcome) (state last : Machine) → IsReached sys state → AreNewest sys state
    → Run sys state steps outcomes last → AreNewest sys last
run-newest sys w [] [] state last r a run = subst (AreNewest sys) (sym run) a
run-newest sys w [] (o ∷ os) state last r a run = absurd run
run-newest sys w (s ∷ ss) [] state last r a run = absurd run
run-newest sys w (s ∷ ss) (did effect ∷ os) state last r a run =
    run-newest sys w ss os run.0 last (reached-more sys state s (did effect) run.0 r run.1) (took-newest sys w state r s run.0 effect run.1 a) run.2
run-newest sys w (s ∷ ss) (idle ∷ os) state last r a run =
    run-newest sys w ss os run.0 last (subst (IsReached sys) (sym run.1.1) r) (subst (AreNewest sys) (sym run.1.1) a) run.2

pub eager-newest : (sys : System) → IsWellFormedSystem sys → (state : Machine) → IsReached sys state → (p : ℕ) → is_eager (policy_of sys.flow p) ≡ true
    → is_failed state p ≡ false → front_of state.settled p ≡ newest_checkpoint p (no_stamps (bounds_of sys.flow p)) state.writes
eager-newest sys w state r = run-newest sys w r.0 r.1 (first_state sys) state ([], [], refl) (first-newest sys) r.2
