-- The newest checkpoint of a node is never collected.
use Rattle.std.proofs.Common.{◌≡◌, ℕ, ◌<◌, true, false, not, ◌==◌, List, [], ◌∷◌, ◌++◌, length, filter, cond, refl, sym, ap, subst, ◌∙◌, inl, inr}
use Rattle.std.specs.List.{AllByRecursion}
use Rattle.std.proofs.lemmas.Bool.{not-true, and_parts, cond_both, cases_Bool, eqb-true, eq-eqb}
use Rattle.fw_lemmas.proofs.Bools.{two_ways}
use Rattle.fw_lemmas.proofs.Each.{each-weaker, each-both}
use Rattle.fw_lemmas.proofs.Filters.{filter-in, filter-out}
use Rattle.fw_frontier.specs.Frontier.{Within}
use Rattle.fw_frontier.specs.Front.{Front, frontier_of, IsCanonical, is_within}
use Rattle.fw_flow.specs.Dataflow.{System, kind_of, policy_of, bounds_of}
use Rattle.fw_model.specs.Machine.{SerialEvent, Write, Written, checkpoint, logged_event, Stage, in_flight, acknowledged, collected, front_of}
use Rattle.fw_model.specs.Choice.{kept, is_counted, IsRestorable}
use Rattle.fw_model.specs.Steps.{checkpoint_front, checkpoints_of, last_or, lies_below}
use Rattle.fw_model.specs.Writes.{takes_checkpoints, is_collected, not_collected}
use Rattle.fw_model.proofs.WriteLaws.{HoldsOfOne, IsCheckpointAt, IsItsCheckpoint, some-checkpoint, LiesBelow, IsWriteBelow, AreAscending}
use Rattle.fw_frontier.proofs.NamesLaws.{within-is}
use Rattle.fw_model.proofs.LowLaws.{none-within}
use Rattle.fw_model.proofs.SameInsideLaws.{low-offered}
use Rattle.fw_model.proofs.AskedLaws.{takes-declared, takes-restoring, IsAskedWell, IsWriteAskedWell, AreAskedWell, reached-all, last-append}
use Rattle.fw_model.proofs.CollectedLaws.{collected-lies}
use Rattle.fw_model.specs.LawsOfWrites.{NewestCheckpointIsKept}

-- ---- the fronts of checkpoints

-- the front of a write, if it is a checkpoint of node p
abbrev mine : ℕ → Write → List Front
mine p x = cond (x.node == p) (checkpoint_front x.written) []

collected-is : (far : Stage) → is_collected far ≡ true → far ≡ collected
collected-is collected e = refl
collected-is far e = absurd (cc)

not_mine : (p n : ℕ) (w : Written) → ((g : Front) (l : List Front) → n ≡ p → w ≡ checkpoint g l → ⊥) → cond (n == p) (checkpoint_front w) [] ≡ []
not_mine p n w k = cond_both (n == p) (checkpoint_front w) [] (λ fs. fs ≡ []) (λ e. by w k (eqb-true n p e)) (λ e. refl)
  where
    by : (w : Written) → ((g : Front) (l : List Front) → n ≡ p → w ≡ checkpoint g l → ⊥) → n ≡ p → checkpoint_front w ≡ []
    by (checkpoint g l) k e = absurd (k g l e refl)
    by (logged_event s) k e = refl

-- the write is no checkpoint of node p that was collected
abbrev IsNotForgotten : ℕ → Write → Type 0
IsNotForgotten p y = (g : Front) (l : List Front) → y.node ≡ p → y.written ≡ checkpoint g l → y.stage ≡ collected → ⊥

none-forgotten : (p : ℕ) (xs : List Write) → AllByRecursion (IsNotForgotten p) xs → (f : Front) → last_or f (checkpoints_of p xs) ≡ last_or f (checkpoints_of p (filter not_collected xs))
none-forgotten p [] a f = refl
none-forgotten p (x ∷ xs) a f =
    let head = mine p x in
    let rest = none-forgotten p xs a.1 in
    elim (cases_Bool (is_collected x.stage)) [
      | inl c ↦
          let none : head ≡ [] = not_mine p x.node x.written (λ g l e i. a.0 g l e i (collected-is x.stage c)) in
          ap (λ fs. last_or f (fs ++ checkpoints_of p xs)) none ∙ rest f
          ∙ sym (ap (λ ys. last_or f (checkpoints_of p ys)) (filter-out not_collected x xs (ap not c)))
      | inr c ↦
          last-append f head (checkpoints_of p xs) ∙ rest (last_or f head) ∙ sym (last-append f head (checkpoints_of p (filter not_collected xs)))
          ∙ sym (ap (λ ys. last_or f (checkpoints_of p ys)) (filter-in not_collected x xs (ap not c)))
    ]

-- ---- after the checkpoint at the low watermark none is collected

-- the write is no checkpoint of node p that was collected, unless the front is not within it
abbrev IsForgottenBelow : ℕ → Front → Write → Type 0
IsForgottenBelow p low y = (g : Front) (l : List Front) → y.node ≡ p → y.written ≡ checkpoint g l → y.stage ≡ collected → is_within low g ≡ false

its-mine : (p : ℕ) (low : Front) (n : ℕ) (w : Written) (far : Stage) → IsCheckpointAt kept p low n w far
    → (cond (n == p) (checkpoint_front w) [] ≡ low ∷ []) × (is_collected far ≡ false)
its-mine p low n (checkpoint g l) far a =
    (ap (λ b. cond b (g ∷ []) []) (eq-eqb n p a.0) ∙ ap (λ x. x ∷ []) a.1, counts-not far a.2)
  where
    counts-not : (far : Stage) → is_counted kept far ≡ true → is_collected far ≡ false
    counts-not in_flight e = refl
    counts-not acknowledged e = refl
    counts-not collected e = absurd (cc)
its-mine p low n (logged_event s) far a = absurd a

later-not : (sys : System) (low : List Front) (next : ℕ) (h : List SerialEvent) (p : ℕ) (f : Front) → p < length sys.flow.nodes → (n : ℕ) (w : Written) (far : Stage)
    → IsCheckpointAt kept p f n w far → (y : Write) → LiesBelow sys n w y.node y.written → IsWriteAskedWell sys low next h y → IsForgottenBelow p f y → IsNotForgotten p y
later-not sys low next h p f d n (checkpoint g l) far a y below asked k = λ x m e i c.
    let b = bounds_of sys.flow p in
    let lies : Within (frontier_of b g) (frontier_of b x) =
    subst (λ q. q < length sys.flow.nodes → Within (frontier_of (bounds_of sys.flow q) g) (frontier_of (bounds_of sys.flow q) x)) a.0
    (subst (λ v. LiesBelow sys n (checkpoint g l) y.node v) i below (a.0 ∙ sym e)) d in
    let canonical : IsCanonical b x =
    (subst (λ v. IsAskedWell sys low next h p v y.stage) i (subst (λ q. IsAskedWell sys low next h q y.written y.stage) e asked)).1 in
    two_ways (is_within f x) (within-is b f x canonical (subst (λ z. Within (frontier_of b z) (frontier_of b x)) a.1 lies)) (k x m e i c)
later-not sys low next h p f d n (logged_event s) far a y below asked k = absurd a

-- what is newest is the same without what was collected, and is there whatever stands for none
record IsNewestKept (p : ℕ) (xs : List Write) : Type 0 where
  same : (f : Front) → last_or f (checkpoints_of p xs) ≡ last_or f (checkpoints_of p (filter not_collected xs))
  there : (f g : Front) → last_or f (checkpoints_of p (filter not_collected xs)) ≡ last_or g (checkpoints_of p (filter not_collected xs))

newest-from : (sys : System) (low : List Front) (next : ℕ) (h : List SerialEvent) (p : ℕ) (f : Front) → p < length sys.flow.nodes → (xs : List Write)
    → HoldsOfOne (IsItsCheckpoint kept p f) xs → AreAscending sys xs → AreAskedWell sys low next h xs → AllByRecursion (IsForgottenBelow p f) xs → IsNewestKept p xs
newest-from sys low next h p f d [] has a b c = absurd has
newest-from sys low next h p f d (x ∷ xs) (inl is) a b c =
    let its = its-mine p f x.node x.written x.stage is in
    let head = mine p x in
    let none = each-weaker (λ (y : Write). IsWriteBelow sys x y × (IsWriteAskedWell sys low next h y × IsForgottenBelow p f y)) (IsNotForgotten p) xs
    (λ y k. later-not sys low next h p f d x.node x.written x.stage is y k.0 k.1.0 k.1.1)
    (each-both (IsWriteBelow sys x) (λ y. IsWriteAskedWell sys low next h y × IsForgottenBelow p f y) xs a.0
    (each-both (IsWriteAskedWell sys low next h) (IsForgottenBelow p f) xs b.1 c.1)) in
    let stays = filter-in not_collected x xs (ap not its.1) in
    record {
      same = λ g. last-append g head (checkpoints_of p xs) ∙ none-forgotten p xs none (last_or g head) ∙ sym (last-append g head (checkpoints_of p (filter not_collected xs)))
          ∙ sym (ap (λ ys. last_or g (checkpoints_of p ys)) stays);
      there = λ g k.
          let at : (z : Front) → last_or z (checkpoints_of p (filter not_collected (x ∷ xs))) ≡ last_or f (checkpoints_of p (filter not_collected xs)) =
          λ z. ap (λ ys. last_or z (checkpoints_of p ys)) stays ∙ ap (λ fs. last_or z (fs ++ checkpoints_of p (filter not_collected xs))) its.0 in
          at g ∙ sym (at k);
    }
newest-from sys low next h p f d (x ∷ xs) (inr has) a b c =
    let rest = newest-from sys low next h p f d xs has a.1 b.1 c.1 in
    let head = mine p x in
    let others = checkpoints_of p (filter not_collected xs) in
    elim (cases_Bool (is_collected x.stage)) [
      | inl k ↦
          let goes = filter-out not_collected x xs (ap not k) in
          record {
            same = λ g. last-append g head (checkpoints_of p xs) ∙ rest.same (last_or g head) ∙ rest.there (last_or g head) g
                ∙ sym (ap (λ ys. last_or g (checkpoints_of p ys)) goes);
            there = λ g j. ap (λ ys. last_or g (checkpoints_of p ys)) goes ∙ rest.there g j ∙ sym (ap (λ ys. last_or j (checkpoints_of p ys)) goes);
          }
      | inr k ↦
          let stays = filter-in not_collected x xs (ap not k) in
          record {
            same = λ g. last-append g head (checkpoints_of p xs) ∙ rest.same (last_or g head) ∙ sym (last-append g head others)
                ∙ sym (ap (λ ys. last_or g (checkpoints_of p ys)) stays);
            there = λ g j. ap (λ ys. last_or g (checkpoints_of p ys)) stays ∙ last-append g head others ∙ rest.there (last_or g head) (last_or j head)
                ∙ sym (last-append j head others) ∙ sym (ap (λ ys. last_or j (checkpoints_of p ys)) stays);
          }
    ]

-- ---- the law

-- a node that takes no checkpoints has none
takes-none : (sys : System) (low : List Front) (next : ℕ) (h : List SerialEvent) (p : ℕ) → takes_checkpoints (policy_of sys.flow p) ≡ false → (y : Write)
    → IsWriteAskedWell sys low next h y → IsNotForgotten p y
takes-none sys low next h p n y a = λ g l e i c.
    two_ways (takes_checkpoints (policy_of sys.flow p))
    (subst (λ v. IsAskedWell sys low next h p v y.stage) i (subst (λ q. IsAskedWell sys low next h q y.written y.stage) e a)).0 n

pub newest-kept : NewestCheckpointIsKept
newest-kept sys w steps outcomes last r p f =
    let reached = reached-all sys w steps outcomes last r in
    let W : Write → Type 0 = IsWriteAskedWell sys last.low last.next last.history in
    elim (cases_Bool (takes_checkpoints (policy_of sys.flow p))) [
      | inr n ↦ none-forgotten p last.writes (each-weaker W (IsNotForgotten p) last.writes (λ y a. takes-none sys last.low last.next last.history p n y a) reached.restore.asked) f
      | inl takes ↦
          let l = takes-declared sys.flow p takes in
          let low = front_of last.low p in
          let way = takes-restoring (kind_of sys.flow p) (policy_of sys.flow p) (w.flow.policies p l) takes in
          let offered = low-offered sys last reached.recover.notices reached.recover.watermark p l in
          let below : AllByRecursion (IsForgottenBelow p low) last.writes =
          each-weaker (λ (y : Write). y.stage ≡ collected → lies_below sys last.low last.history y.node y.written ≡ true) (IsForgottenBelow p low) last.writes
          (λ y a g m e i c.
          let under = subst (λ v. lies_below sys last.low last.history p v ≡ true) i (subst (λ q. lies_below sys last.low last.history q y.written ≡ true) e (a c)) in
          not-true (is_within low g) (and_parts (is_within g low) (not (is_within low g)) under).1) (collected-lies sys w steps outcomes last r) in
          elim (subst (λ x. IsRestorable sys last kept p x low) way offered.1) [
            | inr has ↦
                (newest-from sys last.low last.next last.history p low l last.writes (some-checkpoint kept p low last.writes has) reached.recover.ascend reached.restore.asked below).same f
            | inl none ↦
                none-forgotten p last.writes
                (each-weaker (λ (y : Write). W y × IsForgottenBelow p low y) (IsNotForgotten p) last.writes
                (λ y a g m e i c.
                let b = bounds_of sys.flow p in
                let canonical : IsCanonical b g =
                (subst (λ v. IsAskedWell sys last.low last.next last.history p v y.stage) i
                (subst (λ q. IsAskedWell sys last.low last.next last.history q y.written y.stage) e a.0)).1 in
                two_ways (is_within low g)
                (within-is b low g canonical (λ t k. none-within b (frontier_of b g) t (ap (λ os. frontier_of b os t) (sym none) ∙ k))) (a.1 g m e i c))
                (each-both W (IsForgottenBelow p low) last.writes reached.restore.asked below)) f
          ]
    ]
