-- The checkpoints of a node are a chain.
use Rattle.std.proofs.Common.{◌≡◌, ◌⊎◌, ℕ, ◌<◌, Bool, true, false, not, ◌&&◌, ◌==◌, cond, List, [], ◌∷◌, ◌++◌, length, filter, map, refl, sym, ap, subst, ◌∙◌, inl, inr, zero, suc, ◌+◌, nat_lt, Option, Some, None, append_assoc, add-one}
use Rattle.std.specs.List.{AllByRecursion}
use Rattle.std.proofs.lemmas.Bool.{cases_Bool, and_parts, cond_both, eqb-true, false_from_ne_true}
use Rattle.std.proofs.lemmas.List.{map-append}
use Rattle.fw_lemmas.proofs.Bools.{two_ways}
use Rattle.fw_lemmas.proofs.Each.{each-weaker}
use Rattle.fw_frontier.specs.Front.{Front, IsCanonical, same_front}
use Rattle.fw_frontier.proofs.NamesLaws.{is_within-holds, within-is}
use Rattle.fw_flow.specs.declared.choice.Cut.{Cut}
use Rattle.fw_flow.specs.declared.choice.Cut.TheVariants.{Present, At}
use Rattle.fw_flow.specs.declared.kind.Policy.{Policy}
use Rattle.fw_flow.specs.declared.kind.Policy.TheVariants as policy
use Rattle.fw_flow.specs.declared.step.Step.{Step}
use Rattle.fw_flow.specs.declared.step.Step.TheVariants.{Inject, Deliver, Notify, Progress as ProgressStep, Checkpoint, Persist, Fail, Recover, Collect, Ack}
use Rattle.fw_flow.specs.Dataflow.{System, policy_of, receiver, bounds_of, node_ids, is_one_of}
use Rattle.fw_flow.specs.WellFormed.{IsWellFormedSystem}
use Rattle.fw_model.specs.Machine.{Machine, SerialEvent, Write, Written, checkpoint, logged_event, Stage, acknowledged, first_state, front_of, is_failed}
use Rattle.fw_model.specs.Choice.{kept, IsCandidate, cut_of, filtered_history}
use Rattle.fw_model.specs.Steps.{Effect, Outcome, did, idle, LeadsTo, Run, write_of_event, checkpoint_of, checkpoint_front, checkpoints_of, checkpoint_depth, depths_of, depth_after, next_depth, base_of_depth, is_eager, is_in_flight, is_kept_write, front_of_cut, is_forgotten, after_collection}
use Rattle.fw_model.specs.LawsOfChains.{Link, link_of, links_of, StandsOnLast, IsChain, EachStandsOnTheOneBefore}
use Rattle.fw_model.proofs.WriteLaws.{LiesBelow, IsWriteBelow, AreAscending}
use Rattle.fw_model.proofs.ChoosingLaws.{settled_writes}
use Rattle.fw_model.proofs.AskedLaws.{AreOthers, others-passed, range-others, CanRecoverAndRestore, took-reached, first-reached}
use Rattle.fw_model.proofs.ForgottenLaws.{Flies, AreInOrder, took-order}

-- ---- lists of links

-- the links of one write
abbrev pub link_at : ℕ → Write → List Link
link_at p x = cond (x.node == p) (link_of x.base x.depth x.written) []

abbrev pub last_link : Option Link → List Link → Option Link
last_link last [] = last
last_link last (l ∷ ls) = last_link (Some l) ls

chain-append : (last : Option Link) (xs ys : List Link) → IsChain last xs → IsChain (last_link last xs) ys → IsChain last (xs ++ ys)
chain-append last [] ys a b = b
chain-append last (x ∷ xs) ys a b = (a.0, chain-append (Some x) xs ys a.1 b)

links-append : (p : ℕ) (xs ys : List Write) → links_of p (xs ++ ys) ≡ links_of p xs ++ links_of p ys
links-append p [] ys = refl
links-append p (x ∷ xs) ys = ap (λ ls. link_at p x ++ ls) (links-append p xs ys) ∙ sym (append_assoc (link_at p x) (links_of p xs) (links_of p ys))

-- a link of another node
link-other : (p : ℕ) (x : Write) → (x.node ≡ p → ⊥) → link_at p x ≡ []
link-other p x n = ap (λ b. cond b (link_of x.base x.depth x.written) []) (false_from_ne_true (x.node == p) (λ e. n (eqb-true x.node p e)))

-- chains go on through what has no links
chain-more : (p : ℕ) (xs ys : List Write) → links_of p ys ≡ [] → IsChain None (links_of p xs) → IsChain None (links_of p (xs ++ ys))
chain-more p xs ys none a =
    subst (IsChain None) (sym (links-append p xs ys))
    (chain-append None (links_of p xs) (links_of p ys) a (subst (IsChain (last_link None (links_of p xs))) (sym none) tt))

-- ---- what is asked

event-none : (asks : Policy) (p q serial : ℕ) → links_of p (write_of_event asks q serial) ≡ []
event-none policy.Full p q serial = cond_both (q == p) [] [] (λ (ls : List Link). ls ++ [] ≡ []) (λ e. refl) (λ e. refl)
event-none asks p q serial = refl

-- the link of a checkpoint that node p asks of f
abbrev next_link : Machine → ℕ → Front → Link
next_link state p f = record {
  front = f;
  base = base_of_depth (next_depth p state.writes) (checkpoints_of p state.writes);
  depth = next_depth p state.writes;
}

-- ---- what the rule of the depth gives: the link after these

pub depths-are : (p : ℕ) (xs : List Write) → depths_of p xs ≡ map (λ (l : Link). l.depth) (links_of p xs)
depths-are p [] = refl
depths-are p (x ∷ xs) =
    ap (λ ds. ds ++ depths_of p xs) (by (x.node == p) x.written) ∙ ap (λ ds. map (λ (l : Link). l.depth) (link_at p x) ++ ds) (depths-are p xs)
    ∙ sym (map-append (λ (l : Link). l.depth) (link_at p x) (links_of p xs))
  where
    by : (own : Bool) (w : Written) → cond own (checkpoint_depth x.depth w) [] ≡ map (λ (l : Link). l.depth) (cond own (link_of x.base x.depth w) [])
    by true (checkpoint f low) = refl
    by true (logged_event serial) = refl
    by false w = refl

pub fronts-are : (p : ℕ) (xs : List Write) → checkpoints_of p xs ≡ map (λ (l : Link). l.front) (links_of p xs)
fronts-are p [] = refl
fronts-are p (x ∷ xs) =
    ap (λ fs. fs ++ checkpoints_of p xs) (by (x.node == p) x.written) ∙ ap (λ fs. map (λ (l : Link). l.front) (link_at p x) ++ fs) (fronts-are p xs)
    ∙ sym (map-append (λ (l : Link). l.front) (link_at p x) (links_of p xs))
  where
    by : (own : Bool) (w : Written) → cond own (checkpoint_front w) [] ≡ map (λ (l : Link). l.front) (cond own (link_of x.base x.depth w) [])
    by true (checkpoint f low) = refl
    by true (logged_event serial) = refl
    by false w = refl

-- the link of a checkpoint of f, of the depth and on the base that it has after these fronts and depths
abbrev link_after : Front → List Front → List ℕ → Link
link_after f fs ds = record { front = f; base = base_of_depth (depth_after ds) fs; depth = depth_after ds }

on-last : (f : Front) (last : Link) (d : ℕ) → (d ≡ last.depth + 1) ⊎ (d ≡ 0)
    → StandsOnLast (Some last) (record { front = f; base = base_of_depth d (last.front ∷ []); depth = d })
on-last f last d (inl deeper) = inr (ap (λ n. base_of_depth n (last.front ∷ [])) (deeper ∙ add-one last.depth), deeper)
on-last f last d (inr whole) = inl (ap (λ n. base_of_depth n (last.front ∷ [])) whole, whole)

-- of the fronts before it the base is the last
base-of_last : (d : ℕ) (f g : Front) (gs : List Front) → base_of_depth d (f ∷ g ∷ gs) ≡ base_of_depth d (g ∷ gs)
base-of_last zero f g gs = refl
base-of_last (suc d) f g gs = refl

after-stands : (f : Front) (l : Link) (ls : List Link)
    → StandsOnLast (last_link (Some l) ls) (link_after f (l.front ∷ map (λ (m : Link). m.front) ls) (l.depth ∷ map (λ (m : Link). m.depth) ls))
after-stands f l [] =
    on-last f l (cond (nat_lt l.depth 7) (l.depth + 1) 0)
    (cond_both (nat_lt l.depth 7) (l.depth + 1) 0 (λ d. (d ≡ l.depth + 1) ⊎ (d ≡ 0)) (λ e. inl refl) (λ e. inr refl))
after-stands f l (m ∷ ms) =
    let d = depth_after (m.depth ∷ map (λ (n : Link). n.depth) ms) in
    subst (λ (base : Option Front). StandsOnLast (last_link (Some m) ms) (record { front = f; base = base; depth = d }))
    (sym (base-of_last d l.front m.front (map (λ (n : Link). n.front) ms)))
    (after-stands f m ms)

chain-next : (f : Front) (ls : List Link) → StandsOnLast (last_link None ls) (link_after f (map (λ (l : Link). l.front) ls) (map (λ (l : Link). l.depth) ls))
chain-next f [] = (refl, refl)
chain-next f (l ∷ ls) = after-stands f l ls

next-stands : (state : Machine) (p : ℕ) (f : Front) → StandsOnLast (last_link None (links_of p state.writes)) (next_link state p f)
next-stands state p f =
    let last = last_link None (links_of p state.writes) in
    subst (λ fs. StandsOnLast last (link_after f fs (depths_of p state.writes))) (sym (fronts-are p state.writes))
    (subst (λ ds. StandsOnLast last (link_after f (map (λ (l : Link). l.front) (links_of p state.writes)) ds)) (sym (depths-are p state.writes))
    (chain-next f (links_of p state.writes)))

none-asked : (p : ℕ) (state : Machine) (settled : List Front) (qs : List ℕ) → AllByRecursion (λ q. p ≡ q → ⊥) qs → links_of p (settled_writes state settled qs) ≡ []
none-asked p state settled [] n = refl
none-asked p state settled (q ∷ qs) n =
    ap (λ ls. ls ++ links_of p (settled_writes state settled qs)) (link-other p (checkpoint_of state q (front_of settled q)) (λ e. n.0 (sym e)))
    ∙ none-asked p state settled qs n.1

asked-chain : (p : ℕ) (state : Machine) (settled : List Front) (qs : List ℕ) → AreOthers qs
    → IsChain (last_link None (links_of p state.writes)) (links_of p (settled_writes state settled qs))
asked-chain p state settled [] o = tt
asked-chain p state settled (q ∷ qs) o =
    let last = last_link None (links_of p state.writes) in
    let link = next_link state q (front_of settled q) in
    let rest = links_of p (settled_writes state settled qs) in
    cond_both (q == p) (link ∷ []) [] (λ (ls : List Link). IsChain last (ls ++ rest))
    (λ e.
    let is = eqb-true q p e in (
      subst (λ r. StandsOnLast (last_link None (links_of r state.writes)) link) is (next-stands state q (front_of settled q)),
      subst (IsChain (Some link)) (sym (none-asked p state settled qs (each-weaker (λ r. q ≡ r → ⊥) (λ r. p ≡ r → ⊥) qs (λ r n i. n (is ∙ i)) o.0))) tt,
    ))
    (λ e. asked-chain p state settled qs o.1)

chain-asked : (p : ℕ) (state : Machine) (settled : List Front) (qs : List ℕ) → AreOthers qs → IsChain None (links_of p state.writes)
    → IsChain None (links_of p (state.writes ++ settled_writes state settled qs))
chain-asked p state settled qs o a =
    subst (IsChain None) (sym (links-append p state.writes (settled_writes state settled qs)))
    (chain-append None (links_of p state.writes) (links_of p (settled_writes state settled qs)) a (asked-chain p state settled qs o))

-- ---- how far writes are plays no part

links-staged : (p : ℕ) (far : Write → Stage) (xs : List Write) → links_of p (map (λ (x : Write). record x { stage = far x }) xs) ≡ links_of p xs
links-staged p far [] = refl
links-staged p far (x ∷ xs) = ap (λ ls. link_at p x ++ ls) (links-staged p far xs)

links-replaced : (p : ℕ) (xs : List Write) (y : Write) (far : Stage) (ys : List Write) → links_of p (xs ++ record y { stage = far } ∷ ys) ≡ links_of p (xs ++ y ∷ ys)
links-replaced p [] y far ys = refl
links-replaced p (x ∷ xs) y far ys = ap (λ ls. link_at p x ++ ls) (links-replaced p xs y far ys)

-- ---- a first part of a chain

-- after a checkpoint of node p that goes, all of them go
abbrev pub KeepsFirst : ℕ → (Write → Bool) → List Write → Type 0
KeepsFirst p keep [] = Unit {0}
KeepsFirst p keep (x ∷ xs) =
    (keep x ≡ false → (link_at p x ≡ []) ⊎ AllByRecursion (λ (y : Write). keep y ≡ true → link_at p y ≡ []) xs) × KeepsFirst p keep xs

none-left : (p : ℕ) (keep : Write → Bool) (xs : List Write) → AllByRecursion (λ (y : Write). keep y ≡ true → link_at p y ≡ []) xs → links_of p (filter keep xs) ≡ []
none-left p keep [] n = refl
none-left p keep (x ∷ xs) n =
    let rest = none-left p keep xs n.1 in
    cond_both (keep x) (x ∷ filter keep xs) (filter keep xs) (λ ys. links_of p ys ≡ []) (λ e. ap (λ ls. ls ++ links_of p (filter keep xs)) (n.0 e) ∙ rest) (λ e. rest)

chain-head : (head xs ys : List Link) (last : Option Link) → ((more : Option Link) → IsChain more xs → IsChain more ys) → IsChain last (head ++ xs) → IsChain last (head ++ ys)
chain-head [] xs ys last w a = w last a
chain-head (l ∷ ls) xs ys last w a = (a.0, chain-head ls xs ys (Some l) w a.1)

chain-first : (p : ℕ) (keep : Write → Bool) (xs : List Write) (last : Option Link) → KeepsFirst p keep xs → IsChain last (links_of p xs)
    → IsChain last (links_of p (filter keep xs))
chain-first p keep [] last k a = tt
chain-first p keep (x ∷ xs) last k a =
    cond_both (keep x) (x ∷ filter keep xs) (filter keep xs) (λ ys. IsChain last (links_of p ys))
    (λ e. chain-head (link_at p x) (links_of p xs) (links_of p (filter keep xs)) last (λ more b. chain-first p keep xs more k.1 b) a)
    (λ e. elim (k.0 e) [
      | inl none ↦ chain-first p keep xs last k.1 (subst (λ ls. IsChain last (ls ++ links_of p xs)) none a)
      | inr later ↦ subst (IsChain last) (sym (none-left p keep xs later)) tt
    ])

-- ---- a failure: what is in flight is the last

pub not-false : (b : Bool) → not b ≡ false → b ≡ true
not-false true e = refl
not-false false e = absurd (two_ways true refl e)

abbrev pub is_left : List ℕ → Write → Bool
is_left ps write = not (is_one_of write.node ps && is_in_flight write.stage)

pub failed-first : (p : ℕ) (ps : List ℕ) (xs : List Write) → AreInOrder xs → KeepsFirst p (is_left ps) xs
failed-first p ps [] a = tt
failed-first p ps (x ∷ xs) a = (
  λ e. elim (cases_Bool (x.node == p)) [
    | inr other ↦ inl (ap (λ b. cond b (link_of x.base x.depth x.written) []) other)
    | inl own ↦
        let gone = and_parts (is_one_of x.node ps) (is_in_flight x.stage) (not-false (is_one_of x.node ps && is_in_flight x.stage) e) in
        inr (each-weaker Flies (λ (y : Write). is_left ps y ≡ true → link_at p y ≡ []) xs
        (λ y flies stays. link-other p y (λ i.
        let one = subst (λ q. is_one_of q ps ≡ true) (eqb-true x.node p own ∙ sym i) gone.0 in
        two_ways (is_left ps y) stays (ap (λ b. not (b && is_in_flight y.stage)) one ∙ ap not flies)))
        (a.0 gone.1))
  ],
  failed-first p ps xs a.1,
)

-- ---- a recovery: what lies within the cut is the first

-- of two checkpoints of node p in order, where the second lies within the cut, so does the first
kept-before : (sys : System) (p : ℕ) (cut : Cut) (h : List SerialEvent) → p < length sys.flow.nodes → ((f : Front) → cut ≡ At f → IsCanonical (bounds_of sys.flow p) f)
    → (g k : Front) (l m : List Front) → LiesBelow sys p (checkpoint g l) p (checkpoint k m) → is_kept_write cut (checkpoint k m) h ≡ true
    → is_kept_write cut (checkpoint g l) h ≡ true
kept-before sys p Present h i c g k l m below e = refl
kept-before sys p (At f) h i c g k l m below e =
    let b = bounds_of sys.flow p in
    within-is b g f (c f refl) (λ t at. is_within-holds b k f e t (below refl i t at))

-- the same, for what is written
gone-after : (sys : System) (p : ℕ) (cut : Cut) (h : List SerialEvent) → p < length sys.flow.nodes → ((f : Front) → cut ≡ At f → IsCanonical (bounds_of sys.flow p) f)
    → (b : Option Front) (d : ℕ) (w : Written) → is_kept_write cut w h ≡ false
    → (link_of b d w ≡ []) ⊎ ((c : Option Front) (e : ℕ) (v : Written) → LiesBelow sys p w p v → is_kept_write cut v h ≡ true → link_of c e v ≡ [])
gone-after sys p cut h i canonical b d (logged_event s) gone = inl refl
gone-after sys p cut h i canonical b d (checkpoint g l) gone = inr after
  where
    after : (c : Option Front) (e : ℕ) (v : Written) → LiesBelow sys p (checkpoint g l) p v → is_kept_write cut v h ≡ true → link_of c e v ≡ []
    after c e (logged_event s) below stays = refl
    after c e (checkpoint k m) below stays =
        absurd (two_ways (is_kept_write cut (checkpoint g l) h) (kept-before sys p cut h i canonical g k l m below stays) gone)

pub recovered-first : (sys : System) (p : ℕ) (cut : ℕ → Cut) (h : List SerialEvent) → p < length sys.flow.nodes
    → ((f : Front) → cut p ≡ At f → IsCanonical (bounds_of sys.flow p) f) → (xs : List Write) → AreAscending sys xs
    → KeepsFirst p (λ write. is_kept_write (cut write.node) write.written h) xs
recovered-first sys p cut h i canonical [] a = tt
recovered-first sys p cut h i canonical (x ∷ xs) a = (
  λ e. elim (cases_Bool (x.node == p)) [
    | inr other ↦ inl (ap (λ b. cond b (link_of x.base x.depth x.written) []) other)
    | inl own ↦
        let is = eqb-true x.node p own in
        elim (gone-after sys p (cut p) h i canonical x.base x.depth x.written (subst (λ q. is_kept_write (cut q) x.written h ≡ false) is e)) [
          | inl none ↦ inl (ap (λ b. cond b (link_of x.base x.depth x.written) []) own ∙ none)
          | inr after ↦
              inr (each-weaker (IsWriteBelow sys x) (λ (y : Write). is_kept_write (cut y.node) y.written h ≡ true → link_at p y ≡ []) xs
              (λ y below stays. elim (cases_Bool (y.node == p)) [
                | inr another ↦ ap (λ b. cond b (link_of y.base y.depth y.written) []) another
                | inl its ↦
                    let at = eqb-true y.node p its in
                    ap (λ b. cond b (link_of y.base y.depth y.written) []) its
                    ∙ after y.base y.depth y.written
                    (subst (λ q. LiesBelow sys p x.written q y.written) at (subst (λ q. LiesBelow sys q x.written y.node y.written) is below))
                    (subst (λ q. is_kept_write (cut q) y.written h ≡ true) at stays)
              ]) a.0)
        ]
  ],
  recovered-first sys p cut h i canonical xs a.1,
)

-- ---- each state of a run

abbrev pub HasChain : ℕ → Machine → Type 0
HasChain p state = IsChain None (links_of p state.writes)

chain-event : (sys : System) (state : Machine) (p q : ℕ) → HasChain p state → IsChain None (links_of p (state.writes ++ write_of_event (policy_of sys.flow q) q state.next))
chain-event sys state p q a =
    chain-more p state.writes (write_of_event (policy_of sys.flow q) q state.next) (event-none (policy_of sys.flow q) p q state.next) a

pub took-chain : (sys : System) (state : Machine) (step : Step) (next : Machine) (effect : Effect) → CanRecoverAndRestore sys state → AreInOrder state.writes
    → LeadsTo sys state step next effect → (p : ℕ) → p < length sys.flow.nodes → HasChain p state → HasChain p next
took-chain sys state (Inject s) next effect f o t p i a = subst (HasChain p) (sym t.3) (chain-event sys state p s a)
took-chain sys state (Deliver e at) next effect f o t p i a = subst (HasChain p) (sym t.3) (chain-event sys state p (receiver sys.flow e) a)
took-chain sys state (Notify q at) next effect f o t p i a = subst (HasChain p) (sym t.3) (chain-event sys state p q a)
took-chain sys state ProgressStep next effect f o t p i a =
    let settled = t.1 in
    let test : ℕ → Bool = λ q. is_eager (policy_of sys.flow q) && not (same_front (front_of state.settled q) (front_of settled q)) in
    subst (HasChain p) (sym t.3)
    (chain-asked p state settled (filter test (node_ids sys.flow)) (others-passed test (node_ids sys.flow) (range-others 0 (length sys.flow.nodes))) a)
took-chain sys state (Checkpoint q) next effect f o t p i a = subst (HasChain p) (sym t.3) (chain-asked p state state.settled (q ∷ []) (tt, tt) a)
took-chain sys state Persist next effect f o t p i a =
    let k = t.1 in
    subst (HasChain p) (sym t.2)
    (subst (IsChain None) (sym (ap (links_of p) k.after ∙ links-replaced p k.earlier k.oldest acknowledged k.later ∙ sym (ap (links_of p) k.before))) a)
took-chain sys state (Fail ps) next effect f o t p i a =
    subst (HasChain p) (sym t.4) (chain-first p (is_left ps) state.writes None (failed-first p ps state.writes o) a)
took-chain sys state Recover next effect f o t p i a =
    let choice = t.1 in
    let h = filtered_history sys choice state.history in
    let canonical : (g : Front) → cut_of choice p ≡ At g → IsCanonical (bounds_of sys.flow p) g = λ g e.
    (subst (IsCandidate sys state (is_failed state) kept p) e (t.5.consistent.offered p i)).0 in
    subst (HasChain p) (sym t.7)
    (chain-first p (λ write. is_kept_write (cut_of choice write.node) write.written h) state.writes None
    (recovered-first sys p (cut_of choice) h i canonical state.writes f.recover.ascend) a)
took-chain sys state Collect next effect f o t p i a =
    let low = map front_of_cut t.0.cuts in
    subst (HasChain p) (sym t.3)
    (subst (IsChain None) (sym (links-staged p (λ (x : Write). after_collection (is_forgotten sys low state.history state.writes x) x.stage) state.writes)) a)
took-chain sys state (Ack o) next effect f order t p i a = subst (HasChain p) (sym t.2) a

run-chain : (sys : System) → IsWellFormedSystem sys → (steps : List Step) (outcomes : List Outcome) (state last : Machine) → CanRecoverAndRestore sys state → AreInOrder state.writes
    → Run sys state steps outcomes last → (p : ℕ) → p < length sys.flow.nodes → HasChain p state → HasChain p last
run-chain sys w [] [] state last f o r p i a = subst (HasChain p) (sym r) a
run-chain sys w [] (q ∷ os) state last f o r p i a = absurd r
run-chain sys w (s ∷ ss) [] state last f o r p i a = absurd r
run-chain sys w (s ∷ ss) (did effect ∷ os) state last f o r p i a =
    run-chain sys w ss os r.0 last (took-reached sys w state s r.0 effect f r.1) (took-order sys state s r.0 effect r.1 o) r.2 p i
    (took-chain sys state s r.0 effect f o r.1 p i a)
run-chain sys w (s ∷ ss) (idle ∷ os) state last f o r p i a =
    run-chain sys w ss os r.0 last (subst (CanRecoverAndRestore sys) (sym r.1.1) f) (subst (λ (m : Machine). AreInOrder m.writes) (sym r.1.1) o) r.2 p i
    (subst (HasChain p) (sym r.1.1) a)

pub stands-on_last : EachStandsOnTheOneBefore
stands-on_last sys w steps outcomes last r p i = run-chain sys w steps outcomes (first_state sys) last (first-reached sys w) tt r p i tt
