-- Frontiers that grow: what it keeps, and what it leaves to be widened.
use Rattle.std.proofs.Common.{◌↔◌, ◌≡◌, ◌≢◌, ℕ, suc, ◌+◌, ◌*◌, ◌<◌, ◌≤◌, Bool, true, false, not, ◌==◌, nat_lt, cond, List, [], ◌∷◌, ◌++◌, length, get_or, set, refl, sym, ap, subst, ◌∙◌, inl, inr, arith, append_assoc}
use Rattle.std.specs.List.{list_all}
use Rattle.std.proofs.lemmas.Bool.{and_parts, and_from, cases_Bool, cases_eq, cases_lt, eqb-true, false_from_ne_true, lt-ltb, both_ways, not-true}
use Rattle.std.proofs.lemmas.List.{get_or-set_same, get_or-set_other, get_or_past, length-set}
use Rattle.fw_lemmas.proofs.Each.{all-of_each}
use Rattle.fw_lemmas.proofs.Lists.{read_at}
use Rattle.fw_time.specs.Stamp.{Stamp, in_domain}
use Rattle.fw_time.specs.declared.stamp.Bounds.{Bounds}
use Rattle.fw_time.proofs.DomainLaws.{domain-leq}
use Rattle.fw_frontier.specs.Frontier.{Frontier, Within}
use Rattle.fw_frontier.specs.Front.{Front, inside, frontier_of, IsCanonical, IsFrontOf}
use Rattle.fw_frontier.proofs.NamesLaws.{frontier-closed}
use Rattle.fw_flow.specs.Counting.{how_many}
use Rattle.fw_flow.specs.Dataflow.{Dataflow, sender, receiver, edges_from, out_edges, bounds_of, node_frontier}
use Rattle.fw_flow.specs.declared.node.Edge.{Edge}
use Rattle.fw_flow.specs.WellFormed.{IsWellFormed}
use Rattle.fw_flow.proofs.OutEdgeLaws.{out_edges-at, out_edges-from}
use Rattle.fw_model.specs.Machine.{front_of, family_of, AreCanonical}
use Rattle.fw_model.proofs.DescentLaws.{total, total-less, covers-at}
use Rattle.fw_progress.specs.declared.counts.Counts.{Counts}
use Rattle.fw_progress.specs.declared.growth.Growth.{Growth}
use Rattle.fw_progress.specs.Counts.{come_by, target_by, IsAdmissibleBy, IsStuckBy, is_in}
use Rattle.fw_progress.specs.Growths.{IsMore, IsNoMore, AreGrowths, out_degrees, times_grown, ArePut, IsGrown, HaveGrown, IsWidened, GrewAlone}
use Rattle.fw_progress.proofs.TargetLaws.{target-monotone, target-less}

-- ---- one front in a list of one for each node

pub front_new : (old : List Front) (p : ℕ) (f : Front) → p < length old → front_of (set old p f) p ≡ f
front_new old p f l = get_or-set_same old p f [] l

pub front_old : (old : List Front) (p q : ℕ) (f : Front) → q ≢ p → front_of (set old p f) q ≡ front_of old q
front_old old p q f n = get_or-set_other old p q f [] n

-- the family with one front changed
pub family_new : (flow : Dataflow) (old : List Front) (p : ℕ) (f : Front) (t : Stamp) → p < length old → family_of flow (set old p f) p t ≡ node_frontier flow p f t
family_new flow old p f t l = ap (λ g. node_frontier flow p g t) (front_new old p f l)

pub family_old : (flow : Dataflow) (old : List Front) (p q : ℕ) (f : Front) (t : Stamp) → q ≢ p → family_of flow (set old p f) q t ≡ family_of flow old q t
family_old flow old p q f t n = ap (λ g. node_frontier flow q g t) (front_old old p q f n)

-- with a larger front for one node the family grows
pub family_grows : (flow : Dataflow) (old : List Front) (p : ℕ) (f : Front) → p < length old → Within (family_of flow old p) (node_frontier flow p f)
    → (q : ℕ) → Within (family_of flow old q) (family_of flow (set old p f) q)
family_grows flow old p f l w q t i = elim (cases_eq q p) [
  | inl e ↦ subst (λ r. family_of flow (set old p f) r t ≡ true) (sym e) (family_new flow old p f t l ∙ w t (sym (ap (λ r. family_of flow old r t) e) ∙ i))
  | inr n ↦ family_old flow old p q f t n ∙ i
]

pub set_canonical : (flow : Dataflow) (old : List Front) (p : ℕ) (f : Front) → p < length old → AreCanonical flow old → IsCanonical (bounds_of flow p) f → AreCanonical flow (set old p f)
set_canonical flow old p f l c k q = elim (cases_eq q p) [
  | inl e ↦ subst (λ r. IsCanonical (bounds_of flow r) (front_of (set old p f) r)) (sym e) (subst (IsCanonical (bounds_of flow p)) (sym (front_new old p f l)) k)
  | inr n ↦ subst (IsCanonical (bounds_of flow q)) (sym (front_old old p q f n)) (c q)
]

-- ---- a node is widened

-- where no sender of a node changed, it can have no more
target-same : (flow : Dataflow) (counts : Counts) (old : List Front) (p q : ℕ) (f : Front)
    → ((e : ℕ) → e < length flow.edges → receiver flow e ≡ q → sender flow e ≢ p)
    → Within (target_by flow counts (family_of flow (set old p f)) q) (target_by flow counts (family_of flow old) q)
target-same flow counts old p q f other =
    target-less flow counts (family_of flow old) (family_of flow (set old p f)) q
    (λ e l r t i. subst (λ g. come_by flow counts e (node_frontier flow (sender flow e) g) t ≡ true) (front_old old p (sender flow e) f (other e l r)) i)

-- no sender of a node that does not wait grew
pub no_sender : (flow : Dataflow) (p q : ℕ) (work rest : List ℕ) → ArePut flow (out_edges flow p) work rest → is_in rest q ≡ false
    → (e : ℕ) → e < length flow.edges → receiver flow e ≡ q → sender flow e ≢ p
no_sender flow p q work rest put out e k r s =
    let j : is_in rest (receiver flow e) ≡ true = out_edges-at (λ d. is_in rest (receiver flow d) ≡ true) flow p put.there e k s in
    let c = ap (is_in rest) r in
    cc

-- the family stays admissible where the node gets what it can have
widened-admissible : (flow : Dataflow) (counts : Counts) (old : List Front) (p : ℕ) (f : Front) → p < length old
    → IsFrontOf (bounds_of flow p) f (target_by flow counts (family_of flow old) p) → Within (family_of flow old p) (node_frontier flow p f)
    → IsAdmissibleBy flow counts (family_of flow old) → IsAdmissibleBy flow counts (family_of flow (set old p f))
widened-admissible flow counts old p f l n w a =
    let grows = family_grows flow old p f l w in
    let more = target-monotone flow counts (family_of flow old) (family_of flow (set old p f)) grows in
    record {
      frontier = λ q. frontier-closed (bounds_of flow q) (front_of (set old p f) q);
      within = λ q m t i. elim (cases_eq q p) [
        | inl e ↦ more q t (subst (λ r. target_by flow counts (family_of flow old) r t ≡ true) (sym e) (sym (n.same t) ∙ sym (family_new flow old p f t l) ∙ sym (ap (λ r. family_of flow (set old p f) r t) e) ∙ i))
        | inr k ↦ more q t (a.within q m t (sym (family_old flow old p q f t k) ∙ i))
      ];
    }

pub receivers-nodes : (flow : Dataflow) → IsWellFormed flow → (p : ℕ) → list_all (λ e. nat_lt (receiver flow e) (length flow.nodes)) (out_edges flow p) ≡ true
receivers-nodes flow w p =
    all-of_each (λ e. nat_lt (receiver flow e) (length flow.nodes)) (out_edges flow p)
    (out_edges-from (λ e. nat_lt (receiver flow e) (length flow.nodes) ≡ true) flow p (λ e l r. lt-ltb (receiver flow e) (length flow.nodes) (w.receivers_declared e l)))

-- ---- growths

pub none_grown : (flow : Dataflow) (counts : Counts) (old : List Front) (work : List ℕ) (growths : List Growth) → HaveGrown flow counts old old work work growths growths
none_grown flow counts old work growths = record {
  added = [];
  grown = refl;
  listed = sym (append-nil growths);
  one_each = refl;
  canonical = λ c. c;
  nodes = λ n. n;
  few = omega arith;
  none_out = omega arith;
  stays = λ q k. k;
  leaves = λ q l out s. s;
}
  where
    append-nil : (gs : List Growth) → gs ++ [] ≡ gs
    append-nil [] = refl
    append-nil (g ∷ gs) = ap (λ hs. g ∷ hs) (append-nil gs)

-- one node grew
pub one_grown : (flow : Dataflow) (counts : Counts) (p : ℕ) (f : Front) (old new : List Front) (work rest : List ℕ) (growths more : List Growth)
    → IsWellFormed flow → p < length old → IsCanonical (bounds_of flow p) f → IsMore flow old p f → IsGrown flow p f old new work rest growths more
    → HaveGrown flow counts old new work rest growths more
one_grown flow counts p f old new work rest growths more w l c m g =
    let few = g.put.few in
    let none_out = g.put.none_out in
    record {
      added = record { node = p; front = f } ∷ [];
      grown = (m, g.changed);
      listed = g.listed;
      one_each = ap length g.changed ∙ length-set old p f;
      canonical = λ a. subst (AreCanonical flow) (sym g.changed) (set_canonical flow old p f l a c);
      nodes = g.put.nodes (λ q. nat_lt q (length flow.nodes)) (receivers-nodes flow w p);
      few = omega arith;
      none_out = omega arith;
      stays = g.put.stays;
      leaves = λ q k out s. subst (λ xs. IsStuckBy flow counts xs q) (sym g.changed)
          (λ t i. family_grows flow old p f l m.above q t (s t (target-same flow counts old p q f (no_sender flow p q work rest g.put out) t i)));
    }

pub degrees-append : (flow : Dataflow) (gs hs : List Growth) → out_degrees flow (gs ++ hs) ≡ out_degrees flow gs + out_degrees flow hs
degrees-append flow [] hs = omega arith
degrees-append flow (g ∷ gs) hs = let e = degrees-append flow gs hs in omega arith

pub growths-append : (flow : Dataflow) (old : List Front) (gs : List Growth) (mid : List Front) (hs : List Growth) (new : List Front)
    → AreGrowths flow old gs mid → AreGrowths flow mid hs new → AreGrowths flow old (gs ++ hs) new
growths-append flow old [] mid hs new e b = subst (λ xs. AreGrowths flow xs hs new) e b
growths-append flow old (g ∷ gs) mid hs new a b = (a.0, growths-append flow (set old g.node g.front) gs mid hs new a.1 b)

-- some nodes grew, and then others
pub grown_then : (flow : Dataflow) (counts : Counts) (old mid new : List Front) (work some rest : List ℕ) (growths more most : List Growth)
    → HaveGrown flow counts old mid work some growths more → HaveGrown flow counts mid new some rest more most → HaveGrown flow counts old new work rest growths most
grown_then flow counts old mid new work some rest growths more most a b =
    let d = degrees-append flow a.added b.added in
    let x = a.few in
    let y = b.few in
    let k = a.none_out in
    let m = b.none_out in
    record {
      added = a.added ++ b.added;
      grown = growths-append flow old a.added mid b.added new a.grown b.grown;
      listed = b.listed ∙ ap (λ gs. gs ++ b.added) a.listed ∙ append_assoc growths a.added b.added;
      one_each = b.one_each ∙ a.one_each;
      canonical = λ c. b.canonical (a.canonical c);
      nodes = λ n. b.nodes (a.nodes n);
      few = omega arith;
      none_out = omega arith;
      stays = λ q k. b.stays q (a.stays q k);
      leaves = λ q l out s. b.leaves q l out (a.leaves q l (false_from_ne_true (is_in some q) (λ k. both_ways (is_in rest q) out (b.stays q k))) s);
    }

-- a growth more is one of its node
many-more : {X : Type 0} (test : X → Bool) (xs : List X) (x : X) → how_many test (xs ++ x ∷ []) ≡ how_many test xs + cond (test x) 1 0
many-more test [] x = by (test x)
  where
    by : (b : Bool) → cond b 1 0 ≡ 0 + cond b 1 0
    by true = refl
    by false = refl
many-more test (y ∷ xs) x = by (test y) (many-more test xs x)
  where
    by : (b : Bool) → how_many test (xs ++ x ∷ []) ≡ how_many test xs + cond (test x) 1 0
        → cond b (how_many test (xs ++ x ∷ []) + 1) (how_many test (xs ++ x ∷ [])) ≡ cond b (how_many test xs + 1) (how_many test xs) + cond (test x) 1 0
    by true h = omega arith
    by false h = h

pub no_growth : (p : ℕ) (growths : List Growth) → GrewAlone p growths growths
no_growth p growths = record { here = omega arith; others = λ q n. refl }

pub one_growth : (p : ℕ) (f : Front) (growths more : List Growth) → more ≡ growths ++ record { node = p; front = f } ∷ [] → GrewAlone p growths more
one_growth p f growths more e =
    let count : (q : ℕ) → times_grown more q ≡ times_grown growths q + cond (p == q) 1 0
    = λ q. ap (λ gs. times_grown gs q) e ∙ many-more (λ (g : Growth). g.node == q) growths (record { node = p; front = f }) in
    record {
      here = let c = count p in let l = one-most (p == p) in omega arith;
      others = λ q n. count q ∙ ap (λ b. times_grown growths q + cond b 1 0) (false_from_ne_true (p == q) (λ k. n (sym (eqb-true p q k)))) ∙ omega arith;
    }
  where
    one-most : (b : Bool) → cond b 1 0 ≤ 1
    one-most true = omega arith
    one-most false = omega arith

-- ---- a node is widened, or has the largest frontier

pub widened_same : (flow : Dataflow) (counts : Counts) (p : ℕ) (old : List Front) (work : List ℕ) (growths : List Growth) → p < length flow.nodes → IsNoMore flow counts old p
    → IsWidened flow counts p old old work work growths growths
widened_same flow counts p old work growths l none = record {
  once = inr (record { none = none; same = refl; same_work = refl; same_growths = refl });
  grew = none_grown flow counts old work growths;
  admissible = λ a. a;
  stuck = λ a out. none (a.within p l);
}

pub widened_more : (flow : Dataflow) (counts : Counts) (p : ℕ) (old new : List Front) (work rest : List ℕ) (growths more : List Growth) (f : Front) → IsWellFormed flow → p < length old
    → IsFrontOf (bounds_of flow p) f (target_by flow counts (family_of flow old) p) → IsMore flow old p f → IsGrown flow p f old new work rest growths more
    → IsWidened flow counts p old new work rest growths more
widened_more flow counts p old new work rest growths more f w l n m g = record {
  once = inl (record { front = f; most = n; larger = m; grown = g });
  grew = one_grown flow counts p f old new work rest growths more w l n.canonical m g;
  admissible = λ a. subst (λ xs. IsAdmissibleBy flow counts (family_of flow xs)) (sym g.changed) (widened-admissible flow counts old p f l n m.above a);
  stuck = λ a out. subst (λ xs. IsStuckBy flow counts xs p) (sym g.changed)
      (λ t i. family_new flow old p f t l ∙ n.same t ∙ target-same flow counts old p p f (no_sender flow p p work rest g.put out) t i);
}

-- ---- what is read

pub more_read : (flow : Dataflow) (fronts : List Front) (p i : ℕ) (f x : Front) (r s : Bool) → AreCanonical flow fronts → IsCanonical (bounds_of flow p) f → i ≡ p → i < length fronts → x ≡ get_or fronts i x
    → ((b : Bounds) → IsCanonical b f → (r ≡ true) ↔ Within (frontier_of b x) (frontier_of b f)) → r ≡ true
    → ((b : Bounds) → IsCanonical b x → (s ≡ true) ↔ Within (frontier_of b f) (frontier_of b x)) → s ≡ false → IsMore flow fronts p f
more_read flow fronts p i f x r s c k e l is above one below other =
    let b = bounds_of flow p in
    let here : x ≡ front_of fronts p = read_at fronts p i x [] e l is in
    record {
      above = λ t j. (above b k).0 one t (ap (λ g. frontier_of b g t) here ∙ j);
      strictly = λ w. both_ways s other ((below b (subst (IsCanonical b) (sym here) (c p))).1 (λ t j. ap (λ g. frontier_of b g t) here ∙ w t j));
    }

pub not_within_read : (flow : Dataflow) (fronts : List Front) (p i : ℕ) (f x : Front) (r : Bool) → IsCanonical (bounds_of flow p) f → i ≡ p → i < length fronts → x ≡ get_or fronts i x
    → ((b : Bounds) → IsCanonical b f → (r ≡ true) ↔ Within (frontier_of b x) (frontier_of b f)) → r ≡ false → Within (family_of flow fronts p) (node_frontier flow p f) → ⊥
not_within_read flow fronts p i f x r k e l is above none w =
    let b = bounds_of flow p in
    let here : x ≡ front_of fronts p = read_at fronts p i x [] e l is in
    both_ways r none ((above b k).1 (λ u m. w u (sym (ap (λ g. frontier_of b g u) here) ∙ m)))

pub within_read : (flow : Dataflow) (fronts : List Front) (p i : ℕ) (f x : Front) (s : Bool) → AreCanonical flow fronts → i ≡ p → i < length fronts → x ≡ get_or fronts i x
    → ((b : Bounds) → IsCanonical b x → (s ≡ true) ↔ Within (frontier_of b f) (frontier_of b x)) → s ≡ true → Within (node_frontier flow p f) (family_of flow fronts p)
within_read flow fronts p i f x s c e l is below one t j =
    let b = bounds_of flow p in
    let here : x ≡ front_of fronts p = read_at fronts p i x [] e l is in
    sym (ap (λ g. frontier_of b g t) here) ∙ (below b (subst (IsCanonical b) (sym here) (c p))).0 one t j

-- what lies within the frontier so far is no more
pub no_more : (flow : Dataflow) (counts : Counts) (fronts : List Front) (p i : ℕ) (left x : Front) (s : Bool) → AreCanonical flow fronts → i ≡ p → i < length fronts → x ≡ get_or fronts i x
    → ((b : Bounds) → IsCanonical b x → (s ≡ true) ↔ Within (frontier_of b left) (frontier_of b x)) → s ≡ true
    → Within (target_by flow counts (family_of flow fronts) p) (node_frontier flow p left) → IsNoMore flow counts fronts p
no_more flow counts fronts p i left x s c e l is below one w above t k = within_read flow fronts p i left x s c e l is below one t (w t k)

-- nor is a front that is not more
pub not_more : (flow : Dataflow) (counts : Counts) (fronts : List Front) (p : ℕ) (f : Front) → IsFrontOf (bounds_of flow p) f (target_by flow counts (family_of flow fronts) p)
    → (Within (family_of flow fronts p) (node_frontier flow p f) → Within (node_frontier flow p f) (family_of flow fronts p)) → IsNoMore flow counts fronts p
not_more flow counts fronts p f n back w t k = back (λ s j. n.same s ∙ w s j) t (n.same t ∙ k)

-- ---- fewer stamps are outside

-- how many stamps are outside the frontiers
pub outside_count : Dataflow → List Front → ℕ
outside_count flow fronts = total (λ p. (bounds_of flow p).greatest) (λ p t. not (family_of flow fronts p t)) (length flow.nodes)

-- a node that can have more is one of the list
more-there : (flow : Dataflow) (old : List Front) (p : ℕ) (f : Front) → IsMore flow old p f → p < length old
more-there flow old p f m = elim (cases_lt p (length old)) [
  | inl l ↦ l
  | inr l ↦ absurd (m.strictly (λ t i.
      let d = (and_parts (in_domain (bounds_of flow p) t) (inside f t) i).0 in
      and_from (in_domain (bounds_of flow p) t) (inside (front_of old p) t) d (ap (λ os. inside os t) (get_or_past old p [] l))))
]

fewer_outside : (flow : Dataflow) (old : List Front) (p : ℕ) (f : Front) → length old ≡ length flow.nodes → IsMore flow old p f
    → outside_count flow (set old p f) < outside_count flow old
unfolding outside_count
fewer_outside flow old p f one m =
    let l = more-there flow old p f m in
    let top : ℕ → Stamp = λ q. (bounds_of flow q).greatest in
    let now : ℕ → Frontier = λ q t. not (family_of flow (set old p f) q t) in
    let before : ℕ → Frontier = λ q t. not (family_of flow old q t) in
    let grows = family_grows flow old p f l m.above in
    elim (total-less top now before
    (λ q t i. ap not (false_from_ne_true (family_of flow old q t) (λ k. let g = grows q t k in let j = not-true (family_of flow (set old p f) q t) i in cc))) (length flow.nodes)) [
      | inr less ↦ less
      | inl same ↦ absurd (m.strictly (λ t i.
          let d = (and_parts (in_domain (bounds_of flow p) t) (inside f t) i).0 in
          elim (cases_Bool (family_of flow old p t)) [
            | inl k ↦ k
            | inr k ↦
                let j = covers-at top now before (length flow.nodes) same.0 p (omega arith) t (domain-leq (bounds_of flow p) t d) (ap not k) in
                let z = not-true (family_of flow (set old p f) p t) j in
                let y = family_new flow old p f t l in
                absurd (cc)
          ]))
    ]

-- each growth takes one stamp at least
pub growths_outside : (flow : Dataflow) (old : List Front) (gs : List Growth) (new : List Front) → length old ≡ length flow.nodes → AreGrowths flow old gs new
    → outside_count flow new + length gs ≤ outside_count flow old
growths_outside flow old [] new one e = let same = ap (outside_count flow) e in omega arith
growths_outside flow old (g ∷ gs) new one a =
    let less = fewer_outside flow old g.node g.front one a.0 in
    let rest = growths_outside flow (set old g.node g.front) gs new (length-set old g.node g.front ∙ one) a.1 in
    omega arith

from-few : (n : ℕ) (es : List Edge) (p : ℕ) → length (edges_from n es p) ≤ length es
from-few n [] p = omega arith
from-few n (e ∷ es) p = by (e.sender == p) (from-few (n + 1) es p)
  where
    by : (b : Bool) → length (edges_from (n + 1) es p) ≤ length es → length (cond b (n ∷ edges_from (n + 1) es p) (edges_from (n + 1) es p)) ≤ suc (length es)
    by true k = omega arith
    by false k = omega arith

-- a node has no more out-edges than there are edges
out_edges-few : (flow : Dataflow) (p : ℕ) → length (out_edges flow p) ≤ length flow.edges
unfolding out_edges
out_edges-few flow p = from-few 0 flow.edges p

pub degrees-few : (flow : Dataflow) (gs : List Growth) → out_degrees flow gs ≤ length gs * length flow.edges
degrees-few flow [] = omega arith
degrees-few flow (g ∷ gs) = let a = out_edges-few flow g.node in let b = degrees-few flow gs in omega arith
