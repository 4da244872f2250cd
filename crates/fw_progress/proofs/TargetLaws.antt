-- How far a node's frontier can go: what is read of the counts, and edge by edge.
use Rattle.std.proofs.Common.{◌≡◌, ℕ, zero, suc, ◌+◌, ◌^◌, ◌<◌, ◌≤◌, Bool, true, false, not, ◌&&◌, ◌||◌, ◌==◌, nat_lt, nat_le, List, [], ◌∷◌, ◌++◌, length, get_or, take, refl, sym, ap, subst, ◌∙◌, arith}
use Rattle.std.specs.List.{AllByRecursion, list_all}
use Rattle.std.specs.Map.{keys_of}
use Rattle.std.proofs.Math.Bool.{and-true, and-false, and_assoc}
use Rattle.std.proofs.lemmas.Bool.{and_parts, and_from, eqb-true, false_from_ne_true, false≢true}
use Rattle.std.proofs.lemmas.Bool.Decides.{nat_tests}
use Rattle.std.proofs.lemmas.List.{take_more, take_all}
use Rattle.fw_lemmas.proofs.Each.{each-weaker, each-at, each-of_all, all-of_each}
use Rattle.fw_lemmas.proofs.Numbers.{count_step}
use Rattle.fw_time.specs.Stamp.{Stamp, in_domain}
use Rattle.fw_time.specs.declared.stamp.Bounds.{Bounds}
use Rattle.fw_frontier.specs.Frontier.{Frontier, Within, meet}
use Rattle.fw_frontier.specs.Front.{Front, inside, frontier_of, IsCanonical, IsFrontOf}
use Rattle.fw_flow.specs.Kind.{Kind}
use Rattle.fw_flow.specs.declared.kind.Kind.TheVariants.{Enter, Feedback, Leave, Sequence, Regroup}
use Rattle.fw_flow.specs.Dataflow.{Dataflow, kind_of, sender, receiver, in_edges, domain_of_kind, out_domain_of_kind, greatest_of_kind, bounds_of_domain, bounds_of, greatest_number, is_input_kind, node_frontier}
use Rattle.fw_flow.specs.Projection.{first_coordinate, phi_of_kind, phi_by_count, table_count}
use Rattle.fw_flow.specs.WellFormed.{IsWellFormed}
use Rattle.fw_flow.proofs.EdgeLaws.{in_edges-at, in_edges-from}
use Rattle.fw_model.specs.Machine.{family_of}
use Rattle.fw_model.proofs.InputLaws.{input-bounds}
use Rattle.fw_model.proofs.PhiLaws.{phi_by_count-monotone}
use Rattle.fw_model.proofs.StampLaws.{in_line}
use Rattle.fw_progress.specs.declared.counts.Counts.{Counts}
use Rattle.fw_progress.specs.Counts.{AreCounts, pending_of, sent_of, batches_in, injected_in, given_by, clear_by, unpending_by, moves_stamps, projected_by, come_by, quiet_by, target_by}
use Rattle.fw_progress.specs.Tally.{IsTallyOf}

-- ---- what an input gave

epoch-before : (n m : ℕ) (t : Stamp) → in_domain (record { greatest = m ∷ []; sides = false }) t ≡ true → inside ((n ∷ []) ∷ []) t ≡ nat_lt (first_coordinate t) n
epoch-before n m [] d = absurd (cc)
epoch-before n m (x ∷ []) d = grind (arith, nat_tests)
epoch-before n m (x ∷ y ∷ t) d = absurd (false≢true (and_parts (nat_le x m) false d).1)

pub given-until : (flow : Dataflow) (counts : Counts) (p n : ℕ) (s : Stamp) (f : Front) → is_input_kind (kind_of flow p) ≡ true → (injected_in counts p ≡ batches_in counts p → ⊥)
    → n ≡ injected_in counts p → s ≡ n ∷ [] → IsFrontOf (bounds_of flow p) f (frontier_of (bounds_of flow p) (s ∷ [])) → IsFrontOf (bounds_of flow p) f (given_by flow counts p)
given-until flow counts p n s f k x e q names =
    let b = bounds_of flow p in
    let m = subst (λ r. IsFrontOf b f (frontier_of b (r ∷ []))) q names in
    let y : (injected_in counts p == batches_in counts p) ≡ false = false_from_ne_true (injected_in counts p == batches_in counts p) (λ z. x (eqb-true (injected_in counts p) (batches_in counts p) z)) in
    record { canonical = m.canonical; same = λ t. m.same t ∙ at t (in_domain b t) refl ∙ (λ i. in_domain b t && (not (sym k i) || (sym y i || nat_lt (first_coordinate t) (injected_in counts p)))) }
  where
    at : (t : Stamp) (d : Bool) → in_domain (bounds_of flow p) t ≡ d → (d && inside ((n ∷ []) ∷ []) t) ≡ (in_domain (bounds_of flow p) t && nat_lt (first_coordinate t) (injected_in counts p))
    at t false j = ap (λ d. d && nat_lt (first_coordinate t) (injected_in counts p)) (sym j)
    at t true j =
        epoch-before n greatest_number t (sym (ap (λ (c : Bounds). in_domain c t) (input-bounds flow p k)) ∙ j)
        ∙ ap (nat_lt (first_coordinate t)) e
        ∙ ap (λ d. d && nat_lt (first_coordinate t) (injected_in counts p)) (sym j)

-- an input that injected more than all epochs gives all
pub given-past : (flow : Dataflow) (counts : Counts) (p : ℕ) (f : Front) → f ≡ [] → is_input_kind (kind_of flow p) ≡ true → 2 ^ 32 ≤ injected_in counts p
    → IsFrontOf (bounds_of flow p) f (given_by flow counts p)
given-past flow counts p f e k l = record {
  canonical = subst (IsCanonical (bounds_of flow p)) (sym e) tt;
  same = λ t. ap (λ os. frontier_of (bounds_of flow p) os t) e ∙ at t (in_domain (bounds_of flow p) t) refl;
}
  where
    all : (i x n : Bool) → n ≡ true → true ≡ (not i || (x || n))
    all true true n k = refl
    all true false n k = sym k
    all false x n k = refl

    less : (n m : ℕ) → n ≤ greatest_number → 2 ^ 32 ≤ m → nat_lt n m ≡ true
    less n m a b = grind (arith, nat_tests)

    at : (t : Stamp) (d : Bool) → in_domain (bounds_of flow p) t ≡ d
        → (d && true) ≡ (d && (not (is_input_kind (kind_of flow p)) || (injected_in counts p == batches_in counts p || nat_lt (first_coordinate t) (injected_in counts p))))
    at t false j = refl
    at t true j =
        let a = in_line t greatest_number (sym (ap (λ (c : Bounds). in_domain c t) (input-bounds flow p k)) ∙ j) in
        all (is_input_kind (kind_of flow p)) (injected_in counts p == batches_in counts p) (nat_lt (first_coordinate t) (injected_in counts p))
        (less (first_coordinate t) (injected_in counts p) (subst (λ u. first_coordinate u ≤ greatest_number) (sym a.1) a.2) l)

-- the domain of an input has each epoch
pub epoch-in_domain : (flow : Dataflow) (p n : ℕ) (s : Stamp) → is_input_kind (kind_of flow p) ≡ true → n < 2 ^ 32 → s ≡ n ∷ [] → in_domain (bounds_of flow p) s ≡ true
epoch-in_domain flow p n s k l q = ap (in_domain (bounds_of flow p)) q ∙ ap (λ (c : Bounds). in_domain c (n ∷ [])) (input-bounds flow p k) ∙ and_from (nat_le n greatest_number) true (grind (arith, nat_tests)) refl

-- ---- two fronts met

-- a front of what two others name together
pub met : (b : Bounds) (x y f : Front) (one other : Frontier) → IsFrontOf b x one → IsFrontOf b y other → IsFrontOf b f (meet (frontier_of b x) (frontier_of b y))
    → IsFrontOf b f (meet one other)
met b x y f one other p q n = record { canonical = n.canonical; same = λ t. n.same t ∙ ap (λ c. c && frontier_of b y t) (p.same t) ∙ ap (λ c. one t && c) (q.same t) }

-- a front names what it names
named : (b : Bounds) (x : Front) → IsCanonical b x → IsFrontOf b x (frontier_of b x)
named b x k = record { canonical = k; same = λ t. refl }

-- where there are no stamps a front is met with all
pub all-met : (b : Bounds) (x : Front) (entries : List (Stamp × ℕ)) → entries ≡ [] → IsCanonical b x → IsFrontOf b x (meet (frontier_of b x) (frontier_of b (keys_of entries)))
all-met b x entries e k = record {
  canonical = k;
  same = λ t. by (in_domain b t) (inside x t) ∙ ap (λ es. frontier_of b x t && frontier_of b (keys_of es) t) (sym e);
}
  where
    by : (d i : Bool) → (d && i) ≡ ((d && i) && (d && true))
    by true i = sym (and-true i)
    by false i = refl

-- a front met with what is before these stamps
pub met-before : (b : Bounds) (x quiet f : Front) (entries counted : List (Stamp × ℕ)) → counted ≡ entries → IsCanonical b x → IsFrontOf b quiet (frontier_of b (keys_of counted))
    → IsFrontOf b f (meet (frontier_of b x) (frontier_of b quiet)) → IsFrontOf b f (meet (frontier_of b x) (frontier_of b (keys_of entries)))
met-before b x quiet f entries counted e k q n = met b x quiet f (frontier_of b x) (frontier_of b (keys_of entries)) (named b x k) (subst (λ es. IsFrontOf b quiet (frontier_of b (keys_of es))) e q) n

-- what comes on an edge, by what it carries
pub come-projected : (flow : Dataflow) (counts : Counts) (e : ℕ) (g : Frontier) (projected f : Front) → IsFrontOf (bounds_of flow (receiver flow e)) projected (projected_by flow counts e g)
    → IsFrontOf (bounds_of flow (receiver flow e)) f (meet (node_frontier flow (receiver flow e) projected) (unpending_by flow counts e))
    → IsFrontOf (bounds_of flow (receiver flow e)) f (come_by flow counts e g)
come-projected flow counts e g projected f a n = record {
  canonical = n.canonical;
  same = λ t. n.same t ∙ ap (λ c. c && unpending_by flow counts e t) (a.same t) ∙ turned (projected_by flow counts e g t) (unpending_by flow counts e t);
}
  where
    turned : (a b : Bool) → (a && b) ≡ (b && a)
    turned true b = sym (and-true b)
    turned false b = sym (and-false b)

-- ---- what edges carry

pub unmoved-domain : (flow : Dataflow) (kind : Kind) → moves_stamps kind ≡ false → out_domain_of_kind flow kind ≡ domain_of_kind flow kind
unmoved-domain flow (Enter l) e = absurd (false≢true (sym e))
unmoved-domain flow (Feedback l) e = absurd (false≢true (sym e))
unmoved-domain flow (Leave l) e = absurd (false≢true (sym e))
unmoved-domain flow Sequence e = absurd (false≢true (sym e))
unmoved-domain flow (Regroup n) e = absurd (false≢true (sym e))
unmoved-domain flow kind e = refl

pub unmoved-phi : (greatest : Stamp) (kind : Kind) (count : ℕ) (f : Frontier) (u : Stamp) → moves_stamps kind ≡ false → phi_of_kind greatest kind count f u ≡ f u
unmoved-phi greatest (Enter l) count f u e = absurd (false≢true (sym e))
unmoved-phi greatest (Feedback l) count f u e = absurd (false≢true (sym e))
unmoved-phi greatest (Leave l) count f u e = absurd (false≢true (sym e))
unmoved-phi greatest Sequence count f u e = absurd (false≢true (sym e))
unmoved-phi greatest (Regroup n) count f u e = absurd (false≢true (sym e))
unmoved-phi greatest kind count f u e = refl

-- from a node that moves no stamps an edge carries its frontier as it is
pub unmoved : (flow : Dataflow) (e : ℕ) (f : Front) (count : ℕ) → IsWellFormed flow → e < length flow.edges → moves_stamps (kind_of flow (sender flow e)) ≡ false
    → IsCanonical (bounds_of flow (sender flow e)) f → IsFrontOf (bounds_of flow (receiver flow e)) f (phi_by_count flow count e (node_frontier flow (sender flow e) f))
unfolding bounds_of phi_by_count
unmoved flow e f count w l still k =
    let kind = kind_of flow (sender flow e) in
    let b = bounds_of_domain flow (domain_of_kind flow kind) in
    let out = unmoved-domain flow kind still in
    let comes : Frontier = λ u. in_domain (bounds_of_domain flow (out_domain_of_kind flow kind)) u && phi_of_kind (greatest_of_kind flow kind) kind count (frontier_of b f) u in
    let here : IsFrontOf b f comes = record {
      canonical = k;
      same = λ t.
          by (in_domain b t) (inside f t)
          ∙ ap (λ d. in_domain (bounds_of_domain flow d) t && frontier_of b f t) (sym out)
          ∙ ap (λ i. in_domain (bounds_of_domain flow (out_domain_of_kind flow kind)) t && i) (sym (unmoved-phi (greatest_of_kind flow kind) kind count (frontier_of b f) t still));
    } in
    subst (λ d. IsFrontOf (bounds_of_domain flow d) f comes) (sym out ∙ w.domains e l) here
  where
    by : (d i : Bool) → (d && i) ≡ (d && (d && i))
    by true i = refl
    by false i = refl

-- ---- targets, edge by edge

pub all-append : (test : ℕ → Bool) (xs : List ℕ) (x : ℕ) → list_all test (xs ++ x ∷ []) ≡ (list_all test xs && test x)
all-append test [] x = and-true (test x)
all-append test (y ∷ xs) x = ap (λ b. test y && b) (all-append test xs x) ∙ sym (and_assoc (test y) (list_all test xs) (test x))

-- one edge more
left_met : (b : Bounds) (f : Frontier) (comes : ℕ → Frontier) (old new : Front) (edges : List ℕ) (i e : ℕ) → i < length edges → e ≡ get_or edges i e
    → IsFrontOf b old (λ t. f t && list_all (λ d. comes d t) (take i edges))
    → IsFrontOf b new (meet (frontier_of b old) (comes e))
    → IsFrontOf b new (λ t. f t && list_all (λ d. comes d t) (take (i + 1) edges))
left_met b f comes old new edges i e l is o n = record {
  canonical = n.canonical;
  same = λ t.
      let test : ℕ → Bool = λ d. comes d t in
      let more : list_all test (take (i + 1) edges) ≡ (list_all test (take i edges) && test e) =
      ap (list_all test) (take_more edges i e l) ∙ all-append test (take i edges) (get_or edges i e) ∙ ap (λ d. list_all test (take i edges) && test d) (sym is) in
      n.same t ∙ ap (λ c. c && test e) (o.same t)
      ∙ and_assoc (f t) (list_all test (take i edges)) (test e) ∙ ap (λ c. f t && c) (sym more);
}

-- at first no edge counts
pub left_none : (b : Bounds) (old : Front) (f : Frontier) → IsFrontOf b old f → IsFrontOf b old (λ t. f t && true)
left_none b old f n = record { canonical = n.canonical; same = λ t. n.same t ∙ sym (and-true (f t)) }

-- an in-edge by its place among them
pub in_edge : (flow : Dataflow) (p : ℕ) (edges : List ℕ) (i e : ℕ) → edges ≡ in_edges flow p → i < length edges → e ≡ get_or edges i e
    → (e < length flow.edges) × (receiver flow e ≡ p)
in_edge flow p edges i e es l is =
    let P : ℕ → Type 0 = λ d. (d < length flow.edges) × (receiver flow d ≡ p) in
    subst P (sym is) (each-at P edges i e l (subst (AllByRecursion P) (sym es) (in_edges-from P flow p (λ d m r. (m, r)))))

-- one in-edge more, by a front of what comes on it
pub left_by : (flow : Dataflow) (p : ℕ) (f : Frontier) (comes : ℕ → Frontier) (old come new : Front) (edges : List ℕ) (i e : ℕ)
    → edges ≡ in_edges flow p → i < length edges → e ≡ get_or edges i e
    → IsFrontOf (bounds_of flow p) old (λ t. f t && list_all (λ d. comes d t) (take i edges))
    → IsFrontOf (bounds_of flow (receiver flow e)) come (comes e)
    → (IsCanonical (bounds_of flow p) come → IsFrontOf (bounds_of flow p) new (meet (frontier_of (bounds_of flow p) old) (frontier_of (bounds_of flow p) come)))
    → IsFrontOf (bounds_of flow p) new (λ t. f t && list_all (λ d. comes d t) (take (i + 1) edges))
left_by flow p f comes old come new edges i e es l is o a n =
    let here = subst (λ q. IsFrontOf (bounds_of flow q) come (comes e)) (in_edge flow p edges i e es l is).1 a in
    let m = n here.canonical in
    left_met (bounds_of flow p) f comes old new edges i e l is o (record { canonical = m.canonical; same = λ t. m.same t ∙ ap (λ c. frontier_of (bounds_of flow p) old t && c) (here.same t) })

-- one in-edge more, by what can have come on it
pub left_come : (flow : Dataflow) (counts : Counts) (fronts : List Front) (p : ℕ) (f : Frontier) (old come new : Front) (edges : List ℕ) (i e : ℕ)
    → edges ≡ in_edges flow p → i < length edges → e ≡ get_or edges i e
    → IsFrontOf (bounds_of flow p) old (λ t. f t && list_all (λ d. come_by flow counts d (family_of flow fronts (sender flow d)) t) (take i edges))
    → IsFrontOf (bounds_of flow (receiver flow e)) come (come_by flow counts e (family_of flow fronts (sender flow e)))
    → (IsCanonical (bounds_of flow p) come → IsFrontOf (bounds_of flow p) new (meet (frontier_of (bounds_of flow p) old) (frontier_of (bounds_of flow p) come)))
    → IsFrontOf (bounds_of flow p) new (λ t. f t && list_all (λ d. come_by flow counts d (family_of flow fronts (sender flow d)) t) (take (i + 1) edges))
left_come flow counts fronts p f = left_by flow p f (λ d. come_by flow counts d (family_of flow fronts (sender flow d)))

-- one in-edge more, by what it carries
pub left_projected : (flow : Dataflow) (counts : Counts) (fronts : List Front) (p : ℕ) (old projected new : Front) (edges : List ℕ) (i e : ℕ)
    → edges ≡ in_edges flow p → i < length edges → e ≡ get_or edges i e
    → IsFrontOf (bounds_of flow p) old (λ t. quiet_by flow counts p t && list_all (λ d. projected_by flow counts d (family_of flow fronts (sender flow d)) t) (take i edges))
    → IsFrontOf (bounds_of flow (receiver flow e)) projected (projected_by flow counts e (family_of flow fronts (sender flow e)))
    → (IsCanonical (bounds_of flow p) projected → IsFrontOf (bounds_of flow p) new (meet (frontier_of (bounds_of flow p) old) (frontier_of (bounds_of flow p) projected)))
    → IsFrontOf (bounds_of flow p) new (λ t. quiet_by flow counts p t && list_all (λ d. projected_by flow counts d (family_of flow fronts (sender flow d)) t) (take (i + 1) edges))
left_projected flow counts fronts p = left_by flow p (quiet_by flow counts p) (λ d. projected_by flow counts d (family_of flow fronts (sender flow d)))

-- one in-edge more, by what is pending on it
pub left_quiet : (flow : Dataflow) (counts : Counts) (p : ℕ) (old new : Front) (edges : List ℕ) (i e : ℕ) → AreCounts flow counts
    → edges ≡ in_edges flow p → i < length edges → e ≡ get_or edges i e
    → IsFrontOf (bounds_of flow p) old (λ t. clear_by flow counts p t && list_all (λ d. unpending_by flow counts d t) (take i edges))
    → (IsTallyOf (bounds_of flow p) (pending_of counts e) → IsFrontOf (bounds_of flow p) new (meet (frontier_of (bounds_of flow p) old) (frontier_of (bounds_of flow p) (keys_of (pending_of counts e)))))
    → IsFrontOf (bounds_of flow p) new (λ t. clear_by flow counts p t && list_all (λ d. unpending_by flow counts d t) (take (i + 1) edges))
left_quiet flow counts p old new edges i e a es l is o n =
    let at = in_edge flow p edges i e es l is in
    let m = n (subst (λ q. IsTallyOf (bounds_of flow q) (pending_of counts e)) at.1 (a.pending e at.0)) in
    left_met (bounds_of flow p) (clear_by flow counts p) (unpending_by flow counts) old new edges i e l is o
    (subst (λ q. IsFrontOf (bounds_of flow p) new (meet (frontier_of (bounds_of flow p) old) (node_frontier flow q (keys_of (pending_of counts e))))) (sym at.1) m)

-- ---- what is pending first, and then what edges carry

all-both : (f g : ℕ → Bool) (es : List ℕ) → list_all (λ e. f e && g e) es ≡ (list_all f es && list_all g es)
all-both f g [] = refl
all-both f g (e ∷ es) = ap (λ b. (f e && g e) && b) (all-both f g es) ∙ by (f e) (g e) (list_all f es) (list_all g es)
  where
    by : (a b c d : Bool) → ((a && b) && (c && d)) ≡ ((a && c) && (b && d))
    by true true c d = refl
    by true false c d = sym (and-false c)
    by false b c d = refl

all-taken : (test : ℕ → Bool) (i : ℕ) (es : List ℕ) → list_all test es ≡ true → list_all test (take i es) ≡ true
all-taken test zero es k = refl
all-taken test (suc i) [] k = refl
all-taken test (suc i) (e ∷ es) k =
    let both = and_parts (test e) (list_all test es) k in
    and_from (test e) (list_all test (take i es)) both.0 (all-taken test i es both.1)

target-quiet : (flow : Dataflow) (counts : Counts) (fronts : List Front) (p : ℕ) (t : Stamp)
    → target_by flow counts (family_of flow fronts) p t ≡ (quiet_by flow counts p t && list_all (λ e. projected_by flow counts e (family_of flow fronts (sender flow e)) t) (in_edges flow p))
target-quiet flow counts fronts p t =
    let quiet : ℕ → Bool = λ e. unpending_by flow counts e t in
    let projected : ℕ → Bool = λ e. projected_by flow counts e (family_of flow fronts (sender flow e)) t in
    ap (λ b. clear_by flow counts p t && b) (all-both quiet projected (in_edges flow p))
    ∙ sym (and_assoc (clear_by flow counts p t) (list_all quiet (in_edges flow p)) (list_all projected (in_edges flow p)))

-- after all in-edges it is what the node can have
pub left_all : (flow : Dataflow) (counts : Counts) (fronts : List Front) (p : ℕ) (left : Front) (edges : List ℕ) (i : ℕ) → edges ≡ in_edges flow p → length edges ≤ i
    → IsFrontOf (bounds_of flow p) left (λ t. quiet_by flow counts p t && list_all (λ e. projected_by flow counts e (family_of flow fronts (sender flow e)) t) (take i edges))
    → IsFrontOf (bounds_of flow p) left (target_by flow counts (family_of flow fronts) p)
left_all flow counts fronts p left edges i es l n = record {
  canonical = n.canonical;
  same = λ t.
      let projected : ℕ → Bool = λ e. projected_by flow counts e (family_of flow fronts (sender flow e)) t in
      n.same t ∙ ap (λ ds. quiet_by flow counts p t && list_all projected ds) (take_all i edges l ∙ es) ∙ sym (target-quiet flow counts fronts p t);
}

-- before, the node can have no more than that
pub left_within : (flow : Dataflow) (counts : Counts) (fronts : List Front) (p : ℕ) (left : Front) (edges : List ℕ) (i : ℕ) → edges ≡ in_edges flow p
    → IsFrontOf (bounds_of flow p) left (λ t. quiet_by flow counts p t && list_all (λ e. projected_by flow counts e (family_of flow fronts (sender flow e)) t) (take i edges))
    → Within (target_by flow counts (family_of flow fronts) p) (node_frontier flow p left)
left_within flow counts fronts p left edges i es n t k =
    let projected : ℕ → Bool = λ e. projected_by flow counts e (family_of flow fronts (sender flow e)) t in
    let both = and_parts (quiet_by flow counts p t) (list_all projected (in_edges flow p)) (sym (target-quiet flow counts fronts p t) ∙ k) in
    n.same t ∙ and_from (quiet_by flow counts p t) (list_all projected (take i edges)) both.0
    (all-taken projected i edges (ap (list_all projected) es ∙ both.1))

-- ---- larger families

table_count-monotone : (f g : Frontier) → Within f g → (table : List (ℕ × ℕ)) → table_count f table ≤ table_count g table
table_count-monotone f g w [] = omega arith
table_count-monotone f g w (x ∷ xs) = count_step (f (x.0 ∷ [])) (g (x.0 ∷ [])) x.1 _ _ (w (x.0 ∷ [])) (table_count-monotone f g w xs)

-- by a larger frontier more can come
pub come-monotone : (flow : Dataflow) (counts : Counts) (e : ℕ) (f g : Frontier) → Within f g → Within (come_by flow counts e f) (come_by flow counts e g)
come-monotone flow counts e f g w t k =
    let ms = sent_of counts (sender flow e) in
    let quiet = node_frontier flow (receiver flow e) (keys_of (pending_of counts e)) in
    let both = and_parts (quiet t) (phi_by_count flow (table_count f ms) e f t) k in
    and_from (quiet t) (phi_by_count flow (table_count g ms) e g t) both.0
    (phi_by_count-monotone flow (table_count f ms) (table_count g ms) e f g w (table_count-monotone f g w ms) t both.1)

-- in a larger family a node can have more
pub target-monotone : (flow : Dataflow) (counts : Counts) (small large : ℕ → Frontier) → ((q : ℕ) → Within (small q) (large q))
    → (p : ℕ) → Within (target_by flow counts small p) (target_by flow counts large p)
target-monotone flow counts small large w p t i =
    let test : ℕ → Bool = λ e. come_by flow counts e (small (sender flow e)) t in
    let more : ℕ → Bool = λ e. come_by flow counts e (large (sender flow e)) t in
    let both = and_parts (clear_by flow counts p t) (list_all test (in_edges flow p)) i in
    and_from (clear_by flow counts p t) (list_all more (in_edges flow p)) both.0
    (all-of_each more (in_edges flow p)
    (each-weaker (λ e. test e ≡ true) (λ e. more e ≡ true) (in_edges flow p)
    (λ e k. come-monotone flow counts e (small (sender flow e)) (large (sender flow e)) (w (sender flow e)) t k)
    (each-of_all test (in_edges flow p) both.1)))

-- where what comes by each edge is no more, it can have no more
pub target-less : (flow : Dataflow) (counts : Counts) (small large : ℕ → Frontier) (p : ℕ)
    → ((e : ℕ) → e < length flow.edges → receiver flow e ≡ p → Within (come_by flow counts e (large (sender flow e))) (come_by flow counts e (small (sender flow e))))
    → Within (target_by flow counts large p) (target_by flow counts small p)
target-less flow counts small large p w t i =
    let now : ℕ → Bool = λ e. come_by flow counts e (large (sender flow e)) t in
    let before : ℕ → Bool = λ e. come_by flow counts e (small (sender flow e)) t in
    let both = and_parts (clear_by flow counts p t) (list_all now (in_edges flow p)) i in
    let each = each-of_all now (in_edges flow p) both.1 in
    and_from (clear_by flow counts p t) (list_all before (in_edges flow p)) both.0
    (all-of_each before (in_edges flow p) (in_edges-from (λ e. before e ≡ true) flow p (λ e l r. w e l r t (in_edges-at (λ d. now d ≡ true) flow p each e l r))))
