-- The counts of nothing, and the descent to the largest frontiers by counts.
use Rattle.std.proofs.Common.{◌↔◌, ◌≡◌, ℕ, zero, suc, ◌+◌, ◌*◌, ◌<◌, ◌≤◌, Bool, true, false, not, ◌&&◌, ◌||◌, ◌==◌, ◌≢◌, nat_lt, List, [], ◌∷◌, ◌++◌, length, get_or, set, refl, sym, ap, subst, ◌∙◌, inl, inr, arith}
use Rattle.std.specs.List.{AllByRecursion, list_all}
use Rattle.std.specs.Map.{keys_of}
use Rattle.std.proofs.lemmas.Bool.{and_parts, and_from, both_ways, cases_eq, cases_lt, false_from_ne_true, lt-ltb}
use Rattle.std.proofs.lemmas.List.{get_or_past, length-append, length-set}
use Rattle.std.proofs.lemmas.List.FromFn.{get_or-map-range_with_len}
use Rattle.fw_lemmas.proofs.Each.{each-append}
use Rattle.fw_lemmas.proofs.Lists.{read_at}
use Rattle.fw_bag.specs.declared.rec.Rec.{Rec}
use Rattle.fw_time.specs.Stamp.{Stamp, in_domain}
use Rattle.fw_time.specs.declared.stamp.Bounds.{Bounds}
use Rattle.fw_time.proofs.DomainLaws.{domain-leq}
use Rattle.fw_frontier.specs.Frontier.{Frontier, Within, nothing}
use Rattle.fw_frontier.specs.Front.{Front, inside, frontier_of, IsCanonical, IsFrontOf}
use Rattle.fw_frontier.proofs.NamesLaws.{frontier-closed, names-same, names-nothing}
use Rattle.fw_flow.specs.declared.event.Event.{Event}
use Rattle.fw_flow.specs.Dataflow.{System, Dataflow, kind_of, sender, receiver, in_edges, out_edges, bounds_of, node_frontier, is_input_kind, is_notified_kind, batches_of, batches_of_nodes, system_of}
use Rattle.fw_flow.specs.Projection.{first_coordinate, IsSentTable}
use Rattle.fw_flow.specs.SentTable.{EpochsAscend}
use Rattle.fw_flow.specs.WellFormed.{IsWellFormed}
use Rattle.fw_lines.specs.Batches.{batches_at}
use Rattle.fw_model.specs.History.{is_owed_notice, was_notified, IsComplete}
use Rattle.fw_model.specs.Machine.{front_of, family_of, no_stamps, AreCanonical}
use Rattle.fw_model.proofs.CarriedLaws.{carried-none}
use Rattle.fw_model.proofs.DescentLaws.{total, total-less, covers-at}
use Rattle.fw_model.proofs.TableLaws.{table-follows}
use Rattle.fw_progress.specs.declared.counts.Counts.{Counts}
use Rattle.fw_progress.specs.Counts.{batches_in, injected_in, owed_of, given_by, clear_by, come_by, target_by, is_in, AreCounts, AreNodes, IsStuckBy}
use Rattle.fw_progress.specs.Growths.{IsEnlisted, ArePut}
use Rattle.fw_progress.specs.History.{count_at, IsCountOf, AreKeptAdmissible}
use Rattle.fw_progress.specs.Tally.{times_in}
use Rattle.fw_progress.specs.Start.{AreLargest, AreOfNothing, HasFallen, IsShrunk}
use Rattle.fw_progress.proofs.GrowLaws.{degrees-few, family_new, family_old, front_old, no_sender, receivers-nodes, set_canonical}
use Rattle.fw_progress.proofs.HistoryLaws.{by-kept, kept-complete}
use Rattle.fw_progress.proofs.RefreshLaws.{falls, first_node, not_in-first}
use Rattle.fw_progress.proofs.TargetLaws.{target-less, target-monotone}
use Rattle.fw_progress.proofs.AloneLaws.{none-times}

-- ---- lists of one for each

-- one more of a kind
pub none-more : {A : Type 0} (d : A) (xs ys : List A) (x : A) (n : ℕ) → ys ≡ xs ++ x ∷ [] → x ≡ d → length xs < n → (length xs ≤ n) × AllByRecursion (λ y. y ≡ d) xs
    → (length ys ≤ n) × AllByRecursion (λ y. y ≡ d) ys
none-more d xs ys x n e k l a = (
  (let long = ap length e ∙ length-append xs (x ∷ []) in omega (arith, long, l)),
  subst (AllByRecursion (λ y. y ≡ d)) (sym e) (each-append (λ y. y ≡ d) xs (x ∷ []) a.1 (k, tt)),
)

pub all-alike : {A : Type 0} (d : A) (xs : List A) → AllByRecursion (λ y. y ≡ d) xs → (i : ℕ) → get_or xs i d ≡ d
all-alike d [] a i = refl
all-alike d (x ∷ xs) a zero = a.0
all-alike d (x ∷ xs) a (suc i) = all-alike d xs a.1 i

-- ---- the frontiers of all stamps

pub past-all : (flow : Dataflow) (fronts : List Front) (p : ℕ) (t : Stamp) → length fronts ≤ p → in_domain (bounds_of flow p) t ≡ true → family_of flow fronts p t ≡ true
past-all flow fronts p t l d = and_from (in_domain (bounds_of flow p) t) (inside (front_of fronts p) t) d (ap (λ os. inside os t) (get_or_past fronts p [] l))

-- ---- the nodes that wait

-- all nodes up to a place wait
pub record WaitUpTo (flow : Dataflow) (place : ℕ) (work : List ℕ) : Type 0 where
  pub each : (p : ℕ) → p < place → is_in work p ≡ true
  pub nodes : AreNodes flow work

pub none-waits : (flow : Dataflow) (work : List ℕ) → work ≡ [] → WaitUpTo flow 0 work
none-waits flow work e = record { each = λ p l. absurd (omega arith); nodes = ap (list_all (λ p. nat_lt p (length flow.nodes))) e }

pub one-waits : (flow : Dataflow) (place node : ℕ) (old new : List ℕ) → node ≡ place → place < length flow.nodes → WaitUpTo flow place old → IsEnlisted node old new → WaitUpTo flow (place + 1) new
one-waits flow place node old new e l w put = record {
  each = λ p m. elim (cases_lt p place) [
    | inl k ↦ put.stays p (w.each p k)
    | inr k ↦ let here : p ≡ node = omega (arith, e) in ap (is_in new) here ∙ put.there
  ];
  nodes = put.nodes (λ p. nat_lt p (length flow.nodes)) (lt-ltb node (length flow.nodes) (omega (arith, e))) w.nodes;
}

-- ---- the descent

-- no node can have more than it has, and one that does not wait has no more than it can have
pub record IsDescending (flow : Dataflow) (counts : Counts) (fronts : List Front) (work : List ℕ) : Type 0 where
  pub one_each : length fronts ≡ length flow.nodes
  pub canonical : AreCanonical flow fronts
  pub nodes : AreNodes flow work
  pub stuck : (p : ℕ) → p < length flow.nodes → IsStuckBy flow counts fronts p
  pub within : (p : ℕ) → p < length flow.nodes → is_in work p ≡ false → Within (family_of flow fronts p) (target_by flow counts (family_of flow fronts) p)

all-canonical : (flow : Dataflow) (fronts : List Front) → AllByRecursion (λ f. f ≡ []) fronts → AreCanonical flow fronts
all-canonical flow fronts a p = subst (IsCanonical (bounds_of flow p)) (sym (all-alike [] fronts a p)) tt

target-in_domain : (flow : Dataflow) (counts : Counts) (family : ℕ → Frontier) (p : ℕ) (t : Stamp) → target_by flow counts family p t ≡ true → in_domain (bounds_of flow p) t ≡ true
target-in_domain flow counts family p t i =
    let one = and_parts (clear_by flow counts p t) (list_all (λ e. come_by flow counts e (family (sender flow e)) t) (in_edges flow p)) i in
    let two = and_parts (given_by flow counts p t) (node_frontier flow p (keys_of (owed_of counts p)) t) one.0 in
    (and_parts (in_domain (bounds_of flow p) t)
    (not (is_input_kind (kind_of flow p)) || (injected_in counts p == batches_in counts p || nat_lt (first_coordinate t) (injected_in counts p))) two.0).0

pub begun : (flow : Dataflow) (counts : Counts) (fronts : List Front) (work : List ℕ) → length fronts ≡ length flow.nodes → AllByRecursion (λ f. f ≡ []) fronts
    → ((p : ℕ) → p < length flow.nodes → is_in work p ≡ true) → AreNodes flow work → IsDescending flow counts fronts work
begun flow counts fronts work one a each n = record {
  one_each = one;
  canonical = all-canonical flow fronts a;
  nodes = n;
  stuck = λ p l t i.
      and_from (in_domain (bounds_of flow p) t) (inside (front_of fronts p) t) (target-in_domain flow counts (family_of flow fronts) p t i) (ap (λ os. inside os t) (all-alike [] fronts a p));
  within = λ p l out. absurd (both_ways (is_in work p) out (each p l));
}

-- with a smaller front for one node the family falls
family-falls : (flow : Dataflow) (old : List Front) (p : ℕ) (f : Front) → p < length old → Within (node_frontier flow p f) (family_of flow old p)
    → (q : ℕ) → Within (family_of flow (set old p f) q) (family_of flow old q)
family-falls flow old p f l w q t i = elim (cases_eq q p) [
  | inl e ↦ subst (λ r. family_of flow old r t ≡ true) (sym e) (w t (sym (family_new flow old p f t l) ∙ sym (ap (λ r. family_of flow (set old p f) r t) e) ∙ i))
  | inr n ↦ sym (family_old flow old p q f t n) ∙ i
]

-- where no sender of a node changed, it can have no less
target-kept : (flow : Dataflow) (counts : Counts) (old : List Front) (p q : ℕ) (f : Front)
    → ((e : ℕ) → e < length flow.edges → receiver flow e ≡ q → sender flow e ≢ p)
    → Within (target_by flow counts (family_of flow old) q) (target_by flow counts (family_of flow (set old p f)) q)
target-kept flow counts old p q f other =
    target-less flow counts (family_of flow (set old p f)) (family_of flow old) q
    (λ e l r t i. subst (λ g. come_by flow counts e (node_frontier flow (sender flow e) g) t ≡ true) (sym (front_old old p (sender flow e) f (other e l r))) i)

-- a node that had more than it can have is lowered
lowered : (flow : Dataflow) (counts : Counts) (fronts : List Front) (f : Front) (work mid rest : List ℕ) (p : ℕ) → IsWellFormed flow → work ≡ p ∷ mid → p < length flow.nodes → AreNodes flow mid
    → IsDescending flow counts fronts work → IsFrontOf (bounds_of flow p) f (target_by flow counts (family_of flow fronts) p) → ArePut flow (out_edges flow p) mid rest
    → IsDescending flow counts (set fronts p f) rest
lowered flow counts fronts f work mid rest p wf e there n d can put =
    let l : p < length fronts = omega (arith, there, d.one_each) in
    let fall = family-falls flow fronts p f l (λ t i. d.stuck p there t (sym (can.same t) ∙ i)) in
    let less = target-monotone flow counts (family_of flow (set fronts p f)) (family_of flow fronts) fall in
    record {
      one_each = length-set fronts p f ∙ d.one_each;
      canonical = set_canonical flow fronts p f l d.canonical can.canonical;
      nodes = put.nodes (λ q. nat_lt q (length flow.nodes)) (receivers-nodes flow wf p) n;
      stuck = λ q k t i. elim (cases_eq q p) [
        | inl same ↦ subst (λ r. family_of flow (set fronts p f) r t ≡ true) (sym same)
            (family_new flow fronts p f t l ∙ can.same t ∙ subst (λ r. target_by flow counts (family_of flow fronts) r t ≡ true) same (less q t i))
        | inr other ↦ family_old flow fronts p q f t other ∙ d.stuck q k t (less q t i)
      ];
      within = λ q k out t i.
          let kept = target-kept flow counts fronts p q f (no_sender flow p q mid rest put out) in
          elim (cases_eq q p) [
            | inl same ↦ kept t (subst (λ r. target_by flow counts (family_of flow fronts) r t ≡ true) (sym same)
                (sym (can.same t) ∙ sym (family_new flow fronts p f t l) ∙ sym (ap (λ r. family_of flow (set fronts p f) r t) same) ∙ i))
            | inr other ↦
                let free : is_in mid q ≡ false = false_from_ne_true (is_in mid q) (λ m. both_ways (is_in rest q) out (put.stays q m)) in
                kept t (d.within q k (ap (λ xs. is_in xs q) e ∙ not_in-first mid p q other free) t (sym (family_old flow fronts p q f t other) ∙ i))
          ];
    }

-- a node that has no more than it can have waits no more
passed : (flow : Dataflow) (counts : Counts) (fronts : List Front) (work mid : List ℕ) (p : ℕ) → work ≡ p ∷ mid → AreNodes flow mid
    → IsDescending flow counts fronts work → Within (family_of flow fronts p) (target_by flow counts (family_of flow fronts) p) → IsDescending flow counts fronts mid
passed flow counts fronts work mid p e n d w = record {
  one_each = d.one_each;
  canonical = d.canonical;
  nodes = n;
  stuck = d.stuck;
  within = λ q k out. elim (cases_eq q p) [
    | inl same ↦ subst (λ r. Within (family_of flow fronts r) (target_by flow counts (family_of flow fronts) r)) (sym same) w
    | inr other ↦ d.within q k (ap (λ xs. is_in xs q) e ∙ not_in-first mid p q other out)
  ];
}

pub descends : (flow : Dataflow) (counts : Counts) (fronts new : List Front) (work mid rest : List ℕ) (p : ℕ) → IsWellFormed flow → work ≡ p ∷ mid
    → IsDescending flow counts fronts work → HasFallen flow counts p fronts new mid rest → IsDescending flow counts new rest
descends flow counts fronts new work mid rest p wf e d (inl s) =
    let n = first_node flow work mid p e d.nodes in
    subst (λ xs. IsDescending flow counts xs rest) (sym s.fronts) (subst (IsDescending flow counts fronts) (sym s.waiting) (passed flow counts fronts work mid p e n.1 d s.within))
descends flow counts fronts new work mid rest p wf e d (inr h) =
    let n = first_node flow work mid p e d.nodes in
    subst (λ xs. IsDescending flow counts xs rest) (sym h.shrunk.changed) (lowered flow counts fronts h.front work mid rest p wf e n.0 n.1 d h.can_have h.shrunk.put)

-- how many stamps are inside the frontiers
pub inside_count : Dataflow → List Front → ℕ
inside_count flow fronts = total (λ p. (bounds_of flow p).greatest) (family_of flow fronts) (length flow.nodes)

-- how much is left
unfoldable pub left_inside : Dataflow → List Front → List ℕ → ℕ
left_inside flow fronts work = inside_count flow fronts * (length flow.edges + 1) + length work

fewer_inside : (flow : Dataflow) (counts : Counts) (old : List Front) (p : ℕ) (f : Front) → p < length flow.nodes → p < length old → Within (node_frontier flow p f) (family_of flow old p)
    → (Within (family_of flow old p) (node_frontier flow p f) → ⊥) → inside_count flow (set old p f) < inside_count flow old
unfolding inside_count
fewer_inside flow counts old p f there l w more =
    let top : ℕ → Stamp = λ q. (bounds_of flow q).greatest in
    elim (total-less top (family_of flow (set old p f)) (family_of flow old) (family-falls flow old p f l w) (length flow.nodes)) [
      | inr less ↦ less
      | inl same ↦ absurd (more (λ t i.
          sym (family_new flow old p f t l)
          ∙ covers-at top (family_of flow (set old p f)) (family_of flow old) (length flow.nodes) same.0 p there t (domain-leq (bounds_of flow p) t (and_parts (in_domain (bounds_of flow p) t) (inside (front_of old p) t) i).0) i))
    ]

pub lowered_falls : (flow : Dataflow) (counts : Counts) (fronts new : List Front) (work mid rest : List ℕ) (p : ℕ) → work ≡ p ∷ mid
    → IsDescending flow counts fronts work → HasFallen flow counts p fronts new mid rest → left_inside flow new rest < left_inside flow fronts work
unfolding left_inside
lowered_falls flow counts fronts new work mid rest p e d (inl s) =
    let long : length work ≡ length mid + 1 = ap length e ∙ (omega arith) in
    let same = ap (inside_count flow) s.fronts in
    let waiting = ap length s.waiting in
    subst (λ m. m * (length flow.edges + 1) + length rest < inside_count flow fronts * (length flow.edges + 1) + length work) (sym same) (omega arith)
lowered_falls flow counts fronts new work mid rest p e d (inr h) =
    let there = (first_node flow work mid p e d.nodes).0 in
    let long : length work ≡ length mid + 1 = ap length e ∙ (omega arith) in
    let less = fewer_inside flow counts fronts p h.front there (omega (arith, there, d.one_each)) (λ t i. d.stuck p there t (sym (h.can_have.same t) ∙ i)) h.had_more in
    let now = subst (λ xs. inside_count flow xs < inside_count flow fronts) (sym h.shrunk.changed) less in
    let few = h.shrunk.put.few in
    let degree = degrees-few flow (record { node = p; front = h.front } ∷ []) in
    subst (λ n. inside_count flow new * (length flow.edges + 1) + length rest < inside_count flow fronts * (length flow.edges + 1) + n) (sym long)
    (falls (length flow.edges) 1 (inside_count flow new) (inside_count flow fronts) (length rest) (length mid) (length (out_edges flow p)) (omega arith) few (omega arith))

pub ended : (flow : Dataflow) (counts : Counts) (fronts : List Front) (work : List ℕ) → work ≡ [] → IsDescending flow counts fronts work → AreLargest flow counts fronts
ended flow counts fronts work e d = record {
  one_each = d.one_each;
  canonical = d.canonical;
  admissible = record {
    frontier = λ p. frontier-closed (bounds_of flow p) (front_of fronts p);
    within = λ p l. d.within p l (ap (λ xs. is_in xs p) e);
  };
  stuck = λ p l out. d.stuck p l;
}

-- ---- a node is looked at

pub within-read : (flow : Dataflow) (fronts : List Front) (p i : ℕ) (f x : Front) (r : Bool) → IsCanonical (bounds_of flow p) f → i ≡ p → i < length fronts → x ≡ get_or fronts i x
    → ((b : Bounds) → IsCanonical b f → (r ≡ true) ↔ Within (frontier_of b x) (frontier_of b f)) → (r ≡ true) ↔ Within (family_of flow fronts p) (node_frontier flow p f)
within-read flow fronts p i f x r k e l is test =
    let b = bounds_of flow p in
    subst (λ g. (r ≡ true) ↔ Within (frontier_of b g) (node_frontier flow p f)) (read_at fronts p i x [] e l is) (test b k)

-- a node that has no more than it can have
pub stays : (flow : Dataflow) (counts : Counts) (fronts : List Front) (p : ℕ) (f : Front) (work : List ℕ) → IsFrontOf (bounds_of flow p) f (target_by flow counts (family_of flow fronts) p)
    → Within (family_of flow fronts p) (node_frontier flow p f) → HasFallen flow counts p fronts fronts work work
stays flow counts fronts p f work can w = inl (record { within = λ t i. sym (can.same t) ∙ w t i; fronts = refl; waiting = refl })

-- one that had more
pub falls-to : (flow : Dataflow) (counts : Counts) (fronts new : List Front) (p : ℕ) (f : Front) (work rest : List ℕ) → IsFrontOf (bounds_of flow p) f (target_by flow counts (family_of flow fronts) p)
    → (Within (family_of flow fronts p) (node_frontier flow p f) → ⊥) → IsShrunk flow p f fronts new work rest → HasFallen flow counts p fronts new work rest
falls-to flow counts fronts new p f work rest can more shrunk = inr (record { front = f; can_have = can; had_more = more; shrunk = shrunk })

-- ---- frontiers without stamps

-- the list of the zero stamp is the one that names the frontier without stamps
pub names-no_stamps : (b : Bounds) → IsFrontOf b (no_stamps b) nothing
names-no_stamps = names-nothing

pub no_stamps_named : (b : Bounds) (f : Front) → IsFrontOf b f nothing → f ≡ no_stamps b
no_stamps_named b f n = names-same b f (no_stamps b) nothing n (names-no_stamps b)

-- ---- nothing has happened yet

-- after nothing nothing is owed
none-owed : (sys : System) (p : ℕ) (t : Stamp) → is_owed_notice sys [] p t ≡ false
none-owed sys p t = by (is_notified_kind (kind_of sys.flow p))
  where
    by : (b : Bool) → (b && false && true) ≡ false
    by true = refl
    by false = refl

batches-are : (flow : Dataflow) (given : List (ℕ × List (List Rec))) (p : ℕ) → p < length flow.nodes → batches_of (system_of flow given) p ≡ batches_at given p
unfolding batches_of batches_of_nodes
batches-are flow given p l = get_or-map-range_with_len (batches_at given) 0 (length flow.nodes) p p [] l (omega arith)

pub first-counts : (flow : Dataflow) (given : List (ℕ × List (List Rec))) (counts : Counts) → AreOfNothing flow given counts → IsCountOf (system_of flow given) [] counts
first-counts flow given counts a =
    let sys = system_of flow given in
    record {
      pending = λ e l t. ap (times_in t) (a.pending e) ∙ none-times t ∙ sym (ap (count_at t) (carried-none sys.flow e));
      owed = λ p l t. ap (λ xs. nat_lt 0 (times_in t xs)) (a.owed p) ∙ ap (nat_lt 0) (none-times t) ∙ sym (none-owed sys p t);
      batches = λ p l. a.batches p l ∙ ap length (sym (batches-are flow given p l));
      injected = λ p l. a.injected p;
      sent = λ p l k. subst (IsSentTable sys [] p) (sym (a.sent p)) (table-follows sys p k).begins;
      in_order = λ p l k. subst EpochsAscend (sym (a.sent p)) (λ i j d m n. absurd (omega (arith, n)));
      epochs = λ p l k. subst (AllByRecursion (λ (entry : ℕ × ℕ). was_notified p (entry.0 ∷ []) [] ≡ true)) (sym (a.sent p)) tt;
    }

-- the largest frontiers are complete after each history of the counts
pub largest-stands : (flow : Dataflow) (counts : Counts) (fronts : List Front) → IsWellFormed flow → AreCounts flow counts → AreLargest flow counts fronts
    → (sys : System) (h : List Event) → sys.flow ≡ flow → IsCountOf sys h counts → AreKeptAdmissible sys h fronts [] × IsComplete sys h (family_of flow fronts)
largest-stands flow counts fronts w a g sys h same c =
    let W : Dataflow → Type 0 = λ f. IsWellFormed f in
    let wf = subst W (sym same) w in
    let ac = subst (λ f. AreCounts f counts) (sym same) a in
    let gs = subst (λ f. AreLargest f counts fronts) (sym same) g in
    let kept = by-kept sys h counts wf ac c fronts [] gs.one_each gs.admissible gs.stuck in
    (kept, subst (λ f. IsComplete sys h (family_of f fronts)) same (kept-complete sys h wf fronts [] gs.one_each refl kept))
