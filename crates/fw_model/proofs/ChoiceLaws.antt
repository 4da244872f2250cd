-- Choices: the largest one is the only one, and the union of consistent ones is consistent.
use Rattle.std.proofs.Common.{◌≡◌, ℕ, ◌<◌, Bool, true, false, ◌&&◌, ◌||◌, if◌then◌else◌, List, [], ◌∷◌, length, map, filter, refl, sym, ap, subst, ◌∙◌, inl, inr, ◌⊎◌, arith}
use Rattle.std.specs.List.{AllByRecursion, flat_map}
use Rattle.std.proofs.lemmas.Bool.{and_parts, and_from, or_cases, or_left, or_right, cases_Bool, cases_lt}
use Rattle.std.proofs.lemmas.List.{ext_get_or, get_or_past}
use Rattle.std.proofs.lemmas.List.FromFn.{get_or-map-range_with_len, length-map-range_with_len}
use Rattle.std.specs.List.{range_with_len}
use Rattle.fw_lemmas.proofs.Bools.{same_tests}
use Rattle.fw_lemmas.proofs.Each.{each-weaker, each-one}
use Rattle.fw_frontier.proofs.Pairs.{excluding_pairs}
use Rattle.fw_time.specs.Stamp.{Stamp, leq, in_domain}
use Rattle.fw_time.specs.declared.stamp.Bounds.{Bounds}
use Rattle.fw_time.proofs.DomainLaws.{domain-leq}
use Rattle.fw_frontier.specs.Frontier.{Frontier, IsFrontier, Within, nothing, join, cover, some_above}
use Rattle.fw_frontier.specs.Front.{Front, inside, frontier_of, IsCanonical, IsFrontOf}
use Rattle.fw_frontier.proofs.CanonicalLaws.{in_domain-canonical}
use Rattle.fw_frontier.proofs.NamesLaws.{names-join, names-join_sides, names-self, names-same, frontier-closed}
use Rattle.fw_flow.specs.declared.choice.Cut.{Cut}
use Rattle.fw_flow.specs.declared.choice.Cut.TheVariants.{Present, At}
use Rattle.fw_flow.specs.declared.event.Message.{Message}
use Rattle.fw_flow.specs.Kind.{Kind}
use Rattle.fw_flow.specs.declared.kind.Kind.TheVariants.{Input, OutputEpoch, OutputNumber}
use Rattle.fw_flow.specs.declared.kind.Policy.{Policy}
use Rattle.fw_flow.specs.declared.kind.Policy.TheVariants as policy
use Rattle.fw_flow.specs.Dataflow.{System, Dataflow, kind_of, policy_of, sender, receiver, domain_of_kind, bounds_of, bounds_of_domain, greatest_number, is_sequence_kind}
use Rattle.fw_flow.specs.NodeFunction.{event_stamp, sent_by}
use Rattle.fw_flow.specs.Projection.{events_at, all_inside, phi}
use Rattle.fw_model.specs.History.{delivered_messages, sent_messages}
use Rattle.fw_model.specs.Machine.{Machine, SerialEvent, Write, ack_count_of, events, front_of}
use Rattle.fw_flow.specs.declared.choice.Choice.{Choice}
use Rattle.fw_model.specs.Choice.{View, kept, ever, until, AllLogged, IsRestorable, HoldsLow, IsCandidate, IsCutWithin, cut_of, notice_of, kept_of}
use Rattle.fw_model.specs.LawsOfChoices.{ConsistentChoicesHaveUnion, EachLiesWithinUnion, LargestChoiceIsOne, DeliveredOfUnion, NotifiedOfUnion, DiscardedOfUnion, UnionOfCandidatesIsCandidate, UnionOfConsistentIsConsistent}
use Rattle.fw_flow.specs.declared.restoring.Restoring.{Restoring}
use Rattle.fw_flow.specs.declared.restoring.Restoring.TheVariants.{Batches, Bound, Anything, Checkpoints, Events}
use Rattle.fw_flow.specs.Restoring.{restoring_of_policy, restoring, can_resend, way_of}
use Rattle.fw_model.specs.Covers.{stamp_of_notice, set_of, takes_its_cut, takes_its_notices, discarded_at, covers_in, tallies_in}
use Rattle.fw_model.proofs.KindSorts.{is_sequence, no_sequence-single}
use Rattle.fw_model.proofs.CarriedLaws.{carried-each}
use Rattle.fw_model.proofs.PhiLaws.{phi-monotone, all_inside-monotone}
use Rattle.fw_model.proofs.PsiLaws.{psi-monotone, psi-join}
use Rattle.fw_model.proofs.LineLaws.{one_within}
use Rattle.fw_model.proofs.SendsLaws.{IsOfCause, sent_by-of_cause}
use Rattle.fw_model.proofs.SequenceLaws.{bounds-sequence}
use Rattle.fw_model.specs.Unions.{IsUnionOfCuts, IsUnionOfChoices}

-- ---- the largest choice

-- fronts that lie within each other are one list
pub same_fronts : (b : Bounds) (f g : Front) → IsCanonical b f → IsCanonical b g → Within (frontier_of b f) (frontier_of b g)
    → Within (frontier_of b g) (frontier_of b f) → f ≡ g
same_fronts b f g cf cg v w =
    names-same b f g (frontier_of b g)
    (record { canonical = cf; same = λ t. same_tests (frontier_of b f t) (frontier_of b g t) (v t) (w t) }) (names-self b g cg)

-- candidates that lie within each other are one cut
same_cuts : (sys : System) (state : Machine) (lost : ℕ → Bool) (view : View) (p : ℕ) (x y : Cut) → IsCandidate sys state lost view p x
    → IsCandidate sys state lost view p y → IsCutWithin sys.flow p x y → IsCutWithin sys.flow p y x → x ≡ y
same_cuts sys state lost view p Present Present i j v w = refl
same_cuts sys state lost view p Present (At g) i j v w = absurd v
same_cuts sys state lost view p (At f) Present i j v w = absurd w
same_cuts sys state lost view p (At f) (At g) i j v w = ap (λ u. At u) (same_fronts (bounds_of sys.flow p) f g i.0 j.0 v w)

-- a largest choice is the only one
pub largest-one : LargestChoiceIsOne
largest-one sys state lost view one other m n =
    let a = m.consistent in
    let b = n.consistent in
    let v = n.largest one a in
    let w = m.largest other b in
    let cuts = ext_get_or Present one.cuts other.cuts (a.one_cut_each ∙ sym b.one_cut_each) (λ p l.
    let k : p < length sys.flow.nodes = omega (arith, a.one_cut_each) in
    same_cuts sys state lost view p (cut_of one p) (cut_of other p) (a.offered p k) (b.offered p k) (v.cuts p k) (w.cuts p k)) in
    let notices = ext_get_or [] one.notices other.notices (a.one_notice_each ∙ sym b.one_notice_each) (λ p l.
    let k : p < length sys.flow.nodes = omega (arith, a.one_notice_each) in
    same_fronts (bounds_of sys.flow p) (front_of one.notices p) (front_of other.notices p) (a.canonical p k) (b.canonical p k) (v.notices p k) (w.notices p k)) in
    λ j. record { cuts = cuts j; notices = notices j }

-- ---- covers of what passes one of two tests

-- whether an element passes the test and is at the stamp or above it
some_of : {X : Type 0} → (X → Bool) → (X → Stamp) → List X → Stamp → Bool
some_of test at [] t = false
some_of test at (x ∷ xs) t = (test x && leq t (at x)) || some_of test at xs t

above-some : (f : Frontier) (ss : List Stamp) (t : Stamp) → some_above (filter f ss) t ≡ some_of f (λ s. s) ss t
unfolding some_of
above-some f [] t = refl
above-some f (s ∷ ss) t = by (f s) (above-some f ss t)
  where
    by : (c : Bool) → some_above (filter f ss) t ≡ some_of f (λ s. s) ss t
        → some_above (if c then s ∷ filter f ss else filter f ss) t ≡ ((c && leq t s) || some_of f (λ s. s) ss t)
    by true e = ap (λ r. leq t s || r) e
    by false e = e

-- the same of the stamps of elements that pass
some-mapped : {X : Type 0} (test : X → Bool) (at : X → Stamp) (xs : List X) (t : Stamp) → some_above (map at (filter test xs)) t ≡ some_of test at xs t
unfolding some_of
some-mapped test at [] t = refl
some-mapped test at (x ∷ xs) t = by (test x) (some-mapped test at xs t)
  where
    by : (c : Bool) → some_above (map at (filter test xs)) t ≡ some_of test at xs t
        → some_above (map at (if c then x ∷ filter test xs else filter test xs)) t ≡ ((c && leq t (at x)) || some_of test at xs t)
    by true e = ap (λ r. leq t (at x) || r) e
    by false e = e

-- the element passes one of two tests if it passes the first
abbrev pub Divides : {X : Type 0} → (X → Bool) → (X → Bool) → (X → Bool) → X → Type 0
Divides h f g x = h x ≡ true → (f x ≡ true) ⊎ (g x ≡ true)

some-divides : {X : Type 0} (h f g : X → Bool) (at : X → Stamp) (xs : List X) (t : Stamp) → AllByRecursion (Divides h f g) xs
    → some_of h at xs t ≡ true → (some_of f at xs t || some_of g at xs t) ≡ true
unfolding some_of
some-divides h f g at [] t w k = k
some-divides h f g at (x ∷ xs) t w k = elim (or_cases (h x && leq t (at x)) (some_of h at xs t) k) [
  | inl i ↦ let a = and_parts (h x) (leq t (at x)) i in elim (w.0 a.0) [
    | inl j ↦ or_left (some_of f at (x ∷ xs) t) (some_of g at (x ∷ xs) t) (or_left (f x && leq t (at x)) (some_of f at xs t) (and_from (f x) (leq t (at x)) j a.1))
    | inr j ↦ or_right (some_of f at (x ∷ xs) t) (some_of g at (x ∷ xs) t) (or_left (g x && leq t (at x)) (some_of g at xs t) (and_from (g x) (leq t (at x)) j a.1))
  ]
  | inr i ↦ elim (or_cases (some_of f at xs t) (some_of g at xs t) (some-divides h f g at xs t w.1 i)) [
    | inl j ↦ or_left (some_of f at (x ∷ xs) t) (some_of g at (x ∷ xs) t) (or_right (f x && leq t (at x)) (some_of f at xs t) j)
    | inr j ↦ or_right (some_of f at (x ∷ xs) t) (some_of g at (x ∷ xs) t) (or_right (g x && leq t (at x)) (some_of g at xs t) j)
  ]
]

-- tests of a domain divide as their second parts do
and_divides : (d a b c : Bool) → (a ≡ true → (b || c) ≡ true) → (d && a) ≡ true → ((d && b) || (d && c)) ≡ true
and_divides true a b c h k = h k
and_divides false a b c h k = k

-- the cover of what passes a test lies in the covers of what passes one of two others
pub covered-divides : {X : Type 0} (b : Bounds) (h f g : X → Bool) (at : X → Stamp) (xs : List X) → AllByRecursion (Divides h f g) xs
    → Within (cover b (map at (filter h xs))) (join (cover b (map at (filter f xs))) (cover b (map at (filter g xs))))
covered-divides b h f g at xs all t k =
    and_divides (in_domain b t) (some_above (map at (filter h xs)) t) (some_above (map at (filter f xs)) t) (some_above (map at (filter g xs)) t)
    (λ i. ap (λ c. c || some_above (map at (filter g xs)) t) (some-mapped f at xs t) ∙ ap (λ c. some_of f at xs t || c) (some-mapped g at xs t)
    ∙ some-divides h f g at xs t all (sym (some-mapped h at xs t) ∙ i)) k

pub cover-divides : (b : Bounds) (h f g : Frontier) (ss : List Stamp) → Within h (join f g) → Within (cover b (filter h ss)) (join (cover b (filter f ss)) (cover b (filter g ss)))
cover-divides b h f g ss w t k =
    and_divides (in_domain b t) (some_above (filter h ss) t) (some_above (filter f ss) t) (some_above (filter g ss) t)
    (λ i. ap (λ c. c || some_above (filter g ss) t) (above-some f ss t) ∙ ap (λ c. some_of f (λ s. s) ss t || c) (above-some g ss t)
    ∙ some-divides h f g (λ s. s) ss t (each-one (Divides h f g) ss (λ s j. or_cases (f s) (g s) (w s j))) (sym (above-some h ss t) ∙ i)) k

-- ---- what counts inside the union of two cuts

-- where either of two values divides, so does the one that a flag names
pub flag-divides : (c : Bool) (h f g k m n : Frontier) → Within h (join f g) → Within k (join m n)
    → Within (if c then h else k) (join (if c then f else m) (if c then g else n))
flag-divides true h f g k m n v w = v
flag-divides false h f g k m n v w = w

-- what the list of a union has inside
union-within : (b : Bounds) (u : Front) (f : Frontier) → IsFrontOf b u f → Within (frontier_of b u) f
union-within b u f n t k = sym (n.same t) ∙ k

-- what counts inside the union of two cuts counts inside one of them, if it does so where all three are at frontiers
union_by : (sys : System) (p : ℕ) (counts : Cut → Frontier)
    → ((f g u : Front) → IsUnionOfCuts sys p (At f) (At g) (At u) → Within (counts (At u)) (join (counts (At f)) (counts (At g))))
    → (one other union : Cut) → IsUnionOfCuts sys p one other union → Within (counts union) (join (counts one) (counts other))
union_by sys p counts at Present y z w t k = or_left (counts Present t) (counts y t) (sym (ap (λ c. counts c t) w) ∙ k)
union_by sys p counts at (At f) Present z w t k = or_right (counts (At f) t) (counts Present t) (sym (ap (λ c. counts c t) w) ∙ k)
union_by sys p counts at (At f) (At g) Present w t k = absurd w
union_by sys p counts at (At f) (At g) (At u) w t k = at f g u w t k

pub delivered-union : DeliveredOfUnion
delivered-union sys state d =
    let p = receiver sys.flow d in
    let b = bounds_of sys.flow p in
    let ss = map (λ m. m.at) (delivered_messages (events state.history) d) in
    union_by sys p ((covers_in sys state).delivered d) (λ f g u w.
    let v = union-within b u (join (frontier_of b f) (frontier_of b g)) w in
    flag-divides (takes_its_cut (way_of sys.flow p)) (frontier_of b u) (frontier_of b f) (frontier_of b g)
    (cover b (filter (frontier_of b u) ss)) (cover b (filter (frontier_of b f) ss)) (cover b (filter (frontier_of b g) ss))
    v (cover-divides b (frontier_of b u) (frontier_of b f) (frontier_of b g) ss v))

pub notified-union : NotifiedOfUnion
notified-union sys state p =
    let b = bounds_of sys.flow p in
    let ss = flat_map (stamp_of_notice p) (events state.history) in
    union_by sys p ((covers_in sys state).notified p) (λ f g u w.
    let v = union-within b u (join (frontier_of b f) (frontier_of b g)) w in
    flag-divides (takes_its_notices (kind_of sys.flow p) (policy_of sys.flow p)) (frontier_of b u) (frontier_of b f) (frontier_of b g)
    (cover b (filter (frontier_of b u) ss)) (cover b (filter (frontier_of b f) ss)) (cover b (filter (frontier_of b g) ss))
    v (cover-divides b (frontier_of b u) (frontier_of b f) (frontier_of b g) ss v))

within_or : (a b : Bool) → (a ≡ true → b ≡ true) → (a || b) ≡ true → b ≡ true
within_or true b p k = p refl
within_or false b p k = k

within_either : (a b : Bool) → (b ≡ true → a ≡ true) → (a || b) ≡ true → a ≡ true
within_either true b p k = refl
within_either false b p k = p k

-- the messages on an edge all of whose causes are inside come from inside one of two frontiers, as they come from inside both
sent-divides : (sys : System) (state : Machine) (e : ℕ) (h f g : Frontier) → IsFrontier (bounds_of sys.flow (sender sys.flow e)) f
    → IsFrontier (bounds_of sys.flow (sender sys.flow e)) g → Within h (join f g)
    → AllByRecursion (Divides (λ (m : Message). all_inside h m.causes) (λ m. all_inside f m.causes) (λ m. all_inside g m.causes)) (sent_messages sys (events state.history) e)
unfolding IsOfCause
sent-divides sys state e h f g ff fg w =
    let p = sender sys.flow e in
    let vs = events_at sys.flow p (events state.history) in
    let one = Divides (λ (m : Message). all_inside h m.causes) (λ m. all_inside f m.causes) (λ m. all_inside g m.causes) in
    elim (cases_Bool (is_sequence_kind (kind_of sys.flow p))) [
      | inr n ↦ each-weaker (IsOfCause sys.flow p) one (sent_messages sys (events state.history) e)
          (λ m c k.
          let i = (and_parts (h c.0) true (sym (ap (all_inside h) c.2) ∙ k)).0 in
          elim (or_cases (f c.0) (g c.0) (w c.0 i)) [
            | inl j ↦ inl (ap (all_inside f) c.2 ∙ and_from (f c.0) true j refl)
            | inr j ↦ inr (ap (all_inside g) c.2 ∙ and_from (g c.0) true j refl)
          ])
          (carried-each sys.flow e (IsOfCause sys.flow p) (sent_by sys p vs) (sent_by-of_cause sys p (no_sequence-single (kind_of sys.flow p) n) vs))
      | inl s ↦
          let bounds = bounds-sequence sys.flow p (is_sequence (kind_of sys.flow p) s) in
          elim (one_within greatest_number f g (subst (λ b. IsFrontier b f) bounds ff) (subst (λ b. IsFrontier b g) bounds fg)) [
            | inl v ↦ each-one one (sent_messages sys (events state.history) e) (λ m k. inr (all_inside-monotone h g (λ t i. within_or (f t) (g t) (v t) (w t i)) m.causes k))
            | inr v ↦ each-one one (sent_messages sys (events state.history) e) (λ m k. inl (all_inside-monotone h f (λ t i. within_either (f t) (g t) (v t) (w t i)) m.causes k))
          ]
    ]

sent-divides_cover : (sys : System) (state : Machine) (e : ℕ) (h f g : Front)
    → (let b = bounds_of sys.flow (sender sys.flow e) in Within (frontier_of b h) (join (frontier_of b f) (frontier_of b g)))
    → Within ((tallies_in sys state).sent e (At h)) (join ((tallies_in sys state).sent e (At f)) ((tallies_in sys state).sent e (At g)))
sent-divides_cover sys state e hs fs gs w =
    let b = bounds_of sys.flow (sender sys.flow e) in
    let h = frontier_of b hs in
    let f = frontier_of b fs in
    let g = frontier_of b gs in
    covered-divides (bounds_of sys.flow (receiver sys.flow e)) (λ m. all_inside h m.causes) (λ m. all_inside f m.causes) (λ m. all_inside g m.causes) (λ m. m.at)
    (sent_messages sys (events state.history) e) (sent-divides sys state e h f g (frontier-closed b fs) (frontier-closed b gs) w)

discarded_at-divides : (sys : System) (state : Machine) (e : ℕ) (way : Restoring) (h f g : Front)
    → (let b = bounds_of sys.flow (sender sys.flow e) in Within (frontier_of b h) (join (frontier_of b f) (frontier_of b g)))
    → (let ts = tallies_in sys state in Within (discarded_at sys.flow e way (ts.sent e (At h)) h) (join (discarded_at sys.flow e way (ts.sent e (At f)) f) (discarded_at sys.flow e way (ts.sent e (At g)) g)))
discarded_at-divides sys state e Anything h f g w t k =
    let b = bounds_of sys.flow (sender sys.flow e) in
    sym (psi-join sys.flow e (frontier_of b f) (frontier_of b g) t) ∙ psi-monotone sys.flow e (frontier_of b h) (join (frontier_of b f) (frontier_of b g)) w t k
discarded_at-divides sys state e way h f g w t k = sent-divides_cover sys state e h f g w t k

pub discarded-union : DiscardedOfUnion
discarded-union sys state e =
    let p = sender sys.flow e in
    let b = bounds_of sys.flow p in
    let way = way_of sys.flow p in
    let at : Front → Frontier = λ x. discarded_at sys.flow e way ((tallies_in sys state).sent e (At x)) x in
    union_by sys p ((covers_in sys state).discarded e) (λ f g u w.
    flag-divides (can_resend (policy_of sys.flow p)) nothing nothing nothing (at u) (at f) (at g) (λ s i. i)
    (discarded_at-divides sys state e way u f g (union-within b u (join (frontier_of b f) (frontier_of b g)) w)))

-- ---- the union of two candidates

-- what divides into two parts, each within the whole, lies within the whole
divided : (h f g whole : Frontier) → Within h (join f g) → Within f whole → Within g whole → Within h whole
divided h f g whole w v u t k = elim (or_cases (f t) (g t) (w t k)) [ inl i ↦ v t i | inr i ↦ u t i ]

-- each event inside the union is logged, as each inside one of the two is
logged-union : (sys : System) (p : ℕ) (h f g : Frontier) → Within h (join f g) → (writes : List Write) (vs : List SerialEvent)
    → AllLogged sys p f writes vs → AllLogged sys p g writes vs → AllLogged sys p h writes vs
logged-union sys p h f g w writes [] a b = tt
logged-union sys p h f g w writes (v ∷ vs) a b = (
  λ e k. elim (or_cases (f (event_stamp v.event)) (g (event_stamp v.event)) (w (event_stamp v.event) k)) [ inl i ↦ a.0 e i | inr i ↦ b.0 e i ],
  logged-union sys p h f g w writes vs a.1 b.1,
)

-- of two fronts one of which lies within the other, the union is one
greater-union : (b : Bounds) (f g u : Front) → IsCanonical b f → IsCanonical b g → IsFrontOf b u (join (frontier_of b f) (frontier_of b g))
    → Within (frontier_of b f) (frontier_of b g) ⊎ Within (frontier_of b g) (frontier_of b f) → (u ≡ f) ⊎ (u ≡ g)
greater-union b f g u cf cg n way = elim way [
  | inl v ↦ inr (same_fronts b u g n.canonical cg (λ t k. within_or (frontier_of b f t) (frontier_of b g t) (v t) (sym (n.same t) ∙ k))
      (λ t k. n.same t ∙ or_right (frontier_of b f t) (frontier_of b g t) k))
  | inr v ↦ inl (same_fronts b u f n.canonical cf (λ t k. within_either (frontier_of b f t) (frontier_of b g t) (v t) (sym (n.same t) ∙ k))
      (λ t k. n.same t ∙ or_left (frontier_of b f t) (frontier_of b g t) k))
]

-- one of two fronts lies within the other
OneWithin : Bounds → Front → Front → Type 0
OneWithin b f g = Within (frontier_of b f) (frontier_of b g) ⊎ Within (frontier_of b g) (frontier_of b f)

chain-union : (sys : System) (state : Machine) (view : View) (p : ℕ) (way : Restoring) (f g u : Front) → IsCanonical (bounds_of sys.flow p) f
    → IsCanonical (bounds_of sys.flow p) g → IsFrontOf (bounds_of sys.flow p) u (join (frontier_of (bounds_of sys.flow p) f) (frontier_of (bounds_of sys.flow p) g))
    → OneWithin (bounds_of sys.flow p) f g → IsRestorable sys state view p way f → IsRestorable sys state view p way g → IsRestorable sys state view p way u
unfolding OneWithin
chain-union sys state view p way f g u cf cg n one a b = elim (greater-union (bounds_of sys.flow p) f g u cf cg n one) [
  | inl e ↦ subst (λ x. IsRestorable sys state view p way x) (sym e) a
  | inr e ↦ subst (λ x. IsRestorable sys state view p way x) (sym e) b
]

restorable-union : (sys : System) (state : Machine) (view : View) (p : ℕ) (way : Restoring) (f g u : Front) → IsCanonical (bounds_of sys.flow p) f
    → IsCanonical (bounds_of sys.flow p) g → IsFrontOf (bounds_of sys.flow p) u (join (frontier_of (bounds_of sys.flow p) f) (frontier_of (bounds_of sys.flow p) g))
    → (way ≡ Batches → OneWithin (bounds_of sys.flow p) f g) → (way ≡ Checkpoints → OneWithin (bounds_of sys.flow p) f g)
    → IsRestorable sys state view p way f → IsRestorable sys state view p way g → IsRestorable sys state view p way u
restorable-union sys state view p Batches f g u cf cg n m c a b = chain-union sys state view p Batches f g u cf cg n (m refl) a b
restorable-union sys state view p Bound f g u cf cg n m c a b =
    let s = bounds_of sys.flow p in
    let v = union-within s u (join (frontier_of s f) (frontier_of s g)) n in (
      divided (frontier_of s u) (frontier_of s f) (frontier_of s g) (frontier_of s (front_of state.settled p)) v a.0 b.0,
      divided (frontier_of s u) (frontier_of s f) (frontier_of s g) (frontier_of s (until (ack_count_of state p))) v a.1 b.1,
    )
restorable-union sys state view p Anything f g u cf cg n m c a b =
    let s = bounds_of sys.flow p in
    divided (frontier_of s u) (frontier_of s f) (frontier_of s g) (frontier_of s (front_of state.settled p))
    (union-within s u (join (frontier_of s f) (frontier_of s g)) n) a b
restorable-union sys state view p Checkpoints f g u cf cg n m c a b = chain-union sys state view p Checkpoints f g u cf cg n (c refl) a b
restorable-union sys state view p Events f g u cf cg n m c a b =
    let s = bounds_of sys.flow p in
    let v = union-within s u (join (frontier_of s f) (frontier_of s g)) n in (
      divided (frontier_of s u) (frontier_of s f) (frontier_of s g) (frontier_of s (front_of state.settled p)) v a.0 b.0,
      logged-union sys p (frontier_of s u) (frontier_of s f) (frontier_of s g) v state.writes state.history a.1 b.1,
    )

low-union : (view : View) (low f u : Frontier) → Within f u → HoldsLow view low f → HoldsLow view low u
low-union kept low f u w h = λ t k. w t (h t k)
low-union ever low f u w h = tt

-- only an input is restored by its batches
pub not_by_batches : (p : Policy) → restoring_of_policy p ≡ Batches → ⊥
not_by_batches policy.None e = cc
not_by_batches policy.Lazy e = cc
not_by_batches policy.Logged e = cc
not_by_batches policy.Eager e = cc
not_by_batches policy.Full e = cc

pub by_batches-input : (kind : Kind) (p : Policy) → restoring kind p ≡ Batches → kind ≡ Input
by_batches-input Input p e = refl
by_batches-input OutputEpoch p e = absurd (cc)
by_batches-input OutputNumber p e = absurd (cc)
by_batches-input kind p e = absurd (not_by_batches p e)

pub bounds-input : (flow : Dataflow) (p : ℕ) → kind_of flow p ≡ Input → bounds_of flow p ≡ record { greatest = greatest_number ∷ []; sides = false }
unfolding bounds_of
bounds-input flow p is = ap (λ k. bounds_of_domain flow (domain_of_kind flow k)) is

batches-chain : (sys : System) (p : ℕ) (f g : Front) → way_of sys.flow p ≡ Batches → OneWithin (bounds_of sys.flow p) f g
unfolding OneWithin
batches-chain sys p f g e =
    let b = bounds_of sys.flow p in
    let line = bounds-input sys.flow p (by_batches-input (kind_of sys.flow p) (policy_of sys.flow p) e) in
    one_within greatest_number (frontier_of b f) (frontier_of b g) (subst (λ s. IsFrontier s (frontier_of b f)) line (frontier-closed b f))
    (subst (λ s. IsFrontier s (frontier_of b g)) line (frontier-closed b g))

pub candidates-union : UnionOfCandidatesIsCandidate
unfolding OneWithin
candidates-union sys state lost view p Present y z i j w c = subst (λ x. IsCandidate sys state lost view p x) (sym w) i
candidates-union sys state lost view p (At f) Present z i j w c = subst (λ x. IsCandidate sys state lost view p x) (sym w) j
candidates-union sys state lost view p (At f) (At g) Present i j w c = absurd w
candidates-union sys state lost view p (At f) (At g) (At u) i j w c =
    let b = bounds_of sys.flow p in (
      w.canonical,
      restorable-union sys state view p (way_of sys.flow p) f g u i.0 j.0 w (batches-chain sys p f g) c i.1 j.1,
      low-union view (frontier_of b (front_of state.low p)) (frontier_of b f) (frontier_of b u)
          (λ t k. w.same t ∙ or_left (frontier_of b f t) (frontier_of b g t) k) i.2,
    )

-- ---- the union of two choices

-- each of two cuts lies within their union
left-within : (sys : System) (p : ℕ) (x y z : Cut) → IsUnionOfCuts sys p x y z → Within (set_of sys.flow p x) (set_of sys.flow p z)
left-within sys p Present y z w t k = ap (λ c. set_of sys.flow p c t) w ∙ k
left-within sys p (At f) Present z w t k =
    ap (λ c. set_of sys.flow p c t) w ∙ (and_parts (in_domain (bounds_of sys.flow p) t) (inside f t) k).0
left-within sys p (At f) (At g) Present w t k = absurd w
left-within sys p (At f) (At g) (At u) w t k =
    w.same t ∙ or_left (frontier_of (bounds_of sys.flow p) f t) (frontier_of (bounds_of sys.flow p) g t) k

right-within : (sys : System) (p : ℕ) (x y z : Cut) → IsUnionOfCuts sys p x y z → Within (set_of sys.flow p y) (set_of sys.flow p z)
right-within sys p Present Present z w t k = ap (λ c. set_of sys.flow p c t) w ∙ k
right-within sys p Present (At g) z w t k =
    ap (λ c. set_of sys.flow p c t) w ∙ (and_parts (in_domain (bounds_of sys.flow p) t) (inside g t) k).0
right-within sys p (At f) Present z w t k = ap (λ c. set_of sys.flow p c t) w ∙ k
right-within sys p (At f) (At g) Present w t k = absurd w
right-within sys p (At f) (At g) (At u) w t k =
    w.same t ∙ or_right (frontier_of (bounds_of sys.flow p) f t) (frontier_of (bounds_of sys.flow p) g t) k

past-union : (sys : System) (p : ℕ) (x y z : Cut) → x ≡ Present → y ≡ Present → z ≡ Present → IsUnionOfCuts sys p x y z
past-union sys p Present y z a b c = c
past-union sys p (At f) y z a b c = absurd (cc)

-- past the last node too, the cut is the union
cuts-union : (sys : System) (one other union : Choice) → length one.cuts ≡ length sys.flow.nodes → length other.cuts ≡ length sys.flow.nodes
    → IsUnionOfChoices sys one other union → (p : ℕ) → IsUnionOfCuts sys p (cut_of one p) (cut_of other p) (cut_of union p)
cuts-union sys one other union a b w p = elim (cases_lt p (length sys.flow.nodes)) [
  | inl l ↦ w.cuts p l
  | inr l ↦ past-union sys p (cut_of one p) (cut_of other p) (cut_of union p)
      (get_or_past one.cuts p Present (omega arith)) (get_or_past other.cuts p Present (omega arith)) (get_or_past union.cuts p Present (omega (arith, w.one_cut_each)))
]

same_bits : (a b c : Bool) → b ≡ a → c ≡ a → a ≡ (b || c)
same_bits true b c p q = sym (or_left b c p)
same_bits false b c p q = sym (ap (λ x. x || c) p ∙ q)

-- and so are the notification frontiers
notices-union : (sys : System) (one other union : Choice) → length one.notices ≡ length sys.flow.nodes → length other.notices ≡ length sys.flow.nodes
    → IsUnionOfChoices sys one other union → (p : ℕ) (t : Stamp) → notice_of sys.flow union p t ≡ join (notice_of sys.flow one p) (notice_of sys.flow other p) t
notices-union sys one other union a b w p t = elim (cases_lt p (length sys.flow.nodes)) [
  | inl l ↦ (w.notices p l).same t
  | inr l ↦
      let past = frontier_of (bounds_of sys.flow p) [] t in
      let i : notice_of sys.flow one p t ≡ past = ap (λ os. frontier_of (bounds_of sys.flow p) os t) (get_or_past one.notices p [] (omega arith)) in
      let j : notice_of sys.flow other p t ≡ past = ap (λ os. frontier_of (bounds_of sys.flow p) os t) (get_or_past other.notices p [] (omega arith)) in
      let k : notice_of sys.flow union p t ≡ past = ap (λ os. frontier_of (bounds_of sys.flow p) os t) (get_or_past union.notices p [] (omega (arith, w.one_notice_each))) in
      k ∙ same_bits past (notice_of sys.flow one p t) (notice_of sys.flow other p t) i j
]

-- the union of consistent choices is consistent
pub union-consistent : UnionOfConsistentIsConsistent
union-consistent sys state lost view one other union a b w offered =
    let h = events state.history in
    let cut = cuts-union sys one other union a.one_cut_each b.one_cut_each w in
    let notice = notices-union sys one other union a.one_notice_each b.one_notice_each w in
    let left : (p : ℕ) → Within (kept_of sys.flow one p) (kept_of sys.flow union p) = λ p. left-within sys p (cut_of one p) (cut_of other p) (cut_of union p) (cut p) in
    let right : (p : ℕ) → Within (kept_of sys.flow other p) (kept_of sys.flow union p) = λ p. right-within sys p (cut_of one p) (cut_of other p) (cut_of union p) (cut p) in
    let notice_left : (p : ℕ) → Within (notice_of sys.flow one p) (notice_of sys.flow union p) = λ p t k. notice p t ∙ or_left (notice_of sys.flow one p t) (notice_of sys.flow other p t) k in
    let notice_right : (p : ℕ) → Within (notice_of sys.flow other p) (notice_of sys.flow union p) = λ p t k. notice p t ∙ or_right (notice_of sys.flow one p t) (notice_of sys.flow other p t) k in
    let notice_parts : (p : ℕ) → Within (notice_of sys.flow union p) (join (notice_of sys.flow one p) (notice_of sys.flow other p)) = λ p t k. sym (notice p t) ∙ k in
    record {
      one_cut_each = w.one_cut_each;
      one_notice_each = w.one_notice_each;
      offered = offered;
      canonical = λ p l. (w.notices p l).canonical;
      delivered = λ d l.
          let p = receiver sys.flow d in
          let q = sender sys.flow d in
          divided ((covers_in sys state).delivered d (cut_of union p)) ((covers_in sys state).delivered d (cut_of one p)) ((covers_in sys state).delivered d (cut_of other p)) (phi sys h d (kept_of sys.flow union q))
          (delivered-union sys state d (cut_of one p) (cut_of other p) (cut_of union p) (cut p))
          (λ t i. phi-monotone sys h d (kept_of sys.flow one q) (kept_of sys.flow union q) (left q) t (a.delivered d l t i))
          (λ t i. phi-monotone sys h d (kept_of sys.flow other q) (kept_of sys.flow union q) (right q) t (b.delivered d l t i));
      discarded = λ e l.
          let p = receiver sys.flow e in
          let q = sender sys.flow e in
          divided ((covers_in sys state).discarded e (cut_of union q)) ((covers_in sys state).discarded e (cut_of one q)) ((covers_in sys state).discarded e (cut_of other q)) (kept_of sys.flow union p)
          (discarded-union sys state e (cut_of one q) (cut_of other q) (cut_of union q) (cut q))
          (λ t i. left p t (a.discarded e l t i)) (λ t i. right p t (b.discarded e l t i));
      notified = λ p l.
          divided ((covers_in sys state).notified p (cut_of union p)) ((covers_in sys state).notified p (cut_of one p)) ((covers_in sys state).notified p (cut_of other p)) (notice_of sys.flow union p)
          (notified-union sys state p (cut_of one p) (cut_of other p) (cut_of union p) (cut p))
          (λ t i. notice_left p t (a.notified p l t i)) (λ t i. notice_right p t (b.notified p l t i));
      own = λ p l. divided (notice_of sys.flow union p) (notice_of sys.flow one p) (notice_of sys.flow other p) (kept_of sys.flow union p) (notice_parts p)
          (λ t i. left p t (a.own p l t i)) (λ t i. right p t (b.own p l t i));
      notices = λ d l.
          let p = receiver sys.flow d in
          let q = sender sys.flow d in
          divided (notice_of sys.flow union p) (notice_of sys.flow one p) (notice_of sys.flow other p) (phi sys h d (notice_of sys.flow union q)) (notice_parts p)
          (λ t i. phi-monotone sys h d (notice_of sys.flow one q) (notice_of sys.flow union q) (notice_left q) t (a.notices d l t i))
          (λ t i. phi-monotone sys h d (notice_of sys.flow other q) (notice_of sys.flow union q) (notice_right q) t (b.notices d l t i));
    }

-- ---- each two choices have a union, which they lie within

-- the list of what is inside one of two frontiers of a domain
union : Bounds → Front → Front → Front
union b f g = filter (in_domain b) (excluding_pairs f g [])

names-union : (b : Bounds) (f g : Front) → IsCanonical b f → IsCanonical b g → IsFrontOf b (union b f g) (join (frontier_of b f) (frontier_of b g))
unfolding union
names-union b f g h k =
    let i = in_domain-canonical b f h in
    let j = in_domain-canonical b g k in
    names-join_sides b (excluding_pairs f g []) f g i j (names-join b.greatest f g (low f i) (low g j))
  where
    low : (os : Front) → AllByRecursion (λ o. in_domain b o ≡ true) os → AllByRecursion (λ o. leq o b.greatest ≡ true) os
    low os h = each-weaker (λ o. in_domain b o ≡ true) (λ o. leq o b.greatest ≡ true) os (domain-leq b) h

union_cut : Bounds → Cut → Cut → Cut
union_cut b Present y = Present
union_cut b (At f) Present = Present
union_cut b (At f) (At g) = At (union b f g)

union_cut-union : (sys : System) (state : Machine) (lost : ℕ → Bool) (view : View) (p : ℕ) (x y : Cut) → IsCandidate sys state lost view p x
    → IsCandidate sys state lost view p y → IsUnionOfCuts sys p x y (union_cut (bounds_of sys.flow p) x y)
unfolding union_cut
union_cut-union sys state lost view p Present y i j = refl
union_cut-union sys state lost view p (At f) Present i j = refl
union_cut-union sys state lost view p (At f) (At g) i j = names-union (bounds_of sys.flow p) f g i.0 j.0

pub have-union : ConsistentChoicesHaveUnion
have-union sys state lost view one other a b =
    let n = length sys.flow.nodes in
    let cut : ℕ → Cut = λ p. union_cut (bounds_of sys.flow p) (cut_of one p) (cut_of other p) in
    let notice : ℕ → Front = λ p. union (bounds_of sys.flow p) (front_of one.notices p) (front_of other.notices p) in (
      record { cuts = map cut (range_with_len 0 n); notices = map notice (range_with_len 0 n) },
      record {
        one_cut_each = length-map-range_with_len cut 0 n;
        one_notice_each = length-map-range_with_len notice 0 n;
        cuts = λ p l. subst (λ z. IsUnionOfCuts sys p (cut_of one p) (cut_of other p) z) (sym (get_or-map-range_with_len cut 0 n p p Present l (omega arith)))
            (union_cut-union sys state lost view p (cut_of one p) (cut_of other p) (a.offered p l) (b.offered p l));
        notices = λ p l. subst (λ os. IsFrontOf (bounds_of sys.flow p) os (join (notice_of sys.flow one p) (notice_of sys.flow other p)))
            (sym (get_or-map-range_with_len notice 0 n p p [] l (omega arith)))
            (names-union (bounds_of sys.flow p) (front_of one.notices p) (front_of other.notices p) (a.canonical p l) (b.canonical p l));
      },
    )

left-cut : (sys : System) (p : ℕ) (x y z : Cut) → IsUnionOfCuts sys p x y z → IsCutWithin sys.flow p x z
left-cut sys p Present y z w = subst (λ c. IsCutWithin sys.flow p Present c) (sym w) tt
left-cut sys p (At f) Present z w = subst (λ c. IsCutWithin sys.flow p (At f) c) (sym w) tt
left-cut sys p (At f) (At g) Present w = tt
left-cut sys p (At f) (At g) (At u) w = left-within sys p (At f) (At g) (At u) w

right-cut : (sys : System) (p : ℕ) (x y z : Cut) → IsUnionOfCuts sys p x y z → IsCutWithin sys.flow p y z
right-cut sys p Present Present z w = subst (λ c. IsCutWithin sys.flow p Present c) (sym w) tt
right-cut sys p Present (At g) z w = subst (λ c. IsCutWithin sys.flow p (At g) c) (sym w) tt
right-cut sys p (At f) Present z w = subst (λ c. IsCutWithin sys.flow p Present c) (sym w) tt
right-cut sys p (At f) (At g) Present w = tt
right-cut sys p (At f) (At g) (At u) w = right-within sys p (At f) (At g) (At u) w

pub within-union : EachLiesWithinUnion
within-union sys one other union w = (
  record {
    cuts = λ p l. left-cut sys p (cut_of one p) (cut_of other p) (cut_of union p) (w.cuts p l);
    notices = λ p l t k. (w.notices p l).same t ∙ or_left (notice_of sys.flow one p t) (notice_of sys.flow other p t) k;
  },
  record {
    cuts = λ p l. right-cut sys p (cut_of one p) (cut_of other p) (cut_of union p) (w.cuts p l);
    notices = λ p l t k. (w.notices p l).same t ∙ or_right (notice_of sys.flow one p t) (notice_of sys.flow other p t) k;
  },
)
