-- In a state in which something can be chosen: each node has a greatest cut, and for an inclusion there is a greatest value left.
use Rattle.std.proofs.Common.{◌≡◌, ℕ, ◌<◌, Bool, List, ◌∷◌, [], length, map, refl, sym, ap, subst, inl, inr, ◌∙◌}
use Rattle.std.proofs.lemmas.Bool.{and_parts, and_from, or_cases, or_left, or_right}
use Rattle.fw_time.specs.Stamp.{Stamp}
use Rattle.fw_frontier.specs.Frontier.{Frontier, IsFrontier, Within, join, meet}
use Rattle.fw_frontier.specs.Front.{Front, frontier_of, IsFrontOf}
use Rattle.fw_frontier.proofs.NamesLaws.{frontier-closed}
use Rattle.fw_flow.specs.declared.choice.Choice.{Choice}
use Rattle.fw_flow.specs.declared.choice.Cut.{Cut}
use Rattle.fw_flow.specs.declared.choice.Cut.TheVariants.{Present, At}
use Rattle.fw_flow.specs.declared.side.Side.{Side}
use Rattle.fw_flow.specs.declared.side.Side.TheVariants.{Delivered, Discarded, Notified}
use Rattle.fw_flow.specs.declared.side.Limit.{Limit}
use Rattle.fw_flow.specs.declared.side.Limit.TheVariants.{Own, Note}
use Rattle.fw_flow.specs.declared.side.Inclusion.{Inclusion}
use Rattle.fw_flow.specs.declared.side.Inclusion.TheVariants.{OfCut, OfNote}
use Rattle.fw_flow.specs.Dataflow.{System, Dataflow, bounds_of, bounds_of_domain, sender}
use Rattle.fw_flow.specs.WellFormed.{IsWellFormed}
use Rattle.fw_model.proofs.ConsistentLaws.{candidate-decided}
use Rattle.fw_headline.proofs.ListLaws.{greatest-in, list_of-places}
use Rattle.fw_headline.proofs.WithinLaws.{cut_within-decided, left-decided}
use Rattle.fw_model.proofs.ChoiceLaws.{candidates-union, delivered-union, discarded-union, notified-union}
use Rattle.fw_model.proofs.Decisions.{Decided, decided-and}
use Rattle.fw_model.proofs.EnclosesLaws.{Encloses, left-consistent}
use Rattle.fw_model.proofs.FrontLaws.{has_front}
use Rattle.fw_model.proofs.FrontierLaws.{phi-frontier}
use Rattle.fw_model.proofs.InclusionLaws.{ArrivalsAreMonotone, owner-there}
use Rattle.fw_model.proofs.ListedLaws.{IsIn, each-in, in-map, fronts_of, in-fronts}
use Rattle.fw_model.proofs.SettleLaws.{join-frontier, meet-frontier}
use Rattle.fw_model.specs.Certificates.{IsBeginning, IsGreatestOffered}
use Rattle.fw_model.specs.Choice.{kept, cut_of, notice_of, IsCandidate, IsConsistent, IsCutWithin}
use Rattle.fw_model.specs.Choosing.{AreCheckpointsChains}
use Rattle.fw_model.specs.Covers.{covers_in, set_of}
use Rattle.fw_model.specs.Inclusions.{owner, note_node, left_of, right_of, limit_of, IsInclusionOf, IsLimitIn}
use Rattle.fw_model.specs.Lowerings.{IsCutLeft, IsGreatestLeft, IsValueLeft}
use Rattle.fw_model.specs.Machine.{Machine, events, front_of}
use Rattle.fw_model.specs.Unions.{IsUnionOfCuts}

-- ---- cuts within cuts

pub cut-itself : (sys : System) (p : ℕ) (x : Cut) → IsCutWithin sys.flow p x x
cut-itself sys p Present = tt
cut-itself sys p (At f) = λ t i. i

cut-along : (sys : System) (p : ℕ) (x y z : Cut) → IsCutWithin sys.flow p x y → IsCutWithin sys.flow p y z → IsCutWithin sys.flow p x z
cut-along sys p x y Present v w = tt
cut-along sys p x Present (At h) v w = absurd w
cut-along sys p Present (At g) (At h) v w = absurd v
cut-along sys p (At f) (At g) (At h) v w = λ t i. w t (v t i)

-- each two cuts have a union
some_union : (sys : System) (p : ℕ) (x y : Cut) → (z : Cut) × IsUnionOfCuts sys p x y z
some_union sys p Present y = (Present, refl)
some_union sys p (At f) Present = (Present, refl)
some_union sys p (At f) (At g) =
    let b = bounds_of sys.flow p in
    let u = has_front b (join (frontier_of b f) (frontier_of b g)) (join-frontier b (frontier_of b f) (frontier_of b g) (frontier-closed b f) (frontier-closed b g)) in
    (At u.0, u.1)

-- they lie within it
first-within : (sys : System) (p : ℕ) (x y z : Cut) → IsUnionOfCuts sys p x y z → IsCutWithin sys.flow p x z
first-within sys p Present y z w = subst (λ c. IsCutWithin sys.flow p Present c) (sym w) tt
first-within sys p (At f) Present z w = subst (λ c. IsCutWithin sys.flow p (At f) c) (sym w) tt
first-within sys p (At f) (At g) Present w = tt
first-within sys p (At f) (At g) (At u) w = λ t i.
    w.same t ∙ or_left (frontier_of (bounds_of sys.flow p) f t) (frontier_of (bounds_of sys.flow p) g t) i

second-within : (sys : System) (p : ℕ) (x y z : Cut) → IsUnionOfCuts sys p x y z → IsCutWithin sys.flow p y z
second-within sys p Present y z w = subst (λ c. IsCutWithin sys.flow p y c) (sym w) tt
second-within sys p (At f) Present z w = subst (λ c. IsCutWithin sys.flow p Present c) (sym w) tt
second-within sys p (At f) (At g) Present w = tt
second-within sys p (At f) (At g) (At u) w = λ t i.
    w.same t ∙ or_right (frontier_of (bounds_of sys.flow p) f t) (frontier_of (bounds_of sys.flow p) g t) i

-- and it lies within what they lie within
joined : (h f g whole : Frontier) → Within h (join f g) → Within f whole → Within g whole → Within h whole
joined h f g whole w v u t k = elim (or_cases (f t) (g t) (w t k)) [ inl i ↦ v t i | inr i ↦ u t i ]

union-within : (sys : System) (p : ℕ) (x y z c : Cut) → IsUnionOfCuts sys p x y z → IsCutWithin sys.flow p x c → IsCutWithin sys.flow p y c → IsCutWithin sys.flow p z c
union-within sys p x y z Present w v u = tt
union-within sys p Present y z (At h) w v u = absurd v
union-within sys p (At f) Present z (At h) w v u = absurd u
union-within sys p (At f) (At g) Present (At h) w v u = absurd w
union-within sys p (At f) (At g) (At k) (At h) w v u =
    let b = bounds_of sys.flow p in
    joined (frontier_of b k) (frontier_of b f) (frontier_of b g) (frontier_of b h) (λ t i. sym (w.same t) ∙ i) v u

left-union : (sys : System) (state : Machine) (side : Side) (x y z : Cut) → IsUnionOfCuts sys (owner sys.flow side) x y z
    → Within (left_of (covers_in sys state) side z) (join (left_of (covers_in sys state) side x) (left_of (covers_in sys state) side y))
left-union sys state (Delivered d) x y z w = delivered-union sys state d x y z w
left-union sys state (Discarded e) x y z w = discarded-union sys state e x y z w
left-union sys state (Notified p) x y z w = notified-union sys state p x y z w

-- ---- the greatest of what a node offers

-- what is offered in a state
abbrev Offered : System → Machine → (ℕ → Bool) → ℕ → Cut → Type 0
Offered sys state lost p x = IsCandidate sys state lost kept p x

-- a node's cuts
cuts_at : System → ℕ → List Cut
cuts_at sys p = Present ∷ map (λ f. At f) (fronts_of (bounds_of sys.flow p))

in-cuts : (sys : System) (state : Machine) (lost : ℕ → Bool) (p : ℕ) (x : Cut) → Offered sys state lost p x → IsIn x (cuts_at sys p)
unfolding cuts_at IsIn
in-cuts sys state lost p Present o = inl refl
in-cuts sys state lost p (At f) o = inr (in-map (λ g. At g) f (fronts_of (bounds_of sys.flow p)) (in-fronts (bounds_of sys.flow p) f o.0))

-- of offered cuts with a property that is decided and that unions keep there is a greatest one, if there is one at all
greatest-offered : (sys : System) (state : Machine) (lost : ℕ → Bool) → AreCheckpointsChains sys state lost kept → (p : ℕ) → p < length sys.flow.nodes
    → (P : Cut → Type 0) → ((x : Cut) → Decided (P x)) → ((x y z : Cut) → IsUnionOfCuts sys p x y z → P x → P y → P z) → (one : Cut) → Offered sys state lost p one → P one
    → (top : Cut) × Offered sys state lost p top × P top × ((x : Cut) → Offered sys state lost p x → P x → IsCutWithin sys.flow p x top)
greatest-offered sys state lost chains p l P decided keeps one offered k =
    let O : Cut → Type 0 = λ x. Offered sys state lost p x × P x in
    let g = greatest-in O (λ x y. IsCutWithin sys.flow p x y) (λ x. decided-and (candidate-decided sys state lost kept p x) (decided x)) (cut-itself sys p) (cut-along sys p) both (cuts_at sys p) one (offered, k) in
    (g.0, g.1.0, g.1.1, λ x o j. each-in (λ y. O y → IsCutWithin sys.flow p y g.0) x (cuts_at sys p) (in-cuts sys state lost p x o) g.3 (o, j))
  where
    both : (x y : Cut) → Offered sys state lost p x × P x → Offered sys state lost p y × P y
        → (z : Cut) × (Offered sys state lost p z × P z) × IsCutWithin sys.flow p x z × IsCutWithin sys.flow p y z
    both x y i j =
        let u = some_union sys p x y in (
          u.0,
          (candidates-union sys state lost kept p x y u.0 i.0 j.0 u.1 (λ e. chains p x y l e i.0 j.0), keeps x y u.0 u.1 i.1 j.1),
          first-within sys p x y u.0 u.1,
          second-within sys p x y u.0 u.1,
        )

-- ---- the beginning

pub set-frontier : (flow : Dataflow) (p : ℕ) (x : Cut) → IsFrontier (bounds_of flow p) (set_of flow p x)
set-frontier flow p Present = record { inside_domain = λ t i. i; closed = λ s t d l i. d }
set-frontier flow p (At f) = frontier-closed (bounds_of flow p) f

pub beginning-exists : (sys : System) (state : Machine) (lost : ℕ → Bool) → AreCheckpointsChains sys state lost kept → (choice : Choice)
    → IsConsistent sys state (IsCandidate sys state lost kept) choice → (start : Choice) × IsBeginning sys.flow (IsCandidate sys state lost kept) start
beginning-exists sys state lost chains choice k =
    let n = length sys.flow.nodes in
    let cuts = list_of-places (IsGreatestOffered sys.flow (IsCandidate sys state lost kept)) Present n greatest in
    let notices = list_of-places (λ p f. IsFrontOf (bounds_of sys.flow p) f (set_of sys.flow p (cut_of (record { cuts = cuts.0; notices = [] }) p))) [] n
    (λ p l. has_front (bounds_of sys.flow p) (set_of sys.flow p (cut_of (record { cuts = cuts.0; notices = [] }) p)) (set-frontier sys.flow p (cut_of (record { cuts = cuts.0; notices = [] }) p))) in (
      record { cuts = cuts.0; notices = notices.0 },
      record { one_cut_each = cuts.1; one_notice_each = notices.1; cuts = cuts.2; notices = notices.2 },
    )
  where
    greatest : (p : ℕ) → p < length sys.flow.nodes → (x : Cut) × IsGreatestOffered sys.flow (IsCandidate sys state lost kept) p x
    greatest p l =
        let g = greatest-offered sys state lost chains p l (λ x. Unit {0}) (λ x. inl tt) (λ x y z w i j. tt) (cut_of choice p) (k.offered p l) tt in
        (g.0, record { offered = g.1; greatest = λ x o. g.3 x o tt })

-- ---- the greatest value left

-- what is left of a cut lies within it, and has its side in what it has to lie in
abbrev IsLow : System → Machine → Choice → Side → Cut → Type 0
IsLow sys state now side x =
    IsCutWithin sys.flow (owner sys.flow side) x (cut_of now (owner sys.flow side))
    × Within (left_of (covers_in sys state) side x) (right_of sys.flow (covers_in sys state) side now)

low-decided : (sys : System) (state : Machine) (now : Choice) (side : Side) (x : Cut) → Decided (IsLow sys state now side x)
low-decided sys state now side x =
    decided-and (cut_within-decided sys (owner sys.flow side) x (cut_of now (owner sys.flow side)))
    (left-decided sys state side x (right_of sys.flow (covers_in sys state) side now))

low-union : (sys : System) (state : Machine) (now : Choice) (side : Side) (x y z : Cut) → IsUnionOfCuts sys (owner sys.flow side) x y z → IsLow sys state now side x → IsLow sys state now side y
    → IsLow sys state now side z
low-union sys state now side x y z w i j =
    let left = left_of (covers_in sys state) side in (
      union-within sys (owner sys.flow side) x y z (cut_of now (owner sys.flow side)) w i.0 j.0,
      joined (left z) (left x) (left y) (right_of sys.flow (covers_in sys state) side now) (left-union sys state side x y z w) i.1 j.1,
    )

-- of a cut
cut-left : (sys : System) (state : Machine) (lost : ℕ → Bool) → AreCheckpointsChains sys state lost kept → IsWellFormed sys.flow → (now : Choice) (side : Side)
    → IsInclusionOf sys.flow (OfCut side) → (one : Cut) → IsCutLeft sys.flow (covers_in sys state) (IsCandidate sys state lost kept) now side one
    → (top : Cut) × IsGreatestLeft sys.flow (covers_in sys state) (IsCandidate sys state lost kept) now (OfCut side) top
cut-left sys state lost chains well now side there one k =
    let g = greatest-offered sys state lost chains (owner sys.flow side) (owner-there sys.flow side well there) (IsLow sys state now side) (low-decided sys state now side) (low-union sys state now side) one k.offered (k.within, k.meets) in (
      g.0,
      record {
        left = record { offered = g.1; within = g.2.0; meets = g.2.1 };
        greatest = λ x j. g.3 x j.offered (j.within, j.meets);
      },
    )

limit-frontier : (sys : System) (state : Machine) (now : Choice) (limit : Limit) → IsWellFormed sys.flow → IsLimitIn sys.flow limit
    → IsFrontier (bounds_of sys.flow (note_node sys.flow limit)) (limit_of sys.flow (covers_in sys state) limit now)
unfolding bounds_of
limit-frontier sys state now (Own p) well there = set-frontier sys.flow p (cut_of now p)
limit-frontier sys state now (Note d) well there =
    let q = sender sys.flow d in
    let notice = frontier_of (bounds_of sys.flow q) (front_of now.notices q) in
    subst (λ b. IsFrontier b ((covers_in sys state).arrived d notice)) (ap (bounds_of_domain sys.flow) (well.domains d there))
    (phi-frontier sys (events state.history) d notice (frontier-closed (bounds_of sys.flow q) (front_of now.notices q)))

-- of a notification frontier: what is inside it and inside its limit
note-left : (sys : System) (state : Machine) (lost : ℕ → Bool) → IsWellFormed sys.flow → (now : Choice) (limit : Limit) → IsLimitIn sys.flow limit
    → (top : Cut) × IsGreatestLeft sys.flow (covers_in sys state) (IsCandidate sys state lost kept) now (OfNote limit) top
note-left sys state lost well now limit there =
    let p = note_node sys.flow limit in
    let b = bounds_of sys.flow p in
    let notice = notice_of sys.flow now p in
    let right = limit_of sys.flow (covers_in sys state) limit now in
    let m = has_front b (meet notice right) (meet-frontier b notice right (frontier-closed b (front_of now.notices p)) (limit-frontier sys state now limit well there)) in (
      At m.0,
      record {
        left = record {
          canonical = m.1.canonical;
          within = λ t i. (and_parts (notice t) (right t) (sym (m.1.same t) ∙ i)).0;
          meets = λ t i. (and_parts (notice t) (right t) (sym (m.1.same t) ∙ i)).1;
        };
        greatest = most m.0 m.1.same;
      },
    )
  where
    most : (f : Front) → ((t : Stamp) → frontier_of (bounds_of sys.flow (note_node sys.flow limit)) f t
        ≡ meet (notice_of sys.flow now (note_node sys.flow limit)) (limit_of sys.flow (covers_in sys state) limit now) t)
        → (x : Cut) → IsValueLeft sys.flow (covers_in sys state) (IsCandidate sys state lost kept) now (OfNote limit) x → IsCutWithin sys.flow (note_node sys.flow limit) x (At f)
    most f same Present k = absurd k
    most f same (At g) k = λ t i.
        same t ∙ and_from (notice_of sys.flow now (note_node sys.flow limit) t) (limit_of sys.flow (covers_in sys state) limit now t) (k.within t i) (k.meets t i)

-- values that enclose a consistent choice have a greatest one left for each inclusion
pub greatest-left : (sys : System) (state : Machine) (lost : ℕ → Bool) → AreCheckpointsChains sys state lost kept → IsWellFormed sys.flow → ArrivalsAreMonotone (covers_in sys state) → (choice : Choice)
    → IsConsistent sys state (IsCandidate sys state lost kept) choice → (now : Choice) → Encloses sys.flow (covers_in sys state) (IsCandidate sys state lost kept) now
    → (i : Inclusion) → IsInclusionOf sys.flow i → (top : Cut) × IsGreatestLeft sys.flow (covers_in sys state) (IsCandidate sys state lost kept) now i top
greatest-left sys state lost chains well grows choice k now r (OfCut side) there =
    cut-left sys state lost chains well now side there (cut_of choice (owner sys.flow side))
    (left-consistent sys.flow (covers_in sys state) (IsCandidate sys state lost kept) (OfCut side) now choice well grows there r k)
greatest-left sys state lost chains well grows choice k now r (OfNote limit) there = note-left sys state lost well now limit there
