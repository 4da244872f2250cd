-- Where some choice is consistent there is a largest one.
use Rattle.std.proofs.Common.{ℕ, ◌<◌, Bool, List, [], ◌∷◌, length, map, refl, inl, inr, arith}
use Rattle.std.specs.List.{AllByRecursion}
use Rattle.fw_lemmas.proofs.Each.{each-of_places}
use Rattle.fw_frontier.specs.Front.{Front, IsCanonical}
use Rattle.fw_flow.specs.declared.choice.Cut.{Cut}
use Rattle.fw_flow.specs.declared.choice.Cut.TheVariants.{Present, At}
use Rattle.fw_flow.specs.Dataflow.{System, bounds_of}
use Rattle.fw_model.specs.Machine.{Machine, front_of}
use Rattle.fw_flow.specs.declared.choice.Choice.{Choice}
use Rattle.fw_model.specs.Choice.{View, IsCandidate, cut_of, IsConsistent, IsCutWithin, IsChoiceWithin}
use Rattle.fw_model.specs.LawsOfExistence.{LargestChoiceExists}
use Rattle.fw_model.proofs.ChoiceLaws.{candidates-union, union-consistent, have-union, within-union}
use Rattle.fw_model.proofs.ConsistentLaws.{consistent-decided}
use Rattle.fw_model.proofs.ListedLaws.{IsIn, each-in, in-map, pairs_of, in-pairs, lists_of, in-lists, fronts_below, in-fronts_below}
use Rattle.fw_model.specs.Choosing.{AreCheckpointsChains}

-- ---- choices within choices

cut_within-refl : (sys : System) (p : ℕ) (x : Cut) → IsCutWithin sys.flow p x x
cut_within-refl sys p Present = tt
cut_within-refl sys p (At f) = λ t i. i

cut_within-trans : (sys : System) (p : ℕ) (x y z : Cut) → IsCutWithin sys.flow p x y → IsCutWithin sys.flow p y z → IsCutWithin sys.flow p x z
cut_within-trans sys p x y Present v w = tt
cut_within-trans sys p x Present (At h) v w = absurd w
cut_within-trans sys p Present (At g) (At h) v w = absurd v
cut_within-trans sys p (At f) (At g) (At h) v w = λ t i. w t (v t i)

within-refl : (sys : System) (x : Choice) → IsChoiceWithin sys.flow x x
within-refl sys x = record { cuts = λ p l. cut_within-refl sys p (cut_of x p); notices = λ p l t i. i }

pub within-trans : (sys : System) (x y z : Choice) → IsChoiceWithin sys.flow x y → IsChoiceWithin sys.flow y z → IsChoiceWithin sys.flow x z
within-trans sys x y z v w = record {
  cuts = λ p l. cut_within-trans sys p (cut_of x p) (cut_of y p) (cut_of z p) (v.cuts p l) (w.cuts p l);
  notices = λ p l t i. w.notices p l t (v.notices p l t i);
}

-- ---- the union of a list's consistent choices

-- the choice is consistent
abbrev Consistent : System → Machine → (ℕ → Bool) → View → Choice → Type 0
Consistent sys state lost view choice = IsConsistent sys state (IsCandidate sys state lost view) choice

-- a consistent choice that encloses another one, and each consistent one of the list
record EnclosesEach (sys : System) (state : Machine) (lost : ℕ → Bool) (view : View) (one : Choice) (cs : List Choice) (union : Choice) : Type 0 where
  pub consistent : Consistent sys state lost view union
  pub encloses : IsChoiceWithin sys.flow one union
  pub each : AllByRecursion (λ c. Consistent sys state lost view c → IsChoiceWithin sys.flow c union) cs

both : (sys : System) (state : Machine) (lost : ℕ → Bool) (view : View) → AreCheckpointsChains sys state lost view → (one other : Choice)
    → Consistent sys state lost view one → Consistent sys state lost view other
    → (union : Choice) × Consistent sys state lost view union × IsChoiceWithin sys.flow one union × IsChoiceWithin sys.flow other union
both sys state lost view chains one other a b =
    let u = have-union sys state lost view one other a b in
    let v = u.1 in
    let w = within-union sys one other u.0 v in (
      u.0,
      union-consistent sys state lost view one other u.0 a b v
          (λ p l. candidates-union sys state lost view p (cut_of one p) (cut_of other p) (cut_of u.0 p) (a.offered p l) (b.offered p l) (v.cuts p l)
          (λ e. chains p (cut_of one p) (cut_of other p) l e (a.offered p l) (b.offered p l))),
      w.0,
      w.1,
    )

gather : (sys : System) (state : Machine) (lost : ℕ → Bool) (view : View) → AreCheckpointsChains sys state lost view → (cs : List Choice) (one : Choice)
    → Consistent sys state lost view one → (union : Choice) × EnclosesEach sys state lost view one cs union
gather sys state lost view chains [] one a = (one, record { consistent = a; encloses = within-refl sys one; each = tt })
gather sys state lost view chains (c ∷ cs) one a = elim (consistent-decided sys state lost view c) [
  | inr n ↦
      let g = gather sys state lost view chains cs one a in
      let h = g.1 in
      (g.0, record { consistent = h.consistent; encloses = h.encloses; each = (λ k. absurd (n k), h.each) })
  | inl k ↦
      let u = both sys state lost view chains one c a k in
      let g = gather sys state lost view chains cs u.0 u.1 in
      let h = g.1 in (
        g.0,
        record {
          consistent = h.consistent;
          encloses = within-trans sys one u.0 g.0 u.2 h.encloses;
          each = (λ j. within-trans sys c u.0 g.0 u.3 h.encloses, h.each);
        },
      )
]

-- ---- the choices of a flow

-- the fronts of the nodes' domains
fronts : System → List Front
fronts sys = fronts_below (λ p. bounds_of sys.flow p) (length sys.flow.nodes)

-- the cuts to them
cuts_of : System → List Cut
cuts_of sys = Present ∷ map (λ f. At f) (fronts sys)

-- the choices of them
choices : System → List Choice
choices sys =
    pairs_of (λ cuts notices. record { cuts = cuts; notices = notices }) (lists_of (cuts_of sys) (length sys.flow.nodes)) (lists_of (fronts sys) (length sys.flow.nodes))

in-fronts : (sys : System) (p : ℕ) → p < length sys.flow.nodes → (f : Front) → IsCanonical (bounds_of sys.flow p) f → IsIn f (fronts sys)
unfolding fronts
in-fronts sys p l f c = in-fronts_below (λ q. bounds_of sys.flow q) (length sys.flow.nodes) p l f c

in-cuts : (sys : System) (state : Machine) (lost : ℕ → Bool) (view : View) (p : ℕ) → p < length sys.flow.nodes → (cut : Cut)
    → IsCandidate sys state lost view p cut → IsIn cut (cuts_of sys)
unfolding cuts_of IsIn
in-cuts sys state lost view p l Present i = inl refl
in-cuts sys state lost view p l (At f) i = inr (in-map (λ g. At g) f (fronts sys) (in-fronts sys p l f i.0))

in-choices : (sys : System) (state : Machine) (lost : ℕ → Bool) (view : View) (choice : Choice) → Consistent sys state lost view choice → IsIn choice (choices sys)
unfolding choices
in-choices sys state lost view choice a =
    let n = length sys.flow.nodes in
    in-pairs (λ cuts notices. record { cuts = cuts; notices = notices }) choice.cuts choice.notices (lists_of (cuts_of sys) n) (lists_of (fronts sys) n)
    (in-lists (cuts_of sys) choice.cuts n a.one_cut_each (each-of_places (λ x. IsIn x (cuts_of sys)) Present choice.cuts (λ p l.
    let k : p < n = omega (arith, a.one_cut_each) in
    in-cuts sys state lost view p k (cut_of choice p) (a.offered p k))))
    (in-lists (fronts sys) choice.notices n a.one_notice_each (each-of_places (λ x. IsIn x (fronts sys)) [] choice.notices (λ p l.
    let k : p < n = omega (arith, a.one_notice_each) in
    in-fronts sys p k (front_of choice.notices p) (a.canonical p k))))

pub largest-exists : LargestChoiceExists
largest-exists sys state lost view chains choice a =
    let g = gather sys state lost view chains (choices sys) choice a in
    let h = g.1 in (
      g.0,
      record {
        consistent = h.consistent;
        largest = λ other b. each-in (λ c. Consistent sys state lost view c → IsChoiceWithin sys.flow c g.0) other (choices sys) (in-choices sys state lost view other b) h.each b;
      },
    )
