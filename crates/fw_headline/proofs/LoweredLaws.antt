-- A right lowering leads to a choice within the one before, and not the other way round: of the choices of a dataflow fewer lie within it.
use Rattle.std.proofs.Common.{◌≡◌, ℕ, ◌<◌, List, [], ◌∷◌, length, map, sym, subst, inl, inr, refl, arith}
use Rattle.std.proofs.lemmas.List.{get_or-set_same}
use Rattle.fw_lemmas.proofs.Each.{each-of_places}
use Rattle.fw_frontier.specs.Frontier.{Within}
use Rattle.fw_frontier.specs.Front.{Front, frontier_of, IsCanonical}
use Rattle.fw_flow.specs.declared.choice.Choice.{Choice}
use Rattle.fw_flow.specs.declared.choice.Cut.{Cut}
use Rattle.fw_flow.specs.declared.choice.Cut.TheVariants.{Present, At}
use Rattle.fw_flow.specs.declared.side.Inclusion.{Inclusion}
use Rattle.fw_flow.specs.declared.side.Inclusion.TheVariants.{OfCut, OfNote}
use Rattle.fw_flow.specs.Dataflow.{System, Dataflow, bounds_of}
use Rattle.fw_flow.specs.WellFormed.{IsWellFormed}
use Rattle.fw_headline.proofs.GreatestLaws.{cut-itself}
use Rattle.fw_headline.proofs.ListLaws.{count, count-less}
use Rattle.fw_headline.proofs.WithinLaws.{choice_within-decided}
use Rattle.fw_model.proofs.EnclosesLaws.{Encloses}
use Rattle.fw_model.proofs.InclusionLaws.{cuts-same, node-there, owner-there, set_there}
use Rattle.fw_model.proofs.LargestLaws.{within-trans}
use Rattle.fw_model.proofs.ListedLaws.{IsIn, in-map, pairs_of, in-pairs, lists_of, in-lists, fronts_below, in-fronts_below}
use Rattle.fw_model.specs.Choice.{cut_of, notice_of, IsCanonicalCut, IsCutWithin, IsChoiceWithin}
use Rattle.fw_model.specs.Covers.{Covers}
use Rattle.fw_model.specs.Inclusions.{owner, note_node, left_of, right_of, Holds, IsInclusionOf}
use Rattle.fw_model.specs.Lowerings.{choice_of, IsGreatestLeft, with_value}
use Rattle.fw_model.specs.Machine.{front_of}

-- what is offered is canonical
abbrev pub IsCanonicalOffer : Dataflow → (ℕ → Cut → Type 0) → Type 0
IsCanonicalOffer flow offers = (p : ℕ) (x : Cut) → offers p x → IsCanonicalCut (bounds_of flow p) x

-- ---- within the one before, and not the other way round

lowered-within : (sys : System) (covers : Covers) (offers : ℕ → Cut → Type 0) (now : Choice) (i : Inclusion) (x : Cut) → IsWellFormed sys.flow → IsInclusionOf sys.flow i → Encloses sys.flow covers offers now
    → IsGreatestLeft sys.flow covers offers now i x → IsChoiceWithin sys.flow (with_value sys.flow now i x) now
lowered-within sys covers offers now (OfCut side) x well there r low =
    let one = r.one_cut_each in
    let l = owner-there sys.flow side well there in
    record {
      cuts = set_there (λ q d. IsCutWithin sys.flow q d (cut_of now q)) now.cuts (length sys.flow.nodes) (owner sys.flow side) x Present (omega arith) (λ q m. cut-itself sys q (cut_of now q)) low.left.within;
      notices = λ q m t i. i;
    }
lowered-within sys covers offers now (OfNote limit) Present well there r low = absurd low.left
lowered-within sys covers offers now (OfNote limit) (At f) well there r low =
    let one = r.one_notice_each in
    let l = node-there sys.flow (OfNote limit) well there in
    record {
      cuts = λ q m. cut-itself sys q (cut_of now q);
      notices = set_there (λ q g. Within (frontier_of (bounds_of sys.flow q) g) (notice_of sys.flow now q)) now.notices (length sys.flow.nodes) (note_node sys.flow limit) f [] (omega arith) (λ q m t i. i) low.left.within;
    }

-- if it lay within the next one, the inclusion would hold
not-back : (sys : System) (covers : Covers) (offers : ℕ → Cut → Type 0) → IsCanonicalOffer sys.flow offers → (now : Choice) (i : Inclusion) (x : Cut) → IsWellFormed sys.flow → IsInclusionOf sys.flow i
    → Encloses sys.flow covers offers now → IsGreatestLeft sys.flow covers offers now i x → IsChoiceWithin sys.flow now (with_value sys.flow now i x) → Holds sys.flow covers now i
not-back sys covers offers canonical now (OfCut side) x well there r low w =
    let one = r.one_cut_each in
    let p = owner sys.flow side in
    let l = owner-there sys.flow side well there in
    let back = subst (IsCutWithin sys.flow p (cut_of now p)) (get_or-set_same now.cuts p x Present (omega arith)) (w.cuts p l) in
    let same : cut_of now p ≡ x = cuts-same sys.flow p (cut_of now p) x (canonical p (cut_of now p) (r.offered p l)) (canonical p x low.left.offered) back low.left.within in
    subst (λ c. Within (left_of covers side c) (right_of sys.flow covers side now)) (sym same) low.left.meets
not-back sys covers offers canonical now (OfNote limit) Present well there r low w = absurd low.left
not-back sys covers offers canonical now (OfNote limit) (At f) well there r low w =
    let one = r.one_notice_each in
    let p = note_node sys.flow limit in
    let l = node-there sys.flow (OfNote limit) well there in
    let back = subst (λ g. Within (notice_of sys.flow now p) (frontier_of (bounds_of sys.flow p) g)) (get_or-set_same now.notices p f [] (omega arith)) (w.notices p l) in
    λ t i. low.left.meets t (back t i)

-- ---- how many choices lie within one

-- the fronts, the cuts and the choices of a dataflow
fronts : System → List Front
fronts sys = fronts_below (λ p. bounds_of sys.flow p) (length sys.flow.nodes)

cuts : System → List Cut
cuts sys = Present ∷ map (λ f. At f) (fronts sys)

choices : System → List Choice
choices sys = pairs_of choice_of (lists_of (cuts sys) (length sys.flow.nodes)) (lists_of (fronts sys) (length sys.flow.nodes))

in-fronts : (sys : System) (p : ℕ) → p < length sys.flow.nodes → (f : Front) → IsCanonical (bounds_of sys.flow p) f → IsIn f (fronts sys)
unfolding fronts
in-fronts sys p l f c = in-fronts_below (λ q. bounds_of sys.flow q) (length sys.flow.nodes) p l f c

in-cuts : (sys : System) (p : ℕ) → p < length sys.flow.nodes → (x : Cut) → IsCanonicalCut (bounds_of sys.flow p) x → IsIn x (cuts sys)
unfolding cuts IsIn
in-cuts sys p l Present c = inl refl
in-cuts sys p l (At f) c = inr (in-map (λ g. At g) f (fronts sys) (in-fronts sys p l f c))

in-choices : (sys : System) (covers : Covers) (offers : ℕ → Cut → Type 0) → IsCanonicalOffer sys.flow offers → (now : Choice) → Encloses sys.flow covers offers now → IsIn now (choices sys)
unfolding choices
in-choices sys covers offers canonical now r =
    let n = length sys.flow.nodes in
    in-pairs choice_of now.cuts now.notices (lists_of (cuts sys) n) (lists_of (fronts sys) n)
    (in-lists (cuts sys) now.cuts n r.one_cut_each (each-of_places (λ x. IsIn x (cuts sys)) Present now.cuts (λ p l.
    let k : p < n = omega (arith, r.one_cut_each) in
    in-cuts sys p k (cut_of now p) (canonical p (cut_of now p) (r.offered p k)))))
    (in-lists (fronts sys) now.notices n r.one_notice_each (each-of_places (λ f. IsIn f (fronts sys)) [] now.notices (λ p l.
    let k : p < n = omega (arith, r.one_notice_each) in
    in-fronts sys p k (front_of now.notices p) (r.notices p k))))

pub size_of : System → Choice → ℕ
size_of sys now = count (λ c. IsChoiceWithin sys.flow c now) (λ c. choice_within-decided sys c now) (choices sys)

-- a lowering for an inclusion that fails makes it less
pub lowered-less : (sys : System) (covers : Covers) (offers : ℕ → Cut → Type 0) → IsCanonicalOffer sys.flow offers → (now : Choice) (i : Inclusion) (x : Cut) → IsWellFormed sys.flow → IsInclusionOf sys.flow i
    → Encloses sys.flow covers offers now → (Holds sys.flow covers now i → ⊥) → IsGreatestLeft sys.flow covers offers now i x → size_of sys (with_value sys.flow now i x) < size_of sys now
unfolding size_of
lowered-less sys covers offers canonical now i x well there r fails low =
    let next = with_value sys.flow now i x in
    let w = lowered-within sys covers offers now i x well there r low in
    count-less (λ c. IsChoiceWithin sys.flow c next) (λ c. IsChoiceWithin sys.flow c now) (λ c. choice_within-decided sys c next) (λ c. choice_within-decided sys c now) (choices sys)
    (λ c v. within-trans sys c next now v w) now (in-choices sys covers offers canonical now r)
    (λ back. fails (not-back sys covers offers canonical now i x well there r low back))
    (record { cuts = λ p l. cut-itself sys p (cut_of now p); notices = λ p l t j. j })
