-- There is at most one trail.
use Rattle.std.proofs.Common.{◌≡◌, ℕ, ◌<◌, List, [], ◌∷◌, ◌++◌, length, refl, sym, ap, subst, ◌∙◌}
use Rattle.std.specs.List.{AllByRecursion}
use Rattle.fw_lemmas.proofs.Each.{each-suffix}
use Rattle.fw_frontier.specs.Front.{IsFrontOf}
use Rattle.fw_frontier.proofs.NamesLaws.{names-same}
use Rattle.fw_flow.specs.declared.choice.Choice.{Choice}
use Rattle.fw_flow.specs.declared.choice.Cut.{Cut}
use Rattle.fw_flow.specs.declared.choice.Cut.TheVariants.{Present}
use Rattle.fw_flow.specs.declared.choice.Offer.{Offer}
use Rattle.fw_flow.specs.declared.trail.Lowering.{Lowering}
use Rattle.fw_flow.specs.Dataflow.{Dataflow, bounds_of}
use Rattle.fw_model.specs.Machine.{front_of}
use Rattle.fw_model.specs.Choice.{cut_of}
use Rattle.fw_model.specs.Covers.{set_of}
use Rattle.fw_flow.specs.declared.side.Inclusion.{Inclusion}
use Rattle.fw_model.specs.Lowerings.{choice_of, IsFirstFailing, IsGreatestLeft, with_value, lowering_of, IsLoweredBy, Leads}
use Rattle.fw_monitor.specs.Descent.{HasConsistent, IsGreatest}
use Rattle.fw_model.specs.Inclusions.{Holds, node_of, inclusions}
use Rattle.fw_monitor.specs.Trail.{IsStart, TrailIsOne}
use Rattle.fw_model.specs.Offers.{IsOffered, covers_of}
use Rattle.fw_model.proofs.InclusionLaws.{cuts-same, same_each}
use Rattle.fw_offers.proofs.OfferedLaws.{left-canonical}

-- the first of a list that fails is one
first-same : {A : Type 0} (P : A → Type 0) (xs : List A) (i : A) (us : List A) (ys : List A) (j : A) (vs : List A) → xs ++ i ∷ us ≡ ys ++ j ∷ vs
    → AllByRecursion P xs → (P i → ⊥) → AllByRecursion P ys → (P j → ⊥) → i ≡ j
first-same P [] i us [] j vs e h f k g = cc
first-same P [] i us (y ∷ ys) j vs e h f k g = let s : y ≡ i = cc in absurd (f (subst P s k.0))
first-same P (x ∷ xs) i us [] j vs e h f k g = let s : x ≡ j = cc in absurd (g (subst P s h.0))
first-same P (x ∷ xs) i us (y ∷ ys) j vs e h f k g = first-same P xs i us ys j vs (cc) h.1 f k.1 g

greatest-one : (flow : Dataflow) (offers : List Offer) (choice : Choice) (i : Inclusion) (x y : Cut) → IsGreatestLeft flow (covers_of flow offers) (IsOffered flow offers) choice i x → IsGreatestLeft flow (covers_of flow offers) (IsOffered flow offers) choice i y → x ≡ y
greatest-one flow offers choice i x y k l =
    cuts-same flow (node_of flow i) x y (left-canonical flow offers choice i x k.left) (left-canonical flow offers choice i y l.left) (l.greatest x k.left) (k.greatest y l.left)

lowered-one : (flow : Dataflow) (offers : List Offer) (choice : Choice) (l m : Lowering) (a b : Choice) → IsLoweredBy flow (covers_of flow offers) (IsOffered flow offers) choice l a → IsLoweredBy flow (covers_of flow offers) (IsOffered flow offers) choice m b → (l ≡ m) × (a ≡ b)
lowered-one flow offers choice l m a b k j =
    let i = k.inclusion in
    let by : i ≡ j.inclusion =
    first-same (Holds flow (covers_of flow offers) choice) k.first.earlier i k.first.later j.first.earlier j.inclusion j.first.later (sym k.first.place ∙ j.first.place) k.first.hold k.first.fails j.first.hold j.first.fails in
    let to : l.to ≡ m.to = greatest-one flow offers choice i l.to m.to k.greatest (subst (λ x. IsGreatestLeft flow (covers_of flow offers) (IsOffered flow offers) choice x m.to) (sym by) j.greatest) in (
      k.told ∙ ap (lowering_of flow i) to ∙ ap (λ x. lowering_of flow x m.to) by ∙ sym j.told,
      k.with_it ∙ ap (with_value flow choice i) to ∙ ap (λ x. with_value flow choice x m.to) by ∙ sym j.with_it,
    )

none_fails : (flow : Dataflow) (offers : List Offer) (choice : Choice) (i : Inclusion) → AllByRecursion (Holds flow (covers_of flow offers) choice) (inclusions flow) → IsFirstFailing flow (covers_of flow offers) choice i → ⊥
none_fails flow offers choice i all first =
    first.fails (each-suffix (Holds flow (covers_of flow offers) choice) first.earlier (i ∷ first.later) (subst (AllByRecursion (Holds flow (covers_of flow offers) choice)) first.place all)).0

leads-one : (flow : Dataflow) (offers : List Offer) (choice : Choice) (ls ms : List Lowering) (a b : Choice) → Leads flow (covers_of flow offers) (IsOffered flow offers) choice ls a → AllByRecursion (Holds flow (covers_of flow offers) a) (inclusions flow)
    → Leads flow (covers_of flow offers) (IsOffered flow offers) choice ms b → AllByRecursion (Holds flow (covers_of flow offers) b) (inclusions flow) → (ls ≡ ms) × (a ≡ b)
leads-one flow offers choice [] [] a b k h l g = (refl, sym k ∙ l)
leads-one flow offers choice [] (m ∷ ms) a b k h (next, low, rest) g =
    absurd (none_fails flow offers choice low.inclusion (subst (λ c. AllByRecursion (Holds flow (covers_of flow offers) c) (inclusions flow)) (sym k) h) low.first)
leads-one flow offers choice (l ∷ ls) [] a b (next, low, rest) h e g =
    absurd (none_fails flow offers choice low.inclusion (subst (λ c. AllByRecursion (Holds flow (covers_of flow offers) c) (inclusions flow)) (sym e) g) low.first)
leads-one flow offers choice (l ∷ ls) (m ∷ ms) a b (next, low, rest) h (after, lower, more) g =
    let one = lowered-one flow offers choice l m next after low lower in
    let tail = leads-one flow offers next ls ms a b rest h (subst (λ c. Leads flow (covers_of flow offers) (IsOffered flow offers) c ms b) (sym one.1) more) g in
    (ap (λ x. x ∷ ls) one.0 ∙ ap (λ xs. m ∷ xs) tail.0, tail.1)

-- the start is one, if there is a consistent choice
cut-one : (flow : Dataflow) (offers : List Offer) (p : ℕ) (c d : Cut) → HasConsistent flow offers → p < length flow.nodes → IsGreatest flow offers p c → IsGreatest flow offers p d → c ≡ d
cut-one flow offers p c d has l a b =
    let o = has.1.1.offered p l in
    let x = cut_of has.1.0 p in
    cuts-same flow p c d a.canonical b.canonical (b.largest has.0 c (a.largest has.0 x o).0).1 (a.largest has.0 d (b.largest has.0 x o).0).1

start-one : (flow : Dataflow) (offers : List Offer) (a b : Choice) → HasConsistent flow offers → IsStart flow offers a → IsStart flow offers b → a ≡ b
start-one flow offers a b has s t =
    let cut : (p : ℕ) → p < length flow.nodes → cut_of a p ≡ cut_of b p = λ p l. cut-one flow offers p (cut_of a p) (cut_of b p) has l (s.cuts p l) (t.cuts p l) in
    let cuts : a.cuts ≡ b.cuts = same_each a.cuts b.cuts (length flow.nodes) Present s.one_cut_each t.one_cut_each cut in
    let notices : a.notices ≡ b.notices = same_each a.notices b.notices (length flow.nodes) [] s.one_notice_each t.one_notice_each (λ p l.
    names-same (bounds_of flow p) (front_of a.notices p) (front_of b.notices p) (set_of flow p (cut_of a p)) (s.notices p l)
    (subst (λ c. IsFrontOf (bounds_of flow p) (front_of b.notices p) (set_of flow p c)) (sym (cut p l)) (t.notices p l))) in
    ap (λ xs. choice_of xs a.notices) cuts ∙ ap (choice_of b.cuts) notices

pub trail-one : TrailIsOne
trail-one flow offers first second one two has a b =
    leads-one flow offers a.start first second one two a.leads a.ends (subst (λ c. Leads flow (covers_of flow offers) (IsOffered flow offers) c second two) (sym (start-one flow offers a.start b.start has a.starts b.starts)) b.leads) b.ends
