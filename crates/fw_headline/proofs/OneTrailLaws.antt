-- There is at most one trail from what is offered, where that is canonical.
use Rattle.std.proofs.Common.{◌≡◌, ℕ, ◌<◌, List, [], ◌∷◌, ◌++◌, length, refl, sym, ap, subst, ◌∙◌}
use Rattle.std.specs.List.{AllByRecursion}
use Rattle.fw_lemmas.proofs.Each.{each-suffix}
use Rattle.fw_frontier.specs.Front.{IsFrontOf}
use Rattle.fw_frontier.proofs.NamesLaws.{names-same}
use Rattle.fw_flow.specs.declared.choice.Choice.{Choice}
use Rattle.fw_flow.specs.declared.choice.Cut.{Cut}
use Rattle.fw_flow.specs.declared.choice.Cut.TheVariants.{Present, At}
use Rattle.fw_flow.specs.declared.side.Inclusion.{Inclusion}
use Rattle.fw_flow.specs.declared.side.Inclusion.TheVariants.{OfCut, OfNote}
use Rattle.fw_flow.specs.declared.trail.Lowering.{Lowering}
use Rattle.fw_flow.specs.Dataflow.{Dataflow, bounds_of}
use Rattle.fw_headline.specs.LawsOfTrails.{TrailOfStateIsOne}
use Rattle.fw_headline.proofs.LoweredLaws.{IsCanonicalOffer}
use Rattle.fw_headline.proofs.TrailLaws.{candidates-canonical}
use Rattle.fw_model.specs.Certificates.{IsBeginning, IsTrailBy}
use Rattle.fw_model.specs.Choice.{kept, cut_of, IsCandidate, IsCanonicalCut}
use Rattle.fw_model.specs.Covers.{Covers, covers_in, set_of}
use Rattle.fw_model.specs.Inclusions.{Holds, node_of, owner, inclusions}
use Rattle.fw_model.specs.Lowerings.{choice_of, IsFirstFailing, IsGreatestLeft, IsValueLeft, with_value, lowering_of, IsLoweredBy, Leads}
use Rattle.fw_model.specs.Machine.{front_of}
use Rattle.fw_model.proofs.InclusionLaws.{cuts-same, same_each}

left-canonical : (flow : Dataflow) (covers : Covers) (offers : ℕ → Cut → Type 0) → IsCanonicalOffer flow offers → (choice : Choice) (i : Inclusion) (x : Cut)
    → IsValueLeft flow covers offers choice i x → IsCanonicalCut (bounds_of flow (node_of flow i)) x
left-canonical flow covers offers c choice (OfCut side) x left = c (owner flow side) x left.offered
left-canonical flow covers offers c choice (OfNote limit) Present left = absurd left
left-canonical flow covers offers c choice (OfNote limit) (At f) left = left.canonical

-- the first of a list that fails is one
first-same : {A : Type 0} (P : A → Type 0) (xs : List A) (i : A) (us : List A) (ys : List A) (j : A) (vs : List A) → xs ++ i ∷ us ≡ ys ++ j ∷ vs
    → AllByRecursion P xs → (P i → ⊥) → AllByRecursion P ys → (P j → ⊥) → i ≡ j
first-same P [] i us [] j vs e h f k g = cc
first-same P [] i us (y ∷ ys) j vs e h f k g = let s : y ≡ i = cc in absurd (f (subst P s k.0))
first-same P (x ∷ xs) i us [] j vs e h f k g = let s : x ≡ j = cc in absurd (g (subst P s h.0))
first-same P (x ∷ xs) i us (y ∷ ys) j vs e h f k g = first-same P xs i us ys j vs (cc) h.1 f k.1 g

greatest-one : (flow : Dataflow) (covers : Covers) (offers : ℕ → Cut → Type 0) → IsCanonicalOffer flow offers → (choice : Choice) (i : Inclusion) (x y : Cut)
    → IsGreatestLeft flow covers offers choice i x → IsGreatestLeft flow covers offers choice i y → x ≡ y
greatest-one flow covers offers c choice i x y k l =
    cuts-same flow (node_of flow i) x y (left-canonical flow covers offers c choice i x k.left) (left-canonical flow covers offers c choice i y l.left) (l.greatest x k.left) (k.greatest y l.left)

lowered-one : (flow : Dataflow) (covers : Covers) (offers : ℕ → Cut → Type 0) → IsCanonicalOffer flow offers → (choice : Choice) (l m : Lowering) (a b : Choice)
    → IsLoweredBy flow covers offers choice l a → IsLoweredBy flow covers offers choice m b → (l ≡ m) × (a ≡ b)
lowered-one flow covers offers c choice l m a b k j =
    let i = k.inclusion in
    let by : i ≡ j.inclusion =
    first-same (Holds flow covers choice) k.first.earlier i k.first.later j.first.earlier j.inclusion j.first.later (sym k.first.place ∙ j.first.place) k.first.hold k.first.fails j.first.hold j.first.fails in
    let to : l.to ≡ m.to = greatest-one flow covers offers c choice i l.to m.to k.greatest (subst (λ x. IsGreatestLeft flow covers offers choice x m.to) (sym by) j.greatest) in (
      k.told ∙ ap (lowering_of flow i) to ∙ ap (λ x. lowering_of flow x m.to) by ∙ sym j.told,
      k.with_it ∙ ap (with_value flow choice i) to ∙ ap (λ x. with_value flow choice x m.to) by ∙ sym j.with_it,
    )

none_fails : (flow : Dataflow) (covers : Covers) (choice : Choice) (i : Inclusion) → AllByRecursion (Holds flow covers choice) (inclusions flow)
    → IsFirstFailing flow covers choice i → ⊥
none_fails flow covers choice i all first =
    first.fails (each-suffix (Holds flow covers choice) first.earlier (i ∷ first.later) (subst (AllByRecursion (Holds flow covers choice)) first.place all)).0

leads-one : (flow : Dataflow) (covers : Covers) (offers : ℕ → Cut → Type 0) → IsCanonicalOffer flow offers → (choice : Choice) (ls ms : List Lowering) (a b : Choice)
    → Leads flow covers offers choice ls a → AllByRecursion (Holds flow covers a) (inclusions flow) → Leads flow covers offers choice ms b
    → AllByRecursion (Holds flow covers b) (inclusions flow) → (ls ≡ ms) × (a ≡ b)
leads-one flow covers offers c choice [] [] a b k h l g = (refl, sym k ∙ l)
leads-one flow covers offers c choice [] (m ∷ ms) a b k h (next, low, rest) g =
    absurd (none_fails flow covers choice low.inclusion (subst (λ x. AllByRecursion (Holds flow covers x) (inclusions flow)) (sym k) h) low.first)
leads-one flow covers offers c choice (l ∷ ls) [] a b (next, low, rest) h e g =
    absurd (none_fails flow covers choice low.inclusion (subst (λ x. AllByRecursion (Holds flow covers x) (inclusions flow)) (sym e) g) low.first)
leads-one flow covers offers c choice (l ∷ ls) (m ∷ ms) a b (next, low, rest) h (after, lower, more) g =
    let one = lowered-one flow covers offers c choice l m next after low lower in
    let tail = leads-one flow covers offers c next ls ms a b rest h (subst (λ x. Leads flow covers offers x ms b) (sym one.1) more) g in
    (ap (λ x. x ∷ ls) one.0 ∙ ap (λ xs. m ∷ xs) tail.0, tail.1)

beginning-one : (flow : Dataflow) (offers : ℕ → Cut → Type 0) → IsCanonicalOffer flow offers → (a b : Choice) → IsBeginning flow offers a → IsBeginning flow offers b → a ≡ b
beginning-one flow offers c a b s t =
    let cut : (p : ℕ) → p < length flow.nodes → cut_of a p ≡ cut_of b p = λ p l.
    cuts-same flow p (cut_of a p) (cut_of b p) (c p (cut_of a p) (s.cuts p l).offered) (c p (cut_of b p) (t.cuts p l).offered)
    ((t.cuts p l).greatest (cut_of a p) (s.cuts p l).offered) ((s.cuts p l).greatest (cut_of b p) (t.cuts p l).offered) in
    let cuts : a.cuts ≡ b.cuts = same_each a.cuts b.cuts (length flow.nodes) Present s.one_cut_each t.one_cut_each cut in
    let notices : a.notices ≡ b.notices = same_each a.notices b.notices (length flow.nodes) [] s.one_notice_each t.one_notice_each (λ p l.
    names-same (bounds_of flow p) (front_of a.notices p) (front_of b.notices p) (set_of flow p (cut_of a p)) (s.notices p l)
    (subst (λ x. IsFrontOf (bounds_of flow p) (front_of b.notices p) (set_of flow p x)) (sym (cut p l)) (t.notices p l))) in
    ap (λ xs. choice_of xs a.notices) cuts ∙ ap (choice_of b.cuts) notices

trails-one : (flow : Dataflow) (covers : Covers) (offers : ℕ → Cut → Type 0) → IsCanonicalOffer flow offers → (first second : List Lowering) (one two : Choice)
    → IsTrailBy flow covers offers first one → IsTrailBy flow covers offers second two → (first ≡ second) × (one ≡ two)
trails-one flow covers offers c first second one two a b =
    leads-one flow covers offers c a.start first second one two a.leads a.ends
    (subst (λ x. Leads flow covers offers x second two) (sym (beginning-one flow offers c a.start b.start a.begins b.begins)) b.leads) b.ends

pub trail_of_state-one : TrailOfStateIsOne
trail_of_state-one sys state lost first second one two a b =
    trails-one sys.flow (covers_in sys state) (IsCandidate sys state lost kept) (candidates-canonical sys state lost) first second one two a b
