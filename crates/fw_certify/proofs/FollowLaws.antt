-- Where the entries of a certificate lead: to one choice, of the dataflow.
use Rattle.std.proofs.Common.{◌≡◌, ◌⊎◌, ◌↔◌, ℕ, suc, ◌+◌, ◌<◌, ◌≤◌, Bool, false, List, [], ◌∷◌, ◌++◌, length, take, get_or, Some, zero, refl, sym, ap, subst, ◌∙◌, inl, inr, arith}
use Rattle.std.specs.Prelude.{slice_get}
use Rattle.std.specs.List.{AllByRecursion}
use Rattle.std.proofs.Math.Seq.{take-suc}
use Rattle.std.proofs.lemmas.List.{take_all}
use Rattle.fw_lemmas.proofs.Each.{each-weaker}
use Rattle.fw_frontier.specs.Front.{IsFrontOf}
use Rattle.fw_frontier.proofs.NamesLaws.{names-same}
use Rattle.fw_flow.specs.declared.choice.Choice.{Choice}
use Rattle.fw_flow.specs.declared.choice.Cut.{Cut}
use Rattle.fw_flow.specs.declared.choice.Cut.TheVariants.{Present}
use Rattle.fw_flow.specs.declared.choice.Offer.{Offer}
use Rattle.fw_flow.specs.declared.side.Side.{Side}
use Rattle.fw_flow.specs.declared.side.Side.TheVariants.{Delivered, Discarded, Notified}
use Rattle.fw_flow.specs.declared.side.Limit.TheVariants.{Own, Note}
use Rattle.fw_flow.specs.declared.side.Inclusion.{Inclusion}
use Rattle.fw_flow.specs.declared.side.Inclusion.TheVariants.{OfCut, OfNote}
use Rattle.fw_flow.specs.declared.trail.Lowering.{Lowering}
use Rattle.fw_flow.specs.Dataflow.{Dataflow, bounds_of}
use Rattle.fw_flow.specs.WellFormed.{IsWellFormed}
use Rattle.fw_model.specs.Machine.{front_of}
use Rattle.fw_model.specs.Choice.{cut_of, IsChoiceOf}
use Rattle.fw_model.specs.Covers.{Covers, set_of}
use Rattle.fw_model.specs.Inclusions.{Holds, IsInclusionOf, IsSideOfFlow, inclusions}
use Rattle.fw_model.specs.Lowerings.{choice_of, IsRightLowering, LeadRight}
use Rattle.fw_model.specs.Certificates.{IsBeginning, IsCertificate, IsDeadEnd}
use Rattle.fw_model.specs.Offers.{IsOffered, covers_of}
use Rattle.fw_model.proofs.InclusionLaws.{cuts-same, each-inclusion, inclusions-there, same_each}
use Rattle.fw_offers.proofs.OfferedLaws.{offered-canonical}
use Rattle.fw_certify.specs.Checked.{AreRightSoFar, HoldAtNode, HoldOnEdge, IsJudged, IsRightUpTo, IsVerdict}
use Rattle.fw_certify.specs.declared.checker.Verdict.{Verdict}
use Rattle.fw_certify.specs.declared.checker.Verdict.TheVariants.{Yes, No}
use Rattle.fw_certify.specs.LawsOfCertificates.{CertificateIsSaidYes}
use Rattle.fw_certify.specs.Followed.{IsNoneLeft, IsWrongAt}
use Rattle.fw_certify.proofs.JudgeLaws.{next-one}

-- ---- the beginning

pub beginning-of_flow : (flow : Dataflow) (offers : List Offer) (choice : Choice) → IsBeginning flow (IsOffered flow offers) choice → IsChoiceOf flow choice
beginning-of_flow flow offers choice b = record {
  one_cut_each = b.one_cut_each;
  one_notice_each = b.one_notice_each;
  cuts = λ p l. offered-canonical flow offers p (cut_of choice p) (b.cuts p l).offered;
  notices = λ p l. (b.notices p l).canonical;
}

beginning-one : (flow : Dataflow) (offers : List Offer) (a b : Choice) → IsBeginning flow (IsOffered flow offers) a → IsBeginning flow (IsOffered flow offers) b → a ≡ b
beginning-one flow offers a b s t =
    let cut : (p : ℕ) → p < length flow.nodes → cut_of a p ≡ cut_of b p = λ p l.
    cuts-same flow p (cut_of a p) (cut_of b p) (offered-canonical flow offers p (cut_of a p) (s.cuts p l).offered) (offered-canonical flow offers p (cut_of b p) (t.cuts p l).offered)
    ((t.cuts p l).greatest (cut_of a p) (s.cuts p l).offered) ((s.cuts p l).greatest (cut_of b p) (t.cuts p l).offered) in
    let cuts : a.cuts ≡ b.cuts = same_each a.cuts b.cuts (length flow.nodes) Present s.one_cut_each t.one_cut_each cut in
    let notices : a.notices ≡ b.notices = same_each a.notices b.notices (length flow.nodes) [] s.one_notice_each t.one_notice_each (λ p l.
    names-same (bounds_of flow p) (front_of a.notices p) (front_of b.notices p) (set_of flow p (cut_of a p)) (s.notices p l)
    (subst (λ c. IsFrontOf (bounds_of flow p) (front_of b.notices p) (set_of flow p c)) (sym (cut p l)) (t.notices p l))) in
    ap (λ xs. choice_of xs a.notices) cuts ∙ ap (choice_of b.cuts) notices

-- ---- the entries

leads-more : (flow : Dataflow) (covers : Covers) (offers : ℕ → Cut → Type 0) (start choice next : Choice) (ls : List Lowering) (l : Lowering)
    → LeadRight flow covers offers start ls choice → IsRightLowering flow covers offers choice l next → LeadRight flow covers offers start (ls ++ l ∷ []) next
leads-more flow covers offers start choice next [] l same low = subst (λ c. LeadRight flow covers offers c (l ∷ []) next) (sym same) (next, low, refl)
leads-more flow covers offers start choice next (m ∷ ls) l (mid, step, rest) low = (mid, step, leads-more flow covers offers mid choice next ls l rest low)

pub none-so_far : (flow : Dataflow) (offers : List Offer) (ls : List Lowering) (choice : Choice) → IsBeginning flow (IsOffered flow offers) choice
    → AreRightSoFar flow (covers_of flow offers) (IsOffered flow offers) (take 0 ls) choice
none-so_far flow offers ls choice b = record { start = choice; begins = b; leads = refl }

pub more-so_far : (flow : Dataflow) (offers : List Offer) (ls : List Lowering) (i : ℕ) (l : Lowering) (choice next : Choice) → i < length ls → l ≡ get_or ls i l
    → AreRightSoFar flow (covers_of flow offers) (IsOffered flow offers) (take i ls) choice → IsRightLowering flow (covers_of flow offers) (IsOffered flow offers) choice l next
    → AreRightSoFar flow (covers_of flow offers) (IsOffered flow offers) (take (i + 1) ls) next
more-so_far flow offers ls i l choice next there is s low =
    let n : i + 1 ≡ suc i = omega arith in
    let more : take (i + 1) ls ≡ take i ls ++ l ∷ [] = ap (λ k. take k ls) n ∙ take-suc ls i l there ∙ ap (λ y. take i ls ++ y ∷ []) (sym is) in
    subst (λ xs. AreRightSoFar flow (covers_of flow offers) (IsOffered flow offers) xs next) (sym more)
    (record { start = s.start; begins = s.begins; leads = leads-more flow (covers_of flow offers) (IsOffered flow offers) s.start choice next (take i ls) l s.leads low })

-- all of them
pub all-so_far : (flow : Dataflow) (offers : List Offer) (ls : List Lowering) (i : ℕ) (choice : Choice) → length ls ≤ i → AreRightSoFar flow (covers_of flow offers) (IsOffered flow offers) (take i ls) choice
    → AreRightSoFar flow (covers_of flow offers) (IsOffered flow offers) ls choice
all-so_far flow offers ls i choice l s = subst (λ xs. AreRightSoFar flow (covers_of flow offers) (IsOffered flow offers) xs choice) (take_all i ls l) s

-- where an entry is wrong
pub wrong-here : (flow : Dataflow) (offers : List Offer) (ls : List Lowering) (i : ℕ) (l : Lowering) (old new : Choice) (right : Bool) → slice_get ls i ≡ Some l → i < length ls → right ≡ false
    → AreRightSoFar flow (covers_of flow offers) (IsOffered flow offers) (take i ls) old → IsJudged flow offers l old new right → IsWrongAt flow offers ls i
wrong-here flow offers ls i l old new right is there e s j = record {
  before = there;
  mid = old;
  right = s;
  wrong = λ m next at low.
      let both : Some m ≡ Some l = sym at ∙ is in
      let same : m ≡ l = cc in
      j.refused e next (subst (λ x. IsRightLowering flow (covers_of flow offers) (IsOffered flow offers) old x next) same low);
}

-- ---- where they lead

leads-one : (flow : Dataflow) (offers : List Offer) (choice : Choice) (ls : List Lowering) (a b : Choice) → LeadRight flow (covers_of flow offers) (IsOffered flow offers) choice ls a
    → LeadRight flow (covers_of flow offers) (IsOffered flow offers) choice ls b → a ≡ b
leads-one flow offers choice [] a b e f = sym e ∙ f
leads-one flow offers choice (l ∷ ls) a b (next, low, rest) (other, step, more) =
    let same = next-one flow offers choice other next l step low in
    leads-one flow offers next ls a b rest (subst (λ c. LeadRight flow (covers_of flow offers) (IsOffered flow offers) c ls b) same more)

-- the entries that lead somewhere lead to one choice
so_far-one : (flow : Dataflow) (offers : List Offer) (ls : List Lowering) (a b : Choice) → AreRightSoFar flow (covers_of flow offers) (IsOffered flow offers) ls a
    → AreRightSoFar flow (covers_of flow offers) (IsOffered flow offers) ls b → a ≡ b
so_far-one flow offers ls a b s t =
    leads-one flow offers s.start ls a b s.leads
    (subst (λ c. LeadRight flow (covers_of flow offers) (IsOffered flow offers) c ls b) (beginning-one flow offers t.start s.start t.begins s.begins) t.leads)

-- entries that lead to the end lead to some choice before each of them, at which it is right
leads-at : (flow : Dataflow) (offers : List Offer) (choice : Choice) (ls : List Lowering) (end : Choice) (i : ℕ) (l : Lowering) → slice_get ls i ≡ Some l
    → LeadRight flow (covers_of flow offers) (IsOffered flow offers) choice ls end
    → (mid : Choice) × (next : Choice) × LeadRight flow (covers_of flow offers) (IsOffered flow offers) choice (take i ls) mid
    × IsRightLowering flow (covers_of flow offers) (IsOffered flow offers) mid l next
leads-at flow offers choice [] end i l e k = absurd (cc)
leads-at flow offers choice (m ∷ ls) end zero l e (next, low, rest) =
    let both : Some m ≡ Some l = e in
    let same : m ≡ l = cc in
    (choice, next, refl, subst (λ x. IsRightLowering flow (covers_of flow offers) (IsOffered flow offers) choice x next) same low)
leads-at flow offers choice (m ∷ ls) end (suc i) l e (next, low, rest) =
    let tail = leads-at flow offers next ls end i l e rest in
    (tail.0, tail.1, (next, low, tail.2), tail.3)

-- so where an entry is wrong, they lead nowhere
wrong-nowhere : (flow : Dataflow) (offers : List Offer) (ls : List Lowering) (i : ℕ) (end : Choice) → IsWrongAt flow offers ls i
    → AreRightSoFar flow (covers_of flow offers) (IsOffered flow offers) ls end → ⊥
wrong-nowhere flow offers ls i end w s =
    let l = slice_get-below ls i w.before in
    let at = leads-at flow offers s.start ls end i l.0 l.1 s.leads in
    let same = so_far-one flow offers (take i ls) at.0 w.mid (record { start = s.start; begins = s.begins; leads = at.2 }) w.right in
    w.wrong l.0 at.1 l.1 (subst (λ c. IsRightLowering flow (covers_of flow offers) (IsOffered flow offers) c l.0 at.1) same at.3)
  where
    slice_get-below : (xs : List Lowering) (i : ℕ) → i < length xs → (x : Lowering) × (slice_get xs i ≡ Some x)
    slice_get-below [] i k = absurd (omega arith)
    slice_get-below (x ∷ xs) zero k = (x, refl)
    slice_get-below (x ∷ xs) (suc i) k = slice_get-below xs i (omega arith)

-- ---- the end

-- all inclusions hold exactly where those of each edge and of each node do
pub each-holds : (flow : Dataflow) (offers : List Offer) (choice : Choice) → IsWellFormed flow → ((d : ℕ) → d < length flow.edges → HoldOnEdge flow offers choice d)
    → ((p : ℕ) → p < length flow.nodes → HoldAtNode flow offers choice p) → AllByRecursion (Holds flow (covers_of flow offers) choice) (inclusions flow)
each-holds flow offers choice well edges nodes =
    each-weaker (IsInclusionOf flow) (Holds flow (covers_of flow offers) choice) (inclusions flow) at (inclusions-there flow)
  where
    at : (i : Inclusion) → IsInclusionOf flow i → Holds flow (covers_of flow offers) choice i
    at (OfCut (Delivered d)) l = (edges d l).0
    at (OfCut (Discarded e)) l = (edges e l).1
    at (OfCut (Notified p)) l = (nodes p l).0
    at (OfNote (Own p)) l = (nodes p l).1
    at (OfNote (Note d)) l = (edges d l).2

pub on_edge-holds : (flow : Dataflow) (offers : List Offer) (choice : Choice) (d : ℕ) → IsWellFormed flow → AllByRecursion (Holds flow (covers_of flow offers) choice) (inclusions flow)
    → d < length flow.edges → HoldOnEdge flow offers choice d
on_edge-holds flow offers choice d well all l =
    let holds = each-inclusion flow (Holds flow (covers_of flow offers) choice) well all in
    (holds (OfCut (Delivered d)) l, holds (OfCut (Discarded d)) l, holds (OfNote (Note d)) l)

pub at_node-holds : (flow : Dataflow) (offers : List Offer) (choice : Choice) (p : ℕ) → IsWellFormed flow → AllByRecursion (Holds flow (covers_of flow offers) choice) (inclusions flow)
    → p < length flow.nodes → HoldAtNode flow offers choice p
at_node-holds flow offers choice p well all l =
    let holds = each-inclusion flow (Holds flow (covers_of flow offers) choice) well all in
    (holds (OfCut (Notified p)) l, holds (OfNote (Own p)) l)

-- ---- verdicts

pub verdict-wrong : (flow : Dataflow) (offers : List Offer) (ls : List Lowering) (choice : Choice) (at : ℕ) → IsWrongAt flow offers ls at
    → IsVerdict flow (covers_of flow offers) (IsOffered flow offers) ls choice (No at)
verdict-wrong flow offers ls choice at w = inl (record {
  first = let b = w.before in omega arith;
  start = w.right.start;
  begins = w.right.begins;
  mid = w.mid;
  leads = w.right.leads;
  wrong = w.wrong;
  end = λ e k. let b = w.before in absurd (omega arith);
})

pub verdict-end : (flow : Dataflow) (offers : List Offer) (ls : List Lowering) (choice mid : Choice) (n : ℕ) → n ≡ length ls
    → AreRightSoFar flow (covers_of flow offers) (IsOffered flow offers) ls mid
    → ((mid ≡ choice) × AllByRecursion (Holds flow (covers_of flow offers) mid) (inclusions flow) → ⊥) → IsVerdict flow (covers_of flow offers) (IsOffered flow offers) ls choice (No n)
verdict-end flow offers ls choice mid n is s none = inl (record {
  first = omega (arith, is);
  start = s.start;
  begins = s.begins;
  mid = mid;
  leads = subst (λ xs. LeadRight flow (covers_of flow offers) (IsOffered flow offers) s.start xs mid) (sym (take_all n ls (omega (arith, is)))) s.leads;
  wrong = λ l next at low. past ls n l (omega (arith, is)) at;
  end = λ e k. none k;
})
  where
    past : (xs : List Lowering) (i : ℕ) (l : Lowering) → length xs ≤ i → slice_get xs i ≡ Some l → ⊥
    past [] i l k e = cc
    past (x ∷ xs) zero l k e = absurd (omega arith)
    past (x ∷ xs) (suc i) l k e = past xs i l (omega arith) e

pub certificate-is : (flow : Dataflow) (offers : List Offer) (ls : List Lowering) (choice mid : Choice) → AreRightSoFar flow (covers_of flow offers) (IsOffered flow offers) ls mid → mid ≡ choice
    → AllByRecursion (Holds flow (covers_of flow offers) mid) (inclusions flow) → IsCertificate flow (covers_of flow offers) (IsOffered flow offers) ls choice
certificate-is flow offers ls choice mid s e holds =
    subst (IsCertificate flow (covers_of flow offers) (IsOffered flow offers) ls) e (record { start = s.start; begins = s.begins; leads = s.leads; ends = holds })

-- ---- dead ends

pub dead_end-nowhere : (flow : Dataflow) (offers : List Offer) (ls : List Lowering) (side : Side) → ((start : Choice) → IsBeginning flow (IsOffered flow offers) start → ⊥)
    → IsDeadEnd flow (covers_of flow offers) (IsOffered flow offers) ls side → ⊥
dead_end-nowhere flow offers ls side none d = none d.start d.begins

pub dead_end-wrong : (flow : Dataflow) (offers : List Offer) (ls : List Lowering) (side : Side) (at : ℕ) → IsWrongAt flow offers ls at
    → IsDeadEnd flow (covers_of flow offers) (IsOffered flow offers) ls side → ⊥
dead_end-wrong flow offers ls side at w d = wrong-nowhere flow offers ls at d.end w (record { start = d.start; begins = d.begins; leads = d.leads })

pub dead_end-is : (flow : Dataflow) (offers : List Offer) (ls : List Lowering) (side : Side) (end : Choice) → IsSideOfFlow flow side
    → AreRightSoFar flow (covers_of flow offers) (IsOffered flow offers) ls end
    → IsNoneLeft flow offers side end ↔ IsDeadEnd flow (covers_of flow offers) (IsOffered flow offers) ls side
dead_end-is flow offers ls side end there s = (
  λ none. record { start = s.start; begins = s.begins; end = end; leads = s.leads; of_flow = there; none = none },
  λ d. subst (IsNoneLeft flow offers side) (so_far-one flow offers ls d.end end (record { start = d.start; begins = d.begins; leads = d.leads }) s) d.none,
)

-- the one right verdict on a certificate is yes
pub certificate-yes : CertificateIsSaidYes
certificate-yes flow offers ls end verdict c v = by verdict v
  where
    so_far : AreRightSoFar flow (covers_of flow offers) (IsOffered flow offers) ls end
    so_far = record { start = c.start; begins = c.begins; leads = c.leads }

    stops : (at : ℕ) → IsRightUpTo flow (covers_of flow offers) (IsOffered flow offers) ls end at → (at < length ls) ⊎ (length ls ≤ at) → ⊥
    stops at u (inl before) =
        wrong-nowhere flow offers ls at end
        (record { before = before; mid = u.mid; right = record { start = u.start; begins = u.begins; leads = u.leads }; wrong = u.wrong }) so_far
    stops at u (inr past) =
        let same : u.mid ≡ end = so_far-one flow offers ls u.mid end
        (all-so_far flow offers ls at u.mid past (record { start = u.start; begins = u.begins; leads = u.leads })) so_far in
        u.end (let f = u.first in omega arith) (same, subst (λ m. AllByRecursion (Holds flow (covers_of flow offers) m) (inclusions flow)) (sym same) c.ends)

    either : (n m : ℕ) → (n < m) ⊎ (m ≤ n)
    either n zero = inr (omega arith)
    either zero (suc m) = inl (omega arith)
    either (suc n) (suc m) = elim (either n m) [
      | inl l ↦ inl (omega (arith, l))
      | inr l ↦ inr (omega (arith, l))
    ]

    by : (w : Verdict) → IsVerdict flow (covers_of flow offers) (IsOffered flow offers) ls end w → w ≡ Yes
    by Yes k = refl
    by (No at) (inl u) = absurd (stops at u (either at (length ls)))
    by (No at) (inr none) = absurd (none.1 c.start c.begins)
