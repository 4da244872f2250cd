-- What `choose` and `verify` find, as their code finds it.
use Rattle.std.proofs.Common.{◌≡◌, ◌↔◌, ℕ, ◌+◌, ◌<◌, ◌==◌, Bool, true, false, cond, List, [], ◌∷◌, ◌++◌, length, Option, Some, None, refl, sym, ap, subst, ◌∙◌, inl, inr, arith, append_assoc, codes}
use Rattle.std.specs.Fmt.{decimal}
use Rattle.std.specs.Prelude.{slice_get}
use Rattle.std.proofs.lemmas.Bool.{eqb-true}
use Rattle.std.proofs.lemmas.List.{take_all}
use Rattle.fw_lemmas.proofs.Numbers.{eqb-self}
use Rattle.fw_frontier.specs.Front.{Front}
use Rattle.fw_flow.specs.declared.choice.Choice.{Choice}
use Rattle.fw_flow.specs.declared.choice.Cut.{Cut}
use Rattle.fw_flow.specs.declared.choice.Offer.{Offer}
use Rattle.fw_flow.specs.declared.side.Side.{Side}
use Rattle.fw_flow.specs.declared.side.Side.TheVariants as side
use Rattle.fw_flow.specs.declared.side.Inclusion.TheVariants.{OfCut}
use Rattle.fw_flow.specs.declared.trail.Cause.{Cause}
use Rattle.fw_flow.specs.declared.trail.Cause.TheVariants as cause
use Rattle.fw_flow.specs.declared.trail.Lowering.{Lowering}
use Rattle.fw_flow.specs.Dataflow.{Dataflow, receiver, sender}
use Rattle.fw_flow.specs.WellFormed.{IsWellFormed}
use Rattle.fw_model.specs.Certificates.{IsCertificate, IsDeadEnd}
use Rattle.fw_model.specs.Choice.{cut_of}
use Rattle.fw_model.specs.Inclusions.{owner}
use Rattle.fw_model.specs.Lowerings.{LeadRight, cause_of, choice_of}
use Rattle.fw_model.specs.Offers.{IsOffered, RecordsAscend, covers_of}
use Rattle.fw_monitor.specs.Descent.{HasConsistent}
use Rattle.fw_monitor.specs.Finding.{IsFirstDeadEnd, IsLargestFound}
use Rattle.fw_monitor.specs.Trail.{IsTrail}
use Rattle.fw_monitor.proofs.FindingLaws.{dead_end-of}
use Rattle.fw_monitor.proofs.TrailEndLaws.{trail-by_offers}
use Rattle.fw_certify.specs.CertificateText.{certificate_line, down_lines}
use Rattle.fw_certify.specs.Checked.{IsVerdict}
use Rattle.fw_certify.specs.declared.checker.Verdict.{Verdict}
use Rattle.fw_certify.specs.declared.checker.Verdict.TheVariants.{Yes, No}
use Rattle.fw_certify.proofs.CertificateLaws.{certificate-largest, certificates-agree, dead_end-none, trail-certificate}
use Rattle.fw_certify.proofs.FollowLaws.{certificate-yes}
use Rattle.fw_offers_text.specs.declared.claim.Ending.TheVariants.{Largest, NoneLeft}
use Rattle.fw_choosing.specs.Choices.{IsBare, IsChosenText, IsDeadEndFor, IsNoChoiceText, IsNoneConsistent, IsNoneLeftAt, IsNotShownText, IsPlaceOfWrong, IsRightEnding, IsShownText, IsTrueEnding, choice_text, none_count_line, none_line, none_text, side_for, wrong_line}

-- ---- that there is none

-- where a node is bare no choice is consistent
pub bare-none : (flow : Dataflow) (offers : List Offer) (p : ℕ) → p < length flow.nodes → IsBare flow offers p → IsNoneConsistent flow offers
bare-none flow offers p l bare choice k = bare (cut_of choice p) (k.offered p l)

-- where no cut of a node is left no choice is consistent
pub none_left-none : (flow : Dataflow) (offers : List Offer) (ls : List Lowering) (p : ℕ) (by : Option Cause) → IsWellFormed flow → IsNoneLeftAt flow offers ls p by → IsNoneConsistent flow offers
none_left-none flow offers ls p None well (none, there, bare) = bare-none flow offers p there bare
none_left-none flow offers ls p (Some by) well d = λ choice k. dead_end-none flow offers ls d.side choice well d.dead_end k

-- ---- the notification frontiers

-- those of a choice of which there is a certificate are those of the descent
pub notices-one : (flow : Dataflow) (offers : List Offer) (trail ls : List Lowering) (found choice : Choice) → IsWellFormed flow → RecordsAscend flow offers → (HasConsistent flow offers → IsTrail flow offers trail found)
    → IsCertificate flow (covers_of flow offers) (IsOffered flow offers) ls choice → choice.notices ≡ found.notices
notices-one flow offers trail ls found choice well asc leads cert =
    let has : HasConsistent flow offers = (asc, (choice, (certificate-largest flow offers ls choice well cert).consistent)) in
    let by = trail-by_offers flow offers trail found has (leads has) in
    ap (λ (c : Choice). c.notices) (certificates-agree flow offers ls trail choice found well cert (trail-certificate flow offers trail found by))

-- ---- the place of what is wrong

past-get : {A : Type 0} (xs : List A) (x : A) → slice_get xs (length xs) ≡ Some x → ⊥
past-get [] x e = absurd (cc)
past-get (y ∷ xs) x e = past-get xs x e

pub place-yes : (flow : Dataflow) (offers : List Offer) (ls : List Lowering) (choice : Choice) → IsCertificate flow (covers_of flow offers) (IsOffered flow offers) ls choice → IsPlaceOfWrong flow offers ls (length ls)
place-yes flow offers ls choice c = inl (record {
  first = omega arith;
  start = c.start;
  begins = c.begins;
  mid = choice;
  leads = subst (λ xs. LeadRight flow (covers_of flow offers) (IsOffered flow offers) c.start xs choice) (sym (take_all (length ls) ls (omega arith))) c.leads;
  wrong = λ l next e r. past-get ls l e;
})

pub place-no : (flow : Dataflow) (offers : List Offer) (ls : List Lowering) (choice : Choice) (at : ℕ) → IsVerdict flow (covers_of flow offers) (IsOffered flow offers) ls choice (No at) → IsPlaceOfWrong flow offers ls at
place-no flow offers ls choice at (inl r) = inl (record { first = r.first; start = r.start; begins = r.begins; mid = r.mid; leads = r.leads; wrong = r.wrong })
place-no flow offers ls choice at (inr n) = inr n

-- ---- a claim of cuts

pub cuts-right : (flow : Dataflow) (offers : List Offer) (ls : List Lowering) (cuts : List Cut) (notices : List Front) → IsWellFormed flow → IsCertificate flow (covers_of flow offers) (IsOffered flow offers) ls (choice_of cuts notices)
    → IsRightEnding flow offers ls (Largest cuts) × IsTrueEnding flow offers (Largest cuts)
cuts-right flow offers ls cuts notices well cert = ((choice_of cuts notices, refl, cert), (choice_of cuts notices, refl, certificate-largest flow offers ls (choice_of cuts notices) well cert))

pub cuts-wrong : (flow : Dataflow) (offers : List Offer) (ls : List Lowering) (cuts : List Cut) (notices : List Front) (at : ℕ)
    → ((ms : List Lowering) (choice : Choice) → IsCertificate flow (covers_of flow offers) (IsOffered flow offers) ms choice → choice.notices ≡ notices)
    → IsVerdict flow (covers_of flow offers) (IsOffered flow offers) ls (choice_of cuts notices) (No at) → IsRightEnding flow offers ls (Largest cuts) → ⊥
cuts-wrong flow offers ls cuts notices at one verdict (choice, same, cert) =
    let whole : choice ≡ choice_of cuts notices = ap (λ xs. choice_of xs choice.notices) same ∙ ap (choice_of cuts) (one ls choice cert) in
    let yes = certificate-yes flow offers ls (choice_of cuts notices) (No at) (subst (IsCertificate flow (covers_of flow offers) (IsOffered flow offers) ls) whole cert) verdict in
    absurd (cc)

-- ---- a claim that no cut is left

side_for-told : (flow : Dataflow) (p : ℕ) (c : Cause) (s : Side) → side_for flow p c ≡ Some s → (p ≡ owner flow s) × (c ≡ cause_of (OfCut s))
side_for-told flow p (cause.Delivered d) s e = by (receiver flow d == p) refl e
  where
    by : (b : Bool) → (receiver flow d == p) ≡ b → cond b (Some (side.Delivered d)) None ≡ Some s → (p ≡ owner flow s) × (cause.Delivered d ≡ cause_of (OfCut s))
    by true k h =
        let same : side.Delivered d ≡ s = cc in
        subst (λ x. (p ≡ owner flow x) × (cause.Delivered d ≡ cause_of (OfCut x))) same (sym (eqb-true (receiver flow d) p k), refl)
    by false k h = absurd (cc)
side_for-told flow p (cause.Discarded e) s h = by (sender flow e == p) refl h
  where
    by : (b : Bool) → (sender flow e == p) ≡ b → cond b (Some (side.Discarded e)) None ≡ Some s → (p ≡ owner flow s) × (cause.Discarded e ≡ cause_of (OfCut s))
    by true k h =
        let same : side.Discarded e ≡ s = cc in
        subst (λ x. (p ≡ owner flow x) × (cause.Discarded e ≡ cause_of (OfCut x))) same (sym (eqb-true (sender flow e) p k), refl)
    by false k h = absurd (cc)
side_for-told flow p cause.Notified s e =
    let same : side.Notified p ≡ s = cc in
    subst (λ x. (p ≡ owner flow x) × (cause.Notified ≡ cause_of (OfCut x))) same (refl, refl)
side_for-told flow p cause.Own s e = absurd (cc)
side_for-told flow p (cause.Note d) s e = absurd (cc)

own_edge : (n p : ℕ) (s : Side) → p ≡ n → cond (n == p) (Some s) None ≡ Some s
own_edge n p s e = ap (λ b. cond b (Some s) None) (ap (λ q. n == q) e ∙ eqb-self n)

side_for-only : (flow : Dataflow) (p : ℕ) (c : Cause) (s : Side) → p ≡ owner flow s → c ≡ cause_of (OfCut s) → side_for flow p c ≡ Some s
side_for-only flow p c (side.Delivered d) e k = ap (side_for flow p) k ∙ own_edge (receiver flow d) p (side.Delivered d) e
side_for-only flow p c (side.Discarded d) e k = ap (side_for flow p) k ∙ own_edge (sender flow d) p (side.Discarded d) e
side_for-only flow p c (side.Notified q) e k = ap (side_for flow p) k ∙ ap (λ x. Some (side.Notified x)) e

pub dead_end-for : (flow : Dataflow) (offers : List Offer) (ls : List Lowering) (p : ℕ) (by : Cause) (s : Side) (b : Bool) → side_for flow p by ≡ Some s
    → ((b ≡ true) ↔ IsDeadEnd flow (covers_of flow offers) (IsOffered flow offers) ls s) → (b ≡ true) ↔ IsDeadEndFor flow offers ls p by
dead_end-for flow offers ls p by s b e test =
    let told = side_for-told flow p by s e in (
      λ h. record { side = s; node = told.0; cause = told.1; dead_end = test.0 h },
      λ d.
          let same : Some d.side ≡ Some s = sym (side_for-only flow p by d.side d.node d.cause) ∙ e in
          let one : d.side ≡ s = cc in
          test.1 (subst (IsDeadEnd flow (covers_of flow offers) (IsOffered flow offers) ls) one d.dead_end),
    )

pub no_side-for : (flow : Dataflow) (offers : List Offer) (ls : List Lowering) (p : ℕ) (by : Cause) → side_for flow p by ≡ None → (false ≡ true) ↔ IsDeadEndFor flow offers ls p by
no_side-for flow offers ls p by e = (λ h. absurd (cc), λ d. let same : None ≡ Some d.side = sym e ∙ side_for-only flow p by d.side d.node d.cause in absurd (cc))

-- ---- what is printed

pub largest-chosen : (flow : Dataflow) (offers : List Offer) (text : List ℕ) (trail : List Lowering) (choice : Choice) → IsLargestFound flow offers trail choice → text ≡ choice_text flow trail choice.cuts
    → IsChosenText flow offers text
largest-chosen flow offers text trail choice found printed = record { choice = choice; trail = trail; largest = found.largest; leads = found.leads; printed = printed }

pub bare-no_choice : (flow : Dataflow) (offers : List Offer) (text : List ℕ) (p : ℕ) → p < length flow.nodes → IsBare flow offers p → ((q : ℕ) → q < p → IsBare flow offers q → ⊥)
    → text ≡ none_text flow [] p None → IsNoChoiceText flow offers text
bare-no_choice flow offers text p there bare first printed =
    record { lowerings = []; node = p; by = None; found = (refl, there, bare, first); none_left = (refl, there, bare); none = bare-none flow offers p there bare; printed = printed }

pub dead_end-no_choice : (flow : Dataflow) (offers : List Offer) (text : List ℕ) (ls : List Lowering) (s : Side) (p : ℕ) (by : Cause) → IsWellFormed flow
    → IsFirstDeadEnd flow (covers_of flow offers) (IsOffered flow offers) ls s → p ≡ owner flow s → by ≡ cause_of (OfCut s) → text ≡ none_text flow ls p (Some by) → IsNoChoiceText flow offers text
dead_end-no_choice flow offers text ls s p by well d node cause printed =
    let left : IsNoneLeftAt flow offers ls p (Some by) = record { side = s; node = node; cause = cause; dead_end = dead_end-of flow (covers_of flow offers) (IsOffered flow offers) ls s d } in
    record {
      lowerings = ls;
      node = p;
      by = Some by;
      found = record { side = s; node = node; cause = cause; dead_end = d };
      none_left = left;
      none = none_left-none flow offers ls p (Some by) well left;
      printed = printed;
    }

pub cuts-shown : (flow : Dataflow) (offers : List Offer) (ls : List Lowering) (cuts : List Cut) (notices : List Front) (text : List ℕ) → IsWellFormed flow
    → IsVerdict flow (covers_of flow offers) (IsOffered flow offers) ls (choice_of cuts notices) Yes → text ≡ certificate_line (length ls)
    → IsShownText flow offers (record { lowerings = ls; ending = Largest cuts }) text
cuts-shown flow offers ls cuts notices text well verdict printed =
    let both = cuts-right flow offers ls cuts notices well verdict in
    record { right = both.0; so = both.1; printed = printed }

pub cuts-not_shown : (flow : Dataflow) (offers : List Offer) (ls : List Lowering) (cuts : List Cut) (notices : List Front) (at : ℕ) (text : List ℕ)
    → ((ms : List Lowering) (choice : Choice) → IsCertificate flow (covers_of flow offers) (IsOffered flow offers) ms choice → choice.notices ≡ notices)
    → IsVerdict flow (covers_of flow offers) (IsOffered flow offers) ls (choice_of cuts notices) (No at) → text ≡ wrong_line (length ls) at
    → IsNotShownText flow offers (record { lowerings = ls; ending = Largest cuts }) text
cuts-not_shown flow offers ls cuts notices at text one verdict printed =
    record { wrong = cuts-wrong flow offers ls cuts notices at one verdict; at = at; place = place-no flow offers ls (choice_of cuts notices) at verdict; printed = printed }

pub none-shown : (flow : Dataflow) (offers : List Offer) (ls : List Lowering) (p : ℕ) (by : Option Cause) (text : List ℕ) → IsWellFormed flow → IsNoneLeftAt flow offers ls p by → text ≡ none_count_line (length ls)
    → IsShownText flow offers (record { lowerings = ls; ending = NoneLeft p by }) text
none-shown flow offers ls p by text well left printed = record { right = left; so = none_left-none flow offers ls p by well left; printed = printed }

pub none-not_shown : (flow : Dataflow) (offers : List Offer) (ls : List Lowering) (p : ℕ) (by : Option Cause) (at : ℕ) (text : List ℕ) → (IsNoneLeftAt flow offers ls p by → ⊥) → IsPlaceOfWrong flow offers ls at
    → text ≡ wrong_line (length ls) at → IsNotShownText flow offers (record { lowerings = ls; ending = NoneLeft p by }) text
none-not_shown flow offers ls p by at text wrong place printed = record { wrong = wrong; at = at; place = place; printed = printed }

-- ---- how it is put together

none-bytes-at : (down none last : List ℕ) → down ++ (none ++ last) ≡ (down ++ none) ++ last
none-bytes-at down none last = sym (append_assoc down none last)

pub none-bytes : (flow : Dataflow) (trail : List Lowering) (p : ℕ) (by : Option Cause) (lines : List ℕ) (count : ℕ) → lines ≡ down_lines flow trail → count ≡ length trail
    → lines ++ (none_line flow p by ++ (codes "certificate " ++ (decimal count ++ codes " none\n"))) ≡ none_text flow trail p by
none-bytes flow trail p by lines count l n =
    ap (λ t. t ++ (none_line flow p by ++ (codes "certificate " ++ (decimal count ++ codes " none\n")))) l
    ∙ ap (λ k. down_lines flow trail ++ (none_line flow p by ++ (codes "certificate " ++ (decimal k ++ codes " none\n")))) n
    ∙ none-bytes-at (down_lines flow trail) (none_line flow p by) (none_count_line (length trail))

wrong-bytes-at : (n a d : List ℕ) → n ++ (codes " no at " ++ (a ++ d)) ≡ ((n ++ codes " no at ") ++ a) ++ d
wrong-bytes-at n a d = simp append_assoc

pub wrong-bytes : (count at : ℕ) → codes "certificate " ++ (decimal count ++ (codes " no at " ++ (decimal at ++ codes "\n"))) ≡ wrong_line count at
wrong-bytes count at = ap (λ t. codes "certificate " ++ t) (wrong-bytes-at (decimal count) (decimal at) (codes "\n"))

pub place-said_yes : (flow : Dataflow) (offers : List Offer) (ls entries : List Lowering) (choice : Choice) (v : Verdict) → v ≡ Yes → IsVerdict flow (covers_of flow offers) (IsOffered flow offers) ls choice v → entries ≡ ls
    → IsPlaceOfWrong flow offers ls (length entries)
place-said_yes flow offers ls entries choice v is verdict same =
    subst (λ xs. IsPlaceOfWrong flow offers ls (length xs)) (sym same) (place-yes flow offers ls choice (subst (IsVerdict flow (covers_of flow offers) (IsOffered flow offers) ls choice) is verdict))
