-- Why texts are not read, and what was asked of the folder, over several calls.
use Rattle.std.proofs.Common.{◌≡◌, ℕ, ◌+◌, ◌<◌, List, length, take, Option, Some, None, Err, refl, sym, ap, subst, ◌∙◌, inl, inr, arith}
use Rattle.std.specs.Prelude.{IsSomeAnd}
use Rattle.fw_outside.specs.Outside.{IsCutText, one_more}
use Rattle.fw_flow.specs.declared.choice.Offer.{Offer}
use Rattle.fw_flow.specs.Dataflow.{Dataflow}
use Rattle.fw_offers_text.specs.declared.claim.Claim.{Claim}
use Rattle.fw_offers_text.specs.CertificateGrammar.{IsAcceptedCertificate, IsRefusedCertificate}
use Rattle.fw_offers_text.specs.OffersGrammar.{AreAcceptedOffers, AreRefusedOffers}
use Rattle.fw_offers_text.specs.declared.code.ChoiceCode.TheVariants.{O8, C6}
use Rattle.fw_command.specs.declared.reading.JobFault.{JobFault}
use Rattle.fw_command.specs.declared.reading.JobFault.TheVariants as job
use Rattle.fw_command.specs.Reading.{IfJobRefused, read_faults_after}
use Rattle.fw_command.specs.Texts.{HasFlow, HasText, IsFlowRefused}
use Rattle.fw_choosing.specs.Choices.{IsChoiceAnswer, IsVerifyAnswer}
use Rattle.fw_choosing.specs.Reading.{IsClaimUnread, IsFetchFault, IsOffersUnread}
use Rattle.fw_choosing.specs.Status.{flow_status, read_faults_by, fetch_faults_told}
use Rattle.fw_choosing.specs.Texts.{HasClaim, HasOffers, AreOffered, IsAskedFor, IsChooseAnswer, IsChoosingUnread, IsVerdictAnswer, flow_name, offers_name}
use Rattle.fw_choosing.specs.Words.{Choosing, choose, verify}
use Rattle.fw_choosing.specs.declared.status.ChoosingStatus.{ChoosingStatus}
use Rattle.fw_choosing.specs.declared.status.ChoosingStatus.TheVariants.{Done, BadWords, FlowRefused, OffersRefused, CertificateRefused, ReadFault, WriteFault, NoMemory, NoChoice, NotShown}

-- ---- one text

pub offers-not_fetched : (told : Option (List ℕ → Option (List ℕ))) (name : List ℕ) (flow : Dataflow) (too_large status : ChoosingStatus) → too_large ≡ OffersRefused (record { code = O8; line = 0 })
    → IsFetchFault told name too_large status → IsOffersUnread told name flow status
offers-not_fetched told name flow too_large status is (inl e) = subst (IsOffersUnread told name flow) (sym e) tt
offers-not_fetched told name flow too_large status is (inr (inl e)) = subst (IsOffersUnread told name flow) (sym e) tt
offers-not_fetched told name flow too_large status is (inr (inr (e, has))) =
    subst (IsOffersUnread told name flow) (sym (e ∙ is)) (record { text = has.text; there = has.there; so = inl (inl (has.so, refl)) })

pub claim-not_fetched : (told : Option (List ℕ → Option (List ℕ))) (name : List ℕ) (flow : Dataflow) (too_large status : ChoosingStatus) → too_large ≡ CertificateRefused (record { code = C6; line = 0 })
    → IsFetchFault told name too_large status → IsClaimUnread told name flow status
claim-not_fetched told name flow too_large status is (inl e) = subst (IsClaimUnread told name flow) (sym e) tt
claim-not_fetched told name flow too_large status is (inr (inl e)) = subst (IsClaimUnread told name flow) (sym e) tt
claim-not_fetched told name flow too_large status is (inr (inr (e, has))) =
    subst (IsClaimUnread told name flow) (sym (e ∙ is)) (record { text = has.text; there = has.there; so = inl (inl (has.so, refl)) })

pub too_large-told : (told : Option (List ℕ → Option (List ℕ))) (name bytes : List ℕ) (limit : ℕ) → IsCutText told name limit bytes → length bytes ≡ limit + 1 → HasText told name (λ text. limit < length text)
too_large-told None name bytes limit cut longer = record { text = bytes; there = tt; so = omega (arith, longer) }
too_large-told (Some texts) name bytes limit cut longer = by (texts name) refl cut
  where
    by : (found : Option (List ℕ)) → texts name ≡ found → IsSomeAnd found (λ whole. (limit < length whole) × (bytes ≡ take (limit + 1) whole)) → HasText (Some texts) name (λ text. limit < length text)
    by None e h = absurd h
    by (Some whole) e h = record { text = whole; there = e; so = h.0 }

-- ---- the texts of a command

pub flow-unread : (told : Option (List ℕ → Option (List ℕ))) (asked : Choosing) (fault : JobFault) (status : ChoosingStatus) → status ≡ flow_status fault → IfJobRefused (IsFlowRefused told (flow_name asked)) fault → IsChoosingUnread told asked status
flow-unread told asked job.Failed status e r = subst (IsChoosingUnread told asked) (sym e) tt
flow-unread told asked (job.Refused refusal) status e r = subst (IsChoosingUnread told asked) (sym e) r
flow-unread told asked job.NoMemory status e r = subst (IsChoosingUnread told asked) (sym e) tt

pub offers-unread : (told second : Option (List ℕ → Option (List ℕ))) (asked : Choosing) (flow : Dataflow) (status : ChoosingStatus) → second ≡ told → HasFlow told (flow_name asked) flow → IsOffersUnread second (offers_name asked) flow status
    → IsChoosingUnread told asked status
offers-unread told second asked flow (OffersRefused refusal) same has r = (flow, has, subst (λ t. HasText t (offers_name asked) (λ text. AreRefusedOffers text flow refusal)) same r)
offers-unread told second asked flow ReadFault same has r = tt
offers-unread told second asked flow NoMemory same has r = tt
offers-unread told second asked flow Done same has r = absurd r
offers-unread told second asked flow BadWords same has r = absurd r
offers-unread told second asked flow (FlowRefused refusal) same has r = absurd r
offers-unread told second asked flow (CertificateRefused refusal) same has r = absurd r
offers-unread told second asked flow WriteFault same has r = absurd r
offers-unread told second asked flow NoChoice same has r = absurd r
offers-unread told second asked flow NotShown same has r = absurd r

pub claim-unread : (told third : Option (List ℕ → Option (List ℕ))) (flow_text offers_text certificate : List ℕ) (flow : Dataflow) (offers : List Offer) (status : ChoosingStatus) → third ≡ told → AreOffered told flow_text offers_text flow offers
    → IsClaimUnread third certificate flow status → IsChoosingUnread told (verify flow_text offers_text certificate) status
claim-unread told third flow_text offers_text certificate flow offers (CertificateRefused refusal) same has r =
    (flow, offers, has, subst (λ t. HasText t certificate (λ text. IsRefusedCertificate text flow refusal)) same r)
claim-unread told third flow_text offers_text certificate flow offers ReadFault same has r = tt
claim-unread told third flow_text offers_text certificate flow offers NoMemory same has r = tt
claim-unread told third flow_text offers_text certificate flow offers Done same has r = absurd r
claim-unread told third flow_text offers_text certificate flow offers BadWords same has r = absurd r
claim-unread told third flow_text offers_text certificate flow offers (FlowRefused refusal) same has r = absurd r
claim-unread told third flow_text offers_text certificate flow offers (OffersRefused refusal) same has r = absurd r
claim-unread told third flow_text offers_text certificate flow offers WriteFault same has r = absurd r
claim-unread told third flow_text offers_text certificate flow offers NoChoice same has r = absurd r
claim-unread told third flow_text offers_text certificate flow offers NotShown same has r = absurd r

-- ---- how often the folder failed

pub flow-faults : (A B : Type 0) (fault : JobFault) (status : ChoosingStatus) (before after : ℕ) → status ≡ flow_status fault → after ≡ read_faults_after {T = A} (Err fault) before → after ≡ read_faults_by {T = B} (Err status) before
flow-faults A B job.Failed status before after e k = k ∙ sym (ap (λ s. fetch_faults_told s before) e)
flow-faults A B (job.Refused refusal) status before after e k = k ∙ sym (ap (λ s. fetch_faults_told s before) e)
flow-faults A B job.NoMemory status before after e k = k ∙ sym (ap (λ s. fetch_faults_told s before) e)

pub later-faults : (A B : Type 0) (status : ChoosingStatus) (before mid after : ℕ) → mid ≡ before → after ≡ read_faults_by {T = A} (Err status) mid → after ≡ read_faults_by {T = B} (Err status) before
later-faults A B status before mid after same k = k ∙ ap (fetch_faults_told status) same

-- ---- what is answered

pub texts-offered : (told second : Option (List ℕ → Option (List ℕ))) (flow_text offers_text : List ℕ) (flow : Dataflow) (offers : List Offer) → second ≡ told → HasFlow told flow_text flow → HasOffers second offers_text flow offers
    → AreOffered told flow_text offers_text flow offers
texts-offered told second flow_text offers_text flow offers same has more =
    record { has_flow = has; has_offers = subst (λ t. HasText t offers_text (λ text. AreAcceptedOffers text flow offers)) same more }

pub choose-answered : (told second : Option (List ℕ → Option (List ℕ))) (flow_text offers_text text : List ℕ) (flow : Dataflow) (offers slice : List Offer) (status : ChoosingStatus) → second ≡ told → HasFlow told flow_text flow
    → HasOffers second offers_text flow offers → slice ≡ offers → IsChoiceAnswer flow slice text status → IsChooseAnswer told flow_text offers_text text status
choose-answered told second flow_text offers_text text flow offers slice status same has more whole answer = record {
  flow = flow;
  offers = offers;
  accepted = texts-offered told second flow_text offers_text flow offers same has more;
  answer = subst (λ os. IsChoiceAnswer flow os text status) whole answer;
}

pub verdict-answered : (told second third : Option (List ℕ → Option (List ℕ))) (flow_text offers_text certificate_text text : List ℕ) (flow : Dataflow) (offers slice : List Offer) (claim : Claim) (status : ChoosingStatus) → second ≡ told
    → third ≡ told → HasFlow told flow_text flow → HasOffers second offers_text flow offers → HasClaim third certificate_text flow claim → slice ≡ offers → IsVerifyAnswer flow slice claim text status
    → IsVerdictAnswer told flow_text offers_text certificate_text text status
verdict-answered told second third flow_text offers_text certificate_text text flow offers slice claim status same also has more claimed whole answer = record {
  flow = flow;
  offers = offers;
  accepted = texts-offered told second flow_text offers_text flow offers same has more;
  claim = claim;
  claimed = subst (λ t. HasText t certificate_text (λ text. IsAcceptedCertificate text flow claim)) also claimed;
  answer = subst (λ os. IsVerifyAnswer flow os claim text status) whole answer;
}

-- ---- how often the folder was asked

pub asked-second : (told : Option (List ℕ → Option (List ℕ))) (flow_text offers_text : List ℕ) (flow : Dataflow) (before mid after : ℕ) → HasFlow told flow_text flow → mid ≡ one_more before → after ≡ one_more mid
    → IsAskedFor told (choose flow_text offers_text) before after
asked-second told flow_text offers_text flow before mid after has one two = inr (flow, has, two ∙ ap one_more one)

pub asked-for_offers : (told : Option (List ℕ → Option (List ℕ))) (flow_text offers_text certificate : List ℕ) (flow : Dataflow) (before mid after : ℕ) → HasFlow told flow_text flow → mid ≡ one_more before → after ≡ one_more mid
    → IsAskedFor told (verify flow_text offers_text certificate) before after
asked-for_offers told flow_text offers_text certificate flow before mid after has one two = inr (flow, has, inl (two ∙ ap one_more one))

pub asked-for_claim : (told second : Option (List ℕ → Option (List ℕ))) (flow_text offers_text certificate : List ℕ) (flow : Dataflow) (offers : List Offer) (before mid late after : ℕ) → second ≡ told → HasFlow told flow_text flow
    → HasOffers second offers_text flow offers → mid ≡ one_more before → late ≡ one_more mid → after ≡ one_more late → IsAskedFor told (verify flow_text offers_text certificate) before after
asked-for_claim told second flow_text offers_text certificate flow offers before mid late after same has more one two three =
    inr (flow, has, inr (offers, (texts-offered told second flow_text offers_text flow offers same has more).has_offers, three ∙ ap one_more (two ∙ ap one_more one)))
