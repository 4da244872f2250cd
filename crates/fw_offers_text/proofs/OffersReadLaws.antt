-- The lines of offers, read one after another.
use Rattle.std.proofs.Common.{◌≡◌, ℕ, ◌≤◌, Bool, true, false, List, [], ◌∷◌, ◌++◌, map, length, Some, None, refl, sym, ◌∙◌, ap, subst, ◌⊎◌, inl, inr}
use Rattle.std.proofs.lemmas.List.Elements.{filter_map-append}
use Rattle.std.specs.Result.{result_ok}
use Rattle.fw_lines.specs.declared.line.Line.{Line}
use Rattle.fw_lines.specs.Lines.{Said, words_at, said_in, said_lines}
use Rattle.fw_flow.specs.declared.choice.Offer.{Offer}
use Rattle.fw_flow.specs.Dataflow.{Dataflow}
use Rattle.fw_offers_text.specs.declared.code.ChoiceCode.TheVariants.{O7}
use Rattle.fw_offers_text.specs.declared.code.ChoiceRefusal.{ChoiceRefusal}
use Rattle.fw_model.specs.Offers.{AreOffersOf, RecordsAscend}
use Rattle.fw_offers_text.specs.Draft.{Told, told_by, is_whole, offer_from}
use Rattle.fw_offers_text.specs.Faults.{KeepsChoiceRules, IsFirstChoiceFault, choice_size_limit}
use Rattle.fw_offers_text.specs.OffersGrammar.{offers_of, offers_fault, offers_rules, statements_in, AreAcceptedOffers, AreRefusedOffers}
use Rattle.fw_offers_text.specs.Statements.{words_say, statements_of, offer_words_fault, is_all_told}
use Rattle.fw_offers_text.proofs.FaultLaws.{Told as Tells, told_exact, none_told, IsSoundSoFar, sound_more, first_fault, none_left, sound_or_refused, sound_or_some_refusal, one_first_refusal}
use Rattle.fw_offers_text.proofs.SoundLaws.{sound-offers}
use Rattle.fw_offers_text.proofs.SpokenLaws.{sound_said}
use Rattle.fw_offers_text.proofs.WholeLaws.{whole_told, offers_told}

-- what the code's loop knows: some lines are done, none of them breaks a rule, and what they say is told
pub record IsRead (flow : Dataflow) (lines left : List Said) (told : Told) : Type 0 where
  pub done : List Said
  pub so_far : IsSoundSoFar (Tells (offers_fault flow)) lines left done
  pub value : told ≡ told_by flow (statements_of flow done)

-- one line more is read
pub read_more : (flow : Dataflow) (text : List ℕ) (lines left next : List Said) (line : Line) (old new : Told) (read : IsRead flow lines left old) → left ≡ said_in text line ∷ next
    → ((offer_words_fault flow (statements_of flow read.done) (words_at text line.words) ≡ None) × (new ≡ told_by flow (statements_of flow read.done ++ statements_of flow (said_in text line ∷ []))))
    → IsRead flow lines next new
read_more flow text lines left next line old new read e taken = record {
  done = read.done ++ said_in text line ∷ [];
  so_far = sound_more (Tells (offers_fault flow)) lines read.done (said_in text line) next (subst (λ ls. IsSoundSoFar (Tells (offers_fault flow)) lines ls read.done) e read.so_far) (none_told _ taken.0);
  value = taken.1 ∙ ap (told_by flow) (sym (filter_map-append (λ (l : Said). result_ok (words_say flow l.words)) read.done (said_in text line ∷ [])));
}

-- the next line is the first that breaks a rule
pub read_broken : (flow : Dataflow) (text : List ℕ) (lines left next : List Said) (line : Line) (told : Told) (refusal : ChoiceRefusal) (read : IsRead flow lines left told) → left ≡ said_in text line ∷ next
    → offer_words_fault flow (statements_of flow read.done) (words_at text line.words) ≡ Some refusal.code → refusal.line ≡ line.number
    → IsFirstChoiceFault (Tells (offers_fault flow)) lines refusal
read_broken flow text lines left next line told refusal read e broken number =
    first_fault (Tells (offers_fault flow)) lines read.done (said_in text line) next refusal (subst (λ ls. IsSoundSoFar (Tells (offers_fault flow)) lines ls read.done) e read.so_far) broken number

-- all lines of a short text are read, and none breaks a rule
pub record AreAllRead (flow : Dataflow) (text : List ℕ) (told : Told) : Type 0 where
  pub sound : KeepsChoiceRules (offers_rules flow) text
  pub value : told ≡ told_by flow (statements_in flow text)

pub all_read : (flow : Dataflow) (text : List ℕ) (left : List Said) (told : Told) → length text ≤ choice_size_limit → IsRead flow (said_lines text) left told → left ≡ []
    → AreAllRead flow text told
all_read flow text left told size read e =
    let all = none_left (Tells (offers_fault flow)) (said_lines text) read.done (subst (λ ls. IsSoundSoFar (Tells (offers_fault flow)) (said_lines text) ls read.done) e read.so_far) in
    record { sound = record { size = size; lines = all.0 }; value = read.value ∙ ap (λ ls. told_by flow (statements_of flow ls)) all.1 }

-- an accepted text is not refused
pub accepted_or_refused : (text : List ℕ) (flow : Dataflow) (offers : List Offer) (refusal : ChoiceRefusal) → AreAcceptedOffers text flow offers → AreRefusedOffers text flow refusal → ⊥
accepted_or_refused text flow offers refusal accepted (inl first) = sound_or_refused (offers_rules flow) text refusal accepted.sound first
accepted_or_refused text flow offers refusal accepted (inr untold) = let h : true ≡ false = sym accepted.all_told ∙ untold.untold in absurd (cc)

-- an accepted text has one value
pub one_value : (text : List ℕ) (flow : Dataflow) (first second : List Offer) → AreAcceptedOffers text flow first → AreAcceptedOffers text flow second → first ≡ second
one_value text flow first second a b = a.value ∙ sym b.value

-- a text is refused by one rule at one line
pub one_refusal : (text : List ℕ) (flow : Dataflow) (first second : ChoiceRefusal) → AreRefusedOffers text flow first → AreRefusedOffers text flow second → first ≡ second
one_refusal text flow first second (inl a) (inl b) = one_first_refusal (offers_rules flow) text first second (told_exact (offers_fault flow)) a b
one_refusal text flow first second (inl a) (inr b) = absurd (sound_or_refused (offers_rules flow) text first b.sound a)
one_refusal text flow first second (inr a) (inl b) = absurd (sound_or_refused (offers_rules flow) text second a.sound b)
one_refusal text flow first second (inr a) (inr b) = a.whole ∙ sym b.whole

-- each text is accepted or refused
pub some_answer : (text : List ℕ) (flow : Dataflow) → ((offers : List Offer) × AreAcceptedOffers text flow offers) ⊎ ((refusal : ChoiceRefusal) × AreRefusedOffers text flow refusal)
some_answer text flow = elim (sound_or_some_refusal (offers_rules flow) text (told_exact (offers_fault flow))) [
  | inl sound ↦ by (is_all_told flow (statements_in flow text)) refl sound
  | inr refused ↦ inr (refused.0, inl refused.1)
]
  where
    by : (b : Bool) → is_all_told flow (statements_in flow text) ≡ b → KeepsChoiceRules (offers_rules flow) text → ((offers : List Offer) × AreAcceptedOffers text flow offers) ⊎ ((refusal : ChoiceRefusal) × AreRefusedOffers text flow refusal)
    by true e sound = inl (offers_of flow (statements_in flow text), record { sound = sound; all_told = e; value = refl })
    by false e sound = inr (record { code = O7; line = 0 }, inr (record { sound = sound; untold = e; whole = refl }))

-- ---- the end of a text

-- not all is told
pub read_untold : (flow : Dataflow) (text : List ℕ) (told : Told) (whole : Bool) → AreAllRead flow text told → whole ≡ is_whole flow told → whole ≡ false → AreRefusedOffers text flow (record { code = O7; line = 0 })
read_untold flow text told whole read is untold =
    inr (record { sound = read.sound; untold = whole_told flow (statements_in flow text) ∙ ap (is_whole flow) (sym read.value) ∙ sym is ∙ untold; whole = refl })

-- all is told
pub read_accepted : (flow : Dataflow) (text : List ℕ) (told : Told) (whole : Bool) (offers : List Offer) → AreAllRead flow text told → whole ≡ is_whole flow told → whole ≡ true → offers ≡ map offer_from told.nodes
    → AreAcceptedOffers text flow offers
read_accepted flow text told whole offers read is all value = record {
  sound = read.sound;
  all_told = whole_told flow (statements_in flow text) ∙ ap (is_whole flow) (sym read.value) ∙ sym is ∙ all;
  value = value ∙ ap (λ (t : Told). map offer_from t.nodes) read.value ∙ offers_told flow (statements_in flow text);
}

-- what is accepted is offers of the dataflow, and records ascend
pub accepted_offers : (text : List ℕ) (flow : Dataflow) (offers : List Offer) → AreAcceptedOffers text flow offers → AreOffersOf flow offers × RecordsAscend flow offers
accepted_offers text flow offers accepted =
    let law = sound-offers flow (statements_in flow text) (sound_said flow (said_lines text) accepted.sound.lines) in
    (subst (AreOffersOf flow) (sym accepted.value) law.0, subst (RecordsAscend flow) (sym accepted.value) law.1)
