-- A text of lines that claim something of the dataflow, none of which breaks a rule after those before it, is accepted.
use Rattle.std.proofs.Common.{◌≡◌, ℕ, ◌+◌, ◌≤◌, true, false, cond, List, [], ◌∷◌, ◌++◌, length, map, Some, None, Ok, refl, sym, ◌∙◌, ap, subst, append_assoc}
use Rattle.std.proofs.lemmas.Bool.{and_from}
use Rattle.std.proofs.lemmas.List.Elements.{filter_map-append}
use Rattle.std.specs.List.{AllByRecursion, cons_option, list_all, list_any}
use Rattle.std.specs.Result.{result_ok}
use Rattle.fw_lines.specs.Lines.{Said, said_lines}
use Rattle.fw_lines.specs.Written.{WordLine, is_plain_line, numbered, text_of}
use Rattle.fw_lines.proofs.WrittenLaws.{said_lines-text_of}
use Rattle.fw_flow.specs.Dataflow.{Dataflow}
use Rattle.fw_schedule.proofs.WrittenLaws.{IsNamed}
use Rattle.fw_offers_text.specs.declared.claim.ClaimEntry.{ClaimEntry}
use Rattle.fw_offers_text.specs.declared.code.ChoiceCode.TheVariants.{C1}
use Rattle.fw_offers_text.specs.CertificateGrammar.{IsAcceptedCertificate, certificate_fault, certificate_words_fault, claim_of, claimed_fault, entries_in, entries_of_lines, entry_fault, is_end, words_claim}
use Rattle.fw_offers_text.specs.Faults.{BreakNoChoiceRule, choice_size_limit}
use Rattle.fw_offers_text.proofs.FaultLaws.{IsSoundSoFar, Told, none_judged, none_left, none_told, sound_more}
use Rattle.fw_choosing.proofs.LineLaws.{IsEntryIn, entry-claimed, entry_words, plain-entry}

-- each of these breaks no rule after those before it, and no last line stands before another
abbrev pub AreSoundAfter : Dataflow → List ClaimEntry → List ClaimEntry → Type 0
AreSoundAfter flow before [] = Unit {0}
AreSoundAfter flow before (e ∷ es) = (list_any is_end before ≡ false) × (entry_fault flow before e ≡ None) × AreSoundAfter flow (before ++ e ∷ []) es

-- those behind others are sound behind them
pub sound-append : (flow : Dataflow) (before es fs : List ClaimEntry) → AreSoundAfter flow before es → AreSoundAfter flow (before ++ es) fs → AreSoundAfter flow before (es ++ fs)
sound-append flow before [] fs h k = subst (λ b. AreSoundAfter flow b fs) (nothing before) k
  where
    nothing : (b : List ClaimEntry) → b ++ [] ≡ b
    nothing [] = refl
    nothing (e ∷ es) = ap (λ l. e ∷ l) (nothing es)
sound-append flow before (e ∷ es) fs h k =
    (h.0, h.1, sound-append flow (before ++ e ∷ []) es fs h.2 (subst (λ b. AreSoundAfter flow b fs) (sym (append_assoc before (e ∷ []) es)) k))

plain-all : (flow : Dataflow) → IsNamed flow → (es : List ClaimEntry) → AllByRecursion (IsEntryIn flow) es → list_all is_plain_line (map (entry_words flow) es) ≡ true
plain-all flow h [] is = refl
plain-all flow h (e ∷ es) is = and_from (is_plain_line (entry_words flow e)) (list_all is_plain_line (map (entry_words flow) es)) (plain-entry flow h e is.0) (plain-all flow h es is.1)

-- a line says what it is written of
said-more : (flow : Dataflow) (done : List Said) (number : ℕ) (words : WordLine) (e : ClaimEntry) → words_claim flow words ≡ Ok e
    → entries_of_lines flow done ++ e ∷ [] ≡ entries_of_lines flow (done ++ record { number = number; words = words } ∷ [])
said-more flow done number words e claimed =
    let said : Said = record { number = number; words = words } in
    sym (filter_map-append (λ (l : Said). result_ok (words_claim flow l.words)) done (said ∷ []) ∙ ap (λ r. entries_of_lines flow done ++ cons_option (result_ok r) []) claimed)

said-all : (flow : Dataflow) → IsNamed flow → (number : ℕ) (es : List ClaimEntry) → AllByRecursion (IsEntryIn flow) es → entries_of_lines flow (numbered number (map (entry_words flow) es)) ≡ es
said-all flow h number [] is = refl
said-all flow h number (e ∷ es) is =
    ap (λ r. cons_option (result_ok r) (entries_of_lines flow (numbered (number + 1) (map (entry_words flow) es)))) (entry-claimed flow h e is.0)
    ∙ ap (λ later. e ∷ later) (said-all flow h (number + 1) es is.1)

-- such a line breaks no rule
line-sound : (flow : Dataflow) (before : List ClaimEntry) (words : WordLine) (e : ClaimEntry) → words_claim flow words ≡ Ok e → list_any is_end before ≡ false → entry_fault flow before e ≡ None
    → certificate_words_fault flow before words ≡ None
line-sound flow before [] e claimed unended sound = refl
line-sound flow before (word ∷ words) e claimed unended sound =
    ap (λ b. cond b (Some C1) (claimed_fault flow before (words_claim flow (word ∷ words)))) unended ∙ ap (claimed_fault flow before) claimed ∙ sound

sound-on : (flow : Dataflow) → IsNamed flow → (es : List ClaimEntry) (number : ℕ) (all done : List Said) → AllByRecursion (IsEntryIn flow) es → AreSoundAfter flow (entries_of_lines flow done) es
    → IsSoundSoFar (Told (certificate_fault flow)) all (numbered number (map (entry_words flow) es)) done → BreakNoChoiceRule (Told (certificate_fault flow)) all
sound-on flow h [] number all done is sound so_far =
    let last : Said = record { number = number; words = [] } in
    (none_left (Told (certificate_fault flow)) all (done ++ last ∷ []) (sound_more (Told (certificate_fault flow)) all done last [] so_far (none_told (certificate_fault flow done last) refl))).0
sound-on flow h (e ∷ es) number all done is sound so_far =
    let words = entry_words flow e in
    let said : Said = record { number = number; words = words } in
    let claimed = entry-claimed flow h e is.0 in
    sound-on flow h es (number + 1) all (done ++ said ∷ []) is.1 (subst (λ b. AreSoundAfter flow b es) (said-more flow done number words e claimed) sound.2)
    (sound_more (Told (certificate_fault flow)) all done said (numbered (number + 1) (map (entry_words flow) es)) so_far
    (none_told (certificate_fault flow done said) (line-sound flow (entries_of_lines flow done) words e claimed sound.0 sound.1)))

-- the text is read as what its lines are written of
pub entries-accepted : (flow : Dataflow) → IsNamed flow → (es : List ClaimEntry) (text : List ℕ) → AllByRecursion (IsEntryIn flow) es → AreSoundAfter flow [] es → list_any is_end es ≡ true
    → text ≡ text_of (map (entry_words flow) es) → length text ≤ choice_size_limit → IsAcceptedCertificate text flow (claim_of flow es)
entries-accepted flow h es text is sound ended printed short =
    let lines = map (entry_words flow) es in
    let said = ap said_lines printed ∙ said_lines-text_of lines (plain-all flow h es is) in
    let same : entries_in flow text ≡ es = ap (entries_of_lines flow) said ∙ said-all flow h 1 es is in
    record {
      sound = record {
        size = short;
        lines = subst (BreakNoChoiceRule (Told (certificate_fault flow))) (sym said) (sound-on flow h es 1 (numbered 1 lines) [] is sound (none_judged (Told (certificate_fault flow)) (numbered 1 lines)));
      };
      ended = ap (list_any is_end) same ∙ ended;
      value = ap (claim_of flow) (sym same);
    }
