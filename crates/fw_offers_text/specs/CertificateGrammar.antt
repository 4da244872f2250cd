-- The grammar of certificates: what the text of a certificate says, and the rules that it may break.
use Rattle.std.specs.Prelude.{◌≡◌, ◌⊎◌, ℕ, Bool, true, false, ◌&&◌, ◌==◌, List, [], ◌∷◌, length, if◌then◌else◌, Option, Some, None, unwrap_or, Result, Ok, Err}
use Rattle.std.specs.List.{filter_map, list_any, list_all}
use Rattle.std.specs.Option.{is_none, is_some, option_map, option_map_or, option_and_then, ok_or}
use Rattle.std.specs.Result.{result_ok}
use Rattle.fw_lines.specs.declared.numeral.Number.{Number}
use Rattle.fw_lines.specs.declared.numeral.Number.TheVariants.{Value, TooLarge, NotANumber}
use Rattle.fw_lines.specs.Lines.{Said, said_lines}
use Rattle.fw_lines.specs.Spelling.{number_of}
use Rattle.fw_flow.specs.declared.choice.Cut.{Cut}
use Rattle.fw_flow.specs.declared.choice.Cut.TheVariants.{Present, At}
use Rattle.fw_flow.specs.declared.trail.Cause.{Cause}
use Rattle.fw_flow.specs.declared.trail.Cause.TheVariants as cause
use Rattle.fw_flow.specs.declared.trail.Lowering.{Lowering}
use Rattle.fw_flow.specs.declared.trail.Part.{Part}
use Rattle.fw_flow.specs.Dataflow.{Dataflow, bounds_of, node_ids}
use Rattle.fw_schedule.specs.Names.{node_with_name, edge_named}
use Rattle.fw_offers_text.specs.declared.claim.Claim.{Claim}
use Rattle.fw_offers_text.specs.declared.claim.Ending.{Ending}
use Rattle.fw_offers_text.specs.declared.claim.Ending.TheVariants as ending
use Rattle.fw_offers_text.specs.declared.claim.ClaimEntry.{ClaimEntry}
use Rattle.fw_offers_text.specs.declared.claim.ClaimEntry.TheVariants as entry
use Rattle.fw_offers_text.specs.declared.code.ChoiceCode.{ChoiceCode}
use Rattle.fw_offers_text.specs.declared.code.ChoiceCode.TheVariants.{C1, C2, C3, C4, C5, C6}
use Rattle.fw_offers_text.specs.declared.code.ChoiceRefusal.{ChoiceRefusal}
use Rattle.fw_offers_text.specs.declared.form.CauseForm.{CauseForm}
use Rattle.fw_offers_text.specs.declared.form.CauseForm.TheVariants as by
use Rattle.fw_offers_text.specs.declared.form.CertificateForm.{CertificateForm}
use Rattle.fw_offers_text.specs.declared.form.CertificateForm.TheVariants as form
use Rattle.fw_offers_text.specs.declared.form.CutForm.{CutForm}
use Rattle.fw_offers_text.specs.declared.form.CutForm.TheVariants as to
use Rattle.fw_offers_text.specs.Faults.{ChoiceRules, KeepsChoiceRules, IsFirstChoiceRefusal, IsOfWholeText, first_broken}
use Rattle.fw_offers_text.specs.Forms.{certificate_form}
use Rattle.fw_offers_text.specs.Statements.{is_canonical, stamps_spelled, first_told}
use Rattle.fw_offers_text.specs.Words.{Word}

-- ---- C2: names

-- the cut that is spelled
abbrev pub cut_spelled : CutForm → Cut
cut_spelled to.Present = Present
cut_spelled (to.At stamps) = At (stamps_spelled stamps)

-- the cause, if its edge is declared
abbrev pub cause_said : Dataflow → CauseForm → Option Cause
cause_said flow (by.Delivered name) = option_map (λ d. cause.Delivered d) (edge_named flow name)
cause_said flow (by.Discarded name) = option_map (λ e. cause.Discarded e) (edge_named flow name)
cause_said flow by.Notified = Some cause.Notified
cause_said flow by.Own = Some cause.Own
cause_said flow (by.Note name) = option_map (λ d. cause.Note d) (edge_named flow name)

-- the same where a cause is told; none may be
abbrev pub perhaps_cause_said : Dataflow → Option CauseForm → Option (Option Cause)
perhaps_cause_said flow None = Some None
perhaps_cause_said flow (Some told) = option_map (λ c. Some c) (cause_said flow told)

-- a lowering of node p, if the edge of its cause is declared
abbrev pub lowering_said : Dataflow → Part → CutForm → CauseForm → ℕ → Option ClaimEntry
lowering_said flow part cut told p =
    option_map (λ c. entry.Down (record { node = p; part = part; to = cut_spelled cut; by = c })) (cause_said flow told)

-- that no cut of node p is left, if the edge of the cause is declared
abbrev pub none_said : Dataflow → Option CauseForm → ℕ → Option ClaimEntry
none_said flow told p = option_map (λ c. entry.NoneLeft p c) (perhaps_cause_said flow told)

-- what a line says, if its names are declared
abbrev pub entry_said : Dataflow → CertificateForm → Option ClaimEntry
entry_said flow (form.Cut name cut) = option_map (λ p. entry.Cut p (cut_spelled cut)) (node_with_name flow name)
entry_said flow (form.Down name part cut told) = option_and_then (lowering_said flow part cut told) (node_with_name flow name)
entry_said flow (form.NoneLeft name told) = option_and_then (none_said flow told) (node_with_name flow name)
entry_said flow (form.End number at_choice) = Some (entry.End (number_of number) at_choice)

-- what words say, or the first rule that they break by themselves: C1 of form, C2 of names
abbrev pub words_claim : Dataflow → List Word → Result ClaimEntry ChoiceCode
words_claim flow words = option_map_or (λ told. ok_or (entry_said flow told) C2) (certificate_form words) (Err C1)

-- what lines say, in order
abbrev pub entries_of_lines : Dataflow → List Said → List ClaimEntry
entries_of_lines flow lines = filter_map (λ line. result_ok (words_claim flow line.words)) lines

-- ---- C3: domains

-- whether the cut is present, or at a frontier of node p
abbrev pub is_cut_in_domain : Dataflow → ℕ → Cut → Bool
is_cut_in_domain flow p Present = true
is_cut_in_domain flow p (At f) = is_canonical (bounds_of flow p) f

-- the same of what a line says
abbrev pub is_entry_in_domain : Dataflow → ClaimEntry → Bool
is_entry_in_domain flow (entry.Cut p cut) = is_cut_in_domain flow p cut
is_entry_in_domain flow (entry.Down l) = is_cut_in_domain flow l.node l.to
is_entry_in_domain flow (entry.NoneLeft p by) = true
is_entry_in_domain flow (entry.End number at_choice) = true

-- ---- C4: nothing is said twice

-- the cut of node p that is told
abbrev pub cut_told : ℕ → ClaimEntry → Option Cut
cut_told p (entry.Cut q cut) = if q == p then Some cut else None
cut_told p e = None

-- the node of which no cut is left, and why, as it is told
abbrev pub none_told : ClaimEntry → Option Ending
none_told (entry.NoneLeft p by) = Some (ending.NoneLeft p by)
none_told e = None

-- what a line says, unless it breaks C3
abbrev pub in_its_domain : Dataflow → ClaimEntry → Result ClaimEntry ChoiceCode
in_its_domain flow e = if is_entry_in_domain flow e then Ok e else Err C3

-- the same of what may break another rule before
abbrev pub entry_in_domain : Dataflow → Result ClaimEntry ChoiceCode → Result ClaimEntry ChoiceCode
entry_in_domain flow (Ok e) = in_its_domain flow e
entry_in_domain flow (Err code) = Err code

-- what a line says, or the first rule that it breaks by itself: C2 of names, C3 of domains
abbrev pub entered : Dataflow → CertificateForm → Result ClaimEntry ChoiceCode
entered flow line = entry_in_domain flow (ok_or (entry_said flow line) C2)

-- whether it is no second cut of a node, and does not tell for the second time that no cut is left
abbrev pub is_new_entry : List ClaimEntry → ClaimEntry → Bool
is_new_entry before (entry.Cut p cut) = is_none (first_told (cut_told p) before)
is_new_entry before (entry.NoneLeft p by) = is_none (first_told none_told before)
is_new_entry before (entry.Down l) = true
is_new_entry before (entry.End number at_choice) = true

-- ---- C5: the last line

-- the lowering that is told
abbrev pub lowering_told : ClaimEntry → Option Lowering
lowering_told (entry.Down l) = Some l
lowering_told e = None

-- whether it is the last line
abbrev pub is_end : ClaimEntry → Bool
is_end (entry.End number at_choice) = true
is_end e = false

-- whether the number is this one
abbrev pub is_number : ℕ → Number → Bool
is_number n (Value m) = m == n
is_number n TooLarge = false
is_number n NotANumber = false

-- whether each node has a cut and no node is told to have none left, or the other way round
abbrev pub fits_the_end : Dataflow → List ClaimEntry → Bool → Bool
fits_the_end flow entries at_choice =
    if at_choice then is_none (first_told none_told entries) && list_all (λ p. is_some (first_told (cut_told p) entries)) (node_ids flow)
    else is_some (first_told none_told entries) && list_all (λ p. is_none (first_told (cut_told p) entries)) (node_ids flow)

-- whether the last line has the number of lowerings, and fits the lines before it
abbrev pub is_end_right : Dataflow → List ClaimEntry → ClaimEntry → Bool
is_end_right flow before (entry.End number at_choice) =
    is_number (length (filter_map lowering_told before)) number && fits_the_end flow before at_choice
is_end_right flow before e = true

-- ---- the rule that a line breaks

-- the first rule that is broken after these
abbrev pub entry_fault : Dataflow → List ClaimEntry → ClaimEntry → Option ChoiceCode
entry_fault flow before e =
    first_broken ((C3, is_entry_in_domain flow e) ∷ (C4, is_new_entry before e) ∷ (C5, is_end_right flow before e) ∷ [])

-- the same by words themselves or by what they say
abbrev pub claimed_fault : Dataflow → List ClaimEntry → Result ClaimEntry ChoiceCode → Option ChoiceCode
claimed_fault flow before (Ok e) = entry_fault flow before e
claimed_fault flow before (Err code) = Some code

-- the rule that a line of these words breaks after these: C1 behind the last line; a line without words breaks none
abbrev pub certificate_words_fault : Dataflow → List ClaimEntry → List Word → Option ChoiceCode
certificate_words_fault flow before [] = None
certificate_words_fault flow before (word ∷ words) =
    if list_any is_end before then Some C1 else claimed_fault flow before (words_claim flow (word ∷ words))

-- the rule that a line breaks, judged by what the lines before it say
abbrev pub certificate_fault : Dataflow → List Said → Said → Option ChoiceCode
certificate_fault flow before line = certificate_words_fault flow (entries_of_lines flow before) line.words

-- what is asked of a certificate over the dataflow
abbrev pub certificate_rules : Dataflow → ChoiceRules
certificate_rules flow = record { too_long = C6; breaks = λ before line code. certificate_fault flow before line ≡ Some code }

-- ---- what is claimed

-- to what each node is cut, as it is told
abbrev pub cuts_told : Dataflow → List ClaimEntry → List Cut
cuts_told flow entries = filter_map (λ p. first_told (cut_told p) entries) (node_ids flow)

-- the lowerings that are told, and where they lead: to a node of which no cut is left where one is told, and else to the cuts of the nodes
abbrev pub claim_of : Dataflow → List ClaimEntry → Claim
claim_of flow entries = record {
  lowerings = filter_map lowering_told entries;
  ending = unwrap_or (first_told none_told entries) (ending.Largest (cuts_told flow entries));
}

-- ---- whole texts

-- what the lines of the text say
abbrev pub entries_in : Dataflow → List ℕ → List ClaimEntry
entries_in flow text = entries_of_lines flow (said_lines text)

-- the text has the form of a certificate over the dataflow, its last line is there, and the claim is what its lines say
pub record IsAcceptedCertificate (text : List ℕ) (flow : Dataflow) (claim : Claim) : Type 0 where
  pub sound : KeepsChoiceRules (certificate_rules flow) text
  pub ended : list_any is_end (entries_in flow text) ≡ true
  pub value : claim ≡ claim_of flow (entries_in flow text)

-- no line of the text breaks a rule, but the last line is not there
pub record IsNotEnded (text : List ℕ) (flow : Dataflow) (refusal : ChoiceRefusal) : Type 0 where
  pub sound : KeepsChoiceRules (certificate_rules flow) text
  pub not_ended : list_any is_end (entries_in flow text) ≡ false
  pub whole : IsOfWholeText C5 refusal

-- the refusal is the first rule of certificates that the text breaks: of its size, of its first line that breaks one, or that its last
-- line is not there
abbrev pub IsRefusedCertificate : List ℕ → Dataflow → ChoiceRefusal → Type 0
IsRefusedCertificate text flow refusal = IsFirstChoiceRefusal (certificate_rules flow) text refusal ⊎ IsNotEnded text flow refusal
