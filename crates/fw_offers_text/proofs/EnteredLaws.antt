-- What words of a certificate say is taken, or the rule is the first that they break.
use Rattle.std.proofs.Common.{◌≡◌, Bool, true, false, cond, List, [], ◌∷◌, ◌++◌, length, Option, Some, None, Result, Ok, Err, refl, sym, ◌∙◌, ap, subst, arith}
use Rattle.std.specs.Prelude.{◌≢◌, MatchResult}
use Rattle.std.proofs.lemmas.List.{append-nil}
use Rattle.std.specs.List.{cons_option, list_any}
use Rattle.std.specs.Option.{option_map_or, ok_or}
use Rattle.std.specs.Result.{result_ok}
use Rattle.fw_lines.specs.Spelling.{number_of}
use Rattle.fw_flow.specs.Dataflow.{Dataflow}
use Rattle.fw_schedule.specs.Names.{node_with_name}
use Rattle.fw_offers_text.specs.CertificateGrammar.{cut_spelled, cause_said, perhaps_cause_said, lowering_said, none_said, entry_said, words_claim, is_entry_in_domain, entry_in_domain, entered, is_new_entry, is_end_right, entry_fault, claimed_fault, is_end, certificate_words_fault}
use Rattle.fw_offers_text.specs.ClaimDraft.{ClaimTold, claimed_by, with_entry, fault_behind, entries_said, IsEntryOfFlow, EntryFits, IsEnteredOrFault}
use Rattle.fw_offers_text.specs.declared.claim.ClaimEntry.{ClaimEntry}
use Rattle.fw_offers_text.specs.declared.claim.ClaimEntry.TheVariants.{Cut as CutLine, Down, NoneLeft, End}
use Rattle.fw_offers_text.specs.declared.code.ChoiceCode.{ChoiceCode}
use Rattle.fw_offers_text.specs.declared.code.ChoiceCode.TheVariants.{C1, C2, C3, C4, C5}
use Rattle.fw_offers_text.specs.declared.form.CertificateForm.{CertificateForm}
use Rattle.fw_offers_text.specs.declared.form.CertificateForm.TheVariants as form
use Rattle.fw_offers_text.specs.Faults.{first_broken}
use Rattle.fw_offers_text.specs.Forms.{certificate_form}
use Rattle.fw_offers_text.specs.Words.{Word}
use Rattle.fw_offers_text.proofs.ClaimLaws.{entry_more, entry_fault_told}
use Rattle.fw_offers_text.proofs.TakenLaws.{mapped-some, bound-some, named_node}

entry-of : (flow : Dataflow) (line : CertificateForm) (e : ClaimEntry) → entry_said flow line ≡ Some e → IsEntryOfFlow flow e
entry-of flow (form.Cut name cut) e h =
    let m = mapped-some (λ p. CutLine p (cut_spelled cut)) (node_with_name flow name) e h in
    subst (IsEntryOfFlow flow) m.2 (named_node flow name m.0 m.1)
entry-of flow (form.Down name part cut told) e h =
    let m = bound-some (lowering_said flow part cut told) (node_with_name flow name) e h in
    let n = mapped-some (λ c. Down (record { node = m.0; part = part; to = cut_spelled cut; by = c })) (cause_said flow told) e m.2 in
    subst (IsEntryOfFlow flow) n.2 tt
entry-of flow (form.NoneLeft name told) e h =
    let m = bound-some (none_said flow told) (node_with_name flow name) e h in
    let n = mapped-some (λ c. NoneLeft m.0 c) (perhaps_cause_said flow told) e m.2 in
    subst (IsEntryOfFlow flow) n.2 tt
entry-of flow (form.End number at_choice) e h =
    let k : End (number_of number) at_choice ≡ e = cc in
    subst (IsEntryOfFlow flow) k tt

kept-domain : (flow : Dataflow) (t e : ClaimEntry) (b : Bool) → is_entry_in_domain flow t ≡ b → cond b (Ok t) (Err C3) ≡ Ok e → (t ≡ e) × (is_entry_in_domain flow e ≡ true)
kept-domain flow t e true h k = let same : t ≡ e = cc in (same, subst (λ x. is_entry_in_domain flow x ≡ true) same h)
kept-domain flow t e false h k = absurd (cc)

entered-ok : (flow : Dataflow) (line : CertificateForm) (e : ClaimEntry) → entered flow line ≡ Ok e → (entry_said flow line ≡ Some e) × (is_entry_in_domain flow e ≡ true)
entered-ok flow line e h = by (entry_said flow line) h
  where
    by : (o : Option ClaimEntry) → entry_in_domain flow (ok_or o C2) ≡ Ok e → (o ≡ Some e) × (is_entry_in_domain flow e ≡ true)
    by None k = absurd (cc)
    by (Some t) k = let d = kept-domain flow t e (is_entry_in_domain flow t) refl k in (ap Some d.0, d.1)

out-of-domain : (flow : Dataflow) (entries : List ClaimEntry) (t : ClaimEntry) (code : ChoiceCode) (b : Bool) → is_entry_in_domain flow t ≡ b → cond b (Ok t) (Err C3) ≡ Err code → entry_fault flow entries t ≡ Some code
out-of-domain flow entries t code true h k = absurd (cc)
out-of-domain flow entries t code false h k =
    let same : C3 ≡ code = cc in
    ap (λ b. first_broken ((C3, b) ∷ (C4, is_new_entry entries t) ∷ (C5, is_end_right flow entries t) ∷ [])) h ∙ ap Some same

entered-err : (flow : Dataflow) (line : CertificateForm) (code : ChoiceCode) (entries : List ClaimEntry) → entered flow line ≡ Err code → claimed_fault flow entries (ok_or (entry_said flow line) C2) ≡ Some code
entered-err flow line code entries h = by (entry_said flow line) h
  where
    by : (o : Option ClaimEntry) → entry_in_domain flow (ok_or o C2) ≡ Err code → claimed_fault flow entries (ok_or o C2) ≡ Some code
    by None k = let same : C2 ≡ code = cc in ap Some same
    by (Some t) k = out-of-domain flow entries t code (is_entry_in_domain flow t) refl k

with_form : (flow : Dataflow) (words : List Word) (o : Option CertificateForm) → o ≡ certificate_form words → words_claim flow words ≡ option_map_or (λ told. ok_or (entry_said flow told) C2) o (Err C1)
with_form flow words o e = ap (λ x. option_map_or (λ told. ok_or (entry_said flow told) C2) x (Err C1)) (sym e)

-- words of no form
pub no_form : (flow : Dataflow) (words : List Word) (old new : ClaimTold) → None ≡ certificate_form words → IsEnteredOrFault flow words old new (Err C1)
no_form flow words old new e = λ entries h. ap (claimed_fault flow entries) (with_form flow words None e)

-- words that break a rule before C4
pub not_entered : (flow : Dataflow) (words : List Word) (line : CertificateForm) (code : ChoiceCode) (old new : ClaimTold) → Some line ≡ certificate_form words → Err code ≡ entered flow line → IsEnteredOrFault flow words old new (Err code)
not_entered flow words line code old new e f = λ entries h. ap (claimed_fault flow entries) (with_form flow words (Some line) e) ∙ entered-err flow line code entries (sym f)

-- what a line breaks or tells, as what words break or tell
pub entered_or_fault : (flow : Dataflow) (words : List Word) (line : CertificateForm) (e : ClaimEntry) (old new : ClaimTold) (r : Result (Unit {0}) ChoiceCode)
    → Some line ≡ certificate_form words → Ok e ≡ entered flow line
    → MatchResult r (λ done. (fault_behind old e ≡ None) × (new ≡ with_entry old e)) (λ code. fault_behind old e ≡ Some code)
    → IsEnteredOrFault flow words old new r
entered_or_fault flow words line e old new (Ok done) w f h = λ entries told.
    let entered_e = entered-ok flow line e (sym f) in
    let there = entry-of flow line e entered_e.0 in
    let say : words_claim flow words ≡ Ok e = with_form flow words (Some line) w ∙ ap (λ o. ok_or o C2) entered_e.0 in
    let no_fault : fault_behind (claimed_by flow entries) e ≡ None = subst (λ t. fault_behind t e ≡ None) told h.0 in (
      ap (claimed_fault flow entries) say ∙ entry_fault_told flow entries e there entered_e.1 ∙ no_fault,
      h.1 ∙ ap (λ t. with_entry t e) told ∙ entry_more flow entries e there no_fault ∙ ap (λ r. claimed_by flow (entries ++ cons_option (result_ok r) [])) (sym say),
    )
entered_or_fault flow words line e old new (Err code) w f h = λ entries told.
    let entered_e = entered-ok flow line e (sym f) in
    let there = entry-of flow line e entered_e.0 in
    let say : words_claim flow words ≡ Ok e = with_form flow words (Some line) w ∙ ap (λ o. ok_or o C2) entered_e.0 in
    ap (claimed_fault flow entries) say ∙ entry_fault_told flow entries e there entered_e.1 ∙ subst (λ t. fault_behind t e ≡ Some code) told h

-- what the code asks of a line
pub entry_fits : (flow : Dataflow) (line : CertificateForm) (e : ClaimEntry) (told : ClaimTold) → Ok e ≡ entered flow line → length told.cuts ≡ length flow.nodes → EntryFits told e
entry_fits flow line e told f of = by e (entry-of flow line e (entered-ok flow line e (sym f)).0)
  where
    by : (x : ClaimEntry) → IsEntryOfFlow flow x → EntryFits told x
    by (CutLine p cut) h = omega (arith, h, of)
    by (Down l) h = tt
    by (NoneLeft p cause) h = tt
    by (End number at_choice) h = tt

-- ---- lines

-- a line without words tells nothing
pub no_words : (flow : Dataflow) (words : List Word) (entries : List ClaimEntry) (old : ClaimTold) → words ≡ [] → old ≡ claimed_by flow entries
    → (certificate_words_fault flow entries words ≡ None) × (old ≡ claimed_by flow (entries ++ entries_said flow words))
no_words flow [] entries old e told = (refl, told ∙ ap (claimed_by flow) (sym (append-nil entries)))
no_words flow (word ∷ words) entries old e told = absurd (cc)

-- the rule of a line with words before the last line is that of its words, and C1 behind it
words_fault : (flow : Dataflow) (words : List Word) (entries : List ClaimEntry) (b : Bool) → words ≢ [] → list_any is_end entries ≡ b
    → certificate_words_fault flow entries words ≡ cond b (Some C1) (claimed_fault flow entries (words_claim flow words))
words_fault flow [] entries b some e = absurd (some refl)
words_fault flow (word ∷ words) entries b some e = ap (λ x. cond x (Some C1) (claimed_fault flow entries (words_claim flow (word ∷ words)))) e

pub behind_end : (flow : Dataflow) (words : List Word) (old : ClaimTold) (entries : List ClaimEntry) → words ≢ [] → old.ended ≡ true → old ≡ claimed_by flow entries → certificate_words_fault flow entries words ≡ Some C1
behind_end flow words old entries some ended told = words_fault flow words entries true some (sym (ap (λ (t : ClaimTold). t.ended) told) ∙ ended)

pub line_entered : (flow : Dataflow) (words : List Word) (old new : ClaimTold) (done : Unit {0}) (entries : List ClaimEntry) → words ≢ [] → old.ended ≡ false → IsEnteredOrFault flow words old new (Ok done) → old ≡ claimed_by flow entries
    → (certificate_words_fault flow entries words ≡ None) × (new ≡ claimed_by flow (entries ++ entries_said flow words))
line_entered flow words old new done entries some unended taken told =
    let h = taken entries told in
    (words_fault flow words entries false some (sym (ap (λ (t : ClaimTold). t.ended) told) ∙ unended) ∙ h.0, h.1)

pub line_broken : (flow : Dataflow) (words : List Word) (old new : ClaimTold) (code : ChoiceCode) (entries : List ClaimEntry) → words ≢ [] → old.ended ≡ false → IsEnteredOrFault flow words old new (Err code) → old ≡ claimed_by flow entries
    → certificate_words_fault flow entries words ≡ Some code
line_broken flow words old new code entries some unended taken told = words_fault flow words entries false some (sym (ap (λ (t : ClaimTold). t.ended) told) ∙ unended) ∙ taken entries told
