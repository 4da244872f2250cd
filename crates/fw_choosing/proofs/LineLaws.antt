-- The lines of a certificate: their words, how they are printed, and what they claim.
use Rattle.std.proofs.Common.{◌≡◌, ℕ, ◌+◌, ◌<◌, ◌^◌, Bool, true, false, ◌&&◌, ◌==◌, cond, List, [], ◌∷◌, ◌++◌, length, map, take, drop, Option, Some, None, Ok, Err, refl, sym, ◌∙◌, ap, append_assoc, arith, codes}
use Rattle.std.proofs.Math.Seq.{take-append_seam, drop-append_seam}
use Rattle.std.proofs.lemmas.Bool.{and_from, and_parts}
use Rattle.std.proofs.lemmas.Bool.Decides.{nat_tests}
use Rattle.std.proofs.lemmas.List.{append-nil}
use Rattle.std.proofs.lemmas.List.Folds.{list_all-append}
use Rattle.std.proofs.lemmas.Grind.{flat_map-append}
use Rattle.std.specs.Fmt.{decimal}
use Rattle.std.specs.List.{AllByRecursion, list_all, prefix_len}
use Rattle.std.specs.Option.{option_and_then, option_map, option_map_or, ok_or}
use Rattle.fw_lemmas.proofs.Each.{each-at}
use Rattle.fw_time.specs.StampText.{stamp_text}
use Rattle.fw_frontier.specs.Front.{Front, IsCanonical}
use Rattle.fw_frontier.specs.FrontText.{spaces_text}
use Rattle.fw_lines.specs.declared.numeral.Number.{Number}
use Rattle.fw_lines.specs.declared.numeral.Number.TheVariants.{Value, TooLarge, NotANumber}
use Rattle.fw_flow.specs.FullNames.{is_full_name}
use Rattle.fw_lines.specs.Written.{WordLine, behind_space, is_plain, is_plain_line, line_text, spaced}
use Rattle.fw_flow.specs.declared.choice.Cut.{Cut}
use Rattle.fw_flow.specs.declared.choice.Cut.TheVariants.{Present, At}
use Rattle.fw_flow.specs.declared.node.Edge.{Edge}
use Rattle.fw_flow.specs.declared.node.Node.{Node}
use Rattle.fw_flow.specs.declared.trail.Cause.{Cause}
use Rattle.fw_flow.specs.declared.trail.Cause.TheVariants as cause
use Rattle.fw_flow.specs.declared.trail.Lowering.{Lowering}
use Rattle.fw_flow.specs.declared.trail.Part.{Part}
use Rattle.fw_flow.specs.declared.trail.Part.TheVariants as part
use Rattle.fw_flow.specs.CutText.{cut_text}
use Rattle.fw_flow.specs.Dataflow.{Dataflow, bounds_of, idle_node, node_at}
use Rattle.fw_flow.specs.DomainText.{name_of_edge}
use Rattle.fw_flow.specs.WellFormed.{IsWellFormed}
use Rattle.fw_model.specs.Choice.{IsCanonicalCut}
use Rattle.fw_schedule.specs.Stamps.{is_stamp}
use Rattle.fw_lines.proofs.DecimalLaws.{decimal_numeral, number_of-decimal}
use Rattle.fw_schedule.proofs.WordLaws.{IsSpelled, edge_found, node_found, plain-name, plain-number, plain-stamp, stamp-spelled, stamp_read}
use Rattle.fw_schedule.proofs.WrittenLaws.{IsNamed}
use Rattle.fw_certify.specs.CertificateText.{cause_text, certificate_line, down_line, part_text}
use Rattle.fw_running.specs.EffectText.{cut_line}
use Rattle.fw_offers_text.specs.declared.claim.ClaimEntry.{ClaimEntry}
use Rattle.fw_offers_text.specs.declared.claim.ClaimEntry.TheVariants as entry
use Rattle.fw_offers_text.specs.declared.code.ChoiceCode.TheVariants.{C1, C2}
use Rattle.fw_offers_text.specs.declared.form.CauseForm.{CauseForm}
use Rattle.fw_offers_text.specs.declared.form.CauseForm.TheVariants as by
use Rattle.fw_offers_text.specs.declared.form.CertificateForm.{CertificateForm}
use Rattle.fw_offers_text.specs.declared.form.CertificateForm.TheVariants as form
use Rattle.fw_offers_text.specs.declared.form.CutForm.{CutForm}
use Rattle.fw_offers_text.specs.declared.form.CutForm.TheVariants as to
use Rattle.fw_offers_text.specs.CertificateGrammar.{cause_said, cut_spelled, entry_said, lowering_said, none_said, words_claim}
use Rattle.fw_offers_text.specs.Forms.{by_in, cause_in, certificate_form, certificate_in, cut_at, end_in, frontier_at, lowering_in, part_in, stamps_at, whole_cut}
use Rattle.fw_offers_text.specs.Statements.{stamps_spelled}
use Rattle.fw_choosing.specs.Choices.{none_count_line, none_line}

-- ---- what can be printed

-- a frontier's stamps can be printed
abbrev IsCutSpelled : Cut → Type 0
IsCutSpelled Present = Unit {0}
IsCutSpelled (At f) = AllByRecursion IsSpelled f

front-spelled : (flow : Dataflow) → IsWellFormed flow → (p : ℕ) (f : Front) → IsCanonical (bounds_of flow p) f → AllByRecursion IsSpelled f
front-spelled flow w p [] h = tt
front-spelled flow w p (o ∷ os) h = (stamp-spelled flow w p o h.0.in_the_domain, front-spelled flow w p os h.1)

cut-spelled : (flow : Dataflow) → IsWellFormed flow → (p : ℕ) (cut : Cut) → IsCanonicalCut (bounds_of flow p) cut → IsCutSpelled cut
cut-spelled flow w p Present h = tt
cut-spelled flow w p (At f) h = front-spelled flow w p f h

-- the edge of a cause is one of the dataflow
abbrev pub IsCauseIn : Dataflow → Cause → Type 0
IsCauseIn flow (cause.Delivered d) = d < length flow.edges
IsCauseIn flow (cause.Discarded e) = e < length flow.edges
IsCauseIn flow cause.Notified = Unit {0}
IsCauseIn flow cause.Own = Unit {0}
IsCauseIn flow (cause.Note d) = d < length flow.edges

-- the parts of a lowering are of the dataflow
pub record IsLoweringIn (flow : Dataflow) (l : Lowering) : Type 0 where
  pub there : l.node < length flow.nodes
  pub canonical : IsCanonicalCut (bounds_of flow l.node) l.to
  pub cause : IsCauseIn flow l.by

-- what a line says is of the dataflow
abbrev pub IsEntryIn : Dataflow → ClaimEntry → Type 0
IsEntryIn flow (entry.Cut p cut) = (p < length flow.nodes) × IsCanonicalCut (bounds_of flow p) cut
IsEntryIn flow (entry.Down l) = IsLoweringIn flow l
IsEntryIn flow (entry.NoneLeft p None) = p < length flow.nodes
IsEntryIn flow (entry.NoneLeft p (Some c)) = (p < length flow.nodes) × IsCauseIn flow c
IsEntryIn flow (entry.End (Value n) at_choice) = n < 2 ^ 64
IsEntryIn flow (entry.End TooLarge at_choice) = ⊥
IsEntryIn flow (entry.End NotANumber at_choice) = ⊥

node-named : (flow : Dataflow) → IsNamed flow → (p : ℕ) → p < length flow.nodes → is_full_name (node_at flow p).name ≡ true
unfolding node_at
node-named flow h p lt = each-at (λ (n : Node). is_full_name n.name ≡ true) flow.nodes p idle_node lt h.nodes_named

edge-named : (flow : Dataflow) → IsNamed flow → (e : ℕ) → e < length flow.edges → is_full_name (name_of_edge flow e) ≡ true
edge-named flow h e lt =
    each-at (λ (e : Edge). is_full_name e.name ≡ true) flow.edges e (record { name = []; sender = length flow.nodes; receiver = length flow.nodes }) lt h.edges_named

-- ---- words

-- the words of a frontier
abbrev front_words : Front → WordLine
front_words [] = codes "all" ∷ []
front_words (o ∷ os) = codes "until" ∷ map stamp_text (o ∷ os)

-- of a cut
abbrev cut_words : Cut → WordLine
cut_words Present = codes "present" ∷ []
cut_words (At f) = front_words f

-- of a cause
abbrev cause_words : Dataflow → Cause → WordLine
cause_words flow (cause.Delivered d) = codes "delivered" ∷ name_of_edge flow d ∷ []
cause_words flow (cause.Discarded e) = codes "discarded" ∷ name_of_edge flow e ∷ []
cause_words flow cause.Notified = codes "notified" ∷ []
cause_words flow cause.Own = codes "own" ∷ []
cause_words flow (cause.Note d) = codes "note" ∷ name_of_edge flow d ∷ []

-- a number
abbrev number_text : Number → List ℕ
number_text (Value n) = decimal n
number_text TooLarge = []
number_text NotANumber = []

-- the words of a line
abbrev pub entry_words : Dataflow → ClaimEntry → WordLine
entry_words flow (entry.Cut p cut) = codes "cut" ∷ (node_at flow p).name ∷ cut_words cut
entry_words flow (entry.Down l) = codes "down" ∷ (node_at flow l.node).name ∷ part_text l.part ∷ (cut_words l.to ++ codes "by" ∷ cause_words flow l.by)
entry_words flow (entry.NoneLeft p None) = codes "none" ∷ (node_at flow p).name ∷ []
entry_words flow (entry.NoneLeft p (Some c)) = codes "none" ∷ (node_at flow p).name ∷ codes "by" ∷ cause_words flow c
entry_words flow (entry.End number true) = codes "certificate" ∷ number_text number ∷ codes "yes" ∷ []
entry_words flow (entry.End number false) = codes "certificate" ∷ number_text number ∷ codes "none" ∷ []

-- ---- which can be those of a line

plain-front : (f : Front) → AllByRecursion IsSpelled f → list_all is_plain (map stamp_text f) ≡ true
plain-front [] h = refl
plain-front (o ∷ os) h = and_from (is_plain (stamp_text o)) (list_all is_plain (map stamp_text os)) (plain-stamp o h.0) (plain-front os h.1)

plain-cut : (cut : Cut) → IsCutSpelled cut → list_all is_plain (cut_words cut) ≡ true
plain-cut Present h = refl
plain-cut (At []) h = refl
plain-cut (At (o ∷ os)) h = plain-front (o ∷ os) h

plain-edge : (flow : Dataflow) → IsNamed flow → (e : ℕ) → e < length flow.edges → (is_plain (name_of_edge flow e) && true) ≡ true
plain-edge flow h e lt = and_from (is_plain (name_of_edge flow e)) true (plain-name (name_of_edge flow e) (edge-named flow h e lt)) refl

plain-cause : (flow : Dataflow) → IsNamed flow → (c : Cause) → IsCauseIn flow c → list_all is_plain (cause_words flow c) ≡ true
plain-cause flow h (cause.Delivered d) lt = plain-edge flow h d lt
plain-cause flow h (cause.Discarded e) lt = plain-edge flow h e lt
plain-cause flow h cause.Notified lt = refl
plain-cause flow h cause.Own lt = refl
plain-cause flow h (cause.Note d) lt = plain-edge flow h d lt

plain-part : (of : Part) → is_plain (part_text of) ≡ true
plain-part part.Cut = refl
plain-part part.Note = refl

-- a name behind the verb, and words behind it
plain-named : (flow : Dataflow) → IsNamed flow → (p : ℕ) (words : WordLine) → p < length flow.nodes → list_all is_plain words ≡ true
    → ((is_plain (node_at flow p).name && list_all is_plain words) && true) ≡ true
plain-named flow h p words lt plain =
    and_from (is_plain (node_at flow p).name && list_all is_plain words) true
    (and_from (is_plain (node_at flow p).name) (list_all is_plain words) (plain-name (node_at flow p).name (node-named flow h p lt)) plain) refl

plain-count : (n : ℕ) → n < 2 ^ 64 → ((is_plain (decimal n) && true) && true) ≡ true
plain-count n lt = and_from (is_plain (decimal n) && true) true (and_from (is_plain (decimal n)) true (plain-number n lt) refl) refl

pub plain-entry : (flow : Dataflow) → IsNamed flow → (e : ClaimEntry) → IsEntryIn flow e → is_plain_line (entry_words flow e) ≡ true
plain-entry flow h (entry.Cut p cut) is = plain-named flow h p (cut_words cut) is.0 (plain-cut cut (cut-spelled flow h.well_formed p cut is.1))
plain-entry flow h (entry.Down l) is =
    plain-named flow h l.node (part_text l.part ∷ (cut_words l.to ++ codes "by" ∷ cause_words flow l.by)) is.there
    (and_from (is_plain (part_text l.part)) (list_all is_plain (cut_words l.to ++ codes "by" ∷ cause_words flow l.by)) (plain-part l.part)
    (list_all-append is_plain (cut_words l.to) (codes "by" ∷ cause_words flow l.by)
    ∙ and_from (list_all is_plain (cut_words l.to)) (list_all is_plain (codes "by" ∷ cause_words flow l.by))
    (plain-cut l.to (cut-spelled flow h.well_formed l.node l.to is.canonical)) (plain-cause flow h l.by is.cause)))
plain-entry flow h (entry.NoneLeft p None) is = plain-named flow h p [] is refl
plain-entry flow h (entry.NoneLeft p (Some c)) is = plain-named flow h p (codes "by" ∷ cause_words flow c) is.0 (plain-cause flow h c is.1)
plain-entry flow h (entry.End (Value n) true) is = plain-count n is
plain-entry flow h (entry.End (Value n) false) is = plain-count n is
plain-entry flow h (entry.End TooLarge at_choice) is = absurd is
plain-entry flow h (entry.End NotANumber at_choice) is = absurd is

-- ---- lines as they are printed

spaced-front : (f : Front) → spaces_text f ≡ spaced (map stamp_text f)
spaced-front [] = refl
spaced-front (o ∷ os) = ap (λ t. (32 ∷ stamp_text o) ++ t) (spaced-front os)

spaced-cut : (cut : Cut) → codes " " ++ cut_text cut ≡ spaced (cut_words cut)
spaced-cut Present = refl
spaced-cut (At []) = refl
spaced-cut (At (o ∷ os)) = ap (λ t. codes " until" ++ t) (spaced-front (o ∷ os))

spaced-cause : (flow : Dataflow) (c : Cause) → codes " " ++ cause_text flow c ≡ spaced (cause_words flow c)
spaced-cause flow (cause.Delivered d) = ap (λ t. codes " delivered " ++ t) (sym (append-nil (name_of_edge flow d)))
spaced-cause flow (cause.Discarded e) = ap (λ t. codes " discarded " ++ t) (sym (append-nil (name_of_edge flow e)))
spaced-cause flow cause.Notified = refl
spaced-cause flow cause.Own = refl
spaced-cause flow (cause.Note d) = ap (λ t. codes " note " ++ t) (sym (append-nil (name_of_edge flow d)))

pub line-cut : (flow : Dataflow) (p : ℕ) (cut : Cut) → cut_line (node_at flow p).name cut ≡ line_text (entry_words flow (entry.Cut p cut))
line-cut flow p cut =
    let name = (node_at flow p).name in
    ap (λ t. codes "cut " ++ (t ++ codes "\n")) (append_assoc name (codes " ") (cut_text cut) ∙ ap (λ t. name ++ t) (spaced-cut cut))

regrouped : (n p c w : List ℕ)
    → (((((n ++ codes " ") ++ p) ++ codes " ") ++ c) ++ codes " by ") ++ w ≡ n ++ ((codes " " ++ p) ++ ((codes " " ++ c) ++ (codes " by" ++ (codes " " ++ w))))
regrouped n p c w = simp append_assoc

pub line-down : (flow : Dataflow) (l : Lowering) → down_line flow l ≡ line_text (entry_words flow (entry.Down l))
line-down flow l =
    let name = (node_at flow l.node).name in
    let of = part_text l.part in
    let words = cut_words l.to in
    ap (λ t. codes "down " ++ (t ++ codes "\n"))
    (regrouped name of (cut_text l.to) (cause_text flow l.by)
    ∙ ap (λ t. name ++ ((codes " " ++ of) ++ (t ++ (codes " by" ++ (codes " " ++ cause_text flow l.by))))) (spaced-cut l.to)
    ∙ ap (λ t. name ++ ((codes " " ++ of) ++ (spaced words ++ (codes " by" ++ t)))) (spaced-cause flow l.by)
    ∙ ap (λ t. name ++ ((codes " " ++ of) ++ t)) (sym (flat_map-append behind_space words (codes "by" ∷ cause_words flow l.by))))

pub line-none : (flow : Dataflow) (p : ℕ) (c : Option Cause) → none_line flow p c ≡ line_text (entry_words flow (entry.NoneLeft p c))
line-none flow p None = ap (λ t. codes "none " ++ (t ++ codes "\n")) (sym (append-nil (node_at flow p).name))
line-none flow p (Some c) =
    let name = (node_at flow p).name in
    ap (λ t. codes "none " ++ (t ++ codes "\n")) (append_assoc name (codes " by ") (cause_text flow c) ∙ ap (λ t. name ++ (codes " by" ++ t)) (spaced-cause flow c))

pub line-yes : (flow : Dataflow) (n : ℕ) → certificate_line n ≡ line_text (entry_words flow (entry.End (Value n) true))
line-yes flow n = ap (λ t. codes "certificate " ++ t) (sym (append_assoc (decimal n) (codes " yes") (codes "\n")))

pub line-no_choice : (flow : Dataflow) (n : ℕ) → none_count_line n ≡ line_text (entry_words flow (entry.End (Value n) false))
line-no_choice flow n = ap (λ t. codes "certificate " ++ t) (sym (append_assoc (decimal n) (codes " none") (codes "\n")))

-- ---- forms

-- the form of a cut
abbrev cut_form : Cut → CutForm
cut_form Present = to.Present
cut_form (At f) = to.At (map stamp_text f)

-- of a cause
abbrev cause_form : Dataflow → Cause → CauseForm
cause_form flow (cause.Delivered d) = by.Delivered (name_of_edge flow d)
cause_form flow (cause.Discarded e) = by.Discarded (name_of_edge flow e)
cause_form flow cause.Notified = by.Notified
cause_form flow cause.Own = by.Own
cause_form flow (cause.Note d) = by.Note (name_of_edge flow d)

-- of a line
abbrev entry_form : Dataflow → ClaimEntry → CertificateForm
entry_form flow (entry.Cut p cut) = form.Cut (node_at flow p).name (cut_form cut)
entry_form flow (entry.Down l) = form.Down (node_at flow l.node).name l.part (cut_form l.to) (cause_form flow l.by)
entry_form flow (entry.NoneLeft p None) = form.NoneLeft (node_at flow p).name None
entry_form flow (entry.NoneLeft p (Some c)) = form.NoneLeft (node_at flow p).name (Some (cause_form flow c))
entry_form flow (entry.End number at_choice) = form.End (number_text number) at_choice

first-all : (test : List ℕ → Bool) (xs rest : WordLine) → list_all test xs ≡ true → prefix_len test rest ≡ 0 → prefix_len test (xs ++ rest) ≡ length xs
first-all test [] rest h none = none
first-all test (x ∷ xs) rest h none =
    let t = and_parts (test x) (list_all test xs) h in
    let more : 1 + length xs ≡ length (x ∷ xs) = omega arith in
    ap (λ b. cond b (1 + prefix_len test (xs ++ rest)) 0) t.0 ∙ ap (λ n. 1 + n) (first-all test xs rest t.1 none) ∙ more

stamps-found : (s : List ℕ) (ss rest : WordLine) → list_all is_stamp (s ∷ ss) ≡ true → prefix_len is_stamp rest ≡ 0 → stamps_at ((s ∷ ss) ++ rest) ≡ Some (s ∷ ss, rest)
stamps-found s ss rest h none =
    let all : WordLine = (s ∷ ss) ++ rest in
    let some : (length (s ∷ ss) == 0) ≡ false = grind (arith, nat_tests) in
    ap (λ k. cond (k == 0) None (Some (take k all, drop k all))) (first-all is_stamp (s ∷ ss) rest h none)
    ∙ ap (λ b. cond b None (Some (take (length (s ∷ ss)) all, drop (length (s ∷ ss)) all))) some
    ∙ ap (λ xs. Some (xs, drop (length (s ∷ ss)) all)) (take-append_seam (s ∷ ss) rest)
    ∙ ap (λ ys. Some (s ∷ ss, ys)) (drop-append_seam (s ∷ ss) rest)

stamps-all : (f : Front) → AllByRecursion IsSpelled f → list_all is_stamp (map stamp_text f) ≡ true
stamps-all [] h = refl
stamps-all (o ∷ os) h = and_from (is_stamp (stamp_text o)) (list_all is_stamp (map stamp_text os)) (stamp_read o h.0).0 (stamps-all os h.1)

front-found : (f : Front) (rest : WordLine) → AllByRecursion IsSpelled f → prefix_len is_stamp rest ≡ 0 → frontier_at (front_words f ++ rest) ≡ Some (map stamp_text f, rest)
front-found [] rest h none = refl
front-found (o ∷ os) rest h none = stamps-found (stamp_text o) (map stamp_text os) rest (stamps-all (o ∷ os) h) none

cut-found : (cut : Cut) (rest : WordLine) → IsCutSpelled cut → prefix_len is_stamp rest ≡ 0 → cut_at (cut_words cut ++ rest) ≡ Some (cut_form cut, rest)
cut-found Present rest h none = refl
cut-found (At []) rest h none = refl
cut-found (At (o ∷ os)) rest h none = ap (option_map (λ (found : WordLine × WordLine). (to.At found.0, found.1))) (front-found (o ∷ os) rest h none)

cut-alone : (cut : Cut) → IsCutSpelled cut → cut_at (cut_words cut) ≡ Some (cut_form cut, [])
cut-alone cut h = ap cut_at (sym (append-nil (cut_words cut))) ∙ cut-found cut [] h refl

cause-found : (flow : Dataflow) → IsNamed flow → (c : Cause) → IsCauseIn flow c → cause_in (cause_words flow c) ≡ Some (cause_form flow c)
cause-found flow h (cause.Delivered d) lt = ap (λ b. cond b (Some (by.Delivered (name_of_edge flow d))) None) (edge-named flow h d lt)
cause-found flow h (cause.Discarded e) lt = ap (λ b. cond b (Some (by.Discarded (name_of_edge flow e))) None) (edge-named flow h e lt)
cause-found flow h cause.Notified lt = refl
cause-found flow h cause.Own lt = refl
cause-found flow h (cause.Note d) lt = ap (λ b. cond b (Some (by.Note (name_of_edge flow d))) None) (edge-named flow h d lt)

part-found : (of : Part) → part_in (part_text of) ≡ Some of
part-found part.Cut = refl
part-found part.Note = refl

-- the form of a line by its verb, behind which a name stands
verb-found : (flow : Dataflow) → IsNamed flow → (p : ℕ) (found : Option CertificateForm) → p < length flow.nodes → cond (is_full_name (node_at flow p).name) found None ≡ found
verb-found flow h p found lt = ap (λ b. cond b found None) (node-named flow h p lt)

form-found : (flow : Dataflow) → IsNamed flow → (e : ClaimEntry) → IsEntryIn flow e → certificate_form (entry_words flow e) ≡ Some (entry_form flow e)
form-found flow h (entry.Cut p cut) is =
    let name = (node_at flow p).name in
    verb-found flow h p (certificate_in (codes "cut") name (cut_words cut)) is.0
    ∙ ap (option_and_then (λ (found : CutForm × WordLine). option_map (λ c. form.Cut name c) (whole_cut found.0 found.1))) (cut-alone cut (cut-spelled flow h.well_formed p cut is.1))
form-found flow h (entry.Down l) is =
    let name = (node_at flow l.node).name in
    let behind : WordLine = codes "by" ∷ cause_words flow l.by in
    verb-found flow h l.node (certificate_in (codes "down") name (part_text l.part ∷ (cut_words l.to ++ behind))) is.there
    ∙ ap (option_and_then (λ of. lowering_in name of (cut_words l.to ++ behind))) (part-found l.part)
    ∙ ap (option_and_then (λ (found : CutForm × WordLine). option_map (λ c. form.Down name l.part found.0 c) (by_in found.1)))
    (cut-found l.to behind (cut-spelled flow h.well_formed l.node l.to is.canonical) refl)
    ∙ ap (option_map (λ c. form.Down name l.part (cut_form l.to) c)) (cause-found flow h l.by is.cause)
form-found flow h (entry.NoneLeft p None) is = verb-found flow h p (certificate_in (codes "none") (node_at flow p).name []) is
form-found flow h (entry.NoneLeft p (Some c)) is =
    let name = (node_at flow p).name in
    verb-found flow h p (certificate_in (codes "none") name (codes "by" ∷ cause_words flow c)) is.0
    ∙ ap (λ o. option_map (λ told. form.NoneLeft name told) (option_map (λ told. Some told) o)) (cause-found flow h c is.1)
form-found flow h (entry.End (Value n) true) is = ap (λ b. cond b (end_in (decimal n) (codes "yes" ∷ [])) None) (decimal_numeral n is)
form-found flow h (entry.End (Value n) false) is = ap (λ b. cond b (end_in (decimal n) (codes "none" ∷ [])) None) (decimal_numeral n is)
form-found flow h (entry.End TooLarge at_choice) is = absurd is
form-found flow h (entry.End NotANumber at_choice) is = absurd is

-- ---- what forms say

front-read : (f : Front) → AllByRecursion IsSpelled f → stamps_spelled (map stamp_text f) ≡ f
front-read [] h = refl
front-read (o ∷ os) h = ap (λ s. s ∷ stamps_spelled (map stamp_text os)) (stamp_read o h.0).1 ∙ ap (λ ss. o ∷ ss) (front-read os h.1)

cut-read : (cut : Cut) → IsCutSpelled cut → cut_spelled (cut_form cut) ≡ cut
cut-read Present h = refl
cut-read (At f) h = ap At (front-read f h)

cause-read : (flow : Dataflow) → IsNamed flow → (c : Cause) → IsCauseIn flow c → cause_said flow (cause_form flow c) ≡ Some c
cause-read flow h (cause.Delivered d) lt = ap (option_map (λ e. cause.Delivered e)) (edge_found flow d h.edges_once lt)
cause-read flow h (cause.Discarded d) lt = ap (option_map (λ e. cause.Discarded e)) (edge_found flow d h.edges_once lt)
cause-read flow h cause.Notified lt = refl
cause-read flow h cause.Own lt = refl
cause-read flow h (cause.Note d) lt = ap (option_map (λ e. cause.Note e)) (edge_found flow d h.edges_once lt)

entry-read : (flow : Dataflow) → IsNamed flow → (e : ClaimEntry) → IsEntryIn flow e → entry_said flow (entry_form flow e) ≡ Some e
entry-read flow h (entry.Cut p cut) is =
    ap (option_map (λ q. entry.Cut q (cut_spelled (cut_form cut)))) (node_found flow p h.nodes_once is.0)
    ∙ ap (λ c. Some (entry.Cut p c)) (cut-read cut (cut-spelled flow h.well_formed p cut is.1))
entry-read flow h (entry.Down l) is =
    let lowered : Cut → Cause → ClaimEntry = λ cut c. entry.Down (record { node = l.node; part = l.part; to = cut; by = c }) in
    ap (option_and_then (lowering_said flow l.part (cut_form l.to) (cause_form flow l.by))) (node_found flow l.node h.nodes_once is.there)
    ∙ ap (option_map (lowered (cut_spelled (cut_form l.to)))) (cause-read flow h l.by is.cause)
    ∙ ap (λ cut. Some (lowered cut l.by)) (cut-read l.to (cut-spelled flow h.well_formed l.node l.to is.canonical))
entry-read flow h (entry.NoneLeft p None) is = ap (option_and_then (none_said flow None)) (node_found flow p h.nodes_once is)
entry-read flow h (entry.NoneLeft p (Some c)) is =
    ap (option_and_then (none_said flow (Some (cause_form flow c)))) (node_found flow p h.nodes_once is.0)
    ∙ ap (λ o. option_map (λ told. entry.NoneLeft p told) (option_map (λ told. Some told) o)) (cause-read flow h c is.1)
entry-read flow h (entry.End (Value n) at_choice) is = ap (λ number. Some (entry.End number at_choice)) (number_of-decimal n is)
entry-read flow h (entry.End TooLarge at_choice) is = absurd is
entry-read flow h (entry.End NotANumber at_choice) is = absurd is

-- the words of a line claim what they are written of
pub entry-claimed : (flow : Dataflow) → IsNamed flow → (e : ClaimEntry) → IsEntryIn flow e → words_claim flow (entry_words flow e) ≡ Ok e
entry-claimed flow h e is =
    ap (λ o. option_map_or (λ told. ok_or (entry_said flow told) C2) o (Err C1)) (form-found flow h e is) ∙ ap (λ o. ok_or o C2) (entry-read flow h e is)
