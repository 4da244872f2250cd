-- What `choose` prints is read by `verify` as the certificate that it is.
use Rattle.std.proofs.Common.{◌≡◌, ℕ, zero, suc, ◌+◌, ◌<◌, ◌≤◌, ◌^◌, Bool, true, false, ◌||◌, ◌==◌, cond, List, [], ◌∷◌, ◌++◌, length, map, get_or, Option, Some, None, unwrap_or, refl, sym, ◌∙◌, ap, subst, append_assoc, arith, codes}
use Rattle.std.proofs.Math.Bool.{or-true}
use Rattle.std.specs.Prelude.{◌≢◌}
use Rattle.std.proofs.lemmas.Bool.{and_from, both_ways, eqb-true}
use Rattle.std.proofs.lemmas.Bool.Decides.{nat_tests}
use Rattle.std.proofs.lemmas.Grind.{flat_map-append}
use Rattle.std.proofs.lemmas.List.{append-nil, length-append, map-append}
use Rattle.std.proofs.lemmas.List.Elements.{filter_map-append}
use Rattle.std.proofs.lemmas.List.Folds.{list_any-append}
use Rattle.std.proofs.lemmas.List.FromFn.{fill_by_all}
use Rattle.std.specs.List.{AllByRecursion, cons_option, filter_map, flat_map, list_all, list_any, range_with_len}
use Rattle.std.specs.Option.{is_none, is_some, option_or}
use Rattle.fw_lemmas.proofs.Each.{each-append, each-mapped}
use Rattle.fw_lemmas.proofs.Numbers.{eqb-self}
use Rattle.fw_lines.specs.declared.numeral.Number.TheVariants.{Value}
use Rattle.fw_lines.specs.Written.{line_text, text_of}
use Rattle.fw_flow.specs.declared.choice.Choice.{Choice}
use Rattle.fw_flow.specs.declared.choice.Cut.{Cut}
use Rattle.fw_flow.specs.declared.choice.Cut.TheVariants.{Present, At}
use Rattle.fw_flow.specs.declared.choice.Offer.{Offer}
use Rattle.fw_flow.specs.declared.side.Inclusion.{Inclusion}
use Rattle.fw_flow.specs.declared.side.Inclusion.TheVariants.{OfCut, OfNote}
use Rattle.fw_flow.specs.declared.side.Limit.{Limit}
use Rattle.fw_flow.specs.declared.side.Limit.TheVariants.{Own, Note}
use Rattle.fw_flow.specs.declared.side.Side.{Side}
use Rattle.fw_flow.specs.declared.side.Side.TheVariants.{Delivered, Discarded, Notified}
use Rattle.fw_flow.specs.declared.trail.Cause.{Cause}
use Rattle.fw_flow.specs.declared.trail.Lowering.{Lowering}
use Rattle.fw_flow.specs.CutText.{cut_text}
use Rattle.fw_flow.specs.Dataflow.{Dataflow, bounds_of, node_at, node_ids}
use Rattle.fw_flow.specs.WellFormed.{IsWellFormed}
use Rattle.fw_model.specs.Choice.{IsCanonicalCut, cut_of}
use Rattle.fw_model.specs.Inclusions.{IsInclusionOf, IsLimitIn, IsSideOfFlow, node_of, note_node, owner}
use Rattle.fw_model.specs.Lowerings.{IsRightLowering, IsValueLeft, LeadRight, cause_of, lowering_of}
use Rattle.fw_model.specs.Offers.{IsOffered, covers_of}
use Rattle.fw_schedule.proofs.WrittenLaws.{IsNamed}
use Rattle.fw_certify.specs.CertificateText.{cause_text, certificate_line, certificate_text, down_lines, part_text}
use Rattle.fw_certify.proofs.CertificateLaws.{trail-certificate}
use Rattle.fw_running.specs.EffectText.{cut_line, cut_lines}
use Rattle.fw_offers_text.specs.declared.claim.Claim.{Claim}
use Rattle.fw_offers_text.specs.declared.claim.ClaimEntry.{ClaimEntry}
use Rattle.fw_offers_text.specs.declared.claim.ClaimEntry.TheVariants as entry
use Rattle.fw_offers_text.specs.declared.claim.Ending.{Ending}
use Rattle.fw_offers_text.specs.declared.claim.Ending.TheVariants.{Largest, NoneLeft}
use Rattle.fw_offers_text.specs.declared.code.ChoiceCode.TheVariants.{C3, C4, C5}
use Rattle.fw_offers_text.specs.CertificateGrammar.{IsAcceptedCertificate, claim_of, cut_told, cuts_told, fits_the_end, is_cut_in_domain, is_end, lowering_told, none_told}
use Rattle.fw_offers_text.specs.Faults.{choice_size_limit}
use Rattle.fw_offers_text.specs.Statements.{first_told}
use Rattle.fw_offers_text.proofs.ClaimLaws.{cut_more, end_kept}
use Rattle.fw_offers_text.proofs.FrontLaws.{all-tested, canonical-complete}
use Rattle.fw_offers_text.proofs.CertificateReadLaws.{one_value}
use Rattle.fw_choosing.specs.declared.status.ChoosingStatus.TheVariants.{NotShown}
use Rattle.fw_choosing.specs.Choices.{IsChosenText, IsNoChoiceText, IsNoneLeftAt, IsClaimRight, IsVerifyAnswer, choice_text, none_count_line, none_line, none_text}
use Rattle.fw_choosing.specs.Laws.{IsRightCertificate}
use Rattle.fw_choosing.proofs.EntriesLaws.{AreSoundAfter, entries-accepted, sound-append}
use Rattle.fw_choosing.proofs.LineLaws.{IsCauseIn, IsEntryIn, IsLoweringIn, entry_words, line-cut, line-down, line-no_choice, line-none, line-yes}

-- ---- what is told first

first-none : {A : Type 0} (tells : ClaimEntry → Option A) (es : List ClaimEntry) → AllByRecursion (λ e. tells e ≡ None) es → first_told tells es ≡ None
first-none tells [] h = refl
first-none tells (e ∷ es) h = ap (λ o. option_or o (first_told tells es)) h.0 ∙ first-none tells es h.1

first-behind : {A : Type 0} (tells : ClaimEntry → Option A) (es rest : List ClaimEntry) → AllByRecursion (λ e. tells e ≡ None) es → first_told tells (es ++ rest) ≡ first_told tells rest
first-behind tells [] rest h = refl
first-behind tells (e ∷ es) rest h = ap (λ o. option_or o (first_told tells (es ++ rest))) h.0 ∙ first-behind tells es rest h.1

-- what holds of each place
each-place : (P : ℕ → Type 0) (k n : ℕ) → ((p : ℕ) → k ≤ p → p < k + n → P p) → AllByRecursion P (range_with_len k n)
each-place P k zero h = tt
each-place P k (suc n) h = (h k (omega arith) (omega arith), each-place P (k + 1) n (λ p low high. h p (omega (arith, low)) (omega (arith, high))))

found-all : {A B : Type 0} (find : A → Option B) (make : A → B) (xs : List A) → AllByRecursion (λ x. find x ≡ Some (make x)) xs → filter_map find xs ≡ map make xs
found-all find make [] h = refl
found-all find make (x ∷ xs) h = ap (λ o. cons_option o (filter_map find xs)) h.0 ∙ ap (λ ys. make x ∷ ys) (found-all find make xs h.1)

none-ended : (es : List ClaimEntry) → AllByRecursion (λ e. is_end e ≡ false) es → list_any is_end es ≡ false
none-ended [] h = refl
none-ended (e ∷ es) h = ap (λ b. b || list_any is_end es) h.0 ∙ none-ended es h.1

all-each : {A : Type 0} (P : A → Type 0) → ((x : A) → P x) → (xs : List A) → AllByRecursion P xs
all-each P h [] = tt
all-each P h (x ∷ xs) = (h x, all-each P h xs)

-- ---- lines of cuts

-- the line of the cut of a node
abbrev cut_entry : List Cut → ℕ → ClaimEntry
cut_entry cuts p = entry.Cut p (get_or cuts p Present)

told-cut : (cuts : List Cut) (rest : List ClaimEntry) (p k n : ℕ) → k ≤ p → p < k + n → first_told (cut_told p) (map (cut_entry cuts) (range_with_len k n) ++ rest) ≡ Some (get_or cuts p Present)
told-cut cuts rest p k zero low high = absurd (omega (arith, low, high))
told-cut cuts rest p k (suc n) low high = by (k == p) refl (λ apart. told-cut cuts rest p (k + 1) n (omega (arith, low, apart)) (omega (arith, high)))
  where
    by : (b : Bool) → (k == p) ≡ b → (k ≢ p → first_told (cut_told p) (map (cut_entry cuts) (range_with_len (k + 1) n) ++ rest) ≡ Some (get_or cuts p Present))
        → first_told (cut_told p) (map (cut_entry cuts) (range_with_len k (suc n)) ++ rest) ≡ Some (get_or cuts p Present)
    by true e later =
        ap (λ b. option_or (cond b (Some (get_or cuts k Present)) None) (first_told (cut_told p) (map (cut_entry cuts) (range_with_len (k + 1) n) ++ rest))) e
        ∙ ap (λ q. Some (get_or cuts q Present)) (eqb-true k p e)
    by false e later =
        ap (λ b. option_or (cond b (Some (get_or cuts k Present)) None) (first_told (cut_told p) (map (cut_entry cuts) (range_with_len (k + 1) n) ++ rest))) e
        ∙ later (λ same. both_ways (k == p) e (ap (λ q. k == q) (sym same) ∙ eqb-self k))

-- ---- lines that break no rule

cut-in_domain : (flow : Dataflow) (p : ℕ) (cut : Cut) → IsCanonicalCut (bounds_of flow p) cut → is_cut_in_domain flow p cut ≡ true
cut-in_domain flow p Present h = refl
cut-in_domain flow p (At f) h = canonical-complete (bounds_of flow p) f h

cuts-sound : (flow : Dataflow) (cuts : List Cut) (before : List ClaimEntry) (k n : ℕ) → list_any is_end before ≡ false → ((p : ℕ) → k ≤ p → first_told (cut_told p) before ≡ None)
    → ((p : ℕ) → k ≤ p → p < k + n → IsCanonicalCut (bounds_of flow p) (get_or cuts p Present)) → AreSoundAfter flow before (map (cut_entry cuts) (range_with_len k n))
cuts-sound flow cuts before k zero unended fresh canonical = tt
cuts-sound flow cuts before k (suc n) unended fresh canonical =
    let e = cut_entry cuts k in
    let new : is_none (first_told (cut_told k) before) ≡ true = ap is_none (fresh k (omega arith)) in (
      unended,
      ap (λ b. cond b (cond (is_none (first_told (cut_told k) before)) None (Some C4)) (Some C3)) (cut-in_domain flow k (get_or cuts k Present) (canonical k (omega arith) (omega arith)))
          ∙ ap (λ b. cond b None (Some C4)) new,
      cuts-sound flow cuts (before ++ e ∷ []) (k + 1) n (sym (end_kept before e refl) ∙ unended) later (λ p low high. canonical p (omega (arith, low)) (omega (arith, high))),
    )
  where
    later : (p : ℕ) → k + 1 ≤ p → first_told (cut_told p) (before ++ cut_entry cuts k ∷ []) ≡ None
    later p low =
        let other : (k == p) ≡ false = grind (arith, nat_tests, low) in
        cut_more before (cut_entry cuts k) p ∙ ap (λ o. option_or o (cut_told p (cut_entry cuts k))) (fresh p (omega (arith, low)))
        ∙ ap (λ b. cond b (Some (get_or cuts k Present)) None) other

-- the lines of lowerings
abbrev downs : List Lowering → List ClaimEntry
downs ls = map (λ l. entry.Down l) ls

lowerings-sound : (flow : Dataflow) (before : List ClaimEntry) (ls : List Lowering) → list_any is_end before ≡ false → AllByRecursion (IsLoweringIn flow) ls → AreSoundAfter flow before (downs ls)
lowerings-sound flow before [] unended is = tt
lowerings-sound flow before (l ∷ ls) unended is = (
  unended,
  ap (λ b. cond b None (Some C3)) (cut-in_domain flow l.node l.to is.0.canonical),
  lowerings-sound flow (before ++ entry.Down l ∷ []) ls (sym (end_kept before (entry.Down l) refl) ∙ unended) is.1,
)

end-sound : (flow : Dataflow) (before : List ClaimEntry) (n : ℕ) (at_choice : Bool) → list_any is_end before ≡ false → length (filter_map lowering_told before) ≡ n → fits_the_end flow before at_choice ≡ true
    → AreSoundAfter flow before (entry.End (Value n) at_choice ∷ [])
end-sound flow before n at_choice unended count fits =
    let same : (n == length (filter_map lowering_told before)) ≡ true = ap (λ k. n == k) count ∙ eqb-self n in
    (unended, ap (λ b. cond b None (Some C5)) (and_from (n == length (filter_map lowering_told before)) (fits_the_end flow before at_choice) same fits), tt)

-- ---- what they tell in all

no-lowerings : (cuts : List Cut) (ids : List ℕ) → filter_map lowering_told (map (cut_entry cuts) ids) ≡ []
no-lowerings cuts [] = refl
no-lowerings cuts (p ∷ ps) = no-lowerings cuts ps

own-lowerings : (ls : List Lowering) (rest : List ClaimEntry) → filter_map lowering_told (downs ls ++ rest) ≡ ls ++ filter_map lowering_told rest
own-lowerings [] rest = refl
own-lowerings (l ∷ ls) rest = ap (λ xs. l ∷ xs) (own-lowerings ls rest)

own-alone : (ls : List Lowering) → filter_map lowering_told (downs ls) ≡ ls
own-alone [] = refl
own-alone (l ∷ ls) = ap (λ xs. l ∷ xs) (own-alone ls)

cuts-none : (cuts : List Cut) (ids : List ℕ) → AllByRecursion (λ e. none_told e ≡ None) (map (cut_entry cuts) ids)
cuts-none cuts [] = tt
cuts-none cuts (p ∷ ps) = (refl, cuts-none cuts ps)

downs-none : (ls : List Lowering) → AllByRecursion (λ e. none_told e ≡ None) (downs ls)
downs-none [] = tt
downs-none (l ∷ ls) = (refl, downs-none ls)

downs-no_cut : (p : ℕ) (ls : List Lowering) → AllByRecursion (λ e. cut_told p e ≡ None) (downs ls)
downs-no_cut p [] = tt
downs-no_cut p (l ∷ ls) = (refl, downs-no_cut p ls)

cuts-open : (cuts : List Cut) (ids : List ℕ) → list_any is_end (map (cut_entry cuts) ids) ≡ false
cuts-open cuts [] = refl
cuts-open cuts (p ∷ ps) = cuts-open cuts ps

downs-open : (ls : List Lowering) → list_any is_end (downs ls) ≡ false
downs-open [] = refl
downs-open (l ∷ ls) = downs-open ls

both-open : (es fs : List ClaimEntry) → list_any is_end es ≡ false → list_any is_end fs ≡ false → list_any is_end (es ++ fs) ≡ false
both-open es fs h k = list_any-append is_end es fs ∙ ap (λ b. b || list_any is_end fs) h ∙ k

last-ended : (es fs : List ClaimEntry) → list_any is_end fs ≡ true → list_any is_end (es ++ fs) ≡ true
last-ended es fs h = list_any-append is_end es fs ∙ ap (λ b. list_any is_end es || b) h ∙ or-true (list_any is_end es)

-- lowerings, and where they lead
abbrev claim_with : List Lowering → Ending → Claim
claim_with ls ending = record { lowerings = ls; ending = ending }

-- ---- how they are printed

-- the text of lines
abbrev entries_text : Dataflow → List ClaimEntry → List ℕ
entries_text flow es = text_of (map (entry_words flow) es)

text-append : (flow : Dataflow) (es fs : List ClaimEntry) → entries_text flow es ++ entries_text flow fs ≡ entries_text flow (es ++ fs)
text-append flow es fs =
    sym (ap text_of (map-append (entry_words flow) es fs) ∙ flat_map-append line_text (map (entry_words flow) es) (map (entry_words flow) fs))

cuts-printed : (flow : Dataflow) (cuts : List Cut) (ids : List ℕ) → flat_map (λ p. cut_line (node_at flow p).name (get_or cuts p Present)) ids ≡ entries_text flow (map (cut_entry cuts) ids)
cuts-printed flow cuts [] = refl
cuts-printed flow cuts (p ∷ ps) =
    ap (λ t. t ++ flat_map (λ q. cut_line (node_at flow q).name (get_or cuts q Present)) ps) (line-cut flow p (get_or cuts p Present))
    ∙ ap (λ t. line_text (entry_words flow (cut_entry cuts p)) ++ t) (cuts-printed flow cuts ps)

downs-printed : (flow : Dataflow) (ls : List Lowering) → down_lines flow ls ≡ entries_text flow (downs ls)
downs-printed flow [] = refl
downs-printed flow (l ∷ ls) = ap (λ t. t ++ down_lines flow ls) (line-down flow l) ∙ ap (λ t. line_text (entry_words flow (entry.Down l)) ++ t) (downs-printed flow ls)

longer : (b : ℕ) (t rest : List ℕ) → length rest + 1 ≤ length ((b ∷ t) ++ rest)
longer b t rest = omega (arith, length-append (b ∷ t) rest)

-- a text has a byte or more for each lowering
few-lowerings : (flow : Dataflow) (ls : List Lowering) → length ls ≤ length (down_lines flow ls)
few-lowerings flow [] = omega arith
few-lowerings flow (l ∷ ls) =
    let rest = codes "own " ++ (node_at flow l.node).name ++ codes " " ++ part_text l.part ++ codes " " ++ cut_text l.to ++ codes " by " ++ cause_text flow l.by ++ codes "\n" in
    let more : length (down_lines flow ls) + 1 ≤ length (down_lines flow (l ∷ ls)) = longer 100 rest (down_lines flow ls) in
    omega (arith, more, few-lowerings flow ls)

-- ---- a choice

-- the lines of a choice's cuts, of lowerings and of their number
abbrev chosen_entries : Dataflow → List Cut → List Lowering → List ClaimEntry
chosen_entries flow cuts ls = map (cut_entry cuts) (node_ids flow) ++ (downs ls ++ entry.End (Value (length ls)) true ∷ [])

choice-printed : (flow : Dataflow) (ls : List Lowering) (cuts : List Cut) → choice_text flow ls cuts ≡ entries_text flow (chosen_entries flow cuts ls)
choice-printed flow ls cuts =
    let end = entry.End (Value (length ls)) true in
    ap (λ t. cut_lines flow cuts ++ (down_lines flow ls ++ t)) (line-yes flow (length ls) ∙ sym (append-nil (line_text (entry_words flow end))))
    ∙ ap (λ t. cut_lines flow cuts ++ (t ++ entries_text flow (end ∷ []))) (downs-printed flow ls)
    ∙ ap (λ t. cut_lines flow cuts ++ t) (text-append flow (downs ls) (end ∷ []))
    ∙ ap (λ t. t ++ entries_text flow (downs ls ++ end ∷ [])) (cuts-printed flow cuts (node_ids flow))
    ∙ text-append flow (map (cut_entry cuts) (node_ids flow)) (downs ls ++ end ∷ [])

-- the cuts are of the dataflow, one for each node
record AreCutsOf (flow : Dataflow) (cuts : List Cut) : Type 0 where
  one_each : length cuts ≡ length flow.nodes
  canonical : (p : ℕ) → p < length flow.nodes → IsCanonicalCut (bounds_of flow p) (get_or cuts p Present)

chosen-in : (flow : Dataflow) (cuts : List Cut) (ls : List Lowering) → AreCutsOf flow cuts → AllByRecursion (IsLoweringIn flow) ls → length ls < 2 ^ 64 → AllByRecursion (IsEntryIn flow) (chosen_entries flow cuts ls)
chosen-in flow cuts ls of_flow is few =
    each-append (IsEntryIn flow) (map (cut_entry cuts) (node_ids flow)) (downs ls ++ entry.End (Value (length ls)) true ∷ [])
    (each-mapped (λ p. (p < length flow.nodes) × IsCanonicalCut (bounds_of flow p) (get_or cuts p Present)) (IsEntryIn flow) (cut_entry cuts) (λ p h. h) (node_ids flow)
    (each-place (λ p. (p < length flow.nodes) × IsCanonicalCut (bounds_of flow p) (get_or cuts p Present)) 0 (length flow.nodes)
    (λ p low high. let below : p < length flow.nodes = omega (arith, high) in (below, of_flow.canonical p below))))
    (each-append (IsEntryIn flow) (downs ls) (entry.End (Value (length ls)) true ∷ []) (each-mapped (IsLoweringIn flow) (IsEntryIn flow) (λ l. entry.Down l) (λ l h. h) ls is) (few, tt))

chosen-sound : (flow : Dataflow) (cuts : List Cut) (ls : List Lowering) → AreCutsOf flow cuts → AllByRecursion (IsLoweringIn flow) ls → AreSoundAfter flow [] (chosen_entries flow cuts ls)
chosen-sound flow cuts ls of_flow is =
    let first = map (cut_entry cuts) (node_ids flow) in
    let end = entry.End (Value (length ls)) true in
    let unended = both-open first (downs ls) (cuts-open cuts (node_ids flow)) (downs-open ls) in
    let none = first-none none_told (first ++ downs ls) (each-append (λ e. none_told e ≡ None) first (downs ls) (cuts-none cuts (node_ids flow)) (downs-none ls)) in
    let told = each-place (λ p. first_told (cut_told p) (first ++ downs ls) ≡ Some (get_or cuts p Present)) 0 (length flow.nodes) (λ p low high. told-cut cuts (downs ls) p 0 (length flow.nodes) low high) in
    let count = filter_map-append lowering_told first (downs ls) ∙ ap (λ xs. xs ++ filter_map lowering_told (downs ls)) (no-lowerings cuts (node_ids flow)) ∙ own-alone ls in
    sound-append flow [] first (downs ls ++ end ∷ [])
    (cuts-sound flow cuts [] 0 (length flow.nodes) refl (λ p low. refl) (λ p low high. of_flow.canonical p (omega (arith, high))))
    (sound-append flow first (downs ls) (end ∷ []) (lowerings-sound flow first ls (cuts-open cuts (node_ids flow)) is)
    (end-sound flow (first ++ downs ls) (length ls) true unended (ap length count)
    (and_from (is_none (first_told none_told (first ++ downs ls))) (list_all (λ p. is_some (first_told (cut_told p) (first ++ downs ls))) (node_ids flow)) (ap is_none none)
    (all-tested (λ p. first_told (cut_told p) (first ++ downs ls) ≡ Some (get_or cuts p Present)) (λ p. is_some (first_told (cut_told p) (first ++ downs ls))) (node_ids flow) (λ p e. ap is_some e) told))))

chosen-claim : (flow : Dataflow) (cuts : List Cut) (ls : List Lowering) → length cuts ≡ length flow.nodes → claim_of flow (chosen_entries flow cuts ls) ≡ claim_with ls (Largest cuts)
chosen-claim flow cuts ls one_each =
    let first = map (cut_entry cuts) (node_ids flow) in
    let rest = downs ls ++ entry.End (Value (length ls)) true ∷ [] in
    let all = first ++ rest in
    let lowered = filter_map-append lowering_told first rest ∙ ap (λ xs. xs ++ filter_map lowering_told rest) (no-lowerings cuts (node_ids flow)) ∙ own-lowerings ls (entry.End (Value (length ls)) true ∷ []) ∙ append-nil ls in
    let none =
    first-none none_told all
    (each-append (λ e. none_told e ≡ None) first rest (cuts-none cuts (node_ids flow)) (each-append (λ e. none_told e ≡ None) (downs ls) (entry.End (Value (length ls)) true ∷ []) (downs-none ls) (refl, tt))) in
    let told = each-place (λ p. first_told (cut_told p) all ≡ Some (get_or cuts p Present)) 0 (length flow.nodes) (λ p low high. told-cut cuts rest p 0 (length flow.nodes) low high) in
    let same = found-all (λ p. first_told (cut_told p) all) (λ p. get_or cuts p Present) (node_ids flow) told ∙ sym (fill_by_all (λ p. get_or cuts p Present) cuts (length flow.nodes) Present one_each (λ k below. refl)) in
    ap (λ xs. claim_with xs (unwrap_or (first_told none_told all) (Largest (cuts_told flow all)))) lowered
    ∙ ap (λ o. claim_with ls (unwrap_or o (Largest (cuts_told flow all)))) none
    ∙ ap (λ xs. claim_with ls (Largest xs)) same

-- ---- that there is none

-- the lines of lowerings, of the node of which no cut is left, and of their number
abbrev none_entries : List Lowering → ℕ → Option Cause → List ClaimEntry
none_entries ls p c = downs ls ++ entry.NoneLeft p c ∷ entry.End (Value (length ls)) false ∷ []

none-printed : (flow : Dataflow) (ls : List Lowering) (p : ℕ) (c : Option Cause) → none_text flow ls p c ≡ entries_text flow (none_entries ls p c)
none-printed flow ls p c =
    let none = entry.NoneLeft p c in
    let end = entry.End (Value (length ls)) false in
    append_assoc (down_lines flow ls) (none_line flow p c) (none_count_line (length ls))
    ∙ ap (λ t. down_lines flow ls ++ (none_line flow p c ++ t)) (line-no_choice flow (length ls) ∙ sym (append-nil (line_text (entry_words flow end))))
    ∙ ap (λ t. down_lines flow ls ++ (t ++ entries_text flow (end ∷ []))) (line-none flow p c)
    ∙ ap (λ t. t ++ entries_text flow (none ∷ end ∷ [])) (downs-printed flow ls)
    ∙ text-append flow (downs ls) (none ∷ end ∷ [])

none-in : (flow : Dataflow) (ls : List Lowering) (p : ℕ) (c : Option Cause) → IsEntryIn flow (entry.NoneLeft p c) → AllByRecursion (IsLoweringIn flow) ls → length ls < 2 ^ 64 → AllByRecursion (IsEntryIn flow) (none_entries ls p c)
none-in flow ls p c there is few =
    each-append (IsEntryIn flow) (downs ls) (entry.NoneLeft p c ∷ entry.End (Value (length ls)) false ∷ [])
    (each-mapped (IsLoweringIn flow) (IsEntryIn flow) (λ l. entry.Down l) (λ l h. h) ls is) (there, (few, tt))

none-sound : (flow : Dataflow) (ls : List Lowering) (p : ℕ) (c : Option Cause) → AllByRecursion (IsLoweringIn flow) ls → AreSoundAfter flow [] (none_entries ls p c)
none-sound flow ls p c is =
    let none = entry.NoneLeft p c in
    let end = entry.End (Value (length ls)) false in
    let before = downs ls ++ none ∷ [] in
    let new : is_none (first_told none_told (downs ls)) ≡ true = ap is_none (first-none none_told (downs ls) (downs-none ls)) in
    let told : first_told none_told before ≡ Some (NoneLeft p c) = first-behind none_told (downs ls) (none ∷ []) (downs-none ls) in
    let unended : list_any is_end before ≡ false = both-open (downs ls) (none ∷ []) (downs-open ls) refl in
    let count : filter_map lowering_told before ≡ ls = own-lowerings ls (none ∷ []) ∙ append-nil ls in
    let no_cut = λ (q : ℕ). ap is_none (first-none (cut_told q) before (each-append (λ e. cut_told q e ≡ None) (downs ls) (none ∷ []) (downs-no_cut q ls) (refl, tt))) in
    let fits =
    and_from (is_some (first_told none_told before)) (list_all (λ q. is_none (first_told (cut_told q) before)) (node_ids flow)) (ap is_some told)
    (all-tested (λ q. Unit {0}) (λ q. is_none (first_told (cut_told q) before)) (node_ids flow) (λ q h. no_cut q) (all-each (λ q. Unit {0}) (λ q. tt) (node_ids flow))) in
    sound-append flow [] (downs ls) (none ∷ end ∷ []) (lowerings-sound flow [] ls refl is)
    (downs-open ls, ap (λ b. cond b None (Some C4)) new, end-sound flow before (length ls) false unended (ap length count) fits)

none-claim : (flow : Dataflow) (ls : List Lowering) (p : ℕ) (c : Option Cause) → claim_of flow (none_entries ls p c) ≡ claim_with ls (NoneLeft p c)
none-claim flow ls p c =
    let rest = entry.NoneLeft p c ∷ entry.End (Value (length ls)) false ∷ [] in
    let all = downs ls ++ rest in
    ap (λ xs. claim_with xs (unwrap_or (first_told none_told all) (Largest (cuts_told flow all)))) (own-lowerings ls rest ∙ append-nil ls)
    ∙ ap (λ o. claim_with ls (unwrap_or o (Largest (cuts_told flow all)))) (first-behind none_told (downs ls) rest (downs-none ls))

-- ---- what is found is of the dataflow

offered-canonical : (flow : Dataflow) (offers : List Offer) (p : ℕ) (cut : Cut) → IsOffered flow offers p cut → IsCanonicalCut (bounds_of flow p) cut
offered-canonical flow offers p Present h = tt
offered-canonical flow offers p (At f) h = h.0

side-owned : (flow : Dataflow) → IsWellFormed flow → (side : Side) → IsSideOfFlow flow side → owner flow side < length flow.nodes
side-owned flow w (Delivered d) lt = w.receivers_declared d lt
side-owned flow w (Discarded e) lt = w.senders_declared e lt
side-owned flow w (Notified p) lt = lt

limit-owned : (flow : Dataflow) → IsWellFormed flow → (limit : Limit) → IsLimitIn flow limit → note_node flow limit < length flow.nodes
limit-owned flow w (Own p) lt = lt
limit-owned flow w (Note d) lt = w.receivers_declared d lt

inclusion-owned : (flow : Dataflow) → IsWellFormed flow → (i : Inclusion) → IsInclusionOf flow i → node_of flow i < length flow.nodes
inclusion-owned flow w (OfCut side) lt = side-owned flow w side lt
inclusion-owned flow w (OfNote limit) lt = limit-owned flow w limit lt

cause-in : (flow : Dataflow) (i : Inclusion) → IsInclusionOf flow i → IsCauseIn flow (cause_of i)
cause-in flow (OfCut (Delivered d)) lt = lt
cause-in flow (OfCut (Discarded e)) lt = lt
cause-in flow (OfCut (Notified p)) lt = tt
cause-in flow (OfNote (Own p)) lt = tt
cause-in flow (OfNote (Note d)) lt = lt

value-canonical : (flow : Dataflow) (offers : List Offer) (choice : Choice) (i : Inclusion) (x : Cut) → IsValueLeft flow (covers_of flow offers) (IsOffered flow offers) choice i x → IsCanonicalCut (bounds_of flow (node_of flow i)) x
value-canonical flow offers choice (OfCut side) x h = offered-canonical flow offers (owner flow side) x h.offered
value-canonical flow offers choice (OfNote limit) Present h = absurd h
value-canonical flow offers choice (OfNote limit) (At f) h = h.canonical

lowering-in : (flow : Dataflow) (offers : List Offer) (choice next : Choice) (l : Lowering) → IsWellFormed flow → IsRightLowering flow (covers_of flow offers) (IsOffered flow offers) choice l next → IsLoweringIn flow l
lowering-in flow offers choice next l w r =
    let of_flow : IsLoweringIn flow (lowering_of flow r.inclusion l.to) = record {
      there = inclusion-owned flow w r.inclusion r.of_flow;
      canonical = value-canonical flow offers choice r.inclusion l.to r.greatest.left;
      cause = cause-in flow r.inclusion r.of_flow;
    } in
    subst (IsLoweringIn flow) (sym r.told) of_flow

lowerings-in : (flow : Dataflow) (offers : List Offer) (ls : List Lowering) (choice end : Choice) → IsWellFormed flow → LeadRight flow (covers_of flow offers) (IsOffered flow offers) choice ls end → AllByRecursion (IsLoweringIn flow) ls
lowerings-in flow offers [] choice end w h = tt
lowerings-in flow offers (l ∷ ls) choice end w h = (lowering-in flow offers choice h.0 l w h.1, lowerings-in flow offers ls h.0 end w h.2)

small : (n m k : ℕ) → n ≤ m → m ≤ k → k ≤ choice_size_limit → n < 2 ^ 64
small n m k h i j = omega (arith, h, i, j)

-- ---- what is printed

pub chosen-read_back : (flow : Dataflow) (offers : List Offer) (text : List ℕ) → IsNamed flow → IsChosenText flow offers text → length text ≤ choice_size_limit → IsRightCertificate text flow offers
chosen-read_back flow offers text h chosen short =
    let ls = chosen.trail in
    let cuts = chosen.choice.cuts in
    let certificate = trail-certificate flow offers ls chosen.choice chosen.leads in
    let is = lowerings-in flow offers ls certificate.start chosen.choice h.well_formed certificate.leads in
    let of_flow : AreCutsOf flow cuts = record {
      one_each = chosen.largest.consistent.one_cut_each;
      canonical = λ p below. offered-canonical flow offers p (cut_of chosen.choice p) (chosen.largest.consistent.offered p below);
    } in
    let within : length (down_lines flow ls) ≤ length text =
    omega (arith, ap length chosen.printed, length-append (cut_lines flow cuts) (certificate_text flow ls), length-append (down_lines flow ls) (certificate_line (length ls))) in
    let few = small (length ls) (length (down_lines flow ls)) (length text) (few-lowerings flow ls) within short in
    let ended = last-ended (map (cut_entry cuts) (node_ids flow)) (downs ls ++ entry.End (Value (length ls)) true ∷ []) (last-ended (downs ls) (entry.End (Value (length ls)) true ∷ []) refl) in
    let accepted =
    entries-accepted flow h (chosen_entries flow cuts ls) text (chosen-in flow cuts ls of_flow is few) (chosen-sound flow cuts ls of_flow is) ended (chosen.printed ∙ choice-printed flow ls cuts) short in
    record {
      claim = claim_with ls (Largest cuts);
      accepted = subst (IsAcceptedCertificate text flow) (chosen-claim flow cuts ls of_flow.one_each) accepted;
      right = (chosen.choice, refl, certificate);
    }

none-lowerings : (flow : Dataflow) (offers : List Offer) (ls : List Lowering) (p : ℕ) (c : Option Cause) → IsWellFormed flow → IsNoneLeftAt flow offers ls p c → AllByRecursion (IsLoweringIn flow) ls
none-lowerings flow offers ls p None w h = subst (AllByRecursion (IsLoweringIn flow)) (sym h.0) tt
none-lowerings flow offers ls p (Some c) w d = lowerings-in flow offers ls d.dead_end.start d.dead_end.end w d.dead_end.leads

none-there : (flow : Dataflow) (offers : List Offer) (ls : List Lowering) (p : ℕ) (c : Option Cause) → IsWellFormed flow → IsNoneLeftAt flow offers ls p c → IsEntryIn flow (entry.NoneLeft p c)
none-there flow offers ls p None w h = h.1
none-there flow offers ls p (Some c) w d = (
  subst (λ q. q < length flow.nodes) (sym d.node) (side-owned flow w d.side d.dead_end.of_flow),
  subst (IsCauseIn flow) (sym d.cause) (cause-in flow (OfCut d.side) d.dead_end.of_flow),
)

pub none-read_back : (flow : Dataflow) (offers : List Offer) (text : List ℕ) → IsNamed flow → IsNoChoiceText flow offers text → length text ≤ choice_size_limit → IsRightCertificate text flow offers
none-read_back flow offers text h shown short =
    let ls = shown.lowerings in
    let p = shown.node in
    let c = shown.by in
    let is = none-lowerings flow offers ls p c h.well_formed shown.none_left in
    let there = none-there flow offers ls p c h.well_formed shown.none_left in
    let within : length (down_lines flow ls) ≤ length text =
    omega (arith, ap length shown.printed, length-append (down_lines flow ls ++ none_line flow p c) (none_count_line (length ls)), length-append (down_lines flow ls) (none_line flow p c)) in
    let few = small (length ls) (length (down_lines flow ls)) (length text) (few-lowerings flow ls) within short in
    let ended = last-ended (downs ls) (entry.NoneLeft p c ∷ entry.End (Value (length ls)) false ∷ []) refl in
    let accepted = entries-accepted flow h (none_entries ls p c) text (none-in flow ls p c there is few) (none-sound flow ls p c is) ended (shown.printed ∙ none-printed flow ls p c) short in
    record {
      claim = claim_with ls (NoneLeft p c);
      accepted = subst (IsAcceptedCertificate text flow) (none-claim flow ls p c) accepted;
      right = shown.none_left;
    }

-- so no claim of the text is said not to be right
pub never-not_shown : (flow : Dataflow) (offers : List Offer) (text line : List ℕ) (claim : Claim) → IsRightCertificate text flow offers → IsAcceptedCertificate text flow claim → IsVerifyAnswer flow offers claim line NotShown → ⊥
never-not_shown flow offers text line claim right accepted answer =
    answer.wrong (subst (IsClaimRight flow offers) (one_value text flow right.claim claim right.accepted accepted) right.right)
