-- What lines of a certificate tell, with one more.
use Rattle.std.proofs.Common.{◌≡◌, ℕ, ◌<◌, Bool, true, false, ◌&&◌, ◌||◌, ◌==◌, cond, List, [], ◌∷◌, ◌++◌, map, length, Option, Some, None, unwrap_or, refl, sym, ◌∙◌, ap, subst, arith, set, get_or}
use Rattle.std.proofs.lemmas.List.{append-nil, map-id}
use Rattle.std.proofs.lemmas.List.Elements.{filter_map-append}
use Rattle.std.proofs.lemmas.List.Folds.{list_any-append, list_all-map}
use Rattle.std.proofs.lemmas.List.FromFn.{get_or-map-range_with_len, length-map-range_with_len}
use Rattle.std.specs.List.{list_any, list_all, filter_map, cons_option}
use Rattle.std.specs.Option.{is_none, is_some, option_or}
use Rattle.fw_flow.specs.declared.choice.Cut.{Cut}
use Rattle.fw_flow.specs.declared.trail.Lowering.{Lowering}
use Rattle.fw_flow.specs.Dataflow.{Dataflow, node_ids}
use Rattle.fw_offers_text.specs.CertificateGrammar.{cut_told, none_told, lowering_told, is_end, is_number, is_entry_in_domain, is_new_entry, is_end_right, fits_the_end, entry_fault, claim_of}
use Rattle.fw_offers_text.specs.ClaimDraft.{ClaimTold, claimed_by, with_entry, is_fit_to_end, fault_behind, claim_from, IsEntryOfFlow}
use Rattle.fw_offers_text.specs.declared.claim.Claim.{Claim}
use Rattle.fw_offers_text.specs.declared.claim.Ending.{Ending}
use Rattle.fw_offers_text.specs.declared.claim.Ending.TheVariants as ending
use Rattle.fw_offers_text.specs.declared.claim.ClaimEntry.{ClaimEntry}
use Rattle.fw_offers_text.specs.declared.claim.ClaimEntry.TheVariants.{Cut as CutLine, Down, NoneLeft, End}
use Rattle.fw_offers_text.specs.declared.code.ChoiceCode.TheVariants.{C3, C4, C5}
use Rattle.fw_offers_text.specs.Faults.{first_broken}
use Rattle.fw_offers_text.specs.Statements.{first_told}
use Rattle.fw_offers_text.proofs.ToldLaws.{or_none, none_or, true_option, false_option, first_more, map-set, map-same}
use Rattle.fw_lemmas.proofs.Numbers.{eqb-self}
use Rattle.std.proofs.Math.Bool.{or-false, or-true}

abbrev claim_with : List (Option Cut) → List Lowering → Option Ending → Bool → ClaimTold
claim_with a b c d = record { cuts = a; lowerings = b; none_left = c; ended = d }

same_claim : (a a' : List (Option Cut)) (b b' : List Lowering) (c c' : Option Ending) (d d' : Bool) → a ≡ a' → b ≡ b' → c ≡ c' → d ≡ d' → claim_with a b c d ≡ claim_with a' b' c' d'
same_claim a a' b b' c c' d d' i j k l = ap (λ x. claim_with x b c d) i ∙ ap (λ x. claim_with a' x c d) j ∙ ap (λ x. claim_with a' b' x d) k ∙ ap (λ x. claim_with a' b' c' x) l

pub cut_more : (entries : List ClaimEntry) (e : ClaimEntry) (p : ℕ) → first_told (cut_told p) (entries ++ e ∷ []) ≡ option_or (first_told (cut_told p) entries) (cut_told p e)
cut_more entries e p = first_more (cut_told p) entries e

-- a line that tells no cut of a node
cuts_kept : (flow : Dataflow) (entries : List ClaimEntry) (e : ClaimEntry) → ((p : ℕ) → cut_told p e ≡ None)
    → map (λ p. first_told (cut_told p) entries) (node_ids flow) ≡ map (λ p. first_told (cut_told p) (entries ++ e ∷ [])) (node_ids flow)
cuts_kept flow entries e h =
    map-same (λ p. first_told (cut_told p) entries) (λ p. first_told (cut_told p) (entries ++ e ∷ [])) (node_ids flow)
    (λ p. sym (cut_more entries e p ∙ ap (option_or (first_told (cut_told p) entries)) (h p) ∙ or_none (first_told (cut_told p) entries)))

cut_among : (flow : Dataflow) (entries : List ClaimEntry) (p : ℕ) → p < length flow.nodes → get_or (claimed_by flow entries).cuts p None ≡ first_told (cut_told p) entries
cut_among flow entries p below = get_or-map-range_with_len (λ q. first_told (cut_told q) entries) 0 (length flow.nodes) p p None below (omega arith)

pub cuts_of_all : (flow : Dataflow) (entries : List ClaimEntry) → length (claimed_by flow entries).cuts ≡ length flow.nodes
cuts_of_all flow entries = length-map-range_with_len (λ q. first_told (cut_told q) entries) 0 (length flow.nodes)

cuts_set : (flow : Dataflow) (entries : List ClaimEntry) (p : ℕ) (cut : Cut) → p < length flow.nodes → is_none (get_or (claimed_by flow entries).cuts p None) ≡ true
    → set (map (λ q. first_told (cut_told q) entries) (node_ids flow)) p (Some cut) ≡ map (λ q. first_told (cut_told q) (entries ++ CutLine p cut ∷ [])) (node_ids flow)
cuts_set flow entries p cut below free =
    map-set (λ q. first_told (cut_told q) entries) (λ q. first_told (cut_told q) (entries ++ CutLine p cut ∷ [])) (length flow.nodes) p (Some cut) below
    (sym (cut_more entries (CutLine p cut) p ∙ none_or (first_told (cut_told p) entries) (cut_told p (CutLine p cut)) (subst (λ o. is_none o ≡ true) (cut_among flow entries p below) free) ∙ true_option (p == p) cut (eqb-self p)))
    (λ q other. sym (cut_more entries (CutLine p cut) q ∙ ap (option_or (first_told (cut_told q) entries)) (false_option (p == q) cut other) ∙ or_none (first_told (cut_told q) entries)))

pub lowerings_more : (entries : List ClaimEntry) (e : ClaimEntry) → filter_map lowering_told (entries ++ e ∷ []) ≡ filter_map lowering_told entries ++ cons_option (lowering_told e) []
lowerings_more entries e = filter_map-append lowering_told entries (e ∷ [])

lowerings_kept : (entries : List ClaimEntry) (e : ClaimEntry) → lowering_told e ≡ None → filter_map lowering_told entries ≡ filter_map lowering_told (entries ++ e ∷ [])
lowerings_kept entries e h = sym (lowerings_more entries e ∙ ap (λ o. filter_map lowering_told entries ++ cons_option o []) h ∙ append-nil (filter_map lowering_told entries))

pub none_kept : (entries : List ClaimEntry) (e : ClaimEntry) → none_told e ≡ None → first_told none_told entries ≡ first_told none_told (entries ++ e ∷ [])
none_kept entries e h = sym (first_more none_told entries e ∙ ap (option_or (first_told none_told entries)) h ∙ or_none (first_told none_told entries))

pub end_kept : (entries : List ClaimEntry) (e : ClaimEntry) → is_end e ≡ false → list_any is_end entries ≡ list_any is_end (entries ++ e ∷ [])
end_kept entries e h = sym (list_any-append is_end entries (e ∷ []) ∙ ap (λ b. list_any is_end entries || (b || false)) h ∙ or-false (list_any is_end entries))

-- ---- one line more

if_none : {A : Type 0} (b : Bool) (a : A) → cond b None (Some a) ≡ None → b ≡ true
if_none true a h = refl
if_none false a h = absurd (cc)

pub entry_more : (flow : Dataflow) (entries : List ClaimEntry) (e : ClaimEntry) → IsEntryOfFlow flow e → fault_behind (claimed_by flow entries) e ≡ None
    → with_entry (claimed_by flow entries) e ≡ claimed_by flow (entries ++ e ∷ [])
entry_more flow entries (CutLine p cut) there h = same_claim _ _ _ _ _ _ _ _
    (cuts_set flow entries p cut there (if_none (is_none (get_or (claimed_by flow entries).cuts p None)) C4 h)) (lowerings_kept entries (CutLine p cut) refl) (none_kept entries (CutLine p cut) refl) (end_kept entries (CutLine p cut) refl)
entry_more flow entries (Down l) there h = same_claim _ _ _ _ _ _ _ _
    (cuts_kept flow entries (Down l) (λ p. refl)) (sym (lowerings_more entries (Down l))) (none_kept entries (Down l) refl) (end_kept entries (Down l) refl)
entry_more flow entries (NoneLeft p by) there h = same_claim _ _ _ _ _ _ _ _
    (cuts_kept flow entries (NoneLeft p by) (λ q. refl)) (lowerings_kept entries (NoneLeft p by) refl)
    (sym (first_more none_told entries (NoneLeft p by) ∙ none_or (first_told none_told entries) (Some (ending.NoneLeft p by)) (if_none (is_none (first_told none_told entries)) C4 h)))
    (end_kept entries (NoneLeft p by) refl)
entry_more flow entries (End number at_choice) there h = same_claim _ _ _ _ _ _ _ _
    (cuts_kept flow entries (End number at_choice) (λ p. refl)) (lowerings_kept entries (End number at_choice) refl) (none_kept entries (End number at_choice) refl)
    (sym (list_any-append is_end entries (End number at_choice ∷ []) ∙ or-true (list_any is_end entries)))

-- ---- the rules

fit_same : (flow : Dataflow) (entries : List ClaimEntry) (at_choice : Bool) → fits_the_end flow entries at_choice ≡ is_fit_to_end (claimed_by flow entries) at_choice
fit_same flow entries true = ap (λ b. is_none (first_told none_told entries) && b) (sym (list_all-map (λ (cut : Option Cut). is_some cut) (λ p. first_told (cut_told p) entries) (node_ids flow)))
fit_same flow entries false = ap (λ b. is_some (first_told none_told entries) && b) (sym (list_all-map (λ (cut : Option Cut). is_none cut) (λ p. first_told (cut_told p) entries) (node_ids flow)))

behind : (b : Bool) → first_broken ((C4, b) ∷ (C5, true) ∷ []) ≡ cond b None (Some C4)
behind true = refl
behind false = refl

at_end : (b : Bool) → first_broken ((C4, true) ∷ (C5, b) ∷ []) ≡ cond b None (Some C5)
at_end true = refl
at_end false = refl

after_domain : (flow : Dataflow) (entries : List ClaimEntry) (e : ClaimEntry) → IsEntryOfFlow flow e → first_broken ((C4, is_new_entry entries e) ∷ (C5, is_end_right flow entries e) ∷ []) ≡ fault_behind (claimed_by flow entries) e
after_domain flow entries (CutLine p cut) there = behind (is_none (first_told (cut_told p) entries)) ∙ ap (λ o. cond (is_none o) None (Some C4)) (sym (cut_among flow entries p there))
after_domain flow entries (Down l) there = refl
after_domain flow entries (NoneLeft p by) there = behind (is_none (first_told none_told entries))
after_domain flow entries (End number at_choice) there =
    at_end (is_end_right flow entries (End number at_choice))
    ∙ ap (λ b. cond (is_number (length (filter_map lowering_told entries)) number && b) None (Some C5)) (fit_same flow entries at_choice)

-- a line of stamps in their domains breaks the rule that is told by what is kept
pub entry_fault_told : (flow : Dataflow) (entries : List ClaimEntry) (e : ClaimEntry) → IsEntryOfFlow flow e → is_entry_in_domain flow e ≡ true → entry_fault flow entries e ≡ fault_behind (claimed_by flow entries) e
entry_fault_told flow entries e there small =
    ap (λ b. first_broken ((C3, b) ∷ (C4, is_new_entry entries e) ∷ (C5, is_end_right flow entries e) ∷ [])) small ∙ after_domain flow entries e there

-- ---- what is claimed

some-map : {A B : Type 0} (f : A → Option B) (xs : List A) → filter_map (λ (o : Option B). o) (map f xs) ≡ filter_map f xs
some-map f [] = refl
some-map f (x ∷ xs) = ap (cons_option (f x)) (some-map f xs)

pub claim_told : (flow : Dataflow) (entries : List ClaimEntry) → claim_from (claimed_by flow entries) ≡ claim_of flow entries
claim_told flow entries = ap with_cuts (some-map (λ p. first_told (cut_told p) entries) (node_ids flow))
  where
    with_cuts : List Cut → Claim
    with_cuts cuts = record { lowerings = filter_map lowering_told entries; ending = unwrap_or (first_told none_told entries) (ending.Largest cuts) }

-- ---- the cuts that were told

-- with one more
pub kept_more : {A : Type 0} (yielded : List (Option A)) (o : Option A) (told new : List A) → told ≡ filter_map (λ (x : Option A). x) yielded → new ≡ told ++ cons_option o []
    → new ≡ filter_map (λ (x : Option A). x) (yielded ++ o ∷ [])
kept_more {A} yielded o told new before more = more ∙ ap (λ xs. xs ++ cons_option o []) before ∙ sym (filter_map-append (λ (x : Option A). x) yielded (o ∷ []))

-- with all
pub kept_all : {A : Type 0} (yielded all : List (Option A)) (told : List A) → told ≡ filter_map (λ (x : Option A). x) yielded → map (λ (x : Option A). x) yielded ≡ all → told ≡ filter_map (λ (x : Option A). x) all
kept_all yielded all told before e = before ∙ ap (filter_map (λ x. x)) (sym (map-id yielded) ∙ e)

-- ---- the claim of what was told

abbrev claim_to : List Lowering → Ending → Claim
claim_to lowerings where_to = record { lowerings = lowerings; ending = where_to }

-- a node is told of which no cut is left
pub claim_left : (told : ClaimTold) (lowerings : List Lowering) (where_to : Ending) → lowerings ≡ told.lowerings → Some where_to ≡ told.none_left → claim_to lowerings where_to ≡ claim_from told
claim_left told lowerings where_to same is =
    ap (λ ls. claim_to ls where_to) same ∙ ap (λ o. claim_to told.lowerings (unwrap_or o (ending.Largest (filter_map (λ (cut : Option Cut). cut) told.cuts)))) is

-- none is
pub claim_largest : (told : ClaimTold) (lowerings : List Lowering) (where_to : Ending) (cuts : List Cut) → lowerings ≡ told.lowerings → None ≡ told.none_left → where_to ≡ ending.Largest cuts
    → cuts ≡ filter_map (λ (cut : Option Cut). cut) told.cuts → claim_to lowerings where_to ≡ claim_from told
claim_largest told lowerings where_to cuts same is to kept =
    ap (λ ls. claim_to ls where_to) same
    ∙ ap (claim_to told.lowerings) (to ∙ ap ending.Largest kept ∙ ap (λ o. unwrap_or o (ending.Largest (filter_map (λ (cut : Option Cut). cut) told.cuts))) is)
