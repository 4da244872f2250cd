-- What the reader of certificates keeps of the lines so far: it is enough to judge the next one, and to tell what is claimed.
use Rattle.std.specs.Prelude.{◌≡◌, ◌<◌, Bool, true, ◌&&◌, List, [], ◌∷◌, ◌++◌, map, length, slice_index_or, slice_set, if◌then◌else◌, Option, Some, None, unwrap_or, Result, Ok, Err}
use Rattle.std.specs.List.{list_any, list_all, filter_map, cons_option}
use Rattle.std.specs.Option.{is_none, is_some}
use Rattle.std.specs.Result.{result_ok}
use Rattle.fw_flow.specs.declared.choice.Cut.{Cut}
use Rattle.fw_flow.specs.declared.trail.Lowering.{Lowering}
use Rattle.fw_flow.specs.Dataflow.{Dataflow, node_ids}
use Rattle.fw_offers_text.specs.CertificateGrammar.{words_claim, cut_told, none_told, lowering_told, is_end, is_number, claimed_fault}
use Rattle.fw_offers_text.specs.declared.claim.Claim.{Claim}
use Rattle.fw_offers_text.specs.declared.claim.Ending.{Ending}
use Rattle.fw_offers_text.specs.declared.claim.Ending.TheVariants as ending
use Rattle.fw_offers_text.specs.declared.claim.ClaimEntry.{ClaimEntry}
use Rattle.fw_offers_text.specs.declared.claim.ClaimEntry.TheVariants.{Cut as CutLine, Down, NoneLeft, End}
use Rattle.fw_offers_text.specs.declared.code.ChoiceCode.{ChoiceCode}
use Rattle.fw_offers_text.specs.declared.code.ChoiceCode.TheVariants.{C4, C5}
use Rattle.fw_offers_text.specs.Statements.{first_told}
use Rattle.fw_offers_text.specs.Words.{Word}

-- what is told: to what each node is cut, the lowerings, a node of which no cut is left; and whether the last line was there
pub record ClaimTold : Type 0 where
  pub cuts : List (Option Cut)
  pub lowerings : List Lowering
  pub none_left : Option Ending
  pub ended : Bool

-- what lines tell
abbrev pub claimed_by : Dataflow → List ClaimEntry → ClaimTold
claimed_by flow entries = record {
  cuts = map (λ p. first_told (cut_told p) entries) (node_ids flow);
  lowerings = filter_map lowering_told entries;
  none_left = first_told none_told entries;
  ended = list_any is_end entries;
}

-- the node of a line is the dataflow's
abbrev pub IsEntryOfFlow : Dataflow → ClaimEntry → Type 0
IsEntryOfFlow flow (CutLine p cut) = p < length flow.nodes
IsEntryOfFlow flow (Down l) = Unit {0}
IsEntryOfFlow flow (NoneLeft p by) = Unit {0}
IsEntryOfFlow flow (End number at_choice) = Unit {0}

-- a place for the node of a line is there
abbrev pub EntryFits : ClaimTold → ClaimEntry → Type 0
EntryFits told (CutLine p cut) = p < length told.cuts
EntryFits told (Down l) = Unit {0}
EntryFits told (NoneLeft p by) = Unit {0}
EntryFits told (End number at_choice) = Unit {0}

-- what is told, with a line more
abbrev pub with_entry : ClaimTold → ClaimEntry → ClaimTold
with_entry told (CutLine p cut) = record told { cuts = slice_set told.cuts p (Some cut) }
with_entry told (Down l) = record told { lowerings = told.lowerings ++ l ∷ [] }
with_entry told (NoneLeft p by) = record told { none_left = Some (ending.NoneLeft p by) }
with_entry told (End number at_choice) = record told { ended = true }

-- whether each node is cut and none is told to have no cut left, or the other way round
abbrev pub is_fit_to_end : ClaimTold → Bool → Bool
is_fit_to_end told at_choice =
    if at_choice then is_none told.none_left && list_all (λ (cut : Option Cut). is_some cut) told.cuts
    else is_some told.none_left && list_all (λ (cut : Option Cut). is_none cut) told.cuts

-- the first rule behind C3 that a line breaks
abbrev pub fault_behind : ClaimTold → ClaimEntry → Option ChoiceCode
fault_behind told (CutLine p cut) = if is_none (slice_index_or told.cuts p None) then None else Some C4
fault_behind told (Down l) = None
fault_behind told (NoneLeft p by) = if is_none told.none_left then None else Some C4
fault_behind told (End number at_choice) =
    if is_number (length told.lowerings) number && is_fit_to_end told at_choice then None else Some C5

-- what words tell, if they break no rule by themselves
abbrev pub entries_said : Dataflow → List Word → List ClaimEntry
entries_said flow words = cons_option (result_ok (words_claim flow words)) []

-- The words are taken where they break no rule behind what is told, before the last line: then what they say is told too; and else the
-- rule is the first that they break.
abbrev pub IsEnteredOrFault : Dataflow → List Word → ClaimTold → ClaimTold → Result (Unit {0}) ChoiceCode → Type 0
IsEnteredOrFault flow words old new (Ok done) =
    (entries : List ClaimEntry) → old ≡ claimed_by flow entries
    → (claimed_fault flow entries (words_claim flow words) ≡ None) × (new ≡ claimed_by flow (entries ++ entries_said flow words))
IsEnteredOrFault flow words old new (Err code) =
    (entries : List ClaimEntry) → old ≡ claimed_by flow entries → claimed_fault flow entries (words_claim flow words) ≡ Some code

-- the claim of which this is told
abbrev pub claim_from : ClaimTold → Claim
claim_from told = record {
  lowerings = told.lowerings;
  ending = unwrap_or told.none_left (ending.Largest (filter_map (λ (cut : Option Cut). cut) told.cuts));
}
