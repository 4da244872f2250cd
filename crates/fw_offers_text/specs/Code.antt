-- What refusals of these texts say.
use Rattle.std.specs.Prelude.{ℕ, List, ◌++◌, codes}
use Rattle.std.specs.Fmt.{decimal}
use Rattle.fw_offers_text.specs.declared.code.ChoiceCode.{ChoiceCode}
use Rattle.fw_offers_text.specs.declared.code.ChoiceCode.TheVariants.{O1, O2, O3, O4, O5, O6, O7, O8, C1, C2, C3, C4, C5, C6}
use Rattle.fw_offers_text.specs.declared.code.ChoiceRefusal.{ChoiceRefusal}

-- the code's letter and digit
abbrev pub choice_code_text : ChoiceCode → List ℕ
choice_code_text O1 = codes "O1"
choice_code_text O2 = codes "O2"
choice_code_text O3 = codes "O3"
choice_code_text O4 = codes "O4"
choice_code_text O5 = codes "O5"
choice_code_text O6 = codes "O6"
choice_code_text O7 = codes "O7"
choice_code_text O8 = codes "O8"
choice_code_text C1 = codes "C1"
choice_code_text C2 = codes "C2"
choice_code_text C3 = codes "C3"
choice_code_text C4 = codes "C4"
choice_code_text C5 = codes "C5"
choice_code_text C6 = codes "C6"

-- `refused CODE line LINE`
abbrev pub choice_refusal_text : ChoiceRefusal → List ℕ
choice_refusal_text refusal = codes "refused " ++ (choice_code_text refusal.code ++ (codes " line " ++ decimal refusal.line))
