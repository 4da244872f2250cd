-- What refusals say.
use Rattle.std.specs.Prelude.{ℕ, List, ◌++◌, codes}
use Rattle.std.specs.Fmt.{decimal}
use Rattle.fw_lines.specs.declared.refusal.Code.{Code}
use Rattle.fw_lines.specs.declared.refusal.Code.TheVariants.{F1, F2, F3, F4, F5, F6, F7, F8, F9, F10, F11, I1, I2, I3, I4, I5, S1, S2, S3, S4, F12}
use Rattle.fw_lines.specs.declared.refusal.Refusal.{Refusal}

-- the code's letter and digits
abbrev pub code_text : Code → List ℕ
code_text F1 = codes "F1"
code_text F2 = codes "F2"
code_text F3 = codes "F3"
code_text F4 = codes "F4"
code_text F5 = codes "F5"
code_text F6 = codes "F6"
code_text F7 = codes "F7"
code_text F8 = codes "F8"
code_text F9 = codes "F9"
code_text F10 = codes "F10"
code_text F11 = codes "F11"
code_text F12 = codes "F12"
code_text I1 = codes "I1"
code_text I2 = codes "I2"
code_text I3 = codes "I3"
code_text I4 = codes "I4"
code_text I5 = codes "I5"
code_text S1 = codes "S1"
code_text S2 = codes "S2"
code_text S3 = codes "S3"
code_text S4 = codes "S4"

-- `refused CODE line LINE`
abbrev pub refusal_text : Refusal → List ℕ
refusal_text refusal = codes "refused " ++ (code_text refusal.code ++ (codes " line " ++ decimal refusal.line))
