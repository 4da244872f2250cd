-- The first rule that the lines of a text break. A text's rules are a relation `breaks`: a line breaks the rule of a code, judged by
-- the lines before it.
use Rattle.std.specs.Prelude.{◌≡◌, ℕ, ◌<◌, ◌≤◌, List, ◌∷◌, ◌++◌, length, ◌⊎◌}
use Rattle.fw_lines.specs.declared.fault.ReadFault.{ReadFault}
use Rattle.fw_lines.specs.declared.fault.ReadFault.TheVariants.{Refused, NoMemory}
use Rattle.fw_lines.specs.declared.refusal.Code.{Code}
use Rattle.fw_lines.specs.declared.refusal.Refusal.{Refusal}
use Rattle.fw_lines.specs.Lines.{Said, said_lines}

-- no line breaks a rule
abbrev pub BreakNoRule : (List Said → Said → Code → Type 0) → List Said → Type 0
BreakNoRule breaks lines =
    (before : List Said) (line : Said) (after : List Said) (code : Code) → before ++ line ∷ after ≡ lines → breaks before line code → ⊥

-- the refusal names the rule that some line breaks and that line's number, and no earlier line breaks one
pub record IsFirstFault (breaks : List Said → Said → Code → Type 0) (lines : List Said) (refusal : Refusal) : Type 0 where
  pub before : List Said
  pub line : Said
  pub after : List Said
  pub parts : before ++ line ∷ after ≡ lines
  pub earlier : BreakNoRule breaks before
  pub broken : breaks before line refusal.code
  pub number : refusal.line ≡ line.number

-- a text as a whole is refused by this rule, at line 0
abbrev pub IsOfWhole : Code → Refusal → Type 0
IsOfWhole code refusal = refusal ≡ record { code = code; line = 0 }

-- what a reader of lines asks of a text: at most so many bytes, else this rule is broken by the whole; and the rules of its lines
pub record Rules : Type 1 where
  pub most : ℕ
  pub too_long : Code
  pub breaks : List Said → Said → Code → Type 0

-- the text breaks none of the rules
pub record BreaksNone (rules : Rules) (text : List ℕ) : Type 0 where
  pub size : length text ≤ rules.most
  pub lines : BreakNoRule rules.breaks (said_lines text)

-- the refusal is the first rule that the text breaks: of its size, or of its first line that breaks one
abbrev pub IsFirstRefusal : Rules → List ℕ → Refusal → Type 0
IsFirstRefusal rules text refusal =
    ((rules.most < length text) × IsOfWhole rules.too_long refusal)
    ⊎ ((length text ≤ rules.most) × IsFirstFault rules.breaks (said_lines text) refusal)

-- where the fault is a refusal it is one of these; want of memory says nothing
abbrev pub IfRefused : (Refusal → Type 0) → ReadFault → Type 0
IfRefused P (Refused refusal) = P refusal
IfRefused P NoMemory = Unit {0}
