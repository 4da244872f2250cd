-- The first rule that the lines of a text of offers or of a certificate break.
use Rattle.std.specs.Prelude.{◌≡◌, ℕ, ◌<◌, ◌≤◌, Bool, List, [], ◌∷◌, ◌++◌, length, ◌⊎◌, if◌then◌else◌, Option, Some, None}
use Rattle.fw_lines.specs.Lines.{Said, said_lines}
use Rattle.fw_offers_text.specs.declared.code.ChoiceCode.{ChoiceCode}
use Rattle.fw_offers_text.specs.declared.code.ChoiceFault.{ChoiceFault}
use Rattle.fw_offers_text.specs.declared.code.ChoiceFault.TheVariants.{Refused, NoMemory}
use Rattle.fw_offers_text.specs.declared.code.ChoiceRefusal.{ChoiceRefusal}

-- the first of these rules that is not kept
abbrev pub first_broken : List (ChoiceCode × Bool) → Option ChoiceCode
first_broken [] = None
first_broken (rule ∷ rules) = if rule.1 then first_broken rules else Some rule.0

-- no line breaks a rule
abbrev pub BreakNoChoiceRule : (List Said → Said → ChoiceCode → Type 0) → List Said → Type 0
BreakNoChoiceRule breaks lines =
    (before : List Said) (line : Said) (after : List Said) (code : ChoiceCode) → before ++ line ∷ after ≡ lines → breaks before line code → ⊥

-- the refusal names the rule that some line breaks and that line's number, and no earlier line breaks one
pub record IsFirstChoiceFault (breaks : List Said → Said → ChoiceCode → Type 0) (lines : List Said) (refusal : ChoiceRefusal) : Type 0 where
  pub before : List Said
  pub line : Said
  pub after : List Said
  pub parts : before ++ line ∷ after ≡ lines
  pub earlier : BreakNoChoiceRule breaks before
  pub broken : breaks before line refusal.code
  pub number : refusal.line ≡ line.number

-- a text as a whole is refused by this rule, at line 0
abbrev pub IsOfWholeText : ChoiceCode → ChoiceRefusal → Type 0
IsOfWholeText code refusal = refusal ≡ record { code = code; line = 0 }

-- the longest text, in bytes
abbrev pub choice_size_limit : ℕ
choice_size_limit = 16777216

-- what is asked of a text: of its size, else this rule is broken by the whole; and of its lines
pub record ChoiceRules : Type 1 where
  pub too_long : ChoiceCode
  pub breaks : List Said → Said → ChoiceCode → Type 0

-- the text breaks none of the rules
pub record KeepsChoiceRules (rules : ChoiceRules) (text : List ℕ) : Type 0 where
  pub size : length text ≤ choice_size_limit
  pub lines : BreakNoChoiceRule rules.breaks (said_lines text)

-- the refusal is the first rule that the text breaks: of its size, or of its first line that breaks one
abbrev pub IsFirstChoiceRefusal : ChoiceRules → List ℕ → ChoiceRefusal → Type 0
IsFirstChoiceRefusal rules text refusal =
    ((choice_size_limit < length text) × IsOfWholeText rules.too_long refusal)
    ⊎ ((length text ≤ choice_size_limit) × IsFirstChoiceFault rules.breaks (said_lines text) refusal)

-- where the fault is a refusal it is one of these; want of memory says nothing
abbrev pub IfChoiceRefused : (ChoiceRefusal → Type 0) → ChoiceFault → Type 0
IfChoiceRefused P (Refused refusal) = P refusal
IfChoiceRefused P NoMemory = Unit {0}
