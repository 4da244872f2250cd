-- The grammar of flows: a line declares what its words are the words of.
use Rattle.std.specs.Prelude.{◌≡◌, ◌≢◌, ◌⊎◌, ℕ, Bool, true, false, List, [], ◌∷◌, map, codes, Option, Some, None, if◌then◌else◌}
use Rattle.std.specs.List.{AllByRecursion, filter, list_any}
use Rattle.fw_lines.specs.declared.numeral.Number.{Number}
use Rattle.fw_lines.specs.declared.numeral.Number.TheVariants.{Value, TooLarge, NotANumber}
use Rattle.fw_lines.specs.declared.refusal.Code.{Code}
use Rattle.fw_lines.specs.declared.refusal.Code.TheVariants.{F1, F2, F10, F11}
use Rattle.fw_lines.specs.declared.refusal.Refusal.{Refusal}
use Rattle.fw_lines.specs.Faults.{Rules, BreaksNone, IsFirstRefusal}
use Rattle.fw_lines.specs.declared.span.Span.{Span}
use Rattle.fw_lines.specs.Lines.{Said, said_lines, words_at}
use Rattle.fw_lines.specs.Spelling.{number_of}
use Rattle.fw_flow.specs.Declaring.{Declaration, Declared}
use Rattle.fw_flow.specs.Check.{IsChecked, IsFirstBroken}
use Rattle.fw_flow.specs.Dataflow.{Dataflow}
use Rattle.fw_flow.specs.Expand.{expand}
use Rattle.fw_flow.specs.Raw.{is_new}
use Rattle.fw_flow_text.specs.Spelled.{declaration_words, IsWritable}

-- ---- what lines declare

-- the words are those of the declaration, and it can be written
pub record AreWordsOf (words : List (List ℕ)) (declaration : Declaration) : Type 0 where
  pub same : words ≡ declaration_words declaration
  pub writable : IsWritable declaration

-- whether there are words
abbrev pub are_there : List (List ℕ) → Bool
are_there [] = false
are_there (word ∷ words) = true

-- the line on which a declaration is written
abbrev pub line_of : Declared → Said
line_of declared = record { number = declared.line; words = declaration_words declared.declaration }

-- the lines with words are those of the declarations, in order, and each of these can be written
pub record Declare (lines : List Said) (declared : List Declared) : Type 0 where
  pub written : filter (λ line. are_there line.words) lines ≡ map line_of declared
  pub writable : AllByRecursion (λ d. IsWritable d.declaration) declared

-- ---- the rules of lines

-- whether a number is 2^64 or more
abbrev pub is_too_large : Number → Bool
is_too_large (Value n) = false
is_too_large TooLarge = true
is_too_large NotANumber = false

-- whether the word is such a number
abbrev pub is_large_number : List ℕ → Bool
is_large_number word = is_too_large (number_of word)

-- the word, or 0 in place of such a number
unfoldable pub capped : List ℕ → List ℕ
capped word = if is_large_number word then codes "0" else word

-- the words of parts of a text, with 0 in place of such numbers
abbrev pub capped_words : List ℕ → List Span → List (List ℕ)
capped_words text words = map capped (words_at text words)

-- the words have the form of the declaration: they are its words, with 0 in place of numbers of 2^64 or more
abbrev pub HaveFormOf : List (List ℕ) → Declaration → Type 0
HaveFormOf words declaration = AreWordsOf (map capped words) declaration

-- what is found is so; where nothing is found, nothing is so
abbrev pub Finds : {A : Type 0} → (A → Type 0) → Option A → Type 0
Finds {A} P None = (a : A) → P a → ⊥
Finds P (Some a) = P a

-- a line of these words breaks the rule after these declarations: F1 where there are words and they have no form; F10 where they have
-- one and a number is 2^64 or more; F2 where they have one, no number is, and the name is not new in its name space
abbrev pub BreakAfter : List Declared → List (List ℕ) → Code → Type 0
BreakAfter before words F1 = (words ≢ []) × ((declaration : Declaration) → HaveFormOf words declaration → ⊥)
BreakAfter before words F10 = (declaration : Declaration) × HaveFormOf words declaration × (list_any (λ word. is_large_number word) words ≡ true)
BreakAfter before words F2 =
    (declaration : Declaration) × HaveFormOf words declaration × (list_any (λ word. is_large_number word) words ≡ false) × (is_new before declaration ≡ false)
BreakAfter before words code = ⊥

-- the line breaks the rule, judged by what the lines before it declare
abbrev pub Breaks : List Said → Said → Code → Type 0
Breaks before line code = (declared : List Declared) × Declare before declared × BreakAfter declared line.words code

-- ---- whole texts

-- the longest text, in bytes
abbrev pub flow_size_limit : ℕ
flow_size_limit = 1048576

-- what is asked of the lines of a flow
abbrev pub flow_rules : Rules
flow_rules = record { most = flow_size_limit; too_long = F11; breaks = Breaks }

-- the text has the form of a flow, and its declarations are those of this dataflow
pub record IsAcceptedFlow (text : List ℕ) (flow : Dataflow) : Type 0 where
  pub sound : BreaksNone flow_rules text
  pub declared : List Declared
  pub written : Declare (said_lines text) declared
  pub checked : IsChecked (expand declared) flow

-- no line of the text breaks a rule, and the refusal is the first rule that its declarations break
pub record IsRefusedOfDeclarations (text : List ℕ) (refusal : Refusal) : Type 0 where
  pub sound : BreaksNone flow_rules text
  pub declared : List Declared
  pub written : Declare (said_lines text) declared
  pub broken : IsFirstBroken (expand declared) refusal

-- the refusal is the first rule that the text breaks: of its size, of its first line that breaks one, or of its declarations
abbrev pub IsRefusedFlow : List ℕ → Refusal → Type 0
IsRefusedFlow text refusal = IsFirstRefusal flow_rules text refusal ⊎ IsRefusedOfDeclarations text refusal
