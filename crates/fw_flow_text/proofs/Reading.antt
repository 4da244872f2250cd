-- How a line is read: the declaration whose words its words are, if there is one, found from the front. `ReadingLaws` proves that it
-- is just that one; so it can be told of each line whether it declares something, and what.
use Rattle.std.specs.Prelude.{ℕ, ◌-◌, nat_le, Bool, true, false, ◌&&◌, List, [], ◌∷◌, ◌++◌, length, take, drop, Option, Some, None, codes, if◌then◌else◌}
use Rattle.std.proofs.Common.{get_or}
use Rattle.std.specs.Map.{lookup}
use Rattle.std.specs.Option.{option_and_then, option_map, option_or, option_to_list}
use Rattle.std.specs.Str.{bytes_eq}
use Rattle.fw_bag.specs.declared.select.Assignment.{Assignment}
use Rattle.fw_bag.specs.declared.select.Comparison.{Comparison}
use Rattle.fw_bag.specs.declared.select.Comparison.TheVariants.{Equal, NotEqual, Less, LessOrEqual, Greater, GreaterOrEqual}
use Rattle.fw_bag.specs.declared.select.Condition.{Condition}
use Rattle.fw_bag.specs.declared.select.Field.{Field}
use Rattle.fw_bag.specs.declared.select.Field.TheVariants.{Key, Value}
use Rattle.fw_bag.specs.declared.select.NewValue.{NewValue}
use Rattle.fw_bag.specs.declared.select.NewValue.TheVariants as new
use Rattle.fw_bag.specs.declared.select.Selection.{Selection}
use Rattle.fw_bag.specs.declared.select.Term.{Term}
use Rattle.fw_bag.specs.declared.select.Term.TheVariants as term
use Rattle.fw_lines.specs.declared.numeral.Number.{Number}
use Rattle.fw_lines.specs.declared.numeral.Number.TheVariants as number
use Rattle.fw_lines.specs.declared.refusal.Code.{Code}
use Rattle.fw_lines.specs.declared.refusal.Code.TheVariants.{F1, F2, F10}
use Rattle.fw_lines.specs.Spelling.{is_name, number_of}
use Rattle.fw_flow.specs.declared.kind.Policy.{Policy}
use Rattle.fw_flow.specs.declared.kind.Policy.TheVariants.{None as NoPolicy, Lazy, Logged, Eager, Full}
use Rattle.fw_flow.specs.Declaring.{Declaration, Declared}
use Rattle.fw_flow.specs.declared.raw.Declaration.TheVariants.{Loop, Node, Edge}
use Rattle.fw_flow.specs.KeyParts.{may_split}
use Rattle.fw_flow.specs.Kind.{RawKind}
use Rattle.fw_flow.specs.declared.kind.Kind.TheVariants.{Input, OutputEpoch, OutputNumber, Select, Concat, Distinct, Join, Sum, Enter, Feedback, Leave, Total, Sequence, Ledger, Regroup}
use Rattle.fw_flow.specs.Raw.{is_new}
use Rattle.fw_flow_text.specs.declared.node.NodeForm.{NodeForm}

infixl 10 ◌>>=◌
-- the second reading of what the first one gives, if it gives something
abbrev pub ◌>>=◌ : {A B : Type 0} → Option A → (A → Option B) → Option B
reading >>= next = option_and_then next reading

-- ---- single words

-- the number, if it is below 2^64
abbrev pub value_in : Number → Option ℕ
value_in (number.Value n) = Some n
value_in number.TooLarge = None
value_in number.NotANumber = None

unfoldable pub numeral_of : List ℕ → Option ℕ
numeral_of word = value_in (number_of word)

-- what a word names, in a list of words with what they name
abbrev pub named_by : {A : Type 0} → List (List ℕ × A) → List ℕ → Option A
named_by names word = lookup (bytes_eq word) names

abbrev pub fields : List (List ℕ × Field)
fields = (codes "key", Key) ∷ (codes "value", Value) ∷ []

unfoldable pub field_of : List ℕ → Option Field
field_of word = named_by fields word

abbrev pub comparisons : List (List ℕ × Comparison)
comparisons =
    (codes "=", Equal) ∷ (codes "!=", NotEqual) ∷ (codes "<", Less) ∷ (codes "<=", LessOrEqual) ∷ (codes ">", Greater)
    ∷ (codes ">=", GreaterOrEqual) ∷ []

unfoldable pub comparison_of : List ℕ → Option Comparison
comparison_of word = named_by comparisons word

-- a field, or else a number, as a term
abbrev pub term_from : Option Field → Option ℕ → Option Term
term_from (Some field) numeral = Some (term.Field field)
term_from None (Some n) = Some (term.Number n)
term_from None None = None

unfoldable pub term_of : List ℕ → Option Term
term_of word = term_from (field_of word) (numeral_of word)

-- a term as a new value
abbrev pub value_from : Term → NewValue
value_from (term.Number n) = new.Number n
value_from (term.Field field) = new.Field field

abbrev pub name_of : List ℕ → Option (List ℕ)
name_of word = if is_name word then Some word else None

-- ---- how lines end

abbrev pub policies : List (List ℕ × Policy)
policies = (codes "none", NoPolicy) ∷ (codes "lazy", Lazy) ∷ (codes "logged", Logged) ∷ (codes "eager", Eager) ∷ (codes "full", Full) ∷ []

unfoldable pub policy_named : List ℕ → Option Policy
policy_named word = named_by policies word

unfoldable pub policy_at_end : List (List ℕ) → Option Policy
policy_at_end (policy ∷ word ∷ []) = if bytes_eq policy (codes "policy") then policy_named word else None
policy_at_end words = None

unfoldable pub ending_within : List ℕ → List (List ℕ) → Option (Option (List ℕ) × Policy)
ending_within word rest = do
  name ← name_of word
  policy ← policy_at_end rest
  Some (Some name, policy)

unfoldable pub ending_outside : List (List ℕ) → Option (Option (List ℕ) × Policy)
ending_outside words = do
  policy ← policy_at_end words
  Some (None, policy)

unfoldable pub ending_of : List (List ℕ) → Option (Option (List ℕ) × Policy)
ending_of (word ∷ name ∷ rest) =
    if bytes_eq word (codes "loop") then ending_within name rest else ending_outside (word ∷ name ∷ rest)
ending_of words = None

unfoldable pub parent_named : List ℕ → Option (Option (List ℕ))
parent_named word = do
  name ← name_of word
  Some (Some name)

unfoldable pub parent_at_end : List (List ℕ) → Option (Option (List ℕ))
parent_at_end [] = Some None
parent_at_end (word ∷ name ∷ []) = if bytes_eq word (codes "in") then parent_named name else None
parent_at_end words = None

-- ---- selections; a part takes words from the front, and leaves the rest

unfoldable pub condition_of : List ℕ → List ℕ → List ℕ → Option Condition
condition_of left between right = do
  field ← field_of left
  comparison ← comparison_of between
  term ← term_of right
  Some (record { field = field; comparison = comparison; term = term })

abbrev pub sum_value : List ℕ → List ℕ → Option NewValue
sum_value first last = do
  field ← field_of first
  number ← numeral_of last
  Some (new.FieldPlus field number)

abbrev pub plain_value : List ℕ → Option NewValue
plain_value word = do
  term ← term_of word
  Some (value_from term)

abbrev pub with_rest : {A : Type 0} → List (List ℕ) → Option A → Option (A × List (List ℕ))
with_rest rest found = option_map (λ a. (a, rest)) found

unfoldable pub value_part : List (List ℕ) → Option (NewValue × List (List ℕ))
value_part (word ∷ plus ∷ number ∷ rest) =
    if bytes_eq plus (codes "plus") then with_rest rest (sum_value word number)
    else with_rest (plus ∷ number ∷ rest) (plain_value word)
value_part (word ∷ rest) = with_rest rest (plain_value word)
value_part [] = None

abbrev pub set_part : List ℕ → List (List ℕ) → Option (Option Assignment × List (List ℕ))
set_part word words = do
  field ← field_of word
  value ← value_part words
  Some (Some (record { field = field; value = value.0 }), value.1)

unfoldable pub assignment_part : List (List ℕ) → Option (Option Assignment × List (List ℕ))
assignment_part (set ∷ word ∷ rest) =
    if bytes_eq set (codes "set") then set_part word rest else Some (None, set ∷ word ∷ rest)
assignment_part words = Some (None, words)

unfoldable pub selection_part : List (List ℕ) → Option (Selection × List (List ℕ))
selection_part (left ∷ between ∷ right ∷ rest) = do
  condition ← condition_of left between right
  assignment ← assignment_part rest
  Some (record { condition = condition; assignment = assignment.0 }, assignment.1)
selection_part words = None

-- ---- the kinds that words name

abbrev pub outputs : List (List ℕ × RawKind)
outputs = (codes "epoch", OutputEpoch) ∷ (codes "number", OutputNumber) ∷ []

unfoldable pub output_kind : List ℕ → Option RawKind
output_kind word = named_by outputs word

-- the kinds that may stand in a loop
abbrev pub kinds_within : Option (List ℕ) → List (List ℕ × RawKind)
kinds_within within =
    (codes "concat", Concat within) ∷ (codes "distinct", Distinct within) ∷ (codes "join", Join within) ∷ (codes "sum", Sum within) ∷ []

unfoldable pub within_kind : Option (List ℕ) → List ℕ → Option RawKind
within_kind within word = named_by (kinds_within within) word

-- the kinds that lead into a loop, to its next counter, or out of it
abbrev pub kinds_leading : List ℕ → List (List ℕ × RawKind)
kinds_leading name = (codes "enter", Enter name) ∷ (codes "feedback", Feedback name) ∷ (codes "leave", Leave name) ∷ []

unfoldable pub leading_kind : List ℕ → List ℕ → Option RawKind
leading_kind name word = named_by (kinds_leading name) word

-- the kinds that their words tell alone
abbrev pub lone_kinds : List (List ℕ × RawKind)
lone_kinds = (codes "total", Total) ∷ (codes "sequence", Sequence) ∷ (codes "ledger", Ledger) ∷ []

unfoldable pub lone_kind : List ℕ → Option RawKind
lone_kind word = named_by lone_kinds word

-- ---- nodes, from the word of the kind on

unfoldable pub input_form : List (List ℕ) → Option NodeForm
input_form [] = Some (record { kind = Input; policy = NoPolicy })
input_form words = None

unfoldable pub output_form : List (List ℕ) → Option NodeForm
output_form (domain ∷ []) = do
  kind ← output_kind domain
  Some (record { kind = kind; policy = NoPolicy })
output_form words = None

unfoldable pub select_form : List (List ℕ) → Option NodeForm
select_form words = do
  selection ← selection_part words
  ending ← ending_of selection.1
  Some (record { kind = Select selection.0 ending.0; policy = ending.1 })

unfoldable pub regroup_form : List (List ℕ) → Option NodeForm
regroup_form (number ∷ rest) = do
  size ← numeral_of number
  policy ← policy_at_end rest
  Some (record { kind = Regroup size; policy = policy })
regroup_form words = None

unfoldable pub within_form : List ℕ → List (List ℕ) → Option NodeForm
within_form word rest = do
  ending ← ending_of rest
  kind ← within_kind ending.0 word
  Some (record { kind = kind; policy = ending.1 })

unfoldable pub leading_form : List ℕ → List (List ℕ) → Option NodeForm
leading_form word (first ∷ rest) = do
  name ← name_of first
  kind ← leading_kind name word
  policy ← policy_at_end rest
  Some (record { kind = kind; policy = policy })
leading_form word words = None

unfoldable pub lone_form : List ℕ → List (List ℕ) → Option NodeForm
lone_form word rest = do
  kind ← lone_kind word
  policy ← policy_at_end rest
  Some (record { kind = kind; policy = policy })

-- one of the last three, which are told apart by the word of the kind
abbrev pub shape_form : List ℕ → List (List ℕ) → Option NodeForm
shape_form word rest = option_or (within_form word rest) (option_or (leading_form word rest) (lone_form word rest))

unfoldable pub node_form : List ℕ → List (List ℕ) → Option NodeForm
node_form word rest =
    if bytes_eq word (codes "input") then input_form rest
    else (if bytes_eq word (codes "output") then output_form rest
    else (if bytes_eq word (codes "select") then select_form rest
    else (if bytes_eq word (codes "regroup") then regroup_form rest
    else shape_form word rest)))

-- ---- declarations

-- whether the fourth of these words from the end is `split`
unfoldable pub has_split : List (List ℕ) → Bool
has_split words = nat_le 4 (length words) && bytes_eq (get_or words (length words - 4) []) (codes "split")

-- the words without it and the number behind it
abbrev pub without_split : List (List ℕ) → List (List ℕ)
without_split words = take (length words - 4) words ++ drop (length words - 2) words

-- the form of a node, and the number by which it is split, if it is
abbrev pub split_form : List ℕ → List (List ℕ) → Option (NodeForm × Option ℕ)
split_form kind rest = do
  number ← numeral_of (get_or rest (length rest - 3) [])
  form ← node_form kind (without_split rest)
  (if may_split form.kind then Some (form, Some number) else None)

abbrev pub plain_form : List ℕ → List (List ℕ) → Option (NodeForm × Option ℕ)
plain_form kind rest = do
  form ← node_form kind rest
  Some (form, None)

unfoldable pub any_form : List ℕ → List (List ℕ) → Option (NodeForm × Option ℕ)
any_form kind rest = if has_split rest then split_form kind rest else plain_form kind rest

-- the same, of the word of the kind and the words behind it
abbrev pub form_in : List (List ℕ) → Option NodeForm
form_in [] = None
form_in (kind ∷ rest) = node_form kind rest

abbrev pub any_in : List (List ℕ) → Option (NodeForm × Option ℕ)
any_in [] = None
any_in (kind ∷ rest) = any_form kind rest

unfoldable pub node_declaration : List (List ℕ) → Option Declaration
node_declaration [] = None
node_declaration (word ∷ words) = do
  name ← name_of word
  found ← any_in words
  Some (Node name found.0.kind found.0.policy found.1 None)

abbrev pub edge_of : List ℕ → List ℕ → List ℕ → Option Declaration
edge_of first second third = do
  name ← name_of first
  sender ← name_of second
  receiver ← name_of third
  Some (Edge name sender receiver)

unfoldable pub edge_declaration : List (List ℕ) → Option Declaration
edge_declaration (first ∷ second ∷ third ∷ []) = edge_of first second third
edge_declaration words = None

unfoldable pub loop_of : List ℕ → List ℕ → List (List ℕ) → Option Declaration
loop_of word number rest = do
  name ← name_of word
  max ← numeral_of number
  parent ← parent_at_end rest
  Some (Loop name max parent)

unfoldable pub loop_declaration : List (List ℕ) → Option Declaration
loop_declaration (word ∷ max ∷ number ∷ rest) = if bytes_eq max (codes "max") then loop_of word number rest else None
loop_declaration words = None

-- the declaration whose words these are
unfoldable pub declaration_of : List (List ℕ) → Option Declaration
declaration_of (first ∷ rest) =
    if bytes_eq first (codes "node") then node_declaration rest
    else (if bytes_eq first (codes "edge") then edge_declaration rest
    else (if bytes_eq first (codes "loop") then loop_declaration rest
    else None))
declaration_of [] = None

-- ---- lines

-- F2, unless the name is new in its name space
abbrev pub name_fault : Bool → Option Code
name_fault true = None
name_fault false = Some F2

-- the rule that a line breaks after these declarations, by the declaration of whose form it is, if there is one, and whether a number in
-- it is 2^64 or more
abbrev pub form_fault : List Declared → Option Declaration → Bool → Option Code
form_fault before None large = Some F1
form_fault before (Some declaration) true = Some F10
form_fault before (Some declaration) false = name_fault (is_new before declaration)

-- the rule that a line breaks after these declarations, by its words with 0 in place of numbers of 2^64 or more, and whether it has such
abbrev pub words_fault : List Declared → List (List ℕ) → Bool → Option Code
words_fault before [] large = None
words_fault before (word ∷ words) large = form_fault before (declaration_of (word ∷ words)) large

-- what a line declares, with its number
abbrev pub declared_in : ℕ → Option Declaration → List Declared
declared_in number found = option_to_list (option_map (λ d. record { line = number; declaration = d }) found)
