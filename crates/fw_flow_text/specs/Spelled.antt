-- How what a flow declares is written, in words.
use Rattle.std.specs.Prelude.{◌≡◌, ℕ, ◌-◌, ◌<◌, ◌^◌, true, List, [], ◌∷◌, ◌++◌, length, take, drop, Option, Some, None, codes, IfSome}
use Rattle.std.specs.Fmt.{decimal}
use Rattle.fw_bag.specs.declared.select.Assignment.{Assignment}
use Rattle.fw_bag.specs.declared.select.Comparison.{Comparison}
use Rattle.fw_bag.specs.declared.select.Comparison.TheVariants.{Equal, NotEqual, Less, LessOrEqual, Greater, GreaterOrEqual}
use Rattle.fw_bag.specs.declared.select.Condition.{Condition}
use Rattle.fw_bag.specs.declared.select.Field.{Field}
use Rattle.fw_bag.specs.declared.select.Field.TheVariants.{Key, Value}
use Rattle.fw_bag.specs.declared.select.NewValue.{NewValue}
use Rattle.fw_bag.specs.declared.select.NewValue.TheVariants as new
use Rattle.fw_bag.specs.declared.select.Selection.{Selection}
use Rattle.fw_bag.specs.declared.select.Term.{Term}
use Rattle.fw_bag.specs.declared.select.Term.TheVariants as term
use Rattle.fw_lines.specs.Spelling.{is_name}
use Rattle.fw_flow.specs.declared.kind.Policy.{Policy}
use Rattle.fw_flow.specs.declared.kind.Policy.TheVariants.{None as NoPolicy}
use Rattle.fw_flow.specs.Declaring.{Declaration}
use Rattle.fw_flow.specs.declared.raw.Declaration.TheVariants.{Loop, Node, Edge}
use Rattle.fw_flow.specs.KeyParts.{may_split}
use Rattle.fw_flow.specs.Kind.{RawKind, loop_of_kind}
use Rattle.fw_flow.specs.declared.kind.Kind.TheVariants.{Input, OutputEpoch, OutputNumber, Select, Concat, Distinct, Join, Sum, Enter, Feedback, Leave, Total, Sequence, Ledger, Regroup}
use Rattle.fw_flow_text.specs.declared.node.NodeForm.{NodeForm}
use Rattle.fw_flow.specs.KindText.{policy_text}

-- the word of a field
abbrev pub field_word : Field → List ℕ
field_word Key = codes "key"
field_word Value = codes "value"

-- the word of a comparison
abbrev pub comparison_word : Comparison → List ℕ
comparison_word Equal = codes "="
comparison_word NotEqual = codes "!="
comparison_word Less = codes "<"
comparison_word LessOrEqual = codes "<="
comparison_word Greater = codes ">"
comparison_word GreaterOrEqual = codes ">="

-- the word of a term
abbrev pub term_word : Term → List ℕ
term_word (term.Number n) = decimal n
term_word (term.Field field) = field_word field

-- the words of a new value
abbrev pub value_words : NewValue → List (List ℕ)
value_words (new.Number n) = decimal n ∷ []
value_words (new.Field field) = field_word field ∷ []
value_words (new.FieldPlus field n) = field_word field ∷ codes "plus" ∷ decimal n ∷ []

-- the words of an assignment, none where there is none
abbrev pub assignment_words : Option Assignment → List (List ℕ)
assignment_words None = []
assignment_words (Some a) = codes "set" ∷ field_word a.field ∷ value_words a.value

-- the words of a condition
abbrev pub condition_words : Condition → List (List ℕ)
condition_words c = field_word c.field ∷ comparison_word c.comparison ∷ term_word c.term ∷ []

-- the words of a selection
abbrev pub selection_words : Selection → List (List ℕ)
selection_words s = condition_words s.condition ++ assignment_words s.assignment

-- the words of a policy
abbrev pub policy_words : Policy → List (List ℕ)
policy_words policy = codes "policy" ∷ policy_text policy ∷ []

-- the words of a loop, if there is one, and of a policy
abbrev pub ending_words : Option (List ℕ) → Policy → List (List ℕ)
ending_words None policy = policy_words policy
ending_words (Some name) policy = codes "loop" ∷ name ∷ policy_words policy

-- the words of a node behind its name; those of an input and an output have no policy
abbrev pub node_words : RawKind → Policy → List (List ℕ)
node_words Input policy = codes "input" ∷ []
node_words OutputEpoch policy = codes "output" ∷ codes "epoch" ∷ []
node_words OutputNumber policy = codes "output" ∷ codes "number" ∷ []
node_words (Select selection within) policy = codes "select" ∷ selection_words selection ++ ending_words within policy
node_words (Concat within) policy = codes "concat" ∷ ending_words within policy
node_words (Distinct within) policy = codes "distinct" ∷ ending_words within policy
node_words (Join within) policy = codes "join" ∷ ending_words within policy
node_words (Sum within) policy = codes "sum" ∷ ending_words within policy
node_words (Enter name) policy = codes "enter" ∷ name ∷ policy_words policy
node_words (Feedback name) policy = codes "feedback" ∷ name ∷ policy_words policy
node_words (Leave name) policy = codes "leave" ∷ name ∷ policy_words policy
node_words Total policy = codes "total" ∷ policy_words policy
node_words Sequence policy = codes "sequence" ∷ policy_words policy
node_words Ledger policy = codes "ledger" ∷ policy_words policy
node_words (Regroup size) policy = codes "regroup" ∷ decimal size ∷ policy_words policy

-- the words of a node behind its name, where it may be split: by a number, `split` and the number stand in front of the policy
abbrev pub split_words : Option ℕ → List (List ℕ) → List (List ℕ)
split_words None words = words
split_words (Some n) words = take (length words - 2) words ++ codes "split" ∷ decimal n ∷ drop (length words - 2) words

-- the words of a loop's parent, none where there is none
abbrev pub parent_words : Option (List ℕ) → List (List ℕ)
parent_words None = []
parent_words (Some name) = codes "in" ∷ name ∷ []

-- the words of a declaration
abbrev pub declaration_words : Declaration → List (List ℕ)
declaration_words (Loop name max parent) = codes "loop" ∷ name ∷ codes "max" ∷ decimal max ∷ parent_words parent
declaration_words (Node name kind policy split part) = codes "node" ∷ name ∷ split_words split (node_words kind policy)
declaration_words (Edge name sender receiver) = codes "edge" ∷ name ∷ sender ∷ receiver ∷ []

-- ---- what can be written

-- the number of a term, if it is one, is below 2^64
abbrev pub IsSmallTerm : Term → Type 0
IsSmallTerm (term.Number n) = n < 2 ^ 64
IsSmallTerm (term.Field field) = Unit {0}

-- the number of a new value, if it has one, is below 2^64
abbrev pub IsSmallValue : NewValue → Type 0
IsSmallValue (new.Number n) = n < 2 ^ 64
IsSmallValue (new.Field field) = Unit {0}
IsSmallValue (new.FieldPlus field n) = n < 2 ^ 64

-- the same of an assignment, if there is one
abbrev pub IsSmallAssignment : Option Assignment → Type 0
IsSmallAssignment None = Unit {0}
IsSmallAssignment (Some a) = IsSmallValue a.value

-- the numbers of a selection are below 2^64
pub record IsSmall (s : Selection) : Type 0 where
  pub term : IsSmallTerm s.condition.term
  pub assignment : IsSmallAssignment s.assignment

-- the numbers of a kind are below 2^64
abbrev pub IsSmallKind : RawKind → Type 0
IsSmallKind (Select selection within) = IsSmall selection
IsSmallKind (Regroup size) = size < 2 ^ 64
IsSmallKind kind = Unit {0}

-- where the kind is that of an input or an output, the policy is none
abbrev pub IsPolicyWritten : RawKind → Policy → Type 0
IsPolicyWritten Input policy = policy ≡ NoPolicy
IsPolicyWritten OutputEpoch policy = policy ≡ NoPolicy
IsPolicyWritten OutputNumber policy = policy ≡ NoPolicy
IsPolicyWritten kind policy = Unit {0}

-- the word is a name
abbrev pub IsName : List ℕ → Type 0
IsName word = is_name word ≡ true

-- a node of this kind and policy can be written
pub record IsWritableNode (kind : RawKind) (policy : Policy) : Type 0 where
  pub loop_name : IfSome (loop_of_kind kind) IsName
  pub numbers : IsSmallKind kind
  pub written : IsPolicyWritten kind policy

-- the word of a kind and the words behind it are those of a node of this kind and policy, which can be written
pub record AreNodeWords (word : List ℕ) (rest : List (List ℕ)) (form : NodeForm) : Type 0 where
  pub same : word ∷ rest ≡ node_words form.kind form.policy
  pub writable : IsWritableNode form.kind form.policy

-- where a node is split, its kind may be, and the number is below 2^64
abbrev pub IsSplitWritten : RawKind → Option ℕ → Type 0
IsSplitWritten kind split = IfSome split (λ n. (may_split kind ≡ true) × (n < 2 ^ 64))

-- the word of a kind and the words behind it are those of a node of this kind and policy, split by this number if there is one, and can
-- be written
pub record AreSplitWords (word : List ℕ) (rest : List (List ℕ)) (form : NodeForm) (split : Option ℕ) : Type 0 where
  pub same : word ∷ rest ≡ split_words split (node_words form.kind form.policy)
  pub writable : IsWritableNode form.kind form.policy
  pub splits : IsSplitWritten form.kind split

-- the words are these, `split`, a number, and two words
abbrev pub IsAroundSplit : List (List ℕ) → List (List ℕ) → List ℕ → List (List ℕ) → Type 0
IsAroundSplit words before number policy = (words ≡ before ++ codes "split" ∷ number ∷ policy) × (length policy ≡ 2)

-- a declaration can be written: its names are names, its numbers are below 2^64, no input or output has a policy, no node is split
-- whose kind may not be, and none is a replica
abbrev pub IsWritable : Declaration → Type 0
IsWritable (Loop name max parent) = IsName name × (max < 2 ^ 64) × IfSome parent IsName
IsWritable (Node name kind policy split part) = IsName name × IsWritableNode kind policy × IsSplitWritten kind split × (part ≡ None)
IsWritable (Edge name sender receiver) = IsName name × IsName sender × IsName receiver
