-- What a builder of flows answers. It is its list of declarations.
use Rattle.std.specs.Prelude.{◌≡◌, ℕ, ◌+◌, Bool, true, false, ◌&&◌, List, [], ◌∷◌, ◌++◌, length, Result, Ok, Err}
use Rattle.std.specs.Option.{option_map_or}
use Rattle.fw_lines.specs.declared.fault.ReadFault.{ReadFault}
use Rattle.fw_lines.specs.declared.fault.ReadFault.TheVariants.{Refused, NoMemory as NoMemoryToRead}
use Rattle.fw_lines.specs.declared.refusal.Refusal.{Refusal}
use Rattle.fw_lines.specs.Spelling.{is_name}
use Rattle.fw_flow.specs.declared.builder.BuildFault.{BuildFault}
use Rattle.fw_flow.specs.declared.builder.BuildFault.TheVariants.{BadName, NameTaken, Broken, NoMemory}
use Rattle.fw_flow.specs.Declaring.{Declaration}
use Rattle.fw_flow.specs.declared.raw.Declaration.TheVariants.{Loop, Node, Edge}
use Rattle.fw_flow.specs.Declaring.{Declared}
use Rattle.fw_flow.specs.Kind.{loop_of_kind}
use Rattle.fw_flow.specs.Raw.{is_new}

-- the declarations with one more, whose line is its number, counted from 1
abbrev pub with_declaration : List Declared → Declaration → List Declared
with_declaration raw declaration = raw ++ record { line = length raw + 1; declaration = declaration } ∷ []

-- whether the name of a declaration is a name, and so is each name that it has beside it: of a loop that of the loop in which it
-- is, of a node that of the loop of its kind, of an edge those of its sender and its receiver
abbrev pub has_names : Declaration → Bool
has_names (Loop name max parent) = is_name name && option_map_or is_name parent true
has_names (Node name kind policy split part) = is_name name && option_map_or is_name (loop_of_kind kind) true
has_names (Edge name sender receiver) = is_name name && is_name sender && is_name receiver

-- The builder takes the declaration exactly where its names are names and its own is new, and then has it as its last; else it
-- says which of the two fails. It may be refused memory at any time.
abbrev pub Declares : List Declared → Declaration → Result (List Declared) BuildFault → Type 0
Declares raw declaration (Ok more) =
    (has_names declaration ≡ true) × (is_new raw declaration ≡ true) × (more ≡ with_declaration raw declaration)
Declares raw declaration (Err BadName) = has_names declaration ≡ false
Declares raw declaration (Err NameTaken) = (has_names declaration ≡ true) × (is_new raw declaration ≡ false)
Declares raw declaration (Err (Broken refusal)) = ⊥
Declares raw declaration (Err NoMemory) = Unit {0}

-- the same where the names are known to be names
abbrev pub DeclaresNamed : List Declared → Declaration → Result (List Declared) BuildFault → Type 0
DeclaresNamed raw declaration result = has_names declaration ≡ true → Declares raw declaration result

-- the word as a name where it is one, else that it is none; memory may be refused
abbrev pub IsNameOrFault : List ℕ → Result (List ℕ) BuildFault → Type 0
IsNameOrFault word (Ok name) = (is_name word ≡ true) × (name ≡ word)
IsNameOrFault word (Err BadName) = is_name word ≡ false
IsNameOrFault word (Err NameTaken) = ⊥
IsNameOrFault word (Err (Broken refusal)) = ⊥
IsNameOrFault word (Err NoMemory) = Unit {0}

-- where declarations break a rule, the refusal is one of these; want of memory says nothing
abbrev pub IfBroken : (Refusal → Type 0) → BuildFault → Type 0
IfBroken P BadName = ⊥
IfBroken P NameTaken = ⊥
IfBroken P (Broken refusal) = P refusal
IfBroken P NoMemory = Unit {0}

-- the fault of a builder whose declarations are refused
abbrev pub build_fault : ReadFault → BuildFault
build_fault (Refused refusal) = Broken refusal
build_fault NoMemoryToRead = NoMemory
