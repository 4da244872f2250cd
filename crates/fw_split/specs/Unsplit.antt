-- Declarations without the word that splits a node.
use Rattle.std.specs.Prelude.{◌≡◌, ℕ, true, List, ◌∷◌, ◌++◌, map, None}
use Rattle.std.specs.List.{AllByRecursion, IsDistinct}
use Rattle.std.specs.Str.{bytes_eq}
use Rattle.fw_flow.specs.declared.raw.Declaration.TheVariants.{Loop as ALoop, Node as ANode, Edge as AnEdge}
use Rattle.fw_flow.specs.Builder.{has_names}
use Rattle.fw_flow.specs.Dataflow.{System, batches_of, node_at}
use Rattle.fw_flow.specs.Declaring.{Declaration, Declared}
use Rattle.fw_flow.specs.PlainNames.{HasNoPart}
use Rattle.fw_flow.specs.Raw.{loop_names, node_names, edge_names, is_new}

-- the declaration without the word
abbrev pub without_word : Declaration → Declaration
without_word (ALoop name max parent) = ALoop name max parent
without_word (ANode name kind policy split part) = ANode name kind policy None part
without_word (AnEdge name sender receiver) = AnEdge name sender receiver

-- the declarations without the word: no node is split
abbrev pub unsplit : List Declared → List Declared
unsplit raw = map (λ d. record { line = d.line; declaration = without_word d.declaration }) raw

-- The declarations are as texts write them: names are names, with no dot, each is new in its name space, and no node is a replica by hand.
pub record AreAsWritten (raw : List Declared) : Type 0 where
  pub names : AllByRecursion (λ d. has_names d.declaration ≡ true) raw
  pub loops : IsDistinct bytes_eq (loop_names raw)
  pub nodes : IsDistinct bytes_eq (node_names raw)
  pub edges : IsDistinct bytes_eq (edge_names raw)
  pub no_parts : AllByRecursion (λ d. HasNoPart d.declaration) raw

-- each declaration's name is new in its name space, behind those before it
abbrev pub AreNewInTurn : List Declared → Type 0
AreNewInTurn raw = (before : List Declared) (d : Declared) (behind : List Declared) → raw ≡ before ++ d ∷ behind → is_new before d.declaration ≡ true

-- nodes of the same name have the same batches
abbrev pub HaveSameBatches : System → System → Type 0
HaveSameBatches small large = (p q : ℕ) → (node_at large.flow q).name ≡ (node_at small.flow p).name → batches_of large q ≡ batches_of small p
