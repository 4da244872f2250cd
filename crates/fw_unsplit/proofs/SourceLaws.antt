-- A source is found by its name.
use Rattle.std.proofs.Common.{◌≡◌, inl, inr, ℕ, zero, suc, ◌+◌, ◌<◌, ◌≤◌, Bool, true, false, cond, List, [], ◌∷◌, ◌++◌, map, length, get_or, Some, None, refl, sym, ap, ◌∙◌, subst, arith}
use Rattle.std.proofs.lemmas.Bool.{cases_lt, true≢false}
use Rattle.std.proofs.lemmas.List.{get_or-map, length-map}
use Rattle.std.proofs.lemmas.Map.Keys.{apart_from_distinct}
use Rattle.std.proofs.lemmas.Slice.Eq.{bytes_eq-Decides}
use Rattle.std.specs.List.{IsDistinct, flat_map, range_with_len}
use Rattle.std.specs.Map.{lookup}
use Rattle.std.specs.Str.{bytes_eq}
use Rattle.fw_lines.specs.Sources.{node_named}
use Rattle.fw_flow.specs.declared.node.Node.{Node}
use Rattle.fw_flow.specs.Dataflow.{Dataflow, node_at, kind_of, idle_node, is_input_kind}
use Rattle.fw_flow.specs.Sources.{source_named_at, sources_of}

-- no two nodes have one name
abbrev pub HasNamesOnce : Dataflow → Type 0
HasNamesOnce flow = IsDistinct bytes_eq (map (λ (n : Node). n.name) flow.nodes)

names-apart : (flow : Dataflow) (p q : ℕ) → HasNamesOnce flow → p < q → q < length flow.nodes → (node_at flow p).name ≡ (node_at flow q).name → ⊥
unfolding node_at
names-apart flow p q once before lt same =
    let names = map (λ (n : Node). n.name) flow.nodes in
    let first : get_or names p [] ≡ (get_or flow.nodes p idle_node).name = get_or-map (λ (n : Node). n.name) flow.nodes p idle_node [] (omega (arith, before, lt)) in
    let second : get_or names q [] ≡ (get_or flow.nodes q idle_node).name = get_or-map (λ (n : Node). n.name) flow.nodes q idle_node [] lt in
    let differ : bytes_eq (get_or names p []) (get_or names q []) ≡ false =
    apart_from_distinct bytes_eq names p q [] once before (omega (arith, lt, length-map flow.nodes (λ (n : Node). n.name))) in
    true≢false (sym ((bytes_eq-Decides (get_or names p []) (get_or names q [])).1 (first ∙ same ∙ sym second)) ∙ differ)

-- so a name is that of one node
pub named-once : (flow : Dataflow) (p q : ℕ) → HasNamesOnce flow → p < length flow.nodes → q < length flow.nodes → (node_at flow p).name ≡ (node_at flow q).name → p ≡ q
named-once flow p q once l r same = elim (cases_lt p q) [
  | inl before ↦ absurd (names-apart flow p q once before r same)
  | inr past ↦ elim (cases_lt q p) [
    | inl behind ↦ absurd (names-apart flow q p once behind l (sym same))
    | inr up ↦ omega (arith, past, up)
  ]
]

-- the node at the place is a source of this name
pub record IsNamedSource (flow : Dataflow) (name : List ℕ) (q : ℕ) : Type 0 where
  pub within : q < length flow.nodes
  pub input : is_input_kind (kind_of flow q) ≡ true
  pub is : (node_at flow q).name ≡ name

some-same : {A : Type 0} (a b : A) → Some a ≡ Some b → a ≡ b
some-same a b h = cc

-- what is found by a name is a source of it
found-is : (flow : Dataflow) (name : List ℕ) (q a n : ℕ) → a + n ≤ length flow.nodes
    → node_named (flat_map (source_named_at flow) (range_with_len a n)) name ≡ Some q → IsNamedSource flow name q
found-is flow name q a zero l h = absurd (cc)
found-is flow name q a (suc n) l h =
    by (is_input_kind (kind_of flow a)) refl h (λ k. found-is flow name q (a + 1) n (omega (arith, l)) k)
  where
    own : List ℕ
    own = (node_at flow a).name

    rest : List (List ℕ × ℕ)
    rest = flat_map (source_named_at flow) (range_with_len (a + 1) n)

    here : is_input_kind (kind_of flow a) ≡ true → (c : Bool) → bytes_eq name own ≡ c → cond c (Some a) (lookup (bytes_eq name) rest) ≡ Some q
        → (lookup (bytes_eq name) rest ≡ Some q → IsNamedSource flow name q) → IsNamedSource flow name q
    here e true s h later =
        subst (IsNamedSource flow name) (some-same a q h) (record { within = omega (arith, l); input = e; is = sym ((bytes_eq-Decides name own).0 s) })
    here e false s h later = later h

    by : (b : Bool) → is_input_kind (kind_of flow a) ≡ b → lookup (bytes_eq name) (cond b ((own, a) ∷ []) [] ++ rest) ≡ Some q
        → (lookup (bytes_eq name) rest ≡ Some q → IsNamedSource flow name q) → IsNamedSource flow name q
    by true e h later = here e (bytes_eq name own) refl h later
    by false e h later = later h

-- where nothing is found by a name, no source has it
none-found : (flow : Dataflow) (name : List ℕ) (q a n : ℕ) → IsNamedSource flow name q → a ≤ q → q < a + n
    → node_named (flat_map (source_named_at flow) (range_with_len a n)) name ≡ None → ⊥
none-found flow name q a zero s l r h = omega (arith, l, r)
none-found flow name q a (suc n) s l r h = elim (cases_lt a q) [
  | inl before ↦ none-found flow name q (a + 1) n s (omega (arith, before)) (omega (arith, r)) (later (is_input_kind (kind_of flow a)) h)
  | inr past ↦
      let same : q ≡ a = omega (arith, l, past) in
      at-last (is_input_kind (kind_of flow a)) (bytes_eq name own) (ap (λ p. is_input_kind (kind_of flow p)) (sym same) ∙ s.input)
      ((bytes_eq-Decides name own).1 (sym s.is ∙ ap (λ p. (node_at flow p).name) same)) h
]
  where
    own : List ℕ
    own = (node_at flow a).name

    rest : List (List ℕ × ℕ)
    rest = flat_map (source_named_at flow) (range_with_len (a + 1) n)

    over : (c : Bool) → cond c (Some a) (lookup (bytes_eq name) rest) ≡ None → lookup (bytes_eq name) rest ≡ None
    over true h = absurd (cc)
    over false h = h

    later : (b : Bool) → lookup (bytes_eq name) (cond b ((own, a) ∷ []) [] ++ rest) ≡ None → lookup (bytes_eq name) rest ≡ None
    later true h = over (bytes_eq name own) h
    later false h = h

    last : (c : Bool) → c ≡ true → cond c (Some a) (lookup (bytes_eq name) rest) ≡ None → ⊥
    last true e h = absurd (cc)
    last false e h = true≢false (sym e)

    at-last : (b c : Bool) → b ≡ true → bytes_eq name own ≡ true → lookup (bytes_eq name) (cond b ((own, a) ∷ []) [] ++ rest) ≡ None → ⊥
    at-last true c e s h = last (bytes_eq name own) s h
    at-last false c e s h = true≢false (sym e)

pub source-is : (flow : Dataflow) (name : List ℕ) (q : ℕ) → node_named (sources_of flow) name ≡ Some q → IsNamedSource flow name q
source-is flow name q h = found-is flow name q 0 (length flow.nodes) (omega arith) h

pub no-source : (flow : Dataflow) (name : List ℕ) → node_named (sources_of flow) name ≡ None → (q : ℕ) → IsNamedSource flow name q → ⊥
no-source flow name h q s = none-found flow name q 0 (length flow.nodes) s (omega arith) (omega (arith, s.within)) h
