-- The inputs of an expansion are those of the flow without the word: a text that is accepted for the one is for the other, and gives the same.
use Rattle.std.proofs.Common.{◌≡◌, inl, inr, ℕ, ◌<◌, Bool, true, false, cond, ◌==◌, List, [], ◌∷◌, map, length, Option, Some, None, refl, sym, ap, ◌∙◌, subst}
use Rattle.std.proofs.lemmas.Bool.{true≢false, eqb-true, eq-eqb}
use Rattle.std.specs.Prelude.{filter}
use Rattle.std.specs.Option.{option_map_or, option_or}
use Rattle.fw_lines.specs.Inputs.{batch_of, batches_said_of, count_fault, count_of, form_fault, inputs_fault, inputs_line_fault, is_batch_of, number_fault, source_fault, source_said, value_fault}
use Rattle.fw_lines.specs.Lines.{Said}
use Rattle.fw_lines.specs.Sources.{node_named}
use Rattle.fw_flow.specs.Kind.{Kind}
use Rattle.fw_flow.specs.Dataflow.{System, Dataflow, kind_of, is_input_kind}
use Rattle.fw_flow.specs.Sources.{sources_of, AreInputsOf}
use Rattle.fw_split.specs.Expansion.{EdgeOrigin, NodeOrigin, Same, Replica, Gathered, IsNodeOf, SendsFor}
use Rattle.fw_split.specs.Exact.{node_of_origin, IsExactExpansion}
use Rattle.fw_split.proofs.ExactWalks.{StandsFor, sends-is, stands}
use Rattle.fw_split.proofs.ExactLaws.{no_input}
use Rattle.fw_unsplit.proofs.SourceLaws.{HasNamesOnce, IsNamedSource, named-once, source-is, no-source}

-- of an expansion: both find nothing, or a node of the one and what sends for it in the other
abbrev pub Agree : Dataflow → (ℕ → NodeOrigin) → Option ℕ → Option ℕ → Type 0
Agree large of_node None None = Unit {0}
Agree large of_node None (Some q) = ⊥
Agree large of_node (Some p) None = ⊥
Agree large of_node (Some p) (Some q) = (q < length large.nodes) × SendsFor p (of_node q)

-- an input is not split
input-stands : (kind other : Kind) → StandsFor kind other → is_input_kind kind ≡ true → other ≡ kind
input-stands kind other (inl same) h = same
input-stands kind other (inr joint) h = absurd (true≢false (sym h ∙ no_input kind joint.1))

same-filter : {A : Type 0} (t u : A → Bool) (xs : List A) → ((x : A) → t x ≡ u x) → filter t xs ≡ filter u xs
same-filter t u [] e = refl
same-filter t u (x ∷ xs) e =
    ap (λ b. cond b (x ∷ filter t xs) (filter t xs)) (e x) ∙ ap (λ ys. cond (u x) (x ∷ ys) ys) (same-filter t u xs e)

module _ (small large : System) (of_node : ℕ → NodeOrigin) (of_edge : ℕ → EdgeOrigin) (exact : IsExactExpansion small large of_node of_edge)
    (once : HasNamesOnce large.flow) where
  -- an input of the flow without the word is one of the expansion, and has its name there
  input-again : (name : List ℕ) (p : ℕ) → IsNamedSource small.flow name p → (q : ℕ) × IsNamedSource large.flow name q × SendsFor p (of_node q)
  input-again name p s =
      let a = exact.expansion.nodes_again p s.within in
      let same = input-stands (kind_of small.flow p) (kind_of large.flow a.0) (stands small large of_edge p a.0 (of_node a.0) (exact.expansion.nodes a.0) a.2) s.input in
      (a.0, record { within = a.1; input = ap is_input_kind same ∙ s.input; is = exact.named p a.0 a.1 a.2 ∙ s.is }, a.2)

  -- and the other way
  input-before : (name : List ℕ) (q : ℕ) → IsNamedSource large.flow name q → (p : ℕ) × IsNamedSource small.flow name p
  input-before name q s = by (of_node q) refl (exact.expansion.nodes q) (exact.within q s.within)
    where
      by : (origin : NodeOrigin) → of_node q ≡ origin → IsNodeOf small large of_edge q origin → node_of_origin origin < length small.flow.nodes
          → (p : ℕ) × IsNamedSource small.flow name p
      by (Same p) e n l =
          (p, record { within = l; input = ap is_input_kind (sym n.0) ∙ s.input; is = sym (exact.named p q s.within (subst (SendsFor p) (sym e) refl)) ∙ s.is })
      by (Replica p part) e n l = absurd (true≢false (sym s.input ∙ ap is_input_kind n.0 ∙ no_input (kind_of small.flow p) n.3))
      by (Gathered p) e n l = absurd (true≢false (sym s.input ∙ ap is_input_kind n.0))

  agree : (name : List ℕ) (o k : Option ℕ) → node_named (sources_of small.flow) name ≡ o → node_named (sources_of large.flow) name ≡ k → Agree large.flow of_node o k
  agree name None None e h = tt
  agree name None (Some q) e h = let b = input-before name q (source-is large.flow name q h) in no-source small.flow name e b.0 b.1
  agree name (Some p) None e h = let a = input-again name p (source-is small.flow name p e) in no-source large.flow name h a.0 a.1
  agree name (Some p) (Some q) e h =
      let s = source-is large.flow name q h in
      let a = input-again name p (source-is small.flow name p e) in
      let same = named-once large.flow a.0 q once a.1.within s.within (a.1.is ∙ sym s.is) in
      (s.within, subst (λ r. SendsFor p (of_node r)) same a.2)

  -- the sources are the same that lines name
  said-agree : (words : List (List ℕ)) → Agree large.flow of_node (source_said (sources_of small.flow) words) (source_said (sources_of large.flow) words)
  said-agree [] = tt
  said-agree (word ∷ []) = tt
  said-agree (first ∷ name ∷ records) =
      agree name (node_named (sources_of small.flow) name) (node_named (sources_of large.flow) name) refl refl

  test-agree : (p q : ℕ) → q < length large.flow.nodes → SendsFor p (of_node q) → (o k : Option ℕ) → Agree large.flow of_node o k
      → option_map_or (λ s. s == p) o false ≡ option_map_or (λ s. s == q) k false
  test-agree p q l s None None a = refl
  test-agree p q l s None (Some b) a = absurd a
  test-agree p q l s (Some a) None h = absurd h
  test-agree p q l s (Some a) (Some b) h = by (a == p) (b == q) refl refl
    where
      by : (c d : Bool) → (a == p) ≡ c → (b == q) ≡ d → c ≡ d
      by true true x y = refl
      by false false x y = refl
      by true false x y =
          let same = exact.once p b q h.0 l (subst (λ r. SendsFor r (of_node b)) (eqb-true a p x) h.1) s in
          absurd (true≢false (sym (eq-eqb b q same) ∙ y))
      by false true x y =
          let there = subst (λ r. SendsFor a (of_node r)) (eqb-true b q y) h.1 in
          let same : a ≡ p = sym (sends-is a (of_node q) there) ∙ sends-is p (of_node q) s in
          absurd (true≢false (sym (eq-eqb a p same) ∙ x))

  -- a node has the batches of what sends for it
  pub batches-agree : (lines : List Said) (p q : ℕ) → q < length large.flow.nodes → SendsFor p (of_node q)
      → batches_said_of (sources_of small.flow) lines p ≡ batches_said_of (sources_of large.flow) lines q
  batches-agree lines p q l s =
      ap (map (λ (line : Said). batch_of line.words))
      (same-filter (is_batch_of (sources_of small.flow) p) (is_batch_of (sources_of large.flow) q) lines
      (λ line. test-agree p q l s (source_said (sources_of small.flow) line.words) (source_said (sources_of large.flow) line.words) (said-agree line.words)))

  -- so has a line's source as many so far
  count-agree : (lines : List Said) (o k : Option ℕ) → Agree large.flow of_node o k
      → option_map_or (λ p. length (batches_said_of (sources_of small.flow) lines p)) o 0 ≡ option_map_or (λ q. length (batches_said_of (sources_of large.flow) lines q)) k 0
  count-agree lines None None a = refl
  count-agree lines None (Some q) a = absurd a
  count-agree lines (Some p) None a = absurd a
  count-agree lines (Some p) (Some q) a = ap (λ bs. length bs) (batches-agree lines p q a.0 a.1)

  value-agree : (o k : Option ℕ) → Agree large.flow of_node o k → (records : List (List ℕ)) (c d : ℕ) → c ≡ d → value_fault o records c ≡ value_fault k records d
  value-agree None None a records c d e = ap (λ n. option_or (source_fault None) (option_or (number_fault records) (count_fault n))) e
  value-agree None (Some q) a records c d e = absurd a
  value-agree (Some p) None a records c d e = absurd a
  value-agree (Some p) (Some q) a records c d e = ap (λ n. option_or (number_fault records) (count_fault n)) e

  fault-agree : (words : List (List ℕ)) (c d : ℕ) → c ≡ d
      → inputs_line_fault (sources_of small.flow) c words ≡ inputs_line_fault (sources_of large.flow) d words
  fault-agree [] c d e = refl
  fault-agree (word ∷ []) c d e = refl
  fault-agree (first ∷ name ∷ records) c d e =
      ap (λ o. option_or (form_fault first name records) o)
      (value-agree (node_named (sources_of small.flow) name) (node_named (sources_of large.flow) name) (said-agree (first ∷ name ∷ records)) records c d e)

  line-agree : (before : List Said) (line : Said) → inputs_fault (sources_of small.flow) before line ≡ inputs_fault (sources_of large.flow) before line
  line-agree before line =
      fault-agree line.words (count_of (sources_of small.flow) before line.words) (count_of (sources_of large.flow) before line.words)
      (count-agree before (source_said (sources_of small.flow) line.words) (source_said (sources_of large.flow) line.words) (said-agree line.words))

  pub inputs-agree : (text : List ℕ) → AreInputsOf large.flow text → AreInputsOf small.flow text
  inputs-agree text a = record {
    size = a.size;
    lines = λ before line after code parts broken. a.lines before line after code parts (sym (line-agree before line) ∙ broken);
  }
