-- What is found in words, from what is found in their parts.
use Rattle.std.proofs.Common.{◌≡◌, ℕ, ◌<◌, ◌≤◌, Bool, true, false, not, ◌||◌, List, [], ◌∷◌, ◌++◌, length, drop, get_or, Option, Some, None, Result, Ok, Err, IfErr, IfSome, refl, sym, ◌∙◌, ap, subst, arith, codes}
use Rattle.std.proofs.lemmas.Option.{same_Some}
use Rattle.std.proofs.lemmas.Slice.Eq.{bytes_eq-Decides}
use Rattle.std.specs.Fmt.{decimal}
use Rattle.std.specs.List.{list_any}
use Rattle.std.specs.Str.{bytes_eq}
use Rattle.std.proofs.lemmas.Bool.{not-false}
use Rattle.fw_bag.specs.declared.select.Assignment.{Assignment}
use Rattle.fw_bag.specs.declared.select.Condition.{Condition}
use Rattle.fw_bag.specs.declared.select.NewValue.{NewValue}
use Rattle.fw_bag.specs.declared.select.NewValue.TheVariants as new
use Rattle.fw_bag.specs.declared.select.Selection.{Selection}
use Rattle.fw_bag.specs.declared.select.Term.{Term}
use Rattle.fw_bag.specs.declared.select.Term.TheVariants as term
use Rattle.fw_lines.specs.declared.fault.ReadFault.{ReadFault}
use Rattle.fw_lines.specs.declared.refusal.Code.{Code}
use Rattle.fw_lines.specs.declared.refusal.Code.TheVariants.{F1, F2, F10}
use Rattle.fw_lines.specs.declared.refusal.Refusal.{Refusal}
use Rattle.fw_lines.specs.declared.span.Span.{Span}
use Rattle.fw_lines.specs.Faults.{IfRefused}
use Rattle.fw_lines.specs.Lines.{Said, bytes_at, words_at}
use Rattle.fw_lines.proofs.FaultLaws.{if_refused-weaker}
use Rattle.fw_flow.specs.declared.kind.Policy.{Policy}
use Rattle.fw_flow.specs.declared.kind.Policy.TheVariants.{None as NoPolicy}
use Rattle.fw_flow.specs.Declaring.{Declaration}
use Rattle.fw_flow.specs.declared.raw.Declaration.TheVariants.{Loop, Node, Edge}
use Rattle.fw_flow.specs.Declaring.{Declared}
use Rattle.fw_flow.specs.Kind.{RawKind, loop_of_kind}
use Rattle.fw_flow.specs.declared.kind.Kind.TheVariants.{Select}
use Rattle.fw_flow.specs.Raw.{is_new}
use Rattle.fw_flow_text.specs.declared.node.NodeForm.{NodeForm}
use Rattle.fw_flow_text.specs.Grammar.{AreWordsOf, Declare, is_large_number, capped, capped_words, Finds, BreakAfter}
use Rattle.fw_flow_text.specs.Spelled.{field_word, comparison_word, term_word, value_words, condition_words, assignment_words, selection_words, ending_words, node_words, split_words, IsSmallTerm, IsSmallValue, IsSmallAssignment, IsSmall, IsSmallKind, IsName, AreNodeWords, AreSplitWords}
use Rattle.fw_flow_text.proofs.DeclaredLaws.{small_words, declare_push, fault_from_rule, formed}
use Rattle.fw_flow_text.proofs.Reading.{condition_of, value_part, name_fault}
use Rattle.fw_flow_text.proofs.SpelledLaws.{condition_read, value_read}

-- ---- tests of words

pub same_word : (word text : List ℕ) (b : Bool) → b ≡ bytes_eq word text → b ≡ true → word ≡ text
same_word word text b e t = (bytes_eq-Decides word text).0 (sym e ∙ t)

pub no_other_word : (word text : List ℕ) (b : Bool) → b ≡ not (bytes_eq word text) → b ≡ false → word ≡ text
no_other_word word text b e t = (bytes_eq-Decides word text).0 (not-false (bytes_eq word text) (sym e ∙ t))

-- ---- the first words of a line

-- the word that is a part of a text
abbrev word_at : List ℕ → List Span → ℕ → Span → List ℕ
word_at text words place d = capped (bytes_at text (get_or words place d))

first_word : (text : List ℕ) (words rest : List Span) (d : Span) → 1 ≤ length words → rest ≡ drop 1 words → capped_words text words ≡ word_at text words 0 d ∷ capped_words text rest
first_word text [] rest d h e = absurd (omega arith)
first_word text (w ∷ ws) rest d h e = ap (λ r. capped (bytes_at text w) ∷ capped_words text r) (sym e)

first_two : (text : List ℕ) (words rest : List Span) (d : Span) → 2 ≤ length words → rest ≡ drop 2 words
    → capped_words text words ≡ word_at text words 0 d ∷ word_at text words 1 d ∷ capped_words text rest
first_two text [] rest d h e = absurd (omega arith)
first_two text (w ∷ []) rest d h e = absurd (omega arith)
first_two text (w ∷ v ∷ ws) rest d h e = ap (λ r. capped (bytes_at text w) ∷ capped (bytes_at text v) ∷ capped_words text r) (sym e)

first_three : (text : List ℕ) (words rest : List Span) (d : Span) → 3 ≤ length words → rest ≡ drop 3 words
    → capped_words text words ≡ word_at text words 0 d ∷ word_at text words 1 d ∷ word_at text words 2 d ∷ capped_words text rest
first_three text [] rest d h e = absurd (omega arith)
first_three text (w ∷ []) rest d h e = absurd (omega arith)
first_three text (w ∷ v ∷ []) rest d h e = absurd (omega arith)
first_three text (w ∷ v ∷ u ∷ ws) rest d h e = ap (λ r. capped (bytes_at text w) ∷ capped (bytes_at text v) ∷ capped (bytes_at text u) ∷ capped_words text r) (sym e)

-- a line that begins with a word
pub headed : (text : List ℕ) (words rest : List Span) (d : Span) (head word : List ℕ) → 1 ≤ length words → rest ≡ drop 1 words → head ≡ word_at text words 0 d → head ≡ word
    → word ∷ capped_words text rest ≡ capped_words text words
headed text words rest d head word h e i w = ap (λ v. v ∷ capped_words text rest) (sym w ∙ i) ∙ sym (first_word text words rest d h e)

-- a word, and what follows
pub headed_plain : (text : List ℕ) (words rest : List Span) (d : Span) (head : List ℕ) → 1 ≤ length words → rest ≡ drop 1 words → head ≡ word_at text words 0 d → head ∷ capped_words text rest ≡ capped_words text words
headed_plain text words rest d head h e i = ap (λ v. v ∷ capped_words text rest) i ∙ sym (first_word text words rest d h e)

-- a loop, its greatest counter, and what follows
pub loop_headed : (text : List ℕ) (words rest : List Span) (d : Span) (name max number : List ℕ) → 3 ≤ length words → rest ≡ drop 3 words
    → name ≡ word_at text words 0 d → max ≡ word_at text words 1 d → number ≡ word_at text words 2 d → max ≡ codes "max"
    → codes "loop" ∷ name ∷ codes "max" ∷ number ∷ capped_words text rest ≡ codes "loop" ∷ capped_words text words
loop_headed text words rest d name max number h e i j k m =
    ap (λ w. codes "loop" ∷ w ∷ codes "max" ∷ number ∷ capped_words text rest) i
    ∙ ap (λ w. codes "loop" ∷ word_at text words 0 d ∷ w ∷ number ∷ capped_words text rest) (sym m ∙ j)
    ∙ ap (λ w. codes "loop" ∷ word_at text words 0 d ∷ word_at text words 1 d ∷ w ∷ capped_words text rest) k
    ∙ ap (λ ws. codes "loop" ∷ ws) (sym (first_three text words rest d h e))

-- three words that are there, and what follows
pub three_there : (text : List ℕ) (words rest : List Span) (d : Span) (a b c : List ℕ) → 3 ≤ length words → rest ≡ drop 3 words → a ≡ word_at text words 0 d → b ≡ word_at text words 1 d → c ≡ word_at text words 2 d
    → a ∷ b ∷ c ∷ capped_words text rest ≡ capped_words text words
three_there text words rest d a b c h e i j k =
    ap (λ w. w ∷ b ∷ c ∷ capped_words text rest) i
    ∙ ap (λ w. word_at text words 0 d ∷ w ∷ c ∷ capped_words text rest) j
    ∙ ap (λ w. word_at text words 0 d ∷ word_at text words 1 d ∷ w ∷ capped_words text rest) k
    ∙ sym (first_three text words rest d h e)

-- a sum, and what follows
pub sum_there : (text : List ℕ) (words rest : List Span) (d : Span) (a b c : List ℕ) → 3 ≤ length words → rest ≡ drop 3 words → a ≡ word_at text words 0 d → b ≡ word_at text words 1 d → c ≡ word_at text words 2 d → b ≡ codes "plus"
    → a ∷ codes "plus" ∷ c ∷ capped_words text rest ≡ capped_words text words
sum_there text words rest d a b c h e i j k p = ap (λ w. a ∷ w ∷ c ∷ capped_words text rest) (sym p) ∙ three_there text words rest d a b c h e i j k

-- `set`, a field, and what follows
pub set_there : (text : List ℕ) (words rest : List Span) (d : Span) (a b field : List ℕ) (after : List (List ℕ)) → 2 ≤ length words → rest ≡ drop 2 words → a ≡ word_at text words 0 d → b ≡ word_at text words 1 d → a ≡ codes "set" → b ≡ field
    → capped_words text rest ≡ after → capped_words text words ≡ codes "set" ∷ field ∷ after
set_there text words rest d a b field after h e i j s f r =
    first_two text words rest d h e
    ∙ ap (λ w. w ∷ word_at text words 1 d ∷ capped_words text rest) (sym i ∙ s)
    ∙ ap (λ w. codes "set" ∷ w ∷ capped_words text rest) (sym j ∙ f)
    ∙ ap (λ ws. codes "set" ∷ field ∷ ws) r

-- behind the first of at most two words there are no two
pub too_few : (text : List ℕ) (words rest : List Span) → length words < 3 → rest ≡ drop 1 words → (a b : List ℕ) (others : List (List ℕ)) → capped_words text rest ≡ a ∷ b ∷ others → ⊥
too_few text [] rest h e a b others r = let s : [] ≡ a ∷ b ∷ others = ap (capped_words text) (sym e) ∙ r in absurd (cc)
too_few text (w ∷ []) rest h e a b others r = let s : [] ≡ a ∷ b ∷ others = ap (capped_words text) (sym e) ∙ r in absurd (cc)
too_few text (w ∷ v ∷ []) rest h e a b others r = let s : [] ≡ b ∷ others = ap (drop 1) (ap (capped_words text) (sym e) ∙ r) in absurd (cc)
too_few text (w ∷ v ∷ u ∷ ws) rest h e a b others r = absurd (omega (arith, h))

-- where the second word is not `plus`, it does not follow the first
pub no_plus : (text : List ℕ) (words rest : List Span) (d : Span) (second plus : List ℕ) (b : Bool) → 3 ≤ length words → rest ≡ drop 1 words → second ≡ word_at text words 1 d → plus ≡ codes "plus"
    → b ≡ bytes_eq second plus → b ≡ false → (last : List ℕ) (others : List (List ℕ)) → capped_words text rest ≡ codes "plus" ∷ last ∷ others → ⊥
no_plus text [] rest d second plus b h e i p t f last others r = absurd (omega arith)
no_plus text (w ∷ []) rest d second plus b h e i p t f last others r = absurd (omega arith)
no_plus text (w ∷ v ∷ ws) rest d second plus b h e i p t f last others r =
    let same : second ≡ codes "plus" = i ∙ ap (λ us. get_or us 0 []) (ap (capped_words text) (sym e) ∙ r) in
    let k : true ≡ false = sym (ap (λ x. bytes_eq x (codes "plus")) same) ∙ ap (bytes_eq second) (sym p) ∙ sym t ∙ f in
    absurd (cc)

-- ---- values

-- where a word is no term, it is no value
pub no_value : (word : List ℕ) → ((t : Term) → (word ≡ term_word t) × IsSmallTerm t → ⊥) → (v : NewValue) → (word ∷ [] ≡ value_words v) × IsSmallValue v → ⊥
no_value word none (new.Number n) h = let e : word ≡ decimal n = cc in none (term.Number n) (e, h.1)
no_value word none (new.Field field) h = let e : word ≡ field_word field = cc in none (term.Field field) (e, tt)
no_value word none (new.FieldPlus field n) h = let e : word ∷ [] ≡ field_word field ∷ codes "plus" ∷ decimal n ∷ [] = h.0 in absurd (cc)

-- words are those of one value
one_value : (ws : List (List ℕ)) (v u : NewValue) → ws ≡ value_words v → IsSmallValue v → ws ≡ value_words u → IsSmallValue u → v ≡ u
one_value ws v u e h f k =
    let end = ending_words None NoPolicy in
    let both : ◌≡◌ {A = Option (NewValue × List (List ℕ))} (Some (v, end)) (Some (u, end)) =
    sym (value_read v None NoPolicy h) ∙ ap (λ x. value_part (x ++ end)) (sym e ∙ f) ∙ value_read u None NoPolicy k in
    ap (λ (x : NewValue × List (List ℕ)). x.0) (same_Some (v, end) (u, end) both)

-- the words of a sum begin with no other value
pub only_sum : (first last : List ℕ) (rest : List (List ℕ)) (v : NewValue) → (first ∷ codes "plus" ∷ last ∷ [] ≡ value_words v) × IsSmallValue v
    → (u : NewValue) (within : Option (List ℕ)) (policy : Policy) → IsSmallValue u → first ∷ codes "plus" ∷ last ∷ rest ≡ value_words u ++ ending_words within policy
    → (v ≡ u) × (rest ≡ ending_words within policy)
only_sum first last rest v s (new.Number n) None policy k e = let t : true ≡ false = ap (λ ws. bytes_eq (get_or ws 1 []) (codes "plus")) e in absurd (cc)
only_sum first last rest v s (new.Number n) (Some name) policy k e = let t : true ≡ false = ap (λ ws. bytes_eq (get_or ws 1 []) (codes "plus")) e in absurd (cc)
only_sum first last rest v s (new.Field field) None policy k e = let t : true ≡ false = ap (λ ws. bytes_eq (get_or ws 1 []) (codes "plus")) e in absurd (cc)
only_sum first last rest v s (new.Field field) (Some name) policy k e = let t : true ≡ false = ap (λ ws. bytes_eq (get_or ws 1 []) (codes "plus")) e in absurd (cc)
only_sum first last rest v s (new.FieldPlus field n) within policy k e =
    let a : first ≡ field_word field = cc in
    let b : last ≡ decimal n = cc in
    let c : rest ≡ ending_words within policy = cc in
    let words : first ∷ codes "plus" ∷ last ∷ [] ≡ value_words (new.FieldPlus field n) = ap (λ w. w ∷ codes "plus" ∷ last ∷ []) a ∙ ap (λ w. field_word field ∷ codes "plus" ∷ w ∷ []) b in
    (one_value (first ∷ codes "plus" ∷ last ∷ []) v (new.FieldPlus field n) s.0 s.1 words k, c)

-- nor do those of a plain value, where no `plus` follows
pub only_plain : (word : List ℕ) (rest : List (List ℕ)) (v : NewValue) → (word ∷ [] ≡ value_words v) × IsSmallValue v
    → ((last : List ℕ) (others : List (List ℕ)) → rest ≡ codes "plus" ∷ last ∷ others → ⊥)
    → (u : NewValue) (within : Option (List ℕ)) (policy : Policy) → IsSmallValue u → word ∷ rest ≡ value_words u ++ ending_words within policy
    → (v ≡ u) × (rest ≡ ending_words within policy)
only_plain word rest v s none (new.Number n) within policy k e =
    let a : word ≡ decimal n = cc in
    let c : rest ≡ ending_words within policy = cc in
    (one_value (word ∷ []) v (new.Number n) s.0 s.1 (ap (λ w. w ∷ []) a) k, c)
only_plain word rest v s none (new.Field field) within policy k e =
    let a : word ≡ field_word field = cc in
    let c : rest ≡ ending_words within policy = cc in
    (one_value (word ∷ []) v (new.Field field) s.0 s.1 (ap (λ w. w ∷ []) a) k, c)
only_plain word rest v s none (new.FieldPlus field n) within policy k e =
    let c : rest ≡ codes "plus" ∷ decimal n ∷ ending_words within policy = cc in absurd (none (decimal n) (ending_words within policy) c)

-- ---- selections

-- words are those of one condition
pub one_condition : (left between right : List ℕ) (a b : Condition) → left ∷ between ∷ right ∷ [] ≡ condition_words a → IsSmallTerm a.term
    → left ∷ between ∷ right ∷ [] ≡ condition_words b → IsSmallTerm b.term → a ≡ b
one_condition left between right a b e h f k =
    let words : condition_words a ≡ condition_words b = sym e ∙ f in
    let x : field_word a.field ≡ field_word b.field = cc in
    let y : comparison_word a.comparison ≡ comparison_word b.comparison = cc in
    let z : term_word a.term ≡ term_word b.term = cc in
    let both : Some a ≡ Some b =
    sym (condition_read a.field a.comparison a.term h)
    ∙ ap (λ w. condition_of w (comparison_word a.comparison) (term_word a.term)) x
    ∙ ap (λ w. condition_of (field_word b.field) w (term_word a.term)) y
    ∙ ap (condition_of (field_word b.field) (comparison_word b.comparison)) z
    ∙ condition_read b.field b.comparison b.term k in
    same_Some a b both

-- the words of a condition and what is found behind them are those of no other selection
pub only_selection : (left between right : List ℕ) (rest left_over : List (List ℕ)) (c : Condition) (a : Option Assignment)
    → (left ∷ between ∷ right ∷ [] ≡ condition_words c) × IsSmallTerm c.term
    → ((b : Option Assignment) (within : Option (List ℕ)) (policy : Policy) → IsSmallAssignment b → rest ≡ assignment_words b ++ ending_words within policy → (a ≡ b) × (left_over ≡ ending_words within policy))
    → (s : Selection) (within : Option (List ℕ)) (policy : Policy) → IsSmall s → left ∷ between ∷ right ∷ rest ≡ selection_words s ++ ending_words within policy
    → (record { condition = c; assignment = a } ≡ s) × (left_over ≡ ending_words within policy)
only_selection left between right rest left_over c a is_c only s within policy small e =
    let x : left ≡ field_word s.condition.field = cc in
    let y : between ≡ comparison_word s.condition.comparison = cc in
    let z : right ≡ term_word s.condition.term = cc in
    let r : rest ≡ assignment_words s.assignment ++ ending_words within policy = cc in
    let words : left ∷ between ∷ right ∷ [] ≡ condition_words s.condition =
    ap (λ w. w ∷ between ∷ right ∷ []) x ∙ ap (λ w. field_word s.condition.field ∷ w ∷ right ∷ []) y ∙ ap (λ w. field_word s.condition.field ∷ comparison_word s.condition.comparison ∷ w ∷ []) z in
    let same : c ≡ s.condition = one_condition left between right c s.condition is_c.0 is_c.1 words small.term in
    let found = only s.assignment within policy small.assignment r in
    let with_condition : Condition → Selection = λ d. record { condition = d; assignment = a } in
    let with_assignment : Option Assignment → Selection = λ b. record { condition = s.condition; assignment = b } in
    (ap with_condition same ∙ ap with_assignment found.0, found.1)

-- ---- nodes

-- where no ending is found behind a selection, no select is written so
pub no_select : (word : List ℕ) (words rest : List (List ℕ)) (found : Selection) → word ≡ codes "select"
    → ((s : Selection) (within : Option (List ℕ)) (policy : Policy) → IsSmall s → words ≡ selection_words s ++ ending_words within policy → (found ≡ s) × (rest ≡ ending_words within policy))
    → ((end : Option (List ℕ) × Policy) → (rest ≡ ending_words end.0 end.1) × IfSome end.0 IsName → ⊥)
    → (form : NodeForm) → AreNodeWords word words form → ⊥
no_select word words rest found e only none form h = by form.kind h.same h.writable.loop_name h.writable.numbers
  where
    by : (k : RawKind) → word ∷ words ≡ node_words k form.policy → IfSome (loop_of_kind k) IsName → IsSmallKind k → ⊥
    by (Select s within) same name small =
        let ws : words ≡ selection_words s ++ ending_words within form.policy = cc in
        none (within, form.policy) ((only s within form.policy small ws).1, name)
    by k same name small =
        let t : true ≡ false = sym (ap (λ w. bytes_eq w (codes "select")) e) ∙ ap (λ ws. bytes_eq (get_or ws 0 []) (codes "select")) same in
        absurd (cc)

-- where no node is found behind a name, none is written so
pub no_node : (text : List ℕ) (words rest : List Span) (d : Span) (kind : List ℕ) → 2 ≤ length words → rest ≡ drop 2 words → kind ≡ word_at text words 1 d
    → ((found : NodeForm × Option ℕ) → AreSplitWords kind (capped_words text rest) found.0 found.1 → ⊥) → (declaration : Declaration) → AreWordsOf (codes "node" ∷ capped_words text words) declaration → ⊥
no_node text words rest d kind h e i none (Loop n max parent) w = let t : true ≡ false = ap (λ ws. bytes_eq (get_or ws 0 []) (codes "node")) w.same in absurd (cc)
no_node text words rest d kind h e i none (Edge n sender receiver) w = let t : true ≡ false = ap (λ ws. bytes_eq (get_or ws 0 []) (codes "node")) w.same in absurd (cc)
no_node text words rest d kind h e i none (Node n k p split part) w =
    let all : word_at text words 0 d ∷ word_at text words 1 d ∷ capped_words text rest ≡ n ∷ split_words split (node_words k p) = sym (first_two text words rest d h e) ∙ ap (drop 1) w.same in
    none (record { kind = k; policy = p }, split) (record { same = ap (λ v. v ∷ capped_words text rest) i ∙ ap (drop 1) all; writable = w.writable.1; splits = w.writable.2 })

-- ---- lines

pub no_parts : (text : List ℕ) (words : List Span) → length words ≡ 0 → words_at text words ≡ []
no_parts text [] e = refl
no_parts text (w ∷ ws) e = absurd (omega arith)

some_parts : (text : List ℕ) (words : List Span) → 0 < length words → words_at text words ≡ [] → ⊥
some_parts text [] h e = absurd (omega arith)
some_parts text (w ∷ ws) h e = absurd (cc)

large_at : (text : List ℕ) (words : List Span) → list_any (λ word. is_large_number (bytes_at text word)) words ≡ list_any (λ word. is_large_number word) (words_at text words)
large_at text [] = refl
large_at text (w ∷ ws) = ap (λ b. is_large_number (bytes_at text w) || b) (large_at text ws)

-- a line of no form breaks the first rule
pub formless : (text : List ℕ) (raw : List Declared) (words : List Span) (found : Option Declaration) → Finds (AreWordsOf (capped_words text words)) found → found ≡ None → 0 < length words
    → BreakAfter raw (words_at text words) F1
formless text raw words found h e some = (some_parts text words some, subst (Finds (AreWordsOf (capped_words text words))) e h)

-- one with a number that is too large breaks the tenth
pub too_large : (text : List ℕ) (raw : List Declared) (words : List Span) (found : Option Declaration) (d : Declaration) (b : Bool) → Finds (AreWordsOf (capped_words text words)) found → found ≡ Some d
    → b ≡ list_any (λ word. is_large_number (bytes_at text word)) words → b ≡ true → BreakAfter raw (words_at text words) F10
too_large text raw words found d b h e l t = (d, subst (Finds (AreWordsOf (capped_words text words))) e h, sym (large_at text words) ∙ sym l ∙ t)

-- one of a form, without such a number, breaks the second, unless the name is new
pub not_new : (text : List ℕ) (raw : List Declared) (words : List Span) (found : Option Declaration) (d : Declaration) (b : Bool) → Finds (AreWordsOf (capped_words text words)) found → found ≡ Some d
    → b ≡ list_any (λ word. is_large_number (bytes_at text word)) words → b ≡ false → is_new raw d ≡ false → BreakAfter raw (words_at text words) F2
not_new text raw words found d b h e l t n = (d, subst (Finds (AreWordsOf (capped_words text words))) e h, sym (large_at text words) ∙ sym l ∙ t, n)

-- and else breaks none
pub new_breaks_none : (text : List ℕ) (raw : List Declared) (words : List Span) (found : Option Declaration) (d : Declaration) (b : Bool) → Finds (AreWordsOf (capped_words text words)) found → found ≡ Some d
    → b ≡ list_any (λ word. is_large_number (bytes_at text word)) words → b ≡ false → is_new raw d ≡ true → (code : Code) → BreakAfter raw (words_at text words) code → ⊥
new_breaks_none text raw words found d b h e l t n code broken =
    let form = subst (Finds (AreWordsOf (capped_words text words))) e h in
    let told : None ≡ Some code =
    sym (formed raw (words_at text words) d false form (sym (large_at text words) ∙ sym l ∙ t) ∙ ap name_fault n) ∙ fault_from_rule raw (words_at text words) code broken in
    absurd (cc)

-- it declares what was found
pub declares_found : (text : List ℕ) (raw more : List Declared) (number : ℕ) (words : List Span) (found : Option Declaration) (d : Declaration) (b : Bool) → Finds (AreWordsOf (capped_words text words)) found → found ≡ Some d
    → b ≡ list_any (λ word. is_large_number (bytes_at text word)) words → b ≡ false → more ≡ raw ++ record { line = number; declaration = d } ∷ []
    → (before : List Said) → Declare before raw → Declare (before ++ record { number = number; words = words_at text words } ∷ []) more
declares_found text raw more number words found d b h e l t m before declared =
    let form = subst (Finds (AreWordsOf (capped_words text words))) e h in
    let line : Said = record { number = number; words = words_at text words } in
    let small = small_words (words_at text words) (sym (large_at text words) ∙ sym l ∙ t) in
    subst (Declare (before ++ line ∷ [])) (sym m) (declare_push before raw line d declared (subst (λ ws. AreWordsOf ws d) small form))

-- ---- results

pub refusal_weaker : {A : Type 0} (P Q : Refusal → Type 0) (r : Result A ReadFault) → IfErr r (IfRefused P) → ((refusal : Refusal) → P refusal → Q refusal) → IfErr r (IfRefused Q)
refusal_weaker P Q (Ok a) h f = tt
refusal_weaker P Q (Err fault) h f = if_refused-weaker P Q fault h f
