-- What is written is read as what it was, from the front.
use Rattle.std.proofs.Common.{◌≡◌, ℕ, ◌+◌, ◌<◌, ◌^◌, Bool, true, false, cond, List, [], ◌∷◌, ◌++◌, length, Option, Some, None, refl, sym, ◌∙◌, ap, arith, codes, nat_lt, IfSome}
use Rattle.std.proofs.lemmas.Bool.Decides.{nat_tests}
use Rattle.std.proofs.lemmas.Fmt.{decimal_is_IsNumeral}
use Rattle.std.proofs.lemmas.Slice.Eq.{bytes_eq-Decides}
use Rattle.std.specs.Fmt.{decimal}
use Rattle.std.specs.Option.{option_and_then, option_or}
use Rattle.std.specs.Str.{bytes_eq}
use Rattle.std.specs.Str.Parse.{digits_value}
use Rattle.fw_bag.specs.declared.select.Assignment.{Assignment}
use Rattle.fw_bag.specs.declared.select.Comparison.{Comparison}
use Rattle.fw_bag.specs.declared.select.Comparison.TheVariants.{Equal, NotEqual, Less, LessOrEqual, Greater, GreaterOrEqual}
use Rattle.fw_bag.specs.declared.select.Condition.{Condition}
use Rattle.fw_bag.specs.declared.select.Field.{Field}
use Rattle.fw_bag.specs.declared.select.Field.TheVariants.{Key, Value}
use Rattle.fw_bag.specs.declared.select.NewValue.{NewValue}
use Rattle.fw_bag.specs.declared.select.NewValue.TheVariants as new
use Rattle.fw_bag.specs.declared.select.Selection.{Selection}
use Rattle.fw_bag.specs.declared.select.Term.{Term}
use Rattle.fw_bag.specs.declared.select.Term.TheVariants as term
use Rattle.fw_lines.proofs.DecimalLaws.{decimal_numeral}
use Rattle.fw_lines.specs.declared.numeral.Number.{Number}
use Rattle.fw_lines.specs.declared.numeral.Number.TheVariants as number
use Rattle.fw_lines.specs.Spelling.{is_name, is_numeral, number_of}
use Rattle.fw_flow.specs.declared.kind.Policy.{Policy}
use Rattle.fw_flow.specs.declared.kind.Policy.TheVariants as policy
use Rattle.fw_flow.specs.Declaring.{Declaration}
use Rattle.fw_flow.specs.declared.raw.Declaration.TheVariants.{Loop, Node, Edge}
use Rattle.fw_flow.specs.declared.key_part.KeyPart.{KeyPart}
use Rattle.fw_flow.specs.KeyParts.{may_split}
use Rattle.fw_flow.specs.Kind.{RawKind}
use Rattle.fw_flow.specs.declared.kind.Kind.TheVariants.{Input, OutputEpoch, OutputNumber, Select, Concat, Distinct, Join, Sum, Enter, Feedback, Leave, Total, Sequence, Ledger, Regroup}
use Rattle.fw_flow_text.specs.declared.node.NodeForm.{NodeForm}
use Rattle.fw_flow_text.specs.Spelled.{field_word, comparison_word, term_word, value_words, assignment_words, selection_words, policy_words, ending_words, node_words, split_words, parent_words, declaration_words, IsSmallTerm, IsSmallValue, IsSmallAssignment, IsSmall, IsName, IsSplitWritten, IsWritableNode, IsWritable}
use Rattle.fw_flow_text.proofs.SplitLaws.{behind, has_split-there, no_split-node, node_head, number-there, policy_last, split_words-there, without-there}
use Rattle.fw_flow_text.proofs.Reading.{value_in, numeral_of, field_of, comparison_of, term_of, term_from, value_from, name_of, policy_named, policy_at_end, ending_within, ending_outside, ending_of, parent_named, parent_at_end, condition_of, sum_value, plain_value, with_rest, value_part, assignment_part, selection_part, output_kind, within_kind, leading_kind, lone_kind, input_form, output_form, select_form, regroup_form, within_form, leading_form, lone_form, shape_form, node_form, form_in, has_split, without_split, split_form, plain_form, any_form, any_in, node_declaration, edge_declaration, loop_of, loop_declaration, declaration_of}

named : (name : List ℕ) → is_name name ≡ true → name_of name ≡ Some name
named name e = ap (λ b. cond b (Some name) None) e

field_read : (field : Field) → field_of (field_word field) ≡ Some field
unfolding field_of
field_read Key = refl
field_read Value = refl

comparison_read : (comparison : Comparison) → comparison_of (comparison_word comparison) ≡ Some comparison
unfolding comparison_of
comparison_read Equal = refl
comparison_read NotEqual = refl
comparison_read Less = refl
comparison_read LessOrEqual = refl
comparison_read Greater = refl
comparison_read GreaterOrEqual = refl

is_small : (n : ℕ) → n < 2 ^ 64 → nat_lt n (2 ^ 64) ≡ true
is_small n h = grind (arith, nat_tests, h)

pub numeral_read : (n : ℕ) → n < 2 ^ 64 → numeral_of (decimal n) ≡ Some n
unfolding numeral_of number_of
numeral_read n h =
    let small : ℕ → Number = λ v. cond (nat_lt v (2 ^ 64)) (number.Value v) number.TooLarge in
    ap (λ b. value_in (cond b (small (digits_value 10 (decimal n))) number.NotANumber)) (decimal_numeral n h)
    ∙ ap (λ v. value_in (small v)) (decimal_is_IsNumeral n h).1
    ∙ ap (λ b. value_in (cond b (number.Value n) number.TooLarge)) (is_small n h)

unequal : (word text : List ℕ) → is_numeral text ≡ false → is_numeral word ≡ true → bytes_eq word text ≡ false
unequal word text f e = by_test (bytes_eq word text) refl
  where
    by_test : (b : Bool) → bytes_eq word text ≡ b → b ≡ false
    by_test true t =
        let other : true ≡ false = sym e ∙ ap is_numeral ((bytes_eq-Decides word text).0 t) ∙ f in
        absurd (cc)
    by_test false t = refl

-- a numeral is no field
no_field : (word : List ℕ) → is_numeral word ≡ true → field_of word ≡ None
unfolding field_of
no_field word e =
    ap (λ b. cond b (Some Key) (cond (bytes_eq word (codes "value")) (Some Value) None)) (unequal word (codes "key") refl e)
    ∙ ap (λ b. cond b (Some Value) None) (unequal word (codes "value") refl e)

term_read : (t : Term) → IsSmallTerm t → term_of (term_word t) ≡ Some t
unfolding term_of
term_read (term.Number n) h =
    ap (λ f. term_from f (numeral_of (decimal n))) (no_field (decimal n) (decimal_numeral n h)) ∙ ap (term_from None) (numeral_read n h)
term_read (term.Field field) h = ap (λ f. term_from f (numeral_of (field_word field))) (field_read field)

pub condition_read : (field : Field) (comparison : Comparison) (t : Term) → IsSmallTerm t
    → condition_of (field_word field) (comparison_word comparison) (term_word t) ≡ Some (record { field = field; comparison = comparison; term = t })
unfolding condition_of
condition_read field comparison t h =
    let whole : Field → Comparison → Term → Option Condition = λ f c u. Some (record { field = f; comparison = c; term = u }) in
    ap (option_and_then (λ f. option_and_then (λ c. option_and_then (whole f c) (term_of (term_word t))) (comparison_of (comparison_word comparison)))) (field_read field)
    ∙ ap (option_and_then (λ c. option_and_then (whole field c) (term_of (term_word t)))) (comparison_read comparison)
    ∙ ap (option_and_then (whole field comparison)) (term_read t h)

plain_value_read : (t : Term) → IsSmallTerm t → plain_value (term_word t) ≡ Some (value_from t)
plain_value_read t h =
    let whole : Term → Option NewValue = λ u. Some (value_from u) in
    ap (option_and_then whole) (term_read t h)

sum_value_read : (field : Field) (n : ℕ) → n < 2 ^ 64 → sum_value (field_word field) (decimal n) ≡ Some (new.FieldPlus field n)
sum_value_read field n h =
    let whole : Field → ℕ → Option NewValue = λ f m. Some (new.FieldPlus f m) in
    ap (option_and_then (λ f. option_and_then (whole f) (numeral_of (decimal n)))) (field_read field)
    ∙ ap (option_and_then (whole field)) (numeral_read n h)

-- ---- how lines end

policy_read : (p : Policy) → policy_at_end (policy_words p) ≡ Some p
unfolding policy_at_end policy_named
policy_read policy.None = refl
policy_read policy.Lazy = refl
policy_read policy.Logged = refl
policy_read policy.Eager = refl
policy_read policy.Full = refl

ending_read : (within : Option (List ℕ)) (p : Policy) → IfSome within IsName → ending_of (ending_words within p) ≡ Some (within, p)
unfolding ending_of ending_within ending_outside
ending_read None p h =
    let whole : Policy → Option (Option (List ℕ) × Policy) = λ q. Some (None, q) in
    ap (option_and_then whole) (policy_read p)
ending_read (Some name) p h =
    let whole : List ℕ → Policy → Option (Option (List ℕ) × Policy) = λ n q. Some (Some n, q) in
    ap (option_and_then (λ n. option_and_then (whole n) (policy_at_end (policy_words p)))) (named name h)
    ∙ ap (option_and_then (whole name)) (policy_read p)

parent_read : (parent : Option (List ℕ)) → IfSome parent IsName → parent_at_end (parent_words parent) ≡ Some parent
unfolding parent_at_end parent_named
parent_read None h = refl
parent_read (Some name) h =
    let whole : List ℕ → Option (Option (List ℕ)) = λ n. Some (Some n) in
    ap (option_and_then whole) (named name h)

-- ---- selections

pub value_read : (v : NewValue) (within : Option (List ℕ)) (p : Policy) → IsSmallValue v → value_part (value_words v ++ ending_words within p) ≡ Some (v, ending_words within p)
unfolding value_part
value_read (new.Number n) None p h = ap (with_rest (ending_words None p)) (plain_value_read (term.Number n) h)
value_read (new.Number n) (Some name) p h = ap (with_rest (ending_words (Some name) p)) (plain_value_read (term.Number n) h)
value_read (new.Field field) None p h = ap (with_rest (ending_words None p)) (plain_value_read (term.Field field) tt)
value_read (new.Field field) (Some name) p h = ap (with_rest (ending_words (Some name) p)) (plain_value_read (term.Field field) tt)
value_read (new.FieldPlus field n) within p h = ap (with_rest (ending_words within p)) (sum_value_read field n h)

assignment_read : (a : Option Assignment) (within : Option (List ℕ)) (p : Policy) → IsSmallAssignment a → assignment_part (assignment_words a ++ ending_words within p) ≡ Some (a, ending_words within p)
unfolding assignment_part
assignment_read None None p h = refl
assignment_read None (Some name) p h = refl
assignment_read (Some a) within p h =
    let whole : Field → NewValue × List (List ℕ) → Option (Option Assignment × List (List ℕ)) = λ f u. Some (Some (record { field = f; value = u.0 }), u.1) in
    ap (option_and_then (λ f. option_and_then (whole f) (value_part (value_words a.value ++ ending_words within p)))) (field_read a.field)
    ∙ ap (option_and_then (whole a.field)) (value_read a.value within p h)

selection_read : (s : Selection) (within : Option (List ℕ)) (p : Policy) → IsSmall s → selection_part (selection_words s ++ ending_words within p) ≡ Some (s, ending_words within p)
unfolding selection_part
selection_read s within p small =
    let whole : Condition → Option Assignment × List (List ℕ) → Option (Selection × List (List ℕ)) = λ c a. Some (record { condition = c; assignment = a.0 }, a.1) in
    ap (option_and_then (λ c. option_and_then (whole c) (assignment_part (assignment_words s.assignment ++ ending_words within p)))) (condition_read s.condition.field s.condition.comparison s.condition.term small.term)
    ∙ ap (option_and_then (whole s.condition)) (assignment_read s.assignment within p small.assignment)

-- ---- nodes

-- a node of this kind and policy
abbrev form_of : RawKind → Policy → NodeForm
form_of k p = record { kind = k; policy = p }

select_read : (s : Selection) (within : Option (List ℕ)) (p : Policy) → IsSmall s → IfSome within IsName → select_form (selection_words s ++ ending_words within p) ≡ Some (form_of (Select s within) p)
unfolding select_form
select_read s within p small h =
    let whole : Selection × List (List ℕ) → Option (List ℕ) × Policy → Option NodeForm = λ u e. Some (form_of (Select u.0 e.0) e.1) in
    ap (option_and_then (λ u. option_and_then (whole u) (ending_of u.1))) (selection_read s within p small)
    ∙ ap (option_and_then (whole (s, ending_words within p))) (ending_read within p h)

regroup_read : (n : ℕ) (p : Policy) → n < 2 ^ 64 → regroup_form (decimal n ∷ policy_words p) ≡ Some (form_of (Regroup n) p)
unfolding regroup_form
regroup_read n p h =
    let whole : ℕ → Policy → Option NodeForm = λ u q. Some (form_of (Regroup u) q) in
    ap (option_and_then (λ u. option_and_then (whole u) (policy_at_end (policy_words p)))) (numeral_read n h)
    ∙ ap (option_and_then (whole n)) (policy_read p)

within_read : (word : List ℕ) (k : Option (List ℕ) → RawKind) (within : Option (List ℕ)) (p : Policy) → ((w : Option (List ℕ)) → within_kind w word ≡ Some (k w)) → IfSome within IsName
    → within_form word (ending_words within p) ≡ Some (form_of (k within) p)
unfolding within_form
within_read word k within p e h =
    let whole : Option (List ℕ) × Policy → Option NodeForm = λ u. option_and_then (λ x. Some (form_of x u.1)) (within_kind u.0 word) in
    ap (option_and_then whole) (ending_read within p h)
    ∙ ap (option_and_then (λ x. Some (form_of x p))) (e within)

leading_read : (word : List ℕ) (k : List ℕ → RawKind) (name : List ℕ) (p : Policy) → ((n : List ℕ) → leading_kind n word ≡ Some (k n)) → IsName name
    → leading_form word (name ∷ policy_words p) ≡ Some (form_of (k name) p)
unfolding leading_form
leading_read word k name p e h =
    let whole : RawKind → Policy → Option NodeForm = λ x q. Some (form_of x q) in
    ap (option_and_then (λ n. option_and_then (λ x. option_and_then (whole x) (policy_at_end (policy_words p))) (leading_kind n word))) (named name h)
    ∙ ap (option_and_then (λ x. option_and_then (whole x) (policy_at_end (policy_words p)))) (e name)
    ∙ ap (option_and_then (whole (k name))) (policy_read p)

lone_read : (word : List ℕ) (k : RawKind) (p : Policy) → lone_kind word ≡ Some k → lone_form word (policy_words p) ≡ Some (form_of k p)
unfolding lone_form
lone_read word k p e =
    let whole : RawKind → Policy → Option NodeForm = λ x q. Some (form_of x q) in
    ap (option_and_then (λ x. option_and_then (whole x) (policy_at_end (policy_words p)))) e
    ∙ ap (option_and_then (whole k)) (policy_read p)

-- a word that names no kind that may stand in a loop has none of its lines
no_within : (word : List ℕ) (rest : List (List ℕ)) → ((w : Option (List ℕ)) → within_kind w word ≡ None) → within_form word rest ≡ None
unfolding within_form
no_within word rest e = by (ending_of rest)
  where
    by : (o : Option (Option (List ℕ) × Policy)) → option_and_then (λ u. option_and_then (λ x. Some (form_of x u.1)) (within_kind u.0 word)) o ≡ None
    by None = refl
    by (Some u) = ap (option_and_then (λ x. Some (form_of x u.1))) (e u.0)

-- and one that names no kind that leads somewhere has none of theirs
no_leading : (word : List ℕ) (rest : List (List ℕ)) → ((n : List ℕ) → leading_kind n word ≡ None) → leading_form word rest ≡ None
unfolding leading_form
no_leading word [] e = refl
no_leading word (first ∷ rest) e = by (name_of first)
  where
    by : (o : Option (List ℕ)) → option_and_then (λ n. option_and_then (λ x. option_and_then (λ q. Some (form_of x q)) (policy_at_end rest)) (leading_kind n word)) o ≡ None
    by None = refl
    by (Some n) = ap (option_and_then (λ x. option_and_then (λ q. Some (form_of x q)) (policy_at_end rest))) (e n)

shape_within : (word : List ℕ) (k : Option (List ℕ) → RawKind) (within : Option (List ℕ)) (p : Policy) → ((w : Option (List ℕ)) → within_kind w word ≡ Some (k w)) → IfSome within IsName
    → shape_form word (ending_words within p) ≡ Some (form_of (k within) p)
shape_within word k within p e h =
    ap (λ o. option_or o (option_or (leading_form word (ending_words within p)) (lone_form word (ending_words within p)))) (within_read word k within p e h)

shape_leading : (word : List ℕ) (k : List ℕ → RawKind) (name : List ℕ) (p : Policy) → ((w : Option (List ℕ)) → within_kind w word ≡ None) → ((n : List ℕ) → leading_kind n word ≡ Some (k n)) → IsName name
    → shape_form word (name ∷ policy_words p) ≡ Some (form_of (k name) p)
shape_leading word k name p none e h =
    ap (λ o. option_or o (option_or (leading_form word (name ∷ policy_words p)) (lone_form word (name ∷ policy_words p)))) (no_within word (name ∷ policy_words p) none)
    ∙ ap (λ o. option_or o (lone_form word (name ∷ policy_words p))) (leading_read word k name p e h)

shape_lone : (word : List ℕ) (k : RawKind) (p : Policy) → ((w : Option (List ℕ)) → within_kind w word ≡ None) → ((n : List ℕ) → leading_kind n word ≡ None) → lone_kind word ≡ Some k
    → shape_form word (policy_words p) ≡ Some (form_of k p)
shape_lone word k p none nowhere e =
    ap (λ o. option_or o (option_or (leading_form word (policy_words p)) (lone_form word (policy_words p)))) (no_within word (policy_words p) none)
    ∙ ap (λ o. option_or o (lone_form word (policy_words p))) (no_leading word (policy_words p) nowhere)
    ∙ lone_read word k p e

-- an input or an output, whose policy is none
unwritten : (k : RawKind) (p : Policy) → p ≡ policy.None → Some (form_of k policy.None) ≡ Some (form_of k p)
unwritten k p e = ap (λ q. Some (form_of k q)) (sym e)

-- a node that can be written is read of its words
pub form_read : (k : RawKind) (p : Policy) → IsWritableNode k p → form_in (node_words k p) ≡ Some (form_of k p)
unfolding node_form input_form output_form output_kind within_kind leading_kind lone_kind
form_read Input p w = unwritten Input p w.written
form_read OutputEpoch p w = unwritten OutputEpoch p w.written
form_read OutputNumber p w = unwritten OutputNumber p w.written
form_read (Select s within) p w = select_read s within p w.numbers w.loop_name
form_read (Concat within) p w = shape_within (codes "concat") (λ l. Concat l) within p (λ l. refl) w.loop_name
form_read (Distinct within) p w = shape_within (codes "distinct") (λ l. Distinct l) within p (λ l. refl) w.loop_name
form_read (Join within) p w = shape_within (codes "join") (λ l. Join l) within p (λ l. refl) w.loop_name
form_read (Sum within) p w = shape_within (codes "sum") (λ l. Sum l) within p (λ l. refl) w.loop_name
form_read (Enter l) p w = shape_leading (codes "enter") (λ n. Enter n) l p (λ o. refl) (λ n. refl) w.loop_name
form_read (Feedback l) p w = shape_leading (codes "feedback") (λ n. Feedback n) l p (λ o. refl) (λ n. refl) w.loop_name
form_read (Leave l) p w = shape_leading (codes "leave") (λ n. Leave n) l p (λ o. refl) (λ n. refl) w.loop_name
form_read Total p w = shape_lone (codes "total") Total p (λ o. refl) (λ n. refl) refl
form_read Sequence p w = shape_lone (codes "sequence") Sequence p (λ o. refl) (λ n. refl) refl
form_read Ledger p w = shape_lone (codes "ledger") Ledger p (λ o. refl) (λ n. refl) refl
form_read (Regroup n) p w = regroup_read n p w.numbers

-- ---- nodes that are split

-- where no word is `split`, a node is read that is not split
pub any-whole : (word : List ℕ) (rest : List (List ℕ)) (form : NodeForm) → has_split rest ≡ false → node_form word rest ≡ Some form → any_form word rest ≡ Some (form, None)
unfolding any_form
any-whole word rest form e h =
    let whole : NodeForm → Option (NodeForm × Option ℕ) = λ f. Some (f, None) in
    ap (λ b. cond b (split_form word rest) (plain_form word rest)) e ∙ ap (option_and_then whole) h

-- else one that is split by the number behind it
pub any-split : (word : List ℕ) (xs ys : List (List ℕ)) (n : ℕ) (form : NodeForm) → length ys ≡ 2 → n < 2 ^ 64 → node_form word (xs ++ ys) ≡ Some form → may_split form.kind ≡ true
    → any_form word (xs ++ codes "split" ∷ decimal n ∷ ys) ≡ Some (form, Some n)
unfolding any_form
any-split word xs ys n form two small h may =
    let rest = xs ++ codes "split" ∷ decimal n ∷ ys in
    let pick : ℕ → NodeForm → Option (NodeForm × Option ℕ) = λ m f. cond (may_split f.kind) (Some (f, Some m)) None in
    ap (λ b. cond b (split_form word rest) (plain_form word rest)) (has_split-there xs (decimal n) ys two)
    ∙ ap (λ w. option_and_then (λ m. option_and_then (pick m) (node_form word (without_split rest))) (numeral_of w)) (number-there xs (decimal n) ys two)
    ∙ ap (option_and_then (λ m. option_and_then (pick m) (node_form word (without_split rest)))) (numeral_read n small)
    ∙ ap (λ ws. option_and_then (pick n) (node_form word ws)) (without-there xs (decimal n) ys two)
    ∙ ap (option_and_then (pick n)) h
    ∙ ap (λ b. cond b (Some (form, Some n)) None) may

-- a node that can be written, split or not, is read of its words
pub any_read : (k : RawKind) (p : Policy) (split : Option ℕ) → IsWritableNode k p → IsSplitWritten k split → any_in (split_words split (node_words k p)) ≡ Some (form_of k p, split)
any_read k p None w s =
    let head = node_head k p in
    ap any_in head.1 ∙ any-whole head.0 (behind (node_words k p)) (form_of k p) (no_split-node k p) (ap form_in (sym head.1) ∙ form_read k p w)
any_read k p (Some n) w s =
    let last = policy_last k p s.0 in
    let words = last.between ++ policy_words p in
    ap (λ ws. any_in (split_words (Some n) ws)) last.same
    ∙ ap any_in (split_words-there n (last.word ∷ last.between) (policy_words p) refl)
    ∙ any-split last.word last.between (policy_words p) n (form_of k p) refl s.1 (ap form_in (sym last.same) ∙ form_read k p w) s.0

node_read : (name : List ℕ) (k : RawKind) (p : Policy) (split : Option ℕ) (part : Option KeyPart) → IsName name → IsWritableNode k p → IsSplitWritten k split → part ≡ None
    → node_declaration (name ∷ split_words split (node_words k p)) ≡ Some (Node name k p split part)
unfolding node_declaration
node_read name k p split part e w s none =
    let whole : List ℕ → NodeForm × Option ℕ → Option Declaration = λ n f. Some (Node n f.0.kind f.0.policy f.1 None) in
    ap (option_and_then (λ n. option_and_then (whole n) (any_in (split_words split (node_words k p))))) (named name e)
    ∙ ap (option_and_then (whole name)) (any_read k p split w s)
    ∙ ap (λ q. Some (Node name k p split q)) (sym none)

-- ---- declarations

edge_read : (name sender receiver : List ℕ) → IsName name → IsName sender → IsName receiver → edge_declaration (name ∷ sender ∷ receiver ∷ []) ≡ Some (Edge name sender receiver)
unfolding edge_declaration
edge_read name sender receiver e f g =
    ap (λ n. option_and_then (λ x. option_and_then (λ y. option_and_then (λ z. Some (Edge x y z)) (name_of receiver)) (name_of sender)) n) (named name e)
    ∙ ap (λ n. option_and_then (λ y. option_and_then (λ z. Some (Edge name y z)) (name_of receiver)) n) (named sender f)
    ∙ ap (λ n. option_and_then (λ z. Some (Edge name sender z)) n) (named receiver g)

loop_read : (name : List ℕ) (max : ℕ) (parent : Option (List ℕ)) → IsName name → max < 2 ^ 64 → IfSome parent IsName
    → loop_declaration (name ∷ codes "max" ∷ decimal max ∷ parent_words parent) ≡ Some (Loop name max parent)
unfolding loop_declaration loop_of
loop_read name max parent e small h =
    let whole : List ℕ → ℕ → Option (List ℕ) → Option Declaration = λ n m l. Some (Loop n m l) in
    ap (option_and_then (λ n. option_and_then (λ m. option_and_then (whole n m) (parent_at_end (parent_words parent))) (numeral_of (decimal max)))) (named name e)
    ∙ ap (option_and_then (λ m. option_and_then (whole name m) (parent_at_end (parent_words parent)))) (numeral_read max small)
    ∙ ap (option_and_then (whole name max)) (parent_read parent h)

-- a declaration that can be written is read of its words
pub declaration_read : (declaration : Declaration) → IsWritable declaration → declaration_of (declaration_words declaration) ≡ Some declaration
unfolding declaration_of
declaration_read (Loop name max parent) w = loop_read name max parent w.0 w.1 w.2
declaration_read (Node name k p split part) w = node_read name k p split part w.0 w.1 w.2 w.3
declaration_read (Edge name sender receiver) w = edge_read name sender receiver w.0 w.1 w.2
