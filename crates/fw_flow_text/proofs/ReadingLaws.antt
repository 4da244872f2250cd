-- What is read is written so: the words are those of what was read in them.
use Rattle.std.proofs.Common.{◌≡◌, ℕ, ◌-◌, ◌^◌, ◌<◌, ◌==◌, nat_lt, Bool, true, false, not, cond, List, [], ◌∷◌, ◌++◌, length, take, drop, get_or, Option, Some, None, IfSome, refl, sym, ◌∙◌, ap, subst, arith, codes}
use Rattle.std.proofs.lemmas.Bool.{ltb-true}
use Rattle.std.proofs.lemmas.Bool.Decides.{nat_tests}
use Rattle.std.proofs.lemmas.Fmt.{decimal-digits_value}
use Rattle.std.proofs.lemmas.Option.{option_and_then_some, same_Some}
use Rattle.std.proofs.lemmas.Slice.Eq.{bytes_eq-Decides}
use Rattle.std.proofs.lemmas.Str.Parse.{numerals_by_value, tells_digits}
use Rattle.std.specs.Char.{is_ascii_digit}
use Rattle.std.specs.Fmt.{decimal}
use Rattle.std.specs.List.{AllByRecursion, list_all}
use Rattle.std.specs.Option.{option_or}
use Rattle.std.specs.Str.{bytes_eq}
use Rattle.std.specs.Str.Parse.{digits_value}
use Rattle.fw_lemmas.proofs.Bools.{first_holds}
use Rattle.fw_bag.specs.declared.select.Assignment.{Assignment}
use Rattle.fw_bag.specs.declared.select.Comparison.{Comparison}
use Rattle.fw_bag.specs.declared.select.Condition.{Condition}
use Rattle.fw_bag.specs.declared.select.Field.{Field}
use Rattle.fw_bag.specs.declared.select.NewValue.{NewValue}
use Rattle.fw_bag.specs.declared.select.NewValue.TheVariants as new
use Rattle.fw_bag.specs.declared.select.Selection.{Selection}
use Rattle.fw_bag.specs.declared.select.Term.{Term}
use Rattle.fw_bag.specs.declared.select.Term.TheVariants as term
use Rattle.fw_lines.specs.declared.numeral.Number.TheVariants as number
use Rattle.fw_lines.specs.Spelling.{is_name, is_numeral, number_of}
use Rattle.fw_lines.proofs.NumberLaws.{digits_from_numeral}
use Rattle.fw_flow.specs.declared.kind.Policy.{Policy}
use Rattle.fw_flow.specs.declared.kind.Policy.TheVariants.{None as NoPolicy}
use Rattle.fw_flow.specs.Declaring.{Declaration}
use Rattle.fw_flow.specs.declared.raw.Declaration.TheVariants.{Loop, Node, Edge}
use Rattle.fw_flow.specs.KeyParts.{may_split}
use Rattle.fw_flow.specs.Kind.{RawKind}
use Rattle.fw_flow.specs.declared.kind.Kind.TheVariants.{Select, Regroup}
use Rattle.fw_flow.specs.KindText.{policy_text}
use Rattle.fw_flow_text.specs.declared.node.NodeForm.{NodeForm}
use Rattle.fw_flow_text.specs.Grammar.{AreWordsOf}
use Rattle.fw_flow_text.specs.Spelled.{field_word, comparison_word, term_word, value_words, assignment_words, condition_words, selection_words, policy_words, ending_words, node_words, split_words, parent_words, IsSmallTerm, IsSmallValue, IsSmallAssignment, IsSmall, IsName, IsSplitWritten, IsWritableNode}
use Rattle.fw_flow_text.proofs.Reading.{value_in, numeral_of, named_by, fields, field_of, comparisons, comparison_of, term_from, term_of, value_from, name_of, policies, policy_named, policy_at_end, ending_within, ending_outside, ending_of, parent_named, parent_at_end, condition_of, sum_value, plain_value, with_rest, value_part, set_part, assignment_part, selection_part, outputs, kinds_within, kinds_leading, lone_kinds, output_kind, within_kind, leading_kind, lone_kind, input_form, output_form, select_form, regroup_form, within_form, leading_form, lone_form, shape_form, node_form, node_declaration, edge_declaration, loop_of, loop_declaration, declaration_of, any_form, any_in, has_split, plain_form, split_form, without_split}
use Rattle.fw_flow_text.proofs.SplitLaws.{cut-split, split_words-there}
use Rattle.fw_flow_text.proofs.SpelledLaws.{declaration_read, numeral_read}

-- words that are the same, and others behind them
both : (w v : List ℕ) (ws vs : List (List ℕ)) → w ≡ v → ws ≡ vs → w ∷ ws ≡ v ∷ vs
both w v ws vs e f = ap (λ x. x ∷ ws) e ∙ ap (λ xs. v ∷ xs) f

-- what a test of a word chose
chosen : {A : Type 0} (P : Type 0) (word text : List ℕ) (found other : Option A) (y : A) → cond (bytes_eq word text) found other ≡ Some y
    → (word ≡ text → found ≡ Some y → P) → (other ≡ Some y → P) → P
chosen P word text found other y e here there = by_test (bytes_eq word text) refl e
  where
    by_test : (b : Bool) → bytes_eq word text ≡ b → cond b found other ≡ Some y → P
    by_test true t r = here ((bytes_eq-Decides word text).0 t) r
    by_test false t r = there r

-- what is true of each word of a list, with what it names, is true of a word and what it names there
named_is : {A : Type 0} (P : List ℕ → A → Type 0) (names : List (List ℕ × A)) (word : List ℕ) (found : A) → named_by names word ≡ Some found → AllByRecursion (λ n. P n.0 n.1) names → P word found
named_is P [] word found e all = absurd (cc)
named_is P (name ∷ names) word found e all =
    chosen (P word found) word name.0 (Some name.1) (named_by names word) found e
    (λ w r. subst (λ v. P v found) (sym w) (subst (P name.0) (same_Some name.1 found r) all.0))
    (λ r. named_is P names word found r all.1)

-- ---- single words

some_byte : (word : List ℕ) → is_numeral word ≡ true → 0 < length word
some_byte [] e = absurd (cc)
some_byte (b ∷ bs) e = omega arith

lone_zero : (word : List ℕ) → is_numeral word ≡ true → get_or word 0 0 ≡ 48 → length word ≡ 1
lone_zero [] e z = absurd (cc)
lone_zero (b ∷ []) e z = refl
lone_zero (b ∷ c ∷ bs) e z =
    let other : not (b == 48) ≡ true = first_holds (not (b == 48)) (list_all is_ascii_digit (b ∷ c ∷ bs)) e in
    absurd (grind (arith, nat_tests, other, z))

numeral_is : (word : List ℕ) (n : ℕ) → numeral_of word ≡ Some n → (word ≡ decimal n) × (n < 2 ^ 64)
unfolding numeral_of number_of
numeral_is word n e = by (is_numeral word) refl (nat_lt (digits_value 10 word) (2 ^ 64)) refl e
  where
    by : (b : Bool) → is_numeral word ≡ b → (c : Bool) → nat_lt (digits_value 10 word) (2 ^ 64) ≡ c
        → value_in (cond b (cond c (number.Value (digits_value 10 word)) number.TooLarge) number.NotANumber) ≡ Some n → (word ≡ decimal n) × (n < 2 ^ 64)
    by true t true u r =
        let small : digits_value 10 word < 2 ^ 64 = ltb-true (digits_value 10 word) (2 ^ 64) u in
        let same : digits_value 10 word ≡ n = same_Some (digits_value 10 word) n r in
        let spelled : decimal (digits_value 10 word) ≡ word = decimal-digits_value (numerals_by_value _ tells_digits) word (digits_from_numeral word t) (some_byte word t) (lone_zero word t) small in
        (sym spelled ∙ ap decimal same, subst (λ m. m < 2 ^ 64) same small)
    by true t false u r = absurd (cc)
    by false t c u r = absurd (cc)

-- a number that is below 2^64 is spelled by its decimal digits
pub value_is_decimal : (word : List ℕ) (n : ℕ) → number_of word ≡ number.Value n → (word ≡ decimal n) × (n < 2 ^ 64)
unfolding numeral_of
value_is_decimal word n e = numeral_is word n (ap value_in e)

-- and another word is the digits of no such number
pub no_decimal : (word : List ℕ) → value_in (number_of word) ≡ None → (n : ℕ) → (word ≡ decimal n) × (n < 2 ^ 64) → ⊥
unfolding numeral_of
no_decimal word e n h =
    let k : None ≡ Some n = sym e ∙ ap numeral_of h.0 ∙ numeral_read n h.1 in absurd (cc)

name_is : (word name : List ℕ) → name_of word ≡ Some name → (word ≡ name) × IsName name
name_is word name e = by (is_name word) refl e
  where
    by : (b : Bool) → is_name word ≡ b → cond b (Some word) None ≡ Some name → (word ≡ name) × IsName name
    by true t r = let same = same_Some word name r in (same, ap is_name (sym same) ∙ t)
    by false t r = absurd (cc)

field_is : (word : List ℕ) (found : Field) → field_of word ≡ Some found → word ≡ field_word found
unfolding field_of
field_is word found e = named_is (λ w f. w ≡ field_word f) fields word found e (refl, (refl, tt))

comparison_is : (word : List ℕ) (found : Comparison) → comparison_of word ≡ Some found → word ≡ comparison_word found
unfolding comparison_of
comparison_is word found e = named_is (λ w c. w ≡ comparison_word c) comparisons word found e (refl, (refl, (refl, (refl, (refl, (refl, tt))))))

policy_named_is : (word : List ℕ) (found : Policy) → policy_named word ≡ Some found → word ≡ policy_text found
unfolding policy_named
policy_named_is word found e = named_is (λ w p. w ≡ policy_text p) policies word found e (refl, (refl, (refl, (refl, (refl, tt)))))

abbrev IsTermWord : List ℕ → Term → Type 0
IsTermWord word t = (word ≡ term_word t) × IsSmallTerm t

term_is : (word : List ℕ) (found : Term) → term_of word ≡ Some found → IsTermWord word found
unfolding term_of
term_is word found e = by_field (field_of word) refl e
  where
    by_numeral : (n : Option ℕ) → numeral_of word ≡ n → term_from None n ≡ Some found → IsTermWord word found
    by_numeral (Some n) t r = subst (IsTermWord word) (same_Some (term.Number n) found r) (numeral_is word n t)
    by_numeral None t r = absurd (cc)

    by_field : (f : Option Field) → field_of word ≡ f → term_from f (numeral_of word) ≡ Some found → IsTermWord word found
    by_field (Some f) t r = subst (IsTermWord word) (same_Some (term.Field f) found r) (field_is word f t, tt)
    by_field None t r = by_numeral (numeral_of word) refl r

-- ---- how lines end

policy_is : (words : List (List ℕ)) (found : Policy) → policy_at_end words ≡ Some found → words ≡ policy_words found
unfolding policy_at_end
policy_is [] found e = absurd (cc)
policy_is (head ∷ []) found e = absurd (cc)
policy_is (head ∷ word ∷ []) found e =
    chosen (head ∷ word ∷ [] ≡ policy_words found) head (codes "policy") (policy_named word) None found e
    (λ w r. both head (codes "policy") (word ∷ []) (policy_text found ∷ []) w (ap (λ v. v ∷ []) (policy_named_is word found r)))
    (λ r. absurd (cc))
policy_is (head ∷ word ∷ next ∷ rest) found e = absurd (cc)

-- the words are the ending of a node's line
abbrev IsEnding : List (List ℕ) → Option (List ℕ) × Policy → Type 0
IsEnding words found = (words ≡ ending_words found.0 found.1) × IfSome found.0 IsName

within_is : (name : List ℕ) (rest : List (List ℕ)) (found : Option (List ℕ) × Policy) → ending_within name rest ≡ Some found → IsEnding (codes "loop" ∷ name ∷ rest) found
unfolding ending_within
within_is name rest found e =
    option_and_then_some _ (name_of name) found e (λ n is_n e₂.
    option_and_then_some _ (policy_at_end rest) found e₂ (λ p is_p e₃.
    let spelled = name_is name n is_n in
    subst (IsEnding (codes "loop" ∷ name ∷ rest)) (same_Some (Some n, p) found e₃)
    (ap (λ ws. codes "loop" ∷ ws) (both name n rest (policy_words p) spelled.0 (policy_is rest p is_p)), spelled.1)))

outside_is : (words : List (List ℕ)) (found : Option (List ℕ) × Policy) → ending_outside words ≡ Some found → IsEnding words found
unfolding ending_outside
outside_is words found e =
    option_and_then_some _ (policy_at_end words) found e (λ p is_p e₂. subst (IsEnding words) (same_Some (None, p) found e₂) (policy_is words p is_p, tt))

ending_is : (words : List (List ℕ)) (found : Option (List ℕ) × Policy) → ending_of words ≡ Some found → IsEnding words found
unfolding ending_of
ending_is [] found e = absurd (cc)
ending_is (word ∷ []) found e = absurd (cc)
ending_is (word ∷ name ∷ rest) found e =
    chosen (IsEnding (word ∷ name ∷ rest) found) word (codes "loop") (ending_within name rest) (ending_outside (word ∷ name ∷ rest)) found e
    (λ w r. subst (λ v. IsEnding (v ∷ name ∷ rest) found) (sym w) (within_is name rest found r))
    (λ r. outside_is (word ∷ name ∷ rest) found r)

-- the words are those of a loop's parent
abbrev IsParent : List (List ℕ) → Option (List ℕ) → Type 0
IsParent words found = (words ≡ parent_words found) × IfSome found IsName

parent_is : (words : List (List ℕ)) (found : Option (List ℕ)) → parent_at_end words ≡ Some found → IsParent words found
unfolding parent_at_end parent_named
parent_is [] found e = subst (IsParent []) (same_Some None found e) (refl, tt)
parent_is (word ∷ []) found e = absurd (cc)
parent_is (word ∷ name ∷ []) found e =
    chosen (IsParent (word ∷ name ∷ []) found) word (codes "in") (parent_named name) None found e
    (λ w r. option_and_then_some _ (name_of name) found r (λ n is_n e₂.
    let spelled = name_is name n is_n in
    subst (IsParent (word ∷ name ∷ [])) (same_Some (Some n) found e₂) (both word (codes "in") (name ∷ []) (n ∷ []) w (ap (λ v. v ∷ []) spelled.0), spelled.1)))
    (λ r. absurd (cc))
parent_is (word ∷ name ∷ next ∷ rest) found e = absurd (cc)

-- ---- selections

-- the words begin with those of what was found, and the rest is left
abbrev BeginsWithValue : List (List ℕ) → NewValue × List (List ℕ) → Type 0
BeginsWithValue words found = (words ≡ value_words found.0 ++ found.1) × IsSmallValue found.0

of_term : (word : List ℕ) (rest : List (List ℕ)) (t : Term) → IsTermWord word t → BeginsWithValue (word ∷ rest) (value_from t, rest)
of_term word rest (term.Number n) h = (ap (λ w. w ∷ rest) h.0, h.1)
of_term word rest (term.Field field) h = (ap (λ w. w ∷ rest) h.0, tt)

with_rest_is : {A : Type 0} (P : A × List (List ℕ) → Type 0) (rest : List (List ℕ)) (o : Option A) (found : A × List (List ℕ)) → with_rest rest o ≡ Some found → ((a : A) → o ≡ Some a → P (a, rest)) → P found
with_rest_is P rest None found e h = absurd (cc)
with_rest_is P rest (Some a) found e h = subst P (same_Some (a, rest) found e) (h a refl)

plain_is : (word : List ℕ) (rest : List (List ℕ)) (found : NewValue × List (List ℕ)) → with_rest rest (plain_value word) ≡ Some found → BeginsWithValue (word ∷ rest) found
plain_is word rest found e =
    with_rest_is (BeginsWithValue (word ∷ rest)) rest (plain_value word) found e (λ value is_value.
    option_and_then_some _ (term_of word) value is_value (λ t is_t e₂.
    subst (λ v. BeginsWithValue (word ∷ rest) (v, rest)) (same_Some (value_from t) value e₂) (of_term word rest t (term_is word t is_t))))

sum_is : (word number : List ℕ) (rest : List (List ℕ)) (found : NewValue × List (List ℕ)) → with_rest rest (sum_value word number) ≡ Some found → BeginsWithValue (word ∷ codes "plus" ∷ number ∷ rest) found
sum_is word number rest found e =
    let words = word ∷ codes "plus" ∷ number ∷ rest in
    with_rest_is (BeginsWithValue words) rest (sum_value word number) found e (λ value is_value.
    option_and_then_some _ (field_of word) value is_value (λ f is_f e₂.
    option_and_then_some _ (numeral_of number) value e₂ (λ n is_n e₃.
    let spelled = numeral_is number n is_n in
    subst (λ v. BeginsWithValue words (v, rest)) (same_Some (new.FieldPlus f n) value e₃)
    (both word (field_word f) (codes "plus" ∷ number ∷ rest) (codes "plus" ∷ decimal n ∷ rest) (field_is word f is_f) (ap (λ w. codes "plus" ∷ w ∷ rest) spelled.0), spelled.1))))

value_is : (words : List (List ℕ)) (found : NewValue × List (List ℕ)) → value_part words ≡ Some found → BeginsWithValue words found
unfolding value_part
value_is [] found e = absurd (cc)
value_is (word ∷ []) found e = plain_is word [] found e
value_is (word ∷ plus ∷ []) found e = plain_is word (plus ∷ []) found e
value_is (word ∷ plus ∷ number ∷ rest) found e =
    chosen (BeginsWithValue (word ∷ plus ∷ number ∷ rest) found) plus (codes "plus") (with_rest rest (sum_value word number)) (with_rest (plus ∷ number ∷ rest) (plain_value word)) found e
    (λ w r. subst (λ v. BeginsWithValue (word ∷ v ∷ number ∷ rest) found) (sym w) (sum_is word number rest found r))
    (λ r. plain_is word (plus ∷ number ∷ rest) found r)

abbrev BeginsWithAssignment : List (List ℕ) → Option Assignment × List (List ℕ) → Type 0
BeginsWithAssignment words found = (words ≡ assignment_words found.0 ++ found.1) × IsSmallAssignment found.0

set_is : (word : List ℕ) (rest : List (List ℕ)) (found : Option Assignment × List (List ℕ)) → set_part word rest ≡ Some found → BeginsWithAssignment (codes "set" ∷ word ∷ rest) found
set_is word rest found e =
    option_and_then_some _ (field_of word) found e (λ f is_f e₂.
    option_and_then_some _ (value_part rest) found e₂ (λ value is_value e₃.
    let spelled = value_is rest value is_value in
    subst (BeginsWithAssignment (codes "set" ∷ word ∷ rest)) (same_Some _ found e₃)
    (ap (λ ws. codes "set" ∷ ws) (both word (field_word f) rest (value_words value.0 ++ value.1) (field_is word f is_f) spelled.0), spelled.1)))

assignment_is : (words : List (List ℕ)) (found : Option Assignment × List (List ℕ)) → assignment_part words ≡ Some found → BeginsWithAssignment words found
unfolding assignment_part
assignment_is [] found e = subst (BeginsWithAssignment []) (same_Some (None, []) found e) (refl, tt)
assignment_is (word ∷ []) found e = subst (BeginsWithAssignment (word ∷ [])) (same_Some (None, word ∷ []) found e) (refl, tt)
assignment_is (set ∷ word ∷ rest) found e =
    chosen (BeginsWithAssignment (set ∷ word ∷ rest) found) set (codes "set") (set_part word rest) (Some (None, set ∷ word ∷ rest)) found e
    (λ w r. subst (λ v. BeginsWithAssignment (v ∷ word ∷ rest) found) (sym w) (set_is word rest found r))
    (λ r. subst (BeginsWithAssignment (set ∷ word ∷ rest)) (same_Some (None, set ∷ word ∷ rest) found r) (refl, tt))

condition_is : (left between right : List ℕ) (found : Condition) → condition_of left between right ≡ Some found
    → (left ∷ between ∷ right ∷ [] ≡ condition_words found) × IsSmallTerm found.term
unfolding condition_of
condition_is left between right found e =
    option_and_then_some _ (field_of left) found e (λ f is_f e₂.
    option_and_then_some _ (comparison_of between) found e₂ (λ c is_c e₃.
    option_and_then_some _ (term_of right) found e₃ (λ t is_t e₄.
    let spelled = term_is right t is_t in
    subst (λ x. (left ∷ between ∷ right ∷ [] ≡ condition_words x) × IsSmallTerm x.term) (same_Some (record { field = f; comparison = c; term = t }) found e₄) (
      both left (field_word f) (between ∷ right ∷ []) (comparison_word c ∷ term_word t ∷ []) (field_is left f is_f)
          (both between (comparison_word c) (right ∷ []) (term_word t ∷ []) (comparison_is between c is_c) (ap (λ w. w ∷ []) spelled.0)),
      spelled.1,
    ))))

abbrev BeginsWithSelection : List (List ℕ) → Selection × List (List ℕ) → Type 0
BeginsWithSelection words found = (words ≡ selection_words found.0 ++ found.1) × IsSmall found.0

selection_is : (words : List (List ℕ)) (found : Selection × List (List ℕ)) → selection_part words ≡ Some found → BeginsWithSelection words found
unfolding selection_part
selection_is [] found e = absurd (cc)
selection_is (left ∷ []) found e = absurd (cc)
selection_is (left ∷ between ∷ []) found e = absurd (cc)
selection_is (left ∷ between ∷ right ∷ rest) found e =
    option_and_then_some _ (condition_of left between right) found e (λ c is_c e₂.
    option_and_then_some _ (assignment_part rest) found e₂ (λ a is_a e₃.
    let condition = condition_is left between right c is_c in
    let assignment = assignment_is rest a is_a in
    let selection : Selection = record { condition = c; assignment = a.0 } in
    subst (BeginsWithSelection (left ∷ between ∷ right ∷ rest)) (same_Some (selection, a.1) found e₃)
    (ap (λ ws. ws ++ rest) condition.0 ∙ ap (λ ws. condition_words c ++ ws) assignment.0, record { term = condition.1; assignment = assignment.1 })))

-- ---- nodes

-- the word of a kind and the words behind it are those of the node, which can be written
pub record IsNode (word : List ℕ) (rest : List (List ℕ)) (form : NodeForm) : Type 0 where
  pub same : word ∷ rest ≡ node_words form.kind form.policy
  pub writable : IsWritableNode form.kind form.policy

-- the same of a kind and a policy
abbrev IsNodeOf : List ℕ → List (List ℕ) → RawKind → Policy → Type 0
IsNodeOf word rest kind policy = IsNode word rest (record { kind = kind; policy = policy })

input_is : (words : List (List ℕ)) (form : NodeForm) → input_form words ≡ Some form → IsNode (codes "input") words form
unfolding input_form
input_is [] form e = subst (IsNode (codes "input") []) (same_Some _ form e) (record { same = refl; writable = record { loop_name = tt; numbers = tt; written = refl } })
input_is (word ∷ words) form e = absurd (cc)

output_kind_is : (word : List ℕ) (kind : RawKind) → output_kind word ≡ Some kind → IsNodeOf (codes "output") (word ∷ []) kind NoPolicy
unfolding output_kind
output_kind_is word kind e =
    named_is (λ w k. IsNodeOf (codes "output") (w ∷ []) k NoPolicy) outputs word kind e
    (record { same = refl; writable = record { loop_name = tt; numbers = tt; written = refl } }, (record { same = refl; writable = record { loop_name = tt; numbers = tt; written = refl } }, tt))

output_is : (words : List (List ℕ)) (form : NodeForm) → output_form words ≡ Some form → IsNode (codes "output") words form
unfolding output_form
output_is [] form e = absurd (cc)
output_is (domain ∷ []) form e =
    option_and_then_some _ (output_kind domain) form e (λ k is_k e₂. subst (IsNode (codes "output") (domain ∷ [])) (same_Some _ form e₂) (output_kind_is domain k is_k))
output_is (domain ∷ word ∷ words) form e = absurd (cc)

select_is : (words : List (List ℕ)) (form : NodeForm) → select_form words ≡ Some form → IsNode (codes "select") words form
unfolding select_form
select_is words form e =
    option_and_then_some _ (selection_part words) form e (λ s is_s e₂.
    option_and_then_some _ (ending_of s.1) form e₂ (λ ending is_ending e₃.
    let selection = selection_is words s is_s in
    let end = ending_is s.1 ending is_ending in
    subst (IsNode (codes "select") words) (same_Some (record { kind = Select s.0 ending.0; policy = ending.1 }) form e₃)
    (record {
      same = ap (λ ws. codes "select" ∷ ws) (selection.0 ∙ ap (λ ws. selection_words s.0 ++ ws) end.0);
      writable = record { loop_name = end.1; numbers = selection.1; written = tt };
    })))

regroup_is : (words : List (List ℕ)) (form : NodeForm) → regroup_form words ≡ Some form → IsNode (codes "regroup") words form
unfolding regroup_form
regroup_is [] form e = absurd (cc)
regroup_is (number ∷ rest) form e =
    option_and_then_some _ (numeral_of number) form e (λ n is_n e₂.
    option_and_then_some _ (policy_at_end rest) form e₂ (λ p is_p e₃.
    let size = numeral_is number n is_n in
    subst (IsNode (codes "regroup") (number ∷ rest)) (same_Some (record { kind = Regroup n; policy = p }) form e₃)
    (record {
      same = ap (λ ws. codes "regroup" ∷ ws) (both number (decimal n) rest (policy_words p) size.0 (policy_is rest p is_p));
      writable = record { loop_name = tt; numbers = size.1; written = tt };
    })))

-- the word of a kind that may stand in a loop
abbrev IsWithinWord : Option (List ℕ) → List ℕ → RawKind → Type 0
IsWithinWord within word kind = (policy : Policy) → IfSome within IsName → IsNodeOf word (ending_words within policy) kind policy

within_kind_is : (within : Option (List ℕ)) (word : List ℕ) (kind : RawKind) → within_kind within word ≡ Some kind → IsWithinWord within word kind
unfolding within_kind
within_kind_is within word kind e =
    named_is (IsWithinWord within) (kinds_within within) word kind e (
      λ p h. record { same = refl; writable = record { loop_name = h; numbers = tt; written = tt } },
      (
        λ p h. record { same = refl; writable = record { loop_name = h; numbers = tt; written = tt } },
        (
          λ p h. record { same = refl; writable = record { loop_name = h; numbers = tt; written = tt } },
          (λ p h. record { same = refl; writable = record { loop_name = h; numbers = tt; written = tt } }, tt),
        ),
      ),
    )

-- the same words, of a node whose other words are the same too
node_again : (word : List ℕ) (rest words : List (List ℕ)) (kind : RawKind) (policy : Policy) → rest ≡ words → IsNodeOf word words kind policy → IsNodeOf word rest kind policy
node_again word rest words kind policy e h = record { same = ap (λ ws. word ∷ ws) e ∙ h.same; writable = h.writable }

within_form_is : (word : List ℕ) (rest : List (List ℕ)) (form : NodeForm) → within_form word rest ≡ Some form → IsNode word rest form
unfolding within_form
within_form_is word rest form e =
    option_and_then_some _ (ending_of rest) form e (λ ending is_ending e₂.
    option_and_then_some _ (within_kind ending.0 word) form e₂ (λ k is_k e₃.
    let end = ending_is rest ending is_ending in
    subst (IsNode word rest) (same_Some (record { kind = k; policy = ending.1 }) form e₃)
    (node_again word rest (ending_words ending.0 ending.1) k ending.1 end.0 (within_kind_is ending.0 word k is_k ending.1 end.1))))

-- the word of a kind that leads into a loop, to its next counter, or out of it
abbrev IsLeadingWord : List ℕ → List ℕ → RawKind → Type 0
IsLeadingWord name word kind = (policy : Policy) → IsName name → IsNodeOf word (name ∷ policy_words policy) kind policy

leading_kind_is : (name word : List ℕ) (kind : RawKind) → leading_kind name word ≡ Some kind → IsLeadingWord name word kind
unfolding leading_kind
leading_kind_is name word kind e =
    named_is (IsLeadingWord name) (kinds_leading name) word kind e (
      λ p h. record { same = refl; writable = record { loop_name = h; numbers = tt; written = tt } },
      (
        λ p h. record { same = refl; writable = record { loop_name = h; numbers = tt; written = tt } },
        (λ p h. record { same = refl; writable = record { loop_name = h; numbers = tt; written = tt } }, tt),
      ),
    )

leading_is : (word : List ℕ) (rest : List (List ℕ)) (form : NodeForm) → leading_form word rest ≡ Some form → IsNode word rest form
unfolding leading_form
leading_is word [] form e = absurd (cc)
leading_is word (next ∷ rest) form e =
    option_and_then_some _ (name_of next) form e (λ name is_n e₂.
    option_and_then_some _ (leading_kind name word) form e₂ (λ k is_k e₃.
    option_and_then_some _ (policy_at_end rest) form e₃ (λ p is_p e₄.
    let spelled = name_is next name is_n in
    subst (IsNode word (next ∷ rest)) (same_Some (record { kind = k; policy = p }) form e₄)
    (node_again word (next ∷ rest) (name ∷ policy_words p) k p (both next name rest (policy_words p) spelled.0 (policy_is rest p is_p)) (leading_kind_is name word k is_k p spelled.1)))))

-- the word of a kind that it tells alone
abbrev IsLoneWord : List ℕ → RawKind → Type 0
IsLoneWord word kind = (policy : Policy) → IsNodeOf word (policy_words policy) kind policy

lone_kind_is : (word : List ℕ) (kind : RawKind) → lone_kind word ≡ Some kind → IsLoneWord word kind
unfolding lone_kind
lone_kind_is word kind e =
    named_is IsLoneWord lone_kinds word kind e (
      λ p. record { same = refl; writable = record { loop_name = tt; numbers = tt; written = tt } },
      (
        λ p. record { same = refl; writable = record { loop_name = tt; numbers = tt; written = tt } },
        (λ p. record { same = refl; writable = record { loop_name = tt; numbers = tt; written = tt } }, tt),
      ),
    )

lone_is : (word : List ℕ) (rest : List (List ℕ)) (form : NodeForm) → lone_form word rest ≡ Some form → IsNode word rest form
unfolding lone_form
lone_is word rest form e =
    option_and_then_some _ (lone_kind word) form e (λ k is_k e₂.
    option_and_then_some _ (policy_at_end rest) form e₂ (λ p is_p e₃.
    subst (IsNode word rest) (same_Some (record { kind = k; policy = p }) form e₃)
    (node_again word rest (policy_words p) k p (policy_is rest p is_p) (lone_kind_is word k is_k p))))

-- what the first of two readings gave, or the second
either : {A : Type 0} (P : Type 0) (o p : Option A) (y : A) → option_or o p ≡ Some y → (o ≡ Some y → P) → (p ≡ Some y → P) → P
either P None p y e here there = there e
either P (Some x) p y e here there = here e

shape_is : (word : List ℕ) (rest : List (List ℕ)) (form : NodeForm) → shape_form word rest ≡ Some form → IsNode word rest form
shape_is word rest form e =
    either (IsNode word rest form) (within_form word rest) (option_or (leading_form word rest) (lone_form word rest)) form e (within_form_is word rest form)
    (λ e₂. either (IsNode word rest form) (leading_form word rest) (lone_form word rest) form e₂ (leading_is word rest form) (lone_is word rest form))

node_is : (word : List ℕ) (rest : List (List ℕ)) (form : NodeForm) → node_form word rest ≡ Some form → IsNode word rest form
unfolding node_form
node_is word rest form e =
    let P = IsNode word rest form in
    let again : (text : List ℕ) → word ≡ text → IsNode text rest form → P = λ text w h. subst (λ v. IsNode v rest form) (sym w) h in
    chosen P word (codes "input") (input_form rest) _ form e (λ w r. again (codes "input") w (input_is rest form r))
    (λ e₂. chosen P word (codes "output") (output_form rest) _ form e₂ (λ w r. again (codes "output") w (output_is rest form r))
    (λ e₃. chosen P word (codes "select") (select_form rest) _ form e₃ (λ w r. again (codes "select") w (select_is rest form r))
    (λ e₄. chosen P word (codes "regroup") (regroup_form rest) _ form e₄ (λ w r. again (codes "regroup") w (regroup_is rest form r))
    (shape_is word rest form))))

-- ---- declarations

-- the words are those of the node, split or not, which can be written
record IsAny (words : List (List ℕ)) (found : NodeForm × Option ℕ) : Type 0 where
  same : words ≡ split_words found.1 (node_words found.0.kind found.0.policy)
  writable : IsWritableNode found.0.kind found.0.policy
  splits : IsSplitWritten found.0.kind found.1

-- words with `split` and a number are those of a node, without both, that is split by it
split_again : (word : List ℕ) (rest : List (List ℕ)) (form : NodeForm) (n : ℕ) → has_split rest ≡ true → get_or rest (length rest - 3) [] ≡ decimal n
    → IsNode word (without_split rest) form → word ∷ rest ≡ split_words (Some n) (node_words form.kind form.policy)
split_again word rest form n there number node =
    let front = take (length rest - 4) rest in
    let last = drop (length rest - 2) rest in
    let cut = cut-split rest there in
    ap (λ ws. word ∷ ws) (cut.0 ∙ ap (λ w. front ++ codes "split" ∷ w ∷ last) number) ∙ sym (split_words-there n (word ∷ front) last cut.1) ∙ ap (split_words (Some n)) node.same

picked_is : (word : List ℕ) (rest : List (List ℕ)) (form : NodeForm) (n : ℕ) (found : NodeForm × Option ℕ) → has_split rest ≡ true → get_or rest (length rest - 3) [] ≡ decimal n → n < 2 ^ 64
    → IsNode word (without_split rest) form → (b : Bool) → may_split form.kind ≡ b → cond b (Some (form, Some n)) None ≡ Some found → IsAny (word ∷ rest) found
picked_is word rest form n found there number small node true may e =
    subst (IsAny (word ∷ rest)) (same_Some (form, Some n) found e)
    (record { same = split_again word rest form n there number node; writable = node.writable; splits = (may, small) })
picked_is word rest form n found there number small node false may e = absurd (cc)

any_is : (words : List (List ℕ)) (found : NodeForm × Option ℕ) → any_in words ≡ Some found → IsAny words found
unfolding any_form
any_is [] found e = absurd (cc)
any_is (word ∷ rest) found e = by (has_split rest) refl e
  where
    by : (b : Bool) → has_split rest ≡ b → cond b (split_form word rest) (plain_form word rest) ≡ Some found → IsAny (word ∷ rest) found
    by false h r =
        option_and_then_some _ (node_form word rest) found r (λ form is_form e₂.
        let node = node_is word rest form is_form in
        subst (IsAny (word ∷ rest)) (same_Some (form, None) found e₂) (record { same = node.same; writable = node.writable; splits = tt }))
    by true h r =
        option_and_then_some _ (numeral_of (get_or rest (length rest - 3) [])) found r (λ n is_n e₂.
        option_and_then_some _ (node_form word (without_split rest)) found e₂ (λ form is_form e₃.
        let number = numeral_is (get_or rest (length rest - 3) []) n is_n in
        picked_is word rest form n found h number.0 number.1 (node_is word (without_split rest) form is_form) (may_split form.kind) refl e₃))

node_declared : (words : List (List ℕ)) (found : Declaration) → node_declaration words ≡ Some found → AreWordsOf (codes "node" ∷ words) found
unfolding node_declaration
node_declared [] found e = absurd (cc)
node_declared (word ∷ words) found e =
    option_and_then_some _ (name_of word) found e (λ name is_n e₂.
    option_and_then_some _ (any_in words) found e₂ (λ form is_form e₃.
    let spelled = name_is word name is_n in
    let node = any_is words form is_form in
    subst (AreWordsOf (codes "node" ∷ word ∷ words)) (same_Some (Node name form.0.kind form.0.policy form.1 None) found e₃)
    (record {
      same = ap (λ ws. codes "node" ∷ ws) (both word name words (split_words form.1 (node_words form.0.kind form.0.policy)) spelled.0 node.same);
      writable = (spelled.1, node.writable, node.splits, refl);
    })))

edge_declared : (words : List (List ℕ)) (found : Declaration) → edge_declaration words ≡ Some found → AreWordsOf (codes "edge" ∷ words) found
unfolding edge_declaration
edge_declared [] found e = absurd (cc)
edge_declared (a ∷ []) found e = absurd (cc)
edge_declared (a ∷ b ∷ []) found e = absurd (cc)
edge_declared (a ∷ b ∷ c ∷ []) found e =
    option_and_then_some _ (name_of a) found e (λ name is_a e₂.
    option_and_then_some _ (name_of b) found e₂ (λ sender is_b e₃.
    option_and_then_some _ (name_of c) found e₃ (λ receiver is_c e₄.
    let x = name_is a name is_a in
    let y = name_is b sender is_b in
    let z = name_is c receiver is_c in
    subst (AreWordsOf (codes "edge" ∷ a ∷ b ∷ c ∷ [])) (same_Some (Edge name sender receiver) found e₄)
    (record {
      same = ap (λ ws. codes "edge" ∷ ws) (both a name (b ∷ c ∷ []) (sender ∷ receiver ∷ []) x.0 (both b sender (c ∷ []) (receiver ∷ []) y.0 (ap (λ w. w ∷ []) z.0)));
      writable = (x.1, y.1, z.1);
    }))))
edge_declared (a ∷ b ∷ c ∷ d ∷ words) found e = absurd (cc)

loop_declared : (words : List (List ℕ)) (found : Declaration) → loop_declaration words ≡ Some found → AreWordsOf (codes "loop" ∷ words) found
unfolding loop_declaration loop_of
loop_declared [] found e = absurd (cc)
loop_declared (a ∷ []) found e = absurd (cc)
loop_declared (a ∷ b ∷ []) found e = absurd (cc)
loop_declared (word ∷ max ∷ number ∷ rest) found e =
    chosen (AreWordsOf (codes "loop" ∷ word ∷ max ∷ number ∷ rest) found) max (codes "max") (loop_of word number rest) None found e
    (λ w r.
    option_and_then_some _ (name_of word) found r (λ name is_n e₂.
    option_and_then_some _ (numeral_of number) found e₂ (λ n is_number e₃.
    option_and_then_some _ (parent_at_end rest) found e₃ (λ parent is_p e₄.
    let x = name_is word name is_n in
    let y = numeral_is number n is_number in
    let z = parent_is rest parent is_p in
    subst (AreWordsOf (codes "loop" ∷ word ∷ max ∷ number ∷ rest)) (same_Some (Loop name n parent) found e₄)
    (record {
      same = ap (λ ws. codes "loop" ∷ ws) (both word name (max ∷ number ∷ rest) (codes "max" ∷ decimal n ∷ parent_words parent) x.0 (both max (codes "max") (number ∷ rest) (decimal n ∷ parent_words parent) w (both number (decimal n) rest (parent_words parent) y.0 z.0)));
      writable = (x.1, y.1, z.1);
    })))))
    (λ r. absurd (cc))

-- what is read in words is a declaration whose words they are
pub read_declared : (words : List (List ℕ)) (found : Declaration) → declaration_of words ≡ Some found → AreWordsOf words found
unfolding declaration_of
read_declared [] found e = absurd (cc)
read_declared (word ∷ rest) found e =
    let P = AreWordsOf (word ∷ rest) found in
    let again : (text : List ℕ) → word ≡ text → AreWordsOf (text ∷ rest) found → P = λ text w h. subst (λ v. AreWordsOf (v ∷ rest) found) (sym w) h in
    chosen P word (codes "node") (node_declaration rest) _ found e (λ w r. again (codes "node") w (node_declared rest found r))
    (λ e₂. chosen P word (codes "edge") (edge_declaration rest) _ found e₂ (λ w r. again (codes "edge") w (edge_declared rest found r))
    (λ e₃. chosen P word (codes "loop") (loop_declaration rest) None found e₃ (λ w r. again (codes "loop") w (loop_declared rest found r))
    (λ r. absurd (cc))))

-- and a declaration whose words they are is read in them
pub declared_read : (words : List (List ℕ)) (declaration : Declaration) → AreWordsOf words declaration → declaration_of words ≡ Some declaration
declared_read words declaration h = ap declaration_of h.same ∙ declaration_read declaration h.writable

-- so words are those of one declaration
pub one_declaration : (words : List (List ℕ)) (first second : Declaration) → AreWordsOf words first → AreWordsOf words second → first ≡ second
one_declaration words first second a b = same_Some first second (sym (declared_read words first a) ∙ declared_read words second b)
