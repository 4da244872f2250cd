-- The words of what a flow declares can stand in a line, and none is a number of 2^64 or more.
use Rattle.std.proofs.Common.{◌≡◌, ℕ, ◌-◌, ◌<◌, ◌^◌, ◌==◌, nat_lt, Bool, true, false, ◌&&◌, ◌||◌, cond, not, List, [], ◌∷◌, ◌++◌, length, take, drop, refl, sym, ◌∙◌, ap, subst, arith, Option, Some, None, IfSome, codes}
use Rattle.std.proofs.lemmas.Bool.{and_from, and_parts}
use Rattle.std.proofs.lemmas.Bool.Decides.{nat_tests}
use Rattle.std.proofs.lemmas.Fmt.{decimal_is_IsNumeral, decimal_nonempty}
use Rattle.std.proofs.lemmas.List.{take-append-drop}
use Rattle.std.specs.Char.{is_ascii_digit}
use Rattle.std.specs.Fmt.{decimal}
use Rattle.std.specs.List.{AllByRecursion, list_all, list_any}
use Rattle.std.specs.Str.Parse.{digits_value}
use Rattle.fw_lemmas.proofs.Each.{each-append, each-prefix, each-suffix}
use Rattle.fw_bag.specs.declared.select.Assignment.{Assignment}
use Rattle.fw_bag.specs.declared.select.Comparison.{Comparison}
use Rattle.fw_bag.specs.declared.select.Comparison.TheVariants.{Equal, NotEqual, Less, LessOrEqual, Greater, GreaterOrEqual}
use Rattle.fw_bag.specs.declared.select.Field.{Field}
use Rattle.fw_bag.specs.declared.select.Field.TheVariants.{Key, Value}
use Rattle.fw_bag.specs.declared.select.NewValue.{NewValue}
use Rattle.fw_bag.specs.declared.select.NewValue.TheVariants as new
use Rattle.fw_bag.specs.declared.select.Selection.{Selection}
use Rattle.fw_bag.specs.declared.select.Term.{Term}
use Rattle.fw_bag.specs.declared.select.Term.TheVariants as term
use Rattle.fw_lines.specs.declared.numeral.Number.{Number}
use Rattle.fw_lines.specs.declared.numeral.Number.TheVariants as number
use Rattle.fw_lines.specs.Lines.{is_comment, is_word}
use Rattle.fw_lines.specs.Spelling.{is_in_names, is_letter, is_name, is_numeral, number_of}
use Rattle.fw_lines.specs.Written.{is_in_words, is_plain, is_plain_line}
use Rattle.fw_flow.specs.declared.kind.Policy.{Policy}
use Rattle.fw_flow.specs.declared.kind.Policy.TheVariants as policy
use Rattle.fw_flow.specs.Declaring.{Declaration}
use Rattle.fw_flow.specs.declared.raw.Declaration.TheVariants.{Loop, Node, Edge}
use Rattle.fw_flow.specs.Kind.{RawKind}
use Rattle.fw_flow.specs.declared.kind.Kind.TheVariants.{Input, OutputEpoch, OutputNumber, Select, Concat, Distinct, Join, Sum, Enter, Feedback, Leave, Total, Sequence, Ledger, Regroup}
use Rattle.fw_flow_text.specs.Grammar.{is_large_number, is_too_large}
use Rattle.fw_flow_text.specs.Spelled.{field_word, comparison_word, term_word, value_words, assignment_words, condition_words, selection_words, policy_words, ending_words, node_words, split_words, parent_words, declaration_words, IsSmallTerm, IsSmallValue, IsSmallAssignment, IsSmall, IsName, IsSplitWritten, IsWritableNode, IsWritable}
use Rattle.fw_lines.proofs.DecimalLaws.{decimal_digits, decimal_numeral}

-- the word can stand in a line, and is no number of 2^64 or more
pub record IsGoodWord (word : List ℕ) : Type 0 where
  pub plain : is_plain word ≡ true
  pub small : is_large_number word ≡ false

abbrev pub AreGoodWords : List (List ℕ) → Type 0
AreGoodWords words = AllByRecursion IsGoodWord words

-- ---- names and numbers

letter_in_words : (b : ℕ) → is_letter b ≡ true → is_in_words b ≡ true
letter_in_words b h = grind (arith, nat_tests, h)

name_in_words : (b : ℕ) → is_in_names b ≡ true → is_in_words b ≡ true
name_in_words b h = grind (arith, nat_tests, h)

pub digit_in_words : (b : ℕ) → is_ascii_digit b ≡ true → is_in_words b ≡ true
digit_in_words b h = grind (arith, nat_tests, h)

letter_no_digit : (b : ℕ) → is_letter b ≡ true → is_ascii_digit b ≡ false
letter_no_digit b h = grind (arith, nat_tests, h)

-- bytes that pass a test can stand in words, if each does
pub each_in_words : (test : ℕ → Bool) → ((b : ℕ) → test b ≡ true → is_in_words b ≡ true) → (bs : List ℕ) → list_all test bs ≡ true → list_all is_in_words bs ≡ true
each_in_words test f [] h = refl
each_in_words test f (b ∷ bs) h =
    let parts = and_parts (test b) (list_all test bs) h in
    and_from (is_in_words b) (list_all is_in_words bs) (f b parts.0) (each_in_words test f bs parts.1)

no_numeral : (b : ℕ) (bs : List ℕ) → is_ascii_digit b ≡ false → is_numeral (b ∷ bs) ≡ false
no_numeral b [] h = h
no_numeral b (c ∷ bs) h = ap (λ t. not (b == 48) && (t && list_all is_ascii_digit (c ∷ bs))) h ∙ either (not (b == 48))
  where
    either : (t : Bool) → (t && false) ≡ false
    either true = refl
    either false = refl

not_large : (word : List ℕ) → is_numeral word ≡ false → is_large_number word ≡ false
unfolding number_of
not_large word h = ap (λ b. is_too_large (cond b (cond (nat_lt (digits_value 10 word) (2 ^ 64)) (number.Value (digits_value 10 word)) number.TooLarge) number.NotANumber)) h

pub good-name : (name : List ℕ) → is_name name ≡ true → IsGoodWord name
good-name [] h = absurd (cc)
good-name (b ∷ bs) h =
    let parts = and_parts (is_letter b) (nat_lt (length bs) 32 && list_all is_in_names bs) h in
    let rest = and_parts (nat_lt (length bs) 32) (list_all is_in_names bs) parts.1 in
    record {
      plain = and_from (is_in_words b) (list_all is_in_words bs) (letter_in_words b parts.0) (each_in_words is_in_names name_in_words bs rest.1);
      small = not_large (b ∷ bs) (no_numeral b bs (letter_no_digit b parts.0));
    }

some_word : (bs : List ℕ) → 0 < length bs → is_word bs ≡ true
some_word [] h = absurd (omega arith)
some_word (b ∷ bs) h = refl

decimal_in_words : (n : ℕ) → n < 2 ^ 64 → list_all is_in_words (decimal n) ≡ true
decimal_in_words n h = each_in_words is_ascii_digit digit_in_words (decimal n) (decimal_digits n h)

pub good-number : (n : ℕ) → n < 2 ^ 64 → IsGoodWord (decimal n)
unfolding number_of
good-number n h =
    let small : ℕ → Bool = λ v. is_too_large (cond (nat_lt v (2 ^ 64)) (number.Value v) number.TooLarge) in
    let below : nat_lt n (2 ^ 64) ≡ true = grind (arith, nat_tests, h) in
    record {
      plain = and_from (is_word (decimal n)) (list_all is_in_words (decimal n)) (some_word (decimal n) (decimal_nonempty n h)) (decimal_in_words n h);
      small =
          ap (λ b. is_too_large (cond b (cond (nat_lt (digits_value 10 (decimal n)) (2 ^ 64)) (number.Value (digits_value 10 (decimal n))) number.TooLarge) number.NotANumber)) (decimal_numeral n h)
          ∙ ap small (decimal_is_IsNumeral n h).1
          ∙ ap (λ b. is_too_large (cond b (number.Value n) number.TooLarge)) below;
    }

-- ---- selections

good-field : (field : Field) → IsGoodWord (field_word field)
unfolding number_of
good-field Key = record { plain = refl; small = refl }
good-field Value = record { plain = refl; small = refl }

good-comparison : (comparison : Comparison) → IsGoodWord (comparison_word comparison)
unfolding number_of
good-comparison Equal = record { plain = refl; small = refl }
good-comparison NotEqual = record { plain = refl; small = refl }
good-comparison Less = record { plain = refl; small = refl }
good-comparison LessOrEqual = record { plain = refl; small = refl }
good-comparison Greater = record { plain = refl; small = refl }
good-comparison GreaterOrEqual = record { plain = refl; small = refl }

good-term : (t : Term) → IsSmallTerm t → IsGoodWord (term_word t)
good-term (term.Number n) h = good-number n h
good-term (term.Field field) h = good-field field

good-value : (v : NewValue) → IsSmallValue v → AreGoodWords (value_words v)
unfolding number_of
good-value (new.Number n) h = (good-number n h, tt)
good-value (new.Field field) h = (good-field field, tt)
good-value (new.FieldPlus field n) h = (good-field field, (record { plain = refl; small = refl }, (good-number n h, tt)))

good-assignment : (a : Option Assignment) → IsSmallAssignment a → AreGoodWords (assignment_words a)
unfolding number_of
good-assignment None h = tt
good-assignment (Some a) h = (record { plain = refl; small = refl }, (good-field a.field, good-value a.value h))

good-selection : (s : Selection) → IsSmall s → AreGoodWords (selection_words s)
good-selection s h =
    each-append IsGoodWord (condition_words s.condition) (assignment_words s.assignment)
    (good-field s.condition.field, (good-comparison s.condition.comparison, (good-term s.condition.term h.term, tt))) (good-assignment s.assignment h.assignment)

-- ---- how lines end

good-policy : (p : Policy) → AreGoodWords (policy_words p)
unfolding number_of
good-policy policy.None = (record { plain = refl; small = refl }, (record { plain = refl; small = refl }, tt))
good-policy policy.Lazy = (record { plain = refl; small = refl }, (record { plain = refl; small = refl }, tt))
good-policy policy.Logged = (record { plain = refl; small = refl }, (record { plain = refl; small = refl }, tt))
good-policy policy.Eager = (record { plain = refl; small = refl }, (record { plain = refl; small = refl }, tt))
good-policy policy.Full = (record { plain = refl; small = refl }, (record { plain = refl; small = refl }, tt))

good-ending : (within : Option (List ℕ)) (p : Policy) → IfSome within IsName → AreGoodWords (ending_words within p)
unfolding number_of
good-ending None p h = good-policy p
good-ending (Some name) p h = (record { plain = refl; small = refl }, (good-name name h, good-policy p))

good-parent : (parent : Option (List ℕ)) → IfSome parent IsName → AreGoodWords (parent_words parent)
unfolding number_of
good-parent None h = tt
good-parent (Some name) h = (record { plain = refl; small = refl }, (good-name name h, tt))

-- ---- nodes

good-node : (k : RawKind) (p : Policy) → IsWritableNode k p → AreGoodWords (node_words k p)
unfolding number_of
good-node Input p w = (record { plain = refl; small = refl }, tt)
good-node OutputEpoch p w = (record { plain = refl; small = refl }, (record { plain = refl; small = refl }, tt))
good-node OutputNumber p w = (record { plain = refl; small = refl }, (record { plain = refl; small = refl }, tt))
good-node (Select s within) p w =
    (record { plain = refl; small = refl }, each-append IsGoodWord (selection_words s) (ending_words within p) (good-selection s w.numbers) (good-ending within p w.loop_name))
good-node (Concat within) p w = (record { plain = refl; small = refl }, good-ending within p w.loop_name)
good-node (Distinct within) p w = (record { plain = refl; small = refl }, good-ending within p w.loop_name)
good-node (Join within) p w = (record { plain = refl; small = refl }, good-ending within p w.loop_name)
good-node (Sum within) p w = (record { plain = refl; small = refl }, good-ending within p w.loop_name)
good-node (Enter name) p w = (record { plain = refl; small = refl }, (good-name name w.loop_name, good-policy p))
good-node (Feedback name) p w = (record { plain = refl; small = refl }, (good-name name w.loop_name, good-policy p))
good-node (Leave name) p w = (record { plain = refl; small = refl }, (good-name name w.loop_name, good-policy p))
good-node Total p w = (record { plain = refl; small = refl }, good-policy p)
good-node Sequence p w = (record { plain = refl; small = refl }, good-policy p)
good-node Ledger p w = (record { plain = refl; small = refl }, good-policy p)
good-node (Regroup n) p w = (record { plain = refl; small = refl }, (good-number n w.numbers, good-policy p))

good-split : (k : RawKind) (p : Policy) (split : Option ℕ) → IsWritableNode k p → IsSplitWritten k split → AreGoodWords (split_words split (node_words k p))
unfolding number_of
good-split k p None w s = good-node k p w
good-split k p (Some n) w s =
    let ws = node_words k p in
    let m = length ws - 2 in
    let whole : AreGoodWords (take m ws ++ drop m ws) = subst AreGoodWords (sym (take-append-drop m ws)) (good-node k p w) in
    each-append IsGoodWord (take m ws) (codes "split" ∷ decimal n ∷ drop m ws) (each-prefix IsGoodWord (take m ws) (drop m ws) whole)
    (record { plain = refl; small = refl }, (good-number n s.1, each-suffix IsGoodWord (take m ws) (drop m ws) whole))

-- ---- declarations

good-declaration : (d : Declaration) → IsWritable d → AreGoodWords (declaration_words d)
unfolding number_of
good-declaration (Loop name max parent) w =
    (record { plain = refl; small = refl }, (good-name name w.0, (record { plain = refl; small = refl }, (good-number max w.1, good-parent parent w.2))))
good-declaration (Node name kind p split part) w = (record { plain = refl; small = refl }, (good-name name w.0, good-split kind p split w.1 w.2))
good-declaration (Edge name sender receiver) w = (record { plain = refl; small = refl }, (good-name name w.0, (good-name sender w.1, (good-name receiver w.2, tt))))

all_plain : (words : List (List ℕ)) → AreGoodWords words → list_all is_plain words ≡ true
all_plain [] h = refl
all_plain (word ∷ words) h = and_from (is_plain word) (list_all is_plain words) h.0.plain (all_plain words h.1)

none_large : (words : List (List ℕ)) → AreGoodWords words → list_any (λ word. is_large_number word) words ≡ false
none_large [] h = refl
none_large (word ∷ words) h = ap (λ b. b || list_any (λ w. is_large_number w) words) h.0.small ∙ none_large words h.1

no_comment : (d : Declaration) → not (is_comment (declaration_words d)) ≡ true
no_comment (Loop name max parent) = refl
no_comment (Node name kind p split part) = refl
no_comment (Edge name sender receiver) = refl

-- the words of a declaration that can be written are those of a line
pub plain_declaration : (d : Declaration) → IsWritable d → is_plain_line (declaration_words d) ≡ true
plain_declaration d w = and_from (list_all is_plain (declaration_words d)) (not (is_comment (declaration_words d))) (all_plain (declaration_words d) (good-declaration d w)) (no_comment d)

-- and none is too large a number
pub small_declaration : (d : Declaration) → IsWritable d → list_any (λ word. is_large_number word) (declaration_words d) ≡ false
small_declaration d w = none_large (declaration_words d) (good-declaration d w)
