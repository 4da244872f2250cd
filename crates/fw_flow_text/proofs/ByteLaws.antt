-- The bytes of an accepted text. Words are clean where each of their bytes is allowed.
use Rattle.std.proofs.Common.{◌≡◌, ℕ, ◌+◌, ◌-◌, ◌<◌, Bool, true, false, ◌&&◌, cond, List, [], ◌∷◌, ◌++◌, length, take, drop, Option, Some, None, refl, ◌∙◌, ap, arith, codes, nat_lt, ◌^◌, IfSome, ◌⊎◌, inl, inr}
use Rattle.std.proofs.lemmas.Bool.Decides.{nat_tests}
use Rattle.std.proofs.lemmas.List.{take-append-drop}
use Rattle.std.specs.Char.{is_ascii_digit}
use Rattle.std.specs.Fmt.{decimal}
use Rattle.std.specs.List.{list_all, filter, slice_split, onto_first}
use Rattle.std.proofs.lemmas.Bool.{and_from}
use Rattle.fw_lemmas.proofs.Bools.{first_holds, second_holds}
use Rattle.fw_bag.specs.declared.select.Assignment.{Assignment}
use Rattle.fw_bag.specs.declared.select.Comparison.{Comparison}
use Rattle.fw_bag.specs.declared.select.Comparison.TheVariants.{Equal, NotEqual, Less, LessOrEqual, Greater, GreaterOrEqual}
use Rattle.fw_bag.specs.declared.select.Field.{Field}
use Rattle.fw_bag.specs.declared.select.Field.TheVariants.{Key, Value}
use Rattle.fw_bag.specs.declared.select.NewValue.{NewValue}
use Rattle.fw_bag.specs.declared.select.NewValue.TheVariants as new
use Rattle.fw_bag.specs.declared.select.Selection.{Selection}
use Rattle.fw_bag.specs.declared.select.Term.{Term}
use Rattle.fw_bag.specs.declared.select.Term.TheVariants as term
use Rattle.fw_lines.specs.Lines.{is_allowed, is_space, is_line_feed, is_word, words_of, lines_of, is_comment, said_by, said_from, said_lines, Said}
use Rattle.fw_lines.specs.Spelling.{is_letter, is_in_names, is_name, is_numeral}
use Rattle.fw_flow.specs.declared.kind.Policy.{Policy}
use Rattle.fw_flow.specs.declared.kind.Policy.TheVariants as policy
use Rattle.fw_flow.specs.Declaring.{Declaration}
use Rattle.fw_flow.specs.declared.raw.Declaration.TheVariants.{Loop, Node, Edge}
use Rattle.fw_flow.specs.Declaring.{Declared}
use Rattle.fw_flow.specs.Kind.{RawKind}
use Rattle.fw_flow.specs.declared.kind.Kind.TheVariants.{Input, OutputEpoch, OutputNumber, Select, Concat, Distinct, Join, Sum, Enter, Feedback, Leave, Total, Sequence, Ledger, Regroup}
use Rattle.fw_flow.specs.Dataflow.{Dataflow}
use Rattle.fw_flow_text.specs.Grammar.{AreWordsOf, Declare, IsAcceptedFlow}
use Rattle.fw_flow_text.specs.Laws.{is_in_texts}
use Rattle.fw_flow_text.specs.Spelled.{field_word, comparison_word, term_word, value_words, assignment_words, selection_words, policy_words, ending_words, node_words, split_words, parent_words, declaration_words, IsSmallTerm, IsSmallValue, IsSmallAssignment, IsSmall, IsName, IsSplitWritten, IsWritableNode, IsWritable}
use Rattle.fw_flow_text.proofs.DeclaredLaws.{DeclaresFirst, front}
use Rattle.fw_lines.proofs.DecimalLaws.{decimal_numeral}

abbrev pub is_clean : List ℕ → Bool
is_clean word = list_all is_allowed word

abbrev pub are_clean : List (List ℕ) → Bool
are_clean words = list_all (λ word. is_clean word) words

all_weaker : (p q : ℕ → Bool) → ((b : ℕ) → p b ≡ true → q b ≡ true) → (xs : List ℕ) → list_all p xs ≡ true → list_all q xs ≡ true
all_weaker p q h [] e = refl
all_weaker p q h (x ∷ xs) e = and_from (q x) (list_all q xs) (h x (first_holds (p x) (list_all p xs) e)) (all_weaker p q h xs (second_holds (p x) (list_all p xs) e))

digit_allowed : (b : ℕ) → is_ascii_digit b ≡ true → is_allowed b ≡ true
digit_allowed b e = grind (arith, nat_tests, e)

letter_allowed : (b : ℕ) → is_letter b ≡ true → is_allowed b ≡ true
letter_allowed b e = grind (arith, nat_tests, e)

in_names_allowed : (b : ℕ) → is_in_names b ≡ true → is_allowed b ≡ true
in_names_allowed b e = grind (arith, nat_tests, e)

name_clean : (word : List ℕ) → is_name word ≡ true → is_clean word ≡ true
name_clean [] e = absurd (cc)
name_clean (b ∷ bs) e =
    let others = second_holds (is_letter b) (nat_lt (length bs) 32 && list_all is_in_names bs) e in
    and_from (is_allowed b) (list_all is_allowed bs) (letter_allowed b (first_holds (is_letter b) (nat_lt (length bs) 32 && list_all is_in_names bs) e))
    (all_weaker is_in_names is_allowed in_names_allowed bs (second_holds (nat_lt (length bs) 32) (list_all is_in_names bs) others))

digits_clean : (word : List ℕ) → is_numeral word ≡ true → is_clean word ≡ true
digits_clean [] e = absurd (cc)
digits_clean (b ∷ []) e = and_from (is_allowed b) true (digit_allowed b e) refl
digits_clean (b ∷ c ∷ bs) e = all_weaker is_ascii_digit is_allowed digit_allowed (b ∷ c ∷ bs) (second_holds _ (list_all is_ascii_digit (b ∷ c ∷ bs)) e)

decimal_clean : (n : ℕ) → n < 2 ^ 64 → is_clean (decimal n) ≡ true
decimal_clean n h = digits_clean (decimal n) (decimal_numeral n h)

-- ---- the words of a declaration

append_clean : (xs ys : List (List ℕ)) → are_clean xs ≡ true → are_clean ys ≡ true → are_clean (xs ++ ys) ≡ true
append_clean [] ys e f = f
append_clean (x ∷ xs) ys e f = and_from (is_clean x) (are_clean (xs ++ ys)) (first_holds (is_clean x) (are_clean xs) e) (append_clean xs ys (second_holds (is_clean x) (are_clean xs) e) f)

clean_front : (xs ys : List (List ℕ)) → are_clean (xs ++ ys) ≡ true → are_clean xs ≡ true
clean_front [] ys e = refl
clean_front (x ∷ xs) ys e = and_from (is_clean x) (are_clean xs) (first_holds (is_clean x) (are_clean (xs ++ ys)) e) (clean_front xs ys (second_holds (is_clean x) (are_clean (xs ++ ys)) e))

clean_behind : (xs ys : List (List ℕ)) → are_clean (xs ++ ys) ≡ true → are_clean ys ≡ true
clean_behind [] ys e = e
clean_behind (x ∷ xs) ys e = clean_behind xs ys (second_holds (is_clean x) (are_clean (xs ++ ys)) e)

field_clean : (field : Field) → is_clean (field_word field) ≡ true
field_clean Key = refl
field_clean Value = refl

comparison_clean : (comparison : Comparison) → is_clean (comparison_word comparison) ≡ true
comparison_clean Equal = refl
comparison_clean NotEqual = refl
comparison_clean Less = refl
comparison_clean LessOrEqual = refl
comparison_clean Greater = refl
comparison_clean GreaterOrEqual = refl

policy_clean : (p : Policy) → are_clean (policy_words p) ≡ true
policy_clean policy.None = refl
policy_clean policy.Lazy = refl
policy_clean policy.Logged = refl
policy_clean policy.Eager = refl
policy_clean policy.Full = refl

term_clean : (t : Term) → IsSmallTerm t → is_clean (term_word t) ≡ true
term_clean (term.Number n) h = decimal_clean n h
term_clean (term.Field field) h = field_clean field

value_clean : (v : NewValue) → IsSmallValue v → are_clean (value_words v) ≡ true
value_clean (new.Number n) h = and_from (is_clean (decimal n)) true (decimal_clean n h) refl
value_clean (new.Field field) h = and_from (is_clean (field_word field)) true (field_clean field) refl
value_clean (new.FieldPlus field n) h = and_from (is_clean (field_word field)) (is_clean (decimal n) && true) (field_clean field) (and_from (is_clean (decimal n)) true (decimal_clean n h) refl)

assignment_clean : (a : Option Assignment) → IsSmallAssignment a → are_clean (assignment_words a) ≡ true
assignment_clean None h = refl
assignment_clean (Some a) h = and_from (is_clean (field_word a.field)) (are_clean (value_words a.value)) (field_clean a.field) (value_clean a.value h)

selection_clean : (s : Selection) → IsSmall s → are_clean (selection_words s) ≡ true
selection_clean s h =
    and_from (is_clean (field_word s.condition.field)) (is_clean (comparison_word s.condition.comparison) && (is_clean (term_word s.condition.term) && are_clean (assignment_words s.assignment))) (field_clean s.condition.field)
    (and_from (is_clean (comparison_word s.condition.comparison)) (is_clean (term_word s.condition.term) && are_clean (assignment_words s.assignment)) (comparison_clean s.condition.comparison)
    (and_from (is_clean (term_word s.condition.term)) (are_clean (assignment_words s.assignment)) (term_clean s.condition.term h.term) (assignment_clean s.assignment h.assignment)))

named_clean : (name : List ℕ) (words : List (List ℕ)) → IsName name → are_clean words ≡ true → are_clean (name ∷ words) ≡ true
named_clean name words h e = and_from (is_clean name) (are_clean words) (name_clean name h) e

ending_clean : (within : Option (List ℕ)) (p : Policy) → IfSome within IsName → are_clean (ending_words within p) ≡ true
ending_clean None p h = policy_clean p
ending_clean (Some name) p h = named_clean name (policy_words p) h (policy_clean p)

node_clean : (kind : RawKind) (p : Policy) → IsWritableNode kind p → are_clean (node_words kind p) ≡ true
node_clean Input p w = refl
node_clean OutputEpoch p w = refl
node_clean OutputNumber p w = refl
node_clean (Select s within) p w = append_clean (selection_words s) (ending_words within p) (selection_clean s w.numbers) (ending_clean within p w.loop_name)
node_clean (Concat within) p w = ending_clean within p w.loop_name
node_clean (Distinct within) p w = ending_clean within p w.loop_name
node_clean (Join within) p w = ending_clean within p w.loop_name
node_clean (Sum within) p w = ending_clean within p w.loop_name
node_clean (Enter name) p w = named_clean name (policy_words p) w.loop_name (policy_clean p)
node_clean (Feedback name) p w = named_clean name (policy_words p) w.loop_name (policy_clean p)
node_clean (Leave name) p w = named_clean name (policy_words p) w.loop_name (policy_clean p)
node_clean Total p w = policy_clean p
node_clean Sequence p w = policy_clean p
node_clean Ledger p w = policy_clean p
node_clean (Regroup size) p w = and_from (is_clean (decimal size)) (are_clean (policy_words p)) (decimal_clean size w.numbers) (policy_clean p)

split_clean : (kind : RawKind) (p : Policy) (split : Option ℕ) → IsWritableNode kind p → IsSplitWritten kind split → are_clean (split_words split (node_words kind p)) ≡ true
split_clean kind p None w s = node_clean kind p w
split_clean kind p (Some n) w s =
    let ws = node_words kind p in
    let m = length ws - 2 in
    let whole : are_clean (take m ws ++ drop m ws) ≡ true = ap are_clean (take-append-drop m ws) ∙ node_clean kind p w in
    append_clean (take m ws) (codes "split" ∷ decimal n ∷ drop m ws) (clean_front (take m ws) (drop m ws) whole)
    (and_from (is_clean (decimal n)) (are_clean (drop m ws)) (decimal_clean n s.1) (clean_behind (take m ws) (drop m ws) whole))

parent_clean : (parent : Option (List ℕ)) → IfSome parent IsName → are_clean (parent_words parent) ≡ true
parent_clean None h = refl
parent_clean (Some name) h = named_clean name [] h refl

declaration_clean : (declaration : Declaration) → IsWritable declaration → are_clean (declaration_words declaration) ≡ true
declaration_clean (Loop name max parent) w =
    named_clean name (codes "max" ∷ decimal max ∷ parent_words parent) w.0 (and_from (is_clean (decimal max)) (are_clean (parent_words parent)) (decimal_clean max w.1) (parent_clean parent w.2))
declaration_clean (Node name kind p split part) w = named_clean name (split_words split (node_words kind p)) w.0 (split_clean kind p split w.1 w.2)
declaration_clean (Edge name sender receiver) w = named_clean name (sender ∷ receiver ∷ []) w.0 (named_clean sender (receiver ∷ []) w.1 (named_clean receiver [] w.2 refl))

-- ---- lines

words_clean : (words : List (List ℕ)) (declaration : Declaration) → AreWordsOf words declaration → are_clean words ≡ true
words_clean words declaration h = ap are_clean h.same ∙ declaration_clean declaration h.writable

-- lines that declare something are clean
said_clean : (lines : List Said) (declared : List Declared) → Declare lines declared → list_all (λ line. are_clean line.words) lines ≡ true
said_clean [] declared h = refl
said_clean (line ∷ lines) declared h = by (front line lines declared h) (said_clean lines)
  where
    by : ((line.words ≡ []) × Declare lines declared) ⊎ DeclaresFirst line lines declared → ((ds : List Declared) → Declare lines ds → list_all (λ l. are_clean l.words) lines ≡ true)
        → (are_clean line.words && list_all (λ l. are_clean l.words) lines) ≡ true
    by (inl x) rest = and_from (are_clean line.words) (list_all (λ l. are_clean l.words) lines) (ap are_clean x.0) (rest declared x.1)
    by (inr x) rest = and_from (are_clean line.words) (list_all (λ l. are_clean l.words) lines) (words_clean line.words x.declaration x.words) (rest x.others x.rest)

onto_all : (q : ℕ → Bool) (x : ℕ) (parts : List (List ℕ)) → list_all (λ part. list_all q part) (onto_first x parts) ≡ true → (q x ≡ true) × (list_all (λ part. list_all q part) parts ≡ true)
onto_all q x [] e = (first_holds (q x) true (first_holds (q x && true) true e), refl)
onto_all q x (part ∷ parts) e =
    let whole = first_holds (q x && list_all q part) (list_all (λ part. list_all q part) parts) e in
    (first_holds (q x) (list_all q part) whole, and_from (list_all q part) (list_all (λ part. list_all q part) parts) (second_holds (q x) (list_all q part) whole) (second_holds (q x && list_all q part) (list_all (λ part. list_all q part) parts) e))

-- where the bytes of the parts pass, and the separators do, all do
split_all : (s q : ℕ → Bool) → ((b : ℕ) → s b ≡ true → q b ≡ true) → (xs : List ℕ) → list_all (λ part. list_all q part) (slice_split s xs) ≡ true → list_all q xs ≡ true
split_all s q h [] e = refl
split_all s q h (x ∷ xs) e = by_test (split_all s q h xs) (s x) refl e
  where
    by_test : (list_all (λ part. list_all q part) (slice_split s xs) ≡ true → list_all q xs ≡ true) → (b : Bool) → s x ≡ b → list_all (λ part. list_all q part) (cond b ([] ∷ slice_split s xs) (onto_first x (slice_split s xs))) ≡ true → (q x && list_all q xs) ≡ true
    by_test rec true t r = and_from (q x) (list_all q xs) (h x t) (rec r)
    by_test rec false t r = and_from (q x) (list_all q xs) (onto_all q x (slice_split s xs) r).0 (rec (onto_all q x (slice_split s xs) r).1)

parts_clean : (parts : List (List ℕ)) → are_clean (filter is_word parts) ≡ true → are_clean parts ≡ true
parts_clean [] e = refl
parts_clean ([] ∷ parts) e = parts_clean parts e
parts_clean ((b ∷ bs) ∷ parts) e =
    and_from (is_clean (b ∷ bs)) (are_clean parts) (first_holds (is_clean (b ∷ bs)) (are_clean (filter is_word parts)) e) (parts_clean parts (second_holds (is_clean (b ∷ bs)) (are_clean (filter is_word parts)) e))

space_allowed : (b : ℕ) → is_space b ≡ true → is_allowed b ≡ true
space_allowed b e = grind (arith, nat_tests, e)

-- where what a line says is clean, the line is
line_clean : (line : List ℕ) → are_clean (said_by line) ≡ true → is_clean line ≡ true
unfolding said_by
line_clean line e = by_test (is_comment (words_of line) && is_clean line) refl e
  where
    by_test : (b : Bool) → (is_comment (words_of line) && is_clean line) ≡ b → are_clean (cond b [] (words_of line)) ≡ true → is_clean line ≡ true
    by_test true t r = second_holds (is_comment (words_of line)) (is_clean line) t
    by_test false t r = split_all is_space is_allowed space_allowed line (parts_clean (slice_split is_space line) r)

lines_clean : (number : ℕ) (lines : List (List ℕ)) → list_all (λ (line : Said). are_clean line.words) (said_from number lines) ≡ true → are_clean lines ≡ true
lines_clean number [] e = refl
lines_clean number (line ∷ lines) e =
    and_from (is_clean line) (are_clean lines) (line_clean line (first_holds (are_clean (said_by line)) (list_all (λ (l : Said). are_clean l.words) (said_from (number + 1) lines)) e))
    (lines_clean (number + 1) lines (second_holds (are_clean (said_by line)) (list_all (λ (l : Said). are_clean l.words) (said_from (number + 1) lines)) e))

allowed_in_texts : (b : ℕ) → is_allowed b ≡ true → is_in_texts b ≡ true
allowed_in_texts b e = grind (arith, nat_tests, e)

lf_in_texts : (b : ℕ) → is_line_feed b ≡ true → is_in_texts b ≡ true
lf_in_texts b e = grind (arith, nat_tests, e)

lines_in_texts : (lines : List (List ℕ)) → are_clean lines ≡ true → list_all (λ part. list_all is_in_texts part) lines ≡ true
lines_in_texts [] e = refl
lines_in_texts (line ∷ lines) e =
    and_from (list_all is_in_texts line) (list_all (λ part. list_all is_in_texts part) lines) (all_weaker is_allowed is_in_texts allowed_in_texts line (first_holds (is_clean line) (are_clean lines) e)) (lines_in_texts lines (second_holds (is_clean line) (are_clean lines) e))

-- the bytes of an accepted text are LF and the allowed ones
pub accepted_text_allowed : (text : List ℕ) (flow : Dataflow) → IsAcceptedFlow text flow → list_all is_in_texts text ≡ true
accepted_text_allowed text flow accepted =
    split_all is_line_feed is_in_texts lf_in_texts text (lines_in_texts (lines_of text) (lines_clean 1 (lines_of text) (said_clean (said_lines text) accepted.declared accepted.written)))
