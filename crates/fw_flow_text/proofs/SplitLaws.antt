-- Where `split` stands among the words of a node.
use Rattle.std.proofs.Common.{◌≡◌, ℕ, ◌+◌, ◌-◌, ◌≤◌, nat_le, true, false, List, [], ◌∷◌, ◌++◌, length, take, drop, get_or, Option, Some, None, refl, sym, ◌∙◌, ap, arith, codes}
use Rattle.std.proofs.Math.Seq.{take-append_seam, drop-append-add, get_or-append_seam}
use Rattle.std.proofs.lemmas.Bool.{and_from}
use Rattle.std.proofs.lemmas.Bool.Decides.{nat_tests}
use Rattle.std.proofs.lemmas.List.{append_assoc, length-append, length-drop, drop_more, take-append-drop}
use Rattle.std.proofs.lemmas.Slice.Eq.{bytes_eq-Decides}
use Rattle.std.specs.Fmt.{decimal}
use Rattle.std.specs.Str.{bytes_eq}
use Rattle.fw_lemmas.proofs.Bools.{first_holds, second_holds}
use Rattle.fw_bag.specs.declared.select.Assignment.{Assignment}
use Rattle.fw_bag.specs.declared.select.Comparison.{Comparison}
use Rattle.fw_bag.specs.declared.select.Comparison.TheVariants.{Equal, NotEqual, Less, LessOrEqual, Greater, GreaterOrEqual}
use Rattle.fw_bag.specs.declared.select.Field.{Field}
use Rattle.fw_bag.specs.declared.select.Field.TheVariants.{Key, Value}
use Rattle.fw_bag.specs.declared.select.NewValue.{NewValue}
use Rattle.fw_bag.specs.declared.select.NewValue.TheVariants as new
use Rattle.fw_flow.specs.declared.kind.Policy.{Policy}
use Rattle.fw_flow.specs.declared.kind.Kind.TheVariants.{Input, OutputEpoch, OutputNumber, Select, Concat, Distinct, Join, Sum, Enter, Feedback, Leave, Total, Sequence, Ledger, Regroup}
use Rattle.fw_flow.specs.KeyParts.{may_split}
use Rattle.fw_flow.specs.Kind.{RawKind}
use Rattle.fw_flow_text.specs.Spelled.{field_word, comparison_word, term_word, value_words, assignment_words, policy_words, ending_words, node_words, split_words}
use Rattle.fw_flow_text.proofs.Reading.{has_split, without_split}

-- ---- the fourth word from the end

long-split : (xs : List (List ℕ)) (w : List ℕ) (ys : List (List ℕ)) → length ys ≡ 2 → length (xs ++ codes "split" ∷ w ∷ ys) ≡ length xs + 4
long-split xs w ys two =
    let behind : length (codes "split" ∷ w ∷ ys) ≡ 4 = omega (arith, two) in
    omega (arith, length-append xs (codes "split" ∷ w ∷ ys), behind)

pub has_split-there : (xs : List (List ℕ)) (w : List ℕ) (ys : List (List ℕ)) → length ys ≡ 2 → has_split (xs ++ codes "split" ∷ w ∷ ys) ≡ true
unfolding has_split
has_split-there xs w ys two =
    let ws = xs ++ codes "split" ∷ w ∷ ys in
    let long = long-split xs w ys two in
    let place : length ws - 4 ≡ length xs = omega (arith, long) in
    let enough : nat_le 4 (length ws) ≡ true = grind (arith, nat_tests, long) in
    and_from (nat_le 4 (length ws)) (bytes_eq (get_or ws (length ws - 4) []) (codes "split")) enough
    (ap (λ n. bytes_eq (get_or ws n []) (codes "split")) place ∙ ap (λ x. bytes_eq x (codes "split")) (get_or-append_seam xs (codes "split") (w ∷ ys) []))

pub number-there : (xs : List (List ℕ)) (w : List ℕ) (ys : List (List ℕ)) → length ys ≡ 2
    → get_or (xs ++ codes "split" ∷ w ∷ ys) (length (xs ++ codes "split" ∷ w ∷ ys) - 3) [] ≡ w
number-there xs w ys two =
    let ws = xs ++ codes "split" ∷ w ∷ ys in
    let front = xs ++ codes "split" ∷ [] in
    let place : length ws - 3 ≡ length front = omega (arith, long-split xs w ys two, length-append xs (codes "split" ∷ [])) in
    ap (λ n. get_or ws n []) place ∙ ap (λ v. get_or v (length front) []) (sym (append_assoc xs (codes "split" ∷ []) (w ∷ ys))) ∙ get_or-append_seam front w ys []

pub without-there : (xs : List (List ℕ)) (w : List ℕ) (ys : List (List ℕ)) → length ys ≡ 2 → without_split (xs ++ codes "split" ∷ w ∷ ys) ≡ xs ++ ys
without-there xs w ys two =
    let ws = xs ++ codes "split" ∷ w ∷ ys in
    let long = long-split xs w ys two in
    let first : length ws - 4 ≡ length xs = omega (arith, long) in
    let last : length ws - 2 ≡ length xs + 2 = omega (arith, long) in
    ap (λ n. take n ws ++ drop (length ws - 2) ws) first
    ∙ ap (λ v. v ++ drop (length ws - 2) ws) (take-append_seam xs (codes "split" ∷ w ∷ ys))
    ∙ ap (λ n. xs ++ drop n ws) last
    ∙ ap (λ v. xs ++ v) (drop-append-add xs (codes "split" ∷ w ∷ ys) 2)

pub split_words-there : (n : ℕ) (xs ys : List (List ℕ)) → length ys ≡ 2 → split_words (Some n) (xs ++ ys) ≡ xs ++ codes "split" ∷ decimal n ∷ ys
split_words-there n xs ys two =
    let ws = xs ++ ys in
    let place : length ws - 2 ≡ length xs = omega (arith, length-append xs ys, two) in
    let same : length xs ≡ length xs + 0 = omega arith in
    ap (λ m. take m ws ++ codes "split" ∷ decimal n ∷ drop m ws) place
    ∙ ap (λ v. v ++ codes "split" ∷ decimal n ∷ drop (length xs) ws) (take-append_seam xs ys)
    ∙ ap (λ m. xs ++ codes "split" ∷ decimal n ∷ drop m ws) same
    ∙ ap (λ v. xs ++ codes "split" ∷ decimal n ∷ v) (drop-append-add xs ys 0)

-- words with `split` there are the words before it, it, the number and the words behind
pub cut-split : (ws : List (List ℕ)) → has_split ws ≡ true
    → (ws ≡ take (length ws - 4) ws ++ codes "split" ∷ get_or ws (length ws - 3) [] ∷ drop (length ws - 2) ws) × (length (drop (length ws - 2) ws) ≡ 2)
unfolding has_split
cut-split ws h =
    let n = length ws in
    let enough : nat_le 4 n ≡ true = first_holds (nat_le 4 n) (bytes_eq (get_or ws (n - 4) []) (codes "split")) h in
    let long : 4 ≤ n = grind (arith, nat_tests, enough) in
    let word : get_or ws (n - 4) [] ≡ codes "split" =
    (bytes_eq-Decides (get_or ws (n - 4) []) (codes "split")).0 (second_holds (nat_le 4 n) (bytes_eq (get_or ws (n - 4) []) (codes "split")) h) in
    let next : n - 4 + 1 ≡ n - 3 = omega (arith, long) in
    let last : n - 3 + 1 ≡ n - 2 = omega (arith, long) in
    let first = drop_more ws (n - 4) [] (omega (arith, long)) in
    let second = drop_more ws (n - 3) [] (omega (arith, long)) in (
      sym (take-append-drop (n - 4) ws)
          ∙ ap (λ t. take (n - 4) ws ++ t) (first ∙ ap (λ m. get_or ws (n - 4) [] ∷ drop m ws) next ∙ ap (λ t. get_or ws (n - 4) [] ∷ t) (second ∙ ap (λ m. get_or ws (n - 3) [] ∷ drop m ws) last)
          ∙ ap (λ w. w ∷ get_or ws (n - 3) [] ∷ drop (n - 2) ws) word),
      omega (arith, long, length-drop (n - 2) ws),
    )

-- ---- the words of a node that is not split

-- the words behind the word of the kind
abbrev pub behind : List (List ℕ) → List (List ℕ)
behind [] = []
behind (word ∷ words) = words

no_split-compared : (f : List ℕ) (c : Comparison) (t : List ℕ) (p : Policy) → has_split (f ∷ comparison_word c ∷ t ∷ policy_words p) ≡ false
unfolding has_split
no_split-compared f Equal t p = refl
no_split-compared f NotEqual t p = refl
no_split-compared f Less t p = refl
no_split-compared f LessOrEqual t p = refl
no_split-compared f Greater t p = refl
no_split-compared f GreaterOrEqual t p = refl

no_split-field : (f c t : List ℕ) (field : Field) (v : List ℕ) (p : Policy) → has_split (f ∷ c ∷ t ∷ codes "set" ∷ field_word field ∷ v ∷ policy_words p) ≡ false
unfolding has_split
no_split-field f c t Key v p = refl
no_split-field f c t Value v p = refl

no_split-value : (f c t : List ℕ) (field : Field) (v : NewValue) (within : Option (List ℕ)) (p : Policy)
    → has_split ((f ∷ c ∷ t ∷ codes "set" ∷ field_word field ∷ value_words v) ++ ending_words within p) ≡ false
unfolding has_split
no_split-value f c t field (new.Number n) None p = no_split-field f c t field (decimal n) p
no_split-value f c t field (new.Number n) (Some l) p = refl
no_split-value f c t field (new.Field g) None p = no_split-field f c t field (field_word g) p
no_split-value f c t field (new.Field g) (Some l) p = refl
no_split-value f c t field (new.FieldPlus g n) None p = refl
no_split-value f c t field (new.FieldPlus g n) (Some l) p = refl

no_split-selection : (f : List ℕ) (c : Comparison) (t : List ℕ) (a : Option Assignment) (within : Option (List ℕ)) (p : Policy)
    → has_split ((f ∷ comparison_word c ∷ t ∷ assignment_words a) ++ ending_words within p) ≡ false
unfolding has_split
no_split-selection f c t None None p = no_split-compared f c t p
no_split-selection f c t None (Some l) p = refl
no_split-selection f c t (Some a) within p = no_split-value f (comparison_word c) t a.field a.value within p

no_split-ending : (within : Option (List ℕ)) (p : Policy) → has_split (ending_words within p) ≡ false
unfolding has_split
no_split-ending None p = refl
no_split-ending (Some l) p = refl

-- a node that is not split has no `split` there
pub no_split-node : (k : RawKind) (p : Policy) → has_split (behind (node_words k p)) ≡ false
unfolding has_split
no_split-node Input p = refl
no_split-node OutputEpoch p = refl
no_split-node OutputNumber p = refl
no_split-node (Select s within) p = no_split-selection (field_word s.condition.field) s.condition.comparison (term_word s.condition.term) s.assignment within p
no_split-node (Concat within) p = no_split-ending within p
no_split-node (Distinct within) p = no_split-ending within p
no_split-node (Join within) p = no_split-ending within p
no_split-node (Sum within) p = no_split-ending within p
no_split-node (Enter l) p = refl
no_split-node (Feedback l) p = refl
no_split-node (Leave l) p = refl
no_split-node Total p = refl
no_split-node Sequence p = refl
no_split-node Ledger p = refl
no_split-node (Regroup n) p = refl

-- the first word of a node, and those behind it
pub node_head : (k : RawKind) (p : Policy) → (word : List ℕ) × (node_words k p ≡ word ∷ behind (node_words k p))
node_head Input p = (codes "input", refl)
node_head OutputEpoch p = (codes "output", refl)
node_head OutputNumber p = (codes "output", refl)
node_head (Select s within) p = (codes "select", refl)
node_head (Concat within) p = (codes "concat", refl)
node_head (Distinct within) p = (codes "distinct", refl)
node_head (Join within) p = (codes "join", refl)
node_head (Sum within) p = (codes "sum", refl)
node_head (Enter l) p = (codes "enter", refl)
node_head (Feedback l) p = (codes "feedback", refl)
node_head (Leave l) p = (codes "leave", refl)
node_head Total p = (codes "total", refl)
node_head Sequence p = (codes "sequence", refl)
node_head Ledger p = (codes "ledger", refl)
node_head (Regroup n) p = (codes "regroup", refl)

-- the words of a node that may be split: the word of its kind, perhaps a loop, and the policy
pub record HasPolicyLast (k : RawKind) (p : Policy) : Type 0 where
  pub word : List ℕ
  pub between : List (List ℕ)
  pub same : node_words k p ≡ word ∷ between ++ policy_words p

pub policy_last : (k : RawKind) (p : Policy) → may_split k ≡ true → HasPolicyLast k p
policy_last (Distinct None) p h = record { word = codes "distinct"; between = []; same = refl }
policy_last (Distinct (Some l)) p h = record { word = codes "distinct"; between = codes "loop" ∷ l ∷ []; same = refl }
policy_last (Join None) p h = record { word = codes "join"; between = []; same = refl }
policy_last (Join (Some l)) p h = record { word = codes "join"; between = codes "loop" ∷ l ∷ []; same = refl }
policy_last (Sum None) p h = record { word = codes "sum"; between = []; same = refl }
policy_last (Sum (Some l)) p h = record { word = codes "sum"; between = codes "loop" ∷ l ∷ []; same = refl }
policy_last Total p h = record { word = codes "total"; between = []; same = refl }
policy_last k p h = absurd (cc)
