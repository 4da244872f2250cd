-- The batches that inputs give: of sources alone, at most 2^20 each, and bags of recs of 64 bits.
use Rattle.std.proofs.Common.{◌≡◌, ℕ, ◌+◌, ◌^◌, ◌<◌, ◌≤◌, ◌==◌, ◌||◌, nat_lt, nat_le, Bool, true, false, cond, List, [], ◌∷◌, ◌++◌, map, length, filter, Option, Some, None, IfSome, refl, sym, ◌∙◌, ap, subst, arith, append_assoc}
use Rattle.std.proofs.lemmas.Bool.{ltb-true, eqb-true, eq-eqb, false≢true}
use Rattle.std.proofs.lemmas.Bool.Decides.{nat_tests}
use Rattle.std.proofs.lemmas.List.{append-nil, length-append}
use Rattle.std.specs.List.{AllByRecursion, list_any, list_all, before_first, after_first, filter_map, cons_option}
use Rattle.std.specs.Map.{lookup}
use Rattle.std.specs.Option.{option_or, option_map_or}
use Rattle.std.specs.Str.Parse.{digits_value}
use Rattle.fw_bag.proofs.BagLaws.{AllByRecursion-with_rec, IsAscending-bag_sum}
use Rattle.fw_bag.specs.Bag.{bag_sum}
use Rattle.fw_bag.specs.declared.rec.Rec.{Rec}
use Rattle.fw_lines.specs.declared.numeral.Number.{Number}
use Rattle.fw_lines.specs.declared.numeral.Number.TheVariants.{Value, TooLarge, NotANumber}
use Rattle.fw_lines.specs.declared.record.RecordWord.{RecordWord}
use Rattle.fw_lines.specs.declared.record.RecordWord.TheVariants.{Broken}
use Rattle.fw_lines.specs.declared.refusal.Code.{Code}
use Rattle.fw_lines.specs.declared.refusal.Code.TheVariants.{I1, I4, I5}
use Rattle.fw_lines.specs.Batches.{batches_at, IsBatch, AreBatchesOf}
use Rattle.fw_bag.specs.Bag.{IsRec}
use Rattle.fw_lines.specs.Faults.{BreakNoRule}
use Rattle.fw_lines.specs.Inputs.{is_colon, record_said, record_from, spelled_rec, batch_of, batches_said_of, is_batch_of, is_batch_of_words, form_fault, value_fault, number_fault, count_fault, inputs_line_fault, count_of, inputs_fault}
use Rattle.fw_lines.specs.Lines.{Said, is_allowed}
use Rattle.fw_lines.specs.Sources.{node_named, is_source}
use Rattle.fw_lines.specs.Spelling.{number_of, is_numeral}
use Rattle.fw_lines.proofs.FaultLaws.{Told, told_none}
use Rattle.fw_lines.proofs.ReadLaws.{IsRead, read_all, batches_of-push}

-- ---- the recs of a batch

abbrev IsSmall : Number → Type 0
IsSmall (Value n) = n < 2 ^ 64
IsSmall TooLarge = Unit {0}
IsSmall NotANumber = Unit {0}

small_number : (word : List ℕ) → IsSmall (number_of word)
unfolding number_of
small_number word = by (is_numeral word) (nat_lt (digits_value 10 word) (2 ^ 64)) (digits_value 10 word) refl
  where
    by : (numeral small : Bool) (n : ℕ) → nat_lt n (2 ^ 64) ≡ small → IsSmall (cond numeral (cond small (Value n) TooLarge) NotANumber)
    by true true n e = ltb-true n (2 ^ 64) e
    by true false n e = tt
    by false small n e = tt

small_record : (key value : Number) → IsSmall key → IsSmall value → IfSome (spelled_rec (record_from key value)) IsRec
small_record (Value k) (Value v) a b = record { key = a; value = b }
small_record (Value k) TooLarge a b = tt
small_record (Value k) NotANumber a b = tt
small_record TooLarge (Value v) a b = tt
small_record TooLarge TooLarge a b = tt
small_record TooLarge NotANumber a b = tt
small_record NotANumber value a b = tt

spelled_small : (word : List ℕ) → IfSome (spelled_rec (record_said word)) IsRec
unfolding record_said
spelled_small word =
    by (list_any is_colon word) (record_from (number_of (before_first is_colon word)) (number_of (after_first is_colon word))) (cond (list_all is_allowed word) I4 I1)
    (small_record (number_of (before_first is_colon word)) (number_of (after_first is_colon word)) (small_number (before_first is_colon word)) (small_number (after_first is_colon word)))
  where
    by : (b : Bool) (found : RecordWord) (code : Code) → IfSome (spelled_rec found) IsRec → IfSome (spelled_rec (cond b found (Broken code))) IsRec
    by true found code h = h
    by false found code h = tt

recs_more : (rec : Option Rec) (recs : List Rec) → IfSome rec IsRec → AllByRecursion IsRec (bag_sum recs []) → AllByRecursion IsRec (bag_sum (cons_option rec recs) [])
recs_more None recs r a = a
recs_more (Some rec) recs r a = AllByRecursion-with_rec IsRec rec (bag_sum recs []) r a

each_rec : (words : List (List ℕ)) → AllByRecursion IsRec (bag_sum (filter_map (λ word. spelled_rec (record_said word)) words) [])
each_rec [] = tt
each_rec (word ∷ words) = recs_more (spelled_rec (record_said word)) (filter_map (λ word. spelled_rec (record_said word)) words) (spelled_small word) (each_rec words)

-- the recs that words spell are a batch
pub is_batch_of_recs : (records : List (List ℕ)) → IsBatch (bag_sum (filter_map (λ word. spelled_rec (record_said word)) records) [])
is_batch_of_recs records = record {
  recs = each_rec records;
  ascending = IsAscending-bag_sum (filter_map (λ word. spelled_rec (record_said word)) records) [] tt;
}

is_batch : (words : List (List ℕ)) → IsBatch (batch_of words)
is_batch [] = record { recs = tt; ascending = tt }
is_batch (word ∷ []) = record { recs = tt; ascending = tt }
is_batch (first ∷ name ∷ records) = is_batch_of_recs records

each_batch : (sources : List (List ℕ × ℕ)) (lines : List Said) (node : ℕ) → AllByRecursion IsBatch (batches_said_of sources lines node)
each_batch sources lines node = each (filter (is_batch_of sources node) lines)
  where
    each : (ls : List Said) → AllByRecursion IsBatch (map (λ (line : Said). batch_of line.words) ls)
    each [] = tt
    each (line ∷ ls) = (is_batch line.words, each ls)

-- ---- which nodes have batches

abbrev IsSource : List (List ℕ × ℕ) → ℕ → Type 0
IsSource sources node = is_source sources node ≡ true

among_more : (name : List ℕ) (place : ℕ) (rest : List (List ℕ × ℕ)) (found : Option ℕ) → IfSome found (IsSource rest) → IfSome found (IsSource ((name, place) ∷ rest))
among_more name place rest None h = tt
among_more name place rest (Some node) h = by (place == node)
  where
    by : (b : Bool) → (b || is_source rest node) ≡ true
    by true = refl
    by false = h

-- the node of a name is a source
found_source : (test : List ℕ → Bool) (sources : List (List ℕ × ℕ)) → IfSome (lookup test sources) (IsSource sources)
found_source test [] = tt
found_source test ((name, place) ∷ rest) = by (test name) (among_more name place rest (lookup test rest) (found_source test rest))
  where
    by : (b : Bool) → IfSome (lookup test rest) (IsSource ((name, place) ∷ rest)) → IfSome (cond b (Some place) (lookup test rest)) (IsSource ((name, place) ∷ rest))
    by true h = ap (λ b. b || is_source rest place) (eq-eqb place place refl)
    by false h = h

not_of : (sources : List (List ℕ × ℕ)) (node : ℕ) (source : Option ℕ) → IfSome source (IsSource sources) → is_source sources node ≡ false → option_map_or (λ s. s == node) source false ≡ false
not_of sources node None i e = refl
not_of sources node (Some s) i e = by (s == node) refl
  where
    by : (b : Bool) → (s == node) ≡ b → b ≡ false
    by true h = absurd (false≢true (sym e ∙ ap (is_source sources) (sym (eqb-true s node h)) ∙ i))
    by false h = refl

no_line_of : (sources : List (List ℕ × ℕ)) (node : ℕ) (words : List (List ℕ)) → is_source sources node ≡ false → is_batch_of_words sources node words ≡ false
no_line_of sources node [] e = refl
no_line_of sources node (word ∷ []) e = refl
no_line_of sources node (first ∷ name ∷ records) e = not_of sources node (node_named sources name) (found_source _ sources) e

-- a node that is no source has no batches
none_given : (sources : List (List ℕ × ℕ)) (lines : List Said) (node : ℕ) → is_source sources node ≡ false → batches_said_of sources lines node ≡ []
none_given sources [] node e = refl
none_given sources (line ∷ lines) node e =
    let given : List Said → List (List Rec) = λ ls. map (λ (l : Said). batch_of l.words) ls in
    ap (λ b. given (cond b (line ∷ filter (is_batch_of sources node) lines) (filter (is_batch_of sources node) lines))) (no_line_of sources node line.words e)
    ∙ none_given sources lines node e

-- ---- how many batches a node has

none_right : (o p : Option Code) → option_or o p ≡ None → p ≡ None
none_right None p e = e
none_right (Some code) p e = absurd (cc)

few_left : (count : ℕ) → count_fault count ≡ None → count < 2 ^ 20
few_left count e = by (nat_le (2 ^ 20) count) refl e
  where
    by : (b : Bool) → nat_le (2 ^ 20) count ≡ b → cond b (Some I5) None ≡ None → count < 2 ^ 20
    by true h e = absurd (cc)
    by false h e = grind (arith, nat_tests, h)

-- a line that breaks no rule gives a node no batch too many
few_of : (sources : List (List ℕ × ℕ)) (done : List Said) (node : ℕ) (source : Option ℕ) (records : List (List ℕ))
    → value_fault source records (option_map_or (λ n. length (batches_said_of sources done n)) source 0) ≡ None → length (batches_said_of sources done node) ≤ 2 ^ 20
    → length (batches_said_of sources done node) + cond (option_map_or (λ s. s == node) source false) 1 0 ≤ 2 ^ 20
few_of sources done node None records e h = omega (arith, h)
few_of sources done node (Some s) records e h = by (s == node) refl
  where
    fits : count_fault (length (batches_said_of sources done s)) ≡ None
    fits = none_right (number_fault records) (count_fault (length (batches_said_of sources done s))) e

    by : (b : Bool) → (s == node) ≡ b → length (batches_said_of sources done node) + cond b 1 0 ≤ 2 ^ 20
    by false k = omega (arith, h)
    by true k = omega (arith, few_left (length (batches_said_of sources done node)) (subst (λ p. count_fault (length (batches_said_of sources done p)) ≡ None) (eqb-true s node k) fits))

few_line : (sources : List (List ℕ × ℕ)) (done : List Said) (node : ℕ) (words : List (List ℕ)) → inputs_line_fault sources (count_of sources done words) words ≡ None → length (batches_said_of sources done node) ≤ 2 ^ 20
    → length (batches_said_of sources done node) + cond (is_batch_of_words sources node words) 1 0 ≤ 2 ^ 20
few_line sources done node [] e h = omega (arith, h)
few_line sources done node (word ∷ []) e h = omega (arith, h)
few_line sources done node (first ∷ name ∷ records) e h =
    few_of sources done node (node_named sources name) records (none_right (form_fault first name records) _ e) h

given_by : (b : Bool) (line : Said) → length (map (λ (l : Said). batch_of l.words) (cond b (line ∷ []) [])) ≡ cond b 1 0
given_by true line = refl
given_by false line = refl

few_from : (sources : List (List ℕ × ℕ)) (lines done left : List Said) (node : ℕ) → BreakNoRule (Told (inputs_fault sources)) lines → done ++ left ≡ lines → length (batches_said_of sources done node) ≤ 2 ^ 20
    → length (batches_said_of sources (done ++ left) node) ≤ 2 ^ 20
few_from sources lines done [] node sound parts h = subst (λ t. length (batches_said_of sources t node) ≤ 2 ^ 20) (sym (append-nil done)) h
few_from sources lines done (line ∷ left) node sound parts h =
    let none : inputs_fault sources done line ≡ None = told_none (inputs_fault sources done line) (λ code. sound done line left code parts) in
    let one = few_line sources done node line.words none h in
    let count : length (batches_said_of sources (done ++ line ∷ []) node) ≡ length (batches_said_of sources done node) + cond (is_batch_of sources node line) 1 0 =
    ap length (batches_of-push sources done line node)
    ∙ length-append (batches_said_of sources done node) (batches_said_of sources (line ∷ []) node)
    ∙ ap (λ n. length (batches_said_of sources done node) + n) (given_by (is_batch_of sources node line) line) in
    let next = few_from sources lines (done ++ line ∷ []) left node sound (append_assoc done (line ∷ []) left ∙ parts) (subst (λ n. n ≤ 2 ^ 20) (sym count) one) in
    subst (λ t. length (batches_said_of sources t node) ≤ 2 ^ 20) (append_assoc done (line ∷ []) left) next

few_batches : (sources : List (List ℕ × ℕ)) (lines : List Said) (node : ℕ) → BreakNoRule (Told (inputs_fault sources)) lines → length (batches_said_of sources lines node) ≤ 2 ^ 20
few_batches sources lines node sound = few_from sources lines [] lines node sound refl (omega arith)

-- ---- together

-- what lines that break no rule give are batches of the sources
pub sound-batches : (sources : List (List ℕ × ℕ)) (lines : List Said) (given : ℕ → List (List Rec)) → BreakNoRule (Told (inputs_fault sources)) lines → ((node : ℕ) → given node ≡ batches_said_of sources lines node) → AreBatchesOf sources given
sound-batches sources lines given sound value = record {
  of_sources = λ node e. value node ∙ none_given sources lines node e;
  few = λ node. subst (λ b. length b ≤ 2 ^ 20) (sym (value node)) (few_batches sources lines node sound);
  bags = λ node. subst (AllByRecursion IsBatch) (sym (value node)) (each_batch sources lines node);
}

-- and so are those that are read when no line is left
pub read-batches : (sources : List (List ℕ × ℕ)) (lines left : List Said) (batches : List (ℕ × List (List Rec))) → IsRead sources lines left batches → left ≡ [] → AreBatchesOf sources (batches_at batches)
read-batches sources lines left batches read e =
    let all = read_all sources lines batches (subst (λ ls. IsRead sources lines ls batches) e read) in
    sound-batches sources lines (batches_at batches) all.0 all.1
