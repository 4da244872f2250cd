-- The text of batches is read as these batches.
use Rattle.std.proofs.Common.{◌≡◌, ℕ, zero, suc, ◌+◌, ◌<◌, ◌≤◌, ◌^◌, ◌==◌, nat_le, nat_lt, Bool, true, false, ◌&&◌, ◌||◌, not, cond, List, [], ◌∷◌, ◌++◌, length, map, take, drop, get_or, refl, sym, ◌∙◌, ap, subst, append_assoc, arith, Some, None, inl, inr, ◌⊎◌, codes}
use Rattle.std.proofs.Math.Seq.{drop-append-add, take-append_seam}
use Rattle.std.proofs.lemmas.Bool.{and_from, and_parts, cases_lt, eqb-true, or_right}
use Rattle.std.proofs.lemmas.Bool.Decides.{nat_tests}
use Rattle.std.proofs.lemmas.Fmt.{decimal_is_IsNumeral, decimal_nonempty}
use Rattle.std.proofs.lemmas.List.{append-nil, get_or-map, length-append, length-map, map-append}
use Rattle.std.proofs.lemmas.List.Elements.{filter-append}
use Rattle.std.proofs.lemmas.List.Folds.{list_all-append, list_any-append}
use Rattle.std.proofs.lemmas.List.FromFn.{get_or-map-range_with_len}
use Rattle.std.proofs.lemmas.Map.Keys.{apart_from_distinct}
use Rattle.std.proofs.lemmas.Slice.Eq.{bytes_eq-Decides}
use Rattle.std.specs.Char.{is_ascii_digit}
use Rattle.std.specs.Fmt.{decimal}
use Rattle.std.specs.List.{AllByRecursion, IsDistinct, after_first, before_first, cons_option, filter, filter_map, flat_map, list_all, list_any, position_or_len, range_with_len}
use Rattle.std.specs.Map.{lookup}
use Rattle.std.specs.Option.{option_map_or, option_or}
use Rattle.std.specs.Str.{bytes_eq}
use Rattle.std.specs.Str.Parse.{digits_value}
use Rattle.fw_lemmas.proofs.Each.{each-append, each-suffix, each-at}
use Rattle.fw_bag.specs.Bag.{IsRec, bag_sum}
use Rattle.fw_bag.specs.declared.rec.Rec.{Rec}
use Rattle.fw_bag.specs.RecText.{rec_text}
use Rattle.fw_bag.proofs.BagLaws.{same_from_how_often, how_often-bag_sum, IsAscending-bag_sum}
use Rattle.fw_lines.specs.declared.numeral.Number.{Number}
use Rattle.fw_lines.specs.declared.numeral.Number.TheVariants.{Value, TooLarge, NotANumber}
use Rattle.fw_lines.specs.declared.record.RecordWord.{RecordWord}
use Rattle.fw_lines.specs.declared.record.RecordWord.TheVariants.{Sound, Broken}
use Rattle.fw_lines.specs.declared.refusal.Code.TheVariants.{I1, I3, I4, I5}
use Rattle.fw_lines.specs.Batches.{batches_at, IsBatch}
use Rattle.fw_lines.specs.Faults.{BreakNoRule}
use Rattle.fw_lines.specs.Inputs.{batch_of, batches_said_of, broken_rule, count_of, count_fault, has_large_number, inputs_fault, inputs_line_fault, inputs_rules, inputs_size_limit, is_batch_of, is_batch_of_words, is_colon, record_from, record_said, spelled_rec, value_fault, words_fault}
use Rattle.fw_lines.specs.Lines.{Said, is_allowed, is_word, said_lines}
use Rattle.fw_lines.specs.Sources.{node_named}
use Rattle.fw_lines.specs.Spelling.{is_name, number_of}
use Rattle.fw_lines.specs.Written.{WordLine, is_in_words, is_plain, is_plain_line, line_text, numbered, text_of}
use Rattle.fw_lines.proofs.WrittenLaws.{said_lines-text_of}
use Rattle.fw_flow.specs.declared.node.Node.{Node}
use Rattle.fw_flow.specs.Dataflow.{Dataflow, batches_of, batches_of_nodes, idle_node, is_input_kind, kind_of, node_at, node_ids, system_of}
use Rattle.fw_flow.specs.Sources.{AreInputsOf, source_named_at, sources_of}
use Rattle.fw_flow.specs.WellFormed.{IsWellFormedSystem}
use Rattle.fw_flow.specs.PlainNames.{HasPlainInputs}
use Rattle.fw_flow_text.specs.BatchesText.{line_of_batch, lines_of_batches, lines_of_node, text_of_batches}
use Rattle.fw_flow_text.proofs.PlainLaws.{digit_in_words, each_in_words, good-name}
use Rattle.fw_lines.proofs.DecimalLaws.{decimal_digits, decimal_numeral}
use Rattle.fw_flow.proofs.NewLaws.{other_way}

-- ---- a rec

number_read : (n : ℕ) → n < 2 ^ 64 → number_of (decimal n) ≡ Value n
unfolding number_of
number_read n h =
    let small : ℕ → Number = λ v. cond (nat_lt v (2 ^ 64)) (Value v) TooLarge in
    let below : nat_lt n (2 ^ 64) ≡ true = grind (arith, nat_tests, h) in
    ap (λ b. cond b (small (digits_value 10 (decimal n))) NotANumber) (decimal_numeral n h)
    ∙ ap small (decimal_is_IsNumeral n h).1
    ∙ ap (λ b. cond b (Value n) TooLarge) below

digit_no_colon : (b : ℕ) → is_ascii_digit b ≡ true → is_colon b ≡ false
digit_no_colon b h = grind (arith, nat_tests, h)

-- the colon stands behind the digits
colon_place : (ds rest : List ℕ) → list_all is_ascii_digit ds ≡ true → position_or_len is_colon (ds ++ 58 ∷ rest) ≡ length ds
colon_place [] rest h = refl
colon_place (d ∷ ds) rest h =
    let parts = and_parts (is_ascii_digit d) (list_all is_ascii_digit ds) h in
    ap (λ b. cond (not b) (1 + position_or_len is_colon (ds ++ 58 ∷ rest)) 0) (digit_no_colon d parts.0)
    ∙ ap (λ n. 1 + n) (colon_place ds rest parts.1)
    ∙ (omega arith)

some_word : (bs cs : List ℕ) → 0 < length bs → is_word (bs ++ cs) ≡ true
some_word [] cs h = absurd (omega arith)
some_word (b ∷ bs) cs h = refl

-- a rec is read as what it is
rec_read : (r : Rec) → IsRec r → record_said (rec_text r) ≡ Sound r
unfolding record_said
rec_read r small =
    let key = r.key in
    let value = r.value in
    let word = rec_text r in
    let place : position_or_len is_colon word ≡ length (decimal key) = colon_place (decimal key) (decimal value) (decimal_digits key small.key) in
    let colon : list_any is_colon word ≡ true = list_any-append is_colon (decimal key) (58 ∷ decimal value) ∙ or_right (list_any is_colon (decimal key)) true refl in
    let before : before_first is_colon word ≡ decimal key = ap (λ n. take n word) place ∙ take-append_seam (decimal key) (58 ∷ decimal value) in
    let after : after_first is_colon word ≡ decimal value = ap (λ n. drop (n + 1) word) place ∙ drop-append-add (decimal key) (58 ∷ decimal value) 1 in
    let broken : RecordWord = Broken (cond (list_all is_allowed word) I4 I1) in
    ap (λ b. cond b (record_from (number_of (before_first is_colon word)) (number_of (after_first is_colon word))) broken) colon
    ∙ ap (λ bs. record_from (number_of bs) (number_of (after_first is_colon word))) before
    ∙ ap (λ bs. record_from (number_of (decimal key)) (number_of bs)) after
    ∙ ap (λ n. record_from n (number_of (decimal value))) (number_read key small.key)
    ∙ ap (record_from (Value key)) (number_read value small.value)

plain-rec : (r : Rec) → IsRec r → is_plain (rec_text r) ≡ true
plain-rec r small =
    and_from (is_word (rec_text r)) (list_all is_in_words (rec_text r)) (some_word (decimal r.key) (codes ":" ++ decimal r.value) (decimal_nonempty r.key small.key))
    (list_all-append is_in_words (decimal r.key) (58 ∷ decimal r.value)
    ∙ and_from (list_all is_in_words (decimal r.key)) (list_all is_in_words (58 ∷ decimal r.value)) (each_in_words is_ascii_digit digit_in_words (decimal r.key) (decimal_digits r.key small.key))
    (each_in_words is_ascii_digit digit_in_words (decimal r.value) (decimal_digits r.value small.value)))

-- what the words of recs say
record RecsAreRead (recs : List Rec) : Type 0 where
  plain : list_all is_plain (map rec_text recs) ≡ true
  sound : words_fault (map rec_text recs) ≡ None
  small : list_any (λ word. has_large_number (record_said word)) (map rec_text recs) ≡ false
  value : filter_map (λ word. spelled_rec (record_said word)) (map rec_text recs) ≡ recs

recs_read : (recs : List Rec) → AllByRecursion IsRec recs → RecsAreRead recs
recs_read [] small = record { plain = refl; sound = refl; small = refl; value = refl }
recs_read (r ∷ rs) small =
    let rest = recs_read rs small.1 in
    let read = rec_read r small.0 in
    record {
      plain = and_from (is_plain (rec_text r)) (list_all is_plain (map rec_text rs)) (plain-rec r small.0) rest.plain;
      sound = ap (λ w. option_or (broken_rule w) (words_fault (map rec_text rs))) read ∙ rest.sound;
      small = ap (λ w. has_large_number w || list_any (λ word. has_large_number (record_said word)) (map rec_text rs)) read ∙ rest.small;
      value = ap (λ w. cons_option (spelled_rec w) (filter_map (λ word. spelled_rec (record_said word)) (map rec_text rs))) read ∙ ap (λ xs. r ∷ xs) rest.value;
    }

-- ---- the line of a batch

-- the words of a batch of a node
abbrev words_of_batch : Dataflow → ℕ → List Rec → WordLine
words_of_batch flow p recs = codes "batch" ∷ (node_at flow p).name ∷ map rec_text recs

-- the lines of a node
abbrev lines_of : Dataflow → (ℕ → List (List Rec)) → ℕ → List WordLine
lines_of flow given p = cond (is_input_kind (kind_of flow p)) (map (words_of_batch flow p) (given p)) []

batch_lined : (flow : Dataflow) (p : ℕ) (recs : List Rec) → line_of_batch (node_at flow p).name recs ≡ line_text (words_of_batch flow p recs)
batch_lined flow p recs = refl

text_append : (xs ys : List WordLine) → text_of (xs ++ ys) ≡ text_of xs ++ text_of ys
text_append [] ys = refl
text_append (x ∷ xs) ys = ap (λ t. line_text x ++ t) (text_append xs ys) ∙ sym (append_assoc (line_text x) (text_of xs) (text_of ys))

batches_lined : (flow : Dataflow) (p : ℕ) (bs : List (List Rec)) → lines_of_batches (node_at flow p).name bs ≡ text_of (map (words_of_batch flow p) bs)
batches_lined flow p [] = refl
batches_lined flow p (b ∷ bs) = ap (λ t. t ++ lines_of_batches (node_at flow p).name bs) (batch_lined flow p b) ∙ ap (λ t. line_text (words_of_batch flow p b) ++ t) (batches_lined flow p bs)

node_lined : (flow : Dataflow) (batches : List (ℕ × List (List Rec))) (p : ℕ) → lines_of_node flow batches p ≡ text_of (lines_of flow (batches_at batches) p)
node_lined flow batches p = by (is_input_kind (kind_of flow p))
  where
    by : (b : Bool) → cond b (lines_of_batches (node_at flow p).name (batches_at batches p)) [] ≡ text_of (cond b (map (words_of_batch flow p) (batches_at batches p)) [])
    by true = batches_lined flow p (batches_at batches p)
    by false = refl

nodes_lined : (flow : Dataflow) (batches : List (ℕ × List (List Rec))) (ps : List ℕ) → flat_map (lines_of_node flow batches) ps ≡ text_of (flat_map (lines_of flow (batches_at batches)) ps)
nodes_lined flow batches [] = refl
nodes_lined flow batches (p ∷ ps) =
    let lines = lines_of flow (batches_at batches) in
    ap (λ t. t ++ flat_map (lines_of_node flow batches) ps) (node_lined flow batches p)
    ∙ ap (λ t. text_of (lines p) ++ t) (nodes_lined flow batches ps)
    ∙ sym (text_append (lines p) (flat_map lines ps))

-- ---- what is given

-- the flow has names, each its own, and the batches of each node are bags of recs, at most 2^20
pub record AreGiven (flow : Dataflow) (given : ℕ → List (List Rec)) : Type 0 where
  pub once : IsDistinct bytes_eq (map (λ (n : Node). n.name) flow.nodes)
  pub named : HasPlainInputs flow
  pub bags : (p : ℕ) → p < length flow.nodes → AllByRecursion IsBatch (given p)
  pub few : (p : ℕ) → p < length flow.nodes → length (given p) ≤ 2 ^ 20
  pub of_inputs : (p : ℕ) → p < length flow.nodes → is_input_kind (kind_of flow p) ≡ false → given p ≡ []

name_at : (flow : Dataflow) (p : ℕ) → p < length flow.nodes → get_or (map (λ (n : Node). n.name) flow.nodes) p [] ≡ (node_at flow p).name
unfolding node_at
name_at flow p lt = get_or-map (λ (n : Node). n.name) flow.nodes p idle_node [] lt

names_differ : (flow : Dataflow) (a p : ℕ) → IsDistinct bytes_eq (map (λ (n : Node). n.name) flow.nodes) → a < p → p < length flow.nodes → bytes_eq (node_at flow p).name (node_at flow a).name ≡ false
names_differ flow a p once before lt =
    let names = map (λ (n : Node). n.name) flow.nodes in
    other_way (node_at flow a).name (node_at flow p).name
    (ap (λ n. bytes_eq n (node_at flow p).name) (sym (name_at flow a (omega (arith, before, lt))))
    ∙ ap (bytes_eq (get_or names a [])) (sym (name_at flow p lt))
    ∙ apart_from_distinct bytes_eq names a p [] once before (omega (arith, lt, length-map flow.nodes (λ (n : Node). n.name))))

passed_over : (test : List ℕ → Bool) (name : List ℕ) (place : ℕ) (rest : List (List ℕ × ℕ)) (b : Bool) → test name ≡ false → lookup test (cond b ((name, place) ∷ []) [] ++ rest) ≡ lookup test rest
passed_over test name place rest true e = ap (λ c. cond c (Some place) (lookup test rest)) e
passed_over test name place rest false e = refl

-- an input is found by its name
source_found : (flow : Dataflow) (p : ℕ) → IsDistinct bytes_eq (map (λ (n : Node). n.name) flow.nodes) → p < length flow.nodes → is_input_kind (kind_of flow p) ≡ true
    → (a n : ℕ) → a ≤ p → p < a + n → node_named (flat_map (source_named_at flow) (range_with_len a n)) (node_at flow p).name ≡ Some p
source_found flow p once lt input a zero le h = let no : ⊥ = omega (arith, le, h) in absurd no
source_found flow p once lt input a (suc n) le h = elim (cases_lt a p) [
  | inl before ↦
      passed_over (bytes_eq (node_at flow p).name) (node_at flow a).name a (flat_map (source_named_at flow) (range_with_len (a + 1) n)) (is_input_kind (kind_of flow a)) (names_differ flow a p once before lt)
      ∙ source_found flow p once lt input (a + 1) n (omega (arith, before)) (omega (arith, h))
  | inr past ↦
      let same : p ≡ a = omega (arith, le, past) in
      let name = (node_at flow p).name in
      let rest = flat_map (source_named_at flow) (range_with_len (a + 1) n) in
      subst (λ q. lookup (bytes_eq name) (cond (is_input_kind (kind_of flow q)) (((node_at flow q).name, q) ∷ []) [] ++ rest) ≡ Some p) same
      (ap (λ b. lookup (bytes_eq name) (cond b ((name, p) ∷ []) [] ++ rest)) input ∙ ap (λ b. cond b (Some p) (lookup (bytes_eq name) rest)) ((bytes_eq-Decides name name).1 refl))
]

named_source : (flow : Dataflow) (given : ℕ → List (List Rec)) → AreGiven flow given → (p : ℕ) → p < length flow.nodes → is_input_kind (kind_of flow p) ≡ true
    → node_named (sources_of flow) (node_at flow p).name ≡ Some p
named_source flow given h p lt input = source_found flow p h.once lt input 0 (length flow.nodes) (omega arith) (omega (arith, lt))

node_name : (flow : Dataflow) (given : ℕ → List (List Rec)) → AreGiven flow given → (p : ℕ) → p < length flow.nodes → is_input_kind (kind_of flow p) ≡ true
    → is_name (node_at flow p).name ≡ true
unfolding node_at kind_of
node_name flow given h p lt input = each-at (λ (n : Node). is_input_kind n.kind ≡ true → is_name n.name ≡ true) flow.nodes p idle_node lt h.named input

-- ---- the lines

-- a line of the text: none, or that of a batch of an input
abbrev IsLine : Dataflow → WordLine → Type 0
IsLine flow words = (words ≡ []) ⊎ ((p : ℕ) × (recs : List Rec) × (p < length flow.nodes) × (is_input_kind (kind_of flow p) ≡ true) × IsBatch recs × (words ≡ words_of_batch flow p recs))

-- the words of a batch give it to its node alone
given_by : (flow : Dataflow) (given : ℕ → List (List Rec)) → AreGiven flow given → (p : ℕ) (recs : List Rec) → p < length flow.nodes → is_input_kind (kind_of flow p) ≡ true → IsBatch recs → (q : ℕ)
    → (is_batch_of_words (sources_of flow) q (words_of_batch flow p recs) ≡ (p == q)) × (batch_of (words_of_batch flow p recs) ≡ recs)
given_by flow given h p recs lt input batch q = (
  ap (λ o. option_map_or (λ s. s == q) o false) (named_source flow given h p lt input),
  ap (λ rs. bag_sum rs []) (recs_read recs batch.recs).value
      ∙ same_from_how_often (bag_sum recs []) recs (IsAscending-bag_sum recs [] tt) batch.ascending (λ r. let n = how_often-bag_sum r recs [] in omega arith),
)

abbrev said : ℕ → WordLine → Said
said number words = record { number = number; words = words }

-- what lines of these words give to node q
abbrev words_give : Dataflow → ℕ → List WordLine → List (List Rec)
words_give flow q lines = map batch_of (filter (is_batch_of_words (sources_of flow) q) lines)

said_gives : (flow : Dataflow) (q number : ℕ) (lines : List WordLine) → batches_said_of (sources_of flow) (numbered number lines) q ≡ words_give flow q lines
said_gives flow q number [] = refl
said_gives flow q number (line ∷ lines) = by (is_batch_of_words (sources_of flow) q line) (said_gives flow q (number + 1) lines)
  where
    later : List Said
    later = filter (is_batch_of (sources_of flow) q) (numbered (number + 1) lines)

    others : List WordLine
    others = filter (is_batch_of_words (sources_of flow) q) lines

    by : (b : Bool) → map (λ (l : Said). batch_of l.words) later ≡ map batch_of others
        → map (λ (l : Said). batch_of l.words) (cond b (said number line ∷ later) later) ≡ map batch_of (cond b (line ∷ others) others)
    by true e = ap (λ xs. batch_of line ∷ xs) e
    by false e = e

give_append : (flow : Dataflow) (q : ℕ) (xs ys : List WordLine) → words_give flow q (xs ++ ys) ≡ words_give flow q xs ++ words_give flow q ys
give_append flow q xs ys =
    let mine = filter (is_batch_of_words (sources_of flow) q) in
    ap (map batch_of) (filter-append (is_batch_of_words (sources_of flow) q) xs ys) ∙ map-append batch_of (mine xs) (mine ys)

cond_none : (t : Bool) (xs : List (List Rec)) → xs ≡ [] → cond t xs [] ≡ []
cond_none true xs e = e
cond_none false xs e = refl

-- what the lines of node p give to node q
node_gives : (flow : Dataflow) (given : ℕ → List (List Rec)) → AreGiven flow given → (p q : ℕ) → p < length flow.nodes → is_input_kind (kind_of flow p) ≡ true
    → (bs : List (List Rec)) → AllByRecursion IsBatch bs → words_give flow q (map (words_of_batch flow p) bs) ≡ cond (p == q) bs []
node_gives flow given h p q lt input [] each = sym (cond_none (p == q) [] refl)
node_gives flow given h p q lt input (b ∷ bs) each =
    let gives = given_by flow given h p b lt input each.0 q in
    ap (λ t. map batch_of (cond t (words_of_batch flow p b ∷ others) others)) gives.0 ∙ by (p == q) (node_gives flow given h p q lt input bs each.1) gives.1
  where
    others : List WordLine
    others = filter (is_batch_of_words (sources_of flow) q) (map (words_of_batch flow p) bs)

    by : (t : Bool) → map batch_of others ≡ cond t bs [] → batch_of (words_of_batch flow p b) ≡ b → map batch_of (cond t (words_of_batch flow p b ∷ others) others) ≡ cond t (b ∷ bs) []
    by true e f = ap (λ x. x ∷ map batch_of others) f ∙ ap (λ xs. b ∷ xs) e
    by false e f = e

-- what the lines of nodes from a on give to node q
nodes_give : (flow : Dataflow) (given : ℕ → List (List Rec)) → AreGiven flow given → (q a n : ℕ) → a + n ≤ length flow.nodes
    → words_give flow q (flat_map (lines_of flow given) (range_with_len a n)) ≡ cond (nat_le a q && nat_lt q (a + n)) (given q) []
nodes_give flow given h q a zero within =
    let none : (nat_le a q && nat_lt q (a + 0)) ≡ false = grind (arith, nat_tests) in
    ap (λ b. cond b (given q) []) (sym none)
nodes_give flow given h q a (suc n) within =
    give_append flow q (lines_of flow given a) rest ∙ ap (λ xs. words_give flow q (lines_of flow given a) ++ xs) (nodes_give flow given h q (a + 1) n (omega (arith, within)))
    ∙ ap (λ xs. xs ++ later) (mine (is_input_kind (kind_of flow a)) refl) ∙ joined (a == q) refl
  where
    rest : List WordLine
    rest = flat_map (lines_of flow given) (range_with_len (a + 1) n)

    later : List (List Rec)
    later = cond (nat_le (a + 1) q && nat_lt q (a + 1 + n)) (given q) []

    mine : (b : Bool) → is_input_kind (kind_of flow a) ≡ b → words_give flow q (cond b (map (words_of_batch flow a) (given a)) []) ≡ cond (a == q) (given a) []
    mine true e = node_gives flow given h a q (omega (arith, within)) e (given a) (h.bags a (omega (arith, within)))
    mine false e = sym (cond_none (a == q) (given a) (h.of_inputs a (omega (arith, within)) e))

    joined : (t : Bool) → (a == q) ≡ t → cond t (given a) [] ++ later ≡ cond (nat_le a q && nat_lt q (a + suc n)) (given q) []
    joined true e =
        let same : a ≡ q = eqb-true a q e in
        let first : (nat_le (a + 1) q && nat_lt q (a + 1 + n)) ≡ false = grind (arith, nat_tests, same) in
        let second : (nat_le a q && nat_lt q (a + suc n)) ≡ true = grind (arith, nat_tests, same) in
        ap (λ b. given a ++ cond b (given q) []) first ∙ append-nil (given a) ∙ ap given same ∙ ap (λ b. cond b (given q) []) (sym second)
    joined false e =
        let test : (nat_le (a + 1) q && nat_lt q (a + 1 + n)) ≡ (nat_le a q && nat_lt q (a + suc n)) = grind (arith, nat_tests, e) in
        ap (λ b. cond b (given q) []) test

abbrev all_lines : Dataflow → (ℕ → List (List Rec)) → List WordLine
all_lines flow given = flat_map (lines_of flow given) (node_ids flow)

-- the lines give each node of the flow its batches
all_given : (flow : Dataflow) (given : ℕ → List (List Rec)) → AreGiven flow given → (q : ℕ) → q < length flow.nodes → batches_said_of (sources_of flow) (numbered 1 (all_lines flow given)) q ≡ given q
all_given flow given h q lt =
    let there : (nat_le 0 q && nat_lt q (0 + length flow.nodes)) ≡ true = grind (arith, nat_tests, lt) in
    said_gives flow q 1 (all_lines flow given) ∙ nodes_give flow given h q 0 (length flow.nodes) (omega arith) ∙ ap (λ b. cond b (given q) []) there

-- ---- each line is one of them

batch_lines_are : (flow : Dataflow) (p : ℕ) → p < length flow.nodes → is_input_kind (kind_of flow p) ≡ true → (bs : List (List Rec)) → AllByRecursion IsBatch bs
    → AllByRecursion (IsLine flow) (map (words_of_batch flow p) bs)
batch_lines_are flow p lt input [] each = tt
batch_lines_are flow p lt input (b ∷ bs) each = (inr (p, b, lt, input, each.0, refl), batch_lines_are flow p lt input bs each.1)

lines_are : (flow : Dataflow) (given : ℕ → List (List Rec)) → AreGiven flow given → (a n : ℕ) → a + n ≤ length flow.nodes → AllByRecursion (IsLine flow) (flat_map (lines_of flow given) (range_with_len a n))
lines_are flow given h a zero within = tt
lines_are flow given h a (suc n) within =
    each-append (IsLine flow) (lines_of flow given a) (flat_map (lines_of flow given) (range_with_len (a + 1) n)) (by (is_input_kind (kind_of flow a)) refl) (lines_are flow given h (a + 1) n (omega (arith, within)))
  where
    by : (b : Bool) → is_input_kind (kind_of flow a) ≡ b → AllByRecursion (IsLine flow) (cond b (map (words_of_batch flow a) (given a)) [])
    by true e = batch_lines_are flow a (omega (arith, within)) e (given a) (h.bags a (omega (arith, within)))
    by false e = tt

said_are : (flow : Dataflow) (number : ℕ) (lines : List WordLine) → AllByRecursion (IsLine flow) lines → AllByRecursion (λ (l : Said). IsLine flow l.words) (numbered number lines)
said_are flow number [] each = (inl refl, tt)
said_are flow number (line ∷ lines) each = (each.0, said_are flow (number + 1) lines each.1)

plain_line : (flow : Dataflow) (given : ℕ → List (List Rec)) → AreGiven flow given → (words : WordLine) → IsLine flow words → is_plain_line words ≡ true
plain_line flow given h words (inl none) = ap is_plain_line none
plain_line flow given h words (inr (p, recs, lt, input, batch, same)) =
    let name = (node_at flow p).name in
    ap is_plain_line same
    ∙ and_from (is_plain name && list_all is_plain (map rec_text recs)) true
    (and_from (is_plain name) (list_all is_plain (map rec_text recs)) (good-name name (node_name flow given h p lt input)).plain (recs_read recs batch.recs).plain) refl

all_plain : (flow : Dataflow) (given : ℕ → List (List Rec)) → AreGiven flow given → (lines : List WordLine) → AllByRecursion (IsLine flow) lines → list_all is_plain_line lines ≡ true
all_plain flow given h [] each = refl
all_plain flow given h (line ∷ lines) each = and_from (is_plain_line line) (list_all is_plain_line lines) (plain_line flow given h line each.0) (all_plain flow given h lines each.1)

-- a line of a batch breaks no rule, where its node has few batches before it
line_sound : (flow : Dataflow) (given : ℕ → List (List Rec)) → AreGiven flow given → (p count : ℕ) (recs : List Rec) → p < length flow.nodes → is_input_kind (kind_of flow p) ≡ true → IsBatch recs
    → count < 2 ^ 20 → inputs_line_fault (sources_of flow) count (words_of_batch flow p recs) ≡ None
line_sound flow given h p count recs lt input batch few =
    let name = (node_at flow p).name in
    let read = recs_read recs batch.recs in
    let room : nat_le (2 ^ 20) count ≡ false = grind (arith, nat_tests, few) in
    ap (λ b. option_or (cond b (words_fault (map rec_text recs)) (Some I1)) (value_fault (node_named (sources_of flow) name) (map rec_text recs) count)) (node_name flow given h p lt input)
    ∙ ap (λ o. option_or o (value_fault (node_named (sources_of flow) name) (map rec_text recs) count)) read.sound
    ∙ ap (λ o. value_fault o (map rec_text recs) count) (named_source flow given h p lt input)
    ∙ ap (λ b. option_or (cond b (Some I3) None) (count_fault count)) read.small
    ∙ ap (λ b. cond b (Some I5) None) room

-- no line breaks a rule
none_broken : (flow : Dataflow) (given : ℕ → List (List Rec)) → AreGiven flow given → BreakNoRule (inputs_rules (sources_of flow)).breaks (numbered 1 (all_lines flow given))
none_broken flow given h before line after code parts broken =
    let sources = sources_of flow in
    let all = said_are flow 1 (all_lines flow given) (lines_are flow given h 0 (length flow.nodes) (omega arith)) in
    let here = (each-suffix (λ (l : Said). IsLine flow l.words) before (line ∷ after) (subst (AllByRecursion (λ (l : Said). IsLine flow l.words)) (sym parts) all)).0 in
    by here
  where
    by : IsLine flow line.words → ⊥
    by (inl none) = let k : None ≡ Some code = sym (ap (λ words. inputs_line_fault (sources_of flow) (count_of (sources_of flow) before words) words) none) ∙ broken in absurd (cc)
    by (inr (p, recs, lt, input, batch, same)) =
        let sources = sources_of flow in
        let mine = filter (is_batch_of sources p) in
        let gives = given_by flow given h p recs lt input batch p in
        let own : is_batch_of sources p line ≡ true = ap (is_batch_of_words sources p) same ∙ gives.0 ∙ (grind (arith, nat_tests)) in
        let split : mine (before ++ line ∷ after) ≡ mine before ++ (line ∷ mine after) = filter-append (is_batch_of sources p) before (line ∷ after) ∙ ap (λ b. mine before ++ cond b (line ∷ mine after) (mine after)) own in
        let total : length (batches_said_of sources (numbered 1 (all_lines flow given)) p) ≡ length (given p) = ap length (all_given flow given h p lt) in
        let count : length (batches_said_of sources before p) ≡ length (mine before) = length-map (mine before) (λ (l : Said). batch_of l.words) in
        let whole : length (batches_said_of sources (numbered 1 (all_lines flow given)) p) ≡ length (mine before) + (1 + length (mine after)) =
        ap (λ ls. length (batches_said_of sources ls p)) (sym parts) ∙ length-map (mine (before ++ line ∷ after)) (λ (l : Said). batch_of l.words) ∙ ap length split ∙ length-append (mine before) (line ∷ mine after) ∙ (omega arith) in
        let few : length (batches_said_of sources before p) < 2 ^ 20 = omega (arith, total, count, whole, h.few p lt) in
        let counted : count_of sources before line.words ≡ length (batches_said_of sources before p) =
        ap (count_of sources before) same ∙ ap (λ o. option_map_or (λ node. length (batches_said_of sources before node)) o 0) (named_source flow given h p lt input) in
        let sound : inputs_fault sources before line ≡ None =
        ap (λ n. inputs_line_fault sources n line.words) counted ∙ ap (inputs_line_fault sources (length (batches_said_of sources before p))) same ∙ line_sound flow given h p (length (batches_said_of sources before p)) recs lt input batch few in
        let k : None ≡ Some code = sym sound ∙ broken in
        absurd (cc)

-- ---- the text

-- the text is one of inputs of the flow, and gives each of its nodes its batches
pub batches_written : (flow : Dataflow) (batches : List (ℕ × List (List Rec))) → AreGiven flow (batches_at batches) → length (text_of_batches flow batches) ≤ inputs_size_limit
    → AreInputsOf flow (text_of_batches flow batches)
    × ((p : ℕ) → p < length flow.nodes → batches_said_of (sources_of flow) (said_lines (text_of_batches flow batches)) p ≡ batches_at batches p)
batches_written flow batches h short =
    let given = batches_at batches in
    let lines = all_lines flow given in
    let are = lines_are flow given h 0 (length flow.nodes) (omega arith) in
    let said : said_lines (text_of_batches flow batches) ≡ numbered 1 lines = ap said_lines (nodes_lined flow batches (node_ids flow)) ∙ said_lines-text_of lines (all_plain flow given h lines are) in (
      record { size = short; lines = subst (BreakNoRule (inputs_rules (sources_of flow)).breaks) (sym said) (none_broken flow given h) },
      λ p lt. ap (λ ls. batches_said_of (sources_of flow) ls p) said ∙ all_given flow given h p lt,
    )

-- the batches of a well-formed system are given so
pub given_of-system : (flow : Dataflow) (batches : List (ℕ × List (List Rec))) → IsWellFormedSystem (system_of flow batches)
    → IsDistinct bytes_eq (map (λ (n : Node). n.name) flow.nodes) → HasPlainInputs flow → AreGiven flow (batches_at batches)
unfolding batches_of batches_of_nodes
given_of-system flow batches w once named =
    let at : (p : ℕ) → p < length flow.nodes → batches_of (system_of flow batches) p ≡ batches_at batches p = λ p lt. get_or-map-range_with_len (batches_at batches) 0 (length flow.nodes) p p [] lt (omega arith) in
    record {
      once = once;
      named = named;
      bags = λ p lt. subst (AllByRecursion IsBatch) (at p lt) (w.batches p);
      few = λ p lt. subst (λ (bs : List (List Rec)). length bs ≤ 2 ^ 20) (at p lt) (w.few p);
      of_inputs = λ p lt k. sym (at p lt) ∙ w.of_inputs p k;
    }
