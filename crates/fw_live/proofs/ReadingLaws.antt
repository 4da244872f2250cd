-- What was read of a line is what it asks for.
use Rattle.std.proofs.Common.{◌≡◌, ℕ, ◌==◌, cond, map, ◌+◌, ◌-◌, ◌≤◌, Bool, true, false, not, List, [], ◌∷◌, ◌++◌, length, take, get_or, Option, Some, None, Result, Ok, Err, ◌<◌, refl, sym, ap, subst, ◌∙◌, inl, inr, arith}
use Rattle.std.proofs.lemmas.Bool.{eq-eqb, le-ltb, lt-ltb, not-true}
use Rattle.std.proofs.lemmas.List.{get_or-take, length-take}
use Rattle.std.proofs.lemmas.List.Splits.{slice_split_none}
use Rattle.std.proofs.lemmas.List.Sums.{prefix_len_passes}
use Rattle.std.specs.List.{filter_map, prefix_len}
use Rattle.std.specs.Prelude.{nat_le}
use Rattle.std.specs.Result.{result_ok, result_err}
use Rattle.std.specs.Option.{option_map_or}
use Rattle.fw_bag.specs.declared.rec.Rec.{Rec}
use Rattle.fw_bag.specs.Bag.{BagState, with_rec, bag_sum}
use Rattle.fw_bag.specs.Keyed.{sorted_recs}
use Rattle.fw_bag.specs.Rec.{rec_cmp}
use Rattle.std.specs.Ordering.{is_le}
use Rattle.fw_bag.proofs.BagLaws.{with_rec_comm, with_rec-le, with_rec-gt}
use Rattle.fw_lines.specs.declared.refusal.Code.{Code}
use Rattle.fw_lines.specs.declared.refusal.Refusal.{Refusal}
use Rattle.fw_lines.specs.declared.line.Line.{Line}
use Rattle.fw_lines.specs.declared.span.Span.{Span}
use Rattle.fw_lines.specs.Sources.{node_named}
use Rattle.fw_lines.specs.Batches.{batches_at}
use Rattle.fw_lines.specs.Faults.{IsFirstFault}
use Rattle.fw_lines.specs.Inputs.{AreAcceptedInputs, AreRefusedInputs, inputs_fault, inputs_line_fault, source_said, batch_of, batches_said_of, is_batch_of, record_said, spelled_rec}
use Rattle.fw_lines.specs.Lines.{Said, said_by, said_in, said_lines, said_from, lines_of, is_line_feed, bytes_at, words_at}
use Rattle.fw_flow.specs.Dataflow.{Dataflow}
use Rattle.fw_schedule.specs.declared.item.Item.{Item}
use Rattle.fw_lines.specs.declared.refusal.Code.TheVariants.{S4}
use Rattle.fw_schedule.specs.Grammar.{IsAcceptedSchedule, IsRefusedSchedule, item_of, items_of, schedule_fault, schedule_words_fault, within_limit}
use Rattle.fw_schedule.specs.Schedule.{steps_in, step_limit}
use Rattle.fw_live.specs.declared.rule.LineRule.TheVariants.{OfText, Length}
use Rattle.fw_live.specs.Reading.{first_item}
use Rattle.fw_live.specs.Asked.{none, asked_by, asked_in, feeding, feeding_by, first_line, line_limit, stepping, stepping_by}

-- ---- one line

pub one-line : (line : List ℕ) → lines_of (first_line line) ≡ first_line line ∷ []
one-line line =
    let n = prefix_len (λ b. not (is_line_feed b)) line in
    slice_split_none is_line_feed (take n line) (λ k d h.
    let l : k < n = omega (arith, h, length-take n line) in
    ap is_line_feed (get_or-take n line k d l) ∙ not-true (is_line_feed _) (prefix_len_passes (λ b. not (is_line_feed b)) line k d l))

-- what one line says
abbrev said-one : List ℕ → Said
said-one line = record { number = 1; words = said_by line }

pub one-said : (line : List ℕ) → lines_of line ≡ line ∷ [] → said_lines line ≡ said-one line ∷ []
one-said line one = ap (said_from 1) one

-- ---- a batch

-- no line before it counts
count-none : (sources : List (List ℕ × ℕ)) (source : Option ℕ)
    → option_map_or (λ node. length (batches_said_of sources [] node)) source 0 ≡ 0
count-none sources None = refl
count-none sources (Some node) = refl

fault-alone : (sources : List (List ℕ × ℕ)) (said : Said) → inputs_fault sources [] said ≡ inputs_line_fault sources 0 said.words
fault-alone sources said = ap (λ count. inputs_line_fault sources count said.words) (count-none sources (source_said sources said.words))

none-of : {A : Type 0} (o : Option A) → ((a : A) → o ≡ Some a → ⊥) → o ≡ None
none-of None n = refl
none-of (Some a) n = absurd (n a refl)

pub accepted-alone : (line : List ℕ) (sources : List (List ℕ × ℕ)) (batches : List (ℕ × List (List Rec))) → lines_of line ≡ line ∷ []
    → AreAcceptedInputs line sources batches → inputs_line_fault sources 0 (said_by line) ≡ None
accepted-alone line sources batches one a =
    none-of (inputs_line_fault sources 0 (said_by line)) (λ code e.
    a.sound.lines [] (said-one line) [] code (sym (one-said line one)) (fault-alone sources (said-one line) ∙ e))

-- the batch is that of the line
batch-of-one : (sources : List (List ℕ × ℕ)) (said : Said) (node : ℕ) → source_said sources said.words ≡ Some node
    → batches_said_of sources (said ∷ []) node ≡ batch_of said.words ∷ []
batch-of-one sources said node e =
    let is : is_batch_of sources node said ≡ true = ap (λ o. option_map_or (λ (s : ℕ). s == node) o false) e ∙ eq-eqb node node refl in
    ap (λ b. map (λ (l : Said). batch_of l.words) (cond b (said ∷ []) [])) is

pub batch-there : (line : List ℕ) (sources : List (List ℕ × ℕ)) (batches : List (ℕ × List (List Rec))) (node : ℕ) → lines_of line ≡ line ∷ []
    → AreAcceptedInputs line sources batches → source_said sources (said_by line) ≡ Some node → batches_at batches node ≡ batch_of (said_by line) ∷ []
batch-there line sources batches node one a e =
    a.value node ∙ ap (λ lines. batches_said_of sources lines node) (one-said line one) ∙ batch-of-one sources (said-one line) node e

-- ---- refusals

head-is : (s t : Said) (xs ys : List Said) → s ∷ xs ≡ t ∷ ys → s ≡ t
head-is s t xs ys e = cc

not-behind : (s t : Said) (before : List Said) (line : Said) (after : List Said) → s ∷ (before ++ line ∷ after) ≡ t ∷ [] → ⊥
not-behind s t [] line after e = absurd cc
not-behind s t (u ∷ before) line after e = absurd cc

-- the first fault of one line is its own
first-alone : (breaks : List Said → Said → Code → Type 0) (said : Said) (refusal : Refusal) (lines : List Said) → lines ≡ said ∷ []
    → IsFirstFault breaks lines refusal → breaks [] said refusal.code
first-alone breaks said refusal lines e f = by f.before f.line f.after (f.parts ∙ e) f.broken
  where
    by : (before : List Said) (line : Said) (after : List Said) → before ++ line ∷ after ≡ said ∷ [] → breaks before line refusal.code
        → breaks [] said refusal.code
    by [] line after p b = subst (λ s. breaks [] s refusal.code) (head-is line said after [] p) b
    by (s ∷ before) line after p b = absurd (not-behind s said before line after p)

pub refused-alone : (line : List ℕ) (sources : List (List ℕ × ℕ)) (refusal : Refusal) → lines_of line ≡ line ∷ [] → length line ≤ line_limit
    → AreRefusedInputs line sources refusal → inputs_line_fault sources 0 (said_by line) ≡ Some refusal.code
refused-alone line sources refusal one short (inl whole) = absurd (omega (arith, short, whole.0))
refused-alone line sources refusal one short (inr f) =
    sym (fault-alone sources (said-one line))
    ∙ first-alone (λ before said code. inputs_fault sources before said ≡ Some code) (said-one line) refusal (said_lines line) (one-said line one) f.1

-- ---- a schedule

some-is : (a b : Code) → Some a ≡ Some b → a ≡ b
some-is a b e = cc

pub items-alone : (line : List ℕ) (flow : Dataflow) (items : List Item) → lines_of line ≡ line ∷ [] → IsAcceptedSchedule line flow items
    → schedule_words_fault flow 0 (said_by line) ≡ None × (items ≡ items_of flow (said-one line ∷ []))
items-alone line flow items one a = (
  none-of (schedule_words_fault flow 0 (said_by line)) (λ code e. a.sound.lines [] (said-one line) [] code (sym (one-said line one)) e),
  a.value ∙ ap (items_of flow) (one-said line one),
)

pub refused-item : (line : List ℕ) (flow : Dataflow) (refusal : Refusal) → lines_of line ≡ line ∷ [] → length line ≤ line_limit
    → IsRefusedSchedule line flow refusal → schedule_words_fault flow 0 (said_by line) ≡ Some refusal.code
refused-item line flow refusal one short (inl whole) = absurd (omega (arith, short, whole.0))
refused-item line flow refusal one short (inr f) =
    first-alone (λ before said code. schedule_fault flow before said ≡ Some code) (said-one line) refusal (said_lines line) (one-said line one) f.1

-- what was read of a line that breaks no rule
pub read-item : (flow : Dataflow) (words : List (List ℕ)) (items : List Item) → schedule_words_fault flow 0 words ≡ None
    → items ≡ items_of flow (record { number = 1; words = words } ∷ [])
    → Ok (record { change = none; item = first_item items }) ≡ stepping_by flow words
read-item flow [] items e i = ap (λ xs. Ok (record { change = none; item = first_item xs })) i
read-item flow (verb ∷ words) items e i = by (item_of flow (verb ∷ words)) e i
  where
    by : (r : Result Item Code) → result_err (within_limit 0 r) ≡ None
        → items ≡ filter_map (λ (line : Said). result_ok r) (record { number = 1; words = verb ∷ words } ∷ [])
        → Ok (record { change = none; item = first_item items }) ≡ stepping (within_limit 0 r)
    by (Ok item) e i = fits item (nat_le (0 + steps_in item) step_limit) e i
      where
        fits : (item : Item) (b : Bool) → result_err (cond b (Ok item) (Err S4)) ≡ None → items ≡ item ∷ []
            → Ok (record { change = none; item = first_item items }) ≡ stepping (cond b (Ok item) (Err S4))
        fits item true e i = ap (λ xs. Ok (record { change = none; item = first_item xs })) i
        fits item false e i = absurd cc
    by (Err code) e i = absurd cc

-- the rule that was told is the one that is broken
pub told-rule : (flow : Dataflow) (words : List (List ℕ)) (code : Code) → schedule_words_fault flow 0 words ≡ Some code
    → Err (OfText code) ≡ stepping_by flow words
told-rule flow [] code e = absurd cc
told-rule flow (verb ∷ words) code e = by (within_limit 0 (item_of flow (verb ∷ words))) e
  where
    by : (r : Result Item Code) → result_err r ≡ Some code → Err (OfText code) ≡ stepping r
    by (Ok item) e = absurd cc
    by (Err other) e = ap (λ c. Err (OfText c)) (sym (some-is other code e))

-- ---- recs in order

sum-at : (r y : Rec) (ys zs : List Rec) (b : Bool) → is_le (rec_cmp r y) ≡ b → bag_sum (with_rec r ys) zs ≡ with_rec r (bag_sum ys zs)
    → bag_sum (with_rec r (y ∷ ys)) zs ≡ with_rec r (with_rec y (bag_sum ys zs))
sum-at r y ys zs true e ih = ap (λ xs. bag_sum xs zs) (with_rec-le r y ys e)
sum-at r y ys zs false e ih = ap (λ xs. bag_sum xs zs) (with_rec-gt r y ys e) ∙ ap (with_rec y) ih ∙ with_rec_comm y r (bag_sum ys zs)

sum-with : (r : Rec) (ys zs : List Rec) → bag_sum (with_rec r ys) zs ≡ with_rec r (bag_sum ys zs)
sum-with r [] zs = refl
sum-with r (y ∷ ys) zs = sum-at r y ys zs (is_le (rec_cmp r y)) refl (sum-with r ys zs)

pub sorted-sorted : (xs : List Rec) → sorted_recs (sorted_recs xs) ≡ sorted_recs xs
sorted-sorted [] = refl
sorted-sorted (x ∷ xs) = sum-with x (sorted_recs xs) [] ∙ ap (with_rec x) (sorted-sorted xs)

-- ---- a batch line

pub batch-sorted : (words : List (List ℕ)) → sorted_recs (batch_of words) ≡ batch_of words
batch-sorted [] = refl
batch-sorted (word ∷ []) = refl
batch-sorted (verb ∷ name ∷ records) = sorted-sorted (filter_map (λ word. spelled_rec (record_said word)) records)

-- what is asked for where no rule is broken, by the source
pub fed-as : (sources : List (List ℕ × ℕ)) (words : List (List ℕ)) (source : Option ℕ) → inputs_line_fault sources 0 words ≡ None
    → source_said sources words ≡ source → feeding None source (batch_of words) ≡ feeding_by sources words
fed-as sources words source e f =
    sym (ap (λ x. feeding x (source_said sources words) (batch_of words)) e ∙ ap (λ s. feeding None s (batch_of words)) f)

pub refused-as : (sources : List (List ℕ × ℕ)) (words : List (List ℕ)) (code : Code) → inputs_line_fault sources 0 words ≡ Some code
    → Err (OfText code) ≡ feeding_by sources words
refused-as sources words code e = sym (ap (λ x. feeding x (source_said sources words) (batch_of words)) e)

-- ---- words

pub first-words : (line : List ℕ) (found : Line) (rest : List Said) → lines_of line ≡ line ∷ [] → said_lines line ≡ said_in line found ∷ rest
    → words_at line found.words ≡ said_by line
first-words line found rest one e = ap (λ (s : Said). s.words) (head-is (said_in line found) (said-one line) rest [] (sym e ∙ one-said line one))

pub long-asked : (flow : Dataflow) (line : List ℕ) → line_limit < length line → Err Length ≡ asked_in flow line
long-asked flow line l = sym (ap (λ b. cond b (Err Length) (asked_by flow (said_by line))) (lt-ltb line_limit (length line) l))

pub short-asked : (flow : Dataflow) (line : List ℕ) (words : List (List ℕ)) → length line ≤ line_limit → words ≡ said_by line
    → asked_by flow words ≡ asked_in flow line
short-asked flow line words l e =
    ap (asked_by flow) e ∙ sym (ap (λ b. cond b (Err Length) (asked_by flow (said_by line))) (le-ltb line_limit (length line) l))

-- the words of a line of inputs that breaks no rule
pub fed-short : (sources : List (List ℕ × ℕ)) (words : List (List ℕ)) → length words < 2 → inputs_line_fault sources 0 words ≡ None
    → Ok (record { change = none; item = None }) ≡ feeding_by sources words
fed-short sources [] l e = refl
fed-short sources (word ∷ []) l e = absurd cc
fed-short sources (verb ∷ name ∷ records) l e = absurd (omega arith)

pub source-second : (text : List ℕ) (words : List Span) (sources : List (List ℕ × ℕ)) (d : Span) → 2 ≤ length words
    → source_said sources (words_at text words) ≡ node_named sources (bytes_at text (get_or words 1 d))
source-second text [] sources d l = absurd (omega arith)
source-second text (verb ∷ []) sources d l = absurd (omega arith)
source-second text (verb ∷ name ∷ records) sources d l = refl

-- the first of the bags of a node is the batch of the line
pub first-bag : (bags : List BagState) (batch : List Rec) (d : BagState) → map (λ (b : BagState). b.recs) bags ≡ batch ∷ []
    → (get_or bags 0 d).recs ≡ batch
first-bag [] batch d e = absurd cc
first-bag (bag ∷ bags) batch d e = head-recs bag.recs batch (map (λ (b : BagState). b.recs) bags) [] e
  where
    head-recs : (one other : List Rec) (xs ys : List (List Rec)) → one ∷ xs ≡ other ∷ ys → one ≡ other
    head-recs one other xs ys e = cc

pub no-bag : (batch : List Rec) → map (λ (b : BagState). b.recs) [] ≡ batch ∷ [] → ⊥
no-bag batch e = absurd cc

-- ---- the first item

pub no-item : (items : List Item) → length items < 1 → first_item items ≡ None
no-item [] l = refl
no-item (item ∷ items) l = absurd (omega arith)

pub first-item : (items : List Item) (d : Item) → 1 ≤ length items → first_item items ≡ Some (get_or items 0 d)
first-item [] d l = absurd (omega arith)
first-item (item ∷ items) d l = refl
