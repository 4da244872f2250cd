-- The items of a schedule stand on the lines that have words.
use Rattle.std.proofs.Common.{◌≡◌, ℕ, suc, ◌+◌, ◌<◌, ◌≤◌, Bool, true, false, cond, List, [], ◌∷◌, ◌++◌, map, Option, Some, None, Result, Ok, Err, refl, sym, ◌∙◌, ap, subst, arith, append_assoc, filter}
use Rattle.std.specs.Prelude.{slice_index_or, length}
use Rattle.std.specs.List.{All, AllPairs, AllZip, Contains, cons_option}
use Rattle.std.specs.Result.{result_ok, result_err}
use Rattle.std.proofs.lemmas.List.Elements.{All-cons, Contains-append_right}
use Rattle.std.proofs.lemmas.List.Kept.{AllPairs-cons}
use Rattle.fw_lines.specs.declared.refusal.Code.{Code}
use Rattle.fw_lines.specs.declared.line.Line.{Line}
use Rattle.fw_lines.specs.Faults.{BreakNoRule}
use Rattle.fw_lines.specs.Lines.{Said, said_by, said_from, said_in, said_lines, lines_of}
use Rattle.fw_lines.proofs.FaultLaws.{Told, told_none}
use Rattle.fw_flow.specs.Dataflow.{Dataflow}
use Rattle.fw_schedule.specs.declared.item.Item.{Item}
use Rattle.fw_schedule.specs.Grammar.{item_of, items_of, within_limit, schedule_fault, IsAcceptedSchedule}
use Rattle.fw_schedule.specs.LineNumbers.{has_words, numbers_said, line_numbers, IsItemOnLine, StandOnLines}
use Rattle.fw_schedule.specs.Schedule.{step_count}

-- ---- the items

-- what words ask for that break no rule behind so many steps
asked : (count : ℕ) (found : Result Item Code) → result_err (within_limit count found) ≡ None → (item : Item) × (found ≡ Ok item)
asked count (Ok item) e = (item, refl)
asked count (Err code) e = let h : Some code ≡ None = e in absurd (cc)

-- one line more, which has these words and breaks no rule
one_line : (flow : Dataflow) (whole before : List Said) (line : Said) (lines : List Said) (words : List (List ℕ)) → line.words ≡ words → Contains whole line
    → schedule_fault flow before line ≡ None → AllZip (IsItemOnLine whole flow) (items_of flow lines) (numbers_said lines)
    → AllZip (IsItemOnLine whole flow) (items_of flow (line ∷ lines)) (numbers_said (line ∷ lines))
one_line flow whole before line lines [] none there sound rest =
    subst (λ ws. AllZip (IsItemOnLine whole flow) (items_of flow (record { number = line.number; words = ws } ∷ lines)) (numbers_said (record { number = line.number; words = ws } ∷ lines))) (sym none) rest
one_line flow whole before line lines (word ∷ words) some there sound rest =
    let found = asked (step_count (items_of flow before)) (item_of flow (word ∷ words))
    (subst (λ ws. schedule_fault flow before (record { number = line.number; words = ws }) ≡ None) some sound) in
    subst (λ ws. AllZip (IsItemOnLine whole flow) (items_of flow (record { number = line.number; words = ws } ∷ lines)) (numbers_said (record { number = line.number; words = ws } ∷ lines))) (sym some)
    (subst (λ r. AllZip (IsItemOnLine whole flow) (cons_option r (items_of flow lines)) (line.number ∷ numbers_said lines)) (sym (ap (λ (r : Result Item Code). result_ok r) found.1))
    (record { line = line; there = there; numbered = refl; asks = ap (item_of flow) some ∙ found.1 }, rest))

-- lines among others, none of which breaks a rule
on_lines : (flow : Dataflow) (whole before lines : List Said) → before ++ lines ≡ whole → BreakNoRule (Told (schedule_fault flow)) whole
    → AllZip (IsItemOnLine whole flow) (items_of flow lines) (numbers_said lines)
on_lines flow whole before [] e sound = tt
on_lines flow whole before (line ∷ lines) e sound =
    one_line flow whole before line lines line.words refl
    (subst (λ ls. Contains ls line) e (Contains-append_right before (line ∷ lines) line (0, omega arith, refl)))
    (told_none (schedule_fault flow before line) (λ code. sound before line lines code e))
    (on_lines flow whole (before ++ line ∷ []) lines (append_assoc before (line ∷ []) lines ∙ e) sound)

-- ---- their numbers

-- the numbers of lines, of which the first has this number or a greater one
from_on : (n k : ℕ) → n ≤ k → (lines : List (List ℕ)) → All (λ m. n ≤ m) (numbers_said (said_from k lines))
from_on n k le [] = λ i d lt. absurd (omega (arith, lt))
from_on n k le (line ∷ lines) =
    elim (has_words (said_by line)) as (λ b. All (λ m. n ≤ m) (map (λ (l : Said). l.number) (cond b (record { number = k; words = said_by line } ∷ filter (λ (l : Said). has_words l.words) (said_from (k + 1) lines)) (filter (λ (l : Said). has_words l.words) (said_from (k + 1) lines))))) [
      | true ↦ All-cons (λ m. n ≤ m) k _ le (from_on n (k + 1) (omega (arith, le)) lines)
      | false ↦ from_on n (k + 1) (omega (arith, le)) lines
    ]

-- they ascend
ascend : (k : ℕ) (lines : List (List ℕ)) → AllPairs (λ a b. a < b) (numbers_said (said_from k lines))
ascend k [] = λ i j d lt within. absurd (omega (arith, within))
ascend k (line ∷ lines) =
    elim (has_words (said_by line)) as (λ b. AllPairs (λ x y. x < y) (map (λ (l : Said). l.number) (cond b (record { number = k; words = said_by line } ∷ filter (λ (l : Said). has_words l.words) (said_from (k + 1) lines)) (filter (λ (l : Said). has_words l.words) (said_from (k + 1) lines))))) [
      | true ↦ AllPairs-cons (λ x y. x < y) k _ (λ i d within. omega (arith, from_on (k + 1) (k + 1) (omega arith) lines i d within)) (ascend (k + 1) lines)
      | false ↦ ascend (k + 1) lines
    ]

-- ---- the law

pub stand_on_lines : (text : List ℕ) (flow : Dataflow) (items : List Item) → IsAcceptedSchedule text flow items → StandOnLines text flow items
stand_on_lines text flow items accepted = record {
  each = subst (λ is. AllZip (IsItemOnLine (said_lines text) flow) is (line_numbers text)) (sym accepted.value)
      (on_lines flow (said_lines text) [] (said_lines text) refl accepted.sound.lines);
  ascending = ascend 1 (lines_of text);
}
