-- The lines of a schedule, read one after another.
use Rattle.std.proofs.Common.{◌≡◌, ℕ, ◌+◌, ◌≤◌, List, [], ◌∷◌, ◌++◌, length, Some, None, refl, sym, ◌∙◌, ap, subst, arith, ◌⊎◌, inl, inr}
use Rattle.std.proofs.lemmas.List.Elements.{filter_map-append}
use Rattle.std.specs.Result.{result_ok}
use Rattle.fw_lines.specs.declared.line.Line.{Line}
use Rattle.fw_lines.specs.declared.refusal.Refusal.{Refusal}
use Rattle.fw_lines.specs.Faults.{IsFirstFault}
use Rattle.fw_lines.specs.Lines.{Said, words_at, said_in, said_lines}
use Rattle.fw_lines.proofs.FaultLaws.{Told, told_exact, none_told, IsSoundSoFar, sound_more, first_fault, none_left, sound_or_refused, sound_or_some_refusal, one_first_refusal}
use Rattle.fw_flow.specs.Dataflow.{Dataflow}
use Rattle.fw_schedule.specs.declared.item.Item.{Item}
use Rattle.fw_schedule.specs.Grammar.{item_of, items_of, schedule_words_fault, schedule_fault, schedule_size_limit, schedule_rules, IsAcceptedSchedule, IsRefusedSchedule}
use Rattle.fw_schedule.specs.Schedule.{step_count, step_limit}

-- the steps of items before others
pub step_count-append : (xs ys : List Item) → step_count (xs ++ ys) ≡ step_count xs + step_count ys
step_count-append [] ys = omega arith
step_count-append (x ∷ xs) ys = omega (arith, step_count-append xs ys)

-- what the code's loop knows: some lines are done, none of them breaks a rule, the items are theirs, and their steps are
-- counted and not too many
pub record IsRead (flow : Dataflow) (lines left : List Said) (items : List Item) (count : ℕ) : Type 0 where
  pub done : List Said
  pub so_far : IsSoundSoFar (Told (schedule_fault flow)) lines left done
  pub value : items ≡ items_of flow done
  pub counted : count ≡ step_count items
  pub few : count ≤ step_limit

-- the rule that the next line breaks
fault_here : (flow : Dataflow) (text : List ℕ) (lines left : List Said) (line : Line) (items : List Item) (count : ℕ) (read : IsRead flow lines left items count)
    → schedule_fault flow read.done (said_in text line) ≡ schedule_words_fault flow count (words_at text line.words)
fault_here flow text lines left line items count read =
    ap (λ n. schedule_words_fault flow n (words_at text line.words)) (ap step_count (sym read.value) ∙ sym read.counted)

-- one line more is read
pub read_more : (flow : Dataflow) (text : List ℕ) (lines left next : List Said) (line : Line) (items new : List Item) (count after : ℕ) → IsRead flow lines left items count → left ≡ said_in text line ∷ next
    → schedule_words_fault flow count (words_at text line.words) ≡ None → new ≡ items ++ items_of flow (said_in text line ∷ [])
    → after ≡ count + step_count (items_of flow (said_in text line ∷ [])) → after ≤ step_limit
    → IsRead flow lines next new after
read_more flow text lines left next line items new count after read e sound value total few =
    let own = items_of flow (said_in text line ∷ []) in
    record {
      done = read.done ++ said_in text line ∷ [];
      so_far = sound_more (Told (schedule_fault flow)) lines read.done (said_in text line) next (subst (λ ls. IsSoundSoFar (Told (schedule_fault flow)) lines ls read.done) e read.so_far) (none_told _ (fault_here flow text lines left line items count read ∙ sound));
      value = value ∙ ap (λ is. is ++ own) read.value ∙ sym (filter_map-append (λ (l : Said). result_ok (item_of flow l.words)) read.done (said_in text line ∷ []));
      counted = total ∙ ap (λ n. n + step_count own) read.counted ∙ sym (step_count-append items own) ∙ ap step_count (sym value);
      few = few;
    }

-- the next line is the first that breaks a rule
pub read_broken : (flow : Dataflow) (text : List ℕ) (lines left next : List Said) (line : Line) (items : List Item) (count : ℕ) (refusal : Refusal) → IsRead flow lines left items count → left ≡ said_in text line ∷ next
    → schedule_words_fault flow count (words_at text line.words) ≡ Some refusal.code → refusal.line ≡ line.number
    → IsFirstFault (Told (schedule_fault flow)) lines refusal
read_broken flow text lines left next line items count refusal read e broken number =
    first_fault (Told (schedule_fault flow)) lines read.done (said_in text line) next refusal (subst (λ ls. IsSoundSoFar (Told (schedule_fault flow)) lines ls read.done) e read.so_far) (fault_here flow text lines left line items count read ∙ broken) number

-- a short text of which all lines are read is accepted
pub read_accepted : (flow : Dataflow) (text : List ℕ) (left : List Said) (items : List Item) (count : ℕ) → length text ≤ schedule_size_limit → IsRead flow (said_lines text) left items count → left ≡ []
    → IsAcceptedSchedule text flow items
read_accepted flow text left items count size read e =
    let all = none_left (Told (schedule_fault flow)) (said_lines text) read.done (subst (λ ls. IsSoundSoFar (Told (schedule_fault flow)) (said_lines text) ls read.done) e read.so_far) in
    record { sound = record { size = size; lines = all.0 }; value = read.value ∙ ap (items_of flow) all.1 }

-- an accepted text is not refused
pub accepted_or_refused : (text : List ℕ) (flow : Dataflow) (items : List Item) (refusal : Refusal) → IsAcceptedSchedule text flow items → IsRefusedSchedule text flow refusal → ⊥
accepted_or_refused text flow items refusal accepted = sound_or_refused (schedule_rules flow) text refusal accepted.sound

-- an accepted text has one value
pub one_value : (text : List ℕ) (flow : Dataflow) (first second : List Item) → IsAcceptedSchedule text flow first → IsAcceptedSchedule text flow second → first ≡ second
one_value text flow first second a b = a.value ∙ sym b.value

-- a text is refused by one rule at one line
pub one_refusal : (text : List ℕ) (flow : Dataflow) (first second : Refusal) → IsRefusedSchedule text flow first → IsRefusedSchedule text flow second → first ≡ second
one_refusal text flow first second = one_first_refusal (schedule_rules flow) text first second (told_exact (schedule_fault flow))

-- each text is accepted or refused
pub some_answer : (text : List ℕ) (flow : Dataflow) → ((items : List Item) × IsAcceptedSchedule text flow items) ⊎ ((refusal : Refusal) × IsRefusedSchedule text flow refusal)
some_answer text flow = elim (sound_or_some_refusal (schedule_rules flow) text (told_exact (schedule_fault flow))) [
  | inl sound ↦ inl (items_of flow (said_lines text), record { sound = sound; value = refl })
  | inr refused ↦ inr refused
]
