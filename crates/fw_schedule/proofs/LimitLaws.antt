-- What is within the limit of steps.
use Rattle.std.proofs.Common.{[], ◌∷◌, ◌++◌, ◌≡◌, ℕ, ◌+◌, ◌≤◌, List, Result, Ok, Err, sym, ap, ◌∙◌, arith}
use Rattle.std.specs.List.{cons_option}
use Rattle.std.specs.Result.{result_ok}
use Rattle.std.proofs.lemmas.Bool.Decides.{nat_tests}
use Rattle.fw_lines.specs.declared.refusal.Code.{Code}
use Rattle.fw_schedule.specs.declared.item.Item.{Item}
use Rattle.fw_schedule.specs.Grammar.{within_limit}
use Rattle.fw_schedule.specs.Schedule.{steps_in, step_count, step_limit}

-- what is within the limit is what was asked for
pub within-same : (count : ℕ) (asked : Result Item Code) (item : Item) → Ok item ≡ within_limit count asked → asked ≡ Ok item
within-same count (Ok it) item is = grind (arith, nat_tests, is)
within-same count (Err code) item is = grind (arith, is)

-- and asks for no more steps than are left
pub within-few : (count : ℕ) (asked : Result Item Code) (item : Item) → Ok item ≡ within_limit count asked → count + steps_in item ≤ step_limit
within-few count (Ok it) item is = grind (arith, nat_tests, is)
within-few count (Err code) item is = grind (arith, is)

-- a list with the item that is asked for behind it
pub one-more : (items : List Item) (asked : Result Item Code) (item : Item) → asked ≡ Ok item → items ++ item ∷ [] ≡ items ++ cons_option (result_ok asked) []
one-more items asked item is = ap (λ r. items ++ cons_option (result_ok r) []) (sym is)

-- the steps of the item that is asked for, alone
pub one-counted : (asked : Result Item Code) (item : Item) → asked ≡ Ok item → steps_in item ≡ step_count (cons_option (result_ok asked) [])
one-counted asked item is = let alone : steps_in item ≡ steps_in item + 0 = omega arith in alone ∙ ap (λ r. step_count (cons_option (result_ok r) [])) (sym is)
