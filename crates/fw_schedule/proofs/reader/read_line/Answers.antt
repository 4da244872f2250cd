use Rattle.std.proofs.Common.{[], ◌∷◌, ◌++◌, ◌≡◌, ℕ, ◌+◌, ◌≤◌, List, Result, Ok, Err, refl, sym, ap, ◌∙◌, subst, arith}
use Rattle.std.specs.List.{cons_option}
use Rattle.std.specs.Result.{result_ok}
use Rattle.fw_lines.specs.declared.refusal.Code.{Code}
use Rattle.fw_lines.specs.Lines.{words_at}
use Rattle.fw_schedule.specs.declared.item.Item.{Item}
use Rattle.fw_schedule.specs.Grammar as spec
use Rattle.fw_schedule.specs.Schedule.{step_count, step_limit}
use Rattle.fw_schedule.proofs.LimitLaws.{within-same, within-few, one-more, one-counted}
use Rattle.fw_schedule.proofs.reader.read_line.Goals as goal

pub overflow_add-after : goal.overflow_add-after
overflow_add-after c =
    let asked : Result Item Code = spec.item_of c.args.flow.now (words_at c.args.text.now c.args.line.now.words) in
    let is : Ok c.in-Ok.item ≡ spec.within_limit c.args.count asked = sym c.in-Ok.is ∙ c.in_ok-item.ensures ∙ ap (λ ws. spec.within_limit c.args.count (spec.item_of c.args.flow.now (words_at c.args.text.now ws))) c.as_slice-words.ensures in
    let few : c.args.count + c.steps.result ≤ step_limit = subst (λ n. c.args.count + n ≤ step_limit) (sym c.steps.ensures) (within-few c.args.count asked c.in-Ok.item is) in
    omega (arith, few)

pub returns-in_ok-push-in-Ok-clause-value : goal.returns-in_ok-push-in-Ok-clause-value
returns-in_ok-push-in-Ok-clause-value c =
    let asked : Result Item Code = spec.item_of c.args.flow.now (words_at c.args.text.now c.args.line.now.words) in
    let is : Ok c.in-Ok.item ≡ spec.within_limit c.args.count asked = sym c.in-Ok.is ∙ c.in_ok-item.ensures ∙ ap (λ ws. spec.within_limit c.args.count (spec.item_of c.args.flow.now (words_at c.args.text.now ws))) c.as_slice-words.ensures in
    c.in_ok-push-in-Ok.ensures.ok ∙ one-more c.args.items.now asked c.in-Ok.item (within-same c.args.count asked c.in-Ok.item is)

pub returns-in_ok-push-in-Ok-clause-total : goal.returns-in_ok-push-in-Ok-clause-total
returns-in_ok-push-in-Ok-clause-total c =
    let asked : Result Item Code = spec.item_of c.args.flow.now (words_at c.args.text.now c.args.line.now.words) in
    let is : Ok c.in-Ok.item ≡ spec.within_limit c.args.count asked = sym c.in-Ok.is ∙ c.in_ok-item.ensures ∙ ap (λ ws. spec.within_limit c.args.count (spec.item_of c.args.flow.now (words_at c.args.text.now ws))) c.as_slice-words.ensures in
    ap (λ n. c.args.count + n) (c.steps.ensures ∙ one-counted asked c.in-Ok.item (within-same c.args.count asked c.in-Ok.item is))

pub returns-in_ok-push-in-Ok-clause-few : goal.returns-in_ok-push-in-Ok-clause-few
returns-in_ok-push-in-Ok-clause-few c =
    let asked : Result Item Code = spec.item_of c.args.flow.now (words_at c.args.text.now c.args.line.now.words) in
    let is : Ok c.in-Ok.item ≡ spec.within_limit c.args.count asked = sym c.in-Ok.is ∙ c.in_ok-item.ensures ∙ ap (λ ws. spec.within_limit c.args.count (spec.item_of c.args.flow.now (words_at c.args.text.now ws))) c.as_slice-words.ensures in
    subst (λ n. c.args.count + n ≤ step_limit) (sym c.steps.ensures) (within-few c.args.count asked c.in-Ok.item is)
