use Rattle.std.proofs.Common.{[], ◌∷◌, sym, ◌∙◌, subst}
use Rattle.std.specs.List.{AllByRecursion}
use Rattle.fw_lemmas.proofs.Each.{each-append}
use Rattle.fw_schedule.specs.Schedule.{IsItemOf}
use Rattle.fw_schedule.proofs.MakingLaws.{is_item_if}
use Rattle.fw_schedule.proofs.schedule.Schedule.add.Goals as goal

pub returns-in_err-push-clause-of_flow : goal.returns-in_err-push-clause-of_flow
returns-in_err-push-clause-of_flow c = λ all. subst (AllByRecursion (IsItemOf c.args.flow.now)) (sym c.in_err-push.ensures.err) all

pub returns-clause-of_flow : goal.returns-clause-of_flow
returns-clause-of_flow c = λ all.
    let flow = c.args.flow.now in
    let item = c.args.item in
    let found = is_item_if flow item (sym c.fault_of.ensures ∙ c.in_default.is) in
    subst (AllByRecursion (IsItemOf flow)) (sym c.in_ok-push.ensures.ok) (each-append (IsItemOf flow) c.args.self.now (item ∷ []) all (found, tt))
