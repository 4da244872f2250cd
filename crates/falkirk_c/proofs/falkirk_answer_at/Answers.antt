use Rattle.std.proofs.Common.{refl, ap, ◌∙◌, length, false, true, None, Some, sym, subst, Option}
use Rattle.fw_talk.specs.declared.talk.Talk.{Talk}
use Rattle.falkirk_c.specs.Calls.{Counts}
use Rattle.falkirk_c.proofs.falkirk_answer_at.Goals as goal

pub returns-in-None-clause-counted : goal.returns-in-None-clause-counted
returns-in-None-clause-counted c = subst (λ (old : Option Talk). Counts old c.args.out.now false c.args.out.now) (sym c.in-None.ensures.taken) (refl, refl)

pub returns-in-Some-clause-counted : goal.returns-in-Some-clause-counted
returns-in-Some-clause-counted c =
    subst (λ (old : Option Talk). Counts old c.args.out.now true (record { at = c.answer_start-out.result; len = length c.answer.result.now })) (sym c.in-Some.ensures.taken) (refl, ap length (c.answer.ensures ∙ ap (λ (talk : Talk). talk.answer.items) c.deref-in-Some.ensures))
