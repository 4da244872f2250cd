use Rattle.std.proofs.Common.{refl, ap, ◌∙◌, None, Some, false, sym, subst, Option}
use Rattle.fw_talk.specs.declared.talk.Talk.{Talk}
use Rattle.falkirk_c.specs.Calls.{Shows}
use Rattle.falkirk_c.proofs.falkirk_writes.Goals as goal

pub returns-in-None-clause-shown : goal.returns-in-None-clause-shown
returns-in-None-clause-shown c =
    subst (λ (old : Option Talk). Shows c.args.place old c.args.out.now false c.args.out.now) (sym c.in-None.ensures.taken) (refl, refl)

pub returns-in-Some-clause-shown : goal.returns-in-Some-clause-shown
returns-in-Some-clause-shown c =
    subst (λ (old : Option Talk). Shows c.args.place old c.args.out.now c.show-found.result c.show-found.new.out)
    (sym (c.in-Some.ensures.taken ∙ ap Some (sym c.deref.ensures))) c.show-found.ensures
