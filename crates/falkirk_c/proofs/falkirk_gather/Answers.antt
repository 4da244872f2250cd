use Rattle.std.proofs.Common.{refl, sym, ◌∙◌, ap, subst, Option, Some, inl}
use Rattle.fw_talk.specs.declared.talk.Talk.{Talk}
use Rattle.falkirk_c.specs.Calls.{Gathers}
use Rattle.falkirk_c.proofs.Laws.{gathers-not}
use Rattle.falkirk_c.proofs.falkirk_gather.Goals as goal

pub returns-in-Ok : goal.returns-in-Ok
returns-in-Ok c =
    subst (λ (new : Option Talk). Gathers c.args.session.now.holds 0 new) (sym (c.put.ensures ∙ ap Some c.in-Ok.ensures)) (inl (refl, c.gathering.ensures))

pub returns-in-Err : goal.returns-in-Err
returns-in-Err c = gathers-not c.args.session.now.holds
