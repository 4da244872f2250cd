use Rattle.std.proofs.Common.{refl, ap, ◌∙◌, None, Some, sym, subst, Option}
use Rattle.fw_talk.specs.declared.talk.Talk.{Talk}
use Rattle.falkirk_c.specs.Calls.{CopiesWrite}
use Rattle.falkirk_c.proofs.falkirk_write_bytes.Goals as goal

pub returns-in-None-clause-copied : goal.returns-in-None-clause-copied
returns-in-None-clause-copied c =
    subst (λ (old : Option Talk). CopiesWrite c.args.place old c.args.room.now 0 c.args.room.now) (sym c.in-None.ensures.taken) (refl, refl)

pub returns-in-Some-clause-copied : goal.returns-in-Some-clause-copied
returns-in-Some-clause-copied c =
    subst (λ (old : Option Talk). CopiesWrite c.args.place old c.args.room.now c.copy_write-count.result c.copy_write-count.new.room)
    (sym (c.in-Some.ensures.taken ∙ ap Some (sym c.deref.ensures)))
    c.copy_write-count.ensures
