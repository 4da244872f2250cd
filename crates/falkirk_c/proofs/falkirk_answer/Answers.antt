use Rattle.std.proofs.Common.{refl, ap, ◌∙◌, None, Some}
use Rattle.fw_talk.specs.declared.talk.Talk.{Talk}
use Rattle.falkirk_c.specs.Calls.{Copies}
use Rattle.falkirk_c.proofs.Laws.{known, copied-of}
use Rattle.falkirk_c.proofs.falkirk_answer.Goals as goal

pub returns-in-None-clause-copied : goal.returns-in-None-clause-copied
returns-in-None-clause-copied c =
    known (λ old new. Copies old c.args.room.now 0 c.args.room.now) _ _ None None c.in-None.ensures.taken c.take.ensures.emptied (refl, refl)

pub returns-in-Some-clause-copied : goal.returns-in-Some-clause-copied
returns-in-Some-clause-copied c =
    known (λ old new. Copies old c.args.room.now c.copy-count.result c.copy-count.new.room) _ _ (Some c.in-Some.talk.value) (Some c.in-Some.talk.value)
    c.in-Some.ensures.taken c.put.ensures
    (copied-of _ _ c.args.room.now c.copy-count.new.room c.copy-count.result
    (c.answer.ensures ∙ ap (λ (talk : Talk). talk.answer.items) c.deref.ensures) c.copy-count.ensures.count c.copy-count.ensures.copied)
