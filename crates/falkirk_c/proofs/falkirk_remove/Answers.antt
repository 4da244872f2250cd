use Rattle.std.proofs.Common.{refl, ap, ◌∙◌, sym, None, Some}
use Rattle.falkirk_c.specs.Calls.{Keeps}
use Rattle.falkirk_c.proofs.Laws.{known}
use Rattle.falkirk_c.proofs.falkirk_remove.Goals as goal

pub returns-in-None : goal.returns-in-None
returns-in-None c = known (λ old new. Keeps c.args.id None old 3 new) _ _ None None c.in-None.ensures.taken c.take.ensures.emptied (refl, refl)

pub returns-in-Some : goal.returns-in-Some
returns-in-Some c =
    known (λ old new. Keeps c.args.id None old c.code_of-code.result new) _ _ (Some c.deref_mut.result.now) (Some _)
    (c.in-Some.ensures.taken ∙ ap Some (sym c.deref_mut.ensures.value)) c.put.ensures
    (c.remove_kept.result, c.code_of-code.ensures, c.remove_kept.ensures.answer, c.remove_kept.ensures.told)
