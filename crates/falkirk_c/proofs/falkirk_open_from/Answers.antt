use Rattle.std.proofs.Common.{refl, ap, ◌∙◌, sym, None, Some, subst, Option}
use Rattle.fw_talk.specs.declared.talk.Talk.{Talk}
use Rattle.falkirk_c.specs.Calls.{MayOpen, OpensFrom}
use Rattle.falkirk_c.proofs.Laws.{known}
use Rattle.falkirk_c.proofs.falkirk_open_from.Goals as goal

pub start-requires : goal.start-requires
start-requires c = subst (λ (old : Option Talk). MayOpen c.args.flow.now old) (c.in-Some.ensures.taken ∙ ap Some (sym c.deref_mut.ensures.value)) c.requires

pub returns-in-None : goal.returns-in-None
returns-in-None c =
    known (λ old new. OpensFrom c.args.flow.now c.args.rests old 3 new) _ _ None None c.in-None.ensures.taken c.take.ensures.emptied (refl, refl)

pub returns-in-Some : goal.returns-in-Some
returns-in-Some c =
    known (λ old new. OpensFrom c.args.flow.now c.args.rests old c.code_of-code.result new) _ _ (Some c.deref_mut.result.now) (Some _)
    (c.in-Some.ensures.taken ∙ ap Some (sym c.deref_mut.ensures.value)) c.put.ensures
    (c.start.result, c.code_of-code.ensures, c.start.ensures)
