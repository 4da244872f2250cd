use Rattle.std.proofs.Common.{ap, ◌∙◌, sym, subst, Option, inl}
use Rattle.fw_talk.specs.declared.talk.Talk.{Talk}
use Rattle.fw_talk.specs.Talk.{reply_of}
use Rattle.falkirk_c.specs.Calls.{code_of, IsOpenedSo}
use Rattle.falkirk_c.proofs.falkirk_open.Goals as goal

pub returns-in-Ok : goal.returns-in-Ok
returns-in-Ok c = inl (subst (λ (new : Option Talk). IsOpenedSo c.args.flow.now c.args.rests c.code_of-code.result new) (sym c.put.ensures)
    (c.code_of-code.ensures ∙ ap code_of c.reply.ensures ∙ ap (λ (talk : Talk). code_of (reply_of talk.speaker)) c.deref.ensures, c.in-Ok.ensures))
