use Rattle.std.proofs.Common.{List, ℕ, inl, inr, refl, sym, subst, ◌∙◌, ap}
use Rattle.fw_talk.specs.declared.talk.Speaker.{Speaker}
use Rattle.fw_talk.specs.declared.talk.Speaker.TheVariants.{Kept}
use Rattle.fw_talk.specs.Lasting.{IsOpenedFrom, MayOpenFrom}
use Rattle.fw_talk.proofs.talk.Talk.start.Goals as goal

pub returns-in-Ok : goal.returns-in-Ok
returns-in-Ok c =
    subst (λ (before : Speaker). IsOpenedFrom c.args.text.now c.args.rests before c.args.self.now.answer.items c.reply.result c.in-Ok.talk.speaker c.in-Ok.talk.answer.items)
    (ap Kept c.replace-records.ensures.value ∙ sym c.in-Kept.is) (c.reply.ensures, inl c.in-Ok.ensures)

pub started-requires : goal.started-requires
started-requires c =
    subst (λ (before : Speaker). MayOpenFrom c.args.text.now before) (sym (ap Kept c.replace-records.ensures.value ∙ sym c.in-Kept.is)) c.requires
