use Rattle.fw_talk.specs.declared.talk.Talk.{Talk}
use Rattle.fw_talk.specs.Talk.{IsOpenedTalk}
use Rattle.falkirk_c.proofs.Laws.{if-ok-same}
use Rattle.falkirk_c.proofs.opened.Goals as goal

pub returns : goal.returns
returns c = if-ok-same (λ (talk : Talk). IsOpenedTalk c.args.flow.now c.args.rests talk.speaker talk.answer.items) (λ b. b.value)
    c.boxed.result _ c.in_ok-open.ensures c.boxed.ensures
