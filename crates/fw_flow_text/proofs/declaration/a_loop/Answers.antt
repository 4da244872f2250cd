use Rattle.std.proofs.Common.{IfOk, ◌∙◌, subst}
use Rattle.std.proofs.lemmas.List.{take_rest}
use Rattle.fw_flow_text.specs.Grammar.{Finds, AreWordsOf}
use Rattle.fw_flow_text.proofs.FoundLaws.{no_other_word, loop_headed}
use Rattle.fw_flow_text.proofs.declaration.a_loop.Goals as goal

pub returns : goal.returns
returns c =
    subst (λ ws. IfOk c.loop_of.result (Finds (AreWordsOf ws)))
    (loop_headed c.args.text.now c.args.words.now _ (record { from = 0; to = 0 }) c.capped-2.result.now c.capped.result.now c.capped-3.result.now c.in-len3-up.len_at_least (take_rest c.args.words.now 3) c.capped-2.ensures c.capped.ensures c.capped-3.ensures
    (no_other_word _ _ c.ne.result c.ne.ensures c.if-ne.false ∙ c.as_slice.ensures)) c.loop_of.ensures
