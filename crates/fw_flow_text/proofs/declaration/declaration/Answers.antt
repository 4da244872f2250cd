use Rattle.std.proofs.Common.{IfOk, ◌∙◌, subst}
use Rattle.std.proofs.lemmas.List.{take_rest}
use Rattle.fw_flow_text.specs.Grammar.{Finds, AreWordsOf}
use Rattle.fw_flow_text.proofs.FoundLaws.{same_word, headed}
use Rattle.fw_flow_text.proofs.declaration.declaration.Goals as goal

pub returns-then-eq : goal.returns-then-eq
returns-then-eq c =
    subst (λ ws. IfOk c.node.result (Finds (AreWordsOf ws)))
    (headed c.args.text.now c.args.words.now _ (record { from = 0; to = 0 }) c.capped-first.result.now _ c.in-len1-up.len_at_least (take_rest c.args.words.now 1) c.capped-first.ensures (same_word _ _ c.eq.result c.eq.ensures c.if-eq.true ∙ c.as_slice.ensures)) c.node.ensures

pub returns-then-eq-2 : goal.returns-then-eq-2
returns-then-eq-2 c =
    subst (λ ws. IfOk c.edge.result (Finds (AreWordsOf ws)))
    (headed c.args.text.now c.args.words.now _ (record { from = 0; to = 0 }) c.capped-first.result.now _ c.in-len1-up.len_at_least (take_rest c.args.words.now 1) c.capped-first.ensures (same_word _ _ c.eq-else-eq.result c.eq-else-eq.ensures c.if-eq-2.true ∙ c.as_slice-else-eq.ensures)) c.edge.ensures

pub returns-then-eq-3 : goal.returns-then-eq-3
returns-then-eq-3 c =
    subst (λ ws. IfOk c.a_loop.result (Finds (AreWordsOf ws)))
    (headed c.args.text.now c.args.words.now _ (record { from = 0; to = 0 }) c.capped-first.result.now _ c.in-len1-up.len_at_least (take_rest c.args.words.now 1) c.capped-first.ensures (same_word _ _ c.eq-else-eq-2.result c.eq-else-eq-2.ensures c.if-eq-3.true ∙ c.as_slice-else-eq-2.ensures)) c.a_loop.ensures
