use Rattle.std.proofs.Common.{IfSome, ◌≡◌, ◌∙◌, subst}
use Rattle.fw_flow_text.specs.Grammar.{Finds, capped_words}
use Rattle.fw_flow_text.specs.Spelled.{ending_words, IsName}
use Rattle.fw_flow_text.proofs.FoundLaws.{no_other_word, no_select}
use Rattle.fw_flow_text.proofs.node.select.Goals as goal

pub returns-in_default-2 : goal.returns-in_default-2
returns-in_default-2 c =
    no_select c.args.kind.now _ (capped_words c.args.text.now c.in-Some.rest.now) c.in-Some.selection (no_other_word _ _ c.ne.result c.ne.ensures c.if-ne.false ∙ c.as_slice.ensures) c.in-Some.ensures.only
    (subst (Finds (λ end. (capped_words c.args.text.now c.in-Some.rest.now ≡ ending_words end.0 end.1) × IfSome end.0 IsName)) c.in_default-2.is c.in_ok-within.ensures)
