use Rattle.std.proofs.Common.{subst}
use Rattle.std.proofs.lemmas.List.{take_rest}
use Rattle.fw_flow_text.specs.Grammar.{Finds}
use Rattle.fw_flow_text.specs.Spelled.{AreSplitWords}
use Rattle.fw_flow_text.proofs.FoundLaws.{no_node}
use Rattle.fw_flow_text.proofs.declaration.node.Goals as goal

pub returns-in_default-3 : goal.returns-in_default-3
returns-in_default-3 c =
    no_node c.args.text.now c.args.words.now _ (record { from = 0; to = 0 }) c.capped-2.result.now c.in-len2-up.len_at_least (take_rest c.args.words.now 2) c.capped-2.ensures
    (subst (Finds (λ found. AreSplitWords c.capped-2.result.now _ found.0 found.1)) c.in_default-3.is c.in_ok-form.ensures)
