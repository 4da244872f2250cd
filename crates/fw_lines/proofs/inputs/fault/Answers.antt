use Rattle.std.proofs.Common.{◌∙◌}
use Rattle.std.proofs.lemmas.List.{take_rest}
use Rattle.fw_lines.proofs.InputLaws.{fault_in-parts}
use Rattle.fw_lines.proofs.inputs.fault.Goals as goal

pub returns-in-len2-up : goal.returns-in-len2-up
returns-in-len2-up c =
    c.batch_fault.ensures ∙ fault_in-parts c.args.text.now c.args.sources.now c.args.words.now _ c.args.batches.now (record { from = 0; to = 0 }) c.in-len2-up.len_at_least (take_rest c.args.words.now 2)
