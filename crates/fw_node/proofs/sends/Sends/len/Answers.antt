use Rattle.std.proofs.Common.{sym, ap, ◌∙◌, length}
use Rattle.fw_node.specs.Sends.{sends_list}
use Rattle.fw_node.proofs.PastLaws.{at_numbers-length}
use Rattle.fw_node.proofs.sends.Sends.len.Goals as goal

pub returns-in-Numbered : goal.returns-in-Numbered
returns-in-Numbered c =
    c.len-in-Numbered.ensures ∙ sym (at_numbers-length c.in-Numbered.sent.first c.in-Numbered.sent.recs)
    ∙ sym (ap (λ s. length (sends_list s)) c.in-Numbered.is)
