use Rattle.std.proofs.Common.{ap, ◌∙◌}
use Rattle.fw_disk.specs.RunLines.{digests_told, whole_lines}
use Rattle.fw_disk.proofs.TextLaws.{told_text}
use Rattle.fw_disk.proofs.lines.RunLines.text.Goals as goal

pub returns-clause-told : goal.returns-clause-told
returns-clause-told c are id =
    ap (λ text. digests_told (whole_lines text) id) c.in_ok-text.ensures ∙ told_text c.args.self.now.told.entries are.0 are.1 id
