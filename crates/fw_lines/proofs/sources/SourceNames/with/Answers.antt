use Rattle.std.proofs.Common.{◌∙◌}
use Rattle.fw_lines.proofs.SourceLaws.{added}
use Rattle.fw_lines.proofs.sources.SourceNames.with.Goals as goal

pub returns : goal.returns
returns c =
    added c.self.inside.nodes c.insert.new.self.entries c.in_ok-name.name c.args.name.now c.args.node c.args.self c.self.view_is (c.in_ok-name.ensures.items ∙ c.as_bytes.ensures.value) c.requires c.in_ok-insert.ensures.entries
