use Rattle.std.proofs.Common.{sym, ◌∙◌}
use Rattle.fw_lines.proofs.SourceLaws.{node_of-named}
use Rattle.fw_lines.proofs.sources.SourceNames.node_spelled.Goals as goal

pub returns : goal.returns
returns c = rw (← c.self.view_is) (c.copied.ensures ∙ c.get.ensures.value ∙ sym (node_of-named c.self.inside.nodes.entries c.args.name.now))
