use Rattle.std.proofs.Common.{ap, sym, ◌∙◌}
use Rattle.fw_lines.specs.Batches.{recs_of_bags}
use Rattle.fw_lines.proofs.BatchLaws.{batches_at-entries, recs_found}
use Rattle.fw_lines.proofs.batches.Batches.of.Goals as goal

pub returns-in-Some : goal.returns-in-Some
returns-in-Some c = rw (← c.self.view_is) (ap recs_of_bags c.as_slice.ensures.value ∙ ap recs_found c.in-Some.ensures.value ∙ sym (batches_at-entries c.self.inside.of_node.entries c.args.node))

pub returns-in-None : goal.returns-in-None
returns-in-None c = rw (← c.self.view_is) (ap recs_found c.in-None.ensures.value ∙ sym (batches_at-entries c.self.inside.of_node.entries c.args.node))
