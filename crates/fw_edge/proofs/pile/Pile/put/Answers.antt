use Rattle.std.proofs.Common.{ap, ◌∙◌}
use Rattle.fw_model.specs.SortedMessages.{with_message}
use Rattle.fw_edge.proofs.HeapLaws.{heaped-permuted}
use Rattle.fw_edge.proofs.pile.Pile.put.Goals as goal

pub returns-clause-ok : goal.returns-clause-ok
returns-clause-ok c = heaped-permuted _ _ c.in_ok-push.ensures.permutation ∙ ap (with_message c.args.message) c.self.view_is
