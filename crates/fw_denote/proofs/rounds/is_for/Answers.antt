use Rattle.std.proofs.Common.{List, subst, refl, ap, ◌∙◌}
use Rattle.fw_flow.specs.Dataflow.{kind_of, sender, bounds_of}
use Rattle.fw_flow.specs.WholeBags.{Timed}
use Rattle.fw_denote.specs.Domains.{AreOut}
use Rattle.fw_denote.proofs.WholeLaws.{within_receiver}
use Rattle.fw_denote.proofs.rounds.is_for.Goals as goal

pub returns-clause-out : goal.returns-clause-out
returns-clause-out c = λ yes.
    let flow = c.args.flow.now in
    subst (λ (rs : List Timed). AreOut flow (kind_of flow (sender flow c.args.edge)) rs) c.as_slice.ensures.value
    (within_receiver flow c.requires c.args.edge (sender flow c.args.edge) refl c.domain.result c.as_slice.result.now
    (c.domain.ensures ∙ ap (bounds_of flow) c.dst-receiver.ensures) (c.are_within.ensures yes))
