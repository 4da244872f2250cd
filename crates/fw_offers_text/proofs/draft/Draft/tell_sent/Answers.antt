use Rattle.std.proofs.Common.{length, arith, ap}
use Rattle.fw_offers_text.specs.Draft.{Told}
use Rattle.fw_offers_text.proofs.draft.Draft.tell_sent.Goals as goal

pub index_mut-requires : goal.index_mut-requires
index_mut-requires c =
    omega (arith, c.flow_is_well_formed.ensures.senders_declared c.args.edge c.requires.there, c.requires.of_flow.nodes, ap (λ (told : Told). length told.nodes) c.self.view_is, c.self.inside.nodes.ok.0)
