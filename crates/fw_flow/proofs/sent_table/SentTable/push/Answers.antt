use Rattle.std.proofs.Common.{◌-◌, ◌^◌, ◌++◌, ◌∷◌, [], true, min, sym, ap, subst, ◌∙◌}
use Rattle.fw_flow.specs.declared.sent_table.SentInEpoch.{SentInEpoch}
use Rattle.fw_flow.specs.Projection.{table_count}
use Rattle.fw_flow.specs.SentTable.{EpochsAscend, AreRunningSums}
use Rattle.fw_flow.proofs.SentTableLaws.{table-more}
use Rattle.fw_flow.proofs.sent_table.SentTable.push.Goals as goal

pub invariant_of-self-2 : goal.invariant_of-self-2
invariant_of-self-2 c =
    let e : SentInEpoch = record { epoch = c.args.epoch; count = c.args.count; total = c.saturating_add-total.result } in
    subst AreRunningSums (sym c.in_ok-push.ensures.items)
    (table-more c.self.inside.entries.items e c.total.result c.self.invariant
    (subst (λ t. EpochsAscend (t ++ (c.args.epoch, c.args.count) ∷ [])) (sym c.self.view_is) c.requires)
    (c.total.ensures ∙ ap (λ t. min (table_count (λ s. true) t) (2 ^ 64 - 1)) (sym c.self.view_is)) c.saturating_add-total.ensures)
