use Rattle.std.proofs.Common.{[], ◌∷◌, ◌∙◌, sym, ap, subst}
use Rattle.fw_frontier.specs.Front.{inside}
use Rattle.fw_flow.specs.SentTable.{EpochsAscend, counts_of}
use Rattle.fw_flow.proofs.SentTableLaws.{part-next}
use Rattle.fw_flow.proofs.sent_table.SentTable.inside.Goals as goal

pub push-requires : goal.push-requires
push-requires c =
    let es = c.deref-entry-items.result.now in
    let in_order = subst (λ xs. EpochsAscend (counts_of xs)) (sym c.deref-entry-items.ensures.value) c.self.invariant.in_order in
    let taken = ap (inside c.args.f.now) (sym c.new.ensures) ∙ sym c.contains.ensures ∙ c.if-contains.true in
    part-next (λ entry. inside c.args.f.now (entry.0 ∷ [])) es c.loop-entry.entry-index _ _ c.loop-entry.invariant in_order c.loop-entry-test.true taken
