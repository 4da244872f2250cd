use Rattle.std.proofs.Common.{sym, ◌∙◌, subst}
use Rattle.fw_bag.specs.Keyed.{sorted_recs}
use Rattle.fw_lines.specs.Batches.{AddsBatch}
use Rattle.fw_flow.proofs.BatchFaultLaws.{stays-kept, stays-added, may_be_added}
use Rattle.fw_flow.proofs.flow.Flow.add_batch.Goals as goal

pub returns-in_err-add-clause-accepted : goal.returns-in_err-add-clause-accepted
returns-in_err-add-clause-accepted c = stays-kept c.args.self.now c.args.batches.now c.add.new.self c.are_bags.ensures c.in_err-add.ensures.err

pub returns-clause-accepted : goal.returns-clause-accepted
returns-clause-accepted c =
    let flow = c.args.self.now in
    let old = c.args.batches.now in
    let new = c.add.new.self in
    let node = c.args.node in
    let recs = sorted_recs c.args.recs.now in
    let may = may_be_added flow old node (sym c.batch_fault.ensures ∙ c.in_default.is) in
    stays-added flow old new node recs c.are_bags-2.ensures (subst (λ n. AddsBatch old new n recs) c.place.ensures c.in_ok-add.ensures.ok) may.0 may.1
