use Rattle.std.proofs.lemmas.Bool.{leb-true, le-leb}
use Rattle.fw_flow.proofs.SentTableLaws.{takes-epoch}
use Rattle.fw_flow.proofs.sent_table.SentTable.takes.Goals as goal

pub returns-in-Some : goal.returns-in-Some
returns-in-Some c =
    let taken = takes-epoch c.self.inside.entries.items c.deref.result.now c.args.self.now c.in-Some.last.now c.args.epoch c.deref.ensures.value c.self.view_is
    c.self.invariant.in_order c.in-Some.ensures.value in
    (λ le. taken.0 (leb-true _ _ le), λ h. le-leb _ _ (taken.1 h))
