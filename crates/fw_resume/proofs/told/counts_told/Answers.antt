use Rattle.std.proofs.Common.{sym, subst}
use Rattle.std.specs.List.{AllByRecursion}
use Rattle.fw_root.specs.OfFlow.{nodes_as}
use Rattle.fw_root.specs.declared.of_flow.Role.TheVariants.{ByCount}
use Rattle.fw_resume.specs.Told.{AreGoodSends, IsOwedOf, IsPendingOf}
use Rattle.fw_resume.proofs.ToldLaws.{all-good, owed-each, pending-each}
use Rattle.fw_resume.proofs.told.counts_told.Goals as goal

pub pending_told-requires : goal.pending_told-requires
pending_told-requires c =
    subst (AllByRecursion (IsPendingOf c.args.flow.now)) (sym c.as_slice.ensures) (pending-each c.args.flow.now c.args.root.now.pending c.requires.sound.pending)

pub owed_told-requires : goal.owed_told-requires
owed_told-requires c =
    subst (AllByRecursion (IsOwedOf c.args.flow.now)) (sym c.as_slice-2.ensures) (owed-each c.args.flow.now c.args.root.now.owed c.requires.sound.owed)

pub sent_told-requires : goal.sent_told-requires
sent_told-requires c =
    subst (AllByRecursion AreGoodSends) (sym c.as_slice-4.ensures)
    (all-good c.args.flow.now (nodes_as c.args.flow.now ByCount) c.args.root.now.sends c.requires.sound.sends)
