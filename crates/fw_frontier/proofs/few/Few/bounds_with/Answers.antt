use Rattle.std.proofs.Common.{sym}
use Rattle.fw_frontier.proofs.FewLaws.{one_join}
use Rattle.fw_frontier.proofs.few.Few.bounds_with.Goals as goal

pub returns-in-One-other : goal.returns-in-One-other
returns-in-One-other c = λ b h k.
    rw (c.in-One.is, c.in-One-other.is, c.lub.ensures)
    (one_join b c.in-One.mine c.in-One-other.others (rw c.in-One.is at h).0 (rw c.in-One-other.is at k).0)

pub returns : goal.returns
returns c = λ b h k.
    rw (sym c.as_slice.ensures, sym c.as_slice-2.ensures)
    (c.in_ok-outside.ensures b (rw c.as_slice.ensures h) (rw c.as_slice-2.ensures k))
