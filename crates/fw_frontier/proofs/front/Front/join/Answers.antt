use Rattle.std.proofs.Common.{sym}
use Rattle.fw_frontier.proofs.CanonicalLaws.{in_domain-canonical}
use Rattle.fw_frontier.proofs.front.Front.join.Goals as goal

pub returns : goal.returns
returns c = λ h k.
    rw (sym c.self.view_is, sym c.other.view_is)
    (c.in_ok-outside.ensures (rw c.self.view_is (in_domain-canonical c.args.bounds.now c.args.self.now h)) (rw c.other.view_is (in_domain-canonical c.args.bounds.now c.args.other.now k)))
