use Rattle.std.proofs.Common.{subst}
use Rattle.fw_bag.specs.Bag.{BagState}
use Rattle.fw_bag.specs.Rec.{IsAscending}
use Rattle.fw_bag.proofs.CountLaws.{IsAscending-expand}
use Rattle.fw_bag.proofs.bag.Bag.len.Goals as goal

pub returns-clause-ascending : goal.returns-clause-ascending
returns-clause-ascending c =
    let recs_of : BagState → Type 0 = λ b. IsAscending b.recs in
    subst recs_of c.self.view_is (IsAscending-expand c.self.inside.counts.entries c.self.invariant.0.ordered)
