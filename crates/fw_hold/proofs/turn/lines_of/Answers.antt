use Rattle.std.proofs.Common.{◌≡◌, ◌<◌, ◌^◌, length, sym, subst, ◌∙◌}
use Rattle.fw_bytes.specs.Exact.{AreBytes}
use Rattle.fw_hold.proofs.turn.lines_of.Goals as goal

pub returns-clause-lines : goal.returns-clause-lines
returns-clause-lines c =
    let same : c.deref.result.now ≡ c.of.result = c.deref.ensures.value ∙ sym c.of.ensures in
    record { few = subst (λ t. length t < 2 ^ 64) same c.deref.type_inv.0; bytes = subst AreBytes same c.are_bytes.ensures }
