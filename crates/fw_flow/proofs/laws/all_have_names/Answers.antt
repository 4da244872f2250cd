use Rattle.std.proofs.Common.{◌≡◌, true}
use Rattle.fw_lemmas.proofs.Each.{each-taken}
use Rattle.fw_flow.specs.Builder.{has_names}
use Rattle.fw_flow.specs.Declaring.{Declared}
use Rattle.fw_flow.proofs.laws.all_have_names.Goals as goal

pub loop-one-preserved : goal.loop-one-preserved
loop-one-preserved c =
    each-taken (λ (d : Declared). has_names d.declaration ≡ true) c.args.declared.now c.loop-one.one-index c.one-item.result c.loop-one-test.true c.one-item.is c.loop-one.invariant c.tells_names.ensures
