use Rattle.std.proofs.lemmas.Result.{IfOk-weaker}
use Rattle.fw_flow.specs.Dataflow.{system_of}
use Rattle.fw_denote.proofs.DenoteLaws.{denotes_on}
use Rattle.fw_denote.proofs.denoting.denote.Goals as goal

pub returns : goal.returns
returns c =
    IfOk-weaker c.of.result _ _
    (λ family e. denotes_on (system_of c.args.flow.now c.args.batches.now) c.settle.new.bags.items family c.in_ok-settle.ensures.held c.in_ok-settle.ensures.denoted e)
    c.of.ensures
