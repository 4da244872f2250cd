use Rattle.std.proofs.Common.{◌∙◌, ◌++◌, ap}
use Rattle.std.specs.Fmt.{decimal}
use Rattle.std.specs.Prelude.{codes}
use Rattle.fw_running.specs.EffectText.{outcome_text}
use Rattle.fw_running.specs.Steps.{outcome_of}
use Rattle.fw_relive.proofs.OpeningLaws.{resumed-parts}
use Rattle.fw_relive.proofs.opening.put_resumed.Goals as goal

pub returns : goal.returns
returns c =
    let resumed = c.args.resumed.now in
    let old = c.args.into.now.items in
    resumed-parts old (codes "resumed at ") (decimal resumed.steps) (codes "\n") resumed.lines
    (outcome_text c.args.flow.now (outcome_of resumed.stepped)) c.put.new.into.items c.put-2.new.into.items c.write_outcome.new.into.items
    (c.in_ok-put.ensures ∙ ap (λ bytes. old ++ bytes) (c.as_bytes.ensures.value ∙ c.in_ok-line.ensures.ok))
    (c.in_ok-put-2.ensures ∙ ap (λ bytes. c.put.new.into.items ++ bytes) c.as_slice.ensures) c.in_ok-write_outcome.ensures
