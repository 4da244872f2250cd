-- What an engine shows, as text.
use Rattle.std.specs.Prelude.{ℕ, List, [], Option, Some, None}
use Rattle.fw_flow.specs.Dataflow.{Dataflow}
use Rattle.fw_running.specs.declared.stepped.Effect.{Effect}
use Rattle.fw_running.specs.EffectText.{effect_text}
use Rattle.fw_running.specs.Steps.{effect_of}

-- the lines of an effect, if there is one
abbrev pub shown_text : Dataflow → Option Effect → List ℕ
shown_text flow None = []
shown_text flow (Some effect) = effect_text flow (effect_of effect)
