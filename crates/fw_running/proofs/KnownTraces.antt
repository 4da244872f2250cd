-- Traces that are known above a floor are known in the states that steps lead to.
use Rattle.std.proofs.Common.{◌≡◌, ◌≢◌, ℕ, ◌<◌, length, sym, ap, subst, ◌∙◌}
use Rattle.fw_flow.specs.declared.step.Step.{Step}
use Rattle.fw_flow.specs.declared.step.Step.TheVariants.{Collect}
use Rattle.fw_flow.specs.Dataflow.{System}
use Rattle.fw_flow.specs.WellFormed.{IsWellFormedSystem}
use Rattle.fw_model.specs.Machine.{Machine}
use Rattle.fw_model.specs.Reached.{IsReached}
use Rattle.fw_model.specs.Steps.{Effect, LeadsTo}
use Rattle.fw_model.proofs.FloorLaws.{floors-stay}
use Rattle.fw_progress.specs.declared.traces.Traces.{Traces}
use Rattle.fw_stands.specs.Parts.{IsTraceIn}
use Rattle.fw_running.specs.Stands.{KnowsTraces}

-- a step that leaves the low watermark is no collection
same_low-no_collection : (sys : System) (state : Machine) (step : Step) (next : Machine) (effect : Effect) → next.low ≡ state.low → LeadsTo sys state step next effect
    → step ≢ Collect
same_low-no_collection sys state step next effect low leads e =
    let t = subst (λ s. LeadsTo sys state s next effect) e leads in
    t.2 (sym (ap (λ (m : Machine). m.low) t.3) ∙ low)

-- where a step leaves the low watermark, a floor stays one, so that traces are known which are those of the next state above it
pub knows-next : (sys : System) (state : Machine) (step : Step) (next : Machine) (effect : Effect) (old new : Traces) → IsWellFormedSystem sys → IsReached sys state
    → next.low ≡ state.low → LeadsTo sys state step next effect → (k : KnowsTraces sys state old)
    → ((p : ℕ) → p < length sys.flow.nodes → IsTraceIn sys k.floor state p old → IsTraceIn sys k.floor next p new) → KnowsTraces sys next new
knows-next sys state step next effect old new w r low leads k keeps = record {
  floor = k.floor;
  above = floors-stay sys state k.floor step next effect w r k.above (same_low-no_collection sys state step next effect low leads) leads;
  each = λ p l. keeps p l (k.each p l);
}
