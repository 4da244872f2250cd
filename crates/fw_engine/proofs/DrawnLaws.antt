-- What a step draws, by what its parts draw.
use Rattle.std.proofs.Common.{◌≡◌, ℕ, ◌≤◌, Option, Result, Ok, Err, length, subst, arith}
use Rattle.fw_flow.specs.Dataflow.{Dataflow}
use Rattle.fw_flow.specs.WellFormed.{IsWellFormed}
use Rattle.fw_keep.specs.Stored.{Records}
use Rattle.fw_running.specs.declared.fault.EngineFault.{EngineFault}
use Rattle.fw_running.specs.declared.running.Running.{Running}
use Rattle.fw_running.specs.declared.stepped.Stepped.{Stepped}
use Rattle.fw_running.specs.declared.stepped.Stepped.TheVariants.{Did, Idle}
use Rattle.fw_running.specs.Drawn.{DrawsAtMost, may_draw, supply}
use Rattle.fw_running.proofs.DrawnLaws.{draws_from, draws_more, draws_next, draws_same}
use Rattle.fw_engine.specs.Engine.{StepDraws}

-- there is a node
some-node : (flow : Dataflow) → IsWellFormed flow → 1 ≤ length flow.nodes
some-node flow w = let there = w.input.1 in omega (arith, there)

more-allowed : (m n : ℕ) (result : Result Stepped EngineFault) → m ≤ n → may_draw m result ≤ may_draw n result
more-allowed m n (Ok Idle) more = omega arith
more-allowed m n (Ok (Did shown)) more = more
more-allowed m n (Err e) more = more

-- it draws none, and leaves the store
pub draws-none : (old new : Running) (records : Option Records) (result : Result Stepped EngineFault) → supply new.parts.keep ≡ supply old.parts.keep
    → StepDraws old records result new records
draws-none old new records result same = draws_same same

-- one id at most
pub draws-one : (old new : Running) (before after : Option Records) (result : Result Stepped EngineFault) → IsWellFormed old.flow
    → DrawsAtMost (may_draw 1 result) old.parts.keep new.parts.keep before after → StepDraws old before result new after
draws-one old new before after result w d = draws_more d (more-allowed 1 (length old.flow.nodes) result (some-node old.flow w))

-- a search came first
pub draws-behind : (old mid new : Running) (before after : Option Records) (result : Result Stepped EngineFault) → mid.flow ≡ old.flow
    → supply mid.parts.keep ≡ supply old.parts.keep → StepDraws mid before result new after → StepDraws old before result new after
draws-behind old mid new before after result flow same d =
    draws_from (subst (λ (flow : Dataflow). DrawsAtMost (may_draw (length flow.nodes) result) mid.parts.keep new.parts.keep before after) flow d) same

-- it was idle up to here, and what comes later draws none
pub draws-later : (old mid new : Running) (before after : Option Records) (result : Result Stepped EngineFault) → StepDraws old before (Ok Idle) mid after
    → supply new.parts.keep ≡ supply mid.parts.keep → StepDraws old before result new after
draws-later old mid new before after result d same = draws_more (draws_next d same) (omega arith)

-- a notification draws one id at most, where a search came first: as many as a step that is not idle may draw
pub draws-notified : (old mid new : Running) (before after : Option Records) → IsWellFormed old.flow → supply mid.parts.keep ≡ supply old.parts.keep
    → DrawsAtMost 1 mid.parts.keep new.parts.keep before after → DrawsAtMost (length old.flow.nodes) old.parts.keep new.parts.keep before after
draws-notified old mid new before after w same d = draws_from (draws_more d (some-node old.flow w)) same
