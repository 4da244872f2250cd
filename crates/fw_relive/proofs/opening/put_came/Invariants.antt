use Rattle.std.proofs.Common.{◌≡◌, ◌++◌}
use Rattle.std.specs.List.{flat_map, range_with_len}
use Rattle.fw_engine.specs.Engine.{flow_of}
use Rattle.fw_session.specs.Story.{Story}
use Rattle.fw_relive.specs.Opening.{from_line}
use Rattle.fw_relive.proofs.opening.put_came.Given as goal

-- the lines so far were put
abbrev pub invariant-loop-place : goal.invariant-loop-place
invariant-loop-place g l = (story : Story) → g.S.Living.at l.session story
    → l.into.items ≡ l.fn.into.items ++ flat_map (from_line (flow_of (g.S.Living.engine_of l.session)) story) (range_with_len 0 l.place)
