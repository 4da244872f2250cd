use Rattle.std.proofs.Common.{◌≡◌}
use Rattle.fw_border.specs.Sources.{with_source}
use Rattle.fw_resume.specs.Borders.{advanced_by}
use Rattle.fw_resume.proofs.borders.advance_by.Given as goal

abbrev pub invariant-loop-batch : goal.invariant-loop-batch
invariant-loop-batch l = l.sources ≡ with_source (advanced_by l._batch) l.initial.sources l.node
