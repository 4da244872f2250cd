use Rattle.std.proofs.Common.{[]}
use Rattle.fw_border.specs.Sources.{unused_source}
use Rattle.fw_resume.proofs.BorderLaws.{AreChangedUpTo, starting}
use Rattle.fw_resume.proofs.borders.start_sources.Given as goal

abbrev pub invariant-loop-place : goal.invariant-loop-place
invariant-loop-place l = AreChangedUpTo (unused_source []) (starting l.inputs l.injected l.low) l.place l.initial.sources l.sources
