use Rattle.std.proofs.Common.{◌≡◌, true, take}
use Rattle.std.specs.List.{AllByRecursion}
use Rattle.fw_lines.specs.Spelling.{is_name}
use Rattle.fw_flow.specs.declared.node.Loop.{Loop}
use Rattle.fw_flow.proofs.laws.loops_have_names.Given as goal

abbrev pub invariant-loop-a_loop : goal.invariant-loop-a_loop
invariant-loop-a_loop l = AllByRecursion (λ (a_loop : Loop). is_name a_loop.name ≡ true) (take l.a_loop-index l.loops)
