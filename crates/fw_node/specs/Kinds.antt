-- At which times the kinds are.
use Rattle.std.specs.Prelude.{Bool, true, false}
use Rattle.fw_flow.specs.Kind.{Kind}
use Rattle.fw_flow.specs.declared.kind.Kind.TheVariants.{Select, Concat, Distinct, Join, Sum, Feedback, Leave}

-- whether a node of the kind may be anywhere, outside loops and in them
abbrev pub is_timed : Kind → Bool
is_timed (Select selection within) = true
is_timed (Concat within) = true
is_timed (Distinct within) = true
is_timed (Join within) = true
is_timed (Sum within) = true
is_timed kind = false

-- whether a node of the kind may be in a loop
abbrev pub may_be_looped : Kind → Bool
may_be_looped (Select selection within) = true
may_be_looped (Concat within) = true
may_be_looped (Distinct within) = true
may_be_looped (Join within) = true
may_be_looped (Sum within) = true
may_be_looped (Feedback l) = true
may_be_looped (Leave l) = true
may_be_looped kind = false
