-- For the proof of src/premises.rt: how many batches a node may have.
use Rattle.std.specs.Prelude.{ℕ, ◌^◌, nat_le, ◌==◌, Bool, ◌&&◌, ◌||◌}
use Rattle.fw_flow.specs.Kind.{Kind}
use Rattle.fw_flow.specs.Dataflow.{is_input_kind}

-- whether a node of the kind may have so many batches: an input 2^20, any other node none
abbrev pub may_have : Kind → ℕ → Bool
may_have kind count = count == 0 || (is_input_kind kind && nat_le count (2 ^ 20))
