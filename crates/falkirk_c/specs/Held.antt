-- What a handle owns: nothing where it is null, and else the talk behind it, with the right to free its block.
use base.Fml.{Fml, feq}
use denote.RawPtr.{Ptr, null_ptr}
use Rattle.std.specs.Box.Ownership.{box_owns}
use Rattle.std.specs.contracts.impls.GlobalAllocator.TheImpl.{ghosts}
use Rattle.std.specs.declared.alloc.Global.{Global}
use Rattle.std.specs.declared.option.Option.{Option}
use Rattle.std.specs.declared.option.Option.TheVariants.{None, Some}
use Rattle.fw_talk.specs.contracts.talk.Talk.{the_row}

-- the one value of the type
abbrev pub heap : Global
heap = record { memory = record { seal = tt } }

abbrev pub held : Ptr → Option the_row.Denot → Fml
held p None = feq Ptr p null_ptr
held p (Some x) = box_owns (ghosts.dealloc_token heap) the_row p x
