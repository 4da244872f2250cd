-- What a step did to the ids of the catalogue, and to the records behind them.
use Rattle.std.specs.Prelude.{◌≡◌, ◌⊎◌, ℕ, ◌+◌, ◌<◌, ◌≤◌, Bool, Option, IsSome, Result, Ok, Err}
use Rattle.fw_keep.specs.Catalogue.{KeepState}
use Rattle.fw_keep.specs.Stored.{Records, bytes_under}
use Rattle.fw_running.specs.declared.fault.EngineFault.{EngineFault}
use Rattle.fw_running.specs.declared.stepped.Stepped.{Stepped}
use Rattle.fw_running.specs.declared.stepped.Stepped.TheVariants.{Did, Idle}

-- what new ids are drawn from: the next one, and whether the store may hold records that others put
abbrev pub supply : KeepState → ℕ × Bool
supply keep = (keep.next, keep.shared)

-- At most so many ids were drawn, and whether the store may hold records that others put is as it was. Where the records are told
-- afterwards they were told before, and under each id that was not drawn now is what was there.
pub record DrawsAtMost (n : ℕ) (old new : KeepState) (before after : Option Records) : Type 0 where
  pub told_before : IsSome after → IsSome before
  pub never_back : old.next ≤ new.next
  pub few : new.next ≤ old.next + n
  pub shared : new.shared ≡ old.shared
  pub others : IsSome after → (id : ℕ) → (id < old.next) ⊎ (new.next ≤ id) → bytes_under id after ≡ bytes_under id before

-- how many ids may have been drawn by a step that answered so: none where it was idle
abbrev pub may_draw : ℕ → Result Stepped EngineFault → ℕ
may_draw n (Ok Idle) = 0
may_draw n (Ok (Did shown)) = n
may_draw n (Err fault) = n
