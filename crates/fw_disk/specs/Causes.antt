-- What a refusal tells of a file.
use Rattle.std.specs.Prelude.{Bool, true, false}
use Rattle.fw_disk.specs.declared.cause.Trouble.{Trouble}
use Rattle.fw_disk.specs.declared.cause.Trouble.TheVariants.{System, Locked, Used, Moved, Gone, Differs, Foreign, Stray}
use Rattle.fw_disk.specs.declared.cause.DiskRefusal.{DiskRefusal}
use Rattle.fw_disk.specs.declared.cause.DiskRefusal.TheVariants.{Failed, NoMemory}

-- whether what is wrong is that a file is not there
abbrev pub is_gone : Trouble → Bool
is_gone (System error) = false
is_gone Locked = false
is_gone Used = false
is_gone Moved = false
is_gone Gone = true
is_gone (Differs difference) = false
is_gone Foreign = false
is_gone Stray = false

-- whether a refusal tells that a file is not there
abbrev pub tells_gone : DiskRefusal → Bool
tells_gone (Failed cause) = is_gone cause.trouble
tells_gone NoMemory = false
