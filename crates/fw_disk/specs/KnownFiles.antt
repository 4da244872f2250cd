-- Files whose bytes are known.
use Rattle.std.specs.Prelude.{◌≡◌, ◌⊎◌, ℕ, List, [], Option, Some, Vec, IfSome}
use Rattle.std.specs.BTreeMap.{BTreeMap}
use Rattle.std.specs.declared.alloc.Global.{Global}
use Rattle.std.specs.Io.KnownBytes.{Appends}
use Rattle.sha2.specs.Sha256.{sha256}
use Rattle.fw_disk.specs.Contents.{contents_of}
use Rattle.fw_disk.specs.RunLines.{only_of, digests_of, digests_under, digests_told, if_any, whole_lines}

-- A file has these bytes behind those that it had as it was opened, where it tells them.
abbrev pub HasGrown : {F : Type 0} → (F → Option (List ℕ)) → F → List ℕ → Type 0
HasGrown {F} contents file bytes = (opened : F) × Appends (contents opened) (contents file) bytes

-- These are the bytes of a file that was opened, where it tells them.
abbrev pub AreRead : {F : Type 0} → (F → Option (List ℕ)) → List ℕ → Type 0
AreRead {F} remaining bytes = (opened : F) × IfSome (remaining opened) (λ known. bytes ≡ known)

-- These are the bytes of a record whose file was opened and read, where it tells its bytes.
abbrev pub IsRecordRead : {F : Type 0} → (F → Option (List ℕ)) → List ℕ → Type 0
IsRecordRead remaining bytes = AreRead remaining (contents_of bytes)

-- This digest is that of the one line of an id, or that of the bytes of a record that was read.
abbrev pub IsDigestFound : {F : Type 0} → (F → Option (List ℕ)) → BTreeMap ℕ (Vec (List ℕ) Global) → ℕ → List ℕ → Type 0
IsDigestFound remaining lines id digest =
    (only_of (digests_under lines id) ≡ Some digest) ⊎ ((bytes : List ℕ) × IsRecordRead remaining bytes × (digest ≡ sha256 bytes))

-- Of the file `run`: its bytes, where it was there; none, where it was not.
abbrev pub IsRunText : {F : Type 0} → (F → Option (List ℕ)) → List ℕ → Type 0
IsRunText remaining text = (text ≡ []) ⊎ AreRead remaining text

-- A table has under each id the digests that the lines of that file tell.
abbrev pub TellRead : {F : Type 0} → (F → Option (List ℕ)) → BTreeMap ℕ (Vec (List ℕ) Global) → Type 0
TellRead remaining told = (text : List ℕ) × IsRunText remaining text × ((id : ℕ) → digests_of told id ≡ if_any (digests_told (whole_lines text) id))
