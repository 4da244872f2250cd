-- What writes make of records.
use Rattle.std.specs.Prelude.{◌≡◌, ℕ, ◌-◌, ◌^◌, Bool, List, [], ◌∷◌, map, nat_le, if◌then◌else◌, Option, None, Some, option_map}
use Rattle.std.specs.Ordering.{nat_cmp}
use Rattle.std.specs.FinMap as records
use Rattle.std.specs.FinMap.{FinMap}
use Rattle.fw_writing.specs.declared.record_write.RecordWrite.{RecordWrite}

-- the id is one of a root
abbrev pub is_root : ℕ → Bool
is_root id = nat_le (2 ^ 64 - 2) id

-- the id and the bytes of each write; no bytes where the record was removed
abbrev pub told_as : List RecordWrite → List (ℕ × Option (List ℕ))
told_as writes = map (λ write. (write.id, option_map (λ bytes. bytes.items) write.bytes)) writes

-- what was noted before; nothing where notes begin anew
abbrev pub notes_before : Bool → List (ℕ × Option (List ℕ)) → List (ℕ × Option (List ℕ))
notes_before anew writes = if anew then [] else writes

-- the records behind a write: its bytes are under the id, in place of what was there; or nothing is there any more
abbrev pub after_write : FinMap nat_cmp (List ℕ) → ℕ → Option (List ℕ) → FinMap nat_cmp (List ℕ)
after_write held id None = records.remove held id
after_write held id (Some bytes) = records.insert held id bytes

-- the records behind writes, done in their order
abbrev pub after_writes : FinMap nat_cmp (List ℕ) → List (ℕ × Option (List ℕ)) → FinMap nat_cmp (List ℕ)
after_writes held [] = held
after_writes held (write ∷ writes) = after_writes (after_write held write.0 write.1) writes

-- these writes were done to the records: done again they change nothing
abbrev pub AreDone : FinMap nat_cmp (List ℕ) → List (ℕ × Option (List ℕ)) → Type 0
AreDone held writes = (id : ℕ) → records.get (after_writes held writes) id ≡ records.get held id
