-- Single fields: what stands at the front of the bytes, and the bytes after it; nothing where the bytes end inside.
use Rattle.std.specs.Prelude.{ℕ, nat_lt, List, length, take, drop, Some, None, if◌then◌else◌}
use Rattle.std.specs.Int.{w32, w64}
use Rattle.fw_bytes.specs.Fields.{Field, byte_of, number_field, stamp_field}
use Rattle.fw_bytes.specs.Fields as field
use Rattle.fw_root.specs.declared.root.NamedWrite.{NamedWrite}
use Rattle.fw_root.specs.declared.root.PendingAt.{PendingAt}
use Rattle.fw_root.specs.declared.root.OwedAt.{OwedAt}

-- so many bytes, as they are
abbrev pub bytes_field : ℕ → List ℕ → Field (List ℕ)
bytes_field n bytes = if nat_lt (length bytes) n then None else Some (take n bytes, drop n bytes)

-- an id, a node and a tag
unfoldable pub named_write_field : List ℕ → Field NamedWrite
named_write_field bytes =
    field.◌>>=◌ (number_field w64 bytes) (λ id.
    field.◌>>=◌ (number_field w32 id.1) (λ node.
    field.◌>>=◌ (byte_of node.1) (λ tag.
    Some (record { id = id.0; node = node.0; tag = tag.0 }, tag.1))))

-- an edge, a stamp and a count
unfoldable pub pending_at_field : List ℕ → Field PendingAt
pending_at_field bytes =
    field.◌>>=◌ (number_field w32 bytes) (λ edge.
    field.◌>>=◌ (stamp_field edge.1) (λ at.
    field.◌>>=◌ (number_field w64 at.1) (λ count.
    Some (record { edge = edge.0; at = at.0; count = count.0 }, count.1))))

-- a node and a stamp
unfoldable pub owed_at_field : List ℕ → Field OwedAt
owed_at_field bytes =
    field.◌>>=◌ (number_field w32 bytes) (λ node.
    field.◌>>=◌ (stamp_field node.1) (λ at.
    Some (record { node = node.0; at = at.0 }, at.1)))
