-- Single fields of a root are read as they are spelled.
use Rattle.std.proofs.Common.{[], ◌∷◌, ◌++◌, Some, refl, ap, ◌∙◌, append_assoc}
use Rattle.std.specs.Int.{w32, w64}
use Rattle.fw_bytes.specs.Fields.{byte_of, number_field, stamp_field}
use Rattle.fw_bytes.specs.Fields as field
use Rattle.fw_bytes.specs.Spelling.{u32_bytes, u64_bytes, stamp_bytes}
use Rattle.fw_bytes.specs.Exact.{AreSplit, IsExactField}
use Rattle.fw_bytes.proofs.PlaceLaws.{field_then}
use Rattle.fw_bytes.proofs.FieldLaws.{two_take, form8, form32, form64, stamps}
use Rattle.fw_root.specs.Fields.{named_write_field, pending_at_field, owed_at_field}
use Rattle.fw_root.specs.Spelling.{named_write_bytes, pending_at_bytes, owed_at_bytes}
use Rattle.fw_root.specs.Sound.{IsNamedWrite, IsPendingAt, IsOwedAt}
use Rattle.fw_root.proofs.ExactLaws.{three_take}

pub writes_form : IsExactField named_write_field named_write_bytes IsNamedWrite
unfolding named_write_field
writes_form = record {
  takes = λ bytes x fits e. three_take form64 form32 form8 (λ id node tag. record { id = id; node = node; tag = tag }) bytes x fits e
      (λ y. AreSplit bytes (named_write_bytes y.0) y.1 × IsNamedWrite y.0) (λ id node tag rest t f g h. (t, record { id = f; node = g; tag = h }));
  again = λ w rest fits.
      ap named_write_field (append_assoc (u64_bytes w.id ++ u32_bytes w.node) (w.tag ∷ []) rest ∙ append_assoc (u64_bytes w.id) (u32_bytes w.node) (w.tag ∷ rest))
      ∙ rw (form64.again w.id (u32_bytes w.node ++ w.tag ∷ rest) fits.id, form32.again w.node (w.tag ∷ rest) fits.node) refl;
  inside = λ most bytes le.
      field_then most (number_field w64 bytes) (λ v0. field.◌>>=◌ (number_field w32 v0.1) (λ v1. field.◌>>=◌ (byte_of v1.1) (λ v2. Some (record { id = v0.0; node = v1.0; tag = v2.0 }, v2.1)))) (form64.inside most bytes le) (λ s0 l0.
      field_then most (number_field w32 s0.1) (λ v1. field.◌>>=◌ (byte_of v1.1) (λ v2. Some (record { id = s0.0; node = v1.0; tag = v2.0 }, v2.1))) (form32.inside most s0.1 l0) (λ s1 l1.
      field_then most (byte_of s1.1) (λ v2. Some (record { id = s0.0; node = s1.0; tag = v2.0 }, v2.1)) (form8.inside most s1.1 l1) (λ s2 l2. l2)));
}

pub pending_form : IsExactField pending_at_field pending_at_bytes IsPendingAt
unfolding pending_at_field
pending_form = record {
  takes = λ bytes x fits e. three_take form32 stamps form64 (λ edge at count. record { edge = edge; at = at; count = count }) bytes x fits e
      (λ y. AreSplit bytes (pending_at_bytes y.0) y.1 × IsPendingAt y.0) (λ edge at count rest t f g h. (t, record { edge = f; at = g; count = h }));
  again = λ p rest fits.
      ap pending_at_field (append_assoc (u32_bytes p.edge ++ stamp_bytes p.at) (u64_bytes p.count) rest ∙ append_assoc (u32_bytes p.edge) (stamp_bytes p.at) (u64_bytes p.count ++ rest))
      ∙ rw (form32.again p.edge (stamp_bytes p.at ++ (u64_bytes p.count ++ rest)) fits.edge, stamps.again p.at (u64_bytes p.count ++ rest) fits.at, form64.again p.count rest fits.count) refl;
  inside = λ most bytes le.
      field_then most (number_field w32 bytes) (λ v0. field.◌>>=◌ (stamp_field v0.1) (λ v1. field.◌>>=◌ (number_field w64 v1.1) (λ v2. Some (record { edge = v0.0; at = v1.0; count = v2.0 }, v2.1)))) (form32.inside most bytes le) (λ s0 l0.
      field_then most (stamp_field s0.1) (λ v1. field.◌>>=◌ (number_field w64 v1.1) (λ v2. Some (record { edge = s0.0; at = v1.0; count = v2.0 }, v2.1))) (stamps.inside most s0.1 l0) (λ s1 l1.
      field_then most (number_field w64 s1.1) (λ v2. Some (record { edge = s0.0; at = s1.0; count = v2.0 }, v2.1)) (form64.inside most s1.1 l1) (λ s2 l2. l2)));
}

pub owed_form : IsExactField owed_at_field owed_at_bytes IsOwedAt
unfolding owed_at_field
owed_form = record {
  takes = λ bytes x fits e. two_take form32 stamps (λ node at. record { node = node; at = at }) bytes x fits e
      (λ y. AreSplit bytes (owed_at_bytes y.0) y.1 × IsOwedAt y.0) (λ node at rest t f g. (t, record { node = f; at = g }));
  again = λ o rest fits. ap owed_at_field (append_assoc (u32_bytes o.node) (stamp_bytes o.at) rest) ∙ rw (form32.again o.node (stamp_bytes o.at ++ rest) fits.node, stamps.again o.at rest fits.at) refl;
  inside = λ most bytes le.
      field_then most (number_field w32 bytes) (λ v0. field.◌>>=◌ (stamp_field v0.1) (λ v1. Some (record { node = v0.0; at = v1.0 }, v1.1))) (form32.inside most bytes le) (λ s0 l0.
      field_then most (stamp_field s0.1) (λ v1. Some (record { node = s0.0; at = v1.0 }, v1.1)) (stamps.inside most s0.1 l0) (λ s1 l1. l1));
}
