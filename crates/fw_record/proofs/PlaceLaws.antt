-- The first broken field begins in the bytes, or at their end.
use Rattle.std.proofs.Common.{◌≡◌, ℕ, ◌≤◌, true, false, cond, eqb, List, length, Result, Ok, Err, subst, arith}
use Rattle.std.specs.Prelude.{◌==◌}
use Rattle.std.specs.Int.{w16, w32}
use Rattle.fw_bytes.specs.Fields.{byte_of, number_field}
use Rattle.fw_bytes.specs.Reading.{Reading, ◌>>=◌, kept_if, any}
use Rattle.fw_bytes.specs.Exact.{Leaves}
use Rattle.fw_bytes.proofs.PlaceLaws.{ReadsInside, byte_inside, number_inside, inside_then, kept_inside, either_inside}
use Rattle.fw_bytes.proofs.ListLaws.{any32}
use Rattle.fw_record.specs.declared.record.Record.{Record}
use Rattle.fw_record.specs.declared.record.Record.TheVariants as tagged
use Rattle.fw_record.specs.Reading.{is_version, is_tag, read_checkpoint, read_event, event_record_of, read_changes, state_record_of, changes_record_of, other_record_of, tag_of, read_whole_record, whole_of}
use Rattle.fw_record.proofs.CheckpointLaws.{checkpoints}
use Rattle.fw_record.proofs.ChangesLaws.{changes}
use Rattle.fw_record.proofs.EventLaws.{events}

event_record_inside : ReadsInside event_record_of
unfolding event_record_of
event_record_inside n bytes le =
    inside_then n (any bytes (number_field w32 bytes)) (λ v0. ((read_event v0.1) >>= λ v1. Ok (tagged.Event v0.0 v1.0, v1.1))) (any32.inside n bytes le) (λ s0 l0.
    inside_then n (read_event s0.1) (λ v1. Ok (tagged.Event s0.0 v1.0, v1.1)) (events.inside n s0.1 l0) (λ s1 l1.
    l1))

state_record_inside : ReadsInside state_record_of
unfolding state_record_of
state_record_inside n bytes le =
    inside_then n (read_checkpoint bytes) (λ v0. Ok (tagged.State v0.0, v0.1)) (checkpoints.inside n bytes le) (λ s0 l0.
    l0)

changes_record_inside : ReadsInside changes_record_of
unfolding changes_record_of
changes_record_inside n bytes le =
    inside_then n (read_changes bytes) (λ v0. Ok (tagged.Changes v0.0.0 v0.0.1, v0.1)) (changes.inside n bytes le) (λ s0 l0.
    l0)

tag_inside : ReadsInside tag_of
unfolding tag_of
tag_inside n bytes le =
    inside_then n (kept_if (λ m. m == 18007) bytes (number_field w16 bytes)) (λ magic. kept_if is_version magic.1 (byte_of magic.1) >>= λ version. kept_if (is_tag version.0) version.1 (byte_of version.1)) (kept_inside (λ m. m == 18007) n bytes (number_field w16 bytes) le (number_inside w16 n bytes le)) (λ magic l0.
    inside_then n (kept_if is_version magic.1 (byte_of magic.1)) (λ version. kept_if (is_tag version.0) version.1 (byte_of version.1)) (kept_inside is_version n magic.1 (byte_of magic.1) l0 (byte_inside n magic.1 l0)) (λ version l1.
    kept_inside (is_tag version.0) n version.1 (byte_of version.1) l1 (byte_inside n version.1 l1)))

record_inside : ReadsInside read_whole_record
unfolding read_whole_record
record_inside n bytes le =
    inside_then n (tag_of bytes) (λ tag. cond (eqb tag.0 1) (state_record_of tag.1) (other_record_of tag.0 tag.1)) (tag_inside n bytes le) (λ tag le'.
    either_inside (eqb tag.0 1) n (state_record_of tag.1) (other_record_of tag.0 tag.1) (state_record_inside n tag.1 le')
    (either_inside (eqb tag.0 2) n (event_record_of tag.1) (changes_record_of tag.1) (event_record_inside n tag.1 le') (changes_record_inside n tag.1 le')))

-- ---- the whole

-- the first broken field lies among so many bytes
abbrev IsBrokenInside : ℕ → Result Record ℕ → Type 0
IsBrokenInside n (Ok r) = Unit {0}
IsBrokenInside n (Err left) = left ≤ n

whole_inside : (bytes : List ℕ) → IsBrokenInside (length bytes) (whole_of bytes)
unfolding whole_of
whole_inside bytes = ended (read_whole_record bytes) (record_inside (length bytes) bytes (omega arith))
  where
    ended : (r : Reading Record) → Leaves (length bytes) r → IsBrokenInside (length bytes) (r >>= λ x. cond (eqb (length x.1) 0) (Ok x.0) (Err (length x.1)))
    ended (Err left) h = h
    ended (Ok x) h = elim (eqb (length x.1) 0) as (λ b. IsBrokenInside (length bytes) (cond b (Ok x.0) (Err (length x.1)))) [ true ↦ tt | false ↦ h ]

-- no more bytes are left from the first broken field on than there are
pub left_is_inside : (bytes : List ℕ) (left : ℕ) → whole_of bytes ≡ Err left → left ≤ length bytes
left_is_inside bytes left e = subst (IsBrokenInside (length bytes)) e (whole_inside bytes)
