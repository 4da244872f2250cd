-- Fields that may have any value, fronts and counts are read as they are spelled.
use Rattle.std.proofs.Common.{◌^◌, ◌<◌, refl}
use Rattle.std.specs.Int.{w32, w64}
use Rattle.fw_bytes.specs.Fields.{number_field, stamp_field, sent_count_of}
use Rattle.fw_bytes.specs.Spelling.{u32_bytes, u64_bytes, stamp_bytes, front_bytes, sent_count_bytes, sent_counts_bytes}
use Rattle.fw_bytes.specs.Sound.{may_follow_stamps, may_follow_counts, IsStamp, IsFront, IsSentCount, AreSentCounts}
use Rattle.fw_bytes.specs.Reading.{any, next_stamp_of, next_count_of, read_front, sent_counts_of}
use Rattle.fw_bytes.proofs.FieldLaws.{form32, form64, stamps, counts}
use Rattle.fw_bytes.specs.Exact.{IsExactPart, IsExactReading}
use Rattle.fw_bytes.proofs.PartLaws.{one_field, any_field, counted_whole}

pub any32 : IsExactReading (λ bytes. any bytes (number_field w32 bytes)) u32_bytes (λ n. n < 2 ^ 32)
any32 = any_field (number_field w32) u32_bytes (λ n. n < 2 ^ 32) form32

pub any64 : IsExactReading (λ bytes. any bytes (number_field w64 bytes)) u64_bytes (λ n. n < 2 ^ 64)
any64 = any_field (number_field w64) u64_bytes (λ n. n < 2 ^ 64) form64

pub any_stamps : IsExactReading (λ bytes. any bytes (stamp_field bytes)) stamp_bytes IsStamp
any_stamps = any_field stamp_field stamp_bytes IsStamp stamps

pub stamp_parts : IsExactPart next_stamp_of stamp_bytes IsStamp may_follow_stamps
stamp_parts = one_field stamp_field stamp_bytes IsStamp may_follow_stamps stamps

pub count_parts : IsExactPart next_count_of sent_count_bytes IsSentCount may_follow_counts
count_parts = one_field sent_count_of sent_count_bytes IsSentCount may_follow_counts counts

-- ---- lists

pub front : IsExactReading read_front front_bytes IsFront
unfolding read_front
front = counted_whole (number_field w32) u32_bytes (2 ^ 32) form32 next_stamp_of stamp_bytes IsStamp may_follow_stamps stamp_parts read_front (λ bytes. refl)

pub sends : IsExactReading sent_counts_of sent_counts_bytes AreSentCounts
unfolding sent_counts_of
sends = counted_whole (number_field w32) u32_bytes (2 ^ 32) form32 next_count_of sent_count_bytes IsSentCount may_follow_counts count_parts sent_counts_of (λ bytes. refl)
