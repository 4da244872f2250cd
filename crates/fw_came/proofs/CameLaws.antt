-- The bytes of a batch are read as they are spelled.
use Rattle.std.proofs.Common.{◌≡◌, ℕ, ◌*◌, ◌<◌, ◌^◌, Bool, true, false, ◌==◌, cond, List, [], ◌∷◌, ◌++◌, length, zero, suc, Ok, Err, refl, sym, ap, ◌∙◌, eqb, arith}
use Rattle.std.specs.Int.{w64}
use Rattle.std.specs.List.{flat_map}
use Rattle.std.proofs.lemmas.Bool.{eqb-true, ltb-true}
use Rattle.std.proofs.lemmas.List.{append-nil, length-append, nil_from_length}
use Rattle.std.proofs.lemmas.List.Concat.{flat_map-cons}
use Rattle.fw_bag.specs.Bag.{IsRec}
use Rattle.fw_bag.specs.declared.rec.Rec.{Rec}
use Rattle.fw_bytes.specs.Exact.{IsExactReading}
use Rattle.fw_bytes.specs.Fields.{byte_of, number_field}
use Rattle.fw_bytes.specs.Reading.{◌>>=◌, kept_if}
use Rattle.fw_bytes.specs.Sound.{IsList, each_may_follow}
use Rattle.fw_bytes.specs.Spelling.{u64_bytes}
use Rattle.fw_bytes.proofs.FieldLaws.{byte_takes, form64}
use Rattle.fw_bytes.proofs.PartLaws.{bind_ok, counted_whole, guard_ok, kept, ok, ok_is, one_field}
use Rattle.fw_record.specs.Fields.{rec_of}
use Rattle.fw_record.specs.Spelling.{rec_bytes, recs_bytes}
use Rattle.fw_record.proofs.FieldLaws.{recs}
use Rattle.fw_came.specs.Came.{batch_bytes, batch_reading, is_mark, may_follow_recs, next_rec_of, read_came, counted_recs}
use Rattle.fw_came.specs.LawsOfCame.{BatchesAreReadBack, ReadBatchesAreSpelled}
use Rattle.fw_came.specs.declared.batch.CameBatch.{CameBatch}

all-recs : IsExactReading counted_recs recs_bytes (IsList (2 ^ 64) IsRec may_follow_recs)
unfolding counted_recs
all-recs =
    counted_whole (number_field w64) u64_bytes (2 ^ 64) form64 next_rec_of rec_bytes IsRec may_follow_recs
    (one_field rec_of rec_bytes IsRec may_follow_recs recs) counted_recs (λ bytes. refl)

any-follow : (before rs : List Rec) → each_may_follow may_follow_recs before rs ≡ true
any-follow before [] = refl
any-follow before (r ∷ rs) = any-follow (before ++ r ∷ []) rs

abbrev made : Bool → List Rec → CameBatch
made last rs = record { last = last; recs = rs }

-- the mark
marked : (last : Bool) (rest : List ℕ) → kept_if is_mark (cond last 1 0 ∷ rest) (byte_of (cond last 1 0 ∷ rest)) ≡ Ok (cond last 1 0, rest)
marked true rest = refl
marked false rest = refl

mark-is : (last : Bool) → (cond last 1 0 == 1) ≡ last
mark-is true = refl
mark-is false = refl

pub read-back : BatchesAreReadBack
unfolding batch_reading read_came
read-back last rs each few =
    let sound : IsList (2 ^ 64) IsRec may_follow_recs rs = record { few = few; parts = each; follow = any-follow [] rs } in
    let again : counted_recs (recs_bytes rs) ≡ Ok (rs, []) = ap counted_recs (sym (append-nil (recs_bytes rs))) ∙ all-recs.again rs [] sound in
    let came : read_came (batch_bytes last rs) ≡ Ok (made (cond last 1 0 == 1) rs, []) = rw (marked last (recs_bytes rs), again) refl in
    rw came (ap (λ (b : Bool). ok (made b rs)) (mark-is last))

mark-said : (b : ℕ) → is_mark b ≡ true → cond (b == 1) 1 0 ≡ b
mark-said zero m = refl
mark-said (suc zero) m = refl
mark-said (suc (suc b)) m = absurd (let l = ltb-true (suc (suc b)) 2 m in omega (arith, l))

ends : (last : Bool) (rs : List Rec) (rest bytes : List ℕ) (batch : CameBatch) → bytes ≡ cond last 1 0 ∷ (recs_bytes rs ++ rest) → rest ≡ []
    → made last rs ≡ batch → bytes ≡ batch_bytes batch.last batch.recs
ends last rs rest bytes batch whole left same =
    let all : cond last 1 0 ∷ (recs_bytes rs ++ rest) ≡ batch_bytes last rs =
    ap (λ more. cond last 1 0 ∷ (recs_bytes rs ++ more)) left ∙ ap (λ more. cond last 1 0 ∷ more) (append-nil (recs_bytes rs)) in
    whole ∙ all ∙ ap (λ (b : CameBatch). batch_bytes b.last b.recs) same

pub read-spelled : ReadBatchesAreSpelled
unfolding batch_reading read_came
read-spelled bytes batch fits e =
    let s = bind_ok (read_came bytes) (λ x. cond (eqb (length x.1) 0) (Ok x.0) (Err (length x.1))) batch e in
    let g = guard_ok (eqb (length s.0.1) 0) s.0.0 batch (length s.0.1) s.2 in
    let nothing : s.0.1 ≡ [] = nil_from_length s.0.1 (eqb-true _ _ g.0) in
    let m = bind_ok (kept_if is_mark bytes (byte_of bytes)) (λ mark. counted_recs mark.1 >>= λ rs. Ok (made (mark.0 == 1) rs.0, rs.1)) s.0 s.1 in
    let k = kept is_mark bytes (byte_of bytes) m.0 m.1 in
    let front = byte_takes bytes m.0 fits k.0 in
    let r = bind_ok (counted_recs m.0.1) (λ rs. Ok (made (m.0.0 == 1) rs.0, rs.1)) s.0 m.2 in
    let t = all-recs.takes m.0.1 r.0 front.1 r.1 in
    let whole : bytes ≡ cond (m.0.0 == 1) 1 0 ∷ (recs_bytes r.0.0 ++ r.0.1) =
    front.0 ∙ ap (λ rest. m.0.0 ∷ rest) t.0.parts ∙ ap (λ b. b ∷ (recs_bytes r.0.0 ++ r.0.1)) (sym (mark-said m.0.0 k.1)) in
    let both = ok_is (made (m.0.0 == 1) r.0.0, r.0.1) s.0 r.2 in
    let same : made (m.0.0 == 1) r.0.0 ≡ s.0.0 = ap (λ (x : CameBatch × List ℕ). x.0) both in
    let left : r.0.1 ≡ [] = ap (λ (x : CameBatch × List ℕ). x.1) both ∙ nothing in
    ends (m.0.0 == 1) r.0.0 r.0.1 bytes batch whole left (same ∙ g.1)

-- ---- sizes

rec-long : (r : Rec) → length (rec_bytes r) ≡ 16
rec-long r = refl

long-recs : (rs : List Rec) → length (flat_map rec_bytes rs) ≡ 16 * length rs
long-recs [] = refl
long-recs (r ∷ rs) =
    let rest = long-recs rs in
    let one = rec-long r in
    let all = ap length (flat_map-cons rec_bytes r rs) ∙ length-append (rec_bytes r) (flat_map rec_bytes rs) in
    omega (arith, rest, one, all)

-- a batch whose bytes are few has few recs
pub few-recs : (last : Bool) (rs : List Rec) → length (batch_bytes last rs) < 2 ^ 64 → length rs < 2 ^ 64
few-recs last rs few =
    let all = length-append (u64_bytes (length rs)) (flat_map rec_bytes rs) in
    let some = long-recs rs in
    omega (arith, few, all, some)
