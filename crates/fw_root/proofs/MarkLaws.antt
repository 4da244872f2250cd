-- Where a run stands is read as it is spelled.
use Rattle.std.proofs.Common.{◌≡◌, ℕ, ◌^◌, ◌<◌, true, List, [], ◌∷◌, ◌++◌, length, Ok, refl, sym, ap, subst, ◌∙◌, append_assoc, arith}
use Rattle.std.specs.Prelude.{◌==◌, nat_lt}
use Rattle.std.specs.Int.{w16, w64, to_be_bytes}
use Rattle.std.proofs.lemmas.Bool.{eqb-true, ltb-true, lt-ltb}
use Rattle.fw_bytes.specs.Fields.{byte_of, number_field}
use Rattle.fw_bytes.specs.Spelling.{u64_bytes}
use Rattle.fw_bytes.specs.Reading.{Reading, ◌>>=◌, kept_if, any}
use Rattle.fw_bytes.specs.Exact.{AreBytes, AreSplit, IsExactReading}
use Rattle.fw_bytes.proofs.PlaceLaws.{ReadsInside, inside_then}
use Rattle.fw_bytes.proofs.FieldLaws.{form8, form16, form64}
use Rattle.fw_bytes.proofs.PartLaws.{any_field, step, starts, ok_is}
use Rattle.fw_bytes.proofs.ListLaws.{any64}
use Rattle.fw_root.specs.declared.root.Digests.{Digests}
use Rattle.fw_root.specs.declared.root.Mark.{Mark}
use Rattle.fw_root.specs.Fields.{bytes_field}
use Rattle.fw_root.specs.Spelling.{digests_bytes, lines_bytes, mark_bytes}
use Rattle.fw_root.specs.Sound.{AreSoMany, AreDigests, AreLines, IsMark}
use Rattle.fw_root.specs.Reading.{any_bytes, read_digests, small_number, read_lines, read_mark}
use Rattle.fw_root.proofs.ExactLaws.{then_ok, kept_field, said_so, bytes_form}

-- ---- fields

pub some_bytes : (n : ℕ) → IsExactReading (any_bytes n) (λ t. t) (AreSoMany n)
some_bytes n = any_field (bytes_field n) (λ t. t) (AreSoMany n) (bytes_form n)

abbrev magic_of : List ℕ → Reading ℕ
magic_of bytes = kept_if (λ m. m == 18002) bytes (number_field w16 bytes)

magic : IsExactReading magic_of (λ m. 70 ∷ 82 ∷ []) (λ m. m ≡ 18002)
magic =
    said_so magic_of (to_be_bytes w16) (λ m. 70 ∷ 82 ∷ []) (λ m. (m < 2 ^ 16) × ((m == 18002) ≡ true)) (λ m. m ≡ 18002)
    (kept_field (number_field w16) (to_be_bytes w16) (λ m. m < 2 ^ 16) (λ m. m == 18002) form16)
    (λ m f. eqb-true m 18002 f.1)
    (λ m e. (omega (arith, e), rw e refl))
    (λ m f. ap (to_be_bytes w16) (eqb-true m 18002 f.1))

abbrev one_of : List ℕ → Reading ℕ
one_of bytes = kept_if (λ v. v == 1) bytes (byte_of bytes)

version : IsExactReading one_of (λ v. 1 ∷ []) (λ v. v ≡ 1)
version =
    said_so one_of (λ v. v ∷ []) (λ v. 1 ∷ []) (λ v. (v < 256) × ((v == 1) ≡ true)) (λ v. v ≡ 1)
    (kept_field byte_of (λ v. v ∷ []) (λ v. v < 256) (λ v. v == 1) form8)
    (λ v f. eqb-true v 1 f.1)
    (λ v e. (omega (arith, e), rw e refl))
    (λ v f. ap (λ b. b ∷ []) (eqb-true v 1 f.1))

small : IsExactReading small_number u64_bytes (λ n. n < 2 ^ 62)
small =
    said_so small_number u64_bytes u64_bytes (λ n. (n < 2 ^ 64) × (nat_lt n (2 ^ 62) ≡ true)) (λ n. n < 2 ^ 62)
    (kept_field (number_field w64) u64_bytes (λ n. n < 2 ^ 64) (λ n. nat_lt n (2 ^ 62)) form64)
    (λ n f. ltb-true n (2 ^ 62) f.1)
    (λ n l. (omega (arith, l), lt-ltb n (2 ^ 62) l))
    (λ n f. refl)

-- ---- lines

lines_takes : (bytes : List ℕ) (x : List ℕ × List ℕ) → AreBytes bytes → read_lines bytes ≡ Ok x → AreSplit bytes (lines_bytes x.0) x.1 × AreLines x.0
unfolding read_lines
lines_takes bytes x fits e =
    step any64 bytes [] bytes (λ v0. any_bytes v0.0 v0.1) x (AreSplit bytes (lines_bytes x.0) x.1 × AreLines x.0) (starts bytes fits) e (λ s0 f0 t0 e0.
    let r = (some_bytes s0.0).takes s0.1 x t0.rest_fits e0 in
    let many : length x.0 ≡ s0.0 = r.1.many in (
      record { parts = t0.parts ∙ ap (λ t. u64_bytes s0.0 ++ t) r.0.parts ∙ sym (append_assoc (u64_bytes s0.0) x.0 x.1) ∙ ap (λ n. (u64_bytes n ++ x.0) ++ x.1) (sym many); rest_fits = r.0.rest_fits },
      record { few = omega (arith, f0, many); bytes = r.1.bytes },
    ))

lines_again : (r : List ℕ) (rest : List ℕ) → AreLines r → read_lines (lines_bytes r ++ rest) ≡ Ok (r, rest)
unfolding read_lines
lines_again r rest sound =
    ap read_lines (append_assoc (u64_bytes (length r)) r rest)
    ∙ then_ok (any (u64_bytes (length r) ++ (r ++ rest)) (number_field w64 (u64_bytes (length r) ++ (r ++ rest)))) (λ v0. any_bytes v0.0 v0.1) (length r, r ++ rest) (Ok (r, rest))
    (any64.again (length r) (r ++ rest) sound.few) ((some_bytes (length r)).again r rest (record { many = refl; bytes = sound.bytes }))

lines_inside : ReadsInside read_lines
unfolding read_lines
lines_inside n bytes le =
    inside_then n (any bytes (number_field w64 bytes)) (λ v0. any_bytes v0.0 v0.1) (any64.inside n bytes le) (λ s0 l0. (some_bytes s0.0).inside n s0.1 l0)

lines : IsExactReading read_lines lines_bytes AreLines
lines = record { takes = lines_takes; again = lines_again; inside = lines_inside }

-- ---- digests

digests_takes : (bytes : List ℕ) (x : Digests × List ℕ) → AreBytes bytes → read_digests bytes ≡ Ok x → AreSplit bytes (digests_bytes x.0) x.1 × AreDigests x.0
unfolding read_digests digests_bytes
digests_takes bytes x fits e =
    step magic bytes [] bytes (λ v0. kept_if (λ v. v == 1) v0.1 (byte_of v0.1) >>= (λ v1. any_bytes 32 v1.1 >>= (λ v2. any_bytes 32 v2.1 >>= (λ v3. any_bytes 32 v3.1 >>= (λ v4. Ok (record { flow = v2.0; inputs = v3.0; schedule = v4.0 }, v4.1)))))) x (AreSplit bytes (digests_bytes x.0) x.1 × AreDigests x.0) (starts bytes fits) e (λ s0 f0 t0 e0.
    step version bytes ((70 ∷ 82 ∷ [])) s0.1 (λ v1. any_bytes 32 v1.1 >>= (λ v2. any_bytes 32 v2.1 >>= (λ v3. any_bytes 32 v3.1 >>= (λ v4. Ok (record { flow = v2.0; inputs = v3.0; schedule = v4.0 }, v4.1))))) x (AreSplit bytes (digests_bytes x.0) x.1 × AreDigests x.0) t0 e0 (λ s1 f1 t1 e1.
    step (some_bytes 32) bytes ((70 ∷ 82 ∷ []) ++ (1 ∷ [])) s1.1 (λ v2. any_bytes 32 v2.1 >>= (λ v3. any_bytes 32 v3.1 >>= (λ v4. Ok (record { flow = v2.0; inputs = v3.0; schedule = v4.0 }, v4.1)))) x (AreSplit bytes (digests_bytes x.0) x.1 × AreDigests x.0) t1 e1 (λ s2 f2 t2 e2.
    step (some_bytes 32) bytes ((70 ∷ 82 ∷ []) ++ (1 ∷ []) ++ s2.0) s2.1 (λ v3. any_bytes 32 v3.1 >>= (λ v4. Ok (record { flow = s2.0; inputs = v3.0; schedule = v4.0 }, v4.1))) x (AreSplit bytes (digests_bytes x.0) x.1 × AreDigests x.0) t2 e2 (λ s3 f3 t3 e3.
    step (some_bytes 32) bytes ((70 ∷ 82 ∷ []) ++ (1 ∷ []) ++ s2.0 ++ s3.0) s3.1 (λ v4. Ok (record { flow = s2.0; inputs = s3.0; schedule = v4.0 }, v4.1)) x (AreSplit bytes (digests_bytes x.0) x.1 × AreDigests x.0) t3 e3 (λ s4 f4 t4 e4.
    subst (λ (y : Digests × List ℕ). AreSplit bytes (digests_bytes y.0) y.1 × AreDigests y.0) (ok_is (record { flow = s2.0; inputs = s3.0; schedule = s4.0 }, s4.1) x e4) (t4, record { flow = f2; inputs = f3; schedule = f4 }))))))

digests_again : (r : Digests) (rest : List ℕ) → AreDigests r → read_digests (digests_bytes r ++ rest) ≡ Ok (r, rest)
unfolding read_digests digests_bytes
digests_again r rest sound =
    ap (read_digests) (append_assoc ((70 ∷ 82 ∷ []) ++ (1 ∷ []) ++ r.flow ++ r.inputs) (r.schedule) rest
    ∙ append_assoc ((70 ∷ 82 ∷ []) ++ (1 ∷ []) ++ r.flow) (r.inputs) (r.schedule ++ rest)
    ∙ append_assoc ((70 ∷ 82 ∷ []) ++ (1 ∷ [])) (r.flow) (r.inputs ++ (r.schedule ++ rest))
    ∙ append_assoc ((70 ∷ 82 ∷ [])) ((1 ∷ [])) (r.flow ++ (r.inputs ++ (r.schedule ++ rest))))
    ∙ then_ok (kept_if (λ m. m == 18002) ((70 ∷ 82 ∷ []) ++ ((1 ∷ []) ++ (r.flow ++ (r.inputs ++ (r.schedule ++ rest))))) (number_field w16 ((70 ∷ 82 ∷ []) ++ ((1 ∷ []) ++ (r.flow ++ (r.inputs ++ (r.schedule ++ rest))))))) (λ v0. kept_if (λ v. v == 1) v0.1 (byte_of v0.1) >>= (λ v1. any_bytes 32 v1.1 >>= (λ v2. any_bytes 32 v2.1 >>= (λ v3. any_bytes 32 v3.1 >>= (λ v4. Ok (record { flow = v2.0; inputs = v3.0; schedule = v4.0 }, v4.1)))))) (18002, ((1 ∷ []) ++ (r.flow ++ (r.inputs ++ (r.schedule ++ rest))))) (Ok (r, rest)) (magic.again (18002) ((1 ∷ []) ++ (r.flow ++ (r.inputs ++ (r.schedule ++ rest)))) refl) (
    then_ok (kept_if (λ v. v == 1) ((1 ∷ []) ++ (r.flow ++ (r.inputs ++ (r.schedule ++ rest)))) (byte_of ((1 ∷ []) ++ (r.flow ++ (r.inputs ++ (r.schedule ++ rest)))))) (λ v1. any_bytes 32 v1.1 >>= (λ v2. any_bytes 32 v2.1 >>= (λ v3. any_bytes 32 v3.1 >>= (λ v4. Ok (record { flow = v2.0; inputs = v3.0; schedule = v4.0 }, v4.1))))) (1, (r.flow ++ (r.inputs ++ (r.schedule ++ rest)))) (Ok (r, rest)) (version.again (1) (r.flow ++ (r.inputs ++ (r.schedule ++ rest))) refl) (
    then_ok (any_bytes 32 (r.flow ++ (r.inputs ++ (r.schedule ++ rest)))) (λ v2. any_bytes 32 v2.1 >>= (λ v3. any_bytes 32 v3.1 >>= (λ v4. Ok (record { flow = v2.0; inputs = v3.0; schedule = v4.0 }, v4.1)))) (r.flow, (r.inputs ++ (r.schedule ++ rest))) (Ok (r, rest)) ((some_bytes 32).again (r.flow) (r.inputs ++ (r.schedule ++ rest)) sound.flow) (
    then_ok (any_bytes 32 (r.inputs ++ (r.schedule ++ rest))) (λ v3. any_bytes 32 v3.1 >>= (λ v4. Ok (record { flow = (r.flow); inputs = v3.0; schedule = v4.0 }, v4.1))) (r.inputs, (r.schedule ++ rest)) (Ok (r, rest)) ((some_bytes 32).again (r.inputs) (r.schedule ++ rest) sound.inputs) (
    then_ok (any_bytes 32 (r.schedule ++ rest)) (λ v4. Ok (record { flow = (r.flow); inputs = (r.inputs); schedule = v4.0 }, v4.1)) (r.schedule, rest) (Ok (r, rest)) ((some_bytes 32).again (r.schedule) rest sound.schedule) (
    refl)))))

digests_inside : ReadsInside (read_digests)
unfolding read_digests
digests_inside n bytes le =
    inside_then n (kept_if (λ m. m == 18002) bytes (number_field w16 bytes)) (λ v0. kept_if (λ v. v == 1) v0.1 (byte_of v0.1) >>= (λ v1. any_bytes 32 v1.1 >>= (λ v2. any_bytes 32 v2.1 >>= (λ v3. any_bytes 32 v3.1 >>= (λ v4. Ok (record { flow = v2.0; inputs = v3.0; schedule = v4.0 }, v4.1)))))) (magic.inside n bytes le) (λ s0 l0.
    inside_then n (kept_if (λ v. v == 1) s0.1 (byte_of s0.1)) (λ v1. any_bytes 32 v1.1 >>= (λ v2. any_bytes 32 v2.1 >>= (λ v3. any_bytes 32 v3.1 >>= (λ v4. Ok (record { flow = v2.0; inputs = v3.0; schedule = v4.0 }, v4.1))))) (version.inside n s0.1 l0) (λ s1 l1.
    inside_then n (any_bytes 32 s1.1) (λ v2. any_bytes 32 v2.1 >>= (λ v3. any_bytes 32 v3.1 >>= (λ v4. Ok (record { flow = v2.0; inputs = v3.0; schedule = v4.0 }, v4.1)))) ((some_bytes 32).inside n s1.1 l1) (λ s2 l2.
    inside_then n (any_bytes 32 s2.1) (λ v3. any_bytes 32 v3.1 >>= (λ v4. Ok (record { flow = s2.0; inputs = v3.0; schedule = v4.0 }, v4.1))) ((some_bytes 32).inside n s2.1 l2) (λ s3 l3.
    inside_then n (any_bytes 32 s3.1) (λ v4. Ok (record { flow = s2.0; inputs = s3.0; schedule = v4.0 }, v4.1)) ((some_bytes 32).inside n s3.1 l3) (λ s4 l4.
    l4)))))

pub digests : IsExactReading (read_digests) digests_bytes AreDigests
digests = record { takes = digests_takes; again = digests_again; inside = digests_inside }

-- ---- a mark and the next id

-- where a run stands, and a next id
abbrev pub PlacedMark : Type 0
PlacedMark = Mark × ℕ

abbrev pub placed_bytes : PlacedMark → List ℕ
placed_bytes p = mark_bytes p.0 p.1

abbrev pub IsPlaced : PlacedMark → Type 0
IsPlaced p = IsMark p.0 × (p.1 < 2 ^ 62)

marks_takes : (bytes : List ℕ) (x : PlacedMark × List ℕ) → AreBytes bytes → read_mark bytes ≡ Ok x → AreSplit bytes (placed_bytes x.0) x.1 × IsPlaced x.0
unfolding read_mark mark_bytes
marks_takes bytes x fits e =
    step digests bytes [] bytes (λ v0. small_number v0.1 >>= (λ v1. small_number v1.1 >>= (λ v2. small_number v2.1 >>= (λ v3. small_number v3.1 >>= (λ v4. small_number v4.1 >>= (λ v5. small_number v5.1 >>= (λ v6. read_lines v6.1 >>= (λ v7. Ok ((record { digests = v0.0; turn = v1.0; line = v2.0; singles = v3.0; steps = v4.0; idle = v5.0; lines = v7.0 }, v6.0), v7.1))))))))) x (AreSplit bytes (placed_bytes x.0) x.1 × IsPlaced x.0) (starts bytes fits) e (λ s0 f0 t0 e0.
    step small bytes (digests_bytes s0.0) s0.1 (λ v1. small_number v1.1 >>= (λ v2. small_number v2.1 >>= (λ v3. small_number v3.1 >>= (λ v4. small_number v4.1 >>= (λ v5. small_number v5.1 >>= (λ v6. read_lines v6.1 >>= (λ v7. Ok ((record { digests = s0.0; turn = v1.0; line = v2.0; singles = v3.0; steps = v4.0; idle = v5.0; lines = v7.0 }, v6.0), v7.1)))))))) x (AreSplit bytes (placed_bytes x.0) x.1 × IsPlaced x.0) t0 e0 (λ s1 f1 t1 e1.
    step small bytes (digests_bytes s0.0 ++ u64_bytes s1.0) s1.1 (λ v2. small_number v2.1 >>= (λ v3. small_number v3.1 >>= (λ v4. small_number v4.1 >>= (λ v5. small_number v5.1 >>= (λ v6. read_lines v6.1 >>= (λ v7. Ok ((record { digests = s0.0; turn = s1.0; line = v2.0; singles = v3.0; steps = v4.0; idle = v5.0; lines = v7.0 }, v6.0), v7.1))))))) x (AreSplit bytes (placed_bytes x.0) x.1 × IsPlaced x.0) t1 e1 (λ s2 f2 t2 e2.
    step small bytes (digests_bytes s0.0 ++ u64_bytes s1.0 ++ u64_bytes s2.0) s2.1 (λ v3. small_number v3.1 >>= (λ v4. small_number v4.1 >>= (λ v5. small_number v5.1 >>= (λ v6. read_lines v6.1 >>= (λ v7. Ok ((record { digests = s0.0; turn = s1.0; line = s2.0; singles = v3.0; steps = v4.0; idle = v5.0; lines = v7.0 }, v6.0), v7.1)))))) x (AreSplit bytes (placed_bytes x.0) x.1 × IsPlaced x.0) t2 e2 (λ s3 f3 t3 e3.
    step small bytes (digests_bytes s0.0 ++ u64_bytes s1.0 ++ u64_bytes s2.0 ++ u64_bytes s3.0) s3.1 (λ v4. small_number v4.1 >>= (λ v5. small_number v5.1 >>= (λ v6. read_lines v6.1 >>= (λ v7. Ok ((record { digests = s0.0; turn = s1.0; line = s2.0; singles = s3.0; steps = v4.0; idle = v5.0; lines = v7.0 }, v6.0), v7.1))))) x (AreSplit bytes (placed_bytes x.0) x.1 × IsPlaced x.0) t3 e3 (λ s4 f4 t4 e4.
    step small bytes (digests_bytes s0.0 ++ u64_bytes s1.0 ++ u64_bytes s2.0 ++ u64_bytes s3.0 ++ u64_bytes s4.0) s4.1 (λ v5. small_number v5.1 >>= (λ v6. read_lines v6.1 >>= (λ v7. Ok ((record { digests = s0.0; turn = s1.0; line = s2.0; singles = s3.0; steps = s4.0; idle = v5.0; lines = v7.0 }, v6.0), v7.1)))) x (AreSplit bytes (placed_bytes x.0) x.1 × IsPlaced x.0) t4 e4 (λ s5 f5 t5 e5.
    step small bytes (digests_bytes s0.0 ++ u64_bytes s1.0 ++ u64_bytes s2.0 ++ u64_bytes s3.0 ++ u64_bytes s4.0 ++ u64_bytes s5.0) s5.1 (λ v6. read_lines v6.1 >>= (λ v7. Ok ((record { digests = s0.0; turn = s1.0; line = s2.0; singles = s3.0; steps = s4.0; idle = s5.0; lines = v7.0 }, v6.0), v7.1))) x (AreSplit bytes (placed_bytes x.0) x.1 × IsPlaced x.0) t5 e5 (λ s6 f6 t6 e6.
    step lines bytes (digests_bytes s0.0 ++ u64_bytes s1.0 ++ u64_bytes s2.0 ++ u64_bytes s3.0 ++ u64_bytes s4.0 ++ u64_bytes s5.0 ++ u64_bytes s6.0) s6.1 (λ v7. Ok ((record { digests = s0.0; turn = s1.0; line = s2.0; singles = s3.0; steps = s4.0; idle = s5.0; lines = v7.0 }, s6.0), v7.1)) x (AreSplit bytes (placed_bytes x.0) x.1 × IsPlaced x.0) t6 e6 (λ s7 f7 t7 e7.
    subst (λ (y : PlacedMark × List ℕ). AreSplit bytes (placed_bytes y.0) y.1 × IsPlaced y.0) (ok_is ((record { digests = s0.0; turn = s1.0; line = s2.0; singles = s3.0; steps = s4.0; idle = s5.0; lines = s7.0 }, s6.0), s7.1) x e7) (t7, (record { digests = f0; turn = f1; line = f2; singles = f3; steps = f4; idle = f5; lines = f7 }, f6))))))))))

marks_again : (r : PlacedMark) (rest : List ℕ) → IsPlaced r → read_mark (placed_bytes r ++ rest) ≡ Ok (r, rest)
unfolding read_mark mark_bytes
marks_again r rest sound =
    ap (read_mark) (append_assoc (digests_bytes r.0.digests ++ u64_bytes r.0.turn ++ u64_bytes r.0.line ++ u64_bytes r.0.singles ++ u64_bytes r.0.steps ++ u64_bytes r.0.idle ++ u64_bytes r.1) (lines_bytes r.0.lines) rest
    ∙ append_assoc (digests_bytes r.0.digests ++ u64_bytes r.0.turn ++ u64_bytes r.0.line ++ u64_bytes r.0.singles ++ u64_bytes r.0.steps ++ u64_bytes r.0.idle) (u64_bytes r.1) (lines_bytes r.0.lines ++ rest)
    ∙ append_assoc (digests_bytes r.0.digests ++ u64_bytes r.0.turn ++ u64_bytes r.0.line ++ u64_bytes r.0.singles ++ u64_bytes r.0.steps) (u64_bytes r.0.idle) (u64_bytes r.1 ++ (lines_bytes r.0.lines ++ rest))
    ∙ append_assoc (digests_bytes r.0.digests ++ u64_bytes r.0.turn ++ u64_bytes r.0.line ++ u64_bytes r.0.singles) (u64_bytes r.0.steps) (u64_bytes r.0.idle ++ (u64_bytes r.1 ++ (lines_bytes r.0.lines ++ rest)))
    ∙ append_assoc (digests_bytes r.0.digests ++ u64_bytes r.0.turn ++ u64_bytes r.0.line) (u64_bytes r.0.singles) (u64_bytes r.0.steps ++ (u64_bytes r.0.idle ++ (u64_bytes r.1 ++ (lines_bytes r.0.lines ++ rest))))
    ∙ append_assoc (digests_bytes r.0.digests ++ u64_bytes r.0.turn) (u64_bytes r.0.line) (u64_bytes r.0.singles ++ (u64_bytes r.0.steps ++ (u64_bytes r.0.idle ++ (u64_bytes r.1 ++ (lines_bytes r.0.lines ++ rest)))))
    ∙ append_assoc (digests_bytes r.0.digests) (u64_bytes r.0.turn) (u64_bytes r.0.line ++ (u64_bytes r.0.singles ++ (u64_bytes r.0.steps ++ (u64_bytes r.0.idle ++ (u64_bytes r.1 ++ (lines_bytes r.0.lines ++ rest)))))))
    ∙ then_ok (read_digests (digests_bytes r.0.digests ++ (u64_bytes r.0.turn ++ (u64_bytes r.0.line ++ (u64_bytes r.0.singles ++ (u64_bytes r.0.steps ++ (u64_bytes r.0.idle ++ (u64_bytes r.1 ++ (lines_bytes r.0.lines ++ rest))))))))) (λ v0. small_number v0.1 >>= (λ v1. small_number v1.1 >>= (λ v2. small_number v2.1 >>= (λ v3. small_number v3.1 >>= (λ v4. small_number v4.1 >>= (λ v5. small_number v5.1 >>= (λ v6. read_lines v6.1 >>= (λ v7. Ok ((record { digests = v0.0; turn = v1.0; line = v2.0; singles = v3.0; steps = v4.0; idle = v5.0; lines = v7.0 }, v6.0), v7.1))))))))) (r.0.digests, (u64_bytes r.0.turn ++ (u64_bytes r.0.line ++ (u64_bytes r.0.singles ++ (u64_bytes r.0.steps ++ (u64_bytes r.0.idle ++ (u64_bytes r.1 ++ (lines_bytes r.0.lines ++ rest)))))))) (Ok (r, rest)) (digests.again (r.0.digests) (u64_bytes r.0.turn ++ (u64_bytes r.0.line ++ (u64_bytes r.0.singles ++ (u64_bytes r.0.steps ++ (u64_bytes r.0.idle ++ (u64_bytes r.1 ++ (lines_bytes r.0.lines ++ rest))))))) sound.0.digests) (
    then_ok (small_number (u64_bytes r.0.turn ++ (u64_bytes r.0.line ++ (u64_bytes r.0.singles ++ (u64_bytes r.0.steps ++ (u64_bytes r.0.idle ++ (u64_bytes r.1 ++ (lines_bytes r.0.lines ++ rest)))))))) (λ v1. small_number v1.1 >>= (λ v2. small_number v2.1 >>= (λ v3. small_number v3.1 >>= (λ v4. small_number v4.1 >>= (λ v5. small_number v5.1 >>= (λ v6. read_lines v6.1 >>= (λ v7. Ok ((record { digests = (r.0.digests); turn = v1.0; line = v2.0; singles = v3.0; steps = v4.0; idle = v5.0; lines = v7.0 }, v6.0), v7.1)))))))) (r.0.turn, (u64_bytes r.0.line ++ (u64_bytes r.0.singles ++ (u64_bytes r.0.steps ++ (u64_bytes r.0.idle ++ (u64_bytes r.1 ++ (lines_bytes r.0.lines ++ rest))))))) (Ok (r, rest)) (small.again (r.0.turn) (u64_bytes r.0.line ++ (u64_bytes r.0.singles ++ (u64_bytes r.0.steps ++ (u64_bytes r.0.idle ++ (u64_bytes r.1 ++ (lines_bytes r.0.lines ++ rest)))))) sound.0.turn) (
    then_ok (small_number (u64_bytes r.0.line ++ (u64_bytes r.0.singles ++ (u64_bytes r.0.steps ++ (u64_bytes r.0.idle ++ (u64_bytes r.1 ++ (lines_bytes r.0.lines ++ rest))))))) (λ v2. small_number v2.1 >>= (λ v3. small_number v3.1 >>= (λ v4. small_number v4.1 >>= (λ v5. small_number v5.1 >>= (λ v6. read_lines v6.1 >>= (λ v7. Ok ((record { digests = (r.0.digests); turn = (r.0.turn); line = v2.0; singles = v3.0; steps = v4.0; idle = v5.0; lines = v7.0 }, v6.0), v7.1))))))) (r.0.line, (u64_bytes r.0.singles ++ (u64_bytes r.0.steps ++ (u64_bytes r.0.idle ++ (u64_bytes r.1 ++ (lines_bytes r.0.lines ++ rest)))))) (Ok (r, rest)) (small.again (r.0.line) (u64_bytes r.0.singles ++ (u64_bytes r.0.steps ++ (u64_bytes r.0.idle ++ (u64_bytes r.1 ++ (lines_bytes r.0.lines ++ rest))))) sound.0.line) (
    then_ok (small_number (u64_bytes r.0.singles ++ (u64_bytes r.0.steps ++ (u64_bytes r.0.idle ++ (u64_bytes r.1 ++ (lines_bytes r.0.lines ++ rest)))))) (λ v3. small_number v3.1 >>= (λ v4. small_number v4.1 >>= (λ v5. small_number v5.1 >>= (λ v6. read_lines v6.1 >>= (λ v7. Ok ((record { digests = (r.0.digests); turn = (r.0.turn); line = (r.0.line); singles = v3.0; steps = v4.0; idle = v5.0; lines = v7.0 }, v6.0), v7.1)))))) (r.0.singles, (u64_bytes r.0.steps ++ (u64_bytes r.0.idle ++ (u64_bytes r.1 ++ (lines_bytes r.0.lines ++ rest))))) (Ok (r, rest)) (small.again (r.0.singles) (u64_bytes r.0.steps ++ (u64_bytes r.0.idle ++ (u64_bytes r.1 ++ (lines_bytes r.0.lines ++ rest)))) sound.0.singles) (
    then_ok (small_number (u64_bytes r.0.steps ++ (u64_bytes r.0.idle ++ (u64_bytes r.1 ++ (lines_bytes r.0.lines ++ rest))))) (λ v4. small_number v4.1 >>= (λ v5. small_number v5.1 >>= (λ v6. read_lines v6.1 >>= (λ v7. Ok ((record { digests = (r.0.digests); turn = (r.0.turn); line = (r.0.line); singles = (r.0.singles); steps = v4.0; idle = v5.0; lines = v7.0 }, v6.0), v7.1))))) (r.0.steps, (u64_bytes r.0.idle ++ (u64_bytes r.1 ++ (lines_bytes r.0.lines ++ rest)))) (Ok (r, rest)) (small.again (r.0.steps) (u64_bytes r.0.idle ++ (u64_bytes r.1 ++ (lines_bytes r.0.lines ++ rest))) sound.0.steps) (
    then_ok (small_number (u64_bytes r.0.idle ++ (u64_bytes r.1 ++ (lines_bytes r.0.lines ++ rest)))) (λ v5. small_number v5.1 >>= (λ v6. read_lines v6.1 >>= (λ v7. Ok ((record { digests = (r.0.digests); turn = (r.0.turn); line = (r.0.line); singles = (r.0.singles); steps = (r.0.steps); idle = v5.0; lines = v7.0 }, v6.0), v7.1)))) (r.0.idle, (u64_bytes r.1 ++ (lines_bytes r.0.lines ++ rest))) (Ok (r, rest)) (small.again (r.0.idle) (u64_bytes r.1 ++ (lines_bytes r.0.lines ++ rest)) sound.0.idle) (
    then_ok (small_number (u64_bytes r.1 ++ (lines_bytes r.0.lines ++ rest))) (λ v6. read_lines v6.1 >>= (λ v7. Ok ((record { digests = (r.0.digests); turn = (r.0.turn); line = (r.0.line); singles = (r.0.singles); steps = (r.0.steps); idle = (r.0.idle); lines = v7.0 }, v6.0), v7.1))) (r.1, (lines_bytes r.0.lines ++ rest)) (Ok (r, rest)) (small.again (r.1) (lines_bytes r.0.lines ++ rest) sound.1) (
    then_ok (read_lines (lines_bytes r.0.lines ++ rest)) (λ v7. Ok ((record { digests = (r.0.digests); turn = (r.0.turn); line = (r.0.line); singles = (r.0.singles); steps = (r.0.steps); idle = (r.0.idle); lines = v7.0 }, (r.1)), v7.1)) (r.0.lines, rest) (Ok (r, rest)) (lines.again (r.0.lines) rest sound.0.lines) (
    refl))))))))

marks_inside : ReadsInside (read_mark)
unfolding read_mark
marks_inside n bytes le =
    inside_then n (read_digests bytes) (λ v0. small_number v0.1 >>= (λ v1. small_number v1.1 >>= (λ v2. small_number v2.1 >>= (λ v3. small_number v3.1 >>= (λ v4. small_number v4.1 >>= (λ v5. small_number v5.1 >>= (λ v6. read_lines v6.1 >>= (λ v7. Ok ((record { digests = v0.0; turn = v1.0; line = v2.0; singles = v3.0; steps = v4.0; idle = v5.0; lines = v7.0 }, v6.0), v7.1))))))))) (digests.inside n bytes le) (λ s0 l0.
    inside_then n (small_number s0.1) (λ v1. small_number v1.1 >>= (λ v2. small_number v2.1 >>= (λ v3. small_number v3.1 >>= (λ v4. small_number v4.1 >>= (λ v5. small_number v5.1 >>= (λ v6. read_lines v6.1 >>= (λ v7. Ok ((record { digests = s0.0; turn = v1.0; line = v2.0; singles = v3.0; steps = v4.0; idle = v5.0; lines = v7.0 }, v6.0), v7.1)))))))) (small.inside n s0.1 l0) (λ s1 l1.
    inside_then n (small_number s1.1) (λ v2. small_number v2.1 >>= (λ v3. small_number v3.1 >>= (λ v4. small_number v4.1 >>= (λ v5. small_number v5.1 >>= (λ v6. read_lines v6.1 >>= (λ v7. Ok ((record { digests = s0.0; turn = s1.0; line = v2.0; singles = v3.0; steps = v4.0; idle = v5.0; lines = v7.0 }, v6.0), v7.1))))))) (small.inside n s1.1 l1) (λ s2 l2.
    inside_then n (small_number s2.1) (λ v3. small_number v3.1 >>= (λ v4. small_number v4.1 >>= (λ v5. small_number v5.1 >>= (λ v6. read_lines v6.1 >>= (λ v7. Ok ((record { digests = s0.0; turn = s1.0; line = s2.0; singles = v3.0; steps = v4.0; idle = v5.0; lines = v7.0 }, v6.0), v7.1)))))) (small.inside n s2.1 l2) (λ s3 l3.
    inside_then n (small_number s3.1) (λ v4. small_number v4.1 >>= (λ v5. small_number v5.1 >>= (λ v6. read_lines v6.1 >>= (λ v7. Ok ((record { digests = s0.0; turn = s1.0; line = s2.0; singles = s3.0; steps = v4.0; idle = v5.0; lines = v7.0 }, v6.0), v7.1))))) (small.inside n s3.1 l3) (λ s4 l4.
    inside_then n (small_number s4.1) (λ v5. small_number v5.1 >>= (λ v6. read_lines v6.1 >>= (λ v7. Ok ((record { digests = s0.0; turn = s1.0; line = s2.0; singles = s3.0; steps = s4.0; idle = v5.0; lines = v7.0 }, v6.0), v7.1)))) (small.inside n s4.1 l4) (λ s5 l5.
    inside_then n (small_number s5.1) (λ v6. read_lines v6.1 >>= (λ v7. Ok ((record { digests = s0.0; turn = s1.0; line = s2.0; singles = s3.0; steps = s4.0; idle = s5.0; lines = v7.0 }, v6.0), v7.1))) (small.inside n s5.1 l5) (λ s6 l6.
    inside_then n (read_lines s6.1) (λ v7. Ok ((record { digests = s0.0; turn = s1.0; line = s2.0; singles = s3.0; steps = s4.0; idle = s5.0; lines = v7.0 }, s6.0), v7.1)) (lines.inside n s6.1 l6) (λ s7 l7.
    l7))))))))

pub marks : IsExactReading (read_mark) placed_bytes IsPlaced
marks = record { takes = marks_takes; again = marks_again; inside = marks_inside }
