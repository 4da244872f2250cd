-- Changes are read as they are spelled.
use Rattle.std.proofs.Common.{◌≡◌, ℕ, ◌<◌, ◌^◌, List, [], ◌++◌, Ok, refl, ap, ◌∙◌, append_assoc, subst}
use Rattle.std.specs.Int.{w32, w64}
use Rattle.fw_record.specs.declared.record.Checkpoint.{Checkpoint}
use Rattle.fw_bytes.specs.Fields.{number_field}
use Rattle.fw_bytes.specs.Spelling.{u32_bytes, u64_bytes, front_bytes}
use Rattle.fw_record.specs.Spelling.{of_edges_bytes, state_bytes, log_bytes, changes_bytes}
use Rattle.fw_record.specs.Sound.{IsCheckpoint}
use Rattle.fw_bytes.specs.Reading.{◌>>=◌, any, read_front}
use Rattle.fw_record.specs.Reading.{of_edges_of, read_state, read_log, read_changes}
use Rattle.fw_bytes.specs.Exact.{AreBytes, AreSplit, IsExactReading}
use Rattle.fw_bytes.proofs.PlaceLaws.{ReadsInside, inside_then}
use Rattle.fw_bytes.proofs.PartLaws.{ok_is, step, starts}
use Rattle.fw_bytes.proofs.ListLaws.{any32, any64, front}
use Rattle.fw_record.proofs.ListLaws.{of_edges, states, logs}

-- the id of a base, and a checkpoint
abbrev pub AreChanges : ℕ × Checkpoint → Type 0
AreChanges x = (x.0 < 2 ^ 64) × IsCheckpoint x.1

changes_takes : (bytes : List ℕ) (x : (ℕ × Checkpoint) × List ℕ) → AreBytes bytes → read_changes bytes ≡ Ok x → AreSplit bytes (changes_bytes x.0.0 x.0.1) x.1 × AreChanges x.0
unfolding read_changes
changes_takes bytes x fits e =
    step any32 bytes ([]) bytes (λ v0. ((read_front v0.1) >>= λ v1. ((any v1.1 (number_field w64 v1.1)) >>= λ v2. ((read_front v2.1) >>= λ v3. ((of_edges_of v3.1) >>= λ v4. ((of_edges_of v4.1) >>= λ v5. ((read_state v5.1) >>= λ v6. ((read_log v6.1) >>= λ v7. Ok ((v2.0, record { node = v0.0; recorded = record { front = v1.0; notified = v3.0; delivered = v4.0; discarded = v5.0 }; state = v6.0; log = v7.0 }), v7.1))))))))) x (AreSplit bytes (changes_bytes x.0.0 x.0.1) x.1 × AreChanges x.0) (starts bytes fits) e (λ s0 f0 t0 e0.
    step front bytes (u32_bytes s0.0) s0.1 (λ v1. ((any v1.1 (number_field w64 v1.1)) >>= λ v2. ((read_front v2.1) >>= λ v3. ((of_edges_of v3.1) >>= λ v4. ((of_edges_of v4.1) >>= λ v5. ((read_state v5.1) >>= λ v6. ((read_log v6.1) >>= λ v7. Ok ((v2.0, record { node = s0.0; recorded = record { front = v1.0; notified = v3.0; delivered = v4.0; discarded = v5.0 }; state = v6.0; log = v7.0 }), v7.1)))))))) x (AreSplit bytes (changes_bytes x.0.0 x.0.1) x.1 × AreChanges x.0) t0 e0 (λ s1 f1 t1 e1.
    step any64 bytes (u32_bytes s0.0 ++ front_bytes s1.0) s1.1 (λ v2. ((read_front v2.1) >>= λ v3. ((of_edges_of v3.1) >>= λ v4. ((of_edges_of v4.1) >>= λ v5. ((read_state v5.1) >>= λ v6. ((read_log v6.1) >>= λ v7. Ok ((v2.0, record { node = s0.0; recorded = record { front = s1.0; notified = v3.0; delivered = v4.0; discarded = v5.0 }; state = v6.0; log = v7.0 }), v7.1))))))) x (AreSplit bytes (changes_bytes x.0.0 x.0.1) x.1 × AreChanges x.0) t1 e1 (λ s2 f2 t2 e2.
    step front bytes (u32_bytes s0.0 ++ front_bytes s1.0 ++ u64_bytes s2.0) s2.1 (λ v3. ((of_edges_of v3.1) >>= λ v4. ((of_edges_of v4.1) >>= λ v5. ((read_state v5.1) >>= λ v6. ((read_log v6.1) >>= λ v7. Ok ((s2.0, record { node = s0.0; recorded = record { front = s1.0; notified = v3.0; delivered = v4.0; discarded = v5.0 }; state = v6.0; log = v7.0 }), v7.1)))))) x (AreSplit bytes (changes_bytes x.0.0 x.0.1) x.1 × AreChanges x.0) t2 e2 (λ s3 f3 t3 e3.
    step of_edges bytes (u32_bytes s0.0 ++ front_bytes s1.0 ++ u64_bytes s2.0 ++ front_bytes s3.0) s3.1 (λ v4. ((of_edges_of v4.1) >>= λ v5. ((read_state v5.1) >>= λ v6. ((read_log v6.1) >>= λ v7. Ok ((s2.0, record { node = s0.0; recorded = record { front = s1.0; notified = s3.0; delivered = v4.0; discarded = v5.0 }; state = v6.0; log = v7.0 }), v7.1))))) x (AreSplit bytes (changes_bytes x.0.0 x.0.1) x.1 × AreChanges x.0) t3 e3 (λ s4 f4 t4 e4.
    step of_edges bytes (u32_bytes s0.0 ++ front_bytes s1.0 ++ u64_bytes s2.0 ++ front_bytes s3.0 ++ of_edges_bytes s4.0) s4.1 (λ v5. ((read_state v5.1) >>= λ v6. ((read_log v6.1) >>= λ v7. Ok ((s2.0, record { node = s0.0; recorded = record { front = s1.0; notified = s3.0; delivered = s4.0; discarded = v5.0 }; state = v6.0; log = v7.0 }), v7.1)))) x (AreSplit bytes (changes_bytes x.0.0 x.0.1) x.1 × AreChanges x.0) t4 e4 (λ s5 f5 t5 e5.
    step states bytes (u32_bytes s0.0 ++ front_bytes s1.0 ++ u64_bytes s2.0 ++ front_bytes s3.0 ++ of_edges_bytes s4.0 ++ of_edges_bytes s5.0) s5.1 (λ v6. ((read_log v6.1) >>= λ v7. Ok ((s2.0, record { node = s0.0; recorded = record { front = s1.0; notified = s3.0; delivered = s4.0; discarded = s5.0 }; state = v6.0; log = v7.0 }), v7.1))) x (AreSplit bytes (changes_bytes x.0.0 x.0.1) x.1 × AreChanges x.0) t5 e5 (λ s6 f6 t6 e6.
    step logs bytes (u32_bytes s0.0 ++ front_bytes s1.0 ++ u64_bytes s2.0 ++ front_bytes s3.0 ++ of_edges_bytes s4.0 ++ of_edges_bytes s5.0 ++ state_bytes s6.0) s6.1 (λ v7. Ok ((s2.0, record { node = s0.0; recorded = record { front = s1.0; notified = s3.0; delivered = s4.0; discarded = s5.0 }; state = s6.0; log = v7.0 }), v7.1)) x (AreSplit bytes (changes_bytes x.0.0 x.0.1) x.1 × AreChanges x.0) t6 e6 (λ s7 f7 t7 e7.
    subst (λ (y : (ℕ × Checkpoint) × List ℕ). AreSplit bytes (changes_bytes y.0.0 y.0.1) y.1 × AreChanges y.0) (ok_is ((s2.0, record { node = s0.0; recorded = record { front = s1.0; notified = s3.0; delivered = s4.0; discarded = s5.0 }; state = s6.0; log = s7.0 }), s7.1) x e7) (t7, (f2, record { node = f0; front = f1; notified = f3; delivered = f4; discarded = f5; state = f6; log = f7 }))))))))))

changes_again : (base : ℕ) (c : Checkpoint) (rest : List ℕ) → AreChanges (base, c) → read_changes (changes_bytes base c ++ rest) ≡ Ok ((base, c), rest)
unfolding read_changes
changes_again base c rest sound =
    ap read_changes (append_assoc (u32_bytes c.node ++ front_bytes c.recorded.front ++ u64_bytes base ++ front_bytes c.recorded.notified ++ of_edges_bytes c.recorded.delivered ++ of_edges_bytes c.recorded.discarded ++ state_bytes c.state) (log_bytes c.log) rest
    ∙ append_assoc (u32_bytes c.node ++ front_bytes c.recorded.front ++ u64_bytes base ++ front_bytes c.recorded.notified ++ of_edges_bytes c.recorded.delivered ++ of_edges_bytes c.recorded.discarded) (state_bytes c.state) (log_bytes c.log ++ rest)
    ∙ append_assoc (u32_bytes c.node ++ front_bytes c.recorded.front ++ u64_bytes base ++ front_bytes c.recorded.notified ++ of_edges_bytes c.recorded.delivered) (of_edges_bytes c.recorded.discarded) (state_bytes c.state ++ (log_bytes c.log ++ rest))
    ∙ append_assoc (u32_bytes c.node ++ front_bytes c.recorded.front ++ u64_bytes base ++ front_bytes c.recorded.notified) (of_edges_bytes c.recorded.delivered) (of_edges_bytes c.recorded.discarded ++ (state_bytes c.state ++ (log_bytes c.log ++ rest)))
    ∙ append_assoc (u32_bytes c.node ++ front_bytes c.recorded.front ++ u64_bytes base) (front_bytes c.recorded.notified) (of_edges_bytes c.recorded.delivered ++ (of_edges_bytes c.recorded.discarded ++ (state_bytes c.state ++ (log_bytes c.log ++ rest))))
    ∙ append_assoc (u32_bytes c.node ++ front_bytes c.recorded.front) (u64_bytes base) (front_bytes c.recorded.notified ++ (of_edges_bytes c.recorded.delivered ++ (of_edges_bytes c.recorded.discarded ++ (state_bytes c.state ++ (log_bytes c.log ++ rest)))))
    ∙ append_assoc (u32_bytes c.node) (front_bytes c.recorded.front) (u64_bytes base ++ (front_bytes c.recorded.notified ++ (of_edges_bytes c.recorded.delivered ++ (of_edges_bytes c.recorded.discarded ++ (state_bytes c.state ++ (log_bytes c.log ++ rest)))))))
    ∙ rw (any32.again c.node (front_bytes c.recorded.front ++ (u64_bytes base ++ (front_bytes c.recorded.notified ++ (of_edges_bytes c.recorded.delivered ++ (of_edges_bytes c.recorded.discarded ++ (state_bytes c.state ++ (log_bytes c.log ++ rest))))))) sound.1.node, front.again c.recorded.front (u64_bytes base ++ (front_bytes c.recorded.notified ++ (of_edges_bytes c.recorded.delivered ++ (of_edges_bytes c.recorded.discarded ++ (state_bytes c.state ++ (log_bytes c.log ++ rest)))))) sound.1.front, any64.again base (front_bytes c.recorded.notified ++ (of_edges_bytes c.recorded.delivered ++ (of_edges_bytes c.recorded.discarded ++ (state_bytes c.state ++ (log_bytes c.log ++ rest))))) sound.0, front.again c.recorded.notified (of_edges_bytes c.recorded.delivered ++ (of_edges_bytes c.recorded.discarded ++ (state_bytes c.state ++ (log_bytes c.log ++ rest)))) sound.1.notified, of_edges.again c.recorded.delivered (of_edges_bytes c.recorded.discarded ++ (state_bytes c.state ++ (log_bytes c.log ++ rest))) sound.1.delivered, of_edges.again c.recorded.discarded (state_bytes c.state ++ (log_bytes c.log ++ rest)) sound.1.discarded, states.again c.state (log_bytes c.log ++ rest) sound.1.state, logs.again c.log rest sound.1.log) refl

changes_inside : ReadsInside read_changes
unfolding read_changes
changes_inside n bytes le =
    inside_then n (any bytes (number_field w32 bytes)) (λ v0. ((read_front v0.1) >>= λ v1. ((any v1.1 (number_field w64 v1.1)) >>= λ v2. ((read_front v2.1) >>= λ v3. ((of_edges_of v3.1) >>= λ v4. ((of_edges_of v4.1) >>= λ v5. ((read_state v5.1) >>= λ v6. ((read_log v6.1) >>= λ v7. Ok ((v2.0, record { node = v0.0; recorded = record { front = v1.0; notified = v3.0; delivered = v4.0; discarded = v5.0 }; state = v6.0; log = v7.0 }), v7.1))))))))) (any32.inside n bytes le) (λ s0 l0.
    inside_then n (read_front s0.1) (λ v1. ((any v1.1 (number_field w64 v1.1)) >>= λ v2. ((read_front v2.1) >>= λ v3. ((of_edges_of v3.1) >>= λ v4. ((of_edges_of v4.1) >>= λ v5. ((read_state v5.1) >>= λ v6. ((read_log v6.1) >>= λ v7. Ok ((v2.0, record { node = s0.0; recorded = record { front = v1.0; notified = v3.0; delivered = v4.0; discarded = v5.0 }; state = v6.0; log = v7.0 }), v7.1)))))))) (front.inside n s0.1 l0) (λ s1 l1.
    inside_then n (any s1.1 (number_field w64 s1.1)) (λ v2. ((read_front v2.1) >>= λ v3. ((of_edges_of v3.1) >>= λ v4. ((of_edges_of v4.1) >>= λ v5. ((read_state v5.1) >>= λ v6. ((read_log v6.1) >>= λ v7. Ok ((v2.0, record { node = s0.0; recorded = record { front = s1.0; notified = v3.0; delivered = v4.0; discarded = v5.0 }; state = v6.0; log = v7.0 }), v7.1))))))) (any64.inside n s1.1 l1) (λ s2 l2.
    inside_then n (read_front s2.1) (λ v3. ((of_edges_of v3.1) >>= λ v4. ((of_edges_of v4.1) >>= λ v5. ((read_state v5.1) >>= λ v6. ((read_log v6.1) >>= λ v7. Ok ((s2.0, record { node = s0.0; recorded = record { front = s1.0; notified = v3.0; delivered = v4.0; discarded = v5.0 }; state = v6.0; log = v7.0 }), v7.1)))))) (front.inside n s2.1 l2) (λ s3 l3.
    inside_then n (of_edges_of s3.1) (λ v4. ((of_edges_of v4.1) >>= λ v5. ((read_state v5.1) >>= λ v6. ((read_log v6.1) >>= λ v7. Ok ((s2.0, record { node = s0.0; recorded = record { front = s1.0; notified = s3.0; delivered = v4.0; discarded = v5.0 }; state = v6.0; log = v7.0 }), v7.1))))) (of_edges.inside n s3.1 l3) (λ s4 l4.
    inside_then n (of_edges_of s4.1) (λ v5. ((read_state v5.1) >>= λ v6. ((read_log v6.1) >>= λ v7. Ok ((s2.0, record { node = s0.0; recorded = record { front = s1.0; notified = s3.0; delivered = s4.0; discarded = v5.0 }; state = v6.0; log = v7.0 }), v7.1)))) (of_edges.inside n s4.1 l4) (λ s5 l5.
    inside_then n (read_state s5.1) (λ v6. ((read_log v6.1) >>= λ v7. Ok ((s2.0, record { node = s0.0; recorded = record { front = s1.0; notified = s3.0; delivered = s4.0; discarded = s5.0 }; state = v6.0; log = v7.0 }), v7.1))) (states.inside n s5.1 l5) (λ s6 l6.
    inside_then n (read_log s6.1) (λ v7. Ok ((s2.0, record { node = s0.0; recorded = record { front = s1.0; notified = s3.0; delivered = s4.0; discarded = s5.0 }; state = s6.0; log = v7.0 }), v7.1)) (logs.inside n s6.1 l6) (λ s7 l7.
    l7))))))))

pub changes : IsExactReading read_changes (λ x. changes_bytes x.0 x.1) AreChanges
changes = record { takes = changes_takes; again = λ x rest sound. changes_again x.0 x.1 rest sound; inside = changes_inside }
