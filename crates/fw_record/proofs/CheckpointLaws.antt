-- Checkpoints are read as they are spelled.
use Rattle.std.proofs.Common.{◌≡◌, ℕ, List, [], ◌++◌, Ok, refl, ap, ◌∙◌, append_assoc, subst}
use Rattle.std.specs.Int.{w32}
use Rattle.fw_record.specs.declared.record.Checkpoint.{Checkpoint}
use Rattle.fw_bytes.specs.Fields.{number_field}
use Rattle.fw_bytes.specs.Spelling.{u32_bytes, front_bytes}
use Rattle.fw_record.specs.Spelling.{of_edges_bytes, state_bytes, log_bytes, checkpoint_bytes}
use Rattle.fw_record.specs.Sound.{IsCheckpoint}
use Rattle.fw_bytes.specs.Reading.{◌>>=◌, any, read_front}
use Rattle.fw_record.specs.Reading.{of_edges_of, read_state, read_log, read_checkpoint}
use Rattle.fw_bytes.specs.Exact.{AreBytes, AreSplit, IsExactReading}
use Rattle.fw_bytes.proofs.PlaceLaws.{ReadsInside, inside_then}
use Rattle.fw_bytes.proofs.PartLaws.{ok_is, step, starts}
use Rattle.fw_bytes.proofs.ListLaws.{any32, front}
use Rattle.fw_record.proofs.ListLaws.{of_edges, states, logs}

pub checkpoint_takes : (bytes : List ℕ) (x : Checkpoint × List ℕ) → AreBytes bytes → read_checkpoint bytes ≡ Ok x → AreSplit bytes (checkpoint_bytes x.0) x.1 × IsCheckpoint x.0
unfolding read_checkpoint
checkpoint_takes bytes x fits e =
    step any32 bytes ([]) bytes (λ v0. (read_front v0.1 >>= λ v1. (read_front v1.1 >>= λ v2. (of_edges_of v2.1 >>= λ v3. (of_edges_of v3.1 >>= λ v4. (read_state v4.1 >>= λ v5. (read_log v5.1 >>= λ v6. Ok (record { node = v0.0; recorded = record { front = v1.0; notified = v2.0; delivered = v3.0; discarded = v4.0 }; state = v5.0; log = v6.0 }, v6.1)))))))) x (AreSplit bytes (checkpoint_bytes x.0) x.1 × IsCheckpoint x.0) (starts bytes fits) e (λ s0 f0 t0 e0.
    step front bytes (u32_bytes s0.0) s0.1 (λ v1. (read_front v1.1 >>= λ v2. (of_edges_of v2.1 >>= λ v3. (of_edges_of v3.1 >>= λ v4. (read_state v4.1 >>= λ v5. (read_log v5.1 >>= λ v6. Ok (record { node = s0.0; recorded = record { front = v1.0; notified = v2.0; delivered = v3.0; discarded = v4.0 }; state = v5.0; log = v6.0 }, v6.1))))))) x (AreSplit bytes (checkpoint_bytes x.0) x.1 × IsCheckpoint x.0) t0 e0 (λ s1 f1 t1 e1.
    step front bytes (u32_bytes s0.0 ++ front_bytes s1.0) s1.1 (λ v2. (of_edges_of v2.1 >>= λ v3. (of_edges_of v3.1 >>= λ v4. (read_state v4.1 >>= λ v5. (read_log v5.1 >>= λ v6. Ok (record { node = s0.0; recorded = record { front = s1.0; notified = v2.0; delivered = v3.0; discarded = v4.0 }; state = v5.0; log = v6.0 }, v6.1)))))) x (AreSplit bytes (checkpoint_bytes x.0) x.1 × IsCheckpoint x.0) t1 e1 (λ s2 f2 t2 e2.
    step of_edges bytes (u32_bytes s0.0 ++ front_bytes s1.0 ++ front_bytes s2.0) s2.1 (λ v3. (of_edges_of v3.1 >>= λ v4. (read_state v4.1 >>= λ v5. (read_log v5.1 >>= λ v6. Ok (record { node = s0.0; recorded = record { front = s1.0; notified = s2.0; delivered = v3.0; discarded = v4.0 }; state = v5.0; log = v6.0 }, v6.1))))) x (AreSplit bytes (checkpoint_bytes x.0) x.1 × IsCheckpoint x.0) t2 e2 (λ s3 f3 t3 e3.
    step of_edges bytes (u32_bytes s0.0 ++ front_bytes s1.0 ++ front_bytes s2.0 ++ of_edges_bytes s3.0) s3.1 (λ v4. (read_state v4.1 >>= λ v5. (read_log v5.1 >>= λ v6. Ok (record { node = s0.0; recorded = record { front = s1.0; notified = s2.0; delivered = s3.0; discarded = v4.0 }; state = v5.0; log = v6.0 }, v6.1)))) x (AreSplit bytes (checkpoint_bytes x.0) x.1 × IsCheckpoint x.0) t3 e3 (λ s4 f4 t4 e4.
    step states bytes (u32_bytes s0.0 ++ front_bytes s1.0 ++ front_bytes s2.0 ++ of_edges_bytes s3.0 ++ of_edges_bytes s4.0) s4.1 (λ v5. (read_log v5.1 >>= λ v6. Ok (record { node = s0.0; recorded = record { front = s1.0; notified = s2.0; delivered = s3.0; discarded = s4.0 }; state = v5.0; log = v6.0 }, v6.1))) x (AreSplit bytes (checkpoint_bytes x.0) x.1 × IsCheckpoint x.0) t4 e4 (λ s5 f5 t5 e5.
    step logs bytes (u32_bytes s0.0 ++ front_bytes s1.0 ++ front_bytes s2.0 ++ of_edges_bytes s3.0 ++ of_edges_bytes s4.0 ++ state_bytes s5.0) s5.1 (λ v6. Ok (record { node = s0.0; recorded = record { front = s1.0; notified = s2.0; delivered = s3.0; discarded = s4.0 }; state = s5.0; log = v6.0 }, v6.1)) x (AreSplit bytes (checkpoint_bytes x.0) x.1 × IsCheckpoint x.0) t5 e5 (λ s6 f6 t6 e6.
    subst (λ (y : Checkpoint × List ℕ). AreSplit bytes (checkpoint_bytes y.0) y.1 × IsCheckpoint y.0) (ok_is (record { node = s0.0; recorded = record { front = s1.0; notified = s2.0; delivered = s3.0; discarded = s4.0 }; state = s5.0; log = s6.0 }, s6.1) x e6) (t6, record { node = f0; front = f1; notified = f2; delivered = f3; discarded = f4; state = f5; log = f6 }))))))))

pub checkpoint_again : (c : Checkpoint) (rest : List ℕ) → IsCheckpoint c → read_checkpoint (checkpoint_bytes c ++ rest) ≡ Ok (c, rest)
unfolding read_checkpoint
checkpoint_again c rest sound =
    ap read_checkpoint (append_assoc (u32_bytes c.node ++ front_bytes c.recorded.front ++ front_bytes c.recorded.notified ++ of_edges_bytes c.recorded.delivered ++ of_edges_bytes c.recorded.discarded ++ state_bytes c.state) (log_bytes c.log) rest
    ∙ append_assoc (u32_bytes c.node ++ front_bytes c.recorded.front ++ front_bytes c.recorded.notified ++ of_edges_bytes c.recorded.delivered ++ of_edges_bytes c.recorded.discarded) (state_bytes c.state) (log_bytes c.log ++ rest)
    ∙ append_assoc (u32_bytes c.node ++ front_bytes c.recorded.front ++ front_bytes c.recorded.notified ++ of_edges_bytes c.recorded.delivered) (of_edges_bytes c.recorded.discarded) (state_bytes c.state ++ (log_bytes c.log ++ rest))
    ∙ append_assoc (u32_bytes c.node ++ front_bytes c.recorded.front ++ front_bytes c.recorded.notified) (of_edges_bytes c.recorded.delivered) (of_edges_bytes c.recorded.discarded ++ (state_bytes c.state ++ (log_bytes c.log ++ rest)))
    ∙ append_assoc (u32_bytes c.node ++ front_bytes c.recorded.front) (front_bytes c.recorded.notified) (of_edges_bytes c.recorded.delivered ++ (of_edges_bytes c.recorded.discarded ++ (state_bytes c.state ++ (log_bytes c.log ++ rest))))
    ∙ append_assoc (u32_bytes c.node) (front_bytes c.recorded.front) (front_bytes c.recorded.notified ++ (of_edges_bytes c.recorded.delivered ++ (of_edges_bytes c.recorded.discarded ++ (state_bytes c.state ++ (log_bytes c.log ++ rest))))))
    ∙ rw (any32.again c.node (front_bytes c.recorded.front ++ (front_bytes c.recorded.notified ++ (of_edges_bytes c.recorded.delivered ++ (of_edges_bytes c.recorded.discarded ++ (state_bytes c.state ++ (log_bytes c.log ++ rest)))))) sound.node, front.again c.recorded.front (front_bytes c.recorded.notified ++ (of_edges_bytes c.recorded.delivered ++ (of_edges_bytes c.recorded.discarded ++ (state_bytes c.state ++ (log_bytes c.log ++ rest))))) sound.front, front.again c.recorded.notified (of_edges_bytes c.recorded.delivered ++ (of_edges_bytes c.recorded.discarded ++ (state_bytes c.state ++ (log_bytes c.log ++ rest)))) sound.notified, of_edges.again c.recorded.delivered (of_edges_bytes c.recorded.discarded ++ (state_bytes c.state ++ (log_bytes c.log ++ rest))) sound.delivered, of_edges.again c.recorded.discarded (state_bytes c.state ++ (log_bytes c.log ++ rest)) sound.discarded, states.again c.state (log_bytes c.log ++ rest) sound.state, logs.again c.log rest sound.log) refl

checkpoint_inside : ReadsInside read_checkpoint
unfolding read_checkpoint
checkpoint_inside n bytes le =
    inside_then n (any bytes (number_field w32 bytes)) (λ v0. ((read_front v0.1) >>= λ v1. ((read_front v1.1) >>= λ v2. ((of_edges_of v2.1) >>= λ v3. ((of_edges_of v3.1) >>= λ v4. ((read_state v4.1) >>= λ v5. ((read_log v5.1) >>= λ v6. Ok (record { node = v0.0; recorded = record { front = v1.0; notified = v2.0; delivered = v3.0; discarded = v4.0 }; state = v5.0; log = v6.0 }, v6.1)))))))) (any32.inside n bytes le) (λ s0 l0.
    inside_then n (read_front s0.1) (λ v1. ((read_front v1.1) >>= λ v2. ((of_edges_of v2.1) >>= λ v3. ((of_edges_of v3.1) >>= λ v4. ((read_state v4.1) >>= λ v5. ((read_log v5.1) >>= λ v6. Ok (record { node = s0.0; recorded = record { front = v1.0; notified = v2.0; delivered = v3.0; discarded = v4.0 }; state = v5.0; log = v6.0 }, v6.1))))))) (front.inside n s0.1 l0) (λ s1 l1.
    inside_then n (read_front s1.1) (λ v2. ((of_edges_of v2.1) >>= λ v3. ((of_edges_of v3.1) >>= λ v4. ((read_state v4.1) >>= λ v5. ((read_log v5.1) >>= λ v6. Ok (record { node = s0.0; recorded = record { front = s1.0; notified = v2.0; delivered = v3.0; discarded = v4.0 }; state = v5.0; log = v6.0 }, v6.1)))))) (front.inside n s1.1 l1) (λ s2 l2.
    inside_then n (of_edges_of s2.1) (λ v3. ((of_edges_of v3.1) >>= λ v4. ((read_state v4.1) >>= λ v5. ((read_log v5.1) >>= λ v6. Ok (record { node = s0.0; recorded = record { front = s1.0; notified = s2.0; delivered = v3.0; discarded = v4.0 }; state = v5.0; log = v6.0 }, v6.1))))) (of_edges.inside n s2.1 l2) (λ s3 l3.
    inside_then n (of_edges_of s3.1) (λ v4. ((read_state v4.1) >>= λ v5. ((read_log v5.1) >>= λ v6. Ok (record { node = s0.0; recorded = record { front = s1.0; notified = s2.0; delivered = s3.0; discarded = v4.0 }; state = v5.0; log = v6.0 }, v6.1)))) (of_edges.inside n s3.1 l3) (λ s4 l4.
    inside_then n (read_state s4.1) (λ v5. ((read_log v5.1) >>= λ v6. Ok (record { node = s0.0; recorded = record { front = s1.0; notified = s2.0; delivered = s3.0; discarded = s4.0 }; state = v5.0; log = v6.0 }, v6.1))) (states.inside n s4.1 l4) (λ s5 l5.
    inside_then n (read_log s5.1) (λ v6. Ok (record { node = s0.0; recorded = record { front = s1.0; notified = s2.0; delivered = s3.0; discarded = s4.0 }; state = s5.0; log = v6.0 }, v6.1)) (logs.inside n s5.1 l5) (λ s6 l6.
    l6)))))))

pub checkpoints : IsExactReading read_checkpoint checkpoint_bytes IsCheckpoint
checkpoints = record { takes = checkpoint_takes; again = checkpoint_again; inside = checkpoint_inside }
