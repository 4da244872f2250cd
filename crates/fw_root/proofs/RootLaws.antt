-- A root that is read is spelled by the bytes and one of the dataflow, and the spelling of such a root is read again.
use Rattle.std.proofs.Common.{◌≡◌, ℕ, ◌≤◌, Bool, true, false, cond, List, [], ◌++◌, length, Result, Ok, Err, refl, sym, ap, subst, ◌∙◌, append_assoc, arith}
use Rattle.std.specs.Prelude.{◌==◌}
use Rattle.std.specs.List.{flat_map}
use Rattle.std.proofs.lemmas.Bool.{eqb-true}
use Rattle.std.proofs.lemmas.List.{append-nil, nil_from_length}
use Rattle.fw_bytes.specs.Spelling.{u64_bytes, sent_counts_bytes}
use Rattle.fw_bytes.specs.Reading.{Reading, ◌>>=◌}
use Rattle.fw_bytes.specs.Exact.{AreBytes, AreSplit, Leaves, IsExactReading}
use Rattle.fw_bytes.proofs.PlaceLaws.{ReadsInside, inside_then}
use Rattle.fw_bytes.proofs.PartLaws.{bind_ok, guard_ok, ok, step, starts, ok_is}
use Rattle.fw_flow.specs.Dataflow.{Dataflow}
use Rattle.fw_root.specs.declared.of_flow.Role.TheVariants as role
use Rattle.fw_root.specs.declared.root.Root.{Root}
use Rattle.fw_root.specs.OfFlow.{Given, nodes_as}
use Rattle.fw_root.specs.Spelling.{node_fronts_bytes, writes_bytes, ids_bytes, pending_bytes, owed_bytes, root_spelling}
use Rattle.fw_root.specs.Sound.{IsRootFor}
use Rattle.fw_root.specs.Reading.{read_mark, read_numbers, read_fronts, read_writes, read_others, read_pending, read_owed, read_sends, read_root, root_reading}
use Rattle.fw_root.proofs.ExactLaws.{then_ok}
use Rattle.fw_root.proofs.MarkLaws.{PlacedMark, placed_bytes, marks}
use Rattle.fw_root.proofs.ListLaws.{numbers, fronts, writes, others, pending, owed, sends}

-- its mark, with the next id
abbrev placed : Root → PlacedMark
placed r = (r.mark, r.next_id)

roots_takes : (flow : Dataflow) (batches : Given) (bytes : List ℕ) (x : Root × List ℕ) → AreBytes bytes → read_root flow batches bytes ≡ Ok x → AreSplit bytes (root_spelling x.0) x.1 × IsRootFor flow batches x.0
unfolding read_root root_spelling
roots_takes flow batches bytes x fits e =
    step marks bytes [] bytes (λ v0. read_numbers flow batches (nodes_as flow role.Input) v0.1 >>= (λ v1. read_numbers flow batches (nodes_as flow role.Output) v1.1 >>= (λ v2. read_fronts flow batches v1.0 v2.1 >>= (λ v3. read_writes flow v0.0.1 v3.1 >>= (λ v4. read_others v0.0.1 v4.0 v4.1 >>= (λ v5. read_pending flow v5.1 >>= (λ v6. read_owed flow v6.1 >>= (λ v7. read_sends flow v7.1 >>= (λ v8. Ok (record { mark = v0.0.0; next_id = v0.0.1; injected = v1.0; bounds = v2.0; fronts = v3.0; writes = v4.0; others = v5.0; pending = v6.0; owed = v7.0; sends = v8.0 }, v8.1)))))))))) x (AreSplit bytes (root_spelling x.0) x.1 × IsRootFor flow batches x.0) (starts bytes fits) e (λ s0 f0 t0 e0.
    step (numbers flow batches (nodes_as flow role.Input)) bytes (placed_bytes s0.0) s0.1 (λ v1. read_numbers flow batches (nodes_as flow role.Output) v1.1 >>= (λ v2. read_fronts flow batches v1.0 v2.1 >>= (λ v3. read_writes flow s0.0.1 v3.1 >>= (λ v4. read_others s0.0.1 v4.0 v4.1 >>= (λ v5. read_pending flow v5.1 >>= (λ v6. read_owed flow v6.1 >>= (λ v7. read_sends flow v7.1 >>= (λ v8. Ok (record { mark = s0.0.0; next_id = s0.0.1; injected = v1.0; bounds = v2.0; fronts = v3.0; writes = v4.0; others = v5.0; pending = v6.0; owed = v7.0; sends = v8.0 }, v8.1))))))))) x (AreSplit bytes (root_spelling x.0) x.1 × IsRootFor flow batches x.0) t0 e0 (λ s1 f1 t1 e1.
    step (numbers flow batches (nodes_as flow role.Output)) bytes (placed_bytes s0.0 ++ flat_map u64_bytes s1.0) s1.1 (λ v2. read_fronts flow batches s1.0 v2.1 >>= (λ v3. read_writes flow s0.0.1 v3.1 >>= (λ v4. read_others s0.0.1 v4.0 v4.1 >>= (λ v5. read_pending flow v5.1 >>= (λ v6. read_owed flow v6.1 >>= (λ v7. read_sends flow v7.1 >>= (λ v8. Ok (record { mark = s0.0.0; next_id = s0.0.1; injected = s1.0; bounds = v2.0; fronts = v3.0; writes = v4.0; others = v5.0; pending = v6.0; owed = v7.0; sends = v8.0 }, v8.1)))))))) x (AreSplit bytes (root_spelling x.0) x.1 × IsRootFor flow batches x.0) t1 e1 (λ s2 f2 t2 e2.
    step (fronts flow batches s1.0) bytes (placed_bytes s0.0 ++ flat_map u64_bytes s1.0 ++ flat_map u64_bytes s2.0) s2.1 (λ v3. read_writes flow s0.0.1 v3.1 >>= (λ v4. read_others s0.0.1 v4.0 v4.1 >>= (λ v5. read_pending flow v5.1 >>= (λ v6. read_owed flow v6.1 >>= (λ v7. read_sends flow v7.1 >>= (λ v8. Ok (record { mark = s0.0.0; next_id = s0.0.1; injected = s1.0; bounds = s2.0; fronts = v3.0; writes = v4.0; others = v5.0; pending = v6.0; owed = v7.0; sends = v8.0 }, v8.1))))))) x (AreSplit bytes (root_spelling x.0) x.1 × IsRootFor flow batches x.0) t2 e2 (λ s3 f3 t3 e3.
    step (writes flow s0.0.1) bytes (placed_bytes s0.0 ++ flat_map u64_bytes s1.0 ++ flat_map u64_bytes s2.0 ++ flat_map node_fronts_bytes s3.0) s3.1 (λ v4. read_others s0.0.1 v4.0 v4.1 >>= (λ v5. read_pending flow v5.1 >>= (λ v6. read_owed flow v6.1 >>= (λ v7. read_sends flow v7.1 >>= (λ v8. Ok (record { mark = s0.0.0; next_id = s0.0.1; injected = s1.0; bounds = s2.0; fronts = s3.0; writes = v4.0; others = v5.0; pending = v6.0; owed = v7.0; sends = v8.0 }, v8.1)))))) x (AreSplit bytes (root_spelling x.0) x.1 × IsRootFor flow batches x.0) t3 e3 (λ s4 f4 t4 e4.
    step (others s0.0.1 s4.0) bytes (placed_bytes s0.0 ++ flat_map u64_bytes s1.0 ++ flat_map u64_bytes s2.0 ++ flat_map node_fronts_bytes s3.0 ++ writes_bytes s4.0) s4.1 (λ v5. read_pending flow v5.1 >>= (λ v6. read_owed flow v6.1 >>= (λ v7. read_sends flow v7.1 >>= (λ v8. Ok (record { mark = s0.0.0; next_id = s0.0.1; injected = s1.0; bounds = s2.0; fronts = s3.0; writes = s4.0; others = v5.0; pending = v6.0; owed = v7.0; sends = v8.0 }, v8.1))))) x (AreSplit bytes (root_spelling x.0) x.1 × IsRootFor flow batches x.0) t4 e4 (λ s5 f5 t5 e5.
    step (pending flow) bytes (placed_bytes s0.0 ++ flat_map u64_bytes s1.0 ++ flat_map u64_bytes s2.0 ++ flat_map node_fronts_bytes s3.0 ++ writes_bytes s4.0 ++ ids_bytes s5.0) s5.1 (λ v6. read_owed flow v6.1 >>= (λ v7. read_sends flow v7.1 >>= (λ v8. Ok (record { mark = s0.0.0; next_id = s0.0.1; injected = s1.0; bounds = s2.0; fronts = s3.0; writes = s4.0; others = s5.0; pending = v6.0; owed = v7.0; sends = v8.0 }, v8.1)))) x (AreSplit bytes (root_spelling x.0) x.1 × IsRootFor flow batches x.0) t5 e5 (λ s6 f6 t6 e6.
    step (owed flow) bytes (placed_bytes s0.0 ++ flat_map u64_bytes s1.0 ++ flat_map u64_bytes s2.0 ++ flat_map node_fronts_bytes s3.0 ++ writes_bytes s4.0 ++ ids_bytes s5.0 ++ pending_bytes s6.0) s6.1 (λ v7. read_sends flow v7.1 >>= (λ v8. Ok (record { mark = s0.0.0; next_id = s0.0.1; injected = s1.0; bounds = s2.0; fronts = s3.0; writes = s4.0; others = s5.0; pending = s6.0; owed = v7.0; sends = v8.0 }, v8.1))) x (AreSplit bytes (root_spelling x.0) x.1 × IsRootFor flow batches x.0) t6 e6 (λ s7 f7 t7 e7.
    step (sends flow) bytes (placed_bytes s0.0 ++ flat_map u64_bytes s1.0 ++ flat_map u64_bytes s2.0 ++ flat_map node_fronts_bytes s3.0 ++ writes_bytes s4.0 ++ ids_bytes s5.0 ++ pending_bytes s6.0 ++ owed_bytes s7.0) s7.1 (λ v8. Ok (record { mark = s0.0.0; next_id = s0.0.1; injected = s1.0; bounds = s2.0; fronts = s3.0; writes = s4.0; others = s5.0; pending = s6.0; owed = s7.0; sends = v8.0 }, v8.1)) x (AreSplit bytes (root_spelling x.0) x.1 × IsRootFor flow batches x.0) t7 e7 (λ s8 f8 t8 e8.
    subst (λ (y : Root × List ℕ). AreSplit bytes (root_spelling y.0) y.1 × IsRootFor flow batches y.0) (ok_is (record { mark = s0.0.0; next_id = s0.0.1; injected = s1.0; bounds = s2.0; fronts = s3.0; writes = s4.0; others = s5.0; pending = s6.0; owed = s7.0; sends = s8.0 }, s8.1) x e8) (t8, record { mark = f0.0; next_id = f0.1; injected = f1; bounds = f2; fronts = f3; writes = f4; others = f5; pending = f6; owed = f7; sends = f8 }))))))))))

roots_again : (flow : Dataflow) (batches : Given) (r : Root) (rest : List ℕ) → IsRootFor flow batches r → read_root flow batches (root_spelling r ++ rest) ≡ Ok (r, rest)
unfolding read_root root_spelling
roots_again flow batches r rest sound =
    ap (read_root flow batches) (append_assoc (placed_bytes (placed r) ++ flat_map u64_bytes r.injected ++ flat_map u64_bytes r.bounds ++ flat_map node_fronts_bytes r.fronts ++ writes_bytes r.writes ++ ids_bytes r.others ++ pending_bytes r.pending ++ owed_bytes r.owed) (flat_map sent_counts_bytes r.sends) rest
    ∙ append_assoc (placed_bytes (placed r) ++ flat_map u64_bytes r.injected ++ flat_map u64_bytes r.bounds ++ flat_map node_fronts_bytes r.fronts ++ writes_bytes r.writes ++ ids_bytes r.others ++ pending_bytes r.pending) (owed_bytes r.owed) (flat_map sent_counts_bytes r.sends ++ rest)
    ∙ append_assoc (placed_bytes (placed r) ++ flat_map u64_bytes r.injected ++ flat_map u64_bytes r.bounds ++ flat_map node_fronts_bytes r.fronts ++ writes_bytes r.writes ++ ids_bytes r.others) (pending_bytes r.pending) (owed_bytes r.owed ++ (flat_map sent_counts_bytes r.sends ++ rest))
    ∙ append_assoc (placed_bytes (placed r) ++ flat_map u64_bytes r.injected ++ flat_map u64_bytes r.bounds ++ flat_map node_fronts_bytes r.fronts ++ writes_bytes r.writes) (ids_bytes r.others) (pending_bytes r.pending ++ (owed_bytes r.owed ++ (flat_map sent_counts_bytes r.sends ++ rest)))
    ∙ append_assoc (placed_bytes (placed r) ++ flat_map u64_bytes r.injected ++ flat_map u64_bytes r.bounds ++ flat_map node_fronts_bytes r.fronts) (writes_bytes r.writes) (ids_bytes r.others ++ (pending_bytes r.pending ++ (owed_bytes r.owed ++ (flat_map sent_counts_bytes r.sends ++ rest))))
    ∙ append_assoc (placed_bytes (placed r) ++ flat_map u64_bytes r.injected ++ flat_map u64_bytes r.bounds) (flat_map node_fronts_bytes r.fronts) (writes_bytes r.writes ++ (ids_bytes r.others ++ (pending_bytes r.pending ++ (owed_bytes r.owed ++ (flat_map sent_counts_bytes r.sends ++ rest)))))
    ∙ append_assoc (placed_bytes (placed r) ++ flat_map u64_bytes r.injected) (flat_map u64_bytes r.bounds) (flat_map node_fronts_bytes r.fronts ++ (writes_bytes r.writes ++ (ids_bytes r.others ++ (pending_bytes r.pending ++ (owed_bytes r.owed ++ (flat_map sent_counts_bytes r.sends ++ rest))))))
    ∙ append_assoc (placed_bytes (placed r)) (flat_map u64_bytes r.injected) (flat_map u64_bytes r.bounds ++ (flat_map node_fronts_bytes r.fronts ++ (writes_bytes r.writes ++ (ids_bytes r.others ++ (pending_bytes r.pending ++ (owed_bytes r.owed ++ (flat_map sent_counts_bytes r.sends ++ rest))))))))
    ∙ then_ok (read_mark (placed_bytes (placed r) ++ (flat_map u64_bytes r.injected ++ (flat_map u64_bytes r.bounds ++ (flat_map node_fronts_bytes r.fronts ++ (writes_bytes r.writes ++ (ids_bytes r.others ++ (pending_bytes r.pending ++ (owed_bytes r.owed ++ (flat_map sent_counts_bytes r.sends ++ rest)))))))))) (λ v0. read_numbers flow batches (nodes_as flow role.Input) v0.1 >>= (λ v1. read_numbers flow batches (nodes_as flow role.Output) v1.1 >>= (λ v2. read_fronts flow batches v1.0 v2.1 >>= (λ v3. read_writes flow v0.0.1 v3.1 >>= (λ v4. read_others v0.0.1 v4.0 v4.1 >>= (λ v5. read_pending flow v5.1 >>= (λ v6. read_owed flow v6.1 >>= (λ v7. read_sends flow v7.1 >>= (λ v8. Ok (record { mark = v0.0.0; next_id = v0.0.1; injected = v1.0; bounds = v2.0; fronts = v3.0; writes = v4.0; others = v5.0; pending = v6.0; owed = v7.0; sends = v8.0 }, v8.1)))))))))) (placed r, (flat_map u64_bytes r.injected ++ (flat_map u64_bytes r.bounds ++ (flat_map node_fronts_bytes r.fronts ++ (writes_bytes r.writes ++ (ids_bytes r.others ++ (pending_bytes r.pending ++ (owed_bytes r.owed ++ (flat_map sent_counts_bytes r.sends ++ rest))))))))) (Ok (r, rest)) (marks.again (placed r) (flat_map u64_bytes r.injected ++ (flat_map u64_bytes r.bounds ++ (flat_map node_fronts_bytes r.fronts ++ (writes_bytes r.writes ++ (ids_bytes r.others ++ (pending_bytes r.pending ++ (owed_bytes r.owed ++ (flat_map sent_counts_bytes r.sends ++ rest)))))))) (sound.mark, sound.next_id)) (
    then_ok (read_numbers flow batches (nodes_as flow role.Input) (flat_map u64_bytes r.injected ++ (flat_map u64_bytes r.bounds ++ (flat_map node_fronts_bytes r.fronts ++ (writes_bytes r.writes ++ (ids_bytes r.others ++ (pending_bytes r.pending ++ (owed_bytes r.owed ++ (flat_map sent_counts_bytes r.sends ++ rest))))))))) (λ v1. read_numbers flow batches (nodes_as flow role.Output) v1.1 >>= (λ v2. read_fronts flow batches v1.0 v2.1 >>= (λ v3. read_writes flow (placed r).1 v3.1 >>= (λ v4. read_others (placed r).1 v4.0 v4.1 >>= (λ v5. read_pending flow v5.1 >>= (λ v6. read_owed flow v6.1 >>= (λ v7. read_sends flow v7.1 >>= (λ v8. Ok (record { mark = (placed r).0; next_id = (placed r).1; injected = v1.0; bounds = v2.0; fronts = v3.0; writes = v4.0; others = v5.0; pending = v6.0; owed = v7.0; sends = v8.0 }, v8.1))))))))) (r.injected, (flat_map u64_bytes r.bounds ++ (flat_map node_fronts_bytes r.fronts ++ (writes_bytes r.writes ++ (ids_bytes r.others ++ (pending_bytes r.pending ++ (owed_bytes r.owed ++ (flat_map sent_counts_bytes r.sends ++ rest)))))))) (Ok (r, rest)) ((numbers flow batches (nodes_as flow role.Input)).again (r.injected) (flat_map u64_bytes r.bounds ++ (flat_map node_fronts_bytes r.fronts ++ (writes_bytes r.writes ++ (ids_bytes r.others ++ (pending_bytes r.pending ++ (owed_bytes r.owed ++ (flat_map sent_counts_bytes r.sends ++ rest))))))) sound.injected) (
    then_ok (read_numbers flow batches (nodes_as flow role.Output) (flat_map u64_bytes r.bounds ++ (flat_map node_fronts_bytes r.fronts ++ (writes_bytes r.writes ++ (ids_bytes r.others ++ (pending_bytes r.pending ++ (owed_bytes r.owed ++ (flat_map sent_counts_bytes r.sends ++ rest)))))))) (λ v2. read_fronts flow batches (r.injected) v2.1 >>= (λ v3. read_writes flow (placed r).1 v3.1 >>= (λ v4. read_others (placed r).1 v4.0 v4.1 >>= (λ v5. read_pending flow v5.1 >>= (λ v6. read_owed flow v6.1 >>= (λ v7. read_sends flow v7.1 >>= (λ v8. Ok (record { mark = (placed r).0; next_id = (placed r).1; injected = (r.injected); bounds = v2.0; fronts = v3.0; writes = v4.0; others = v5.0; pending = v6.0; owed = v7.0; sends = v8.0 }, v8.1)))))))) (r.bounds, (flat_map node_fronts_bytes r.fronts ++ (writes_bytes r.writes ++ (ids_bytes r.others ++ (pending_bytes r.pending ++ (owed_bytes r.owed ++ (flat_map sent_counts_bytes r.sends ++ rest))))))) (Ok (r, rest)) ((numbers flow batches (nodes_as flow role.Output)).again (r.bounds) (flat_map node_fronts_bytes r.fronts ++ (writes_bytes r.writes ++ (ids_bytes r.others ++ (pending_bytes r.pending ++ (owed_bytes r.owed ++ (flat_map sent_counts_bytes r.sends ++ rest)))))) sound.bounds) (
    then_ok (read_fronts flow batches (r.injected) (flat_map node_fronts_bytes r.fronts ++ (writes_bytes r.writes ++ (ids_bytes r.others ++ (pending_bytes r.pending ++ (owed_bytes r.owed ++ (flat_map sent_counts_bytes r.sends ++ rest))))))) (λ v3. read_writes flow (placed r).1 v3.1 >>= (λ v4. read_others (placed r).1 v4.0 v4.1 >>= (λ v5. read_pending flow v5.1 >>= (λ v6. read_owed flow v6.1 >>= (λ v7. read_sends flow v7.1 >>= (λ v8. Ok (record { mark = (placed r).0; next_id = (placed r).1; injected = (r.injected); bounds = (r.bounds); fronts = v3.0; writes = v4.0; others = v5.0; pending = v6.0; owed = v7.0; sends = v8.0 }, v8.1))))))) (r.fronts, (writes_bytes r.writes ++ (ids_bytes r.others ++ (pending_bytes r.pending ++ (owed_bytes r.owed ++ (flat_map sent_counts_bytes r.sends ++ rest)))))) (Ok (r, rest)) ((fronts flow batches (r.injected)).again (r.fronts) (writes_bytes r.writes ++ (ids_bytes r.others ++ (pending_bytes r.pending ++ (owed_bytes r.owed ++ (flat_map sent_counts_bytes r.sends ++ rest))))) sound.fronts) (
    then_ok (read_writes flow (placed r).1 (writes_bytes r.writes ++ (ids_bytes r.others ++ (pending_bytes r.pending ++ (owed_bytes r.owed ++ (flat_map sent_counts_bytes r.sends ++ rest)))))) (λ v4. read_others (placed r).1 v4.0 v4.1 >>= (λ v5. read_pending flow v5.1 >>= (λ v6. read_owed flow v6.1 >>= (λ v7. read_sends flow v7.1 >>= (λ v8. Ok (record { mark = (placed r).0; next_id = (placed r).1; injected = (r.injected); bounds = (r.bounds); fronts = (r.fronts); writes = v4.0; others = v5.0; pending = v6.0; owed = v7.0; sends = v8.0 }, v8.1)))))) (r.writes, (ids_bytes r.others ++ (pending_bytes r.pending ++ (owed_bytes r.owed ++ (flat_map sent_counts_bytes r.sends ++ rest))))) (Ok (r, rest)) ((writes flow (placed r).1).again (r.writes) (ids_bytes r.others ++ (pending_bytes r.pending ++ (owed_bytes r.owed ++ (flat_map sent_counts_bytes r.sends ++ rest)))) sound.writes) (
    then_ok (read_others (placed r).1 (r.writes) (ids_bytes r.others ++ (pending_bytes r.pending ++ (owed_bytes r.owed ++ (flat_map sent_counts_bytes r.sends ++ rest))))) (λ v5. read_pending flow v5.1 >>= (λ v6. read_owed flow v6.1 >>= (λ v7. read_sends flow v7.1 >>= (λ v8. Ok (record { mark = (placed r).0; next_id = (placed r).1; injected = (r.injected); bounds = (r.bounds); fronts = (r.fronts); writes = (r.writes); others = v5.0; pending = v6.0; owed = v7.0; sends = v8.0 }, v8.1))))) (r.others, (pending_bytes r.pending ++ (owed_bytes r.owed ++ (flat_map sent_counts_bytes r.sends ++ rest)))) (Ok (r, rest)) ((others (placed r).1 (r.writes)).again (r.others) (pending_bytes r.pending ++ (owed_bytes r.owed ++ (flat_map sent_counts_bytes r.sends ++ rest))) sound.others) (
    then_ok (read_pending flow (pending_bytes r.pending ++ (owed_bytes r.owed ++ (flat_map sent_counts_bytes r.sends ++ rest)))) (λ v6. read_owed flow v6.1 >>= (λ v7. read_sends flow v7.1 >>= (λ v8. Ok (record { mark = (placed r).0; next_id = (placed r).1; injected = (r.injected); bounds = (r.bounds); fronts = (r.fronts); writes = (r.writes); others = (r.others); pending = v6.0; owed = v7.0; sends = v8.0 }, v8.1)))) (r.pending, (owed_bytes r.owed ++ (flat_map sent_counts_bytes r.sends ++ rest))) (Ok (r, rest)) ((pending flow).again (r.pending) (owed_bytes r.owed ++ (flat_map sent_counts_bytes r.sends ++ rest)) sound.pending) (
    then_ok (read_owed flow (owed_bytes r.owed ++ (flat_map sent_counts_bytes r.sends ++ rest))) (λ v7. read_sends flow v7.1 >>= (λ v8. Ok (record { mark = (placed r).0; next_id = (placed r).1; injected = (r.injected); bounds = (r.bounds); fronts = (r.fronts); writes = (r.writes); others = (r.others); pending = (r.pending); owed = v7.0; sends = v8.0 }, v8.1))) (r.owed, (flat_map sent_counts_bytes r.sends ++ rest)) (Ok (r, rest)) ((owed flow).again (r.owed) (flat_map sent_counts_bytes r.sends ++ rest) sound.owed) (
    then_ok (read_sends flow (flat_map sent_counts_bytes r.sends ++ rest)) (λ v8. Ok (record { mark = (placed r).0; next_id = (placed r).1; injected = (r.injected); bounds = (r.bounds); fronts = (r.fronts); writes = (r.writes); others = (r.others); pending = (r.pending); owed = (r.owed); sends = v8.0 }, v8.1)) (r.sends, rest) (Ok (r, rest)) ((sends flow).again (r.sends) rest sound.sends) (
    refl)))))))))

roots_inside : (flow : Dataflow) (batches : Given) → ReadsInside (read_root flow batches)
unfolding read_root
roots_inside flow batches n bytes le =
    inside_then n (read_mark bytes) (λ v0. read_numbers flow batches (nodes_as flow role.Input) v0.1 >>= (λ v1. read_numbers flow batches (nodes_as flow role.Output) v1.1 >>= (λ v2. read_fronts flow batches v1.0 v2.1 >>= (λ v3. read_writes flow v0.0.1 v3.1 >>= (λ v4. read_others v0.0.1 v4.0 v4.1 >>= (λ v5. read_pending flow v5.1 >>= (λ v6. read_owed flow v6.1 >>= (λ v7. read_sends flow v7.1 >>= (λ v8. Ok (record { mark = v0.0.0; next_id = v0.0.1; injected = v1.0; bounds = v2.0; fronts = v3.0; writes = v4.0; others = v5.0; pending = v6.0; owed = v7.0; sends = v8.0 }, v8.1)))))))))) (marks.inside n bytes le) (λ s0 l0.
    inside_then n (read_numbers flow batches (nodes_as flow role.Input) s0.1) (λ v1. read_numbers flow batches (nodes_as flow role.Output) v1.1 >>= (λ v2. read_fronts flow batches v1.0 v2.1 >>= (λ v3. read_writes flow s0.0.1 v3.1 >>= (λ v4. read_others s0.0.1 v4.0 v4.1 >>= (λ v5. read_pending flow v5.1 >>= (λ v6. read_owed flow v6.1 >>= (λ v7. read_sends flow v7.1 >>= (λ v8. Ok (record { mark = s0.0.0; next_id = s0.0.1; injected = v1.0; bounds = v2.0; fronts = v3.0; writes = v4.0; others = v5.0; pending = v6.0; owed = v7.0; sends = v8.0 }, v8.1))))))))) ((numbers flow batches (nodes_as flow role.Input)).inside n s0.1 l0) (λ s1 l1.
    inside_then n (read_numbers flow batches (nodes_as flow role.Output) s1.1) (λ v2. read_fronts flow batches s1.0 v2.1 >>= (λ v3. read_writes flow s0.0.1 v3.1 >>= (λ v4. read_others s0.0.1 v4.0 v4.1 >>= (λ v5. read_pending flow v5.1 >>= (λ v6. read_owed flow v6.1 >>= (λ v7. read_sends flow v7.1 >>= (λ v8. Ok (record { mark = s0.0.0; next_id = s0.0.1; injected = s1.0; bounds = v2.0; fronts = v3.0; writes = v4.0; others = v5.0; pending = v6.0; owed = v7.0; sends = v8.0 }, v8.1)))))))) ((numbers flow batches (nodes_as flow role.Output)).inside n s1.1 l1) (λ s2 l2.
    inside_then n (read_fronts flow batches s1.0 s2.1) (λ v3. read_writes flow s0.0.1 v3.1 >>= (λ v4. read_others s0.0.1 v4.0 v4.1 >>= (λ v5. read_pending flow v5.1 >>= (λ v6. read_owed flow v6.1 >>= (λ v7. read_sends flow v7.1 >>= (λ v8. Ok (record { mark = s0.0.0; next_id = s0.0.1; injected = s1.0; bounds = s2.0; fronts = v3.0; writes = v4.0; others = v5.0; pending = v6.0; owed = v7.0; sends = v8.0 }, v8.1))))))) ((fronts flow batches s1.0).inside n s2.1 l2) (λ s3 l3.
    inside_then n (read_writes flow s0.0.1 s3.1) (λ v4. read_others s0.0.1 v4.0 v4.1 >>= (λ v5. read_pending flow v5.1 >>= (λ v6. read_owed flow v6.1 >>= (λ v7. read_sends flow v7.1 >>= (λ v8. Ok (record { mark = s0.0.0; next_id = s0.0.1; injected = s1.0; bounds = s2.0; fronts = s3.0; writes = v4.0; others = v5.0; pending = v6.0; owed = v7.0; sends = v8.0 }, v8.1)))))) ((writes flow s0.0.1).inside n s3.1 l3) (λ s4 l4.
    inside_then n (read_others s0.0.1 s4.0 s4.1) (λ v5. read_pending flow v5.1 >>= (λ v6. read_owed flow v6.1 >>= (λ v7. read_sends flow v7.1 >>= (λ v8. Ok (record { mark = s0.0.0; next_id = s0.0.1; injected = s1.0; bounds = s2.0; fronts = s3.0; writes = s4.0; others = v5.0; pending = v6.0; owed = v7.0; sends = v8.0 }, v8.1))))) ((others s0.0.1 s4.0).inside n s4.1 l4) (λ s5 l5.
    inside_then n (read_pending flow s5.1) (λ v6. read_owed flow v6.1 >>= (λ v7. read_sends flow v7.1 >>= (λ v8. Ok (record { mark = s0.0.0; next_id = s0.0.1; injected = s1.0; bounds = s2.0; fronts = s3.0; writes = s4.0; others = s5.0; pending = v6.0; owed = v7.0; sends = v8.0 }, v8.1)))) ((pending flow).inside n s5.1 l5) (λ s6 l6.
    inside_then n (read_owed flow s6.1) (λ v7. read_sends flow v7.1 >>= (λ v8. Ok (record { mark = s0.0.0; next_id = s0.0.1; injected = s1.0; bounds = s2.0; fronts = s3.0; writes = s4.0; others = s5.0; pending = s6.0; owed = v7.0; sends = v8.0 }, v8.1))) ((owed flow).inside n s6.1 l6) (λ s7 l7.
    inside_then n (read_sends flow s7.1) (λ v8. Ok (record { mark = s0.0.0; next_id = s0.0.1; injected = s1.0; bounds = s2.0; fronts = s3.0; writes = s4.0; others = s5.0; pending = s6.0; owed = s7.0; sends = v8.0 }, v8.1)) ((sends flow).inside n s7.1 l7) (λ s8 l8.
    l8)))))))))

pub roots : (flow : Dataflow) (batches : Given) → IsExactReading (read_root flow batches) root_spelling (IsRootFor flow batches)
roots flow batches = record { takes = roots_takes flow batches; again = roots_again flow batches; inside = roots_inside flow batches }

-- ---- a root and no byte more

-- what is read is spelled by the bytes, and one of the dataflow
pub root_takes : (flow : Dataflow) (batches : Given) (bytes : List ℕ) (r : Root) → AreBytes bytes → root_reading flow batches bytes ≡ Ok r → IsRootFor flow batches r × (bytes ≡ root_spelling r)
unfolding root_reading
root_takes flow batches bytes r fits e =
    let s = bind_ok (read_root flow batches bytes) (λ x. cond (length x.1 == 0) (Ok x.0) (Err (length x.1))) r e in
    let g = guard_ok (length s.0.1 == 0) s.0.0 r (length s.0.1) s.2 in
    let t = (roots flow batches).takes bytes s.0 fits s.1 in
    let nothing : s.0.1 ≡ [] = nil_from_length s.0.1 (eqb-true _ _ g.0) in
    let parts : bytes ≡ root_spelling s.0.0 = t.0.parts ∙ ap (λ (u : List ℕ). root_spelling s.0.0 ++ u) nothing ∙ append-nil (root_spelling s.0.0) in
    subst (λ (q : Root). IsRootFor flow batches q × (bytes ≡ root_spelling q)) g.1 (t.1, parts)

-- the spelling of a root of the dataflow is read as that root
pub root_again : (flow : Dataflow) (batches : Given) (r : Root) → IsRootFor flow batches r → root_reading flow batches (root_spelling r) ≡ Ok r
unfolding root_reading
root_again flow batches r sound =
    let one : read_root flow batches (root_spelling r) ≡ Ok (r, []) = ap (read_root flow batches) (sym (append-nil (root_spelling r))) ∙ (roots flow batches).again r [] sound in
    rw one refl

-- what is read of bytes that spell a root of the dataflow
pub is_same : (flow : Dataflow) (batches : Given) (bytes : List ℕ) (q r : Root) → root_reading flow batches bytes ≡ Ok q → IsRootFor flow batches r → bytes ≡ root_spelling r → q ≡ r
is_same flow batches bytes q r e sound same = ok_is q r (sym e ∙ ap (root_reading flow batches) same ∙ root_again flow batches r sound)

pub is_none : (flow : Dataflow) (batches : Given) (bytes : List ℕ) (r : Root) (left : ℕ) → root_reading flow batches bytes ≡ Err left → IsRootFor flow batches r → bytes ≡ root_spelling r → ⊥
is_none flow batches bytes r left e sound same =
    let both : Err left ≡ ok r = sym e ∙ ap (root_reading flow batches) same ∙ root_again flow batches r sound in
    absurd cc

-- no two roots of a dataflow have one spelling
pub one_spelling_lem : (flow : Dataflow) (batches : Given) (q r : Root) → IsRootFor flow batches q → IsRootFor flow batches r → root_spelling q ≡ root_spelling r → q ≡ r
one_spelling_lem flow batches q r sound_q sound_r same = is_same flow batches (root_spelling q) q r (root_again flow batches q sound_q) sound_r same

abbrev fails : ℕ → Result Root ℕ
fails n = Err n

err_is : (m n : ℕ) → fails m ≡ fails n → m ≡ n
err_is m n e = cc

-- the first broken field begins in the bytes, or at their end
pub left_is_inside : (flow : Dataflow) (batches : Given) (bytes : List ℕ) (left : ℕ) → root_reading flow batches bytes ≡ Err left → left ≤ length bytes
unfolding root_reading
left_is_inside flow batches bytes left e = by (read_root flow batches bytes) ((roots flow batches).inside (length bytes) bytes (omega arith)) e
  where
    by : (r : Reading Root) → Leaves (length bytes) r → (r >>= λ x. cond (length x.1 == 0) (Ok x.0) (Err (length x.1))) ≡ Err left → left ≤ length bytes
    by (Err n) h e = omega (arith, h, err_is n left e)
    by (Ok x) h e = one (length x.1 == 0) e
      where
        one : (b : Bool) → cond b (Ok x.0) (Err (length x.1)) ≡ Err left → left ≤ length bytes
        one true e = absurd cc
        one false e = omega (arith, h, err_is (length x.1) left e)
