-- The lists of a checkpoint, its state and its log are read as they are spelled.
use Rattle.std.proofs.Common.{◌≡◌, ℕ, ◌^◌, ◌<◌, true, List, [], ◌++◌, Ok, refl, ap, ◌∙◌, append_assoc, subst}
use Rattle.std.specs.Int.{w32, w64}
use Rattle.fw_frontier.specs.declared.state.Entries.{Entries}
use Rattle.fw_frontier.specs.declared.state.Entries.TheVariants.{Totals}
use Rattle.fw_frontier.specs.declared.state.State.{State}
use Rattle.fw_bytes.specs.Fields.{number_field}
use Rattle.fw_bytes.specs.Spelling.{u32_bytes, u64_bytes, front_bytes, sent_counts_bytes}
use Rattle.fw_bytes.specs.Sound.{AreSentCounts}
use Rattle.fw_bytes.specs.Reading.{◌>>=◌, kept_if, any, read_front, sent_counts_of}
use Rattle.fw_bytes.specs.Exact.{AreBytes, AreSplit, IsExactPart, IsExactReading}
use Rattle.fw_bytes.proofs.PlaceLaws.{ReadsInside, inside_then, kept_inside}
use Rattle.fw_bytes.proofs.FieldLaws.{AreSplit-then, form32, form64}
use Rattle.fw_bytes.proofs.PartLaws.{bind_ok, ok_is, kept, one_field, counted_whole, step, starts}
use Rattle.fw_bytes.proofs.ListLaws.{any64, front, sends}
use Rattle.fw_flow.specs.declared.choice.OfEdge.{OfEdge}
use Rattle.fw_record.specs.Fields.{rec_of, logged_of}
use Rattle.fw_record.specs.Spelling.{rec_bytes, of_edge_bytes, of_edges_bytes, recs_bytes, entries_bytes, state_bytes, logged_bytes, log_bytes}
use Rattle.fw_record.specs.Sound.{may_follow_edges, may_follow_totals, may_follow_logged, IsEdgeFront, AreOfEdges, AreTotals, AreEntries, IsState, IsLoggedMessage, IsLog}
use Rattle.fw_bag.specs.Bag.{IsRec}
use Rattle.fw_record.specs.Reading.{next_total_of, next_logged_of, of_edge_of, of_edges_of, totals_of, read_entries, read_state, read_log}
use Rattle.fw_record.proofs.FieldLaws.{recs, logged}

pub rec_parts : IsExactPart next_total_of rec_bytes IsRec may_follow_totals
rec_parts = one_field rec_of rec_bytes IsRec may_follow_totals recs

pub logged_parts : IsExactPart next_logged_of logged_bytes IsLoggedMessage may_follow_logged
logged_parts = one_field logged_of logged_bytes IsLoggedMessage may_follow_logged logged

-- ---- an edge and its front

edge_takes : (before : List OfEdge) (bytes : List ℕ) (x : OfEdge × List ℕ) → AreBytes bytes → of_edge_of before bytes ≡ Ok x → AreSplit bytes (of_edge_bytes x.0) x.1 × IsEdgeFront x.0 × (may_follow_edges before x.0.edge ≡ true)
unfolding of_edge_of
edge_takes before bytes x fits e =
    let a = bind_ok (kept_if (may_follow_edges before) bytes (number_field w32 bytes)) (λ edge. read_front edge.1 >>= λ front. Ok (record { edge = edge.0; front = front.0 }, front.1)) x e in
    let b = bind_ok (read_front a.0.1) (λ front. Ok (record { edge = a.0.0; front = front.0 }, front.1)) x a.2 in
    let k = kept (may_follow_edges before) bytes (number_field w32 bytes) a.0 a.1 in
    let t0 = form32.takes bytes a.0 fits k.0 in
    let t1 = front.takes a.0.1 b.0 t0.0.rest_fits b.1 in
    let both = AreSplit-then bytes (u32_bytes a.0.0) a.0.1 (front_bytes b.0.0) b.0.1 t0.0 t1.0 in
    let made : OfEdge × List ℕ = (record { edge = a.0.0; front = b.0.0 }, b.0.1) in
    subst (λ (y : OfEdge × List ℕ). AreSplit bytes (of_edge_bytes y.0) y.1 × IsEdgeFront y.0 × (may_follow_edges before y.0.edge ≡ true)) (ok_is made x b.2) (both, record { edge = t0.1; front = t1.1 }, k.1)

edge_again : (before : List OfEdge) (e : OfEdge) (rest : List ℕ) → IsEdgeFront e → may_follow_edges before e.edge ≡ true → of_edge_of before (of_edge_bytes e ++ rest) ≡ Ok (e, rest)
unfolding of_edge_of
edge_again before e rest sound allowed =
    ap (of_edge_of before) (append_assoc (u32_bytes e.edge) (front_bytes e.front) rest) ∙ rw (form32.again e.edge (front_bytes e.front ++ rest) sound.edge, allowed, front.again e.front rest sound.front) refl

edge_inside : (before : List OfEdge) → ReadsInside (of_edge_of before)
unfolding of_edge_of
edge_inside before n bytes le =
    inside_then n (kept_if (may_follow_edges before) bytes (number_field w32 bytes)) (λ edge. read_front edge.1 >>= λ front. Ok (record { edge = edge.0; front = front.0 }, front.1)) (kept_inside (may_follow_edges before) n bytes (number_field w32 bytes) le (form32.inside n bytes le)) (λ edge le'.
    inside_then n (read_front edge.1) (λ front. Ok (record { edge = edge.0; front = front.0 }, front.1)) (front.inside n edge.1 le') (λ front le''. le''))

pub edge_parts : IsExactPart of_edge_of of_edge_bytes IsEdgeFront (λ before e. may_follow_edges before e.edge)
edge_parts = record { takes = edge_takes; again = edge_again; inside = edge_inside }

pub of_edges : IsExactReading of_edges_of of_edges_bytes AreOfEdges
unfolding of_edges_of
of_edges = counted_whole (number_field w32) u32_bytes (2 ^ 32) form32 of_edge_of of_edge_bytes IsEdgeFront (λ before e. may_follow_edges before e.edge) edge_parts of_edges_of (λ bytes. refl)

pub totals : IsExactReading totals_of recs_bytes AreTotals
unfolding totals_of
totals = counted_whole (number_field w64) u64_bytes (2 ^ 64) form64 next_total_of rec_bytes IsRec may_follow_totals rec_parts totals_of (λ bytes. refl)

pub logs : IsExactReading read_log log_bytes IsLog
unfolding read_log
logs = counted_whole (number_field w64) u64_bytes (2 ^ 64) form64 next_logged_of logged_bytes IsLoggedMessage may_follow_logged logged_parts read_log (λ bytes. refl)

-- ---- what a node holds

entries_take : (bytes : List ℕ) (x : Entries × List ℕ) → AreBytes bytes → read_entries bytes ≡ Ok x → AreSplit bytes (entries_bytes x.0) x.1 × AreEntries x.0
unfolding read_entries
entries_take bytes x fits e =
    step totals bytes ([]) bytes (λ v0. Ok (Totals v0.0, v0.1)) x (AreSplit bytes (entries_bytes x.0) x.1 × AreEntries x.0) (starts bytes fits) e (λ s0 f0 t0 e0.
    subst (λ (y : Entries × List ℕ). AreSplit bytes (entries_bytes y.0) y.1 × AreEntries y.0) (ok_is (Totals s0.0, s0.1) x e0) (t0, f0))

entries_again : (entries : Entries) (rest : List ℕ) → AreEntries entries → read_entries (entries_bytes entries ++ rest) ≡ Ok (entries, rest)
unfolding read_entries
entries_again (Totals held) rest sound = rw (totals.again held rest sound) refl

entries_inside : ReadsInside read_entries
unfolding read_entries
entries_inside n bytes le = inside_then n (totals_of bytes) (λ v0. Ok (Totals v0.0, v0.1)) (totals.inside n bytes le) (λ s0 l0. l0)

pub entries : IsExactReading read_entries entries_bytes AreEntries
entries = record { takes = entries_take; again = entries_again; inside = entries_inside }

-- ---- a node's table

pub state_takes : (bytes : List ℕ) (x : State × List ℕ) → AreBytes bytes → read_state bytes ≡ Ok x → AreSplit bytes (state_bytes x.0) x.1 × IsState x.0
unfolding read_state state_bytes
state_takes bytes x fits e =
    step any64 bytes ([]) bytes (λ v0. (sent_counts_of v0.1 >>= λ v1. (read_entries v1.1 >>= λ v2. Ok (record { sent = v0.0; sends = v1.0; entries = v2.0 }, v2.1)))) x (AreSplit bytes (state_bytes x.0) x.1 × IsState x.0) (starts bytes fits) e (λ s0 f0 t0 e0.
    step sends bytes (u64_bytes s0.0) s0.1 (λ v1. (read_entries v1.1 >>= λ v2. Ok (record { sent = s0.0; sends = v1.0; entries = v2.0 }, v2.1))) x (AreSplit bytes (state_bytes x.0) x.1 × IsState x.0) t0 e0 (λ s1 f1 t1 e1.
    step entries bytes (u64_bytes s0.0 ++ sent_counts_bytes s1.0) s1.1 (λ v2. Ok (record { sent = s0.0; sends = s1.0; entries = v2.0 }, v2.1)) x (AreSplit bytes (state_bytes x.0) x.1 × IsState x.0) t1 e1 (λ s2 f2 t2 e2.
    subst (λ (y : State × List ℕ). AreSplit bytes (state_bytes y.0) y.1 × IsState y.0) (ok_is (record { sent = s0.0; sends = s1.0; entries = s2.0 }, s2.1) x e2) (t2, record { sent = f0; sends = f1; entries = f2 }))))

pub state_again : (s : State) (rest : List ℕ) → IsState s → read_state (state_bytes s ++ rest) ≡ Ok (s, rest)
unfolding read_state state_bytes
state_again s rest sound =
    ap read_state (append_assoc (u64_bytes s.sent ++ sent_counts_bytes s.sends) (entries_bytes s.entries) rest
    ∙ append_assoc (u64_bytes s.sent) (sent_counts_bytes s.sends) (entries_bytes s.entries ++ rest))
    ∙ rw (any64.again s.sent (sent_counts_bytes s.sends ++ (entries_bytes s.entries ++ rest)) sound.sent, sends.again s.sends (entries_bytes s.entries ++ rest) sound.sends, entries.again s.entries rest sound.entries) refl

state_inside : ReadsInside read_state
unfolding read_state
state_inside n bytes le =
    inside_then n (any bytes (number_field w64 bytes)) (λ v0. ((sent_counts_of v0.1) >>= λ v1. ((read_entries v1.1) >>= λ v2. Ok (record { sent = v0.0; sends = v1.0; entries = v2.0 }, v2.1)))) (any64.inside n bytes le) (λ s0 l0.
    inside_then n (sent_counts_of s0.1) (λ v1. ((read_entries v1.1) >>= λ v2. Ok (record { sent = s0.0; sends = v1.0; entries = v2.0 }, v2.1))) (sends.inside n s0.1 l0) (λ s1 l1.
    inside_then n (read_entries s1.1) (λ v2. Ok (record { sent = s0.0; sends = s1.0; entries = v2.0 }, v2.1)) (entries.inside n s1.1 l1) (λ s2 l2.
    l2)))

pub states : IsExactReading read_state state_bytes IsState
states = record { takes = state_takes; again = state_again; inside = state_inside }
