-- The first broken field of a head begins in the bytes, or at their end.
use Rattle.std.proofs.Common.{◌≡◌, ℕ, ◌^◌, ◌<◌, ◌≤◌, List, [], ◌++◌, length, Ok, Err, refl, sym, ap, subst, ◌∙◌, append_assoc, flat_map, arith}
use Rattle.std.proofs.lemmas.List.{append-nil}
use Rattle.std.specs.Int.{w64}
use Rattle.fw_flow.specs.Dataflow.{Dataflow}
use Rattle.fw_bytes.specs.Fields.{number_field}
use Rattle.fw_bytes.specs.Spelling.{u64_bytes, sent_counts_bytes}
use Rattle.fw_bytes.specs.Reading.{Reading, ◌>>=◌, any}
use Rattle.fw_bytes.specs.Exact.{Leaves}
use Rattle.fw_bytes.proofs.PlaceLaws.{ReadsInside, inside_then}
use Rattle.fw_bytes.proofs.ListLaws.{any64}
use Rattle.fw_root.specs.declared.root.Digests.{Digests}
use Rattle.fw_root.specs.declared.root.Head.{Head}
use Rattle.fw_root.specs.declared.root.Mark.{Mark}
use Rattle.fw_root.specs.declared.root.Root.{Root}
use Rattle.fw_root.specs.OfFlow.{Given}
use Rattle.fw_root.specs.Reading.{read_digests, read_root_head}
use Rattle.fw_root.specs.Sound.{AreDigests, IsRootFor}
use Rattle.fw_root.specs.Spelling.{digests_bytes, lines_bytes, mark_bytes, node_fronts_bytes, writes_bytes, ids_bytes, pending_bytes, owed_bytes, root_spelling}
use Rattle.fw_root.proofs.ExactLaws.{then_ok}
use Rattle.fw_root.proofs.MarkLaws.{digests}

head_inside : ReadsInside read_root_head
unfolding read_root_head
head_inside n bytes le =
    inside_then n (read_digests bytes) (λ v0. any v0.1 (number_field w64 v0.1) >>= λ v1. Ok (record { digests = v0.0; turn = v1.0 }, v1.1)) (digests.inside n bytes le) (λ s0 l0.
    inside_then n (any s0.1 (number_field w64 s0.1)) (λ v1. Ok (record { digests = s0.0; turn = v1.0 }, v1.1)) (any64.inside n s0.1 l0) (λ s1 l1. l1))

pub head_left : (bytes : List ℕ) (left : ℕ) → read_root_head bytes ≡ Err left → left ≤ length bytes
head_left bytes left e = subst (λ (r : Reading Head). Leaves (length bytes) r) e (head_inside (length bytes) bytes (omega arith))

-- ---- the head of a root

-- the bytes begin with these
abbrev BeginsWith : List ℕ → List ℕ → Type 0
BeginsWith first bytes = (rest : List ℕ) × (bytes ≡ first ++ rest)

begins : (first : List ℕ) → BeginsWith first first
begins first = ([], sym (append-nil first))

begins_on : (first bytes more : List ℕ) → BeginsWith first bytes → BeginsWith first (bytes ++ more)
begins_on first bytes more b = (b.0 ++ more, ap (λ (u : List ℕ). u ++ more) b.1 ∙ append_assoc first b.0 more)

-- digests and a turn
abbrev head_bytes : Digests → ℕ → List ℕ
head_bytes d turn = digests_bytes d ++ u64_bytes turn

mark_begins : (m : Mark) (next : ℕ) → BeginsWith (head_bytes m.digests m.turn) (mark_bytes m next)
unfolding mark_bytes
mark_begins m next =
    let head = head_bytes m.digests m.turn in
    begins_on head _ (lines_bytes m.lines) (begins_on head _ (u64_bytes next) (begins_on head _ (u64_bytes m.idle) (begins_on head _ (u64_bytes m.steps)
    (begins_on head _ (u64_bytes m.singles) (begins_on head _ (u64_bytes m.line) (begins head))))))

root_begins : (r : Root) → BeginsWith (head_bytes r.mark.digests r.mark.turn) (root_spelling r)
unfolding root_spelling
root_begins r =
    let head = head_bytes r.mark.digests r.mark.turn in
    begins_on head _ (flat_map sent_counts_bytes r.sends) (begins_on head _ (owed_bytes r.owed) (begins_on head _ (pending_bytes r.pending)
    (begins_on head _ (ids_bytes r.others) (begins_on head _ (writes_bytes r.writes) (begins_on head _ (flat_map node_fronts_bytes r.fronts)
    (begins_on head _ (flat_map u64_bytes r.bounds) (begins_on head _ (flat_map u64_bytes r.injected) (mark_begins r.mark r.next_id))))))))

head_again : (d : Digests) (turn : ℕ) (rest : List ℕ) → AreDigests d → turn < 2 ^ 64
    → read_root_head (head_bytes d turn ++ rest) ≡ Ok (record { digests = d; turn = turn }, rest)
unfolding read_root_head
head_again d turn rest sound small =
    ap read_root_head (append_assoc (digests_bytes d) (u64_bytes turn) rest)
    ∙ then_ok (read_digests (digests_bytes d ++ (u64_bytes turn ++ rest))) (λ v0. any v0.1 (number_field w64 v0.1) >>= λ v1. Ok (record { digests = v0.0; turn = v1.0 }, v1.1)) (d, u64_bytes turn ++ rest) (Ok (record { digests = d; turn = turn }, rest)) (digests.again d (u64_bytes turn ++ rest) sound) (
    then_ok (any (u64_bytes turn ++ rest) (number_field w64 (u64_bytes turn ++ rest))) (λ v1. Ok (record { digests = d; turn = v1.0 }, v1.1)) (turn, rest) (Ok (record { digests = d; turn = turn }, rest)) (any64.again turn rest small)
    refl)

-- the spelling of a root begins with the root's head
pub head_of_root : (flow : Dataflow) (batches : Given) (r : Root) → IsRootFor flow batches r
    → (rest : List ℕ) × (read_root_head (root_spelling r) ≡ Ok (record { digests = r.mark.digests; turn = r.mark.turn }, rest))
head_of_root flow batches r sound =
    let b = root_begins r in
    (b.0, ap read_root_head b.1 ∙ head_again r.mark.digests r.mark.turn b.0 sound.mark.digests (omega (arith, sound.mark.turn)))
