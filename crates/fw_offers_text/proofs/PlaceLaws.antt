-- What is kept at places, as the code reads and writes it.
use Rattle.std.proofs.Common.{◌≡◌, ℕ, zero, suc, ◌+◌, ◌-◌, ◌<◌, ◌≤◌, Bool, true, false, not, ◌&&◌, List, [], ◌∷◌, map, length, Option, Some, None, refl, sym, ◌∙◌, ap, arith, get_or, set, replicate, ◌⊎◌, inl, inr}
use Rattle.std.proofs.lemmas.Bool.{cases_lt}
use Rattle.std.proofs.lemmas.List.{get_or_read}
use Rattle.std.proofs.lemmas.List.FromFn.{length-range_with_len}
use Rattle.std.specs.List.{list_all, range_with_len, slice_get}
use Rattle.std.specs.Option.{option_map, option_map_or}
use Rattle.fw_frontier.specs.Front.{Front, is_within, same_front}
use Rattle.fw_flow.specs.declared.choice.Cut.{Cut}
use Rattle.fw_flow.specs.declared.choice.Recorded.{Recorded}
use Rattle.fw_flow.specs.declared.trail.Lowering.{Lowering}
use Rattle.fw_flow.specs.Dataflow.{Dataflow, node_ids}
use Rattle.fw_offers_text.specs.ClaimDraft.{ClaimTold, claimed_by}
use Rattle.fw_offers_text.specs.Draft.{NodeTold, Told, told_by, node_told, nothing_told, told_of_node, told_of_edge, with_node, with_edge, is_above_last}
use Rattle.fw_offers_text.specs.declared.draft.EdgeDraft.{EdgeDraft}
use Rattle.fw_offers_text.specs.Statements.{is_strictly_within, last_of_fronts}
use Rattle.std.proofs.Math.Bool.{and-false}

-- ---- nothing is told at first

same-for-all : {A B : Type 0} (x : B) (xs : List A) → replicate (length xs) x ≡ map (λ (a : A). x) xs
same-for-all x [] = refl
same-for-all x (a ∷ rest) = ap (λ ys. x ∷ ys) (same-for-all x rest)

same-at-places : {B : Type 0} (x : B) (n : ℕ) → replicate n x ≡ map (λ (p : ℕ). x) (range_with_len 0 n)
same-at-places x n = ap (λ m. replicate m x) (sym (length-range_with_len 0 n)) ∙ same-for-all x (range_with_len 0 n)

abbrev told_with : List NodeTold → List EdgeDraft → Told
told_with nodes edges = record { nodes = nodes; edges = edges }

pub nothing_by : (flow : Dataflow) (n m : ℕ) (nodes : List NodeTold) (edges : List EdgeDraft) → n ≡ length flow.nodes → m ≡ length flow.edges → nodes ≡ replicate n nothing_told → edges ≡ replicate m (record { delivered = false; sent = false })
    → told_with nodes edges ≡ told_by flow []
nothing_by flow n m nodes edges i j e f =
    ap (λ x. told_with x edges) (e ∙ ap (λ k. replicate k nothing_told) i ∙ same-at-places nothing_told (length flow.nodes))
    ∙ ap (λ x. told_with (map (node_told flow []) (node_ids flow)) x) (f ∙ ap (λ k. replicate k (record { delivered = false; sent = false })) j ∙ same-at-places (record { delivered = false; sent = false }) (length flow.edges))

abbrev nothing_with : List (Option Cut) → List Lowering → ClaimTold
nothing_with cuts lowerings = record { cuts = cuts; lowerings = lowerings; none_left = None; ended = false }

pub nothing_claimed : (flow : Dataflow) (n : ℕ) (cuts : List (Option Cut)) (lowerings : List Lowering) → n ≡ length flow.nodes → cuts ≡ replicate n None → lowerings ≡ []
    → nothing_with cuts lowerings ≡ claimed_by flow []
nothing_claimed flow n cuts lowerings i e none =
    ap (nothing_with cuts) none ∙ ap (λ cs. nothing_with cs []) (e ∙ ap (λ k. replicate k None) i ∙ same-at-places None (length flow.nodes))

-- ---- the last record

last-at : (records : List Recorded) (n : ℕ) → n + 1 ≡ length records → last_of_fronts (map (λ (r : Recorded). r.front) records) ≡ option_map (λ (r : Recorded). r.front) (slice_get records n)
last-at [] n h = absurd (omega (arith, h))
last-at (r ∷ []) zero h = refl
last-at (r ∷ []) (suc n) h = absurd (omega (arith, h))
last-at (r ∷ s ∷ rs) zero h = absurd (omega (arith, h))
last-at (r ∷ s ∷ rs) (suc n) h = last-at (s ∷ rs) n (omega (arith, h))

last-is : (records : List Recorded) → last_of_fronts (map (λ (r : Recorded). r.front) records) ≡ option_map (λ (r : Recorded). r.front) (slice_get records (length records - 1))
last-is [] = refl
last-is (r ∷ rs) = last-at (r ∷ rs) (length (r ∷ rs) - 1) (omega arith)

pub above_some : (records : List Recorded) (r : Recorded) (f : Front) → Some r ≡ slice_get records (length records - 1) → (is_within r.front f && not (same_front r.front f)) ≡ is_above_last records f
above_some records r f h = sym (ap (λ o. option_map_or (λ last. is_strictly_within last f) o true) (last-is records ∙ ap (option_map (λ (r : Recorded). r.front)) (sym h)))

pub above_none : (records : List Recorded) (f : Front) → None ≡ slice_get records (length records - 1) → true ≡ is_above_last records f
above_none records f h = sym (ap (λ o. option_map_or (λ last. is_strictly_within last f) o true) (last-is records ∙ ap (option_map (λ (r : Recorded). r.front)) (sym h)))

-- ---- one place

pub node_there : (told : Told) (p q : ℕ) (n : NodeTold) → q ≡ p → p < length told.nodes → n ≡ get_or told.nodes q n → n ≡ told_of_node told p
node_there told p q n same below read = get_or_read told.nodes p n below (read ∙ ap (λ k. get_or told.nodes k n) same) nothing_told

pub edge_there : (told : Told) (e f : ℕ) (o : Option EdgeDraft) → f ≡ e → o ≡ slice_get told.edges f → option_map_or (λ x. x) o (record { delivered = false; sent = false }) ≡ told_of_edge told e
edge_there told e f o same read = ap (λ x. option_map_or (λ y. y) x (record { delivered = false; sent = false })) (read ∙ ap (slice_get told.edges) same) ∙ at told.edges e
  where
    at : (es : List EdgeDraft) (i : ℕ) → option_map_or (λ y. y) (slice_get es i) (record { delivered = false; sent = false }) ≡ get_or es i (record { delivered = false; sent = false })
    at [] zero = refl
    at [] (suc i) = refl
    at (e ∷ es) zero = refl
    at (e ∷ es) (suc i) = at es i

-- what a node's part is changed to, as a change of all that is told
pub node_changed : (told : Told) (change : NodeTold → NodeTold) (p q : ℕ) (old new : NodeTold) → q ≡ p → p < length told.nodes → old ≡ get_or told.nodes q old → new ≡ change old
    → told_with (set told.nodes q new) told.edges ≡ with_node told p (change (told_of_node told p))
node_changed told change p q old new same below read made =
    ap (λ k. told_with (set told.nodes k new) told.edges) same ∙ ap (with_node told p) (made ∙ ap change (node_there told p q old same below read))

-- the same, and the part of an edge
pub both_changed : (told : Told) (change : NodeTold → NodeTold) (turn : EdgeDraft → EdgeDraft) (p q e f : ℕ) (old new : NodeTold) (edge : EdgeDraft) → q ≡ p → p < length told.nodes → f ≡ e → e < length told.edges
    → old ≡ get_or told.nodes q old → new ≡ change old → edge ≡ get_or told.edges f edge
    → told_with (set told.nodes q new) (set told.edges f (turn edge)) ≡ with_edge (with_node told p (change (told_of_node told p))) e (turn (told_of_edge told e))
both_changed told change turn p q e f old new edge same below there inside read made found =
    ap (λ (t : Told). told_with t.nodes (set told.edges f (turn edge))) (node_changed told change p q old new same below read made)
    ∙ ap (λ k. told_with (set told.nodes p (change (told_of_node told p))) (set told.edges k (turn edge))) there
    ∙ ap (λ x. told_with (set told.nodes p (change (told_of_node told p))) (set told.edges e (turn x))) (get_or_read told.edges e edge inside (found ∙ ap (λ k. get_or told.edges k edge) there) (record { delivered = false; sent = false }))

-- ---- all places

all_from : (test : ℕ → Bool) (from n : ℕ) → ((k : ℕ) → k < from + n → test k ≡ true) → list_all test (range_with_len from n) ≡ true
all_from test from zero h = refl
all_from test from (suc n) h = ap (λ b. b && list_all test (range_with_len (from + 1) n)) (h from (omega arith)) ∙ all_from test (from + 1) n (λ k below. h k (omega (arith, below)))

pub all_places : (test : ℕ → Bool) (n : ℕ) → ((k : ℕ) → k < n → test k ≡ true) → true ≡ list_all test (range_with_len 0 n)
all_places test n h = sym (all_from test 0 n (λ k below. h k (omega (arith, below))))

-- it passes at the places below this one, and here
pub one_more : (test : ℕ → Bool) (n : ℕ) → ((k : ℕ) → k < n → test k ≡ true) → test n ≡ true → (k : ℕ) → k < n + 1 → test k ≡ true
one_more test n before here k below = by (cases_lt k n)
  where
    by : (k < n) ⊎ (n ≤ k) → test k ≡ true
    by (inl earlier) = before k earlier
    by (inr past) = let same : k ≡ n = omega (arith, below, past) in ap test same ∙ here

-- it fails here, or at one of the rest
fails_here_or_later : (test : ℕ → Bool) (from k : ℕ) (rest : Bool) → from ≤ k → test k ≡ false → (from < k → rest ≡ false) → (test from && rest) ≡ false
fails_here_or_later test from k rest above e later = by (cases_lt from k)
  where
    by : (from < k) ⊎ (k ≤ from) → (test from && rest) ≡ false
    by (inl below) = ap (λ b. test from && b) (later below) ∙ and-false (test from)
    by (inr past) = let here : from ≡ k = omega (arith, above, past) in ap (λ b. b && rest) (ap test here ∙ e)

one_from : (test : ℕ → Bool) (from n k : ℕ) → from ≤ k → k < from + n → test k ≡ false → list_all test (range_with_len from n) ≡ false
one_from test from zero k above below e = absurd (omega (arith, above, below))
one_from test from (suc n) k above below e =
    fails_here_or_later test from k (list_all test (range_with_len (from + 1) n)) above e (λ later. one_from test (from + 1) n k (omega (arith, later)) (omega (arith, below)) e)

pub one_place : (test : ℕ → Bool) (n k : ℕ) → k < n → test k ≡ false → false ≡ list_all test (range_with_len 0 n)
one_place test n k below e = sym (one_from test 0 n k (omega arith) (omega arith) e)
