-- The batches of nodes.
use Rattle.std.specs.Prelude.{◌≡◌, ℕ, ◌^◌, ◌<◌, ◌≤◌, ◌==◌, false, List, [], ◌∷◌, ◌++◌, length, map, Option, if◌then◌else◌, unwrap_or}
use Rattle.std.specs.List.{AllByRecursion}
use Rattle.std.specs.Option.{option_map_or}
use Rattle.std.specs.declared.alloc.Global.{Global}
use Rattle.std.specs.Map.{lookup}
use Rattle.std.specs.declared.vec.Vec.{Vec}
use Rattle.fw_bag.specs.Bag.{BagState, IsRec}
use Rattle.fw_bag.specs.declared.rec.Rec.{Rec}
use Rattle.fw_bag.specs.Rec.{IsAscending}
use Rattle.fw_lines.specs.Sources.{is_source}

-- the batches of a node, none where nothing is kept for it
abbrev pub batches_at : List (ℕ × List (List Rec)) → ℕ → List (List Rec)
batches_at batches node = unwrap_or (lookup (λ k. node == k) batches) []

-- how many batches a node has, 0 where there is no node
abbrev pub batch_count_at : List (ℕ × List (List Rec)) → Option ℕ → ℕ
batch_count_at batches source = option_map_or (λ node. length (batches_at batches node)) source 0

-- the batch is the next one of the node, and the other nodes keep theirs
abbrev pub AddsBatch : List (ℕ × List (List Rec)) → List (ℕ × List (List Rec)) → ℕ → List Rec → Type 0
AddsBatch old new node batch =
    (other : ℕ) → batches_at new other ≡ (if node == other then batches_at old other ++ batch ∷ [] else batches_at old other)

-- each node keeps its batches
abbrev pub KeepsBatches : List (ℕ × List (List Rec)) → List (ℕ × List (List Rec)) → Type 0
KeepsBatches old new = (other : ℕ) → batches_at new other ≡ batches_at old other

-- the recs of bags
abbrev pub recs_of_bags : List BagState → List (List Rec)
recs_of_bags bags = map (λ b. b.recs) bags

-- for each node the recs of its bags
abbrev pub batches_of_entries : List (ℕ × Vec BagState Global) → List (ℕ × List (List Rec))
batches_of_entries [] = []
batches_of_entries (e ∷ es) = (e.0, recs_of_bags e.1.items) ∷ batches_of_entries es

-- a batch is a bag as its ascending list
pub record IsBatch (batch : List Rec) : Type 0 where
  pub recs : AllByRecursion IsRec batch
  pub ascending : IsAscending batch

-- each batch of each node is a bag of recs
abbrev pub AreBatches : List (ℕ × List (List Rec)) → Type 0
AreBatches batches = (node : ℕ) → AllByRecursion IsBatch (batches_at batches node)

-- the sources alone have batches, at most 2^20 each, and each batch is a bag of recs
pub record AreBatchesOf (sources : List (List ℕ × ℕ)) (batches : ℕ → List (List Rec)) : Type 0 where
  pub of_sources : (node : ℕ) → is_source sources node ≡ false → batches node ≡ []
  pub few : (node : ℕ) → length (batches node) ≤ 2 ^ 20
  pub bags : (node : ℕ) → AllByRecursion IsBatch (batches node)
