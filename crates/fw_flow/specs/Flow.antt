-- How the parts of a dataflow are kept for looking them up.
use Rattle.std.specs.Prelude.{◌≡◌, ◌<◌, ℕ, zero, suc, Bool, true, None, List, [], ◌∷◌, length, map, slice_index_or}
use Rattle.std.specs.List.{IsDistinct}
use Rattle.std.specs.Str.{bytes_eq}
use Rattle.std.specs.declared.alloc.Global.{Global}
use Rattle.std.specs.declared.vec.Vec.{Vec}
use Rattle.fw_time.specs.declared.stamp.Bounds.{Bounds as Domain}
use Rattle.fw_flow.specs.Dataflow.{Dataflow, bounds_of, in_edges, out_edges}
use Rattle.fw_flow.specs.KeyParts.{part_of}
use Rattle.fw_flow.specs.PlainNames.{HasPlainEdges, HasPlainNodes}
use Rattle.fw_flow.specs.WellFormed.{IsWellFormed}

-- the edges at a place of such lists, none past the end
abbrev pub edges_at : List (Vec ℕ Global) → ℕ → List ℕ
edges_at [] place = []
edges_at (edges ∷ lists) zero = edges.items
edges_at (edges ∷ lists) (suc place) = edges_at lists place

-- these are the bounds of the domains of the first nodes, in order
abbrev pub AreBoundsOf : Dataflow → List Domain → Type 0
AreBoundsOf flow bounds = (p : ℕ) (unless : Domain) → p < length bounds → slice_index_or bounds p unless ≡ bounds_of flow p

-- no node is a replica, so to each come the recs of all keys
abbrev pub HasNoParts : Dataflow → Type 0
HasNoParts flow = (p : ℕ) → part_of flow p ≡ None

-- the flow is well formed, no two of its loops have one name, it has names as they are written but for what a split node is made of, and
-- these are the names of its nodes and edges in order and, for each of its nodes, the edges to it and from it; the bounds that are kept are
-- those of the first nodes, and no node is a replica where this is known
pub record IsIndexed (flow : Dataflow) (nodes edges : List (List ℕ)) (incoming outgoing : List (Vec ℕ Global)) (bounds : List Domain) (unsplit : Bool) : Type 0 where
  pub well_formed : IsWellFormed flow
  pub loops_once : IsDistinct bytes_eq (map (λ l. l.name) flow.loops)
  pub plain_nodes : HasPlainNodes flow
  pub plain_edges : HasPlainEdges flow
  pub names_of_nodes : nodes ≡ map (λ node. node.name) flow.nodes
  pub names_of_edges : edges ≡ map (λ edge. edge.name) flow.edges
  pub edges_in : (p : ℕ) → edges_at incoming p ≡ in_edges flow p
  pub edges_out : (p : ℕ) → edges_at outgoing p ≡ out_edges flow p
  pub bounds_kept : AreBoundsOf flow bounds
  pub none_split : unsplit ≡ true → HasNoParts flow
