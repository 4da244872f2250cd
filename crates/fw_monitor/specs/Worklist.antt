-- For the proofs of src/worklist.rt: what a lowering of one value can break, and which inclusions wait for their test.
use Rattle.std.specs.Prelude.{◌≡◌, ℕ, suc, ◌+◌, ◌<◌, ◌≤◌, Bool, true, false, ◌||◌, ◌==◌, List, [], ◌∷◌, ◌++◌, length, map, slice_index_or}
use Rattle.std.specs.List.{AllByRecursion}
use Rattle.fw_flow.specs.Dataflow.{Dataflow, sender, receiver, in_edges, out_edges}
use Rattle.fw_model.specs.Inclusions.{owner, note_node, node_of, IsInclusionOf, inclusions_to}
use Rattle.fw_flow.specs.declared.side.Side.TheVariants.{Delivered, Discarded, Notified}
use Rattle.fw_flow.specs.declared.side.Limit.TheVariants.{Own, Note}
use Rattle.fw_monitor.specs.declared.worklist.OnEdge.{OnEdge}
use Rattle.fw_monitor.specs.declared.worklist.OnEdge.TheVariants as edge
use Rattle.fw_flow.specs.declared.side.Inclusion.{Inclusion}
use Rattle.fw_flow.specs.declared.side.Inclusion.TheVariants.{OfCut, OfNote}

-- the inclusion that says this of edge d
abbrev pub inclusion_on_edge : OnEdge → ℕ → Inclusion
inclusion_on_edge edge.Delivered d = OfCut (Delivered d)
inclusion_on_edge edge.Discarded d = OfCut (Discarded d)
inclusion_on_edge edge.Note d = OfNote (Note d)

-- whether a lower cut of node p can break it
abbrev pub reads_cut : Dataflow → ℕ → Inclusion → Bool
reads_cut flow p (OfCut (Delivered d)) = receiver flow d == p || sender flow d == p
reads_cut flow p (OfCut (Discarded e)) = sender flow e == p || receiver flow e == p
reads_cut flow p (OfCut (Notified q)) = q == p
reads_cut flow p (OfNote (Own q)) = q == p
reads_cut flow p (OfNote (Note d)) = false

-- whether a lower notification frontier of node p can break it
abbrev pub reads_note : Dataflow → ℕ → Inclusion → Bool
reads_note flow p (OfCut (Delivered d)) = false
reads_note flow p (OfCut (Discarded e)) = false
reads_note flow p (OfCut (Notified q)) = q == p
reads_note flow p (OfNote (Own q)) = false
reads_note flow p (OfNote (Note d)) = sender flow d == p

-- whether a lower value on the left of the first inclusion can break the second one
abbrev pub may_break : Dataflow → Inclusion → Inclusion → Bool
may_break flow (OfCut side) i = reads_cut flow (owner flow side) i
may_break flow (OfNote limit) i = reads_note flow (note_node flow limit) i

-- those that a lower cut of a node can break
abbrev pub after_cut : Dataflow → ℕ → List Inclusion
after_cut flow p =
    map (λ d. OfCut (Delivered d)) (in_edges flow p) ++ map (λ d. OfCut (Discarded d)) (in_edges flow p)
    ++ map (λ d. OfCut (Delivered d)) (out_edges flow p) ++ map (λ d. OfCut (Discarded d)) (out_edges flow p)
    ++ OfCut (Notified p) ∷ OfNote (Own p) ∷ []

-- those that a lower notification frontier of a node can break
abbrev pub after_note : Dataflow → ℕ → List Inclusion
after_note flow p = (OfCut (Notified p) ∷ []) ++ map (λ d. OfNote (Note d)) (out_edges flow p)

-- those that a lower value on the left of an inclusion can break
abbrev pub after : Dataflow → Inclusion → List Inclusion
after flow (OfCut side) = after_cut flow (owner flow side)
after flow (OfNote limit) = after_note flow (note_node flow limit)

-- the number of an inclusion: those of edges come first
abbrev pub number : Dataflow → Inclusion → ℕ
number flow (OfCut (Delivered d)) = d
number flow (OfCut (Discarded e)) = length flow.edges + e
number flow (OfNote (Note d)) = length flow.edges + length flow.edges + d
number flow (OfCut (Notified p)) = length flow.edges + length flow.edges + length flow.edges + p
number flow (OfNote (Own p)) = length flow.edges + length flow.edges + length flow.edges + length flow.nodes + p

-- how many there are: three for each edge, two for each node
abbrev pub inclusion_count : Dataflow → ℕ
inclusion_count flow = length flow.edges + length flow.edges + length flow.edges + length flow.nodes + length flow.nodes

-- a list has, for each of the first n nodes, the place at which its inclusions begin
pub record AreBegins (flow : Dataflow) (n : ℕ) (begins : List ℕ) : Type 0 where
  pub one_each : length begins ≡ n
  pub each : (p : ℕ) → p < n → slice_index_or begins p 0 ≡ length (inclusions_to flow p)

-- whether the inclusion waits for its test, by a list of flags
abbrev pub waits : Dataflow → List Bool → Inclusion → Bool
waits flow waiting i = slice_index_or waiting (number flow i) true

-- how many wait
abbrev pub count : List Bool → ℕ
count [] = 0
count (true ∷ waiting) = suc (count waiting)
count (false ∷ waiting) = count waiting

-- These wait now, each that waited still does, no more are added than that many, and none is taken out. None of a node before
-- theirs waits anew.
pub record AreMadeToWait (flow : Dataflow) (is : List Inclusion) (old new : List Bool) : Type 0 where
  pub one_each : length new ≡ length old
  pub wait : AllByRecursion (λ i. waits flow new i ≡ true) is
  pub still : (j : Inclusion) → waits flow old j ≡ true → waits flow new j ≡ true
  pub few : count new ≤ count old + length is
  pub none_out : count old ≤ count new
  pub none_before : (p : ℕ) → AllByRecursion (λ i. p ≤ node_of flow i) is → (j : Inclusion) → IsInclusionOf flow j → node_of flow j < p
      → waits flow old j ≡ false → waits flow new j ≡ false
