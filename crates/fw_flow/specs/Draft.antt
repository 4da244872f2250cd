-- For the proofs of src/draft.rt: a flow whose parts have their places, and whose rules are not tested yet.
use Rattle.std.specs.Prelude.{◌≡◌, ℕ, List, length, map}
use Rattle.fw_lines.specs.declared.refusal.Code.TheVariants.{F4, F5, F6, F7, F8, F9, F12}
use Rattle.fw_flow.specs.declared.draft.Draft.{Draft}
use Rattle.fw_flow.specs.Declaring.{Declared}
use Rattle.fw_flow.specs.Check.{KeepsRule}
use Rattle.fw_flow.specs.Dataflow.{edges_into, edges_from}
use Rattle.fw_flow.specs.Flow.{edges_at}
use Rattle.fw_flow.specs.Parts.{ArePartsOf}
use Rattle.fw_flow.specs.Raw.{names_of}
use Rattle.fw_flow.specs.Walks.{AreWithin, link_of}

-- the lists of a draft are as long as each other asks, and its links join its nodes
pub record FitsTogether (draft : Draft) : Type 0 where
  pub within : AreWithin (length draft.parts.nodes.items) draft.links.items
  pub lines_of_loops : length draft.parts.loop_lines.items ≡ length draft.parts.loops.items
  pub lines_of_nodes : length draft.parts.node_lines.items ≡ length draft.parts.nodes.items
  pub lines_of_edges : length draft.parts.edge_lines.items ≡ length draft.links.items
  pub lists_in : length draft.incoming.items ≡ length draft.parts.nodes.items
  pub lists_out : length draft.outgoing.items ≡ length draft.parts.nodes.items

-- the draft is that of the declarations
pub record IsDraftOf (draft : Draft) (raw : List Declared) : Type 0 where
  pub of_parts : ArePartsOf draft.parts (names_of raw) raw
  pub of_links : draft.links.items ≡ map link_of draft.parts.edges.items
  pub edges_in : (p : ℕ) → edges_at draft.incoming.items p ≡ edges_into 0 draft.parts.edges.items p
  pub edges_out : (p : ℕ) → edges_at draft.outgoing.items p ≡ edges_from 0 draft.parts.edges.items p

-- the rules that are tested once the names are declared hold
pub record LaterRulesHold (raw : List Declared) : Type 0 where
  pub chains : KeepsRule raw F12
  pub degrees : KeepsRule raw F4
  pub domains : KeepsRule raw F5
  pub walks : KeepsRule raw F6
  pub policies : KeepsRule raw F7
  pub limits : KeepsRule raw F8
  pub borders : KeepsRule raw F9
