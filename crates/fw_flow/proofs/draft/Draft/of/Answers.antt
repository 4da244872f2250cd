use Rattle.std.proofs.Common.{◌≡◌, ◌<◌, ◌^◌, length, map, sym, ap, ◌∙◌, subst, rules}
use Rattle.fw_flow.specs.declared.raw.NameSpaces.{NameSpaces}
use Rattle.fw_flow.specs.declared.walks.Link.{Link}
use Rattle.fw_flow.specs.Parts.{ArePartsOf}
use Rattle.fw_flow.specs.Walks.{AreWithin, link_of}
use Rattle.fw_flow.proofs.Drafts.{AreLinkedPartsOf, few_loops, few_nodes, links_within, ends_below, few_ends, lines_of_loops, lines_of_nodes, lines_of_edges, edges_to, edges_out_of}
use Rattle.fw_flow.proofs.draft.Draft.of.Goals as goal
use Rattle.fw_flow.proofs.draft.Draft.of.Goals.{After-len-nodes, After-deref-3, After-deref-5}

-- the parts with their links, as soon as they are made
linked : (c : After-len-nodes) → AreLinkedPartsOf c.in_ok-parts.parts c.in_ok-links.links.items c.args.declared.items
linked c = record {
  of_parts = subst (λ (n : NameSpaces). ArePartsOf c.in_ok-parts.parts n c.args.declared.items) c.requires.named c.in_ok-parts.ensures;
  of_links = c.in_ok-links.ensures ∙ ap (map link_of) c.deref.ensures.value;
}

within : (c : After-len-nodes) → AreWithin c.len-nodes.result c.in_ok-links.links.items
within c =
    let count : length c.in_ok-parts.parts.nodes.items ≡ c.len-nodes.result = search rules in
    subst (λ n. AreWithin n c.in_ok-links.links.items) count (links_within (linked c) c.requires.names_declared)

receivers : (c : After-deref-3) → c.deref-3.result.now ≡ map (λ (l : Link). l.receiver) c.in_ok-links.links.items
receivers c = c.deref-3.ensures.value ∙ c.in_ok-receivers.ensures ∙ ap (map (λ (l : Link). l.receiver)) c.deref-2.ensures.value

senders : (c : After-deref-5) → c.deref-5.result.now ≡ map (λ (l : Link). l.sender) c.in_ok-links.links.items
senders c = c.deref-5.ensures.value ∙ c.in_ok-senders.ensures ∙ ap (map (λ (l : Link). l.sender)) c.deref-4.ensures.value

pub of-requires-clause-loops : goal.of-requires-clause-loops
of-requires-clause-loops c = subst (λ (n : NameSpaces). length n.loops < 2 ^ 32) (sym c.requires.named) (few_loops c.args.declared.items c.requires.few)

pub of-requires-clause-nodes : goal.of-requires-clause-nodes
of-requires-clause-nodes c = subst (λ (n : NameSpaces). length n.nodes < 2 ^ 32) (sym c.requires.named) (few_nodes c.args.declared.items c.requires.few)

pub edges_by_end-requires-clause-within : goal.edges_by_end-requires-clause-within
edges_by_end-requires-clause-within c =
    let at = goal.at.edges_by_end-requires-clause-within c in
    ends_below (λ (l : Link). l.receiver) c.in_ok-links.links.items c.deref-3.result.now (receivers at.After-deref-3) (within at.After-len-nodes).receivers

pub edges_by_end-requires-clause-few : goal.edges_by_end-requires-clause-few
edges_by_end-requires-clause-few c =
    let at = goal.at.edges_by_end-requires-clause-few c in
    few_ends (linked at.After-len-nodes) c.requires.few (λ (l : Link). l.receiver) c.deref-3.result.now (receivers at.After-deref-3)

pub edges_by_end-requires-2-clause-within : goal.edges_by_end-requires-2-clause-within
edges_by_end-requires-2-clause-within c =
    let at = goal.at.edges_by_end-requires-2-clause-within c in
    ends_below (λ (l : Link). l.sender) c.in_ok-links.links.items c.deref-5.result.now (senders at.After-deref-5) (within at.After-len-nodes).senders

pub edges_by_end-requires-2-clause-few : goal.edges_by_end-requires-2-clause-few
edges_by_end-requires-2-clause-few c =
    let at = goal.at.edges_by_end-requires-2-clause-few c in
    few_ends (linked at.After-len-nodes) c.requires.few (λ (l : Link). l.sender) c.deref-5.result.now (senders at.After-deref-5)

pub returns-clause-fits : goal.returns-clause-fits
returns-clause-fits c =
    let at = goal.at.returns-clause-fits c in
    let parts = linked at.After-len-nodes in
    let count : length c.in_ok-parts.parts.nodes.items ≡ c.len-nodes.result = search rules in
    record {
      within = links_within parts c.requires.names_declared;
      lines_of_loops = lines_of_loops parts;
      lines_of_nodes = lines_of_nodes parts;
      lines_of_edges = lines_of_edges parts;
      lists_in = c.in_ok-incoming.ensures.len ∙ sym count;
      lists_out = c.in_ok-outgoing.ensures.len ∙ sym count;
    }

pub returns-clause-draft : goal.returns-clause-draft
returns-clause-draft c =
    let at = goal.at.returns-clause-draft c in
    let parts = linked at.After-len-nodes in
    let edges = c.in_ok-parts.parts.edges.items in
    let links = c.in_ok-links.links.items in
    record {
      of_parts = parts.of_parts;
      of_links = parts.of_links;
      edges_in = λ p. c.in_ok-incoming.ensures.edges p ∙ edges_to edges links c.deref-3.result.now parts.of_links (receivers at.After-deref-3) p;
      edges_out = λ p. c.in_ok-outgoing.ensures.edges p ∙ edges_out_of edges links c.deref-5.result.now parts.of_links (senders at.After-deref-5) p;
    }
