-- The edges and kinds of a dataflow, by lists of its nodes and links.
use Rattle.std.proofs.Common.{◌≡◌, ℕ, ◌<◌, List, [], length, map, refl, ap, ◌∙◌, subst, arith}
use Rattle.std.proofs.lemmas.List.{get_or-map, length-map}
use Rattle.fw_flow.specs.declared.node.Edge.{Edge}
use Rattle.fw_flow.specs.declared.node.Loop.{Loop}
use Rattle.fw_flow.specs.declared.node.Node.{Node}
use Rattle.fw_flow.specs.declared.walks.Link.{Link}
use Rattle.fw_flow.specs.Dataflow.{Dataflow, kind_of, sender, receiver}
use Rattle.fw_flow.specs.Walks.{link_of, link_at, listed_kind, IsMadeOf}

pub sender-of_link : (flow : Dataflow) (e : ℕ) → e < length flow.edges → (link_at (map link_of flow.edges) e).sender ≡ sender flow e
unfolding sender
sender-of_link flow e lt =
    ap (λ (l : Link). l.sender) (get_or-map link_of flow.edges e (record { name = []; sender = length flow.nodes; receiver = length flow.nodes }) (record { sender = 0; receiver = 0 }) lt)

pub receiver-of_link : (flow : Dataflow) (e : ℕ) → e < length flow.edges → (link_at (map link_of flow.edges) e).receiver ≡ receiver flow e
unfolding receiver
receiver-of_link flow e lt =
    ap (λ (l : Link). l.receiver) (get_or-map link_of flow.edges e (record { name = []; sender = length flow.nodes; receiver = length flow.nodes }) (record { sender = 0; receiver = 0 }) lt)

kind_of-listed : (flow : Dataflow) (p : ℕ) → kind_of flow p ≡ listed_kind flow.nodes p
unfolding kind_of
kind_of-listed flow p = refl

-- what the links say of each edge
pub record AreEdgesOf (flow : Dataflow) (links : List Link) : Type 0 where
  pub count : length links ≡ length flow.edges
  pub senders : (e : ℕ) → e < length links → (link_at links e).sender ≡ sender flow e
  pub receivers : (e : ℕ) → e < length links → (link_at links e).receiver ≡ receiver flow e

AreEdgesOf-map : (flow : Dataflow) → AreEdgesOf flow (map link_of flow.edges)
AreEdgesOf-map flow =
    let count = length-map {A = Edge} {B = Link} flow.edges link_of in
    record {
      count = count;
      senders = λ e lt. sender-of_link flow e (omega (arith, count));
      receivers = λ e lt. receiver-of_link flow e (omega (arith, count));
    }

pub edges_of : (flow : Dataflow) (loops : List Loop) (nodes : List Node) (links : List Link) → IsMadeOf flow loops nodes links → AreEdgesOf flow links
edges_of flow loops nodes links made = subst (AreEdgesOf flow) made.of_links (AreEdgesOf-map flow)

pub kinds_of : (flow : Dataflow) (loops : List Loop) (nodes : List Node) (links : List Link) → IsMadeOf flow loops nodes links → (p : ℕ) → kind_of flow p ≡ listed_kind nodes p
kinds_of flow loops nodes links made p = kind_of-listed flow p ∙ ap (λ ns. listed_kind ns p) made.of_nodes
