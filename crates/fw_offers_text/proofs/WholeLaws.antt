-- All is told where what is kept tells it, and what is kept tells what is offered.
use Rattle.std.proofs.Common.{◌≡◌, ℕ, zero, suc, ◌+◌, ◌<◌, Bool, true, false, not, ◌&&◌, ◌||◌, List, [], ◌∷◌, map, length, unwrap_or, refl, sym, ◌∙◌, ap, arith}
use Rattle.std.specs.List.{list_all, range_with_len, AllByRecursion}
use Rattle.std.specs.Option.{is_some}
use Rattle.fw_flow.specs.Dataflow.{Dataflow, kind_of, policy_of, in_edges, out_edges, node_ids, is_input_kind, is_notified_kind, is_sequence_kind}
use Rattle.fw_flow.specs.Restoring.{can_resend, way_of}
use Rattle.fw_flow.proofs.EdgeLaws.{in_edges-from}
use Rattle.fw_flow.proofs.OutEdgeLaws.{out_edges-from}
use Rattle.fw_offers_text.specs.declared.draft.EdgeDraft.{EdgeDraft}
use Rattle.fw_offers_text.specs.declared.statement.Statement.{Statement}
use Rattle.fw_offers_text.specs.declared.statement.Statement.TheVariants.{Node, Delivered, Sent, Notified, Counts}
use Rattle.fw_offers_text.specs.Draft.{NodeTold, node_told, told_by, told_of_node, told_of_edge, is_node_whole, is_whole, offer_from}
use Rattle.fw_offers_text.specs.OffersGrammar.{notices_of, table_stated, offers_of}
use Rattle.fw_offers_text.specs.Statements.{is_same_saying, is_said, presence_of, is_present, is_by_events, is_node_told, is_all_told}
use Rattle.fw_offers_text.proofs.DraftLaws.{node_among, edge_among, presence_said, notices_said, table_said}
use Rattle.fw_offers_text.proofs.ToldLaws.{any_told}
use Rattle.std.proofs.lemmas.Simd.{map-map}

-- ---- tests of each of a list

all-same : (test other : ℕ → Bool) (P : ℕ → Type 0) (xs : List ℕ) → AllByRecursion P xs → ((x : ℕ) → P x → test x ≡ other x) → list_all test xs ≡ list_all other xs
all-same test other P [] a h = refl
all-same test other P (x ∷ xs) a h = ap (λ b. b && list_all test xs) (h x a.0) ∙ ap (λ b. other x && b) (all-same test other P xs a.1 h)

out_edges-below : (flow : Dataflow) (p : ℕ) → AllByRecursion (λ e. e < length flow.edges) (out_edges flow p)
out_edges-below flow p = out_edges-from (λ e. e < length flow.edges) flow p (λ e l r. l)

in_edges-below : (flow : Dataflow) (p : ℕ) → AllByRecursion (λ e. e < length flow.edges) (in_edges flow p)
in_edges-below flow p = in_edges-from (λ e. e < length flow.edges) flow p (λ e l r. l)

range-below : (a n m : ℕ) → a + n ≡ m → AllByRecursion (λ p. p < m) (range_with_len a n)
range-below a zero m h = tt
range-below a (suc n) m h = (omega (arith, h), range-below (a + 1) n m (omega (arith, h)))

-- ---- a node

arrivals_same : (flow : Dataflow) (said : List Statement) (p : ℕ) → list_all (λ d. is_said said (Delivered d [])) (in_edges flow p) ≡ list_all (λ d. (told_of_edge (told_by flow said) d).delivered) (in_edges flow p)
arrivals_same flow said p =
    all-same (λ d. is_said said (Delivered d [])) (λ d. (told_of_edge (told_by flow said) d).delivered) (λ e. e < length flow.edges) (in_edges flow p) (in_edges-below flow p)
    (λ d below. ap (λ (e : EdgeDraft). e.delivered) (sym (edge_among flow said d below)))

sent_same : (flow : Dataflow) (said : List Statement) (p : ℕ) → list_all (λ e. is_said said (Sent e [])) (out_edges flow p) ≡ list_all (λ e. (told_of_edge (told_by flow said) e).sent) (out_edges flow p)
sent_same flow said p =
    all-same (λ e. is_said said (Sent e [])) (λ e. (told_of_edge (told_by flow said) e).sent) (λ e. e < length flow.edges) (out_edges flow p) (out_edges-below flow p)
    (λ d below. ap (λ (e : EdgeDraft). e.sent) (sym (edge_among flow said d below)))

-- the parts of what has to be told of a node
abbrev parts : (told present by_events notified resend input sequence arrivals notices sent table : Bool) → Bool
parts told present by_events notified resend input sequence arrivals notices sent table =
    told && (not (present || by_events) || arrivals) && (not ((present || by_events) && notified) || notices)
    && (not (input || (present && not resend)) || sent) && (not sequence || table)

node_same : (flow : Dataflow) (said : List Statement) (p : ℕ) → p < length flow.nodes → is_node_told flow said p ≡ is_node_whole flow (told_by flow said) p
node_same flow said p below =
    let q : Bool → Bool → Bool → Bool → Bool → Bool → Bool = λ told present arrivals notices sent table.
    parts told present (is_by_events (way_of flow p)) (is_notified_kind (kind_of flow p)) (can_resend (policy_of flow p)) (is_input_kind (kind_of flow p)) (is_sequence_kind (kind_of flow p)) arrivals notices sent table in
    let n = told_of_node (told_by flow said) p in
    let here : node_told flow said p ≡ n = sym (node_among flow said p below) in
    let a = is_said said (Node p true) in
    let b = is_present said p in
    let c = list_all (λ d. is_said said (Delivered d [])) (in_edges flow p) in
    let d = is_said said (Notified p []) in
    let e = list_all (λ e. is_said said (Sent e [])) (out_edges flow p) in
    let f = is_said said (Counts p []) in
    let c' = list_all (λ d. (told_of_edge (told_by flow said) d).delivered) (in_edges flow p) in
    let e' = list_all (λ e. (told_of_edge (told_by flow said) e).sent) (out_edges flow p) in
    let i : a ≡ is_some n.present = any_told (presence_of p) (is_same_saying (Node p true)) said (presence_said p true) ∙ ap (λ (m : NodeTold). is_some m.present) here in
    let j : b ≡ unwrap_or n.present false = ap (λ (m : NodeTold). unwrap_or m.present false) here in
    let k : d ≡ is_some n.notified = any_told (notices_of p) (is_same_saying (Notified p [])) said (notices_said p []) ∙ ap (λ (m : NodeTold). is_some m.notified) here in
    let l : f ≡ is_some n.table = any_told (table_stated p) (is_same_saying (Counts p [])) said (table_said p []) ∙ ap (λ (m : NodeTold). is_some m.table) here in
    ap (λ x. q x b c d e f) i ∙ ap (λ x. q (is_some n.present) x c d e f) j ∙ ap (λ x. q (is_some n.present) (unwrap_or n.present false) x d e f) (arrivals_same flow said p)
    ∙ ap (λ x. q (is_some n.present) (unwrap_or n.present false) c' x e f) k ∙ ap (λ x. q (is_some n.present) (unwrap_or n.present false) c' (is_some n.notified) x f) (sent_same flow said p)
    ∙ ap (λ x. q (is_some n.present) (unwrap_or n.present false) c' (is_some n.notified) e' x) l

-- all is told where what is kept tells it
pub whole_told : (flow : Dataflow) (said : List Statement) → is_all_told flow said ≡ is_whole flow (told_by flow said)
whole_told flow said =
    all-same (is_node_told flow said) (is_node_whole flow (told_by flow said)) (λ p. p < length flow.nodes) (node_ids flow) (range-below 0 (length flow.nodes) (length flow.nodes) (omega arith))
    (λ p below. node_same flow said p below)

-- ---- what is offered

pub offers_told : (flow : Dataflow) (said : List Statement) → map offer_from (told_by flow said).nodes ≡ offers_of flow said
offers_told flow said = map-map offer_from (node_told flow said) (node_ids flow)
