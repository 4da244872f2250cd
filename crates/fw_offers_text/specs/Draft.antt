-- What the reader of offers keeps of the statements so far: it is enough to judge the next one, and to tell what is offered.
use Rattle.std.specs.Prelude.{◌≡◌, ℕ, ◌<◌, Bool, true, false, not, ◌&&◌, ◌||◌, List, [], ◌∷◌, ◌++◌, map, length, slice_index_or, slice_set, Option, Some, None, unwrap_or, Result, Ok, Err}
use Rattle.std.specs.List.{list_all, filter_map, flat_map, cons_option, range_with_len}
use Rattle.std.specs.Option.{is_none, is_some, option_map_or}
use Rattle.std.specs.Result.{result_ok}
use Rattle.fw_time.specs.Stamp.{Stamp}
use Rattle.fw_frontier.specs.Front.{Front, is_within}
use Rattle.fw_flow.specs.declared.choice.Counted.{Counted}
use Rattle.fw_flow.specs.declared.choice.Offer.{Offer}
use Rattle.fw_flow.specs.declared.choice.Offered.{Offered}
use Rattle.fw_flow.specs.declared.choice.Offered.TheVariants as form
use Rattle.fw_flow.specs.declared.choice.Recorded.{Recorded}
use Rattle.fw_flow.specs.Dataflow.{Dataflow, kind_of, policy_of, sender, receiver, in_edges, out_edges, node_ids, is_input_kind, is_notified_kind, is_sequence_kind}
use Rattle.fw_flow.specs.Restoring.{can_resend, way_of}
use Rattle.fw_offers_text.specs.declared.code.ChoiceCode.{ChoiceCode}
use Rattle.fw_offers_text.specs.declared.code.ChoiceCode.TheVariants.{O4, O5, O6, O7}
use Rattle.fw_offers_text.specs.declared.draft.EdgeDraft.{EdgeDraft}
use Rattle.fw_offers_text.specs.declared.statement.Statement.{Statement}
use Rattle.fw_offers_text.specs.declared.statement.Statement.TheVariants.{Node, Record, Range, Delivered, Sent, Notified, Counts}
use Rattle.fw_offers_text.specs.Faults.{first_broken}
use Rattle.fw_offers_text.specs.OffersGrammar.{record_told, record_of, offered_between, range_stated, counted_at, delivered_stated, sent_stated, notices_of, counted_in, table_stated}
use Rattle.fw_offers_text.specs.Statements.{is_of_its_kind, are_covers_apart, are_counts_apart, is_strictly_within, last_of_fronts, is_record_told, is_said, first_told, presence_of, is_by_events, words_say, said_fault}
use Rattle.fw_offers_text.specs.Words.{Word}

-- what is told of a node: whether it is present, its records, its range, what came to it and what it sent, of what it was notified, how
-- many messages it sent
pub record NodeTold : Type 0 where
  pub present : Option Bool
  pub records : List Recorded
  pub range : Option Offered
  pub delivered : List Counted
  pub sent : List Counted
  pub notified : Option (List Stamp)
  pub table : Option (List (ℕ × ℕ))

-- what is told of each node, and which lines of each edge are told
pub record Told : Type 0 where
  pub nodes : List NodeTold
  pub edges : List EdgeDraft

-- what statements tell of node p
abbrev pub node_told : Dataflow → List Statement → ℕ → NodeTold
node_told flow said p = record {
  present = first_told (presence_of p) said;
  records = filter_map (record_of flow p) said;
  range = first_told (range_stated flow p) said;
  delivered = flat_map (delivered_stated flow p) said;
  sent = flat_map (sent_stated flow p) said;
  notified = first_told (notices_of p) said;
  table = first_told (table_stated p) said;
}

-- which lines of edge e are told
abbrev pub edge_told : List Statement → ℕ → EdgeDraft
edge_told said e = record { delivered = is_said said (Delivered e []); sent = is_said said (Sent e []) }

-- what statements tell
abbrev pub told_by : Dataflow → List Statement → Told
told_by flow said =
    record { nodes = map (node_told flow said) (node_ids flow); edges = map (edge_told said) (range_with_len 0 (length flow.edges)) }

-- ---- parts

-- nothing is told of a node
abbrev pub nothing_told : NodeTold
nothing_told = record { present = None; records = []; range = None; delivered = []; sent = []; notified = None; table = None }

-- what is told of node p
abbrev pub told_of_node : Told → ℕ → NodeTold
told_of_node told p = slice_index_or told.nodes p nothing_told

-- of edge e
abbrev pub told_of_edge : Told → ℕ → EdgeDraft
told_of_edge told e = slice_index_or told.edges e (record { delivered = false; sent = false })

-- the same with something else for node p
abbrev pub with_node : Told → ℕ → NodeTold → Told
with_node told p n = record told { nodes = slice_set told.nodes p n }

-- for edge e
abbrev pub with_edge : Told → ℕ → EdgeDraft → Told
with_edge told e of = record told { edges = slice_set told.edges e of }

-- the same with whether the node is present
abbrev pub with_presence : Bool → NodeTold → NodeTold
with_presence b n = record n { present = Some b }

-- with one record more
abbrev pub with_record : Recorded → NodeTold → NodeTold
with_record r n = record n { records = n.records ++ r ∷ [] }

-- with a range
abbrev pub with_range : Offered → NodeTold → NodeTold
with_range o n = record n { range = Some o }

-- with more that came
abbrev pub with_arrivals : List Counted → NodeTold → NodeTold
with_arrivals ms n = record n { delivered = n.delivered ++ ms }

-- with more that was sent
abbrev pub with_sent : List Counted → NodeTold → NodeTold
with_sent ms n = record n { sent = n.sent ++ ms }

-- with of what it was notified
abbrev pub with_notified : List Stamp → NodeTold → NodeTold
with_notified ts n = record n { notified = Some ts }

-- with how many messages it sent
abbrev pub with_table : List (ℕ × ℕ) → NodeTold → NodeTold
with_table counts n = record n { table = Some counts }

-- ---- one statement more

-- a place for the node or the edge of a statement is there
abbrev pub StatementFits : Told → Statement → Type 0
StatementFits told (Node p b) = p < length told.nodes
StatementFits told (Record p f covers) = p < length told.nodes
StatementFits told (Range p least greatest and_all) = p < length told.nodes
StatementFits told (Delivered d stamps) = d < length told.edges
StatementFits told (Sent e stamps) = e < length told.edges
StatementFits told (Notified p stamps) = p < length told.nodes
StatementFits told (Counts p counts) = p < length told.nodes

-- a place for each node and each edge of the dataflow is there
pub record IsOf (flow : Dataflow) (told : Told) : Type 0 where
  pub nodes : length told.nodes ≡ length flow.nodes
  pub edges : length told.edges ≡ length flow.edges

-- what is told, with a statement more
abbrev pub with_statement : Dataflow → Told → Statement → Told
with_statement flow told (Node p b) = with_node told p (with_presence b (told_of_node told p))
with_statement flow told (Record p f covers) = with_node told p (with_record (record_told flow p f covers) (told_of_node told p))
with_statement flow told (Range p least greatest and_all) =
    with_node told p (with_range (offered_between flow p least greatest and_all) (told_of_node told p))
with_statement flow told (Delivered d stamps) =
    with_edge (with_node told (receiver flow d) (with_arrivals (map (counted_at flow d) stamps) (told_of_node told (receiver flow d)))) d
    (record { delivered = true; sent = (told_of_edge told d).sent })
with_statement flow told (Sent e stamps) =
    with_edge (with_node told (sender flow e) (with_sent (map (counted_at flow e) stamps) (told_of_node told (sender flow e)))) e
    (record { delivered = (told_of_edge told e).delivered; sent = true })
with_statement flow told (Notified p stamps) = with_node told p (with_notified stamps (told_of_node told p))
with_statement flow told (Counts p counts) = with_node told p (with_table (map counted_in counts) (told_of_node told p))

-- whether a statement says nothing that is told, and nothing twice
abbrev pub is_new_after : Told → Statement → Bool
is_new_after told (Node p b) = is_none (told_of_node told p).present
is_new_after told (Record p f covers) = are_covers_apart covers
is_new_after told (Range p least greatest and_all) = is_none (told_of_node told p).range
is_new_after told (Delivered d stamps) = not (told_of_edge told d).delivered
is_new_after told (Sent e stamps) = not (told_of_edge told e).sent
is_new_after told (Notified p stamps) = is_none (told_of_node told p).notified
is_new_after told (Counts p counts) = is_none (told_of_node told p).table && are_counts_apart counts

-- whether a frontier lies above the last of these records
abbrev pub is_above_last : List Recorded → Front → Bool
is_above_last records f = option_map_or (λ last. is_strictly_within last f) (last_of_fronts (map (λ (r : Recorded). r.front) records)) true

-- whether a record lies above the last one of its node, and a range's second end above its first or at it
abbrev pub is_in_order_after : Told → Statement → Bool
is_in_order_after told (Node p b) = true
is_in_order_after told (Record p f covers) = is_above_last (told_of_node told p).records f
is_in_order_after told (Range p least greatest and_all) = is_within least greatest
is_in_order_after told (Delivered d stamps) = true
is_in_order_after told (Sent e stamps) = true
is_in_order_after told (Notified p stamps) = true
is_in_order_after told (Counts p counts) = true

-- the first rule behind O3 that a statement breaks
abbrev pub fault_after : Dataflow → Told → Statement → Option ChoiceCode
fault_after flow told s =
    first_broken ((O4, is_of_its_kind flow s) ∷ (O5, is_new_after told s) ∷ (O6, is_in_order_after told s) ∷ (O7, is_record_told flow s) ∷ [])

-- what words tell, if they break no rule by themselves
abbrev pub statements_said : Dataflow → List Word → List Statement
statements_said flow words = cons_option (result_ok (words_say flow words)) []

-- The words are taken where they break no rule after what is told: then what they say is told too; and else the rule is the first that
-- they break.
abbrev pub IsStatementTaken : Dataflow → List Word → Told → Told → Result (Unit {0}) ChoiceCode → Type 0
IsStatementTaken flow words old new (Ok done) =
    (said : List Statement) → old ≡ told_by flow said
    → (said_fault flow said (words_say flow words) ≡ None) × (new ≡ told_by flow (said ++ statements_said flow words))
IsStatementTaken flow words old new (Err code) =
    (said : List Statement) → old ≡ told_by flow said → said_fault flow said (words_say flow words) ≡ Some code

-- ---- all of it

-- whether the stamps of what came to a node have to be told
abbrev pub owes_arrivals_after : Dataflow → ℕ → NodeTold → Bool
owes_arrivals_after flow p n = unwrap_or n.present false || is_by_events (way_of flow p)

-- of what it sent
abbrev pub owes_sent_after : Dataflow → ℕ → NodeTold → Bool
owes_sent_after flow p n = is_input_kind (kind_of flow p) || (unwrap_or n.present false && not (can_resend (policy_of flow p)))

-- whether all that has to be told of node p is told
abbrev pub is_node_whole : Dataflow → Told → ℕ → Bool
is_node_whole flow told p =
    is_some (told_of_node told p).present
    && (not (owes_arrivals_after flow p (told_of_node told p)) || list_all (λ d. (told_of_edge told d).delivered) (in_edges flow p))
    && (not (owes_arrivals_after flow p (told_of_node told p) && is_notified_kind (kind_of flow p)) || is_some (told_of_node told p).notified)
    && (not (owes_sent_after flow p (told_of_node told p)) || list_all (λ e. (told_of_edge told e).sent) (out_edges flow p))
    && (not (is_sequence_kind (kind_of flow p)) || is_some (told_of_node told p).table)

-- whether all is told of each node
abbrev pub is_whole : Dataflow → Told → Bool
is_whole flow told = list_all (is_node_whole flow told) (node_ids flow)

-- what a node offers of which this is told
abbrev pub offer_from : NodeTold → Offer
offer_from n = record {
  present = unwrap_or n.present false;
  offered = unwrap_or n.range (form.Listed n.records);
  stamps = record { delivered = n.delivered; notified = unwrap_or n.notified []; sent = n.sent };
  table = unwrap_or n.table [];
}
