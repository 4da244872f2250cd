-- What a line of offers says of a dataflow, and the rules that it keeps or breaks by itself and by what was said before.
use Rattle.std.specs.Prelude.{ℕ, ◌^◌, ◌<◌, nat_lt, Bool, true, false, not, ◌&&◌, ◌||◌, ◌==◌, List, [], ◌∷◌, ◌++◌, map, length, if◌then◌else◌, Option, Some, None, unwrap_or, Result, Ok, Err}
use Rattle.std.specs.List.{list_any, list_all, filter_map, before_first, after_first}
use Rattle.std.specs.Option.{is_some, option_map, option_map_or, option_and_then, option_or, ok_or}
use Rattle.std.specs.Ordering.{is_lt}
use Rattle.std.specs.Result.{result_ok}
use Rattle.std.specs.Str.Parse.{digits_value}
use Rattle.fw_time.specs.Stamp.{Stamp, leq, in_domain, stamp_cmp}
use Rattle.fw_time.specs.declared.stamp.Bounds.{Bounds}
use Rattle.fw_bag.specs.Bag.{bag_sum}
use Rattle.fw_bag.specs.declared.rec.Rec.{Rec}
use Rattle.fw_frontier.specs.Front.{Front, is_within, same_front, least_stamps}
use Rattle.fw_lines.specs.Inputs.{is_colon}
use Rattle.fw_lines.specs.Lines.{Said}
use Rattle.fw_flow.specs.declared.side.Side.{Side}
use Rattle.fw_flow.specs.declared.side.Side.TheVariants as side
use Rattle.fw_flow.specs.declared.restoring.Restoring.{Restoring}
use Rattle.fw_flow.specs.declared.restoring.Restoring.TheVariants.{Batches, Bound, Anything, Checkpoints, Events}
use Rattle.fw_flow.specs.Dataflow.{Dataflow, kind_of, policy_of, receiver, bounds_of, in_edges, out_edges, node_ids, is_input_kind, is_notified_kind, is_sequence_kind}
use Rattle.fw_flow.specs.Restoring.{can_resend, way_of}
use Rattle.fw_model.specs.Inclusions.{owner, side_bounds}
use Rattle.fw_model.specs.Offers.{is_by_records}
use Rattle.fw_schedule.specs.Names.{node_with_name, edge_named}
use Rattle.fw_schedule.specs.Stamps.{stamp_spelled}
use Rattle.fw_offers_text.specs.declared.code.ChoiceCode.{ChoiceCode}
use Rattle.fw_offers_text.specs.declared.code.ChoiceCode.TheVariants.{O1, O2, O3, O4, O5, O6, O7}
use Rattle.fw_offers_text.specs.declared.form.CoverForm.{CoverForm}
use Rattle.fw_offers_text.specs.declared.form.OfferForm.{OfferForm}
use Rattle.fw_offers_text.specs.declared.form.OfferForm.TheVariants as form
use Rattle.fw_offers_text.specs.declared.form.SideForm.{SideForm}
use Rattle.fw_offers_text.specs.declared.form.SideForm.TheVariants as told
use Rattle.fw_offers_text.specs.declared.statement.RecordCover.{RecordCover}
use Rattle.fw_offers_text.specs.declared.statement.Statement.{Statement}
use Rattle.fw_offers_text.specs.declared.statement.Statement.TheVariants.{Node, Record, Range, Delivered, Sent, Notified, Counts}
use Rattle.fw_offers_text.specs.Faults.{first_broken}
use Rattle.fw_offers_text.specs.Forms.{offer_form}
use Rattle.fw_offers_text.specs.Words.{Word}

-- ---- O2: names

-- the stamps that words spell
abbrev pub stamps_spelled : List Word → List Stamp
stamps_spelled words = map stamp_spelled words

-- the epoch and the number that a word spells, as a rec
abbrev pub count_spelled : Word → Rec
count_spelled word = record { key = digits_value 10 (before_first is_colon word); value = digits_value 10 (after_first is_colon word) }

-- the counts that words spell, in order
abbrev pub counts_spelled : List Word → List Rec
counts_spelled words = bag_sum (map count_spelled words) []

-- the side, if it is one of node p
abbrev pub if_owned : Dataflow → ℕ → Side → Option Side
if_owned flow p of = if owner flow of == p then Some of else None

-- of what a cover of a record of node p is, if its edge is declared and is one of the node's: an in-edge of what was delivered, an
-- out-edge of what was discarded
abbrev pub side_said : Dataflow → ℕ → SideForm → Option Side
side_said flow p told.Notified = Some (side.Notified p)
side_said flow p (told.Delivered name) = option_and_then (λ d. if_owned flow p (side.Delivered d)) (edge_named flow name)
side_said flow p (told.Discarded name) = option_and_then (λ e. if_owned flow p (side.Discarded e)) (edge_named flow name)

-- the cover
abbrev pub cover_said : Dataflow → ℕ → CoverForm → Option RecordCover
cover_said flow p c = option_map (λ of. record { side = of; front = stamps_spelled c.front }) (side_said flow p c.of)

-- the covers, if each is of a side of node p
abbrev pub covers_said : Dataflow → ℕ → List CoverForm → Option (List RecordCover)
covers_said flow p cs =
    if list_all (λ (c : CoverForm). is_some (side_said flow p c.of)) cs then Some (filter_map (cover_said flow p) cs) else None

-- a record of node p, if each cover is of a side of it
abbrev pub record_statement : Dataflow → List Word → List CoverForm → ℕ → Option Statement
record_statement flow front covers p = option_map (λ said. Record p (stamps_spelled front) said) (covers_said flow p covers)

-- what a line says, if its names are declared
abbrev pub statement_said : Dataflow → OfferForm → Option Statement
statement_said flow (form.Node name present) = option_map (λ p. Node p present) (node_with_name flow name)
statement_said flow (form.Record name front covers) = option_and_then (record_statement flow front covers) (node_with_name flow name)
statement_said flow (form.Range name least greatest and_all) =
    option_map (λ p. Range p (stamps_spelled least) (stamps_spelled greatest) and_all) (node_with_name flow name)
statement_said flow (form.Delivered name stamps) = option_map (λ d. Delivered d (stamps_spelled stamps)) (edge_named flow name)
statement_said flow (form.Sent name stamps) = option_map (λ e. Sent e (stamps_spelled stamps)) (edge_named flow name)
statement_said flow (form.Notified name stamps) = option_map (λ p. Notified p (stamps_spelled stamps)) (node_with_name flow name)
statement_said flow (form.Counts name counts) = option_map (λ p. Counts p (counts_spelled counts)) (node_with_name flow name)

-- what words say, or the first rule that they break by themselves: O1 of form, O2 of names
abbrev pub words_say : Dataflow → List Word → Result Statement ChoiceCode
words_say flow words = option_map_or (λ line. ok_or (statement_said flow line) O2) (offer_form words) (Err O1)

-- what lines say, in order
abbrev pub statements_of : Dataflow → List Said → List Statement
statements_of flow lines = filter_map (λ line. result_ok (words_say flow line.words)) lines

-- the nodes and edges of a statement are the dataflow's
abbrev pub IsStatementOf : Dataflow → Statement → Type 0
IsStatementOf flow (Node p present) = p < length flow.nodes
IsStatementOf flow (Record p f covers) = p < length flow.nodes
IsStatementOf flow (Range p least greatest and_all) = p < length flow.nodes
IsStatementOf flow (Delivered d stamps) = d < length flow.edges
IsStatementOf flow (Sent e stamps) = e < length flow.edges
IsStatementOf flow (Notified p stamps) = p < length flow.nodes
IsStatementOf flow (Counts p counts) = p < length flow.nodes

-- ---- O3: domains

-- whether stamps ascend, and no two of them are comparable
abbrev pub are_least_in_order : Front → Bool
are_least_in_order [] = true
are_least_in_order (o ∷ os) = list_all (λ q. is_lt (stamp_cmp o q) && not (leq o q || leq q o)) os && are_least_in_order os

-- whether the stamps name a frontier of the domain: they are the domain's, ascend, and no two of them are comparable
abbrev pub is_canonical : Bounds → Front → Bool
is_canonical bounds f = list_all (in_domain bounds) f && are_least_in_order f

-- whether the cover is one of its side's domain
abbrev pub is_cover_in_domain : Dataflow → RecordCover → Bool
is_cover_in_domain flow cover = is_canonical (side_bounds flow cover.side) cover.front

-- whether the epoch is at most 2^32 - 1, and the number below 2^64
abbrev pub is_count_small : Rec → Bool
is_count_small c = nat_lt c.key (2 ^ 32) && nat_lt c.value (2 ^ 64)

-- whether the frontiers and stamps of a statement lie in their domains, and its numbers are small
abbrev pub is_in_domains : Dataflow → Statement → Bool
is_in_domains flow (Node p present) = true
is_in_domains flow (Record p f covers) = is_canonical (bounds_of flow p) f && list_all (is_cover_in_domain flow) covers
is_in_domains flow (Range p least greatest and_all) = is_canonical (bounds_of flow p) least && is_canonical (bounds_of flow p) greatest
is_in_domains flow (Delivered d stamps) = list_all (in_domain (bounds_of flow (receiver flow d))) stamps
is_in_domains flow (Sent e stamps) = list_all (in_domain (bounds_of flow (receiver flow e))) stamps
is_in_domains flow (Notified p stamps) = list_all (in_domain (bounds_of flow p)) stamps
is_in_domains flow (Counts p counts) = list_all is_count_small counts

-- the statement, unless it breaks O3
abbrev pub in_its_domains : Dataflow → Statement → Result Statement ChoiceCode
in_its_domains flow s = if is_in_domains flow s then Ok s else Err O3

-- the same of what may break another rule before
abbrev pub in_domains : Dataflow → Result Statement ChoiceCode → Result Statement ChoiceCode
in_domains flow (Ok s) = in_its_domains flow s
in_domains flow (Err code) = Err code

-- ---- O4: kinds

-- whether the statement is one for nodes of its node's kind and policy: a record where the node is restored by records, and else a
-- range; all too where it is an input
abbrev pub is_of_its_kind : Dataflow → Statement → Bool
is_of_its_kind flow (Node p present) = true
is_of_its_kind flow (Record p f covers) = is_by_records (way_of flow p)
is_of_its_kind flow (Range p least greatest and_all) = not (is_by_records (way_of flow p)) && (not and_all || is_input_kind (kind_of flow p))
is_of_its_kind flow (Delivered d stamps) = true
is_of_its_kind flow (Sent e stamps) = true
is_of_its_kind flow (Notified p stamps) = is_notified_kind (kind_of flow p)
is_of_its_kind flow (Counts p counts) = is_sequence_kind (kind_of flow p)

-- ---- O5: nothing is said twice

-- whether two statements say the same thing of the same node or edge; records are many
abbrev pub is_same_saying : Statement → Statement → Bool
is_same_saying (Node p present) (Node q other) = q == p
is_same_saying (Range p least greatest and_all) (Range q from to all_too) = q == p
is_same_saying (Delivered d stamps) (Delivered e others) = e == d
is_same_saying (Sent d stamps) (Sent e others) = e == d
is_same_saying (Notified p stamps) (Notified q others) = q == p
is_same_saying (Counts p counts) (Counts q others) = q == p
is_same_saying s t = false

-- whether two sides are one
abbrev pub is_same_side : Side → Side → Bool
is_same_side (side.Delivered d) (side.Delivered e) = d == e
is_same_side (side.Discarded d) (side.Discarded e) = d == e
is_same_side (side.Notified p) (side.Notified q) = p == q
is_same_side one other = false

-- whether one of the covers is of the side
abbrev pub is_side_told : List RecordCover → Side → Bool
is_side_told covers of = list_any (λ c. is_same_side of c.side) covers

-- whether each of the covers is of another side than those before it
abbrev pub are_of_other_sides : List RecordCover → List RecordCover → Bool
are_of_other_sides before [] = true
are_of_other_sides before (c ∷ cs) = not (is_side_told before c.side) && are_of_other_sides (before ++ c ∷ []) cs

-- whether the covers are each of another side
abbrev pub are_covers_apart : List RecordCover → Bool
are_covers_apart covers = are_of_other_sides [] covers

-- whether an epoch stands above the last one, if there is one
abbrev pub is_epoch_above : Option ℕ → ℕ → Bool
is_epoch_above last epoch = option_map_or (λ before. nat_lt before epoch) last true

-- whether the epochs of counts ascend, behind a last one
abbrev pub ascend_from : Option ℕ → List Rec → Bool
ascend_from last [] = true
ascend_from last (c ∷ cs) = is_epoch_above last c.key && ascend_from (Some c.key) cs

-- whether counts in order are each of another epoch
abbrev pub are_counts_apart : List Rec → Bool
are_counts_apart counts = ascend_from None counts

-- whether a statement says nothing twice within itself
abbrev pub is_apart : Statement → Bool
is_apart (Record p f covers) = are_covers_apart covers
is_apart (Counts p counts) = are_counts_apart counts
is_apart s = true

-- whether it says nothing that was said before, and nothing twice
abbrev pub is_new_statement : List Statement → Statement → Bool
is_new_statement before s = not (list_any (is_same_saying s) before) && is_apart s

-- ---- O6: order

-- the frontier that a statement records of node p
abbrev pub front_recorded : ℕ → Statement → Option Front
front_recorded p (Record q f covers) = if q == p then Some f else None
front_recorded p s = None

-- the last one
abbrev pub last_of_fronts : List Front → Option Front
last_of_fronts [] = None
last_of_fronts (f ∷ []) = Some f
last_of_fronts (f ∷ g ∷ gs) = last_of_fronts (g ∷ gs)

-- whether a frontier lies within another one that is not the same
abbrev pub is_strictly_within : Front → Front → Bool
is_strictly_within f g = is_within f g && not (same_front f g)

-- whether a record lies above the last one of its node before it, and a range's second end above its first or at it
abbrev pub is_in_order : List Statement → Statement → Bool
is_in_order before (Record p f covers) =
    option_map_or (λ last. is_strictly_within last f) (last_of_fronts (filter_map (front_recorded p) before)) true
is_in_order before (Range p least greatest and_all) = is_within least greatest
is_in_order before s = true

-- ---- O7: all is told

-- the sides that a record of node p has to tell: each in-edge, each out-edge unless the node can send again, and of what it was
-- notified, if it is
abbrev pub owed_sides : Dataflow → ℕ → List Side
owed_sides flow p =
    map (λ d. side.Delivered d) (in_edges flow p)
    ++ (if can_resend (policy_of flow p) then [] else map (λ e. side.Discarded e) (out_edges flow p))
    ++ (if is_notified_kind (kind_of flow p) then side.Notified p ∷ [] else [])

-- whether no stamp of the domain is inside
abbrev pub has_no_stamps : Bounds → Front → Bool
has_no_stamps bounds f = same_front f (least_stamps bounds)

-- whether a record tells all that it has to; one of no stamps need tell nothing
abbrev pub is_record_told : Dataflow → Statement → Bool
is_record_told flow (Record p f covers) = has_no_stamps (bounds_of flow p) f || list_all (is_side_told covers) (owed_sides flow p)
is_record_told flow s = true

-- ---- the rule that a line breaks

-- what a line says, or the first rule that it breaks by itself and before its kind: O2 of names, O3 of domains
abbrev pub stated : Dataflow → OfferForm → Result Statement ChoiceCode
stated flow line = in_domains flow (ok_or (statement_said flow line) O2)

-- the first rule that a statement breaks, after these
abbrev pub statement_fault : Dataflow → List Statement → Statement → Option ChoiceCode
statement_fault flow before s =
    first_broken ((O3, is_in_domains flow s) ∷ (O4, is_of_its_kind flow s) ∷ (O5, is_new_statement before s) ∷ (O6, is_in_order before s)
    ∷ (O7, is_record_told flow s) ∷ [])

-- the rule that is broken after these, by words themselves or by what they say
abbrev pub said_fault : Dataflow → List Statement → Result Statement ChoiceCode → Option ChoiceCode
said_fault flow before (Ok s) = statement_fault flow before s
said_fault flow before (Err code) = Some code

-- the rule that a line of these words breaks after these; a line without words breaks none
abbrev pub offer_words_fault : Dataflow → List Statement → List Word → Option ChoiceCode
offer_words_fault flow before [] = None
offer_words_fault flow before (word ∷ words) = said_fault flow before (words_say flow (word ∷ words))

-- ---- what is told in all

-- the first that one of these tells, where such as each tells are looked for
abbrev pub first_told : {S A : Type 0} → (S → Option A) → List S → Option A
first_told tells [] = None
first_told tells (s ∷ said) = option_or (tells s) (first_told tells said)

-- whether one of the statements says the same thing of the same node or edge
abbrev pub is_said : List Statement → Statement → Bool
is_said said s = list_any (is_same_saying s) said

-- whether node p is present, as a statement tells
abbrev pub presence_of : ℕ → Statement → Option Bool
presence_of p (Node q present) = if q == p then Some present else None
presence_of p s = None

-- whether node p is present
abbrev pub is_present : List Statement → ℕ → Bool
is_present said p = unwrap_or (first_told (presence_of p) said) false

-- whether a node that is restored in this way does events again
abbrev pub is_by_events : Restoring → Bool
is_by_events Batches = false
is_by_events Bound = false
is_by_events Anything = false
is_by_events Checkpoints = false
is_by_events Events = true

-- whether the stamps of what came to node p have to be told: it is present, or it does events again
abbrev pub owes_arrivals : Dataflow → List Statement → ℕ → Bool
owes_arrivals flow said p = is_present said p || is_by_events (way_of flow p)

-- whether the stamps of what node p sent have to be told: it is an input, or it is present and cannot send again
abbrev pub owes_sent : Dataflow → List Statement → ℕ → Bool
owes_sent flow said p = is_input_kind (kind_of flow p) || (is_present said p && not (can_resend (policy_of flow p)))

-- whether all that has to be told of node p is told
abbrev pub is_node_told : Dataflow → List Statement → ℕ → Bool
is_node_told flow said p =
    is_said said (Node p true)
    && (not (owes_arrivals flow said p) || list_all (λ d. is_said said (Delivered d [])) (in_edges flow p))
    && (not (owes_arrivals flow said p && is_notified_kind (kind_of flow p)) || is_said said (Notified p []))
    && (not (owes_sent flow said p) || list_all (λ e. is_said said (Sent e [])) (out_edges flow p))
    && (not (is_sequence_kind (kind_of flow p)) || is_said said (Counts p []))

-- whether all is told of each node
abbrev pub is_all_told : Dataflow → List Statement → Bool
is_all_told flow said = list_all (is_node_told flow said) (node_ids flow)
