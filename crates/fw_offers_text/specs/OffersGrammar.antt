-- The grammar of offers: what the text of a dataflow's offers says, and the rules that it may break.
use Rattle.std.specs.Prelude.{◌≡◌, ◌⊎◌, ℕ, Bool, true, false, ◌==◌, List, [], ◌∷◌, map, if◌then◌else◌, Option, Some, None, unwrap_or}
use Rattle.std.specs.List.{filter_map, flat_map}
use Rattle.fw_time.specs.Stamp.{Stamp, origin}
use Rattle.fw_bag.specs.declared.rec.Rec.{Rec}
use Rattle.fw_frontier.specs.Front.{Front, least_stamps}
use Rattle.fw_lines.specs.Lines.{Said, said_lines}
use Rattle.fw_flow.specs.declared.choice.Counted.{Counted}
use Rattle.fw_flow.specs.declared.choice.OfEdge.{OfEdge}
use Rattle.fw_flow.specs.declared.choice.Offer.{Offer}
use Rattle.fw_flow.specs.declared.choice.Offered.{Offered}
use Rattle.fw_flow.specs.declared.choice.Offered.TheVariants as form
use Rattle.fw_flow.specs.declared.choice.Recorded.{Recorded}
use Rattle.fw_flow.specs.declared.side.Side.{Side}
use Rattle.fw_flow.specs.declared.side.Side.TheVariants as side
use Rattle.fw_flow.specs.Dataflow.{Dataflow, kind_of, sender, receiver, bounds_of, node_ids, is_input_kind}
use Rattle.fw_offers_text.specs.declared.code.ChoiceCode.{ChoiceCode}
use Rattle.fw_offers_text.specs.declared.code.ChoiceCode.TheVariants.{O7, O8}
use Rattle.fw_offers_text.specs.declared.code.ChoiceRefusal.{ChoiceRefusal}
use Rattle.fw_offers_text.specs.declared.statement.RecordCover.{RecordCover}
use Rattle.fw_offers_text.specs.declared.statement.Statement.{Statement}
use Rattle.fw_offers_text.specs.declared.statement.Statement.TheVariants.{Record, Range, Delivered, Sent, Notified, Counts}
use Rattle.fw_offers_text.specs.Faults.{ChoiceRules, KeepsChoiceRules, IsFirstChoiceRefusal, IsOfWholeText}
use Rattle.fw_offers_text.specs.Statements.{statements_of, offer_words_fault, is_all_told, is_present, first_told}

-- ---- what they offer

-- a frontier of what node p was notified of, if the side is that
abbrev pub notified_front : ℕ → Side → Front → Option Front
notified_front p (side.Delivered d) f = None
notified_front p (side.Discarded e) f = None
notified_front p (side.Notified q) f = if q == p then Some f else None

-- a frontier of what was delivered on an edge, if the side is that
abbrev pub delivered_front : Side → Front → Option OfEdge
delivered_front (side.Delivered d) f = Some (record { edge = d; front = f })
delivered_front (side.Discarded e) f = None
delivered_front (side.Notified q) f = None

-- the same of what was sent
abbrev pub discarded_front : Side → Front → Option OfEdge
discarded_front (side.Delivered d) f = None
discarded_front (side.Discarded e) f = Some (record { edge = e; front = f })
discarded_front (side.Notified q) f = None

-- the record of a frontier with these covers; nothing was notified where that is not told
abbrev pub record_told : Dataflow → ℕ → Front → List RecordCover → Recorded
record_told flow p f covers = record {
  front = f;
  notified = unwrap_or (first_told (λ (c : RecordCover). notified_front p c.side c.front) covers) (least_stamps (bounds_of flow p));
  delivered = filter_map (λ (c : RecordCover). delivered_front c.side c.front) covers;
  discarded = filter_map (λ (c : RecordCover). discarded_front c.side c.front) covers;
}

-- the record of node p that a statement tells
abbrev pub record_of : Dataflow → ℕ → Statement → Option Recorded
record_of flow p (Record q f covers) = if q == p then Some (record_told flow q f covers) else None
record_of flow p s = None

-- all between two frontiers: batches of an input, whose all is offered too where it is exhausted
abbrev pub offered_between : Dataflow → ℕ → Front → Front → Bool → Offered
offered_between flow p least greatest and_all =
    if is_input_kind (kind_of flow p) then form.Batches least greatest and_all else form.Between least greatest

-- the range of node p that a statement tells
abbrev pub range_stated : Dataflow → ℕ → Statement → Option Offered
range_stated flow p (Range q least greatest and_all) = if q == p then Some (offered_between flow q least greatest and_all) else None
range_stated flow p s = None

-- the range that is told of node p, or its records
abbrev pub offered_told : Dataflow → List Statement → ℕ → Offered
offered_told flow said p = unwrap_or (first_told (range_stated flow p) said) (form.Listed (filter_map (record_of flow p) said))

-- messages of an edge at a stamp. Of an input they come from its batch of that epoch; else their cause is the least stamp of the
-- sender's domain, since they count by their stamps alone.
abbrev pub counted_at : Dataflow → ℕ → Stamp → Counted
counted_at flow e t = record {
  edge = e;
  at = t;
  causes = (if is_input_kind (kind_of flow (sender flow e)) then t else origin (bounds_of flow (sender flow e)).greatest) ∷ [];
  count = 1;
}

-- what a statement tells as delivered to node p
abbrev pub delivered_stated : Dataflow → ℕ → Statement → List Counted
delivered_stated flow p (Delivered d stamps) = if receiver flow d == p then map (counted_at flow d) stamps else []
delivered_stated flow p s = []

-- as sent by it
abbrev pub sent_stated : Dataflow → ℕ → Statement → List Counted
sent_stated flow p (Sent e stamps) = if sender flow e == p then map (counted_at flow e) stamps else []
sent_stated flow p s = []

-- as that of which it was notified
abbrev pub notices_of : ℕ → Statement → Option (List Stamp)
notices_of p (Notified q stamps) = if q == p then Some stamps else None
notices_of p s = None

-- an epoch and how many messages
abbrev pub counted_in : Rec → ℕ × ℕ
counted_in c = (c.key, c.value)

-- how many messages a statement tells that node p sent, by epoch
abbrev pub table_stated : ℕ → Statement → Option (List (ℕ × ℕ))
table_stated p (Counts q counts) = if q == p then Some (map counted_in counts) else None
table_stated p s = None

-- what node p offers, as these say
abbrev pub offer_of : Dataflow → List Statement → ℕ → Offer
offer_of flow said p = record {
  present = is_present said p;
  offered = offered_told flow said p;
  stamps = record {
    delivered = flat_map (delivered_stated flow p) said;
    notified = unwrap_or (first_told (notices_of p) said) [];
    sent = flat_map (sent_stated flow p) said;
  };
  table = unwrap_or (first_told (table_stated p) said) [];
}

-- what the nodes offer
abbrev pub offers_of : Dataflow → List Statement → List Offer
offers_of flow said = map (offer_of flow said) (node_ids flow)

-- ---- whole texts

-- the rule that a line breaks, judged by what the lines before it say
abbrev pub offers_fault : Dataflow → List Said → Said → Option ChoiceCode
offers_fault flow before line = offer_words_fault flow (statements_of flow before) line.words

-- what is asked of offers of the dataflow
abbrev pub offers_rules : Dataflow → ChoiceRules
offers_rules flow = record { too_long = O8; breaks = λ before line code. offers_fault flow before line ≡ Some code }

-- what the lines of the text say
abbrev pub statements_in : Dataflow → List ℕ → List Statement
statements_in flow text = statements_of flow (said_lines text)

-- the text has the form of offers of the dataflow, tells all, and these are what its lines offer
pub record AreAcceptedOffers (text : List ℕ) (flow : Dataflow) (offers : List Offer) : Type 0 where
  pub sound : KeepsChoiceRules (offers_rules flow) text
  pub all_told : is_all_told flow (statements_in flow text) ≡ true
  pub value : offers ≡ offers_of flow (statements_in flow text)

-- no line of the text breaks a rule, but something is not told
pub record IsNotAllTold (text : List ℕ) (flow : Dataflow) (refusal : ChoiceRefusal) : Type 0 where
  pub sound : KeepsChoiceRules (offers_rules flow) text
  pub untold : is_all_told flow (statements_in flow text) ≡ false
  pub whole : IsOfWholeText O7 refusal

-- the refusal is the first rule of offers that the text breaks: of its size, of its first line that breaks one, or of what it tells in all
abbrev pub AreRefusedOffers : List ℕ → Dataflow → ChoiceRefusal → Type 0
AreRefusedOffers text flow refusal = IsFirstChoiceRefusal (offers_rules flow) text refusal ⊎ IsNotAllTold text flow refusal
