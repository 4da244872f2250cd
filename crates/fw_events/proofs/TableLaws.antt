-- The table of a node takes an event in.
use Rattle.std.proofs.Common.{◌≡◌, ◌≢◌, ℕ, ◌<◌, Bool, true, false, List, ◌∷◌, length, Option, Some, None, refl, sym, ap, subst, ◌∙◌, inl, inr}
use Rattle.std.specs.Prelude.{IfSome, slice_set}
use Rattle.std.proofs.lemmas.Bool.{cases_lt}
use Rattle.std.proofs.lemmas.List.{get_or-set_same, get_or-set_other, get_or_past, length-set}
use Rattle.fw_time.specs.Stamp.{Stamp}
use Rattle.fw_bag.specs.declared.rec.Rec.{Rec}
use Rattle.fw_flow.specs.declared.event.Event.{Event}
use Rattle.fw_flow.specs.declared.event.Event.TheVariants.{Deliver, Notify}
use Rattle.fw_flow.specs.declared.event.Message.{Message}
use Rattle.fw_flow.specs.declared.kind.Kind.TheVariants.{Total}
use Rattle.fw_flow.specs.Dataflow.{System, Dataflow, in_edges, kind_of, receiver, is_notified_kind}
use Rattle.fw_flow.specs.NodeFunction.{sends}
use Rattle.fw_flow.specs.Projection.{events_at}
use Rattle.fw_model.specs.Machine.{events}
use Rattle.fw_model.specs.SortedMessages.{sorted_messages}
use Rattle.fw_model.specs.Told.{is_told, IsSumOfTold}
use Rattle.fw_node.specs.Answers.{caused_by}
use Rattle.fw_node.specs.Arrived.{IsOneOf}
use Rattle.fw_node.specs.declared.node.Node.{Node}
use Rattle.fw_node.specs.Sends.{notice_sends}
use Rattle.fw_node.specs.TableOf.{IsTableOf}
use Rattle.fw_rollback.specs.Tables.{table_at}
use Rattle.fw_stands.specs.Events.{AreSent}
use Rattle.fw_stands.specs.Parts.{table_base}
use Rattle.fw_stands.proofs.EventAnswerLaws.{notices-send}
use Rattle.fw_stands.proofs.EventTableLaws.{deliveries-can_be_taken_in, notices-can_be_taken, tables-take_in}
use Rattle.fw_events.specs.Taking.{TableTakes}

-- ---- among the tables

some-declared : (tables : List (Option Node)) (p : ℕ) (table : Node) → Some table ≡ table_at tables p → p < length tables
some-declared tables p table is = elim (cases_lt p (length tables)) [
  | inl l ↦ l
  | inr past ↦ let none : Some table ≡ None = is ∙ get_or_past tables p None past in absurd (cc none)
]

-- The table of node p is changed from one to another, and those of the others are as they were.
pub record IsChanged (p : ℕ) (before after : Node) (old new : List (Option Node)) : Type 0 where
  pub each : length new ≡ length old
  pub was : table_at old p ≡ Some before
  pub is : table_at new p ≡ Some after
  pub others : (q : ℕ) → q ≢ p → table_at new q ≡ table_at old q

pub is_changed : (p : ℕ) (before after : Node) (old new : List (Option Node)) → Some before ≡ table_at old p → new ≡ slice_set old p (Some after)
    → IsChanged p before after old new
is_changed p before after old new was is = record {
  each = ap length is ∙ length-set old p (Some after);
  was = sym was;
  is = ap (λ ts. table_at ts p) is ∙ get_or-set_same old p (Some after) None (some-declared old p before was);
  others = λ q n. ap (λ ts. table_at ts q) is ∙ get_or-set_other old p q (Some after) None n;
}

-- what held of the table that was holds of the one that is
pub changed-holds : (P : Node → Type 0) (p : ℕ) (before after : Node) (old new : List (Option Node)) → IsChanged p before after old new
    → (P before → P after) → IfSome (table_at old p) P → IfSome (table_at new p) P
changed-holds P p before after old new c then_after some =
    subst (λ (t : Option Node). IfSome t P) (sym c.is) (then_after (subst (λ (t : Option Node). IfSome t P) c.was some))

pub changed-held : (P : Node → Type 0) (p : ℕ) (before after : Node) (old new : List (Option Node)) → IsChanged p before after old new
    → IfSome (table_at old p) P → P before
changed-held P p before after old new c some = subst (λ (t : Option Node). IfSome t P) c.was some

pub changed-takes : (flow : Dataflow) (v : Event) (sent : List Message) (p : ℕ) (before after : Node) (old new : List (Option Node))
    → IsChanged p before after old new → TableTakes flow v sent (Some before) (Some after) → TableTakes flow v sent (table_at old p) (table_at new p)
changed-takes flow v sent p before after old new c t =
    subst (λ (x : Option Node). TableTakes flow v sent x (table_at new p)) (sym c.was)
    (subst (λ (x : Option Node). TableTakes flow v sent (Some before) x) (sym c.is) t)

-- ---- events

-- a table that takes a rec in takes the delivery
pub delivery-taken : (flow : Dataflow) (d : ℕ) (m : Message) (sent : List Message) (old new : Node) (at : Stamp) (rec : Rec)
    → ((f : Dataflow) (p : ℕ) (settled : Stamp → Bool) (before : List Event) (x : Message) → x.at ≡ at → x.rec ≡ rec
    → IsOneOf (in_edges f p) d → settled at ≡ false → (is_notified_kind (kind_of f p) ≡ true → is_told before at ≡ false)
    → IsTableOf f p settled old before → IsTableOf f p settled new (Deliver d x ∷ before))
    → ((sys : System) (p : ℕ) (settled : Stamp → Bool) (before : List Event) (x : Message) → x.at ≡ at → x.rec ≡ rec
    → IsOneOf (in_edges sys.flow p) d → settled at ≡ false → IsTableOf sys.flow p settled old before
    → sorted_messages sent ≡ sorted_messages (sends sys p before (Deliver d x)))
    → m.at ≡ at → m.rec ≡ rec → TableTakes flow (Deliver d m) sent (Some old) (Some new)
delivery-taken flow d m sent old new at rec ok answers at_is rec_is = λ sys state is w r enabled table.
    let p = receiver sys.flow d in
    let h = events state.history in
    let can = deliveries-can_be_taken_in sys state w r d m enabled in
    let settled = table_base sys state p in
    let before = events_at sys.flow p h in
    let unsettled : settled at ≡ false = ap settled (sym at_is) ∙ can.unsettled in
    let untold : is_notified_kind (kind_of sys.flow p) ≡ true → is_told before at ≡ false = λ k. ap (is_told before) (sym at_is) ∙ can.untold k in (
      answers sys p settled before m at_is rec_is can.on_edge unsettled table.of_events,
      tables-take_in sys state (Deliver d m) p refl (sym table.there) new (ok sys.flow p settled before m at_is rec_is can.on_edge unsettled untold table.of_events),
    )

-- a table that hears of a stamp takes the notification
pub notice-taken : (flow : Dataflow) (p : ℕ) (sent : List Message) (old new : Node) (at : Stamp)
    → ((f : Dataflow) (q : ℕ) (settled : Stamp → Bool) (before : List Event) → settled at ≡ false → is_told before at ≡ false
    → IsTableOf f q settled old before → IsTableOf f q settled new (Notify q at ∷ before))
    → ((f : Dataflow) (q : ℕ) (settled : Stamp → Bool) (before : List Event) → settled at ≡ false → is_told before at ≡ false
    → (kind_of f q ≡ Total → IsSumOfTold settled before at) → IsTableOf f q settled old before → sent ≡ caused_by at (notice_sends (kind_of f q) before at))
    → TableTakes flow (Notify p at) sent (Some old) (Some new)
notice-taken flow p sent old new at ok answers = λ sys state is w r enabled table.
    let h = events state.history in
    let can = notices-can_be_taken sys state w r p at enabled in
    let settled = table_base sys state p in
    let before = events_at sys.flow p h in (
      subst (AreSent sys h (Notify p at)) (sym (answers sys.flow p settled before can.unsettled can.untold can.sums table.of_events)) (notices-send sys h p at),
      tables-take_in sys state (Notify p at) p refl (sym table.there) new (ok sys.flow p settled before can.unsettled can.untold table.of_events),
    )
