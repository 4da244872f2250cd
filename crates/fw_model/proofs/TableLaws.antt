-- The table of what a sequence sent follows the history.
use Rattle.std.proofs.Common.{◌≡◌, ℕ, ◌+◌, Bool, true, false, cond, ◌==◌, List, [], ◌∷◌, ◌++◌, length, refl, sym, ap, ◌∙◌, arith}
use Rattle.std.specs.List.{AllByRecursion}
use Rattle.std.proofs.lemmas.Bool.{eq-eqb, true≢false}
use Rattle.fw_lemmas.proofs.Each.{each-weaker}
use Rattle.fw_bag.specs.declared.rec.Rec.{Rec}
use Rattle.fw_time.specs.Stamp.{Stamp}
use Rattle.fw_frontier.specs.Frontier.{Frontier}
use Rattle.fw_flow.specs.declared.event.Event.{Event}
use Rattle.fw_flow.specs.declared.event.Event.TheVariants.{Inject, Deliver, Notify}
use Rattle.fw_flow.specs.declared.event.Message.{Message}
use Rattle.fw_flow.specs.Dataflow.{System, kind_of}
use Rattle.fw_flow.specs.NodeFunction.{event_node, event_stamp, numbered_messages, sequence_sent, sends_of_kind, sends, sent_by}
use Rattle.fw_flow.specs.Projection.{events_at, all_inside, count_from, table_count}
use Rattle.fw_model.specs.LawsOfSending.{SentTableFollowsHistory}
use Rattle.fw_model.proofs.PhiLaws.{count-append}
use Rattle.fw_model.proofs.SequenceLaws.{IsNumbered, numbered-each, one_inside, count-none}
use Rattle.fw_model.specs.Order.{is_notification_of}
use Rattle.fw_model.specs.Sending.{SendsByCount, recs_by_count_on}

count-all : (f : Frontier) (ms : List Message) → AllByRecursion (λ (m : Message). all_inside f m.causes ≡ true) ms → count_from f ms ≡ length ms
count-all f [] a = refl
count-all f (m ∷ ms) a =
    let e = count-all f ms a.1 in
    ap (λ b. cond b (count_from f ms + 1) (count_from f ms)) a.0 ∙ (omega (arith, e))

-- numbered messages of one cause count where it is inside
numbered-count : (f : Frontier) (n : ℕ) (t : Stamp) (rs : List Rec) → count_from f (numbered_messages n t rs) ≡ cond (f t) (length (numbered_messages n t rs)) 0
numbered-count f n t rs = by (f t) refl
  where
    each : (b : Bool) → f t ≡ b → AllByRecursion (λ (m : Message). all_inside f m.causes ≡ b) (numbered_messages n t rs)
    each b k = each-weaker (IsNumbered n t) (λ (m : Message). all_inside f m.causes ≡ b) (numbered_messages n t rs) (λ m a. one_inside f t m b k a.1) (numbered-each n t rs)

    by : (b : Bool) → f t ≡ b → count_from f (numbered_messages n t rs) ≡ cond b (length (numbered_messages n t rs)) 0
    by true k = count-all f (numbered_messages n t rs) (each true k)
    by false k = count-none f (numbered_messages n t rs) (each false k)

table-append : (f : Frontier) (table : List (ℕ × ℕ)) (x c : ℕ) → table_count f (table ++ (x, c) ∷ []) ≡ table_count f table + cond (f (x ∷ [])) c 0
table-append f [] x c = by (f (x ∷ []))
  where
    by : (b : Bool) → cond b (c + 0) 0 ≡ 0 + cond b c 0
    by true = omega arith
    by false = omega arith
table-append f (e ∷ table) x c = by (f (e.0 ∷ [])) (table-append f table x c)
  where
    by : (b : Bool) → table_count f (table ++ (x, c) ∷ []) ≡ table_count f table + cond (f (x ∷ [])) c 0
        → cond b (e.1 + table_count f (table ++ (x, c) ∷ [])) (table_count f (table ++ (x, c) ∷ [])) ≡ cond b (e.1 + table_count f table) (table_count f table) + cond (f (x ∷ [])) c 0
    by true k = omega (arith, k)
    by false k = k

-- what an event makes a sequence send
sends-numbered : (sys : System) (p : ℕ) (vs : List Event) (v : Event) → SendsByCount (kind_of sys.flow p)
    → sends sys p vs v ≡ numbered_messages (length (sequence_sent vs)) (event_stamp v) (recs_by_count_on sys vs v)
unfolding sends
sends-numbered sys p vs v k = ap (λ kind. sends_of_kind sys kind vs v) k

-- what the events of a node sent after one more
count-more : (sys : System) (p : ℕ) (f : Frontier) (v : Event) (vs : List Event) → count_from f (sent_by sys p (v ∷ vs)) ≡ count_from f (sends sys p vs v) + count_from f (sent_by sys p vs)
count-more sys p f v vs = count-append f (sends sys p vs v) (sent_by sys p vs)

quiet : (sys : System) (p : ℕ) (f : Frontier) (v : Event) (vs : List Event) → SendsByCount (kind_of sys.flow p) → recs_by_count_on sys vs v ≡ [] → count_from f (sent_by sys p (v ∷ vs)) ≡ count_from f (sent_by sys p vs)
quiet sys p f v vs k e =
    let none : count_from f (sends sys p vs v) ≡ 0 = ap (count_from f) (sends-numbered sys p vs v k ∙ ap (numbered_messages (length (sequence_sent vs)) (event_stamp v)) e) in
    omega (arith, count-more sys p f v vs, none)

stays-at : (sys : System) (p : ℕ) (f : Frontier) (vs : List Event) (v : Event) (b : Bool) → SendsByCount (kind_of sys.flow p) → event_node sys.flow v == p ≡ b → is_notification_of p v ≡ false
    → count_from f (sent_by sys p (cond b (v ∷ vs) vs)) ≡ count_from f (sent_by sys p vs)
stays-at sys p f vs v false k e n = refl
stays-at sys p f vs (Inject s x) true k e n = quiet sys p f (Inject s x) vs k refl
stays-at sys p f vs (Deliver d m) true k e n = quiet sys p f (Deliver d m) vs k refl
stays-at sys p f vs (Notify q t) true k e n = absurd (true≢false (sym e ∙ n))

pub table-follows : SentTableFollowsHistory
table-follows sys p k = record {
  begins = λ f. refl;
  grows = λ h table x is f.
      let vs = events_at sys.flow p h in
      let v = Notify p (x ∷ []) in
      let c = length (sends sys p vs v) in
      let here : events_at sys.flow p (v ∷ h) ≡ v ∷ vs = ap (λ b. cond b (v ∷ vs) vs) (eq-eqb p p refl) in
      let now : count_from f (sends sys p vs v) ≡ cond (f (x ∷ [])) c 0 =
      ap (count_from f) (sends-numbered sys p vs v k)
      ∙ numbered-count f (length (sequence_sent vs)) (x ∷ []) (recs_by_count_on sys vs v)
      ∙ ap (λ ms. cond (f (x ∷ [])) (length ms) 0) (sym (sends-numbered sys p vs v k)) in
      let old : table_count f table ≡ count_from f (sent_by sys p vs) = is f in
      let more : count_from f (sent_by sys p (events_at sys.flow p (v ∷ h))) ≡ count_from f (sends sys p vs v) + count_from f (sent_by sys p vs) =
      ap (λ us. count_from f (sent_by sys p us)) here ∙ count-more sys p f v vs in
      table-append f table x c ∙ sym (more ∙ (λ i. now i + sym old i) ∙ swap (cond (f (x ∷ [])) c 0) (table_count f table));
  stays = λ h table v n is f. is f ∙ sym (stays-at sys p f (events_at sys.flow p h) v (event_node sys.flow v == p) k refl n);
}
  where
    swap : (a b : ℕ) → a + b ≡ b + a
    swap a b = omega arith
