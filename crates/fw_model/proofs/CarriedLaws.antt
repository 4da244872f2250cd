-- What an edge carries of messages and of timed recs.
use Rattle.std.proofs.Common.{◌≡◌, ℕ, ◌+◌, ◌≤◌, Bool, true, false, not, cond, ◌==◌, List, [], ◌∷◌, ◌++◌, Option, Some, None, map, refl, sym, ap, subst, ◌∙◌, inl, inr, arith}
use Rattle.std.specs.List.{AllByRecursion}
use Rattle.std.specs.Prelude.{filter, slice_index_or}
use Rattle.std.proofs.lemmas.Bool.{cases_Bool, cond_both}
use Rattle.std.proofs.lemmas.List.Elements.{filter-append}
use Rattle.fw_lemmas.proofs.Bools.{two_ways}
use Rattle.fw_lemmas.proofs.Each.{each-kept, each-one}
use Rattle.fw_lemmas.proofs.Filters.{filter-swap, filter-true}
use Rattle.fw_time.specs.Stamp.{Stamp}
use Rattle.fw_bag.specs.declared.rec.Rec.{Rec}
use Rattle.fw_frontier.specs.Frontier.{Frontier}
use Rattle.fw_flow.specs.declared.event.Event.{Event}
use Rattle.fw_flow.specs.declared.event.Message.{Message}
use Rattle.fw_flow.specs.declared.key_part.KeyPart.{KeyPart}
use Rattle.fw_flow.specs.Kind.{Kind}
use Rattle.fw_flow.specs.declared.kind.Kind.TheVariants.{Input, OutputEpoch, OutputNumber, Select, Concat, Distinct, Join, Sum, Enter, Feedback, Leave, Total, Sequence, Ledger, Regroup}
use Rattle.fw_flow.specs.Dataflow.{System, Dataflow, idle_node, kind_of, sender, receiver, domain_of_kind, is_of_numbers, is_numbered}
use Rattle.fw_flow.specs.NodeFunction.{event_node, messages_at, sends, sent_by}
use Rattle.fw_flow.specs.Projection.{all_inside, events_at}
use Rattle.fw_flow.specs.WholeBags.{Timed, timed_where, in_order}
use Rattle.fw_flow.specs.KeyParts.{is_of_part, is_of_part_if, is_carried, may_split, part_of}
use Rattle.fw_model.specs.Carried.{carried, carried_recs, carried_timed, messages_of_part}
use Rattle.fw_model.specs.Filtering.{messages_from, messages_outside}
use Rattle.fw_model.specs.History.{sent_messages}
use Rattle.fw_model.specs.LawsOfPending.{sent_on}
use Rattle.fw_model.proofs.TimedLaws.{IsAscendingTimed, ascending-filter, ascending-in_order, in_order-ascending, how_often_timed, how_often-filter_in, how_often-filter_out}
use Rattle.fw_model.proofs.WeightLaws.{weigh, one, one-out, is_at, is_at-is}

-- ---- replicas

whole-kind : (flow : Dataflow) (kind : Kind) → is_of_numbers (domain_of_kind flow kind) ≡ true → may_split kind ≡ false
whole-kind flow (Distinct None) k = absurd (cc)
whole-kind flow (Distinct (Some l)) k = absurd (cc)
whole-kind flow (Join None) k = absurd (cc)
whole-kind flow (Join (Some l)) k = absurd (cc)
whole-kind flow (Sum None) k = absurd (cc)
whole-kind flow (Sum (Some l)) k = absurd (cc)
whole-kind flow Total k = absurd (cc)
whole-kind flow Input k = refl
whole-kind flow OutputEpoch k = refl
whole-kind flow OutputNumber k = refl
whole-kind flow (Select selection within) k = refl
whole-kind flow (Concat within) k = refl
whole-kind flow (Enter l) k = refl
whole-kind flow (Feedback l) k = refl
whole-kind flow (Leave l) k = refl
whole-kind flow Sequence k = refl
whole-kind flow Ledger k = refl
whole-kind flow (Regroup n) k = refl

-- a numbered edge leads to no replica
pub numbered-whole : (flow : Dataflow) (e : ℕ) → is_numbered flow e ≡ true → part_of flow (receiver flow e) ≡ None
unfolding part_of kind_of
numbered-whole flow e k =
    ap (λ b. cond b (slice_index_or flow.nodes (receiver flow e) idle_node).part None) (whole-kind flow (kind_of flow (receiver flow e)) k)

-- ---- messages

pub carried-none : (flow : Dataflow) (e : ℕ) → carried flow e [] ≡ []
unfolding carried
carried-none flow e = refl

pub carried-append : (flow : Dataflow) (e : ℕ) (xs ys : List Message) → carried flow e (xs ++ ys) ≡ carried flow e xs ++ carried flow e ys
unfolding carried
carried-append flow e xs ys = filter-append (λ (m : Message). is_carried flow e m.rec) xs ys

-- what holds of each message holds of each that is carried
pub carried-each : (flow : Dataflow) (e : ℕ) (P : Message → Type 0) (ms : List Message) → AllByRecursion P ms → AllByRecursion P (carried flow e ms)
unfolding carried
carried-each flow e P ms a = each-kept P (λ (m : Message). is_carried flow e m.rec) ms a

-- what comes from inside a frontier is carried from there
pub carried-from : (flow : Dataflow) (e : ℕ) (f : Frontier) (ms : List Message) → messages_from f (carried flow e ms) ≡ carried flow e (messages_from f ms)
unfolding carried
carried-from flow e f ms =
    let from : Message → Bool = λ m. all_inside f m.causes in
    let k : Message → Bool = λ m. is_carried flow e m.rec in
    filter-swap from k k ms (each-one (λ m. from m ≡ true → k m ≡ k m) ms (λ m i. refl))

-- so it is of messages outside one
pub carried-outside : (flow : Dataflow) (e : ℕ) (f : Frontier) (ms : List Message) → messages_outside f (carried flow e ms) ≡ carried flow e (messages_outside f ms)
unfolding carried
carried-outside flow e f ms =
    let out : Message → Bool = λ m. not (f m.at) in
    let k : Message → Bool = λ m. is_carried flow e m.rec in
    filter-swap out k k ms (each-one (λ m. out m ≡ true → k m ≡ k m) ms (λ m i. refl))

-- an edge carries the messages whose keys are of the part of its receiver
pub carried-is : (flow : Dataflow) (e : ℕ) (ms : List Message) → carried flow e ms ≡ messages_of_part (part_of flow (receiver flow e)) ms
unfolding carried is_carried
carried-is flow e ms = refl

-- an edge to no replica carries each message
pub carried-whole : (flow : Dataflow) (e : ℕ) → part_of flow (receiver flow e) ≡ None → (ms : List Message) → carried flow e ms ≡ ms
carried-whole flow e h ms = carried-is flow e ms ∙ ap (λ (o : Option KeyPart). filter (λ (m : Message). is_of_part_if o m.rec.key) ms) h ∙ filter-true ms

-- so does one that is numbered
pub carried-numbered : (flow : Dataflow) (e : ℕ) → is_numbered flow e ≡ true → (ms : List Message) → carried flow e ms ≡ ms
carried-numbered flow e k ms = carried-whole flow e (numbered-whole flow e k) ms

-- what an edge carries of a batch is what it carries of its recs
pub carried-batch : (flow : Dataflow) (e : ℕ) (at cause : Stamp) (rs : List Rec) → carried flow e (messages_at at cause rs) ≡ messages_at at cause (carried_recs flow e rs)
unfolding carried
carried-batch flow e at cause [] = refl
carried-batch flow e at cause (r ∷ rs) = by (is_carried flow e r) (carried-batch flow e at cause rs)
  where
    one : Message
    one = record { at = at; rec = r; causes = cause ∷ [] }

    rest : List Message
    rest = filter (λ (m : Message). is_carried flow e m.rec) (messages_at at cause rs)

    by : (b : Bool) → rest ≡ messages_at at cause (carried_recs flow e rs)
        → cond b (one ∷ rest) rest ≡ messages_at at cause (cond b (r ∷ carried_recs flow e rs) (carried_recs flow e rs))
    by true h = ap (λ ms. one ∷ ms) h
    by false h = h

-- an edge carries one message or not
pub carried-in : (flow : Dataflow) (e : ℕ) (m : Message) → is_carried flow e m.rec ≡ true → carried flow e (m ∷ []) ≡ m ∷ []
unfolding carried
carried-in flow e m k = ap (λ b. cond b (m ∷ []) []) k

pub carried-out : (flow : Dataflow) (e : ℕ) (m : Message) → is_carried flow e m.rec ≡ false → carried flow e (m ∷ []) ≡ []
unfolding carried
carried-out flow e m k = ap (λ b. cond b (m ∷ []) []) k

-- what was sent on an edge, with one event more
pub sent-more : (sys : System) (h : List Event) (v : Event) (e : ℕ) → sent_messages sys (v ∷ h) e ≡ sent_on sys h e v ++ sent_messages sys h e
sent-more sys h v e = by (event_node sys.flow v == sender sys.flow e)
  where
    q : ℕ
    q = sender sys.flow e

    vs : List Event
    vs = events_at sys.flow q h

    by : (b : Bool) → carried sys.flow e (sent_by sys q (cond b (v ∷ vs) vs)) ≡ cond b (carried sys.flow e (sends sys q vs v)) [] ++ carried sys.flow e (sent_by sys q vs)
    by true = carried-append sys.flow e (sends sys q vs v) (sent_by sys q vs)
    by false = refl

-- ---- timed recs

pub carried_timed-none : (flow : Dataflow) (e : ℕ) → carried_timed flow e [] ≡ []
unfolding carried_timed
carried_timed-none flow e = refl

pub carried_timed-each : (flow : Dataflow) (e : ℕ) (P : Timed → Type 0) (rs : List Timed) → AllByRecursion P rs → AllByRecursion P (carried_timed flow e rs)
unfolding carried_timed
carried_timed-each flow e P rs a = each-kept P (λ (r : Timed). is_carried flow e r.rec) rs a

pub carried_timed-ascending : (flow : Dataflow) (e : ℕ) (rs : List Timed) → IsAscendingTimed rs → IsAscendingTimed (carried_timed flow e rs)
unfolding carried_timed
carried_timed-ascending flow e rs a = ascending-filter (λ r. is_carried flow e r.rec) rs a

-- an edge carries the timed recs whose keys are of the part of its receiver
pub carried_timed-is : (flow : Dataflow) (e : ℕ) (rs : List Timed)
    → carried_timed flow e rs ≡ filter (λ (r : Timed). is_of_part_if (part_of flow (receiver flow e)) r.rec.key) rs
unfolding carried_timed is_carried
carried_timed-is flow e rs = refl

-- an edge to no replica carries each timed rec
pub carried_timed-whole : (flow : Dataflow) (e : ℕ) → part_of flow (receiver flow e) ≡ None → (rs : List Timed) → carried_timed flow e rs ≡ rs
carried_timed-whole flow e h rs = carried_timed-is flow e rs ∙ ap (λ (o : Option KeyPart). filter (λ (r : Timed). is_of_part_if o r.rec.key) rs) h ∙ filter-true rs

-- so does one that is numbered
pub carried_timed-numbered : (flow : Dataflow) (e : ℕ) → is_numbered flow e ≡ true → (rs : List Timed) → carried_timed flow e rs ≡ rs
carried_timed-numbered flow e k rs = carried_timed-whole flow e (numbered-whole flow e k) rs

-- one to a replica carries those of its part
pub carried_timed-part : (flow : Dataflow) (e : ℕ) (part : KeyPart) → part_of flow (receiver flow e) ≡ Some part → (rs : List Timed)
    → carried_timed flow e rs ≡ filter (λ r. is_of_part part r.rec.key) rs
carried_timed-part flow e part h rs = carried_timed-is flow e rs ∙ ap (λ (o : Option KeyPart). filter (λ (r : Timed). is_of_part_if o r.rec.key) rs) h

-- where lists have a timed rec equally often, so has what is carried of them
pub carried_timed-how_often : (flow : Dataflow) (e : ℕ) (x : Timed) (xs ys : List Timed) → how_often_timed x xs ≡ how_often_timed x ys
    → how_often_timed x (carried_timed flow e xs) ≡ how_often_timed x (carried_timed flow e ys)
unfolding carried_timed
carried_timed-how_often flow e x xs ys h =
    let k : Timed → Bool = λ r. is_carried flow e r.rec in
    elim (cases_Bool (is_carried flow e x.rec)) [
      | inl i ↦ how_often-filter_in k x xs i ∙ h ∙ sym (how_often-filter_in k x ys i)
      | inr i ↦ how_often-filter_out k x xs i ∙ sym (how_often-filter_out k x ys i)
    ]

map-rec_filter : (test : Rec → Bool) (rs : List Timed) → filter test (map (λ (r : Timed). r.rec) rs) ≡ map (λ (r : Timed). r.rec) (filter (λ (r : Timed). test r.rec) rs)
map-rec_filter test [] = refl
map-rec_filter test (x ∷ xs) = by (test x.rec) (map-rec_filter test xs)
  where
    kept : List Timed
    kept = filter (λ (r : Timed). test r.rec) xs

    by : (b : Bool) → filter test (map (λ (r : Timed). r.rec) xs) ≡ map (λ (r : Timed). r.rec) kept
        → cond b (x.rec ∷ filter test (map (λ (r : Timed). r.rec) xs)) (filter test (map (λ (r : Timed). r.rec) xs)) ≡ map (λ (r : Timed). r.rec) (cond b (x ∷ kept) kept)
    by true h = ap (λ ys. x.rec ∷ ys) h
    by false h = h

-- the recs at stamps that pass a test, of those that pass one of recs
pub where-filter : (at : Stamp → Bool) (test : Rec → Bool) (rs : List Timed) → timed_where at (filter (λ r. test r.rec) rs) ≡ filter test (timed_where at rs)
where-filter at test rs =
    let stamps : Timed → Bool = λ r. at r.at in
    let recs : Timed → Bool = λ r. test r.rec in
    ap (map (λ (r : Timed). r.rec)) (filter-swap stamps recs recs rs (each-one (λ r. stamps r ≡ true → recs r ≡ recs r) rs (λ r i. refl)))
    ∙ sym (map-rec_filter test (filter stamps rs))

-- the recs at a stamp of what an edge carries are those that it carries of them
pub where-carried : (flow : Dataflow) (e : ℕ) (at : Stamp → Bool) (rs : List Timed) → timed_where at (carried_timed flow e rs) ≡ filter (is_carried flow e) (timed_where at rs)
unfolding carried_timed
where-carried flow e at rs = where-filter at (is_carried flow e) rs

-- what passes a test of a bag in order is in order
pub filter-in_order : (test : Timed → Bool) (rs : List Timed) → in_order rs ≡ rs → in_order (filter test rs) ≡ filter test rs
filter-in_order test rs o = in_order-ascending (filter test rs) (ascending-filter test rs (subst IsAscendingTimed o (ascending-in_order rs)))

-- what an edge carries of a bag in order is in order
pub carried_timed-in_order : (flow : Dataflow) (e : ℕ) (rs : List Timed) → in_order rs ≡ rs → in_order (carried_timed flow e rs) ≡ carried_timed flow e rs
unfolding carried_timed
carried_timed-in_order flow e rs o = filter-in_order (λ r. is_carried flow e r.rec) rs o

one-other : (k : Rec → Bool) (t : Stamp) (q : Rec) (x : Timed) (b : Bool) → k q ≡ b → (k x.rec ≡ b → ⊥) → one t q x ≡ 0
one-other k t q x b i n = elim (cases_Bool (is_at t q x)) [
  | inl c ↦ absurd (n (sym (ap (λ (r : Timed). k r.rec) (is_at-is t q x c)) ∙ i))
  | inr c ↦ one-out t q x c
]

-- how often a rec is among those that pass a test
pub one-kept : (k : Rec → Bool) (t : Stamp) (q : Rec) → k q ≡ true → (xs : List Timed) → weigh (one t q) (filter (λ r. k r.rec) xs) ≡ weigh (one t q) xs
unfolding weigh
one-kept k t q i [] = refl
one-kept k t q i (x ∷ xs) =
    let h = one-kept k t q i xs in
    cond_both (k x.rec) (x ∷ filter (λ r. k r.rec) xs) (filter (λ r. k r.rec) xs) (λ ys. weigh (one t q) ys ≡ weigh (one t q) (x ∷ xs))
    (λ e. omega arith) (λ e. let z = one-other k t q x true i (λ j. two_ways (k x.rec) j e) in omega arith)

-- and where it does not pass
pub one-left : (k : Rec → Bool) (t : Stamp) (q : Rec) → k q ≡ false → (xs : List Timed) → weigh (one t q) (filter (λ r. k r.rec) xs) ≡ 0
unfolding weigh
one-left k t q i [] = refl
one-left k t q i (x ∷ xs) =
    let h = one-left k t q i xs in
    cond_both (k x.rec) (x ∷ filter (λ r. k r.rec) xs) (filter (λ r. k r.rec) xs) (λ ys. weigh (one t q) ys ≡ 0)
    (λ e. let z = one-other k t q x false i (λ j. two_ways (k x.rec) e j) in omega arith) (λ e. h)

-- the same of a rec at a stamp
pub carried_timed-equal : (flow : Dataflow) (e : ℕ) (t : Stamp) (q : Rec) (xs ys : List Timed) → weigh (one t q) xs ≡ weigh (one t q) ys
    → weigh (one t q) (carried_timed flow e xs) ≡ weigh (one t q) (carried_timed flow e ys)
unfolding carried_timed
carried_timed-equal flow e t q xs ys h = elim (cases_Bool (is_carried flow e q)) [
  | inl i ↦ one-kept (is_carried flow e) t q i xs ∙ h ∙ sym (one-kept (is_carried flow e) t q i ys)
  | inr i ↦ one-left (is_carried flow e) t q i xs ∙ sym (one-left (is_carried flow e) t q i ys)
]

-- and where one list has it at most as often as the other
pub carried_timed-fewer : (flow : Dataflow) (e : ℕ) (t : Stamp) (q : Rec) (xs ys : List Timed) → weigh (one t q) xs ≤ weigh (one t q) ys
    → weigh (one t q) (carried_timed flow e xs) ≤ weigh (one t q) (carried_timed flow e ys)
unfolding carried_timed
carried_timed-fewer flow e t q xs ys h = elim (cases_Bool (is_carried flow e q)) [
  | inl i ↦ let a = one-kept (is_carried flow e) t q i xs in let b = one-kept (is_carried flow e) t q i ys in omega arith
  | inr i ↦ let a = one-left (is_carried flow e) t q i xs in omega arith
]
