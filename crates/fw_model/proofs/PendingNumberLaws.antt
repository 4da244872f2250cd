-- What is pending on a numbered edge goes on where its deliveries end: what is sent there has the numbers 0, 1, 2 and so on, one
-- message at each, and so has what was delivered.
use Rattle.std.proofs.Common.{◌≡◌, ℕ, zero, suc, ◌+◌, ◌<◌, ◌≤◌, Bool, true, false, cond, nat_le, nat_lt, List, [], ◌∷◌, ◌++◌, length, refl, sym, ap, subst, ◌∙◌, inl, inr, arith}
use Rattle.std.specs.List.{AllByRecursion}
use Rattle.std.specs.Ordering.{is_eq}
use Rattle.std.proofs.lemmas.Bool.{cases_Bool, cases_lt, cond_both, cond-true, cond-false, or_left, or_right, lt-ltb, ltb-true}
use Rattle.std.proofs.lemmas.List.{length-append}
use Rattle.fw_lemmas.proofs.Each.{each-one}
use Rattle.fw_time.specs.Stamp.{Stamp, leq, same}
use Rattle.fw_bag.specs.declared.rec.Rec.{Rec}
use Rattle.fw_flow.specs.Counting.{how_many}
use Rattle.fw_flow.specs.declared.event.Event.{Event}
use Rattle.fw_flow.specs.declared.event.Event.TheVariants.{Inject, Deliver, Notify}
use Rattle.fw_flow.specs.declared.event.Message.{Message}
use Rattle.fw_flow.specs.Kind.{Kind}
use Rattle.fw_flow.specs.declared.kind.Kind.TheVariants.{Ledger}
use Rattle.fw_flow.specs.Dataflow.{System, kind_of, sender, greatest_number, is_of_numbers, is_numbered, is_input_kind, is_output_kind}
use Rattle.fw_flow.specs.NodeFunction.{numbered_messages, sequence_sent, sent_by}
use Rattle.fw_flow.specs.Projection.{events_at, first_coordinate}
use Rattle.fw_flow.specs.WellFormed.{IsWellFormed}
use Rattle.fw_flow.specs.WholeBags.{Timed, timed_where, running_totals}
use Rattle.fw_bag.specs.Keyed.{value_sum}
use Rattle.fw_flow.specs.Message.{message_cmp, is_message_among}
use Rattle.fw_model.specs.History.{some_at, sent_messages, delivered_messages, pending_messages, IsLegal}
use Rattle.fw_model.proofs.KindSorts.{sends_numbers}
use Rattle.fw_model.proofs.CarriedLaws.{carried-numbered}
use Rattle.fw_model.proofs.ArrivalLaws.{deliveries}
use Rattle.fw_flow.proofs.MessageLaws.{among-each, message_cmp-equal}
use Rattle.fw_model.proofs.ClosedLaws.{numbered-ascend}
use Rattle.fw_model.proofs.DomainLaws.{output-sent}
use Rattle.fw_model.proofs.InputLaws.{timed_of-append}
use Rattle.fw_model.proofs.LedgerLaws.{AreNumbered, numbered-timed, ledger-sent, length-timed_of, ledger_edge, ledger-numbered}
use Rattle.fw_model.proofs.LegalLaws.{edge_domains, only_inputs_inject}
use Rattle.fw_model.proofs.OncePerNumberLaws.{any_at}
use Rattle.fw_model.proofs.SentLaws.{copy, is_among-copies, less-weigh, delivered-was_sent, timed_message, timed_of, timed_of-weigh}
use Rattle.fw_model.proofs.SequenceLaws.{no_inject, sent_by-sequence}
use Rattle.fw_time.proofs.StampLaws.{same-is, same-from}
use Rattle.fw_model.proofs.WeightLaws.{weigh, weigh-append, weigh-map, weigh-lighter}
use Rattle.fw_model.specs.LawsOfPending.{IsNumberedFrom, PendingNumbersGoOn}
use Rattle.fw_model.specs.Sending.{recs_by_count}
use Rattle.fw_model.proofs.NothingInsideLaws.{kind-declared}

-- ---- numbers

-- 0 at a stamp that is one number, and else 1
abbrev off : Stamp → ℕ
off [] = 1
off (x ∷ []) = 0
off (x ∷ y ∷ s) = 1

-- the same of a timed rec
abbrev off_number : Timed → ℕ
off_number r = off r.at

-- 1 below the number, and else 0
abbrev below : ℕ → ℕ → ℕ
below k n = cond (nat_lt k n) 1 0

-- So many timed recs have the numbers from 0 on, one at each.
record HasNumbersTo (n : ℕ) (xs : List Timed) : Type 0 where
  at_each : (k : ℕ) → weigh (any_at (k ∷ [])) xs ≡ below k n
  none_off : weigh off_number xs ≡ 0

below-lt : (k n : ℕ) → k < n → below k n ≡ 1
below-lt k n l = cond-true (nat_lt k n) 1 0 (lt-ltb k n l)

below-le : (k n : ℕ) → n ≤ k → below k n ≡ 0
below-le k n l = elim (cases_Bool (nat_lt k n)) [
  | inl e ↦ let m = ltb-true k n e in absurd (omega arith)
  | inr e ↦ cond-false (nat_lt k n) 1 0 e
]

at-number : (k n : ℕ) (r : Timed) → r.at ≡ n ∷ [] → k ≡ n → any_at (k ∷ []) r ≡ 1
at-number k n r a e = cond-true (same (k ∷ []) r.at) 1 0 (same-from (k ∷ []) r.at (ap (λ x. x ∷ []) e ∙ sym a))

at-other : (k n : ℕ) (r : Timed) → r.at ≡ n ∷ [] → (k ≡ n → ⊥) → any_at (k ∷ []) r ≡ 0
at-other k n r a o = elim (cases_Bool (same (k ∷ []) r.at)) [
  | inl e ↦ absurd (o (ap first_coordinate (same-is (k ∷ []) r.at e ∙ a)))
  | inr e ↦ cond-false (same (k ∷ []) r.at) 1 0 e
]

-- one more number
below-more : (k n : ℕ) (r : Timed) → r.at ≡ n ∷ [] → any_at (k ∷ []) r + below k n ≡ below k (n + 1)
below-more k n r a = elim (cases_lt k n) [
  | inl l ↦
      let x = at-other k n r a (λ e. omega arith) in
      let y = below-lt k n l in
      let z = below-lt k (n + 1) (omega arith) in
      omega arith
  | inr l ↦ elim (cases_lt n k) [
    | inl m ↦
        let x = at-other k n r a (λ e. omega arith) in
        let y = below-le k n l in
        let z = below-le k (n + 1) (omega arith) in
        omega arith
    | inr m ↦
        let x = at-number k n r a (omega arith) in
        let y = below-le k n l in
        let z = below-lt k (n + 1) (omega arith) in
        omega arith
  ]
]

off-none : (n : ℕ) (r : Timed) → r.at ≡ n ∷ [] → off_number r ≡ 0
off-none n r a = ap off a

-- ---- lists that are numbered, the latest first

numbered-to : (xs : List Timed) → AreNumbered xs → HasNumbersTo (length xs) xs
unfolding weigh
numbered-to [] a = record { at_each = λ k. sym (below-le k 0 (omega arith)); none_off = refl }
numbered-to (x ∷ xs) a =
    let h = numbered-to xs a.1 in
    record {
      at_each = λ k.
          let e = h.at_each k in
          let m = below-more k (length xs) x a.0 in
          let s : length xs + 1 ≡ suc (length xs) = omega arith in
          let t = ap (below k) s in
          omega arith;
      none_off = let e = h.none_off in let z = off-none (length xs) x a.0 in omega arith;
    }

-- ---- what a sequence sends

messages-numbered : (n : ℕ) (cause : Stamp) (rs : List Rec) (k : ℕ)
    → weigh (any_at (k ∷ [])) (timed_of (numbered_messages n cause rs)) + below k n ≡ below k (n + length (numbered_messages n cause rs))
unfolding weigh
messages-numbered n cause [] k = let s : n ≡ n + 0 = omega arith in let t = ap (below k) s in omega arith
messages-numbered n cause (r ∷ rs) k =
    let m : Message = record { at = n ∷ []; rec = r; causes = cause ∷ [] } in
    let more = numbered_messages (n + 1) cause rs in
    cond_both (nat_le n greatest_number) (m ∷ more) []
    (λ ms. weigh (any_at (k ∷ [])) (timed_of ms) + below k n ≡ below k (n + length ms))
    (λ e.
    let h = messages-numbered (n + 1) cause rs k in
    let b = below-more k n (timed_message m) refl in
    let s : n + 1 + length more ≡ n + suc (length more) = omega arith in
    let t = ap (below k) s in
    omega arith)
    (λ e. let s : n ≡ n + 0 = omega arith in let t = ap (below k) s in omega arith)

messages-on : (n : ℕ) (cause : Stamp) (rs : List Rec) → weigh off_number (timed_of (numbered_messages n cause rs)) ≡ 0
unfolding weigh
messages-on n cause [] = refl
messages-on n cause (r ∷ rs) =
    let m : Message = record { at = n ∷ []; rec = r; causes = cause ∷ [] } in
    cond_both (nat_le n greatest_number) (m ∷ numbered_messages (n + 1) cause rs) [] (λ ms. weigh off_number (timed_of ms) ≡ 0)
    (λ e. let h = messages-on (n + 1) cause rs in omega arith) (λ e. refl)

sequence-to : (vs : List Event) → HasNumbersTo (length (sequence_sent vs)) (timed_of (sequence_sent vs))
unfolding weigh
sequence-to [] = record { at_each = λ k. sym (below-le k 0 (omega arith)); none_off = refl }
sequence-to (Inject s x ∷ vs) = sequence-to vs
sequence-to (Deliver e m ∷ vs) = sequence-to vs
sequence-to (Notify p t ∷ vs) =
    let old = sequence_sent vs in
    let n = length old in
    let new = numbered_messages n t (recs_by_count vs t) in
    let h = sequence-to vs in
    let weighs : (w : Timed → ℕ) → weigh w (timed_of (new ++ old)) ≡ weigh w (timed_of new) + weigh w (timed_of old) =
    λ w. ap (weigh w) (timed_of-append new old) ∙ weigh-append w (timed_of new) (timed_of old) in
    record {
      at_each = λ k.
          let a = weighs (any_at (k ∷ [])) in
          let b = messages-numbered n t (recs_by_count vs t) k in
          let c = h.at_each k in
          let l = length-append new old in
          let s : n + length new ≡ length (new ++ old) = omega arith in
          let d = ap (below k) s in
          omega arith;
      none_off =
          let a = weighs off_number in
          let b = messages-on n t (recs_by_count vs t) in
          let c = h.none_off in
          omega arith;
    }

-- ---- what a ledger sends

-- the running total of a rec among others
abbrev total_in : List Timed → Timed → Timed
total_in rs r = record { at = r.at; rec = record { key = r.rec.key; value = value_sum r.rec.key (timed_where (λ s. leq s r.at) rs) } }

totals-to : (n : ℕ) (rs : List Timed) → HasNumbersTo n rs → HasNumbersTo n (running_totals rs)
totals-to n rs h = record {
  at_each = λ k. weigh-map (any_at (k ∷ [])) (total_in rs) rs ∙ h.at_each k;
  none_off = weigh-map off_number (total_in rs) rs ∙ h.none_off;
}

-- ---- what is sent on a numbered edge

is_ledger : Kind → Bool
is_ledger Ledger = true
is_ledger kind = false

same-weights : (n : ℕ) (xs ys : List Timed) → ((w : Timed → ℕ) → weigh w xs ≡ weigh w ys) → HasNumbersTo n ys → HasNumbersTo n xs
same-weights n xs ys e h = record { at_each = λ k. e (any_at (k ∷ [])) ∙ h.at_each k; none_off = e off_number ∙ h.none_off }

-- What was sent on a numbered edge has the numbers from 0 on, one message at each.
sent-to : (sys : System) (h : List Event) → IsWellFormed sys.flow → IsLegal sys h → (e : ℕ) → is_numbered sys.flow e ≡ true
    → (n : ℕ) × HasNumbersTo n (timed_of (sent_messages sys h e))
unfolding is_ledger weigh
sent-to sys h w l e k =
    let flow = sys.flow in
    let q = sender flow e in
    let vs = events_at flow q h in
    let sent : (n : ℕ) × HasNumbersTo n (timed_of (sent_by sys q vs)) = elim (sends_numbers flow (kind_of flow q) (ap is_of_numbers (edge_domains flow w e) ∙ k)) [
      | inl (inl is) ↦
          let none = no_inject flow q h (only_inputs_inject sys h l q (ap is_input_kind is)) in
          (length (sequence_sent vs), subst (λ ms. HasNumbersTo (length (sequence_sent vs)) (timed_of ms)) (sym (sent_by-sequence sys q is vs none)) (sequence-to vs))
      | inl (inr is) ↦
          let node = kind-declared flow q is_ledger (ap is_ledger is) refl in
          let numbered = ledger-numbered sys h l q node (ledger_edge flow w q node is) in
          let came = deliveries vs in (
            length came,
            same-weights (length came) (timed_of (sent_by sys q vs)) (running_totals came) (λ u. ledger-sent sys q is u vs numbered)
                (totals-to (length came) came (numbered-to came numbered)),
          )
      | inr is ↦
          let out = ap is_output_kind is in (
            0,
            record { at_each = λ j. output-sent sys q out (any_at (j ∷ [])) vs ∙ sym (below-le j 0 (omega arith)); none_off = output-sent sys q out off_number vs },
          )
    ] in
    (sent.0, subst (λ ms. HasNumbersTo sent.0 (timed_of ms)) (sym (carried-numbered flow e k (sent_by sys q vs))) sent.1)

-- ---- what is pending

-- a weight of a timed rec, of a message
abbrev pub of_message : (Timed → ℕ) → Message → ℕ
of_message w m = w (timed_message m)

at-one : (s : Stamp) → off s ≡ 0 → (k : ℕ) × (s ≡ k ∷ [])
at-one [] o = absurd (omega arith)
at-one (x ∷ []) o = (x, refl)
at-one (x ∷ y ∷ s) o = absurd (omega arith)

each-from : (n : ℕ) (ms : List Message) → weigh (of_message off_number) ms ≡ 0 → ((k : ℕ) → k < n → weigh (of_message (any_at (k ∷ []))) ms ≡ 0)
    → AllByRecursion (IsNumberedFrom n) ms
unfolding weigh
each-from n [] o z = tt
each-from n (m ∷ ms) o z =
    let one = at-one m.at (omega arith) in
    let k = one.0 in (
      (
        k,
        elim (cases_lt k n) [
          | inl l ↦ let y = z k l in let a = at-number k k (timed_message m) one.1 refl in absurd (omega arith)
          | inr l ↦ l
        ],
        one.1,
      ),
      each-from n ms (omega arith) (λ j l. let y = z j l in omega arith),
    )

some-weigh : (t : Stamp) (ms : List Message) → 0 < weigh (of_message (any_at t)) ms → some_at (same t) ms ≡ true
unfolding weigh
some-weigh t [] l = absurd (omega arith)
some-weigh t (m ∷ ms) l = elim (cases_Bool (same t m.at)) [
  | inl e ↦ or_left (same t m.at) (some_at (same t) ms) e
  | inr e ↦
      let z : any_at t (timed_message m) ≡ 0 = cond-false (same t m.at) 1 0 e in
      or_right (same t m.at) (some_at (same t) ms) (some-weigh t ms (omega arith))
]

pub many-weigh : (t : Stamp) (ms : List Message) → how_many (λ (m : Message). same t m.at) ms ≡ weigh (of_message (any_at t)) ms
unfolding weigh
many-weigh t [] = refl
many-weigh t (m ∷ ms) =
    let n = how_many (λ (x : Message). same t x.at) ms in
    let h = many-weigh t ms in
    elim (cases_Bool (same t m.at)) [
      | inl e ↦
          let z : any_at t (timed_message m) ≡ 1 = cond-true (same t m.at) 1 0 e in
          let y : how_many (λ (x : Message). same t x.at) (m ∷ ms) ≡ n + 1 = cond-true (same t m.at) (n + 1) n e in
          omega arith
      | inr e ↦
          let z : any_at t (timed_message m) ≡ 0 = cond-false (same t m.at) 1 0 e in
          let y : how_many (λ (x : Message). same t x.at) (m ∷ ms) ≡ n = cond-false (same t m.at) (n + 1) n e in
          omega arith
    ]

pub copy-lighter : (t : Stamp) (m x : Message) → m.at ≡ t → copy m x ≤ of_message (any_at t) x
copy-lighter t m x i = elim (cases_Bool (is_eq (message_cmp m x))) [
  | inl e ↦
      let y : copy m x ≡ 1 = cond-true (is_eq (message_cmp m x)) 1 0 e in
      let s : same t x.at ≡ true = same-from t x.at (sym i ∙ ap (λ (z : Message). z.at) (message_cmp-equal m x e)) in
      let z : of_message (any_at t) x ≡ 1 = cond-true (same t x.at) 1 0 s in
      omega arith
  | inr e ↦ let y : copy m x ≡ 0 = cond-false (is_eq (message_cmp m x)) 1 0 e in omega arith
]

-- a message among others weighs at its stamp
among-weigh : (m : Message) (ms : List Message) → is_message_among m ms ≡ true → 0 < weigh (of_message (any_at m.at)) ms
among-weigh m ms i =
    let a = is_among-copies m ms i in
    let b = weigh-lighter (copy m) (of_message (any_at m.at)) ms
    (each-one (λ x. copy m x ≤ of_message (any_at m.at) x) ms (λ x. copy-lighter m.at m x refl)) in
    omega arith

-- what is at a stamp that is no number is off
off-lighter : (t : Stamp) → (n : ℕ) → off t ≡ suc n → (x : Message) → of_message (any_at t) x ≤ of_message off_number x
off-lighter t n o x = elim (cases_Bool (same t x.at)) [
  | inl e ↦
      let y : of_message (any_at t) x ≡ 1 = cond-true (same t x.at) 1 0 e in
      let z = ap off (same-is t x.at e) in
      omega arith
  | inr e ↦ let y : of_message (any_at t) x ≡ 0 = cond-false (same t x.at) 1 0 e in omega arith
]

below-few : (k n : ℕ) → below k n ≤ 1
below-few k n = cond_both (nat_lt k n) 1 0 (λ x. x ≤ 1) (λ e. omega arith) (λ e. omega arith)

alone-at : (ms : List Message) → weigh (of_message off_number) ms ≡ 0 → ((k : ℕ) → weigh (of_message (any_at (k ∷ []))) ms ≤ 1) → (t : Stamp) (n : ℕ) → off t ≡ n
    → weigh (of_message (any_at t)) ms ≤ 1
alone-at ms o h t zero e =
    let one = at-one t e in
    let a = h one.0 in
    let b = ap (λ s. weigh (of_message (any_at s)) ms) one.1 in
    omega arith
alone-at ms o h t (suc n) e =
    let a = weigh-lighter (of_message (any_at t)) (of_message off_number) ms (each-one (λ x. of_message (any_at t) x ≤ of_message off_number x) ms (off-lighter t n e)) in
    omega arith

-- The messages have the numbers from n on below another, one at each.
record AreNumbersBetween (n top : ℕ) (ms : List Message) : Type 0 where
  at_each : (k : ℕ) → weigh (of_message (any_at (k ∷ []))) ms + below k n ≡ below k top
  none_off : weigh (of_message off_number) ms ≡ 0

between-few : (n top : ℕ) (ms : List Message) → AreNumbersBetween n top ms → (k : ℕ) → weigh (of_message (any_at (k ∷ []))) ms ≤ 1
between-few n top ms b k = let a = b.at_each k in let c = below-few k top in omega arith

between-each : (n top : ℕ) (ms : List Message) → AreNumbersBetween n top ms → AllByRecursion (IsNumberedFrom n) ms
between-each n top ms b = each-from n ms b.none_off (λ k l.
    let a = b.at_each k in
    let c = below-lt k n l in
    let d = below-few k top in
    omega arith)

-- some message is at a number, so that the first one is below the last
between-some : (n top : ℕ) (ms : List Message) → AreNumbersBetween n top ms → (m : Message) → is_message_among m ms ≡ true → n < top
between-some n top ms b m i =
    let from = among-each (IsNumberedFrom n) m ms i (between-each n top ms b) in
    let k = from.0 in
    let a = among-weigh m ms i in
    let c : weigh (of_message (any_at m.at)) ms ≡ weigh (of_message (any_at (k ∷ []))) ms = ap (λ s. weigh (of_message (any_at s)) ms) from.2 in
    let d = b.at_each k in
    let more = from.1 in
    elim (cases_lt k top) [ inl l ↦ omega arith | inr l ↦ let z = below-le k top l in absurd (omega arith) ]

between-next : (n top : ℕ) (ms : List Message) → AreNumbersBetween n top ms → n < top → some_at (same (n ∷ [])) ms ≡ true
between-next n top ms b l =
    let a = b.at_each n in
    let c = below-le n n (omega arith) in
    let d = below-lt n top l in
    some-weigh (n ∷ []) ms (omega arith)

between-alone : (n top : ℕ) (ms : List Message) → AreNumbersBetween n top ms → (t : Stamp) → how_many (λ (m : Message). same t m.at) ms ≤ 1
between-alone n top ms b t =
    let a = many-weigh t ms in
    let c = alone-at ms b.none_off (between-few n top ms b) t (off t) refl in
    omega arith

-- what is left of messages where the first so many went
between-left : (n top : ℕ) (all gone left : List Message) → HasNumbersTo top (timed_of all) → HasNumbersTo n (timed_of gone)
    → ((w : Message → ℕ) → weigh w left + weigh w gone ≡ weigh w all) → AreNumbersBetween n top left
between-left n top all gone left a g w = record {
  at_each = λ k.
      let u = any_at (k ∷ []) in
      let b = w (of_message u) in
      let c = timed_of-weigh u all in
      let d = timed_of-weigh u gone in
      let e = a.at_each k in
      let f = g.at_each k in
      omega arith;
  none_off =
      let b = w (of_message off_number) in
      let c = timed_of-weigh off_number all in
      let e = a.none_off in
      omega arith;
}

-- what is pending on a numbered edge
pending-between : (sys : System) (h : List Event) → IsWellFormed sys.flow → IsLegal sys h → (e : ℕ) → is_numbered sys.flow e ≡ true
    → (top : ℕ) × AreNumbersBetween (length (delivered_messages h e)) top (pending_messages sys h e)
pending-between sys h w l e k =
    let gone = delivered_messages h e in
    let all = sent-to sys h w l e k in
    let came = numbered-to (timed_of gone) (numbered-timed gone (numbered-ascend sys h l e k)) in (
      all.0,
      between-left (length gone) all.0 (sent_messages sys h e) gone (pending_messages sys h e) all.1 (subst (λ n. HasNumbersTo n (timed_of gone)) (length-timed_of gone) came)
          (λ u. less-weigh u (sent_messages sys h e) gone (delivered-was_sent sys h l e)),
    )

pub numbers-go_on : PendingNumbersGoOn
numbers-go_on sys h w l e k =
    let b = pending-between sys h w l e k in
    let n = length (delivered_messages h e) in
    record {
      next = λ m i. between-next n b.0 (pending_messages sys h e) b.1 (between-some n b.0 (pending_messages sys h e) b.1 m i);
      none_lesser = between-each n b.0 (pending_messages sys h e) b.1;
      alone = between-alone n b.0 (pending_messages sys h e) b.1;
    }
