-- What traces have that are told of stamps, one after the other.
use Rattle.std.proofs.Common.{◌≡◌, ◌↔◌, ◌⊎◌, ℕ, zero, suc, ◌+◌, ◌<◌, ◌≤◌, Bool, true, false, ◌==◌, cond, ◌||◌, nat_lt, List, [], ◌∷◌, ◌++◌, length, get_or, map, take, refl, sym, ap, subst, ◌∙◌, inl, inr, arith}
use Rattle.std.specs.List.{Contains, flat_map, range_with_len}
use Rattle.std.specs.BTreeSet.{insert_key}
use Rattle.std.proofs.lemmas.Bool.{cases_eq, eq-eqb, lt-ltb}
use Rattle.std.proofs.lemmas.Grind.{flat_map-append}
use Rattle.std.proofs.lemmas.List.{append-nil, get_or_past, length-map, take_more}
use Rattle.std.proofs.Math.Seq.{take-length}
use Rattle.std.proofs.lemmas.List.Elements.{Contains-append_left, Contains-append_right, Contains-append_cases}
use Rattle.fw_lemmas.proofs.Each.{each-weaker}
use Rattle.fw_time.specs.Stamp.{Stamp, stamp_cmp}
use Rattle.fw_bag.specs.declared.rec.Rec.{Rec}
use Rattle.fw_frontier.specs.Front.{Front, inside}
use Rattle.fw_lines.specs.Batches.{batches_at}
use Rattle.fw_flow.specs.Dataflow.{Dataflow, receiver, out_edges}
use Rattle.fw_flow.specs.KeyParts.{is_carried}
use Rattle.fw_model.specs.Carried.{carried_recs}
use Rattle.fw_model.specs.Machine.{front_of}
use Rattle.fw_model.proofs.ThinnedLaws.{each-contained}
use Rattle.fw_progress.specs.declared.traces.Traces.{Traces}
use Rattle.fw_progress.specs.Progress.{ChangesAt}
use Rattle.fw_progress.specs.Trace.{HasDeliveredMore, HasNotifiedMore, HasSentMore}
use Rattle.fw_progress.specs.Traces.{HasAdded}
use Rattle.fw_progress.proofs.TraceLaws.{each-itself, each_of-insert, insert-each}
use Rattle.fw_resume.specs.Recalled.{Recall, of_sending, of_delivery, of_notice, HasRecalled, HaveRecalled, recalls_of_batch, recalls_of_input, recalls_of_inputs, sending_on}

-- ---- one after the other

pub contains-nothing : {A : Type 0} (x : A) → Contains [] x → ⊥
contains-nothing x c = absurd (omega (arith, c.1))

contains-one : {A : Type 0} (x y : A) → Contains (x ∷ []) y → y ≡ x
contains-one x y (zero, l, e) = sym e
contains-one x y (suc k, l, e) = absurd (omega (arith, l))

pub contains-itself : {A : Type 0} (x : A) → Contains (x ∷ []) x
contains-itself x = (0, omega arith, refl)

pub recalled-append : (these more : List Recall) (old mid new : Traces) → HaveRecalled these old mid → HaveRecalled more mid new → HaveRecalled (these ++ more) old new
recalled-append these more old mid new a b = record {
  is = λ x. (
    λ k. elim ((b.is x).0 k) [
      | inl m ↦ elim ((a.is x).0 m) [ inl o ↦ inl o | inr c ↦ inr (Contains-append_left these more x c) ]
      | inr c ↦ inr (Contains-append_right these more x c)
    ],
    λ k. elim k [
      | inl o ↦ (b.is x).1 (inl ((a.is x).1 (inl o)))
      | inr c ↦ elim (Contains-append_cases these more x c) [ inl l ↦ (b.is x).1 (inl ((a.is x).1 (inr l))) | inr r ↦ (b.is x).1 (inr r) ]
    ],
  );
}

-- what one more of a list tells
pub recalled-next : {A : Type 0} (f : A → List Recall) (xs : List A) (i : ℕ) (y : A) (old mid new : Traces) → i < length xs → y ≡ get_or xs i y
    → HaveRecalled (flat_map f (take i xs)) old mid → HaveRecalled (f y) mid new → HaveRecalled (flat_map f (take (i + 1) xs)) old new
recalled-next f xs i y old mid new l e a b =
    let all : flat_map f (take (i + 1) xs) ≡ flat_map f (take i xs) ++ f y =
    ap (flat_map f) (take_more xs i y l ∙ ap (λ z. take i xs ++ z ∷ []) (sym e)) ∙ flat_map-append f (take i xs) (y ∷ [])
    ∙ ap (λ zs. flat_map f (take i xs) ++ zs) (append-nil (f y)) in
    subst (λ zs. HaveRecalled zs old new) (sym all) (recalled-append (flat_map f (take i xs)) (f y) old mid new a b)

range-more : (a n : ℕ) → range_with_len a (suc n) ≡ range_with_len a n ++ (a + n) ∷ []
range-more a zero = ap (λ x. x ∷ []) (let e : a ≡ a + 0 = omega arith in e)
range-more a (suc n) =
    ap (λ xs. a ∷ xs) (range-more (a + 1) n ∙ ap (λ x. range_with_len (a + 1) n ++ x ∷ []) (let e : (a + 1) + n ≡ a + suc n = omega arith in e))

-- what one more number tells
pub recalled-number : (f : ℕ → List Recall) (n : ℕ) (old mid new : Traces) → HaveRecalled (flat_map f (range_with_len 0 n)) old mid → HaveRecalled (f n) mid new
    → HaveRecalled (flat_map f (range_with_len 0 (n + 1))) old new
recalled-number f n old mid new a b =
    let on : n + 1 ≡ suc n = omega arith in
    let all : flat_map f (range_with_len 0 (n + 1)) ≡ flat_map f (range_with_len 0 n) ++ f n =
    ap (λ m. flat_map f (range_with_len 0 m)) on ∙ ap (flat_map f) (range-more 0 n ∙ ap (λ x. range_with_len 0 n ++ x ∷ []) (let e : 0 + n ≡ n = omega arith in e)) ∙ flat_map-append f (range_with_len 0 n) (n ∷ [])
    ∙ ap (λ zs. flat_map f (range_with_len 0 n) ++ zs) (append-nil (f n)) in
    subst (λ zs. HaveRecalled zs old new) (sym all) (recalled-append (flat_map f (range_with_len 0 n)) (f n) old mid new a b)

-- nothing is told
pub recalled-none : (traces : Traces) → HaveRecalled [] traces traces
recalled-none traces = record { is = λ x. (λ k. inl k, λ k. elim k [ inl a ↦ a | inr c ↦ absurd (contains-nothing x c) ]) }

-- ---- one stamp more

added-is : (at s : Stamp) (old new : List Stamp) → HasAdded at old new → Contains new s ↔ (Contains old s ⊎ (s ≡ at))
added-is at s old new is =
    let has = each_of-insert (Contains (insert_key stamp_cmp old at)) old at (each-itself (insert_key stamp_cmp old at)) in
    let to : Stamp → Type 0 = λ t. Contains old t ⊎ (t ≡ at) in (
      λ c. each-contained to s (insert_key stamp_cmp old at) (subst (λ ss. Contains ss s) is c)
          (insert-each to old at (inr refl) (each-weaker (Contains old) to old (λ t k. inl k) (each-itself old))),
      λ k. subst (λ ss. Contains ss s) (sym is) (elim k [
        | inl c ↦ each-contained (Contains (insert_key stamp_cmp old at)) s old c has.1
        | inr e ↦ subst (Contains (insert_key stamp_cmp old at)) (sym e) has.0
      ]),
    )

-- in one of the lists, and in no other
changed-is : (i : ℕ) (at : Stamp) (old new : List (List Stamp)) → ChangesAt i [] (HasAdded at) old new → (k : ℕ) (s : Stamp)
    → Contains (get_or new k []) s ↔ (Contains (get_or old k []) s ⊎ ((k ≡ i) × (s ≡ at)))
changed-is i at old new c k s = elim (cases_eq k i) [
  | inl e ↦
      let here = subst (λ j. HasAdded at (get_or old j []) (get_or new j [])) (sym e) c.here in
      let is = added-is at s (get_or old k []) (get_or new k []) here in (
        λ x. elim (is.0 x) [ inl a ↦ inl a | inr b ↦ inr (e, b) ],
        λ x. is.1 (elim x [ inl a ↦ inl a | inr b ↦ inr b.1 ]),
      )
  | inr n ↦
      let same = c.others k n in (
        λ x. inl (subst (λ ss. Contains ss s) same x),
        λ x. subst (λ ss. Contains ss s) (sym same) (elim x [ inl a ↦ a | inr b ↦ absurd (n b.0) ]),
      )
]

-- the lists are what they were
same-is_had : (k : ℕ) (s : Stamp) (old new : List (List Stamp)) (P : Type 0) → new ≡ old → (P → ⊥) → Contains (get_or new k []) s ↔ (Contains (get_or old k []) s ⊎ P)
same-is_had k s old new P e not_one = (
  λ c. inl (subst (λ xs. Contains (get_or xs k []) s) e c),
  λ x. subst (λ xs. Contains (get_or xs k []) s) (sym e) (elim x [ inl a ↦ a | inr b ↦ absurd (not_one b) ]),
)

abbrev HasOneMore : Recall → Traces → Traces → Type 0
HasOneMore one old new = (x : Recall) → HasRecalled new x ↔ (HasRecalled old x ⊎ Contains (one ∷ []) x)

one-delivered : (e : ℕ) (t : Stamp) (old new : Traces) → HasDeliveredMore e t old new → HasOneMore (of_delivery e t) old new
one-delivered e t old new m (of_sending p s) =
    same-is_had p s old.sent.items new.sent.items (Contains (of_delivery e t ∷ []) (of_sending p s)) m.sent (λ c. let k = contains-one (of_delivery e t) (of_sending p s) c in cc)
one-delivered e t old new m (of_delivery d s) =
    let is = changed-is e t old.delivered.items new.delivered.items m.delivered d s in (
      λ k. elim (is.0 k) [
        | inl a ↦ inl a
        | inr b ↦ inr (subst (λ x. Contains (of_delivery e t ∷ []) (of_delivery x s)) (sym b.0)
            (subst (λ x. Contains (of_delivery e t ∷ []) (of_delivery e x)) (sym b.1) (contains-itself (of_delivery e t))))
      ],
      λ k. is.1 (elim k [ inl a ↦ inl a | inr c ↦ inr (parts d s (contains-one (of_delivery e t) (of_delivery d s) c)) ]),
    )
  where
    parts : (d : ℕ) (s : Stamp) → of_delivery d s ≡ of_delivery e t → (d ≡ e) × (s ≡ t)
    parts d s k = (cc, cc)
one-delivered e t old new m (of_notice p s) =
    same-is_had p s old.notified.items new.notified.items (Contains (of_delivery e t ∷ []) (of_notice p s)) m.notified (λ c. let k = contains-one (of_delivery e t) (of_notice p s) c in cc)

one-notified : (q : ℕ) (t : Stamp) (old new : Traces) → HasNotifiedMore q t old new → HasOneMore (of_notice q t) old new
one-notified q t old new m (of_sending p s) =
    same-is_had p s old.sent.items new.sent.items (Contains (of_notice q t ∷ []) (of_sending p s)) m.sent (λ c. let k = contains-one (of_notice q t) (of_sending p s) c in cc)
one-notified q t old new m (of_delivery d s) =
    same-is_had d s old.delivered.items new.delivered.items (Contains (of_notice q t ∷ []) (of_delivery d s)) m.delivered (λ c. let k = contains-one (of_notice q t) (of_delivery d s) c in cc)
one-notified q t old new m (of_notice p s) =
    let is = changed-is q t old.notified.items new.notified.items m.notified p s in (
      λ k. elim (is.0 k) [
        | inl a ↦ inl a
        | inr b ↦ inr (subst (λ x. Contains (of_notice q t ∷ []) (of_notice x s)) (sym b.0)
            (subst (λ x. Contains (of_notice q t ∷ []) (of_notice q x)) (sym b.1) (contains-itself (of_notice q t))))
      ],
      λ k. is.1 (elim k [ inl a ↦ inl a | inr c ↦ inr (parts p s (contains-one (of_notice q t) (of_notice p s) c)) ]),
    )
  where
    parts : (p : ℕ) (s : Stamp) → of_notice p s ≡ of_notice q t → (p ≡ q) × (s ≡ t)
    parts p s k = (cc, cc)

one-sent : (e : ℕ) (t : Stamp) (old new : Traces) → HasSentMore e t old new → (x : Recall) → HasRecalled new x ↔ (HasRecalled old x ⊎ Contains (of_sending e t ∷ []) x)
one-sent e t old new m (of_sending d s) =
    let is = changed-is e t old.sent.items new.sent.items m.sent d s in (
      λ k. elim (is.0 k) [
        | inl a ↦ inl a
        | inr b ↦ inr (subst (λ x. Contains (of_sending e t ∷ []) (of_sending x s)) (sym b.0)
            (subst (λ x. Contains (of_sending e t ∷ []) (of_sending e x)) (sym b.1) (contains-itself (of_sending e t))))
      ],
      λ k. is.1 (elim k [ inl a ↦ inl a | inr c ↦ inr (parts d s (contains-one (of_sending e t) (of_sending d s) c)) ]),
    )
  where
    parts : (d : ℕ) (s : Stamp) → of_sending d s ≡ of_sending e t → (d ≡ e) × (s ≡ t)
    parts d s k = (cc, cc)
one-sent e t old new m (of_delivery d s) =
    same-is_had d s old.delivered.items new.delivered.items (Contains (of_sending e t ∷ []) (of_delivery d s)) m.delivered (λ c. absurd (none (contains-one (of_sending e t) (of_delivery d s) c)))
  where
    none : of_delivery d s ≡ of_sending e t → ⊥
    none k = cc
one-sent e t old new m (of_notice p s) =
    same-is_had p s old.notified.items new.notified.items (Contains (of_sending e t ∷ []) (of_notice p s)) m.notified (λ c. absurd (none (contains-one (of_sending e t) (of_notice p s) c)))
  where
    none : of_notice p s ≡ of_sending e t → ⊥
    none k = cc

pub delivered-recalled : (e : ℕ) (t : Stamp) (old new : Traces) → HasDeliveredMore e t old new → HaveRecalled (of_delivery e t ∷ []) old new
delivered-recalled e t old new m = record { is = one-delivered e t old new m }

pub notified-recalled : (q : ℕ) (t : Stamp) (old new : Traces) → HasNotifiedMore q t old new → HaveRecalled (of_notice q t ∷ []) old new
notified-recalled q t old new m = record { is = one-notified q t old new m }

pub sending-recalled : (e : ℕ) (t : Stamp) (old new : Traces) → HasSentMore e t old new → HaveRecalled (of_sending e t ∷ []) old new
sending-recalled e t old new m = record { is = one-sent e t old new m }

-- ---- what is told of a batch, and of an event

-- of an edge, by whether it carries one of the recs
pub sent-recalled : (flow : Dataflow) (rs : List Rec) (t : Stamp) (e : ℕ) (old new : Traces) (b : Bool) → b ≡ nat_lt 0 (length (carried_recs flow e rs)) → b ≡ true
    → HasSentMore e t old new → HaveRecalled (sending_on flow rs t e) old new
sent-recalled flow rs t e old new b is k m =
    subst (λ x. HaveRecalled (cond x (of_sending e t ∷ []) []) old new) (sym (sym is ∙ k)) (sending-recalled e t old new m)

pub unsent-recalled : (flow : Dataflow) (rs : List Rec) (t : Stamp) (e : ℕ) (traces : Traces) (b : Bool) → b ≡ nat_lt 0 (length (carried_recs flow e rs)) → b ≡ false
    → HaveRecalled (sending_on flow rs t e) traces traces
unsent-recalled flow rs t e traces b is k = subst (λ x. HaveRecalled (cond x (of_sending e t ∷ []) []) traces traces) (sym (sym is ∙ k)) (recalled-none traces)

-- whether an edge carries one of the recs, where so many of those that are left are carried as of all
pub carries-one : (flow : Dataflow) (e : ℕ) (all left rest : List Rec) (r : Rec) → length (carried_recs flow e all) ≡ length (carried_recs flow e left) → left ≡ r ∷ rest
    → is_carried flow e r ≡ true → true ≡ nat_lt 0 (length (carried_recs flow e all))
carries-one flow e all left rest r same more k =
    let one : length (carried_recs flow e all) ≡ suc (length (carried_recs flow e rest)) =
    same ∙ ap (λ rs. length (carried_recs flow e rs)) more ∙ ap (λ b. length (cond b (r ∷ carried_recs flow e rest) (carried_recs flow e rest))) k in
    sym (lt-ltb 0 (length (carried_recs flow e all)) (omega (arith, one)))

pub carries-next : (flow : Dataflow) (e : ℕ) (all left rest : List Rec) (r : Rec) → length (carried_recs flow e all) ≡ length (carried_recs flow e left) → left ≡ r ∷ rest
    → is_carried flow e r ≡ false → length (carried_recs flow e all) ≡ length (carried_recs flow e rest)
carries-next flow e all left rest r same more k =
    same ∙ ap (λ rs. length (carried_recs flow e rs)) more ∙ ap (λ b. length (cond b (r ∷ carried_recs flow e rest) (carried_recs flow e rest))) k

pub carries-none : (flow : Dataflow) (e : ℕ) (all left : List Rec) → length (carried_recs flow e all) ≡ length (carried_recs flow e left) → left ≡ []
    → false ≡ nat_lt 0 (length (carried_recs flow e all))
carries-none flow e all left same none = sym (ap (nat_lt 0) (same ∙ ap (λ rs. length (carried_recs flow e rs)) none))

-- of a batch without a rec no edge carries one
none_sent : (flow : Dataflow) (t : Stamp) (es : List ℕ) → flat_map (sending_on flow [] t) es ≡ []
none_sent flow t [] = refl
none_sent flow t (e ∷ es) = none_sent flow t es

cond-same : (b : Bool) (xs : List Recall) → cond b xs xs ≡ xs
cond-same true xs = refl
cond-same false xs = refl

-- past the last batch nothing is told
pub past-recalled : {B : Type 0} (f : B → List Rec) (bs : List B) (flow : Dataflow) (p : ℕ) (low : Front) (x : ℕ) (traces : Traces) → length bs ≤ x
    → HaveRecalled (recalls_of_batch flow p low (map f bs) x) traces traces
past-recalled f bs flow p low x traces past =
    let none : get_or (map f bs) x [] ≡ [] = get_or_past (map f bs) x [] (omega (arith, past, length-map bs f)) in
    let nothing : recalls_of_batch flow p low (map f bs) x ≡ [] =
    ap (λ rs. cond (inside low (x ∷ [])) [] (flat_map (sending_on flow rs (x ∷ [])) (out_edges flow p))) none
    ∙ ap (λ (these : List Recall). cond (inside low (x ∷ [])) [] these) (none_sent flow (x ∷ []) (out_edges flow p)) ∙ cond-same (inside low (x ∷ [])) [] in
    subst (λ these. HaveRecalled these traces traces) (sym nothing) (recalled-none traces)

-- so is nothing of an epoch inside the low watermark
pub inside-recalled : (flow : Dataflow) (p : ℕ) (low : Front) (batches : List (List Rec)) (x : ℕ) (traces : Traces) → inside low (x ∷ []) ≡ true
    → HaveRecalled (recalls_of_batch flow p low batches x) traces traces
inside-recalled flow p low batches x traces k =
    subst (λ b. HaveRecalled (cond b [] (flat_map (sending_on flow (get_or batches x []) (x ∷ [])) (out_edges flow p))) traces traces) (sym k) (recalled-none traces)

-- of all out-edges, where the epoch lies outside the low watermark
pub batch-recalled : (flow : Dataflow) (p : ℕ) (low : Front) (batches : List (List Rec)) (x : ℕ) (old new : Traces) → inside low (x ∷ []) ≡ false
    → HaveRecalled (flat_map (sending_on flow (get_or batches x []) (x ∷ [])) (out_edges flow p)) old new → HaveRecalled (recalls_of_batch flow p low batches x) old new
batch-recalled flow p low batches x old new out m =
    subst (λ b. HaveRecalled (cond b [] (flat_map (sending_on flow (get_or batches x []) (x ∷ [])) (out_edges flow p))) old new) (sym out) m

pub event-recalled : (flow : Dataflow) (p e : ℕ) (t : Stamp) (old new : Traces) → receiver flow e ≡ p → HasDeliveredMore e t old new
    → HaveRecalled (cond (receiver flow e == p) (of_delivery e t ∷ []) []) old new
event-recalled flow p e t old new into m =
    subst (λ b. HaveRecalled (cond b (of_delivery e t ∷ []) []) old new) (sym (eq-eqb (receiver flow e) p into)) (delivered-recalled e t old new m)

-- ---- all of a list

pub recalled-all : {A : Type 0} (f : A → List Recall) (xs : List A) (i : ℕ) (old new : Traces) → i ≡ length xs → HaveRecalled (flat_map f (take i xs)) old new
    → HaveRecalled (flat_map f xs) old new
recalled-all f xs i old new e h = subst (λ ys. HaveRecalled (flat_map f ys) old new) (ap (λ n. take n xs) e ∙ take-length xs) h

-- what a batch is that is read
pub batch-is : {B : Type 0} (f : B → List Rec) (bs : List B) (i : ℕ) (b : B) → i < length bs → b ≡ get_or bs i b → get_or (map f bs) i [] ≡ f b
batch-is f [] i b l e = absurd (omega (arith, l))
batch-is f (a ∷ bs) zero b l e = ap f (sym e)
batch-is f (a ∷ bs) (suc i) b l e = batch-is f bs i b (omega (arith, l)) e

-- what one more node tells
pub input-next : (flow : Dataflow) (given : List (ℕ × List (List Rec))) (injected : List ℕ) (low : List Front) (n node : ℕ) (front : Front) (batches : List (List Rec)) (count : ℕ) (old mid new : Traces)
    → node ≡ n → batches ≡ batches_at given n → front ≡ front_of low n → count ≡ get_or injected n 0 → HaveRecalled (recalls_of_inputs flow given injected low n) old mid
    → HaveRecalled (recalls_of_input flow node front batches count) mid new → HaveRecalled (recalls_of_inputs flow given injected low (n + 1)) old new
input-next flow given injected low n node front batches count old mid new e b f c a m =
    let of : ℕ → List Recall = λ p. recalls_of_input flow p (front_of low p) (batches_at given p) (get_or injected p 0) in
    recalled-number of n old mid new a
    (subst (λ x. HaveRecalled (recalls_of_input flow n (front_of low n) (batches_at given n) x) mid new) c
    (subst (λ x. HaveRecalled (recalls_of_input flow n x (batches_at given n) count) mid new) f
    (subst (λ x. HaveRecalled (recalls_of_input flow n front x count) mid new) b
    (subst (λ x. HaveRecalled (recalls_of_input flow x front batches count) mid new) e m))))
