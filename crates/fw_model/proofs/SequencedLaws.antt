-- What a sequence numbers: the recs in order, stamp after stamp.
use Rattle.std.proofs.Common.{◌≡◌, ℕ, ◌+◌, ◌<◌, Bool, true, false, cond, ◌&&◌, ◌||◌, nat_le, List, [], ◌∷◌, ◌++◌, length, map, refl, sym, ap, ◌∙◌, inl, inr, arith}
use Rattle.std.specs.List.{AllByRecursion}
use Rattle.std.specs.Prelude.{filter}
use Rattle.std.specs.Ordering.{is_eq, is_gt}
use Rattle.std.proofs.lemmas.Bool.{cond_both, cond-false, cases_Bool, leb-false, lt-leb}
use Rattle.std.proofs.lemmas.Cmp.{tied_itself}
use Rattle.fw_lemmas.proofs.Bools.{two_ways}
use Rattle.fw_lemmas.proofs.Each.{each-weaker, each-both}
use Rattle.fw_lemmas.proofs.Filters.{filter-none}
use Rattle.fw_time.specs.Stamp.{Stamp, same}
use Rattle.fw_bag.specs.declared.rec.Rec.{Rec}
use Rattle.fw_bag.specs.Rec.{rec_cmp}
use Rattle.fw_bag.specs.Keyed.{sorted_recs}
use Rattle.fw_flow.specs.declared.event.Event.{Event}
use Rattle.fw_flow.specs.declared.event.Message.{Message}
use Rattle.fw_flow.specs.Dataflow.{greatest_number}
use Rattle.fw_flow.specs.Projection.{first_coordinate}
use Rattle.fw_flow.specs.NodeFunction.{delivered_recs, numbered_messages}
use Rattle.fw_flow.specs.WholeBags.{Timed, timed_cmp, in_order, timed_where, numbered_recs}
use Rattle.fw_model.proofs.WeightLaws.{weigh, how_often-where, one, one-in, one-out, is_at-self}
use Rattle.fw_model.proofs.SentLaws.{timed_of}
use Rattle.fw_model.proofs.TimedLaws.{timed_order, IsAscendingTimed, ascending-in_order}
use Rattle.fw_model.proofs.TimedCounts.{ascending-where, in_order-weigh, sorted-is}
use Rattle.fw_model.proofs.ArrivalLaws.{deliveries}
use Rattle.fw_model.proofs.DistinctLaws.{how_often-delivered_at}
use Rattle.fw_model.proofs.StampLaws.{same-is}

-- ---- members

-- the timed rec is among these
abbrev pub IsMember : Timed → List Timed → Type 0
IsMember r xs = 0 < weigh (one r.at r.rec) xs

member-first : (r : Timed) (xs : List Timed) → IsMember r (r ∷ xs)
unfolding weigh
member-first r xs = let i = one-in r.at r.rec r (is_at-self r) in omega arith

member-later : (r x : Timed) (xs : List Timed) → IsMember r xs → IsMember r (x ∷ xs)
unfolding weigh
member-later r x xs l = omega arith

pub each_member : (P : Timed → Type 0) (xs : List Timed) → ((r : Timed) → IsMember r xs → P r) → AllByRecursion P xs
each_member P [] k = tt
each_member P (x ∷ xs) k = (k x (member-first x xs), each_member P xs (λ r l. k r (member-later r x xs l)))

-- ---- parts of an ascending list

pub filter-same : (f g : Timed → Bool) (xs : List Timed) → AllByRecursion (λ r. f r ≡ g r) xs → filter f xs ≡ filter g xs
filter-same f g [] a = refl
filter-same f g (x ∷ xs) a = ap (λ b. cond b (x ∷ filter f xs) (filter f xs)) a.0 ∙ ap (λ ys. cond (g x) (x ∷ ys) ys) (filter-same f g xs a.1)

-- each member that passes the first test comes before each that passes the second
abbrev pub Precedes : (Timed → Bool) → (Timed → Bool) → List Timed → Type 0
Precedes a b xs = (r q : Timed) → IsMember r xs → IsMember q xs → a r ≡ true → b q ≡ true → is_gt (timed_cmp q r) ≡ true

-- in an ascending list, what passes one of two tests is what passes the first and then what passes the second
pub filter-parts : (a b : Timed → Bool) (xs : List Timed) → IsAscendingTimed xs → Precedes a b xs
    → filter (λ r. b r || a r) xs ≡ filter a xs ++ filter b xs
unfolding IsAscendingTimed
filter-parts a b [] s p = refl
filter-parts a b (x ∷ xs) s p =
    let rest = filter-parts a b xs s.1 (λ r q i j k l. p r q (member-later r x xs i) (member-later q x xs j) k l) in
    elim (cases_Bool (a x)) [
      | inl k ↦
          let o : b x ≡ false = elim (cases_Bool (b x)) [
            | inl l ↦ absurd (two_ways (is_gt (timed_cmp x x)) (p x x (member-first x xs) (member-first x xs) k l) (ap is_gt (tied_itself timed_order x)))
            | inr l ↦ l
          ] in
          ap (λ c. cond (c || a x) (x ∷ filter (λ r. b r || a r) xs) (filter (λ r. b r || a r) xs)) o
          ∙ ap (λ c. cond c (x ∷ filter (λ r. b r || a r) xs) (filter (λ r. b r || a r) xs)) k
          ∙ ap (λ ys. x ∷ ys) rest
          ∙ sym (ap (λ c. cond c (x ∷ filter a xs) (filter a xs) ++ filter b (x ∷ xs)) k
          ∙ ap (λ c. (x ∷ filter a xs) ++ cond c (x ∷ filter b xs) (filter b xs)) o)
      | inr k ↦ elim (cases_Bool (b x)) [
        | inl l ↦
            let none : filter a xs ≡ [] = filter-none a xs (each-weaker (λ z. IsMember z (x ∷ xs) × (is_gt (timed_cmp x z) ≡ false)) (λ z. a z ≡ false) xs
            (λ z i. elim (cases_Bool (a z)) [
              | inl j ↦ absurd (two_ways (is_gt (timed_cmp x z)) (p z x i.0 (member-first x xs) j l) i.1)
              | inr j ↦ j
            ])
            (each-both (λ z. IsMember z (x ∷ xs)) (λ z. is_gt (timed_cmp x z) ≡ false) xs (each_member (λ z. IsMember z (x ∷ xs)) xs (λ z i. member-later z x xs i)) s.0)) in
            ap (λ c. cond (c || a x) (x ∷ filter (λ r. b r || a r) xs) (filter (λ r. b r || a r) xs)) l
            ∙ ap (λ ys. x ∷ ys) (rest ∙ ap (λ ys. ys ++ filter b xs) none)
            ∙ sym (ap (λ c. cond c (x ∷ filter a xs) (filter a xs) ++ filter b (x ∷ xs)) k
            ∙ ap (λ ys. ys ++ filter b (x ∷ xs)) none
            ∙ ap (λ c. cond c (x ∷ filter b xs) (filter b xs)) l)
        | inr l ↦
            ap (λ c. cond (c || a x) (x ∷ filter (λ r. b r || a r) xs) (filter (λ r. b r || a r) xs)) l
            ∙ ap (λ c. cond c (x ∷ filter (λ r. b r || a r) xs) (filter (λ r. b r || a r) xs)) k
            ∙ rest
            ∙ sym (ap (λ c. cond c (x ∷ filter a xs) (filter a xs) ++ filter b (x ∷ xs)) k
            ∙ ap (λ c. filter a xs ++ cond c (x ∷ filter b xs) (filter b xs)) l)
      ]
    ]

-- ---- numbering

numbered-past : (n : ℕ) (xs : List Timed) → greatest_number < n → numbered_recs n xs ≡ []
numbered-past n [] l = refl
numbered-past n (x ∷ xs) l =
    cond-false (nat_le n greatest_number) (record { at = n ∷ []; rec = x.rec } ∷ numbered_recs (n + 1) xs) [] (lt-leb n greatest_number l)

pub numbered-append : (n : ℕ) (xs ys : List Timed) → numbered_recs n (xs ++ ys) ≡ numbered_recs n xs ++ numbered_recs (n + length (numbered_recs n xs)) ys
numbered-append n [] ys = let e : n ≡ n + 0 = omega arith in ap (λ k. numbered_recs k ys) e
numbered-append n (x ∷ xs) ys = elim (cases_Bool (nat_le n greatest_number)) [
  | inl e ↦
      let head : Timed = record { at = n ∷ []; rec = x.rec } in
      let k : n + 1 + length (numbered_recs (n + 1) xs) ≡ n + length (head ∷ numbered_recs (n + 1) xs) = omega arith in
      ap (λ b. cond b (head ∷ numbered_recs (n + 1) (xs ++ ys)) []) e
      ∙ ap (λ zs. head ∷ zs) (numbered-append (n + 1) xs ys ∙ ap (λ j. numbered_recs (n + 1) xs ++ numbered_recs j ys) k)
      ∙ sym (ap (λ b. cond b (head ∷ numbered_recs (n + 1) xs) [] ++ numbered_recs (n + length (cond b (head ∷ numbered_recs (n + 1) xs) [])) ys) e)
  | inr e ↦
      let head : Timed = record { at = n ∷ []; rec = x.rec } in
      let l = leb-false n greatest_number e in
      let past = numbered-past (n + 0) ys (omega arith) in
      ap (λ b. cond b (head ∷ numbered_recs (n + 1) (xs ++ ys)) []) e
      ∙ sym past
      ∙ sym (ap (λ b. cond b (head ∷ numbered_recs (n + 1) xs) [] ++ numbered_recs (n + length (cond b (head ∷ numbered_recs (n + 1) xs) [])) ys) e)
]

-- the messages of these recs are the recs at the same numbers
pub numbered-messages : (n : ℕ) (cause : Stamp) (rs : List Rec) (xs : List Timed) → rs ≡ map (λ r. r.rec) xs → timed_of (numbered_messages n cause rs) ≡ numbered_recs n xs
numbered-messages n cause rs xs e = ap (λ qs. timed_of (numbered_messages n cause qs)) e ∙ each n xs
  where
    each : (n : ℕ) (xs : List Timed) → timed_of (numbered_messages n cause (map (λ r. r.rec) xs)) ≡ numbered_recs n xs
    each n [] = refl
    each n (x ∷ xs) = cases (nat_le n greatest_number) (each (n + 1) xs)
      where
        cases : (b : Bool) → timed_of (numbered_messages (n + 1) cause (map (λ r. r.rec) xs)) ≡ numbered_recs (n + 1) xs
            → timed_of (cond b (record { at = n ∷ []; rec = x.rec; causes = cause ∷ [] } ∷ numbered_messages (n + 1) cause (map (λ r. r.rec) xs)) [])
            ≡ cond b (record { at = n ∷ []; rec = x.rec } ∷ numbered_recs (n + 1) xs) []
        cases true h = ap (λ ys. record { at = n ∷ []; rec = x.rec } ∷ ys) h
        cases false h = refl

-- nothing is numbered below the first number
pub numbered-from : (n : ℕ) (xs : List Timed) (t : Stamp) (q : Rec) → first_coordinate t < n → weigh (one t q) (numbered_recs n xs) ≡ 0
unfolding weigh
numbered-from n [] t q l = refl
numbered-from n (x ∷ xs) t q l =
    let h = numbered-from (n + 1) xs t q (omega arith) in
    let head : Timed = record { at = n ∷ []; rec = x.rec } in
    let z = one-out t q head (elim (cases_Bool (same t (n ∷ []))) [
      | inl e ↦ let i = ap first_coordinate (same-is t (n ∷ []) e) in absurd (omega arith)
      | inr e ↦ ap (λ b. b && is_eq (rec_cmp q x.rec)) e
    ]) in
    cond_both (nat_le n greatest_number) (head ∷ numbered_recs (n + 1) xs) [] (λ ys. weigh (one t q) ys ≡ 0) (λ e. omega arith) (λ e. refl)

pub length-weigh : (xs : List Timed) → weigh (λ r. 1) xs ≡ length xs
unfolding weigh
length-weigh [] = refl
length-weigh (x ∷ xs) = let h = length-weigh xs in omega arith

pub length-messages : (ms : List Message) → weigh (λ r. 1) (timed_of ms) ≡ length ms
unfolding weigh
length-messages [] = refl
length-messages (m ∷ ms) = let h = length-messages ms in omega arith

-- ---- the recs of one stamp

-- what came at a stamp, in order, is what is there in the whole bag in order
pub block-is : (t : Stamp) (vs : List Event) (xs : List Timed) → ((q : Rec) → weigh (one t q) (deliveries vs) ≡ weigh (one t q) xs)
    → sorted_recs (delivered_recs (λ d s. same s t) vs) ≡ timed_where (same t) (in_order xs)
block-is t vs xs k =
    sorted-is (delivered_recs (λ d s. same s t) vs) (timed_where (same t) (in_order xs)) (ascending-where t (in_order xs) (ascending-in_order xs))
    (λ q. how_often-delivered_at t q vs ∙ k q ∙ sym (in_order-weigh (one t q) xs) ∙ sym (how_often-where t q (in_order xs)))
