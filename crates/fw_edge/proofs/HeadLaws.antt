-- What messages say of which those at the least stamp stand apart.
use Rattle.std.proofs.Common.{◌≡◌, ◌≢◌, ℕ, nat_eq, nat_lt, ◌<◌, Bool, true, false, List, [], ◌∷◌, ◌++◌, length, filter, map, drop, Option, Some, None, unwrap_or, refl, sym, ap, subst, ◌∙◌, inl, inr, arith}
use Rattle.std.specs.Prelude.{slice_get, find, Result, Ok, Err, IfSome, IfNone, OnOk, OnErr}
use Rattle.std.specs.Bool.{then_some}
use Rattle.std.specs.Borrow.{Bor}
use Rattle.std.specs.BTreeMap.{insert_entry}
use Rattle.std.specs.List.{AllByRecursion}
use Rattle.std.specs.List.Sorted.{IsStrictlySortedBy}
use Rattle.std.specs.Map.{keys_of, lookup}
use Rattle.std.specs.declared.cmp.Ordering.TheVariants.{Less, Greater}
use Rattle.std.specs.Ordering.{is_eq, match_ordering, ordering_reverse}
use Rattle.std.specs.Cmp.Lexicographic.{pointwise, texts_ties}
use Rattle.std.proofs.lemmas.Bool.{cases_Bool, cond_both, cond-true, cond-false, lt-ltb}
use Rattle.std.proofs.lemmas.List.Elements.{filter-append}
use Rattle.std.proofs.lemmas.Cmp.{tied_itself, eq_by_cmp_equiv}
use Rattle.std.proofs.lemmas.Map.{lookup-none}
use Rattle.std.proofs.lemmas.Map.Entries.{none_past_head}
use Rattle.std.proofs.lemmas.Map.Keys.{sorted_head, IsDistinct-from_sorted}
use Rattle.fw_lemmas.proofs.Each.{each-weaker, each-append, each-suffix, each-kept}
use Rattle.fw_time.specs.Stamp.{Stamp, same, stamp_cmp}
use Rattle.fw_flow.specs.declared.event.Message.{Message}
use Rattle.fw_flow.specs.Counting.{how_many}
use Rattle.fw_flow.specs.Message.{message_cmp, messages_without}
use Rattle.fw_flow.proofs.MessageLaws.{message_cmp-self, without-here}
use Rattle.fw_model.specs.SortedMessages.{with_message, sorted_messages}
use Rattle.fw_model.specs.Steps.{is_asked}
use Rattle.fw_model.proofs.CmpLaws.{stamp_total}
use Rattle.fw_model.proofs.SortedLaws.{each-with_message}
use Rattle.fw_edge.specs.Piles.{piled_messages, IsPile, ArePiles, AreApart, IsApartUnlessNone}
use Rattle.fw_edge.specs.Stamps.{counted_first, counted_stamps}
use Rattle.fw_edge.proofs.PiledLaws.{Piles, EachIsPile, at_stamp, put-before, put-left, put-right, piles_later, pile_stands, rest_piles, without-right, stamp_test, find-past, find-first, how_many-append, how_many-none, how_many-piled, kept_pile, piled-in_order, appended_none, single_pile, pile_with, pile_rest, counted-piled}

-- ---- messages at later stamps

-- the message is at a later stamp
abbrev IsLater : Stamp → Message → Type 0
IsLater t m = stamp_cmp t m.at ≡ Less

later-messages : (t : Stamp) (es : Piles) → AllByRecursion (λ s. stamp_cmp t s ≡ Less) (keys_of es) → EachIsPile es → AllByRecursion (IsLater t) (piled_messages es)
later-messages t [] l a = tt
later-messages t (e ∷ es) l a =
    each-append (IsLater t) e.1 (piled_messages es)
    (each-weaker (λ m. m.at ≡ e.0) (IsLater t) e.1 (λ m k. subst (λ s. stamp_cmp t s ≡ Less) (sym k) l.0) a.0.there) (later-messages t es l.1 a.1)

later-piles : (t : Stamp) (es : Piles) → EachIsPile es → AllByRecursion (IsLater t) (piled_messages es) → AllByRecursion (λ s. stamp_cmp t s ≡ Less) (keys_of es)
later-piles t [] a l = tt
later-piles t (e ∷ es) a l = (by e.1 a.0.some a.0.there l, later-piles t es a.1 (each-suffix (IsLater t) e.1 (piled_messages es) l))
  where
    by : (v : List Message) → v ≢ [] → AllByRecursion (λ m. m.at ≡ e.0) v → AllByRecursion (IsLater t) (v ++ piled_messages es) → stamp_cmp t e.0 ≡ Less
    by [] n h k = absurd (n refl)
    by (x ∷ xs) n h k = subst (λ s. stamp_cmp t s ≡ Less) h.0 k.0

later-after : (t : Stamp) (v : List Message) (es : Piles) → ArePiles ((t, v) ∷ es) → AllByRecursion (IsLater t) (piled_messages es)
later-after t v es a = later-messages t es (sorted_head stamp_cmp t (keys_of es) a.ordered) a.each.1

-- a pile stands apart from those whose messages are at later stamps
pub head-apart : (t : Stamp) (v : List Message) (es : Piles) → IsPile t v → ArePiles es → AllByRecursion (IsLater t) (piled_messages es) → AreApart t v es
unfolding IsStrictlySortedBy
head-apart t v es p a l = record {
  before = λ n. record { ordered = (later-piles t es a.each l, a.ordered); each = (p, a.each) };
  none = λ e. absurd (p.some e);
}

-- no piles
pub are-none : ArePiles []
unfolding IsStrictlySortedBy
are-none = record { ordered = tt; each = tt }

-- the others are piles
pub apart-rest : (t : Stamp) (head : List Message) (rest : Piles) → AreApart t head rest → ArePiles rest
apart-rest t [] rest h = subst ArePiles (sym (h.none refl)) are-none
apart-rest t (m ∷ ms) rest h = rest_piles (t, m ∷ ms) rest (h.before (λ e. cc))

greater-from : (s t : Stamp) → stamp_cmp s t ≡ Less → stamp_cmp t s ≡ Greater
greater-from s t e = stamp_total.antisymm t s ∙ ap ordering_reverse e

less-from : (s t : Stamp) → stamp_cmp s t ≡ Greater → stamp_cmp t s ≡ Less
less-from s t e = stamp_total.antisymm t s ∙ ap ordering_reverse e

-- ---- a message put in

-- what follows from either end of a call
pub either-way : {T E : Type 0} (r : Result T E) (P Q R : Type 0) → OnOk r P → OnErr r Q → (P → R) → (Q → R) → R
either-way (Ok x) P Q R p q f g = f p
either-way (Err x) P Q R p q f g = g q

pub OnOk-weaker : {T E : Type 0} (r : Result T E) (P Q : Type 0) → OnOk r P → (P → Q) → OnOk r Q
OnOk-weaker (Ok x) P Q p f = f p
OnOk-weaker (Err x) P Q p f = tt

-- whatever the stamp is where none is
pub still-none : (t s : Stamp) (head left : List Message) (rest : Piles) → AreApart t head rest → head ≡ [] → left ≡ head → AreApart s left rest
still-none t s head left rest h e is = record { before = λ n. absurd (n (is ∙ e)); none = λ k. h.none e }

-- where none is
pub put-none : (m : Message) (t : Stamp) (head new : List Message) (rest : Piles) → AreApart t head rest → head ≡ [] → new ≡ with_message m head
    → AreApart m.at new rest × (new ++ piled_messages rest ≡ with_message m (head ++ piled_messages rest))
put-none m t head new rest h e n =
    let none : rest ≡ [] = h.none e in
    let is : new ≡ m ∷ [] = n ∙ ap (with_message m) e in (
      subst (λ v. AreApart m.at v rest) (sym is) (subst (λ es. AreApart m.at (m ∷ []) es) (sym none) (head-apart m.at (m ∷ []) [] (single_pile m) are-none tt)),
      ap (λ v. v ++ piled_messages rest) is ∙ ap (λ (es : Piles). m ∷ piled_messages es) none
          ∙ sym (ap (λ v. with_message m (v ++ piled_messages rest)) e ∙ ap (λ (es : Piles). with_message m (piled_messages es)) none),
    )

-- at the least stamp
pub put-same : (m : Message) (t : Stamp) (head new : List Message) (rest : Piles) → AreApart t head rest → head ≢ [] → m.at ≡ t → new ≡ with_message m head
    → AreApart t new rest × (new ++ piled_messages rest ≡ with_message m (head ++ piled_messages rest))
put-same m t head new rest h n at is =
    let a = h.before n in
    let pile = subst (λ s. IsPile s (with_message m head)) at (pile_with m head (subst (λ s. IsPile s head) (sym at) a.each.0)) in (
      head-apart t new rest (subst (IsPile t) (sym is) pile) (rest_piles (t, head) rest a) (later-after t head rest a),
      ap (λ v. v ++ piled_messages rest) is
          ∙ sym (put-left m head (piled_messages rest) (piles_later m t rest at (sorted_head stamp_cmp t (keys_of rest) a.ordered) a.each.1)),
    )

-- at a later stamp
pub put-later : (m : Message) (t : Stamp) (head : List Message) (rest new : Piles) → AreApart t head rest → head ≢ [] → stamp_cmp m.at t ≡ Greater → ArePiles new
    → piled_messages new ≡ with_message m (piled_messages rest) → AreApart t head new × (head ++ piled_messages new ≡ with_message m (head ++ piled_messages rest))
put-later m t head rest new h n g b e =
    let a = h.before n in (
      head-apart t head new a.each.0 b
          (subst (AllByRecursion (IsLater t)) (sym e) (each-with_message (IsLater t) m (piled_messages rest) (less-from m.at t g) (later-after t head rest a))),
      ap (λ ys. head ++ ys) e ∙ sym (put-right m head (piled_messages rest) (pile_stands m m.at t Greater head refl g (λ r. cc) a.each.0.there)),
    )

insert-first : (t : Stamp) (v : List Message) (es : Piles) → AllByRecursion (λ s. stamp_cmp t s ≡ Less) (keys_of es) → insert_entry stamp_cmp es t v ≡ (t, v) ∷ es
insert-first t v [] l = refl
insert-first t v (e ∷ es) l = ap (λ o. match_ordering o ((t, v) ∷ e ∷ es) ((e.0, v) ∷ es) (e ∷ insert_entry stamp_cmp es t v)) l.0

-- at a stamp before all
pub put-earlier : (m : Message) (t : Stamp) (head pile : List Message) (rest new : Piles) → AreApart t head rest → head ≢ [] → stamp_cmp m.at t ≡ Less → pile ≡ m ∷ []
    → new ≡ insert_entry stamp_cmp rest t head → AreApart m.at pile new × (pile ++ piled_messages new ≡ with_message m (head ++ piled_messages rest))
put-earlier m t head pile rest new h n q is e =
    let a = h.before n in
    let after = sorted_head stamp_cmp t (keys_of rest) a.ordered in
    let keys : AllByRecursion (λ s. stamp_cmp m.at s ≡ Less) (t ∷ keys_of rest) = (q, each-weaker (λ s. stamp_cmp t s ≡ Less) (λ s. stamp_cmp m.at s ≡ Less) (keys_of rest) (λ s l. stamp_total.trans m.at t s q l) after) in
    let all : new ≡ (t, head) ∷ rest = e ∙ insert-first t head rest after in (
      subst (λ es. AreApart m.at pile es) (sym all)
          (subst (λ v. AreApart m.at v ((t, head) ∷ rest)) (sym is) (head-apart m.at (m ∷ []) ((t, head) ∷ rest) (single_pile m) a (later-messages m.at ((t, head) ∷ rest) keys a.each))),
      ap (λ v. v ++ piled_messages new) is ∙ ap (λ (es : Piles). m ∷ piled_messages es) all
          ∙ sym (put-before m (head ++ piled_messages rest) (piles_later m m.at ((t, head) ∷ rest) refl keys a.each)),
    )

-- the least stamp has no other pile
pub first-absent : (t : Stamp) (head : List Message) (rest : Piles) → AreApart t head rest → head ≢ [] → lookup (at_stamp t) rest ≡ None
first-absent t head rest h n =
    lookup-none (at_stamp t) rest
    (none_past_head (eq_by_cmp_equiv stamp_total) t (t, head) rest (IsDistinct-from_sorted stamp_cmp (keys_of ((t, head) ∷ rest)) (h.before n).ordered) (ap is_eq (tied_itself stamp_total t)))

-- ---- the first message of all

-- without its first message
pub left-apart : (t : Stamp) (head left : List Message) (rest : Piles) → AreApart t head rest → left ≡ drop 1 head → IsApartUnlessNone t left rest
unfolding IsStrictlySortedBy
left-apart t [] left rest h e = (apart-rest t [] rest h, λ n. absurd (n e))
left-apart t (m ∷ ms) left rest h e =
    let a = h.before (λ e. cc) in (
      rest_piles (t, m ∷ ms) rest a,
      λ n. record {
        ordered = a.ordered;
        each = (subst (IsPile t) (sym e) (pile_rest t (m ∷ ms) a.each.0 (subst (λ (xs : List Message). xs ≢ []) e n)), a.each.1);
      },
    )

-- what is left is all but it
pub taken-front : (head left : List Message) (rest : Piles) (r : Option Message) (after : List Message) → r ≡ slice_get head 0 → left ≡ drop 1 head → after ≡ left ++ piled_messages rest
    → IfSome r (λ m. after ≡ messages_without m (head ++ piled_messages rest))
taken-front [] left rest r after k e n = rw k tt
taken-front (m ∷ ms) left rest r after k e n =
    rw k (n ∙ ap (λ v. v ++ piled_messages rest) e ∙ sym (without-here m m (ms ++ piled_messages rest) (message_cmp-self m)))

pub find-apart : (o : Option Stamp) (t : Stamp) (head : List Message) (rest : Piles) → AreApart t head rest → is_asked o t ≡ true
    → find (λ m. is_asked o m.at) (head ++ piled_messages rest) ≡ slice_get head 0
find-apart o t [] rest h e = ap (λ (es : Piles). find (λ (m : Message). is_asked o m.at) (piled_messages es)) (h.none refl)
find-apart o t (m ∷ ms) rest h e =
    find-first (λ x. is_asked o x.at) (m ∷ ms) (piled_messages rest) (λ k. cc)
    (each-weaker (λ x. x.at ≡ t) (λ x. is_asked o x.at ≡ true) (m ∷ ms) (λ x k. ap (is_asked o) k ∙ e) (h.before (λ k. cc)).each.0.there)

-- ---- a message at another stamp

other-stamp : (s t : Stamp) (xs : List Message) → AllByRecursion (λ m. m.at ≡ t) xs → same s t ≡ false → AllByRecursion (λ m. same s m.at ≡ false) xs
other-stamp s t xs a e = each-weaker (λ m. m.at ≡ t) (λ m. same s m.at ≡ false) xs (λ m k. ap (same s) k ∙ e) a

pub find-later : (o : Option Stamp) (s t : Stamp) (head : List Message) (rest : Piles) → AreApart t head rest → o ≡ Some s → same s t ≡ false
    → find (λ m. is_asked o m.at) (head ++ piled_messages rest) ≡ find (λ m. same s m.at) (piled_messages rest)
find-later o s t head rest h is e = ap (λ (u : Option Stamp). find (λ (m : Message). is_asked u m.at) (head ++ piled_messages rest)) is ∙ by head h
  where
    by : (head : List Message) → AreApart t head rest → find (λ (m : Message). same s m.at) (head ++ piled_messages rest) ≡ find (λ (m : Message). same s m.at) (piled_messages rest)
    by [] h = refl
    by (x ∷ xs) h = find-past (λ m. same s m.at) (x ∷ xs) (piled_messages rest) (other-stamp s t (x ∷ xs) (h.before (λ k. cc)).each.0.there e)

find-each : (P : Message → Type 0) (test : Message → Bool) (m : Message) (xs : List Message) → AllByRecursion P xs → find test xs ≡ Some m → P m
find-each P test m [] a e = absurd (cc)
find-each P test m (x ∷ xs) a e = elim (cases_Bool (test x)) [
  | inl k ↦
      let found : Some x ≡ Some m = sym (cond-true (test x) (Some x) (find test xs) k) ∙ e in
      let is : x ≡ m = cc in
      subst P is a.0
  | inr k ↦ find-each P test m xs a.1 (sym (cond-false (test x) (Some x) (find test xs) k) ∙ e)
]

each-without : (P : Message → Type 0) (m : Message) (xs : List Message) → AllByRecursion P xs → AllByRecursion P (messages_without m xs)
each-without P m [] a = tt
each-without P m (x ∷ xs) a =
    cond_both (is_eq (message_cmp m x)) xs (x ∷ messages_without m xs) (AllByRecursion P) (λ e. a.1) (λ e. (a.0, each-without P m xs a.1))

-- what is left where the message was taken from the later ones
pub record IsTakenLater (t : Stamp) (head : List Message) (rest after : Piles) (r : Option Message) : Type 0 where
  pub apart : AreApart t head after
  pub taken : IfSome r (λ m. head ++ piled_messages after ≡ messages_without m (head ++ piled_messages rest))
  pub unchanged : IfNone r (head ++ piled_messages after ≡ head ++ piled_messages rest)

pub take-later : (s t : Stamp) (head : List Message) (rest after : Piles) (r : Option Message) → AreApart t head rest → r ≡ find (λ m. same s m.at) (piled_messages rest) → ArePiles after
    → IfSome r (λ m. piled_messages after ≡ messages_without m (piled_messages rest)) → IfNone r (after ≡ rest) → IsTakenLater t head rest after r
take-later s t head rest after None h k b taken same = record {
  apart = subst (AreApart t head) (sym same) h;
  taken = tt;
  unchanged = ap (λ (es : Piles). head ++ piled_messages es) same;
}
take-later s t [] rest after (Some m) h k b taken none =
    let no : Some m ≡ None = k ∙ ap (λ (es : Piles). find (λ (x : Message). same s x.at) (piled_messages es)) (h.none refl) in
    absurd (cc)
take-later s t (x ∷ xs) rest after (Some m) h k b taken none =
    let a = h.before (λ e. cc) in
    let later = later-after t (x ∷ xs) rest a in
    let less = find-each (IsLater t) (λ y. same s y.at) m (piled_messages rest) later (sym k) in
    record {
      apart = head-apart t (x ∷ xs) after a.each.0 b (subst (AllByRecursion (IsLater t)) (sym taken) (each-without (IsLater t) m (piled_messages rest) later));
      taken = ap (λ ys. (x ∷ xs) ++ ys) taken
          ∙ sym (without-right m (x ∷ xs) (piled_messages rest) (pile_stands m m.at t Greater (x ∷ xs) refl (greater-from t m.at less) (λ r. cc) a.each.0.there));
      unchanged = tt;
    }

-- ---- how many

pub count-apart : (s t : Stamp) (head : List Message) (rest : Piles) → AreApart t head rest → same s t ≡ true
    → length head ≡ how_many (λ (m : Message). same s m.at) (head ++ piled_messages rest)
count-apart s t [] rest h e = sym (ap (λ (es : Piles). how_many (λ (m : Message). same s m.at) (piled_messages es)) (h.none refl))
count-apart s t (m ∷ ms) rest h e =
    sym (how_many-piled s ((t, m ∷ ms) ∷ rest) (h.before (λ k. cc))
    ∙ ap (λ (o : Option (List Message)). length (unwrap_or o [])) (cond-true (at_stamp s t) (Some (m ∷ ms)) (lookup (at_stamp s) rest) (stamp_test s t ∙ e)))

pub count-later : (s t : Stamp) (head : List Message) (rest : Piles) → AreApart t head rest → same s t ≡ false
    → how_many (λ (m : Message). same s m.at) (piled_messages rest) ≡ how_many (λ (m : Message). same s m.at) (head ++ piled_messages rest)
count-later s t [] rest h e = refl
count-later s t (x ∷ xs) rest h e =
    let test = λ (m : Message). same s m.at in
    let none = how_many-none test (x ∷ xs) (other-stamp s t (x ∷ xs) (h.before (λ k. cc)).each.0.there e) in
    let all = how_many-append test (x ∷ xs) (piled_messages rest) in
    omega (arith, none, all)

-- ---- all of them

pub counted-apart : (t : Bor Stamp) (head : List Message) (rest : Piles) (n : ℕ) → AreApart t.now head rest → n ≡ length head
    → counted_first (then_some (nat_lt 0 n) (t, n)) ++ map (λ (pile : Stamp × List Message). (pile.0, length pile.1)) rest ≡ counted_stamps (head ++ piled_messages rest)
counted-apart t [] rest n h e =
    ap (λ (k : ℕ). counted_first (then_some (nat_lt 0 k) (t, k)) ++ map (λ (pile : Stamp × List Message). (pile.0, length pile.1)) rest) e
    ∙ ap (map (λ (pile : Stamp × List Message). (pile.0, length pile.1))) (h.none refl)
    ∙ sym (ap (λ (es : Piles). counted_stamps (piled_messages es)) (h.none refl))
counted-apart t (m ∷ ms) rest n h e =
    ap (λ (k : ℕ). counted_first (then_some (nat_lt 0 k) (t, k)) ++ map (λ (pile : Stamp × List Message). (pile.0, length pile.1)) rest) e
    ∙ ap (λ (b : Bool). counted_first (then_some b (t, length (m ∷ ms))) ++ map (λ (pile : Stamp × List Message). (pile.0, length pile.1)) rest) (lt-ltb 0 (length (m ∷ ms)) (omega arith))
    ∙ counted-piled ((t.now, m ∷ ms) ∷ rest) (h.before (λ k. cc))

pub apart-none : (t : Stamp) (head : List Message) (rest : Piles) → AreApart t head rest → head ≡ [] → head ++ piled_messages rest ≡ []
apart-none t head rest h e = ap (λ v. v ++ piled_messages rest) e ∙ ap piled_messages (h.none e)

pub none-first : (head : List Message) (rest : Piles) → head ++ piled_messages rest ≡ [] → head ≡ []
none-first head rest e = appended_none head (piled_messages rest) e

pub apart-in_order : (t : Stamp) (head : List Message) (rest : Piles) → AreApart t head rest → sorted_messages (head ++ piled_messages rest) ≡ head ++ piled_messages rest
apart-in_order t [] rest h = let none = ap piled_messages (h.none refl) in ap sorted_messages none ∙ sym none
apart-in_order t (m ∷ ms) rest h = piled-in_order ((t, m ∷ ms) ∷ rest) (h.before (λ e. cc))

some-long : (xs : List Message) → xs ≢ [] → 0 < length xs
some-long [] n = absurd (n refl)
some-long (x ∷ xs) n = omega arith

-- of all of them those that pass a test
pub kept-apart : (p : Message → Bool) (t : Stamp) (head left : List Message) (rest after : Piles) → AreApart t head rest → left ≡ filter p head → ArePiles after
    → piled_messages after ≡ filter p (piled_messages rest) → IsApartUnlessNone t left after × (left ++ piled_messages after ≡ filter p (head ++ piled_messages rest))
kept-apart p t head left rest after h is b e =
    ((b, λ n. by head h is n), ap (λ v. v ++ piled_messages after) is ∙ ap (λ ys. filter p head ++ ys) e ∙ sym (filter-append p head (piled_messages rest)))
  where
    by : (head : List Message) → AreApart t head rest → left ≡ filter p head → left ≢ [] → ArePiles ((t, left) ∷ after)
    by [] h is n = absurd (n is)
    by (x ∷ xs) h is n =
        let a = h.before (λ k. cc) in
        let pile = kept_pile p t (x ∷ xs) a.each.0 (some-long (filter p (x ∷ xs)) (subst (λ (ys : List Message). ys ≢ []) is n)) in
        (head-apart t left after (subst (IsPile t) (sym is) pile) b
        (subst (AllByRecursion (IsLater t)) (sym e) (each-kept (IsLater t) p (piled_messages rest) (later-after t (x ∷ xs) rest a)))).before n

-- ---- tests

-- the two tests whether stamps are one
pub same-by : (s t : Stamp) (b : Bool) → pointwise nat_eq s t ≡ b → same s t ≡ b
same-by s t b e = sym (stamp_test s t) ∙ sym (texts_ties s t) ∙ e
