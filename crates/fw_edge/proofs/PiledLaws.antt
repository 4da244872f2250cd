-- What piles of messages say.
use Rattle.std.proofs.Common.{◌≡◌, ◌≢◌, ℕ, ◌+◌, ◌<◌, Bool, true, false, cond, List, [], ◌∷◌, ◌++◌, length, filter, map, drop, Option, Some, None, unwrap_or, nat_lt, refl, sym, ap, subst, ◌∙◌, inl, inr, arith}
use Rattle.std.specs.Prelude.{slice_get, find, IfSome, IfNone}
use Rattle.std.specs.BTreeMap.{insert_entry, is_at}
use Rattle.std.specs.List.{AllByRecursion}
use Rattle.std.specs.List.Sorted.{IsStrictlySortedBy}
use Rattle.std.specs.Map.{keys_of, lookup, set_value, remove_entry}
use Rattle.std.specs.Map.Calls.{RetainsPairs}
use Rattle.std.specs.declared.cmp.Ordering.{Ordering}
use Rattle.std.specs.declared.cmp.Ordering.TheVariants.{Less, Equal, Greater}
use Rattle.std.specs.Ordering.{is_eq, is_gt, is_le, ordering_then, match_ordering}
use Rattle.std.specs.Cmp.Lexicographic.{slice_cmp}
use Rattle.std.proofs.lemmas.Bool.{cond_both, cond-true, cond-false, cases_Bool, both_ways, ltb-true, ltb-false}
use Rattle.std.proofs.lemmas.Cmp.{tied_itself, eq_by_cmp_equiv}
use Rattle.std.proofs.lemmas.List.{append_assoc, append-nil, nil_from_length}
use Rattle.std.proofs.lemmas.List.Elements.{filter-append}
use Rattle.std.proofs.lemmas.Map.{lookup-none}
use Rattle.std.proofs.lemmas.Map.Steps.{set_value_same}
use Rattle.std.proofs.lemmas.Map.Entries.{none_below_head, none_past_head}
use Rattle.std.proofs.lemmas.Map.Keys.{sorted_head, sorted_tail, IsDistinct-from_sorted}
use Rattle.fw_lemmas.proofs.Each.{each-weaker, each-append, each-kept}
use Rattle.fw_time.specs.Stamp.{Stamp, same, stamp_cmp}
use Rattle.fw_time.proofs.StampLaws.{same-is, same-refl}
use Rattle.fw_bag.specs.Rec.{rec_cmp}
use Rattle.fw_flow.specs.declared.event.Message.{Message}
use Rattle.fw_flow.specs.Counting.{how_many}
use Rattle.fw_flow.specs.Message.{message_cmp, messages_without}
use Rattle.fw_flow.proofs.MessageLaws.{message_cmp-self, without-here, without-later}
use Rattle.fw_model.specs.SortedMessages.{with_message, sorted_messages}
use Rattle.fw_model.proofs.CmpLaws.{stamp_total, stamp_cmp-same, stamp_cmp-equal}
use Rattle.fw_model.proofs.SortedLaws.{IsAscendingMessages, ascending-sorted_messages, sorted_messages-ascending, sorted_messages-filter, sorted_messages-twice, each-with_message}
use Rattle.fw_edge.specs.Messages.{ArePutAfter}
use Rattle.fw_edge.specs.Piles.{piled_messages, IsPile, ArePiles}
use Rattle.fw_edge.specs.Stamps.{counted_before, counted_stamps}
use Rattle.fw_edge.proofs.PileLaws.{with_message-some}

-- messages by their stamps
abbrev pub Piles : Type 0
Piles = List (Stamp × List Message)

-- ---- messages at different stamps

then_first : (o p q : Ordering) → p ≡ o → o ≢ Equal → ordering_then p q ≡ o
then_first Less p q e n = ap (λ r. ordering_then r q) e
then_first Equal p q e n = absurd (n refl)
then_first Greater p q e n = ap (λ r. ordering_then r q) e

-- messages are in the order of their stamps, where these differ
by_stamp : (m x : Message) (s t : Stamp) (o : Ordering) → m.at ≡ s → x.at ≡ t → stamp_cmp s t ≡ o → o ≢ Equal → message_cmp m x ≡ o
by_stamp m x s t o a b e n =
    then_first o (stamp_cmp m.at x.at) (ordering_then (rec_cmp m.rec x.rec) (slice_cmp stamp_cmp m.causes x.causes)) (ap (λ u. stamp_cmp u x.at) a ∙ ap (stamp_cmp s) b ∙ e) n

-- the messages at a stamp stand to one at another stamp as the stamps do
pub pile_stands : (m : Message) (s t : Stamp) (o : Ordering) (xs : List Message) → m.at ≡ s → stamp_cmp s t ≡ o → o ≢ Equal
    → AllByRecursion (λ x. x.at ≡ t) xs → AllByRecursion (λ x. message_cmp m x ≡ o) xs
pile_stands m s t o xs a e n h = each-weaker (λ x. x.at ≡ t) (λ x. message_cmp m x ≡ o) xs (λ x b. by_stamp m x s t o a b e n) h

-- the messages of later piles come after one at an earlier stamp
pub piles_later : (m : Message) (s : Stamp) (es : Piles) → m.at ≡ s → AllByRecursion (λ t. stamp_cmp s t ≡ Less) (keys_of es)
    → AllByRecursion (λ pile. IsPile pile.0 pile.1) es → AllByRecursion (λ x. message_cmp m x ≡ Less) (piled_messages es)
piles_later m s [] a l h = tt
piles_later m s (e ∷ es) a l h =
    each-append (λ x. message_cmp m x ≡ Less) e.1 (piled_messages es) (pile_stands m s e.0 Less e.1 a l.0 (λ q. cc) h.0.there) (piles_later m s es a l.1 h.1)

-- ---- a message put in

pub put-before : (m : Message) (ys : List Message) → AllByRecursion (λ y. message_cmp m y ≡ Less) ys → with_message m ys ≡ m ∷ ys
put-before m [] a = refl
put-before m (y ∷ ys) a = cond-true (is_le (message_cmp m y)) (m ∷ y ∷ ys) (y ∷ with_message m ys) (ap is_le a.0)

pub put-left : (m : Message) (xs ys : List Message) → AllByRecursion (λ y. message_cmp m y ≡ Less) ys → with_message m (xs ++ ys) ≡ with_message m xs ++ ys
put-left m [] ys a = put-before m ys a
put-left m (x ∷ xs) ys a =
    cond_both (is_le (message_cmp m x)) (m ∷ x ∷ xs) (x ∷ with_message m xs) (λ zs. with_message m (x ∷ xs ++ ys) ≡ zs ++ ys)
    (λ e. cond-true (is_le (message_cmp m x)) (m ∷ x ∷ xs ++ ys) (x ∷ with_message m (xs ++ ys)) e)
    (λ e. cond-false (is_le (message_cmp m x)) (m ∷ x ∷ xs ++ ys) (x ∷ with_message m (xs ++ ys)) e ∙ ap (λ zs. x ∷ zs) (put-left m xs ys a))

pub put-right : (m : Message) (xs ys : List Message) → AllByRecursion (λ x. message_cmp m x ≡ Greater) xs → with_message m (xs ++ ys) ≡ xs ++ with_message m ys
put-right m [] ys a = refl
put-right m (x ∷ xs) ys a =
    cond-false (is_le (message_cmp m x)) (m ∷ x ∷ xs ++ ys) (x ∷ with_message m (xs ++ ys)) (ap is_le a.0) ∙ ap (λ zs. x ∷ zs) (put-right m xs ys a.1)

-- ---- a look-up of a stamp

-- the test of a stamp's pile
abbrev pub at_stamp : Stamp → Stamp → Bool
at_stamp t = is_at (stamp_cmp t)

pub found_here : (t : Stamp) (e : Stamp × List Message) (es : Piles) → stamp_cmp t e.0 ≡ Equal → lookup (at_stamp t) (e ∷ es) ≡ Some e.1
found_here t e es h = cond-true (at_stamp t e.0) (Some e.1) (lookup (at_stamp t) es) (ap is_eq h)

pub found_later : (t : Stamp) (e : Stamp × List Message) (es : Piles) → stamp_cmp t e.0 ≡ Greater → lookup (at_stamp t) (e ∷ es) ≡ lookup (at_stamp t) es
found_later t e es h = cond-false (at_stamp t e.0) (Some e.1) (lookup (at_stamp t) es) (ap is_eq h)

not_found : (t : Stamp) (e : Stamp × List Message) (es : Piles) → IsStrictlySortedBy stamp_cmp (keys_of (e ∷ es)) → stamp_cmp t e.0 ≡ Less
    → lookup (at_stamp t) (e ∷ es) ≡ None
not_found t e es s h = lookup-none (at_stamp t) (e ∷ es) (none_below_head stamp_total t e es s h)

-- the piles after the first
pub rest_piles : (e : Stamp × List Message) (es : Piles) → ArePiles (e ∷ es) → ArePiles es
rest_piles e es a = record { ordered = sorted_tail stamp_cmp e.0 (keys_of es) a.ordered; each = a.each.1 }

-- ---- piles with one changed

-- what holds of each pile holds of each after one is written at its stamp
each-set_value : (P : Stamp × List Message → Type 0) (t : Stamp) (v : List Message) (es : Piles) → P (t, v) → AllByRecursion P es
    → AllByRecursion P (set_value (at_stamp t) es v)
each-set_value P t v [] p a = tt
each-set_value P t v (e ∷ es) p a =
    cond_both (at_stamp t e.0) ((e.0, v) ∷ es) (e ∷ set_value (at_stamp t) es v) (AllByRecursion P)
    (λ q. (subst (λ s. P (s, v)) (stamp_cmp-equal t e.0 q) p, a.1)) (λ q. (a.0, each-set_value P t v es p a.1))

each-insert_entry : (P : Stamp × List Message → Type 0) (t : Stamp) (v : List Message) (es : Piles) → P (t, v) → AllByRecursion P es
    → AllByRecursion P (insert_entry stamp_cmp es t v)
each-insert_entry P t v [] p a = (p, tt)
each-insert_entry P t v (e ∷ es) p a = by (stamp_cmp t e.0) refl (each-insert_entry P t v es p a.1)
  where
    by : (o : Ordering) → stamp_cmp t e.0 ≡ o → AllByRecursion P (insert_entry stamp_cmp es t v)
        → AllByRecursion P (match_ordering o ((t, v) ∷ e ∷ es) ((e.0, v) ∷ es) (e ∷ insert_entry stamp_cmp es t v))
    by Less q b = (p, a)
    by Equal q b = (subst (λ s. P (s, v)) (stamp_cmp-same t e.0 q) p, a.1)
    by Greater q b = (a.0, b)

each-remove_entry : (P : Stamp × List Message → Type 0) (test : Stamp → Bool) (es : Piles) → AllByRecursion P es → AllByRecursion P (remove_entry test es)
each-remove_entry P test [] a = tt
each-remove_entry P test (e ∷ es) a =
    cond_both (test e.0) es (e ∷ remove_entry test es) (AllByRecursion P) (λ q. a.1) (λ q. (a.0, each-remove_entry P test es a.1))

-- each is a pile
abbrev pub EachIsPile : Piles → Type 0
EachIsPile es = AllByRecursion (λ pile. IsPile pile.0 pile.1) es

pub piles-set_value : (t : Stamp) (v : List Message) (es : Piles) → IsPile t v → EachIsPile es → EachIsPile (set_value (at_stamp t) es v)
piles-set_value t v es p a = each-set_value (λ pile. IsPile pile.0 pile.1) t v es p a

pub piles-insert_entry : (t : Stamp) (v : List Message) (es : Piles) → IsPile t v → EachIsPile es → EachIsPile (insert_entry stamp_cmp es t v)
piles-insert_entry t v es p a = each-insert_entry (λ pile. IsPile pile.0 pile.1) t v es p a

pub piles-remove_entry : (t : Stamp) (es : Piles) → EachIsPile es → EachIsPile (remove_entry (at_stamp t) es)
piles-remove_entry t es a = each-remove_entry (λ pile. IsPile pile.0 pile.1) (at_stamp t) es a

-- the pile that is found at a stamp
pub pile_found : (t : Stamp) (v : List Message) (es : Piles) → EachIsPile es → lookup (at_stamp t) es ≡ Some v → IsPile t v
pile_found t v [] a h = absurd (cc)
pile_found t v (e ∷ es) a h = elim (cases_Bool (at_stamp t e.0)) [
  | inl q ↦
      let is : Some e.1 ≡ Some v = sym (cond-true (at_stamp t e.0) (Some e.1) (lookup (at_stamp t) es) q) ∙ h in
      let same : e.1 ≡ v = cc in
      subst (λ w. IsPile t w) same (subst (λ s. IsPile s e.1) (sym (stamp_cmp-equal t e.0 q)) a.0)
  | inr q ↦ pile_found t v es a.1 (sym (cond-false (at_stamp t e.0) (Some e.1) (lookup (at_stamp t) es) q) ∙ h)
]

-- what is inserted at a stamp that has a pile is written in its place
pub insert-found : (t : Stamp) (v w : List Message) (es : Piles) → IsStrictlySortedBy stamp_cmp (keys_of es) → lookup (at_stamp t) es ≡ Some v → insert_entry stamp_cmp es t w ≡ set_value (at_stamp t) es w
insert-found t v w [] o h = absurd (cc)
insert-found t v w (e ∷ es) o h = by (stamp_cmp t e.0) refl (insert-found t v w es (sorted_tail stamp_cmp e.0 (keys_of es) o))
  where
    by : (c : Ordering) → stamp_cmp t e.0 ≡ c → (lookup (at_stamp t) es ≡ Some v → insert_entry stamp_cmp es t w ≡ set_value (at_stamp t) es w)
        → match_ordering c ((t, w) ∷ e ∷ es) ((e.0, w) ∷ es) (e ∷ insert_entry stamp_cmp es t w) ≡ set_value (at_stamp t) (e ∷ es) w
    by Less k ih = let none = not_found t e es o k in absurd (cc)
    by Equal k ih = sym (cond-true (at_stamp t e.0) ((e.0, w) ∷ es) (e ∷ set_value (at_stamp t) es w) (ap is_eq k))
    by Greater k ih =
        ap (λ fs. e ∷ fs) (ih (sym (found_later t e es k) ∙ h)) ∙ sym (cond-false (at_stamp t e.0) ((e.0, w) ∷ es) (e ∷ set_value (at_stamp t) es w) (ap is_eq k))

-- a pile that is written over itself
pub insert-same : (t : Stamp) (v : List Message) (es : Piles) → IsStrictlySortedBy stamp_cmp (keys_of es) → lookup (at_stamp t) es ≡ Some v → insert_entry stamp_cmp es t v ≡ es
insert-same t v es o h = insert-found t v v es o h ∙ set_value_same (at_stamp t) es v h

-- ---- a message put into a pile

-- the statement for some piles
abbrev PutsMore : Message → List Message → Piles → Type 0
PutsMore m v es = lookup (at_stamp m.at) es ≡ Some v → piled_messages (set_value (at_stamp m.at) es (with_message m v)) ≡ with_message m (piled_messages es)

put_more_cases : (m : Message) (v : List Message) (e : Stamp × List Message) (es : Piles) → ArePiles (e ∷ es) → PutsMore m v es
    → (o : Ordering) → stamp_cmp m.at e.0 ≡ o → PutsMore m v (e ∷ es)
put_more_cases m v e es a ih Less q h = let none = not_found m.at e es a.ordered q in absurd (cc)
put_more_cases m v e es a ih Equal q h =
    let f = found_here m.at e es q in
    let is : v ≡ e.1 = cc in
    ap piled_messages (cond-true (at_stamp m.at e.0) ((e.0, with_message m v) ∷ es) (e ∷ set_value (at_stamp m.at) es (with_message m v)) (ap is_eq q))
    ∙ ap (λ xs. with_message m xs ++ piled_messages es) is
    ∙ sym (put-left m e.1 (piled_messages es) (piles_later m e.0 es (stamp_cmp-same m.at e.0 q) (sorted_head stamp_cmp e.0 (keys_of es) a.ordered) a.each.1))
put_more_cases m v e es a ih Greater q h =
    ap piled_messages (cond-false (at_stamp m.at e.0) ((e.0, with_message m v) ∷ es) (e ∷ set_value (at_stamp m.at) es (with_message m v)) (ap is_eq q))
    ∙ ap (λ ys. e.1 ++ ys) (ih (sym (found_later m.at e es q) ∙ h))
    ∙ sym (put-right m e.1 (piled_messages es) (pile_stands m m.at e.0 Greater e.1 refl q (λ r. cc) a.each.0.there))

-- what is put into the pile of its stamp is put in
pub piled-put_more : (m : Message) (v : List Message) (es : Piles) → ArePiles es → PutsMore m v es
piled-put_more m v [] a h = absurd (cc)
piled-put_more m v (e ∷ es) a h = put_more_cases m v e es a (piled-put_more m v es (rest_piles e es a)) (stamp_cmp m.at e.0) refl h

-- the statement for some piles
abbrev PutsNew : Message → Piles → Type 0
PutsNew m es = lookup (at_stamp m.at) es ≡ None → piled_messages (insert_entry stamp_cmp es m.at (m ∷ [])) ≡ with_message m (piled_messages es)

put_new_cases : (m : Message) (e : Stamp × List Message) (es : Piles) → ArePiles (e ∷ es) → PutsNew m es
    → (o : Ordering) → stamp_cmp m.at e.0 ≡ o → lookup (at_stamp m.at) (e ∷ es) ≡ None
    → piled_messages (match_ordering o ((m.at, m ∷ []) ∷ e ∷ es) ((e.0, m ∷ []) ∷ es) (e ∷ insert_entry stamp_cmp es m.at (m ∷ []))) ≡ with_message m (piled_messages (e ∷ es))
put_new_cases m e es a ih Less q h =
    let later = each-weaker (λ t. stamp_cmp e.0 t ≡ Less) (λ t. stamp_cmp m.at t ≡ Less) (keys_of es) (λ t l. stamp_total.trans m.at e.0 t q l) (sorted_head stamp_cmp e.0 (keys_of es) a.ordered) in
    sym (put-before m (piled_messages (e ∷ es)) (piles_later m m.at (e ∷ es) refl (q, later) a.each))
put_new_cases m e es a ih Equal q h = let f = found_here m.at e es q in absurd (cc)
put_new_cases m e es a ih Greater q h =
    ap (λ ys. e.1 ++ ys) (ih (sym (found_later m.at e es q) ∙ h))
    ∙ sym (put-right m e.1 (piled_messages es) (pile_stands m m.at e.0 Greater e.1 refl q (λ r. cc) a.each.0.there))

-- a new pile of one message is the message put in
pub piled-put_new : (m : Message) (es : Piles) → ArePiles es → PutsNew m es
piled-put_new m [] a h = refl
piled-put_new m (e ∷ es) a h = put_new_cases m e es a (piled-put_new m es (rest_piles e es a)) (stamp_cmp m.at e.0) refl h

-- ---- a message taken out

pub without-right : (m : Message) (xs ys : List Message) → AllByRecursion (λ x. message_cmp m x ≡ Greater) xs → messages_without m (xs ++ ys) ≡ xs ++ messages_without m ys
without-right m [] ys a = refl
without-right m (x ∷ xs) ys a = without-later m x (xs ++ ys) (ap is_eq a.0) ∙ ap (λ zs. x ∷ zs) (without-right m xs ys a.1)

-- the statement for some piles
abbrev Takes : Message → List Message → Piles → Type 0
Takes m rest es = lookup (at_stamp m.at) es ≡ Some (m ∷ rest) → piled_messages (set_value (at_stamp m.at) es rest) ≡ messages_without m (piled_messages es)

take_cases : (m : Message) (rest : List Message) (e : Stamp × List Message) (es : Piles) → ArePiles (e ∷ es) → Takes m rest es
    → (o : Ordering) → stamp_cmp m.at e.0 ≡ o → Takes m rest (e ∷ es)
take_cases m rest e es a ih Less q h = let none = not_found m.at e es a.ordered q in absurd (cc)
take_cases m rest e es a ih Equal q h =
    let f = found_here m.at e es q in
    let is : e.1 ≡ m ∷ rest = cc in
    ap piled_messages (cond-true (at_stamp m.at e.0) ((e.0, rest) ∷ es) (e ∷ set_value (at_stamp m.at) es rest) (ap is_eq q))
    ∙ sym (ap (λ xs. messages_without m (xs ++ piled_messages es)) is ∙ without-here m m (rest ++ piled_messages es) (message_cmp-self m))
take_cases m rest e es a ih Greater q h =
    ap piled_messages (cond-false (at_stamp m.at e.0) ((e.0, rest) ∷ es) (e ∷ set_value (at_stamp m.at) es rest) (ap is_eq q))
    ∙ ap (λ ys. e.1 ++ ys) (ih (sym (found_later m.at e es q) ∙ h))
    ∙ sym (without-right m e.1 (piled_messages es) (pile_stands m m.at e.0 Greater e.1 refl q (λ r. cc) a.each.0.there))

-- without the first message of its pile the list is without the message
pub piled-take : (m : Message) (rest : List Message) (es : Piles) → ArePiles es → Takes m rest es
piled-take m rest [] a h = absurd (cc)
piled-take m rest (e ∷ es) a h = take_cases m rest e es a (piled-take m rest es (rest_piles e es a)) (stamp_cmp m.at e.0) refl h

-- a pile that is gone is one without messages
pub piled-remove : (test : Stamp → Bool) (es : Piles) → piled_messages (remove_entry test es) ≡ piled_messages (set_value test es [])
piled-remove test [] = refl
piled-remove test (e ∷ es) = by (test e.0) (piled-remove test es)
  where
    by : (b : Bool) → piled_messages (remove_entry test es) ≡ piled_messages (set_value test es [])
        → piled_messages (cond b es (e ∷ remove_entry test es)) ≡ piled_messages (cond b ((e.0, []) ∷ es) (e ∷ set_value test es []))
    by true h = refl
    by false h = ap (λ ys. e.1 ++ ys) h

-- ---- the first message at a stamp

-- the two tests whether stamps are one
pub stamp_test : (t s : Stamp) → at_stamp t s ≡ same t s
stamp_test t s = elim (cases_Bool (at_stamp t s)) [
  | inl e ↦ let is = stamp_cmp-equal t s e in e ∙ sym (ap (same t) (sym is) ∙ same-refl t)
  | inr e ↦ elim (cases_Bool (same t s)) [
    | inl k ↦ let is = same-is t s k in absurd (both_ways (at_stamp t s) e (ap (at_stamp t) (sym is) ∙ ap is_eq (tied_itself stamp_total t)))
    | inr k ↦ e ∙ sym k
  ]
]

-- each message of a pile answers the test of a stamp as the pile's stamp does
pub pile_answers : (t s : Stamp) (b : Bool) (xs : List Message) → AllByRecursion (λ m. m.at ≡ s) xs → at_stamp t s ≡ b → AllByRecursion (λ m. same t m.at ≡ b) xs
pile_answers t s b xs h e = each-weaker (λ m. m.at ≡ s) (λ m. same t m.at ≡ b) xs (λ m k. ap (same t) k ∙ sym (stamp_test t s) ∙ e) h

pub find-past : (test : Message → Bool) (xs ys : List Message) → AllByRecursion (λ x. test x ≡ false) xs → find test (xs ++ ys) ≡ find test ys
find-past test [] ys a = refl
find-past test (x ∷ xs) ys a = cond-false (test x) (Some x) (find test (xs ++ ys)) a.0 ∙ find-past test xs ys a.1

pub find-first : (test : Message → Bool) (xs ys : List Message) → xs ≢ [] → AllByRecursion (λ x. test x ≡ true) xs → find test (xs ++ ys) ≡ slice_get xs 0
find-first test [] ys n a = absurd (n refl)
find-first test (x ∷ xs) ys n a = cond-true (test x) (Some x) (find test (xs ++ ys)) a.0

-- the first message at a stamp is the first of its pile
pub find-piled : (t : Stamp) (es : Piles) → EachIsPile es
    → find (λ m. same t m.at) (piled_messages es) ≡ slice_get (unwrap_or (lookup (at_stamp t) es) []) 0
find-piled t [] a = refl
find-piled t (e ∷ es) a = elim (cases_Bool (at_stamp t e.0)) [
  | inl q ↦
      find-first (λ m. same t m.at) e.1 (piled_messages es) a.0.some (pile_answers t e.0 true e.1 a.0.there q)
      ∙ ap (λ o. slice_get (unwrap_or o []) 0) (sym (cond-true (at_stamp t e.0) (Some e.1) (lookup (at_stamp t) es) q))
  | inr q ↦
      find-past (λ m. same t m.at) e.1 (piled_messages es) (pile_answers t e.0 false e.1 a.0.there q) ∙ find-piled t es a.1
      ∙ ap (λ o. slice_get (unwrap_or o []) 0) (sym (cond-false (at_stamp t e.0) (Some e.1) (lookup (at_stamp t) es) q))
]

-- ---- how many are at a stamp

pub how_many-append : (test : Message → Bool) (xs ys : List Message) → how_many test (xs ++ ys) ≡ how_many test xs + how_many test ys
how_many-append test [] ys = omega arith
how_many-append test (x ∷ xs) ys =
    let h = how_many-append test xs ys in
    cond_both (test x) (how_many test xs + 1) (how_many test xs) (λ n. how_many test (x ∷ xs ++ ys) ≡ n + how_many test ys)
    (λ e. cond-true (test x) (how_many test (xs ++ ys) + 1) (how_many test (xs ++ ys)) e ∙ omega arith)
    (λ e. cond-false (test x) (how_many test (xs ++ ys) + 1) (how_many test (xs ++ ys)) e ∙ omega arith)

how_many-all : (test : Message → Bool) (xs : List Message) → AllByRecursion (λ x. test x ≡ true) xs → how_many test xs ≡ length xs
how_many-all test [] a = refl
how_many-all test (x ∷ xs) a = let h = how_many-all test xs a.1 in cond-true (test x) (how_many test xs + 1) (how_many test xs) a.0 ∙ omega arith

pub how_many-none : (test : Message → Bool) (xs : List Message) → AllByRecursion (λ x. test x ≡ false) xs → how_many test xs ≡ 0
how_many-none test [] a = refl
how_many-none test (x ∷ xs) a = cond-false (test x) (how_many test xs + 1) (how_many test xs) a.0 ∙ how_many-none test xs a.1

-- the messages at a stamp are as many as its pile has
pub how_many-piled : (t : Stamp) (es : Piles) → ArePiles es
    → how_many (λ (m : Message). same t m.at) (piled_messages es) ≡ length (unwrap_or (lookup (at_stamp t) es) [])
how_many-piled t [] a = refl
how_many-piled t (e ∷ es) a =
    let test = λ (m : Message). same t m.at in
    let both = how_many-append test e.1 (piled_messages es) in
    let later = how_many-piled t es (rest_piles e es a) in
    elim (cases_Bool (at_stamp t e.0)) [
      | inl q ↦
          let none = lookup-none (at_stamp t) es (none_past_head (eq_by_cmp_equiv stamp_total) t e es (IsDistinct-from_sorted stamp_cmp (keys_of (e ∷ es)) a.ordered) q) in
          let here = how_many-all test e.1 (pile_answers t e.0 true e.1 a.each.0.there q) in
          let nothing = later ∙ ap (λ o. length (unwrap_or o [])) none in
          both ∙ ap (λ n. n + how_many test (piled_messages es)) here ∙ ap (λ n. length e.1 + n) nothing ∙ omega arith
          ∙ ap (λ o. length (unwrap_or o [])) (sym (cond-true (at_stamp t e.0) (Some e.1) (lookup (at_stamp t) es) q))
      | inr q ↦
          let none = how_many-none test e.1 (pile_answers t e.0 false e.1 a.each.0.there q) in
          both ∙ ap (λ n. n + how_many test (piled_messages es)) none ∙ omega arith ∙ later
          ∙ ap (λ o. length (unwrap_or o [])) (sym (cond-false (at_stamp t e.0) (Some e.1) (lookup (at_stamp t) es) q))
    ]

-- ---- what is kept

-- the piles with the messages that pass a test, without those that have none
pub kept_piles : (Message → Bool) → Piles → Piles
kept_piles p [] = []
kept_piles p (e ∷ es) = cond (nat_lt 0 (length (filter p e.1))) ((e.0, filter p e.1) ∷ kept_piles p es) (kept_piles p es)

-- calls that keep of each pile what passes, and say whether something does, leave these
pub retained : {F : Type 0} (T : F → Stamp → List Message → Bool → List Message → F → Type 0) (p : Message → Bool) (g : F)
    → ((k : Stamp) (v : List Message) (b : Bool) (w : List Message) (g' : F) → T g k v b w g' → (w ≡ filter p v) × (b ≡ nat_lt 0 (length w)) × (g' ≡ g))
    → (es kept : Piles) → RetainsPairs T g es kept → kept ≡ kept_piles p es
unfolding kept_piles
retained T p g h [] kept r = r
retained T p g h (e ∷ es) kept r =
    let a = h e.0 e.1 r.0 r.1 r.2 r.4 in
    let ih : r.3 ≡ kept_piles p es = retained T p g h es r.3 (subst (λ u. RetainsPairs T u es r.3) a.2 r.5) in
    let test : r.0 ≡ nat_lt 0 (length (filter p e.1)) = a.1 ∙ ap (λ (w : List Message). nat_lt 0 (length w)) a.0 in
    r.6 ∙ ap (λ (b : Bool). cond b ((e.0, r.1) ∷ r.3) r.3) test
    ∙ ap (λ (w : List Message). cond (nat_lt 0 (length (filter p e.1))) ((e.0, w) ∷ r.3) r.3) a.0
    ∙ ap (λ (rest : Piles). cond (nat_lt 0 (length (filter p e.1))) ((e.0, filter p e.1) ∷ rest) rest) ih

pub long : (xs : List Message) → 0 < length xs → xs ≢ []
long [] l e = absurd (omega arith)
long (x ∷ xs) l e = cc

pub kept_pile : (p : Message → Bool) (t : Stamp) (xs : List Message) → IsPile t xs → 0 < length (filter p xs) → IsPile t (filter p xs)
kept_pile p t xs a l = record {
  some = long (filter p xs) l;
  ascending = sorted_messages-filter p xs ∙ ap (filter p) a.ascending;
  there = each-kept (λ m. m.at ≡ t) p xs a.there;
}

pub piles-kept : (p : Message → Bool) (es : Piles) → EachIsPile es → EachIsPile (kept_piles p es)
unfolding kept_piles
piles-kept p [] a = tt
piles-kept p (e ∷ es) a =
    cond_both (nat_lt 0 (length (filter p e.1))) ((e.0, filter p e.1) ∷ kept_piles p es) (kept_piles p es) EachIsPile
    (λ q. (kept_pile p e.0 e.1 a.0 (ltb-true 0 (length (filter p e.1)) q), piles-kept p es a.1)) (λ q. piles-kept p es a.1)

-- the messages of the kept piles are those that pass
pub piled-kept : (p : Message → Bool) (es : Piles) → piled_messages (kept_piles p es) ≡ filter p (piled_messages es)
unfolding kept_piles
piled-kept p [] = refl
piled-kept p (e ∷ es) =
    let rest = piled-kept p es in
    let here = filter-append p e.1 (piled_messages es) in
    cond_both (nat_lt 0 (length (filter p e.1))) ((e.0, filter p e.1) ∷ kept_piles p es) (kept_piles p es) (λ fs. piled_messages fs ≡ filter p (piled_messages (e ∷ es)))
    (λ q. ap (λ ys. filter p e.1 ++ ys) rest ∙ sym here)
    (λ q.
    let nothing : filter p e.1 ≡ [] = nil_from_length (filter p e.1) (let l = ltb-false 0 (length (filter p e.1)) q in omega arith) in
    rest ∙ sym (here ∙ ap (λ xs. xs ++ filter p (piled_messages es)) nothing))

-- ---- in order, and without messages

-- what is in order ascends
pub ascending_from : (xs : List Message) → sorted_messages xs ≡ xs → IsAscendingMessages xs
ascending_from xs e = subst IsAscendingMessages e (ascending-sorted_messages xs)

ascending-append : (xs ys : List Message) → IsAscendingMessages xs → IsAscendingMessages ys
    → AllByRecursion (λ x. AllByRecursion (λ y. is_gt (message_cmp x y) ≡ false) ys) xs → IsAscendingMessages (xs ++ ys)
unfolding IsAscendingMessages
ascending-append [] ys s t a = t
ascending-append (x ∷ xs) ys s t a =
    (each-append (λ y. is_gt (message_cmp x y) ≡ false) xs ys s.0 a.0, ascending-append xs ys s.1 t a.1)

ascending-piled : (es : Piles) → ArePiles es → IsAscendingMessages (piled_messages es)
ascending-piled [] a = ascending_from [] refl
ascending-piled (e ∷ es) a =
    let later = sorted_head stamp_cmp e.0 (keys_of es) a.ordered in
    ascending-append e.1 (piled_messages es) (ascending_from e.1 a.each.0.ascending) (ascending-piled es (rest_piles e es a))
    (each-weaker (λ m. m.at ≡ e.0) (λ m. AllByRecursion (λ y. is_gt (message_cmp m y) ≡ false) (piled_messages es)) e.1
    (λ m k. each-weaker (λ y. message_cmp m y ≡ Less) (λ y. is_gt (message_cmp m y) ≡ false) (piled_messages es) (λ y l. ap is_gt l) (piles_later m e.0 es k later a.each.1)) a.each.0.there)

-- the messages of piles are in order
pub piled-in_order : (es : Piles) → ArePiles es → sorted_messages (piled_messages es) ≡ piled_messages es
piled-in_order es a = sorted_messages-ascending (piled_messages es) (ascending-piled es a)

pub appended_none : (xs ys : List Message) → xs ++ ys ≡ [] → xs ≡ []
appended_none [] ys e = refl
appended_none (x ∷ xs) ys e = absurd (cc)

-- ---- what is done to one pile

pub single_pile : (m : Message) → IsPile m.at (m ∷ [])
single_pile m = record { some = λ e. cc; ascending = refl; there = (refl, tt) }

-- a pile with one more message at its stamp
pub pile_with : (m : Message) (v : List Message) → IsPile m.at v → IsPile m.at (with_message m v)
pile_with m v a =
    let sorted : with_message m v ≡ sorted_messages (m ∷ v) = ap (with_message m) (sym a.ascending) in
    record {
      some = with_message-some m v;
      ascending = ap sorted_messages sorted ∙ sorted_messages-twice (m ∷ v) ∙ sym sorted;
      there = each-with_message (λ x. x.at ≡ m.at) m v refl a.there;
    }

-- a pile without its first message, if it has others
pub pile_rest : (t : Stamp) (v : List Message) → IsPile t v → drop 1 v ≢ [] → IsPile t (drop 1 v)
unfolding IsAscendingMessages
pile_rest t [] a n = a
pile_rest t (m ∷ v) a n = record { some = n; ascending = sorted_messages-ascending v (ascending_from (m ∷ v) a.ascending).1; there = a.there.1 }

remove_cases : (test : Stamp → Bool) (e : Stamp × List Message) (es : Piles) (w : List Message) → remove_entry test (set_value test es w) ≡ remove_entry test es
    → (b : Bool) → test e.0 ≡ b → remove_entry test (cond b ((e.0, w) ∷ es) (e ∷ set_value test es w)) ≡ cond b es (e ∷ remove_entry test es)
remove_cases test e es w ih true h = cond-true (test e.0) es ((e.0, w) ∷ remove_entry test es) h
remove_cases test e es w ih false h = cond-false (test e.0) (set_value test es w) (e ∷ remove_entry test (set_value test es w)) h ∙ ap (λ fs. e ∷ fs) ih

-- what is written and then removed
pub remove-set_value : (test : Stamp → Bool) (es : Piles) (w : List Message) → remove_entry test (set_value test es w) ≡ remove_entry test es
remove-set_value test [] w = refl
remove-set_value test (e ∷ es) w = remove_cases test e es w (remove-set_value test es w) (test e.0) refl

-- the message that was taken from a pile is gone once
pub taken_at : (t : Stamp) (v left : List Message) (es : Piles) (after : List Message) (r : Option Message) → ArePiles es → lookup (at_stamp t) es ≡ Some v → left ≡ drop 1 v
    → r ≡ slice_get v 0 → after ≡ piled_messages (set_value (at_stamp t) es left) → IfSome r (λ m. after ≡ messages_without m (piled_messages es))
taken_at t [] left es after r a h l k n = rw k tt
taken_at t (m ∷ v) left es after r a h l k n =
    let at : m.at ≡ t = (pile_found t (m ∷ v) es a.each h).there.0 in
    let taken = piled-take m v es a (subst (λ s. lookup (at_stamp s) es ≡ Some (m ∷ v)) (sym at) h) in
    rw k (n ∙ ap (λ xs. piled_messages (set_value (at_stamp t) es xs)) l ∙ ap (λ s. piled_messages (set_value (at_stamp s) es v)) (sym at) ∙ taken)

-- a pile gives a message
pub not_none : (P : Type 0) (v : List Message) (r : Option Message) → v ≢ [] → r ≡ slice_get v 0 → IfNone r P
not_none P [] r n k = absurd (n refl)
not_none P (m ∷ v) r n k = rw k tt

-- ---- messages put in one after the other

-- ---- many are put in

-- none is yet
pub put_after-none : (messages old : List Message) → ArePutAfter messages messages old old
put_after-none messages old = record { put = []; split = sym (append-nil messages); there = refl }

-- the last one that is left is put in
pub put_after-more : (rest left messages old between : List Message) (m : Message) (new : List Message) → rest ≡ left ++ m ∷ [] → new ≡ with_message m between
    → ArePutAfter rest messages old between → ArePutAfter left messages old new
put_after-more rest left messages old between m new is n a = record {
  put = m ∷ a.put;
  split = a.split ∙ ap (λ xs. xs ++ a.put) is ∙ append_assoc left (m ∷ []) a.put;
  there = n ∙ ap (with_message m) a.there;
}

-- ---- the stamps

counted_apart : (t : Stamp) (cs : List (Stamp × ℕ)) → AllByRecursion (λ (e : Stamp × ℕ). same t e.0 ≡ false) cs → counted_before t cs ≡ (t, 1) ∷ cs
counted_apart t [] a = refl
counted_apart t (e ∷ cs) a = cond-false (same t e.0) ((e.0, e.1 + 1) ∷ cs) ((t, 1) ∷ e ∷ cs) a.0

counted_pile : (t : Stamp) (x : Message) (xs ys : List Message) → AllByRecursion (λ m. m.at ≡ t) (x ∷ xs) → AllByRecursion (λ (e : Stamp × ℕ). same t e.0 ≡ false) (counted_stamps ys)
    → counted_stamps (x ∷ xs ++ ys) ≡ (t, length (x ∷ xs)) ∷ counted_stamps ys
counted_pile t x [] ys h a = ap (λ s. counted_before s (counted_stamps ys)) h.0 ∙ counted_apart t (counted_stamps ys) a
counted_pile t x (y ∷ xs) ys h a =
    let n = length (y ∷ xs) in
    ap (λ s. counted_before s (counted_stamps (y ∷ xs ++ ys))) h.0
    ∙ ap (counted_before t) (counted_pile t y xs ys h.1 a)
    ∙ cond-true (same t t) ((t, n + 1) ∷ counted_stamps ys) ((t, 1) ∷ (t, n) ∷ counted_stamps ys) (same-refl t)
    ∙ ap (λ k. (t, k) ∷ counted_stamps ys) (omega arith)

lengths_apart : (t : Stamp) (es : Piles) → AllByRecursion (λ s. stamp_cmp t s ≡ Less) (keys_of es) → AllByRecursion (λ (e : Stamp × ℕ). same t e.0 ≡ false) (map (λ (pile : Stamp × List Message). (pile.0, length pile.1)) es)
lengths_apart t [] a = tt
lengths_apart t (e ∷ es) a = (sym (stamp_test t e.0) ∙ ap is_eq a.0, lengths_apart t es a.1)

-- the stamps of the messages are those of the piles, with their lengths
pub counted-piled : (es : Piles) → ArePiles es → map (λ (pile : Stamp × List Message). (pile.0, length pile.1)) es ≡ counted_stamps (piled_messages es)
counted-piled [] a = refl
counted-piled (e ∷ es) a =
    let rest = counted-piled es (rest_piles e es a) in
    let apart = subst (AllByRecursion (λ (c : Stamp × ℕ). same e.0 c.0 ≡ false)) rest (lengths_apart e.0 es (sorted_head stamp_cmp e.0 (keys_of es) a.ordered)) in
    ap (λ cs. (e.0, length e.1) ∷ cs) rest ∙ by e.1 a.each.0.some a.each.0.there apart
  where
    by : (v : List Message) → v ≢ [] → AllByRecursion (λ m. m.at ≡ e.0) v → AllByRecursion (λ (c : Stamp × ℕ). same e.0 c.0 ≡ false) (counted_stamps (piled_messages es))
        → (e.0, length v) ∷ counted_stamps (piled_messages es) ≡ counted_stamps (v ++ piled_messages es)
    by [] n h q = absurd (n refl)
    by (x ∷ xs) n h q = sym (counted_pile e.0 x xs (piled_messages es) h q)
