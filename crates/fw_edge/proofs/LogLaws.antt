-- Messages in the order of appending, and in order.
use Rattle.std.proofs.Common.{◌≡◌, ℕ, zero, suc, ◌+◌, ◌-◌, ◌≤◌, ◌<◌, ◌&&◌, ◌||◌, Bool, true, false, not, cond, List, [], ◌∷◌, ◌++◌, length, filter, take, drop, take_all, Some, refl, sym, ap, subst, ◌∙◌, ◌⊎◌, inl, inr, get_or, arith}
use Rattle.std.specs.Prelude.{slice_get}
use Rattle.std.specs.List.{fold, AllByRecursion, AllWithin, list_all, list_any}
use Rattle.std.specs.List.Sorted.{IsPermutation, IsSorted, IsPartitionedBy}
use Rattle.std.specs.declared.cmp.Ordering.{Ordering}
use Rattle.std.specs.declared.cmp.Ordering.TheVariants.{Less, Equal, Greater}
use Rattle.std.specs.Ordering.{ordering_reverse, is_lt, is_gt}
use Rattle.std.proofs.lemmas.Bool.{false≢true, both_ways, not-true, and_from, and_parts, or_parts, true_from_ne_false, cases_lt}
use Rattle.std.proofs.Math.Seq.{get_or-append_seam}
use Rattle.std.proofs.lemmas.Cmp.{upto}
use Rattle.std.proofs.lemmas.List.{length-append, length-drop, get_or_append_left}
use Rattle.std.proofs.lemmas.List.Kept.{AllPairs-filter}
use Rattle.std.proofs.lemmas.List.Quantifiers.{all_pairs_push}
use Rattle.std.proofs.lemmas.Option.{get_or_from_slice_get}
use Rattle.std.proofs.lemmas.List.Sorted.{sum_by-IsPermutation}
use Rattle.fw_lemmas.proofs.Each.{each-weaker}
use Rattle.fw_time.specs.Stamp.{Stamp, leq}
use Rattle.fw_time.proofs.StampLaws.{leq-refl}
use Rattle.fw_frontier.specs.Front.{Front, inside}
use Rattle.fw_frontier.proofs.InsideLaws.{inside-closed}
use Rattle.fw_flow.specs.declared.event.Message.{Message}
use Rattle.fw_flow.specs.Message.{message_cmp}
use Rattle.fw_flow.specs.Projection.{all_inside}
use Rattle.fw_flow.proofs.MessageLaws.{message_total}
use Rattle.fw_model.specs.SortedMessages.{with_message, sorted_messages}
use Rattle.fw_model.proofs.SentLaws.{copy}
use Rattle.fw_model.proofs.SortedLaws.{IsAscendingMessages, same_sorted_messages, sorted_messages-ascending, sorted_messages-filter}
use Rattle.fw_model.proofs.WeightLaws.{weigh, weigh-append}
use Rattle.fw_edge.specs.Causes.{ComesNoLater, ComeInTurn}
use Rattle.fw_edge.proofs.PileLaws.{with_message-some}
use Rattle.fw_edge.proofs.PiledLaws.{ascending_from}

-- a message appended is one put in, in order
pub sorted_messages-appended : (xs : List Message) (m : Message) → sorted_messages (xs ++ m ∷ []) ≡ with_message m (sorted_messages xs)
unfolding weigh
sorted_messages-appended xs m = same_sorted_messages (xs ++ m ∷ []) (m ∷ xs) (λ q. let a = weigh-append (copy q) xs (m ∷ []) in omega arith)

-- no messages in order are no messages
pub sorted_messages-none : (xs : List Message) → sorted_messages xs ≡ [] → xs ≡ []
sorted_messages-none [] e = refl
sorted_messages-none (x ∷ xs) e = absurd (with_message-some x (sorted_messages xs) e)

-- ---- one more after ascending messages

-- the first of two messages is not greater than those that ascend from the second
ascending-before : (x y : Message) (ys : List Message) → is_gt (message_cmp x y) ≡ false → IsAscendingMessages (y ∷ ys) → IsAscendingMessages (x ∷ y ∷ ys)
unfolding IsAscendingMessages
ascending-before x y ys h a =
    ((h, each-weaker (λ z. is_gt (message_cmp y z) ≡ false) (λ z. is_gt (message_cmp x z) ≡ false) ys (λ z k. upto message_total x y z h k) a.0), a)

ascending-appended : (l m : Message) (xs : List Message) (n : ℕ) → IsAscendingMessages xs → n + 1 ≡ length xs → slice_get xs n ≡ Some l → is_gt (message_cmp l m) ≡ false
    → IsAscendingMessages (xs ++ m ∷ [])
unfolding IsAscendingMessages
ascending-appended l m [] n a long e h = absurd (omega arith)
ascending-appended l m (x ∷ []) zero a long e h =
    let is : x ≡ l = cc in
    ((subst (λ z. is_gt (message_cmp z m) ≡ false) (sym is) h, tt), (tt, tt))
ascending-appended l m (x ∷ []) (suc n) a long e h = absurd (omega arith)
ascending-appended l m (x ∷ y ∷ ys) zero a long e h = absurd (omega arith)
ascending-appended l m (x ∷ y ∷ ys) (suc n) a long e h = ascending-before x y (ys ++ m ∷ []) a.0.0 (ascending-appended l m (y ∷ ys) n a.1 (omega arith) e h)

-- messages in order stay so with one more that their last one is not greater than
pub in_order-appended : (l m : Message) (xs : List Message) → sorted_messages xs ≡ xs → slice_get xs (length xs - 1) ≡ Some l → is_gt (message_cmp l m) ≡ false
    → sorted_messages (xs ++ m ∷ []) ≡ xs ++ m ∷ []
in_order-appended l m [] s e h = absurd (cc)
in_order-appended l m (x ∷ xs) s e h =
    sorted_messages-ascending (x ∷ xs ++ m ∷ []) (ascending-appended l m (x ∷ xs) (length (x ∷ xs) - 1) (ascending_from (x ∷ xs) s) (omega arith) e h)

last-appended : (l m : Message) (xs : List Message) (n : ℕ) → IsAscendingMessages (xs ++ m ∷ []) → n + 1 ≡ length xs → slice_get xs n ≡ Some l → is_gt (message_cmp l m) ≡ false
unfolding IsAscendingMessages
last-appended l m [] n a long e = absurd (omega arith)
last-appended l m (x ∷ []) zero a long e = let is : x ≡ l = cc in subst (λ z. is_gt (message_cmp z m) ≡ false) is a.0.0
last-appended l m (x ∷ []) (suc n) a long e = absurd (omega arith)
last-appended l m (x ∷ y ∷ ys) zero a long e = absurd (omega arith)
last-appended l m (x ∷ y ∷ ys) (suc n) a long e = last-appended l m (y ∷ ys) n a.1 (omega arith) e

-- the last of messages is not greater than one more, where they are in order with it
pub appended-in_order : (l m : Message) (xs : List Message) → sorted_messages (xs ++ m ∷ []) ≡ xs ++ m ∷ [] → slice_get xs (length xs - 1) ≡ Some l → is_gt (message_cmp l m) ≡ false
appended-in_order l m [] s e = absurd (cc)
appended-in_order l m (x ∷ xs) s e = last-appended l m (x ∷ xs) (length (x ∷ xs) - 1) (ascending_from (x ∷ xs ++ m ∷ []) s) (omega arith) e

-- ---- what is sorted

not_greater : (o p : Ordering) → o ≡ ordering_reverse p → is_lt p ≡ false → is_gt o ≡ false
not_greater o Less e h = absurd (cc)
not_greater o Equal e h = ap is_gt e
not_greater o Greater e h = ap is_gt e

ascending-sorted : (xs : List Message) → IsSorted message_cmp xs → IsAscendingMessages xs
unfolding IsAscendingMessages
ascending-sorted [] s = tt
ascending-sorted (x ∷ []) s = (tt, tt)
ascending-sorted (x ∷ y ∷ ys) s =
    ascending-before x y ys (not_greater (message_cmp x y) (message_cmp y x) (message_total.antisymm x y) (s 0 x (omega arith) (omega arith)))
    (ascending-sorted (y ∷ ys)
    (λ k d z h. let e : suc (k + 1) ≡ suc k + 1 = omega arith in
    ap (λ i. is_lt (message_cmp (get_or (x ∷ y ∷ ys) i d) (get_or (y ∷ ys) k d))) e ∙ s (suc k) d (omega arith) (omega arith)))

weighed-from : (w : Message → ℕ) (n : ℕ) (xs : List Message) → fold (λ a x. a + w x) n xs ≡ n + weigh w xs
unfolding weigh
weighed-from w n [] = omega arith
weighed-from w n (x ∷ xs) = let h = weighed-from w (n + w x) xs in omega arith

-- in another order they weigh the same
pub permuted-weigh : (w : Message → ℕ) (xs ys : List Message) → IsPermutation xs ys → weigh w ys ≡ weigh w xs
permuted-weigh w xs ys p =
    let a = weighed-from w 0 xs in
    let b = weighed-from w 0 ys in
    let c = sum_by-IsPermutation w xs ys p in
    omega arith

-- messages that were sorted are in order
pub in_order-sorted : (xs ys : List Message) → IsPermutation xs ys → IsSorted message_cmp ys → ys ≡ sorted_messages xs
in_order-sorted xs ys p s =
    sym (same_sorted_messages xs ys (λ q. sym (permuted-weigh (copy q) xs ys p)) ∙ sorted_messages-ascending ys (ascending-sorted ys s))

-- ---- what passes a test

-- of messages in order what passes is in order
pub in_order-filter : (test : Message → Bool) (xs ys : List Message) → ys ≡ filter test xs → sorted_messages xs ≡ xs → sorted_messages ys ≡ ys
in_order-filter test xs ys is s = subst (λ (zs : List Message). sorted_messages zs ≡ zs) (sym is) (sorted_messages-filter test xs ∙ ap (filter test) s)

-- what passes both of two tests is what passes the one of what passes the other
pub filter-both : {A : Type 0} (a b : A → Bool) (xs : List A) → filter (λ x. a x && b x) xs ≡ filter a (filter b xs)
filter-both a b [] = refl
filter-both a b (x ∷ xs) = by (a x) (b x) refl (filter-both a b xs)
  where
    by : (c d : Bool) → a x ≡ c → filter (λ y. a y && b y) xs ≡ filter a (filter b xs)
        → cond (c && d) (x ∷ filter (λ y. a y && b y) xs) (filter (λ y. a y && b y) xs) ≡ filter a (cond d (x ∷ filter b xs) (filter b xs))
    by true true e h = ap (λ ys. x ∷ ys) h ∙ sym (ap (λ k. cond k (x ∷ filter a (filter b xs)) (filter a (filter b xs))) e)
    by false true e h = h ∙ sym (ap (λ k. cond k (x ∷ filter a (filter b xs)) (filter a (filter b xs))) e)
    by true false e h = h
    by false false e h = h

-- of all messages those that pass were copied
pub copied-all : (test : Message → Bool) (n : ℕ) (items xs copies : List Message) → items ≡ xs → length items ≤ n → copies ≡ filter test (take n items)
    → copies ≡ filter test xs
copied-all test n items xs copies same past is = is ∙ ap (filter test) (take_all n items past ∙ same)

-- ---- which message comes later

-- a stamp that is at most one of those inside is inside
below-some : (f : Front) (s : Stamp) (others : List Stamp) → list_any (leq s) others ≡ true → all_inside (inside f) others ≡ true → inside f s ≡ true
below-some f s [] h k = absurd (false≢true h)
below-some f s (o ∷ os) h k = by (leq s o) refl h (λ later. below-some f s os later (and_parts _ _ k).1)
  where
    by : (b : Bool) → leq s o ≡ b → (b || list_any (leq s) os) ≡ true → (list_any (leq s) os ≡ true → inside f s ≡ true) → inside f s ≡ true
    by true e h r = inside-closed f s o e (and_parts _ _ k).0
    by false e h r = r h

-- causes each of which is at most one of those inside are inside
no_later : (f : Front) (ss others : List Stamp) → list_all (λ s. list_any (leq s) others) ss ≡ true → all_inside (inside f) others ≡ true
    → all_inside (inside f) ss ≡ true
no_later f [] others h k = refl
no_later f (s ∷ ss) others h k = and_from _ _ (below-some f s others (and_parts _ _ h).0 k) (no_later f ss others (and_parts _ _ h).1 k)

-- the same of lists that are read
pub no_later-read : (f : Front) (ss others cs ds : List Stamp) (b : Bool) → b ≡ list_all (λ s. list_any (leq s) others) ss → ss ≡ cs → others ≡ ds → b ≡ true
    → all_inside (inside f) ds ≡ true → all_inside (inside f) cs ≡ true
no_later-read f ss others cs ds b is causes later t i =
    subst (λ (xs : List Stamp). all_inside (inside f) xs ≡ true) causes
    (no_later f ss others (sym is ∙ t) (subst (λ (xs : List Stamp). all_inside (inside f) xs ≡ true) (sym later) i))

-- stamps none of which a stamp is at most are inside the front that has the stamp alone outside
apart-inside : (s : Stamp) (others : List Stamp) → list_any (leq s) others ≡ false → all_inside (inside (s ∷ [])) others ≡ true
apart-inside s [] e = refl
apart-inside s (o ∷ os) e = let k = or_parts (leq s o) (list_any (leq s) os) e in and_from _ _ (and_from _ _ (ap not k.0) refl) (apart-inside s os k.1)

-- a stamp that is inside wherever others are is at most one of them
below-known : (s : Stamp) (others : List Stamp) → (all_inside (inside (s ∷ [])) others ≡ true → inside (s ∷ []) s ≡ true) → list_any (leq s) others ≡ true
below-known s others h = true_from_ne_false (list_any (leq s) others) (λ e.
    both_ways (leq s s) (not-true (leq s s) (and_parts _ _ (h (apart-inside s others e))).0) (leq-refl s))

-- causes that are inside wherever others are, are each at most one of them
each-below : (ss others : List Stamp) → ((f : Front) → all_inside (inside f) others ≡ true → all_inside (inside f) ss ≡ true)
    → list_all (λ s. list_any (leq s) others) ss ≡ true
each-below [] others h = refl
each-below (s ∷ ss) others h =
    and_from _ _ (below-known s others (λ k. (and_parts _ _ (h (s ∷ []) k)).0)) (each-below ss others (λ f k. (and_parts _ _ (h f k)).1))

-- the same of lists that are read
pub no_later-known : (ss others cs ds : List Stamp) (b : Bool) → b ≡ list_all (λ s. list_any (leq s) others) ss → ss ≡ cs → others ≡ ds
    → ((f : Front) → all_inside (inside f) ds ≡ true → all_inside (inside f) cs ≡ true) → b ≡ true
no_later-known ss others cs ds b is causes later h =
    is ∙ each-below ss others (λ f k.
    subst (λ (xs : List Stamp). all_inside (inside f) xs ≡ true) (sym causes)
    (h f (subst (λ (xs : List Stamp). all_inside (inside f) xs ≡ true) later k)))

-- of messages in turn with one more the last one comes no later than it
pub appended-in_turn : (l m : Message) (xs : List Message) → ComeInTurn (xs ++ m ∷ []) → slice_get xs (length xs - 1) ≡ Some l → ComesNoLater l m
appended-in_turn l m [] t e = absurd (cc)
appended-in_turn l m (x ∷ xs) t e =
    let ys = x ∷ xs in
    let low : get_or (ys ++ m ∷ []) (length ys - 1) l ≡ l =
    get_or_append_left ys (m ∷ []) l (length ys - 1) (omega arith) ∙ get_or_from_slice_get ys (length ys - 1) l l e in
    let high : get_or (ys ++ m ∷ []) (length ys) l ≡ m = get_or-append_seam ys m [] l in
    let long = length-append ys (m ∷ []) in
    subst (λ z. ComesNoLater z m) low
    (subst (λ z. ComesNoLater (get_or (ys ++ m ∷ []) (length ys - 1) l) z) high (t (length ys - 1) (length ys) l (omega arith) (omega arith)))

-- messages in turn stay so with one more, if their last one comes no later than it
pub in_turn-appended : (l m : Message) (xs : List Message) → ComeInTurn xs → slice_get xs (length xs - 1) ≡ Some l → ComesNoLater l m → ComeInTurn (xs ++ m ∷ [])
in_turn-appended l m xs t e h = all_pairs_push ComesNoLater xs m t (λ k d there. by k d there (cases_lt k (length xs - 1)))
  where
    last : (d : Message) → 0 < length xs → get_or xs (length xs - 1) d ≡ l
    last d some = get_or_from_slice_get xs (length xs - 1) l d e

    by : (k : ℕ) (d : Message) → k < length xs → (k < length xs - 1) ⊎ (length xs - 1 ≤ k) → ComesNoLater (get_or xs k d) m
    by k d there (inl before) = λ f i. t k (length xs - 1) d before (omega arith) f (subst (λ (x : Message). all_inside (inside f) x.causes ≡ true) (sym (last d (omega arith))) (h f i))
    by k d there (inr at) =
        let is : k ≡ length xs - 1 = omega arith in
        subst (λ (x : Message). ComesNoLater x m) (sym (ap (λ i. get_or xs i d) is ∙ last d (omega arith))) h

-- of messages in turn those from inside a front come first
pub in_turn-parted : (f : Front) (xs : List Message) → ComeInTurn xs → IsPartitionedBy (λ (m : Message). all_inside (inside f) m.causes) xs
in_turn-parted f xs t i j d le there h = by (cases_lt i j)
  where
    by : (i < j) ⊎ (j ≤ i) → all_inside (inside f) (get_or xs i d).causes ≡ true
    by (inl before) = t i j d before there f h
    by (inr at) = let is : j ≡ i = omega arith in subst (λ k. all_inside (inside f) (get_or xs k d).causes ≡ true) is h

-- of messages in turn what passes is in turn
pub in_turn-filter : (test : Message → Bool) (xs ys : List Message) → ys ≡ filter test xs → ComeInTurn xs → ComeInTurn ys
in_turn-filter test xs ys is t = subst ComeInTurn (sym is) (AllPairs-filter ComesNoLater test xs t)

-- what holds of each before a place
pub each-before : {A : Type 0} (P : A → Type 0) (n : ℕ) (xs : List A) → ((k : ℕ) (d : A) → k < n → k < length xs → P (get_or xs k d)) → AllByRecursion P (take n xs)
each-before P zero xs h = tt
each-before P (suc n) [] h = tt
each-before P (suc n) (x ∷ xs) h = (h 0 x (omega arith) (omega arith), each-before P n xs (λ k d l m. h (suc k) d (omega arith) (omega arith)))

-- where none before a place passes, what passes comes from there on
past_none : {A : Type 0} (test : A → Bool) (n : ℕ) (xs : List A) → AllByRecursion (λ x. test x ≡ false) (take n xs) → filter test (drop n xs) ≡ filter test xs
past_none test zero xs h = refl
past_none test (suc n) [] h = refl
past_none test (suc n) (x ∷ xs) h = past_none test n xs h.1 ∙ sym (ap (λ b. cond b (x ∷ filter test xs) (filter test xs)) h.0)

-- where the test holds of each before a place, those of which it does not come from there on
pub since-found : {A : Type 0} (test : A → Bool) (n : ℕ) (xs : List A) → AllWithin (λ x. test x ≡ true) xs 0 n
    → filter (λ x. not (test x)) (take (length xs - n) (drop n xs)) ≡ filter (λ x. not (test x)) xs
since-found test n xs before =
    let rest : take (length xs - n) (drop n xs) ≡ drop n xs = take_all (length xs - n) (drop n xs) (let l = length-drop n xs in omega arith) in
    ap (filter (λ x. not (test x))) rest
    ∙ past_none (λ x. not (test x)) n xs (each-before (λ x. not (test x) ≡ false) n xs (λ k d l m. ap not (before k d (omega arith) l)))

-- what passes both of two tests is what passes the second one of what passes the first
filter-then : {A : Type 0} (a b : A → Bool) (xs : List A) → filter (λ x. a x && b x) xs ≡ filter b (filter a xs)
filter-then a b [] = refl
filter-then a b (x ∷ xs) = by (a x) (b x) refl (filter-then a b xs)
  where
    by : (c d : Bool) → b x ≡ d → filter (λ y. a y && b y) xs ≡ filter b (filter a xs)
        → cond (c && d) (x ∷ filter (λ y. a y && b y) xs) (filter (λ y. a y && b y) xs) ≡ filter b (cond c (x ∷ filter a xs) (filter a xs))
    by true true e h = ap (λ ys. x ∷ ys) h ∙ sym (ap (λ k. cond k (x ∷ filter b (filter a xs)) (filter b (filter a xs))) e)
    by true false e h = h ∙ sym (ap (λ k. cond k (x ∷ filter b (filter a xs)) (filter b (filter a xs))) e)
    by false true e h = h
    by false false e h = h

-- of all messages those that pass were copied, where among some are all that pass the first test
pub copied-since : (since from : Message → Bool) (ys zs xs copies : List Message) → copies ≡ filter (λ m. since m && from m) ys → filter since ys ≡ filter since zs → zs ≡ xs
    → copies ≡ filter (λ m. since m && from m) xs
copied-since since from ys zs xs copies is same kept =
    is ∙ filter-then since from ys ∙ ap (filter from) (same ∙ ap (filter since) kept) ∙ sym (filter-then since from xs)
