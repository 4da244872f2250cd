-- What the loops of a collection leave.
use Rattle.std.proofs.Common.{◌≡◌, ℕ, ◌+◌, ◌-◌, ◌<◌, nat_lt, Bool, true, false, not, ◌&&◌, ◌||◌, ◌==◌, cond, List, [], ◌∷◌, ◌++◌, length, map, take, get_or, set, length-set, Option, refl, sym, ap, ◌∙◌, inl, inr, arith}
use Rattle.std.proofs.lemmas.Bool.{cases_Bool, cases_lt, cases_eq, eq-eqb, eqb-true, ne_eqb, true≢false, false_from_ne_true, cond-true, cond-false, not_from_true, not_from_false, or_left, or_right, or_from}
use Rattle.std.proofs.lemmas.List.{get_or-set_same, get_or-set_other, get_or_past, take_more}
use Rattle.std.proofs.lemmas.List.Folds.{list_any-append, list_any_more}
use Rattle.std.specs.List.{filter, list_any}
use Rattle.std.proofs.Math.Bool.{or-false}
use Rattle.fw_lemmas.proofs.Bools.{or_swap}
use Rattle.fw_lemmas.proofs.Filters.{filter-in, filter-out}
use Rattle.fw_keep.specs.declared.entry.Entry.{Entry}
use Rattle.fw_keep.specs.Catalogue.{KeepState, is_id_among, has_entry, ids_of, without}
use Rattle.fw_keep.specs.Entry.{is_checkpoint, is_checkpoint_below, is_entry_below}
use Rattle.fw_keep.specs.Newest.{is_checkpoint_of, is_forgotten_below, stay_from, whole_or}
use Rattle.fw_keep.specs.Stored.{Records, IsStored}
use Rattle.fw_bag.specs.declared.rec.Rec.{Rec}
use Rattle.fw_frontier.specs.Front.{Front, inside}
use Rattle.fw_flow.specs.declared.choice.OfEdge.{OfEdge}
use Rattle.fw_flow.specs.declared.event.Message.{Message}
use Rattle.fw_edge.specs.Messages.{MessagesState}
use Rattle.fw_border.specs.Sources.{SourceState, unused_source, source_at, with_source, given_up}
use Rattle.fw_collect.specs.declared.drops.OfNode.{OfNode}
use Rattle.fw_collect.specs.LawsOfCollections.{ForgetsBelowEach}
use Rattle.fw_collect.specs.Dropped.{Forgets, is_below_some, log_at_place, log_outside, with_log_outside, log_left, is_inside_edge, is_inside_node, source_left}

or_none : (a b : Bool) → (a || b) ≡ false → (a ≡ false) × (b ≡ false)
or_none true b h = absurd (true≢false h)
or_none false b h = (refl, h)

-- ---- filters

-- two filters after each other take out what either takes out
pub filter_then : {X : Type 0} (p q r : X → Bool) → ((x : X) → r x ≡ (p x || q x)) → (xs : List X)
    → filter (λ x. not (q x)) (filter (λ x. not (p x)) xs) ≡ filter (λ x. not (r x)) xs
filter_then p q r e [] = refl
filter_then {X = X} p q r e (x ∷ xs) =
    let j : X → Bool = λ y. not (q y) in
    let k : X → Bool = λ y. not (p y) in
    let l : X → Bool = λ y. not (r y) in
    let rest : filter j (filter k xs) ≡ filter l xs = filter_then p q r e xs in
    elim (cases_Bool (p x)) [
      | inl a ↦ ap (filter j) (filter-out k x xs (not_from_true (p x) a)) ∙ rest
          ∙ sym (filter-out l x xs (not_from_true (r x) (e x ∙ or_left (p x) (q x) a)))
      | inr a ↦ ap (filter j) (filter-in k x xs (not_from_false (p x) a)) ∙ elim (cases_Bool (q x)) [
        | inl b ↦ filter-out j x (filter k xs) (not_from_true (q x) b) ∙ rest
            ∙ sym (filter-out l x xs (not_from_true (r x) (e x ∙ or_right (p x) (q x) b)))
        | inr b ↦ filter-in j x (filter k xs) (not_from_false (q x) b) ∙ ap (λ ys. x ∷ ys) rest
            ∙ sym (filter-in l x xs (not_from_false (r x) (e x ∙ or_from (p x) (q x) a b)))
      ]
    ]

-- a filter that takes nothing out
pub filter_nothing : {X : Type 0} (xs : List X) → filter (λ x. not false) xs ≡ xs
filter_nothing [] = refl
filter_nothing (x ∷ xs) = ap (λ ys. x ∷ ys) (filter_nothing xs)

-- ---- entries

or-assoc : (a b c : Bool) → ((a || b) || c) ≡ (a || (b || c))
or-assoc true b c = refl
or-assoc false b c = refl

or-twice : (a b : Bool) → ((a || b) || b) ≡ (a || b)
or-twice true b = refl
or-twice false true = refl
or-twice false false = refl

-- what either of two tests takes out in turn has the id where what both take out has it
gone-then : (f g h : Entry → Bool) → ((e : Entry) → h e ≡ (f e || g e)) → (id : ℕ) (es : List Entry)
    → (has_entry id (filter f es) || has_entry id (filter g (filter (λ e. not (f e)) es))) ≡ has_entry id (filter h es)
gone-then f g h is id [] = refl
gone-then f g h is id (e ∷ es) =
    let k : Entry → Bool = λ x. not (f x) in
    let rest = gone-then f g h is id es in
    let here : Bool = e.id == id in
    let A : Bool = has_entry id (filter f es) in
    let B : Bool = has_entry id (filter g (filter k es)) in
    let both : List Entry → List Entry → Bool = λ xs ys. has_entry id xs || has_entry id (filter g ys) in
    elim (cases_Bool (f e)) [
      | inl a ↦ ap (λ xs. both xs (filter k (e ∷ es))) (filter-in f e es a)
          ∙ ap (λ ys. both (e ∷ filter f es) ys) (filter-out k e es (not_from_true (f e) a))
          ∙ or-assoc here A B ∙ ap (λ b. here || b) rest
          ∙ sym (ap (has_entry id) (filter-in h e es (is e ∙ or_left (f e) (g e) a)))
      | inr a ↦ ap (λ xs. both xs (filter k (e ∷ es))) (filter-out f e es a)
          ∙ ap (λ ys. both (filter f es) ys) (filter-in k e es (not_from_false (f e) a))
          ∙ elim (cases_Bool (g e)) [
            | inl b ↦ ap (λ xs. A || has_entry id xs) (filter-in g e (filter k es) b)
                ∙ or_swap A here B ∙ ap (λ c. here || c) rest
                ∙ sym (ap (has_entry id) (filter-in h e es (is e ∙ or_right (f e) (g e) b)))
            | inr b ↦ ap (λ xs. A || has_entry id xs) (filter-out g e (filter k es) b)
                ∙ rest ∙ sym (ap (has_entry id) (filter-out h e es (is e ∙ or_from (f e) (g e) a b)))
          ]
    ]

-- nothing is gone at first
pub forgets_nothing : (keep : KeepState) → Forgets (λ e. false) keep keep
forgets_nothing keep = record {
  left = ap (λ es. record keep { entries = es }) (sym (filter_nothing keep.entries));
  waiting = λ id. sym (ap (λ es. is_id_among id keep.waiting || has_entry id es) (filter-none keep.entries) ∙ or-false (is_id_among id keep.waiting));
  stored = λ records s. s;
}
  where
    filter-none : (es : List Entry) → filter (λ e. false) es ≡ []
    filter-none [] = refl
    filter-none (e ∷ es) = filter-none es

-- what one call takes out
forgets-one : (goes : Entry → Bool) (old new : KeepState) → new ≡ without goes old
    → ((records : Option Records) → IsStored old records → IsStored new records) → Forgets goes old new
forgets-one goes old new is stored = record {
  left = is ∙ ap (λ ids. record old { entries = filter (λ e. not (goes e)) old.entries; waiting = ids }) (sym (ap (λ (k : KeepState). k.waiting) is));
  waiting = λ id. ap (λ (k : KeepState). is_id_among id k.waiting) is ∙ list_any-append (λ (other : ℕ). other == id) old.waiting (ids_of (filter goes old.entries));
  stored = stored;
}

-- what two calls take out, one after the other
pub forgets_then : (f g h : Entry → Bool) (a b c : KeepState) → ((e : Entry) → h e ≡ (f e || g e)) → Forgets f a b → Forgets g b c → Forgets h a c
forgets_then f g h a b c is one two =
    let k : Entry → Bool = λ e. not (f e) in
    let then : KeepState → KeepState = λ (keep : KeepState). record keep { entries = filter (λ e. not (g e)) keep.entries; waiting = c.waiting } in
    let found : ℕ → KeepState → Bool = λ id keep. has_entry id (filter g keep.entries) in
    record {
      left = two.left ∙ ap then one.left ∙ ap (λ es. record a { entries = es; waiting = c.waiting }) (filter_then f g h is a.entries);
      waiting = λ id. two.waiting id ∙ ap (λ w. w || found id b) (one.waiting id)
          ∙ ap (λ keep. (is_id_among id a.waiting || has_entry id (filter f a.entries)) || found id keep) one.left
          ∙ or-assoc (is_id_among id a.waiting) (has_entry id (filter f a.entries)) (has_entry id (filter g (filter k a.entries)))
          ∙ ap (λ w. is_id_among id a.waiting || w) (gone-then f g h is id a.entries);
      stored = λ records s. two.stored records (one.stored records s);
    }

-- one call more of a list of them
pub forgets_more : {D : Type 0} (goes : D → Entry → Bool) (ds : List D) (i : ℕ) (d : D) (first now next : KeepState) → i < length ds
    → Forgets (λ e. list_any (λ x. goes x e) (take i ds)) first now
    → next ≡ without (goes (get_or ds i d)) now
    → ((records : Option Records) → IsStored now records → IsStored next records)
    → Forgets (λ e. list_any (λ x. goes x e) (take (i + 1) ds)) first next
forgets_more goes ds i d first now next l so_far is stored =
    forgets_then (λ e. list_any (λ x. goes x e) (take i ds)) (goes (get_or ds i d)) (λ e. list_any (λ x. goes x e) (take (i + 1) ds)) first now next
    (λ e. list_any_more (λ x. goes x e) ds i d l) so_far (forgets-one (goes (get_or ds i d)) now next is stored)

-- ---- checkpoints

stay-passed : (p : ℕ) (f : Front) (whole last : ℕ) (e : Entry) (es : List Entry) → (e.node == p) ≡ false → stay_from p f whole last (e ∷ es) ≡ stay_from p f whole last es
stay-passed p f whole last e es apart =
    ap (λ b. cond (not (b && is_checkpoint e.written)) (stay_from p f whole last es) (cond (is_checkpoint_below f e.written) (stay_from p f (whole_or whole e) last es) (whole_or whole e))) apart

-- from which id on a node's checkpoints stay does not change where entries of other nodes go
stay-kept : (p : ℕ) (f : Front) (whole last : ℕ) (goes : Entry → Bool) → ((e : Entry) → (e.node == p) ≡ true → goes e ≡ false) → (es : List Entry)
    → stay_from p f whole last (filter (λ e. not (goes e)) es) ≡ stay_from p f whole last es
stay-kept p f whole last goes stays [] = refl
stay-kept p f whole last goes stays (e ∷ es) =
    let keeps : Entry → Bool = λ x. not (goes x) in
    let kept : List Entry = filter keeps es in
    let rest = stay-kept p f whole last goes stays es in
    let here = whole_or whole e in
    let below = is_checkpoint_below f e.written in
    let other = not (is_checkpoint_of p e) in
    elim (cases_Bool (goes e)) [
      | inl g ↦ ap (stay_from p f whole last) (filter-out keeps e es (not_from_true (goes e) g)) ∙ rest
          ∙ sym (stay-passed p f whole last e es (false_from_ne_true (e.node == p) (λ k. true≢false (sym g ∙ stays e k))))
      | inr g ↦ ap (stay_from p f whole last) (filter-in keeps e es (not_from_false (goes e) g))
          ∙ ap (λ n. cond other n (cond below (stay_from p f here last kept) here)) rest
          ∙ ap (λ n. cond other (stay_from p f whole last es) (cond below n here)) (stay-kept p f here last goes stays es)
    ]

-- what the fronts beside these nodes leave, one after the other
left_below : List OfNode → KeepState → KeepState
left_below [] keep = keep
left_below (d ∷ ds) keep = left_below ds (without (is_forgotten_below d.node d.front keep) keep)

left-entries : (ds : List OfNode) (keep : KeepState) → (left_below ds keep).entries ≡ filter (λ e. not (is_below_some ds keep e)) keep.entries
unfolding left_below
left-entries [] keep = sym (filter_nothing keep.entries)
left-entries (d ∷ ds) keep =
    let goes : Entry → Bool = is_forgotten_below d.node d.front keep in
    let left : KeepState = without goes keep in
    left-entries ds left ∙ filter_then goes (is_below_some ds left) (is_below_some (d ∷ ds) keep) (λ e. refl) keep.entries

left-next : (ds : List OfNode) (keep : KeepState) → (left_below ds keep).next ≡ keep.next
unfolding left_below
left-next [] keep = refl
left-next (d ∷ ds) keep = left-next ds (without (is_forgotten_below d.node d.front keep) keep)

-- one front more finds what the others left
below-last : (ds : List OfNode) (d : OfNode) (keep : KeepState) (e : Entry)
    → is_below_some (ds ++ d ∷ []) keep e ≡ (is_below_some ds keep e || is_forgotten_below d.node d.front (left_below ds keep) e)
unfolding left_below
below-last [] d keep e = or-false (is_forgotten_below d.node d.front keep e)
below-last (x ∷ ds) d keep e =
    let goes : Entry → Bool = is_forgotten_below x.node x.front keep in
    let left : KeepState = without goes keep in
    ap (λ b. goes e || b) (below-last ds d left e)
    ∙ sym (or-assoc (goes e) (is_below_some ds left e) (is_forgotten_below d.node d.front (left_below ds left) e))

-- one call more of those that take checkpoints out
pub forgets_below_more : (records : List OfNode) (i : ℕ) (d : OfNode) (first now next : KeepState) → i < length records
    → Forgets (is_below_some (take i records) first) first now
    → next ≡ without (is_forgotten_below (get_or records i d).node (get_or records i d).front now) now
    → ((all : Option Records) → IsStored now all → IsStored next all)
    → Forgets (is_below_some (take (i + 1) records) first) first next
forgets_below_more records i d first now next l so_far is stored =
    let one : OfNode = get_or records i d in
    let earlier : List OfNode = take i records in
    let goes : Entry → Bool = is_below_some earlier first in
    let found : ℕ → List Entry → Entry → Bool = λ n es e. is_entry_below one.node one.front e && nat_lt e.id (stay_from one.node one.front 0 n es) in
    let same : (e : Entry) → is_forgotten_below one.node one.front now e ≡ is_forgotten_below one.node one.front (left_below earlier first) e = λ e.
    ap (λ (k : KeepState). is_forgotten_below one.node one.front k e) so_far.left
    ∙ ap (λ es. found first.next es e) (sym (left-entries earlier first))
    ∙ ap (λ n. found n (left_below earlier first).entries e) (sym (left-next earlier first)) in
    forgets_then goes (is_forgotten_below one.node one.front now) (is_below_some (take (i + 1) records) first) first now next
    (λ e. ap (λ ds. is_below_some ds first e) (take_more records i d l) ∙ below-last earlier one first e ∙ ap (λ b. goes e || b) (sym (same e)))
    so_far (forgets-one (is_forgotten_below one.node one.front now) now next is stored)

-- ---- checkpoints of different nodes

-- what goes of a node's entries does not change where entries of another one went
others-alike : (d : OfNode) (keep : KeepState) (e : Entry) (x : OfNode) → (x.node == d.node) ≡ false
    → is_forgotten_below x.node x.front (without (is_forgotten_below d.node d.front keep) keep) e ≡ is_forgotten_below x.node x.front keep e
others-alike d keep e x apart =
    ap (λ n. is_entry_below x.node x.front e && nat_lt e.id n)
    (stay-kept x.node x.front 0 keep.next (is_forgotten_below d.node d.front keep)
    (λ other own.
    ap (λ b. (b && is_checkpoint_below d.front other.written) && nat_lt other.id (stay_from d.node d.front 0 keep.next keep.entries))
    (ap (λ n. n == d.node) (eqb-true other.node x.node own) ∙ apart))
    keep.entries)

each-alike : (d : OfNode) (keep : KeepState) (e : Entry) (xs : List OfNode) → is_id_among d.node (map (λ (x : OfNode). x.node) xs) ≡ false
    → list_any (λ (x : OfNode). is_forgotten_below x.node x.front (without (is_forgotten_below d.node d.front keep) keep) e) xs
    ≡ list_any (λ (x : OfNode). is_forgotten_below x.node x.front keep e) xs
each-alike d keep e [] apart = refl
each-alike d keep e (x ∷ xs) apart =
    let left : KeepState = without (is_forgotten_below d.node d.front keep) keep in
    let parts = or_none (x.node == d.node) (is_id_among d.node (map (λ (y : OfNode). y.node) xs)) apart in
    ap (λ b. b || list_any (λ (y : OfNode). is_forgotten_below y.node y.front left e) xs) (others-alike d keep e x parts.0)
    ∙ ap (λ b. is_forgotten_below x.node x.front keep e || b) (each-alike d keep e xs parts.1)

-- where the nodes are different each front finds of its node what was there at first
pub forgets_below_each : ForgetsBelowEach
forgets_below_each [] keep e once = refl
forgets_below_each (d ∷ ds) keep e once =
    ap (λ b. is_forgotten_below d.node d.front keep e || b)
    (forgets_below_each ds (without (is_forgotten_below d.node d.front keep) keep) e once.1 ∙ each-alike d keep e ds once.0)

-- ---- events

-- one more of a list that is the one before it
pub forgets_again : {D : Type 0} (goes : D → Entry → Bool) (ds : List D) (i : ℕ) (d : D) (first now : KeepState) → i < length ds
    → 0 < i → get_or ds (i - 1) d ≡ get_or ds i d
    → Forgets (λ e. list_any (λ x. goes x e) (take i ds)) first now
    → Forgets (λ e. list_any (λ x. goes x e) (take (i + 1) ds)) first now
forgets_again goes ds i d first now l some same so_far =
    forgets_then (λ e. list_any (λ x. goes x e) (take i ds)) (λ e. false) (λ e. list_any (λ x. goes x e) (take (i + 1) ds)) first now now
    (λ e.
    let j : ℕ = i - 1 in
    let before : Bool = list_any (λ x. goes x e) (take j ds) in
    let one : Bool = goes (get_or ds j d) e in
    let so : list_any (λ x. goes x e) (take i ds) ≡ (before || one) = ap (λ k. list_any (λ x. goes x e) (take k ds)) (omega (arith, some)) ∙ list_any_more (λ x. goes x e) ds j d (omega (arith, l, some)) in
    list_any_more (λ x. goes x e) ds i d l
    ∙ ap (λ b. b || goes (get_or ds i d) e) so ∙ ap (λ x. (before || one) || goes x e) (sym same)
    ∙ or-twice before one ∙ sym so ∙ sym (or-false (list_any (λ x. goes x e) (take i ds))))
    so_far (forgets_nothing now)

-- ---- places

-- the part at a place, where one is changed by what leaves the one past the last
get_or-changed : {X : Type 0} (act : X → X) (xs : List X) (q p : ℕ) (d : X) → act d ≡ d
    → get_or (set xs q (act (get_or xs q d))) p d ≡ cond (p == q) (act (get_or xs p d)) (get_or xs p d)
get_or-changed act xs q p d idle =
    let v = act (get_or xs q d) in
    let here = act (get_or xs p d) in
    elim (cases_eq p q) [
      | inl e ↦ elim (cases_lt q (length xs)) [
        | inl l ↦ ap (λ k. get_or (set xs q v) k d) e ∙ get_or-set_same xs q v d l ∙ ap (λ k. act (get_or xs k d)) (sym e)
        | inr o ↦ get_or_past (set xs q v) p d (omega (arith, length-set xs q v, e)) ∙ sym (ap act (get_or_past xs p d (omega (arith, e))) ∙ idle)
      ] ∙ sym (cond-true (p == q) here (get_or xs p d) (eq-eqb p q e))
      | inr n ↦ get_or-set_other xs q p v d n ∙ sym (cond-false (p == q) here (get_or xs p d) (ne_eqb p q n))
    ]

pub cond_ap : {X Y : Type 0} (f : X → Y) (b : Bool) (x y : X) → cond b (f x) (f y) ≡ f (cond b x y)
cond_ap f true x y = refl
cond_ap f false x y = refl

-- a filter, after which another one comes where it is wanted
kept-more : {X : Type 0} (p q r : X → Bool) (b : Bool) → ((x : X) → r x ≡ (p x || (b && q x))) → (xs : List X)
    → cond b (filter (λ x. not (q x)) (filter (λ x. not (p x)) xs)) (filter (λ x. not (p x)) xs) ≡ filter (λ x. not (r x)) xs
kept-more p q r true is xs = filter_then p q r is xs
kept-more p q r false is xs = sym (filter_nothing (filter (λ x. not (p x)) xs)) ∙ filter_then p (λ x. false) r is xs

-- ---- logs

pub no_log_changes : (e : ℕ) (log : MessagesState) → log ≡ log_left [] e log
no_log_changes e log = ap (λ ms. record log { messages = ms }) (sym (filter_nothing log.messages))

-- the logs after one front more of a list of them
pub logs_more : (fronts : List OfEdge) (i : ℕ) (d : OfEdge) (first now next : List MessagesState) → i < length fronts
    → ((e : ℕ) → log_at_place now e ≡ log_left (take i fronts) e (log_at_place first e))
    → next ≡ with_log_outside (get_or fronts i d).front now (get_or fronts i d).edge
    → (e : ℕ) → log_at_place next e ≡ log_left (take (i + 1) fronts) e (log_at_place first e)
logs_more fronts i d first now next l so_far is e =
    let q : OfEdge = get_or fronts i d in
    let b : Bool = e == q.edge in
    let log : MessagesState = log_at_place first e in
    let with : List Message → MessagesState = λ ms. record log { messages = ms } in
    let before : Message → Bool = λ m. is_inside_edge (take i fronts) e m.at in
    let more : Message → Bool = λ m. inside q.front m.at in
    let after : Message → Bool = λ m. is_inside_edge (take (i + 1) fronts) e m.at in
    let left : List Message = filter (λ m. not (before m)) log.messages in
    ap (λ logs. log_at_place logs e) is
    ∙ get_or-changed (log_outside q.front) now q.edge e (record { messages = []; refused = false }) refl
    ∙ ap (λ x. cond b (log_outside q.front x) x) (so_far e)
    ∙ cond_ap with b (filter (λ m. not (more m)) left) left
    ∙ ap with (kept-more before more after b (λ m. list_any_more (λ (x : OfEdge). (e == x.edge) && inside x.front m.at) fronts i d l) log.messages)

-- ---- batches

pub no_source_changes : (s : ℕ) (source : SourceState) → source ≡ source_left [] s source
no_source_changes s source = ap (λ held. record source { held = held }) (sym (filter_nothing source.held))

-- the inputs after one front more of a list of them
pub sources_more : (fronts : List OfNode) (i : ℕ) (d : OfNode) (first now next : List SourceState) → i < length fronts
    → ((s : ℕ) → source_at now s ≡ source_left (take i fronts) s (source_at first s))
    → next ≡ with_source (given_up (get_or fronts i d).front) now (get_or fronts i d).node
    → (s : ℕ) → source_at next s ≡ source_left (take (i + 1) fronts) s (source_at first s)
sources_more fronts i d first now next l so_far is s =
    let q : OfNode = get_or fronts i d in
    let b : Bool = s == q.node in
    let source : SourceState = source_at first s in
    let with : List (ℕ × List Rec) → SourceState = λ held. record source { held = held } in
    let before : ℕ × List Rec → Bool = λ batch. is_inside_node (take i fronts) s (batch.0 ∷ []) in
    let more : ℕ × List Rec → Bool = λ batch. inside q.front (batch.0 ∷ []) in
    let after : ℕ × List Rec → Bool = λ batch. is_inside_node (take (i + 1) fronts) s (batch.0 ∷ []) in
    let left : List (ℕ × List Rec) = filter (λ batch. not (before batch)) source.held in
    ap (λ sources. source_at sources s) is
    ∙ get_or-changed (given_up q.front) now q.node s (unused_source []) refl
    ∙ ap (λ x. cond b (given_up q.front x) x) (so_far s)
    ∙ cond_ap with b (filter (λ batch. not (more batch)) left) left
    ∙ ap with (kept-more before more after b (λ batch. list_any_more (λ (x : OfNode). (s == x.node) && inside x.front (batch.0 ∷ [])) fronts i d l) source.held)
