-- Which checkpoints are read for a node that is cut to one: those from the newest whole one within the cut up to it, a chain.
use Rattle.std.proofs.Common.{◌≡◌, ◌⊎◌, ℕ, ◌+◌, ◌<◌, Bool, true, false, not, ◌&&◌, ◌==◌, cond, List, [], ◌∷◌, ◌++◌, filter, length, Option, Some, None, refl, sym, ap, subst, ◌∙◌, inl, inr, arith}
use Rattle.std.specs.List.{AllByRecursion, AllZip}
use Rattle.std.specs.Option.{option_or}
use Rattle.std.proofs.lemmas.Bool.{cases_Bool, eqb-true, eq-eqb, false_from_ne_true}
use Rattle.fw_lemmas.proofs.Bools.{two_ways}
use Rattle.fw_lemmas.proofs.Each.{each-both, each-one, each-suffix, each-weaker}
use Rattle.fw_lemmas.proofs.Filters.{filter-in, filter-out}
use Rattle.fw_frontier.specs.Frontier.{Within}
use Rattle.fw_frontier.specs.Front.{Front, frontier_of, is_within}
use Rattle.fw_frontier.proofs.NamesLaws.{is_within-holds, names-same, within-is}
use Rattle.fw_flow.specs.Dataflow.{System, bounds_of}
use Rattle.fw_model.specs.Choice.{kept, is_counted}
use Rattle.fw_model.specs.LawsOfChains.{Link, link_of, links_of, IsWholeLink, StandsOnLast, IsChain}
use Rattle.fw_model.specs.Machine.{Machine, SerialEvent, Stage, Write, acknowledged, in_flight, collected, checkpoint, logged_event}
use Rattle.fw_model.specs.Machine.{Written as WrittenBy}
use Rattle.fw_model.specs.Steps.{last_or, checkpoints_of, checkpoint_front, is_in_flight}
use Rattle.fw_model.specs.Writes.{is_collected, not_collected}
use Rattle.fw_model.proofs.AskedLaws.{IsApart, IsAskedWell, IsWriteAskedWell}
use Rattle.fw_model.proofs.ForgottenLaws.{AreInOrder, Flies}
use Rattle.fw_model.proofs.WriteLaws.{HoldsOfOne, ArePairs, AreAscending, LiesBelow}
use Rattle.fw_keep.specs.declared.entry.Entry.{Entry}
use Rattle.fw_keep.specs.declared.entry.Written.{Written}
use Rattle.fw_keep.specs.declared.entry.Written.TheVariants as written
use Rattle.fw_keep.specs.Newest.{front_within, is_between, is_written_between, whole_front, whole_within}
use Rattle.fw_stands.specs.Read.{StandOn, IsChainRead}
use Rattle.fw_stands.specs.Written.{HoldsWhatIsWritten, IsEntryOf}

-- ---- an entry and its write

-- whether a checkpoint is written that lies within f
abbrev pub is_written_open : Front → Written → Bool
is_written_open f (written.Checkpoint recorded stamps sent) = is_within recorded.front f
is_written_open f (written.Event event) = false

-- whether the entry is an acknowledged one of such a checkpoint of node p
abbrev pub is_open : ℕ → Front → Entry → Bool
is_open p f e = (e.node == p) && (e.acknowledged && is_written_open f e.written)

-- the fronts and the links of one write
abbrev front_here : ℕ → Write → List Front
front_here p w = cond (w.node == p) (checkpoint_front w.written) []

abbrev pub link_here : ℕ → Write → List Link
link_here p w = cond (w.node == p) (link_of w.base w.depth w.written) []

-- whether a front lies within f and not strictly within another
abbrev pub is_front_between : Front → Front → Front → Bool
is_front_between k f g = is_within g f && not (is_within g k && not (is_within k g))

-- It is no checkpoint of node p.
pub record IsOther (p : ℕ) (e : Entry) (w : Write) : Type 0 where
  pub opened : (f : Front) → is_open p f e ≡ false
  pub between : (k f : Front) → is_between p k f e ≡ false
  pub whole : (f : Front) → whole_front p f e ≡ None
  pub link : link_here p w ≡ []

-- It is a checkpoint of node p.
pub record IsOwn (p : ℕ) (e : Entry) (w : Write) : Type 0 where
  pub front : Front
  pub low : List Front
  pub node : w.node ≡ p
  pub of : w.written ≡ checkpoint front low
  pub opened : (f : Front) → is_open p f e ≡ (is_counted kept w.stage && is_within front f)
  pub between : (k f : Front) → is_between p k f e ≡ (is_counted kept w.stage && is_front_between k f front)
  pub whole : (f : Front) → whole_front p f e ≡ cond (w.depth == 0) (cond (is_within front f) (Some front) None) None

and-false : (a : Bool) → (a && false) ≡ false
and-false true = refl
and-false false = refl

and-both : (a b : Bool) → (a && (b && false)) ≡ false
and-both a b = ap (λ c. a && c) (and-false b) ∙ and-false a

not-both : (b : Bool) → (b && not b) ≡ false
not-both true = refl
not-both false = refl

-- what one of the elements is, with what holds of each
one-of : {A : Type 0} (P Q : A → Type 0) (xs : List A) → HoldsOfOne P xs → AllByRecursion Q xs → (x : A) × P x × Q x
one-of P Q [] a b = absurd a
one-of P Q (x ∷ xs) (inl a) b = (x, a, b.0)
one-of P Q (x ∷ xs) (inr a) b = one-of P Q xs a b.1

abbrev pub no_front : Option Front
no_front = None

pub none-both : (b : Bool) → cond b no_front no_front ≡ no_front
none-both true = refl
none-both false = refl

-- the entry of a write is one of a checkpoint of node p, or of none
pub viewed : (sys : System) (state : Machine) (p : ℕ) (e : Entry) (w : Write) → IsEntryOf sys state e w → IsOther p e w ⊎ IsOwn p e w
viewed sys state p e w a = elim (cases_Bool (w.node == p)) [
  | inr other ↦
      let there : (e.node == p) ≡ false = ap (λ n. n == p) a.node ∙ other in
      inl (record {
        opened = λ f. ap (λ b. b && (e.acknowledged && is_written_open f e.written)) there;
        between = λ k f. ap (λ b. b && (e.acknowledged && is_written_between k f e.written)) there;
        whole = λ f. ap (λ b. cond (b && (e.depth == 0)) (front_within f e.written) None) there;
        link = ap (λ b. cond b (link_of w.base w.depth w.written) []) other;
      })
  | inl own ↦ by own e.written w.written refl refl a.holds
]
  where
    by : (w.node == p) ≡ true → (what : Written) (v : WrittenBy) → e.written ≡ what → w.written ≡ v → HoldsWhatIsWritten sys state w.node what v → IsOther p e w ⊎ IsOwn p e w
    by own (written.Checkpoint r s n) (checkpoint g l) i j h =
        let there : (e.node == p) ≡ true = ap (λ q. q == p) a.node ∙ own in
        let counted = is_counted kept w.stage in
        inr (record {
          front = g;
          low = l;
          node = eqb-true w.node p own;
          of = j;
          opened = λ f. ap (λ b. b && (e.acknowledged && is_written_open f e.written)) there ∙ ap (λ b. b && is_written_open f e.written) a.acknowledged
              ∙ ap (λ x. counted && is_written_open f x) i ∙ ap (λ x. counted && is_within x f) h.recorded.front;
          between = λ k f. ap (λ b. b && (e.acknowledged && is_written_between k f e.written)) there ∙ ap (λ b. b && is_written_between k f e.written) a.acknowledged
              ∙ ap (λ x. counted && is_written_between k f x) i ∙ ap (λ x. counted && is_front_between k f x) h.recorded.front;
          whole = λ f. ap (λ b. cond (b && (e.depth == 0)) (front_within f e.written) None) there
              ∙ ap (λ d. cond (d == 0) (front_within f e.written) None) a.depth ∙ ap (λ x. cond (w.depth == 0) (front_within f x) None) i
              ∙ ap (λ x. cond (w.depth == 0) (cond (is_within x f) (Some x) None) None) h.recorded.front;
        })
    by own (written.Checkpoint r s n) (logged_event t) i j h = absurd h
    by own (written.Event event) (checkpoint g l) i j h = absurd h
    by own (written.Event event) (logged_event t) i j h =
        inl (record {
          opened = λ f. ap (λ x. (e.node == p) && (e.acknowledged && is_written_open f x)) i ∙ and-both (e.node == p) e.acknowledged;
          between = λ k f. ap (λ x. (e.node == p) && (e.acknowledged && is_written_between k f x)) i ∙ and-both (e.node == p) e.acknowledged;
          whole = λ f. ap (λ x. cond ((e.node == p) && (e.depth == 0)) (front_within f x) None) i ∙ none-both ((e.node == p) && (e.depth == 0));
          link = ap (λ b. cond b (link_of w.base w.depth w.written) []) own ∙ ap (link_of w.base w.depth) j;
        })

own-link : (p : ℕ) (e : Entry) (w : Write) (o : IsOwn p e w) → link_here p w ≡ record { front = o.front; base = w.base; depth = w.depth } ∷ []
own-link p e w o = ap (λ b. cond b (link_of w.base w.depth w.written) []) (eq-eqb w.node p o.node) ∙ ap (link_of w.base w.depth) o.of

own-front : (p : ℕ) (e : Entry) (w : Write) (o : IsOwn p e w) → front_here p w ≡ o.front ∷ []
own-front p e w o = ap (λ b. cond b (checkpoint_front w.written) []) (eq-eqb w.node p o.node) ∙ ap checkpoint_front o.of

-- a link that is no deeper than none is whole
whole-at_zero : (last : Option Link) (link : Link) → StandsOnLast last link → link.depth ≡ 0 → IsWholeLink link
whole-at_zero None link s z = s
whole-at_zero (Some last) link (inl w) z = w
whole-at_zero (Some last) link (inr on) z = let deeper = on.1 in absurd (omega arith)

-- ---- fronts in order

-- of two checkpoints of node p the first lies strictly within the second
abbrev pub IsBefore : ℕ → ℕ → WrittenBy → ℕ → WrittenBy → Type 0
IsBefore p n w q v = (g k : Front) (l m : List Front) → n ≡ p → q ≡ p → w ≡ checkpoint g l → v ≡ checkpoint k m → (is_within g k ≡ true) × (is_within k g ≡ false)

-- a front lies about that of the last link so far, if there is one
abbrev IsOver : Option Link → Front → Type 0
IsOver None k = Unit {0}
IsOver (Some l) k = is_within l.front k ≡ true

-- ---- the chain so far

-- the last link so far has the front at which the writes begin, and these end at f
abbrev Follow : ℕ → Front → Option Link → List Write → Type 0
Follow p f None ws = ⊥
Follow p f (Some l) ws = StandOn p l.front ws × (last_or l.front (checkpoints_of p ws) ≡ f)

-- No whole one within f is among the entries.
record IsOpened (R : Entry → Write → Type 0) (p : ℕ) (f : Front) (last : Option Link) (es : List Entry) : Type 0 where
  entries : List Entry
  writes : List Write
  none : whole_within p f es ≡ None
  opened : filter (is_open p f) es ≡ entries
  of : AllZip R entries writes
  follow : Follow p f last writes

-- A whole one is, and it is one of these writes.
record IsClosed (R : Entry → Write → Type 0) (p : ℕ) (f : Front) (es : List Entry) (us : List Write) : Type 0 where
  read : IsChainRead R es p f
  among : HoldsOfOne (λ (y : Write). y ≡ read.write) us

module _ (sys : System) (state : Machine) (R : Entry → Write → Type 0) (entry : (e : Entry) (w : Write) → R e w → IsEntryOf sys state e w) (p : ℕ) (f : Front) where
  abbrev IsSoFar : Option Link → List Entry → List Write → Type 0
  IsSoFar last es us = IsOpened R p f last es ⊎ IsClosed R p f es us

  -- an entry that is no checkpoint of node p
  pass-other : (last : Option Link) (e : Entry) (w : Write) (es : List Entry) (us : List Write) → IsOther p e w → IsSoFar last es us → IsSoFar last (e ∷ es) (w ∷ us)
  pass-other last e w es us o (inl k) =
      inl (record {
        entries = k.entries;
        writes = k.writes;
        none = ap (λ x. option_or x (whole_front p f e)) k.none ∙ o.whole f;
        opened = filter-out (is_open p f) e es (o.opened f) ∙ k.opened;
        of = k.of;
        follow = k.follow;
      })
  pass-other last e w es us o (inr k) =
      let c = k.read in
      inr (record {
        read = record {
          whole = c.whole;
          newest = ap (λ x. option_or x (whole_front p f e)) c.newest;
          first = c.first;
          later = c.later;
          only = filter-out (is_between p c.whole f) e es (o.between c.whole f) ∙ c.only;
          write = c.write;
          writes = c.writes;
          of_first = c.of_first;
          of_later = c.of_later;
          low = c.low;
          node = c.node;
          of_checkpoint = c.of_checkpoint;
          base = c.base;
          depth = c.depth;
          each = c.each;
          ends = c.ends;
        };
        among = inr k.among;
      })

  -- later ones are not strictly within this one, so that those from it on are those within f
  later-open : (g : Front) (es : List Entry) (us : List Write) → AllZip R es us
      → AllByRecursion (λ (y : Write). (k : Front) (m : List Front) → y.node ≡ p → y.written ≡ checkpoint k m → (is_within g k ≡ true) × (is_within k g ≡ false)) us
      → filter (is_between p g f) es ≡ filter (is_open p f) es
  later-open g [] us z a = refl
  later-open g (e ∷ es) [] z a = absurd z
  later-open g (e ∷ es) (w ∷ us) z a =
      let rest = later-open g es us z.1 a.1 in
      let same : is_between p g f e ≡ is_open p f e = elim (viewed sys state p e w (entry e w z.0)) [
        | inl o ↦ o.between g f ∙ sym (o.opened f)
        | inr o ↦
            let above = a.0 o.front o.low o.node o.of in
            o.between g f ∙ ap (λ b. is_counted kept w.stage && (is_within o.front f && not (b && not (is_within g o.front)))) above.1
            ∙ ap (λ b. is_counted kept w.stage && b) (and-true (is_within o.front f)) ∙ sym (o.opened f)
      ] in
      ap (λ b. cond b (e ∷ filter (is_between p g f) es) (filter (is_between p g f) es)) same ∙ ap (λ xs. cond (is_open p f e) (e ∷ xs) xs) rest
    where
      and-true : (b : Bool) → (b && true) ≡ b
      and-true true = refl
      and-true false = refl

  -- one more checkpoint of node p, which lies within f and strictly within the later ones
  pass-own : (last : Option Link) (e : Entry) (w : Write) (es : List Entry) (us : List Write) → R e w → (o : IsOwn p e w) → AllZip R es us
      → is_counted kept w.stage ≡ true → is_within o.front f ≡ true
      → AllByRecursion (λ (y : Write). (k : Front) (m : List Front) → y.node ≡ p → y.written ≡ checkpoint k m → (is_within o.front k ≡ true) × (is_within k o.front ≡ false)) us
      → StandsOnLast last (record { front = o.front; base = w.base; depth = w.depth }) → IsOver last o.front
      → IsSoFar (Some (record { front = o.front; base = w.base; depth = w.depth })) es us → IsSoFar last (e ∷ es) (w ∷ us)
  pass-own last e w es us x o z counted within above stands over (inr k) =
      let c = k.read in
      let found = one-of (λ (y : Write). y ≡ c.write)
      (λ (y : Write). (q : Front) (m : List Front) → y.node ≡ p → y.written ≡ checkpoint q m → (is_within o.front q ≡ true) × (is_within q o.front ≡ false)) us k.among above in
      let apart = found.2 c.whole c.low (ap (λ (y : Write). y.node) found.1 ∙ c.node) (ap (λ (y : Write). y.written) found.1 ∙ c.of_checkpoint) in
      let out : is_between p c.whole f e ≡ false = o.between c.whole f ∙ ap (λ b. is_counted kept w.stage && (is_within o.front f && not (b && not (is_within c.whole o.front)))) apart.0
      ∙ ap (λ b. is_counted kept w.stage && (is_within o.front f && not (not b))) apart.1 ∙ and-both (is_counted kept w.stage) (is_within o.front f) in
      inr (record {
        read = record {
          whole = c.whole;
          newest = ap (λ y. option_or y (whole_front p f e)) c.newest;
          first = c.first;
          later = c.later;
          only = filter-out (is_between p c.whole f) e es out ∙ c.only;
          write = c.write;
          writes = c.writes;
          of_first = c.of_first;
          of_later = c.of_later;
          low = c.low;
          node = c.node;
          of_checkpoint = c.of_checkpoint;
          base = c.base;
          depth = c.depth;
          each = c.each;
          ends = c.ends;
        };
        among = inr k.among;
      })
  pass-own last e w es us x o z counted within above stands over (inl k) = elim (cases_Bool (w.depth == 0)) [
    | inl zero ↦
        let g = o.front in
        inr (record {
          read = record {
            whole = g;
            newest = ap (λ y. option_or y (whole_front p f e)) k.none ∙ o.whole f ∙ ap (λ b. cond b (cond (is_within g f) (Some g) None) None) zero
                ∙ ap (λ b. cond b (Some g) None) within;
            first = e;
            later = k.entries;
            only = filter-in (is_between p g f) e es
                (o.between g f ∙ ap (λ b. b && is_front_between g f g) counted ∙ ap (λ b. b && not (is_within g g && not (is_within g g))) within
                ∙ ap not (not-both (is_within g g)))
                ∙ ap (λ xs. e ∷ xs) (later-open g es us z above ∙ k.opened);
            write = w;
            writes = k.writes;
            of_first = x;
            of_later = k.of;
            low = o.low;
            node = o.node;
            of_checkpoint = o.of;
            base = (whole-at_zero last (record { front = g; base = w.base; depth = w.depth }) stands (eqb-true w.depth 0 zero)).0;
            depth = eqb-true w.depth 0 zero;
            each = k.follow.0;
            ends = k.follow.1;
          };
          among = inl refl;
        })
    | inr deep ↦
        let g = o.front in
        inl (record {
          entries = e ∷ k.entries;
          writes = w ∷ k.writes;
          none = ap (λ y. option_or y (whole_front p f e)) k.none ∙ o.whole f ∙ ap (λ b. cond b (cond (is_within g f) (Some g) None) None) deep;
          opened = filter-in (is_open p f) e es (o.opened f ∙ ap (λ b. b && is_within g f) counted ∙ within) ∙ ap (λ xs. e ∷ xs) k.opened;
          of = (x, k.of);
          follow = follows last stands over deep k.follow;
        })
  ]
    where
      follows : (l : Option Link) → StandsOnLast l (record { front = o.front; base = w.base; depth = w.depth }) → IsOver l o.front → (w.depth == 0) ≡ false
          → Follow p f (Some (record { front = o.front; base = w.base; depth = w.depth })) k.writes → Follow p f l (w ∷ k.writes)
      follows None s up deep more = absurd (two_ways (w.depth == 0) (eq-eqb w.depth 0 s.1) deep)
      follows (Some l) (inl whole) up deep more = absurd (two_ways (w.depth == 0) (eq-eqb w.depth 0 whole.1) deep)
      follows (Some l) (inr on) up deep more = (
        (record { front = o.front; low = o.low; node = o.node; of_checkpoint = o.of; base = on.0; above = up }, more.0),
        ap (λ fs. last_or l.front (fs ++ checkpoints_of p k.writes)) (own-front p e w o) ∙ more.1,
      )

  -- after the checkpoint at f none of node p lies within f
  none-after : (es : List Entry) (us : List Write) → AllZip R es us
      → AllByRecursion (λ (y : Write). (k : Front) (m : List Front) → y.node ≡ p → y.written ≡ checkpoint k m → (is_within f k ≡ true) × (is_within k f ≡ false)) us
      → (whole_within p f es ≡ None) × (filter (is_open p f) es ≡ [])
  none-after [] us z a = (refl, refl)
  none-after (e ∷ es) [] z a = absurd z
  none-after (e ∷ es) (w ∷ us) z a =
      let rest = none-after es us z.1 a.1 in
      let here : (whole_front p f e ≡ None) × (is_open p f e ≡ false) = elim (viewed sys state p e w (entry e w z.0)) [
        | inl o ↦ (o.whole f, o.opened f)
        | inr o ↦
            let outside = (a.0 o.front o.low o.node o.of).1 in (
              o.whole f ∙ ap (λ b. cond (w.depth == 0) (cond b (Some o.front) None) None) outside ∙ none-both (w.depth == 0),
              o.opened f ∙ ap (λ b. is_counted kept w.stage && b) outside ∙ and-false (is_counted kept w.stage),
            )
      ] in
      (ap (λ y. option_or y (whole_front p f e)) rest.0 ∙ here.0, filter-out (is_open p f) e es here.1 ∙ rest.1)

  -- What is known of the writes up to the one at f: each checkpoint of node p lies within f, and is counted.
  abbrev LeadsUp : Write → Type 0
  LeadsUp u = (g : Front) (l : List Front) → u.node ≡ p → u.written ≡ checkpoint g l → (is_within g f ≡ true) × (is_counted kept u.stage ≡ true)

  abbrev IsOverAll : Option Link → Write → Type 0
  IsOverAll last y = (k : Front) (m : List Front) → y.node ≡ p → y.written ≡ checkpoint k m → IsOver last k

  walk : (one : Write) (low : List Front) → one.node ≡ p → one.written ≡ checkpoint f low → (after : List Write) (before : List Write) (es : List Entry) (last : Option Link)
      → AllZip R es (before ++ one ∷ after) → ArePairs (IsBefore p) (before ++ one ∷ after) → AllByRecursion LeadsUp before → LeadsUp one
      → AllByRecursion (IsOverAll last) (before ++ one ∷ after) → IsChain last (links_of p (before ++ one ∷ after)) → IsSoFar last es (before ++ one ∷ after)
  walk one low at is after [] [] last z pairs leads up over chain = absurd z
  walk one low at is after [] (e ∷ es) last z pairs leads up over chain = elim (viewed sys state p e one (entry e one z.0)) [
    | inl o ↦
        let none : link_here p one ≡ [] = o.link in
        let some : link_here p one ≡ record { front = f; base = one.base; depth = one.depth } ∷ [] =
        ap (λ b. cond b (link_of one.base one.depth one.written) []) (eq-eqb one.node p at) ∙ ap (link_of one.base one.depth) is in
        let never : [] ≡ record { front = f; base = one.base; depth = one.depth } ∷ [] = sym none ∙ some in
        absurd (cc never)
    | inr o ↦
        let same : o.front ≡ f = front-is (sym o.of ∙ is) in
        let above = each-weaker (λ (y : Write). IsBefore p one.node one.written y.node y.written)
        (λ (y : Write). (k : Front) (m : List Front) → y.node ≡ p → y.written ≡ checkpoint k m → (is_within o.front k ≡ true) × (is_within k o.front ≡ false)) after
        (λ y b k m i j. b o.front k o.low m o.node i o.of j) pairs.0 in
        let outside = none-after es after z.1
        (subst (λ x. AllByRecursion (λ (y : Write). (k : Front) (m : List Front) → y.node ≡ p → y.written ≡ checkpoint k m → (is_within x k ≡ true) × (is_within k x ≡ false)) after) same above) in
        let on = subst (λ ls. IsChain last (ls ++ links_of p after)) (own-link p e one o) chain in
        let here = up o.front o.low o.node o.of in
        pass-own last e one es after z.0 o z.1 here.1 here.0 above on.0 (over.0 o.front o.low o.node o.of)
        (inl (record {
          entries = [];
          writes = [];
          none = outside.0;
          opened = outside.1;
          of = tt;
          follow = (tt, same);
        }))
  ]
    where
      front-is : {g k : Front} {l m : List Front} → checkpoint g l ≡ checkpoint k m → g ≡ k
      front-is e = ap first e
        where
          first : WrittenBy → Front
          first (checkpoint x y) = x
          first (logged_event s) = []
  walk one low at is after (u ∷ before) [] last z pairs leads up over chain = absurd z
  walk one low at is after (u ∷ before) (e ∷ es) last z pairs leads up over chain = elim (viewed sys state p e u (entry e u z.0)) [
    | inl o ↦
        pass-other last e u es (before ++ one ∷ after) o
        (walk one low at is after before es last z.1 pairs.1 leads.1 up over.1 (subst (λ ls. IsChain last (ls ++ links_of p (before ++ one ∷ after))) o.link chain))
    | inr o ↦
        let above = each-weaker (λ (y : Write). IsBefore p u.node u.written y.node y.written)
        (λ (y : Write). (k : Front) (m : List Front) → y.node ≡ p → y.written ≡ checkpoint k m → (is_within o.front k ≡ true) × (is_within k o.front ≡ false)) (before ++ one ∷ after)
        (λ y b k m i j. b o.front k o.low m o.node i o.of j) pairs.0 in
        let on = subst (λ ls. IsChain last (ls ++ links_of p (before ++ one ∷ after))) (own-link p e u o) chain in
        let here = leads.0 o.front o.low o.node o.of in
        pass-own last e u es (before ++ one ∷ after) z.0 o z.1 here.1 here.0 above on.0 (over.0 o.front o.low o.node o.of)
        (walk one low at is after before es (Some (record { front = o.front; base = u.base; depth = u.depth })) z.1 pairs.1 leads.1 up
        (each-weaker (λ (y : Write). (k : Front) (m : List Front) → y.node ≡ p → y.written ≡ checkpoint k m → (is_within o.front k ≡ true) × (is_within k o.front ≡ false))
        (IsOverAll (Some (record { front = o.front; base = u.base; depth = u.depth }))) (before ++ one ∷ after) (λ y b k m i j. (b k m i j).0) above) on.1)
  ]

  -- the entries from the newest whole one within f up to the one at f stand for a chain
  pub chain-read : (one : Write) (low : List Front) → one.node ≡ p → one.written ≡ checkpoint f low → (before after : List Write) (es : List Entry)
      → AllZip R es (before ++ one ∷ after) → ArePairs (IsBefore p) (before ++ one ∷ after) → AllByRecursion LeadsUp before → LeadsUp one
      → IsChain None (links_of p (before ++ one ∷ after)) → IsChainRead R es p f
  chain-read one low at is before after es z pairs leads up chain = elim (walk one low at is after before es None z pairs leads up (each-one (IsOverAll None) (before ++ one ∷ after) (λ y k m i j. tt)) chain) [
    | inl k ↦ absurd k.follow
    | inr k ↦ k.read
  ]

-- ---- writes in order

either-way : (a b : Bool) → (a ≡ true → b ≡ true) → (b ≡ true → a ≡ true) → a ≡ b
either-way true b h k = sym (h refl)
either-way false true h k = k refl
either-way false false h k = refl

before-each : (sys : System) (low : List Front) (next : ℕ) (h : List SerialEvent) (p : ℕ) → p < length sys.flow.nodes → (n : ℕ) (w : WrittenBy) (near : Stage) (q : ℕ) (v : WrittenBy) (far : Stage)
    → LiesBelow sys n w q v → IsApart n w q v → IsAskedWell sys low next h n w near → IsAskedWell sys low next h q v far → IsBefore p n w q v
before-each sys low next h p declared n w near q v far below apart one other = λ g k l m at there i j.
    let b = bounds_of sys.flow p in
    let lies = subst (λ x. LiesBelow sys p x p (checkpoint k m)) i (subst (λ y. LiesBelow sys p w p y) j (subst (λ r. LiesBelow sys p w r v) there (subst (λ r. LiesBelow sys r w q v) at below))) in
    let differ = subst (λ x. IsApart p x p (checkpoint k m)) i (subst (λ y. IsApart p w p y) j (subst (λ r. IsApart p w r v) there (subst (λ r. IsApart r w q v) at apart))) in
    let first = subst (λ x. IsAskedWell sys low next h p x near) i (subst (λ r. IsAskedWell sys low next h r w near) at one) in
    let second = subst (λ x. IsAskedWell sys low next h p x far) j (subst (λ r. IsAskedWell sys low next h r v far) there other) in
    let up : Within (frontier_of b g) (frontier_of b k) = lies refl declared in (
      within-is b g k second.1 up,
      false_from_ne_true (is_within k g) (λ e.
          differ refl (names-same b g k (frontier_of b k)
          (record { canonical = first.1; same = λ t. either-way (frontier_of b g t) (frontier_of b k t) (up t) (is_within-holds b k g e t) })
          (record { canonical = second.1; same = λ t. refl }))),
    )

pub before-pairs : (sys : System) (low : List Front) (next : ℕ) (h : List SerialEvent) (p : ℕ) → p < length sys.flow.nodes → (xs : List Write) → AreAscending sys xs → ArePairs IsApart xs
    → AllByRecursion (IsWriteAskedWell sys low next h) xs → ArePairs (IsBefore p) xs
before-pairs sys low next h p declared [] a b w = tt
before-pairs sys low next h p declared (x ∷ xs) a b w = (
  each-weaker (λ (y : Write). LiesBelow sys x.node x.written y.node y.written × (IsApart x.node x.written y.node y.written × IsWriteAskedWell sys low next h y))
      (λ (y : Write). IsBefore p x.node x.written y.node y.written) xs
      (λ y k. before-each sys low next h p declared x.node x.written x.stage y.node y.written y.stage k.0 k.1.0 w.0 k.1.1)
      (each-both (λ (y : Write). LiesBelow sys x.node x.written y.node y.written) (λ (y : Write). IsApart x.node x.written y.node y.written × IsWriteAskedWell sys low next h y) xs a.0
      (each-both (λ (y : Write). IsApart x.node x.written y.node y.written) (IsWriteAskedWell sys low next h) xs b.0 w.1)),
  before-pairs sys low next h p declared xs a.1 b.1 w.1,
)

counted-there : (far : Stage) → not (is_collected far) ≡ true → (is_in_flight far ≡ true → ⊥) → is_counted kept far ≡ true
counted-there in_flight there landed = absurd (landed refl)
counted-there acknowledged there landed = refl
counted-there collected there landed = absurd (two_ways false there refl)

-- before an acknowledged write none is in flight
pub landed-before : (before : List Write) (one : Write) (after : List Write) → AreInOrder (before ++ one ∷ after) → (is_in_flight one.stage ≡ true → ⊥)
    → AllByRecursion (λ (u : Write). not_collected u ≡ true → is_counted kept u.stage ≡ true) before
landed-before [] one after order landed = tt
landed-before (u ∷ before) one after order landed = (
  (λ there. counted-there u.stage there (λ flies. landed ((each-suffix Flies before (one ∷ after) (order.0 flies)).0))),
  landed-before before one after order.1 landed,
)
