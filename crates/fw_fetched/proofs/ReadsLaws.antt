-- What a recovery reads of a node's checkpoints: those on which the one at its cut stands, and that one.
use Rattle.std.proofs.Common.{◌≡◌, ◌≢◌, ℕ, ◌<◌, Bool, true, false, cond, ◌&&◌, ◌||◌, ◌==◌, List, [], ◌∷◌, ◌++◌, filter, reverse, Option, Some, None, refl, sym, ap, subst, ◌∙◌, ◌⊎◌, inl, inr, arith}
use Rattle.std.specs.Prelude.{option_and_then}
use Rattle.std.specs.List.{AllByRecursion, AllZip, Contains, list_any}
use Rattle.std.proofs.lemmas.Bool.{and_parts, cases_Bool, eqb-true, eq-eqb, false_from_ne_true, or_left, or_right}
use Rattle.std.proofs.lemmas.List.{append-nil, reverse-append, reverse-reverse}
use Rattle.std.proofs.lemmas.List.Elements.{filter-append}
use Rattle.std.proofs.lemmas.Option.{same_Some}
use Rattle.fw_lemmas.proofs.Bools.{two_ways}
use Rattle.fw_lemmas.proofs.Each.{each-append, each-both, each-kept, each-suffix, each-there, each-weaker, each_of-map}
use Rattle.fw_lemmas.proofs.SideBySide.{zip-both, zip-right}
use Rattle.fw_frontier.specs.Front.{Front, same_front}
use Rattle.fw_frontier.proofs.SameLaws.{same_front-is, same_front-from}
use Rattle.fw_flow.specs.declared.choice.Choice.{Choice}
use Rattle.fw_flow.specs.declared.choice.Cut.TheVariants.{At}
use Rattle.fw_flow.specs.declared.restoring.Restoring.TheVariants.{Checkpoints}
use Rattle.fw_flow.specs.Dataflow.{System, bounds_of, policy_of}
use Rattle.fw_flow.specs.Restoring.{way_of}
use Rattle.fw_flow.specs.WellFormed.{IsWellFormedSystem}
use Rattle.fw_model.specs.Choice.{cut_of}
use Rattle.fw_model.specs.Machine.{Machine, Write, checkpoint, logged_event, no_stamps}
use Rattle.fw_model.specs.Machine.{Written as WrittenBy}
use Rattle.fw_model.specs.Reached.{IsReached}
use Rattle.fw_model.specs.Steps.{checkpoint_front, checkpoints_of, last_or}
use Rattle.fw_model.specs.Writes.{not_collected, takes_checkpoints}
use Rattle.fw_model.proofs.AskedLaws.{IsApart, IsAskedWell, IsWriteAskedWell, reached-all}
use Rattle.fw_model.proofs.CheckpointFrontLaws.{checkpoints-have_stamps}
use Rattle.fw_model.proofs.ThinnedLaws.{each-contained}
use Rattle.fw_model.proofs.WriteLaws.{ArePairs, pairs-passed}
use Rattle.fw_keep.specs.declared.entry.Entry.{Entry}
use Rattle.fw_keep.specs.declared.entry.Written.{Written}
use Rattle.fw_keep.specs.declared.entry.Written.TheVariants as written
use Rattle.fw_keep.specs.Catalogue.{AreAscending, ids_of}
use Rattle.fw_keep.specs.Entry.{is_written_at}
use Rattle.fw_keep.specs.Joined.{bases_of, chain_to}
use Rattle.fw_keep.specs.Newest.{is_between, whole_within}
use Rattle.fw_keep.proofs.ChainLaws.{each-reversed}
use Rattle.fw_keep.proofs.EntryLaws.{found-only}
use Rattle.fw_rollback.specs.Asked.{is_at_cut, has_one_at_cut, asked_of}
use Rattle.fw_rollback.proofs.AskedLaws.{asked-checkpoints}
use Rattle.fw_stands.specs.Entries.{AreBasesOf, entry_fronts, id_at_front}
use Rattle.fw_stands.specs.Read.{IsChainRead, StandOn}
use Rattle.fw_stands.specs.Recovered.{Recovers}
use Rattle.fw_stands.specs.Written.{AreEntriesOf, HoldsWhatIsWritten, IsEntryOf, uncollected}
use Rattle.fw_stands.proofs.BaseSteps.{apart-at}
use Rattle.fw_stands.proofs.CutChains.{cut-chain}
use Rattle.fw_stands.proofs.EntryViews.{fronts-alike}
use Rattle.fw_fetched.specs.LawsOfFetching.{RecoveryReadsWhatIsFetched}

-- ---- entries, the latest first

-- the id of each of these entries is above those after it
abbrev Descend : List Entry → Type 0
Descend [] = Unit {0}
Descend (e ∷ es) = AllByRecursion (λ (x : Entry). x.id < e.id) es × Descend es

descend-snoc : (es : List Entry) (x : Entry) → Descend es → AllByRecursion (λ (y : Entry). x.id < y.id) es → Descend (es ++ x ∷ [])
descend-snoc [] x d a = (tt, tt)
descend-snoc (e ∷ es) x d a = (each-append (λ (y : Entry). y.id < e.id) es (x ∷ []) d.0 (a.0, tt), descend-snoc es x d.1 a.1)

descend-reverse : (es : List Entry) → AreAscending (ids_of es) → Descend (reverse es)
descend-reverse [] a = tt
descend-reverse (e ∷ es) a =
    let Above : Entry → Type 0 = λ y. e.id < y.id in
    subst Descend (sym (reverse-append (e ∷ []) es))
    (descend-snoc (reverse es) e (descend-reverse es a.1)
    (each-reversed Above es (each_of-map (λ id. e.id < id) (λ (y : Entry). y.id) es a.0)))

-- the first ones are among the second ones, in order
abbrev AreAmong : List Entry → List Entry → Type 0
AreAmong [] xs = Unit {0}
AreAmong (y ∷ ys) [] = ⊥
AreAmong (y ∷ ys) (x ∷ xs) = ((x ≡ y) × AreAmong ys xs) ⊎ AreAmong (y ∷ ys) xs

among-more : (ys : List Entry) (x : Entry) (xs : List Entry) → AreAmong ys xs → AreAmong ys (x ∷ xs)
among-more [] x xs a = tt
among-more (y ∷ ys) x xs a = inr a

among-less : (y : Entry) (ys xs : List Entry) → AreAmong (y ∷ ys) xs → AreAmong ys xs
among-less y ys [] a = absurd a
among-less y ys (x ∷ xs) (inl a) = among-more ys x xs a.1
among-less y ys (x ∷ xs) (inr a) = among-more ys x xs (among-less y ys xs a)

among-first : (P : Entry → Type 0) (y : Entry) (ys xs : List Entry) → AllByRecursion P xs → AreAmong (y ∷ ys) xs → P y
among-first P y ys [] all a = absurd a
among-first P y ys (x ∷ xs) all (inl a) = subst P a.0 all.0
among-first P y ys (x ∷ xs) all (inr a) = among-first P y ys xs all.1 a

among-filter : (test : Entry → Bool) (xs : List Entry) → AreAmong (filter test xs) xs
among-filter test [] = tt
among-filter test (x ∷ xs) = by (test x) (among-filter test xs)
  where
    by : (b : Bool) → AreAmong (filter test xs) xs → AreAmong (cond b (x ∷ filter test xs) (filter test xs)) (x ∷ xs)
    by true a = inl (refl, a)
    by false a = among-more (filter test xs) x xs a

filter-reverse : (test : Entry → Bool) (es : List Entry) → filter test (reverse es) ≡ reverse (filter test es)
filter-reverse test [] = refl
filter-reverse test (e ∷ es) =
    ap (filter test) (reverse-append (e ∷ []) es) ∙ filter-append test (reverse es) (e ∷ []) ∙ by (test e) (filter-reverse test es)
  where
    by : (b : Bool) → filter test (reverse es) ≡ reverse (filter test es)
        → filter test (reverse es) ++ cond b (e ∷ []) [] ≡ reverse (cond b (e ∷ filter test es) (filter test es))
    by true h = ap (λ zs. zs ++ e ∷ []) h ∙ sym (reverse-append (e ∷ []) (filter test es))
    by false h = append-nil (filter test (reverse es)) ∙ h

-- ---- what stands on what

-- the id of the first of these entries, and this one where there is none
abbrev first_id : Option ℕ → List Entry → Option ℕ
first_id o [] = o
first_id o (y ∷ ys) = Some y.id

-- of these entries, the latest first, each stands on the next one, and the lowest on this base
abbrev EachOnNext : Option ℕ → List Entry → Type 0
EachOnNext o [] = Unit {0}
EachOnNext o (y ∷ ys) = (y.base ≡ first_id o ys) × EachOnNext o ys

-- each of these entries stands on the one before it, and the first on this base
abbrev EachOnBefore : Option ℕ → List Entry → Type 0
EachOnBefore o [] = Unit {0}
EachOnBefore o (e ∷ es) = (e.base ≡ o) × EachOnBefore (Some e.id) es

next-snoc : (o : Option ℕ) (y : Entry) (zs : List Entry) → EachOnNext (Some y.id) zs → y.base ≡ o → EachOnNext o (zs ++ y ∷ [])
next-snoc o y [] l b = (b, tt)
next-snoc o y (z ∷ zs) l b = (l.0 ∙ same zs, next-snoc o y zs l.1 b)
  where
    same : (xs : List Entry) → first_id (Some y.id) xs ≡ first_id o (xs ++ y ∷ [])
    same [] = refl
    same (x ∷ xs) = refl

next-reverse : (o : Option ℕ) (es : List Entry) → EachOnBefore o es → EachOnNext o (reverse es)
next-reverse o [] l = tt
next-reverse o (e ∷ es) l =
    subst (EachOnNext o) (sym (reverse-append (e ∷ []) es)) (next-snoc o e (reverse es) (next-reverse (Some e.id) es l.1) l.0)

-- a chain among entries is the one to its latest entry
chain-among : (ys xs : List Entry) → Descend xs → AreAmong ys xs → EachOnNext None ys → chain_to (first_id None ys) xs ≡ reverse ys
chain-among [] xs d a l = refl
chain-among (y ∷ ys) [] d a l = absurd a
chain-among (y ∷ ys) (x ∷ xs) d (inl a) l =
    ap (λ b. cond b (chain_to x.base xs ++ x ∷ []) (chain_to (Some y.id) xs)) (eq-eqb x.id y.id (ap (λ (z : Entry). z.id) a.0))
    ∙ ap (λ (z : Entry). chain_to z.base xs ++ z ∷ []) a.0
    ∙ ap (λ o. chain_to o xs ++ y ∷ []) l.0
    ∙ ap (λ zs. zs ++ y ∷ []) (chain-among ys xs d.1 a.1 l.1)
    ∙ sym (reverse-append (y ∷ []) ys)
chain-among (y ∷ ys) (x ∷ xs) d (inr a) l =
    let below : y.id < x.id = among-first (λ (z : Entry). z.id < x.id) y ys xs d.0 a in
    ap (λ b. cond b (chain_to x.base xs ++ x ∷ []) (chain_to (Some y.id) xs))
    (false_from_ne_true (x.id == y.id) (λ i. let same = eqb-true x.id y.id i in absurd (omega arith)))
    ∙ chain-among (y ∷ ys) xs d.1 a l

-- where a test leaves a chain of the entries, its last one stands on the others
bases-left : (test : Entry → Bool) (es before : List Entry) (e : Entry) → AreAscending (ids_of es) → filter test es ≡ before ++ e ∷ []
    → EachOnBefore None (before ++ e ∷ []) → bases_of es e ≡ before
bases-left test es before e up is l =
    let turned : reverse (before ++ e ∷ []) ≡ e ∷ reverse before = reverse-append before (e ∷ []) in
    let among : AreAmong (e ∷ reverse before) (reverse es) =
    subst (λ ys. AreAmong ys (reverse es)) (filter-reverse test es ∙ ap reverse is ∙ turned) (among-filter test (reverse es)) in
    let next : EachOnNext None (e ∷ reverse before) = subst (EachOnNext None) turned (next-reverse None (before ++ e ∷ []) l) in
    ap (λ o. chain_to o (reverse es)) next.0
    ∙ chain-among (reverse before) (reverse es) (descend-reverse es up) (among-less e (reverse before) (reverse es) among) next.1
    ∙ reverse-reverse before

-- ---- which entry is at a front

-- whether the entry is a checkpoint of node p at f
abbrev has_front : ℕ → Front → Entry → Bool
has_front p f e = list_any (same_front f) (entry_fronts p (e ∷ []))

-- a write at a front is a checkpoint there
is-at : (p : ℕ) (f : Front) (x : Write) → list_any (same_front f) (checkpoints_of p (x ∷ [])) ≡ true → (x.node ≡ p) × (low : List Front) × (x.written ≡ checkpoint f low)
is-at p f x k = elim (cases_Bool (x.node == p)) [
  | inr other ↦ absurd (two_ways false (sym (ap (λ b. list_any (same_front f) (cond b (checkpoint_front x.written) [] ++ [])) other) ∙ k) refl)
  | inl own ↦ by own x.written refl (sym (ap (λ b. list_any (same_front f) (cond b (checkpoint_front x.written) [] ++ [])) own) ∙ k)
]
  where
    by : (x.node == p) ≡ true → (w : WrittenBy) → x.written ≡ w → list_any (same_front f) (checkpoint_front x.written ++ []) ≡ true
        → (x.node ≡ p) × (low : List Front) × (x.written ≡ checkpoint f low)
    by own (checkpoint g low) e k =
        let same : (same_front f g || false) ≡ true = sym (ap (λ w. list_any (same_front f) (checkpoint_front w ++ [])) e) ∙ k in
        (eqb-true x.node p own, low, e ∙ ap (λ z. checkpoint z low) (sym (same_front-is f g (alone (same_front f g) same))))
      where
        alone : (b : Bool) → (b || false) ≡ true → b ≡ true
        alone true e = refl
        alone false e = e
    by own (logged_event s) e k = absurd (two_ways false (sym (ap (λ w. list_any (same_front f) (checkpoint_front w ++ [])) e) ∙ k) refl)

at-is : (p : ℕ) (f : Front) (low : List Front) (x : Write) → x.node ≡ p → x.written ≡ checkpoint f low → list_any (same_front f) (checkpoints_of p (x ∷ [])) ≡ true
at-is p f low x i e =
    ap (λ b. list_any (same_front f) (cond b (checkpoint_front x.written) [] ++ [])) (eq-eqb x.node p i)
    ∙ ap (λ w. list_any (same_front f) (checkpoint_front w ++ [])) e ∙ ap (λ b. b || false) (same_front-from f f refl)

-- the entry's id is the one that is found, among these, at the front of its write
abbrev IsFoundAt : List Entry → Entry → Write → Type 0
IsFoundAt all e x = (g : Front) (low : List Front) → x.written ≡ checkpoint g low → id_at_front x.node g all ≡ Some e.id

module _ (sys : System) (state : Machine) where
  has-alike : (p : ℕ) (f : Front) (e : Entry) (x : Write) → IsEntryOf sys state e x → has_front p f e ≡ list_any (same_front f) (checkpoints_of p (x ∷ []))
  has-alike p f e x i = ap (list_any (same_front f)) (fronts-alike sys state p (e ∷ []) (x ∷ []) (i, tt))

  found-each : (es : List Entry) (xs : List Write) → AreEntriesOf sys state es xs → ArePairs IsApart xs → AllZip (IsFoundAt es) es xs
  found-each [] [] a k = tt
  found-each [] (x ∷ xs) a k = absurd a
  found-each (e ∷ es) [] a k = absurd a
  found-each (e ∷ es) (x ∷ xs) a k = (
    λ g low is.
        ap (λ b. cond b (Some e.id) (id_at_front x.node g es)) (has-alike x.node g e x a.0 ∙ at-is x.node g low x refl is),
    zip-right (λ (y : Write). IsApart x.node x.written y.node y.written) (IsFoundAt es) (IsFoundAt (e ∷ es)) es xs
        (λ o y apart found g low is.
        ap (λ b. cond b (Some e.id) (id_at_front y.node g es))
        (false_from_ne_true (has_front y.node g e)
        (λ h.
        let one = is-at y.node g x (sym (has-alike y.node g e x a.0) ∙ h) in
        apart-at x.node x.written y.node y.written apart one.0 g one.1 low one.2 is))
        ∙ found g low is) k.0 (found-each es xs a.1 k.1),
  )

  written-is : (q : ℕ) (f : Front) (e : Written) (w : WrittenBy) → HoldsWhatIsWritten sys state q e w → is_written_at f e ≡ true → (low : List Front) × (w ≡ checkpoint f low)
  written-is q f (written.Checkpoint recorded stamps sent) (checkpoint g low) h k =
      (low, ap (λ x. checkpoint x low) (sym h.recorded.front ∙ same_front-is recorded.front f k))
  written-is q f (written.Checkpoint recorded stamps sent) (logged_event s) h k = absurd h
  written-is q f (written.Event event) w h k = absurd (two_ways false k refl)

  -- an entry at a cut stands for a checkpoint there
  at-cut : (p : ℕ) (f : Front) (e : Entry) (x : Write) → IsEntryOf sys state e x → is_at_cut p (At f) e ≡ true
      → (x.node ≡ p) × (low : List Front) × (x.written ≡ checkpoint f low)
  at-cut p f e x i k =
      let a = and_parts (e.node == p) (e.acknowledged && is_written_at f e.written) k in
      let b = and_parts e.acknowledged (is_written_at f e.written) a.1 in
      let c = written-is x.node f e.written x.written i.holds b.1 in
      (sym i.node ∙ eqb-true e.node p a.0, c.0, c.1)

  -- ---- a chain of entries

  module _ (all : List Entry) where
    abbrev HasBaseAmong : Entry → Write → Type 0
    HasBaseAmong e x = e.base ≡ option_and_then (λ f. id_at_front x.node f all) x.base

    abbrev IsReadOf : Entry → Write → Type 0
    IsReadOf e x = IsEntryOf sys state e x × (HasBaseAmong e x × IsFoundAt all e x)

    each-on-before : (p : ℕ) (g : Front) (id : ℕ) (later : List Entry) (xs : List Write) → id_at_front p g all ≡ Some id → AllZip IsReadOf later xs → StandOn p g xs
        → EachOnBefore (Some id) later
    each-on-before p g id [] [] there z s = tt
    each-on-before p g id [] (x ∷ xs) there z s = absurd z
    each-on-before p g id (e ∷ es) [] there z s = absurd z
    each-on-before p g id (e ∷ es) (x ∷ xs) there z s =
        let on = s.0 in (
          z.0.1.0 ∙ ap (option_and_then (λ f. id_at_front x.node f all)) on.base ∙ ap (λ q. id_at_front q g all) on.node ∙ there,
          each-on-before p on.front e.id es xs (sym (ap (λ q. id_at_front q on.front all) on.node) ∙ z.0.1.1 on.front on.low on.of_checkpoint) z.1 s.1,
        )

    -- The last of these entries is the one of node p at f.
    record EndAt (p : ℕ) (f : Front) (es : List Entry) : Type 0 where
      pub before : List Entry
      pub last : Entry
      pub is : es ≡ before ++ last ∷ []
      pub found : id_at_front p f all ≡ Some last.id

    end-at : (p : ℕ) (f g : Front) (e : Entry) (later : List Entry) (xs : List Write) → id_at_front p g all ≡ Some e.id → AllZip IsReadOf later xs → StandOn p g xs
        → last_or g (checkpoints_of p xs) ≡ f → EndAt p f (e ∷ later)
    end-at p f g e [] [] there z s ends = record { before = []; last = e; is = refl; found = subst (λ h. id_at_front p h all ≡ Some e.id) ends there }
    end-at p f g e [] (x ∷ xs) there z s ends = absurd z
    end-at p f g e (o ∷ es) [] there z s ends = absurd z
    end-at p f g e (o ∷ es) (x ∷ xs) there z s ends =
        let on = s.0 in
        let own : cond (x.node == p) (checkpoint_front x.written) [] ≡ on.front ∷ [] =
        ap (λ b. cond b (checkpoint_front x.written) []) (eq-eqb x.node p on.node) ∙ ap checkpoint_front on.of_checkpoint in
        let rest = end-at p f on.front o es xs (sym (ap (λ q. id_at_front q on.front all) on.node) ∙ z.0.1.1 on.front on.low on.of_checkpoint) z.1 s.1
        (sym (ap (λ fs. last_or g (fs ++ checkpoints_of p xs)) own) ∙ ends) in
        record { before = e ∷ rest.before; last = rest.last; is = ap (λ zs. e ∷ zs) rest.is; found = rest.found }

-- ---- what is asked for

any-each : (test : Entry → Bool) (xs : List Entry) → AllByRecursion (λ x. test x ≡ true → list_any test xs ≡ true) xs
any-each test [] = tt
any-each test (x ∷ xs) = (
  λ k. or_left (test x) (list_any test xs) k,
  each-weaker (λ y. test y ≡ true → list_any test xs ≡ true) (λ y. test y ≡ true → list_any test (x ∷ xs) ≡ true) xs
      (λ y h k. or_right (test x) (list_any test xs) (h k)) (any-each test xs),
)

-- each entry with its write
with-writes : (P : Write → Type 0) (R : Entry → Write → Type 0) (es : List Entry) (xs : List Write) → AllByRecursion P xs → AllZip R es xs
    → AllByRecursion (λ e. (x : Write) × P x × R e x) es
with-writes P R [] xs a z = tt
with-writes P R (e ∷ es) [] a z = absurd z
with-writes P R (e ∷ es) (x ∷ xs) a z = ((x, a.0, z.0), with-writes P R es xs a.1 z.1)

-- where a chain is read that ends at the entry, just the entries are asked for on which it stands, and itself
asked-of_chain : (sys : System) (state : Machine) (choice : Choice) (es : List Entry) → AreAscending (ids_of es) → (p : ℕ) (f : Front) (e : Entry)
    → way_of sys.flow p ≡ Checkpoints → cut_of choice p ≡ At f → Contains es e → has_one_at_cut p (At f) es ≡ true → id_at_front p f es ≡ Some e.id
    → IsChainRead (IsReadOf sys state es) es p f → asked_of sys.flow choice es p ≡ bases_of es e ++ e ∷ []
asked-of_chain sys state choice es up p f e way is there one found c =
    let first : id_at_front p c.whole es ≡ Some c.first.id =
    sym (ap (λ q. id_at_front q c.whole es) c.node) ∙ c.of_first.1.1 c.whole c.low c.of_checkpoint in
    let chained : EachOnBefore None (c.first ∷ c.later) = (
      c.of_first.1.0 ∙ ap (option_and_then (λ g. id_at_front c.write.node g es)) c.base,
      each-on-before sys state es p c.whole c.first.id c.later c.writes first c.of_later c.each,
    ) in
    ends-in c.whole (c.first ∷ c.later) chained c.newest c.only
    (end-at sys state es p f c.whole c.first c.later c.writes first c.of_later c.each c.ends)
  where
    ends-in : (whole : Front) (chain : List Entry) → EachOnBefore None chain → whole_within p f es ≡ Some whole → filter (is_between p whole f) es ≡ chain
        → EndAt sys state es p f chain → asked_of sys.flow choice es p ≡ bases_of es e ++ e ∷ []
    ends-in whole chain chained newest only ends =
        let left : filter (is_between p whole f) es ≡ ends.before ++ ends.last ∷ [] = only ∙ ends.is in
        let last_there : Contains es ends.last =
        (each-suffix (Contains es) ends.before (ends.last ∷ [])
        (subst (AllByRecursion (Contains es)) left (each-kept (Contains es) (is_between p whole f) es (each-there es)))).0 in
        let last_is : ends.last ≡ e =
        (found-only es e.id there.0 e up there.1 (sym there.2) refl).only ends.last last_there (same_Some ends.last.id e.id (sym ends.found ∙ found)) in
        asked-checkpoints sys.flow choice es p f whole way is (ap (λ t. cond t (whole_within p f es) None) one ∙ newest)
        ∙ left
        ∙ ap (λ zs. zs ++ ends.last ∷ [])
        (sym (bases-left (is_between p whole f) es ends.before ends.last up left (subst (EachOnBefore None) ends.is chained)))
        ∙ ap (λ (y : Entry). bases_of es y ++ y ∷ []) last_is

-- What is known of a write: how it was asked, and that a checkpoint has a stamp inside.
abbrev IsKnown : System → Machine → Write → Type 0
IsKnown sys state x =
    IsWriteAskedWell sys state.low state.next state.history x
    × ((g : Front) (low : List Front) → x.written ≡ checkpoint g low → g ≢ no_stamps (bounds_of sys.flow x.node))

each-known : (sys : System) (state : Machine) → IsWellFormedSystem sys → IsReached sys state → AllByRecursion (IsKnown sys state) (uncollected state)
each-known sys state w r =
    each-kept (IsKnown sys state) not_collected state.writes
    (each-both (IsWriteAskedWell sys state.low state.next state.history)
    (λ (x : Write). (g : Front) (low : List Front) → x.written ≡ checkpoint g low → g ≢ no_stamps (bounds_of sys.flow x.node)) state.writes
    (reached-all sys w r.0 r.1 state r.2).restore.asked (checkpoints-have_stamps sys w r.0 r.1 state r.2))

each-read : (sys : System) (state : Machine) → IsWellFormedSystem sys → IsReached sys state → (es : List Entry) → AreEntriesOf sys state es (uncollected state)
    → AreBasesOf es es (uncollected state) → AllZip (IsReadOf sys state es) es (uncollected state)
each-read sys state w r es a b =
    zip-both (IsEntryOf sys state) (λ o x. HasBaseAmong sys state es o x × IsFoundAt es o x) es (uncollected state) a
    (zip-both (HasBaseAmong sys state es) (IsFoundAt es) es (uncollected state) b
    (found-each sys state es (uncollected state) a
    (pairs-passed IsApart not_collected state.writes (reached-all sys w r.0 r.1 state r.2).restore.apart)))

reads-chain : (sys : System) (state : Machine) (choice : Choice) (settled : List Front) → Recovers sys state choice settled → (es : List Entry) → AreAscending (ids_of es)
    → AreEntriesOf sys state es (uncollected state) → AreBasesOf es es (uncollected state) → (p : ℕ) (f : Front) (e : Entry) → way_of sys.flow p ≡ Checkpoints
    → cut_of choice p ≡ At f → Contains es e → is_at_cut p (At f) e ≡ true → asked_of sys.flow choice es p ≡ bases_of es e ++ e ∷ []
reads-chain sys state choice settled r es up a b p f e way is there at =
    let z = each-read sys state r.well_formed r.reached es a b in
    by z
    (each-contained (λ o. (x : Write) × IsKnown sys state x × IsReadOf sys state es o x) e es there
    (with-writes (IsKnown sys state) (IsReadOf sys state es) es (uncollected state) (each-known sys state r.well_formed r.reached) z))
  where
    by : AllZip (IsReadOf sys state es) es (uncollected state) → (x : Write) × IsKnown sys state x × IsReadOf sys state es e x
        → asked_of sys.flow choice es p ≡ bases_of es e ++ e ∷ []
    by z own =
        let x = own.0 in
        let here = at-cut sys state p f e x own.2.0 at in
        let takes : takes_checkpoints (policy_of sys.flow p) ≡ true =
        subst (λ q. takes_checkpoints (policy_of sys.flow q) ≡ true) here.0
        (subst (λ v. IsAskedWell sys state.low state.next state.history x.node v x.stage) here.2 own.1.0).0 in
        let some : f ≢ no_stamps (bounds_of sys.flow p) = subst (λ q. f ≢ no_stamps (bounds_of sys.flow q)) here.0 (own.1.1 f here.1 here.2) in
        asked-of_chain sys state choice es up p f e way is there
        (each-contained (λ y. is_at_cut p (At f) y ≡ true → has_one_at_cut p (At f) es ≡ true) e es there (any-each (is_at_cut p (At f)) es) at)
        (sym (ap (λ q. id_at_front q f es) here.0) ∙ own.2.1.1 f here.1 here.2)
        (cut-chain sys state choice settled r (IsReadOf sys state es) (λ o y k. k.0) es z p takes f is some)

pub recovery_reads_what_is_fetched : RecoveryReadsWhatIsFetched
recovery_reads_what_is_fetched sys running records state s k choice settled r p f e way is there at =
    reads-chain sys state choice settled r running.parts.keep.entries k.ascending s.entries s.bases p f e way is there at
