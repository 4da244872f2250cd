-- What becomes of the bases of entries in each step: each has the id of the entry of its node at the front of its write's base.
use Rattle.std.proofs.Common.{◌≡◌, ℕ, Bool, true, false, cond, not, ◌&&◌, ◌||◌, ◌==◌, List, [], ◌∷◌, ◌++◌, filter, refl, sym, ap, subst, ◌∙◌, inl, inr, Option, Some, None, option_to_list, arith}
use Rattle.std.specs.List.{AllByRecursion, AllZip, Contains, list_any}
use Rattle.std.specs.Option.{option_or}
use Rattle.std.specs.Prelude.{option_and_then}
use Rattle.std.proofs.lemmas.Bool.{and_parts, cases_Bool, cond_both, eqb-true, eq-eqb, false_from_ne_true, or_left, or_right}
use Rattle.std.proofs.lemmas.List.{append_assoc}
use Rattle.std.proofs.lemmas.List.Elements.{Contains-append_right}
use Rattle.fw_lemmas.proofs.Bools.{two_ways}
use Rattle.fw_lemmas.proofs.Each.{each-both, each-kept, each-there, each-weaker}
use Rattle.fw_lemmas.proofs.SideBySide.{zip-append, zip-both, zip-weaker}
use Rattle.fw_frontier.specs.Front.{Front, same_front}
use Rattle.fw_frontier.proofs.SameLaws.{same_front-is, same_front-from}
use Rattle.fw_flow.specs.declared.choice.Choice.{Choice}
use Rattle.fw_flow.specs.declared.choice.Stamps.{Stamps}
use Rattle.fw_flow.specs.declared.event.Event.{Event as Happened}
use Rattle.fw_flow.specs.declared.kind.Policy.{Policy}
use Rattle.fw_flow.specs.declared.kind.Policy.TheVariants as policy
use Rattle.fw_flow.specs.declared.step.Step.TheVariants.{Persist, Fail, Recover}
use Rattle.fw_flow.specs.Dataflow.{System, policy_of, is_one_of}
use Rattle.fw_flow.specs.NodeFunction.{event_node}
use Rattle.fw_flow.specs.WellFormed.{IsWellFormedSystem}
use Rattle.fw_model.specs.Choice.{cut_of, filtered_history}
use Rattle.fw_model.specs.LawsOfChains.{Link, link_of, links_of, IsChain, StandsOnLast}
use Rattle.fw_model.specs.Machine.{Machine, Write, in_flight, checkpoint, logged_event}
use Rattle.fw_model.specs.Machine.{Written as WrittenBy}
use Rattle.fw_model.specs.Reached.{IsReached}
use Rattle.fw_model.specs.Steps.{Effect, LeadsTo, checkpoint_front, checkpoints_of, cuts, is_in_flight, is_kept_write, last_or, with_event, write_of_event}
use Rattle.fw_model.specs.Writes.{not_collected}
use Rattle.fw_model.proofs.AskedLaws.{IsApart, IsAskedWell, IsWriteAskedWell, last-append, reached-all, takes-declared}
use Rattle.fw_model.proofs.CollectedLaws.{reached-forget}
use Rattle.fw_model.proofs.KeptChainLaws.{kept-are_chain}
use Rattle.fw_model.proofs.NewestLaws.{newest-kept}
use Rattle.fw_model.proofs.StandingLaws.{IsWholeIfLogged}
use Rattle.fw_model.proofs.ThinnedLaws.{each-contained}
use Rattle.fw_model.proofs.WriteLaws.{ArePairs, pairs-passed}
use Rattle.fw_record.specs.declared.record.Event.{Event}
use Rattle.fw_keep.specs.declared.entry.Entry.{Entry}
use Rattle.fw_keep.specs.declared.entry.Written.{Written}
use Rattle.fw_keep.specs.declared.entry.Written.TheVariants as written
use Rattle.fw_keep.specs.Catalogue.{persisted}
use Rattle.fw_keep.specs.Entry.{is_beyond, is_checkpoint, written_front}
use Rattle.fw_keep.specs.Newest.{is_checkpoint_of, newest_by}
use Rattle.fw_policy.specs.Entries.{HoldsWhatIsWritten, HasBaseOf, IsEntryOf, AreEntriesOf, uncollected}
use Rattle.fw_stands.specs.Entries.{entry_fronts, entries_of_event, is_lost_of, id_at_front, AreBasesOf}
use Rattle.fw_stands.proofs.EntrySteps.{acknowledged-too, domains, event-flies, left-asked, lost-same, persist-left, recovered-left, undone-same}
use Rattle.fw_stands.proofs.EntryViews.{fronts-alike}
use Rattle.fw_stands.proofs.SideBySide.{zip-gone}
use Rattle.fw_stands.proofs.WrittenStays.{reached-next}

-- ---- which entries and writes are at a front

-- whether the entry, or the write, is a checkpoint of node p at f
abbrev has_front : ℕ → Front → Entry → Bool
has_front p f e = list_any (same_front f) (entry_fronts p (e ∷ []))

abbrev is_at_front : ℕ → Front → Write → Bool
is_at_front p f x = list_any (same_front f) (checkpoints_of p (x ∷ []))

-- the entry has for its base the id of the one, among these, that is at the front of the write's base
abbrev pub IsBaseAmong : List Entry → Entry → Write → Type 0
IsBaseAmong all e x = e.base ≡ option_and_then (λ f. id_at_front x.node f all) x.base

has-alike : (sys : System) (state : Machine) (p : ℕ) (f : Front) (e : Entry) (x : Write) → IsEntryOf sys state e x → has_front p f e ≡ is_at_front p f x
has-alike sys state p f e x i = ap (list_any (same_front f)) (fronts-alike sys state p (e ∷ []) (x ∷ []) (i, tt))

-- a write at a front is a checkpoint there
is-at : (p : ℕ) (f : Front) (x : Write) → is_at_front p f x ≡ true → (x.node ≡ p) × (low : List Front) × (x.written ≡ checkpoint f low)
is-at p f x k = elim (cases_Bool (x.node == p)) [
  | inr other ↦ absurd (two_ways false (sym (ap (λ b. list_any (same_front f) (cond b (checkpoint_front x.written) [] ++ [])) other) ∙ k) refl)
  | inl own ↦ by own x.written refl (sym (ap (λ b. list_any (same_front f) (cond b (checkpoint_front x.written) [] ++ [])) own) ∙ k)
]
  where
    by : (x.node == p) ≡ true → (w : WrittenBy) → x.written ≡ w → list_any (same_front f) (checkpoint_front x.written ++ []) ≡ true
        → (x.node ≡ p) × (low : List Front) × (x.written ≡ checkpoint f low)
    by own (checkpoint g low) e k =
        let same : (same_front f g || false) ≡ true = sym (ap (λ w. list_any (same_front f) (checkpoint_front w ++ [])) e) ∙ k in
        (eqb-true x.node p own, low, e ∙ ap (λ z. checkpoint z low) (sym (same_front-is f g (alone (same_front f g) same))))
      where
        alone : (b : Bool) → (b || false) ≡ true → b ≡ true
        alone true e = refl
        alone false e = e
    by own (logged_event s) e k = absurd (two_ways false (sym (ap (λ w. list_any (same_front f) (checkpoint_front w ++ [])) e) ∙ k) refl)

at-is : (p : ℕ) (f : Front) (low : List Front) (x : Write) → x.node ≡ p → x.written ≡ checkpoint f low → is_at_front p f x ≡ true
at-is p f low x i e =
    ap (λ b. list_any (same_front f) (cond b (checkpoint_front x.written) [] ++ [])) (eq-eqb x.node p i)
    ∙ ap (λ w. list_any (same_front f) (checkpoint_front w ++ [])) e ∙ ap (λ b. b || false) (same_front-from f f refl)

-- no two of these entries are checkpoints of node p at one front
abbrev AreApart : ℕ → List Entry → Type 0
AreApart p [] = Unit {0}
AreApart p (e ∷ es) = ((f : Front) → has_front p f e ≡ true → AllByRecursion (λ o. has_front p f o ≡ false) es) × AreApart p es

zip-lefts : (P : Write → Type 0) (R : Entry → Write → Type 0) (Q : Entry → Type 0) → ((e : Entry) (x : Write) → P x → R e x → Q e) → (es : List Entry) (xs : List Write)
    → AllByRecursion P xs → AllZip R es xs → AllByRecursion Q es
zip-lefts P R Q k [] xs a z = tt
zip-lefts P R Q k (e ∷ es) [] a z = absurd z
zip-lefts P R Q k (e ∷ es) (x ∷ xs) a z = (k e x a.0 z.0, zip-lefts P R Q k es xs a.1 z.1)

pub apart-at : (n : ℕ) (w : WrittenBy) (q : ℕ) (v : WrittenBy) → IsApart n w q v → n ≡ q → (f : Front) (l m : List Front) → w ≡ checkpoint f l → v ≡ checkpoint f m → ⊥
apart-at n w q v a i f l m j k =
    (subst (λ y. IsApart n (checkpoint f l) q y) k (subst (λ y. IsApart n y q v) j a)) i refl

are-apart : (sys : System) (state : Machine) (p : ℕ) (es : List Entry) (xs : List Write) → AreEntriesOf sys state es xs → ArePairs IsApart xs → AreApart p es
are-apart sys state p [] xs a k = tt
are-apart sys state p (e ∷ es) [] a k = absurd a
are-apart sys state p (e ∷ es) (x ∷ xs) a k = (
  λ f has.
      let one = is-at p f x (sym (has-alike sys state p f e x a.0) ∙ has) in
      zip-lefts (λ (y : Write). IsApart x.node x.written y.node y.written) (IsEntryOf sys state) (λ o. has_front p f o ≡ false)
      (λ o y apart i. false_from_ne_true (has_front p f o) (λ h.
      let two = is-at p f y (sym (has-alike sys state p f o y i) ∙ h) in
      apart-at x.node x.written y.node y.written apart (one.0 ∙ sym two.0) f one.1 two.1 one.2 two.2)) es xs k.0 a.1,
  are-apart sys state p es xs a.1 k.1,
)

-- ---- the id at a front

none-any : {A : Type 0} (test : A → Bool) (xs : List A) → AllByRecursion (λ x. test x ≡ false) xs → list_any test xs ≡ false
none-any test [] a = refl
none-any test (x ∷ xs) a = ap (λ b. b || list_any test xs) a.0 ∙ none-any test xs a.1

-- the id at a front is that among those that are left, if it is left
id-left : (p : ℕ) (f : Front) (stays : Entry → Bool) (es : List Entry) → AreApart p es → list_any (has_front p f) (filter stays es) ≡ true
    → id_at_front p f (filter stays es) ≡ id_at_front p f es
id-left p f stays [] a there = refl
id-left p f stays (e ∷ es) a there = elim (cases_Bool (has_front p f e)) [
  | inl has ↦
      let here : (xs : List Entry) → id_at_front p f (e ∷ xs) ≡ Some e.id = λ xs. ap (λ b. cond b (Some e.id) (id_at_front p f xs)) has in
      elim (cases_Bool (stays e)) [
        | inl on ↦ ap (λ b. id_at_front p f (cond b (e ∷ filter stays es) (filter stays es))) on ∙ here (filter stays es) ∙ sym (here es)
        | inr off ↦
            absurd (two_ways (list_any (has_front p f) (filter stays es))
            (sym (ap (λ b. list_any (has_front p f) (cond b (e ∷ filter stays es) (filter stays es))) off) ∙ there)
            (none-any (has_front p f) (filter stays es) (each-kept (λ o. has_front p f o ≡ false) stays es (a.0 f has))))
      ]
  | inr hasnt ↦
      let past : (xs : List Entry) → id_at_front p f (e ∷ xs) ≡ id_at_front p f xs = λ xs. ap (λ b. cond b (Some e.id) (id_at_front p f xs)) hasnt in
      elim (cases_Bool (stays e)) [
        | inl on ↦
            let rest = id-left p f stays es a.1
            (sym (ap (λ b. b || list_any (has_front p f) (filter stays es)) hasnt) ∙ sym (ap (λ b. list_any (has_front p f) (cond b (e ∷ filter stays es) (filter stays es))) on) ∙ there) in
            ap (λ b. id_at_front p f (cond b (e ∷ filter stays es) (filter stays es))) on ∙ past (filter stays es) ∙ rest ∙ sym (past es)
        | inr off ↦
            let rest = id-left p f stays es a.1 (sym (ap (λ b. list_any (has_front p f) (cond b (e ∷ filter stays es) (filter stays es))) off) ∙ there) in
            ap (λ b. id_at_front p f (cond b (e ∷ filter stays es) (filter stays es))) off ∙ rest ∙ sym (past es)
      ]
]

-- the id at a front stays that with more entries behind
pub id-before : (p : ℕ) (f : Front) (id : ℕ) (es more : List Entry) → id_at_front p f es ≡ Some id → id_at_front p f (es ++ more) ≡ Some id
id-before p f id [] more k = absurd (let c : None ≡ Some id = k in cc)
id-before p f id (e ∷ es) more k =
    cond_both (has_front p f e) (Some e.id) (id_at_front p f (es ++ more)) (λ o. o ≡ Some id)
    (λ has. sym (ap (λ b. cond b (Some e.id) (id_at_front p f es)) has) ∙ k)
    (λ hasnt. id-before p f id es more (sym (ap (λ b. cond b (Some e.id) (id_at_front p f es)) hasnt) ∙ k))

-- and where entries are acknowledged
id-persisted : (p : ℕ) (f : Front) (es : List Entry) → id_at_front p f (persisted es) ≡ id_at_front p f es
id-persisted p f [] = refl
id-persisted p f (e ∷ es) =
    cond_both e.acknowledged (e ∷ persisted es) (record e { acknowledged = true } ∷ es) (λ xs. id_at_front p f xs ≡ id_at_front p f (e ∷ es))
    (λ k. ap (λ o. cond (has_front p f e) (Some e.id) o) (id-persisted p f es)) (λ k. refl)

-- ---- the front of a base is there

-- the base of a checkpoint of node p is the front of one of these
abbrev IsBasedAmong : ℕ → List Write → Write → Type 0
IsBasedAmong p all x = x.node ≡ p → (g : Front) (low : List Front) → x.written ≡ checkpoint g low → (f : Front) → x.base ≡ Some f → list_any (is_at_front p f) all ≡ true

-- the last one so far is among these
abbrev IsLastAmong : ℕ → List Write → Option Link → Type 0
IsLastAmong p all None = Unit {0}
IsLastAmong p all (Some l) = list_any (is_at_front p l.front) all ≡ true

some-here : {A : Type 0} (test : A → Bool) (xs : List A) (x : A) (ys : List A) → test x ≡ true → list_any test (xs ++ x ∷ ys) ≡ true
some-here test [] x ys k = or_left (test x) (list_any test ys) k
some-here test (z ∷ xs) x ys k = or_right (test z) (list_any test (xs ++ x ∷ ys)) (some-here test xs x ys k)

on-last : (p : ℕ) (all : List Write) (last : Option Link) (link : Link) → StandsOnLast last link → IsLastAmong p all last → (f : Front) → link.base ≡ Some f
    → list_any (is_at_front p f) all ≡ true
on-last p all None link s a f e = absurd (let c : None ≡ Some f = sym s.0 ∙ e in cc)
on-last p all (Some l) link (inl whole) a f e = absurd (let c : None ≡ Some f = sym whole.0 ∙ e in cc)
on-last p all (Some l) link (inr on) a f e =
    let c : Some l.front ≡ Some f = sym on.0 ∙ e in
    let same : l.front ≡ f = cc in
    subst (λ g. list_any (is_at_front p g) all ≡ true) same a

-- so it is of those that come next
abbrev IsRest : ℕ → List Write → List Write → Type 0
IsRest p all xs = (last : Option Link) → IsChain last (links_of p xs) → IsLastAmong p all last → AllByRecursion (IsBasedAmong p all) xs

chain-based : (p : ℕ) (all : List Write) (last : Option Link) (before xs : List Write) → all ≡ before ++ xs → IsChain last (links_of p xs) → IsLastAmong p all last
    → AllByRecursion (IsBasedAmong p all) xs
chain-based p all last before [] e c a = tt
chain-based p all last before (x ∷ xs) e c a =
    let rest : IsRest p all xs = λ l d b. chain-based p all l (before ++ x ∷ []) xs (e ∙ sym (append_assoc before (x ∷ []) xs)) d b in
    elim (cases_Bool (x.node == p)) [
      | inr other ↦
          let none : cond (x.node == p) (link_of x.base x.depth x.written) [] ≡ [] = ap (λ b. cond b (link_of x.base x.depth x.written) []) other in (
            λ i. absurd (two_ways (x.node == p) (eq-eqb x.node p i) other),
            rest last (subst (λ ls. IsChain last (ls ++ links_of p xs)) none c) a,
          )
      | inl own ↦ by rest (ap (λ b. cond b (link_of x.base x.depth x.written) []) own) x.written refl
    ]
  where
    by : IsRest p all xs → cond (x.node == p) (link_of x.base x.depth x.written) [] ≡ link_of x.base x.depth x.written → (w : WrittenBy) → x.written ≡ w → AllByRecursion (IsBasedAmong p all) (x ∷ xs)
    by rest own (logged_event s) is = (
      λ i g low k. absurd (let c : logged_event s ≡ checkpoint g low = sym is ∙ k in cc),
      rest last (subst (λ ls. IsChain last (ls ++ links_of p xs)) (own ∙ ap (link_of x.base x.depth) is) c) a,
    )
    by rest own (checkpoint g low) is =
        let link : Link = record { front = g; base = x.base; depth = x.depth } in
        let on : IsChain last (link ∷ links_of p xs) = subst (λ ls. IsChain last (ls ++ links_of p xs)) (own ∙ ap (link_of x.base x.depth) is) c in (
          λ i h m k f b. on-last p all last link on.0 a f b,
          elim (cases_Bool (x.node == p)) [
            | inl mine ↦
                rest (Some link) on.1
                (subst (λ ys. list_any (is_at_front p g) ys ≡ true) (sym e) (some-here (is_at_front p g) before x xs (at-is p g low x (eqb-true x.node p mine) is)))
            | inr other ↦
                let none : cond (x.node == p) (link_of x.base x.depth x.written) [] ≡ [] = ap (λ b. cond b (link_of x.base x.depth x.written) []) other in
                absurd (let d : [] ≡ link ∷ [] = sym none ∙ own ∙ ap (link_of x.base x.depth) is in cc)
          ],
        )

-- in each state to which steps lead the base of each write that was not collected is the front of one that was not either
based-among : (sys : System) → IsWellFormedSystem sys → (state : Machine) → IsReached sys state
    → AllByRecursion (λ (x : Write). (f : Front) → x.base ≡ Some f → list_any (is_at_front x.node f) (uncollected state) ≡ true) (uncollected state)
based-among sys w state r =
    let all = uncollected state in
    let c = reached-forget sys w r.0 r.1 state r.2 in
    let Asked : Write → Type 0 = IsWriteAskedWell sys state.low state.next state.history in
    let Known : Write → Type 0 = λ x. Asked x × IsWholeIfLogged x in
    each-weaker (λ (x : Write). Contains all x × Known x) (λ (x : Write). (f : Front) → x.base ≡ Some f → list_any (is_at_front x.node f) all ≡ true) all
    (λ x k. by x k.0 k.1.0 k.1.1 x.written refl)
    (each-both (Contains all) Known all (each-there all)
    (each-kept Known not_collected state.writes (each-both Asked IsWholeIfLogged state.writes c.reached.restore.asked c.logged)))
  where
    by : (x : Write) → Contains (uncollected state) x → IsWriteAskedWell sys state.low state.next state.history x → IsWholeIfLogged x → (v : WrittenBy) → x.written ≡ v
        → (f : Front) → x.base ≡ Some f → list_any (is_at_front x.node f) (uncollected state) ≡ true
    by x there asked whole (checkpoint g low) e f b =
        let well = subst (λ v. IsAskedWell sys state.low state.next state.history x.node v x.stage) e asked in
        let declared = takes-declared sys.flow x.node well.0 in
        each-contained (IsBasedAmong x.node (uncollected state)) x (uncollected state) there
        (chain-based x.node (uncollected state) None [] (uncollected state) refl (kept-are_chain sys w r.0 r.1 state r.2 x.node declared) tt) refl g low e f b
    by x there asked whole (logged_event s) e f b = absurd (let c : None ≡ Some f = sym (whole s e) ∙ b in cc)

any-alike : (sys : System) (state : Machine) (p : ℕ) (f : Front) (es : List Entry) (xs : List Write) → AreEntriesOf sys state es xs
    → list_any (has_front p f) es ≡ list_any (is_at_front p f) xs
any-alike sys state p f [] [] a = refl
any-alike sys state p f [] (x ∷ xs) a = absurd a
any-alike sys state p f (e ∷ es) [] a = absurd a
any-alike sys state p f (e ∷ es) (x ∷ xs) a =
    ap (λ b. b || list_any (has_front p f) es) (has-alike sys state p f e x a.0) ∙ ap (λ b. is_at_front p f x || b) (any-alike sys state p f es xs a.1)

-- ---- the bases

-- an entry and its base among these
abbrev pub IsBasedEntry : System → Machine → List Entry → Entry → Write → Type 0
IsBasedEntry sys state all e x = IsEntryOf sys state e x × IsBaseAmong all e x

-- where entries are lost, and what is left stands for writes that are left, each base is left
pub bases_are_left : (sys : System) → IsWellFormedSystem sys → (state next : Machine) → IsReached sys state → IsReached sys next
    → (entries : List Entry) → AreEntriesOf sys state entries (uncollected state) → (stays : Entry → Bool)
    → AllZip (IsBasedEntry sys state entries) (filter stays entries) (uncollected next) → AreBasesOf (filter stays entries) (filter stays entries) (uncollected next)
bases_are_left sys w state next r s es a stays z =
    let left = filter stays es in
    let apart : (p : ℕ) → AreApart p es =
    λ p. are-apart sys state p es (uncollected state) a (pairs-passed IsApart not_collected state.writes (reached-all sys w r.0 r.1 state r.2).restore.apart) in
    let of : AreEntriesOf sys state left (uncollected next) = zip-weaker (IsBasedEntry sys state es) (IsEntryOf sys state) left (uncollected next) (λ e x k. k.0) z in
    along left (uncollected next)
    (λ (x : Write). (f : Front) → x.base ≡ Some f → list_any (is_at_front x.node f) (uncollected next) ≡ true)
    (λ e x k i. by e x x.base refl apart
    (λ f b. any-alike sys state x.node f left (uncollected next) of ∙ k f b) i.1) (based-among sys w next s) z
  where
    along : (fs : List Entry) (xs : List Write) (P : Write → Type 0) → ((e : Entry) (x : Write) → P x → IsBasedEntry sys state es e x → IsBaseAmong (filter stays es) e x)
        → AllByRecursion P xs → AllZip (IsBasedEntry sys state es) fs xs → AllZip (IsBaseAmong (filter stays es)) fs xs
    along [] [] P k p z = tt
    along [] (x ∷ xs) P k p z = absurd z
    along (e ∷ fs) [] P k p z = absurd z
    along (e ∷ fs) (x ∷ xs) P k p z = (k e x p.0 z.0, along fs xs P k p.1 z.1)

    by : (e : Entry) (x : Write) (base : Option Front) → x.base ≡ base → ((p : ℕ) → AreApart p es)
        → ((f : Front) → x.base ≡ Some f → list_any (has_front x.node f) (filter stays es) ≡ true) → IsBaseAmong es e x → IsBaseAmong (filter stays es) e x
    by e x None b apart there i =
        i ∙ ap (option_and_then (λ f. id_at_front x.node f es)) b ∙ sym (ap (option_and_then (λ f. id_at_front x.node f (filter stays es))) b)
    by e x (Some f) b apart there i =
        i ∙ ap (option_and_then (λ g. id_at_front x.node g es)) b ∙ sym (id-left x.node f stays es (apart x.node) (there f b))
        ∙ sym (ap (option_and_then (λ g. id_at_front x.node g (filter stays es))) b)

-- with more entries behind each has its base still
base-before : (sys : System) (state : Machine) (es more : List Entry) (e : Entry) (x : Write) → IsBasedEntry sys state es e x → IsBaseAmong (es ++ more) e x
base-before sys state es more e x k = by x.base refl
  where
    some-id : (base : Option ℕ) (f : Front) → HasBaseOf base (Some f) → (id : ℕ) × (base ≡ Some id)
    some-id None f h = absurd h
    some-id (Some id) f h = (id, refl)

    by : (base : Option Front) → x.base ≡ base → IsBaseAmong (es ++ more) e x
    by None b = k.1 ∙ ap (option_and_then (λ f. id_at_front x.node f es)) b ∙ sym (ap (option_and_then (λ f. id_at_front x.node f (es ++ more))) b)
    by (Some f) b =
        let id = some-id e.base f (subst (HasBaseOf e.base) b k.0.base) in
        let is : id_at_front x.node f es ≡ Some id.0 = sym (k.1 ∙ ap (option_and_then (λ g. id_at_front x.node g es)) b) ∙ id.1 in
        id.1 ∙ sym (id-before x.node f id.0 es more is) ∙ sym (ap (option_and_then (λ g. id_at_front x.node g (es ++ more))) b)

-- a step that asks writes leaves the bases, and those of the new entries are as they are asked
pub bases_after_asking : (sys : System) (state next : Machine) (writes : List Write) → next.writes ≡ state.writes ++ writes
    → AllByRecursion (λ (write : Write). write.stage ≡ in_flight) writes
    → (entries more : List Entry) → AreEntriesOf sys state entries (uncollected state) → AreBasesOf entries entries (uncollected state)
    → AreBasesOf (entries ++ more) more writes → AreBasesOf (entries ++ more) (entries ++ more) (uncollected next)
bases_after_asking sys state next asks e fly es more a b new =
    let all = es ++ more in
    subst (AllZip (IsBaseAmong all) all) (sym (left-asked next state.writes asks e fly))
    (zip-append (IsBaseAmong all) es (uncollected state) more asks
    (zip-weaker (IsBasedEntry sys state es) (IsBaseAmong all) es (uncollected state) (λ e x k. base-before sys state es more e x k)
    (zip-both (IsEntryOf sys state) (IsBaseAmong es) es (uncollected state) a b)) new)

-- the bases stay where the writes do
pub bases_after_step : (state next : Machine) → next.writes ≡ state.writes → (entries : List Entry) → AreBasesOf entries entries (uncollected state)
    → AreBasesOf entries entries (uncollected next)
bases_after_step state next e es b = subst (AreBasesOf es es) (sym (ap (filter not_collected) e)) b

-- and where an event adds its entry, which has none
pub bases_after_event : (sys : System) (state next : Machine) (v : Happened) → next ≡ with_event sys state v → (event : Event) (id : ℕ) (stamps : Stamps)
    → (entries : List Entry) → AreEntriesOf sys state entries (uncollected state) → AreBasesOf entries entries (uncollected state)
    → let all = entries ++ entries_of_event (policy_of sys.flow (event_node sys.flow v)) (event_node sys.flow v) id event stamps in
    AreBasesOf all all (uncollected next)
bases_after_event sys state next v e event id stamps es a b =
    let p = event_node sys.flow v in
    let asks = policy_of sys.flow p in
    bases_after_asking sys state next (write_of_event asks p state.next) (ap (λ (m : Machine). m.writes) e) (event-flies asks p state.next) es
    (entries_of_event asks p id event stamps) a b (none asks p (es ++ entries_of_event asks p id event stamps))
  where
    none : (asks : Policy) (p : ℕ) (all : List Entry) → AreBasesOf all (entries_of_event asks p id event stamps) (write_of_event asks p state.next)
    none policy.Full p all = (refl, tt)
    none policy.None p all = tt
    none policy.Lazy p all = tt
    none policy.Logged p all = tt
    none policy.Eager p all = tt

-- where the oldest entry in flight is acknowledged
pub bases_after_persist : (sys : System) (state next : Machine) (effect : Effect) → LeadsTo sys state Persist next effect
    → (entries : List Entry) → AreEntriesOf sys state entries (uncollected state) → AreBasesOf entries entries (uncollected state)
    → AreBasesOf (persisted entries) (persisted entries) (uncollected next)
bases_after_persist sys state next effect t es a b =
    let R : Entry → Write → Type 0 = IsBasedEntry sys state es in
    subst (λ (m : Machine). AreBasesOf (persisted es) (persisted es) (uncollected m)) (sym t.2)
    (zip-weaker R (IsBaseAmong (persisted es)) (persisted es) (filter not_collected t.0) (λ e x k. k.1 ∙ sym (same x.node x.base))
    (persist-left R (λ e x k. (k.0).acknowledged) (λ e x k. (acknowledged-too sys state e x k.0, k.1)) state.writes t.0 t.1 es
    (zip-both (IsEntryOf sys state) (IsBaseAmong es) es (uncollected state) a b)))
  where
    same : (p : ℕ) (base : Option Front) → option_and_then (λ f. id_at_front p f (persisted es)) base ≡ option_and_then (λ f. id_at_front p f es) base
    same p None = refl
    same p (Some f) = id-persisted p f es

-- where nodes fail
pub bases_after_failure : (sys : System) → IsWellFormedSystem sys → (state : Machine) → IsReached sys state
    → (ps : List ℕ) (next : Machine) (effect : Effect) → LeadsTo sys state (Fail ps) next effect
    → (entries : List Entry) → AreEntriesOf sys state entries (uncollected state) → AreBasesOf entries entries (uncollected state)
    → let left = filter (λ e. not (is_lost_of ps e)) entries in AreBasesOf left left (uncollected next)
bases_after_failure sys w state r ps next effect t es a b =
    let R : Entry → Write → Type 0 = IsBasedEntry sys state es in
    let stays : Entry → Bool = λ e. not (is_lost_of ps e) in
    bases_are_left sys w state next r (reached-next sys state r (Fail ps) next effect t) es a stays
    (subst (λ (m : Machine). AllZip R (filter stays es) (uncollected m)) (sym t.4)
    (zip-gone R not_collected stays (λ (x : Write). not (is_one_of x.node ps && is_in_flight x.stage)) es state.writes
    (λ e x left k. lost-same sys state ps e x left k.0)
    (zip-both (IsEntryOf sys state) (IsBaseAmong es) es (uncollected state) a b)))

-- after a recovery
pub bases_after_recovery : (sys : System) → IsWellFormedSystem sys → (state : Machine) → IsReached sys state
    → (choice : Choice) (next : Machine) → LeadsTo sys state Recover next (cuts choice)
    → (entries : List Entry) → AreEntriesOf sys state entries (uncollected state) → AreBasesOf entries entries (uncollected state)
    → let left = filter (λ e. not (is_beyond (cut_of choice e.node) e)) entries in AreBasesOf left left (uncollected next)
bases_after_recovery sys w state r choice next t es a b =
    let R : Entry → Write → Type 0 = IsBasedEntry sys state es in
    let stays : Entry → Bool = λ e. not (is_beyond (cut_of choice e.node) e) in
    let keeps : Write → Bool = λ x. is_kept_write (cut_of choice x.node) x.written (filtered_history sys choice state.history) in
    let o = (reached-all sys w r.0 r.1 state r.2).restore.serials in
    bases_are_left sys w state next r (reached-next sys state r Recover next (cuts choice) t) es a stays
    (subst (λ xs. AllZip R (filter stays es) (filter not_collected xs)) (sym (recovered-left sys state choice next t))
    (zip-gone R not_collected stays keeps es state.writes (λ e x left k. undone-same sys state choice o (domains sys w state r) e x k.0)
    (zip-both (IsEntryOf sys state) (IsBaseAmong es) es (uncollected state) a b)))

-- ---- the newest checkpoint

-- The entry stands for the last of these writes that is a checkpoint of node p.
pub record IsNewestEntry (sys : System) (state : Machine) (entries : List Entry) (writes : List Write) (p : ℕ) (e : Entry) : Type 0 where
  pub among : Contains entries e
  pub write : Write
  pub earlier : List Write
  pub later : List Write
  pub there : writes ≡ earlier ++ write ∷ later
  pub none : checkpoints_of p later ≡ []
  pub of_write : IsEntryOf sys state e write
  pub node : write.node ≡ p
  pub front : Front
  pub low : List Front
  pub of_checkpoint : write.written ≡ checkpoint front low
  pub last : (f : Front) → last_or f (checkpoints_of p writes) ≡ front
  pub at : list_any (has_front p front) entries ≡ true
  pub named : id_at_front p front entries ≡ Some e.id

none-newest : (p : ℕ) (es : List Entry) → newest_by p es ≡ None → entry_fronts p es ≡ []
none-newest p [] k = refl
none-newest p (e ∷ es) k = by (none-newest p es) (newest_by p es) refl (is_checkpoint_of p e) refl k
  where
    by : (newest_by p es ≡ None → entry_fronts p es ≡ []) → (o : Option Entry) → newest_by p es ≡ o → (b : Bool) → is_checkpoint_of p e ≡ b
        → option_or o (cond b (Some e) None) ≡ None → entry_fronts p (e ∷ es) ≡ []
    by rest (Some x) h b j k = absurd (let c : Some x ≡ None = k in cc)
    by rest None h true j k = absurd (let c : Some e ≡ None = k in cc)
    by rest None h false j k =
        ap (λ fs. fs ++ entry_fronts p es) (cond_both (e.node == p) (option_to_list (written_front e.written)) [] (λ fs. fs ≡ []) (λ own. other e.written (sym (ap (λ b. b && is_checkpoint e.written) own) ∙ j)) (λ n. refl))
        ∙ rest h
      where
        other : (w : Written) → is_checkpoint w ≡ false → option_to_list (written_front w) ≡ []
        other (written.Checkpoint r t n) i = absurd (two_ways true refl i)
        other (written.Event event) i = refl

some-entry : (a b : Entry) → Some a ≡ Some b → a ≡ b
some-entry a b e = cc

-- an entry of a checkpoint stands for one
of-checkpoint : (sys : System) (state : Machine) (p : ℕ) (e : Written) (w : WrittenBy) → HoldsWhatIsWritten sys state p e w → is_checkpoint e ≡ true
    → (front : Front) × (low : List Front) × (w ≡ checkpoint front low)
of-checkpoint sys state p (written.Checkpoint r t n) (checkpoint f low) h i = (f, low, refl)
of-checkpoint sys state p (written.Checkpoint r t n) (logged_event s) h i = absurd h
of-checkpoint sys state p (written.Event event) w h i = absurd (two_ways false i refl)

newest-among : (sys : System) (state : Machine) (p : ℕ) (es : List Entry) (xs : List Write) → AreEntriesOf sys state es xs → AreApart p es → (e : Entry) → newest_by p es ≡ Some e
    → IsNewestEntry sys state es xs p e
newest-among sys state p [] xs a d e k = absurd (let c : None ≡ Some e = k in cc)
newest-among sys state p (z ∷ es) [] a d e k = absurd a
newest-among sys state p (z ∷ es) (x ∷ xs) a d e k = by (newest-among sys state p es xs a.1 d.1 e) (newest_by p es) refl (is_checkpoint_of p z) refl k
  where
    by : (newest_by p es ≡ Some e → IsNewestEntry sys state es xs p e) → (o : Option Entry) → newest_by p es ≡ o → (b : Bool) → is_checkpoint_of p z ≡ b
        → option_or o (cond b (Some z) None) ≡ Some e → IsNewestEntry sys state (z ∷ es) (x ∷ xs) p e
    by later (Some y) h b j k =
        let rest = later (h ∙ k) in
        let past : has_front p rest.front z ≡ false =
        false_from_ne_true (has_front p rest.front z) (λ has. two_ways (list_any (has_front p rest.front) es) rest.at (none-any (has_front p rest.front) es (d.0 rest.front has))) in
        record {
          among = Contains-append_right (z ∷ []) es e rest.among;
          write = rest.write;
          earlier = x ∷ rest.earlier;
          later = rest.later;
          there = ap (λ ys. x ∷ ys) rest.there;
          none = rest.none;
          of_write = rest.of_write;
          node = rest.node;
          front = rest.front;
          low = rest.low;
          of_checkpoint = rest.of_checkpoint;
          last = λ f. last-append f (cond (x.node == p) (checkpoint_front x.written) []) (checkpoints_of p xs) ∙ rest.last (last_or f (cond (x.node == p) (checkpoint_front x.written) []));
          at = or_right (has_front p rest.front z) (list_any (has_front p rest.front) es) rest.at;
          named = ap (λ b. cond b (Some z.id) (id_at_front p rest.front es)) past ∙ rest.named;
        }
    by later None h false j k = absurd (let c : None ≡ Some e = k in cc)
    by later None h true j k =
        let same : z ≡ e = some-entry z e k in
        let parts = and_parts (z.node == p) (is_checkpoint z.written) j in
        let node : x.node ≡ p = sym (a.0).node ∙ eqb-true z.node p parts.0 in
        let is = of-checkpoint sys state x.node z.written x.written (a.0).holds parts.1 in
        let here : has_front p is.0 z ≡ true = has-alike sys state p is.0 z x a.0 ∙ at-is p is.0 is.1 x node is.2 in
        let none : checkpoints_of p xs ≡ [] = sym (fronts-alike sys state p es xs a.1) ∙ none-newest p es h in
        record {
          among = (0, omega arith, same);
          write = x;
          earlier = [];
          later = xs;
          there = refl;
          none = none;
          of_write = subst (λ y. IsEntryOf sys state y x) same a.0;
          node = node;
          front = is.0;
          low = is.1;
          of_checkpoint = is.2;
          last = λ f.
              ap (λ b. last_or f (cond b (checkpoint_front x.written) [] ++ checkpoints_of p xs)) (eq-eqb x.node p node)
              ∙ ap (λ w. last_or f (checkpoint_front w ++ checkpoints_of p xs)) is.2 ∙ ap (last_or is.0) none;
          at = or_left (has_front p is.0 z) (list_any (has_front p is.0) es) here;
          named = ap (λ b. cond b (Some z.id) (id_at_front p is.0 es)) here ∙ ap (λ (y : Entry). Some y.id) same;
        }

-- the last entry of a checkpoint of node p stands for its newest one among the writes that were not collected
pub newest_entry_is_of_write : (sys : System) → IsWellFormedSystem sys → (state : Machine) → IsReached sys state
    → (entries : List Entry) → AreEntriesOf sys state entries (uncollected state)
    → (p : ℕ) (e : Entry) → newest_by p entries ≡ Some e → IsNewestEntry sys state entries (uncollected state) p e
newest_entry_is_of_write sys w state r es a p =
    newest-among sys state p es (uncollected state) a
    (are-apart sys state p es (uncollected state) a (pairs-passed IsApart not_collected state.writes (reached-all sys w r.0 r.1 state r.2).restore.apart))

-- where there is none node p has asked no checkpoint
pub none_is_asked : (sys : System) → IsWellFormedSystem sys → (state : Machine) → IsReached sys state
    → (entries : List Entry) → AreEntriesOf sys state entries (uncollected state)
    → (p : ℕ) → newest_by p entries ≡ None → checkpoints_of p state.writes ≡ []
none_is_asked sys w state r es a p k =
    let none : checkpoints_of p (uncollected state) ≡ [] = sym (fronts-alike sys state p es (uncollected state) a) ∙ none-newest p es k in
    let same : (f : Front) → last_or f (checkpoints_of p state.writes) ≡ f = λ f. newest-kept sys w r.0 r.1 state r.2 p f ∙ ap (last_or f) none in
    nothing (checkpoints_of p state.writes) same
  where
    nothing : (fs : List Front) → ((f : Front) → last_or f fs ≡ f) → fs ≡ []
    nothing [] h = refl
    nothing (g ∷ fs) h = absurd (let c : [] ≡ [] ∷ [] = sym (h []) ∙ h ([] ∷ []) in cc)
