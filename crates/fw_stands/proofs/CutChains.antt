-- Which chain of checkpoints is read for a node that is cut: one that ends at the cut, and none where that has no stamps.
use Rattle.std.proofs.Common.{◌≡◌, ◌≢◌, ℕ, true, cond, ◌==◌, List, [], ◌∷◌, ◌++◌, filter, Some, None, refl, sym, ap, subst, ◌∙◌, inl, inr}
use Rattle.std.specs.List.{AllByRecursion, AllZip}
use Rattle.std.specs.Option.{option_or}
use Rattle.std.proofs.lemmas.Bool.{cases_Bool}
use Rattle.std.proofs.lemmas.List.Elements.{filter-append}
use Rattle.fw_lemmas.proofs.Bools.{two_ways}
use Rattle.fw_lemmas.proofs.Each.{each-both, each-kept, each-passed, each-weaker}
use Rattle.fw_lemmas.proofs.Filters.{filter-in}
use Rattle.fw_lemmas.proofs.SideBySide.{zip-both, zip-right, zip-weaker}
use Rattle.fw_frontier.specs.Front.{Front, frontier_of, is_within, IsCanonical}
use Rattle.fw_frontier.proofs.NamesLaws.{inside-is_within, is_within-holds}
use Rattle.fw_flow.specs.declared.choice.Choice.{Choice}
use Rattle.fw_flow.specs.declared.choice.Cut.TheVariants.{At}
use Rattle.fw_flow.specs.Dataflow.{System, bounds_of, policy_of}
use Rattle.fw_flow.specs.WellFormed.{IsWellFormedSystem}
use Rattle.fw_model.specs.Choice.{kept, cut_of, is_counted}
use Rattle.fw_model.specs.LawsOfChains.{links_of, IsChain}
use Rattle.fw_model.specs.Machine.{Machine, Write, checkpoint, logged_event, is_failed, no_stamps}
use Rattle.fw_model.specs.Machine.{Written as WrittenBy}
use Rattle.fw_model.specs.Reached.{IsReached}
use Rattle.fw_model.specs.Steps.{checkpoint_front, is_in_flight}
use Rattle.fw_model.specs.Writes.{IsKeptWithin, not_collected, takes_checkpoints}
use Rattle.fw_model.proofs.AskedLaws.{IsApart, IsAskedWell, IsWriteAskedWell, reached-all, takes-declared}
use Rattle.fw_model.proofs.CheckpointFrontLaws.{checkpoints-have_stamps}
use Rattle.fw_model.proofs.ChoiceLaws.{same_fronts}
use Rattle.fw_model.proofs.CollectedLaws.{reached-forget}
use Rattle.fw_model.proofs.ForgottenLaws.{AreInOrder}
use Rattle.fw_model.proofs.KeptChainLaws.{kept-are_chain}
use Rattle.fw_model.proofs.LowLaws.{none-canonical, none-within}
use Rattle.fw_model.proofs.RestoringLaws.{cuts-kept, watermarks-today}
use Rattle.fw_model.proofs.StandingLaws.{pairs-before}
use Rattle.fw_model.proofs.WriteLaws.{ArePairs, LiesBelow, pairs-passed}
use Rattle.fw_record.specs.declared.record.Checkpoint.{Checkpoint}
use Rattle.fw_record.specs.declared.record.Record.{Record}
use Rattle.fw_record.specs.declared.record.Record.TheVariants as tagged
use Rattle.fw_keep.specs.declared.entry.Entry.{Entry}
use Rattle.fw_keep.specs.Chains.{changes_of}
use Rattle.fw_keep.specs.Newest.{is_between, whole_front, whole_within}
use Rattle.fw_keep.specs.Stored.{Records, HoldsAs}
use Rattle.fw_stands.specs.Chains.{IsChainFor}
use Rattle.fw_stands.specs.Read.{IsChainRead}
use Rattle.fw_stands.specs.Recovered.{Recovers}
use Rattle.fw_stands.specs.Written.{AreEntriesOf, IsEntryOf, IsHeldAs, AreStored, uncollected}
use Rattle.fw_stands.proofs.ChainRecords.{IsReadAs, chain-for}
use Rattle.fw_stands.proofs.ReadChains.{IsBefore, before-pairs, chain-read, landed-before, none-both, viewed}
use Rattle.fw_stands.proofs.ReadLaws.{first-is}

-- ---- the entries

as-written : (f : Front) (w : WrittenBy) → checkpoint_front w ≡ f ∷ [] → (low : List Front) × (w ≡ checkpoint f low)
as-written f (checkpoint g low) e = (low, ap (λ x. checkpoint x low) (first-is g f e))
as-written f (logged_event s) e = absurd (cc e)

front-is : (g f : Front) (l low : List Front) → checkpoint g l ≡ checkpoint f low → g ≡ f
front-is g f l low e = first-is g f (ap checkpoint_front e)

-- where a node that takes checkpoints is cut to a front with a stamp inside, the entries from the newest whole one within it up to it stand
-- for a chain
pub cut-chain : (sys : System) (state : Machine) (choice : Choice) (settled : List Front) → Recovers sys state choice settled
    → (R : Entry → Write → Type 0) → ((e : Entry) (w : Write) → R e w → IsEntryOf sys state e w)
    → (entries : List Entry) → AllZip R entries (uncollected state)
    → (p : ℕ) → takes_checkpoints (policy_of sys.flow p) ≡ true → (f : Front) → cut_of choice p ≡ At f → f ≢ no_stamps (bounds_of sys.flow p)
    → IsChainRead R entries p f
cut-chain sys state choice settled r R entry es z p takes f is some =
    let w = r.well_formed in
    let steps = r.reached.0 in
    let outcomes = r.reached.1 in
    let run = r.reached.2 in
    let c = reached-forget sys w steps outcomes state run in
    let known = c.reached in
    let declared = takes-declared sys.flow p takes in
    let kept_one = cuts-kept sys w steps outcomes state run (is_failed state) choice r.largest p f takes is some in
    let only = kept_one.0 in
    let one = only.one in
    let what = as-written f one.written only.is_such.1 in
    let before : List Write = filter not_collected only.earlier in
    let after : List Write = filter not_collected only.later in
    let split : uncollected state ≡ before ++ one ∷ after =
    ap (filter not_collected) only.there ∙ filter-append not_collected only.earlier (one ∷ only.later)
    ∙ ap (λ ws. before ++ ws) (filter-in not_collected one only.later (ap (λ far. not_collected (record one { stage = far })) kept_one.1)) in
    let Asked : Write → Type 0 = IsWriteAskedWell sys state.low state.next state.history in
    let pairs : ArePairs (IsBefore p) (before ++ one ∷ after) =
    subst (ArePairs (IsBefore p)) split
    (before-pairs sys state.low state.next state.history p declared (uncollected state) (pairs-passed (LiesBelow sys) not_collected state.writes known.recover.ascend)
    (pairs-passed IsApart not_collected state.writes known.restore.apart) (each-kept Asked not_collected state.writes known.restore.asked)) in
    let Counted : Write → Type 0 = λ u. is_counted kept u.stage ≡ true in
    let lands : AllByRecursion Counted before =
    each-passed (λ (u : Write). not_collected u ≡ true → is_counted kept u.stage ≡ true) Counted not_collected only.earlier (λ u i k. k i)
    (landed-before only.earlier one only.later (subst AreInOrder only.there c.order) (λ i. two_ways (is_in_flight one.stage) i (ap is_in_flight kept_one.1))) in
    let First : Write → Type 0 = λ u. IsBefore p u.node u.written one.node one.written in
    let leads =
    each-weaker (λ u. First u × Counted u)
    (λ (u : Write). (g : Front) (l : List Front) → u.node ≡ p → u.written ≡ checkpoint g l → (is_within g f ≡ true) × (is_counted kept u.stage ≡ true)) before
    (λ u k g l i j. ((k.0 g f l what.0 i only.is_such.0 j what.1).0, k.1))
    (each-both First Counted before (pairs-before (IsBefore p) before one after pairs) lands) in
    chain-read sys state R entry p f one what.0 only.is_such.0 what.1 before after es (subst (AllZip R es) split z) pairs leads
    (λ g l i j. (
      subst (λ x. is_within x f ≡ true) (sym (front-is g f l what.0 (sym j ∙ what.1))) (inside-is_within f f (λ t k. k)),
      ap (is_counted kept) kept_one.1,
    ))
    (subst (λ ws. IsChain None (links_of p ws)) split (kept-are_chain sys w steps outcomes state run p declared))

none-first : (sys : System) (state : Machine) (p : ℕ) (e : Entry) (w : Write) → IsEntryOf sys state e w → IsWriteAskedWell sys state.low state.next state.history w
    → ((f : Front) (low : List Front) → w.written ≡ checkpoint f low → f ≢ no_stamps (bounds_of sys.flow w.node)) → whole_front p (no_stamps (bounds_of sys.flow p)) e ≡ None
none-first sys state p e w i asked some = elim (viewed sys state p e w i) [
  | inl o ↦ o.whole (no_stamps (bounds_of sys.flow p))
  | inr o ↦
      let b = bounds_of sys.flow p in
      let none = no_stamps b in
      let well = subst (λ v. IsAskedWell sys state.low state.next state.history w.node v w.stage) o.of asked in
      let canonical : IsCanonical b o.front = subst (λ q. IsCanonical (bounds_of sys.flow q) o.front) o.node well.1 in
      let out : o.front ≢ none = subst (λ q. o.front ≢ no_stamps (bounds_of sys.flow q)) o.node (some o.front o.low o.of) in
      o.whole none
      ∙ elim (cases_Bool (is_within o.front none)) [
        | inl within ↦
            absurd (out (same_fronts b o.front none canonical (none-canonical b) (is_within-holds b o.front none within) (none-within b (frontier_of b o.front))))
        | inr without ↦ ap (λ c. cond (w.depth == 0) (cond c (Some o.front) None) None) without ∙ none-both (w.depth == 0)
      ]
]

-- no whole one lies within no stamps
pub no-chain : (sys : System) → IsWellFormedSystem sys → (state : Machine) → IsReached sys state
    → (entries : List Entry) → AreEntriesOf sys state entries (uncollected state) → (p : ℕ) → whole_within p (no_stamps (bounds_of sys.flow p)) entries ≡ None
no-chain sys w state r es a p =
    let Asked : Write → Type 0 = IsWriteAskedWell sys state.low state.next state.history in
    let Has : Write → Type 0 = λ x. (f : Front) (low : List Front) → x.written ≡ checkpoint f low → f ≢ no_stamps (bounds_of sys.flow x.node) in
    along es (uncollected state)
    (zip-right (λ x. Asked x × Has x) (IsEntryOf sys state) (λ (e : Entry) (x : Write). whole_front p (no_stamps (bounds_of sys.flow p)) e ≡ None) es (uncollected state)
    (λ e x k i. none-first sys state p e x i k.0 k.1)
    (each-kept (λ x. Asked x × Has x) not_collected state.writes
    (each-both Asked Has state.writes (reached-all sys w r.0 r.1 state r.2).restore.asked (checkpoints-have_stamps sys w r.0 r.1 state r.2))) a)
  where
    along : (es : List Entry) (xs : List Write) → AllZip (λ (e : Entry) (x : Write). whole_front p (no_stamps (bounds_of sys.flow p)) e ≡ None) es xs
        → whole_within p (no_stamps (bounds_of sys.flow p)) es ≡ None
    along [] xs z = refl
    along (e ∷ es) [] z = absurd z
    along (e ∷ es) (x ∷ xs) z = ap (λ o. option_or o (whole_front p (no_stamps (bounds_of sys.flow p)) e)) (along es xs z.1) ∙ z.0

-- ---- the records

-- What is read is a chain of records: the first is a whole one, and the others have changes since the one before them.
pub record AreRecordsOfChain (sys : System) (state : Machine) (p : ℕ) (f : Front) (rs : List Record) : Type 0 where
  pub first : Checkpoint
  pub more : List Record
  pub all : rs ≡ tagged.State first ∷ more
  pub chain : IsChainFor sys state p f first (changes_of more)

-- a chain in one relation is one in a weaker one
abbrev chain-weaker : (R S : Entry → Write → Type 0) → ((e : Entry) (w : Write) → R e w → S e w) → (entries : List Entry) (p : ℕ) (f : Front) → IsChainRead R entries p f
    → IsChainRead S entries p f
chain-weaker R S weaker es p f c = record {
  whole = c.whole;
  newest = c.newest;
  first = c.first;
  later = c.later;
  only = c.only;
  write = c.write;
  writes = c.writes;
  of_first = weaker c.first c.write c.of_first;
  of_later = zip-weaker R S c.later c.writes weaker c.of_later;
  low = c.low;
  node = c.node;
  of_checkpoint = c.of_checkpoint;
  base = c.base;
  depth = c.depth;
  each = c.each;
  ends = c.ends;
}

chain-of : (sys : System) (state : Machine) (held : Records) (entries : List Entry) (p : ℕ) (f : Front) → (read : IsChainRead (IsReadAs sys state held) entries p f)
    → (rs : List Record) → AllZip (HoldsAs sys.flow (Some held)) (read.first ∷ read.later) rs → AreRecordsOfChain sys state p f rs
chain-of sys state held es p f read [] z = absurd z
chain-of sys state held es p f read (r ∷ rs) z =
    let c = chain-for sys state held es p f read r rs z.0 z.1 in
    record { first = c.0; more = rs; all = ap (λ x. x ∷ rs) c.1; chain = c.2 }

-- where the store tells its records, those that are read of the entries from the newest whole one within the cut up to it are a chain that
-- ends there
pub chain-of_records : (sys : System) (state : Machine) (choice : Choice) (settled : List Front) → Recovers sys state choice settled
    → (entries : List Entry) → AreEntriesOf sys state entries (uncollected state)
    → (held : Records) → AreStored sys state (Some held) entries (uncollected state)
    → (p : ℕ) → takes_checkpoints (policy_of sys.flow p) ≡ true → (f : Front) → cut_of choice p ≡ At f → f ≢ no_stamps (bounds_of sys.flow p)
    → (whole : Front) × (whole_within p f entries ≡ Some whole)
    × ((rs : List Record) → AllZip (HoldsAs sys.flow (Some held)) (filter (is_between p whole f) entries) rs → AreRecordsOfChain sys state p f rs)
chain-of_records sys state choice settled r es a held s p takes f is some =
    let Read : Entry → Write → Type 0 = IsReadAs sys state held in
    let Both : Entry → Write → Type 0 = λ e w. IsEntryOf sys state e w × Read e w in
    let Held : Entry → Write → Type 0 = λ e w. IsHeldAs sys state held e w in
    let Within_today : Write → Type 0 = λ w. IsKeptWithin sys state.low w.written in
    let read : AllZip Read es (uncollected state) =
    zip-right Within_today Held Read es (uncollected state) (λ e w k h. (h, k))
    (each-kept Within_today not_collected state.writes (watermarks-today sys r.well_formed r.reached.0 r.reached.1 state r.reached.2)) (s held refl) in
    let c = cut-chain sys state choice settled r Both (λ e w k. k.0) es (zip-both (IsEntryOf sys state) Read es (uncollected state) a read) p takes f is some in (
      c.whole,
      c.newest,
      λ rs z. chain-of sys state held es p f (chain-weaker Both Read (λ e w k. k.1) es p f c) rs
          (subst (λ xs. AllZip (HoldsAs sys.flow (Some held)) xs rs) c.only z),
    )
