-- What is joined of a chain of records has what they have together.
use Rattle.std.proofs.Common.{◌≡◌, ℕ, ◌+◌, ◌<◌, ◌==◌, Bool, true, false, not, cond, List, [], ◌∷◌, ◌++◌, filter, map, reverse, Option, Some, None, refl, sym, ap, subst, ◌∙◌, append_assoc, ◌⊎◌, inl, inr, arith}
use Rattle.std.specs.Prelude.{◌||◌}
use Rattle.std.specs.List.{AllByRecursion, AllZip, flat_map, sum_by}
use Rattle.std.specs.Option.{is_some}
use Rattle.std.specs.List.Sorted.{IsStrictlySortedBy, IsPermutation}
use Rattle.std.specs.Map.{keys_of, lookup}
use Rattle.std.specs.declared.cmp.Ordering.{Ordering}
use Rattle.std.specs.declared.cmp.Ordering.TheVariants.{Less, Equal, Greater}
use Rattle.std.specs.Ordering.{is_eq, match_ordering, nat_cmp}
use Rattle.std.specs.BTreeMap.{insert_entry, is_at}
use Rattle.std.proofs.lemmas.Bool.{eqb-true}
use Rattle.std.proofs.lemmas.Cmp.{ranked}
use Rattle.std.proofs.lemmas.List.{append-nil, map-append}
use Rattle.std.proofs.lemmas.List.Concat.{flat_map-append}
use Rattle.std.proofs.lemmas.List.Elements.{filter-append}
use Rattle.std.proofs.lemmas.List.Sorted.{sum_by-IsPermutation}
use Rattle.std.proofs.lemmas.List.Sums.{sum_by-cons}
use Rattle.std.proofs.lemmas.Option.{same_Some}
use Rattle.fw_lemmas.proofs.Each.{each-append, each-weaker}
use Rattle.fw_lemmas.proofs.Numbers.{eqb-sym}
use Rattle.fw_lemmas.proofs.Orderings.{nat_cmp-less, nat_cmp-test}
use Rattle.fw_lemmas.proofs.SideBySide.{zip-append}
use Rattle.fw_bag.specs.declared.rec.Rec.{Rec}
use Rattle.fw_bag.specs.Arrivals.{recs_of}
use Rattle.fw_bag.specs.Keyed.{value_sum, has_key}
use Rattle.fw_frontier.specs.Frontier.{Within}
use Rattle.fw_frontier.specs.Front.{Front, same_front}
use Rattle.fw_frontier.specs.declared.state.Entries.{Entries}
use Rattle.fw_frontier.specs.declared.state.Entries.TheVariants.{Totals}
use Rattle.fw_frontier.specs.declared.state.State.{State}
use Rattle.fw_table.specs.Sums.{sum_at, sums_at_keys, sums_by_key}
use Rattle.fw_table.proofs.SumLaws.{entries_are_sums_of}
use Rattle.fw_totals.specs.Totals.{AreSumsIn, WritesOver, written}
use Rattle.fw_totals.proofs.RestoreLaws.{key-sums_at_keys, sums_are}
use Rattle.fw_flow.specs.declared.choice.Recorded.{Recorded}
use Rattle.fw_flow.specs.declared.event.Event.{Event}
use Rattle.fw_flow.specs.declared.event.Message.{Message}
use Rattle.fw_flow.specs.Kind.{Kind}
use Rattle.fw_flow.specs.declared.kind.Kind.TheVariants as kind
use Rattle.fw_flow.specs.Dataflow.{Dataflow, kind_of, in_edges, node_frontier}
use Rattle.fw_flow.specs.NodeFunction.{delivered_recs}
use Rattle.fw_model.specs.Filtering.{events_inside}
use Rattle.fw_model.specs.Told.{EachDelivery}
use Rattle.fw_model.specs.SortedMessages.{sorted_messages}
use Rattle.fw_model.proofs.SentLaws.{copy}
use Rattle.fw_model.proofs.SortedLaws.{same_sorted_messages}
use Rattle.fw_model.proofs.WeightLaws.{weigh}
use Rattle.fw_record.specs.declared.logged.Logged.{Logged}
use Rattle.fw_record.specs.declared.record.Checkpoint.{Checkpoint}
use Rattle.fw_record.specs.declared.record.Event.{Event as LoggedEvent}
use Rattle.fw_record.specs.declared.record.Record.{Record}
use Rattle.fw_record.specs.declared.record.Record.TheVariants as tagged
use Rattle.fw_record.specs.Log.{logged_on}
use Rattle.fw_record.specs.Spelling.{spelling}
use Rattle.fw_record.proofs.RecordLaws.{one_spelling_lem}
use Rattle.fw_keep.specs.declared.entry.Entry.{Entry}
use Rattle.fw_keep.specs.declared.entry.Written.{Written}
use Rattle.fw_keep.specs.declared.entry.Written.TheVariants as written
use Rattle.fw_keep.specs.Entry.{IsRecordAs, is_checkpoint}
use Rattle.fw_keep.specs.Stored.{Records, IsFetched}
use Rattle.fw_keep.specs.Chains.{changes_in, changes_of, logged_in_all, states_of}
use Rattle.fw_keep.specs.Joined.{AreJoined, IsJoinedCheckpoint, bases_of, chain_to, held_totals, last_totals, log_of_record, total_at_key, totals_of_record, totals_over}
use Rattle.fw_keep.proofs.JoinedLaws.{totals-append}
use Rattle.fw_edge.specs.Messages.{MessagesState}
use Rattle.fw_node.specs.declared.node.Node.{Node}
use Rattle.fw_node.specs.Arrived.{arrived}
use Rattle.fw_node.specs.ChainOf.{last_front, HaveChanges, IsOfChain}
use Rattle.fw_node.specs.Past.{totals_changed, totals_kept}
use Rattle.fw_node.specs.StateOf.{IsStateOf, IsStateSince, totals_in}
use Rattle.fw_node.specs.TableOf.{IsTableOf}
use Rattle.fw_node.proofs.ChainLaws.{inner}
use Rattle.fw_node.proofs.ChangingLaws.{written_over}
use Rattle.fw_node.proofs.RestoringLaws.{all_came}
use Rattle.fw_rollback.specs.Asked.{first_up_to}
use Rattle.fw_fetched.specs.LawsOfFetching.{HoldsChanges, AreOfChain, JoinedHasTheState, JoinedLogIsAllLogs, IsRestoredAs, FetchedRestoresTheChain, FetchedRestoresWhatIsRead}
use Rattle.fw_rollback.specs.Restored.{IsFromChain}
use Rattle.fw_rollback.proofs.LogLaws.{log_of-same}

-- ---- one total more

-- what is found at a key of totals by key
abbrev found_at : ℕ → List (ℕ × ℕ) → Option ℕ
found_at q es = lookup (is_at (nat_cmp q)) es

found-put : (q k v : ℕ) (es : List (ℕ × ℕ)) → found_at q (insert_entry nat_cmp es k v) ≡ cond (k == q) (Some v) (found_at q es)
found-put q k v [] = ap (λ b. cond b (Some v) None) (nat_cmp-test q k ∙ eqb-sym q k)
found-put q k v (e ∷ es) = by (nat_cmp k e.0) refl (found-put q k v es)
  where
    both : (b c : Bool) (o : Option ℕ) → b ≡ c → cond b (Some v) o ≡ cond c (Some v) (cond b (Some e.1) o)
    both true true o h = refl
    both true false o h = cc
    both false true o h = cc
    both false false o h = refl

    later : (b c : Bool) (x o : Option ℕ) → (b ≡ true → c ≡ false) → x ≡ cond c (Some v) o → cond b (Some e.1) x ≡ cond c (Some v) (cond b (Some e.1) o)
    later true true x o a h = let f = a refl in cc
    later true false x o a h = refl
    later false c x o a h = h

    by : (r : Ordering) → nat_cmp k e.0 ≡ r → found_at q (insert_entry nat_cmp es k v) ≡ cond (k == q) (Some v) (found_at q es)
        → found_at q (match_ordering r ((k, v) ∷ e ∷ es) ((e.0, v) ∷ es) (e ∷ insert_entry nat_cmp es k v)) ≡ cond (k == q) (Some v) (found_at q (e ∷ es))
    by Less h i = ap (λ b. cond b (Some v) (found_at q (e ∷ es))) (nat_cmp-test q k ∙ eqb-sym q k)
    by Equal h i =
        let same = eqb-true k e.0 (sym (nat_cmp-test k e.0) ∙ ap is_eq h) in
        both (is_eq (nat_cmp q e.0)) (k == q) (found_at q es) (nat_cmp-test q e.0 ∙ eqb-sym q e.0 ∙ ap (λ x. x == q) (sym same))
    by Greater h i =
        later (is_eq (nat_cmp q e.0)) (k == q) (found_at q (insert_entry nat_cmp es k v)) (found_at q es)
        (λ t. ap (λ x. k == x) (eqb-true q e.0 (sym (nat_cmp-test q e.0) ∙ t)) ∙ sym (nat_cmp-test k e.0) ∙ ap is_eq h)
        i

below : (x y : ℕ) → nat_cmp x y ≡ Less → x < y
below x y h = ranked x y Less (sym h)

above : (x y : ℕ) → nat_cmp x y ≡ Greater → y < x
above x y h = ranked x y Greater (sym h)

keys-put : (P : ℕ → Type 0) (k v : ℕ) → P k → (es : List (ℕ × ℕ)) → AllByRecursion P (keys_of es) → AllByRecursion P (keys_of (insert_entry nat_cmp es k v))
keys-put P k v h [] a = (h, tt)
keys-put P k v h (e ∷ es) a = by (nat_cmp k e.0) (keys-put P k v h es a.1)
  where
    by : (r : Ordering) → AllByRecursion P (keys_of (insert_entry nat_cmp es k v))
        → AllByRecursion P (keys_of (match_ordering r ((k, v) ∷ e ∷ es) ((e.0, v) ∷ es) (e ∷ insert_entry nat_cmp es k v)))
    by Less i = (h, a)
    by Equal i = a
    by Greater i = (a.0, i)

sorted-put : (k v : ℕ) (es : List (ℕ × ℕ)) → IsStrictlySortedBy nat_cmp (keys_of es) → IsStrictlySortedBy nat_cmp (keys_of (insert_entry nat_cmp es k v))
unfolding IsStrictlySortedBy
sorted-put k v [] s = (tt, tt)
sorted-put k v (e ∷ es) s = by (nat_cmp k e.0) refl (sorted-put k v es s.1)
  where
    by : (r : Ordering) → nat_cmp k e.0 ≡ r → IsStrictlySortedBy nat_cmp (keys_of (insert_entry nat_cmp es k v))
        → IsStrictlySortedBy nat_cmp (keys_of (match_ordering r ((k, v) ∷ e ∷ es) ((e.0, v) ∷ es) (e ∷ insert_entry nat_cmp es k v)))
    by Less h i =
        let l = below k e.0 h in
        ((h, each-weaker (λ y. nat_cmp e.0 y ≡ Less) (λ y. nat_cmp k y ≡ Less) (keys_of es) (λ y m. let n = below e.0 y m in nat_cmp-less k y (omega arith)) s.0), s)
    by Equal h i = s
    by Greater h i = (keys-put (λ y. nat_cmp e.0 y ≡ Less) k v (nat_cmp-less e.0 k (above k e.0 h)) es s.0, i)

-- ---- totals that are put over others

sorted-over : (es : List (ℕ × ℕ)) (xs : List Rec) → IsStrictlySortedBy nat_cmp (keys_of es) → IsStrictlySortedBy nat_cmp (keys_of (totals_over es xs))
sorted-over es [] s = s
sorted-over es (x ∷ xs) s = sorted-over (insert_entry nat_cmp es x.key x.value) xs (sorted-put x.key x.value es s)

-- where each is the sum of its key in some recs, the totals of their keys are those sums
found-over : (q : ℕ) (rs xs : List Rec) (es : List (ℕ × ℕ)) → AreSumsIn rs xs → found_at q (totals_over es xs) ≡ written rs xs (found_at q es) q
found-over q rs [] es a = refl
found-over q rs (x ∷ xs) es a =
    found-over q rs xs (insert_entry nat_cmp es x.key x.value) a.1
    ∙ ap (λ o. written rs xs o q) (found-put q x.key x.value es)
    ∙ by (x.key == q) refl a.0 (has_key q xs)
  where
    by : (b : Bool) → (x.key == q) ≡ b → x.value ≡ value_sum x.key rs → (c : Bool)
        → cond c (Some (value_sum q rs)) (cond b (Some x.value) (found_at q es)) ≡ cond (b || c) (Some (value_sum q rs)) (found_at q es)
    by true i v true = refl
    by true i v false = ap Some (v ∙ ap (λ k. value_sum k rs) (eqb-true x.key q i))
    by false i v c = refl

-- The totals by key are those of these recs, in order.
record AreTotalsOf (es : List (ℕ × ℕ)) (rs : List Rec) : Type 0 where
  sorted : IsStrictlySortedBy nat_cmp (keys_of es)
  found : (q : ℕ) → found_at q es ≡ sum_at q rs

totals-first : (rs : List Rec) → AreTotalsOf (totals_over [] (sums_by_key rs)) rs
unfolding IsStrictlySortedBy
totals-first rs = record {
  sorted = sorted-over [] (sums_by_key rs) tt;
  found = λ q. found-over q rs (sums_by_key rs) [] (sums_are rs rs) ∙ ap (λ b. cond b (Some (value_sum q rs)) None) (key-sums_at_keys q rs rs);
}

totals-next : (es : List (ℕ × ℕ)) (xs old all : List Rec) → WritesOver xs old all → AreTotalsOf es old → AreTotalsOf (totals_over es xs) all
totals-next es xs old all w h = record {
  sorted = sorted-over es xs h.sorted;
  found = λ q. found-over q all xs es w.sums ∙ ap (λ o. written all xs o q) (h.found q) ∙ w.found q;
}

totals-shown : (es : List (ℕ × ℕ)) (rs : List Rec) → AreTotalsOf es rs → map total_at_key es ≡ sums_by_key rs
totals-shown es rs h = entries_are_sums_of es rs rs h.sorted h.found

-- ---- totals of a chain

-- a kind keeps the totals of all that came, or none
abbrev KeepsSums : Kind → Type 0
KeepsSums k = ((rs : List Rec) → totals_kept k rs ≡ sums_by_key rs) × ((now all : List Rec) → totals_changed k now all ≡ sums_at_keys now all)

abbrev KeepsNone : Kind → Type 0
KeepsNone k = ((rs : List Rec) → totals_kept k rs ≡ []) × ((now all : List Rec) → totals_changed k now all ≡ [])

which : (k : Kind) → KeepsSums k ⊎ KeepsNone k
which kind.Total = inl (λ rs. refl, λ now all. refl)
which kind.Ledger = inl (λ rs. refl, λ now all. refl)
which _ = inr (λ rs. refl, λ now all. refl)

held-in : (s : State) → held_totals s.entries ≡ totals_in s.entries
held-in s = by s.entries
  where
    by : (e : Entries) → held_totals e ≡ totals_in e
    by (Totals rs) = refl

over-parts : (es : List (ℕ × ℕ)) (xs ys zs : List Rec) → totals_over es ((xs ++ ys) ++ zs) ≡ totals_over (totals_over es xs) (ys ++ zs)
over-parts es xs ys zs = ap (totals_over es) (append_assoc xs ys zs) ∙ totals-append es xs (ys ++ zs)

module _ (flow : Dataflow) (p : ℕ) (before : List Event) where
  -- what came up to a front, and since another up to it
  abbrev recs_up_to : Front → List Rec
  recs_up_to f = delivered_recs (λ d s. true) (events_inside (node_frontier flow p f) before)

  abbrev recs_between : Front → Front → List Rec
  recs_between g f = delivered_recs (λ d s. not (node_frontier flow p g s)) (events_inside (node_frontier flow p f) before)

  changes-write : (g f : Front) (xs : List Rec) → Within (node_frontier flow p g) (node_frontier flow p f) → xs ≡ sums_at_keys (recs_between g f) (recs_up_to f)
      → WritesOver xs (recs_up_to g) (recs_up_to f)
  changes-write g f xs w is =
      let ins = in_edges flow p in
      let k = node_frontier flow p g in
      let us : List Event = events_inside (node_frontier flow p f) before in
      let old : recs_of (arrived ins (events_inside k us)) ≡ recs_up_to g =
      sym (all_came ins (events_inside k us)) ∙ ap (delivered_recs (λ d s. true)) (inner k (node_frontier flow p f) w before) in
      subst (λ rs. WritesOver xs (recs_up_to g) rs) (sym (all_came ins us))
      (subst (λ rs. WritesOver xs rs (recs_of (arrived ins us))) old (written_over ins k us xs is))

  -- one checkpoint more
  totals-more : KeepsSums (kind_of flow p) → (g : Front) (c : Checkpoint) (es : List (ℕ × ℕ)) → Within (node_frontier flow p g) (node_frontier flow p c.recorded.front)
      → IsStateSince (kind_of flow p) (node_frontier flow p g) (events_inside (node_frontier flow p c.recorded.front) before) c.state
      → AreTotalsOf es (recs_up_to g) → AreTotalsOf (totals_over es (held_totals c.state.entries)) (recs_up_to c.recorded.front)
  totals-more sums g c es w h t =
      let f = c.recorded.front in
      totals-next es (held_totals c.state.entries) (recs_up_to g) (recs_up_to f)
      (changes-write g f (held_totals c.state.entries) w (held-in c.state ∙ h.totals ∙ sums.1 (recs_between g f) (recs_up_to f))) t

  totals-chain : KeepsSums (kind_of flow p) → (rest : List Record) (last : Checkpoint) (g : Front) (es : List (ℕ × ℕ)) → AllByRecursion HoldsChanges rest
      → HaveChanges flow p before g (states_of (changes_of rest ++ last ∷ [])) → AreTotalsOf es (recs_up_to g)
      → AreTotalsOf (totals_over es (flat_map totals_of_record rest ++ held_totals last.state.entries)) (recs_up_to last.recorded.front)
  totals-chain sums [] last g es a h t = totals-more sums g last es h.0 h.1 t
  totals-chain sums (tagged.State c ∷ rest) last g es a h t = absurd a.0
  totals-chain sums (tagged.Event node event ∷ rest) last g es a h t = absurd a.0
  totals-chain sums (tagged.Changes base c ∷ rest) last g es a h t =
      let own = held_totals c.state.entries in
      subst (λ xs. AreTotalsOf xs (recs_up_to last.recorded.front)) (sym (over-parts es own (flat_map totals_of_record rest) (held_totals last.state.entries)))
      (totals-chain sums rest last c.recorded.front (totals_over es own) a.1 h.2 (totals-more sums g c es h.0 h.1 t))

  -- where none are kept there are none
  totals-none : KeepsNone (kind_of flow p) → (rest : List Record) (last : Checkpoint) (g : Front) → AllByRecursion HoldsChanges rest
      → HaveChanges flow p before g (states_of (changes_of rest ++ last ∷ [])) → flat_map totals_of_record rest ++ held_totals last.state.entries ≡ []
  totals-none none [] last g a h =
      held-in last.state ∙ h.1.totals ∙ none.1 (recs_between g last.recorded.front) (recs_up_to last.recorded.front)
  totals-none none (tagged.State c ∷ rest) last g a h = absurd a.0
  totals-none none (tagged.Event node event ∷ rest) last g a h = absurd a.0
  totals-none none (tagged.Changes base c ∷ rest) last g a h =
      ap (λ xs. (xs ++ flat_map totals_of_record rest) ++ held_totals last.state.entries)
      (held-in c.state ∙ h.1.totals ∙ none.1 (recs_between g c.recorded.front) (recs_up_to c.recorded.front))
      ∙ totals-none none rest last c.recorded.front a.1 h.2

  -- the last of them is a state since some front
  last-since : (rest : List Record) (last : Checkpoint) (g : Front) → AllByRecursion HoldsChanges rest → HaveChanges flow p before g (states_of (changes_of rest ++ last ∷ []))
      → (b : Front) × IsStateSince (kind_of flow p) (node_frontier flow p b) (events_inside (node_frontier flow p last.recorded.front) before) last.state
  last-since [] last g a h = (g, h.1)
  last-since (tagged.State c ∷ rest) last g a h = absurd a.0
  last-since (tagged.Event node event ∷ rest) last g a h = absurd a.0
  last-since (tagged.Changes base c ∷ rest) last g a h = last-since rest last c.recorded.front a.1 h.2

  module _ (first : Checkpoint) (rest : List Record) (last : Checkpoint) (a : AllByRecursion HoldsChanges rest)
      (whole : IsStateOf (kind_of flow p) (events_inside (node_frontier flow p first.recorded.front) before) first.state)
      (changes : HaveChanges flow p before first.recorded.front (states_of (changes_of rest ++ last ∷ []))) where
    -- the last total of each key is that of all that came
    totals-joined : last_totals (flat_map totals_of_record (tagged.State first ∷ rest) ++ held_totals last.state.entries)
        ≡ totals_kept (kind_of flow p) (recs_up_to last.recorded.front)
    totals-joined = elim (which (kind_of flow p)) [
      | inl sums ↦
          let own = held_totals first.state.entries in
          let rs = recs_up_to first.recorded.front in
          let es = totals_over (totals_over [] own) (flat_map totals_of_record rest ++ held_totals last.state.entries) in
          let start : AreTotalsOf (totals_over [] own) rs =
          subst (λ xs. AreTotalsOf (totals_over [] xs) rs) (sym (held-in first.state ∙ whole.totals ∙ sums.0 rs)) (totals-first rs) in
          ap (map total_at_key) (over-parts [] own (flat_map totals_of_record rest) (held_totals last.state.entries))
          ∙ totals-shown es (recs_up_to last.recorded.front) (totals-chain sums rest last first.recorded.front (totals_over [] own) a changes start)
          ∙ sym (sums.0 (recs_up_to last.recorded.front))
      | inr none ↦
          ap (λ xs. last_totals ((xs ++ flat_map totals_of_record rest) ++ held_totals last.state.entries))
          (held-in first.state ∙ whole.totals ∙ none.0 (recs_up_to first.recorded.front))
          ∙ ap last_totals (totals-none none rest last first.recorded.front a changes)
          ∙ sym (none.0 (recs_up_to last.recorded.front))
    ]

    state-joined : (joined : Checkpoint) → IsJoinedCheckpoint (tagged.State first ∷ rest) last joined
        → IsStateOf (kind_of flow p) (events_inside (node_frontier flow p last.recorded.front) before) joined.state
    state-joined joined j = record {
      totals = ap totals_in j.totals ∙ totals-joined;
      sent = λ is. j.sent ∙ (last-since rest last first.recorded.front a changes).1.sent is;
    }

-- its front is that of the last
joined-front : (rs : List Record) (last joined : Checkpoint) → IsJoinedCheckpoint rs last joined → joined.recorded.front ≡ last.recorded.front
joined-front rs last joined j = ap (λ (r : Recorded). r.front) j.recorded

pub joined_has_the_state : JoinedHasTheState
joined_has_the_state flow p first rest last joined a j before whole changes =
    subst (λ f. IsStateOf (kind_of flow p) (events_inside (node_frontier flow p f) before) joined.state) (sym (joined-front (tagged.State first ∷ rest) last joined j))
    (state-joined flow p before first rest last a whole changes joined j)

-- ---- logs of a chain

logged-append : (e : ℕ) (xs ys : List Logged) → logged_on e (xs ++ ys) ≡ logged_on e xs ++ logged_on e ys
logged-append e xs ys =
    let on : Logged → Bool = λ l. l.edge == e in
    ap (map (λ (l : Logged). l.message)) (filter-append on xs ys) ∙ map-append (λ (l : Logged). l.message) (filter on xs) (filter on ys)

-- one log, and those that follow
logged-more : (e : ℕ) (xs ys zs : List Logged) (ms : List Message) → logged_on e (ys ++ zs) ≡ ms → logged_on e ((xs ++ ys) ++ zs) ≡ logged_on e xs ++ ms
logged-more e xs ys zs ms h = ap (logged_on e) (append_assoc xs ys zs) ∙ logged-append e xs (ys ++ zs) ∙ ap (λ ns. logged_on e xs ++ ns) h

logged-chain : (e : ℕ) (rest : List Record) (last : Checkpoint) → AllByRecursion HoldsChanges rest
    → logged_on e (flat_map log_of_record rest ++ last.log) ≡ logged_in_all e (changes_of rest ++ last ∷ [])
logged-chain e [] last a = sym (append-nil (logged_on e last.log))
logged-chain e (tagged.State c ∷ rest) last a = absurd a.0
logged-chain e (tagged.Event node event ∷ rest) last a = absurd a.0
logged-chain e (tagged.Changes base c ∷ rest) last a =
    logged-more e c.log (flat_map log_of_record rest) last.log (logged_in_all e (changes_of rest ++ last ∷ [])) (logged-chain e rest last a.1)

-- what the messages of a log on an edge weigh
abbrev on_edge_weigh : (Message → ℕ) → ℕ → Logged → ℕ
on_edge_weigh w e l = cond (l.edge == e) (w l.message) 0

logged-weigh : (w : Message → ℕ) (e : ℕ) (log : List Logged) → weigh w (logged_on e log) ≡ sum_by (on_edge_weigh w e) log
unfolding weigh
logged-weigh w e [] = refl
logged-weigh w e (l ∷ log) = by (l.edge == e) (logged-weigh w e log) ∙ sym (sum_by-cons (on_edge_weigh w e) l log)
  where
    by : (b : Bool) → weigh w (logged_on e log) ≡ sum_by (on_edge_weigh w e) log
        → weigh w (map (λ (x : Logged). x.message) (cond b (l ∷ filter (λ (x : Logged). x.edge == e) log) (filter (λ (x : Logged). x.edge == e) log)))
        ≡ cond b (w l.message) 0 + sum_by (on_edge_weigh w e) log
    by true h = ap (λ n. w l.message + n) h
    by false h = h ∙ omega arith

-- logs that are one bag have one bag of messages on each edge
logged-permuted : (e : ℕ) (xs ys : List Logged) → IsPermutation xs ys → sorted_messages (logged_on e ys) ≡ sorted_messages (logged_on e xs)
logged-permuted e xs ys same =
    same_sorted_messages (logged_on e ys) (logged_on e xs)
    (λ q.
    logged-weigh (copy q) e ys
    ∙ sum_by-IsPermutation (on_edge_weigh (copy q) e) xs ys same
    ∙ sym (logged-weigh (copy q) e xs))

pub joined_log_is_all_logs : JoinedLogIsAllLogs
joined_log_is_all_logs first rest last joined a j flow low e =
    let all = logged_in_all e (first ∷ changes_of rest ++ last ∷ []) in
    log_of-same flow low e (logged_on e joined.log ++ []) all
    (ap sorted_messages (append-nil (logged_on e joined.log))
    ∙ logged-permuted e ((first.log ++ flat_map log_of_record rest) ++ last.log) joined.log j.messages
    ∙ ap sorted_messages (logged-more e first.log (flat_map log_of_record rest) last.log (logged_in_all e (changes_of rest ++ last ∷ [])) (logged-chain e rest last a)))

-- ---- what is restored

-- the last of a chain that is longer than one holds changes
last-changes : (rest : List Record) (own : Record) → AllByRecursion HoldsChanges (rest ++ own ∷ []) → AllByRecursion HoldsChanges rest × HoldsChanges own
last-changes [] own a = (tt, a.0)
last-changes (r ∷ rest) own a = let h = last-changes rest own a.1 in ((a.0, h.0), h.1)

last-is : (g : Front) (cs : List Checkpoint) (c : Checkpoint) → last_front g (states_of (cs ++ c ∷ [])) ≡ c.recorded.front
last-is g [] c = refl
last-is g (d ∷ cs) c = last-is d.recorded.front cs c

module _ (first : Checkpoint) (rest : List Record) (last joined : Checkpoint) (a : AllByRecursion HoldsChanges rest)
    (j : IsJoinedCheckpoint (tagged.State first ∷ rest) last joined) (flow : Dataflow) where
  abbrev later : List Checkpoint
  later = changes_of rest ++ last ∷ []

  front-is : last_front first.recorded.front (states_of later) ≡ joined.recorded.front
  front-is = last-is first.recorded.front (changes_of rest) last ∙ sym (joined-front (tagged.State first ∷ rest) last joined j)

  stands-for-chain : (p : ℕ) (node : Node) → IsOfChain flow p joined.recorded.front joined.state [] node
      → IsOfChain flow p first.recorded.front first.state (states_of later) node
  stands-for-chain p node of = λ before all on whole changes.
      subst (λ f. IsTableOf flow p (node_frontier flow p f) node before) (sym front-is)
      (of before (subst (λ f. EachDelivery (λ s. node_frontier flow p f s ≡ true) before) front-is all) on
      (joined_has_the_state flow p first rest last joined a j before whole changes) tt)

  module _ (low : List Front) (p : ℕ) (f : Front) (node : Node) (logs : List MessagesState) where
    by-front : (b : Bool) → IsFromChain flow low p f (cond b (Some joined) None) [] node logs → IsFromChain flow low p f (cond b (Some first) None) later node logs
    by-front true h =
        (front-is ∙ h.0, h.1, stands-for-chain p node h.2, λ e l s. h.3 e l s ∙ joined_log_is_all_logs first rest last joined a j flow low e)
    by-front false h = h

    chain-restored : IsFromChain flow low p f (cond (same_front joined.recorded.front f) (Some joined) None) [] node logs
        → IsFromChain flow low p f (cond (same_front (last_front first.recorded.front (states_of later)) f) (Some first) None) later node logs
    chain-restored h =
        subst (λ x. IsFromChain flow low p f (cond (same_front x f) (Some first) None) later node logs) (sym front-is)
        (by-front (same_front joined.recorded.front f) h)

pub fetched_restores_the_chain : FetchedRestoresTheChain
fetched_restores_the_chain [] (tagged.State c) given chain is flow low p f node logs h =
    subst (λ (r : Record). IsFromChain flow low p f (first_up_to f (r ∷ [])) (changes_of (r ∷ [])) node logs) is h
fetched_restores_the_chain [] (tagged.Event q event) given chain is flow low p f node logs h = absurd chain
fetched_restores_the_chain [] (tagged.Changes base c) given chain is flow low p f node logs h = absurd chain
fetched_restores_the_chain (tagged.Event q event ∷ rest) own given chain is flow low p f node logs h = absurd chain
fetched_restores_the_chain (tagged.Changes base c ∷ rest) own given chain is flow low p f node logs h = absurd chain
fetched_restores_the_chain (tagged.State first ∷ rest) (tagged.State c) given chain is flow low p f node logs h =
    absurd (last-changes rest (tagged.State c) chain).1
fetched_restores_the_chain (tagged.State first ∷ rest) (tagged.Event q event) given chain is flow low p f node logs h =
    absurd (last-changes rest (tagged.Event q event) chain).1
fetched_restores_the_chain (tagged.State first ∷ rest) (tagged.Changes base last) given chain is flow low p f node logs h =
    let joined = is.0 in
    let a = (last-changes rest (tagged.Changes base last) chain).0 in
    subst (λ cs. IsFromChain flow low p f (cond (same_front (last_front first.recorded.front (states_of cs)) f) (Some first) None) cs node logs)
    (sym (flat_map-append changes_in rest (tagged.Changes base last ∷ [])))
    (chain-restored first rest last joined a is.2 flow low p f node logs
    (subst (λ (r : Record). IsFromChain flow low p f (first_up_to f (r ∷ [])) (changes_of (r ∷ [])) node logs) is.1 h))

-- ---- what is fetched

-- where the store tells its records, one record alone can be fetched of an entry
one-fetched : (flow : Dataflow) (held : Records) (e : Entry) (q r : Record) → IsFetched flow (Some held) e q → IsFetched flow (Some held) e r → q ≡ r
one-fetched flow held e q r a b = one_spelling_lem q r a.sound b.sound (same_Some (spelling q) (spelling r) (sym (a.told held refl) ∙ b.told held refl))

same-fetched : (flow : Dataflow) (held : Records) (es : List Entry) (qs rs : List Record) → AllZip (IsFetched flow (Some held)) es qs
    → AllZip (IsFetched flow (Some held)) es rs → qs ≡ rs
same-fetched flow held [] [] [] a b = refl
same-fetched flow held [] [] (r ∷ rs) a b = absurd b
same-fetched flow held [] (q ∷ qs) rs a b = absurd a
same-fetched flow held (e ∷ es) [] rs a b = absurd a
same-fetched flow held (e ∷ es) (q ∷ qs) [] a b = absurd b
same-fetched flow held (e ∷ es) (q ∷ qs) (r ∷ rs) a b =
    ap (λ x. x ∷ qs) (one-fetched flow held e q r a.0 b.0) ∙ ap (λ xs. r ∷ xs) (same-fetched flow held es qs rs a.1 b.1)

-- ---- the entries on which one stands

abbrev HasBase : Entry → Type 0
HasBase e = is_some e.base ≡ true

-- each of these entries but the first has a base
abbrev HaveBases : List Entry → Type 0
HaveBases [] = Unit {0}
HaveBases (e ∷ es) = AllByRecursion HasBase es

bases-more : (e : Entry) (lower : List Entry) → (e.base ≡ None → lower ≡ []) → HaveBases lower → HaveBases (lower ++ e ∷ [])
bases-more e [] none h = tt
bases-more e (x ∷ xs) none h = each-append HasBase xs (e ∷ []) h (has e.base refl, tt)
  where
    has : (o : Option ℕ) → e.base ≡ o → HasBase e
    has None is = let empty = none is in cc
    has (Some id) is = ap is_some is

bases-chain : (wanted : Option ℕ) (es : List Entry) → HaveBases (chain_to wanted es)
bases-chain None es = tt
bases-chain (Some id) [] = tt
bases-chain (Some id) (e ∷ es) = by (e.id == id) (bases-chain e.base es) (bases-chain (Some id) es)
  where
    by : (b : Bool) → HaveBases (chain_to e.base es) → HaveBases (chain_to (Some id) es) → HaveBases (cond b (chain_to e.base es ++ e ∷ []) (chain_to (Some id) es))
    by true lower rest = bases-more e (chain_to e.base es) (λ n. ap (λ o. chain_to o es) n) lower
    by false lower rest = rest

-- ---- their records

abbrev IsOfCheckpoint : Entry → Type 0
IsOfCheckpoint e = is_checkpoint e.written ≡ true

of-base : (flow : Dataflow) (p : ℕ) (base : Option ℕ) (w : Written) (r : Record) → is_checkpoint w ≡ true → is_some base ≡ true → IsRecordAs flow p base w r → HoldsChanges r
of-base flow p None w r k b h = cc
of-base flow p (Some id) (written.Event event) r k b h = cc
of-base flow p (Some id) (written.Checkpoint recorded stamps sent) (tagged.State c) k b h = absurd h.of_node
of-base flow p (Some id) (written.Checkpoint recorded stamps sent) (tagged.Event node event) k b h = absurd h.of_node
of-base flow p (Some id) (written.Checkpoint recorded stamps sent) (tagged.Changes base c) k b h = tt

no-event : (flow : Dataflow) (p : ℕ) (base : Option ℕ) (w : Written) (node : ℕ) (event : LoggedEvent) → is_checkpoint w ≡ true
    → IsRecordAs flow p base w (tagged.Event node event) → ⊥
no-event flow p base (written.Event x) node event k h = cc
no-event flow p None (written.Checkpoint recorded stamps sent) node event k h = h.of_node
no-event flow p (Some id) (written.Checkpoint recorded stamps sent) node event k h = h.of_node

module _ (flow : Dataflow) (all : Option Records) where
  hold-changes : (es : List Entry) (rs : List Record) → AllByRecursion IsOfCheckpoint es → AllByRecursion HasBase es → AllZip (IsFetched flow all) es rs
      → AllByRecursion HoldsChanges rs
  hold-changes [] [] k b z = tt
  hold-changes [] (r ∷ rs) k b z = absurd z
  hold-changes (e ∷ es) [] k b z = absurd z
  hold-changes (e ∷ es) (r ∷ rs) k b z = (of-base flow e.node e.base e.written r k.0 b.0 z.0.fits, hold-changes es rs k.1 b.1 z.1)

  -- the first of them is whole, where what is joined is so
  whole-first : (x : Entry) (r : Record) (rs : List Record) (own : Record) (joined : Checkpoint) → IsOfCheckpoint x → IsFetched flow all x r
      → AllByRecursion HoldsChanges (rs ++ own ∷ []) → AreJoined (r ∷ rs) own (tagged.State joined) → AreOfChain (r ∷ (rs ++ own ∷ []))
  whole-first x (tagged.State c) rs own joined k h a j = a
  whole-first x (tagged.Event node event) rs own joined k h a j = absurd (no-event flow x.node x.base x.written node event k h.fits)
  whole-first x (tagged.Changes base c) rs (tagged.State d) joined k h a j = absurd (last-changes rs (tagged.State d) a).1
  whole-first x (tagged.Changes base c) rs (tagged.Event node event) joined k h a j = absurd (last-changes rs (tagged.Event node event) a).1
  whole-first x (tagged.Changes base c) rs (tagged.Changes on d) joined k h a j = absurd (subst (λ q. AreOfChain (q ∷ [])) j.1 tt)

  chain-fetched : (lower : List Entry) (e : Entry) (under : List Record) (own : Record) (joined : Checkpoint) → AllByRecursion IsOfCheckpoint (lower ++ e ∷ [])
      → HaveBases (lower ++ e ∷ []) → AllZip (IsFetched flow all) lower under → IsFetched flow all e own → AreJoined under own (tagged.State joined)
      → AreOfChain (under ++ own ∷ [])
  chain-fetched [] e [] own joined k b z h j = subst (λ q. AreOfChain (q ∷ [])) j tt
  chain-fetched [] e (r ∷ rs) own joined k b z h j = absurd z
  chain-fetched (x ∷ xs) e [] own joined k b z h j = absurd z
  chain-fetched (x ∷ xs) e (r ∷ rs) own joined k b z h j =
      whole-first x r rs own joined k.0 z.0
      (hold-changes (xs ++ e ∷ []) (rs ++ own ∷ []) k.1 b (zip-append (IsFetched flow all) xs rs (e ∷ []) (own ∷ []) z.1 (h, tt))) j

pub fetched_restores_what_is_read : FetchedRestoresWhatIsRead
fetched_restores_what_is_read flow held got entries e joined read k h z =
    let lower = bases_of entries e in
    let all : AllZip (IsFetched flow (Some held)) (lower ++ e ∷ []) (h.under ++ h.own ∷ []) =
    zip-append (IsFetched flow (Some held)) lower h.under (e ∷ []) (h.own ∷ []) h.lower (h.itself, tt) in
    let bases = bases-more e lower (λ n. ap (λ o. chain_to o (reverse entries)) n) (bases-chain e.base (reverse entries)) in
    subst (IsRestoredAs (tagged.State joined ∷ [])) (same-fetched flow held (lower ++ e ∷ []) (h.under ++ h.own ∷ []) read all z)
    (fetched_restores_the_chain h.under h.own (tagged.State joined)
    (chain-fetched flow (Some held) lower e h.under h.own joined k bases h.lower h.itself h.joined) h.joined)
