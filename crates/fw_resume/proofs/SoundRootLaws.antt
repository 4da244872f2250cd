-- A root that tells what an engine keeps is one of its flow and batches.
use Rattle.std.proofs.Common.{◌≡◌, ◌⊎◌, ℕ, suc, ◌+◌, ◌<◌, ◌≤◌, ◌^◌, Bool, true, false, ◌&&◌, ◌||◌, ◌==◌, nat_lt, cond, List, [], ◌∷◌, ◌++◌, length, map, get_or, Option, refl, sym, ap, subst, ◌∙◌, inl, inr, arith}
use Rattle.std.specs.Option.{option_map_or}
use Rattle.std.specs.Ordering.{is_eq}
use Rattle.std.specs.List.{AllByRecursion, AllZip, range_with_len}
use Rattle.std.proofs.lemmas.Bool.{and_from, cases_Bool, cond_both, le-leb}
use Rattle.std.proofs.lemmas.Cmp.{nat_list_cmp_total, tied_itself}
use Rattle.fw_lemmas.proofs.Each.{each-both, each-kept, each-one, each-weaker}
use Rattle.fw_time.specs.Stamp.{Stamp, in_domain, origin}
use Rattle.fw_time.specs.declared.stamp.Bounds.{Bounds}
use Rattle.fw_bytes.specs.Sound.{IsList, IsSentCount, IsStamp, each_may_follow, may_follow_counts}
use Rattle.fw_frontier.specs.Front.{Front, IsCanonical}
use Rattle.fw_frontier.specs.declared.state.SentCount.{SentCount}
use Rattle.fw_frontier.proofs.BelowLaws.{in_domain-one}
use Rattle.fw_flow.specs.Kind.{Kind}
use Rattle.fw_flow.specs.declared.kind.Kind.TheVariants.{OutputEpoch, OutputNumber}
use Rattle.fw_flow.specs.declared.kind.Policy.{Policy}
use Rattle.fw_flow.specs.declared.kind.Policy.TheVariants as policy
use Rattle.fw_flow.specs.declared.restoring.Restoring.TheVariants.{Batches}
use Rattle.fw_flow.specs.Dataflow.{Dataflow, System, batches_of, bounds_of, greatest_number, is_input_kind, is_output_kind, kind_of, node_ids, policy_of, system_of}
use Rattle.fw_flow.specs.Restoring.{restoring, way_of}
use Rattle.fw_flow.specs.SentTable.{EpochsAscend}
use Rattle.fw_flow.specs.WellFormed.{IsWellFormed, IsWellFormedSystem}
use Rattle.fw_lines.specs.Batches.{batches_at}
use Rattle.fw_model.specs.Choice.{IsRestorable, kept, until}
use Rattle.fw_model.specs.History.{injected_count}
use Rattle.fw_model.specs.Machine.{Machine, SerialEvent, Stage, Write, Written, ack_count_of, checkpoint, events, front_of, logged_event, no_stamps}
use Rattle.fw_model.specs.Reached.{IsReached}
use Rattle.fw_model.specs.Sending.{SendsByCount}
use Rattle.fw_model.specs.Writes.{not_collected}
use Rattle.fw_model.proofs.AskedLaws.{IsAskedWell, IsWriteAskedWell, reached-all, takes-declared}
use Rattle.fw_model.proofs.InputLaws.{injected-few}
use Rattle.fw_model.proofs.KindSorts.{is_sequence}
use Rattle.fw_model.proofs.LowLaws.{input-is, none-canonical}
use Rattle.fw_model.proofs.RestoringLaws.{full-declared}
use Rattle.fw_model.proofs.SameInsideLaws.{low-offered}
use Rattle.fw_model.proofs.SequenceLaws.{bounds-sequence}
use Rattle.fw_keep.specs.declared.entry.Entry.{Entry}
use Rattle.fw_keep.specs.Catalogue.{IsCatalogue, ids_of}
use Rattle.fw_keep.specs.Stored.{Records}
use Rattle.fw_progress.specs.declared.counts.Counts.{Counts}
use Rattle.fw_progress.specs.Counts.{sent_of}
use Rattle.fw_regain.specs.RootOf.{IsRootOf}
use Rattle.fw_root.specs.declared.extent.Extent.{Extent}
use Rattle.fw_root.specs.declared.extent.Extent.TheVariants as extent
use Rattle.fw_root.specs.declared.of_flow.Role.TheVariants as role
use Rattle.fw_root.specs.declared.root.NodeFronts.{NodeFronts}
use Rattle.fw_root.specs.declared.root.NamedWrite.{NamedWrite}
use Rattle.fw_root.specs.declared.root.Root.{Root}
use Rattle.fw_root.specs.OfFlow.{Given, allows_size, allows_stamp, extent_of_policy, injected_extent, limit_for, low_extent, nodes_as, plays}
use Rattle.fw_root.specs.Sound.{AreCountsOfSequence, AreNodeFronts, IsFrontIn, IsId, IsMark, IsNamedWrite, IsNumberFor, IsRootFor, may_follow_others, may_follow_sends, may_follow_writes}
use Rattle.fw_stands.specs.Written.{AreEntriesOf, IsEntryOf, uncollected}
use Rattle.fw_stands.proofs.SpellingLaws.{stamps_have_spellings}
use Rattle.fw_running.specs.declared.running.Running.{Running}
use Rattle.fw_running.specs.Shaped.{IsShaped}
use Rattle.fw_running.specs.Stands.{Stands}
use Rattle.fw_running.proofs.CountLaws.{batches_there}
use Rattle.fw_resume.specs.Counted.{AreSmall}
use Rattle.fw_resume.specs.Fronts.{AreFrontsAt, IsThirdBy, no_fronts}
use Rattle.fw_resume.specs.RootTold.{IsToldBy}
use Rattle.fw_resume.specs.Sends.{AreSendsTold}
use Rattle.fw_resume.proofs.BoundLaws.{bounds-few}
use Rattle.fw_keep.proofs.IdLaws.{ascending-kept}
use Rattle.fw_resume.proofs.NamedLaws.{zip-each}
use Rattle.fw_resume.proofs.RootLaws.{at-map, each-as, is-single, is_root, singles-told}
use Rattle.fw_resume.proofs.SoundLaws.{front_in}
use Rattle.fw_resume.proofs.SoundListLaws.{kept_entries, others_sound, owed_sound, pending_sound, writes_sound}
use Rattle.fw_resume.proofs.StartLaws.{number_none, number_there}

-- ---- lists

zip-map : (R : ℕ → ℕ → Type 0) (f : ℕ → ℕ) (ps : List ℕ) → AllByRecursion (λ p. R p (f p)) ps → AllZip R ps (map f ps)
zip-map R f [] a = tt
zip-map R f (p ∷ ps) a = (a.0, zip-map R f ps a.1)

zip-weaker : {A : Type 0} (R S : ℕ → A → Type 0) (ps : List ℕ) (xs : List A) → AllByRecursion (λ p. (x : A) → R p x → S p x) ps → AllZip R ps xs → AllZip S ps xs
zip-weaker R S [] [] k a = tt
zip-weaker R S [] (x ∷ xs) k a = absurd a
zip-weaker R S (p ∷ ps) [] k a = absurd a
zip-weaker R S (p ∷ ps) (x ∷ xs) k a = (k.0 x a.0, zip-weaker R S ps xs k.1 a.1)

zip-places : {A : Type 0} (R : ℕ → A → Type 0) (d : A) (a : ℕ) (xs : List A) → ((p : ℕ) → p < length xs → R (a + p) (get_or xs p d)) → AllZip R (range_with_len a (length xs)) xs
zip-places R d a [] k = tt
zip-places R d a (x ∷ xs) k = (
  subst (λ q. R q x) (omega arith) (k 0 (omega arith)),
  zip-places R d (a + 1) xs (λ p l. subst (λ q. R q (get_or xs p d)) (omega arith) (k (suc p) (omega (arith, l)))),
)

or-true : (b : Bool) → (b || true) ≡ true
or-true true = refl
or-true false = refl

-- ---- numbers

injected_sound : (flow : Dataflow) (batches : Given) (state : Machine) → let sys = system_of flow batches in IsWellFormedSystem sys → IsReached sys state
    → (p : ℕ) → p < length flow.nodes → is_input_kind (kind_of flow p) ≡ true → IsNumberFor flow batches p (injected_count p (events state.history))
unfolding limit_for
injected_sound flow batches state w r p l k =
    let sys : System = system_of flow batches in
    let n = injected_count p (events state.history) in
    let some : n ≤ length (batches_of sys p) = injected-few sys (events state.history) (reached-all sys w r.0 r.1 state r.2).recover.holds.legal p in
    let few = w.few p in record {
      small = omega (arith, some, few);
      within = subst (λ b. n ≤ cond b (length (batches_at batches p)) (2 ^ 32)) (sym k) (subst (λ bs. n ≤ length bs) (batches_there flow batches p l) some);
    }

output-not : (kind : Kind) → is_output_kind kind ≡ true → is_input_kind kind ≡ false
output-not OutputEpoch k = refl
output-not OutputNumber k = refl
output-not kind k = absurd (cc)

bound_sound : (flow : Dataflow) (batches : Given) (state : Machine) → let sys = system_of flow batches in IsWellFormedSystem sys → IsReached sys state
    → (p : ℕ) → is_output_kind (kind_of flow p) ≡ true → IsNumberFor flow batches p (ack_count_of state p)
unfolding limit_for
bound_sound flow batches state w r p k =
    let few = bounds-few (system_of flow batches) w.flow state r p in record {
      small = omega (arith, few);
      within = subst (λ b. ack_count_of state p ≤ cond b (length (batches_at batches p)) (2 ^ 32)) (sym (output-not (kind_of flow p) k)) few;
    }

-- ---- fronts

any-in : (b : Bounds) (f : Front) → IsStamp b.greatest → length f < 2 ^ 32 → IsCanonical b f → IsFrontIn b extent.Any f
any-in b f g few c = front_in b extent.Any f g few c (each-one (λ s. allows_stamp b extent.Any s ≡ true) f (λ s. refl)) refl

-- an input's low watermark holds the first batches that it injected, or all stamps where it injected the whole of them
batches-in : (b : Bounds) (f : Front) (n all : ℕ) → IsStamp b.greatest → length f < 2 ^ 32 → IsCanonical b f
    → ((k : ℕ) × (k ≤ n) × (f ≡ until k)) ⊎ (((n == all) ≡ true) × (f ≡ [])) → IsFrontIn b (extent.Batches n (n == all)) f
batches-in b f n all g few c a =
    let x : Extent = extent.Batches n (n == all) in elim a [
      | inl k ↦ front_in b x f g few c (subst (AllByRecursion (λ s. allows_stamp b x s ≡ true)) (sym k.2) (le-leb k.0 n k.1, tt))
          (subst (λ os. allows_size x (length os) ≡ true) (sym k.2) (or-true (n == all)))
      | inr k ↦ front_in b x f g few c (subst (AllByRecursion (λ s. allows_stamp b x s ≡ true)) (sym k.1) tt)
          (subst (λ os. allows_size x (length os) ≡ true) (sym k.1) (ap (λ t. t || nat_lt 0 0) k.0))
    ]

low_sound : (flow : Dataflow) (batches : Given) (state : Machine) → let sys = system_of flow batches in IsWellFormedSystem sys → IsReached sys state
    → (injected : List ℕ) → injected ≡ map (λ q. injected_count q (events state.history)) (nodes_as flow role.Input)
    → (p : ℕ) → p < length flow.nodes → (f : Front) → f ≡ front_of state.low p → length f < 2 ^ 32 → IsCanonical (bounds_of flow p) f
    → IsFrontIn (bounds_of flow p) (low_extent flow batches injected p) f
unfolding low_extent
low_sound flow batches state w r injected is p l f e few c =
    let sys : System = system_of flow batches in
    let b = bounds_of flow p in
    let g = (stamps_have_spellings flow w.flow p).0 in
    let count : ℕ → ℕ = λ q. injected_count q (events state.history) in
    let all = (reached-all sys w r.0 r.1 state r.2).recover in
    elim (cases_Bool (is_input_kind (kind_of flow p))) [
      | inl k ↦
          let way : way_of flow p ≡ Batches = ap (λ kind. restoring kind (policy_of flow p)) (input-is (kind_of flow p) k) in
          let back : IsRestorable sys state kept p Batches f =
          subst (λ o. IsRestorable sys state kept p Batches o) (sym e)
          (subst (λ u. IsRestorable sys state kept p u (front_of state.low p)) way (low-offered sys state all.notices all.watermark p l).1) in
          subst (λ o. IsFrontIn b (option_map_or (injected_extent batches p) o extent.Any) f) (sym (number_there flow role.Input count injected p is l k))
          (batches-in b f (count p) (length (batches_at batches p)) g few c
          (subst (λ bs. ((j : ℕ) × (j ≤ count p) × (f ≡ until j)) ⊎ (((count p == length bs) ≡ true) × (f ≡ []))) (batches_there flow batches p l) back))
      | inr k ↦
          subst (λ o. IsFrontIn b (option_map_or (injected_extent batches p) o extent.Any) f) (sym (number_none flow role.Input count injected p is k)) (any-in b f g few c)
    ]

nothing-in : (flow : Dataflow) (p : ℕ) (f : Front) → IsWellFormed flow → length f < 2 ^ 32 → f ≡ no_stamps (bounds_of flow p) → IsFrontIn (bounds_of flow p) extent.Nothing f
unfolding bounds_of
nothing-in flow p f w few e =
    let b = bounds_of flow p in
    front_in b extent.Nothing f (stamps_have_spellings flow w p).0 few (subst (IsCanonical b) (sym e) (none-canonical b))
    (subst (AllByRecursion (λ s. allows_stamp b extent.Nothing s ≡ true)) (sym e) (ap is_eq (tied_itself nat_list_cmp_total (origin b.greatest)), tt))
    (subst (λ os. allows_size extent.Nothing (length os) ≡ true) (sym e) refl)

third_sound : (running : Running) (p : ℕ) (kind : Policy) (f : Front) → IsWellFormed running.flow → length f < 2 ^ 32 → (kind ≡ policy.Full → IsCanonical (bounds_of running.flow p) f)
    → IsThirdBy running p kind f → IsFrontIn (bounds_of running.flow p) (extent_of_policy kind) f
third_sound running p policy.Full f w few c t = any-in (bounds_of running.flow p) f (stamps_have_spellings running.flow w p).0 few (c refl)
third_sound running p kind f w few c t = nothing-in running.flow p f w few t

-- ---- the writes are of nodes of the flow

asked-declared : (sys : System) (low : List Front) (next : ℕ) (h : List SerialEvent) (p : ℕ) (what : Written) (far : Stage) → IsAskedWell sys low next h p what far → p < length sys.flow.nodes
asked-declared sys low next h p (checkpoint f kept_low) far a = takes-declared sys.flow p a.0
asked-declared sys low next h p (logged_event s) far a = full-declared sys.flow p a.3

entries-declared : (sys : System) (state : Machine) (es : List Entry) → IsWellFormedSystem sys → IsReached sys state → AreEntriesOf sys state es (uncollected state)
    → AllByRecursion (λ (e : Entry). e.node < length sys.flow.nodes) es
entries-declared sys state es w r a =
    zip-each (IsEntryOf sys state) (λ (x : Write). x.node < length sys.flow.nodes) (λ (e : Entry). e.node < length sys.flow.nodes) es (uncollected state)
    (λ e x i l. subst (λ n. n < length sys.flow.nodes) (sym i.node) l) a
    (each-kept (λ (x : Write). x.node < length sys.flow.nodes) not_collected state.writes
    (each-weaker (IsWriteAskedWell sys state.low state.next state.history) (λ (x : Write). x.node < length sys.flow.nodes) state.writes
    (λ x k. asked-declared sys state.low state.next state.history x.node x.written x.stage k) (reached-all sys w r.0 r.1 state r.2).restore.asked))

each-acknowledged : (P : ℕ → Type 0) (es : List Entry) → AllByRecursion P (ids_of es) → AllByRecursion P (ids_of (kept_entries es))
each-acknowledged P [] a = tt
each-acknowledged P (x ∷ xs) a =
    cond_both x.acknowledged (x ∷ kept_entries xs) (kept_entries xs) (λ ys. AllByRecursion P (ids_of ys)) (λ k. (a.0, each-acknowledged P xs a.1))
    (λ k. each-acknowledged P xs a.1)

-- ---- what sequences sent

cause-inside : (flow : Dataflow) (p : ℕ) → SendsByCount (kind_of flow p) → (t : Stamp) → is-single t ≡ true → IsStamp t → in_domain (bounds_of flow p) t ≡ true
cause-inside flow p k [] s i = absurd (cc)
cause-inside flow p k (x ∷ []) s i =
    let b = bounds-sequence flow p k in
    let l : x < 2 ^ 32 = i.fit.0 in
    in_domain-one (bounds_of flow p) greatest_number x (ap (λ (c : Bounds). c.sides) b) (ap (λ (c : Bounds). c.greatest) b) (omega (arith, l))
cause-inside flow p k (x ∷ y ∷ t) s i = absurd (cc)

counts-follow : (flow : Dataflow) (p : ℕ) (before ss : List SentCount) → each_may_follow may_follow_counts before ss ≡ true
    → AllByRecursion (λ (s : SentCount). in_domain (bounds_of flow p) s.cause ≡ true) ss → each_may_follow (may_follow_sends flow p) before ss ≡ true
counts-follow flow p before [] e d = refl
counts-follow flow p before (s ∷ ss) e d =
    let rest = before ++ s ∷ [] in
    let first = two (may_follow_counts before s) (each_may_follow may_follow_counts rest ss) e in
    and_from (may_follow_sends flow p before s) (each_may_follow (may_follow_sends flow p) rest ss)
    (and_from (in_domain (bounds_of flow p) s.cause) (may_follow_counts before s) d.0 first.0) (counts-follow flow p rest ss first.1 d.1)
  where
    two : (a b : Bool) → (a && b) ≡ true → (a ≡ true) × (b ≡ true)
    two true b k = (refl, k)
    two false b k = absurd (cc)

sends_sound : (flow : Dataflow) (counts : Counts) (p : ℕ) (ss : List SentCount) → SendsByCount (kind_of flow p) → EpochsAscend (sent_of counts p) → AreSendsTold counts p ss
    → AreCountsOfSequence flow p ss
sends_sound flow counts p ss k o a = record {
  few = a.few;
  parts = a.each.parts;
  follow = counts-follow flow p [] ss (a.each.follow o)
      (each-weaker (λ (s : SentCount). (is-single s.cause ≡ true) × IsSentCount s) (λ (s : SentCount). in_domain (bounds_of flow p) s.cause ≡ true) ss
      (λ s x. cause-inside flow p k s.cause x.0 x.1.cause)
      (each-both (λ (s : SentCount). is-single s.cause ≡ true) IsSentCount ss (singles-told (sent_of counts p) ss a.each o) a.each.parts));
}

-- ---- the root

module _ (batches : Given) (records : Option Records) (state : Machine) (running : Running) (root : Root) (shaped : IsShaped running)
    (s : Stands (system_of running.flow batches) running records state) (t : IsToldBy running root) where
  of_state : IsRootOf (system_of running.flow batches) state root
  of_state = is_root (system_of running.flow batches) records state running root shaped s t

  front-sound : (p : ℕ) → p < length running.flow.nodes → AreNodeFronts running.flow batches root.injected p (get_or root.fronts p no_fronts)
  front-sound p l =
      let flow = running.flow in
      let sys : System = system_of flow batches in
      let b = bounds_of flow p in
      let f = get_or root.fronts p no_fronts in
      let a : AreFrontsAt running p f = t.fronts.each p l in
      let w = s.apart.well_formed in
      let g = (stamps_have_spellings flow w.flow p).0 in record {
        settled = any-in b f.settled g a.few.settled (subst (IsCanonical b) (sym a.settled) (shaped.progress.settled p));
        low = low_sound flow batches state w s.apart.reached root.injected of_state.injected p l f.low (a.low ∙ ap (λ (fs : List Front). front_of fs p) s.apart.low) a.few.low
            (subst (IsCanonical b) (sym a.low) (shaped.low p));
        third = third_sound running p (policy_of flow p) f.third w.flow a.few.third
            (λ full. subst (IsCanonical b) (at-map (λ (x : NodeFronts). x.third) root.fronts p no_fronts) (of_state.third p l full).canonical) a.third;
      }

  fronts-sound : AllZip (AreNodeFronts running.flow batches root.injected) (node_ids running.flow) root.fronts
  fronts-sound =
      subst (λ n. AllZip (AreNodeFronts running.flow batches root.injected) (range_with_len 0 n) root.fronts) t.fronts.one_each
      (zip-places (AreNodeFronts running.flow batches root.injected) no_fronts 0 root.fronts
      (λ p l. subst (λ q. AreNodeFronts running.flow batches root.injected q (get_or root.fronts p no_fronts)) (omega arith)
      (front-sound p (let n = t.fronts.one_each in omega (arith, l, n)))))

  injected-sound : AllZip (IsNumberFor running.flow batches) (nodes_as running.flow role.Input) root.injected
  injected-sound =
      subst (AllZip (IsNumberFor running.flow batches) (nodes_as running.flow role.Input)) (sym of_state.injected)
      (zip-map (IsNumberFor running.flow batches) (λ p. injected_count p (events state.history)) (nodes_as running.flow role.Input)
      (each-weaker (λ p. (p < length running.flow.nodes) × (plays role.Input (kind_of running.flow p) ≡ true))
      (λ p. IsNumberFor running.flow batches p (injected_count p (events state.history))) (nodes_as running.flow role.Input)
      (λ p k. injected_sound running.flow batches state s.apart.well_formed s.apart.reached p k.0 k.1) (each-as running.flow role.Input)))

  bounds-sound : AllZip (IsNumberFor running.flow batches) (nodes_as running.flow role.Output) root.bounds
  bounds-sound =
      subst (AllZip (IsNumberFor running.flow batches) (nodes_as running.flow role.Output)) (sym of_state.bounds)
      (zip-map (IsNumberFor running.flow batches) (ack_count_of state) (nodes_as running.flow role.Output)
      (each-weaker (λ p. (p < length running.flow.nodes) × (plays role.Output (kind_of running.flow p) ≡ true))
      (λ p. IsNumberFor running.flow batches p (ack_count_of state p)) (nodes_as running.flow role.Output)
      (λ p k. bound_sound running.flow batches state s.apart.well_formed s.apart.reached p k.1) (each-as running.flow role.Output)))

  sends-sound : AllZip (AreCountsOfSequence running.flow) (nodes_as running.flow role.ByCount) root.sends
  sends-sound =
      zip-weaker (AreSendsTold running.progress.counts) (AreCountsOfSequence running.flow) (nodes_as running.flow role.ByCount) root.sends
      (each-weaker (λ p. (p < length running.flow.nodes) × (plays role.ByCount (kind_of running.flow p) ≡ true))
      (λ p. (ss : List SentCount) → AreSendsTold running.progress.counts p ss → AreCountsOfSequence running.flow p ss) (nodes_as running.flow role.ByCount)
      (λ p k ss a.
      let kind = is_sequence (kind_of running.flow p) k.1 in
      sends_sound running.flow running.progress.counts p ss kind (s.apart.progress.counts.in_order p k.0 kind) a)
      (each-as running.flow role.ByCount)) t.sends

  pub root_sound : IsCatalogue running.parts.keep → AreSmall root.pending → length root.owed < 2 ^ 64 → IsMark root.mark → running.parts.keep.next < 2 ^ 62
      → IsRootFor running.flow batches root
  root_sound c small few mark next =
      let flow = running.flow in
      let keep = running.parts.keep in
      let sys : System = system_of flow batches in
      let w = s.apart.well_formed in
      let id = t.ids.next in
      let writes = subst (λ ws. IsList (2 ^ 64) IsNamedWrite (may_follow_writes flow keep.next) ws) (sym t.ids.writes)
      (writes_sound flow keep.next (kept_entries keep.entries) w.flow next (ascending-kept (λ (e : Entry). e.acknowledged) keep.entries c.ascending)
      (each-acknowledged (λ i. i < keep.next) keep.entries c.drawn)
      (each-kept (λ (e : Entry). e.node < length flow.nodes) (λ (e : Entry). e.acknowledged) keep.entries
      (entries-declared sys state keep.entries w s.apart.reached s.apart.entries))) in
      let others = subst (λ (ws : List NamedWrite). IsList (2 ^ 64) IsId (may_follow_others keep.next ws) root.others) (sym t.ids.writes) (others_sound keep root.others c t.ids.others next) in
      record {
        mark = mark;
        next_id = subst (λ n. n < 2 ^ 62) (sym id) next;
        injected = injected-sound;
        bounds = bounds-sound;
        fronts = fronts-sound;
        writes = subst (λ n. IsList (2 ^ 64) IsNamedWrite (may_follow_writes flow n) root.writes) (sym id) writes;
        others = subst (λ n. IsList (2 ^ 64) IsId (may_follow_others n root.writes) root.others) (sym id) others;
        pending = pending_sound flow running.progress.counts root.pending w.flow shaped.progress.counts t.pending small;
        owed = owed_sound flow running.progress.counts root.owed w.flow shaped.progress.counts t.owed few;
        sends = sends-sound;
      }
