-- A root stays one over more batches.
use Rattle.std.proofs.Common.{◌≡◌, ℕ, zero, suc, ◌+◌, ◌<◌, ◌≤◌, ◌^◌, Bool, true, false, ◌==◌, cond, List, [], ◌∷◌, length, map, get_or, Option, sym, ap, subst, ◌∙◌, inl, inr, arith}
use Rattle.std.specs.List.{AllZip, range_with_len}
use Rattle.std.specs.Option.{option_map_or}
use Rattle.std.proofs.lemmas.Bool.{cases_Bool}
use Rattle.fw_lemmas.proofs.SideBySide.{zip-weaker}
use Rattle.fw_time.specs.Stamp.{same}
use Rattle.fw_bag.specs.declared.rec.Rec.{Rec}
use Rattle.fw_frontier.specs.declared.state.SentCount.{SentCount}
use Rattle.fw_flow.specs.Counting.{how_many}
use Rattle.fw_flow.specs.declared.event.Message.{Message}
use Rattle.fw_flow.specs.Dataflow.{Dataflow, batches_of, bounds_of, is_input_kind, kind_of}
use Rattle.fw_flow.specs.Projection.{IsSentTable, count_from}
use Rattle.fw_keep.specs.Stored.{Records}
use Rattle.fw_lines.specs.Batches.{batches_at}
use Rattle.fw_model.specs.History.{injected_count}
use Rattle.fw_model.specs.Machine.{Machine, events}
use Rattle.fw_feeding.specs.Feeding.{with_batches, GoOnEach}
use Rattle.fw_feeding.proofs.AlikeLaws.{AreAlikeIn, node-alike, pending-alike}
use Rattle.fw_feeding.proofs.FedEngineLaws.{entries-alike, stored-alike}
use Rattle.fw_feeding.proofs.OpenRunLaws.{goes-more, run-alike}
use Rattle.fw_named.specs.Named.{AreNamed, kept_writes}
use Rattle.fw_regain.specs.RootOf.{IsRootOf, table_said}
use Rattle.fw_resume.proofs.StartLaws.{number_none, number_there}
use Rattle.fw_root.specs.declared.extent.Extent.{Extent}
use Rattle.fw_root.specs.declared.extent.Extent.TheVariants.{Any, Batches}
use Rattle.fw_root.specs.declared.of_flow.Role.TheVariants as role
use Rattle.fw_root.specs.declared.root.NodeFronts.{NodeFronts}
use Rattle.fw_root.specs.declared.root.Root.{Root}
use Rattle.fw_root.specs.OfFlow.{Given, injected_extent, limit_for, low_extent, nodes_as}
use Rattle.fw_root.specs.Sound.{AreNodeFronts, IsFrontIn, IsNumberFor, IsRootFor}
use Rattle.fw_lasting.specs.Given.{batches_by_node}
use Rattle.fw_lasting.specs.LawsOfLasting.{RootsStayOverMore}
use Rattle.fw_lasting.proofs.GivenLaws.{given-at}

-- ---- its form

-- Of each input so much was injected: no more than there are batches, and of both all or of neither.
pub record AreEnough (flow : Dataflow) (given more : Given) (count : ℕ → ℕ) : Type 0 where
  pub longer : (p : ℕ) → length (batches_at given p) ≤ length (batches_at more p)
  pub whole : (p : ℕ) → p < length flow.nodes → (count p == length (batches_at given p)) ≡ (count p == length (batches_at more p))

limit-more : (b : Bool) (n few many most : ℕ) → few ≤ many → n ≤ cond b few most → n ≤ cond b many most
limit-more true n few many most l m = omega (arith, l, m)
limit-more false n few many most l m = m

number-more : (flow : Dataflow) (given more : Given) (count : ℕ → ℕ) → AreEnough flow given more count → (p n : ℕ) → IsNumberFor flow given p n
    → IsNumberFor flow more p n
unfolding limit_for
number-more flow given more count a p n h = record {
  small = h.small;
  within = limit-more (is_input_kind (kind_of flow p)) n (length (batches_at given p)) (length (batches_at more p)) (2 ^ 32) (a.longer p) h.within;
}

low-more : (flow : Dataflow) (given more : Given) (count : ℕ → ℕ) (injected : List ℕ) → AreEnough flow given more count
    → injected ≡ map count (nodes_as flow role.Input) → (p : ℕ) → p < length flow.nodes
    → low_extent flow given injected p ≡ low_extent flow more injected p
unfolding low_extent
low-more flow given more count injected a is p l =
    let at : Given → Option ℕ → Extent = λ b o. option_map_or (injected_extent b p) o Any in
    elim (cases_Bool (is_input_kind (kind_of flow p))) [
      | inl k ↦
          let there = number_there flow role.Input count injected p is l k in
          ap (at given) there ∙ ap (λ w. Batches (count p) w) (a.whole p l) ∙ sym (ap (at more) there)
      | inr k ↦ let none = number_none flow role.Input count injected p is k in ap (at given) none ∙ sym (ap (at more) none)
    ]

fronts-more : (flow : Dataflow) (given more : Given) (count : ℕ → ℕ) (injected : List ℕ) → AreEnough flow given more count
    → injected ≡ map count (nodes_as flow role.Input) → (p : ℕ) → p < length flow.nodes → (f : NodeFronts) → AreNodeFronts flow given injected p f
    → AreNodeFronts flow more injected p f
fronts-more flow given more count injected a is p l f h = record {
  settled = h.settled;
  low = subst (λ x. IsFrontIn (bounds_of flow p) x f.low) (low-more flow given more count injected a is p l) h.low;
  third = h.third;
}

zip-within : {A : Type 0} (R S : ℕ → A → Type 0) (a n : ℕ) (xs : List A) → ((p : ℕ) → p < a + n → (x : A) → R p x → S p x)
    → AllZip R (range_with_len a n) xs → AllZip S (range_with_len a n) xs
zip-within R S a zero [] w r = tt
zip-within R S a zero (x ∷ xs) w r = absurd r
zip-within R S a (suc n) [] w r = absurd r
zip-within R S a (suc n) (x ∷ xs) w r =
    (w a (omega arith) x r.0, zip-within R S (a + 1) n xs (λ p l x h. w p (omega (arith, l)) x h) r.1)

pub root-for_more : (flow : Dataflow) (given more : Given) (count : ℕ → ℕ) (root : Root) → AreEnough flow given more count
    → root.injected ≡ map count (nodes_as flow role.Input) → IsRootFor flow given root → IsRootFor flow more root
root-for_more flow given more count root a is r = record {
  mark = r.mark;
  next_id = r.next_id;
  injected = zip-weaker (IsNumberFor flow given) (IsNumberFor flow more) (nodes_as flow role.Input) root.injected (number-more flow given more count a) r.injected;
  bounds = zip-weaker (IsNumberFor flow given) (IsNumberFor flow more) (nodes_as flow role.Output) root.bounds (number-more flow given more count a) r.bounds;
  fronts = zip-within (AreNodeFronts flow given root.injected) (AreNodeFronts flow more root.injected) 0 (length flow.nodes) root.fronts
      (λ p l. fronts-more flow given more count root.injected a is p (omega (arith, l))) r.fronts;
  writes = r.writes;
  others = r.others;
  pending = r.pending;
  owed = r.owed;
  sends = r.sends;
}

-- ---- what it tells

root-of_more : (flow : Dataflow) (now later : List (List (List Rec))) (state : Machine) (root : Root) → AreAlikeIn flow now later (events state.history)
    → IsRootOf (with_batches flow now) state root → IsRootOf (with_batches flow later) state root
root-of_more flow now later state root a o =
    let h = events state.history in
    record {
      injected = o.injected;
      bounds = o.bounds;
      settled = o.settled;
      low = o.low;
      third = o.third;
      writes = o.writes;
      pending = λ e t. o.pending e t ∙ ap (how_many (λ (m : Message). same m.at t)) (pending-alike flow now later h a e);
      owed = o.owed;
      sends = zip-weaker (λ (ss : List SentCount) (p : ℕ). IsSentTable (with_batches flow now) h p (table_said ss))
          (λ ss p. IsSentTable (with_batches flow later) h p (table_said ss)) root.sends (nodes_as flow role.ByCount)
          (λ ss p i f. i f ∙ ap (count_from f) (node-alike flow now later h a.injected p)) o.sends;
    }

named-more : (flow : Dataflow) (now later : List (List (List Rec))) (state : Machine) (root : Root) (records : Option Records)
    → AreAlikeIn flow now later (events state.history) → AreNamed (with_batches flow now) state root records
    → AreNamed (with_batches flow later) state root records
named-more flow now later state root records a n = record {
  entries = n.entries;
  ids = n.ids;
  stand = entries-alike flow now later state a n.entries (kept_writes state) n.stand;
  bases = n.bases;
  stored = stored-alike flow now later state a records n.entries (kept_writes state) n.stored;
}

enough-more : (opened : ℕ → Bool) (flow : Dataflow) (now later : List (List (List Rec))) (state : Machine) → GoOnEach opened flow now later
    → AreAlikeIn flow now later (events state.history)
    → AreEnough flow (batches_by_node now) (batches_by_node later) (λ s. injected_count s (events state.history))
unfolding batches_of
enough-more opened flow now later state g a =
    let more = goes-more opened flow now later g in
    record {
      longer = λ p. subst (λ bs. length bs ≤ length (batches_at (batches_by_node later) p)) (sym (given-at now p))
          (subst (λ bs. length (get_or now p []) ≤ length bs) (sym (given-at later p)) (more p));
      whole = λ p l. let n = injected_count p (events state.history) in
          ap (λ bs. n == length bs) (given-at now p) ∙ a.exhausted p ∙ sym (ap (λ bs. n == length bs) (given-at later p));
    }

pub roots-stay_over_more : RootsStayOverMore
roots-stay_over_more opened flow now later g steps effects state run root records r =
    let a = run-alike opened flow now later g steps effects state run in
    record {
      of_flow = root-for_more flow (batches_by_node now) (batches_by_node later) (λ s. injected_count s (events state.history)) root
          (enough-more opened flow now later state g a) r.of_state.injected r.of_flow;
      of_state = root-of_more flow now later state root a r.of_state;
      named = named-more flow now later state root records a r.named;
    }
