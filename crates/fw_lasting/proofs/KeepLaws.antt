-- What records hold of a session stays, and goes on where a root is put.
use Rattle.std.proofs.Common.{◌≡◌, ℕ, true, ◌+◌, ◌<◌, ◌≤◌, ◌^◌, List, Some, None, Ok, refl, sym, ap, subst, ◌∙◌, inl, inr, arith}
use Rattle.std.specs.FinMap as map_of
use Rattle.std.specs.List.{Contains}
use Rattle.std.proofs.lemmas.Option.{same_Some}
use Rattle.fw_bag.specs.declared.rec.Rec.{Rec}
use Rattle.fw_flow.specs.Dataflow.{Dataflow, is_input_kind, kind_of}
use Rattle.fw_keep.specs.Catalogue.{KeepState}
use Rattle.fw_keep.specs.Stored.{Records}
use Rattle.fw_model.specs.Machine.{Machine}
use Rattle.fw_feeding.specs.Feeding.{with_batches}
use Rattle.fw_feeding.specs.FedRuns.{FedMachine}
use Rattle.fw_hold.specs.Engine.{Standings, KeepsOutside}
use Rattle.fw_hold.specs.Found.{IsRootId, ChangesOnly, IsLeftOrGone}
use Rattle.fw_hold.specs.Kept.{AreOfEarlierTurn, root_id}
use Rattle.fw_hold.proofs.RootIdLaws.{root_id-again, root_id-either, root_id-large, root_id-other}
use Rattle.fw_hold.proofs.TurnLaws.{named_below}
use Rattle.fw_named.specs.Named.{named_ids}
use Rattle.fw_named.proofs.NamedLaws.{named-stay}
use Rattle.fw_root.specs.declared.root.Digests.{Digests}
use Rattle.fw_root.specs.declared.root.Root.{Root}
use Rattle.fw_root.specs.Reading.{read_root_head}
use Rattle.fw_root.specs.Spelling.{root_spelling}
use Rattle.fw_root.proofs.HeadLaws.{head_of_root}
use Rattle.fw_session.specs.Story.{Story, IsStory}
use Rattle.fw_lasting.specs.Given.{batches_by_node}
use Rattle.fw_came.specs.Came.{batch_id}
use Rattle.fw_lasting.specs.KeptStory.{HoldsRootOf, HoldsStory, HoldsWhatCame, IsRootOfStory}
use Rattle.fw_lasting.specs.LawsOfLasting.{OtherIdsLeaveStories, PutRootsAreKept, RootsLeftStayKept, ToldRootsAreOver}
use Rattle.fw_lasting.specs.RootOver.{IsRootOver}
use Rattle.fw_lasting.proofs.CameLaws.{came-few}
use Rattle.fw_lasting.proofs.GivenLaws.{given-nodes}
use Rattle.fw_lasting.proofs.IdLaws.{not-root}

-- ---- what came stays

pub came-stays : (flow : Dataflow) (story : Story) (held new : Records) → IsStory flow story
    → ((s x : ℕ) → is_input_kind (kind_of flow s) ≡ true → x < 2 ^ 24 → map_of.get new (batch_id s x) ≡ map_of.get held (batch_id s x))
    → HoldsWhatCame flow story.now held → HoldsWhatCame flow story.now new
came-stays flow story held new k same h s i =
    let few = came-few flow story k s in
    record {
      each = λ x l. same s x i (omega (arith, few, l)) ∙ (h s i).each x l;
      none = λ x l r. same s x i r ∙ (h s i).none x l r;
    }

-- what came is the same where the batches are, and the sources that are open
pub came-else : (flow : Dataflow) (one other : FedMachine) (held : Records) → other.batches ≡ one.batches → other.opened ≡ one.opened
    → HoldsWhatCame flow one held → HoldsWhatCame flow other held
came-else flow one other held b o h =
    let same : HoldsWhatCame flow (record other { batches = one.batches; opened = one.opened }) held = λ s i. h s i in
    subst (λ bs. HoldsWhatCame flow (record other { batches = bs }) held) (sym b)
    (subst (λ f. HoldsWhatCame flow (record other { batches = one.batches; opened = f }) held) (sym o) same)

-- ---- roots stay

over-stays : (flow : Dataflow) (batches : List (List (List Rec))) (state : Machine) (root : Root) (held new : Records)
    → ((id : ℕ) → Contains (named_ids root) id → map_of.get new id ≡ map_of.get held id) → IsRootOver flow batches state root (Some held)
    → IsRootOver flow batches state root (Some new)
over-stays flow batches state root held new names k = record {
  of_flow = k.of_flow;
  of_state = k.of_state;
  named = named-stay (with_batches flow batches) state root held new names k.named;
}

-- a root stays that of a story where nothing is changed under the ids that it names, nor under those of roots
pub root-stays : (flow : Dataflow) (digests : Digests) (held new : Records) (story : Story) (root : Root)
    → ((id : ℕ) → Contains (named_ids root) id → map_of.get new id ≡ map_of.get held id)
    → ((id : ℕ) → 2 ^ 63 ≤ id → map_of.get new id ≡ map_of.get held id) → IsRootOfStory flow digests held story root
    → IsRootOfStory flow digests new story root
root-stays flow digests held new story root names large is = record {
  counted = record {
    there = large (root_id root.mark.turn) (root_id-large root.mark.turn) ∙ is.counted.there;
    other = λ bytes there. is.counted.other bytes (sym (large (root_id (root.mark.turn + 1)) (root_id-large (root.mark.turn + 1))) ∙ there);
  };
  of_digests = is.of_digests;
  over = over-stays flow story.now.batches story.now.state root held new names is.over;
}

rooted-stays : (flow : Dataflow) (digests : Digests) (held new : Records) (story : Story) (turn next after : ℕ) → next ≤ after
    → ((root : Root) → IsRootOfStory flow digests held story root → root.next_id ≤ next → (id : ℕ) → Contains (named_ids root) id
    → map_of.get new id ≡ map_of.get held id)
    → ((id : ℕ) → 2 ^ 63 ≤ id → map_of.get new id ≡ map_of.get held id) → HoldsRootOf flow digests held story turn next
    → HoldsRootOf flow digests new story turn after
rooted-stays flow digests held new story turn next after more names large (inl none) = inl (
  record {
    even = large (root_id 0) (root_id-large 0) ∙ none.0.even;
    odd = large (root_id 1) (root_id-large 1) ∙ none.0.odd;
  },
  none.1,
  none.2,
)
rooted-stays flow digests held new story turn next after more names large (inr (root, is, last, below)) =
    inr (root, root-stays flow digests held new story root (names root is below) large is, last, omega (arith, below, more))

pub others-leave : OtherIdsLeaveStories
others-leave flow digests held new story turn next after more h names large = record {
  of_story = h.of_story;
  came = came-stays flow story held new h.of_story (λ s x i l. large (batch_id s x) (omega arith)) h.came;
  rooted = rooted-stays flow digests held new story turn next after more names large h.rooted;
}

-- what a step changes, which draws ids behind those that the root knows
pub drawn-leave : (flow : Dataflow) (digests : Digests) (held new : Records) (story : Story) (turn next to after : ℕ)
    → HoldsStory flow digests held story turn next → KeepsOutside next to (Some held) (Some new) → to ≤ 2 ^ 63 → next ≤ after
    → HoldsStory flow digests new story turn after
drawn-leave flow digests held new story turn next to after h k few more = others-leave flow digests held new story turn next after more h
    (λ root is below id at. k.others refl id (inl (
    let drawn = named_below flow (batches_by_node story.now.batches) root is.over.of_flow id at in omega (arith, drawn, below))))
    (λ id large. k.others refl id (inr (omega (arith, few, large))))

-- ---- a root is put

-- what the root before the next one is once that was put
earlier : (flow : Dataflow) (digests : Digests) (held new : Records) (story : Story) (turn next : ℕ) → HoldsRootOf flow digests held story turn next
    → ChangesOnly (root_id (turn + 1)) (Some held) (Some new) → (bytes : List ℕ) → map_of.get new (root_id (turn + 1 + 1)) ≡ Some bytes
    → AreOfEarlierTurn digests (turn + 1) bytes
earlier flow digests held new story turn next h c bytes there =
    let same : root_id (turn + 1 + 1) ≡ root_id turn = ap root_id (omega arith) ∙ root_id-again turn in
    let old : map_of.get held (root_id turn) ≡ Some bytes =
    sym (c.others refl (root_id turn) (root_id-other turn)) ∙ ap (map_of.get new) (sym same) ∙ there in
    elim h [
      | inl none ↦ (
          let gone : map_of.get held (root_id turn) ≡ None = ap (λ t. map_of.get held (root_id t)) none.2 ∙ none.0.even in
          let no : Some bytes ≡ None = sym old ∙ gone in
          absurd (cc)
          )
      | inr some ↦ (
          let root = some.0 in
          let k = some.1 in
          let spelled : Some bytes ≡ Some (root_spelling root) = sym old ∙ ap (λ t. map_of.get held (root_id t)) some.2 ∙ k.counted.there in
          let is : bytes ≡ root_spelling root = same_Some bytes (root_spelling root) spelled in
          let head = head_of_root flow (batches_by_node story.now.batches) root k.over.of_flow in (
            record { digests = root.mark.digests; turn = root.mark.turn },
            head.0,
            subst (λ b. read_root_head b ≡ Ok (record { digests = root.mark.digests; turn = root.mark.turn }, head.0)) (sym is) head.1,
            k.of_digests,
            omega (arith, some.2),
          )
          )
    ]

-- it is that of the story
pub root-put : (flow : Dataflow) (digests : Digests) (held new : Records) (kept now : Story) (turn next : ℕ) (root : Root)
    → HoldsStory flow digests held kept turn next → IsRootOver flow now.now.batches now.now.state root (Some held) → root.mark.digests ≡ digests
    → root.mark.turn ≡ turn + 1 → map_of.get new (root_id (turn + 1)) ≡ Some (root_spelling root)
    → ChangesOnly (root_id (turn + 1)) (Some held) (Some new) → IsRootOfStory flow digests new now root
root-put flow digests held new kept now turn next root h over mark count put c = record {
  counted = record {
    there = ap (λ t. map_of.get new (root_id t)) count ∙ put;
    other = λ older there.
        subst (λ t. AreOfEarlierTurn root.mark.digests t older) (sym count)
        (subst (λ d. AreOfEarlierTurn d (turn + 1) older) (sym mark)
        (earlier flow digests held new kept turn next h.rooted c older (sym (ap (λ t. map_of.get new (root_id (t + 1))) count) ∙ there)));
  };
  of_digests = mark;
  over = over-stays flow now.now.batches now.now.state root held new
      (λ n at. c.others refl n (λ e. omega (
        arith,
        e,
        named_below flow (batches_by_node now.now.batches) root over.of_flow n at,
        over.of_flow.next_id,
        root_id-large (turn + 1),
      ))) over;
}

pub roots-kept : PutRootsAreKept
roots-kept flow digests held new kept now turn next root h k b o over mark count put c = record {
  of_story = k;
  came = came-stays flow now held new k
      (λ s x i l. c.others refl (batch_id s x) (λ e. not-root flow s x (turn + 1) k.well_formed.flow i l (sym e)))
      (came-else flow kept.now now.now held b o h.came);
  rooted = inr (root, root-put flow digests held new kept now turn next root h over mark count put c, sym count, omega arith);
}

-- ---- a root is not put

-- under the ids of roots nothing comes where nothing was
none-comes : (held new : Records) (turn q : ℕ) → ChangesOnly (root_id (turn + 1)) (Some held) (Some new)
    → IsLeftOrGone (root_id (turn + 1)) (Some held) (Some new) → IsRootId q → map_of.get held q ≡ None → map_of.get new q ≡ None
none-comes held new turn q c l one none = elim (root_id-either turn q one) [
  | inl this ↦ c.others refl q (λ e. root_id-other turn (sym this ∙ e)) ∙ none
  | inr other ↦ elim (l refl) [
    | inl same ↦ ap (map_of.get new) other ∙ same ∙ ap (map_of.get held) (sym other) ∙ none
    | inr gone ↦ ap (map_of.get new) other ∙ gone
  ]
]

rooted-left : (flow : Dataflow) (digests : Digests) (held new : Records) (story : Story) (turn next : ℕ)
    → ChangesOnly (root_id (turn + 1)) (Some held) (Some new) → IsLeftOrGone (root_id (turn + 1)) (Some held) (Some new)
    → HoldsRootOf flow digests held story turn next → HoldsRootOf flow digests new story turn next
rooted-left flow digests held new story turn next c l (inl none) = inl (
  record {
    even = none-comes held new turn (root_id 0) c l (inl refl) none.0.even;
    odd = none-comes held new turn (root_id 1) c l (inr refl) none.0.odd;
  },
  none.1,
  none.2,
)
rooted-left flow digests held new story turn next c l (inr (root, is, last, below)) =
    let here : root_id root.mark.turn ≡ root_id turn = ap root_id (sym last) in
    let after : root_id (root.mark.turn + 1) ≡ root_id (turn + 1) = ap (λ t. root_id (t + 1)) (sym last) in
    inr (
      root,
      record {
        counted = record {
          there = c.others refl (root_id root.mark.turn) (λ e. root_id-other turn (sym here ∙ e)) ∙ is.counted.there;
          other = λ bytes there. elim (l refl) [
            | inl same ↦ is.counted.other bytes (ap (map_of.get held) after ∙ sym same ∙ ap (map_of.get new) (sym after) ∙ there)
            | inr gone ↦ (let no : Some bytes ≡ None = sym there ∙ ap (map_of.get new) after ∙ gone in absurd (cc))
          ];
        };
        of_digests = is.of_digests;
        over = over-stays flow story.now.batches story.now.state root held new
            (λ n at. c.others refl n (λ e. omega (
              arith,
              e,
              named_below flow (batches_by_node story.now.batches) root is.over.of_flow n at,
              is.over.of_flow.next_id,
              root_id-large (turn + 1),
            ))) is.over;
      },
      last,
      below,
    )

pub roots-left : RootsLeftStayKept
roots-left flow digests held new story turn next h c l = record {
  of_story = h.of_story;
  came = came-stays flow story held new h.of_story
      (λ s x i r. c.others refl (batch_id s x) (λ e. not-root flow s x (turn + 1) h.of_story.well_formed.flow i r (sym e))) h.came;
  rooted = rooted-left flow digests held new story turn next c l h.rooted;
}

-- ---- what an engine tells

pub told-over : {E : Type 0} (Stand : Standings E) (keep_of : E → KeepState) (flow_of : E → Dataflow) → ToldRootsAreOver Stand keep_of flow_of
told-over Stand keep_of flow_of engine mark root batches records state r many stands marks few =
    let flow = flow_of engine in
    record {
      of_flow = r.of_flow (batches_by_node batches) records state
          (subst (λ bs. Stand (with_batches flow bs) engine records state) (sym (given-nodes flow batches many)) stands) marks few;
      of_state = r.of_state (with_batches flow batches) records state stands;
      named = r.named (with_batches flow batches) records state stands;
    }
