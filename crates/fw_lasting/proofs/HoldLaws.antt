-- What records hold of a session once a batch is put.
use Rattle.std.proofs.Common.{◌≡◌, ◌≢◌, ℕ, ◌+◌, ◌<◌, ◌≤◌, ◌^◌, Bool, true, false, not, ◌&&◌, ◌==◌, List, [], ◌∷◌, ◌++◌, length, get_or, Some, None, refl, sym, ap, subst, ◌∙◌, inl, inr, arith}
use Rattle.std.specs.FinMap as map_of
use Rattle.std.proofs.lemmas.Bool.{cases_eq, cases_lt, eq-eqb, ne_eqb}
use Rattle.std.proofs.lemmas.List.{length-append, get_or_append_left}
use Rattle.fw_bag.specs.declared.rec.Rec.{Rec}
use Rattle.fw_flow.specs.Dataflow.{Dataflow, is_input_kind, kind_of}
use Rattle.fw_keep.specs.Stored.{Records}
use Rattle.fw_feeding.specs.FedRuns.{steps_among}
use Rattle.fw_feeding.proofs.FedRunLaws.{feeds-on}
use Rattle.fw_hold.specs.Found.{ChangesOnly}
use Rattle.fw_hold.specs.Kept.{IsCounted, root_id}
use Rattle.fw_hold.proofs.TurnLaws.{named_below}
use Rattle.fw_named.proofs.NamedLaws.{named-stay}
use Rattle.fw_root.specs.declared.root.Digests.{Digests}
use Rattle.fw_root.specs.declared.root.Root.{Root}
use Rattle.fw_session.specs.Story.{Story, IsStory, system_now, came_to, fed_batches, after_feed, after_close}
use Rattle.fw_session.proofs.FedRunningLaws.{have-last, story-run}
use Rattle.fw_session.proofs.StoryLaws.{closes-at, came-open, feeds-batches, feeds-well, story-closed, story-fed, story-open}
use Rattle.fw_lasting.specs.Given.{batches_by_node}
use Rattle.fw_came.specs.Came.{batch_bytes, batch_id}
use Rattle.fw_came.specs.Source.{is_closing}
use Rattle.fw_lasting.specs.KeptStory.{HoldsRootOf, HoldsWhatCame}
use Rattle.fw_lasting.specs.LawsOfLasting.{PutBatchesAreFed, PutEndsAreClosed}
use Rattle.fw_lasting.specs.RootOver.{IsRootOver}
use Rattle.fw_lasting.proofs.CameLaws.{HasOneMore, came-few, closed-more, fed-more}
use Rattle.fw_lasting.proofs.IdLaws.{ids-apart, not-root}
use Rattle.fw_lasting.proofs.MoreLaws.{roots-stay_over_more}

-- what is under another id
same-under : (id other : ℕ) (held new : Records) → ChangesOnly id (Some held) (Some new) → (other ≡ id → ⊥) → map_of.get new other ≡ map_of.get held other
same-under id other held new c apart = c.others refl other apart

-- ---- roots

root-there : (held new : Records) (id : ℕ) (root : Root) → ChangesOnly id (Some held) (Some new) → ((turn : ℕ) → root_id turn ≡ id → ⊥)
    → IsCounted held root → IsCounted new root
root-there held new id root c apart k = record {
  there = same-under id (root_id root.mark.turn) held new c (apart root.mark.turn) ∙ k.there;
  other = λ bytes there. k.other bytes (sym (same-under id (root_id (root.mark.turn + 1)) held new c (apart (root.mark.turn + 1))) ∙ there);
}

over-there : (flow : Dataflow) (held new : Records) (id : ℕ) (story : Story) (root : Root) → ChangesOnly id (Some held) (Some new) → 2 ^ 63 ≤ id
    → IsRootOver flow story.now.batches story.now.state root (Some held) → IsRootOver flow story.now.batches story.now.state root (Some new)
over-there flow held new id story root c large k = record {
  of_flow = k.of_flow;
  of_state = k.of_state;
  named = named-stay (system_now flow story) story.now.state root held new
      (λ n at. same-under id n held new c (λ e. omega (arith, e, large, named_below flow (batches_by_node story.now.batches) root k.of_flow n at, k.of_flow.next_id)))
      k.named;
}

-- a put under an id that is of no root, and that no engine draws, leaves the root, where this is one of the next story too
rooted-on : (flow : Dataflow) (digests : Digests) (held new : Records) (story next : Story) (turn drawn id : ℕ) → ChangesOnly id (Some held) (Some new)
    → ((t : ℕ) → root_id t ≡ id → ⊥) → 2 ^ 63 ≤ id → next.effects ≡ story.effects
    → ((root : Root) → IsRootOver flow story.now.batches story.now.state root (Some new) → IsRootOver flow next.now.batches next.now.state root (Some new))
    → HoldsRootOf flow digests held story turn drawn → HoldsRootOf flow digests new next turn drawn
rooted-on flow digests held new story next turn drawn id c apart large same on (inl none) = inl (
  record {
    even = same-under id (root_id 0) held new c (apart 0) ∙ none.0.even;
    odd = same-under id (root_id 1) held new c (apart 1) ∙ none.0.odd;
  },
  same ∙ none.1,
  none.2,
)
rooted-on flow digests held new story next turn drawn id c apart large same on (inr (root, is, last, below)) = inr (
  root,
  record {
    counted = root-there held new id root c apart is.counted;
    of_digests = is.of_digests;
    over = on root (over-there flow held new id story root c large is.over);
  },
  last,
  below,
)

-- ---- what came

-- a source is closed with a batch where it is not open then
closing-is : (b was : Bool) (n x : ℕ) → was ≡ true → x < n → (not b && (x + 1 == n + 1)) ≡ (not was && (x + 1 == n))
closing-is true true n x o l = refl
closing-is false true n x o l = ne_eqb (x + 1) (n + 1) (λ e. omega (arith, e, l))
closing-is b false n x o l = absurd (cc)

closing-last : (b last : Bool) (n : ℕ) → b ≡ not last → (not b && (n + 1 == n + 1)) ≡ last
closing-last b true n e = ap (λ c. not c && (n + 1 == n + 1)) e ∙ eq-eqb (n + 1) (n + 1) refl
closing-last b false n e = ap (λ c. not c && (n + 1 == n + 1)) e

-- the records hold one batch more, where it was put: its source was open, and is not any more where it is the last
pub came-on : (flow : Dataflow) (held new : Records) (story next : Story) (s : ℕ) (recs : List Rec) (last : Bool) → IsStory flow story → IsStory flow next
    → HasOneMore flow story next s recs → story.now.opened s ≡ true → next.now.opened s ≡ not last
    → ((q : ℕ) → q ≢ s → next.now.opened q ≡ story.now.opened q) → let id = batch_id s (length (came_to flow story.now s)) in
    map_of.get new id ≡ Some (batch_bytes last recs) → ChangesOnly id (Some held) (Some new) → HoldsWhatCame flow story.now held
    → HoldsWhatCame flow next.now new
came-on flow held new story next s recs last k m more o left else put c h =
    let old : ℕ → List (List Rec) = λ q. came_to flow story.now q in
    let now : ℕ → List (List Rec) = λ q. came_to flow next.now q in
    let n = length (old s) in
    let id = batch_id s n in
    let few : n ≤ 2 ^ 20 = came-few flow story k s in
    let one : length (now s) ≡ n + 1 = ap length more.here ∙ length-append (old s) (recs ∷ []) in
    λ q i. record {
      each = λ x l. elim (cases_eq q s) [
        | inl is ↦
            subst (λ p. map_of.get new (batch_id p x) ≡ Some (batch_bytes (is_closing (next.now.opened p) (length (now p)) x) (get_or (now p) x []))) (sym is)
            (let there : x < n + 1 = subst (λ j. x < j) one (subst (λ p. x < length (now p)) is l) in
            let at = is_closing (next.now.opened s) (length (now s)) x in
            elim (cases_lt x n) [
              | inl lt ↦
                  let was = (h s (subst (λ p. is_input_kind (kind_of flow p) ≡ true) is i)).each x lt in
                  let shut : at ≡ is_closing (story.now.opened s) n x =
                  ap (λ j. not (next.now.opened s) && (x + 1 == j)) one ∙ closing-is (next.now.opened s) (story.now.opened s) n x o lt in
                  let batch : get_or (now s) x [] ≡ get_or (old s) x [] =
                  ap (λ xs. get_or xs x []) more.here ∙ get_or_append_left (old s) (recs ∷ []) [] x lt in
                  same-under id (batch_id s x) held new c
                  (ids-apart s s n x (omega (arith, few)) (omega (arith, few, lt)) (inr (λ e. omega (arith, e, lt)))) ∙ was
                  ∙ ap (λ b. Some (batch_bytes b (get_or (old s) x []))) (sym shut) ∙ ap (λ r. Some (batch_bytes at r)) (sym batch)
              | inr ge ↦
                  let same : x ≡ n = omega (arith, there, ge) in
                  let shut : is_closing (next.now.opened s) (length (now s)) n ≡ last =
                  ap (λ j. not (next.now.opened s) && (n + 1 == j)) one ∙ closing-last (next.now.opened s) last n left in
                  let batch : get_or (now s) n [] ≡ recs = ap (λ xs. get_or xs n []) more.here ∙ at-end (old s) recs in
                  subst (λ y. map_of.get new (batch_id s y) ≡ Some (batch_bytes (is_closing (next.now.opened s) (length (now s)) y) (get_or (now s) y []))) (sym same)
                  (put ∙ ap (λ b. Some (batch_bytes b recs)) (sym shut) ∙ ap (λ r. Some (batch_bytes (is_closing (next.now.opened s) (length (now s)) n) r)) (sym batch))
            ])
        | inr d ↦
            let same = more.others q d in
            let m : x < length (old q) = subst (λ xs. x < length xs) same l in
            let all : length (old q) ≤ 2 ^ 20 = came-few flow story k q in
            same-under id (batch_id q x) held new c (ids-apart s q n x (omega (arith, few)) (omega (arith, all, m)) (inl d)) ∙ (h q i).each x m
            ∙ ap (λ b. Some (batch_bytes (not b && (x + 1 == length (old q))) (get_or (old q) x []))) (sym (else q d))
            ∙ ap (λ xs. Some (batch_bytes (not (next.now.opened q) && (x + 1 == length xs)) (get_or xs x []))) (sym same)
      ];
      none = λ x l r. elim (cases_eq q s) [
        | inl is ↦
            let past : n + 1 ≤ x = subst (λ j. j ≤ x) one (subst (λ p. length (now p) ≤ x) is l) in
            subst (λ p. map_of.get new (batch_id p x) ≡ None) (sym is)
            (same-under id (batch_id s x) held new c (ids-apart s s n x (omega (arith, few)) r (inr (λ e. omega (arith, e, past))))
            ∙ (h s (subst (λ p. is_input_kind (kind_of flow p) ≡ true) is i)).none x (omega (arith, past)) r)
        | inr d ↦
            same-under id (batch_id q x) held new c (ids-apart s q n x (omega (arith, few)) r (inl d))
            ∙ (h q i).none x (subst (λ xs. length xs ≤ x) (more.others q d) l) r
      ];
    }
  where
    at-end : (xs : List (List Rec)) (x : List Rec) → get_or (xs ++ x ∷ []) (length xs) [] ≡ x
    at-end [] x = refl
    at-end (y ∷ xs) x = at-end xs x

-- ---- the story goes on

pub put-fed : PutBatchesAreFed
put-fed flow digests held new story turn next h s recs o batch room few put c =
    let k = h.of_story in
    let n = length (came_to flow story.now s) in
    let all = came-open flow story k s o in
    let input = (story-open flow story k).input s o in
    let m = story-fed flow story k s recs o (feeds-well flow story k s recs o batch (omega (arith, all, room))) in
    record {
      of_story = m;
      came = came-on flow held new story (after_feed s recs story) s recs false k m (fed-more flow story s recs k m) o o (λ q d. refl) put c h.came;
      rooted = rooted-on flow digests held new story (after_feed s recs story) turn next (batch_id s n) c
          (λ t. not-root flow s n t k.well_formed.flow input (omega (arith, room))) (omega arith) refl
          (λ root over. roots-stay_over_more story.now.opened flow story.now.batches (fed_batches s recs story.now.batches)
          (feeds-on flow story.now.opened story.now.batches (fed_batches s recs story.now.batches) s recs ([] ∷ []) (have-last flow story k) o
          (feeds-batches flow story k s recs o)) (steps_among story.actions) story.effects story.now.state (story-run flow story k) root (Some new) over)
          h.rooted;
    }

pub put-closed : PutEndsAreClosed
put-closed flow digests held new story turn next h s o few put c =
    let k = h.of_story in
    let n = length (came_to flow story.now s) in
    let all = came-few flow story k s in
    let input = (story-open flow story k).input s o in
    let m = story-closed flow story k s o in
    let shut = closes-at s story.now.opened in
    record {
      of_story = m;
      came = came-on flow held new story (after_close s story) s [] true k m (closed-more flow story s k m) o shut.here shut.others put c h.came;
      rooted = rooted-on flow digests held new story (after_close s story) turn next (batch_id s n) c
          (λ t. not-root flow s n t k.well_formed.flow input (omega (arith, all))) (omega arith) refl (λ root over. over) h.rooted;
    }
