-- What came to a source, one batch later.
use Rattle.std.proofs.Common.{◌≡◌, ◌≢◌, ℕ, ◌≤◌, ◌^◌, Bool, true, false, ◌==◌, cond, List, [], ◌∷◌, ◌++◌, length, refl, sym, ap, ◌∙◌, arith}
use Rattle.std.proofs.lemmas.Bool.{ne_eqb}
use Rattle.std.proofs.lemmas.List.{append-nil}
use Rattle.fw_lemmas.proofs.Numbers.{eqb-self}
use Rattle.fw_bag.specs.declared.rec.Rec.{Rec}
use Rattle.fw_border.specs.Sources.{without_last}
use Rattle.fw_flow.specs.Dataflow.{Dataflow, batches_of}
use Rattle.fw_feeding.specs.FedRuns.{Action, feed, close, close_with, do_step}
use Rattle.fw_session.specs.Story.{Story, IsStory, system_now, came_to, given_to, after_feed, after_close}
use Rattle.fw_session.proofs.StoryLaws.{stories_have_what_came}

one-behind : (b : Bool) (x : List Rec) (all some rest : List (List Rec)) → all ≡ some ++ rest → cond b (x ∷ all) all ≡ cond b (x ∷ some) some ++ rest
one-behind true x all some rest e = ap (λ xs. x ∷ xs) e
one-behind false x all some rest e = e

-- what more actions give stands behind what some gave
given-behind : (s : ℕ) (actions more : List Action) → given_to s (actions ++ more) ≡ given_to s actions ++ given_to s more
given-behind s [] more = refl
given-behind s (feed q recs ∷ actions) more =
    one-behind (q == s) recs (given_to s (actions ++ more)) (given_to s actions) (given_to s more) (given-behind s actions more)
given-behind s (close q ∷ actions) more =
    one-behind (q == s) [] (given_to s (actions ++ more)) (given_to s actions) (given_to s more) (given-behind s actions more)
given-behind s (close_with q recs ∷ actions) more =
    one-behind (q == s) recs (given_to s (actions ++ more)) (given_to s actions) (given_to s more) (given-behind s actions more)
given-behind s (do_step step ∷ actions) more = given-behind s actions more

-- The next story is that of before with one batch more of source s.
pub record HasOneMore (flow : Dataflow) (story next : Story) (s : ℕ) (recs : List Rec) : Type 0 where
  pub here : came_to flow next.now s ≡ came_to flow story.now s ++ recs ∷ []
  pub others : (q : ℕ) → q ≢ s → came_to flow next.now q ≡ came_to flow story.now q

one-more : (flow : Dataflow) (story next : Story) (s : ℕ) (recs : List Rec) → IsStory flow story → IsStory flow next
    → ((q : ℕ) → given_to q next.actions ≡ given_to q story.actions ++ cond (s == q) (recs ∷ []) []) → HasOneMore flow story next s recs
one-more flow story next s recs k m g =
    let all : (q : ℕ) → came_to flow next.now q ≡ came_to flow story.now q ++ cond (s == q) (recs ∷ []) [] =
    λ q. stories_have_what_came flow next m q ∙ g q ∙ ap (λ xs. xs ++ cond (s == q) (recs ∷ []) []) (sym (stories_have_what_came flow story k q)) in
    record {
      here = all s ∙ ap (λ b. came_to flow story.now s ++ cond b (recs ∷ []) []) (eqb-self s);
      others = λ q n. all q ∙ ap (λ b. came_to flow story.now q ++ cond b (recs ∷ []) []) (ne_eqb s q (λ e. n (sym e)))
          ∙ append-nil (came_to flow story.now q);
    }

pub fed-more : (flow : Dataflow) (story : Story) (s : ℕ) (recs : List Rec) → IsStory flow story → IsStory flow (after_feed s recs story)
    → HasOneMore flow story (after_feed s recs story) s recs
fed-more flow story s recs k m = one-more flow story (after_feed s recs story) s recs k m (λ q. given-behind q story.actions (feed s recs ∷ []))

pub closed-more : (flow : Dataflow) (story : Story) (s : ℕ) → IsStory flow story → IsStory flow (after_close s story)
    → HasOneMore flow story (after_close s story) s []
closed-more flow story s k m = one-more flow story (after_close s story) s [] k m (λ q. given-behind q story.actions (close s ∷ []))

-- to no source came more than 2^20 batches
short : {X : Type 0} (xs : List X) → length (without_last xs) ≤ length xs
short [] = omega arith
short (x ∷ []) = omega arith
short (x ∷ y ∷ xs) = let l = short (y ∷ xs) in omega (arith, l)

pub came-few : (flow : Dataflow) (story : Story) → IsStory flow story → (s : ℕ) → length (came_to flow story.now s) ≤ 2 ^ 20
came-few flow story k s = by (story.now.opened s) (batches_of (system_now flow story) s) (k.well_formed.few s)
  where
    by : (b : Bool) (bs : List (List Rec)) → length bs ≤ 2 ^ 20 → length (cond b (without_last bs) bs) ≤ 2 ^ 20
    by true bs few = let l = short bs in omega (arith, few, l)
    by false bs few = few
