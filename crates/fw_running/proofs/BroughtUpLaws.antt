-- The kept frontiers of an engine are brought up.
use Rattle.std.proofs.Common.{◌≡◌, ◌≢◌, ℕ, ◌+◌, ◌<◌, List, [], ◌∷◌, length, get_or, take, set, sym, ap, subst, ◌∙◌, inl, inr, arith}
use Rattle.std.specs.Prelude.{◌⊎◌, Option}
use Rattle.std.specs.List.{AllByRecursion, Contains}
use Rattle.std.proofs.lemmas.Bool.{cases_eq}
use Rattle.std.proofs.lemmas.List.{get_or-set_other}
use Rattle.std.proofs.lemmas.List.Elements.{All-more, All-weaker, recursion_from_All}
use Rattle.fw_frontier.specs.Front.{Front, inside}
use Rattle.fw_flow.specs.Dataflow.{Dataflow, System}
use Rattle.fw_model.specs.Machine.{Machine, front_of, events}
use Rattle.fw_keep.specs.Stored.{Records}
use Rattle.fw_progress.specs.declared.growth.Growth.{Growth}
use Rattle.fw_progress.specs.Growths.{AreGrowths}
use Rattle.fw_progress.specs.History.{IsFresh, StandsForHistory}
use Rattle.fw_progress.specs.Counts.{owed_of}
use Rattle.fw_progress.specs.Progress.{Standing, IsOfFlow}
use Rattle.fw_progress.specs.Settle.{has_more}
use Rattle.fw_running.specs.declared.running.Running.{Running}
use Rattle.fw_running.specs.BroughtUp.{ChangesProgress, KeepsGrowing, AreNoted, IsBroughtUp}
use Rattle.fw_running.specs.Kept.{is_down, output_of}
use Rattle.fw_running.specs.Places.{IsPut}
use Rattle.fw_running.specs.Ready.{HasGrown, CanAcknowledgeBy, IsOwingBy}
use Rattle.fw_running.specs.ReadyState.{ReadyState}
use Rattle.fw_running.specs.Shaped.{IsShaped}
use Rattle.fw_running.specs.Stands.{Stands}
use Rattle.fw_running.proofs.KeptShapes.{shaped-standing, traces-fit}
use Rattle.fw_running.proofs.SameStateLaws.{same-stands}

-- no growth is noted yet
pub none_noted : (growths : List Growth) (places : List ℕ) → AreNoted (take 0 growths) places places
none_noted growths places = record { there = λ k d l. absurd (omega arith); stays = λ p h. h }

-- one growth more is noted
pub noted_more : (growths : List Growth) (i p : ℕ) (g : Growth) (old mid new : List ℕ) → i < length growths → g ≡ get_or growths i g → p ≡ g.node
    → AreNoted (take i growths) old mid → IsPut p mid new → AreNoted (take (i + 1) growths) old new
noted_more growths i p g old mid new l is at before put = record {
  there = All-more (λ (h : Growth). Contains new h.node) growths i g l
      (All-weaker (λ (h : Growth). Contains mid h.node) (λ (h : Growth). Contains new h.node) (λ h c. put.stays h.node c) (take i growths) before.there)
      (subst (λ (h : Growth). Contains new h.node) is (subst (λ (q : ℕ). Contains new q) at put.there));
  stays = λ q h. put.stays q (before.stays q h);
}

-- each node grew, so that it is among the places, or its frontier is as it was
pub grown_or_same : (flow : Dataflow) (old new : List Front) (growths : List Growth) → AreGrowths flow old growths new → (places : List ℕ)
    → AllByRecursion (λ (g : Growth). Contains places g.node) growths → (p : ℕ) → Contains places p ⊎ (front_of new p ≡ front_of old p)
grown_or_same flow old new [] e places all p = inr (ap (λ fs. front_of fs p) e)
grown_or_same flow old new (g ∷ gs) e places all p = by (grown_or_same flow (set old g.node g.front) new gs e.1 places all.1 p) (cases_eq g.node p)
  where
    by : Contains places p ⊎ (front_of new p ≡ front_of (set old g.node g.front) p) → (g.node ≡ p) ⊎ (g.node ≢ p)
        → Contains places p ⊎ (front_of new p ≡ front_of old p)
    by (inl c) k = inl c
    by (inr s) (inl k) = inl (subst (λ (q : ℕ). Contains places q) k all.0)
    by (inr s) (inr n) = inr (s ∙ get_or-set_other old g.node p g.front [] (λ k. n (sym k)))

-- where frontiers grew and the nodes are noted, all that have more kept than settled are among the growing ones
pub keeps_growing : (flow : Dataflow) (old new : Running) (growths : List Growth) → ChangesProgress old new → new.progress.settled ≡ old.progress.settled
    → AreGrowths flow old.progress.kept growths new.progress.kept → AreNoted growths old.ready.growing new.ready.growing → KeepsGrowing old new
keeps_growing flow old new growths others settled grown noted all p has =
    by (grown_or_same flow old.progress.kept new.progress.kept growths grown new.ready.growing
    (recursion_from_All (λ (g : Growth). Contains new.ready.growing g.node) growths noted.there) p)
  where
    by : Contains new.ready.growing p ⊎ (front_of new.progress.kept p ≡ front_of old.progress.kept p) → Contains new.ready.growing p
    by (inl c) = c
    by (inr same) = noted.stays p (all p (record {
      there = subst (λ (r : Running). p < length r.flow.nodes) others has.there;
      more = ap (λ f. has_more f (front_of old.progress.settled p)) (sym same) ∙ ap (λ fs. has_more (front_of new.progress.kept p) (front_of fs p)) (sym settled) ∙ has.more;
    }))

-- frontiers that are refreshed and noted are brought up
pub brought_up : (old : Running) (progress : Standing) (ready : ReadyState) (growths : List Growth) → IsFresh old.flow old.progress progress
    → AreGrowths old.flow old.progress.kept growths progress.kept → IsOfFlow old.flow progress → ready ≡ record old.ready { growing = ready.growing }
    → AreNoted growths old.ready.growing ready.growing → IsBroughtUp old (record old { progress = progress; ready = ready })
brought_up old progress ready growths fresh grown of_flow is noted =
    let new : Running = record old { progress = progress; ready = ready } in
    let others : ChangesProgress old new = ap (λ (r : ReadyState). record old { progress = progress; ready = r }) is in
    record { others = others; fresh = fresh; progress = of_flow; growing = keeps_growing old.flow old new growths others fresh.settled grown noted }

-- what is asked of progress whose frontiers are complete leaves them
pub still_up : (old mid : Running) (progress : Standing) → IsBroughtUp old mid → IsFresh mid.flow mid.progress progress → IsOfFlow mid.flow progress
    → IsBroughtUp old (record mid { progress = progress })
still_up old mid progress up again of_flow =
    let same : mid.flow ≡ old.flow = ap (λ (r : Running). r.flow) up.others in
    let f : IsFresh old.flow mid.progress progress = subst (λ flow. IsFresh flow mid.progress progress) same again in
    let kept : progress.kept ≡ mid.progress.kept = f.still up.fresh.none_waits in
    record {
      others = ap (λ (r : Running). record r { progress = progress }) up.others;
      fresh = record {
        counts = f.counts ∙ up.fresh.counts;
        settled = f.settled ∙ up.fresh.settled;
        growths = up.fresh.growths;
        grown = subst (λ fs. AreGrowths old.flow old.progress.kept up.fresh.growths fs) (sym kept) up.fresh.grown;
        none_waits = f.none_waits;
        still = λ e. kept ∙ up.fresh.still e;
        ready = f.ready;
        complete = λ sys h e s. f.complete sys h e (up.fresh.complete sys h e s).0;
      };
      progress = subst (λ flow. IsOfFlow flow progress) same of_flow;
      growing = λ all p has. up.growing all p (record {
        there = has.there;
        more = ap (λ fs. has_more (front_of fs p) (front_of mid.progress.settled p)) (sym kept)
            ∙ ap (λ fs. has_more (front_of progress.kept p) (front_of fs p)) (sym f.settled) ∙ has.more;
      });
    }

-- an engine whose frontiers are brought up stands for the same states
pub brought_up_stands : (sys : System) (state : Machine) (old new : Running) (records : Option Records) → Stands sys old records state → IsBroughtUp old new
    → Stands sys new records state
brought_up_stands sys state old new records s up =
    let progress : StandsForHistory sys (events state.history) new.progress = (up.fresh.complete sys (events state.history) (sym s.apart.flow) s.apart.progress).0 in
    subst (λ (r : Running). Stands sys r records state) (sym up.others)
    (same-stands sys old old.parts.keep new.progress (record old.ready { growing = new.ready.growing }) records records state s (up.fresh.settled ∙ s.apart.settled) progress s.apart.entries s.apart.bases
    s.apart.stored)

-- and keeps its shape
pub brought_up_shaped : (old new : Running) → IsShaped old → IsBroughtUp old new → IsShaped new
brought_up_shaped old new s up =
    subst (λ (r : Running). IsShaped r) (sym up.others) (shaped-standing old new.progress old.traces (record old.ready { growing = new.ready.growing }) s
    (up.progress, up.fresh.ready) (traces-fit old s)
    (record {
      edges = s.ready.edges;
      owing = λ p c. s.ready.owing p (subst (λ counts. IsOwingBy old.flow p (is_down old p) (owed_of counts p)) up.fresh.counts c);
      growing = λ p c. up.growing s.ready.growing p (subst (λ (r : Running). HasGrown r p) (sym up.others) c);
      outputs = λ o c. s.ready.outputs o
          (subst (λ fs. CanAcknowledgeBy old.flow o (is_down old o) old.epochs (output_of old o) (front_of fs o)) up.fresh.settled c);
      inputs = s.ready.inputs;
    }))
