-- How the effect of a step is printed.
use Rattle.std.specs.Prelude.{ℕ, List, [], ◌∷◌, ◌++◌, slice_index_or, codes}
use Rattle.std.specs.List.{flat_map}
use Rattle.fw_time.specs.Stamp.{Stamp}
use Rattle.fw_time.specs.StampText.{stamp_text}
use Rattle.fw_bag.specs.declared.rec.Rec.{Rec}
use Rattle.fw_bag.specs.RecText.{rec_text}
use Rattle.fw_frontier.specs.FrontText.{front_text}
use Rattle.fw_flow.specs.declared.choice.Cut.{Cut}
use Rattle.fw_flow.specs.declared.choice.Cut.TheVariants.{Present}
use Rattle.fw_flow.specs.Kind.{Kind}
use Rattle.fw_flow.specs.declared.kind.Kind.TheVariants.{OutputNumber}
use Rattle.fw_flow.specs.CutText.{cut_text}
use Rattle.fw_flow.specs.Dataflow.{Dataflow, node_at, kind_of, node_ids}
use Rattle.fw_model.specs.Steps.{Effect, silent, acked, cuts, lows, Outcome, did, idle, front_of_cut}

-- the recs, each after a space
abbrev pub recs_text : List Rec → List ℕ
recs_text [] = []
recs_text (rec ∷ recs) = (codes " " ++ rec_text rec) ++ recs_text recs

-- ` epoch EPOCH`, or ` number NUMBER` at an output of numbers
abbrev pub time_text : Kind → Stamp → List ℕ
time_text OutputNumber t = codes " number " ++ stamp_text t
time_text kind t = codes " epoch " ++ stamp_text t

-- `ack OUTPUT epoch EPOCH KEY:VALUE ..`
abbrev pub ack_line : List ℕ → Kind → Stamp → List Rec → List ℕ
ack_line name kind t recs = codes "ack " ++ name ++ time_text kind t ++ recs_text recs ++ codes "\n"

-- `cut NODE present`, `cut NODE all` or `cut NODE until STAMP ..`
abbrev pub cut_line : List ℕ → Cut → List ℕ
cut_line name cut = codes "cut " ++ name ++ codes " " ++ cut_text cut ++ codes "\n"

-- the line of each node's cut, where these are the cuts in the order of the nodes
abbrev pub cut_lines : Dataflow → List Cut → List ℕ
cut_lines flow in_order = flat_map (λ p. cut_line (node_at flow p).name (slice_index_or in_order p Present)) (node_ids flow)

-- `low NODE all` or `low NODE until STAMP ..`
abbrev pub low_line : List ℕ → Cut → List ℕ
low_line name cut = codes "low " ++ name ++ codes " " ++ front_text (front_of_cut cut) ++ codes "\n"

-- the line of each node's low watermark, where these are the cuts in the order of the nodes
abbrev pub low_lines : Dataflow → List Cut → List ℕ
low_lines flow in_order = flat_map (λ p. low_line (node_at flow p).name (slice_index_or in_order p Present)) (node_ids flow)

-- the lines of an effect: none, that of an acknowledgement, or one for each node in order
abbrev pub effect_text : Dataflow → Effect → List ℕ
effect_text flow silent = []
effect_text flow (acked o t recs) = ack_line (node_at flow o).name (kind_of flow o) t recs
effect_text flow (cuts choice) = cut_lines flow choice.cuts
effect_text flow (lows choice) = low_lines flow choice.cuts

-- the lines of what comes of a step
abbrev pub outcome_text : Dataflow → Outcome → List ℕ
outcome_text flow (did effect) = effect_text flow effect
outcome_text flow idle = []
