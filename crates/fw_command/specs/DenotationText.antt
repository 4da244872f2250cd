-- What the command `denote` prints: the denotation at the outputs.
use Rattle.std.specs.Prelude.{◌≡◌, ◌+◌, ◌-◌, ℕ, max, if◌then◌else◌, List, [], ◌∷◌, ◌++◌, length, map, Option, Some, None, slice_get, codes}
use Rattle.std.specs.Fmt.{decimal}
use Rattle.std.specs.List.{flat_map, range_with_len}
use Rattle.fw_time.specs.Stamp.{Stamp, same}
use Rattle.fw_time.specs.StampText.{stamp_text}
use Rattle.fw_bag.specs.RecText.{rec_text}
use Rattle.fw_flow.specs.Kind.{Kind}
use Rattle.fw_flow.specs.declared.kind.Kind.TheVariants.{OutputEpoch, OutputNumber}
use Rattle.fw_flow.specs.Dataflow.{System, node_at, kind_of, node_ids, in_edges, batches_of}
use Rattle.fw_flow.specs.WholeBags.{Timed, timed_where}
use Rattle.fw_model.specs.Denotation.{Family, IsDenotation}
use Rattle.fw_running.specs.EffectText.{recs_text}

-- ` KEY:VALUE`, if the timed rec is of the epoch
abbrev pub rec_at_text : ℕ → Timed → List ℕ
rec_at_text x r = if same (x ∷ []) r.at then codes " " ++ rec_text r.rec else []

-- `out OUTPUT epoch EPOCH KEY:VALUE ..`
abbrev pub epoch_line : List ℕ → List Timed → ℕ → List ℕ
epoch_line name bag x =
    codes "out " ++ name ++ codes " epoch " ++ decimal x ++ recs_text (timed_where (same (x ∷ [])) bag) ++ codes "\n"

-- `out OUTPUT number NUMBER KEY:VALUE`
abbrev pub number_line : List ℕ → Timed → List ℕ
number_line name r = codes "out " ++ name ++ codes " number " ++ stamp_text r.at ++ codes " " ++ rec_text r.rec ++ codes "\n"

-- the greatest of numbers, 0 where there are none
abbrev pub greatest : List ℕ → ℕ
greatest [] = 0
greatest (n ∷ ns) = max n (greatest ns)

-- the greatest number of batches of an input; the other nodes have none
abbrev pub most_batches : System → ℕ
most_batches sys = greatest (map (λ p. length (batches_of sys p)) (node_ids sys.flow))

-- the number after an epoch
abbrev pub after_epoch : Stamp → ℕ
after_epoch [] = 0
after_epoch (x ∷ t) = x + 1

-- how many epochs there are up to that of the timed rec
abbrev pub epochs_to : Option Timed → ℕ
epochs_to None = 0
epochs_to (Some r) = after_epoch r.at

-- how many epochs are told: as many as an input has batches, and those up to the last one with a rec
abbrev pub epochs_told : System → List Timed → ℕ
epochs_told sys bag = max (most_batches sys) (epochs_to (slice_get bag (length bag - 1)))

-- the lines of an output of this kind with this bag: one for each epoch, or one for each number
abbrev pub bag_text : System → Kind → List ℕ → List Timed → List ℕ
bag_text sys OutputEpoch name bag = flat_map (epoch_line name bag) (range_with_len 0 (epochs_told sys bag))
bag_text sys OutputNumber name bag = flat_map (number_line name) bag
bag_text sys kind name bag = []

-- the lines of a node, by the bag on each of its in-edges, of which an output has one
abbrev pub node_text : System → Family → ℕ → List ℕ
node_text sys family p = flat_map (λ e. bag_text sys (kind_of sys.flow p) (node_at sys.flow p).name (family e)) (in_edges sys.flow p)

-- the lines of the outputs, in the order of the nodes
abbrev pub denotation_text : System → Family → List ℕ
denotation_text sys family = flat_map (node_text sys family) (node_ids sys.flow)

-- this is the text of a denotation, of which there is one
pub record PrintsDenotation (sys : System) (printed : List ℕ) : Type 0 where
  pub family : Family
  pub denotes : IsDenotation sys family
  pub text : printed ≡ denotation_text sys family
