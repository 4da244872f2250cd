-- How kinds and policies are printed.
use Rattle.std.specs.Prelude.{ℕ, List, codes}
use Rattle.fw_flow.specs.declared.kind.Kind.{Kind as KindBy}
use Rattle.fw_flow.specs.declared.kind.Kind.TheVariants.{Input, OutputEpoch, OutputNumber, Select, Concat, Distinct, Join, Sum, Enter, Feedback, Leave, Total, Sequence, Ledger, Regroup}
use Rattle.fw_flow.specs.declared.kind.Policy.{Policy}
use Rattle.fw_flow.specs.declared.kind.Policy.TheVariants as policy

-- the words for the kind in the line of a node, without the selection, loop or number behind them
abbrev pub kind_text : {L : Type 0} → KindBy L → List ℕ
kind_text Input = codes "input"
kind_text OutputEpoch = codes "output epoch"
kind_text OutputNumber = codes "output number"
kind_text (Select selection within) = codes "select"
kind_text (Concat within) = codes "concat"
kind_text (Distinct within) = codes "distinct"
kind_text (Join within) = codes "join"
kind_text (Sum within) = codes "sum"
kind_text (Enter id) = codes "enter"
kind_text (Feedback id) = codes "feedback"
kind_text (Leave id) = codes "leave"
kind_text Total = codes "total"
kind_text Sequence = codes "sequence"
kind_text Ledger = codes "ledger"
kind_text (Regroup size) = codes "regroup"

-- the word of the policy
abbrev pub policy_text : Policy → List ℕ
policy_text policy.None = codes "none"
policy_text policy.Lazy = codes "lazy"
policy_text policy.Logged = codes "logged"
policy_text policy.Eager = codes "eager"
policy_text policy.Full = codes "full"
