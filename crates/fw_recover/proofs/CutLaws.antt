-- Traces that are cut node by node.
use Rattle.std.proofs.Common.{◌≡◌, ◌≢◌, ℕ, ◌+◌, List, Option, Some, None, refl, sym, subst, inl, inr, arith}
use Rattle.std.specs.Prelude.{find}
use Rattle.std.proofs.lemmas.Bool.{cases_Bool, cases_lt}
use Rattle.fw_flow.specs.declared.choice.Choice.{Choice}
use Rattle.fw_flow.specs.declared.choice.Cut.{Cut}
use Rattle.fw_flow.specs.declared.choice.Cut.TheVariants.{Present, At}
use Rattle.fw_flow.specs.Dataflow.{Dataflow, policy_of}
use Rattle.fw_model.specs.Choice.{cut_of}
use Rattle.fw_model.specs.Writes.{takes_checkpoints}
use Rattle.fw_keep.specs.declared.entry.Entry.{Entry}
use Rattle.fw_keep.specs.declared.entry.Written.{Written}
use Rattle.fw_keep.specs.declared.entry.Written.TheVariants as written
use Rattle.fw_progress.specs.declared.traces.Traces.{Traces}
use Rattle.fw_progress.specs.Trace.{IsTraceIf}
use Rattle.fw_recover.specs.CutTraces.{AreSavedAs, AreSavedBy, AreTracesCut, AreTracesCutAt, IsTraceCut, KeepsTrace, is_saved_at}

-- traces that are the same keep those of each node
pub same-keep : (flow : Dataflow) (p : ℕ) (old new : Traces) → new ≡ old → KeepsTrace flow p old new
same-keep flow p old new e = λ whole sys h is base t. subst (IsTraceIf whole sys h p base) (sym e) t

saved-keep : (flow : Dataflow) (p : ℕ) (w : Written) (old new : Traces) → AreSavedBy flow p w old new → (q : ℕ) → q ≢ p → KeepsTrace flow q old new
saved-keep flow p (written.Checkpoint recorded stamps sent) old new s q n = λ whole sys h is base t. s.others whole sys h is q n base t
saved-keep flow p (written.Event event) old new s q n = same-keep flow q old new s

as-keep : (flow : Dataflow) (p : ℕ) (o : Option Entry) (old new : Traces) → AreSavedAs flow p o old new → (q : ℕ) → q ≢ p → KeepsTrace flow q old new
as-keep flow p (Some e) old new s q n = saved-keep flow p e.written old new s q n
as-keep flow p None old new s q n = λ whole sys h is base t. s.2.others whole sys h is q n base t

-- a cut of a node keeps the traces of the others
cut-keep : (flow : Dataflow) (es : List Entry) (p : ℕ) (cut : Cut) (old new : Traces) → AreTracesCutAt flow es p cut old new → (q : ℕ) → q ≢ p → KeepsTrace flow q old new
cut-keep flow es p Present old new c q n = same-keep flow q old new c
cut-keep flow es p (At f) old new c q n = elim (cases_Bool (takes_checkpoints (policy_of flow p))) [
  | inl i ↦ as-keep flow p (find (is_saved_at p f) es) old new (c.saved i) q n
  | inr i ↦ λ whole sys h is base t. (c.inside i).others whole sys h is q n base t
]

pub traces-none : (flow : Dataflow) (es : List Entry) (choice : Choice) (old : Traces) → AreTracesCut flow es choice 0 old old
traces-none flow es choice old = record {
  cut = λ p l. absurd (omega arith);
  others = λ p l. same-keep flow p old old refl;
}

one-more : (flow : Dataflow) (es : List Entry) (choice : Choice) (n : ℕ) (old mid new : Traces) → AreTracesCut flow es choice n old mid
    → AreTracesCutAt flow es n (cut_of choice n) mid new → (p : ℕ) → p ≡ n → IsTraceCut flow es choice p old new
one-more flow es choice n old mid new so step p e =
    subst (λ q. IsTraceCut flow es choice q old new) (sym e)
    (record { before = mid; after = new; was = so.others n (omega arith); cut = step; stays = same-keep flow n new new refl })

pub traces-more : (flow : Dataflow) (es : List Entry) (choice : Choice) (n : ℕ) (old mid new : Traces) → AreTracesCut flow es choice n old mid
    → AreTracesCutAt flow es n (cut_of choice n) mid new → AreTracesCut flow es choice (n + 1) old new
traces-more flow es choice n old mid new so step = record {
  cut = λ p l. elim (cases_lt p n) [
    | inl below ↦
        let c = so.cut p below in
        record {
          before = c.before;
          after = c.after;
          was = c.was;
          cut = c.cut;
          stays = λ whole sys h is base t. cut-keep flow es n (cut_of choice n) mid new step p (λ e. absurd (omega arith)) whole sys h is base (c.stays whole sys h is base t);
        }
    | inr above ↦ one-more flow es choice n old mid new so step p (omega arith)
  ];
  others = λ p l whole sys h is base t. cut-keep flow es n (cut_of choice n) mid new step p (λ e. absurd (omega arith)) whole sys h is base (so.others p (omega arith) whole sys h is base t);
}
