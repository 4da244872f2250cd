use Rattle.std.proofs.Common.{nat_lt, length, sym, ap, subst, ◌∙◌}
use Rattle.std.specs.List.{list_all}
use Rattle.std.proofs.lemmas.Result.{IfOk-at_ok}
use Rattle.fw_flow.specs.WellFormed.{IsWellFormed}
use Rattle.fw_model.specs.Machine.{events}
use Rattle.fw_progress.specs.Cut.{events_left, AreTallies, ArePendingAfter, AreTablesAfter, AreCut}
use Rattle.fw_progress.specs.History.{IsCountOf, AreKeptAdmissible}
use Rattle.fw_progress.specs.Progress.{Standing, IsOfFlow}
use Rattle.fw_progress.specs.Start.{AreLargest}
use Rattle.fw_progress.proofs.CutCountLaws.{counts-left, cut-counts}
use Rattle.fw_progress.proofs.StartLaws.{largest-stands}
use Rattle.fw_progress.proofs.progress.Progress.cut.Goals as goal

pub largest-kept-requires : goal.largest-kept-requires
largest-kept-requires c =
    let flow = c.args.flow.now in
    let new = c.cut_counts.new.counts in
    let o = subst (IsOfFlow flow) (sym c.self.view_is) (c.requires.progress (sym (ap (λ (s : Standing). s.refused) c.self.view_is) ∙ c.if-self.false)) in
    cut-counts flow c.args.choice.now c.self.inside.counts new o.counts c.cut_counts.ensures.cut (subst (AreTallies flow) (sym c.cut_counts.ensures.pending) c.requires.pending)
    (ap length c.cut_counts.ensures.sent ∙ c.requires.sent)

pub returns-clause-progress : goal.returns-clause-progress
returns-clause-progress c = λ k.
    let flow = c.args.flow.now in
    let new = c.cut_counts.new.counts in
    let o = subst (IsOfFlow flow) (sym c.self.view_is) (c.requires.progress (sym (ap (λ (s : Standing). s.refused) c.self.view_is) ∙ c.if-self.false)) in
    let found = IfOk-at_ok (λ fronts. AreLargest flow new fronts.items) c.in_ok-self-inside.was c.largest-kept.ensures in
    record {
      counts = cut-counts flow c.args.choice.now c.self.inside.counts new o.counts c.cut_counts.ensures.cut (subst (AreTallies flow) (sym c.cut_counts.ensures.pending) c.requires.pending)
          (ap length c.cut_counts.ensures.sent ∙ c.requires.sent);
      settled_each = c.requires.settled.one_each;
      settled = c.requires.settled.canonical;
      kept_each = found.one_each;
      kept = found.canonical;
      nodes = ap (list_all (λ p. nat_lt p (length flow.nodes))) c.new.ensures;
    }

pub returns-clause-complete : goal.returns-clause-complete
returns-clause-complete c = λ sys h e b l s pend tabs.
    let flow = c.args.flow.now in
    let choice = c.args.choice.now in
    let old = c.self.inside.counts in
    let new = c.cut_counts.new.counts in
    let k = events_left sys choice h in
    let o = subst (IsOfFlow flow) (sym c.self.view_is) (c.requires.progress (sym (ap (λ (x : Standing). x.refused) c.self.view_is) ∙ c.if-self.false)) in
    let of = cut-counts flow choice old new o.counts c.cut_counts.ensures.cut (subst (AreTallies flow) (sym c.cut_counts.ensures.pending) c.requires.pending)
    (ap length c.cut_counts.ensures.sent ∙ c.requires.sent) in
    let found = IfOk-at_ok (λ fronts. AreLargest flow new fronts.items) c.in_ok-self-inside.was c.largest-kept.ensures in
    let count = counts-left sys h choice old new (subst IsWellFormed (sym e) c.flow_is_well_formed.ensures) b l
    (subst (IsCountOf sys (events h)) (sym (ap (λ (x : Standing). x.counts) c.self.view_is)) s)
    (subst (λ g. AreCut g choice old new) (sym e) c.cut_counts.ensures.cut)
    (subst (ArePendingAfter sys k) (sym c.cut_counts.ensures.pending) pend)
    (subst (AreTablesAfter sys k) (sym c.cut_counts.ensures.sent) tabs) in
    let both = largest-stands flow new c.in_ok-self-inside.field-0.items c.flow_is_well_formed.ensures of found sys k e count in
    (record { counts = count; kept = subst (AreKeptAdmissible sys k c.in_ok-self-inside.field-0.items) (sym c.new.ensures) both.0 }, both.1)
