use Rattle.std.proofs.Common.{◌≡◌, ◌&&◌, not, Bool, true, false, [], IfOk, refl, ap}
use Rattle.std.proofs.lemmas.Result.{IfOk-weaker}
use Rattle.fw_time.specs.Stamp.{Stamp as StampList}
use Rattle.fw_bag.specs.Arrivals.{recs_inside}
use Rattle.fw_frontier.specs.Front.{inside}
use Rattle.fw_flow.specs.declared.kind.Kind.TheVariants as kind
use Rattle.fw_flow.specs.Dataflow.{is_sequence_kind}
use Rattle.fw_table.specs.Sums.{sums_at_keys}
use Rattle.fw_node.specs.Past.{is_taken}
use Rattle.fw_node.specs.StateOf.{IsPastSince, totals_in}
use Rattle.fw_node.proofs.StateLaws.{has_changed, nothing_since}
use Rattle.fw_node.proofs.TableCases.{of_ledger, of_sequence, of_total, of_variant}
use Rattle.fw_node.proofs.table.Table.state_since.Goals as goal

pub returns-in_ok-until-in-Total-clause-state : goal.returns-in_ok-until-in-Total-clause-state
returns-in_ok-until-in-Total-clause-state c = λ flow k past r sub more.
    let g : StampList → Bool = inside c.args.g.now in
    let f : StampList → Bool = inside c.args.f.now in
    of_total flow past (λ x. IfOk c.state_since.result (IsPastSince x g f past)) c.in-Total.table k (of_variant flow k past c.in-Total.is r)
    (λ h. IfOk-weaker c.state_since.result _ _
    (λ state e. has_changed kind.Total past g f 0 (sums_at_keys (recs_inside (λ s. f s && not (g s)) past.came) (recs_inside f past.came)) state e refl
    (λ is. let no : false ≡ true = ap is_sequence_kind is in absurd (cc no)))
    (c.state_since.ensures.state past.settled g f (is_taken past) past.came c.in_ok-since-in-Total.ensures sub c.in_ok-until-in-Total.ensures more h))

pub returns-in_ok-until-in-Ledger-clause-state : goal.returns-in_ok-until-in-Ledger-clause-state
returns-in_ok-until-in-Ledger-clause-state c = λ flow k past r sub more.
    let g : StampList → Bool = inside c.args.g.now in
    let f : StampList → Bool = inside c.args.f.now in
    of_ledger flow past (λ x. IfOk c.state_since-in-Ledger.result (IsPastSince x g f past)) c.in-Ledger.table k (of_variant flow k past c.in-Ledger.is r)
    (λ h. IfOk-weaker c.state_since-in-Ledger.result _ _
    (λ state e. has_changed kind.Ledger past g f 0 (sums_at_keys (recs_inside (λ s. f s && not (g s)) past.came) (recs_inside f past.came)) state e refl
    (λ is. let no : false ≡ true = ap is_sequence_kind is in absurd (cc no)))
    (c.state_since-in-Ledger.ensures.state past.settled g f past.came c.in_ok-since-in-Ledger.ensures sub c.in_ok-until-in-Ledger.ensures more h))

pub returns-in_ok-until-in-Sequence-clause-state : goal.returns-in_ok-until-in-Sequence-clause-state
returns-in_ok-until-in-Sequence-clause-state c = λ flow k past r sub more.
    let g : StampList → Bool = inside c.args.g.now in
    let f : StampList → Bool = inside c.args.f.now in
    of_sequence flow past (λ x. IsPastSince x g f past c.state_since-in-Sequence.result) c.in-Sequence.table k (of_variant flow k past c.in-Sequence.is r)
    (λ h. has_changed kind.Sequence past g f past.numbered [] c.state_since-in-Sequence.result
    (c.state_since-in-Sequence.ensures.state (is_taken past) past.came past.numbered h) refl (λ is. refl))

pub returns-in_default-clause-state : goal.returns-in_default-clause-state
returns-in_default-clause-state c = λ flow k past r sub more.
    nothing_since flow past (inside c.args.g.now) (inside c.args.f.now) c.empty_state.result (ap (λ x. totals_in x.entries) c.empty_state.ensures)
    c.args.self.now k c.in_default.not-Total c.in_default.not-Sequence c.in_default.not-Ledger r
