use Rattle.std.proofs.Common.{◌≡◌, [], ◌∷◌, length, Option, Some, None, sym, ap, ◌∙◌, subst, rules, arith}
use Rattle.std.specs.Ordering.{nat_cmp}
use Rattle.std.specs.BTreeMap.{get}
use Rattle.fw_time.specs.Stamp.{Stamp}
use Rattle.fw_time.specs.declared.time.Epoch.{Epoch}
use Rattle.fw_bag.specs.Arrivals.{arrivals_at, recs_of}
use Rattle.fw_bag.specs.Keyed.{sorted_recs}
use Rattle.fw_table.specs.Content.{IsContentOf}
use Rattle.fw_numbered.specs.declared.sequence.Held.{Held}
use Rattle.fw_numbered.specs.Numbers.{at_numbers, recs_numbered}
use Rattle.fw_numbered.specs.Sequence.{holds_bag}
use Rattle.fw_numbered.proofs.WaitingLaws.{removed, none_removed, waits_now}
use Rattle.fw_numbered.proofs.sequence.Sequence.on_notify.Goals as goal

pub returns-in_default-clause-ok : goal.returns-in_default-clause-ok
returns-in_default-clause-ok c = λ gone came n out r.
    let none : get (λ (x y : Epoch). nat_cmp x.0 y.0) c.args.self.now.held c.args.t ≡ None = search rules in
    let items = ap length c.of.ensures in
    let next = r.next in
    record {
      waiting = none_removed gone came c.args.t c.args.self.now.held none r.waiting;
      next = omega arith;
    }

pub returns-in_default-clause-sent : goal.returns-in_default-clause-sent
returns-in_default-clause-sent c = λ gone came n out r.
    let t : Stamp = c.args.t.0 ∷ [] in
    let none : get (λ (x y : Epoch). nat_cmp x.0 y.0) c.args.self.now.held c.args.t ≡ None = search rules in
    let P : Option Held → Type 0 = λ o. IsContentOf holds_bag o (arrivals_at t came) in
    let nothing : arrivals_at t came ≡ [] = subst P none (waits_now gone came c.args.t out _ (r.waiting c.args.t)) in
    ap (at_numbers c.args.self.now.next) c.of.ensures ∙ sym (ap (λ xs. recs_numbered n (sorted_recs (recs_of xs))) nothing)

pub returns-clause-ok : goal.returns-clause-ok
returns-clause-ok c = λ gone came n out r.
    let next = r.next in
    record {
      waiting = removed gone came c.args.t c.args.self.now.held c.remove.new.self c.remove.ensures.updates.0 r.waiting;
      next = omega arith;
    }

pub returns-clause-sent : goal.returns-clause-sent
returns-clause-sent c = λ gone came n out r.
    let t : Stamp = c.args.t.0 ∷ [] in
    let found_now : get (λ (x y : Epoch). nat_cmp x.0 y.0) c.args.self.now.held c.args.t ≡ Some c.in-Some.held.now = search rules in
    let P : Option Held → Type 0 = λ o. IsContentOf holds_bag o (arrivals_at t came) in
    let recs = subst P found_now (waits_now gone came c.args.t out _ (r.waiting c.args.t)) in
    c.in_ok-recs.ensures.recs ∙ ap (λ i. recs_numbered i c.in-Some.held.now.bag.recs) r.next ∙ ap (recs_numbered n) recs
