use Rattle.std.proofs.Common.{◌≡◌, ◌||◌, ℕ, Bool, cond, true, false, List, [], ◌∷◌, Option, Some, None, sym, ap, ◌∙◌, subst, rules}
use Rattle.std.specs.Ordering.{nat_cmp}
use Rattle.std.specs.BTreeMap.{get}
use Rattle.std.specs.BTreeMap.{BTreeMap}
use Rattle.std.specs.List.Sorted.{IsStrictlySortedBy}
use Rattle.std.specs.Map.{keys_of}
use Rattle.fw_bag.specs.declared.rec.Rec.{Rec}
use Rattle.fw_bag.specs.Keyed.{has_key, value_sum}
use Rattle.fw_time.specs.Stamp.{Stamp, same}
use Rattle.fw_time.specs.declared.time.Epoch.{Epoch}
use Rattle.fw_bag.specs.Arrivals.{Arrival, recs_where, arrivals_at, recs_of, recs_arrived_at, recs_inside}
use Rattle.fw_table.specs.Content.{IsContentOf}
use Rattle.fw_table.specs.declared.sent.Sent.{Sent}
use Rattle.fw_table.specs.declared.sums.Sums.{Sums}
use Rattle.fw_table.specs.Sums.{HasSums, sum_at, sums_at_keys}
use Rattle.fw_totals.proofs.MergeLaws.{merged_by}
use Rattle.fw_totals.specs.Totals.{combined, found, raised_recs, written, AreSumsIn, HasTotals}
use Rattle.fw_totals.specs.Settling.{holds_sums}
use Rattle.fw_totals.proofs.NoticeLaws.{content_now, raised_are_sums}
use Rattle.fw_totals.proofs.RestoreLaws.{sums_are, key-raised, key-sums_at_keys, written_all}
use Rattle.fw_totals.proofs.total.Total.on_notify.Goals as goal

pub returns-in_default-clause-ok : goal.returns-in_default-clause-ok
returns-in_default-clause-ok c = λ inside taken came out new r.
    let t : Stamp = c.args.t.0 ∷ [] in
    let none : get (λ x y. nat_cmp x.0 y.0) c.args.self.now.table.by_time c.args.t ≡ None = search rules in
    let P : Option Sums → Type 0 = λ o. IsContentOf holds_sums o (arrivals_at t came) in
    let nothing : arrivals_at t came ≡ [] = subst P none (content_now inside t came out _ (r.table.outside c.args.t)) in
    let old : List Rec = recs_where (λ a. taken a.at) came in
    record {
      table = r.table;
      running = λ q. r.running q ∙ sym (ap (λ xs. combined (sum_at q old) (sum_at q (recs_of xs))) nothing) ∙ merged_by taken t came new q;
    }

pub returns-in_default-clause-sent : goal.returns-in_default-clause-sent
returns-in_default-clause-sent c = λ inside taken came out new r.
    let t : Stamp = c.args.t.0 ∷ [] in
    let none : get (λ x y. nat_cmp x.0 y.0) c.args.self.now.table.by_time c.args.t ≡ None = search rules in
    let P : Option Sums → Type 0 = λ o. IsContentOf holds_sums o (arrivals_at t came) in
    let nothing : arrivals_at t came ≡ [] = subst P none (content_now inside t came out _ (r.table.outside c.args.t)) in
    let all : List Rec = recs_where (λ a. same a.at t || taken a.at) came in
    let R : List Rec → Sent Epoch = λ rs. record { at = c.args.t; recs = rs } in
    c.of.ensures ∙ sym (ap (λ xs. R (sums_at_keys (recs_of xs) all)) nothing)

-- what is sent is the total of each key of the epoch
sums_sent : (running : BTreeMap ℕ (Option ℕ)) (sums : BTreeMap ℕ ℕ) (taken : Stamp → Bool) (t : Stamp) (came : List Arrival) → taken t ≡ false
    → IsStrictlySortedBy nat_cmp (keys_of sums.entries) → HasSums sums (recs_arrived_at t came) → HasTotals running (recs_inside taken came)
    → raised_recs running sums.entries ≡ sums_at_keys (recs_arrived_at t came) (recs_inside (λ s. same s t || taken s) came)
sums_sent running sums taken t came new sorted held r =
    raised_are_sums running sums (recs_arrived_at t came) (recs_inside (λ s. same s t || taken s) came) held
    (λ q. ap (λ o. combined o (sum_at q (recs_arrived_at t came))) (r q) ∙ merged_by taken t came new q) sorted

pub returns-in_err-write-clause-err : goal.returns-in_err-write-clause-err
returns-in_err-write-clause-err c = λ inside taken came r.
    let old = c.args.self.now.running in
    let sums = c.in-Some.sums.now.by_key in
    let recs : c.as_slice.result.now ≡ raised_recs old sums.entries = c.as_slice.ensures ∙ c.in_ok-recs.ensures.recs in
    let no : false ≡ true = c.in_err-write.ensures.ok (λ q h. c.in_ok-recs.ensures.room q (sym (key-raised old q sums.entries) ∙ sym (ap (has_key q) recs) ∙ h)) in
    absurd (cc no)

pub returns-clause-ok : goal.returns-clause-ok
returns-clause-ok c = λ inside taken came out new r.
    let t : Stamp = c.args.t.0 ∷ [] in
    let found_now : get (λ x y. nat_cmp x.0 y.0) c.args.self.now.table.by_time c.args.t ≡ Some c.in-Some.sums.now = search rules in
    let P : Option Sums → Type 0 = λ o. IsContentOf holds_sums o (arrivals_at t came) in
    let held : HasSums c.in-Some.sums.now.by_key (recs_arrived_at t came) = subst P found_now (content_now inside t came out _ (r.table.outside c.args.t)) in
    let old : List Rec = recs_inside taken came in
    let all : List Rec = recs_inside (λ s. same s t || taken s) came in
    let recs = c.as_slice.ensures ∙ c.in_ok-recs.ensures.recs ∙ sums_sent c.args.self.now.running c.in-Some.sums.now.by_key taken t came new c.raised.ensures.ordered held r.running in
    let Q : List Rec → Type 0 = λ xs. AreSumsIn all xs in
    record {
      table = r.table;
      running = λ q.
          c.in_ok-write.ensures.totals all (subst Q (sym recs) (sums_are (recs_arrived_at t came) all)) q
          ∙ ap (λ xs. written all xs (found c.raised.new.totals q) q) recs
          ∙ ap (λ b. cond b (Some (value_sum q all)) (found c.raised.new.totals q)) (key-sums_at_keys q (recs_arrived_at t came) all)
          ∙ ap (λ o. written all (recs_arrived_at t came) o q) (c.raised.ensures.same q ∙ r.running q)
          ∙ written_all q (sum_at q old) (recs_arrived_at t came) all (merged_by taken t came new q);
    }

pub returns-clause-sent : goal.returns-clause-sent
returns-clause-sent c = λ inside taken came out new r.
    let t : Stamp = c.args.t.0 ∷ [] in
    let found_now : get (λ x y. nat_cmp x.0 y.0) c.args.self.now.table.by_time c.args.t ≡ Some c.in-Some.sums.now = search rules in
    let P : Option Sums → Type 0 = λ o. IsContentOf holds_sums o (arrivals_at t came) in
    let held : HasSums c.in-Some.sums.now.by_key (recs_arrived_at t came) = subst P found_now (content_now inside t came out _ (r.table.outside c.args.t)) in
    let R : List Rec → Sent Epoch = λ rs. record { at = c.args.t; recs = rs } in
    ap R
    (c.in_ok-recs.ensures.recs ∙ sums_sent c.args.self.now.running c.in-Some.sums.now.by_key taken t came new c.raised.ensures.ordered held r.running)
