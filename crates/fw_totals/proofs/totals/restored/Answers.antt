use Rattle.std.proofs.Common.{List, Some, None, cond, sym, ap, ◌∙◌, subst}
use Rattle.std.specs.Ordering.{nat_cmp}
use Rattle.std.specs.Map.{lookup}
use Rattle.std.specs.BTreeMap.{is_at}
use Rattle.fw_bag.specs.declared.rec.Rec.{Rec}
use Rattle.fw_bag.specs.Keyed.{has_key, value_sum}
use Rattle.fw_totals.specs.Totals.{total_in, written, AreSumsIn}
use Rattle.fw_totals.proofs.RestoreLaws.{sums_are, key-sums_at_keys}
use Rattle.fw_totals.proofs.totals.restored.Goals as goal

pub returns : goal.returns
returns c = λ rs e.
    let P : List Rec → Type 0 = λ xs. AreSumsIn rs xs in
    λ q.
    c.in_ok-write.ensures.totals rs (subst P (sym e) (sums_are rs rs)) q
    ∙ ap (λ es. written rs c.args.recs.now (total_in (lookup (is_at (nat_cmp q)) es)) q) c.new-totals.ensures.empty
    ∙ ap (λ xs. cond (has_key q xs) (Some (value_sum q rs)) None) e ∙ ap (λ b. cond b (Some (value_sum q rs)) None) (key-sums_at_keys q rs rs)
