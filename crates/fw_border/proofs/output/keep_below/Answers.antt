use Rattle.std.proofs.Common.{ℕ, sym, ap, subst, ◌∙◌, rules}
use Rattle.std.proofs.lemmas.Map.Made.{filter_same_pairs}
use Rattle.std.specs.List.Sorted.{IsStrictlySortedBy}
use Rattle.std.specs.Ordering.{nat_cmp}
use Rattle.fw_border.specs.Numbers.{is_number_below, recs_by_number}
use Rattle.fw_border.proofs.RecsLaws.{EachHasRecs, numbered-filter, numbered-keys, some-filter}
use Rattle.fw_border.proofs.output.keep_below.Goals as goal

pub returns-clause-by_number : goal.returns-clause-by_number
returns-clause-by_number c =
    let p = λ (x : ℕ). is_number_below c.args.bound x in
    let es = c.args.recs.now.entries in
    let left = filter_same_pairs _ (λ e. is_number_below c.args.bound e.0) _ (λ k v b w g t. search rules) es c.retain.new.self.entries c.retain.ensures.filtered in
    record {
      ordered = subst (IsStrictlySortedBy nat_cmp) (sym (numbered-keys c.retain.new.self.entries)) c.retain.ensures.ordered;
      some = subst EachHasRecs (sym (ap recs_by_number left ∙ numbered-filter p es)) (some-filter p (recs_by_number es) c.requires.some);
    }

pub returns-clause-kept : goal.returns-clause-kept
returns-clause-kept c =
    let es = c.args.recs.now.entries in
    let left = filter_same_pairs _ (λ e. is_number_below c.args.bound e.0) _ (λ k v b w g t. search rules) es c.retain.new.self.entries c.retain.ensures.filtered in
    ap recs_by_number left ∙ numbered-filter (λ (x : ℕ). is_number_below c.args.bound x) es
