use Rattle.std.proofs.Common.{◌≡◌, sym, ap, ◌∙◌, rules}
use Rattle.std.specs.Prelude.{filter}
use Rattle.std.proofs.lemmas.Map.Made.{filter_same_pairs}
use Rattle.fw_frontier.specs.Front.{inside}
use Rattle.fw_progress.specs.Few.{entries_of}
use Rattle.fw_progress.proofs.tally.Tally.keep_inside.Goals as goal

pub returns-in-Many : goal.returns-in-Many
returns-in-Many c =
    let was : c.in-Many.counts.entries ≡ c.args.self.now = ap entries_of (sym c.in-Many.is) ∙ c.self.view_is in
    let left = filter_same_pairs _ (λ e. inside c.args.f.now e.0) _ (λ k v b w g t. search rules) c.in-Many.counts.entries c.retain.new.self.entries c.retain.ensures.filtered in
    left ∙ ap (filter (λ e. inside c.args.f.now e.0)) was
