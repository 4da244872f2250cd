use Rattle.std.proofs.Common.{◌≡◌, ap, ◌∙◌, ◌∷◌, ◌++◌, [], not, rules}
use Rattle.std.specs.Prelude.{filter}
use Rattle.std.specs.List.{list_any}
use Rattle.std.proofs.lemmas.Fn.{filter_same}
use Rattle.fw_time.specs.Stamp.{leq, lesser}
use Rattle.fw_progress.proofs.TraceLaws.{any-raised}
use Rattle.fw_progress.proofs.kept_stamps.raise.Goals as goal

pub returns : goal.returns
returns c = λ s.
    let at = c.args.stamp.now in
    let left : c.retain.new.self.items ≡ filter (λ t. not (leq t at)) c.args.tops.now.items =
    filter_same _ (λ t. not (leq t at)) _ (λ x b f' k. search rules) _ _ c.retain.ensures.filtered in
    let tops : c.push.new.self.items ≡ filter (λ t. not (leq t at)) c.args.tops.now.items ++ at ∷ [] =
    c.in_ok-push.ensures.items ∙ ap (λ x. c.retain.new.self.items ++ x ∷ []) c.copy.ensures ∙ ap (λ ts. ts ++ at ∷ []) left in
    ap (list_any (lesser s)) tops ∙ any-raised c.args.tops.now.items at s
