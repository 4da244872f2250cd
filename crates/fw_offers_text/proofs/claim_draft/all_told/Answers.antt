use Rattle.std.proofs.Common.{[], ◌++◌, sym, ◌∙◌, ap, rules}
use Rattle.std.proofs.lemmas.Iterator.Adapters.{YieldsList-from_vec}
use Rattle.std.proofs.lemmas.Iterator.Consumers.{YieldsList-end}
use Rattle.std.proofs.lemmas.List.{append-nil}
use Rattle.std.specs.List.{cons_option}
use Rattle.fw_offers_text.proofs.ClaimLaws.{kept_more, kept_all}
use Rattle.fw_offers_text.proofs.claim_draft.all_told.Goals as goal

pub loop-cut-preserved-in-Continue-branch-2 : goal.loop-cut-preserved-in-Continue-branch-2
loop-cut-preserved-in-Continue-branch-2 c =
    kept_more c.loop-cut.yielded c.in-Some.cut c.loop-cut.told.items c.push.new.self.items c.loop-cut.invariant
    (c.in_ok-push.ensures.items ∙ ap (λ o. c.loop-cut.told.items ++ cons_option o []) (sym c.in-Some-cut.is))

pub loop-cut-preserved : goal.loop-cut-preserved
loop-cut-preserved c =
    kept_more c.loop-cut.yielded c.in-Some.cut c.loop-cut.told.items c.loop-cut.told.items c.loop-cut.invariant
    (sym (append-nil c.loop-cut.told.items) ∙ ap (λ o. c.loop-cut.told.items ++ cons_option o []) (sym c.in_default.is))

pub returns : goal.returns
returns c =
    let end = YieldsList-end (YieldsList-from_vec {s = c.into_iter-cut-iterator.result} c.args.cuts.items (search rules) (search rules))
    c.loop-cut.yielded c.loop-cut.cut-iterator c.loop-cut.yielded_by c.next.result c.next.new.self c.in-None.is c.next.ensures.steps in
    kept_all c.loop-cut.yielded c.args.cuts.items c.loop-cut.told.items c.loop-cut.invariant end.0
