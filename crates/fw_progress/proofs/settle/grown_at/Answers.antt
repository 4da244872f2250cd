use Rattle.std.proofs.Common.{sym, ◌∙◌}
use Rattle.fw_progress.proofs.SettleLaws.{grown-read}
use Rattle.fw_progress.proofs.settle.grown_at.Goals as goal

pub returns : goal.returns
returns c =
    grown-read c.args.flow.now c.args.settled.now c.args.kept.now c.args.node c.place-place.result c.index-settled-place.result c.index-kept-place.result c.in_ok-both.both c.place-place.ensures c.requires.settled_there c.requires.kept_there
    c.index-settled-place.is c.index-kept-place.is c.requires.settled c.requires.kept (sym c.has_more.ensures ∙ c.if-not-has_more.false) c.in_ok-both.ensures
