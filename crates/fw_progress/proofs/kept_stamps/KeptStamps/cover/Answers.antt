use Rattle.std.proofs.Common.{◌≡◌, true, sym, ap, subst, ◌∙◌}
use Rattle.std.specs.Prelude.{filter}
use Rattle.std.proofs.lemmas.Result.{IfOk-weaker}
use Rattle.fw_lemmas.proofs.Each.{each-kept}
use Rattle.fw_time.specs.Stamp.{in_domain}
use Rattle.fw_frontier.specs.Frontier.{cover}
use Rattle.fw_frontier.specs.Front.{inside, IsFrontOf}
use Rattle.fw_progress.specs.Traces.{AreOf}
use Rattle.fw_progress.proofs.TraceLaws.{kept-domain, cover-inside}
use Rattle.fw_progress.proofs.kept_stamps.KeptStamps.cover.Goals as goal

pub returns : goal.returns
returns c = λ base all d w h.
    let kept = c.args.self.now in
    let bounds = c.args.bounds.now in
    let f = c.args.f.now in
    let there : c.deref.result.now ≡ filter (inside f) kept = c.deref.ensures.value ∙ c.in_ok-stamps.ensures in
    IfOk-weaker c.cover_of.result _ _
    (λ front n. subst (IsFrontOf bounds front) (ap (cover bounds) there ∙ cover-inside bounds base all kept f d w h) n)
    (c.cover_of.ensures (subst (AreOf bounds) (sym there) (each-kept (λ s. in_domain bounds s ≡ true) (inside f) kept (kept-domain bounds base all kept d h))))
