use Rattle.std.proofs.Common.{◌≡◌, ◌<◌, rules, [], length, arith, sym, ap, subst, ◌∙◌}
use Rattle.fw_lemmas.proofs.Lists.{read_at}
use Rattle.fw_time.specs.Stamp.{origin}
use Rattle.fw_time.specs.declared.stamp.Bounds.{Bounds}
use Rattle.fw_frontier.specs.Front.{inside}
use Rattle.fw_flow.specs.Dataflow.{bounds_of}
use Rattle.fw_model.specs.Machine.{front_of, no_stamps}
use Rattle.fw_model.specs.Steps.{last_or}
use Rattle.fw_stands.specs.Entries.{entry_fronts}
use Rattle.fw_policy.proofs.WayLaws.{bounds-plain}
use Rattle.fw_settle.proofs.NewestLaws.{newest-none}
use Rattle.fw_settle.proofs.checkpoints.is_newest_settled.Goals as goal

pub returns-in-None : goal.returns-in-None
returns-in-None c =
    let running = c.args.running.now in
    let b = bounds_of running.flow c.args.node in
    let f = front_of running.progress.settled c.args.node in
    let last = last_or (no_stamps b) (entry_fronts c.args.node running.parts.keep.entries) in
    let here : c.index-settled-place.result ≡ f =
    subst (λ fs. c.index-settled-place.result ≡ front_of fs c.args.node) c.settled.ensures
    (read_at c.settled.result.now c.args.node c.place.result c.index-settled-place.result [] c.place.ensures
    (subst (λ fs. c.place.result < length fs) (sym c.settled.ensures) (omega (arith, c.requires.there, c.place.ensures))) c.index-settled-place.is) in
    let none : no_stamps b ≡ last = search rules in
    newest-none b f last c.contains.result (bounds-plain running.flow c.args.node) c.requires.settled
    (c.contains.ensures ∙ ap (λ g. inside g c.origin.result) here ∙ ap (inside f) (c.origin.ensures ∙ ap (λ (d : Bounds). origin d.greatest) c.domain.ensures)) none
