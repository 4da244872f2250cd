use Rattle.std.proofs.Common.{◌≡◌, ℕ, not, refl, ap, ◌∙◌}
use Rattle.std.specs.List.{filter}
use Rattle.std.proofs.lemmas.Map.Entries.{filter_from_retain_pairs}
use Rattle.fw_numbered.specs.declared.zip.Partners.{Partners}
use Rattle.fw_numbered.specs.Zip.{goes_below}
use Rattle.fw_numbered.proofs.SettledZips.{zip_settled}
use Rattle.fw_numbered.proofs.zip.Zip.settle.Goals as goal

pub returns-clause-table : goal.returns-clause-table
returns-clause-table c = λ settled after came agree within z.
    let old = c.args.self.now.by_number in
    let new = c.retain.new.self in
    let kept : new.entries ≡ filter (λ (e : ℕ × Partners). not (goes_below c.args.f.now.until e.0 e.1)) old.entries =
    filter_from_retain_pairs _ (λ f. f.0.now ≡ c.args.f.now) (λ (e : ℕ × Partners). not (goes_below c.args.f.now.until e.0 e.1))
    (λ f k v b w f' i t. ((let y = t.called.met.1 in cc), (let y = t.called.met.1 in cc), ap (λ x. x.now) t.called.met.0 ∙ i))
    _ old.entries new.entries refl c.retain.ensures.filtered in
    zip_settled settled after old new c.args.f.now.until came c.retain.ensures.was_ordered kept agree within z
