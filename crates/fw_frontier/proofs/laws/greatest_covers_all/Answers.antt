use Rattle.std.proofs.Common.{◌≡◌, ◌∙◌, sym, ap, ◌||◌, Bool, true, false, refl, length}
use Rattle.fw_time.specs.Stamp.{leq, glb}
use Rattle.fw_time.proofs.StampLaws.{glb-right}
use Rattle.fw_frontier.proofs.laws.greatest_covers_all.Goals as goal

first : (b : Bool) → b ≡ true → (b || false) ≡ true
first true e = refl
first false e = e

pub returns : goal.returns
returns g c = λ b z top e each t.
    let u = g.T.Time.coords t in
    let long = g.met.T.Time.same_dimension t ∙ sym (g.met.T.Time.same_dimension top) ∙ ap length e in
    each t ∙ first (leq (glb u b.greatest) (g.T.Time.coords top)) (ap (leq (glb u b.greatest)) e ∙ glb-right u b.greatest long)
