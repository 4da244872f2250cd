use Rattle.std.proofs.Common.{◌≡◌, ◌∙◌, ◌∷◌, [], ℕ, sym, ap}
use Rattle.fw_time.specs.NestLaws.{single}
use Rattle.fw_frontier.specs.Below.{is_below}
use Rattle.fw_frontier.proofs.below.BelowFrontier.subset.Given as given
use Rattle.fw_frontier.proofs.below.BelowFrontier.subset.Goals as goal

-- each number is the coordinate of a time
coordinate-of : (g : given.Over) (n : ℕ) → g.N.Scalar.coordinate (g.N.Time.of_coords (n ∷ [])) ≡ n
coordinate-of g n = single _ _ (sym (g.met.N.Scalar.one_coord (g.N.Time.of_coords (n ∷ []))) ∙ g.met.N.Time.all_coords (n ∷ []) (sym g.met.N.Scalar.one_dimension))

pub returns : goal.returns
returns g c = (
  λ h t k. c.is_at_most.ensures.0 h (g.N.Scalar.coordinate t) k,
  λ h. c.is_at_most.ensures.1 (λ n k.
      let e = coordinate-of g n in
      sym (ap (is_below c.args.other.now.until) e) ∙ h (g.N.Time.of_coords (n ∷ [])) (ap (is_below c.args.self.now.until) e ∙ k)),
)
