use Rattle.std.proofs.Common.{◌∙◌, sym}
use Rattle.fw_time.specs.Stamp.{nest}
use Rattle.fw_time.proofs.TimeLaws.{lub-nest_max}
use Rattle.fw_time.proofs.time.NestTime.lub.Goals as goal

pub returns : goal.returns
returns g c = let s = c.args.self.now in let t = c.args.other.now in let T = g.T.Time in
    (λ i. nest (c.lub.ensures i) (c.max.ensures i))
    ∙ sym (lub-nest_max (T.coords s.outer) (T.coords t.outer) s.counter t.counter T.dimension (g.met.T.Time.same_dimension s.outer) (g.met.T.Time.same_dimension t.outer))
