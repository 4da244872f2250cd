use Rattle.std.proofs.Common.{◌∙◌, sym, ap, nat_le, ◌&&◌}
use Rattle.fw_time.proofs.StampLaws.{leq-nest}
use Rattle.fw_time.proofs.time.NestTime.leq.Goals as goal

pub returns-then-leq : goal.returns-then-leq
returns-then-leq g c = let s = c.args.self.now in let t = c.args.other.now in let T = g.T.Time in
    ap (λ b. b && nat_le s.counter t.counter) (sym c.if-leq.true ∙ c.leq.ensures)
    ∙ sym (leq-nest (T.coords s.outer) (T.coords t.outer) s.counter t.counter (g.met.T.Time.same_dimension s.outer ∙ sym (g.met.T.Time.same_dimension t.outer)))

pub returns-else-leq : goal.returns-else-leq
returns-else-leq g c = let s = c.args.self.now in let t = c.args.other.now in let T = g.T.Time in
    c.if-leq.false ∙ ap (λ b. b && nat_le s.counter t.counter) (sym c.if-leq.false ∙ c.leq.ensures)
    ∙ sym (leq-nest (T.coords s.outer) (T.coords t.outer) s.counter t.counter (g.met.T.Time.same_dimension s.outer ∙ sym (g.met.T.Time.same_dimension t.outer)))
