use Rattle.std.proofs.Common.{◌∙◌, refl, sym, ap, nat_le, ◌&&◌, arith}
use Rattle.fw_time.specs.Stamp.{leq, counter, nest}
use Rattle.fw_time.proofs.TimeLaws.{leq-nest_bound, leq-nest_none}
use Rattle.fw_time.proofs.DomainLaws.{plain-in_domain}
use Rattle.fw_time.proofs.time.NestTime.in_domain.Goals as goal

pub returns-then-len-eq0 : goal.returns-then-len-eq0
returns-then-len-eq0 g c = λ e. let t = c.args.self.now in
    sym (plain-in_domain c.args.bounds.now (nest (g.T.Time.coords t.outer) t.counter) e ∙ leq-nest_none (g.T.Time.coords t.outer) t.counter c.args.bounds.now.greatest (omega arith))

pub returns-then-in_domain : goal.returns-then-in_domain
returns-then-in_domain g c = λ e. let t = c.args.self.now in let s = g.T.Time.coords t.outer in let b = c.args.bounds.now.greatest in
    ap (nat_le t.counter) c.counter.ensures
    ∙ ap (λ d. d && nat_le t.counter (counter b)) (sym c.if-in_domain.true ∙ c.in_domain.ensures refl ∙ ap (leq s) c.outer.ensures.value)
    ∙ sym (plain-in_domain c.args.bounds.now (nest s t.counter) e ∙ leq-nest_bound s b t.counter (omega arith))

pub returns-else-in_domain : goal.returns-else-in_domain
returns-else-in_domain g c = λ e. let t = c.args.self.now in let s = g.T.Time.coords t.outer in let b = c.args.bounds.now.greatest in
    c.if-in_domain.false
    ∙ ap (λ d. d && nat_le t.counter (counter b)) (sym c.if-in_domain.false ∙ c.in_domain.ensures refl ∙ ap (leq s) c.outer.ensures.value)
    ∙ sym (plain-in_domain c.args.bounds.now (nest s t.counter) e ∙ leq-nest_bound s b t.counter (omega arith))
