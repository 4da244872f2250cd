use Rattle.std.proofs.Common.{ℕ, ◌%◌, ap}
use Rattle.rand_pcg.specs.Lcg.{Lcg}
use Rattle.fw_generate.specs.Draws.{Words, draw, words_drawn}
use Rattle.fw_generate.proofs.draws.draw.Goals as goal

pub returns-clause-value : goal.returns-clause-value
unfolding draw
returns-clause-value c =
    let seen : ℕ × Lcg → ℕ × Words = λ r. (r.0 % c.args.limit, words_drawn r.1) in
    ap seen c.next_word.ensures
