use Rattle.std.proofs.Common.{◌≡◌, [], sym, subst, ◌∙◌, arith}
use Rattle.std.proofs.lemmas.Result.{IfOk-weaker}
use Rattle.fw_lemmas.proofs.Lists.{read_at}
use Rattle.fw_progress.specs.Counts.{pending_of}
use Rattle.fw_progress.specs.Tally.{IsTallyOf}
use Rattle.fw_progress.proofs.TargetLaws.{all-met, met-before}
use Rattle.fw_progress.proofs.target.narrow_to_pending.Goals as goal

pub returns : goal.returns
returns c = λ b k tally.
    let counts = c.args.counts.now in
    let e = c.args.edge in
    let at = c.place.ensures in
    let there = c.requires in
    let n : c.index-pending.result.now ≡ pending_of counts e = read_at counts.pending.items e c.place.result c.index-pending.result.now [] at (omega (arith, there, at)) c.index-pending.ensures in
    let q = c.in_ok-quiet.ensures b (subst (IsTallyOf b) (sym n) tally) in
    IfOk-weaker c.narrow.result _ _ (λ u m. met-before b c.args.left.now c.in_ok-quiet.quiet c.narrow.new.left (pending_of counts e) c.index-pending.result.now n k q m) (c.narrow.ensures b k q.canonical)

pub returns-then-is_empty : goal.returns-then-is_empty
returns-then-is_empty c = λ b k tally.
    let counts = c.args.counts.now in
    let e = c.args.edge in
    let at = c.place.ensures in
    let there = c.requires in
    let n : c.index-pending.result.now ≡ pending_of counts e = read_at counts.pending.items e c.place.result c.index-pending.result.now [] at (omega (arith, there, at)) c.index-pending.ensures in
    all-met b c.args.left.now (pending_of counts e) (sym n ∙ c.is_empty.ensures.0 c.if-is_empty.true) k
