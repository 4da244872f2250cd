use Rattle.std.proofs.Common.{◌≡◌, List, [], ◌∷◌, ℕ, sym, subst, take, ap}
use Rattle.fw_lines.specs.Lines.{lines_of}
use Rattle.fw_live.proofs.ReadingLaws.{one-line}
use Rattle.fw_live.proofs.asked.first_line.Goals as goal

pub returns-clause-line : goal.returns-clause-line
returns-clause-line c = ap (λ n. take n c.args.line.now) c.line_end.ensures.end

pub returns-clause-one : goal.returns-clause-one
returns-clause-one c =
    subst (λ (l : List ℕ). lines_of l ≡ l ∷ []) (sym (ap (λ n. take n c.args.line.now) c.line_end.ensures.end)) (one-line c.args.line.now)
