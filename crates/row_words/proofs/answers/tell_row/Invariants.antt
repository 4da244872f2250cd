use Rattle.row_words.proofs.answers.tell_row.Given as goal

abbrev pub invariant-loop-line : goal.invariant-loop-line
invariant-loop-line g l = g.A.Answers.stands l.answers
