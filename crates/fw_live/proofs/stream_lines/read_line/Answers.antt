use Rattle.std.proofs.Common.{◌≡◌, ◌∙◌, [], length, ◌<◌, sym, ap, subst, arith}
use Rattle.std.proofs.lemmas.Bool.{eqb-false}
use Rattle.fw_live.specs.declared.stream_lines.Met.TheVariants.{LineFeed, End, Part}
use Rattle.fw_live.proofs.StreamLaws.{ComesWithin, HasMet, fed-met, last-met, line-long, part-met}
use Rattle.fw_live.proofs.stream_lines.read_line.Goals as goal

pub returns-in-LineFeed-clause-line : goal.returns-in-LineFeed-clause-line
returns-in-LineFeed-clause-line g c =
    let start = g.R.Read.remaining c.args.stream.now in
    let before = g.R.Read.remaining c.loop.stream in
    let after = g.R.Read.remaining c.read_part.new.stream in
    let old = c.loop.into.items in
    let new = c.read_part.new.into.items in
    let met = subst (λ m. HasMet m before after old new) c.in-LineFeed.is c.in_ok-read_part.ensures.part in
    let within = subst (ComesWithin c.args.limit c.line_within.result) c.deref.ensures.value c.line_within.ensures in
    (fed-met c.args.limit start before after old new c.line_within.result c.loop.invariant.read c.loop.invariant.lacks met within).0

pub returns-in-LineFeed-clause-rest : goal.returns-in-LineFeed-clause-rest
returns-in-LineFeed-clause-rest g c =
    let start = g.R.Read.remaining c.args.stream.now in
    let before = g.R.Read.remaining c.loop.stream in
    let after = g.R.Read.remaining c.read_part.new.stream in
    let old = c.loop.into.items in
    let new = c.read_part.new.into.items in
    let met = subst (λ m. HasMet m before after old new) c.in-LineFeed.is c.in_ok-read_part.ensures.part in
    let within = subst (ComesWithin c.args.limit c.line_within.result) c.deref.ensures.value c.line_within.ensures in
    (fed-met c.args.limit start before after old new c.line_within.result c.loop.invariant.read c.loop.invariant.lacks met within).1

pub returns-in-End-2-clause-line : goal.returns-in-End-2-clause-line
returns-in-End-2-clause-line g c =
    let start = g.R.Read.remaining c.args.stream.now in
    let before = g.R.Read.remaining c.loop.stream in
    let after = g.R.Read.remaining c.read_part.new.stream in
    let old = c.loop.into.items in
    let new = c.read_part.new.into.items in
    let met = subst (λ m. HasMet m before after old new) c.in-End-2.is c.in_ok-read_part.ensures.part in
    let some = eqb-false c.read_part.new.into.len 0 (sym c.is_empty.ensures ∙ c.if-is_empty.false) in
    let full : new ≡ [] → ⊥ = λ e. some (c.read_part.new.into.ok.0 ∙ ap length e) in
    let within = subst (ComesWithin c.args.limit c.line_within-in-End-2.result) c.deref-in-End-2.ensures.value c.line_within-in-End-2.ensures in
    (last-met c.args.limit start before after old new c.line_within-in-End-2.result c.loop.invariant.read c.loop.invariant.lacks met full within).0

pub returns-in-End-2-clause-rest : goal.returns-in-End-2-clause-rest
returns-in-End-2-clause-rest g c =
    let start = g.R.Read.remaining c.args.stream.now in
    let before = g.R.Read.remaining c.loop.stream in
    let after = g.R.Read.remaining c.read_part.new.stream in
    let old = c.loop.into.items in
    let new = c.read_part.new.into.items in
    let met = subst (λ m. HasMet m before after old new) c.in-End-2.is c.in_ok-read_part.ensures.part in
    let some = eqb-false c.read_part.new.into.len 0 (sym c.is_empty.ensures ∙ c.if-is_empty.false) in
    let full : new ≡ [] → ⊥ = λ e. some (c.read_part.new.into.ok.0 ∙ ap length e) in
    let within = subst (ComesWithin c.args.limit c.line_within-in-End-2.result) c.deref-in-End-2.ensures.value c.line_within-in-End-2.ensures in
    (last-met c.args.limit start before after old new c.line_within-in-End-2.result c.loop.invariant.read c.loop.invariant.lacks met full within).1

pub returns-then-len-limit-clause-line : goal.returns-then-len-limit-clause-line
returns-then-len-limit-clause-line g c =
    let start = g.R.Read.remaining c.args.stream.now in
    let before = g.R.Read.remaining c.loop.stream in
    let after = g.R.Read.remaining c.read_part.new.stream in
    let old = c.loop.into.items in
    let new = c.read_part.new.into.items in
    let met = subst (λ m. HasMet m before after old new) c.in-Part.is c.in_ok-read_part.ensures.part in
    let so = part-met start before after old new c.loop.invariant.read c.loop.invariant.lacks met in
    let long : c.args.limit < length new = omega (arith, c.if-len-limit.true, c.len.ensures, c.read_part.new.into.ok.0) in
    (line-long start after (g.R.Read.remaining c.skip_until.new.self) new c.args.limit so.1 so.0 long c.in_ok-skip_until.ensures.rest).0

pub returns-then-len-limit-clause-rest : goal.returns-then-len-limit-clause-rest
returns-then-len-limit-clause-rest g c =
    let start = g.R.Read.remaining c.args.stream.now in
    let before = g.R.Read.remaining c.loop.stream in
    let after = g.R.Read.remaining c.read_part.new.stream in
    let old = c.loop.into.items in
    let new = c.read_part.new.into.items in
    let met = subst (λ m. HasMet m before after old new) c.in-Part.is c.in_ok-read_part.ensures.part in
    let so = part-met start before after old new c.loop.invariant.read c.loop.invariant.lacks met in
    let long : c.args.limit < length new = omega (arith, c.if-len-limit.true, c.len.ensures, c.read_part.new.into.ok.0) in
    (line-long start after (g.R.Read.remaining c.skip_until.new.self) new c.args.limit so.1 so.0 long c.in_ok-skip_until.ensures.rest).1
