use Rattle.std.proofs.Common.{◌≢◌, ◌+◌, [], length, refl, sym, subst, ◌∙◌, eqb-true, arith}
use Rattle.std.proofs.lemmas.List.{append-nil}
use Rattle.std.proofs.lemmas.List.Elements.{All-nil}
use Rattle.std.proofs.BufReadLemmas.{Consumes_shown}
use Rattle.std.specs.Io.BufRead.{FillKeeps}
use Rattle.std.specs.Io.KnownBytes.{Consumes}
use Rattle.fw_live.proofs.StreamLaws.{end-shown, first-fed, first-front, first-within, lacks-by}
use Rattle.fw_live.proofs.stream_lines.read_part.Goals as goal

pub returns-then-is_empty : goal.returns-then-is_empty
returns-then-is_empty g c =
    let none = eqb-true (length c.in-Ok.shown.now) 0 (sym c.is_empty.ensures ∙ c.if-is_empty.true) in
    record {
      part = (
        [],
        sym (append-nil c.args.into.now.items),
        All-nil (λ b. b ≢ 10),
        (refl, end-shown (g.R.Read.remaining c.args.stream.now) c.in-Ok.shown.now c.in-Ok.ensures.end none, c.fill_buf.follows.holds-at-none.0),
      );
    }

pub returns-then-ends : goal.returns-then-ends
returns-then-ends g c =
    let rem = g.R.Read.remaining in
    let shown = c.in-Ok.shown.now in
    let part = c.first_line-part.result.now in
    let is = c.first_line-part.ensures.line in
    let rested = c.fill_buf.follows.lender-at-none in
    let filled = subst (FillKeeps (rem c.args.stream.now) (rem rested) (g.R.BufRead.consumable_len rested)) c.in-Ok.is c.fill_buf.follows.holds-at-none in
    let feed = c.is_line_feed_at-ends.ensures c.if-ends.true in
    let moved = Consumes_shown (rem c.args.stream.now) (rem rested) (rem c.consume.new.self) (g.R.BufRead.consumable_len rested) shown (length part + 1)
    (omega (arith, feed.0)) c.in-Ok.ensures.front c.in-Ok.ensures.end filled.0 filled.1 c.consume.ensures.bytes in
    record {
      part = (
        part,
        c.in_ok-extend_from_slice.ensures.items,
        lacks-by part shown is,
        subst (Consumes (rem c.args.stream.now) (rem c.consume.new.self)) (first-fed part shown is feed.0 feed.1) moved.0,
      );
    }

pub returns : goal.returns
returns g c =
    let rem = g.R.Read.remaining in
    let shown = c.in-Ok.shown.now in
    let part = c.first_line-part.result.now in
    let is = c.first_line-part.ensures.line in
    let rested = c.fill_buf.follows.lender-at-none in
    let filled = subst (FillKeeps (rem c.args.stream.now) (rem rested) (g.R.BufRead.consumable_len rested)) c.in-Ok.is c.fill_buf.follows.holds-at-none in
    let moved = Consumes_shown (rem c.args.stream.now) (rem rested) (rem c.consume-2.new.self) (g.R.BufRead.consumable_len rested) shown (length part)
    (first-within part shown is) c.in-Ok.ensures.front c.in-Ok.ensures.end filled.0 filled.1 c.consume-2.ensures.bytes in
    record {
      part = (
        part,
        c.in_ok-extend_from_slice.ensures.items,
        lacks-by part shown is,
        subst (Consumes (rem c.args.stream.now) (rem c.consume-2.new.self)) (first-front part shown is) moved.0,
      );
    }
