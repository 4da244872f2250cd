use Rattle.std.proofs.lemmas.Bool.{both_ways}
use Rattle.fw_offers.proofs.OfferedOneLaws.{batches-have_all, batches-one, between-one, listed-one}
use Rattle.fw_offers.proofs.offered.is_one_of.Goals as goal

pub returns-in-Listed : goal.returns-in-Listed
returns-in-Listed c = λ b k canonical. listed-one b c.args.offered.now c.args.front.now c.in-Listed.records c.as_slice.result.now c.is_listed.result c.in-Listed.is c.as_slice.ensures c.is_listed.ensures

pub returns-in-Between : goal.returns-in-Between
returns-in-Between c = λ b k canonical. between-one b c.args.offered.now c.args.front.now c.in-Between.least c.in-Between.greatest c.is_between.result c.in-Between.is k canonical c.is_between.ensures

pub returns-then-not-is_all : goal.returns-then-not-is_all
returns-then-not-is_all c = λ b k canonical.
    batches-one b c.args.offered.now c.args.front.now c.in-Batches.least c.in-Batches.greatest c.in-Batches.exhausted c.is_between-then-not-is_all.result c.in-Batches.is k canonical
    (λ e all. both_ways c.is_all.result c.if-not-is_all.true (c.is_all.ensures.1 all)) c.is_between-then-not-is_all.ensures

pub returns-then-exhausted : goal.returns-then-exhausted
returns-then-exhausted c = λ b k canonical.
    batches-have_all b c.args.offered.now c.args.front.now c.in-Batches.least c.in-Batches.greatest c.in-Batches.exhausted c.in-Batches.is c.if-exhausted.true (c.is_all.ensures.0 c.if-not-is_all.false)

pub returns-else-exhausted : goal.returns-else-exhausted
returns-else-exhausted c = λ b k canonical.
    batches-one b c.args.offered.now c.args.front.now c.in-Batches.least c.in-Batches.greatest c.in-Batches.exhausted c.is_between-in-Batches.result c.in-Batches.is k canonical
    (λ e all. both_ways c.in-Batches.exhausted c.if-exhausted.false e) c.is_between-in-Batches.ensures
