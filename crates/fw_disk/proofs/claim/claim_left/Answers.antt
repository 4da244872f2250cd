use Rattle.std.proofs.Common.{is_ok, subst}
use Rattle.fw_disk.specs.FolderCalls.{calls_of}
use Rattle.fw_disk.specs.Survival.{IsOld}
use Rattle.fw_disk.proofs.Moments.{last}
use Rattle.fw_disk.proofs.PutMoments.{then_keeps, flush_keeps}
use Rattle.fw_disk.proofs.claim.claim_left.Goals as goal

pub returns-in_err-flush-clause-any_moment : goal.returns-in_err-flush-clause-any_moment
returns-in_err-flush-clause-any_moment g c start = flush_keeps start (calls_of c.args.folder.now.calls) (calls_of c.flush.new.self.calls) (is_ok c.flush.result) c.flush.ensures

pub returns-in_err-text-clause-any_moment : goal.returns-in_err-text-clause-any_moment
returns-in_err-text-clause-any_moment g c start = flush_keeps start (calls_of c.args.folder.now.calls) (calls_of c.flush.new.self.calls) (is_ok c.flush.result) c.flush.ensures

pub returns-in_err-lines-clause-any_moment : goal.returns-in_err-lines-clause-any_moment
returns-in_err-lines-clause-any_moment g c start =
    let old = calls_of c.args.folder.now.calls in
    let flushed = calls_of c.flush.new.self.calls in
    then_keeps start old flushed (calls_of c.lines_left.new.folder.calls) (flush_keeps start old flushed (is_ok c.flush.result) c.flush.ensures) (c.lines_left.ensures.any_moment start)

pub returns-clause-any_moment : goal.returns-clause-any_moment
returns-clause-any_moment g c start =
    let old = calls_of c.args.folder.now.calls in
    let flushed = calls_of c.flush.new.self.calls in
    then_keeps start old flushed (calls_of c.lines_left.new.folder.calls) (flush_keeps start old flushed (is_ok c.flush.result) c.flush.ensures) (c.lines_left.ensures.any_moment start)

pub returns-clause-flushed : goal.returns-clause-flushed
returns-clause-flushed g c start =
    let flushed = calls_of c.flush.new.self.calls in
    let left = calls_of c.lines_left.new.folder.calls in
    subst (λ calls. IsOld start calls left) c.in_ok-flush.ensures (last (IsOld start flushed) flushed left (c.lines_left.ensures.any_moment start))
