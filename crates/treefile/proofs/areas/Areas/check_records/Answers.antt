use Rattle.std.proofs.Common.{sym, ap, arith, below_more}
use Rattle.treefile.specs.declared.fault.TreeReason.TheVariants.{Record}
use Rattle.treefile.specs.Faults.{fault_of}
use Rattle.treefile.specs.First.{refused_at}
use Rattle.treefile.specs.Records.{record_ok, row_at}
use Rattle.treefile.proofs.Firsts.{none_bad, bad_at}
use Rattle.treefile.proofs.areas.Areas.check_records.Goals as goal

pub returns-then-not-is_ok : goal.returns-then-not-is_ok
returns-then-not-is_ok c =
    rw c.fault.ensures
    (sym (ap (refused_at (λ i. fault_of Record i (row_at c.args.self.now.file.now c.args.self.now.trailer i))) (bad_at (record_ok c.args.self.now.file.now c.args.self.now.trailer) _ c.loop-at.at c.loop-at-test.true c.loop-at.invariant (sym c.if-not-is_ok.ensures))))

pub loop-at-preserved : goal.loop-at-preserved
loop-at-preserved c = below_more _ _ c.loop-at.invariant (sym c.if-not-is_ok.ensures)

pub returns : goal.returns
returns c =
    sym (ap (refused_at (λ i. fault_of Record i (row_at c.args.self.now.file.now c.args.self.now.trailer i))) (none_bad (record_ok c.args.self.now.file.now c.args.self.now.trailer) c.args.self.now.trailer.record_count (λ k h. c.loop-at.invariant k (omega arith))))
