use Rattle.std.proofs.Common.{sym, ap, arith}
use Rattle.treefile.specs.declared.fault.TreeReason.TheVariants.{Name}
use Rattle.treefile.specs.Faults.{fault_of}
use Rattle.treefile.specs.First.{refused_at}
use Rattle.treefile.specs.Names.{name_ok}
use Rattle.treefile.proofs.Firsts.{none_bad, bad_at}
use Rattle.treefile.proofs.areas.Areas.check_names.Goals as goal

pub returns-then-not-name_ok : goal.returns-then-not-name_ok
returns-then-not-name_ok c =
    rw c.new.ensures
    (sym (ap (refused_at (λ n. fault_of Name n 0)) (bad_at (name_ok c.args.self.now.file.now c.args.self.now.trailer) _ c.loop-n.n c.loop-n-test.true c.loop-n.invariant (sym c.if-not-name_ok.ensures))))

pub returns : goal.returns
returns c =
    sym (ap (refused_at (λ n. fault_of Name n 0)) (none_bad (name_ok c.args.self.now.file.now c.args.self.now.trailer) c.args.self.now.trailer.name_count (λ k h. c.loop-n.invariant k (omega arith))))
