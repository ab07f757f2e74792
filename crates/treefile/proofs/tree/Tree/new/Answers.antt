use Rattle.std.proofs.Common.{is_ok, ap}
use Rattle.treefile.proofs.Sound.{sound}
use Rattle.treefile.proofs.tree.Tree.new.Goals as goal

pub invariant_of-areas : goal.invariant_of-areas
invariant_of-areas c =
    let s = sound c.args.file.now c.args.trailer c.requires in
    record {
      records = s.framed.records;
      index = s.framed.index;
      some = s.framed.some;
      few = s.framed.few;
      few_names = s.framed.few_names;
    }

pub invariant_of-result : goal.invariant_of-result
invariant_of-result c =
    let s = sound c.args.file.now c.args.trailer c.requires in
    record { checked = ap is_ok c.requires; read = s.same }
