use Rattle.std.proofs.Common.{Err, sym, ap, ◌∙◌}
use Rattle.treefile.proofs.Down.{node_misfit, node_deep}
use Rattle.treefile.proofs.subtree.Subtree.deep_fault.Goals as goal

pub returns-then-not-fits : goal.returns-then-not-fits
returns-then-not-fits c =
    ap Err c.fault.ensures ∙ sym (node_misfit _ _ _ 0 (sym c.if-not-fits.ensures))

pub returns : goal.returns
returns c = ap Err c.fault-2.ensures ∙ sym (node_deep _ _ _ (sym c.if-not-fits.ensures))
