-- One line more.
use Rattle.treelist.proofs.Lines.{lines_more}
use Rattle.treelist.proofs.text.push_records.Goals as goal

pub loop-at-preserved : goal.loop-at-preserved
loop-at-preserved c =
    lines_more c.args.tree.now.areas.file.now c.args.tree.now.areas.trailer _ _ _ _ c.args.nodes.now c.loop-at.at-index _ c.loop-at-test.true c.loop-at.invariant
    c.record_line.ensures
    c.in_ok-push_line.ensures
