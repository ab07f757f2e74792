use Rattle.treefile.proofs.Kept.{sound_tree}
use Rattle.treefile.proofs.Order.{all_in_order}
use Rattle.treefile.proofs.Passing.{root_passes}
use Rattle.treefile.proofs.tree.Tree.nodes.Goals as goal

pub invariant_of-tree : goal.invariant_of-tree
invariant_of-tree c =
    let s = (root_passes _ _ (sound_tree c.args.self.now)).stands in
    record { some = s.some; within = s.within }

pub push_nodes-requires-clause-passes : goal.push_nodes-requires-clause-passes
push_nodes-requires-clause-passes c = root_passes _ _ (sound_tree c.args.self.now)

pub returns-in_err-push_nodes-clause-order : goal.returns-in_err-push_nodes-clause-order
returns-in_err-push_nodes-clause-order c = all_in_order _ _ (sound_tree c.args.self.now)

pub returns-clause-order : goal.returns-clause-order
returns-clause-order c = all_in_order _ _ (sound_tree c.args.self.now)
