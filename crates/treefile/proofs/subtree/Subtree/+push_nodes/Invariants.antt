use Rattle.std.proofs.Common.{◌≡◌, ◌+◌, ◌-◌, ◌++◌, vec_items}
use Rattle.treefile.specs.Fits.{children, places}
use Rattle.treefile.specs.Preorder.{joined, preorder}
use Rattle.treefile.specs.Records.{size_at}
use Rattle.treefile.proofs.Passing.{AllPass}
use Rattle.treefile.proofs.Steps.{Left}
use Rattle.treefile.proofs.subtree.Subtree.+push_nodes.Given as goal

abbrev pub decreases-push_nodes : goal.decreases-push_nodes
decreases-push_nodes l = size_at l.self.now.root.of.now.file.now l.self.now.root.of.now.trailer l.self.now.root.at

-- what is left are children that pass, and with their nodes `out` has those of all
abbrev pub invariant-loop-root : goal.invariant-loop-root
invariant-loop-root l =
    let c = l.root-iterator in
    let bs = l.self.root.of.now.file.now in
    let t = l.self.root.of.now.trailer in
    let i = l.self.root.at in
    let below = joined (preorder bs t (200 - l.depth) (l.depth + 1)) in
    (goal.iterator-loop-root).can_next c × (goal.iterator-loop-root).is_finite c
    × Left bs t (places c.of.now.file.now c.of.now.trailer c.left c.next c.end)
    (λ ps. AllPass bs t (200 - l.depth) i ps × (vec_items l.out ++ below ps ≡ vec_items l.initial.out ++ below (children bs t i)))
