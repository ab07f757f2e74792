use Rattle.std.proofs.Common.{◌≡◌, ◌-◌}
use Rattle.treefile.specs.First.{first_fault}
use Rattle.treefile.specs.Fits.{children, node_check, places}
use Rattle.treefile.specs.Records.{size_at}
use Rattle.treefile.proofs.Children.{AllUnder}
use Rattle.treefile.proofs.Steps.{Left}
use Rattle.treefile.proofs.subtree.Subtree.+check.Given as goal

abbrev pub decreases-check : goal.decreases-check
decreases-check l = size_at l.self.now.root.of.now.file.now l.self.now.root.of.now.trailer l.self.now.root.at

-- what is left are children, and their first fault is that of all
abbrev pub invariant-loop-root : goal.invariant-loop-root
invariant-loop-root l =
    let c = l.root-iterator in
    let bs = l.self.root.of.now.file.now in
    let t = l.self.root.of.now.trailer in
    let i = l.self.root.at in
    let first = first_fault (node_check bs t (l.levels - 1)) in
    (goal.iterator-loop-root).can_next c × (goal.iterator-loop-root).is_finite c
    × Left bs t (places c.of.now.file.now c.of.now.trailer c.left c.next c.end) (λ ps. AllUnder bs t i ps × (first ps ≡ first (children bs t i)))
