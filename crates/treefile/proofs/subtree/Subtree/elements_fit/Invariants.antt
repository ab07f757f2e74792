use Rattle.std.proofs.Common.{◌≡◌}
use Rattle.treefile.specs.Fits.{children, elements_fit, end_of, places}
use Rattle.treefile.specs.Slots.{letter}
use Rattle.treefile.proofs.Steps.{Left}
use Rattle.treefile.proofs.subtree.Subtree.elements_fit.Given as goal

-- what is left are children, and they fit exactly where all do
abbrev pub invariant-loop-child : goal.invariant-loop-child
invariant-loop-child l =
    let c = l.child-iterator in
    let bs = l.self.root.of.now.file.now in
    let t = l.self.root.of.now.trailer in
    let fit = elements_fit bs t (letter l.slot) (end_of bs t l.self.root.at) in
    (goal.iterator-loop-child).can_next c × (goal.iterator-loop-child).is_finite c
    × Left bs t (places c.of.now.file.now c.of.now.trailer c.left c.next c.end) (λ ps. fit ps ≡ fit (children bs t l.self.root.at))
