use Rattle.std.proofs.Common.{◌≡◌, map}
use Rattle.treefile.specs.Fits.{children, end_of, places, slots_fit}
use Rattle.treefile.specs.Records.{kind_at}
use Rattle.treefile.specs.Slots.{columns, letter}
use Rattle.treefile.proofs.Steps.{Left}
use Rattle.treefile.proofs.subtree.Subtree.fits.Given as goal

-- what is left are children, and they fit the slots that are left exactly where all do all slots
abbrev pub invariant-loop-child : goal.invariant-loop-child
invariant-loop-child l =
    let c = l.child-iterator in
    let bs = l.self.root.of.now.file.now in
    let t = l.self.root.of.now.trailer in
    let end = end_of bs t l.self.root.at in
    (goal.iterator-loop-child).can_next c × (goal.iterator-loop-child).is_finite c
    × Left bs t (places c.of.now.file.now c.of.now.trailer c.left c.next c.end)
    (λ ps. slots_fit bs t (map letter l.slots) end ps ≡ slots_fit bs t (columns (kind_at bs t l.self.root.at)) end (children bs t l.self.root.at))
