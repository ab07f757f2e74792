-- What is left has the same bytes behind its underscores.
use Rattle.std.proofs.Common.{◌≡◌, length}
use Rattle.store.specs.Mangling.{stripped}
use Rattle.store.proofs.mangle.strip.Given as goal

abbrev pub invariant-loop-left : goal.invariant-loop-left
invariant-loop-left l = stripped l.left ≡ stripped l.name

abbrev pub decreases-loop-left : goal.decreases-loop-left
decreases-loop-left l = length l.left
