-- The comprehensions so far are passed.
use Rattle.store.specs.Mangling.{text_of}
use Rattle.store.proofs.Passing.{Passed}
use Rattle.store.proofs.memory.Memory.register_target.Given as goal

abbrev pub invariant-loop-around : goal.invariant-loop-around
invariant-loop-around l = Passed l.initial.self l.fn.cursor.table (text_of l.name) l.spot l.self l.at l.passed

abbrev pub decreases-loop-around : goal.decreases-loop-around
decreases-loop-around l = l.at
