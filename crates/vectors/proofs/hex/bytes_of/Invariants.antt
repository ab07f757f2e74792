-- The loop keeps what is spelled so far.
use Rattle.std.proofs.Common.{drop, vec_items}
use Rattle.vectors.proofs.Spelled.{Sofar}
use Rattle.vectors.proofs.hex.bytes_of.Given as goal

abbrev pub invariant-loop-high : goal.invariant-loop-high
invariant-loop-high l = Sofar l.text (vec_items l.bytes) (drop l.high-index l.pairs)
