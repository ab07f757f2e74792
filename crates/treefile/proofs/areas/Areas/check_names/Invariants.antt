use Rattle.std.proofs.Common.{◌≡◌, ◌<◌, ℕ, true}
use Rattle.treefile.specs.Names.{name_ok}
use Rattle.treefile.proofs.areas.Areas.check_names.Given as goal

abbrev pub invariant-loop-n : goal.invariant-loop-n
invariant-loop-n l = (k : ℕ) → k < l.n → name_ok l.self.file.now l.self.trailer k ≡ true
