use Rattle.std.proofs.Common.{◌≡◌, ◌<◌, ℕ, true}
use Rattle.treefile.specs.Records.{record_ok}
use Rattle.treefile.proofs.areas.Areas.check_records.Given as goal

abbrev pub invariant-loop-at : goal.invariant-loop-at
invariant-loop-at l = (k : ℕ) → k < l.at → record_ok l.self.file.now l.self.trailer k ≡ true
