-- The place that was found is a symbol's.
use Rattle.std.proofs.Common.{sym}
use Rattle.store.specs.Mangling.{text_of}
use Rattle.store.specs.Memory.{held}
use Rattle.store.proofs.Places.{stands_within}
use Rattle.store.proofs.memory.Memory.enter_name.Goals as goal

pub enter_again-requires : goal.enter_again-requires
enter_again-requires c =
    stands_within (held c.args.self.now) c.args.entry.now.table (text_of c.args.entry.now.name) c.in-Some.i (sym c.in-Some.ensures)
