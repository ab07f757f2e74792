use Rattle.std.proofs.Common.{sym}
use Rattle.treefile.proofs.Table.{unknown_has_none}
use Rattle.treefile.proofs.record.Record.slots.Goals as goal

pub returns-in-None : goal.returns-in-None
returns-in-None c = sym (unknown_has_none _ c.in-None.ensures)
