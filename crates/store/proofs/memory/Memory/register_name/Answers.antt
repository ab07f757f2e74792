-- The laws hold of the definitions alone.
use Rattle.store.proofs.Whole.{entering_laws}
use Rattle.store.proofs.memory.Memory.register_name.Goals as goal

pub returns-clause-laws : goal.returns-clause-laws
returns-clause-laws c = entering_laws
