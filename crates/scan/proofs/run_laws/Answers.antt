-- The laws of runs.
use Rattle.scan.proofs.Elsewhere.{inner_stay}
use Rattle.scan.proofs.Keeping.{run_tables, run_symbols}
use Rattle.scan.proofs.Outwards.{parents_first}
use Rattle.scan.proofs.Turns.{run_++}
use Rattle.scan.proofs.run_laws.Goals as goal

pub returns : goal.returns
returns c =
    record {
      run_in_turn = run_++;
      tables_stand = run_tables;
      parents_first = parents_first;
      symbols_grow = run_symbols;
      others_stay = inner_stay;
    }
