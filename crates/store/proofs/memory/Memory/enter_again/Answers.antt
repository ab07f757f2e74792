-- The symbol at its place is entered once more, or nothing is done.
use Rattle.std.proofs.Common.{subst}
use Rattle.std.proofs.lemmas.Result.{err_from_is_err_and}
use Rattle.ordered.specs.Records.{Replaced}
use Rattle.symbols.specs.declared.symbol.Symbol.{Symbol}
use Rattle.store.proofs.Again.{again_refused, again_done}
use Rattle.store.proofs.memory.Memory.enter_again.Goals as goal

pub returns-in_err-check_again : goal.returns-in_err-check_again
returns-in_err-check_again c =
    let p = err_from_is_err_and c.from_residual.result c.from_residual.ensures.1 in
    rw (p.1, p.2) (again_refused c.args.self.now c.args.i c.record_at-found.result c.record_at-found.ensures c.args.entry.now.role c.args.entry.now.spot _ c.in_err-check_again.ensures)

pub returns : goal.returns
returns c =
    let m = c.args.self.now in
    let found = c.record_at-found.result in
    let put = λ (s : Symbol). Replaced m.symbols c.set.new.self c.args.i (record { symbol = s; mark = found.mark }) c.set.result in
    again_done m c.args.i found c.record_at-found.ensures c.args.entry.now.role c.args.entry.now.spot c.set.new.self c.set.result
    c.in_ok-check_again.ensures (subst put c.entered_again-symbol.ensures c.set.ensures)
