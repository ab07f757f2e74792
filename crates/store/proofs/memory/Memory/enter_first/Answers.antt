-- Where there is no place for the symbol, the text is taken back.
use Rattle.std.proofs.Common.{◌≡◌, Ok, subst}
use Rattle.symbols.specs.declared.table.SymbolTableType.{SymbolTableType}
use Rattle.store.specs.Enterings.{first_objection, kind_of}
use Rattle.symbols.specs.Faults.{judged}
use Rattle.store.specs.Mangling.{text_of}
use Rattle.store.specs.Memory.{held}
use Rattle.store.proofs.First.{symbol_lacks}
use Rattle.store.proofs.memory.Memory.enter_first.Goals as goal

pub returns-in-Err : goal.returns-in-Err
returns-in-Err c =
    let m = c.args.self.now in
    let entry = c.args.entry.now in
    let P : SymbolTableType → Type 0 = λ k. Ok tt ≡ judged (first_objection entry.role k) entry.spot in
    symbol_lacks m c.intern.new.self c.take_back.new.self entry.table entry.role (text_of entry.name) entry.spot (first_objection entry.role (kind_of (held m) entry.table))
    (subst P c.kind.ensures c.in_ok-check_first.ensures) c.intern.ensures.keeps c.in-Ok.text c.in-Ok.ensures.numbers
    c.push.new.self (record { symbol = c.new_symbol-symbol.result; mark = c.from-mark.result }) c.in-Err.field-0 c.in-Err.ensures
    c.into-in-Err.result c.counts-counts.result c.into-in-Err.ensures c.counts-counts.ensures c.take_back.ensures.held c.take_back.ensures.keeps
