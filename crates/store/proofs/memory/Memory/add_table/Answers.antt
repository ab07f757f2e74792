-- Where there is no place for the table, its name is taken back.
use Rattle.std.proofs.Common.{◌≡◌, ℕ, List, Ok, ap, ap₂, subst}
use Rattle.store.specs.Mangling.{under, text_of}
use Rattle.store.specs.Memory.{Numbers, held, room_of}
use Rattle.store.specs.Texts.{interned}
use Rattle.store.proofs.Opening.{table_lacks}
use Rattle.store.proofs.memory.Memory.add_table.Goals as goal

pub returns-in-Err : goal.returns-in-Err
returns-in-Err c =
    let m = c.args.self.now in
    let alone : text_of c.from.result ≡ c.args.name.now = ap₂ under c.from.ensures.0 (ap (λ b. b.now) c.from.ensures.1) in
    let P : List ℕ → Type 0 = λ text. Numbers (held m) (interned (room_of m) (held m) text) (Ok c.in-Ok.text) (held c.intern.new.self) in
    table_lacks m c.intern.new.self c.take_back.new.self c.args.around c.args.typ c.args.name.now c.args.spot c.intern.ensures.keeps
    c.in-Ok.text (subst P alone c.in-Ok.ensures.numbers) c.push.new.self _ c.in-Err.field-0 c.in-Err.ensures
    c.into-in-Err.result c.counts-counts.result c.into-in-Err.ensures c.counts-counts.ensures c.take_back.ensures.held c.take_back.ensures.keeps
