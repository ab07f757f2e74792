-- The name alone, or the underscore, the prefix and the name one after another.
use Rattle.std.proofs.Common.{length, Some, None, sym, arith}
use Rattle.std.proofs.lemmas.Slice.Eq.{slice_eq-Decides, strip_prefix_is}
use Rattle.std.proofs.lemmas.Bool.{eqb-false}
use Rattle.store.proofs.Under.{following, under_tells, under_fails}
use Rattle.store.proofs.mangle.Mangled.is_spelled.Goals as goal
use Rattle.std.proofs.lemmas.Bool.Decides.{Decides-eqb}

pub returns-in-Some : goal.returns-in-Some
returns-in-Some c =
    let text = c.args.text.now in
    let prefix = c.args.self.now.prefix.now in
    let some = eqb-false (length prefix) 0 (sym c.if-is_empty.ensures) in
    under_tells text prefix c.args.self.now.name.now (omega arith) (omega arith) c.in-Some.last.now c.eq-in-Some.result
    (strip_prefix_is Decides-eqb (following text) prefix (Some c.in-Some.last) c.in-Some.ensures.cases)
    (slice_eq-Decides Decides-eqb _ _ _ c.eq-in-Some.ensures)

pub returns-in-None : goal.returns-in-None
returns-in-None c =
    let text = c.args.text.now in
    let prefix = c.args.self.now.prefix.now in
    let some = eqb-false (length prefix) 0 (sym c.if-is_empty.ensures) in
    under_fails text prefix c.args.self.now.name.now (omega arith) (omega arith)
    (strip_prefix_is Decides-eqb (following text) prefix None c.in-None.ensures.cases)
