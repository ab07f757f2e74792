-- One entering, or two.
use Rattle.std.proofs.Common.{codes, sym, ◌∙◌}
use Rattle.std.proofs.lemmas.Result.{err_from_is_err_and}
use Rattle.symbols.specs.declared.usage.SymbolUsage.TheVariants as role
use Rattle.store.specs.Enterings.{enter}
use Rattle.store.specs.Memory.{held}
use Rattle.store.specs.Outward.{enter_use}
use Rattle.store.proofs.Doing.{does_then, does_if, does_in}
use Rattle.store.proofs.memory.Memory.register_use.Goals as goal

pub returns-in_err-register_name-2 : goal.returns-in_err-register_name-2
unfolding enter_use
returns-in_err-register_name-2 c =
    let p = err_from_is_err_and c.from_residual-in_err-register_name-2.result c.from_residual-in_err-register_name-2.ensures.1 in
    let m₁ = c.register_name.new.self in
    rw (p.1, p.2) (does_then _ c.in_ok-register_name.ensures.does
    (does_if _ _ _ (sym c.if-with_class.true ∙ c.is_super-with_class.ensures)
    (does_in (λ room. enter room (held m₁) c.args.cursor.now.table role.Used (codes "__class__") c.args.spot) c.register_name.ensures.does.keeps c.in_err-register_name-2.ensures.does)))

pub returns-in_ok-register_name-2 : goal.returns-in_ok-register_name-2
unfolding enter_use
returns-in_ok-register_name-2 c =
    let m₁ = c.register_name.new.self in
    does_then _ c.in_ok-register_name.ensures.does
    (does_if _ _ _ (sym c.if-with_class.true ∙ c.is_super-with_class.ensures)
    (does_in (λ room. enter room (held m₁) c.args.cursor.now.table role.Used (codes "__class__") c.args.spot) c.register_name.ensures.does.keeps c.in_ok-register_name-2.ensures.does))
