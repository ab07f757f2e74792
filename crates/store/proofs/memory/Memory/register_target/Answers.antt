-- Each comprehension is passed, and the host decides.
use Rattle.std.proofs.Common.{ℕ, List, Err, subst}
use Rattle.std.proofs.lemmas.Result.{err_from_is_err_and}
use Rattle.store.specs.Memory.{held, room_of, Does}
use Rattle.store.specs.Outward.{enter_target}
use Rattle.store.proofs.Passing.{passed_more, passed_break, passed_class, passed_host}
use Rattle.store.proofs.memory.Memory.register_target.Goals as goal

pub returns-in_err-enter_name : goal.returns-in_err-enter_name
returns-in_err-enter_name c =
    let m = c.args.self.now in
    let P : List ℕ → Type 0 = λ text. Does m (enter_target (room_of m) (held m) c.args.cursor.now.table text c.args.spot) c.from_residual.result c.enter_name.new.self in
    let p = err_from_is_err_and c.from_residual.result c.from_residual.ensures.1 in
    subst P c.mangle-name.ensures
    (rw (p.1, p.2) (passed_break c.loop-around.invariant c.in-Some.around c.in-Some.ensures c.enter_name.new.self _ c.in_err-enter_name.ensures))

pub loop-around-preserved : goal.loop-around-preserved
loop-around-preserved c =
    passed_more c.loop-around.invariant c.in-Some.around c.in-Some.ensures c.enter_name.new.self c.in_ok-enter_name.ensures

pub returns-then-is_class_host : goal.returns-then-is_class_host
returns-then-is_class_host c =
    let m = c.args.self.now in
    let P : List ℕ → Type 0 = λ text. Does m (enter_target (room_of m) (held m) c.args.cursor.now.table text c.args.spot) (Err c.into.result) c.loop-around.self in
    subst P c.mangle-name.ensures
    (passed_class c.loop-around.invariant c.in_default.ensures c.into.result c.into.ensures c.if-is_class_host.ensures)

pub returns : goal.returns
returns c =
    let m = c.args.self.now in
    let P : List ℕ → Type 0 = λ text. Does m (enter_target (room_of m) (held m) c.args.cursor.now.table text c.args.spot) c.enter_name-2.result c.enter_name-2.new.self in
    subst P c.mangle-name.ensures
    (passed_host c.loop-around.invariant c.in_default.ensures c.enter_name-2.new.self c.enter_name-2.result c.if-is_class_host.ensures c.enter_name-2.ensures)
