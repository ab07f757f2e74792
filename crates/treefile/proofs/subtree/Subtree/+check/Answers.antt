use Rattle.std.proofs.Common.{◌≡◌, ℕ, ◌-◌, Err, refl, sym, ap, ◌∙◌, arith}
use Rattle.std.proofs.lemmas.Result.{err_from_is_err_and}
use Rattle.treefile.specs.Fits.{Place, node_check}
use Rattle.treefile.specs.Records.{size_at}
use Rattle.treefile.proofs.Children.{children_under, under_next}
use Rattle.treefile.proofs.Down.{node_down, node_misfit}
use Rattle.treefile.proofs.Kept.{all_left, stands_subtree}
use Rattle.treefile.proofs.Steps.{left_end, left_next}
use Rattle.treefile.proofs.Verdicts.{first_more, first_stop}
use Rattle.treefile.proofs.subtree.Subtree.+check.Goals as goal

pub returns-then-not-fits : goal.returns-then-not-fits
returns-then-not-fits t c =
    ap Err c.fault.ensures ∙ sym (node_misfit _ _ _ c.args.levels (sym c.if-not-fits.ensures))

pub loop-root-init : goal.loop-root-init
loop-root-init t c =
    let root = c.args.self.now.root in
    let bs = root.of.now.file.now in
    (tt, tt, all_left bs root.of.now.trailer root.at _ _ c.into_iter-root-iterator.ensures.into_iter_gives c.children-root-items.ensures (children_under bs root.of.now.trailer root.at (stands_subtree c.args.self.now) (sym c.if-not-fits.ensures) c.requires.tiled, refl))

pub invariant_of-child : goal.invariant_of-child
invariant_of-child t c =
    let root = c.args.self.now.root in
    let x = c.loop-root.invariant.2 in
    let n = left_next root.of.now.file.now root.of.now.trailer x c.in-Some.ensures.steps in
    let s = (under_next root.of.now.file.now root.of.now.trailer root.at n.split n.here x.known.0).0.stands in
    record { some = s.some; within = s.within }

pub returns-then-levels-eq1 : goal.returns-then-levels-eq1
returns-then-levels-eq1 t c =
    let root = c.args.self.now.root in
    let bs = root.of.now.file.now in
    let x = c.loop-root.invariant.2 in
    let n = left_next bs root.of.now.trailer x c.in-Some.ensures.steps in
    let z : 0 ≡ c.args.levels - 1 = omega arith in
    let here = ap (λ (q : Place). node_check q.file q.trailer 0 q.node) (sym n.here) ∙ sym c.deep_fault.ensures in
    first_stop (node_check bs root.of.now.trailer (c.args.levels - 1)) x.numbers n.number n.rest _ n.split x.known.1 _
    (ap (λ (m : ℕ). node_check bs root.of.now.trailer m n.number) (sym z) ∙ here)
    ∙ sym (node_down bs root.of.now.trailer root.at _ c.requires.some (sym c.if-not-fits.ensures))

pub invariant_of-child-in-loop-root : goal.invariant_of-child-in-loop-root
invariant_of-child-in-loop-root t c =
    let root = c.args.self.now.root in
    let x = c.loop-root.invariant.2 in
    let n = left_next root.of.now.file.now root.of.now.trailer x c.in-Some.ensures.steps in
    let s = (under_next root.of.now.file.now root.of.now.trailer root.at n.split n.here x.known.0).0.stands in
    record { some = s.some; within = s.within }

pub check-requires : goal.check-requires
check-requires t c =
    let root = c.args.self.now.root in
    let x = c.loop-root.invariant.2 in
    let n = left_next root.of.now.file.now root.of.now.trailer x c.in-Some.ensures.steps in
    let u = (under_next root.of.now.file.now root.of.now.trailer root.at n.split n.here x.known.0).0 in
    let m : size_at root.of.now.file.now root.of.now.trailer root.at ≡ t = c.decreases in
    (omega (arith, u.smaller, m), (u.tiled, omega arith))

pub loop-root-preserved : goal.loop-root-preserved
loop-root-preserved t c =
    let root = c.args.self.now.root in
    let bs = root.of.now.file.now in
    let x = c.loop-root.invariant.2 in
    let n = left_next bs root.of.now.trailer x c.in-Some.ensures.steps in
    let here = ap (λ (q : Place). node_check q.file q.trailer (c.args.levels - 1) q.node) (sym n.here) ∙ sym c.in_ok-check.ensures in (
      tt,
      tt,
      record {
        numbers = n.rest;
        left = n.left;
        known = (
          (under_next bs root.of.now.trailer root.at n.split n.here x.known.0).1,
          first_more (node_check bs root.of.now.trailer (c.args.levels - 1)) x.numbers n.number n.rest _ n.split x.known.1 here,
        );
      },
    )

pub returns-in_err-check : goal.returns-in_err-check
returns-in_err-check t c =
    let root = c.args.self.now.root in
    let bs = root.of.now.file.now in
    let x = c.loop-root.invariant.2 in
    let n = left_next bs root.of.now.trailer x c.in-Some.ensures.steps in
    let p = err_from_is_err_and c.from_residual.result c.from_residual.ensures.1 in
    let here = ap (λ (q : Place). node_check q.file q.trailer (c.args.levels - 1) q.node) (sym n.here) ∙ sym c.in_err-check.ensures in
    rw (p.1, p.2)
    (first_stop (node_check bs root.of.now.trailer (c.args.levels - 1)) x.numbers n.number n.rest _ n.split x.known.1 _ here
    ∙ sym (node_down bs root.of.now.trailer root.at _ c.requires.some (sym c.if-not-fits.ensures)))

pub returns : goal.returns
returns t c =
    let root = c.args.self.now.root in
    (left_end root.of.now.file.now root.of.now.trailer c.loop-root.invariant.2 c.in-None.ensures.steps.0).1
    ∙ sym (node_down root.of.now.file.now root.of.now.trailer root.at _ c.requires.some (sym c.if-not-fits.ensures))
