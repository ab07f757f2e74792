use Rattle.std.proofs.Common.{◌≡◌, ℕ, ◌+◌, ◌-◌, ◌<◌, ◌++◌, List, vec_items, refl, sym, ap, ◌∙◌, subst, append-nil, arith}
use Rattle.treefile.specs.declared.stand.Stand.{Stand}
use Rattle.treefile.specs.Fits.{Place, children}
use Rattle.treefile.specs.Passing.{Passes}
use Rattle.treefile.specs.Preorder.{joined, preorder}
use Rattle.treefile.specs.Records.{size_at}
use Rattle.treefile.proofs.Kept.{all_left}
use Rattle.treefile.proofs.Passing.{children_pass, listed_more, listed_whole, pass_next, passes_down}
use Rattle.treefile.proofs.Steps.{left_end, left_next}
use Rattle.treefile.proofs.subtree.Subtree.+push_nodes.Goals as goal

pub loop-root-init : goal.loop-root-init
loop-root-init t c =
    let root = c.args.self.now.root in
    let bs = root.of.now.file.now in
    (tt, tt, all_left bs root.of.now.trailer root.at _ _ c.into_iter-root-iterator.ensures.into_iter_gives c.children-root-items.ensures (children_pass bs root.of.now.trailer (200 - c.args.depth) root.at (201 - c.args.depth) (omega arith) c.requires.passes, refl))

pub invariant_of-child : goal.invariant_of-child
invariant_of-child t c =
    let root = c.args.self.now.root in
    let x = c.loop-root.invariant.2 in
    let n = left_next root.of.now.file.now root.of.now.trailer x c.in-Some.ensures.steps in
    let s = (pass_next root.of.now.file.now root.of.now.trailer (200 - c.args.depth) root.at n.split n.here x.known.0).0.1.stands in
    record { some = s.some; within = s.within }

pub push_nodes-requires : goal.push_nodes-requires
push_nodes-requires t c =
    let root = c.args.self.now.root in
    let child = c.in-Some.root in
    let x = c.loop-root.invariant.2 in
    let n = left_next root.of.now.file.now root.of.now.trailer x c.in-Some.ensures.steps in
    let p = (pass_next root.of.now.file.now root.of.now.trailer (200 - c.args.depth) root.at n.split n.here x.known.0).0 in
    let m : size_at root.of.now.file.now root.of.now.trailer root.at ≡ t = c.decreases in
    let l : 0 < 200 - c.args.depth = (passes_down child.of.now.file.now child.of.now.trailer child.at (200 - c.args.depth) p.1.clean).0 in
    let e : 200 - c.args.depth ≡ 201 - (c.args.depth + 1) = omega arith in
    (omega (arith, p.0, m), (omega (arith, l), subst (λ (k : ℕ). Passes child.of.now.file.now child.of.now.trailer k child.at) e p.1))

pub loop-root-preserved : goal.loop-root-preserved
loop-root-preserved t c =
    let root = c.args.self.now.root in
    let bs = root.of.now.file.now in
    let x = c.loop-root.invariant.2 in
    let n = left_next bs root.of.now.trailer x c.in-Some.ensures.steps in
    let e : 201 - (c.args.depth + 1) ≡ 200 - c.args.depth = omega arith in
    let items =
    c.in_ok-push_nodes.ensures
    ∙ ap (λ (k : ℕ). vec_items c.loop-root.out ++ preorder c.in-Some.root.of.now.file.now c.in-Some.root.of.now.trailer k (c.args.depth + 1) c.in-Some.root.at) e
    ∙ ap (λ (q : Place). vec_items c.loop-root.out ++ preorder q.file q.trailer (200 - c.args.depth) (c.args.depth + 1) q.node) n.here in (
      tt,
      tt,
      record {
        numbers = n.rest;
        left = n.left;
        known = (
          (pass_next bs root.of.now.trailer (200 - c.args.depth) root.at n.split n.here x.known.0).1,
          listed_more (preorder bs root.of.now.trailer (200 - c.args.depth) (c.args.depth + 1)) (vec_items c.loop-root.out) _ _ n.split items x.known.1,
        );
      },
    )

pub returns : goal.returns
returns t c =
    let root = c.args.self.now.root in
    let bs = root.of.now.file.now in
    let below = joined (preorder bs root.of.now.trailer (200 - c.args.depth) (c.args.depth + 1)) (children bs root.of.now.trailer root.at) in
    sym (append-nil (vec_items c.loop-root.out))
    ∙ (left_end bs root.of.now.trailer c.loop-root.invariant.2 c.in-None.ensures.steps.0).1
    ∙ ap (λ (l : List Stand). l ++ below) c.in_ok-push.ensures.items
    ∙ listed_whole bs root.of.now.trailer (200 - c.args.depth) (201 - c.args.depth) c.args.depth root.at (vec_items c.args.out.now) (omega arith)
