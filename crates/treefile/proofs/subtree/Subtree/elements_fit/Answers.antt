use Rattle.std.proofs.Common.{◌&&◌, sym, ap, ◌∙◌, arith}
use Rattle.std.proofs.lemmas.Bool.{and_left}
use Rattle.treefile.specs.Fits.{Place, elements_fit, end_of, within}
use Rattle.treefile.specs.Records.{kind_at}
use Rattle.treefile.specs.Slots.{element, letter}
use Rattle.treefile.proofs.Steps.{at_place, left_end, left_next}
use Rattle.treefile.proofs.Verdicts.{and_true}
use Rattle.treefile.proofs.subtree.Subtree.elements_fit.Goals as goal

pub fits_list-requires : goal.fits_list-requires
fits_list-requires c =
    let n = left_next _ _ c.loop-child.invariant.2 c.in-Some.ensures.steps in
    omega (arith, ap (λ (q : Place). q.trailer.record_count) n.here, c.end-end.ensures, c.args.self.now.within)

pub returns-then-not-fits_list : goal.returns-then-not-fits_list
returns-then-not-fits_list c =
    let root = c.args.self.now.root in
    let a = letter c.args.slot in
    let fit = elements_fit root.of.now.file.now root.of.now.trailer a (end_of root.of.now.file.now root.of.now.trailer root.at) in
    let x = c.loop-child.invariant.2 in
    let n = left_next _ _ x c.in-Some.ensures.steps in
    let here = at_place _ _ (λ bs t end p. within bs t end p && element a (kind_at bs t p)) _ n.number _ _ _ n.here c.end-end.ensures c.if-not-fits_list.ensures in
    sym (and_left _ (fit n.rest) (sym here)) ∙ ap fit (sym n.split) ∙ x.known

pub loop-child-preserved : goal.loop-child-preserved
loop-child-preserved c =
    let root = c.args.self.now.root in
    let a = letter c.args.slot in
    let fit = elements_fit root.of.now.file.now root.of.now.trailer a (end_of root.of.now.file.now root.of.now.trailer root.at) in
    let x = c.loop-child.invariant.2 in
    let n = left_next _ _ x c.in-Some.ensures.steps in
    let here = at_place _ _ (λ bs t end p. within bs t end p && element a (kind_at bs t p)) _ n.number _ _ _ n.here c.end-end.ensures c.if-not-fits_list.ensures in
    (tt, tt, record { numbers = n.rest; left = n.left; known = sym (and_true _ (fit n.rest) (sym here)) ∙ ap fit (sym n.split) ∙ x.known })

pub returns : goal.returns
returns c = left_end _ _ c.loop-child.invariant.2 c.in-None.ensures.steps.0
