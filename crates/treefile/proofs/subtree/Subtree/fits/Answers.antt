use Rattle.std.proofs.Common.{sym, ◌∙◌, arith}
use Rattle.std.proofs.lemmas.Bool.Decides.{nat_tests}
use Rattle.treefile.specs.Fits.{slot_fits}
use Rattle.treefile.specs.Slots.{letter}
use Rattle.treefile.proofs.Children.{fits_slots, slots_end, slots_more}
use Rattle.treefile.proofs.Steps.{at_place, left_end, left_next}
use Rattle.treefile.proofs.subtree.Subtree.fits.Goals as goal

pub loop-child-preserved : goal.loop-child-preserved
loop-child-preserved c =
    let of = c.args.self.now.root.of.now in
    let x = c.loop-child.invariant.2 in
    let n = left_next of.file.now of.trailer x c.in-Some.ensures.steps in (
      tt,
      tt,
      record {
        numbers = n.rest;
        left = n.left;
        known = slots_more of.file.now of.trailer _ c.loop-child.slots.now _ c.in-Some-split_first.slot.now x.numbers n.number n.rest _ c.in-Some-split_first.ensures.cases.0 n.split
            (at_place of.file.now of.trailer (λ bs t end p. slot_fits bs t (letter c.in-Some-split_first.slot.now) end p) _ n.number _ _ _ n.here c.end-end.ensures c.if-not-fits_slot.ensures) x.known;
      },
    )

pub returns : goal.returns
returns c =
    let root = c.args.self.now.root in
    c.is_empty.ensures ∙ slots_end root.of.now.file.now root.of.now.trailer _ c.loop-child.slots.now ∙ left_end root.of.now.file.now root.of.now.trailer c.loop-child.invariant.2 c.in-None.ensures.steps.0
    ∙ sym (fits_slots root.of.now.file.now root.of.now.trailer root.at (grind (arith, nat_tests, c.if-is.ensures)))
