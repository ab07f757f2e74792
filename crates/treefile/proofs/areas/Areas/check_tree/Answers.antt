use Rattle.std.proofs.Common.{◌≡◌, ℕ, sym, subst}
use Rattle.treefile.specs.declared.areas.Areas.{Areas}
use Rattle.treefile.specs.Fits.{Tiled}
use Rattle.treefile.specs.Records.{kind_at}
use Rattle.treefile.proofs.Kept.{framed_areas}
use Rattle.treefile.proofs.Passing.{root_stands}
use Rattle.treefile.proofs.areas.Areas.check_tree.Goals as goal

pub check-requires-clause-tiled : goal.check-requires-clause-tiled
check-requires-clause-tiled c =
    let self = c.args.self.now in
    let root = c.in-Some.root.root in
    let first = (root_stands self.file.now self.trailer (framed_areas self) (sym c.in-Some.ensures.fits)).1 in
    let placed = subst (λ (n : ℕ). kind_at self.file.now self.trailer n ≡ 1 → Tiled self.file.now self.trailer n) (sym c.in-Some.ensures.at) first in
    subst (λ (a : Areas). kind_at a.file.now a.trailer root.at ≡ 1 → Tiled a.file.now a.trailer root.at) (sym c.in-Some.ensures.of) placed
