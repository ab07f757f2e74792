-- A place that is counted is written in the list too.
use Rattle.std.proofs.Common.{Some, refl, ap, ◌∙◌, arith, rules}
use Rattle.std.proofs.lemmas.List.{get_or-take}
use Rattle.std.proofs.lemmas.Option.{slice_get-get_or}
use lib.Seq.{take-set-lt}
use Rattle.ordered.specs.Records.{listed}
use Rattle.ordered.proofs.Counts.{within_places, within_count}
use Rattle.ordered.proofs.table.Ordered.set.Goals as goal

pub offset_bounds-self-i : goal.offset_bounds-self-i
offset_bounds-self-i g c = let h = within_places c.args.self.now.count c.args.self.now.places.now in search rules

pub bounds-self-i : goal.bounds-self-i
bounds-self-i g c = let h = within_places c.args.self.now.count c.args.self.now.places.now in search rules

pub returns-then-i-count : goal.returns-then-i-count
returns-then-i-count g c =
    let xs = c.args.self.now.places.now in
    let n = c.args.self.now.count in
    let h = within_count n xs in
    let d = c.index-self-i.result in
    let read = slice_get-get_or (listed c.args.self.now) c.args.i d (omega arith) ∙ ap Some (get_or-take n xs c.args.i d (omega arith)) in
    (omega arith, read, take-set-lt n xs c.args.i c.args.item (omega arith), refl)
