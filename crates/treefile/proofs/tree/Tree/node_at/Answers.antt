use Rattle.std.proofs.Common.{sym, ◌∙◌}
use Rattle.std.proofs.lemmas.Bool.{true≢false}
use Rattle.treefile.proofs.Kept.{sound_tree}
use Rattle.treefile.proofs.Shows.{kind_known, node_shown}
use Rattle.treefile.proofs.tree.Tree.node_at.Goals as goal

pub unreachable-requires : goal.unreachable-requires
unreachable-requires c =
    let areas = c.args.self.now.areas in
    true≢false (sym (kind_known areas.file.now areas.trailer c.args.i ((sound_tree c.args.self.now).records c.args.i c.requires)) ∙ c.in_default.ensures)

pub returns : goal.returns
returns c =
    let areas = c.args.self.now.areas in
    let bs = areas.file.now in
    let t = areas.trailer in
    let i = c.args.i in
    rw (c.row.ensures, c.case_of.ensures, c.places_after-places.ensures, c.in-Some.ensures) (node_shown bs t (sound_tree c.args.self.now) i c.requires)
