-- The answer to the file that is too deep: its check in steps, each computed alone, so that none takes too much memory.
use Rattle.std.proofs.Common.{◌≡◌, ℕ, List, Ok, Err, refl, ap, ◌∙◌}
use Rattle.treefile.specs.declared.fault.TreeReason.TheVariants.{Depth}
use Rattle.treefile.specs.declared.trailer.Trailer.{Trailer}
use Rattle.treefile.specs.Checked.{keep, framed_check, file_check}
use Rattle.treefile.specs.Faults.{fault_of}
use Rattle.treefile.specs.First.{and_then}
use Rattle.treefile.specs.Fits.{node_check, tree_check}
use Rattle.treefile.specs.Names.{names_check}
use Rattle.treefile.specs.Records.{records_check}
use Rattle.treefile.specs.Slots.{table, columns}
use Rattle.treefile.specs.Trailer.{trailer_check}
use Rattle.worked.specs.Worked.{Stands, too_deep}

abbrev file : List ℕ
file = too_deep.bytes

abbrev framed : Trailer
framed = record { records = 0; record_count = 202; index = 0; name_count = 0 }

trailer_passes : trailer_check file ≡ Ok framed
unfolding too_deep
trailer_passes = refl

names_pass : names_check file framed ≡ Ok tt
names_pass = refl

records_pass : records_check file framed ≡ Ok tt
unfolding too_deep
records_pass = refl

tree_fails : tree_check file framed ≡ Err (fault_of Depth 200 1)
unfolding node_check columns table too_deep
tree_fails = refl

answer : Err (fault_of Depth 200 1) ≡ too_deep.answer
unfolding too_deep
answer = refl

pub too_deep-stands : Stands too_deep
unfolding file_check
too_deep-stands =
    ap (framed_check file) trailer_passes
    ∙ ap (λ v. keep framed (and_then v (and_then (records_check file framed) (tree_check file framed)))) names_pass
    ∙ ap (λ v. keep framed (and_then v (tree_check file framed))) records_pass
    ∙ ap (keep framed) tree_fails
    ∙ answer
