-- The lines of the records so far are written.
use Rattle.std.proofs.Common.{◌≡◌, ◌++◌, take, string_bytes}
use Rattle.treelist.specs.Listing.{record_lines}
use Rattle.treelist.proofs.text.push_records.Given as goal

abbrev pub invariant-loop-at : goal.invariant-loop-at
invariant-loop-at l = string_bytes l.out ≡ string_bytes l.initial.out ++ record_lines l.tree.areas.file.now l.tree.areas.trailer (take l.at-index l.nodes)
