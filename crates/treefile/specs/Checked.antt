-- A whole tree file: its trailer, or its first fault in the order of their numbers.
use Rattle.std.specs.Prelude.{ℕ, List, Ok, Err, Result}
use Rattle.treefile.specs.declared.fault.Refusal.{Refusal}
use Rattle.treefile.specs.declared.fault.TreeReason.{TreeReason}
use Rattle.treefile.specs.declared.trailer.Trailer.{Trailer}
use Rattle.treefile.specs.Faults.{Verdict}
use Rattle.treefile.specs.First.{and_then}
use Rattle.treefile.specs.Trailer.{trailer_check}
use Rattle.treefile.specs.Names.{names_check}
use Rattle.treefile.specs.Records.{records_check}
use Rattle.treefile.specs.Fits.{tree_check}

-- the trailer, if a verdict on what it frames is no fault
abbrev pub keep : Trailer → Verdict → Result Trailer (Refusal TreeReason)
keep t (Ok u) = Ok t
keep t (Err e) = Err e

-- what a trailer frames: names, then records, then the tree
abbrev pub framed_check : List ℕ → Result Trailer (Refusal TreeReason) → Result Trailer (Refusal TreeReason)
framed_check bs (Ok t) = keep t (and_then (names_check bs t) (and_then (records_check bs t) (tree_check bs t)))
framed_check bs (Err e) = Err e

-- the check of a file
unfoldable pub file_check : List ℕ → Result Trailer (Refusal TreeReason)
file_check bs = framed_check bs (trailer_check bs)
