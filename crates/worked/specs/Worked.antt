-- Whole tree files, and what the check answers to each.
use Rattle.std.specs.Prelude.{◌≡◌, ℕ, zero, suc, ◌+◌, ◌*◌, List, [], ◌∷◌, ◌++◌, replicate, Ok, Err, codes, Result}
use Rattle.treefile.specs.declared.fault.Refusal.{Refusal}
use Rattle.treefile.specs.declared.fault.TreeReason.{TreeReason}
use Rattle.treefile.specs.declared.fault.TreeReason.TheVariants.{Frame, Counts, Name, Record, Slots, Depth}
use Rattle.treefile.specs.declared.trailer.Trailer.{Trailer}
use Rattle.treefile.specs.Checked.{file_check}
use Rattle.treefile.specs.Faults.{fault_of}
use Rattle.worked.specs.Layout.{absent, list, function_def, expr, returns, params, arg, load, name, lambda, none, node, entry, trailer, file}

-- a file, and what its check answers
pub record Case : Type 0 where
  pub bytes : List ℕ
  pub answer : Result Trailer (Refusal TreeReason)

-- `def f(t): return lambda: t`, over two rows
abbrev function_nodes : List (List ℕ)
function_nodes =
    node list 23 none 1 ∷
    node function_def 22 0 1 ∷
    node list 1 none 1 ∷
    node absent 1 none 1 ∷
    node params 9 none 1 ∷
    node list 1 none 1 ∷
    node list 4 none 1 ∷
    node arg 3 1 1 ∷
    node absent 1 none 1 ∷
    node absent 1 none 1 ∷
    node list 1 none 1 ∷
    node absent 1 none 1 ∷
    node absent 1 none 1 ∷
    node list 10 none 1 ∷
    node returns 9 none 2 ∷
    node lambda 8 none 2 ∷
    node params 6 none 2 ∷
    node list 1 none 2 ∷
    node list 1 none 2 ∷
    node list 1 none 2 ∷
    node absent 1 none 2 ∷
    node absent 1 none 2 ∷
    node name 1 1 2 ∷
    []

unfoldable pub function : Case
function =
    record {
      bytes = file (codes "ft" ++ 0 ∷ 0 ∷ []) (entry 0 1 ∷ entry 1 1 ∷ []) function_nodes;
      answer = Ok (record { records = 20; record_count = 23; index = 4; name_count = 2 });
    }

-- a module without a statement
unfoldable pub empty_module : Case
empty_module =
    record {
      bytes = file [] [] (node list 1 none 1 ∷ []);
      answer = Ok (record { records = 0; record_count = 1; index = 0; name_count = 0 });
    }

-- one byte less than a trailer has
unfoldable pub too_short : Case
too_short = record { bytes = replicate 19 0; answer = Err (fault_of Frame 0 0) }

-- the empty module with a length word that is one too large
unfoldable pub wrong_length : Case
wrong_length = record { bytes = node list 1 none 1 ++ trailer 0 1 0 0 37; answer = Err (fault_of Frame 0 0) }

-- a trailer alone
unfoldable pub no_record : Case
no_record = record { bytes = file [] [] []; answer = Err (fault_of Counts 0 0) }

-- a name of no byte, the second of two; its number stands in the fault's node
unfoldable pub empty_name : Case
empty_name =
    record {
      bytes = file (codes "f") (entry 0 1 ∷ entry 1 0 ∷ []) (node list 1 none 1 ∷ []);
      answer = Err (fault_of Name 1 0);
    }

-- a record whose kind, 2, is none
unfoldable pub unknown_kind : Case
unknown_kind = record { bytes = file [] [] (node list 2 none 1 ∷ node 2 1 none 7 ∷ []); answer = Err (fault_of Record 1 7) }

-- an Expr without its expression: the fault is the Expr's
unfoldable pub missing_child : Case
missing_child =
    record { bytes = file [] [] (node list 2 none 1 ∷ node expr 1 none 3 ∷ []); answer = Err (fault_of Slots 1 3) }

-- so many Loads, each but the first in the List of the one before: two levels for each
abbrev nested : ℕ → List (List ℕ)
nested zero = []
nested (suc n) = node load (2 * n + 2) none 1 ∷ node list (2 * n + 1) none 1 ∷ nested n

-- 202 levels: the fault is that of the node at level 201
unfoldable pub too_deep : Case
too_deep = record { bytes = file [] [] (nested 101); answer = Err (fault_of Depth 200 1) }

-- the worked files
unfoldable pub files : List Case
files =
    function ∷
    empty_module ∷
    too_short ∷
    wrong_length ∷
    no_record ∷
    empty_name ∷
    unknown_kind ∷
    missing_child ∷
    too_deep ∷
    []

-- what a file's check answers is what stands beside it
abbrev pub Stands : Case → Type 0
Stands f = file_check f.bytes ≡ f.answer

-- so for each file of a list
abbrev pub AllStand : List Case → Type 0
AllStand [] = Unit {0}
AllStand (f ∷ fs) = Stands f × AllStand fs

-- each worked file's check answers what stands beside it
abbrev pub WorkedFiles : Type 0
WorkedFiles = AllStand files
