-- The first of several that fails.
use Rattle.std.specs.Prelude.{ℕ, zero, suc, ◌+◌, Bool, cond, List, [], ◌∷◌, Some, None, Ok, Err, Option}
use Rattle.treefile.specs.declared.fault.Refusal.{Refusal}
use Rattle.treefile.specs.declared.fault.TreeReason.{TreeReason}
use Rattle.treefile.specs.Faults.{Verdict}

-- the first number from `from` on, of n in a row, at which a test fails
abbrev pub first_bad : (ℕ → Bool) → ℕ → ℕ → Option ℕ
first_bad ok from zero = None
first_bad ok from (suc n) = cond (ok from) (first_bad ok (from + 1) n) (Some from)

-- the fault at that number
abbrev pub refused_at : (ℕ → Refusal TreeReason) → Option ℕ → Verdict
refused_at fault None = Ok tt
refused_at fault (Some i) = Err (fault i)

-- the second verdict, if the first is no fault
abbrev pub and_then : Verdict → Verdict → Verdict
and_then (Ok u) v = v
and_then (Err e) v = Err e

-- the first fault that f finds in a list of nodes
abbrev pub first_fault : (ℕ → Verdict) → List ℕ → Verdict
first_fault f [] = Ok tt
first_fault f (p ∷ ps) = and_then (f p) (first_fault f ps)
