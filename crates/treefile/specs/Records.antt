-- The records of a tree file, each in itself. A record has 16 bytes: kind, form, two zero bytes, and the words size, name number and row.
use Rattle.std.specs.Prelude.{ℕ, ◌+◌, ◌*◌, Bool, true, false, cond, not, ◌&&◌, ◌||◌, List, [], ◌∷◌, Some, None, Option, ◌==◌, nat_lt, slice_index}
use Rattle.treefile.specs.declared.fault.TreeReason.TheVariants.{Record}
use Rattle.treefile.specs.declared.kind.Naming.{Naming}
use Rattle.treefile.specs.declared.kind.Naming.TheVariants.{Never, Always, Sometimes}
use Rattle.treefile.specs.declared.trailer.Trailer.{Trailer}
use Rattle.treefile.specs.Faults.{Verdict, fault_of}
use Rattle.treefile.specs.First.{first_bad, refused_at}
use Rattle.treefile.specs.Kinds.{naming_of}
use Rattle.treefile.specs.Names.{name_bytes}
use Rattle.treefile.specs.Words.{word_at}

-- where record i begins
abbrev pub record_place : Trailer → ℕ → ℕ
record_place t i = t.records + 16 * i

abbrev pub kind_at : List ℕ → Trailer → ℕ → ℕ
kind_at bs t i = slice_index bs (record_place t i)

abbrev pub form_at : List ℕ → Trailer → ℕ → ℕ
form_at bs t i = slice_index bs (record_place t i + 1)

abbrev pub size_at : List ℕ → Trailer → ℕ → ℕ
size_at bs t i = word_at bs (record_place t i + 4)

abbrev pub name_number : List ℕ → Trailer → ℕ → ℕ
name_number bs t i = word_at bs (record_place t i + 8)

abbrev pub row_at : List ℕ → Trailer → ℕ → ℕ
row_at bs t i = word_at bs (record_place t i + 12)

-- only an AnnAssign, 32, may have form 1
abbrev pub form_ok : ℕ → ℕ → Bool
form_ok kind form = form == 0 || (form == 1 && kind == 32)

abbrev pub filler_ok : List ℕ → Trailer → ℕ → Bool
filler_ok bs t i = slice_index bs (record_place t i + 2) == 0 && slice_index bs (record_place t i + 3) == 0

-- a dot, 46, stands in a name
abbrev pub dotted : List ℕ → Bool
dotted [] = false
dotted (b ∷ bs) = b == 46 || dotted bs

-- dots: anywhere in an ImportFrom's name, 26, not first in an Alias's, 40, nowhere in another
abbrev pub dots_ok : ℕ → List ℕ → Bool
dots_ok kind name = cond (kind == 26) true (cond (kind == 40) (not (slice_index name 0 == 46)) (not (dotted name)))

-- a name number is one that its kind may have
abbrev pub named_by : Option Naming → Bool → Bool → Bool
named_by None none good = false
named_by (Some Never) none good = none
named_by (Some Always) none good = good
named_by (Some Sometimes) none good = none || good

-- 0xffffffff stands for no name
abbrev pub naming_ok : List ℕ → Trailer → ℕ → ℕ → Bool
naming_ok bs t kind number =
    named_by (naming_of kind) (number == 0xffff_ffff) (nat_lt number t.name_count && dots_ok kind (name_bytes bs t number))

-- a known kind with a form, a name and a row that it may have
abbrev pub record_ok : List ℕ → Trailer → ℕ → Bool
record_ok bs t i =
    form_ok (kind_at bs t i) (form_at bs t i)
    && (filler_ok bs t i && (nat_lt 0 (row_at bs t i) && naming_ok bs t (kind_at bs t i) (name_number bs t i)))

-- the first record that is not so
abbrev pub records_check : List ℕ → Trailer → Verdict
records_check bs t = refused_at (λ i. fault_of Record i (row_at bs t i)) (first_bad (record_ok bs t) 0 t.record_count)
