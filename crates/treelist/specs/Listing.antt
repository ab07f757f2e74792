-- The text that the program writes for an input.
use Rattle.std.specs.Prelude.{ℕ, cond, List, [], ◌∷◌, ◌++◌, length, Ok, Err, Result, nat_lt}
use Rattle.std.specs.Option.{option_map}
use Rattle.listing.specs.declared.lines.NodeLine.{NodeLine}
use Rattle.listing.specs.Lines.{node_line, fault_line}
use Rattle.treefile.specs.Checked.{file_check}
use Rattle.treefile.specs.Faults.{number_of}
use Rattle.treefile.specs.KindWords.{kind_word}
use Rattle.treefile.specs.Preorder.{preorder}
use Rattle.treefile.specs.Records.{kind_at, row_at}
use Rattle.treefile.specs.Spelling.{name_at}
use Rattle.treefile.specs.declared.fault.Refusal.{Refusal}
use Rattle.treefile.specs.declared.fault.TreeReason.{TreeReason}
use Rattle.treefile.specs.declared.stand.Stand.{Stand}
use Rattle.treefile.specs.declared.trailer.Trailer.{Trailer}

-- a line ends with a line feed
abbrev pub ended : List ℕ → List ℕ
ended line = line ++ 10 ∷ []

-- what a line's value says
abbrev pub line_of : NodeLine → List ℕ
line_of l = node_line l.number l.depth l.word.now (option_map (λ x. x.now) l.name) l.row

-- one record: its number, its depth, its kind's word, its name and its row
abbrev pub record_line : List ℕ → Trailer → Stand → List ℕ
record_line bs t s =
    node_line s.node s.depth (kind_word (kind_at bs t s.node)) (name_at bs t s.node) (row_at bs t s.node)

abbrev pub record_lines : List ℕ → Trailer → List Stand → List ℕ
record_lines bs t [] = []
record_lines bs t (s ∷ ss) = ended (record_line bs t s) ++ record_lines bs t ss

-- the records of a file that passes, or its fault
abbrev pub answer_lines : List ℕ → Result Trailer (Refusal TreeReason) → List ℕ
answer_lines bs (Ok t) = record_lines bs t (preorder bs t 200 1 0)
answer_lines bs (Err f) = ended (fault_line (number_of f.reason) f.spot.node f.spot.row)

-- an input of more than 4,194,304 bytes is refused as no file
abbrev pub listing_of : List ℕ → List ℕ
listing_of bs = cond (nat_lt 4194304 (length bs)) (ended (fault_line 1 0 0)) (answer_lines bs (file_check bs))
