-- The laws of the check.
use Rattle.std.proofs.Common.{ℕ, List}
use Rattle.treefile.specs.Laws.{CheckLaws}
use Rattle.treefile.specs.Trailer.{trailer_of}
use Rattle.treefile.proofs.NameBytes.{name_whole}
use Rattle.treefile.proofs.Preorder.{first_in_preorder}
use Rattle.treefile.proofs.Sound.{sound}
use Rattle.treefile.proofs.Spelling.{spelling_rule}
use Rattle.treefile.proofs.Table.{table_rule}

pub check_laws : (bs : List ℕ) → CheckLaws bs
check_laws bs =
    record {
      spells_one = λ t h. let s = sound bs t h in (spelling_rule bs t).passes s.framed.some s.tree;
      names = λ t h n l. name_whole bs t n ((sound bs t h).names n l);
      spelling = spelling_rule bs (trailer_of bs);
      fault_is_first = first_in_preorder bs (trailer_of bs);
      slot_table = table_rule;
    }
