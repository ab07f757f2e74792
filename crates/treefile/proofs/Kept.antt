-- What the types keep, as the definitions say it.
use Rattle.treefile.specs.declared.areas.Areas.{Areas}
use Rattle.std.proofs.Common.{◌≡◌, ℕ, List, ap, ◌∙◌}
use Rattle.treefile.specs.declared.subtree.Children.{Children}
use Rattle.treefile.specs.declared.subtree.Subtree.{Subtree}
use Rattle.treefile.specs.declared.tree.Tree.{Tree}
use Rattle.treefile.specs.declared.trailer.Trailer.{Trailer}
use Rattle.treefile.specs.Fits.{Stands, child_places, children, places}
use Rattle.treefile.specs.Trailer.{Framed}
use Rattle.treefile.proofs.Sound.{Sound, sound_kept}
use Rattle.treefile.proofs.Steps.{Left}

pub framed_areas : (a : Areas) → Framed a.file.now a.trailer
framed_areas a = record { records = a.records; index = a.index; some = a.some; few = a.few; few_names = a.few_names }

pub stands_subtree : (x : Subtree) → Stands x.root.of.now.file.now x.root.of.now.trailer x.root.at
stands_subtree x = record { framed = framed_areas x.root.of.now; some = x.some; within = x.within }

pub sound_tree : (x : Tree) → Sound x.areas.file.now x.areas.trailer
sound_tree x = sound_kept x.areas.file.now x.areas.trailer x.checked x.read

-- at the start of a loop over the children of a node all are left
pub all_left :
    {fact : List ℕ → Type 0} (bs : List ℕ) (t : Trailer) (i : ℕ) (k r : Children) → k ≡ r →
    places r.of.now.file.now r.of.now.trailer r.left r.next r.end ≡ child_places bs t i → fact (children bs t i) →
    Left bs t (places k.of.now.file.now k.of.now.trailer k.left k.next k.end) fact
all_left bs t i k r e h f =
    record {
      numbers = children bs t i;
      left = ap (λ (x : Children). places x.of.now.file.now x.of.now.trailer x.left x.next x.end) e ∙ h;
      known = f;
    }
