-- The lines of records, one after the other.
use Rattle.std.proofs.Common.{◌≡◌, ℕ, ◌+◌, ◌<◌, List, [], ◌∷◌, ◌++◌, map, length, get_or, take, Some, Option, refl, ap, ◌∙◌, arith}
use Rattle.std.proofs.lemmas.Grind.{common_steps}
use Rattle.std.proofs.lemmas.List.{take_more, get_or-map, length-map}
use Rattle.std.proofs.lemmas.List.FromFn.{length-range_with_len, get_or-range_with_len}
use Rattle.std.specs.List.{All, range_with_len}
use Rattle.listing.specs.Lines.{node_line}
use Rattle.treefile.specs.KindWords.{kind_word}
use Rattle.treefile.specs.Records.{kind_at, row_at}
use Rattle.treefile.specs.Shown.{Shown, node_at, said_by, shown}
use Rattle.treefile.specs.Spelling.{name_at}
use Rattle.treefile.specs.declared.node.Node.{Node}
use Rattle.treefile.specs.declared.stand.Stand.{Stand}
use Rattle.treefile.specs.declared.trailer.Trailer.{Trailer}
use Rattle.treelist.specs.Listing.{ended, record_line, record_lines}

module _ (bs : List ℕ) (t : Trailer) where
  lines_append : (xs ys : List Stand) → record_lines bs t (xs ++ ys) ≡ record_lines bs t xs ++ record_lines bs t ys
  lines_append [] ys = refl
  lines_append (x ∷ xs) ys = grind (arith, common_steps, lines_append xs ys)

  pub lines_more :
      (start out next line : List ℕ) (ss : List Stand) (i : ℕ) (d : Stand) → i < length ss → out ≡ start ++ record_lines bs t (take i ss)
      → line ≡ record_line bs t (get_or ss i d) → next ≡ out ++ ended line → next ≡ start ++ record_lines bs t (take (i + 1) ss)
  lines_more start out next line ss i d l o e n =
      grind (arith, common_steps, take_more ss i d, lines_append (take i ss) (get_or ss i d ∷ []), o, e, n)

-- records in their order lie below their count
pub in_order_below : (ss : List Stand) (n : ℕ) → map (λ s. s.node) ss ≡ range_with_len 0 n → All (λ s. s.node < n) ss
in_order_below ss n e k d l =
    let below : k < n = (let a = ap length e in grind (arith, length-map ss (λ (s : Stand). s.node), length-range_with_len 0 n, a)) in
    let at = get_or-map (λ (s : Stand). s.node) ss k d d.node l in
    let is = get_or-range_with_len 0 n k d.node below in
    let same = ap (λ ns. get_or ns k d.node) e in
    grind (arith, at, is, same)

-- what a node says is what its record says
pub same_line : (bs : List ℕ) (t : Trailer) (at : Stand) (n : Node) (word : List ℕ) (name : Option (List ℕ)) → ◌≡◌ {A = Option Shown} (Some (shown n)) (Some (node_at bs t at.node)) → word ≡ kind_word (said_by n.case).kind → name ≡ (said_by n.case).name → node_line at.node at.depth word name n.row ≡ record_line bs t at
same_line bs t at n word name e ew en =
    let s : shown n ≡ node_at bs t at.node = cc in
    let w : word ≡ kind_word (kind_at bs t at.node) = ew ∙ ap (λ (x : Shown). kind_word x.label.kind) s in
    let m : name ≡ name_at bs t at.node = en ∙ ap (λ (x : Shown). x.label.name) s in
    let r : n.row ≡ row_at bs t at.node = ap (λ (x : Shown). x.label.row) s in
    λ j. node_line at.node at.depth (w j) (m j) (r j)
