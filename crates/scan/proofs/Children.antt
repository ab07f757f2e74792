-- The children of a node that stands at a place, by the places that are read of it.
use Rattle.std.proofs.Common.{◌≡◌, ℕ, ◌+◌, List, [], ◌∷◌, length, sym, refl, ap, ◌∙◌, subst, arith}
use Rattle.std.proofs.lemmas.List.{length-append}
use Rattle.treefile.specs.declared.trailer.Trailer.{Trailer}
use Rattle.treefile.specs.Fits.{children}
use Rattle.treefile.specs.Records.{size_at}
use Rattle.treefile.specs.Slots.{columns}
use Rattle.treefile.specs.Spelling.{label_at}
use Rattle.treefile.specs.Trees.{Label, Tree, node, Trees, none, more, tree_records, trees_records, slotted}
use Rattle.treefile.proofs.Checked.{formed_below, formed_more, formed_slots}
use Rattle.treefile.proofs.Walking.{places, inside, row_first, children_places}
use Rattle.scan.specs.Enterings.{part_of, parts_of, made_of}
use Rattle.scan.specs.Parts.{◌▸◌}
use Rattle.scan.specs.Places.{Here, Row, ReadsAs, Slotted, spot_at, NoChild, OneChild, TwoChildren, ThreeChildren, FourChildren, Elements}

-- the first of a row whose first place is known, and the row after it
pub record Head (bs : List ℕ) (t : Trailer) (pos e a : ℕ) (as' : List ℕ) (ts : Trees) : Type 0 where
  pub tree : Tree
  pub rest : Trees
  pub is : ts ≡ more tree rest
  pub parts : parts_of ts pos ≡ part_of tree a ▸ parts_of rest (a + length (tree_records tree))
  pub here : Here bs t a tree
  pub row : Row bs t (a + length (tree_records tree)) e rest
  pub more_places : places (a + length (tree_records tree)) rest ≡ as'
  pub size : size_at bs t a ≡ length (tree_records tree)
  pub long : length (trees_records ts) ≡ length (tree_records tree) + length (trees_records rest)

module _ (bs : List ℕ) (t : Trailer) where
  pub head : (pos e a : ℕ) (as' : List ℕ) (ts : Trees) → Row bs t pos e ts → places pos ts ≡ a ∷ as' → Head bs t pos e a as' ts
  head pos e a as' none r p = absurd (grind arith)
  head pos e a as' (more x xs) r p =
      let at : pos ≡ a = cc in
      let next : places (pos + length (tree_records x)) xs ≡ as' = cc in
      let f = row_first bs t pos x xs r.stands in
      let n = length-append (tree_records x) (trees_records xs) in
      let g = formed_more x xs r.formed in
      subst (λ q. Head bs t pos e q as' (more x xs)) at
      (record {
        tree = x;
        rest = xs;
        is = refl;
        parts = refl;
        here = record { stands = f.first; formed = g.0; within = omega (arith, r.ends, r.within, n) };
        row = record { stands = f.next; formed = g.1; ends = omega (arith, r.ends, n); within = r.within };
        more_places = next;
        size = f.size;
        long = n;
      })

  -- no more trees than places
  pub no_more : (pos : ℕ) (ts : Trees) → places pos ts ≡ [] → ts ≡ none
  no_more pos none p = refl
  no_more pos (more x xs) p = absurd (grind arith)

  -- a node by its row of children
  pub record Below (i : ℕ) (x : Tree) : Type 0 where
    pub trees : Trees
    pub reads : ReadsAs bs t i x (parts_of trees (i + 1))
    pub row : Row bs t (i + 1) (i + size_at bs t i) trees
    pub places_are : children bs t i ≡ places (i + 1) trees
    pub long : size_at bs t i ≡ length (trees_records trees) + 1
    pub slots : Slotted bs t i trees

  pub below : (i : ℕ) (x : Tree) → Here bs t i x → Below i x
  below i (node l ts) h =
      let p = inside bs t i l ts h.stands in
      record {
        trees = ts;
        reads = ap (λ (m : Label). made_of (record { node = i; row = m.row }) m (parts_of ts (i + 1))) (sym p.label);
        row = record { stands = p.row; formed = formed_below l ts h.formed; ends = omega (arith, p.size); within = omega (arith, p.size, h.within) };
        places_are = children_places bs t i l ts h.stands;
        long = p.size;
        slots = λ other. ap (λ (m : Label). slotted (columns m.kind) ts) p.label ∙ formed_slots l ts (λ k. other (ap (λ (m : Label). m.kind) p.label ∙ k)) h.formed;
      }

  -- the children that are read are all
  module _ (i : ℕ) (x : Tree) (h : Here bs t i x) where
    abbrev b : Below i x
    b = below i x h

    pub no_child : children bs t i ≡ [] → NoChild bs t i x
    no_child p =
        let e = no_more (i + 1) b.trees (sym b.places_are ∙ p) in
        record { reads = b.reads ∙ ap (λ ts. made_of (spot_at bs t i) (label_at bs t i) (parts_of ts (i + 1))) e }

    pub one_child : (a : ℕ) → children bs t i ≡ a ∷ [] → OneChild bs t i a x
    one_child a p =
        let u = head (i + 1) (i + size_at bs t i) a [] b.trees b.row (sym b.places_are ∙ p) in
        let e = no_more (a + length (tree_records u.tree)) u.rest u.more_places in
        record {
          first = u.tree;
          reads = b.reads ∙ ap (made_of (spot_at bs t i) (label_at bs t i)) (u.parts ∙ ap (λ ts. part_of u.tree a ▸ parts_of ts (a + length (tree_records u.tree))) e);
          slots = λ other. ap (λ ts. slotted (columns (label_at bs t i).kind) ts) (sym (u.is ∙ ap (more u.tree) e)) ∙ b.slots other;
          here_first = u.here;
          less = omega (arith, b.long, u.long, u.size);
        }

    pub two_children : (a c : ℕ) → children bs t i ≡ a ∷ c ∷ [] → TwoChildren bs t i a c x
    two_children a c p =
        let end' = i + size_at bs t i in
        let u = head (i + 1) end' a (c ∷ []) b.trees b.row (sym b.places_are ∙ p) in
        let v = head (a + length (tree_records u.tree)) end' c [] u.rest u.row u.more_places in
        let e = no_more (c + length (tree_records v.tree)) v.rest v.more_places in
        record {
          first = u.tree;
          second = v.tree;
          reads = b.reads ∙ ap (made_of (spot_at bs t i) (label_at bs t i)) (u.parts ∙ ap (λ ps. part_of u.tree a ▸ ps)
              (v.parts ∙ ap (λ ts. part_of v.tree c ▸ parts_of ts (c + length (tree_records v.tree))) e));
          slots = λ other. ap (λ ts. slotted (columns (label_at bs t i).kind) ts) (sym (u.is ∙ ap (more u.tree) (v.is ∙ ap (more v.tree) e))) ∙ b.slots other;
          here_first = u.here;
          here_second = v.here;
          less = omega (arith, b.long, u.long, u.size, v.long, v.size);
        }

    pub three_children : (a c d : ℕ) → children bs t i ≡ a ∷ c ∷ d ∷ [] → ThreeChildren bs t i a c d x
    three_children a c d p =
        let end' = i + size_at bs t i in
        let u = head (i + 1) end' a (c ∷ d ∷ []) b.trees b.row (sym b.places_are ∙ p) in
        let v = head (a + length (tree_records u.tree)) end' c (d ∷ []) u.rest u.row u.more_places in
        let w = head (c + length (tree_records v.tree)) end' d [] v.rest v.row v.more_places in
        let e = no_more (d + length (tree_records w.tree)) w.rest w.more_places in
        record {
          first = u.tree;
          second = v.tree;
          third = w.tree;
          reads = b.reads ∙ ap (made_of (spot_at bs t i) (label_at bs t i)) (u.parts ∙ ap (λ ps. part_of u.tree a ▸ ps)
              (v.parts ∙ ap (λ ps. part_of v.tree c ▸ ps) (w.parts ∙ ap (λ ts. part_of w.tree d ▸ parts_of ts (d + length (tree_records w.tree))) e)));
          slots = λ other. ap (λ ts. slotted (columns (label_at bs t i).kind) ts) (sym (u.is ∙ ap (more u.tree) (v.is ∙ ap (more v.tree) (w.is ∙ ap (more w.tree) e)))) ∙ b.slots other;
          here_first = u.here;
          here_second = v.here;
          here_third = w.here;
          less = omega (arith, b.long, u.long, u.size, v.long, v.size, w.long, w.size);
        }

    pub four_children : (a c d f : ℕ) → children bs t i ≡ a ∷ c ∷ d ∷ f ∷ [] → FourChildren bs t i a c d f x
    four_children a c d f p =
        let end' = i + size_at bs t i in
        let u = head (i + 1) end' a (c ∷ d ∷ f ∷ []) b.trees b.row (sym b.places_are ∙ p) in
        let v = head (a + length (tree_records u.tree)) end' c (d ∷ f ∷ []) u.rest u.row u.more_places in
        let w = head (c + length (tree_records v.tree)) end' d (f ∷ []) v.rest v.row v.more_places in
        let z = head (d + length (tree_records w.tree)) end' f [] w.rest w.row w.more_places in
        let e = no_more (f + length (tree_records z.tree)) z.rest z.more_places in
        record {
          first = u.tree;
          second = v.tree;
          third = w.tree;
          fourth = z.tree;
          reads = b.reads ∙ ap (made_of (spot_at bs t i) (label_at bs t i)) (u.parts ∙ ap (λ ps. part_of u.tree a ▸ ps)
              (v.parts ∙ ap (λ ps. part_of v.tree c ▸ ps) (w.parts ∙ ap (λ ps. part_of w.tree d ▸ ps)
              (z.parts ∙ ap (λ ts. part_of z.tree f ▸ parts_of ts (f + length (tree_records z.tree))) e))));
          slots = λ other. ap (λ ts. slotted (columns (label_at bs t i).kind) ts) (sym (u.is ∙ ap (more u.tree) (v.is ∙ ap (more v.tree) (w.is ∙ ap (more w.tree) (z.is ∙ ap (more z.tree) e))))) ∙ b.slots other;
          here_first = u.here;
          here_second = v.here;
          here_third = w.here;
          here_fourth = z.here;
          less = omega (arith, b.long, u.long, u.size, v.long, v.size, w.long, w.size, z.long, z.size);
        }

    -- a List by its elements
    pub elements_of : Elements bs t i (i + 1) (i + size_at bs t i) x
    elements_of = record { trees = b.trees; reads = b.reads; row = b.row; less = omega (arith, b.long) }
