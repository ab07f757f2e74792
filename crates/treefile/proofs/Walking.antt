-- How a walk over a tree that stands in a file goes from place to place.
use Rattle.std.proofs.Common.{◌≡◌, ℕ, zero, suc, ◌+◌, ◌<◌, ◌≤◌, List, [], ◌∷◌, ◌++◌, length, get_or, sym, refl, ap, ◌∙◌, subst, arith}
use Rattle.std.proofs.lemmas.List.{length-append}
use Rattle.treefile.specs.declared.trailer.Trailer.{Trailer}
use Rattle.treefile.specs.Records.{kind_at, size_at}
use Rattle.treefile.specs.Fits.{end_of, kids, children}
use Rattle.treefile.specs.Trees.{Label, Tree, node, Trees, none, more, Entry, tree_records, trees_records, kind_of}
use Rattle.treefile.proofs.Steps.{kids_none, kids_more}
use Rattle.treefile.specs.Spelling.{label_at, records_from, StandsAt, RowAt}

-- the places of trees that stand one after the other
abbrev pub places : ℕ → Trees → List ℕ
places pos none = []
places pos (more x xs) = pos ∷ places (pos + length (tree_records x)) xs

-- two lists with fronts of one length are the same in front and behind
append_same : (a b xs ys : List Entry) → length a ≡ length b → a ++ xs ≡ b ++ ys → (a ≡ b) × (xs ≡ ys)
append_same [] [] xs ys n e = (refl, e)
append_same [] (y ∷ b) xs ys n e = absurd (omega (arith, n))
append_same (x ∷ a) [] xs ys n e = absurd (omega (arith, n))
append_same (x ∷ a) (y ∷ b) xs ys n e =
    let head : x ≡ y = cc in
    let tail : a ++ xs ≡ b ++ ys = cc in
    let rest = append_same a b xs ys (omega (arith, n)) tail in
    (ap (λ (z : Entry). z ∷ a) head ∙ ap (λ (z : List Entry). y ∷ z) rest.0, rest.1)

module _ (bs : List ℕ) (t : Trailer) where
  pub from_length : (i n : ℕ) → length (records_from bs t i n) ≡ n
  from_length i zero = refl
  from_length i (suc n) = ap suc (from_length (i + 1) n)

  -- some records, and then the rest
  pub from_split : (i m n : ℕ) → records_from bs t i (m + n) ≡ records_from bs t i m ++ records_from bs t (i + m) n
  from_split i zero n =
      let e : zero + n ≡ n = omega arith in
      let f : i ≡ i + zero = omega arith in
      ap (records_from bs t i) e ∙ ap (λ (k : ℕ). records_from bs t k n) f
  from_split i (suc m) n =
      let e : suc m + n ≡ suc (m + n) = omega arith in
      let f : i + 1 + m ≡ i + suc m = omega arith in
      let here : Entry = record { label = label_at bs t i; size = size_at bs t i } in
      ap (records_from bs t i) e
      ∙ ap (λ (r : List Entry). here ∷ r) (from_split (i + 1) m n)
      ∙ ap (λ (k : ℕ). here ∷ (records_from bs t (i + 1) m ++ records_from bs t k n)) f

-- a tree that stands at a place: what its record says, and its children after it
pub record Inside (bs : List ℕ) (t : Trailer) (i : ℕ) (l : Label) (ts : Trees) : Type 0 where
  pub label : label_at bs t i ≡ l
  pub size : size_at bs t i ≡ length (trees_records ts) + 1
  pub row : RowAt bs t (i + 1) ts
  pub ends : end_of bs t i ≡ i + length (tree_records (node l ts))

-- the first of a row of trees, and the row after it
pub record FirstOf (bs : List ℕ) (t : Trailer) (pos : ℕ) (x : Tree) (xs : Trees) : Type 0 where
  pub first : StandsAt bs t pos x
  pub size : size_at bs t pos ≡ length (tree_records x)
  pub some : 1 ≤ size_at bs t pos
  pub kind : kind_at bs t pos ≡ kind_of x
  pub rest : RowAt bs t (end_of bs t pos) xs
  pub next : RowAt bs t (pos + length (tree_records x)) xs
  pub ends : pos + length (trees_records (more x xs)) ≡ end_of bs t pos + length (trees_records xs)

module _ (bs : List ℕ) (t : Trailer) where
  pub inside : (i : ℕ) (l : Label) (ts : Trees) → StandsAt bs t i (node l ts) → Inside bs t i l ts
  inside i l ts s =
      let here : Entry = record { label = label_at bs t i; size = size_at bs t i } in
      let there : Entry = record { label = l; size = length (trees_records ts) + 1 } in
      let below : List Entry = records_from bs t (i + 1) (length (trees_records ts)) in
      let e : here ∷ below ≡ there ∷ trees_records ts = s.records in
      let head : here ≡ there = cc in
      let tail : below ≡ trees_records ts = cc in
      let size : size_at bs t i ≡ length (trees_records ts) + 1 = ap (λ (a : Entry). a.size) head in
      record {
        label = ap (λ (a : Entry). a.label) head;
        size = size;
        row = record { records = tail };
        ends = omega (arith, size);
      }

  -- the records of a node with its children
  pub stands_node :
      (i : ℕ) (l : Label) (ts : Trees) → label_at bs t i ≡ l → size_at bs t i ≡ length (trees_records ts) + 1 →
      RowAt bs t (i + 1) ts → StandsAt bs t i (node l ts)
  stands_node i l ts label size row =
      let front : ◌≡◌ {A = Entry} (record { label = label_at bs t i; size = size_at bs t i }) (record { label = l; size = length (trees_records ts) + 1 }) =
      λ j. record { label = label j; size = size j } in
      record {
        records = ap (λ (a : Entry). a ∷ records_from bs t (i + 1) (length (trees_records ts))) front
            ∙ ap (λ (r : List Entry). record { label = l; size = length (trees_records ts) + 1 } ∷ r) row.records;
      }

  pub stands_size : (i : ℕ) (x : Tree) → StandsAt bs t i x → size_at bs t i ≡ length (tree_records x)
  stands_size i (node l ts) s = omega (arith, (inside i l ts s).size)

  pub stands_some : (i : ℕ) (x : Tree) → StandsAt bs t i x → 1 ≤ size_at bs t i
  stands_some i (node l ts) s = omega (arith, (inside i l ts s).size)

  pub stands_kind : (i : ℕ) (x : Tree) → StandsAt bs t i x → kind_at bs t i ≡ kind_of x
  stands_kind i (node l ts) s = ap (λ (a : Label). a.kind) (inside i l ts s).label

  -- a row by its first tree
  row_split :
      (pos : ℕ) (x : Tree) (xs : Trees) → RowAt bs t pos (more x xs) →
      StandsAt bs t pos x × RowAt bs t (pos + length (tree_records x)) xs
  row_split pos x xs r =
      let n = length-append (tree_records x) (trees_records xs) in
      let front = records_from bs t pos (length (tree_records x)) in
      let back = records_from bs t (pos + length (tree_records x)) (length (trees_records xs)) in
      let whole : front ++ back ≡ tree_records x ++ trees_records xs =
      sym (from_split bs t pos (length (tree_records x)) (length (trees_records xs)))
      ∙ ap (records_from bs t pos) (sym n) ∙ r.records in
      let both = append_same front (tree_records x) back (trees_records xs) (from_length bs t pos (length (tree_records x))) whole in
      (record { records = both.0 }, record { records = both.1 })

  pub row_first : (pos : ℕ) (x : Tree) (xs : Trees) → RowAt bs t pos (more x xs) → FirstOf bs t pos x xs
  row_first pos x xs r =
      let both = row_split pos x xs r in
      let long = stands_size pos x both.0 in
      let n = length-append (tree_records x) (trees_records xs) in
      record {
        first = both.0;
        size = long;
        some = stands_some pos x both.0;
        kind = stands_kind pos x both.0;
        rest = subst (λ (k : ℕ). RowAt bs t (pos + k) xs) (sym long) both.1;
        next = both.1;
        ends = omega (arith, long, n);
      }

  -- a tree, and a row after it
  pub row_more :
      (pos : ℕ) (x : Tree) (xs : Trees) → StandsAt bs t pos x → RowAt bs t (end_of bs t pos) xs →
      RowAt bs t pos (more x xs)
  row_more pos x xs s r =
      let long = stands_size pos x s in
      let n = length-append (tree_records x) (trees_records xs) in
      let next : RowAt bs t (pos + length (tree_records x)) xs = subst (λ (k : ℕ). RowAt bs t (pos + k) xs) long r in
      record {
        records = ap (records_from bs t pos) n
            ∙ from_split bs t pos (length (tree_records x)) (length (trees_records xs))
            ∙ ap (λ (a : List Entry). a ++ records_from bs t (pos + length (tree_records x)) (length (trees_records xs))) s.records
            ∙ ap (λ (a : List Entry). tree_records x ++ a) next.records;
      }

  -- the nodes from a place to where a row ends are its trees' places
  pub kids_places :
      (n pos end : ℕ) (xs : Trees) → RowAt bs t pos xs → pos + length (trees_records xs) ≡ end →
      length (trees_records xs) ≤ n → kids bs t n pos end ≡ places pos xs
  kids_places n pos end none r e h = kids_none bs t n pos end (omega (arith, e))
  kids_places zero pos end (more x xs) r e h =
      let f = row_first pos x xs r in
      absurd (omega (arith, f.some, f.ends, h))
  kids_places (suc n) pos end (more x xs) r e h =
      let f = row_first pos x xs r in
      let next = kids_places n (end_of bs t pos) end xs f.rest (sym f.ends ∙ e) (omega (arith, f.some, f.ends, h)) in
      kids_more bs t n pos end (omega (arith, f.some, f.ends, e))
      ∙ ap (λ (ps : List ℕ). pos ∷ ps) next
      ∙ ap (λ (k : ℕ). pos ∷ places (pos + k) xs) f.size

  -- the children of a node that stands are its subtrees' places
  pub children_places :
      (i : ℕ) (l : Label) (ts : Trees) → StandsAt bs t i (node l ts) → children bs t i ≡ places (i + 1) ts
  children_places i l ts s =
      let p = inside i l ts s in
      kids_places (size_at bs t i) (i + 1) (end_of bs t i) ts p.row (omega (arith, p.size)) (omega (arith, p.size))

  -- a tree of the row below a node is smaller than the node
  pub smaller :
      (i pos : ℕ) (x : Tree) (xs : Trees) → RowAt bs t pos (more x xs) → i < pos →
      pos + length (trees_records (more x xs)) ≡ end_of bs t i → size_at bs t pos < size_at bs t i
  smaller i pos x xs r h e =
      let f = row_first pos x xs r in
      omega (arith, f.ends, h, e)

  places_small :
      (pos : ℕ) (xs : Trees) → RowAt bs t pos xs → (k : ℕ) → k < length (places pos xs) →
      size_at bs t (get_or (places pos xs) k 0) ≤ length (trees_records xs)
  places_small pos none r k h = absurd (omega (arith, h))
  places_small pos (more x xs) r zero h =
      let f = row_first pos x xs r in
      omega (arith, f.ends)
  places_small pos (more x xs) r (suc k) h =
      let f = row_first pos x xs r in
      omega (arith, f.ends, places_small (pos + length (tree_records x)) xs f.next k (omega (arith, h)))

  -- each child of a node that stands is smaller than the node
  pub child_smaller :
      (i : ℕ) (x : Tree) → StandsAt bs t i x → (k : ℕ) → k < length (children bs t i) →
      size_at bs t (get_or (children bs t i) k 0) < size_at bs t i
  child_smaller i (node l ts) s k h =
      let p = inside i l ts s in
      let e = children_places i l ts s in
      let long : k < length (places (i + 1) ts) = subst (λ (ps : List ℕ). k < length ps) e h in
      let small : size_at bs t (get_or (places (i + 1) ts) k 0) < size_at bs t i =
      omega (arith, p.size, places_small (i + 1) ts p.row k long) in
      subst (λ (ps : List ℕ). size_at bs t (get_or ps k 0) < size_at bs t i) (sym e) small
