-- The nodes that stand one after the other, step by step.
use Rattle.std.proofs.Common.{◌≡◌, ℕ, zero, suc, ◌<◌, ◌≤◌, Bool, true, ltb, leb, List, [], ◌∷◌, map, refl, ap, sym, ◌∙◌, subst, ⊎_elim}
use Rattle.std.proofs.lemmas.Bool.{cond-true, cond-false, cases_lt, lt-ltb, le-ltb, leb-true, and_parts}
use Rattle.treefile.specs.declared.trailer.Trailer.{Trailer}
use Rattle.treefile.specs.Records.{size_at}
use Rattle.treefile.specs.Fits.{end_of, within, kids, Place, place}

module _ (bs : List ℕ) (t : Trailer) where
  -- a node that lies within an end has a size, and ends there or before
  pub lies_within : (end p : ℕ) → within bs t end p ≡ true → (1 ≤ size_at bs t p) × (end_of bs t p ≤ end)
  lies_within end p e =
      let q = and_parts (leb 1 (size_at bs t p)) (leb (end_of bs t p) end) e in
      (leb-true _ _ q.0, leb-true _ _ q.1)

  -- the nodes from a place to an end: none, or one and the rest
  pub kids_none : (n pos end : ℕ) → end ≤ pos → kids bs t n pos end ≡ []
  kids_none zero pos end h = refl
  kids_none (suc n) pos end h = cond-false (ltb pos end) _ _ (le-ltb pos end h)

  pub kids_more : (n pos end : ℕ) → pos < end → kids bs t (suc n) pos end ≡ pos ∷ kids bs t n (end_of bs t pos) end
  kids_more n pos end h = cond-true (ltb pos end) _ _ (lt-ltb pos end h)

  -- nodes from a place on: the first, and the rest from its end
  pub record From (n pos end q : ℕ) (qs : List ℕ) : Type 0 where
    pub fewer : ℕ
    pub some : n ≡ suc fewer
    pub inside : pos < end
    pub first : q ≡ pos
    pub rest : qs ≡ kids bs t fewer (end_of bs t pos) end

  pub kids_first : (n pos end q : ℕ) (qs : List ℕ) → kids bs t n pos end ≡ q ∷ qs → From n pos end q qs
  kids_first zero pos end q qs e = absurd cc
  kids_first (suc n) pos end q qs e =
      ⊎_elim
      (λ (l : pos < end).
      let f : pos ∷ kids bs t n (end_of bs t pos) end ≡ q ∷ qs = sym (kids_more n pos end l) ∙ e in
      record { fewer = n; some = refl; inside = l; first = cc; rest = cc })
      (λ (g : end ≤ pos). let f : [] ≡ q ∷ qs = sym (kids_none (suc n) pos end g) ∙ e in absurd cc)
      (cases_lt pos end)

  pub kids_end : (n pos end : ℕ) → kids bs t (suc n) pos end ≡ [] → end ≤ pos
  kids_end n pos end e =
      ⊎_elim
      (λ (l : pos < end).
      let f : ◌≡◌ {A = List ℕ} (pos ∷ kids bs t n (end_of bs t pos) end) [] = sym (kids_more n pos end l) ∙ e in absurd cc)
      (λ (g : end ≤ pos). g)
      (cases_lt pos end)

  -- what an iterator has left, `qs`, are nodes of the file, and a fact holds of their numbers
  pub record Left (qs : List Place) (fact : List ℕ → Type 0) : Type 0 where
    pub numbers : List ℕ
    pub left : qs ≡ map (place bs t) numbers
    pub known : fact numbers

  -- it is at its end, or gives the first of them and has the rest left
  pub no_place : (ps : List ℕ) → ◌≡◌ {A = List Place} [] (map (place bs t) ps) → ps ≡ []
  no_place [] e = refl
  no_place (p ∷ ps) e = absurd cc

  pub record Next (ps : List ℕ) (q : Place) (qs : List Place) : Type 0 where
    pub number : ℕ
    pub rest : List ℕ
    pub split : ps ≡ number ∷ rest
    pub here : q ≡ place bs t number
    pub left : qs ≡ map (place bs t) rest

  pub next_place : (ps : List ℕ) (q : Place) (qs : List Place) → q ∷ qs ≡ map (place bs t) ps → Next ps q qs
  next_place [] q qs e = absurd cc
  next_place (p ∷ ps) q qs e = record { number = p; rest = ps; split = refl; here = cc; left = cc }

  -- a test of a place, said of its number
  pub at_place : (P : List ℕ → Trailer → ℕ → ℕ → Bool) (q : Place) (p z end : ℕ) (b : Bool) → q ≡ place bs t p → z ≡ end → b ≡ P q.file q.trailer z q.node → b ≡ P bs t end p
  at_place P q p z end b e f h = h ∙ ap (λ (r : Place). P r.file r.trailer z r.node) e ∙ ap (λ (y : ℕ). P bs t y p) f

  module _ {qs : List Place} {fact : List ℕ → Type 0} (x : Left qs fact) where
    pub left_end : qs ≡ [] → fact []
    left_end e = subst fact (no_place x.numbers (sym e ∙ x.left)) x.known

    pub left_next : {q : Place} {rs : List Place} → qs ≡ q ∷ rs → Next x.numbers q rs
    left_next e = next_place x.numbers _ _ (sym e ∙ x.left)
