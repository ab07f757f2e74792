-- What is known of the children of a node that fits: each lies within it, and a List among them has its elements within it.
use Rattle.std.proofs.Common.{◌≡◌, ℕ, Bool, true, false, not, ◌&&◌, ◌||◌, eqb, ltb, List, [], ◌∷◌, sym, refl, ap, ◌∙◌, arith}
use Rattle.std.proofs.lemmas.Bool.{and_parts, cond-true, cond-false, true≢false}
use Rattle.std.proofs.lemmas.Bool.Decides.{nat_tests}
use Rattle.treefile.specs.declared.trailer.Trailer.{Trailer}
use Rattle.treefile.specs.Records.{kind_at, size_at}
use Rattle.treefile.specs.Slots.{V, G, asks_list, element, single}
use Rattle.treefile.specs.Fits.{end_of, within, children, elements_fit, list_fits, second_absent, bare_arg, takes, slot_fits, slots_fit, Tiled}
use Rattle.treefile.proofs.Verdicts.{neither}

-- a List is an element of no List
pub element_no_list : (letter : ℕ) → element letter 1 ≡ false
element_no_list letter = grind (arith, nat_tests)

-- a List stands in no slot that asks for a single node
pub single_no_list : (letter : ℕ) → single letter 1 ≡ false
single_no_list letter = grind (arith, nat_tests)

module _ (bs : List ℕ) (t : Trailer) where
  -- a child lies within its parent, and a List has its elements within it
  pub record Sorted (end p : ℕ) : Type 0 where
    pub inside : within bs t end p ≡ true
    pub tiled : kind_at bs t p ≡ 1 → Tiled bs t p

  abbrev pub AllSorted : ℕ → List ℕ → Type 0
  AllSorted end [] = Unit {0}
  AllSorted end (p ∷ ps) = Sorted end p × AllSorted end ps

  -- a List that a slot takes has its elements within it
  pub tiled_by : (letter p : ℕ) → takes bs t letter p ≡ true → kind_at bs t p ≡ 1 → Tiled bs t p
  tiled_by letter p h k = by (asks_list letter) refl
    where
      by : (b : Bool) → asks_list letter ≡ b → Tiled bs t p
      by true e =
          let l : list_fits bs t letter p ≡ true = sym (cond-true (asks_list letter) _ _ e) ∙ h in
          let a = and_parts (eqb (kind_at bs t p) 1) _ l in
          let d = and_parts (not (eqb letter G) || ltb 1 (size_at bs t p)) (elements_fit bs t letter (end_of bs t p) (children bs t p)) a.1 in
          record { letter = letter; elements = d.1 }
      by false e =
          let bare : bare_arg bs t p ≡ false = ap (λ (n : ℕ). eqb n 0 || (eqb n 45 && second_absent bs t p)) k in
          let one : single letter (kind_at bs t p) ≡ false = ap (single letter) k ∙ single_no_list letter in
          let none : takes bs t letter p ≡ false =
          cond-false (asks_list letter) _ _ e ∙ neither (eqb letter V) (bare_arg bs t p) (single letter (kind_at bs t p)) bare one in
          absurd (true≢false (sym h ∙ none))

  pub slots_sorted : (letters : List ℕ) (end : ℕ) (ps : List ℕ) → slots_fit bs t letters end ps ≡ true → AllSorted end ps
  slots_sorted [] end [] h = tt
  slots_sorted [] end (p ∷ ps) h = absurd (true≢false (sym h))
  slots_sorted (a ∷ letters) end [] h = absurd (true≢false (sym h))
  slots_sorted (a ∷ letters) end (p ∷ ps) h =
      let q = and_parts (slot_fits bs t a end p) (slots_fit bs t letters end ps) h in
      let w = and_parts (within bs t end p) (takes bs t a p) q.0 in
      (record { inside = w.0; tiled = tiled_by a p w.1 }, slots_sorted letters end ps q.1)

  pub elements_sorted : (letter end : ℕ) (ps : List ℕ) → elements_fit bs t letter end ps ≡ true → AllSorted end ps
  elements_sorted letter end [] h = tt
  elements_sorted letter end (p ∷ ps) h =
      let q = and_parts (within bs t end p && element letter (kind_at bs t p)) (elements_fit bs t letter end ps) h in
      let w = and_parts (within bs t end p) (element letter (kind_at bs t p)) q.0 in (
        record {
          inside = w.0;
          tiled = λ k. absurd (true≢false (sym w.1 ∙ ap (element letter) k ∙ element_no_list letter));
        },
        elements_sorted letter end ps q.1,
      )
