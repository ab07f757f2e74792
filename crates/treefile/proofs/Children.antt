-- The children of a node: those of a node that fits stand within it, behind it.
use Rattle.std.proofs.Common.{◌≡◌, ℕ, zero, suc, ◌+◌, ◌-◌, ◌<◌, ◌≤◌, Bool, true, false, ◌&&◌, eqb, ltb, List, [], ◌∷◌, map, length, sym, refl, ap, ◌∙◌, subst, ⊎_elim, arith}
use Rattle.std.proofs.lemmas.Bool.{cases_eq, cases_lt, cond-false, ne_eqb, and_left, lt-ltb, le-ltb}
use Rattle.treefile.specs.declared.trailer.Trailer.{Trailer}
use Rattle.treefile.specs.Records.{kind_at, size_at}
use Rattle.treefile.specs.Slots.{columns, letter}
use Rattle.treefile.specs.declared.slot.Slot.{Slot}
use Rattle.treefile.specs.Fits.{Place, place, child_places, end_of, within, kids, children, slot_fits, slots_fit, fits, second_absent, Stands, Tiled}
use Rattle.treefile.proofs.Steps.{lies_within, kids_none, kids_more, kids_first, kids_end, no_place, next_place}
use Rattle.treefile.proofs.Verdicts.{and_true}
use Rattle.std.proofs.lemmas.Bool.Decides.{nat_tests}
use Rattle.std.proofs.lemmas.Grind.{common_steps}
use Rattle.treefile.proofs.Sorts.{Sorted, AllSorted, slots_sorted, elements_sorted}

module _ (bs : List ℕ) (t : Trailer) (i : ℕ) where
  -- a node that is no List is tested by its slots
  pub fits_slots : (kind_at bs t i ≡ 1 → ⊥) → fits bs t i ≡ slots_fit bs t (columns (kind_at bs t i)) (end_of bs t i) (children bs t i)
  fits_slots n = cond-false (eqb (kind_at bs t i) 1) _ _ (ne_eqb (kind_at bs t i) 1 n)

  -- the children of a node that fits
  pub children_sorted : fits bs t i ≡ true → (kind_at bs t i ≡ 1 → Tiled bs t i) → AllSorted bs t (end_of bs t i) (children bs t i)
  children_sorted f l =
      ⊎_elim (λ (k : kind_at bs t i ≡ 1). let d = l k in elements_sorted bs t d.letter (end_of bs t i) (children bs t i) d.elements)
      (λ (n : kind_at bs t i ≡ 1 → ⊥).
      slots_sorted bs t (columns (kind_at bs t i)) (end_of bs t i) (children bs t i) (sym (fits_slots n) ∙ f))
      (cases_eq (kind_at bs t i) 1)

  -- each of them stands among the records and is smaller than i, and a List among them has its elements within it
  pub record Under (p : ℕ) : Type 0 where
    pub stands : Stands bs t p
    pub smaller : size_at bs t p < size_at bs t i
    pub tiled : kind_at bs t p ≡ 1 → Tiled bs t p

  abbrev pub AllUnder : List ℕ → Type 0
  AllUnder [] = Unit {0}
  AllUnder (p ∷ ps) = Under p × AllUnder ps

  module _ (s : Stands bs t i) where
    one_under : (p : ℕ) → i < p → Sorted bs t (end_of bs t i) p → Under p
    one_under p h o =
        let q = lies_within bs t (end_of bs t i) p o.inside in
        record {
          stands = record { framed = s.framed; some = q.0; within = omega (arith, q.1, s.within) };
          smaller = omega (arith, q.1);
          tiled = o.tiled;
        }

    all_under : (n pos : ℕ) → i < pos → AllSorted bs t (end_of bs t i) (kids bs t n pos (end_of bs t i)) → AllUnder (kids bs t n pos (end_of bs t i))
    all_under zero pos h a = tt
    all_under (suc n) pos h a =
        ⊎_elim
        (λ (l : pos < end_of bs t i).
        let e = kids_more bs t n pos (end_of bs t i) l in
        let b : Sorted bs t (end_of bs t i) pos × AllSorted bs t (end_of bs t i) (kids bs t n (end_of bs t pos) (end_of bs t i)) = subst (AllSorted bs t (end_of bs t i)) e a in
        subst AllUnder (sym e) (one_under pos h b.0, all_under n (end_of bs t pos) (omega (arith, h)) b.1))
        (λ (g : end_of bs t i ≤ pos). subst AllUnder (sym (kids_none bs t (suc n) pos (end_of bs t i) g)) tt)
        (cases_lt pos (end_of bs t i))

    pub children_under : fits bs t i ≡ true → (kind_at bs t i ≡ 1 → Tiled bs t i) → AllUnder (children bs t i)
    children_under f l = all_under (size_at bs t i) (i + 1) (omega arith) (children_sorted f l)

    -- the second child is Absent, where there are two; and where there are not, none is
    pub second_of : (q r : ℕ) (ps : List ℕ) → children bs t i ≡ q ∷ r ∷ ps → second_absent bs t i ≡ (within bs t (end_of bs t i) q && eqb (kind_at bs t r) 0)
    second_of q r ps e =
        let a = kids_first bs t (size_at bs t i) (i + 1) (end_of bs t i) q (r ∷ ps) e in
        let b = kids_first bs t a.fewer (end_of bs t (i + 1)) (end_of bs t i) r ps (sym a.rest) in
        and_true (ltb (i + 1) (end_of bs t i)) _ (lt-ltb _ _ a.inside)
        ∙ ap (λ (x : Bool). within bs t (end_of bs t i) (i + 1) && x) (and_true (ltb (end_of bs t (i + 1)) (end_of bs t i)) _ (lt-ltb _ _ b.inside))
        ∙ ap (λ (n : ℕ). within bs t (end_of bs t i) n && eqb (kind_at bs t (end_of bs t (i + 1))) 0) (sym a.first)
        ∙ ap (λ (n : ℕ). within bs t (end_of bs t i) q && eqb (kind_at bs t n) 0) (sym b.first)

    pub second_of_one : (q : ℕ) → children bs t i ≡ q ∷ [] → second_absent bs t i ≡ false
    second_of_one q e =
        let a = kids_first bs t (size_at bs t i) (i + 1) (end_of bs t i) q [] e in
        let n : a.fewer ≡ suc (a.fewer - 1) = omega (arith, a.some, a.inside) in
        let g = kids_end bs t (a.fewer - 1) (end_of bs t (i + 1)) (end_of bs t i) (sym (ap (λ (m : ℕ). kids bs t m (end_of bs t (i + 1)) (end_of bs t i)) n) ∙ sym a.rest) in
        let none : (ltb (end_of bs t (i + 1)) (end_of bs t i) && eqb (kind_at bs t (end_of bs t (i + 1))) 0) ≡ false = and_left _ _ (le-ltb _ _ g) in
        ap (λ (x : Bool). ltb (i + 1) (end_of bs t i) && (within bs t (end_of bs t i) (i + 1) && x)) none
        ∙ grind (arith, common_steps)

-- a child against the slots that are left
module _ (bs : List ℕ) (t : Trailer) (end : ℕ) where
  pub slots_more : (s r : List Slot) (a : Slot) (ps : List ℕ) (p : ℕ) (rest : List ℕ) (w : Bool) → s ≡ a ∷ r → ps ≡ p ∷ rest → true ≡ slot_fits bs t (letter a) end p → slots_fit bs t (map letter s) end ps ≡ w → slots_fit bs t (map letter r) end rest ≡ w
  slots_more s r a ps p rest w e f h k =
      sym (and_true (slot_fits bs t (letter a) end p) (slots_fit bs t (map letter r) end rest) (sym h))
      ∙ ap (λ (x : List Slot). slots_fit bs t (map letter x) end (p ∷ rest)) (sym e)
      ∙ ap (slots_fit bs t (map letter s) end) (sym f) ∙ k

  -- no child is left: the slots fit where none of them is left
  pub slots_end : (s : List Slot) → eqb (length s) 0 ≡ slots_fit bs t (map letter s) end []
  slots_end [] = refl
  slots_end (a ∷ s) = grind (arith, nat_tests)

-- the same of what two steps over the children give
pub second_test : (bs : List ℕ) (t : Trailer) (i : ℕ) → Stands bs t i → (q r : Place) (qs rs : List Place) → q ∷ qs ≡ child_places bs t i → r ∷ rs ≡ qs → second_absent bs t i ≡ (within q.file q.trailer (end_of bs t i) q.node && eqb (kind_at r.file r.trailer r.node) 0)
second_test bs t i s q r qs rs e f =
    let n = next_place bs t (children bs t i) q qs e in
    let m = next_place bs t n.rest r rs (f ∙ n.left) in
    second_of bs t i s n.number m.number m.rest (n.split ∙ ap (λ (ps : List ℕ). n.number ∷ ps) m.split)
    ∙ ap (λ (x : Place). within x.file x.trailer (end_of bs t i) x.node && eqb (kind_at bs t m.number) 0) (sym n.here)
    ∙ ap (λ (x : Place). within q.file q.trailer (end_of bs t i) q.node && eqb (kind_at x.file x.trailer x.node) 0) (sym m.here)

pub second_test_lacks : (bs : List ℕ) (t : Trailer) (i : ℕ) → Stands bs t i → (q : Place) (qs : List Place) → q ∷ qs ≡ child_places bs t i → qs ≡ [] → second_absent bs t i ≡ false
second_test_lacks bs t i s q qs e f =
    let n = next_place bs t (children bs t i) q qs e in
    second_of_one bs t i s n.number (n.split ∙ ap (λ (ps : List ℕ). n.number ∷ ps) (no_place bs t n.rest (sym f ∙ n.left)))

-- a child, as a node of its file
pub record UnderAt (bs : List ℕ) (t : Trailer) (i : ℕ) (q : Place) : Type 0 where
  pub stands : Stands q.file q.trailer q.node
  pub smaller : size_at q.file q.trailer q.node < size_at bs t i
  pub tiled : kind_at q.file q.trailer q.node ≡ 1 → Tiled q.file q.trailer q.node

pub under_next : (bs : List ℕ) (t : Trailer) (i : ℕ) {ps : List ℕ} {p : ℕ} {rest : List ℕ} {q : Place} → ps ≡ p ∷ rest → q ≡ place bs t p → AllUnder bs t i ps → UnderAt bs t i q × AllUnder bs t i rest
under_next bs t i {p = p} {rest = rest} split here all =
    let both : Under bs t i p × AllUnder bs t i rest = subst (AllUnder bs t i) split all in
    (subst (UnderAt bs t i) (sym here) (record { stands = both.0.stands; smaller = both.0.smaller; tiled = both.0.tiled }), both.1)
