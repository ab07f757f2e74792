-- What a file that passes is known to have, and where the check of one that does not comes to its end.
use Rattle.std.proofs.Common.{◌≡◌, ℕ, ◌<◌, Bool, true, false, cond, ltb, List, length, is_ok, Some, None, Ok, Err, Option, Result, sym, refl, ap, ◌∙◌, subst, arith}
use Rattle.std.proofs.lemmas.Bool.Decides.{nat_tests}
use Rattle.treefile.specs.declared.fault.Refusal.{Refusal}
use Rattle.treefile.specs.declared.fault.TreeReason.{TreeReason}
use Rattle.treefile.specs.declared.fault.TreeReason.TheVariants.{Frame, Counts}
use Rattle.treefile.specs.declared.trailer.Trailer.{Trailer}
use Rattle.treefile.specs.Faults.{Verdict, fault_of}
use Rattle.treefile.specs.First.{refused_at, and_then}
use Rattle.treefile.specs.Trailer.{trailer_of, misframed, miscounted, trailer_check, Framed}
use Rattle.treefile.specs.Names.{name_ok, names_check}
use Rattle.treefile.specs.Records.{record_ok, records_check}
use Rattle.treefile.specs.Fits.{tree_check}
use Rattle.treefile.specs.Checked.{keep, framed_check, file_check}
use Rattle.treefile.proofs.Firsts.{all_ok}
use Rattle.treefile.proofs.Verdicts.{never, then_ok}

not_err : (b : Bool) (e : Refusal TreeReason) (x : Result Trailer (Refusal TreeReason)) (t : Trailer) → cond b (Err e) x ≡ Ok t → (b ≡ false) × (x ≡ Ok t)
not_err true e x t h = never e t h
not_err false e x t h = (refl, h)

same_ok : (t u : Trailer) → ◌≡◌ {A = Result Trailer (Refusal TreeReason)} (Ok t) (Ok u) → t ≡ u
same_ok t u h = cc

framed_read : (bs : List ℕ) → ltb (length bs) 20 ≡ false → misframed bs (trailer_of bs) ≡ false → miscounted (trailer_of bs) ≡ false → Framed bs (trailer_of bs)
framed_read bs a b c =
    record {
      records = grind (arith, nat_tests);
      index = grind (arith, nat_tests);
      some = grind (arith, nat_tests);
      few = grind (arith, nat_tests);
      few_names = grind (arith, nat_tests);
    }

-- a trailer that passes is the one at the end of the file, and it frames what it says
pub trailer_sound : (bs : List ℕ) (t : Trailer) → trailer_check bs ≡ Ok t → (t ≡ trailer_of bs) × Framed bs t
trailer_sound bs t h =
    let x = not_err _ (fault_of Frame 0 0) _ t h in
    let y = not_err _ (fault_of Frame 0 0) _ t x.1 in
    let z = not_err _ (fault_of Counts 0 0) _ t y.1 in
    let e = same_ok (trailer_of bs) t z.1 in
    (sym e, subst (Framed bs) e (framed_read bs x.0 y.0 z.0))

keep_ok : (u t : Trailer) (v : Verdict) → keep u v ≡ Ok t → (u ≡ t) × (v ≡ Ok tt)
keep_ok u t (Ok x) h = (same_ok u t h, refl)
keep_ok u t (Err e) h = never e t h

refused_none : (fault : ℕ → Refusal TreeReason) (o : Option ℕ) → refused_at fault o ≡ Ok tt → o ≡ None
refused_none fault None h = refl
refused_none fault (Some i) h = never _ tt h

-- each name of an index without fault is in order
pub names_sound : (bs : List ℕ) (t : Trailer) → names_check bs t ≡ Ok tt → (k : ℕ) → k < t.name_count → name_ok bs t k ≡ true
names_sound bs t h = all_ok (name_ok bs t) t.name_count (refused_none _ _ h)

-- and each record
pub records_sound : (bs : List ℕ) (t : Trailer) → records_check bs t ≡ Ok tt → (k : ℕ) → k < t.record_count → record_ok bs t k ≡ true
records_sound bs t h = all_ok (record_ok bs t) t.record_count (refused_none _ _ h)

-- a file that passes
pub record Sound (bs : List ℕ) (t : Trailer) : Type 0 where
  pub same : t ≡ trailer_of bs
  pub framed : Framed bs t
  pub names : (k : ℕ) → k < t.name_count → name_ok bs t k ≡ true
  pub records : (k : ℕ) → k < t.record_count → record_ok bs t k ≡ true
  pub tree : tree_check bs t ≡ Ok tt

framed_ok : (bs : List ℕ) (t : Trailer) (r : Result Trailer (Refusal TreeReason)) → framed_check bs r ≡ Ok t → (r ≡ Ok t) × (and_then (names_check bs t) (and_then (records_check bs t) (tree_check bs t)) ≡ Ok tt)
framed_ok bs t (Err e) h = never e t h
framed_ok bs t (Ok u) h =
    let k = keep_ok u t _ h in
    (ap Ok k.0, subst (λ (w : Trailer). and_then (names_check bs w) (and_then (records_check bs w) (tree_check bs w)) ≡ Ok tt) k.0 k.1)

pub sound : (bs : List ℕ) (t : Trailer) → file_check bs ≡ Ok t → Sound bs t
unfolding file_check
sound bs t h =
    let a = framed_ok bs t (trailer_check bs) h in
    let f = trailer_sound bs t a.0 in
    let n = then_ok (names_check bs t) _ a.1 in
    let r = then_ok (records_check bs t) (tree_check bs t) n.1 in
    record {
      same = f.0;
      framed = f.1;
      names = names_sound bs t n.0;
      records = records_sound bs t r.0;
      tree = r.1;
    }

ok_some : (r : Result Trailer (Refusal TreeReason)) → is_ok r ≡ true → (t : Trailer) × (r ≡ Ok t)
ok_some (Ok t) h = (t, refl)
ok_some (Err e) h = let z : ◌≡◌ {A = ℕ} 0 1 = cc in absurd (omega arith)

-- the same from what a checked tree keeps
pub sound_kept : (bs : List ℕ) (t : Trailer) → is_ok (file_check bs) ≡ true → t ≡ trailer_of bs → Sound bs t
sound_kept bs t k e =
    let p = ok_some (file_check bs) k in
    let s = sound bs p.0 p.1 in
    subst (Sound bs) (s.same ∙ sym e) s

-- where the check ends: each exit is the answer of the whole
module _ (bs : List ℕ) where
  pub ends_at_trailer : (e : Refusal TreeReason) → Err e ≡ trailer_check bs → Err e ≡ file_check bs
  unfolding file_check
  ends_at_trailer e h = ap (framed_check bs) h

  module _ (t : Trailer) (h : Ok t ≡ trailer_check bs) where
    framed : keep t (and_then (names_check bs t) (and_then (records_check bs t) (tree_check bs t))) ≡ file_check bs
    unfolding file_check
    framed = ap (framed_check bs) h

    pub ends_at_names : (e : Refusal TreeReason) → Err e ≡ names_check bs t → Err e ≡ file_check bs
    ends_at_names e n = ap (λ (v : Verdict). keep t (and_then v (and_then (records_check bs t) (tree_check bs t)))) n ∙ framed

    module _ (n : Ok tt ≡ names_check bs t) where
      named : keep t (and_then (records_check bs t) (tree_check bs t)) ≡ file_check bs
      named = ap (λ (v : Verdict). keep t (and_then v (and_then (records_check bs t) (tree_check bs t)))) n ∙ framed

      pub ends_at_records : (e : Refusal TreeReason) → Err e ≡ records_check bs t → Err e ≡ file_check bs
      ends_at_records e r = ap (λ (v : Verdict). keep t (and_then v (tree_check bs t))) r ∙ named

      module _ (r : Ok tt ≡ records_check bs t) where
        recorded : keep t (tree_check bs t) ≡ file_check bs
        recorded = ap (λ (v : Verdict). keep t (and_then v (tree_check bs t))) r ∙ named

        pub ends_at_tree : (e : Refusal TreeReason) → Err e ≡ tree_check bs t → Err e ≡ file_check bs
        ends_at_tree e d = ap (keep t) d ∙ recorded

        pub ends_well : Ok tt ≡ tree_check bs t → Ok t ≡ file_check bs
        ends_well d = ap (keep t) d ∙ recorded
