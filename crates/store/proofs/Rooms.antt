-- An entering or a table is refused for want of memory exactly where something does not fit.
use Rattle.std.proofs.Common.{◌≡◌, ℕ, ◌+◌, ◌<◌, ◌≤◌, Bool, true, false, ltb, leb, ◌⊎◌, List, length, Some, None, Option, sym, refl, ap, ◌∙◌, inl, inr, arith}
use Rattle.std.proofs.lemmas.Bool.{and_cases, and_from, and_left, and_parts, and_right, cond-false, le-leb, le-ltb, leb-false, leb-true, lt-leb, lt-ltb, ltb-false, ltb-true}
use Rattle.symbols.specs.declared.fault.Fault.{Fault}
use Rattle.symbols.specs.declared.fault.ScanReason.{ScanReason}
use Rattle.symbols.specs.declared.fault.ScanReason.TheVariants as reason
use Rattle.symbols.specs.declared.table.SymbolTableType.{SymbolTableType}
use Rattle.symbols.specs.declared.usage.SymbolUsage.{SymbolUsage}
use Rattle.store.specs.Enterings.{enter, enter_at, enter_first, enter_new, first_objection, kind_of, stands_at, stands_by}
use Rattle.symbols.specs.Faults.{Spot, fault_number, scan_number}
use Rattle.store.specs.Held.{Held, Room}
use Rattle.store.specs.Rooms.{RefusedForSymbol, RefusedForText, RefusedTable, SymbolLacks, TextFits, TextLacks}
use Rattle.store.specs.Tables.{open_by, open_table}
use Rattle.store.specs.Texts.{Interned, fits_in, interned, interned_by, with_text}
use Rattle.store.proofs.Inversion.{Refusal, interned_cases, no_symbol_fits, no_text, not_some, objected, objected_first, refused_why}
use Rattle.store.proofs.TableOpens.{TableRefusal, no_name, no_table, open_refused}

-- the script's faults have numbers below those of the memory's
scan_below : (r : ScanReason) → scan_number r < 22
scan_below reason.Unsupported = omega arith
scan_below reason.Parameter = omega arith
scan_below reason.Used = omega arith
scan_below reason.Annotated = omega arith
scan_below reason.Assigned = omega arith
scan_below reason.ModuleNonlocal = omega arith
scan_below reason.GlobalNonlocal = omega arith
scan_below reason.IterAssigned = omega arith
scan_below reason.NamedInIterable = omega arith
scan_below reason.NamedInClass = omega arith
scan_below reason.StarOutsideModule = omega arith

module _ (room : Room) (h : Held) (text : List ℕ) where
  -- interning says whether a text fits
  text_lacks : interned room h text ≡ None → TextLacks room h text
  text_lacks =
      interned_cases room h text (λ o. o ≡ None → TextLacks room h text) (λ i a e. not_some _ e) (λ a b e. not_some _ e)
      (λ a b e.
      record {
        new = a;
        full = elim (and_cases (ltb (length h.texts) room.texts) (leb (length h.bytes + length text) room.bytes) b) [
          | inl l ↦ inl (ltb-false (length h.texts) room.texts l)
          | inr l ↦ inr (leb-false (length h.bytes + length text) room.bytes l)
        ];
      })

  lacks_text : TextLacks room h text → interned room h text ≡ None
  lacks_text w =
      let full : fits_in room h text ≡ false =
      elim w.full [
        | inl l ↦ and_left (ltb (length h.texts) room.texts) (leb (length h.bytes + length text) room.bytes) (le-ltb (length h.texts) room.texts l)
        | inr l ↦ and_right (ltb (length h.texts) room.texts) (leb (length h.bytes + length text) room.bytes) (lt-leb (length h.bytes + length text) room.bytes l)
      ] in
      ap (interned_by room h text) w.new ∙ cond-false (fits_in room h text) (Some (record { held = with_text h text; number = length h.texts })) None full

  text_fits : (m : Interned) → interned room h text ≡ Some m → TextFits room h text
  text_fits m =
      interned_cases room h text (λ o. o ≡ Some m → TextFits room h text) (λ i a e n. not_some i (sym a ∙ n))
      (λ a b e n.
      let p = and_parts (ltb (length h.texts) room.texts) (leb (length h.bytes + length text) room.bytes) b in
      (ltb-true (length h.texts) room.texts p.0, leb-true (length h.bytes + length text) room.bytes p.1))
      (λ a b e. not_some m (sym e))

  fits_text : TextFits room h text → (m : Interned) × (interned room h text ≡ Some m)
  fits_text w =
      interned_cases room h text (λ o. (m : Interned) × (o ≡ Some m)) (λ i a. (_, refl)) (λ a b. (_, refl))
      (λ a b.
      let p = w a in
      let t = and_from (ltb (length h.texts) room.texts) (leb (length h.bytes + length text) room.bytes) (lt-ltb (length h.texts) room.texts p.0) (le-leb (length h.bytes + length text) room.bytes p.1) in
      let z : ◌≡◌ {A = Bool} true false = sym t ∙ b in
      absurd (let y : ◌≡◌ {A = ℕ} 0 1 = cc in omega arith))

module _ (room : Room) (h : Held) (t : ℕ) (role : SymbolUsage) (text : List ℕ) (spot : Spot) where
  why_text : (f : Fault) → Refusal room h t role text spot f → fault_number f ≡ 24 → (first_objection role (kind_of h t) ≡ None) × TextLacks room h text
  why_text _ (objected i r a b) n = absurd (omega (arith, scan_below r))
  why_text _ (objected_first r a b) n = absurd (omega (arith, scan_below r))
  why_text _ (no_text a b c) n = (b, text_lacks room h text c)
  why_text _ (no_symbol_fits m a b c l) n = absurd (omega arith)

  why_symbol : (f : Fault) → Refusal room h t role text spot f → fault_number f ≡ 23 → SymbolLacks room h t role text
  why_symbol _ (objected i r a b) n = absurd (omega (arith, scan_below r))
  why_symbol _ (objected_first r a b) n = absurd (omega (arith, scan_below r))
  why_symbol _ (no_text a b c) n = absurd (omega arith)
  why_symbol _ (no_symbol_fits m a b c l) n = record { new = a; allowed = b; fits = text_fits room h text m c; full = l }

  -- a new name against which nothing is said asks for memory
  asks : stands_at h t text ≡ None → first_objection role (kind_of h t) ≡ None → (o : Option Interned) → interned room h text ≡ o → enter room h t role text spot ≡ enter_new room h t role spot o
  unfolding enter
  asks a b o c = ap (enter_at room h t role text spot) a ∙ ap (enter_first room h t role text spot) b ∙ ap (enter_new room h t role spot) c

  pub refused_for_text : RefusedForText room h t role text spot
  refused_for_text =
      record {
        only = λ k f e n. why_text f (refused_why room h t role text spot k f e).1 n;
        always = λ b w. asks (ap (stands_by h t) w.new) b None (lacks_text room h text w);
      }

  pub refused_for_symbol : RefusedForSymbol room h t role text spot
  refused_for_symbol =
      record {
        only = λ k f e n. why_symbol f (refused_why room h t role text spot k f e).1 n;
        always = λ w. let m = fits_text room h text w.fits in asks w.new w.allowed (Some m.0) m.1 ∙ cond-false (ltb (length h.symbols) room.symbols) _ _ (le-ltb (length h.symbols) room.symbols w.full);
      }

module _ (room : Room) (h : Held) (around : Option ℕ) (kind : SymbolTableType) (name : List ℕ) (spot : Spot) where
  why_table : (f : Fault) → TableRefusal room h name spot f → ((fault_number f ≡ 24) × TextLacks room h name) ⊎ ((fault_number f ≡ 22) × TextFits room h name × (room.tables ≤ length h.tables))
  why_table _ (no_name a) = inl (refl, text_lacks room h name a)
  why_table _ (no_table m a l) = inr (refl, text_fits room h name m a, l)

  opens : (o : Option Interned) → interned room h name ≡ o → open_table room h around kind name spot ≡ open_by room h around kind spot o
  unfolding open_table
  opens o c = ap (open_by room h around kind spot) c

  pub refused_table : RefusedTable room h around kind name spot
  refused_table =
      record {
        only = λ k f e. why_table f (open_refused room h around kind name spot k f e).1;
        for_name = λ w. opens None (lacks_text room h name w);
        for_table = λ w l. let m = fits_text room h name w in opens (Some m.0) m.1 ∙ cond-false (ltb (length h.tables) room.tables) _ _ (le-ltb (length h.tables) room.tables l);
      }
