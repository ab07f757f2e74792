-- A name that its table has, entered once more, over what is held.
use Rattle.std.proofs.Common.{◌≡◌, ℕ, map, get_or, set, Some, None, Ok, Err, Option, sym, refl, ap, ◌∙◌, subst, arith}
use Rattle.std.specs.List.{slice_get}
use Rattle.std.proofs.lemmas.List.{get_or-map, map-set, set-get_or}
use Rattle.std.proofs.lemmas.Option.{get_or_from_slice_get, slice_get_within}
use Rattle.ordered.specs.declared.table.Ordered.{Ordered}
use Rattle.ordered.specs.Records.{listed, Replaced}
use Rattle.symbols.specs.declared.fault.Fault.TheVariants.{Scan}
use Rattle.symbols.specs.declared.fault.ScanReason.{ScanReason}
use Rattle.store.specs.declared.memory.Memory.{Memory}
use Rattle.store.specs.declared.record.SymbolRecord.{SymbolRecord}
use Rattle.symbols.specs.declared.usage.SymbolUsage.{SymbolUsage}
use Rattle.store.specs.Enterings.{again, enter_again, no_symbol, objection}
use Rattle.symbols.specs.Faults.{Refusal, Spot, judged}
use Rattle.store.specs.Memory.{Leaves, Does, held, marks, mark_in, symbol_in}
use Rattle.store.proofs.Frames.{longer_is, same_refl, same_replaced, keeps_refl}
use Rattle.store.proofs.Never.{apart}

-- a test that refuses does so for a reason
refused_by : (o : Option ScanReason) (spot : Spot) (f : Refusal ScanReason) (m : Memory) (i : ℕ) (role : SymbolUsage) → Err f ≡ judged o spot →
    Leaves {A = Unit {0}} tt (enter_again (held m) role spot i o) (Err (Scan f)) (held m)
refused_by (Some r) spot f m i role e = (let p : f ≡ record { reason = r; spot = spot } = cc in ap (λ x. Err (Scan x)) p, refl)
refused_by None spot f m i role e = absurd (apart (cc))

pub passed_by : (o : Option ScanReason) (spot : Spot) → Ok tt ≡ judged o spot → o ≡ None
passed_by (Some r) spot e = absurd (apart (cc))
passed_by None spot e = refl

module _ (m : Memory) (i : ℕ) (found : SymbolRecord) (there : slice_get (listed m.symbols) i ≡ Some found) (role : SymbolUsage) (spot : Spot) where
  symbol_there : get_or (held m).symbols i no_symbol ≡ found.symbol
  symbol_there =
      get_or-map symbol_in (listed m.symbols) i found no_symbol (slice_get_within (listed m.symbols) i found there) ∙
      ap symbol_in (get_or_from_slice_get (listed m.symbols) i found found there)

  pub again_refused : (f : Refusal ScanReason) → Err f ≡ judged (objection role found.symbol) spot →
      Does m (enter_again (held m) role spot i (objection role (get_or (held m).symbols i no_symbol))) (Err (Scan f)) m
  again_refused f e = record {
    leaves = subst (λ s. Leaves {A = Unit {0}} tt (enter_again (held m) role spot i (objection role s)) (Err (Scan f)) (held m)) (sym symbol_there)
        (refused_by (objection role found.symbol) spot f m i role e);
    keeps = keeps_refl m;
  }

  abbrev pub with_symbols_at : Ordered SymbolRecord → Memory
  with_symbols_at symbols = record { tables = m.tables; symbols = symbols; texts = m.texts; bytes = m.bytes }

  pub again_done : (symbols : Ordered SymbolRecord) (r : Option SymbolRecord) → Ok tt ≡ judged (objection role found.symbol) spot →
      Replaced m.symbols symbols i (record { symbol = again role found.symbol; mark = found.mark }) r →
      Does m (enter_again (held m) role spot i (objection role (get_or (held m).symbols i no_symbol))) (Ok tt) (with_symbols_at symbols)
  again_done symbols (Some y) e p =
      let xs = listed m.symbols in
      let x : SymbolRecord = record { symbol = again role found.symbol; mark = found.mark } in
      let o : objection role (get_or (held m).symbols i no_symbol) ≡ None = ap (objection role) symbol_there ∙ passed_by (objection role found.symbol) spot e in
      let listed-now = ap (map symbol_in) p.2 ∙ map-set symbol_in xs i x ∙ ap (λ s. set (held m).symbols i (again role s)) (sym symbol_there) in
      let marked : marks (with_symbols_at symbols) ≡ marks m =
      ap (map mark_in) p.2 ∙ map-set mark_in xs i x ∙ ap (λ y. set (marks m) i (mark_in y)) (sym (get_or_from_slice_get xs i found found there)) ∙
      sym (map-set mark_in xs i (get_or xs i found)) ∙ ap (map mark_in) (set-get_or xs i found) in
      record {
        leaves = subst (λ v. Leaves {A = Unit {0}} tt (enter_again (held m) role spot i v) (Ok tt) (held (with_symbols_at symbols))) (sym o) (
          refl,
          λ j. record { tables = (held m).tables; symbols = listed-now j; texts = (held m).texts; bytes = (held m).bytes },
        );
        keeps = record {
          tables = same_refl m.tables;
          symbols = same_replaced m.symbols symbols i x (Some y) p;
          texts = same_refl m.texts;
          bytes = same_refl m.bytes;
          marked = longer_is (marks m) (marks (with_symbols_at symbols)) marked;
        };
      }
  again_done symbols None e p = absurd (let l = slice_get_within (listed m.symbols) i found there in omega (arith, p.0))
