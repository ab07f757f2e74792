-- The laws of entering names, together.
use Rattle.std.proofs.Common.{◌≡◌, not, ◌&&◌, codes}
use Rattle.std.specs.Str.{bytes_eq}
use Rattle.std.proofs.lemmas.Bool.{cond_both}
use Rattle.symbols.specs.declared.fault.ScanReason.TheVariants as reason
use Rattle.symbols.specs.declared.usage.SymbolUsage.TheVariants as role
use Rattle.store.specs.Enterings.{enter, is_module, kind_of}
use Rattle.symbols.specs.Faults.{scan_fault}
use Rattle.store.specs.Held.{refused}
use Rattle.store.specs.Laws.{EnteringLaws, RefusedChangesNothing, RefusedImportChangesNothing}
use Rattle.store.specs.Mangling.{mangled}
use Rattle.store.specs.Outward.{enter_import}
use Rattle.store.proofs.Consistent.{consistent_stays}
use Rattle.store.proofs.Grown.{masks_only_grow}
use Rattle.store.proofs.Inversion.{refused_why}
use Rattle.store.proofs.NamesOnce.{names_once, names_stay_opening}
use Rattle.store.proofs.Nesting.{nested_stays_right}
use Rattle.store.proofs.TableOpens.{open_refused, open_sound, table_comes_last}
use Rattle.store.proofs.Order.{entered_is_held, keys_after, texts_stay}
use Rattle.store.proofs.Others.{others_stay, tables_stay}
use Rattle.store.proofs.Rooms.{refused_for_symbol, refused_for_text, refused_table}
use Rattle.store.proofs.Sequence.{names_in_order}
use Rattle.store.proofs.SoundStays.{nothing_is_sound, sound_stays}
use Rattle.store.proofs.Taken.{name_is_taken}
use Rattle.store.proofs.TargetWays.{target_sound}

name_refused : RefusedChangesNothing
name_refused room h t role text spot k f e = (refused_why room h t role text spot k f e).0

import_refused : RefusedImportChangesNothing
unfolding enter_import
import_refused room h t class name spot k f =
    cond_both (bytes_eq name (codes "*") && not (is_module (kind_of h t))) (refused h (scan_fault reason.StarOutsideModule spot)) (enter room h t role.Imported (mangled class name) spot)
    (λ o. o ≡ refused k f → k ≡ h) (λ _ e. cc) (λ _ e. name_refused room h t role.Imported (mangled class name) spot k f e)

pub entering_laws : EnteringLaws
entering_laws =
    record {
      refused_changes_nothing = name_refused;
      refused_import_changes_nothing = import_refused;
      refused_table_changes_nothing = λ room h around kind name spot k f e. (open_refused room h around kind name spot k f e).0;
      masks_only_grow = masks_only_grow;
      tables_stay = tables_stay;
      others_stay = others_stay;
      texts_stay = texts_stay;
      sound_stays = sound_stays;
      nothing_is_sound = nothing_is_sound;
      sound_stays_at_target = target_sound;
      consistent_stays = consistent_stays;
      text_is_held = entered_is_held;
      name_is_taken = name_is_taken;
      order_of_first_entering = keys_after;
      names_in_order = names_in_order;
      names_once = names_once;
      texts_refused = refused_for_text;
      symbols_refused = refused_for_symbol;
      tables_refused = refused_table;
      table_comes_last = table_comes_last;
      names_stay_opening = names_stay_opening;
      sound_stays_opening = open_sound;
      nested_stays_right = nested_stays_right;
    }
