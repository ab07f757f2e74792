use Rattle.std.proofs.Common.{ℕ, List, sym, ap, ◌∙◌, is_ok}
use Rattle.std.proofs.lemmas.Result.{err_from_is_err_and}
use Rattle.treefile.specs.Fits.{tree_check}
use Rattle.treefile.specs.Names.{names_check}
use Rattle.treefile.specs.Records.{records_check}
use Rattle.treefile.specs.Trailer.{trailer_check}
use Rattle.treefile.proofs.Laws.{check_laws}
use Rattle.treefile.proofs.Sound.{trailer_sound, ends_at_names, ends_at_records, ends_at_trailer, ends_at_tree, ends_well}
use Rattle.treefile.proofs.check.check.Goals as goal

pub returns-in_err-areas-clause-value : goal.returns-in_err-areas-clause-value
returns-in_err-areas-clause-value c =
    let p = err_from_is_err_and c.from_residual.result c.from_residual.ensures.1 in
    rw (p.1, p.2) (ends_at_trailer _ _ c.in_err-areas.ensures.value)

pub returns-in_err-check_names-clause-value : goal.returns-in_err-check_names-clause-value
returns-in_err-check_names-clause-value c =
    let r = c.from_residual-in_err-check_names in
    let p = err_from_is_err_and r.result r.ensures.1 in
    let t = c.in_ok-areas.areas.trailer in
    let f = c.in_ok-areas.ensures.file in
    rw (p.1, p.2)
    (ends_at_names _ t c.in_ok-areas.ensures.value _ (c.in_err-check_names.ensures ∙ ap (λ (b : List ℕ). names_check b t) f))

pub returns-in_err-check_records-clause-value : goal.returns-in_err-check_records-clause-value
returns-in_err-check_records-clause-value c =
    let r = c.from_residual-in_err-check_records in
    let p = err_from_is_err_and r.result r.ensures.1 in
    let t = c.in_ok-areas.areas.trailer in
    let f = c.in_ok-areas.ensures.file in
    rw (p.1, p.2)
    (ends_at_records _ t c.in_ok-areas.ensures.value (c.in_ok-check_names.ensures ∙ ap (λ (b : List ℕ). names_check b t) f)
    _ (c.in_err-check_records.ensures ∙ ap (λ (b : List ℕ). records_check b t) f))

pub returns-in_err-check_tree-clause-value : goal.returns-in_err-check_tree-clause-value
returns-in_err-check_tree-clause-value c =
    let r = c.from_residual-in_err-check_tree in
    let p = err_from_is_err_and r.result r.ensures.1 in
    let t = c.in_ok-areas.areas.trailer in
    let f = c.in_ok-areas.ensures.file in
    rw (p.1, p.2)
    (ends_at_tree _ t c.in_ok-areas.ensures.value (c.in_ok-check_names.ensures ∙ ap (λ (b : List ℕ). names_check b t) f)
    (c.in_ok-check_records.ensures ∙ ap (λ (b : List ℕ). records_check b t) f)
    _ (c.in_err-check_tree.ensures ∙ ap (λ (b : List ℕ). tree_check b t) f))

pub returns-clause-value : goal.returns-clause-value
returns-clause-value c =
    let t = c.in_ok-areas.areas.trailer in
    let f = c.in_ok-areas.ensures.file in
    ends_well _ t c.in_ok-areas.ensures.value (c.in_ok-check_names.ensures ∙ ap (λ (b : List ℕ). names_check b t) f)
    (c.in_ok-check_records.ensures ∙ ap (λ (b : List ℕ). records_check b t) f)
    (c.in_ok-check_tree.ensures ∙ ap (λ (b : List ℕ). tree_check b t) f)

pub invariant_of-result : goal.invariant_of-result
invariant_of-result c =
    let t = c.in_ok-areas.areas.trailer in
    let f = c.in_ok-areas.ensures.file in
    let v = c.in_ok-areas.ensures.value ∙ ap trailer_check (sym f) in
    record {
      checked = ap is_ok (sym (ends_well c.in_ok-areas.areas.file.now t v c.in_ok-check_names.ensures c.in_ok-check_records.ensures c.in_ok-check_tree.ensures));
      read = (trailer_sound c.in_ok-areas.areas.file.now t (sym v)).0;
    }

pub returns-in_err-areas-clause-laws : goal.returns-in_err-areas-clause-laws
returns-in_err-areas-clause-laws c = check_laws c.args.file.now

pub returns-in_err-check_names-clause-laws : goal.returns-in_err-check_names-clause-laws
returns-in_err-check_names-clause-laws c = check_laws c.args.file.now

pub returns-in_err-check_records-clause-laws : goal.returns-in_err-check_records-clause-laws
returns-in_err-check_records-clause-laws c = check_laws c.args.file.now

pub returns-in_err-check_tree-clause-laws : goal.returns-in_err-check_tree-clause-laws
returns-in_err-check_tree-clause-laws c = check_laws c.args.file.now

pub returns-clause-laws : goal.returns-clause-laws
returns-clause-laws c = check_laws c.args.file.now
