-- What the scan of each script leaves, computed.
use Rattle.std.proofs.Common.{refl}
use Rattle.store.specs.Enterings.{enter}
use Rattle.store.specs.Outward.{enter_target, enter_import, enter_use}
use Rattle.store.specs.Tables.{open_table}
use Rattle.scan.specs.Entering.{step, run}
use Rattle.scripts.specs.Listing.{scan_of}
use Rattle.scripts.specs.Scripts.{Stands, parameter_of_the_run_around, no_statement, class_name_not_seen_by_its_method, class_between_function_and_method, super_in_a_method, private_name, nonlocal_bound_nowhere, named_expression_in_a_comprehension, named_expression_rebinds_the_iteration_variable}

pub parameter_of_the_run_around-stands : Stands parameter_of_the_run_around
unfolding scan_of run step enter enter_target enter_import enter_use open_table parameter_of_the_run_around
parameter_of_the_run_around-stands = refl

pub no_statement-stands : Stands no_statement
unfolding scan_of run step enter enter_target enter_import enter_use open_table no_statement
no_statement-stands = refl

pub class_name_not_seen_by_its_method-stands : Stands class_name_not_seen_by_its_method
unfolding scan_of run step enter enter_target enter_import enter_use open_table class_name_not_seen_by_its_method
class_name_not_seen_by_its_method-stands = refl

pub class_between_function_and_method-stands : Stands class_between_function_and_method
unfolding scan_of run step enter enter_target enter_import enter_use open_table class_between_function_and_method
class_between_function_and_method-stands = refl

pub super_in_a_method-stands : Stands super_in_a_method
unfolding scan_of run step enter enter_target enter_import enter_use open_table super_in_a_method
super_in_a_method-stands = refl

pub private_name-stands : Stands private_name
unfolding scan_of run step enter enter_target enter_import enter_use open_table private_name
private_name-stands = refl

pub nonlocal_bound_nowhere-stands : Stands nonlocal_bound_nowhere
unfolding scan_of run step enter enter_target enter_import enter_use open_table nonlocal_bound_nowhere
nonlocal_bound_nowhere-stands = refl

pub named_expression_in_a_comprehension-stands : Stands named_expression_in_a_comprehension
unfolding scan_of run step enter enter_target enter_import enter_use open_table named_expression_in_a_comprehension
named_expression_in_a_comprehension-stands = refl

pub named_expression_rebinds_the_iteration_variable-stands : Stands named_expression_rebinds_the_iteration_variable
unfolding scan_of run step enter enter_target enter_import enter_use open_table named_expression_rebinds_the_iteration_variable
named_expression_rebinds_the_iteration_variable-stands = refl
