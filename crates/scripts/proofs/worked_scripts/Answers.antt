-- Each of the nine stands.
use Rattle.std.proofs.Common.{refl}
use Rattle.scripts.specs.Scripts.{scripts}
use Rattle.scripts.proofs.Cases.{parameter_of_the_run_around-stands, no_statement-stands, class_name_not_seen_by_its_method-stands, class_between_function_and_method-stands, super_in_a_method-stands, private_name-stands, nonlocal_bound_nowhere-stands, named_expression_in_a_comprehension-stands, named_expression_rebinds_the_iteration_variable-stands}
use Rattle.scripts.proofs.worked_scripts.Goals as goal

pub returns : goal.returns
unfolding scripts
returns c = record { stands = (parameter_of_the_run_around-stands, (no_statement-stands, (class_name_not_seen_by_its_method-stands, (class_between_function_and_method-stands, (super_in_a_method-stands, (private_name-stands, (nonlocal_bound_nowhere-stands, (named_expression_in_a_comprehension-stands, (named_expression_rebinds_the_iteration_variable-stands, tt))))))))); count = refl }
