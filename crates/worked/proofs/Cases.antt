-- Each file's answer, computed.
use Rattle.std.proofs.Common.{refl}
use Rattle.treefile.specs.Checked.{file_check}
use Rattle.treefile.specs.Fits.{node_check}
use Rattle.treefile.specs.Slots.{table, columns}
use Rattle.worked.specs.Worked.{Stands, function, empty_module, too_short, wrong_length, no_record, empty_name, unknown_kind, missing_child}

pub function_stands : Stands function
unfolding file_check node_check columns table function
function_stands = refl

pub empty_module-stands : Stands empty_module
unfolding file_check node_check empty_module
empty_module-stands = refl

pub too_short-stands : Stands too_short
unfolding file_check too_short
too_short-stands = refl

pub wrong_length-stands : Stands wrong_length
unfolding file_check wrong_length
wrong_length-stands = refl

pub no_record-stands : Stands no_record
unfolding file_check no_record
no_record-stands = refl

pub empty_name-stands : Stands empty_name
unfolding file_check empty_name
empty_name-stands = refl

pub unknown_kind-stands : Stands unknown_kind
unfolding file_check unknown_kind
unknown_kind-stands = refl

pub missing_child-stands : Stands missing_child
unfolding file_check node_check columns table missing_child
missing_child-stands = refl
