-- Each worked file stands, in their order.
use Rattle.std.proofs.Common.{refl}
use Rattle.worked.specs.Worked.{files}
use Rattle.worked.proofs.Cases.{function_stands, empty_module-stands, too_short-stands, wrong_length-stands, no_record-stands, empty_name-stands, unknown_kind-stands, missing_child-stands}
use Rattle.worked.proofs.Deep.{too_deep-stands}
use Rattle.worked.proofs.worked_files.Goals as goal

pub returns : goal.returns
unfolding files
returns c =
    record {
      stands = (
        function_stands,
        (
          empty_module-stands,
          (
            too_short-stands,
            (
              wrong_length-stands,
              (
                no_record-stands,
                (empty_name-stands, (unknown_kind-stands, (missing_child-stands, (too_deep-stands, tt)))),
              ),
            ),
          ),
        ),
      );
      count = refl;
    }
