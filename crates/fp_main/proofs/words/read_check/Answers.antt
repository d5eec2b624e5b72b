use Rattle.std.specs.String.{string_bytes}
use Rattle.fp_main.proofs.Wording.{check_of, missing_file_of, none_left, some_left}
use Rattle.fp_main.proofs.words.read_check.Goals as goal

pub returns-then-is_empty : goal.returns-then-is_empty
returns-then-is_empty c = missing_file_of string_bytes c.args.files.now (none_left _ _ c.is_empty.ensures c.if-is_empty.true)

pub returns-else-is_empty : goal.returns-else-is_empty
returns-else-is_empty c = check_of string_bytes c.args.files.now (some_left _ _ c.is_empty.ensures c.if-is_empty.false)
