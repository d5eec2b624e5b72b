use Rattle.std.proofs.Common.{◌∙◌, arith}
use Rattle.std.proofs.lemmas.Str.Pattern.{rfind_char}
use Rattle.std.specs.Prelude.{None, Some}
use Rattle.fp_base.proofs.Lists.{front_of}
use Rattle.fp_gather.proofs.Directories.{no_directory, directory_before}
use Rattle.fp_gather.proofs.gathering.including.directory.Goals as goal

pub returns-in-None : goal.returns-in-None
returns-in-None c = no_directory c.args.name.now c.new.result c.new.ensures (rfind_char 47 c.args.name.now None c.in-None.ensures.cases (omega arith))

pub returns-in_ok-push_str-in-Some : goal.returns-in_ok-push_str-in-Some
returns-in_ok-push_str-in-Some c =
    directory_before c.args.name.now c.in-Some.at _ _ (c.in_ok-text-in-Some.ensures ∙ front_of c.args.name.now c.range.result.now c.in-Some.at c.range.ensures.value) c.in_ok-push_str-in-Some.ensures.ok (rfind_char 47 c.args.name.now (Some c.in-Some.at) c.in-Some.ensures.cases (omega arith))
