use Rattle.std.specs.String.{string_bytes}
use Rattle.fp_main.proofs.Wording.{further_word_of, make_of, missing_count_of, none_left, other_count_of, some_left}
use Rattle.fp_main.proofs.words.read_make.Goals as goal

pub returns-in-None : goal.returns-in-None
returns-in-None c = missing_count_of string_bytes c.args.rest.now c.in-None.ensures.cases

pub returns-in-None-instances_of : goal.returns-in-None-instances_of
returns-in-None-instances_of c = other_count_of string_bytes c.args.rest.now _ _ _ c.in-Some.ensures.cases.0 c.as_str.ensures.value c.in-None-instances_of.ensures

pub returns-then-is_empty : goal.returns-then-is_empty
returns-then-is_empty c =
    make_of string_bytes c.args.rest.now _ _ _ c.in-Some.ensures.cases.0 c.as_str.ensures.value c.in-Some-instances_of.instances
    c.in-Some-instances_of.ensures.0 c.in-Some-instances_of.ensures.1 c.in-Some-instances_of.ensures.2 (none_left _ _ c.is_empty.ensures c.if-is_empty.true)

pub returns-else-is_empty : goal.returns-else-is_empty
returns-else-is_empty c =
    further_word_of string_bytes c.args.rest.now _ _ _ c.in-Some.ensures.cases.0 c.as_str.ensures.value c.in-Some-instances_of.instances
    c.in-Some-instances_of.ensures.0 c.in-Some-instances_of.ensures.1 c.in-Some-instances_of.ensures.2 (some_left _ _ c.is_empty.ensures c.if-is_empty.false)
