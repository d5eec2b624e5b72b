use Rattle.std.specs.String.{string_bytes}
use Rattle.fp_main.proofs.Wording.{missing_command_of, other_command_of, topology_command_of}
use Rattle.fp_main.proofs.words.read_words.Goals as goal

pub returns-in-None : goal.returns-in-None
returns-in-None c = missing_command_of string_bytes c.args.words.now c.in-None.ensures.cases

pub returns-in-Some-text_of : goal.returns-in-Some-text_of
returns-in-Some-text_of c =
    topology_command_of c.in-Some-text_of.text string_bytes c.args.words.now _ _ _ _ c.in-Some.ensures.cases.0 c.as_str-word.ensures.value c.in-Some-text_of.ensures c.read_topology.ensures

pub returns-in-None-text_of : goal.returns-in-None-text_of
returns-in-None-text_of c =
    other_command_of string_bytes c.args.words.now _ _ _ _ _ _ c.in-Some.ensures.cases.0 c.as_str-word.ensures.value c.eq.ensures c.if-eq.false
    c.eq-else-eq.ensures c.if-eq-2.false c.eq-else-eq-2.ensures c.if-eq-3.false c.in-None-text_of.ensures
