use Rattle.std.proofs.Common.{sym, ap, ◌∙◌, Some, None, drop, ◌+◌, arith}
use Rattle.std.proofs.lemmas.Str.Pattern.{rfind_char}
use Rattle.fp_base.proofs.Lists.{front_of}
use Rattle.fp_scenario_actions.proofs.Dotted.{dotted, undotted, input_there, input_unplaced, input_undotted}
use Rattle.fp_scenario_actions.proofs.calling.input_named.Goals as goal

pub returns-in-Some-placed_named : goal.returns-in-Some-placed_named
returns-in-Some-placed_named c =
    let bs = c.args.text.now in
    let k = c.in-Some.at in
    input_there c.args.tables.now bs k c.in-Some-placed_named.instance c.range.result.now c.right_of.result.now c.input_at.result (dotted bs k (rfind_char 46 bs (Some k) c.in-Some.ensures.cases (omega arith)))
    (front_of bs c.range.result.now k c.range.ensures.value) (c.right_of.ensures ∙ ap (drop (k + 1)) c.as_bytes.ensures.value) c.in-Some-placed_named.ensures c.input_at.ensures

pub returns-in-None-placed_named : goal.returns-in-None-placed_named
returns-in-None-placed_named c =
    let bs = c.args.text.now in
    let k = c.in-Some.at in
    input_unplaced c.args.tables.now bs k c.range.result.now (dotted bs k (rfind_char 46 bs (Some k) c.in-Some.ensures.cases (omega arith))) (front_of bs c.range.result.now k c.range.ensures.value) c.in-None-placed_named.ensures

pub returns-in-None : goal.returns-in-None
returns-in-None c =
    let bs = c.args.text.now in
    input_undotted c.args.tables.now bs (undotted bs (rfind_char 46 bs None c.in-None.ensures.cases (omega arith)))
