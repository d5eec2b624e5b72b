use Rattle.std.proofs.Common.{◌∙◌, ap, sym}
use Rattle.fp_tables.specs.Lists.{if_some}
use Rattle.fp_tables.specs.Machines.{is_nested_by}
use Rattle.fp_sound_machines.proofs.Nesting.{nested_by_none, nested_step}
use Rattle.fp_sound_machines.proofs.machines.+is_nested_by.Goals as goal

pub returns-then-most-eq0 : goal.returns-then-most-eq0
returns-then-most-eq0 t c = nested_by_none _ _ _ c.if-most-eq0.true

pub returns-in-Some : goal.returns-in-Some
returns-in-Some t c = c.is_nested_by.ensures ∙ ap (if_some (is_nested_by c.args.vertices.now _)) c.in-Some.ensures ∙ sym (nested_step _ _ c.args.most c.if-most-eq0.false)

pub returns-in-None : goal.returns-in-None
returns-in-None t c = ap (if_some (is_nested_by c.args.vertices.now _)) c.in-None.ensures ∙ sym (nested_step _ _ c.args.most c.if-most-eq0.false)
