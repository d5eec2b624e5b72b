use Rattle.std.proofs.Common.{ap, ◌∙◌}
use Rattle.std.specs.Option.{option_and_then}
use Rattle.fp_tables.specs.declared.component.Command.{Command}
use Rattle.fp_events.specs.Follows.{parameter_of}
use Rattle.fp_actor.proofs.sends.parameter_at.Goals as goal

pub returns-in-Some : goal.returns-in-Some
returns-in-Some c = λ t p. c.parameter_of.ensures t p ∙ ap (option_and_then (λ (x : Command). parameter_of t p x.part)) c.in-Some.ensures.value
