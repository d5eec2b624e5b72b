-- What the rows of a body that is being read stand for.
use Rattle.std.specs.Prelude.{reverse}
use Rattle.fp_tree.specs.declared.machine.Behavior.{Behavior}
use Rattle.fp_parse_states.specs.declared.partial.PartialBody.{PartialBody}
use Rattle.fp_parse_states.specs.declared.partial.BodyStep.{BodyStep}
use Rattle.fp_parse_states.specs.declared.partial.BodyStep.TheVariants.{On, Ends}
use Rattle.fp_grammar.specs.Steps.{Next}
use Rattle.fp_grammar.specs.Steps.Next.{on, ends}
use Rattle.fp_parse_states.specs.Bodies.{BodySoFar}

abbrev pub body_seen : PartialBody → BodySoFar
body_seen p = record { last = p.last; opened = reverse p.stack; latest = p.latest; elements = p.elements; lines = p.lines }

abbrev pub step_seen : BodyStep → Next BodySoFar Behavior
step_seen (On p) = on (body_seen p)
step_seen (Ends b) = ends b
