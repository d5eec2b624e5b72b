use Rattle.std.proofs.Common.{◌≡◌, map, take}
use Rattle.fp_tables.specs.declared.program.Handler.{Handler}
use Rattle.fp_sound_programs.proofs.repeats.places_of.Given as goal

abbrev pub invariant-loop-handler : goal.invariant-loop-handler
invariant-loop-handler l = l.places.items ≡ map (λ (handler : Handler). (handler.instance, handler.place)) (take l.handler-index l.handlers)
