use Rattle.std.proofs.Common.{◌≡◌, ◌<◌, sym, ap, ◌∙◌, subst}
use Rattle.std.specs.Prelude.{IfOk}
use Rattle.fp_events.specs.Fits.{actor_count}
use Rattle.fp_running.specs.Progress.{Progress, Turned}
use Rattle.fp_running.specs.Standing.{progress}
use Rattle.fp_running.proofs.OneTurn.{failing}
use Rattle.fp_running.proofs.running.Running.turn.Goals as goal

pub take_turn-requires-clause-known : goal.take_turn-requires-clause-known
take_turn-requires-clause-known c = subst (λ (r : Progress). c.args.actor < actor_count r.tables r.program) (sym c.self.view_is) c.requires

pub returns-clause-turned : goal.returns-clause-turned
returns-clause-turned c = subst (λ (r : Progress). IfOk c.take_turn.result (λ u. Turned c.args.actor u r (progress c.self.inside.tables.now c.self.inside.program.now c.take_turn.new.done))) c.self.view_is c.take_turn.ensures.turned

pub returns-clause-failed : goal.returns-clause-failed
returns-clause-failed c = failing c.self.inside.tables.now c.self.inside.program.now c.take_turn.result c.self.inside.done c.take_turn.new.done c.args.self.now c.self.view_is c.take_turn.ensures.failed
