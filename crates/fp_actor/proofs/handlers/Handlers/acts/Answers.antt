use Rattle.std.proofs.Common.{◌∙◌, ap, sym, [], List, Option, option_map, unwrap_or}
use Rattle.fp_tables.specs.declared.program.Handler.{Handler}
use Rattle.fp_tables.specs.declared.program.Act.{Act}
use Rattle.fp_actor.specs.Found.{is_at}
use Rattle.fp_actor.proofs.Finding.{found_none, found_some}
use Rattle.fp_actor.proofs.handlers.Handlers.acts.Goals as goal

acts_of : Option Handler → List Act
acts_of o = unwrap_or (option_map (λ (h : Handler). h.acts) o) []

pub returns-in-Some : goal.returns-in-Some
unfolding acts_of
returns-in-Some c =
    let found = rw (← c.self.view_is) at (sym c.in-Some.ensures) in
    rw (← c.self.view_is) (c.acts_at.ensures ∙ ap acts_of (sym (found_some (is_at c.args.instance c.args.place) c.self.inside.handlers.now c.in-Some.at found)))

pub returns-in-None : goal.returns-in-None
unfolding acts_of
returns-in-None c = ap acts_of (sym (found_none (is_at c.args.instance c.args.place) c.args.self.now (sym c.in-None.ensures)))
