use Rattle.std.proofs.Common.{List, subst, ◌∙◌}
use Rattle.std.specs.Prelude.{IfOk}
use Rattle.fp_meaning.specs.declared.names.Definition.{Definition}
use Rattle.fp_meaning.specs.declared.names.Mention.{Mention}
use Rattle.fp_meaning.specs.Broken.{IsUnmeant}
use Rattle.fp_base.specs.Least.{InSome, IsLeast}
use Rattle.fp_meaning.specs.Names.{mentions}
use Rattle.fp_names.specs.declared.lookups.LookedUp.{LookedUp}
use Rattle.fp_names.proofs.names.found_in.Goals as goal

pub returns-clause-least : goal.returns-clause-least
returns-clause-least c =
    subst (λ (ds : List Definition). IfOk c.look_up.result (λ (found : LookedUp). IsLeast (InSome (λ _. IsUnmeant ds) (mentions c.args.source.now)) found.first)) c.requires
    (subst (λ (ms : List Mention). IfOk c.look_up.result (λ (found : LookedUp). IsLeast (InSome (λ _. IsUnmeant c.args.names.now) ms) found.first)) (c.as_slice.ensures ∙ c.in_ok-mentions.ensures)
    c.look_up.ensures.least)
