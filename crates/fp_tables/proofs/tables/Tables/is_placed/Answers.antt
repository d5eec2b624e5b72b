use Rattle.std.proofs.Common.{◌∙◌, ap, eqb}
use Rattle.std.specs.Prelude.{is_some}
use Rattle.fp_tables.specs.Lookup.{placed}
use Rattle.fp_tables.proofs.Firsts.{placed_somewhere}
use Rattle.fp_tables.proofs.tables.Tables.is_placed.Goals as goal

pub returns : goal.returns
returns c = c.is_some.ensures ∙ ap is_some c.place.ensures ∙ placed_somewhere (λ k. eqb k c.args.instance) (placed c.args.self.now)
