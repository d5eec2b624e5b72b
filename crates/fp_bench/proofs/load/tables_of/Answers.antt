use Rattle.std.proofs.Common.{Some, sym, subst}
use Rattle.fp_tables.specs.Lookup.{Described}
use Rattle.fp_tables.specs.Sound.{IsSoundFor, IsSoundAt}
use Rattle.fp_bench.proofs.load.tables_of.Goals as goal

pub returns-in-Ok-of : goal.returns-in-Ok-of
returns-in-Ok-of c =
    subst (λ (t : Described). IsSoundFor t.model (Some t.topology)) (sym c.in-Ok-of.ensures)
    (c.in-Ok.ensures.sound, subst (IsSoundAt c.in-Ok.model) c.in-Some.ensures.value (c.in-Ok.ensures.sound_with 0 _ (sym c.in-Some.ensures.value)))
