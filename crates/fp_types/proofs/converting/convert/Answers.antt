use Rattle.std.proofs.Common.{◌≡◌, None, Some, sym, ◌∙◌}
use Rattle.fp_base.proofs.Options.{no_some}
use Rattle.fp_types.proofs.Passed.{are_sound, converts_if}
use Rattle.fp_types.proofs.Causes.{nothing_for, no_memory}
use Rattle.fp_types.proofs.converting.convert.Goals as goal

pub becomes-requires : goal.becomes-requires
becomes-requires c = record { known = record { sizes = c.requires.sizes; sound = are_sound c.args.types.now c.args.defaults.now c.requires.defaults } }

pub returns-in-Some : goal.returns-in-Some
returns-in-Some c = (converts_if c.args.types.now c.args.defaults.now c.requires.defaults c.args.value.now c.args.to c.in_ok-made.made c.in_ok-made.ensures).holds c.in-Some.value c.in-Some.is

pub returns-in-None : goal.returns-in-None
returns-in-None c =
    let types = c.args.types.now in
    let is = converts_if types c.args.defaults.now c.requires.defaults c.args.value.now c.args.to c.in_ok-made.made c.in_ok-made.ensures in
    nothing_for types c.args.value.now c.args.to c.cause.result (λ w b. no_some (sym c.in-None.is ∙ is.only w b)) c.cause.ensures

pub returns-in_err-made : goal.returns-in_err-made
returns-in_err-made c = no_memory c.args.types.now c.args.value.now c.args.to c.from_residual.result c.from_residual.ensures.1
