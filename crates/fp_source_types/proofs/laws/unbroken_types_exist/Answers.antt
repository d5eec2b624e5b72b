use Rattle.fp_source_types.proofs.Sized.{types_unbroken}
use Rattle.fp_source_types.proofs.laws.unbroken_types_exist.Goals as goal

pub returns : goal.returns
returns c source meanings given meant listed constants types of i o at =
    let sound = types_unbroken source meanings meant constants of.written of.are (λ f b. types f (record { written = of.written; are = of.are; broken = b })) listed in
    c.unbroken_types_are_given.ensures of.written given i o sound of.types at
