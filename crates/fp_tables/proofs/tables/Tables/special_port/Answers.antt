use Rattle.std.proofs.Common.{Option, List, unwrap_or, position, ap, ◌∙◌, arith}
use Rattle.fp_tables.specs.declared.component.Component.{Component}
use Rattle.fp_tables.specs.declared.component.Port.{Port}
use Rattle.fp_tables.specs.Specials.{is_special, no_parts}
use Rattle.fp_tables.proofs.Short.{ports_are_few}
use Rattle.fp_tables.proofs.tables.Tables.special_port.Goals as goal

pub overflow_cast-result : goal.overflow_cast-result
overflow_cast-result c =
    let few = ports_are_few c.args.self.now.model c.args.instance c.in-Some.component.now c.requires c.in-Some.ensures in
    let within = rw c.as_slice.ensures at c.in-Some-place_of_special.ensures.within in
    omega (arith, few, within)

pub returns-in-Some-place_of_special : goal.returns-in-Some-place_of_special
returns-in-Some-place_of_special c =
    c.in-Some-place_of_special.ensures.value ∙ ap (λ (ps : List Port). position (λ (p : Port). is_special c.args.special p.role) ps) c.as_slice.ensures
    ∙ ap (λ (o : Option Component). position (λ (p : Port). is_special c.args.special p.role) (unwrap_or o no_parts).ports) c.in-Some.ensures

pub returns-in-None-place_of_special : goal.returns-in-None-place_of_special
returns-in-None-place_of_special c =
    c.in-None-place_of_special.ensures.value ∙ ap (λ (ps : List Port). position (λ (p : Port). is_special c.args.special p.role) ps) c.as_slice.ensures
    ∙ ap (λ (o : Option Component). position (λ (p : Port). is_special c.args.special p.role) (unwrap_or o no_parts).ports) c.in-Some.ensures
