use Rattle.std.proofs.Common.{sym, ◌∙◌}
use Rattle.std.specs.Str.{bytes_eq}
use Rattle.fp_base.specs.declared.value.MemberValue.{MemberValue}
use Rattle.fp_tables.proofs.Firsts.{found_some, found_none}
use Rattle.fp_types.proofs.index.part_named.Goals as goal

pub returns-in-None : goal.returns-in-None
returns-in-None c =
    let name = c.args.name.now in
    found_none (λ (x : MemberValue). bytes_eq x.name name) c.args.parts.now _ (c.place_named.ensures ∙ c.requires name) (sym c.in-None.is)

pub returns-in-Some : goal.returns-in-Some
returns-in-Some c =
    let name = c.args.name.now in
    found_some (λ (x : MemberValue). bytes_eq x.name name) c.args.parts.now _ c.in-Some.at _ (c.place_named.ensures ∙ c.requires name) (sym c.in-Some.is) c.part_at.ensures
