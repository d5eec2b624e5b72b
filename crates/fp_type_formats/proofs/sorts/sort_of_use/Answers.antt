use Rattle.std.proofs.Common.{◌≡◌, ℕ, List, map, ap, subst, ◌∙◌}
use Rattle.fp_tree.specs.declared.name.Name.{Name}
use Rattle.fp_meaning.specs.declared.group.Group.TheVariants.{Kind}
use Rattle.fp_meaning.specs.Meaning.{Means}
use Rattle.fp_meaning.specs.Names.{Path}
use Rattle.fp_meaning.specs.Values.{names_of}
use Rattle.fp_type_formats.proofs.sorts.sort_of_use.Goals as goal

pub returns : goal.returns
returns c =
    let e : c.in_ok-texts.texts ≡ names_of c.args.name.now = c.in_ok-texts.ensures ∙ ap (λ (l : List Name). map (λ (n : Name). n.text) l) c.as_slice.ensures in
    subst (λ (p : Path). (number : ℕ) → Means c.args.names.now c.args.scope.now p Kind number → ⊥) e c.in-None.ensures
