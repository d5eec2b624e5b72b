-- The items of the source that was laid out by hand.
use Rattle.std.proofs.Common.{◌≡◌, List, [], ◌∷◌, ◌++◌, ap, ◌∙◌}
use Rattle.fp_base.specs.declared.place.Span.{Span}
use Rattle.fp_tree.specs.declared.expression.Expr.{Expr}
use Rattle.fp_tree.specs.declared.definition.Def.{Def}
use Rattle.fp_tree.specs.declared.definition.Def.TheVariants as def
use Rattle.fp_tree.specs.declared.member.Member.TheVariants as member
use Rattle.fp_meaning.specs.declared.item.Item.{Item}
use Rattle.fp_meaning.specs.Layout.{in_member, items_in, items}
use Rattle.fp_meaning.specs.Worked.{inside, called, enumeration, constant, source}
use Rattle.fp_meaning.proofs.Walks.{module_gives, definition_gives}

module _ (at : Span) (x y z : Expr) where
  abbrev enumerated : Def
  enumerated = def.Enum (enumeration at x y z)

  pub its_items : items (source at x y z) ≡ items_in inside (constant at x y z) ++ items_in inside enumerated
  its_items =
      ap (λ (is : List Item). (is ++ []) ++ []) (
      module_gives [] (record { name = called at x y z "M"; members = member.Def (constant at x y z) ∷ member.Def enumerated ∷ []; at = at; note = [] })
      ∙ ap (λ (is : List Item). is ++ (in_member inside (member.Def enumerated) ++ [])) (definition_gives inside (constant at x y z))
      ∙ ap (λ (is : List Item). items_in inside (constant at x y z) ++ (is ++ [])) (definition_gives inside enumerated)
      )
