-- Whether arrays and structs have a shape, from their items.
use Rattle.std.proofs.Common.{◌≡◌, ℕ, zero, suc, Bool, true, false, ◌&&◌, List, [], ◌∷◌, length, eqb, refl, sym, ap, ◌∙◌, arith}
use Rattle.std.proofs.lemmas.Bool.Decides.{nat_tests}
use Rattle.std.specs.List.{list_all}
use Rattle.std.specs.Str.{bytes_eq}
use Rattle.fp_base.specs.declared.value.Value.{Value, Row_of-Value, more_of-Value, end_of-Value, items-the_row-Value, items_hidden-the_row-Value-0}
use Rattle.fp_base.specs.declared.value.Value.TheViews.{Array, Struct}
use Rattle.fp_base.specs.declared.value.Value.TheBlock as block
use Rattle.fp_base.specs.declared.value.MemberValue.{MemberValue}
use Rattle.fp_base.proofs.Texts.{items_of, parts_of}
use Rattle.fp_tables.specs.Lists.{all_beside}
use Rattle.fp_tables.specs.Types.{Shape, array, struct, shape, member_shape, has, items_have, parts_have, part_has}
use Rattle.fp_tables.specs.declared.kind.Kind.{Kind}
use Rattle.fp_tables.specs.declared.kind.Field.{Field}
use Rattle.fp_tables.specs.declared.kind.TypeDef.{TypeDef}

none_of : (n : ℕ) (b : Bool) → (eqb (suc n) 0 && b) ≡ false
none_of n b = grind (arith, nat_tests)

none_yet : (n : ℕ) (b : Bool) → (eqb 0 (suc n) && b) ≡ false
none_yet n b = grind (arith, nat_tests)

one_more : (m n : ℕ) (b : Bool) → (eqb (suc m) (suc n) && b) ≡ (eqb m n && b)
one_more m n b = grind (arith, nat_tests)

first : (here rest same all : Bool) → rest ≡ (same && all) → (here && rest) ≡ (same && (here && all))
first true rest same all e = e
first false rest true all e = refl
first false rest false all e = refl

module _ (types : List TypeDef) where
  items_row : (size : ℕ) (s : Shape) (n : _) (row : Row_of-Value n) →
      items_have types size s row ≡ (eqb (length (items-the_row-Value n row)) size && list_all (has types s) (items-the_row-Value n row))
  items_row zero s n end_of-Value = refl
  items_row (suc size) s n end_of-Value = sym (none_yet size true)
  items_row zero s n (more_of-Value v row) = sym (none_of (length (items-the_row-Value _ row)) (list_all (has types s) (items-the_row-Value _ (more_of-Value v row))))
  items_row (suc size) s n (more_of-Value v row) =
      let items = items-the_row-Value _ row in
      first (has types s v) _ (eqb (length items) size) (list_all (has types s) items) (items_row size s _ row)
      ∙ sym (one_more (length items) size (has types s v && list_all (has types s) items))

  parts_row : (fields : List Field) (n : _) (row : block.Row_of-MemberValue n) → parts_have types fields row ≡ all_beside (part_has types) fields (block.items-the_row-MemberValue n row)
  parts_row [] n block.end_of-MemberValue = refl
  parts_row [] n (block.more_of-MemberValue m v row) = refl
  parts_row (f ∷ fields) n block.end_of-MemberValue = refl
  parts_row (f ∷ fields) n (block.more_of-MemberValue m v row) = ap (λ b. (bytes_eq m f.name && has types (member_shape types f) v) && b) (parts_row fields _ row)

  pub array_has : (size : ℕ) (k : Kind) (items : List Value) → has types (array size k) (Array items) ≡ (eqb (length items) size && list_all (has types (shape types k)) items)
  array_has size k items =
      let row = items_of (Array items) in
      items_row size (shape types k) row.0 row.1 ∙ ap (λ (vs : List Value). eqb (length vs) size && list_all (has types (shape types k)) vs) (items_hidden-the_row-Value-0 items)

  pub struct_has : (fields : List Field) (parts : List MemberValue) → has types (struct fields) (Struct parts) ≡ all_beside (part_has types) fields parts
  struct_has fields parts =
      let row = parts_of (Struct parts) in
      parts_row fields row.0 row.1 ∙ ap (λ (ps : List MemberValue). all_beside (part_has types) fields ps) (block.items_hidden-the_row-MemberValue-1 parts)
