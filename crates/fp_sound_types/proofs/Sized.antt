-- The leaves and levels of arrays and structs, from their items.
use Rattle.std.proofs.Common.{◌≡◌, ℕ, suc, ◌+◌, List, [], ◌∷◌, max, refl, sym, ap, ◌∙◌, arith}
use Rattle.std.specs.List.{fold, sum_by}
use Rattle.std.proofs.lemmas.List.Sums.{sum_by-cons}
use Rattle.fp_base.specs.declared.value.Value.{Value, Row_of-Value, more_of-Value, end_of-Value, items-the_row-Value, items_hidden-the_row-Value-0}
use Rattle.fp_base.specs.declared.value.Value.TheViews.{Array, Struct}
use Rattle.fp_base.specs.declared.value.Value.TheBlock as block
use Rattle.fp_base.specs.declared.value.MemberValue.{MemberValue}
use Rattle.fp_base.proofs.Texts.{items_of, parts_of}
use Rattle.fp_tables.specs.Types.{leaves, items_leaves, parts_leaves, levels, items_levels, parts_levels}

abbrev in_part : (Value → ℕ) → MemberValue → ℕ
in_part f p = f p.value

module _ {A : Type 0} (f : A → ℕ) where
  pub most_from : (n : ℕ) (xs : List A) → fold (λ most x. max most (f x)) n xs ≡ max n (fold (λ most x. max most (f x)) 0 xs)
  most_from n [] = omega arith
  most_from n (x ∷ xs) =
      let here = most_from (max n (f x)) xs in
      let there = most_from (max 0 (f x)) xs in
      omega (arith, here, there)

  pub most-cons : (x : A) (xs : List A) → fold (λ most y. max most (f y)) 0 (x ∷ xs) ≡ max (f x) (fold (λ most y. max most (f y)) 0 xs)
  most-cons x xs = omega (arith, most_from (max 0 (f x)) xs)

items_leaves_row : (n : _) (row : Row_of-Value n) → items_leaves row ≡ sum_by leaves (items-the_row-Value n row)
items_leaves_row n end_of-Value = refl
items_leaves_row n (more_of-Value v row) = ap (λ k. leaves v + k) (items_leaves_row _ row) ∙ sym (sum_by-cons leaves v (items-the_row-Value _ row))

parts_leaves_row : (n : _) (row : block.Row_of-MemberValue n) → parts_leaves row ≡ sum_by (in_part leaves) (block.items-the_row-MemberValue n row)
parts_leaves_row n block.end_of-MemberValue = refl
parts_leaves_row n (block.more_of-MemberValue m v row) =
    ap (λ k. leaves v + k) (parts_leaves_row _ row) ∙ sym (sum_by-cons (in_part leaves) (record { name = m; value = v }) (block.items-the_row-MemberValue _ row))

items_levels_row : (n : _) (row : Row_of-Value n) → items_levels row ≡ fold (λ most v. max most (levels v)) 0 (items-the_row-Value n row)
items_levels_row n end_of-Value = refl
items_levels_row n (more_of-Value v row) = ap (max (levels v)) (items_levels_row _ row) ∙ sym (most-cons levels v (items-the_row-Value _ row))

parts_levels_row : (n : _) (row : block.Row_of-MemberValue n) → parts_levels row ≡ fold (λ most p. max most (in_part levels p)) 0 (block.items-the_row-MemberValue n row)
parts_levels_row n block.end_of-MemberValue = refl
parts_levels_row n (block.more_of-MemberValue m v row) =
    ap (max (levels v)) (parts_levels_row _ row) ∙ sym (most-cons (in_part levels) (record { name = m; value = v }) (block.items-the_row-MemberValue _ row))

pub array_leaves : (items : List Value) → leaves (Array items) ≡ max 1 (sum_by leaves items)
array_leaves items =
    let row = items_of (Array items) in
    ap (max 1) (items_leaves_row row.0 row.1 ∙ ap (sum_by leaves) (items_hidden-the_row-Value-0 items))

pub struct_leaves : (parts : List MemberValue) → leaves (Struct parts) ≡ max 1 (sum_by (λ (p : MemberValue). leaves p.value) parts)
struct_leaves parts =
    let row = parts_of (Struct parts) in
    ap (max 1) (parts_leaves_row row.0 row.1 ∙ ap (sum_by (in_part leaves)) (block.items_hidden-the_row-MemberValue-1 parts))

pub array_levels : (items : List Value) → levels (Array items) ≡ suc (fold (λ most v. max most (levels v)) 0 items)
array_levels items =
    let row = items_of (Array items) in
    ap suc (items_levels_row row.0 row.1 ∙ ap (fold (λ most v. max most (levels v)) 0) (items_hidden-the_row-Value-0 items))

pub struct_levels : (parts : List MemberValue) → levels (Struct parts) ≡ suc (fold (λ most (p : MemberValue). max most (levels p.value)) 0 parts)
struct_levels parts =
    let row = parts_of (Struct parts) in
    ap suc (parts_levels_row row.0 row.1 ∙ ap (fold (λ most p. max most (in_part levels p)) 0) (block.items_hidden-the_row-MemberValue-1 parts))
