-- The leaves and levels of what is found.
use Rattle.std.proofs.Common.{◌≡◌, ℕ, ◌+◌, ◌≤◌, ℤ, Bool, List, [], ◌∷◌, map, sum, Option, Some, None, option_map, refl, sym, ap, subst, ◌∙◌, arith}
use Rattle.fp_base.specs.declared.value.Value.{Value, fold-Value, fold-roll-Value, Int, Bool as Truth, Text, Enumerated, Struct}
use Rattle.fp_base.specs.declared.value.Value.TheOpen as value
use Rattle.fp_base.specs.declared.value.Value.TheVariants.{rolls-Struct}
use Rattle.fp_base.specs.declared.value.MemberValue.{MemberValue, fold_out-MemberValue, fold-MemberValue}
use Rattle.fp_tree.specs.declared.source.Source.{Source}
use Rattle.fp_tree.specs.declared.expression.Assignment.{Assignment}
use Rattle.fp_meaning.specs.Names.{Path}
use Rattle.fp_meaning.specs.Values.{leaves, leaves_step, leaves_among, levels, levels_step, deepest, parts_with, values_in, Vals, more}
use Rattle.fp_consts.specs.declared.measured.Measured.{Measured}
use Rattle.fp_consts.specs.Examined.{IsMeasured, AreMeasured, plain, leaf_of, leaves_with}
use Rattle.fp_consts.proofs.Sizes.{number_leaves, number_levels, text_leaves, text_levels, truth_leaves, truth_levels, constant_leaves, constant_levels}

-- a value without parts
pub leaf_measured : (v : Value) → leaves v ≡ 1 → levels v ≡ 1 → IsMeasured (leaf_of v)
leaf_measured v n d = record {
  of_leaves = sym n;
  of_levels = sym d;
  within = record { of_leaves = omega arith; of_levels = omega arith };
}

pub number_measured : (n : ℤ) → IsMeasured (leaf_of (Int n))
number_measured n = leaf_measured (Int n) (number_leaves n) (number_levels n)

pub text_measured : (t : List ℕ) → IsMeasured (leaf_of (Text t))
text_measured t = leaf_measured (Text t) (text_leaves t) (text_levels t)

pub truth_measured : (b : Bool) → IsMeasured (leaf_of (Truth b))
truth_measured b = leaf_measured (Truth b) (truth_leaves b) (truth_levels b)

pub constant_measured : (of name : List ℕ) (n : ℤ) → IsMeasured (leaf_of (Enumerated of name n))
constant_measured of name n = leaf_measured (Enumerated of name n) (constant_leaves of name n) (constant_levels of name n)

pub some_measured : (m : Measured) → IsMeasured m → AreMeasured (Some m)
some_measured m is other e = let same : m ≡ other = cc in subst (λ (x : Measured). IsMeasured x) same is

pub none_measured : AreMeasured None
none_measured other e = cc

pub numbers_measured : (r : Option ℤ) → AreMeasured (option_map (λ n. leaf_of (Int n)) r)
numbers_measured None = none_measured
numbers_measured (Some n) = some_measured (leaf_of (Int n)) (number_measured n)

pub plain_numbers : (r : Option ℤ) → option_map (λ n. Int n) r ≡ plain (option_map (λ n. leaf_of (Int n)) r)
plain_numbers None = refl
plain_numbers (Some n) = refl

-- a list or struct
pub among_small : (ns : List ℕ) → sum ns ≤ 65536 → leaves_among ns ≤ 65536
among_small [] h = omega arith
among_small (n ∷ ns) h = h

pub among_was_small : (ns : List ℕ) → leaves_among ns ≤ 65536 → sum ns ≤ 65536
among_was_small [] h = omega arith
among_was_small (n ∷ ns) h = h

pub with_among : (n : ℕ) (vs : List Value) → n ≡ sum (map leaves vs) → leaves_with n vs ≡ leaves_among (map leaves vs)
with_among n [] h = refl
with_among n (v ∷ vs) h = h

abbrev part_step : value.MemberValue-F ℕ ℕ → ℕ
part_step p = p.value

-- the members' values under their names have the leaves and levels of the values
module _ (step : value.Value-F ℕ ℕ → ℕ) where
  abbrev pub parts_sizes : List MemberValue → List ℕ
  parts_sizes ps = map (fold-MemberValue ℕ ℕ step part_step) ps

  pub parts_same : {source : Source} {scope : Path} (ms : List Assignment) (vs : List Value) → Vals source scope (values_in ms) vs
      → parts_sizes (parts_with ms vs) ≡ map (fold-Value ℕ ℕ step part_step) vs
  parts_same [] [] h = refl
  parts_same [] (v ∷ vs) h = elim h [ ]
  parts_same (m ∷ ms) [] h = elim h [ ]
  parts_same (m ∷ ms) (v ∷ vs) (more x xs) = λ i. fold_out-MemberValue ℕ ℕ step part_step (record { name = m.name.text; value = v }) i ∷ parts_same ms vs xs i

pub struct_leaves : {source : Source} {scope : Path} (ms : List Assignment) (vs : List Value) → Vals source scope (values_in ms) vs
    → leaves (Struct (parts_with ms vs)) ≡ leaves_among (map leaves vs)
struct_leaves ms vs h =
    ap leaves (sym (rolls-Struct (parts_with ms vs))) ∙ fold-roll-Value ℕ ℕ leaves_step part_step (value.Struct (parts_with ms vs))
    ∙ ap leaves_among (parts_same leaves_step ms vs h)

pub struct_levels : {source : Source} {scope : Path} (ms : List Assignment) (vs : List Value) → Vals source scope (values_in ms) vs
    → levels (Struct (parts_with ms vs)) ≡ 1 + deepest (map levels vs)
struct_levels ms vs h =
    ap levels (sym (rolls-Struct (parts_with ms vs))) ∙ fold-roll-Value ℕ ℕ levels_step part_step (value.Struct (parts_with ms vs))
    ∙ ap (λ (ns : List ℕ). 1 + deepest ns) (parts_same levels_step ms vs h)
