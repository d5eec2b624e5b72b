-- The values of expressions are of the size that is asked of the values in a model.
use Rattle.std.proofs.Common.{◌≡◌, ℕ, suc, ◌+◌, ◌≤◌, true, List, [], ◌∷◌, map, refl, sym, ap, ◌∙◌, arith}
use Rattle.std.specs.Prelude.{max, nat_le, sum}
use Rattle.std.specs.List.{AllByRecursion}
use Rattle.std.proofs.lemmas.Bool.Decides.{nat_tests}
use Rattle.std.proofs.lemmas.List.Sums.{sum_by-cons}
use Rattle.fp_base.proofs.Lists.{same_joined}
use Rattle.fp_base.proofs.Bools.{join}
use Rattle.fp_base.proofs.Numbers.{suc_is}
use Rattle.fp_base.proofs.Texts.{items_of, parts_of}
use Rattle.fp_base.specs.declared.value.Value.{Value, Int, Bool as Truth, Text, Enumerated, Array', Struct', Opaque, Row_of-Value, more_of-Value, end_of-Value, items-the_row-Value, items_hidden-the_row-Value-0}
use Rattle.fp_base.specs.declared.value.Value.TheViews.{Array, Struct}
use Rattle.fp_base.specs.declared.value.Value.TheBlock as block
use Rattle.fp_base.specs.declared.value.MemberValue.{MemberValue}
use Rattle.fp_tree.specs.declared.source.Source.{Source}
use Rattle.fp_tree.specs.declared.expression.Expr.{Expr}
use Rattle.fp_tree.specs.declared.expression.Assignment.{Assignment}
use Rattle.fp_tables.specs.Types.{is_of_size, items_leaves, items_levels, leaves, levels, parts_leaves, parts_levels}
use Rattle.fp_meaning.specs.Names.{Path}
use Rattle.fp_meaning.specs.Values.{Opened, IsWithinSize, Val, Vals, number, text, truth, constant, written, implied, negated, combined, enclosed, listed, structured, none, more, deepest, leaves_among, parts_with, values_in}
use Rattle.fp_meaning.specs.Values as meaning
use Rattle.fp_consts.proofs.Measures.{struct_leaves, struct_levels}
use Rattle.fp_consts.proofs.Sizes.{array_leaves, array_levels, number_leaves, number_levels, text_leaves, text_levels, truth_leaves, truth_levels, constant_leaves, constant_levels}

-- ---- sums by recursion

abbrev total : List ℕ → ℕ
total [] = 0
total (n ∷ ns) = n + total ns

sum_total : (ns : List ℕ) → sum ns ≡ total ns
sum_total [] = refl
sum_total (n ∷ ns) = sum_by-cons (λ (x : ℕ). x) n ns ∙ ap (λ (m : ℕ). n + m) (sum_total ns)

abbrev AreSome : List ℕ → Type 0
AreSome ns = AllByRecursion (λ (n : ℕ). 1 ≤ n) ns

some_more : (n m : ℕ) → 1 ≤ n → n + m ≡ max 1 (n + m)
some_more n m h = omega arith

among_total : (ns : List ℕ) → AreSome ns → leaves_among ns ≡ max 1 (total ns)
among_total [] h = refl
among_total (n ∷ ns) h = sum_total (n ∷ ns) ∙ some_more n (total ns) h.0

-- ---- of arrays and structs

items_total : (n : _) (row : Row_of-Value n) → items_leaves row ≡ total (map leaves (items-the_row-Value n row))
items_total n end_of-Value = refl
items_total n (more_of-Value v row) = ap (λ (m : ℕ). leaves v + m) (items_total _ row)

items_deepest : (n : _) (row : Row_of-Value n) → items_levels row ≡ deepest (map levels (items-the_row-Value n row))
items_deepest n end_of-Value = refl
items_deepest n (more_of-Value v row) = ap (λ (m : ℕ). max (levels v) m) (items_deepest _ row)

parts_total : (n : _) (row : block.Row_of-MemberValue n) → parts_leaves row ≡ total (map (λ (p : MemberValue). leaves p.value) (block.items-the_row-MemberValue n row))
parts_total n block.end_of-MemberValue = refl
parts_total n (block.more_of-MemberValue m v row) = ap (λ (k : ℕ). leaves v + k) (parts_total _ row)

parts_deepest : (n : _) (row : block.Row_of-MemberValue n) → parts_levels row ≡ deepest (map (λ (p : MemberValue). levels p.value) (block.items-the_row-MemberValue n row))
parts_deepest n block.end_of-MemberValue = refl
parts_deepest n (block.more_of-MemberValue m v row) = ap (λ (k : ℕ). max (levels v) k) (parts_deepest _ row)

list_leaves : (vs : List Value) → leaves (Array vs) ≡ max 1 (total (map leaves vs))
list_leaves vs =
    let row = items_of (Array vs) in
    ap (λ (n : ℕ). max 1 n) (items_total row.0 row.1 ∙ ap (λ (xs : List Value). total (map leaves xs)) (items_hidden-the_row-Value-0 vs))

list_levels : (vs : List Value) → levels (Array vs) ≡ suc (deepest (map levels vs))
list_levels vs =
    let row = items_of (Array vs) in
    ap suc (items_deepest row.0 row.1 ∙ ap (λ (xs : List Value). deepest (map levels xs)) (items_hidden-the_row-Value-0 vs))

record_leaves : (ps : List MemberValue) → leaves (Struct ps) ≡ max 1 (total (map (λ (p : MemberValue). leaves p.value) ps))
record_leaves ps =
    let row = parts_of (Struct ps) in
    ap (λ (n : ℕ). max 1 n) (parts_total row.0 row.1 ∙ ap (λ (xs : List MemberValue). total (map (λ (p : MemberValue). leaves p.value) xs)) (block.items_hidden-the_row-MemberValue-1 ps))

record_levels : (ps : List MemberValue) → levels (Struct ps) ≡ suc (deepest (map (λ (p : MemberValue). levels p.value) ps))
record_levels ps =
    let row = parts_of (Struct ps) in
    ap suc (parts_deepest row.0 row.1 ∙ ap (λ (xs : List MemberValue). deepest (map (λ (p : MemberValue). levels p.value) xs)) (block.items_hidden-the_row-MemberValue-1 ps))

-- the values of members are those that stand there
members_mapped : {source : Source} {scope : Path} (f : Value → ℕ) (ms : List Assignment) (vs : List Value) → Vals source scope (values_in ms) vs
    → map (λ (p : MemberValue). f p.value) (parts_with ms vs) ≡ map f vs
members_mapped f [] [] h = refl
members_mapped f [] (v ∷ vs) h = elim h [ ]
members_mapped f (m ∷ ms) [] h = elim h [ ]
members_mapped f (m ∷ ms) (v ∷ vs) (more x xs) = ap (λ (ns : List ℕ). f v ∷ ns) (members_mapped f ms vs xs)

-- ---- a value has a leaf

has_leaf : (v : Value) → 1 ≤ leaves v
has_leaf (Array' m vs) = omega arith
has_leaf (Struct' m ps) = omega arith
has_leaf (Int n) = omega arith
has_leaf (Truth b) = omega arith
has_leaf (Text t) = omega arith
has_leaf (Enumerated of name n) = omega arith
has_leaf Opaque = omega arith

have_leaves : (vs : List Value) → AreSome (map leaves vs)
have_leaves [] = tt
have_leaves (v ∷ vs) = (has_leaf v, have_leaves vs)

-- ---- the values of expressions

-- the two ways of counting give the same, and few
record IsCounted (v : Value) : Type 0 where
  same_leaves : leaves v ≡ meaning.leaves v
  same_levels : levels v ≡ meaning.levels v
  few : leaves v ≤ 65536
  low : levels v ≤ 64

record AreCounted (vs : List Value) : Type 0 where
  all_leaves : map leaves vs ≡ map meaning.leaves vs
  all_levels : map levels vs ≡ map meaning.levels vs

one_leaf : (v : Value) → leaves v ≡ 1 → levels v ≡ 1 → meaning.leaves v ≡ 1 → meaning.levels v ≡ 1 → IsCounted v
one_leaf v a b c d = record { same_leaves = a ∙ sym c; same_levels = b ∙ sym d; few = omega arith; low = omega arith }

at_most : (a b n : ℕ) → a ≡ b → b ≤ n → a ≤ n
at_most a b n e h = omega arith

counted_as : (v : Value) → leaves v ≡ meaning.leaves v → levels v ≡ meaning.levels v → IsWithinSize v → IsCounted v
counted_as v a b size =
    record { same_leaves = a; same_levels = b; few = at_most (leaves v) (meaning.leaves v) 65536 a size.of_leaves; low = at_most (levels v) (meaning.levels v) 64 b size.of_levels }

list_counted : (vs : List Value) → AreCounted vs → IsWithinSize (Array vs) → IsCounted (Array vs)
list_counted vs all size =
    counted_as (Array vs)
    (list_leaves vs ∙ sym (among_total (map leaves vs) (have_leaves vs)) ∙ ap leaves_among all.all_leaves ∙ sym (array_leaves vs))
    (list_levels vs ∙ suc_is (deepest (map levels vs)) ∙ ap (λ (ns : List ℕ). 1 + deepest ns) all.all_levels ∙ sym (array_levels vs)) size

record_counted : {source : Source} {scope : Path} (ms : List Assignment) (vs : List Value) → Vals source scope (values_in ms) vs → AreCounted vs → IsWithinSize (Struct (parts_with ms vs))
    → IsCounted (Struct (parts_with ms vs))
record_counted ms vs h all size =
    counted_as (Struct (parts_with ms vs))
    (record_leaves (parts_with ms vs) ∙ ap (λ (ns : List ℕ). max 1 (total ns)) (members_mapped leaves ms vs h) ∙ sym (among_total (map leaves vs) (have_leaves vs))
    ∙ ap leaves_among all.all_leaves ∙ sym (struct_leaves ms vs h))
    (record_levels (parts_with ms vs) ∙ ap (λ (ns : List ℕ). suc (deepest ns)) (members_mapped levels ms vs h) ∙ suc_is (deepest (map levels vs))
    ∙ ap (λ (ns : List ℕ). 1 + deepest ns) all.all_levels ∙ sym (struct_levels ms vs h)) size

number_counted : (n : _) → IsCounted (Int n)
number_counted n = one_leaf (Int n) refl refl (number_leaves n) (number_levels n)

constant_counted : (of name : List ℕ) (n : _) → IsCounted (Enumerated of name n)
constant_counted of name n = one_leaf (Enumerated of name n) refl refl (constant_leaves of name n) (constant_levels of name n)

module _ (source : Source) where
  mutual
    counted : (scope : Path) (s : Opened) (v : Value) → Val source scope s v → IsCounted v
    counted scope s v (number {n = n}) = number_counted n
    counted scope s v (text {t = t}) = one_leaf (Text t) refl refl (text_leaves t) (text_levels t)
    counted scope s v (truth {b = b}) = one_leaf (Truth b) refl refl (truth_leaves b) (truth_levels b)
    counted scope s v (constant m h) = counted _ _ v h
    counted scope s v (written m is h e) = constant_counted _ _ _
    counted scope s v (implied m is i) = constant_counted _ _ _
    counted scope s v (negated h e f) = number_counted _
    counted scope s v (combined h e k f r) = number_counted _
    counted scope s v (enclosed h) = counted _ _ v h
    counted scope s v (listed {vs = vs} hs size) = list_counted vs (all_counted _ _ vs hs) size
    counted scope s v (structured {members = ms} {vs = vs} hs size) = record_counted ms vs hs (all_counted _ _ vs hs) size

    all_counted : (scope : Path) (es : List Expr) (vs : List Value) → Vals source scope es vs → AreCounted vs
    all_counted scope es vs none = record { all_leaves = refl; all_levels = refl }
    all_counted scope es vs (more {v = v} {vs = ws} h hs) =
        let one = counted _ _ v h in
        let rest = all_counted _ _ ws hs in
        record { all_leaves = same_joined one.same_leaves rest.all_leaves; all_levels = same_joined one.same_levels rest.all_levels }

tested : (n most : ℕ) → n ≤ most → nat_le n most ≡ true
tested n most h = grind (arith, nat_tests)

pub values_sized : (source : Source) (scope : Path) (s : Opened) (v : Value) → Val source scope s v → is_of_size v ≡ true
values_sized source scope s v h =
    let c = counted source scope s v h in
    join (nat_le (leaves v) 65536) (nat_le (levels v) 64) (tested (leaves v) 65536 c.few) (tested (levels v) 64 c.low)
