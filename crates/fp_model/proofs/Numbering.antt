-- The order of definitions by what stands before them, and that it names what is there.
use Rattle.std.proofs.Common.{◌≡◌, ℕ, ◌+◌, ◌<◌, true, ◌&&◌, List, [], ◌∷◌, ◌++◌, length, flat_map, refl, sym, ap, ◌∙◌, arith, append_assoc, length-append}
use Rattle.std.specs.Prelude.{nat_lt}
use Rattle.std.specs.List.{list_all}
use Rattle.std.proofs.lemmas.Bool.Decides.{nat_tests}
use Rattle.std.proofs.lemmas.Grind.{flat_map-append}
use Rattle.std.proofs.lemmas.List.{append-nil}
use Rattle.std.proofs.Math.Nat.{add-zero}
use Rattle.fp_base.proofs.Bools.{join}
use Rattle.fp_base.proofs.Passing.{all_joined}
use Rattle.fp_tree.specs.declared.definition.Def.{Def}
use Rattle.fp_tree.specs.declared.definition.Def.TheVariants as def
use Rattle.fp_tables.specs.Positions.{item_lies}
use Rattle.fp_tables.specs.declared.model.Item.{Item as Ordered}
use Rattle.fp_tables.specs.declared.model.Model.{Model}
use Rattle.fp_meaning.specs.declared.item.Item.{Item}
use Rattle.fp_meaning.specs.declared.item.Item.TheVariants as item
use Rattle.fp_meaning.specs.Sites.{ModelDef, Path, component, declaration, instance, interface, machine, site, topology}
use Rattle.fp_type_forms.specs.Written.{types_in, types_of}
use Rattle.fp_component_forms.specs.Written.{component_in, component_declared, port_in, port_declared}
use Rattle.fp_source_parts.specs.Machines.{machine_in, machine_declared}
use Rattle.fp_topology_forms.specs.Written.{instance_in, instance_of, topology_in, topology_of}
use Rattle.fp_model.specs.declared.ordering.Counts.{Counts}
use Rattle.fp_model.specs.Counted.{counted, counted_model, counted_with, none_before, order_by, order_by_model, order_from, order_with}
use Rattle.fp_model.specs.Definitions.{constants_in, constants_of, order_behind, order_declared, order_in, order_of}

-- how many an item adds
module _ {A : Type 0} (f : Item → List A) where
  with_one : (before : List Item) (i : Item) → length (flat_map f (before ++ i ∷ [])) ≡ length (flat_map f before) + length (f i)
  with_one before i =
      ap (λ (xs : List A). length xs) (flat_map-append f before (i ∷ []) ∙ ap (λ (xs : List A). flat_map f before ++ xs) (append-nil (f i)))
      ∙ length-append (flat_map f before) (f i)

  within : (before is : List Item) (i : Item) (n : ℕ) → length (flat_map f (before ++ i ∷ is)) ≡ n → length (f i) ≡ 1 → length (flat_map f before) < n
  within before is i n e one =
      let whole : length (flat_map f (before ++ i ∷ is)) ≡ length (flat_map f before ++ (f i ++ flat_map f is)) = ap (λ (xs : List A). length xs) (flat_map-append f before (i ∷ is)) in
      let long = length-append (flat_map f before) (f i ++ flat_map f is) in
      let rest = length-append (f i) (flat_map f is) in
      omega (arith, whole, long, rest, e, one)

abbrev pub so_many : ℕ → ℕ → ℕ → ℕ → ℕ → ℕ → ℕ → Counts
so_many a b c d e f g = record { constants = a; kinds = b; ports = c; components = d; machines = e; instances = f; topologies = g }

abbrev pub counts_of : List Item → Counts
counts_of before =
    so_many (length (flat_map constants_of before)) (length (flat_map types_of before)) (length (flat_map port_declared before)) (length (flat_map component_declared before)) (length (flat_map machine_declared before))
    (length (flat_map instance_of before)) (length (flat_map topology_of before))

same_counts : {a b c d e f g h x y u v s t : ℕ} → a ≡ b → c ≡ d → e ≡ f → g ≡ h → x ≡ y → u ≡ v → s ≡ t → so_many a c e g x u s ≡ so_many b d f h y v t
same_counts {b = b} {c = c} {d = d} {e = e} {f = f} {g = g} {h = h} {x = x} {y = y} {u = u} {v = v} {s = s} i j k l m n o =
    ap (λ (n : ℕ). so_many n c e g x u s) i ∙ ap (λ (n : ℕ). so_many b n e g x u s) j ∙ ap (λ (n : ℕ). so_many b d n g x u s) k ∙ ap (λ (n : ℕ). so_many b d f n x u s) l
    ∙ ap (λ (n : ℕ). so_many b d f h n u s) m ∙ ap (λ (w : ℕ). so_many b d f h y w s) n ∙ ap (λ (w : ℕ). so_many b d f h y v w) o

module _ (a b c e x u v : ℕ) where
  none_more : so_many (a + 0) (b + 0) (c + 0) (e + 0) (x + 0) (u + 0) (v + 0) ≡ so_many a b c e x u v
  none_more = same_counts (add-zero a) (add-zero b) (add-zero c) (add-zero e) (add-zero x) (add-zero u) (add-zero v)

  counted_definition : (s : Path) (d : Def) → so_many (a + length (constants_in s d)) (b + length (types_in s d)) (c + length (port_in s d)) (e + 0) (x + 0) (u + 0) (v + 0) ≡ counted (so_many a b c e x u v) d
  counted_definition s (def.Constant d) = same_counts refl (add-zero b) (add-zero c) (add-zero e) (add-zero x) (add-zero u) (add-zero v)
  counted_definition s (def.Abstract d) = same_counts (add-zero a) refl (add-zero c) (add-zero e) (add-zero x) (add-zero u) (add-zero v)
  counted_definition s (def.Alias d) = same_counts (add-zero a) refl (add-zero c) (add-zero e) (add-zero x) (add-zero u) (add-zero v)
  counted_definition s (def.Array d) = same_counts (add-zero a) refl (add-zero c) (add-zero e) (add-zero x) (add-zero u) (add-zero v)
  counted_definition s (def.Struct d) = same_counts (add-zero a) refl (add-zero c) (add-zero e) (add-zero x) (add-zero u) (add-zero v)
  counted_definition s (def.Enum d) = same_counts (add-zero a) refl (add-zero c) (add-zero e) (add-zero x) (add-zero u) (add-zero v)
  counted_definition s (def.Port d) = same_counts (add-zero a) (add-zero b) refl (add-zero e) (add-zero x) (add-zero u) (add-zero v)

  counted_declared : (s : Path) (d : ModelDef)
      → so_many (a + 0) (b + 0) (c + 0) (e + length (component_in s d)) (x + length (machine_in s d)) (u + length (instance_in s d)) (v + length (topology_in s d)) ≡ counted_model (so_many a b c e x u v) d
  counted_declared s (component d) = same_counts (add-zero a) (add-zero b) (add-zero c) refl (add-zero x) (add-zero u) (add-zero v)
  counted_declared s (machine d) = same_counts (add-zero a) (add-zero b) (add-zero c) (add-zero e) refl (add-zero u) (add-zero v)
  counted_declared s (interface d) = none_more
  counted_declared s (instance d) = same_counts (add-zero a) (add-zero b) (add-zero c) (add-zero e) (add-zero x) refl (add-zero v)
  counted_declared s (topology d) = same_counts (add-zero a) (add-zero b) (add-zero c) (add-zero e) (add-zero x) (add-zero u) refl

  counted_item : (i : Item)
      → so_many (a + length (constants_of i)) (b + length (types_of i)) (c + length (port_declared i)) (e + length (component_declared i)) (x + length (machine_declared i)) (u + length (instance_of i)) (v + length (topology_of i))
      ≡ counted_with (so_many a b c e x u v) i
  counted_item (item.Defined s) = counted_definition s.scope s.definition
  counted_item (item.Enumerated n) = none_more
  counted_item (item.Declared d) = counted_declared d.scope d.definition
  counted_item (item.Used since n) = none_more
  counted_item (item.Written since p) = none_more

one_counted : (before : List Item) (i : Item) → counts_of (before ++ i ∷ []) ≡ counted_with (counts_of before) i
one_counted before i =
    same_counts (with_one constants_of before i) (with_one types_of before i) (with_one port_declared before i) (with_one component_declared before i) (with_one machine_declared before i)
    (with_one instance_of before i) (with_one topology_of before i)
    ∙ counted_item (length (flat_map constants_of before)) (length (flat_map types_of before)) (length (flat_map port_declared before)) (length (flat_map component_declared before)) (length (flat_map machine_declared before))
    (length (flat_map instance_of before)) (length (flat_map topology_of before)) i

one_order : (before : List Item) (i : Item) → order_with (counts_of before) i ≡ order_of before i
one_order before (item.Defined s) = of_definition s.definition
  where
    of_definition : (d : Def) → order_by (counts_of before) d ∷ [] ≡ order_in before d ∷ []
    of_definition (def.Constant d) = refl
    of_definition (def.Abstract d) = refl
    of_definition (def.Alias d) = refl
    of_definition (def.Array d) = refl
    of_definition (def.Struct d) = refl
    of_definition (def.Enum d) = refl
    of_definition (def.Port d) = refl
one_order before (item.Enumerated e) = refl
one_order before (item.Declared d) = of_declared d.definition
  where
    of_declared : (d : ModelDef) → order_by_model (counts_of before) d ≡ order_declared before d
    of_declared (component d) = refl
    of_declared (machine d) = refl
    of_declared (interface d) = refl
    of_declared (instance d) = refl
    of_declared (topology d) = refl
one_order before (item.Used since n) = refl
one_order before (item.Written since p) = refl

order_same : (before is : List Item) → order_from (counts_of before) is ≡ order_behind before is
order_same before [] = refl
order_same before (i ∷ is) =
    ap (λ (os : List Ordered). os ++ order_from (counted_with (counts_of before) i) is) (one_order before i)
    ∙ ap (λ (os : List Ordered). order_of before i ++ os) (ap (λ (n : Counts). order_from n is) (sym (one_counted before i)) ∙ order_same (before ++ i ∷ []) is)

pub order_behind_nothing : (is : List Item) → order_from none_before is ≡ order_behind [] is
order_behind_nothing is = order_same [] is

-- ---- each names a definition of its sort

module _ (m : Model) (all : List Item) (constants : length (flat_map constants_of all) ≡ length m.constants) (types : length (flat_map types_of all) ≡ length m.types)
    (ports : length (flat_map port_declared all) ≡ length m.ports) (components : length (flat_map component_declared all) ≡ length m.components)
    (machines : length (flat_map machine_declared all) ≡ length m.machines) (instances : length (flat_map instance_of all) ≡ length m.instances)
    (topologies : length (flat_map topology_of all) ≡ length m.topologies) where
  below : (a b : ℕ) → a < b → (nat_lt a b && true) ≡ true
  below a b h = join (nat_lt a b) true (grind (arith, nat_tests)) refl

  one_lies : (before is : List Item) (i : Item) → before ++ i ∷ is ≡ all → list_all (item_lies m) (order_of before i) ≡ true
  one_lies before is (item.Defined s) e = of_definition s.scope s.definition e
    where
      of_definition : (s : Path) (d : Def) → before ++ item.Defined (site s d) ∷ is ≡ all → list_all (item_lies m) (order_in before d ∷ []) ≡ true
      of_definition s (def.Constant d) e = below _ _ (within constants_of before is _ _ (ap (λ (xs : List Item). length (flat_map constants_of xs)) e ∙ constants) refl)
      of_definition s (def.Abstract d) e = below _ _ (within types_of before is _ _ (ap (λ (xs : List Item). length (flat_map types_of xs)) e ∙ types) refl)
      of_definition s (def.Alias d) e = below _ _ (within types_of before is _ _ (ap (λ (xs : List Item). length (flat_map types_of xs)) e ∙ types) refl)
      of_definition s (def.Array d) e = below _ _ (within types_of before is _ _ (ap (λ (xs : List Item). length (flat_map types_of xs)) e ∙ types) refl)
      of_definition s (def.Struct d) e = below _ _ (within types_of before is _ _ (ap (λ (xs : List Item). length (flat_map types_of xs)) e ∙ types) refl)
      of_definition s (def.Enum d) e = below _ _ (within types_of before is _ _ (ap (λ (xs : List Item). length (flat_map types_of xs)) e ∙ types) refl)
      of_definition s (def.Port d) e = below _ _ (within port_declared before is _ _ (ap (λ (xs : List Item). length (flat_map port_declared xs)) e ∙ ports) refl)
  one_lies before is (item.Enumerated x) e = refl
  one_lies before is (item.Declared d) e = of_declared d.scope d.definition e
    where
      of_declared : (s : Path) (d : ModelDef) → before ++ item.Declared (declaration s d) ∷ is ≡ all → list_all (item_lies m) (order_declared before d) ≡ true
      of_declared s (component d) e = below _ _ (within component_declared before is _ _ (ap (λ (xs : List Item). length (flat_map component_declared xs)) e ∙ components) refl)
      of_declared s (machine d) e = below _ _ (within machine_declared before is _ _ (ap (λ (xs : List Item). length (flat_map machine_declared xs)) e ∙ machines) refl)
      of_declared s (interface d) e = refl
      of_declared s (instance d) e = below _ _ (within instance_of before is _ _ (ap (λ (xs : List Item). length (flat_map instance_of xs)) e ∙ instances) refl)
      of_declared s (topology d) e = below _ _ (within topology_of before is _ _ (ap (λ (xs : List Item). length (flat_map topology_of xs)) e ∙ topologies) refl)
  one_lies before is (item.Used since n) e = refl
  one_lies before is (item.Written since p) e = refl

  order_lies_behind : (before is : List Item) → before ++ is ≡ all → list_all (item_lies m) (order_behind before is) ≡ true
  order_lies_behind before [] e = refl
  order_lies_behind before (i ∷ is) e =
      all_joined (item_lies m) (order_of before i) (order_behind (before ++ i ∷ []) is) (one_lies before is i e)
      (order_lies_behind (before ++ i ∷ []) is (append_assoc before (i ∷ []) is ∙ e))

  pub order_lies : list_all (item_lies m) (order_behind [] all) ≡ true
  order_lies = order_lies_behind [] all refl
