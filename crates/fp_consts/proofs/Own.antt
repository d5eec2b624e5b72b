-- A definition with a value uses what stands in the expression that gives it, and nothing else.
use Rattle.std.proofs.Common.{◌≡◌, ℕ, zero, suc, ◌+◌, ◌-◌, ◌<◌, ◌⊎◌, inl, inr, List, [], ◌∷◌, ◌++◌, length, replicate, flat_map, slice_get, Option, Some, None, refl, sym, ap, subst, ◌∙◌, arith, length-append, append_assoc}
use Rattle.std.specs.List.{Contains}
use Rattle.std.proofs.lemmas.List.{append-nil, length-replicate}
use Rattle.std.proofs.lemmas.List.Elements.{Contains-get_or}
use Rattle.std.proofs.lemmas.Option.{slice_get_within, get_or_from_slice_get}
use Rattle.fp_base.proofs.Lists.{get_front}
use Rattle.fp_base.proofs.Options.{same_some}
use Rattle.fp_graph.proofs.Places.{get_joined}
use Rattle.fp_tree.specs.declared.source.Source.{Source}
use Rattle.fp_tree.specs.declared.definition.Def.{Def}
use Rattle.fp_tree.specs.declared.definition.Def.TheVariants as def
use Rattle.fp_tree.specs.declared.definition.Enum.{Enum}
use Rattle.fp_tree.specs.declared.expression.Expr.{Expr}
use Rattle.fp_tree.specs.declared.part.EnumConst.{EnumConst}
use Rattle.fp_meaning.specs.declared.group.Group.{Group}
use Rattle.fp_meaning.specs.declared.group.Group.TheVariants as group
use Rattle.fp_meaning.specs.declared.item.Item.{Item}
use Rattle.fp_meaning.specs.declared.item.Item.TheVariants as item
use Rattle.fp_meaning.specs.declared.names.Mention.{Mention}
use Rattle.fp_meaning.specs.Sites.{Path, value_in}
use Rattle.fp_meaning.specs.Layout.{items}
use Rattle.fp_meaning.specs.Names.{definitions, definitions_of, in_expression, in_optional, uses_of}
use Rattle.fp_meaning.specs.Meaning.{Means}
use Rattle.fp_meaning.specs.Origins.{Placed, placed_optional, Origin, Constant, Enumerated, NoValue, origin_with, origins_of, origins, written_in}
use Rattle.fp_meaning.specs.Owners.{owner_of, owners_from, constants_in, counts_of}
use Rattle.fp_meaning.specs.Uses.{Uses, by_name, by_constant}
use Rattle.fp_consts.proofs.Apart.{AreApart, source_apart}
use Rattle.fp_consts.proofs.Grouped.{value_names}
use Rattle.fp_consts.proofs.Valued.{the_head}

abbrev pub in_placed : Placed → List Mention
in_placed p = in_expression p.scope p.expression

-- the uses of an item that is a definition are those of what is written there
abbrev pub uses_there : Origin → List Mention
uses_there origin = in_optional in_placed (written_in origin)

pub item_uses : (i : Item) (origin : Origin) → origins_of i ≡ origin ∷ [] → uses_of i ≡ uses_there origin
item_uses (item.Defined s) origin gives = with_value (value_in s.definition) ∙ ap uses_there (the_head gives)
  where
    with_value : (o : Option Expr) → in_optional (in_expression s.scope) o ≡ uses_there (origin_with s.scope o)
    with_value None = refl
    with_value (Some e) = refl
item_uses (item.Enumerated e) origin gives = with_value e.constant.value ∙ ap uses_there (the_head gives)
  where
    with_value : (o : Option Expr) → in_optional (in_expression e.scope) o ≡ in_optional in_placed (placed_optional e.scope o)
    with_value None = refl
    with_value (Some x) = refl
item_uses (item.Declared d) origin gives = ap uses_there (the_head gives)
item_uses (item.Used since n) origin gives = cc
item_uses (item.Written since w) origin gives = cc

-- ---- which origins have a value

abbrev no_value : Origin → Type 0
no_value NoValue = Unit {0}
no_value (Constant scope e) = ⊥
no_value (Enumerated scope enum position c) = ⊥

pub constant_valued : {scope : Path} {e : Expr} → Constant scope e ≡ NoValue → ⊥
constant_valued is = subst no_value (sym is) tt

pub enumerated_valued : {scope : Path} {enum : Enum} {position : ℕ} {c : EnumConst} → Enumerated scope enum position c ≡ NoValue → ⊥
enumerated_valued is = subst no_value (sym is) tt

-- ---- the owner of a use

in_replicate : (n x k v : ℕ) → slice_get (replicate n x) k ≡ Some v → x ≡ v
in_replicate zero x k v e = cc
in_replicate (suc n) x zero v e = cc
in_replicate (suc n) x (suc k) v e = in_replicate n x k v e

many_at : (n x k v : ℕ) → slice_get (replicate n x) k ≡ Some v → k < n
many_at n x k v e = let lt = slice_get_within (replicate n x) k v e in let long = length-replicate n x in omega arith

here_at : (xs : List Origin) (x : Origin) (ys : List Origin) → slice_get (xs ++ (x ∷ ys)) (length xs) ≡ Some x
here_at [] x ys = refl
here_at (y ∷ xs) x ys = here_at xs x ys

-- the first item's uses are those of an origin that its owner has
here_by : (before rest : List Origin) (i : Item) (is : List Item) → AreApart before (i ∷ is) → (o : Origin)
    → slice_get (before ++ (origins_of i ++ rest)) (owner_of (length before) i) ≡ Some o → (o ≡ NoValue → ⊥) → uses_of i ≡ uses_there o
here_by before rest (item.Defined s) is apart o at valued =
    item_uses (item.Defined s) o (ap (λ (x : Origin). x ∷ []) (same_some (sym (here_at before (origin_with s.scope (value_in s.definition)) rest) ∙ at)))
here_by before rest (item.Enumerated e) is apart o at valued =
    item_uses (item.Enumerated e) o (ap (λ (x : Origin). x ∷ []) (same_some (sym (here_at before (Enumerated e.scope e.enumeration e.position e.constant) rest) ∙ at)))
here_by before rest (item.Declared d) is apart o at valued = absurd (valued (same_some (sym at ∙ here_at before NoValue rest)))
here_by before rest (item.Used since n) is apart o at valued =
    absurd (valued (sym (same_some (sym (get_front before rest (length before - 1 - since) NoValue apart.0) ∙ at))))
here_by before rest (item.Written since w) is apart o at valued =
    absurd (valued (sym (same_some (sym (get_front before rest (length before - 1 - since) NoValue apart.0) ∙ at))))

-- the rest stands behind the definitions so far
rest_apart : (before : List Origin) (i : Item) (is : List Item) → AreApart before (i ∷ is) → AreApart (before ++ origins_of i) is
rest_apart before (item.Defined s) is h = h
rest_apart before (item.Enumerated e) is h = h
rest_apart before (item.Declared d) is h = h
rest_apart before (item.Used since n) is h = subst (λ (os : List Origin). AreApart os is) (sym (append-nil before)) h.1
rest_apart before (item.Written since w) is h = subst (λ (os : List Origin). AreApart os is) (sym (append-nil before)) h.1

as_many : (i : Item) → length (definitions_of i) ≡ length (origins_of i)
as_many (item.Defined s) = refl
as_many (item.Enumerated e) = refl
as_many (item.Declared d) = refl
as_many (item.Used since n) = refl
as_many (item.Written since w) = refl

abbrev IsThere : Origin → Mention → Type 0
IsThere o m = (i : ℕ) × (slice_get (uses_there o) i ≡ Some m)

own_from : (before : List Origin) (is : List Item) → AreApart before is → (k user : ℕ) (m : Mention) (o : Origin)
    → slice_get (owners_from (length before) is) k ≡ Some user → slice_get (flat_map uses_of is) k ≡ Some m
    → slice_get (before ++ flat_map origins_of is) user ≡ Some o → (o ≡ NoValue → ⊥) → IsThere o m
own_from before [] apart k user m o owned used at valued = cc
own_from before (i ∷ is) apart k user m o owned used at valued =
    go (get_joined (replicate n x) (owners_from (length before + length (definitions_of i)) is) user k owned) (get_joined (uses_of i) (flat_map uses_of is) m k used)
    (λ j owned_so used_so. own_from (before ++ origins_of i) is (rest_apart before i is apart) j user m o
    (subst (λ (b : ℕ). slice_get (owners_from b is) j ≡ Some user) long owned_so) used_so
    (subst (λ (os : List Origin). slice_get os user ≡ Some o) (sym (append_assoc before (origins_of i) (flat_map origins_of is))) at) valued)
  where
    n : ℕ
    n = length (uses_of i)

    x : ℕ
    x = owner_of (length before) i

    long : length before + length (definitions_of i) ≡ length (before ++ origins_of i)
    long = let many = as_many i in let both = length-append before (origins_of i) in omega arith

    go : (slice_get (replicate n x) k ≡ Some user) ⊎ ((j : ℕ) × (k ≡ length (replicate n x) + j) × (slice_get (owners_from (length before + length (definitions_of i)) is) j ≡ Some user))
        → (slice_get (uses_of i) k ≡ Some m) ⊎ ((j : ℕ) × (k ≡ length (uses_of i) + j) × (slice_get (flat_map uses_of is) j ≡ Some m))
        → ((j : ℕ) → slice_get (owners_from (length before + length (definitions_of i)) is) j ≡ Some user → slice_get (flat_map uses_of is) j ≡ Some m → IsThere o m)
        → IsThere o m
    go (inl h) (inl u) next =
        let mine : x ≡ user = in_replicate n x k user h in
        let same : uses_of i ≡ uses_there o =
        here_by before (flat_map origins_of is) i is apart o (subst (λ (v : ℕ). slice_get (before ++ (origins_of i ++ flat_map origins_of is)) v ≡ Some o) (sym mine) at) valued in
        (k, ap (λ (ms : List Mention). slice_get ms k) (sym same) ∙ u)
    go (inl h) (inr (j, e, u)) next = let lt = many_at n x k user h in absurd (omega arith)
    go (inr (j, e, h)) (inl u) next =
        let lt = slice_get_within (uses_of i) k m u in
        let many = length-replicate n x in
        absurd (omega arith)
    go (inr (j, e, h)) (inr (l, f, u)) next =
        let many = length-replicate n x in
        let same : l ≡ j = omega arith in
        next j h (subst (λ (v : ℕ). slice_get (flat_map uses_of is) v ≡ Some m) same u)

-- ---- an enumeration has no value

none_with_constants : (d : Def) → 0 < constants_in d → value_in d ≡ None
none_with_constants (def.Constant d) h = absurd (omega arith)
none_with_constants (def.Abstract d) h = refl
none_with_constants (def.Alias d) h = refl
none_with_constants (def.Array d) h = refl
none_with_constants (def.Struct d) h = refl
none_with_constants (def.Enum d) h = refl
none_with_constants (def.Port d) h = refl

counted_from : (is : List Item) (user n : ℕ) (o : Origin) → slice_get (flat_map counts_of is) user ≡ Some n → slice_get (flat_map origins_of is) user ≡ Some o → 0 < n → o ≡ NoValue
counted_from [] user n o c at lt = cc
counted_from (item.Used since x ∷ is) user n o c at lt = counted_from is user n o c at lt
counted_from (item.Written since w ∷ is) user n o c at lt = counted_from is user n o c at lt
counted_from (item.Defined s ∷ is) zero n o c at lt =
    let count : constants_in s.definition ≡ n = same_some c in
    sym (same_some at) ∙ ap (origin_with s.scope) (none_with_constants s.definition (omega arith))
counted_from (item.Defined s ∷ is) (suc user) n o c at lt = counted_from is user n o c at lt
counted_from (item.Enumerated e ∷ is) zero n o c at lt = let count : 0 ≡ n = same_some c in absurd (omega arith)
counted_from (item.Enumerated e ∷ is) (suc user) n o c at lt = counted_from is user n o c at lt
counted_from (item.Declared d ∷ is) zero n o c at lt = sym (same_some at)
counted_from (item.Declared d ∷ is) (suc user) n o c at lt = counted_from is user n o c at lt

-- ---- a use of a definition that has a value

pub record IsOwn (source : Source) (origin : Origin) (used : ℕ) : Type 0 where
  pub mention : Mention
  pub there : Contains (in_optional in_placed (written_in origin)) mention
  pub means : Means (definitions source) mention.scope mention.name group.Value used

contains_at : (xs : List Mention) (k : ℕ) (y : Mention) → slice_get xs k ≡ Some y → Contains xs y
contains_at xs k y at = subst (λ (z : _). Contains xs z) (get_or_from_slice_get xs k y y at) (Contains-get_or xs k y (slice_get_within xs k y at))

-- names in an expression are those of values
grouped : (o : Option Placed) (i : ℕ) (m : Mention) → slice_get (in_optional in_placed o) i ≡ Some m → m.group ≡ group.Value
grouped None i m at = cc
grouped (Some p) i m at = value_names p.expression p.scope i m at

pub own_use : (source : Source) (user used : ℕ) (origin : Origin) → slice_get (origins source) user ≡ Some origin → (origin ≡ NoValue → ⊥) → Uses (items source) user used → IsOwn source origin used
own_use source user used origin at valued (by_name k m within owned mentioned means) =
    let t = own_from [] (items source) (source_apart source) k user m origin owned mentioned at valued in
    record {
      mention = m;
      there = contains_at (uses_there origin) t.0 m t.1;
      means = subst (λ (g : Group). Means (definitions source) m.scope m.name g used) (grouped (written_in origin) t.0 m t.1) means;
    }
own_use source user used origin at valued (by_constant n k counted lt is within) =
    absurd (valued (counted_from (items source) user n origin counted at (omega arith)))
