-- The names of the definitions of a group, written with dots, differ where none is defined twice.
use Rattle.std.proofs.Common.{◌≡◌, ℕ, suc, ◌<◌, Bool, true, false, cond, not, List, [], ◌∷◌, ◌++◌, map, flat_map, take, slice_get, Some, refl, sym, ap, ◌∙◌, arith}
use Rattle.std.specs.List.{AllByRecursion as Each, list_all, list_any}
use Rattle.std.specs.Str.{bytes_eq}
use Rattle.std.proofs.lemmas.List.{map-append}
use Rattle.std.proofs.lemmas.Bool.{or_from}
use Rattle.fp_base.proofs.Bools.{join}
use Rattle.fp_base.proofs.Lists.{of_item}
use Rattle.fp_base.proofs.Bytes.{differ_bytes}
use Rattle.fp_base.specs.declared.rule.Rule.TheVariants.{DefinedTwice}
use Rattle.fp_base.specs.Least.{IsUnbroken, broken_at}
use Rattle.fp_graph.proofs.Places.{get_take}
use Rattle.fp_tree.specs.declared.source.Source.{Source}
use Rattle.fp_tree.specs.declared.name.Name.{Name}
use Rattle.fp_tables.specs.Names.{is_qualified, texts_differ}
use Rattle.fp_meaning.specs.declared.group.Group.{Group}
use Rattle.fp_meaning.specs.declared.item.Item.{Item}
use Rattle.fp_meaning.specs.declared.names.Definition.{Definition}
use Rattle.fp_meaning.specs.Broken.{BrokenByDefinitions}
use Rattle.fp_meaning.specs.Meaning.{IsNamed}
use Rattle.fp_meaning.specs.Names.{definitions, definitions_of, IsMadeOfNames}
use Rattle.fp_meaning.specs.Values.{dotted}
use Rattle.fp_type_forms.specs.Written.{AllAt}
use Rattle.fp_component_forms.specs.Written.{Scoped, qualified, same_group}
use Rattle.fp_source_types.proofs.Dotted.{dotted_same}

-- no two are of one group and have one name
abbrev pub Once : List Definition → Type 0
Once ds = (m n : ℕ) (x y : Definition) → m < n → slice_get ds m ≡ Some x → slice_get ds n ≡ Some y → x.group ≡ y.group → x.name ≡ y.name → ⊥

pub source_once : (source : Source) → IsUnbroken (BrokenByDefinitions source) → Once (definitions source)
source_once source once m n x y low at there of_group of_name =
    let earlier : IsNamed (take n (definitions source)) y.group y.name m =
    record { definition = x; here = get_take (definitions source) n m low ∙ at; of_group = of_group; of_name = of_name } in
    once (broken_at DefinedTwice y.place) (n, y, there, (refl, (m, earlier)))

-- the names of those of a group
abbrev pub texts_in : Group → List Definition → List (List ℕ)
texts_in g [] = []
texts_in g (d ∷ ds) = cond (same_group g d.group) (dotted d.name ∷ texts_in g ds) (texts_in g ds)

texts_joined : (g : Group) (ds es : List Definition) → texts_in g (ds ++ es) ≡ texts_in g ds ++ texts_in g es
texts_joined g [] es = refl
texts_joined g (d ∷ ds) es = go (same_group g d.group) (texts_joined g ds es)
  where
    go : (b : Bool) → texts_in g (ds ++ es) ≡ texts_in g ds ++ texts_in g es
        → cond b (dotted d.name ∷ texts_in g (ds ++ es)) (texts_in g (ds ++ es)) ≡ cond b (dotted d.name ∷ texts_in g ds) (texts_in g ds) ++ texts_in g es
    go false rest = rest
    go true rest = ap (λ (l : List (List ℕ)). dotted d.name ∷ l) rest

module _ (g : Group) (is_group : (h : Group) → same_group g h ≡ true → h ≡ g) where
  none_like : (t : List ℕ) (ds : List Definition) → ((n : ℕ) (y : Definition) → slice_get ds n ≡ Some y → same_group g y.group ≡ true → t ≡ dotted y.name → ⊥)
      → list_any (bytes_eq t) (texts_in g ds) ≡ false
  none_like t [] other = refl
  none_like t (y ∷ ds) other = go (same_group g y.group) refl (none_like t ds (λ n. other (suc n)))
    where
      go : (b : Bool) → same_group g y.group ≡ b → list_any (bytes_eq t) (texts_in g ds) ≡ false → list_any (bytes_eq t) (cond b (dotted y.name ∷ texts_in g ds) (texts_in g ds)) ≡ false
      go false e rest = rest
      go true e rest = or_from (bytes_eq t (dotted y.name)) (list_any (bytes_eq t) (texts_in g ds)) (differ_bytes t (dotted y.name) (other 0 y refl e)) rest

  pub texts_apart : (ds : List Definition) → Once ds → Each IsMadeOfNames ds → texts_differ (texts_in g ds) ≡ true
  texts_apart [] once named = refl
  texts_apart (d ∷ ds) once named = go (same_group g d.group) refl (texts_apart ds (λ m n x y low. once (suc m) (suc n) x y (omega arith)) named.1)
    where
      go : (b : Bool) → same_group g d.group ≡ b → texts_differ (texts_in g ds) ≡ true → texts_differ (cond b (dotted d.name ∷ texts_in g ds) (texts_in g ds)) ≡ true
      go false e rest = rest
      go true e rest =
          join (not (list_any (bytes_eq (dotted d.name)) (texts_in g ds))) (texts_differ (texts_in g ds))
          (ap not (none_like (dotted d.name) ds (λ n y at of same.
          once 0 (suc n) d y (omega arith) refl at (is_group d.group e ∙ sym (is_group y.group of)) (dotted_same d.name y.name named.0 (of_item IsMadeOfNames ds n y named.1 at) same))))
          rest

-- nodes of a kind, whose definitions are those of a group, and what is written of them
module _ {A W : Type 0} (g : Group) (name : A → Name) (of : Item → List (Scoped A)) (R : Scoped A → W → Type 0) (text : W → List ℕ)
    (named : (s : Scoped A) (w : W) → R s w → text w ≡ qualified s.scope (name s.node)) where
  abbrev pub text_of : Scoped A → List ℕ
  text_of s = qualified s.scope (name s.node)

  texts_of_items : ((i : Item) → texts_in g (definitions_of i) ≡ map text_of (of i)) → (is : List Item) → texts_in g (flat_map definitions_of is) ≡ map text_of (flat_map of is)
  texts_of_items each [] = refl
  texts_of_items each (i ∷ is) =
      texts_joined g (definitions_of i) (flat_map definitions_of is) ∙ ap (λ (l : List (List ℕ)). l ++ texts_in g (flat_map definitions_of is)) (each i)
      ∙ ap (λ (l : List (List ℕ)). map text_of (of i) ++ l) (texts_of_items each is) ∙ sym (map-append text_of (of i) (flat_map of is))

  texts_written : (k : ℕ) (xs : List (Scoped A)) (ws : List W) → AllAt (λ position. R) k xs ws → map text ws ≡ map text_of xs
  texts_written k [] [] h = refl
  texts_written k [] (w ∷ ws) h = absurd h
  texts_written k (x ∷ xs) [] h = absurd h
  texts_written k (x ∷ xs) (w ∷ ws) h =
      ap (λ (t : List ℕ). t ∷ map text ws) (named x w h.0) ∙ ap (λ (l : List (List ℕ)). text_of x ∷ l) (texts_written (suc k) xs ws h.1)

  pub written_apart : (is_group : (h : Group) → same_group g h ≡ true → h ≡ g) → ((i : Item) → texts_in g (definitions_of i) ≡ map text_of (of i))
      → (is : List Item) (ws : List W) → AllAt (λ position. R) 0 (flat_map of is) ws → Once (flat_map definitions_of is) → Each IsMadeOfNames (flat_map definitions_of is)
      → texts_differ (map text ws) ≡ true
  written_apart is_group each is ws are once names =
      ap texts_differ (texts_written 0 (flat_map of is) ws are ∙ sym (texts_of_items each is)) ∙ texts_apart g is_group (flat_map definitions_of is) once names

  pub written_qualified : (k : ℕ) (xs : List (Scoped A)) (ws : List W) → Each (λ (s : Scoped A). is_qualified (text_of s) ≡ true) xs → AllAt (λ position. R) k xs ws
      → list_all (λ (w : W). is_qualified (text w)) ws ≡ true
  written_qualified k [] [] each are = refl
  written_qualified k [] (w ∷ ws) each are = absurd are
  written_qualified k (x ∷ xs) [] each are = absurd are
  written_qualified k (x ∷ xs) (w ∷ ws) each are =
      join (is_qualified (text w)) (list_all (λ (w : W). is_qualified (text w)) ws) (ap is_qualified (named x w are.0) ∙ each.0) (written_qualified (suc k) xs ws each.1 are.1)
