-- Items in any scope, and names beside them, of parts that are put together, whatever is said of an item and of a name.
use Rattle.std.proofs.Common.{◌≡◌, List, [], ◌∷◌, ◌++◌, flat_map, Option, Some, None, subst, sym}
use Rattle.std.specs.List.{AllByRecursion as Each}
use Rattle.fp_tree.specs.declared.name.Name.{Name}
use Rattle.fp_meaning.specs.declared.item.Item.{Item}
use Rattle.fp_meaning.specs.Sites.{Path, in_optional}
use Rattle.fp_base.proofs.Lists.{InOption, each_append, each_flat, each_weaker}

-- it is said of each of these items, in any scope, and of each of these names
pub record Held (I : Item → Type 0) (N : Name → Type 0) (found : Path → List Item) (written : List Name) : Type 0 where
  pub items : (scope : Path) → Each I (found scope)
  pub names : Each N written

module _ {I : Item → Type 0} {N : Name → Type 0} where
  -- where nothing is laid out
  pub held_names : {ns : List Name} → Each N ns → Held I N (λ scope. []) ns
  held_names h = record { items = λ scope. tt; names = h }

  pub held_both : {f g : Path → List Item} {ns ms : List Name} → Held I N f ns → Held I N g ms → Held I N (λ scope. f scope ++ g scope) (ns ++ ms)
  held_both {f = f} {g = g} {ns = ns} {ms = ms} h k = record {
    items = λ scope. each_append I (f scope) (g scope) (h.items scope) (k.items scope);
    names = each_append N ns ms h.names k.names;
  }

  -- a name in front, and names behind
  pub held_named : {n : Name} {f : Path → List Item} {ns : List Name} → N n → Held I N f ns → Held I N f (n ∷ ns)
  held_named h k = record { items = k.items; names = (h, k.names) }

  pub held_before : {f : Path → List Item} {ns : List Name} (ms : List Name) → Held I N f ns → Each N ms → Held I N f (ns ++ ms)
  held_before {ns = ns} ms h k = record { items = h.items; names = each_append N ns ms h.names k }

  -- an item in front
  pub held_behind : {one : Path → Item} {f : Path → List Item} {ns : List Name} → ((scope : Path) → I (one scope)) → Held I N f ns → Held I N (λ scope. one scope ∷ f scope) ns
  held_behind h k = record { items = λ scope. (h scope, k.items scope); names = k.names }

  -- of what may be left out, and of each of a list
  pub held_option : {A : Type 0} (found : Path → A → List Item) (written : A → List Name) (o : Option A) → InOption (λ x. Held I N (λ scope. found scope x) (written x)) o
      → Held I N (λ scope. in_optional (found scope) o) (in_optional written o)
  held_option found written None h = record { items = λ scope. tt; names = tt }
  held_option found written (Some x) h = record { items = h.items; names = h.names }

  pub held_list : {A : Type 0} (found : Path → A → List Item) (written : A → List Name) (xs : List A) → Each (λ x. Held I N (λ scope. found scope x) (written x)) xs
      → Held I N (λ scope. flat_map (found scope) xs) (flat_map written xs)
  held_list {A = A} found written xs hs = record {
    items = λ scope. each_flat I (found scope) xs (each_weaker (λ (x : A). Held I N (λ s. found s x) (written x)) (λ (x : A). Each I (found scope x)) (λ x h. h.items scope) xs hs);
    names = each_flat N written xs (each_weaker (λ (x : A). Held I N (λ s. found s x) (written x)) (λ (x : A). Each N (written x)) (λ x h. h.names) xs hs);
  }

  -- of the same items and names
  pub held_same : {f g : Path → List Item} {ns ms : List Name} → ((scope : Path) → f scope ≡ g scope) → ns ≡ ms → Held I N g ms → Held I N f ns
  held_same same named h = record { items = λ scope. subst (Each I) (sym (same scope)) (h.items scope); names = subst (Each N) (sym named) h.names }
