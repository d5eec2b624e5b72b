-- What is written of types, one item after another.
use Rattle.std.proofs.Common.{◌≡◌, ℕ, zero, suc, ◌+◌, ◌≤◌, List, [], ◌∷◌, ◌++◌, length, drop, flat_map, take, slice_get, Option, Some, sym, ap, ◌∙◌, subst, arith}
use Rattle.std.proofs.lemmas.List.{append-nil, take_all}
use Rattle.std.proofs.lemmas.Grind.{flat_map-append}
use Rattle.fp_base.proofs.Lists.{take_next}
use Rattle.fp_base.specs.declared.value.Value.{Value}
use Rattle.fp_tree.specs.declared.source.Source.{Source}
use Rattle.fp_meaning.specs.declared.item.Item.{Item}
use Rattle.fp_meaning.specs.declared.item.Item.TheVariants as item
use Rattle.fp_meaning.specs.Layout as layout
use Rattle.fp_meaning.specs.Sites.{Site}
use Rattle.fp_type_sizes.specs.declared.written.WrittenType.{WrittenType}
use Rattle.fp_type_forms.specs.declared.resolving.Resolution.{Resolution}
use Rattle.fp_type_forms.specs.Written.{AllAt, IsWritten, TypeHere, types_of}
use Rattle.fp_type_forms.specs.Resolved.{AddsWritten, AreResolved, AreWrittenIn, WritesAll, one_or_none, parts_of_item}
use Rattle.fp_type_forms.proofs.Following.{items_whole, items_owned}
use Rattle.fp_type_forms.proofs.Only.{all_joined}

module _ (source : Source) (marks : List (Option Value)) (rs : List Resolution) where
  pub resolved_front : (xs ys : List Item) (at : ℕ) → AreResolved source marks rs (xs ++ ys) at → AreResolved source marks rs xs at
  resolved_front [] ys at h = tt
  resolved_front (x ∷ xs) ys at h = (h.0, resolved_front xs ys (at + 1) h.1)

  resolved_behind : (is : List Item) (k at j : ℕ) → j ≡ at + k → AreResolved source marks rs is at → AreResolved source marks rs (drop k is) j
  resolved_behind [] zero at j e h = tt
  resolved_behind [] (suc k) at j e h = tt
  resolved_behind (i ∷ is) zero at j e h = subst (λ (n : ℕ). AreResolved source marks rs (i ∷ is) n) (omega arith) h
  resolved_behind (i ∷ is) (suc k) at j e h = resolved_behind is k (at + 1) j (omega arith) h.1

  pub parts_resolved : (is : List Item) (k : ℕ) (i : Item) → is ≡ layout.items source → slice_get is k ≡ Some i → AreResolved source marks rs is 0
      → AreResolved source marks rs (parts_of_item i) (k + 1)
  parts_resolved is k (item.Defined s) laid at h =
      let t = items_whole source k s (ap (λ (l : List Item). slice_get l k) (sym laid) ∙ at) in
      resolved_front (layout.part_items s.scope s.definition) t.0 (k + 1)
      (subst (λ (l : List Item). AreResolved source marks rs l (k + 1)) (ap (λ (l : List Item). drop (suc k) l) laid ∙ t.1)
      (resolved_behind is (suc k) 0 (k + 1) (omega arith) h))
  parts_resolved is k (item.Enumerated e) laid at h = tt
  parts_resolved is k (item.Declared d) laid at h =
      let t = items_owned source k d (ap (λ (l : List Item). slice_get l k) (sym laid) ∙ at) in
      resolved_front (layout.model_own_items d.scope d.definition) t.0 (k + 1)
      (subst (λ (l : List Item). AreResolved source marks rs l (k + 1)) (ap (λ (l : List Item). drop (suc k) l) laid ∙ t.1)
      (resolved_behind is (suc k) 0 (k + 1) (omega arith) h))
  parts_resolved is k (item.Used since n) laid at h = tt
  parts_resolved is k (item.Written since p) laid at h = tt

module _ (marks : List (Option Value)) (rs : List Resolution) (is : List Item) where
  -- of the types among the first so many items
  abbrev pub WritesFirst : ℕ → List WrittenType → Type 0
  WritesFirst k ws =
      (source : Source) → is ≡ layout.items source → AreResolved source marks rs is 0 → AllAt (λ position. IsWritten source) 0 (flat_map types_of (take k is)) ws

  pub none_written_yet : (ws : List WrittenType) → ws ≡ [] → WritesFirst 0 ws
  none_written_yet ws e source laid h = subst (λ (l : List WrittenType). AllAt (λ position. IsWritten source) 0 [] l) (sym e) tt

  pub next_written : (k : ℕ) (i : Item) (before after : List WrittenType) → slice_get is k ≡ Some i → WritesFirst k before → AddsWritten marks rs (k + 1) i before after
      → WritesFirst (k + 1) after
  next_written k i before after at h adds source laid resolved =
      let t = adds source (parts_resolved source marks rs is k i laid at resolved) in
      let whole : flat_map types_of (take (k + 1) is) ≡ flat_map types_of (take k is) ++ types_of i =
      ap (λ (l : List Item). flat_map types_of l) (take_next is k i at) ∙ flat_map-append types_of (take k is) (i ∷ [])
      ∙ ap (λ (l : List TypeHere). flat_map types_of (take k is) ++ l) (append-nil (types_of i)) in
      subst (λ (l : List TypeHere). AllAt (λ position. IsWritten source) 0 l after) (sym whole)
      (subst (λ (l : List WrittenType). AllAt (λ position. IsWritten source) 0 (flat_map types_of (take k is) ++ types_of i) l) (sym t.1)
      (all_joined (IsWritten source) 0 0 (flat_map types_of (take k is)) (types_of i) before t.0 (h source laid resolved) t.2))

  pub all_written : (k : ℕ) (ws : List WrittenType) → length is ≤ k → WritesFirst k ws → WritesAll marks rs is ws
  all_written k ws past h source laid resolved =
      subst (λ (l : List Item). AllAt (λ position. IsWritten source) 0 (flat_map types_of l) ws) (take_all k is past ∙ laid) (h source laid resolved)

module _ (marks : List (Option Value)) (rs : List Resolution) where
  pub adds_nothing : (start : ℕ) (i : Item) (ws : List WrittenType) → types_of i ≡ [] → AddsWritten marks rs start i ws ws
  adds_nothing start i ws none source h =
      ([], sym (append-nil ws), subst (λ (l : List TypeHere). AllAt (λ position. IsWritten source) 0 l []) (sym none) tt)

  pub adds_definition : (start : ℕ) (s : Site) (before after : List WrittenType) (o : Option WrittenType) → AreWrittenIn marks rs start s.scope s.definition o
      → after ≡ before ++ one_or_none o → AddsWritten marks rs start (item.Defined s) before after
  adds_definition start s before after o h e source resolved = (one_or_none o, e, h source resolved)
