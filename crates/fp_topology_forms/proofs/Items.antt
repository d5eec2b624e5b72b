-- What is read of items, one after another.
use Rattle.std.proofs.Common.{◌≡◌, ℕ, ◌+◌, ◌≤◌, List, [], ◌++◌, length, flat_map, take, slice_get, Option, Some, None, sym, ◌∙◌, subst}
use Rattle.std.proofs.lemmas.List.{take_all}
use Rattle.std.specs.Option.{option_to_list}
use Rattle.fp_base.specs.declared.value.Value.{Value}
use Rattle.fp_base.proofs.Mapped.{flat_next}
use Rattle.fp_tree.specs.declared.source.Source.{Source}
use Rattle.fp_meaning.specs.declared.item.Item.{Item}
use Rattle.fp_meaning.specs.Layout as layout
use Rattle.fp_type_forms.specs.declared.resolving.Resolution.{Resolution}
use Rattle.fp_type_forms.specs.Resolved.{AreResolved}
use Rattle.fp_type_forms.specs.Written.{AllAt}
use Rattle.fp_type_forms.proofs.Adding.{parts_resolved}
use Rattle.fp_type_forms.proofs.Only.{all_joined}
use Rattle.fp_topology_forms.specs.declared.ranks.Ranks.{Ranks}
use Rattle.fp_topology_forms.specs.Taken.{AreRanks, Gives, IsGiven}

-- what the first so many give
abbrev pub GivesFirst : {A B : Type 0} → (Source → A → B → Type 0) → (Item → List A) → Ranks → List (Option Value) → List Resolution → List Item → ℕ → List B → Type 0
GivesFirst R these_of ranks marks rs is k ws =
    (source : Source) → AreRanks source ranks → is ≡ layout.items source → AreResolved source marks rs is 0 → AllAt (λ position. R source) 0 (flat_map these_of (take k is)) ws

module _ {A B : Type 0} (R : Source → A → B → Type 0) (these_of : Item → List A) (ranks : Ranks) (marks : List (Option Value)) (rs : List Resolution) where
  -- an item that gives nothing
  pub given_nothing : (start : ℕ) (i : Item) → these_of i ≡ [] → IsGiven R these_of ranks marks rs start i None
  given_nothing start i none source ready h = subst (λ (l : List A). AllAt (λ position. R source) 0 l []) (sym none) tt

  module _ (is : List Item) where
    pub none_given : (ws : List B) → ws ≡ [] → GivesFirst R these_of ranks marks rs is 0 ws
    none_given ws e source ready laid h = subst (λ (l : List B). AllAt (λ position. R source) 0 [] l) (sym e) tt

    pub next_given : (k : ℕ) (i : Item) (old new : List B) (one : Option B) → slice_get is k ≡ Some i → new ≡ old ++ option_to_list one → GivesFirst R these_of ranks marks rs is k old
        → IsGiven R these_of ranks marks rs (k + 1) i one → GivesFirst R these_of ranks marks rs is (k + 1) new
    next_given k i old new one at made before here source ready laid h =
        subst (λ (l : List A). AllAt (λ position. R source) 0 l new) (sym (flat_next these_of is k i at))
        (subst (λ (l : List B). AllAt (λ position. R source) 0 (flat_map these_of (take k is) ++ these_of i) l) (sym made)
        (all_joined (R source) 0 0 (flat_map these_of (take k is)) (these_of i) old (option_to_list one) (before source ready laid h)
        (here source ready (parts_resolved source marks rs is k i laid at h))))

    pub all_given : (k : ℕ) (ws : List B) → length is ≤ k → GivesFirst R these_of ranks marks rs is k ws → Gives R these_of ranks marks rs is ws
    all_given k ws past h source ready laid resolved =
        subst (λ (l : List Item). AllAt (λ position. R source) 0 (flat_map these_of l) ws) (take_all k is past ∙ laid) (h source ready laid resolved)
