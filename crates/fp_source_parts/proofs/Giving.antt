-- The machines of a source, one item after another.
use Rattle.std.proofs.Common.{◌≡◌, ℕ, ◌+◌, ◌≤◌, Bool, true, ◌&&◌, List, [], ◌∷◌, ◌++◌, length, flat_map, take, slice_get, Option, Some, None, refl, sym, ap, subst, ◌∙◌}
use Rattle.std.specs.List.{list_all}
use Rattle.std.proofs.lemmas.List.{take_all}
use Rattle.std.specs.Option.{option_to_list}
use Rattle.fp_base.proofs.Bools.{both, join}
use Rattle.fp_base.proofs.Mapped.{flat_next}
use Rattle.fp_base.specs.declared.value.Value.{Value}
use Rattle.fp_tree.specs.declared.machine.Behavior.{Behavior}
use Rattle.fp_tree.specs.declared.source.Source.{Source}
use Rattle.fp_tables.specs.Positions.{machine_is_short}
use Rattle.fp_tables.specs.declared.machine.Machine.{Machine}
use Rattle.fp_meaning.specs.declared.item.Item.{Item}
use Rattle.fp_meaning.specs.Layout.{items, model_own_items}
use Rattle.fp_meaning.specs.Names.{Path}
use Rattle.fp_meaning.specs.Sites.{ModelDef}
use Rattle.fp_type_forms.specs.declared.resolving.Resolution.{Resolution}
use Rattle.fp_type_forms.specs.Resolved.{AreResolved, parts_of_item}
use Rattle.fp_type_forms.specs.Written.{AllAt}
use Rattle.fp_type_forms.proofs.Adding.{parts_resolved}
use Rattle.fp_type_forms.proofs.Only.{all_joined}
use Rattle.fp_source_parts.specs.Machines.{machine_in, machine_declared}
use Rattle.fp_source_parts.specs.MachineBuilt.{AreMachinesOf, IsMachine}

all_short : (xs ys : List Machine) → list_all machine_is_short xs ≡ true → list_all machine_is_short ys ≡ true → list_all machine_is_short (xs ++ ys) ≡ true
all_short [] ys h k = k
all_short (x ∷ xs) ys h k = let parts = both (machine_is_short x) _ h in join (machine_is_short x) _ parts.0 (all_short xs ys parts.1 k)

module _ (marks : List (Option Value)) (rs : List Resolution) where
  -- what an item gives, whose parts are read from a place on
  abbrev pub GivesMachine : ℕ → Item → Option Machine → Type 0
  GivesMachine start i one = (source : Source) → AreResolved source marks rs (parts_of_item i) start → AllAt (λ position. IsMachine source) 0 (machine_declared i) (option_to_list one)

  pub given_by : (start : ℕ) (i j : Item) (one : Option Machine) → i ≡ j → GivesMachine start j one → GivesMachine start i one
  given_by start i j one is h = subst (λ (x : Item). GivesMachine start x one) (sym is) h

  abbrev pub ModelGives : ℕ → Path → ModelDef → Option Machine → Type 0
  ModelGives start scope d one = (source : Source) → AreResolved source marks rs (model_own_items scope d) start → AllAt (λ position. IsMachine source) 0 (machine_in scope d) (option_to_list one)

  pub model_gives : (start : ℕ) (scope : Path) (d e : ModelDef) (one : Option Machine) → d ≡ e → ModelGives start scope e one → ModelGives start scope d one
  model_gives start scope d e one is h = subst (λ (x : ModelDef). ModelGives start scope x one) (sym is) h

  module _ (is : List Item) where
    abbrev pub GiveFirst : ℕ → List Machine → Type 0
    GiveFirst k ms = (source : Source) → is ≡ items source → AreResolved source marks rs is 0 → AllAt (λ position. IsMachine source) 0 (flat_map machine_declared (take k is)) ms

    -- of the first items, and none has a list that is too long
    pub record AreGiven (k : ℕ) (ms : List Machine) : Type 0 where
      pub given : GiveFirst k ms
      pub short : list_all machine_is_short ms ≡ true

    pub none_given : (ms : List Machine) → ms ≡ [] → AreGiven 0 ms
    none_given ms e = record {
      given = λ source laid h. subst (λ (l : List Machine). AllAt (λ position. IsMachine source) 0 [] l) (sym e) tt;
      short = ap (list_all machine_is_short) e;
    }

    pub next_given : (k : ℕ) (i : Item) (old new : List Machine) (one : Option Machine) → slice_get is k ≡ Some i → new ≡ old ++ option_to_list one → AreGiven k old
        → GivesMachine (k + 1) i one → list_all machine_is_short (option_to_list one) ≡ true → AreGiven (k + 1) new
    next_given k i old new one at made before here short = record {
      given = λ source laid h.
          subst (λ l. AllAt (λ position. IsMachine source) 0 l new) (sym (flat_next machine_declared is k i at))
          (subst (λ (l : List Machine). AllAt (λ position. IsMachine source) 0 (flat_map machine_declared (take k is) ++ machine_declared i) l) (sym made)
          (all_joined (IsMachine source) 0 0 (flat_map machine_declared (take k is)) (machine_declared i) old (option_to_list one) (before.given source laid h)
          (here source (parts_resolved source marks rs is k i laid at h))));
      short = ap (list_all machine_is_short) made ∙ all_short old (option_to_list one) before.short short;
    }

    pub all_given : (k : ℕ) (ms : List Machine) → length is ≤ k → GiveFirst k ms → (source : Source) → is ≡ items source → AreResolved source marks rs is 0 → AreMachinesOf source ms
    all_given k ms past h source laid resolved =
        subst (λ (l : List Item). AllAt (λ position. IsMachine source) 0 (flat_map machine_declared l) ms) (take_all k is past ∙ laid) (h source laid resolved)
