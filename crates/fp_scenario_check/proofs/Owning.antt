-- Which instances have handlers of their own.
use Rattle.std.proofs.Common.{◌≡◌, ◌≤◌, ◌+◌, ℕ, Bool, true, false, ◌&&◌, ◌||◌, ◌==◌, List, [], length, take, slice_get, Option, Some, None, bytes_eq, refl, sym, ap, ◌∙◌, subst}
use Rattle.std.specs.BTreeSet.{BTreeSet, contains_by, insert_key}
use Rattle.std.specs.List.{list_any}
use Rattle.std.proofs.lemmas.List.{take_all}
use denote.Ref.{Bor}
use Rattle.fp_base.proofs.Lists.{take_next}
use Rattle.fp_base.proofs.Passing.{any_pushed}
use Rattle.fp_base.proofs.KeySets.{none_held}
use Rattle.fp_tables.specs.Lists.{some_and}
use Rattle.fp_tables.specs.Lookup.{Described}
use Rattle.fp_scenario.specs.declared.scenario.HandlerText.{HandlerText}
use Rattle.fp_scenario_actions.specs.Named.{placed_named}
use Rattle.fp_scenario_check.specs.Keys.{AreOwnedBy, Owned, is_own, owned_cmp}
use Rattle.fp_scenario_check.proofs.Keyed.{owned_seen}

module _ (t : Described) where
  pub noted : (text : HandlerText) (old new : BTreeSet Owned) (k : Owned) → placed_named t text.of ≡ Some k.0 → k.1.now ≡ text.on_ → new.keys ≡ insert_key owned_cmp old.keys k → (i : ℕ) (on : Bor (List ℕ))
      → contains_by (owned_cmp (i, on)) new ≡ (contains_by (owned_cmp (i, on)) old || is_own t i on.now text)
  noted text old new k found named is i on =
      owned_seen old new k is i on
      ∙ ap (λ (b : Bool). contains_by (owned_cmp (i, on)) old || b)
      (ap (λ (n : List ℕ). bytes_eq n on.now && (k.0 == i)) named ∙ ap (λ (o : Option ℕ). bytes_eq text.on_ on.now && some_and (λ j. j == i) o) (sym found))

  pub not_noted : (text : HandlerText) (old new : BTreeSet Owned) → placed_named t text.of ≡ None → new ≡ old → (i : ℕ) (on : Bor (List ℕ))
      → contains_by (owned_cmp (i, on)) new ≡ (contains_by (owned_cmp (i, on)) old || is_own t i on.now text)
  not_noted text old new none same i on =
      ap (contains_by (owned_cmp (i, on))) same ∙ go (contains_by (owned_cmp (i, on)) old) (bytes_eq text.on_ on.now)
      ∙ ap (λ (o : Option ℕ). contains_by (owned_cmp (i, on)) old || (bytes_eq text.on_ on.now && some_and (λ j. j == i) o)) (sym none)
    where
      go : (a b : Bool) → a ≡ (a || (b && false))
      go true b = refl
      go false true = refl
      go false false = refl

  pub owned_none : (texts : List HandlerText) (owned : BTreeSet Owned) → owned.keys ≡ [] → AreOwnedBy t (take 0 texts) owned
  owned_none texts owned is = λ i on. none_held (owned_cmp (i, on)) owned is

  pub owned_next : (texts : List HandlerText) (n : ℕ) (x : HandlerText) (old new : BTreeSet Owned) → slice_get texts n ≡ Some x
      → ((i : ℕ) (on : Bor (List ℕ)) → contains_by (owned_cmp (i, on)) new ≡ (contains_by (owned_cmp (i, on)) old || is_own t i on.now x)) → AreOwnedBy t (take n texts) old → AreOwnedBy t (take (n + 1) texts) new
  owned_next texts n x old new at adds before = λ i on.
      adds i on ∙ ap (λ (b : Bool). b || is_own t i on.now x) (before i on) ∙ sym (any_pushed (is_own t i on.now) (take n texts) x) ∙ sym (ap (list_any (is_own t i on.now)) (take_next texts n x at))

  pub owned_all : (texts : List HandlerText) (n : ℕ) (owned : BTreeSet Owned) → length texts ≤ n → AreOwnedBy t (take n texts) owned → AreOwnedBy t texts owned
  owned_all texts n owned past are = subst (λ (xs : List HandlerText). AreOwnedBy t xs owned) (take_all n texts past) are
