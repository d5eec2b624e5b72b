-- The least of what is broken at definitions, by their flags.
use Rattle.std.proofs.Common.{◌≡◌, ◌<◌, ℕ, Bool, true, false, cond, MatchBool, List, length, flat_map, slice_get, Option, Some, None, sym, ap, subst, ◌∙◌, inl, inr, arith}
use Rattle.std.proofs.lemmas.Option.{slice_get_within}
use Rattle.fp_base.specs.declared.place.Place.{Place}
use Rattle.fp_base.specs.declared.refusal.Refusal.{Refusal}
use Rattle.fp_base.specs.declared.rule.Rule.TheVariants.{Cycle, ChainTooLong}
use Rattle.fp_base.specs.Least.{broken_at, lesser_of, Either, InOne, InSome, IsLeast}
use Rattle.fp_base.proofs.Calculus.{least_along, least_either, least_if, least_none, least_same}
use Rattle.fp_base.proofs.Elements.{least_in_one}
use Rattle.fp_graph.specs.Chains.{AreFlags, IsOnCycle, Chain}
use Rattle.fp_base.proofs.Spots.{item_below}
use Rattle.fp_meaning.specs.declared.item.Item.{Item}
use Rattle.fp_meaning.specs.declared.names.Definition.{Definition}
use Rattle.fp_meaning.specs.Names.{definitions_of}
use Rattle.fp_meaning.specs.Uses.{Uses, IsCyclic, IsTooDeep, BreaksAt, BrokenByChains}
use Rattle.fp_uses.specs.declared.users.Users.{Users}
use Rattle.fp_uses.specs.Flagged.{Flagged, FlaggedAt, MarkedAt, MarkedBy, group_of_users}

-- ---- of one definition

pub least_marked : (place : Place) (cyclic deep : Bool) (a b o : Option Refusal) → o ≡ lesser_of a b
    → a ≡ cond cyclic (Some (broken_at Cycle place)) None → b ≡ cond deep (Some (broken_at ChainTooLong place)) None → IsLeast (MarkedAt place cyclic deep) o
least_marked place cyclic deep a b o e p q =
    least_along (sym e)
    (least_either a b
    (least_along (sym p) (least_if cyclic (broken_at Cycle place) (λ e. e) (λ e q. cc)))
    (least_along (sym q) (least_if deep (broken_at ChainTooLong place) (λ e. e) (λ e q. cc))))

user_yes : {P : Type 0} (b : Bool) → b ≡ true → MatchBool b P (P → ⊥) → P
user_yes true e m = m
user_yes false e m = cc

user_no : {P : Type 0} (b : Bool) → b ≡ false → MatchBool b P (P → ⊥) → P → ⊥
user_no true e m u = cc
user_no false e m u = m u

module _ (users : Users) (d : Definition) (cyclic deep : Bool) (b : Bool) (told : MatchBool b (d.group ≡ group_of_users users) (d.group ≡ group_of_users users → ⊥)) where
  pub of_user : (o : Option Refusal) → b ≡ true → IsLeast (MarkedAt d.place cyclic deep) o → IsLeast (FlaggedAt users d cyclic deep) o
  of_user o is l = least_same (λ f m. (user_yes b is told, m)) (λ f t. t.1) l

  pub of_none_else : b ≡ false → IsLeast (FlaggedAt users d cyclic deep) None
  of_none_else is = least_none (λ f t. user_no b is told t.0)

pub one_flagged : (cyclic deep : List Bool) (users : Users) (ds : List Definition) (number : ℕ) (d : Definition) (a b : Bool) (o : Option Refusal)
    → slice_get ds number ≡ Some d → slice_get cyclic number ≡ Some a → slice_get deep number ≡ Some b → IsLeast (FlaggedAt users d a b) o
    → IsLeast (InOne number (Flagged cyclic deep users) ds) o
one_flagged cyclic deep users ds number d a b o at p q l = least_in_one (Flagged cyclic deep users) ds number d o at (least_same to back l)
  where
    marks : (f : Refusal) → MarkedAt d.place a b f → MarkedBy cyclic deep number d.place f
    marks f (inl t) = inl (t.0, p ∙ ap Some t.1)
    marks f (inr t) = inr (t.0, q ∙ ap Some t.1)

    to : (f : Refusal) → FlaggedAt users d a b f → Flagged cyclic deep users number d f
    to f t = (t.0, marks f t.1)

    unmarks : (f : Refusal) → MarkedBy cyclic deep number d.place f → MarkedAt d.place a b f
    unmarks f (inl t) = inl (t.0, let k = t.1 in cc)
    unmarks f (inr t) = inr (t.0, let k = t.1 in cc)

    back : (f : Refusal) → Flagged cyclic deep users number d f → FlaggedAt users d a b f
    back f t = (t.0, unmarks f t.1)

-- ---- of all

module _ (parts : List Item) (ds : List Definition) (are : ds ≡ flat_map definitions_of parts) (cyclic deep : List Bool)
    (c : AreFlags (length ds) (IsOnCycle (Uses parts)) cyclic) (e : AreFlags (length ds) (λ number. Chain (length ds) (Uses parts) number 256) deep) (users : Users) where
  flag_is : (P : ℕ → Type 0) (flags : List Bool) (number : ℕ) → AreFlags (length ds) P flags → number < length ds → P number → slice_get flags number ≡ Some true
  flag_is P flags number a lt p =
      let each = a.each in
      let t = item_below flags number (omega arith) in
      go t.0 t.1 (a.exact number t.0 t.1)
    where
      go : (b : Bool) → slice_get flags number ≡ Some b → MatchBool b (P number) (P number → ⊥) → slice_get flags number ≡ Some true
      go true at m = at
      go false at m = absurd (m p)

  chain_to : (number : ℕ) → Chain (length ds) (Uses parts) number 256 → Chain (length (flat_map definitions_of parts)) (Uses parts) number 256
  chain_to number h = subst (λ (xs : List Definition). Chain (length xs) (Uses parts) number 256) are h

  chain_back : (number : ℕ) → Chain (length (flat_map definitions_of parts)) (Uses parts) number 256 → Chain (length ds) (Uses parts) number 256
  chain_back number h = subst (λ (xs : List Definition). Chain (length xs) (Uses parts) number 256) (sym are) h

  to : (f : Refusal) → InSome (Flagged cyclic deep users) ds f → InSome (BreaksAt parts (group_of_users users)) ds f
  to f (number, d, at, m) = (number, d, at, (m.0, go m.1))
    where
      go : MarkedBy cyclic deep number d.place f → Either (IsCyclic parts number d) (IsTooDeep parts number d) f
      go (inl t) = inl (t.0, c.exact number true t.1)
      go (inr t) = inr (t.0, chain_to number (e.exact number true t.1))

  back : (f : Refusal) → InSome (BreaksAt parts (group_of_users users)) ds f → InSome (Flagged cyclic deep users) ds f
  back f (number, d, at, h) = (number, d, at, (h.0, go h.1))
    where
      go : Either (IsCyclic parts number d) (IsTooDeep parts number d) f → MarkedBy cyclic deep number d.place f
      go (inl t) = inl (t.0, flag_is (IsOnCycle (Uses parts)) cyclic number c (slice_get_within ds number d at) t.1)
      go (inr t) = inr (t.0, flag_is (λ n. Chain (length ds) (Uses parts) n 256) deep number e (slice_get_within ds number d at) (chain_back number t.1))

  pub broken_by_flags : (o : Option Refusal) → IsLeast (InSome (Flagged cyclic deep users) ds) o → IsLeast (BrokenByChains parts (group_of_users users)) o
  broken_by_flags o l =
      subst (λ (xs : List Definition). IsLeast (InSome (BreaksAt parts (group_of_users users)) xs) o) are (least_same to back l)
