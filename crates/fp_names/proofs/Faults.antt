-- What is broken, from one definition or use to the next.
use Rattle.std.proofs.Common.{◌≡◌, ℕ, ◌+◌, ◌⊎◌, Bool, true, false, cond, ◌||◌, MatchBool, List, [], ◌∷◌, ◌++◌, length, take, slice_get, Option, Some, None, is_some, inl, inr, refl, sym, ap, subst, ◌∙◌, arith}
use Rattle.std.proofs.lemmas.Option.{slice_get_within}
use Rattle.std.proofs.lemmas.List.{length-append}
use Rattle.fp_base.proofs.Lists.{take_next}
use Rattle.fp_base.specs.declared.refusal.Refusal.{Refusal}
use Rattle.fp_base.specs.declared.rule.Rule.TheVariants.{DefinedTwice, Undefined, WrongKindOfName}
use Rattle.fp_meaning.specs.declared.group.Group.{Group}
use Rattle.fp_meaning.specs.declared.group.Group.TheVariants.{Kind, Value, Port, Component, Instance, Topology, Machine, Interface}
use Rattle.fp_meaning.specs.declared.names.Definition.{Definition}
use Rattle.fp_meaning.specs.declared.names.Mention.{Mention}
use Rattle.fp_meaning.specs.Names.{Path}
use Rattle.fp_meaning.specs.Meaning.{Means, HasMeaning, AreMeanings}
use Rattle.fp_meaning.specs.Broken.{HasEarlier, IsTwice, IsUnmeant}
use Rattle.fp_base.specs.Least.{broken_at, no_later, IsLeast, lesser_of, InFirst}
use Rattle.fp_base.proofs.Calculus.{least_none, least_only, least_flag}
use Rattle.fp_base.proofs.Elements.{least_in_one, least_first_next}
use Rattle.fp_base.proofs.Spots.{push_cases}
use Rattle.fp_base.proofs.Bools.{flag_same}
use Rattle.fp_names.specs.declared.lookups.LookedUp.{LookedUp}
use Rattle.fp_names.specs.declared.tree.Node.{Node}
use Rattle.fp_names.specs.Answers.{AreFound, Notes}
use Rattle.fp_names.specs.Tree.{IsTable, looked_up}
use Rattle.fp_names.proofs.Longest.{IsMeant, finds}

-- one definition more
pub twice_next : (ds : List Definition) (n : ℕ) (d : Definition) (first said result : Option Refusal) (again : Bool) → slice_get ds n ≡ Some d → IsLeast (InFirst n (IsTwice ds) ds) first
    → MatchBool again (HasEarlier (take n ds) d) (HasEarlier (take n ds) d → ⊥) → said ≡ cond again (Some (broken_at DefinedTwice d.place)) None → result ≡ lesser_of first said
    → IsLeast (InFirst (n + 1) (IsTwice ds) ds) result
twice_next ds n d first said result again at l told is result_is =
    subst (λ (o : Option Refusal). IsLeast (InFirst (n + 1) (IsTwice ds) ds) o) (sym result_is)
    (least_first_next (IsTwice ds) ds n first said l
    (least_in_one (IsTwice ds) ds n d said at
    (subst (λ (o : Option Refusal). IsLeast (IsTwice ds n d) o) (sym is)
    (least_flag (HasEarlier (take n ds) d) again (broken_at DefinedTwice d.place) told))))

-- a look-up over equal parts
pub found_behind : (ds : List Definition) (nodes seen : List Node) (g : Group) (scope : Path) (first : List ℕ) (others : Path) (o : Option ℕ) → IsTable ds nodes → seen ≡ nodes
    → o ≡ looked_up seen g scope first others → IsMeant ds scope (first ∷ others) g o
found_behind ds nodes seen g scope first others o table same is =
    subst (λ (x : Option ℕ). IsMeant ds scope (first ∷ others) g x) (sym (is ∙ ap (λ ns. looked_up ns g scope first others) same)) (finds ds nodes g scope first others table)

pub asked : (ds : List Definition) (o : Option ℕ) (g : Group) (scope seen name parts : Path) → seen ≡ scope → parts ≡ name → IsMeant ds seen parts g o → IsMeant ds scope name g o
asked ds o g scope seen name parts a b m =
    subst (λ (x : Path). IsMeant ds scope x g o) b (subst (λ (x : Path). IsMeant ds x parts g o) a m)

pub has_meaning : (ds : List Definition) (m : Mention) (g : Group) (o : Option ℕ) (b : Bool) → b ≡ is_some o → IsMeant ds m.scope m.name g o
    → MatchBool b (HasMeaning ds m g) (HasMeaning ds m g → ⊥)
has_meaning ds m g o b e i = subst (λ (x : Bool). MatchBool x (HasMeaning ds m g) (HasMeaning ds m g → ⊥)) (sym e) (go o i)
  where
    go : (p : Option ℕ) → IsMeant ds m.scope m.name g p → MatchBool (is_some p) (HasMeaning ds m g) (HasMeaning ds m g → ⊥)
    go None n = λ h. n h.0 h.1
    go (Some k) n = (k, n)

-- what holds of one of the seven groups
or_told : (a b : Bool) (P Q : Type 0) → MatchBool a P (P → ⊥) → MatchBool b Q (Q → ⊥) → MatchBool (a || b) (P ⊎ Q) (P ⊎ Q → ⊥)
or_told true b P Q p q = inl p
or_told false true P Q p q = inr q
or_told false false P Q p q = λ s. elim s [ inl x ↦ p x | inr y ↦ q y ]

module _ (P : Group → Type 0) where
  abbrev Any : Type 0
  Any = ((((((P Kind ⊎ P Value) ⊎ P Port) ⊎ P Component) ⊎ P Instance) ⊎ P Topology) ⊎ P Machine) ⊎ P Interface

  some_of : Any → (g : Group) × P g
  some_of (inl (inl (inl (inl (inl (inl (inl p))))))) = (Kind, p)
  some_of (inl (inl (inl (inl (inl (inl (inr p))))))) = (Value, p)
  some_of (inl (inl (inl (inl (inl (inr p)))))) = (Port, p)
  some_of (inl (inl (inl (inl (inr p))))) = (Component, p)
  some_of (inl (inl (inl (inr p)))) = (Instance, p)
  some_of (inl (inl (inr p))) = (Topology, p)
  some_of (inl (inr p)) = (Machine, p)
  some_of (inr p) = (Interface, p)

  any_of : (g : Group) → P g → Any
  any_of Kind p = inl (inl (inl (inl (inl (inl (inl p))))))
  any_of Value p = inl (inl (inl (inl (inl (inl (inr p))))))
  any_of Port p = inl (inl (inl (inl (inl (inr p)))))
  any_of Component p = inl (inl (inl (inl (inr p))))
  any_of Instance p = inl (inl (inl (inr p)))
  any_of Topology p = inl (inl (inr p))
  any_of Machine p = inl (inr p)
  any_of Interface p = inr p

  none_of : (a : Bool) → MatchBool a ((g : Group) × P g) ((g : Group) × P g → ⊥) → MatchBool a ((g : Group) × P g) ((g : Group) → P g → ⊥)
  none_of true h = h
  none_of false h = λ g p. h (g, p)

  pub any_told : (a b c d e f g h : Bool) → MatchBool a (P Kind) (P Kind → ⊥) → MatchBool b (P Value) (P Value → ⊥) → MatchBool c (P Port) (P Port → ⊥)
      → MatchBool d (P Component) (P Component → ⊥) → MatchBool e (P Instance) (P Instance → ⊥) → MatchBool f (P Topology) (P Topology → ⊥) → MatchBool g (P Machine) (P Machine → ⊥)
      → MatchBool h (P Interface) (P Interface → ⊥) → MatchBool (((((((a || b) || c) || d) || e) || f) || g) || h) ((x : Group) × P x) ((x : Group) → P x → ⊥)
  any_told a b c d e f g h ha hb hc hd he hf hg hh =
      none_of _ (flag_same _ some_of (λ t. any_of t.0 t.1)
      (or_told _ h _ _ (or_told _ g _ _ (or_told _ f _ _ (or_told _ e _ _ (or_told _ d _ _ (or_told _ c _ _ (or_told a b _ _ ha hb) hc) hd) he) hf) hg) hh))

-- a use that means nothing in its group
module _ (ds : List Definition) (m : Mention) where
  pub wrong_kind : (f : Refusal) → f ≡ broken_at WrongKindOfName m.place → ((g : Group) × HasMeaning ds m g) → (HasMeaning ds m m.group → ⊥) → IsLeast (IsUnmeant ds m) (Some f)
  wrong_kind f e some none = least_only f (inr (e, some, none)) (λ g q. elim q [ inl u ↦ absurd (u.1 some.0 some.1) | inr w ↦ w.0 ∙ sym e ])

  pub undefined : (f : Refusal) → f ≡ broken_at Undefined m.place → ((g : Group) → HasMeaning ds m g → ⊥) → IsLeast (IsUnmeant ds m) (Some f)
  undefined f e none = least_only f (inl (e, none)) (λ g q. elim q [ inl u ↦ u.0 ∙ sym e | inr w ↦ absurd (none w.1.0 w.1.1) ])

  pub meant_unbroken : (number : ℕ) → Means ds m.scope m.name m.group number → IsLeast (IsUnmeant ds m) None
  meant_unbroken number means = least_none (λ f q. elim q [ inl u ↦ u.1 m.group (number, means) | inr w ↦ w.2 (number, means) ])

  pub notes_meant : (before after : LookedUp) (number : ℕ) → Means ds m.scope m.name m.group number → after.first ≡ before.first → after.meanings ≡ before.meanings ++ number ∷ [] → Notes ds m before after
  notes_meant before after number means first meanings = record {
    said = None;
    least = meant_unbroken number means;
    first = first ∙ no_other before.first;
    meant = λ e. (number, means, meanings);
  }
    where
      no_other : (o : Option Refusal) → o ≡ lesser_of o None
      no_other None = refl
      no_other (Some f) = refl

  pub notes_broken : (before after : LookedUp) (f : Refusal) → IsLeast (IsUnmeant ds m) (Some f) → after.first ≡ lesser_of before.first (Some f) → Notes ds m before after
  notes_broken before after f l first = record { said = Some f; least = l; first = first; meant = λ e. cc }

lesser_nothing : (a b : Option Refusal) → lesser_of a b ≡ None → (a ≡ None) × (b ≡ None)
lesser_nothing None b e = (refl, e)
lesser_nothing (Some f) None e = cc
lesser_nothing (Some f) (Some g) e = go (no_later f g) e
  where
    go : (t : Bool) → cond t (Some f) (Some g) ≡ None → (Some f ≡ None) × (Some g ≡ None)
    go true e = cc
    go false e = cc

pub meanings_none : (ds : List Definition) → AreMeanings ds [] []
meanings_none ds = record { each = refl; meant = λ k m number e f. cc }

meanings_push : (ds : List Definition) (ms : List Mention) (m : Mention) (ns : List ℕ) (n : ℕ) → AreMeanings ds ms ns → Means ds m.scope m.name m.group n → AreMeanings ds (ms ++ m ∷ []) (ns ++ n ∷ [])
meanings_push ds ms m ns n are means = record { each = lengths; meant = each }
  where
    lengths : length (ns ++ n ∷ []) ≡ length (ms ++ m ∷ [])
    lengths =
        let e = are.each in
        let a : length (ns ++ n ∷ []) ≡ length ns + 1 = length-append ns (n ∷ []) in
        let b : length (ms ++ m ∷ []) ≡ length ms + 1 = length-append ms (m ∷ []) in
        omega arith

    each : (k : ℕ) (x : Mention) (number : ℕ) → slice_get (ms ++ m ∷ []) k ≡ Some x → slice_get (ns ++ n ∷ []) k ≡ Some number → Means ds x.scope x.name x.group number
    each k x number e f = elim (push_cases ms m k x e) [
      | inl a ↦ elim (push_cases ns n k number f) [
        | inl b ↦ are.meant k x number a b
        | inr b ↦ let w = slice_get_within ms k x a in let l = are.each in let i = b.0 in absurd (omega arith)
      ]
      | inr a ↦ elim (push_cases ns n k number f) [
        | inl b ↦ let w = slice_get_within ns k number b in let l = are.each in let i = a.0 in absurd (omega arith)
        | inr b ↦ subst (λ (y : ℕ). Means ds x.scope x.name x.group y) (sym b.1) (subst (λ (y : Mention). Means ds y.scope y.name y.group n) (sym a.1) means)
      ]
    ]

-- one use more
module _ (ds : List Definition) (ms : List Mention) (n : ℕ) (m : Mention) (before after : LookedUp) (at : slice_get ms n ≡ Some m) (notes : Notes ds m before after) where
  pub least_next : IsLeast (InFirst n (λ _. IsUnmeant ds) ms) before.first → IsLeast (InFirst (n + 1) (λ _. IsUnmeant ds) ms) after.first
  least_next l =
      subst (λ (o : Option Refusal). IsLeast (InFirst (n + 1) (λ _. IsUnmeant ds) ms) o) (sym notes.first)
      (least_first_next (λ _. IsUnmeant ds) ms n before.first notes.said l (least_in_one (λ _. IsUnmeant ds) ms n m notes.said at notes.least))

  pub found_next : AreFound ds (take n ms) before → AreFound ds (take (n + 1) ms) after
  found_next found e =
      let none = lesser_nothing before.first notes.said (sym notes.first ∙ e) in
      let one = notes.meant none.1 in
      subst (λ (ns : List ℕ). AreMeanings ds (take (n + 1) ms) ns) (sym one.2)
      (subst (λ (xs : List Mention). AreMeanings ds xs (before.meanings ++ one.0 ∷ [])) (sym (take_next ms n m at)) (meanings_push ds (take n ms) m before.meanings one.0 (found none.0) one.1))
