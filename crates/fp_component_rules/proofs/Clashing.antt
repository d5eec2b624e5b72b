-- Members one after another, and the ports that each gives again.
use Rattle.std.proofs.Common.{◌≡◌, ◌↔◌, ◌∙◌, ◌⊎◌, inl, inr, ℕ, zero, suc, ◌+◌, ◌<◌, Bool, true, false, ◌||◌, List, [], ◌∷◌, slice_get, Option, Some, None, refl, sym, ap, subst, arith}
use Rattle.fp_base.specs.declared.refusal.Refusal.{Refusal}
use Rattle.fp_base.specs.declared.rule.Rule.TheVariants.{PortNameRepeated, SpecialPort}
use Rattle.fp_base.specs.Least.{InFirst, IsLeast, lesser_of}
use Rattle.fp_base.proofs.Bools.{or_cases, or_left, or_right, not_both}
use Rattle.fp_base.proofs.Calculus.{least_along, least_either}
use Rattle.fp_base.proofs.Elements.{least_first_none, least_next}
use Rattle.fp_base.proofs.Options.{one_some}
use Rattle.fp_base.proofs.Spots.{below_or_at}
use Rattle.fp_tables.specs.declared.component.Special.{Special}
use Rattle.fp_written_parts.specs.declared.port.WrittenPort.{WrittenPort}
use Rattle.fp_written_parts.specs.declared.port.WrittenRole.TheVariants as role
use Rattle.fp_written_parts.specs.declared.member.WrittenInterface.{WrittenInterface}
use Rattle.fp_written_parts.specs.declared.member.WrittenMember.{WrittenMember}
use Rattle.fp_written_parts.specs.Giving.{Gives, ImportsWithin}
use Rattle.fp_component_rules.specs.Firsts.{has_kind, has_port}
use Rattle.fp_component_rules.specs.Gifts.{IsGift}
use Rattle.fp_component_rules.specs.declared.gift.Gift.{Gift}
use Rattle.fp_component_rules.specs.declared.interface_kinds.SpecialKinds.{SpecialKinds}
use Rattle.fp_component_rules.proofs.GatheringLaws.{kind_gift, named_gift, one_given}
use Rattle.fp_component_rules.specs.Broken.{AreOfOneKind, GivenBefore, GivesAgain, HaveOneName, RepeatsAt, giver_at}
use Rattle.fp_component_rules.specs.Tested.{any_seen, clash_fault, have_common}
use Rattle.fp_component_rules.proofs.Folding.{least_placed}
use Rattle.fp_component_rules.proofs.Meeting.{common_told}
use Rattle.fp_component_rules.proofs.Passing.{seen_told}

-- one member of those whose imports are there
pub within_one : (fs : List WrittenInterface) (ms : List WrittenMember) (n : ℕ) (m : WrittenMember) → slice_get ms n ≡ Some m → ImportsWithin fs ms → ImportsWithin fs (m ∷ [])
within_one fs ms n m at within zero i e = within n i (at ∙ e)
within_one fs ms n m at within (suc k) i e = absurd (cc)

abbrev pub HasName : List ℕ → WrittenPort → Type 0
HasName name p = p.name ≡ name

abbrev pub HasKind : Special → WrittenPort → Type 0
HasKind kind p = p.role ≡ role.Special kind

same_kinds : (s t : Special) → role.Special s ≡ role.Special t → s ≡ t
same_kinds s t e = cc

module _ (fs : List WrittenInterface) (ms : List WrittenMember) where
  -- ---- a member more

  before_more : (n : ℕ) (p : WrittenPort) → GivenBefore fs ms n p → GivenBefore fs ms (n + 1) p
  before_more n p g = let low = g.before in record { j = g.j; before = omega arith; member = g.member; here = g.here; gives = g.gives }

  before_here : (n : ℕ) (m : WrittenMember) (p : WrittenPort) → slice_get ms n ≡ Some m → Gives fs m p → GivenBefore fs ms (n + 1) p
  before_here n m p at g = record { j = n; before = omega arith; member = m; here = at; gives = g }

  before_split : (n : ℕ) (m : WrittenMember) (p : WrittenPort) → slice_get ms n ≡ Some m → GivenBefore fs ms (n + 1) p → GivenBefore fs ms n p ⊎ Gives fs m p
  before_split n m p at g = go (below_or_at g.j n g.before)
    where
      go : (g.j < n) ⊎ (g.j ≡ n) → GivenBefore fs ms n p ⊎ Gives fs m p
      go (inl low) = inl (record { j = g.j; before = low; member = g.member; here = g.here; gives = g.gives })
      go (inr same) =
          inr
          (subst (λ (x : WrittenMember). Gives fs x p)
          (one_some (slice_get ms n) g.member m (subst (λ (k : ℕ). slice_get ms k ≡ Some g.member) same g.here) at) g.gives)

  -- ---- what was noted of the ports

  module _ {Q : Type 0} (Has : Q → WrittenPort → Type 0) where
    abbrev pub AreNoted : ℕ → (Q → Bool) → Type 0
    AreNoted n noted = (q : Q) → (noted q ≡ true) ↔ ((p : WrittenPort) × GivenBefore fs ms n p × Has q p)

    abbrev pub AreOwn : WrittenMember → (Q → Bool) → Type 0
    AreOwn m own = (q : Q) → (own q ≡ true) ↔ ((p : WrittenPort) × Gives fs m p × Has q p)

    none_before : (p : WrittenPort) → GivenBefore fs ms 0 p → ⊥
    none_before p g = let low = g.before in omega arith

    noted_none : (noted : Q → Bool) → ((q : Q) → noted q ≡ false) → AreNoted 0 noted
    noted_none noted none q = (λ e. not_both e (none q), λ t. absurd (none_before t.0 t.1))

    noted_next : (n : ℕ) (m : WrittenMember) (noted own more : Q → Bool) → slice_get ms n ≡ Some m → ((q : Q) → more q ≡ (noted q || own q)) → AreNoted n noted → AreOwn m own
        → AreNoted (n + 1) more
    noted_next n m noted own more at is before mine q = (λ e. to (or_cases (noted q) (own q) (sym (is q) ∙ e)), λ t. is q ∙ back t.0 t.2 (before_split n m t.0 at t.1))
      where
        to : (noted q ≡ true) ⊎ (own q ≡ true) → (p : WrittenPort) × GivenBefore fs ms (n + 1) p × Has q p
        to (inl h) = let t = (before q).0 h in (t.0, before_more n t.0 t.1, t.2)
        to (inr h) = let t = (mine q).0 h in (t.0, before_here n m t.0 at t.1, t.2)

        back : (p : WrittenPort) → Has q p → GivenBefore fs ms n p ⊎ Gives fs m p → (noted q || own q) ≡ true
        back p has (inl g) = or_left (noted q) (own q) ((before q).1 (p, g, has))
        back p has (inr g) = or_right (noted q) (own q) ((mine q).1 (p, g, has))

    clash_told : (n : ℕ) (m : WrittenMember) (noted own : Q → Bool) (Clash : WrittenPort → WrittenPort → Type 0) → ((p r : WrittenPort) → Clash p r → (q : Q) × Has q p × Has q r)
        → ((q : Q) (p r : WrittenPort) → Has q p → Has q r → Clash p r) → AreNoted n noted → AreOwn m own → (b : Bool)
        → (b ≡ true) ↔ ((q : Q) × (own q ≡ true) × (noted q ≡ true)) → (b ≡ true) ↔ GivesAgain fs Clash ms n m
    clash_told n m noted own Clash has clash before mine b told = (
      λ e.
          let t = told.0 e in
          let a = (before t.0).0 t.2 in
          let o = (mine t.0).0 t.1 in
          record { earlier = a.0; given = a.1; later = o.0; gives = o.1; clash = clash t.0 a.0 o.0 a.2 o.2 },
      λ g.
          let h = has g.earlier g.later g.clash in
          told.1 (h.0, (mine h.0).1 (g.later, g.gives, h.2), (before h.0).1 (g.earlier, g.given, h.1)),
    )

  -- ---- what a gift says of a member

  module _ (m : WrittenMember) (gift : Gift) (h : IsGift fs (m ∷ []) gift) where
    own_names : AreOwn HasName m (λ (q : List ℕ). has_port q gift.firsts)
    own_names q = (
      λ e. let t = (named_gift fs (m ∷ []) gift h q).0 e in (t.0, (one_given fs m t.0).0 t.1, t.2),
      λ t. (named_gift fs (m ∷ []) gift h q).1 (t.0, (one_given fs m t.0).1 t.1, t.2),
    )

    own_kinds : AreOwn HasKind m (has_kind gift.kinds)
    own_kinds s = (
      λ e. let t = (kind_gift fs (m ∷ []) gift h s).0 e in (t.0, (one_given fs m t.0).0 t.1, t.2),
      λ t. (kind_gift fs (m ∷ []) gift h s).1 (t.0, (one_given fs m t.0).1 t.1, t.2),
    )

  -- ---- one after another

  pub record RepeatsFirst (n : ℕ) (seen : List WrittenPort) (kinds : SpecialKinds) (first : Option Refusal) : Type 0 where
    pub least : IsLeast (InFirst n (RepeatsAt fs ms) ms) first
    pub names_noted : AreNoted HasName n (λ (q : List ℕ). has_port q seen)
    pub kinds_noted : AreNoted HasKind n (has_kind kinds)

  pub repeats_none : (seen : List WrittenPort) (kinds : SpecialKinds) → seen ≡ [] → ((s : Special) → has_kind kinds s ≡ false) → RepeatsFirst 0 seen kinds None
  repeats_none seen kinds empty none = record {
    least = least_first_none (RepeatsAt fs ms) ms;
    names_noted = noted_none HasName (λ (q : List ℕ). has_port q seen) (λ q. ap (has_port q) empty);
    kinds_noted = noted_none HasKind (has_kind kinds) none;
  }

  kinds_swapped : (x y : SpecialKinds) → (have_common x y ≡ true) ↔ ((s : Special) × (has_kind y s ≡ true) × (has_kind x s ≡ true))
  kinds_swapped x y = (λ e. let t = (common_told x y).0 e in (t.0, t.2, t.1), λ t. (common_told x y).1 (t.0, t.2, t.1))

  clash_least : (n : ℕ) (m : WrittenMember) (gift : Gift) (seen : List WrittenPort) (kinds : SpecialKinds) → IsGift fs (m ∷ []) gift
      → AreNoted HasName n (λ (q : List ℕ). has_port q seen) → AreNoted HasKind n (has_kind kinds) → IsLeast (RepeatsAt fs ms n m) (clash_fault seen kinds gift m)
  clash_least n m gift seen kinds h names special =
      least_either _ _
      (least_placed (GivesAgain fs HaveOneName ms n m) (any_seen seen gift.firsts) PortNameRepeated (giver_at m)
      (clash_told HasName n m (λ (q : List ℕ). has_port q seen) (λ (q : List ℕ). has_port q gift.firsts) HaveOneName (λ p r e. (r.name, e, refl)) (λ q p r d e. d ∙ sym e) names
      (own_names m gift h) (any_seen seen gift.firsts) (seen_told seen gift.firsts)))
      (least_placed (GivesAgain fs AreOfOneKind ms n m) (have_common kinds gift.kinds) SpecialPort (giver_at m)
      (clash_told HasKind n m (has_kind kinds) (has_kind gift.kinds) AreOfOneKind (λ p r t. t) (λ s p r d e. (s, d, e)) special
      (own_kinds m gift h) (have_common kinds gift.kinds) (kinds_swapped kinds gift.kinds)))

  pub repeats_next : (n : ℕ) (m : WrittenMember) (gift : Gift) (seen later : List WrittenPort) (kinds more_kinds : SpecialKinds) (first more fault : Option Refusal)
      → slice_get ms n ≡ Some m → IsGift fs (m ∷ []) gift → fault ≡ clash_fault seen kinds gift m → more ≡ lesser_of first fault
      → ((q : List ℕ) → has_port q later ≡ (has_port q seen || has_port q gift.firsts)) → ((s : Special) → has_kind more_kinds s ≡ (has_kind kinds s || has_kind gift.kinds s))
      → RepeatsFirst n seen kinds first → RepeatsFirst (n + 1) later more_kinds more
  repeats_next n m gift seen later kinds more_kinds first more fault at h found is names special before = record {
    least =
        least_next (RepeatsAt fs ms) ms n m first more fault at is
        (least_along (sym found) (clash_least n m gift seen kinds h before.names_noted before.kinds_noted)) before.least;
    names_noted = noted_next HasName n m (λ (q : List ℕ). has_port q seen) (λ (q : List ℕ). has_port q gift.firsts) (λ (q : List ℕ). has_port q later) at names before.names_noted (own_names m gift h);
    kinds_noted = noted_next HasKind n m (has_kind kinds) (has_kind gift.kinds) (has_kind more_kinds) at special before.kinds_noted (own_kinds m gift h);
  }
