-- What waits in a queue, by tests.
use Rattle.std.proofs.Common.{◌≡◌, ◌↔◌, ◌∙◌, ◌⊎◌, inl, inr, ℕ, Bool, true, ◌||◌, List, [], ◌∷◌, Option, sym, ap}
use Rattle.std.specs.List.{list_any}
use Rattle.fp_base.specs.declared.place.Place.{Place}
use Rattle.fp_base.specs.declared.refusal.Refusal.{Refusal}
use Rattle.fp_base.specs.declared.rule.Rule.TheVariants.{PassiveWithQueueUse}
use Rattle.fp_base.specs.Least.{IsLeast}
use Rattle.fp_base.proofs.Bools.{or_cases, or_left, or_right}
use Rattle.fp_base.proofs.Calculus.{least_along}
use Rattle.fp_base.proofs.Passing.{any_at, any_found}
use Rattle.fp_written_parts.specs.declared.member.WrittenInterface.{WrittenInterface}
use Rattle.fp_written_parts.specs.declared.member.WrittenMember.{WrittenMember}
use Rattle.fp_component_rules.specs.Gifts.{GivenAmong, IsGift}
use Rattle.fp_component_rules.specs.declared.gift.Gift.{Gift}
use Rattle.fp_component_rules.proofs.GatheringLaws.{asynchronous_gift, one_given}
use Rattle.fp_component_rules.specs.Broken.{UseAt, Waits, WaitsAmong, bringer_at, waits_itself}
use Rattle.fp_component_rules.specs.Tested.{fault_at}
use Rattle.fp_component_rules.proofs.Folding.{least_placed}

module _ (fs : List WrittenInterface) where
  -- one member
  pub waits_told : (m : WrittenMember) (gift : Gift) → IsGift fs (m ∷ []) gift → ((waits_itself m || gift.asynchronous) ≡ true) ↔ Waits fs m
  waits_told m gift h = (λ e. to (or_cases (waits_itself m) gift.asynchronous e), back)
    where
      to : (waits_itself m ≡ true) ⊎ (gift.asynchronous ≡ true) → Waits fs m
      to (inl e) = inl e
      to (inr e) = let t = (asynchronous_gift fs (m ∷ []) gift h).0 e in inr (t.0, (one_given fs m t.0).0 t.1, t.2)

      back : Waits fs m → (waits_itself m || gift.asynchronous) ≡ true
      back (inl e) = or_left (waits_itself m) gift.asynchronous e
      back (inr t) = or_right (waits_itself m) gift.asynchronous ((asynchronous_gift fs (m ∷ []) gift h).1 (t.0, (one_given fs m t.0).1 t.1, t.2))

  -- all of them
  pub among_told : (ms : List WrittenMember) (gift : Gift) → IsGift fs ms gift → ((list_any waits_itself ms || gift.asynchronous) ≡ true) ↔ WaitsAmong fs ms
  among_told ms gift h = (λ e. to (or_cases (list_any waits_itself ms) gift.asynchronous e), λ w. back w w.waits)
    where
      to : (list_any waits_itself ms ≡ true) ⊎ (gift.asynchronous ≡ true) → WaitsAmong fs ms
      to (inl e) = let t = any_found waits_itself ms e in record { k = t.0; member = t.1; here = t.2; waits = inl t.3 }
      to (inr e) =
          let t = (asynchronous_gift fs ms gift h).0 e in
          let g = t.1 in
          record { k = g.k; member = g.member; here = g.here; waits = inr (t.0, g.gives, t.2) }

      back : (w : WaitsAmong fs ms) → Waits fs w.member → (list_any waits_itself ms || gift.asynchronous) ≡ true
      back w (inl e) = or_left (list_any waits_itself ms) gift.asynchronous (any_at waits_itself ms w.k w.member w.here e)
      back w (inr t) =
          let g : GivenAmong fs ms t.0 = record { k = w.k; member = w.member; here = w.here; gives = t.1 } in
          or_right (list_any waits_itself ms) gift.asynchronous ((asynchronous_gift fs ms gift h).1 (t.0, g, t.2))

  -- the rule of passive components at a member
  pub use_least : (n : ℕ) (m : WrittenMember) (gift : Gift) (itself : Bool) (place : Option Place) (fault : Option Refusal) → IsGift fs (m ∷ []) gift → itself ≡ waits_itself m
      → place ≡ bringer_at m → fault ≡ fault_at (itself || gift.asynchronous) PassiveWithQueueUse place → IsLeast (UseAt fs n m) fault
  use_least n m gift itself place fault h is at found =
      least_along (sym (found ∙ ap (λ (b : Bool). fault_at (b || gift.asynchronous) PassiveWithQueueUse place) is ∙ ap (fault_at (waits_itself m || gift.asynchronous) PassiveWithQueueUse) at))
      (least_placed (Waits fs m) (waits_itself m || gift.asynchronous) PassiveWithQueueUse (bringer_at m) (waits_told m gift h))
