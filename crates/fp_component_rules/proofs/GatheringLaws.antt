-- What the gift of members says of what they give.
use Rattle.std.proofs.Common.{◌≡◌, ◌↔◌, ◌∙◌, ℕ, zero, suc, Bool, true, false, List, [], ◌∷◌, slice_get, Some, refl, sym, ap, subst}
use Rattle.std.specs.List.{find, list_any}
use Rattle.fp_base.proofs.Options.{same_some}
use Rattle.fp_base.proofs.Passing.{any_at, any_found}
use Rattle.fp_base.proofs.Bytes.{same_bytes, bytes_same}
use Rattle.fp_tables.specs.declared.component.Special.{Special}
use Rattle.fp_tables.proofs.SpecialPorts.{special_itself, one_special}
use Rattle.fp_written_parts.specs.declared.port.WrittenPort.{WrittenPort}
use Rattle.fp_written_parts.specs.declared.port.WrittenRole.{WrittenRole}
use Rattle.fp_written_parts.specs.declared.port.WrittenRole.TheVariants as role
use Rattle.fp_written_parts.specs.declared.member.WrittenInterface.{WrittenInterface}
use Rattle.fp_written_parts.specs.declared.member.WrittenMember.{WrittenMember}
use Rattle.fp_written_parts.specs.Giving.{Gives, GiveAll}
use Rattle.fp_component_rules.specs.declared.gift.Gift.{Gift}
use Rattle.fp_component_rules.specs.Firsts.{AreApart, has_kind, has_port, is_asynchronous, is_named, is_of_kind, of_each_name}
use Rattle.fp_component_rules.specs.Gifts.{GivenAmong, IsGift}
use Rattle.fp_component_rules.specs.Lists.{IsGivenApart}
use Rattle.fp_component_rules.proofs.Listed.{given_in, in_given, one_list}
use Rattle.fp_component_rules.proofs.Named.{differ_apart, each_differ, found_each, has_each, whole}

-- ---- kinds

pub no_truth : {P : Type 0} → false ≡ true → P
no_truth e = absurd (cc)

pub kind_is : (s : Special) (r : WrittenRole) → is_of_kind s r ≡ true → r ≡ role.Special s
kind_is s (role.Special t) h = ap role.Special (sym (one_special s t h))
kind_is s role.AsyncInput h = no_truth h
kind_is s role.SyncInput h = no_truth h
kind_is s role.GuardedInput h = no_truth h
kind_is s role.Output h = no_truth h
kind_is s role.Internal h = no_truth h

pub is_kind : (s : Special) (r : WrittenRole) → r ≡ role.Special s → is_of_kind s r ≡ true
is_kind s r e = ap (is_of_kind s) e ∙ special_itself s

-- ---- gifts

module _ (fs : List WrittenInterface) (ms : List WrittenMember) (gift : Gift) (h : IsGift fs ms gift) where
  any_given : (f : WrittenPort → Bool) → list_any f h.all ≡ true → (p : WrittenPort) × GivenAmong fs ms p × (f p ≡ true)
  any_given f e = let t = any_found f h.all e in (t.1, in_given fs h.given t.0 t.1 t.2, t.3)

  given_any : (f : WrittenPort → Bool) (p : WrittenPort) → GivenAmong fs ms p → f p ≡ true → list_any f h.all ≡ true
  given_any f p g e = let t = given_in fs h.given p g in any_at f h.all t.0 p t.1 e

  -- it has a port of a name exactly where some member gives one
  pub named_gift : (q : List ℕ) → (has_port q gift.firsts ≡ true) ↔ ((p : WrittenPort) × GivenAmong fs ms p × (p.name ≡ q))
  named_gift q = (
    λ e.
        let t = any_given (is_named q) (sym (has_each q h.all) ∙ ap (has_port q) (sym h.sums.firsts) ∙ e) in
        (t.0, t.1, sym (same_bytes q t.0.name t.2)),
    λ t. ap (has_port q) h.sums.firsts ∙ has_each q h.all ∙ given_any (is_named q) t.0 t.1 (bytes_same q t.0.name (sym t.2)),
  )

  pub kind_gift : (s : Special) → (has_kind gift.kinds s ≡ true) ↔ ((p : WrittenPort) × GivenAmong fs ms p × (p.role ≡ role.Special s))
  kind_gift s = (
    λ e. let t = any_given (λ (p : WrittenPort). is_of_kind s p.role) (sym (h.sums.kinds s) ∙ e) in (t.0, t.1, kind_is s t.0.role t.2),
    λ t. h.sums.kinds s ∙ given_any (λ (p : WrittenPort). is_of_kind s p.role) t.0 t.1 (is_kind s t.0.role t.2),
  )

  pub asynchronous_gift : (gift.asynchronous ≡ true) ↔ ((p : WrittenPort) × GivenAmong fs ms p × (is_asynchronous p.role ≡ true))
  asynchronous_gift = (
    λ e. any_given (λ (p : WrittenPort). is_asynchronous p.role) (sym h.sums.asynchronous ∙ e),
    λ t. h.sums.asynchronous ∙ given_any (λ (p : WrittenPort). is_asynchronous p.role) t.0 t.1 t.2,
  )

  -- the first port of a name is the same
  pub first_gift : (q : List ℕ) → find (is_named q) gift.firsts ≡ find (is_named q) h.all
  first_gift q = ap (find (is_named q)) h.sums.firsts ∙ found_each q h.all

  pub apart_gift : AreApart gift.firsts
  apart_gift = subst AreApart (sym h.sums.firsts) (differ_apart (of_each_name h.all) (each_differ h.all))

  -- where no two have one name it is the whole list
  pub whole_gift : AreApart h.all → gift.firsts ≡ h.all
  whole_gift apart = h.sums.firsts ∙ whole h.all apart

  -- there is no other list
  pub same_list : (ps : List WrittenPort) → GiveAll fs ms ps → ps ≡ h.all
  same_list ps given = one_list fs refl given h.given

-- ---- one member

pub one_given : (fs : List WrittenInterface) (m : WrittenMember) (p : WrittenPort) → GivenAmong fs (m ∷ []) p ↔ Gives fs m p
one_given fs m p = (λ g. go g g.k g.here, λ g. record { k = zero; member = m; here = refl; gives = g })
  where
    go : (g : GivenAmong fs (m ∷ []) p) (k : ℕ) → slice_get (m ∷ []) k ≡ Some g.member → Gives fs m p
    go g zero e = subst (λ (x : WrittenMember). Gives fs x p) (sym (same_some e)) g.gives
    go g (suc k) e = absurd (cc)

pub given_gift : (fs : List WrittenInterface) (ms : List WrittenMember) (gift : Gift) → IsGivenApart fs ms → IsGift fs ms gift → GiveAll fs ms gift.firsts
given_gift fs ms gift apart h = subst (GiveAll fs ms) (sym (whole_gift fs ms gift h (apart h.all h.given))) h.given
