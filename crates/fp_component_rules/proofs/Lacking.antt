-- Special ports that members need and aren't given.
use Rattle.std.proofs.Common.{◌≡◌, ◌↔◌, ◌∙◌, Bool, true, false, not, List, refl, sym}
use Rattle.std.specs.List.{list_any}
use Rattle.fp_base.proofs.Bools.{not_true, not_both}
use Rattle.fp_base.proofs.Passing.{any_at, any_found}
use Rattle.fp_tables.specs.declared.component.Special.{Special}
use Rattle.fp_written_parts.specs.declared.port.WrittenPort.{WrittenPort}
use Rattle.fp_written_parts.specs.declared.port.WrittenRole.TheVariants as role
use Rattle.fp_written_parts.specs.declared.member.WrittenInterface.{WrittenInterface}
use Rattle.fp_written_parts.specs.declared.member.WrittenMember.{WrittenMember}
use Rattle.fp_component_rules.specs.Firsts.{has_kind}
use Rattle.fp_component_rules.specs.Gifts.{GivenAmong, IsGift}
use Rattle.fp_component_rules.specs.declared.gift.Gift.{Gift}
use Rattle.fp_component_rules.specs.declared.interface_kinds.SpecialKinds.{SpecialKinds}
use Rattle.fp_component_rules.proofs.GatheringLaws.{kind_gift}
use Rattle.fp_component_rules.specs.Broken.{IsMissing, needs}
use Rattle.fp_component_rules.specs.Tested.{have_common}
use Rattle.fp_component_rules.proofs.Meeting.{common_told}

module _ (fs : List WrittenInterface) (ms : List WrittenMember) (gift : Gift) (h : IsGift fs ms gift) (needed others : SpecialKinds) where
  pub missing_told : ((s : Special) → has_kind needed s ≡ list_any (needs s) ms) → ((s : Special) → has_kind others s ≡ not (has_kind gift.kinds s))
      → (have_common needed others ≡ true) ↔ IsMissing fs ms
  missing_told all rest = (to, back)
    where
      to : have_common needed others ≡ true → IsMissing fs ms
      to e =
          let t = (common_told needed others).0 e in
          let n = any_found (needs t.0) ms (sym (all t.0) ∙ t.1) in
          record {
            k = n.0;
            member = n.1;
            here = n.2;
            kind = t.0;
            needed = n.3;
            lacks = λ p g is. not_both ((kind_gift fs ms gift h t.0).1 (p, g, is)) (not_true (has_kind gift.kinds t.0) (sym (rest t.0) ∙ t.2));
          }

      left : (s : Special) → ((p : WrittenPort) → GivenAmong fs ms p → p.role ≡ role.Special s → ⊥) → (b : Bool) → has_kind gift.kinds s ≡ b → not b ≡ true
      left s lacks true e = let t = (kind_gift fs ms gift h s).0 e in absurd (lacks t.0 t.1 t.2)
      left s lacks false e = refl

      back : IsMissing fs ms → have_common needed others ≡ true
      back m =
          (common_told needed others).1
          (m.kind, all m.kind ∙ any_at (needs m.kind) ms m.k m.member m.here m.needed, rest m.kind ∙ left m.kind m.lacks (has_kind gift.kinds m.kind) refl)
