-- Matched ports have one size.
use Rattle.std.proofs.Common.{◌≡◌, ℕ, suc, ◌<◌, Bool, true, inr, List, [], ◌∷◌, ◌++◌, length, map, flat_map, slice_get, Option, Some, None, refl, sym, ap, subst, ◌∙◌, arith}
use Rattle.std.specs.Prelude.{zero, ℤ, pos, find, position, option_and_then, option_map, unwrap_or}
use Rattle.std.specs.List.{list_all}
use Rattle.std.proofs.lemmas.Option.{none-some}
use Rattle.fp_base.proofs.Lists.{get_within}
use Rattle.fp_base.proofs.Options.{same_some}
use Rattle.fp_base.proofs.Spots.{item_below}
use Rattle.fp_base.proofs.Passing.{all_items}
use Rattle.fp_base.proofs.Numbers.{number_same, pos_same}
use Rattle.fp_base.specs.Least.{IsUnbroken}
use Rattle.fp_tree.specs.declared.source.Source.{Source}
use Rattle.fp_tables.proofs.Firsts.{find_by_position}
use Rattle.fp_tables.specs.declared.component.Component.{Component}
use Rattle.fp_tables.specs.declared.component.Port.{Port}
use Rattle.fp_tables.specs.declared.model.Model.{Model}
use Rattle.fp_numbering.specs.Labels.{has_one_size, matched_ports_have_one_size, size_in}
use Rattle.fp_type_sizes.specs.declared.written.WrittenType.{WrittenType}
use Rattle.fp_written_parts.specs.declared.member.WrittenComponent.{WrittenComponent}
use Rattle.fp_written_parts.specs.declared.member.WrittenInterface.{WrittenInterface}
use Rattle.fp_written_parts.specs.declared.member.WrittenMatch.{WrittenMatch}
use Rattle.fp_written_parts.specs.declared.member.WrittenMember.{WrittenMember}
use Rattle.fp_written_parts.specs.declared.member.WrittenMember.TheVariants as member
use Rattle.fp_written_parts.specs.declared.port.Given.{Given}
use Rattle.fp_written_parts.specs.declared.port.WrittenPort.{WrittenPort}
use Rattle.fp_written_parts.specs.declared.port.WrittenPortDef.{WrittenPortDef}
use Rattle.fp_component_rules.specs.Firsts.{is_named}
use Rattle.fp_component_rules.specs.Broken.{ComponentsBroken, size_of}
use Rattle.fp_component_rules.specs.Consistent.{AreConsistent, IsConsistent}
use Rattle.fp_components.specs.Resolved.{IsComponent, IsNumber, match_in}
use Rattle.fp_model.specs.Joined.{Joined, StatesHold}

-- the first that passes stands at the position of the first that passes
found_there : {A : Type 0} (p : A → Bool) (xs : List A) (k : ℕ) (x : A) → position p xs ≡ Some k → find p xs ≡ Some x → slice_get xs k ≡ Some x
found_there p xs k x h e = sym (ap (option_and_then (slice_get xs)) h) ∙ sym (find_by_position p xs) ∙ e

-- a match that is written is that of a member
member_of_match : (ms : List WrittenMember) (k : ℕ) (d : WrittenMatch) → slice_get (flat_map match_in ms) k ≡ Some d → (j : ℕ) × (slice_get ms j ≡ Some (member.Match d))
member_of_match [] k d at = absurd (none-some d at)
member_of_match (member.Match x ∷ ms) zero d at = (0, ap (λ (w : WrittenMatch). Some (member.Match w)) (same_some at))
member_of_match (member.Match x ∷ ms) (suc k) d at = let r = member_of_match ms k d at in (suc r.0, r.1)
member_of_match (member.Port x ∷ ms) k d at = let r = member_of_match ms k d at in (suc r.0, r.1)
member_of_match (member.Import x ∷ ms) k d at = let r = member_of_match ms k d at in (suc r.0, r.1)
member_of_match (member.Command x ∷ ms) k d at = let r = member_of_match ms k d at in (suc r.0, r.1)
member_of_match (member.Event x ∷ ms) k d at = let r = member_of_match ms k d at in (suc r.0, r.1)
member_of_match (member.Channel x ∷ ms) k d at = let r = member_of_match ms k d at in (suc r.0, r.1)
member_of_match (member.Param x ∷ ms) k d at = let r = member_of_match ms k d at in (suc r.0, r.1)
member_of_match (member.Running x ∷ ms) k d at = let r = member_of_match ms k d at in (suc r.0, r.1)

sized : (o : Option Given) (n : ℤ) → IsNumber (pos 1) o n → size_of o ≡ Some n
sized None n h = ap (λ (x : ℤ). Some x) (sym h)
sized (Some g) n h = h

module _ (interfaces : List WrittenInterface) (definitions : List WrittenPortDef) (ws : List WrittenType) (w : WrittenComponent) (c : Component) (is : IsComponent interfaces definitions ws w c)
    (consistent : IsConsistent interfaces w) where
  -- a port of the component comes from one that is given there
  size_at : (k : ℕ) (p : WrittenPort) → slice_get is.all k ≡ Some p → (n : ℕ) × (size_in c.ports k ≡ n) × (size_of p.size ≡ Some (pos n))
  size_at k p here =
      let low = get_within is.all k p here in
      let each = is.ports.each in
      let q = item_below c.ports k (omega (arith, low, each)) in
      (q.0.size, ap (λ (o : Option Port). unwrap_or (option_map (λ (x : Port). x.size) o) 0) q.1, sized p.size (pos q.0.size) (is.ports.at k p q.0 here q.1).size)

  paired : list_all (has_one_size c.ports) c.matches ≡ true
  paired =
      all_items (has_one_size c.ports) c.matches (λ k q at.
      let low = get_within c.matches k q at in
      let each = is.matches.each in
      let d = item_below (flat_map match_in w.members) k (omega (arith, low, each)) in
      let names = is.matches.at k d.0 q d.1 at in
      let there = member_of_match w.members k d.0 d.1 in
      let pair = consistent.pairs is.all is.given there.0 d.0 there.1 in
      let one = size_at q.0 pair.one (found_there (is_named d.0.first) is.all q.0 pair.one names.first pair.first) in
      let other = size_at q.1 pair.other (found_there (is_named d.0.second) is.all q.1 pair.other names.second pair.second) in
      let same : one.0 ≡ other.0 = pos_same one.0 other.0 (pair.sizes (pos one.0) (pos other.0) one.2 other.2) in
      number_same (size_in c.ports q.0) (size_in c.ports q.1) (one.1 ∙ same ∙ sym other.1))

pub matched : ((interfaces : List WrittenInterface) (components : List WrittenComponent) → IsUnbroken (ComponentsBroken interfaces components) → AreConsistent interfaces components)
    → (source : Source) (m : Model) → StatesHold source → Joined source m → matched_ports_have_one_size m ≡ true
matched law source m h j =
    let p = j.parts.2 in
    let whole = law p.written.interfaces p.written.components (λ f b. h.parts f (record { written = p.written; are = p.are; types = m.types; given = j.types; broken = inr (inr b) })) in
    all_items (λ (c : Component). list_all (has_one_size c.ports) c.matches) m.components (λ k c at.
    let low = get_within m.components k c at in
    let each = p.components.each in
    let w = item_below p.written.components k (omega (arith, low, each)) in
    paired p.written.interfaces p.written.definitions j.parts.0 w.0 c (p.components.at k w.0 c w.1 at) (whole.each k w.0 w.1))
