-- Each written member is that of a part of the source.
use Rattle.std.proofs.Common.{◌≡◌, ℕ, zero, suc, List, [], ◌∷◌, ◌++◌, flat_map, slice_get, Option, Some, refl, subst}
use Rattle.fp_topology_forms.proofs.Places.{second_read}
use Rattle.fp_base.proofs.Lists.{of_item, one_item}
use Rattle.fp_base.specs.declared.value.Value.{Value}
use Rattle.fp_tree.specs.declared.source.Source.{Source}
use Rattle.fp_tree.specs.declared.component.Component.{Component}
use Rattle.fp_tree.specs.declared.component.Interface.{Interface}
use Rattle.fp_tree.specs.declared.component.InterfacePart.{InterfacePart}
use Rattle.fp_tree.specs.declared.component.Part.{Part}
use Rattle.fp_tree.specs.declared.component.Part.TheVariants as part
use Rattle.fp_meaning.specs.declared.item.Item.{Item}
use Rattle.fp_meaning.specs.declared.item.Item.TheVariants as item
use Rattle.fp_meaning.specs.Layout.{component_scope, items}
use Rattle.fp_meaning.specs.Names.{Path}
use Rattle.fp_meaning.specs.Sites.{Declaration, ModelDef, component, declaration, instance, interface, machine, topology}
use Rattle.fp_type_forms.specs.declared.resolving.Resolution.{Resolution}
use Rattle.fp_type_forms.specs.Resolved.{AreResolved}
use Rattle.fp_part_values.specs.FormStanding.{AreValued, NumbersStand}
use Rattle.fp_part_values.specs.Standing.{IsPart}
use Rattle.fp_written_parts.specs.declared.member.WrittenComponent.{WrittenComponent}
use Rattle.fp_written_parts.specs.declared.member.WrittenInterface.{WrittenInterface}
use Rattle.fp_written_parts.specs.declared.member.WrittenMember.{WrittenMember}
use Rattle.fp_component_forms.specs.declared.writing.WrittenSource.{WrittenSource}
use Rattle.fp_component_forms.specs.Written.{ComponentIs, InterfaceIs, IsWrittenSource, MemberIs, Scoped, component_in, component_declared, components, interface_in, interface_declared, interfaces, member_part, part_of}
use Rattle.fp_source_parts.proofs.Values.{InnerKnown, PartKnown, component_known, interface_known}

-- ---- what is read off a list, element by element

-- it comes of one of the elements
pub record Comes {A B : Type 0} (f : A → List B) (xs : List A) (y : B) : Type 0 where
  pub k : ℕ
  pub x : A
  pub here : slice_get xs k ≡ Some x
  pub j : ℕ
  pub there : slice_get (f x) j ≡ Some y

comes_of : {A B : Type 0} (f : A → List B) (x : A) (xs : List A) (y : B) → ((m : ℕ) → slice_get (flat_map f xs) m ≡ Some y → Comes f xs y) → (ys : List B) (m : ℕ) → slice_get (ys ++ flat_map f xs) m ≡ Some y
    → ((j : ℕ) → slice_get ys j ≡ Some y → Comes f (x ∷ xs) y) → Comes f (x ∷ xs) y
comes_of f x xs y behind [] m e found = let rest = behind m e in record { k = suc rest.k; x = rest.x; here = rest.here; j = rest.j; there = rest.there }
comes_of f x xs y behind (z ∷ ys) zero e found = found 0 e
comes_of f x xs y behind (z ∷ ys) (suc m) e found = comes_of f x xs y behind ys m e (λ j a. found (suc j) a)

pub comes : {A B : Type 0} (f : A → List B) (xs : List A) (n : ℕ) (y : B) → slice_get (flat_map f xs) n ≡ Some y → Comes f xs y
comes f [] n y at = absurd (cc)
comes {B = B} f (x ∷ xs) n y at = comes_of f x xs y (λ m. comes f xs m y) (f x) n at (λ j e. record { k = 0; x = x; here = refl; j = j; there = e })

-- ---- definitions

-- a component among items, and an interface
pub record StandsAt (source : Source) (outside : Path) (d : ModelDef) : Type 0 where
  pub k : ℕ
  pub at : slice_get (items source) k ≡ Some (item.Declared (declaration outside d))

in_item : (i : Item) (s : Scoped Component) (j : ℕ) → slice_get (component_declared i) j ≡ Some s → i ≡ item.Declared (declaration s.scope (component s.node))
in_item (item.Declared d) s j e = of_model d.scope d.definition refl e
  where
    of_model : (scope : Path) (m : ModelDef) → d ≡ declaration scope m → slice_get (component_in scope m) j ≡ Some s → item.Declared d ≡ item.Declared (declaration s.scope (component s.node))
    of_model scope (component c) is e = let same = one_item j e in cc
    of_model scope (machine m) is e = absurd (cc)
    of_model scope (interface x) is e = absurd (cc)
    of_model scope (instance x) is e = absurd (cc)
    of_model scope (topology x) is e = absurd (cc)
in_item (item.Defined x) s j e = absurd (cc)
in_item (item.Enumerated x) s j e = absurd (cc)
in_item (item.Used since n) s j e = absurd (cc)
in_item (item.Written since p) s j e = absurd (cc)

interface_item : (i : Item) (s : Scoped Interface) (j : ℕ) → slice_get (interface_declared i) j ≡ Some s → i ≡ item.Declared (declaration s.scope (interface s.node))
interface_item (item.Declared d) s j e = of_model d.scope d.definition refl e
  where
    of_model : (scope : Path) (m : ModelDef) → d ≡ declaration scope m → slice_get (interface_in scope m) j ≡ Some s → item.Declared d ≡ item.Declared (declaration s.scope (interface s.node))
    of_model scope (interface x) is e = let same = one_item j e in cc
    of_model scope (component c) is e = absurd (cc)
    of_model scope (machine m) is e = absurd (cc)
    of_model scope (instance x) is e = absurd (cc)
    of_model scope (topology x) is e = absurd (cc)
interface_item (item.Defined x) s j e = absurd (cc)
interface_item (item.Enumerated x) s j e = absurd (cc)
interface_item (item.Used since n) s j e = absurd (cc)
interface_item (item.Written since p) s j e = absurd (cc)

component_stands : (source : Source) (v : ℕ) (s : Scoped Component) → slice_get (components source) v ≡ Some s → StandsAt source s.scope (component s.node)
component_stands source v s at =
    let c = comes component_declared (items source) v s at in
    record { k = c.k; at = subst (λ (i : Item). slice_get (items source) c.k ≡ Some i) (in_item c.x s c.j c.there) c.here }

interface_stands : (source : Source) (v : ℕ) (s : Scoped Interface) → slice_get (interfaces source) v ≡ Some s → StandsAt source s.scope (interface s.node)
interface_stands source v s at =
    let c = comes interface_declared (items source) v s at in
    record { k = c.k; at = subst (λ (i : Item). slice_get (items source) c.k ≡ Some i) (interface_item c.x s c.j c.there) c.here }

-- ---- parts

itself : (x p : Part) (j : ℕ) → slice_get (member_part x) j ≡ Some p → x ≡ p
itself (part.Def d) p j e = absurd (cc)
itself (part.Machine m) p j e = absurd (cc)
itself (part.Include i) p j e = absurd (cc)
itself (part.General x) p j e = one_item j e
itself (part.Special x) p j e = one_item j e
itself (part.Internal x) p j e = one_item j e
itself (part.Command x) p j e = one_item j e
itself (part.Event x) p j e = one_item j e
itself (part.Channel x) p j e = one_item j e
itself (part.Param x) p j e = one_item j e
itself (part.Match x) p j e = one_item j e
itself (part.Running x) p j e = one_item j e
itself (part.Import x) p j e = one_item j e

-- what is known of a member of a component, and of one of an interface
pub record MemberKnown (source : Source) (m : WrittenMember) : Type 0 where
  pub scope : Path
  pub of : Part
  pub is : MemberIs source scope of m
  pub part_of : IsPart source scope of
  pub known : PartKnown source scope of

pub record InterfaceMemberKnown (source : Source) (m : WrittenMember) : Type 0 where
  pub scope : Path
  pub of : InterfacePart
  pub is : MemberIs source scope (part_of of) m
  pub known : InnerKnown source scope of

module _ (source : Source) (w : WrittenSource) (are : IsWrittenSource source w) (marks : List (Option Value)) (rs : List Resolution)
    (resolved : AreResolved source marks rs (items source) 0) (valued : AreValued source)
    (numbers : (k : ℕ) (d : Declaration) → slice_get (items source) k ≡ Some (item.Declared d) → NumbersStand source d.scope d.definition) where
  pub member_known : (v k : ℕ) (c : WrittenComponent) (m : WrittenMember) → slice_get w.components v ≡ Some c → slice_get c.members k ≡ Some m → MemberKnown source m
  member_known v k c m at there =
      let whole = second_read (ComponentIs source) 0 (components source) w.components v c are.components at in
      let s = whole.one in
      let scope = component_scope s.scope s.node in
      let here = component_stands source v s whole.here in
      let member = second_read (MemberIs source scope) 0 (flat_map member_part s.node.parts) c.members k m whole.related.members there in
      let from = comes member_part s.node.parts k member.one member.here in
      let stands = subst (λ (p : Part). slice_get s.node.parts from.k ≡ Some p) (itself from.x member.one from.j from.there) from.here in
      record {
        scope = scope;
        of = member.one;
        is = member.related;
        part_of = record { at = here.k; outside = s.scope; whole = s.node; here = here.at; place = from.k; there = stands; inside = refl };
        known = of_item (PartKnown source scope) s.node.parts from.k member.one (component_known source marks rs resolved valued numbers here.k s.scope s.node here.at) stands;
      }

  pub interface_member_known : (v k : ℕ) (f : WrittenInterface) (m : WrittenMember) → slice_get w.interfaces v ≡ Some f → slice_get f.members k ≡ Some m → InterfaceMemberKnown source m
  interface_member_known v k f m at there =
      let whole = second_read (InterfaceIs source) 0 (interfaces source) w.interfaces v f are.interfaces at in
      let s = whole.one in
      let here = interface_stands source v s whole.here in
      let member = second_read (λ (p : InterfacePart). MemberIs source s.scope (part_of p)) 0 s.node.parts f.members k m whole.related there in
      record {
        scope = s.scope;
        of = member.one;
        is = member.related;
        known = of_item (InnerKnown source s.scope) s.node.parts k member.one (interface_known source marks rs resolved valued numbers here.k s.scope s.node here.at) member.here;
      }
