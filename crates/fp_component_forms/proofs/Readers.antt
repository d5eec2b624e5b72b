-- What is read of one part.
use Rattle.std.proofs.Common.{◌≡◌, ℕ, List, [], ◌∷◌, slice_get, Option, Some, None, sym, subst}
use Rattle.fp_base.specs.declared.value.Value.{Value}
use Rattle.fp_tree.specs.declared.source.Source.{Source}
use Rattle.fp_tree.specs.declared.name.Qual.{Qual}
use Rattle.fp_tree.specs.declared.type_name.TypeName.{TypeName}
use Rattle.fp_tree.specs.declared.component.InterfacePart.{InterfacePart}
use Rattle.fp_tree.specs.declared.component.InterfacePart.TheVariants as interface_part
use Rattle.fp_tree.specs.declared.component.Part.{Part}
use Rattle.fp_tree.specs.declared.component.Part.TheVariants as part
use Rattle.fp_tables.specs.declared.kind.Kind.{Kind}
use Rattle.fp_meaning.specs.declared.group.Group.{Group}
use Rattle.fp_meaning.specs.declared.item.Item.{Item}
use Rattle.fp_meaning.specs.Layout.{own_items, use_items}
use Rattle.fp_meaning.specs.Names.{Path, definitions, in_optional}
use Rattle.fp_meaning.specs.Sites.{naming}
use Rattle.fp_type_forms.specs.declared.resolving.Resolution.{Resolution}
use Rattle.fp_type_forms.specs.Resolved.{Takes, UseMeans}
use Rattle.fp_type_forms.specs.Written.{AllAt, IsOnly, KindIs}
use Rattle.fp_type_forms.proofs.Taking.{taken_nothing}
use Rattle.fp_part_values.specs.Names.{written}
use Rattle.fp_written_parts.specs.declared.member.WrittenMember.{WrittenMember}
use Rattle.fp_component_forms.specs.Positions.{RanksAre}
use Rattle.fp_component_forms.specs.Taken.{MemberWhere, ResultWhere, TypeWhere}
use Rattle.fp_component_forms.specs.Written.{AllHaveTypes, BothOrNeither, MemberIs, PositionIs, TypeNameIs, before, part_of}

module _ (source : Source) (marks : List (Option Value)) (rs : List Resolution) where
  -- where a part is left out
  pub taken_without : {A B : Type 0} (f : A → List Item) (R : A → B → Type 0) (o : Option A) (a : ℕ) → o ≡ None
      → Takes source marks rs (in_optional f o) a a (BothOrNeither R o None)
  taken_without f R o a is = subst (λ x. Takes source marks rs (in_optional f x) a a (BothOrNeither R x None)) (sym is) (taken_nothing source marks rs a tt)

  pub taken_with : {A B : Type 0} (f : A → List Item) (R : A → B → Type 0) (o : Option A) (x : A) (y : B) (a b : ℕ) → o ≡ Some x
      → Takes source marks rs (f x) a b (R x y) → Takes source marks rs (in_optional f o) a b (BothOrNeither R o (Some y))
  taken_with f R o x y a b is h = subst (λ q. Takes source marks rs (in_optional f q) a b (BothOrNeither R q (Some y))) (sym is) h

  -- what a use means, by its position
  pub taken_position : (g : Group) (scope : Path) (q : Qual) (a b : ℕ) (ranks : List ℕ) (meant : Option ℕ) (position : ℕ) → RanksAre g (definitions source) ranks
      → ((number rank : ℕ) → meant ≡ Some number → slice_get ranks number ≡ Some rank → position ≡ rank)
      → Takes source marks rs (use_items g scope q) a b (IsOnly (UseMeans source (naming g scope q)) meant)
      → Takes source marks rs (use_items g scope q) a b (PositionIs source scope g q position)
  taken_position g scope q a b ranks meant position ranked found h others resolved =
      let t = h others resolved in
      let number = resolved.0.2.0 in
      let means = resolved.0.2.1 in
      let there = means.meant.named in (
        (number, means, found number (before g (definitions source) number) (t.0.only number means) (ranked number there.definition there.here)),
        t.1,
      )

  -- the kind of a type name
  pub type_found : (scope : Path) (t : TypeName) (o : Option Kind) (k : Kind) → ((x : Kind) → o ≡ Some x → k ≡ x) → IsOnly (KindIs source scope t.form) o → TypeWhere source scope t k
  type_found scope t o k found only has = subst (λ (x : Kind). KindIs source scope t.form x) (sym (found has.0 (only.only has.0 has.1))) has.1

  -- the result of a port, where its type name names a type
  pub results_named : (scope : Path) (t : Option TypeName) (k : Option Kind) → ResultWhere source scope t k → AllHaveTypes source scope (written t) → BothOrNeither (TypeNameIs source scope) t k
  results_named scope None None h has = tt
  results_named scope None (Some k) h has = absurd h
  results_named scope (Some t) None h has = absurd h
  results_named scope (Some t) (Some k) h has = h has.0

  -- a member by the part that it is
  pub member_by : (scope : Path) (p q : Part) (a b : ℕ) (ms : List WrittenMember) → p ≡ q → Takes source marks rs (own_items scope q) a b (MemberWhere source scope q ms)
      → Takes source marks rs (own_items scope p) a b (MemberWhere source scope p ms)
  member_by scope p q a b ms is h = subst (λ (x : Part). Takes source marks rs (own_items scope x) a b (MemberWhere source scope x ms)) (sym is) h

pub interface_member_is : (source : Source) (scope : Path) (p : InterfacePart) (ms : List WrittenMember) → MemberWhere source scope (part_of p) ms
    → AllAt (λ position (x : InterfacePart). MemberIs source scope (part_of x)) 0 (p ∷ []) ms
interface_member_is source scope (interface_part.General p) ms h = go ms (h tt)
  where
    go : (ms : List WrittenMember) → AllAt (λ position. MemberIs source scope) 0 (part.General p ∷ []) ms → AllAt (λ position (x : InterfacePart). MemberIs source scope (part_of x)) 0 (interface_part.General p ∷ []) ms
    go [] k = k
    go (m ∷ []) k = k
    go (m ∷ n ∷ ms) k = absurd k.1
interface_member_is source scope (interface_part.Special p) ms h = go ms (h tt)
  where
    go : (ms : List WrittenMember) → AllAt (λ position. MemberIs source scope) 0 (part.Special p ∷ []) ms → AllAt (λ position (x : InterfacePart). MemberIs source scope (part_of x)) 0 (interface_part.Special p ∷ []) ms
    go [] k = k
    go (m ∷ []) k = k
    go (m ∷ n ∷ ms) k = absurd k.1
interface_member_is source scope (interface_part.Import i) ms h = go ms (h tt)
  where
    go : (ms : List WrittenMember) → AllAt (λ position. MemberIs source scope) 0 (part.Import i ∷ []) ms → AllAt (λ position (x : InterfacePart). MemberIs source scope (part_of x)) 0 (interface_part.Import i ∷ []) ms
    go [] k = k
    go (m ∷ []) k = k
    go (m ∷ n ∷ ms) k = absurd k.1
