-- A definition has one form at most, and what is written of types is one list.
use Rattle.std.proofs.Common.{◌≡◌, ℕ, List, Option, Some, None, refl, sym, ap, ◌∙◌}
use Rattle.std.specs.Prelude.{ℤ, pos}
use Rattle.fp_base.proofs.Options.{same_some}
use Rattle.fp_base.proofs.Numbers.{pos_same}
use Rattle.fp_base.specs.declared.value.Value.{Value}
use Rattle.fp_tree.specs.declared.source.Source.{Source}
use Rattle.fp_tree.specs.declared.definition.Def.{Def}
use Rattle.fp_tree.specs.declared.definition.Def.TheVariants as def
use Rattle.fp_tree.specs.declared.definition.Enum.{Enum}
use Rattle.fp_tree.specs.declared.expression.Expr.{Expr}
use Rattle.fp_tree.specs.declared.type_name.TypeName.{TypeName}
use Rattle.fp_tree.specs.declared.type_name.TypeForm.{TypeForm}
use Rattle.fp_tree.specs.declared.type_name.TypeForm.TheVariants as type
use Rattle.fp_tree.specs.declared.part.EnumConst.{EnumConst}
use Rattle.fp_tree.specs.declared.part.Field.{Field as Member}
use Rattle.fp_tables.specs.declared.kind.Kind.{Kind}
use Rattle.fp_tables.specs.declared.kind.Kind.TheVariants as kind
use Rattle.fp_tables.specs.declared.kind.Form.{Form}
use Rattle.fp_tables.specs.declared.kind.Form.TheVariants as form
use Rattle.fp_tables.specs.declared.kind.Field.{Field}
use Rattle.fp_tables.specs.declared.kind.Constant.{Constant}
use Rattle.fp_meaning.specs.declared.group.Group.TheVariants as group
use Rattle.fp_meaning.specs.Names.{Path, definitions}
use Rattle.fp_meaning.specs.Values.{number_in, constant_value, names_of}
use Rattle.fp_meaning.proofs.Meanings.{one_meaning}
use Rattle.fp_meaning.proofs.OneValue.{one_value}
use Rattle.fp_type_sizes.specs.declared.written.WrittenType.{WrittenType}
use Rattle.fp_type_sizes.specs.declared.written.Own.{Own}
use Rattle.fp_type_sizes.specs.declared.written.Own.TheVariants as own
use Rattle.fp_type_forms.specs.Written.{IsOnly, TypeHere, types_before, text_in, field_with, NumberIs, IsSizeTo, KindIs, SizeIs, FieldIs, ConstantIs, EnumeratedIs, ReprIs, FormIs, OwnIs, IsWritten, AreWritten, types}
use Rattle.fp_type_forms.proofs.Only.{all_one}

module _ (source : Source) (scope : Path) where
  pub one_number : (e : Expr) (m n : ℤ) → NumberIs source scope e m → NumberIs source scope e n → m ≡ n
  one_number e m n h k = same_some (sym h.2 ∙ ap number_in (one_value h.1 k.1) ∙ k.2)

  one_size : (most : ℕ) (e : Expr) (m n : ℕ) → IsSizeTo source scope most e m → IsSizeTo source scope most e n → m ≡ n
  one_size most e m n h k = pos_same _ _ (one_number e (pos m) (pos n) h.number k.number)

  pub one_kind : (t : TypeForm) (k l : Kind) → KindIs source scope t k → KindIs source scope t l → k ≡ l
  one_kind (type.Text None) k l h g = h ∙ sym g
  one_kind (type.Text (Some e)) k l h g = h.2 ∙ ap (λ (n : ℕ). kind.Str n) (one_size 65535 e h.0 g.0 h.1 g.1) ∙ sym g.2
  one_kind (type.Use q) k l h g =
      h.2 ∙ ap (λ (n : ℕ). kind.Named (types_before (definitions source) n)) (one_meaning (definitions source) scope (names_of q) group.Kind h.0 g.0 h.1 g.1) ∙ sym g.2
  one_kind t k l h g = same_some (sym h ∙ g)

  one_repr : (t : Option TypeName) (k l : Kind) → ReprIs source scope t k → ReprIs source scope t l → k ≡ l
  one_repr None k l h g = h ∙ sym g
  one_repr (Some t) k l h g = one_kind t.form k l h g

  one_member_size : (t : Option Expr) (m n : Option ℕ) → SizeIs source scope t m → SizeIs source scope t n → m ≡ n
  one_member_size None m n h g = h ∙ sym g
  one_member_size (Some e) m n h g = h.2 ∙ ap (λ (x : ℕ). Some x) (one_size 256 e h.0 g.0 h.1 g.1) ∙ sym g.2

  one_field : (f : Member) (x y : Field) → FieldIs source scope f x → FieldIs source scope f y → x ≡ y
  one_field f x y h g =
      h.4 ∙ ap (λ (s : Option ℕ). field_with f s h.1) (one_member_size f.size h.0 g.0 h.2 g.2) ∙ ap (λ (k : Kind). field_with f g.0 k) (one_kind f.of.form h.1 g.1 h.3 g.3) ∙ sym g.4

  one_place : (d : Enum) (position : ℕ) (e : Option Expr) (m n : ℤ) → ConstantIs source scope d position e m → ConstantIs source scope d position e n → m ≡ n
  one_place d position None m n h g = h.1 ∙ sym g.1
  one_place d position (Some e) m n h g = one_number e m n h g

  one_constant : (d : Enum) (position : ℕ) (c : EnumConst) (x y : Constant) → EnumeratedIs source scope d position c x → EnumeratedIs source scope d position c y → x ≡ y
  one_constant d position c x y h g =
      h.2 ∙ ap (λ (n : ℤ). record { name = c.name.text; value = constant_value scope d c n; note = c.note }) (one_place d position c.value h.0 g.0 h.1 g.1) ∙ sym g.2

  pub one_form_of : (d : Def) (f g : Form) → FormIs source scope d f → FormIs source scope d g → f ≡ g
  one_form_of (def.Abstract d) f g h k = h ∙ sym k
  one_form_of (def.Alias d) f g h k = h.2 ∙ ap (λ (x : Kind). form.Alias x) (one_kind d.target.form h.0 k.0 h.1 k.1) ∙ sym k.2
  one_form_of (def.Array d) f g h k =
      h.4 ∙ ap (λ (n : ℕ). form.Array n h.1 (text_in d.format)) (one_size 256 d.size h.0 k.0 h.2 k.2)
      ∙ ap (λ (x : Kind). form.Array k.0 x (text_in d.format)) (one_kind d.element.form h.1 k.1 h.3 k.3) ∙ sym k.4
  one_form_of (def.Struct d) f g h k =
      h.2 ∙ ap (λ (xs : List Field). form.Struct xs) (all_one (λ position. FieldIs source scope) (λ position. one_field) 0 d.fields h.0 k.0 h.1 k.1) ∙ sym k.2
  one_form_of (def.Enum d) f g h k =
      h.4 ∙ ap (λ (x : Kind). form.Enum x h.1) (one_repr d.repr h.0 k.0 h.2 k.2)
      ∙ ap (λ (xs : List Constant). form.Enum k.0 xs) (all_one (EnumeratedIs source scope d) (one_constant d) 0 d.constants h.1 k.1 h.3 k.3) ∙ sym k.4
  one_form_of (def.Constant d) f g h k = absurd h
  one_form_of (def.Port d) f g h k = absurd h

  one_own : (e : Option Expr) (x y : Own) → OwnIs source scope e x → OwnIs source scope e y → x ≡ y
  one_own None own.Unwritten own.Unwritten h g = refl
  one_own None own.Unwritten own.NoValue h g = absurd g
  one_own None own.Unwritten (own.Has w) h g = absurd g
  one_own None own.NoValue y h g = absurd h
  one_own None (own.Has v) y h g = absurd h
  one_own (Some e) own.Unwritten y h g = absurd h
  one_own (Some e) own.NoValue own.Unwritten h g = absurd g
  one_own (Some e) own.NoValue own.NoValue h g = refl
  one_own (Some e) own.NoValue (own.Has w) h g = absurd (h w g)
  one_own (Some e) (own.Has v) own.Unwritten h g = absurd g
  one_own (Some e) (own.Has v) own.NoValue h g = absurd (g v h)
  one_own (Some e) (own.Has v) (own.Has w) h g = ap (λ (u : Value). own.Has u) (one_value h g)

-- two answers to what there is one of
pub same_answer : {A : Type 0} (P : A → Type 0) (o q : Option A) → ((x y : A) → P x → P y → x ≡ y) → IsOnly P o → IsOnly P q → o ≡ q
same_answer P None None one h k = refl
same_answer P None (Some y) one h k = h.only y (k.holds y refl)
same_answer P (Some x) q one h k = sym (k.only x (h.holds x refl))

same_written : {a b : List ℕ} {f g : Option Form} {u v : Own} {m n : List ℕ} → a ≡ b → f ≡ g → u ≡ v → m ≡ n
    → ◌≡◌ {A = WrittenType} (record { name = a; form = f; default = u; note = m }) (record { name = b; form = g; default = v; note = n })
same_written e f g h = cc

module _ (source : Source) where
  one_type : (t : TypeHere) (v w : WrittenType) → IsWritten source t v → IsWritten source t w → v ≡ w
  one_type t v w h k =
      same_written (h.name ∙ sym k.name)
      (same_answer (FormIs source t.scope t.definition) v.form w.form (one_form_of source t.scope t.definition) h.form k.form)
      (one_own source t.scope t.default v.default w.default h.default k.default) (h.note ∙ sym k.note)

  pub one_list : (vs ws : List WrittenType) → AreWritten source vs → AreWritten source ws → vs ≡ ws
  one_list vs ws h k = all_one (λ position. IsWritten source) (λ position. one_type) 0 (types source) vs ws h k
