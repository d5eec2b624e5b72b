-- Values of a kind are said with each number as it is.
use Rattle.std.proofs.Common.{◌≡◌, ℕ, zero, suc, true, ◌&&◌, List, [], ◌∷◌, refl, ap, ◌∙◌}
use Rattle.std.specs.Str.{bytes_eq}
use Rattle.fp_base.proofs.Bools.{both}
use Rattle.fp_base.specs.Rendered.{number_of}
use Rattle.fp_base.specs.declared.value.Value.{Value, Int, Bool as Truth, Text, Enumerated, Array', Struct', Opaque, Row_of-Value, more_of-Value, end_of-Value}
use Rattle.fp_base.specs.declared.value.Value.TheBlock as block
use Rattle.fp_tables.specs.Types.{Shape, integer, array, struct, of_form, shape, member_shape, has, items_have, parts_have, has_kind, form_has_values, type_has_values, is_constant_of}
use Rattle.fp_tables.specs.declared.kind.Kind.{Kind}
use Rattle.fp_tables.specs.declared.kind.Field.{Field}
use Rattle.fp_tables.specs.declared.kind.Constant.{Constant}
use Rattle.fp_tables.specs.declared.kind.TypeDef.{TypeDef}
use Rattle.serde_json.specs.Data as json
use Rattle.serde_json.specs.Data.{Data, Items, Members, put}
use Rattle.fp_dictionary.specs.Values.{number_data, value_data, items_data, parts_data}
use Rattle.fp_dictionary.specs.Exact.{exact_number, exact_value, exact_items, exact_parts}
use Rattle.fp_dictionary.proofs.Narrow.{IsNarrow, kind_narrow, form_narrow, member_narrow}

module _ (types : List TypeDef) where
  mutual
    pub said_exactly : (s : Shape) → IsNarrow s → (v : Value) → has types s v ≡ true → value_data v ≡ exact_value v
    said_exactly s narrow (Truth b) h = refl
    said_exactly s narrow (Text t) h = refl
    said_exactly s narrow (Enumerated e c n) h = refl
    said_exactly s narrow Opaque h = refl
    said_exactly (integer low high) narrow (Int n) h = narrow n h
    said_exactly (array size k) narrow (Array' m vs) h = ap (λ (ds : Items). json.array ds) (items_exact size (shape types k) (kind_narrow types k) vs h)
    said_exactly (struct fields) narrow (Struct' m ps) h = ap (λ (ms : Members). json.object ms) (parts_exact fields ps json.no_members h)
    said_exactly _ narrow (Int n) h = absurd (cc)
    said_exactly _ narrow (Array' m vs) h = absurd (cc)
    said_exactly _ narrow (Struct' m ps) h = absurd (cc)

    items_exact : (size : ℕ) (s : Shape) → IsNarrow s → {m : _} (vs : Row_of-Value m) → items_have types size s vs ≡ true → items_data vs ≡ exact_items vs
    items_exact zero s narrow end_of-Value h = refl
    items_exact (suc size) s narrow (more_of-Value v vs) h =
        let t = both (has types s v) (items_have types size s vs) h in
        ap (λ (d : Data). json.item d (items_data vs)) (said_exactly s narrow v t.0) ∙ ap (λ (ds : Items). json.item (exact_value v) ds) (items_exact size s narrow vs t.1)
    items_exact (suc size) s narrow end_of-Value h = absurd (cc)
    items_exact zero s narrow (more_of-Value v vs) h = absurd (cc)

    parts_exact : (fields : List Field) {m : _} (ps : block.Row_of-MemberValue m) (ms : Members) → parts_have types fields ps ≡ true → parts_data ps ms ≡ exact_parts ps ms
    parts_exact [] block.end_of-MemberValue ms h = refl
    parts_exact (f ∷ fs) (block.more_of-MemberValue n v ps) ms h =
        let t = both (bytes_eq n f.name && has types (member_shape types f) v) (parts_have types fs ps) h in
        let here = both (bytes_eq n f.name) (has types (member_shape types f) v) t.0 in
        ap (λ (d : Data). parts_data ps (put n d ms)) (said_exactly (member_shape types f) (member_narrow types f) v here.1) ∙ parts_exact fs ps (put n (exact_value v) ms) t.1
    parts_exact [] (block.more_of-MemberValue n v ps) ms h = absurd (cc)
    parts_exact (f ∷ fs) block.end_of-MemberValue ms h = absurd (cc)

  pub value_exact : (k : Kind) (v : Value) → has_kind types k v ≡ true → value_data v ≡ exact_value v
  value_exact k v h = said_exactly (shape types k) (kind_narrow types k) v h

  pub default_exact : (d : TypeDef) → type_has_values types d ≡ true → value_data d.default ≡ exact_value d.default
  default_exact d h =
      said_exactly (of_form (shape types) d.form) (form_narrow types d.form) d.default (both (form_has_values types d.name d.form) (has types (of_form (shape types) d.form) d.default) h).1

  pub constant_exact : (enum : List ℕ) (repr : Kind) (c : Constant) → is_constant_of types enum repr c ≡ true → number_data (number_of c.value) ≡ exact_number (number_of c.value)
  constant_exact enum repr c h = go c.value h
    where
      go : (v : Value) → is_constant_of types enum repr (record c { value = v }) ≡ true → number_data (number_of v) ≡ exact_number (number_of v)
      go (Enumerated e x n) is =
          let t = both (bytes_eq e enum && bytes_eq x c.name) (has_kind types repr (Int n)) is in
          value_exact repr (Int n) t.1
      go (Int n) is = absurd (cc)
      go _ is = refl
