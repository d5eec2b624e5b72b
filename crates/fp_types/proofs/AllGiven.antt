-- The types of a list in which each is given.
use Rattle.std.proofs.Common.{◌≡◌, ℕ, suc, ◌<◌, Bool, true, false, ◌||◌, List, [], ◌∷◌, length, Option, Some, None, slice_get, refl, sym, ap, ◌∙◌, subst}
use Rattle.std.specs.Prelude.{option_map}
use Rattle.std.specs.List.{list_any}
use Rattle.std.proofs.lemmas.List.{length-map}
use Rattle.std.proofs.lemmas.Option.{slice_get_within}
use Rattle.fp_base.proofs.Sameness.{nat_same}
use Rattle.fp_tables.specs.Lists.{some_and}
use Rattle.fp_tables.specs.Types.{Leads, once, again, is_use, is_named, kinds_in, form_at}
use Rattle.fp_tables.specs.declared.kind.Kind.{Kind}
use Rattle.fp_tables.specs.declared.kind.Kind.TheVariants as kind
use Rattle.fp_tables.specs.declared.kind.Form.{Form}
use Rattle.fp_tables.specs.declared.kind.TypeDef.{TypeDef}
use Rattle.fp_type_sizes.specs.declared.written.WrittenType.{WrittenType}
use Rattle.fp_type_sizes.specs.Sizes.{HasForm}
use Rattle.fp_type_sizes.specs.Found.{UsesType, LeadsTo}
use Rattle.fp_type_sizes.specs.Found as found
use Rattle.fp_type_sizes.proofs.OneSize.{one_form}
use Rattle.fp_type_sizes.proofs.NoCycle.{no_cycle}
use Rattle.fp_base.proofs.Spots.{item_below}
use Rattle.fp_base.proofs.Mapped.{map_get}
use Rattle.fp_types.specs.Converting.{DefaultIs}
use Rattle.fp_types.specs.WellWritten.{AllGiven}
use Rattle.fp_types.proofs.Passed.{default_of_size}

pub named_is : (j : ℕ) (k : Kind) → is_named j k ≡ true → k ≡ kind.Named j
named_is j (kind.Named i) e = ap (λ (n : ℕ). kind.Named n) (nat_same.equal i j e)
named_is j kind.U8 e = absurd (cc)
named_is j kind.U16 e = absurd (cc)
named_is j kind.U32 e = absurd (cc)
named_is j kind.U64 e = absurd (cc)
named_is j kind.I8 e = absurd (cc)
named_is j kind.I16 e = absurd (cc)
named_is j kind.I32 e = absurd (cc)
named_is j kind.I64 e = absurd (cc)
named_is j kind.Bool e = absurd (cc)
named_is j (kind.Str size) e = absurd (cc)

pub any_named : (j : ℕ) (ks : List Kind) → list_any (is_named j) ks ≡ true → (n : ℕ) × (slice_get ks n ≡ Some (kind.Named j))
any_named j [] e = absurd (cc)
any_named j (k ∷ ks) e = go (is_named j k) refl e (λ h. any_named j ks h)
  where
    go : (b : Bool) → is_named j k ≡ b → (b || list_any (is_named j) ks) ≡ true → (list_any (is_named j) ks ≡ true → (n : ℕ) × (slice_get ks n ≡ Some (kind.Named j)))
        → (n : ℕ) × (slice_get (k ∷ ks) n ≡ Some (kind.Named j))
    go true is h rest = (0, ap (λ (x : Kind). Some x) (named_is j k is))
    go false is h rest = let p = rest h in (suc p.0, p.1)

module _ (ws : List WrittenType) (types : List TypeDef) (are : AllGiven ws types) where
  pub given_at : (i : ℕ) (d : TypeDef) → slice_get types i ≡ Some d → HasForm ws i d.form × DefaultIs ws (kind.Named i) d.default
  given_at i d e = (are.at i (Some d) (map_get (λ (x : TypeDef). Some x) types i d e)).holds d refl

  pub named_at : (i : ℕ) (d : TypeDef) (w : WrittenType) → slice_get types i ≡ Some d → slice_get ws i ≡ Some w → d.name ≡ w.name
  named_at i d w e h = ((are.at i (Some d) (map_get (λ (x : TypeDef). Some x) types i d e)).names d w refl h).0

  pub type_there : (i : ℕ) (f : Form) → HasForm ws i f → (d : TypeDef) × (slice_get types i ≡ Some d) × (d.form ≡ f)
  type_there i f h =
      let long : i < length types = subst (λ (n : ℕ). i < n) (sym are.each ∙ length-map types (λ (x : TypeDef). Some x)) (slice_get_within ws i h.written h.here) in
      let p = item_below types i long in
      (p.0, p.1, one_form (given_at i p.0 p.1).0 h)

  pub form_in : (i : ℕ) (f : Form) → HasForm ws i f → form_at types i ≡ Some f
  form_in i f h = let p = type_there i f h in ap (option_map (λ (d : TypeDef). d.form)) p.1 ∙ ap (λ (x : Form). Some x) p.2

  -- ---- no type uses itself

  used : (i j : ℕ) → is_use types i j → UsesType ws i j
  used i j u = go (slice_get types i) refl u
    where
      go : (o : Option TypeDef) → slice_get types i ≡ o → some_and (λ f. list_any (is_named j) (kinds_in f)) (option_map (λ (d : TypeDef). d.form) o) ≡ true → UsesType ws i j
      go None is e = absurd (cc)
      go (Some d) is e = let p = any_named j (kinds_in d.form) e in record { shape = d.form; form = (given_at i d is).0; at = p.0; used = p.1 }

  leads : (i j : ℕ) → Leads types i j → LeadsTo ws i j
  leads i j (once m n u) = found.one (used i j u)
  leads i j (again m k n u l) = found.more (used i k u) (leads k j l)

  first_use : (i j : ℕ) → Leads types i j → (k : ℕ) × is_use types i k
  first_use i j (once m n u) = (j, u)
  first_use i j (again m k n u l) = (k, u)

  pub no_self : (i : ℕ) → Leads types i i → ⊥
  no_self i l =
      let u = first_use i i l in
      let h = (used i u.0 u.1).form in
      let p = type_there i (used i u.0 u.1).shape h in
      let s = default_of_size ws i p.0.default (given_at i p.0 p.1).1 in
      no_cycle s.2 i refl (leads i i l)
