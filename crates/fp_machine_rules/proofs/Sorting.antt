-- Members gathered by their states, one item after another.
use Rattle.std.proofs.Common.{◌≡◌, ◌≢◌, ℕ, ◌<◌, ◌⊎◌, Bool, true, false, cond, List, [], ◌∷◌, ◌++◌, length, set, replicate, flat_map, slice_get, Option, Some, None, refl, sym, ap, subst, ◌∙◌, inl, inr, arith, length-set, eq-eqb}
use Rattle.std.proofs.lemmas.List.{append-nil, length-replicate}
use Rattle.std.proofs.lemmas.List.Elements.{filter-append}
use Rattle.std.proofs.lemmas.Grind.{flat_map-append}
use Rattle.std.proofs.lemmas.Option.{slice_get_within}
use Rattle.fp_machine_rules.specs.declared.item.Target.{Target}
use Rattle.fp_machine_rules.specs.declared.item.Item.{Item}
use Rattle.fp_machine_rules.specs.declared.gathering.Move.{Move}
use Rattle.fp_machine_rules.specs.declared.gathering.Parts.{Parts}
use Rattle.fp_machine_rules.specs.Forms.{IsLaid}
use Rattle.fp_machine_rules.specs.Members.{members, same_place, name_in, initial_in, move_in}
use Rattle.fp_machine_rules.specs.Gathered.{parts, with_member, no_parts, AreGathered, HasPlace}
use Rattle.fp_base.proofs.Spots.{get_set_same, get_set_other, same_or_other}
use Rattle.fp_base.proofs.Numbers.{number_other, get_replicate}

one_kept : (p : Option ℕ) (x : Item) → same_place p x.parent ≡ true → members (x ∷ []) p ≡ x ∷ []
one_kept p x e = ap (λ (b : Bool). cond b (x ∷ []) []) e

one_left : (p : Option ℕ) (x : Item) → same_place p x.parent ≡ false → members (x ∷ []) p ≡ []
one_left p x e = ap (λ (b : Bool). cond b (x ∷ []) []) e

members_more : (xs : List Item) (x : Item) (p : Option ℕ) (ys : List Item) → members (x ∷ []) p ≡ ys → members (xs ++ x ∷ []) p ≡ members xs p ++ ys
members_more xs x p ys e = filter-append (λ (y : Item). same_place p y.parent) xs (x ∷ []) ∙ ap (λ (zs : List Item). members xs p ++ zs) e

each_more : {A : Type 0} (f : Item → List A) (xs : List Item) (x : Item) → flat_map f (xs ++ x ∷ []) ≡ flat_map f xs ++ f x
each_more f xs x = flat_map-append f xs (x ∷ []) ∙ ap (λ (ys : List _). flat_map f xs ++ ys) (append-nil (f x))

abbrev parts_of : List Item → Parts
parts_of ms = record {
  names = flat_map (λ (x : Item). name_in x.form) ms;
  initials = flat_map (λ (x : Item). initial_in x.form) ms;
  moves = flat_map (λ (x : Item). move_in x.form) ms;
}

abbrev three : List ℕ → List Target → List Move → Parts
three a b c = record { names = a; initials = b; moves = c }

three_same : (a a' : List ℕ) (b b' : List Target) (c c' : List Move) → a ≡ a' → b ≡ b' → c ≡ c' → three a b c ≡ three a' b' c'
three_same a a' b b' c c' e f g = ap (λ (x : List ℕ). three x b c) e ∙ (ap (λ (x : List Target). three a' x c) f ∙ ap (λ (x : List Move). three a' b' x) g)

parts_with : (ms : List Item) (x : Item) → parts_of (ms ++ x ∷ []) ≡ with_member (parts_of ms) x
parts_with ms x =
    three_same _ _ _ _ _ _ (each_more (λ (y : Item). name_in y.form) ms x) (each_more (λ (y : Item). initial_in y.form) ms x)
    (each_more (λ (y : Item). move_in y.form) ms x)

pub parts_more : (xs : List Item) (x : Item) (p : Option ℕ) → same_place p x.parent ≡ true → parts (xs ++ x ∷ []) p ≡ with_member (parts xs p) x
parts_more xs x p e = ap parts_of (members_more xs x p (x ∷ []) (one_kept p x e)) ∙ parts_with (members xs p) x

pub parts_other : (xs : List Item) (x : Item) (p : Option ℕ) → same_place p x.parent ≡ false → parts (xs ++ x ∷ []) p ≡ parts xs p
parts_other xs x p e = ap parts_of (members_more xs x p [] (one_left p x e) ∙ append-nil (members xs p))

module _ (xs : List Item) (x : Item) (n : ℕ) (table : List Parts) (top : Parts) (h : AreGathered xs n table top) where
  pub gather_none : (top' : Parts) → x.parent ≡ None → top' ≡ with_member top x → AreGathered (xs ++ x ∷ []) n table top'
  gather_none top' e is = record {
    each = h.each;
    exact = λ v l. h.exact v l ∙ ap Some (sym (parts_other xs x (Some v) (ap (λ (o : Option ℕ). same_place (Some v) o) e)));
    own = is ∙ (ap (λ (t : Parts). with_member t x) h.own ∙ sym (parts_more xs x None (ap (λ (o : Option ℕ). same_place None o) e)));
  }

  pub gather_some : (q : ℕ) (table' : List Parts) → x.parent ≡ Some q → q < n → ((ps : Parts) → slice_get table q ≡ Some ps → table' ≡ set table q (with_member ps x))
      → AreGathered (xs ++ x ∷ []) n table' top
  gather_some q table' e l is = record { each = ap length now ∙ (length-set table q (with_member (parts xs (Some q)) x) ∙ h.each); exact = exact; own = h.own ∙ sym (parts_other xs x None (ap (λ (o : Option ℕ). same_place None o) e)) }
    where
      now : table' ≡ set table q (with_member (parts xs (Some q)) x)
      now = is (parts xs (Some q)) (h.exact q l)

      exact_by : (v : ℕ) → v < n → (v ≡ q) ⊎ (v ≢ q) → slice_get (set table q (with_member (parts xs (Some q)) x)) v ≡ Some (parts (xs ++ x ∷ []) (Some v))
      exact_by v lv (inl s) =
          ap (λ (k : ℕ). slice_get (set table q (with_member (parts xs (Some q)) x)) k) s
          ∙ (get_set_same table q (with_member (parts xs (Some q)) x) (subst (λ (m : ℕ). q < m) (sym h.each) l)
          ∙ (ap Some (sym (parts_more xs x (Some q) (ap (λ (o : Option ℕ). same_place (Some q) o) e ∙ eq-eqb q q refl)))
          ∙ ap (λ (k : ℕ). Some (parts (xs ++ x ∷ []) (Some k))) (sym s)))
      exact_by v lv (inr d) =
          get_set_other table q v (with_member (parts xs (Some q)) x) d
          ∙ (h.exact v lv ∙ ap Some (sym (parts_other xs x (Some v) (ap (λ (o : Option ℕ). same_place (Some v) o) e ∙ number_other v q d))))

      exact : (v : ℕ) → v < n → slice_get table' v ≡ Some (parts (xs ++ x ∷ []) (Some v))
      exact v lv = ap (λ (t : List Parts). slice_get t v) now ∙ exact_by v lv (same_or_other v q)

pub gather_begins : (n : ℕ) (table : List Parts) (top : Parts) → table ≡ replicate n no_parts → top ≡ no_parts → AreGathered [] n table top
gather_begins n table top t e = record {
  each = ap length t ∙ length-replicate n no_parts;
  exact = λ v l. ap (λ (ps : List Parts). slice_get ps v) t ∙ get_replicate n no_parts v l;
  own = e;
}

-- in a machine that is laid out, each item has its place
pub laid_places : (items : List Item) → IsLaid items → (v : ℕ) (x : Item) → slice_get items v ≡ Some x → HasPlace (length items) x
laid_places items laid v x here q e =
    let b = laid v q (record { item = x; here = here; parent = e }) in
    let l = slice_get_within items v x here in omega (arith, b.0, l)
