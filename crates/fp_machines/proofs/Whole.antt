-- What a machine breaks as a whole doesn't depend on what names in it mean.
use Rattle.std.proofs.Common.{◌≡◌, ℕ, suc, ◌+◌, ◌<◌, ◌⊎◌, Bool, true, false, cond, List, [], ◌∷◌, ◌++◌, length, length-append, map, flat_map, filter, slice_get, Option, Some, None, option_map, refl, sym, ap, subst, ◌∙◌, inl, inr}
use Rattle.std.proofs.lemmas.Option.{slice_get-map}
use Rattle.fp_base.specs.declared.place.Place.{Place}
use Rattle.fp_base.specs.declared.refusal.Refusal.{Refusal}
use Rattle.fp_base.specs.Least.{IsLeast}
use Rattle.fp_base.proofs.Calculus.{least_same}
use Rattle.fp_base.proofs.Options.{mapped_some}
use Rattle.fp_machine_rules.specs.declared.item.Form.{Form}
use Rattle.fp_machine_rules.specs.declared.item.Item.{Item}
use Rattle.fp_machine_rules.specs.Broken.{BrokenAsWhole}
use Rattle.fp_machine_rules.specs.Forms.{IsLaid, IsOf, StandsIn, is_state, is_vertex, is_signal}
use Rattle.fp_machine_rules.specs.Members.{initials, initial_in, same_place, MachineCountsWrong}
use Rattle.fp_machine_rules.specs.Nested.{Deep, outermost, below, IsTooDeepAt, IsTooLarge, NestsTooDeep}

-- two items stand alike and are of one kind
pub record IsAlike (x y : Item) : Type 0 where
  pub parent : x.parent ≡ y.parent
  pub state : is_state x.form ≡ is_state y.form
  pub vertex : is_vertex x.form ≡ is_vertex y.form
  pub signal : is_signal x.form ≡ is_signal y.form
  pub initial : length (initial_in x.form) ≡ length (initial_in y.form)

pub alike_back : {x y : Item} → IsAlike x y → IsAlike y x
alike_back a = record { parent = sym a.parent; state = sym a.state; vertex = sym a.vertex; signal = sym a.signal; initial = sym a.initial }

module _ {E : Type 0} (f g : E → Item) (alike : (e : E) → IsAlike (f e) (g e)) where
  stands_over : (es : List E) (v : ℕ) (p : Option ℕ) → StandsIn (map f es) v p → StandsIn (map g es) v p
  stands_over es v p s =
      let m = mapped_some f (slice_get es v) s.item (sym (slice_get-map f es v) ∙ s.here) in
      record {
        item = g m.0;
        here = slice_get-map g es v ∙ ap (λ (o : Option E). option_map g o) m.1;
        parent = sym (alike m.0).parent ∙ (ap (λ (x : Item). x.parent) m.2 ∙ s.parent);
      }

  kind_over : (test : Form → Bool) → ((e : E) → test (f e).form ≡ test (g e).form) → (es : List E) (v : ℕ) → IsOf (map f es) test v → IsOf (map g es) test v
  kind_over test same es v s =
      let m = mapped_some f (slice_get es v) s.item (sym (slice_get-map f es v) ∙ s.here) in
      record {
        item = g m.0;
        here = slice_get-map g es v ∙ ap (λ (o : Option E). option_map g o) m.1;
        holds = sym (same m.0) ∙ (ap (λ (x : Item). test x.form) m.2 ∙ s.holds);
      }

  deep_over : (es : List E) {v n : ℕ} → Deep (map f es) v n → Deep (map g es) v n
  deep_over es {v = v} (outermost s) = outermost (stands_over es v None s)
  deep_over es {v = v} (below {parent = p} s d) = below (stands_over es v (Some p) s) (deep_over es d)

  nests_over : (es : List E) → NestsTooDeep (map f es) → NestsTooDeep (map g es)
  nests_over es (v, t) = (v, record { is = kind_over is_vertex (λ e. (alike e).vertex) es v t.is; levels = t.levels; deep = deep_over es t.deep; past = t.past })

  counted_over : (test : Item → Bool) → ((e : E) → test (f e) ≡ test (g e)) → (es : List E) → length (filter test (map f es)) ≡ length (filter test (map g es))
  counted_over test same [] = refl
  counted_over test same (e ∷ es) = go (test (f e)) (test (g e)) (same e) (counted_over test same es)
    where
      go : (a b : Bool) → a ≡ b → length (filter test (map f es)) ≡ length (filter test (map g es))
          → length (cond a (f e ∷ filter test (map f es)) (filter test (map f es))) ≡ length (cond b (g e ∷ filter test (map g es)) (filter test (map g es)))
      go true true _ h = ap suc h
      go false false _ h = h
      go true false x h = absurd cc
      go false true x h = absurd cc

  begun_over : (p : Option ℕ) (es : List E) → length (initials (map f es) p) ≡ length (initials (map g es) p)
  begun_over p [] = refl
  begun_over p (e ∷ es) =
      go (same_place p (f e).parent) (same_place p (g e).parent) (ap (λ (q : Option ℕ). same_place p q) (alike e).parent) (begun_over p es)
    where
      first : List Item → List Item
      first xs = filter (λ (x : Item). same_place p x.parent) xs

      targets : List Item → ℕ
      targets xs = length (flat_map (λ (x : Item). initial_in x.form) xs)

      go : (a b : Bool) → a ≡ b → targets (first (map f es)) ≡ targets (first (map g es))
          → targets (cond a (f e ∷ first (map f es)) (first (map f es))) ≡ targets (cond b (g e ∷ first (map g es)) (first (map g es)))
      go true true _ h =
          length-append (initial_in (f e).form) (flat_map (λ (x : Item). initial_in x.form) (first (map f es)))
          ∙ (ap (λ (n : ℕ). n + targets (first (map f es))) (alike e).initial
          ∙ (ap (λ (n : ℕ). length (initial_in (g e).form) + n) h
          ∙ sym (length-append (initial_in (g e).form) (flat_map (λ (x : Item). initial_in x.form) (first (map g es))))))
      go false false _ h = h
      go true false x h = absurd cc
      go false true x h = absurd cc

  large_over : (es : List E) → IsTooLarge (map f es) → IsTooLarge (map g es)
  large_over es (inl n) = inl (nests_over es n)
  large_over es (inr (inl n)) = inr (inl (subst (λ (k : ℕ). 1000 < k) (counted_over (λ (x : Item). is_vertex x.form) (λ e. (alike e).vertex) es) n))
  large_over es (inr (inr n)) = inr (inr (subst (λ (k : ℕ). 1000 < k) (counted_over (λ (x : Item). is_signal x.form) (λ e. (alike e).signal) es) n))

  miscounted_over : (es : List E) → MachineCountsWrong (map f es) → MachineCountsWrong (map g es)
  miscounted_over es w e = w (begun_over None es ∙ e)

  whole_over : (place : Place) (es : List E) (r : Refusal) → BrokenAsWhole place (map f es) r → BrokenAsWhole place (map g es) r
  whole_over place es r (inl (is, w)) = inl (is, miscounted_over es w)
  whole_over place es r (inr (is, l)) = inr (is, large_over es l)

-- items that stand alike are laid alike
pub laid_over : {E : Type 0} (f g : E → Item) → ((e : E) → IsAlike (f e) (g e)) → (es : List E) → IsLaid (map f es) → IsLaid (map g es)
laid_over {E = E} f g alike es laid = λ v p s.
    let back = laid v p (stands_over g f (λ e. alike_back (alike e)) es v (Some p) s) in
    (back.0, kind_over f g alike is_state (λ e. (alike e).state) es p back.1)

pub least_alike : {E : Type 0} (f g : E → Item) → ((e : E) → IsAlike (f e) (g e)) → (place : Place) (es : List E) (o : Option Refusal)
    → IsLeast (BrokenAsWhole place (map f es)) o → IsLeast (BrokenAsWhole place (map g es)) o
least_alike f g alike place es o l =
    least_same (whole_over f g alike place es) (whole_over g f (λ e. alike_back (alike e)) place es) l
