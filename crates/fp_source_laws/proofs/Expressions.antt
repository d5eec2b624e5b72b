-- What expressions break is broken at their places.
use Rattle.std.proofs.Common.{◌≡◌, ℕ, List, [], ◌∷◌, ◌++◌, flat_map, Some, sym, ap, subst, ◌∙◌}
use Rattle.std.specs.Prelude.{slice_get}
use Rattle.std.specs.List.{AllByRecursion as Each}
use Rattle.std.proofs.lemmas.List.Folds.{flat_map-map}
use Rattle.fp_base.specs.declared.place.Place.{Place}
use Rattle.fp_base.specs.declared.refusal.Refusal.{Refusal}
use Rattle.fp_base.proofs.Lists.{each_before, each_behind, of_item}
use Rattle.fp_tree.specs.declared.source.Source.{Source}
use Rattle.fp_tree.specs.declared.expression.Expr.{Expr}
use Rattle.fp_tree.specs.declared.expression.Assignment.{Assignment}
use Rattle.fp_tree.specs.declared.expression.Form.{fold-roll-Form, roll-Form, roll-out-Form}
use Rattle.fp_tree.specs.declared.expression.Form.TheOpen as form
use Rattle.fp_meaning.specs.ConstantFaults.{BrokenHere, BrokenIn, itself, within, float, negation_outside, result_outside, zero_divisor, minus_kind, left_kind, right_kind, list_too_large, struct_too_large, parts_of}
use Rattle.fp_meaning.specs.Names.{Path}
use Rattle.fp_meaning.specs.Values.{Opened, opened, values_in}
use Rattle.fp_places.specs.Places.{places_of_form, places_of_assignment, places_of_expression, places_in_expression, places_in_form, places_in_assignment}
use Rattle.fp_places.proofs.Walks.{assigned_places, whole_places}
use Rattle.fp_places.proofs.Expressions.{StandIn}
use Rattle.fp_type_forms.specs.Broken.{RepeatsIn, itself as repeated, within as repeated_within}

-- those in an opened expression
abbrev places_in_opened : Opened → List Place
places_in_opened (form.Minus a) = places_in_expression a
places_in_opened (form.Parentheses a) = places_in_expression a
places_in_opened (form.Binary operator a b) = places_in_expression a ++ places_in_expression b
places_in_opened (form.Array items) = flat_map places_in_expression items
places_in_opened (form.Struct members) = flat_map places_in_assignment members
places_in_opened _ = []

rolled_places : (o : Opened) → places_in_form (roll-Form o) ≡ places_in_opened o
rolled_places (form.Number n) = fold-roll-Form (List Place) (List Place) (List Place) places_of_form places_of_assignment places_of_expression (form.Number n)
rolled_places form.Float = fold-roll-Form (List Place) (List Place) (List Place) places_of_form places_of_assignment places_of_expression form.Float
rolled_places (form.Text t) = fold-roll-Form (List Place) (List Place) (List Place) places_of_form places_of_assignment places_of_expression (form.Text t)
rolled_places (form.Truth b) = fold-roll-Form (List Place) (List Place) (List Place) places_of_form places_of_assignment places_of_expression (form.Truth b)
rolled_places (form.Use name) = fold-roll-Form (List Place) (List Place) (List Place) places_of_form places_of_assignment places_of_expression (form.Use name)
rolled_places (form.Minus a) = fold-roll-Form (List Place) (List Place) (List Place) places_of_form places_of_assignment places_of_expression (form.Minus a)
rolled_places (form.Parentheses a) = fold-roll-Form (List Place) (List Place) (List Place) places_of_form places_of_assignment places_of_expression (form.Parentheses a)
rolled_places (form.Binary operator a b) = fold-roll-Form (List Place) (List Place) (List Place) places_of_form places_of_assignment places_of_expression (form.Binary operator a b)
rolled_places (form.Array items) =
    fold-roll-Form (List Place) (List Place) (List Place) places_of_form places_of_assignment places_of_expression (form.Array items)
    ∙ flat_map-map (λ (places : List Place). places) places_in_expression items
rolled_places (form.Struct members) =
    fold-roll-Form (List Place) (List Place) (List Place) places_of_form places_of_assignment places_of_expression (form.Struct members)
    ∙ flat_map-map (λ (places : List Place). places) places_in_assignment members

opened_places : (e : Expr) → places_in_expression e ≡ e.at.first ∷ places_in_opened (opened e)
opened_places e = whole_places e ∙ ap (λ (ps : List Place). e.at.first ∷ ps) (ap places_in_form (sym (roll-out-Form e.form)) ∙ rolled_places (opened e))

module _ (G : Place → Type 0) where
  open_expression : (e : Expr) → StandIn G e → G e.at.first × Each G (places_in_opened (opened e))
  open_expression e h = let h' : Each G (e.at.first ∷ places_in_opened (opened e)) = subst (Each G) (opened_places e) h in h'

  pub first_of : (e : Expr) → StandIn G e → G e.at.first
  first_of e h = (open_expression e h).0

  items_placed : (es : List Expr) → Each G (flat_map places_in_expression es) → Each (StandIn G) es
  items_placed [] h = tt
  items_placed (e ∷ es) h =
      (each_before G (places_in_expression e) (flat_map places_in_expression es) h, items_placed es (each_behind G (places_in_expression e) (flat_map places_in_expression es) h))

  open_assignment : (a : Assignment) → Each G (places_in_assignment a) → G a.name.at.first × StandIn G a.value
  open_assignment a h = let h' : Each G (a.name.at.first ∷ places_in_expression a.value) = subst (Each G) (assigned_places a) h in h'

  members_placed : (ms : List Assignment) → Each G (flat_map places_in_assignment ms) → Each (λ (a : Assignment). G a.name.at.first) ms × Each (StandIn G) (values_in ms)
  members_placed [] h = (tt, tt)
  members_placed (a ∷ ms) h =
      let here = open_assignment a (each_before G (places_in_assignment a) (flat_map places_in_assignment ms) h) in
      let behind = members_placed ms (each_behind G (places_in_assignment a) (flat_map places_in_assignment ms) h) in
      ((here.0, behind.0), (here.1, behind.1))

  parts_placed : (o : Opened) → Each G (places_in_opened o) → Each (StandIn G) (parts_of o)
  parts_placed (form.Number n) h = tt
  parts_placed form.Float h = tt
  parts_placed (form.Text t) h = tt
  parts_placed (form.Truth b) h = tt
  parts_placed (form.Use name) h = tt
  parts_placed (form.Minus a) h = (h, tt)
  parts_placed (form.Parentheses a) h = (h, tt)
  parts_placed (form.Binary operator a b) h =
      (each_before G (places_in_expression a) (places_in_expression b) h, (each_behind G (places_in_expression a) (places_in_expression b) h, tt))
  parts_placed (form.Array items) h = items_placed items h
  parts_placed (form.Struct members) h = (members_placed members h).1

  pub part_placed : (e part : Expr) (k : ℕ) → StandIn G e → slice_get (parts_of (opened e)) k ≡ Some part → StandIn G part
  part_placed e part k h at = of_item (StandIn G) (parts_of (opened e)) k part (parts_placed (opened e) (open_expression e h).1) at

  module _ (source : Source) (scope : Path) where
    here_placed : (place : Place) (o : Opened) (f : Refusal) → G place → Each (StandIn G) (parts_of o) → BrokenHere source scope place o f → G f.place
    here_placed place (form.Number n) f g h b = elim b [ ]
    here_placed place (form.Text t) f g h b = elim b [ ]
    here_placed place (form.Truth t) f g h b = elim b [ ]
    here_placed place (form.Use name) f g h b = elim b [ ]
    here_placed place (form.Parentheses a) f g h b = elim b [ ]
    here_placed place form.Float f g h float = g
    here_placed place (form.Minus a) f g h (negation_outside v n fits) = g
    here_placed place (form.Binary operator a b) f g h (result_outside v n w m d fits) = g
    here_placed place (form.Binary operator a b) f g h (zero_divisor w m) = g
    here_placed place (form.Minus a) f g h (minus_kind v n) = first_of a h.0
    here_placed place (form.Binary operator a b) f g h (left_kind v n) = first_of a h.0
    here_placed place (form.Binary operator a b) f g h (right_kind w m) = first_of b h.1.0
    here_placed place (form.Array items) f g h (list_too_large vs size) = g
    here_placed place (form.Struct members) f g h (struct_too_large vs size) = g

    pub broken_placed : (e : Expr) (f : Refusal) → StandIn G e → BrokenIn source scope e f → G f.place
    broken_placed e f h (itself b) = here_placed e.at.first (opened e) f (first_of e h) (parts_placed (opened e) (open_expression e h).1) b
    broken_placed e f h (within {part = part} k at b) = broken_placed part f (part_placed e part k h at) b

  pub repeats_placed : (e : Expr) (f : Refusal) → StandIn G e → RepeatsIn e f → G f.place
  repeats_placed e f h (repeated {members = members} is (k, x, at, b)) =
      let named = (members_placed members (subst (λ (o : Opened). Each G (places_in_opened o)) is (open_expression e h).1)).0 in
      subst (λ (g : Refusal). G g.place) (sym b.0) (of_item (λ (a : Assignment). G a.name.at.first) members k x named at)
  repeats_placed e f h (repeated_within {part = part} k at b) = repeats_placed part f (part_placed e part k h at) b
