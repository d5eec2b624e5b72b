-- All places in a list are those in its parts.
use Rattle.std.proofs.Common.{◌≡◌, List, [], ◌∷◌, ◌++◌, flat_map, sym, subst}
use Rattle.std.specs.List.{AllByRecursion as Each}
use Rattle.fp_base.specs.declared.place.Place.{Place}
use Rattle.fp_base.specs.declared.refusal.Refusal.{Refusal}
use Rattle.fp_base.proofs.Lists.{each_before, each_behind}
use Rattle.fp_tree.specs.declared.component.Part.{Part}
use Rattle.fp_tree.specs.declared.component.Part.TheVariants as part
use Rattle.fp_tree.specs.declared.component.General.{General}
use Rattle.fp_tree.specs.declared.component.Internal.{Internal}
use Rattle.fp_tree.specs.declared.dictionary.Channel.{Channel}
use Rattle.fp_tree.specs.declared.dictionary.Command.{Command}
use Rattle.fp_tree.specs.declared.dictionary.Event.{Event}
use Rattle.fp_tree.specs.declared.dictionary.ParamDef.{ParamDef}
use Rattle.fp_meaning.specs.Sites.{in_optional}
use Rattle.fp_places.specs.Places.{places_in_format, places_in_formals, places_in_general, places_in_limits, places_in_part, places_in_type, places_in_value, places_of_word}

module _ (G : Place → Type 0) where
  pub same_place : (f g : Refusal) → f ≡ g → G g.place → G f.place
  same_place f g e h = subst (λ (x : Refusal). G x.place) (sym e) h

  -- all places in a list of parts, part by part
  pub split : {A : Type 0} (found : A → List Place) (xs : List A) → Each G (flat_map found xs) → Each (λ x. Each G (found x)) xs
  split found [] h = tt
  split found (x ∷ xs) h = (each_before G (found x) (flat_map found xs) h, split found xs (each_behind G (found x) (flat_map found xs) h))

  -- of lists that are joined
  two : (a b : List Place) → Each G (a ++ b) → Each G a × Each G b
  two a b h = (each_before G a b h, each_behind G a b h)

  three : (a b c : List Place) → Each G (a ++ b ++ c) → Each G a × (Each G b × Each G c)
  three a b c h = let front = two a b (each_before G (a ++ b) c h) in (front.0, (front.1, each_behind G (a ++ b) c h))

  four : (a b c d : List Place) → Each G (a ++ b ++ c ++ d) → Each G a × (Each G b × (Each G c × Each G d))
  four a b c d h =
      let front = three a b c (each_before G (a ++ b ++ c) d h) in
      (front.0, (front.1.0, (front.1.1, each_behind G (a ++ b ++ c) d h)))

  five : (a b c d e : List Place) → Each G (a ++ b ++ c ++ d ++ e) → Each G a × (Each G b × (Each G c × (Each G d × Each G e)))
  five a b c d e h =
      let front = four a b c d (each_before G (a ++ b ++ c ++ d) e h) in
      (front.0, (front.1.0, (front.1.1.0, (front.1.1.1, each_behind G (a ++ b ++ c ++ d) e h))))

  -- ---- the parts of a component, each with its fields

  abbrev pub PartStands : Part → Type 0
  PartStands p = Each G (places_in_part p)

  pub general_places : (p : General) → Each G (places_in_general p) → Each G (places_in_value p.size) × (Each G (places_in_value p.priority) × Each G (places_of_word p.queue_word))
  general_places p h = three (places_in_value p.size) (places_in_value p.priority) (places_of_word p.queue_word) h.1.1

  pub internal_places : (p : Internal) → PartStands (part.Internal p) → Each G (places_in_formals p.formals) × (Each G (places_in_value p.priority) × Each G (places_of_word p.queue_word))
  internal_places p h = three (places_in_formals p.formals) (places_in_value p.priority) (places_of_word p.queue_word) h.1.1

  pub command_places : (c : Command) → PartStands (part.Command c)
      → Each G (places_in_formals c.formals) × (Each G (places_in_value c.opcode) × (Each G (places_in_value c.priority) × Each G (places_of_word c.queue_word)))
  command_places c h = four (places_in_formals c.formals) (places_in_value c.opcode) (places_in_value c.priority) (places_of_word c.queue_word) h.1.1

  pub event_places : (e : Event) → PartStands (part.Event e) → Each G (places_in_formals e.formals) × (Each G (places_in_value e.id) × Each G (places_in_value e.throttle))
  event_places e h = three (places_in_formals e.formals) (places_in_value e.id) (places_in_value e.throttle) h.1.1

  pub channel_places : (t : Channel) → PartStands (part.Channel t)
      → Each G (places_in_type t.of) × (Each G (places_in_value t.id)
      × (Each G (in_optional places_in_format t.format) × (Each G (in_optional places_in_limits t.low) × Each G (in_optional places_in_limits t.high))))
  channel_places t h =
      five (places_in_type t.of) (places_in_value t.id) (in_optional places_in_format t.format) (in_optional places_in_limits t.low) (in_optional places_in_limits t.high) h.1

  pub param_places : (p : ParamDef) → PartStands (part.Param p)
      → Each G (places_in_type p.of) × (Each G (places_in_value p.default) × (Each G (places_in_value p.id) × (Each G (places_in_value p.set) × Each G (places_in_value p.save))))
  param_places p h = five (places_in_type p.of) (places_in_value p.default) (places_in_value p.id) (places_in_value p.set) (places_in_value p.save) h.1
