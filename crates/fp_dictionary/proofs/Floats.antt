-- What is said of members has no float.
use Rattle.std.proofs.Common.{◌≡◌, ℕ, Bool, true, false, List, [], ◌∷◌, ◌++◌, Option, Some, None, map, codes, cond, refl}
use Rattle.std.specs.List.{AllByRecursion as Each}
use Rattle.fp_base.proofs.Lists.{each_append, each_mapped, each_of_any}
use Rattle.fp_tables.specs.declared.component.Channel.{Channel}
use Rattle.fp_tables.specs.declared.component.Command.{Command}
use Rattle.fp_tables.specs.declared.component.Event.{Event}
use Rattle.fp_tables.specs.declared.component.Limit.{Limit}
use Rattle.fp_tables.specs.declared.component.Param.{Param}
use Rattle.fp_tables.specs.declared.component.CommandPart.{CommandPart}
use Rattle.fp_tables.specs.declared.component.CommandPart.TheVariants as part
use Rattle.fp_tables.specs.declared.component.Way.{Way}
use Rattle.fp_tables.specs.declared.component.Way.TheVariants as way
use Rattle.fp_tables.specs.declared.kind.Formal.{Formal}
use Rattle.fp_tables.specs.declared.kind.TypeDef.{TypeDef}
use Rattle.fp_tables.specs.declared.topology.Instance.{Instance}
use Rattle.serde_json.specs.Data.{string}
use Rattle.serde_json.specs.Written.{has_float}
use Rattle.fp_dictionary.specs.Objects.{annotation, natural, optional}
use Rattle.fp_dictionary.specs.Values.{value_data}
use Rattle.fp_dictionary.proofs.DescriptorFloats.{NoFloat, NoFloatAt, annotation_no_float, descriptor_no_float, list_no_float, number_no_float, object_no_float, value_no_float}
use Rattle.fp_dictionary.specs.Members.{channel_data, channel_entries, color_entry, command_data, command_entries, default_entries, event_data, event_entries, formal_data, formal_entries, formals_data, limit_entries, parameter_data, parameter_entries, queue_entries, queue_of, side, side_data, side_entries}

queued : (w : Way) → Each NoFloatAt (queue_entries w)
queued (way.Later priority f) = (number_no_float priority, (refl, tt))
queued way.Sync = tt
queued way.Guarded = tt

queue : (c : Command) (p : CommandPart) → Each NoFloatAt (queue_of c p)
queue c part.Plain = queued c.way
queue c (part.SetParam k) = tt
queue c (part.SaveParam k) = tt

number_there : (key : List ℕ) (o : Option ℕ) → Each NoFloatAt (optional key natural o)
number_there key None = tt
number_there key (Some n) = (refl, tt)

text_there : (key : List ℕ) (o : Option (List ℕ)) → Each NoFloatAt (optional key string o)
text_there key None = tt
text_there key (Some s) = (refl, tt)

default_there : (p : Param) (written : Bool) → Each NoFloatAt (cond written ((codes "default", value_data p.default) ∷ []) [])
default_there p true = (value_no_float p.default, tt)
default_there p false = tt

side_no_float : (limits : List Limit) → has_float (side_data limits) ≡ false
side_no_float limits = object_no_float (map color_entry limits) (each_mapped NoFloatAt color_entry limits (each_of_any _ (λ (l : Limit). value_no_float l.value) limits))

side_there : (key : List ℕ) (limits : List Limit) → Each NoFloatAt (side_entries key limits)
side_there key [] = tt
side_there key (l ∷ ls) = (side_no_float (l ∷ ls), tt)

limits_there : (limits : List Limit) → Each NoFloatAt (limit_entries limits)
limits_there [] = tt
limits_there (l ∷ ls) =
    let low = side_entries (codes "low") (side false (l ∷ ls)) in
    let high = side_entries (codes "high") (side true (l ∷ ls)) in
    (object_no_float (low ++ high) (each_append NoFloatAt low high (side_there (codes "low") (side false (l ∷ ls))) (side_there (codes "high") (side true (l ∷ ls)))), tt)

module _ (types : List TypeDef) where
  formal_no_float : (f : Formal) → has_float (formal_data types f) ≡ false
  formal_no_float f = object_no_float (formal_entries types f) (refl, (descriptor_no_float types f.kind, (refl, annotation_no_float f.note)))

  formals_no_float : (fs : List Formal) → has_float (formals_data types fs) ≡ false
  formals_no_float fs = list_no_float (map (formal_data types) fs) (each_mapped NoFloat (formal_data types) fs (each_of_any _ formal_no_float fs))

  pub command_no_float : (i : Instance) (c : Command) → has_float (command_data types i c) ≡ false
  command_no_float i c =
      let tail = each_append NoFloatAt (queue_of c c.part) (annotation c.note) (queue c c.part) (annotation_no_float c.note) in
      object_no_float (command_entries types i c) (refl, (refl, (refl, (formals_no_float c.formals, tail))))

  pub parameter_no_float : (i : Instance) (p : Param) → has_float (parameter_data types i p) ≡ false
  parameter_no_float i p =
      let tail = each_append NoFloatAt (default_entries p) (annotation p.note) (default_there p p.written) (annotation_no_float p.note) in
      object_no_float (parameter_entries types i p) (refl, (descriptor_no_float types p.kind, (refl, tail)))

  pub event_no_float : (i : Instance) (e : Event) → has_float (event_data types i e) ≡ false
  event_no_float i e =
      let throttle = optional (codes "throttle") natural e.throttle in
      let tail = each_append NoFloatAt throttle (annotation e.note) (number_there (codes "throttle") e.throttle) (annotation_no_float e.note) in
      object_no_float (event_entries types i e) (refl, (refl, (formals_no_float e.formals, (refl, (refl, tail)))))

  pub channel_no_float : (i : Instance) (t : Channel) → has_float (channel_data types i t) ≡ false
  channel_no_float i t =
      let format = optional (codes "format") string t.format in
      let middle = each_append NoFloatAt format (limit_entries t.limits) (text_there (codes "format") t.format) (limits_there t.limits) in
      let tail = each_append NoFloatAt (format ++ limit_entries t.limits) (annotation t.note) middle (annotation_no_float t.note) in
      object_no_float (channel_entries types i t) (refl, (descriptor_no_float types t.kind, (refl, (refl, tail))))
