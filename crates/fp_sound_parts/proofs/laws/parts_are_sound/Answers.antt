use Rattle.fp_sound_parts.proofs.Ready.{parts_sound}
use Rattle.fp_sound_parts.proofs.laws.parts_are_sound.Goals as goal

pub returns : goal.returns
returns c source values resolutions ws types machines parts valued once definitions named unbroken running built of short =
    parts_sound
    (record {
      resolved_sound = c.resolved_components_are_sound.ensures;
      numbers_stand = c.unbroken_part_numbers_stand.ensures;
      limits_convert = c.unbroken_limits_convert.ensures.converts;
      formats_read = c.unbroken_formats_read.ensures;
      types_sound = c.unbroken_types_are_sound.ensures;
      has_kind = c.converted_has_kind.ensures;
      is_of_size = c.converted_is_of_size.ensures;
      has_form = c.default_has_form.ensures.form;
      one_default = c.one_default.ensures;
    })
    source values resolutions ws types machines parts valued once definitions named unbroken running built of short
