use Rattle.std.proofs.Common.{◌++◌, ◌∙◌, ap, codes, List}
use Rattle.fp_tables.specs.declared.component.Limit.{Limit}
use Rattle.serde_json.specs.Data.{object, string}
use Rattle.serde_json.specs.Written.{has_float}
use Rattle.fp_dictionary.specs.Objects.{annotation, held, optional, with_entries}
use Rattle.fp_dictionary.specs.Members.{limit_entries}
use Rattle.fp_dictionary.proofs.Entries.{three_lists}
use Rattle.fp_dictionary.proofs.Floats.{channel_no_float}
use Rattle.fp_dictionary.proofs.channels.channel_value.Goals as goal

pub returns-clause-said : goal.returns-clause-said
returns-clause-said c =
    let t = c.args.channel.now in
    let written = optional (codes "format") string t.format in
    let format = held c.put_format.new.object in
    let limits = c.in_ok-put_limits.ensures ∙ ap (λ (ls : List Limit). with_entries (limit_entries ls) format) c.as_slice.ensures in
    let tail =
    three_lists written (limit_entries t.limits) (annotation t.note) (held c.in_ok-object.object) format (held c.put_limits.new.object) (held c.put_annotation.new.self) c.in_ok-put_format.ensures limits
    c.in_ok-put_annotation.ensures
    in
    c.into_value.ensures ∙ ap object (tail ∙ ap (with_entries (written ++ limit_entries t.limits ++ annotation t.note)) c.in_ok-object.ensures)

pub returns-clause-no_float : goal.returns-clause-no_float
returns-clause-no_float c = ap has_float (returns-clause-said c) ∙ channel_no_float c.args.types.now c.args.instance.now c.args.channel.now
