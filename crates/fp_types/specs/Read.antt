-- What a target of the program stands for.
use Rattle.std.specs.Prelude.{List, Option, Some, None, slice_get}
use Rattle.fp_tables.specs.declared.kind.Kind.{Kind}
use Rattle.fp_tables.specs.declared.kind.Kind.TheVariants as kind
use Rattle.fp_tables.specs.declared.kind.Form.{Form}
use Rattle.fp_tables.specs.declared.kind.Form.TheVariants as form
use Rattle.fp_types.specs.Converting.{Target, integer, truth, words, array, struct, constants, opaque, of_kind, form_target, plain_target}
use Rattle.fp_type_sizes.specs.declared.written.WrittenType.{WrittenType}
use Rattle.fp_types.specs.declared.target.Rest.{Rest}
use Rattle.fp_types.specs.declared.target.Rest.TheVariants.{OfStruct}
use Rattle.fp_types.specs.declared.target.Target.{Target as Read}
use Rattle.fp_types.specs.declared.target.Target.TheVariants as read

abbrev pub meant : Read → Target
meant (read.Integer low high) = integer low high
meant read.Truth = truth
meant read.Words = words
meant (read.Array size k) = array size k
meant (read.Struct rest fields) = struct rest fields.now
meant (read.Constants cs) = constants cs.now
meant read.Opaque = opaque
meant (read.OfKind k) = of_kind k

-- what a form is that is no alias
abbrev pub form_if : Rest → Form → Option Target
form_if rest (form.Alias k) = None
form_if rest f = Some (form_target rest f)

abbrev pub written_if : Rest → Option Form → Option Target
written_if rest None = None
written_if rest (Some f) = form_if rest f

abbrev pub form_of_written : Option WrittenType → Option Form
form_of_written None = None
form_of_written (Some w) = w.form

-- what stands behind aliases
abbrev pub end_target : List WrittenType → Kind → Option Target
end_target ws (kind.Named i) = written_if (OfStruct i) (form_of_written (slice_get ws i))
end_target ws k = Some (plain_target k)
