use Rattle.std.proofs.Common.{◌≡◌, Option, None, Some, subst, sym, arith}
use Rattle.std.specs.Prelude.{MatchOption}
use Rattle.std.specs.Str.{IsUtf8}
use Rattle.std.proofs.lemmas.Grind.{common_steps}
use Rattle.fp_base.specs.Rendered.{quoted}
use Rattle.fp_formats.proofs.Escapes.{quoted_utf8}
use Rattle.fp_formats.proofs.value_text.write_quoted.Goals as goal

refused : {T : Type 0} (o : Option T) (P : Type 0) (Q : T → Type 0) → MatchOption o (P → ⊥) Q → o ≡ None → P → ⊥
refused None P Q m e p = m p
refused (Some x) P Q m e p = absurd (cc)

pub unreachable-requires : goal.unreachable-requires
unreachable-requires c =
    let e : c.as_slice.result.now ≡ quoted c.args.text.now = grind (arith, common_steps, c.in_ok-bytes.ensures, c.as_bytes-2.ensures.value, c.in_ok-push_quoted.ensures, c.as_slice.ensures) in
    let u : IsUtf8 c.args.text.now = subst IsUtf8 c.as_bytes.ensures.value c.as_bytes.ensures.utf8 in
    refused c.in_ok-quoted.field-0 (IsUtf8 c.as_slice.result.now) _ c.in_ok-quoted.ensures c.in-None.is (subst IsUtf8 (sym e) (quoted_utf8 c.args.text.now u))
