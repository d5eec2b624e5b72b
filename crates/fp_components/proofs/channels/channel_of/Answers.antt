use Rattle.std.proofs.Common.{List, refl, sym, subst}
use Rattle.fp_written_parts.specs.declared.dictionary.WrittenLimit.{WrittenLimit}
use Rattle.fp_components.specs.Resolved.{AreEach, IsLimit}
use Rattle.fp_components.specs.Whole.{AreWholeLimits}
use Rattle.fp_components.proofs.channels.channel_of.Goals as goal

pub returns : goal.returns
returns c listed k is whole = record {
  name = c.in_ok-name.ensures;
  id = is;
  kind = refl;
  on_change = c.is_on_change.ensures;
  format = c.in_ok-format.ensures;
  limits = subst (λ (ls : List WrittenLimit). AreEach (λ at. IsLimit) ls c.in_ok-limits.limits) c.as_slice.ensures (c.in_ok-limits.ensures (subst AreWholeLimits (sym c.as_slice.ensures) whole));
  note = c.in_ok-note.ensures;
}
