use Rattle.std.proofs.Common.{List, flat_map, map, refl, sym, subst}
use denote.Ref.{Bor}
use Rattle.fp_written_parts.specs.declared.member.WrittenMember.{WrittenMember}
use Rattle.fp_written_parts.specs.declared.port.WrittenPort.{WrittenPort}
use Rattle.fp_components.specs.Listing.{AreListed, AreWholeMatches}
use Rattle.fp_components.specs.Resolved.{AreEach, IsMatch, match_in}
use Rattle.fp_components.specs.Whole.{AreWholeMembers}
use Rattle.fp_components.proofs.components.component_from.Goals as goal

abbrev behind : Bor WrittenPort → WrittenPort
behind port = port.now

pub returns : goal.returns
returns c interfaces given whole =
    let ws = c.args.types.now.written.now in
    let all = map behind c.args.ports.now in
    let same = c.as_slice-members.ensures in
    let parts = subst (λ (ms : List WrittenMember). AreListed ws ms ms c.in_ok-parts.parts) same (c.in_ok-parts.ensures (subst (AreWholeMembers ws) (sym same) whole.members)) in
    let matches = subst (λ (ms : List WrittenMember). AreEach (λ k. IsMatch all) (flat_map match_in ms) c.in_ok-matches.matches) same
    (c.in_ok-matches.ensures (subst (AreWholeMatches all) (sym same) (λ k m e. whole.matches all k m given e))) in
    record {
      name = c.in_ok-name.ensures;
      queueing = refl;
      all = all;
      given = given;
      ports = c.in_ok-ports.ensures (λ k p e. whole.ports all k p given e);
      commands = parts.commands;
      events = parts.events;
      channels = parts.channels;
      params = parts.params;
      matches = matches;
      machines = parts.machines;
    }
