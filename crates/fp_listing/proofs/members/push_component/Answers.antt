use Rattle.std.proofs.Common.{ap, ◌∙◌}
use Rattle.std.specs.Prelude.{codes, flat_map}
use Rattle.std.specs.List.{enumerate_from}
use Rattle.fp_listing.specs.Members.{queueing_word, member_port, command_line, param_line, event_line, channel_line, match_line, running_line}
use Rattle.fp_logtext.proofs.Pushed.{first, next, same, last_same}
use Rattle.fp_listing.proofs.members.push_component.Goals as goal

pub returns : goal.returns
returns c =
    let m = c.args.model.now in
    let x = c.args.component.now in
    let kind = first c.args.out.now (queueing_word x.queueing) c.in_ok-push_queueing_word.ensures in
    let word = next kind (codes " component ") c.in_ok-push_text.ensures in
    let name = same word x.name c.as_str.ensures c.in_ok-push_text-2.ensures in
    let line = next name (codes "\n") c.in_ok-push_text-3.ensures in
    let ports = same line (flat_map (member_port m) x.ports) (ap (flat_map (member_port m)) c.as_slice.ensures) c.in_ok-push_ports.ensures in
    let commands = same ports (flat_map (command_line m) x.commands) (ap (flat_map (command_line m)) c.as_slice-2.ensures) c.in_ok-push_commands.ensures in
    let numbered =
    ap (λ cs. flat_map (param_line m cs) (enumerate_from 0 c.as_slice-3.result.now)) c.as_slice-4.ensures
    ∙ ap (λ ps. flat_map (param_line m x.commands) (enumerate_from 0 ps)) c.as_slice-3.ensures in
    let params = same commands (flat_map (param_line m x.commands) (enumerate_from 0 x.params)) numbered c.in_ok-push_params.ensures in
    let events = same params (flat_map (event_line m) x.events) (ap (flat_map (event_line m)) c.as_slice-5.ensures) c.in_ok-push_events.ensures in
    let channels = same events (flat_map (channel_line m) x.channels) (ap (flat_map (channel_line m)) c.as_slice-6.ensures) c.in_ok-push_channels.ensures in
    let pairs = ap (λ ps. flat_map (match_line ps) c.as_slice-8.result.now) c.as_slice-7.ensures ∙ ap (flat_map (match_line x.ports)) c.as_slice-8.ensures in
    let matches = same channels (flat_map (match_line x.ports) x.matches) pairs c.in_ok-push_matches.ensures in
    last_same matches (flat_map (running_line m) x.machines) (ap (flat_map (running_line m)) c.as_slice-9.ensures) c.push_machines.new.out c.push_machines.result c.push_machines.ensures
