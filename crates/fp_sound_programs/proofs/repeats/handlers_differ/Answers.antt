use Rattle.std.proofs.Common.{refl}
use Rattle.std.proofs.lemmas.Result.{IfOk-weaker}
use Rattle.fp_sound_programs.proofs.Repeating.{places_apart}
use Rattle.fp_sound_programs.proofs.repeats.handlers_differ.Goals as goal

pub returns : goal.returns
returns c =
    IfOk-weaker c.all_differ.result _ _
    (λ b p. places_apart b _ c.args.handlers.now p c.in_ok-places.ensures (record {
      port_port = λ m n r q. refl;
      port_command = λ m n r q. refl;
      port_action = λ m n r q v. refl;
      port_hook_port = λ m n r q. refl;
      port_hook_command = λ m n r q. refl;
      port_hook_signal = λ m n r q. refl;
      command_port = λ m n r q. refl;
      command_command = λ m n r q. refl;
      command_action = λ m n r q v. refl;
      command_hook_port = λ m n r q. refl;
      command_hook_command = λ m n r q. refl;
      command_hook_signal = λ m n r q. refl;
      action_port = λ m n r u q. refl;
      action_command = λ m n r u q. refl;
      action_action = λ m n r u q v. refl;
      action_hook_port = λ m n r u q. refl;
      action_hook_command = λ m n r u q. refl;
      action_hook_signal = λ m n r u q. refl;
      hook_port_port = λ m n r q. refl;
      hook_port_command = λ m n r q. refl;
      hook_port_action = λ m n r q v. refl;
      hook_port_hook_port = λ m n r q. refl;
      hook_port_hook_command = λ m n r q. refl;
      hook_port_hook_signal = λ m n r q. refl;
      hook_command_port = λ m n r q. refl;
      hook_command_command = λ m n r q. refl;
      hook_command_action = λ m n r q v. refl;
      hook_command_hook_port = λ m n r q. refl;
      hook_command_hook_command = λ m n r q. refl;
      hook_command_hook_signal = λ m n r q. refl;
      hook_signal_port = λ m n r q. refl;
      hook_signal_command = λ m n r q. refl;
      hook_signal_action = λ m n r q v. refl;
      hook_signal_hook_port = λ m n r q. refl;
      hook_signal_hook_command = λ m n r q. refl;
      hook_signal_hook_signal = λ m n r q. refl;
    }))
    c.all_differ.ensures
