use Rattle.std.proofs.Common.{◌∙◌}
use Rattle.fp_actor.proofs.handlers.Handlers.find.Goals as goal

pub returns-in-Port : goal.returns-in-Port
returns-in-Port c = rw (c.in-Port.is, ← c.self.view_is) (c.copied.ensures ∙ (c.get.ensures.value ∙ c.self.invariant.0 (c.args.instance, c.in-Port.port)))

pub returns-in-Command : goal.returns-in-Command
returns-in-Command c =
    rw (c.in-Command.is, ← c.self.view_is) (c.copied-in-Command.ensures ∙ (c.get-in-Command.ensures.value ∙ c.self.invariant.1 (c.args.instance, c.in-Command.command)))

pub returns-in-Action : goal.returns-in-Action
returns-in-Action c =
    rw (c.in-Action.is, ← c.self.view_is)
    (c.copied-in-Action.ensures ∙ (c.get-in-Action.ensures.value ∙ c.self.invariant.2 (c.args.instance, c.in-Action.running, c.in-Action.action)))

pub returns-in-HookPort : goal.returns-in-HookPort
returns-in-HookPort c =
    rw (c.in-HookPort.is, ← c.self.view_is) (c.copied-in-HookPort.ensures ∙ (c.get-in-HookPort.ensures.value ∙ c.self.invariant.3 (c.args.instance, c.in-HookPort.port)))

pub returns-in-HookCommand : goal.returns-in-HookCommand
returns-in-HookCommand c =
    rw (c.in-HookCommand.is, ← c.self.view_is) (c.copied-in-HookCommand.ensures ∙ (c.get-in-HookCommand.ensures.value ∙ c.self.invariant.4 (c.args.instance, c.in-HookCommand.command)))

pub returns-in-HookSignal : goal.returns-in-HookSignal
returns-in-HookSignal c =
    rw (c.in-HookSignal.is, ← c.self.view_is) (c.copied-in-HookSignal.ensures ∙ (c.get-in-HookSignal.ensures.value ∙ c.self.invariant.5 (c.args.instance, c.in-HookSignal.running)))
