-- Which types of a run threads may share or hand over. Each has a lemma of its own, since a search that goes down through all of them runs out of steps.
use denote.Ref.{NamedLft}
use denote.Param.Send.{IsSend, IsSync, sendable}
use Rattle.std.proofs.MapsCrossing as maps
use Rattle.std.proofs.Crossing as heap
use Rattle.fp_base.proofs.value.Value.TheLaws.TheKnot as knot
use Rattle.fp_base.proofs.row.Row.TheSendSync as row
use Rattle.fp_base.proofs.text.Text.TheSendSync as text
use Rattle.fp_base.specs.contracts.value.Value as Value
use Rattle.fp_tables.specs.contracts.component.Limit as Limit
use Rattle.fp_tables.specs.contracts.component.Channel as Channel
use Rattle.fp_tables.specs.contracts.component.Param as Param
use Rattle.fp_tables.specs.contracts.component.Component as Component
use Rattle.fp_tables.specs.contracts.kind.Constant as Constant
use Rattle.fp_tables.specs.contracts.kind.Form as Form
use Rattle.fp_tables.specs.contracts.kind.TypeDef as TypeDef
use Rattle.fp_tables.specs.contracts.model.Model as Model
use Rattle.fp_tables.specs.contracts.tables.Tables as Tables
use Rattle.fp_tables.specs.contracts.program.Arg as Arg
use Rattle.fp_tables.specs.contracts.program.Act as Act
use Rattle.fp_tables.specs.contracts.program.Caller as Caller
use Rattle.fp_tables.specs.contracts.program.Handler as Handler
use Rattle.fp_tables.specs.contracts.program.Program as Program
use Rattle.fp_tables.proofs.component.Port.TheSendSync as port
use Rattle.fp_tables.proofs.component.Command.TheSendSync as command
use Rattle.fp_tables.proofs.component.Event.TheSendSync as event
use Rattle.fp_tables.proofs.component.Running.TheSendSync as running
use Rattle.fp_tables.proofs.kind.PortDef.TheSendSync as port_def
use Rattle.fp_tables.proofs.kind.Field.TheSendSync as field
use Rattle.fp_tables.proofs.kind.Kind.TheSendSync as kind
use Rattle.fp_tables.proofs.model.Item.TheSendSync as item
use Rattle.fp_tables.proofs.machine.Machine.TheSendSync as machine
use Rattle.fp_tables.proofs.topology.Instance.TheSendSync as instance
use Rattle.fp_tables.proofs.topology.Topology.TheSendSync as topology
use Rattle.fp_tables.proofs.topology.End.TheSendSync as end
use Rattle.fp_tables.proofs.program.Answers.TheSendSync as answers
use Rattle.fp_events.proofs.event.Point.TheSendSync as point
use Rattle.fp_events.proofs.event.Origin.TheSendSync as origin
use Rattle.fp_events.proofs.event.Fate.TheSendSync as fate
use Rattle.fp_events.specs.contracts.event.Arrival as Arrival
use Rattle.fp_events.specs.contracts.event.What as What
use Rattle.fp_events.specs.contracts.event.Entry as Entry
use Rattle.fp_actor.specs.contracts.actor.Actor as Actor
use Rattle.fp_actor.specs.contracts.handlers.Handlers as Handlers
use Rattle.fp_actor.proofs.level.Level.TheSendSync as level
use Rattle.fp_actor.proofs.level.Binding.TheSendSync as binding
use Rattle.fp_cell.specs.contracts.cell.Cell as Cell
use Rattle.fp_plant.specs.contracts.held.Held as Held
use Rattle.fp_plant.specs.contracts.hand.Hand as Hand
use Rattle.fp_plant.specs.contracts.plant.Plant as Plant
use Rattle.fp_rounds.specs.contracts.worker.Worker as Worker
use Rattle.fp_gate.proofs.lock.Pass.TheSendSync as pass
use Rattle.fp_gate.proofs.lock.TicketLock.TheSendSync as lock

-- a value is a tree of values
pub value_send : IsSend Value.the_field.row
value_send = knot.send-Value (search sendable) (search sendable) text.the_send row.the_send

pub value_sync : IsSync Value.the_field.row
value_sync = knot.sync-Value (search sendable) (search sendable) text.the_sync row.the_sync

-- the model and the program are shared
pub limit_sync : IsSync Limit.the_field.row
limit_sync = search (value_sync, sendable) depth 60 fits 20000

pub channel_sync : IsSync Channel.the_field.row
channel_sync = search (limit_sync, kind.the_field_sync, row.the_sync, text.the_sync, sendable) depth 60 fits 20000

pub parameter_sync : IsSync Param.the_field.row
parameter_sync = search (value_sync, kind.the_field_sync, text.the_sync, sendable) depth 60 fits 20000

pub component_sync : IsSync Component.the_field.row
component_sync = search (channel_sync, parameter_sync, port.the_field_sync, command.the_field_sync, event.the_field_sync, running.the_field_sync, row.the_sync, text.the_sync, sendable) depth 60 fits 20000

pub constant_sync : IsSync Constant.the_field.row
constant_sync = search (value_sync, text.the_sync, sendable) depth 60 fits 20000

pub form_sync : IsSync Form.the_field.row
form_sync = search (constant_sync, field.the_field_sync, kind.the_field_sync, row.the_sync, text.the_sync, sendable) depth 60 fits 20000

pub type_sync : IsSync TypeDef.the_field.row
type_sync = search (form_sync, value_sync, text.the_sync, sendable) depth 60 fits 20000

pub model_sync : IsSync Model.the_field.row
model_sync = search (constant_sync, type_sync, port_def.the_field_sync, component_sync, machine.the_field_sync, instance.the_field_sync, topology.the_field_sync, item.the_field_sync, row.the_sync, sendable) depth 60 fits 20000

pub tables_sync : IsSync Tables.the_row
tables_sync = search (model_sync, end.the_sync, maps.crosses, heap.crosses, sendable) depth 60 fits 20000

pub argument_sync : IsSync Arg.the_field.row
argument_sync = search (value_sync, text.the_sync, sendable) depth 60 fits 20000

pub act_sync : IsSync Act.the_field.row
act_sync = search (argument_sync, end.the_field_sync, row.the_sync, text.the_sync, sendable) depth 60 fits 20000

pub caller_sync : IsSync Caller.the_field.row
caller_sync = search (act_sync, row.the_sync, text.the_sync, sendable) depth 60 fits 20000

pub handler_sync : IsSync Handler.the_field.row
handler_sync = search (act_sync, row.the_sync, sendable) depth 60 fits 20000

pub program_sync : IsSync Program.the_field.row
program_sync = search (caller_sync, handler_sync, answers.the_field_sync, row.the_sync, sendable) depth 60 fits 20000

-- entries are handed over
pub arrival_send : IsSend Arrival.the_field.row
arrival_send = search (value_send, point.the_field_send, origin.the_field_send, row.the_send, sendable) depth 60 fits 20000

pub what_send : IsSend What.the_field.row
what_send = search (arrival_send, value_send, point.the_field_send, fate.the_field_send, row.the_send, text.the_send, sendable) depth 60 fits 20000

pub entry_send : IsSend Entry.the_field.row
entry_send = search (what_send, sendable) depth 60 fits 20000

pub handlers_send : (κ : NamedLft) → IsSend (Handlers.the_row κ)
handlers_send κ = search (handler_sync, maps.crosses, heap.crosses, sendable) depth 60 fits 20000

pub actor_send : (κ : NamedLft) → IsSend (Actor.the_row κ)
actor_send κ = search (tables_sync, program_sync, handlers_send, level.the_send, binding.the_send, entry_send, heap.crosses, sendable) depth 60 fits 20000

pub cell_send : (κ : NamedLft) → IsSend (Cell.the_row κ)
cell_send κ = search (tables_sync, program_sync, entry_send, value_send, row.the_send, maps.crosses, heap.crosses, sendable) depth 60 fits 20000

pub held_send : (κ : NamedLft) → IsSend (Held.the_row κ)
held_send κ = search (cell_send, heap.crosses, sendable) depth 60 fits 20000

pub hand_send : (κ : NamedLft) → IsSend (Hand.the_row κ)
hand_send κ = search (actor_send, held_send, pass.the_send, heap.crosses, sendable) depth 60 fits 20000

pub worker_send : (κ : NamedLft) → IsSend (Worker.the_row κ)
worker_send κ = search (hand_send, sendable) depth 60 fits 20000

pub plant_sync : (κ : NamedLft) → IsSync (Plant.the_row κ)
plant_sync κ = search (tables_sync, program_sync, held_send, lock.the_sync, heap.crosses, sendable) depth 60 fits 20000
