-- Each token list spells an instance, or breaks the grammar; and so it is with topologies.
use Rattle.std.proofs.Common.{ℕ, refl}
use Rattle.fp_grammar.specs.Decided.{RefsDecided}
use Rattle.fp_parse_pieces.specs.Kinds.{kind}
use Rattle.fp_parse_defs.proofs.ExpressionsDecided.{expr_decided}
use Rattle.fp_parse_topologies.specs.Instances.{phase, phases, settings, component_instance}
use Rattle.fp_parse_topologies.specs.Connections.{port_use, connection, connection_list, connections, targets, pattern_connections}
use Rattle.fp_parse_topologies.specs.Topologies.{member, members, topology}

targets_decided : RefsDecided kind targets
targets_decided = (refl, (refl, tt, (refl, (refl, tt, (refl, tt, tt)), tt)), ((refl, tt, tt), (refl, tt, (refl, (refl, tt, (refl, tt, tt)), tt))))

pattern_decided : RefsDecided kind pattern_connections
pattern_decided = (refl, (tt, (tt, (refl, tt, tt))), (refl, tt, (refl, tt, (refl, (refl, tt, (refl, tt, tt)), (refl, tt, (refl, targets_decided, tt))))))

module _ (depth : ℕ) where
  phase_decided : RefsDecided kind (phase depth)
  phase_decided = (refl, tt, (refl, expr_decided depth, tt))

  phases_decided : RefsDecided kind (phases depth)
  phases_decided = (refl, (refl, tt, (refl, phase_decided, tt)), ((refl, tt, tt), (refl, tt, (refl, phase_decided, tt))))

  settings_decided : RefsDecided kind (settings depth)
  settings_decided =
      let e = expr_decided depth in (
        refl,
        (refl, (refl, tt, tt), (refl, tt, tt)),
        (
          refl,
          (refl, (refl, tt, (refl, tt, e)), (refl, tt, (refl, tt, e))),
          (refl, (refl, (refl, tt, e), (refl, tt, e)), (refl, tt, (refl, phases_decided, tt))),
        ),
      )

  pub instance_decided : RefsDecided kind (component_instance depth)
  instance_decided =
      (refl, tt, (refl, tt, (refl, tt, (refl, (refl, tt, (refl, tt, tt)), (refl, tt, (refl, tt, (refl, expr_decided depth, settings_decided)))))))

  port_decided : RefsDecided kind (port_use depth)
  port_decided = (refl, (refl, tt, (refl, tt, tt)), (refl, tt, (refl, expr_decided depth, tt)))

  connection_decided : RefsDecided kind (connection depth)
  connection_decided = (refl, tt, (refl, port_decided, (refl, tt, port_decided)))

  list_decided : RefsDecided kind (connection_list depth)
  list_decided = (refl, (refl, tt, (refl, connection_decided, tt)), ((refl, tt, tt), (refl, tt, (refl, connection_decided, tt))))

  connections_decided : RefsDecided kind (connections depth)
  connections_decided = (refl, tt, (refl, tt, (refl, tt, (refl, list_decided, tt))))

  member_decided : RefsDecided kind (member depth)
  member_decided =
      ((refl, tt, (refl, tt, (refl, tt, (refl, tt, tt)))), ((refl, tt, (refl, tt, (refl, tt, tt))), ((refl, tt, tt), (connections_decided, pattern_decided))))

  pub members_decided : RefsDecided kind (members depth)
  members_decided = (refl, (refl, tt, (refl, member_decided, tt)), ((refl, tt, tt), (refl, tt, (refl, member_decided, tt))))

  pub topology_decided : RefsDecided kind (topology depth)
  topology_decided = (refl, tt, (refl, tt, (refl, tt, (refl, members_decided, tt))))
