-- The grammars of instances and of topologies pass the test for the tokens of lookahead, at each depth.
use Rattle.std.proofs.Common.{ℕ, refl}
use Rattle.fp_grammar.specs.Throughout.{FitsThroughout}
use Rattle.fp_parse_pieces.specs.Kinds.{kind}
use Rattle.fp_parse_pieces.proofs.WordsFit.{each_kind}
use Rattle.fp_parse_defs.proofs.DefinitionsFit.{expression_good}
use Rattle.fp_parse_topologies.specs.Instances.{component_instance}
use Rattle.fp_parse_topologies.specs.Topologies.{members, topology}

pub instance_fits : (depth : ℕ) → FitsThroughout kind (component_instance depth)
instance_fits depth = let e = expression_good depth in record { predictive = refl; each = refl; refs = assumption (each_kind, e) }

pub members_fit : (depth : ℕ) → FitsThroughout kind (members depth)
members_fit depth = let e = expression_good depth in record { predictive = refl; each = refl; refs = assumption (each_kind, e) }

pub topology_fits : (depth : ℕ) → FitsThroughout kind (topology depth)
topology_fits depth = let e = expression_good depth in record { predictive = refl; each = refl; refs = assumption (each_kind, e) }
