-- That members keep the limit on nesting.
use Rattle.std.specs.Prelude.{◌≤◌, List, flat_map}
use Rattle.std.specs.List.{Contains}
use Rattle.fp_tree.specs.declared.member.Member.{Member}
use Rattle.fp_meaning.specs.Sites.{Path, Placed}
use Rattle.fp_meaning.specs.Layout.{in_members}
use Rattle.fp_meaning.specs.Origins.{expressions_of}
use Rattle.fp_parse_defs.specs.Reading.{limit}
use Rattle.fp_places.specs.Depths.{depth_of, modules_in}

-- no expression in the members nests deeper than is allowed, nor do modules, each counted apart
pub record KeepsLimit (ms : List Member) : Type 0 where
  pub expressions : (scope : Path) (p : Placed) → Contains (flat_map expressions_of (in_members scope ms)) p → depth_of p.expression ≤ limit
  pub modules : modules_in ms ≤ limit
