-- What the members of a topology give, with one more behind them.
use Rattle.std.proofs.Common.{◌≡◌, ℕ, List, [], ◌∷◌, ◌++◌, Option, refl, sym, subst}
use Rattle.fp_base.specs.declared.value.Value.{Value}
use Rattle.fp_tree.specs.declared.source.Source.{Source}
use Rattle.fp_tree.specs.declared.component.Import.{Import}
use Rattle.fp_tree.specs.declared.member.Include.{Include}
use Rattle.fp_tree.specs.declared.topology.Connections.{Connections}
use Rattle.fp_tree.specs.declared.topology.InstanceUse.{InstanceUse}
use Rattle.fp_tree.specs.declared.topology.PatternConnections.{PatternConnections}
use Rattle.fp_tree.specs.declared.topology.TMember.{TMember}
use Rattle.fp_tree.specs.declared.topology.TMember.TheVariants as member
use Rattle.fp_meaning.specs.Layout.{topology_member_items}
use Rattle.fp_meaning.specs.Names.{Path}
use Rattle.fp_type_forms.specs.declared.resolving.Resolution.{Resolution}
use Rattle.fp_type_forms.specs.Resolved.{Takes}
use Rattle.fp_type_forms.specs.Written.{AllAt}
use Rattle.fp_written_parts.specs.declared.topology.ImportedTopology.{ImportedTopology}
use Rattle.fp_written_parts.specs.declared.topology.MemberInstance.{MemberInstance}
use Rattle.fp_written_parts.specs.declared.topology.WrittenConnection.{WrittenConnection}
use Rattle.fp_written_parts.specs.declared.topology.WrittenPattern.{WrittenPattern}
use Rattle.fp_topology_forms.specs.declared.members.MembersTaken.{MembersTaken}
use Rattle.fp_topology_forms.specs.Taken.{AreWithMember, MembersAre, no_members}
use Rattle.fp_topology_forms.specs.Written.{ConnectionIs, ImportIs, MemberInstanceIs, PatternIs, connections_in, imports_in, patterns_in, uses_in}
use Rattle.fp_topology_forms.proofs.Growing.{row_more, row_same}

abbrev pub members : List MemberInstance → List ImportedTopology → List WrittenConnection → List WrittenPattern → MembersTaken
members is ts cs ps = record { instances = is; imports = ts; connections = cs; patterns = ps }

module _ (source : Source) (scope : Path) where
  pub none_are : (w : MembersTaken) → w ≡ no_members → MembersAre source scope [] w
  none_are w is = subst (λ (x : MembersTaken). MembersAre source scope [] x) (sym is) (record { instances = tt; imports = tt; connections = tt; patterns = tt })

  module _ (before : MembersTaken) where
    pub instance_behind : (u : InstanceUse) (w : MemberInstance) (row : List MemberInstance) → row ≡ before.instances ++ w ∷ [] → MemberInstanceIs source scope u w
        → AreWithMember source scope (member.Instance u) before (members row before.imports before.connections before.patterns)
    instance_behind u w row is r ms h = record {
      instances = row_more uses_in (MemberInstanceIs source scope) (member.Instance u) (w ∷ []) before.instances row is (r, tt) ms h.instances;
      imports = row_same imports_in (ImportIs source scope) (member.Instance u) before.imports refl ms h.imports;
      connections = row_same connections_in (ConnectionIs source scope) (member.Instance u) before.connections refl ms h.connections;
      patterns = row_same patterns_in (PatternIs source scope) (member.Instance u) before.patterns refl ms h.patterns;
    }

    pub import_behind : (i : Import) (w : ImportedTopology) (row : List ImportedTopology) → row ≡ before.imports ++ w ∷ [] → ImportIs source scope i w
        → AreWithMember source scope (member.Import i) before (members before.instances row before.connections before.patterns)
    import_behind i w row is r ms h = record {
      instances = row_same uses_in (MemberInstanceIs source scope) (member.Import i) before.instances refl ms h.instances;
      imports = row_more imports_in (ImportIs source scope) (member.Import i) (w ∷ []) before.imports row is (r, tt) ms h.imports;
      connections = row_same connections_in (ConnectionIs source scope) (member.Import i) before.connections refl ms h.connections;
      patterns = row_same patterns_in (PatternIs source scope) (member.Import i) before.patterns refl ms h.patterns;
    }

    pub include_behind : (i : Include) → AreWithMember source scope (member.Include i) before before
    include_behind i ms h = record {
      instances = row_same uses_in (MemberInstanceIs source scope) (member.Include i) before.instances refl ms h.instances;
      imports = row_same imports_in (ImportIs source scope) (member.Include i) before.imports refl ms h.imports;
      connections = row_same connections_in (ConnectionIs source scope) (member.Include i) before.connections refl ms h.connections;
      patterns = row_same patterns_in (PatternIs source scope) (member.Include i) before.patterns refl ms h.patterns;
    }

    pub connections_behind : (g : Connections) (ws row : List WrittenConnection) → row ≡ before.connections ++ ws → AllAt (λ position. ConnectionIs source scope) 0 g.connections ws
        → AreWithMember source scope (member.Connections g) before (members before.instances before.imports row before.patterns)
    connections_behind g ws row is r ms h = record {
      instances = row_same uses_in (MemberInstanceIs source scope) (member.Connections g) before.instances refl ms h.instances;
      imports = row_same imports_in (ImportIs source scope) (member.Connections g) before.imports refl ms h.imports;
      connections = row_more connections_in (ConnectionIs source scope) (member.Connections g) ws before.connections row is r ms h.connections;
      patterns = row_same patterns_in (PatternIs source scope) (member.Connections g) before.patterns refl ms h.patterns;
    }

    pub pattern_behind : (p : PatternConnections) (w : WrittenPattern) (row : List WrittenPattern) → row ≡ before.patterns ++ w ∷ [] → PatternIs source scope p w
        → AreWithMember source scope (member.Pattern p) before (members before.instances before.imports before.connections row)
    pattern_behind p w row is r ms h = record {
      instances = row_same uses_in (MemberInstanceIs source scope) (member.Pattern p) before.instances refl ms h.instances;
      imports = row_same imports_in (ImportIs source scope) (member.Pattern p) before.imports refl ms h.imports;
      connections = row_same connections_in (ConnectionIs source scope) (member.Pattern p) before.connections refl ms h.connections;
      patterns = row_more patterns_in (PatternIs source scope) (member.Pattern p) (w ∷ []) before.patterns row is (r, tt) ms h.patterns;
    }

  -- a member by which it is
  pub member_by : (marks : List (Option Value)) (rs : List Resolution) (m n : TMember) (a b : ℕ) (old new : MembersTaken) → m ≡ n
      → Takes source marks rs (topology_member_items scope n) a b (AreWithMember source scope n old new) → Takes source marks rs (topology_member_items scope m) a b (AreWithMember source scope m old new)
  member_by marks rs m n a b old new is h =
      subst (λ (x : TMember). Takes source marks rs (topology_member_items scope x) a b (AreWithMember source scope x old new)) (sym is) h
