-- What an importer takes, member by member.
use Rattle.std.proofs.Common.{◌≡◌, ◌∙◌, ◌+◌, ◌++◌, ◌∷◌, [], not, ℕ, List, Some, take, slice_get, refl, ap}
use Rattle.std.specs.List.{filter}
use Rattle.std.specs.Prelude.{Option, None, option_map, unwrap_or}
use Rattle.std.proofs.lemmas.List.{map-append}
use Rattle.std.proofs.lemmas.List.Elements.{filter-append}
use Rattle.fp_base.proofs.Lists.{take_next}
use Rattle.fp_written_parts.specs.declared.topology.MemberInstance.{MemberInstance}
use Rattle.fp_written_parts.specs.declared.topology.WrittenTopology.{WrittenTopology}
use Rattle.fp_topologies.specs.Held.{instances_of, members_at, public_at, public_instances, public_of}

pub public_next : (ms : List MemberInstance) (n : ℕ) (m : MemberInstance) → slice_get ms n ≡ Some m → public_of (take (n + 1) ms) ≡ public_of (take n ms) ++ public_of (m ∷ [])
public_next ms n m e =
    ap public_of (take_next ms n m e)
    ∙ ap instances_of (filter-append (λ (x : MemberInstance). not x.private) (take n ms) (m ∷ []))
    ∙ map-append (λ (x : MemberInstance). x.used.instance) (filter (λ (x : MemberInstance). not x.private) (take n ms)) (filter (λ (x : MemberInstance). not x.private) (m ∷ []))

pub public_same : (ts : List WrittenTopology) (t : ℕ) → public_of (members_at ts t) ≡ public_at ts t
public_same ts t = go (slice_get ts t)
  where
    go : (found : Option WrittenTopology) → public_of (unwrap_or (option_map (λ (o : WrittenTopology). o.instances) found) []) ≡ unwrap_or (option_map public_instances found) []
    go None = refl
    go (Some o) = refl
