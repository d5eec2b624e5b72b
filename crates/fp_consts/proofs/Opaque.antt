-- No expression has the value of an abstract type.
use Rattle.std.proofs.Common.{◌≡◌}
use Rattle.fp_base.specs.declared.value.Value.{Value, Opaque}
use Rattle.fp_tree.specs.declared.source.Source.{Source}
use Rattle.fp_meaning.specs.Names.{Path}
use Rattle.fp_meaning.specs.Values.{Opened, Val, number, text, truth, constant, written, implied, negated, combined, enclosed, listed, structured}

pub never_opaque : {source : Source} {scope : Path} {s : Opened} {v : Value} → Val source scope s v → v ≡ Opaque → ⊥
never_opaque number e = cc
never_opaque text e = cc
never_opaque truth e = cc
never_opaque (constant m h) e = never_opaque h e
never_opaque (written m c h n) e = cc
never_opaque (implied m c all) e = cc
never_opaque (negated h n fits) e = cc
never_opaque (combined h n k m has) e = cc
never_opaque (enclosed h) e = never_opaque h e
never_opaque (listed hs within) e = cc
never_opaque (structured hs within) e = cc
