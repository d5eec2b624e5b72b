use Rattle.fp_components.proofs.matches.pair_of.Goals as goal

pub returns : goal.returns
returns c all finds whole = record { first = c.position_named.ensures all finds whole.0; second = c.position_named-2.ensures all finds whole.1 }
