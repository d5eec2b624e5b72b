use Rattle.fp_components.proofs.matches.matches_of.Goals as goal

pub returns : goal.returns
returns c whole = c.pairs_in.ensures _ c.in_ok-positions.ensures whole
