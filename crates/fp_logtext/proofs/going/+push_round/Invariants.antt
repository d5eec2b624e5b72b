use Rattle.fp_logtext.proofs.going.+push_round.Given as goal

abbrev pub decreases-push_round : goal.decreases-push_round
decreases-push_round l = l.most
