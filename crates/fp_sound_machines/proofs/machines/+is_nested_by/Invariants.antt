use Rattle.fp_sound_machines.proofs.machines.+is_nested_by.Given as goal

abbrev pub decreases-is_nested_by : goal.decreases-is_nested_by
decreases-is_nested_by l = l.most
