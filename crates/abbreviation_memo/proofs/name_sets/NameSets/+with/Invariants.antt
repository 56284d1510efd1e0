use Rattle.abbreviation_memo.proofs.name_sets.NameSets.+with.Given as goal

abbrev pub decreases-with : goal.decreases-with
decreases-with l = l.name
