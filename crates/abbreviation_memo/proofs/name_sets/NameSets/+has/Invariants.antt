use Rattle.abbreviation_memo.proofs.name_sets.NameSets.+has.Given as goal

abbrev pub decreases-has : goal.decreases-has
decreases-has l = l.name
