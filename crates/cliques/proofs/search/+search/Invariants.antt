-- `search` makes a run: a law for each return, and for what each call is asked (Turns). The measure is the count of undecided rows.
use Rattle.cliques.proofs.search.+search.Given as goal

abbrev pub decreases-search : goal.decreases-search
decreases-search l = l.undecided
