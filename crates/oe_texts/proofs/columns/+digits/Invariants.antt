use Rattle.oe_texts.proofs.columns.+digits.Given as goal

abbrev pub decreases-digits : goal.decreases-digits
decreases-digits l = l.n
