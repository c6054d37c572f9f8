use Rattle.text.proofs.writer.+print_number.Given as goal

abbrev pub decreases-print_number : goal.decreases-print_number
decreases-print_number l = l.n
