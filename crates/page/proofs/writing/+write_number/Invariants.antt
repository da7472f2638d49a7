-- Each call has a smaller number.
use Rattle.page.proofs.writing.+write_number.Given as goal

abbrev pub decreases-write_number : goal.decreases-write_number
decreases-write_number g l = l.number
