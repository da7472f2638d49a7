-- What the answer of a search says as a verdict.
use Rattle.search.specs.declared.answer.Answer.{Answer}
use Rattle.search.specs.declared.answer.Answer.TheVariants.{Stopped as SearchStopped, Found, NoSurvivor}
use Rattle.audit.specs.declared.verdict.Verdict.{Verdict}
use Rattle.audit.specs.declared.verdict.Verdict.TheVariants.{Accepted, Rejected, Stopped}

-- nothing contradicted is left, a survivor is, or the search stopped
abbrev pub verdict_of : Answer → Verdict
verdict_of SearchStopped = Stopped
verdict_of (Found e k) = Rejected e k
verdict_of (NoSurvivor k) = Accepted k
