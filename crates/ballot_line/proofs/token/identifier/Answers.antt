use Rattle.ballot_line.proofs.Steps.{identifier_within, identifier_taken}
use Rattle.ballot_line.proofs.token.identifier.Goals as goal

pub split_at-requires : goal.split_at-requires
split_at-requires c = identifier_within _ _ c.identifier_len-len.ensures

pub returns : goal.returns
returns c = identifier_taken _ _ c.identifier_len-len.ensures _ _ c.if-len-eq0.false c.split_at.ensures.front c.split_at.ensures.back
