-- The laws of sets, tallies and orders, each from its file.
use Rattle.irv.specs.Laws.{SetLaws, TallyLaws, OrderLaws}
use Rattle.irv.proofs.Bits as bits
use Rattle.irv.proofs.Tallies as tallies
use Rattle.irv.proofs.Lists as lists

pub set_laws : SetLaws
set_laws = record {
  none_in_empty = bits.none_in_empty;
  zero_in_none = bits.zero_in_none;
  one_more = bits.one_more;
  listed = bits.listed;
  same_members = bits.same_members;
}

pub tally_laws : TallyLaws
tally_laws = record { out_has_none = tallies.out_has_none; at_most_all = tallies.at_most_all }

pub order_laws : OrderLaws
order_laws = record {
  ranked_at_most_once = lists.ranked_at_most_once;
  every_member = lists.every_member;
  steps_stand = lists.steps_stand;
}
