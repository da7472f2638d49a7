-- The newest member takes the slot before the others, and is put into the set.
use Rattle.std.proofs.Common.{◌-◌, ◌<◌, sym, ap, ◌∙◌, arith}
use Rattle.std.proofs.lemmas.List.{length-drop}
use Rattle.irv.specs.Sets.{set_of}
use Rattle.search.specs.EndingValues.{listing}
use Rattle.search.proofs.Growing.{grown_listing, grown_set}
use Rattle.search.proofs.ending.Ending.grown_by.Goals as goal

pub invariant_of-self : goal.invariant_of-self
invariant_of-self c =
    let e = c.args.self in
    let room : e.len < 16 = omega (arith, length-drop (16 - e.len) e.slots) in
    let list = grown_listing e.slots e.len c.args.candidate (omega arith) room in
    record {
      room = omega arith;
      same = grown_set e.set c.insert.new.self (listing e) c.args.candidate c.insert.result c.requires.1.0 c.requires.1.1 c.insert.ensures.value c.insert.ensures.after e.same ∙ sym (ap set_of list);
    }

pub returns : goal.returns
returns c =
    let e = c.args.self in
    let room : e.len < 16 = omega (arith, length-drop (16 - e.len) e.slots) in
    grown_listing e.slots e.len c.args.candidate (omega arith) room
