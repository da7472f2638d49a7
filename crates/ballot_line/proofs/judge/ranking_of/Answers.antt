use Rattle.std.proofs.Common.{◌+◌, ◌++◌, ◌≤◌, length, get_or, take, drop, sym, refl, ap, ◌∙◌, arith, take-append-drop}
use Rattle.std.proofs.lemmas.List.{drop_more, length-take}
use Rattle.ballot_line.proofs.Widths.{comma_bytes, few_bytes, taken_fits}
use Rattle.ballot_line.proofs.judge.ranking_of.Goals as goal

pub overflow_add-result-in-Some : goal.overflow_add-result-in-Some
overflow_add-result-in-Some c =
    let xs = c.args.numbers.now in
    let i = c.in-Some.place in
    let few : length (take i xs) ≤ 16 = omega (arith, c.requires.1, c.in-Some.ensures.0, length-take i xs) in
    omega (arith, c.requires.0, c.bytes_of.ensures, few_bytes (take i xs) (λ k h. taken_fits xs i k (λ j. let f = c.type_inv.numbers j in omega arith) h))

pub returns-in-Some : goal.returns-in-Some
returns-in-Some c =
    let xs = c.args.numbers.now in
    let i = c.in-Some.place in
    let told = c.in-Some.ensures in
    record {
      ok = take i xs;
      wrong = get_or xs i 0;
      later = drop (i + 1) xs;
      split = sym (take-append-drop i xs) ∙ ap (λ l. take i xs ++ l) (drop_more xs i 0 told.0);
      right = told.1.0;
      fault = told.1.1;
      cause = refl;
      byte = omega (arith, c.bytes_of.ensures, comma_bytes (take i xs));
    }
