-- An item is put in where there is room.
use Rattle.std.proofs.Common.{ℕ, ◌<◌, List, length, Ok, Err, Result, refl, arith}
use Rattle.std.specs.Result.{IsOk}
use Rattle.fixed_list.specs.Lists.{Pushed}
use Rattle.fixed_list.specs.declared.list.methods.ListFull.{ListFull}

pub room_left : {T : Type 0} (n : ℕ) (x : T) (before : List T) (r : Result (Unit {0}) ListFull) (after : List T) → Pushed n x before r after → length before < n → IsOk r
room_left n x before (Ok u) after pushed room = refl
room_left n x before (Err e) after full room = absurd (omega arith)
