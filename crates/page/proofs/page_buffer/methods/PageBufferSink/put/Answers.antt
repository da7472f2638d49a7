-- The byte is laid where there is room, and else nothing changes.
use Rattle.std.proofs.Common.{◌≡◌, ◌-◌, [], ◌∷◌, ◌++◌, length, take, drop, sym, refl, ap, ◌∙◌, add-zero, add-one, arith}
use Rattle.std.proofs.lemmas.List.{set_split, take_all}
use Rattle.page.specs.Laying.{laid_as, laid_none}
use Rattle.page.proofs.page_buffer.methods.PageBufferSink.put.Goals as goal

pub returns-then-self : goal.returns-then-self
returns-then-self c =
    let xs = c.args.self.now.bytes.now in
    let n = c.args.self.now.len in
    let b = c.args.byte in
    laid_as (b ∷ []) (take_all (length xs - n) (b ∷ []) (omega arith)) refl refl (set_split xs n b c.if-self.true ∙ ap (λ k. take n xs ++ (b ∷ drop k xs)) (sym (add-one n)))

pub returns-else-self : goal.returns-else-self
returns-else-self c =
    let xs = c.args.self.now.bytes.now in
    let n = c.args.self.now.len in
    let full : length xs - n ≡ 0 = omega arith in
    laid_as [] (ap (λ k. take k (c.args.byte ∷ [])) full) refl (sym (add-zero n)) (sym (laid_none n xs))
