use Rattle.std.proofs.Common.{◌≡◌, ◌-◌, ◌++◌, List, ℕ, length, drop, sym, ◌∙◌, ap, subst, arith, length-append}
use Rattle.matchbuf.specs.Held.{Held}
use Rattle.searches.specs.Vain.{ArePassed}
use Rattle.searches.proofs.Vains.{are_more}
use Rattle.searches.proofs.searched.Searched.arrive.Goals as goal

pub invariant_of-self : goal.invariant_of-self
invariant_of-self g c =
    let inside = c.self.inside in
    let old = inside.buffer.bytes in
    let all = old ++ c.args.bytes.now in
    let count = c.saturating_sub.result in
    let size = length-append old c.args.bytes.now in
    let gone : length all - inside.buffer.max ≡ count =
    omega (arith, size, c.saturating_sub.ensures, c.max.ensures.max, c.len.ensures.len, c.len.ensures.within) in
    let bytes : drop count all ≡ c.arrive.new.self.bytes =
    sym (ap (λ (h : Held). h.bytes) c.arrive.ensures.value ∙ ap (λ (n : ℕ). drop n all) gone) in
    subst (λ (x : List ℕ). ArePassed c.forget.new.gone x c.forget.new.vains.items) bytes
    (c.forget.ensures all (omega (arith, size, gone))
    (are_more inside.gone old c.args.bytes.now inside.vains.items c.self.invariant))
