use Rattle.std.proofs.Common.{◌≡◌, ◌-◌, ◌+◌, ◌<◌, List, ℕ, length, sym, ap, subst, arith, rules}
use Rattle.matchbuf.specs.Held.{Held}
use Rattle.searches.specs.Lead.{run_of}
use Rattle.searches.specs.Vain.{ArePassed}
use Rattle.searches.specs.declared.lead.Key.{Key}
use Rattle.patterns.specs.Match.{Sits, SitsNowhere}
use Rattle.patterns.specs.Passed.{Passed}
use Rattle.patterns.proofs.Shifts.{Passed-here}
use Rattle.searches.proofs.Leads.{nowhere_short, run_passed}
use Rattle.searches.proofs.searched.Searched.search_first.Goals as goal

pub returns-then-len-size-clause-found : goal.returns-then-len-size-clause-found
returns-then-len-size-clause-found g c =
    let key = c.args.lead.now.key in
    let bytes = c.self.inside.buffer.bytes in
    let short : length bytes - 0 < c.args.lead.now.size =
    omega (arith, c.len-len.ensures.len, c.size.ensures, c.if-len-size.true) in
    subst (SitsNowhere (run_of key)) (ap (λ (h : Held). h.bytes) c.self.view_is)
    (nowhere_short (run_of key) c.args.lead.now.size bytes 0 c.requires.run
    (λ rest s e sits. omega arith) short)

pub returns-then-len-known-clause-found : goal.returns-then-len-known-clause-found
returns-then-len-known-clause-found g c =
    let key = c.args.lead.now.key in
    let bytes = c.self.inside.buffer.bytes in
    let passed = subst (λ (k : Key g.row.A.Denot). Passed (run_of k) bytes c.place_of.result) c.key.ensures
    (c.place_of.ensures bytes (subst (λ vains. ArePassed c.self.inside.gone bytes vains)
    (sym c.deref.ensures.value) c.self.invariant)) in
    let short : length bytes - c.place_of.result < c.args.lead.now.size =
    omega (arith, c.len-len.ensures.len, c.size.ensures, c.min-known.ensures) in
    subst (SitsNowhere (run_of key)) (ap (λ (h : Held). h.bytes) c.self.view_is)
    (nowhere_short (run_of key) c.args.lead.now.size bytes c.place_of.result c.requires.run passed
    short)

pub find-requires-clause-low : goal.find-requires-clause-low
find-requires-clause-low g c = λ s e sits.
    let key = c.args.lead.now.key in
    let bytes = c.self.inside.buffer.bytes in
    let passed = subst (λ (k : Key g.row.A.Denot). Passed (run_of k) bytes c.place_of.result) c.key.ensures
    (c.place_of.ensures bytes (subst (λ vains. ArePassed c.self.inside.gone bytes vains)
    (sym c.deref.ensures.value) c.self.invariant)) in
    let there = subst (λ (w : List ℕ). Sits (run_of key) w s e) c.window.ensures.value sits in
    let low = Passed-here (run_of key) bytes c.place_of.result s e passed there in
    omega (arith, low, c.min-known.ensures)

pub invariant_of-self : goal.invariant_of-self
invariant_of-self g c =
    let kept : c.window.follows.lender-at-none.bytes ≡ c.self.inside.buffer.bytes = search rules in
    subst (λ (x : List ℕ). ArePassed c.self.inside.gone x c.self.inside.vains.items) (sym kept)
    c.self.invariant

pub invariant_of-self-in-None : goal.invariant_of-self-in-None
invariant_of-self-in-None g c =
    let key = c.args.lead.now.key in
    let bytes = c.self.inside.buffer.bytes in
    let kept : c.window.follows.lender-at-none.bytes ≡ bytes = search rules in
    let nowhere = subst (SitsNowhere (run_of key)) c.window.ensures.value c.in-None.ensures.found in
    let next : length bytes + 1 - c.args.lead.now.size ≡ c.saturating_sub-next.result =
    omega (arith, c.len-len.ensures.len, c.size-in-None.ensures, c.saturating_sub-next.ensures) in
    let passed = subst (Passed (run_of key) bytes) next
    (run_passed (run_of key) c.args.lead.now.size bytes c.requires.run nowhere) in
    subst (λ (x : List ℕ). ArePassed c.self.inside.gone x c.note.new.vains.items) (sym kept)
    (c.note.ensures bytes c.self.invariant
    (subst (λ (k : Key g.row.A.Denot). Passed (run_of k) bytes c.saturating_sub-next.result)
    (sym c.key-in-None.ensures) passed))
