use Rattle.std.proofs.Common.{◌≡◌, ◌∙◌, ◌-◌, ◌≤◌, [], ◌∷◌, ◌++◌, length, drop, map, take, refl, sym, ap, rules, arith}
use Rattle.std.proofs.lemmas.List.{map-append}
use Rattle.std.specs.Prelude.{codes, max}
use Rattle.acts.specs.Flaw as flaw
use Rattle.state.specs.Prelude.{text_of, raised, Leaves, Error, ScriptText, here}
use Rattle.nesting.proofs.Nestings.{nests_after, on_ok, over}
use Rattle.nesting.proofs.Pairing.{greater, most_behind, pairs_begin, pairs_body, pairs_wrong}
use Rattle.nesting.specs.Foreach.{begins, most_asked, rows, turns, with_pairs}
use Rattle.nesting.specs.Looping.{next_of, pair_of}
use Rattle.state.proofs.Reaches.{same_reaches, then_reaches}
use Rattle.state.specs.Reaches.{reads}
use Rattle.nesting.proofs.foreach.read.Goals as goal

pub pairs-init : goal.pairs-init
pairs-init g c =
    let none = sym c.new-pairs.ensures.items in
    record {
      reaches = λ s next. same_reaches
          (ap (λ ps. with_pairs c.args.args.now (map (λ p. pair_of p) ps) s next) none);
      turns = ap (λ ps. most_asked (map (λ p. pair_of p) ps)) none;
    }

pub returns-in-Err-clause-nests : goal.returns-in-Err-clause-nests
returns-in-Err-clause-nests g c = λ s fits.
    let rest = c.pairs.rest.now in
    let before = map (λ p. pair_of p) c.pairs.pairs.items in
    let next = begins c.args.levels s in
    let two : 2 ≤ length rest = search (rules, arith) in
    let more = take (length rest - 2) (drop 2 rest) in
    let came = rw c.in-Err.is at c.in_ok-pair.ensures.reads in
    nests_after next_of c.args.state.now _ _ _
    (then_reaches (c.pairs.invariant.reaches s next)
    (then_reaches
    (same_reaches (pairs_begin rest before s next c.variables-item.result c.list-item.result
    c.as_slice.result.now c.as_slice-in-len2-up.result.now two c.variables-item.is c.list-item.is
    c.as_slice.ensures c.as_slice-in-len2-up.ensures))
    (came s (λ pair. with_pairs more (before ++ pair ∷ []) s next))))
    (over next_of c.args.state.now c.in_ok-raised-in-Err.field-0 (raised c.in-Err.fault) s _ fits
    c.in_ok-raised-in-Err.ensures refl)

pub pairs-preserved : goal.pairs-preserved
pairs-preserved g c =
    let rest = c.pairs.rest.now in
    let before = map (λ p. pair_of p) c.pairs.pairs.items in
    let two : 2 ≤ length rest = search (rules, arith) in
    let more = take (length rest - 2) (drop 2 rest) in
    let came = rw c.in-Ok.is at c.in_ok-pair.ensures.reads in
    let all = c.push.new.self.items in
    let asks = rw c.in-Ok.is at c.in_ok-pair.ensures.turns in
    let pushed : map (λ p. pair_of p) all ≡ before ++ pair_of c.in-Ok.pair ∷ [] =
    ap (λ ps. map (λ p. pair_of p) ps) c.in_ok-push-in-Ok.ensures.items
    ∙ map-append (λ p. pair_of p) c.pairs.pairs.items (c.in-Ok.pair ∷ []) in
    record {
      reaches = λ s next.
          then_reaches (c.pairs.invariant.reaches s next)
          (then_reaches
          (same_reaches (pairs_begin rest before s next c.variables-item.result c.list-item.result
          c.as_slice.result.now c.as_slice-in-len2-up.result.now two c.variables-item.is
          c.list-item.is c.as_slice.ensures c.as_slice-in-len2-up.ensures))
          (then_reaches (came s (λ pair. with_pairs more (before ++ pair ∷ []) s next))
          (same_reaches (ap (λ ps. with_pairs more ps s next) (sym pushed)))));
      turns = c.max-turns.ensures ∙ greater c.pairs.turns c.in-Ok.asked
          ∙ ap (λ n. max n c.in-Ok.asked) c.pairs.invariant.turns
          ∙ ap (λ n. max (most_asked before) n) asks
          ∙ sym (most_behind before (pair_of c.in-Ok.pair)) ∙ ap most_asked (sym pushed);
    }

pub returns-in_default-rest-clause-nests : goal.returns-in_default-rest-clause-nests
returns-in_default-rest-clause-nests g c = λ s fits.
    let rest = c.pairs.rest.now in
    let zero : length rest ≡ 0 = search (rules, arith) in
    nests_after next_of c.args.state.now _ _ _
    (then_reaches (c.pairs.invariant.reaches s (begins c.args.levels s))
    (same_reaches (pairs_wrong rest _ s _ zero)))
    (over next_of c.args.state.now c.in_ok-wrong_args.field-0
    (Leaves Error (text_of (flaw.WrongArgs (codes "foreach")))) s _ fits c.in_ok-wrong_args.ensures
    refl)

pub returns-clause-nests : goal.returns-clause-nests
returns-clause-nests g c = λ s fits.
    let rest = c.pairs.rest.now in
    let levels = c.args.levels in
    let body = c.in_ok-body.body in
    let pairs = map (λ p. pair_of p) c.pairs.pairs.items in
    let one : length rest ≡ 1 = search (rules, arith) in
    on_ok c.turn.result (λ nesting nests.
    nests_after next_of c.turn.new.state nesting _ _
    (then_reaches (c.pairs.invariant.reaches s (begins levels s))
    (then_reaches
    (same_reaches (pairs_body rest pairs s (begins levels s) c.body-item.result
    c.as_slice-2.result.now one c.body-item.is c.as_slice-2.ensures))
    (then_reaches
    (reads {text = ScriptText c.as_slice-2.result.now} body
    c.in_ok-body.ensures.tree here)
    (same_reaches (ap (λ n. turns levels body (rows n pairs) s)
    (sym c.pairs.invariant.turns))))))
    nests)
    (c.turn.ensures.nests s fits)
