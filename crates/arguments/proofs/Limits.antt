-- The limits that words name.
use Rattle.std.proofs.Common.{◌≡◌, ◌≤◌, ◌<◌, ◌^◌, ℕ, List, Option, Some, None, IfNone, IsSome, decimal, sym, ◌∙◌, arith}
use Rattle.std.specs.Prelude.{◌↔◌}
use Rattle.std.proofs.lemmas.Fmt.{decimal_injective}
use Rattle.arguments.specs.Arguments.{AreTicks}

in_range : (number ticks : ℕ) → ticks ≡ number → 1 ≤ ticks → ticks ≤ 1000000000000 → (1 ≤ number)
    × (number ≤ 1000000000000)
in_range number ticks same low high = (omega arith, omega arith)

-- the number that a word spells is no limit
pub no_limits : {T : Type 0} (found : Option T) (number : ℕ) (limit : List ℕ) →
    IsSome found ↔ ((1 ≤ number) × (number ≤ 1000000000000))
    → limit ≡ decimal number → number < 2 ^ 64 →
    IfNone found ((ticks : ℕ) → AreTicks (Some limit) ticks → ⊥)
no_limits None number limit range spelled below = λ ticks (low, high, is).
    let small : ticks < 2 ^ 64 = omega arith in
    let same = decimal_injective ticks number small below (sym is ∙ spelled) in
    absurd (cc (range.1 (in_range number ticks same low high)))
no_limits (Some x) number limit range spelled below = tt

-- words name at most one limit
pub one_limit : (limit : Option (List ℕ)) (a b : ℕ) → AreTicks limit a → AreTicks limit b → a ≡ b
one_limit None a b e f = e ∙ sym f
one_limit (Some limit) a b (low, high, is) (low', high', is') =
    let small : a < 2 ^ 64 = omega arith in
    let small' : b < 2 ^ 64 = omega arith in
    decimal_injective a b small small' (sym is ∙ is')
