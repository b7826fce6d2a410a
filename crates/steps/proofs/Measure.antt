-- What falls with each instruction: the ticks that are left, or the places that are left.
use Rattle.std.proofs.Common.{◌≡◌, ℕ, ◌+◌, ◌-◌, ◌*◌, ◌<◌, ◌≤◌, ◌⊎◌, inl, inr, ap, arith}
use Rattle.std.proofs.Math.Nat.{eq-or-lt_of_le, mul-le-mul_right}

-- a tick less is worth more than all places
tick_falls : (size place next left now : ℕ) → now < left →
    now * (size + 1) + (size - next) < left * (size + 1) + (size - place)
tick_falls size place next left now less =
    let product : (now + 1) * (size + 1) ≤ left * (size + 1) =
    mul-le-mul_right (size + 1) (omega (arith, less)) in
    let apart : (now + 1) * (size + 1) ≡ now * (size + 1) + (size + 1) = grind arith in
    omega (arith, product, apart)

-- without a tick the next place stands after this one
place_falls : (size place next left now : ℕ) → place < size → now ≡ left → place < next →
    now * (size + 1) + (size - next) < left * (size + 1) + (size - place)
place_falls size place next left now within same ahead =
    let product : now * (size + 1) ≡ left * (size + 1) = ap (λ n. n * (size + 1)) same in
    omega (arith, product, within, ahead)

either_falls : (size place next left now : ℕ) → place < size → (now ≡ left → place < next) →
    (now ≡ left) ⊎ (now < left) →
    now * (size + 1) + (size - next) < left * (size + 1) + (size - place)
either_falls size place next left now within ahead (inl same) =
    place_falls size place next left now within same (ahead same)
either_falls size place next left now within ahead (inr less) =
    tick_falls size place next left now less

pub falls : (size place next left now : ℕ) → place < size → now ≤ left →
    (now ≡ left → place < next) →
    now * (size + 1) + (size - next) < left * (size + 1) + (size - place)
falls size place next left now within no_more ahead =
    either_falls size place next left now within ahead (eq-or-lt_of_le no_more)

either_command : (size place next left now : ℕ) → (now ≡ left → size - next < size - place) →
    (now ≡ left) ⊎ (now < left) →
    now * (size + 1) + (size - next) < left * (size + 1) + (size - place)
either_command size place next left now ahead (inl same) =
    let product : now * (size + 1) ≡ left * (size + 1) = ap (λ n. n * (size + 1)) same in
    let fewer : size - next < size - place = ahead same in
    omega (arith, product, fewer)
either_command size place next left now ahead (inr less) =
    tick_falls size place next left now less

-- so it is where several instructions lead to a command
pub command_falls : (size place next left now : ℕ) → now ≤ left →
    (now ≡ left → size - next < size - place) →
    now * (size + 1) + (size - next) < left * (size + 1) + (size - place)
command_falls size place next left now no_more ahead =
    either_command size place next left now ahead (eq-or-lt_of_le no_more)

-- several instructions that take no tick lead to no place before the first one
pub no_way_back : (from place next first left now : ℕ) → now ≤ left → left ≤ first →
    (left ≡ first → from ≤ place) → (now ≡ left → place < next) → now ≡ first → from ≤ next
no_way_back from place next first left now fewer few before ahead same =
    let was : left ≡ first = omega (arith, fewer, few, same) in
    let is : now ≡ left = omega (arith, fewer, few, same) in
    let one : from ≤ place = before was in
    let other : place < next = ahead is in
    omega (arith, one, other)

-- and fewer places are left
pub fewer_left : (size from place next first left now : ℕ) → place < size → now ≤ left →
    left ≤ first → (left ≡ first → from ≤ place) → (now ≡ left → place < next) → now ≡ first →
    size - next < size - from
fewer_left size from place next first left now within fewer few before ahead same =
    let was : left ≡ first = omega (arith, fewer, few, same) in
    let is : now ≡ left = omega (arith, fewer, few, same) in
    let one : from ≤ place = before was in
    let other : place < next = ahead is in
    omega (arith, one, other, within)
