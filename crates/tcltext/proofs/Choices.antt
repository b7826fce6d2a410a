-- Tests and choices.
use Rattle.std.proofs.Common.{◌≡◌, ◌⊎◌, inl, inr, ◌&&◌, ◌||◌, Bool, true, false, not, cond, refl}

-- what holds of both choices holds of the choice
pub choice : {A : Type 0} (P : A → Type 0) (b : Bool) (s t : A) → P s → P t → P (cond b s t)
choice P true s t h k = h
choice P false s t h k = k

pub first_choice : {A : Type 0} (b : Bool) (s t : A) → b ≡ true → cond b s t ≡ s
first_choice true s t h = refl
first_choice false s t h = absurd (cc)

pub tells : (b : Bool) → (b ≡ true) ⊎ (b ≡ false)
tells true = inl refl
tells false = inr refl

pub and_true : (a b : Bool) → (a && b) ≡ true → (a ≡ true) × (b ≡ true)
and_true true b h = (refl, h)
and_true false b h = absurd (cc)

pub or_false : (a b : Bool) → (a || b) ≡ false → (a ≡ false) × (b ≡ false)
or_false true b h = absurd (cc)
or_false false b h = (refl, h)

pub not_true : (b : Bool) → not b ≡ true → b ≡ false
not_true true h = absurd (cc)
not_true false h = refl
