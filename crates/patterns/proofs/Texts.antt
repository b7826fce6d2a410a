-- Where bytes that stand for themselves fit, and what a search for them costs.
use Rattle.std.proofs.Common.{◌≡◌, ℕ, zero, suc, ◌+◌, ◌-◌, ◌*◌, ◌<◌, ◌≤◌, List, [], ◌∷◌, ◌++◌, length, map, take, drop, refl, sym, ◌∙◌, ap, arith, Some, None, slice_index}
use Rattle.std.proofs.lemmas.List.{length-drop, length-map, take_rest, get_or-drop}
use Rattle.std.proofs.Math.Nat.{mul-le-mul_left}
use Rattle.memchr.specs.Find.{OccursAt, FindsNeedle, FindsLastNeedle}
use Rattle.patterns.specs.Item.{literal}
use Rattle.patterns.specs.Runs.{Fits, IsPlace, IsFirstPlace, IsLastPlace, FitsNowhere}

-- bytes fit where they are read one by one
pub fits_read : (bytes t : List ℕ) → length bytes ≤ length t →
    ((j : ℕ) → j < length bytes → slice_index t j ≡ slice_index bytes j) →
    Fits (map literal bytes) t
fits_read [] t room reads = tt
fits_read (b ∷ bytes) [] room reads = absurd (omega arith)
fits_read (b ∷ bytes) (c ∷ t) room reads = (
  reads 0 (omega arith),
  fits_read bytes t (omega arith)
      (λ j below. reads (suc j) (omega arith)),
)

pub read_fits : (bytes t : List ℕ) → Fits (map literal bytes) t → (j : ℕ) → j < length bytes →
    slice_index t j ≡ slice_index bytes j
read_fits [] t fits j below = absurd (omega arith)
read_fits (b ∷ bytes) [] fits j below = absurd fits
read_fits (b ∷ bytes) (c ∷ t) fits zero below = fits.0
read_fits (b ∷ bytes) (c ∷ t) fits (suc j) below = read_fits bytes t fits.1 j (omega arith)

-- bytes fit where they stand in front
pub fits_front : (bytes rest : List ℕ) → Fits (map literal bytes) (bytes ++ rest)
fits_front [] rest = tt
fits_front (b ∷ bytes) rest = (refl, fits_front bytes rest)

pub front_fits : (bytes t : List ℕ) → Fits (map literal bytes) t → t ≡ bytes
    ++ drop (length bytes) t
front_fits [] t fits = refl
front_fits (b ∷ bytes) [] fits = absurd fits
front_fits (b ∷ bytes) (c ∷ t) fits = ap (λ (x : List ℕ). c ∷ x) (front_fits bytes t fits.1)
    ∙ ap (λ (a : ℕ). a ∷ (bytes ++ drop (length bytes) t)) fits.0

-- the window from a place on
abbrev pub behind : List ℕ → ℕ → List ℕ
behind w from = take (length w - from) (drop from w)

pub behind-length : (w : List ℕ) (from : ℕ) → length (behind w from) ≡ length w - from
behind-length w from = ap length (take_rest w from) ∙ length-drop from w

behind-index : (w : List ℕ) (from k : ℕ) → slice_index (behind w from) k ≡ slice_index w (from + k)
behind-index w from k = ap (λ (x : List ℕ). slice_index x k) (take_rest w from)
    ∙ get_or-drop from w k 0

-- bytes that occur after a place have a place in the window
pub occurs_place : (bytes w : List ℕ) (from k : ℕ) → from ≤ length w →
    OccursAt (behind w from) bytes k → IsPlace (map literal bytes) w (from + k)
occurs_place bytes w from k inside occurs =
    let size = length-map bytes literal in
    let long = behind-length w from in
    let within = occurs.fits in
    let room : from + k + length bytes ≤ length w = omega arith in
    record {
      room = omega arith;
      fits = fits_read bytes (drop (from + k) w) (omega (arith, length-drop (from + k) w))
          (λ j below. get_or-drop (from + k) w j 0 ∙ ap (slice_index w) (omega arith)
          ∙ sym (behind-index w from (k + j)) ∙ occurs.reads j below);
    }

pub place_occurs : (bytes w : List ℕ) (from k p : ℕ) → from + k ≡ p →
    IsPlace (map literal bytes) w p → OccursAt (behind w from) bytes k
place_occurs bytes w from k p sum here =
    let size = length-map bytes literal in
    let long = behind-length w from in
    let within = here.room in
    record {
      fits = omega arith;
      reads = λ j below.
          behind-index w from (k + j) ∙ ap (slice_index w) (omega arith) ∙ sym (get_or-drop p w j 0)
          ∙ read_fits bytes (drop p w) here.fits j below;
    }

-- a search that finds nothing after a place
pub text_nowhere : (bytes w : List ℕ) (from : ℕ) → FindsNeedle (behind w from) bytes 0 None →
    FitsNowhere (map literal bytes) w from
text_nowhere bytes w from none k low here =
    let occurs = place_occurs bytes w from (k - from) k (omega arith) here in
    none (k - from) (omega arith) (omega (arith, occurs.fits)) occurs

-- a search that finds the first place
pub text_first : (bytes w : List ℕ) (from k : ℕ) → from ≤ length w →
    FindsNeedle (behind w from) bytes 0 (Some k) →
    IsFirstPlace (map literal bytes) w from (from + k)
text_first bytes w from k inside found = record {
  low = omega arith;
  here = occurs_place bytes w from k inside found.1;
  before = λ j low below here. found.0.before (j - from) (omega arith) (omega arith)
      (place_occurs bytes w from (j - from) j (omega arith) here);
}

pub text_nowhere_last : (bytes w : List ℕ) (from : ℕ) → FindsLastNeedle (behind w from) bytes None →
    FitsNowhere (map literal bytes) w from
text_nowhere_last bytes w from none k low here =
    let occurs = place_occurs bytes w from (k - from) k (omega arith) here in
    none (k - from) (omega arith) (omega (arith, occurs.fits)) occurs

-- a search that finds the last place
pub text_last : (bytes w : List ℕ) (from k : ℕ) → from ≤ length w →
    FindsLastNeedle (behind w from) bytes (Some k) →
    IsLastPlace (map literal bytes) w from (from + k)
text_last bytes w from k inside found = record {
  low = omega arith;
  here = occurs_place bytes w from k inside found.1;
  after = λ j above here.
      let occurs = place_occurs bytes w from (j - from) j (omega arith) here in
      found.0.after (j - from) (omega arith) (omega (arith, occurs.fits)) occurs;
}

-- the bytes that a search passes and those that it finds are no more than the window has
pub steps_of_text : (s0 s l d w : ℕ) → 1 ≤ l → s ≤ s0 + d → d ≤ w → s ≤ s0 + l * (w + 1)
steps_of_text s0 s l d w positive one within =
    let more : (w + 1) * 1 ≤ (w + 1) * l = mul-le-mul_left (w + 1) positive in
    let same : l * (w + 1) ≡ (w + 1) * l = omega arith in
    omega arith

-- no bytes fit everywhere
pub nothing_first : (w : List ℕ) (from : ℕ) → from ≤ length w → IsFirstPlace [] w from from
nothing_first w from inside = record {
  low = omega arith;
  here = record { room = omega arith; fits = tt };
  before = λ k low below here. omega arith;
}

pub nothing_last : (w : List ℕ) (from : ℕ) → from ≤ length w → IsLastPlace [] w from (length w)
nothing_last w from inside = record {
  low = omega arith;
  here = record { room = omega arith; fits = tt };
  after = λ k above here. omega (arith, here.room);
}
