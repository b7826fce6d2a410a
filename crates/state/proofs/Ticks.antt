-- Ticks, where it is known whether one is left.
use Rattle.std.proofs.Common.{◌≡◌, ℕ, suc, refl}
use Rattle.state.specs.Dialogue.{Course, stops, tick}
use Rattle.state.specs.Outcome as stop
use Rattle.state.specs.Status.{Status}

-- a tick is taken where one is left, and the run stops where none is
pub tick_taken : (s : Status) (left : ℕ) (next : Status → Course) → s.left ≡ suc left →
    tick s next ≡ next (record s { left = left })
tick_taken s left next is = rw is refl

pub tick_refused : (s : Status) (next : Status → Course) → s.left ≡ 0 →
    tick s next ≡ stops stop.Limit s
tick_refused s next is = rw is refl
