-- What a buffer holds once a loan of its bytes has ended.
use Rattle.std.specs.Prelude.{◌≡◌, ℕ, List, ⊤}
use Rattle.std.specs.Borrow.{Fml, RattleType, MutBor, follows_so, u8}
use Rattle.std.specs.declared.alloc.Allocator.{Ghosts}
use mathlib.Core.Option.{none}
use Rattle.circular_buffer.specs.Buffer.{Buffer}
use Rattle.circular_buffer.specs.BufferLends.{lends_items}
use Rattle.circular_buffer.specs.contracts.heap.HeapCircularBuffer as ring_contracts
use Rattle.matchbuf.specs.Held.{Held}
use Rattle.matchbuf.specs.contracts.buffer.MatchBuf.{the_row}

module _ (A : RattleType) (g : Ghosts A.Denot) where
  -- the buffer is as it was before the call
  abbrev pub StaysUnchanged : MutBor Held → Fml
  StaysUnchanged buffer =
      let row = the_row A g in
      follows_so row row buffer.ghost_name none (λ _ _. ⊤) (λ after. after ≡ buffer.now)

  -- the ring is as it was before the call
  abbrev pub RingStays : MutBor (Buffer ℕ) → Fml
  RingStays ring =
      let row = ring_contracts.the_row u8 A g in
      follows_so row row ring.ghost_name none (λ _ _. ⊤) (λ after. after ≡ ring.now)

  -- the ring holds the bytes that were last behind the reference
  abbrev pub LendsBytes : MutBor (Buffer ℕ) → MutBor (List ℕ) → Fml
  LendsBytes ring r = lends_items u8 A g ring r
