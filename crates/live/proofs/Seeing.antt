-- What a look at one id of the table finds.
use Rattle.std.proofs.Common.{◌≡◌, ◌==◌, ℕ, ◌<◌, List, [], ◌∷◌, ◌++◌, Some, None, map, take, length, refl, sym, ap, subst, ◌∙◌, append-nil, Bool, true, false, slice_set, arith}
use Rattle.std.proofs.lemmas.Bool.{false≢true}
use Rattle.std.specs.List.{AllByRecursion, flat_map}
use Rattle.acts.specs.declared.id.Id.{Id}
use Rattle.acts.specs.declared.row.Row.{Row}
use Rattle.acts.specs.Deed.{Reply}
use Rattle.acts.specs.Deed as said
use Rattle.live.specs.Arriving.{IsQuiet, IsRead, Sees}
use Rattle.live.specs.Calls.{Call, Got, Made, Read, bytes_of, is_read}
use Rattle.live.specs.Early.{Exchanges, HandsOn, LooksEarly}
use Rattle.live.specs.Kept.{Trades, kept_of, only}
use Rattle.live.specs.Look.{Finds, IsEnd, found_bytes}
use Rattle.live.specs.declared.link.Look.{Look}
use Rattle.live.specs.declared.link.Look.TheVariants.{Bytes, Silence, End}
use Rattle.live.specs.declared.peers.Peer.{Peer}
use Rattle.live.proofs.Chains.{map_then}
use Rattle.live.proofs.Exchanging.{reads_exchange}
use Rattle.live.proofs.Looking.{found_is}
use Rattle.live.proofs.Silence.{reads_all, reads_quiet, reads_some}
use Rattle.live.proofs.Table.{IsAt, at_set, kept_at, none_either, trades_at, whose_at}

-- the end that a look found: nothing is kept, and the last read found it
abbrev pub EndsAt : Id → Look → List Call → List ℕ → Type 0
EndsAt id found calls rest = (found ≡ End) →
    (rest ≡ [])
    × ((front : List Call) × (got : Got) × IsEnd got × (calls ≡ front ++ Read id got ∷ []))

unfoldable is_end : Look → Bool
is_end (Bytes count) = false
is_end Silence = false
is_end End = true

-- a look that found bytes or silence found no end
not_end : (count : ℕ) → Bytes count ≡ End → ⊥
unfolding is_end
not_end count end = false≢true (ap is_end end)

silence_not_end : Silence ≡ End → ⊥
unfolding is_end
silence_not_end end = false≢true (ap is_end end)

end_found : (id : Id) (gots : List Got) (found : Look) (room rest : List ℕ) → rest ≡ [] →
    Finds gots found room → EndsAt id found (map (Read id) gots) rest
end_found id gots (Bytes count) room rest none finds = λ end. absurd (not_end count end)
end_found id gots Silence room rest none finds = λ end. absurd (silence_not_end end)
end_found id gots End room rest none (tries, last, nothing, ended, is) = λ end. (
  none,
  (
    map (Read id) tries,
    last,
    ended,
    ap (map (Read id)) is ∙ map_then (Read id) tries (last ∷ []),
  ),
)

-- all that is read is handed on
handed_all : (id : Id) (kept rest : List ℕ) (gots : List Got) (bytes : List ℕ) →
    flat_map bytes_of gots ≡ bytes → rest ≡ [] →
    Exchanges id kept (map (Read id) gots) [] (kept ++ bytes) rest
handed_all id kept rest gots bytes is none =
    let it = reads_exchange id kept gots in
    record {
      own = it.own ∙ ap (λ more. kept ++ more) is ∙ sym (append-nil (kept ++ bytes))
          ∙ ap (λ more. (kept ++ bytes) ++ more) (sym none);
      out = it.out;
      elsewhere = it.elsewhere;
    }

-- what was kept is handed on, but for a rest
handed_kept : (id : Id) (kept rest front : List ℕ) → kept ≡ front ++ rest →
    Exchanges id kept [] [] front rest
handed_kept id kept rest front split =
    record { own = append-nil kept ∙ split; out = refl; elsewhere = λ other differs. (refl, refl) }

-- the silence that a look found: its reads gave nothing, and there was one, where there is room and
-- nothing is kept
abbrev pub QuietAt : Id → Look → (room rest : List ℕ) → List Call → Type 0
QuietAt id found room rest calls = (found ≡ Silence) → AllByRecursion IsQuiet calls
    × (0 < length room → rest ≡ [] → is_read id calls ≡ true)

unfoldable is_silence : Look → Bool
is_silence (Bytes count) = false
is_silence Silence = true
is_silence End = false

-- a look that found bytes or an end found no silence
bytes_not_silence : (count : ℕ) → Bytes count ≡ Silence → ⊥
unfolding is_silence
bytes_not_silence count is = false≢true (ap is_silence is)

end_not_silence : End ≡ Silence → ⊥
unfolding is_silence
end_not_silence is = false≢true (ap is_silence is)

-- the bytes that are kept are some
some_kept : (byte : ℕ) (kept : List ℕ) → byte ∷ kept ≡ [] → ⊥
some_kept byte kept none = let long = ap length none in omega arith

quiet_found : (id : Id) (gots : List Got) (found : Look) (room rest : List ℕ) →
    Finds gots found room → QuietAt id found room rest (map (Read id) gots)
quiet_found id gots (Bytes count) room rest finds = λ is. absurd (bytes_not_silence count is)
quiet_found id gots End room rest finds = λ is. absurd (end_not_silence is)
quiet_found id gots Silence room rest (nothing, some) = λ is. (
  reads_quiet id gots nothing,
  λ has none. reads_some id gots (some has),
)

-- what a look at a link hands on, of what was kept or of what it reads
pub look_exchanges : {S : Type 0} (step : S → Call → S → Type 0) (id : Id) (a b : S)
    (kept rest : List ℕ) (found : Look) (room : List ℕ) → HandsOn kept rest found room →
    LooksEarly step id kept a found room b →
    (calls : List Call) × Made step a calls b
    × Exchanges id kept calls [] (found_bytes found room) rest × EndsAt id found calls rest
    × AllByRecursion IsRead calls × QuietAt id found room rest calls
look_exchanges step id a b [] rest found room none (gots, made, finds) = (
  map (Read id) gots,
  made,
  handed_all id [] rest gots (found_bytes found room) (found_is gots found room finds) none,
  end_found id gots found room rest none finds,
  reads_all id gots,
  quiet_found id gots found room rest finds,
)
look_exchanges step id a b (byte ∷ kept) rest (Bytes count) room split same = (
  [],
  same,
  handed_kept id (byte ∷ kept) rest (take count room) split,
  λ end. absurd (not_end count end),
  tt,
  λ is. absurd (bytes_not_silence count is),
)
look_exchanges step id a b (byte ∷ kept) rest Silence room split same = (
  [],
  same,
  handed_kept id (byte ∷ kept) rest [] split,
  λ end. absurd (silence_not_end end),
  tt,
  λ is. (tt, λ has none. absurd (some_kept byte kept (split ∙ none))),
)
look_exchanges step id a b (byte ∷ kept) rest End room split same = absurd split

-- what is traded with no text
untexted : (id : Id) (kept : Id → List ℕ) (calls : List Call) (on left : Id → List ℕ) →
    Trades kept calls (only id []) on left → Trades kept calls (λ other. []) on left
untexted id kept calls on left trades other =
    ((trades other).0, (trades other).1 ∙ sym (none_either [] (id.0 == other.0)))

-- and where nothing is handed on
unhanded : (id : Id) (kept : Id → List ℕ) (calls : List Call) (left : Id → List ℕ) →
    Trades kept calls (λ other. []) (only id []) left →
    Trades kept calls (λ other. []) (λ other. []) left
unhanded id kept calls left trades other = (
  (trades other).0 ∙ ap (λ none. none ++ left other) (sym (none_either [] (id.0 == other.0))),
  (trades other).1,
)

-- what a look answers at the id of a row, whose link stands at this place: silence
pub looked_silent : {S L : Type 0} (step : S → Call → S → Type 0) (owner : L → Id) (ids : List Id)
    (row : Row) (a b : S) (list : List (Peer L)) (place : ℕ) (peer new : Peer L)
    (room : List ℕ) → IsAt owner row.id list place peer → owner new.link ≡ owner peer.link →
    HandsOn peer.early.items new.early.items Silence room →
    LooksEarly step (owner peer.link) peer.early.items a Silence room b →
    (0 < length room → new.early.items ≡ []) → (0 < row.want → 0 < length room) →
    Sees step a ids (row ∷ []) (kept_of owner list) None
    (kept_of owner (slice_set list place new)) b
looked_silent step owner ids row a b list place peer new room at whose early looks none has =
    let (calls, made, it, ends, reads, quiet) =
    look_exchanges step _ a b _ _ Silence room early looks in
    let (gave, read) = quiet refl in
    let kept = kept_of owner list in
    let left = kept_of owner (slice_set list place new) in
    let trades = trades_at owner row.id list place peer new calls [] [] at whose it in (
      calls,
      made,
      unhanded row.id kept calls left (untexted row.id kept calls (only row.id []) left trades),
      tt,
      reads,
      (
        gave,
        (
          λ among wants. (
            kept_at owner row.id _ place new (at_set owner row.id list place peer new whose at)
                ∙ none (has wants),
            subst (λ id. is_read id calls ≡ true) (whose_at owner row.id list place peer at)
                (read (has wants) (none (has wants))),
          ),
          tt,
        ),
      ),
    )

-- an end
pub looked_end : {S L : Type 0} (step : S → Call → S → Type 0) (owner : L → Id) (ids : List Id)
    (rows : List Row) (id : Id) (a b : S) (list : List (Peer L)) (place : ℕ) (peer new : Peer L)
    (room : List ℕ) → IsAt owner id list place peer → owner new.link ≡ owner peer.link →
    HandsOn peer.early.items new.early.items End room →
    LooksEarly step (owner peer.link) peer.early.items a End room b →
    Sees step a ids rows (kept_of owner list) (Some (said.Ended id))
    (kept_of owner (slice_set list place new)) b
looked_end step owner ids rows id a b list place peer new room at whose early looks =
    let (calls, made, it, ends, reads, quiet) =
    look_exchanges step _ a b _ _ End room early looks in
    let kept = kept_of owner list in
    let left = kept_of owner (slice_set list place new) in
    let trades = trades_at owner id list place peer new calls [] [] at whose it in
    let (none, (front, got, ended, is)) = ends refl in (
      calls,
      made,
      unhanded id kept calls left (untexted id kept calls (only id []) left trades),
      (
        kept_at owner id _ place new (at_set owner id list place peer new whose at) ∙ none,
        (
          front,
          got,
          ended,
          is ∙ ap (λ from. front ++ Read from got ∷ []) (whose_at owner id list place peer at),
        ),
      ),
      reads,
      tt,
    )

-- bytes, which are copied from the room
pub looked_bytes : {S L : Type 0} (step : S → Call → S → Type 0) (owner : L → Id) (ids : List Id)
    (rows : List Row) (id : Id) (a b : S) (list : List (Peer L)) (place : ℕ) (peer new : Peer L)
    (count : ℕ) (room bytes : List ℕ) → bytes ≡ take count room → IsAt owner id list place peer →
    owner new.link ≡ owner peer.link →
    HandsOn peer.early.items new.early.items (Bytes count) room →
    LooksEarly step (owner peer.link) peer.early.items a (Bytes count) room b →
    Sees step a ids rows (kept_of owner list) (Some (said.Arrive id bytes))
    (kept_of owner (slice_set list place new)) b
looked_bytes step owner ids rows id a b list place peer new count room bytes copied at whose early
    looks =
    let (calls, made, it, ends, reads, quiet) =
    look_exchanges step _ a b _ _ (Bytes count) room early looks in
    let left = kept_of owner (slice_set list place new) in
    let trades = trades_at owner id list place peer new calls [] (take count room) at whose it in
    subst (λ items. Sees step a ids rows (kept_of owner list) (Some (said.Arrive id items)) left b)
    (sym copied) (
      calls,
      made,
      untexted id (kept_of owner list) calls (only id (take count room)) left trades,
      tt,
      reads,
      tt,
    )
