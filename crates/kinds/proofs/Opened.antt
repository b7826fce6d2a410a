-- What there is to be closed once something was opened.
use Rattle.std.proofs.Common.{◌≡◌, ◌+◌, ◌≤◌, Bool, true, false, List, [], ◌∷◌, ◌++◌, length, if◌then◌else◌, refl, arith}
use Rattle.state.specs.Prelude.{Peer, worth, Status}
use Rattle.choices.specs.Peers.{fresh, opened}
use Rattle.kinds.specs.Edits.{Opening, OpensId, OpensLog, opened_by}

count_more : (p : Peer) (ps : List Peer) → p.is_open ≡ true →
    length (opened (ps ++ p ∷ [])) ≡ length (opened ps) + 1
count_more p [] is = rw is refl
count_more p (q ∷ ps) is = by q.is_open (count_more p ps is)
  where
    by : (b : Bool) → length (opened (ps ++ p ∷ [])) ≡ length (opened ps) + 1 →
        length (if b then q ∷ opened (ps ++ p ∷ []) else opened (ps ++ p ∷ []))
        ≡ length (if b then q ∷ opened ps else opened ps) + 1
    by true rest = omega (arith, rest)
    by false rest = rest

-- one act more closes what was opened
pub worth_opened : (opening : Opening) (s : Status) → worth (opened_by opening s) ≤ worth s + 1
worth_opened (OpensId i kind) s =
    let more = count_more (fresh i kind s.ids.size s.ids.drops_nulls) s.ids.peers refl in
    omega (arith, more)
worth_opened (OpensLog all) s = omega arith
